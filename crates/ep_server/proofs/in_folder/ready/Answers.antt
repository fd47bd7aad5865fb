use Rattle.ep_server.proofs.InFolders.{both_cuts, one_cut, sized_as}
use Rattle.ep_server.proofs.in_folder.ready.Goals as goal

pub returns-in-Ok-Some-clause-reported : goal.returns-in-Ok-Some-clause-reported
returns-in-Ok-Some-clause-reported g c = both_cuts _ _ _ _ _ _ c.open_stage.ensures.reported c.ready_next.ensures.reported

pub returns-in-Ok-None-clause-reported : goal.returns-in-Ok-None-clause-reported
returns-in-Ok-None-clause-reported g c = one_cut _ _ _ _ c.open_stage.ensures.reported

pub returns-in-Err-clause-reported : goal.returns-in-Err-clause-reported
returns-in-Err-clause-reported g c = one_cut _ _ _ _ c.open_stage.ensures.reported

pub returns-in-Ok-None-clause-ok : goal.returns-in-Ok-None-clause-ok
returns-in-Ok-None-clause-ok g c =
    sized_as c.args.options.now.size c.args.options.now.me c.of_size.result c.in_ok-node.node c.of_size.ensures.ok c.in_ok-node.ensures.ok.0 c.in_ok-node.ensures.ok.1
