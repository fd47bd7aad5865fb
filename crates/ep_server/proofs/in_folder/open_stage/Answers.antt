use Rattle.ep_server.proofs.InFolders.{left_as, of_file}
use Rattle.ep_server.proofs.in_folder.open_stage.Goals as goal

pub returns-in-Ok-clause-ok : goal.returns-in-Ok-clause-ok
returns-in-Ok-clause-ok g c =
    left_as _ c.leaving.result c.in-Ok.node c.leaving.ensures.ok c.in-Ok.ensures.ok.0
    (of_file c.args.stage.named _ _ _ _ c.in-Ok.node c.requires c.in_ok-whose.ensures.cluster c.in_ok-whose.ensures.me c.in_ok-whose.ensures.origin c.in-Ok.ensures.ok.1 c.in-Ok.ensures.ok.2 c.in-Ok.ensures.origin)
