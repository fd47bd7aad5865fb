use Rattle.ep_server.proofs.InFolders.{sized_as, sized_begins}
use Rattle.ep_server.proofs.in_folder.ready_next.Goals as goal

pub returns-clause-ok : goal.returns-clause-ok
returns-clause-ok g c =
    sized_as c.args.options.now.size c.args.options.now.me c.of_size.result c.in_ok-node.node c.of_size.ensures.ok c.in_ok-node.ensures.ok.0 c.in_ok-node.ensures.ok.1

pub returns-clause-origin : goal.returns-clause-origin
returns-clause-origin g c =
    sized_begins c.args.options.now.size c.of_size.result c.in_ok-node.node c.in_ok-stage.stage.named c.args.file c.of_size.ensures.ok c.in_ok-stage.ensures.file c.in_ok-stage.ensures.digest
    c.in_ok-node.ensures.origin
