use Rattle.std.proofs.Common.{get_or, set, refl, subst}
use Rattle.std.proofs.lemmas.List.{get_or_default}
use Rattle.std.proofs.lemmas.Result.{IfOk-weaker}
use Rattle.ep_host.specs.Node.{Node}
use Rattle.ep_host.specs.Turns.{Assigns, AssignsAt}
use Rattle.ep_host.proofs.Hosts.{host_reported}
use Rattle.ep_host.proofs.ring_host.RingHost.assign.Goals as goal

pub returns-clause-host : goal.returns-clause-host
returns-clause-host c = λ f host. host_reported c.assign.result f c.args.nodes.now c.args.node c.assign.new.self c.index-nodes-node.result c.args.task c.requires c.assign.ensures.ok c.assign.ensures.err host

pub returns-clause-ok : goal.returns-clause-ok
returns-clause-ok c =
    let xs = c.args.nodes.now in let k = c.args.node in let b = c.index-nodes-node.result in let node = c.assign.new.self in let task = c.args.task in
    IfOk-weaker c.assign.result (λ _. Assigns (get_or xs k b) task node) (λ _. AssignsAt k task xs (set xs k node))
    (λ _ h. record {
      node = node;
      is = refl;
      assigned = λ d. subst (λ (n : Node). Assigns n task node) (get_or_default xs k b d c.requires) h;
    })
    c.assign.ensures.ok
