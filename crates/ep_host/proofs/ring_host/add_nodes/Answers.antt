use Rattle.std.proofs.Common.{rules, arith, ◌≡◌, ◌∙◌, ◌∷◌, [], ap, length, length-append, subst, sym, get_or}
use Rattle.std.proofs.Math.ListN.{length-set}
use Rattle.ep_base.specs.declared.version.Version.{Version}
use Rattle.ep_journal.specs.Openings.{Beginning, Opening}
use Rattle.ep_replica.specs.Kept.{Kept, start_of}
use Rattle.ep_host.specs.Joins.{CanJoin, Joins}
use Rattle.ep_host.specs.Node.{Node}
use Rattle.ep_host.proofs.Hosting.{linked_none, joined_none, can_join, joined_more, linked_more, linked_host, linked_fresh, linked_start}
use Rattle.ep_host.proofs.ring_host.add_nodes.Goals as goal

abbrev start : Beginning → Version × Opening
start b = (b.version, b.opening)

pub loop-number-init : goal.loop-number-init
loop-number-init c = record { linked = rw c.requires.none (linked_none c.args.capacity c.args.cluster (start c.args.beginning.now)); count = search rules }

pub loop-place-init : goal.loop-place-init
loop-place-init c =
    let f = c.args.cluster in let nodes = c.loop-number.nodes.items in let k : Kept = c.in_ok-replica.replica in
    let faults : k.faults ≡ f = search rules in
    let me : k.me ≡ length nodes = search (rules, c.loop-number.invariant.count) in
    let begins : start_of k ≡ start c.args.beginning.now = ap start_of c.in_ok-replica.ensures in
    let none : k.entries ≡ [] = search rules in record {
      joined = rw c.new-node.ensures (joined_none c.args.capacity f (start c.args.beginning.now) nodes k c.loop-number.invariant.linked faults me begins none);
      count = c.loop-number.invariant.count;
      end = search rules;
    }

pub join_nodes-requires : goal.join_nodes-requires
join_nodes-requires c =
    let h = c.loop-place.invariant in let nodes = c.loop-place.nodes.items in
    subst (λ (n : Node). CanJoin n c.loop-place.node) (sym c.index_mut.ensures.value)
    (can_join c.args.capacity c.args.cluster (start c.args.beginning.now) c.loop-place.place nodes c.loop-place.node c.index_mut.result.now h.joined (omega (arith, h.end)))

pub loop-place-preserved : goal.loop-place-preserved
loop-place-preserved c =
    let h = c.loop-place.invariant in let nodes = c.loop-place.nodes.items in let k = c.loop-place.place in
    let was = c.index_mut.result.now in let a = c.join_nodes.new.a in let b = c.join_nodes.new.b in
    let joins : Joins c.args.capacity (get_or nodes k was) c.loop-place.node a b = subst (λ (n : Node). Joins c.args.capacity n c.loop-place.node a b) c.index_mut.ensures.value c.in-Ok.ensures in record {
      joined = joined_more c.args.capacity c.args.cluster (start c.args.beginning.now) k nodes c.loop-place.node was a b h.joined (omega (arith, h.end)) joins;
      count = length-set nodes k a ∙ h.count;
      end = h.end ∙ sym (length-set nodes k a);
    }

pub loop-number-preserved : goal.loop-number-preserved
loop-number-preserved c =
    let h = c.loop-place.invariant in let nodes = c.loop-place.nodes.items in
    rw c.in_ok-push.ensures.items record {
      linked = linked_more c.args.capacity c.args.cluster (start c.args.beginning.now) c.loop-place.place nodes c.loop-place.node h.joined (omega (arith, h.end));
      count = (let e = h.count in omega (arith, e, length-append nodes (c.loop-place.node ∷ [])));
    }

pub returns-clause-host : goal.returns-clause-host
returns-clause-host c = linked_host c.args.capacity c.args.cluster (start c.args.beginning.now) c.loop-number.nodes.items c.loop-number.invariant.linked (search (rules, c.loop-number.invariant.count, c.count-number-end.ensures.value))

pub returns-clause-fresh : goal.returns-clause-fresh
returns-clause-fresh c = linked_fresh c.args.capacity c.args.cluster (start c.args.beginning.now) c.loop-number.nodes.items c.loop-number.invariant.linked

pub returns-clause-start : goal.returns-clause-start
returns-clause-start c = linked_start c.args.capacity c.args.cluster (start c.args.beginning.now) c.loop-number.nodes.items c.loop-number.invariant.linked
