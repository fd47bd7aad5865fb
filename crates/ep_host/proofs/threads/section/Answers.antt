use Rattle.std.proofs.Common.{rules, ◌≡◌, ◌∙◌, List, length, ap, subst, sym}
use Rattle.std.proofs.lemmas.List.{with_items_is}
use Rattle.ep_host.specs.Follows.{Follows, Runs}
use Rattle.ep_host.specs.Host.{IsHost, AllBegin, AllFrom}
use Rattle.ep_host.specs.Node.{Node}
use Rattle.ep_host.specs.Pointwise.{Each}
use Rattle.ep_host.specs.Turned.{IsTurned}
use Rattle.ep_host.proofs.Looks.{host_ran, all_passed}
use Rattle.ep_host.proofs.Places.{each_weaker}
use Rattle.ep_host.proofs.threads.section.Goals as goal
use Rattle.ep_host.proofs.threads.section.Goals.{in-Some, in-None}

pub turn_each-requires-clause-host : goal.turn_each-requires-clause-host
turn_each-requires-clause-host g c = λ κs lives. let r = c.requires.host in (r.0, subst (λ (l : List Node). IsHost r.0 l) (sym c.as_mut_slice.ensures.value) r.1)

pub returns-clause-host : goal.returns-clause-host
returns-clause-host g c = λ f host.
    let e = with_items_is c.args.nodes c.turn_each.new.nodes (search rules) in
    subst (λ (l : List Node). IsHost f l) (sym e)
    (host_ran f c.args.nodes.items c.turn_each.new.nodes (subst (λ (l : List Node). Each Runs l c.turn_each.new.nodes) c.as_mut_slice.ensures.value c.turn_each.ensures.runs) host)

pub returns-clause-turns : goal.returns-clause-turns
returns-clause-turns g c =
    let e = with_items_is c.args.nodes c.turn_each.new.nodes (search rules) in
    subst (λ (l : List Node). Each (IsTurned c.args.turns) c.args.nodes.items l) (sym e) (subst (λ (l : List Node). Each (IsTurned c.args.turns) l c.turn_each.new.nodes) c.as_mut_slice.ensures.value c.turn_each.ensures.turns)

pub returns-clause-begins : goal.returns-clause-begins
returns-clause-begins g c = let e = with_items_is c.args.nodes c.turn_each.new.nodes (search rules) in subst (λ (l : List Node). AllBegin l) (sym e) c.turn_each.ensures.begins

pub returns-clause-from : goal.returns-clause-from
returns-clause-from g c = let e = with_items_is c.args.nodes c.turn_each.new.nodes (search rules) in subst (λ (l : List Node). AllFrom l) (sym e) c.turn_each.ensures.from

pub returns-clause-passed : goal.returns-clause-passed
returns-clause-passed g c =
    let e = with_items_is c.args.nodes c.turn_each.new.nodes (search rules) in
    let seen : c.as_slice.result.now ≡ c.turn_each.new.nodes = c.as_slice.ensures.value ∙ e in
    let len : length c.turn_each.new.nodes ≡ length c.args.nodes.items = c.turn_each.ensures.runs.len ∙ ap (length {A = Node}) c.as_mut_slice.ensures.value in
    elim c.match-first_unended.branch [
      | in-Some w ↦ rw w.result-is tt
      | in-None w ↦ rw w.result-is (all_passed (g.G.Gate.lets c.args.gate.now) c.as_slice.result.now c.turn_each.new.nodes c.args.nodes.items seen len w.in-None.ensures.none c.turn_each.ensures.gate)
    ]
