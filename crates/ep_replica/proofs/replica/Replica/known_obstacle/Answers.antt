use Rattle.std.proofs.Common.{◌≡◌, Some, IfSome, rules, subst, List, ℕ}
use Rattle.ep_base.specs.Places.{Has}
use Rattle.ep_rules.specs.States.{graph_in}
use Rattle.ep_replica.specs.Blockers.{IsBlockedBy}
use Rattle.ep_replica.specs.Pending.{state_of}
use Rattle.ep_replica.proofs.Trying.{blocked_on}
use Rattle.ep_replica.proofs.replica.Replica.known_obstacle.Goals as goal

pub returns : goal.returns
returns c =
    let k = c.args.self.now in
    let a = c.in_ok-decree.decree.now.attrs in
    let at : graph_in (state_of k).records c.args.instance ≡ Some a = search rules in
    blocked_on k c.args.instance a c.blocker_among.result at (subst (λ (ds : List ℕ). IfSome c.blocker_among.result (λ j. (i : ℕ) × Has ds i × IsBlockedBy k i j)) c.as_slice.ensures.value c.blocker_among.ensures)
