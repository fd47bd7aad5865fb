use Rattle.std.proofs.Common.{arith, ◌≡◌, ℕ, ◌+◌, List, false, refl, subst}
use Rattle.ep_host.specs.Follows.{Settles, Rounds}
use Rattle.ep_host.specs.Node.{Node}
use Rattle.ep_host.specs.Pointwise.{Each}
use Rattle.ep_host.proofs.Following.{settles_none, settles_more, settles_all}
use Rattle.ep_host.proofs.Looks.{rounds_none, rounds_more, rounds_idle, rounds_all}
use Rattle.ep_host.proofs.Places.{each_self, each_each}
use Rattle.ep_host.proofs.settling.turn_all.Goals as goal

ended : (n m : ℕ) (xs ys zs : List Node) → Each (Settles n) xs ys → Each (Rounds false) ys zs → Each (Settles m) xs zs
ended n m xs ys zs h k = each_each (Settles n) (Rounds false) (Settles m) (λ a b c s r. settles_all n m a b c s (r.idle refl m)) xs ys zs h k

pub loop-done-init : goal.loop-done-init
loop-done-init c = record { settles = each_self (Settles 0) c.args.nodes.now settles_none; rounds = rounds_none c.args.rounds c.args.nodes.now }

pub loop-done-preserved : goal.loop-done-preserved
loop-done-preserved c = let i = c.loop-done.invariant in record {
  settles = each_each (Settles c.loop-done._done) (Rounds c.round.result) (Settles (c.loop-done._done + 1)) (λ a b d s r. settles_more c.loop-done._done a b d s r.turn) c.args.nodes.now c.loop-done.nodes c.round.new.nodes i.settles c.round.ensures.rounds;
  rounds = rounds_more c.loop-done._done c.args.rounds c.args.nodes.now c.loop-done.nodes c.round.new.nodes i.rounds c.if-not-round.ensures.turns;
}

pub returns-then-not-round-clause-nodes : goal.returns-then-not-round-clause-nodes
returns-then-not-round-clause-nodes c = ended c.loop-done._done c.args.rounds c.args.nodes.now c.loop-done.nodes c.round.new.nodes c.loop-done.invariant.settles c.if-not-round.ensures.rounds

pub returns-then-not-round-clause-rounds : goal.returns-then-not-round-clause-rounds
returns-then-not-round-clause-rounds c = rounds_idle c.loop-done._done c.args.rounds c.args.nodes.now c.loop-done.nodes c.round.new.nodes c.loop-done.invariant.rounds (omega arith) c.if-not-round.ensures.turns

pub returns-clause-nodes : goal.returns-clause-nodes
returns-clause-nodes c = let at : c.loop-done._done ≡ c.args.rounds = omega arith in subst (λ (n : ℕ). Each (Settles n) c.args.nodes.now c.loop-done.nodes) at c.loop-done.invariant.settles

pub returns-clause-rounds : goal.returns-clause-rounds
returns-clause-rounds c = rounds_all c.loop-done._done c.args.rounds c.args.nodes.now c.loop-done.nodes c.loop-done.invariant.rounds (omega arith)
