-- An execution is screened as its root is led by a replica of the cluster, and waits only for what isn't committed.
use Rattle.std.proofs.Common.{◌≡◌, Bool, true, false, cond, Some, None, inl, inr, sym, ◌∙◌}
use Rattle.std.proofs.lemmas.Bool.{lt-ltb}
use Rattle.ep_base.specs.Instances.{leader_of}
use Rattle.ep_base.specs.Quorums.{size}
use Rattle.ep_rules.specs.Cells.{Refusal, OutOfRange, NotMine}
use Rattle.ep_laws.specs.Executing.{NothingWaits}

unscreened : (b : Bool) (why : Refusal) → b ≡ true → cond b (cond true None (Some NotMine)) (Some OutOfRange) ≡ Some why → ⊥
unscreened true why e h = absurd (cc)
unscreened false why e h = absurd (cc)

pub nothing_waits_lem : NothingWaits
nothing_waits_lem f me s root lead complete why (inl e) = unscreened _ why (lt-ltb (leader_of root) (size f) lead) e
nothing_waits_lem f me s root lead complete why (inr t) = elim t.1 [
  | inl e ↦ absurd (cc)
  | inr w ↦ (let blocked = w.2 in let there = complete w.0 blocked.reached in absurd (let e : None ≡ Some there.0 = sym blocked.missing ∙ there.1 in cc))
]
