use Rattle.std.proofs.Common.{inl, inr}
use Rattle.std.proofs.lemmas.Bool.{cases_lt}
use Rattle.ep_replica.proofs.blockers.wake_within.Goals as goal

pub returns-clause-others : goal.returns-clause-others
returns-clause-others c = λ n out. elim (cases_lt n c.args.span.first) [
  | inl low ↦ c.loop-number.invariant.woken.before n low
  | inr le ↦ elim (cases_lt n c.loop-number.number) [
    | inl low ↦ (let top = c.loop-number.invariant.top n le low in absurd (out ((le, top.0), top.1)))
    | inr past ↦ c.loop-number.invariant.woken.rest n past
  ]
]
