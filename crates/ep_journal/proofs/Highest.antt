-- What is recorded has a number up to one above which nothing is recorded.
use Rattle.std.proofs.Common.{◌≡◌, ℕ, ◌<◌, ◌≤◌, inl, inr, Option, Some, None, refl, sym, ◌∙◌, arith}
use Rattle.std.proofs.lemmas.Bool.{cases_lt}
use Rattle.ep_base.specs.Instances.{number_of, IsInstance}
use Rattle.ep_rules.specs.Maps.{Map, get}
use Rattle.ep_rules.specs.declared.record.Record.{Record}
use Rattle.ep_journal.specs.Leaving.{AreNamed}
use Rattle.ep_journal.specs.Standing.{Standing}

pub all_below : (s : Standing) (h : ℕ) → AreNamed s → s.faults ≤ 3 → ((i : ℕ) → IsInstance i → h < number_of i → get s.state.records i ≡ None) → (i : ℕ) (r : Record) → get s.state.records i ≡ Some r → number_of i ≤ h
all_below s h named few none i r is =
    let n = named i r is in
    elim (cases_lt h (number_of i)) [
      | inl past ↦ absurd (let e : None ≡ Some r = sym (none i ((let low = n.0 in omega (arith, low, few)), n.1, n.2) past) ∙ is in cc)
      | inr le ↦ le
    ]

pub none_above : (m : Map Record) (h i : ℕ) → ((j : ℕ) (r : Record) → get m j ≡ Some r → number_of j ≤ h) → h < number_of i → get m i ≡ None
none_above m h i all past = go (get m i) refl
  where
    go : (o : Option Record) → get m i ≡ o → get m i ≡ None
    go None e = e
    go (Some r) e = absurd (let le = all i r e in omega (arith, le, past))
