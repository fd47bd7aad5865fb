-- A look finds each record whose command interferes.
use Rattle.std.proofs.Common.{◌≡◌, ℕ, Bool, true, false, cond, not, eqb, Option, Some, None, List, [], ◌∷◌, refl, sym, ap, ◌∙◌}
use Rattle.std.proofs.lemmas.Bool.{and_from, eqb-true, ne_eqb, false≢true}
use Rattle.std.specs.Cmp.{unsigned_tied}
use Rattle.std.specs.FinMap.{find, get-entries}
use Rattle.std.specs.Ordering.{nat_cmp, eq_by_cmp}
use Rattle.ep_base.specs.Commands.{Command}
use Rattle.ep_base.specs.Interference.{interfere}
use Rattle.ep_base.specs.Places.{Has}
use Rattle.ep_base.specs.declared.vote.Vote.{Vote}
use Rattle.ep_base.proofs.Places.{Has-head, Has-tail}
use Rattle.ep_rules.specs.Cells.{record_or_fresh}
use Rattle.ep_rules.specs.InterferenceSet.{votes_against, touches, those, instances}
use Rattle.ep_rules.specs.Maps.{Map, get, entries}
use Rattle.ep_rules.specs.States.{State, record_in}
use Rattle.ep_rules.specs.declared.record.Record.{Record}
use Rattle.ep_laws.specs.Reads.{found}

same_number : (q k : ℕ) → eq_by_cmp nat_cmp q k ≡ true → q ≡ k
same_number q k e = eqb-true q k (sym (unsigned_tied q k) ∙ e)

-- an entry that passes is among those that pass
among : (i : ℕ) (p : ℕ × Record → Bool) (r : Record) (es : List (ℕ × Record)) → find nat_cmp i es ≡ Some r → p (i, r) ≡ true → Has (instances (those p es)) i
among i p r [] e t = absurd (cc)
among i p r (c ∷ es) e t = go (eq_by_cmp nat_cmp i c.0) (p c) refl refl e (λ g. among i p r es g t)
  where
    go : (a u : Bool) → eq_by_cmp nat_cmp i c.0 ≡ a → p c ≡ u → cond a (Some c.1) (find nat_cmp i es) ≡ Some r →
        (find nat_cmp i es ≡ Some r → Has (instances (those p es)) i) → Has (instances (cond u (c ∷ those p es) (those p es))) i
    go true true at pc is rec = Has-head c.0 (instances (those p es)) i (sym (same_number i c.0 at))
    go true false at pc is rec = absurd (let same : c.1 ≡ r = cc in false≢true (sym pc ∙ ap (λ k. p (k, c.1)) (sym (same_number i c.0 at)) ∙ ap (λ x. p (i, x)) same ∙ t))
    go false true at pc is rec = Has-tail c.0 (instances (those p es)) i (rec is)
    go false false at pc is rec = rec is

in_records : (i : ℕ) (c : Command) (records : Map Record) (o : Option Record) (v : Vote) → get records i ≡ o → (i ≡ 0 → ⊥) → (record_or_fresh i o).vote ≡ Some v → interfere c v.decree.command ≡ true →
    Has (instances (those (touches c 0) (entries records))) i
in_records i c records None v e ne is meets = absurd (cc)
in_records i c records (Some r) v e ne is meets =
    among i (touches c 0) r (entries records) (sym (get-entries records i) ∙ e) (and_from (not (eqb i 0)) (votes_against c r.vote) (ap not (ne_eqb i 0 ne)) (ap (votes_against c) is ∙ meets))

-- a look finds each instance in whose record there is a vote for a command that interferes
pub is_found : (s : State) (c : Command) (i : ℕ) (v : Vote) → (i ≡ 0 → ⊥) → (record_in s i).vote ≡ Some v → interfere c v.decree.command ≡ true → Has (found s c) i
is_found s c i v ne is meets = in_records i c s.records (get s.records i) v refl ne is meets
