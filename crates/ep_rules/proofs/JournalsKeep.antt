-- What a replica has committed it keeps, along its own entries.
use Rattle.std.proofs.Common.{◌≡◌, ℕ, true, Option, Some, None, Result, Ok, Err, List, [], ◌∷◌, ◌++◌, inl, inr, refl, sym, ap, subst, ◌∙◌}
use Rattle.std.proofs.lemmas.Bool.{cases_eq}
use Rattle.ep_base.specs.declared.decree.Decree.{Decree}
use Rattle.ep_base.specs.declared.reply.Answer.{Answer}
use Rattle.ep_rules.specs.Cells.{Change, Refusal, is_committed, committed_decree, record_or_fresh}
use Rattle.ep_rules.specs.States.{State, fresh_state, record_in, with_entry, committed_in}
use Rattle.ep_rules.specs.Steps.{Event, acts, changed_by, leaves}
use Rattle.ep_rules.specs.Journals.{Entry, left}
use Rattle.ep_rules.specs.Merging.{JournalsKeep}
use Rattle.ep_rules.specs.declared.record.Record.{Record}
use Rattle.ep_rules.proofs.Lookups.{insert_same, insert_other}
use Rattle.ep_rules.proofs.Local.{SameVote, LocalAct, local_acts}
use Rattle.ep_rules.proofs.Permanence.{committed_vote}

-- the records with that one put in for n's
entry_stays : (s : State) (n : ℕ) (o : Option Record) → (is_committed (record_in s n).vote ≡ true → SameVote (record_in s n) o) → (i : ℕ) (x : Decree) → committed_in s.records i ≡ Some x → committed_in (with_entry s.records n o) i ≡ Some x
entry_stays s n None stays i x e = e
entry_stays s n (Some y) stays i x e = elim (cases_eq i n) [
  | inl is ↦ (
      let was : committed_decree (record_in s n).vote ≡ Some x = subst (λ j. committed_in s.records j ≡ Some x) is e in
      let now : committed_in (with_entry s.records n (Some y)) n ≡ Some x =
      ap (λ r. committed_decree (record_or_fresh n r).vote) (insert_same s.records n y) ∙ ap committed_decree (stays (committed_vote (record_in s n).vote x was)) ∙ was in
      subst (λ j. committed_in (with_entry s.records n (Some y)) j ≡ Some x) (sym is) now)
  | inr ne ↦ ap (λ r. committed_decree (record_or_fresh i r).vote) (insert_other s.records n y i ne) ∙ e
]

pub changed_stays : (s : State) (o : Result (ℕ × Change) Refusal) → LocalAct s o → (i : ℕ) (x : Decree) → committed_in s.records i ≡ Some x → committed_in (changed_by s o).records i ≡ Some x
changed_stays s (Ok p) own i x e = entry_stays s p.0 p.1.entry own.stays i x e
changed_stays s (Err why) own i x e = e

pub leaves_stays : (f me : ℕ) (s : State) (e : Event) (done : List (ℕ × Answer)) (i : ℕ) (x : Decree) → committed_in s.records i ≡ Some x → committed_in (leaves f me s e done).records i ≡ Some x
leaves_stays f me s e done i x h = changed_stays s (acts f me s e) (local_acts f me s e) i x h

pub left_stays : (f me : ℕ) (s : State) (es : List Entry) (i : ℕ) (x : Decree) → committed_in s.records i ≡ Some x → committed_in (left f me s es).records i ≡ Some x
left_stays f me s [] i x h = h
left_stays f me s (e ∷ es) i x h = left_stays f me (leaves f me s e.event e.done) es i x (leaves_stays f me s e.event e.done i x h)

pub left_parts : (f me : ℕ) (s : State) (xs ys : List Entry) → left f me s (xs ++ ys) ≡ left f me (left f me s xs) ys
left_parts f me s [] ys = refl
left_parts f me s (x ∷ xs) ys = left_parts f me (leaves f me s x.event x.done) xs ys

pub journals_keep_lem : JournalsKeep
journals_keep_lem base f me before rest i x h = ap (λ (s : State). committed_in s.records i) (left_parts f me (fresh_state base) before rest) ∙ left_stays f me (left f me (fresh_state base) before) rest i x h
