-- What is committed stays so, in any world.
use Rattle.std.proofs.Common.{◌≡◌, ℕ, true, Option, Some, None, Ok, [], ◌∷◌, refl, sym, ap, subst, ◌∙◌, inl, inr}
use Rattle.std.proofs.lemmas.Bool.{cases_eq}
use Rattle.ep_base.specs.declared.decree.Decree.{Decree}
use Rattle.ep_base.specs.declared.vote.VoteStatus.{VoteStatus}
use Rattle.ep_base.specs.declared.vote.VoteStatus.TheVariants.{PreAccepted, Accepted, Committed}
use Rattle.ep_base.specs.declared.vote.Vote.{Vote}
use Rattle.ep_rules.specs.Cells.{is_commit, is_committed, committed_at, committed_decree, record_or_fresh, Change, Cell}
use Rattle.ep_rules.specs.Safety.{Permanence}
use Rattle.ep_rules.specs.States.{cell_in}
use Rattle.ep_rules.specs.Steps.{acts}
use Rattle.ep_rules.specs.Worlds.{World, Act, Happens, moved, Committed as IsCommitted}
use Rattle.ep_rules.specs.declared.record.Record.{Record}
use Rattle.ep_rules.proofs.Keeping.{newer_entry, applied, record_of}
use Rattle.ep_rules.proofs.Local.{SameVote, Local, LocalAct, local_acts}
use Rattle.ep_rules.proofs.Moves.{Moved, moves, taken_of}

pub committed_status : (s : VoteStatus) (y x : Decree) → committed_at s y ≡ Some x → is_commit s ≡ true
committed_status PreAccepted y x e = absurd (cc)
committed_status Accepted y x e = absurd (cc)
committed_status Committed y x e = refl

pub committed_vote : (v : Option Vote) (x : Decree) → committed_decree v ≡ Some x → is_committed v ≡ true
committed_vote None x e = absurd (cc)
committed_vote (Some v) x e = committed_status v.status v.decree x e

same_vote : (i : ℕ) (e o : Option Record) → SameVote (record_or_fresh i e) o → (record_or_fresh i (newer_entry o e)).vote ≡ (record_or_fresh i e).vote
same_vote i e None same = refl
same_vote i e (Some y) same = same

-- what the cell has as committed
abbrev pub decree_of : ℕ → Cell → Option Decree
decree_of i c = committed_decree (record_of i c).vote

pub cell_stays : (i : ℕ) (c : Cell) (ch : Change) (x : Decree) → Local i (record_of i c) ch → decree_of i c ≡ Some x → decree_of i (applied c ch) ≡ Some x
cell_stays i c ch x p e = ap committed_decree (same_vote i c.entry ch.entry (p.stays (committed_vote (record_of i c).vote x e))) ∙ e

world_stays : (w w' : World) (r n : ℕ) (ch : Change) → Moved w w' r n ch → Local n (record_of n (cell_in (w.states r) n)) ch → (k i : ℕ) (x : Decree) → IsCommitted w k i x → IsCommitted w' k i x
world_stays w w' r n ch m p k i x e = elim (cases_eq i n) [
  | inl is ↦ (elim (cases_eq k r) [
    | inl at ↦ (
        let was : decree_of n (cell_in (w.states r) n) ≡ Some x = subst (λ q. decree_of n (cell_in (w.states q) n) ≡ Some x) at (subst (λ j. decree_of j (cell_in (w.states k) j) ≡ Some x) is e) in
        let now : decree_of n (cell_in (w'.states r) n) ≡ Some x = ap (decree_of n) m.here ∙ cell_stays n (cell_in (w.states r) n) ch x p was in
        subst (λ q. decree_of i (cell_in (w'.states q) i) ≡ Some x) (sym at) (subst (λ j. decree_of j (cell_in (w'.states r) j) ≡ Some x) (sym is) now))
    | inr apart ↦ ap (decree_of i) (m.apart k i apart) ∙ e
  ])
  | inr ne ↦ ap (decree_of i) (m.elsewhere k i ne) ∙ e
]

act_stays : (f : ℕ) (w : World) (a : Act) → Happens f w a → (k i : ℕ) (x : Decree) → IsCommitted w k i x → IsCommitted (moved f w a) k i x
act_stays f w a p k i x e =
    let s = w.states a.replica in
    let t = taken_of (acts f a.replica s a.event) (p.step).taken in
    let own : LocalAct s (Ok t.0) = subst (λ o. LocalAct s o) t.1 (local_acts f a.replica s a.event) in
    world_stays w (moved f w a) a.replica (t.0).0 (t.0).1 (moves f w a t.0 t.1) own k i x e

pub permanence_holds : Permanence
permanence_holds f w [] run i r x e = e
permanence_holds f w (a ∷ late) run i r x e = permanence_holds f (moved f w a) late run.1 i r x (act_stays f w a run.0 r i x e)
