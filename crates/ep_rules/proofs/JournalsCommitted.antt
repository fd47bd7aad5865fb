-- What matched journals commit.
use Rattle.std.proofs.Common.{◌≡◌, ℕ, zero, suc, ◌<◌, Bool, true, false, cond, eqb, inl, inr, Option, Some, None, List, [], ◌∷◌, ◌++◌, refl, sym, ap, subst, ◌∙◌, arith, append-nil}
use Rattle.std.proofs.lemmas.Bool.{eq-eqb, eqb-true, cases_lt}
use Rattle.ep_base.specs.Instances.{leader_of}
use Rattle.ep_base.specs.Quorums.{size}
use Rattle.ep_base.specs.declared.decree.Decree.{Decree}
use Rattle.ep_rules.specs.Cells.{committed_decree, record_or_fresh}
use Rattle.ep_rules.specs.States.{State, fresh_state, free_number, committed_in}
use Rattle.ep_rules.specs.Steps.{leaves}
use Rattle.ep_rules.specs.Worlds.{World, opening, Act, moved, IsRun, ends, Committed}
use Rattle.ep_rules.specs.Journals.{Entry, left, Journals, Scheduled, of, act_of, acts_of}
use Rattle.ep_rules.specs.Verdicts.{committed_by, or_else, agreed_below, agreed}
use Rattle.ep_rules.specs.Merging.{Merges, JournalsAgree, JournalsDepend, JournalsPropose, AgreedIs}
use Rattle.ep_rules.proofs.Lookups.{none_there}
use Rattle.ep_rules.proofs.Runs.{agreement_holds, validity_holds}
use Rattle.ep_rules.proofs.Pairs.{dependency_holds}
use Rattle.ep_rules.proofs.Permanence.{permanence_holds}
use Rattle.ep_rules.proofs.Merged.{merged_is_a_run_lem}
use Rattle.ep_rules.proofs.OneSchedule.{heads, tails}
use Rattle.ep_rules.specs.OneMap.{Store}

pub none_some : {X A : Type 0} (x : X) → None ≡ Some x → A
none_some x e = absurd (cc)

-- Runs in two parts.

module _ (f : ℕ) where
  pub run_parts : (early late : List Act) (w : World) → IsRun f w (early ++ late) → IsRun f w early × IsRun f (ends f w early) late
  run_parts [] late w h = (tt, h)
  run_parts (a ∷ early) late w h = let t = run_parts early late (moved f w a) h.1 in ((h.0, t.0), t.1)

  pub ends_both : (early late : List Act) (w : World) → ends f w (early ++ late) ≡ ends f (ends f w early) late
  ends_both [] late w = refl
  ends_both (a ∷ early) late w = ends_both early late (moved f w a)

  -- a replica's state after a schedule is what its own entries leave
  pub ends_left : (r : ℕ) (these : List Scheduled) (w : World) → (ends f w (acts_of these)).states r ≡ left f r (w.states r) (of r these)
  ends_left r [] w = refl
  ends_left r (a ∷ these) w = ends_left r these (moved f w (act_of a)) ∙ go (eqb a.replica r)
    where
      go : (b : Bool) → left f r (cond b (leaves f r (w.states r) a.entry.event a.entry.done) (w.states r)) (of r these) ≡ left f r (w.states r) (cond b (a.entry ∷ of r these) (of r these))
      go true = refl
      go false = refl

pub acts_both : (xs ys : List Scheduled) → acts_of (xs ++ ys) ≡ acts_of xs ++ acts_of ys
acts_both [] ys = refl
acts_both (a ∷ xs) ys = ap (λ z. act_of a ∷ z) (acts_both xs ys)

pub of_both : (r : ℕ) (xs ys : List Scheduled) → of r (xs ++ ys) ≡ of r xs ++ of r ys
of_both r [] ys = refl
of_both r (a ∷ xs) ys = ap (λ z. cond (eqb a.replica r) (a.entry ∷ z) z) (of_both r xs ys) ∙ go (eqb a.replica r)
  where
    go : (b : Bool) → cond b (a.entry ∷ (of r xs ++ of r ys)) (of r xs ++ of r ys) ≡ cond b (a.entry ∷ of r xs) (of r xs) ++ of r ys
    go true = refl
    go false = refl

-- What a replica has committed it keeps.
pub keeps : (base : Store) → (f : ℕ) (early late : List Act) → IsRun f (opening base) (early ++ late) → (r i : ℕ) (x : Decree) → Committed (ends f (opening base) early) r i x → Committed (ends f (opening base) (early ++ late)) r i x
keeps base f early late h r i x e =
    subst (λ w. Committed w r i x) (sym (ends_both f early late (opening base))) (permanence_holds f (ends f (opening base) early) late (run_parts f early late (opening base) h).1 i r x e)

-- One run of the journals.
module _ (base : Store) (f : ℕ) (journal : Journals) (schedule : List Scheduled) (given : Merges base f journal schedule) where
  pub is_run : IsRun f (opening base) (acts_of schedule)
  is_run = merged_is_a_run_lem base f journal schedule given.local given.matched given.scheduled

  -- and the same with nothing after
  pub is_run_nil : IsRun f (opening base) (acts_of schedule ++ [])
  is_run_nil = subst (IsRun f (opening base)) (sym (append-nil (acts_of schedule))) is_run

  pub state_is : (r : ℕ) → (ends f (opening base) (acts_of schedule)).states r ≡ left f r (fresh_state base) (journal r)
  state_is r = ends_left f r schedule (opening base) ∙ ap (λ es. left f r (fresh_state base) es) (given.scheduled.0 r)

  pub commits_end : (r i : ℕ) (x : Decree) → committed_by base f journal r i ≡ Some x → Committed (ends f (opening base) (acts_of schedule)) r i x
  commits_end r i x e = ap (λ (s : State). committed_in s.records i) (state_is r) ∙ e

  pub commits_nil : (r i : ℕ) (x : Decree) → committed_by base f journal r i ≡ Some x → Committed (ends f (opening base) (acts_of schedule ++ [])) r i x
  commits_nil r i x e = subst (λ these. Committed (ends f (opening base) these) r i x) (sym (append-nil (acts_of schedule))) (commits_end r i x e)

  pub end_commits : (r i : ℕ) (x : Decree) → Committed (ends f (opening base) (acts_of schedule)) r i x → committed_by base f journal r i ≡ Some x
  end_commits r i x e = ap (λ (s : State). committed_in s.records i) (sym (state_is r)) ∙ e

-- A schedule in two parts, at an entry of a journal.
pub record Cut (r : ℕ) (before : List Entry) (e : Entry) (schedule : List Scheduled) : Type 0 where
  pub early : List Scheduled
  pub late : List Scheduled
  pub whole : early ++ (record { replica = r; entry = e } ∷ late) ≡ schedule
  pub own : of r early ≡ before

pub cut : (r : ℕ) (before : List Entry) (e : Entry) (rest : List Entry) (schedule : List Scheduled) → of r schedule ≡ before ++ (e ∷ rest) → Cut r before e schedule
cut r [] e rest [] h = absurd (cc)
cut r (x ∷ before) e rest [] h = absurd (cc)
cut r before e rest (a ∷ these) h = go (eqb a.replica r) refl before h (λ b. cut r b e rest these)
  where
    go : (t : Bool) → eqb a.replica r ≡ t → (b : List Entry) → cond t (a.entry ∷ of r these) (of r these) ≡ b ++ (e ∷ rest) → ((b : List Entry) → of r these ≡ b ++ (e ∷ rest) → Cut r b e these) → Cut r b e (a ∷ these)
    go true q [] k rec =
        let same : a.entry ≡ e = heads a.entry e (of r these) rest k in
        let is = eqb-true a.replica r q in
        record { early = []; late = these; whole = (λ i. record { replica = sym is i; entry = sym same i } ∷ these); own = refl }
    go true q (x ∷ b) k rec =
        let c = rec b (tails a.entry x (of r these) (b ++ (e ∷ rest)) k) in
        record { early = a ∷ c.early; late = c.late; whole = ap (λ z. a ∷ z) c.whole; own = ap (λ t. cond t (a.entry ∷ of r c.early) (of r c.early)) q ∙ ap (λ z. a.entry ∷ z) c.own ∙ ap (λ z. z ∷ b) (heads a.entry x (of r these) (b ++ (e ∷ rest)) k) }
    go false q b k rec =
        let c = rec b k in
        record { early = a ∷ c.early; late = c.late; whole = ap (λ z. a ∷ z) c.whole; own = ap (λ t. cond t (a.entry ∷ of r c.early) (of r c.early)) q ∙ c.own }

-- The laws.

pub journals_agree_lem : JournalsAgree
journals_agree_lem base f journal schedule given i r q x y ex ey =
    agreement_holds base f given.some given.few (acts_of schedule) [] (is_run_nil base f journal schedule given) i r q x y (commits_end base f journal schedule given r i x ex) (commits_nil base f journal schedule given q i y ey)

pub journals_depend_lem : JournalsDepend
journals_depend_lem base f journal schedule given i j r q x y ne ex ey meet =
    dependency_holds base f given.some given.few (acts_of schedule) [] (is_run_nil base f journal schedule given) i j r q x y ne (commits_end base f journal schedule given r i x ex) (commits_nil base f journal schedule given q j y ey) meet

-- an act of a schedule, in its place
pub record ActIn (before : List Act) (a : Act) (schedule : List Scheduled) : Type 0 where
  pub early : List Scheduled
  pub at : Scheduled
  pub late : List Scheduled
  pub whole : early ++ (at ∷ late) ≡ schedule
  pub before_is : acts_of early ≡ before
  pub act_is : act_of at ≡ a

act_head : (x y : Act) (xs ys : List Act) → x ∷ xs ≡ y ∷ ys → x ≡ y
act_head x y xs ys e = cc

act_tail : (x y : Act) (xs ys : List Act) → x ∷ xs ≡ y ∷ ys → xs ≡ ys
act_tail x y xs ys e = cc

act_in : (before : List Act) (a : Act) (after : List Act) (schedule : List Scheduled) → before ++ (a ∷ after) ≡ acts_of schedule → ActIn before a schedule
act_in [] a after [] e = absurd (cc)
act_in (x ∷ before) a after [] e = absurd (cc)
act_in [] a after (s ∷ schedule) e = record { early = []; at = s; late = schedule; whole = refl; before_is = refl; act_is = sym (act_head a (act_of s) after (acts_of schedule) e) }
act_in (x ∷ before) a after (s ∷ schedule) e =
    let t = act_in before a after schedule (act_tail x (act_of s) (before ++ (a ∷ after)) (acts_of schedule) e) in
    record {
      early = s ∷ t.early;
      at = t.at;
      late = t.late;
      whole = ap (λ z. s ∷ z) t.whole;
      before_is = ap (λ z. z ∷ acts_of t.early) (sym (act_head x (act_of s) (before ++ (a ∷ after)) (acts_of schedule) e)) ∙ ap (λ z. x ∷ z) t.before_is;
      act_is = t.act_is;
    }

-- the entries of its replica before it and after it
split_of : (l : ℕ) (early : List Scheduled) (at : Scheduled) (late schedule : List Scheduled) (es : List Entry) → early ++ (at ∷ late) ≡ schedule → at.replica ≡ l → of l schedule ≡ es → of l early ++ (at.entry ∷ of l late) ≡ es
split_of l early at late schedule es whole mine own =
    let here : of l (at ∷ late) ≡ at.entry ∷ of l late = ap (λ b. cond b (at.entry ∷ of l late) (of l late)) (eq-eqb at.replica l mine) in
    ap (λ es. of l early ++ es) (sym here) ∙ sym (of_both l early (at ∷ late)) ∙ ap (λ z. of l z) whole ∙ own

free_then : (base : Store) → (f l : ℕ) (early : List Scheduled) (before : List Act) (n : ℕ) → acts_of early ≡ before → free_number ((ends f (opening base) before).states l).records l ≡ Some n → free_number (left f l (fresh_state base) (of l early)).records l ≡ Some n
free_then base f l early before n is free =
    let same : (ends f (opening base) before).states l ≡ left f l (fresh_state base) (of l early) = subst (λ these. (ends f (opening base) these).states l ≡ left f l (fresh_state base) (of l early)) is (ends_left f l early (opening base)) in
    subst (λ (s : State). free_number s.records l ≡ Some n) same free

pub journals_propose_lem : JournalsPropose
journals_propose_lem base f journal schedule given r i x e real =
    let t = validity_holds base f given.some given.few (acts_of schedule) (is_run base f journal schedule given) i r x (commits_end base f journal schedule given r i x e) real in
    let p = act_in t.before t.proposal t.after schedule t.stands in
    let mine : p.at.replica ≡ leader_of i = ap (λ (z : Act). z.replica) p.act_is ∙ t.replica in (
      t.client,
      t.request,
      record {
        before = of (leader_of i) p.early;
        proposal = p.at.entry;
        rest = of (leader_of i) p.late;
        split = split_of (leader_of i) p.early p.at p.late schedule (journal (leader_of i)) p.whole mine (given.scheduled.0 (leader_of i));
        command = x.command;
        seen = t.seen;
        spared = t.spared;
        event = ap (λ (z : Act). z.event) p.act_is ∙ t.event;
        number = t.number;
        free = free_then base f (leader_of i) p.early t.before t.number p.before_is t.free;
        instance = t.instance;
      },
      refl,
    )

-- What is agreed on.

-- a journal that commits is a replica's
committer : (base : Store) → (f : ℕ) (journal : Journals) (schedule : List Scheduled) → Merges base f journal schedule → (r i : ℕ) (x : Decree) → committed_by base f journal r i ≡ Some x → r < size f
committer base f journal schedule given r i x e = elim (cases_lt r (size f)) [
  | inl lt ↦ lt
  | inr ge ↦ none_some x (sym (ap (λ o. committed_decree (record_or_fresh i o).vote) (none_there i)) ∙ sym (ap (λ es. committed_in (left f r (fresh_state base) es).records i) (given.local.others r ge)) ∙ e)
]

pub agreed_back : (base : Store) → (n f : ℕ) (journal : Journals) (i : ℕ) (x : Decree) → agreed_below base n f journal i ≡ Some x → (k : ℕ) × (k < n) × (committed_by base f journal k i ≡ Some x)
agreed_back base zero f journal i x e = none_some x e
agreed_back base (suc n) f journal i x e = go (agreed_below base n f journal i) e (agreed_back base n f journal i x)
  where
    go : (o : Option Decree) → or_else o (committed_by base f journal n i) ≡ Some x → (o ≡ Some x → (k : ℕ) × (k < n) × (committed_by base f journal k i ≡ Some x)) → (k : ℕ) × (k < suc n) × (committed_by base f journal k i ≡ Some x)
    go (Some y) q rec = let t = rec q in (t.0, (let l = t.1 in omega arith), t.2)
    go None q rec = (n, omega arith, q)

agreed_forth : (base : Store) → (n f : ℕ) (journal : Journals) (i k : ℕ) (x : Decree) → k < n → committed_by base f journal k i ≡ Some x → (y : Decree) × (agreed_below base n f journal i ≡ Some y)
agreed_forth base zero f journal i k x lt e = absurd (omega arith)
agreed_forth base (suc n) f journal i k x lt e = go (agreed_below base n f journal i) refl (agreed_forth base n f journal i k x)
  where
    go : (o : Option Decree) → agreed_below base n f journal i ≡ o → (k < n → committed_by base f journal k i ≡ Some x → (y : Decree) × (o ≡ Some y)) → (y : Decree) × (or_else o (committed_by base f journal n i) ≡ Some y)
    go (Some y) q rec = (y, refl)
    go None q rec = elim (cases_lt k n) [
      | inl l ↦ (let t = rec l e in none_some t.0 t.1)
      | inr ge ↦ (x, (let is : n ≡ k = omega arith in ap (λ z. committed_by base f journal z i) is ∙ e))
    ]

pub commits_agreed : (base : Store) → (f : ℕ) (journal : Journals) (schedule : List Scheduled) → Merges base f journal schedule → (r i : ℕ) (x : Decree) → committed_by base f journal r i ≡ Some x → agreed base f journal i ≡ Some x
commits_agreed base f journal schedule given r i x e =
    let y = agreed_forth base (size f) f journal i r x (committer base f journal schedule given r i x e) e in
    let back = agreed_back base (size f) f journal i y.0 y.1 in
    y.1 ∙ ap Some (journals_agree_lem base f journal schedule given i back.0 r y.0 x back.2 e)

pub agreed_is_lem : AgreedIs
agreed_is_lem base f journal schedule given i x = (agreed_back base (size f) f journal i x, λ t. commits_agreed base f journal schedule given t.0 i x t.2)
