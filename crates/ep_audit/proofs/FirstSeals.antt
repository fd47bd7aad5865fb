-- The first seal of a history's lines.
use Rattle.std.proofs.Common.{◌≡◌, ℕ, IfOk, Result, Ok, Err, Bool, true, false, cond, ◌||◌, inl, inr, Option, Some, None, List, [], ◌∷◌, ◌++◌, refl, sym, ap, subst, ◌∙◌}
use Rattle.std.specs.Option.{option_map}
use Rattle.std.specs.declared.alloc.AllocError.{AllocError}
use Rattle.ep_base.specs.Commands.{Command, Noop}
use Rattle.ep_base.specs.Interference.{is_seal}
use Rattle.ep_rules.specs.Closing.{has_seal, up_to_seal}
use Rattle.ep_rules.specs.Journals.{Journals, Scheduled, IsSchedule, AreLocalRuns}
use Rattle.ep_rules.specs.OneMap.{Store, sealed_by, after, after_under}
use Rattle.ep_rules.specs.Operations.{Operation}
use Rattle.ep_rules.specs.Verdicts.{agreed}
use Rattle.ep_rules.specs.Worlds.{In}
use Rattle.ep_rules.proofs.Commuting.{map_of, seal_value}
use Rattle.ep_rules.proofs.JournalsCallers.{in_has}
use Rattle.ep_rules.proofs.Merged.{in_of, in_right}
use Rattle.ep_rules.proofs.Sealing.{noop_is}
use Rattle.ep_rules.proofs.Sorted.{some_schedule_lem}
use Rattle.ep_base.specs.Quorums.{size}
use Rattle.ep_base.specs.Sameness.{is_noop}
use Rattle.ep_audit.specs.declared.closing.Closing.{Closing}
use Rattle.ep_audit.specs.declared.happening.Happening.{Happening}
use Rattle.ep_audit.specs.Closings.{operations_in, IsExecuted, IsLeastStamp, IsFirstSeal, IsClosing}
use Rattle.ep_audit.specs.Lines.{lines_in}
use Rattle.ep_audit.specs.Sealed.{first_sealing, closing_by}
use Rattle.ep_audit.proofs.Answering.{each_reported}

abbrev pub operation_at : ℕ → Command → Operation
operation_at i c = record { instance = i; command = c }

abbrev pub operation_of : Happening → Operation
operation_of h = operation_at h.instance h.command

abbrev pub closing_at : ℕ → ℕ → List ℕ → Closing
closing_at i t v = record { instance = i; value = v; stamp = t }

pub record IsFirstLine (hs : List Happening) (h : Happening) : Type 0 where
  pub seals : has_seal (operations_in hs) ≡ true
  pub is : is_seal h.command ≡ true
  pub before : List Operation
  pub last : up_to_seal (operations_in hs) ≡ before ++ (operation_of h ∷ [])
  pub stands : In h hs

pub first_line : (hs : List Happening) (h : Happening) → first_sealing hs ≡ Some h → IsFirstLine hs h
first_line [] h e = absurd (cc)
first_line (x ∷ hs) h e = go (is_seal x.command) refl e (first_line hs h)
  where
    go : (b : Bool) → is_seal x.command ≡ b → cond b (Some x) (first_sealing hs) ≡ Some h → (first_sealing hs ≡ Some h → IsFirstLine hs h) → IsFirstLine (x ∷ hs) h
    go true is e rec =
        let same : x ≡ h = cc in
        subst (λ (z : Happening). IsFirstLine (x ∷ hs) z) same (record {
          seals = ap (λ b. b || has_seal (operations_in hs)) is;
          is = is;
          before = [];
          last = ap (λ b. operation_of x ∷ cond b [] (up_to_seal (operations_in hs))) is;
          stands = inl refl;
        })
    go false is e rec =
        let r = rec e in
        record {
          seals = ap (λ b. b || has_seal (operations_in hs)) is ∙ r.seals;
          is = r.is;
          before = operation_of x ∷ r.before;
          last = ap (λ b. operation_of x ∷ cond b [] (up_to_seal (operations_in hs))) is ∙ ap (λ os. operation_of x ∷ os) r.last;
          stands = inr r.stands;
        }

pub no_line : (hs : List Happening) → first_sealing hs ≡ None → has_seal (operations_in hs) ≡ false
no_line [] e = refl
no_line (x ∷ hs) e = go (is_seal x.command) refl e (no_line hs)
  where
    go : (b : Bool) → is_seal x.command ≡ b → cond b (Some x) (first_sealing hs) ≡ None → (first_sealing hs ≡ None → has_seal (operations_in hs) ≡ false) → (is_seal x.command || has_seal (operations_in hs)) ≡ false
    go true is e rec = absurd (cc)
    go false is e rec = ap (λ b. b || has_seal (operations_in hs)) is ∙ rec e

-- the first line's seal, with the least stamp of who executes it, is the first seal
pub closing_is : (journal : Journals) (hs : List Happening) (h : Happening) (t : ℕ) (c : Option Closing) → first_sealing hs ≡ Some h → IsLeastStamp journal h.instance t → c ≡ closing_by h t → IsClosing journal (operations_in hs) c
closing_is journal hs h t c first least is =
    let l = first_line hs h first in
    let v = seal_value h.command l.is in
    let reported : c ≡ Some (closing_at h.instance t v.0) = is ∙ ap (λ d. option_map (closing_at h.instance t) (sealed_by d)) v.1 in
    let seal : IsFirstSeal journal (operations_in hs) (closing_at h.instance t v.0) = record {
      seals = l.seals;
      before = l.before;
      last = l.last ∙ ap (λ d. l.before ++ (operation_at h.instance d ∷ [])) v.1;
      stamp = least;
    } in
    subst (λ (o : Option Closing). IsClosing journal (operations_in hs) o) (sym reported) seal

pub closing_reported : (journal : Journals) (hs : List Happening) (h : Happening) (t : ℕ) (r : Result (Option Closing) AllocError) → first_sealing hs ≡ Some h → IsLeastStamp journal h.instance t → IfOk r (λ c. c ≡ closing_by h t) →
    IfOk r (λ c. IsClosing journal (operations_in hs) c)
closing_reported journal hs h t (Ok c) first least is = closing_is journal hs h t c first least is
closing_reported journal hs h t (Err e) first least is = tt

-- each line is of an instance that an entry executes
pub line_executed : (base : Store) (f : ℕ) (journal : Journals) (lines : List Happening) → AreLocalRuns base f journal → ((s : List Scheduled) → IsSchedule journal s → lines ≡ lines_in (agreed base f journal) [] s) →
    (h : Happening) → In h lines → IsExecuted journal h.instance
line_executed base f journal lines runs are h there =
    let s = some_schedule_lem (size f) journal runs.others (λ r. (runs.local r).0) in
    let t = each_reported (agreed base f journal) s.0 h (subst (In h) (are s.0 s.1) there) in
    let first = t.1.first in
    let stands : In first s.0 = subst (In first) t.1.split (in_right first t.1.before (first ∷ t.1.rest) (inl refl)) in
    record {
      replica = first.replica;
      entry = first.entry;
      stands = subst (In first.entry) (s.1.0 first.replica) (in_of first s.0 stands);
      executes = in_has first.entry.done h.instance t.0 t.1.done;
    }

-- a no-op does nothing
pub nothing_done : (s : Store) (c : Command) → is_noop c ≡ true → s ≡ after s c
nothing_done s c e = sym (ap (λ d. after s d) (noop_is c e) ∙ go s.seal refl)
  where
    go : (o : Option (List ℕ)) → s.seal ≡ o → after s Noop ≡ s
    go None is = ap (λ o. after_under o s.contents Noop) is ∙ ap (λ o. map_of s.contents o) (sym is)
    go (Some v) is = ap (λ o. after_under o s.contents Noop) is ∙ ap (λ o. map_of s.contents o) (sym is)
