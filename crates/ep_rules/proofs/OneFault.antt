-- What is accepted has no fault, and there is one first fault at most; what a world plays is accepted.
use Rattle.std.proofs.Common.{◌≡◌, ℕ, ◌+◌, ◌<◌, ◌⊎◌, inl, inr, List, ◌∷◌, ◌++◌, length, refl, sym, ap, subst, ◌∙◌}
use Rattle.std.proofs.lemmas.Bool.{cases_order}
use Rattle.ep_rules.specs.Steps.{Frame, Handle}
use Rattle.ep_rules.specs.Worlds.{In}
use Rattle.ep_rules.specs.Journals.{Entry, Journals, WasSent, IsMatched}
use Rattle.ep_rules.specs.Verdicts.{IsKnown, Agrees}
use Rattle.ep_rules.specs.declared.receipt.Receipt.{Receipt}
use Rattle.ep_rules.specs.Audits.{IsAccepted, Fault, UnsentFrame, ChangedFrame, StampOrder, UnknownReceipt, CallerOrder, HasOrigin, IsFine, IsFirstHandling, IsFirstReceipt, IsFault, unsent, changed, early, unknown, order}
use Rattle.ep_rules.specs.Merging.{PlayedAccepted, FaultsAreFirst}
use Rattle.ep_rules.proofs.Merged.{in_right}
use Rattle.ep_rules.proofs.Played.{played_match_lem}
use Rattle.ep_rules.proofs.OwnReceipts.{clocked_accepted_lem}
use Rattle.ep_rules.proofs.OneProposal.{same, after, before, placed}
use Rattle.ep_rules.specs.OneMap.{Store}

pub played_accepted_lem : PlayedAccepted
played_accepted_lem base base_stamp f journal schedule played own numbered clocked receipts are_own =
    let matched = (played_match_lem base base_stamp f journal schedule played own numbered clocked).1 in
    clocked_accepted_lem base base_stamp f journal clocked (λ r e m h is. (matched r e m h is).0) receipts are_own

-- in the middle of a list
in_middle : {X : Type 0} (xs : List X) (x : X) (ys whole : List X) → xs ++ (x ∷ ys) ≡ whole → In x whole
in_middle xs x ys whole is = subst (λ l. In x l) is (in_right x xs (x ∷ ys) (inl refl))

in_after : {X : Type 0} (xs : List X) (x : X) (more whole : List X) → whole ≡ xs ++ (x ∷ more) → In x whole
in_after xs x more whole is = in_middle xs x more whole (sym is)

handled_same : (m n : Frame) → Handle m ≡ Handle n → m ≡ n
handled_same m n e = cc

-- two facts of which at most one holds
module _ (base : Store) (f : ℕ) (journal : Journals) (receipts : List Receipt) where
  -- what kind of fault a handled frame is
  data IsKind (r : ℕ) (e : Entry) (m : Frame) (x : Fault) : Type 0 where
    is_unsent : x ≡ UnsentFrame r e.number → ¬ HasOrigin journal m → IsKind r e m x
    is_changed : x ≡ ChangedFrame r e.number → HasOrigin journal m → ¬ WasSent journal m → IsKind r e m x
    is_early : x ≡ StampOrder r e.number → WasSent journal m → ¬ (m.stamp < e.stamp) → IsKind r e m x

  origin_of : (m : Frame) → WasSent journal m → HasOrigin journal m
  origin_of m w = record { entry = w.entry; stands = w.stands; number = w.number; frame = m; there = w.frame }

  kind_bad : (r : ℕ) (e : Entry) (m : Frame) (x : Fault) → IsKind r e m x → (WasSent journal m × (m.stamp < e.stamp)) → ⊥
  kind_bad r e m x (is_unsent i isnt) h = isnt (origin_of m h.0)
  kind_bad r e m x (is_changed i o isnt) h = isnt h.0
  kind_bad r e m x (is_early i w isnt) h = isnt h.1

  kind_same : (r : ℕ) (e : Entry) (m : Frame) (x y : Fault) → IsKind r e m x → IsKind r e m y → x ≡ y
  kind_same r e m x y (is_unsent i a) (is_unsent j b) = i ∙ sym j
  kind_same r e m x y (is_unsent i a) (is_changed j o b) = absurd (a o)
  kind_same r e m x y (is_unsent i a) (is_early j w b) = absurd (a (origin_of m w))
  kind_same r e m x y (is_changed i o a) (is_unsent j b) = absurd (b o)
  kind_same r e m x y (is_changed i o a) (is_changed j p b) = i ∙ sym j
  kind_same r e m x y (is_changed i o a) (is_early j w b) = absurd (a w)
  kind_same r e m x y (is_early i w a) (is_unsent j b) = absurd (b (origin_of m w))
  kind_same r e m x y (is_early i w a) (is_changed j o b) = absurd (b w)
  kind_same r e m x y (is_early i w a) (is_early j v b) = i ∙ sym j

  data IsReceiptKind (place : ℕ) (t : Receipt) (x : Fault) : Type 0 where
    is_unknown : x ≡ UnknownReceipt place → ¬ IsKnown base f journal t → IsReceiptKind place t x
    is_order : x ≡ CallerOrder place → IsKnown base f journal t → ¬ Agrees base f journal t → IsReceiptKind place t x

  receipt_bad : (place : ℕ) (t : Receipt) (x : Fault) → IsReceiptKind place t x → Agrees base f journal t → ⊥
  receipt_bad place t x (is_unknown i isnt) h = isnt h.known
  receipt_bad place t x (is_order i k isnt) h = isnt h

  receipt_same : (place : ℕ) (t : Receipt) (x y : Fault) → IsReceiptKind place t x → IsReceiptKind place t y → x ≡ y
  receipt_same place t x y (is_unknown i a) (is_unknown j b) = i ∙ sym j
  receipt_same place t x y (is_unknown i a) (is_order j k b) = absurd (a k)
  receipt_same place t x y (is_order i k a) (is_unknown j b) = absurd (b k)
  receipt_same place t x y (is_order i k a) (is_order j l b) = i ∙ sym j

  record OfFrame (x : Fault) : Type 0 where
    r : ℕ
    e : Entry
    m : Frame
    first : IsFirstHandling journal r e m
    kind : IsKind r e m x

  record OfReceipt (x : Fault) : Type 0 where
    place : ℕ
    t : Receipt
    first : IsFirstReceipt base f journal receipts place t
    kind : IsReceiptKind place t x

  sorted : (x : Fault) → IsFault base f journal receipts x → OfFrame x ⊎ OfReceipt x
  sorted _ (unsent r e m first isnt) = inl (record { r = r; e = e; m = m; first = first; kind = is_unsent refl isnt })
  sorted _ (changed r e m first o isnt) = inl (record { r = r; e = e; m = m; first = first; kind = is_changed refl o isnt })
  sorted _ (early r e m first w isnt) = inl (record { r = r; e = e; m = m; first = first; kind = is_early refl w isnt })
  sorted _ (unknown place t first isnt) = inr (record { place = place; t = t; first = first; kind = is_unknown refl isnt })
  sorted _ (order place t first k isnt) = inr (record { place = place; t = t; first = first; kind = is_order refl k isnt })

  -- a handled frame at fault isn't fine
  not_fine : (x : Fault) (a : OfFrame x) → IsFine journal a.e → ⊥
  not_fine x a fine = kind_bad a.r a.e a.m x a.kind (fine a.m a.first.handles)

  not_matched : (x : Fault) (a : OfFrame x) → IsMatched journal → ⊥
  not_matched x a matched = not_fine x a (λ m h. matched a.r a.e m (in_middle a.first.before a.e a.first.rest (journal a.r) a.first.split) h)

  not_lower : (x y : Fault) (a : OfFrame x) (b : OfFrame y) → a.r < b.r → ⊥
  not_lower x y a b lt = not_fine x a (b.first.fine.lower a.r a.e lt (in_middle a.first.before a.e a.first.rest (journal a.r) a.first.split))

  frames_same : (x y : Fault) (a : OfFrame x) (b : OfFrame y) → x ≡ y
  frames_same x y a b = elim (cases_order a.r b.r) [
    | inl is ↦ (elim (placed a.first.before a.e a.first.rest b.first.before b.e b.first.rest (a.first.split ∙ ap journal is ∙ sym b.first.split)) [
      | same d e ↦ (
          let at : a.m ≡ b.m = handled_same a.m b.m (sym a.first.handles ∙ ap (λ (z : Entry). z.event) e ∙ b.first.handles) in
          kind_same b.r b.e b.m x y (subst (λ r. IsKind r b.e b.m x) is (subst (λ z. IsKind a.r z b.m x) e (subst (λ m. IsKind a.r a.e m x) at a.kind))) b.kind)
      | after more d ↦ absurd (not_fine x a (b.first.fine.earlier a.e (in_after a.first.before a.e more b.first.before d)))
      | before more d ↦ absurd (not_fine y b (a.first.fine.earlier b.e (in_after b.first.before b.e more a.first.before d)))
    ])
    | inr (inl lt) ↦ absurd (not_lower x y a b lt)
    | inr (inr gt) ↦ absurd (not_lower y x b a gt)
  ]

  receipts_same : (x y : Fault) (a : OfReceipt x) (b : OfReceipt y) → x ≡ y
  receipts_same x y a b = elim (placed a.first.before a.t a.first.rest b.first.before b.t b.first.rest (a.first.split ∙ sym b.first.split)) [
    | same d e ↦ (
        let at : a.place ≡ b.place = a.first.counted ∙ ap (λ l. length l + 1) d ∙ sym b.first.counted in
        receipt_same b.place b.t x y (subst (λ p. IsReceiptKind p b.t x) at (subst (λ z. IsReceiptKind a.place z x) e a.kind)) b.kind)
    | after more d ↦ absurd (receipt_bad a.place a.t x a.kind (b.first.agree a.t (in_after a.first.before a.t more b.first.before d)))
    | before more d ↦ absurd (receipt_bad b.place b.t y b.kind (a.first.agree b.t (in_after b.first.before b.t more a.first.before d)))
  ]

  no_fault : IsAccepted base f journal receipts → (x : Fault) → IsFault base f journal receipts x → ⊥
  no_fault ok x h = elim (sorted x h) [
    | inl a ↦ not_matched x a ok.matched
    | inr b ↦ receipt_bad b.place b.t x b.kind (ok.agree b.t (in_middle b.first.before b.t b.first.rest receipts b.first.split))
  ]

  one_fault : (x y : Fault) → IsFault base f journal receipts x → IsFault base f journal receipts y → x ≡ y
  one_fault x y hx hy = elim (sorted x hx) [
    | inl a ↦ (elim (sorted y hy) [ inl b ↦ frames_same x y a b | inr b ↦ absurd (not_matched x a b.first.matched) ])
    | inr a ↦ (elim (sorted y hy) [ inl b ↦ absurd (not_matched y b a.first.matched) | inr b ↦ receipts_same x y a b ])
  ]

pub faults_are_first_lem : FaultsAreFirst
faults_are_first_lem base f journal receipts = record { none = no_fault base f journal receipts; one = one_fault base f journal receipts }
