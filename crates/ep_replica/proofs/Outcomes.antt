-- What the search finds is the first receipt of the instance.
use Rattle.std.proofs.Common.{◌≡◌, ℕ, Bool, true, false, cond, eqb, Option, Some, None, List, [], ◌∷◌, ◌++◌, refl, sym, ap, subst, ◌∙◌}
use Rattle.std.proofs.lemmas.Bool.{eqb-true}
use Rattle.ep_base.specs.declared.reply.Answer.{Answer}
use Rattle.ep_rules.specs.Journals.{Entry}
use Rattle.ep_rules.specs.declared.receipt.Receipt.{Receipt}
use Rattle.ep_replica.specs.Outcomes.{receipt, or_this, reported_among, reported_by}
use Rattle.ep_replica.specs.Receipts.{own_proposal, receipt_of, receipts_for, receipts_by, first_about}
use Rattle.ep_replica.specs.declared.proposal.Proposal.{Proposal}

first_of_both : (i : ℕ) (xs ys : List Receipt) → first_about i (xs ++ ys) ≡ or_this (first_about i xs) (first_about i ys)
first_of_both i [] ys = refl
first_of_both i (t ∷ xs) ys = go (eqb t.instance i) (first_of_both i xs ys)
  where
    go : (b : Bool) → first_about i (xs ++ ys) ≡ or_this (first_about i xs) (first_about i ys) → cond b (Some t) (first_about i (xs ++ ys)) ≡ or_this (cond b (Some t) (first_about i xs)) (first_about i ys)
    go true h = refl
    go false h = h

-- an execution's receipt is of its instance
other_receipt : (me i : ℕ) (e : Entry) (d : ℕ × Answer) (o : Option Proposal) → eqb d.0 i ≡ false → first_about i (receipt_of me e d o) ≡ None
other_receipt me i e d None test = refl
other_receipt me i e d (Some p) test = ap (λ b. cond b (Some (receipt me d.0 p e d.1)) None) test

own_receipt : (me i : ℕ) (e : Entry) (d : ℕ × Answer) (p : Proposal) → eqb d.0 i ≡ true → first_about i (receipt_of me e d (Some p)) ≡ Some (receipt me i p e d.1)
own_receipt me i e d p test =
    ap (λ b. cond b (Some (receipt me d.0 p e d.1)) None) test ∙ ap (λ j. Some (receipt me j p e d.1)) (eqb-true d.0 i test)

reported_for : (me i : ℕ) (es : List Entry) (p : Proposal) (e : Entry) (ds : List (ℕ × Answer)) → own_proposal me es i ≡ Some p → first_about i (receipts_for me es e ds) ≡ reported_among me i p e ds
reported_for me i es p e [] own = refl
reported_for me i es p e (d ∷ ds) own =
    first_of_both i (receipt_of me e d (own_proposal me es d.0)) (receipts_for me es e ds) ∙ ap (λ t. or_this (first_about i (receipt_of me e d (own_proposal me es d.0))) t) (reported_for me i es p e ds own)
    ∙ go (eqb d.0 i) refl
  where
    rest : Option Receipt
    rest = reported_among me i p e ds

    go : (b : Bool) → eqb d.0 i ≡ b → or_this (first_about i (receipt_of me e d (own_proposal me es d.0))) rest ≡ cond (eqb d.0 i) (Some (receipt me i p e d.1)) rest
    go true test =
        let same : d.0 ≡ i = eqb-true d.0 i test in
        let found : own_proposal me es d.0 ≡ Some p = subst (λ j. own_proposal me es j ≡ Some p) (sym same) own in
        ap (λ o. or_this (first_about i (receipt_of me e d o)) rest) found ∙ ap (λ t. or_this t rest) (own_receipt me i e d p test) ∙ sym (ap (λ b. cond b (Some (receipt me i p e d.1)) rest) test)
    go false test = ap (λ t. or_this t rest) (other_receipt me i e d (own_proposal me es d.0) test) ∙ sym (ap (λ b. cond b (Some (receipt me i p e d.1)) rest) test)

pub reported_first : (me i : ℕ) (es : List Entry) (p : Proposal) (these : List Entry) → own_proposal me es i ≡ Some p → first_about i (receipts_by me es these) ≡ reported_by me i p these
reported_first me i es p [] own = refl
reported_first me i es p (e ∷ these) own =
    first_of_both i (receipts_for me es e e.done) (receipts_by me es these) ∙ ap (λ t. or_this t (first_about i (receipts_by me es these))) (reported_for me i es p e e.done own) ∙ ap (λ t. or_this (reported_among me i p e e.done) t) (reported_first me i es p these own)

none_for : (me i : ℕ) (es : List Entry) (e : Entry) (ds : List (ℕ × Answer)) → own_proposal me es i ≡ None → first_about i (receipts_for me es e ds) ≡ None
none_for me i es e [] own = refl
none_for me i es e (d ∷ ds) own =
    first_of_both i (receipt_of me e d (own_proposal me es d.0)) (receipts_for me es e ds) ∙ ap (λ t. or_this (first_about i (receipt_of me e d (own_proposal me es d.0))) t) (none_for me i es e ds own)
    ∙ ap (λ t. or_this t None) (go (eqb d.0 i) refl)
  where
    go : (b : Bool) → eqb d.0 i ≡ b → first_about i (receipt_of me e d (own_proposal me es d.0)) ≡ None
    go true test =
        let same : d.0 ≡ i = eqb-true d.0 i test in
        ap (λ o. first_about i (receipt_of me e d o)) (subst (λ j. own_proposal me es j ≡ None) (sym same) own)
    go false test = other_receipt me i e d (own_proposal me es d.0) test

-- what was not proposed here has no receipt
pub none_first : (me i : ℕ) (es these : List Entry) → own_proposal me es i ≡ None → first_about i (receipts_by me es these) ≡ None
none_first me i es [] own = refl
none_first me i es (e ∷ these) own =
    first_of_both i (receipts_for me es e e.done) (receipts_by me es these) ∙ ap (λ t. or_this t (first_about i (receipts_by me es these))) (none_for me i es e e.done own) ∙ none_first me i es these own
