-- How texts begin.
use Rattle.std.proofs.Common.{◌≡◌, ◌≤◌, ◌↔◌, ◌∙◌, inl, inr, ℕ, Bool, List, length, take, take_all}
use Rattle.std.proofs.Common.{Option, Some, None, IsTrue, sym, ap, arith}
use Rattle.std.specs.Prelude.{unwrap_or}
use Rattle.std.specs.Borrow.{Bor}
use Rattle.std.specs.List.{list_all}
use Rattle.std.specs.Slice.{IsGetRangeResult}
use Rattle.ep_explain.specs.Magic.{MayBegin}
use Rattle.ep_explain.specs.Guess.{IsText, is_text_byte}

-- the first bytes, or all where there are fewer
pub front_of :
    (o : Option (Bor (List ℕ))) (whole : Bor (List ℕ)) → IsGetRangeResult whole.now 0 64 o →
    (unwrap_or o whole).now ≡ take 64 whole.now
front_of None whole few =
    let short : length whole.now ≤ 64 =
    elim few.0 [ inl never ↦ absurd (omega (arith, never)) | inr less ↦ omega (arith, less) ] in
    sym (take_all 64 whole.now short)
front_of (Some x) whole is = is.0.2

pub text_if :
    (bytes front : List ℕ) (all : Bool) → (¬ MayBegin bytes) → front ≡ take 64 bytes →
    all ≡ list_all is_text_byte front → IsTrue all ↔ IsText bytes
text_if bytes front all never is same =
    let test : all ≡ list_all is_text_byte (take 64 bytes) = same ∙ ap (λ (l : List ℕ). list_all is_text_byte l) is in
    (λ t. (never, sym test ∙ t), λ x. test ∙ x.1)
