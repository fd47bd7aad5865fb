-- The frames of lines of a weather, as a set.
use Rattle.std.proofs.Common.{◌≡◌, ℕ, Bool, true, false, cond, List, [], ◌∷◌, ◌++◌, Result, is_err, OnOk, sym, ap, ◌∙◌, subst, arith}
use Rattle.std.specs.Ordering.{is_eq}
use Rattle.std.specs.List.{list_any}
use Rattle.std.specs.BTreeSet.{BTreeSet, contains, Updates}
use Rattle.std.proofs.lemmas.Bool.Decides.{nat_tests}
use Rattle.std.proofs.lemmas.List.Folds.{list_any-append}
use Rattle.ep_script.specs.Plan.{same_frame}
use Rattle.ep_script.specs.Frames.{frame_of, frame_cmp, HasFrames}
use Rattle.ep_script.specs.declared.weather_line.WeatherLine.{WeatherLine}
use Rattle.ep_script.proofs.KeySets.{or_either, if_ok}

-- lines are for one frame where their frames compare equal
same_by_cmp : (v w : WeatherLine) → is_eq (frame_cmp (frame_of w) (frame_of v)) ≡ same_frame v w
same_by_cmp v w = grind (arith, nat_tests)

frame_more : (before after : BTreeSet (ℕ × ℕ × ℕ)) (lines : List WeatherLine) (w : WeatherLine)
    → ((q : ℕ × ℕ × ℕ) → contains frame_cmp after q ≡ cond (is_eq (frame_cmp (frame_of w) q)) true (contains frame_cmp before q)) → HasFrames before lines → HasFrames after (lines ++ w ∷ [])
frame_more before after lines w added h = λ v.
    added (frame_of v)
    ∙ ap (λ (b : Bool). cond b true (contains frame_cmp before (frame_of v))) (same_by_cmp v w)
    ∙ ap (cond (same_frame v w) true) (h v)
    ∙ or_either (same_frame v w) (list_any (same_frame v) lines)
    ∙ sym (list_any-append (same_frame v) lines (w ∷ []))

-- a line more, and its frame, where there was memory for it
pub frame_taken : {E : Type 0} (before after : BTreeSet (ℕ × ℕ × ℕ)) (lines taken : List WeatherLine) (w : WeatherLine) (frame : ℕ × ℕ × ℕ) (r : Result Bool E)
    → is_err r ≡ false → OnOk r (Updates frame_cmp before after frame true) → frame ≡ frame_of w → taken ≡ lines ++ w ∷ [] → HasFrames before lines → HasFrames after taken
frame_taken before after lines taken w frame r fine updates is more h =
    let added : Updates frame_cmp before after frame true = if_ok (Updates frame_cmp before after frame true) r fine updates in
    let adds : Updates frame_cmp before after (frame_of w) true = subst (λ (k : ℕ × ℕ × ℕ). Updates frame_cmp before after k true) is added in
    subst (HasFrames after) (sym more) (frame_more before after lines w adds.0 h)
