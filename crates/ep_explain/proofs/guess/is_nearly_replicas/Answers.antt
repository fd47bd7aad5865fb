use Rattle.std.proofs.Common.{◌≡◌, ◌≤◌, ◌<◌, ◌-◌, ◌+◌, ◌∙◌, ◌⊎◌, ℕ, List, length, map, codes, subst, ap, arith}
use Rattle.std.proofs.Common.{inl, inr}
use Rattle.std.specs.Prelude.{max, IsTrue, ◌↔◌}
use Rattle.std.specs.Char.{to_ascii_lowercase, eq_ignore_ascii_case}
use Rattle.std.specs.List.{common_prefix_len}
use Rattle.std.proofs.lemmas.List.Sums.{common_prefix_len-le}
use Rattle.ep_explain.specs.Guess.{end_of}
use Rattle.ep_explain.proofs.Nearness.{AreAlike, IsMeasured, nearly, not_near}
use Rattle.ep_explain.proofs.guess.is_nearly_replicas.Goals as goal
use Rattle.ep_explain.proofs.guess.is_nearly_replicas.Goals.{then-word-lt7-via-then-word-lt7}
use Rattle.ep_explain.proofs.guess.is_nearly_replicas.Goals.{then-word-lt7-via-else-word-lt7+then-word-gt9}

pub returns-then-word-lt7 : goal.returns-then-word-lt7
returns-then-word-lt7 c =
    let word : List ℕ = c.without_mark-word.result.now in
    let far : (length word < 7) ⊎ (9 < length word) =
    elim c.then-word-lt7.branch [
      | then-word-lt7-via-then-word-lt7 w ↦ inl (omega arith)
      | then-word-lt7-via-else-word-lt7+then-word-gt9 w ↦ inr (omega arith)
    ] in
    not_near c.args.word.now word c.without_mark-word.ensures far

pub returns : goal.returns
returns c =
    let word : List ℕ = c.without_mark-word.result.now in
    let count : ℕ = c.saturating_sub-count.result in
    let same : ℕ = c.same_front.result in
    let is_end = c.eq_ignore_ascii_case.result in
    let wanted : c.as_slice-wanted.result.now ≡ codes "replicas" = c.as_slice-wanted.ensures in
    let front : same ≡ common_prefix_len eq_ignore_ascii_case word (codes "replicas") =
    subst (λ (l : List ℕ). same ≡ common_prefix_len eq_ignore_ascii_case word l) wanted c.same_front.ensures in
    let most = common_prefix_len-le eq_ignore_ascii_case word (codes "replicas") in
    let few : same ≤ 8 = omega (arith, front, most.1) in
    let long = ap (λ (l : List ℕ). length l) wanted in
    let size : count ≡ max (length word) 8 - (same + 1) = omega (arith, long, few) in
    let end : c.end_of-2.result.now ≡ end_of (codes "replicas") count =
    c.end_of-2.ensures ∙ ap (λ (l : List ℕ). end_of l count) wanted in
    let lower : List ℕ → List ℕ = λ l. map to_ascii_lowercase l in
    let first = subst (λ (l : List ℕ). IsTrue is_end ↔ (lower l ≡ lower c.end_of-2.result.now)) c.end_of.ensures
    c.eq_ignore_ascii_case.ensures.test in
    let test : IsTrue is_end ↔ AreAlike word count =
    subst (λ (l : List ℕ). IsTrue is_end ↔ (lower (end_of word count) ≡ lower l)) end first in
    let measured : IsMeasured word count same =
    record { least = omega arith; most = omega arith; front = front; size = size } in
    nearly c.args.word.now word count same is_end c.without_mark-word.ensures measured test
