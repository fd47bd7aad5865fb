-- The first line of some bytes, and those behind it.
use Rattle.std.proofs.Common.{◌≡◌, ◌≢◌, ℕ, ◌<◌, true≢false, take, drop, List, [], ◌∷◌, ◌++◌, length, map, min, Option, Some, None, Bor, refl, sym, ap, ◌∙◌, arith}
use Rattle.std.proofs.lemmas.List.{append-nil, take-append-drop, take_rest}
use Rattle.std.specs.Option.{unwrap_or}
use Rattle.std.specs.Slice.{IsGetRangeResult}
use Rattle.std.specs.List.{position_or_len}
use Rattle.std.specs.Str.Lines.{strip_carriage_return}
use Rattle.memchr.specs.Find.{IsFirstByte, is_byte}
use Rattle.ep_script.specs.RawLines.{raw_lines, bare_lines}
use Rattle.ep_script.proofs.LineLemmas.{feeds, plain_take, feed_first, line_at, last_line}
use Rattle.ep_script.proofs.Splitting.{begins, rest_begins, found_first, found_none}

-- how many bytes stand before the first line feed
abbrev feed_at : List ℕ → ℕ
feed_at zs = position_or_len feeds zs

abbrev before : List ℕ → List ℕ
before zs = take (feed_at zs) zs

abbrev from : List ℕ → List ℕ
from zs = drop (feed_at zs) zs

whole : (zs d : List ℕ) → from zs ≡ d → zs ≡ before zs ++ d
whole zs d e = sym (take-append-drop (feed_at zs) zs) ∙ ap (λ (d : List ℕ). before zs ++ d) e

first_raw : (zs : List ℕ) → zs ≢ [] → raw_lines zs ≡ before zs ∷ raw_lines (drop 1 (from zs))
first_raw zs some = go (from zs) refl (rest_begins feeds zs)
  where
    go : (d : List ℕ) → from zs ≡ d → begins feeds d → raw_lines zs ≡ before zs ∷ raw_lines (drop 1 d)
    go [] e h =
        let all = whole zs [] e in
        let here : before zs ≢ [] = λ none. some (all ∙ ap (λ (l : List ℕ). l ++ []) none) in
        last_line zs (before zs) all (plain_take (feed_at zs) zs (omega arith)) here
    go (y ∷ ys) e h =
        let all = whole zs (10 ∷ ys) (e ∙ feed_first (y ∷ ys) h (λ q. cc)) in
        line_at zs (before zs) ys all (plain_take (feed_at zs) zs (omega arith))

none_has_some : (zs : List ℕ) → 0 < length zs → zs ≢ []
none_has_some [] h e = absurd (omega arith)
none_has_some (z ∷ zs) h e = cc

-- a line was cut out of these bytes, before n of them
pub record IsCut (zs : List ℕ) (n : ℕ) (line rest : List ℕ) : Type 0 where
  pub some : 0 < length zs
  pub at : n ≡ position_or_len feeds zs
  pub line_is : line ≡ strip_carriage_return (take n zs)
  pub rest_is : rest ≡ drop 1 (drop n zs)

pub first_bare : (zs line rest : List ℕ) (n : ℕ) → IsCut zs n line rest → bare_lines zs ≡ line ∷ bare_lines rest
first_bare zs line rest n c =
    ap (map strip_carriage_return) (first_raw zs (none_has_some zs c.some))
    ∙ ap (λ (m : ℕ). strip_carriage_return (take m zs) ∷ bare_lines (drop 1 (drop m zs))) (sym c.at)
    ∙ ap (λ (x : List ℕ). x ∷ bare_lines (drop 1 (drop n zs))) (sym c.line_is)
    ∙ ap (λ (x : List ℕ). line ∷ bare_lines x) (sym c.rest_is)

-- where the code cuts
pub cut_at : (zs : List ℕ) (r : Option ℕ) → IsFirstByte (is_byte 10) zs r
    → min (unwrap_or r (length zs)) (length zs) ≡ position_or_len feeds zs
cut_at zs None h = let e = found_none feeds zs h in omega (arith, e)
cut_at zs (Some k) h =
    let e = found_first feeds zs k h.0 h.1 in
    let high = h.0.high in
    omega (arith, e, high)

pub behind_feed : (after : List ℕ) (r : Option (Bor (List ℕ))) (d : Bor (List ℕ)) → d.now ≡ []
    → IsGetRangeResult after 1 (length after) r → (unwrap_or r d).now ≡ drop 1 after
behind_feed [] None d e h = e
behind_feed (x ∷ xs) None d e h = absurd (true≢false (sym (h.1 (omega arith, omega arith))))
behind_feed after (Some x) d e h = h.0.2 ∙ take_rest after 1
