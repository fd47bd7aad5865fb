-- The first line of some bytes.
use Rattle.std.proofs.Common.{◌≡◌, ◌≢◌, ℕ, zero, suc, ◌+◌, ◌-◌, ◌<◌, ◌≤◌, ◌==◌, Bool, true, false, cond, not, min, take, drop, subst, List, [], ◌∷◌, ◌++◌, length, Option, refl, sym, ap, ◌∙◌, arith, All, length-append, append_assoc}
use Rattle.std.proofs.lemmas.List.{append-nil, length-take, take-append-drop, drop-drop, drop-take}
use Rattle.std.proofs.lemmas.List.Elements.{All-nil, All-cons, All-append, All-head, All-tail}
use Rattle.std.proofs.lemmas.List.Splits.{slice_split_at, slice_split_none, slice_split-cons_no}
use Rattle.std.proofs.lemmas.Bool.Decides.{eqb_tells}
use Rattle.std.specs.List.{slice_split, onto_first, position_or_len, slice_range}
use Rattle.ep_script.specs.Window.{HasLeft}
use Rattle.ep_script.specs.SoFar.{SoFar, IsNoFeed, TakesRun}
use Rattle.ep_script.specs.RawLines.{raw_lines, lines_of_parts, GotOf, longest}
use Rattle.ep_script.proofs.Splitting.{begins, rest_begins}
use Rattle.ep_script.specs.declared.got.Got.TheVariants.{Line, End, TooLong}

abbrev pub feeds : ℕ → Bool
feeds b = b == 10

split_cons : (zs : List ℕ) → (y : List ℕ) × (ys : List (List ℕ)) × (slice_split feeds zs ≡ y ∷ ys)
split_cons [] = ([], [], refl)
split_cons (z ∷ zs) = let h = split_cons zs in elim (feeds z) as (λ b. (y : List ℕ) × (ys : List (List ℕ)) × (cond b ([] ∷ slice_split feeds zs) (onto_first z (slice_split feeds zs)) ≡ y ∷ ys)) [
  | true ↦ ([], slice_split feeds zs, refl)
  | false ↦ (z ∷ h.0, h.1, ap (onto_first z) h.2)
]

parts_cons : (x : List ℕ) (ps : List (List ℕ)) (y : List ℕ) (ys : List (List ℕ)) → ps ≡ y ∷ ys → lines_of_parts (x ∷ ps) ≡ x ∷ lines_of_parts ps
parts_cons x ps y ys e = rw e refl

pub line_at : (zs line rest : List ℕ) → zs ≡ line ++ 10 ∷ rest → All IsNoFeed line → raw_lines zs ≡ line ∷ raw_lines rest
line_at zs line rest e plain =
    let s = slice_split_at feeds line 10 rest plain refl in
    let c = split_cons rest in
    ap raw_lines e ∙ ap lines_of_parts s ∙ parts_cons line (slice_split feeds rest) c.0 c.1 c.2

last_parts : (line : List ℕ) → line ≢ [] → lines_of_parts (line ∷ []) ≡ line ∷ []
last_parts [] h = absurd (h refl)
last_parts (x ∷ xs) h = refl

pub last_line : (zs line : List ℕ) → zs ≡ line ++ [] → All IsNoFeed line → line ≢ [] → raw_lines zs ≡ line ∷ raw_lines []
last_line zs line e plain some = ap raw_lines (e ∙ append-nil line) ∙ ap lines_of_parts (slice_split_none feeds line plain) ∙ last_parts line some

split_onto : (line rest y : List ℕ) (ys : List (List ℕ)) → slice_split feeds rest ≡ y ∷ ys → All IsNoFeed line → slice_split feeds (line ++ rest) ≡ (line ++ y) ∷ ys
split_onto [] rest y ys e plain = e
split_onto (x ∷ xs) rest y ys e plain =
    slice_split-cons_no feeds x (xs ++ rest) (All-head IsNoFeed x xs plain) ∙ ap (onto_first x) (split_onto xs rest y ys e (All-tail IsNoFeed x xs plain))

first_part : (l : List ℕ) (ps : List (List ℕ)) → 0 < length l → (ls : List (List ℕ)) × (lines_of_parts (l ∷ ps) ≡ l ∷ ls)
first_part [] ps h = absurd (omega arith)
first_part (x ∷ xs) [] h = ([], refl)
first_part (x ∷ xs) (p ∷ ps) h = (lines_of_parts (p ∷ ps), refl)

pub long_line : (zs line rest : List ℕ) → zs ≡ line ++ rest → All IsNoFeed line → longest < length line → (l : List ℕ) × (ls : List (List ℕ)) × (raw_lines zs ≡ l ∷ ls) × (longest < length l)
long_line zs line rest e plain long =
    let c = split_cons rest in
    let s = split_onto line rest c.0 c.1 c.2 plain in
    let more : longest < length (line ++ c.0) = omega (arith, length-append line c.0) in
    let f = first_part (line ++ c.0) c.1 (omega arith) in
    (line ++ c.0, f.0, ap raw_lines e ∙ ap lines_of_parts s ∙ f.1, more)

-- what a pull leaves
abbrev Pulled : List ℕ → Option (List ℕ) → List ℕ → Option (List ℕ) → Type 0
Pulled window left window' left' = (ws : List ℕ) → HasLeft window left ws → HasLeft window' left' ws × (window' ≡ [] → ws ≡ [])

pub so_far_pulled : (zs line window window' : List ℕ) (left left' : Option (List ℕ)) → Pulled window left window' left' → SoFar zs line window left → SoFar zs line window' left'
so_far_pulled zs line window window' left left' pulled h = (h.0, h.1, (pulled h.0 h.2).0, h.3)

none_left : (window rest : List ℕ) (left : Option (List ℕ)) → rest ≡ [] → HasLeft window left rest → HasLeft window left []
none_left window rest left e h = subst (HasLeft window left) e h

pub so_far_last : (zs line window window' : List ℕ) (left left' : Option (List ℕ)) → length line ≤ longest → line ≢ [] → window' ≡ []
    → Pulled window left window' left' → SoFar zs line window left → GotOf Line zs line window' left'
so_far_last zs line window window' left left' short some over pulled h =
    let k = pulled h.0 h.2 in
    let none : h.0 ≡ [] = k.1 over in
    ([], last_line zs line (h.1 ∙ ap (λ (l : List ℕ). line ++ l) none) h.3 some, short, none_left window' h.0 left' none k.0)

pub so_far_end : (zs line window window' : List ℕ) (left left' : Option (List ℕ)) → line ≡ [] → window' ≡ []
    → Pulled window left window' left' → SoFar zs line window left → GotOf End zs line window' left'
so_far_end zs line window window' left left' none over pulled h = h.1 ∙ ap (λ (l : List ℕ). l ++ h.0) none ∙ (pulled h.0 h.2).1 over

-- a run of bytes more was read
so_far_run : (zs line run window window' : List ℕ) (left : Option (List ℕ)) → window ≡ run ++ window' → All IsNoFeed run → SoFar zs line window left → SoFar zs (line ++ run) window' left
so_far_run zs line run window window' left e plain h =
    let ys = h.2.0 in (
      window' ++ ys,
      h.1 ∙ ap (λ (l : List ℕ). line ++ l) (h.2.2 ∙ ap (λ (l : List ℕ). l ++ ys) e ∙ append_assoc run window' ys) ∙ sym (append_assoc line run (window' ++ ys)),
      (ys, h.2.1, refl),
      All-append IsNoFeed line run h.3 plain,
    )

pub so_far_more : (zs line line' window window' : List ℕ) (left : Option (List ℕ)) → TakesRun false window window' line line' → SoFar zs line window left → SoFar zs line' window' left
so_far_more zs line line' window window' left t h = subst (λ (l : List ℕ). SoFar zs l window' left) (sym t.1) (so_far_run zs line t.0 window window' left t.3.0 t.2 h)

pub so_far_feed : (zs line line' window window' : List ℕ) (left : Option (List ℕ)) → TakesRun true window window' line line' → SoFar zs line window left → GotOf Line zs line' window' left
unfolding so_far_run
so_far_feed zs line line' window window' left t h =
    let k = so_far_run zs line t.0 window (10 ∷ window') left t.3.0 t.2 h in
    let ys = h.2.0 in
    subst (λ (l : List ℕ). GotOf Line zs l window' left) (sym t.1) (window' ++ ys, line_at zs (line ++ t.0) (window' ++ ys) k.1 k.3, subst (λ (l : List ℕ). length l ≤ longest) t.1 t.3.1, (ys, h.2.1, refl))

pub so_far_long : (zs line window : List ℕ) (left : Option (List ℕ)) → longest < length line → SoFar zs line window left → GotOf TooLong zs line window left
so_far_long zs line window left long h = long_line zs line h.0 h.1 h.3 long

-- bytes before the first line feed
pub plain_take : (n : ℕ) (bs : List ℕ) → n ≤ position_or_len feeds bs → All IsNoFeed (take n bs)
plain_take zero bs h = All-nil IsNoFeed
plain_take (suc n) [] h = All-nil IsNoFeed
plain_take (suc n) (b ∷ bs) h = go (feeds b) refl h (λ k. plain_take n bs k)
  where
    go : (t : Bool) → feeds b ≡ t → suc n ≤ cond (not t) (1 + position_or_len feeds bs) 0 → (n ≤ position_or_len feeds bs → All IsNoFeed (take n bs)) → All IsNoFeed (b ∷ take n bs)
    go true e k f = absurd (omega arith)
    go false e k f = All-cons IsNoFeed b (take n bs) e (f (omega arith))

pub feed_first : (d : List ℕ) → begins feeds d → d ≢ [] → d ≡ 10 ∷ drop 1 d
feed_first [] h some = absurd (some refl)
feed_first (y ∷ ys) h some = ap (λ (b : ℕ). b ∷ ys) (ten y h)
  where
    ten : (y : ℕ) → (y == 10) ≡ true → y ≡ 10
    ten y h = grind (arith, eqb_tells y 10)

-- n bytes went from the window to the line, of which there are so many before the first feed, or so many more than a line can have
pub record IsRun (window : List ℕ) (n : ℕ) (line line' window' : List ℕ) : Type 0 where
  pub count : n ≡ min (longest + 1 - length line) (position_or_len feeds window)
  pub bound : n ≤ length window
  pub short : length line ≤ longest
  pub some : window ≢ []
  pub line_is : line' ≡ line ++ take n window
  pub window_is : window' ≡ drop n window

length_of_run : (window : List ℕ) (n : ℕ) (line line' window' : List ℕ) → IsRun window n line line' window' → length line' ≡ length line + n
length_of_run window n line line' window' r =
    let a = length-append line (take n window) in
    let t = length-take n window in
    let b = r.bound in
    ap (length {A = ℕ}) r.line_is ∙ omega (arith, a, t, b)

plain_of_run : (window : List ℕ) (n : ℕ) (line line' window' : List ℕ) → IsRun window n line line' window' → All IsNoFeed (take n window)
plain_of_run window n line line' window' r = let c = r.count in plain_take n window (omega (arith, c))

split_of_run : (window : List ℕ) (n : ℕ) (line line' window' : List ℕ) → IsRun window n line line' window' → window ≡ take n window ++ window'
split_of_run window n line line' window' r = sym (take-append-drop n window) ∙ ap (λ (d : List ℕ). take n window ++ d) (sym r.window_is)

-- the line isn't too long, so what is left begins with the feed
pub run_fed : (window : List ℕ) (n : ℕ) (line line' window' window'' : List ℕ) → IsRun window n line line' window' → length line' ≤ longest → window' ≢ [] → window'' ≡ drop 1 window' → TakesRun true window window'' line line'
run_fed window n line line' window' window'' r short some e =
    let c = r.count in
    let l = length_of_run window n line line' window' r in
    let all : position_or_len feeds window ≡ n = omega (arith, c, l, short) in
    let first : begins feeds window' = subst (begins feeds) (sym r.window_is) (subst (λ (m : ℕ). begins feeds (drop m window)) all (rest_begins feeds window)) in (
      take n window,
      r.line_is,
      plain_of_run window n line line' window' r,
      (split_of_run window n line line' window' r ∙ ap (λ (d : List ℕ). take n window ++ d) (feed_first window' first some ∙ ap (λ (d : List ℕ). 10 ∷ d) (sym e)), short),
    )

pub run_more : (window : List ℕ) (n : ℕ) (line line' window' : List ℕ) → IsRun window n line line' window' → (length line' ≤ longest → window' ≢ [] → ⊥) → TakesRun false window window' line line'
run_more window n line line' window' r other =
    let t = length-take n window in
    let b = r.bound in
    let l = length_of_run window n line line' window' r in (
      take n window,
      r.line_is,
      plain_of_run window n line line' window' r,
      (split_of_run window n line line' window' r, grown n window line line' window' r l t b other),
    )
  where
    grown : (n : ℕ) (window line line' window' : List ℕ) → IsRun window n line line' window' → length line' ≡ length line + n → length (take n window) ≡ min n (length window) → n ≤ length window
        → (length line' ≤ longest → window' ≢ [] → ⊥) → 0 < length (take n window)
    grown zero window line line' window' r l t b other = let s = r.short in absurd (other (omega (arith, l, s)) (λ e. r.some (sym r.window_is ∙ e)))
    grown (suc n) window line line' window' r l t b other = omega (arith, t, b)

pub is_run : (window bytes bytes' : List ℕ) (n len : ℕ) (line line' window' : List ℕ) → bytes ≡ window → bytes' ≡ window → len ≡ length line → n ≡ min (longest + 1 - len) (position_or_len feeds bytes) → n ≤ length bytes
    → length line ≤ longest → window ≢ [] → line' ≡ line ++ take n bytes' → window' ≡ drop n window → IsRun window n line line' window'
is_run window bytes bytes' n len line line' window' e f l c b short some g d = record {
  count = subst (λ (x : List ℕ). n ≡ min (longest + 1 - length line) (position_or_len feeds x)) e (subst (λ (k : ℕ). n ≡ min (longest + 1 - k) (position_or_len feeds bytes)) l c);
  bound = subst (λ (x : List ℕ). n ≤ length x) e b;
  short = short;
  some = some;
  line_is = g ∙ ap (λ (x : List ℕ). line ++ take n x) f;
  window_is = d;
}

-- bytes of a window are skipped
pub skipped : (bs : List ℕ) (a b k : ℕ) → a ≤ b → k ≤ length (slice_range bs a b) → slice_range bs (a + k) b ≡ drop k (slice_range bs a b)
skipped bs a b k h le =
    let t = length-take (b - a) (drop a bs) in
    let e : b - a ≡ k + (b - (a + k)) = omega (arith, t, le, h) in
    ap (take (b - (a + k))) (sym (drop-drop k a bs)) ∙ sym (drop-take k (b - (a + k)) (drop a bs)) ∙ ap (λ (n : ℕ). drop k (take n (drop a bs))) (sym e)
