-- The first part of what is split, and the rest.
use Rattle.std.proofs.Common.{◌≡◌, ℕ, suc, ◌+◌, ◌<◌, ◌≤◌, Bool, true, false, cond, not, List, [], ◌∷◌, length, get_or, take, drop, refl, sym, ap, ◌∙◌, arith, filter}
use Rattle.std.specs.Prelude.{◌==◌, ◌-◌, nat_lt, MatchBool, None}
use Rattle.std.specs.List.{slice_split, onto_first, position_or_len}
use Rattle.std.proofs.lemmas.Bool.Decides.{nat_tests}
use Rattle.std.proofs.lemmas.List.Splits.{slice_split-cons_yes, slice_split-cons_no}
use Rattle.std.proofs.lemmas.List.{length-drop, drop-drop, take_rest}
use Rattle.std.proofs.lemmas.List.Sums.{position_or_len_is}
use Rattle.std.proofs.Math.Seq.{take-length, drop-length}
use Rattle.memchr.specs.Find.{NoneBefore, Nowhere, Passes}
use Rattle.ep_base.specs.declared.version.Version.{Version}
use Rattle.ep_script.specs.Grammar.{parts_of, instance_parts}
use Rattle.ep_script.specs.Parts.{is_blank, words_of}
use Rattle.ep_script.specs.Places.{BeginsWithout}

abbrev rest_parts : (ℕ → Bool) → List ℕ → List (List ℕ)
rest_parts p [] = []
rest_parts p (y ∷ ys) = slice_split p ys

abbrev pub begins : (ℕ → Bool) → List ℕ → Type 0
begins p [] = Unit {0}
begins p (y ∷ ys) = p y ≡ true

one_more : (n : ℕ) → 1 + n ≡ suc n
one_more n = omega arith

take_more : (n x : ℕ) (xs : List ℕ) → take (1 + n) (x ∷ xs) ≡ x ∷ take n xs
take_more n x xs = rw (one_more n) refl

drop_more : (n x : ℕ) (xs : List ℕ) → drop (1 + n) (x ∷ xs) ≡ drop n xs
drop_more n x xs = rw (one_more n) refl

-- the parts are what stands before the first element that passes, and those of what stands after it
parts_at : (p : ℕ → Bool) (xs : List ℕ) → slice_split p xs ≡ take (position_or_len p xs) xs ∷ rest_parts p (drop (position_or_len p xs) xs)
parts_at p [] = refl
parts_at p (x ∷ xs) =
    elim (p x) as (λ b. cond b ([] ∷ slice_split p xs) (onto_first x (slice_split p xs)) ≡ take (cond (not b) (1 + position_or_len p xs) 0) (x ∷ xs) ∷ rest_parts p (drop (cond (not b) (1 + position_or_len p xs) 0) (x ∷ xs))) [
      | true ↦ refl
      | false ↦ rw (take_more (position_or_len p xs) x xs, drop_more (position_or_len p xs) x xs) (ap (onto_first x) (parts_at p xs))
    ]

pub rest_begins : (p : ℕ → Bool) (xs : List ℕ) → begins p (drop (position_or_len p xs) xs)
rest_begins p [] = tt
rest_begins p (x ∷ xs) = go (p x) refl (rest_begins p xs)
  where
    go : (b : Bool) → p x ≡ b → begins p (drop (position_or_len p xs) xs) → begins p (drop (cond (not b) (1 + position_or_len p xs) 0) (x ∷ xs))
    go true e h = e
    go false e h = rw (drop_more (position_or_len p xs) x xs) h

abbrev some : List ℕ → Bool
some w = not (length w == 0)

some_passes : (c : ℕ) (cs : List ℕ) → some (c ∷ cs) ≡ true
some_passes c cs = grind (arith, nat_tests)

filter_some : (c : ℕ) (cs : List ℕ) (ws : List (List ℕ)) → filter some ((c ∷ cs) ∷ ws) ≡ (c ∷ cs) ∷ filter some ws
filter_some c cs ws = ap (λ (b : Bool). cond b ((c ∷ cs) ∷ filter some ws) (filter some ws)) (some_passes c cs)

pub words_skip : (b : ℕ) (bs : List ℕ) → is_blank b ≡ true → words_of (b ∷ bs) ≡ words_of bs
words_skip b bs e = ap (filter some) (slice_split-cons_yes is_blank b bs e)

words_rest : (ys : List ℕ) → begins is_blank ys → words_of ys ≡ filter some (rest_parts is_blank ys)
words_rest [] h = refl
words_rest (y ∷ ys) h = words_skip y ys h

words_some : (x : ℕ) (xs : List ℕ) → is_blank x ≡ false → words_of (x ∷ xs) ≡ (x ∷ take (position_or_len is_blank xs) xs) ∷ words_of (drop (position_or_len is_blank xs) xs)
words_some x xs e =
    let n = position_or_len is_blank xs in
    ap (filter some) (slice_split-cons_no is_blank x xs e ∙ ap (onto_first x) (parts_at is_blank xs))
    ∙ filter_some x (take n xs) (rest_parts is_blank (drop n xs))
    ∙ ap (λ (ws : List (List ℕ)). (x ∷ take n xs) ∷ ws) (sym (words_rest (drop n xs) (rest_begins is_blank xs)))

position_more : (p : ℕ → Bool) (x : ℕ) (xs : List ℕ) → p x ≡ false → position_or_len p (x ∷ xs) ≡ 1 + position_or_len p xs
position_more p x xs e = ap (λ (b : Bool). cond (not b) (1 + position_or_len p xs) 0) e

-- where blanks were left out, the first word ends at the next blank
pub first_word : (line rest : List ℕ) (n : ℕ) → words_of rest ≡ words_of line → BeginsWithout is_blank rest → 0 < length rest → n ≡ position_or_len is_blank rest → words_of line ≡ take n rest ∷ words_of (drop n rest)
first_word line [] n e w s k = absurd (omega arith)
first_word line (x ∷ xs) n e w s k =
    rw (k ∙ position_more is_blank x xs w, take_more (position_or_len is_blank xs) x xs, drop_more (position_or_len is_blank xs) x xs) (sym e ∙ words_some x xs w)

-- the parts of a word: all of it, or what stands before the first dot and the parts of what stands after it
pub dotted : (w : List ℕ) (n : ℕ) → n ≡ position_or_len (λ b. b == 46) w → n < length w → parts_of w ≡ take n w ∷ parts_of (drop 1 (drop n w))
dotted w n k h = rw k (parts_at (λ b. b == 46) w ∙ ap (λ (ps : List (List ℕ)). take (position_or_len (λ b. b == 46) w) w ∷ ps) (go (drop (position_or_len (λ b. b == 46) w) w) (some_left w n (position_or_len (λ b. b == 46) w) k h)))
  where
    go : (ys : List ℕ) → 0 < length ys → rest_parts (λ b. b == 46) ys ≡ parts_of (drop 1 ys)
    go [] s = absurd (omega arith)
    go (y ∷ ys) s = refl

    some_left : (w : List ℕ) (n m : ℕ) → n ≡ m → n < length w → 0 < length (drop m w)
    some_left w n m e h = let l = length-drop m w in omega (arith, l, e, h)

pub undotted : (w : List ℕ) (n : ℕ) → n ≡ position_or_len (λ b. b == 46) w → n ≡ length w → parts_of w ≡ w ∷ []
undotted w n k h = parts_at (λ b. b == 46) w ∙ rw (sym k ∙ h) (whole w)
  where
    whole : (w : List ℕ) → take (length w) w ∷ rest_parts (λ b. b == 46) (drop (length w) w) ≡ w ∷ []
    whole w = rw (take-length w, drop-length w) refl

-- a third part, whatever it is
pub too_many : (n : ℕ) (v : Version) (w r : List ℕ) (m : ℕ) → m ≡ position_or_len (λ b. b == 46) w → m < length w → instance_parts n v (r ∷ parts_of w) ≡ None
too_many n v w r m k h = ap (λ (ps : List (List ℕ)). instance_parts n v (r ∷ ps)) (dotted w m k h ∙ ap (λ (ps : List (List ℕ)). take m w ∷ ps) (parts_at (λ b. b == 46) (drop 1 (drop m w))))

pub after_dot : (w : List ℕ) (n : ℕ) → n ≡ position_or_len (λ b. b == 46) w → n < length w → parts_of w ≡ take n w ∷ parts_of (take (length w - (n + 1)) (drop (n + 1) w))
after_dot w n k h = dotted w n k h ∙ ap (λ (x : List ℕ). take n w ∷ parts_of x) (sym (take_rest w (n + 1) ∙ next n w))
  where
    next : (n : ℕ) (w : List ℕ) → drop (n + 1) w ≡ drop 1 (drop n w)
    next n w = sym (drop-drop 1 n w)

-- whether there is a dot
pub has_more : (w : List ℕ) (m : ℕ) → m ≡ position_or_len (λ b. b == 46) w → m ≤ length w
    → MatchBool (nat_lt m (length w)) ((n : ℕ) (v : Version) (first : List ℕ) → instance_parts n v (first ∷ parts_of w) ≡ None) (parts_of w ≡ w ∷ [])
has_more w m k h = go (nat_lt m (length w)) refl
  where
    go : (b : Bool) → nat_lt m (length w) ≡ b → MatchBool b ((n : ℕ) (v : Version) (first : List ℕ) → instance_parts n v (first ∷ parts_of w) ≡ None) (parts_of w ≡ w ∷ [])
    go true e = let less : m < length w = grind (arith, nat_tests) in λ n v first. too_many n v w first m k less
    go false e = let same : m ≡ length w = grind (arith, nat_tests) in undotted w m k same

-- The first place at which a search stops.

not_passed : (b : Bool) → (b ≡ true → ⊥) → b ≡ false
not_passed true h = absurd (h refl)
not_passed false h = refl

pub found_first : (p : ℕ → Bool) (xs : List ℕ) (k : ℕ) → NoneBefore (Passes p xs) 0 (length xs) k → Passes p xs k → k ≡ position_or_len p xs
found_first p xs k none hit = sym (position_or_len_is p xs k 0 (let high = none.high in omega arith) (λ j below. not_passed (p (get_or xs j 0)) (none.before j (omega arith) below)) (λ _. hit))

pub found_none : (p : ℕ → Bool) (xs : List ℕ) → Nowhere (Passes p xs) 0 (length xs) → length xs ≡ position_or_len p xs
found_none p xs none = sym (position_or_len_is p xs (length xs) 0 (omega arith) (λ j below. not_passed (p (get_or xs j 0)) (none j (omega arith) below)) (λ below. absurd (omega arith)))
