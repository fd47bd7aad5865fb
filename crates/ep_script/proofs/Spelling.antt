-- Words of bytes, read and printed.
use Rattle.std.proofs.Common.{◌≡◌, ℕ, ◌+◌, ◌*◌, ◌/◌, ◌%◌, ◌<◌, Bool, true, false, cond, List, [], ◌∷◌, ◌++◌, Some, All, refl, sym, ap, subst, ◌∙◌, arith, append_assoc, length}
use Rattle.std.specs.Prelude.{nat_le, ◌==◌, ◌&&◌, option_and_then, codes}
use Rattle.std.specs.List.{list_all}
use Rattle.std.specs.Str.{bytes_eq}
use Rattle.std.proofs.lemmas.Bool.Decides.{nat_tests}
use Rattle.std.proofs.lemmas.List.{append-nil}
use Rattle.std.proofs.lemmas.List.Elements.{All-head, All-tail}
use Rattle.ep_script.specs.Word.{is_plain, is_above_sign, digit_of, digit_value, digits_byte, byte_word, byte_words, spelled, between, after_sign, word_of, bytes_of, WordLaw}

digit_again : (n : ℕ) → n < 16 → digit_value (digit_of n) ≡ Some n
digit_again n h = grind (arith, nat_tests)

digits_again : (b : ℕ) → b < 256 → digits_byte (digit_of (b / 16)) (digit_of (b % 16)) ≡ Some b
digits_again b h =
    let high : b / 16 < 16 = omega arith in
    let low : b % 16 < 16 = omega arith in
    let whole : 16 * (b / 16) + b % 16 ≡ b = omega arith in
    rw (digit_again (b / 16) high, digit_again (b % 16) low) (ap (λ (n : ℕ). Some n) whole)

plain_is_no_sign : (b : ℕ) → is_plain b ≡ true → (b == 37) ≡ false
plain_is_no_sign b h = grind (arith, nat_tests)

plain_is_high : (b : ℕ) → is_plain b ≡ true → nat_le 33 b ≡ true
plain_is_high b h = grind (arith, nat_tests)

plain_is_low : (b : ℕ) → is_plain b ≡ true → nat_le b 126 ≡ true
plain_is_low b h = grind (arith, nat_tests)

byte_word_plain : (b : ℕ) → is_plain b ≡ true → byte_word b ≡ b ∷ []
byte_word_plain b e = rw e refl

byte_word_other : (b : ℕ) → is_plain b ≡ false → byte_word b ≡ 37 ∷ digit_of (b / 16) ∷ digit_of (b % 16) ∷ []
byte_word_other b e = rw e refl

spelled_plain : (done : List ℕ) (b : ℕ) (rest : List ℕ) → is_plain b ≡ true → spelled between done (b ∷ rest) ≡ spelled between (done ++ b ∷ []) rest
spelled_plain done b rest e = rw (plain_is_no_sign b e, plain_is_high b e, plain_is_low b e) refl

spelled_other : (done : List ℕ) (h l b : ℕ) (rest : List ℕ) → digits_byte h l ≡ Some b → spelled between done (37 ∷ h ∷ l ∷ rest) ≡ spelled between (done ++ b ∷ []) rest
spelled_other done h l b rest e = ap (option_and_then (λ (x : ℕ). spelled between (done ++ x ∷ []) rest)) e

pub escape_once : (done word after rest : List ℕ) (h l b : ℕ) → word ≡ h ∷ after → after ≡ l ∷ rest → digits_byte h l ≡ Some b → spelled after_sign done word ≡ spelled between (done ++ b ∷ []) rest
escape_once done word after rest h l b e f d = rw (e, f) (ap (option_and_then (λ (x : ℕ). spelled between (done ++ x ∷ []) rest)) d)

first_passes : (b : ℕ) (bs : List ℕ) → list_all is_plain (b ∷ bs) ≡ true → is_plain b ≡ true
first_passes b bs h = go (is_plain b) refl h
  where
    go : (p : Bool) → is_plain b ≡ p → (p && list_all is_plain bs) ≡ true → is_plain b ≡ true
    go true e k = e
    go false e k = absurd (cc k)

rest_pass : (b : ℕ) (bs : List ℕ) → list_all is_plain (b ∷ bs) ≡ true → list_all is_plain bs ≡ true
rest_pass b bs h = go (is_plain b) h
  where
    go : (p : Bool) → (p && list_all is_plain bs) ≡ true → list_all is_plain bs ≡ true
    go true k = k
    go false k = absurd (cc k)

-- one byte is read back
spelled_byte : (done : List ℕ) (b : ℕ) (rest : List ℕ) → b < 256 → spelled between done (byte_word b ++ rest) ≡ spelled between (done ++ b ∷ []) rest
spelled_byte done b rest h = by_plain (is_plain b) refl
  where
    by_plain : (p : Bool) → is_plain b ≡ p → spelled between done (byte_word b ++ rest) ≡ spelled between (done ++ b ∷ []) rest
    by_plain true e = ap (λ (w : List ℕ). spelled between done (w ++ rest)) (byte_word_plain b e) ∙ spelled_plain done b rest e
    by_plain false e = ap (λ (w : List ℕ). spelled between done (w ++ rest)) (byte_word_other b e) ∙ spelled_other done (digit_of (b / 16)) (digit_of (b % 16)) b rest (digits_again b h)

spelled_bytes : (done bs : List ℕ) → All (λ b. b < 256) bs → spelled between done (byte_words bs) ≡ Some (done ++ bs)
spelled_bytes done [] h = ap (λ (l : List ℕ). Some l) (sym (append-nil done))
spelled_bytes done (b ∷ bs) h =
    spelled_byte done b (byte_words bs) (All-head (λ b. b < 256) b bs h)
    ∙ spelled_bytes (done ++ b ∷ []) bs (All-tail (λ b. b < 256) b bs h)
    ∙ ap (λ (l : List ℕ). Some l) (append_assoc done (b ∷ []) bs)

-- no digit is a hyphen
digit_is_no_hyphen : (n : ℕ) → (digit_of n == 45) ≡ false
digit_is_no_hyphen n = grind (arith, nat_tests)

not_none : (c : ℕ) (ws : List ℕ) → bytes_eq (c ∷ ws) (codes "%-") ≡ false → bytes_of (c ∷ ws) ≡ spelled between [] (c ∷ ws)
not_none c ws e = ap (λ (t : Bool). cond t (Some []) (spelled between [] (c ∷ ws))) e

first_differs : (c : ℕ) (ws : List ℕ) → (c == 37) ≡ false → bytes_eq (c ∷ ws) (codes "%-") ≡ false
first_differs c ws e = rw e refl

second_differs : (h : ℕ) (ws : List ℕ) → (h == 45) ≡ false → bytes_eq (37 ∷ h ∷ ws) (codes "%-") ≡ false
second_differs h ws e = rw e refl

-- what is printed for some bytes is not the word of the empty value
some_is_not_none : (b : ℕ) (ws : List ℕ) → bytes_of (byte_word b ++ ws) ≡ spelled between [] (byte_word b ++ ws)
some_is_not_none b ws = by_plain (is_plain b) refl
  where
    by_plain : (p : Bool) → is_plain b ≡ p → bytes_of (byte_word b ++ ws) ≡ spelled between [] (byte_word b ++ ws)
    by_plain true e = subst (λ (w : List ℕ). bytes_of (w ++ ws) ≡ spelled between [] (w ++ ws)) (sym (byte_word_plain b e)) (not_none b ws (first_differs b ws (plain_is_no_sign b e)))
    by_plain false e = subst (λ (w : List ℕ). bytes_of (w ++ ws) ≡ spelled between [] (w ++ ws)) (sym (byte_word_other b e)) (not_none 37 (digit_of (b / 16) ∷ digit_of (b % 16) ∷ ws) (second_differs (digit_of (b / 16)) (digit_of (b % 16) ∷ ws) (digit_is_no_hyphen (b / 16))))

pub word_law_holds : WordLaw
word_law_holds [] h = refl
word_law_holds (b ∷ bs) h = some_is_not_none b (byte_words bs) ∙ spelled_bytes [] (b ∷ bs) h

-- bytes that stand for themselves are printed as themselves
plain_bytes : (bs : List ℕ) → list_all is_plain bs ≡ true → byte_words bs ≡ bs
plain_bytes [] h = refl
plain_bytes (b ∷ bs) h = let e = first_passes b bs h in rw (byte_word_plain b e) (ap (λ (t : List ℕ). b ∷ t) (plain_bytes bs (rest_pass b bs h)))

pub plain_word : (w : List ℕ) → 0 < length w → list_all is_plain w ≡ true → word_of w ≡ w
plain_word [] n h = absurd (omega arith)
plain_word (b ∷ bs) n h = plain_bytes (b ∷ bs) h

-- and are read as themselves
spelled_plainly : (done bs : List ℕ) → list_all is_plain bs ≡ true → spelled between done bs ≡ Some (done ++ bs)
spelled_plainly done [] h = ap (λ (l : List ℕ). Some l) (sym (append-nil done))
spelled_plainly done (b ∷ bs) h =
    spelled_plain done b bs (first_passes b bs h)
    ∙ spelled_plainly (done ++ b ∷ []) bs (rest_pass b bs h)
    ∙ ap (λ (l : List ℕ). Some l) (append_assoc done (b ∷ []) bs)

pub plain_spells_itself : (w : List ℕ) → 0 < length w → list_all is_plain w ≡ true → bytes_of w ≡ Some w
plain_spells_itself [] n h = absurd (omega arith)
plain_spells_itself (b ∷ bs) n h = not_none b bs (first_differs b bs (plain_is_no_sign b (first_passes b bs h))) ∙ spelled_plainly [] (b ∷ bs) h

above_is_plain : (b : ℕ) → is_above_sign b ≡ true → is_plain b ≡ true
above_is_plain b h = grind (arith, nat_tests)

-- what is above the sign is plain
pub above_are_plain : (bs : List ℕ) → list_all is_above_sign bs ≡ true → list_all is_plain bs ≡ true
above_are_plain [] h = refl
above_are_plain (b ∷ bs) h = go (is_above_sign b) refl h (above_are_plain bs)
  where
    go : (p : Bool) → is_above_sign b ≡ p → (p && list_all is_above_sign bs) ≡ true
        → (list_all is_above_sign bs ≡ true → list_all is_plain bs ≡ true) → list_all is_plain (b ∷ bs) ≡ true
    go true e k rest = rw (above_is_plain b e) (rest k)
    go false e k rest = absurd (cc k)
