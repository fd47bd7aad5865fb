-- Texts of lines, one after another.
use Rattle.std.proofs.Common.{◌≡◌, ℕ, suc, ◌+◌, List, [], ◌∷◌, ◌++◌, length, refl, sym, ap, ◌∙◌, append_assoc, Result, Ok, Err}
use Rattle.std.specs.Prelude.{codes, decimal, OnOk}
use Rattle.std.proofs.lemmas.List.{append-nil}
use Rattle.ep_audit.specs.declared.happening.Happening.{Happening}
use Rattle.ep_report.specs.Reports.{text_of, counted, history_lines}

length_history_lines : (place : ℕ) (hs : List Happening) → length (history_lines place hs) ≡ length hs
length_history_lines place [] = refl
length_history_lines place (h ∷ hs) = ap (λ (n : ℕ). suc n) (length_history_lines (place + 1) hs)

text_of_append : (ls more : List (List ℕ)) → text_of (ls ++ more) ≡ text_of ls ++ text_of more
text_of_append [] more = refl
text_of_append (l ∷ ls) more =
    ap (λ (t : List ℕ). l ++ codes "\n" ++ t) (text_of_append ls more)
    ∙ sym (append_assoc (l ++ codes "\n") (text_of ls) (text_of more))

-- further lines make a longer text
pub longer_text : (a b : List ℕ) (ls more : List (List ℕ)) → a ≡ text_of ls → b ≡ a ++ text_of more → b ≡ text_of (ls ++ more)
longer_text a b ls more e f = f ∙ ap (λ (t : List ℕ). t ++ text_of more) e ∙ sym (text_of_append ls more)

-- one part more
pub and_more : (o a b x y : List ℕ) → x ≡ o ++ a → y ≡ x ++ b → y ≡ o ++ (a ++ b)
and_more o a b x y e f = f ∙ ap (λ (t : List ℕ). t ++ b) e ∙ append_assoc o a b

-- the parts of a generation's line in a chain
pub link_reported : {T E : Type 0} (r : Result T E) (o g closing contents t1 t2 whole : List ℕ) →
    t1 ≡ o ++ g → t2 ≡ t1 ++ closing ++ codes " " → OnOk r (whole ≡ t2 ++ contents ++ codes "\n") → OnOk r (whole ≡ o ++ (g ++ closing ++ codes " " ++ contents) ++ codes "\n")
link_reported (Ok x) o g closing contents t1 t2 whole is1 is2 is3 =
    is3 ∙ ap (λ (t : List ℕ). t ++ codes "\n") (
    and_more o (g ++ closing ++ codes " ") contents t2 (t2 ++ contents)
    (and_more o (g ++ closing) (codes " ") (t1 ++ closing) t2 (and_more o g closing t1 (t1 ++ closing) is1 refl) is2) refl)
link_reported (Err x) o g closing contents t1 t2 whole is1 is2 is3 = is3

-- five parts below a first line
pub text_of_parts : (first : List ℕ) (p q r s t : List (List ℕ)) (a b c d e f : List ℕ) →
    a ≡ first ++ codes "\n" → b ≡ a ++ text_of p → c ≡ b ++ text_of q → d ≡ c ++ text_of r → e ≡ d ++ text_of s → f ≡ e ++ text_of t → f ≡ text_of (first ∷ p ++ q ++ r ++ s ++ t)
text_of_parts first p q r s t a b c d e f is1 is2 is3 is4 is5 is6 =
    longer_text e f (first ∷ p ++ q ++ r ++ s) t
    (longer_text d e (first ∷ p ++ q ++ r) s (longer_text c d (first ∷ p ++ q) r (longer_text b c (first ∷ p) q (longer_text a b (first ∷ []) p (is1 ∙ sym (append-nil (first ++ codes "\n"))) is2) is3) is4) is5)
    is6

-- what follows a text is of one piece
one_piece : (o a b c d e : List ℕ) → o ++ a ++ b ++ c ++ d ++ e ≡ o ++ (a ++ b ++ c ++ d ++ e)
one_piece o a b c d e =
    ap (λ (t : List ℕ). t ++ c ++ d ++ e) (append_assoc o a b)
    ∙ ap (λ (t : List ℕ). t ++ d ++ e) (append_assoc o (a ++ b) c)
    ∙ ap (λ (t : List ℕ). t ++ e) (append_assoc o (a ++ b ++ c) d)
    ∙ append_assoc o (a ++ b ++ c ++ d) e

-- a heading and the history's lines are its section
pub text_of_history : (old mid new : List ℕ) (hs : List Happening) →
    mid ≡ old ++ codes "history" ++ codes " " ++ decimal (length hs) ++ codes "\n" →
    new ≡ mid ++ text_of (history_lines 1 hs) →
    new ≡ old ++ text_of (counted (codes "history") (history_lines 1 hs))
text_of_history old mid new hs e f =
    f
    ∙ ap (λ (t : List ℕ). t ++ text_of (history_lines 1 hs)) (e ∙ ap (λ (n : ℕ). old ++ codes "history" ++ codes " " ++ decimal n ++ codes "\n") (sym (length_history_lines 1 hs)))
    ∙ one_piece old (codes "history") (codes " ") (decimal (length (history_lines 1 hs))) (codes "\n") (text_of (history_lines 1 hs))
