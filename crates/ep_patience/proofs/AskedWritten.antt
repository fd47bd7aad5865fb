-- What is asked for, as bytes.
use Rattle.std.proofs.Common.{Bool, true, false, cond, subst, ◌≡◌, ◌≤◌, ◌<◌, ◌+◌, ℕ, zero, suc, List, [], ◌∷◌, ◌++◌, length, take, get_or, sym, ap, ◌∙◌, append-nil, append_assoc, arith}
use Rattle.std.proofs.lemmas.List.{take_all, take_more}
use Rattle.ep_patience.specs.OpenBytes.{asked_bytes, remedy_bytes}
use Rattle.ep_patience.specs.Turning.{most_of, HasTurned}
use Rattle.ep_patience.specs.declared.patience.Patience.{Patience}
use Rattle.ep_patience.specs.declared.seen.Seen.{Seen}
use Rattle.ep_patience.specs.declared.remedy.Remedy.{Remedy}

asked_more : (rs : List Remedy) (r : Remedy) → asked_bytes (rs ++ r ∷ []) ≡ asked_bytes rs ++ remedy_bytes r
asked_more [] r = append-nil (remedy_bytes r)
asked_more (s ∷ rs) r = ap (λ (bs : List ℕ). remedy_bytes s ++ bs) (asked_more rs r) ∙ sym (append_assoc (remedy_bytes s) (asked_bytes rs) (remedy_bytes r))

pub one_written : (rs : List Remedy) (n : ℕ) (r : Remedy) (before bs bs' : List ℕ) → n < length rs → r ≡ get_or rs n r → bs' ≡ bs ++ remedy_bytes r → bs ≡ before ++ asked_bytes (take n rs) → bs' ≡ before ++ asked_bytes (take (n + 1) rs)
one_written rs n r before bs bs' lt is more so =
    let front : asked_bytes (take n rs) ++ remedy_bytes r ≡ asked_bytes (take (n + 1) rs) = sym (asked_more (take n rs) r) ∙ ap asked_bytes (ap (λ (x : Remedy). take n rs ++ x ∷ []) is ∙ sym (take_more rs n r lt)) in
    more ∙ ap (λ (xs : List ℕ). xs ++ remedy_bytes r) so ∙ append_assoc before (asked_bytes (take n rs)) (remedy_bytes r) ∙ ap (λ (xs : List ℕ). before ++ xs) front

pub all_written : (rs : List Remedy) (n : ℕ) (before bs : List ℕ) → length rs ≤ n → bs ≡ before ++ asked_bytes (take n rs) → bs ≡ before ++ asked_bytes rs
all_written rs n before bs over so = so ∙ ap (λ (xs : List Remedy). before ++ asked_bytes xs) (take_all n rs over)

length_taken : (n : ℕ) (rs : List Remedy) → length (take n rs) ≤ n
length_taken zero rs = omega arith
length_taken (suc n) [] = omega arith
length_taken (suc n) (r ∷ rs) = let le = length_taken n rs in omega (arith, le)

-- a turn asks for at most 64 events
at_most : (b : Bool) → cond b 0 64 ≤ 64
at_most true = omega arith
at_most false = omega arith

pub asked_short : (p : Patience) (now : ℕ) (seen : List Seen) (q : Patience) (asked : List Remedy) → HasTurned p now seen q asked → length asked ≤ 64
asked_short p now seen q asked turned =
    let taken : length asked ≤ most_of p = subst (λ (rs : List Remedy). length rs ≤ most_of p) (sym turned.turns.late) (length_taken (most_of p) _) in
    let most : most_of p ≤ 64 = at_most _ in
    omega (arith, taken, most)
