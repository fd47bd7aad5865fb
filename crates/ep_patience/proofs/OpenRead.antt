-- Open instances, from their bytes.
use Rattle.std.proofs.Common.{◌≡◌, ◌≤◌, ◌<◌, ℕ, Bool, true, false, cond, ltb, List, [], ◌∷◌, ◌++◌, length, drop, take, ◌-◌, length-drop, refl, sym, ap, subst, ◌∙◌, append-nil, append_assoc, arith}
use Rattle.std.specs.Prelude.{Option, Some, None}
use Rattle.std.proofs.lemmas.Bool.Decides.{nat_tests}
use Rattle.std.proofs.lemmas.List.{take_all}
use Rattle.std.proofs.lemmas.Option.{none-some, same_Some}
use Rattle.ep_base.specs.Deps.{IsBelowFirst, IsRising}
use Rattle.ep_patience.specs.OpenBytes.{above, instance_or, listed, open_from, open_list, seen_at}
use Rattle.ep_patience.specs.Turning.{instances}
use Rattle.ep_patience.specs.declared.seen.Seen.{Seen}

-- what was read, and what is left
abbrev pub joined : List Seen → Option (List Seen) → Option (List Seen)
joined xs None = None
joined xs (Some ys) = Some (xs ++ ys)

pub open_more : (last : ℕ) (bs : List ℕ) → 10 ≤ length bs → open_from last bs ≡ listed (above last (seen_at bs)) (open_from (instance_or last (above last (seen_at bs))) (drop 10 bs))
open_more last [] le = absurd (omega (arith, le))
open_more last (a ∷ []) le = absurd (omega (arith, le))
open_more last (a ∷ b ∷ []) le = absurd (omega (arith, le))
open_more last (a ∷ b ∷ c ∷ []) le = absurd (omega (arith, le))
open_more last (a ∷ b ∷ c ∷ d ∷ []) le = absurd (omega (arith, le))
open_more last (a ∷ b ∷ c ∷ d ∷ e ∷ []) le = absurd (omega (arith, le))
open_more last (a ∷ b ∷ c ∷ d ∷ e ∷ f ∷ []) le = absurd (omega (arith, le))
open_more last (a ∷ b ∷ c ∷ d ∷ e ∷ f ∷ g ∷ []) le = absurd (omega (arith, le))
open_more last (a ∷ b ∷ c ∷ d ∷ e ∷ f ∷ g ∷ h ∷ []) le = absurd (omega (arith, le))
open_more last (a ∷ b ∷ c ∷ d ∷ e ∷ f ∷ g ∷ h ∷ i ∷ []) le = absurd (omega (arith, le))
open_more last (a ∷ b ∷ c ∷ d ∷ e ∷ f ∷ g ∷ h ∷ i ∷ j ∷ rest) le = refl

pub open_short : (last : ℕ) (bs : List ℕ) → length bs < 10 → 0 < length bs → open_from last bs ≡ None
open_short last [] lt some = absurd (omega (arith, some))
open_short last (a ∷ []) lt some = refl
open_short last (a ∷ b ∷ []) lt some = refl
open_short last (a ∷ b ∷ c ∷ []) lt some = refl
open_short last (a ∷ b ∷ c ∷ d ∷ []) lt some = refl
open_short last (a ∷ b ∷ c ∷ d ∷ e ∷ []) lt some = refl
open_short last (a ∷ b ∷ c ∷ d ∷ e ∷ f ∷ []) lt some = refl
open_short last (a ∷ b ∷ c ∷ d ∷ e ∷ f ∷ g ∷ []) lt some = refl
open_short last (a ∷ b ∷ c ∷ d ∷ e ∷ f ∷ g ∷ h ∷ []) lt some = refl
open_short last (a ∷ b ∷ c ∷ d ∷ e ∷ f ∷ g ∷ h ∷ i ∷ []) lt some = refl
open_short last (a ∷ b ∷ c ∷ d ∷ e ∷ f ∷ g ∷ h ∷ i ∷ j ∷ rest) lt some = absurd (omega (arith, lt))

joined_more : (xs : List Seen) (x : Seen) (rest : Option (List Seen)) → joined xs (listed (Some x) rest) ≡ joined (xs ++ x ∷ []) rest
joined_more xs x None = refl
joined_more xs x (Some ys) = ap Some (sym (append_assoc xs (x ∷ []) ys))

-- all behind a place, cut where the list ends
pub tail_whole : (k : ℕ) (bs : List ℕ) → take (length bs - k) (drop k bs) ≡ drop k bs
tail_whole k bs = take_all (length bs - k) (drop k bs) (let len = length-drop k bs in omega (arith, len))

-- one more was read
pub one_read : (bs rest : List ℕ) (last : ℕ) (xs xs' : List Seen) (x : Seen) (i : ℕ) → 10 ≤ length rest → Some x ≡ above last (seen_at rest) → i ≡ x.instance → xs' ≡ xs ++ x ∷ []
    → joined xs (open_from last rest) ≡ open_list bs → joined xs' (open_from i (drop 10 rest)) ≡ open_list bs
one_read bs rest last xs xs' x i le is named more so =
    let next : open_from last rest ≡ listed (Some x) (open_from x.instance (drop 10 rest)) = open_more last rest le ∙ ap (λ (o : Option Seen). listed o (open_from (instance_or last o) (drop 10 rest))) (sym is) in
    (λ k. joined (more k) (open_from (named k) (drop 10 rest))) ∙ sym (joined_more xs x (open_from x.instance (drop 10 rest))) ∙ ap (joined xs) (sym next) ∙ so

-- one isn't open, or isn't above the one before it
pub not_read : (bs rest : List ℕ) (last : ℕ) (xs : List Seen) → 10 ≤ length rest → None ≡ above last (seen_at rest) → joined xs (open_from last rest) ≡ open_list bs → open_list bs ≡ None
not_read bs rest last xs le is so = sym so ∙ ap (joined xs) (open_more last rest le ∙ ap (λ (o : Option Seen). listed o (open_from (instance_or last o) (drop 10 rest))) (sym is))

pub all_read : (bs rest : List ℕ) (last : ℕ) (xs : List Seen) → rest ≡ [] → joined xs (open_from last rest) ≡ open_list bs → open_list bs ≡ Some xs
all_read bs rest last xs e so = sym so ∙ ap (λ (r : List ℕ). joined xs (open_from last r)) e ∙ ap Some (append-nil xs)

pub cut_off : (bs rest : List ℕ) (last : ℕ) (xs : List Seen) → length rest < 10 → 0 < length rest → joined xs (open_from last rest) ≡ open_list bs → open_list bs ≡ None
cut_off bs rest last xs lt some so = sym so ∙ ap (joined xs) (open_short last rest lt some)

-- What is read rises.

above_last : (last : ℕ) (o : Option Seen) (x : Seen) → above last o ≡ Some x → last < x.instance
above_last last None x e = absurd (none-some x e)
above_last last (Some y) x e = go (ltb last y.instance) refl
  where
    go : (b : Bool) → ltb last y.instance ≡ b → last < x.instance
    go true t = let lt : last < y.instance = grind (arith, nat_tests, t) in subst (λ (z : Seen). last < z.instance) (same_Some y x (sym (ap (λ b. cond b (Some y) None) t) ∙ e)) lt
    go false t = absurd (none-some x (sym (ap (λ b. cond b (Some y) None) t) ∙ e))

-- the place of what is listed first
listed_so : (last : ℕ) (o : Option Seen) (rest : Option (List Seen)) (xs : List Seen) → listed o rest ≡ Some xs → (x : Seen) × (ys : List Seen) × (o ≡ Some x) × (rest ≡ Some ys) × (xs ≡ x ∷ ys)
listed_so last None rest xs e = absurd (none-some xs e)
listed_so last (Some x) None xs e = absurd (none-some xs e)
listed_so last (Some x) (Some ys) xs e = (x, ys, refl, refl, sym (same_Some (x ∷ ys) xs e))

rises_from : (bs : List ℕ) (last : ℕ) (xs : List Seen) → open_from last bs ≡ Some xs → IsBelowFirst last (instances xs) × IsRising (instances xs)
rises_from [] last xs e = subst (λ (ys : List Seen). IsBelowFirst last (instances ys) × IsRising (instances ys)) (same_Some [] xs e) (tt, tt)
rises_from (a ∷ []) last xs e = absurd (none-some xs e)
rises_from (a ∷ b ∷ []) last xs e = absurd (none-some xs e)
rises_from (a ∷ b ∷ c ∷ []) last xs e = absurd (none-some xs e)
rises_from (a ∷ b ∷ c ∷ d ∷ []) last xs e = absurd (none-some xs e)
rises_from (a ∷ b ∷ c ∷ d ∷ f ∷ []) last xs e = absurd (none-some xs e)
rises_from (a ∷ b ∷ c ∷ d ∷ f ∷ g ∷ []) last xs e = absurd (none-some xs e)
rises_from (a ∷ b ∷ c ∷ d ∷ f ∷ g ∷ h ∷ []) last xs e = absurd (none-some xs e)
rises_from (a ∷ b ∷ c ∷ d ∷ f ∷ g ∷ h ∷ i ∷ []) last xs e = absurd (none-some xs e)
rises_from (a ∷ b ∷ c ∷ d ∷ f ∷ g ∷ h ∷ i ∷ j ∷ []) last xs e = absurd (none-some xs e)
rises_from (a ∷ b ∷ c ∷ d ∷ f ∷ g ∷ h ∷ i ∷ j ∷ k ∷ rest) last xs e =
    let bs : List ℕ = a ∷ b ∷ c ∷ d ∷ f ∷ g ∷ h ∷ i ∷ j ∷ k ∷ rest in
    let o : Option Seen = above last (seen_at bs) in
    let so = listed_so last o (open_from (instance_or last o) rest) xs e in
    let left : open_from so.0.instance rest ≡ Some so.1 = ap (λ (p : Option Seen). open_from (instance_or last p) rest) (sym so.2) ∙ so.3 in
    let more = rises_from rest so.0.instance so.1 left in
    subst (λ (ys : List Seen). IsBelowFirst last (instances ys) × IsRising (instances ys)) (sym so.4) (above_last last (seen_at bs) so.0 so.2, more)

pub read_rises : (bs : List ℕ) (xs : List Seen) → open_list bs ≡ Some xs → IsRising (instances xs)
read_rises bs xs e = (rises_from bs 0 xs e).1
