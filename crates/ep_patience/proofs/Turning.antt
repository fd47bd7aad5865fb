-- A turn, instance by instance.
use Rattle.std.proofs.Common.{◌≡◌, ◌≤◌, ◌<◌, ◌+◌, ℕ, zero, suc, Bool, true, false, cond, leb, ltb, min, List, [], ◌∷◌, ◌++◌, length, take, get_or, slice_get, option_to_list, refl, sym, ap, subst, ◌∙◌, inl, inr, append-nil, arith}
use Rattle.std.specs.Prelude.{Option, Some, None, ◌⊎◌, nat_eq}
use Rattle.std.specs.List.{cons_option}
use Rattle.std.proofs.Math.Nat.{min-eq_left, min-eq_right}
use Rattle.std.proofs.lemmas.Bool.Decides.{nat_tests}
use Rattle.std.proofs.lemmas.List.{take_all, take_more}
use Rattle.std.proofs.lemmas.List.Elements.{filter_map-append}
use Rattle.std.proofs.lemmas.Option.{none-some, same_Some, slice_get-get_or}
use Rattle.ep_base.specs.Deps.{IsBelowFirst, IsRising}
use Rattle.ep_patience.specs.Turning.{after, earlier, found_at, has_room, instances, most_of, outlook_of, remedies, remedy_in, remedy_next, waiting_for, waiting_in, IsFirst, IsOpen, Turns}
use Rattle.ep_patience.specs.declared.outlook.Outlook.{Outlook}
use Rattle.ep_patience.specs.declared.patience.Patience.{Patience}
use Rattle.ep_patience.specs.declared.remedy.Remedy.{Remedy}
use Rattle.ep_patience.specs.declared.seen.Seen.{Seen}
use Rattle.ep_patience.specs.declared.waiting.Waiting.{Waiting}

-- Places of a list with an element more.

get_before : {X : Type 0} (xs ys : List X) (i : ℕ) (x : X) → slice_get xs i ≡ Some x → slice_get (xs ++ ys) i ≡ Some x
get_before [] ys i x e = absurd (none-some x e)
get_before (z ∷ xs) ys zero x e = e
get_before (z ∷ xs) ys (suc i) x e = get_before xs ys i x e

get_last : {X : Type 0} (xs : List X) (x : X) → slice_get (xs ++ x ∷ []) (length xs) ≡ Some x
get_last [] x = refl
get_last (z ∷ xs) x = get_last xs x

get_cases : {X : Type 0} (xs : List X) (y x : X) (i : ℕ) → slice_get (xs ++ y ∷ []) i ≡ Some x → (slice_get xs i ≡ Some x) ⊎ ((i ≡ length xs) × (y ≡ x))
get_cases [] y x zero e = inr (refl, same_Some y x e)
get_cases [] y x (suc i) e = absurd (none-some x e)
get_cases (z ∷ xs) y x zero e = inl e
get_cases (z ∷ xs) y x (suc i) e = elim (get_cases xs y x i e) [
  | inl before ↦ inl before
  | inr last ↦ inr (ap suc last.0, last.1)
]

take_before : {X : Type 0} (xs ys : List X) (i : ℕ) (x : X) → slice_get xs i ≡ Some x → take i (xs ++ ys) ≡ take i xs
take_before [] ys i x e = absurd (none-some x e)
take_before (z ∷ xs) ys zero x e = refl
take_before (z ∷ xs) ys (suc i) x e = ap (λ (zs : List _). z ∷ zs) (take_before xs ys i x e)

take_whole : {X : Type 0} (xs ys : List X) → take (length xs) (xs ++ ys) ≡ xs
take_whole [] ys = refl
take_whole (z ∷ xs) ys = ap (λ (zs : List _). z ∷ zs) (take_whole xs ys)

-- as much of a list with something more as there is room for
take_room : {X : Type 0} (most : ℕ) (xs : List X) (o : Option X) → length xs < most → take most (xs ++ option_to_list o) ≡ xs ++ option_to_list o
take_room zero xs o lt = absurd (omega (arith, lt))
take_room (suc most) [] None lt = refl
take_room (suc most) [] (Some x) lt = take_all (suc most) (x ∷ []) (omega arith)
take_room (suc most) (z ∷ xs) o lt = ap (λ (zs : List _). z ∷ zs) (take_room most xs o (omega (arith, lt)))

take_none : {X : Type 0} (most : ℕ) (xs ys : List X) → most ≤ length xs → take most (xs ++ ys) ≡ take most xs
take_none zero xs ys le = refl
take_none (suc most) [] ys le = absurd (omega (arith, le))
take_none (suc most) (z ∷ xs) ys le = ap (λ (zs : List _). z ∷ zs) (take_none most xs ys (omega (arith, le)))

take_enough : {X : Type 0} (most : ℕ) (xs : List X) → length xs < most → take most xs ≡ xs
take_enough most xs lt = take_all most xs (omega (arith, lt))

-- A rising list names each instance once.

pub above_all : (i : ℕ) (xs : List Seen) (n : ℕ) (x : Seen) → IsBelowFirst i (instances xs) → IsRising (instances xs) → slice_get xs n ≡ Some x → i < x.instance
above_all i [] n x below rising at = absurd (none-some x at)
above_all i (z ∷ xs) zero x below rising at = subst (λ (y : Seen). i < y.instance) (same_Some z x at) below
above_all i (z ∷ xs) (suc n) x below rising at =
    let more : z.instance < x.instance = above_all z.instance xs n x rising.0 rising.1 at in omega (arith, below, more)

rises : (xs : List Seen) (m n : ℕ) (x y : Seen) → IsRising (instances xs) → m < n → slice_get xs m ≡ Some x → slice_get xs n ≡ Some y → x.instance < y.instance
rises [] m n x y rising lt at to = absurd (none-some x at)
rises (z ∷ xs) m zero x y rising lt at to = absurd (omega (arith, lt))
rises (z ∷ xs) zero (suc n) x y rising lt at to = subst (λ (w : Seen). w.instance < y.instance) (same_Some z x at) (above_all z.instance xs n y rising.0 rising.1 to)
rises (z ∷ xs) (suc m) (suc n) x y rising lt at to = rises xs m n x y rising.1 (omega (arith, lt)) at to

-- One instance more.

listed_so : {X : Type 0} (o : Option X) → cons_option o [] ≡ option_to_list o
listed_so None = refl
listed_so (Some x) = refl

differ : (i j : ℕ) → j < i → nat_eq i j ≡ false
differ i j lt = grind (arith, nat_tests, lt)

same_instance : (i j : ℕ) → nat_eq i j ≡ true → i ≡ j
same_instance i j e = grind (arith, nat_tests, e)

eq_self : (i : ℕ) → nat_eq i i ≡ true
eq_self i = grind (arith, nat_tests)

order : (a b : ℕ) → ((min a b ≡ a) × (a ≤ b)) ⊎ ((min a b ≡ b) × (b ≤ a))
order a b = go (leb a b) refl
  where
    go : (t : Bool) → leb a b ≡ t → ((min a b ≡ a) × (a ≤ b)) ⊎ ((min a b ≡ b) × (b ≤ a))
    go true e = let le : a ≤ b = grind (arith, nat_tests, e) in inl (min-eq_left le, le)
    go false e = let le : b ≤ a = grind (arith, nat_tests, e) in inr (min-eq_right le, le)

abbrev Puts : List (ℕ × Waiting) → ℕ → Waiting → List (ℕ × Waiting) → Type 0
Puts all i w all' = (j : ℕ) → waiting_for all' j ≡ cond (nat_eq i j) (Some w) (waiting_for all j)

-- the first of the waits, with one more
module _ (all all' : List (ℕ × Waiting)) (i : ℕ) (w : Waiting) (put : Puts all i w all') (new : waiting_for all i ≡ None) where
  put_here : waiting_for all' i ≡ Some w
  put_here = put i ∙ ap (λ b. cond b (Some w) (waiting_for all i)) (eq_self i)

  bound : (d : ℕ) → d ≤ w.due → ((j : ℕ) (v : Waiting) → waiting_for all j ≡ Some v → d ≤ v.due) → (j : ℕ) (v : Waiting) → waiting_for all' j ≡ Some v → d ≤ v.due
  bound d le old j v at = go (nat_eq i j) refl
    where
      go : (b : Bool) → nat_eq i j ≡ b → d ≤ v.due
      go true e = subst (λ (u : Waiting). d ≤ u.due) (same_Some w v (sym (put j ∙ ap (λ b. cond b (Some w) (waiting_for all j)) e) ∙ at)) le
      go false e = old j v (sym (put j ∙ ap (λ b. cond b (Some w) (waiting_for all j)) e) ∙ at)

  kept : (j : ℕ) (v : Waiting) → waiting_for all j ≡ Some v → waiting_for all' j ≡ Some v
  kept j v at = go (nat_eq i j) refl
    where
      go : (b : Bool) → nat_eq i j ≡ b → waiting_for all' j ≡ Some v
      go true e = absurd (none-some v (sym new ∙ ap (waiting_for all) (same_instance i j e) ∙ at))
      go false e = put j ∙ ap (λ b. cond b (Some w) (waiting_for all j)) e ∙ at

  first_more : (first : Option ℕ) → IsFirst all first → IsFirst all' (Some (earlier first w.due))
  first_more None none = (bound w.due (omega arith) (λ j v at. absurd (none-some v (sym (none j) ∙ at))), (i, w, put_here, refl))
  first_more (Some d) is = elim (order d w.due) [
    | inl k ↦ subst (λ n. IsFirst all' (Some n)) (sym k.0) (bound d k.1 is.0, (is.1.0, is.1.1, kept is.1.0 is.1.1 is.1.2, is.1.3))
    | inr k ↦ subst (λ n. IsFirst all' (Some n)) (sym k.0)
        (bound w.due (omega arith) (λ j v at. let le = is.0 j v at in let less = k.1 in omega (arith, le, less)), (i, w, put_here, refl))
  ]

abbrev no_remedies : List Remedy
no_remedies = []

module _ (p : Patience) (time : ℕ) where
  remedies_more : (xs : List Seen) (x : Seen) → remedies p time (xs ++ x ∷ []) ≡ remedies p time xs ++ option_to_list (remedy_in p time x)
  remedies_more xs x = filter_map-append (remedy_in p time) xs (x ∷ []) ∙ ap (λ (rs : List Remedy). remedies p time xs ++ rs) (listed_so (remedy_in p time x))

  abbrev granted : Bool → Option Remedy → Option Remedy
  granted room r = cond room r None

  late_more : (xs : List Seen) (x : Seen) (asked : List Remedy) (room : Bool) → room ≡ has_room p time xs → asked ≡ take (most_of p) (remedies p time xs)
      → asked ++ option_to_list (granted room (remedy_in p time x)) ≡ take (most_of p) (remedies p time (xs ++ x ∷ []))
  late_more xs x asked true has is =
      let lt : length (remedies p time xs) < most_of p = grind (arith, nat_tests, has) in
      ap (λ (rs : List Remedy). rs ++ option_to_list (remedy_in p time x)) (is ∙ take_enough (most_of p) (remedies p time xs) lt)
      ∙ sym (take_room (most_of p) (remedies p time xs) (remedy_in p time x) lt) ∙ ap (take (most_of p)) (sym (remedies_more xs x))
  late_more xs x asked false has is =
      let le : most_of p ≤ length (remedies p time xs) = grind (arith, nat_tests, has) in
      append-nil asked ∙ is ∙ sym (take_none (most_of p) (remedies p time xs) (option_to_list (remedy_in p time x)) le) ∙ ap (take (most_of p)) (sym (remedies_more xs x))

  more : (xs : List Seen) (x : Seen) (all all' : List (ℕ × Waiting)) (first : Option ℕ) (asked : List Remedy) (room : Bool) (w : Waiting)
      → ((n : ℕ) (y : Seen) → slice_get xs n ≡ Some y → y.instance < x.instance) → room ≡ has_room p time xs → w ≡ waiting_in p time room x → Puts all x.instance w all'
      → Turns p time xs all first asked → Turns p time (xs ++ x ∷ []) all' (Some (earlier first w.due)) (asked ++ option_to_list (granted room (remedy_in p time x)))
  more xs x all all' first asked room w below has is put t = record {
    waited = (λ n y at. elim (get_cases xs x y n at) [
      | inl before ↦ put y.instance ∙ ap (λ b. cond b (Some w) (waiting_for all y.instance)) (differ x.instance y.instance (below n y before)) ∙ t.waited n y before
          ∙ ap (λ (zs : List Seen). Some (waiting_in p time (has_room p time zs) y)) (sym (take_before xs (x ∷ []) n y before))
      | inr last ↦ subst (λ (v : Seen). waiting_for all' v.instance ≡ Some (waiting_in p time (has_room p time (take n (xs ++ x ∷ []))) v)) last.1
          (put_here all all' x.instance w put new ∙ ap Some is
          ∙ ap (λ b. Some (waiting_in p time b x)) (has ∙ ap (λ (zs : List Seen). has_room p time zs) (sym (ap (λ m. take m (xs ++ x ∷ [])) last.0 ∙ take_whole xs (x ∷ [])))))
    ]);
    others = (λ i. elsewhere i (nat_eq x.instance i) refl);
    earliest = first_more all all' x.instance w put new first t.earliest;
    late = late_more xs x asked room has t.late;
  }
    where
      new : waiting_for all x.instance ≡ None
      new = elim (t.others x.instance) [
        | inl found ↦ absurd (let lt = below found.0 found.1 found.2 in let same = found.3 in omega (arith, lt, same))
        | inr none ↦ none
      ]

      elsewhere : (i : ℕ) (b : Bool) → nat_eq x.instance i ≡ b → IsOpen (xs ++ x ∷ []) i ⊎ (waiting_for all' i ≡ None)
      elsewhere i true e = inl (length xs, x, get_last xs x, same_instance x.instance i e)
      elsewhere i false e = elim (t.others i) [
        | inl found ↦ inl (found.0, found.1, get_before xs (x ∷ []) found.0 found.1 found.2, found.3)
        | inr none ↦ inr (put i ∙ ap (λ b. cond b (Some w) (waiting_for all i)) e ∙ none)
      ]

  -- a place in the front of a list is that place in the list
  taken_at : (xs : List Seen) (n k : ℕ) (y : Seen) → slice_get (take n xs) k ≡ Some y → (k < n) × (slice_get xs k ≡ Some y)
  taken_at [] zero k y e = absurd (none-some y e)
  taken_at [] (suc n) k y e = absurd (none-some y e)
  taken_at (z ∷ xs) zero k y e = absurd (none-some y e)
  taken_at (z ∷ xs) (suc n) zero y e = (omega arith, e)
  taken_at (z ∷ xs) (suc n) (suc k) y e = let rest = taken_at xs n k y e in (let lt = rest.0 in omega (arith, lt), rest.1)

  less_taken : (most : ℕ) (rs : List Remedy) → length (take most rs) < most → length rs < most
  less_taken zero rs lt = absurd (omega (arith, lt))
  less_taken (suc most) [] lt = omega arith
  less_taken (suc most) (r ∷ rs) lt = let more = less_taken most rs (omega (arith, lt)) in omega (arith, more)

  ltb_same : (a b m : ℕ) → (a < m → b < m) → (b < m → a < m) → ltb a m ≡ ltb b m
  ltb_same a b m f g = go (ltb a m) (ltb b m) refl refl
    where
      go : (s t : Bool) → ltb a m ≡ s → ltb b m ≡ t → ltb a m ≡ ltb b m
      go true true e k = e ∙ sym k
      go false false e k = e ∙ sym k
      go true false e k = let lt : a < m = grind (arith, nat_tests, e) in let le : m ≤ b = grind (arith, nat_tests, k) in let more = f lt in absurd (omega (arith, le, more))
      go false true e k = let lt : b < m = grind (arith, nat_tests, k) in let le : m ≤ a = grind (arith, nat_tests, e) in let more = g lt in absurd (omega (arith, le, more))

  room_same : (most : ℕ) (rs : List Remedy) → ltb (length (take most rs)) most ≡ ltb (length rs) most
  room_same most rs = ltb_same (length (take most rs)) (length rs) most (less_taken most rs) (λ lt. let same : length (take most rs) ≡ length rs = ap length (take_enough most rs lt) in omega (arith, lt, same))

  pub none_turned : Turns p time [] [] None []
  none_turned = record { waited = (λ n x at. absurd (none-some x at)); others = (λ i. inr refl); earliest = (λ i. refl); late = sym (take_nil (most_of p)) }
    where
      take_nil : (m : ℕ) → take m no_remedies ≡ no_remedies
      take_nil zero = refl
      take_nil (suc m) = refl

  pub one_turned : (seen : List Seen) (n : ℕ) (x : Seen) (all : List (ℕ × Waiting)) (first : Option ℕ) (asked : List Remedy) {room : Bool} {r g : Option Remedy} {w : Waiting} {all' : List (ℕ × Waiting)} {due : ℕ} {asked' : List Remedy} {o : Outlook} {most : ℕ}
      → n < length seen → x ≡ get_or seen n x → IsRising (instances seen) → room ≡ ltb (length asked) most → most ≡ most_of p → o ≡ outlook_of p time x → r ≡ remedy_next p o x → w ≡ after p o x (found_at p o x) r room → due ≡ earlier first w.due → Puts all x.instance w all'
      → g ≡ granted room r → asked' ≡ asked ++ option_to_list g → Turns p time (take n seen) all first asked → Turns p time (take (n + 1) seen) all' (Some due) asked'
  one_turned seen n x all first asked {room} {r} {g} {w} {all'} {due} {asked'} {o} {most} lt is rising has most_is judged asks_so waits_so earliest put grants added t =
      let front : take n seen ++ x ∷ [] ≡ take (n + 1) seen = ap (λ (y : Seen). take n seen ++ y ∷ []) is ∙ sym (take_more seen n x lt) in
      let here : slice_get seen n ≡ Some x = slice_get-get_or seen n x lt ∙ ap Some (sym is) in
      let below : (k : ℕ) (y : Seen) → slice_get (take n seen) k ≡ Some y → y.instance < x.instance = λ k y at. let so = taken_at seen n k y at in rises seen k n y x rising so.0 so.1 here in
      let rooms : room ≡ has_room p time (take n seen) = has ∙ ap (ltb (length asked)) most_is ∙ ap (λ (rs : List Remedy). ltb (length rs) (most_of p)) t.late ∙ room_same (most_of p) (remedies p time (take n seen)) in
      let asks : r ≡ remedy_in p time x = asks_so ∙ ap (λ (v : Outlook). remedy_next p v x) judged in
      let waits : w ≡ after p (outlook_of p time x) x (found_at p (outlook_of p time x) x) r room = waits_so ∙ ap (λ (v : Outlook). after p v x (found_at p v x) r room) judged in
      let next : w ≡ waiting_in p time room x = waits ∙ ap (λ (q : Option Remedy). after p (outlook_of p time x) x (found_at p (outlook_of p time x) x) q room) asks in
      let all_of : asked' ≡ asked ++ option_to_list (granted room (remedy_in p time x)) = added ∙ ap (λ (q : Option Remedy). asked ++ option_to_list q) (grants ∙ ap (granted room) asks) in
      subst (λ (rs : List Remedy). Turns p time (take (n + 1) seen) all' (Some due) rs) (sym all_of)
      (subst (λ (d : ℕ). Turns p time (take (n + 1) seen) all' (Some d) (asked ++ option_to_list (granted room (remedy_in p time x)))) (sym earliest)
      (subst (λ (xs : List Seen). Turns p time xs all' (Some (earlier first w.due)) (asked ++ option_to_list (granted room (remedy_in p time x)))) front
      (more (take n seen) x all all' first asked room w below rooms next put t)))

  pub all_turned : (seen : List Seen) (n : ℕ) (all : List (ℕ × Waiting)) (first : Option ℕ) (asked : List Remedy) → length seen ≤ n → Turns p time (take n seen) all first asked → Turns p time seen all first asked
  all_turned seen n all first asked over t = subst (λ (xs : List Seen). Turns p time xs all first asked) (take_all n seen over) t
