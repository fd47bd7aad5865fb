-- Instances done in turn, whatever they do: two lists that order alike what doesn't commute leave one state, and answer each instance alike.
use Rattle.std.proofs.Common.{◌≡◌, ◌≢◌, ℕ, suc, ◌<◌, ◌↔◌, inl, inr, List, [], ◌∷◌, length, take, Bool, true, false, cond, not, eqb, refl, sym, ap, subst, ◌∙◌, arith, length-take}
use Rattle.std.proofs.lemmas.Bool.{cases_Bool, eq-eqb, false≢true, le-leb, leb-true, false_from_ne_true, eqb-true}
use Rattle.std.specs.Prelude.{nat_le}
use Rattle.std.specs.List.{filter}
use Rattle.ep_base.specs.Places.{place, Has}
use Rattle.ep_base.proofs.Places.{Has-first}
use Rattle.ep_rules.proofs.Places.{place_cons, place_head, place_le, has_cons, has_tail, Once, once_take, place_take, once_filter, has_filter, filter_has, filter_forth, filter_back, filter_all}

abbrev is_in : List ℕ → ℕ → Bool
is_in xs i = nat_le (suc (place xs i)) (length xs)

in_yes : (xs : List ℕ) (i : ℕ) → Has xs i → is_in xs i ≡ true
in_yes xs i h = le-leb (suc (place xs i)) (length xs) (omega arith)

in_then : (xs : List ℕ) (i : ℕ) → is_in xs i ≡ true → Has xs i
in_then xs i e = let l = leb-true (suc (place xs i)) (length xs) e in omega arith

-- where each stands once, what stands in the tail stands one further
tail_place : (x i : ℕ) (xs : List ℕ) → Once (x ∷ xs) → Has xs i → place (x ∷ xs) i ≡ suc (place xs i)
tail_place x i xs o h = elim (place_cons x i xs) [ inl p ↦ absurd (o.0 (subst (λ y. Has xs y) (sym p.0) h)) | inr p ↦ p ]

-- and is another one
tail_other : (x i : ℕ) (xs : List ℕ) → Once (x ∷ xs) → Has xs i → x ≢ i
tail_other x i xs o h s = o.0 (subst (λ y. Has xs y) (sym s) h)

abbrev other_than : ℕ → ℕ → Bool
other_than x y = not (eqb x y)

other_then : (x y : ℕ) → other_than x y ≡ true → (x ≡ y → ⊥)
other_then x y e s = false≢true (ap not (sym (eq-eqb x y s)) ∙ e)

other_yes : (x y : ℕ) → (x ≡ y → ⊥) → other_than x y ≡ true
other_yes x y n = ap not (false_from_ne_true (eqb x y) (λ e. n (eqb-true x y e)))

head_kept : (p : ℕ → Bool) (x : ℕ) (xs : List ℕ) → p x ≡ true → filter p (x ∷ xs) ≡ x ∷ filter p xs
head_kept p x xs e = ap (λ b. cond b (x ∷ filter p xs) (filter p xs)) e

head_left : (p : ℕ → Bool) (x : ℕ) (xs : List ℕ) → p x ≡ false → filter p (x ∷ xs) ≡ filter p xs
head_left p x xs e = ap (λ b. cond b (x ∷ filter p xs) (filter p xs)) e

-- What instances do, and which two have to keep their order.

-- what instances in turn leave
abbrev pub run : {S : Type 0} → (S → ℕ → S) → S → List ℕ → S
run step s [] = s
run step s (x ∷ xs) = run step (step s x) xs

abbrev pub Commute : {S : Type 0} → (S → ℕ → S) → (ℕ → ℕ → Bool) → Type 0
Commute {S} step meets = (s : S) (i j : ℕ) → i ≢ j → meets i j ≡ false → step (step s i) j ≡ step (step s j) i

abbrev pub AreUnseen : {S R : Type 0} → (S → ℕ → S) → (S → ℕ → R) → (ℕ → ℕ → Bool) → Type 0
AreUnseen {S} {R} step ask meets = (s : S) (i j : ℕ) → i ≢ j → meets i j ≡ false → ask (step s i) j ≡ ask s j

-- of two lists, each with some of the same instances: where one has u before w, both stand in the other, and u is there before w
abbrev pub IsOrdered : (ℕ → ℕ → Bool) → List ℕ → List ℕ → Type 0
IsOrdered meets l m = (u w : ℕ) → Has l w → Has m w → meets u w ≡ true → (place l u < place l w) ↔ (place m u < place m w)

-- instances that stand in both lists, and have to keep their order, have one order in both
abbrev pub IsAlike : (ℕ → ℕ → Bool) → List ℕ → List ℕ → Type 0
IsAlike meets xs ys = (u w : ℕ) → Has xs u → Has ys u → Has xs w → Has ys w → meets u w ≡ true → (place xs u < place xs w) ↔ (place ys u < place ys w)

module _ {S : Type 0} (step : S → ℕ → S) (meets : ℕ → ℕ → Bool) (commute : Commute step meets) where
  -- what meets none of the list goes to the list's end
  past : (m : S) (x : ℕ) (ys : List ℕ) → ((y : ℕ) → Has ys y → (x ≢ y) × (meets x y ≡ false)) → run step (step m x) ys ≡ step (run step m ys) x
  past m x [] h = refl
  past m x (y ∷ ys) h = let k = h y (Has-first y ys) in ap (λ n. run step n ys) (commute m x y k.0 k.1) ∙ past (step m y) x ys (λ z q. h z (has_tail y z ys q))

  -- what changes nothing can be taken out
  pub idle_out : (keep : ℕ → Bool) (m : S) (xs : List ℕ) → ((x : ℕ) → Has xs x → keep x ≡ false → (s : S) → step s x ≡ s) → run step m xs ≡ run step m (filter keep xs)
  idle_out keep m [] h = refl
  idle_out keep m (x ∷ xs) h = go (keep x) refl (λ n. idle_out keep n xs (λ z k. h z (has_tail x z xs k)))
    where
      go : (b : Bool) → keep x ≡ b → ((n : S) → run step n xs ≡ run step n (filter keep xs)) → run step (step m x) xs ≡ run step m (cond b (x ∷ filter keep xs) (filter keep xs))
      go true e r = r (step m x)
      go false e r = r (step m x) ∙ ap (λ n. run step n (filter keep xs)) (h x (Has-first x xs) e m)

  -- what meets nothing before it goes to the front
  to_front : (m : S) (x : ℕ) (ys : List ℕ) → Once ys → Has ys x → ((u : ℕ) → place ys u < place ys x → meets u x ≡ false) → run step m ys ≡ run step (step m x) (filter (other_than x) ys)
  to_front m x [] o h idle = absurd (omega arith)
  to_front m x (y ∷ ys) o h idle = elim (cases_Bool (eqb x y)) [
    | inl e ↦ first e (eqb-true x y e)
    | inr e ↦ later (λ s. false≢true (sym e ∙ eq-eqb x y s)) (to_front (step m y) x ys o.1)
  ]
    where
      first : eqb x y ≡ true → x ≡ y → run step (step m y) ys ≡ run step (step m x) (filter (other_than x) (y ∷ ys))
      first e s =
          let none : (z : ℕ) → Has ys z → other_than x z ≡ true = (λ z k. other_yes x z (λ t. o.0 (subst (λ w. Has ys w) (sym t ∙ s) k))) in
          ap (λ z. run step (step m z) ys) (sym s)
          ∙ ap (λ zs. run step (step m x) zs) (sym (head_left (other_than x) y ys (ap not e) ∙ filter_all (other_than x) ys none))

      later : (x ≡ y → ⊥) → (Has ys x → ((u : ℕ) → place ys u < place ys x → meets u x ≡ false) → run step (step m y) ys ≡ run step (step (step m y) x) (filter (other_than x) ys)) → run step (step m y) ys ≡ run step (step m x) (filter (other_than x) (y ∷ ys))
      later n r =
          let later_place : place (y ∷ ys) x ≡ suc (place ys x) = elim (place_cons y x ys) [ inl p ↦ absurd (n (sym p.0)) | inr p ↦ p ] in
          r (omega arith) (λ u lt. idle u (let q = place_cons y u ys in omega arith))
          ∙ ap (λ k. run step k (filter (other_than x) ys)) (commute m y x (λ s. n (sym s)) (idle y (omega (arith, place_head y ys, later_place))))
          ∙ ap (λ zs. run step (step m x) zs) (sym (head_kept (other_than x) y ys (other_yes x y n)))

  -- two lists of the same instances leave one state
  pub same_after : (m : S) (xs ys : List ℕ) → Once xs → Once ys → ((i : ℕ) → Has xs i ↔ Has ys i) → IsAlike meets xs ys → run step m xs ≡ run step m ys
  same_after m [] [] ox oy same alike = refl
  same_after m [] (y ∷ ys) ox oy same alike = absurd (let h = (same y).1 (Has-first y ys) in omega arith)
  same_after m (x ∷ xs) ys ox oy same alike =
      same_after (step m x) xs (filter (other_than x) ys) ox.1 (once_filter (other_than x) ys oy) members rest
      ∙ sym (to_front m x ys oy ((same x).0 (Has-first x xs)) idle)
    where
      idle : (u : ℕ) → place ys u < place ys x → meets u x ≡ false
      idle u lt = false_from_ne_true (meets u x) (λ e.
          let hx : Has ys x = (same x).0 (Has-first x xs) in
          let hu : Has ys u = omega arith in
          let k = (alike u x ((same u).1 hu) hu (Has-first x xs) hx e).1 lt in
          omega (arith, place_head x xs))

      members : (i : ℕ) → Has xs i ↔ Has (filter (other_than x) ys) i
      members i = (
        λ h. filter_has (other_than x) ys i (other_yes x i (tail_other x i xs ox h)) ((same i).0 (has_tail x i xs h)),
        λ h. let f = has_filter (other_than x) ys i h in elim (has_cons x i xs ((same i).1 f.0)) [ inl s ↦ absurd (other_then x i f.1 s) | inr k ↦ k ],
      )

      rest : IsAlike meets xs (filter (other_than x) ys)
      rest u w hu hu' hw hw' e =
          let fu = has_filter (other_than x) ys u hu' in
          let fw = has_filter (other_than x) ys w hw' in
          let a = alike u w (has_tail x u xs hu) fu.0 (has_tail x w xs hw) fw.0 e in
          let pu = tail_place x u xs ox hu in
          let pw = tail_place x w xs ox hw in (
            λ lt. filter_forth (other_than x) ys u w fu.1 fw.1 (a.0 (omega arith)),
            λ lt. let k = a.1 (filter_back (other_than x) ys u w fu.1 fw.1 fu.0 lt) in omega arith,
          )

  module _ (i : ℕ) where
    -- x isn't i, and meets neither i nor what is kept after it
    abbrev IsIdle : (ℕ → Bool) → List ℕ → ℕ → Type 0
    IsIdle keep xs x = (x ≢ i) × (meets x i ≡ false) × ((y : ℕ) → Has xs y → keep y ≡ true → place xs x < place xs y → meets x y ≡ false)

    -- what meets nothing kept after it can be taken out
    module _ {R : Type 0} (ask : S → ℕ → R) (unseen : AreUnseen step ask meets) where
      taken_out : (keep : ℕ → Bool) (m : S) (xs : List ℕ) → Once xs → ((x : ℕ) → Has xs x → keep x ≡ false → IsIdle keep xs x) → ask (run step m xs) i ≡ ask (run step m (filter keep xs)) i
      taken_out keep m [] o h = refl
      taken_out keep m (x ∷ xs) o h = go (keep x) refl (taken_out keep (step m x) xs o.1 rest)
        where
          rest : (z : ℕ) → Has xs z → keep z ≡ false → IsIdle keep xs z
          rest z hz e =
              let idle = h z (has_tail x z xs hz) e in
              (idle.0, idle.1, λ y hy k lt. idle.2 y (has_tail x y xs hy) k (omega (arith, tail_place x z xs o hz, tail_place x y xs o hy)))

          go : (b : Bool) → keep x ≡ b → ask (run step (step m x) xs) i ≡ ask (run step (step m x) (filter keep xs)) i → ask (run step (step m x) xs) i ≡ ask (run step m (cond b (x ∷ filter keep xs) (filter keep xs))) i
          go true e r = r
          go false e r =
              let idle = h x (Has-first x xs) e in
              r
              ∙ ap (λ n. ask n i) (past m x (filter keep xs) (λ y hy. let f = has_filter keep xs y hy in
              (tail_other x y xs o f.0, idle.2 y (has_tail x y xs f.0) f.1 (omega (arith, place_head x xs, tail_place x y xs o f.0)))))
              ∙ unseen (run step m (filter keep xs)) x i idle.0 idle.1

    -- what stands before i
    front : List ℕ → List ℕ
    front l = take (place l i) l

    in_front : (l : List ℕ) (w : ℕ) → Has (front l) w → (place l w < place l i) × (place (front l) w ≡ place l w)
    unfolding front
    in_front l w h =
        let p = place_take (place l i) l w in
        let n = length-take (place l i) l in
        let q = place_le l i in
        (omega arith, omega arith)

    front_has : (l : List ℕ) (w : ℕ) → place l w < place l i → Has (front l) w
    unfolding front
    front_has l w lt =
        let p = place_take (place l i) l w in
        let n = length-take (place l i) l in
        let q = place_le l i in
        omega arith

    once_front : (l : List ℕ) → Once l → Once (front l)
    unfolding front
    once_front l o = once_take (place l i) l o

    in_both : (l m : List ℕ) (w : ℕ) → Has l i → Has m i → Has (front l) w → Has (front m) w → Has l w × Has m w
    in_both l m w hl hm hw hw' =
        let a = in_front l w hw in
        let b = in_front m w hw' in
        (omega arith, omega arith)

    module _ (l m : List ℕ) (hl : Has l i) (hm : Has m i) (alike : IsOrdered meets l m) where
      -- what the other list hasn't before i meets neither i nor what it has
      idle : (x : ℕ) → Has (front l) x → is_in (front m) x ≡ false → IsIdle (is_in (front m)) (front l) x
      idle x hx e =
          let a = in_front l x hx in
          let out : ¬ Has (front m) x = (λ h. false≢true (sym e ∙ in_yes (front m) x h)) in (
            λ s. (let p : place l x ≡ place l i = ap (place l) s in omega arith),
            false_from_ne_true (meets x i) (λ t. out (front_has m x ((alike x i hl hm t).0 a.0))),
            λ y hy k lt. false_from_ne_true (meets x y) (λ t.
                let ky = in_then (front m) y k in
                let b = in_front l y hy in
                let d = in_front m y ky in
                let both = in_both l m y hl hm hy ky in
                let s = (alike x y both.0 both.1 t).0 (omega arith) in
                out (front_has m x (omega arith))),
          )

    turned : (l m : List ℕ) → IsOrdered meets l m → IsOrdered meets m l
    turned l m alike u w hm hl e = let a = alike u w hl hm e in (a.1, a.0)

    -- of what stands before i in the one list, what stands there in both
    shared : List ℕ → List ℕ → List ℕ
    shared xs ys = filter (is_in (front ys)) (front xs)

    shared_has : (xs ys : List ℕ) (j : ℕ) → Has (shared xs ys) j → Has (front xs) j × Has (front ys) j
    unfolding shared
    shared_has xs ys j h = let f = has_filter (is_in (front ys)) (front xs) j h in (f.0, in_then (front ys) j f.1)

    has_shared : (xs ys : List ℕ) (j : ℕ) → Has (front xs) j → Has (front ys) j → Has (shared xs ys) j
    unfolding shared
    has_shared xs ys j hx hy = filter_has (is_in (front ys)) (front xs) j (in_yes (front ys) j hy) hx

    -- the order in the list is that among what is shared
    order : (xs ys : List ℕ) (u w : ℕ) → Has (shared xs ys) u → Has (shared xs ys) w → (place (shared xs ys) u < place (shared xs ys) w) ↔ (place xs u < place xs w)
    unfolding shared
    order xs ys u w hu hw =
        let fu = has_filter (is_in (front ys)) (front xs) u hu in
        let fw = has_filter (is_in (front ys)) (front xs) w hw in
        let a = in_front xs u fu.0 in
        let b = in_front xs w fw.0 in (
          λ lt. let k = filter_back (is_in (front ys)) (front xs) u w fu.1 fw.1 fu.0 lt in omega arith,
          λ lt. filter_forth (is_in (front ys)) (front xs) u w fu.1 fw.1 (omega arith),
        )

    once_shared : (xs ys : List ℕ) → Once xs → Once (shared xs ys)
    unfolding shared
    once_shared xs ys o = once_filter (is_in (front ys)) (front xs) (once_front xs o)

    module _ (base : S) (l m : List ℕ) (ol : Once l) (om : Once m) (hl : Has l i) (hm : Has m i) (alike : IsOrdered meets l m) where
      alike_shared : IsAlike meets (shared l m) (shared m l)
      alike_shared u w hu hu' hw hw' e =
          let f = shared_has l m w hw in
          let both = in_both l m w hl hm f.0 f.1 in
          let a = alike u w both.0 both.1 e in
          let x = order l m u w hu hw in
          let y = order m l u w hu' hw' in
          (λ lt. y.1 (a.0 (x.0 lt)), λ lt. x.1 (a.1 (y.0 lt)))

      same_left : run step base (shared l m) ≡ run step base (shared m l)
      same_left = same_after base (shared l m) (shared m l) (once_shared l m ol) (once_shared m l om)
          (λ j. (λ h. let f = shared_has l m j h in has_shared m l j f.1 f.0, λ h. let f = shared_has m l j h in has_shared l m j f.1 f.0))
          alike_shared

      -- two such lists answer i alike
      pub one_reported : {R : Type 0} (ask : S → ℕ → R) → AreUnseen step ask meets → ask (run step base (take (place l i) l)) i ≡ ask (run step base (take (place m i) m)) i
      unfolding front shared
      one_reported ask unseen =
          taken_out ask unseen (is_in (front m)) base (front l) (once_front l ol) (idle l m hl hm alike)
          ∙ ap (λ n. ask n i) same_left
          ∙ sym (taken_out ask unseen (is_in (front l)) base (front m) (once_front m om) (idle m l hm hl (turned l m alike)))

      -- and before i they leave one state, where what needn't keep its order with i changes nothing
      pub one_left : ((x : ℕ) → meets x i ≡ false → (s : S) → step s x ≡ s) → run step base (take (place l i) l) ≡ run step base (take (place m i) m)
      unfolding front shared
      one_left noop =
          idle_out (is_in (front m)) base (front l) (λ x h e. noop x (idle l m hl hm alike x h e).1)
          ∙ same_left
          ∙ sym (idle_out (is_in (front l)) base (front m) (λ x h e. noop x (idle m l hm hl (turned l m alike) x h e).1))
