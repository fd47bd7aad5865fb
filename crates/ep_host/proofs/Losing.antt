-- What is lost at the places of a list, one after the other.
use Rattle.std.proofs.Common.{◌≡◌, ℕ, ◌+◌, ◌<◌, ◌≤◌, List, [], ◌∷◌, ◌++◌, length, get_or, set, refl, sym, ap, ◌∙◌, subst, arith, length-append, ⊎_elim, get_or-set_same, get_or-set_other}
use Rattle.std.proofs.Math.ListN.{length-set}
use Rattle.std.proofs.lemmas.List.{get_or_default, get_or_append_left, get_or_push}
use Rattle.std.proofs.lemmas.Bool.Decides.{eqb_tells}
use Rattle.ep_host.specs.Fates.{counted_up}
use Rattle.ep_host.specs.Setting.{LosesAll, total}
use Rattle.ep_host.proofs.Fated.{counted_twice}

total_push : (ns : List ℕ) (m : ℕ) → total (ns ++ m ∷ []) ≡ total ns + m
total_push [] m = omega arith
total_push (n ∷ ns) m = sum n (total (ns ++ m ∷ [])) (total ns) m (total_push ns m)
  where
    sum : (k n l m : ℕ) → n ≡ l + m → k + n ≡ (k + l) + m
    sum k n l m e = omega (arith, e)

module _ {X : Type 0} where
  -- the first places were gone over
  pub record LosesFirst (R : ℕ → X → X → Type 0) (place before after : ℕ) (xs ys : List X) : Type 0 where
    pub missed : List ℕ
    pub len : length missed ≡ place
    pub places : length ys ≡ length xs
    pub done : (k : ℕ) (d : X) → k < place → R (get_or missed k 0) (get_or xs k d) (get_or ys k d)
    pub left : (k : ℕ) (d : X) → place ≤ k → get_or ys k d ≡ get_or xs k d
    pub counted : after ≡ counted_up before (total missed)

  pub loses_none : (R : ℕ → X → X → Type 0) (before : ℕ) (xs : List X) → LosesFirst R 0 before before xs xs
  loses_none R before xs = record { missed = []; len = refl; places = refl; done = λ k d low. absurd (omega arith); left = λ k d low. refl; counted = refl }

  pub loses_more :
      (R : ℕ → X → X → Type 0) (place before after m : ℕ) (xs ys : List X) (was y : X) → place < length xs → LosesFirst R place before after xs ys → R m (get_or ys place was) y → LosesFirst R (place + 1) before (counted_up after m) xs (set ys place y)
  loses_more R place before after m xs ys was y low h r =
      let places = h.places in let len = h.len in
      let low' : place < length ys = omega (arith, places) in record {
        missed = h.missed ++ m ∷ [];
        len = omega (arith, length-append h.missed (m ∷ []), len);
        places = length-set ys place y ∙ h.places;
        done = λ k d below. ⊎_elim
            (λ (e : _). let at : k ≡ place = e.1 in
            rw at (rw (get_or_push h.missed m 0 place h.len, get_or-set_same ys place y d low') (subst (λ (z : X). R m z y) (get_or_default ys place was d low' ∙ h.left place d (omega arith)) r)))
            (λ (e : _). let below' : k < place = (let other = e.1 in grind (arith, other)) in
            let inside : k < length h.missed = omega (arith, len) in
            rw (get_or_append_left h.missed (m ∷ []) 0 k inside, get_or-set_other ys place k y d e.1) (h.done k d below'))
            (eqb_tells k place);
        left = λ k d below. ⊎_elim
            (λ (e : _). let at : k ≡ place = e.1 in absurd (omega arith))
            (λ (e : _). get_or-set_other ys place k y d e.1 ∙ h.left k d (omega arith))
            (eqb_tells k place);
        counted = ap (λ (n : ℕ). counted_up n m) h.counted ∙ counted_twice before (total h.missed) m ∙ ap (counted_up before) (sym (total_push h.missed m));
      }

  pub loses_all : (R : ℕ → X → X → Type 0) (place before after : ℕ) (xs ys : List X) → place ≡ length xs → LosesFirst R place before after xs ys → LosesAll R before after xs ys
  loses_all R place before after xs ys all h = record { missed = h.missed; len = h.len ∙ all; places = h.places; at = λ i d low. h.done i d (omega (arith, all)); counted = h.counted }
