-- Two maps that agree on all keys that either names are one.
use Rattle.std.proofs.Common.{◌≡◌, ◌⊎◌, inl, inr, ℕ, ◌+◌, drop, Vec, Bool, true, false, true≢false, ◌&&◌, ◌↔◌, cond, List, [], ◌∷◌, Option, Some, None, refl, sym, ap, subst, ◌∙◌}
use Rattle.std.proofs.lemmas.Map.Lookups.{exact_bytes}
use Rattle.std.proofs.lemmas.Map.Views.{tells_apart}
use Rattle.std.specs.Bool.{IsTrue}
use Rattle.std.specs.Cmp.Lexicographic.{texts_ties}
use Rattle.std.specs.FinMap.{entries, find, get-entries}
use Rattle.std.specs.Global.{Global}
use Rattle.std.specs.Map.{lookup}
use Rattle.std.specs.Prelude.{slice_get}
use Rattle.ep_base.proofs.Lists.{drop_here}
use Rattle.ep_base.proofs.Same.{Decides-same_option}
use Rattle.ep_rules.proofs.Commuting.{is_key}
use Rattle.ep_rules.specs.OneMap.{Contents, value_at}
use Rattle.ep_space.specs.Index.{is_at}
use Rattle.ep_exec.specs.Agreeing.{agree_at, agree_by, agree_in, is_same_at}
use Rattle.ep_exec.specs.Layers.{Layer, layers_of, said_or, stacked, reported_by, reported_over}
use Rattle.ep_exec.specs.Table.{Entry, key_cmp}
use Rattle.ep_exec.proofs.Entries.{same_contents}
use Rattle.ep_exec.proofs.Layered.{reported_is}
use Rattle.ep_exec.proofs.Rising.{and_first, and_second}
use Rattle.ep_exec.proofs.Sorting.{Pair}

-- one key of the changes after the other
pub next_agrees : (m n : Contents) (es : List Entry) (k : ℕ) (i : Vec ℕ Global) (v : Option (List ℕ)) (q : List ℕ) (b : Bool) → slice_get es k ≡ Some (i, v) → q ≡ i.items → b ≡ is_same_at m n q
    → agree_by m n (drop k es) ≡ agree_by m n es → (b && agree_by m n (drop (k + 1) es)) ≡ agree_by m n es
next_agrees m n es k i v q b at name is h =
    ap (λ (x : Bool). x && agree_by m n (drop (k + 1) es)) (is ∙ ap (is_same_at m n) name) ∙ sym (ap (agree_by m n) (drop_here es k (i, v) at)) ∙ h

module _ (m n : Contents) where
  same_value : (q : List ℕ) → is_same_at m n q ≡ true → value_at m q ≡ value_at n q
  same_value q h = (Decides-same_option (value_at m q) (value_at n q)).0 h

  found_same : (q : List ℕ) (es : List Pair) → agree_at m n es ≡ true → (find key_cmp q es ≡ None) ⊎ (value_at m q ≡ value_at n q)
  found_same q [] h = inl refl
  found_same q (e ∷ es) h = go (is_key q e.0) refl (found_same q es (and_second _ _ h))
    where
      go : (b : Bool) → is_key q e.0 ≡ b → (find key_cmp q es ≡ None) ⊎ (value_at m q ≡ value_at n q) → (cond (is_key q e.0) (Some e.1) (find key_cmp q es) ≡ None) ⊎ (value_at m q ≡ value_at n q)
      go true is rest = inr (same_value q (subst (λ k. is_same_at m n k ≡ true) (sym (tells_apart exact_bytes q e.0 is)) (and_first _ _ h)))
      go false is (inl none) = inl (ap (λ b. cond b (Some e.1) (find key_cmp q es)) is ∙ none)
      go false is (inr same) = inr same

  changed_same : (q : List ℕ) (es : List Entry) → agree_by m n es ≡ true → (lookup (is_at q) es ≡ None) ⊎ (value_at m q ≡ value_at n q)
  changed_same q [] h = inl refl
  changed_same q (e ∷ es) h = go (is_key q e.0.items) refl (changed_same q es (and_second _ _ h))
    where
      go : (b : Bool) → is_key q e.0.items ≡ b → (lookup (is_at q) es ≡ None) ⊎ (value_at m q ≡ value_at n q) → (cond (is_at q e.0) (Some e.1) (lookup (is_at q) es) ≡ None) ⊎ (value_at m q ≡ value_at n q)
      go true is rest = inr (same_value q (subst (λ k. is_same_at m n k ≡ true) (sym (tells_apart exact_bytes q e.0.items is)) (and_first _ _ h)))
      go false is (inl none) = inl (ap (λ b. cond b (Some e.1) (lookup (is_at q) es)) (texts_ties q e.0.items ∙ is) ∙ none)
      go false is (inr same) = inr same

  reported_same : (q : List ℕ) (ls : List (List Entry)) (t : Option (Option (List ℕ))) → agree_in m n ls ≡ true → (reported_by q t ls ≡ t) ⊎ (value_at m q ≡ value_at n q)
  reported_same q [] t h = inl refl
  reported_same q (l ∷ ls) t h = go (changed_same q l (and_first _ _ h)) (reported_same q ls (reported_over (lookup (is_at q) l) t) (and_second _ _ h))
    where
      go : (lookup (is_at q) l ≡ None) ⊎ (value_at m q ≡ value_at n q) → (reported_by q (reported_over (lookup (is_at q) l) t) ls ≡ reported_over (lookup (is_at q) l) t) ⊎ (value_at m q ≡ value_at n q)
          → (reported_by q (reported_over (lookup (is_at q) l) t) ls ≡ t) ⊎ (value_at m q ≡ value_at n q)
      go (inl none) (inl stays) = inl (stays ∙ ap (λ o. reported_over o t) none)
      go (inl none) (inr same) = inr same
      go (inr same) stays = inr same

  -- of a map of these layers over this listing
  named : (w a : Contents) (ls : List (List Entry)) (q : List ℕ) → w ≡ stacked a ls → agree_at m n (entries a) ≡ true → agree_in m n ls ≡ true → (value_at w q ≡ None) ⊎ (value_at m q ≡ value_at n q)
  named w a ls q is h g = go (found_same q (entries a) h) (reported_same q ls None g)
    where
      go : (find key_cmp q (entries a) ≡ None) ⊎ (value_at m q ≡ value_at n q) → (reported_by q None ls ≡ None) ⊎ (value_at m q ≡ value_at n q) → (value_at w q ≡ None) ⊎ (value_at m q ≡ value_at n q)
      go (inl none) (inl unsaid) = inl (ap (λ (x : Contents). value_at x q) is ∙ reported_is a q ls None (value_at a q) refl ∙ ap (λ t. said_or t (value_at a q)) unsaid ∙ get-entries a q ∙ none)
      go (inl none) (inr same) = inr same
      go (inr same) unsaid = inr same

  -- of a map of these layers over another one
  named_over : (w a : Contents) (ls : List (List Entry)) (q : List ℕ) → w ≡ stacked a ls → (value_at a q ≡ None) ⊎ (value_at m q ≡ value_at n q) → agree_in m n ls ≡ true → (value_at w q ≡ None) ⊎ (value_at m q ≡ value_at n q)
  named_over w a ls q is h g = go h (reported_same q ls None g)
    where
      go : (value_at a q ≡ None) ⊎ (value_at m q ≡ value_at n q) → (reported_by q None ls ≡ None) ⊎ (value_at m q ≡ value_at n q) → (value_at w q ≡ None) ⊎ (value_at m q ≡ value_at n q)
      go (inl none) (inl unsaid) = inl (ap (λ (x : Contents). value_at x q) is ∙ reported_is a q ls None (value_at a q) refl ∙ ap (λ t. said_or t (value_at a q)) unsaid ∙ none)
      go (inl none) (inr same) = inr same
      go (inr same) unsaid = inr same

  alike : ((q : List ℕ) → (value_at m q ≡ None) ⊎ (value_at m q ≡ value_at n q)) → ((q : List ℕ) → (value_at n q ≡ None) ⊎ (value_at m q ≡ value_at n q)) → m ≡ n
  alike one other = same_contents m n (λ q. go q (one q) (other q))
    where
      go : (q : List ℕ) → (value_at m q ≡ None) ⊎ (value_at m q ≡ value_at n q) → (value_at n q ≡ None) ⊎ (value_at m q ≡ value_at n q) → value_at m q ≡ value_at n q
      go q (inl none) (inl nor) = none ∙ sym nor
      go q (inl none) (inr same) = same
      go q (inr same) nor = same

-- what a test of all keys of w says
abbrev Agreed : Contents → Contents → Contents → Bool → Type 0
Agreed m n w b = b ≡ true → (q : List ℕ) → (value_at w q ≡ None) ⊎ (value_at m q ≡ value_at n q)

-- where the layers are as well as the ground below them, all is
pub agreed_over : {S : Type 0} (m n w a : Contents) (ls ms : List (Layer S)) (x y : Bool) → ls ≡ ms → stacked a (layers_of ms) ≡ w → x ≡ true → Agreed m n a x → y ≡ agree_in m n (layers_of ls) → Agreed m n w y
agreed_over {S = S} m n w a ls ms x y e is t h g all q =
    named_over m n w a (layers_of ls) q (sym is ∙ ap (λ (xs : List (Layer S)). stacked a (layers_of xs)) (sym e)) (h t q) (sym g ∙ all)

pub agreed_listing : {S : Type 0} (m n w a : Contents) (es : List Pair) (ls ms : List (Layer S)) (x y : Bool) → es ≡ entries a → ls ≡ ms → stacked a (layers_of ms) ≡ w → x ≡ true → x ≡ agree_at m n es → y ≡ agree_in m n (layers_of ls) → Agreed m n w y
agreed_listing {S = S} m n w a es ls ms x y are e is t h g all q =
    named m n w a (layers_of ls) q (sym is ∙ ap (λ (xs : List (Layer S)). stacked a (layers_of xs)) (sym e)) (ap (agree_at m n) (sym are) ∙ sym h ∙ t) (sym g ∙ all)

pub agreed_as : {S : Type 0} (m n w a : Contents) (ls ms : List (Layer S)) (b : Bool) → ls ≡ ms → stacked a (layers_of ms) ≡ w → Agreed m n (stacked a (layers_of ls)) b → Agreed m n w b
agreed_as {S = S} m n w a ls ms b e is h = subst (λ (x : Contents). Agreed m n x b) (ap (λ (xs : List (Layer S)). stacked a (layers_of xs)) e ∙ is) h

pub no_test : (m n w : Contents) (b : Bool) → b ≡ false → Agreed m n w b
no_test m n w b fails t q = absurd (true≢false (sym t ∙ fails))

-- a map agrees with itself

both_true : (a b : Bool) → a ≡ true → b ≡ true → (a && b) ≡ true
both_true true b h g = g
both_true false b h g = absurd (true≢false (sym h))

own_at : (m : Contents) (q : List ℕ) → is_same_at m m q ≡ true
own_at m q = (Decides-same_option (value_at m q) (value_at m q)).1 refl

own_listed : (m : Contents) (es : List Pair) → agree_at m m es ≡ true
own_listed m [] = refl
own_listed m (e ∷ es) = both_true _ _ (own_at m e.0) (own_listed m es)

own_changed : (m : Contents) (es : List Entry) → agree_by m m es ≡ true
own_changed m [] = refl
own_changed m (e ∷ es) = both_true _ _ (own_at m e.0.items) (own_changed m es)

own_layers : (m : Contents) (ls : List (List Entry)) → agree_in m m ls ≡ true
own_layers m [] = refl
own_layers m (l ∷ ls) = both_true _ _ (own_changed m l) (own_layers m ls)

pub own_in : (m n : Contents) (ls : List (List Entry)) (b : Bool) → b ≡ agree_in m n ls → m ≡ n → b ≡ true
own_in m n ls b is e = is ∙ subst (λ (x : Contents). agree_in m x ls ≡ true) e (own_layers m ls)

pub own_at_all : (m n : Contents) (es : List Pair) (b : Bool) → b ≡ agree_at m n es → m ≡ n → b ≡ true
own_at_all m n es b is e = is ∙ subst (λ (x : Contents). agree_at m x es ≡ true) e (own_listed m es)

-- so they are one where both tests hold
pub both_agree : (m n : Contents) (x y : Bool) → x ≡ true → Agreed m n m x → Agreed m n n y → (m ≡ n → y ≡ true) → IsTrue y ↔ (m ≡ n)
both_agree m n x y t one other own = (λ all. alike m n (one t) (other all), own)

-- and they are not where one test doesn't
pub not_one : (m n : Contents) (r : Bool) → r ≡ false → (m ≡ n → r ≡ true) → IsTrue r ↔ (m ≡ n)
not_one m n r fails own = (λ t. absurd (true≢false (sym t ∙ fails)), own)
