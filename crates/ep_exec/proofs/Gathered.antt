-- Changes of layers that are taken one after the other.
use Rattle.std.proofs.Common.{◌≡◌, ◌<◌, ◌≤◌, ◌+◌, ◌-◌, ℕ, zero, suc, ltb, Bool, true, List, [], ◌∷◌, ◌++◌, length, take, drop, map, Vec, Option, Some, None, refl, sym, ap, subst, ◌∙◌, arith}
use Rattle.std.proofs.lemmas.Bool.{ltb-true}
use Rattle.std.proofs.lemmas.Option.{slice_get-get_or}
use Rattle.std.specs.Arc.{arc_value}
use Rattle.std.specs.Prelude.{slice_get, slice_index_or}
use Rattle.ep_base.proofs.Lists.{drop_here}
use Rattle.ep_rules.specs.OneMap.{Contents, with_key}
use Rattle.ep_exec.specs.Layers.{Layer, layers_of, stacked}
use Rattle.ep_exec.specs.Settling.{first_len, with_rest}
use Rattle.ep_exec.specs.Table.{Entry, over}
use Rattle.ep_exec.proofs.Mixed.{over_push}

take_more : (l : List Entry) (k : ℕ) (e : Entry) → slice_get l k ≡ Some e → take (suc k) l ≡ take k l ++ e ∷ []
take_more [] k e h = absurd (cc)
take_more (x ∷ xs) zero e h = let same : x ≡ e = cc in ap (λ (y : Entry). y ∷ []) same
take_more (x ∷ xs) (suc k) e h = ap (λ (ys : List Entry). x ∷ ys) (take_more xs k e h)

take_whole : (l : List Entry) → take (length l) l ≡ l
take_whole [] = refl
take_whole (x ∷ xs) = ap (λ (ys : List Entry). x ∷ ys) (take_whole xs)

-- all changes of the first layer are left
pub full : (n : Contents) (ls : List (List Entry)) → with_rest n (first_len ls) ls ≡ stacked n ls
full n [] = refl
full n (l ∷ ls) = ap (λ (xs : List Entry). stacked (over n xs) ls) (take_whole l)

-- the last change that is left is taken
pub one_taken : (l : List Entry) (k left : ℕ) (e : Entry) (n n' w : Contents) (ls : List (List Entry)) → 0 < left → k ≡ left - 1 → slice_get l k ≡ Some e → n' ≡ with_key n e.0.items e.1
    → with_rest n left (l ∷ ls) ≡ w → with_rest n' k (l ∷ ls) ≡ w
one_taken l k left e n n' w ls some is at put was =
    let up : suc k ≡ left = omega (arith, some, is) in
    ap (λ (m : Contents). stacked (over m (take k l)) ls) put
    ∙ ap (λ (m : Contents). stacked m ls) (sym (over_push (take k l) e n))
    ∙ ap (λ (xs : List Entry). stacked (over n xs) ls) (sym (take_more l k e at) ∙ ap (λ (i : ℕ). take i l) up)
    ∙ was

drop_layers : {S : Type 0} (ls : List (Layer S)) (k : ℕ) → drop k (layers_of ls) ≡ layers_of (drop k ls)
drop_layers ls zero = refl
drop_layers [] (suc k) = refl
drop_layers (l ∷ ls) (suc k) = drop_layers ls k

-- the layer in a place
pub layer_at : {S : Type 0} (ls : List (Layer S)) (k : ℕ) (l : Layer S) → slice_get ls k ≡ Some l → drop k (layers_of ls) ≡ (arc_value l).entries ∷ drop (k + 1) (layers_of ls)
layer_at {S = S} ls k l h =
    drop_layers ls k ∙ ap (λ (xs : List (Layer S)). layers_of xs) (drop_here ls k l h) ∙ ap (λ (xs : List (List Entry)). (arc_value l).entries ∷ xs) (sym (drop_layers ls (k + 1)))

past_end : {S : Type 0} (ls : List (Layer S)) (k : ℕ) → length ls ≤ k → drop k ls ≡ []
past_end [] zero h = refl
past_end [] (suc k) h = refl
past_end (l ∷ ls) zero h = absurd (omega (arith, h))
past_end (l ∷ ls) (suc k) h = past_end ls k (omega (arith, h))

-- none is there
pub no_layer : {S : Type 0} (ls : List (Layer S)) (k : ℕ) → length ls ≤ k → drop k (layers_of ls) ≡ []
no_layer {S = S} ls k h = drop_layers ls k ∙ ap (λ (xs : List (Layer S)). layers_of xs) (past_end ls k h)

-- nothing is left of the first layer, and the next one comes
pub next_layer : (n w : Contents) (ls rest : List (List Entry)) (l : List Entry) (left len : ℕ) → ls ≡ l ∷ rest → left ≡ 0 → len ≡ first_len rest → with_rest n left ls ≡ w → with_rest n len rest ≡ w
next_layer n w ls rest l left len is none first was =
    ap (λ (i : ℕ). with_rest n i rest) first ∙ full n rest ∙ ap (λ (i : ℕ). with_rest n i (l ∷ rest)) (sym none) ∙ ap (with_rest n left) (sym is) ∙ was

-- all is taken
pub all_taken : (n w : Contents) (ls : List (List Entry)) (left : ℕ) → ls ≡ [] → with_rest n left ls ≡ w → n ≡ w
all_taken n w ls left none was = ap (with_rest n left) (sym none) ∙ was

-- an element that is lent
pub at_here : {A : Type 0} (xs : List A) (k : ℕ) (x : A) → true ≡ ltb k (length xs) → x ≡ slice_index_or xs k x → slice_get xs k ≡ Some x
at_here xs k x some is = slice_get-get_or xs k x (ltb-true k (length xs) (sym some)) ∙ ap Some (sym is)
