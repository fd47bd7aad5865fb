-- Layers that are put into a listing.
use Rattle.std.proofs.Common.{◌≡◌, ◌≤◌, ◌⊎◌, inl, inr, ℕ, List, [], ◌∷◌, ◌++◌, length, drop, Option, Some, None, IfSome, refl, sym, ap, subst, ◌∙◌}
use Rattle.std.specs.FinMap.{entries}
use Rattle.ep_rules.specs.OneMap.{Contents}
use Rattle.ep_exec.specs.Layers.{Layer, layers_of, stacked}
use Rattle.ep_exec.specs.Merging.{merged, Rise}
use Rattle.ep_exec.specs.Settling.{with_rest}
use Rattle.ep_exec.specs.Table.{Entry, over}
use Rattle.ep_exec.proofs.Gathered.{all_taken, no_layer}
use Rattle.ep_exec.proofs.Mixed.{merged_is}
use Rattle.ep_exec.proofs.Sorting.{Pair}

pub of_some : {A : Type 0} (P : A → Type 0) (o p : Option A) (x : A) → IfSome o P → p ≡ o → p ≡ Some x → P x
of_some P o p x h same is = subst (λ q. IfSome q P) (sym same ∙ is) h

-- all layers are in the tree
pub gathered_all : {S : Type 0} (m n : Contents) (ls : List (Layer S)) (tree : List Entry) (left done : ℕ) → length ls ≤ done → with_rest (over m tree) left (drop done (layers_of ls)) ≡ n → over m tree ≡ n
gathered_all m n ls tree left done end was = all_taken (over m tree) n (drop done (layers_of ls)) left (no_layer ls done end) was

-- so what is merged then is all
pub merged_all : (m n : Contents) (es : List Pair) (tree : List Entry) → es ≡ entries m → Rise tree → over m tree ≡ n → merged es tree ≡ entries n
merged_all m n es tree are rise is = ap (λ (xs : List Pair). merged xs tree) are ∙ merged_is m tree rise ∙ ap (λ (x : Contents). entries x) is

-- no more keys than before
pub still_few : (m n : Contents) (ls ks : List (List Entry)) → stacked n ks ≡ stacked m ls → (ks ≡ []) ⊎ (ks ≡ ls) → (ls ≡ []) ⊎ (length (entries (stacked m ls)) ≤ 4000000000) → (ks ≡ []) ⊎ (length (entries (stacked n ks)) ≤ 4000000000)
still_few m n ls ks same (inl none) few = inl none
still_few m n ls ks same (inr stay) (inl none) = inl (stay ∙ none)
still_few m n ls ks same (inr stay) (inr few) = inr (subst (λ (x : Contents). length (entries x) ≤ 4000000000) (sym same) few)
