-- What a set of frames has once one more is inserted.
use Rattle.std.proofs.Common.{◌≡◌, ℕ, Bool, true, false, cond, ◌||◌, List, [], ◌∷◌, ◌++◌, refl, sym, ap, subst, ◌∙◌}
use Rattle.std.specs.Prelude.{Vec}
use Rattle.std.specs.Global.{Global}
use Rattle.std.specs.List.{list_any}
use Rattle.std.specs.Cmp.Lexicographic.{texts_ties}
use Rattle.std.proofs.lemmas.Map.Lookups.{exact_bytes}
use Rattle.std.proofs.lemmas.Map.Views.{tells_apart}
use Rattle.indexmap.specs.IndexSet.{insert_key}
use Rattle.ep_base.specs.Attributes.{same_list}
use Rattle.ep_view.specs.Handled.{has_bytes}

abbrev pub same : Vec ℕ Global → Vec ℕ Global → Bool
same k l = same_list k.items l.items

turned : (p q r s : Bool) → r ≡ (q || s) → (p || r) ≡ (q || (p || s))
turned true true r s e = refl
turned true false r s e = refl
turned false q r s e = e

any_more : (ks : List (Vec ℕ Global)) (k : Vec ℕ Global) (b : List ℕ) → has_bytes (ks ++ k ∷ []) b ≡ (same_list b k.items || has_bytes ks b)
any_more [] k b = refl
any_more (x ∷ xs) k b = turned (same_list b x.items) (same_list b k.items) (has_bytes (xs ++ k ∷ []) b) (has_bytes xs b) (any_more xs k b)

had : (ks : List (Vec ℕ Global)) (k : Vec ℕ Global) (b : List ℕ) (t : Bool) → same_list b k.items ≡ t → list_any (same k) ks ≡ true → has_bytes ks b ≡ (t || has_bytes ks b)
had ks k b true f e = ap (has_bytes ks) (tells_apart exact_bytes b k.items (sym (texts_ties b k.items) ∙ f)) ∙ e
had ks k b false f e = refl

one_more : (ks : List (Vec ℕ Global)) (k : Vec ℕ Global) (b : List ℕ) → has_bytes (insert_key same ks k) b ≡ (same_list b k.items || has_bytes ks b)
one_more ks k b = go (list_any (same k) ks) refl
  where
    go : (t : Bool) → list_any (same k) ks ≡ t → has_bytes (cond t ks (ks ++ k ∷ [])) b ≡ (same_list b k.items || has_bytes ks b)
    go true e = had ks k b (same_list b k.items) refl e
    go false e = any_more ks k b

pub inserted :
    (ks new : List (Vec ℕ Global)) (k : Vec ℕ Global) (frame : List ℕ) → new ≡ insert_key same ks k → k.items ≡ frame → (b : List ℕ) →
    has_bytes new b ≡ (same_list b frame || has_bytes ks b)
inserted ks new k frame e is b = ap (λ l. has_bytes l b) e ∙ one_more ks k b ∙ ap (λ (f : List ℕ). same_list b f || has_bytes ks b) is

-- what one entry handles goes over from those that are left to those that are noted
pub noted : (a r o n : Bool) → n ≡ (a || o) → (r || n) ≡ ((a || r) || o)
noted true true o n e = refl
noted true false o n e = e
noted false r o n e = ap (λ z. r || z) e
