-- What is said of a key, put among the items.
use Rattle.std.proofs.Common.{◌≡◌, ℕ, zero, suc, ◌+◌, ◌<◌, Bool, true, false, cond, List, [], ◌∷◌, ◌++◌, length, take, drop, Option, Some, None, refl, sym, ap, subst, ◌∙◌, true≢false, arith}
use Rattle.std.specs.Prelude.{option_map, nat_le, ◌&&◌, slice_index_or, slice_set, MatchBool}
use Rattle.std.proofs.lemmas.List.{set-get_or}
use Rattle.std.specs.Ordering.{nat_cmp, is_eq, is_lt}
use Rattle.std.specs.Cmp.Lexicographic.{slice_cmp}
use Rattle.std.specs.declared.cmp.Ordering.{Ordering}
use Rattle.std.specs.declared.cmp.Ordering.TheVariants.{Less, Equal, Greater}
use Rattle.std.proofs.lemmas.Bool.{and_parts, leb-true}
use Rattle.ep_base.specs.Commands.{Command, Tx}
use Rattle.ep_base.specs.Items.{Item, rise_above, reported_count}
use Rattle.ep_base.specs.Ops.{is_items_len}
use Rattle.ep_base.specs.CommandParts.{items_in, tx_bytes, all_items, are_items, is_tx}
use Rattle.ep_base.proofs.Bodies.{tx_again, tx_parts, tx_there}
use Rattle.ep_script.specs.Clauses.{Said, alone, with_clause, placed, with_said, below, begins_with}
use Rattle.ep_script.specs.Grammar.{tx_with}

abbrev compared : Said → Item → Ordering
compared s i = slice_cmp nat_cmp i.key s.key

abbrev place : Ordering → Said → List Item → ℕ
place o s is = cond (is_lt o) (suc (below s.key is)) 0

-- no item is of the key: a new one stands behind those below it
abbrev Inserts : Said → List Item → Type 0
Inserts s is = begins_with s.key (drop (below s.key is) is) ≡ false → with_said s is ≡ Some (take (below s.key is) is ++ alone s.key s.clause ∷ drop (below s.key is) is)

inserted : (s : Said) (is : List Item) → Inserts s is
inserted s [] h = refl
inserted s (i ∷ is) h = go (inserted s is) (compared s i) refl h
  where
    go : Inserts s is → (o : Ordering) → compared s i ≡ o → begins_with s.key (drop (place o s is) (i ∷ is)) ≡ false
        → placed o s i is (with_said s is) ≡ Some (take (place o s is) (i ∷ is) ++ alone s.key s.clause ∷ drop (place o s is) (i ∷ is))
    go more Less q e = ap (option_map (λ (js : List Item). i ∷ js)) (more e)
    go more Equal q e = absurd (true≢false (sym (ap is_eq q) ∙ e))
    go more Greater q e = refl

behind : (x : Item) (f : Item → List Item) (o : Option Item) → option_map (λ (js : List Item). x ∷ js) (option_map f o) ≡ option_map (λ j. x ∷ f j) o
behind x f None = refl
behind x f (Some j) = refl

-- an item is of it
abbrev Joins : Said → Item → List Item → Type 0
Joins s d is = begins_with s.key (drop (below s.key is) is) ≡ true → with_said s is ≡ option_map (λ j. slice_set is (below s.key is) j) (with_clause s.clause (slice_index_or is (below s.key is) d))

joined : (s : Said) (d : Item) (is : List Item) → Joins s d is
joined s d [] h = absurd (true≢false (sym h))
joined s d (x ∷ xs) h = go (joined s d xs) (compared s x) refl h
  where
    go : Joins s d xs → (o : Ordering) → compared s x ≡ o → begins_with s.key (drop (place o s xs) (x ∷ xs)) ≡ true
        → placed o s x xs (with_said s xs) ≡ option_map (λ j. slice_set (x ∷ xs) (place o s xs) j) (with_clause s.clause (slice_index_or (x ∷ xs) (place o s xs) d))
    go more Less q t = ap (option_map (λ (js : List Item). x ∷ js)) (more t) ∙ behind x (λ j. slice_set xs (below s.key xs) j) (with_clause s.clause (slice_index_or xs (below s.key xs) d))
    go more Equal q t = refl
    go more Greater q t = absurd (true≢false (sym t ∙ ap is_eq q))

-- where the code looks
pub place_is : (k k' : List ℕ) (is is' : List Item) (n : ℕ) → k' ≡ k → is' ≡ is → n ≡ below k' is' → n ≡ below k is
place_is k k' is is' n ke ie e = e ∙ (λ m. below (ke m) (ie m))

pub test_is : (k k' : List ℕ) (is is' : List Item) (n : ℕ) (t b : Bool) → k' ≡ k → is' ≡ is → t ≡ begins_with k' (drop n is') → t ≡ b → begins_with k (drop n is) ≡ b
test_is k k' is is' n t b ke ie e f = sym (e ∙ (λ m. begins_with (ke m) (drop n (ie m)))) ∙ f

-- what the code leaves
pub add_new : (s : Said) (is self js : List Item) (n : ℕ) (i : Item) → is ≡ self → n ≡ below s.key is → begins_with s.key (drop n is) ≡ false → i ≡ alone s.key s.clause → js ≡ take n is ++ i ∷ drop n is → with_said s self ≡ Some js
add_new s is self js n i v e t new made =
    let there = subst (λ m. begins_with s.key (drop m is) ≡ false) e t in
    ap (with_said s) (sym v) ∙ inserted s is there ∙ (λ m. Some (take (sym e m) is ++ sym new m ∷ drop (sym e m) is)) ∙ ap Some (sym made)

pub add_joined : (b : Bool) (s : Said) (is self : List Item) (n : ℕ) (old new : Item) → is ≡ self → n ≡ below s.key is → begins_with s.key (drop n is) ≡ true → old ≡ slice_index_or is n old
    → MatchBool b (with_clause s.clause old ≡ Some new) ((with_clause s.clause old ≡ None) × (new ≡ old)) → MatchBool b (with_said s self ≡ Some (slice_set is n new)) ((with_said s self ≡ None) × (slice_set is n new ≡ self))
add_joined b s is self n old new v e t o h =
    let there = subst (λ m. begins_with s.key (drop m is) ≡ true) e t in
    let all : with_said s is ≡ option_map (λ j. slice_set is n j) (with_clause s.clause old) =
    joined s old is there ∙ (λ m. option_map (λ j. slice_set is (sym e m) j) (with_clause s.clause (slice_index_or is (sym e m) old))) ∙ ap (λ x. option_map (λ j. slice_set is n j) (with_clause s.clause x)) (sym o) in
    go b (ap (with_said s) (sym v) ∙ all) h
  where
    go : (b : Bool) → with_said s self ≡ option_map (λ j. slice_set is n j) (with_clause s.clause old) → MatchBool b (with_clause s.clause old ≡ Some new) ((with_clause s.clause old ≡ None) × (new ≡ old))
        → MatchBool b (with_said s self ≡ Some (slice_set is n new)) ((with_said s self ≡ None) × (slice_set is n new ≡ self))
    go true all h = all ∙ ap (option_map (λ j. slice_set is n j)) h
    go false all h = (all ∙ ap (option_map (λ j. slice_set is n j)) h.0, ap (slice_set is n) (h.1 ∙ o) ∙ set-get_or is n old ∙ v)

-- The command of items, by their body.

not_false : (t : Bool) → (t ≡ false → ⊥) → t ≡ true
not_false true h = refl
not_false false h = absurd (h refl)

pub tx_made : (is : List Item) (b : List ℕ) (c : Command) → b ≡ tx_bytes is → c ≡ Tx (items_in b) → (is_tx b ≡ false → ⊥) → Some c ≡ tx_with is
tx_made is b c e f h =
    let again : items_in b ≡ is = ap items_in e ∙ tx_again is in
    let are : are_items is ≡ true = sym (ap are_items again) ∙ (tx_parts b (not_false (is_tx b) h)).1 in
    ap Some (f ∙ ap Tx again) ∙ sym (ap (λ t. cond t (Some (Tx is)) None) are)

refuses : (is : List Item) → (are_items is ≡ true → ⊥) → None ≡ tx_with is
refuses is h = go (are_items is) refl
  where
    go : (t : Bool) → are_items is ≡ t → None ≡ cond t (Some (Tx is)) None
    go true e = absurd (h e)
    go false e = refl

pub tx_refused : (is : List Item) (b : List ℕ) → b ≡ tx_bytes is → is_tx b ≡ false → None ≡ tx_with is
tx_refused is b e f = refuses is (λ are. true≢false (sym (tx_there is are) ∙ sym (ap is_tx e) ∙ f))

pub too_many : (is : List Item) → 1024 < length is → None ≡ tx_with is
too_many is more = refuses is (λ h.
    let few = and_parts (nat_le 1 (length is) && nat_le (length is) 1024) (all_items is && (rise_above [] is && (nat_le (reported_count is) 16 && is_items_len (length (tx_bytes is))))) h in
    let le = leb-true (length is) 1024 (and_parts (nat_le 1 (length is)) (nat_le (length is) 1024) few.0).1 in
    omega (arith, le, more))
