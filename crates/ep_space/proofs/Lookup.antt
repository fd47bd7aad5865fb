-- What the entries have at an instance is what the table holds there.
use Rattle.std.proofs.Common.{◌≡◌, ℕ, Bool, true, false, cond, Option, Some, None, List, [], ◌∷◌, ◌++◌, refl, sym, ap, ◌∙◌, subst, true≢false}
use Rattle.std.specs.Prelude.{is_some, ◌||◌}
use Rattle.std.specs.Cmp.{nat_cmp_total}
use Rattle.std.specs.FinMap as map
use Rattle.std.specs.FinMap.{find, nat_cmp-IsAntisymmetric}
use Rattle.std.specs.FinSet as set
use Rattle.std.specs.List.{IsDistinct}
use Rattle.std.specs.Map.{keys_of, lookup, set_value}
use Rattle.std.specs.Ordering.{nat_cmp}
use Rattle.std.proofs.lemmas.Map.{lookup-none, lookup-set_value, keys-set_value}
use Rattle.std.proofs.lemmas.Map.Entries.{none_past_head}
use Rattle.std.proofs.lemmas.Map.Keys.{IsDistinct-tail}
use Rattle.ep_rules.specs.Maps.{Map}
use Rattle.ep_rules.specs.States.{with_held}
use Rattle.ep_space.specs.Held.{Places, HasPlace}
use Rattle.ep_space.specs.Entries.{held_in, held_as, held, same, flat, with_place, IsTable}
use Rattle.ep_space.proofs.Order.{same_equiv, same-is}

some_or : {Y : Type 0} (b : Bool) (v : Y) (o : Option Y) → (b || is_some o) ≡ is_some (cond b (Some v) o)
some_or true v o = refl
some_or false v o = refl

pub none_of : {Y : Type 0} (o : Option Y) → is_some o ≡ false → o ≡ None
none_of None h = refl
none_of (Some y) h = absurd (true≢false h)

either_true : (b c : Bool) → (b ≡ true → c ≡ true) → c ≡ (b || c)
either_true true c h = h refl
either_true false c h = refl

-- a new place is one
pub place-insert : (places : Places) (i : ℕ) → HasPlace (set.insert places i) i
place-insert places i =
    set.contains-insert nat_cmp_total places i i ∙ ap (λ b. b || set.contains places i) (same-is i i ∙ same_equiv.refl i)

module _ {X : Type 0} where
  found_here : (q i : ℕ) (v : Option X) (es : List (ℕ × X)) (rest : Option (Option X)) (b : Bool) → same q i ≡ b
      → find nat_cmp q es ≡ flat rest → (b ≡ true → rest ≡ None) → find nat_cmp q (held_as i v es) ≡ flat (cond b (Some v) rest)
  found_here q i None es rest true e h none = h ∙ ap flat (none refl)
  found_here q i None es rest false e h none = h
  found_here q i (Some r) es rest true e h none = ap (λ b. cond b (Some r) (find nat_cmp q es)) (same-is q i ∙ e)
  found_here q i (Some r) es rest false e h none = ap (λ b. cond b (Some r) (find nat_cmp q es)) (same-is q i ∙ e) ∙ h

  pub find-held : (q : ℕ) (es : List (ℕ × Option X)) → IsTable es → find nat_cmp q (held_in es) ≡ flat (lookup (same q) es)
  find-held q [] h = refl
  find-held q (e ∷ es) h =
      found_here q e.0 e.1 (held_in es) (lookup (same q) es) (same q e.0) refl (find-held q es (IsDistinct-tail same e.0 (keys_of es) h))
      (λ t. lookup-none (same q) es (none_past_head same_equiv q e es h t))

  pub get-held : (q : ℕ) (es : List (ℕ × Option X)) → IsTable es → map.get (held es).held q ≡ flat (lookup (same q) es)
  get-held q es h = map.get-from_entries nat_cmp_total (held_in es) q ∙ find-held q es h

  -- the places are the keys
  pub contains-held : (q : ℕ) (es : List (ℕ × Option X)) → set.contains (held es).places q ≡ is_some (lookup (same q) es)
  contains-held q [] = set.contains-empty nat_cmp q
  contains-held q (e ∷ es) =
      set.contains-insert nat_cmp_total (held es).places e.0 q ∙ (λ t. same-is q e.0 t || contains-held q es t) ∙ some_or (same q e.0) e.1 (lookup (same q) es)

  -- a place adds no value
  held_in-push_none : (es : List (ℕ × Option X)) (i : ℕ) → held_in (es ++ (i, None) ∷ []) ≡ held_in es
  held_in-push_none [] i = refl
  held_in-push_none (e ∷ es) i = ap (held_as e.0 e.1) (held_in-push_none es i)

  held_in-placed : (es : List (ℕ × Option X)) (i : ℕ) (b : Bool) → held_in (cond b es (es ++ (i, None) ∷ [])) ≡ held_in es
  held_in-placed es i true = refl
  held_in-placed es i false = held_in-push_none es i

  lookup-push_none : (q i : ℕ) (es : List (ℕ × Option X)) → is_some (lookup (same q) (es ++ (i, None) ∷ [])) ≡ (same q i || is_some (lookup (same q) es))
  lookup-push_none q i [] = sym (some_or {Y = Option X} (same q i) None None)
  lookup-push_none q i (e ∷ es) =
      elim (same q e.0) as (λ b. is_some (cond b (Some e.1) (lookup (same q) (es ++ (i, None) ∷ []))) ≡ (same q i || is_some (cond b (Some e.1) (lookup (same q) es)))) [
        | true ↦ elim (same q i) as (λ c. true ≡ (c || true)) [ true ↦ refl | false ↦ refl ]
        | false ↦ lookup-push_none q i es
      ]

  lookup_same : (q i : ℕ) (es : List (ℕ × Option X)) → same q i ≡ true → is_some (lookup (same i) es) ≡ is_some (lookup (same q) es)
  lookup_same q i [] h = refl
  lookup_same q i (e ∷ es) h = ap (λ b. is_some (cond b (Some e.1) (lookup (same i) es))) (sym (same_equiv.congr q i e.0 h)) ∙ elim (same q e.0) as (λ b. is_some (cond b (Some e.1) (lookup (same i) es)) ≡ is_some (cond b (Some e.1) (lookup (same q) es))) [ true ↦ refl | false ↦ lookup_same q i es h ]

  placed_at : (q i : ℕ) (es : List (ℕ × Option X)) (b : Bool) → is_some (lookup (same i) es) ≡ b → is_some (lookup (same q) (cond b es (es ++ (i, None) ∷ []))) ≡ (same q i || is_some (lookup (same q) es))
  placed_at q i es true h = either_true (same q i) (is_some (lookup (same q) es)) (λ t. sym (lookup_same q i es t) ∙ h)
  placed_at q i es false h = lookup-push_none q i es

  -- what a new place makes of the table
  pub held-with_place : (es : List (ℕ × Option X)) (i : ℕ) → held (with_place es i) ≡ record { held = (held es).held; places = set.insert (held es).places i }
  held-with_place es i =
      let places : (held (with_place es i)).places ≡ set.insert (held es).places i =
      set.same_set nat_cmp_total nat_cmp-IsAntisymmetric _ _
      (λ q.
      contains-held q (with_place es i) ∙ placed_at q i es (is_some (lookup (same i) es)) refl
      ∙ (λ t. sym (same-is q i) t || sym (contains-held q es) t)
      ∙ sym (set.contains-insert nat_cmp_total (held es).places i q)) in
      λ t. record { held = map.from_entries (held_in-placed es i (is_some (lookup (same i) es)) t); places = places t }

  tested : (o : Option X) (m : Map X) (i q : ℕ) (b : Bool) → same i q ≡ b → map.get (with_held m i o) q ≡ flat (cond b (Some o) (Some (map.get m q)))
  tested None m i q true e = map.get-remove nat_cmp_total m i q ∙ ap (λ b. cond b None (map.get m q)) (same-is q i ∙ same_equiv.symm q i ∙ e)
  tested None m i q false e = map.get-remove nat_cmp_total m i q ∙ ap (λ b. cond b None (map.get m q)) (same-is q i ∙ same_equiv.symm q i ∙ e)
  tested (Some r) m i q true e = map.get-insert nat_cmp_total m i r q ∙ ap (λ b. cond b (Some r) (map.get m q)) (same-is q i ∙ same_equiv.symm q i ∙ e)
  tested (Some r) m i q false e = map.get-insert nat_cmp_total m i r q ∙ ap (λ b. cond b (Some r) (map.get m q)) (same-is q i ∙ same_equiv.symm q i ∙ e)

  flat_either : (b : Bool) (w : Option X) (o : Option (Option X)) (x : Option X) → x ≡ flat o → flat (cond b (Some w) o) ≡ flat (cond b (Some w) (Some x))
  flat_either true w o x e = refl
  flat_either false w o x e = sym e

  -- a write at a place is a write of the value there
  pub held-set_value : (es : List (ℕ × Option X)) (i : ℕ) (w : Option X) → IsTable es → is_some (lookup (same i) es) ≡ true
      → held (set_value (same i) es w) ≡ record { held = with_held (held es).held i w; places = (held es).places }
  held-set_value es i w h there =
      let values : (held (set_value (same i) es w)).held ≡ with_held (held es).held i w =
      map.same_map nat_cmp_total nat_cmp-IsAntisymmetric _ _
      (λ q.
      get-held q (set_value (same i) es w) (subst (IsDistinct same) (sym (keys-set_value (same i) es w)) h)
      ∙ ap flat (lookup-set_value same_equiv (same i) (λ x y t. same_equiv.congr i x y t) q w es there)
      ∙ flat_either (same i q) w (lookup (same q) es) (map.get (held es).held q) (get-held q es h)
      ∙ sym (tested w (held es).held i q (same i q) refl)) in
      λ t. record { held = values t; places = set.from_list (keys-set_value (same i) es w t) }
