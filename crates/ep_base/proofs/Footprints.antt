-- What interferes by its footprint.
use Rattle.std.proofs.Common.{◌≡◌, ℕ, inl, inr, List, [], ◌∷◌, refl, sym, ap, subst, ◌∙◌, Contains, Option, Some, None, Bool, true, false}
use Rattle.std.proofs.lemmas.Bool.{false≢true}
use Rattle.std.specs.Prelude.{◌⊎◌, ◌↔◌, ◌||◌, IsTrue}
use Rattle.ep_base.specs.Commands.{Command, Noop, Get, Put, Del, Swap, Cas, Seal, Opaque, Tx}
use Rattle.ep_base.specs.Attributes.{same_list}
use Rattle.ep_base.specs.Interference.{listed, keys_in, has_key, only_reads, is_seal, Interferes, Touches, FootprintLaw}
use Rattle.ep_base.specs.Touched.{Touched}
use Rattle.ep_base.proofs.Interfering.{Decides-has_key}
use Rattle.ep_base.proofs.Same.{Decides-same_list}
use Rattle.ep_base.proofs.Tests.{or_true}

some_same : (k l : List ℕ) → k ≡ l → Some k ≡ Some l
some_same k l e = ap Some e

key_then : (k l : List ℕ) → Contains (l ∷ []) k → l ≡ k
key_then k l c = go (same_list k l) refl ((Decides-has_key k (l ∷ [])).1 c)
  where
    go : (b : Bool) → same_list k l ≡ b → (b || false) ≡ true → l ≡ k
    go true s e = sym ((Decides-same_list k l).0 s)
    go false s e = absurd (false≢true e)

key_there : (k l : List ℕ) → l ≡ k → Contains (l ∷ []) k
key_there k l e = (Decides-has_key k (l ∷ [])).0 (ap (λ b. b || false) ((Decides-same_list k l).1 (sym e)))

touched_then : (p : Touched) (k : List ℕ) → Contains (keys_in p) k → Touches p k
touched_then p k c = go (same_list k p.first) p.second refl refl ((Decides-has_key k (keys_in p)).1 c)
  where
    go : (b : Bool) (o : Option (List ℕ)) → same_list k p.first ≡ b → p.second ≡ o → (b || has_key k (listed o)) ≡ true → Touches p k
    go true o s i e = inl (sym ((Decides-same_list k p.first).0 s))
    go false None s i e = absurd (false≢true e)
    go false (Some l) s i e = inr (i ∙ some_same l k (key_then k l ((Decides-has_key k (l ∷ [])).0 e)))

touched_there : (p : Touched) (k : List ℕ) → Touches p k → Contains (keys_in p) k
touched_there p k (inl e) = (Decides-has_key k (keys_in p)).0 (ap (λ b. b || has_key k (listed p.second)) ((Decides-same_list k p.first).1 (sym e)))
touched_there p k (inr e) =
    (Decides-has_key k (keys_in p)).0
    (ap (λ o. same_list k p.first || has_key k (listed o)) e ∙ ap (λ b. same_list k p.first || b) ((Decides-has_key k (k ∷ [])).1 (key_there k k refl)) ∙ or_true (same_list k p.first))

no_seal : {X : Type 0} → IsTrue false ⊎ IsTrue false → X
no_seal (inl e) = absurd (false≢true e)
no_seal (inr e) = absurd (false≢true e)

others_lem : (p q : Touched) (body text : List ℕ) → Interferes (Opaque p body) (Opaque q text) ↔ (((k : List ℕ) × Touches p k × Touches q k) × ¬ (IsTrue p.reads × IsTrue q.reads))
others_lem p q body text = (
  λ h. elim h [ inl m ↦ ((m.0.0, touched_then p m.0.0 m.0.1, touched_then q m.0.0 m.0.2), m.1) | inr s ↦ no_seal s.0 ],
  λ h. inl ((h.0.0, touched_there p h.0.0 h.0.1, touched_there q h.0.0 h.0.2), h.1),
)

gets_lem : (p : Touched) (body key : List ℕ) → Interferes (Opaque p body) (Get key) ↔ (Touches p key × ¬ IsTrue p.reads)
gets_lem p body key = (
  λ h. elim h [ inl m ↦ (subst (λ k. Touches p k) (sym (key_then m.0.0 key m.0.2)) (touched_then p m.0.0 m.0.1), λ r. m.1 (r, refl)) | inr s ↦ no_seal s.0 ],
  λ h. inl ((key, touched_there p key h.0, key_there key key refl), λ r. h.1 r.0),
)

puts_lem : (p : Touched) (body key value : List ℕ) → Interferes (Opaque p body) (Put key value) ↔ Touches p key
puts_lem p body key value = (
  λ h. elim h [ inl m ↦ subst (λ k. Touches p k) (sym (key_then m.0.0 key m.0.2)) (touched_then p m.0.0 m.0.1) | inr s ↦ no_seal s.0 ],
  λ h. inl ((key, touched_there p key h, key_there key key refl), λ r. false≢true r.1),
)

pub reader_no_seal : (a : Command) → IsTrue (only_reads a) → is_seal a ≡ false
reader_no_seal Noop e = absurd (false≢true e)
reader_no_seal (Get k) e = refl
reader_no_seal (Put k v) e = absurd (false≢true e)
reader_no_seal (Del k) e = absurd (false≢true e)
reader_no_seal (Swap p) e = absurd (false≢true e)
reader_no_seal (Cas k x n) e = absurd (false≢true e)
reader_no_seal (Seal v) e = absurd (false≢true e)
reader_no_seal (Opaque p b) e = refl
reader_no_seal (Tx is) e = refl

readers_lem : (a b : Command) → IsTrue (only_reads a) → IsTrue (only_reads b) → ¬ Interferes a b
readers_lem a b ra rb h = elim h [
  | inl m ↦ m.1 (ra, rb)
  | inr s ↦ elim s.0 [ inl e ↦ false≢true (sym (reader_no_seal a ra) ∙ e) | inr e ↦ false≢true (sym (reader_no_seal b rb) ∙ e) ]
]

pub footprint_law_lem : FootprintLaw
footprint_law_lem = record { others = others_lem; gets = gets_lem; puts = puts_lem; readers = readers_lem }
