-- What interferes with a command that only reads one key interferes with whatever else does.
use Rattle.std.proofs.Common.{◌≡◌, ℕ, ◌⊎◌, inl, inr, List, [], ◌∷◌, Bool, true, false, refl, sym, subst, ◌∙◌, Contains}
use Rattle.std.proofs.lemmas.Bool.{false≢true, cases_Bool}
use Rattle.std.specs.Prelude.{◌||◌}
use Rattle.ep_base.specs.Attributes.{same_list}
use Rattle.ep_base.specs.Commands.{Command}
use Rattle.ep_base.specs.Interference.{keys_of, is_seal, interfere, Meets, MeetsSeal, Interferes}
use Rattle.ep_base.specs.Sameness.{is_noop}
use Rattle.ep_base.proofs.Footprints.{reader_no_seal}
use Rattle.ep_base.proofs.Interfering.{Decides-has_key, Decides-interfere, Interferes-symmetric, Interferes-noop}
use Rattle.ep_base.proofs.Same.{Decides-same_list}
use Rattle.ep_rules.proofs.Sealing.{noop_is}
use Rattle.ep_laws.specs.Reads.{ReadsOneKey}

-- what interferes is no no-op, and interference is symmetric

pub interferes_real : (a b : Command) → interfere a b ≡ true → is_noop a ≡ false
interferes_real a b e = elim (cases_Bool (is_noop a)) [
  | inl t ↦ absurd (Interferes-noop b (subst (λ x. Interferes x b) (noop_is a t) ((Decides-interfere a b).0 e)))
  | inr f ↦ f
]

pub interferes_back : (a b : Command) → interfere a b ≡ true → interfere b a ≡ true
interferes_back a b e = (Decides-interfere b a).1 (Interferes-symmetric a b ((Decides-interfere a b).0 e))

-- its one key
record OneKey (c : Command) : Type 0 where
  key : List ℕ
  keys : keys_of c ≡ key ∷ []
  no_seal : is_seal c ≡ false

one_key : (c : Command) → ReadsOneKey c → OneKey c
one_key c r = record { key = r.one.0; keys = r.one.1; no_seal = reader_no_seal c r.only }

only_one : (k l : List ℕ) → Contains (l ∷ []) k → k ≡ l
only_one k l c = go (same_list k l) refl ((Decides-has_key k (l ∷ [])).1 c)
  where
    go : (b : Bool) → same_list k l ≡ b → (b || false) ≡ true → k ≡ l
    go true s e = (Decides-same_list k l).0 s
    go false s e = absurd (false≢true e)

module _ (c : Command) (r : ReadsOneKey c) where
  -- what interferes with it is a seal, or names its key and doesn't only read
  with_key : (u : Command) → Meets u c → Contains (keys_of u) (one_key c r).key
  with_key u m =
      let o = one_key c r in
      subst (λ k. Contains (keys_of u) k) (only_one m.0.0 o.key (subst (λ ks. Contains ks m.0.0) o.keys m.0.2)) m.0.1

  seals : (u : Command) → MeetsSeal u c → is_seal u ≡ true
  seals u p = elim p.0 [ inl e ↦ e | inr e ↦ absurd (false≢true (sym (one_key c r).no_seal ∙ e)) ]

  not_noops : (u v : Command) → interfere u c ≡ true → interfere v c ≡ true → ¬ ((is_noop u ≡ true) ⊎ (is_noop v ≡ true))
  not_noops u v eu ev n = elim n [ inl t ↦ false≢true (sym (interferes_real u c eu) ∙ t) | inr t ↦ false≢true (sym (interferes_real v c ev) ∙ t) ]

  pub meet_each_other : (u v : Command) → interfere u c ≡ true → interfere v c ≡ true → interfere u v ≡ true
  meet_each_other u v eu ev = (Decides-interfere u v).1 (elim ((Decides-interfere u c).0 eu) [
    | inr p ↦ inr (inl (seals u p), not_noops u v eu ev)
    | inl m ↦ elim ((Decides-interfere v c).0 ev) [
      | inr p ↦ inr (inr (seals v p), not_noops u v eu ev)
      | inl n ↦ inl (((one_key c r).key, with_key u m, with_key v n), λ both. m.1 (both.0, r.only))
    ]
  ])
