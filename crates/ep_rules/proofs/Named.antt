-- What a proposal sends says which instance it takes.
use Rattle.std.proofs.Common.{◌≡◌, ℕ, zero, suc, ◌+◌, ◌<◌, Bool, true, false, cond, ◌&&◌, not, eqb, leb, ◌⊎◌, inl, inr, Option, Some, None, List, [], ◌∷◌, ◌++◌, slice_get, refl, sym, ap, subst, ◌∙◌, arith}
use Rattle.std.proofs.lemmas.Bool.{cases_eq, ne_eqb}
use Rattle.std.specs.Prelude.{Ok, Err}
use Rattle.ep_base.specs.Instances.{instance_of, leader_of}
use Rattle.ep_base.specs.Messages.{instance_of_message}
use Rattle.ep_base.specs.Quorums.{size, spared, is_fast}
use Rattle.ep_base.specs.declared.attrs.Attrs.{Attrs}
use Rattle.ep_base.specs.Commands.{Command}
use Rattle.ep_base.specs.declared.decree.Decree.{Decree}
use Rattle.ep_base.specs.declared.message.Message.{Message}
use Rattle.ep_base.specs.declared.message.Message.TheVariants.{PreAccept}
use Rattle.ep_rules.specs.Cells.{Change, SeqExhausted}
use Rattle.ep_rules.specs.Counting.{to_those}
use Rattle.ep_rules.specs.InterferenceSet.{interference}
use Rattle.ep_rules.specs.Phases.{first_phase}
use Rattle.ep_rules.specs.States.{State, free_number}
use Rattle.ep_rules.specs.Steps.{Frame, Sent, acts, at, proposed, sent_from, sent_by, IsTaken}
use Rattle.ep_rules.specs.Worlds.{In}
use Rattle.ep_rules.specs.Journals.{Entry, messages_of}
use Rattle.ep_rules.specs.Merging.{Takes, ProposalsName}
use Rattle.ep_rules.proofs.Merged.{in_messages, in_left, in_right, in_split}

-- what is sent to those that pass
sent_is : (me : ℕ) (p : ℕ → Bool) (n : ℕ) (m : Message) (s : Sent) → In s (sent_from me (to_those p n m)) → s.message ≡ m
sent_is me p zero m s h = absurd h
sent_is me p (suc n) m s h = elim (in_split s (sent_from me (to_those p n m)) (sent_from me (cond (p n) ((n, m) ∷ []) [])) (subst (λ xs. In s xs) (both (to_those p n m) (cond (p n) ((n, m) ∷ []) [])) h)) [
  | inl k ↦ sent_is me p n m s k
  | inr k ↦ one (p n) k
]
  where
    both : (xs ys : List (ℕ × Message)) → sent_from me (xs ++ ys) ≡ sent_from me xs ++ sent_from me ys
    both [] ys = refl
    both (x ∷ xs) ys = ap (λ z. record { from = me; to = x.0; message = x.1 } ∷ z) (both xs ys)

    one : (b : Bool) → In s (sent_from me (cond b ((n, m) ∷ []) [])) → s.message ≡ m
    one true (inl e) = sym (ap (λ z. z.message) e)
    one true (inr k) = absurd k
    one false k = absurd k

those_has : (p : ℕ → Bool) (n r : ℕ) (m : Message) → r < n → p r ≡ true → In {X = ℕ × Message} (r, m) (to_those p n m)
those_has p zero r m lt e = absurd (omega arith)
those_has p (suc n) r m lt e = elim (cases_eq r n) [
  | inl is ↦ in_right (r, m) (to_those p n m) (cond (p n) ((n, m) ∷ []) []) (subst (λ k. In {X = ℕ × Message} (r, m) (cond (p k) ((k, m) ∷ []) [])) is (subst (λ b. In {X = ℕ × Message} (r, m) (cond b ((r, m) ∷ []) [])) (sym e) (inl refl)))
  | inr ne ↦ in_left (r, m) (to_those p n m) (cond (p n) ((n, m) ∷ []) []) (those_has p n r m (omega arith) e)
]

-- some replica is neither the leader nor spared
fast_one : (l s r : ℕ) → (r ≡ l → ⊥) → (r ≡ s → ⊥) → is_fast l s r ≡ true
fast_one l s r a b = ap (λ t. not t && not (eqb r s)) (ne_eqb r l a) ∙ ap (λ t. not t) (ne_eqb r s b)

free_of : {A B : Type 0} → A ⊎ (A → ⊥) → B ⊎ (B → ⊥) → ((A → ⊥) × (B → ⊥)) ⊎ (A ⊎ B)
free_of (inl a) q = inr (inl a)
free_of (inr na) (inl b) = inr (inr b)
free_of (inr na) (inr nb) = inl (na, nb)

-- of three numbers one is neither of two
one_of_three : (l s : ℕ) → (r : ℕ) × (r < 3) × (r ≡ l → ⊥) × (r ≡ s → ⊥)
one_of_three l s = elim (free_of (cases_eq 0 l) (cases_eq 0 s)) [
  | inl t ↦ (0, omega arith, t.0, t.1)
  | inr p ↦ (elim (free_of (cases_eq 1 l) (cases_eq 1 s)) [
    | inl t ↦ (1, omega arith, t.0, t.1)
    | inr q ↦ (2, omega arith, (λ e. omega arith), (λ e. omega arith))
  ])
]

some_fast : (f l s : ℕ) → 0 < f → (r : ℕ) × (r < size f) × (is_fast l s r ≡ true)
some_fast f l s some = let t = one_of_three l s in (t.0, (let lt = t.1 in omega arith), fast_one l s t.0 t.2 t.3)

in_sent : (me : ℕ) (p : ℕ × Message) (out : List (ℕ × Message)) → In p out → In (record { from = me; to = p.0; message = p.1 }) (sent_from me out)
in_sent me p [] h = absurd h
in_sent me p (x ∷ out) (inl is) = inl (ap (λ z. record { from = me; to = z.0; message = z.1 }) is)
in_sent me p (x ∷ out) (inr h) = inr (in_sent me p out h)

head_of : (ms : List Frame) (s : Sent) → In s (messages_of ms) → (m : Frame) × (slice_get ms 0 ≡ Some m)
head_of [] s h = absurd h
head_of (m ∷ ms) s h = (m, refl)

-- what is taken within the limit is sent
limited_sent : (me i : ℕ) (ch : Change) (b : Bool) → IsTaken (at i (cond b (Ok ch) (Err SeqExhausted))) → sent_by me (at i (cond b (Ok ch) (Err SeqExhausted))) ≡ sent_from me ch.out
limited_sent me i ch true h = refl
limited_sent me i ch false h = absurd h

module _ (f me q : ℕ) (s : State) (e : Entry) (c : Command) (some : 0 < f) where
  named : (n : Option ℕ) → free_number s.records me ≡ n → IsTaken (proposed f me q s c n) → messages_of e.out ≡ sent_by me (proposed f me q s c n) → Takes me s e
  named None free h out = absurd h
  named (Some k) free h out =
      let i : ℕ = instance_of me (k + 1) in
      let own : Attrs = interference s.records i c in
      let x : Decree = record { command = c; attrs = own } in
      let m : Message = PreAccept i (leader_of i) x in
      let asked : ℕ → Bool = is_fast (leader_of i) q in
      let is : messages_of e.out ≡ sent_from me (to_those asked (size f) m) = out ∙ limited_sent me i (first_phase asked f i (leader_of i) q x) (leb own.seq 1000000) h in
      let r = some_fast f (leader_of i) q some in
      let first = head_of e.out (record { from = me; to = r.0; message = m }) (subst (λ z. In (record { from = me; to = r.0; message = m }) z) (sym is) (in_sent me (r.0, m) (to_those asked (size f) m) (those_has asked (size f) r.0 m r.1 r.2))) in
      record {
        number = k;
        free = free;
        frame = first.0;
        first = first.1;
        about = λ g j. ap instance_of_message (sent_is me asked (size f) m g.sent (subst (λ z. In g.sent z) is (in_messages g e.out j)));
      }

pub proposals_name_lem : ProposalsName
proposals_name_lem f me s e client request seen spare c some is h =
    named f me (spared f me spare) s e c some (free_number s.records me) refl (subst (λ v. IsTaken (acts f me s v)) is h.step.taken) (h.sent ∙ ap (λ v. sent_by me (acts f me s v)) is)
