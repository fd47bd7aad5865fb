-- What one act does to a world, said of its messages, of cells, and of interference sets; and a message with its answer.
use Rattle.std.proofs.Common.{◌≡◌, ◌≢◌, ℕ, zero, suc, ◌<◌, ◌≤◌, Bool, true, false, cond, eqb, ltb, Some, None, Result, Ok, List, [], ◌∷◌, ◌++◌, refl, sym, ap, subst, ◌∙◌, inl, inr, ◌⊎◌, arith}
use Rattle.std.proofs.lemmas.Bool.{and_from, eq-eqb, ne_eqb, lt-ltb, not-true, not_from_false, cases_eq, false≢true}
use Rattle.ep_base.specs.Commands.{Command}
use Rattle.ep_base.specs.Messages.{instance_of_message}
use Rattle.ep_base.specs.Quorums.{size}
use Rattle.ep_base.specs.declared.message.Message.{Message}
use Rattle.ep_rules.specs.Cells.{Change, Refusal, OutOfRange, NotMine}
use Rattle.ep_rules.specs.Counting.{to_those, is_other}
use Rattle.ep_rules.specs.InterferenceSet.{interference}
use Rattle.ep_base.specs.Instances.{leader_of}
use Rattle.ep_rules.specs.Recovery.{recover}
use Rattle.ep_rules.specs.States.{State, cell_in, record_in}
use Rattle.ep_rules.specs.Steps.{Sent, Handle, Recover, is_within, handled, at, acts, changed_by, leaves, sent_from, IsTaken}
use Rattle.ep_rules.specs.Worlds.{World, In, Act, Happens, moved}
use Rattle.ep_rules.proofs.Keeping.{applied}
use Rattle.ep_rules.proofs.Moves.{moves}
use Rattle.ep_laws.specs.Quiet.{recovering}
use Rattle.ep_laws.proofs.Entries.{same_interference}
use Rattle.ep_laws.proofs.Sound.{in_left, in_right, in_cases, WorldSound, act_sound}

-- Messages to all others.

one_there : (from x n : ℕ) (m : Message) (b : Bool) → x ≡ n → b ≡ true → In (record { from = from; to = x; message = m }) (sent_from from (cond b ((n, m) ∷ []) []))
one_there from x n m true is e = inl (ap (λ k. record { from = from; to = k; message = m }) (sym is))
one_there from x n m false is e = absurd (cc)

sent_append : (from : ℕ) (xs ys : List (ℕ × Message)) → sent_from from (xs ++ ys) ≡ sent_from from xs ++ sent_from from ys
sent_append from [] ys = refl
sent_append from (x ∷ xs) ys = ap (λ l. record { from = from; to = x.0; message = x.1 } ∷ l) (sent_append from xs ys)

below_suc : (n r : ℕ) → r < suc n → (r ≡ n) ⊎ (r < n)
below_suc n r h = grind arith

those_there : (from x : ℕ) (p : ℕ → Bool) (n : ℕ) (m : Message) → x < n → p x ≡ true → In (record { from = from; to = x; message = m }) (sent_from from (to_those p n m))
those_there from x p zero m lt e = absurd (omega arith)
those_there from x p (suc n) m lt e =
    subst (λ l. In (record { from = from; to = x; message = m }) l) (sym (sent_append from (to_those p n m) (cond (p n) ((n, m) ∷ []) [])))
    (elim (below_suc n x lt) [
      | inl is ↦ in_right _ (sent_from from (to_those p n m)) _ (one_there from x n m (p n) is (subst (λ k. p k ≡ true) is e))
      | inr less ↦ in_left _ (sent_from from (to_those p n m)) _ (those_there from x p n m less e)
    ])

pub others_there : (from x f : ℕ) (m : Message) → x < size f → x ≢ from → In (record { from = from; to = x; message = m }) (sent_from from (to_those (is_other from) (size f) m))
others_there from x f m lt ne = those_there from x (is_other from) (size f) m lt (not_from_false _ (ne_eqb x from ne))

one_only : (from n : ℕ) (m : Message) (b : Bool) (s : Sent) → In s (sent_from from (cond b ((n, m) ∷ []) [])) → (b ≡ true) × (record { from = from; to = n; message = m } ≡ s)
one_only from n m true s (inl e) = (refl, e)
one_only from n m true s (inr none) = absurd none
one_only from n m false s there = absurd there

pub those_only : (from n : ℕ) (m : Message) (s : Sent) → In s (sent_from from (to_those (is_other from) n m)) → (x : ℕ) × (x ≢ from) × (record { from = from; to = x; message = m } ≡ s)
those_only from zero m s there = absurd there
those_only from (suc n) m s there =
    elim (in_cases s (sent_from from (to_those (is_other from) n m)) _ (subst (λ l. In s l) (sent_append from (to_those (is_other from) n m) (cond (is_other from n) ((n, m) ∷ []) [])) there)) [
      | inl old ↦ those_only from n m s old
      | inr new ↦ (let t = one_only from n m (is_other from n) s new in (n, (λ is. absurd (false≢true (sym (not-true (eqb n from) t.0) ∙ eq-eqb n from is))), t.1))
    ]

-- States of the others, and interference sets in instance i.

pub state_apart : (f : ℕ) (w : World) (a : Act) (k : ℕ) → k ≢ a.replica → (moved f w a).states k ≡ w.states k
state_apart f w a k ne = ap (λ b. cond b (leaves f k (w.states k) a.event a.done) (w.states k)) (ne_eqb a.replica k (λ e. ne (sym e)))

pub state_here : (f : ℕ) (w : World) (a : Act) → (moved f w a).states a.replica ≡ leaves f a.replica (w.states a.replica) a.event a.done
state_here f w a = ap (λ b. cond b (leaves f a.replica (w.states a.replica) a.event a.done) (w.states a.replica)) (eq-eqb a.replica a.replica refl)

-- what an act in instance i does
pub record Done (f i : ℕ) (w : World) (a : Act) (ch : Change) : Type 0 where
  pub happens : Happens f w a
  pub here : cell_in ((moved f w a).states a.replica) i ≡ applied (cell_in (w.states a.replica) i) ch
  pub apart : (k : ℕ) → k ≢ a.replica → (moved f w a).states k ≡ w.states k
  pub own : (k : ℕ) (c : Command) → interference ((moved f w a).states k).records i c ≡ interference (w.states k).records i c
  pub before : (s : Sent) → In s w.sent → In s (moved f w a).sent
  pub new : (s : Sent) → In s (sent_from a.replica ch.out) → In s (moved f w a).sent
  pub only : (s : Sent) → In s (moved f w a).sent → In s w.sent ⊎ In s (sent_from a.replica ch.out)
  pub sound : WorldSound f (moved f w a)

module _ (f : ℕ) (few : size f ≤ 256) (i : ℕ) (w : World) (ok : WorldSound f w) where
  own_same : (a : Act) (ch : Change) → acts f a.replica (w.states a.replica) a.event ≡ Ok (i, ch) → (k : ℕ) (c : Command) → interference ((moved f w a).states k).records i c ≡ interference (w.states k).records i c
  own_same a ch e k c = elim (cases_eq k a.replica) [
    | inl is ↦ subst (λ r. interference ((moved f w a).states r).records i c ≡ interference (w.states r).records i c) (sym is)
        (ap (λ (s : State). interference s.records i c) (state_here f w a) ∙ ap (λ o. interference (changed_by (w.states a.replica) o).records i c) e ∙ same_interference (w.states a.replica).records i ch.entry c)
    | inr ne ↦ ap (λ (s : State). interference s.records i c) (state_apart f w a k ne)
  ]

  pub done_by : (a : Act) (ch : Change) → Happens f w a → acts f a.replica (w.states a.replica) a.event ≡ Ok (i, ch) → Done f i w a ch
  done_by a ch p e =
      let m = moves f w a (i, ch) e in
      record {
        happens = p;
        here = m.here;
        apart = state_apart f w a;
        own = own_same a ch e;
        before = λ s there. subst (λ l. In s l) (sym m.sent) (in_left s w.sent (sent_from a.replica ch.out) there);
        new = λ s there. subst (λ l. In s l) (sym m.sent) (in_right s w.sent (sent_from a.replica ch.out) there);
        only = λ s there. in_cases s w.sent (sent_from a.replica ch.out) (subst (λ l. In s l) m.sent there);
        sound = act_sound f few w a p ok;
      }

passes : (a b : Bool) → a ≡ true → b ≡ true → cond a (cond b None (Some NotMine)) (Some OutOfRange) ≡ None
passes true true p q = refl
passes true false p q = absurd (cc)
passes false b p q = absurd (cc)

is_taken : (o : Result (ℕ × Change) Refusal) (p : ℕ × Change) → o ≡ Ok p → IsTaken o
is_taken o p e = subst IsTaken (sym e) tt

-- Acts.

abbrev pub handling : Sent → Act
handling s = record { replica = s.to; event = Handle (record { sent = s; entry = 0; place = 0; stamp = 0 }); done = [] }

module _ (f : ℕ) (few : size f ≤ 256) (w : World) (ok : WorldSound f w) where
  pub handle_done : (i : ℕ) (s : Sent) → s.from < size f → s.to < size f → instance_of_message s.message ≡ i → In s w.sent → (ch : Change) → handled f s.to s.from (w.states s.to) s.message ≡ Ok ch → Done f i w (handling s) ch
  handle_done i s from to about there ch e =
      let all : is_within f s.to (handling s).event ≡ true = and_from _ _ (lt-ltb s.from (size f) from) (and_from _ _ (lt-ltb s.to (size f) to) (ok.sent s there)) in
      let did : acts f s.to (w.states s.to) (handling s).event ≡ Ok (i, ch) = ap (at (instance_of_message s.message)) e ∙ ap (λ (j : ℕ). at j (Ok ch)) about in
      let p : Happens f w (handling s) = record {
        replica = to;
        step = record { unscreened = passes _ _ all (eq-eqb s.to s.to refl); taken = is_taken _ (i, ch) did; executes = refl };
        there = there;
      } in
      done_by f few i w ok (handling s) ch p did

  pub recover_done : (i q : ℕ) → q < size f → leader_of i < size f → (ch : Change) → recover f i q (record_in (w.states q) i) (cell_in (w.states q) i).reported ≡ Ok ch → Done f i w (recovering q i) ch
  recover_done i q low lead ch e =
      let did : acts f q (w.states q) (Recover i) ≡ Ok (i, ch) = ap (at i) e in
      let p : Happens f w (recovering q i) = record {
        replica = low;
        step = record { unscreened = passes (ltb (leader_of i) (size f)) true (lt-ltb (leader_of i) (size f) lead) refl; taken = is_taken _ (i, ch) did; executes = refl };
        there = tt;
      } in
      done_by f few i w ok (recovering q i) ch p did
