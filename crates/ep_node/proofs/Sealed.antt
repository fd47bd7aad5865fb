-- Entries that leave a closed map have one that executed a seal.
use Rattle.std.proofs.Common.{◌≡◌, ℕ, Bool, true, false, not, is_none, inl, inr, Option, Some, None, List, [], ◌∷◌, refl, sym, ◌∙◌}
use Rattle.std.proofs.lemmas.Bool.{false≢true}
use Rattle.ep_base.specs.Commands.{Command, Noop, Get, Put, Del, Swap, Cas, Seal, Opaque, Tx}
use Rattle.ep_base.specs.Interference.{is_seal}
use Rattle.ep_base.specs.Places.{Has}
use Rattle.ep_base.specs.declared.decree.Decree.{Decree}
use Rattle.ep_base.proofs.Places.{Has-first}
use Rattle.ep_rules.specs.Journals.{Entry, left}
use Rattle.ep_rules.specs.OneMap.{Contents, Store, is_closed, sealed_by, after, after_all}
use Rattle.ep_rules.specs.States.{State, committed_in, command_of, command_in}
use Rattle.ep_rules.specs.Steps.{order_of, leaves}
use Rattle.ep_rules.specs.Worlds.{In}
use Rattle.ep_rules.proofs.JournalsKeep.{left_stays}
use Rattle.ep_rules.proofs.Places.{has_tail}

-- One command.

seals_it : (c : Command) → not (is_none (sealed_by c)) ≡ true → is_seal c ≡ true
seals_it Noop h = absurd (false≢true h)
seals_it (Get k) h = absurd (false≢true h)
seals_it (Put k v) h = absurd (false≢true h)
seals_it (Del k) h = absurd (false≢true h)
seals_it (Swap ks) h = absurd (false≢true h)
seals_it (Cas k e n) h = absurd (false≢true h)
seals_it (Seal v) h = refl
seals_it (Opaque p b) h = absurd (false≢true h)
seals_it (Tx is) h = absurd (false≢true h)

closes_it : (seal : Option (List ℕ)) (m : Contents) (c : Command) → not (is_none seal) ≡ false → is_closed (after (record { contents = m; seal = seal }) c) ≡ true → is_seal c ≡ true
closes_it None m c unshut closed = seals_it c closed
closes_it (Some v) m c unshut closed = absurd (false≢true (sym unshut))

-- one of them is a seal
sealed_in : (c : ℕ → Command) (s : Store) (is : List ℕ) → is_closed s ≡ false → is_closed (after_all c s is) ≡ true → (i : ℕ) × Has is i × (is_seal (c i) ≡ true)
sealed_in c s [] unshut closed = absurd (false≢true (sym unshut ∙ closed))
sealed_in c s (i ∷ is) unshut closed = go (is_closed (after s (c i))) refl (λ e. sealed_in c (after s (c i)) is e closed)
  where
    go : (b : Bool) → is_closed (after s (c i)) ≡ b → (is_closed (after s (c i)) ≡ false → (j : ℕ) × Has is j × (is_seal (c j) ≡ true)) → (j : ℕ) × Has (i ∷ is) j × (is_seal (c j) ≡ true)
    go true e rec = (i, Has-first i is, closes_it s.seal s.contents (c i) unshut e)
    go false e rec = let t = rec e in (t.0, has_tail i t.0 is t.1, t.2)

-- what isn't committed is no seal
seals_committed : (o : Option Decree) → is_seal (command_of o) ≡ true → (x : Decree) × (o ≡ Some x) × (is_seal x.command ≡ true)
seals_committed None h = absurd (false≢true h)
seals_committed (Some x) h = (x, refl, h)

-- Entries.

pub record Seals (f me : ℕ) (s : State) (es : List Entry) : Type 0 where
  pub entry : Entry
  pub stands : In entry es
  pub instance : ℕ
  pub executes : Has (order_of entry.done) instance
  pub decree : Decree
  pub committed : committed_in (left f me s es).records instance ≡ Some decree
  pub seals : is_seal decree.command ≡ true

pub sealing : (f me : ℕ) (s : State) (es : List Entry) → is_closed s.store ≡ false → is_closed (left f me s es).store ≡ true → Seals f me s es
sealing f me s [] unshut closed = absurd (false≢true (sym unshut ∙ closed))
sealing f me s (e ∷ es) unshut closed = go (is_closed (leaves f me s e.event e.done).store) refl (λ h. sealing f me (leaves f me s e.event e.done) es h closed)
  where
    go : (b : Bool) → is_closed (leaves f me s e.event e.done).store ≡ b → (is_closed (leaves f me s e.event e.done).store ≡ false → Seals f me (leaves f me s e.event e.done) es) → Seals f me s (e ∷ es)
    go false h rec =
        let t = rec h in
        record { entry = t.entry; stands = inr t.stands; instance = t.instance; executes = t.executes; decree = t.decree; committed = t.committed; seals = t.seals }
    go true h rec =
        let t = sealed_in (command_in s.records) s.store (order_of e.done) unshut h in
        let d = seals_committed (committed_in s.records t.0) t.2 in
        record { entry = e; stands = inl refl; instance = t.0; executes = t.1; decree = d.0; committed = left_stays f me s (e ∷ es) t.0 d.0 d.1; seals = d.2 }

-- Stamps.
