-- A map that entries have closed stays as it is.
use Rattle.std.proofs.Common.{◌≡◌, ℕ, true, List, [], ◌∷◌, refl, sym, ap, subst, ◌∙◌}
use Rattle.ep_rules.specs.Chains.{ClosedEntries}
use Rattle.ep_rules.specs.Journals.{Entry, left}
use Rattle.ep_rules.specs.OneMap.{is_closed}
use Rattle.ep_rules.specs.States.{State, fresh_state, command_in}
use Rattle.ep_rules.specs.Steps.{order_of, leaves}
use Rattle.ep_rules.proofs.Closings.{closed_under}
use Rattle.ep_rules.proofs.JournalsKeep.{left_parts}

stays : (f me : ℕ) (s : State) (es : List Entry) → is_closed s.store ≡ true → (left f me s es).store ≡ s.store
stays f me s [] h = refl
stays f me s (e ∷ es) h =
    let one : (leaves f me s e.event e.done).store ≡ s.store = closed_under (command_in s.records) s.store.seal s.store.contents (order_of e.done) h in
    stays f me (leaves f me s e.event e.done) es (subst (λ m. is_closed m ≡ true) (sym one) h) ∙ one

pub closed_entries_lem : ClosedEntries
closed_entries_lem base f me handed more h =
    ap (λ (s : State). s.store) (left_parts f me (fresh_state base) handed more) ∙ stays f me (left f me (fresh_state base) handed) more h
