-- No seal closes a map of versions 1 and 2.
use Rattle.std.proofs.Common.{◌≡◌, ℕ, true, false, List, [], ◌∷◌, Option, refl, sym, ap, subst, ◌∙◌}
use Rattle.std.proofs.lemmas.Bool.{false≢true}
use Rattle.ep_base.specs.Versions.{version_number}
use Rattle.ep_base.specs.declared.version.Version.{Version}
use Rattle.ep_base.specs.declared.version_kind.VersionKind.TheVariants.{V1, V2, V3}
use Rattle.ep_journal.specs.Entries.{entries_of, AreEntriesIn, AreReadable, IsJournal}
use Rattle.ep_journal.specs.Events.{event_of}
use Rattle.ep_journal.specs.Holding.{Holds, IsEarly, IsStoreIn}
use Rattle.ep_journal.specs.Leaving.{state_left}
use Rattle.ep_journal.specs.Openings.{Opening, opens, OpensIn}
use Rattle.ep_journal.specs.declared.entry.Entry.{Entry}
use Rattle.ep_journal.proofs.Answering.{empty_early}
use Rattle.ep_journal.proofs.Holding.{fresh_held, leaves_held}
use Rattle.ep_journal.proofs.Whole.{event_had}
use Rattle.ep_rules.specs.Journals.{left}
use Rattle.ep_rules.specs.OneMap.{Store, is_closed}
use Rattle.ep_rules.specs.States.{State, fresh_state}
use Rattle.ep_rules.specs.Steps.{leaves}

-- the version has what its entries speak of

-- and so what they leave

held_left : (v : Version) (f me : ℕ) (s : State) (es : List Entry) → Holds v s → AreReadable es → AreEntriesIn v f me s es → Holds v (left f me s (entries_of es))
held_left v f me s [] h r i = h
held_left v f me s (e ∷ es) h r i =
    held_left v f me (leaves f me s (event_of e.event) e.done) es (leaves_held v f me s (event_of e.event) e.done h (event_had v e.event r.0 i.0.event) i.1) r.2 i.2

opening_in : (v : Version) (o : Opening) → OpensIn v o → IsStoreIn v (opens o)
opening_in V1 o is = subst (λ (p : Opening). IsStoreIn V1 (opens p)) (sym is) empty_early
opening_in V2 o is = subst (λ (p : Opening). IsStoreIn V2 (opens p)) (sym is) empty_early
opening_in (V3 g) o is = tt

store_in : (v : Version) (o : Opening) (f me : ℕ) (es : List Entry) → OpensIn v o → IsJournal v o f me es → IsStoreIn v (state_left o f me es).store
store_in v o f me es opened j = (held_left v f me (fresh_state (opens o)) es (fresh_held v (opens o) (opening_in v o opened)) j.readable j.versioned).store

early_open : {X : Type 0} (s : Store) → IsEarly s → is_closed s ≡ true → X
early_open s early closed =
    let none : is_closed s ≡ false = ap (λ (o : Option (List ℕ)). is_closed (record { contents = s.contents; seal = o })) early.unsealed in
    absurd (false≢true (sym none ∙ closed))

third_alone : (v : Version) (s : Store) → IsStoreIn v s → is_closed s ≡ true → version_number v ≡ 3
third_alone V1 s early closed = early_open s early closed
third_alone V2 s early closed = early_open s early closed
third_alone (V3 g) s any closed = refl

pub only_third : (v : Version) (o : Opening) (f me : ℕ) (es : List Entry) → OpensIn v o → IsJournal v o f me es → is_closed (state_left o f me es).store ≡ true → version_number v ≡ 3
only_third v o f me es opened j closed = third_alone v (state_left o f me es).store (store_in v o f me es opened j) closed
