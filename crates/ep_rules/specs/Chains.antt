-- Chains: what the journals of a cluster's generations say, where each generation's journals match, and open with the map that the seal of the one before has left.
use Rattle.std.specs.Prelude.{◌≡◌, ℕ, suc, ◌<◌, ◌≤◌, true, List, ◌++◌, Some}
use Rattle.ep_base.specs.Interference.{is_seal}
use Rattle.ep_base.specs.Places.{Has}
use Rattle.ep_base.specs.declared.reply.Answer.{Answer}
use Rattle.ep_rules.specs.Closing.{has_seal, up_to_seal, first_seal, written_by}
use Rattle.ep_rules.specs.Generations.{joined, place_in, HasIn, NamedOnce, IsLegalIn}
use Rattle.ep_rules.specs.Journals.{Entry, left, Journals, Scheduled, acts_of}
use Rattle.ep_rules.specs.Merging.{Merges}
use Rattle.ep_rules.specs.OneMap.{Contents, Store, opened, is_closed}
use Rattle.ep_rules.specs.Operations.{Operation, instances_of, history_of}
use Rattle.ep_rules.specs.States.{fresh_state}
use Rattle.ep_rules.specs.Steps.{order_of}
use Rattle.ep_rules.specs.Verdicts as verdicts
use Rattle.ep_rules.specs.Verdicts.{command_at, Agrees}
use Rattle.ep_rules.specs.Worlds.{In}
use Rattle.ep_rules.specs.declared.receipt.Receipt.{Receipt}

-- the map that a replica's journal leaves
abbrev pub store_left : Contents → ℕ → Journals → ℕ → Store
store_left m f journal r = (left f r (fresh_state (opened m)) (journal r)).store

-- the operations of matched journals, in the order of first executions
abbrev pub history_from : Contents → ℕ → List Scheduled → List Operation
history_from m f schedule = history_of (opened m) f (acts_of schedule)

-- They are the instances of the journals' history.
abbrev pub SameHistory : Type 0
SameHistory = (m : Contents) (f : ℕ) (journal : Journals) (schedule : List Scheduled) → Merges (opened m) f journal schedule →
    instances_of (history_from m f schedule) ≡ verdicts.history_of (command_at (opened m) f journal) schedule

-- Whose journal has executed a seal leaves the map of the history up to its first seal: one map, whoever it is.
abbrev pub JournalsClose : Type 0
JournalsClose =
    (m : Contents) (f : ℕ) (journal : Journals) (schedule : List Scheduled) → Merges (opened m) f journal schedule → (r : ℕ) → is_closed (store_left m f journal r) ≡ true →
    let h = history_from m f schedule in
    (has_seal h ≡ true) × (store_left m f journal r ≡ record { contents = written_by m (up_to_seal h); seal = first_seal h })

-- What a beginning of a replica's entries leaves closed, all of them leave: so a map that was handed out stays right, whatever comes after it.
abbrev pub ClosedEntries : Type 0
ClosedEntries =
    (base : Store) (f me : ℕ) (handed more : List Entry) → is_closed (left f me (fresh_state base) handed).store ≡ true →
    (left f me (fresh_state base) (handed ++ more)).store ≡ (left f me (fresh_state base) handed).store

-- n generations, the first with any opening map: of each its faults, its opening map, its journals and their schedule
pub record IsChain (n : ℕ) (f : ℕ → ℕ) (maps : ℕ → Contents) (journal : ℕ → Journals) (schedule : ℕ → List Scheduled) : Type 0 where
  pub merges : (g : ℕ) → g < n → Merges (opened (maps g)) (f g) (journal g) (schedule g)
  -- somebody's journal leaves the next opening map, closed by a seal
  pub closes : (g : ℕ) → suc g < n → (r : ℕ) × (value : List ℕ) × (store_left (maps g) (f g) (journal g) r ≡ record { contents = maps (suc g); seal = Some value })

abbrev pub histories : (ℕ → ℕ) → (ℕ → Contents) → (ℕ → List Scheduled) → ℕ → List Operation
histories f maps schedule g = history_from (maps g) (f g) (schedule g)

-- Each answer of each execution, in whatever generation, is one map's reply to the joined history; what has no place there was lost, or found the map closed.
pub record Explains (n : ℕ) (f : ℕ → ℕ) (maps : ℕ → Contents) (schedule : ℕ → List Scheduled) : Type 0 where
  pub once : NamedOnce (joined (histories f maps schedule) n)
  pub legal : (g : ℕ) (a : Scheduled) (i : ℕ) (x : Answer) → g < n → In a (schedule g) → In (i, x) a.entry.done → IsLegalIn (maps 0) (joined (histories f maps schedule) n) g i x

abbrev pub ChainsExplain : Type 0
ChainsExplain =
    (n : ℕ) (f : ℕ → ℕ) (maps : ℕ → Contents) (journal : ℕ → Journals) (schedule : ℕ → List Scheduled) → IsChain n f maps journal schedule → Explains n f maps schedule

-- an entry that executes a seal, below whose stamp the next generation has none
pub record Closing (m : Contents) (f : ℕ) (journal next : Journals) : Type 0 where
  pub replica : ℕ
  pub entry : Entry
  pub stands : In entry (journal replica)
  pub instance : ℕ
  pub executes : Has (order_of entry.done) instance
  pub seals : is_seal (command_at (opened m) f journal instance) ≡ true
  pub below : (q : ℕ) (e : Entry) → In e (next q) → entry.stamp < e.stamp

-- each generation's clocks go on from those of the one before
abbrev pub ClocksGoOn : ℕ → (ℕ → ℕ) → (ℕ → Contents) → (ℕ → Journals) → Type 0
ClocksGoOn n f maps journal = (g : ℕ) → suc g < n → Closing (maps g) (f g) (journal g) (journal (suc g))

-- Each caller's order is kept, whatever the generations.
abbrev pub ChainsKeepCallers : Type 0
ChainsKeepCallers =
    (n : ℕ) (f : ℕ → ℕ) (maps : ℕ → Contents) (journal : ℕ → Journals) (schedule : ℕ → List Scheduled) → IsChain n f maps journal schedule → ClocksGoOn n f maps journal →
    (g k : ℕ) → g < n → k < n → (u t : Receipt) → Agrees (opened (maps g)) (f g) (journal g) u → Agrees (opened (maps k)) (f k) (journal k) t → u.stamp ≤ t.seen →
    let h = joined (histories f maps schedule) n in
    HasIn h g u.instance → HasIn h k t.instance → place_in h g u.instance < place_in h k t.instance
