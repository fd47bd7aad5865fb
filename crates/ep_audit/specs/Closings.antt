-- The seal that closed the map, and what the map is then.
use Rattle.std.specs.Prelude.{◌≡◌, ◌≤◌, ℕ, true, false, List, [], ◌∷◌, ◌++◌, Option, Some, None}
use Rattle.ep_base.specs.Commands.{Seal}
use Rattle.ep_base.specs.Places.{Has}
use Rattle.ep_rules.specs.Closing.{has_seal, up_to_seal}
use Rattle.ep_rules.specs.Journals.{Entry, Journals}
use Rattle.ep_rules.specs.Operations.{Operation}
use Rattle.ep_rules.specs.Steps.{order_of}
use Rattle.ep_rules.specs.Worlds.{In}
use Rattle.ep_audit.specs.declared.closing.Closing.{Closing}
use Rattle.ep_audit.specs.declared.happening.Happening.{Happening}

-- the operations of a history's lines
abbrev pub operations_in : List Happening → List Operation
operations_in [] = []
operations_in (h ∷ hs) = record { instance = h.instance; command = h.command } ∷ operations_in hs

-- an entry executes i
pub record IsExecuted (journal : Journals) (i : ℕ) : Type 0 where
  pub replica : ℕ
  pub entry : Entry
  pub stands : In entry (journal replica)
  pub executes : Has (order_of entry.done) i

-- the least stamp of an entry that executes i
pub record IsLeastStamp (journal : Journals) (i stamp : ℕ) : Type 0 where
  pub executed : IsExecuted journal i
  pub is : executed.entry.stamp ≡ stamp
  pub least : (r : ℕ) (e : Entry) → In e (journal r) → Has (order_of e.done) i → stamp ≤ e.stamp

-- the first seal of the operations, with the least stamp of an entry that executes it
pub record IsFirstSeal (journal : Journals) (operations : List Operation) (c : Closing) : Type 0 where
  pub seals : has_seal operations ≡ true
  -- it is the last one of those up to the first seal
  pub before : List Operation
  pub last : up_to_seal operations ≡ before ++ (record { instance = c.instance; command = Seal c.value } ∷ [])
  pub stamp : IsLeastStamp journal c.instance c.stamp

-- the seal that closed the map; none where the operations have none
abbrev pub IsClosing : Journals → List Operation → Option Closing → Type 0
IsClosing journal operations None = has_seal operations ≡ false
IsClosing journal operations (Some c) = IsFirstSeal journal operations c
