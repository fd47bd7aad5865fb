-- Closing a generation: what the file of the next one says, where a journal has executed a seal.
use Rattle.std.specs.Prelude.{◌≡◌, ◌≢◌, ◌≤◌, ◌↔◌, ℕ, suc, true, false, List}
use Rattle.ep_base.specs.Places.{Has}
use Rattle.ep_base.specs.Versions.{generation_of, version_number}
use Rattle.ep_base.specs.declared.reply.Answer.TheVariants.{Replied}
use Rattle.ep_base.specs.declared.reply.Reply.{Reply}
use Rattle.ep_base.specs.declared.reply.Reply.TheVariants.{Closed}
use Rattle.ep_base.specs.declared.version_kind.VersionKind.TheVariants.{V3}
use Rattle.ep_journal.specs.Entries.{Log, entries_of}
use Rattle.ep_journal.specs.Leaving.{standing}
use Rattle.ep_journal.specs.Openings.{Opening}
use Rattle.ep_opening.specs.Files.{File}
use Rattle.ep_opening.specs.declared.closing_fault.ClosingFault.{ClosingFault}
use Rattle.ep_opening.specs.declared.closing_fault.ClosingFault.TheVariants.{Memory, NotSealed, LastGeneration}
use Rattle.ep_rules.specs.Journals.{Entry, stamp_after}
use Rattle.ep_rules.specs.OneMap.{Store, is_closed}
use Rattle.ep_rules.specs.Worlds.{In}

-- some entry answers the instance with a reply, and not that the map is closed: its command was done
abbrev pub WasAnswered : List Entry → ℕ → Type 0
WasAnswered es i = (e : Entry) × (reported : Reply) × In e es × In (i, Replied reported) e.done × (reported ≢ Closed)

-- the map that the journal leaves
abbrev pub store_of : Log → Store
store_of j = (standing j).state.store

-- the map that the journal leaves, with clocks that go on from its last stamp
abbrev pub IsLeft : Log → Opening → Type 0
IsLeft j o = o ≡ record { contents = (store_of j).contents; base_stamp = stamp_after j.opening.base_stamp (entries_of j.entries) }

-- the file of the generation after the journal's, of which `next` replicas may fail
pub record IsClosing (j : Log) (next : ℕ) (f : File) : Type 0 where
  pub faults : f.faults ≡ next
  -- only version 3 has generations
  pub version : version_number j.version ≡ 3
  pub generation : f.generation ≡ suc (generation_of j.version)
  -- a seal has closed the map: it stays as it is
  pub closed : is_closed (store_of j) ≡ true
  pub contents : f.opening.contents ≡ (store_of j).contents
  pub seal : f.seal ≡ (store_of j).seal
  -- the replica's clock never goes back
  pub base_stamp : f.opening.base_stamp ≡ stamp_after j.opening.base_stamp (entries_of j.entries)
  -- all that was done up to the seal, with it
  pub executed : (i : ℕ) → Has f.executed i ↔ WasAnswered (entries_of j.entries) i

-- the generation after the journal's, which a seal has closed
pub record IsNext (j : Log) (g : ℕ) : Type 0 where
  pub version : version_number j.version ≡ 3
  pub generation : g ≡ suc (generation_of j.version)
  pub later : 2 ≤ g
  pub closed : is_closed (store_of j) ≡ true

-- why there is no such file: when out of memory; no seal was executed; or no generation is left
abbrev pub IsUnclosed : Log → ClosingFault → Type 0
IsUnclosed j Memory = Unit {0}
IsUnclosed j NotSealed = is_closed (store_of j) ≡ false
IsUnclosed j LastGeneration = (is_closed (store_of j) ≡ true) × (j.version ≡ V3 4294967295)
