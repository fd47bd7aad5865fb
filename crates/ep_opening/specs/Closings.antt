-- What the files say that close the journals of one generation.
use Rattle.std.specs.Prelude.{◌≡◌, ℕ, ◌<◌, ◌≤◌, true, List}
use Rattle.ep_base.specs.Interference.{is_seal}
use Rattle.ep_base.specs.Places.{Has}
use Rattle.ep_journal.specs.Entries.{Log, entries_of}
use Rattle.ep_opening.specs.Closing.{IsClosing}
use Rattle.ep_opening.specs.Files.{File, IsFile}
use Rattle.ep_rules.specs.Chains.{Closing}
use Rattle.ep_rules.specs.Journals.{Entry, Journals, Scheduled}
use Rattle.ep_rules.specs.Merging.{Merges}
use Rattle.ep_rules.specs.OneMap.{Contents, opened}
use Rattle.ep_rules.specs.Steps.{order_of}
use Rattle.ep_rules.specs.Verdicts.{command_at}
use Rattle.ep_rules.specs.Worlds.{In}

-- it is its replica's among the journals of a cluster, in which f replicas may fail and which opened with m
pub record IsOneOf (m : Contents) (f : ℕ) (journal : Journals) (j : Log) : Type 0 where
  pub faults : j.faults ≡ f
  pub contents : j.opening.contents ≡ m
  pub entries : entries_of j.entries ≡ journal j.me

-- the replica executed a seal, by an entry whose stamp isn't above this one: so what comes above this one goes on from there
pub record GoesOn (m : Contents) (f : ℕ) (journal : Journals) (r base_stamp : ℕ) : Type 0 where
  pub entry : Entry
  pub stands : In entry (journal r)
  pub instance : ℕ
  pub executes : Has (order_of entry.done) instance
  pub seals : is_seal (command_at (opened m) f journal instance) ≡ true
  pub reached : entry.stamp ≤ base_stamp
  pub clocks : (next : Journals) → ((q : ℕ) (e : Entry) → In e (next q) → base_stamp < e.stamp) → Closing m f journal next

-- What goes on from the stamp of a file that closes a journal goes on from an entry that executed a seal.
abbrev pub ClosingsGoOn : Type 0
ClosingsGoOn =
    (m : Contents) (f : ℕ) (journal : Journals) (schedule : List Scheduled) → Merges (opened m) f journal schedule → (j : Log) (next : ℕ) (file : File) → IsOneOf m f journal j → IsClosing j next file →
    GoesOn m f journal j.me file.opening.base_stamp

-- Two files that close journals of one generation differ in their stamps alone.
abbrev pub ClosingsAgree : Type 0
ClosingsAgree =
    (m : Contents) (f : ℕ) (journal : Journals) (schedule : List Scheduled) → Merges (opened m) f journal schedule → (j k : Log) (next : ℕ) (x y : File) → IsOneOf m f journal j → IsOneOf m f journal k →
    j.version ≡ k.version → IsClosing j next x → IsClosing k next y → IsFile x → IsFile y → y ≡ record x { opening = record { contents = x.opening.contents; base_stamp = y.opening.base_stamp } }

-- The file that closes a journal is one.
abbrev pub ClosingIsOne : Type 0
ClosingIsOne = (j : Log) (next : ℕ) (x y : File) → IsClosing j next x → IsClosing j next y → IsFile x → IsFile y → y ≡ x
