-- The journals and the receipts of a host's nodes.
use Rattle.std.specs.Prelude.{List, [], ◌∷◌, ◌++◌, slice_index_or}
use Rattle.ep_rules.specs.Journals.{Journals}
use Rattle.ep_rules.specs.declared.receipt.Receipt.{Receipt}
use Rattle.ep_journal.specs.Entries.{entries_of}
use Rattle.ep_journal.specs.declared.entry.Entry.{Entry}
use Rattle.ep_replica.specs.Kept.{Kept}
use Rattle.ep_replica.specs.Receipts.{receipts_after}
use Rattle.ep_host.specs.Node.{Node}

abbrev pub replicas_in : List Node → List Kept
replicas_in [] = []
replicas_in (n ∷ ns) = n.replica ∷ replicas_in ns

abbrev pub entries_in : List Kept → List (List Entry)
entries_in [] = []
entries_in (k ∷ ks) = k.entries ∷ entries_in ks

-- their journals, each at its place
abbrev pub their_journals : List Kept → Journals
their_journals ks r = entries_of (slice_index_or (entries_in ks) r [])

-- all their receipts, in their order
abbrev pub their_receipts : List Kept → List Receipt
their_receipts [] = []
their_receipts (k ∷ ks) = receipts_after k.me 0 (entries_of k.entries) ++ their_receipts ks
