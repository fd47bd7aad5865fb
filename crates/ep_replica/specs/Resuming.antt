-- Which journal a replica can go on from.
use Rattle.std.specs.Prelude.{◌≡◌, ◌+◌, ◌==◌, ℕ, max, cond, List, [], ◌∷◌, Option, Some, None}
use Rattle.ep_base.specs.declared.version_kind.VersionKind.TheVariants.{V1}
use Rattle.ep_rules.specs.Journals.{heard}
use Rattle.ep_rules.specs.Journals as rules
use Rattle.ep_journal.specs.Entries.{Log, entries_of}
use Rattle.ep_replica.specs.declared.resume_fault.ResumeFault.{ResumeFault}
use Rattle.ep_replica.specs.declared.resume_fault.ResumeFault.TheVariants.{Memory, OtherVersion, NotClocked}

-- the number of the first of the entries whose stamp isn't one more than the greatest one that was known, `last` before them all; none where they are clocked
abbrev pub first_unclocked : ℕ → List rules.Entry → Option ℕ
first_unclocked last [] = None
first_unclocked last (e ∷ es) = cond (e.stamp == 1 + max last (heard e.event)) (first_unclocked e.stamp es) (Some e.number)

-- why no replica goes on from the journal
abbrev pub IsNoReplica : Log → ResumeFault → Type 0
IsNoReplica j Memory = Unit {0}
IsNoReplica j OtherVersion = j.version ≡ V1
IsNoReplica j (NotClocked number) = first_unclocked j.opening.base_stamp (entries_of j.entries) ≡ Some number
