-- What a host that is finished hands back.
use Rattle.std.specs.Prelude.{◌≡◌, List, MatchResult, All}
use Rattle.ep_audit.specs.Audited.{IsAudited}
use Rattle.ep_base.specs.declared.version.Version.{Version}
use Rattle.ep_journal.specs.Entries.{Log, journals_of}
use Rattle.ep_journal.specs.Openings.{Opening, opens}
use Rattle.ep_replica.specs.Kept.{start_of}
use Rattle.ep_audit.specs.Faults.{fault_of}
use Rattle.ep_rules.specs.Audits.{IsFault}
use Rattle.ep_rules.specs.declared.receipt.Receipt.{Receipt}
use Rattle.ep_host.specs.declared.finished.Finished.{Finished}

-- the verdict on the journals with these receipts; or the first fault of theirs
abbrev pub IsFinished : List Receipt → Finished → Type 0
IsFinished receipts f =
    MatchResult f.verdict (λ v. IsAudited (opens f.journals.opening) f.journals.faults (journals_of f.journals) receipts v) (λ fault. IsFault (opens f.journals.opening) f.journals.faults (journals_of f.journals) receipts (fault_of fault))

-- journals that all start so
abbrev pub StartAs : Version × Opening → List Log → Type 0
StartAs s ls = All (λ (l : Log). start_of l ≡ s) ls
