-- The bundle of a script.
use Rattle.std.specs.Prelude.{◌≡◌, ℕ, List, Ok}
use Rattle.ep_bundle.specs.Bytes.{bundle_bytes}
use Rattle.ep_journal.specs.Entries.{journals_of}
use Rattle.ep_journal.specs.Openings.{opens}
use Rattle.ep_rules.specs.Audits.{IsAccepted}
use Rattle.ep_script.specs.Plan.{Plan, script_of}
use Rattle.ep_replay.specs.Outcome.{IsReplay}
use Rattle.ep_replay.specs.declared.replayed.Replayed.{Replayed}
use Rattle.ep_cli.specs.Outputs.{Output, Wrote}

-- The bytes are a script, and this is what the protocol plays of it.
pub record IsPlayed (zs : List ℕ) (played : Replayed) : Type 0 where
  pub plan : Plan
  pub script : script_of zs ≡ Ok plan
  pub replay : IsReplay plan played

-- The bytes are a script, the audit accepts what its run leaves, and what was written is the bundle of that.
pub record IsBundled (zs : List ℕ) (out : Output) : Type 0 where
  pub played : Replayed
  pub replay : IsPlayed zs played
  pub accepted : IsAccepted (opens played.journals.opening) played.journals.faults (journals_of played.journals) played.receipts.items
  pub wrote : Wrote out (bundle_bytes played.journals played.receipts.items)
