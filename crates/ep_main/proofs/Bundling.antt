-- The bundle of what a script's run left.
use Rattle.std.proofs.Common.{◌≡◌, ◌^◌, ◌<◌, ◌≤◌, ℕ, List, length, ap, subst, arith}
use Rattle.ep_bundle.specs.Bytes.{bundle_bytes}
use Rattle.ep_journal.specs.Entries.{journals_of}
use Rattle.ep_journal.specs.Openings.{opens}
use Rattle.ep_rules.specs.Audits.{IsAccepted}
use Rattle.ep_rules.specs.declared.receipt.Receipt.{Receipt}
use Rattle.ep_replay.specs.declared.replayed.Replayed.{Replayed}
use Rattle.ep_main.specs.Bundled.{IsPlayed, IsBundled}
use Rattle.ep_cli.specs.Outputs.{Output, Wrote}

pub bundled :
    (played : Replayed) (bytes : List ℕ) (zs : List ℕ) (out : Output) → bytes ≡ bundle_bytes played.journals played.receipts.items → IsPlayed zs played →
    IsAccepted (opens played.journals.opening) played.journals.faults (journals_of played.journals) played.receipts.items → Wrote out bytes → IsBundled zs out
bundled played bytes zs out same replay accepted wrote = record { played = played; replay = replay; accepted = accepted; wrote = subst (Wrote out) same wrote }

-- the count of its receipts fits its field
pub countable : (slice receipts : List Receipt) → slice ≡ receipts → length receipts ≤ 63000 → length slice < 2 ^ 32
countable slice receipts same few = let e : length slice ≡ length receipts = ap length same in omega arith
