-- The journal of a replica, known by its parts.
use Rattle.std.proofs.Common.{◌≡◌, ◌<◌, ℕ}
use Rattle.ep_base.specs.Quorums.{size}
use Rattle.ep_journal.specs.Entries.{Log, Collected, entries_at}
use Rattle.ep_ending.specs.Endings.{log_at}

pub log_is :
    (c : Collected) (r : ℕ) (l : Log) →
    (r < size c.faults) × (l.version ≡ c.version) × (l.faults ≡ c.faults) × (l.me ≡ r) × (l.opening ≡ c.opening) × (l.entries ≡ entries_at c r) → l ≡ log_at c r
log_is c r l h = λ i. record { version = h.1 i; faults = h.2 i; me = h.3 i; opening = h.4 i; entries = h.5 i }
