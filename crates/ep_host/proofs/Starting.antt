-- What a replica starts as, no event changes.
use Rattle.std.proofs.Common.{◌≡◌, ◌<◌, List, [], ◌∷◌, length, ap, arith}
use Rattle.ep_base.specs.declared.version.Version.{Version}
use Rattle.ep_journal.specs.Entries.{Log, first_opening}
use Rattle.ep_journal.specs.Openings.{Opening}
use Rattle.ep_replica.specs.Kept.{start_of, first_version}
use Rattle.ep_host.specs.Finishing.{StartAs}

-- of journals that all start so, the first one does
pub first_starts : (s : Version × Opening) (ls : List Log) → 0 < length ls → StartAs s ls → (first_version ls ≡ s.0) × (first_opening ls ≡ s.1)
first_starts s [] low h = absurd (omega arith)
first_starts s (l ∷ ls) low h = let e : start_of l ≡ s = h 0 l (omega arith) in (ap (λ p. p.0) e, ap (λ p. p.1) e)
