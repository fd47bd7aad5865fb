use Rattle.std.proofs.Common.{◌≡◌, suc, drop}
use Rattle.ep_audit.specs.Claims.{first_of}
use Rattle.ep_audit.proofs.claims.first_among.Given as goal

abbrev pub invariant-loop-place : goal.invariant-loop-place
invariant-loop-place l = first_of l.journals (suc l.place) (drop l.place l.receipts) ≡ first_of l.journals 1 l.receipts
