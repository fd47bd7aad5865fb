use Rattle.std.proofs.Common.{◌≡◌, length}
use Rattle.ep_main.specs.Chains.{AreRead}
use Rattle.ep_main.proofs.chain_files.read_links.Given as goal

abbrev pub invariant-loop-name : goal.invariant-loop-name
invariant-loop-name g l = record { count : length l.links.items ≡ l.name-index; read : AreRead l.links.items }
