use Rattle.std.proofs.Common.{◌≡◌, ◌++◌, codes, take}
use Rattle.ep_main.specs.Chains.{links_text}
use Rattle.ep_main.proofs.chaining.accepted_chain.Given as goal

abbrev pub invariant-loop-place : goal.invariant-loop-place
invariant-loop-place l = l.text.items ≡ codes "verdict accepted\n" ++ links_text (take l.place l.links) (take l.place l.verdicts)
