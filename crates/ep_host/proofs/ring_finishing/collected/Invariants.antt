use Rattle.std.proofs.Common.{◌≡◌, ◌+◌, ◌≤◌, vec_len, vec_capacity}
use Rattle.ep_host.specs.RingFinishing.{replicas_in}
use Rattle.ep_host.proofs.ring_finishing.collected.Given as goal

abbrev pub invariant-loop-node : goal.invariant-loop-node
invariant-loop-node l = record { journals : l.journals.items ≡ replicas_in l.yielded; room : vec_len l.journals + l.node-iterator.rest.len ≤ vec_capacity l.journals }
