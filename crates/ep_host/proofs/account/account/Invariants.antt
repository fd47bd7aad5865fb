use Rattle.std.proofs.Common.{ℕ, ◌<◌, get_or}
use Rattle.ep_host.specs.Node.{Node}
use Rattle.ep_host.specs.Pointwise.{Each}
use Rattle.ep_host.specs.Host.{Looked, BeginsBoth}
use Rattle.ep_host.proofs.account.account.Given as goal

abbrev pub invariant-loop-high : goal.invariant-loop-high
invariant-loop-high l = record {
  looked : Each Looked l.initial.nodes l.nodes;
  begins : (i j : ℕ) (d : Node) → j < i → i < l.high → BeginsBoth (get_or l.initial.nodes j d) (get_or l.initial.nodes i d);
}

abbrev pub invariant-loop-low : goal.invariant-loop-low
invariant-loop-low l = record {
  looked : Each Looked l.fn.nodes l.nodes;
  begins : (j : ℕ) (d : Node) → j < l.low → BeginsBoth (get_or l.fn.nodes j d) (get_or l.fn.nodes l.high d);
}
