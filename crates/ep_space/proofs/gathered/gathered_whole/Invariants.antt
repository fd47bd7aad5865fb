use Rattle.std.proofs.Common.{◌≡◌, ◌++◌, drop, []}
use Rattle.ep_base.specs.Deps.{IsRising}
use Rattle.ep_rules.specs.InterferenceSet.{touches}
use Rattle.ep_rules.specs.States.{or_zero}
use Rattle.ep_space.specs.Gathering.{gather_all}
use Rattle.ep_space.specs.Keys.{AreMet}
use Rattle.ep_space.proofs.gathered.gathered_whole.Given as goal

abbrev pub invariant-loop-id : goal.invariant-loop-id
invariant-loop-id l = record {
  rest : gather_all (touches l.command (or_zero l.except)) l.records.held l.gathered (drop l.id-index l.run) ≡ gather_all (touches l.command (or_zero l.except)) l.records.held (record { seq = 0; deps = [] }) l.run;
  met : AreMet l.command l.records.held (drop l.id-index l.run);
  rising : IsRising (l.gathered.deps ++ drop l.id-index l.run);
}
