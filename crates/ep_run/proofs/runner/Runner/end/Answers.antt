use Rattle.ep_run.proofs.runner.Runner.end.Goals as goal

pub returns-in-Ok-clause-begun : goal.returns-in-Ok-clause-begun
returns-in-Ok-clause-begun g c = record { faults = c.in-Ok.ensures.size; version_is = c.in-Ok.ensures.version; opening_is = c.in-Ok.ensures.opening }
