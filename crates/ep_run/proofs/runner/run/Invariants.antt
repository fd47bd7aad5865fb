use Rattle.std.proofs.Common.{Some}
use Rattle.ep_replay.specs.Heads.{opening_of}
use Rattle.ep_run.proofs.runner.run.Given as goal

abbrev pub ghosts-run_as : goal.ghosts-run_as
ghosts-run_as g a = record { start = (a.script.now.head.version, opening_of a.script.now.head.opening); room = Some a.limits.now.capacity }
