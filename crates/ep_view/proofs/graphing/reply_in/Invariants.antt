use Rattle.std.proofs.Common.{◌≡◌, drop}
use Rattle.ep_view.specs.Graphs.{reply_in}
use Rattle.ep_view.proofs.graphing.reply_in.Given as goal

abbrev pub invariant-loop-happening : goal.invariant-loop-happening
invariant-loop-happening l = reply_in (drop l.happening-index l.history) l.instance ≡ reply_in l.history l.instance
