use Rattle.std.proofs.Common.{◌+◌}
use Rattle.ep_base.specs.Instances.{instance_of}
use Rattle.ep_audit.specs.Tables.{agreed_in, Covers}
use Rattle.ep_audit.proofs.table.add_led.Given as goal

abbrev pub invariant-loop-place : goal.invariant-loop-place
invariant-loop-place l = Covers (agreed_in l.journals) (instance_of l.leader 1) l.fn.table.items → Covers (agreed_in l.journals) (instance_of l.leader (l.place + 1)) l.table.items
