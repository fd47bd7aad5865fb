use Rattle.ep_base.specs.Instances.{instance_of}
use Rattle.ep_audit.specs.Tables.{agreed_in, Covers}
use Rattle.ep_audit.proofs.table.table_of.Given as goal

abbrev pub invariant-loop-leader : goal.invariant-loop-leader
invariant-loop-leader l = Covers (agreed_in l.journals) (instance_of l.leader 1) l.table.items
