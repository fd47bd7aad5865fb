-- What a contract sees of a port.
use Rattle.std.specs.Prelude.{◌≡◌, ℕ, List}
use Rattle.std.specs.Arc.{arc_value}
use Rattle.crossbeam_queue.specs.Passes.{view, ruled_capacity}
use Rattle.ep_host.specs.declared.port.Port.{Port}

module _ {T : Type 0} where
  -- what this port has put into its inbox, in order
  abbrev pub put_by : Port T → List T
  put_by p = (view p.pass).put

  -- what this port has taken from its inbox, in order
  abbrev pub taken_by : Port T → List T
  taken_by p = (view p.pass).taken

  -- how many items the inbox holds at most
  abbrev pub inbox_capacity : Port T → ℕ
  inbox_capacity p = ruled_capacity (arc_value p.queue)

  -- both lead to one inbox
  abbrev pub LeadTogether : Port T → Port T → Type 0
  LeadTogether a b = (b.pass.table_id ≡ a.pass.table_id) × (inbox_capacity b ≡ inbox_capacity a)
