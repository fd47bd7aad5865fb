use Rattle.std.proofs.Common.{◌≡◌, ◌++◌, drop}
use Rattle.ep_base.specs.CommandParts.{items_bytes}
use Rattle.ep_script.proofs.tx_items.push_items.Given as goal

abbrev pub invariant-loop-item : goal.invariant-loop-item
invariant-loop-item l = l.body.items ++ items_bytes (drop l.item-index l.items) ≡ l.initial.body.items ++ items_bytes l.items
