-- The command that is borrowed.
use Rattle.std.specs.Prelude.{ℕ, List, Option}
use Rattle.std.specs.Borrow.{Bor}
use Rattle.std.specs.Option.{option_copied, option_map}
use Rattle.ep_base.specs.Commands.{Command, Noop, Get, Put, Del, Swap, Cas, Seal, Opaque, Tx}
use Rattle.ep_base.specs.Items.{Item}
use Rattle.ep_base.specs.CommandParts.{items_in}
use Rattle.ep_base.specs.Touched.{Touched}
use Rattle.ep_base.specs.declared.command_view.CommandView.{CommandView}
use Rattle.ep_base.specs.declared.command_view.CommandView.TheVariants as view
use Rattle.ep_base.specs.declared.command_view.Touching.{Touching}
use Rattle.ep_base.specs.declared.items.ItemView.{ItemView}

abbrev pub touched : Touching → Touched
touched t = record { first = t.first.now; second = option_copied t.second; reads = t.reads }

abbrev pub asked : Option (Option (Bor (List ℕ))) → Option (Option (List ℕ))
asked o = option_map (λ p. option_copied p) o

-- the item that is borrowed
abbrev pub seen : ItemView → Item
seen i = record { key = i.key.now; guard = asked i.guard; reported = i.reported; write = asked i.write }

abbrev pub means : CommandView → Command
means view.Noop = Noop
means (view.Get k) = Get k.now
means (view.Put k v) = Put k.now v.now
means (view.Del k) = Del k.now
means (view.Swap k l) = Swap (record { first = k.now; second = l.now })
means (view.Cas k e n) = Cas k.now (option_copied e) (option_copied n)
means (view.Seal v) = Seal v.now
means (view.Opaque t b) = Opaque (touched t) b.now
means (view.Tx b) = Tx (items_in b.now)
