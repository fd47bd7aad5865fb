use Rattle.std.proofs.Common.{◌∙◌, ap, sym}
use Rattle.ep_base.specs.CommandParts.{items_in, is_tx}
use Rattle.ep_base.proofs.Many.{many_items, no_items}
use Rattle.ep_base.proofs.command.Command.items.Goals as goal

pub of-requires : goal.of-requires
of-requires c = ap is_tx c.body.ensures ∙ c.is_many.ensures.body (sym c.is_many.ensures.value ∙ c.if-is_many.true)

pub returns-then-is_many : goal.returns-then-is_many
returns-then-is_many c = c.of.ensures ∙ ap items_in c.body.ensures ∙ many_items c.args.self.now (sym c.is_many.ensures.value ∙ c.if-is_many.true)

pub returns-else-is_many : goal.returns-else-is_many
returns-else-is_many c = c.none.ensures ∙ sym (no_items c.args.self.now (sym c.is_many.ensures.value ∙ c.if-is_many.false))
