use Rattle.std.proofs.Common.{◌∙◌, sym, ap, not}
use Rattle.ep_exec.specs.Held.{held}
use Rattle.ep_exec.proofs.Entries.{with_key_none, copied_none}
use Rattle.ep_exec.proofs.table.sweep_own.Goals as goal

pub returns-then-is_none : goal.returns-then-is_none
returns-then-is_none c = c.remove.ensures.removed ∙ with_key_none (held c.args.table.now) c.args.key.now (sym c.value_of.ensures ∙ copied_none c.value_of.result (c.is_none.ensures ∙ ap not c.if-is_none.true))
