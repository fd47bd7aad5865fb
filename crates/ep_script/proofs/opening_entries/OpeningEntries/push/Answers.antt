use Rattle.std.proofs.Common.{sym, ◌∙◌}
use Rattle.ep_script.proofs.KeySets.{entry_taken}
use Rattle.ep_script.proofs.opening_entries.OpeningEntries.push.Goals as goal

pub invariant_of-self-else-is_err : goal.invariant_of-self-else-is_err
invariant_of-self-else-is_err c =
    entry_taken c.self.inside.keys c.insert.new.self c.self.inside.items.items c.push.new.self.items c.args.key c.args.value c.in_ok-name.name c.insert.result
    (sym c.is_err.ensures.value ∙ c.if-is_err.false) c.insert.ensures.updates (c.in_ok-name.ensures.items ∙ c.as_slice.ensures.value) (sym c.has_name.ensures ∙ c.if-has_name.false)
    c.in_ok-push.ensures.items c.self.invariant
