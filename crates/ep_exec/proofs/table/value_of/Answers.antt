use Rattle.std.proofs.Common.{◌∙◌, sym, ap}
use Rattle.ep_rules.specs.OneMap.{value_at}
use Rattle.ep_exec.proofs.Entries.{said_or, value_of}
use Rattle.ep_exec.proofs.table.value_of.Goals as goal

pub returns-in-Some : goal.returns-in-Some
returns-in-Some c =
    let m = c.args.table.now.base in
    let k = c.args.key.now in
    c.as_ref.ensures.value ∙ ap (λ l. said_or l (value_at m k)) c.in-Some.ensures.value ∙ sym (value_of m c.args.table.now.changes.entries k)

pub returns-in-None : goal.returns-in-None
returns-in-None c =
    let m = c.args.table.now.base in
    let k = c.args.key.now in
    c.get-in-None.ensures ∙ ap (λ l. said_or l (value_at m k)) c.in-None.ensures.value ∙ sym (value_of m c.args.table.now.changes.entries k)
