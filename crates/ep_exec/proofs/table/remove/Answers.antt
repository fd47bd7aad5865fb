use Rattle.std.proofs.Common.{◌∙◌, sym, ap, None}
use Rattle.std.specs.Map.{lookup}
use Rattle.std.specs.Option.{option_flatten}
use Rattle.ep_rules.specs.OneMap.{value_at}
use Rattle.ep_space.specs.Index.{is_at}
use Rattle.ep_exec.proofs.Entries.{changed_at, said_alone, said_or, value_of}
use Rattle.ep_exec.proofs.table.remove.Goals as goal

pub returns-clause-was : goal.returns-clause-was
returns-clause-was c =
    let m = c.args.table.now.base in
    let k = c.args.key.now in
    let es = c.args.table.now.changes.entries in
    c.flatten.ensures ∙ ap option_flatten c.swap_remove.ensures.value ∙ said_alone (lookup (is_at k) es) ∙ ap (said_or (lookup (is_at k) es)) (sym c.requires) ∙ sym (value_of m es k)

pub returns-clause-removed : goal.returns-clause-removed
returns-clause-removed c =
    let m = c.args.table.now.base in
    let k = c.args.key.now in
    changed_at m _ _ k None (ap (λ l. said_or l (value_at m k)) c.swap_remove.ensures.updates.1 ∙ c.requires) c.swap_remove.ensures.updates.3
