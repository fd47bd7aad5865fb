use Rattle.std.proofs.Common.{◌∙◌, sym, ap}
use Rattle.std.specs.Map.{lookup}
use Rattle.std.specs.Option.{option_flatten}
use Rattle.ep_rules.specs.OneMap.{value_at}
use Rattle.ep_space.specs.Index.{is_at}
use Rattle.ep_exec.proofs.Entries.{place_kept, said_there, set_at, value_of}
use Rattle.ep_exec.proofs.table.put_back.Goals as goal

pub returns-clause-was : goal.returns-clause-was
returns-clause-was c =
    let m = c.args.table.now.base in
    let k = c.args.key.items in
    let es = c.args.table.now.changes.entries in
    c.flatten.ensures ∙ ap option_flatten c.in-Ok.ensures.old ∙ said_there (lookup (is_at k) es) (value_at m k) c.requires ∙ sym (value_of m es k)

pub returns-clause-contents : goal.returns-clause-contents
returns-clause-contents c = set_at c.args.table.now.base _ _ c.args.key.items c.args.value c.in-Ok.ensures.updates.1 c.in-Ok.ensures.updates.3

pub returns-clause-places : goal.returns-clause-places
returns-clause-places c q h = place_kept _ _ c.args.key.items q c.args.value c.in-Ok.ensures.updates.1 c.in-Ok.ensures.updates.3 h
