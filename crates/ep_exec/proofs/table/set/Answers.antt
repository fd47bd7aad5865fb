use Rattle.std.proofs.Common.{◌≡◌, ◌∙◌, sym, ap, List, None, ℕ}
use Rattle.std.specs.Map.{lookup}
use Rattle.ep_rules.specs.OneMap.{Contents, value_at}
use Rattle.ep_space.specs.Index.{is_at}
use Rattle.ep_exec.specs.Table.{Entry}
use Rattle.ep_exec.proofs.Entries.{place_kept, said_or, set_at, value_of}
use Rattle.ep_exec.proofs.table.set.Goals as goal

pub returns-in-Ok-Some-clause-was : goal.returns-in-Ok-Some-clause-was
returns-in-Ok-Some-clause-was c =
    let m : Contents = c.args.table.now.base in
    let k : List ℕ = c.args.key.items in
    ap (λ l. said_or l (value_at m k)) (sym c.in-Ok-Some.field-0-is ∙ c.in-Ok-Some.ensures.old) ∙ sym (value_of m c.args.table.now.changes.entries k)

pub returns-in-Ok-None-clause-was : goal.returns-in-Ok-None-clause-was
returns-in-Ok-None-clause-was c =
    let m : Contents = c.args.table.now.base in
    let k : List ℕ = c.args.key.items in
    let es : List Entry = c.args.table.now.changes.entries in
    let unsaid : None ≡ lookup (is_at k) es = sym c.in-Ok-None.field-0-is ∙ c.in-Ok-None.ensures.old in
    c.in_ok-shared.ensures.none (ap (λ q. lookup (is_at q) es) c.as_slice.ensures.value ∙ sym unsaid)
    ∙ ap (value_at m) c.as_slice.ensures.value
    ∙ ap (λ l. said_or l (value_at m k)) unsaid
    ∙ sym (value_of m es k)

pub returns-in-Ok-Some-clause-ok : goal.returns-in-Ok-Some-clause-ok
returns-in-Ok-Some-clause-ok c = set_at c.args.table.now.base _ _ c.args.key.items c.args.value c.in-Ok-Some.ensures.updates.1 c.in-Ok-Some.ensures.updates.3

pub returns-in-Ok-None-clause-ok : goal.returns-in-Ok-None-clause-ok
returns-in-Ok-None-clause-ok c = set_at c.args.table.now.base _ _ c.args.key.items c.args.value c.in-Ok-None.ensures.updates.1 c.in-Ok-None.ensures.updates.3

pub returns-in-Ok-Some-clause-places : goal.returns-in-Ok-Some-clause-places
returns-in-Ok-Some-clause-places c q h = place_kept _ _ c.args.key.items q c.args.value c.in-Ok-Some.ensures.updates.1 c.in-Ok-Some.ensures.updates.3 h

pub returns-in-Ok-None-clause-places : goal.returns-in-Ok-None-clause-places
returns-in-Ok-None-clause-places c q h = place_kept _ _ c.args.key.items q c.args.value c.in-Ok-None.ensures.updates.1 c.in-Ok-None.ensures.updates.3 h
