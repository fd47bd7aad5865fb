use Rattle.std.proofs.Common.{sym, subst}
use Rattle.ep_exec.specs.Table.{HavePlaces}
use Rattle.ep_exec.proofs.Entries.{have_places}
use Rattle.ep_exec.proofs.many.transact.Goals as goal

pub returns-in_err-writes-clause-places : goal.returns-in_err-writes-clause-places
returns-in_err-writes-clause-places c p = have_places _ _ c.args.undo.now.items c.writes_of.ensures.kept p

pub returns-in_err-reserve-clause-places : goal.returns-in_err-reserve-clause-places
returns-in_err-reserve-clause-places c p =
    let us = c.args.undo.now.items in
    let mid = c.writes_of.new.table.changes.entries in
    subst (HavePlaces mid) (sym c.reserve.ensures.items) (have_places _ _ us c.writes_of.ensures.kept p)

pub returns-clause-places : goal.returns-clause-places
returns-clause-places c p =
    let us = c.args.undo.now.items in
    let mid = c.writes_of.new.table.changes.entries in
    c.put_all.ensures.places
    (subst (HavePlaces mid) (sym c.reserve.ensures.items) (have_places _ _ us c.writes_of.ensures.kept p))
