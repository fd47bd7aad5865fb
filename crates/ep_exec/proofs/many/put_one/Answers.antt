use Rattle.std.proofs.Common.{◌≡◌, ◌∙◌, ap, sym, subst, true}
use Rattle.ep_exec.specs.Table.{HavePlaces, has_place}
use Rattle.ep_exec.specs.Held.{held}
use Rattle.ep_exec.proofs.Entries.{have_places, have_places-push}
use Rattle.ep_exec.proofs.Writing.{noted_back}
use Rattle.ep_exec.proofs.many.put_one.Goals as goal

pub returns-clause-undo : goal.returns-clause-undo
returns-clause-undo c =
    let write = c.args.write in
    noted_back c.args.undo.now.items c.push_reserved.new.self.items (write.noted, c.put_back-was.result)
    (held c.args.table.now) (held c.put_back-was.new.table) write.key.items write.value
    c.push_reserved.ensures.items c.put_back-was.ensures.contents c.requires.same c.put_back-was.ensures.was

pub returns-clause-places : goal.returns-clause-places
returns-clause-places c p =
    let us = c.args.undo.now.items in
    let write = c.args.write in
    let new = c.put_back-was.new.table.changes.entries in
    let kept = c.put_back-was.ensures.places in
    let there : has_place new write.noted.items ≡ true =
    ap (has_place new) c.requires.same ∙ kept write.key.items c.requires.place
    in
    subst (HavePlaces new) (sym c.push_reserved.ensures.items)
    (have_places-push new us (write.noted, c.put_back-was.result) (have_places _ _ us kept p) there)
