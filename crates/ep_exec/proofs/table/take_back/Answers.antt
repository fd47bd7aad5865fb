use Rattle.std.proofs.Common.{◌∙◌, sym, ap, subst}
use Rattle.ep_exec.specs.Table.{HavePlaces, restored}
use Rattle.ep_exec.specs.Held.{held}
use Rattle.ep_exec.proofs.Entries.{have_places, have_places-front, restored-push}
use Rattle.ep_exec.proofs.table.take_back.Goals as goal

pub put_back-requires : goal.put_back-requires
put_back-requires c =
    (have_places-front c.loop-key.table.changes.entries c.pop.new.self.items (c.in-Some.key, c.in-Some.was) (subst (HavePlaces c.loop-key.table.changes.entries) c.in-Some.ensures.items c.loop-key.invariant.places)).1

pub loop-key-preserved : goal.loop-key-preserved
loop-key-preserved c =
    let current = held c.loop-key.table in
    let split = c.in-Some.ensures.items in
    record {
      same =
          ap (restored c.pop.new.self.items) c.put_back.ensures.contents
          ∙ sym (restored-push c.pop.new.self.items (c.in-Some.key, c.in-Some.was) current)
          ∙ ap (λ us. restored us current) (sym split)
          ∙ c.loop-key.invariant.same;
      places = have_places _ _ c.pop.new.self.items c.put_back.ensures.places
          (have_places-front c.loop-key.table.changes.entries c.pop.new.self.items (c.in-Some.key, c.in-Some.was) (subst (HavePlaces c.loop-key.table.changes.entries) split c.loop-key.invariant.places)).0;
    }
