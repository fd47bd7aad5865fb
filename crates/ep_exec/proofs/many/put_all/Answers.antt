use Rattle.std.proofs.Common.{◌≡◌, ◌≤◌, ◌+◌, ◌∷◌, ◌∙◌, length, ap, sym, subst, arith, vec_len, vec_capacity}
use Rattle.ep_exec.specs.Held.{held}
use Rattle.ep_exec.specs.Many.{put_all, AreRoomy}
use Rattle.ep_exec.proofs.Writing.{roomy_kept}
use Rattle.ep_exec.proofs.many.put_all.Goals as goal

pub loop-write-preserved : goal.loop-write-preserved
loop-write-preserved c =
    let left = c.next.new.self.rest.items in
    let table = c.loop-write.table in
    let undo = c.loop-write.undo in
    let step : c.loop-write.write-iterator.rest.items ≡ c.in-Some.write ∷ left = c.in-Some.ensures.steps.0 in
    let was = c.loop-write.invariant in
    record {
      contents = ap (put_all left) c.put_one.ensures.contents ∙ ap (λ ws. put_all ws (held table)) (sym step) ∙ was.contents;
      undo = c.put_one.ensures.undo ∙ was.undo;
      places = λ p. c.put_one.ensures.places (was.places p);
      roomy = roomy_kept _ _ left c.put_one.ensures.kept (subst (AreRoomy table.changes.entries) step was.roomy).2;
      room = (let room : vec_len undo + length c.loop-write.write-iterator.rest.items ≤ vec_capacity undo = was.room in
          let longer = ap length step in
          let more = c.put_one.ensures.len in
          let same = c.put_one.ensures.capacity in
          omega arith);
    }
