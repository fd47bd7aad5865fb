use Rattle.std.proofs.Common.{◌∙◌, ap, sym, subst}
use Rattle.std.specs.Option.{option_copied}
use Rattle.ep_base.specs.Views.{asked, seen}
use Rattle.ep_exec.specs.Many.{put_all, AreRoomy}
use Rattle.ep_exec.specs.Table.{has_place}
use Rattle.ep_rules.specs.OneMap.{with_writes}
use Rattle.ep_exec.proofs.Writing.{roomy_kept, roomy_push, written_more}
use Rattle.ep_exec.proofs.many.writes_of.Goals as goal

pub loop-item-preserved-in-Continue-branch-2 : goal.loop-item-preserved-in-Continue-branch-2
loop-item-preserved-in-Continue-branch-2 c =
    let before = c.loop-item.writes.items in
    let left = c.next.new.self in
    let w = c.in_ok-write.write in
    let new = c.write_of.new.table.changes.entries in
    let pushed = c.in_ok-push.ensures.items in
    let made = c.in_ok-write.ensures in
    let kept = c.write_of.ensures.kept in
    let was = c.loop-item.invariant in
    let value = option_copied c.in-Some-write.value in
    record {
      contents = c.write_of.ensures.contents ∙ was.contents;
      writes = λ m.
          ap (λ ws. with_writes (put_all ws m) left) pushed
          ∙ written_more before w m (seen c.in-Some.item) left value (ap asked c.in-Some-write.is) made.key made.value
          ∙ ap (with_writes (put_all before m)) (sym c.in-Some.ensures.item)
          ∙ was.writes m;
      roomy = subst (AreRoomy new) (sym pushed)
          (roomy_push new before w (roomy_kept _ _ before kept was.roomy)
          (ap (has_place new) made.key ∙ made.place) (made.noted ∙ sym made.key));
      kept = λ q h. kept q (was.kept q h);
    }
