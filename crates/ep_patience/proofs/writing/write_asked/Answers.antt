use Rattle.std.proofs.Common.{arith}
use Rattle.ep_patience.proofs.AskedWritten.{all_written, one_written}
use Rattle.ep_patience.proofs.writing.write_asked.Goals as goal

pub loop-remedy-preserved : goal.loop-remedy-preserved
loop-remedy-preserved c =
    let room = c.loop-remedy.invariant.room in let len = c.write_remedy.ensures.len in let same = c.write_remedy.ensures.room in
    record {
      so_far = one_written c.args.asked.now c.loop-remedy.remedy-index c.remedy-item.result c.args.reported.now.items c.loop-remedy.reported.items c.write_remedy.new.reported.items c.loop-remedy-test.true c.remedy-item.is c.write_remedy.ensures.items c.loop-remedy.invariant.so_far;
      room = omega (arith, room, len, same);
    }

pub returns : goal.returns
returns c = all_written c.args.asked.now c.loop-remedy.remedy-index c.args.reported.now.items c.loop-remedy.reported.items c.loop-remedy-test.false c.loop-remedy.invariant.so_far
