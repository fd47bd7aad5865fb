use Rattle.std.proofs.Common.{◌≡◌, ◌+◌, suc, arith}
use Rattle.ep_ending.proofs.Naming.{one_name}
use Rattle.ep_ending.proofs.named.push_names.Goals as goal

pub loop-place-preserved : goal.loop-place-preserved
loop-place-preserved c =
    let next : c.loop-place.place + 1 ≡ suc c.loop-place.place = omega arith in
    one_name c.args.cluster c.args.leader c.loop-place.place (c.loop-place.place + 1) c.args.text.now.items c.loop-place.text.items c.push_name.new.text.items next c.loop-place.invariant
    c.in_ok-push_name.ensures
