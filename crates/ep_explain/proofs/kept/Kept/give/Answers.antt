use Rattle.std.proofs.Common.{arith, ◌≤◌, ◌-◌, length, take, drop}
use Rattle.ep_explain.proofs.Keeping.{gives_of}
use Rattle.ep_explain.proofs.kept.Kept.give.Goals as goal

pub returns-clause-gives : goal.returns-clause-gives
returns-clause-gives g c =
    let n = c.min-count.result in
    let ds = c.deref.result.now in
    let fits : n ≤ length (take (length ds - c.self.inside.at) (drop c.self.inside.at ds)) = omega (arith, c.min-count.ensures) in
    gives_of c.args.self.now c.self.inside.source c.self.inside.is_over c.self.inside.bytes.items ds c.copy_from_slice.new.self c.args.buf.now c.self.inside.at n c.self.view_is c.deref.ensures.value fits
    c.copy_from_slice.ensures.after
