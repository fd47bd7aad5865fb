use Rattle.std.proofs.Common.{◌≡◌, ◌≤◌, ◌<◌, ◌+◌, ◌∙◌, length, arith}
use Rattle.ep_exec.proofs.Below.{as_many, found_above, found_below}
use Rattle.ep_exec.proofs.merging.count_below.Goals as goal

pub loop-low-init : goal.loop-low-init
loop-low-init c =
    let es = c.args.base.now.items in
    let all : c.len-high.result ≡ length es = c.len-high.ensures ∙ c.args.base.now.ok.0 in
    let many = as_many c.args.key.now es in
    record { low = omega arith; high = omega (arith, all, many); within = omega (arith, all) }

pub loop-low-preserved-then-stands_below : goal.loop-low-preserved-then-stands_below
loop-low-preserved-then-stands_below c =
    let es = c.args.base.now.items in
    let was = c.loop-low.invariant in
    let some = c.loop-low-test.true in
    let near = c.min.ensures in
    let at = c.loop-low.low + c.min.result in
    let within : c.loop-low.high ≤ length es = was.within in
    let there : at < length es = omega (arith, some, near, within) in
    let one = found_below c.args.key.now es at c.stands_below.result c.requires there c.stands_below.ensures c.if-stands_below.true in
    record { low = omega (arith, one); high = was.high; within = within }

pub loop-low-preserved : goal.loop-low-preserved
loop-low-preserved c =
    let es = c.args.base.now.items in
    let was = c.loop-low.invariant in
    let some = c.loop-low-test.true in
    let near = c.min.ensures in
    let at = c.loop-low.low + c.min.result in
    let within : c.loop-low.high ≤ length es = was.within in
    let there : at < length es = omega (arith, some, near, within) in
    let none = found_above c.args.key.now es at c.stands_below.result there c.stands_below.ensures c.if-stands_below.false in
    record { low = was.low; high = none; within = omega (arith, there) }
