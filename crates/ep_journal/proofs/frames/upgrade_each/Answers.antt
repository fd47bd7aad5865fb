use Rattle.std.proofs.Common.{List, ℕ, ◌≤◌, length, sym, subst, arith}
use Rattle.ep_frame.specs.Upgrading.{IsUpgradedFrame}
use Rattle.ep_journal.specs.Upgrading.{IsEarlyFrame}
use Rattle.ep_journal.proofs.Pairs.{up_to_none, up_to_more, up_to_all, read_at, kept_at}
use Rattle.ep_journal.proofs.frames.upgrade_each.Goals as goal

pub loop-frame-init : goal.loop-frame-init
loop-frame-init c = up_to_none IsUpgradedFrame c.args.frames.now

pub loop-frame-preserved : goal.loop-frame-preserved
loop-frame-preserved c =
    let old : List ℕ = c.frame-item.result in
    let new : List ℕ = c.upgrade.new.frame in
    let one : IsUpgradedFrame old new = subst (λ (x : List ℕ). IsUpgradedFrame x new) (sym c.frame-item.is) c.in_ok-upgrade.ensures in
    up_to_more IsUpgradedFrame c.args.frames.now c.loop-frame.frames c.loop-frame.frame-index old new c.loop-frame-test.true c.loop-frame.invariant c.frame-item.is one

pub upgrade-requires : goal.upgrade-requires
upgrade-requires c =
    let x : List ℕ = c.frame-item.result in
    record { early = subst IsEarlyFrame c.frame-item.is (kept_at IsEarlyFrame c.args.frames.now c.loop-frame.frame-index x c.requires.early c.loop-frame-test.true (read_at IsUpgradedFrame c.args.frames.now c.loop-frame.frames c.loop-frame.frame-index x c.loop-frame-test.true c.loop-frame.invariant c.frame-item.is)) }

pub returns : goal.returns
returns c =
    let all : length c.args.frames.now ≤ c.loop-frame.frame-index = omega arith in
    up_to_all IsUpgradedFrame c.args.frames.now c.loop-frame.frames c.loop-frame.frame-index all c.loop-frame.invariant
