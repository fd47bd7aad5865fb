use Rattle.std.proofs.Common.{◌+◌, ◌∙◌, sym, ap, subst, drop, ◌++◌}
use Rattle.ep_base.specs.Deps.{IsRising}
use Rattle.ep_base.proofs.Lists.{left_at}
use Rattle.ep_rules.specs.InterferenceSet.{touches}
use Rattle.ep_rules.specs.Maps.{get}
use Rattle.ep_rules.specs.States.{or_zero}
use Rattle.ep_space.specs.Gathering.{gather_all}
use Rattle.ep_space.proofs.Gathering.{rising_front, rising_gathered}
use Rattle.ep_space.proofs.gathered.gathered_run.Goals as goal

pub gather-requires : goal.gather-requires
gather-requires c =
    let left = left_at c.args.run.now c.loop-id.id-index c.id-item.result c.loop-id-test.true c.id-item.is in
    rising_front c.loop-id.gathered.deps c.id-item.result (drop (c.loop-id.id-index + 1) c.args.run.now) (subst (λ is. IsRising (c.loop-id.gathered.deps ++ is)) left c.loop-id.invariant.rising)

pub loop-id-preserved : goal.loop-id-preserved
loop-id-preserved c =
    let t = touches c.args.command.now (or_zero c.args.except) in
    let m = c.args.records.now.held in
    let i = c.id-item.result in
    let rest = drop (c.loop-id.id-index + 1) c.args.run.now in
    let left = left_at c.args.run.now c.loop-id.id-index i c.loop-id-test.true c.id-item.is in
    record {
      rest = ap (λ g. gather_all t m g rest) c.in_ok-gather.ensures ∙ ap (gather_all t m c.loop-id.gathered) (sym left) ∙ c.loop-id.invariant.rest;
      rising = subst (λ g. IsRising (g.deps ++ rest)) (sym c.in_ok-gather.ensures) (rising_gathered t c.loop-id.gathered i (get m i) rest (subst (λ is. IsRising (c.loop-id.gathered.deps ++ is)) left c.loop-id.invariant.rising));
    }
