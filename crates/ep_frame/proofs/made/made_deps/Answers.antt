use Rattle.std.proofs.Common.{ℕ, slice_index_or, sym, ap, ◌∙◌, true≢false, arith}
use Rattle.ep_base.specs.Instances.{instance_of}
use Rattle.ep_frame.specs.Faults.{is_instance}
use Rattle.ep_frame.proofs.Deps.{next_is_dep, are_all}
use Rattle.ep_frame.proofs.made.made_deps.Goals as goal

pub unreachable-requires : goal.unreachable-requires
unreachable-requires c =
    let rest = c.loop-rest.rest.now in
    let dep = next_is_dep c.loop-rest.deps.items rest c.args.bytes.now c.loop-rest.invariant.so_far c.requires (omega (arith, c.in-len3-up.len_at_least)) in
    true≢false (sym (c.in_default-dep_of.ensures.only.0 (ap (λ (n : ℕ). is_instance (instance_of (slice_index_or rest 0 0) n)) c.from_be_bytes-number.ensures ∙ dep)))

pub of_rising-requires : goal.of_rising-requires
of_rising-requires c = are_all c.loop-rest.deps.items c.loop-rest.rest.now c.args.bytes.now c.loop-rest.invariant.so_far c.requires c.in_default.len_below
