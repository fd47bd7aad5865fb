use Rattle.ep_base.specs.Instances.{IsInstance}
use Rattle.ep_base.proofs.Union.{IsRising-union}
use Rattle.ep_base.proofs.Members.{all_union, IsUnion-union}
use Rattle.ep_base.proofs.deps.Deps.joined.Goals as goal

pub invariant_of-result : goal.invariant_of-result
invariant_of-result c = rw (c.from_vec.ensures.items, c.in_ok-items.ensures, c.as_slice.ensures.value, c.as_slice-2.ensures.value) record {
  rising = IsRising-union _ _ c.as_slice.ensures.rising c.as_slice-2.ensures.rising;
  instances = all_union IsInstance _ _ c.as_slice.ensures.instances c.as_slice-2.ensures.instances;
}

pub returns-clause-members : goal.returns-clause-members
returns-clause-members c = rw (c.from_vec.ensures.items, c.in_ok-items.ensures, c.as_slice.ensures.value, c.as_slice-2.ensures.value) (IsUnion-union c.args.self.now c.args.other.now)
