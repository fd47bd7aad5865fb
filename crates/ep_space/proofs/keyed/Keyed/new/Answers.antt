use Rattle.std.proofs.Common.{[], ◌∷◌, refl}
use Rattle.ep_rules.specs.Maps.{none}
use Rattle.ep_space.proofs.FirstTaken.{taken-none}
use Rattle.ep_space.proofs.Kept.{kept-new}
use Rattle.ep_space.proofs.SeqsKept.{seqs-none}
use Rattle.ep_space.proofs.keyed.Keyed.new.Goals as goal

pub invariant_of-result : goal.invariant_of-result
invariant_of-result c =
    rw c.new.ensures (
      kept-new c.new_index.result c.new_index.ensures,
      seqs-none c.new-2.result.items c.new-2.ensures.items,
      taken-none none (0 ∷ 0 ∷ 0 ∷ 0 ∷ 0 ∷ 0 ∷ 0 ∷ []) (refl, (refl, (refl, (refl, (refl, (refl, (refl, tt))))))),
    )
