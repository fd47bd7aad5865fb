use Rattle.ep_base.specs.Quorums.{size}
use Rattle.ep_opening.proofs.Steps.{instance_at}
use Rattle.ep_opening.proofs.stages.read_one.Goals as goal

pub returns : goal.returns
returns g c = λ zs h.
    instance_at c.of_generation-version.result (size c.largest.result) c.args.generation (record { at = c.args.place.now; bytes = zs }) c.read_instance.result c.read_instance.new.place (g.S.Source.left c.read_instance.new.source)
    c.of_generation-version.ensures c.largest.ensures (c.read_instance.ensures.bytes zs h)
