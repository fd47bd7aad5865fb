use Rattle.ep_opening.proofs.Steps.{map_at}
use Rattle.ep_opening.proofs.parts.read_contents.Goals as goal

pub returns : goal.returns
returns g c = λ zs h.
    map_at c.of_generation-version.result c.args.generation (record { at = c.args.place.now; bytes = zs }) c.read_map.result c.read_map.new.place (g.S.Source.left c.read_map.new.source) c.of_generation-version.ensures (c.read_map.ensures.bytes zs h)
