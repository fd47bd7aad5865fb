use Rattle.std.specs.List.{flat_map}
use Rattle.ep_frame.specs.Fields.{header_bytes, dep_bytes}
use Rattle.ep_frame.proofs.Runs.{laid_out}
use Rattle.ep_frame.proofs.writing.put_parts.Goals as goal

pub returns : goal.returns
returns c =
    let l = c.args.parts.now in
    laid_out c.args.out.now.items (header_bytes l.header) l.run.now (flat_map dep_bytes l.deps.now) _ _ _ l.header.key_len l.header.second_len c.in_ok-put_header.ensures c.in_ok-extend_from_slice.ensures.items c.in_ok-put_deps.ensures
