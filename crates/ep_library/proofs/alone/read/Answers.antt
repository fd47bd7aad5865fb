use Rattle.std.proofs.Common.{Some}
use Rattle.ep_bundle.specs.Contents.{contents_of}
use Rattle.ep_bundle.specs.Reading.{map_ok}
use Rattle.ep_library.proofs.Auditing.{is_read}
use Rattle.ep_library.proofs.alone.read.Goals as goal

pub returns : goal.returns
returns c =
    let found = c.read_bundle.ensures.bytes c.args.bytes.now (λ t. Some (c.new-source.ensures t).inner.now) in
    is_read c.args.bytes.now (map_ok contents_of c.read_bundle.result) found.0 _ found.1
