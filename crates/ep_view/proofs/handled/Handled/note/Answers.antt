use Rattle.std.proofs.Common.{◌≡◌, rules}
use Rattle.ep_view.proofs.Inserting.{inserted}
use Rattle.ep_view.proofs.handled.Handled.note.Goals as goal

pub returns : goal.returns
returns c b =
    let is : c.in_ok-bytes.bytes.items ≡ c.args.frame.now = search rules in
    inserted _ _ c.in_ok-bytes.bytes c.args.frame.now c.in_ok-insert.ensures.keys is b
