use Rattle.std.proofs.Common.{rules, ◌≡◌, Some, ◌∙◌, [], slice_index_or}
use Rattle.ep_journal.specs.Entries.{all_entries}
use Rattle.ep_world.specs.Played.{numbered}
use Rattle.ep_world.proofs.Kept.{frame_there}
use Rattle.ep_world.proofs.replicas.frame_at.Goals as goal

pub returns : goal.returns
returns c =
    let o = numbered (slice_index_or (all_entries c.args.replicas.now) c.args.place.replica []) c.args.place.entry in
    let e = c.in-Some.entry.now in
    let entry : o ≡ Some e = search rules in
    c.nth_frame.ensures ∙ frame_there o c.args.place.out e c.as_slice.result.now entry c.as_slice.ensures
