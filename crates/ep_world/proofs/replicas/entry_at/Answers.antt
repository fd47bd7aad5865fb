use Rattle.std.proofs.Common.{rules, ◌≡◌, Some, ◌∙◌, slice_get}
use Rattle.ep_world.proofs.Kept.{entry_there}
use Rattle.ep_world.proofs.replicas.entry_at.Goals as goal

pub returns : goal.returns
returns c =
    let ks = c.args.replicas.now in
    let k = c.in-Some.replica.now in
    let there : slice_get ks c.args.replica ≡ Some k = search rules in
    c.numbered_entry.ensures ∙ entry_there ks c.args.replica c.args.number k c.entries.result.now there (c.entries.ensures.entries ∙ c.journal.ensures.entries)
