use Rattle.std.proofs.Common.{◌∙◌, max, ap}
use Rattle.ep_replay.specs.declared.clients.Client.{Client}
use Rattle.ep_replay.proofs.Counting.{noted}
use Rattle.ep_replay.proofs.clients.Clients.note.Goals as goal

pub returns : goal.returns
returns c = λ ps ts.
    noted c.args.self.now c.set.new.self c.args.receipt.now (record { requests = c.get-before.result.requests; seen = c.max.result }) ps ts (ap (λ (k : Client). k.requests) c.get-before.ensures)
    (c.max.ensures ∙ ap (λ (k : Client). max k.seen c.args.receipt.now.stamp) c.get-before.ensures) c.in_ok-set.ensures
