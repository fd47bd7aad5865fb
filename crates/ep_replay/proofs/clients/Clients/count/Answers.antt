use Rattle.std.proofs.Common.{◌∙◌, ◌+◌, ap}
use Rattle.ep_replay.specs.declared.clients.Client.{Client}
use Rattle.ep_replay.proofs.Counting.{counted}
use Rattle.ep_replay.proofs.clients.Clients.count.Goals as goal

pub returns-clause-counted : goal.returns-clause-counted
returns-clause-counted c = λ ps ts.
    counted c.args.self.now c.set.new.self c.args.client (record { requests = c.in_ok-requests.requests; seen = c.get-before.result.seen }) ps ts (c.in_ok-requests.ensures ∙ ap (λ (k : Client). k.requests + 1) c.get-before.ensures)
    (ap (λ (k : Client). k.seen) c.get-before.ensures) c.in_ok-set.ensures
