use Rattle.ep_run.proofs.ring_run.settle_released.Goals as goal

pub returns-clause-settles : goal.returns-clause-settles
returns-clause-settles c = record { released = c.release.new.nodes; releases = c.release.ensures.released; settles = c.settle.ensures.nodes; rounds = c.settle.ensures.rounds }

pub returns-clause-host : goal.returns-clause-host
returns-clause-host c = λ f host. c.settle.ensures.host f (c.release.ensures.host f host)

pub settle-requires : goal.settle-requires
settle-requires c = (c.requires.0, c.release.ensures.host c.requires.0 c.requires.1)
