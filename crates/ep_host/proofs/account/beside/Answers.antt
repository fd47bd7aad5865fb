use Rattle.std.proofs.Common.{rules, refl}
use Rattle.ep_host.proofs.Looking.{looks_at, looks_keep}
use Rattle.ep_host.proofs.account.beside.Goals as goal

pub invariant_of-from : goal.invariant_of-from
invariant_of-from c = (looks_keep c.from.inside.replica.me c.from.inside.replica.entries c.from.inside.links.items _ (looks_at c.from.inside.links.items c.place-there.result c.look.new.from c.index_mut.result.now c.index_mut.ensures.value (search rules) c.look.ensures.from) c.from.invariant.0, c.from.invariant.1)

pub invariant_of-to : goal.invariant_of-to
invariant_of-to c = (looks_keep c.to.inside.replica.me c.to.inside.replica.entries c.to.inside.links.items _ (looks_at c.to.inside.links.items c.place-here.result c.look.new.to c.index_mut-2.result.now c.index_mut-2.ensures.value (search rules) c.look.ensures.to) c.to.invariant.0, c.to.invariant.1)

pub returns-clause-from : goal.returns-clause-from
returns-clause-from c = rw (← c.from.view_is) record { is = refl; links = looks_at c.from.inside.links.items c.place-there.result c.look.new.from c.index_mut.result.now c.index_mut.ensures.value (search rules) c.look.ensures.from }

pub returns-clause-to : goal.returns-clause-to
returns-clause-to c = rw (← c.to.view_is) record { is = refl; links = looks_at c.to.inside.links.items c.place-here.result c.look.new.to c.index_mut-2.result.now c.index_mut-2.ensures.value (search rules) c.look.ensures.to }
