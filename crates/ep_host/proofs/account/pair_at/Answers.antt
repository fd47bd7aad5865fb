use Rattle.std.proofs.Common.{rules}
use Rattle.ep_host.specs.Host.{Looked}
use Rattle.ep_host.proofs.Looking.{looked_self}
use Rattle.ep_host.proofs.Places.{each_set, each_append}
use Rattle.ep_host.proofs.Hosts.{front_at, back_at}
use Rattle.ep_host.proofs.account.pair_at.Goals as goal

pub both-requires : goal.both-requires
both-requires c =
    let s = c.split_at_mut-front.ensures in let a = c.index-front-low.result in let b = c.index-back-0.result in
    let x = front_at c.args.nodes.now c.split_at_mut-front.result.0.now c.split_at_mut-front.result.1.now c.args.low c.args.high a a s.value s.front_len c.requires.places.0 in
    let y = back_at c.args.nodes.now c.split_at_mut-front.result.0.now c.split_at_mut-front.result.1.now c.args.high a b s.value s.front_len c.requires.places.1 in
    rw (x, y) (c.requires.paired a)

pub returns-clause-looked : goal.returns-clause-looked
returns-clause-looked c =
    let s = c.split_at_mut-front.ensures in let a = c.index-front-low.result in let b = c.index-back-0.result in
    let front = c.split_at_mut-front.result.0.now in let back = c.split_at_mut-front.result.1.now in
    rw s.value (each_append Looked front _ back _
    (each_set Looked front c.args.low c.both.new.a a looked_self (search rules) c.both.ensures.a)
    (each_set Looked back 0 c.both.new.b b looked_self (search rules) c.both.ensures.b))

pub returns-clause-begins : goal.returns-clause-begins
returns-clause-begins c = λ d.
    let s = c.split_at_mut-front.ensures in let a = c.index-front-low.result in let b = c.index-back-0.result in
    let x = front_at c.args.nodes.now c.split_at_mut-front.result.0.now c.split_at_mut-front.result.1.now c.args.low c.args.high d a s.value s.front_len c.requires.places.0 in
    let y = back_at c.args.nodes.now c.split_at_mut-front.result.0.now c.split_at_mut-front.result.1.now c.args.high d b s.value s.front_len c.requires.places.1 in
    rw (← x, ← y) c.both.ensures.begins
