use Rattle.std.proofs.Common.{◌≡◌, ◌+◌, ◌≤◌, ◌∷◌, [], arith, length-append, subst, sym, vec_len, vec_capacity}
use Rattle.std.proofs.lemmas.List.Elements.{All-push}
use Rattle.ep_journal.specs.Entries.{Log}
use Rattle.ep_replica.specs.Kept.{start_of}
use Rattle.ep_host.specs.Finishing.{StartAs}
use Rattle.ep_host.proofs.lock_host.journals_of.Goals as goal

pub push_reserved-requires : goal.push_reserved-requires
push_reserved-requires g c =
    let room : vec_len c.loop-seat.journals + c.loop-seat.seat-iterator.rest.len ≤ vec_capacity c.loop-seat.journals = c.loop-seat.invariant.room in
    let less = c.in-Some.ensures.steps.1 in
    omega arith

pub loop-seat-preserved : goal.loop-seat-preserved
loop-seat-preserved g c = record {
  start = subst (StartAs g.S.Start.start) (sym c.push_reserved.ensures.items) (All-push (λ (l : Log). start_of l ≡ g.S.Start.start) c.loop-seat.journals.items c.journal_of.result c.loop-seat.invariant.start c.journal_of.ensures);
  count = (let was = c.loop-seat.invariant.count in let more = c.push_reserved.ensures.len in omega (arith, was, more, length-append c.loop-seat.yielded (c.in-Some.seat ∷ [])));
  room = (let room : vec_len c.loop-seat.journals + c.loop-seat.seat-iterator.rest.len ≤ vec_capacity c.loop-seat.journals = c.loop-seat.invariant.room in
      let less = c.in-Some.ensures.steps.1 in
      let more = c.push_reserved.ensures.len in
      let same = c.push_reserved.ensures.capacity in
      omega arith);
}
