use Rattle.std.proofs.Common.{◌≡◌, ℕ, ◌<◌, List, length, sym, subst, ◌∙◌, arith}
use Rattle.std.specs.Prelude.{slice_index_or}
use Rattle.ep_frame.specs.Origins.{readdressed}
use Rattle.ep_frame.specs.Rounds.{readdressed_to}
use Rattle.ep_frame.specs.Spelling.{IsFrame}
use Rattle.ep_frame.proofs.Repeating.{front_fits, front_is, rest_is, frames_next, listed_next}
use Rattle.ep_frame.proofs.writing.cut.Goals as goal

pub split_to-requires : goal.split_to-requires
split_to-requires c =
    let r = c.args.round.now in
    front_fits c.args.frame.now r.entry r.stamp c.loop-place.place r.receivers.now 0 c.loop-place.rest c.requires.long (omega (arith, c.loop-place-test.true)) c.loop-place.invariant.rest

pub written-requires : goal.written-requires
written-requires c =
    let r = c.args.round.now in
    let less : c.loop-place.place < length r.receivers.now = omega (arith, c.loop-place-test.true) in
    let is : c.in_ok-bytes.bytes ≡ readdressed c.args.frame.now (record { to = slice_index_or r.receivers.now c.loop-place.place 0; out = c.loop-place.place; entry = r.entry; stamp = r.stamp }) =
    c.in_ok-bytes.ensures.front ∙ front_is c.args.frame.now r.entry r.stamp c.loop-place.place r.receivers.now 0 c.loop-place.rest c.requires.long less c.loop-place.invariant.rest in
    subst (λ (x : List ℕ). IsFrame x) (sym is) (frames_next c.args.frame.now r.entry r.stamp c.loop-place.place r.receivers.now 0 less c.loop-place.invariant.frames).0

pub loop-place-preserved : goal.loop-place-preserved
loop-place-preserved c =
    let r = c.args.round.now in
    let less : c.loop-place.place < length r.receivers.now = omega (arith, c.loop-place-test.true) in
    let is = c.written.ensures ∙ c.in_ok-bytes.ensures.front ∙ front_is c.args.frame.now r.entry r.stamp c.loop-place.place r.receivers.now 0 c.loop-place.rest c.requires.long less c.loop-place.invariant.rest in
    record {
      done = listed_next c.args.frame.now r.entry r.stamp c.loop-place.place r.receivers.now 0 c.loop-place.frames.items c.push_reserved.new.self.items (readdressed_to c.args.frame.now r.entry r.stamp 0 r.receivers.now) c.written.result less c.loop-place.invariant.done c.push_reserved.ensures.items is;
      rest = c.in_ok-bytes.ensures.rest ∙ rest_is c.args.frame.now r.entry r.stamp c.loop-place.place r.receivers.now 0 c.loop-place.rest c.requires.long less c.loop-place.invariant.rest;
      frames = (frames_next c.args.frame.now r.entry r.stamp c.loop-place.place r.receivers.now 0 less c.loop-place.invariant.frames).1;
      room = omega (arith, c.loop-place.invariant.room, c.push_reserved.ensures.len, c.push_reserved.ensures.capacity, less);
    }
