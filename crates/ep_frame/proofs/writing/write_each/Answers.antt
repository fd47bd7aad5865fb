use Rattle.std.proofs.Common.{◌≡◌, ℕ, ◌≤◌, List, length, sym, subst}
use Rattle.std.specs.List.{AllByRecursion}
use Rattle.std.proofs.lemmas.Result.{IfOk-weaker}
use Rattle.ep_frame.specs.Layouts.{as_message}
use Rattle.ep_frame.specs.Rounds.{AreFramesTo, readdressed_to}
use Rattle.ep_frame.specs.Spelling.{IsFrame}
use Rattle.ep_frame.proofs.Repeating.{long, spelled_to, frames_to}
use Rattle.ep_frame.proofs.writing.write_each.Goals as goal

pub repeated-requires-clause-long : goal.repeated-requires-clause-long
repeated-requires-clause-long c = subst (λ (x : List ℕ). 20 ≤ length x) (sym c.deref.ensures.value) (long c.args.version c.in_ok-first.first.items c.args.from c.origin.result (as_message c.args.message.now) c.in_ok-first.ensures)

pub cut-requires-clause-long : goal.cut-requires-clause-long
cut-requires-clause-long c = subst (λ (x : List ℕ). 20 ≤ length x) (sym c.deref-2.ensures.value) (long c.args.version c.in_ok-first.first.items c.args.from c.origin.result (as_message c.args.message.now) c.in_ok-first.ensures)

pub cut-requires-clause-frames : goal.cut-requires-clause-frames
cut-requires-clause-frames c =
    let r = c.args.round.now in
    subst (λ (x : List ℕ). AllByRecursion (λ (b : List ℕ). IsFrame b) (readdressed_to x r.entry r.stamp 0 r.receivers.now)) (sym c.deref-2.ensures.value)
    (frames_to c.args.version c.in_ok-first.first.items c.args.from c.origin.result (as_message c.args.message.now) r.entry r.stamp 0 r.receivers.now c.in_ok-first.ensures c.requires.apart c.in_ok-all.ensures.in_range)

pub returns : goal.returns
returns c =
    let r = c.args.round.now in
    let m = as_message c.args.message.now in
    let first : List ℕ = c.in_ok-first.first.items in
    IfOk-weaker c.cut.result (λ f. f.items ≡ readdressed_to c.deref-2.result.now r.entry r.stamp 0 r.receivers.now) (λ f. AreFramesTo c.args.version c.args.from m r.entry r.stamp 0 r.receivers.now f.items)
    (λ f is. subst (λ (xss : List (List ℕ)). AreFramesTo c.args.version c.args.from m r.entry r.stamp 0 r.receivers.now xss) (sym is)
    (subst (λ (x : List ℕ). AreFramesTo c.args.version c.args.from m r.entry r.stamp 0 r.receivers.now (readdressed_to x r.entry r.stamp 0 r.receivers.now)) (sym c.deref-2.ensures.value)
    (spelled_to c.args.version first c.args.from c.origin.result m r.entry r.stamp 0 r.receivers.now c.in_ok-first.ensures c.requires.apart c.in_ok-all.ensures.in_range)))
    c.cut.ensures
