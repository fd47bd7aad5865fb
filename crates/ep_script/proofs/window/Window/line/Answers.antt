use Rattle.std.proofs.Common.{rules, arith, ◌≡◌, ◌<◌, ◌≤◌, ℕ, [], length, refl, ap, ◌∙◌}
use Rattle.std.proofs.lemmas.List.{nil_from_length}
use Rattle.std.proofs.lemmas.List.Elements.{All-nil}
use Rattle.ep_script.specs.RawLines.{longest}
use Rattle.ep_script.specs.SoFar.{IsNoFeed}
use Rattle.ep_script.proofs.LineLemmas.{so_far_pulled, so_far_end, so_far_last, so_far_feed, so_far_more, so_far_long}
use Rattle.ep_script.proofs.window.Window.line.Goals as goal

pub loop-self-init : goal.loop-self-init
loop-self-init g c = record {
  bytes = λ zs h. (zs, rw c.clear.ensures.items refl, h, rw c.clear.ensures.items (All-nil IsNoFeed));
  failed = refl;
}

pub returns-then-is_empty-2-clause-bytes : goal.returns-then-is_empty-2-clause-bytes
returns-then-is_empty-2-clause-bytes g c = λ zs h.
    let over : c.ready.new.self ≡ [] = c.is_empty.ensures.0 c.if-is_empty.true in
    let none : c.loop-self.line.items ≡ [] = nil_from_length c.loop-self.line.items (grind (rules, c.if-is_empty-2.ensures, c.loop-self.line.ok.0)) in
    so_far_end zs c.loop-self.line.items c.loop-self.self c.ready.new.self (g.S.Source.left c.loop-self.source) (g.S.Source.left c.ready.new.source) none over c.in_ok-ready.ensures.bytes (c.loop-self.invariant.bytes zs h)

pub returns-else-is_empty-2-clause-bytes : goal.returns-else-is_empty-2-clause-bytes
returns-else-is_empty-2-clause-bytes g c = λ zs h.
    let over : c.ready.new.self ≡ [] = c.is_empty.ensures.0 c.if-is_empty.true in
    let short : length c.loop-self.line.items ≤ longest = grind (rules, arith, c.len.ensures, c.loop-self-test.true) in
    so_far_last zs c.loop-self.line.items c.loop-self.self c.ready.new.self (g.S.Source.left c.loop-self.source) (g.S.Source.left c.ready.new.source) short (λ e. absurd (grind (rules, c.if-is_empty-2.ensures, c.loop-self.line.ok.0, ap (length {A = ℕ}) e))) over c.in_ok-ready.ensures.bytes (c.loop-self.invariant.bytes zs h)

pub returns-then-branch-clause-bytes : goal.returns-then-branch-clause-bytes
returns-then-branch-clause-bytes g c = λ zs h.
    let taken = rw c.if-branch.true at c.in_ok-take_run.ensures in
    so_far_feed zs c.loop-self.line.items c.take_run.new.line.items c.ready.new.self c.take_run.new.self (g.S.Source.left c.ready.new.source) taken
    (so_far_pulled zs c.loop-self.line.items c.loop-self.self c.ready.new.self (g.S.Source.left c.loop-self.source) (g.S.Source.left c.ready.new.source) c.in_ok-ready.ensures.bytes (c.loop-self.invariant.bytes zs h))

pub loop-self-preserved : goal.loop-self-preserved
loop-self-preserved g c = record {
  bytes = λ zs h.
      let taken = rw c.if-branch.false at c.in_ok-take_run.ensures in
      so_far_more zs c.loop-self.line.items c.take_run.new.line.items c.ready.new.self c.take_run.new.self (g.S.Source.left c.ready.new.source) taken
      (so_far_pulled zs c.loop-self.line.items c.loop-self.self c.ready.new.self (g.S.Source.left c.loop-self.source) (g.S.Source.left c.ready.new.source) c.in_ok-ready.ensures.bytes (c.loop-self.invariant.bytes zs h));
  failed = c.in_ok-ready.ensures.failed ∙ c.loop-self.invariant.failed;
}

pub returns-clause-bytes : goal.returns-clause-bytes
returns-clause-bytes g c = λ zs h.
    let long : longest < length c.loop-self.line.items = grind (rules, arith, c.len.ensures, c.loop-self-test.false) in
    so_far_long zs c.loop-self.line.items c.loop-self.self (g.S.Source.left c.loop-self.source) long (c.loop-self.invariant.bytes zs h)
