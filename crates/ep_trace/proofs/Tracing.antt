-- Where a script's lines have led, reported.
use Rattle.std.proofs.Common.{◌≡◌, ℕ, List, ◌++◌, Result, Ok, Err, IfOk, ap, subst, ◌∙◌}
use Rattle.std.specs.Global.{Vec}
use Rattle.std.specs.Prelude.{OnOk}
use Rattle.ep_base.specs.Quorums.{size}
use Rattle.ep_ending.specs.Endings.{AddsEndings}
use Rattle.ep_replay.specs.Heads.{opening_of}
use Rattle.ep_replay.specs.Outcome.{HasEnded}
use Rattle.ep_replay.specs.declared.ended.Ended.{Ended}
use Rattle.ep_script.specs.Plan.{Plan}
use Rattle.ep_trace.specs.Left.{AddsLeft, OpenBelow, ungiven_lines}
use Rattle.ep_trace.specs.Traced.{IsReported, IsTraced, tried_lines}
use Rattle.ep_view.specs.Editions.{edition_line}
use Rattle.ep_world.specs.Played.{Played, collected}

-- what is left was appended to what equals this
pub left_after : {T E : Type 0} (r : Result T E) (w : Played) (ms these old mid new : List ℕ) → ms ≡ these → mid ≡ old → OnOk r (AddsLeft w ms mid new) → OnOk r (AddsLeft w these old new)
left_after r w ms these old mid new same is h = subst (λ (z : List ℕ). OnOk r (AddsLeft w z old new)) same (subst (λ (z : List ℕ). OnOk r (AddsLeft w ms z new)) is h)

pub traced :
    (plan : Plan) (d : Ended) (text : List ℕ) → HasEnded plan d → d.world.version ≡ plan.head.version → d.world.opening ≡ opening_of plan.head.opening →
    IsReported d text → IsTraced plan text
traced plan d text h version opening reported = let adds = reported.left in record {
  last = h.last;
  at_end = h.at_end;
  rest = ungiven_lines d.world d.ungiven.items ++ adds.0;
  left = record {
    ungiven = d.ungiven.items;
    rest = adds.0;
    these = h.ungiven;
    waiting = subst (λ (w : Played). OpenBelow w (size w.faults) adds.0) h.world adds.1;
    is = ap (λ (w : Played). ungiven_lines w d.ungiven.items ++ adds.0) h.world;
  };
  before = reported.before;
  is = adds.2 ∙ (λ i. edition_line (version i) (opening i) ++ tried_lines (h.world i) (h.tried i) ++ (ungiven_lines d.world d.ungiven.items ++ adds.0));
  next = subst (λ (w : Played). AddsEndings (collected w) reported.before text) h.world reported.next;
}

pub traced_if :
    {E : Type 0} (plan : Plan) (d : Ended) (r : Result (Vec ℕ) E) → HasEnded plan d → d.world.version ≡ plan.head.version → d.world.opening ≡ opening_of plan.head.opening →
    IfOk r (λ text. IsReported d text.items) → IfOk r (λ text. IsTraced plan text.items)
traced_if plan d (Ok text) h version opening reported = traced plan d text.items h version opening reported
traced_if plan d (Err e) h version opening reported = tt
