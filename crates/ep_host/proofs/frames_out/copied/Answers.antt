use Rattle.std.proofs.Common.{ℕ, List, [], take, add-one, refl, sym, subst}
use Rattle.std.proofs.Math.Seq.{take-suc}
use Rattle.std.proofs.lemmas.List.Elements.{All-nil, All-push, All-same}
use Rattle.ep_host.specs.HostFrames.{IsHostFrame}
use Rattle.ep_host.proofs.Copying.{copied_none, copied_kept, copied_lost}
use Rattle.ep_host.proofs.frames_out.copied.Goals as goal
use Rattle.ep_host.proofs.frames_out.copied.Goals.{then-not-add, else-not-add}

pub loop-frame-init : goal.loop-frame-init
loop-frame-init c = record {
  copied = copied_none c.new-frames.result.items c.new-frames.ensures.items;
  version = All-same IsHostFrame c.new-frames.result.items [] c.new-frames.ensures.items (All-nil IsHostFrame);
}

pub loop-frame-preserved : goal.loop-frame-preserved
loop-frame-preserved c =
    let o : List ℕ = c.frame-item.result in let done = take c.loop-frame.frame-index c.args.out.now in
    let frames = c.loop-frame.frames.items in let h = c.loop-frame.invariant in
    let here : IsHostFrame o = subst IsHostFrame (sym c.frame-item.is) (c.requires c.loop-frame.frame-index o c.loop-frame-test.true) in
    rw (add-one, take-suc c.args.out.now c.loop-frame.frame-index o c.loop-frame-test.true, ← c.frame-item.is)
    (elim c.if-not-add.branch [
      | then-not-add w ↦ rw (w.lost-is, w.if-not-add.ensures.lost refl) record { copied = copied_lost done frames c.loop-frame.lost o h.copied; version = h.version }
      | else-not-add w ↦ rw (w.lost-is, w.if-not-add.ensures.added refl) record { copied = copied_kept done frames c.loop-frame.lost o h.copied; version = All-push IsHostFrame frames o h.version here }
    ])
