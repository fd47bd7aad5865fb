use Rattle.std.proofs.Common.{◌≡◌, ◌++◌, false, true, filter, rules, sym, ap, ◌∙◌}
use Rattle.std.proofs.lemmas.Bool.{false≢true}
use Rattle.ep_exec.specs.Ready.{is_out}
use Rattle.ep_exec.proofs.Clear.{out_yes}
use Rattle.ep_exec.proofs.Nexts.{next_kept, next_left, out_no}
use Rattle.ep_exec.proofs.graph.append_left.Goals as goal
use Rattle.ep_exec.proofs.graph.append_left.Goals.{then-not-contains+in_ok-push, else-not-contains}

pub loop-dep-preserved : goal.loop-dep-preserved
loop-dep-preserved c =
    let out = c.args.skipped.now.list in
    let xs = c.deps_at-dep-items.result.now in
    let i = c.loop-dep.dep-index in
    let x = c.dep-item.result in
    let old = c.loop-dep.list.items in
    let whole = c.args.list.now.items ++ filter (is_out out) xs in
    let has = c.contains.ensures in
    elim c.if-not-contains.branch [
      | then-not-contains+in_ok-push w ↦
          let outside : c.contains.result ≡ false = search rules in
          next_kept (is_out out) xs i x old c.if-not-contains.list.items whole c.loop-dep-test.true c.dep-item.is (out_yes out x (λ h. false≢true (sym outside ∙ has.1 h)))
          (ap (λ v. v.items) w.list-is ∙ w.in_ok-push.ensures.items) c.loop-dep.invariant
      | else-not-contains w ↦
          let within : c.contains.result ≡ true = search rules in
          next_left (is_out out) xs i x old c.if-not-contains.list.items whole c.loop-dep-test.true c.dep-item.is (out_no out x (has.0 within)) (ap (λ v. v.items) w.list-is) c.loop-dep.invariant
    ]
