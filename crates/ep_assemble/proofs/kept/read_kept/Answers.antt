use Rattle.std.proofs.Common.{rules, ◌≡◌, ◌<◌, ltb, length, refl}
use Rattle.std.proofs.lemmas.Result.{err_from_is_err_and}
use Rattle.ep_assemble.proofs.Beside.{one_read, one_refused}
use Rattle.ep_assemble.proofs.kept.read_kept.Goals as goal
use Rattle.ep_assemble.specs.Generations.{IsKept}

pub returns-in_err-log-clause-err : goal.returns-in_err-log-clause-err
returns-in_err-log-clause-err c =
    let less : c.loop-place.place < length c.args.kept.now = search rules in
    let p = err_from_is_err_and c.from_residual.result c.from_residual.ensures.1 in
    rw (p.1, p.2)
    (one_refused c.args.cluster.now c.in_err-log.field-0.0 c.loop-place.place c.args.kept.now c.index-kept-place.result _ c.loop-place.journals.items c.loop-place.ends.items less c.index-kept-place.is c.loop-place.invariant
    c.in_err-log.ensures.err)

pub returns-in_err-push-clause-err : goal.returns-in_err-push-clause-err
returns-in_err-push-clause-err c =
    let p = err_from_is_err_and c.from_residual-in_err-push.result c.from_residual-in_err-push.ensures.1 in
    rw (p.1, p.2) tt

pub loop-place-preserved : goal.loop-place-preserved
loop-place-preserved c =
    let less : c.loop-place.place < length c.args.kept.now = search rules in
    let log = c.in_ok-log.log in
    let read : IsKept c.args.cluster.now c.index-kept-place.result log.journal (record { whole = log.whole; is_torn = ltb 0 log.behind }) =
    record { read = record { version = log.version; behind = log.behind; read = c.in_ok-log.ensures.ok; torn = refl }; size = c.in_ok-log.ensures.size } in
    one_read c.args.cluster.now c.loop-place.place c.args.kept.now c.index-kept-place.result _ c.loop-place.journals.items _ c.loop-place.ends.items c.push-in-loop-place.new.self.items log.journal
    (record { whole = log.whole; is_torn = ltb 0 log.behind }) less c.index-kept-place.is c.loop-place.invariant read c.in_ok-push.ensures.items c.in_ok-push-2.ensures.items
