use Rattle.std.proofs.Common.{rules, ◌<◌, ◌+◌, ℕ, List, ◌++◌, ◌∷◌, [], ltb, take, length, refl, sym, subst}
use Rattle.std.proofs.lemmas.Result.{err_from_is_err_and}
use Rattle.ep_assemble.specs.Logs.{AreRead, IsNotRead, IsReadTo, contents}
use Rattle.ep_assemble.specs.declared.assembled.End.{End}
use Rattle.ep_journal.specs.Entries.{Log as Journal}
use Rattle.ep_log.specs.Origins.{second}
use Rattle.ep_log.specs.Reading.{IsRead}
use Rattle.ep_assemble.proofs.InTurn.{not_read, one_read}
use Rattle.ep_assemble.proofs.logs.read_logs.Goals as goal

pub returns-in_err-log-clause-err : goal.returns-in_err-log-clause-err
returns-in_err-log-clause-err c =
    let less : c.loop-place.place < length c.args.logs.now = search rules in
    let p = err_from_is_err_and c.from_residual.result c.from_residual.ensures.1 in
    let h : IsNotRead second c.loop-place.place c.index-logs-place.result.items c.in_err-log.field-0.0 =
    subst (λ (bs : List ℕ). IsNotRead second c.loop-place.place bs c.in_err-log.field-0.0) c.deref.ensures.value c.in_err-log.ensures.err in
    rw (p.1, p.2) (not_read c.in_err-log.field-0.0 c.loop-place.place c.args.logs.now c.index-logs-place.result _ _ _ less c.index-logs-place.is c.loop-place.invariant h)

pub returns-in_err-push-clause-err : goal.returns-in_err-push-clause-err
returns-in_err-push-clause-err c =
    let p = err_from_is_err_and c.from_residual-in_err-push.result c.from_residual-in_err-push.ensures.1 in
    rw (p.1, p.2) tt

pub loop-place-preserved : goal.loop-place-preserved
loop-place-preserved c =
    let less : c.loop-place.place < length c.args.logs.now = search rules in
    let log = c.in_ok-log.log in
    let read : IsRead second c.index-logs-place.result.items log.version log.journal log.whole log.behind = subst (λ (bs : List ℕ). IsRead second bs log.version log.journal log.whole log.behind) c.deref.ensures.value c.in_ok-log.ensures.ok in
    let to : IsReadTo second c.index-logs-place.result.items log.journal (record { whole = log.whole; is_torn = ltb 0 log.behind }) = record { version = log.version; behind = log.behind; read = read; torn = refl } in
    let all = one_read c.loop-place.place c.args.logs.now c.index-logs-place.result _ c.loop-place.journals.items c.loop-place.ends.items c.in_ok-log.log.journal
    (record { whole = c.in_ok-log.log.whole; is_torn = ltb 0 c.in_ok-log.log.behind }) less c.index-logs-place.is c.loop-place.invariant to in
    subst (λ (js : List Journal). AreRead (contents (take (c.loop-place.place + 1) c.args.logs.now)) js c.push-in-loop-place.new.self.items) (sym c.in_ok-push.ensures.items)
    (subst (λ (es : List End). AreRead (contents (take (c.loop-place.place + 1) c.args.logs.now)) (c.loop-place.journals.items ++ c.in_ok-log.log.journal ∷ []) es) (sym c.in_ok-push-2.ensures.items) all)
