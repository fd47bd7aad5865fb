use Rattle.std.proofs.Common.{rules, ◌≤◌, ℕ, List, subst}
use Rattle.ep_journal.specs.Entries.{journals_of}
use Rattle.ep_journal.specs.Openings.{opens}
use Rattle.ep_audit.specs.declared.happening.Happening.{Happening}
use Rattle.ep_rules.specs.Worlds.{In}
use Rattle.ep_audit.specs.Closings.{operations_in, IsClosing}
use Rattle.ep_audit.proofs.FirstSeals.{line_executed}
use Rattle.ep_audit.specs.declared.summary.Summary.{Summary}
use Rattle.ep_audit.proofs.OneHistory.{summarized}
use Rattle.ep_audit.proofs.Saying.{summary_is}
use Rattle.ep_audit.proofs.summary.Summary.of.Goals as goal

pub closing_of-requires : goal.closing_of-requires
closing_of-requires c = λ h there.
    line_executed (opens c.args.journals.now.opening) c.args.journals.now.faults (journals_of c.args.journals.now) c.in_ok-history.history.items c.are_local_runs.ensures c.in_ok-history.ensures h
    (subst (λ (l : List Happening). In h l) c.deref-2.ensures.value there)

pub returns-clause-says : goal.returns-clause-says
returns-clause-says c =
    summary_is (opens c.args.journals.now.opening) c.args.journals.now.faults (journals_of c.args.journals.now)
    (record { committed = c.in_ok-committed.committed; history = c.in_ok-history.history; closing = c.in_ok-closing.closing }) c.are_local_runs.ensures
    c.in_ok-committed.ensures c.in_ok-history.ensures (subst (λ (l : List Happening). IsClosing (journals_of c.args.journals.now) (operations_in l) c.in_ok-closing.closing) c.deref-2.ensures.value c.in_ok-closing.ensures)

pub returns-clause-accepted : goal.returns-clause-accepted
returns-clause-accepted c receipts accepted =
    let f : ℕ = c.args.journals.now.faults in
    let some : 1 ≤ f = search rules in
    let few : f ≤ 3 = search rules in
    let s : Summary = record { committed = c.in_ok-committed.committed; history = c.in_ok-history.history; closing = c.in_ok-closing.closing } in
    summarized (opens c.args.journals.now.opening) f (journals_of c.args.journals.now) receipts s some few c.are_local_runs.ensures accepted
    (summary_is (opens c.args.journals.now.opening) f (journals_of c.args.journals.now) s c.are_local_runs.ensures
    c.in_ok-committed.ensures c.in_ok-history.ensures (subst (λ (l : List Happening). IsClosing (journals_of c.args.journals.now) (operations_in l) c.in_ok-closing.closing) c.deref-2.ensures.value c.in_ok-closing.ensures))
