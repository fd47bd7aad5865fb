-- Journals that are accepted make one history.
use Rattle.std.proofs.Common.{◌≡◌, ℕ, ◌≤◌, List, ◌++◌, Some, sym, subst, refl, arith}
use Rattle.ep_base.specs.declared.decree.Decree.{Decree}
use Rattle.ep_rules.specs.Audits.{IsAccepted}
use Rattle.ep_rules.specs.Journals.{Entry, Journals, Scheduled, AreLocalRuns, left}
use Rattle.ep_rules.specs.Merging.{Merges}
use Rattle.ep_rules.specs.States.{fresh_state, committed_in}
use Rattle.ep_rules.specs.Verdicts.{command_at, committed_by, history_of}
use Rattle.ep_rules.specs.declared.receipt.Receipt.{Receipt}
use Rattle.ep_rules.proofs.JournalsCallers.{caller_order_lem}
use Rattle.ep_rules.proofs.JournalsCommitted.{journals_agree_lem, journals_depend_lem, journals_propose_lem}
use Rattle.ep_rules.proofs.JournalsKeep.{journals_keep_lem}
use Rattle.ep_rules.proofs.JournalsOrders.{journals_order_lem}
use Rattle.ep_rules.proofs.JournalsReplies.{each_reply_lem}
use Rattle.ep_rules.proofs.Merged.{merged_is_a_run_lem}
use Rattle.ep_audit.specs.Verdicts.{summary_of, IsSummary, IsVerdict}
use Rattle.ep_audit.specs.declared.summary.Summary.{Summary}
use Rattle.ep_audit.specs.declared.verdict.Verdict.{Verdict}
use Rattle.ep_audit.specs.Audited.{IsOneHistory, IsSummarized, IsAudited}
use Rattle.ep_audit.proofs.OneClosings.{closing_of_summary}
use Rattle.ep_rules.specs.OneMap.{Store}

-- what is committed after some entries is committed after all
kept : (base : Store) (f : ℕ) (journal : Journals) (r i : ℕ) (x : Decree) (before rest : List Entry) → before ++ rest ≡ journal r → committed_in (left f r (fresh_state base) before).records i ≡ Some x → committed_by base f journal r i ≡ Some x
kept base f journal r i x before rest whole h = subst (λ (es : List Entry). committed_in (left f r (fresh_state base) es).records i ≡ Some x) whole (journals_keep_lem base f r before rest i x h)

-- the history of the schedule
one_history : (base : Store) (f : ℕ) (journal : Journals) (receipts : List Receipt) (schedule : List Scheduled) → Merges base f journal schedule → IsAccepted base f journal receipts →
    IsOneHistory base f journal receipts schedule (history_of (command_at base f journal) schedule)
one_history base f journal receipts schedule m a =
    record {
      scheduled = m.scheduled;
      history = refl;
      run = merged_is_a_run_lem base f journal schedule m.local m.matched m.scheduled;
      agreement = journals_agree_lem base f journal schedule m;
      permanence = kept base f journal;
      validity = journals_propose_lem base f journal schedule m;
      dependency = journals_depend_lem base f journal schedule m;
      replies = each_reply_lem base f journal schedule m;
      order = journals_order_lem base f journal schedule m;
      callers = λ t u there here. caller_order_lem base f journal schedule m t u (a.agree t there) (a.agree u here);
    }

pub summarized : (base : Store) (f : ℕ) (journal : Journals) (receipts : List Receipt) (s : Summary) → 1 ≤ f → f ≤ 3 → AreLocalRuns base f journal → IsAccepted base f journal receipts → IsSummary base f journal s → IsSummarized base f journal receipts s
summarized base f journal receipts s some few local a is =
    let m : Merges base f journal is.order = record { some = omega arith; few = omega arith; local = local; matched = a.matched; scheduled = is.scheduled } in
    record { accepted = a; summary = is; merges = m; history = subst (λ h. IsOneHistory base f journal receipts is.order h) (sym is.history.instances) (one_history base f journal receipts is.order m a); closing = closing_of_summary base f journal s is m }

pub audited : (base : Store) (f : ℕ) (journal : Journals) (receipts : List Receipt) (v : Verdict) → 1 ≤ f → f ≤ 3 → AreLocalRuns base f journal → IsAccepted base f journal receipts → IsVerdict base f journal v → IsAudited base f journal receipts v
unfolding summarized
audited base f journal receipts v some few local a is = record { says = summarized base f journal receipts (summary_of v) some few local a is.says; schedule = is.schedule }
