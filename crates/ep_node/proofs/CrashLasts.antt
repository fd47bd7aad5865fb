-- What was handed out stays so, and agrees with all that comes later.
use Rattle.std.proofs.Common.{◌≡◌, ℕ, Some, List, ◌++◌, sym, subst}
use Rattle.ep_base.specs.declared.decree.Decree.{Decree}
use Rattle.ep_rules.specs.Journals.{Entry, left, Scheduled, IsSchedule}
use Rattle.ep_rules.specs.Merging.{Merges}
use Rattle.ep_rules.specs.States.{fresh_state, committed_in}
use Rattle.ep_rules.specs.Verdicts.{committed_by, command_at, history_of, IsReply, IsOwn, Agrees}
use Rattle.ep_rules.specs.Worlds.{In}
use Rattle.ep_rules.specs.declared.receipt.Receipt.{Receipt}
use Rattle.ep_rules.proofs.JournalsCallers.{caller_order_lem}
use Rattle.ep_rules.proofs.JournalsCommitted.{journals_agree_lem, journals_depend_lem}
use Rattle.ep_rules.proofs.JournalsKeep.{journals_keep_lem}
use Rattle.ep_rules.proofs.JournalsReplies.{each_reply_lem}
use Rattle.ep_rules.proofs.Merged.{of_in}
use Rattle.ep_rules.proofs.OwnReceipts.{own_receipts_agree_lem, own_stays_lem}
use Rattle.ep_node.specs.Crashes.{Start, Cluster, fresh_cluster, cluster_after, handed_out, IsOneRun, IsBeginning, Lasts, HandedOutStays, CommittedOut, AgreeOver, CrashesKeepAgreement, ReceiptsStay, CrashesKeepReceipts}
use Rattle.ep_node.proofs.CrashMoves.{fresh_holds, moves_hold, moves_parts, after_both, take_begins, lasts}
use Rattle.ep_node.proofs.CrashRuns.{crashing_runs_are_runs_lem}
use Rattle.ep_rules.specs.OneMap.{opened}

pub handed_out_stays_lem : HandedOutStays
handed_out_stays_lem start f early late k =
    let parts = moves_parts start f fresh_cluster early late k in
    let middle : Cluster = cluster_after fresh_cluster early in
    subst (λ (c : Cluster). Lasts middle c) (sym (after_both fresh_cluster early late)) (lasts start f middle late (moves_hold start f fresh_cluster early (fresh_holds start f) parts.0) parts.1)

-- Two points of a run.

module _ (start : Start) (f : ℕ) (before after : Cluster) (kept : Lasts before after) (run : IsOneRun start f after) where
  stays : (r i : ℕ) (x : Decree) → CommittedOut start f before r i x → committed_by (opened start.map) f after.journal r i ≡ Some x
  stays r i x e =
      let b = kept.stands r in
      subst (λ (es : List Entry). committed_in (left f r (fresh_state (opened start.map)) es).records i ≡ Some x) b.1 (journals_keep_lem (opened start.map) f r (handed_out before r) b.0 i x e)

  pub agree_over : AgreeOver start f before after
  agree_over = record {
    stays = stays;
    agree = λ i r q x y ex ey. journals_agree_lem (opened start.map) f after.journal run.schedule run.merges i r q x y (stays r i x ex) ey;
    depend = λ i j r q x y ne ex ey inter. journals_depend_lem (opened start.map) f after.journal run.schedule run.merges i j r q x y ne (stays r i x ex) ey inter;
  }

  -- The same journals, with a schedule that is given.
  merges_by : (schedule : List Scheduled) → IsSchedule after.journal schedule → Merges (opened start.map) f after.journal schedule
  merges_by schedule is = record { some = run.merges.some; few = run.merges.few; local = run.merges.local; matched = run.merges.matched; scheduled = is }

  own_still : (r : ℕ) (t : Receipt) (es : List Entry) → IsBeginning es (after.journal r) → IsOwn (opened start.map) f r es t → IsOwn (opened start.map) f r (after.journal r) t
  own_still r t es b own = subst (λ (all : List Entry). IsOwn (opened start.map) f r all t) b.1 (own_stays_lem (opened start.map) f r es b.0 t own)

  own_before : (r : ℕ) (t : Receipt) → IsOwn (opened start.map) f r (handed_out before r) t → IsOwn (opened start.map) f r (after.journal r) t
  own_before r t own = own_still r t (handed_out before r) (kept.stands r) own

  own_after : (r : ℕ) (t : Receipt) → IsOwn (opened start.map) f r (handed_out after r) t → IsOwn (opened start.map) f r (after.journal r) t
  own_after r t own = own_still r t (handed_out after r) (take_begins (after.out r) (after.journal r)) own

  agrees : (r : ℕ) (t : Receipt) → IsOwn (opened start.map) f r (after.journal r) t → Agrees (opened start.map) f after.journal t
  agrees r t own = own_receipts_agree_lem (opened start.map) start.base_stamp f after.journal run.clocked r t own

  -- the act of the schedule that executed what a receipt is for
  replied : (schedule : List Scheduled) → IsSchedule after.journal schedule → (r : ℕ) (t : Receipt) → IsOwn (opened start.map) f r (after.journal r) t →
      IsReply (opened start.map) (command_at (opened start.map) f after.journal) (history_of (command_at (opened start.map) f after.journal) schedule) t.instance t.answer
  replied schedule is r t own =
      let d = own.executed in
      let a = of_in r d.entry schedule (subst (λ (es : List Entry). In d.entry es) (sym (is.0 r)) d.stands) in
      each_reply_lem (opened start.map) f after.journal schedule (merges_by schedule is) a.0 t.instance t.answer a.1 (subst (λ (e : Entry). In (t.instance, t.answer) e.done) (sym a.3) d.done)

  pub receipts_stay : ReceiptsStay start f before after
  receipts_stay = record {
    own = own_before;
    accepted = λ receipts are. run.accepted receipts (λ t h. let o = are t h in (o.0, own_before o.0 t o.1));
    replies = λ schedule is t o. replied schedule is o.0 t (own_before o.0 t o.1);
    order = λ schedule is t u o p le.
        caller_order_lem (opened start.map) f after.journal schedule (merges_by schedule is) t u (agrees o.0 t (own_after o.0 t o.1)) (agrees p.0 u (own_before p.0 u p.1)) le;
  }

pub crashes_keep_agreement_lem : CrashesKeepAgreement
crashes_keep_agreement_lem start f some few early late k =
    agree_over start f (cluster_after fresh_cluster early) (cluster_after fresh_cluster (early ++ late)) (handed_out_stays_lem start f early late k) (crashing_runs_are_runs_lem start f some few (early ++ late) k)

pub crashes_keep_receipts_lem : CrashesKeepReceipts
crashes_keep_receipts_lem start f some few early late k =
    receipts_stay start f (cluster_after fresh_cluster early) (cluster_after fresh_cluster (early ++ late)) (handed_out_stays_lem start f early late k) (crashing_runs_are_runs_lem start f some few (early ++ late) k)
