-- Whoever has executed a seal has executed whatever is answered but by `Closed`.
use Rattle.std.proofs.Common.{◌≡◌, ◌≢◌, ℕ, ◌<◌, ◌≤◌, inl, inr, List, [], ◌++◌, ap, subst, ◌∙◌}
use Rattle.ep_base.specs.Places.{place, Has}
use Rattle.ep_base.specs.Quorums.{size}
use Rattle.ep_base.specs.declared.reply.Answer.TheVariants.{Replied}
use Rattle.ep_base.specs.declared.reply.Reply.{Reply}
use Rattle.ep_base.specs.declared.reply.Reply.TheVariants.{Closed}
use Rattle.ep_rules.specs.Closing.{up_to_seal, HasClosed, OneSettling}
use Rattle.ep_rules.specs.OneMap.{Contents, opened}
use Rattle.ep_rules.specs.Operations.{Operation, instances_of, history_of}
use Rattle.ep_rules.specs.Worlds.{opening, In, Act, IsRun, ends}
use Rattle.ep_rules.proofs.AllExecuted.{runs_execute_all_lem}
use Rattle.ep_rules.proofs.ChainsExplained.{has_operation}
use Rattle.ep_rules.proofs.Closings.{runs_close_lem}
use Rattle.ep_rules.proofs.CutHistories.{real_history, cut_out, late_reply}
use Rattle.ep_rules.proofs.Places.{has_or}
use Rattle.ep_rules.proofs.JournalsCommitted.{run_parts}
use Rattle.ep_rules.proofs.Lives.{cut_more}
use Rattle.ep_rules.proofs.RunHistories.{history_grows_lem}
use Rattle.ep_rules.proofs.RunsLinear.{linearizability_holds, reported_lost, reported_from}

module _ (start : Contents) (f : ℕ) (some : 0 < f) (few : size f ≤ 256) (early late : List Act) (run : IsRun f (opening (opened start)) (early ++ late)) (r : ℕ) (shut : HasClosed (ends f (opening (opened start)) early) r) where
  abbrev h : List Operation
  h = history_of (opened start) f (early ++ late)

  before : IsRun f (opening (opened start)) early
  before = (run_parts f early late (opening (opened start)) run).0

  -- the history up to its seal stands when somebody has executed one
  same : up_to_seal h ≡ up_to_seal (history_of (opened start) f early)
  same =
      let t = history_grows_lem (opened start) f early late in
      ap up_to_seal t.1 ∙ cut_more (history_of (opened start) f early) t.0 (runs_close_lem start f some few early before r shut).0

  settled : (a : Act) (i : ℕ) (reported : Reply) → In a (early ++ late) → In (i, Replied reported) a.done → reported ≢ Closed → Has ((ends f (opening (opened start)) early).states r).executed i
  settled a i reported m k open' = elim ((linearizability_holds (opened start) f some few (early ++ late) run).legal a i (Replied reported) m k) [
    | inl lost ↦ reported_lost reported lost.1
    | inr there ↦ elim (has_or (instances_of (up_to_seal h)) i) [
      | inl c ↦ (
          let o = has_operation (up_to_seal h) i c in
          subst (λ n. Has ((ends f (opening (opened start)) early).states r).executed n) o.2
          (runs_execute_all_lem start f some few early before r shut o.0 (subst (λ os. In o.0 os) same o.1)))
      | inr none ↦ absurd (open' (
          reported_from _ _ there.1
          ∙ late_reply start h (place (instances_of h) i) (real_history f (opening (opened start)) [] (early ++ late) tt) (cut_out h i none) there.0))
    ]
  ]

pub one_settling_lem : OneSettling
one_settling_lem start f some few early late run r shut a i reported m k open' = settled start f some few early late run r shut a i reported m k open'
