-- Whoever has executed a seal has executed all that stands before it.
use Rattle.std.proofs.Common.{◌≡◌, ℕ, ◌<◌, ◌≤◌, true, false, cond, inl, inr, List, [], ◌∷◌, refl, sym, ap, subst, ◌∙◌, arith}
use Rattle.std.proofs.lemmas.Bool.{cases_lt, cases_Bool, false≢true}
use Rattle.ep_base.specs.Interference.{interfere}
use Rattle.ep_base.specs.Places.{place, Has}
use Rattle.ep_base.specs.Quorums.{size}
use Rattle.ep_base.specs.Sameness.{is_noop}
use Rattle.ep_base.specs.Commands.{Command, Seal}
use Rattle.ep_rules.specs.Closing.{up_to_seal, HasClosed, RunsExecuteAll}
use Rattle.ep_rules.specs.History.{nothing, done_after, merged}
use Rattle.ep_rules.specs.Linearizable.{IsLinearizable}
use Rattle.ep_rules.specs.OneMap.{Contents, opened, is_closed}
use Rattle.ep_rules.specs.Operations.{Operation, instances_of, history_of}
use Rattle.ep_rules.specs.Worlds.{opening, In, Act, IsRun, ends}
use Rattle.ep_rules.proofs.ChainsExplained.{has_operation, seal_real}
use Rattle.ep_rules.proofs.Closings.{store_is, is_history}
use Rattle.ep_rules.proofs.Commuting.{before_seal}
use Rattle.ep_rules.proofs.CutHistories.{AreReal, real_history, cut_of, before_seals}
use Rattle.ep_rules.proofs.JournalsExecutions.{executions, done_is}
use Rattle.ep_rules.proofs.OnceDone.{from_once}
use Rattle.ep_rules.proofs.Places.{place_inj, filter_has}
use Rattle.ep_rules.proofs.RunCommits.{reported_in, wells}
use Rattle.ep_rules.proofs.RunHistories.{command_is, instance_in}
use Rattle.ep_rules.proofs.RunsLinear.{linearizability_holds}
use Rattle.ep_rules.proofs.Sealing.{FirstSeal, find_seal, seal_is}
use Rattle.ep_rules.proofs.Answered.{is_real}

real_of : (h : List Operation) (o : Operation) → AreReal h → In o h → is_noop o.command ≡ false
real_of [] o r k = absurd k
real_of (p ∷ h) o r (inl e) = ap (λ (x : Operation). is_noop x.command) (sym e) ∙ r.0
real_of (p ∷ h) o r (inr k) = real_of h o r.1 k

-- a seal interferes with whatever is no no-op
meets_seal : (a b : Command) → is_noop a ≡ false → (v : List ℕ) → b ≡ Seal v → interfere a b ≡ true
meets_seal a b n v e = elim (cases_Bool (interfere a b)) [
  | inl t ↦ t
  | inr f ↦ absurd (false≢true (sym n ∙ ap is_noop (before_seal v a (subst (λ d. interfere a d ≡ false) e f))))
]

module _ (start : Contents) (f : ℕ) (some : 0 < f) (few : size f ≤ 256) (acts : List Act) (run : IsRun f (opening (opened start)) acts) (r : ℕ) (shut : HasClosed (ends f (opening (opened start)) acts) r) where
  abbrev c : ℕ → Command
  c = reported_in (opened start) f acts

  abbrev l : List ℕ
  l = done_after nothing (executions f (opening (opened start)) acts) r

  abbrev h : List Operation
  h = history_of (opened start) f acts

  own : l ≡ ((ends f (opening (opened start)) acts).states r).executed
  own = done_is f acts (opening (opened start)) nothing run (λ q. refl) r

  z : FirstSeal c l
  z = find_seal c start l (subst (λ s. is_closed s ≡ true) (store_is (opened start) f some few acts run r) shut)

  in_history : Has (instances_of h) z.at
  in_history =
      let w = wells (opened start) f some few acts run in
      let n : is_noop (c z.at) ≡ false = seal_real (c z.at) (seal_is (c z.at) z.value z.seals) in
      subst (λ is. Has is z.at) (sym (is_history (opened start) f some few acts run).instances)
      (filter_has (is_real c) (merged [] (executions f (opening (opened start)) acts)) z.at (ap (λ b. cond b false true) n) (w.within r z.at z.has))

  lin : IsLinearizable (opened start) f acts
  lin = linearizability_holds (opened start) f some few acts run

  executed : (o : Operation) → In o (up_to_seal h) → Has ((ends f (opening (opened start)) acts).states r).executed o.instance
  executed o m =
      let s = has_operation h z.at in_history in
      let seals : s.0.command ≡ Seal z.value = command_is c h s.0 (is_history (opened start) f some few acts run).commands s.1 ∙ ap c s.2 ∙ z.seals in
      let mo : In o h = cut_of h o m in
      let le = before_seals h s.0 o.instance (from_once (instances_of h) lin.once) s.1 (seal_is s.0.command z.value seals) (instance_in (up_to_seal h) o m) in
      let hz : Has ((ends f (opening (opened start)) acts).states r).executed s.0.instance = subst (λ i. Has ((ends f (opening (opened start)) acts).states r).executed i) (sym s.2) (subst (λ is. Has is z.at) own z.has) in
      elim (cases_lt (place (instances_of h) o.instance) (place (instances_of h) s.0.instance)) [
        | inl lt ↦ (
            let meet = meets_seal o.command s.0.command (real_of h o (real_history f (opening (opened start)) [] acts tt) mo) z.value seals in
            let before = lin.everywhere r o s.0 mo s.1 meet lt hz in
            omega arith)
        | inr ge ↦ (
            let same : o.instance ≡ s.0.instance = place_inj (instances_of h) o.instance s.0.instance (instance_in h o mo) (omega arith) in
            subst (λ i. Has ((ends f (opening (opened start)) acts).states r).executed i) (sym same) hz)
      ]

pub runs_execute_all_lem : RunsExecuteAll
runs_execute_all_lem start f some few acts run r shut o m = executed start f some few acts run r shut o m
