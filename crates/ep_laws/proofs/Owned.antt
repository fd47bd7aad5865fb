-- What a replica has executed at a point of a run, and the history up to there.
use Rattle.std.proofs.Common.{◌≡◌, ℕ, ◌<◌, ◌≤◌, Bool, true, false, cond, List, [], take, refl, sym, ap, subst, ◌∙◌, append-nil}
use Rattle.std.proofs.lemmas.Bool.{false≢true}
use Rattle.std.specs.List.{filter}
use Rattle.ep_base.specs.Commands.{Command}
use Rattle.ep_base.specs.Interference.{interfere}
use Rattle.ep_base.specs.Places.{place, Has}
use Rattle.ep_base.specs.Quorums.{size}
use Rattle.ep_base.specs.Sameness.{is_noop}
use Rattle.ep_rules.specs.History.{nothing, done_after, merged}
use Rattle.ep_rules.specs.Linearizable.{IsLinearizable}
use Rattle.ep_rules.specs.OneMap.{Store, after_all, after_commands}
use Rattle.ep_rules.specs.Operations.{instances_of, commands_of, history_of}
use Rattle.ep_rules.specs.Worlds.{opening, Act, IsRun, ends}
use Rattle.ep_rules.proofs.Closings.{store_is, is_history}
use Rattle.ep_rules.proofs.JournalsExecutions.{executions, done_is}
use Rattle.ep_rules.proofs.OnceDone.{from_once}
use Rattle.ep_rules.proofs.Places.{Once, has_filter, filter_has, filter_forth, once_filter}
use Rattle.ep_rules.proofs.Answered.{is_real, noop_left}
use Rattle.ep_rules.proofs.RunCommits.{reported_in, wells}
use Rattle.ep_rules.proofs.RunHistories.{command_is}
use Rattle.ep_rules.proofs.RunsLinear.{linearizability_holds}
use Rattle.ep_rules.proofs.Sealing.{by_commands, noop_is}
use Rattle.ep_rules.specs.Closing.{store_of}
use Rattle.ep_rules.specs.Machines.{Machine, after_operations, executed_at}
use Rattle.ep_rules.proofs.Replies.{noops_out}
use Rattle.ep_rules.proofs.RunMachines.{handed_then}
use Rattle.ep_rules.proofs.Turns.{run as turns}
use Rattle.ep_laws.proofs.Looking.{run_to}
use Rattle.ep_laws.proofs.Reported.{step, handed_runs, front_runs}
use Rattle.ep_laws.proofs.Fronts.{commands_front, operation_of}
use Rattle.ep_laws.proofs.Inserted.{Known}
use Rattle.ep_laws.proofs.OneKey.{interferes_real}

module _ (base : Store) (f : ℕ) (some : 0 < f) (few : size f ≤ 256) where
  -- what is executed at a replica, and no no-op, is in the history
  own_in : (acts : List Act) → IsRun f (opening base) acts → (r i : ℕ) → Has ((ends f (opening base) acts).states r).executed i → is_noop (reported_in base f acts i) ≡ false → Has (instances_of (history_of base f acts)) i
  own_in acts run r i k real =
      let w = wells base f some few acts run in
      let d = done_is f acts (opening base) nothing run (λ q. refl) r in
      subst (λ is. Has is i) (sym (is_history base f some few acts run).instances)
      (filter_has (is_real (reported_in base f acts)) _ i (ap (λ b. cond b false true) real) (w.within r i (subst (λ is. Has is i) (sym d) k)))

  module _ (acts : List Act) (run : IsRun f (opening base) acts) (n r : ℕ) where
    abbrev pub whole : List Act
    whole = take n acts

    abbrev pub c : ℕ → Command
    c = reported_in base f whole

    abbrev pub h : List ℕ
    h = instances_of (history_of base f whole)

    -- what it has executed, and the operations of that

    abbrev pub executed : List ℕ
    executed = ((ends f (opening base) whole).states r).executed

    abbrev pub own : List ℕ
    own = filter (is_real c) executed

    pub run_whole : IsRun f (opening base) whole
    run_whole = run_to base f some few acts run n

    linear : IsLinearizable base f whole
    linear = linearizability_holds base f some few whole run_whole

    -- the reader has executed before an operation each one that interferes with it and stands before it
    everywhere_executed : (u w : ℕ) → Has h u → Has h w → interfere (c u) (c w) ≡ true → place h u < place h w → Has executed w → place executed u < place executed w
    everywhere_executed u w hu hw e lt k =
        let o = operation_of (history_of base f whole) u hu in
        let p = operation_of (history_of base f whole) w hw in
        let cs = (is_history base f some few whole run_whole).commands in
        let co : o.0.command ≡ c u = command_is c (history_of base f whole) o.0 cs o.1 ∙ ap c o.2 in
        let cp : p.0.command ≡ c w = command_is c (history_of base f whole) p.0 cs p.1 ∙ ap c p.2 in
        let l = linear.everywhere r o.0 p.0 o.1 p.1
        (ap (λ d. interfere d p.0.command) co ∙ ap (interfere (c u)) cp ∙ e)
        (subst (λ z. place h z < place h p.0.instance) (sym o.2) (subst (λ z. place h u < place h z) (sym p.2) lt))
        (subst (λ z. Has executed z) (sym p.2) k) in
        subst (λ z. place executed z < place executed w) o.2 (subst (λ z. place executed o.0.instance < place executed z) p.2 l)

    real_is : (u : ℕ) → is_noop (c u) ≡ false → is_real c u ≡ true
    real_is u e = ap (λ b. cond b false true) e

    is_not_noop : (u : ℕ) → is_real c u ≡ true → is_noop (c u) ≡ false
    is_not_noop u e = go (is_noop (c u)) e
      where
        go : (b : Bool) → cond b false true ≡ true → b ≡ false
        go true e = absurd (false≢true e)
        go false e = refl

    meets_real : (u : ℕ) (d : Command) → interfere (c u) d ≡ true → is_real c u ≡ true
    meets_real u d e = real_is u (interferes_real (c u) d e)

    -- all of the history are operations
    pub history_real : (u : ℕ) → Has h u → is_noop (c u) ≡ false
    history_real u k =
        is_not_noop u (has_filter (is_real c) (merged [] (executions f (opening base) whole)) u (subst (λ is. Has is u) (is_history base f some few whole run_whole).instances k)).1

    once_executed : Once executed
    once_executed = subst Once (done_is f whole (opening base) nothing run_whole (λ k. refl) r) ((wells base f some few whole run_whole).each r).once

    pub known : Known c own h
    known = record {
      once_own = once_filter (is_real c) executed once_executed;
      once_h = from_once h linear.once;
      within = λ u k. let t = has_filter (is_real c) executed u k in own_in whole run_whole r u t.0 (is_not_noop u t.1);
      everywhere = λ u w hu hw e lt k.
          let t = has_filter (is_real c) executed w k in
          filter_forth (is_real c) executed u w (meets_real u (c w) e) t.1 (everywhere_executed u w hu hw e lt t.0);
    }

    -- what is executed and interferes with something is one of its operations
    pub own_has : (u : ℕ) (d : Command) → interfere (c u) d ≡ true → Has executed u → Has own u
    own_has u d e k = filter_has (is_real c) executed u (meets_real u d e) k

    pub map_is : store_of (ends f (opening base) whole) r ≡ after_all c base own
    map_is =
        store_is base f some few whole run_whole r
        ∙ ap (after_all c base) (done_is f whole (opening base) nothing run_whole (λ k. refl) r)
        ∙ noops_out base c (is_real c) base executed (λ x k e. noop_is (c x) (noop_left c x e))

    -- what the first m operations of the history leave
    pub history_leaves : (m : ℕ) → after_all c base (take m h) ≡ after_commands base (commands_of (take m (history_of base f whole)))
    history_leaves m =
        by_commands c base (take m h) ∙ ap (after_commands base) (sym (commands_front c m (history_of base f whole) (is_history base f some few whole run_whole).commands))

    module _ {S R : Type 0} (M : Machine S R) (start : S) where
      pub machine_is : after_operations M start (executed_at (ends f (opening base) whole) r) ≡ turns (step M c) start own
      machine_is =
          ap (after_operations M start) (handed_then base f some few whole run_whole whole [] (append-nil whole) r)
          ∙ handed_runs M c start (done_after nothing (executions f (opening base) whole) r)
          ∙ ap (λ xs. turns (step M c) start (filter (is_real c) xs)) (done_is f whole (opening base) nothing run_whole (λ k. refl) r)

      pub machine_leaves : (m : ℕ) → turns (step M c) start (take m h) ≡ after_operations M start (take m (history_of base f whole))
      machine_leaves m = sym (front_runs M c m start (history_of base f whole) (is_history base f some few whole run_whole).commands history_real)
