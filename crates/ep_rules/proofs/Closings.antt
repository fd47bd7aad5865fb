-- Whoever has executed a seal has one map.
use Rattle.std.proofs.Common.{◌≡◌, ℕ, ◌<◌, ◌≤◌, Bool, true, false, cond, not, ◌||◌, inl, inr, Option, Some, None, eqb, List, [], ◌∷◌, ◌++◌, refl, sym, ap, subst, ◌∙◌}
use Rattle.std.proofs.lemmas.Bool.{cases_Bool, false≢true}
use Rattle.std.specs.Prelude.{is_none}
use Rattle.ep_base.specs.Interference.{is_seal}
use Rattle.ep_base.specs.Quorums.{size}
use Rattle.ep_base.specs.Commands.{Command}
use Rattle.ep_base.specs.declared.decree.Decree.{Decree}
use Rattle.ep_rules.specs.Closing.{has_seal, up_to_seal, first_seal, written_by, SealCloses, store_of, HasClosed, ClosedStays, RunsClose, RunsCloseAlike}
use Rattle.ep_rules.specs.History.{nothing, done_after, merged, OneClosing}
use Rattle.ep_rules.specs.OneMap.{Contents, written, sealed_by, Store, opened, is_closed, after, after_all, after_commands}
use Rattle.ep_rules.specs.Operations.{Operation, instances_of, commands_of, history_of}
use Rattle.ep_rules.specs.States.{command_in}
use Rattle.ep_rules.specs.Steps.{order_of, leaves}
use Rattle.ep_rules.specs.Worlds.{World, opening, Act, moved, IsRun, ends}
use Rattle.ep_rules.proofs.Answered.{is_real, noop_left}
use Rattle.ep_rules.proofs.Commuting.{map_of, seal_value}
use Rattle.ep_rules.proofs.Executions.{all_well, start as well_start}
use Rattle.ep_rules.proofs.Interleaved.{interleaved}
use Rattle.ep_rules.proofs.JournalsExecutions.{executions, Known, Stored, known_next, stored_next, done_is}
use Rattle.ep_rules.proofs.Replies.{noops_out}
use Rattle.ep_rules.proofs.RunCommits.{decrees, graph_of, reported_in, all_known, locals, dependent}
use Rattle.ep_rules.proofs.RunHistories.{commands_are, IsHistory, history_is}
use Rattle.ep_rules.proofs.Sealing.{noop_is, closed_stays, by_commands, same_closing, not_seal, stays_open, sealed_here}
use Rattle.ep_rules.proofs.Runs.{ends_append}

-- Executions at several replicas.

pub one_closing_lem : OneClosing
one_closing_lem base all c es dep h r e =
    let w = all_well all nothing [] es (well_start all) (interleaved base all c nothing es h).0 in
    same_closing all c dep (done_after nothing es r) (merged [] es) (w.each r) w.whole (w.within r) base e
    ∙ noops_out base c (is_real c) base (merged [] es) (λ x k n. noop_is (c x) (noop_left c x n))

-- Operations with a seal.

closed_commands : (n : Contents) (v : List ℕ) (ps : List Operation) → after_commands (map_of n (Some v)) (commands_of ps) ≡ map_of n (Some v)
closed_commands n v [] = refl
closed_commands n v (p ∷ ps) = closed_commands n v ps

pub seal_closes_lem : SealCloses
seal_closes_lem m [] e = absurd (false≢true e)
seal_closes_lem m (o ∷ os) e = go (is_seal o.command) refl e (λ h. seal_closes_lem (written m o.command) os h)
  where
    go : (b : Bool) → is_seal o.command ≡ b → (b || has_seal os) ≡ true →
        (has_seal os ≡ true → after_commands (opened (written m o.command)) (commands_of os) ≡ map_of (written_by (written m o.command) (up_to_seal os)) (first_seal os)) →
        after_commands (after (opened m) o.command) (commands_of os) ≡ map_of (written_by (written m o.command) (cond b [] (up_to_seal os))) (cond b (sealed_by o.command) (first_seal os))
    go true s h rec =
        let v = seal_value o.command s in
        ap (λ t. after_commands t (commands_of os)) (sealed_here m o.command v.0 v.1) ∙ closed_commands m v.0 os ∙ sym (sealed_here m o.command v.0 v.1)
    go false s h rec = ap (λ t. after_commands t (commands_of os)) (stays_open m o.command (not_seal o.command s)) ∙ rec h

-- operations with no seal leave the map open
pub open_without : (m : Contents) (h : List Operation) → has_seal h ≡ false → after_commands (opened m) (commands_of h) ≡ opened (written_by m h)
open_without m [] e = refl
open_without m (o ∷ os) e = go (is_seal o.command) refl e (λ h. open_without (written m o.command) os h)
  where
    go : (b : Bool) → is_seal o.command ≡ b → (b || has_seal os) ≡ false →
        (has_seal os ≡ false → after_commands (opened (written m o.command)) (commands_of os) ≡ opened (written_by (written m o.command) os)) →
        after_commands (after (opened m) o.command) (commands_of os) ≡ opened (written_by (written m o.command) os)
    go true s h rec = absurd (false≢true (sym h))
    go false s h rec = ap (λ t. after_commands t (commands_of os)) (stays_open m o.command (not_seal o.command s)) ∙ rec h

-- A closed map stays as it is.

pub closed_under : (c : ℕ → Command) (o : Option (List ℕ)) (m : Contents) (xs : List ℕ) → not (is_none o) ≡ true → after_all c (map_of m o) xs ≡ map_of m o
closed_under c None m xs e = absurd (false≢true e)
closed_under c (Some v) m xs e = closed_stays c m v xs

closed_moved : (f : ℕ) (w : World) (a : Act) (r : ℕ) → HasClosed w r → store_of (moved f w a) r ≡ store_of w r
closed_moved f w a r h = go (eqb a.replica r)
  where
    go : (b : Bool) → (cond b (leaves f r (w.states r) a.event a.done) (w.states r)).store ≡ (w.states r).store
    go true = closed_under (command_in (w.states r).records) (w.states r).store.seal (w.states r).store.contents (order_of a.done) h
    go false = refl

pub closed_stays_lem : ClosedStays
closed_stays_lem f w [] r h = refl
closed_stays_lem f w (a ∷ late) r h =
    let e : store_of (moved f w a) r ≡ store_of w r = closed_moved f w a r h in
    closed_stays_lem f (moved f w a) late r (subst (λ s. is_closed s ≡ true) (sym e) h) ∙ e

-- Runs.

stored_ends : (base : Store) (f : ℕ) (all : ℕ → Option Decree) (these : List Act) (w : World) → IsRun f w these → Known base f all w these → Stored base f all w → Stored base f all (ends f w these)
stored_ends base f all [] w run known stored = stored
stored_ends base f all (a ∷ these) w run known stored =
    stored_ends base f all these (moved f w a) run.1 (known_next base f all w a these known) (stored_next base f all w a these known run.0.step.executes stored)

module _ (base : Store) (f : ℕ) (some : 0 < f) (few : size f ≤ 256) (acts : List Act) (run : IsRun f (opening base) acts) where
  abbrev c : ℕ → Command
  c = reported_in base f acts

  pub store_is : (r : ℕ) → store_of (ends f (opening base) acts) r ≡ after_all c base (done_after nothing (executions f (opening base) acts) r)
  store_is r =
      stored_ends base f (decrees base f acts) acts (opening base) run (all_known base f some few acts run) (λ q. refl) r
      ∙ ap (λ xs. after_all c base xs) (sym (done_is f acts (opening base) nothing run (λ q. refl) r))

  pub is_history : IsHistory base f (decrees base f acts) (history_of base f acts) (merged [] (executions f (opening base) acts))
  is_history = history_is base f (decrees base f acts) acts (opening base) [] [] run (all_known base f some few acts run) (record { instances = refl; commands = tt })

  pub closes_base : (r : ℕ) → HasClosed (ends f (opening base) acts) r → store_of (ends f (opening base) acts) r ≡ after_commands base (commands_of (history_of base f acts))
  closes_base r h =
      store_is r
      ∙ one_closing_lem base (graph_of base f acts) c (executions f (opening base) acts) (dependent base f some few acts run) (locals base f some few acts run) r (subst (λ s. is_closed s ≡ true) (store_is r) h)
      ∙ ap (λ xs. after_all c base xs) (sym is_history.instances)
      ∙ by_commands c base (instances_of (history_of base f acts))
      ∙ ap (λ cs. after_commands base cs) (sym (commands_are c (history_of base f acts) is_history.commands))

pub runs_close_lem : RunsClose
runs_close_lem start f some few acts run r h =
    let w : World = ends f (opening (opened start)) acts in
    let os : List Operation = history_of (opened start) f acts in
    let e : store_of w r ≡ after_commands (opened start) (commands_of os) = closes_base (opened start) f some few acts run r h in
    let sealed : has_seal os ≡ true = elim (cases_Bool (has_seal os)) [
      | inl s ↦ s
      | inr n ↦ absurd (false≢true (sym (ap is_closed (e ∙ open_without start os n)) ∙ h))
    ] in
    (sealed, e ∙ seal_closes_lem start os sealed)

pub runs_close_alike_lem : RunsCloseAlike
runs_close_alike_lem start f some few early late run r q hr hq =
    let w : World = opening (opened start) in
    let e : store_of (ends f w (early ++ late)) r ≡ store_of (ends f w early) r = ap (λ v. store_of v r) (ends_append (opened start) f some few early late w) ∙ closed_stays_lem f (ends f w early) late r hr in
    sym e
    ∙ (runs_close_lem start f some few (early ++ late) run r (subst (λ s. is_closed s ≡ true) (sym e) hr)).1
    ∙ sym (runs_close_lem start f some few (early ++ late) run q hq).1
