-- Machines at a seal: by a machine that stops there, and reports its state.
use Rattle.std.proofs.Common.{◌≡◌, ℕ, inl, inr, Bool, true, false, cond, eqb, Option, Some, None, List, [], ◌∷◌, refl, sym, ap, subst, ◌∙◌, append-nil}
use Rattle.std.proofs.lemmas.Bool.{eq-eqb, ne_eqb, false≢true}
use Rattle.std.specs.Prelude.{◌&&◌, ◌||◌, not}
use Rattle.ep_base.specs.Interference.{is_seal, meet}
use Rattle.ep_base.specs.Places.{Has}
use Rattle.ep_base.specs.Sameness.{is_noop}
use Rattle.ep_base.specs.Commands.{Command}
use Rattle.ep_rules.specs.Closing.{has_seal, up_to_seal}
use Rattle.ep_rules.specs.History.{nothing, done_after}
use Rattle.ep_rules.specs.Machines.{AreFree, Machine, after_operations, reply_to, executed_at, executed_in, RunsCloseMachines, JournalsOneMachine}
use Rattle.ep_rules.specs.Operations.{Operation, instances_of, operations_of, history_of}
use Rattle.ep_rules.specs.Journals.{acts_of}
use Rattle.ep_rules.specs.States.{State, command_in}
use Rattle.ep_rules.specs.Worlds.{opening, In, ends}
use Rattle.ep_rules.proofs.JournalsCommitted.{is_run, state_is}
use Rattle.ep_rules.proofs.JournalsExecutions.{executions}
use Rattle.ep_rules.proofs.Places.{Once, once_filter}
use Rattle.ep_rules.proofs.RunCommits.{reported_in, wells}
use Rattle.ep_rules.proofs.RunHistories.{instance_in, instances_real}
use Rattle.ep_rules.proofs.RunMachines.{handed_then, runs_one_machine_lem}
use Rattle.ep_rules.proofs.Answered.{is_real}

-- of two operations whose order is left open neither is a seal
no_seals : (o p : Operation) → AreFree o p → (is_seal o.command ≡ false) × (is_seal p.command ≡ false)
no_seals o p f = go (meet o.command p.command) (is_seal o.command) (is_seal p.command) (is_noop o.command) (is_noop p.command) f.first f.second f.meet
  where
    go : (m s t n q : Bool) → n ≡ false → q ≡ false → (m || ((s || t) && not (n || q))) ≡ false → (s ≡ false) × (t ≡ false)
    go true s t n q x y e = absurd (false≢true (sym e))
    go false false false n q x y e = (refl, refl)
    go false s t true q x y e = absurd (false≢true (sym x))
    go false s t false true x y e = absurd (false≢true (sym y))
    go false true t false false x y e = absurd (false≢true (sym e))
    go false false true false false x y e = absurd (false≢true (sym e))

module _ {S R : Type 0} (M : Machine S R) where
  -- the state, and whether a seal has stopped it
  abbrev after_under : Bool → S → Operation → S × Bool
  after_under true s o = (s, true)
  after_under false s o = (M.after s o, is_seal o.command)

  -- to a seal that stops it, the state that this leaves
  abbrev reply_under : Bool → S → Operation → Option S
  reply_under true s o = None
  reply_under false s o = cond (is_seal o.command) (Some (M.after s o)) None

  none_reported : (b : Bool) (s : S) (o : Operation) → is_seal o.command ≡ false → reply_under b s o ≡ None
  none_reported true s o e = refl
  none_reported false s o e = ap (λ t. cond t (Some (M.after s o)) None) e

  stopped_commute : (b : Bool) (s : S) (o p : Operation) → AreFree o p → after_under (after_under b s o).1 (after_under b s o).0 p ≡ after_under (after_under b s p).1 (after_under b s p).0 o
  stopped_commute true s o p f = refl
  stopped_commute false s o p f =
      let n = no_seals o p f in
      ap (λ t. after_under t (M.after s o) p) n.0
      ∙ (λ i. (M.commute s o p f i, (n.1 ∙ sym n.0) i))
      ∙ sym (ap (λ t. after_under t (M.after s p) o) n.1)

  abbrev stopped : Machine (S × Bool) (Option S)
  stopped = record {
    after = λ t o. after_under t.1 t.0 o;
    reply = λ t o. reply_under t.1 t.0 o;
    commute = λ t o p f. stopped_commute t.1 t.0 o p f;
    unseen = λ t o p f. (let n = no_seals o p f in none_reported (after_under t.1 t.0 o).1 (after_under t.1 t.0 o).0 p n.1 ∙ sym (none_reported t.1 t.0 p n.1));
  }

  abbrev running : S → S × Bool
  running s = (s, false)

  -- the first seal is answered the state that it leaves
  seal_reported : (s : S) (os : List Operation) → Once (instances_of os) → has_seal os ≡ true → (z : Operation) × In z os × (reply_to stopped (running s) os z.instance ≡ Some (Some (after_operations M s (up_to_seal os))))
  seal_reported s [] o h = absurd (false≢true h)
  seal_reported s (o ∷ os) once h = go (is_seal o.command) refl h (seal_reported (M.after s o) os once.1)
    where
      go : (b : Bool) → is_seal o.command ≡ b → (b || has_seal os) ≡ true →
          (has_seal os ≡ true → (z : Operation) × In z os × (reply_to stopped (running (M.after s o)) os z.instance ≡ Some (Some (after_operations M (M.after s o) (up_to_seal os))))) →
          (z : Operation) × In z (o ∷ os) × (reply_to stopped (running s) (o ∷ os) z.instance ≡ Some (Some (after_operations M (M.after s o) (cond b [] (up_to_seal os)))))
      go true q h rec = (
        o,
        inl refl,
        ap (λ t. cond t (Some (cond (is_seal o.command) (Some (M.after s o)) None)) (reply_to stopped (after_under false s o) os o.instance)) (eq-eqb o.instance o.instance refl)
            ∙ ap (λ t. Some (cond t (Some (M.after s o)) None)) q,
      )
      go false q h rec =
          let r = rec h in
          let other : eqb o.instance r.0.instance ≡ false = ne_eqb o.instance r.0.instance (λ e. once.0 (subst (λ i. Has (instances_of os) i) (sym e) (instance_in os r.0 r.1))) in (
            r.0,
            inr r.1,
            ap (λ t. cond t (Some (reply_under false s o)) (reply_to stopped (after_under false s o) os r.0.instance)) other
                ∙ ap (λ (t : Bool). reply_to stopped (M.after s o, t) os r.0.instance) q ∙ r.2,
          )

  stopped_still : (s : S) (os : List Operation) (i : ℕ) (x : S) → reply_to stopped (s, true) os i ≡ Some (Some x) → ⊥
  stopped_still s [] i x e = absurd (cc)
  stopped_still s (o ∷ os) i x e = go (eqb o.instance i) e (stopped_still s os i x)
    where
      go : (b : Bool) → cond b (Some None) (reply_to stopped (s, true) os i) ≡ Some (Some x) → (reply_to stopped (s, true) os i ≡ Some (Some x) → ⊥) → ⊥
      go true e rec = absurd (cc)
      go false e rec = rec e

  -- who is answered a state has stopped the machine there
  reported_back : (s : S) (os : List Operation) (i : ℕ) (x : S) → reply_to stopped (running s) os i ≡ Some (Some x) → (has_seal os ≡ true) × (x ≡ after_operations M s (up_to_seal os))
  reported_back s [] i x e = absurd (cc)
  reported_back s (o ∷ os) i x e = go (eqb o.instance i) (is_seal o.command) e (reported_back (M.after s o) os i x)
    where
      go : (b t : Bool) → cond b (Some (cond t (Some (M.after s o)) None)) (reply_to stopped (M.after s o, t) os i) ≡ Some (Some x) →
          (reply_to stopped (running (M.after s o)) os i ≡ Some (Some x) → (has_seal os ≡ true) × (x ≡ after_operations M (M.after s o) (up_to_seal os))) →
          ((t || has_seal os) ≡ true) × (x ≡ after_operations M (M.after s o) (cond t [] (up_to_seal os)))
      go true true e rec = (refl, (let same : x ≡ M.after s o = cc in same))
      go true false e rec = absurd (cc)
      go false true e rec = absurd (stopped_still (M.after s o) os i x e)
      go false false e rec = rec e

pub runs_close_machines_lem : (S R : Type 0) → RunsCloseMachines S R
runs_close_machines_lem S R M start base f some few acts run r sealed =
    let own : List Operation = executed_at (ends f (opening base) acts) r in
    let cs : ℕ → Command = reported_in base f acts in
    let done : List ℕ = done_after nothing (executions f (opening base) acts) r in
    let is : own ≡ operations_of cs done = handed_then base f some few acts run acts [] (append-nil acts) r in
    let once : Once (instances_of own) =
    subst Once (sym (ap instances_of is ∙ instances_real cs cs done (λ i h. refl))) (once_filter (is_real cs) done ((wells base f some few acts run).each r).once) in
    let z = seal_reported M start own once sealed in
    let x = runs_one_machine_lem (S × Bool) (Option S) (stopped M) (running M start) base f some few acts run r z.0 z.1 in
    let back = reported_back M start (history_of base f acts) z.0.instance (after_operations M start (up_to_seal own)) (x.2 ∙ sym x.1 ∙ z.2) in
    back

pub journals_one_machine_lem : (S R : Type 0) → JournalsOneMachine S R
journals_one_machine_lem S R M start base f journal schedule given r o k =
    let same : executed_at (ends f (opening base) (acts_of schedule)) r ≡ executed_in base f journal r = ap (λ (s : State). operations_of (command_in s.records) s.executed) (state_is base f journal schedule given r) in
    let x = runs_one_machine_lem S R M start base f given.some given.few (acts_of schedule) (is_run base f journal schedule given) r o (subst (λ os. In o os) (sym same) k) in
    (x.0, ap (λ os. reply_to M start os o.instance) (sym same) ∙ x.1, x.2)
