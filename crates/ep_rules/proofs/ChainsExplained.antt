-- Chains of journals: one history through all generations.
use Rattle.std.proofs.Common.{◌≡◌, ℕ, zero, suc, ◌+◌, ◌-◌, ◌<◌, ◌≤◌, Bool, true, false, inl, inr, List, [], ◌∷◌, refl, sym, ap, subst, ◌∙◌, arith}
use Rattle.std.proofs.lemmas.Bool.{false≢true, cases_order}
use Rattle.std.specs.List.{filter}
use Rattle.ep_base.specs.Interference.{is_seal}
use Rattle.ep_base.specs.Places.{place, Has}
use Rattle.ep_base.specs.Quorums.{size}
use Rattle.ep_base.specs.Sameness.{is_noop}
use Rattle.ep_base.specs.Commands.{Command}
use Rattle.ep_base.specs.declared.reply.Answer.{Answer}
use Rattle.ep_rules.specs.Chains.{store_left, history_from, SameHistory, JournalsClose, IsChain, histories, Explains, ChainsExplain, ClocksGoOn, ChainsKeepCallers}
use Rattle.ep_rules.specs.Closing.{has_seal, up_to_seal, first_seal, written_by}
use Rattle.ep_rules.specs.Generations.{joined, place_in, HasIn, IsLegalIn}
use Rattle.ep_rules.specs.History.{merged}
use Rattle.ep_rules.specs.Journals.{Entry, Journals, Scheduled, act_of, acts_of}
use Rattle.ep_rules.specs.Linearizable.{IsLinearizable}
use Rattle.ep_rules.specs.Merging.{Merges}
use Rattle.ep_rules.specs.OneMap.{Contents, opened, is_closed}
use Rattle.ep_rules.specs.Operations.{Operation, instances_of, history_of}
use Rattle.ep_rules.specs.States.{State, committed_in, command_of}
use Rattle.ep_rules.specs.Steps.{order_of}
use Rattle.ep_rules.specs.Verdicts as verdicts
use Rattle.ep_rules.specs.Verdicts.{agreed_below, command_at, or_else, Agrees}
use Rattle.ep_rules.specs.Worlds.{World, opening, In, Act, IsRun, ends}
use Rattle.ep_rules.specs.declared.receipt.Receipt.{Receipt}
use Rattle.ep_rules.proofs.Closings.{runs_close_lem}
use Rattle.ep_rules.proofs.CutHistories.{real_history, cut_in, before_seals}
use Rattle.ep_rules.proofs.JoinedHistories.{J_back, ages_apart, once_J, legal_in}
use Rattle.ep_rules.proofs.JournalsCallers.{in_has, entry_before}
use Rattle.ep_rules.proofs.JournalsCommitted.{is_run, state_is}
use Rattle.ep_rules.proofs.JournalsExecutions.{executions}
use Rattle.ep_rules.proofs.JournalsReplies.{merged_same, each_reply_lem}
use Rattle.ep_rules.proofs.Merged.{of_in}
use Rattle.ep_rules.proofs.OnceDone.{from_once}
use Rattle.ep_rules.proofs.Places.{Once, has_cons}
use Rattle.ep_rules.proofs.RunCommits.{committed_below, decrees, reported_in, all_known}
use Rattle.ep_rules.proofs.RunHistories.{command_is, instance_in, IsHistory, history_is}
use Rattle.ep_rules.proofs.RunsLinear.{has_in, linearizability_holds}
use Rattle.ep_rules.proofs.Sealing.{noop_is}
use Rattle.ep_rules.proofs.Answered.{is_real}

pub in_acts_of : (a : Scheduled) (schedule : List Scheduled) → In a schedule → In (act_of a) (acts_of schedule)
in_acts_of a [] k = absurd k
in_acts_of a (b ∷ schedule) (inl e) = inl (ap act_of e)
in_acts_of a (b ∷ schedule) (inr k) = inr (in_acts_of a schedule k)

pub has_operation : (h : List Operation) (i : ℕ) → Has (instances_of h) i → (o : Operation) × In o h × (o.instance ≡ i)
has_operation [] i k = absurd (omega arith)
has_operation (o ∷ h) i k = elim (has_cons o.instance i (instances_of h) k) [
  | inl e ↦ (o, inl refl, e)
  | inr t ↦ (let r = has_operation h i t in (r.0, inr r.1, r.2))
]

pub seal_real : (c : Command) → is_seal c ≡ true → is_noop c ≡ false
seal_real c e = go (is_noop c) refl
  where
    go : (b : Bool) → is_noop c ≡ b → b ≡ false
    go true n = absurd (false≢true (sym (ap is_seal (noop_is c n)) ∙ e))
    go false n = refl

module _ (m : Contents) (f : ℕ) (journal : Journals) (schedule : List Scheduled) (given : Merges (opened m) f journal schedule) where
  abbrev acts : List Act
  acts = acts_of schedule

  abbrev w : World
  w = ends f (opening (opened m)) acts

  run : IsRun f (opening (opened m)) acts
  run = is_run (opened m) f journal schedule given

  decrees_below : (n i : ℕ) → committed_below n w i ≡ agreed_below (opened m) n f journal i
  decrees_below zero i = refl
  decrees_below (suc n) i =
      ap (λ o. or_else o (committed_in (w.states n).records i)) (decrees_below n i)
      ∙ ap (λ (s : State). or_else (agreed_below (opened m) n f journal i) (committed_in s.records i)) (state_is (opened m) f journal schedule given n)

  pub reported_same : (i : ℕ) → reported_in (opened m) f acts i ≡ command_at (opened m) f journal i
  reported_same i = ap command_of (decrees_below (size f) i)

  is_history : IsHistory (opened m) f (decrees (opened m) f acts) (history_of (opened m) f acts) (merged [] (executions f (opening (opened m)) acts))
  is_history = history_is (opened m) f (decrees (opened m) f acts) acts (opening (opened m)) [] [] run (all_known (opened m) f given.some given.few acts run) (record { instances = refl; commands = tt })

  pub same_history : instances_of (history_from m f schedule) ≡ verdicts.history_of (command_at (opened m) f journal) schedule
  same_history =
      is_history.instances
      ∙ ap (λ (c : ℕ → Command). filter (is_real c) (merged [] (executions f (opening (opened m)) acts))) (λ t. λ i. reported_same i t)
      ∙ ap (λ is. filter (is_real (command_at (opened m) f journal)) is) (merged_same f schedule (opening (opened m)) [] run)

  pub closes_left : (r : ℕ) → is_closed (store_left m f journal r) ≡ true →
      (has_seal (history_from m f schedule) ≡ true) × (store_left m f journal r ≡ record { contents = written_by m (up_to_seal (history_from m f schedule)); seal = first_seal (history_from m f schedule) })
  closes_left r h =
      let e = state_is (opened m) f journal schedule given r in
      let t = runs_close_lem m f given.some given.few acts run r (subst (λ (s : State). is_closed s.store ≡ true) (sym e) h) in
      (t.0, sym (ap (λ (s : State). s.store) e) ∙ t.1)

  pub lin : IsLinearizable (opened m) f acts
  lin = linearizability_holds (opened m) f given.some given.few acts run

  -- the operation of an executed seal
  pub seal_in : (r : ℕ) (e : Entry) (i : ℕ) → In e (journal r) → Has (order_of e.done) i → is_seal (command_at (opened m) f journal i) ≡ true →
      (s : Operation) × In s (history_from m f schedule) × (s.instance ≡ i) × (is_seal s.command ≡ true)
  seal_in r e i stands k seals =
      let b = of_in r e schedule (subst (λ es. In e es) (sym (given.scheduled.0 r)) stands) in
      let x = has_in e.done i k in
      let has : Has (verdicts.history_of (command_at (opened m) f journal) schedule) i = elim (each_reply_lem (opened m) f journal schedule given b.0 i x.0 b.1 (subst (λ (d : Entry). In (i, x.0) d.done) (sym b.3) x.1)) [
        | inl lost ↦ absurd (false≢true (sym (seal_real (command_at (opened m) f journal i) seals) ∙ lost.0))
        | inr reported ↦ reported.0
      ] in
      let s = has_operation (history_from m f schedule) i (subst (λ is. Has is i) (sym same_history) has) in
      let c : s.0.command ≡ command_at (opened m) f journal i = command_is (reported_in (opened m) f acts) (history_of (opened m) f acts) s.0 is_history.commands s.1 ∙ reported_same s.0.instance ∙ ap (command_at (opened m) f journal) s.2 in
      (s.0, s.1, s.2, ap is_seal c ∙ seals)

pub same_history_lem : SameHistory
same_history_lem m f journal schedule given = same_history m f journal schedule given

pub journals_close_lem : JournalsClose
journals_close_lem m f journal schedule given r h = closes_left m f journal schedule given r h

module _ (n : ℕ) (f : ℕ → ℕ) (maps : ℕ → Contents) (journal : ℕ → Journals) (schedule : ℕ → List Scheduled) (chain : IsChain n f maps journal schedule) where
  abbrev h_of : ℕ → List Operation
  h_of = histories f maps schedule

  next : (g : ℕ) → suc g < n → maps (suc g) ≡ written_by (maps g) (up_to_seal (h_of g))
  next g lt =
      let c = chain.closes g lt in
      let t = closes_left (maps g) (f g) (journal g) (schedule g) (chain.merges g (omega arith)) c.0 (ap is_closed c.2) in
      ap (λ s. s.contents) (sym c.2 ∙ t.1)

  legal : (g : ℕ) (a : Scheduled) (i : ℕ) (x : Answer) → g < n → In a (schedule g) → In (i, x) a.entry.done → IsLegalIn (maps 0) (joined h_of n) g i x
  legal g a i x lt m k =
      legal_in h_of maps (maps 0) refl n g i x next lt (real_history (f g) (opening (opened (maps g))) [] (acts_of (schedule g)) tt)
      ((lin (maps g) (f g) (journal g) (schedule g) (chain.merges g lt)).legal (act_of a) i x (in_acts_of a (schedule g) m) k)

  -- instances of no generation beyond the chain are looked at
  once_of : (g : ℕ) → g < n → Once (instances_of (h_of g))
  once_of g lt = from_once (instances_of (h_of g)) (lin (maps g) (f g) (journal g) (schedule g) (chain.merges g lt)).once

  explains : Explains n f maps schedule
  explains = record { once = once_J h_of n once_of; legal = legal }

  -- Callers.

  module _ (clocks : ClocksGoOn n f maps journal) where
    -- the stamps of later generations are above that of a closing entry
    above : (k d g : ℕ) → g ≡ suc (d + k) → g < n → (lt : suc k < n) → (q : ℕ) (e : Entry) → In e (journal g q) → (clocks k lt).entry.stamp < e.stamp
    above k zero g is less lt q e m =
        let here : g ≡ suc k = omega arith in
        (clocks k lt).below q e (subst (λ z. In e (journal z q)) here m)
    above k (suc d) g is less lt q e m =
        let here : g ≡ suc (suc (d + k)) = omega arith in
        let up : suc (suc (d + k)) < n = omega arith in
        let c = clocks (suc (d + k)) up in
        let one = c.below q e (subst (λ z. In e (journal z q)) here m) in
        let rest = above k d (suc (d + k)) refl (omega arith) lt c.replica c.entry c.stands in
        omega arith

    in_age : (g : ℕ) → g < n → (u t : Receipt) → Agrees (opened (maps g)) (f g) (journal g) u → Agrees (opened (maps g)) (f g) (journal g) t → u.stamp ≤ t.seen →
        HasIn (joined h_of n) g u.instance → HasIn (joined h_of n) g t.instance → place_in (joined h_of n) g u.instance < place_in (joined h_of n) g t.instance
    in_age g lt u t hu ht le iu it =
        let a = J_back h_of n g u.instance iu in
        let b = J_back h_of n g t.instance it in
        let x = cut_in (h_of g) u.instance a.1 in
        let y = cut_in (h_of g) t.instance b.1 in
        let given = chain.merges g lt in
        let same = same_history (maps g) (f g) (journal g) (schedule g) given in
        let e = hu.known.executed in
        let less = (let s = e.is_stamp in let l = ht.later in entry_before (opened (maps g)) (f g) (journal g) (schedule g) given t ht u.replica e.entry e.stands (omega arith) u.instance (in_has e.entry.done u.instance u.answer e.done)
        (subst (λ is. Has is t.instance) same y.0) (subst (λ is. Has is u.instance) same x.0)) in
        let back : place (instances_of (h_of g)) u.instance < place (instances_of (h_of g)) t.instance = subst (λ is. place is u.instance < place is t.instance) (sym same) less in
        let p = a.2 in
        let q = b.2 in
        let xs = x.1 in
        let ys = y.1 in
        omega arith

    too_late : (g k : ℕ) → k < g → g < n → (u t : Receipt) → Agrees (opened (maps g)) (f g) (journal g) u → Agrees (opened (maps k)) (f k) (journal k) t → u.stamp ≤ t.seen → HasIn (joined h_of n) k t.instance → ⊥
    too_late g k lt less u t hu ht le it =
        let up : suc k < n = omega arith in
        let in_k : k < n = omega arith in
        let c = clocks k up in
        let d : ℕ = g - suc k in
        let is : g ≡ suc (d + k) = omega arith in
        let e = hu.known.executed in
        let stamp = above k d g is less up u.replica e.entry e.stands in
        let given = chain.merges k in_k in
        let same = same_history (maps k) (f k) (journal k) (schedule k) given in
        let s = seal_in (maps k) (f k) (journal k) (schedule k) given c.replica c.entry c.instance c.stands c.executes c.seals in
        let b = J_back h_of n k t.instance it in
        let y = cut_in (h_of k) t.instance b.1 in
        let hs : Has (instances_of (h_of k)) c.instance = subst (λ i. Has (instances_of (h_of k)) i) s.2 (instance_in (h_of k) s.0 s.1) in
        let before = (let q = e.is_stamp in let l = ht.later in entry_before (opened (maps k)) (f k) (journal k) (schedule k) given t ht c.replica c.entry c.stands (omega arith) c.instance c.executes
        (subst (λ is. Has is t.instance) same y.0) (subst (λ is. Has is c.instance) same hs)) in
        let back : place (instances_of (h_of k)) c.instance < place (instances_of (h_of k)) t.instance = subst (λ is. place is c.instance < place is t.instance) (sym same) before in
        let le' = before_seals (h_of k) s.0 t.instance (once_of k in_k) s.1 s.3 b.1 in
        let at : place (instances_of (h_of k)) s.0.instance ≡ place (instances_of (h_of k)) c.instance = ap (place (instances_of (h_of k))) s.2 in
        omega arith

    callers : (g k : ℕ) → g < n → k < n → (u t : Receipt) → Agrees (opened (maps g)) (f g) (journal g) u → Agrees (opened (maps k)) (f k) (journal k) t → u.stamp ≤ t.seen →
        HasIn (joined h_of n) g u.instance → HasIn (joined h_of n) k t.instance → place_in (joined h_of n) g u.instance < place_in (joined h_of n) k t.instance
    callers g k lg lk u t hu ht le iu it = elim (cases_order g k) [
      | inl is ↦ subst (λ z. place_in (joined h_of n) g u.instance < place_in (joined h_of n) z t.instance) is
          (in_age g lg u t hu (subst (λ z. Agrees (opened (maps z)) (f z) (journal z) t) (sym is) ht) le iu (subst (λ z. HasIn (joined h_of n) z t.instance) (sym is) it))
      | inr (inl lt) ↦ ages_apart h_of n g u.instance k t.instance iu it lt
      | inr (inr gt) ↦ absurd (too_late g k gt lg u t hu ht le it)
    ]

pub chains_explain_lem : ChainsExplain
chains_explain_lem n f maps journal schedule chain = explains n f maps journal schedule chain

pub chains_keep_callers_lem : ChainsKeepCallers
chains_keep_callers_lem n f maps journal schedule chain clocks g k lg lk u t hu ht le iu it = callers n f maps journal schedule chain clocks g k lg lk u t hu ht le iu it
