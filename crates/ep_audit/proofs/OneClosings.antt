-- Journals that are accepted have one closing.
use Rattle.std.proofs.Common.{◌≡◌, ℕ, Bool, true, false, cond, ◌||◌, inl, inr, Option, Some, None, List, [], ◌∷◌, ◌++◌, map, refl, sym, ap, ap₂, subst, ◌∙◌, arith}
use Rattle.std.proofs.lemmas.Bool.{false≢true, cases_Bool}
use Rattle.std.specs.Option.{option_map}
use Rattle.ep_base.specs.Commands.{Command, Seal}
use Rattle.ep_base.specs.Interference.{is_seal}
use Rattle.ep_base.specs.Places.{Has}
use Rattle.ep_rules.specs.Chains.{Closing as Closes, store_left, history_from}
use Rattle.ep_rules.specs.Closing.{has_seal, up_to_seal, first_seal, written_by}
use Rattle.ep_rules.specs.Journals.{Entry, left, Journals, Scheduled, acts_of}
use Rattle.ep_rules.specs.Merging.{Merges}
use Rattle.ep_rules.specs.OneMap.{Contents, Store, opened, is_closed, sealed_by, written, after_all, after_commands}
use Rattle.ep_rules.specs.Operations.{Operation, instances_of, commands_of}
use Rattle.ep_rules.specs.States.{State, fresh_state}
use Rattle.ep_rules.specs.Steps.{order_of, leaves}
use Rattle.ep_rules.specs.History.{nothing, done_after}
use Rattle.ep_rules.specs.Verdicts.{command_at}
use Rattle.ep_rules.specs.Worlds.{World, In, Act, IsRun, ends, opening}
use Rattle.ep_rules.proofs.ChainsExplained.{same_history, closes_left, reported_same}
use Rattle.ep_rules.proofs.Closings.{is_history, seal_closes_lem, store_is}
use Rattle.ep_rules.proofs.Commuting.{map_of, seal_value}
use Rattle.ep_rules.proofs.JournalsCommitted.{is_run, state_is}
use Rattle.ep_rules.proofs.JournalsExecutions.{executions, done_is}
use Rattle.ep_rules.proofs.Places.{has_cons, has_left, has_right}
use Rattle.ep_rules.proofs.RunCommits.{reported_in}
use Rattle.ep_rules.proofs.RunHistories.{AreOf, command_is}
use Rattle.ep_rules.proofs.Sealing.{closed_stays, not_seal, sealed_here, stays_open}
use Rattle.ep_audit.specs.declared.closing.Closing.{Closing}
use Rattle.ep_audit.specs.declared.happening.Happening.{Happening}
use Rattle.ep_audit.specs.Closings.{operations_in, IsExecuted, IsFirstSeal, IsClosing}
use Rattle.ep_audit.specs.Verdicts.{commands_in, instances_in, left_by, IsSummary}
use Rattle.ep_audit.specs.declared.summary.Summary.{Summary}
use Rattle.ep_audit.specs.Audited.{IsOneClosing}

-- The first seal.

pub record IsLastOf (h : List Operation) (o : Operation) : Type 0 where
  pub stands : In o h
  pub seals : is_seal o.command ≡ true
  pub first : first_seal h ≡ sealed_by o.command

nothing_up_to : (h : List Operation) → has_seal h ≡ true → up_to_seal h ≡ [] → ⊥
nothing_up_to [] s e = false≢true s
nothing_up_to (o ∷ h) s e = cc

not_empty : (bs : List Operation) (o : Operation) → [] ≡ bs ++ (o ∷ []) → ⊥
not_empty [] o e = cc
not_empty (b ∷ bs) o e = cc

-- the last of those up to the first seal is that seal
pub last_of : (h before : List Operation) (o : Operation) → has_seal h ≡ true → up_to_seal h ≡ before ++ (o ∷ []) → IsLastOf h o
last_of [] before o s e = absurd (false≢true s)
last_of (x ∷ h) before o s e = go (is_seal x.command) refl s before e (λ b. last_of h b o)
  where
    go : (t : Bool) → is_seal x.command ≡ t → (t || has_seal h) ≡ true → (before : List Operation) → (x ∷ cond (is_seal x.command) [] (up_to_seal h)) ≡ before ++ (o ∷ []) →
        ((b : List Operation) → has_seal h ≡ true → up_to_seal h ≡ b ++ (o ∷ []) → IsLastOf h o) → IsLastOf (x ∷ h) o
    go true is s [] e rec =
        let same : x ≡ o = cc in
        subst (λ (z : Operation). IsLastOf (x ∷ h) z) same (record { stands = inl refl; seals = is; first = ap (λ b. cond b (sealed_by x.command) (first_seal h)) is })
    go true is s (b ∷ bs) e rec =
        let one : x ∷ [] ≡ b ∷ (bs ++ (o ∷ [])) = sym (ap (λ t. x ∷ cond t [] (up_to_seal h)) is) ∙ e in
        let none : [] ≡ bs ++ (o ∷ []) = cc in
        absurd (not_empty bs o none)
    go false is s [] e rec =
        let one : x ∷ up_to_seal h ≡ o ∷ [] = sym (ap (λ t. x ∷ cond t [] (up_to_seal h)) is) ∙ e in
        let none : up_to_seal h ≡ [] = cc in
        absurd (nothing_up_to h s none)
    go false is s (b ∷ bs) e rec =
        let one : x ∷ up_to_seal h ≡ b ∷ (bs ++ (o ∷ [])) = sym (ap (λ t. x ∷ cond t [] (up_to_seal h)) is) ∙ e in
        let rest : up_to_seal h ≡ bs ++ (o ∷ []) = cc in
        let r = rec bs s rest in
        record { stands = inr r.stands; seals = r.seals; first = ap (λ t. cond t (sealed_by x.command) (first_seal h)) is ∙ r.first }

-- The operations of the lines.

pub operations_are : (c : ℕ → Command) (lines : List Happening) (h : List Operation) → instances_in lines ≡ instances_of h → commands_in lines ≡ map c (instances_in lines) → AreOf c h → operations_in lines ≡ h
operations_are c [] [] e f g = refl
operations_are c [] (o ∷ h) e f g = absurd (cc)
operations_are c (x ∷ lines) [] e f g = absurd (cc)
operations_are c (x ∷ lines) (o ∷ h) e f g =
    let i : x.instance ≡ o.instance = cc in
    let is : instances_in lines ≡ instances_of h = cc in
    let d : x.command ≡ c x.instance = cc in
    let ds : commands_in lines ≡ map c (instances_in lines) = cc in
    let command : x.command ≡ o.command = d ∙ ap c i ∙ sym g.0 in
    let one : ◌≡◌ {A = Operation} (record { instance = x.instance; command = x.command }) o = λ t. record { instance = i t; command = command t } in
    ap₂ (λ (z : Operation) (zs : List Operation). z ∷ zs) one (operations_are c lines h is ds g.1)

pub commands_are_of : (lines : List Happening) → commands_in lines ≡ commands_of (operations_in lines)
commands_are_of [] = refl
commands_are_of (x ∷ lines) = ap (λ cs. x.command ∷ cs) (commands_are_of lines)

-- Who has executed a seal.

-- a seal among what is executed closes the map
closed_by : (c : ℕ → Command) (m : Contents) (xs : List ℕ) (i : ℕ) → Has xs i → is_seal (c i) ≡ true → is_closed (after_all c (opened m) xs) ≡ true
closed_by c m [] i h e = absurd (omega arith)
closed_by c m (x ∷ xs) i h e = elim (cases_Bool (is_seal (c x))) [
  | inl s ↦ (let v = seal_value (c x) s in ap is_closed (ap (λ t. after_all c t xs) (sealed_here m (c x) v.0 v.1) ∙ closed_stays c m v.0 xs))
  | inr n ↦ (elim (has_cons x i xs h) [
    | inl is ↦ absurd (false≢true (sym n ∙ ap (λ k. is_seal (c k)) is ∙ e))
    | inr t ↦ subst (λ s. is_closed (after_all c s xs) ≡ true) (sym (stays_open m (c x) (not_seal (c x) n))) (closed_by c (written m (c x)) xs i t e)
  ])
]

-- what is executed stays executed
kept : (f me : ℕ) (s : State) (es : List Entry) (i : ℕ) → Has s.executed i → Has (left f me s es).executed i
kept f me s [] i h = h
kept f me s (e ∷ es) i h = kept f me (leaves f me s e.event e.done) es i (has_left s.executed (order_of e.done) i h)

executed_by : (f me : ℕ) (s : State) (es : List Entry) (e : Entry) (i : ℕ) → In e es → Has (order_of e.done) i → Has (left f me s es).executed i
executed_by f me s [] e i k h = absurd k
executed_by f me s (x ∷ es) e i (inl is) h =
    kept f me (leaves f me s x.event x.done) es i (has_right s.executed (order_of x.done) i (subst (λ (z : Entry). Has (order_of z.done) i) (sym is) h))
executed_by f me s (x ∷ es) e i (inr k) h = executed_by f me (leaves f me s x.event x.done) es e i k h

module _ (m : Contents) (f : ℕ) (journal : Journals) (schedule : List Scheduled) (given : Merges (opened m) f journal schedule) where
  abbrev acts : List Act
  acts = acts_of schedule

  abbrev w : World
  w = ends f (opening (opened m)) acts

  run : IsRun f (opening (opened m)) acts
  run = is_run (opened m) f journal schedule given

  reported_all : reported_in (opened m) f acts ≡ command_at (opened m) f journal
  reported_all = λ t i. reported_same m f journal schedule given i t

  pub are_of : AreOf (command_at (opened m) f journal) (history_from m f schedule)
  are_of = subst (λ (c : ℕ → Command). AreOf c (history_from m f schedule)) reported_all (is_history (opened m) f given.some given.few acts run).commands

  -- whose journal executes a seal leaves a closed map
  closed_left : (r : ℕ) (e : Entry) (i : ℕ) → In e (journal r) → Has (order_of e.done) i → is_seal (command_at (opened m) f journal i) ≡ true → is_closed (store_left m f journal r) ≡ true
  closed_left r e i k h seals =
      let own : List ℕ = done_after nothing (executions f (opening (opened m)) acts) r in
      let state : (w.states r) ≡ left f r (fresh_state (opened m)) (journal r) = state_is (opened m) f journal schedule given r in
      let here : own ≡ (left f r (fresh_state (opened m)) (journal r)).executed = done_is f acts (opening (opened m)) nothing run (λ q. refl) r ∙ ap (λ (s : State). s.executed) state in
      let has : Has own i = subst (λ xs. Has xs i) (sym here) (executed_by f r (fresh_state (opened m)) (journal r) e i k h) in
      let shut : is_closed (after_all (reported_in (opened m) f acts) (opened m) own) ≡ true = closed_by (reported_in (opened m) f acts) m own i has (ap is_seal (reported_same m f journal schedule given i) ∙ seals) in
      subst (λ s. is_closed s ≡ true) (sym (store_is (opened m) f given.some given.few acts run r) ∙ ap (λ (s : State). s.store) state) shut

  module _ (v : Summary) (same : operations_in v.history.items ≡ history_from m f schedule) (closing : IsClosing journal (operations_in v.history.items) v.closing) where
    abbrev h : List Operation
    h = history_from m f schedule

    seal_reported : has_seal h ≡ true → first_seal h ≡ option_map (λ (c : Closing). c.value) v.closing
    seal_reported s = go v.closing refl (subst (λ (os : List Operation). IsClosing journal os v.closing) same closing)
      where
        go : (o : Option Closing) → v.closing ≡ o → IsClosing journal h v.closing → first_seal h ≡ option_map (λ (c : Closing). c.value) v.closing
        go None is k = absurd (false≢true (sym (subst (IsClosing journal h) is k) ∙ s))
        go (Some c) is k =
            let t : IsFirstSeal journal h c = subst (IsClosing journal h) is k in
            (last_of h t.before _ t.seals t.last).first ∙ ap (λ o. option_map (λ (c : Closing). c.value) o) (sym is)

    pub left_is : (r : ℕ) → is_closed (store_left m f journal r) ≡ true → store_left m f journal r ≡ record { contents = left_by (opened m) v.history.items; seal = option_map (λ (c : Closing). c.value) v.closing }
    left_is r shut =
        let t = closes_left m f journal schedule given r shut in
        let after : after_commands (opened m) (commands_of h) ≡ map_of (written_by m (up_to_seal h)) (first_seal h) = seal_closes_lem m h t.0 in
        let reported : left_by (opened m) v.history.items ≡ written_by m (up_to_seal h) =
        ap (λ cs. (after_commands (opened m) cs).contents) (commands_are_of v.history.items ∙ ap commands_of same) ∙ ap (λ (s : Store). s.contents) after
        in
        t.1 ∙ ap₂ (λ (n : Contents) (o : Option (List ℕ)). map_of n o) (sym reported) (seal_reported t.0)

    somebody : (c : Closing) → v.closing ≡ Some c → (r : ℕ) × (store_left m f journal r ≡ record { contents = left_by (opened m) v.history.items; seal = Some c.value })
    somebody c is =
        let t : IsFirstSeal journal h c = subst (λ (o : Option Closing). IsClosing journal h o) is (subst (λ (os : List Operation). IsClosing journal os v.closing) same closing) in
        let l = last_of h t.before _ t.seals t.last in
        let x : IsExecuted journal c.instance = t.stamp.executed in
        let command : command_at (opened m) f journal c.instance ≡ Seal c.value = sym (command_is (command_at (opened m) f journal) h _ are_of l.stands) in
        let shut = closed_left x.replica x.entry c.instance x.stands x.executes (ap is_seal command) in
        (x.replica, left_is x.replica shut ∙ ap (λ o. map_of (left_by (opened m) v.history.items) (option_map (λ (c : Closing). c.value) o)) is)

    pub one_closing : IsOneClosing m f journal v
    one_closing = record { left = left_is; somebody = somebody }

-- the verdict's operations are those of the run
pub same_operations : (m : Contents) (f : ℕ) (journal : Journals) (v : Summary) (is : IsSummary (opened m) f journal v) → Merges (opened m) f journal is.order → operations_in v.history.items ≡ history_from m f is.order
same_operations m f journal v is given =
    operations_are (command_at (opened m) f journal) v.history.items (history_from m f is.order) (is.history.instances ∙ sym (same_history m f journal is.order given)) is.history.commands (are_of m f journal is.order given)

pub closing_of_summary : (base : Store) (f : ℕ) (journal : Journals) (v : Summary) (is : IsSummary base f journal v) → Merges base f journal is.order → (m : Contents) → base ≡ opened m → IsOneClosing m f journal v
closing_of_summary base f journal v is given m e =
    go m (subst (λ b. (k : IsSummary b f journal v) × Merges b f journal k.order) e (is, given))
  where
    go : (m : Contents) → ((k : IsSummary (opened m) f journal v) × Merges (opened m) f journal k.order) → IsOneClosing m f journal v
    go m p = one_closing m f journal p.0.order p.1 v (same_operations m f journal v p.0 p.1) p.0.closing

-- the verdict's seal is executed, by an entry of its stamp
pub record IsThere (m : Contents) (f : ℕ) (journal : Journals) (c : Closing) : Type 0 where
  pub closes : Closes m f journal (λ r. [])
  pub stamp : closes.entry.stamp ≡ c.stamp

pub seal_there : (m : Contents) (f : ℕ) (journal : Journals) (v : Summary) (is : IsSummary (opened m) f journal v) → Merges (opened m) f journal is.order → (c : Closing) → v.closing ≡ Some c → IsThere m f journal c
seal_there m f journal v is given c closed =
    let h : List Operation = history_from m f is.order in
    let same = same_operations m f journal v is given in
    let t : IsFirstSeal journal h c = subst (λ (o : Option Closing). IsClosing journal h o) closed (subst (λ (os : List Operation). IsClosing journal os v.closing) same is.closing) in
    let l = last_of h t.before _ t.seals t.last in
    let x : IsExecuted journal c.instance = t.stamp.executed in
    let command : command_at (opened m) f journal c.instance ≡ Seal c.value = sym (command_is (command_at (opened m) f journal) h _ (are_of m f journal is.order given) l.stands) in
    record {
      closes = record {
        replica = x.replica;
        entry = x.entry;
        stands = x.stands;
        instance = c.instance;
        executes = x.executes;
        seals = ap is_seal command;
        below = λ q e k. absurd k;
      };
      stamp = t.stamp.is;
    }
