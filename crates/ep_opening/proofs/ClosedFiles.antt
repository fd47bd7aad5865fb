-- Journals of one generation that are closed: an entry of each executed a seal, and they are closed alike.
use Rattle.std.proofs.Common.{◌≡◌, ℕ, suc, ◌≤◌, ◌⊎◌, Bool, true, false, cond, ◌||◌, inl, inr, List, [], ◌∷◌, refl, sym, ap, subst, ◌∙◌, arith}
use Rattle.std.proofs.lemmas.Bool.{false≢true}
use Rattle.ep_base.specs.Commands.{Command}
use Rattle.ep_base.specs.Interference.{is_seal}
use Rattle.ep_base.specs.Places.{Has}
use Rattle.ep_base.specs.Sameness.{is_noop}
use Rattle.ep_base.specs.Versions.{generation_of}
use Rattle.ep_base.specs.declared.reply.Answer.{Answer}
use Rattle.ep_base.specs.declared.reply.Answer.TheVariants.{Replied}
use Rattle.ep_base.specs.declared.reply.Reply.{Reply}
use Rattle.ep_base.proofs.Members.{same_members}
use Rattle.ep_journal.specs.Entries.{Log, entries_of}
use Rattle.ep_opening.specs.Closing.{store_of, WasAnswered}
use Rattle.ep_opening.specs.Closings.{ClosingIsOne, ClosingsAgree, ClosingsGoOn, GoesOn, IsOneOf}
use Rattle.ep_opening.specs.Files.{File}
use Rattle.ep_rules.specs.Chains.{store_left, history_from}
use Rattle.ep_rules.specs.Closing.{has_seal, up_to_seal, HasClosed}
use Rattle.ep_rules.specs.Journals.{Entry, left, stamp_after, Journals, Scheduled, act_of, acts_of}
use Rattle.ep_rules.specs.Merging.{Merges}
use Rattle.ep_rules.specs.OneMap.{Contents, Store, opened, is_closed}
use Rattle.ep_rules.specs.Operations.{Operation}
use Rattle.ep_rules.specs.States.{State, fresh_state}
use Rattle.ep_rules.specs.Steps.{order_of, leaves}
use Rattle.ep_rules.specs.Verdicts.{command_at, history_of, merged_of, IsReply}
use Rattle.ep_rules.specs.Worlds.{World, opening, In, Act, IsRun, ends}
use Rattle.ep_rules.proofs.AllExecuted.{runs_execute_all_lem}
use Rattle.ep_rules.proofs.ChainsExplained.{closes_left, in_acts_of, reported_same}
use Rattle.ep_rules.proofs.Closings.{is_history}
use Rattle.ep_rules.proofs.CutHistories.{cut_of}
use Rattle.ep_rules.proofs.JournalsCommitted.{is_run, is_run_nil, state_is}
use Rattle.ep_rules.proofs.JournalsReplies.{each_reply_lem}
use Rattle.ep_rules.proofs.Merged.{in_left, of_in}
use Rattle.ep_rules.proofs.Places.{has_filter, has_split}
use Rattle.ep_rules.proofs.RunCommits.{reported_in}
use Rattle.ep_rules.proofs.RunHistories.{command_is}
use Rattle.ep_rules.proofs.RunsLinear.{has_in, reported_lost}
use Rattle.ep_rules.proofs.Settling.{one_settling_lem}
use Rattle.ep_rules.proofs.Sorted.{stamp_reached}
use Rattle.ep_rules.proofs.Answered.{is_real}

-- Stamps.

-- Entries.

-- what is executed was executed by some entry
executed_from : (f me : ℕ) (s : State) (es : List Entry) (i : ℕ) → Has (left f me s es).executed i → Has s.executed i ⊎ ((e : Entry) × In e es × Has (order_of e.done) i)
executed_from f me s [] i h = inl h
executed_from f me s (e ∷ es) i h = elim (executed_from f me (leaves f me s e.event e.done) es i h) [
  | inl old ↦ elim (has_split s.executed (order_of e.done) i old) [ inl a ↦ inl a | inr b ↦ inr (e, inl refl, b) ]
  | inr t ↦ inr (t.0, inr t.1, t.2)
]

-- a seal stands among the operations up to the first one
sealed_cut : (h : List Operation) → has_seal h ≡ true → (s : Operation) × In s (up_to_seal h) × (is_seal s.command ≡ true)
sealed_cut [] e = absurd (false≢true e)
sealed_cut (o ∷ os) e = go (is_seal o.command) refl e (sealed_cut os)
  where
    go : (b : Bool) → is_seal o.command ≡ b → (b || has_seal os) ≡ true → (has_seal os ≡ true → (s : Operation) × In s (up_to_seal os) × (is_seal s.command ≡ true)) →
        (s : Operation) × In s (o ∷ cond b [] (up_to_seal os)) × (is_seal s.command ≡ true)
    go true q h rec = (o, inl refl, q)
    go false q h rec = let r = rec h in (r.0, inr r.1, r.2)

-- Answers.

not_real : {X : Type 0} (c : ℕ → Command) (i : ℕ) → is_noop (c i) ≡ true → is_real c i ≡ true → X
not_real c i noop is = absurd (false≢true (sym (ap (λ (b : Bool). cond b false true) noop) ∙ is))

module _ (m : Contents) (f : ℕ) (journal : Journals) (schedule : List Scheduled) (given : Merges (opened m) f journal schedule) where
  abbrev acts : List Act
  acts = acts_of schedule

  abbrev w : World
  w = ends f (opening (opened m)) acts

  abbrev c : ℕ → Command
  c = command_at (opened m) f journal

  run : IsRun f (opening (opened m)) acts
  run = is_run (opened m) f journal schedule given

  -- what the replica executed stands in its journal
  entry_for : (r i : ℕ) → Has (w.states r).executed i → (e : Entry) × In e (journal r) × Has (order_of e.done) i
  entry_for r i h = elim (executed_from f r (fresh_state (opened m)) (journal r) i (subst (λ (s : State). Has s.executed i) (state_is (opened m) f journal schedule given r) h)) [
    | inl none ↦ absurd (omega (arith, none))
    | inr t ↦ t
  ]

  module _ (r : ℕ) (shut : is_closed (store_left m f journal r) ≡ true) where
    closed_there : HasClosed w r
    closed_there = subst (λ (s : State). is_closed s.store ≡ true) (sym (state_is (opened m) f journal schedule given r)) shut

    sealed : (s : Operation) × In s (up_to_seal (history_from m f schedule)) × (is_seal s.command ≡ true)
    sealed = sealed_cut (history_from m f schedule) (closes_left m f journal schedule given r shut).0

    seal_executed : (e : Entry) × In e (journal r) × Has (order_of e.done) sealed.0.instance
    seal_executed = entry_for r sealed.0.instance (runs_execute_all_lem m f given.some given.few acts run r closed_there sealed.0 sealed.1)

    seal_is : is_seal (c sealed.0.instance) ≡ true
    seal_is =
        ap is_seal (sym (command_is (reported_in (opened m) f acts) (history_from m f schedule) sealed.0 (is_history (opened m) f given.some given.few acts run).commands (cut_of (history_from m f schedule) sealed.0 sealed.1) ∙ reported_same m f journal schedule given sealed.0.instance))
        ∙ sealed.2

    pub goes_on : (x : ℕ) → GoesOn m f journal r (stamp_after x (journal r))
    goes_on x =
        let least : seal_executed.0.stamp ≤ stamp_after x (journal r) = stamp_reached 1 0 x (journal r) seal_executed.0 (given.local.local r).0 seal_executed.1 in
        record {
          entry = seal_executed.0;
          stands = seal_executed.1;
          instance = sealed.0.instance;
          executes = seal_executed.2;
          seals = seal_is;
          reached = least;
          clocks = λ next above. record {
            replica = r;
            entry = seal_executed.0;
            stands = seal_executed.1;
            instance = sealed.0.instance;
            executes = seal_executed.2;
            seals = seal_is;
            below = λ q e k. let more = above q e k in omega (arith, least, more);
          };
        }

    -- what anybody did up to the seal, the replica did
    settled : (q : ℕ) (i : ℕ) → WasAnswered (journal q) i → WasAnswered (journal r) i
    settled q i a =
        let b = of_in q a.0 schedule (subst (λ es. In a.0 es) (sym (given.scheduled.0 q)) a.2) in
        let there : In (i, Replied a.1) b.0.entry.done = subst (λ (e : Entry). In (i, Replied a.1) e.done) (sym b.3) a.3 in
        let has = one_settling_lem m f given.some given.few acts [] (is_run_nil (opened m) f journal schedule given) r closed_there (act_of b.0) i a.1 (in_left (act_of b.0) acts [] (in_acts_of b.0 schedule b.1)) there a.4 in
        let own = entry_for r i has in
        let x = has_in own.0.done i own.2 in
        let d = of_in r own.0 schedule (subst (λ es. In own.0 es) (sym (given.scheduled.0 r)) own.1) in
        let here : In (i, x.0) d.0.entry.done = subst (λ (e : Entry). In (i, x.0) e.done) (sym d.3) x.1 in
        let same : x.0 ≡ Replied a.1 = one_answer i a.1 x.0 (each_reply_lem (opened m) f journal schedule given b.0 i (Replied a.1) b.1 there) (each_reply_lem (opened m) f journal schedule given d.0 i x.0 d.1 here) in
        (own.0, a.1, own.1, subst (λ (y : Answer). In (i, y) own.0.done) same x.1, a.4)
      where
        one_answer : (i : ℕ) (reported : Reply) (x : Answer) → IsReply (opened m) c (history_of c schedule) i (Replied reported) → IsReply (opened m) c (history_of c schedule) i x → x ≡ Replied reported
        one_answer i reported x (inl lost) other = reported_lost reported lost.1
        one_answer i reported x (inr p) (inl lost) = not_real c i lost.0 (has_filter (is_real c) (merged_of [] schedule) i p.0).1
        one_answer i reported x (inr p) (inr k) = k.1 ∙ sym p.1

-- The journal among the others.

store_is : (m : Contents) (f : ℕ) (journal : Journals) (j : Log) → IsOneOf m f journal j → store_of j ≡ store_left m f journal j.me
store_is m f journal j one =
    let faults = one.faults in
    let contents = one.contents in
    let entries = one.entries in
    λ t. (left (faults t) j.me (fresh_state (opened (contents t))) (entries t)).store

shut_is : (m : Contents) (f : ℕ) (journal : Journals) (j : Log) → IsOneOf m f journal j → is_closed (store_of j) ≡ true → is_closed (store_left m f journal j.me) ≡ true
shut_is m f journal j one closed = subst (λ (s : Store). is_closed s ≡ true) (store_is m f journal j one) closed

pub closings_go_on_lem : ClosingsGoOn
closings_go_on_lem m f journal schedule given j next file one is =
    subst (GoesOn m f journal j.me) (sym (is.base_stamp ∙ ap (stamp_after j.opening.base_stamp) one.entries))
    (goes_on m f journal schedule given j.me (shut_is m f journal j one is.closed) j.opening.base_stamp)

-- what the one journal did, the other did
done_alike : (m : Contents) (f : ℕ) (journal : Journals) (schedule : List Scheduled) → Merges (opened m) f journal schedule → (j k : Log) → IsOneOf m f journal j → IsOneOf m f journal k → is_closed (store_of k) ≡ true → (i : ℕ) →
    WasAnswered (entries_of j.entries) i → WasAnswered (entries_of k.entries) i
done_alike m f journal schedule given j k one other closed i a =
    subst (λ es. WasAnswered es i) (sym other.entries) (settled m f journal schedule given k.me (shut_is m f journal k other closed) j.me i (subst (λ es. WasAnswered es i) one.entries a))

stores_alike : (m : Contents) (f : ℕ) (journal : Journals) (schedule : List Scheduled) → Merges (opened m) f journal schedule → (j k : Log) → IsOneOf m f journal j → IsOneOf m f journal k → is_closed (store_of j) ≡ true → is_closed (store_of k) ≡ true →
    store_of j ≡ store_of k
stores_alike m f journal schedule given j k one other closed shut =
    store_is m f journal j one
    ∙ (closes_left m f journal schedule given j.me (shut_is m f journal j one closed)).1
    ∙ sym (closes_left m f journal schedule given k.me (shut_is m f journal k other shut)).1
    ∙ sym (store_is m f journal k other)

-- files of one store
same_but_since : (x y : File) → y.faults ≡ x.faults → y.generation ≡ x.generation → y.opening.contents ≡ x.opening.contents → y.seal ≡ x.seal → y.executed ≡ x.executed →
    y ≡ record x { opening = record { contents = x.opening.contents; base_stamp = y.opening.base_stamp } }
same_but_since x y faults generation contents seal executed =
    λ t. record { faults = faults t; generation = generation t; opening = record { contents = contents t; base_stamp = y.opening.base_stamp }; seal = seal t; executed = executed t }

pub closings_agree_lem : ClosingsAgree
closings_agree_lem m f journal schedule given j k next x y one other versions is as_well x_is y_is =
    let stores : store_of k ≡ store_of j = stores_alike m f journal schedule given k j other one as_well.closed is.closed in
    same_but_since x y
    (as_well.faults ∙ sym is.faults)
    (as_well.generation ∙ ap (λ v. suc (generation_of v)) (sym versions) ∙ sym is.generation)
    (as_well.contents ∙ ap (λ (s : Store). s.contents) stores ∙ sym is.contents)
    (as_well.seal ∙ ap (λ (s : Store). s.seal) stores ∙ sym is.seal)
    (same_members y.executed x.executed y_is.deps.rising x_is.deps.rising
    (λ i h. (is.executed i).1 (done_alike m f journal schedule given k j other one is.closed i ((as_well.executed i).0 h)))
    (λ i h. (as_well.executed i).1 (done_alike m f journal schedule given j k one other as_well.closed i ((is.executed i).0 h))))

pub closing_is_one_lem : ClosingIsOne
closing_is_one_lem j next x y is as_well x_is y_is =
    let executed : y.executed ≡ x.executed = same_members y.executed x.executed y_is.deps.rising x_is.deps.rising (λ i h. (is.executed i).1 ((as_well.executed i).0 h)) (λ i h. (as_well.executed i).1 ((is.executed i).0 h)) in
    let faults : y.faults ≡ x.faults = as_well.faults ∙ sym is.faults in
    let generation : y.generation ≡ x.generation = as_well.generation ∙ sym is.generation in
    let contents : y.opening.contents ≡ x.opening.contents = as_well.contents ∙ sym is.contents in
    let base_stamp : y.opening.base_stamp ≡ x.opening.base_stamp = as_well.base_stamp ∙ sym is.base_stamp in
    let seal : y.seal ≡ x.seal = as_well.seal ∙ sym is.seal in
    λ t. record { faults = faults t; generation = generation t; opening = record { contents = contents t; base_stamp = base_stamp t }; seal = seal t; executed = executed t }
