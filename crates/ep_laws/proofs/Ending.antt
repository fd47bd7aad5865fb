-- Any f+1 replicas can end any instance alone: q recovers it, hears the counters that the others have promised, and recovers it once more.
use Rattle.std.proofs.Common.{◌≡◌, ◌≢◌, ℕ, zero, suc, ◌+◌, ◌<◌, ◌≤◌, max, Bool, true, false, cond, ◌&&◌, not, eqb, Option, Some, None, Ok, [], refl, sym, ap, subst, ◌∙◌, inl, inr, ◌⊎◌, arith}
use Rattle.std.proofs.lemmas.Bool.{and_parts, eq-eqb, not-true, ne_eqb, false≢true}
use Rattle.ep_base.specs.Ballots.{ballot_of, counter_of}
use Rattle.ep_base.specs.Instances.{leader_of}
use Rattle.ep_base.specs.Quorums.{size}
use Rattle.ep_base.specs.Commands.{Command}
use Rattle.ep_base.specs.declared.decree.Decree.{Decree}
use Rattle.ep_base.specs.declared.message.Message.TheVariants.{Prepare, Nack}
use Rattle.ep_base.specs.declared.vote.VoteStatus.{VoteStatus}
use Rattle.ep_base.specs.declared.vote.VoteStatus.TheVariants.{PreAccepted, Accepted, Committed}
use Rattle.ep_base.specs.declared.vote.Vote.{Vote}
use Rattle.ep_rules.specs.Answers.{with_answer}
use Rattle.ep_rules.specs.Cells.{Change, answered, is_commit, is_committed, committed_at, committed_decree, Cell}
use Rattle.ep_rules.specs.Counting.{count}
use Rattle.ep_rules.specs.InterferenceSet.{interference, touches}
use Rattle.ep_rules.specs.Maps.{entries}
use Rattle.ep_rules.specs.Recovery.{next_counter, prepare_phase, on_nack}
use Rattle.ep_rules.specs.States.{State, cell_in, record_in, committed_in}
use Rattle.ep_rules.specs.Worlds.{World, opening, In, ends, moved, Committed as IsCommitted}
use Rattle.ep_rules.specs.declared.record.Record.{Record}
use Rattle.ep_rules.proofs.Counting.{count_without}
use Rattle.ep_rules.proofs.Keeping.{record_of}
use Rattle.ep_laws.specs.Alone.{silenced, HasRoom, Ending, SameRun, CanEnd}
use Rattle.ep_laws.specs.Quiet.{recovering}
use Rattle.ep_laws.proofs.Acting.{others_there, Done, recover_done}
use Rattle.ep_laws.proofs.Entries.{fewer_seq}
use Rattle.ep_laws.proofs.Leading.{LeadsTo, at_once, then_act}
use Rattle.ep_laws.proofs.Rounds.{Ground, ground_kept, exchange, prepare_all}
use Rattle.ep_laws.proofs.Rules.{prepare_refused, recovers_at}
use Rattle.ep_laws.proofs.Same.{same_run}
use Rattle.ep_laws.proofs.Sound.{WorldSound, run_sound, opening_sound, silenced_sound}
use Rattle.ep_laws.proofs.Tally.{Reached, reached, own_answer}

-- a replica has committed, or it hasn't
status_or : (s : VoteStatus) (x : Decree) → ((d : Decree) × (committed_at s x ≡ Some d)) ⊎ (is_commit s ≡ false)
status_or PreAccepted x = inr refl
status_or Accepted x = inr refl
status_or Committed x = inl (x, refl)

committed_or : (v : Option Vote) → ((d : Decree) × (committed_decree v ≡ Some d)) ⊎ (is_committed v ≡ false)
committed_or None = inr refl
committed_or (Some v) = status_or v.status v.decree

module _ (f : ℕ) (two : 0 < f) (few : size f ≤ 256) (live : ℕ → Bool) (q i : ℕ) (q_low : q < size f) (lead : leader_of i < size f) (p : ℕ → Bool) (t : ℕ) (t_low : t ≤ size f) (all : count t p ≡ f) (q_live : live q ≡ true) (p_live : (x : ℕ) → p x ≡ true → live x ≡ true) (p_other : (x : ℕ) → p x ≡ true → x ≢ q) where
  abbrev OnGround : World → Type 0
  OnGround = Ground f two few live q i q_low lead p t t_low all q_live p_live p_other

  abbrev Goal : World → Type 0
  Goal w = (d : Decree) × IsCommitted w q i d

  -- The second recovery, above all that was promised.

  abbrev mine : World → Record
  mine w = record_in (w.states q) i

  abbrev reported : World → ℕ
  reported w = (cell_in (w.states q) i).reported

  -- the counters of these are known to q
  pub record Known (w : World) (x : ℕ) : Type 0 where
    pub low : counter_of (record_in (w.states x) i).promised ≤ max (counter_of (mine w).promised) (reported w)

  second : (w : World) → OnGround w → is_committed (mine w).vote ≡ false → counter_of (mine w).promised < 59999 → reported w < 59998 → ((x : ℕ) → x < t → p x ≡ true → Known w x) → LeadsTo f live q i 1 w Goal
  second w g unended low low' known =
      let n : ℕ = next_counter (mine w) (reported w) in
      let b : ℕ = ballot_of n q in
      let a : Done f i w (recovering q i) (prepare_phase f i q b (mine w)) = recover_done f few w g.sound i q q_low lead (prepare_phase f i q b (mine w)) (recovers_at f i q (mine w) (reported w) unended (omega arith)) in
      let w1 : World = moved f w (recovering q i) in
      then_act f live q i 1 0 w (recovering q i) Goal a.happens q_live (refl, refl) (omega arith)
      (prepare_all f two few live q i q_low lead p t t_low all q_live p_live p_other b (omega arith) t w1 (omega arith) (omega arith) (record {
        ground = ground_kept f two few live q i q_low lead p t t_low all q_live p_live p_other w (recovering q i) _ a g;
        vote = (mine w).vote;
        answers = with_answer [] q (mine w).vote;
        mine = ap (record_of i) a.here;
        led = ap (λ (c : Cell). c.led) a.here;
        unended = unended;
        fresh = λ r lt ne. ap (λ u. cond u (Some (mine w).vote) None) (ne_eqb q r (λ e. ne (sym e)));
        many = (let o = own_answer f q (Option Vote) (mine w).vote q_low in omega arith);
        asked = λ x lt px. a.new _ (others_there q x f (Prepare i b) (omega arith) (p_other x px));
        waiting = λ x lt px. subst (λ (s : State). (record_in s i).promised < b) (sym (a.apart x (p_other x px))) (let k = (known x lt px).low in omega arith);
        have_reported = λ x le lt px. absurd (omega arith);
      }))

  -- The first one, of which the others say what they have promised.

  pub record Asks (b m : ℕ) (w : World) : Type 0 where
    pub ground : OnGround w
    pub unended : is_committed (mine w).vote ≡ false
    pub at : (mine w).promised ≡ b
    pub few_reported : reported w < 59998
    pub asked : (x : ℕ) → x < m → p x ≡ true → In (record { from = q; to = x; message = Prepare i b }) w.sent
    pub room : (x : ℕ) → x < m → p x ≡ true → counter_of (record_in (w.states x) i).promised < 59998
    pub known : (x : ℕ) → m ≤ x → x < t → p x ≡ true → Known w x

  below : (x m : ℕ) → m ≤ x → (x ≡ m) ⊎ (suc m ≤ x)
  below x m h = grind arith

  order : (a b : ℕ) → (a < b) ⊎ (b ≤ a)
  order a b = grind arith

  ask_known : (b m : ℕ) (w : World) → Asks b (suc m) w → (p m ≡ true → Known w m) → Asks b m w
  ask_known b m w a here = record {
    ground = a.ground;
    unended = a.unended;
    at = a.at;
    few_reported = a.few_reported;
    asked = λ x lt. a.asked x (omega arith);
    room = λ x lt. a.room x (omega arith);
    known = λ x le lt px. elim (below x m le) [ inl is ↦ subst (λ k. Known w k) (sym is) (here (subst (λ k. p k ≡ true) is px)) | inr more ↦ a.known x more lt px ];
  }

  ask_reported : (b m : ℕ) (w : World) → counter_of b < 59999 → m < t → p m ≡ true → (a : Asks b (suc m) w) → b < (record_in (w.states m) i).promised → ((w' : World) → Asks b m w' → LeadsTo f live q i 1 w' Goal) → LeadsTo f live q i 1 w Goal
  ask_reported b m w low lt e a higher rec =
      let r : Record = record_in (w.states m) i in
      exchange f two few live q i q_low lead p t t_low all q_live p_live p_other 1 w Goal a.ground m (omega arith) (p_live m e) (p_other m e) (Prepare i b) (Nack i b r.promised) refl refl (a.asked m (omega arith) e)
      (answered q (Nack i b r.promised)) (ap (λ (ch : Change). Ok ch) (prepare_refused i q b r higher)) refl
      (on_nack r.promised (reported w)) refl
      (λ w' x. rec w' (
      let same : mine w' ≡ mine w = ap (record_of i) x.reported in
      let now : reported w' ≡ max (reported w) (counter_of r.promised) = ap (λ (c : Cell). c.reported) x.reported in
      let there : record_in (w'.states m) i ≡ r = ap (record_of i) x.asked in
      let kept : counter_of (mine w').promised ≡ counter_of (mine w).promised = ap (λ (y : Record). counter_of y.promised) same in
      let room = a.room m (omega arith) e in
      let old = a.few_reported in
      record {
        ground = x.ground;
        unended = ap (λ (y : Record). is_committed y.vote) same ∙ a.unended;
        at = ap (λ (y : Record). y.promised) same ∙ a.at;
        few_reported = (omega arith);
        asked = λ k less pk. x.before _ (a.asked k (omega arith) pk);
        room = λ k less pk. subst (λ (s : State). counter_of (record_in s i).promised < 59998) (sym (x.apart k (λ is. absurd (omega arith)) (p_other k pk))) (a.room k (omega arith) pk);
        known = λ k le less pk. elim (below k m le) [
          | inl is ↦ subst (λ j. Known w' j) (sym is) (record { low = (let c : counter_of (record_in (w'.states m) i).promised ≡ counter_of r.promised = ap (λ (y : Record). counter_of y.promised) there in omega arith) })
          | inr more ↦ (let was = (a.known k more less pk).low in
              let c : counter_of (record_in (w'.states k) i).promised ≡ counter_of (record_in (w.states k) i).promised = ap (λ (s : State). counter_of (record_in s i).promised) (x.apart k (λ is. absurd (omega arith)) (p_other k pk)) in
              record { low = (omega arith) })
        ];
      }))

  ask_all : (b m : ℕ) (w : World) → counter_of b < 59999 → m ≤ t → Asks b m w → LeadsTo f live q i 1 w Goal
  ask_all b zero w low le a = second w a.ground a.unended (let e = ap counter_of a.at in omega arith) a.few_reported (λ x lt px. a.known x (omega arith) lt px)
  ask_all b (suc m) w low le a = go (p m) refl (ask_all b m)
    where
      go : (u : Bool) → p m ≡ u → ((w' : World) → counter_of b < 59999 → m ≤ t → Asks b m w' → LeadsTo f live q i 1 w' Goal) → LeadsTo f live q i 1 w Goal
      go false e rec = rec w low (omega arith) (ask_known b m w a (λ px. absurd (false≢true (sym e ∙ px))))
      go true e rec = elim (order b (record_in (w.states m) i).promised) [
        | inl higher ↦ ask_reported b m w low (omega arith) e a higher (λ w' n. rec w' low (omega arith) n)
        | inr fine ↦ rec w low (omega arith) (ask_known b m w a (λ px. record { low = (let at : counter_of (mine w).promised ≡ counter_of b = ap counter_of a.at in omega arith) }))
      ]

  first : (w : World) → OnGround w → is_committed (mine w).vote ≡ false → counter_of (mine w).promised < 59998 → reported w < 59998 → ((x : ℕ) → x < t → p x ≡ true → counter_of (record_in (w.states x) i).promised < 59998) → LeadsTo f live q i 2 w Goal
  first w g unended low low' room =
      let n : ℕ = next_counter (mine w) (reported w) in
      let b : ℕ = ballot_of n q in
      let a : Done f i w (recovering q i) (prepare_phase f i q b (mine w)) = recover_done f few w g.sound i q q_low lead (prepare_phase f i q b (mine w)) (recovers_at f i q (mine w) (reported w) unended (omega arith)) in
      let w1 : World = moved f w (recovering q i) in
      let same : reported w1 ≡ reported w = ap (λ (c : Cell). c.reported) a.here in
      then_act f live q i 2 1 w (recovering q i) Goal a.happens q_live (refl, refl) (omega arith)
      (ask_all b t w1 (omega arith) (omega arith) (record {
        ground = ground_kept f two few live q i q_low lead p t t_low all q_live p_live p_other w (recovering q i) _ a g;
        unended = ap (λ c. is_committed (record_of i c).vote) a.here ∙ unended;
        at = ap (λ c. (record_of i c).promised) a.here;
        few_reported = (omega arith);
        asked = λ x lt px. a.new _ (others_there q x f (Prepare i b) (omega arith) (p_other x px));
        room = λ x lt px. subst (λ (s : State). counter_of (record_in s i).promised < 59998) (sym (a.apart x (p_other x px))) (room x lt px);
        known = λ x le lt px. absurd (omega arith);
      }))

-- f others of the live replicas, and the world before the first recovery.
module _ (f : ℕ) (two : 0 < f) (few : size f ≤ 256) (live : ℕ → Bool) (enough : f + 1 ≤ count (size f) live) (q : ℕ) (q_low : q < size f) (q_live : live q ≡ true) (i : ℕ) (lead : leader_of i < size f) (w : World) (sound : WorldSound f w) (room : HasRoom f live w i) where
  abbrev p : ℕ → Bool
  p r = live r && not (eqb r q)

  abbrev here : Reached (size f) f p
  here = reached (size f) f p (let c = count_without (size f) live q in omega arith)

  p_live : (x : ℕ) → p x ≡ true → live x ≡ true
  p_live x e = (and_parts (live x) (not (eqb x q)) e).0

  p_other : (x : ℕ) → p x ≡ true → x ≢ q
  p_other x e is = absurd (false≢true (sym (not-true (eqb x q) (and_parts (live x) (not (eqb x q)) e).1) ∙ eq-eqb x q is))

  abbrev silent : World
  silent = silenced w

  quiet_room : (x : ℕ) → x < size f → live x ≡ true → (c : Command) → (interference (silent.states x).records i c).seq ≤ 999999
  quiet_room x lt l c =
      let a = room.seqs x lt l in
      let b = fewer_seq (touches c i) (entries (w.states x).records) in
      omega arith

  lead_there : LeadsTo f live q i 2 silent (λ v. (d : Decree) × IsCommitted v q i d)
  lead_there = elim (committed_or (record_in (w.states q) i).vote) [
    | inl done ↦ at_once f live q i 2 silent (λ v. (d : Decree) × IsCommitted v q i d) done
    | inr unended ↦ first f two few live q i q_low lead p here.bound here.low here.many q_live p_live p_other silent
        (record { sound = silenced_sound f w sound; room = quiet_room }) unended (room.promised q q_low q_live) (room.reported q q_low q_live)
        (λ x lt px. room.promised x (let low = here.low in omega arith) (p_live x px))
  ]

  pub ending : Ending f live q i w
  ending =
      let t = lead_there in
      let s : SameRun f w t.acts = same_run f w t.acts t.run in
      let end : (d : Decree) × IsCommitted (ends f silent t.acts) q i d = t.end in
      record {
        acts = t.acts;
        alone = record { run = t.run; serve = t.serve };
        few = t.few;
        decree = end.0;
        committed = ap (λ (u : State). committed_in u.records i) (s.same q) ∙ end.1;
      }

pub can_end_lem : CanEnd
can_end_lem base f two few acts run live enough q q_low q_live i lead room =
    ending f two few live enough q q_low q_live i lead (ends f (opening base) acts) (run_sound f few acts (opening base) run (opening_sound f base)) room
