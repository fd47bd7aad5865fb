-- The invariant over whole runs; agreement and validity.
use Rattle.std.proofs.Common.{◌⊎◌, ◌≡◌, ◌≢◌, ℕ, ◌+◌, ◌*◌, ◌<◌, ◌≤◌, true, false, not, inl, inr, Option, Some, None, Result, Ok, Err, List, [], ◌∷◌, ◌++◌, refl, sym, ap, subst, ◌∙◌, arith}
use Rattle.std.proofs.lemmas.Bool.{false≢true, and_parts, or_left, eqb-true, not-true, cases_eq, cases_order}
use Rattle.ep_base.specs.Ballots.{owner_of}
use Rattle.ep_base.specs.Instances.{instance_of, leader_of}
use Rattle.ep_base.specs.Messages.{instance_of_message}
use Rattle.ep_base.specs.Quorums.{size, spared}
use Rattle.ep_base.specs.Sameness.{is_noop}
use Rattle.ep_base.specs.Commands.{Command}
use Rattle.ep_base.specs.declared.decree.Decree.{Decree}
use Rattle.ep_base.specs.declared.message.Message.{Message}
use Rattle.ep_base.specs.declared.vote.VoteStatus.{VoteStatus}
use Rattle.ep_base.specs.declared.vote.VoteStatus.TheVariants.{PreAccepted, Accepted, Committed}
use Rattle.ep_base.specs.declared.vote.Vote.{Vote}
use Rattle.ep_rules.specs.Cells.{Change, committed_at, committed_decree, record_or_fresh, Cell, Refusal}
use Rattle.ep_rules.specs.Counting.{count}
use Rattle.ep_rules.specs.InterferenceSet.{interference}
use Rattle.ep_rules.specs.Phases.{Outcome, propose, give_up}
use Rattle.ep_rules.specs.Recovery.{recover}
use Rattle.ep_rules.specs.Maps.{get}
use Rattle.ep_rules.specs.Safety.{Agreement, Validity, WasProposed}
use Rattle.ep_rules.specs.States.{fresh_state, or_zero, cell_in, record_in, free_number}
use Rattle.ep_rules.specs.Steps.{Sent, Event, Propose, Handle, GiveUp, Recover, Execute, may_ask, is_within, is_for, handled, at, proposed, acts, sent_from}
use Rattle.ep_rules.specs.Worlds.{World, opening, In, Act, IsThere, Happens, moved, IsRun, ends, Committed as IsCommitted}
use Rattle.ep_rules.proofs.Counting.{count_le}
use Rattle.ep_rules.proofs.Facts.{History, can_accept, CanChoose, CanBeFast, Decided, slowly, quickly, IsCast, IsLast, CellOk, MessageOk, HistoryOk}
use Rattle.ep_rules.proofs.Keeping.{AllSent, record_of, Kept, KeptOk, keep_nothing}
use Rattle.ep_rules.proofs.Leading.{keep_give_up}
use Rattle.ep_rules.proofs.Local.{free_found, Local, LocalAct, local_acts}
use Rattle.ep_rules.proofs.Lookups.{none_there}
use Rattle.ep_rules.proofs.Moves.{Moved, moves, taken_of, unscreened, IsIn, acts_in}
use Rattle.ep_rules.proofs.Recovering.{keep_recover, keep_propose, keep_handled}
use Rattle.ep_rules.proofs.Stable.{decided_kept, cell_other, message_kept}
use Rattle.ep_rules.specs.OneMap.{Store}

-- Two decrees that are decided are one.
module _ (f l : ℕ) (h : History) (ok : HistoryOk f l h) where
  pub can_choose : (b : ℕ) → size f < 2 * count (size f) (λ r. h.accepted r b) → CanChoose f l h b
  can_choose b many = let le = count_le (size f) (λ r. h.accepted r b) (can_accept f l h b) (λ k _ e. or_left _ _ e) in omega arith

  can_be_fast : (x : Decree) → h.fast ≡ Some x → CanBeFast f l h x
  can_be_fast x e = let a = ok.fast_early x e in record { leader = inl e; spared = a.spared; named = inl a.named; members = λ r lt m. inl (a.each r lt m) }

  slow_slow : (b c : ℕ) (x y : Decree) → b < c → h.chosen b ≡ Some x → size f < 2 * count (size f) (λ r. h.accepted r b) → h.chosen c ≡ Some y → x ≡ y
  slow_slow b c x y lt ex many ey =
      let e : Some x ≡ Some y = sym ex ∙ (ok.safe c y ey).below b (ok.low b x ex) lt (can_choose b many) in cc

  pub decided_agree : (x y : Decree) → Decided f l h x → Decided f l h y → x ≡ y
  decided_agree x y (slowly b ex mx) (slowly c ey my) = elim (cases_order b c) [
    | inl i ↦ (let e : Some x ≡ Some y = sym ex ∙ ap h.chosen i ∙ ey in cc)
    | inr (inl lt) ↦ slow_slow b c x y lt ex mx ey
    | inr (inr gt) ↦ sym (slow_slow c b y x gt ey my ex)
  ]
  decided_agree x y (slowly b ex mx) (quickly ey) = sym ((ok.safe b x ex).quick y (can_be_fast y ey))
  decided_agree x y (quickly ex) (slowly c ey my) = (ok.safe c y ey).quick x (can_be_fast x ex)
  decided_agree x y (quickly ex) (quickly ey) = let e : Some x ≡ Some y = sym ex ∙ ey in cc

  pub decided_proposed : (x : Decree) → is_noop x.command ≡ false → Decided f l h x → h.proposed ≡ Some x.command
  decided_proposed x real (slowly b e many) = elim (ok.valid b x e) [ inl i ↦ absurd (false≢true (sym real ∙ ap is_noop i)) | inr p ↦ p ]
  decided_proposed x real (quickly e) = ok.fast_proposed x e

-- P holds of each message that was sent
abbrev pub Every : (Sent → Type 0) → List Sent → Type 0
Every P [] = Unit {0}
Every P (s ∷ ss) = P s × Every P ss

every_in : (P : Sent → Type 0) (ss : List Sent) (s : Sent) → In s ss → Every P ss → P s
every_in P [] s there a = absurd there
every_in P (x ∷ ss) s (inl e) a = subst P e a.0
every_in P (x ∷ ss) s (inr there) a = every_in P ss s there a.1

pub every_append : (P : Sent → Type 0) (xs ys : List Sent) → Every P xs → Every P ys → Every P (xs ++ ys)
every_append P [] ys a b = b
every_append P (x ∷ xs) ys a b = (a.0, every_append P xs ys a.1 b)

pub every_map : (P Q : Sent → Type 0) (ss : List Sent) → ((s : Sent) → P s → Q s) → Every P ss → Every Q ss
every_map P Q [] go a = tt
every_map P Q (s ∷ ss) go a = (go s a.0, every_map P Q ss go a.1)

pub every_sent : (P : Sent → Type 0) (Q : ℕ → Message → Type 0) (r : ℕ) (out : List (ℕ × Message)) → ((to : ℕ) (m : Message) → Q to m → P (record { from = r; to = to; message = m })) → AllSent Q out → Every P (sent_from r out)
every_sent P Q r [] go a = tt
every_sent P Q r (e ∷ es) go a = (go e.0 e.1 a.0, every_sent P Q r es go a.1)

-- the message is about another instance than i, or holds
abbrev pub SentOk : ℕ → ℕ → History → Sent → Type 0
SentOk f i h s = instance_of_message s.message ≡ i → MessageOk f (leader_of i) h s.from s.to s.message

-- what holds of instance i in every world
pub record Invariant (f i : ℕ) (w : World) : Type 0 where
  pub history : History
  pub ok : HistoryOk f (leader_of i) history
  pub cells : (r : ℕ) → CellOk f i history r (cell_in (w.states r) i)
  pub sent : Every (SentOk f i history) w.sent

-- a later world: what was decided stays so
pub record Later (f i : ℕ) (new : Command → Type 0) (w w' : World) (v : Invariant f i w) : Type 0 where
  pub next : Invariant f i w'
  pub kept : (x : Decree) → Decided f (leader_of i) v.history x → Decided f (leader_of i) next.history x
  pub proposed : (x : Command) → next.history.proposed ≡ Some x → (v.history.proposed ≡ Some x) ⊎ new x

-- the act proposes c as instance i
pub record IsProposal (w : World) (a : Act) (i : ℕ) (c : Command) : Type 0 where
  pub replica : a.replica ≡ leader_of i
  pub client : ℕ
  pub request : ℕ
  pub seen : ℕ
  pub spared : Option ℕ
  pub event : a.event ≡ Propose client request c seen spared
  pub number : ℕ
  pub free : free_number (w.states (leader_of i)).records (leader_of i) ≡ Some number
  pub instance : instance_of (leader_of i) (number + 1) ≡ i

-- an act that changes instance n, and keeps the invariant there
pub record Step (f : ℕ) (w : World) (a : Act) (n : ℕ) : Type 0 where
  pub change : Change
  pub moved : Moved w (moved f w a) a.replica n change
  pub small : a.replica < size f
  pub inside : leader_of n < size f
  pub own : Local n (record_in (w.states a.replica) n) change
  pub keeps : (v : Invariant f n w) → Kept f n a.replica (interference (w.states a.replica).records n) (IsProposal w a n) v.history (cell_in (w.states a.replica) n) change

module _ (f : ℕ) (two : 0 < f) (few : size f ≤ 256) where
  pub owner_default : (l : ℕ) → l < size f → owner_of l ≡ l
  owner_default l low = omega arith

  unfoldable pub step_here : (i : ℕ) → leader_of i < size f → (w w' : World) (v : Invariant f i w) (r : ℕ) (ch : Change) → Moved w w' r i ch → {own : _} → (new : Command → Type 0) → Kept f i r own new v.history (cell_in (w.states r) i) ch → Invariant f i w'
  step_here i leads w w' v r ch m new k = record {
    history = k.after;
    ok = k.history;
    cells = λ q. elim (cases_eq q r) [
      | inl e ↦ subst (λ p. CellOk f i k.after p (cell_in (w'.states p) i)) (sym e) (subst (λ c. CellOk f i k.after r c) (sym m.here) k.cell)
      | inr n ↦ subst (λ c. CellOk f i k.after q c) (sym (m.apart q i n)) (cell_other f i r v.history k.after k.advance q (cell_in (w.states q) i) (owner_default (leader_of i) leads) n (v.cells q))
    ];
    sent = subst (λ ss. Every (SentOk f i k.after) ss) (sym m.sent) (every_append (SentOk f i k.after) w.sent (sent_from r ch.out)
        (every_map (SentOk f i v.history) (SentOk f i k.after) w.sent (λ s p e. message_kept f (leader_of i) r v.history k.after k.advance s.from s.to s.message (p e)) v.sent)
        (every_sent (SentOk f i k.after) (λ to m. MessageOk f (leader_of i) k.after r to m) r ch.out (λ to m p e. p) k.out));
  }

  unfoldable pub step_elsewhere : (i n : ℕ) (w w' : World) (v : Invariant f i w) (r : ℕ) (ch : Change) → Moved w w' r n ch → AllSent (λ to m. instance_of_message m ≡ n) ch.out → i ≢ n → Invariant f i w'
  step_elsewhere i n w w' v r ch m about ne = record {
    history = v.history;
    ok = v.ok;
    cells = λ q. subst (λ c. CellOk f i v.history q c) (sym (m.elsewhere q i ne)) (v.cells q);
    sent = subst (λ ss. Every (SentOk f i v.history) ss) (sym m.sent) (every_append (SentOk f i v.history) w.sent (sent_from r ch.out) v.sent
        (every_sent (SentOk f i v.history) (λ to m. instance_of_message m ≡ n) r ch.out (λ to m is e. absurd (ne (sym e ∙ is))) about));
  }

  step_later : (i n : ℕ) (w : World) (a : Act) (v : Invariant f i w) → Step f w a n → Later f i (IsProposal w a i) w (moved f w a) v
  unfolding step_here step_elsewhere
  step_later i n w a v s = elim (cases_eq n i) [
    | inl is ↦ (
        let t : Step f w a i = subst (λ j. Step f w a j) is s in
        let q = t.keeps v in
        record {
          next = step_here i t.inside w (moved f w a) v a.replica t.change t.moved (IsProposal w a i) q;
          kept = decided_kept f (leader_of i) a.replica v.history q.after q.advance;
          proposed = q.proposed_new;
        })
    | inr ne ↦ record { next = step_elsewhere i n w (moved f w a) v a.replica s.change s.moved (s.own).about (λ e. ne (sym e)); kept = λ x d. d; proposed = λ x e. inl e }
  ]

-- Each act is a step.

module _ (f : ℕ) (two : 0 < f) (few : size f ≤ 256) (w : World) (a : Act) (small : a.replica < size f) (i : ℕ) (leads : leader_of i < size f) (v : Invariant f i w) where
  abbrev KeptAct : Result (ℕ × Change) Refusal → Type 0
  KeptAct (Ok p) = p.0 ≡ i → Kept f i a.replica (interference (w.states a.replica).records i) (IsProposal w a i) v.history (cell_in (w.states a.replica) i) p.1
  KeptAct (Err e) = Unit {0}

  abbrev KeptHere : Outcome → Type 0
  KeptHere o = KeptOk f i a.replica (interference (w.states a.replica).records i) (IsProposal w a i) v.history (cell_in (w.states a.replica) i) o

  kept_at : (n : ℕ) (o : Outcome) → (n ≡ i → KeptHere o) → KeptAct (at n o)
  kept_at n (Ok ch) p = p
  kept_at n (Err e) p = tt

  kept_proposed : (client request : ℕ) (c : Command) (seen : ℕ) (spared : Option ℕ) (s : ℕ) → a.event ≡ Propose client request c seen spared → is_noop c ≡ false → (n : Option ℕ) → free_number (w.states a.replica).records a.replica ≡ n → KeptAct (proposed f a.replica s (w.states a.replica) c n)
  kept_proposed client request c seen spared k is real None e = tt
  kept_proposed client request c seen spared k is real (Some n) e =
      let s = w.states a.replica in
      let found = free_found s.records a.replica n e in
      kept_at (instance_of a.replica (n + 1)) (propose f (instance_of a.replica (n + 1)) k c (interference s.records (instance_of a.replica (n + 1)) c)) (λ at.
      let own : a.replica ≡ leader_of i = (let d = ap leader_of at in let lt = found.0 in omega arith) in
      let none : (cell_in s i).entry ≡ None = subst (λ j. get s.records j ≡ None) at found.1 in
      let now : IsProposal w a i c = record {
        replica = own;
        client = client;
        request = request;
        seen = seen;
        spared = spared;
        event = is;
        number = n;
        free = subst (λ k. free_number (w.states k).records k ≡ Some n) own e;
        instance = ap (λ k. instance_of k (n + 1)) (sym own) ∙ at;
      } in
      subst (λ j. KeptHere (propose f j k c (interference s.records j c))) (sym at)
      (keep_propose (interference s.records i) (IsProposal w a i) few leads v.ok (v.cells a.replica) k c now real own none))

  kept_handled : (s : Sent) → SentOk f i v.history s → s.to ≡ a.replica → KeptAct (at (instance_of_message s.message) (handled f a.replica s.from (w.states a.replica) s.message))
  kept_handled s reported mine =
      let t = w.states a.replica in
      let h = v.history in
      let n = instance_of_message s.message in
      kept_at n (handled f a.replica s.from t s.message) (λ is.
      subst (λ j. leader_of j < size f → HistoryOk f (leader_of j) h → CellOk f j h a.replica (cell_in t j) → MessageOk f (leader_of j) h s.from a.replica s.message → KeptOk f j a.replica (interference t.records j) (IsProposal w a i) h (cell_in t j) (handled f a.replica s.from t s.message)) is
      (keep_handled f a.replica (IsProposal w a i) two few small h t s.from s.message)
      leads v.ok (v.cells a.replica) (subst (λ k. MessageOk f (leader_of i) h s.from k s.message) mine (reported is)))

  keeps_act : (e : Event) → a.event ≡ e → is_within f a.replica e ≡ true → is_for a.replica e ≡ true → IsThere w.sent e → KeptAct (acts f a.replica (w.states a.replica) e)
  keeps_act (Propose client request c seen named) is within mine there =
      kept_proposed client request c seen named (spared f a.replica named) is (not-true _ (and_parts (not (is_noop c)) _ (and_parts (may_ask client request c) _ within).0).0) (free_number (w.states a.replica).records a.replica) refl
  keeps_act (Handle m) is within mine there = kept_handled m.sent (every_in (SentOk f i v.history) w.sent m.sent there v.sent) (eqb-true _ _ mine)
  keeps_act (GiveUp n) is within mine there =
      let s = w.states a.replica in
      kept_at n (give_up f n a.replica (record_in s n) (get s.leads n)) (λ e. subst (λ j. KeptHere (give_up f j a.replica (record_in s j) (get s.leads j))) (sym e)
      (keep_give_up (interference s.records i) (IsProposal w a i) few leads small v.ok (v.cells a.replica)))
  keeps_act (Recover n) is within mine there =
      let s = w.states a.replica in
      kept_at n (recover f n a.replica (record_in s n) (cell_in s n).reported) (λ e. subst (λ j. KeptHere (recover f j a.replica (record_in s j) (cell_in s j).reported)) (sym e)
      (keep_recover (interference s.records i) (IsProposal w a i) few small v.ok (v.cells a.replica)))
  keeps_act (Execute root) is within mine there = λ e. keep_nothing v.ok (v.cells a.replica)

module _ (base : Store) (f : ℕ) (two : 0 < f) (few : size f ≤ 256) where
  -- the instance that an act changes
  pub step_of : (w : World) (a : Act) → Happens f w a → (n : ℕ) × Step f w a n
  step_of w a p =
      let s = w.states a.replica in
      let t = taken_of (acts f a.replica s a.event) (p.step).taken in
      let u = unscreened f a.replica a.event (p.step).unscreened in
      let inside : leader_of (t.0).0 < size f = subst (λ o. IsIn f o) t.1 (acts_in f a.replica s a.event p.replica u.0) in (
        (t.0).0,
        record {
          change = (t.0).1;
          moved = moves f w a t.0 t.1;
          small = p.replica;
          inside = inside;
          own = subst (λ o. LocalAct s o) t.1 (local_acts f a.replica s a.event);
          keeps = λ v. subst (λ o. KeptAct f two few w a p.replica (t.0).0 inside v o) t.1 (keeps_act f two few w a p.replica (t.0).0 inside v a.event refl u.0 u.1 p.there) refl;
        },
      )

  -- The opening world.

  unfoldable pub first_history : ℕ → History
  first_history l = record { promised = λ _. l; chosen = λ _. None; accepted = λ _ _. false; early = λ _. None; proposed = None; spared = None; fast = None; asked = λ _. None; seen = λ _ _. None }

  pub first_ok : (l : ℕ) → HistoryOk f l (first_history l)
  unfolding first_history
  first_ok l = record {
    safe = λ b x e. absurd (cc);
    led = λ b x e. absurd (cc);
    low = λ b x e. absurd (cc);
    valid = λ b x e. absurd (cc);
    fast_early = λ y e. absurd (cc);
    fast_proposed = λ y e. absurd (cc);
    early_fast = λ r x e. absurd (cc);
    early_proposed = λ r x e. absurd (cc);
    from_default = λ r. omega arith;
    backed = λ b x e. absurd (cc);
    hushed = λ b x e. absurd (cc);
    agreed = λ b x c e. absurd (cc);
    asked_led = λ b c e. absurd (cc);
    asked_free = λ b c e. absurd (cc);
    asked_valid = λ b c e. absurd (cc);
    seen_asked = λ r b d e. absurd (cc);
    proposed_real = λ c e. absurd (cc);
    early_seen = λ r x e. absurd (cc);
    early_origin = λ r x e. absurd (cc);
    fast_origin = λ y e. absurd (cc);
  }

  abbrev first_cell : Cell
  first_cell = record { entry = None; led = None; reported = 0 }

  pub first_cell_ok : (i r : ℕ) → CellOk f i (first_history (leader_of i)) r first_cell
  unfolding first_history
  first_cell_ok i r = record {
    held = record {
      promised = refl;
      order = (omega arith);
      vote = λ b. record { low = (omega arith); gap = λ c low high. refl; blank = λ c low high. refl; cast = record { unaccepted = refl; unvoted = refl; unseen = refl }; unfast = λ e u. refl };
      leads = tt;
    };
    fresh = λ e is. (refl, refl, refl, refl);
  }

  pub cell_at_first : (i : ℕ) → cell_in (fresh_state base) i ≡ first_cell
  cell_at_first i = λ k. record { entry = none_there i k; led = none_there i k; reported = ap or_zero (none_there i) k }

  unfoldable pub opening_ok : (i : ℕ) → Invariant f i (opening base)
  opening_ok i = record { history = first_history (leader_of i); ok = first_ok (leader_of i); cells = λ r. subst (λ c. CellOk f i (first_history (leader_of i)) r c) (sym (cell_at_first i)) (first_cell_ok i r); sent = tt }

  pub nothing_seen_yet : (l k m : ℕ) (d : List ℕ) → (first_history l).seen k m ≡ Some d → ⊥
  unfolding first_history
  nothing_seen_yet l k m d e = absurd (cc)

  nothing_proposed_yet : (i : ℕ) (c : Command) → (opening_ok i).history.proposed ≡ Some c → ⊥
  unfolding opening_ok first_history
  nothing_proposed_yet i c e = absurd (cc)

  -- What is committed is decided.

  committed_cast : (l r : ℕ) (h : History) (s : VoteStatus) (b : ℕ) (y x : Decree) → IsCast f l h r s b y → committed_at s y ≡ Some x → Decided f l h x
  committed_cast l r h PreAccepted b y x p e = absurd (cc)
  committed_cast l r h Accepted b y x p e = absurd (cc)
  committed_cast l r h Committed b y x p e = let same : y ≡ x = cc in subst (λ z. Decided f l h z) same p

  committed_last : (l r : ℕ) (h : History) (v : Option Vote) (x : Decree) → IsLast f l h r v → committed_decree v ≡ Some x → Decided f l h x
  committed_last l r h None x p e = absurd (cc)
  committed_last l r h (Some v) x p e = committed_cast l r h v.status v.ballot v.decree x p e

  pub committed_decided : (i : ℕ) (w : World) (v : Invariant f i w) (r : ℕ) (x : Decree) → IsCommitted w r i x → Decided f (leader_of i) v.history x
  committed_decided i w v r x e = committed_last (leader_of i) r v.history (record_of i (cell_in (w.states r) i)).vote x (((v.cells r).held).vote 0).cast e

  -- Runs.

  pub run_split : (early late : List Act) (w : World) → IsRun f w (early ++ late) → IsRun f w early × IsRun f (ends f w early) late
  run_split [] late w run = (tt, run)
  run_split (a ∷ early) late w run = let t = run_split early late (moved f w a) run.1 in ((run.0, t.0), t.1)

  pub ends_append : (early late : List Act) (w : World) → ends f w (early ++ late) ≡ ends f (ends f w early) late
  ends_append [] late w = refl
  ends_append (a ∷ early) late w = ends_append early late (moved f w a)

  -- only instances that replicas lead have records
  abbrev InRange : World → ℕ → ℕ → Type 0
  InRange w r i = (get (w.states r).records i ≡ None) ⊎ (leader_of i < size f)

  range_kept : (late : List Act) (w : World) → IsRun f w late → (r i : ℕ) → InRange w r i → InRange (ends f w late) r i
  range_kept [] w run r i old = old
  range_kept (a ∷ late) w run r i old =
      let step = step_of w a run.0 in
      range_kept late (moved f w a) run.1 r i (elim (cases_eq i step.0) [
        | inl is ↦ inr (subst (λ j. leader_of j < size f) (sym is) (step.1).inside)
        | inr ne ↦ (elim old [ inl e ↦ inl (ap (λ (c : Cell). c.entry) ((step.1).moved.elsewhere r i ne) ∙ e) | inr lt ↦ inr lt ])
      ])

  pub committed_in_range : (late : List Act) → IsRun f (opening base) late → (r i : ℕ) (x : Decree) → IsCommitted (ends f (opening base) late) r i x → leader_of i < size f
  committed_in_range late run r i x e = elim (range_kept late (opening base) run r i (inl (none_there i))) [
    | inl none ↦ absurd (let n = ap (λ o. committed_decree (record_or_fresh i o).vote) none in let t : None ≡ Some x = sym n ∙ e in cc)
    | inr lt ↦ lt
  ]

  -- one of these acts proposes c as instance i
  record ProposedIn (w : World) (late : List Act) (i : ℕ) (c : Command) : Type 0 where
    before : List Act
    proposal : Act
    after : List Act
    stands : before ++ (proposal ∷ after) ≡ late
    is : IsProposal (ends f w before) proposal i c

  proposed_first : (w : World) (a : Act) (late : List Act) (i : ℕ) (c : Command) → IsProposal w a i c → ProposedIn w (a ∷ late) i c
  proposed_first w a late i c p = record { before = []; proposal = a; after = late; stands = refl; is = p }

  proposed_later : (w : World) (a : Act) (late : List Act) (i : ℕ) (c : Command) → ProposedIn (moved f w a) late i c → ProposedIn w (a ∷ late) i c
  proposed_later w a late i c p = record { before = a ∷ p.before; proposal = p.proposal; after = p.after; stands = ap (λ others. a ∷ others) p.stands; is = p.is }

  run_keeps : (i : ℕ) (late : List Act) (w : World) (v : Invariant f i w) → IsRun f w late → Later f i (ProposedIn w late i) w (ends f w late) v
  run_keeps i [] w v run = record { next = v; kept = λ x d. d; proposed = λ x e. inl e }
  run_keeps i (a ∷ late) w v run =
      let step = step_of w a run.0 in
      let one = step_later f two few i step.0 w a v step.1 in
      let rest = run_keeps i late (moved f w a) one.next run.1 in
      record {
        next = rest.next;
        kept = λ x d. rest.kept x (one.kept x d);
        proposed = λ x p. elim (rest.proposed x p) [
          | inl old ↦ (elim (one.proposed x old) [ inl o ↦ inl o | inr t ↦ inr (proposed_first w a late i x t) ])
          | inr t ↦ inr (proposed_later w a late i x t)
        ];
      }

  agree : (i : ℕ) (early late : List Act) → IsRun f (opening base) (early ++ late) → (r q : ℕ) (x y : Decree) → IsCommitted (ends f (opening base) early) r i x → IsCommitted (ends f (opening base) (early ++ late)) q i y → x ≡ y
  agree i early late run r q x y cx cy =
      let runs = run_split early late (opening base) run in
      let a = run_keeps i early (opening base) (opening_ok i) runs.0 in
      let b = run_keeps i late (ends f (opening base) early) a.next runs.1 in
      let dx = b.kept x (committed_decided i (ends f (opening base) early) a.next r x cx) in
      let dy = committed_decided i (ends f (ends f (opening base) early) late) b.next q y (subst (λ w. IsCommitted w q i y) (ends_append early late (opening base)) cy) in
      decided_agree f (leader_of i) b.next.history b.next.ok x y dx dy

  valid : (late : List Act) → IsRun f (opening base) late → (i r : ℕ) (x : Decree) → IsCommitted (ends f (opening base) late) r i x → is_noop x.command ≡ false → WasProposed base f late i x.command
  valid late run i r x cx real =
      let a = run_keeps i late (opening base) (opening_ok i) run in
      let d = committed_decided i (ends f (opening base) late) a.next r x cx in
      elim (a.proposed x.command (decided_proposed f (leader_of i) a.next.history a.next.ok x real d)) [
        | inl o ↦ absurd (nothing_proposed_yet i x.command o)
        | inr t ↦ (let p = t.is in record {
          before = t.before;
          proposal = t.proposal;
          after = t.after;
          stands = t.stands;
          replica = p.replica;
          client = p.client;
          request = p.request;
          seen = p.seen;
          spared = p.spared;
          event = p.event;
          number = p.number;
          free = p.free;
          instance = p.instance;
        })
      ]

pub agreement_holds : Agreement
agreement_holds base f two few early late run i r q x y cx cy = agree base f two few i early late run r q x y cx cy

pub validity_holds : Validity
validity_holds base f two few late run i r x cx real = valid base f two few late run i r x cx real
