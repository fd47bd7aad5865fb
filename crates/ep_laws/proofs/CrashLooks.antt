-- A worked life whose nodes crash, with reads that write nothing, computed from the definitions.
use Rattle.std.proofs.Common.{◌≡◌, ℕ, suc, pred, ◌+◌, ◌<◌, ◌≤◌, max, Bool, true, false, eqb, inl, inr, List, [], ◌∷◌, length, map, take, slice_get, Option, Some, None, refl, sym, ap, subst, arith}
use Rattle.std.proofs.lemmas.Bool.{cases_lt, eqb-true}
use Rattle.ep_base.specs.Commands.{Command, Seal}
use Rattle.ep_base.specs.Instances.{instance_of}
use Rattle.ep_base.specs.Places.{Has}
use Rattle.ep_base.specs.declared.reply.Answer.{Answer}
use Rattle.ep_base.specs.declared.reply.Answer.TheVariants.{Replied}
use Rattle.ep_base.specs.declared.reply.Reply.TheVariants.{Absent, Present, Closed}
use Rattle.ep_rules.proofs.Merged.{at_in}
use Rattle.ep_rules.specs.Order.{IsClosed}
use Rattle.ep_laws.specs.Rows.Worlds.{In}
use Rattle.ep_laws.proofs.OneByOne.{execution, closed_none, closed_one}
use Rattle.ep_laws.specs.Rows.CrashLifeReads.{generations_at, nodes_at, state_at, life_of, life_to, IsKept, IsCrashLifeRead, node_reply}
use Rattle.ep_laws.specs.Rows.CrashLives.{HasSealed, IsLifeMove, AreLifeMoves, life_after, Generations, newborn, LifeMove, Within, OpensNext, after_move}
use Rattle.ep_laws.specs.Rows.Crashes.{handed_out, no_start, Take, HandOut, ComeBack}
use Rattle.ep_laws.specs.Rows.Generations.{one_history}
use Rattle.ep_laws.specs.Rows.Journals.{messages_of, AreMarked, IsAmong, Entry, stamp_after, heard, left}
use Rattle.ep_laws.specs.Rows.OneMap.{empty, opened, answers_of}
use Rattle.ep_laws.specs.Rows.Reads.{found, Read}
use Rattle.ep_laws.specs.Rows.States.{graph_in, command_in, committed_in, State, fresh_state}
use Rattle.ep_laws.specs.Rows.Steps.{IsStep, IsTaken, IsExecution, Executes as Does, order_of, Sent, Frame, Event, Propose, Handle, Execute, screened, acts, sends}
use Rattle.ep_laws.proofs.Playing.{attrs, decree, put_x, get_x, put_as}

-- Playing a life, each generation of which stands one fault.

pub data Line : Type 0 where
  -- a node is asked for a command
  Asks : (g r : ℕ) → (c : Command) → Line
  -- the frame of this place (from 1), among those that were handed out in the generation, is handled
  Gets : (g m : ℕ) → Line
  Executes : (g r i : ℕ) → (x : Answer) → Line
  -- all that the node has is on its disk, and handed out of
  Syncs : (g r : ℕ) → Line
  -- the node crashes, and comes back with what was handed out of
  Crashes : (g r : ℕ) → Line
  Opens : (g r q base_stamp : ℕ) → Line

abbrev one : ℕ → ℕ
one g = 1

abbrev framed : ℕ → ℕ → ℕ → List Sent → List Frame
framed n stamp k [] = []
framed n stamp k (s ∷ ss) = record { sent = s; entry = n; place = k; stamp = stamp } ∷ framed n stamp (suc k) ss

abbrev node : Generations → ℕ → ℕ → State
node l g r = left 1 r (fresh_state (opened (l.map g r))) ((l.cluster g).journal r)

abbrev entry : Generations → ℕ → ℕ → Event → List (ℕ × Answer) → Entry
entry l g r e done =
    let es = (l.cluster g).journal r in
    let n = length es + 1 in
    let stamp = 1 + max (stamp_after (l.base_stamp g r) es) (heard e) in
    record { number = n; stamp = stamp; event = e; out = framed n stamp 0 (sends 1 r (node l g r) e); done = done }

abbrev took : Generations → ℕ → ℕ → Event → List (ℕ × Answer) → LifeMove
took l g r e done = Within g (Take r (entry l g r e done))

-- a frame that isn't there is nobody's
abbrev handled : Generations → ℕ → Option Frame → LifeMove
handled l g None = Within g (HandOut 3 0)
handled l g (Some m) = took l g m.sent.to (Handle m) []

abbrev made : Generations → Line → LifeMove
made l (Asks g r c) = took l g r (Propose 1 1 c 0 None) []
made l (Gets g m) = handled l g (slice_get (l.cluster g).given (pred m))
made l (Executes g r i x) = took l g r (Execute i) ((i, x) ∷ [])
made l (Syncs g r) = Within g (HandOut r (length ((l.cluster g).journal r)))
made l (Crashes g r) = Within g (ComeBack r ((l.cluster g).out r))
made l (Opens g r q base_stamp) = OpensNext g r q base_stamp

abbrev played : Generations → List Line → List LifeMove
played l [] = []
played l (x ∷ xs) = made l x ∷ played (after_move one l (made l x)) xs

-- What makes the lines moves.

-- the node has opened the generation, and takes the event
abbrev CanTake : Generations → ℕ → ℕ → Event → List (ℕ × Answer) → Type 0
CanTake l g r e done = (l.has_opened g r ≡ true) × (r < 3) × IsStep 1 r (node l g r) e done

abbrev CanHandle : Generations → ℕ → Option Frame → Type 0
CanHandle l g None = ⊥
CanHandle l g (Some m) = CanTake l g m.sent.to (Handle m) []

-- no more was handed out of than there is
abbrev HasAll : Generations → ℕ → ℕ → Type 0
HasAll l g r = (l.has_opened g r ≡ true) × (r < 3) × ((l.cluster g).out r ≤ length ((l.cluster g).journal r))

abbrev Can : Generations → Line → Type 0
Can l (Asks g r c) = CanTake l g r (Propose 1 1 c 0 None) []
Can l (Gets g m) = CanHandle l g (slice_get (l.cluster g).given (pred m))
Can l (Executes g r i x) = CanTake l g r (Execute i) ((i, x) ∷ [])
Can l (Syncs g r) = HasAll l g r
Can l (Crashes g r) = HasAll l g r
Can l (Opens g r q base_stamp) = IsLifeMove one l (OpensNext g r q base_stamp)

abbrev CanAll : Generations → List Line → Type 0
CanAll l [] = Unit {0}
CanAll l (x ∷ xs) = Can l x × CanAll (after_move one l (made l x)) xs

messages_framed : (n stamp k : ℕ) (ss : List Sent) → messages_of (framed n stamp k ss) ≡ ss
messages_framed n stamp k [] = refl
messages_framed n stamp k (s ∷ ss) = ap (λ ms. s ∷ ms) (messages_framed n stamp (suc k) ss)

marked_framed : (e : Entry) (k : ℕ) (ss : List Sent) → AreMarked e k (framed e.number e.stamp k ss)
marked_framed e k [] = tt
marked_framed e k (s ∷ ss) = (refl, refl, refl, marked_framed e (suc k) ss)

takes : (l : Generations) (g r : ℕ) (e : Event) (done : List (ℕ × Answer)) → CanTake l g r e done → IsAmong (l.cluster g).given e → IsLifeMove one l (took l g r e done)
takes l g r e done can among = (
  can.0,
  (
    (let lt = can.1 in omega arith),
    record {
      entry = record { step = can.2; sent = messages_framed (length ((l.cluster g).journal r) + 1) ((entry l g r e done).stamp) 0 (sends 1 r (node l g r) e) };
      number = refl;
      stamp = refl;
      marked = marked_framed (entry l g r e done) 0 (sends 1 r (node l g r) e);
    },
    among,
  ),
)

handles : (l : Generations) (g : ℕ) (o : Option Frame) → ((m : Frame) → o ≡ Some m → In m (l.cluster g).given) → CanHandle l g o → IsLifeMove one l (handled l g o)
handles l g None there can = absurd can
handles l g (Some m) there can = takes l g m.sent.to (Handle m) [] can (there m refl)

is_move : (l : Generations) (x : Line) → Can l x → IsLifeMove one l (made l x)
is_move l (Asks g r c) can = takes l g r (Propose 1 1 c 0 None) [] can tt
is_move l (Gets g m) can = handles l g (slice_get (l.cluster g).given (pred m)) (λ fr e. at_in (l.cluster g).given (pred m) fr e) can
is_move l (Executes g r i x) can = takes l g r (Execute i) ((i, x) ∷ []) can tt
is_move l (Syncs g r) can = (can.0, ((let lt = can.1 in omega arith), record { least = can.2; most = (omega arith) }))
is_move l (Crashes g r) can = (can.0, ((let lt = can.1 in omega arith), record { least = (omega arith); most = can.2 }))
is_move l (Opens g r q base_stamp) can = can

are_moves : (l : Generations) (xs : List Line) → CanAll l xs → AreLifeMoves one l (played l xs)
are_moves l [] can = tt
are_moves l (x ∷ xs) can = (is_move l x can.0, are_moves (after_move one l (made l x)) xs can.1)

-- what the put of the next generation reports: the value before
abbrev before : Answer
before = Replied (Present (49 ∷ []))

-- The first generation: a put and a seal at node 0, which executes both. Node 2 has lost its disk, and takes part in the next one alone. There node 1 puts, with
-- node 2, and answers (21 moves). Node 2 hears of the commit, which isn't on its disk when it crashes; then node 0 hears of it, executes the put, and syncs.
abbrev story : List Line
story =
    Asks 0 0 (put_x 49) ∷ (Asks 0 0 (Seal (7 ∷ [])) ∷ (Syncs 0 0 ∷ (Gets 0 1 ∷ (Gets 0 2 ∷ (Syncs 0 1 ∷ (Gets 0 3 ∷ (Gets 0 4 ∷
    (Executes 0 0 (instance_of 0 1) (Replied Absent) ∷ (Executes 0 0 (instance_of 0 2) (Replied Absent) ∷ (Syncs 0 0 ∷ (Opens 0 0 0 6 ∷ (Opens 0 1 0 6 ∷ (Opens 0 2 0 6 ∷
    (Asks 1 1 (put_x 50) ∷ (Syncs 1 1 ∷ (Gets 1 1 ∷ (Syncs 1 2 ∷ (Gets 1 2 ∷ (Executes 1 1 (instance_of 1 1) before ∷ (Syncs 1 1 ∷
    (Gets 1 4 ∷ (Crashes 1 2 ∷ (Gets 1 3 ∷ (Executes 1 0 (instance_of 1 1) before ∷ (Syncs 1 0 ∷ [])))))))))))))))))))))))))

abbrev moves : List LifeMove
moves = played (newborn no_start) story

there_are : length moves ≡ 26
there_are = refl

abbrev at : ℕ → Generations
at n = life_after one (newborn no_start) (take n moves)

none_in : (i : ℕ) → Has [] i → ⊥
none_in i k = omega arith

-- a step that executes nothing
abbrev step : (r : ℕ) (s : State) (e : Event) → screened 1 r e ≡ None → IsTaken (acts 1 r s e) → Does s e [] → IsStep 1 r s e []
step r s e unscreened taken executes = record { unscreened = unscreened; taken = taken; executes = executes }

executed_put : IsExecution (node (at 8) 0 0) (instance_of 0 1) ((instance_of 0 1, Replied Absent) ∷ [])
executed_put = execution (node (at 8) 0 0) (instance_of 0 1) (attrs 1 []) (Replied Absent) (closed_none _) refl (λ j h. absurd (omega arith)) (λ h. absurd (omega arith)) refl

executed_seal : IsExecution (node (at 9) 0 0) (instance_of 0 2) ((instance_of 0 2, Replied Absent) ∷ [])
executed_seal =
    execution (node (at 9) 0 0) (instance_of 0 2) (attrs 2 (instance_of 0 1 ∷ [])) (Replied Absent) (closed_one _ (instance_of 0 1) 1 refl) refl (λ j h. h) (λ h. absurd (omega arith)) refl

executed_next : (n r : ℕ) → graph_in (node (at n) 1 r).records (instance_of 1 1) ≡ Some (attrs 1 []) → (node (at n) 1 r).executed ≡ [] →
    answers_of (command_in (node (at n) 1 r).records) (node (at n) 1 r).store (instance_of 1 1 ∷ []) ≡ before ∷ [] →
    IsExecution (node (at n) 1 r) (instance_of 1 1) ((instance_of 1 1, before) ∷ [])
executed_next n r is none reported = execution (node (at n) 1 r) (instance_of 1 1) (attrs 1 []) before
    (subst (IsClosed (graph_in (node (at n) 1 r).records)) (sym none) (closed_none (graph_in (node (at n) 1 r).records))) is (λ j h. absurd (omega arith))
    (λ h. absurd (none_in (instance_of 1 1) (subst (λ is. Has is (instance_of 1 1)) none h))) reported

sealed_at : (n : ℕ) (e : Entry) → slice_get (handed_out ((at n).cluster 0) 0) 5 ≡ Some e → Has (order_of e.done) (instance_of 0 2) →
    committed_in (left 1 0 (fresh_state (opened ((at n).map 0 0))) (handed_out ((at n).cluster 0) 0)).records (instance_of 0 2) ≡ Some (decree (Seal (7 ∷ [])) 2 (instance_of 0 1 ∷ [])) →
    e.stamp ≤ 6 → HasSealed one (at n) 0 0 6
sealed_at n e is has committed le = record {
  entry = e;
  stands = at_in (handed_out ((at n).cluster 0) 0) 5 e is;
  instance = instance_of 0 2;
  executes = has;
  decree = decree (Seal (7 ∷ [])) 2 (instance_of 0 1 ∷ []);
  committed = committed;
  seals = refl;
  reached = le;
}

-- each line is a move of what the earlier ones leave
played_is_a_life : AreLifeMoves one (newborn no_start) moves
played_is_a_life = are_moves (newborn no_start) story (
  (refl, (omega arith), step _ _ _ refl tt refl),
  (
    (refl, (omega arith), step _ _ _ refl tt refl),
    (
      (refl, (omega arith), (omega arith)),
      (
        (refl, (omega arith), step _ _ _ refl tt refl),
        (
          (refl, (omega arith), step _ _ _ refl tt refl),
          (
            (refl, (omega arith), (omega arith)),
            (
              (refl, (omega arith), step _ _ _ refl tt refl),
              (
                (refl, (omega arith), step _ _ _ refl tt refl),
                (
                  (refl, (omega arith), record { unscreened = refl; taken = tt; executes = executed_put }),
                  (
                    (refl, (omega arith), record { unscreened = refl; taken = tt; executes = executed_seal }),
                    (
                      (refl, (omega arith), (omega arith)),
                      (
                        (refl, refl, refl, sealed_at 11 _ refl (omega arith) refl (omega arith)),
                        (
                          (refl, refl, refl, sealed_at 12 _ refl (omega arith) refl (omega arith)),
                          (
                            (refl, refl, refl, sealed_at 13 _ refl (omega arith) refl (omega arith)),
                            (
                              (refl, (omega arith), step _ _ _ refl tt refl),
                              (
                                (refl, (omega arith), (omega arith)),
                                (
                                  (refl, (omega arith), step _ _ _ refl tt refl),
                                  (
                                    (refl, (omega arith), (omega arith)),
                                    (
                                      (refl, (omega arith), step _ _ _ refl tt refl),
                                      (
                                        (refl, (omega arith), record { unscreened = refl; taken = tt; executes = executed_next 19 1 refl refl refl }),
                                        (
                                          (refl, (omega arith), (omega arith)),
                                          (
                                            (refl, (omega arith), step _ _ _ refl tt refl),
                                            (
                                              (refl, (omega arith), (omega arith)),
                                              (
                                                (refl, (omega arith), step _ _ _ refl tt refl),
                                                (
                                                  (refl, (omega arith), record { unscreened = refl; taken = tt; executes = executed_next 24 0 refl refl refl }),
                                                  (
                                                    (refl, (omega arith), (omega arith)),
                                                    tt,
                                                  ),
                                                ),
                                              ),
                                            ),
                                          ),
                                        ),
                                      ),
                                    ),
                                  ),
                                ),
                              ),
                            ),
                          ),
                        ),
                      ),
                    ),
                  ),
                ),
              ),
            ),
          ),
        ),
      ),
    ),
  ),
)

-- A read of x at node 0, which is asked when that put was answered, and of which node 0 knows nothing yet. Nodes 0 and 2 are looked at in turn; node 2 crashes then.

abbrev point : Bool → Bool → Option ℕ
point true b = Some 22
point false true = Some 22
point false false = None

abbrev reading : Read
reading = record { command = get_x; reader = 0; asked = 21; looked = λ q. point (eqb q 0) (eqb q 2); answered = 25 }

-- node 2 has an entry that isn't on its disk when it is looked at, and that the crash takes
has_more : map (λ n. length ((nodes_at no_start one moves 1 n).journal 2)) (22 ∷ 23 ∷ []) ≡ 2 ∷ (1 ∷ [])
has_more = refl

on_disk : map (λ n. (nodes_at no_start one moves 1 n).out 2) (22 ∷ 23 ∷ []) ≡ 1 ∷ (1 ∷ [])
on_disk = refl

finds_0 : found (state_at no_start one moves 1 22 0) get_x ≡ []
finds_0 = refl

finds_2 : found (state_at no_start one moves 1 22 2) get_x ≡ instance_of 1 1 ∷ []
finds_2 = refl

executes : (state_at no_start one moves 1 25 0).executed ≡ instance_of 1 1 ∷ []
executes = refl

at_point : (n m : ℕ) → Some n ≡ Some m → n ≡ m
at_point n m e = cc

looked_at : (n : ℕ) (a b : Bool) → point a b ≡ Some n → 22 ≡ n
looked_at n true b e = at_point 22 n e
looked_at n false true e = at_point 22 n e
looked_at n false false e = absurd (cc)

-- what holds of node 0 and of node k holds of each that is looked at
at_either : (P : ℕ → Type 0) (k : ℕ) → P 0 → P k → (q : ℕ) (a b : Bool) → eqb q 0 ≡ a → eqb q k ≡ b → (n : ℕ) → point a b ≡ Some n → P q
at_either P k zero_has k_has q true b ea eb n e = subst P (sym (eqb-true q 0 ea)) zero_has
at_either P k zero_has k_has q false true ea eb n e = subst P (sym (eqb-true q k eb)) k_has
at_either P k zero_has k_has q false false ea eb n e = absurd (cc)

-- what node 0 had when its reply was taken was on its disk one move later
is_kept : IsKept no_start one moves 1 0 25 26
is_kept = record {
  in_order = (omega arith);
  whole = λ n least most. elim (cases_lt n 26) [
    | inl lt ↦ subst (λ m. 2 ≤ length ((nodes_at no_start one moves 1 m).journal 0)) (let is : 25 ≡ n = omega arith in is) (omega arith)
    | inr ge ↦ subst (λ m. 2 ≤ length ((nodes_at no_start one moves 1 m).journal 0)) (let is : 26 ≡ n = omega arith in is) (omega arith)
  ];
  on_disk = (omega arith);
}

reading_is_one : IsCrashLifeRead no_start one moves 1 reading 26
reading_is_one = record {
  reads = record { only = refl; one = (120 ∷ [], refl) };
  in_order = (omega arith);
  many = (omega arith);
  later = λ q n e. let is = looked_at n (eqb q 0) (eqb q 2) e in omega arith;
  here = λ q n e.
      subst (λ m. (generations_at no_start one moves m).has_opened 1 q ≡ true) (looked_at n (eqb q 0) (eqb q 2) e)
      (at_either (λ r. (generations_at no_start one moves 22).has_opened 1 r ≡ true) 2 refl refl q (eqb q 0) (eqb q 2) refl refl n e);
  reader = refl;
  kept = is_kept;
  executed = λ q n i e k.
      subst (λ is. Has is i) (sym executes)
      (at_either (λ r. Has (found (state_at no_start one moves 1 22 r) get_x) i → Has (instance_of 1 1 ∷ []) i) 2
      (λ h. absurd (none_in i (subst (λ is. Has is i) finds_0 h))) (λ h. subst (λ is. Has is i) finds_2 h) q (eqb q 0) (eqb q 2) refl refl n e
      (subst (λ m. Has (found (state_at no_start one moves 1 m q) get_x) i) (sym (looked_at n (eqb q 0) (eqb q 2) e)) k));
}

-- so it is answered the value of that put, and not that of the generation before, which node 0 would have answered when it was asked
reading_reports : map (λ n. node_reply no_start one moves 1 (record reading { answered = n })) (21 ∷ 25 ∷ []) ≡ Present (49 ∷ []) ∷ (Present (50 ∷ []) ∷ [])
reading_reports = refl

-- In the first generation, which node 0 has closed, a read is answered so: nodes 0 and 1 are looked at when the next one is open.

abbrev closed_reading : Read
closed_reading = record { command = get_x; reader = 0; asked = 14; looked = λ q. point (eqb q 0) (eqb q 1); answered = 22 }

closed_finds_0 : found (state_at no_start one moves 0 22 0) get_x ≡ instance_of 0 1 ∷ instance_of 0 2 ∷ []
closed_finds_0 = refl

closed_finds_1 : found (state_at no_start one moves 0 22 1) get_x ≡ instance_of 0 1 ∷ instance_of 0 2 ∷ []
closed_finds_1 = refl

closed_executes : (state_at no_start one moves 0 22 0).executed ≡ instance_of 0 1 ∷ instance_of 0 2 ∷ []
closed_executes = refl

closed_is_one : IsCrashLifeRead no_start one moves 0 closed_reading 22
closed_is_one = record {
  reads = record { only = refl; one = (120 ∷ [], refl) };
  in_order = (omega arith);
  many = (omega arith);
  later = λ q n e. let is = looked_at n (eqb q 0) (eqb q 1) e in omega arith;
  here = λ q n e.
      subst (λ m. (generations_at no_start one moves m).has_opened 0 q ≡ true) (looked_at n (eqb q 0) (eqb q 1) e)
      (at_either (λ r. (generations_at no_start one moves 22).has_opened 0 r ≡ true) 1 refl refl q (eqb q 0) (eqb q 1) refl refl n e);
  reader = refl;
  kept = record {
    in_order = (omega arith);
    whole = λ n least most. subst (λ m. 6 ≤ length ((nodes_at no_start one moves 0 m).journal 0)) (let is : 22 ≡ n = omega arith in is) (omega arith);
    on_disk = (omega arith);
  };
  executed = λ q n i e k.
      subst (λ is. Has is i) (sym closed_executes)
      (at_either (λ r. Has (found (state_at no_start one moves 0 22 r) get_x) i → Has (instance_of 0 1 ∷ instance_of 0 2 ∷ []) i) 1
      (λ h. subst (λ is. Has is i) closed_finds_0 h) (λ h. subst (λ is. Has is i) closed_finds_1 h) q (eqb q 0) (eqb q 1) refl refl n e
      (subst (λ m. Has (found (state_at no_start one moves 0 m q) get_x) i) (sym (looked_at n (eqb q 0) (eqb q 1) e)) k));
}

closed_reports : node_reply no_start one moves 0 closed_reading ≡ Closed
closed_reports = refl

-- the life that stands has the put and the seal of the first generation, and the put of the next one; what a crash took isn't in it
lived_history : one_history empty one (life_of moves)
    ≡ record { generation = 0; operation = put_as 0 49 } ∷ (record { generation = 0; operation = record { instance = instance_of 0 2; command = Seal (7 ∷ []) } }
    ∷ (record { generation = 1; operation = put_as 1 50 } ∷ []))
lived_history = refl

lived_turns : map (λ n. length (life_to moves n)) (21 ∷ 22 ∷ 23 ∷ 25 ∷ 26 ∷ []) ≡ 15 ∷ 15 ∷ 15 ∷ 17 ∷ 17 ∷ []
lived_turns = refl
