-- Reads in a life whose nodes crash are reads of the life that stands in the end, with looks that may be ahead of it.
use Rattle.std.proofs.Common.{◌≡◌, ℕ, zero, suc, ◌+◌, ◌-◌, ◌<◌, ◌≤◌, true, inl, inr, Option, Some, is_some, List, [], ◌∷◌, ◌++◌, length, take, drop, refl, sym, ap, subst, ◌∙◌, arith, length-append}
use Rattle.std.proofs.Math.Seq.{take-append_seam}
use Rattle.std.proofs.lemmas.Bool.{cases_lt}
use Rattle.std.proofs.lemmas.List.{take-append-drop, take_all}
use Rattle.std.specs.Option.{option_map}
use Rattle.ep_base.specs.Commands.{Command}
use Rattle.ep_base.specs.Interference.{only_reads}
use Rattle.ep_base.specs.Places.{Has}
use Rattle.ep_base.specs.Quorums.{size}
use Rattle.ep_base.specs.declared.reply.Reply.{Reply}
use Rattle.ep_rules.specs.Counting.{count}
use Rattle.ep_rules.specs.Generations.{Turn, Steps, birth, IsLife, lived, acts_in, opening_map, history_in}
use Rattle.ep_rules.specs.Journals.{Entry, left, AreNumbered, Scheduled, of, act_of, acts_of}
use Rattle.ep_rules.specs.OneMap.{Contents, Store, opened, reply, after_commands}
use Rattle.ep_rules.specs.Operations.{Operation, commands_of, history_of}
use Rattle.ep_rules.specs.States.{State, fresh_state}
use Rattle.ep_rules.specs.Steps.{order_of}
use Rattle.ep_rules.specs.Worlds.{World, opening, Act, In, IsRun, ends}
use Rattle.ep_rules.proofs.Counting.{count_le}
use Rattle.ep_rules.proofs.JournalsCommitted.{of_both, ends_left}
use Rattle.ep_rules.proofs.Lives.{acts_both as turn_acts_both}
use Rattle.ep_rules.proofs.Merged.{of_in}
use Rattle.ep_rules.proofs.RunHistories.{history_grows_lem}
use Rattle.ep_laws.specs.AheadReads.{LeadsTo, IsAheadRead, IsAheadWholeRead}
use Rattle.ep_laws.specs.Reads.{found, world_at, Read}
use Rattle.ep_laws.specs.LifeReads.{life_at, history_to, IsRightOrClosed}
use Rattle.ep_laws.specs.LifeOrder.{IsRight, KeepsLifeTime}
use Rattle.ep_laws.proofs.LifeOrdering.{keeps}
use Rattle.ep_laws.proofs.LifeReading.{base, acts, A, part, rises, run, same_history, in_run, right_or_closed}
use Rattle.ep_laws.proofs.Mapped.{mapped_is, mapped_back}
use Rattle.ep_laws.proofs.Reading.{ahead_reads_are_linearizable_lem}
use Rattle.ep_laws.proofs.WholeReading.{ahead_whole_reads_are_linearizable_lem}
use Rattle.ep_node.specs.Crashes.{Start, handed_out, standing, IsBeginning}
use Rattle.ep_node.specs.CrashLives.{Generations, newborn, LifeMove, AreLifeMoves, life_after, Stood, stand_on, taken_in, turns_of, IsLifeInRealTime}
use Rattle.ep_node.proofs.CrashLives.{taken_both, acts_taken, crashing_lives_are_linearizable_lem}
use Rattle.ep_node.proofs.CrashMoves.{begins_trans, take_begins, takes_begin, in_begins, numbered_take}
use Rattle.ep_node.proofs.LifeStays.{numbered_after}
use Rattle.ep_crash_laws.specs.CrashReads.{stood}
use Rattle.ep_crash_laws.specs.CrashLifeReads.{generations_at, nodes_at, state_at, outlast, life_of, life_to, in_life, IsKept, IsCrashLifeRead, node_reply, CrashLifeReadsAreLinearizable, IsCrashLifeWholeRead, CrashLifeWholeReadsAreLinearizable, KeepsCrashTime, CrashLifeReadsKeepRealTime}
use Rattle.ep_crash_laws.proofs.GoingOn.{goes_on}
use Rattle.ep_crash_laws.proofs.LifeStanding.{turns_both, are_parts, taken_turn, opened_still, moves_parts, after_both, map_stays, out_grows, Keeps, outlasting}
use Rattle.ep_crash_laws.proofs.Standing.{parts, standing_on, standing_after, stood_all, stood_later}

take_both : {X : Type 0} (a k : ℕ) (xs : List X) → take a xs ++ take k (drop a xs) ≡ take (a + k) xs
take_both zero k xs = ap (λ m. take m xs) (let e : k ≡ 0 + k = omega arith in e)
take_both (suc a) zero [] = sym (take_all (suc a + 0) [] (omega arith))
take_both (suc a) (suc k) [] = sym (take_all (suc a + suc k) [] (omega arith))
take_both {X} (suc a) k (x ∷ xs) = ap (λ (ys : List X). x ∷ ys) (take_both a k xs) ∙ ap (λ m. take m (x ∷ xs)) (let e : suc (a + k) ≡ suc a + k = omega arith in e)

module _ (start : Start) (f : ℕ → ℕ) (sizes : (g : ℕ) → (0 < f g) × (size (f g) ≤ 256)) (moves : List LifeMove) (are : AreLifeMoves f (newborn start) moves) where
  abbrev turns : List Turn
  turns = life_of moves

  final : IsLifeInRealTime start f (life_after f (newborn start) moves) (standing stand_on [] moves)
  final = crashing_lives_are_linearizable_lem start f sizes moves are

  life : IsLife f (birth start.map) turns
  life = final.life

  -- The nodes at a point.

  abbrev at : ℕ → Generations
  at n = generations_at start f moves n

  -- what stands at a point of what was done before, and of that in the end

  abbrev now : ℕ → List Stood
  now n = standing stand_on [] (take n moves)

  abbrev lasts : ℕ → List Stood
  lasts n = stood stand_on outlast moves n

  two : (n : ℕ) → AreLifeMoves f (newborn start) (take n moves) × AreLifeMoves f (at n) (drop n moves)
  two n = moves_parts f (take n moves) (drop n moves) (newborn start) (subst (AreLifeMoves f (newborn start)) (sym (take-append-drop n moves)) are)

  so_far : (n : ℕ) → IsLifeInRealTime start f (at n) (now n)
  so_far n = crashing_lives_are_linearizable_lem start f sizes (take n moves) (two n).0

  last_is : (n : ℕ) → life_after f (at n) (drop n moves) ≡ life_after f (newborn start) moves
  last_is n = sym (after_both f (take n moves) (drop n moves) (newborn start)) ∙ ap (life_after f (newborn start)) (take-append-drop n moves)

  later_is : (a k : ℕ) → life_after f (at a) (take k (drop a moves)) ≡ at (a + k)
  later_is a k = sym (after_both f (take a moves) (take k (drop a moves)) (newborn start)) ∙ ap (life_after f (newborn start)) (take_both a k moves)

  -- who has opened a generation opened it with the map with which it opens in the end
  map_is : (n g q : ℕ) → (at n).has_opened g q ≡ true → (at n).map g q ≡ opening_map start.map f turns g
  map_is n g q o =
      let t = map_stays f (at n) (drop n moves) (two n).1 g q o in
      sym t.1 ∙ ap (λ (l : Generations). l.map g q) (last_is n) ∙ final.maps g q (ap (λ (l : Generations). l.has_opened g q) (sym (last_is n)) ∙ t.0)

  state_is : (n g q : ℕ) → (at n).has_opened g q ≡ true → state_at start f moves g n q ≡ left (f g) q (fresh_state (opened (opening_map start.map f turns g))) ((nodes_at start f moves g n).journal q)
  state_is n g q o = ap (λ (m : Contents). left (f g) q (fresh_state (opened m)) ((nodes_at start f moves g n).journal q)) (map_is n g q o)

  numbered_at : (n g q : ℕ) → AreNumbered 1 0 (of q (taken_in g (now n)))
  numbered_at n g q = subst (AreNumbered 1 0) (sym ((so_far n).own g q)) (numbered_after f (newborn start) (take n moves) (two n).0 (λ h r. tt) g q)

  out_later : (a n g q : ℕ) → a ≤ n → (nodes_at start f moves g a).out q ≤ (nodes_at start f moves g n).out q
  out_later a n g q le =
      let k : ℕ = n - a in
      let is : a + k ≡ n = omega arith in
      let these = (moves_parts f (take k (drop a moves)) (drop k (drop a moves)) (at a) (subst (AreLifeMoves f (at a)) (sym (take-append-drop k (drop a moves))) (two a).1)).0 in
      subst (λ (l : Generations). ((at a).cluster g).out q ≤ (l.cluster g).out q) (later_is a k ∙ ap at is) (out_grows f (at a) (take k (drop a moves)) these g q)

  -- what was handed out of at a point is still there later
  still_there : (a n g q : ℕ) → a ≤ n → (nodes_at start f moves g a).out q ≤ length ((nodes_at start f moves g n).journal q)
  still_there a n g q le = let o = out_later a n g q le in let w = ((so_far n).runs g).within q in omega arith

  -- a node that has at least h entries from a point on keeps these to the end
  keeps_to_end : (g q a h : ℕ) → ((n : ℕ) → a ≤ n → h ≤ length ((nodes_at start f moves g n).journal q)) → Keeps h ((nodes_at start f moves g a).journal q) (of q (taken_in g (lasts a)))
  keeps_to_end g q a h low = subst (λ js. Keeps h js (of q (taken_in g (lasts a)))) ((so_far a).own g q)
      (outlasting f g q h (drop a moves) (at a) (now a) (two a).1 (numbered_at a g q) (λ k. subst (λ (l : Generations). h ≤ length ((l.cluster g).journal q)) (sym (later_is a k)) (low (a + k) (omega arith))))

  -- The life that stands.

  abbrev point : ℕ → ℕ
  point n = length (life_to moves n)

  part_is : (n : ℕ) → take (point n) turns ≡ life_to moves n
  part_is n =
      let t = stood_all stand_on outlast are_parts moves n in
      ap (take (point n)) (ap turns_of t.1 ∙ turns_both (lasts n) t.0) ∙ take-append_seam (life_to moves n) (turns_of t.0)

  points_rise : (a n : ℕ) → a ≤ n → point a ≤ point n
  points_rise a n le =
      let t = stood_later stand_on outlast are_parts moves a n le in
      let e : point n ≡ point a + length (turns_of t.0) = ap length (ap turns_of t.1 ∙ turns_both (lasts a) t.0) ∙ length-append (life_to moves a) (turns_of t.0) in
      omega arith

  opened_then : (n : ℕ) → (life_at start.map f turns (point n)).has_opened ≡ (at n).has_opened
  opened_then n = ap (λ ts. (lived f (birth start.map) ts).has_opened) (part_is n) ∙ opened_still f (birth start.map) (newborn start) (take n moves) (drop n moves) refl

  module _ (g : ℕ) where
    abbrev first : Store
    first = base start.map f sizes turns life g

    abbrev these : List Act
    these = acts start.map f sizes turns life g

    -- how many of the generation's acts stand in the end that were done by then
    abbrev count_to : ℕ → ℕ
    count_to n = A start.map f sizes turns life g (point n)

    world_is : (n : ℕ) → world_at first (f g) these (count_to n) ≡ ends (f g) (opening first) (acts_of (taken_in g (lasts n)))
    world_is n = ap (ends (f g) (opening first)) (part start.map f sizes turns life g (point n) ∙ ap (acts_in g) (part_is n) ∙ acts_taken g (lasts n))

    -- The reader.

    whole : (q a b : ℕ) → IsKept start f moves g q a b → of q (taken_in g (lasts a)) ≡ (nodes_at start f moves g a).journal q
    whole q a b k =
        let t = keeps_to_end g q a (length ((nodes_at start f moves g a).journal q)) (λ n le. elim (cases_lt b n) [
          | inr ge ↦ k.whole n le ge
          | inl lt ↦ (let o = k.on_disk in let s = still_there b n g q (omega arith) in omega arith)
        ]) in
        t.is ∙ take_all t.count ((nodes_at start f moves g a).journal q) t.least

    reader_is : (q a b : ℕ) → IsKept start f moves g q a b → (at a).has_opened g q ≡ true → state_at start f moves g a q ≡ (world_at first (f g) these (count_to a)).states q
    reader_is q a b k o =
        state_is a g q o ∙ ap (left (f g) q (fresh_state first)) (sym (whole q a b k))
        ∙ sym (ap (λ (w : World). w.states q) (world_is a) ∙ ends_left (f g) q (taken_in g (lasts a)) (opening first))

    -- The looks.

    -- what was done by a and stands in the end begins each node's entries at a later point
    begins : (a n : ℕ) → a ≤ n → (q : ℕ) → IsBeginning (of q (taken_in g (lasts a))) (of q (taken_in g (now n)))
    begins a n le q =
        let t = parts a n moves le in
        let xs : List Stood = standing outlast (now a) t.0 in
        let new : List Stood = standing stand_on [] t.0 in
        let both = moves_parts f t.0 (drop n moves) (at a) (subst (AreLifeMoves f (at a)) (sym t.2) (two a).1) in
        let k = outlasting f g q 0 t.0 (at a) (now a) both.0 (numbered_at a g q) (λ m. omega arith) in
        let m = outlasting f g q 0 (drop n moves) (life_after f (at a) t.0) xs both.1 (subst (AreNumbered 1 0) (sym k.is) (numbered_take k.count (of q (taken_in g (now a))) (numbered_at a g q))) (λ z. omega arith) in
        let early : of q (taken_in g (lasts a)) ≡ take m.count (of q (taken_in g xs)) =
        ap (λ ss. of q (taken_in g ss)) (ap (standing outlast (now a)) (sym t.2) ∙ standing_on outlast t.0 (drop n moves) (now a)) ∙ m.is in
        let late : now n ≡ xs ++ new = ap (standing stand_on []) (sym t.1) ∙ standing_on stand_on (take a moves) t.0 [] ∙ standing_after stand_on outlast are_parts t.0 (now a) in
        let all : of q (taken_in g (now n)) ≡ of q (taken_in g xs) ++ of q (taken_in g new) = ap (λ ss. of q (taken_in g ss)) late ∙ ap (of q) (taken_both g xs new) ∙ of_both q (taken_in g xs) (taken_in g new) in
        subst (λ (es : List Entry). IsBeginning es (of q (taken_in g (now n)))) (sym early)
        (subst (λ (es : List Entry). IsBeginning (take m.count (of q (taken_in g xs))) es) (sym all)
        (begins_trans (take m.count (of q (taken_in g xs))) (of q (taken_in g xs)) (of q (taken_in g xs) ++ of q (taken_in g new)) (take_begins m.count (of q (taken_in g xs))) (of q (taken_in g new), refl)))

    run_now : (n q : ℕ) → (at n).has_opened g q ≡ true → IsRun (f g) (opening first) (acts_of (taken_in g (now n)))
    run_now n q o =
        subst (IsRun (f g) (opening first)) (acts_taken g (now n))
        (subst (λ (m : Contents). IsRun (f g) (opening (opened m)) (acts_in g (turns_of (now n)))) (sym ((so_far n).maps g q o) ∙ map_is n g q o)
        (run start.map f sizes (turns_of (now n)) (so_far n).life g))

    leads : (a n q : ℕ) → a ≤ n → (at n).has_opened g q ≡ true → LeadsTo first (f g) these (count_to a) q (state_at start f moves g n q)
    leads a n q le o =
        let t = goes_on (f g) (taken_in g (lasts a)) (taken_in g (now n)) (opening first) (run_now n q o) (begins a n le) in
        subst (λ (w : World). (late : List Act) × IsRun (f g) w late × ((ends (f g) w late).states q ≡ state_at start f moves g n q)) (sym (world_is a))
        (t.late, t.run, t.same q ∙ ends_left (f g) q (taken_in g (now n)) (opening first) ∙ ap (left (f g) q (fresh_state first)) ((so_far n).own g q) ∙ sym (state_is n g q o))

    module _ (looked : ℕ → Option ℕ) where
      abbrev seen : ℕ → Option State
      seen q = option_map (λ n. state_at start f moves g n q) (looked q)

      many_seen : f g < count (size (f g)) (λ q. is_some (looked q)) → f g < count (size (f g)) (λ q. is_some (seen q))
      many_seen m =
          let le = count_le (size (f g)) (λ q. is_some (looked q)) (λ q. is_some (seen q)) (λ q lt e. mapped_is (λ n. state_at start f moves g n q) (looked q) e) in
          omega arith

      goes_on_seen : (a : ℕ) → ((q n : ℕ) → looked q ≡ Some n → a ≤ n) → ((q n : ℕ) → looked q ≡ Some n → (at n).has_opened g q ≡ true) → (q : ℕ) (s : State) → seen q ≡ Some s →
          LeadsTo first (f g) these (count_to a) q s
      goes_on_seen a later here q s e =
          let t = mapped_back (λ n. state_at start f moves g n q) (looked q) s e in
          subst (LeadsTo first (f g) these (count_to a) q) t.2 (leads a t.0 q (later q t.0 t.1) (here q t.0 t.1))

      found_then : (c : Command) (r a b : ℕ) → IsKept start f moves g r a b → (at a).has_opened g r ≡ true →
          ((q n i : ℕ) → looked q ≡ Some n → Has (found (state_at start f moves g n q) c) i → Has (state_at start f moves g a r).executed i) →
          (q i : ℕ) (s : State) → seen q ≡ Some s → Has (found s c) i → Has ((world_at first (f g) these (count_to a)).states r).executed i
      found_then c r a b kept o executed q i s e k =
          let t = mapped_back (λ n. state_at start f moves g n q) (looked q) s e in
          subst (λ (z : State). Has z.executed i) (reader_is r a b kept o) (executed q t.0 i t.1 (subst (λ (z : State). Has (found z c) i) (sym t.2) k))

    -- a reply behind p operations of the generation, among which all are that were executed at the point a
    right_then : (c : Command) (y : Reply) (a p : ℕ) → only_reads c ≡ true → length (history_to start.map f turns g (point a)) ≤ p →
        y ≡ reply (after_commands first (commands_of (take p (history_in start.map f turns g)))) c → IsRightOrClosed start.map f turns g c y ((at a).has_opened (suc g)) p
    right_then c y a p only le is =
        subst (λ next. IsRightOrClosed start.map f turns g c y (next (suc g)) p) (opened_then a) (right_or_closed start.map f sizes turns life g c y (point a) p only le is)

    module _ (r : Read) where
      abbrev there : Read
      there = in_life moves r

      abbrev counted : Read
      counted = in_run start.map f sizes turns life g there

      module _ (reported : ℕ) (is : IsCrashLifeRead start f moves g r reported) where
        is_ahead : IsAheadRead first (f g) these counted (seen r.looked)
        is_ahead = record {
          reads = is.reads;
          in_order = rises start.map f sizes turns life g (point r.asked) (point r.answered) (points_rise r.asked r.answered is.in_order);
          many = many_seen r.looked is.many;
          goes_on = goes_on_seen r.looked r.asked is.later is.here;
          executed = found_then r.looked r.command r.reader r.answered reported is.kept is.reader is.executed;
        }

        right : (p : ℕ) × (length (history_to start.map f turns g there.asked) ≤ p) × (p ≤ length (history_to start.map f turns g there.answered))
            × IsRightOrClosed start.map f turns g r.command (node_reply start f moves g r) ((at r.asked).has_opened (suc g)) p
        right =
            let t = ahead_reads_are_linearizable_lem first (f g) (sizes g).0 (sizes g).1 these (run start.map f sizes turns life g) counted (seen r.looked) is_ahead in
            let asked = subst (λ os. length os ≤ t.0) (same_history start.map f sizes turns life g there.asked) t.1.asked in (
              t.0,
              asked,
              subst (λ os. t.0 ≤ length os) (same_history start.map f sizes turns life g there.answered) t.1.answered,
              right_then r.command (node_reply start f moves g r) r.asked t.0 is.reads.only asked
                  (ap (λ (s : State). reply s.store r.command) (reader_is r.reader r.answered reported is.kept is.reader) ∙ t.2),
            )

      module _ (reported : ℕ) (is : IsCrashLifeWholeRead start f moves g r reported) where
        is_ahead_whole : IsAheadWholeRead first (f g) these counted (seen r.looked)
        is_ahead_whole = record {
          only = is.only;
          many = many_seen r.looked is.many;
          goes_on = goes_on_seen r.looked r.asked is.later is.here;
          executed = found_then r.looked r.command r.reader r.asked reported is.kept is.reader is.executed;
        }

        abbrev early : List Operation
        early = history_to start.map f turns g there.asked

        -- the history up to the question begins that of the generation
        front : take (length early) (history_in start.map f turns g) ≡ early
        front =
            let a = acts_in g (take there.asked turns) in
            let b = acts_in g (drop there.asked turns) in
            let t = history_grows_lem first (f g) a b in
            ap (take (length early)) (ap (λ ts. history_of first (f g) (acts_in g ts)) (sym (take-append-drop there.asked turns)) ∙ ap (history_of first (f g)) (turn_acts_both g (take there.asked turns) (drop there.asked turns)) ∙ t.1)
            ∙ take-append_seam early t.0

        whole_right : IsRightOrClosed start.map f turns g r.command (reply (state_at start f moves g r.asked r.reader).store r.command) ((at r.asked).has_opened (suc g)) (length early)
        whole_right = right_then r.command (reply (state_at start f moves g r.asked r.reader).store r.command) r.asked (length early) is.only (omega arith) (
            ap (λ (s : State). reply s.store r.command) (reader_is r.reader r.asked reported is.kept is.reader)
            ∙ ahead_whole_reads_are_linearizable_lem first (f g) (sizes g).0 (sizes g).1 these (run start.map f sizes turns life g) counted (seen r.looked) is_ahead_whole
            ∙ ap (λ os. reply (after_commands first (commands_of os)) r.command) (same_history start.map f sizes turns life g there.asked ∙ sym front))

      -- Real time.

      module _ (reader : (at r.answered).has_opened g r.reader ≡ true) (p : ℕ) (right_at : IsRight start.map f turns g there p) where
        in_order : KeepsLifeTime start.map f turns g there p
        in_order = keeps start.map f sizes turns life g there (ap (λ o. o g r.reader) (opened_then r.answered) ∙ reader) p right_at

        -- what was handed out of stands
        stands : (k q : ℕ) (e : Entry) → In e (handed_out (nodes_at start f moves k r.asked) q) → In e (of q (taken_in k (lasts r.asked)))
        stands k q e m =
            let js : List Entry = (nodes_at start f moves k r.asked).journal q in
            let out : ℕ = (nodes_at start f moves k r.asked).out q in
            let t = keeps_to_end k q r.asked out (λ n le. still_there r.asked n k q le) in
            subst (In e) (sym t.is) (in_begins e (take out js) (take t.count js) (takes_begin out t.count js t.least) m)

        was_done : (k q : ℕ) (e : Entry) → In e (handed_out (nodes_at start f moves k r.asked) q) → (a : Scheduled) × In (Steps k (act_of a)) (take there.asked turns) × (a.entry ≡ e)
        was_done k q e m =
            let a = of_in q e (taken_in k (lasts r.asked)) (stands k q e m) in
            (a.0, subst (In (Steps k (act_of a.0))) (sym (part_is r.asked)) (taken_turn k a.0 (lasts r.asked) a.1), a.3)

        keeps_time : KeepsCrashTime start f moves g r p
        keeps_time = record {
          behind = λ k q i e m x h. (let a = was_done k q e m in in_order.behind k i (act_of a.0) h a.1 (subst (λ (z : Entry). Has (order_of z.done) i) (sym a.2) x));
          in_turn = λ k s b there_b le. in_order.in_turn k (in_life moves s) b there_b (points_rise r.answered s.asked le);
        }

pub crash_life_reads_are_linearizable_lem : CrashLifeReadsAreLinearizable
crash_life_reads_are_linearizable_lem start f sizes moves are g r reported is = right start f sizes moves are g r reported is

pub crash_life_whole_reads_are_linearizable_lem : CrashLifeWholeReadsAreLinearizable
crash_life_whole_reads_are_linearizable_lem start f sizes moves are g r reported is = whole_right start f sizes moves are g r reported is

pub crash_life_reads_keep_real_time_lem : CrashLifeReadsKeepRealTime
crash_life_reads_keep_real_time_lem start f sizes moves are g r reader p right_at = keeps_time start f sizes moves are g r reader p right_at
