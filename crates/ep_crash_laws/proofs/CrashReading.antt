-- Reads of nodes that crash are reads of the run that is left.
use Rattle.std.proofs.Common.{◌≡◌, ℕ, ◌+◌, ◌<◌, ◌≤◌, inl, inr, Option, is_some, List, [], ◌∷◌, ◌++◌, length, take, drop, refl, sym, ap, subst, ◌∙◌, arith, append_assoc, length-append}
use Rattle.std.proofs.Math.Seq.{take-append_seam}
use Rattle.std.proofs.lemmas.Bool.{cases_eq}
use Rattle.std.proofs.lemmas.List.{take-append-drop, take_all}
use Rattle.ep_base.specs.Places.{Has}
use Rattle.ep_base.specs.Quorums.{size}
use Rattle.ep_rules.specs.Journals.{Entry, left, AreNumbered, Scheduled, of, acts_of}
use Rattle.ep_rules.specs.OneMap.{Store, opened, reply, after_commands}
use Rattle.ep_rules.specs.Operations.{commands_of, history_of}
use Rattle.ep_rules.specs.States.{State, fresh_state}
use Rattle.ep_rules.specs.Worlds.{World, opening, Act, IsRun, ends}
use Rattle.ep_rules.proofs.Counting.{count_le}
use Rattle.ep_rules.proofs.JournalsCommitted.{of_both, ends_left, acts_both}
use Rattle.std.specs.Option.{option_map}
use Rattle.ep_laws.specs.AheadReads.{LeadsTo, IsAheadRead}
use Rattle.ep_laws.specs.Reads.{found, world_at, Read}
use Rattle.ep_laws.proofs.Mapped.{mapped_is, mapped_back}
use Rattle.ep_laws.proofs.Reading.{ahead_reads_are_linearizable_lem}
use Rattle.ep_crash_laws.proofs.GoingOn.{goes_on}
use Rattle.ep_node.specs.Crashes.{Start, Cluster, fresh_cluster, Move, Take, HandOut, ComeBack, AreMoves, moved, without, is_beyond, stand_after, standing, IsBeginning}
use Rattle.ep_crash_laws.specs.CrashReads.{cluster_at, state_at, survive, stood, history_to, IsCrashRead, CrashReadsAreLinearizable}
use Rattle.ep_crash_laws.proofs.Standing.{Parts, parts, standing_on, standing_after, stood_all, stood_later}
use Rattle.ep_node.proofs.CrashMoves.{begins_refl, begins_trans, take_begins, numbered_take, fresh_holds, moves_hold, moves_parts}
use Rattle.ep_node.proofs.CrashOrders.{without_both, low_take, kept_here, kept_other, crashing_runs_are_linearizable_lem}
use Rattle.ep_node.proofs.CrashTraces.{out_next}

-- What moves leave of two lists, one after the other.

stand_both : (m : Move) (xs ys : List Scheduled) → stand_after m (xs ++ ys) ≡ survive m xs ++ stand_after m ys
stand_both (Take r e) xs ys = append_assoc xs ys (record { replica = r; entry = e } ∷ [])
stand_both (HandOut r n) xs ys = refl
stand_both (ComeBack r n) xs ys = without_both (is_beyond r n) xs ys

survive_both : (m : Move) (xs ys : List Scheduled) → survive m (xs ++ ys) ≡ survive m xs ++ survive m ys
survive_both (Take r e) xs ys = refl
survive_both (HandOut r n) xs ys = refl
survive_both (ComeBack r n) xs ys = without_both (is_beyond r n) xs ys

pub are_parts : Parts stand_after survive
are_parts = record { both = stand_both; outlast_both = survive_both }

-- what survives moves of a node's entries begins them
survives_begin : (late : List Move) (xs : List Scheduled) (q : ℕ) → AreNumbered 1 0 (of q xs) → IsBeginning (of q (standing survive xs late)) (of q xs) × AreNumbered 1 0 (of q (standing survive xs late))
survives_begin [] xs q numbered = (begins_refl (of q xs), numbered)
survives_begin (Take r e ∷ late) xs q numbered = survives_begin late xs q numbered
survives_begin (HandOut r n ∷ late) xs q numbered = survives_begin late xs q numbered
survives_begin (ComeBack r n ∷ late) xs q numbered =
    let is = fewer in
    let t = survives_begin late (without (is_beyond r n) xs) q (subst (AreNumbered 1 0) (sym is.1) (numbered_take is.0 (of q xs) numbered)) in
    (begins_trans (of q (standing survive (without (is_beyond r n) xs) late)) (of q (without (is_beyond r n) xs)) (of q xs) t.0 (subst (λ es. IsBeginning es (of q xs)) (sym is.1) (take_begins is.0 (of q xs))), t.1)
  where
    fewer : (k : ℕ) × (of q (without (is_beyond r n) xs) ≡ take k (of q xs))
    fewer = elim (cases_eq r q) [
      | inl e ↦ (n, subst (λ z. of z (without (is_beyond r n) xs) ≡ take n (of z xs)) e (kept_here r n xs ∙ low_take n 1 n 0 (of r xs) (subst (λ z. AreNumbered 1 0 (of z xs)) (sym e) numbered) (omega arith)))
      | inr ne ↦ (length (of q xs), kept_other r n q xs ne ∙ sym (take_all (length (of q xs)) (of q xs) (omega arith)))
    ]

module _ (start : Start) (f : ℕ) (some : 0 < f) (few : size f ≤ 256) where
  -- no crash takes entries that were handed out of
  surv_own : (late : List Move) (c : Cluster) (these : List Scheduled) (q : ℕ) (J : List Entry) → AreMoves start f c late → of q these ≡ J → AreNumbered 1 0 J → length J ≤ c.out q → of q (standing survive these late) ≡ J
  surv_own [] c these q J are own numbered low = own
  surv_own (Take r e ∷ late) c these q J are own numbered low =
      surv_own late (moved c (Take r e)) these q J are.1 own numbered (let o = out_next start f c (Take r e) are.0 q in omega arith)
  surv_own (HandOut r n ∷ late) c these q J are own numbered low =
      surv_own late (moved c (HandOut r n)) these q J are.1 own numbered (let o = out_next start f c (HandOut r n) are.0 q in omega arith)
  surv_own (ComeBack r n ∷ late) c these q J are own numbered low =
      surv_own late (moved c (ComeBack r n)) (without (is_beyond r n) these) q J are.1 still numbered (let o = out_next start f c (ComeBack r n) are.0 q in omega arith)
    where
      still : of q (without (is_beyond r n) these) ≡ J
      still = elim (cases_eq r q) [
        | inl e ↦ (
            let least = are.0.1.least in
            let at : c.out r ≡ c.out q = ap c.out e in
            subst (λ z. of z (without (is_beyond r n) these) ≡ J) e
            (kept_here r n these ∙ low_take n 1 n 0 (of r these) (subst (AreNumbered 1 0) (sym (ap (λ z. of z these) e ∙ own)) numbered) (omega arith)
            ∙ ap (take n) (ap (λ z. of z these) e ∙ own) ∙ take_all n J (omega arith)))
        | inr ne ↦ kept_other r n q these ne ∙ own
      ]

  module _ (moves : List Move) (are : AreMoves start f fresh_cluster moves) where
    abbrev base : Store
    base = opened start.map

    abbrev acts : List Act
    acts = acts_of (standing stand_after [] moves)

    run : IsRun f (opening base) acts
    run = (crashing_runs_are_linearizable_lem start f some few moves are).run

    abbrev A : ℕ → ℕ
    A n = length (acts_of (stood stand_after survive moves n))

    part : (n : ℕ) → take (A n) acts ≡ acts_of (stood stand_after survive moves n)
    part n =
        let t = stood_all stand_after survive are_parts moves n in
        ap (take (A n)) (ap acts_of t.1 ∙ acts_both (stood stand_after survive moves n) t.0) ∙ take-append_seam (acts_of (stood stand_after survive moves n)) (acts_of t.0)

    rises : (a n : ℕ) → a ≤ n → A a ≤ A n
    rises a n le =
        let t = stood_later stand_after survive are_parts moves a n le in
        let e : A n ≡ A a + length (acts_of t.0) = ap length (ap acts_of t.1 ∙ acts_both (stood stand_after survive moves a) t.0) ∙ length-append (acts_of (stood stand_after survive moves a)) (acts_of t.0) in
        omega arith

    two : (n : ℕ) → AreMoves start f fresh_cluster (take n moves) × AreMoves start f (cluster_at moves n) (drop n moves)
    two n = moves_parts start f fresh_cluster (take n moves) (drop n moves) (subst (AreMoves start f fresh_cluster) (sym (take-append-drop n moves)) are)

    own : (n q : ℕ) → (cluster_at moves n).out q ≡ length ((cluster_at moves n).journal q) → of q (stood stand_after survive moves n) ≡ (cluster_at moves n).journal q
    own n q disk =
        let holds = moves_hold start f fresh_cluster (take n moves) (fresh_holds start f) (two n).0 in
        surv_own (drop n moves) (cluster_at moves n) (standing stand_after [] (take n moves)) q ((cluster_at moves n).journal q) (two n).1
        ((crashing_runs_are_linearizable_lem start f some few (take n moves) (two n).0).own q) (holds.local q).0 (omega arith)

    -- whose entries are all on the disk has the state that the run leaves
    same_state : (n q : ℕ) → (cluster_at moves n).out q ≡ length ((cluster_at moves n).journal q) → state_at start f moves n q ≡ (world_at base f acts (A n)).states q
    same_state n q disk =
        ap (left f q (fresh_state base)) (sym (own n q disk))
        ∙ sym (ap (λ these. (ends f (opening base) these).states q) (part n) ∙ ends_left f q (stood stand_after survive moves n) (opening base))

    same_history : (n : ℕ) → history_of base f (take (A n) acts) ≡ history_to start f moves n
    same_history n = ap (history_of base f) (part n)

    -- what was done by a and stands in the end begins each node's entries at a later point
    begins : (a n : ℕ) → a ≤ n → (q : ℕ) → IsBeginning (of q (stood stand_after survive moves a)) (of q (standing stand_after [] (take n moves)))
    begins a n le q =
        let t = parts a n moves le in
        let was : List Scheduled = standing stand_after [] (take a moves) in
        let xs : List Scheduled = standing survive was t.0 in
        let new : List Scheduled = standing stand_after [] t.0 in
        let numbered : AreNumbered 1 0 (of q was) =
        subst (AreNumbered 1 0) (sym ((crashing_runs_are_linearizable_lem start f some few (take a moves) (two a).0).own q)) ((moves_hold start f fresh_cluster (take a moves) (fresh_holds start f) (two a).0).local q).0 in
        let first = survives_begin t.0 was q numbered in
        let last = survives_begin (drop n moves) xs q first.1 in
        let early : stood stand_after survive moves a ≡ standing survive xs (drop n moves) = ap (standing survive was) (sym t.2) ∙ standing_on survive t.0 (drop n moves) was in
        let late : standing stand_after [] (take n moves) ≡ xs ++ new =
        ap (standing stand_after []) (sym t.1) ∙ standing_on stand_after (take a moves) t.0 [] ∙ standing_after stand_after survive are_parts t.0 was in
        subst (λ these. IsBeginning (of q these) (of q (standing stand_after [] (take n moves)))) (sym early)
        (subst (λ these. IsBeginning (of q (standing survive xs (drop n moves))) (of q these)) (sym late)
        (subst (IsBeginning (of q (standing survive xs (drop n moves)))) (sym (of_both q xs new))
        (begins_trans (of q (standing survive xs (drop n moves))) (of q xs) (of q xs ++ of q new) last.0 (of q new, refl))))

    -- steps lead from there to the state that a node has later, with what isn't on its disk
    leads : (a n q : ℕ) → a ≤ n → LeadsTo base f acts (A a) q (state_at start f moves n q)
    leads a n q le =
        let then : List Scheduled = standing stand_after [] (take n moves) in
        let real = crashing_runs_are_linearizable_lem start f some few (take n moves) (two n).0 in
        let t = goes_on f (stood stand_after survive moves a) then (opening base) real.run (begins a n le) in
        subst (λ (w : World). (late : List Act) × IsRun f w late × ((ends f w late).states q ≡ state_at start f moves n q)) (sym (ap (ends f (opening base)) (part a)))
        (t.late, t.run, t.same q ∙ ends_left f q then (opening base) ∙ ap (left f q (fresh_state base)) (real.own q))

    module _ (r : Read) (is : IsCrashRead start f moves r) where
      abbrev in_run : Read
      in_run = record { command = r.command; reader = r.reader; asked = A r.asked; looked = λ q. option_map A (r.looked q); answered = A r.answered }

      abbrev seen : ℕ → Option State
      seen q = option_map (λ n. state_at start f moves n q) (r.looked q)

      is_ahead : IsAheadRead base f acts in_run seen
      is_ahead = record {
        reads = is.reads;
        in_order = rises r.asked r.answered is.in_order;
        many = (
            let m = is.many in
            let le = count_le (size f) (λ q. is_some (r.looked q)) (λ q. is_some (seen q)) (λ q lt e. mapped_is (λ n. state_at start f moves n q) (r.looked q) e) in
            omega arith);
        goes_on = λ q s e.
            let t = mapped_back (λ n. state_at start f moves n q) (r.looked q) s e in
            subst (LeadsTo base f acts (A r.asked) q) t.2 (leads r.asked t.0 q (is.later q t.0 t.1));
        executed = λ q i s e k.
            let t = mapped_back (λ n. state_at start f moves n q) (r.looked q) s e in
            subst (λ (z : State). Has z.executed i) (same_state r.answered r.reader is.reader)
            (is.executed q t.0 i t.1 (subst (λ (z : State). Has (found z r.command) i) (sym t.2) k));
      }

      placed : (p : ℕ) × (length (history_to start f moves r.asked) ≤ p) × (p ≤ length (history_to start f moves r.answered))
          × (reply (state_at start f moves r.answered r.reader).store r.command ≡ reply (after_commands base (commands_of (take p (history_of base f acts)))) r.command)
      placed =
          let t = ahead_reads_are_linearizable_lem base f some few acts run in_run seen is_ahead in (
            t.0,
            subst (λ os. length os ≤ t.0) (same_history r.asked) t.1.asked,
            subst (λ os. t.0 ≤ length os) (same_history r.answered) t.1.answered,
            ap (λ (s : State). reply s.store r.command) (same_state r.answered r.reader is.reader) ∙ t.2,
          )

pub crash_reads_are_linearizable_lem : CrashReadsAreLinearizable
crash_reads_are_linearizable_lem start f some few moves are r is = placed start f some few moves are r is
