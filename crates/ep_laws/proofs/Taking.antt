-- Every run's history takes its reads.
use Rattle.std.proofs.Common.{◌≡◌, ℕ, zero, suc, ◌<◌, ◌≤◌, true, inl, inr, List, length, take, get_or, sym, ap, subst, ◌∙◌, arith}
use Rattle.std.proofs.lemmas.Bool.{cases_lt}
use Rattle.ep_base.specs.Commands.{Command}
use Rattle.ep_base.specs.Interference.{only_reads}
use Rattle.ep_base.specs.Places.{place, Has}
use Rattle.ep_base.specs.Quorums.{size}
use Rattle.ep_base.proofs.Places.{Has-empty}
use Rattle.ep_rules.specs.OneMap.{Store, reply, after_commands}
use Rattle.ep_rules.specs.Operations.{Operation, instances_of, commands_of, history_of}
use Rattle.ep_rules.specs.Worlds.{opening, Act, IsRun}
use Rattle.ep_rules.proofs.OnceDone.{as_once}
use Rattle.ep_rules.proofs.Places.{Once}
use Rattle.ep_laws.specs.AheadReads.{HistoriesTakeAheadReads}
use Rattle.ep_laws.specs.Reads.{Read, reply_of, IsBetween}
use Rattle.ep_laws.specs.RealTime.{KeepsRealTime}
use Rattle.ep_laws.specs.WithReads.{Item, operations_in, reads_in, place_asked, place_done, IsHistoryWith, HistoriesTakeReads}
use Rattle.ep_laws.proofs.InTurn.{reads_keep_real_time_lem, short_of_all}
use Rattle.ep_laws.proofs.Placing.{insert, all_done, done_operations, done_reads, done_before, spot, insert_operations, insert_back, insert_new, insert_old, insert_once, insert_at, insert_keeps, insert_behind, insert_orders, spot_before, spot_after, place_is_spot, read_reported, done_reported}
use Rattle.ep_laws.proofs.Looking.{seen_at}
use Rattle.ep_laws.proofs.Reading.{is_ahead, ahead_reads_are_linearizable_lem}

module _ (base : Store) (f : ℕ) (some : 0 < f) (few : size f ≤ 256) (acts : List Act) (run : IsRun f (opening base) acts) (reads : ℕ → Read) where
  abbrev h : List Operation
  h = history_of base f acts

  -- the read k may stand behind p operations
  record May (k p : ℕ) : Type 0 where
    between : IsBetween base f acts (reads k) p
    reported : reply_of base f acts (reads k) ≡ reply (after_commands base (commands_of (take p h))) (reads k).command

  -- the history with the first n reads
  record Built (n : ℕ) (s : List Item) : Type 0 where
    operations : operations_in s ≡ h
    once : Once (reads_in s)
    back : (k : ℕ) → Has (reads_in s) k → k < n
    forth : (k : ℕ) → k < n → Has (reads_in s) k
    may : (k : ℕ) → k < n → May k (done_before s k)
    in_turn : (j k : ℕ) → j < k → k < n → (reads j).answered ≤ (reads k).asked → place_asked s j < place_asked s k

  none_built : Built 0 (all_done h)
  none_built = record {
    operations = done_operations h;
    once = subst Once (sym (done_reads h)) tt;
    back = λ k m. absurd (Has-empty k (subst (λ is. Has is k) (done_reads h) m));
    forth = λ k lt. absurd (omega arith);
    may = λ k lt. absurd (omega arith);
    in_turn = λ j k l lt. absurd (omega arith);
  }

  keeps : (k p : ℕ) → May k p → KeepsRealTime base f acts (reads k) p
  keeps k p m = reads_keep_real_time_lem base f some few acts run (reads k) p m.between

  module _ (n : ℕ) (s : List Item) (b : Built n s) (p : ℕ) (m : May n p) where
    abbrev next : List Item
    next = insert s p n

    out : ¬ Has (reads_in s) n
    out k = let l = b.back n k in omega arith

    fits : p ≤ length (operations_in s)
    fits = subst (λ os. p ≤ length os) (sym b.operations) (short_of_all base f some few acts run (reads n).answered p m.between.answered)

    other : (k : ℕ) → k < n → n ≡ k → ⊥
    other k lt e = omega arith

    may_next : (k : ℕ) → k < suc n → May k (done_before next k)
    may_next k lt = elim (cases_lt k n) [
      | inl l ↦ subst (λ d. May k d) (sym (insert_keeps s p n k (other k l) (b.forth k l))) (b.may k l)
      | inr ge ↦ (let is : n ≡ k = omega arith in subst (λ j. May j (done_before next j)) is (subst (λ d. May n d) (sym (insert_at s p n out fits)) m))
    ]

    turn_next : (j k : ℕ) → j < k → k < suc n → (reads j).answered ≤ (reads k).asked → place_asked next j < place_asked next k
    turn_next j k l lt le = elim (cases_lt k n) [
      | inl small ↦ (let lj : j < n = omega arith in insert_orders s p n j k (other j lj) (other k small) (b.in_turn j k l small le))
      | inr ge ↦ (
          let is : n ≡ k = omega arith in
          let lj : j < n = omega arith in
          let to : (reads j).answered ≤ (reads n).asked = subst (λ i. (reads j).answered ≤ (reads i).asked) (sym is) le in
          let low : done_before s j ≤ p = (keeps j (done_before s j) (b.may j lj)).in_turn (reads n) p to m.between in
          subst (λ i. place_asked next j < place_asked next i) is (insert_behind s p n j out (b.forth j lj) low))
    ]

    one_more : Built (suc n) next
    one_more = record {
      operations = insert_operations s p n ∙ b.operations;
      once = insert_once s p n b.once out;
      back = λ k i. elim (insert_back s p n k i) [ inl e ↦ omega arith | inr o ↦ (let l = b.back k o in omega arith) ];
      forth = λ k lt. elim (cases_lt k n) [
        | inl l ↦ insert_old s p n k (b.forth k l)
        | inr ge ↦ (let is : n ≡ k = omega arith in subst (λ j. Has (reads_in next) j) is (insert_new s p n))
      ];
      may = may_next;
      in_turn = turn_next;
    }

  build : (n : ℕ) → ((k : ℕ) → k < n → (p : ℕ) × May k p) → (s : List Item) × Built n s
  build zero may = (all_done h, none_built)
  build (suc n) may =
      let t = build n (λ k lt. may k (omega arith)) in
      let m = may n (omega arith) in
      (insert t.0 m.0 n, one_more n t.0 t.1 m.0 m.1)

  module _ (n : ℕ) (reading : (k : ℕ) → k < n → only_reads (reads k).command ≡ true) (s : List Item) (b : Built n s) where
    abbrev q : ℕ → Command
    q j = (reads j).command

    only : (j : ℕ) → Has (reads_in s) j → only_reads (q j) ≡ true
    only j k = reading j (b.back j k)

    has_done : (i : ℕ) → Has (instances_of h) i → Has (instances_of (operations_in s)) i
    has_done i k = subst (λ os. Has (instances_of os) i) (sym b.operations) k

    stands : (i : ℕ) → Has (instances_of h) i → place_done s i ≡ spot s (place (instances_of h) i)
    stands i k = place_is_spot s i (has_done i k) ∙ ap (λ os. spot s (place (instances_of os) i)) b.operations

    is_history_with : IsHistoryWith base f acts reads n s
    is_history_with = record {
      operations = b.operations;
      once = as_once (reads_in s) b.once;
      complete = λ k. (b.back k, b.forth k);
      legal = λ k lt.
          (b.may k lt).reported ∙ ap (λ os. reply (after_commands base (commands_of (take (done_before s k) os))) (q k)) (sym b.operations) ∙ sym (read_reported q base s only k (b.forth k lt));
      same = λ i k. done_reported q base s only i (has_done i k) ∙ ap (λ os. get_or (Rattle.ep_rules.specs.OneMap.replies base (commands_of os)) (place (instances_of os) i) Rattle.ep_base.specs.declared.reply.Reply.TheVariants.Absent) b.operations;
      behind = λ k i a lt there m e.
          subst (λ z. z < place_asked s k) (sym (stands i there)) (spot_before s k (place (instances_of h) i) (b.forth k lt) ((keeps k (done_before s k) (b.may k lt)).behind i a there m e));
      before = λ k i c t lt there le.
          subst (λ z. place_asked s k < z) (sym (stands i there)) (spot_after s k (place (instances_of h) i) (b.forth k lt) ((keeps k (done_before s k) (b.may k lt)).before i c t there le));
      in_turn = b.in_turn;
    }

pub histories_take_ahead_reads_lem : HistoriesTakeAheadReads
histories_take_ahead_reads_lem base f some few acts run reads seen n are =
    let t = build base f some few acts run reads n
    (λ k lt. let r = ahead_reads_are_linearizable_lem base f some few acts run (reads k) (seen k) (are k lt) in (r.0, record { between = r.1; reported = r.2 })) in
    (t.0, is_history_with base f some few acts run reads n (λ k lt. (are k lt).reads.only) t.0 t.1)

pub histories_take_reads_lem : HistoriesTakeReads
histories_take_reads_lem base f some few acts run reads n are =
    histories_take_ahead_reads_lem base f some few acts run reads (λ k. seen_at base f some few acts run (reads k).looked) n (λ k lt. is_ahead base f some few acts run (reads k) (are k lt))
