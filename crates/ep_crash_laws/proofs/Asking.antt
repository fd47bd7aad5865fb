-- A read by calls of nodes is a read of the life that they lead.
use Rattle.std.proofs.Common.{◌≡◌, ℕ, zero, suc, ◌≤◌, true, inl, inr, Some, List, [], ◌∷◌, length, take, drop, sym, ap}
use Rattle.std.proofs.Common.{subst, ◌∙◌, arith}
use Rattle.std.proofs.lemmas.Bool.{cases_lt}
use Rattle.ep_base.specs.Places.{Has}
use Rattle.ep_base.specs.declared.reply.Reply.{Reply}
use Rattle.ep_journal.proofs.Growing.{count_entries}
use Rattle.ep_rules.specs.Journals.{Entry, left}
use Rattle.ep_rules.specs.OneMap.{Contents, opened, reply}
use Rattle.ep_rules.specs.States.{State, fresh_state}
use Rattle.ep_laws.specs.Reads.{found, Read}
use Rattle.ep_laws.specs.LifeReads.{IsRightOrClosed}
use Rattle.ep_node.specs.Crashes.{Cluster, HandOut, moved}
use Rattle.ep_node.specs.CrashLives.{Generations, newborn, LifeMove, Within, after_move, life_after}
use Rattle.ep_node.proofs.CrashMoves.{at_same}
use Rattle.ep_replica.specs.Kept.{Kept}
use Rattle.ep_replica.specs.Pending.{state_of}
use Rattle.ep_crash_laws.specs.AskedReads.{Place, IsReplicaOf, IsAskedRead, AskedReadsAreLinearizable}
use Rattle.ep_crash_laws.specs.CrashLifeReads.{generations_at, nodes_at, state_at, life_of, IsKept, IsCrashLifeRead}
use Rattle.ep_crash_laws.proofs.CrashLifeReading.{crash_life_reads_are_linearizable_lem}

-- the move at a point
next_is :
    (f : ℕ → ℕ) (l : Generations) (moves : List LifeMove) (n : ℕ) (m : LifeMove) (rest : List LifeMove) →
    drop n moves ≡ m ∷ rest → life_after f l (take (suc n) moves) ≡ after_move f (life_after f l (take n moves)) m
next_is f l [] zero m rest e = absurd (let no : m ∷ rest ≡ [] = sym e in cc)
next_is f l [] (suc n) m rest e = absurd (let no : m ∷ rest ≡ [] = sym e in cc)
next_is f l (x ∷ moves) zero m rest e = ap (after_move f l) (let is : x ∷ moves ≡ m ∷ rest = e in cc)
next_is f l (x ∷ moves) (suc n) m rest e = next_is f (after_move f l x) moves n m rest e

same_left :
    {a b : ℕ} {m o : Contents} {es xs : List Entry} (q : ℕ) → a ≡ b → m ≡ o → es ≡ xs →
    left a q (fresh_state (opened m)) es ≡ left b q (fresh_state (opened o)) xs
same_left {a} {b} {m} {o} {es} {xs} q e d c =
    ap (λ h. left h q (fresh_state (opened m)) es) e
    ∙ ap (λ h. left b q (fresh_state (opened h)) es) d
    ∙ ap (left b q (fresh_state (opened o))) c

module _ (at : Place) where
  abbrev generations : ℕ → Generations
  generations n = generations_at at.start at.f at.moves n

  abbrev nodes : ℕ → Cluster
  nodes n = nodes_at at.start at.f at.moves at.g n

  abbrev state : ℕ → ℕ → State
  state n q = state_at at.start at.f at.moves at.g n q

  -- a node's replica has the state of the node
  state_is : (n q : ℕ) (k : Kept) → IsReplicaOf at n q k → state_of k ≡ state n q
  state_is n q k h =
      let node = h.node.node in
      same_left k.me node.faults node.opening.map (sym node.journal) ∙ ap (λ p. state n p) h.is

  opened_it : (n q : ℕ) (k : Kept) → IsReplicaOf at n q k → (generations n).has_opened at.g q ≡ true
  opened_it n q k h = subst (λ p. (generations n).has_opened at.g p ≡ true) h.is h.node.has_opened

  entries_are : (n q : ℕ) (k : Kept) → IsReplicaOf at n q k → length ((nodes n).journal q) ≡ length k.entries
  entries_are n q k h =
      let own = ap length h.node.node.journal ∙ count_entries k.entries in
      subst (λ p. length ((nodes n).journal p) ≡ length k.entries) h.is own

  -- where a node hands out of all its entries, they are on its disk from then on
  handed_on :
      (n q c : ℕ) → drop n at.moves ≡ Within at.g (HandOut q c) ∷ drop (suc n) at.moves →
      length ((nodes n).journal q) ≡ c → IsKept at.start at.f at.moves at.g q n (suc n)
  handed_on n q c reported is =
      let m : LifeMove = Within at.g (HandOut q c) in
      let moved_on = next_is at.f (newborn at.start) at.moves n m (drop (suc n) at.moves) reported in
      let next : nodes (suc n) ≡ moved (nodes n) (HandOut q c) =
      ap (λ (l : Generations). l.cluster at.g) moved_on
      ∙ at_same at.g (moved (nodes n) (HandOut q c)) (generations n).cluster in
      let same : length ((nodes (suc n)).journal q) ≡ length ((nodes n).journal q) =
      ap (λ (k : Cluster). length (k.journal q)) next in
      let out : (nodes (suc n)).out q ≡ c = ap (λ (k : Cluster). k.out q) next ∙ at_same q c (nodes n).out in
      record {
        in_order = (omega arith);
        whole = λ p least most. elim (cases_lt n p) [
          | inr ge ↦ keeps n p (let e : n ≡ p = omega arith in e) (omega arith)
          | inl lt ↦ keeps (suc n) p (let e : suc n ≡ p = omega arith in e) (omega arith)
        ];
        on_disk = (omega arith);
      }
    where
      keeps : (h p : ℕ) → h ≡ p → length ((nodes n).journal q) ≤ length ((nodes h).journal q) →
          length ((nodes n).journal q) ≤ length ((nodes p).journal q)
      keeps h p = subst (λ x. length ((nodes n).journal q) ≤ length ((nodes x).journal q))

  module _ (r : Read) (given : List ℕ) (y : Reply) (a : IsAskedRead at r given y) where
    abbrev reader : Kept
    reader = a.answer.replica

    reads_here : state_of reader ≡ state r.answered r.reader
    reads_here = state_is r.answered r.reader reader a.answer.has

    found_here : (q n i : ℕ) → r.looked q ≡ Some n → Has (found (state n q) r.command) i → Has given i
    found_here q n i looked has =
        let x = a.looks q n looked in
        x.all i (subst (λ s. Has (found s r.command) i) (sym (state_is n q x.replica x.has)) has)

    is_read : IsCrashLifeRead at.start at.f at.moves at.g r (suc r.answered)
    is_read = record {
      reads = a.reads;
      in_order = a.in_order;
      many = a.many;
      later = a.later;
      here = λ q n looked. let x = a.looks q n looked in opened_it n q x.replica x.has;
      reader = opened_it r.answered r.reader reader a.answer.has;
      kept =
          handed_on r.answered r.reader (length reader.entries) a.answer.reported
          (entries_are r.answered r.reader reader a.answer.has);
      executed = λ q n i looked has.
          subst (λ (s : State). Has s.executed i) reads_here (a.answer.reading.0 i (found_here q n i looked has));
    }

    reported_is : y ≡ reply (state r.answered r.reader).store r.command
    reported_is = a.answer.reading.1 ∙ ap (λ (s : State). reply s.store r.command) reads_here

pub asked_reads_are_linearizable_lem : AskedReadsAreLinearizable
asked_reads_are_linearizable_lem start first f sizes moves are g r given y a =
    let at : Place = record { start = start; first = first; f = f; moves = moves; g = g } in
    let next = (generations_at start f moves r.asked).has_opened (suc g) in
    let is = is_read at r given y a in
    let t = crash_life_reads_are_linearizable_lem start f sizes moves are g r (suc r.answered) is in
    let reported = sym (reported_is at r given y a) in
    (t.0, t.1, t.2, subst (λ z. IsRightOrClosed start.map f (life_of moves) g r.command z next t.0) reported t.3)
