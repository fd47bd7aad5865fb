-- Every read of one key is answered what one map, or one machine, reports at one moment between its question and its
-- answer.
use Rattle.std.proofs.Common.{◌≡◌, ℕ, ◌<◌, ◌≤◌, true, false, Option, is_some, List, ◌++◌, take, drop, refl, sym, ap, subst, ◌∙◌, arith}
use Rattle.std.proofs.lemmas.Bool.{false≢true}
use Rattle.std.proofs.lemmas.List.{take-append-drop}
use Rattle.ep_base.specs.Commands.{Command, Noop, Get, Put, Del, Swap, Cas, Seal, Opaque, Tx}
use Rattle.ep_base.specs.Interference.{only_reads}
use Rattle.ep_base.specs.Places.{Has}
use Rattle.ep_base.specs.Quorums.{size}
use Rattle.ep_base.specs.Sameness.{is_noop}
use Rattle.ep_rules.specs.Machines.{Machine, after_operations, executed_at}
use Rattle.ep_rules.specs.OneMap.{Store, reply, after_commands}
use Rattle.ep_rules.specs.Operations.{Operation, instances_of, commands_of, history_of}
use Rattle.ep_rules.specs.States.{State}
use Rattle.ep_rules.specs.Worlds.{opening, Act, IsRun}
use Rattle.ep_rules.proofs.Counting.{count_some}
use Rattle.ep_rules.proofs.Stable.{some_of}
use Rattle.ep_rules.proofs.Places.{has_left}
use Rattle.ep_rules.proofs.RunHistories.{instances_append, history_grows_lem}
use Rattle.ep_laws.specs.AheadReads.{IsAheadRead, AheadReadsAreLinearizable}
use Rattle.ep_laws.specs.Reads.{world_at, Read, reply_of, IsRead, ReadsAreLinearizable}
use Rattle.ep_laws.proofs.Looking.{seen_at, many_seen, leads_on, seen_within}
use Rattle.ep_laws.specs.MachineReads.{MachineReadsAreLinearizable}
use Rattle.ep_laws.proofs.Moments.{at, fits, is_between, history_front}
use Rattle.ep_laws.proofs.Owned.{c, h, own, known, map_is, history_leaves, machine_is, machine_leaves}
use Rattle.ep_laws.proofs.Reported.{map_reported, machine_reported}

pub reader_real : (d : Command) → only_reads d ≡ true → is_noop d ≡ false
reader_real Noop e = absurd (false≢true e)
reader_real (Get k) e = refl
reader_real (Put k v) e = refl
reader_real (Del k) e = refl
reader_real (Swap p) e = refl
reader_real (Cas k x n) e = refl
reader_real (Seal v) e = refl
reader_real (Opaque p b) e = refl
reader_real (Tx is) e = refl

-- an instance that isn't in the history of a run isn't in that of a beginning
pub out_of_part : (base : Store) (f n : ℕ) (acts : List Act) (i : ℕ) → (Has (instances_of (history_of base f acts)) i → ⊥) → Has (instances_of (history_of base f (take n acts))) i → ⊥
out_of_part base f n acts i out k =
    let t = history_grows_lem base f (take n acts) (drop n acts) in
    let e : history_of base f acts ≡ history_of base f (take n acts) ++ t.0 = ap (history_of base f) (sym (take-append-drop n acts)) ∙ t.1 in
    out (subst (λ is. Has is i) (sym (ap instances_of e ∙ instances_append (history_of base f (take n acts)) t.0)) (has_left (instances_of (history_of base f (take n acts))) (instances_of t.0) i k))

module _ (base : Store) (f : ℕ) (some : 0 < f) (few : size f ≤ 256) (acts : List Act) (run : IsRun f (opening base) acts) (r : Read) (seen : ℕ → Option State) (is : IsAheadRead base f acts r seen) where
  abbrev spot : ℕ
  spot = at base f some few acts run r seen is

  abbrev cs : ℕ → Command
  cs = c base f some few acts run r.answered r.reader

  abbrev done : List ℕ
  done = own base f some few acts run r.answered r.reader

  abbrev history : List ℕ
  history = h base f some few acts run r.answered r.reader

  legal : reply_of base f acts r ≡ reply (after_commands base (commands_of (take spot (history_of base f acts)))) r.command
  legal =
      ap (λ s. reply s r.command) (map_is base f some few acts run r.answered r.reader)
      ∙ map_reported cs r.command done history spot (known base f some few acts run r.answered r.reader) (fits base f some few acts run r seen is) base
      ∙ ap (λ s. reply s r.command) (history_leaves base f some few acts run r.answered r.reader spot)
      ∙ ap (λ os. reply (after_commands base (commands_of os)) r.command) (sym (history_front base f some few acts run r seen is))

  module _ (i : ℕ) (out : ¬ Has (instances_of (history_of base f acts)) i) {S R : Type 0} (M : Machine S R) (start : S) where
    abbrev o : Operation
    o = record { instance = i; command = r.command }

    machine_legal : M.reply (after_operations M start (executed_at (world_at base f acts r.answered) r.reader)) o ≡ M.reply (after_operations M start (take spot (history_of base f acts))) o
    machine_legal =
        ap (λ s. M.reply s o) (machine_is base f some few acts run r.answered r.reader M start)
        ∙ machine_reported cs r.command done history spot (known base f some few acts run r.answered r.reader) (fits base f some few acts run r seen is) i (out_of_part base f r.answered acts i out) M
        (reader_real r.command is.reads.only) start
        ∙ ap (λ s. M.reply s o) (machine_leaves base f some few acts run r.answered r.reader M start spot)
        ∙ ap (λ os. M.reply (after_operations M start os) o) (sym (history_front base f some few acts run r seen is))

pub ahead_reads_are_linearizable_lem : AheadReadsAreLinearizable
ahead_reads_are_linearizable_lem base f some few acts run r seen is = (_, is_between base f some few acts run r seen is, legal base f some few acts run r seen is)

-- a read whose looks are in the run

module _ (base : Store) (f : ℕ) (some : 0 < f) (few : size f ≤ 256) (acts : List Act) (run : IsRun f (opening base) acts) (r : Read) (is : IsRead base f acts r) where
  -- the question is before the answer, as something was looked at between them
  in_order : r.asked ≤ r.answered
  in_order =
      let m = is.many in
      let k = count_some (size f) (λ k. is_some (r.looked k)) (omega arith) in
      let t = some_of (r.looked k.0) k.2 in
      let b = is.between k.0 t.0 t.1 in
      omega (arith, b.0, b.1)

  abbrev pub seen_in : ℕ → Option State
  seen_in = seen_at base f some few acts run r.looked

  pub is_ahead : IsAheadRead base f acts r seen_in
  is_ahead = record {
    reads = is.reads;
    in_order = in_order;
    many = many_seen base f some few acts run r.looked is.many;
    goes_on = leads_on base f some few acts run r.looked r.asked (λ k n e. (is.between k n e).0);
    executed = seen_within base f some few acts run r.looked r.command ((world_at base f acts r.answered).states r.reader).executed is.executed;
  }

pub reads_are_linearizable_lem : ReadsAreLinearizable
reads_are_linearizable_lem base f some few acts run r is = ahead_reads_are_linearizable_lem base f some few acts run r (seen_in base f some few acts run r is) (is_ahead base f some few acts run r is)

pub machine_reads_are_linearizable_lem : (S R : Type 0) → MachineReadsAreLinearizable S R
machine_reads_are_linearizable_lem S R M start base f some few acts run r is i out =
    let seen : ℕ → Option State = seen_in base f some few acts run r is in
    let ahead = is_ahead base f some few acts run r is in
    (_, is_between base f some few acts run r seen ahead, machine_legal base f some few acts run r seen ahead i out M start)
