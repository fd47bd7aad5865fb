-- A read of any keys is answered what one map, or one machine, says where its reply is taken, if all that is found after that was executed already.
use Rattle.std.proofs.Common.{◌≡◌, ℕ, ◌<◌, ◌≤◌, Option, List, [], length, take, ap, ◌∙◌, arith, append-nil}
use Rattle.std.proofs.lemmas.List.{take_all}
use Rattle.ep_base.specs.Commands.{Command}
use Rattle.ep_base.specs.Places.{Has}
use Rattle.ep_base.specs.Quorums.{size}
use Rattle.ep_rules.specs.Closing.{store_of}
use Rattle.ep_rules.specs.Machines.{Machine, after_operations, executed_at}
use Rattle.ep_rules.specs.OneMap.{Store, reply, after_commands}
use Rattle.ep_rules.specs.Operations.{Operation, instances_of, commands_of}
use Rattle.ep_rules.specs.States.{State}
use Rattle.ep_rules.specs.Worlds.{opening, Act, IsRun}
use Rattle.ep_laws.specs.AheadReads.{IsAheadWholeRead, AheadWholeReadsAreLinearizable}
use Rattle.ep_laws.specs.Reads.{world_at, history_at, Read}
use Rattle.ep_laws.specs.WholeReads.{IsWholeRead, WholeReadsAreLinearizable, MachineWholeReadsAreLinearizable}
use Rattle.ep_laws.proofs.Fronts.{as_many}
use Rattle.ep_laws.proofs.Inserted.{Fits}
use Rattle.ep_laws.proofs.Looking.{history_found, seen_at, many_seen, leads_on, seen_within}
use Rattle.ep_laws.proofs.Owned.{c, h, executed, own, run_whole, known, own_has, map_is, history_leaves, machine_is, machine_leaves}
use Rattle.ep_laws.proofs.Reading.{reader_real}
use Rattle.ep_laws.proofs.Splits.{fits_all}
use Rattle.ep_laws.proofs.Reported.{map_reported, machine_reported}

module _ (base : Store) (f : ℕ) (some : 0 < f) (few : size f ≤ 256) (acts : List Act) (run : IsRun f (opening base) acts) (r : Read) (seen : ℕ → Option State) (is : IsAheadWholeRead base f acts r seen) where
  abbrev cs : ℕ → Command
  cs = c base f some few acts run r.asked r.reader

  abbrev done : List ℕ
  done = own base f some few acts run r.asked r.reader

  abbrev history : List ℕ
  history = h base f some few acts run r.asked r.reader

  fits : Fits cs r.command done history (length history)
  fits = fits_all cs r.command done history (known base f some few acts run r.asked r.reader) (λ u k e.
      own_has base f some few acts run r.asked r.reader u r.command e
      (history_found base f some few acts run r.command seen r.asked (executed base f some few acts run r.asked r.reader) is.many is.goes_on is.executed
      (take r.asked acts) [] (run_whole base f some few acts run r.asked r.reader) (append-nil (take r.asked acts)) u k e))

  whole_history : take (length history) (history_at base f acts r.asked) ≡ history_at base f acts r.asked
  whole_history = take_all (length history) (history_at base f acts r.asked) (let n = as_many (history_at base f acts r.asked) in omega arith)

  legal : reply (store_of (world_at base f acts r.asked) r.reader) r.command ≡ reply (after_commands base (commands_of (history_at base f acts r.asked))) r.command
  legal =
      ap (λ s. reply s r.command) (map_is base f some few acts run r.asked r.reader)
      ∙ map_reported cs r.command done history (length history) (known base f some few acts run r.asked r.reader) fits base
      ∙ ap (λ s. reply s r.command) (history_leaves base f some few acts run r.asked r.reader (length history))
      ∙ ap (λ os. reply (after_commands base (commands_of os)) r.command) whole_history

  module _ (i : ℕ) (out : ¬ Has (instances_of (history_at base f acts r.asked)) i) {S R : Type 0} (M : Machine S R) (start : S) where
    abbrev o : Operation
    o = record { instance = i; command = r.command }

    machine_legal : M.reply (after_operations M start (executed_at (world_at base f acts r.asked) r.reader)) o ≡ M.reply (after_operations M start (history_at base f acts r.asked)) o
    machine_legal =
        ap (λ s. M.reply s o) (machine_is base f some few acts run r.asked r.reader M start)
        ∙ machine_reported cs r.command done history (length history) (known base f some few acts run r.asked r.reader) fits i out M (reader_real r.command is.only) start
        ∙ ap (λ s. M.reply s o) (machine_leaves base f some few acts run r.asked r.reader M start (length history))
        ∙ ap (λ os. M.reply (after_operations M start os) o) whole_history

pub ahead_whole_reads_are_linearizable_lem : AheadWholeReadsAreLinearizable
ahead_whole_reads_are_linearizable_lem base f some few acts run r seen is = legal base f some few acts run r seen is

-- a read whose looks are in the run

module _ (base : Store) (f : ℕ) (some : 0 < f) (few : size f ≤ 256) (acts : List Act) (run : IsRun f (opening base) acts) (r : Read) (is : IsWholeRead base f acts r) where
  abbrev seen_in : ℕ → Option State
  seen_in = seen_at base f some few acts run r.looked

  is_ahead : IsAheadWholeRead base f acts r seen_in
  is_ahead = record {
    only = is.only;
    many = many_seen base f some few acts run r.looked is.many;
    goes_on = leads_on base f some few acts run r.looked r.asked (λ q n at. (is.between q n at).0);
    executed = seen_within base f some few acts run r.looked r.command ((world_at base f acts r.asked).states r.reader).executed is.executed;
  }

pub whole_reads_are_linearizable_lem : WholeReadsAreLinearizable
whole_reads_are_linearizable_lem base f some few acts run r is = legal base f some few acts run r (seen_in base f some few acts run r is) (is_ahead base f some few acts run r is)

pub machine_whole_reads_are_linearizable_lem : (S R : Type 0) → MachineWholeReadsAreLinearizable S R
machine_whole_reads_are_linearizable_lem S R M start base f some few acts run r is i out =
    machine_legal base f some few acts run r (seen_in base f some few acts run r is) (is_ahead base f some few acts run r is) i out M start
