-- The moment at which a read of one key takes effect: before the first operation that interferes with it and isn't executed at its reader when that answers.
use Rattle.std.proofs.Common.{◌≡◌, ℕ, ◌+◌, ◌<◌, ◌≤◌, inl, inr, true, Option, List, ◌++◌, length, take, drop, sym, ap, subst, ◌∙◌, arith, length-append}
use Rattle.std.proofs.lemmas.List.{take-append-drop, take-append-le}
use Rattle.ep_base.specs.Commands.{Command}
use Rattle.ep_base.specs.Interference.{interfere}
use Rattle.ep_base.specs.Places.{place, Has}
use Rattle.ep_base.specs.Quorums.{size}
use Rattle.ep_rules.specs.OneMap.{Store}
use Rattle.ep_rules.specs.Operations.{Operation, instances_of, history_of}
use Rattle.ep_rules.specs.States.{State}
use Rattle.ep_rules.specs.Worlds.{opening, Act, IsRun}
use Rattle.ep_rules.proofs.Places.{has_or, place-append_out}
use Rattle.ep_rules.proofs.RunHistories.{instances_append, history_grows_lem}
use Rattle.ep_laws.proofs.Looking.{run_to, history_found}
use Rattle.ep_laws.proofs.Owned.{c, h, executed, own, known, own_has}
use Rattle.ep_laws.proofs.Splits.{missing, spot, spot_behind, fits_one}
use Rattle.ep_laws.specs.AheadReads.{IsAheadRead}
use Rattle.ep_laws.specs.Reads.{Read, IsBetween}
use Rattle.ep_laws.proofs.Fronts.{before_le, between, as_many}
use Rattle.ep_laws.proofs.Inserted.{Fits}
use Rattle.ep_laws.proofs.OneKey.{meet_each_other}

module _ (base : Store) (f : ℕ) (some : 0 < f) (few : size f ≤ 256) (acts : List Act) (run : IsRun f (opening base) acts) (r : Read) (seen : ℕ → Option State) (is : IsAheadRead base f acts r seen) where
  abbrev pub early : List Act
  early = take r.asked acts

  abbrev pub these : List Act
  these = take r.answered acts

  abbrev cs : ℕ → Command
  cs = c base f some few acts run r.answered r.reader

  abbrev pub history : List ℕ
  history = h base f some few acts run r.answered r.reader

  abbrev done : List ℕ
  done = own base f some few acts run r.answered r.reader

  run_these : IsRun f (opening base) these
  run_these = run_to base f some few acts run r.answered

  mid : (ms : List Act) × (early ++ ms ≡ these)
  mid = between r.asked r.answered acts is.in_order

  -- what some replica had executed when the read was asked, and interferes with it, is executed at the reader
  was_executed : (i : ℕ) → Has (instances_of (history_of base f early)) i → interfere (cs i) r.command ≡ true → Has done i
  was_executed i k meets =
      own_has base f some few acts run r.answered r.reader i r.command meets
      (history_found base f some few acts run r.command seen r.asked (executed base f some few acts run r.answered r.reader) is.many is.goes_on is.executed
      these mid.0 run_these mid.1 i k meets)

  grows : (more : List Operation) × (history_of base f these ≡ history_of base f early ++ more)
  grows = let t = history_grows_lem base f early mid.0 in (t.0, ap (history_of base f) (sym mid.1) ∙ t.1)

  -- the place of the read
  abbrev pub at : ℕ
  at = spot cs r.command done history

  pub fits : Fits cs r.command done history at
  fits = fits_one cs r.command done history (known base f some few acts run r.answered r.reader) (λ u w eu ew. meet_each_other r.command is.reads (cs u) (cs w) eu ew)

  at_most : at ≤ length (history_of base f these)
  at_most = let le = before_le (missing cs r.command done history) history in let n = as_many (history_of base f these) in omega arith

  in_early : (u : ℕ) → place (instances_of (history_of base f early) ++ instances_of grows.0) u < length (history_of base f early) → Has (instances_of (history_of base f early)) u
  in_early u lt = elim (has_or (instances_of (history_of base f early)) u) [
    | inl k ↦ k
    | inr n ↦ absurd (
        let p = place-append_out (instances_of (history_of base f early)) (instances_of grows.0) u n in
        let m = as_many (history_of base f early) in
        omega arith)
  ]

  behind_asked : length (history_of base f early) ≤ at
  behind_asked =
      let g = grows in
      let n = as_many (history_of base f early) in
      let is_h : history ≡ instances_of (history_of base f early) ++ instances_of g.0 = ap instances_of g.1 ∙ instances_append (history_of base f early) g.0 in
      let long : length history ≡ length (instances_of (history_of base f early)) + length (instances_of g.0) = ap length is_h ∙ length-append (instances_of (history_of base f early)) (instances_of g.0) in
      spot_behind cs r.command done history (length (history_of base f early)) (omega arith)
      (λ u k lt e. was_executed u (in_early u (subst (λ is. place is u < length (history_of base f early)) is_h lt)) e)

  pub is_between : IsBetween base f acts r at
  is_between = record { asked = behind_asked; answered = at_most }

  -- the history up to the read's place is that of the whole run
  pub history_front : take at (history_of base f acts) ≡ take at (history_of base f these)
  history_front =
      let t = history_grows_lem base f these (drop r.answered acts) in
      let le = at_most in
      ap (take at) (ap (history_of base f) (sym (take-append-drop r.answered acts)) ∙ t.1) ∙ take-append-le at (history_of base f these) t.0 le
