-- How far the instances are listed that a replica knows of and hasn't committed: those before the next one.
use Rattle.std.proofs.Common.{◌≡◌, ℕ, suc, List, ◌++◌, Option, Some, None, refl, sym, ap, subst, ◌∙◌, append_assoc}
use Rattle.ep_ending.proofs.Finding.{next_least}
use Rattle.ep_ending.proofs.Listing as listing
use Rattle.ep_phase.specs.Progress.{progress_in}
use Rattle.ep_replica.specs.Kept.{Kept}
use Rattle.ep_replica.specs.Pending.{state_of}
use Rattle.ep_rules.specs.Maps.{get}
use Rattle.ep_space.specs.Open.{IsOpen, IsNextOpen}
use Rattle.ep_trace.specs.Left.{open_line, open_lines, AddsOpen, OpenBelow}
use Rattle.ep_world.specs.Played.{Played, replica_in}

abbrev pub open_in : Kept → ℕ → Type 0
open_in k i = IsOpen (state_of k).records i

abbrev pub line_of : Kept → ℕ → List ℕ
line_of k i = open_line k.me i (progress_in k.faults k.me (get (state_of k).leads i))

-- those before the next one were reported
abbrev pub Listed : Kept → Option ℕ → List ℕ → List ℕ → Type 0
Listed k next old new = listing.Listed (open_in k) (open_lines k) next old new

pub starts : (k : Kept) (next : Option ℕ) (t : List ℕ) → IsNextOpen (state_of k).records None next → Listed k next t t
starts k next t found = listing.starts (open_in k) (line_of k) (open_lines k) (refl, λ i is. refl) next t (next_least (state_of k).records None next found)

pub goes_on :
    (k : Kept) (n : ℕ) (next : Option ℕ) (old mid new : List ℕ) → Listed k (Some n) old mid → IsNextOpen (state_of k).records (Some n) next → new ≡ mid ++ line_of k n → Listed k next old new
goes_on k n next old mid new was found reported =
    listing.goes_on (open_in k) (line_of k) (open_lines k) (refl, λ i is. refl) n next old mid new was (next_least (state_of k).records (Some n) next found) reported

pub over : (k : Kept) (old new : List ℕ) → Listed k None old new → AddsOpen k old new
over k old new was =
    let all = listing.over (open_in k) (line_of k) (open_lines k) (refl, λ i is. refl) old new was in
    (all.is, record { rising = all.rising; these = all.these }, all.text)

-- Replicas, one after another.

-- those of the replicas below n were reported
abbrev pub ReportedBelow : Played → ℕ → List ℕ → List ℕ → Type 0
ReportedBelow w n old new = (more : List ℕ) × OpenBelow w n more × (new ≡ old ++ more)

pub one_below : (w : Played) (n m : ℕ) (old mid new : List ℕ) → m ≡ suc n → ReportedBelow w n old mid → AddsOpen (replica_in w n) mid new → ReportedBelow w m old new
one_below w n m old mid new is below adds = subst (λ (j : ℕ). ReportedBelow w j old new) (sym is) (
    let lines : List ℕ = open_lines (replica_in w n) adds.0 in
    (below.0 ++ lines, (below.0, below.1, (adds.0, adds.1, refl)), adds.2 ∙ ap (λ (z : List ℕ). z ++ lines) below.2 ∙ append_assoc old below.0 lines))
