-- Open instances as bytes, ten each: nine as a node's answer of kind 9 has them (docs/FORMATS.md, section 10), so the instance (3), the number of an entry (4), which is
-- ignored, the phase (1) and how many others have answered (1), and behind them the replica that its proposal spares (1), where that is an own one. A phase of 4 says that a
-- peer has it committed.
use Rattle.std.specs.Prelude.{ℕ, ◌+◌, ◌*◌, ◌/◌, ◌%◌, ◌&&◌, eqb, leb, ltb, cond, List, [], ◌∷◌, ◌++◌, slice_index_or, Option, Some, None}
use Rattle.ep_base.specs.Instances.{instance_of, leader_of, number_of, highest_number}
use Rattle.ep_phase.specs.declared.progress.LeadPhase.{LeadPhase}
use Rattle.ep_phase.specs.declared.progress.LeadPhase.TheVariants.{Proposing, Accepting, Preparing}
use Rattle.ep_patience.specs.declared.remedy.Remedy.{Remedy}
use Rattle.ep_patience.specs.declared.remedy.Remedy.TheVariants.{GiveUp, Recover}
use Rattle.ep_patience.specs.declared.seen.Seen.{Seen}

abbrev pub leads_of : ℕ → ℕ → Option (LeadPhase × ℕ)
leads_of phase answers = cond (eqb phase 1) (Some (Proposing, answers)) (cond (eqb phase 2) (Some (Accepting, answers)) (cond (eqb phase 3) (Some (Preparing, answers)) None))

abbrev pub instance_if : ℕ → ℕ → Option ℕ
instance_if leader number = cond (leb leader 6 && (leb 1 number && leb number highest_number)) (Some (instance_of leader number)) None

abbrev pub seen_if : ℕ → ℕ → ℕ → Option ℕ → Option Seen
seen_if phase answers spared None = None
seen_if phase answers spared (Some i) =
    cond (leb phase 4 && leb spared 6) (Some (record { instance = i; leads = leads_of phase answers; is_reported = eqb phase 4; spared = spared })) None

-- the one that ten bytes name
abbrev pub seen_of : ℕ → ℕ → ℕ → ℕ → ℕ → ℕ → Option Seen
seen_of leader high low phase answers spared = seen_if phase answers spared (instance_if leader (high * 256 + low))

-- that with which the bytes begin
abbrev pub seen_at : List ℕ → Option Seen
seen_at bs = seen_of (slice_index_or bs 0 0) (slice_index_or bs 1 0) (slice_index_or bs 2 0) (slice_index_or bs 7 0) (slice_index_or bs 8 0) (slice_index_or bs 9 0)

-- the same, if it is above the instance before it
abbrev pub above : ℕ → Option Seen → Option Seen
above last None = None
above last (Some x) = cond (ltb last x.instance) (Some x) None

abbrev pub instance_or : ℕ → Option Seen → ℕ
instance_or last None = last
instance_or last (Some x) = x.instance

abbrev pub listed : Option Seen → Option (List Seen) → Option (List Seen)
listed None rest = None
listed (Some x) None = None
listed (Some x) (Some xs) = Some (x ∷ xs)

-- the open instances that bytes are, in rising order above this one
abbrev pub open_from : ℕ → List ℕ → Option (List Seen)
open_from last [] = Some []
open_from last (l ∷ h ∷ n ∷ a ∷ b ∷ c ∷ d ∷ p ∷ q ∷ s ∷ rest) = listed (above last (seen_of l h n p q s)) (open_from (instance_or last (above last (seen_of l h n p q s))) rest)
open_from last _ = None

abbrev pub open_list : List ℕ → Option (List Seen)
open_list bs = open_from 0 bs

-- What is asked for, as bytes: the kind and the body of the request that asks for it.

abbrev pub instance_bytes : ℕ → List ℕ
instance_bytes i = leader_of i ∷ number_of i / 256 ∷ number_of i % 256 ∷ []

abbrev pub remedy_bytes : Remedy → List ℕ
remedy_bytes (GiveUp i) = 3 ∷ instance_bytes i
remedy_bytes (Recover i) = 4 ∷ instance_bytes i

abbrev pub asked_bytes : List Remedy → List ℕ
asked_bytes [] = []
asked_bytes (r ∷ rs) = remedy_bytes r ++ asked_bytes rs
