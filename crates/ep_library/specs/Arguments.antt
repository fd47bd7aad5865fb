-- What arguments say.
use Rattle.std.specs.Prelude.{Bool, true, false, ◌≡◌, ◌≤◌, ◌⊎◌, ℕ, zero, suc, List, [], ◌∷◌, Option, Some, None}
use Rattle.ep_base.specs.Instances.{instance_of, highest_number}
use Rattle.ep_base.specs.Quorums.{size}
use Rattle.ep_base.specs.Touched.{Touched}
use Rattle.ep_embedded.specs.declared.seat.Seat.{Seat}
use Rattle.ep_library.specs.declared.call.Call.{Call}
use Rattle.ep_library.specs.declared.instance.Instance.{Instance}
use Rattle.ep_library.specs.declared.touching.Touching.{Touching}

-- a cluster has so many replicas
abbrev pub IsSize : ℕ → Type 0
IsSize n = (n ≡ 3) ⊎ (n ≡ 5) ⊎ (n ≡ 7)

-- a cluster has so many replicas, and a replica such a number
pub record HasSeat (replicas replica : ℕ) : Type 0 where
  pub cluster : IsSize replicas
  pub me : replica ≤ 6

-- the seat of this replica among so many
pub record IsSeat (replicas replica : ℕ) (seat : Seat) : Type 0 where
  pub cluster : size seat.cluster ≡ replicas
  pub me : seat.me ≡ replica

-- the bytes, if there are any
abbrev pub given : List ℕ → Option (List ℕ)
given [] = None
given (byte ∷ bytes) = Some (byte ∷ bytes)

-- the log from which a replica goes on; none of a new one
abbrev pub log_given : ℕ → List ℕ → Option (List ℕ)
log_given zero log = Some log
log_given (suc n) log = None

-- a part that is there or isn't
abbrev pub part : ℕ → List ℕ → Option (List ℕ)
part zero bytes = None
part (suc n) bytes = Some bytes

-- an instance, as one number
abbrev pub instance_in : Instance → ℕ
instance_in i = instance_of i.replica i.number

-- there is such an instance
pub record IsPlace (i : Instance) : Type 0 where
  pub leader : i.replica ≤ 6
  pub least : 1 ≤ i.number
  pub most : i.number ≤ highest_number

-- the replica that a proposal names, if any
abbrev pub named_by : ℕ → ℕ → Option ℕ
named_by zero replica = None
named_by (suc n) replica = Some replica

abbrev pub named_in : Call → Option ℕ
named_in c = named_by c.has_spared c.spared

-- it names none, or one that some cluster has
abbrev pub IsNamed : Call → Type 0
IsNamed c = (c.has_spared ≡ 0) ⊎ (c.spared ≤ 6)

-- whether a byte says so
abbrev pub is_said : ℕ → Bool
is_said zero = false
is_said (suc n) = true

-- what a command of a machine outside touches
abbrev pub touched_in : Touching → Touched
touched_in t = record { first = t.first.now; second = part t.has_second t.second.now; reads = is_said t.is_reading }
