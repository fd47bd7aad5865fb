-- What is gathered of records one after the other.
use Rattle.std.specs.Prelude.{ℕ, ◌+◌, List, [], ◌∷◌, ◌++◌, Bool, max, cond, Option, Some, None, is_some}
use Rattle.ep_base.specs.declared.attrs.Attrs.{Attrs}
use Rattle.ep_rules.specs.InterferenceSet.{seq_of}
use Rattle.ep_rules.specs.Maps.{Map, get}
use Rattle.ep_rules.specs.declared.record.Record.{Record}
use Rattle.ep_space.specs.declared.gathered.Gathered.{Gathered}

abbrev pub gather_record : (ℕ × Record → Bool) → Gathered → ℕ → Record → Gathered
gather_record t g i r = cond (t (i, r)) (record { seq = max g.seq (seq_of r.vote); deps = g.deps ++ i ∷ [] }) g

abbrev pub gather : (ℕ × Record → Bool) → Gathered → ℕ → Option Record → Gathered
gather t g i None = g
gather t g i (Some r) = gather_record t g i r

-- g with what the records of these instances have
abbrev pub gather_all : (ℕ × Record → Bool) → Map Record → Gathered → List ℕ → Gathered
gather_all t m g [] = g
gather_all t m g (i ∷ is) = gather_all t m (gather t g i (get m i)) is

-- the instances of the entries that have a record
abbrev pub recorded_in : List (ℕ × Option Record) → List ℕ
recorded_in [] = []
recorded_in (e ∷ es) = cond (is_some e.1) (e.0 ∷ recorded_in es) (recorded_in es)

-- a command's attributes where this was gathered
abbrev pub next_attrs : Gathered → Attrs
next_attrs g = record { seq = 1 + g.seq; deps = g.deps }
