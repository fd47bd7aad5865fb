-- The head of a script: how many replicas there are, of which version, and what they open with.
use Rattle.std.specs.Prelude.{◌≡◌, ℕ, ◌≤◌, Bool, List, [], ◌∷◌, ◌++◌, Option, Some, None, is_some, if◌then◌else◌}
use Rattle.std.specs.List.{list_any, IsDistinct}
use Rattle.ep_base.specs.Attributes.{same_list}
use Rattle.ep_base.specs.declared.version.Version.{Version}
use Rattle.ep_base.specs.declared.version_kind.VersionKind.TheVariants.{V1, V2, V3}
use Rattle.ep_script.specs.declared.opening_line.OpeningLine.{OpeningLine}
use Rattle.ep_script.specs.declared.opening_line.OpeningLine.TheVariants.{Since, Entry}

-- what replicas open with: the keys that have a value, each with it, in the order of their lines, and the stamp that the clocks go on from
pub record Opening : Type 0 where
  pub entries : List (List ℕ × List ℕ)
  pub base_stamp : ℕ

-- where a life begins
abbrev pub no_opening : Opening
no_opening = record { entries = []; base_stamp = 0 }

-- both are of one key
abbrev pub same_key : List ℕ × List ℕ → List ℕ × List ℕ → Bool
same_key x y = same_list x.0 y.0

-- no two are of one key
abbrev pub AreOnce : List (List ℕ × List ℕ) → Type 0
AreOnce entries = IsDistinct same_key entries

-- one of them is of this one's key
abbrev pub has_key_of : List ℕ × List ℕ → List (List ℕ × List ℕ) → Bool
has_key_of e entries = list_any (same_key e) entries

-- each key once, and a stamp below the greatest one, or 0
pub record IsOpening (o : Opening) : Type 0 where
  pub once : AreOnce o.entries
  pub base_stamp : o.base_stamp ≤ 281474976710654

-- no script is of version 1, and one of version 2 opens with nothing
abbrev pub OpensIn : Version → Opening → Type 0
OpensIn V1 o = ⊥
OpensIn V2 o = o ≡ no_opening
OpensIn (V3 g) o = Unit {0}

-- how many replicas may fail, the version, and what the replicas open with
pub record Head : Type 0 where
  pub faults : ℕ
  pub version : Version
  pub opening : Opening

-- a script with no line `generation G`
abbrev pub first_head : ℕ → Head
first_head f = record { faults = f; version = V2; opening = no_opening }

-- a head of version 3 so far: the stamp, where its line has come, and the keys
pub record OpenHead : Type 0 where
  pub faults : ℕ
  pub generation : ℕ
  pub base_stamp : Option ℕ
  pub entries : List (List ℕ × List ℕ)

abbrev pub open_head : ℕ → ℕ → OpenHead
open_head f g = record { faults = f; generation = g; base_stamp = None; entries = [] }

-- where there is no line `since S`, clocks begin at 0
abbrev pub or_zero : Option ℕ → ℕ
or_zero None = 0
or_zero (Some s) = s

abbrev pub head_of : OpenHead → Head
head_of h = record { faults = h.faults; version = V3 h.generation; opening = record { entries = h.entries; base_stamp = or_zero h.base_stamp } }

-- one more line of what the replicas open with; a second line `since S` is refused, and so is a second one of a key
abbrev pub after_opening : OpenHead → OpeningLine → Option OpenHead
after_opening h (Since s) = if is_some h.base_stamp then None else Some (record { faults = h.faults; generation = h.generation; base_stamp = Some s; entries = h.entries })
after_opening h (Entry k v) = if has_key_of (k, v) h.entries then None else Some (record { faults = h.faults; generation = h.generation; base_stamp = h.base_stamp; entries = h.entries ++ (k, v) ∷ [] })
