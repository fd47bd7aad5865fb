-- The join of attributes (EPaxos, figure 2: the greater seq and the union of deps).
use Rattle.std.specs.Prelude.{ℕ, max, Bool, List, ◌&&◌, eqb, nat_eq}
use Rattle.std.specs.Cmp.Lexicographic.{pointwise}
use Rattle.ep_base.specs.declared.attrs.Attrs.{Attrs}
use Rattle.ep_base.specs.Deps.{union}

-- the greater sequence number, and the dependencies of both
abbrev pub join : Attrs → Attrs → Attrs
join a b = record { seq = max a.seq b.seq; deps = union a.deps b.deps }

abbrev pub same_list : List ℕ → List ℕ → Bool
same_list xs ys = pointwise nat_eq xs ys

abbrev pub same_attrs : Attrs → Attrs → Bool
same_attrs a b = eqb a.seq b.seq && same_list a.deps b.deps
