-- Finite maps from instances, as the lists of their entries in rising order: these compute.
use Rattle.std.specs.Prelude.{ℕ, cond, eqb, ltb, List, [], ◌∷◌, Option, Some, None}

abbrev pub Map : Type 0 → Type 0
Map X = List (ℕ × X)

abbrev pub none : {X : Type 0} → Map X
none = []

abbrev pub get : {X : Type 0} → Map X → ℕ → Option X
get [] i = None
get (e ∷ es) i = cond (eqb i e.0) (Some e.1) (get es i)

abbrev pub insert : {X : Type 0} → Map X → ℕ → X → Map X
insert [] i x = (i, x) ∷ []
insert (e ∷ es) i x = cond (ltb i e.0) ((i, x) ∷ (e ∷ es)) (cond (eqb i e.0) ((i, x) ∷ es) (e ∷ insert es i x))

abbrev pub remove : {X : Type 0} → Map X → ℕ → Map X
remove [] i = []
remove (e ∷ es) i = cond (eqb i e.0) es (e ∷ remove es i)

abbrev pub entries : {X : Type 0} → Map X → List (ℕ × X)
entries m = m
