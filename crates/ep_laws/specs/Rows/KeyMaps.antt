-- Finite maps from keys of bytes, as the lists of their entries in rising order: these compute. The order that is named is taken to be that of the bytes.
use Rattle.std.specs.Prelude.{ℕ, List, [], ◌∷◌, Option, Some, None}
use Rattle.std.specs.Ordering.{nat_cmp}
use Rattle.std.specs.Cmp.Lexicographic.{slice_cmp}
use Rattle.std.specs.declared.cmp.Ordering.{Ordering}
use Rattle.std.specs.declared.cmp.Ordering.TheVariants.{Less, Equal, Greater}

abbrev pub FinMap : (List ℕ → List ℕ → Ordering) → Type 0 → Type 0
FinMap order X = List (List ℕ × X)

abbrev pub empty : {X : Type 0} → List (List ℕ × X)
empty = []

-- what the entry has, if its key ties
abbrev pub tied : {X : Type 0} → Ordering → X → Option X → Option X
tied Less x rest = rest
tied Equal x rest = Some x
tied Greater x rest = rest

abbrev pub get : {X : Type 0} → List (List ℕ × X) → List ℕ → Option X
get [] k = None
get (e ∷ es) k = tied (slice_cmp nat_cmp k e.0) e.1 (get es k)

abbrev pub insert_at : {X : Type 0} → Ordering → List ℕ × X → List ℕ × X → List (List ℕ × X) → List (List ℕ × X) → List (List ℕ × X)
insert_at Less new e es further = new ∷ (e ∷ es)
insert_at Equal new e es further = new ∷ es
insert_at Greater new e es further = e ∷ further

abbrev pub insert : {X : Type 0} → List (List ℕ × X) → List ℕ → X → List (List ℕ × X)
insert [] k x = (k, x) ∷ []
insert (e ∷ es) k x = insert_at (slice_cmp nat_cmp k e.0) (k, x) e es (insert es k x)

abbrev pub remove_at : {X : Type 0} → Ordering → List ℕ × X → List (List ℕ × X) → List (List ℕ × X) → List (List ℕ × X)
remove_at Less e es further = e ∷ further
remove_at Equal e es further = es
remove_at Greater e es further = e ∷ further

abbrev pub remove : {X : Type 0} → List (List ℕ × X) → List ℕ → List (List ℕ × X)
remove [] k = []
remove (e ∷ es) k = remove_at (slice_cmp nat_cmp k e.0) e es (remove es k)
