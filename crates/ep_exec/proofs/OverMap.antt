-- What the records of a replica depend on is within a list, so a walk through them ends.
use Rattle.std.proofs.Common.{◌≡◌, ℕ, List, [], ◌∷◌, ◌++◌, Option, Some, None, Bool, true, false, cond, refl, sym, ap, subst, ◌∙◌}
use Rattle.std.specs.Ordering.{nat_cmp, eq_by_cmp}
use Rattle.std.specs.FinMap as map
use Rattle.std.specs.FinMap.{find}
use Rattle.ep_base.specs.declared.attrs.Attrs.{Attrs}
use Rattle.ep_rules.specs.Cells.{committed_decree, record_or_fresh}
use Rattle.ep_base.specs.Places.{Has}
use Rattle.ep_rules.specs.Maps.{Map, get, entries}
use Rattle.ep_rules.specs.States.{attrs_of, graph_in}
use Rattle.ep_rules.specs.declared.record.Record.{Record}
use Rattle.ep_rules.proofs.Places.{has_left, has_right, has_filter}
use Rattle.ep_exec.specs.Cut.{left_in}
use Rattle.ep_exec.specs.Ready.{is_out}
use Rattle.ep_exec.proofs.Cut.{cut_some}

abbrev deps_in : Option Attrs → List ℕ
deps_in None = []
deps_in (Some a) = a.deps

-- all that is depended on
abbrev pub deps_of : List (ℕ × Record) → List ℕ
deps_of [] = []
deps_of (e ∷ es) = deps_in (attrs_of (committed_decree e.1.vote)) ++ deps_of es

-- all that is depended on in the records
abbrev pub universe : Map Record → List ℕ
universe m = deps_of (entries m)

found_within : (es : List (ℕ × Record)) (i j : ℕ) (r : Record) → find nat_cmp i es ≡ Some r → Has (deps_in (attrs_of (committed_decree r.vote))) j → Has (deps_of es) j
found_within [] i j r e h = cc
found_within (x ∷ es) i j r e h = go (eq_by_cmp nat_cmp i x.0) e (λ f. found_within es i j r f h)
  where
    go : (b : Bool) → cond b (Some x.1) (find nat_cmp i es) ≡ Some r → (find nat_cmp i es ≡ Some r → Has (deps_of es) j) → Has (deps_of (x ∷ es)) j
    go true f k = has_left (deps_in (attrs_of (committed_decree x.1.vote))) (deps_of es) j (let same : x.1 ≡ r = cc in subst (λ (q : Record). Has (deps_in (attrs_of (committed_decree q.vote))) j) (sym same) h)
    go false f k = has_right (deps_in (attrs_of (committed_decree x.1.vote))) (deps_of es) j (k f)

abbrev shown : ℕ → Option Record → Option Attrs
shown i o = attrs_of (committed_decree (record_or_fresh i o).vote)

pub deps_within : (m : Map Record) (i j : ℕ) (a : Attrs) → graph_in m i ≡ Some a → Has a.deps j → Has (universe m) j
deps_within m i j a e h = go (get m i) refl e
  where
    go : (o : Option Record) → get m i ≡ o → graph_in m i ≡ Some a → Has (universe m) j
    go None f g = let n : graph_in m i ≡ None = ap (shown i) f in cc
    go (Some r) f g = found_within (entries m) i j r (sym (map.get-entries m i) ∙ f)
        (let n : graph_in m i ≡ attrs_of (committed_decree r.vote) = ap (shown i) f in subst (λ o. Has (deps_in o) j) (sym (sym n ∙ g)) h)

-- and so is what they depend on without what was executed
pub left_within : (m : Map Record) (executed : List ℕ) (i j : ℕ) (a : Attrs) → left_in m executed i ≡ Some a → Has a.deps j → Has (universe m) j
left_within m executed i j a e h =
    let c = cut_some executed (graph_in m i) a e in
    deps_within m i j c.0 c.1 (has_filter (is_out executed) (c.0).deps j (subst (λ xs. Has xs j) c.2 h)).0
