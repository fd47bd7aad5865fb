-- What a change of one entry of an index says of its runs.
use Rattle.std.proofs.Common.{◌≡◌, ◌≢◌, ◌&&◌, eqb, ℕ, zero, suc, ◌+◌, length, drop, arith, Bool, true, false, true≢false, cond, Some, List, [], ◌∷◌, refl, sym, ap, ◌∙◌}
use Rattle.std.proofs.Math.Seq.{drop-cons}
use Rattle.std.proofs.lemmas.Bool.{eqb-true, ne_eqb}
use Rattle.std.proofs.lemmas.Option.{slice_get_within, get_or_from_slice_get}
use Rattle.std.specs.Cmp.Lexicographic.{nat_list_eq_equiv}
use Rattle.std.specs.Prelude.{Vec, Option, is_some, slice_get}
use Rattle.std.specs.Global.{Global}
use Rattle.std.specs.Map.{lookup, set_value, KeepsOthers}
use Rattle.ep_base.specs.Attributes.{same_list}
use Rattle.ep_base.proofs.Same.{Decides-same_list}
use Rattle.ep_space.specs.declared.index.Index.{Index}
use Rattle.ep_space.specs.Index.{Entry, is_at, listed, run, run_in, is_roomy, found_roomy, room_in}

abbrev pub same : Vec ℕ Global → Vec ℕ Global → Bool
same k l = same_list k.items l.items

turned : (k l : List ℕ) → same_list k l ≡ same_list l k
turned k l = nat_list_eq_equiv.symm k l

-- an index that keeps what other keys have keeps it at each list of bytes
other_kept : (old new : List Entry) (k q : List ℕ) → KeepsOthers same (is_at k) old new → same_list q k ≡ false → lookup (is_at q) new ≡ lookup (is_at q) old
unfolding KeepsOthers
other_kept old new k q keeps e = keeps (is_at q) (λ x y h. nat_list_eq_equiv.congr q x.items y.items h)
    (λ l h. turned q l.items ∙ sym (nat_list_eq_equiv.congr k l.items q h) ∙ turned k q ∙ e)

-- what is found at each key

-- with a new entry
pub lookup-updated : (old new : List Entry) (k : List ℕ) (v : Vec ℕ Global) → lookup (is_at k) new ≡ Some v → KeepsOthers same (is_at k) old new
    → (q : List ℕ) → lookup (is_at q) new ≡ cond (same_list q k) (Some v) (lookup (is_at q) old)
lookup-updated old new k v here keeps q = go (same_list q k) refl
  where
    go : (b : Bool) → same_list q k ≡ b → lookup (is_at q) new ≡ cond b (Some v) (lookup (is_at q) old)
    go true e = ap (λ z. lookup (is_at z) new) ((Decides-same_list q k).0 e) ∙ here
    go false e = other_kept old new k q keeps e

-- with an entry that is written
pub lookup-set : (es : List Entry) (k : List ℕ) (v w : Vec ℕ Global) → lookup (is_at k) es ≡ Some v → (q : List ℕ) → lookup (is_at q) (set_value (is_at k) es w) ≡ cond (same_list q k) (Some w) (lookup (is_at q) es)
lookup-set [] k v w here q = absurd (true≢false (sym (ap is_some here)))
lookup-set (e ∷ es) k v w here q = go (is_at k e.0) refl here (λ h. lookup-set es k v w h q)
  where
    at_key : (b : Bool) → same_list q k ≡ b → same_list k e.0.items ≡ true → cond (same_list q e.0.items) (Some w) (lookup (is_at q) es) ≡ cond b (Some w) (cond (same_list q e.0.items) (Some e.1) (lookup (is_at q) es))
    at_key true s h =
        let own : same_list q e.0.items ≡ true = nat_list_eq_equiv.congr q k e.0.items s ∙ h in
        ap (λ b. cond b (Some w) (lookup (is_at q) es)) own
    at_key false s h =
        let own : same_list q e.0.items ≡ false = turned q e.0.items ∙ sym (nat_list_eq_equiv.congr k e.0.items q h) ∙ turned k q ∙ s in
        ap (λ b. cond b (Some w) (lookup (is_at q) es)) own ∙ sym (ap (λ b. cond b (Some e.1) (lookup (is_at q) es)) own)

    later : (b c : Bool) → same_list q e.0.items ≡ b → same_list q k ≡ c → same_list k e.0.items ≡ false → lookup (is_at q) (set_value (is_at k) es w) ≡ cond c (Some w) (lookup (is_at q) es)
        → cond b (Some e.1) (lookup (is_at q) (set_value (is_at k) es w)) ≡ cond c (Some w) (cond b (Some e.1) (lookup (is_at q) es))
    later true true s t h rest = absurd (true≢false (sym s ∙ nat_list_eq_equiv.congr q k e.0.items t ∙ h))
    later true false s t h rest = refl
    later false c s t h rest = rest

    go : (b : Bool) → is_at k e.0 ≡ b → cond b (Some e.1) (lookup (is_at k) es) ≡ Some v → (lookup (is_at k) es ≡ Some v → lookup (is_at q) (set_value (is_at k) es w) ≡ cond (same_list q k) (Some w) (lookup (is_at q) es))
        → lookup (is_at q) (cond b ((e.0, w) ∷ es) (e ∷ set_value (is_at k) es w)) ≡ cond (same_list q k) (Some w) (lookup (is_at q) (e ∷ es))
    go true h here rest = at_key (same_list q k) refl h
    go false h here rest = later (same_list q e.0.items) (same_list q k) refl refl h (rest here)

-- the run of each key

listed_either : (b : Bool) (v : Vec ℕ Global) (o : Option (Vec ℕ Global)) → listed (cond b (Some v) o) ≡ cond b v.items (listed o)
listed_either true v o = refl
listed_either false v o = refl

pub run-updated : (old new : List Entry) (k : List ℕ) (v : Vec ℕ Global) → lookup (is_at k) new ≡ Some v → KeepsOthers same (is_at k) old new
    → (q : List ℕ) → run_in new q ≡ cond (same_list q k) v.items (run_in old q)
run-updated old new k v here keeps q = ap listed (lookup-updated old new k v here keeps q) ∙ listed_either (same_list q k) v (lookup (is_at q) old)

pub run-set : (es : List Entry) (k : List ℕ) (v w : Vec ℕ Global) → lookup (is_at k) es ≡ Some v → (q : List ℕ) → run_in (set_value (is_at k) es w) q ≡ cond (same_list q k) w.items (run_in es q)
run-set es k v w here q = ap listed (lookup-set es k v w here q) ∙ listed_either (same_list q k) w (lookup (is_at q) es)

-- whether it has a free place

roomy_either : (b : Bool) (v : Vec ℕ Global) (o : Option (Vec ℕ Global)) → found_roomy (cond b (Some v) o) ≡ cond b (is_roomy v) (found_roomy o)
roomy_either true v o = refl
roomy_either false v o = refl

pub room-updated : (old new : List Entry) (k : List ℕ) (v : Vec ℕ Global) → lookup (is_at k) new ≡ Some v → KeepsOthers same (is_at k) old new
    → (q : List ℕ) → room_in new q ≡ cond (same_list q k) (is_roomy v) (room_in old q)
room-updated old new k v here keeps q = ap found_roomy (lookup-updated old new k v here keeps q) ∙ roomy_either (same_list q k) v (lookup (is_at q) old)

pub room-set : (es : List Entry) (k : List ℕ) (v w : Vec ℕ Global) → lookup (is_at k) es ≡ Some v → (q : List ℕ) → room_in (set_value (is_at k) es w) q ≡ cond (same_list q k) (is_roomy w) (room_in es q)
room-set es k v w here q = ap found_roomy (lookup-set es k v w here q) ∙ roomy_either (same_list q k) w (lookup (is_at q) es)

abbrev pub Changes : (List ℕ → List ℕ) → List Entry → List ℕ → List Entry → Type 0
Changes f es k fs = (q : List ℕ) → run_in fs q ≡ cond (same_list q k) (f (run_in es q)) (run_in es q)

-- where the run of one key is changed so
pub run-changed : (f : List ℕ → List ℕ) (es fs : List Entry) (k : List ℕ) (v w : Vec ℕ Global) → lookup (is_at k) es ≡ Some v → fs ≡ set_value (is_at k) es w → w.items ≡ f v.items → Changes f es k fs
run-changed f es fs k v w here written changed q = ap (λ gs. run_in gs q) written ∙ run-set es k v w here q ∙ go (same_list q k) refl
  where
    go : (b : Bool) → same_list q k ≡ b → cond b w.items (run_in es q) ≡ cond b (f (run_in es q)) (run_in es q)
    go true e = changed ∙ sym (ap f (ap (run_in es) ((Decides-same_list q k).0 e) ∙ ap listed here))
    go false e = refl

pub run-kept : (es fs : List Entry) (k : List ℕ) (v w : Vec ℕ Global) → lookup (is_at k) es ≡ Some v → fs ≡ set_value (is_at k) es w → w.items ≡ v.items → (q : List ℕ) → run_in fs q ≡ run_in es q
run-kept es fs k v w here written kept q = run-changed (λ xs. xs) es fs k v w here written kept q ∙ go (same_list q k)
  where
    go : (b : Bool) → cond b (run_in es q) (run_in es q) ≡ run_in es q
    go true = refl
    go false = refl

-- the run of an entry at the front, or of the rest
run-front : (e : Entry) (es : List Entry) (q : List ℕ) → run_in (e ∷ es) q ≡ cond (same_list q e.0.items) e.1.items (run_in es q)
run-front e es q = go (same_list q e.0.items)
  where
    go : (b : Bool) → listed (cond b (Some e.1) (lookup (is_at q) es)) ≡ cond b e.1.items (run_in es q)
    go true = refl
    go false = refl

-- the runs from an entry on
pub run-from : (es : List Entry) (k n : ℕ) (e : Entry) (q : List ℕ) → slice_get es k ≡ Some e → n ≡ k + 1 → run_in (drop k es) q ≡ cond (same_list q e.0.items) e.1.items (run_in (drop n es) q)
run-from es k n e q here next =
    let cons = drop-cons es k e (slice_get_within es k e here) in
    let place : suc k ≡ n = omega (arith, next) in
    ap (λ fs. run_in fs q) (cons ∙ (λ d. get_or_from_slice_get es k e e here d ∷ drop (place d) es)) ∙ run-front e (drop n es) q

pub empty_of : (k : List ℕ) → true ≡ eqb (length k) 0 → k ≡ []
empty_of [] e = refl
empty_of (b ∷ bs) e = absurd (let is = eqb-true (suc (length bs)) 0 (sym e) in omega arith)

-- A change of the run of a key that is written, of one that is only read, and of that of seals.

-- behind another mark there is nothing
other_mark : (f : List ℕ → List ℕ) (m n : ℕ) (k key : List ℕ) → m ≢ n → [] ≡ cond (same_list (m ∷ k) (n ∷ key)) (f []) []
other_mark f m n k key apart = ap (λ b. cond (b && same_list k key) (f []) []) (sym (ne_eqb m n apart))

pub run-of_writes : (f : List ℕ → List ℕ) (x y : Index) (key : List ℕ) → y.seals ≡ x.seals → y.reads ≡ x.reads → Changes f x.writes.runs.entries key y.writes.runs.entries
    → (k : List ℕ) → run y k ≡ cond (same_list k (0 ∷ key)) (f (run x k)) (run x k)
run-of_writes f x y key seals reads changed [] = ap (λ v. v.items) seals
run-of_writes f x y key seals reads changed (zero ∷ k) = changed k
run-of_writes f x y key seals reads changed (suc zero ∷ k) = ap (λ s. run_in s.runs.entries k) reads
run-of_writes f x y key seals reads changed (suc (suc m) ∷ k) = other_mark f (suc (suc m)) 0 k key (λ e. omega (arith, e))

pub run-of_reads : (f : List ℕ → List ℕ) (x y : Index) (key : List ℕ) → y.seals ≡ x.seals → y.writes ≡ x.writes → Changes f x.reads.runs.entries key y.reads.runs.entries
    → (k : List ℕ) → run y k ≡ cond (same_list k (1 ∷ key)) (f (run x k)) (run x k)
run-of_reads f x y key seals writes changed [] = ap (λ v. v.items) seals
run-of_reads f x y key seals writes changed (zero ∷ k) = ap (λ s. run_in s.runs.entries k) writes
run-of_reads f x y key seals writes changed (suc zero ∷ k) = changed k
run-of_reads f x y key seals writes changed (suc (suc m) ∷ k) = other_mark f (suc (suc m)) 1 k key (λ e. omega (arith, e))

pub run-of_seals : (f : List ℕ → List ℕ) (x y : Index) → y.seals.items ≡ f x.seals.items → y.writes ≡ x.writes → y.reads ≡ x.reads → (k : List ℕ) → run y k ≡ cond (same_list k []) (f (run x k)) (run x k)
run-of_seals f x y seals writes reads [] = seals
run-of_seals f x y seals writes reads (zero ∷ k) = ap (λ s. run_in s.runs.entries k) writes
run-of_seals f x y seals writes reads (suc zero ∷ k) = ap (λ s. run_in s.runs.entries k) reads
run-of_seals f x y seals writes reads (suc (suc m) ∷ k) = refl

pub run-same : (x y : Index) → y.seals.items ≡ x.seals.items → ((k : List ℕ) → run_in y.writes.runs.entries k ≡ run_in x.writes.runs.entries k)
    → ((k : List ℕ) → run_in y.reads.runs.entries k ≡ run_in x.reads.runs.entries k) → (k : List ℕ) → run y k ≡ run x k
run-same x y seals writes reads [] = seals
run-same x y seals writes reads (zero ∷ k) = writes k
run-same x y seals writes reads (suc zero ∷ k) = reads k
run-same x y seals writes reads (suc (suc m) ∷ k) = refl
