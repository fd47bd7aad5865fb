-- Changes that are merged into entries one key at a time.
use Rattle.std.proofs.Common.{◌≡◌, ◌<◌, ◌≤◌, ◌+◌, ◌↔◌, arith, ℕ, zero, suc, Bool, true, false, true≢false, cond, List, [], ◌∷◌, ◌++◌, length, drop, Option, Some, None, IfSome, refl, sym, ap, subst, ◌∙◌, append_assoc, is_eq, is_lt, Ordering, Less, Equal, Greater}
use Rattle.std.proofs.lemmas.List.{append-nil}
use Rattle.std.specs.Prelude.{slice_get, IsSome}
use Rattle.ep_exec.specs.Merging.{below, from, past, said, merged, starts_at}
use Rattle.ep_exec.specs.Settling.{leads}
use Rattle.ep_exec.specs.Table.{Entry, key_cmp}
use Rattle.ep_exec.proofs.Mixed.{change_merged}
use Rattle.ep_exec.proofs.Sorting.{Pair}

-- an entry that stands first is the first of all
leads_all : (e : Pair) (es : List Pair) (ts : List Entry) → leads (e ∷ es) ts ≡ true → merged (e ∷ es) ts ≡ e ∷ merged es ts
leads_all e es [] h = refl
leads_all e es (t ∷ ts) h =
    let k : List ℕ = t.0.items in
    ap (λ (b : Bool). cond b (e ∷ below k es) [] ++ said k t.1 ++ merged (past k (cond b (from k es) (e ∷ es))) ts) h

-- it is copied
pub entry_copied : (whole items items' left rest : List Pair) (ts us : List Entry) (e f : Pair) → left ≡ e ∷ rest → leads left ts ≡ true → f ≡ e → items' ≡ items ++ f ∷ [] → us ≡ ts
    → items ++ merged left ts ≡ whole → items' ++ merged rest us ≡ whole
entry_copied whole items items' left rest ts us e f is first same more stay was =
    (λ i. more i ++ merged rest (stay i))
    ∙ append_assoc items (f ∷ []) (merged rest ts)
    ∙ ap (λ (p : Pair). items ++ p ∷ merged rest ts) same
    ∙ ap (λ (xs : List Pair). items ++ xs) (sym (leads_all e rest ts (subst (λ (xs : List Pair). leads xs ts ≡ true) is first)))
    ∙ ap (λ (xs : List Pair). items ++ merged xs ts) (sym is)
    ∙ was

unled : (es : List Pair) (t : Entry) (ts : List Entry) → leads es (t ∷ ts) ≡ false → (below t.0.items es ≡ []) × (from t.0.items es ≡ es)
unled [] t ts h = (refl, refl)
unled (e ∷ es) t ts h =
    let k : List ℕ = t.0.items in
    (ap (λ (b : Bool). cond b (e ∷ below k es) []) h, ap (λ (b : Bool). cond b (from k es) (e ∷ es)) h)

-- a change that stands first is taken
pub change_taken : (whole items items' left left' : List Pair) (ts us : List Entry) (t : Entry) → leads left ts ≡ false → ts ≡ t ∷ us → items' ≡ items ++ said t.0.items t.1 → left' ≡ past t.0.items left
    → items ++ merged left ts ≡ whole → items' ++ merged left' us ≡ whole
change_taken whole items items' left left' ts us t none is more rest was =
    let k : List ℕ = t.0.items in
    let apart = unled left t us (subst (λ (xs : List Entry). leads left xs ≡ false) is none) in
    change_merged whole items items' left left' ts us t is
    (more ∙ ap (λ (xs : List Pair). xs ++ said k t.1) (sym (append-nil items) ∙ ap (λ (xs : List Pair). items ++ xs) (sym apart.0)))
    (rest ∙ ap (past k) (sym apart.1)) was

-- what stands behind a first entry of this key
pub same_past : (k : List ℕ) (left rest : List Pair) (e : Pair) → left ≡ e ∷ rest → starts_at k left ≡ true → rest ≡ past k left
same_past k left rest e is h =
    let at : is_eq (key_cmp e.0 k) ≡ true = subst (λ (xs : List Pair). starts_at k xs ≡ true) is h in
    ap (λ (b : Bool). cond b rest (e ∷ rest)) (sym at) ∙ ap (past k) (sym is)

pub none_past : (k : List ℕ) (left : List Pair) → starts_at k left ≡ false → left ≡ past k left
none_past k [] h = refl
none_past k (e ∷ es) h = ap (λ (b : Bool). cond b es (e ∷ es)) (sym h)

-- all is merged
pub all_made : (whole items left : List Pair) (ts : List Entry) → left ≡ [] → ts ≡ [] → items ++ merged left ts ≡ whole → items ≡ whole
all_made whole items left ts none end was = sym (append-nil items) ∙ (λ i. items ++ merged (sym none i) (sym end i)) ∙ was

pub past_one : (base : List Pair) (i : ℕ) (k : List ℕ) → starts_at k (drop i base) ≡ true → drop (i + 1) base ≡ past k (drop i base)
past_one [] zero k h = absurd (true≢false (sym h))
past_one [] (suc i) k h = absurd (true≢false (sym h))
past_one (e ∷ es) zero k h = same_past k (e ∷ es) es e refl h
past_one (e ∷ es) (suc i) k h = let up : suc i + 1 ≡ suc (i + 1) = omega arith in ap (λ (n : ℕ). drop n (e ∷ es)) up ∙ past_one es i k h

-- the first change is taken out of the tree
pub first_popped : (ts us : List Entry) (o : Option Entry) (t : Entry) → slice_get ts 0 ≡ Some t → IsSome o ↔ (0 < length ts) → IfSome o (λ p. ts ≡ p ∷ us) → ts ≡ t ∷ us
first_popped [] us o t h some is = absurd (cc)
first_popped (x ∷ xs) us None t h some is = absurd (true≢false (sym (some.1 (omega arith))))
first_popped (x ∷ xs) us (Some p) t h some is = let same : x ≡ t = cc in let rest : xs ≡ us = cc in (λ i. same i ∷ rest i)
