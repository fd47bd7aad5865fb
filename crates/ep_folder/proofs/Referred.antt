-- From where on logs are replayed.
use Rattle.std.proofs.Common.{◌≡◌, ℕ, zero, suc, ◌-◌, Bool, true, false, not, cond, ◌&&◌, ltb, List, Result, Ok, Err, refl, sym, ap, ◌∙◌, arith}
use Rattle.std.proofs.lemmas.Bool.{lt-ltb}
use Rattle.ep_folder.specs.Plans.{can_read, first_of, is_referred}
use Rattle.ep_folder.specs.declared.generation_folder.GenerationFolder.{GenerationFolder}
use Rattle.ep_folder.specs.declared.start_fault.StartFault.{StartFault}
use Rattle.ep_folder.specs.declared.start_fault.StartFault.TheVariants.{Broken}

abbrev pub Found : Type 0
Found = Result ℕ StartFault

abbrev pub found : ℕ → Found
found g = Ok g

-- it is sought below
abbrev goes : ℕ → List GenerationFolder → Bool
goes g hs = ltb 0 g && not (can_read g hs) && is_referred g hs

below_suc : (d : ℕ) (hs : List GenerationFolder) → goes (suc d) hs ≡ true → first_of (suc d) hs ≡ first_of d hs
below_suc d hs h = go (ltb 0 (suc d)) (can_read (suc d) hs) (is_referred (suc d) hs) h
  where
    go : (p a b : Bool) → (p && not a && b) ≡ true → cond {A = Found} a (Ok (suc d)) (cond b (first_of d hs) (Err (Broken (suc d)))) ≡ first_of d hs
    go true true b e = absurd (cc)
    go true false true e = refl
    go true false false e = absurd (cc)
    go false a b e = absurd (cc)

pub goes_on : (g : ℕ) (hs : List GenerationFolder) (all : Found) → goes g hs ≡ true → first_of g hs ≡ all → first_of (g - 1) hs ≡ all
goes_on zero hs all h is = absurd (cc)
goes_on (suc d) hs all h is = let e : suc d - 1 ≡ d = omega arith in ap (λ (x : ℕ). first_of x hs) e ∙ sym (below_suc d hs h) ∙ is

-- here it is read
pub is_read : (g : ℕ) (hs : List GenerationFolder) → (ltb 0 g && can_read g hs) ≡ true → found g ≡ first_of g hs
is_read zero hs h = absurd (cc)
is_read (suc d) hs h = go (ltb 0 (suc d)) (can_read (suc d) hs) h
  where
    go : (p a : Bool) → (p && a) ≡ true → found (suc d) ≡ cond {A = Found} a (Ok (suc d)) (cond (is_referred (suc d) hs) (first_of d hs) (Err (Broken (suc d))))
    go true true e = refl
    go true false e = absurd (cc)
    go false a e = absurd (cc)

-- or it is broken
pub is_broken : (g : ℕ) (hs : List GenerationFolder) → goes g hs ≡ false → (ltb 0 g && can_read g hs) ≡ false → Err (Broken g) ≡ first_of g hs
is_broken zero hs h k = refl
is_broken (suc d) hs h k = go (can_read (suc d) hs) (is_referred (suc d) hs) (one h) (two k)
  where
    positive : ltb 0 (suc d) ≡ true
    positive = lt-ltb 0 (suc d) (omega arith)

    one : goes (suc d) hs ≡ false → (not (can_read (suc d) hs) && is_referred (suc d) hs) ≡ false
    one e = ap (λ (p : Bool). p && not (can_read (suc d) hs) && is_referred (suc d) hs) (sym positive) ∙ e

    two : (ltb 0 (suc d) && can_read (suc d) hs) ≡ false → can_read (suc d) hs ≡ false
    two e = ap (λ (p : Bool). p && can_read (suc d) hs) (sym positive) ∙ e

    go : (a b : Bool) → (not a && b) ≡ false → a ≡ false → Err (Broken (suc d)) ≡ cond {A = Found} a (Ok (suc d)) (cond b (first_of d hs) (Err (Broken (suc d))))
    go true b e f = absurd (cc)
    go false true e f = absurd (cc)
    go false false e f = refl
