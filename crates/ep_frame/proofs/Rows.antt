-- Rows of tests, and what each test says.
use Rattle.std.proofs.Common.{◌≡◌, ◌≢◌, ℕ, ◌≤◌, Bool, true, false, cond, eqb, leb, List, [], ◌∷◌, Result, Ok, Err, refl, sym, ap, ◌∙◌, true≢false}
use Rattle.std.specs.Prelude.{not}
use Rattle.std.proofs.lemmas.Bool.{eqb-true, leb-true, le-leb, eq-eqb, and_parts, and_from}
use Rattle.ep_frame.specs.declared.fault.FrameFault.{FrameFault}
use Rattle.ep_frame.specs.Faults.{checked, within}

abbrev pub AllPass : List (FrameFault × Bool) → Type 0
AllPass [] = Unit {0}
AllPass (row ∷ rows) = (row.1 ≡ true) × AllPass rows

abbrev pub fine : Result (Unit {0}) FrameFault
fine = Ok tt

pub passes : (rows : List (FrameFault × Bool)) → checked rows ≡ fine → AllPass rows
passes [] e = tt
passes (row ∷ rows) e = elim row.1 as (λ b. cond b (checked rows) (Err row.0) ≡ fine → (b ≡ true) × AllPass rows) [ true ↦ λ t. (refl, passes rows t) | false ↦ λ t. absurd cc ] e

pub all_pass : (rows : List (FrameFault × Bool)) → AllPass rows → checked rows ≡ fine
all_pass [] p = refl
all_pass (row ∷ rows) p = ap (λ b. cond b (checked rows) (Err row.0)) p.0 ∙ all_pass rows p.1

pub within-is : (low high n : ℕ) → within low high n ≡ true → (low ≤ n) × (n ≤ high)
within-is low high n e = let p = and_parts (leb low n) (leb n high) e in (leb-true low n p.0, leb-true n high p.1)

pub within-from : (low high n : ℕ) → low ≤ n → n ≤ high → within low high n ≡ true
within-from low high n l h = and_from (leb low n) (leb n high) (le-leb low n l) (le-leb n high h)

pub apart-is : (a b : ℕ) → not (eqb a b) ≡ true → a ≢ b
apart-is a b n e = true≢false (sym n ∙ ap not (eq-eqb a b e))

pub apart-from : (a b : ℕ) → a ≢ b → not (eqb a b) ≡ true
apart-from a b n = elim (eqb a b) as (λ c. eqb a b ≡ c → not c ≡ true) [ true ↦ λ t. absurd (n (eqb-true a b t)) | false ↦ λ t. refl ] refl

-- what the test chose
pub chosen : (b x y : Bool) → b ≡ true → cond b x y ≡ true → x ≡ true
chosen true x y t e = e
chosen false x y t e = absurd (true≢false (sym t))

pub other_chosen : (b x y : Bool) → b ≡ false → cond b x y ≡ true → y ≡ true
other_chosen true x y t e = absurd (true≢false t)
other_chosen false x y t e = e

pub choose : (b x y : Bool) → b ≡ true → x ≡ true → cond b x y ≡ true
choose true x y t e = e
choose false x y t e = absurd (true≢false (sym t))

pub choose_other : (b x y : Bool) → b ≡ false → y ≡ true → cond b x y ≡ true
choose_other true x y t e = absurd (true≢false t)
choose_other false x y t e = e

-- what either choice gives
pub either : {P : Type 0} (b x y : Bool) → cond b x y ≡ true → (x ≡ true → P) → (y ≡ true → P) → P
either true x y e f g = f e
either false x y e f g = g e
