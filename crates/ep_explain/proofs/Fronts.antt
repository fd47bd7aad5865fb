-- How the bytes begin that are taken for a script.
use Rattle.std.proofs.Common.{◌≡◌, ◌≤◌, ℕ, suc, List, [], ◌∷◌, ◌++◌, length, take, Option, Some, None, Result, Ok, Err, IfOk, append-nil, codes, refl, sym, ap, subst, ◌∙◌, arith}
use Rattle.std.specs.Prelude.{Bool, true, false, min}
use Rattle.ep_explain.specs.Explained.{IsExplained, IsScriptReported, script}
use Rattle.ep_explain.specs.Kept.{followed}
use Rattle.ep_explain.specs.Magic.{magic, HasMagic, MayBegin}
use Rattle.ep_explain.specs.declared.explained.Explained.{Explained}
use Rattle.ep_explain.specs.declared.subcommand.Subcommand.{Subcommand}

-- what is kept and wasn't pulled stands at the front of what is left
ahead_of : (over : Bool) (p : List ℕ) (known : Option (List ℕ)) (zs : List ℕ) → followed over p known ≡ Some zs → (r : List ℕ) × (p ++ r ≡ zs)
ahead_of true p known zs h = let same : Some p ≡ Some zs = h in ([], append-nil p ∙ cc)
ahead_of false p None zs h = let none : None ≡ Some zs = h in absurd (cc)
ahead_of false p (Some k) zs h = let same : Some (p ++ k) ≡ Some zs = h in (k, cc)

-- what has the magic may begin a bundle, however little of it is seen
has_front : (p r : List ℕ) → HasMagic (p ++ r) → MayBegin p
has_front [] r h = refl
has_front (a ∷ []) r h = ap (λ (l : List ℕ). take 1 l) h
has_front (a ∷ b ∷ []) r h = ap (λ (l : List ℕ). take 2 l) h
has_front (a ∷ b ∷ c ∷ []) r h = ap (λ (l : List ℕ). take 3 l) h
has_front (a ∷ b ∷ c ∷ d ∷ ps) r h =
    let four : 4 ≡ min (length (a ∷ b ∷ c ∷ d ∷ ps)) 4 = omega arith in
    subst (λ (n : ℕ). take n (a ∷ b ∷ c ∷ d ∷ ps) ≡ take n magic) four h

pub taken_if :
    {E : Type 0} (over : Bool) (p : List ℕ) (known : Option (List ℕ)) (zs : List ℕ) (subcommand : Subcommand) (r : Result Explained E) → followed over p known ≡ Some zs → ¬ MayBegin p →
    IfOk r (λ reported. IsScriptReported zs subcommand reported.finding reported.text.items) → IfOk r (λ reported. IsExplained zs reported.finding reported.text.items)
taken_if over p known zs subcommand (Err e) left never reported = tt
taken_if over p known zs subcommand (Ok t) left never reported =
    let front = ahead_of over p known zs left in
    script subcommand (λ (h : HasMagic zs). never (has_front p front.0 (subst HasMagic (sym front.1) h))) reported
