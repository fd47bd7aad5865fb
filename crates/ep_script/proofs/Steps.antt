-- Reading a script line by line.
use Rattle.std.proofs.Common.{◌≡◌, ℕ, ◌<◌, ◌≤◌, ◌+◌, true, false, List, ◌∷◌, length, Option, Some, None, Err, refl, ap, ◌∙◌, arith}
use Rattle.std.specs.Prelude.{nat_le}
use Rattle.std.specs.Str.Lines.{strip_carriage_return}
use Rattle.std.proofs.lemmas.Bool.Decides.{nat_tests}
use Rattle.std.proofs.lemmas.Grind.{common_steps}
use Rattle.ep_script.specs.RawLines.{raw_lines, GotOf, longest}
use Rattle.ep_script.specs.Heads.{Head}
use Rattle.ep_script.specs.Plan.{reads, line_step}
use Rattle.ep_script.specs.declared.got.Got.{Got}
use Rattle.ep_script.specs.declared.got.Got.TheVariants.{Line, End, TooLong}
use Rattle.ep_script.specs.declared.stage.Stage.{Stage}

le_true : (n m : ℕ) → n ≤ m → nat_le n m ≡ true
le_true n m h = grind (arith, nat_tests)

le_false : (n m : ℕ) → m < n → nat_le n m ≡ false
le_false n m h = grind (arith, nat_tests)

-- stripping takes one byte at most
strip_len : (l : List ℕ) → length l ≤ length (strip_carriage_return l) + 1
strip_len l = grind (arith, common_steps, nat_tests)

pub long_none : {P : Type 0} (begins : Head → P) (takes : ℕ → P → List (List ℕ) → Option P) (n : ℕ) (p : Stage P) (l : List ℕ) → longest < length l → line_step begins takes n p l ≡ None
long_none begins takes n p l h = let s = strip_len l in rw (le_false (length (strip_carriage_return l)) 8192 (omega arith)) refl

pub reads_none : {P : Type 0} (begins : Head → P) (takes : ℕ → P → List (List ℕ) → Option P) (n : ℕ) (p : Stage P) (l : List ℕ) (ls : List (List ℕ)) → n ≤ 100000 → line_step begins takes n p l ≡ None → reads begins takes n p (l ∷ ls) ≡ Err n
reads_none begins takes n p l ls h e = rw (le_true n 100000 h, e) refl

pub reads_some : {P : Type 0} (begins : Head → P) (takes : ℕ → P → List (List ℕ) → Option P) (n : ℕ) (p q : Stage P) (l : List ℕ) (ls : List (List ℕ)) → n ≤ 100000 → line_step begins takes n p l ≡ Some q → reads begins takes n p (l ∷ ls) ≡ reads begins takes (n + 1) q ls
reads_some begins takes n p q l ls h e = rw (le_true n 100000 h, e) refl

pub reads_past : {P : Type 0} (begins : Head → P) (takes : ℕ → P → List (List ℕ) → Option P) (n : ℕ) (p : Stage P) (l : List ℕ) (ls : List (List ℕ)) → 100000 < n → reads begins takes n p (l ∷ ls) ≡ Err n
reads_past begins takes n p l ls h = rw (le_false n 100000 h) refl

-- a line after the last that a script can have
pub got_past : {P : Type 0} (begins : Head → P) (takes : ℕ → P → List (List ℕ) → Option P) (got : Got) (n : ℕ) (p : Stage P) (ws line window : List ℕ) (left : Option (List ℕ)) → GotOf got ws line window left → (got ≡ End → ⊥) → 100000 < n → reads begins takes n p (raw_lines ws) ≡ Err n
got_past begins takes Line n p ws line window left h other past = ap (reads begins takes n p) h.1 ∙ reads_past begins takes n p line (raw_lines h.0) past
got_past begins takes End n p ws line window left h other past = absurd (other refl)
got_past begins takes TooLong n p ws line window left h other past = ap (reads begins takes n p) h.2 ∙ reads_past begins takes n p h.0 h.1 past
