-- Parts of a line, one after another.
use Rattle.std.proofs.Common.{◌≡◌, ℕ, List, [], ◌∷◌, ◌++◌, refl, sym, ap, ◌∙◌, append_assoc, append-nil, Result, Ok, Err}
use Rattle.std.specs.Prelude.{OnOk}
use Rattle.ep_report.specs.declared.part.Part.{Part}
use Rattle.ep_report.specs.Parts.{part_text, parts_text, more_parts}

after : (o t : List ℕ) (ps : List Part) → more_parts (o ++ t) ps ≡ o ++ more_parts t ps
after o t [] = refl
after o t (p ∷ ps) = ap (λ (x : List ℕ). more_parts x ps) (append_assoc o t (part_text p)) ∙ after o (t ++ part_text p) ps

-- the parts follow what was there
pub parts_after : (o : List ℕ) (ps : List Part) → more_parts o ps ≡ o ++ parts_text ps
parts_after o [] = sym (append-nil o)
parts_after o (p ∷ ps) = after o (part_text p) ps

-- the end of a line follows it
pub ended : {T E : Type 0} (r : Result T E) (n o line end : List ℕ) → OnOk r (n ≡ o ++ (line ++ end)) → OnOk r (n ≡ o ++ line ++ end)
ended (Ok x) n o line end h = h ∙ sym (append_assoc o line end)
ended (Err x) n o line end h = h
