-- Several texts, appended one after another.
use Rattle.std.proofs.Common.{◌≡◌, ◌<◌, ◌+◌, ℕ, suc, List, ◌∷◌, ◌++◌, Result, Ok, Err, drop, length, get_or, sym, ap, ◌∙◌, append_assoc, arith}
use Rattle.std.specs.Prelude.{OnOk, is_ok, if◌then◌else◌}
use Rattle.std.proofs.lemmas.List.{drop_more}
use Rattle.ep_assemble.specs.Lines.{end_line, name_at, torn_lines}
use Rattle.ep_assemble.specs.declared.assembled.End.{End}

pub joined : (old mid new a b : List ℕ) → mid ≡ old ++ a → new ≡ mid ++ b → new ≡ old ++ (a ++ b)
joined old mid new a b is then' = then' ∙ ap (λ (l : List ℕ). l ++ b) is ∙ append_assoc old a b

pub last_joined : {T E : Type 0} (r : Result T E) (old mid new a b : List ℕ) → mid ≡ old ++ a → new ≡ (if is_ok r then (mid ++ b) else mid) → OnOk r (new ≡ old ++ (a ++ b))
last_joined (Ok x) old mid new a b is then' = joined old mid new a b is then'
last_joined (Err e) old mid new a b is then' = tt

drop_at : (i : ℕ) (xs : List End) (x d : End) → i < length xs → x ≡ get_or xs i d → drop i xs ≡ x ∷ drop (i + 1) xs
drop_at i xs x d less is = drop_more xs i d less ∙ ap (λ (e : End). e ∷ drop (i + 1) xs) (sym is)

pub one_more_line : (i : ℕ) (names : List (List ℕ)) (ends : List End) (e d : End) (out out' total : List ℕ) → i < length ends → e ≡ get_or ends i d →
    out ++ torn_lines i names (drop i ends) ≡ total → out' ≡ out ++ end_line (name_at names i) e → out' ++ torn_lines (i + 1) names (drop (i + 1) ends) ≡ total
one_more_line i names ends e d out out' total less is all more =
    let next : i + 1 ≡ suc i = omega arith in
    let rest : List ℕ = torn_lines (suc i) names (drop (i + 1) ends) in
    ap (λ n. out' ++ torn_lines n names (drop (i + 1) ends)) next ∙ ap (λ (l : List ℕ). l ++ rest) more ∙ append_assoc out (end_line (name_at names i) e) rest
    ∙ ap (λ (es : List End). out ++ torn_lines i names es) (sym (drop_at i ends e d less is)) ∙ all
