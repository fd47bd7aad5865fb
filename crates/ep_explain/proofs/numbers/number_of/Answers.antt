use Rattle.std.proofs.Common.{arith, ◌≡◌, ◌∙◌, ℕ, ◌+◌, ◌%◌, ◌^◌, List, [], ◌∷◌, drop, ap, sym}
use Rattle.std.proofs.lemmas.List.{drop_all, drop_more}
use Rattle.ep_explain.proofs.Numbering.{wrapped, taken, all_taken}
use Rattle.ep_explain.proofs.numbers.number_of.Goals as goal

pub loop-byte-preserved : goal.loop-byte-preserved
loop-byte-preserved c =
    let bytes : List ℕ = c.args.bytes.now in
    let i : ℕ = c.loop-byte.byte-index in
    let rest : List ℕ = drop (i + 1) bytes in
    let here : drop i bytes ≡ c.from.result ∷ rest =
    drop_more bytes i 0 c.loop-byte-test.true ∙ ap (λ (b : ℕ). b ∷ rest) (sym c.from.ensures) in
    let before = ap (λ (l : List ℕ). wrapped c.loop-byte.number l) (sym here) in
    taken c.loop-byte.number c.from.result rest ∙ before ∙ c.loop-byte.invariant

pub returns : goal.returns
returns c =
    let bytes : List ℕ = c.args.bytes.now in
    let i : ℕ = c.loop-byte.byte-index in
    let n : ℕ = c.loop-byte.number in
    let none : drop i bytes ≡ [] = drop_all i bytes (omega (arith, c.loop-byte-test.false)) in
    let fits : n ≡ n % 2 ^ 64 = omega (arith, c.loop-byte.auto.number-fits) in
    let all : n ≡ wrapped 0 bytes = fits ∙ sym (ap (wrapped n) none) ∙ c.loop-byte.invariant in
    all ∙ ap (λ (n : ℕ). n % 2 ^ 64) (all_taken bytes)
