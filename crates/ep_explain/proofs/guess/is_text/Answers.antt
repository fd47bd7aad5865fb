use Rattle.std.proofs.Common.{rules, ◌≡◌, ◌∙◌, List, ℕ, take, ap}
use Rattle.std.specs.Borrow.{Bor}
use Rattle.ep_explain.specs.Magic.{MayBegin}
use Rattle.ep_explain.proofs.Texts.{front_of, text_if}
use Rattle.ep_explain.proofs.guess.is_text.Goals as goal

pub returns-then-not-begins_bundle : goal.returns-then-not-begins_bundle
returns-then-not-begins_bundle c =
    let bytes : List ℕ = c.args.bytes.now in
    let never : ¬ MayBegin bytes = search rules in
    let front : c.unwrap_or.result.now ≡ take 64 bytes =
    ap (λ (b : Bor (List ℕ)). b.now) c.unwrap_or.ensures ∙ front_of c.get.result c.args.bytes c.get.ensures.lookup in
    text_if bytes c.unwrap_or.result.now c.are_text.result never front c.are_text.ensures
