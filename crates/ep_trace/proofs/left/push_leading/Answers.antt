use Rattle.std.proofs.Common.{◌≡◌, ◌++◌, ℕ, List, codes, decimal, subst}
use Rattle.std.specs.Prelude.{OnOk}
use Rattle.ep_trace.proofs.left.push_leading.Goals as goal

pub returns : goal.returns
returns c =
    subst (λ (t : List ℕ). OnOk c.push_parts.result (c.push_parts.new.text.items ≡ c.args.text.now.items ++ (t ++ codes ", answers of others so far: " ++ decimal c.args.answers)))
    c.phase_words.ensures c.push_parts.ensures
