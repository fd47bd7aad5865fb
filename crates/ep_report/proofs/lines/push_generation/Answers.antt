use Rattle.std.proofs.Common.{◌≡◌, ◌++◌, List, ℕ, codes, decimal, subst, ◌∙◌, OnOk}
use Rattle.ep_report.specs.Lives.{Life, generation_line}
use Rattle.ep_report.proofs.Joining.{ended}
use Rattle.ep_report.proofs.lines.push_generation.Goals as goal

pub returns : goal.returns
returns c =
    let l : Life = c.args.life.now in
    let o : List ℕ = c.args.text.now.items in
    let t : List ℕ = c.push_parts.new.text.items in
    let n : c.number.result ≡ l.generation = c.number.ensures.value ∙ c.generation-generation.ensures in
    ended c.push_parts.result t o (generation_line l) (codes "\n")
    (subst (λ x. OnOk c.push_parts.result (t ≡ o ++ (codes "generation " ++ decimal l.generation ++ codes " since " ++ decimal x ++ codes "\n"))) c.base_stamp.ensures
    (subst (λ x. OnOk c.push_parts.result (t ≡ o ++ (codes "generation " ++ decimal x ++ codes " since " ++ decimal c.base_stamp.result ++ codes "\n"))) n c.push_parts.ensures))
