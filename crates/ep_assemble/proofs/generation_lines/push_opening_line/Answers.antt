use Rattle.std.proofs.Common.{rules, ◌≡◌, ◌++◌, List, ℕ, codes, ap, ◌∙◌}
use Rattle.ep_assemble.specs.GenerationLines.{opening_text}
use Rattle.ep_assemble.proofs.Appending.{joined, last_joined}
use Rattle.ep_assemble.proofs.generation_lines.push_opening_line.Goals as goal

pub returns : goal.returns
returns c =
    let out : List ℕ = c.args.out.now.items in
    let one : List ℕ = c.extend_from_slice.new.self.items in
    let two : List ℕ = c.extend_from_slice-2.new.self.items in
    let three : List ℕ = c.extend_from_slice-3.new.self.items in
    let four : List ℕ = c.push_opening_text.new.out.items in
    let name : List ℕ = c.args.name.now in
    let text : c.as_bytes.result.now ≡ name = search rules in
    let second : two ≡ one ++ name = c.in_ok-extend_from_slice-2.ensures.items ∙ ap (λ (l : List ℕ). one ++ l) text in
    last_joined c.extend_from_slice-4.result out four c.extend_from_slice-4.new.self.items (codes "opening refused " ++ name ++ codes ": " ++ opening_text c.args.fault) (codes "\n")
    (joined out three four (codes "opening refused " ++ name ++ codes ": ") (opening_text c.args.fault)
    (joined out two three (codes "opening refused " ++ name) (codes ": ") (joined out one two (codes "opening refused ") name c.in_ok-extend_from_slice.ensures.items second) c.in_ok-extend_from_slice-3.ensures.items)
    c.in_ok-push_opening_text.ensures)
    c.extend_from_slice-4.ensures.items
