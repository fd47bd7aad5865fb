use Rattle.std.proofs.Common.{rules, ◌≡◌, ◌++◌, List, ℕ, codes, ap, ◌∙◌}
use Rattle.ep_assemble.proofs.Appending.{joined, last_joined}
use Rattle.ep_assemble.proofs.plain_lines.push_late.Goals as goal

pub returns : goal.returns
returns c =
    let out : List ℕ = c.args.out.now.items in
    let one : List ℕ = c.extend_from_slice.new.self.items in
    let two : List ℕ = c.extend_from_slice-2.new.self.items in
    let name : List ℕ = c.args.name.now in
    let text : c.as_bytes.result.now ≡ name = search rules in
    let second : two ≡ one ++ name = c.in_ok-extend_from_slice-2.ensures.items ∙ ap (λ (l : List ℕ). one ++ l) text in
    last_joined c.extend_from_slice-3.result out two c.extend_from_slice-3.new.self.items (codes "log refused " ++ name) (codes ": a log of version 3; name its node's folder, with --generation G\n")
    (joined out one two (codes "log refused ") name c.in_ok-extend_from_slice.ensures.items second) c.extend_from_slice-3.ensures.items
