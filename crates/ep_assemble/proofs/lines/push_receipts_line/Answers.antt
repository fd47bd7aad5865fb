use Rattle.std.proofs.Common.{rules, ◌≡◌, ◌++◌, List, ℕ, codes, decimal, ap, ◌∙◌}
use Rattle.ep_assemble.proofs.Appending.{joined, last_joined}
use Rattle.ep_assemble.proofs.lines.push_receipts_line.Goals as goal

pub returns : goal.returns
returns c =
    let out : List ℕ = c.args.out.now.items in
    let one : List ℕ = c.extend_from_slice.new.self.items in
    let two : List ℕ = c.extend_from_slice-2.new.self.items in
    let three : List ℕ = c.push_number.new.out.items in
    let name : List ℕ = c.args.name.now in
    let number : List ℕ = codes ": bad field at byte " ++ decimal c.args.at in
    let text : c.as_bytes.result.now ≡ name = search rules in
    let second : two ≡ one ++ name = c.in_ok-extend_from_slice-2.ensures.items ∙ ap (λ (l : List ℕ). one ++ l) text in
    last_joined c.extend_from_slice-3.result out three c.extend_from_slice-3.new.self.items (codes "receipts refused " ++ name ++ number) (codes "\n")
    (joined out two three (codes "receipts refused " ++ name) number (joined out one two (codes "receipts refused ") name c.in_ok-extend_from_slice.ensures.items second) c.in_ok-push_number.ensures)
    c.extend_from_slice-3.ensures.items
