use Rattle.std.proofs.Common.{◌≡◌, ◌++◌, List, ℕ, codes, decimal, ap, subst, ◌∙◌, OnOk}
use Rattle.ep_report.specs.Contents.{contents_line}
use Rattle.ep_report.specs.Lives.{Life, generation_line, closing_line}
use Rattle.ep_report.proofs.Texts.{link_reported}
use Rattle.ep_report.proofs.lines.push_link_line.Goals as goal

pub returns : goal.returns
returns c =
    let l : Life = c.args.life.now in
    let o : List ℕ = c.args.text.now.items in
    let t1 : List ℕ = c.push_parts.new.text.items in
    let t2 : List ℕ = c.push_closing.new.text.items in
    let g : List ℕ = generation_line l ++ codes " committed " ++ decimal c.args.committed ++ codes " history " ++ decimal c.args.history ++ codes " " in
    let n : c.number.result ≡ l.generation = c.number.ensures.value ∙ c.generation.ensures in
    let start : t1 ≡ o ++ g =
    c.in_ok-push_parts.ensures
    ∙ ap (λ (x : ℕ). o ++ (codes "generation " ++ decimal x ++ codes " since " ++ decimal c.base_stamp.result ++ codes " committed " ++ decimal c.args.committed ++ codes " history " ++ decimal c.args.history ++ codes " ")) n
    ∙ ap (λ (x : ℕ). o ++ (codes "generation " ++ decimal l.generation ++ codes " since " ++ decimal x ++ codes " committed " ++ decimal c.args.committed ++ codes " history " ++ decimal c.args.history ++ codes " ")) c.base_stamp.ensures
    in
    link_reported c.push_contents_line.result o g (closing_line l.closing) (contents_line l.contents) t1 t2 c.push_contents_line.new.text.items
    start
    (c.in_ok-push_closing.ensures ∙ ap (λ x. t1 ++ closing_line x ++ codes " ") c.closing.ensures)
    (subst (λ m. OnOk c.push_contents_line.result (c.push_contents_line.new.text.items ≡ t2 ++ contents_line m ++ codes "\n")) c.contents.ensures.value c.push_contents_line.ensures)
