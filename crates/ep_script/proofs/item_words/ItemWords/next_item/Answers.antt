use Rattle.std.proofs.Common.{◌∙◌, ap, sym, subst, ◌≡◌, ◌∷◌, ℕ, List}
use Rattle.ep_script.specs.ItemWords.{next_place, items_left}
use Rattle.ep_script.specs.Parts.{words_of}
use Rattle.ep_script.specs.declared.item_words.ItemWords.{ItemWords}
use Rattle.ep_script.proofs.ItemsBehind.{IsBegun, item_alone, item_before_value}
use Rattle.ep_script.proofs.item_words.ItemWords.next_item.Goals as goal
use Rattle.ep_script.proofs.item_words.ItemWords.next_item.Goals.{then-has_value, else-has_value}

pub returns : goal.returns
returns c =
    let s = c.args.self.now in
    let all : List (List ℕ) = words_of s.rest.now in
    let w = c.in_ok-word.word.now in
    let k = c.in_ok-key.key.now in
    let t = c.next-2.new.self in
    let begun : IsBegun s.place all w k t = record {
      words = c.in_ok-word.ensures.0 ∙ ap (λ (ws : List (List ℕ)). w ∷ ws) c.in_ok-key.ensures.0;
      place = c.in_ok-key.ensures.1 ∙ ap next_place c.in_ok-word.ensures.1;
    } in
    let P : ItemWords → Type 0 = λ x. items_left s ≡ (w, k, t.place) ∷ items_left x in
    elim c.if-has_value.branch [
      | then-has_value x ↦
          let has = sym c.has_value.ensures ∙ x.if-has_value.true in
          let u = x.next-then-has_value in
          subst P (sym x.self-is) (item_before_value s.place all w k t u.new.self u.result begun has u.ensures)
      | else-has_value x ↦
          let has = sym c.has_value.ensures ∙ x.if-has_value.false in
          subst P (sym x.self-is) (item_alone s.place all w k t begun has)
    ]
