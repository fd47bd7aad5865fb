use Rattle.std.proofs.Common.{rules, ◌≡◌, ◌<◌, ◌∙◌, ℕ, length, drop, min, ap, refl}
use Rattle.std.specs.List.{position_or_len}
use Rattle.std.specs.Str.Lines.{strip_carriage_return}
use Rattle.ep_script.proofs.LineLemmas.{feeds}
use Rattle.ep_script.proofs.FirstLine.{IsCut, first_bare, cut_at, behind_feed}
use Rattle.ep_script.proofs.lines.Lines.next_line.Goals as goal

pub returns : goal.returns
returns c =
    let zs = c.args.self.now.rest.now in
    let cut : IsCut zs c.min.result c.without_return.result.now c.unwrap_or-self.result.now = record {
      some = grind (rules, c.is_empty.ensures, c.if-is_empty.false);
      at =
          c.min.ensures
          ∙ ap (λ (n : ℕ). min n (length zs)) c.unwrap_or-end.ensures
          ∙ cut_at zs c.memchr.result c.memchr.ensures;
      line_is = c.without_return.ensures ∙ ap strip_carriage_return c.split_at.ensures.front;
      rest_is =
          ap (λ x. x.now) c.unwrap_or-self.ensures
          ∙ behind_feed c.split_at.result.1.now c.get.result _ refl c.get.ensures.lookup
          ∙ ap (drop 1) c.split_at.ensures.back;
    } in
    first_bare zs c.without_return.result.now c.unwrap_or-self.result.now c.min.result cut
