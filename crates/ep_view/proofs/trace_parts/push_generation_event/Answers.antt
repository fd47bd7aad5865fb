use Rattle.std.proofs.Common.{◌≡◌, ◌++◌, ◌∙◌, subst, rules}
use Rattle.std.specs.Prelude.{codes}
use Rattle.ep_json.specs.Strings.{string_text}
use Rattle.ep_view.specs.Editions.{edition_text}
use Rattle.ep_view.proofs.Joining.{three}
use Rattle.ep_view.specs.TraceEvents.{generation_event}
use Rattle.ep_view.proofs.trace_parts.push_generation_event.Goals as goal

pub returns : goal.returns
unfolding generation_event
returns c =
    let words : c.deref.result.now ≡ edition_text c.args.generation c.args.opening.now = c.deref.ensures.value ∙ c.in_ok-words.ensures in
    three c.extend_from_slice-2.result c.args.text.now.items (codes ",\n{\"ph\":\"M\",\"name\":\"process_labels\",\"pid\":0,\"tid\":0,\"args\":{\"labels\":")
    (string_text (edition_text c.args.generation c.args.opening.now)) (codes "}}")
    c.extend_from_slice.new.self.items c.push_string.new.text.items c.extend_from_slice-2.new.self.items c.in_ok-extend_from_slice.ensures.items
    (subst (λ w. c.push_string.new.text.items ≡ c.extend_from_slice.new.self.items ++ string_text w) words c.in_ok-push_string.ensures.exact) (search rules)
