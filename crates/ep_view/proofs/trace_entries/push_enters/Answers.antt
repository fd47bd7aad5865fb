use Rattle.std.proofs.Common.{◌≡◌, ◌++◌, ◌∙◌, ap, subst, rules}
use Rattle.std.specs.Prelude.{codes}
use Rattle.ep_view.specs.Lines.{words_at}
use Rattle.ep_view.specs.TraceEvents.{enters_text, begun, named, arrow_id}
use Rattle.ep_view.proofs.Joining.{three}
use Rattle.ep_view.proofs.trace_entries.push_enters.Goals as goal

pub returns : goal.returns
unfolding enters_text
returns c =
    let time : c.ticks.result ≡ c.args.entry.now.stamp = c.ticks.ensures.value in
    let words : c.deref.result.now ≡ words_at c.args.frame.now = c.deref.ensures.value ∙ c.in_ok-words.ensures in
    three c.push_arrow_id.result c.args.text.now.items
    (begun (codes "\"ph\":\"f\",\"bp\":\"e\",\"cat\":\"frame\"") c.args.replica c.args.entry.now.stamp) (named (words_at c.args.frame.now)) (arrow_id c.args.replica c.args.entry.now c.args.frame.now)
    c.push_begun.new.text.items c.push_named.new.text.items c.push_arrow_id.new.text.items
    (subst (λ n. c.push_begun.new.text.items ≡ c.args.text.now.items ++ begun (codes "\"ph\":\"f\",\"bp\":\"e\",\"cat\":\"frame\"") c.args.replica n) time c.in_ok-push_begun.ensures)
    (subst (λ w. c.push_named.new.text.items ≡ c.push_begun.new.text.items ++ named w) words c.in_ok-push_named.ensures) c.push_arrow_id.ensures
