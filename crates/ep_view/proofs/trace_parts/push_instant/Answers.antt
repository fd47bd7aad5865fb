use Rattle.std.proofs.Common.{◌≡◌, ◌++◌, subst, rules}
use Rattle.std.specs.Prelude.{codes}
use Rattle.ep_view.specs.TraceEvents.{instant_text, begun, named}
use Rattle.ep_view.proofs.Joining.{three}
use Rattle.ep_view.proofs.trace_parts.push_instant.Goals as goal

pub returns : goal.returns
unfolding instant_text
returns c =
    let time : c.ticks.result ≡ c.args.entry.now.stamp = c.ticks.ensures.value in
    three c.extend_from_slice.result c.args.text.now.items (begun (codes "\"ph\":\"i\",\"s\":\"t\",\"cat\":\"instant\"") c.args.replica c.args.entry.now.stamp) (named c.args.words.now) (codes "}")
    c.push_begun.new.text.items c.push_named.new.text.items c.extend_from_slice.new.self.items
    (subst (λ n. c.push_begun.new.text.items ≡ c.args.text.now.items ++ begun (codes "\"ph\":\"i\",\"s\":\"t\",\"cat\":\"instant\"") c.args.replica n) time c.in_ok-push_begun.ensures)
    c.in_ok-push_named.ensures (search rules)
