use Rattle.std.proofs.Common.{ap, string_bytes}
use Rattle.ep_main.proofs.Ending.{ends_as, files_as, works_as}
use Rattle.ep_main.specs.declared.job.Job.TheVariants.{Streams, Chain}
use Rattle.ep_main.proofs.program.work.Goals as goal

pub returns-in-Streams-clause-works : goal.returns-in-Streams-clause-works
returns-in-Streams-clause-works g c zs known =
    works_as c.args.task (Streams c.in-Streams.asked) _ zs _ _ _ c.in-Streams.is (c.perform.ensures.performs zs known)

pub returns-in-Streams-clause-ends : goal.returns-in-Streams-clause-ends
returns-in-Streams-clause-ends g c = ends_as c.args.task (Streams c.in-Streams.asked) _ _ _ _ c.in-Streams.is c.perform.ensures.ends

pub returns-in-Chain-clause-works : goal.returns-in-Chain-clause-works
returns-in-Chain-clause-works g c zs known =
    works_as c.args.task (Chain c.in-Chain.form c.in-Chain.names) _ zs _ _ _ c.in-Chain.is
    (files_as c.in-Chain.form string_bytes c.deref.result.now c.in-Chain.names.items _ _ _ c.deref.ensures.value c.print_chain.ensures.chains)

pub returns-in-Chain-clause-ends : goal.returns-in-Chain-clause-ends
returns-in-Chain-clause-ends g c = ends_as c.args.task (Chain c.in-Chain.form c.in-Chain.names) _ _ _ _ c.in-Chain.is (ap g.S.Source.has_failed c.print_chain.ensures.unread, c.print_chain.ensures.ends)
