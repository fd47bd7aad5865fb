use Rattle.std.proofs.Common.{List, refl, subst}
use Rattle.std.proofs.KnownBytes.{Appends-nil}
use Rattle.ep_audit.specs.declared.chain_link.ChainLink.{ChainLink}
use Rattle.ep_main.specs.Chains.{SaysOfChain}
use Rattle.ep_main.proofs.Linked.{chains_none, chains_written, ends_none, ends_written}
use Rattle.ep_main.proofs.chaining.write_chain.Goals as goal

pub returns-in-Ok-clause-chains : goal.returns-in-Ok-clause-chains
returns-in-Ok-clause-chains g c =
    chains_written c.args.form c.args.links.items _ _ _ _ _
    (subst (λ (ls : List ChainLink). SaysOfChain c.args.form ls c.in-Ok.judged.status c.in-Ok.judged.text.items) c.deref.ensures.value c.in-Ok.ensures.value)
    c.write_judged.ensures.written

pub returns-in-Ok-clause-ends : goal.returns-in-Ok-clause-ends
returns-in-Ok-clause-ends g c = ends_written c.args.form _ _ _ _ _ _ c.in-Ok.ensures.value c.write_judged.ensures.written

pub returns-in-Err-clause-chains : goal.returns-in-Err-clause-chains
returns-in-Err-clause-chains g c = chains_none c.args.form _ _ _ _ _ c.in-Err.ensures.memory c.concluded.ensures (Appends-nil _)

pub returns-in-Err-clause-ends : goal.returns-in-Err-clause-ends
returns-in-Err-clause-ends g c = ends_none _ _ _ _ c.in-Err.ensures.memory c.concluded.ensures refl
