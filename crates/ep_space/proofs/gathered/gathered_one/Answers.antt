use Rattle.std.proofs.Common.{◌∙◌, sym}
use Rattle.ep_space.proofs.Gathering.{met_reads, met_writes, union_none}
use Rattle.ep_space.proofs.gathered.gathered_one.Goals as goal

pub gathered_with_seals-requires-clause-holders : goal.gathered_with_seals-requires-clause-holders
gathered_with_seals-requires-clause-holders c =
    met_reads c.args.command.now c.args.key.now c.args.records.now.held c.run-writes.result.now c.requires.keys (sym c.only_reads.ensures ∙ c.if-only_reads.true) c.run-writes.ensures

pub gathered_with_seals-requires-2-clause-holders : goal.gathered_with_seals-requires-2-clause-holders
gathered_with_seals-requires-2-clause-holders c =
    c.as_slice.ensures.value ∙ c.in_ok-run.ensures
    ∙ met_writes c.args.command.now c.args.key.now c.args.records.now.held c.run-writes.result.now c.run-reads.result.now c.requires.keys (sym c.only_reads.ensures ∙ c.if-only_reads.false) c.run-writes.ensures c.run-reads.ensures

pub gathered_with_seals-requires-then-is_empty-clause-holders : goal.gathered_with_seals-requires-then-is_empty-clause-holders
gathered_with_seals-requires-then-is_empty-clause-holders c =
    sym (union_none c.run-writes.result.now c.run-reads.result.now c.if-is_empty.ensures)
    ∙ met_writes c.args.command.now c.args.key.now c.args.records.now.held c.run-writes.result.now c.run-reads.result.now c.requires.keys (sym c.only_reads.ensures ∙ c.if-only_reads.false) c.run-writes.ensures c.run-reads.ensures
