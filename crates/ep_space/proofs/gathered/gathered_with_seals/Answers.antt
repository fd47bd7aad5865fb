use Rattle.std.proofs.Common.{◌∙◌, [], ap, sym, subst}
use Rattle.ep_base.specs.Deps.{IsRising, union}
use Rattle.ep_base.proofs.Union.{IsRising-union}
use Rattle.ep_rules.specs.States.{or_zero}
use Rattle.ep_space.specs.Gathering.{next_attrs}
use Rattle.ep_space.specs.Keys.{holders, holders_of}
use Rattle.ep_space.proofs.Bringing.{on_value}
use Rattle.ep_space.proofs.Gathering.{met_of, met_holders, gathered-keys, union_none}
use Rattle.ep_space.proofs.Holders.{rising-holders, rising-holders_of}
use Rattle.ep_space.proofs.gathered.gathered_with_seals.Goals as goal

pub gathered_whole-requires-clause-rising : goal.gathered_whole-requires-clause-rising
gathered_whole-requires-clause-rising c = subst IsRising (sym c.requires.holders) (rising-holders_of (met_of c.args.command.now) c.args.records.now.held)

pub gathered_whole-requires-clause-met : goal.gathered_whole-requires-clause-met
gathered_whole-requires-clause-met c =
    met_holders c.args.command.now c.requires.no_seal c.requires.no_noop c.args.records.now.held c.args.run.now
    (sym (union_none c.args.run.now c.run-seals.result.now c.if-is_empty.ensures) ∙ (λ d. union (c.requires.holders d) (c.run-seals.ensures d)))

pub returns-then-is_empty : goal.returns-then-is_empty
returns-then-is_empty c =
    on_value c.gathered_whole.result
    (λ g e. ap next_attrs e
    ∙ gathered-keys c.args.command.now (or_zero c.args.except) c.requires.no_seal c.requires.no_noop c.args.records.now.held c.args.run.now
    (sym (union_none c.args.run.now c.run-seals.result.now c.if-is_empty.ensures) ∙ (λ d. union (c.requires.holders d) (c.run-seals.ensures d))))
    c.gathered_whole.ensures

pub gathered_whole-requires-2-clause-rising : goal.gathered_whole-requires-2-clause-rising
gathered_whole-requires-2-clause-rising c =
    let m = c.args.records.now.held in
    subst IsRising (sym (c.as_slice.ensures.value ∙ c.in_ok-all.ensures ∙ (λ d. union (c.requires.holders d) (c.run-seals.ensures d))))
    (IsRising-union (holders_of (met_of c.args.command.now) m) (holders [] m) (rising-holders_of (met_of c.args.command.now) m) (rising-holders [] m))

pub gathered_whole-requires-2-clause-met : goal.gathered_whole-requires-2-clause-met
gathered_whole-requires-2-clause-met c =
    met_holders c.args.command.now c.requires.no_seal c.requires.no_noop c.args.records.now.held c.as_slice.result.now
    (c.as_slice.ensures.value ∙ c.in_ok-all.ensures ∙ (λ d. union (c.requires.holders d) (c.run-seals.ensures d)))

pub returns : goal.returns
returns c =
    on_value c.gathered_whole-2.result
    (λ g e. ap next_attrs e
    ∙ gathered-keys c.args.command.now (or_zero c.args.except) c.requires.no_seal c.requires.no_noop c.args.records.now.held c.as_slice.result.now
    (c.as_slice.ensures.value ∙ c.in_ok-all.ensures ∙ (λ d. union (c.requires.holders d) (c.run-seals.ensures d))))
    c.gathered_whole-2.ensures
