use Rattle.std.proofs.Common.{◌∙◌, sym, ap, subst}
use Rattle.std.specs.Option.{option_copied_mut}
use Rattle.ep_base.specs.Deps.{IsRising}
use Rattle.ep_space.specs.Index.{listed, with_instance}
use Rattle.ep_space.proofs.Entered.{run-changed}
use Rattle.ep_space.proofs.Room.{others_set, roomy_there}
use Rattle.ep_space.proofs.Standing.{stands-found, stands-some, stands-written}
use Rattle.ep_space.proofs.index.add_at.Goals as goal

pub insert-requires-clause-room : goal.insert-requires-clause-room
insert-requires-clause-room c =
    let es = c.args.runs.now.entries in
    roomy_there c.in-Some.run'.now _ (sym (stands-found es c.args.at c.args._key.now c.in-Some.run'.now c.requires.there c.in-Some.ensures.unique c.in-Some.ensures.value)) c.requires.room

pub insert-requires-clause-rising : goal.insert-requires-clause-rising
insert-requires-clause-rising c =
    let es = c.args.runs.now.entries in
    subst (λ o. IsRising (listed o)) (stands-found es c.args.at c.args._key.now c.in-Some.run'.now c.requires.there c.in-Some.ensures.unique c.in-Some.ensures.value) c.requires.rising

pub returns-clause-runs : goal.returns-clause-runs
returns-clause-runs c =
    let es = c.args.runs.now.entries in
    run-changed (with_instance c.args.id) es _ c.args._key.now c.in-Some.run'.now c.insert.new.run
    (stands-found es c.args.at c.args._key.now c.in-Some.run'.now c.requires.there c.in-Some.ensures.unique c.in-Some.ensures.value)
    (stands-written es c.args.at c.args._key.now c.insert.new.run c.requires.there c.in-Some.ensures.unique)
    c.insert.ensures

pub returns-clause-others : goal.returns-clause-others
returns-clause-others c =
    let es = c.args.runs.now.entries in
    others_set es _ c.args._key.now c.in-Some.run'.now c.insert.new.run
    (stands-found es c.args.at c.args._key.now c.in-Some.run'.now c.requires.there c.in-Some.ensures.unique c.in-Some.ensures.value)
    (stands-written es c.args.at c.args._key.now c.insert.new.run c.requires.there c.in-Some.ensures.unique)

pub unreachable-requires : goal.unreachable-requires
unreachable-requires c =
    stands-some c.args.runs.now.entries c.args.at c.args._key.now c.requires.there (sym (ap option_copied_mut c.in-None.is) ∙ c.get_index_mut.ensures.value)
