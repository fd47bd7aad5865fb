use Rattle.std.proofs.Common.{◌∙◌, sym, ap}
use Rattle.std.specs.Option.{option_copied_mut}
use Rattle.ep_space.proofs.Bringing.{on_ok}
use Rattle.ep_space.proofs.Room.{widened_there, widened_room}
use Rattle.ep_space.proofs.Standing.{stands-found, stands-some, stands-written}
use Rattle.ep_space.proofs.index.widen_at.Goals as goal

pub returns-clause-room : goal.returns-clause-room
returns-clause-room c =
    let es = c.args.runs.now.entries in
    on_ok c.widen_run.result
    (widened_room es _ c.args._key.now c.in-Some.run'.now c.widen_run.new.run
    (stands-found es c.args.at c.args._key.now c.in-Some.run'.now c.requires.there c.in-Some.ensures.unique c.in-Some.ensures.value)
    (stands-written es c.args.at c.args._key.now c.widen_run.new.run c.requires.there c.in-Some.ensures.unique))
    c.widen_run.ensures.room

pub returns-clause-same : goal.returns-clause-same
returns-clause-same c =
    let es = c.args.runs.now.entries in
    (widened_there es _ c.args._key.now c.in-Some.run'.now c.widen_run.new.run
    (stands-found es c.args.at c.args._key.now c.in-Some.run'.now c.requires.there c.in-Some.ensures.unique c.in-Some.ensures.value)
    (stands-written es c.args.at c.args._key.now c.widen_run.new.run c.requires.there c.in-Some.ensures.unique)
    c.widen_run.ensures.same c.widen_run.ensures.keeps).kept

pub returns-clause-keeps : goal.returns-clause-keeps
returns-clause-keeps c =
    let es = c.args.runs.now.entries in
    (widened_there es _ c.args._key.now c.in-Some.run'.now c.widen_run.new.run
    (stands-found es c.args.at c.args._key.now c.in-Some.run'.now c.requires.there c.in-Some.ensures.unique c.in-Some.ensures.value)
    (stands-written es c.args.at c.args._key.now c.widen_run.new.run c.requires.there c.in-Some.ensures.unique)
    c.widen_run.ensures.same c.widen_run.ensures.keeps).keeps

pub unreachable-requires : goal.unreachable-requires
unreachable-requires c =
    stands-some c.args.runs.now.entries c.args.at c.args._key.now c.requires.there (sym (ap option_copied_mut c.in-None.is) ∙ c.get_index_mut.ensures.value)
