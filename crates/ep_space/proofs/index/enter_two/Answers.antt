use Rattle.std.proofs.Common.{◌≢◌, ◌∙◌, ℕ, List, refl, sym, subst}
use Rattle.std.specs.Option.{option_copied}
use Rattle.ep_base.specs.Deps.{IsRising}
use Rattle.ep_space.specs.Index.{run, with_instance}
use Rattle.ep_space.specs.Keys.{recorded_keys}
use Rattle.ep_space.specs.Names.{named}
use Rattle.ep_space.proofs.Bringing.{both_steps, other_run}
use Rattle.ep_space.proofs.Room.{room_first, second_room}
use Rattle.ep_space.proofs.index.enter_two.Goals as goal

pub add_unless-requires-clause-rising : goal.add_unless-requires-clause-rising
add_unless-requires-clause-rising c = c.requires.stands.rising (named c.args.first)

pub add_unless-requires-clause-room : goal.add_unless-requires-clause-room
add_unless-requires-clause-room c = λ goes.
    room_first c.args.index.now (recorded_keys (option_copied c.args.there)) (named c.args.first) (named c.args.second) c.requires.room (sym c.is_named-first_stays.ensures ∙ goes)

pub add_unless-requires-2-clause-rising : goal.add_unless-requires-2-clause-rising
add_unless-requires-2-clause-rising c =
    let q : List ℕ = (named c.args.second) in
    let apart : (named c.args.first) ≢ q = c.requires.apart in
    subst IsRising (sym (c.add_unless.ensures.runs q ∙ other_run (with_instance c.args.id) (named c.args.first) q c.is_named-first_stays.result (run c.args.index.now q) apart))
    (c.requires.stands.rising q)

pub add_unless-requires-2-clause-room : goal.add_unless-requires-2-clause-room
add_unless-requires-2-clause-room c =
    second_room c.args.index.now c.add_unless.new.index (recorded_keys (option_copied c.args.there)) (named c.args.first) (named c.args.second) c.is_named-second_stays.result c.requires.room c.requires.apart c.is_named-second_stays.ensures
    c.add_unless.ensures.others

pub returns : goal.returns
returns c = λ k.
    both_steps with_instance (recorded_keys (option_copied c.args.there)) (named c.args.first) (named c.args.second) k c.is_named-first_stays.result c.is_named-second_stays.result c.args.id c.args.id c.args.id
    (run c.args.index.now k) (run c.add_unless.new.index k) (run c.add_unless-2.new.index k) c.requires.apart c.is_named-first_stays.ensures c.is_named-second_stays.ensures refl refl
    (c.add_unless.ensures.runs k) (c.add_unless-2.ensures.runs k)
