use Rattle.std.proofs.Common.{◌≡◌, ◌∙◌, List, ℕ, ap, cond, sym, subst}
use Rattle.std.specs.Option.{option_copied}
use Rattle.ep_base.specs.Interference.{has_key}
use Rattle.ep_space.specs.Index.{run, brings, without, HasRuns, StandsUnder}
use Rattle.ep_space.specs.Keys.{recorded_keys, keys_at}
use Rattle.ep_space.proofs.Kept.{entered_by, kept-changed, rising-entered, Has-entered, stands-kept}
use Rattle.ep_space.proofs.keyed.exchange.Goals as goal

pub enter-requires-clause-stands : goal.enter-requires-clause-stands
enter-requires-clause-stands c =
    subst (λ ks. StandsUnder c.args.id ks c.args.index.now) (sym (ap recorded_keys c.get-there.ensures)) (stands-kept c.args.table.now c.args.index.now c.args.id c.requires.kept)

pub enter-requires-clause-room : goal.enter-requires-clause-room
enter-requires-clause-room c =
    subst (λ (ks : List (List ℕ)). HasRuns c.args.index.now ks (recorded_keys c.args.value)) (sym (ap recorded_keys c.get-there.ensures)) c.requires.room

pub leave-requires-clause-rising : goal.leave-requires-clause-rising
leave-requires-clause-rising c =
    let t = c.args.table.now in
    let x = c.args.index.now in
    let y = c.enter.new.index in
    rising-entered t.held c.args.id c.args.value t.places x c.requires.kept y
    (entered_by t.held c.args.id c.args.value t.places x c.requires.kept (recorded_keys (option_copied c.get-there.result)) (ap recorded_keys c.get-there.ensures) y c.enter.ensures)

pub leave-requires-clause-has : goal.leave-requires-clause-has
leave-requires-clause-has c = λ k h.
    let t = c.args.table.now in
    let x = c.args.index.now in
    let y = c.enter.new.index in
    let own : recorded_keys (option_copied c.get-there.result) ≡ keys_at t.held c.args.id = ap recorded_keys c.get-there.ensures in
    Has-entered t.held c.args.id c.args.value t.places x c.requires.kept y
    (entered_by t.held c.args.id c.args.value t.places x c.requires.kept (recorded_keys (option_copied c.get-there.result)) own y c.enter.ensures)
    k (sym (ap (has_key k) own) ∙ h)

pub returns-clause-kept : goal.returns-clause-kept
returns-clause-kept c =
    let t = c.args.table.now in
    let x = c.args.index.now in
    let y = c.enter.new.index in
    let z = c.leave.new.index in
    let ks : List (List ℕ) = recorded_keys (option_copied c.get-there.result) in
    let own : ks ≡ keys_at t.held c.args.id = ap recorded_keys c.get-there.ensures in
    rw c.put_back.ensures.new
    (kept-changed t.held c.args.id c.args.value t.places x c.requires.kept y z
    (entered_by t.held c.args.id c.args.value t.places x c.requires.kept ks own y c.enter.ensures)
    (λ k. c.leave.ensures k ∙ ap (λ (o : List (List ℕ)). cond (brings (recorded_keys c.args.value) o k) (without c.args.id (run y k)) (run y k)) own))
