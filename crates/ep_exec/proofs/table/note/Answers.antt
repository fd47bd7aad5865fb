use Rattle.std.proofs.Common.{◌≡◌, ◌∙◌, sym, ap, subst, List, ℕ, true}
use Rattle.ep_rules.specs.OneMap.{value_at, with_key}
use Rattle.ep_exec.specs.Table.{HavePlaces, has_place, restored}
use Rattle.ep_exec.specs.Held.{held}
use Rattle.ep_exec.proofs.Entries.{have_places, have_places-push, restored-push}
use Rattle.ep_exec.proofs.table.note.Goals as goal

pub returns-in_err-make_place-clause-places : goal.returns-in_err-make_place-clause-places
returns-in_err-make_place-clause-places c p = have_places _ _ c.args.undo.now.items c.make_place.ensures.places p

pub returns-in_err-was-clause-places : goal.returns-in_err-was-clause-places
returns-in_err-was-clause-places c p = have_places _ _ c.args.undo.now.items c.make_place.ensures.places p

pub returns-in_err-name-clause-places : goal.returns-in_err-name-clause-places
returns-in_err-name-clause-places c p = have_places _ _ c.args.undo.now.items c.make_place.ensures.places p

pub returns-in_err-noted-clause-places : goal.returns-in_err-noted-clause-places
returns-in_err-noted-clause-places c p = have_places _ _ c.args.undo.now.items c.make_place.ensures.places p

pub returns-in_err-push-clause-places : goal.returns-in_err-push-clause-places
returns-in_err-push-clause-places c p =
    subst (HavePlaces c.make_place.new.table.changes.entries) (sym c.in_err-push.ensures.items) (have_places _ _ c.args.undo.now.items c.make_place.ensures.places p)

pub returns-clause-undo : goal.returns-clause-undo
returns-clause-undo c = λ m.
    let key : List ℕ = c.args.key.now in
    let noted : c.in_ok-noted.noted.items ≡ key = c.in_ok-noted.ensures.items in
    let was : c.in_ok-was.was' ≡ value_at (held c.args.table.now) key = c.in_ok-was.ensures ∙ c.value_of.ensures ∙ ap (λ n. value_at n key) c.make_place.ensures.contents in
    ap (λ us. restored us m) c.in_ok-push.ensures.items
    ∙ restored-push c.args.undo.now.items (c.in_ok-noted.noted, c.in_ok-was.was') m
    ∙ ap (restored c.args.undo.now.items) (λ t. with_key m (noted t) (was t))

pub returns-clause-places : goal.returns-clause-places
returns-clause-places c p =
    let mid = c.make_place.new.table.changes.entries in
    let noted : c.in_ok-noted.noted.items ≡ c.args.key.now = c.in_ok-noted.ensures.items in
    let there : has_place mid c.in_ok-noted.noted.items ≡ true = ap (has_place mid) noted ∙ c.in_ok-make_place.ensures.place in
    subst (HavePlaces mid) (sym c.in_ok-push.ensures.items)
    (have_places-push mid c.args.undo.now.items (c.in_ok-noted.noted, c.in_ok-was.was') (have_places _ _ c.args.undo.now.items c.make_place.ensures.places p) there)
