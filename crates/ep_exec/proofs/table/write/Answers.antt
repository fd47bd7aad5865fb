use Rattle.std.proofs.Common.{◌≡◌, ◌∙◌, ap}
use Rattle.ep_rules.specs.OneMap.{value_at, with_key}
use Rattle.ep_exec.specs.Table.{restored}
use Rattle.ep_exec.specs.Held.{held}
use Rattle.ep_exec.proofs.Entries.{have_places, with_key_back}
use Rattle.ep_exec.proofs.table.write.Goals as goal

pub returns-clause-undo : goal.returns-clause-undo
returns-clause-undo c =
    let m = held c.args.table.now in
    let key = c.args.key.now in
    let new : held c.put_back.new.table ≡ with_key m key c.args.value =
    c.put_back.ensures.contents ∙ ap (λ n. with_key n c.in_ok-name.name.items c.args.value) c.note.ensures.contents ∙ ap (λ k. with_key m k c.args.value) c.in_ok-name.ensures.name
    in
    c.in_ok-name.ensures.undo (held c.put_back.new.table) ∙ ap (restored c.args.undo.now.items) (ap (λ n. with_key n key (value_at m key)) new ∙ with_key_back m key c.args.value)

pub returns-clause-places : goal.returns-clause-places
returns-clause-places c p = have_places _ _ c.note.new.undo.items c.put_back.ensures.places (c.note.ensures.places p)
