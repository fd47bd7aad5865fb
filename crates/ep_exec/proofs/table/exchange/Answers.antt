use Rattle.std.proofs.Common.{◌≡◌, ◌∙◌, ap, List, ℕ}
use Rattle.ep_rules.specs.OneMap.{Contents, value_at, with_key}
use Rattle.ep_exec.specs.Table.{restored}
use Rattle.ep_exec.specs.Held.{held}
use Rattle.ep_exec.proofs.Entries.{exchange_back, have_places, with_key_own}
use Rattle.ep_exec.proofs.table.exchange.Goals as goal

-- the first key is noted with what it has, so that taking that back alone changes nothing
pub returns-in_err-other_name-clause-undo : goal.returns-in_err-other_name-clause-undo
returns-in_err-other_name-clause-undo c =
    let m : Contents = held c.args.table.now in
    let us = c.args.undo.now.items in
    let same : held c.note-2.new.table ≡ m = c.note-2.ensures.contents ∙ c.note.ensures.contents in
    ap (λ xs. restored xs (held c.note-2.new.table)) c.in_err-other_name.ensures.err
    ∙ c.in_ok-name.ensures.undo (held c.note-2.new.table)
    ∙ ap (restored us) (ap (λ x. with_key x c.args.first.now (value_at m c.args.first.now)) same ∙ with_key_own m c.args.first.now)

pub returns-clause-undo : goal.returns-clause-undo
returns-clause-undo c =
    let n : Contents = held c.note.new.table in
    let k : List ℕ = c.args.first.now in
    let l : List ℕ = c.args.second.now in
    let o = c.in_ok-other.other in
    let p = c.in_ok-own.own in
    let both : held c.put_both.new.table ≡ with_key (with_key n k o) l p =
    c.put_both.ensures.contents
    ∙ ap (λ x. with_key (with_key x c.in_ok-name.name.items o) c.in_ok-other_name.other_name.items p) c.note-2.ensures.contents
    ∙ ap (λ q. with_key (with_key n q o) c.in_ok-other_name.other_name.items p) c.in_ok-name.ensures.name
    ∙ ap (λ q. with_key (with_key n k o) q p) c.in_ok-other_name.ensures.name
    in
    exchange_back c.args.undo.now.items c.note.new.undo.items c.note-2.new.undo.items (held c.args.table.now) n (held c.put_both.new.table) k l
    o p c.in_ok-name.ensures.undo c.in_ok-other_name.ensures.undo c.note.ensures.contents both

pub returns-clause-places : goal.returns-clause-places
returns-clause-places c p = have_places _ _ c.note-2.new.undo.items c.put_both.ensures.places (c.note-2.ensures.places (c.note.ensures.places p))
