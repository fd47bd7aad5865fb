use Rattle.std.proofs.Common.{rules, ◌≡◌, ◌+◌, ◌<◌, ◌≤◌, [], ◌∷◌, ◌++◌, length, get_or, inl, refl, ap, ◌∙◌, arith, vec_len, vec_capacity}
use Rattle.ep_base.specs.Quorums.{size}
use Rattle.ep_world.specs.Replicas.{places_up_to}
use Rattle.ep_world.proofs.Taken.{here_at, put_there, with_last, few_last, still_replicas_at, took_at, untaken, nobody}
use Rattle.ep_world.proofs.advance.advance.Goals as goal

pub returns-then-place-len-clause-refused : goal.returns-then-place-len-clause-refused
returns-then-place-len-clause-refused c =
    let ge : length c.args.replicas.now.items ≤ c.args.replica = search rules in
    inl (refl, nobody c.args.cluster c.args.replica c.args.replicas.now.items c.requires ge)

pub returns-in-Err-clause-refused : goal.returns-in-Err-clause-refused
returns-in-Err-clause-refused c =
    let f = c.args.cluster in
    let ks = c.args.replicas.now.items in
    let place = c.index-place.result in
    let k = c.index_mut.result.now in
    let less : place < length ks = search rules in
    let is : k ≡ get_or ks place k = c.index_mut.ensures.value in
    let h = here_at f c.args.replica place ks k c.requires c.index-place.ensures.value less is in
    untaken f c.args.replica ks k c.args.notes.now.steps.items c.args.notes.now.messages.items c.args.event c.in-Err.fault h c.in-Err.ensures.refused

pub add_places-requires-clause-few : goal.add_places-requires-clause-few
add_places-requires-clause-few c =
    let f = c.args.cluster in
    let ks = c.args.replicas.now.items in
    let place = c.index-place.result in
    let k = c.index_mut.result.now in
    let e = c.last_entry-entry.result.now in
    let less : place < length ks = search rules in
    let is : k ≡ get_or ks place k = c.index_mut.ensures.value in
    let h = here_at f c.args.replica place ks k c.requires c.index-place.ensures.value less is in
    let there = put_there ks place c.take.new.self c.index.result.now less c.index.ensures in
    let a = with_last k c.take.new.self c.index.result.now c.args.event e c.in-Ok.ensures.ok there c.last_entry-entry.ensures in
    let few : length e.frames ≤ size f + 1 = few_last f c.args.replica ks k c.take.new.self c.args.event e h a in
    let count : c.count.result ≡ size f = c.count.ensures.value in
    let limit = c.count.ensures.in_range in
    omega arith

pub add_places-requires-clause-room : goal.add_places-requires-clause-room
add_places-requires-clause-room c =
    let f = c.args.cluster in
    let ks = c.args.replicas.now.items in
    let place = c.index-place.result in
    let k = c.index_mut.result.now in
    let e = c.last_entry-entry.result.now in
    let less : place < length ks = search rules in
    let is : k ≡ get_or ks place k = c.index_mut.ensures.value in
    let h = here_at f c.args.replica place ks k c.requires c.index-place.ensures.value less is in
    let there = put_there ks place c.take.new.self c.index.result.now less c.index.ensures in
    let a = with_last k c.take.new.self c.index.result.now c.args.event e c.in-Ok.ensures.ok there c.last_entry-entry.ensures in
    let few : length e.frames ≤ size f + 1 = few_last f c.args.replica ks k c.take.new.self c.args.event e h a in
    let count : c.count.result ≡ size f = c.count.ensures.value in
    let room : vec_len c.reserve-2.new.self + (c.count.result + 1) ≤ vec_capacity c.reserve-2.new.self = c.in_ok-reserve-2.ensures.ok in
    omega arith

pub returns-in-Ok-clause-replicas : goal.returns-in-Ok-clause-replicas
returns-in-Ok-clause-replicas c =
    let f = c.args.cluster in
    let ks = c.args.replicas.now.items in
    let place = c.index-place.result in
    let k = c.index_mut.result.now in
    let less : place < length ks = search rules in
    let is : k ≡ get_or ks place k = c.index_mut.ensures.value in
    let h = here_at f c.args.replica place ks k c.requires c.index-place.ensures.value less is in
    let p = c.in-Ok.ensures.ok in
    still_replicas_at f c.args.replica place ks k c.take.new.self c.args.event p.0 c.requires c.index-place.ensures.value h p.1

pub returns-in-Ok-clause-ok : goal.returns-in-Ok-clause-ok
returns-in-Ok-clause-ok c =
    let f = c.args.cluster in
    let ks = c.args.replicas.now.items in
    let place = c.index-place.result in
    let k = c.index_mut.result.now in
    let e = c.last_entry-entry.result.now in
    let less : place < length ks = search rules in
    let is : k ≡ get_or ks place k = c.index_mut.ensures.value in
    let h = here_at f c.args.replica place ks k c.requires c.index-place.ensures.value less is in
    let there = put_there ks place c.take.new.self c.index.result.now less c.index.ensures in
    let a = with_last k c.take.new.self c.index.result.now c.args.event e c.in-Ok.ensures.ok there c.last_entry-entry.ensures in
    let steps : c.push_reserved.new.self.items ≡ c.args.notes.now.steps.items ++ (c.args.replica, e.number) ∷ [] = c.push_reserved.ensures.items ∙ ap (λ xs. xs ++ (c.args.replica, e.number) ∷ []) c.reserve.ensures.items in
    let messages : c.add_places.new.messages.items ≡ c.args.notes.now.messages.items ++ places_up_to c.args.replica e.number (length e.frames) =
    c.add_places.ensures ∙ ap (λ ps. ps ++ places_up_to c.args.replica e.number (length e.frames)) c.reserve-2.ensures.items in
    took_at f c.args.replica place ks k c.take.new.self c.args.notes.now.steps.items c.push_reserved.new.self.items c.args.notes.now.messages.items c.add_places.new.messages.items c.args.event e c.requires c.index-place.ensures.value h a steps messages
