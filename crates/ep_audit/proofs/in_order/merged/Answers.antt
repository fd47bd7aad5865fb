use Rattle.std.proofs.Common.{◌≡◌, ◌<◌, ℕ, List, Option, Some, None, length, length-set, replicate, set, sym, ap, subst, ◌∙◌, arith}
use Rattle.std.proofs.lemmas.List.{length-replicate}
use Rattle.ep_base.specs.Quorums.{size}
use Rattle.ep_rules.specs.Journals.{Journals}
use Rattle.ep_journal.specs.Entries.{journals_of}
use Rattle.ep_journal.specs.Openings.{opens}
use Rattle.ep_audit.specs.Turns.{least_turn, least_of, rests, taken_of, AreFirst}
use Rattle.ep_audit.specs.declared.entry_place.EntryPlace.{EntryPlace}
use Rattle.ep_audit.proofs.Turning.{Remains, left_below, turn_below, fewer_left, remains_first, remains_next, remains_all, zero_there, least_first, first_begins, first_next}
use Rattle.ep_audit.proofs.in_order.merged.Goals as goal

pub loop-turn-init : goal.loop-turn-init
loop-turn-init c =
    let f : ℕ = c.args.journals.now.faults in
    let journal : Journals = journals_of c.args.journals.now in
    rw (c.in_ok-done.ensures, c.new-order.ensures.items) (record {
      replicas = length-replicate (size f) 0;
      firsts = first_begins c.args.all (size f) journal (replicate (size f) 0) c.in_ok-turns.turns.items (zero_there (size f)) c.in_ok-turns.ensures;
      remains = λ s h. remains_first c.args.all f journal (replicate (size f) 0) s (zero_there (size f)) h;
    })

pub index_mut-requires : goal.index_mut-requires
index_mut-requires c =
    let f : ℕ = c.args.journals.now.faults in
    let journal : Journals = journals_of c.args.journals.now in
    let t : EntryPlace = c.in-Some.turn in
    let done : List ℕ = c.loop-turn.done.items in
    let e : Some t ≡ least_turn (size f) (rests c.args.all journal done) = c.in-Some.ensures ∙ ap (λ (ts : List (Option EntryPlace)). least_of (length ts) ts) c.deref.ensures.value ∙ least_first (size f) (rests c.args.all journal done) c.loop-turn.turns.items c.loop-turn.invariant.firsts in
    let below : t.replica < length done = turn_below c.args.all (opens c.args.journals.now.opening) f journal c.are_local_runs.ensures done c.loop-turn.invariant.replicas t e in
    omega (arith, below, c.from-place.ensures, c.index.ensures.value, c.loop-turn.done.ok.0)

pub index_mut-requires-in-Some : goal.index_mut-requires-in-Some
index_mut-requires-in-Some c =
    let f : ℕ = c.args.journals.now.faults in
    let journal : Journals = journals_of c.args.journals.now in
    let t : EntryPlace = c.in-Some.turn in
    let done : List ℕ = c.loop-turn.done.items in
    let e : Some t ≡ least_turn (size f) (rests c.args.all journal done) = c.in-Some.ensures ∙ ap (λ (ts : List (Option EntryPlace)). least_of (length ts) ts) c.deref.ensures.value ∙ least_first (size f) (rests c.args.all journal done) c.loop-turn.turns.items c.loop-turn.invariant.firsts in
    let below : t.replica < length done = turn_below c.args.all (opens c.args.journals.now.opening) f journal c.are_local_runs.ensures done c.loop-turn.invariant.replicas t e in
    let many : length c.loop-turn.turns.items ≡ size f = c.loop-turn.invariant.firsts.0 in
    let long : length done ≡ size f = c.loop-turn.invariant.replicas in
    omega (arith, below, c.from-place.ensures, c.index.ensures.value, c.loop-turn.turns.ok.0)

pub first-requires : goal.first-requires
first-requires c =
    let f : ℕ = c.args.journals.now.faults in
    let journal : Journals = journals_of c.args.journals.now in
    let t : EntryPlace = c.in-Some.turn in
    let done : List ℕ = c.loop-turn.done.items in
    let e : Some t ≡ least_turn (size f) (rests c.args.all journal done) = c.in-Some.ensures ∙ ap (λ (ts : List (Option EntryPlace)). least_of (length ts) ts) c.deref.ensures.value ∙ least_first (size f) (rests c.args.all journal done) c.loop-turn.turns.items c.loop-turn.invariant.firsts in
    let below : t.replica < length done = turn_below c.args.all (opens c.args.journals.now.opening) f journal c.are_local_runs.ensures done c.loop-turn.invariant.replicas t e in
    let long : length done ≡ size f = c.loop-turn.invariant.replicas in
    omega arith

pub loop-turn-smaller : goal.loop-turn-smaller
loop-turn-smaller c =
    let f : ℕ = c.args.journals.now.faults in
    let journal : Journals = journals_of c.args.journals.now in
    let t : EntryPlace = c.in-Some.turn in
    let done : List ℕ = c.loop-turn.done.items in
    let e : Some t ≡ least_turn (size f) (rests c.args.all journal done) = c.in-Some.ensures ∙ ap (λ (ts : List (Option EntryPlace)). least_of (length ts) ts) c.deref.ensures.value ∙ least_first (size f) (rests c.args.all journal done) c.loop-turn.turns.items c.loop-turn.invariant.firsts in
    let at : c.from-place.result ≡ t.replica = c.from-place.ensures ∙ c.index.ensures.value in
    subst (λ r. left_below (size f) (rests c.args.all journal (set done r t.number)) < left_below (size f) (rests c.args.all journal done)) (sym at)
    (fewer_left c.args.all (opens c.args.journals.now.opening) f journal c.are_local_runs.ensures done c.loop-turn.invariant.replicas t e)

pub loop-turn-preserved : goal.loop-turn-preserved
loop-turn-preserved c =
    let f : ℕ = c.args.journals.now.faults in
    let journal : Journals = journals_of c.args.journals.now in
    let t : EntryPlace = c.in-Some.turn in
    let done : List ℕ = c.loop-turn.done.items in
    let made : List (ℕ × ℕ) = c.loop-turn.order.items in
    let e : Some t ≡ least_turn (size f) (rests c.args.all journal done) = c.in-Some.ensures ∙ ap (λ (ts : List (Option EntryPlace)). least_of (length ts) ts) c.deref.ensures.value ∙ least_first (size f) (rests c.args.all journal done) c.loop-turn.turns.items c.loop-turn.invariant.firsts in
    let at : c.from-place.result ≡ t.replica = c.from-place.ensures ∙ c.index.ensures.value in
    record {
      replicas = length-set done c.from-place.result t.number ∙ c.loop-turn.invariant.replicas;
      firsts = subst (λ r. AreFirst (size f) (rests c.args.all journal (set done r t.number)) (set c.loop-turn.turns.items r c.first.result)) (sym at)
          (first_next c.args.all (size f) journal done c.loop-turn.turns.items t.replica t.number c.first.result c.loop-turn.invariant.replicas (let below : t.replica < length done = turn_below c.args.all (opens c.args.journals.now.opening) f journal c.are_local_runs.ensures done c.loop-turn.invariant.replicas t e in let long : length done ≡ size f = c.loop-turn.invariant.replicas in omega arith) c.first.ensures c.loop-turn.invariant.firsts);
      remains = λ s h.
          subst (λ r. Remains c.args.all journal (set done r t.number) c.push.new.self.items (taken_of c.args.all s)) (sym at)
          (subst (λ xs. Remains c.args.all journal (set done t.replica t.number) xs (taken_of c.args.all s)) (sym c.in_ok-push.ensures.items)
          (remains_next c.args.all (opens c.args.journals.now.opening) f journal c.are_local_runs.ensures done c.loop-turn.invariant.replicas t e made (taken_of c.args.all s) (c.loop-turn.invariant.remains s h)));
    }

pub returns : goal.returns
returns c = λ s h.
    let f : ℕ = c.args.journals.now.faults in
    let journal : Journals = journals_of c.args.journals.now in
    let done : List ℕ = c.loop-turn.done.items in
    let e : None ≡ least_turn (size f) (rests c.args.all journal done) = sym c.in_default.is ∙ c.least.ensures ∙ ap (λ (ts : List (Option EntryPlace)). least_of (length ts) ts) c.deref.ensures.value ∙ least_first (size f) (rests c.args.all journal done) c.loop-turn.turns.items c.loop-turn.invariant.firsts in
    remains_all c.args.all (opens c.args.journals.now.opening) f journal done c.loop-turn.order.items (taken_of c.args.all s) c.are_local_runs.ensures e (c.loop-turn.invariant.remains s h)
