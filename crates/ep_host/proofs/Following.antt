-- What turns leave of a node.
use Rattle.std.proofs.Common.{◌≡◌, ℕ, zero, suc, ◌<◌, ◌≤◌, ◌+◌, ◌-◌, ◌||◌, List, [], ◌∷◌, ◌++◌, length, refl, arith, inl, inr, subst, sym, ap, ◌∙◌, append_assoc, Bool, true, false, Option, Some, None, min, cond}
use Rattle.std.proofs.lemmas.List.{append-nil}
use Rattle.std.proofs.lemmas.Bool.{or_parts}
use Rattle.ep_rules.specs.Steps as rules
use Rattle.ep_rules.specs.Journals as book
use Rattle.ep_rules.specs.Journals.{asked_by, asked_in}
use Rattle.ep_rules.proofs.JournalsGrow.{asked_grows_lem}
use Rattle.ep_journal.specs.Entries.{entries_of, frames_of}
use Rattle.ep_journal.specs.Events as journal
use Rattle.ep_journal.specs.declared.entry.Entry.{Entry}
use Rattle.ep_journal.specs.declared.event.Event.{Event}
use Rattle.ep_journal.specs.declared.event.Event.TheVariants as event
use Rattle.ep_journal.specs.declared.step_fault.StepFault.{StepFault}
use Rattle.ep_journal.proofs.Growing.{entries_append}
use Rattle.ep_replica.specs.Applied.{Applied}
use Rattle.ep_replica.specs.Kept.{Kept, start_of}
use Rattle.ep_host.specs.Acts.{Made}
use Rattle.ep_host.specs.Fates.{frames_in, lost_in, Sends, Carries, counted_up}
use Rattle.ep_host.specs.Follows.{Follows, Runs, Settles, Rounds}
use Rattle.ep_host.specs.Node.{Node}
use Rattle.ep_host.specs.Pointwise.{Each}
use Rattle.ep_host.specs.Rings.{PopsAt}
use Rattle.ep_host.specs.Tasks.{Use, tasks_in, event_made, events_in, refusal_at, refusals_in, place_after, next_place, event_of}
use Rattle.ep_host.specs.Turns.{with_links, TakesUp, TakesAt, Takes, BeginsTask, ExecutesOwn, IsTurn}
use Rattle.ep_host.specs.declared.link.Link.{Link}
use Rattle.ep_host.specs.declared.task.Task.{Task}
use Rattle.ep_host.specs.declared.weather.Weather.{Weather}
use Rattle.ep_host.specs.declared.task.Task.TheVariants.{Propose, GiveUp, Recover}
use Rattle.ep_host.proofs.Booking.{pops_carries}
use Rattle.ep_host.proofs.Fated.{frames_in-append, lost_in-append, counted_twice, carries_none, carries_carries, sends_carries}
use Rattle.ep_host.proofs.Places.{each_self, each_each, each_weaker}
use Rattle.ep_host.proofs.Pumping.{frames_both, no_frames}

-- tasks, and more of them

pub tasks_both : (xs ys : List Use) → tasks_in (xs ++ ys) ≡ tasks_in xs ++ tasks_in ys
tasks_both [] ys = refl
tasks_both (x ∷ xs) ys = ap (λ (l : List Task). x.task ∷ l) (tasks_both xs ys)

pub events_both : (xs ys : List Use) → events_in (xs ++ ys) ≡ events_in xs ++ events_in ys
events_both [] ys = refl
events_both (x ∷ xs) ys = ap (λ (l : List rules.Event). event_made x.task x.refusal ++ l) (events_both xs ys) ∙ sym (append_assoc (event_made x.task x.refusal) (events_in xs) (events_in ys))

-- what an event is asked as
abbrev asked_of : Event → List rules.Event
asked_of event = asked_by (journal.event_of event)

pub asked_both : (xs ys : List Entry) → asked_in (entries_of (xs ++ ys)) ≡ asked_in (entries_of xs) ++ asked_in (entries_of ys)
asked_both xs ys = ap asked_in (entries_append xs ys) ∙ asked_grows_lem (entries_of xs) (entries_of ys)

pub refusals_both : (n : ℕ) (xs ys : List Use) → refusals_in n (xs ++ ys) ≡ refusals_in n xs ++ refusals_in (place_after n xs) ys
refusals_both n [] ys = refl
refusals_both n (x ∷ xs) ys = ap (λ (l : List (ℕ × StepFault)). refusal_at n x.refusal ++ l) (refusals_both (next_place n) xs ys) ∙ sym (append_assoc (refusal_at n x.refusal) (refusals_in (next_place n) xs) (refusals_in (place_after (next_place n) xs) ys))

pub places_both : (n : ℕ) (xs ys : List Use) → place_after n (xs ++ ys) ≡ place_after (place_after n xs) ys
places_both n [] ys = refl
places_both n (x ∷ xs) ys = places_both (next_place n) xs ys

pub follows_self : (a : Node) → Follows a a
follows_self a = record {
  works = record {
    faults = refl;
    me = refl;
    start = refl;
    entries = [];
    journal = sym (append-nil a.replica.entries);
    used = [];
    agenda = refl;
    asked = refl;
    refused = sym (append-nil a.refused);
    place = refl;
  };
  fates = [];
  frames = refl;
  rings = each_self (Carries a.weather []) a.links (carries_none a.weather);
  weather = refl;
  dropped = 0;
  lost = refl;
}

pub follows_follows : (a b c : Node) → Follows a b → Follows b c → Follows a c
follows_follows a b c h k = record {
  works = record {
    faults = k.works.faults ∙ h.works.faults;
    me = k.works.me ∙ h.works.me;
    start = k.works.start ∙ h.works.start;
    entries = h.works.entries ++ k.works.entries;
    journal = k.works.journal ∙ ap (λ (l : List Entry). l ++ k.works.entries) h.works.journal ∙ append_assoc a.replica.entries h.works.entries k.works.entries;
    used = h.works.used ++ k.works.used;
    agenda = h.works.agenda ∙ ap (λ (l : List Task). tasks_in h.works.used ++ l) k.works.agenda ∙ sym (append_assoc (tasks_in h.works.used) (tasks_in k.works.used) c.agenda) ∙ ap (λ (l : List Task). l ++ c.agenda) (sym (tasks_both h.works.used k.works.used));
    asked = asked_both h.works.entries k.works.entries ∙ ap (λ (l : List rules.Event). l ++ asked_in (entries_of k.works.entries)) h.works.asked ∙ ap (λ (l : List rules.Event). events_in h.works.used ++ l) k.works.asked ∙ sym (events_both h.works.used k.works.used);
    refused = k.works.refused ∙ ap (λ (l : List (ℕ × StepFault)). l ++ refusals_in b.used k.works.used) h.works.refused ∙ ap (λ (n : ℕ). a.refused ++ refusals_in a.used h.works.used ++ refusals_in n k.works.used) h.works.place
        ∙ append_assoc a.refused (refusals_in a.used h.works.used) (refusals_in (place_after a.used h.works.used) k.works.used) ∙ ap (λ (l : List (ℕ × StepFault)). a.refused ++ l) (sym (refusals_both a.used h.works.used k.works.used));
    place = k.works.place ∙ ap (λ (n : ℕ). place_after n k.works.used) h.works.place ∙ sym (places_both a.used h.works.used k.works.used);
  };
  fates = h.fates ++ k.fates;
  frames = frames_in-append h.fates k.fates ∙ ap (λ (l : List (List ℕ)). l ++ frames_in k.fates) h.frames ∙ ap (λ (l : List (List ℕ)). frames_of h.works.entries ++ l) k.frames ∙ sym (frames_both h.works.entries k.works.entries);
  rings = each_each (Carries a.weather h.fates) (Carries a.weather k.fates) (Carries a.weather (h.fates ++ k.fates)) (carries_carries a.weather h.fates k.fates) a.links b.links c.links h.rings
      (subst (λ (ws : List Weather). Each (Carries ws k.fates) b.links c.links) h.weather k.rings);
  weather = k.weather ∙ h.weather;
  dropped = h.dropped + k.dropped;
  lost =
      let sum : lost_in (h.fates ++ k.fates) + (h.dropped + k.dropped) ≡ (lost_in h.fates + h.dropped) + (lost_in k.fates + k.dropped) = omega (arith, lost_in-append h.fates k.fates) in
      k.lost ∙ ap (λ (n : ℕ). counted_up n (lost_in k.fates + k.dropped)) h.lost ∙ counted_twice a.lost (lost_in h.fates + h.dropped) (lost_in k.fates + k.dropped) ∙ ap (counted_up a.lost) (sym sum);
}

-- what one event does to the tasks
record Tasked (event : Event) (made : Bool) (a b : Node) : Type 0 where
  pub used : List Use
  pub agenda : a.agenda ≡ tasks_in used ++ b.agenda
  pub asked : cond made (asked_of event) [] ≡ events_in used
  pub refused : b.refused ≡ a.refused ++ refusals_in a.used used
  pub place : b.used ≡ place_after a.used used

made_follows : (event : Event) (lost : ℕ) (a b : Node) → Made a.weather event lost a.replica b.replica a.links b.links → b.weather ≡ a.weather → b.lost ≡ counted_up a.lost lost → Tasked event true a b → Follows a b
made_follows event lost a b m same is t =
    let e : Entry = m.entry in
    let fates = m.sent.fates in
    let grown = m.applied.appended in record {
      works = record {
        faults = ap (λ (k : Kept). k.faults) grown;
        me = ap (λ (k : Kept). k.me) grown;
        start = ap start_of grown;
        entries = e ∷ [];
        journal = ap (λ (k : Kept). k.entries) grown;
        used = t.used;
        agenda = t.agenda;
        asked = append-nil (asked_of e.event) ∙ ap asked_of m.applied.event ∙ t.asked;
        refused = t.refused;
        place = t.place;
      };
      fates = fates;
      frames = m.sent.frames ∙ sym (append-nil e.frames);
      rings = each_weaker (Sends a.weather fates) (Carries a.weather fates) (sends_carries a.weather fates) a.links b.links m.sent.rings;
      weather = same;
      dropped = 0;
      lost = (let s : lost ≡ lost_in fates + 0 = (let l = m.sent.lost in omega arith) in is ∙ ap (counted_up a.lost) s);
    }

idle_follows : (event : Event) (dropped : ℕ) (a b : Node) → b.replica ≡ a.replica → b.links ≡ a.links → b.weather ≡ a.weather → b.lost ≡ counted_up a.lost dropped → Tasked event false a b → Follows a b
idle_follows event dropped a b k l same is t = record {
  works = record {
    faults = ap (λ (k : Kept). k.faults) k;
    me = ap (λ (k : Kept). k.me) k;
    start = ap start_of k;
    entries = [];
    journal = ap (λ (k : Kept). k.entries) k ∙ sym (append-nil a.replica.entries);
    used = t.used;
    agenda = t.agenda;
    asked = t.asked;
    refused = t.refused;
    place = t.place;
  };
  fates = [];
  frames = refl;
  rings = subst (λ (links : List Link). Each (Carries a.weather []) a.links links) (sym l) (each_self (Carries a.weather []) a.links (carries_none a.weather));
  weather = same;
  dropped = dropped;
  lost = (let s : dropped ≡ 0 + dropped = omega arith in is ∙ ap (counted_up a.lost) s);
}

no_tasks : (event : Event) (made : Bool) (a b : Node) → asked_of event ≡ [] → b.agenda ≡ a.agenda → b.refused ≡ a.refused → b.used ≡ a.used → Tasked event made a b
no_tasks event made a b none agenda refused used = record {
  used = [];
  agenda = sym agenda;
  asked = go made;
  refused = refused ∙ sym (append-nil a.refused);
  place = used;
}
  where
    go : (made : Bool) → cond made (asked_of event) [] ≡ []
    go true = none
    go false = refl

takes_up_follows : (frame : Option (List ℕ)) (a b : Node) → TakesUp frame a b → Follows a b
takes_up_follows None a b e = subst (λ (n : Node). Follows a n) (sym e) (follows_self a)
takes_up_follows (Some f) a b (lost, (inl m), e) =
    made_follows (event.Handle f) lost a b m (ap (λ (n : Node). n.weather) e) (ap (λ (n : Node). n.lost) e) (no_tasks (event.Handle f) true a b refl (ap (λ (n : Node). n.agenda) e) (ap (λ (n : Node). n.refused) e) (ap (λ (n : Node). n.used) e))
takes_up_follows (Some f) a b (lost, (inr i), e) =
    idle_follows (event.Handle f) lost a b i.1.replica i.1.rings (ap (λ (n : Node). n.weather) e) (ap (λ (n : Node). n.lost) e) (no_tasks (event.Handle f) false a b refl (ap (λ (n : Node). n.agenda) e) (ap (λ (n : Node). n.refused) e) (ap (λ (n : Node). n.used) e))

pops_follows : (place : ℕ) (frame : Option (List ℕ)) (a : Node) (ys : List Link) → place < length a.links → PopsAt place frame a.links ys → Follows a (with_links a ys)
pops_follows place frame a ys low p = record {
  works = record {
    faults = refl;
    me = refl;
    start = refl;
    entries = [];
    journal = sym (append-nil a.replica.entries);
    used = [];
    agenda = refl;
    asked = refl;
    refused = sym (append-nil a.refused);
    place = refl;
  };
  fates = [];
  frames = refl;
  rings = pops_carries a.weather place frame a.links ys low p;
  weather = refl;
  dropped = 0;
  lost = refl;
}

pub takes_at_follows : (place : ℕ) (moved : Bool) (a b : Node) → place < length a.links → TakesAt place moved a b → Follows a b
takes_at_follows place moved a b low t = follows_follows a (with_links a t.links) b (pops_follows place t.frame a t.links low t.pops) (takes_up_follows t.frame (with_links a t.links) b t.handled)

pub takes_follows : (k : ℕ) (moved : Bool) (a b : Node) → k ≤ length a.links → Takes k moved a b → Follows a b
takes_follows zero moved a b low t = subst (λ (n : Node). Follows a n) (sym t.1) (follows_self a)
takes_follows (suc k) moved a b low t =
    let c : Node = t.0 in
    let first : Follows a c = takes_follows k t.1 a c (omega arith) t.4 in
    let here : k < length c.links = omega (arith, first.rings.len) in
    follows_follows a c b first (takes_at_follows k t.2 c b here t.5)

asked_task : (t : Task) → asked_of (event_of t) ≡ journal.event_of (event_of t) ∷ []
asked_task (Propose client request command seen named) = refl
asked_task (GiveUp i) = refl
asked_task (Recover i) = refl

begins_follows : (moved : Bool) (a b : Node) → BeginsTask moved a b → Follows a b
begins_follows true a b (task, rest, is, (inl (lost, m, e))) = made_follows (event_of task) lost a b m (ap (λ (n : Node). n.weather) e) (ap (λ (n : Node). n.lost) e) record {
  used = record { task = task; refusal = None } ∷ [];
  agenda = is ∙ ap (λ (l : List Task). task ∷ l) (sym (ap (λ (n : Node). n.agenda) e));
  asked = asked_task task;
  refused = ap (λ (n : Node). n.refused) e ∙ sym (append-nil a.refused);
  place = ap (λ (n : Node). n.used) e;
}
begins_follows true a b (task, rest, is, (inr (fault, i, e))) = idle_follows (event_of task) 0 a b i.replica i.rings (ap (λ (n : Node). n.weather) e) (ap (λ (n : Node). n.lost) e) record {
  used = record { task = task; refusal = Some fault } ∷ [];
  agenda = is ∙ ap (λ (l : List Task). task ∷ l) (sym (ap (λ (n : Node). n.agenda) e));
  asked = refl;
  refused = ap (λ (n : Node). n.refused) e;
  place = ap (λ (n : Node). n.used) e;
}
begins_follows false a b h = subst (λ (n : Node). Follows a n) (sym h.1) (follows_self a)

executes_follows : (moved : Bool) (a b : Node) → ExecutesOwn moved a b → Follows a b
executes_follows true a b h =
    let x = h.0 in
    let e : Entry = x.2.0 in
    let p : Applied a.replica (event.Execute x.0) e b.replica = x.2.1 in
    let is = h.1 in
    record {
      works = record {
        faults = ap (λ (k : Kept). k.faults) p.appended;
        me = ap (λ (k : Kept). k.me) p.appended;
        start = ap start_of p.appended;
        entries = e ∷ [];
        journal = ap (λ (k : Kept). k.entries) p.appended;
        used = [];
        agenda = sym (ap (λ (n : Node). n.agenda) is);
        asked = append-nil (asked_of e.event) ∙ ap asked_of p.event;
        refused = ap (λ (n : Node). n.refused) is ∙ sym (append-nil a.refused);
        place = ap (λ (n : Node). n.used) is;
      };
      fates = [];
      frames = sym (append-nil e.frames ∙ no_frames a.replica b.replica x.0 e p);
      rings = subst (λ (l : List Link). Each (Carries a.weather []) a.links l) (sym (ap (λ (n : Node). n.links) is)) (each_self (Carries a.weather []) a.links (carries_none a.weather));
      weather = ap (λ (n : Node). n.weather) is;
      dropped = 0;
      lost = ap (λ (n : Node). n.lost) is;
    }
executes_follows false a b h =
    let same : b ≡ a = h.1 ∙ ap (λ (k : Kept). record a { replica = k }) h.0.1 in
    subst (λ (n : Node). Follows a n) (sym same) (follows_self a)

pub turn_follows : (moved : Bool) (a b : Node) → IsTurn moved a b → Follows a b
turn_follows moved a b t =
    follows_follows a t.after_task b
    (follows_follows a t.after_frames t.after_task (takes_follows (length a.links) t.taken a t.after_frames (omega arith) t.takes) (begins_follows t.begun t.after_frames t.after_task t.begins))
    (executes_follows t.executed t.after_task b t.executes)

-- a number that is counted up by so many, as far as the top
counts_to : (n k : ℕ) → n ≤ 18446744073709551615 → min (n + k) 18446744073709551615 ≡ counted_up n k
counts_to n zero low = omega arith
counts_to n (suc k) low = let e = counts_to n k low in grind (arith, e)

pub counts : (n k : ℕ) → n < 18446744073709551616 → min (n + k) 18446744073709551615 ≡ counted_up n k
counts n k low = counts_to n k (omega arith)

pub next_is : (n : ℕ) → n < 4294967296 → min (n + 1) 4294967295 ≡ next_place n
next_is n low = grind (arith)

-- the end of a section

ends_follows : (a : Node) (ended : Bool) → Follows a (record a { ended = ended })
ends_follows a ended = record {
  works = record {
    faults = refl;
    me = refl;
    start = refl;
    entries = [];
    journal = sym (append-nil a.replica.entries);
    used = [];
    agenda = refl;
    asked = refl;
    refused = sym (append-nil a.refused);
    place = refl;
  };
  fates = [];
  frames = refl;
  rings = each_self (Carries a.weather []) a.links (carries_none a.weather);
  weather = refl;
  dropped = 0;
  lost = refl;
}

pub runs_end : (a b : Node) (ended : Bool) → Follows a b → (ended ≡ true → b.agenda ≡ []) → Runs a (record b { ended = ended })
runs_end a b ended h e = record { follows = follows_follows a b (record b { ended = ended }) h (ends_follows b ended); ended = e }

-- rounds

takes_agenda : (k : ℕ) (moved : Bool) (a b : Node) → Takes k moved a b → b.agenda ≡ a.agenda
takes_agenda zero moved a b t = ap (λ (n : Node). n.agenda) t.1
takes_agenda (suc k) moved a b t = at_agenda t.5.frame (with_links t.0 t.5.links) b t.5.handled ∙ takes_agenda k t.1 a t.0 t.4
  where
    at_agenda : (frame : Option (List ℕ)) (a b : Node) → TakesUp frame a b → b.agenda ≡ a.agenda
    at_agenda None a b e = ap (λ (n : Node). n.agenda) e
    at_agenda (Some f) a b h = ap (λ (n : Node). n.agenda) h.2

begins_one : (moved : Bool) (a b : Node) → BeginsTask moved a b → length b.agenda ≡ length a.agenda - 1
begins_one true a b (task, rest, is, (inl h)) = (let e = ap (λ (n : Node). length n.agenda) h.2 in let l = ap length is in omega (arith, e, l))
begins_one true a b (task, rest, is, (inr h)) = (let e = ap (λ (n : Node). length n.agenda) h.2 in let l = ap length is in omega (arith, e, l))
begins_one false a b h = (let e = ap (λ (n : Node). length n.agenda) h.1 in let l = ap length h.0 in omega (arith, e, l))

-- a turn uses up a task, or there is none
pub turn_settles : (moved : Bool) (a b : Node) → IsTurn moved a b → Settles 1 a b
turn_settles moved a b t = record {
  follows = turn_follows moved a b t;
  agenda =
      let first = ap length (takes_agenda (length a.links) t.taken a t.after_frames t.takes) in
      let second = begins_one t.begun t.after_frames t.after_task t.begins in
      let third = ap (λ (n : Node). length n.agenda) t.executes.1 in
      omega (arith, first, second, third);
}

begun_not : (taken begun executed : Bool) → false ≡ (taken || begun || executed) → begun ≡ false
begun_not true begun executed e = absurd (cc)
begun_not false true executed e = absurd (cc)
begun_not false false executed e = refl

-- a turn that moved nothing found no task
pub turn_idles : (rounds : ℕ) (a b : Node) → IsTurn false a b → Settles rounds a b
turn_idles rounds a b t = record {
  follows = turn_follows false a b t;
  agenda =
      let none : t.after_frames.agenda ≡ [] = (let h : BeginsTask false t.after_frames t.after_task = subst (λ (m : Bool). BeginsTask m t.after_frames t.after_task) (begun_not t.taken t.begun t.executed t.moves) t.begins in h.0) in
      let same : t.after_task.agenda ≡ [] = (let h : BeginsTask false t.after_frames t.after_task = subst (λ (m : Bool). BeginsTask m t.after_frames t.after_task) (begun_not t.taken t.begun t.executed t.moves) t.begins in ap (λ (n : Node). n.agenda) h.1 ∙ h.0) in
      let last = ap (λ (n : Node). length n.agenda) t.executes.1 in
      let zero_is = ap (length {A = Task}) same in
      omega (arith, last, zero_is);
}

pub settles_more : (n : ℕ) (a b c : Node) → Settles n a b → Settles 1 b c → Settles (n + 1) a c
settles_more n a b c h k = record { follows = follows_follows a b c h.follows k.follows; agenda = (let x = h.agenda in let y = k.agenda in omega (arith, x, y)) }

pub settles_all : (n m : ℕ) (a b c : Node) → Settles n a b → Settles m b c → Settles m a c
settles_all n m a b c h k = record { follows = follows_follows a b c h.follows k.follows; agenda = (let x = h.agenda in let y = k.agenda in omega (arith, x, y)) }

pub settles_none : (a : Node) → Settles 0 a a
settles_none a = record { follows = follows_self a; agenda = omega arith }

pub turn_rounds : (moved : Bool) (a b : Node) → IsTurn moved a b → Rounds moved a b
turn_rounds moved a b t = record { turn = turn_settles moved a b t; idle = λ none rounds. turn_idles rounds a b (subst (λ (m : Bool). IsTurn m a b) none t) }

pub rounds_before : (now moved : Bool) (a b : Node) → Rounds moved a b → Rounds (now || moved) a b
rounds_before now moved a b h = record { turn = h.turn; idle = λ none. h.idle (or_parts now moved none).1 }

pub rounds_now : (now moved : Bool) (a b : Node) → Rounds now a b → Rounds (now || moved) a b
rounds_now now moved a b h = record { turn = h.turn; idle = λ none. h.idle (or_parts now moved none).0 }
