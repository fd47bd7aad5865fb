-- What a section leaves of a node.
use Rattle.std.proofs.Common.{◌≡◌, ℕ, ◌-◌, ◌<◌, ◌≤◌, List, [], ◌++◌, length, get_or, refl, sym, ap, ◌∙◌, arith, All, append_assoc, length-append}
use Rattle.std.proofs.lemmas.List.{append-nil}
use Rattle.ep_host.specs.Follows.{Works, Follows, Settles}
use Rattle.ep_host.specs.Node.{Node}
use Rattle.ep_host.specs.Pointwise.{Each}
use Rattle.ep_host.specs.Setting.{SetsWeather, IsReleased}
use Rattle.ep_host.specs.Tasks.{tasks_in, events_in, refusals_in, place_after}
use Rattle.ep_host.specs.declared.task.Task.{Task}
use Rattle.ep_host.specs.declared.weather.Weather.{Weather}
use Rattle.ep_host.proofs.Following.{tasks_both, events_both, asked_both, refusals_both, places_both}
use Rattle.ep_host.proofs.Places.{each_each, each_weaker}
use Rattle.ep_journal.specs.Entries.{entries_of}
use Rattle.ep_journal.specs.declared.entry.Entry.{Entry}
use Rattle.ep_journal.specs.declared.step_fault.StepFault.{StepFault}
use Rattle.ep_replica.specs.Kept.{Kept, start_of}
use Rattle.ep_rules.specs.Journals.{asked_in as asked_in_entries}
use Rattle.ep_rules.specs.Steps.{Event}
use Rattle.ep_run.specs.Rings.{Turns}
use Rattle.ep_host.specs.Weathers.{own_of}
use Rattle.ep_run.specs.Weathers.{SetsOwn, HasOwn}

-- once its tasks are assigned: more entries, and an agenda that has lost so many tasks at least, or all
pub record Passes (turns : ℕ) (a b : Node) : Type 0 where
  pub works : Works a b
  pub agenda : length b.agenda ≤ length a.agenda - turns

works_works : (a b c : Node) → Works a b → Works b c → Works a c
works_works a b c h k = record {
  start = k.start ∙ h.start;
  faults = k.faults ∙ h.faults;
  me = k.me ∙ h.me;
  entries = h.entries ++ k.entries;
  journal = k.journal ∙ ap (λ (l : List Entry). l ++ k.entries) h.journal ∙ append_assoc a.replica.entries h.entries k.entries;
  used = h.used ++ k.used;
  agenda = h.agenda ∙ ap (λ (l : List Task). tasks_in h.used ++ l) k.agenda ∙ sym (append_assoc (tasks_in h.used) (tasks_in k.used) c.agenda) ∙ ap (λ (l : List Task). l ++ c.agenda) (sym (tasks_both h.used k.used));
  asked = asked_both h.entries k.entries ∙ ap (λ (l : List Event). l ++ asked_in_entries (entries_of k.entries)) h.asked ∙ ap (λ (l : List Event). events_in h.used ++ l) k.asked ∙ sym (events_both h.used k.used);
  refused =
      k.refused ∙ ap (λ (l : List (ℕ × StepFault)). l ++ refusals_in b.used k.used) h.refused ∙ ap (λ (n : ℕ). a.refused ++ refusals_in a.used h.used ++ refusals_in n k.used) h.place
      ∙ append_assoc a.refused (refusals_in a.used h.used) (refusals_in (place_after a.used h.used) k.used) ∙ ap (λ (l : List (ℕ × StepFault)). a.refused ++ l) (sym (refusals_both a.used h.used k.used));
  place = k.place ∙ ap (λ (n : ℕ). place_after n k.used) h.place ∙ sym (places_both a.used h.used k.used);
}

passes_passes : (n m : ℕ) (a b c : Node) → Passes n a b → Passes m b c → Passes m a c
passes_passes n m a b c h k = record { works = works_works a b c h.works k.works; agenda = (let x = h.agenda in let y = k.agenda in omega (arith, x, y)) }

-- a node with the same replica and tasks
passes_same : (a b : Node) → b.replica ≡ a.replica → b.agenda ≡ a.agenda → b.refused ≡ a.refused → b.used ≡ a.used → Passes 0 a b
passes_same a b k agenda refused used = record {
  works = record {
    start = ap start_of k;
    faults = ap (λ (k : Kept). k.faults) k;
    me = ap (λ (k : Kept). k.me) k;
    entries = [];
    journal = ap (λ (k : Kept). k.entries) k ∙ sym (append-nil a.replica.entries);
    used = [];
    agenda = sym agenda;
    asked = refl;
    refused = refused ∙ sym (append-nil a.refused);
    place = used;
  };
  agenda = (let same = ap (λ (l : List Task). length l) agenda in omega (arith, same));
}

passes_sets : (ws : List Weather) (a b : Node) → SetsWeather ws a b → Passes 0 a b
passes_sets ws a b h = passes_same a b (ap (λ (n : Node). n.replica) h.is) (ap (λ (n : Node). n.agenda) h.is) (ap (λ (n : Node). n.refused) h.is) (ap (λ (n : Node). n.used) h.is)

passes_released : (a b : Node) → IsReleased a b → Passes 0 a b
passes_released a b h = passes_same a b (ap (λ (n : Node). n.replica) h.is) (ap (λ (n : Node). n.agenda) h.is) (ap (λ (n : Node). n.refused) h.is) (ap (λ (n : Node). n.used) h.is)

passes_follows : (a b : Node) → Follows a b → Passes 0 a b
passes_follows a b h = record {
  works = h.works;
  agenda = (let shorter = ap (λ (l : List Task). length l) h.works.agenda in omega (arith, shorter, length-append (tasks_in h.works.used) b.agenda));
}

-- a section, once its tasks are assigned
pub passes_section : (turns : ℕ) (ws : List Weather) (xs ys zs : List Node) → Each (SetsOwn ws) xs ys → Turns turns ys zs → Each (Passes turns) xs zs
passes_section turns ws xs ys zs sets h =
    let s = h.settles in
    let join : (a b c : Node) → Passes 0 a b → Passes turns b c → Passes turns a c = passes_passes 0 turns in
    let rounds : Each (Passes turns) s.released zs = each_weaker (Settles turns) (Passes turns) (λ a b k. record { works = k.follows.works; agenda = k.agenda }) s.released zs s.settles in
    let release : Each (Passes 0) h.turned s.released = each_weaker IsReleased (Passes 0) passes_released h.turned s.released s.releases in
    let threads : Each (Passes 0) ys h.turned = each_weaker Follows (Passes 0) passes_follows ys h.turned h.follows in
    let set : Each (Passes 0) xs ys = each_weaker (SetsOwn ws) (Passes 0) (λ a b k. passes_sets (own_of a.replica.me ws) a b k) xs ys sets in
    each_each (Passes 0) (Passes turns) (Passes turns) join xs ys zs set
    (each_each (Passes 0) (Passes turns) (Passes turns) join ys h.turned zs threads (each_each (Passes 0) (Passes turns) (Passes turns) join h.turned s.released zs release rounds))

-- a node keeps its weather

-- the same replica's node in the same weather
abbrev Stays : Node → Node → Type 0
Stays a b = (b.replica.me ≡ a.replica.me) × (b.weather ≡ a.weather)

stays_stays : (a b c : Node) → Stays a b → Stays b c → Stays a c
stays_stays a b c h k = (k.0 ∙ h.0, k.1 ∙ h.1)

stays_released : (a b : Node) → IsReleased a b → Stays a b
stays_released a b h = (ap (λ (n : Node). n.replica.me) h.is, ap (λ (n : Node). n.weather) h.is)

stays_follows : (a b : Node) → Follows a b → Stays a b
stays_follows a b h = (h.works.me, h.weather)

has_set : (ws : List Weather) (a b c : Node) → SetsOwn ws a b → Stays b c → HasOwn ws c
has_set ws a b c h k = k.1 ∙ ap (λ (n : Node). n.weather) h.is ∙ ap (λ (r : ℕ). own_of r ws) (sym (k.0 ∙ ap (λ (n : Node). n.replica.me) h.is))

-- the weather that was set is the nodes' weather at the section's end
pub own_stays : (turns : ℕ) (ws : List Weather) (xs ys zs : List Node) → Each (SetsOwn ws) xs ys → Turns turns ys zs → All (HasOwn ws) zs
own_stays turns ws xs ys zs sets h =
    let s = h.settles in
    let rounds : Each Stays s.released zs = each_weaker (Settles turns) Stays (λ a b k. stays_follows a b k.follows) s.released zs s.settles in
    let release : Each Stays h.turned s.released = each_weaker IsReleased Stays stays_released h.turned s.released s.releases in
    let threads : Each Stays ys h.turned = each_weaker Follows Stays stays_follows ys h.turned h.follows in
    let all : Each Stays ys zs = each_each Stays Stays Stays stays_stays ys h.turned zs threads (each_each Stays Stays Stays stays_stays h.turned s.released zs release rounds) in
    λ i d low.
    let low' : i < length ys = omega (arith, low, all.len) in
    let low'' : i < length xs = omega (arith, low', sets.len) in
    has_set ws (get_or xs i d) (get_or ys i d) (get_or zs i d) (sets.at i d low'') (all.at i d low')
