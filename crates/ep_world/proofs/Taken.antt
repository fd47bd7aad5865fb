-- A replica of the world takes an event.
use Rattle.std.proofs.Common.{◌≡◌, ℕ, ◌+◌, ◌-◌, ◌<◌, ◌≤◌, List, [], ◌∷◌, ◌++◌, inl, inr, Some, length, length-append, get_or, set, refl, sym, ap, subst, ◌∙◌, arith}
use Rattle.std.proofs.lemmas.List.{get_or_push, get_or-set_same}
use Rattle.std.proofs.lemmas.Option.{slice_get-get_or}
use Rattle.ep_base.specs.Quorums.{size}
use Rattle.ep_base.specs.declared.version.Version.{Version}
use Rattle.ep_journal.specs.Entries.{frames_at, all_entries, first_opening}
use Rattle.ep_journal.specs.declared.entry.Entry.{Entry}
use Rattle.ep_journal.specs.declared.event.Event.{Event as Happening}
use Rattle.ep_journal.specs.declared.step_fault.StepFault.{StepFault}
use Rattle.ep_journal.specs.Leaving.{state_left}
use Rattle.ep_journal.specs.Openings.{Opening}
use Rattle.ep_replica.specs.Applied.{Applied, IsDeclined}
use Rattle.ep_replica.specs.Kept.{Kept, first_version}
use Rattle.ep_world.specs.Played.{Played, replica_in, places_of, IsWorld}
use Rattle.ep_world.specs.Playing.{asked, with_entry, IsNotEnabled}
use Rattle.ep_world.specs.Replicas.{AreReplicas, AreAll, world_of, places_up_to, Took, IsUntaken}
use Rattle.ep_world.specs.declared.place.Place.{Place}
use Rattle.ep_journal.specs.declared.refusal.Refusal.TheVariants.{Step}
use Rattle.ep_world.specs.declared.world_event.WorldEvent.{WorldEvent}
use Rattle.ep_world.proofs.Kept.{as_many, count_all, kept_at, replicas_set, first_set, all_set}
use Rattle.ep_world.proofs.Grown.{with_same, goes_on, places_are, few_frames}
use Rattle.ep_world.proofs.Sent.{among}

-- the replica that stands there
pub record Here (f r : ℕ) (ks : List Kept) (k : Kept) : Type 0 where
  pub below : r < size f
  pub version : k.version ≡ first_version ks
  pub opening : k.opening ≡ first_opening ks
  pub faults : k.faults ≡ f
  pub me : k.me ≡ r
  pub entries : get_or (all_entries ks) r [] ≡ k.entries

pub here : (f r : ℕ) (ks : List Kept) (k : Kept) → AreAll f ks → r < length ks → k ≡ get_or ks r k → Here f r ks k
here f r ks k h less is =
    let t = kept_at (first_version ks) (first_opening ks) f 0 r ks k h (slice_get-get_or ks r k less ∙ ap Some (sym is)) in
    let n = as_many f ks h in
    record { below = omega arith; version = t.version; opening = t.opening; faults = t.faults; me = (let q = t.me in omega arith); entries = t.entries }

same_replica : (f r : ℕ) (ks : List Kept) (k : Kept) (steps : List (ℕ × ℕ)) (messages : List Place) → Here f r ks k → k ≡ replica_in (world_of f ks steps messages) r
same_replica f r ks k steps messages h = λ t. record { version = h.version t; faults = h.faults t; me = h.me t; opening = h.opening t; entries = sym h.entries t }

-- the last entry of what an event left is the one that it made
last_is : (k k' : Kept) (event : Happening) (e last : Entry) → Applied k event e k' → last ≡ get_or k'.entries (length k'.entries - 1) last → e ≡ last
last_is k k' event e last a is =
    let more : k'.entries ≡ k.entries ++ e ∷ [] = ap (λ (z : Kept). z.entries) a.appended in
    let place : length k.entries ≡ length k'.entries - 1 = (let n : length k'.entries ≡ length k.entries + 1 = ap length more ∙ length-append k.entries (e ∷ []) in omega arith) in
    sym (is ∙ ap (λ (xs : List Entry). get_or xs (length k'.entries - 1) last) more ∙ get_or_push k.entries e last (length k'.entries - 1) place)

pub with_last : (k k' j : Kept) (event : Happening) (last : Entry) → (e : Entry) × Applied k event e k' → j ≡ k' → last ≡ get_or j.entries (length j.entries - 1) last → Applied k event last k'
with_last k k' j event last p same is =
    let at : last ≡ get_or k'.entries (length k'.entries - 1) last = subst (λ (z : Kept). last ≡ get_or z.entries (length z.entries - 1) last) same is in
    subst (λ (z : Entry). Applied k event z k') (last_is k k' event p.0 last p.1 at) p.1

pub few_last : (f r : ℕ) (ks : List Kept) (k k' : Kept) (event : Happening) (e : Entry) → Here f r ks k → Applied k event e k' → length e.frames ≤ size f + 1
few_last f r ks k k' event e h a = subst (λ n. length e.frames ≤ size n + 1) h.faults (few_frames k.faults k.me (state_left k.opening k.faults k.me k.entries) e a.step)

pub still_replicas : (f r : ℕ) (ks : List Kept) (k k' : Kept) (event : Happening) (e : Entry) → AreAll f ks → Here f r ks k → Applied k event e k' → AreAll f (set ks r k')
still_replicas f r ks k k' event e all h a =
    let version : k'.version ≡ first_version ks = ap (λ (z : Kept). z.version) a.appended ∙ h.version in
    let opening : k'.opening ≡ first_opening ks = ap (λ (z : Kept). z.opening) a.appended ∙ h.opening in
    let first = first_set r ks k' version opening in
    subst (λ (v : Version). AreReplicas v (first_opening (set ks r k')) f 0 (set ks r k')) (sym first.0)
    (subst (λ (o : Opening). AreReplicas (first_version ks) o f 0 (set ks r k')) (sym first.1)
    (replicas_set (first_version ks) (first_opening ks) f 0 r ks k' all version opening (ap (λ (z : Kept). z.faults) a.appended ∙ h.faults) (let m : k'.me ≡ k.me = ap (λ (z : Kept). z.me) a.appended in let n = h.me in omega arith)))

pub took : (f r : ℕ) (ks : List Kept) (k k' : Kept) (steps more_steps : List (ℕ × ℕ)) (messages more : List Place) (event : Happening) (e : Entry) → AreAll f ks → Here f r ks k → Applied k event e k'
    → more_steps ≡ steps ++ (r, e.number) ∷ [] → more ≡ messages ++ places_up_to r e.number (length e.frames) → Took (world_of f ks steps messages) r event (world_of f (set ks r k') more_steps more)
took f r ks k k' steps more_steps messages more event e all h a stepped sent =
    let w : Played = world_of f ks steps messages in
    let w' : Played = world_of f (set ks r k') more_steps more in
    let longer : k'.entries ≡ get_or (all_entries ks) r [] ++ e ∷ [] = ap (λ (z : Kept). z.entries) a.appended ∙ ap (λ (es : List Entry). es ++ e ∷ []) (sym h.entries) in
    let entries : all_entries (set ks r k') ≡ with_entry (all_entries ks) r e = all_set r ks k' e longer in
    let less : r < length (all_entries ks) = (let n = as_many f ks all in let m = count_all ks in let b = h.below in omega arith) in
    let version : k'.version ≡ first_version ks = ap (λ (z : Kept). z.version) a.appended ∙ h.version in
    let opening : k'.opening ≡ first_opening ks = ap (λ (z : Kept). z.opening) a.appended ∙ h.opening in
    let first = first_set r ks k' version opening in
    let there : k' ≡ replica_in w' r = (λ t. record {
      version = (version ∙ sym first.0) t;
      opening = (opening ∙ sym first.1) t;
      faults = (ap (λ (z : Kept). z.faults) a.appended ∙ h.faults) t;
      me = (ap (λ (z : Kept). z.me) a.appended ∙ h.me) t;
      entries = (longer ∙ sym (ap (λ (es : List (List Entry)). get_or es r []) entries ∙ with_same (all_entries ks) r e less)) t;
    }) in
    let places : more ≡ messages ++ places_of (frames_at e.frames) = sent ∙ ap (λ (ps : List Place). messages ++ ps) (sym (places_are k.faults k.me (state_left k.opening k.faults k.me k.entries) e a.step a.marked ∙ ap (λ q. places_up_to q e.number (length e.frames)) h.me)) in
    record {
      entry = e;
      there = h.below;
      applied = subst (λ (z : Kept). Applied z event e (replica_in w' r)) (same_replica f r ks k steps messages h) (subst (λ (z : Kept). Applied k event e z) there a);
      becomes = λ t. record { version = first.0 t; faults = f; opening = first.1 t; entries = entries t; steps = stepped t; messages = places t };
    }

pub untaken : (f r : ℕ) (ks : List Kept) (k : Kept) (steps : List (ℕ × ℕ)) (messages : List Place) (event : Happening) (fault : StepFault) → Here f r ks k → IsDeclined k event fault → IsUntaken (world_of f ks steps messages) r event fault
untaken f r ks k steps messages event fault h d = inr (inr (h.below, subst (λ (z : Kept). IsDeclined z event fault) (same_replica f r ks k steps messages h) d))

pub nobody : (f r : ℕ) (ks : List Kept) → AreAll f ks → length ks ≤ r → size f ≤ r
nobody f r ks h ge = let n = as_many f ks h in omega arith

-- The same at a place that is the replica's number.

pub here_at : (f r place : ℕ) (ks : List Kept) (k : Kept) → AreAll f ks → place ≡ r → place < length ks → k ≡ get_or ks place k → Here f r ks k
here_at f r place ks k h at less is = subst (λ n. Here f n ks k) at (here f place ks k h less is)

pub still_replicas_at : (f r place : ℕ) (ks : List Kept) (k k' : Kept) (event : Happening) (e : Entry) → AreAll f ks → place ≡ r → Here f r ks k → Applied k event e k' → AreAll f (set ks place k')
still_replicas_at f r place ks k k' event e all at h a = subst (λ n. AreAll f (set ks n k')) (sym at) (still_replicas f r ks k k' event e all h a)

pub took_at : (f r place : ℕ) (ks : List Kept) (k k' : Kept) (steps more_steps : List (ℕ × ℕ)) (messages more : List Place) (event : Happening) (e : Entry) → AreAll f ks → place ≡ r → Here f r ks k → Applied k event e k'
    → more_steps ≡ steps ++ (r, e.number) ∷ [] → more ≡ messages ++ places_up_to r e.number (length e.frames) → Took (world_of f ks steps messages) r event (world_of f (set ks place k') more_steps more)
took_at f r place ks k k' steps more_steps messages more event e all at h a stepped sent =
    subst (λ n. Took (world_of f ks steps messages) r event (world_of f (set ks n k') more_steps more)) (sym at) (took f r ks k k' steps more_steps messages more event e all h a stepped sent)

-- a replica put there is found there
pub put_there : (ks : List Kept) (place : ℕ) (k j : Kept) → place < length ks → j ≡ get_or (set ks place k) place j → j ≡ k
put_there ks place k j less is = is ∙ get_or-set_same ks place k j less

-- One step of the world.

pub step_world : (w w' : Played) (event : WorldEvent) (r : ℕ) (taken : Happening) → IsWorld w → asked w event ≡ Some (r, taken) → Took w r taken w' → IsWorld w'
step_world w w' event r taken h is t = subst IsWorld (sym t.becomes) (goes_on w r taken t.entry (replica_in w' r) h t.there t.applied (among w h event r taken is))

pub not_enabled : (w : Played) (event : WorldEvent) (r : ℕ) (taken : Happening) (fault : StepFault) → asked w event ≡ Some (r, taken) → IsUntaken w r taken fault → IsNotEnabled w event (Step fault)
not_enabled w event r taken fault is (inl nobody) = inr (inr (inl (r, taken, ap Step nobody.0, is, nobody.1)))
not_enabled w event r taken fault is (inr (inl memory)) = inl (ap Step memory)
not_enabled w event r taken fault is (inr (inr declined)) = inr (inr (inr (r, taken, fault, refl, is, declined.0, declined.1)))
