-- The instance that a proposal takes.
use Rattle.std.proofs.Common.{◌≡◌, ℕ, ◌+◌, ◌<◌, Option, Some, List, [], ◌∷◌, ◌++◌, slice_get, refl, ap, ◌∙◌}
use Rattle.ep_base.specs.Instances.{instance_of}
use Rattle.ep_base.specs.Messages.{instance_of_message}
use Rattle.ep_base.specs.Commands.{Command}
use Rattle.ep_rules.specs.Merging.{Takes}
use Rattle.ep_rules.specs.Steps.{Frame}
use Rattle.ep_rules.proofs.Merged.{at_in}
use Rattle.ep_rules.proofs.Named.{proposals_name_lem}
use Rattle.ep_journal.specs.Entries.{entry_of, frames_at}
use Rattle.ep_journal.specs.Events.{event_of, frame_at, first_named}
use Rattle.ep_journal.specs.declared.entry.Entry.{Entry}
use Rattle.ep_journal.specs.declared.event.Event.{Event as Happening}
use Rattle.ep_journal.specs.declared.event.Event.TheVariants.{Propose}
use Rattle.ep_replica.specs.Applied.{Applied}
use Rattle.ep_replica.specs.Kept.{Kept}
use Rattle.ep_replica.specs.Pending.{state_of, Submits}

-- the first frame of the entry names the instance
first_is : (fs : List (List ℕ)) (m : Frame) (i : ℕ) → slice_get (frames_at fs) 0 ≡ Some m → instance_of_message m.sent.message ≡ i → first_named fs ≡ Some i
first_is [] m i first about = absurd (cc)
first_is (b ∷ bs) m i first about =
    let same : frame_at b ≡ m = (let s : Some (frame_at b) ≡ Some m = first in cc) in
    ap (λ n. Some n) (ap (λ (x : Frame). instance_of_message x.sent.message) same ∙ about)

-- what the last entry names is what it takes
pub record Named (k : Kept) (event : Happening) (k' : Kept) (o : Option ℕ) : Type 0 where
  pub taken : ℕ
  pub is : o ≡ Some taken
  pub submits : Submits k event taken k'

pub named_taken : (k k' : Kept) (client request : ℕ) (command : Command) (seen : ℕ) (spared : Option ℕ) (o : Option ℕ) → 0 < k.faults → (e : Entry) × Applied k (Propose client request command seen spared) e k'
    → ((before : List Entry) (e : Entry) → k'.entries ≡ before ++ e ∷ [] → o ≡ first_named e.frames) → Named k (Propose client request command seen spared) k' o
named_taken k k' client request command seen spared o some p names =
    let e : Entry = p.0 in
    let a : Applied k (Propose client request command seen spared) e k' = p.1 in
    let t : Takes k.me (state_of k) (entry_of e) = proposals_name_lem k.faults k.me (state_of k) (entry_of e) client request seen spared command some (ap event_of a.event) a.step in
    let i : ℕ = instance_of k.me (t.number + 1) in
    let about : instance_of_message (t.frame).sent.message ≡ i = t.about t.frame (at_in (frames_at e.frames) 0 t.frame t.first) in
    record {
      taken = i;
      is = names k.entries e (ap (λ (z : Kept). z.entries) a.appended) ∙ first_is e.frames t.frame i t.first about;
      submits = record { entry = e; applied = a; number = t.number; free = t.free; instance = refl };
    }
