-- What a frame and an execution leave.
use Rattle.std.proofs.Common.{◌≡◌, inl, inr, ℕ, ◌+◌, Bool, true, false, ◌||◌, is_some, List, [], ◌∷◌, ◌++◌, length, Option, Some, None, refl, sym, ap, subst, ◌∙◌, arith, append_assoc}
use Rattle.std.proofs.lemmas.List.{append-nil}
use Rattle.ep_rules.specs.Journals.{messages_of}
use Rattle.ep_rules.specs.Steps.{Event, sends}
use Rattle.ep_journal.specs.Entries.{frames_at, frames_of}
use Rattle.ep_journal.specs.Events.{event_of}
use Rattle.ep_journal.specs.Leaving.{state_left}
use Rattle.ep_journal.specs.declared.entry.Entry.{Entry}
use Rattle.ep_journal.specs.declared.event.Event.TheVariants.{Execute}
use Rattle.ep_replica.specs.Applied.{Applied}
use Rattle.ep_replica.specs.Kept.{Kept}
use Rattle.ep_replica.specs.Pending.{ExecutesNext}
use Rattle.ep_host.specs.Sent.{IsThinned, none}
use Rattle.ep_host.specs.Tending.{Handled, Handles, Tends, lost_by}
use Rattle.ep_host.specs.declared.tended.Tended.{Tended}

-- these entries were added
abbrev pub Grows : Kept → List Entry → Kept → Type 0
Grows old es new = new ≡ record old { entries = old.entries ++ es }

none_added : (old new : Kept) → new ≡ old → Grows old [] new
none_added old new same = same ∙ ap (λ (es : List Entry). record old { entries = es }) (sym (append-nil old.entries))

both_added : (old between new : Kept) (xs ys : List Entry) → Grows old xs between → Grows between ys new → Grows old (xs ++ ys) new
both_added old between new xs ys a b =
    b ∙ ap (λ (k : Kept). record k { entries = k.entries ++ ys }) a ∙ ap (λ (es : List Entry). record old { entries = es }) (append_assoc old.entries xs ys)

pub frames_both : (xs ys : List Entry) → frames_of (xs ++ ys) ≡ frames_of xs ++ frames_of ys
frames_both [] ys = refl
frames_both (x ∷ xs) ys = ap (λ (z : List (List ℕ)). x.frames ++ z) (frames_both xs ys) ∙ sym (append_assoc x.frames (frames_of xs) (frames_of ys))

-- an execution sends nothing
no_messages : (fs : List (List ℕ)) → messages_of (frames_at fs) ≡ [] → fs ≡ []
no_messages [] e = refl
no_messages (b ∷ bs) e = absurd (cc)

pub no_frames : (k k' : Kept) (i : ℕ) (e : Entry) → Applied k (Execute i) e k' → e.frames ≡ []
no_frames k k' i e a = no_messages e.frames (a.step.sent ∙ ap (λ (v : Event). sends k.faults k.me (state_left k.opening k.faults k.me k.entries) v) (ap event_of a.event))

-- what the frame left
record First (given : Option (List ℕ)) (old : Kept) (frames : List (List ℕ)) (lost : ℕ) (between : Kept) : Type 0 where
  pub dropped : ℕ
  pub handled : Handled given old dropped between
  pub entries : List Entry
  pub grown : Grows old entries between
  pub thin : IsThinned frames (frames_of entries)
  pub counted : length frames + lost ≡ length (frames_of entries) + dropped

first : (given : Option (List ℕ)) (old : Kept) (frames : List (List ℕ)) (lost : ℕ) (between : Kept) → Handles given old frames lost between → First given old frames lost between
first None old frames n between h = record {
  dropped = 0;
  handled = (h.0, refl);
  entries = [];
  grown = none_added old between h.0;
  thin = subst (λ (fs : List (List ℕ)). IsThinned fs []) (sym h.1) none;
  counted = (let l : length frames ≡ 0 = ap length h.1 in let z : n ≡ 0 = h.2 in omega arith);
}
first (Some b) old frames n between (inl h) =
    let e : Entry = h.0 in
    let out : frames_of (e ∷ []) ≡ e.frames = append-nil e.frames in record {
      dropped = 0;
      handled = inl ((e, h.1), refl);
      entries = e ∷ [];
      grown = h.1.appended;
      thin = subst (λ (fs : List (List ℕ)). IsThinned frames fs) (sym out) h.2.thin;
      counted = (let l : length (frames_of (e ∷ [])) ≡ length e.frames = ap length out in let c = h.2.counted in omega arith);
    }
first (Some b) old frames n between (inr h) = record {
  dropped = lost_by h.0;
  handled = inr (h.0, h.1, h.2, refl);
  entries = [];
  grown = none_added old between h.2;
  thin = subst (λ (fs : List (List ℕ)). IsThinned fs []) (sym h.3) none;
  counted = (let l : length frames ≡ 0 = ap length h.3 in let z : n ≡ lost_by h.0 = h.4 in omega arith);
}

-- what the execution left
record Second (between : Kept) (new : Kept) : Type 0 where
  pub entries : List Entry
  pub grown : Grows between entries new
  pub silent : frames_of entries ≡ []

second : (between : Kept) (executed : Bool) (new : Kept) → ExecutesNext between executed new → Second between new
second between true new x =
    let e : Entry = x.2.0 in
    let a : Applied between (Execute x.0) e new = x.2.1 in
    record { entries = e ∷ []; grown = a.appended; silent = append-nil e.frames ∙ no_frames between new x.0 e a }
second between false new x = record { entries = []; grown = none_added between new x.1; silent = refl }

pub tends : (given : Option (List ℕ)) (old between new : Kept) (executed : Bool) (r : Tended) (frames : List (List ℕ)) (lost : ℕ) → Handles given old frames lost between → ExecutesNext between executed new
    → r.moved ≡ (is_some given || executed) → r.frames.items ≡ frames → r.lost ≡ lost → Tends given old new r
tends given old between new executed r frames lost h x moved same count =
    let a = first given old frames lost between h in
    let b = second between executed new x in
    let out : frames_of (a.entries ++ b.entries) ≡ frames_of a.entries = frames_both a.entries b.entries ∙ ap (λ (fs : List (List ℕ)). frames_of a.entries ++ fs) b.silent ∙ append-nil (frames_of a.entries) in record {
      between = between;
      dropped = a.dropped;
      handled = a.handled;
      executed = executed;
      executes = x;
      moved = moved;
      entries = a.entries ++ b.entries;
      grown = both_added old between new a.entries b.entries a.grown b.grown;
      thin = subst (λ (fs : List (List ℕ)). IsThinned r.frames.items fs) (sym out) (subst (λ (fs : List (List ℕ)). IsThinned fs (frames_of a.entries)) (sym same) a.thin);
      counted = (let l : length r.frames.items ≡ length frames = ap length same in let o : length (frames_of (a.entries ++ b.entries)) ≡ length (frames_of a.entries) = ap length out in let c = a.counted in omega arith);
    }
