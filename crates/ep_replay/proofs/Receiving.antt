-- The receipts of a world's last step, and that earlier ones stay their replicas' own.
use Rattle.std.proofs.Common.{◌≡◌, inl, inr, ℕ, zero, suc, ◌+◌, ◌-◌, List, [], ◌∷◌, ◌++◌, length, length-append, get_or, drop, Option, None, Some, refl, sym, ap, subst, ◌∙◌, arith, append-nil}
use Rattle.std.proofs.lemmas.List.{get_or_push}
use Rattle.ep_base.specs.declared.reply.Answer.{Answer}
use Rattle.ep_rules.specs.States.{State}
use Rattle.ep_rules.specs.Steps.{Executes}
use Rattle.ep_rules.specs.Worlds.{In}
use Rattle.ep_rules.specs.Verdicts.{IsOwn}
use Rattle.ep_rules.specs.Journals as rules
use Rattle.ep_rules.specs.declared.receipt.Receipt.{Receipt}
use Rattle.ep_rules.proofs.Merged.{in_split}
use Rattle.ep_rules.proofs.OwnReceipts.{own_stays_lem}
use Rattle.ep_journal.specs.Entries.{entry_of, entries_of}
use Rattle.ep_journal.specs.Openings.{opens}
use Rattle.ep_journal.specs.declared.entry.Entry.{Entry}
use Rattle.ep_journal.proofs.Growing.{entries_append}
use Rattle.ep_replica.specs.Kept.{Kept}
use Rattle.ep_journal.specs.Events.{event_of, frame_at}
use Rattle.ep_journal.specs.Leaving.{standing}
use Rattle.ep_journal.specs.declared.event.Event.{Event as Happening}
use Rattle.ep_journal.specs.declared.event.Event.TheVariants.{Handle}
use Rattle.ep_replica.specs.Receipts.{receipts_for, receipts_of, receipts_by, receipts_after}
use Rattle.ep_world.specs.Played.{Played, entries_in, replica_in, journals_in, message_in}
use Rattle.ep_world.specs.Playing.{Happens, with_entry, given}
use Rattle.ep_world.specs.declared.world_event.WorldEvent.{WorldEvent}
use Rattle.ep_world.specs.declared.world_event.WorldEvent.TheVariants.{Deliver}
use Rattle.ep_replay.specs.Tables.{AreOwn}

-- The last step.

drop_before : (xs : List Entry) (x : Entry) → drop (length xs) (entries_of (xs ++ x ∷ [])) ≡ entry_of x ∷ []
drop_before [] x = refl
drop_before (y ∷ xs) x = drop_before xs x

-- the world's replica has one entry more
pub last_given : (w v : Played) (event : WorldEvent) (h : Happens w event v) (r n : ℕ) (k : Kept) (rs : List Receipt) → r ≡ h.replica → n ≡ h.entry.number → k ≡ replica_in v r → rs ≡ receipts_after k.me (n - 1) (entries_of k.entries)
    → rs ≡ receipts_of h.replica (journals_in v h.replica) (entry_of h.entry)
last_given w v event h r n k rs is_r is_n is_k gives =
    let es : List Entry = entries_in w h.replica in
    let more : entries_in v h.replica ≡ es ++ h.entry ∷ [] = ap (λ (z : Kept). z.entries) h.applied.appended in
    let at : n - 1 ≡ length es = (let number : h.entry.number ≡ length es + 1 = h.applied.number in omega arith) in
    let rest : drop (n - 1) (journals_in v h.replica) ≡ entry_of h.entry ∷ [] = ap (λ i. drop i (journals_in v h.replica)) at ∙ ap (λ (xs : List Entry). drop (length es) (entries_of xs)) more ∙ drop_before es h.entry in
    let kept : k ≡ replica_in v h.replica = is_k ∙ ap (replica_in v) is_r in
    gives ∙ ap (λ (z : Kept). receipts_after z.me (n - 1) (entries_of z.entries)) kept ∙ ap (receipts_by h.replica (journals_in v h.replica)) rest ∙ append-nil (receipts_of h.replica (journals_in v h.replica) (entry_of h.entry))

-- the last step is the event's
pub last_step : (w v : Played) (event : WorldEvent) (h : Happens w event v) (steps : List (ℕ × ℕ)) (p : ℕ × ℕ) → steps ≡ v.steps → p ≡ get_or steps (length steps - 1) p → p ≡ (h.replica, h.entry.number)
last_step w v event h steps p same at =
    let is : steps ≡ w.steps ++ (h.replica, h.entry.number) ∷ [] = same ∙ ap (λ (u : Played). u.steps) h.becomes in
    let n : length w.steps ≡ length steps - 1 = (let l : length steps ≡ length w.steps + 1 = ap length is ∙ length-append w.steps ((h.replica, h.entry.number) ∷ []) in omega arith) in
    at ∙ ap (λ (xs : List (ℕ × ℕ)). get_or xs (length steps - 1) p) is ∙ get_or_push w.steps (h.replica, h.entry.number) p (length steps - 1) n

-- What a message makes a replica do.

was_handled : (o : Option (List ℕ)) (r : ℕ) (t : Happening) → given o ≡ Some (r, t) → (b : List ℕ) × (t ≡ Handle b)
was_handled None r t h = absurd cc
was_handled (Some b) r t h =
    let same : ((frame_at b).sent.to, Handle b) ≡ (r, t) = cc in
    (b, sym (ap (λ (p : ℕ × Happening). p.1) same))

executes_nothing : (s : State) (t : Happening) (b : List ℕ) (done : List (ℕ × Answer)) → t ≡ Handle b → Executes s (event_of t) done → done ≡ []
executes_nothing s t b done is ran = subst (λ (u : Happening). Executes s (event_of u) done) is ran

-- a delivery executes nothing
pub no_receipts : (w v : Played) (message : ℕ) (h : Happens w (Deliver message) v) → receipts_of h.replica (journals_in v h.replica) (entry_of h.entry) ≡ []
no_receipts w v message h =
    let handled = was_handled (message_in w message) h.replica h.taken h.asked in
    let nothing : h.entry.done ≡ [] = executes_nothing (standing (replica_in w h.replica)).state h.entry.event handled.0 h.entry.done (h.applied.event ∙ handled.1) h.applied.step.step.executes in
    ap (receipts_for h.replica (journals_in v h.replica) (entry_of h.entry)) nothing

pub own_here : (v : Played) (r : ℕ) (k : Kept) (rs : List Receipt) → k ≡ replica_in v r → ((t : Receipt) → In t rs → IsOwn (opens k.opening) k.faults k.me (entries_of k.entries) t) → AreOwn v rs
own_here v r k rs is own t h = (r, subst (λ (z : Kept). IsOwn (opens z.opening) z.faults z.me (entries_of z.entries) t) is (own t h))

-- Receipts stay own.

-- a world's replica has what it had, and more
with_more : (es : List (List Entry)) (r : ℕ) (e : Entry) (q : ℕ) → (more : List Entry) × (get_or (with_entry es r e) q [] ≡ get_or es q [] ++ more)
with_more [] r e q = ([], refl)
with_more (xs ∷ es) zero e zero = (e ∷ [], refl)
with_more (xs ∷ es) zero e (suc q) = ([], sym (append-nil (get_or es q [])))
with_more (xs ∷ es) (suc r) e zero = ([], sym (append-nil xs))
with_more (xs ∷ es) (suc r) e (suc q) = with_more es r e q

pub own_still : (w v : Played) (event : WorldEvent) (ts : List Receipt) → Happens w event v → AreOwn w ts → AreOwn v ts
own_still w v event ts h own t in_ts = subst (λ (u : Played). (r : ℕ) × IsOwn (opens u.opening) u.faults r (journals_in u r) t) (sym h.becomes) (
    let o = own t in_ts in
    let more = with_more w.entries h.replica h.entry o.0 in
    (o.0, subst (λ (es : List rules.Entry). IsOwn (opens w.opening) w.faults o.0 es t) (sym (ap entries_of more.1 ∙ entries_append (entries_in w o.0) more.0)) (own_stays_lem (opens w.opening) w.faults o.0 (journals_in w o.0) (entries_of more.0) t o.1)))

pub own_all : (v : Played) (ts us : List Receipt) → AreOwn v ts → AreOwn v us → AreOwn v (ts ++ us)
own_all v ts us a b t h = elim (in_split t ts us h) [ inl before ↦ a t before | inr after ↦ b t after ]
