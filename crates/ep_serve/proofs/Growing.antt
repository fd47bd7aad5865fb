-- What a replica takes, it has behind what it had.
use Rattle.std.proofs.Common.{◌≡◌, ℕ, zero, suc, ◌≤◌, length, take, List, [], ◌∷◌, ◌++◌, append-nil, append_assoc, inl, inr, sym, ◌∙◌, subst}
use Rattle.std.proofs.lemmas.List.{take-append-le}
use Rattle.ep_bundle.specs.Reading.{Left}
use Rattle.ep_journal.specs.declared.entry.Entry.{Entry}
use Rattle.ep_journal.specs.declared.event.Event.{Event as Happening}
use Rattle.ep_journal.specs.declared.event.Event.TheVariants as event
use Rattle.ep_node.specs.Nodes.{Takes}
use Rattle.ep_replica.specs.Kept.{Kept}
use Rattle.ep_serve.specs.Acting.{Acts, ExecutesEach, ExecutesSo, TakesOrRefuses}
use Rattle.ep_serve.specs.Serving.{AllWait, AreServed, IsBatch, Waiting}
use Rattle.ep_serve.specs.Lasting.{Crashes}
use Rattle.ep_serve.specs.declared.pending_answer.PendingAnswer.{PendingAnswer}
use Rattle.ep_serve.specs.declared.pending_answer.PendingAnswer.TheVariants.{Taken, Refused, Value, Open, Leads, Synced, State, Ready, Handled, Interfering, Read, Malformed}
use Rattle.ep_serve.specs.declared.mode.Mode.{Mode}
use Rattle.ep_bundle.specs.declared.journal_dialect.JournalDialect.{JournalDialect}
use Rattle.ep_wire.specs.declared.request.Request.{Request}
use Rattle.ep_wire.specs.declared.request.Request.TheVariants as request

abbrev pub Extends : Kept → Kept → Type 0
Extends k k' = (more : List Entry) × (k' ≡ record k { entries = k.entries ++ more })

pub extends_same : (k k' : Kept) → k' ≡ k → Extends k k'
extends_same k k' is = ([], is ∙ (λ t. record k { entries = sym (append-nil k.entries) t }))

pub extends_more : (k m k' : Kept) → Extends k m → Extends m k' → Extends k k'
extends_more k m k' a b =
    let from : k' ≡ record k { entries = (k.entries ++ a.0) ++ b.0 } = subst (λ (x : Kept). k' ≡ record x { entries = x.entries ++ b.0 }) a.1 b.1 in
    (a.0 ++ b.0, from ∙ (λ t. record k { entries = append_assoc k.entries a.0 b.0 t }))

takes_more : (k k' : Kept) (e : Happening) → Takes k e k' → Extends k k'
takes_more k k' e h = (h.0 ∷ [], h.1.appended)

takes_or_not : (k k' : Kept) (e : Happening) (d : PendingAnswer) → TakesOrRefuses k e d k' → Extends k k'
takes_or_not k k' e (Taken from count) h = takes_more k k' e h.2
takes_or_not k k' e (Refused r) h = extends_same k k' h.1
takes_or_not k k' e (Value key) h = absurd h
takes_or_not k k' e (Open after) h = absurd h
takes_or_not k k' e (Leads i) h = absurd h
takes_or_not k k' e Synced h = absurd h
takes_or_not k k' e State h = absurd h
takes_or_not k k' e (Ready after most) h = absurd h
takes_or_not k k' e (Handled r) h = absurd h
takes_or_not k k' e (Interfering key) h = absurd h
takes_or_not k k' e (Read key found) h = absurd h
takes_or_not k k' e (Malformed m) h = absurd h

executes : (n : ℕ) (k k' : Kept) → ExecutesSo n k k' → Extends k k'
executes zero k k' h = extends_same k k' h
executes (suc n) k k' h = extends_more k h.0 k' (executes n k h.0 h.1) (h.2.2.0 ∷ [], h.2.2.1.appended)

executes_each : (k k' : Kept) (is : List ℕ) → ExecutesEach k is k' → Extends k k'
executes_each k k' [] h = extends_same k k' h
executes_each k k' (i ∷ is) h = extends_more k h.0 k' (takes_more k h.0 (event.Execute i) h.2) (executes_each h.0 k' is h.3)

pub acts_more : (k k' : Kept) (r : Request) (d : PendingAnswer) → Acts k r d k' → Extends k k'
acts_more k k' (request.Event e) d h = elim h [
  | inl far ↦ extends_same k k' far.2
  | inr near ↦ takes_or_not k k' e d near.1
]
acts_more k k' request.BadFrame d h = extends_same k k' h.1
acts_more k k' request.Advance d h = executes h.0 k k' h.1
acts_more k k' (request.Get key) d h = extends_same k k' h.1
acts_more k k' (request.NextOpen after) d h = extends_same k k' h.1
acts_more k k' (request.Leads i) d h = extends_same k k' h.1
acts_more k k' request.Sync d h = extends_same k k' h.1
acts_more k k' request.State d h = extends_same k k' h.1
acts_more k k' request.ExecuteAll d h = executes_each k k' h.0 h.1
acts_more k k' (request.Ready after most) d h = extends_same k k' h.1
acts_more k k' (request.Handled r) d h = extends_same k k' h.1
acts_more k k' (request.Interfering key) d h = extends_same k k' h.1
acts_more k k' (request.Read key found) d h = extends_same k k' h.1
acts_more k k' (request.Malformed m) d h = extends_same k k' h.1

wait_more : (mode : Mode) (n : ℕ) (k k' : Kept) (rs : List Request) (ds : List PendingAnswer) → AllWait mode n k rs ds k' → Extends k k'
wait_more mode n k k' [] ds h = extends_same k k' h.1
wait_more mode n k k' (r ∷ rs) ds h = extends_more k h.2 k' (acts_more k h.2 r h.0 h.3) (wait_more mode n h.2 k' rs h.1 h.5)

pub waiting_more : (mode : Mode) (how : JournalDialect) (k k' : Kept) (l l' : Left) (ds : List PendingAnswer) → Waiting mode how k l ds k' l' → Extends k k'
waiting_more mode how k k' l l' ds w = wait_more mode (length k.entries) k k' w.requests ds w.acted

batch_more : (mode : Mode) (how : JournalDialect) (k k' : Kept) (l l' : Left) (out : List ℕ) → IsBatch mode how k l out k' l' → Extends k k'
batch_more mode how k k' l l' out b = extends_more k b.before k' (waiting_more mode how k b.before l b.from b.dues b.waiting) (acts_more b.before k' b.last b.due b.acted)

pub served_more_entries : (b : ℕ) (mode : Mode) (how : JournalDialect) (w : Crashes) (k k' : Kept) (l l' : Left) (out : List ℕ) → AreServed b mode how w k l out k' l' → Extends k k'
served_more_entries zero mode how w k k' l l' out h = extends_same k k' h.1
served_more_entries (suc b) mode how w k k' l l' out h = extends_more k h.2 k' (batch_more mode how k h.2 l h.3 h.0 h.4) (served_more_entries b mode how w h.2 k' h.3 l' h.1 h.6)

-- The first entries of what was extended are those that there were.
pub first_of : (k k' : Kept) (n : ℕ) → n ≤ length k.entries → Extends k k' → take n k'.entries ≡ take n k.entries
first_of k k' n le h = subst (λ (x : Kept). take n x.entries ≡ take n k.entries) (sym h.1) (take-append-le n k.entries h.0 le)
