-- What a node takes it has behind what it had.
use Rattle.std.proofs.Common.{◌≡◌, ◌⊎◌, ℕ, zero, suc, Bool, true, false, List, [], ◌∷◌, inl, inr, refl, sym, ap}
use Rattle.std.specs.Prelude.{Ok}
use Rattle.ep_device.specs.declared.host_device.HostDevice.{HostDevice}
use Rattle.ep_journal.specs.declared.event.Event.{Event as Happening}
use Rattle.ep_journal.specs.declared.event.Event.TheVariants.{Execute}
use Rattle.ep_node.specs.Nodes.{Logged}
use Rattle.ep_replica.specs.Kept.{Kept}
use Rattle.ep_replica.specs.Pending.{TriesNext}
use Rattle.ep_serve.specs.Acting.{Acts, ExecutesEach, ExecutesSo, IsPassedOver, IsUndone, TakesNear}
use Rattle.ep_serve.specs.declared.pending_answer.PendingAnswer.{PendingAnswer}
use Rattle.ep_serve.proofs.Growing.{Extends, acts_more, extends_more, extends_same}
use Rattle.ep_wire.specs.declared.request.Request.{Request}
use Rattle.ep_wire.specs.declared.request.Request.TheVariants as request
use Rattle.ep_embedded.specs.Hosting.{Grows}

grows : (k k' : Kept) → Extends k k' → Grows k k'
grows k k' e = record { more = e.0; is = e.1 }

pub grows_none : (k : Kept) → Grows k k
grows_none k = grows k k (extends_same k k refl)

pub grows_same : (n n' : Logged HostDevice) → n' ≡ n → Grows n.replica n'.replica
grows_same n n' is = grows n.replica n'.replica (extends_same n.replica n'.replica (ap (λ (x : Logged HostDevice). x.replica) is))

pub acts_grow : (k k' : Kept) (r : Request) (d : PendingAnswer) → Acts k r d k' → Grows k k'
acts_grow k k' r d h = grows k k' (acts_more k k' r d h)

pub takes_grow : (k k' : Kept) (event : Happening) (d : PendingAnswer) → TakesNear k event d k' → Grows k k'
takes_grow k k' event d h = acts_grow k k' (request.Event event) d h

executes : (n : ℕ) (k k' : Kept) → ExecutesSo n k k' → Extends k k'
executes zero k k' h = extends_same k k' h
executes (suc n) k k' h = extends_more k h.0 k' (executes n k h.0 h.1) (h.2.2.0 ∷ [], h.2.2.1.appended)

executes_each : (k k' : Kept) (is : List ℕ) → ExecutesEach k is k' → Extends k k'
executes_each k k' [] h = extends_same k k' h
executes_each k k' (i ∷ is) h = extends_more k h.0 k' (h.2.0 ∷ [], h.2.1.appended) (executes_each h.0 k' is h.3)

pub executes_grow : (n : ℕ) (k k' : Kept) → ExecutesSo n k k' → Grows k k'
executes_grow n k k' h = grows k k' (executes n k k' h)

pub tries_grow : (k k' : Kept) (executed : Bool) → TriesNext k (Ok executed) k' → Grows k k'
tries_grow k k' true h = grows k k' (h.2.0 ∷ [], h.2.1.appended)
tries_grow k k' false h = grows k k' (extends_same k k' h.1)

passed : (n n' : Logged HostDevice) → IsPassedOver n n' → Grows n.replica n'.replica
passed n n' p = grows_same n n' p.1

pub undone_grows : (n n' : Logged HostDevice) (r : Request) → IsUndone n r n' → Grows n.replica n'.replica
undone_grows n n' (request.Event event) h = passed n n' h
undone_grows n n' request.BadFrame h = absurd h
undone_grows n n' request.Advance (inl p) = passed n n' p
undone_grows n n' request.Advance (inr part) = executes_grow part.0 n.replica n'.replica part.1
undone_grows n n' (request.Get key) h = absurd h
undone_grows n n' (request.NextOpen after) h = absurd h
undone_grows n n' (request.Leads i) h = absurd h
undone_grows n n' request.Sync h = absurd h
undone_grows n n' request.State h = absurd h
undone_grows n n' request.ExecuteAll (inl p) = passed n n' p
undone_grows n n' request.ExecuteAll (inr part) = grows n.replica n'.replica (executes_each n.replica n'.replica part.0 part.1)
undone_grows n n' (request.Ready after most) h = absurd h
undone_grows n n' (request.Handled r) h = absurd h
undone_grows n n' (request.Interfering key) h = absurd h
undone_grows n n' (request.Read key found) h = absurd h
undone_grows n n' (request.Malformed m) h = absurd h
