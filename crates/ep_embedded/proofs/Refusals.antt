-- What came of an event.
use Rattle.std.proofs.Common.{◌≡◌, length, Some, None, inl, inr, refl, ap, ◌∙◌, subst}
use Rattle.std.specs.Prelude.{Result, Ok, Err, OnOk, IfErr}
use Rattle.ep_journal.specs.declared.event.Event.{Event as Happening}
use Rattle.ep_device.specs.declared.host_device.HostDevice.{HostDevice}
use Rattle.ep_node.specs.Nodes.{Logged}
use Rattle.ep_replica.specs.Kept.{Kept}
use Rattle.ep_serve.specs.Acting.{TakesNear}
use Rattle.ep_serve.specs.declared.pending_answer.PendingAnswer.{PendingAnswer}
use Rattle.ep_serve.specs.declared.pending_answer.PendingAnswer.TheVariants.{Taken, Refused, Value, Open, Leads, Synced, State, Ready, Handled, Interfering, Read, Malformed}
use Rattle.ep_journal.specs.declared.refusal.Refusal.{Refusal}
use Rattle.ep_embedded.specs.Taking.{refusal_of}

-- it was taken, where the answer is no refusal
taken : (k : Kept) (event : Happening) (due : PendingAnswer) (k' : Kept) → TakesNear k event due k' → refusal_of due ≡ None → TakesNear k event (Taken (length k.entries) 1) k'
taken k event (Taken from count) k' (inl far) none = absurd (let e = far.1 in cc)
taken k event (Taken from count) k' (inr near) none = inr (near.0, (refl, refl, near.1.2))
taken k event (Refused refusal) k' so none = absurd (let e : Some refusal ≡ None = none in cc)
taken k event (Value key) k' (inl far) none = absurd (let e = far.1 in cc)
taken k event (Value key) k' (inr near) none = absurd near.1
taken k event (Open after) k' (inl far) none = absurd (let e = far.1 in cc)
taken k event (Open after) k' (inr near) none = absurd near.1
taken k event (Leads i) k' (inl far) none = absurd (let e = far.1 in cc)
taken k event (Leads i) k' (inr near) none = absurd near.1
taken k event Synced k' (inl far) none = absurd (let e = far.1 in cc)
taken k event Synced k' (inr near) none = absurd near.1
taken k event State k' (inl far) none = absurd (let e = far.1 in cc)
taken k event State k' (inr near) none = absurd near.1
taken k event (Ready after most) k' (inl far) none = absurd (let e = far.1 in cc)
taken k event (Ready after most) k' (inr near) none = absurd near.1
taken k event (Handled r) k' (inl far) none = absurd (let e = far.1 in cc)
taken k event (Interfering key) k' (inl far) none = absurd (let e = far.1 in cc)
taken k event (Read key found) k' (inl far) none = absurd (let e = far.1 in cc)
taken k event (Handled r) k' (inr near) none = absurd near.1
taken k event (Interfering key) k' (inr near) none = absurd near.1
taken k event (Read key found) k' (inr near) none = absurd near.1
taken k event (Malformed m) k' (inl far) none = absurd (let e = far.1 in cc)
taken k event (Malformed m) k' (inr near) none = absurd near.1

-- the answer is the refusal, and then nothing has changed
refused : (k : Kept) (event : Happening) (due : PendingAnswer) (refusal : Refusal) (k' : Kept) → TakesNear k event due k' → refusal_of due ≡ Some refusal → TakesNear k event (Refused refusal) k × (k' ≡ k)
refused k event (Refused r) refusal k' (inl far) is =
    let same : r ≡ refusal = (let e : Some r ≡ Some refusal = is in cc) in
    (subst (λ (x : Refusal). TakesNear k event (Refused x) k) same (inl (far.0, far.1, refl)), far.2)
refused k event (Refused r) refusal k' (inr near) is =
    let same : r ≡ refusal = (let e : Some r ≡ Some refusal = is in cc) in
    (subst (λ (x : Refusal). TakesNear k event (Refused x) k) same (inr (near.0, (near.1.0, refl))), near.1.1)
refused k event (Taken from count) refusal k' so is = absurd (let e : None ≡ Some refusal = is in cc)
refused k event (Value key) refusal k' so is = absurd (let e : None ≡ Some refusal = is in cc)
refused k event (Open after) refusal k' so is = absurd (let e : None ≡ Some refusal = is in cc)
refused k event (Leads i) refusal k' so is = absurd (let e : None ≡ Some refusal = is in cc)
refused k event Synced refusal k' so is = absurd (let e : None ≡ Some refusal = is in cc)
refused k event State refusal k' so is = absurd (let e : None ≡ Some refusal = is in cc)
refused k event (Ready after most) refusal k' so is = absurd (let e : None ≡ Some refusal = is in cc)
refused k event (Handled r) refusal k' so is = absurd (let e : None ≡ Some refusal = is in cc)
refused k event (Interfering key) refusal k' so is = absurd (let e : None ≡ Some refusal = is in cc)
refused k event (Read key found) refusal k' so is = absurd (let e : None ≡ Some refusal = is in cc)
refused k event (Malformed m) refusal k' so is = absurd (let e : None ≡ Some refusal = is in cc)

pub taken_if : (k : Kept) (event : Happening) (due : PendingAnswer) (result : Result Unit Refusal) (k' : Kept) → TakesNear k event due k' → OnOk result (refusal_of due ≡ None) → OnOk result (TakesNear k event (Taken (length k.entries) 1) k')
taken_if k event due (Ok _) k' so none = taken k event due k' so none
taken_if k event due (Err refusal) k' so none = tt

pub refused_if : (n n' : Logged HostDevice) (event : Happening) (due : PendingAnswer) (result : Result Unit Refusal) → n' ≡ record n { replica = n'.replica } → TakesNear n.replica event due n'.replica → IfErr result (λ refusal. refusal_of due ≡ Some refusal)
    → IfErr result (λ refusal. TakesNear n.replica event (Refused refusal) n.replica × (n' ≡ n))
refused_if n n' event due (Ok _) rest so is = tt
refused_if n n' event due (Err refusal) rest so is =
    let was = refused n.replica event due refusal n'.replica so is in
    (was.0, rest ∙ ap (λ (k : Kept). record n { replica = k }) was.1)
