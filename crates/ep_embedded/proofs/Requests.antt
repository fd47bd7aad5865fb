-- Which bytes are a request, and what it may leave undone.
use Rattle.std.proofs.Common.{◌≡◌, ◌⊎◌, ℕ, true, false, List, [], Bool, Option, Some, None, Result, Ok, Err, inl, inr, refl, sym, ap, ◌∙◌, subst}
use Rattle.std.specs.Prelude.{IsErr, IfOk, IfErr}
use Rattle.std.proofs.lemmas.Bool.{false≢true}
use Rattle.ep_bundle.specs.Reading.{Reading}
use Rattle.ep_device.specs.declared.host_device.HostDevice.{HostDevice}
use Rattle.ep_node.specs.Nodes.{Logged}
use Rattle.ep_serve.specs.Acting.{IsUndone, StopsShort}
use Rattle.ep_serve.specs.Serving.{dialect_of}
use Rattle.ep_wire.specs.Requests.{next_request, ReadsRequest}
use Rattle.ep_bundle.specs.declared.journal_dialect.JournalDialect.{JournalDialect}
use Rattle.ep_wire.specs.declared.request.Request.{Request}
use Rattle.ep_wire.specs.declared.request.Request.TheVariants as request
use Rattle.ep_wire.specs.declared.request_fault.RequestFault.{RequestFault}
use Rattle.ep_wire.specs.declared.request_fault.RequestFault.TheVariants as wire
use Rattle.ep_embedded.specs.Asking.{IsRequest, IsUnasked, IsUnread}
use Rattle.ep_embedded.specs.Faults.{of_request}
use Rattle.ep_embedded.specs.Hosting.{Hosting}
use Rattle.ep_embedded.specs.declared.ask_fault.AskFault.{AskFault}
use Rattle.ep_embedded.specs.declared.ask_fault.AskFault.TheVariants.{Lent, Memory, NotOne}

-- what is left behind what was read
abbrev rest_of : Reading (Option Request) → List ℕ
rest_of (Ok p) = p.1.bytes
rest_of (Err fault) = []

abbrev found_of : Reading (Option Request) → Option Request
found_of (Ok p) = p.0
found_of (Err fault) = None

-- a request is all that the bytes are
pub is_one : (how : JournalDialect) (zs rest : List ℕ) (place : ℕ) (found : Option Request) (is_over : Bool) (result : Result Request AskFault) → next_request how (record { at = 0; bytes = zs }) ≡ Ok (found, record { at = place; bytes = rest }) → (is_over ≡ true → rest ≡ [])
    → IfOk result (λ r. (found ≡ Some r) × (is_over ≡ true)) → IfOk result (IsRequest how zs)
is_one how zs rest place found is_over (Ok r) read over so = record {
  after = record { at = place; bytes = rest };
  read = read ∙ ap (λ (x : Option Request). Ok (x, record { at = place; bytes = rest })) so.0;
  whole = over so.1;
}
is_one how zs rest place found is_over (Err fault) read over so = tt

-- or some bytes are left, or none are there
none_in : (how : JournalDialect) (zs rest : List ℕ) (place : ℕ) (found : Option Request) (is_over : Bool) (other : Request) → next_request how (record { at = 0; bytes = zs }) ≡ Ok (found, record { at = place; bytes = rest }) → (is_over ≡ false → ¬ (rest ≡ []))
    → (found ≡ None) ⊎ (is_over ≡ false) → ¬ IsRequest how zs other
none_in how zs rest place found is_over other read more (inl none) one = absurd (let e : None ≡ Some other = sym none ∙ ap found_of (sym read ∙ one.read) in cc)
none_in how zs rest place found is_over other read more (inr left) one = more left (ap rest_of (sym read ∙ one.read) ∙ one.whole)

pub is_none : (how : JournalDialect) (zs rest : List ℕ) (place : ℕ) (found : Option Request) (is_over : Bool) (result : Result Request AskFault) → next_request how (record { at = 0; bytes = zs }) ≡ Ok (found, record { at = place; bytes = rest }) → (is_over ≡ false → ¬ (rest ≡ []))
    → IfErr result (λ fault. (fault ≡ NotOne) × ((found ≡ None) ⊎ (is_over ≡ false))) → IfErr result (IsUnread how zs)
is_none how zs rest place found is_over (Ok r) read more so = tt
is_none how zs rest place found is_over (Err fault) read more so = subst (λ (f : AskFault). IsUnread how zs f) (sym so.0) (λ other. none_in how zs rest place found is_over other read more so.1)

failed : (read : Reading (Option Request)) (other : Request) → IsErr read → ¬ (found_of read ≡ Some other)
failed (Ok p) other err is = absurd (false≢true err)
failed (Err fault) other err is = absurd (let e : None ≡ Some other = is in cc)

-- they are cut, or their length is out of range, or memory runs out
pub is_bad : (how : JournalDialect) (zs : List ℕ) (fault : RequestFault) (reported : AskFault) (place : ℕ) (left : Option (List ℕ)) → reported ≡ of_request fault → ReadsRequest how (record { at = 0; bytes = zs }) (Err fault) place left → IsUnread how zs reported
is_bad how zs wire.Memory reported place left is read = subst (λ (f : AskFault). IsUnread how zs f) (sym is) tt
is_bad how zs wire.ReadFailed reported place left is read = subst (λ (f : AskFault). IsUnread how zs f) (sym is) tt
is_bad how zs (wire.BadRequest at) reported place left is read =
    subst (λ (f : AskFault). IsUnread how zs f) (sym is) (λ other one. failed (next_request how (record { at = 0; bytes = zs })) other read.1 (ap found_of one.read))

-- where its device works, it stopped when out of memory
pub swept : (n n' : Logged HostDevice) → n.closed ≡ false → IsUndone n request.ExecuteAll n' → StopsShort n.replica n'.replica
swept n n' works (inl over) = absurd (false≢true (sym works ∙ over.0))
swept n n' works (inr part) = part

-- why no request was read, and nothing has changed
pub unasked : (h : Hosting) (bytes : List ℕ) (fault : AskFault) → IsUnread (dialect_of h.node.replica) bytes fault → IsUnasked h bytes fault h
unasked h bytes Lent un = absurd un
unasked h bytes Memory un = inl refl
unasked h bytes NotOne un = (un, refl)
