-- What a node does by a request in bytes.
use Rattle.std.specs.Prelude.{◌≡◌, ◌⊎◌, ℕ, List, [], ◌∷◌, ◌++◌, false, Some, None, Ok}
use Rattle.ep_bundle.specs.Reading.{Left}
use Rattle.ep_serve.specs.Acting.{Acts, IsCutShort}
use Rattle.ep_serve.specs.Serving.{dialect_of}
use Rattle.ep_serve.specs.declared.pending_answer.PendingAnswer.{PendingAnswer}
use Rattle.ep_wire.specs.Requests.{next_request}
use Rattle.ep_bundle.specs.declared.journal_dialect.JournalDialect.{JournalDialect}
use Rattle.ep_wire.specs.declared.request.Request.{Request}
use Rattle.ep_embedded.specs.Hosting.{Hosting, with_replica}
use Rattle.ep_embedded.specs.Taking.{IsBusy}
use Rattle.ep_embedded.specs.declared.ask_fault.AskFault.{AskFault}
use Rattle.ep_embedded.specs.declared.ask_fault.AskFault.TheVariants.{Lent, Memory, NotOne}

-- the bytes are just this request
pub record IsRequest (how : JournalDialect) (bytes : List ℕ) (r : Request) : Type 0 where
  pub after : Left
  pub read : next_request how (record { at = 0; bytes = bytes }) ≡ Ok (Some r, after)
  pub whole : after.bytes ≡ []

-- why no request was read: out of memory; or the bytes aren't just one
abbrev pub IsUnread : JournalDialect → List ℕ → AskFault → Type 0
IsUnread how bytes Lent = ⊥
IsUnread how bytes Memory = Unit {0}
IsUnread how bytes NotOne = (r : Request) → ¬ IsRequest how bytes r

-- the bytes are a request, which acts, and its answer waits
pub record HasAsked (h : Hosting) (bytes : List ℕ) (h' : Hosting) : Type 0 where
  pub begun : h.is_anew ≡ false
  pub request : Request
  pub read : IsRequest (dialect_of h.node.replica) bytes request
  pub due : PendingAnswer
  pub acted : Acts h.node.replica request due h'.node.replica
  pub rest : h' ≡ record (with_replica h h'.node.replica) { dues = h.dues ++ due ∷ [] }

-- Of all that is ready, own or not, which the request executes, some were executed, each in its turn, and for the next one memory was wanted. No answer waits.
pub record IsPartly (h : Hosting) (bytes : List ℕ) (h' : Hosting) : Type 0 where
  pub request : Request
  pub read : IsRequest (dialect_of h.node.replica) bytes request
  pub part : IsCutShort h.node.replica request h'.node.replica
  pub rest : h' ≡ with_replica h h'.node.replica

-- why it wasn't done
abbrev pub IsUnasked : Hosting → List ℕ → AskFault → Hosting → Type 0
IsUnasked h bytes Lent h' = IsBusy h h'
IsUnasked h bytes Memory h' = (h' ≡ h) ⊎ IsPartly h bytes h'
IsUnasked h bytes NotOne h' = IsUnread (dialect_of h.node.replica) bytes NotOne × (h' ≡ h)
