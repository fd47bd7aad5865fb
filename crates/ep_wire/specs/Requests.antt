-- The bytes of requests, in the dialect of the node that is asked: a length, a kind, and a body, of which nothing may be left. Where all bytes of the length
-- came, there is a request, which is malformed where kind or body is that of none; it is reported by the first field at fault, in their order.
use Rattle.std.specs.Prelude.{◌≡◌, ℕ, ◌+◌, ◌-◌, ◌*◌, ◌||◌, ◌&&◌, leb, Bool, true, false, cond, eqb, ltb, get_or, List, [], ◌∷◌, length, Option, Some, None, Result, Ok, Err, IsErr}
use Rattle.ep_base.specs.Attributes.{same_list}
use Rattle.ep_base.specs.Quorums.{size}
use Rattle.ep_base.specs.Versions.{most_frame}
use Rattle.ep_base.specs.declared.version.Version.{Version}
use Rattle.ep_base.specs.declared.version_kind.VersionKind.TheVariants.{V1, V2, V3}
use Rattle.ep_bundle.specs.Journals.{ended}
use Rattle.ep_bundle.specs.Reading.{Left, Reading, and_then, bad, run, number, field, many, map_ok}
use Rattle.ep_bundle.specs.Stages.{instance, counted, command, spared}
use Rattle.ep_bundle.specs.declared.bundle_fault.BundleFault.{BundleFault}
use Rattle.ep_bundle.specs.declared.bundle_fault.BundleFault.TheVariants as bundle
use Rattle.ep_bundle.specs.declared.bundle_fault.BundleFault.TheVariants.{BadBundle, NotARun}
use Rattle.ep_bundle.specs.declared.bundle_field.BundleField.TheVariants as bundled
use Rattle.ep_bundle.specs.declared.wanted.Wanted.TheVariants.{Unsaid}
use Rattle.ep_frame.specs.Faults.{fault_of}
use Rattle.ep_frame.specs.declared.fault.FrameFault.{FrameFault}
use Rattle.ep_journal.specs.declared.event.Event.TheVariants as event
use Rattle.ep_bundle.specs.declared.journal_dialect.JournalDialect.{JournalDialect}
use Rattle.ep_wire.specs.declared.request_field.RequestField.{RequestField}
use Rattle.ep_wire.specs.declared.request_field.RequestField.TheVariants.{Kind, Client, ClientRequest, Seen, Op, KeyLength, ValueLength, Key, Value, Replica, Number, Rest, FirstLength, SecondLength, BodyLength, FirstKey, SecondKey, Body, After, Most, Spared, Count, Found}
use Rattle.ep_wire.specs.declared.request.Request.{Request}
use Rattle.ep_wire.specs.declared.request.Request.TheVariants.{Event, BadFrame, Advance, Get, NextOpen, Leads, Sync, State, ExecuteAll, Ready, Handled, Interfering, Read, Malformed}
use Rattle.ep_wire.specs.declared.request_fault.RequestFault.{RequestFault}
use Rattle.ep_wire.specs.declared.request_fault.RequestFault.TheVariants.{Memory, ReadFailed, BadRequest}

-- a body, which begins at the sixth byte of its request
abbrev pub whole : List ℕ → Left
whole bs = record { at = 5; bytes = bs }

-- what is read of a body, of which nothing may be left
abbrev pub alone : {A : Type 0} → Reading A → Reading A
alone o = and_then o (λ a l. and_then (ended l) (λ x m. Ok (a, m)))

-- where the field at fault begins
abbrev pub place_of : BundleFault → ℕ
place_of (BadBundle field) = field.at
-- no reading of a body ends so
place_of bundle.Memory = 0
place_of bundle.ReadFailed = 0
place_of (NotARun replica entry) = 0

-- what a reading gives, or where in the request the first field begins that is at fault
abbrev pub given : {A : Type 0} → Reading A → Result A ℕ
given (Ok p) = Ok p.0
given (Err e) = Err (place_of e)

-- a proposal, as it stands in a bundle of the version, which names this replica to be spared, or none
abbrev pub proposal : Version → Option ℕ → Left → Reading Request
proposal v named l =
    and_then (counted bundled.Client l) (λ client l. and_then (counted bundled.Request l) (λ request l. and_then (number bundled.Seen 8 l) (λ seen l. and_then (command v l) (λ c l. Ok (Event (event.Propose client request c seen named), l)))))

-- the replica that a proposal of the node's spares, and then the proposal
abbrev pub sparing : JournalDialect → Left → Reading Request
sparing how l = and_then (spared (size how.size) how.me l) (λ r l. proposal how.version (Some r) l)

-- a peer's bytes: the frame that they are is to be handled
abbrev pub framed : Result (Unit {0}) FrameFault → List ℕ → Request
framed (Ok x) bs = Event (event.Handle bs)
framed (Err fault) bs = BadFrame

-- the requests that have no body
abbrev pub bare : Request → List ℕ → Result Request ℕ
bare r bs = cond (eqb (length bs) 0) (Ok r) (Err 5)

abbrev pub about : ℕ → ℕ → Request
about kind i = cond (eqb kind 3) (Event (event.GiveUp i)) (cond (eqb kind 4) (Event (event.Recover i)) (cond (eqb kind 5) (Event (event.Execute i)) (Leads i)))

-- an instance alone
abbrev pub named : JournalDialect → List ℕ → Result ℕ ℕ
named how bs = given (alone (instance how.version (size how.size) (whole bs)))

-- what is asked of a key alone
abbrev pub of_key : ℕ → List ℕ → Request
of_key kind k = cond (eqb kind 7) (Get k) (Interfering k)

abbrev pub key : (List ℕ → Request) → List ℕ → Result Request ℕ
key asked bs = cond (eqb (length bs) 0 || ltb 255 (length bs)) (Err 5) (Ok (asked bs))

-- three zero bytes are no instance
abbrev pub next_open : JournalDialect → List ℕ → Result Request ℕ
next_open how bs = cond (same_list bs (0 ∷ 0 ∷ 0 ∷ [])) (Ok (NextOpen None)) (map_ok (λ i. NextOpen (Some i)) (named how bs))

-- how many entries were reported before, and how many open instances are asked for at most
abbrev pub ready : Left → Reading Request
ready l = and_then (field bundled.Other 4 0 4294967295 l) (λ after l. and_then (field bundled.Other 1 0 255 l) (λ most l. Ok (Ready after most, l)))

-- a byte of a body, 0 where it isn't there
abbrev pub byte_at : List ℕ → ℕ → ℕ
byte_at bs i = get_or bs i 0

-- a replica of the cluster alone
abbrev pub handled : JournalDialect → List ℕ → Result Request ℕ
handled how bs =
    cond (eqb (length bs) 0 || leb (size how.size) (byte_at bs 0)) (Err 5)
    (cond (eqb (length bs) 1) (Ok (Handled (byte_at bs 0)))
    (Err 6))

-- a key, with its length before it
abbrev pub key_field : Left → Reading (List ℕ)
key_field l = and_then (field bundled.Other 1 1 255 l) (λ n l. and_then (run bundled.Other n l) (λ k l. Ok (k, l)))

-- instances, with their count before them: at most as many as a cluster has
abbrev pub found : JournalDialect → Left → Reading (List ℕ)
found how l = and_then (field bundled.Other 4 0 63000 l) (λ n l. many (instance how.version (size how.size)) n [] l)

-- a key that is read, and what all looks together found
abbrev pub read : JournalDialect → Left → Reading Request
read how l = and_then (key_field l) (λ k l. and_then (found how l) (λ is l. Ok (Read k is, l)))

-- there is such a kind: 14, by which a proposal names the replica that it spares, and those of reads that write nothing, 16 and 17, in version 3 alone
abbrev pub is_kind : Version → ℕ → Bool
is_kind V1 kind = leb 1 kind && leb kind 13 || eqb kind 15
is_kind V2 kind = leb 1 kind && leb kind 13 || eqb kind 15
is_kind (V3 g) kind = leb 1 kind && leb kind 17

-- the request of such a kind with this body, or where the first field begins that is at fault
abbrev pub body_of : JournalDialect → ℕ → List ℕ → Result Request ℕ
body_of how kind bs =
    cond (eqb kind 1) (given (alone (proposal how.version None (whole bs))))
    (cond (eqb kind 2) (Ok (framed (fault_of bs) bs))
    (cond (eqb kind 6) (bare Advance bs)
    (cond (eqb kind 7) (key (of_key kind) bs)
    (cond (eqb kind 8) (next_open how bs)
    (cond (eqb kind 10) (bare Sync bs)
    (cond (eqb kind 11) (bare State bs)
    (cond (eqb kind 12) (bare ExecuteAll bs)
    (cond (eqb kind 13) (given (alone (ready (whole bs))))
    (cond (eqb kind 14) (given (alone (sparing how (whole bs))))
    (cond (eqb kind 15) (handled how bs)
    (cond (eqb kind 16) (key (of_key kind) bs)
    (cond (eqb kind 17) (given (alone (read how (whole bs))))
    (map_ok (about kind) (named how bs))))))))))))))

-- Fields, each with the place behind it: the one in which this place is, or what stands behind them.
abbrev pub field_in : List (RequestField × ℕ) → ℕ → RequestField
field_in [] at = Rest
field_in (f ∷ fs) at = cond (ltb at f.1) f.0 (field_in fs at)

-- of a proposal of version 1 or 2 with so many bytes of key and of value
abbrev pub early_fields : ℕ → ℕ → List (RequestField × ℕ)
early_fields k n = (Client, 9) ∷ (ClientRequest, 13) ∷ (Seen, 21) ∷ (Op, 22) ∷ (KeyLength, 23) ∷ (ValueLength, 25) ∷ (Key, 25 + k) ∷ (Value, 25 + k + n) ∷ []

-- of one of version 3, which begins here, with so many bytes of both keys and of the body
abbrev pub late_fields : ℕ → ℕ → ℕ → ℕ → List (RequestField × ℕ)
late_fields from k m n =
    (Client, from + 4) ∷ (ClientRequest, from + 8) ∷ (Seen, from + 16) ∷ (Op, from + 17) ∷ (FirstLength, from + 18) ∷ (SecondLength, from + 19) ∷ (BodyLength, from + 23)
    ∷ (FirstKey, from + 23 + k) ∷ (SecondKey, from + 23 + k + m) ∷ (Body, from + 23 + k + m + n) ∷ []

abbrev pub instance_fields : List (RequestField × ℕ)
instance_fields = (Replica, 6) ∷ (Number, 8) ∷ []

-- two bytes of a body as a number, and four
abbrev pub two_at : List ℕ → ℕ → ℕ
two_at bs i = 256 * byte_at bs i + byte_at bs (i + 1)

abbrev pub four_at : List ℕ → ℕ → ℕ
four_at bs i = 65536 * two_at bs i + two_at bs (i + 2)

-- of a body in which one of version 3 begins at this place of the request
abbrev pub late_fields_in : ℕ → List ℕ → List (RequestField × ℕ)
late_fields_in from bs = late_fields from (byte_at bs (from + 12)) (byte_at bs (from + 13)) (four_at bs (from + 14))

abbrev pub proposal_fields : Version → List ℕ → List (RequestField × ℕ)
proposal_fields V1 bs = early_fields (byte_at bs 17) (two_at bs 18)
proposal_fields V2 bs = early_fields (byte_at bs 17) (two_at bs 18)
proposal_fields (V3 g) bs = late_fields_in 5 bs

abbrev pub sparing_fields : List ℕ → List (RequestField × ℕ)
sparing_fields bs = (Spared, 6) ∷ late_fields_in 6 bs

abbrev pub ready_fields : List (RequestField × ℕ)
ready_fields = (After, 9) ∷ (Most, 10) ∷ []

abbrev pub handled_fields : List (RequestField × ℕ)
handled_fields = (Replica, 6) ∷ []

-- of a read, with so many bytes of key and so many instances
abbrev pub read_fields : ℕ → ℕ → List (RequestField × ℕ)
read_fields k n = (KeyLength, 6) ∷ (Key, 6 + k) ∷ (Count, 10 + k) ∷ (Found, 10 + k + 3 * n) ∷ []

abbrev pub read_fields_in : List ℕ → List (RequestField × ℕ)
read_fields_in bs = read_fields (byte_at bs 0) (four_at bs (1 + byte_at bs 0))

-- the kinds that have no body, of 1 to 12
abbrev pub is_bare : ℕ → Bool
is_bare kind = eqb kind 6 || leb 10 kind

-- of a body of this kind
abbrev pub fields_of : Version → ℕ → List ℕ → List (RequestField × ℕ)
fields_of v kind bs =
    cond (eqb kind 1) (proposal_fields v bs)
    (cond (eqb kind 7 || eqb kind 16) ((Key, 260) ∷ [])
    (cond (eqb kind 13) ready_fields
    (cond (eqb kind 14) (sparing_fields bs)
    (cond (eqb kind 15) handled_fields
    (cond (eqb kind 17) (read_fields_in bs)
    (cond (is_bare kind) []
    instance_fields))))))

-- what it is, or that it is malformed, with the field that begins there
abbrev pub or_malformed : Version → ℕ → List ℕ → Result Request ℕ → Request
or_malformed v kind bs (Ok r) = r
or_malformed v kind bs (Err at) = Malformed (record { field = field_in (fields_of v kind bs) at; at = at })

-- the request of this kind with this body
abbrev pub request_of : JournalDialect → ℕ → List ℕ → Request
request_of how kind bs = cond (is_kind how.version kind) (or_malformed how.version kind bs (body_of how kind bs)) (Malformed (record { field = Kind; at = 4 }))

-- the kind and the body, in so many bytes
abbrev pub sized : JournalDialect → ℕ → Left → Reading Request
sized how len l = and_then (field bundled.Other 1 0 255 l) (λ kind l. and_then (run bundled.Other (len - 1) l) (λ bs l. Ok (request_of how kind bs, l)))

-- in version 3 its kind, and the longest frame
abbrev pub most_length : Version → ℕ
most_length V1 = 66000
most_length V2 = 66000
most_length (V3 g) = most_frame (V3 g) + 1

abbrev pub is_length : Version → ℕ → Bool
is_length v x = leb 1 x && leb x (most_length v)

-- the length of what follows
abbrev pub size_field : Version → Left → Reading ℕ
size_field v l = and_then (number bundled.Other 4 l) (λ x m. cond (is_length v x) (Ok (x, m)) (Err (bad bundled.Other 4 Unsaid l)))

abbrev pub request : JournalDialect → Left → Reading Request
request how l = and_then (size_field how.version l) (sized how)

abbrev pub some : {A : Type 0} → Reading A → Reading (Option A)
some o = and_then o (λ a l. Ok (Some a, l))

abbrev pub unless_over : {A : Type 0} → Left → Reading A → Reading (Option A)
unless_over l o = cond (eqb (length l.bytes) 0) (Ok (None, l)) (some o)

-- the next request, unless the input is over
abbrev pub next_request : JournalDialect → Left → Reading (Option Request)
next_request how l = unless_over l (request how l)

-- What a call answers, the place at which it leaves off, and the bytes that its source then has left: it is the next request, or none where the
-- input is over; or its length is out of range or its bytes are cut, which is reported at its first byte; or the source or memory failed.
abbrev pub ReadsRequest : JournalDialect → Left → Result (Option Request) RequestFault → ℕ → Option (List ℕ) → Type 0
ReadsRequest how l (Ok next) place left = (bytes : List ℕ) × (left ≡ Some bytes) × (next_request how l ≡ Ok (next, record { at = place; bytes = bytes }))
ReadsRequest how l (Err Memory) place left = Unit {0}
ReadsRequest how l (Err ReadFailed) place left = Unit {0}
ReadsRequest how l (Err (BadRequest at)) place left = (at ≡ l.at) × IsErr (next_request how l)

-- the source's own fault
abbrev pub is_read_failed : RequestFault → Bool
is_read_failed Memory = false
is_read_failed ReadFailed = true
is_read_failed (BadRequest at) = false
