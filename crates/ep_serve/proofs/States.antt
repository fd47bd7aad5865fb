-- The loop, from one request to the next.
use Rattle.std.proofs.Common.{◌≡◌, ℕ, ◌≤◌, Bool, false, length, length-append, List, [], ◌∷◌, ◌++◌, Option, Some, Result, Ok, Err, inl, inr, refl, sym, ap, ◌∙◌, subst, arith}
use Rattle.std.specs.Prelude.{IsErrAnd, IsTrue, ◌↔◌}
use Rattle.std.proofs.lemmas.Bool.{false≢true}
use Rattle.ep_device.specs.Device.{LeavesOnly}
use Rattle.ep_node.specs.Nodes.{IsCut, IsQuiet, Logged}
use Rattle.ep_replica.specs.Kept.{Kept}
use Rattle.ep_bundle.specs.Reading.{Left}
use Rattle.ep_wire.specs.Requests.{next_request, ReadsRequest}
use Rattle.ep_bundle.specs.declared.journal_dialect.JournalDialect.{JournalDialect}
use Rattle.ep_wire.specs.declared.request.Request.{Request}
use Rattle.ep_serve.specs.Acting.{Acts}
use Rattle.ep_serve.specs.Answering.{AnswersEach}
use Rattle.ep_serve.specs.Lasting.{crashes, Crashes, GoesOn, IsKept, Lasts, StaysKnown}
use Rattle.ep_serve.specs.Serving.{DoesOne, Ends, IfSettled, IfUnwritten, InService, IsSilent, MayWait, ServesAll, Waits, dialect_of, is_sync}
use Rattle.ep_serve.specs.declared.pending_answer.PendingAnswer.{PendingAnswer}
use Rattle.ep_serve.specs.declared.mode.Mode.{Mode}
use Rattle.ep_serve.specs.declared.serve_fault.ServeFault.{ServeFault}
use Rattle.ep_serve.specs.declared.serve_fault.ServeFault.TheVariants.{Memory, ReadFailed, BadRequest, WriteFailed, LogFailed}
use Rattle.ep_serve.proofs.Growing.{Extends, acts_more, waiting_more}
use Rattle.ep_serve.proofs.Keeping.{lasts_first, lasts_now, passes, rests}
use Rattle.ep_serve.proofs.Runs.{all_served, begins, cut_short, one_is_written, one_waits, service_on}

-- what stands between two requests: those before are served, or wait, and the replica that reported the last batch is on the disk
pub record Stands {D : Type 0} (seen : D → Option (List ℕ)) (moment : D → ℕ) (left_since : D → ℕ → List ℕ → Type 0) (mode : Mode) (start node : Logged D) (zs : List ℕ) (old held : Option (List ℕ)) (place : ℕ) (left : Option (List ℕ)) (dues : List PendingAnswer) : Type 0 where
  pub ys : List ℕ
  pub left_is : left ≡ Some ys
  pub service : InService mode (dialect_of start.replica) (crashes start.digest seen moment left_since start.device node.device) start.replica (record { at = 0; bytes = zs }) old held node.replica (record { at = place; bytes = ys }) dues
  pub synced : node.synced ≡ length service.replica.entries

pub stands_first : {D : Type 0} (seen : D → Option (List ℕ)) (moment : D → ℕ) (left_since : D → ℕ → List ℕ → Type 0) (mode : Mode) (start : Logged D) (zs : List ℕ) (old left : Option (List ℕ)) (dues : List PendingAnswer) → IsQuiet start → left ≡ Some zs → dues ≡ []
    → ((bytes : List ℕ) → seen start.device ≡ Some bytes → LeavesOnly moment left_since start.device start.device (IsCut start start.synced)) → Stands seen moment left_since mode start start zs old old 0 left dues
stands_first seen moment left_since mode start zs old left dues quiet is none at_rest =
    subst (λ (x : List PendingAnswer). Stands seen moment left_since mode start start zs old old 0 left x) (sym none)
    (record {
      ys = zs;
      left_is = is;
      service = begins mode (dialect_of start.replica) (crashes start.digest seen moment left_since start.device start.device) start.replica (record { at = 0; bytes = zs }) old
          (lasts_first start.digest seen moment left_since start.device start.replica (rests start.digest seen moment left_since start start.device start.replica refl refl quiet (λ bytes was. (bytes, was)) at_rest));
      synced = quiet.synced;
    })

may_as : (mode : Mode) (a b : ℕ) (r : Request) (k : Kept) → a ≡ b → MayWait mode a r k → MayWait mode b r k
may_as mode a b r k same may = subst (λ (x : ℕ). MayWait mode x r k) same may

-- its answer waits
waits_on : {D : Type 0} (seen : D → Option (List ℕ)) (moment : D → ℕ) (left_since : D → ℕ → List ℕ → Type 0) (mode : Mode) (start node : Logged D) (k : Kept) (zs : List ℕ) (old held left : Option (List ℕ)) (p q : ℕ) (before : List PendingAnswer) (r : Request) (d : PendingAnswer) (xs : List ℕ)
    (s : Stands seen moment left_since mode start node zs old held p left before) → next_request (dialect_of start.replica) (record { at = p; bytes = s.ys }) ≡ Ok (Some r, record { at = q; bytes = xs }) → Acts node.replica r d k → MayWait mode node.synced r k
    → Stands seen moment left_since mode start (record node { replica = k }) zs old held q (Some xs) (before ++ d ∷ [])
waits_on seen moment left_since mode start node k zs old held left p q before r d xs s next acted may = record {
  ys = xs;
  left_is = refl;
  service = one_waits mode (dialect_of start.replica) (crashes start.digest seen moment left_since start.device node.device) start.replica node.replica k (record { at = 0; bytes = zs }) (record { at = p; bytes = s.ys }) (record { at = q; bytes = xs }) old held before r d s.service next acted
      (may_as mode node.synced (length s.service.replica.entries) r k s.synced may);
  synced = s.synced;
}

-- its answer is written, with all that waited
written_on : {D : Type 0} (seen : D → Option (List ℕ)) (moment : D → ℕ) (left_since : D → ℕ → List ℕ → Type 0) (mode : Mode) (start node node' : Logged D) (zs : List ℕ) (old held new left : Option (List ℕ)) (p q : ℕ) (before : List PendingAnswer) (r : Request) (d : PendingAnswer) (xs : List ℕ)
    (s : Stands seen moment left_since mode start node zs old held p left before) → node.digest ≡ start.digest → next_request (dialect_of start.replica) (record { at = p; bytes = s.ys }) ≡ Ok (Some r, record { at = q; bytes = xs }) → Acts node.replica r d node'.replica → ¬ MayWait mode node.synced r node'.replica
    → AnswersEach node'.replica (before ++ d ∷ []) held new → IsQuiet node' → IsKept node.digest seen moment left_since node.device node'.device node'.replica → GoesOn node.digest seen moment left_since node.device node'.device node.replica node.synced → StaysKnown seen start.device node.device
    → Stands seen moment left_since mode start node' zs old new q (Some xs) []
written_on seen moment left_since mode start node node' zs old held new left p q before r d xs s own next acted may reported quiet kept goes known =
    let stays : IsKept start.digest seen moment left_since node.device node'.device node'.replica = subst (λ (x : List ℕ). IsKept x seen moment left_since node.device node'.device node'.replica) own kept in
    let onward : GoesOn start.digest seen moment left_since node.device node'.device node.replica node.synced = subst (λ (x : List ℕ). GoesOn x seen moment left_since node.device node'.device node.replica node.synced) own goes in
    let how : JournalDialect = dialect_of start.replica in
    let w' : Crashes = crashes start.digest seen moment left_since start.device node'.device in
    let extends : Extends s.service.replica node.replica = waiting_more mode how s.service.replica node.replica s.service.from (record { at = p; bytes = s.ys }) before s.service.waiting in
    let moved : InService mode how w' start.replica (record { at = 0; bytes = zs }) old held node.replica (record { at = p; bytes = s.ys }) before =
    service_on mode how (crashes start.digest seen moment left_since start.device node.device) w' start.replica node.replica (record { at = 0; bytes = zs }) (record { at = p; bytes = s.ys }) old held before s.service
    (passes start.digest seen moment left_since start.device node.device node'.device node.replica s.service.replica node.synced known s.synced extends onward) in
    record {
      ys = xs;
      left_is = refl;
      service = one_is_written mode how w' start.replica node.replica node'.replica (record { at = 0; bytes = zs }) (record { at = p; bytes = s.ys }) (record { at = q; bytes = xs }) old held new before r d moved next acted
          (λ m. may (may_as mode (length s.service.replica.entries) node.synced r node'.replica (sym s.synced) m)) reported (lasts_now start.digest seen moment left_since start.device node.device node'.device node'.replica known stays);
      synced = quiet.synced;
    }

-- the request that was read, in the service's dialect
read_as : (how how' : JournalDialect) (l : Left) (found : Option Request) (r : Request) (q : ℕ) (left' : Option (List ℕ)) → how ≡ how' → (read : ReadsRequest how l (Ok found) q left') → found ≡ Some r → next_request how' l ≡ Ok (Some r, record { at = q; bytes = read.0 })
read_as how how' l found r q left' same read is =
    subst (λ (x : JournalDialect). next_request x l ≡ Ok (Some r, record { at = q; bytes = read.0 })) same (read.2 ∙ ap (λ (f : Option Request). Ok (f, record { at = q; bytes = read.0 })) is)

pub stands_next : {D : Type 0} (seen : D → Option (List ℕ)) (moment : D → ℕ) (left_since : D → ℕ → List ℕ → Type 0) (mode : Mode) (start node node' : Logged D) (zs : List ℕ) (old held new left left' : Option (List ℕ)) (p q : ℕ) (how : JournalDialect) (before after : List PendingAnswer) (found : Option Request) (r : Request)
    → (s : Stands seen moment left_since mode start node zs old held p left before) → node.digest ≡ start.digest → how ≡ dialect_of start.replica → ReadsRequest how (record { at = p; bytes = s.ys }) (Ok found) q left' → found ≡ Some r
    → (m : Mode) → m ≡ mode → Waits m node r before held node' after new (IsKept node.digest seen moment left_since node.device node'.device node'.replica) → GoesOn node.digest seen moment left_since node.device node'.device node.replica node.synced → StaysKnown seen start.device node.device
    → Stands seen moment left_since mode start node' zs old new q left' after
stands_next {D = D} seen moment left_since mode start node node' zs old held new left left' p q how before after found r s own same read is m mode_is w' goes known =
    let w : Waits mode node r before held node' after new (IsKept node.digest seen moment left_since node.device node'.device node'.replica) = subst (λ (x : Mode). Waits x node r before held node' after new (IsKept node.digest seen moment left_since node.device node'.device node'.replica)) mode_is w' in
    subst (λ (x : Option (List ℕ)). Stands seen moment left_since mode start node' zs old new q x after) (sym read.1) (elim w.2 [
      | inl a ↦
          subst (λ (x : Logged D). Stands seen moment left_since mode start x zs old new q (Some read.0) after) (sym a.3)
          (subst (λ (x : Option (List ℕ)). Stands seen moment left_since mode start (record node { replica = node'.replica }) zs old x q (Some read.0) after) (sym a.2)
          (subst (λ (x : List PendingAnswer). Stands seen moment left_since mode start (record node { replica = node'.replica }) zs old held q (Some read.0) x) (sym a.1)
          (waits_on seen moment left_since mode start node node'.replica zs old held left p q before r w.0 read.0 s (read_as how (dialect_of start.replica) (record { at = p; bytes = s.ys }) found r q left' same read is) w.1 a.0)))
      | inr a ↦
          subst (λ (x : List PendingAnswer). Stands seen moment left_since mode start node' zs old new q (Some read.0) x) (sym a.1)
          (written_on seen moment left_since mode start node node' zs old held new left p q before r w.0 read.0 s own (read_as how (dialect_of start.replica) (record { at = p; bytes = s.ys }) found r q left' same read is) w.1 a.0 a.2 a.3 a.4 goes known)
    ])

-- the service after a call that may have failed
pub goes_on_to : {D : Type 0} (seen : D → Option (List ℕ)) (moment : D → ℕ) (left_since : D → ℕ → List ℕ → Type 0) (mode : Mode) (start node node' : Logged D) (zs : List ℕ) (old held left : Option (List ℕ)) (p : ℕ) (before : List PendingAnswer)
    (s : Stands seen moment left_since mode start node zs old held p left before) → node.digest ≡ start.digest → GoesOn node.digest seen moment left_since node.device node'.device node.replica node.synced → StaysKnown seen start.device node.device
    → InService mode (dialect_of start.replica) (crashes start.digest seen moment left_since start.device node'.device) start.replica (record { at = 0; bytes = zs }) old held node.replica (record { at = p; bytes = s.ys }) before
goes_on_to seen moment left_since mode start node node' zs old held left p before s own goes known =
    let onward : GoesOn start.digest seen moment left_since node.device node'.device node.replica node.synced = subst (λ (x : List ℕ). GoesOn x seen moment left_since node.device node'.device node.replica node.synced) own goes in
    let how : JournalDialect = dialect_of start.replica in
    service_on mode how (crashes start.digest seen moment left_since start.device node.device) (crashes start.digest seen moment left_since start.device node'.device) start.replica node.replica (record { at = 0; bytes = zs }) (record { at = p; bytes = s.ys }) old held before s.service
    (passes start.digest seen moment left_since start.device node.device node'.device node.replica s.service.replica node.synced known s.synced (waiting_more mode how s.service.replica node.replica s.service.from (record { at = p; bytes = s.ys }) before s.service.waiting) onward)

pub unwritten_so : (e : ServeFault) (P : Type 0) → IfUnwritten (Err e) P → e ≡ WriteFailed → P
unwritten_so e P h is = subst (λ (x : ServeFault). IfUnwritten (Err x) P) is h

pub settled_so : (e : ServeFault) (P : Type 0) → IfSettled (Err e) P → e ≡ WriteFailed → P
settled_so e P h is = subst (λ (x : ServeFault). IfSettled (Err x) P) is h

-- a fault at a request
pub stopped : {D : Type 0} (seen : D → Option (List ℕ)) (moment : D → ℕ) (left_since : D → ℕ → List ℕ → Type 0) (mode : Mode) (start node node' : Logged D) (zs : List ℕ) (old held new left left' : Option (List ℕ)) (p q : ℕ) (how : JournalDialect) (before : List PendingAnswer) (found : Option Request) (asked : Request) (e : ServeFault) (r : Result Unit ServeFault)
    (s : Stands seen moment left_since mode start node zs old held p left before) → node.digest ≡ start.digest → how ≡ dialect_of start.replica → ReadsRequest how (record { at = p; bytes = s.ys }) (Ok found) q left' → found ≡ Some asked → DoesOne node.replica asked node'.replica → IsSilent e held new → IfUnwritten (Err e) (IsQuiet node' × IsKept node.digest seen moment left_since node.device node'.device node'.replica)
    → GoesOn node.digest seen moment left_since node.device node'.device node.replica node.synced → StaysKnown seen start.device node.device → IsErrAnd r (λ x. x ≡ e)
    → Ends mode (dialect_of start.replica) (crashes start.digest seen moment left_since start.device node'.device) start.replica (record { at = 0; bytes = zs }) old new r node'.replica
stopped seen moment left_since mode start node node' zs old held new left left' p q how before found asked e r s own same read is_asked done silent unwritten goes known is =
    cut_short mode (dialect_of start.replica) (crashes start.digest seen moment left_since start.device node'.device) start.replica node.replica node'.replica (record { at = 0; bytes = zs }) (record { at = p; bytes = s.ys }) old held new before r e
    (goes_on_to seen moment left_since mode start node node' zs old held left p before s own goes known) silent
    (inr (asked, record { at = q; bytes = read.0 }, read_as how (dialect_of start.replica) (record { at = p; bytes = s.ys }) found asked q left' same read is_asked, done))
    (λ failed. lasts_now start.digest seen moment left_since start.device node.device node'.device node'.replica known (subst (λ (x : List ℕ). IsKept x seen moment left_since node.device node'.device node'.replica) own (unwritten_so e (IsQuiet node' × IsKept node.digest seen moment left_since node.device node'.device node'.replica) unwritten failed).1)) is

-- a fault where all that waits was to be written
pub stopped_settling : {D : Type 0} (seen : D → Option (List ℕ)) (moment : D → ℕ) (left_since : D → ℕ → List ℕ → Type 0) (mode : Mode) (start node node' : Logged D) (zs : List ℕ) (old held new left : Option (List ℕ)) (p : ℕ) (before : List PendingAnswer) (e : ServeFault) (r : Result Unit ServeFault)
    (s : Stands seen moment left_since mode start node zs old held p left before) → node.digest ≡ start.digest → node'.replica ≡ node.replica → IsSilent e held new → IfSettled (Err e) (IsKept node.digest seen moment left_since node.device node'.device node.replica)
    → GoesOn node.digest seen moment left_since node.device node'.device node.replica node.synced → StaysKnown seen start.device node.device → IsErrAnd r (λ x. x ≡ e)
    → Ends mode (dialect_of start.replica) (crashes start.digest seen moment left_since start.device node'.device) start.replica (record { at = 0; bytes = zs }) old new r node'.replica
stopped_settling seen moment left_since mode start node node' zs old held new left p before e r s own same silent kept goes known is =
    cut_short mode (dialect_of start.replica) (crashes start.digest seen moment left_since start.device node'.device) start.replica node.replica node'.replica (record { at = 0; bytes = zs }) (record { at = p; bytes = s.ys }) old held new before r e
    (goes_on_to seen moment left_since mode start node node' zs old held left p before s own goes known) silent (inl same)
    (λ failed. subst (λ (x : Kept). Lasts (crashes start.digest seen moment left_since start.device node'.device) x) (sym same)
    (lasts_now start.digest seen moment left_since start.device node.device node'.device node.replica known (subst (λ (x : List ℕ). IsKept x seen moment left_since node.device node'.device node.replica) own (settled_so e (IsKept node.digest seen moment left_since node.device node'.device node.replica) kept failed)))) is

-- all that waited was written
pub all_settled : {D : Type 0} (seen : D → Option (List ℕ)) (moment : D → ℕ) (left_since : D → ℕ → List ℕ → Type 0) (mode : Mode) (start node node' : Logged D) (zs : List ℕ) (old held new left : Option (List ℕ)) (p : ℕ) (before after : List PendingAnswer)
    (s : Stands seen moment left_since mode start node zs old held p left before) → node.digest ≡ start.digest → node'.replica ≡ node.replica → AnswersEach node.replica before held new × (after ≡ []) → IsKept node.digest seen moment left_since node.device node'.device node.replica
    → GoesOn node.digest seen moment left_since node.device node'.device node.replica node.synced → StaysKnown seen start.device node.device
    → ServesAll mode (dialect_of start.replica) (crashes start.digest seen moment left_since start.device node'.device) start.replica (record { at = 0; bytes = zs }) old new node'.replica (record { at = p; bytes = s.ys })
all_settled seen moment left_since mode start node node' zs old held new left p before after s own same reported kept goes known =
    let stays : IsKept start.digest seen moment left_since node.device node'.device node.replica = subst (λ (x : List ℕ). IsKept x seen moment left_since node.device node'.device node.replica) own kept in
    let how : JournalDialect = dialect_of start.replica in
    let w' : Crashes = crashes start.digest seen moment left_since start.device node'.device in
    subst (λ (x : Kept). ServesAll mode how w' start.replica (record { at = 0; bytes = zs }) old new x (record { at = p; bytes = s.ys })) (sym same)
    (all_served mode how w' start.replica node.replica (record { at = 0; bytes = zs }) (record { at = p; bytes = s.ys }) old held new before (goes_on_to seen moment left_since mode start node node' zs old held left p before s own goes known)
    (lasts_now start.digest seen moment left_since start.device node.device node'.device node.replica known stays) reported.0)

-- the node still works, and what is on its disk it has
pub works_on : {D : Type 0} (mode : Mode) (node node' : Logged D) (r : Request) (before after : List PendingAnswer) (old new : Option (List ℕ)) (P : Type 0) → node.closed ≡ false → Waits mode node r before old node' after new P → node'.closed ≡ false
works_on mode node node' r before after old new P works w = elim w.2 [
  | inl a ↦ ap (λ n. n.closed) a.3 ∙ works
  | inr a ↦ a.3.works
]

longer : (k k' : Kept) → Extends k k' → length k.entries ≤ length k'.entries
longer k k' h = subst (λ (x : Kept). length k.entries ≤ length x.entries) (sym h.1) (let e = length-append k.entries h.0 in omega arith)

pub within_on : {D : Type 0} (mode : Mode) (node node' : Logged D) (r : Request) (before after : List PendingAnswer) (old new : Option (List ℕ)) (P : Type 0) → node.synced ≤ length node.replica.entries → Waits mode node r before old node' after new P
    → node'.synced ≤ length node'.replica.entries
within_on mode node node' r before after old new P within w = elim w.2 [
  | inl a ↦
      let same : node'.synced ≡ node.synced = ap (λ n. n.synced) a.3 in
      let more : length node.replica.entries ≤ length node'.replica.entries = longer node.replica node'.replica (acts_more node.replica node'.replica r w.0 w.1) in
      omega (arith, same, more, within)
  | inr a ↦ (let e = a.3.synced in omega arith)
]

-- one request, whose answer is written

pub unwritten_of : (r : Result Unit ServeFault) (e : ServeFault) (P : Type 0) → IsErrAnd r (λ x. x ≡ e) → (e ≡ WriteFailed → P) → IfUnwritten r P
unwritten_of (Ok x) e P is h = absurd is
unwritten_of (Err f) e P is h = subst (λ (x : ServeFault). IfUnwritten (Err x) P) (sym is) (go e h)
  where
    go : (e : ServeFault) → (e ≡ WriteFailed → P) → IfUnwritten (Err e) P
    go Memory h = tt
    go ReadFailed h = tt
    go (BadRequest at) h = tt
    go WriteFailed h = h refl
    go (LogFailed cause) h = tt

pub written_out : {D : Type 0} (P : Type 0) (mode m : Mode) (old mid new : Logged D) (r : Request) (asks may : Bool) (before between after : List PendingAnswer) (held held' : Option (List ℕ)) → ((d : PendingAnswer) × Acts old.replica r d mid.replica × (between ≡ before ++ d ∷ []))
    → mid ≡ record old { replica = mid.replica } → m ≡ mode → ((q : Request) → asks ≡ is_sync q → (IsTrue may ↔ MayWait m mid.synced q mid.replica)) → asks ≡ is_sync r → may ≡ false → new.replica ≡ mid.replica → AnswersEach mid.replica between held held' × (after ≡ []) → IsQuiet new → P
    → Waits mode old r before held new after held' P
written_out P mode m old mid new r asks may before between after held held' a same mode_is decides asked none replica reported quiet p = (
  a.0,
  subst (λ (x : Kept). Acts old.replica r a.0 x) (sym replica) a.1,
  inr ((λ w. false≢true (sym none ∙ (decides r asked).1 (as_before w))), reported.1, subst (λ (x : Kept). AnswersEach x (before ++ a.0 ∷ []) held held') (sym replica) (subst (λ (x : List PendingAnswer). AnswersEach mid.replica x held held') a.2 reported.0), quiet, p),
)
  where
    as_before : MayWait mode old.synced r new.replica → MayWait m mid.synced r mid.replica
    as_before w = subst (λ (x : Mode). MayWait x mid.synced r mid.replica) (sym mode_is) (subst (λ (x : ℕ). MayWait mode x r mid.replica) (sym (ap (λ x. x.synced) same)) (subst (λ (x : Kept). MayWait mode old.synced r x) replica w))

-- what holds in any case holds where all was answered
pub settled_of : (r : Result Unit ServeFault) (P : Type 0) → P → IfSettled r P
settled_of (Ok x) P p = p
settled_of (Err Memory) P p = tt
settled_of (Err ReadFailed) P p = p
settled_of (Err (BadRequest at)) P p = p
settled_of (Err WriteFailed) P p = p
settled_of (Err (LogFailed cause)) P p = tt

pub settled_kept : {D : Type 0} (digest : List ℕ) (seen : D → Option (List ℕ)) (moment : D → ℕ) (left_since : D → ℕ → List ℕ → Type 0) (old : D) (n n' : Logged D) (k : Kept) (r : Result Unit ServeFault) → n' ≡ n → IsKept digest seen moment left_since old n.device k
    → IfSettled r (IsKept digest seen moment left_since old n'.device k)
settled_kept {D = D} digest seen moment left_since old n n' k r same kept = settled_of r (IsKept digest seen moment left_since old n'.device k) (subst (λ (x : Logged D). IsKept digest seen moment left_since old x.device k) (sym same) kept)

pub settled_quiet : {D : Type 0} (n n' : Logged D) (r : Result Unit ServeFault) → n' ≡ n → IsQuiet n → IfSettled r (IsQuiet n')
settled_quiet {D = D} n n' r same quiet = settled_of r (IsQuiet n') (subst (λ (x : Logged D). IsQuiet x) (sym same) quiet)
