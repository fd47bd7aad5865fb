-- Runs of requests, one more at their end.
use Rattle.std.proofs.Common.{◌≡◌, ◌⊎◌, ℕ, zero, suc, ◌+◌, ◌<◌, length, take, get_or, List, [], ◌∷◌, ◌++◌, append-nil, append_assoc, Option, Some, None, Result, Ok, Err, inl, inr, refl, sym, ap, ◌∙◌, subst}
use Rattle.std.specs.Prelude.{IsErrAnd}
use Rattle.std.proofs.KnownBytes.{Appends-nil, Appends-trans}
use Rattle.ep_bundle.specs.Reading.{Left}
use Rattle.ep_replica.specs.Kept.{Kept}
use Rattle.ep_wire.specs.Requests.{next_request, ReadsRequest}
use Rattle.ep_bundle.specs.declared.journal_dialect.JournalDialect.{JournalDialect}
use Rattle.ep_wire.specs.declared.request.Request.{Request}
use Rattle.ep_wire.specs.declared.request_fault.RequestFault.{RequestFault}
use Rattle.ep_wire.specs.declared.request_fault.RequestFault.TheVariants as request
use Rattle.ep_serve.specs.Acting.{Acts}
use Rattle.ep_serve.specs.Answering.{AreAnswersTo, IsAnswerTo, AnswersEach, AnswersOne}
use Rattle.ep_serve.specs.Faults.{of_request}
use Rattle.ep_serve.specs.Lasting.{Crashes, Lasts, LastsFrom}
use Rattle.ep_serve.specs.Serving.{AllWait, AreRead, AreServed, BreaksOff, DoesNext, Ends, InService, IsBatch, IsSilent, MayWait, Serves, ServesAll}
use Rattle.ep_serve.specs.declared.pending_answer.PendingAnswer.{PendingAnswer}
use Rattle.ep_serve.specs.declared.mode.Mode.{Mode}
use Rattle.ep_serve.specs.declared.serve_fault.ServeFault.{ServeFault}
use Rattle.ep_serve.specs.declared.serve_fault.ServeFault.TheVariants.{Memory, ReadFailed, BadRequest, WriteFailed, LogFailed}
use Rattle.ep_serve.proofs.Growing.{Extends, served_more_entries, extends_more}
use Rattle.ep_serve.proofs.Keeping.{Passes, lasts_on, lasts_from_on}
use Rattle.ep_serve.proofs.Lists.{take_more}

pub read_more : (how : JournalDialect) (l l' m : Left) (rs : List Request) (r : Request) → AreRead how l rs l' → next_request how l' ≡ Ok (Some r, m) → AreRead how l (rs ++ r ∷ []) m
read_more how l l' m [] r e next = (m, subst (λ (x : Left). next_request how x ≡ Ok (Some r, m)) e next, refl)
read_more how l l' m (q ∷ rs) r h next = (h.0, h.1, read_more how h.0 l' m rs r h.2 next)

pub wait_more : (mode : Mode) (n : ℕ) (k k' m : Kept) (rs : List Request) (ds : List PendingAnswer) (r : Request) (d : PendingAnswer) → AllWait mode n k rs ds k' → Acts k' r d m → MayWait mode n r m → AllWait mode n k (rs ++ r ∷ []) (ds ++ d ∷ []) m
wait_more mode n k k' m [] ds r d h a w = (d, [], m, subst (λ (x : Kept). Acts x r d m) h.1 a, w, (refl, refl), ap (λ (x : List PendingAnswer). x ++ d ∷ []) h.0)
wait_more mode n k k' m (q ∷ rs) ds r d h a w = (h.0, h.1 ++ d ∷ [], h.2, h.3, h.4, wait_more mode n h.2 k' m rs h.1 r d h.5 a w, ap (λ (x : List PendingAnswer). x ++ d ∷ []) h.6)

pub served_more : (b : ℕ) (mode : Mode) (how : JournalDialect) (w : Crashes) (k m k' : Kept) (l l1 l' : Left) (out more : List ℕ) → AreServed b mode how w k l out m l1 → IsBatch mode how m l1 more k' l' → Lasts w k' → AreServed (suc b) mode how w k l (out ++ more) k' l'
served_more zero mode how w k m k' l l1 l' out more h batch lasts =
    (more, [], k', l', subst (λ (x : Kept). IsBatch mode how x l more k' l') h.1 (subst (λ (x : Left). IsBatch mode how m x more k' l') h.2 batch), lasts, (refl, refl, refl), ap (λ (x : List ℕ). x ++ more) h.0 ∙ sym (append-nil more))
served_more (suc b) mode how w k m k' l l1 l' out more h batch lasts =
    (h.0, h.1 ++ more, h.2, h.3, h.4, h.5, served_more b mode how w h.2 m k' h.3 l1 l' h.1 more h.6 batch lasts, ap (λ (x : List ℕ). x ++ more) h.7 ∙ append_assoc h.0 h.1 more)

-- what lasted lasts on
served_on : (b : ℕ) (mode : Mode) (how : JournalDialect) (w w' : Crashes) (s k k' : Kept) (l l' : Left) (out : List ℕ) → Passes w w' s → Extends k' s → AreServed b mode how w k l out k' l' → AreServed b mode how w' k l out k' l'
served_on zero mode how w w' s k k' l l' out p e h = h
served_on (suc b) mode how w w' s k k' l l' out p e h =
    (h.0, h.1, h.2, h.3, h.4, lasts_on w w' s h.2 p (extends_more h.2 k' s (served_more_entries b mode how w h.2 k' h.3 l' h.1 h.6) e) h.5, served_on b mode how w w' s h.2 k' h.3 l' h.1 p e h.6, h.7)

pub serves_on : (mode : Mode) (how : JournalDialect) (w w' : Crashes) (s k k' : Kept) (l l' : Left) (old new : Option (List ℕ)) → Passes w w' s → Extends k' s → Serves mode how w k l old new k' l' → Serves mode how w' k l old new k' l'
serves_on mode how w w' s k k' l l' old new p e h = record {
  begun =
      subst (λ (t : ℕ). LastsFrom w' t k) (sym p.start)
      (lasts_from_on w w' s k w.start p (extends_more k k' s (served_more_entries h.batches mode how w k k' l l' h.out h.served) e) h.begun);
  batches = h.batches;
  out = h.out;
  served = served_on h.batches mode how w w' s k k' l l' h.out p e h.served;
  appended = h.appended;
}

pub same_extends : (k : Kept) → Extends k k
same_extends k = ([], λ t. record k { entries = sym (append-nil k.entries) t })

abbrev pub service_on : (mode : Mode) (how : JournalDialect) (w w' : Crashes) (k k' : Kept) (l l' : Left) (old new : Option (List ℕ)) (ds : List PendingAnswer) (s : InService mode how w k l old new k' l' ds) → Passes w w' s.replica → InService mode how w' k l old new k' l' ds
service_on mode how w w' k k' l l' old new ds s p = record {
  replica = s.replica;
  from = s.from;
  served = serves_on mode how w w' s.replica k s.replica l s.from old new p (same_extends s.replica) s.served;
  waiting = s.waiting;
}

abbrev pub begins : (mode : Mode) (how : JournalDialect) (w : Crashes) (k : Kept) (l : Left) (old : Option (List ℕ)) → LastsFrom w w.start k → InService mode how w k l old old k l []
begins mode how w k l old begun = record {
  replica = k;
  from = l;
  served = record { begun = begun; batches = zero; out = []; served = (refl, refl, refl); appended = Appends-nil old };
  waiting = record { requests = []; read = refl; acted = (refl, refl) };
}

-- its answer waits
abbrev pub one_waits : (mode : Mode) (how : JournalDialect) (w : Crashes) (k k' m : Kept) (l l' l'' : Left) (old new : Option (List ℕ)) (ds : List PendingAnswer) (r : Request) (d : PendingAnswer) (s : InService mode how w k l old new k' l' ds)
    → next_request how l' ≡ Ok (Some r, l'') → Acts k' r d m → MayWait mode (length s.replica.entries) r m → InService mode how w k l old new m l'' (ds ++ d ∷ [])
one_waits mode how w k k' m l l' l'' old new ds r d s next a may = record {
  replica = s.replica;
  from = s.from;
  served = s.served;
  waiting = record {
    requests = s.waiting.requests ++ r ∷ [];
    read = read_more how s.from l' l'' s.waiting.requests r s.waiting.read next;
    acted = wait_more mode (length s.replica.entries) s.replica k' m s.waiting.requests ds r d s.waiting.acted a may;
  };
}

-- its answer is written, and all that waited
abbrev pub one_is_written : (mode : Mode) (how : JournalDialect) (w : Crashes) (k k' m : Kept) (l l' l'' : Left) (old mid new : Option (List ℕ)) (ds : List PendingAnswer) (r : Request) (d : PendingAnswer) (s : InService mode how w k l old mid k' l' ds)
    → next_request how l' ≡ Ok (Some r, l'') → Acts k' r d m → ¬ MayWait mode (length s.replica.entries) r m → AnswersEach m (ds ++ d ∷ []) mid new → Lasts w m → InService mode how w k l old new m l'' []
one_is_written mode how w k k' m l l' l'' old mid new ds r d s next a may t lasts = record {
  replica = m;
  from = l'';
  served = record {
    begun = s.served.begun;
    batches = suc s.served.batches;
    out = s.served.out ++ t.bytes;
    served = served_more s.served.batches mode how w k s.replica m l s.from l'' s.served.out t.bytes s.served.served
        (record { dues = ds; before = k'; from = l'; waiting = s.waiting; last = r; read = next; due = d; acted = a; written = may; reported = t.reported }) lasts;
    appended = Appends-trans old mid new s.served.out t.bytes s.served.appended t.appended;
  };
  waiting = record { requests = []; read = refl; acted = (refl, refl) };
}

-- answers

reported_more : (k : Kept) (ds : List PendingAnswer) (d : PendingAnswer) (out bytes : List ℕ) → AreAnswersTo k ds out → IsAnswerTo k d bytes → AreAnswersTo k (ds ++ d ∷ []) (out ++ bytes)
reported_more k [] d out bytes h t = (bytes, [], t, refl, ap (λ (x : List ℕ). x ++ bytes) h ∙ sym (append-nil bytes))
reported_more k (e ∷ ds) d out bytes h t = (h.0, h.1 ++ bytes, h.2, reported_more k ds d h.1 bytes h.3 t, ap (λ (x : List ℕ). x ++ bytes) h.4 ∙ append_assoc h.0 h.1 bytes)

pub report_none : (k : Kept) (old : Option (List ℕ)) → AnswersEach k [] old old
report_none k old = record { bytes = []; reported = refl; appended = Appends-nil old }

pub report_more : (k : Kept) (ds : List PendingAnswer) (d : PendingAnswer) (old mid new : Option (List ℕ)) → AnswersEach k ds old mid → AnswersOne k d mid new → AnswersEach k (ds ++ d ∷ []) old new
report_more k ds d old mid new s t = record {
  bytes = s.bytes ++ t.bytes;
  reported = reported_more k ds d s.bytes t.bytes s.reported t.reported;
  appended = Appends-trans old mid new s.bytes t.bytes s.appended t.appended;
}

pub report_next : (k : Kept) (i : ℕ) (ds : List PendingAnswer) (d : PendingAnswer) (old mid new : Option (List ℕ)) → i < length ds → d ≡ get_or ds i d → AnswersEach k (take i ds) old mid → AnswersOne k d mid new → AnswersEach k (take (i + 1) ds) old new
report_next k i ds d old mid new lt is s t = subst (λ (xs : List PendingAnswer). AnswersEach k xs old new) (sym (take_more i ds d lt is)) (report_more k (take i ds) d old mid new s t)

-- The end of a run.

pub all_served : (mode : Mode) (how : JournalDialect) (w : Crashes) (k k' : Kept) (l l' : Left) (old held new : Option (List ℕ)) (ds : List PendingAnswer) → InService mode how w k l old held k' l' ds → Lasts w k' → AnswersEach k' ds held new → ServesAll mode how w k l old new k' l'
all_served mode how w k k' l l' old held new ds s lasts t = record { dues = ds; held = held; before = s; lasts = lasts; reported = t }

-- at most one request more was done
abbrev pub DoesLast : JournalDialect → Kept → Left → Kept → Type 0
DoesLast how k l k' = (k' ≡ k) ⊎ DoesNext how k l k'

breaks_off : (mode : Mode) (how : JournalDialect) (w : Crashes) (k k' m : Kept) (l l' : Left) (old held new : Option (List ℕ)) (ds : List PendingAnswer) → InService mode how w k l old held k' l' ds → new ≡ held → DoesLast how k' l' m → BreaksOff mode how w k l old new m
breaks_off mode how w k k' m l l' old held new ds s is last = record {
  before = k';
  from = l';
  dues = ds;
  service = subst (λ (x : Option (List ℕ)). InService mode how w k l old x k' l' ds) (sym is) s;
  last = last;
}

short : (mode : Mode) (how : JournalDialect) (w : Crashes) (k k' m : Kept) (l l' : Left) (old held new : Option (List ℕ)) (ds : List PendingAnswer) (e : ServeFault) → InService mode how w k l old held k' l' ds → IsSilent e held new → DoesLast how k' l' m → (e ≡ WriteFailed → Lasts w m)
    → Ends mode how w k l old new (Err e) m
short mode how w k k' m l l' old held new ds Memory s is last lasts = inl (breaks_off mode how w k k' m l l' old held new ds s is last)
short mode how w k k' m l l' old held new ds ReadFailed s is last lasts = absurd is
short mode how w k k' m l l' old held new ds (BadRequest at) s is last lasts = absurd is
short mode how w k k' m l l' old held new ds WriteFailed s is last lasts = (held, breaks_off mode how w k k' m l l' old held held ds s refl last, lasts refl)
short mode how w k k' m l l' old held new ds (LogFailed cause) s is last lasts = breaks_off mode how w k k' m l l' old held new ds s is last

pub cut_short : (mode : Mode) (how : JournalDialect) (w : Crashes) (k k' m : Kept) (l l' : Left) (old held new : Option (List ℕ)) (ds : List PendingAnswer) (r : Result Unit ServeFault) (e : ServeFault) → InService mode how w k l old held k' l' ds → IsSilent e held new → DoesLast how k' l' m → (e ≡ WriteFailed → Lasts w m)
    → IsErrAnd r (λ x. x ≡ e) → Ends mode how w k l old new r m
cut_short mode how w k k' m l l' old held new ds (Ok x) e s silent last lasts is = absurd is
cut_short mode how w k k' m l l' old held new ds (Err f) e s silent last lasts is = subst (λ (x : ServeFault). Ends mode how w k l old new (Err x) m) (sym is) (short mode how w k k' m l l' old held new ds e s silent last lasts)

pub ends_well : (mode : Mode) (how how' : JournalDialect) (w : Crashes) (k k' : Kept) (l l' : Left) (old new : Option (List ℕ)) (found : Option Request) (p : ℕ) (left : Option (List ℕ)) → how' ≡ how → ServesAll mode how w k l old new k' l' → ReadsRequest how' l' (Ok found) p left → found ≡ None
    → Ends mode how w k l old new (Ok tt) k'
ends_well mode how how' w k k' l l' old new found p left e s read is = (
  l',
  s,
  (record { at = p; bytes = read.0 }, subst (λ (x : JournalDialect). next_request x l' ≡ Ok (None, record { at = p; bytes = read.0 })) e (read.2 ∙ ap (λ (f : Option Request). Ok (f, record { at = p; bytes = read.0 })) is)),
)

pub ends_badly : (mode : Mode) (how how' : JournalDialect) (w : Crashes) (k k' : Kept) (l l' : Left) (old new : Option (List ℕ)) (f : RequestFault) (e : ServeFault) (p : ℕ) (left : Option (List ℕ)) → how' ≡ how → ServesAll mode how w k l old new k' l' → ReadsRequest how' l' (Err f) p left → e ≡ of_request f
    → Ends mode how w k l old new (Err e) k'
ends_badly mode how how' w k k' l l' old new f e p left size_is all read is = subst (λ (x : ServeFault). Ends mode how w k l old new (Err x) k') (sym is) (go f (subst (λ (x : JournalDialect). ReadsRequest x l' (Err f) p left) size_is read))
  where
    go : (f : RequestFault) → ReadsRequest how l' (Err f) p left → Ends mode how w k l old new (Err (of_request f)) k'
    go request.Memory h = inr (l', all)
    go request.ReadFailed h = (l', all)
    go (request.BadRequest at) h = (l', all, h.0, h.1)

-- the loop's end, which no input reaches
pub ends_never : (mode : Mode) (how : JournalDialect) (w : Crashes) (k k' : Kept) (l l' : Left) (old held : Option (List ℕ)) (ds : List PendingAnswer) → InService mode how w k l old held k' l' ds → Ends mode how w k l old held (Err Memory) k'
ends_never mode how w k k' l l' old held ds s = inl (breaks_off mode how w k k' k' l l' old held held ds s refl (inl refl))
