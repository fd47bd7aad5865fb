-- The first fault of handled frames is the rule book's.
use Rattle.std.proofs.Common.{◌≡◌, ℕ, zero, suc, ◌<◌, ◌⊎◌, inl, inr, Bool, true, false, cond, ltb, Option, Some, None, is_none, List, [], ◌∷◌, ◌++◌, refl, sym, ap, subst, ◌∙◌, arith}
use Rattle.std.proofs.lemmas.Bool.{cases_lt, ltb-true, lt-ltb, false≢true}
use Rattle.ep_base.specs.Attributes.{same_list}
use Rattle.ep_base.specs.Quorums.{size}
use Rattle.ep_base.proofs.Same.{Decides-same_list}
use Rattle.ep_frame.specs.Meaning.{version_at, origin_at}
use Rattle.ep_frame.specs.Spelling.{IsFrame}
use Rattle.ep_journal.specs.Entries.{Collected, entry_of, entries_of, entries_at, journals_of, AreJournals}
use Rattle.ep_journal.specs.Events.{event_of, frame_at, IsReadable, lacking}
use Rattle.ep_journal.specs.declared.entry.Entry.{Entry}
use Rattle.ep_journal.specs.declared.event.Event.{Event}
use Rattle.ep_journal.specs.declared.event.Event.TheVariants.{Propose, Handle, GiveUp, Recover, Execute}
use Rattle.ep_audit.specs.Faults.{fault_of}
use Rattle.ep_audit.specs.declared.audit_fault.AuditFault.{AuditFault}
use Rattle.ep_rules.specs.Audits.{IsFine, IsFirstHandling, IsFault, unsent, changed, early}
use Rattle.ep_rules.specs.Journals as rules
use Rattle.ep_rules.specs.Journals.{WasSent, IsMatched}
use Rattle.ep_rules.specs.Steps.{Frame, Propose as Proposes, Handle as Handles, GiveUp as GivesUp, Recover as Recovers, Execute as Executes}
use Rattle.ep_rules.specs.Worlds.{In}
use Rattle.ep_rules.specs.declared.receipt.Receipt.{Receipt}
use Rattle.ep_audit.specs.Handlings.{frame_fault, event_fault, entry_fault, or_else, first_in, first_below}
use Rattle.ep_audit.specs.Lookups.{sent_there}
use Rattle.ep_audit.proofs.Shown.{in_shown, readable_in, readable_of, handled_in, versioned_in}
use Rattle.ep_audit.proofs.Sending.{origin_there, no_origin, was_sent, sent_is}
use Rattle.ep_journal.specs.Openings.{opens}
use Rattle.ep_journal.proofs.Growing.{entries_append}

-- Two tests, one in the other.

pub passes : (p q : Bool) (x y : AuditFault) → cond p (cond q None (Some x)) (Some y) ≡ None → (p ≡ true) × (q ≡ true)
passes true true x y is = (refl, refl)
passes true false x y is = let s : Some x ≡ None = is in absurd (cc)
passes false q x y is = let s : Some y ≡ None = is in absurd (cc)

pub data Fails (p q : Bool) (x y z : AuditFault) : Type 0 where
  outer : p ≡ false → y ≡ z → Fails p q x y z
  inner : p ≡ true → q ≡ false → x ≡ z → Fails p q x y z

pub fails : (p q : Bool) (x y z : AuditFault) → cond p (cond q None (Some x)) (Some y) ≡ Some z → Fails p q x y z
fails true true x y z is = let s : None ≡ Some z = is in absurd (cc)
fails true false x y z is = let s : Some x ≡ Some z = is in inner refl refl (cc)
fails false q x y z is = let s : Some y ≡ Some z = is in outer refl (cc)

pub or_none : (a b : Option AuditFault) → or_else a b ≡ None → (a ≡ None) × (b ≡ None)
or_none None b is = (refl, is)
or_none (Some x) b is = let s : Some x ≡ None = is in absurd (cc)

pub or_some : (a b : Option AuditFault) (x : AuditFault) → or_else a b ≡ Some x → (a ≡ Some x) ⊎ ((a ≡ None) × (b ≡ Some x))
or_some None b x is = inr (refl, is)
or_some (Some y) b x is = inl is

-- one replica more, whose entries are looked at where no fault is found yet
pub next_looked : (c : Collected) (n : ℕ) (old new : Option AuditFault) → old ≡ first_below c n → is_none old ≡ true → new ≡ first_in c n (entries_at c n) → new ≡ first_below c (suc n)
next_looked c n None new is none made = made ∙ ap (λ o. or_else o (first_in c n (entries_at c n))) is
next_looked c n (Some x) new is none made = absurd (cc)

pub next_kept : (c : Collected) (n : ℕ) (old new : Option AuditFault) → old ≡ first_below c n → is_none old ≡ false → new ≡ old → new ≡ first_below c (suc n)
next_kept c n None new is some made = absurd (cc)
next_kept c n (Some x) new is some made = made ∙ ap (λ o. or_else o (first_in c n (entries_at c n))) is

-- One entry.

frame_fine : (c : Collected) (r n stamp : ℕ) (b : List ℕ) → AreJournals c → (o : Option (List ℕ)) → sent_there c b ≡ o → frame_fault r n stamp b o ≡ None → WasSent (journals_of c) (frame_at b) × ((origin_at b).stamp < stamp)
frame_fine c r n stamp b h None is none = let s : Some (AuditFault.UnsentFrame r n) ≡ None = none in absurd (cc)
frame_fine c r n stamp b h (Some sent) is none =
    let t = passes (same_list sent b) (ltb (origin_at b).stamp stamp) (AuditFault.StampOrder r n) (AuditFault.ChangedFrame r n) none in
    let same : sent ≡ b = (Decides-same_list sent b).0 t.0 in
    (was_sent c b h (is ∙ ap Some same), ltb-true (origin_at b).stamp stamp t.1)

event_fine : (c : Collected) (r n stamp : ℕ) (event : Event) → AreJournals c → event_fault c r n stamp event ≡ None → (m : Frame) → event_of event ≡ Handles m → WasSent (journals_of c) m × (m.stamp < stamp)
event_fine c r n stamp (Propose client request command seen named) h none m is = let s : Proposes client request command seen named ≡ Handles m = is in absurd (cc)
event_fine c r n stamp (Handle b) h none m is =
    let s : Handles (frame_at b) ≡ Handles m = is in
    let same : frame_at b ≡ m = cc in
    subst (λ (z : Frame). WasSent (journals_of c) z × (z.stamp < stamp)) same (frame_fine c r n stamp b h (sent_there c b) refl none)
event_fine c r n stamp (GiveUp i) h none m is = let s : GivesUp i ≡ Handles m = is in absurd (cc)
event_fine c r n stamp (Recover i) h none m is = let s : Recovers i ≡ Handles m = is in absurd (cc)
event_fine c r n stamp (Execute i) h none m is = let s : Executes i ≡ Handles m = is in absurd (cc)

entry_fine : (c : Collected) (r : ℕ) (e : Entry) → AreJournals c → entry_fault c r e ≡ None → IsFine (journals_of c) (entry_of e)
entry_fine c r e h none m is = event_fine c r e.number e.stamp e.event h none m is

module _ (f : ℕ) (c : Collected) (receipts : List Receipt) (h : AreJournals c) where
  frame_wrong : (r : ℕ) (e : Entry) (b : List ℕ) → IsFrame b → version_at b ≡ c.version → IsFirstHandling (journals_of c) r (entry_of e) (frame_at b) → (x : AuditFault) (o : Option (List ℕ)) → sent_there c b ≡ o →
      frame_fault r e.number e.stamp b o ≡ Some x → IsFault (opens c.opening) f (journals_of c) receipts (fault_of x)
  frame_wrong r e b frame version first x None is some =
      let s : Some (AuditFault.UnsentFrame r e.number) ≡ Some x = some in
      let same : AuditFault.UnsentFrame r e.number ≡ x = cc in
      subst (λ y. IsFault (opens c.opening) f (journals_of c) receipts (fault_of y)) same (unsent r (entry_of e) (frame_at b) first (no_origin c b h is))
  frame_wrong r e b frame version first x (Some sent) is some =
      elim (fails (same_list sent b) (ltb (origin_at b).stamp e.stamp) (AuditFault.StampOrder r e.number) (AuditFault.ChangedFrame r e.number) x some) [
        | outer isnt same ↦ subst (λ y. IsFault (opens c.opening) f (journals_of c) receipts (fault_of y)) same
            (changed r (entry_of e) (frame_at b) first (origin_there c b sent h is) (λ w. false≢true (sym isnt ∙ (Decides-same_list sent b).1 (sent_is c b sent h frame version is w))))
        | inner passed isnt same ↦ subst (λ y. IsFault (opens c.opening) f (journals_of c) receipts (fault_of y)) same
            (early r (entry_of e) (frame_at b) first (was_sent c b h (is ∙ ap Some ((Decides-same_list sent b).0 passed))) (λ lt. false≢true (sym isnt ∙ lt-ltb (origin_at b).stamp e.stamp lt)))
      ]

  event_wrong : (r : ℕ) (e : Entry) (event : Event) → IsReadable event → lacking c.version event ≡ None → ((m : Frame) → event_of event ≡ Handles m → IsFirstHandling (journals_of c) r (entry_of e) m) → (x : AuditFault) →
      event_fault c r e.number e.stamp event ≡ Some x → IsFault (opens c.opening) f (journals_of c) receipts (fault_of x)
  event_wrong r e (Propose client request command seen named) frame lacks first x some = let s : None ≡ Some x = some in absurd (cc)
  event_wrong r e (Handle b) frame lacks first x some = frame_wrong r e b frame (handled_in c.version b lacks) (first (frame_at b) refl) x (sent_there c b) refl some
  event_wrong r e (GiveUp i) frame lacks first x some = let s : None ≡ Some x = some in absurd (cc)
  event_wrong r e (Recover i) frame lacks first x some = let s : None ≡ Some x = some in absurd (cc)
  event_wrong r e (Execute i) frame lacks first x some = let s : None ≡ Some x = some in absurd (cc)

-- The entries of a replica.

record FirstIn (c : Collected) (r : ℕ) (es : List Entry) (x : AuditFault) : Type 0 where
  pub before : List Entry
  pub entry : Entry
  pub rest : List Entry
  pub split : before ++ (entry ∷ rest) ≡ es
  pub fault : entry_fault c r entry ≡ Some x
  pub fine : (e : Entry) → In e before → entry_fault c r e ≡ None

none_in : (c : Collected) (r : ℕ) (es : List Entry) → first_in c r es ≡ None → (e : Entry) → In e es → entry_fault c r e ≡ None
none_in c r [] none e there = absurd there
none_in c r (x ∷ es) none e (inl is) = subst (λ z. entry_fault c r z ≡ None) is (or_none (entry_fault c r x) (first_in c r es) none).0
none_in c r (x ∷ es) none e (inr there) = none_in c r es (or_none (entry_fault c r x) (first_in c r es) none).1 e there

first_more : (c : Collected) (r : ℕ) (e : Entry) (es : List Entry) (x : AuditFault) → entry_fault c r e ≡ None → FirstIn c r es x → FirstIn c r (e ∷ es) x
first_more c r e es x none t = record {
  before = e ∷ t.before;
  entry = t.entry;
  rest = t.rest;
  split = ap (λ ys. e ∷ ys) t.split;
  fault = t.fault;
  fine = go;
}
  where
    go : (d : Entry) → In d (e ∷ t.before) → entry_fault c r d ≡ None
    go d (inl is) = subst (λ z. entry_fault c r z ≡ None) is none
    go d (inr there) = t.fine d there

some_in : (c : Collected) (r : ℕ) (es : List Entry) (x : AuditFault) → first_in c r es ≡ Some x → FirstIn c r es x
some_in c r [] x some = let s : None ≡ Some x = some in absurd (cc)
some_in c r (e ∷ es) x some = elim (or_some (entry_fault c r e) (first_in c r es) x some) [
  | inl is ↦ record { before = []; entry = e; rest = es; split = refl; fault = is; fine = λ d there. absurd there }
  | inr is ↦ first_more c r e es x is.0 (some_in c r es x is.1)
]

-- All replicas.

record FirstBelow (c : Collected) (n : ℕ) (x : AuditFault) : Type 0 where
  pub replica : ℕ
  pub fault : first_in c replica (entries_at c replica) ≡ Some x
  pub lower : (q : ℕ) → q < replica → first_in c q (entries_at c q) ≡ None

none_below : (c : Collected) (n q : ℕ) → first_below c n ≡ None → q < n → first_in c q (entries_at c q) ≡ None
none_below c zero q none lt = absurd (omega arith)
none_below c (suc n) q none lt =
    let t = or_none (first_below c n) (first_in c n (entries_at c n)) none in
    elim (cases_lt q n) [
      | inl less ↦ none_below c n q t.0 less
      | inr more ↦ (let same : n ≡ q = omega arith in subst (λ k. first_in c k (entries_at c k) ≡ None) same t.1)
    ]

some_below : (c : Collected) (n : ℕ) (x : AuditFault) → first_below c n ≡ Some x → FirstBelow c n x
some_below c zero x some = let s : None ≡ Some x = some in absurd (cc)
some_below c (suc n) x some = elim (or_some (first_below c n) (first_in c n (entries_at c n)) x some) [
  | inl is ↦ (let t = some_below c n x is in record { replica = t.replica; fault = t.fault; lower = t.lower })
  | inr is ↦ record { replica = n; fault = is.1; lower = λ q lt. none_below c n q is.0 lt }
]

journal_fine : (c : Collected) (q : ℕ) → AreJournals c → first_in c q (entries_at c q) ≡ None → (e : rules.Entry) → In e (journals_of c q) → IsFine (journals_of c) e
journal_fine c q h none e there =
    let t = in_shown (entries_at c q) e there in
    subst (λ z. IsFine (journals_of c) z) t.2 (entry_fine c q t.0 h (none_in c q (entries_at c q) none t.0 t.1))

-- where none has a fault, the journals match
pub matched : (c : Collected) → AreJournals c → first_below c (size c.faults) ≡ None → IsMatched (journals_of c)
matched c h none r e m there is = elim (cases_lt r (size c.faults)) [
  | inl lt ↦ journal_fine c r h (none_below c (size c.faults) r none lt) e there m is
  | inr le ↦ (let nobody : In e (entries_of []) = subst (λ es. In e (entries_of es)) (h.others r le) there in absurd nobody)
]

before_fine : (c : Collected) (r : ℕ) (es : List Entry) → AreJournals c → ((e : Entry) → In e es → entry_fault c r e ≡ None) → (e : rules.Entry) → In e (entries_of es) → IsFine (journals_of c) e
before_fine c r es h none e there = let t = in_shown es e there in subst (λ z. IsFine (journals_of c) z) t.2 (entry_fine c r t.0 h (none t.0 t.1))

in_middle : (xs : List Entry) (e : Entry) (ys : List Entry) → In e (xs ++ (e ∷ ys))
in_middle [] e ys = inl refl
in_middle (x ∷ xs) e ys = inr (in_middle xs e ys)

-- the first fault is one of the rule book's
pub handled_wrong : (f : ℕ) (c : Collected) (receipts : List Receipt) (n : ℕ) (x : AuditFault) → AreJournals c → first_below c n ≡ Some x → IsFault (opens c.opening) f (journals_of c) receipts (fault_of x)
handled_wrong f c receipts n x h some =
    let t = some_below c n x some in
    let u = some_in c t.replica (entries_at c t.replica) x t.fault in
    let there : In u.entry (entries_at c t.replica) = subst (λ es. In u.entry es) u.split (in_middle u.before u.entry u.rest) in
    event_wrong f c receipts h t.replica u.entry u.entry.event (readable_in (entries_at c t.replica) u.entry (readable_of c h t.replica) there).0 (versioned_in c h t.replica u.entry there).event
    (λ m is. record {
      before = entries_of u.before;
      rest = entries_of u.rest;
      split = sym (entries_append u.before (u.entry ∷ u.rest)) ∙ ap entries_of u.split;
      handles = is;
      fine = record { lower = λ q e lt k. journal_fine c q h (t.lower q lt) e k; earlier = before_fine c t.replica u.before h u.fine };
    })
    x u.fault
