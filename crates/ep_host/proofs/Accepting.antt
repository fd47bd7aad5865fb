-- A host's journals and receipts are accepted.
use Rattle.std.proofs.Common.{◌≡◌, ℕ, zero, suc, ◌+◌, ◌<◌, ◌≤◌, List, [], ◌∷◌, ◌++◌, ◌⊎◌, inl, inr, Result, Ok, Err, length, get_or, refl, sym, ap, subst, ◌∙◌, arith, Contains, All, append_assoc, ⊎_elim, IfOk}
use Rattle.std.proofs.lemmas.List.{append-nil}
use Rattle.std.proofs.lemmas.List.Elements.{Contains-append_cases, Contains-push_cases, Contains-push, Contains-append_left, Contains-append_right}
use Rattle.std.proofs.lemmas.Bool.{cases_lt}
use Rattle.std.specs.declared.alloc.AllocError.{AllocError}
use Rattle.ep_audit.specs.Audited.{IsAudited}
use Rattle.ep_base.specs.Quorums.{size}
use Rattle.ep_frame.specs.Meaning.{sender_at}
use Rattle.rtrb.specs.Ring.{received}
use Rattle.ep_base.specs.declared.version.Version.{Version}
use Rattle.ep_rules.specs.Audits.{IsAccepted}
use Rattle.ep_rules.specs.Steps.{Frame, Handle as Handles}
use Rattle.ep_rules.specs.Worlds.{In}
use Rattle.ep_rules.specs.Journals as rules
use Rattle.ep_rules.specs.Journals.{IsLocalRun, AreClocked, WasSent, Journals}
use Rattle.ep_rules.specs.Verdicts.{IsOwn, AreOwn}
use Rattle.ep_rules.specs.declared.receipt.Receipt.{Receipt}
use Rattle.ep_rules.proofs.OwnReceipts.{clocked_accepted_lem}
use Rattle.ep_rules.proofs.Merged.{in_split}
use Rattle.ep_rules.proofs.Played.{frames_were_sent_lem}
use Rattle.ep_journal.specs.Entries.{entry_of, entries_of, frames_at, IsJournal, IsOf, AreInOrder, Log, all_entries, first_opening, Collected, journals_of, frames_of}
use Rattle.ep_journal.specs.Events.{event_of, frame_at}
use Rattle.ep_journal.specs.declared.entry.Entry.{Entry}
use Rattle.ep_journal.specs.declared.event.Event.{Event as Happening}
use Rattle.ep_journal.specs.declared.event.Event.TheVariants as taken
use Rattle.ep_journal.specs.Openings.{Opening, OpensIn, opens}
use Rattle.ep_replica.specs.Kept.{Kept, begun, first_version}
use Rattle.ep_replica.specs.Receipts.{receipts_after}
use Rattle.ep_replica.proofs.Own.{receipts_are_own}
use Rattle.ep_audit.specs.declared.verdict.Verdict.{Verdict}
use Rattle.ep_host.specs.Host.{IsHost, Looked, Knows, AllBegin, AllSent, AllHandledFrom, AllFrom}
use Rattle.ep_host.specs.Node.{Node, fresh_node}
use Rattle.ep_host.specs.Pointwise.{Each}
use Rattle.ep_host.specs.RingFinishing.{replicas_in, entries_in, their_journals, their_receipts}
use Rattle.ep_host.specs.Rings.{handled_by, frames_handled, place}
use Rattle.ep_host.proofs.Hosts.{all_taken, all_of_version}
use Rattle.ep_host.proofs.Versioned.{none_in}

-- From the code's lists.

in_cons : (y x : List ℕ) (ys : List (List ℕ)) → Contains (y ∷ ys) x → (y ≡ x) ⊎ Contains ys x
in_cons y x ys c = elim (Contains-append_cases (y ∷ []) ys x c) [
  | inl h ↦ elim (Contains-push_cases [] y x h) [ inl z ↦ absurd (none_in x z) | inr e ↦ inl e ]
  | inr h ↦ inr h
]

frame_in : (fs : List (List ℕ)) (b : List ℕ) → Contains fs b → In (frame_at b) (frames_at fs)
frame_in [] b c = absurd (none_in b c)
frame_in (y ∷ fs) b c = elim (in_cons y b fs c) [ inl e ↦ inl (ap frame_at e) | inr h ↦ inr (frame_in fs b h) ]

-- the entry that sent it
sent_in : (es : List Entry) (b : List ℕ) → Contains (frames_of es) b → (e : rules.Entry) × In e (entries_of es) × In (frame_at b) e.out
sent_in [] b c = absurd (none_in b c)
sent_in (x ∷ es) b c = elim (Contains-append_cases x.frames (frames_of es) b c) [
  | inl h ↦ (entry_of x, inl refl, frame_in x.frames b h)
  | inr h ↦ let t = sent_in es b h in (t.0, inr t.1, t.2)
]

-- the bytes that an event handles
by_event : (v : Happening) (m : Frame) → event_of v ≡ Handles m → (b : List ℕ) × Contains (handled_by v) b × (frame_at b ≡ m)
by_event (taken.Propose client request command seen named) m e = absurd (cc)
by_event (taken.Handle b) m e = (b, Contains-push [] b, (let s : Handles (frame_at b) ≡ Handles m = e in cc))
by_event (taken.GiveUp i) m e = absurd (cc)
by_event (taken.Recover i) m e = absurd (cc)
by_event (taken.Execute i) m e = absurd (cc)

handled_at : (es : List Entry) (e : rules.Entry) (m : Frame) → In e (entries_of es) → e.event ≡ Handles m → (b : List ℕ) × Contains (frames_handled es) b × (frame_at b ≡ m)
handled_at [] e m h is = absurd h
handled_at (x ∷ es) e m (inl same) is =
    let t = by_event x.event m (ap (λ (z : rules.Entry). z.event) same ∙ is) in
    (t.0, Contains-append_left (handled_by x.event) (frames_handled es) t.0 t.1, t.2)
handled_at (x ∷ es) e m (inr h) is = let t = handled_at es e m h is in (t.0, Contains-append_right (handled_by x.event) (frames_handled es) t.0 t.1, t.2)

-- The nodes' journals.

-- a node that there isn't
abbrev blank : Node
blank = fresh_node (begun 0 0)

entries_is : (nodes : List Node) (r : ℕ) → get_or (entries_in (replicas_in nodes)) r [] ≡ (get_or nodes r blank).replica.entries
entries_is [] r = refl
entries_is (n ∷ ns) zero = refl
entries_is (n ∷ ns) (suc r) = entries_is ns r

pub none_after : (nodes : List Node) (r : ℕ) → length nodes ≤ r → get_or (entries_in (replicas_in nodes)) r [] ≡ []
none_after [] r low = refl
none_after (n ∷ ns) zero low = absurd (omega arith)
none_after (n ∷ ns) (suc r) low = none_after ns r (omega arith)

-- the first one says what all start as
first_is : (nodes : List Node) → 0 < length nodes → ((get_or nodes 0 blank).replica.version ≡ first_version (replicas_in nodes)) × ((get_or nodes 0 blank).replica.opening ≡ first_opening (replicas_in nodes))
first_is [] low = absurd (omega arith)
first_is (n ∷ ns) low = (refl, refl)

module _ (f : ℕ) (nodes : List Node) (host : IsHost f nodes) (know : All Knows nodes) where
  journal_is : (r : ℕ) → their_journals (replicas_in nodes) r ≡ entries_of (get_or nodes r blank).replica.entries
  journal_is r = ap entries_of (entries_is nodes r)

  abbrev opening : Opening
  opening = first_opening (replicas_in nodes)

  start_at : (r : ℕ) → r < length nodes → ((get_or nodes r blank).replica.version ≡ first_version (replicas_in nodes)) × ((get_or nodes r blank).replica.opening ≡ opening)
  start_at r low =
      let first = first_is nodes (omega arith) in
      (ap (λ p. p.0) (host.start r blank low) ∙ first.0, ap (λ p. p.1) (host.start r blank low) ∙ first.1)

  runs_at : (r : ℕ) → r < length nodes → IsJournal (first_version (replicas_in nodes)) opening f r (get_or nodes r blank).replica.entries
  runs_at r low =
      let j = (know r blank low).journal in
      let n : Kept = (get_or nodes r blank).replica in
      let s = start_at r low in
      subst (λ (v : Version). IsJournal v opening f r n.entries) s.0 (subst (λ (o : Opening). IsJournal n.version o f r n.entries) s.1
      (subst (λ (q : ℕ). IsJournal n.version n.opening f q n.entries) (host.me r blank low) (subst (λ (q : ℕ). IsJournal n.version n.opening q n.me n.entries) (host.faults r blank low) j)))

  opens_at : 0 < length nodes → OpensIn (first_version (replicas_in nodes)) opening
  opens_at low =
      let n : Kept = (get_or nodes 0 blank).replica in
      let s = start_at 0 low in
      subst (λ (v : Version). OpensIn v opening) s.0 (subst (λ (o : Opening). OpensIn n.version o) s.1 (know 0 blank low).opens)

  clocked_at : (r : ℕ) → AreClocked opening.base_stamp (their_journals (replicas_in nodes) r)
  clocked_at r = ⊎_elim
      (λ (low : r < length nodes). subst (λ (es : List rules.Entry). AreClocked opening.base_stamp es) (sym (journal_is r)) (subst (λ (o : Opening). AreClocked o.base_stamp (entries_of (get_or nodes r blank).replica.entries)) (start_at r low).1 (know r blank low).clocked))
      (λ (ge : length nodes ≤ r). subst (λ (es : List Entry). AreClocked opening.base_stamp (entries_of es)) (sym (none_after nodes r ge)) tt)
      (cases_lt r (length nodes))

  sent_at : AllSent nodes → (r : ℕ) (e : rules.Entry) (m : Frame) → In e (their_journals (replicas_in nodes) r) → e.event ≡ Handles m → WasSent (their_journals (replicas_in nodes)) m
  sent_at sent r e m stands is = ⊎_elim
      (λ (low : r < length nodes).
      let t = handled_at (get_or nodes r blank).replica.entries e m (subst (λ (es : List rules.Entry). In e es) (journal_is r) stands) is in
      let u = sent r blank t.0 low t.1 in
      let o = sent_in (get_or nodes u.0 blank).replica.entries t.0 u.2 in
      let run = subst (λ (es : List rules.Entry). IsLocalRun (opens opening) f u.0 es) (sym (journal_is u.0)) (runs_at u.0 u.1).run in
      subst (λ (z : Frame). WasSent (their_journals (replicas_in nodes)) z) t.2
      (frames_were_sent_lem (opens opening) f (their_journals (replicas_in nodes)) u.0 o.0 (frame_at t.0) run (subst (λ (es : List rules.Entry). In o.0 es) (sym (journal_is u.0)) o.1) o.2).1)
      (λ (ge : length nodes ≤ r). absurd (subst (λ (es : List Entry). In e (entries_of es)) (none_after nodes r ge) stands))
      (cases_lt r (length nodes))

-- each frame handled was taken from the ring of its sender
handled_from : (f : ℕ) (nodes : List Node) → IsHost f nodes → All Knows nodes → AllBegin nodes → AllHandledFrom nodes
handled_from f nodes host know begins = λ j d e b low c.
    let t = all_taken f nodes j d b host know begins low c in
    let n : Kept = (get_or nodes t.from d).replica in
    let o = sent_in n.entries b t.out in
    let run : IsLocalRun (opens n.opening) f t.from (entries_of n.entries) =
    (let j = (know t.from d t.low).journal in
    (subst (λ (q : ℕ). IsJournal n.version n.opening f q n.entries) (host.me t.from d t.low) (subst (λ (q : ℕ). IsJournal n.version n.opening q n.me n.entries) (host.faults t.from d t.low) j)).run) in
    let is : sender_at b ≡ t.from = (frames_were_sent_lem (opens n.opening) f (λ (r : ℕ). entries_of n.entries) t.from o.0 (frame_at b) run o.1 o.2).0.sender in
    subst (λ (n : ℕ). (n < length nodes) × Contains (received (get_or (get_or nodes j d).links (place j n) e).from) b × Contains (frames_of (get_or nodes n d).replica.entries) b) (sym is) (t.low, t.taken e, t.out)

pub all_from : (f : ℕ) (nodes : List Node) → IsHost f nodes → All Knows nodes → AllBegin nodes → AllFrom nodes
all_from f nodes host know begins = (handled_from f nodes host know begins, all_of_version f nodes host know begins)

-- the node whose receipt it is
receipt_at : (nodes : List Node) (t : Receipt) → In t (their_receipts (replicas_in nodes)) → (i : ℕ) × (i < length nodes) × In t (receipts_after (get_or nodes i blank).replica.me 0 (entries_of (get_or nodes i blank).replica.entries))
receipt_at [] t h = absurd h
receipt_at (n ∷ ns) t h = elim (in_split t (receipts_after n.replica.me 0 (entries_of n.replica.entries)) (their_receipts (replicas_in ns)) h) [
  | inl l ↦ (0, omega arith, l)
  | inr r ↦ let u = receipt_at ns t r in (suc u.0, omega (arith, u.1), u.2)
]

-- all their receipts are their own
pub receipts_own : (f : ℕ) (nodes : List Node) → IsHost f nodes → All Knows nodes → AreOwn (opens (first_opening (replicas_in nodes))) f (their_journals (replicas_in nodes)) (their_receipts (replicas_in nodes))
receipts_own f nodes host know t h =
    let u = receipt_at nodes t h in
    let n : Kept = (get_or nodes u.0 blank).replica in
    let k = know u.0 blank u.1 in
    let o : Opening = first_opening (replicas_in nodes) in
    let own : IsOwn (opens n.opening) n.faults n.me (entries_of n.entries) t = receipts_are_own (opens n.opening) n.faults n.me 0 (entries_of n.entries) k.some k.journal.run.1 t u.2 in (
      u.0,
      subst (λ (es : List rules.Entry). IsOwn (opens o) f u.0 es t) (sym (journal_is f nodes host know u.0))
          (subst (λ (p : Opening). IsOwn (opens p) f u.0 (entries_of n.entries) t) (start_at f nodes host know u.0 u.1).1
          (subst (λ (q : ℕ). IsOwn (opens n.opening) f q (entries_of n.entries) t) (host.me u.0 blank u.1) (subst (λ (q : ℕ). IsOwn (opens n.opening) q n.me (entries_of n.entries) t) (host.faults u.0 blank u.1) own))),
    )

-- no audit of them with receipts of their own finds a fault
pub host_accepted :
    (f : ℕ) (nodes : List Node) (receipts : List Receipt) → IsHost f nodes → All Knows nodes → AllSent nodes → AreOwn (opens (first_opening (replicas_in nodes))) f (their_journals (replicas_in nodes)) receipts →
    IsAccepted (opens (first_opening (replicas_in nodes))) f (their_journals (replicas_in nodes)) receipts
host_accepted f nodes receipts host know sent own =
    clocked_accepted_lem (opens (first_opening (replicas_in nodes))) (λ _. (first_opening (replicas_in nodes)).base_stamp) f (their_journals (replicas_in nodes)) (clocked_at f nodes host know) (sent_at f nodes host know sent) receipts own

-- Lists of nodes.

pub looked_replicas : (xs ys : List Node) → Each Looked xs ys → replicas_in ys ≡ replicas_in xs
looked_replicas [] [] h = refl
looked_replicas [] (y ∷ ys) h = let e = h.len in absurd (omega (arith, e))
looked_replicas (x ∷ xs) [] h = let e = h.len in absurd (omega (arith, e))
looked_replicas (x ∷ xs) (y ∷ ys) h =
    let first : y.replica ≡ x.replica = ap (λ (n : Node). n.replica) (h.at 0 x (omega arith)).is in
    let rest : Each Looked xs ys = record { len = (let e = h.len in omega (arith, e)); at = λ i d low. h.at (suc i) d (omega arith) } in
    ap (λ (k : Kept). k ∷ replicas_in ys) first ∙ ap (λ (ks : List Kept). x.replica ∷ ks) (looked_replicas xs ys rest)

pub replicas_both : (xs ys : List Node) → replicas_in (xs ++ ys) ≡ replicas_in xs ++ replicas_in ys
replicas_both [] ys = refl
replicas_both (x ∷ xs) ys = ap (λ (ks : List Kept). x.replica ∷ ks) (replicas_both xs ys)

pub receipts_both : (xs ys : List Kept) → their_receipts (xs ++ ys) ≡ their_receipts xs ++ their_receipts ys
receipts_both [] ys = refl
receipts_both (k ∷ ks) ys = ap (λ (l : List Receipt). receipts_after k.me 0 (entries_of k.entries) ++ l) (receipts_both ks ys) ∙ sym (append_assoc (receipts_after k.me 0 (entries_of k.entries)) (their_receipts ks) (their_receipts ys))

-- the receipts of one node more
pub receipts_more : (nodes : List Node) (n : Node) (receipts more : List Receipt) → receipts ≡ their_receipts (replicas_in nodes) → more ≡ receipts ++ receipts_after n.replica.me 0 (entries_of n.replica.entries) → more ≡ their_receipts (replicas_in (nodes ++ n ∷ []))
receipts_more nodes n receipts more was is =
    let own = receipts_after n.replica.me 0 (entries_of n.replica.entries) in
    is ∙ ap (λ (l : List Receipt). l ++ own) was ∙ ap (λ (l : List Receipt). their_receipts (replicas_in nodes) ++ l) (sym (append-nil own)) ∙ sym (receipts_both (replicas_in nodes) (n.replica ∷ [])) ∙ ap their_receipts (sym (replicas_both nodes (n ∷ [])))

-- the journal of one node more
pub logs_more : (nodes : List Node) (n : Node) (l : Log) (logs more : List Log) → logs ≡ replicas_in nodes → l ≡ n.replica → more ≡ logs ++ l ∷ [] → more ≡ replicas_in (nodes ++ n ∷ [])
logs_more nodes n l logs more was same is =
    is ∙ ap (λ (ls : List Log). ls ++ l ∷ []) was ∙ ap (λ (x : Log). replicas_in nodes ++ x ∷ []) same ∙ sym (replicas_both nodes (n ∷ []))

in_order : (v : Version) (o : Opening) (f r : ℕ) (nodes : List Node) → ((i : ℕ) → i < length nodes → IsOf v o f (r + i) (get_or nodes i blank).replica) → r + length nodes ≡ size f → AreInOrder v o f r (replicas_in nodes)
in_order v o f r [] h count = (let z : r + 0 ≡ r = omega arith in sym z ∙ count)
in_order v o f r (n ∷ ns) h count =
    let z : r + 0 ≡ r = omega arith in (
      subst (λ (q : ℕ). IsOf v o f q n.replica) z (h 0 (omega arith)),
      in_order v o f (suc r) ns (λ i low. let e : r + suc i ≡ suc r + i = omega arith in subst (λ (q : ℕ). IsOf v o f q (get_or ns i blank).replica) e (h (suc i) (omega arith)))
          (let s : suc r + length ns ≡ r + length (n ∷ ns) = omega arith in s ∙ count),
    )

-- they are the journals of a cluster, in order
pub host_in_order : (f : ℕ) (nodes : List Node) → IsHost f nodes → All Knows nodes → AreInOrder (first_version (replicas_in nodes)) (first_opening (replicas_in nodes)) f 0 (replicas_in nodes)
host_in_order f nodes host know = in_order (first_version (replicas_in nodes)) (first_opening (replicas_in nodes)) f 0 nodes
    (λ i low. let e : 0 + i ≡ i = omega arith in let s = start_at f nodes host know i low in
    rw e record { version = s.0; faults = host.faults i blank low; me = host.me i blank low; opening = s.1; opens = opens_at f nodes host know (omega arith); journal = runs_at f nodes host know i low })
    (let z : 0 + length nodes ≡ length nodes = omega arith in z ∙ host.count)

entries_each : (ks : List Kept) → all_entries ks ≡ entries_in ks
entries_each [] = refl
entries_each (k ∷ ks) = ap (λ (l : List (List Entry)). k.entries ∷ l) (entries_each ks)

-- what journals in order are of, where they are these
pub record Named (v : Version) (o : Opening) (g f : ℕ) (ks : List Kept) : Type 0 where
  pub version : v ≡ first_version ks
  pub opening : o ≡ first_opening ks
  pub faults : g ≡ f

named : (v : Version) (o : Opening) (f g : ℕ) (nodes : List Node) → length nodes ≡ size f → IsHost f nodes → AreInOrder v o g 0 (replicas_in nodes) → Named v o g f (replicas_in nodes)
named v o f g [] count host h = absurd (omega arith)
named v o f g (n ∷ ns) count host h = record { version = sym h.0.version; opening = sym h.0.opening; faults = sym h.0.faults ∙ host.faults 0 blank (omega arith) }

-- What is left at the end of a host: its nodes' journals, collected, and their receipts.
pub record IsEnd (f : ℕ) (nodes : List Node) (j : Collected) (receipts : List Receipt) : Type 0 where
  pub of : Named j.version j.opening j.faults f (replicas_in nodes)
  pub journals : journals_of j ≡ their_journals (replicas_in nodes)
  pub reported : receipts ≡ their_receipts (replicas_in nodes)

-- the journals at the end of a host
pub record AreEnded (f : ℕ) (nodes : List Node) (j : Collected) : Type 0 where
  pub of : Named j.version j.opening j.faults f (replicas_in nodes)
  pub entries : j.entries ≡ entries_in (replicas_in nodes)

pub ended : (f : ℕ) (nodes after : List Node) (j : Collected) (ls : List Log) → IsHost f nodes → Each Looked nodes after → ls ≡ replicas_in after → AreInOrder j.version j.opening j.faults 0 ls → j.entries ≡ all_entries ls → AreEnded f nodes j
ended f nodes after j ls host looked logs order entries =
    let is : ls ≡ replicas_in nodes = logs ∙ looked_replicas nodes after looked in
    record {
      of = named j.version j.opening f j.faults nodes host.count host (subst (λ (l : List Log). AreInOrder j.version j.opening j.faults 0 l) is order);
      entries = entries ∙ ap all_entries is ∙ entries_each (replicas_in nodes);
    }

journals_are : (f : ℕ) (nodes : List Node) (j : Collected) → AreEnded f nodes j → journals_of j ≡ their_journals (replicas_in nodes)
journals_are f nodes j e = ap (λ (es : List (List Entry)). λ (r : ℕ). entries_of (get_or es r [])) e.entries

pub is_end :
    (f : ℕ) (nodes after : List Node) (j : Collected) (ls : List Log) (receipts : List Receipt) → IsHost f nodes → Each Looked nodes after → ls ≡ replicas_in after → AreInOrder j.version j.opening j.faults 0 ls →
    j.entries ≡ all_entries ls → receipts ≡ their_receipts (replicas_in after) → IsEnd f nodes j receipts
is_end f nodes after j ls receipts host looked logs order entries are =
    let e = ended f nodes after j ls host looked logs order entries in
    record { of = e.of; journals = journals_are f nodes j e; reported = are ∙ ap their_receipts (looked_replicas nodes after looked) }

pub end_in_order : (f : ℕ) (nodes after : List Node) (ls : List Log) → IsHost f nodes → All Knows nodes → Each Looked nodes after → ls ≡ replicas_in after → AreInOrder (first_version (replicas_in nodes)) (first_opening (replicas_in nodes)) f 0 ls
end_in_order f nodes after ls host know looked logs =
    subst (λ (l : List Log). AreInOrder (first_version (replicas_in nodes)) (first_opening (replicas_in nodes)) f 0 l) (sym (logs ∙ looked_replicas nodes after looked)) (host_in_order f nodes host know)

pub end_accepted : (f : ℕ) (nodes : List Node) (j : Collected) (receipts : List Receipt) → IsHost f nodes → All Knows nodes → AllSent nodes → IsEnd f nodes j receipts → IsAccepted (opens j.opening) j.faults (journals_of j) receipts
end_accepted f nodes j receipts host know sent e =
    let base : Opening = first_opening (replicas_in nodes) in
    subst (λ (o : Opening). IsAccepted (opens o) j.faults (journals_of j) receipts) (sym e.of.opening)
    (subst (λ (g : ℕ). IsAccepted (opens base) g (journals_of j) receipts) (sym e.of.faults)
    (subst (λ (J : Journals). IsAccepted (opens base) f J receipts) (sym e.journals)
    (subst (λ (l : List Receipt). IsAccepted (opens base) f (their_journals (replicas_in nodes)) l) (sym e.reported) (host_accepted f nodes (their_receipts (replicas_in nodes)) host know sent (receipts_own f nodes host know)))))

pub end_audited :
    (f : ℕ) (nodes : List Node) (j : Collected) (receipts : List Receipt) → IsEnd f nodes j receipts → (r : Result Verdict AllocError) → IfOk r (λ v. IsAudited (opens j.opening) j.faults (journals_of j) receipts v) →
    IfOk r (λ v. IsAudited (opens (first_opening (replicas_in nodes))) f (their_journals (replicas_in nodes)) (their_receipts (replicas_in nodes)) v)
end_audited f nodes j receipts e (Err x) h = tt
end_audited f nodes j receipts e (Ok v) h =
    let base : Opening = first_opening (replicas_in nodes) in
    subst (λ (l : List Receipt). IsAudited (opens base) f (their_journals (replicas_in nodes)) l v) e.reported
    (subst (λ (J : Journals). IsAudited (opens base) f J receipts v) e.journals
    (subst (λ (g : ℕ). IsAudited (opens base) g (journals_of j) receipts v) e.of.faults
    (subst (λ (o : Opening). IsAudited (opens o) j.faults (journals_of j) receipts v) e.of.opening h)))

-- with receipts of its nodes' own
pub ended_accepted :
    (f : ℕ) (nodes : List Node) (j : Collected) (ts : List Receipt) → IsHost f nodes → All Knows nodes → AllSent nodes → AreEnded f nodes j → AreOwn (opens (first_opening (replicas_in nodes))) f (their_journals (replicas_in nodes)) ts →
    IsAccepted (opens j.opening) j.faults (journals_of j) ts
ended_accepted f nodes j ts host know sent is own =
    let base : Opening = first_opening (replicas_in nodes) in
    subst (λ (o : Opening). IsAccepted (opens o) j.faults (journals_of j) ts) (sym is.of.opening)
    (subst (λ (g : ℕ). IsAccepted (opens base) g (journals_of j) ts) (sym is.of.faults) (subst (λ (J : Journals). IsAccepted (opens base) f J ts) (sym (journals_are f nodes j is)) (host_accepted f nodes ts host know sent own)))
