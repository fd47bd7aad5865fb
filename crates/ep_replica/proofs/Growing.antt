-- A replica's journal with one entry more.
use Rattle.std.proofs.Common.{◌≡◌, ℕ, ◌+◌, ◌<◌, ◌≤◌, ◌-◌, max, length, length-append, get_or, cond, Bool, true, false, ◌&&◌, ltb, Option, Some, None, List, [], ◌∷◌, ◌++◌, refl, sym, ap, subst, ◌∙◌, arith}
use Rattle.std.proofs.lemmas.List.{get_or_push}
use Rattle.std.proofs.lemmas.Option.{none-some}
use Rattle.std.specs.Prelude.{IfSome}
use Rattle.ep_base.specs.Versions.{version_number}
use Rattle.ep_rules.specs.Journals.{AreClocked, heard}
use Rattle.ep_rules.proofs.JournalsGrow.{clocks_grow_lem}
use Rattle.ep_journal.specs.Holding.{HasRoom}
use Rattle.ep_journal.specs.Entries.{entry_of, entries_of, IsJournal}
use Rattle.ep_journal.specs.Events.{event_of}
use Rattle.ep_journal.specs.Leaving.{standing, MarksNext, Continues}
use Rattle.ep_journal.specs.Standing.{IsRefused}
use Rattle.ep_journal.specs.Stepping.{MarkedBy}
use Rattle.ep_journal.specs.declared.entry.Entry.{Entry}
use Rattle.ep_journal.specs.declared.event.Event.{Event as Happening}
use Rattle.ep_journal.specs.declared.mark.Mark.{Mark}
use Rattle.ep_journal.specs.declared.step_fault.StepFault.{StepFault}
use Rattle.ep_journal.proofs.Growing.{entries_grow, next_journal}
use Rattle.ep_replica.specs.Kept.{Kept}
use Rattle.ep_replica.specs.Slots.{found, HoldsProposals}
use Rattle.ep_replica.specs.declared.proposal.Proposal.{Proposal}
use Rattle.ep_replica.specs.Applied.{Applied, IsDeclined, last_of, leaps, mark_of, mark_after, next_stamp}

-- the journal goes on
pub journal_grows : (k : Kept) (event : Happening) (e : Entry) (k' : Kept) → IsJournal k.version k.opening k.faults k.me k.entries → Applied k event e k' → IsJournal k.version k.opening k.faults k.me (k.entries ++ e ∷ [])
journal_grows k event e k' j a = next_journal k.version k.opening k.faults k.me k.entries e j a.number (record {
  step = a.step;
  stamp = (let is : e.stamp ≡ 1 + max (last_of k) (heard (event_of event)) = a.stamp in omega arith);
  marked = a.marked;
  readable = a.readable;
  frames = a.frames;
  versioned = a.versioned;
  room = subst (λ (h : Happening). HasRoom k.version k.me (standing k).state (event_of h)) (sym a.event) a.room;
})

-- so does the clock
pub clock_grows : (k : Kept) (event : Happening) (e : Entry) (k' : Kept) → AreClocked k.opening.base_stamp (entries_of k.entries) → Applied k event e k' → AreClocked k.opening.base_stamp (entries_of (k.entries ++ e ∷ []))
clock_grows k event e k' h a =
    subst (λ xs. AreClocked k.opening.base_stamp xs) (sym (entries_grow k.entries e))
    (clocks_grow_lem k.opening.base_stamp (entries_of k.entries) (entry_of e) h (a.stamp ∙ ap (λ (h : Happening). next_stamp k h) (sym a.event)))

mark_is : (number stamp : ℕ) (m : Mark) → Some m ≡ mark_of number stamp → (m.number ≡ number) × (m.stamp ≡ stamp)
mark_is number stamp m is = go (ltb number 4294967296 && ltb stamp 281474976710656) is
  where
    go : (b : Bool) → Some m ≡ cond b (Some (record { number = number; stamp = stamp })) None → (m.number ≡ number) × (m.stamp ≡ stamp)
    go true is = (let same : m ≡ record { number = number; stamp = stamp } = (cc) in (ap (λ (x : Mark). x.number) same, ap (λ (x : Mark). x.stamp) same))
    go false is = absurd (cc)

-- the clock's mark may come next
pub clock_next : (k : Kept) (count last reported : ℕ) (o : Option Mark) → count ≡ length k.entries → last ≡ last_of k → o ≡ mark_of (count + 1) (1 + max last reported) → IfSome o (λ m. MarksNext k.opening k.entries m)
clock_next k count last reported None number stamp is = tt
clock_next k count last reported (Some m) number stamp is =
    let at = mark_is (count + 1) (1 + max last reported) m is in
    let ticks : m.stamp ≡ 1 + max last reported = at.1 in
    record { number = at.0 ∙ ap (λ n. n + 1) number; stamp = omega arith }

-- there is a mark: no stamp leaps, and it is the clock's
pub record IsMark (k : Kept) (event : Happening) (m : Mark) : Type 0 where
  pub near : leaps k.version (last_of k) (heard (event_of event)) ≡ false
  pub number : m.number ≡ length k.entries + 1
  pub stamp : m.stamp ≡ next_stamp k event

marked : (k : Kept) (event : Happening) (m : Mark) → Some m ≡ mark_after k event → IsMark k event m
marked k event m is = go (leaps k.version (last_of k) (heard (event_of event))) refl is
  where
    go : (b : Bool) → leaps k.version (last_of k) (heard (event_of event)) ≡ b → Some m ≡ cond b None (mark_of (length k.entries + 1) (next_stamp k event)) → IsMark k event m
    go true test is = absurd (none-some m (sym is))
    go false test is = let r = mark_is (length k.entries + 1) (next_stamp k event) m is in record { near = test; number = r.0; stamp = r.1 }

-- the step with the clock's mark is the replica's
pub applied : (j j' : Kept) (event : Happening) (mark : Option Mark) → mark ≡ mark_after j event → MarkedBy (λ m. Continues j m event j') mark → (e : Entry) × Applied j event e j'
applied j j' event None clock a = absurd a
applied j j' event (Some m) clock a =
    let is = marked j event m clock in (
      a.entry,
      record {
        event = a.step.event;
        number = a.step.number ∙ is.number;
        stamp = a.step.stamp ∙ is.stamp;
        near = is.near;
        step = a.step.entry;
        marked = a.step.marked;
        readable = a.step.readable;
        frames = a.step.frames;
        versioned = a.step.versioned;
        room = a.step.room;
        appended = a.appended;
      },
    )

-- what the journal refuses with the clock's mark is what the replica refuses
pub declined : (j k : Kept) (event : Happening) (mark : Option Mark) (fault : StepFault) → j ≡ k → mark ≡ mark_after j event → IsRefused (standing j) event mark fault → IsDeclined k event fault
declined j k event mark fault is clock refused =
    subst (λ (z : Kept). IsDeclined z event fault) is (subst (λ (o : Option Mark). IsRefused (standing j) event o fault) clock refused)

-- what holds of a replica holds after one entry more
pub record Holds (j : Kept) : Type 0 where
  pub clock : AreClocked j.opening.base_stamp (entries_of j.entries)
  pub some : 0 < j.faults
  pub known : 2 ≤ version_number j.version

pub holds_next : (j j' : Kept) (event : Happening) → AreClocked j.opening.base_stamp (entries_of j.entries) → 0 < j.faults → 2 ≤ version_number j.version → (e : Entry) × Applied j event e j' → Holds j'
holds_next j j' event clock some known p =
    subst Holds (sym p.1.appended) (record { clock = clock_grows j event p.0 j' clock p.1; some = some; known = known })

-- the last entry of what a step left is the one that it made
pub last_made : (k k' : Kept) (event : Happening) (r : Entry) → (e : Entry) × Applied k event e k' → r ≡ get_or k'.entries (length k'.entries - 1) r → Applied k event r k'
last_made k k' event r p is =
    let more : k'.entries ≡ k.entries ++ p.0 ∷ [] = ap (λ (z : Kept). z.entries) p.1.appended in
    let place : length k.entries ≡ length k'.entries - 1 = (let n : length k'.entries ≡ length k.entries + 1 = ap length more ∙ length-append k.entries (p.0 ∷ []) in omega arith) in
    let same : p.0 ≡ r = sym (is ∙ ap (λ (xs : List Entry). get_or xs (length k'.entries - 1) r) more ∙ get_or_push k.entries p.0 r (length k'.entries - 1) place) in
    subst (λ (z : Entry). Applied k event z k') same p.1

pub lent : (k k' : Kept) (event : Happening) (r : Entry) → (e : Entry) × Applied k event e k' → r ≡ get_or k'.entries (length k'.entries - 1) r → Applied k event r (record k { entries = k.entries ++ r ∷ [] })
lent k k' event r p is = let a = last_made k k' event r p is in subst (λ (z : Kept). Applied k event r z) a.appended a

-- where the entries are read off the journal that the step left
pub read_off : (j j' : Kept) (es' : List Entry) (event : Happening) (mark : Option Mark) (r : Entry) → mark ≡ mark_after j event → MarkedBy (λ m. Continues j m event j') mark → es' ≡ j'.entries → r ≡ get_or es' (length es' - 1) r → Applied j event r j'
read_off j j' es' event mark r clock a same' is = last_made j j' event r (applied j j' event mark clock a) (subst (λ (xs : List Entry). r ≡ get_or xs (length xs - 1) r) same' is)

-- what the entry proposes is noted
pub reports_next : (j j' : Kept) (event : Happening) (r : Entry) (me : ℕ) (old mid new : List (Option Proposal)) → Applied j event r j' → me ≡ j'.me → HoldsProposals j.me j.entries old → ((n : ℕ) → found mid n ≡ found old n)
    → ((es : List Entry) → HoldsProposals me es mid → HoldsProposals me (es ++ r ∷ []) new) → HoldsProposals j'.me j'.entries new
reports_next j j' event r me old mid new a is h same noted =
    let em : j'.me ≡ j.me = ap (λ (k : Kept). k.me) a.appended in
    let ee : j'.entries ≡ j.entries ++ r ∷ [] = ap (λ (k : Kept). k.entries) a.appended in
    let here : HoldsProposals me j.entries mid = subst (λ m. HoldsProposals m j.entries mid) (sym (is ∙ em)) (λ n le. same n ∙ h n le) in
    subst (λ m. HoldsProposals m j'.entries new) is (subst (λ (es : List Entry). HoldsProposals me es new) (sym ee) (noted j.entries here))
