-- The table of proposals with one entry more.
use Rattle.std.proofs.Common.{◌≡◌, ◌≢◌, ℕ, ◌<◌, ◌≤◌, length, cond, Bool, true, false, eqb, Option, Some, None, List, [], ◌∷◌, ◌++◌, refl, sym, ap, subst, ◌∙◌, arith, set, slice_get}
use Rattle.std.proofs.lemmas.Bool.{eqb-true, eqb-false, eq-eqb, ne_eqb}
use Rattle.std.proofs.lemmas.Option.{none-some}
use Rattle.std.proofs.lemmas.List.{get_or-set_same, get_or-set_other}
use Rattle.ep_base.specs.Instances.{instance_of, leader_of, number_of, highest_number}
use Rattle.ep_base.specs.Messages.{instance_of_message}
use Rattle.ep_base.specs.Commands.{Command}
use Rattle.ep_frame.specs.Meaning.{message_at}
use Rattle.ep_rules.specs.Journals as rules
use Rattle.ep_journal.specs.Entries.{entry_of, entries_of, frames_at}
use Rattle.ep_journal.specs.Events.{event_of}
use Rattle.ep_journal.specs.declared.entry.Entry.{Entry}
use Rattle.ep_journal.specs.declared.event.Event.{Event as Happening}
use Rattle.ep_journal.specs.declared.event.Event.TheVariants.{Propose}
use Rattle.ep_replica.specs.Receipts.{proposed_by, proposal_of, or_else}
use Rattle.ep_replica.specs.Slots.{found, named, HasPlace, HoldsProposals}
use Rattle.ep_replica.specs.declared.proposal.Proposal.{Proposal}
use Rattle.ep_journal.proofs.Growing.{entries_grow}

or_else_assoc : (a b c : Option Proposal) → or_else (or_else a b) c ≡ or_else a (or_else b c)
or_else_assoc None b c = refl
or_else_assoc (Some p) b c = refl

proposal_grows : (es : List rules.Entry) (e : rules.Entry) (i : ℕ) → proposal_of (es ++ e ∷ []) i ≡ or_else (proposed_by e.event e.out i) (proposal_of es i)
proposal_grows [] e i = go (proposed_by e.event e.out i)
  where
    go : (p : Option Proposal) → p ≡ or_else p None
    go None = refl
    go (Some p) = refl
proposal_grows (x ∷ es) e i = ap (λ p. or_else p (proposed_by x.event x.out i)) (proposal_grows es e i) ∙ or_else_assoc (proposed_by e.event e.out i) (proposal_of es i) (proposed_by x.event x.out i)

pub grows : (es : List Entry) (e : Entry) (i : ℕ) → proposal_of (entries_of (es ++ e ∷ [])) i ≡ or_else (proposed_by (event_of e.event) (frames_at e.frames) i) (proposal_of (entries_of es) i)
grows es e i = ap (λ xs. proposal_of xs i) (entries_grow es e) ∙ proposal_grows (entries_of es) (entry_of e) i

-- an entry that proposes nothing of the replica's own changes nothing
pub still_reports : (me : ℕ) (es : List Entry) (e : Entry) (slots : List (Option Proposal)) → ((number : ℕ) → number ≤ highest_number → proposed_by (event_of e.event) (frames_at e.frames) (instance_of me number) ≡ None)
    → HoldsProposals me es slots → HoldsProposals me (es ++ e ∷ []) slots
still_reports me es e slots nothing reports number low =
    reports number low ∙ sym (grows es e (instance_of me number) ∙ ap (λ p. or_else p (proposal_of (entries_of es) (instance_of me number))) (nothing number low))

-- there is a place for an own proposal
pub own_place : (me : ℕ) (e : Entry) (slots : List (Option Proposal)) (j n : ℕ) (p : Proposal) → HasPlace me e slots → leader_of j ≡ me → n ≡ number_of j → number_of j ≤ highest_number
    → ((i : ℕ) → proposed_by (event_of e.event) (frames_at e.frames) i ≡ named (Some (j, p)) i) → n < length slots
own_place me e slots j n p place own at low is =
    let here : instance_of me n ≡ j = omega arith in
    let some : named (Some (j, p)) j ≡ Some p = ap (λ b. cond b (Some p) None) (eq-eqb j j refl) in
    place n (omega (arith, at, low)) (λ none. (let e : None ≡ Some p = sym none ∙ ap (λ i. proposed_by (event_of e.event) (frames_at e.frames) i) here ∙ is j ∙ some in absurd (none-some p e)))

-- places up to a number are enough for the entry that proposes that instance
pub place_for : (me : ℕ) (e : Entry) (slots : List (Option Proposal)) (j n : ℕ) (p : Proposal) → n ≡ number_of j → n < length slots → ((i : ℕ) → proposed_by (event_of e.event) (frames_at e.frames) i ≡ named (Some (j, p)) i) → HasPlace me e slots
place_for me e slots j n p at room is number limit some = go (eqb j (instance_of me number)) refl
  where
    go : (b : Bool) → eqb j (instance_of me number) ≡ b → number < length slots
    go true test = (let this : j ≡ instance_of me number = eqb-true j (instance_of me number) test in omega (arith, this, at, room, limit))
    go false test = absurd (some (is (instance_of me number) ∙ ap (λ b. cond b (Some p) None) test))

pub place_for_none : (me : ℕ) (e : Entry) (slots : List (Option Proposal)) → ((i : ℕ) → proposed_by (event_of e.event) (frames_at e.frames) i ≡ named None i) → HasPlace me e slots
place_for_none me e slots is number limit some = absurd (some (is (instance_of me number)))

-- an own proposal is put at its number
pub reports_more : (me : ℕ) (es : List Entry) (e : Entry) (slots : List (Option Proposal)) (j n : ℕ) (p : Proposal) → n < length slots → leader_of j ≡ me → n ≡ number_of j → number_of j ≤ highest_number
    → ((i : ℕ) → proposed_by (event_of e.event) (frames_at e.frames) i ≡ named (Some (j, p)) i)
    → HoldsProposals me es slots → HoldsProposals me (es ++ e ∷ []) (set slots n (Some p))
reports_more me es e slots j n p room own n_is low is reports number limit = go (eqb j (instance_of me number)) refl
  where
    rest : Option Proposal
    rest = proposal_of (entries_of es) (instance_of me number)

    go : (b : Bool) → eqb j (instance_of me number) ≡ b → found (set slots n (Some p)) number ≡ proposal_of (entries_of (es ++ e ∷ [])) (instance_of me number)
    go true test =
        let this : j ≡ instance_of me number = eqb-true j (instance_of me number) test in
        let same : n ≡ number = omega arith in
        let at : found (set slots n (Some p)) number ≡ Some p = subst (λ m. found (set slots n (Some p)) m ≡ Some p) same (get_or-set_same slots n (Some p) None (omega arith)) in
        at ∙ sym (grows es e (instance_of me number) ∙ ap (λ q. or_else q rest) (is (instance_of me number) ∙ ap (λ b. cond b (Some p) None) test))
    go false test =
        let apart : j ≢ instance_of me number = eqb-false j (instance_of me number) test in
        let other : number ≢ n = omega arith in
        get_or-set_other slots n number (Some p) None other ∙ reports number limit
        ∙ sym (grows es e (instance_of me number) ∙ ap (λ q. or_else q rest) (is (instance_of me number) ∙ ap (λ b. cond b (Some p) None) test))

-- one that another replica leads is not kept
pub others_report : (me : ℕ) (es : List Entry) (e : Entry) (slots : List (Option Proposal)) (j : ℕ) (p : Proposal) → leader_of j ≢ me → ((i : ℕ) → proposed_by (event_of e.event) (frames_at e.frames) i ≡ named (Some (j, p)) i)
    → HoldsProposals me es slots → HoldsProposals me (es ++ e ∷ []) slots
others_report me es e slots j p other is reports =
    still_reports me es e slots
    (λ number limit. is (instance_of me number) ∙ ap (λ b. cond b (Some p) None) (ne_eqb j (instance_of me number) (λ same. other (let this : j ≡ instance_of me number = same in omega arith)))) reports

-- what an entry proposes, by its first frame
pub proposal_is : (e : Entry) (client request : ℕ) (command : Command) (seen : ℕ) (spared : Option ℕ) (b : List ℕ) (j : ℕ) → e.event ≡ Propose client request command seen spared → Some b ≡ slice_get e.frames 0 → j ≡ instance_of_message (message_at b)
    → (i : ℕ) → proposed_by (event_of e.event) (frames_at e.frames) i ≡ named (Some (j, record { client = client; request = request; seen = seen })) i
proposal_is e client request command seen spared b j is first about i = ap (λ (v : Happening). proposed_by (event_of v) (frames_at e.frames) i) is ∙ go e.frames first
  where
    go : (fs : List (List ℕ)) → Some b ≡ slice_get fs 0 → proposed_by (event_of (Propose client request command seen spared)) (frames_at fs) i ≡ named (Some (j, record { client = client; request = request; seen = seen })) i
    go [] first = absurd (cc)
    go (f ∷ fs) first =
        let same : b ≡ f = (let s : Some b ≡ Some f = first in cc) in
        ap (λ n. cond (eqb n i) (Some (record { client = client; request = request; seen = seen })) None) (sym (about ∙ ap (λ (x : List ℕ). instance_of_message (message_at x)) same))

-- before any entry
pub nothing_reported : (me : ℕ) (es : List Entry) (slots : List (Option Proposal)) → es ≡ [] → slots ≡ [] → HoldsProposals me es slots
nothing_reported me es slots none empty number low =
    ap (λ (xs : List (Option Proposal)). found xs number) empty ∙ sym (ap (λ (xs : List Entry). proposal_of (entries_of xs) (instance_of me number)) none)
