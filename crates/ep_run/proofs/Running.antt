-- How a run over rings gets on, from section to section.
use Rattle.std.proofs.Common.{◌≡◌, ◌≢◌, ℕ, zero, suc, ◌+◌, ◌<◌, ◌≤◌, eqb, cond, Bool, true, false, List, [], ◌∷◌, ◌++◌, length, take, add-one, get_or, refl, sym, ap, subst, ◌∙◌, arith, inl, inr, ◌⊎◌, ⊎_elim, All, append_assoc, length-append, set, get_or-set_same, get_or-set_other}
use Rattle.std.proofs.Math.ListN.{length-set}
use Rattle.std.proofs.lemmas.List.{append-nil, get_or_default}
use Rattle.std.proofs.lemmas.List.Elements.{Contains-append_left, Contains-push}
use Rattle.std.proofs.lemmas.Bool.{cases_lt}
use Rattle.std.proofs.lemmas.Bool.Decides.{eqb_tells}
use mathlib.Core.List.{IsPrefix}
use Rattle.ep_host.specs.Follows.{Works}
use Rattle.ep_host.specs.Host.{IsHost, IsFresh, StartsAs}
use Rattle.ep_host.specs.Node.{Node, fresh_node}
use Rattle.ep_host.specs.Pointwise.{Each}
use Rattle.ep_host.specs.RingFinishing.{replicas_in, their_journals}
use Rattle.ep_host.specs.Tasks.{Use, tasks_in, events_in, refusals_in, place_after}
use Rattle.ep_host.specs.Turns.{AssignsAt}
use Rattle.ep_host.specs.declared.task.Task.{Task}
use Rattle.ep_host.proofs.Following.{tasks_both, events_both, asked_both, refusals_both, places_both}
use Rattle.ep_journal.specs.Entries.{entries_of, first_opening}
use Rattle.ep_journal.specs.declared.entry.Entry.{Entry}
use Rattle.ep_journal.specs.declared.step_fault.StepFault.{StepFault}
use Rattle.ep_replica.specs.Kept.{Kept, first_version, start_of}
use Rattle.ep_replay.specs.Tables.{AreCounted}
use Rattle.ep_replay.specs.declared.clients.Clients.{Clients}
use Rattle.ep_rules.specs.Journals as rules
use Rattle.ep_rules.specs.Journals.{asked_in as asked_in_entries}
use Rattle.ep_rules.specs.Steps.{Event}
use Rattle.ep_rules.specs.Verdicts.{IsOwn, AreOwn}
use Rattle.ep_rules.specs.Worlds.{In}
use Rattle.ep_rules.specs.declared.receipt.Receipt.{Receipt}
use Rattle.ep_rules.proofs.OwnReceipts.{own_stays_lem}
use Rattle.ep_script.specs.Fits.{FitsCluster}
use Rattle.ep_script.specs.Plan.{SectionPlan}
use Rattle.ep_script.specs.declared.agenda_line.AgendaLine.{AgendaLine}
use Rattle.ep_script.specs.declared.agenda_line.AgendaLine.TheVariants.{Propose, GiveUp, Recover}
use Rattle.ep_run.specs.Asking.{asked_of, asked_by, asked_in, proposers_after, proposers_of}
use Rattle.ep_run.specs.Lines.{AreBeginnings, HaveAtMost, count_for, replica_of}
use Rattle.ep_run.specs.Rings.{tasks_at, AreAssigned, AreOf, Begun, Collects, HasUsed, UsesUp, proposers_in, HasRun, entry_counts, given_after, given_at}
use Rattle.ep_run.specs.Sections.{IsSection, AreSections}
use Rattle.ep_replica.specs.Receipts.{receipts_after}
use Rattle.ep_run.specs.declared.ring_run.RingRun.{RingRun}
use Rattle.ep_run.proofs.Turning.{Passes}
use Rattle.ep_journal.specs.Openings.{Opening, no_opening, opens}
use Rattle.ep_journal.proofs.Growing.{entries_append}
use Rattle.ep_base.specs.declared.version.Version.{Version}
use Rattle.ep_base.specs.declared.version_kind.VersionKind.TheVariants.{V2}

-- What is asked.

pub tasks_at_both : (r : ℕ) (xs ys : List (ℕ × (ℕ × Task))) → tasks_at r (xs ++ ys) ≡ tasks_at r xs ++ tasks_at r ys
tasks_at_both r [] ys = refl
tasks_at_both r (x ∷ xs) ys = ap (λ (l : List Task). cond (eqb x.1.0 r) (x.1.1 ∷ []) [] ++ l) (tasks_at_both r xs ys) ∙ sym (append_assoc (cond (eqb x.1.0 r) (x.1.1 ∷ []) []) (tasks_at r xs) (tasks_at r ys))

pub asked_by_both : (ps : List ℕ) (ts : List Receipt) (xs ys : List (ℕ × AgendaLine)) → asked_by ps ts (xs ++ ys) ≡ asked_by ps ts xs ++ asked_by (proposers_of ps xs) ts ys
asked_by_both ps ts [] ys = refl
asked_by_both ps ts (x ∷ xs) ys = ap (λ (l : List (ℕ × (ℕ × Task))). (x.0, asked_of ps ts x.1) ∷ l) (asked_by_both (proposers_after ps x.1) ts xs ys)

-- one section more
pub asked_more :
    (ps : List ℕ) (ss : List SectionPlan) (s : SectionPlan) (before : List (List Receipt)) (ts : List Receipt) → length before ≡ length ss →
    asked_in ps (ss ++ s ∷ []) (before ++ ts ∷ []) ≡ asked_in ps ss before ++ asked_by (proposers_in ps ss) ts s.lines
asked_more ps [] s [] ts len = append-nil (asked_by ps ts s.lines)
asked_more ps [] s (b ∷ bs) ts len = absurd (omega (arith, len))
asked_more ps (x ∷ xs) s [] ts len = absurd (omega (arith, len))
asked_more ps (x ∷ xs) s (b ∷ bs) ts len =
    let shorter : length bs ≡ length xs = omega (arith, len) in
    ap (λ (l : List (ℕ × (ℕ × Task))). asked_by ps b x.lines ++ l) (asked_more (proposers_of ps x.lines) xs s bs ts shorter) ∙ sym (append_assoc (asked_by ps b x.lines) (asked_in (proposers_of ps x.lines) xs bs) (asked_by (proposers_in (proposers_of ps x.lines) xs) ts s.lines))

pub proposers_in_more : (ps : List ℕ) (ss : List SectionPlan) (s : SectionPlan) → proposers_in ps (ss ++ s ∷ []) ≡ proposers_of (proposers_in ps ss) s.lines
proposers_in_more ps [] s = refl
proposers_in_more ps (x ∷ xs) s = proposers_in_more (proposers_of ps x.lines) xs s

-- a line asks its replica
pub asks_replica : (ps : List ℕ) (ts : List Receipt) (l : AgendaLine) → (asked_of ps ts l).0 ≡ replica_of l
asks_replica ps ts (Propose replica client command named) = refl
asks_replica ps ts (GiveUp replica i) = refl
asks_replica ps ts (Recover replica i) = refl

one_or_none : (b : _) (t : Task) → length (cond b (t ∷ []) []) ≡ cond b 1 0
one_or_none true t = refl
one_or_none false t = refl

pub tasks_counted : (r : ℕ) (ps : List ℕ) (ts : List Receipt) (ls : List (ℕ × AgendaLine)) → length (tasks_at r (asked_by ps ts ls)) ≡ count_for r ls
tasks_counted r ps ts [] = refl
tasks_counted r ps ts (l ∷ ls) =
    let t = asked_of ps ts l.1 in
    let here : length (cond (eqb t.0 r) (t.1 ∷ []) []) ≡ cond (eqb (replica_of l.1) r) 1 0 = one_or_none (eqb t.0 r) t.1 ∙ ap (λ (q : ℕ). cond (eqb q r) 1 0) (asks_replica ps ts l.1) in
    omega (arith, length-append (cond (eqb t.0 r) (t.1 ∷ []) []) (tasks_at r (asked_by (proposers_after ps l.1) ts ls)), here, tasks_counted r (proposers_after ps l.1) ts ls)

pub fits_replica : (n : ℕ) (l : AgendaLine) → FitsCluster n l → replica_of l < n
fits_replica n (Propose replica client command named) h = h.0
fits_replica n (GiveUp replica i) h = h.0
fits_replica n (Recover replica i) h = h.0

-- nothing is asked of a replica that there isn't
pub none_asked : (n r : ℕ) (ps : List ℕ) (ts : List Receipt) (ls : List (ℕ × AgendaLine)) → n ≤ r → All (λ (e : ℕ × AgendaLine). FitsCluster n e.1) ls → tasks_at r (asked_by ps ts ls) ≡ []
none_asked n r ps ts [] low fit = refl
none_asked n r ps ts (l ∷ ls) low fit =
    let here : replica_of l.1 < n = fits_replica n l.1 (fit 0 l (omega arith)) in
    let rest : tasks_at r (asked_by (proposers_after ps l.1) ts ls) ≡ [] = none_asked n r (proposers_after ps l.1) ts ls low (λ i d under. fit (suc i) d (omega arith)) in
    ⊎_elim
    (λ (e : _). let same : (asked_of ps ts l.1).0 ≡ r = e.1 in let is = asks_replica ps ts l.1 in absurd (omega (arith, same, is, here, low)))
    (λ (e : _). rw e.0 rest)
    (eqb_tells (asked_of ps ts l.1).0 r)

-- Assigning.

pub assigned_both : (asked more : List (ℕ × (ℕ × Task))) (xs ys zs : List Node) → AreAssigned asked xs ys → AreAssigned more ys zs → AreAssigned (asked ++ more) xs zs
assigned_both asked more xs ys zs h k = record {
  len = k.len ∙ h.len;
  at = λ i d low.
      let low' : i < length ys = omega (arith, low, h.len) in
      let n = get_or xs i d in
      k.at i d low' ∙ ap (λ (m : Node). record m { agenda = m.agenda ++ tasks_at i more }) (h.at i d low)
      ∙ ap (λ (l : List Task). record n { agenda = l }) (append_assoc n.agenda (tasks_at i asked) (tasks_at i more) ∙ ap (λ (l : List Task). n.agenda ++ l) (sym (tasks_at_both i asked more)));
}

asked_here : (i : ℕ) (a : ℕ × (ℕ × Task)) → eqb a.1.0 i ≡ true → tasks_at i (a ∷ []) ≡ a.1.1 ∷ []
asked_here i a e = append-nil (cond (eqb a.1.0 i) (a.1.1 ∷ []) []) ∙ ap (λ (b : Bool). cond b (a.1.1 ∷ []) []) e

asked_elsewhere : (i : ℕ) (a : ℕ × (ℕ × Task)) → eqb a.1.0 i ≡ false → tasks_at i (a ∷ []) ≡ []
asked_elsewhere i a e = append-nil (cond (eqb a.1.0 i) (a.1.1 ∷ []) []) ∙ ap (λ (b : Bool). cond b (a.1.1 ∷ []) []) e

with_tasks : Node → List Task → Node
with_tasks n ts = record n { agenda = n.agenda ++ ts }

pub assigned_at : (a : ℕ × (ℕ × Task)) (xs ys : List Node) → a.1.0 < length xs → AssignsAt a.1.0 a.1.1 xs ys → AreAssigned (a ∷ []) xs ys
unfolding with_tasks
assigned_at a xs ys low h = record {
  len = ap (λ (l : List Node). length l) h.is ∙ length-set xs a.1.0 h.node;
  at = λ i d under. ⊎_elim
      (λ (e : (eqb a.1.0 i ≡ true) × (a.1.0 ≡ i)).
      let there : get_or ys i d ≡ h.node = ap (λ (l : List Node). get_or l i d) h.is ∙ ap (λ (j : ℕ). get_or (set xs a.1.0 h.node) j d) (sym e.1) ∙ get_or-set_same xs a.1.0 h.node d low in
      let moved : h.node ≡ with_tasks (get_or xs i d) (a.1.1 ∷ []) = h.assigned d ∙ ap (λ (j : ℕ). with_tasks (get_or xs j d) (a.1.1 ∷ [])) e.1 in
      let all : get_or ys i d ≡ with_tasks (get_or xs i d) (tasks_at i (a ∷ [])) = there ∙ moved ∙ ap (with_tasks (get_or xs i d)) (sym (asked_here i a e.0)) in all)
      (λ (e : (eqb a.1.0 i ≡ false) × (a.1.0 ≢ i)).
      let other : i ≢ a.1.0 = λ s. e.1 (sym s) in
      let there : get_or ys i d ≡ get_or xs i d = ap (λ (l : List Node). get_or l i d) h.is ∙ get_or-set_other xs a.1.0 i h.node d other in
      let still : get_or xs i d ≡ with_tasks (get_or xs i d) [] = ap (λ (l : List Task). record (get_or xs i d) { agenda = l }) (sym (append-nil (get_or xs i d).agenda)) in
      let all : get_or ys i d ≡ with_tasks (get_or xs i d) (tasks_at i (a ∷ [])) = there ∙ still ∙ ap (with_tasks (get_or xs i d)) (sym (asked_elsewhere i a e.0)) in all)
      (eqb_tells a.1.0 i);
}

-- Beginnings.

prefix_self : (xs : List Receipt) → IsPrefix xs xs
prefix_self xs = ([], append-nil xs)

pub beginnings_longer : (before : List (List Receipt)) (xs more : List Receipt) → AreBeginnings before xs → AreBeginnings before (xs ++ more)
beginnings_longer [] xs more h = tt
beginnings_longer (b ∷ []) xs more h = (h.0 ++ more, sym (append_assoc b h.0 more) ∙ ap (λ (l : List Receipt). l ++ more) h.1)
beginnings_longer (b ∷ c ∷ cs) xs more h = (h.0, beginnings_longer (c ∷ cs) xs more h.1)

pub beginnings_more : (before : List (List Receipt)) (xs : List Receipt) → AreBeginnings before xs → AreBeginnings (before ++ xs ∷ []) xs
beginnings_more [] xs h = prefix_self xs
beginnings_more (b ∷ []) xs h = (h, prefix_self xs)
beginnings_more (b ∷ c ∷ cs) xs h = (h.0, beginnings_more (c ∷ cs) xs h.1)

-- Receipts.

own_works : (a b : Node) (t : Receipt) → Works a b → IsOwn (opens a.replica.opening) a.replica.faults a.replica.me (entries_of a.replica.entries) t → IsOwn (opens b.replica.opening) b.replica.faults b.replica.me (entries_of b.replica.entries) t
own_works a b t h own =
    let grown : entries_of b.replica.entries ≡ entries_of a.replica.entries ++ entries_of h.entries = ap entries_of h.journal ∙ entries_append a.replica.entries h.entries in
    let base = opens a.replica.opening in
    subst (λ (o : Opening). IsOwn (opens o) b.replica.faults b.replica.me (entries_of b.replica.entries) t) (sym (ap (λ (s : Version × Opening). s.1) h.start))
    (subst (λ (f : ℕ). IsOwn base f b.replica.me (entries_of b.replica.entries) t) (sym h.faults)
    (subst (λ (r : ℕ). IsOwn base a.replica.faults r (entries_of b.replica.entries) t) (sym h.me)
    (subst (λ (es : List rules.Entry). IsOwn base a.replica.faults a.replica.me es t) (sym grown) (own_stays_lem base a.replica.faults a.replica.me (entries_of a.replica.entries) (entries_of h.entries) t own))))

-- the receipts of nodes are still theirs after what the nodes do
pub of_related : (R : Node → Node → Type 0) (xs ys : List Node) (ts : List Receipt) → ((a b : Node) (t : Receipt) → R a b → IsOwn (opens a.replica.opening) a.replica.faults a.replica.me (entries_of a.replica.entries) t → IsOwn (opens b.replica.opening) b.replica.faults b.replica.me (entries_of b.replica.entries) t) →
    Each R xs ys → AreOf xs ts → AreOf ys ts
of_related R xs ys ts keeps each own t h =
    let o = own t h in (o.0, omega (arith, o.1, each.len), λ d. keeps (get_or xs o.0 d) (get_or ys o.0 d) t (each.at o.0 d o.1) (o.2 d))

pub of_passes : (xs ys : List Node) (ts : List Receipt) (turns : ℕ) → Each (Passes turns) xs ys → AreOf xs ts → AreOf ys ts
of_passes xs ys ts turns each own = of_related (Passes turns) xs ys ts (λ a b t h. own_works a b t h.works) each own

pub of_assigned : (asked : List (ℕ × (ℕ × Task))) (xs ys : List Node) (ts : List Receipt) → AreAssigned asked xs ys → AreOf xs ts → AreOf ys ts
of_assigned asked xs ys ts h own t is =
    let o = own t is in (
      o.0,
      omega (arith, o.1, h.len),
      λ d. subst (λ (k : Kept). IsOwn (opens k.opening) k.faults k.me (entries_of k.entries) t) (sym (ap (λ (n : Node). n.replica) (h.at o.0 d o.1))) (o.2 d),
    )

in_both : (t : Receipt) (xs ys : List Receipt) → In t (xs ++ ys) → In t xs ⊎ In t ys
in_both t [] ys h = inr h
in_both t (x ∷ xs) ys (inl e) = inl (inl e)
in_both t (x ∷ xs) ys (inr h) = elim (in_both t xs ys h) [ inl l ↦ inl (inr l) | inr r ↦ inr r ]

pub of_both : (nodes : List Node) (xs ys : List Receipt) → AreOf nodes xs → AreOf nodes ys → AreOf nodes (xs ++ ys)
of_both nodes xs ys h k t is = elim (in_both t xs ys is) [ inl l ↦ h t l | inr r ↦ k t r ]

pub counts_more : (nodes : List Node) (n : Node) → entry_counts (nodes ++ n ∷ []) ≡ entry_counts nodes ++ length n.replica.entries ∷ []
counts_more [] n = refl
counts_more (m ∷ ms) n = ap (λ (l : List ℕ). length m.replica.entries ∷ l) (counts_more ms n)

pub counts_long : (nodes : List Node) (marks : List ℕ) → marks ≡ entry_counts nodes → length marks ≡ length nodes
counts_long nodes marks is = ap (λ (l : List ℕ). length l) is ∙ all nodes
  where
    all : (ns : List Node) → length (entry_counts ns) ≡ length ns
    all [] = refl
    all (n ∷ ns) = ap (λ (k : ℕ). suc k) (all ns)

-- one node more
given_more : (k : ℕ) (marks : List ℕ) (nodes : List Node) (d : Node) → k < length marks → length marks ≡ length nodes → given_after (take (suc k) marks) nodes ≡ given_after (take k marks) nodes ++ given_at k marks nodes d
given_more k [] nodes d low len = absurd (omega (arith, low))
given_more k (m ∷ ms) [] d low len = absurd (omega (arith, len))
given_more zero (m ∷ ms) (n ∷ ns) d low len = append-nil (receipts_after n.replica.me m (entries_of n.replica.entries))
given_more (suc k) (m ∷ ms) (n ∷ ns) d low len =
    let here = receipts_after n.replica.me m (entries_of n.replica.entries) in
    ap (λ (l : List Receipt). here ++ l) (given_more k ms ns d (omega (arith, low)) (omega (arith, len))) ∙ sym (append_assoc here (given_after (take k ms) ns) (given_at k ms ns d))

pub collects_more :
    (k : ℕ) (marks : List ℕ) (nodes : List Node) (d : Node) (a b c : Clients) (xs ys zs : List Receipt) → k < length marks → length marks ≡ length nodes → Collects (given_after (take k marks) nodes) nodes a xs b ys →
    Collects (given_at k marks nodes d) nodes b ys c zs → Collects (given_after (take (k + 1) marks) nodes) nodes a xs c zs
collects_more k marks nodes d a b c xs ys zs low len h j =
    let before = given_after (take k marks) nodes in
    let now = given_at k marks nodes d in
    let all : given_after (take (k + 1) marks) nodes ≡ before ++ now = rw add-one (given_more k marks nodes d low len) in
    let both : Collects (before ++ now) nodes a xs c zs = record {
      is = j.is ∙ ap (λ (l : List Receipt). l ++ now) h.is ∙ append_assoc xs before now;
      own = of_both nodes before now h.own j.own;
      counted = λ ps counted. j.counted ps (h.counted ps counted);
    } in
    subst (λ (l : List Receipt). Collects l nodes a xs c zs) (sym all) both

pub collects_none : (marks : List ℕ) (nodes : List Node) (a : Clients) (xs : List Receipt) → Collects (given_after (take 0 marks) nodes) nodes a xs a xs
collects_none marks nodes a xs = record { is = sym (append-nil xs); own = λ t h. absurd h; counted = λ ps counted. counted }

-- Sections.

pub sections_more :
    (turns : ℕ) (ss : List SectionPlan) (s : SectionPlan) (ps : List ℕ) (before between after : List Receipt) (xs ys zs : List Node) → AreSections turns ss ps before between xs ys →
    IsSection turns s (proposers_in ps ss) between after ys zs → AreSections turns (ss ++ s ∷ []) ps before after xs zs
sections_more turns [] s ps before between after xs ys zs h k =
    (after, zs, subst (λ (p : List Receipt × List Node). IsSection turns s ps p.0 after p.1 zs) (λ i. (h.0 i, h.1 i)) k, (refl, refl))
sections_more turns (x ∷ xs') s ps before between after xs ys zs h k = (h.0, h.1, h.2, sections_more turns xs' s (proposers_of ps x.lines) h.0 between after h.1 ys zs h.3 k)

-- Agendas.

-- what has been used up after more was asked, and turns
used_more :
    (used : List Use) (left ts : List Task) (a b c : Node) → HasUsed used left a → b ≡ record a { agenda = a.agenda ++ ts } → (h : Works b c) →
    (left ++ ts ≡ tasks_in h.used ++ c.agenda) × HasUsed (used ++ h.used) c.agenda c
used_more used left ts a b c u is h = (
  ap (λ (l : List Task). l ++ ts) (sym u.agenda) ∙ sym (ap (λ (n : Node). n.agenda) is) ∙ h.agenda,
  record {
    agenda = refl;
    asked =
        ap (λ (es : List Entry). asked_in_entries (entries_of es)) h.journal ∙ asked_both b.replica.entries h.entries
        ∙ ap (λ (n : Node). asked_in_entries (entries_of n.replica.entries) ++ asked_in_entries (entries_of h.entries)) is
        ∙ ap (λ (l : List Event). l ++ asked_in_entries (entries_of h.entries)) u.asked ∙ ap (λ (l : List Event). events_in used ++ l) h.asked ∙ sym (events_both used h.used);
    refused =
        let place : b.used ≡ place_after 0 used = ap (λ (n : Node). n.used) is ∙ u.place in
        h.refused ∙ ap (λ (n : Node). n.refused ++ refusals_in b.used h.used) is ∙ ap (λ (l : List (ℕ × StepFault)). l ++ refusals_in b.used h.used) u.refused
        ∙ ap (λ (p : ℕ). refusals_in 0 used ++ refusals_in p h.used) place ∙ sym (refusals_both 0 used h.used);
    place = h.place ∙ ap (λ (p : ℕ). place_after p h.used) (ap (λ (n : Node). n.used) is ∙ u.place) ∙ sym (places_both 0 used h.used);
  },
)

-- a node that there isn't
abbrev pub blank : Node
blank = fresh_node (record { version = V2; faults = 0; me = 0; opening = no_opening; entries = [] })

pub uses_more :
    (r turns : ℕ) (tasks : List Task) (asked : List (ℕ × (ℕ × Task))) (xs ys zs : List Node) → UsesUp r tasks xs → AreAssigned asked xs ys → Each (Passes turns) ys zs →
    (length xs ≤ r → tasks_at r asked ≡ []) → UsesUp r (tasks ++ tasks_at r asked) zs
uses_more r turns tasks asked xs ys zs u given each none = ⊎_elim
    (λ (low : r < length xs).
    let more = tasks_at r asked in
    let c = get_or zs r blank in
    let low' : r < length ys = omega (arith, low, given.len) in
    let low'' : r < length zs = omega (arith, low', each.len) in
    let h : Works (get_or ys r blank) c = (each.at r blank low').works in
    let m = used_more u.used u.left more (get_or xs r blank) (get_or ys r blank) c (u.node blank low) (given.at r blank low) h in
    let all : UsesUp r (tasks ++ more) zs = record {
      used = u.used ++ h.used;
      left = c.agenda;
      parts =
          ap (λ (l : List Task). l ++ more) u.parts ∙ append_assoc (tasks_in u.used) u.left more ∙ ap (λ (l : List Task). tasks_in u.used ++ l) m.0
          ∙ sym (append_assoc (tasks_in u.used) (tasks_in h.used) c.agenda) ∙ ap (λ (l : List Task). l ++ c.agenda) (sym (tasks_both u.used h.used));
      node = λ d under. subst (λ (n : Node). HasUsed (u.used ++ h.used) c.agenda n) (get_or_default zs r blank d low'') m.1;
      others = λ high. absurd (omega (arith, high, low''));
    } in all)
    (λ (high : length xs ≤ r).
    let o = u.others high in
    let all : UsesUp r (tasks ++ tasks_at r asked) zs = record {
      used = u.used;
      left = u.left;
      parts = ap (λ (l : List Task). tasks ++ l) (none high) ∙ append-nil tasks ∙ u.parts;
      node = λ d under. absurd (omega (arith, high, under, given.len, each.len));
      others = λ _. o;
    } in all)
    (cases_lt r (length xs))

-- Before any section.

pub has_begun :
    (c : ℕ) (b : Begun) (turns : ℕ) (s : RingRun) → IsHost b.faults s.nodes.items → All (IsFresh c) s.nodes.items → All (StartsAs b.version b.opening) s.nodes.items →
    s.receipts.items ≡ [] → AreCounted s.clients [] [] → s.collected.items ≡ entry_counts s.nodes.items → HasRun b turns [] s
has_begun c b turns s host fresh start none counted collected = record {
  host = host;
  collected = collected;
  start = start;
  own = subst (λ (l : List Receipt). AreOf s.nodes.items l) (sym none) (λ t h. absurd h);
  counted = subst (λ (l : List Receipt). AreCounted s.clients [] l) (sym none) counted;
  before = [];
  given = tt;
  sectioned = refl;
  used = λ r. record {
    used = [];
    left = [];
    parts = refl;
    node = λ d low.
        let n = fresh r d low in record {
          agenda = n.agenda;
          asked = ap (λ (es : List Entry). asked_in_entries (entries_of es)) n.entries;
          refused = n.refused;
          place = n.used;
        };
    others = λ high. (refl, refl);
  };
  none_left = λ most i d low. (fresh i d low).agenda;
}

-- One section more.

empty_short : (l : List Task) → length l ≤ 0 → l ≡ []
empty_short [] low = refl
empty_short (t ∷ ts) low = absurd (omega (arith, low))

most_before : (turns : ℕ) (ss : List SectionPlan) (s : SectionPlan) → HaveAtMost turns (ss ++ s ∷ []) → HaveAtMost turns ss
most_before turns ss s h x is = h x (Contains-append_left ss (s ∷ []) x is)

most_last : (turns : ℕ) (ss : List SectionPlan) (s : SectionPlan) → HaveAtMost turns (ss ++ s ∷ []) → (r : ℕ) → count_for r s.lines ≤ turns
most_last turns ss s h r = h s (Contains-push ss s) r

pub has_run :
    (b : Begun) (turns : ℕ) (done : List SectionPlan) (s : SectionPlan) (old new : RingRun) (middle : List Node) (clients : Clients) → HasRun b turns done old →
    All (λ (e : ℕ × AgendaLine). FitsCluster (length old.nodes.items) e.1) s.lines → AreAssigned (asked_by (proposers_in [] done) old.receipts.items s.lines) old.nodes.items middle →
    AreCounted clients (proposers_of (proposers_in [] done) s.lines) old.receipts.items → Each (Passes turns) middle new.nodes.items → IsHost b.faults new.nodes.items →
    (more : List Receipt) → Collects more new.nodes.items clients old.receipts.items new.clients new.receipts.items → new.collected.items ≡ entry_counts new.nodes.items → HasRun b turns (done ++ s ∷ []) new
has_run b turns done s old new middle clients h fit given counted each host more collects collected =
    let ps = proposers_in [] done in
    let ts = old.receipts.items in
    let asked = asked_by ps ts s.lines in
    let before = h.before ++ ts ∷ [] in
    let len : length h.before ≡ length done = h.sectioned in
    let of : AreOf new.nodes.items ts = of_passes middle new.nodes.items ts turns each (of_assigned asked old.nodes.items middle ts given h.own) in
    let all : asked_in [] (done ++ s ∷ []) before ≡ asked_in [] done h.before ++ asked = asked_more [] done s h.before ts len in record {
      host = host;
      collected = collected;
      start = λ i d low.
          let low' : i < length middle = omega (arith, low, each.len) in
          let low'' : i < length old.nodes.items = omega (arith, low', given.len) in
          (each.at i d low').works.start ∙ ap (λ (n : Node). start_of n.replica) (given.at i d low'') ∙ h.start i d low'';
      own = subst (λ (l : List Receipt). AreOf new.nodes.items l) (sym collects.is) (of_both new.nodes.items ts more of collects.own);
      counted = collects.counted (proposers_in [] (done ++ s ∷ [])) (subst (λ (l : List ℕ). AreCounted clients l ts) (sym (proposers_in_more [] done s)) counted);
      before = before;
      given = subst (λ (l : List Receipt). AreBeginnings before l) (sym collects.is) (beginnings_longer before ts more (beginnings_more h.before ts h.given));
      sectioned = omega (arith, len, length-append h.before (ts ∷ []), length-append done (s ∷ []));
      used = λ r.
          subst (λ (l : List Task). UsesUp r l new.nodes.items) (sym (ap (tasks_at r) all ∙ tasks_at_both r (asked_in [] done h.before) asked))
          (uses_more r turns (tasks_at r (asked_in [] done h.before)) asked old.nodes.items middle new.nodes.items (h.used r) given each
          (λ high. none_asked (length old.nodes.items) r ps ts s.lines high fit));
      none_left = λ most i d low.
          let low' : i < length middle = omega (arith, low, each.len) in
          let low'' : i < length old.nodes.items = omega (arith, low', given.len) in
          let was : (get_or old.nodes.items i d).agenda ≡ [] = h.none_left (most_before turns done s most) i d low'' in
          let is : (get_or middle i d).agenda ≡ tasks_at i asked = ap (λ (n : Node). n.agenda) (given.at i d low'') ∙ ap (λ (l : List Task). l ++ tasks_at i asked) was in
          let short = (each.at i d low').agenda in
          let all' = ap (λ (l : List Task). length l) is in
          empty_short (get_or new.nodes.items i d).agenda (omega (arith, short, all', tasks_counted i ps ts s.lines, most_last turns done s most i));
    }

-- Receipts of the nodes' own are own by the journals.

entries_at : (nodes : List Node) (r : ℕ) (d : Node) → r < length nodes → their_journals (replicas_in nodes) r ≡ entries_of (get_or nodes r d).replica.entries
entries_at [] r d low = absurd (omega (arith, low))
entries_at (n ∷ ns) zero d low = refl
entries_at (n ∷ ns) (suc r) d low = entries_at ns r d (omega (arith, low))

first_opens : (nodes : List Node) (d : Node) → 0 < length nodes → first_opening (replicas_in nodes) ≡ (get_or nodes 0 d).replica.opening
first_opens [] d some = absurd (omega (arith, some))
first_opens (n ∷ ns) d some = refl

first_is : (nodes : List Node) (d : Node) → 0 < length nodes → first_version (replicas_in nodes) ≡ (get_or nodes 0 d).replica.version
first_is [] d some = absurd (omega (arith, some))
first_is (n ∷ ns) d some = refl

some_node : (f : ℕ) (nodes : List Node) → IsHost f nodes → 0 < length nodes
some_node f nodes host = let count = host.count in omega arith

-- the journals are of the version, and have the opening, that the run began with
pub version_is : (b : Begun) (turns : ℕ) (ss : List SectionPlan) (s : RingRun) → HasRun b turns ss s → first_version (replicas_in s.nodes.items) ≡ b.version
version_is b turns ss s h = let some = some_node b.faults s.nodes.items h.host in first_is s.nodes.items blank some ∙ ap (λ (p : Version × Opening). p.0) (h.start 0 blank some)

pub opening_is : (b : Begun) (turns : ℕ) (ss : List SectionPlan) (s : RingRun) → HasRun b turns ss s → first_opening (replicas_in s.nodes.items) ≡ b.opening
opening_is b turns ss s h = let some = some_node b.faults s.nodes.items h.host in first_opens s.nodes.items blank some ∙ ap (λ (p : Version × Opening). p.1) (h.start 0 blank some)

pub of_own : (f : ℕ) (nodes : List Node) (ts : List Receipt) → IsHost f nodes → AreOf nodes ts → AreOwn (opens (first_opening (replicas_in nodes))) f (their_journals (replicas_in nodes)) ts
of_own f nodes ts host of t is =
    let o = of t is in
    let n = get_or nodes o.0 blank in
    let some : 0 < length nodes = some_node f nodes host in
    let same : n.replica.opening ≡ first_opening (replicas_in nodes) = ap (λ (p : Version × Opening). p.1) (host.start o.0 blank o.1) ∙ sym (first_opens nodes blank some) in
    let base = opens (first_opening (replicas_in nodes)) in
    let own : IsOwn base n.replica.faults n.replica.me (entries_of n.replica.entries) t = subst (λ (q : Opening). IsOwn (opens q) n.replica.faults n.replica.me (entries_of n.replica.entries) t) same (o.2 blank) in (
      o.0,
      subst (λ (es : List rules.Entry). IsOwn base f o.0 es t) (sym (entries_at nodes o.0 blank o.1))
          (subst (λ (q : ℕ). IsOwn base f q (entries_of n.replica.entries) t) (host.me o.0 blank o.1) (subst (λ (q : ℕ). IsOwn base q n.replica.me (entries_of n.replica.entries) t) (host.faults o.0 blank o.1) own)),
    )
