-- Where a replica's own instances were first executed, with one entry more, and the receipts of these executions.
use Rattle.std.proofs.Common.{◌≡◌, ℕ, suc, ◌+◌, ◌≤◌, length, cond, Bool, true, false, eqb, Option, Some, None, List, [], ◌∷◌, ◌++◌, refl, sym, ap, subst, ◌∙◌, arith, slice_get}
use Rattle.std.proofs.lemmas.Bool.{eqb-true}
use Rattle.std.proofs.lemmas.Option.{same_Some}
use Rattle.ep_base.specs.Instances.{instance_of, leader_of, number_of, highest_number}
use Rattle.ep_base.specs.declared.reply.Answer.{Answer}
use Rattle.ep_rules.specs.Journals as rules
use Rattle.ep_rules.specs.declared.receipt.Receipt.{Receipt}
use Rattle.ep_journal.specs.Entries.{Log, entry_of, entries_of}
use Rattle.ep_journal.specs.declared.entry.Entry.{Entry}
use Rattle.ep_journal.specs.declared.event.Event.{Event as Happening}
use Rattle.ep_replica.specs.Applied.{Applied}
use Rattle.ep_replica.specs.FirstExecutions.{or_spot, first_among, first_done, spot_at, AreFirsts, reported_done, reported_in, reported_at}
use Rattle.ep_replica.specs.Kept.{Kept}
use Rattle.ep_replica.specs.Outcomes.{receipt, or_this, reported_among, reported_by}
use Rattle.ep_replica.specs.Receipts.{proposal_of, own_proposal, outcome_of}
use Rattle.ep_replica.specs.declared.proposal.Proposal.{Proposal}
use Rattle.ep_replica.specs.declared.execution_place.ExecutionPlace.{ExecutionPlace}
use Rattle.ep_replica.proofs.Outcomes.{reported_first}

or_none : (s : Option ExecutionPlace) → or_spot s None ≡ s
or_none None = refl
or_none (Some s) = refl

or_assoc : (a b c : Option ExecutionPlace) → or_spot (or_spot a b) c ≡ or_spot a (or_spot b c)
or_assoc None b c = refl
or_assoc (Some s) b c = refl

-- One entry more.

done_grows : (n : ℕ) (es : List Entry) (e : Entry) (i : ℕ) → first_done n (es ++ e ∷ []) i ≡ or_spot (first_done n es i) (first_among (n + length es) 0 e.done i)
done_grows n [] e i =
    let at : n ≡ n + 0 = omega arith in
    or_none (first_among n 0 e.done i) ∙ ap (λ m. first_among m 0 e.done i) at
done_grows n (x ∷ es) e i =
    let at : suc n + length es ≡ n + suc (length es) = omega arith in
    ap (or_spot (first_among n 0 x.done i)) (done_grows (suc n) es e i ∙ ap (λ m. or_spot (first_done (suc n) es i) (first_among m 0 e.done i)) at)
    ∙ sym (or_assoc (first_among n 0 x.done i) (first_done (suc n) es i) (first_among (n + suc (length es)) 0 e.done i))

pub firsts_more : (me n : ℕ) (es : List Entry) (e : Entry) (old new : List (Option ExecutionPlace)) → length es ≡ n → AreFirsts me es old
    → ((number : ℕ) → number ≤ highest_number → spot_at new number ≡ or_spot (spot_at old number) (first_among n 0 e.done (instance_of me number)))
    → AreFirsts me (es ++ e ∷ []) new
firsts_more me n es e old new count firsts noted number low =
    let at : n ≡ 0 + length es = omega (arith, count) in
    noted number low ∙ ap (λ o. or_spot o (first_among n 0 e.done (instance_of me number))) (firsts number low)
    ∙ ap (λ m. or_spot (first_done 0 es (instance_of me number)) (first_among m 0 e.done (instance_of me number))) at
    ∙ sym (done_grows 0 es e (instance_of me number))

pub firsts_next : (j j' : Log) (event : Happening) (r : Entry) (me n : ℕ) (old mid new : List (Option ExecutionPlace)) → Applied j event r j' → me ≡ j'.me → n ≡ length j.entries → AreFirsts j.me j.entries old
    → ((number : ℕ) → spot_at mid number ≡ spot_at old number) → ((es : List Entry) → length es ≡ n → AreFirsts me es mid → AreFirsts me (es ++ r ∷ []) new) → AreFirsts j'.me j'.entries new
firsts_next j j' event r me n old mid new a is count h same marked =
    let em : j'.me ≡ j.me = ap (λ (k : Kept). k.me) a.appended in
    let ee : j'.entries ≡ j.entries ++ r ∷ [] = ap (λ (k : Kept). k.entries) a.appended in
    let here : AreFirsts me j.entries mid = subst (λ m. AreFirsts m j.entries mid) (sym (is ∙ em)) (λ number le. same number ∙ h number le) in
    subst (λ m. AreFirsts m j'.entries new) is (subst (λ (es : List Entry). AreFirsts me es new) (sym ee) (marked j.entries (sym count) here))

-- The receipt.

-- an execution at the place, counted from the k-th, is the one that is reported
record ReportedAmong (me i : ℕ) (p : Proposal) (e : Entry) (k : ℕ) (ds : List (ℕ × Answer)) (place : ℕ) : Type 0 where
  steps : ℕ
  counted : place ≡ k + steps
  done : ℕ × Answer
  at : slice_get ds steps ≡ Some done
  reported : reported_among me i p (entry_of e) ds ≡ Some (receipt me i p (entry_of e) done.1)

among_none : (me i n k : ℕ) (p : Proposal) (e : Entry) (ds : List (ℕ × Answer)) → first_among n k ds i ≡ None → reported_among me i p (entry_of e) ds ≡ None
among_none me i n k p e [] is = refl
among_none me i n k p e (d ∷ ds) is = go (eqb d.0 i) is (among_none me i n (suc k) p e ds)
  where
    go : (b : Bool) → cond b (Some (record { entry = n; place = k })) (first_among n (suc k) ds i) ≡ None → (first_among n (suc k) ds i ≡ None → reported_among me i p (entry_of e) ds ≡ None)
        → cond b (Some (receipt me i p (entry_of e) d.1)) (reported_among me i p (entry_of e) ds) ≡ None
    go true is rest = absurd (cc)
    go false is rest = rest is

among_some : (me i n k : ℕ) (p : Proposal) (e : Entry) (ds : List (ℕ × Answer)) (s : ExecutionPlace) → first_among n k ds i ≡ Some s → ReportedAmong me i p e k ds s.place × (s.entry ≡ n)
among_some me i n k p e [] s is = absurd (cc)
among_some me i n k p e (d ∷ ds) s is = go (eqb d.0 i) refl is (among_some me i n (suc k) p e ds s)
  where
    go : (b : Bool) → eqb d.0 i ≡ b → cond b (Some (record { entry = n; place = k })) (first_among n (suc k) ds i) ≡ Some s
        → (first_among n (suc k) ds i ≡ Some s → ReportedAmong me i p e (suc k) ds s.place × (s.entry ≡ n)) → ReportedAmong me i p e k (d ∷ ds) s.place × (s.entry ≡ n)
    go true test is rest =
        let this : record { entry = n; place = k } ≡ s = same_Some (record { entry = n; place = k }) s is in
        let at : k ≡ s.place = ap (λ (z : ExecutionPlace). z.place) this in
        (record { steps = 0; counted = omega (arith, at); done = d; at = refl; reported = ap (λ b. cond b (Some (receipt me i p (entry_of e) d.1)) (reported_among me i p (entry_of e) ds)) test }, sym (ap (λ (z : ExecutionPlace). z.entry) this))
    go false test is rest =
        let r = rest is in
        let at : s.place ≡ suc k + r.0.steps = r.0.counted in
        (record { steps = suc r.0.steps; counted = omega (arith, at); done = r.0.done; at = r.0.at; reported = ap (λ b. cond b (Some (receipt me i p (entry_of e) d.1)) (reported_among me i p (entry_of e) ds)) test ∙ r.0.reported }, r.1)

pub reported_none : (me i n : ℕ) (p : Proposal) (es : List Entry) → first_done n es i ≡ None → reported_by me i p (entries_of es) ≡ None
reported_none me i n p [] is = refl
reported_none me i n p (e ∷ es) is = go (first_among n 0 e.done i) refl is (reported_none me i (suc n) p es)
  where
    go : (o : Option ExecutionPlace) → first_among n 0 e.done i ≡ o → or_spot o (first_done (suc n) es i) ≡ None → (first_done (suc n) es i ≡ None → reported_by me i p (entries_of es) ≡ None) → reported_by me i p (entries_of (e ∷ es)) ≡ None
    go None none is rest = ap (λ t. or_this t (reported_by me i p (entries_of es))) (among_none me i n 0 p e e.done none) ∙ rest is
    go (Some t) some is rest = absurd (cc)

-- the entry at the place, counted from the n-th, is the one that reports
record ReportedBy (me i : ℕ) (p : Proposal) (n : ℕ) (es : List Entry) (s : ExecutionPlace) : Type 0 where
  steps : ℕ
  counted : s.entry ≡ n + steps
  reported : reported_by me i p (entries_of es) ≡ reported_in me i p (slice_get es steps) s.place

reported_some : (me i n : ℕ) (p : Proposal) (es : List Entry) (s : ExecutionPlace) → first_done n es i ≡ Some s → ReportedBy me i p n es s
reported_some me i n p [] s is = absurd (cc)
reported_some me i n p (e ∷ es) s is = go (first_among n 0 e.done i) refl is (reported_some me i (suc n) p es s)
  where
    rest : Option Receipt
    rest = reported_by me i p (entries_of es)

    go : (o : Option ExecutionPlace) → first_among n 0 e.done i ≡ o → or_spot o (first_done (suc n) es i) ≡ Some s → (first_done (suc n) es i ≡ Some s → ReportedBy me i p (suc n) es s) → ReportedBy me i p n (e ∷ es) s
    go None none is later =
        let r = later is in
        let at : s.entry ≡ suc n + r.steps = r.counted in
        record { steps = suc r.steps; counted = omega (arith, at); reported = ap (λ t. or_this t rest) (among_none me i n 0 p e e.done none) ∙ r.reported }
    go (Some t) some is later =
        let same : t ≡ s = same_Some t s is in
        let found = among_some me i n 0 p e e.done s (some ∙ ap (λ (z : ExecutionPlace). Some z) same) in
        let here : s.entry ≡ n = found.1 in
        let steps : s.place ≡ 0 + found.0.steps = found.0.counted in
        let at : found.0.steps ≡ s.place = omega (arith, steps) in
        record {
          steps = 0;
          counted = omega (arith, here);
          reported = ap (λ o. or_this o rest) found.0.reported ∙ sym (ap (reported_done me i p e) (sym (ap (slice_get e.done) at) ∙ found.0.at));
        }

-- what stands where the first execution is noted is the first receipt
pub reported_spot : (me i : ℕ) (p : Proposal) (es : List Entry) (s : ExecutionPlace) → first_done 0 es i ≡ Some s → reported_at me i p es s ≡ reported_by me i p (entries_of es)
reported_spot me i p es s is =
    let r = reported_some me i 0 p es s is in
    let steps : s.entry ≡ 0 + r.steps = r.counted in
    let at : s.entry ≡ r.steps = omega (arith, steps) in
    ap (λ n. reported_in me i p (slice_get es n) s.place) at ∙ sym r.reported

-- before any entry
pub nothing_done : (me : ℕ) (es : List Entry) (spots : List (Option ExecutionPlace)) → es ≡ [] → spots ≡ [] → AreFirsts me es spots
nothing_done me es spots none empty number low =
    ap (λ (xs : List (Option ExecutionPlace)). spot_at xs number) empty ∙ sym (ap (λ (xs : List Entry). first_done 0 xs (instance_of me number)) none)

-- What the search finds.

own_leads : (me i : ℕ) (es : List rules.Entry) (p : Proposal) → Some p ≡ own_proposal me es i → leader_of i ≡ me
own_leads me i es p is = go (eqb (leader_of i) me) refl is
  where
    go : (b : Bool) → eqb (leader_of i) me ≡ b → Some p ≡ cond b (proposal_of es i) None → leader_of i ≡ me
    go true test is = eqb-true (leader_of i) me test
    go false test is = absurd (cc)

found_first : (me i n : ℕ) (es : List Entry) (spots : List (Option ExecutionPlace)) (p : Proposal) → AreFirsts me es spots → Some p ≡ own_proposal me (entries_of es) i → n ≡ number_of i → number_of i ≤ highest_number
    → spot_at spots n ≡ first_done 0 es i
found_first me i n es spots p firsts own at low =
    let leads : leader_of i ≡ me = own_leads me i (entries_of es) p own in
    let this : instance_of me n ≡ i = omega (arith, leads, at) in
    firsts n (omega (arith, at, low)) ∙ ap (first_done 0 es) this

pub searched_none : (l : Log) (k : Kept) (i n : ℕ) (spots : List (Option ExecutionPlace)) (p : Proposal) → l ≡ k → AreFirsts l.me l.entries spots → n ≡ number_of i → number_of i ≤ highest_number → None ≡ spot_at spots n
    → Some p ≡ own_proposal k.me (entries_of k.entries) i → None ≡ outcome_of k.me (entries_of k.entries) i
searched_none l k i n spots p same firsts at low none =
    subst (λ (z : Kept). Some p ≡ own_proposal z.me (entries_of z.entries) i → None ≡ outcome_of z.me (entries_of z.entries) i) same
    (λ own.
    let es = entries_of l.entries in
    sym (reported_first l.me i es p es (sym own) ∙ reported_none l.me i 0 p l.entries (sym (none ∙ found_first l.me i n l.entries spots p firsts own at low))))

pub searched_some : (l : Log) (k : Kept) (i n : ℕ) (spots : List (Option ExecutionPlace)) (p : Proposal) (s : ExecutionPlace) → l ≡ k → AreFirsts l.me l.entries spots → n ≡ number_of i → number_of i ≤ highest_number → Some s ≡ spot_at spots n
    → Some p ≡ own_proposal k.me (entries_of k.entries) i → reported_at l.me i p l.entries s ≡ outcome_of k.me (entries_of k.entries) i
searched_some l k i n spots p s same firsts at low some =
    subst (λ (z : Kept). Some p ≡ own_proposal z.me (entries_of z.entries) i → reported_at l.me i p l.entries s ≡ outcome_of z.me (entries_of z.entries) i) same
    (λ own.
    let es = entries_of l.entries in
    reported_spot l.me i p l.entries s (sym (some ∙ found_first l.me i n l.entries spots p firsts own at low)) ∙ sym (reported_first l.me i es p es (sym own)))
