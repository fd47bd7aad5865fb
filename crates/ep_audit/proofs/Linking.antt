-- Generations, one after the other, are a chain of the rule book.
use Rattle.std.proofs.Common.{◌≡◌, ◌≢◌, ℕ, zero, suc, ◌+◌, ◌<◌, ◌≤◌, ◌⊎◌, inl, inr, IfOk, Result, Ok, Err, Option, Some, None, List, [], ◌∷◌, ◌++◌, length, slice_get, refl, sym, ap, subst, ◌∙◌, arith}
use Rattle.std.proofs.lemmas.Bool.{cases_lt}
use Rattle.std.specs.Prelude.{IfErr, MatchOption}
use Rattle.ep_base.specs.Quorums.{size}
use Rattle.ep_journal.specs.Entries.{AreJournals, Collected, IsAbove, entries_at, entries_of, journals_of}
use Rattle.ep_journal.specs.Openings.{opens}
use Rattle.ep_journal.specs.declared.entry.Entry.{Entry as Written}
use Rattle.ep_audit.specs.declared.chain_fault.ChainFault.{ChainFault}
use Rattle.ep_audit.specs.declared.closing.Closing.{Closing}
use Rattle.ep_rules.specs.Chains.{Closing as Closes, IsChain, ClocksGoOn, histories, history_from, store_left}
use Rattle.ep_rules.specs.Generations.{joined, place_in, HasIn}
use Rattle.ep_rules.specs.Journals.{AreNumbered, Entry, Scheduled}
use Rattle.ep_rules.specs.Merging.{Merges}
use Rattle.ep_rules.specs.OneMap.{opened}
use Rattle.ep_rules.specs.Worlds.{In}
use Rattle.ep_rules.specs.Verdicts.{Agrees}
use Rattle.ep_rules.specs.declared.receipt.Receipt.{Receipt}
use Rattle.ep_rules.proofs.ChainsExplained.{chains_explain_lem, chains_keep_callers_lem}
use Rattle.ep_rules.proofs.Sorted.{above}
use Rattle.ep_audit.specs.Closings.{operations_in}
use Rattle.ep_audit.specs.Verdicts.{places_of, summary_of}
use Rattle.ep_audit.specs.declared.verdict.Verdict.{Verdict}
use Rattle.ep_audit.specs.Audited.{IsOneClosing}
use Rattle.ep_audit.specs.Chained.{AreLinked, GoesOn, IsChainFault, IsChainRefused, IsChained, IsGood, IsJudged, IsParted, IsReached, parted, refused, unclosed, faults_at, faults_in, journals_at, journals_in, map_after, map_in, maps_at, number_of, receipts_at, receipts_in}
use Rattle.ep_audit.specs.Following.{IsOwnFault, IsUnfollowed, IsUnfollowedBy, IsUnjudged, left_open, refused_by, parted_by}
use Rattle.ep_audit.specs.declared.chain_verdict_fault.ChainVerdictFault.{ChainVerdictFault}
use Rattle.ep_audit.specs.declared.chain_verdict_fault.ChainVerdictFault.TheVariants.{Memory, Fault}
use Rattle.ep_audit.specs.declared.chain_link.ChainLink.{ChainLink}
use Rattle.ep_audit.proofs.OneClosings.{same_operations, seal_there}

-- Lists.

module _ {A : Type 0} where
  here_or : (xs : List A) (x y : A) (k : ℕ) → slice_get (xs ++ (x ∷ [])) k ≡ Some y → (slice_get xs k ≡ Some y) ⊎ ((k ≡ length xs) × (x ≡ y))
  here_or [] x y zero e = inr (refl, cc)
  here_or [] x y (suc k) e = absurd (cc)
  here_or (z ∷ xs) x y zero e = inl e
  here_or (z ∷ xs) x y (suc k) e = elim (here_or xs x y k e) [ inl old ↦ inl old | inr new ↦ inr (ap suc new.0, new.1) ]

  below_length : (xs : List A) (k : ℕ) (x : A) → slice_get xs k ≡ Some x → k < length xs
  below_length [] k x e = absurd (cc)
  below_length (y ∷ xs) zero x e = omega arith
  below_length (y ∷ xs) (suc k) x e = let t = below_length xs k x e in omega arith

  some_at : (xs : List A) (k : ℕ) → k < length xs → (x : A) × (slice_get xs k ≡ Some x)
  some_at [] k lt = absurd (omega arith)
  some_at (x ∷ xs) zero lt = (x, refl)
  some_at (x ∷ xs) (suc k) lt = some_at xs k (omega arith)

  same_there : (xs : List A) (k : ℕ) (x y : A) → slice_get xs k ≡ Some x → slice_get xs k ≡ Some y → x ≡ y
  same_there xs k x y e f = let t : Some x ≡ Some y = sym e ∙ f in cc

-- One generation more.

pub linked_more : (links : List ChainLink) (vs : List Verdict) (link : ChainLink) (v : Verdict) (place : ℕ) → AreLinked links vs → length vs ≡ place → slice_get links place ≡ Some link → IsJudged link v →
    ((p : ℕ) (l : ChainLink) (w : Verdict) → place ≡ suc p → slice_get links p ≡ Some l → slice_get vs p ≡ Some w → GoesOn l w link) → AreLinked links (vs ++ (v ∷ []))
linked_more links vs link v place linked count there judged goes = record {
  judged = λ k l w a b. elim (here_or vs v w k b) [
    | inl old ↦ linked.judged k l w a old
    | inr new ↦ (
        let is : link ≡ l = same_there links k link l (subst (λ n. slice_get links n ≡ Some link) (sym (new.0 ∙ count)) there) a in
        subst (λ (z : Verdict). IsJudged l z) new.1 (subst (λ (z : ChainLink). IsJudged z v) is judged))
  ];
  goes_on = λ k l next x y a b c d. elim (here_or vs v x k c) [
    | inr new ↦ (let less = below_length (vs ++ (v ∷ [])) (suc k) y d in let more : length (vs ++ (v ∷ [])) ≡ length vs + 1 = one_more vs in let at = new.0 in absurd (omega arith))
    | inl old ↦ (elim (here_or vs v y (suc k) d) [
      | inl later ↦ linked.goes_on k l next x y a b old later
      | inr new ↦ (
          let is : link ≡ next = same_there links (suc k) link next (subst (λ n. slice_get links n ≡ Some link) (sym (new.0 ∙ count)) there) b in
          subst (λ (z : ChainLink). GoesOn l x z) is (goes k l x (sym (new.0 ∙ count)) a old))
    ])
  ];
}
  where
    one_more : (xs : List Verdict) → length (xs ++ (v ∷ [])) ≡ length xs + 1
    one_more [] = refl
    one_more (x ∷ xs) = let t = one_more xs in omega arith

-- The stamps of a journal are above its opening's.

above_all : (base_stamp : ℕ) (es : List Written) (e : Entry) → IsAbove base_stamp es → AreNumbered 1 0 (entries_of es) → In e (entries_of es) → base_stamp < e.stamp
above_all base_stamp [] e a h k = absurd k
above_all base_stamp (x ∷ es) e a h (inl is) = subst (λ (z : Entry). base_stamp < z.stamp) is a
above_all base_stamp (x ∷ es) e a h (inr k) = let t = above 2 x.stamp (entries_of es) e h.3 k in let first : base_stamp < x.stamp = a in omega arith

pub all_later : (c : Collected) (r : ℕ) (e : Entry) → AreJournals c → In e (journals_of c r) → c.opening.base_stamp < e.stamp
all_later c r e are k = elim (cases_lt r (size c.faults)) [
  | inl lt ↦ (let j = are.journal r lt in above_all c.opening.base_stamp (entries_at c r) e j.above j.run.0 k)
  | inr ge ↦ absurd (subst (λ (es : List Written). In e (entries_of es)) (are.others r ge) k)
]

-- it goes on where all three tests pass
pub goes_on : (p : ChainLink) (v : Verdict) (c : Closing) (next : ChainLink) → AreJournals next.journals → v.closing ≡ Some c → number_of next ≡ suc (number_of p) → next.journals.opening.contents ≡ map_after p v → ¬ (next.journals.opening.base_stamp < c.stamp) → GoesOn p v next
goes_on p v c next are closed consecutive opening clocks = record {
  closing = c;
  closed = closed;
  consecutive = consecutive;
  opening = opening;
  clocks = omega arith;
  later = λ r e k. let t = all_later next.journals r e are k in omega arith;
}

pub not_next : (a b n m : ℕ) → n ≡ a → m ≡ b → (n ≢ m + 1) → a ≢ suc b
not_next a b n m e f ne is = ne (omega arith)

-- All of them.

-- what is known of the generation at place g
record Facts (links : List ChainLink) (verdicts : List Verdict) (g : ℕ) (s : List Scheduled) : Type 0 where
  link : ChainLink
  verdict : Verdict
  there : slice_get links g ≡ Some link
  reported : slice_get verdicts g ≡ Some verdict
  good : IsGood link
  merges : Merges (opens link.journals.opening) link.journals.faults (journals_of link.journals) s
  scheduled : verdict.schedule.items ≡ places_of s
  operations : operations_in verdict.history.items ≡ history_from link.journals.opening.contents link.journals.faults s
  closing : IsOneClosing link.journals.opening.contents link.journals.faults (journals_of link.journals) (summary_of verdict)
  sealed : (c : Closing) → verdict.closing ≡ Some c → Closes link.journals.opening.contents link.journals.faults (journals_of link.journals) (λ r. [])
  at_stamp : (c : Closing) (is : verdict.closing ≡ Some c) → (sealed c is).entry.stamp ≡ c.stamp

facts_of : (links : List ChainLink) (verdicts : List Verdict) (g : ℕ) (l : ChainLink) (v : Verdict) → slice_get links g ≡ Some l → slice_get verdicts g ≡ Some v → (j : IsJudged l v) → Facts links verdicts g j.says.summary.order
facts_of links verdicts g l v a b j =
    let same = same_operations l.journals.opening.contents l.journals.faults (journals_of l.journals) (summary_of v) j.says.summary j.says.merges in
    record {
      link = l;
      verdict = v;
      there = a;
      reported = b;
      good = j.says.accepted;
      merges = j.says.merges;
      scheduled = j.schedule;
      operations = same;
      closing = j.says.closing l.journals.opening.contents refl;
      sealed = λ c is. (seal_there l.journals.opening.contents l.journals.faults (journals_of l.journals) (summary_of v) j.says.summary j.says.merges c is).closes;
      at_stamp = λ c is. (seal_there l.journals.opening.contents l.journals.faults (journals_of l.journals) (summary_of v) j.says.summary j.says.merges c is).stamp;
    }

module _ (links : List ChainLink) (verdicts : List Verdict) (count : length verdicts ≡ length links) (linked : AreLinked links verdicts) where
  abbrev n : ℕ
  n = length links

  judged_at : (g : ℕ) → g < n → (s : List Scheduled) × Facts links verdicts g s
  judged_at g lt =
      let l = some_at links g lt in
      let v = some_at verdicts g (omega arith) in
      let j = linked.judged g l.0 v.0 l.1 v.1 in
      (j.says.summary.order, facts_of links verdicts g l.0 v.0 l.1 v.1 j)

  chosen : (g : ℕ) → (g < n) ⊎ (n ≤ g) → List Scheduled
  chosen g (inl lt) = (judged_at g lt).0
  chosen g (inr ge) = []

  abbrev schedule : ℕ → List Scheduled
  schedule g = chosen g (cases_lt g n)

  facts : (g : ℕ) → g < n → Facts links verdicts g (schedule g)
  unfolding chosen judged_at
  facts g lt = go (cases_lt g n)
    where
      go : (x : (g < n) ⊎ (n ≤ g)) → Facts links verdicts g (chosen g x)
      go (inl less) = (judged_at g less).1
      go (inr ge) = absurd (omega arith)

  merges_at : (g : ℕ) → g < n → Merges (opened (maps_at links g)) (faults_at links g) (journals_at links g) (schedule g)
  merges_at g lt = let f = facts g lt in subst (λ (o : Option ChainLink). Merges (opened (map_in o)) (faults_in o) (journals_in o) (schedule g)) (sym f.there) f.merges

  goes_at : (g : ℕ) (a : Facts links verdicts g (schedule g)) (b : Facts links verdicts (suc g) (schedule (suc g))) → GoesOn a.link a.verdict b.link
  goes_at g a b = linked.goes_on g a.link b.link a.verdict b.verdict a.there b.there a.reported b.reported

  closes_at : (g : ℕ) → suc g < n → (r : ℕ) × (value : List ℕ) × (store_left (maps_at links g) (faults_at links g) (journals_at links g) r ≡ record { contents = maps_at links (suc g); seal = Some value })
  closes_at g lt =
      let a = facts g (omega arith) in
      let b = facts (suc g) lt in
      let on = goes_at g a b in
      let s = a.closing.somebody on.closing on.closed in
      let opening : maps_at links (suc g) ≡ map_after a.link a.verdict = ap map_in b.there ∙ on.opening in (
        s.0,
        on.closing.value,
        subst (λ (o : Option ChainLink). store_left (map_in o) (faults_in o) (journals_in o) s.0 ≡ record { contents = maps_at links (suc g); seal = Some on.closing.value }) (sym a.there)
            (s.1 ∙ ap (λ m. record { contents = m; seal = Some on.closing.value }) (sym opening)),
      )

  chain : IsChain n (faults_at links) (maps_at links) (journals_at links) schedule
  chain = record { merges = merges_at; closes = closes_at }

  clocks : ClocksGoOn n (faults_at links) (maps_at links) (journals_at links)
  clocks g lt =
      let a = facts g (omega arith) in
      let b = facts (suc g) lt in
      let on = goes_at g a b in
      let s = a.sealed on.closing on.closed in
      let stamp : s.entry.stamp ≡ on.closing.stamp = a.at_stamp on.closing on.closed in
      subst (λ (o : Option ChainLink). Closes (map_in o) (faults_in o) (journals_in o) (journals_at links (suc g))) (sym a.there) (record {
        replica = s.replica;
        entry = s.entry;
        stands = s.stands;
        instance = s.instance;
        executes = s.executes;
        seals = s.seals;
        below = λ q e k.
            let t = on.later q e (subst (λ (o : Option ChainLink). In e (journals_in o q)) b.there k) in
            omega arith;
      })

  abbrev agrees : Option ChainLink → Receipt → Type 0
  agrees o t = Agrees (opened (map_in o)) (faults_in o) (journals_in o) t

  within : (g : ℕ) (t : Receipt) → In t (receipts_at links g) → g < n
  within g t i = go (slice_get links g) refl i
    where
      go : (o : Option ChainLink) → slice_get links g ≡ o → In t (receipts_in o) → g < n
      go None e i = absurd i
      go (Some l) e i = below_length links g l e

  callers : (g k : ℕ) (u t : Receipt) → In u (receipts_at links g) → In t (receipts_at links k) → u.stamp ≤ t.seen →
      HasIn (joined (histories (faults_at links) (maps_at links) schedule) n) g u.instance → HasIn (joined (histories (faults_at links) (maps_at links) schedule) n) k t.instance →
      place_in (joined (histories (faults_at links) (maps_at links) schedule) n) g u.instance < place_in (joined (histories (faults_at links) (maps_at links) schedule) n) k t.instance
  callers g k u t iu it le hu ht =
      let lg = within g u iu in
      let lk = within k t it in
      let a = facts g lg in
      let b = facts k lk in
      chains_keep_callers_lem n (faults_at links) (maps_at links) (journals_at links) schedule chain clocks g k lg lk u t
      (subst (λ (o : Option ChainLink). agrees o u) (sym a.there) (a.good.agree u (subst (λ (o : Option ChainLink). In u (receipts_in o)) a.there iu)))
      (subst (λ (o : Option ChainLink). agrees o t) (sym b.there) (b.good.agree t (subst (λ (o : Option ChainLink). In t (receipts_in o)) b.there it)))
      le hu ht

  pub chained : IsChained links verdicts
  chained = record {
    count = count;
    linked = linked;
    schedule = schedule;
    scheduled = λ g v is.
        let f = facts g (let t = below_length verdicts g v is in omega arith) in
        subst (λ (w : Verdict). w.schedule.items ≡ places_of (schedule g)) (same_there verdicts g f.verdict v f.reported is) f.scheduled;
    operations = λ g v is.
        let f = facts g (let t = below_length verdicts g v is in omega arith) in
        subst (λ (w : Verdict). operations_in w.history.items ≡ histories (faults_at links) (maps_at links) schedule g) (same_there verdicts g f.verdict v f.reported is)
        (f.operations ∙ ap (λ (o : Option ChainLink). history_from (map_in o) (faults_in o) (schedule g)) (sym f.there));
    chain = chain;
    clocks = clocks;
    explains = chains_explain_lem n (faults_at links) (maps_at links) (journals_at links) schedule chain;
    callers = callers;
  }

-- Why there is none.

module _ (links : List ChainLink) (vs : List Verdict) (link : ChainLink) (place : ℕ) (linked : AreLinked links vs) (count : length vs ≡ place) (there : slice_get links place ≡ Some link) where
  own_fault : (at : ℕ) (fault : ChainFault) → ((j : ℕ) (v : Verdict) → place ≡ suc j → slice_get vs j ≡ Some v → (c : Closing) × (v.closing ≡ Some c)) → at ≡ place → IsOwnFault link fault → IsChainFault links at fault
  own_fault at fault closed is own =
      let reached : IsReached links place link = record { there = there; verdicts = vs; count = count; linked = linked; closed = closed } in
      subst (λ n. IsChainFault links n fault) (sym is) (subst (λ (f : ChainFault). IsChainFault links place f) (sym own.is) (refused link own.found reached own.refuses))

  pub first_refused : place ≡ 0 → (e : ChainVerdictFault) → IsUnjudged link place e → IsChainRefused links e
  first_refused none Memory h = tt
  first_refused none (Fault at fault) h = own_fault at fault (λ j v is s. absurd (omega arith)) h.0 h.1

  pub first_judged : place ≡ 0 → (r : Result Verdict ChainVerdictFault) → IfOk r (λ v. IsJudged link v) → IfOk r (λ v. AreLinked links (vs ++ (v ∷ [])))
  first_judged none (Ok v) judged = linked_more links vs link v place linked count there judged (λ p l w is a b. absurd (omega arith))
  first_judged none (Err e) judged = tt

  pub first_unjudged : place ≡ 0 → (r : Result Verdict ChainVerdictFault) → IfErr r (λ e. IsUnjudged link place e) → IfErr r (λ e. IsChainRefused links e)
  first_unjudged none (Ok v) h = tt
  first_unjudged none (Err e) h = first_refused none e h

  module _ (p : ChainLink) (w : Verdict) (q : ℕ) (before : place ≡ suc q) (p_there : slice_get links q ≡ Some p) (w_there : slice_get vs q ≡ Some w) where
    closed_before : (c : Closing) → w.closing ≡ Some c → (j : ℕ) (v : Verdict) → place ≡ suc j → slice_get vs j ≡ Some v → (c : Closing) × (v.closing ≡ Some c)
    closed_before c is j v at s =
        let same : q ≡ j = omega arith in
        let one : w ≡ v = same_there vs j w v (subst (λ n. slice_get vs n ≡ Some w) same w_there) s in
        (c, subst (λ (z : Verdict). z.closing ≡ Some c) one is)

    unfollowed : (at : ℕ) (fault : ChainFault) → place < length links → IsUnfollowedBy p w link place at fault → IsChainFault links at fault
    unfollowed at fault lt (left_open none is reported) =
        let at_q : at ≡ q = omega arith in
        subst (λ (f : ChainFault). IsChainFault links at f) (sym reported)
        (unclosed vs w (count ∙ sym is) linked (subst (λ n. slice_get vs n ≡ Some w) (sym at_q) w_there) none (omega arith))
    unfollowed at fault lt (refused_by c closed is own) = own_fault at fault (closed_before c closed) is own
    unfollowed at fault lt (parted_by c closed is good parts) =
        let reached : IsReached links place link = record { there = there; verdicts = vs; count = count; linked = linked; closed = closed_before c closed } in
        subst (λ n. IsChainFault links n fault) (sym is) (parted link p w c fault reached (record { place = q; is = before; link = p_there; verdict = w_there; closing = closed }) good parts)

    next_refused : place < length links → (e : ChainVerdictFault) → IsUnfollowed p w link place e → IsChainRefused links e
    next_refused lt Memory h = tt
    next_refused lt (Fault at fault) h = unfollowed at fault lt h

    pub next_unfollowed : place < length links → (r : Result Verdict ChainVerdictFault) → IfErr r (λ e. IsUnfollowed p w link place e) → IfErr r (λ e. IsChainRefused links e)
    next_unfollowed lt (Ok v) h = tt
    next_unfollowed lt (Err e) h = next_refused lt e h

    pub next_judged : (r : Result Verdict ChainVerdictFault) → IfOk r (λ v. IsJudged link v × GoesOn p w link) → IfOk r (λ v. AreLinked links (vs ++ (v ∷ [])))
    next_judged (Ok v) h = linked_more links vs link v place linked count there h.0 (λ k l x is a b.
        let same : q ≡ k = omega arith in
        let link_is : p ≡ l = same_there links k p l (subst (λ n. slice_get links n ≡ Some p) same p_there) a in
        let verdict_is : w ≡ x = same_there vs k w x (subst (λ n. slice_get vs n ≡ Some w) same w_there) b in
        subst (λ (z : Verdict). GoesOn l z link) verdict_is (subst (λ (z : ChainLink). GoesOn z w link) link_is h.1))
    next_judged (Err e) h = tt

-- Why one isn't followed.

pub unjudged_unfollowed : (p : ChainLink) (v : Verdict) (l : ChainLink) (place : ℕ) (c : Closing) (e : ChainVerdictFault) → v.closing ≡ Some c → IsUnjudged l place e → IsUnfollowed p v l place e
unjudged_unfollowed p v l place c Memory closed h = tt
unjudged_unfollowed p v l place c (Fault at fault) closed h = refused_by c closed h.0 h.1

pub parted_here : (p : ChainLink) (v : Verdict) (l : ChainLink) (w : Verdict) (place : ℕ) (c : Closing) (f : ChainFault) (o : Option ChainFault) → v.closing ≡ Some c → IsJudged l w → o ≡ Some f → MatchOption o (GoesOn p v l) (λ f. IsParted p v c l f) →
    IsUnfollowedBy p v l place place f
parted_here p v l w place c f o closed judged is m = parted_by c closed refl judged.says.accepted (subst (λ (o : Option ChainFault). MatchOption o (GoesOn p v l) (λ f. IsParted p v c l f)) is m)
