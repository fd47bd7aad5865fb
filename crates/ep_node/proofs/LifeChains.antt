-- The journals of a life's generations are a chain whose clocks go on.
use Rattle.std.proofs.Common.{◌≡◌, ℕ, zero, suc, ◌+◌, ◌<◌, ◌≤◌, ◌⊎◌, Bool, true, false, not, is_none, max, eqb, inl, inr, Option, Some, None, List, [], ◌∷◌, refl, sym, ap, subst, ◌∙◌, arith, ⊎_elim}
use Rattle.std.proofs.lemmas.Bool.{false≢true, ne_eqb, cases_eq, cases_lt}
use Rattle.ep_base.specs.Interference.{is_seal}
use Rattle.ep_base.specs.Quorums.{size}
use Rattle.ep_base.specs.declared.decree.Decree.{Decree}
use Rattle.ep_rules.specs.Chains.{Closing, store_left}
use Rattle.ep_rules.specs.Generations.{opening_map}
use Rattle.ep_rules.specs.Journals.{Entry, AreClocked, heard, Journals, left}
use Rattle.ep_rules.specs.OneMap.{Contents, Store, opened, is_closed}
use Rattle.ep_rules.specs.States.{fresh_state, committed_in, command_of}
use Rattle.ep_rules.specs.Verdicts.{committed_by}
use Rattle.ep_rules.specs.Worlds.{In}
use Rattle.ep_rules.proofs.ClosedJournals.{closed_entries_lem}
use Rattle.ep_rules.proofs.JournalsCommitted.{commits_agreed}
use Rattle.ep_rules.proofs.JournalsKeep.{journals_keep_lem}
use Rattle.ep_node.specs.CrashLives.{Generations, newborn, store_out, HasSealed, LifeMove, Within, OpensNext, IsLifeMove, opened_next, after_move, AreLifeMoves, life_after, stand_on, turns_of, IsLifeInRealTime, AreOpen, AreChained, CrashingLivesAreChains}
use Rattle.ep_node.specs.Crashes.{Start, handed_out, standing, IsBeginning}
use Rattle.ep_node.proofs.CrashLives.{not_both, same_on, Same, opens_it, crashing_lives_are_linearizable_lem}
use Rattle.ep_node.proofs.CrashMoves.{in_begins, take_begins}
use Rattle.ep_node.proofs.LifeStays.{AreUntouched, untouched_after, untouched_first, store_stays, sealed_stays, at_opened}

-- Whoever has opened a generation but the first one has it from a node of the one before.

record From (f : ℕ → ℕ) (l : Generations) (g r : ℕ) : Type 0 where
  pub giver : ℕ
  pub has : l.has_opened g giver ≡ true
  pub closed : is_closed (store_out f l g giver) ≡ true
  pub map : (store_out f l g giver).contents ≡ l.map (suc g) r
  pub sealed : HasSealed f l g giver (l.base_stamp (suc g) r)

abbrev AllFrom : (ℕ → ℕ) → Generations → Type 0
AllFrom f l = (g r : ℕ) → l.has_opened (suc g) r ≡ true → From f l g r

from_stays : (f : ℕ → ℕ) (l : Generations) (g r : ℕ) (m : LifeMove) → IsLifeMove f l m → l.has_opened (suc g) r ≡ true → From f l g r → From f (after_move f l m) g r
from_stays f l g r m move opened h =
    let there : Same l (after_move f l m) g h.giver = same_on f l m move g h.giver h.has in
    let here : Same l (after_move f l m) (suc g) r = same_on f l m move (suc g) r opened in
    let is = store_stays f l g h.giver h.has h.closed m move in
    record {
      giver = h.giver;
      has = there.has;
      closed = ap is_closed is ∙ h.closed;
      map = ap (λ (s : Store). s.contents) is ∙ h.map ∙ sym here.map;
      sealed = subst (λ (x : ℕ). HasSealed f (after_move f l m) g h.giver x) (sym here.base_stamp) (sealed_stays f l g h.giver h.has (l.base_stamp (suc g) r) h.sealed m move);
    }

-- who opens it now
from_now : (f : ℕ → ℕ) (l : Generations) (g r q base_stamp : ℕ) → IsLifeMove f l (OpensNext g r q base_stamp) → From f (after_move f l (OpensNext g r q base_stamp)) g r
from_now f l g r q base_stamp move =
    let there : Same l (after_move f l (OpensNext g r q base_stamp)) g q = same_on f l (OpensNext g r q base_stamp) move g q move.1 in
    let is = store_stays f l g q move.1 move.2 (OpensNext g r q base_stamp) move in
    record {
      giver = q;
      has = there.has;
      closed = ap is_closed is ∙ move.2;
      map = ap (λ (s : Store). s.contents) is ∙ sym (at_opened g r (store_out f l g q).contents (l.map (suc g) r));
      sealed = subst (λ (x : ℕ). HasSealed f (after_move f l (OpensNext g r q base_stamp)) g q x) (sym (at_opened g r base_stamp (l.base_stamp (suc g) r)))
          (sealed_stays f l g q move.1 base_stamp move.3 (OpensNext g r q base_stamp) move);
    }

from_on : (f : ℕ → ℕ) (l : Generations) (m : LifeMove) → IsLifeMove f l m → AllFrom f l → AllFrom f (after_move f l m)
from_on f l (Within h m) move all = λ g r opened. from_stays f l g r (Within h m) move opened (all g r opened)
from_on f l (OpensNext h p q base_stamp) move all = λ g r opened. go g r opened (l.has_opened (suc g) r) refl
  where
    go : (g r : ℕ) → opened_next h p l.has_opened (suc g) r ≡ true → (b : Bool) → l.has_opened (suc g) r ≡ b → From f (after_move f l (OpensNext h p q base_stamp)) g r
    go g r opened true was = from_stays f l g r (OpensNext h p q base_stamp) move was (all g r was)
    go g r opened false was =
        let it = opens_it h p g r l.has_opened was opened in
        subst (λ (t : ℕ). From f (after_move f l (OpensNext h p q base_stamp)) t r) it.0
        (subst (λ (t : ℕ). From f (after_move f l (OpensNext h p q base_stamp)) h t) it.1 (from_now f l h p q base_stamp move))

from_after : (f : ℕ → ℕ) (l : Generations) (ms : List LifeMove) → AreLifeMoves f l ms → AllFrom f l → AllFrom f (life_after f l ms)
from_after f l [] k all = all
from_after f l (m ∷ ms) k all = from_after f (after_move f l m) ms k.1 (from_on f l m k.0 all)

from_first : (start : Start) (f : ℕ → ℕ) → AllFrom f (newborn start)
from_first start f g r opened = absurd (not_both (eqb (suc g) 0) opened (ne_eqb (suc g) 0 (λ (e : suc g ≡ 0). omega arith)))

-- The least stamp that a clock of the generation goes on from.

record Least (l : Generations) (g k : ℕ) : Type 0 where
  pub replica : ℕ
  pub has : l.has_opened g replica ≡ true
  pub below : (p : ℕ) → p < k → l.has_opened g p ≡ true → l.base_stamp g replica ≤ l.base_stamp g p

-- one more is looked at
least_next : (l : Generations) (g k : ℕ) → Least l g k → Least l g (suc k)
least_next l g k h = go (l.has_opened g k) refl
  where
    same : (p : ℕ) → (l.has_opened g k ≡ false) ⊎ (l.base_stamp g h.replica ≤ l.base_stamp g k) → p < suc k → l.has_opened g p ≡ true → l.base_stamp g h.replica ≤ l.base_stamp g p
    same p why lt has = ⊎_elim
        (λ (is : p ≡ k). ⊎_elim
        (λ (none : l.has_opened g k ≡ false). absurd (not_both (l.has_opened g k) (subst (λ (t : ℕ). l.has_opened g t ≡ true) is has) none))
        (λ (le : l.base_stamp g h.replica ≤ l.base_stamp g k). subst (λ (t : ℕ). l.base_stamp g h.replica ≤ l.base_stamp g t) (sym is) le)
        why)
        (λ (ne : p ≡ k → ⊥). h.below p (omega (arith, lt, ne)) has)
        (cases_eq p k)

    lower : l.base_stamp g k < l.base_stamp g h.replica → (p : ℕ) → p < suc k → l.has_opened g p ≡ true → l.base_stamp g k ≤ l.base_stamp g p
    lower less p lt has = ⊎_elim
        (λ (is : p ≡ k). subst (λ (t : ℕ). l.base_stamp g k ≤ l.base_stamp g t) (sym is) (omega arith))
        (λ (ne : p ≡ k → ⊥). let le = h.below p (omega (arith, lt, ne)) has in omega (arith, less, le))
        (cases_eq p k)

    go : (b : Bool) → l.has_opened g k ≡ b → Least l g (suc k)
    go false none = record { replica = h.replica; has = h.has; below = λ p lt has. same p (inl none) lt has }
    go true some = ⊎_elim
        (λ (less : l.base_stamp g k < l.base_stamp g h.replica). record { replica = k; has = some; below = lower less })
        (λ (le : l.base_stamp g h.replica ≤ l.base_stamp g k). record { replica = h.replica; has = h.has; below = λ p lt has. same p (inr le) lt has })
        (cases_lt (l.base_stamp g k) (l.base_stamp g h.replica))

least : (l : Generations) (g r k : ℕ) → l.has_opened g r ≡ true → Least l g k
least l g r zero has = record { replica = r; has = has; below = λ p lt. absurd (omega (arith, lt)) }
least l g r (suc k) has = least_next l g k (least l g r k has)

-- Stores and stamps.

seal_some : (s : Store) → is_closed s ≡ true → (value : List ℕ) × (s ≡ record { contents = s.contents; seal = Some value })
seal_some s closed = go s.seal refl closed
  where
    go : (o : Option (List ℕ)) → s.seal ≡ o → not (is_none o) ≡ true → (value : List ℕ) × (s ≡ record { contents = s.contents; seal = Some value })
    go None e closed = absurd (false≢true closed)
    go (Some value) e closed = (value, λ t. record { contents = s.contents; seal = e t })

clocked_above : (last : ℕ) (es : List Entry) (e : Entry) → AreClocked last es → In e es → last < e.stamp
clocked_above last [] e h k = absurd k
clocked_above last (x ∷ es) e h (inl is) = let own : x.stamp ≡ 1 + max last (heard x.event) = h.0 in subst (λ (z : Entry). last < z.stamp) is (omega (arith, own))
clocked_above last (x ∷ es) e h (inr k) = let own : x.stamp ≡ 1 + max last (heard x.event) = h.0 in let rest = clocked_above x.stamp es e h.1 k in omega (arith, own, rest)

-- The chain.

module _ (start : Start) (f : ℕ → ℕ) (sizes : (g : ℕ) → (0 < f g) × (size (f g) ≤ 256)) (moves : List LifeMove) (k : AreLifeMoves f (newborn start) moves) where
  abbrev last : Generations
  last = life_after f (newborn start) moves

  abbrev maps : ℕ → Contents
  maps = opening_map start.map f (turns_of (standing stand_on [] moves))

  abbrev journals : ℕ → Journals
  journals g = (last.cluster g).journal

  life : IsLifeInRealTime start f last (standing stand_on [] moves)
  life = crashing_lives_are_linearizable_lem start f sizes moves k

  all_from : AllFrom f last
  all_from = from_after f (newborn start) moves k (from_first start f)

  untouched : AreUntouched last
  untouched = untouched_after f (newborn start) moves k (untouched_first start)

  -- what was handed out is a beginning of the journal
  begins : (g q : ℕ) → IsBeginning (handed_out (last.cluster g) q) (journals g q)
  begins g q = take_begins ((last.cluster g).out q) (journals g q)

  -- a giver's journal leaves what it gave
  store_is : (g q : ℕ) → last.has_opened g q ≡ true → is_closed (store_out f last g q) ≡ true → store_left (maps g) (f g) (journals g) q ≡ store_out f last g q
  store_is g q has closed =
      ap (λ (x : Contents). (left (f g) q (fresh_state (opened x)) (journals g q)).store) (sym (life.maps g q has))
      ∙ ap (λ (es : List Entry). (left (f g) q (fresh_state (opened (last.map g q))) es).store) (sym (begins g q).1)
      ∙ closed_entries_lem (opened (last.map g q)) (f g) q (handed_out (last.cluster g) q) (begins g q).0 closed

  closes : (g r : ℕ) → last.has_opened (suc g) r ≡ true → (q : ℕ) × (value : List ℕ) × (store_left (maps g) (f g) (journals g) q ≡ record { contents = maps (suc g); seal = Some value })
  closes g r opened =
      let h = all_from g r opened in
      let some = seal_some (store_out f last g h.giver) h.closed in
      let map : (store_out f last g h.giver).contents ≡ maps (suc g) = h.map ∙ life.maps (suc g) r opened in
      (h.giver, some.0, store_is g h.giver h.has h.closed ∙ some.1 ∙ (λ t. record { contents = map t; seal = Some some.0 }))

  -- what was handed out commits what the whole journal does
  committed : (g q i : ℕ) (x : Decree) → last.has_opened g q ≡ true → committed_in (left (f g) q (fresh_state (opened (last.map g q))) (handed_out (last.cluster g) q)).records i ≡ Some x →
      committed_by (opened (maps g)) (f g) (journals g) q i ≡ Some x
  committed g q i x has c =
      subst (λ (m : Contents). committed_in (left (f g) q (fresh_state (opened m)) (journals g q)).records i ≡ Some x) (life.maps g q has)
      (subst (λ (es : List Entry). committed_in (left (f g) q (fresh_state (opened (last.map g q))) es).records i ≡ Some x) (begins g q).1
      (journals_keep_lem (opened (last.map g q)) (f g) q (handed_out (last.cluster g) q) (begins g q).0 i x c))

  -- who has an entry in a generation has opened it, and is one of its replicas
  above : (g q : ℕ) (e : Entry) → In e (journals g q) → (has : Least last g (size (f g))) → last.base_stamp g has.replica < e.stamp
  above g q e there has = go (last.has_opened g q) refl
    where
      go : (b : Bool) → last.has_opened g q ≡ b → last.base_stamp g has.replica < e.stamp
      go false none = absurd (subst (λ (es : List Entry). In e es) (untouched g q none).0 there)
      go true some = ⊎_elim
          (λ (lt : q < size (f g)). let le = has.below q lt some in let more = clocked_above (last.base_stamp g q) (journals g q) e ((life.runs g).clocked q) there in omega (arith, le, more))
          (λ (ge : size (f g) ≤ q). absurd (subst (λ (es : List Entry). In e es) ((life.runs g).merges.local.others q ge) there))
          (cases_lt q (size (f g)))

  goes_on : (g r : ℕ) → last.has_opened (suc g) r ≡ true → Closing (maps g) (f g) (journals g) (journals (suc g))
  goes_on g r opened_it =
      let first : Least last (suc g) (size (f (suc g))) = least last (suc g) r (size (f (suc g))) opened_it in
      let h : From f last g first.replica = all_from g first.replica first.has in
      let s : HasSealed f last g h.giver (last.base_stamp (suc g) first.replica) = h.sealed in
      record {
        replica = h.giver;
        entry = s.entry;
        stands = in_begins s.entry (handed_out (last.cluster g) h.giver) (journals g h.giver) (begins g h.giver) s.stands;
        instance = s.instance;
        executes = s.executes;
        seals = ap (λ (o : Option Decree). is_seal (command_of o))
            (commits_agreed (opened (maps g)) (f g) (journals g) (life.runs g).schedule (life.runs g).merges h.giver s.instance s.decree (committed g h.giver s.instance s.decree h.has s.committed))
            ∙ s.seals;
        below = λ q e there. let low = s.reached in let more = above (suc g) q e there first in omega (arith, low, more);
      }

  chained : (n : ℕ) → AreOpen last n → AreChained start f last (standing stand_on [] moves) n
  chained n shown = record {
    schedule = λ g. (life.runs g).schedule;
    chain = record {
      merges = λ g lt. (life.runs g).merges;
      closes = λ g lt. closes g (shown g lt).0 (shown g lt).1;
    };
    clocks = λ g lt. goes_on g (shown g lt).0 (shown g lt).1;
  }

pub crashing_lives_are_chains_lem : CrashingLivesAreChains
crashing_lives_are_chains_lem start f sizes moves k n shown = chained start f sizes moves k n shown
