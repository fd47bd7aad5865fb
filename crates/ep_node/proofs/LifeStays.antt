-- What stays of a life, whatever moves come.
use Rattle.std.proofs.Common.{◌≡◌, ℕ, suc, Bool, true, false, cond, eqb, ◌||◌, Some, List, [], ◌∷◌, ◌++◌, take, refl, sym, ap, subst, ◌∙◌}
use Rattle.std.proofs.lemmas.Bool.{eq-eqb}
use Rattle.ep_rules.specs.Journals.{AreNumbered, left}
use Rattle.ep_rules.specs.Journals as rules
use Rattle.ep_rules.specs.OneMap.{Contents, opened, is_closed}
use Rattle.ep_rules.specs.States.{fresh_state, committed_in}
use Rattle.ep_rules.proofs.ClosedJournals.{closed_entries_lem}
use Rattle.ep_rules.proofs.JournalsKeep.{journals_keep_lem}
use Rattle.ep_node.specs.CrashLives.{Generations, newborn, start_of, store_out, HasSealed, LifeMove, Within, OpensNext, IsLifeMove, opened_next, after_move, AreLifeMoves, life_after}
use Rattle.ep_node.specs.Crashes.{Cluster, Move, Take, HandOut, ComeBack, Start, mover, moved, handed_out, IsBeginning}
use Rattle.ep_node.proofs.CrashLives.{at_gen, still_open, not_both, same_on, Same, numbered_move}
use Rattle.ep_node.proofs.CrashMoves.{begins_refl, handed, in_begins}
use Rattle.ep_node.proofs.CrashTraces.{at_other}

-- Who hasn't opened a generation has no entries there.

-- a node's move is no other node's
left_alone : (c : Cluster) (m : Move) (r : ℕ) → (mover m ≡ r → ⊥) → ((moved c m).journal r ≡ c.journal r) × ((moved c m).out r ≡ c.out r)
left_alone c (Take q e) r ne = (at_other q r (c.journal q ++ (e ∷ [])) c.journal ne, refl)
left_alone c (HandOut q n) r ne = (refl, at_other q r n c.out ne)
left_alone c (ComeBack q n) r ne = (at_other q r (take n (c.journal q)) c.journal ne, refl)

abbrev pub IsUntouched : Cluster → ℕ → Type 0
IsUntouched c r = (c.journal r ≡ []) × (c.out r ≡ 0)

abbrev pub AreUntouched : Generations → Type 0
AreUntouched l = (g r : ℕ) → l.has_opened g r ≡ false → IsUntouched (l.cluster g) r

-- who hasn't opened it now hadn't before
not_opened : (g r : ℕ) (o : ℕ → ℕ → Bool) (h p : ℕ) → opened_next g r o h p ≡ false → o h p ≡ false
not_opened g r o h p e = go (o h p) refl
  where
    go : (b : Bool) → o h p ≡ b → b ≡ false
    go true is = absurd (not_both (opened_next g r o h p) (still_open g r o h p is) e)
    go false is = refl

untouched_on : (f : ℕ → ℕ) (l : Generations) (m : LifeMove) → IsLifeMove f l m → AreUntouched l → AreUntouched (after_move f l m)
untouched_on f l (OpensNext g r q base_stamp) k h = λ j p e. h j p (not_opened g r l.has_opened j p e)
untouched_on f l (Within g m) k h =
    at_gen (λ j c. (r : ℕ) → l.has_opened j r ≡ false → IsUntouched c r) g (moved (l.cluster g) m) l.cluster
    (λ r e.
    let alone = left_alone (l.cluster g) m r (λ (is : mover m ≡ r). not_both (l.has_opened g r) (subst (λ (p : ℕ). l.has_opened g p ≡ true) is k.0) e) in
    (alone.0 ∙ (h g r e).0, alone.1 ∙ (h g r e).1))
    (λ j e. h j)

pub untouched_after : (f : ℕ → ℕ) (l : Generations) (ms : List LifeMove) → AreLifeMoves f l ms → AreUntouched l → AreUntouched (life_after f l ms)
untouched_after f l [] k h = h
untouched_after f l (m ∷ ms) k h = untouched_after f (after_move f l m) ms k.1 (untouched_on f l m k.0 h)

pub untouched_first : (start : Start) → AreUntouched (newborn start)
untouched_first start g r e = (refl, refl)

-- Entries are numbered.

abbrev pub AllNumbered : Generations → Type 0
AllNumbered l = (g r : ℕ) → AreNumbered 1 0 ((l.cluster g).journal r)

numbered_on : (f : ℕ → ℕ) (l : Generations) (m : LifeMove) → IsLifeMove f l m → AllNumbered l → AllNumbered (after_move f l m)
numbered_on f l (OpensNext g r q base_stamp) k h = h
numbered_on f l (Within g m) k h =
    at_gen (λ j c. (r : ℕ) → AreNumbered 1 0 (c.journal r)) g (moved (l.cluster g) m) l.cluster (numbered_move (start_of l g (mover m)) (f g) (l.cluster g) m (h g) k.1) (λ j e. h j)

pub numbered_after : (f : ℕ → ℕ) (l : Generations) (ms : List LifeMove) → AreLifeMoves f l ms → AllNumbered l → AllNumbered (life_after f l ms)
numbered_after f l [] k h = h
numbered_after f l (m ∷ ms) k h = numbered_after f (after_move f l m) ms k.1 (numbered_on f l m k.0 h)

-- What was handed out of only grows.

handed_in : (f : ℕ → ℕ) (l : Generations) (m : LifeMove) → IsLifeMove f l m → (g r : ℕ) → IsBeginning (handed_out (l.cluster g) r) (handed_out ((after_move f l m).cluster g) r)
handed_in f l (OpensNext h p q base_stamp) k g r = begins_refl (handed_out (l.cluster g) r)
handed_in f l (Within h m) k g r =
    at_gen (λ j c. IsBeginning (handed_out (l.cluster j) r) (handed_out c r)) h (moved (l.cluster h) m) l.cluster
    (handed (start_of l h (mover m)) (f h) (l.cluster h) m k.1 r)
    (λ j e. begins_refl (handed_out (l.cluster j) r))
    g

module _ (f : ℕ → ℕ) (l : Generations) (g q : ℕ) (has : l.has_opened g q ≡ true) where
  -- a map that was closed and handed out of stays
  pub store_stays : is_closed (store_out f l g q) ≡ true → (m : LifeMove) → IsLifeMove f l m → store_out f (after_move f l m) g q ≡ store_out f l g q
  store_stays closed m move =
      let same : Same l (after_move f l m) g q = same_on f l m move g q has in
      let b : IsBeginning (handed_out (l.cluster g) q) (handed_out ((after_move f l m).cluster g) q) = handed_in f l m move g q in
      ap (λ (x : Contents). (left (f g) q (fresh_state (opened x)) (handed_out ((after_move f l m).cluster g) q)).store) same.map
      ∙ ap (λ (es : List rules.Entry). (left (f g) q (fresh_state (opened (l.map g q))) es).store) (sym b.1)
      ∙ closed_entries_lem (opened (l.map g q)) (f g) q (handed_out (l.cluster g) q) b.0 closed

  -- so does the entry that executed the seal
  pub sealed_stays : (base_stamp : ℕ) → HasSealed f l g q base_stamp → (m : LifeMove) → IsLifeMove f l m → HasSealed f (after_move f l m) g q base_stamp
  sealed_stays base_stamp h m move =
      let same : Same l (after_move f l m) g q = same_on f l m move g q has in
      let b : IsBeginning (handed_out (l.cluster g) q) (handed_out ((after_move f l m).cluster g) q) = handed_in f l m move g q in
      record {
        entry = h.entry;
        stands = in_begins h.entry (handed_out (l.cluster g) q) (handed_out ((after_move f l m).cluster g) q) b h.stands;
        instance = h.instance;
        executes = h.executes;
        decree = h.decree;
        committed = subst (λ (x : Contents). committed_in (left (f g) q (fresh_state (opened x)) (handed_out ((after_move f l m).cluster g) q)).records h.instance ≡ Some h.decree) (sym same.map)
            (subst (λ (es : List rules.Entry). committed_in (left (f g) q (fresh_state (opened (l.map g q))) es).records h.instance ≡ Some h.decree) b.1
            (journals_keep_lem (opened (l.map g q)) (f g) q (handed_out (l.cluster g) q) b.0 h.instance h.decree h.committed));
        seals = h.seals;
        reached = h.reached;
      }

-- What a replica opens the next generation with.

pub at_opened : {X : Type 0} (g r : ℕ) (x y : X) → cond (eqb (suc g) (suc g)) (cond (eqb r r) x y) y ≡ x
at_opened g r x y = ap (λ b. cond b (cond (eqb r r) x y) y) (eq-eqb (suc g) (suc g) refl) ∙ ap (λ b. cond b x y) (eq-eqb r r refl)

pub has_now : (g r : ℕ) (o : ℕ → ℕ → Bool) → opened_next g r o (suc g) r ≡ true
has_now g r o = ap (λ b. cond b (eqb r r || o (suc g) r) (o (suc g) r)) (eq-eqb (suc g) (suc g) refl) ∙ ap (λ b. b || o (suc g) r) (eq-eqb r r refl)
