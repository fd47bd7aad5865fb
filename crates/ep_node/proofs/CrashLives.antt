-- Generations of nodes that crash and come back are a life.
use Rattle.std.proofs.Common.{◌≡◌, ℕ, zero, suc, ◌+◌, ◌<◌, ◌≤◌, max, length, Bool, true, false, ◌&&◌, ◌||◌, cond, eqb, ltb, List, [], ◌∷◌, ◌++◌, take, refl, sym, ap, subst, ◌∙◌, arith, append-nil, append_assoc, ⊎_elim}
use Rattle.std.proofs.lemmas.Bool.{eq-eqb, eqb-true, ne_eqb, cases_eq}
use Rattle.std.proofs.lemmas.List.{length-take-le, take_all, length-append}
use Rattle.ep_base.specs.Quorums.{size}
use Rattle.ep_rules.specs.Closing.{HasClosed}
use Rattle.ep_rules.specs.Generations.{Turn, Opens, Steps, Life, birth, turned, lived, acts_in, opening_map, opened_at, IsReady}
use Rattle.ep_rules.specs.Journals.{Entry, IsEntry, left, AreNumbered, stamp_after, heard, Scheduled, of, act_of, acts_of}
use Rattle.ep_rules.specs.OneMap.{Contents, Store, opened, is_closed}
use Rattle.ep_rules.specs.States.{State, fresh_state}
use Rattle.ep_rules.specs.Worlds.{opening, IsRun, ends}
use Rattle.ep_rules.proofs.ClosedJournals.{closed_entries_lem}
use Rattle.ep_rules.proofs.Closings.{runs_close_lem}
use Rattle.ep_rules.proofs.JournalsCommitted.{of_both}
use Rattle.ep_rules.proofs.JournalsGrow.{numbered_grow, own_entries_leave_lem}
use Rattle.ep_rules.proofs.Lives.{runs_make_lives_lem}
use Rattle.ep_rules.proofs.LivesLinear.{lives_are_linearizable_lem}
use Rattle.ep_node.specs.Crashes.{Start, Cluster, fresh_cluster, Move, Take, HandOut, ComeBack, mover, IsMove, with_at, moved, AreMoves, cluster_after, handed_out, without, is_beyond, stand_after, standing, IsOneRun, IsBeginning}
use Rattle.ep_node.specs.CrashLives.{Generations, newborn, start_of, store_out, LifeMove, Within, OpensNext, IsLifeMove, opened_next, after_move, AreLifeMoves, life_after, Stood, Took, Opened, is_lost, stand_on, taken_in, turn_of, turns_of, IsLifeInRealTime, CrashingLivesAreLinearizable}
use Rattle.ep_node.proofs.CrashMoves.{at_each, take_begins, numbered_take, stamp_least}
use Rattle.ep_node.proofs.CrashOrders.{kept, without_both, low, low_take, kept_here, kept_other, own_move, crashing_runs_are_linearizable_lem}
use Rattle.ep_node.proofs.CrashRuns.{crashing_runs_are_runs_lem}
use Rattle.ep_node.proofs.CrashTraces.{out_next}

-- What holds of the new value, and of the old ones elsewhere, holds everywhere.
pub at_gen : {X : Type 0} (P : ℕ → X → Type 0) (g : ℕ) (x : X) (was : ℕ → X) → P g x → ((h : ℕ) → eqb g h ≡ false → P h (was h)) → (h : ℕ) → P h (with_at g x was h)
at_gen P g x was here there h = go (eqb g h) refl
  where
    go : (b : Bool) → eqb g h ≡ b → P h (cond b x (was h))
    go true e = subst (λ k. P k x) (eqb-true g h e) here
    go false e = there h e

-- The entries of one generation.

pub taken_both : (g : ℕ) (xs ys : List Stood) → taken_in g (xs ++ ys) ≡ taken_in g xs ++ taken_in g ys
taken_both g [] ys = refl
taken_both g (Took h a ∷ xs) ys = go (eqb h g) (taken_both g xs ys)
  where
    go : (b : Bool) → taken_in g (xs ++ ys) ≡ taken_in g xs ++ taken_in g ys →
        cond b (a ∷ taken_in g (xs ++ ys)) (taken_in g (xs ++ ys)) ≡ cond b (a ∷ taken_in g xs) (taken_in g xs) ++ taken_in g ys
    go true rec = ap (λ l. a ∷ l) rec
    go false rec = rec
taken_both g (Opened h r q ∷ xs) ys = taken_both g xs ys

-- these without the entries of the generation at r that are beyond its first n
abbrev kept_in : ℕ → ℕ → ℕ → List Stood → List Stood
kept_in g r n these = without (is_lost g r n) these

module _ (g h r n k : ℕ) (a : Scheduled) (K : List Stood) (T : List Scheduled) where
  own_first : taken_in g (Took g a ∷ K) ≡ a ∷ taken_in g K
  own_first = ap (λ z. cond z (a ∷ taken_in g K) (taken_in g K)) (eq-eqb g g refl)

  own_kept : (b z : Bool) → taken_in g K ≡ cond b (kept r n T) T → taken_in g (cond (b && z) K (Took g a ∷ K)) ≡ cond b (cond z (kept r n T) (a ∷ kept r n T)) (a ∷ T)
  own_kept true true rec = rec
  own_kept true false rec = own_first ∙ ap (λ l. a ∷ l) rec
  own_kept false z rec = own_first ∙ ap (λ l. a ∷ l) rec

  other_kept : (b z : Bool) → eqb k g ≡ false → taken_in g (cond (b && z) K (Took k a ∷ K)) ≡ taken_in g K
  other_kept true true e = refl
  other_kept true false e = ap (λ z. cond z (a ∷ taken_in g K) (taken_in g K)) e
  other_kept false z e = ap (λ z. cond z (a ∷ taken_in g K) (taken_in g K)) e

  kept_step : (b : Bool) → eqb k g ≡ b → taken_in g K ≡ cond (eqb h g) (kept r n T) T →
      taken_in g (cond (eqb h k && is_beyond r n a) K (Took k a ∷ K)) ≡ cond (eqb h g) (kept r n (cond b (a ∷ T) T)) (cond b (a ∷ T) T)
  kept_step true e rec = subst
      (λ j. taken_in g (cond (eqb h j && is_beyond r n a) K (Took j a ∷ K)) ≡ cond (eqb h g) (kept r n (a ∷ T)) (a ∷ T))
      (sym (eqb-true k g e))
      (own_kept (eqb h g) (is_beyond r n a) rec)
  kept_step false e rec = other_kept (eqb h k) (is_beyond r n a) e ∙ rec

kept_taken : (g h r n : ℕ) (these : List Stood) → taken_in g (kept_in h r n these) ≡ cond (eqb h g) (kept r n (taken_in g these)) (taken_in g these)
kept_taken g h r n [] = go (eqb h g)
  where
    go : (b : Bool) → taken_in g [] ≡ cond b (kept r n (taken_in g [])) (taken_in g [])
    go true = refl
    go false = refl
kept_taken g h r n (Opened k p q ∷ these) = kept_taken g h r n these
kept_taken g h r n (Took k a ∷ these) = kept_step g h r n k a (kept_in h r n these) (taken_in g these) (eqb k g) refl (kept_taken g h r n these)

taken_here : (g : ℕ) (m : Move) (these : List Stood) → taken_in g (stand_on (Within g m) these) ≡ stand_after m (taken_in g these)
taken_here g (Take r e) these =
    let a : Scheduled = record { replica = r; entry = e } in
    taken_both g these (Took g a ∷ []) ∙ ap (λ b. taken_in g these ++ cond b (a ∷ []) []) (eq-eqb g g refl)
taken_here g (HandOut r n) these = refl
taken_here g (ComeBack r n) these = kept_taken g g r n these ∙ ap (λ b. cond b (kept r n (taken_in g these)) (taken_in g these)) (eq-eqb g g refl)

taken_there : (g h : ℕ) (m : Move) (these : List Stood) → eqb g h ≡ false → taken_in h (stand_on (Within g m) these) ≡ taken_in h these
taken_there g h (Take r e) these is =
    let a : Scheduled = record { replica = r; entry = e } in
    taken_both h these (Took g a ∷ []) ∙ ap (λ b. taken_in h these ++ cond b (a ∷ []) []) is ∙ append-nil (taken_in h these)
taken_there g h (HandOut r n) these is = refl
taken_there g h (ComeBack r n) these is = kept_taken h g r n these ∙ ap (λ b. cond b (kept r n (taken_in h these)) (taken_in h these)) is

-- The moves of one generation.

abbrev moves_in : ℕ → List LifeMove → List Move
moves_in g [] = []
moves_in g (Within h m ∷ ms) = cond (eqb h g) (m ∷ moves_in g ms) (moves_in g ms)
moves_in g (OpensNext h r q base_stamp ∷ ms) = moves_in g ms

cluster_in : (f : ℕ → ℕ) (l : Generations) (ms : List LifeMove) (g : ℕ) → (life_after f l ms).cluster g ≡ cluster_after (l.cluster g) (moves_in g ms)
cluster_in f l [] g = refl
cluster_in f l (OpensNext h r q base_stamp ∷ ms) g = cluster_in f (after_move f l (OpensNext h r q base_stamp)) ms g
cluster_in f l (Within h m ∷ ms) g = cluster_in f (after_move f l (Within h m)) ms g ∙ go (eqb h g) refl
  where
    go : (b : Bool) → eqb h g ≡ b → cluster_after (cond b (moved (l.cluster h) m) (l.cluster g)) (moves_in g ms) ≡ cluster_after (l.cluster g) (cond b (m ∷ moves_in g ms) (moves_in g ms))
    go true e = ap (λ k. cluster_after (moved (l.cluster k) m) (moves_in g ms)) (eqb-true h g e)
    go false e = refl

standing_in : (g : ℕ) (ms : List LifeMove) (these : List Stood) → taken_in g (standing stand_on these ms) ≡ standing stand_after (taken_in g these) (moves_in g ms)
standing_in g [] these = refl
standing_in g (OpensNext h r q base_stamp ∷ ms) these =
    standing_in g ms (these ++ (Opened h r q ∷ [])) ∙ ap (λ l. standing stand_after l (moves_in g ms)) (taken_both g these (Opened h r q ∷ []) ∙ append-nil (taken_in g these))
standing_in g (Within h m ∷ ms) these = standing_in g ms (stand_on (Within h m) these) ∙ go (eqb h g) refl
  where
    go : (b : Bool) → eqb h g ≡ b → standing stand_after (taken_in g (stand_on (Within h m) these)) (moves_in g ms) ≡ standing stand_after (taken_in g these) (cond b (m ∷ moves_in g ms) (moves_in g ms))
    go true e = ap (λ l. standing stand_after l (moves_in g ms)) (subst (λ k. taken_in g (stand_on (Within k m) these) ≡ stand_after m (taken_in g these)) (sym (eqb-true h g e)) (taken_here g m these))
    go false e = ap (λ l. standing stand_after l (moves_in g ms)) (taken_there h g m these e)

-- Who has opened what.

abbrev pub has_over : (ℕ → ℕ → Bool) → List Stood → ℕ → ℕ → Bool
has_over o [] = o
has_over o (Took g a ∷ xs) = has_over o xs
has_over o (Opened g r q ∷ xs) = has_over (opened_next g r o) xs

has_both : (o : ℕ → ℕ → Bool) (xs ys : List Stood) → has_over o (xs ++ ys) ≡ has_over (has_over o xs) ys
has_both o [] ys = refl
has_both o (Took g a ∷ xs) ys = has_both o xs ys
has_both o (Opened g r q ∷ xs) ys = has_both (opened_next g r o) xs ys

pub has_kept : (g r n : ℕ) (o : ℕ → ℕ → Bool) (xs : List Stood) → has_over o (kept_in g r n xs) ≡ has_over o xs
has_kept g r n o [] = refl
has_kept g r n o (Opened h p q ∷ xs) = has_kept g r n (opened_next h p o) xs
has_kept g r n o (Took h a ∷ xs) = go (eqb g h && is_beyond r n a) (has_kept g r n o xs)
  where
    go : (b : Bool) → has_over o (kept_in g r n xs) ≡ has_over o xs → has_over o (cond b (kept_in g r n xs) (Took h a ∷ kept_in g r n xs)) ≡ has_over o xs
    go true rec = rec
    go false rec = rec

pub lived_over : (f : ℕ → ℕ) (l : Life) (xs : List Stood) → (lived f l (turns_of xs)).has_opened ≡ has_over l.has_opened xs
lived_over f l [] = refl
lived_over f l (Took g a ∷ xs) = lived_over f (turned f l (Steps g (act_of a))) xs
lived_over f l (Opened g r q ∷ xs) = lived_over f (turned f l (Opens g r q)) xs

pub still_open : (g r : ℕ) (o : ℕ → ℕ → Bool) (h p : ℕ) → o h p ≡ true → opened_next g r o h p ≡ true
still_open g r o h p e = go (eqb (suc g) h) (eqb r p)
  where
    go : (a b : Bool) → cond a (b || o h p) (o h p) ≡ true
    go true true = refl
    go true false = e
    go false b = e

has_more : (o : ℕ → ℕ → Bool) (xs : List Stood) (h p : ℕ) → o h p ≡ true → has_over o xs h p ≡ true
has_more o [] h p e = e
has_more o (Took g a ∷ xs) h p e = has_more o xs h p e
has_more o (Opened g r q ∷ xs) h p e = has_more (opened_next g r o) xs h p (still_open g r o h p e)

has_on : (f : ℕ → ℕ) (l : Generations) (m : LifeMove) (o : ℕ → ℕ → Bool) (these : List Stood) → has_over o these ≡ l.has_opened → has_over o (stand_on m these) ≡ (after_move f l m).has_opened
has_on f l (Within g (Take r e)) o these is = has_both o these (Took g (record { replica = r; entry = e }) ∷ []) ∙ is
has_on f l (Within g (HandOut r n)) o these is = is
has_on f l (Within g (ComeBack r n)) o these is = has_kept g r n o these ∙ is
has_on f l (OpensNext g r q base_stamp) o these is = has_both o these (Opened g r q ∷ []) ∙ ap (λ was. opened_next g r was) is

pub has_after : (f : ℕ → ℕ) (l : Generations) (ms : List LifeMove) (o : ℕ → ℕ → Bool) (these : List Stood) → has_over o these ≡ l.has_opened → has_over o (standing stand_on these ms) ≡ (life_after f l ms).has_opened
has_after f l [] o these is = is
has_after f l (m ∷ ms) o these is = has_after f (after_move f l m) ms o (stand_on m these) (has_on f l m o these is)

-- What it was opened with stays.
pub record Same (l l' : Generations) (g r : ℕ) : Type 0 where
  pub has : l'.has_opened g r ≡ true
  pub map : l'.map g r ≡ l.map g r
  pub base_stamp : l'.base_stamp g r ≡ l.base_stamp g r

same_trans : (l l' l'' : Generations) (g r : ℕ) → Same l l' g r → Same l' l'' g r → Same l l'' g r
same_trans l l' l'' g r s t = record { has = t.has; map = t.map ∙ s.map; base_stamp = t.base_stamp ∙ s.base_stamp }

pub not_both : (b : Bool) → b ≡ true → b ≡ false → ⊥
not_both true e h = absurd (let c : true ≡ false = h in cc)
not_both false e h = absurd (let c : false ≡ true = e in cc)

pub same_on : (f : ℕ → ℕ) (l : Generations) (m : LifeMove) → IsLifeMove f l m → (g r : ℕ) → l.has_opened g r ≡ true → Same l (after_move f l m) g r
same_on f l (Within h m) k g r is = record { has = is; map = refl; base_stamp = refl }
same_on f l (OpensNext h p q base_stamp) k g r is = record { has = still_open h p l.has_opened g r is; map = go _ _ (eqb (suc h) g) (eqb p r) refl refl; base_stamp = go _ _ (eqb (suc h) g) (eqb p r) refl refl }
  where
    go : {X : Type 0} (x y : X) (a b : Bool) → eqb (suc h) g ≡ a → eqb p r ≡ b → cond a (cond b x y) y ≡ y
    go x y true true ea eb = absurd (not_both (l.has_opened g r) is
        (subst (λ t. l.has_opened t r ≡ false) (eqb-true (suc h) g ea) (subst (λ t. l.has_opened (suc h) t ≡ false) (eqb-true p r eb) k.0)))
    go x y true false ea eb = refl
    go x y false b ea eb = refl

pub same_after : (f : ℕ → ℕ) (l : Generations) (ms : List LifeMove) → AreLifeMoves f l ms → (g r : ℕ) → l.has_opened g r ≡ true → Same l (life_after f l ms) g r
same_after f l [] k g r is = record { has = is; map = refl; base_stamp = refl }
same_after f l (m ∷ ms) k g r is =
    let one : Same l (after_move f l m) g r = same_on f l m k.0 g r is in
    same_trans l (after_move f l m) (life_after f (after_move f l m) ms) g r one (same_after f (after_move f l m) ms k.1 g r one.has)

map_first : (f : ℕ → ℕ) (l : Generations) (ms : List LifeMove) (r : ℕ) → (life_after f l ms).map 0 r ≡ l.map 0 r
map_first f l [] r = refl
map_first f l (Within g m ∷ ms) r = map_first f (after_move f l (Within g m)) ms r
map_first f l (OpensNext g p q base_stamp ∷ ms) r =
    map_first f (after_move f l (OpensNext g p q base_stamp)) ms r
    ∙ ap (λ b. cond b (cond (eqb p r) (store_out f l g q).contents (l.map 0 r)) (l.map 0 r)) (ne_eqb (suc g) 0 (λ (e : suc g ≡ 0). omega arith))

-- A generation's moves, where all who have opened it opened it with one map.

other_start : (s t : Start) (f : ℕ) (c : Cluster) (m : Move) → s.map ≡ t.map → s.base_stamp (mover m) ≡ t.base_stamp (mover m) → IsMove s f c m → IsMove t f c m
other_start s t f c (Take r e) maps sinces k = (
  k.0,
  record {
    entry = subst (λ (x : Contents). IsEntry f r (left f r (fresh_state (opened x)) (c.journal r)) e) maps k.1.entry;
    number = k.1.number;
    stamp = k.1.stamp ∙ ap (λ (x : ℕ). 1 + max (stamp_after x (c.journal r)) (heard e.event)) sinces;
    marked = k.1.marked;
  },
  k.2,
)
other_start s t f c (HandOut r n) maps sinces k = k
other_start s t f c (ComeBack r n) maps sinces k = k

-- one move, which another start allows
move_is : (f : ℕ → ℕ) (x : Contents) (g h : ℕ) (l last : Generations) (m : Move) → h ≡ g → IsLifeMove f l (Within h m) → ((r : ℕ) → l.has_opened g r ≡ true → Same l last g r) →
    ((r : ℕ) → last.has_opened g r ≡ true → last.map g r ≡ x) → IsMove (record { map = x; base_stamp = last.base_stamp g }) (f g) (l.cluster g) m
move_is f x g h l last m is k same one =
    let j : IsLifeMove f l (Within g m) = subst (λ t. IsLifeMove f l (Within t m)) is k in
    let s : Same l last g (mover m) = same (mover m) j.0 in
    other_start (start_of l g (mover m)) (record { map = x; base_stamp = last.base_stamp g }) (f g) (l.cluster g) m (sym s.map ∙ one (mover m) s.has) (sym s.base_stamp) j.1

moves_are : (f : ℕ → ℕ) (x : Contents) (g : ℕ) (l : Generations) (ms : List LifeMove) → AreLifeMoves f l ms → ((r : ℕ) → (life_after f l ms).has_opened g r ≡ true → (life_after f l ms).map g r ≡ x) →
    AreMoves (record { map = x; base_stamp = (life_after f l ms).base_stamp g }) (f g) (l.cluster g) (moves_in g ms)
moves_are f x g l [] k one = tt
moves_are f x g l (OpensNext h r q base_stamp ∷ ms) k one = moves_are f x g (after_move f l (OpensNext h r q base_stamp)) ms k.1 one
moves_are f x g l (Within h m ∷ ms) k one = go (eqb h g) refl (moves_are f x g (after_move f l (Within h m)) ms k.1 one)
  where
    go : (b : Bool) → eqb h g ≡ b →
        AreMoves (record { map = x; base_stamp = (life_after f l (Within h m ∷ ms)).base_stamp g }) (f g) (cond b (moved (l.cluster h) m) (l.cluster g)) (moves_in g ms) →
        AreMoves (record { map = x; base_stamp = (life_after f l (Within h m ∷ ms)).base_stamp g }) (f g) (l.cluster g) (cond b (m ∷ moves_in g ms) (moves_in g ms))
    go true e rec = (
      move_is f x g h l (life_after f l (Within h m ∷ ms)) m (eqb-true h g e) k.0 (same_after f l (Within h m ∷ ms) k g) one,
      subst (λ t. AreMoves (record { map = x; base_stamp = (life_after f l (Within h m ∷ ms)).base_stamp g }) (f g) (moved (l.cluster t) m) (moves_in g ms)) (eqb-true h g e) rec,
    )
    go false e rec = rec

-- What stands, and what the nodes have.

record Fits (l : Generations) (these : List Stood) : Type 0 where
  pub own : (g r : ℕ) → of r (taken_in g these) ≡ (l.cluster g).journal r
  pub numbered : (g r : ℕ) → AreNumbered 1 0 ((l.cluster g).journal r)
  pub within : (g r : ℕ) → (l.cluster g).out r ≤ length ((l.cluster g).journal r)

pub numbered_move : (s : Start) (f : ℕ) (c : Cluster) (m : Move) → ((r : ℕ) → AreNumbered 1 0 (c.journal r)) → IsMove s f c m → (r : ℕ) → AreNumbered 1 0 ((moved c m).journal r)
numbered_move s f c (Take r e) h k =
    at_each (λ q es. AreNumbered 1 0 es) r (c.journal r ++ (e ∷ [])) c.journal
    (numbered_grow 1 0 (c.journal r) e (h r) (let n = k.1.number in omega arith) (let t = k.1.stamp in let l = stamp_least (s.base_stamp r) (c.journal r) in omega arith) k.1.marked) h
numbered_move s f c (HandOut r n) h k = h
numbered_move s f c (ComeBack r n) h k = at_each (λ q es. AreNumbered 1 0 es) r (take n (c.journal r)) c.journal (numbered_take n (c.journal r) (h r)) h

pub within_move : (s : Start) (f : ℕ) (c : Cluster) (m : Move) → ((r : ℕ) → c.out r ≤ length (c.journal r)) → IsMove s f c m → (r : ℕ) → (moved c m).out r ≤ length ((moved c m).journal r)
within_move s f c (Take r e) h k = at_each (λ q es. c.out q ≤ length es) r (c.journal r ++ (e ∷ [])) c.journal (let le = h r in omega (arith, length-append (c.journal r) (e ∷ []))) h
within_move s f c (HandOut r n) h k = at_each (λ q j. j ≤ length (c.journal q)) r n c.out k.1.most h
within_move s f c (ComeBack r n) h k =
    at_each (λ q es. c.out q ≤ length es) r (take n (c.journal r)) c.journal (let le = k.1.least in omega (arith, length-take-le n (c.journal r) k.1.most)) h

fits_move : (f : ℕ → ℕ) (l : Generations) (these : List Stood) → Fits l these → (m : LifeMove) → IsLifeMove f l m → Fits (after_move f l m) (stand_on m these)
fits_move f l these h (OpensNext g r q base_stamp) k = record {
  own = λ j p. ap (of p) (taken_both j these (Opened g r q ∷ []) ∙ append-nil (taken_in j these)) ∙ h.own j p;
  numbered = h.numbered;
  within = h.within;
}
fits_move f l these h (Within g m) k = record {
  own = at_gen (λ j c. (p : ℕ) → of p (taken_in j (stand_on (Within g m) these)) ≡ c.journal p) g (moved (l.cluster g) m) l.cluster
      (λ p. ap (of p) (taken_here g m these) ∙ own_move (l.cluster g) (taken_in g these) (h.own g) (h.numbered g) m p)
      (λ j e p. ap (of p) (taken_there g j m these e) ∙ h.own j p);
  numbered = at_gen (λ j c. (p : ℕ) → AreNumbered 1 0 (c.journal p)) g (moved (l.cluster g) m) l.cluster
      (numbered_move (start_of l g (mover m)) (f g) (l.cluster g) m (h.numbered g) k.1) (λ j e. h.numbered j);
  within = at_gen (λ j c. (p : ℕ) → c.out p ≤ length (c.journal p)) g (moved (l.cluster g) m) l.cluster
      (within_move (start_of l g (mover m)) (f g) (l.cluster g) m (h.within g) k.1) (λ j e. h.within j);
}

-- What was handed out of only grows.
pub out_on : (f : ℕ → ℕ) (l : Generations) (m : LifeMove) → IsLifeMove f l m → (g r : ℕ) → (l.cluster g).out r ≤ ((after_move f l m).cluster g).out r
out_on f l (OpensNext h p q base_stamp) k = λ g r. omega arith
out_on f l (Within h m) k =
    at_gen (λ j c. (r : ℕ) → (l.cluster j).out r ≤ c.out r) h (moved (l.cluster h) m) l.cluster (out_next (start_of l h (mover m)) (f h) (l.cluster h) m k.1) (λ j e r. omega arith)

-- Each turn is allowed by those that stand before it.

-- what q had handed out in generation g closed its map, and r opened the next generation with that map
record Shut (M : ℕ → ℕ → Contents) (f : ℕ → ℕ) (out : ℕ → ℕ → ℕ) (g r q : ℕ) (before : List Stood) : Type 0 where
  pub handed : List Entry
  pub begins : IsBeginning handed (of q (taken_in g before))
  pub numbered : AreNumbered 1 0 handed
  pub within : length handed ≤ out g q
  pub closed : is_closed (left (f g) q (fresh_state (opened (M g q))) handed).store ≡ true
  pub map : M (suc g) r ≡ (left (f g) q (fresh_state (opened (M g q))) handed).store.contents

module _ (M : ℕ → ℕ → Contents) (f : ℕ → ℕ) (o : ℕ → ℕ → Bool) where
  abbrev IsReadyFor : (ℕ → ℕ → ℕ) → List Stood → Stood → Type 0
  IsReadyFor out before (Took g a) = has_over o before g a.replica ≡ true
  IsReadyFor out before (Opened g r q) = (has_over o before (suc g) r ≡ false) × (has_over o before g q ≡ true) × Shut M f out g r q before

  abbrev AreReady : (ℕ → ℕ → ℕ) → List Stood → List Stood → Type 0
  AreReady out before [] = Unit {0}
  AreReady out before (s ∷ rest) = IsReadyFor out before s × AreReady out (before ++ (s ∷ [])) rest

  ready_more : (out : ℕ → ℕ → ℕ) (before rest : List Stood) (s : Stood) → AreReady out before rest → IsReadyFor out (before ++ rest) s → AreReady out before (rest ++ (s ∷ []))
  ready_more out before [] s h k = (subst (λ l. IsReadyFor out l s) (append-nil before) k, tt)
  ready_more out before (x ∷ rest) s h k = (h.0, ready_more out (before ++ (x ∷ [])) rest s h.1 (subst (λ l. IsReadyFor out l s) (sym (append_assoc before (x ∷ []) rest)) k))

  shut_later : (out out' : ℕ → ℕ → ℕ) → ((g r : ℕ) → out g r ≤ out' g r) → (g r q : ℕ) (before : List Stood) → Shut M f out g r q before → Shut M f out' g r q before
  shut_later out out' le g r q before h = record {
    handed = h.handed;
    begins = h.begins;
    numbered = h.numbered;
    within = (let w = h.within in let more = le g q in omega arith);
    closed = h.closed;
    map = h.map;
  }

  for_later : (out out' : ℕ → ℕ → ℕ) → ((g r : ℕ) → out g r ≤ out' g r) → (before : List Stood) (s : Stood) → IsReadyFor out before s → IsReadyFor out' before s
  for_later out out' le before (Took g a) h = h
  for_later out out' le before (Opened g r q) h = (h.0, h.1, shut_later out out' le g r q before h.2)

  ready_later : (out out' : ℕ → ℕ → ℕ) → ((g r : ℕ) → out g r ≤ out' g r) → (before rest : List Stood) → AreReady out before rest → AreReady out' before rest
  ready_later out out' le before [] h = tt
  ready_later out out' le before (s ∷ rest) h = (for_later out out' le before s h.0, ready_later out out' le (before ++ (s ∷ [])) rest h.1)

low_both : (n : ℕ) (xs ys : List Entry) → low n (xs ++ ys) ≡ low n xs ++ low n ys
low_both n [] ys = refl
low_both n (e ∷ xs) ys = go (ltb n e.number) (low_both n xs ys)
  where
    go : (b : Bool) → low n (xs ++ ys) ≡ low n xs ++ low n ys → cond b (low n (xs ++ ys)) (e ∷ low n (xs ++ ys)) ≡ cond b (low n xs) (e ∷ low n xs) ++ low n ys
    go true rec = rec
    go false rec = ap (λ l. e ∷ l) rec

-- a beginning that a crash leaves
low_begins : (n : ℕ) (handed all : List Entry) → AreNumbered 1 0 handed → length handed ≤ n → IsBeginning handed all → IsBeginning handed (low n all)
low_begins n handed all numbered le b =
    (low n b.0, ap (λ l. l ++ low n b.0) (sym (low_take n 1 n 0 handed numbered (omega arith) ∙ take_all n handed le)) ∙ sym (low_both n handed b.0) ∙ ap (low n) b.1)

-- what is lost of an entry's journal, as its replica's
lost_of : (g r n : ℕ) (xs : List Stood) (h q : ℕ) → ((handed : List Entry) → AreNumbered 1 0 handed → (g ≡ h → r ≡ q → length handed ≤ n) → IsBeginning handed (of q (taken_in h xs)) →
    IsBeginning handed (of q (taken_in h (kept_in g r n xs))))
lost_of g r n xs h q handed numbered le b = ⊎_elim here (λ (ne : g ≡ h → ⊥). subst (λ l. IsBeginning handed (of q l)) (sym (whole (ne_eqb g h ne))) b) (cases_eq g h)
  where
    whole : eqb g h ≡ false → taken_in h (kept_in g r n xs) ≡ taken_in h xs
    whole e = kept_taken h g r n xs ∙ ap (λ t. cond t (kept r n (taken_in h xs)) (taken_in h xs)) e

    part : g ≡ h → taken_in h (kept_in g r n xs) ≡ kept r n (taken_in h xs)
    part is = kept_taken h g r n xs ∙ ap (λ t. cond t (kept r n (taken_in h xs)) (taken_in h xs)) (eq-eqb g h is)

    mine : g ≡ h → r ≡ q → IsBeginning handed (of q (kept r n (taken_in h xs)))
    mine is it =
        subst (λ l. IsBeginning handed l) (sym (subst (λ p. of p (kept r n (taken_in h xs)) ≡ low n (of p (taken_in h xs))) it (kept_here r n (taken_in h xs))))
        (low_begins n handed (of q (taken_in h xs)) numbered (le is it) b)

    here : g ≡ h → IsBeginning handed (of q (taken_in h (kept_in g r n xs)))
    here is = subst (λ l. IsBeginning handed (of q l)) (sym (part is))
        (⊎_elim (mine is) (λ (ne : r ≡ q → ⊥). subst (λ l. IsBeginning handed l) (sym (kept_other r n q (taken_in h xs) ne)) b) (cases_eq r q))

module _ (M : ℕ → ℕ → Contents) (f : ℕ → ℕ) (o : ℕ → ℕ → Bool) (g r n : ℕ) (out : ℕ → ℕ → ℕ) (le : out g r ≤ n) where
  for_kept : (before : List Stood) (s : Stood) → IsReadyFor M f o out before s → IsReadyFor M f o out (kept_in g r n before) s
  for_kept before (Took h a) k = ap (λ was. was h a.replica) (has_kept g r n o before) ∙ k
  for_kept before (Opened h p q) k = (
    ap (λ was. was (suc h) p) (has_kept g r n o before) ∙ k.0,
    ap (λ was. was h q) (has_kept g r n o before) ∙ k.1,
    record {
      handed = k.2.handed;
      begins = lost_of g r n before h q k.2.handed k.2.numbered
          (λ is it. let w : length k.2.handed ≤ out g r = subst (λ t. length k.2.handed ≤ out t r) (sym is) (subst (λ t. length k.2.handed ≤ out h t) (sym it) k.2.within) in omega arith)
          k.2.begins;
      numbered = k.2.numbered;
      within = k.2.within;
      closed = k.2.closed;
      map = k.2.map;
    },
  )

  ready_kept : (before rest : List Stood) → AreReady M f o out before rest → AreReady M f o out (kept_in g r n before) (kept_in g r n rest)
  ready_kept before [] h = tt
  ready_kept before (s ∷ rest) h =
      go (is_lost g r n s) (for_kept before s h.0) (subst (λ l. AreReady M f o out l (kept_in g r n rest)) (without_both (is_lost g r n) before (s ∷ [])) (ready_kept (before ++ (s ∷ [])) rest h.1))
    where
      go : (b : Bool) → IsReadyFor M f o out (kept_in g r n before) s → AreReady M f o out (kept_in g r n before ++ cond b [] (s ∷ [])) (kept_in g r n rest) →
          AreReady M f o out (kept_in g r n before) (cond b (kept_in g r n rest) (s ∷ kept_in g r n rest))
      go true k rec = subst (λ l. AreReady M f o out l (kept_in g r n rest)) (append-nil (kept_in g r n before)) rec
      go false k rec = (k, rec)

-- Whatever the moves, each turn is allowed.

abbrev outs : Generations → ℕ → ℕ → ℕ
outs l g r = (l.cluster g).out r

module _ (f : ℕ → ℕ) (o : ℕ → ℕ → Bool) where
  -- the map that was handed on, as the last generations have it
  shut_now : (l last : Generations) (these : List Stood) (g r q base_stamp : ℕ) → Fits l these → IsLifeMove f l (OpensNext g r q base_stamp) → Same l last g q →
      last.map (suc g) r ≡ (store_out f l g q).contents → Shut last.map f (outs l) g r q these
  shut_now l last these g r q base_stamp h k same is = record {
    handed = handed_out (l.cluster g) q;
    begins = subst (λ es. IsBeginning (handed_out (l.cluster g) q) es) (sym (h.own g q)) (take_begins ((l.cluster g).out q) ((l.cluster g).journal q));
    numbered = numbered_take ((l.cluster g).out q) ((l.cluster g).journal q) (h.numbered g q);
    within = omega (arith, length-take-le ((l.cluster g).out q) ((l.cluster g).journal q) (h.within g q));
    closed = subst (λ (x : Contents). is_closed (left (f g) q (fresh_state (opened x)) (handed_out (l.cluster g) q)).store ≡ true) (sym same.map) k.2;
    map = is ∙ ap (λ (x : Contents). (left (f g) q (fresh_state (opened x)) (handed_out (l.cluster g) q)).store.contents) (sym same.map);
  }

  -- what was opened now has that map
  opened_has : (l : Generations) (g r q base_stamp : ℕ) → (opened_next g r l.has_opened (suc g) r ≡ true) × ((after_move f l (OpensNext g r q base_stamp)).map (suc g) r ≡ (store_out f l g q).contents)
  opened_has l g r q base_stamp = (
    ap (λ b. cond b (eqb r r || l.has_opened (suc g) r) (l.has_opened (suc g) r)) (eq-eqb (suc g) (suc g) refl) ∙ ap (λ b. b || l.has_opened (suc g) r) (eq-eqb r r refl),
    ap (λ b. cond b (cond (eqb r r) (store_out f l g q).contents (l.map (suc g) r)) (l.map (suc g) r)) (eq-eqb (suc g) (suc g) refl)
        ∙ ap (λ b. cond b (store_out f l g q).contents (l.map (suc g) r)) (eq-eqb r r refl),
  )

  ready_move : (l : Generations) (m : LifeMove) (ms : List LifeMove) (these : List Stood) → AreLifeMoves f l (m ∷ ms) → has_over o these ≡ l.has_opened → Fits l these →
      AreReady (life_after f l (m ∷ ms)).map f o (outs l) [] these → AreReady (life_after f l (m ∷ ms)).map f o (outs (after_move f l m)) [] (stand_on m these)
  ready_move l (Within g (Take r e)) ms these k is h rec =
      let last : Generations = life_after f l (Within g (Take r e) ∷ ms) in
      let a : Scheduled = record { replica = r; entry = e } in
      ready_later last.map f o (outs l) (outs (after_move f l (Within g (Take r e)))) (out_on f l (Within g (Take r e)) k.0) [] (these ++ (Took g a ∷ []))
      (ready_more last.map f o (outs l) [] these (Took g a) rec (ap (λ was. was g r) is ∙ k.0.0))
  ready_move l (Within g (HandOut r n)) ms these k is h rec =
      ready_later (life_after f l (Within g (HandOut r n) ∷ ms)).map f o (outs l) (outs (after_move f l (Within g (HandOut r n)))) (out_on f l (Within g (HandOut r n)) k.0) [] these rec
  ready_move l (Within g (ComeBack r n)) ms these k is h rec =
      let last : Generations = life_after f l (Within g (ComeBack r n) ∷ ms) in
      ready_later last.map f o (outs l) (outs (after_move f l (Within g (ComeBack r n)))) (out_on f l (Within g (ComeBack r n)) k.0) [] (kept_in g r n these)
      (ready_kept last.map f o g r n (outs l) k.0.1.1.least [] these rec)
  ready_move l (OpensNext g r q base_stamp) ms these k is h rec =
      let next : Generations = after_move f l (OpensNext g r q base_stamp) in
      let last : Generations = life_after f next ms in
      let has = opened_has l g r q base_stamp in
      let same : Same l last g q = same_after f l (OpensNext g r q base_stamp ∷ ms) k g q k.0.1 in
      let later : Same next last (suc g) r = same_after f next ms k.1 (suc g) r has.0 in
      ready_more last.map f o (outs l) [] these (Opened g r q) rec
      (ap (λ was. was (suc g) r) is ∙ k.0.0, ap (λ was. was g q) is ∙ k.0.1, shut_now l last these g r q base_stamp h k.0 same (later.map ∙ has.1))

  record Stays (l last : Generations) (these : List Stood) : Type 0 where
    pub fits : Fits last these
    pub ready : AreReady last.map f o (outs last) [] these

  stays_after : (l : Generations) (ms : List LifeMove) (these : List Stood) → AreLifeMoves f l ms → has_over o these ≡ l.has_opened → Fits l these →
      AreReady (life_after f l ms).map f o (outs l) [] these → Stays l (life_after f l ms) (standing stand_on these ms)
  stays_after l [] these k is h rec = record { fits = h; ready = rec }
  stays_after l (m ∷ ms) these k is h rec =
      let t = stays_after (after_move f l m) ms (stand_on m these) k.1 (has_on f l m o these is) (fits_move f l these h m k.0) (ready_move l m ms these k is h rec) in
      record { fits = t.fits; ready = t.ready }

-- One turn of all.

-- what stands at one turn, and before it
record At (M : ℕ → ℕ → Contents) (f : ℕ → ℕ) (o : ℕ → ℕ → Bool) (out : ℕ → ℕ → ℕ) (pre xs : List Stood) (before : List Turn) (t : Turn) : Type 0 where
  pub first : List Stood
  pub here : Stood
  pub rest : List Stood
  pub stands : first ++ (here ∷ rest) ≡ xs
  pub turns : turns_of first ≡ before
  pub turn : turn_of here ≡ t
  pub ready : IsReadyFor M f o out (pre ++ first) here

at_turn : (M : ℕ → ℕ → Contents) (f : ℕ → ℕ) (o : ℕ → ℕ → Bool) (out : ℕ → ℕ → ℕ) (pre xs : List Stood) → AreReady M f o out pre xs → (before rest : List Turn) (t : Turn) →
    before ++ (t ∷ rest) ≡ turns_of xs → At M f o out pre xs before t
at_turn M f o out pre [] h [] rest t is = absurd (let e : t ∷ rest ≡ [] = is in cc)
at_turn M f o out pre [] h (b ∷ before) rest t is = absurd (let e : b ∷ (before ++ (t ∷ rest)) ≡ [] = is in cc)
at_turn M f o out pre (x ∷ xs) h [] rest t is = record {
  first = [];
  here = x;
  rest = xs;
  stands = refl;
  turns = refl;
  turn = (let e : t ∷ rest ≡ turn_of x ∷ turns_of xs = is in cc);
  ready = subst (λ l. IsReadyFor M f o out l x) (sym (append-nil pre)) h.0;
}
at_turn M f o out pre (x ∷ xs) h (b ∷ before) rest t is =
    let all : b ∷ (before ++ (t ∷ rest)) ≡ turn_of x ∷ turns_of xs = is in
    let tail : before ++ (t ∷ rest) ≡ turns_of xs = cc in
    let head : turn_of x ≡ b = cc in
    let a = at_turn M f o out (pre ++ (x ∷ [])) xs h.1 before rest t tail in
    record {
      first = x ∷ a.first;
      here = a.here;
      rest = a.rest;
      stands = ap (λ l. x ∷ l) a.stands;
      turns = ap (λ z. z ∷ turns_of a.first) head ∙ ap (λ l. b ∷ l) a.turns;
      turn = a.turn;
      ready = subst (λ l. IsReadyFor M f o out l a.here) (append_assoc pre (x ∷ []) a.first) a.ready;
    }

-- where a replica opened a generation after the first
record Came (M : ℕ → ℕ → Contents) (f : ℕ → ℕ) (o : ℕ → ℕ → Bool) (out : ℕ → ℕ → ℕ) (all : List Stood) (g r : ℕ) : Type 0 where
  pub from : ℕ
  pub before : List Stood
  pub after : List Stood
  pub stands : before ++ (Opened g r from ∷ after) ≡ all
  pub has : has_over o before g from ≡ true
  pub shut : Shut M f out g r from before

-- the replica that it makes one of those that have opened the generation
pub opens_it : (h p g r : ℕ) (was : ℕ → ℕ → Bool) → was (suc g) r ≡ false → opened_next h p was (suc g) r ≡ true → (h ≡ g) × (p ≡ r)
opens_it h p g r was before after = go (eqb (suc h) (suc g)) (eqb p r) refl refl after
  where
    go : (a b : Bool) → eqb (suc h) (suc g) ≡ a → eqb p r ≡ b → cond a (b || was (suc g) r) (was (suc g) r) ≡ true → (h ≡ g) × (p ≡ r)
    go true true ea eb y = ((let e = eqb-true (suc h) (suc g) ea in omega arith), eqb-true p r eb)
    go true false ea eb y = absurd (not_both (was (suc g) r) y before)
    go false b ea eb y = absurd (not_both (was (suc g) r) y before)

-- it is the first one that stands here, where it makes the replica one of those
came_here : (M : ℕ → ℕ → Contents) (f : ℕ → ℕ) (o : ℕ → ℕ → Bool) (out : ℕ → ℕ → ℕ) (pre xs : List Stood) (k p q g r : ℕ) → IsReadyFor M f o out pre (Opened k p q) →
    (k ≡ g) × (p ≡ r) → Came M f o out (pre ++ (Opened k p q ∷ xs)) g r
came_here M f o out pre xs k p q g r h it =
    subst (λ t. Came M f o out (pre ++ (Opened k p q ∷ xs)) t r) it.0
    (subst (λ t. Came M f o out (pre ++ (Opened k p q ∷ xs)) k t) it.1
    (record { from = q; before = pre; after = xs; stands = refl; has = h.1; shut = h.2 }))

came : (M : ℕ → ℕ → Contents) (f : ℕ → ℕ) (o : ℕ → ℕ → Bool) (out : ℕ → ℕ → ℕ) (pre xs : List Stood) → AreReady M f o out pre xs → (g r : ℕ) → has_over o pre (suc g) r ≡ false →
    has_over o (pre ++ xs) (suc g) r ≡ true → Came M f o out (pre ++ xs) g r
came M f o out pre [] h g r before after = absurd (not_both (has_over o pre (suc g) r) (ap (λ l. has_over o l (suc g) r) (sym (append-nil pre)) ∙ after) before)
came M f o out pre (Took k a ∷ xs) h g r before after =
    subst (λ l. Came M f o out l g r) (append_assoc pre (Took k a ∷ []) xs)
    (came M f o out (pre ++ (Took k a ∷ [])) xs h.1 g r (ap (λ was. was (suc g) r) (has_both o pre (Took k a ∷ [])) ∙ before) (ap (λ l. has_over o l (suc g) r) (append_assoc pre (Took k a ∷ []) xs) ∙ after))
came M f o out pre (Opened k p q ∷ xs) h g r before after = go (has_over o (pre ++ (Opened k p q ∷ [])) (suc g) r) refl
    (λ e. came M f o out (pre ++ (Opened k p q ∷ [])) xs h.1 g r e (ap (λ l. has_over o l (suc g) r) (append_assoc pre (Opened k p q ∷ []) xs) ∙ after))
  where
    go : (b : Bool) → has_over o (pre ++ (Opened k p q ∷ [])) (suc g) r ≡ b →
        (has_over o (pre ++ (Opened k p q ∷ [])) (suc g) r ≡ false → Came M f o out ((pre ++ (Opened k p q ∷ [])) ++ xs) g r) → Came M f o out (pre ++ (Opened k p q ∷ xs)) g r
    go true e rec = came_here M f o out pre xs k p q g r h.0 (opens_it k p g r (has_over o pre) before (ap (λ was. was (suc g) r) (sym (has_both o pre (Opened k p q ∷ []))) ∙ e))
    go false e rec = subst (λ l. Came M f o out l g r) (append_assoc pre (Opened k p q ∷ []) xs) (rec e)

pub acts_taken : (g : ℕ) (xs : List Stood) → acts_in g (turns_of xs) ≡ acts_of (taken_in g xs)
acts_taken g [] = refl
acts_taken g (Opened h r q ∷ xs) = acts_taken g xs
acts_taken g (Took h a ∷ xs) = go (eqb h g) (acts_taken g xs)
  where
    go : (b : Bool) → acts_in g (turns_of xs) ≡ acts_of (taken_in g xs) →
        cond b (act_of a ∷ acts_in g (turns_of xs)) (acts_in g (turns_of xs)) ≡ acts_of (cond b (a ∷ taken_in g xs) (taken_in g xs))
    go true rec = ap (λ l. act_of a ∷ l) rec
    go false rec = rec

-- What entries have handed out as closed, their world has.
closed_at : (x : Contents) (f q : ℕ) (these : List Scheduled) (handed : List Entry) → IsBeginning handed (of q these) → is_closed (left f q (fresh_state (opened x)) handed).store ≡ true →
    ((ends f (opening (opened x)) (acts_of these)).states q).store ≡ (left f q (fresh_state (opened x)) handed).store
closed_at x f q these handed b closed =
    ap (λ (s : State). s.store) (own_entries_leave_lem (opened x) f these q)
    ∙ ap (λ (es : List Entry). (left f q (fresh_state (opened x)) es).store) (sym b.1)
    ∙ closed_entries_lem (opened x) f q handed b.0 closed

begins_more : (handed xs ys : List Entry) → IsBeginning handed xs → IsBeginning handed (xs ++ ys)
begins_more handed xs ys b = (b.0 ++ ys, sym (append_assoc handed b.0 ys) ∙ ap (λ l. l ++ ys) b.1)

module _ (start : Start) (f : ℕ → ℕ) (sizes : (g : ℕ) → (0 < f g) × (size (f g) ≤ 256)) (moves : List LifeMove) (k : AreLifeMoves f (newborn start) moves) where
  abbrev first : ℕ → ℕ → Bool
  first g r = eqb g 0

  abbrev last : Generations
  last = life_after f (newborn start) moves

  abbrev these : List Stood
  these = standing stand_on [] moves

  abbrev map_at : ℕ → Contents
  map_at g = opening_map start.map f (turns_of these) g

  abbrev start_at : ℕ → Start
  start_at g = record { map = map_at g; base_stamp = last.base_stamp g }

  stays : Stays f first (newborn start) last these
  stays = stays_after f first (newborn start) moves [] k refl (record { own = λ g r. refl; numbered = λ g r. tt; within = λ g r. omega arith }) tt

  opened_last : has_over first these ≡ last.has_opened
  opened_last = has_after f (newborn start) moves first [] refl

  abbrev IsOne : ℕ → Type 0
  IsOne g = (r : ℕ) → last.has_opened g r ≡ true → last.map g r ≡ map_at g

  are : (g : ℕ) → IsOne g → AreMoves (start_at g) (f g) fresh_cluster (moves_in g moves)
  are g one = moves_are f (map_at g) g (newborn start) moves k one

  run_at : (g : ℕ) → IsOne g → IsRun (f g) (opening (opened (map_at g))) (acts_in g (turns_of these))
  run_at g one =
      let t = crashing_runs_are_linearizable_lem (start_at g) (f g) (sizes g).0 (sizes g).1 (moves_in g moves) (are g one) in
      subst (λ l. IsRun (f g) (opening (opened (map_at g))) l) (sym (acts_taken g these ∙ ap acts_of (standing_in g moves []))) t.run

  -- the map of the next generation is that of the seal
  next_map : (g r : ℕ) → IsOne g → Came last.map f first (outs last) these g r → last.map (suc g) r ≡ map_at (suc g)
  next_map g r one c =
      let mine : last.map g c.from ≡ map_at g = one c.from (ap (λ was. was g c.from) (sym opened_last) ∙ later c) in
      let closed : is_closed (left (f g) c.from (fresh_state (opened (map_at g))) c.shut.handed).store ≡ true = subst (λ (x : Contents). is_closed (left (f g) c.from (fresh_state (opened x)) c.shut.handed).store ≡ true) mine c.shut.closed in
      let is = ap (λ l. ((ends (f g) (opening (opened (map_at g))) l).states c.from).store) (acts_taken g these) ∙ closed_at (map_at g) (f g) c.from (taken_in g these) c.shut.handed (whole c) closed in
      let all = runs_close_lem (map_at g) (f g) (sizes g).0 (sizes g).1 (acts_in g (turns_of these)) (run_at g one) c.from (ap is_closed is ∙ closed) in
      c.shut.map
      ∙ ap (λ (x : Contents). (left (f g) c.from (fresh_state (opened x)) c.shut.handed).store.contents) mine
      ∙ ap (λ (s : Store). s.contents) (sym is)
      ∙ ap (λ (s : Store). s.contents) all.1
    where
      later : (c : Came last.map f first (outs last) these g r) → has_over first these g c.from ≡ true
      later c =
          ap (λ l. has_over first l g c.from) (sym c.stands)
          ∙ ap (λ was. was g c.from) (has_both first c.before (Opened g r c.from ∷ c.after))
          ∙ has_more (has_over first c.before) (Opened g r c.from ∷ c.after) g c.from c.has

      whole : (c : Came last.map f first (outs last) these g r) → IsBeginning c.shut.handed (of c.from (taken_in g these))
      whole c = subst (λ l. IsBeginning c.shut.handed (of c.from (taken_in g l))) c.stands
          (subst (λ l. IsBeginning c.shut.handed (of c.from l)) (sym (taken_both g c.before (Opened g r c.from ∷ c.after)))
          (subst (λ l. IsBeginning c.shut.handed l) (sym (of_both c.from (taken_in g c.before) (taken_in g (Opened g r c.from ∷ c.after))))
          (begins_more c.shut.handed (of c.from (taken_in g c.before)) (of c.from (taken_in g (Opened g r c.from ∷ c.after))) c.shut.begins)))

  one_at : (g : ℕ) → IsOne g
  one_at zero r h = map_first f (newborn start) moves r
  one_at (suc g) r h = next_map g r (one_at g)
      (came last.map f first (outs last) [] these stays.ready g r (ne_eqb (suc g) 0 (λ (e : suc g ≡ 0). omega arith)) (ap (λ was. was (suc g) r) opened_last ∙ h))

  had : (xs : List Stood) (g r : ℕ) → opened_at start.map f (turns_of xs) g r ≡ has_over first xs g r
  had xs g r = ap (λ was. was g r) (lived_over f (birth start.map) xs)

  last_has : (xs rest : List Stood) → xs ++ rest ≡ these → (g r : ℕ) → has_over first xs g r ≡ true → last.has_opened g r ≡ true
  last_has xs rest is g r h =
      ap (λ was. was g r) (sym opened_last)
      ∙ ap (λ l. has_over first l g r) (sym is)
      ∙ ap (λ was. was g r) (has_both first xs rest)
      ∙ has_more (has_over first xs) rest g r h

  -- whoever opens the next generation takes it from a world that has closed this one
  shut_there : (xs : List Stood) (g r q : ℕ) → last.map g q ≡ map_at g → Shut last.map f (outs last) g r q xs → HasClosed (ends (f g) (opening (opened (map_at g))) (acts_in g (turns_of xs))) q
  shut_there xs g r q mine s =
      let closed : is_closed (left (f g) q (fresh_state (opened (map_at g))) s.handed).store ≡ true = subst (λ (x : Contents). is_closed (left (f g) q (fresh_state (opened x)) s.handed).store ≡ true) mine s.closed in
      ap is_closed (ap (λ l. ((ends (f g) (opening (opened (map_at g))) l).states q).store) (acts_taken g xs) ∙ closed_at (map_at g) (f g) q (taken_in g xs) s.handed s.begins closed) ∙ closed

  turn_ready : (xs rest : List Stood) → xs ++ rest ≡ these → (s : Stood) → IsReadyFor last.map f first (outs last) xs s → IsReady start.map f (turns_of these) (turns_of xs) (turn_of s)
  turn_ready xs rest is (Took g a) h = had xs g a.replica ∙ h
  turn_ready xs rest is (Opened g r q) h = (had xs (suc g) r ∙ h.0, had xs g q ∙ h.1, shut_there xs g r q (one_at g q (last_has xs rest is g q h.1)) h.2)

  ready_at : (before rest : List Turn) (t : Turn) → before ++ (t ∷ rest) ≡ turns_of these → IsReady start.map f (turns_of these) before t
  ready_at before rest t is =
      let a = at_turn last.map f first (outs last) [] these stays.ready before rest t is in
      subst (λ l. IsReady start.map f (turns_of these) l t) a.turns (subst (λ z. IsReady start.map f (turns_of these) (turns_of a.first) z) a.turn (turn_ready a.first (a.here ∷ a.rest) a.stands a.here a.ready))

  in_real_time : IsLifeInRealTime start f last these
  in_real_time =
      let life = runs_make_lives_lem start.map f sizes (turns_of these) (λ g. run_at g (one_at g)) ready_at in
      record {
        own = stays.fits.own;
        maps = one_at;
        runs = λ g. subst (λ c. IsOneRun (start_at g) (f g) c) (sym (cluster_in f (newborn start) moves g)) (crashing_runs_are_runs_lem (start_at g) (f g) (sizes g).0 (sizes g).1 (moves_in g moves) (are g (one_at g)));
        life = life;
        linearizable = lives_are_linearizable_lem start.map f sizes (turns_of these) life;
      }

pub crashing_lives_are_linearizable_lem : CrashingLivesAreLinearizable
crashing_lives_are_linearizable_lem start f sizes moves k = in_real_time start f sizes moves k
