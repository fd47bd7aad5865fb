-- What holds of a cluster stays so by each move.
use Rattle.std.proofs.Common.{◌≡◌, ℕ, zero, suc, ◌≤◌, length, Bool, true, false, cond, eqb, inl, inr, List, [], ◌∷◌, ◌++◌, take, drop, refl, sym, ap, subst, ◌∙◌, arith, append-nil, append_assoc}
use Rattle.std.proofs.lemmas.Bool.{eq-eqb, eqb-true}
use Rattle.std.proofs.lemmas.List.{take-append-drop, take-take, length-take-le, length-append}
use Rattle.ep_base.specs.Quorums.{size}
use Rattle.ep_rules.specs.Journals.{Entry, AreSteps, AreNumbered, IsLocalRun, stamp_after, last_stamp, AreClocked, IsAmong}
use Rattle.ep_rules.specs.States.{State, fresh_state}
use Rattle.ep_rules.specs.Steps.{Frame, Event, Handle, leaves}
use Rattle.ep_rules.specs.Worlds.{In}
use Rattle.ep_rules.proofs.JournalsGrow.{local_runs_grow_lem, clocks_grow_lem}
use Rattle.ep_rules.proofs.Merged.{in_left, in_right, in_split}
use Rattle.ep_node.specs.Crashes.{Start, Cluster, fresh_cluster, Move, Take, HandOut, ComeBack, IsMove, frames_in, with_at, moved, AreMoves, cluster_after, handed_out, IsBeginning, Lasts}
use Rattle.ep_rules.specs.OneMap.{opened}

-- Beginnings.

pub begins_refl : {X : Type 0} (xs : List X) → IsBeginning xs xs
begins_refl xs = ([], append-nil xs)

pub begins_trans : {X : Type 0} (xs ys zs : List X) → IsBeginning xs ys → IsBeginning ys zs → IsBeginning xs zs
begins_trans xs ys zs p q = (p.0 ++ q.0, sym (append_assoc xs p.0 q.0) ∙ ap (λ l. l ++ q.0) p.1 ∙ q.1)

pub begins_same : {X : Type 0} (xs ys : List X) → ys ≡ xs → IsBeginning xs ys
begins_same xs ys e = ([], append-nil xs ∙ sym e)

pub take_begins : {X : Type 0} (n : ℕ) (xs : List X) → IsBeginning (take n xs) xs
take_begins n xs = (drop n xs, take-append-drop n xs)

pub takes_begin : {X : Type 0} (k n : ℕ) (xs : List X) → k ≤ n → IsBeginning (take k xs) (take n xs)
takes_begin k n xs le = (drop k (take n xs), ap (λ l. l ++ drop k (take n xs)) (sym (take-take k n xs le)) ∙ take-append-drop k (take n xs))

pub takes_more : {X : Type 0} (n : ℕ) (xs ys : List X) → IsBeginning (take n xs) (take n (xs ++ ys))
takes_more zero xs ys = ([], refl)
takes_more (suc n) [] ys = (take (suc n) ys, refl)
takes_more (suc n) (x ∷ xs) ys = let b = takes_more n xs ys in (b.0, ap (λ l. x ∷ l) b.1)

pub in_begins : {X : Type 0} (x : X) (xs ys : List X) → IsBeginning xs ys → In x xs → In x ys
in_begins x xs ys b h = subst (λ l. In x l) b.1 (in_left x xs b.0 h)

pub in_drop : {X : Type 0} (x : X) (n : ℕ) (xs : List X) → In x (drop n xs) → In x xs
in_drop x n xs h = subst (λ l. In x l) (take-append-drop n xs) (in_right x (take n xs) (drop n xs) h)

-- A beginning of a local run is one.

steps_front : (f me : ℕ) (s : State) (xs ys : List Entry) → AreSteps f me s (xs ++ ys) → AreSteps f me s xs
steps_front f me s [] ys h = tt
steps_front f me s (x ∷ xs) ys h = (h.0, steps_front f me (leaves f me s x.event x.done) xs ys h.1)

numbered_front : (n last : ℕ) (xs ys : List Entry) → AreNumbered n last (xs ++ ys) → AreNumbered n last xs
numbered_front n last [] ys h = tt
numbered_front n last (x ∷ xs) ys h = (h.0, h.1, h.2, numbered_front (suc n) x.stamp xs ys h.3)

clocked_front : (last : ℕ) (xs ys : List Entry) → AreClocked last (xs ++ ys) → AreClocked last xs
clocked_front last [] ys h = tt
clocked_front last (x ∷ xs) ys h = (h.0, clocked_front x.stamp xs ys h.1)

run_take : (start : Start) (f me n : ℕ) (es : List Entry) → IsLocalRun (opened start.map) f me es → IsLocalRun (opened start.map) f me (take n es)
run_take start f me n es h =
    let whole : IsLocalRun (opened start.map) f me (take n es ++ drop n es) = subst (IsLocalRun (opened start.map) f me) (sym (take-append-drop n es)) h in
    (numbered_front 1 0 (take n es) (drop n es) whole.0, steps_front f me (fresh_state (opened start.map)) (take n es) (drop n es) whole.1)

pub numbered_take : (n : ℕ) (es : List Entry) → AreNumbered 1 0 es → AreNumbered 1 0 (take n es)
numbered_take n es h = numbered_front 1 0 (take n es) (drop n es) (subst (AreNumbered 1 0) (sym (take-append-drop n es)) h)

clocked_take : (last n : ℕ) (es : List Entry) → AreClocked last es → AreClocked last (take n es)
clocked_take last n es h = clocked_front last (take n es) (drop n es) (subst (AreClocked last) (sym (take-append-drop n es)) h)

-- a clock that goes on from a stamp is never behind one that begins at 0
pub stamp_least : (base_stamp : ℕ) (es : List Entry) → last_stamp es ≤ stamp_after base_stamp es
stamp_least base_stamp [] = omega arith
stamp_least base_stamp (e ∷ es) = omega arith

-- Frames.

pub in_frames : (m : Frame) (es : List Entry) → In m (frames_in es) → (e : Entry) × In e es × In m e.out
in_frames m [] h = absurd h
in_frames m (e ∷ es) h = elim (in_split m e.out (frames_in es) h) [
  | inl k ↦ (e, inl refl, k)
  | inr k ↦ let t = in_frames m es k in (t.0, inr t.1, t.2)
]

-- What holds at r of the new value, and of all the old ones, holds everywhere.
pub at_each : {X : Type 0} (P : ℕ → X → Type 0) (r : ℕ) (x : X) (was : ℕ → X) → P r x → ((q : ℕ) → P q (was q)) → (q : ℕ) → P q (with_at r x was q)
at_each P r x was here there q = go (eqb r q) refl
  where
    go : (b : Bool) → eqb r q ≡ b → P q (cond b x (was q))
    go true e = subst (λ k. P k x) (eqb-true r q e) here
    go false e = there q

pub at_same : {X : Type 0} (r : ℕ) (x : X) (was : ℕ → X) → with_at r x was r ≡ x
at_same r x was = ap (λ b. cond b x (was r)) (eq-eqb r r refl)

-- a frame of an entry that was handed out of
pub record IsOut (c : Cluster) (m : Frame) : Type 0 where
  pub node : ℕ
  pub entry : Entry
  pub stands : In entry (handed_out c node)
  pub out : In m entry.out

-- what holds of a cluster, whatever crashed
pub record Holds (start : Start) (f : ℕ) (c : Cluster) : Type 0 where
  pub local : (r : ℕ) → IsLocalRun (opened start.map) f r (c.journal r)
  pub clocked : (r : ℕ) → AreClocked (start.base_stamp r) (c.journal r)
  pub others : (r : ℕ) → size f ≤ r → c.journal r ≡ []
  pub within : (r : ℕ) → c.out r ≤ length (c.journal r)
  pub handled : (r : ℕ) (e : Entry) (m : Frame) → In e (c.journal r) → e.event ≡ Handle m → In m c.given
  pub given : (m : Frame) → In m c.given → IsOut c m

pub fresh_holds : (start : Start) (f : ℕ) → Holds start f fresh_cluster
fresh_holds start f = record {
  local = λ r. (tt, tt);
  clocked = λ r. tt;
  others = λ r ge. refl;
  within = λ r. omega arith;
  handled = λ r e m h is. absurd h;
  given = λ m h. absurd h;
}

-- A move leaves what was handed out.
pub handed : (start : Start) (f : ℕ) (c : Cluster) (m : Move) → IsMove start f c m → (r : ℕ) → IsBeginning (handed_out c r) (handed_out (moved c m) r)
handed start f c (Take r e) k =
    at_each (λ q es. IsBeginning (take (c.out q) (c.journal q)) (take (c.out q) es)) r (c.journal r ++ (e ∷ [])) c.journal
    (takes_more (c.out r) (c.journal r) (e ∷ []))
    (λ q. begins_refl (take (c.out q) (c.journal q)))
handed start f c (HandOut r n) k =
    at_each (λ q j. IsBeginning (take (c.out q) (c.journal q)) (take j (c.journal q))) r n c.out
    (takes_begin (c.out r) n (c.journal r) k.1.least)
    (λ q. begins_refl (take (c.out q) (c.journal q)))
handed start f c (ComeBack r n) k =
    at_each (λ q es. IsBeginning (take (c.out q) (c.journal q)) (take (c.out q) es)) r (take n (c.journal r)) c.journal
    (begins_same (take (c.out r) (c.journal r)) (take (c.out r) (take n (c.journal r))) (take-take (c.out r) n (c.journal r) k.1.least))
    (λ q. begins_refl (take (c.out q) (c.journal q)))

module _ (start : Start) (f : ℕ) (c : Cluster) (h : Holds start f c) where
  pub given_grows : (m : Move) → IsBeginning c.given (moved c m).given
  given_grows (Take r e) = begins_refl c.given
  given_grows (HandOut r n) = (frames_in (drop (c.out r) (take n (c.journal r))), refl)
  given_grows (ComeBack r n) = begins_refl c.given

  out_still : (m : Move) → IsMove start f c m → (x : Frame) → IsOut c x → IsOut (moved c m) x
  out_still m k x o = record {
    node = o.node;
    entry = o.entry;
    stands = in_begins o.entry (handed_out c o.node) (handed_out (moved c m) o.node) (handed start f c m k o.node) o.stands;
    out = o.out;
  }

  taken_handles : (r : ℕ) (e : Entry) → IsAmong c.given e.event → (d : Entry) (m : Frame) → In d (c.journal r ++ (e ∷ [])) → d.event ≡ Handle m → In m c.given
  taken_handles r e among d m stands is = elim (in_split d (c.journal r) (e ∷ []) stands) [
    | inl old ↦ h.handled r d m old is
    | inr new ↦ subst (λ (v : Event). IsAmong c.given v) (ap (λ (z : Entry). z.event) (elim new [ inl same ↦ same | inr none ↦ absurd none ]) ∙ is) among
  ]

  handed_frames : (r n : ℕ) → (m : Frame) → In m (frames_in (drop (c.out r) (take n (c.journal r)))) → IsOut (moved c (HandOut r n)) m
  handed_frames r n m k =
      let t = in_frames m (drop (c.out r) (take n (c.journal r))) k in
      record {
        node = r;
        entry = t.0;
        stands = subst (λ (j : ℕ). In t.0 (take j (c.journal r))) (sym (at_same r n c.out)) (in_drop t.0 (c.out r) (take n (c.journal r)) t.1);
        out = t.2;
      }

  -- Each move keeps what holds.
  pub move_holds : (m : Move) → IsMove start f c m → Holds start f (moved c m)
  move_holds (Take r e) k =
      let new : List Entry = c.journal r ++ (e ∷ []) in
      record {
        local = at_each (IsLocalRun (opened start.map) f) r new c.journal (local_runs_grow_lem (opened start.map) f r (c.journal r) e (h.local r) k.1.entry k.1.number (let s = k.1.stamp in let l = stamp_least (start.base_stamp r) (c.journal r) in omega arith) k.1.marked) h.local;
        clocked = at_each (λ q es. AreClocked (start.base_stamp q) es) r new c.journal (clocks_grow_lem (start.base_stamp r) (c.journal r) e (h.clocked r) k.1.stamp) h.clocked;
        others = at_each (λ q es. size f ≤ q → es ≡ []) r new c.journal (λ ge. absurd (let lt = k.0 in omega arith)) h.others;
        within = at_each (λ q es. c.out q ≤ length es) r new c.journal (let le = h.within r in omega (arith, length-append (c.journal r) (e ∷ []))) h.within;
        handled = at_each (λ q es. (d : Entry) (m : Frame) → In d es → d.event ≡ Handle m → In m c.given) r new c.journal (taken_handles r e k.2) h.handled;
        given = λ m given. out_still (Take r e) k m (h.given m given);
      }
  move_holds (HandOut r n) k = record {
    local = h.local;
    clocked = h.clocked;
    others = h.others;
    within = at_each (λ q j. j ≤ length (c.journal q)) r n c.out k.1.most h.within;
    handled = λ q d m stands is. in_left m c.given (frames_in (drop (c.out r) (take n (c.journal r)))) (h.handled q d m stands is);
    given = λ m given. elim (in_split m c.given (frames_in (drop (c.out r) (take n (c.journal r)))) given) [
      | inl old ↦ out_still (HandOut r n) k m (h.given m old)
      | inr new ↦ handed_frames r n m new
    ];
  }
  move_holds (ComeBack r n) k =
      let kept : List Entry = take n (c.journal r) in
      record {
        local = at_each (IsLocalRun (opened start.map) f) r kept c.journal (run_take start f r n (c.journal r) (h.local r)) h.local;
        clocked = at_each (λ q es. AreClocked (start.base_stamp q) es) r kept c.journal (clocked_take (start.base_stamp r) n (c.journal r) (h.clocked r)) h.clocked;
        others = at_each (λ q es. size f ≤ q → es ≡ []) r kept c.journal (λ ge. absurd (let lt = k.0 in omega arith)) h.others;
        within = at_each (λ q es. c.out q ≤ length es) r kept c.journal (let le = k.1.least in omega (arith, length-take-le n (c.journal r) k.1.most)) h.within;
        handled = at_each (λ q es. (d : Entry) (m : Frame) → In d es → d.event ≡ Handle m → In m c.given) r kept c.journal
            (λ d m stands is. h.handled r d m (in_begins d kept (c.journal r) (take_begins n (c.journal r)) stands) is) h.handled;
        given = λ m given. out_still (ComeBack r n) k m (h.given m given);
      }

-- Moves.

pub moves_hold : (start : Start) (f : ℕ) (c : Cluster) (ms : List Move) → Holds start f c → AreMoves start f c ms → Holds start f (cluster_after c ms)
moves_hold start f c [] h k = h
moves_hold start f c (m ∷ ms) h k = moves_hold start f (moved c m) ms (move_holds start f c h m k.0) k.1

pub moves_parts : (start : Start) (f : ℕ) (c : Cluster) (early late : List Move) → AreMoves start f c (early ++ late) → AreMoves start f c early × AreMoves start f (cluster_after c early) late
moves_parts start f c [] late k = (tt, k)
moves_parts start f c (m ∷ early) late k = let t = moves_parts start f (moved c m) early late k.1 in ((k.0, t.0), t.1)

pub after_both : (c : Cluster) (early late : List Move) → cluster_after c (early ++ late) ≡ cluster_after (cluster_after c early) late
after_both c [] late = refl
after_both c (m ∷ early) late = after_both (moved c m) early late

-- what was handed out of is a beginning of what is handed out of later
pub handed_on : (start : Start) (f : ℕ) (c : Cluster) (ms : List Move) → Holds start f c → AreMoves start f c ms → (r : ℕ) → IsBeginning (handed_out c r) (handed_out (cluster_after c ms) r)
handed_on start f c [] h k r = begins_refl (handed_out c r)
handed_on start f c (m ∷ ms) h k r =
    begins_trans (handed_out c r) (handed_out (moved c m) r) (handed_out (cluster_after (moved c m) ms) r) (handed start f c m k.0 r) (handed_on start f (moved c m) ms (move_holds start f c h m k.0) k.1 r)

pub given_on : (start : Start) (f : ℕ) (c : Cluster) (ms : List Move) → Holds start f c → AreMoves start f c ms → IsBeginning c.given (cluster_after c ms).given
given_on start f c [] h k = begins_refl c.given
given_on start f c (m ∷ ms) h k = begins_trans c.given (moved c m).given (cluster_after (moved c m) ms).given (given_grows start f c h m) (given_on start f (moved c m) ms (move_holds start f c h m k.0) k.1)

pub lasts : (start : Start) (f : ℕ) (c : Cluster) (ms : List Move) → Holds start f c → AreMoves start f c ms → Lasts c (cluster_after c ms)
lasts start f c ms h k =
    let after : Cluster = cluster_after c ms in
    record {
      handed = handed_on start f c ms h k;
      stands = λ r. begins_trans (handed_out c r) (handed_out after r) (after.journal r) (handed_on start f c ms h k r) (take_begins (after.out r) (after.journal r));
      given = given_on start f c ms h k;
    }
