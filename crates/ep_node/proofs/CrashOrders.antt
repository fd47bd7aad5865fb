-- What stands, in the order in which it was taken, is a run.
use Rattle.std.proofs.Common.{◌≡◌, ℕ, zero, suc, ◌+◌, ◌<◌, ◌≤◌, length, Bool, true, false, ◌&&◌, cond, eqb, ltb, inl, inr, List, [], ◌∷◌, ◌++◌, take, drop, refl, sym, ap, subst, ◌∙◌, arith, append-nil, append_assoc, ⊎_elim}
use Rattle.std.proofs.lemmas.Bool.{eq-eqb, eqb-true, ne_eqb, ltb-true, lt-ltb, le-ltb, cases_eq}
use Rattle.std.proofs.lemmas.List.{length-take}
use Rattle.ep_base.specs.Quorums.{size}
use Rattle.ep_rules.specs.Journals.{Entry, AreSteps, AreNumbered, AreLocalRuns, IsAmong, Scheduled, of, act_of, acts_of, ArePlayed, frames_of}
use Rattle.ep_rules.specs.States.{fresh_state}
use Rattle.ep_rules.specs.Steps.{Frame, Event, Propose, Handle, GiveUp, Recover, Execute}
use Rattle.ep_rules.specs.Worlds.{World, opening, In}
use Rattle.ep_rules.specs.Worlds as worlds
use Rattle.ep_rules.proofs.JournalsGrow.{of_grows, frames_grow}
use Rattle.ep_rules.proofs.Merged.{in_left, in_right, in_split, of_in, in_of, in_journal}
use Rattle.ep_rules.proofs.Played.{played_is_a_run_lem}
use Rattle.ep_rules.proofs.RunsLinear.{linearizability_holds}
use Rattle.ep_node.specs.Crashes.{Start, Cluster, fresh_cluster, Move, Take, HandOut, ComeBack, IsMove, frames_in, with_at, moved, AreMoves, cluster_after, without, is_beyond, stand_after, standing, CrashingRunsAreLinearizable}
use Rattle.ep_node.proofs.CrashMoves.{Holds, fresh_holds, move_holds, moves_hold, at_same, in_frames, in_drop, in_begins, take_begins, numbered_take}
use Rattle.ep_node.proofs.CrashRuns.{steps_next}
use Rattle.ep_node.proofs.CrashTraces.{at_other, out_next}
use Rattle.ep_rules.specs.OneMap.{opened}

-- What is kept of each replica.

abbrev pub kept : ℕ → ℕ → List Scheduled → List Scheduled
kept r n these = without (is_beyond r n) these

pub without_both : {X : Type 0} (lost : X → Bool) (xs ys : List X) → without lost (xs ++ ys) ≡ without lost xs ++ without lost ys
without_both lost [] ys = refl
without_both {X} lost (x ∷ xs) ys = go (lost x) (without_both lost xs ys)
  where
    go : (b : Bool) → without lost (xs ++ ys) ≡ without lost xs ++ without lost ys →
        cond b (without lost (xs ++ ys)) (x ∷ without lost (xs ++ ys)) ≡ cond b (without lost xs) (x ∷ without lost xs) ++ without lost ys
    go true rec = rec
    go false rec = ap (λ (l : List X). x ∷ l) rec

-- the entries whose numbers are at most n
abbrev pub low : ℕ → List Entry → List Entry
low n [] = []
low n (e ∷ es) = cond (ltb n e.number) (low n es) (e ∷ low n es)

low_none : (n m last : ℕ) (es : List Entry) → AreNumbered m last es → n < m → low n es ≡ []
low_none n m last [] h lt = refl
low_none n m last (e ∷ es) h lt =
    ap (λ b. cond b (low n es) (e ∷ low n es)) (lt-ltb n e.number (let q = h.0 in omega arith)) ∙ low_none n (suc m) e.stamp es h.3 (omega arith)

pub low_take : (n m j last : ℕ) (es : List Entry) → AreNumbered m last es → m + j ≡ n + 1 → low n es ≡ take j es
low_take n m zero last [] h is = refl
low_take n m zero last (e ∷ es) h is = low_none n m last (e ∷ es) h (omega arith)
low_take n m (suc j) last [] h is = refl
low_take n m (suc j) last (e ∷ es) h is =
    ap (λ b. cond b (low n es) (e ∷ low n es)) (le-ltb n e.number (let q = h.0 in omega arith)) ∙ ap (λ l. e ∷ l) (low_take n (suc m) j e.stamp es h.3 (omega arith))

pub kept_here : (r n : ℕ) (these : List Scheduled) → of r (kept r n these) ≡ low n (of r these)
kept_here r n [] = refl
kept_here r n (a ∷ these) = go (eqb a.replica r) (ltb n a.entry.number) refl refl (kept_here r n these)
  where
    go : (b t : Bool) → eqb a.replica r ≡ b → ltb n a.entry.number ≡ t → of r (kept r n these) ≡ low n (of r these) →
        of r (cond (b && t) (kept r n these) (a ∷ kept r n these)) ≡ low n (cond b (a.entry ∷ of r these) (of r these))
    go true true e u rec = rec ∙ sym (ap (λ z. cond z (low n (of r these)) (a.entry ∷ low n (of r these))) u)
    go true false e u rec =
        ap (λ z. cond z (a.entry ∷ of r (kept r n these)) (of r (kept r n these))) e ∙ ap (λ l. a.entry ∷ l) rec
        ∙ sym (ap (λ z. cond z (low n (of r these)) (a.entry ∷ low n (of r these))) u)
    go false t e u rec = ap (λ z. cond z (a.entry ∷ of r (kept r n these)) (of r (kept r n these))) e ∙ rec

pub kept_other : (r n q : ℕ) (these : List Scheduled) → (r ≡ q → ⊥) → of q (kept r n these) ≡ of q these
kept_other r n q [] ne = refl
kept_other r n q (a ∷ these) ne = go (eqb a.replica r) (ltb n a.entry.number) refl (kept_other r n q these ne)
  where
    go : (b t : Bool) → eqb a.replica r ≡ b → of q (kept r n these) ≡ of q these →
        of q (cond (b && t) (kept r n these) (a ∷ kept r n these)) ≡ cond (eqb a.replica q) (a.entry ∷ of q these) (of q these)
    go true true e rec = rec ∙ sym (ap (λ z. cond z (a.entry ∷ of q these) (of q these)) (ne_eqb a.replica q (λ x. ne (sym (eqb-true a.replica r e) ∙ x))))
    go true false e rec = ap (λ l. cond (eqb a.replica q) (a.entry ∷ l) l) rec
    go false t e rec = ap (λ l. cond (eqb a.replica q) (a.entry ∷ l) l) rec

in_kept : (r n : ℕ) (x : Scheduled) (these : List Scheduled) → In x these → (x.replica ≡ r → x.entry.number ≤ n) → In x (kept r n these)
in_kept r n x [] h low = absurd h
in_kept r n x (a ∷ these) h low = go (eqb a.replica r) (ltb n a.entry.number) refl refl h (λ k. in_kept r n x these k low)
  where
    go : (b t : Bool) → eqb a.replica r ≡ b → ltb n a.entry.number ≡ t → In x (a ∷ these) → (In x these → In x (kept r n these)) →
        In x (cond (b && t) (kept r n these) (a ∷ kept r n these))
    go true true e u (inl is) rec =
        let le : a.entry.number ≤ n = subst (λ (z : Scheduled). z.replica ≡ r → z.entry.number ≤ n) (sym is) low (eqb-true a.replica r e) in
        let lt : n < a.entry.number = ltb-true n a.entry.number u in absurd (omega arith)
    go true true e u (inr k) rec = rec k
    go true false e u (inl is) rec = inl is
    go true false e u (inr k) rec = inr (rec k)
    go false t e u (inl is) rec = inl is
    go false t e u (inr k) rec = inr (rec k)

-- What is handled was sent by an earlier one.

-- a frame of an entry among these that was handed out
record IsOutIn (out : ℕ → ℕ) (these : List Scheduled) (m : Frame) : Type 0 where
  pub act : Scheduled
  pub stands : In act these
  pub has : In m act.entry.out
  pub handed : act.entry.number ≤ out act.replica

-- each frame that one of the rest handles is out of one that stands before it
abbrev IsSound : (ℕ → ℕ) → List Scheduled → List Scheduled → Type 0
IsSound out before [] = Unit {0}
IsSound out before (a ∷ rest) = ((m : Frame) → a.entry.event ≡ Handle m → IsOutIn out before m) × IsSound out (before ++ (a ∷ [])) rest

out_in_more : (out : ℕ → ℕ) (xs ys : List Scheduled) (m : Frame) → IsOutIn out xs m → IsOutIn out (xs ++ ys) m
out_in_more out xs ys m o = record { act = o.act; stands = in_left o.act xs ys o.stands; has = o.has; handed = o.handed }

out_in_later : (out out' : ℕ → ℕ) → ((r : ℕ) → out r ≤ out' r) → (xs : List Scheduled) (m : Frame) → IsOutIn out xs m → IsOutIn out' xs m
out_in_later out out' le xs m o = record { act = o.act; stands = o.stands; has = o.has; handed = (let h = o.handed in let l = le o.act.replica in omega arith) }

out_in_kept : (out : ℕ → ℕ) (r n : ℕ) → out r ≤ n → (xs : List Scheduled) (m : Frame) → IsOutIn out xs m → IsOutIn out (kept r n xs) m
out_in_kept out r n le xs m o = record {
  act = o.act;
  stands = in_kept r n o.act xs o.stands (λ is. let h : o.act.entry.number ≤ out r = subst (λ q. o.act.entry.number ≤ out q) is o.handed in omega arith);
  has = o.has;
  handed = o.handed;
}

sound_more : (out : ℕ → ℕ) (before rest : List Scheduled) (a : Scheduled) → IsSound out before rest → ((m : Frame) → a.entry.event ≡ Handle m → IsOutIn out (before ++ rest) m) → IsSound out before (rest ++ (a ∷ []))
sound_more out before [] a h k = ((λ m is. subst (λ l. IsOutIn out l m) (append-nil before) (k m is)), tt)
sound_more out before (b ∷ rest) a h k =
    (h.0, sound_more out (before ++ (b ∷ [])) rest a h.1 (λ m is. subst (λ l. IsOutIn out l m) (sym (append_assoc before (b ∷ []) rest)) (k m is)))

sound_later : (out out' : ℕ → ℕ) → ((r : ℕ) → out r ≤ out' r) → (before rest : List Scheduled) → IsSound out before rest → IsSound out' before rest
sound_later out out' le before [] h = tt
sound_later out out' le before (a ∷ rest) h = ((λ m is. out_in_later out out' le before m (h.0 m is)), sound_later out out' le (before ++ (a ∷ [])) rest h.1)

sound_kept : (out : ℕ → ℕ) (r n : ℕ) → out r ≤ n → (before rest : List Scheduled) → IsSound out before rest → IsSound out (kept r n before) (kept r n rest)
sound_kept out r n le before [] h = tt
sound_kept out r n le before (a ∷ rest) h =
    go (is_beyond r n a)
    (subst (λ l. IsSound out l (kept r n rest)) (without_both (is_beyond r n) before (a ∷ [])) (sound_kept out r n le (before ++ (a ∷ [])) rest h.1))
  where
    go : (b : Bool) → IsSound out (kept r n before ++ cond b [] (a ∷ [])) (kept r n rest) → IsSound out (kept r n before) (cond b (kept r n rest) (a ∷ kept r n rest))
    go true k = subst (λ l. IsSound out l (kept r n rest)) (append-nil (kept r n before)) k
    go false k = ((λ m is. out_in_kept out r n le before m (h.0 m is)), k)

-- What stands of a cluster.

record Stands (c : Cluster) (these : List Scheduled) : Type 0 where
  pub own : (r : ℕ) → of r these ≡ c.journal r
  pub sound : IsSound c.out [] these
  pub given : (m : Frame) → In m c.given → IsOutIn c.out these m

-- an entry's number is at most how many there are
number_within : (n last : ℕ) (es : List Entry) (e : Entry) → AreNumbered n last es → In e es → e.number < n + length es
number_within n last [] e h k = absurd k
number_within n last (x ∷ es) e h (inl is) = subst (λ (z : Entry). z.number < n + length (x ∷ es)) is (let q = h.0 in omega arith)
number_within n last (x ∷ es) e h (inr k) = let t = number_within (suc n) x.stamp es e h.3 k in omega arith

-- the entries that stand after a move are the nodes'
pub own_move : (c : Cluster) (these : List Scheduled) → ((r : ℕ) → of r these ≡ c.journal r) → ((r : ℕ) → AreNumbered 1 0 (c.journal r)) → (m : Move) (q : ℕ) → of q (stand_after m these) ≡ (moved c m).journal q
own_move c these own numbered (Take r e) q = of_grows q these (record { replica = r; entry = e }) ∙ go (eqb r q) refl
  where
    go : (b : Bool) → eqb r q ≡ b → cond b (of q these ++ (e ∷ [])) (of q these) ≡ cond b (c.journal r ++ (e ∷ [])) (c.journal q)
    go true is = ap (λ l. l ++ (e ∷ [])) (own q ∙ ap c.journal (sym (eqb-true r q is)))
    go false is = own q
own_move c these own numbered (HandOut r n) q = own q
own_move c these own numbered (ComeBack r n) q = ⊎_elim here other (cases_eq r q)
  where
    here : r ≡ q → of q (kept r n these) ≡ with_at r (take n (c.journal r)) c.journal q
    here is = subst (λ p. of p (kept r n these) ≡ with_at r (take n (c.journal r)) c.journal p) is
        (kept_here r n these ∙ ap (low n) (own r) ∙ low_take n 1 n 0 (c.journal r) (numbered r) (omega arith) ∙ sym (at_same r (take n (c.journal r)) c.journal))

    other : (r ≡ q → ⊥) → of q (kept r n these) ≡ with_at r (take n (c.journal r)) c.journal q
    other ne = kept_other r n q these ne ∙ own q ∙ sym (at_other r q (take n (c.journal r)) c.journal ne)

module _ (start : Start) (f : ℕ) (c : Cluster) (h : Holds start f c) (these : List Scheduled) (s : Stands c these) where
  -- what is handed out now
  handed_now : (r n : ℕ) (m : Frame) → In m (frames_in (drop (c.out r) (take n (c.journal r)))) → IsOutIn (with_at r n c.out) these m
  handed_now r n m k =
      let t = in_frames m (drop (c.out r) (take n (c.journal r))) k in
      let there : In t.0 (take n (c.journal r)) = in_drop t.0 (c.out r) (take n (c.journal r)) t.1 in
      let stands : In t.0 (c.journal r) = in_begins t.0 (take n (c.journal r)) (c.journal r) (take_begins n (c.journal r)) there in
      let a = of_in r t.0 these (subst (λ es. In t.0 es) (sym (s.own r)) stands) in
      let below : t.0.number ≤ n = (let w = number_within 1 0 (take n (c.journal r)) t.0 (numbered_take n (c.journal r) (h.local r).0) there in omega (arith, length-take n (c.journal r))) in
      record {
        act = a.0;
        stands = a.1;
        has = subst (λ (z : Entry). In m z.out) (sym a.3) t.2;
        handed = subst (λ (z : Entry). z.number ≤ with_at r n c.out a.0.replica) (sym a.3)
            (subst (λ (q : ℕ). t.0.number ≤ with_at r n c.out q) (sym a.2) (subst (λ (b : Bool). t.0.number ≤ cond b n (c.out r)) (sym (eq-eqb r r refl)) below));
      }

  handles : (e : Entry) → IsAmong c.given e.event → (m : Frame) → e.event ≡ Handle m → IsOutIn c.out these m
  handles e among m is = s.given m (subst (λ (v : Event). IsAmong c.given v) is among)

  stand_move : (m : Move) → IsMove start f c m → Stands (moved c m) (stand_after m these)
  stand_move (Take r e) k =
      let a : Scheduled = record { replica = r; entry = e } in
      record {
        own = own_move c these s.own (λ q. (h.local q).0) (Take r e);
        sound = sound_more c.out [] these a s.sound (handles e k.2);
        given = λ m g. out_in_more c.out these (a ∷ []) m (s.given m g);
      }
  stand_move (HandOut r n) k =
      let later = out_next start f c (HandOut r n) k in
      record {
        own = s.own;
        sound = sound_later c.out (with_at r n c.out) later [] these s.sound;
        given = λ m g. elim (in_split m c.given (frames_in (drop (c.out r) (take n (c.journal r)))) g) [
          | inl old ↦ out_in_later c.out (with_at r n c.out) later these m (s.given m old)
          | inr new ↦ handed_now r n m new
        ];
      }
  stand_move (ComeBack r n) k = record {
    own = own_move c these s.own (λ q. (h.local q).0) (ComeBack r n);
    sound = sound_kept c.out r n k.1.least [] these s.sound;
    given = λ m g. out_in_kept c.out r n k.1.least these m (s.given m g);
  }

stands_after : (start : Start) (f : ℕ) (c : Cluster) (ms : List Move) (these : List Scheduled) → Holds start f c → Stands c these → AreMoves start f c ms → Stands (cluster_after c ms) (standing stand_after these ms)
stands_after start f c [] these h s k = s
stands_after start f c (m ∷ ms) these h s k = stands_after start f (moved c m) ms (stand_after m these) (move_holds start f c h m k.0) (stand_move start f c h these s m k.0) k.1

-- It is played.

out_among : (out : ℕ → ℕ) (before : List Scheduled) (m : Frame) → IsOutIn out before m → In m (frames_of before)
out_among out before m o = go before o.stands
  where
    go : (xs : List Scheduled) → In o.act xs → In m (frames_of xs)
    go [] k = absurd k
    go (x ∷ xs) (inl is) = in_left m x.entry.out (frames_of xs) (subst (λ (z : Scheduled). In m z.entry.out) (sym is) o.has)
    go (x ∷ xs) (inr k) = in_right m x.entry.out (frames_of xs) (go xs k)

among : (out : ℕ → ℕ) (before : List Scheduled) (e : Event) → ((m : Frame) → e ≡ Handle m → IsOutIn out before m) → IsAmong (frames_of before) e
among out before (Propose client request c seen named) h = tt
among out before (Handle m) h = out_among out before m (h m refl)
among out before (GiveUp i) h = tt
among out before (Recover i) h = tt
among out before (Execute root) h = tt

plays : (f : ℕ) (out : ℕ → ℕ) (before rest : List Scheduled) (w : World) → ((a : Scheduled) → In a rest → a.replica < size f) → ((r : ℕ) → AreSteps f r (w.states r) (of r rest)) →
    IsSound out before rest → ArePlayed f w (frames_of before) rest
plays f out before [] w below steps h = tt
plays f out before (a ∷ rest) w below steps h =
    let mine : AreSteps f a.replica (w.states a.replica) (a.entry ∷ of a.replica rest) = subst (λ b. AreSteps f a.replica (w.states a.replica) (cond b (a.entry ∷ of a.replica rest) (of a.replica rest))) (eq-eqb a.replica a.replica refl) (steps a.replica) in (
      record { replica = below a (inl refl); entry = mine.0; among = among out before a.entry.event h.0 },
      subst (λ frames. ArePlayed f (worlds.moved f w (act_of a)) frames rest) (frames_grow before a)
          (plays f out (before ++ (a ∷ [])) rest (worlds.moved f w (act_of a)) (λ b k. below b (inr k)) (λ r. steps_next f w a rest r (steps r)) h.1),
    )

pub crashing_runs_are_linearizable_lem : CrashingRunsAreLinearizable
crashing_runs_are_linearizable_lem start f some few moves k =
    let c : Cluster = cluster_after fresh_cluster moves in
    let these : List Scheduled = standing stand_after [] moves in
    let h : Holds start f c = moves_hold start f fresh_cluster moves (fresh_holds start f) k in
    let s : Stands c these = stands_after start f fresh_cluster moves [] (fresh_holds start f) (record { own = λ r. refl; sound = tt; given = λ m g. absurd g }) k in
    let local : AreLocalRuns (opened start.map) f c.journal = record { local = h.local; others = h.others } in
    let below : (a : Scheduled) → In a these → a.replica < size f =
    (λ a there. in_journal (opened start.map) f c.journal a.replica a.entry local (subst (λ es. In a.entry es) (s.own a.replica) (in_of a these there))) in
    let played : ArePlayed f (opening (opened start.map)) [] these = plays f c.out [] these (opening (opened start.map)) below (λ r. subst (λ es. AreSteps f r (fresh_state (opened start.map)) es) (sym (s.own r)) (h.local r).1) s.sound in
    let run = played_is_a_run_lem (opened start.map) f these played in
    record { own = s.own; played = played; run = run; linearizable = linearizability_holds (opened start.map) f some few (acts_of these) run }
