-- What a world plays by the clock, nodes take, each entry handed out at once.
use Rattle.std.proofs.Common.{◌≡◌, ℕ, suc, ◌+◌, ◌<◌, max, length, Bool, true, false, cond, eqb, List, [], ◌∷◌, ◌++◌, take, drop, refl, sym, ap, subst, ◌∙◌, arith, append-nil, append_assoc}
use Rattle.std.proofs.lemmas.Bool.{eq-eqb, eqb-true}
use Rattle.std.proofs.lemmas.List.{take_all, drop_at, length-append}
use Rattle.ep_rules.specs.Journals.{Entry, IsEntry, left, AreMarked, AreNumbered, stamp_after, last_stamp, heard, AreClocked, Scheduled, of, act_of, ArePlayed}
use Rattle.ep_rules.specs.States.{fresh_state}
use Rattle.ep_rules.specs.Steps.{Frame, leaves}
use Rattle.ep_rules.specs.Worlds.{World, opening}
use Rattle.ep_rules.specs.Worlds as worlds
use Rattle.ep_rules.proofs.JournalsGrow.{left_grows}
use Rattle.ep_node.specs.Crashes.{Start, IsTaken, Cluster, fresh_cluster, Take, HandOut, IsMove, frames_in, moved, PlayedRunsAreMoves}
use Rattle.ep_node.proofs.CrashMoves.{at_same}
use Rattle.ep_node.proofs.CrashTraces.{LeadsTo, leads_on}
use Rattle.ep_rules.specs.OneMap.{opened}

-- The entry after these, in a numbered and in a clocked journal.

record Next (n last : ℕ) (es : List Entry) (e : Entry) : Type 0 where
  pub number : e.number ≡ n + length es
  pub marked : AreMarked e 0 e.out

numbered_next : (n last : ℕ) (es : List Entry) (e : Entry) (rest : List Entry) → AreNumbered n last (es ++ (e ∷ rest)) → Next n last es e
numbered_next n last [] e rest h = record { number = (let q = h.0 in omega arith); marked = h.2 }
numbered_next n last (x ∷ es) e rest h = let t = numbered_next (suc n) x.stamp es e rest h.3 in record { number = (let q = t.number in omega arith); marked = t.marked }

clocked_next : (last : ℕ) (es : List Entry) (e : Entry) (rest : List Entry) → AreClocked last (es ++ (e ∷ rest)) → e.stamp ≡ 1 + max (stamp_after last es) (heard e.event)
clocked_next last [] e rest h = h.0
clocked_next last (x ∷ es) e rest h = clocked_next x.stamp es e rest h.1

-- what one more entry hands out
handed_more : (es : List Entry) (e : Entry) → frames_in (drop (length es) (take (length es + 1) (es ++ (e ∷ [])))) ≡ e.out
handed_more es e =
    ap (λ l. frames_in (drop (length es) l)) (take_all (length es + 1) (es ++ (e ∷ [])) (omega (arith, length-append es (e ∷ []))))
    ∙ ap frames_in (drop_at es (e ∷ []) (length es) refl) ∙ append-nil e.out

-- the world, its frames and the cluster are at one point, and these are still to be played
record Meets (start : Start) (f : ℕ) (w : World) (frames : List Frame) (c : Cluster) (these : List Scheduled) : Type 0 where
  pub states : (r : ℕ) → w.states r ≡ left f r (fresh_state (opened start.map)) (c.journal r)
  pub given : c.given ≡ frames
  pub out : (r : ℕ) → c.out r ≡ length (c.journal r)
  pub numbered : (r : ℕ) → AreNumbered 1 0 (c.journal r ++ of r these)
  pub clocked : (r : ℕ) → AreClocked (start.base_stamp r) (c.journal r ++ of r these)

module _ (start : Start) (f : ℕ) (w : World) (frames : List Frame) (c : Cluster) (a : Scheduled) (these : List Scheduled) (m : Meets start f w frames c (a ∷ these)) where
  abbrev r : ℕ
  r = a.replica

  abbrev es : List Entry
  es = c.journal r

  abbrev taken : Cluster
  taken = moved c (Take r a.entry)

  abbrev given : Cluster
  given = moved taken (HandOut r (length es + 1))

  own : of r (a ∷ these) ≡ a.entry ∷ of r these
  own = ap (λ b. cond b (a.entry ∷ of r these) (of r these)) (eq-eqb r r refl)

  is_taken : IsEntry f r (w.states r) a.entry → IsTaken start f r es a.entry
  is_taken step =
      let n = numbered_next 1 0 es a.entry (of r these) (subst (λ l. AreNumbered 1 0 (es ++ l)) own (m.numbered r)) in
      record {
        entry = subst (λ s. IsEntry f r s a.entry) (m.states r) step;
        number = (let q = n.number in omega arith);
        stamp = clocked_next (start.base_stamp r) es a.entry (of r these) (subst (λ l. AreClocked (start.base_stamp r) (es ++ l)) own (m.clocked r));
        marked = n.marked;
      }

  -- the entries after it, and what is still to be played
  shifted : (q : ℕ) → c.journal q ++ of q (a ∷ these) ≡ given.journal q ++ of q these
  shifted q = go (eqb r q) refl
    where
      go : (b : Bool) → eqb r q ≡ b → c.journal q ++ cond b (a.entry ∷ of q these) (of q these) ≡ cond b (es ++ (a.entry ∷ [])) (c.journal q) ++ of q these
      go true e = subst (λ p. c.journal p ++ (a.entry ∷ of p these) ≡ (es ++ (a.entry ∷ [])) ++ of p these) (eqb-true r q e) (sym (append_assoc es (a.entry ∷ []) (of r these)))
      go false e = refl

  state_next : (q : ℕ) → (worlds.moved f w (act_of a)).states q ≡ left f q (fresh_state (opened start.map)) (given.journal q)
  state_next q = go (eqb r q) refl
    where
      go : (b : Bool) → eqb r q ≡ b → cond b (leaves f q (w.states q) a.entry.event a.entry.done) (w.states q) ≡ left f q (fresh_state (opened start.map)) (cond b (es ++ (a.entry ∷ [])) (c.journal q))
      go true e =
          subst (λ p. leaves f p (w.states p) a.entry.event a.entry.done ≡ left f p (fresh_state (opened start.map)) (es ++ (a.entry ∷ []))) (eqb-true r q e)
          (ap (λ s. leaves f r s a.entry.event a.entry.done) (m.states r) ∙ sym (left_grows f r (fresh_state (opened start.map)) es a.entry))
      go false e = m.states q

  longer : length (taken.journal r) ≡ length es + 1
  longer = ap length (at_same r (es ++ (a.entry ∷ [])) c.journal) ∙ length-append es (a.entry ∷ [])

  given_next : given.given ≡ frames ++ a.entry.out
  given_next =
      ap (λ l. c.given ++ frames_in (drop (c.out r) (take (length es + 1) l))) (at_same r (es ++ (a.entry ∷ [])) c.journal)
      ∙ ap (λ n. c.given ++ frames_in (drop n (take (length es + 1) (es ++ (a.entry ∷ []))))) (m.out r)
      ∙ ap (λ l. c.given ++ l) (handed_more es a.entry)
      ∙ ap (λ l. l ++ a.entry.out) m.given

  out_next : (q : ℕ) → given.out q ≡ length (given.journal q)
  out_next q = go (eqb r q)
    where
      go : (b : Bool) → cond b (length es + 1) (c.out q) ≡ length (cond b (es ++ (a.entry ∷ [])) (c.journal q))
      go true = sym (length-append es (a.entry ∷ []))
      go false = m.out q

  meets_next : Meets start f (worlds.moved f w (act_of a)) (frames ++ a.entry.out) given these
  meets_next = record {
    states = state_next;
    given = given_next;
    out = out_next;
    numbered = λ q. subst (AreNumbered 1 0) (shifted q) (m.numbered q);
    clocked = λ q. subst (AreClocked (start.base_stamp q)) (shifted q) (m.clocked q);
  }

  hands : r < Rattle.ep_base.specs.Quorums.size f → IsMove start f taken (HandOut r (length es + 1))
  hands below = (below, record { least = (let o = m.out r in omega arith); most = (let l = longer in omega arith) })

-- moves without a crash, and the entries that they lead to
record Makes (start : Start) (f : ℕ) (c : Cluster) (these : List Scheduled) : Type 0 where
  pub last : Cluster
  pub leads : LeadsTo start f c last
  pub journal : (r : ℕ) → last.journal r ≡ c.journal r ++ of r these

makes : (start : Start) (f : ℕ) (these : List Scheduled) (w : World) (frames : List Frame) (c : Cluster) → ArePlayed f w frames these → Meets start f w frames c these → Makes start f c these
makes start f [] w frames c played m = record { last = c; leads = record { moves = []; calm = tt; are = tt; ends = refl }; journal = λ r. sym (append-nil (c.journal r)) }
makes start f (a ∷ these) w frames c played m =
    let first : Cluster = moved c (Take a.replica a.entry) in
    let n : ℕ = length (c.journal a.replica) + 1 in
    let next : Cluster = moved first (HandOut a.replica n) in
    let among = subst (λ fs. Rattle.ep_rules.specs.Journals.IsAmong fs a.entry.event) (sym m.given) played.0.among in
    let rest = makes start f these (worlds.moved f w (act_of a)) (frames ++ a.entry.out) next played.1 (meets_next start f w frames c a these m) in
    record {
      last = rest.last;
      leads = leads_on start f c rest.last (Take a.replica a.entry) tt (played.0.replica, is_taken start f w frames c a these m played.0.entry, among)
          (leads_on start f first rest.last (HandOut a.replica n) tt (hands start f w frames c a these m played.0.replica) rest.leads);
      journal = λ r. rest.journal r ∙ sym (shifted start f w frames c a these m r);
    }

pub played_runs_are_moves_lem : PlayedRunsAreMoves
played_runs_are_moves_lem start f schedule played numbered clocked =
    let here : Meets start f (opening (opened start.map)) [] fresh_cluster schedule = record { states = λ r. refl; given = refl; out = λ r. refl; numbered = numbered; clocked = clocked } in
    let t = makes start f schedule (opening (opened start.map)) [] fresh_cluster played here in
    (t.leads.moves, t.leads.calm, t.leads.are, λ r. ap (λ (c : Cluster). c.journal r) t.leads.ends ∙ t.journal r)
