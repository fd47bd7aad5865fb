-- What a crash takes can be left out of the moves before it.
use Rattle.std.proofs.Common.{◌≡◌, ℕ, ◌<◌, ◌≤◌, length, Bool, true, false, cond, eqb, List, [], ◌∷◌, ◌++◌, take, drop, refl, sym, ap, subst, ◌∙◌, arith, ⊎_elim}
use Rattle.std.proofs.lemmas.Bool.{eqb-true, ne_eqb, cases_eq, cases_lt}
use Rattle.std.proofs.lemmas.List.{take_all, take-take, take-append-le, length-take-le, length-append}
use Rattle.ep_rules.specs.Journals.{Entry, Journals}
use Rattle.ep_rules.specs.Steps.{Frame}
use Rattle.ep_node.specs.Crashes.{Start, IsTaken, Cluster, fresh_cluster, Move, Take, HandOut, ComeBack, IsMove, frames_in, with_at, moved, AreMoves, cluster_after, IsCalm, CrashesLeaveNoTrace}
use Rattle.ep_node.proofs.CrashMoves.{at_each, at_same}

abbrev cluster : Journals → (ℕ → ℕ) → List Frame → Cluster
cluster j out g = record { journal = j; out = out; given = g }

same_cluster : (j j' : Journals) (out : ℕ → ℕ) (g g' : List Frame) → ((q : ℕ) → j q ≡ j' q) → g ≡ g' → cluster j out g ≡ cluster j' out g'
same_cluster j j' out g g' js gs = λ i. record { journal = λ q. js q i; out = out; given = gs i }

pub at_other : {X : Type 0} (r q : ℕ) (x : X) (was : ℕ → X) → (r ≡ q → ⊥) → with_at r x was q ≡ was q
at_other r q x was ne = ap (λ b. cond b x (was q)) (ne_eqb r q ne)

abbrev no_entries : List Entry
no_entries = []

take_none : (n : ℕ) → take n no_entries ≡ no_entries
take_none n = take_all n no_entries (omega arith)

-- the first n entries with one more, where n reaches beyond
take_more : (n : ℕ) (es : List Entry) (e : Entry) → length es < n → take n es ++ (e ∷ []) ≡ take n (es ++ (e ∷ []))
take_more n es e lt = ap (λ l. l ++ (e ∷ [])) (take_all n es (omega arith)) ∙ sym (take_all n (es ++ (e ∷ [])) (omega (arith, length-append es (e ∷ []))))

-- What is handed out of only grows.
pub out_next : (start : Start) (f : ℕ) (c : Cluster) (m : Move) → IsMove start f c m → (r : ℕ) → c.out r ≤ (moved c m).out r
out_next start f c (Take q e) k r = omega arith
out_next start f c (HandOut q n) k r = at_each (λ p j. c.out p ≤ j) q n c.out k.1.least (λ p. omega arith) r
out_next start f c (ComeBack q n) k r = omega arith

out_grows : (start : Start) (f : ℕ) (c : Cluster) (ms : List Move) → AreMoves start f c ms → (r : ℕ) → c.out r ≤ (cluster_after c ms).out r
out_grows start f c [] k r = omega arith
out_grows start f c (m ∷ ms) k r = let now = out_next start f c m k.0 r in let rest = out_grows start f (moved c m) ms k.1 r in omega arith

-- A crash at r to n entries, before a move or after it.
module _ (start : Start) (f r n : ℕ) (c : Cluster) where
  abbrev cut : Cluster → Cluster
  cut d = moved d (ComeBack r n)

  -- at another replica
  take_other : (q : ℕ) (e : Entry) → (r ≡ q → ⊥) → moved (cut c) (Take q e) ≡ cut (moved c (Take q e))
  take_other q e ne =
      same_cluster _ _ c.out c.given c.given (λ p. go p (eqb q p) (eqb r p) refl refl) refl
    where
      mine : take n (c.journal r) ≡ take n (with_at q (c.journal q ++ (e ∷ [])) c.journal r)
      mine = ap (take n) (sym (at_other q r (c.journal q ++ (e ∷ [])) c.journal (λ x. ne (sym x))))

      theirs : with_at r (take n (c.journal r)) c.journal q ++ (e ∷ []) ≡ c.journal q ++ (e ∷ [])
      theirs = ap (λ l. l ++ (e ∷ [])) (at_other r q (take n (c.journal r)) c.journal ne)

      go : (p : ℕ) (a b : Bool) → eqb q p ≡ a → eqb r p ≡ b →
          cond a (with_at r (take n (c.journal r)) c.journal q ++ (e ∷ [])) (cond b (take n (c.journal r)) (c.journal p))
          ≡ cond b (take n (with_at q (c.journal q ++ (e ∷ [])) c.journal r)) (cond a (c.journal q ++ (e ∷ [])) (c.journal p))
      go p true true ea eb = absurd (ne (eqb-true r p eb ∙ sym (eqb-true q p ea)))
      go p true false ea eb = theirs
      go p false true ea eb = mine
      go p false false ea eb = refl

  -- at r, an entry that stays
  take_kept : (e : Entry) → length (c.journal r) < n → moved (cut c) (Take r e) ≡ cut (moved c (Take r e))
  take_kept e lt =
      same_cluster _ _ c.out c.given c.given (λ p. go p (eqb r p)) refl
    where
      here : with_at r (take n (c.journal r)) c.journal r ++ (e ∷ []) ≡ take n (with_at r (c.journal r ++ (e ∷ [])) c.journal r)
      here = ap (λ l. l ++ (e ∷ [])) (at_same r (take n (c.journal r)) c.journal) ∙ take_more n (c.journal r) e lt ∙ ap (take n) (sym (at_same r (c.journal r ++ (e ∷ [])) c.journal))

      go : (p : ℕ) (b : Bool) →
          cond b (with_at r (take n (c.journal r)) c.journal r ++ (e ∷ [])) (cond b (take n (c.journal r)) (c.journal p))
          ≡ cond b (take n (with_at r (c.journal r ++ (e ∷ [])) c.journal r)) (cond b (c.journal r ++ (e ∷ [])) (c.journal p))
      go p true = here
      go p false = refl

  -- at r, an entry that is taken
  take_lost : (e : Entry) → n ≤ length (c.journal r) → cut c ≡ cut (moved c (Take r e))
  take_lost e le =
      same_cluster _ _ c.out c.given c.given (λ p. go p (eqb r p)) refl
    where
      here : take n (c.journal r) ≡ take n (with_at r (c.journal r ++ (e ∷ [])) c.journal r)
      here = sym (take-append-le n (c.journal r) (e ∷ []) le) ∙ ap (take n) (sym (at_same r (c.journal r ++ (e ∷ [])) c.journal))

      go : (p : ℕ) (b : Bool) →
          cond b (take n (c.journal r)) (c.journal p)
          ≡ cond b (take n (with_at r (c.journal r ++ (e ∷ [])) c.journal r)) (cond b (c.journal r ++ (e ∷ [])) (c.journal p))
      go p true = here
      go p false = refl

  -- what is handed out is not what is taken
  take_out : (q j : ℕ) → (r ≡ q → j ≤ n) → take j (with_at r (take n (c.journal r)) c.journal q) ≡ take j (c.journal q)
  take_out q j le = ⊎_elim
      (λ (is : r ≡ q). subst (λ p. take j (with_at r (take n (c.journal r)) c.journal p) ≡ take j (c.journal p)) is
      (ap (take j) (at_same r (take n (c.journal r)) c.journal) ∙ take-take j n (c.journal r) (le is)))
      (λ (ne : r ≡ q → ⊥). ap (take j) (at_other r q (take n (c.journal r)) c.journal ne))
      (cases_eq r q)

  hand_out : (q j : ℕ) → (r ≡ q → j ≤ n) → moved (cut c) (HandOut q j) ≡ cut (moved c (HandOut q j))
  hand_out q j le = same_cluster _ _ (with_at q j c.out) _ _ (λ p. refl) (ap (λ es. c.given ++ frames_in (drop (c.out q) es)) (take_out q j le))

  -- the moves after a crash
  same_take : (q : ℕ) (e : Entry) → with_at r (take n (c.journal r)) c.journal q ≡ c.journal q → IsMove start f c (Take q e) → IsMove start f (cut c) (Take q e)
  same_take q e is k = (k.0, subst (λ es. IsTaken start f q es e) (sym is) k.1, k.2)

  same_hand : (q j : ℕ) → (r ≡ q → j ≤ n) → IsMove start f c (HandOut q j) → IsMove start f (cut c) (HandOut q j)
  same_hand q j le k = (k.0, record { least = k.1.least; most = most })
    where
      most : j ≤ length (with_at r (take n (c.journal r)) c.journal q)
      most =
          let e = ap length (take_out q j le) in
          let l = length-take-le j (c.journal q) k.1.most in
          let m = Rattle.std.proofs.lemmas.List.length-take j (with_at r (take n (c.journal r)) c.journal q) in omega arith

-- moves without a crash that lead from c to d
pub record LeadsTo (start : Start) (f : ℕ) (c d : Cluster) : Type 0 where
  pub moves : List Move
  pub calm : IsCalm moves
  pub are : AreMoves start f c moves
  pub ends : cluster_after c moves ≡ d

calm_and : (m : Move) (ms : List Move) → IsCalm (m ∷ []) → IsCalm ms → IsCalm (m ∷ ms)
calm_and (Take r e) ms a h = h
calm_and (HandOut r n) ms a h = h
calm_and (ComeBack r n) ms a h = a

-- one move, and then the others
pub leads_on : (start : Start) (f : ℕ) (c d : Cluster) (m : Move) → IsCalm (m ∷ []) → IsMove start f c m → LeadsTo start f (moved c m) d → LeadsTo start f c d
leads_on start f c d m calm k l = record { moves = m ∷ l.moves; calm = calm_and m l.moves calm l.calm; are = (k, l.are); ends = l.ends }

-- A crash at r to n entries after moves can come before them, where they hand no others out: what it takes is left out of them.
crash_first : (start : Start) (f r n : ℕ) (c : Cluster) (ms : List Move) → IsCalm ms → AreMoves start f c ms → (cluster_after c ms).out r ≤ n →
    LeadsTo start f (moved c (ComeBack r n)) (moved (cluster_after c ms) (ComeBack r n))
crash_first start f r n c [] calm k le = record { moves = []; calm = tt; are = tt; ends = refl }
crash_first start f r n c (ComeBack q j ∷ ms) calm k le = absurd calm
crash_first start f r n c (HandOut q j ∷ ms) calm k le =
    let next : Cluster = moved c (HandOut q j) in
    let within : r ≡ q → j ≤ n = (λ is.
    let grown = out_grows start f next ms k.1 r in
    let here : with_at q j c.out r ≡ j = subst (λ p. with_at q j c.out p ≡ j) (sym is) (at_same q j c.out) in omega arith) in
    leads_on start f (moved c (ComeBack r n)) _ (HandOut q j) tt (same_hand start f r n c q j within k.0)
    (subst (λ d. LeadsTo start f d (moved (cluster_after next ms) (ComeBack r n))) (sym (hand_out start f r n c q j within)) (crash_first start f r n next ms calm k.1 le))
crash_first start f r n c (Take q e ∷ ms) calm k le =
    let next : Cluster = moved c (Take q e) in
    let last : Cluster = moved (cluster_after next ms) (ComeBack r n) in
    let rest : LeadsTo start f (moved next (ComeBack r n)) last = crash_first start f r n next ms calm k.1 le in
    ⊎_elim
    (λ (is : r ≡ q). at_r q is last k.0 rest)
    (λ (ne : r ≡ q → ⊥).
    leads_on start f (moved c (ComeBack r n)) last (Take q e) tt (same_take start f r n c q e (at_other r q (take n (c.journal r)) c.journal ne) k.0)
    (subst (λ d. LeadsTo start f d last) (sym (take_other start f r n c q e ne)) rest))
    (cases_eq r q)
  where
    at_r : (q : ℕ) → r ≡ q → (last : Cluster) → IsMove start f c (Take q e) → LeadsTo start f (moved (moved c (Take q e)) (ComeBack r n)) last → LeadsTo start f (moved c (ComeBack r n)) last
    at_r q is last =
        subst (λ p. IsMove start f c (Take p e) → LeadsTo start f (moved (moved c (Take p e)) (ComeBack r n)) last → LeadsTo start f (moved c (ComeBack r n)) last) is
        (λ k rest. ⊎_elim
        (λ (lt : length (c.journal r) < n).
        leads_on start f (moved c (ComeBack r n)) last (Take r e) tt (same_take start f r n c r e (at_same r (take n (c.journal r)) c.journal ∙ take_all n (c.journal r) (omega arith)) k)
        (subst (λ d. LeadsTo start f d last) (sym (take_kept start f r n c e lt)) rest))
        (λ (ge : n ≤ length (c.journal r)). subst (λ d. LeadsTo start f d last) (sym (take_lost start f r n c e ge)) rest)
        (cases_lt (length (c.journal r)) n))

-- one move more
leads_more : (start : Start) (f : ℕ) (c d : Cluster) (ms : List Move) (m : Move) → IsCalm ms → IsCalm (m ∷ []) → AreMoves start f c ms → cluster_after c ms ≡ d → IsMove start f d m → LeadsTo start f c (moved d m)
leads_more start f c d [] m calm one are ends k = record { moves = m ∷ []; calm = one; are = (subst (λ (z : Cluster). IsMove start f z m) (sym ends) k, tt); ends = ap (λ (z : Cluster). moved z m) ends }
leads_more start f c d (x ∷ ms) m calm one are ends k = leads_on start f c (moved d m) x (calm_head x ms calm) are.0 (leads_more start f (moved c x) d ms m (calm_tail x ms calm) one are.1 ends k)
  where
    calm_head : (x : Move) (ms : List Move) → IsCalm (x ∷ ms) → IsCalm (x ∷ [])
    calm_head (Take r e) ms h = tt
    calm_head (HandOut r n) ms h = tt
    calm_head (ComeBack r n) ms h = h

    calm_tail : (x : Move) (ms : List Move) → IsCalm (x ∷ ms) → IsCalm ms
    calm_tail (Take r e) ms h = h
    calm_tail (HandOut r n) ms h = h
    calm_tail (ComeBack r n) ms h = absurd h

fresh_cut : (r n : ℕ) → moved fresh_cluster (ComeBack r n) ≡ fresh_cluster
fresh_cut r n = same_cluster _ _ (λ q. 0) [] [] (at_each (λ q es. es ≡ no_entries) r (take n no_entries) (λ q. no_entries) (take_none n) (λ q. refl)) refl

-- From moves without a crash, by any move.
by_move : (start : Start) (f : ℕ) (c : Cluster) (m : Move) → IsMove start f c m → LeadsTo start f fresh_cluster c → LeadsTo start f fresh_cluster (moved c m)
by_move start f c (Take r e) k l = leads_more start f fresh_cluster c l.moves (Take r e) l.calm tt l.are l.ends k
by_move start f c (HandOut r n) k l = leads_more start f fresh_cluster c l.moves (HandOut r n) l.calm tt l.are l.ends k
by_move start f c (ComeBack r n) k l =
    let le : (cluster_after fresh_cluster l.moves).out r ≤ n = subst (λ (z : Cluster). z.out r ≤ n) (sym l.ends) k.1.least in
    subst (λ (z : Cluster). LeadsTo start f fresh_cluster (moved z (ComeBack r n))) l.ends
    (subst (λ (z : Cluster). LeadsTo start f z (moved (cluster_after fresh_cluster l.moves) (ComeBack r n))) (fresh_cut r n) (crash_first start f r n fresh_cluster l.moves l.calm l.are le))

by_moves : (start : Start) (f : ℕ) (c : Cluster) (ms : List Move) → AreMoves start f c ms → LeadsTo start f fresh_cluster c → LeadsTo start f fresh_cluster (cluster_after c ms)
by_moves start f c [] k l = l
by_moves start f c (m ∷ ms) k l = by_moves start f (moved c m) ms k.1 (by_move start f c m k.0 l)

pub crashes_leave_no_trace_lem : CrashesLeaveNoTrace
crashes_leave_no_trace_lem start f moves k =
    let l = by_moves start f fresh_cluster moves k (record { moves = []; calm = tt; are = tt; ends = refl }) in
    (l.moves, l.calm, l.are, l.ends)
