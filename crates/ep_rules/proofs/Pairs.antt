-- Two instances in one run: of two interfering commands one depends on the other.
use Rattle.std.proofs.Common.{◌≡◌, ◌≢◌, ℕ, suc, ◌+◌, ◌<◌, ◌≤◌, Bool, true, false, cond, ◌&&◌, not, eqb, leb, ◌⊎◌, inl, inr, Option, Some, None, is_some, List, [], ◌∷◌, ◌++◌, refl, sym, ap, subst, ◌∙◌, arith}
use Rattle.std.proofs.lemmas.Bool.{or_left, and_parts, and_from, and_right, eqb-true, eq-eqb, ne_eqb, false≢true, cases_eq, cases_order}
use Rattle.std.specs.Cmp.{unsigned_tied}
use Rattle.std.specs.FinMap.{find, get-entries}
use Rattle.std.specs.Ordering.{nat_cmp, eq_by_cmp}
use Rattle.ep_base.proofs.Interfering.{Decides-interfere, Interferes-symmetric, Interferes-noop}
use Rattle.ep_base.specs.Instances.{leader_of}
use Rattle.ep_base.specs.Interference.{interfere}
use Rattle.ep_base.specs.Quorums.{size}
use Rattle.ep_base.specs.Sameness.{is_noop}
use Rattle.ep_base.specs.Commands.{Command, Noop, Get, Put, Del, Swap, Cas, Seal, Opaque, Tx}
use Rattle.ep_base.specs.declared.decree.Decree.{Decree}
use Rattle.ep_base.specs.declared.vote.VoteStatus.{VoteStatus}
use Rattle.ep_base.specs.declared.vote.VoteStatus.TheVariants.{PreAccepted, Accepted, Committed}
use Rattle.ep_base.specs.declared.vote.Vote.{Vote}
use Rattle.ep_rules.specs.Cells.{record_or_fresh, Change, Cell}
use Rattle.ep_rules.specs.Counting.{count}
use Rattle.ep_base.specs.Places.{Has}
use Rattle.ep_rules.specs.InterferenceSet.{votes_against, touches, those, instances, interference}
use Rattle.ep_rules.specs.Maps.{Map, get, entries}
use Rattle.ep_rules.specs.Phases.{holds}
use Rattle.ep_rules.specs.Safety.{Dependency}
use Rattle.ep_rules.specs.States.{cell_in}
use Rattle.ep_rules.specs.Worlds.{World, opening, Act, moved, IsRun, ends, Committed as IsCommitted}
use Rattle.ep_rules.specs.declared.record.Record.{Record}
use Rattle.ep_rules.proofs.Attributes.{has, within, within_has, has_first, has_later, has_place}
use Rattle.ep_rules.proofs.Choices.{not_both}
use Rattle.ep_rules.proofs.Counting.{count_all, count_le, count_more, count_without, meet}
use Rattle.ep_rules.proofs.Facts.{History, can_see, CanSee, Seen, sees, Backed, Decided, slowly, quickly, IsValid, IsCast, ballot_at, Reported, HistoryOk}
use Rattle.ep_rules.proofs.Keeping.{record_of, Kept}
use Rattle.ep_rules.proofs.Runs.{can_choose, Invariant, IsProposal, Step, step_here, step_elsewhere, step_of, opening_ok, nothing_seen_yet, committed_decided, decided_proposed, run_split, ends_append, committed_in_range}
use Rattle.ep_rules.proofs.Stable.{holds_some, can_see_later, decided_kept}
use Rattle.ep_rules.specs.OneMap.{Store}

-- Interfering is symmetric, and a no-op interferes with nothing.

interfere_sym : (x y : Command) → interfere x y ≡ true → interfere y x ≡ true
interfere_sym x y e = (Decides-interfere y x).1 (Interferes-symmetric x y ((Decides-interfere x y).0 e))

interfere_real : (x y : Command) → interfere x y ≡ true → is_noop x ≡ false
interfere_real Noop y e = absurd (Interferes-noop y ((Decides-interfere Noop y).0 e))
interfere_real (Get k) y e = refl
interfere_real (Put k v) y e = refl
interfere_real (Del k) y e = refl
interfere_real (Swap p) y e = refl
interfere_real (Cas k x n) y e = refl
interfere_real (Seal v) y e = refl
interfere_real (Opaque q w) y e = refl
interfere_real (Tx is) y e = refl

-- What is recorded is in the interference set.

tied : (q k : ℕ) → eq_by_cmp nat_cmp q k ≡ true → q ≡ k
tied q k e = eqb-true q k (sym (unsigned_tied q k) ∙ e)

found_here : (i j : ℕ) (y : Command) (x : Record) (e : ℕ × Record) (es : List (ℕ × Record)) (t : Bool) → eq_by_cmp nat_cmp i e.0 ≡ t → cond t (Some e.1) (find nat_cmp i es) ≡ Some x → touches y j (i, x) ≡ true →
    (find nat_cmp i es ≡ Some x → has i (instances (those (touches y j) es)) ≡ true) → (u : Bool) → touches y j e ≡ u → has i (instances (cond u (e ∷ those (touches y j) es) (those (touches y j) es))) ≡ true
found_here i j y x e es true at is d rec true passes = has_first i e.0 _ (eq-eqb i e.0 (tied i e.0 at))
found_here i j y x e es true at is d rec false passes =
    absurd (let same : e.1 ≡ x = cc in let key = tied i e.0 at in
    false≢true (sym passes ∙ ap (λ k. touches y j (k, e.1)) (sym key) ∙ ap (λ v. touches y j (i, v)) same ∙ d))
found_here i j y x e es false at is d rec true passes = has_later i e.0 _ (rec is)
found_here i j y x e es false at is d rec false passes = rec is

found_there : (i j : ℕ) (y : Command) (x : Record) (es : List (ℕ × Record)) → find nat_cmp i es ≡ Some x → touches y j (i, x) ≡ true → has i (instances (those (touches y j) es)) ≡ true
found_there i j y x [] e d = absurd (cc)
found_there i j y x (c ∷ es) e d = found_here i j y x c es (eq_by_cmp nat_cmp i c.0) refl e d (λ g. found_there i j y x es g d) (touches y j c) refl

-- a record's vote for x, seen from y in instance j
in_interference : (i j : ℕ) (records : Map Record) (o : Option Record) (v : Vote) (x y : Command) → get records i ≡ o → i ≢ j → interfere x y ≡ true → (record_or_fresh i o).vote ≡ Some v → v.decree.command ≡ x → has i (interference records j y).deps ≡ true
in_interference i j records None v x y e ne clash is same = absurd (cc)
in_interference i j records (Some r) v x y e ne clash is same =
    let against : votes_against y r.vote ≡ true = ap (votes_against y) is ∙ ap (interfere y) same ∙ interfere_sym x y clash in
    found_there i j y r (entries records) (sym (get-entries records i) ∙ e) (and_from (not (eqb i j)) (votes_against y r.vote) (ap not (ne_eqb i j ne)) against)

-- A record keeps the command that its replica voted for while f+1 replicas can see it.

module _ (f l : ℕ) (h : History) (ok : HistoryOk f l h) where
  seen_proposed : (k m : ℕ) (d : List ℕ) → h.seen k m ≡ Some d → (c : Command) × (h.proposed ≡ Some c) × (h.asked m ≡ Some c) × (is_noop c ≡ false)
  seen_proposed k m d e =
      let t = ok.seen_asked k m d e in
      elim (ok.asked_valid m t.0 t.1) [
        | inl i ↦ absurd (let u = ap is_noop i in false≢true (sym t.2 ∙ u))
        | inr p ↦ (t.0, p, t.1, t.2)
      ]

  -- a command that isn't the proposed one is a no-op
  noop_else : (c x : Command) → IsValid f l h c → h.proposed ≡ Some x → (c ≡ x) ⊎ (is_noop c ≡ true)
  noop_else c x (inl i) e = inr (ap is_noop i)
  noop_else c x (inr p) e = inl (let i : Some c ≡ Some x = sym p ∙ e in cc)

  abbrev Still : ℕ → Command → Command → Type 0
  Still m c x = (c ≡ x) ⊎ (CanSee f l h m → ⊥)

  -- a no-op accepted or decided at n
  chosen_still : (k m n : ℕ) (d : List ℕ) (x : Command) (v : Decree) → h.seen k m ≡ Some d → h.proposed ≡ Some x → h.chosen n ≡ Some v → (n < m → ⊥) → Still m v.command x
  chosen_still k m n d x v seen prop chosen high = elim (noop_else v.command x (ok.valid n v chosen) prop) [
    | inl i ↦ inl i
    | inr noop ↦ (
        let t = seen_proposed k m d seen in
        let low = (ok.asked_led m t.0 t.2).0 in
        elim (cases_order m n) [
          | inl i ↦ absurd (let same = ok.agreed n v t.0 chosen (ap h.asked (sym i) ∙ t.2) in false≢true (sym t.3 ∙ ap is_noop (sym same) ∙ noop))
          | inr (inl under) ↦ inr ((ok.hushed n v chosen noop).below m low under)
          | inr (inr over) ↦ absurd (high over)
        ])
  ]

  cast_still : (k m n : ℕ) (d : List ℕ) (x : Command) (s : VoteStatus) (v : Decree) → h.seen k m ≡ Some d → h.proposed ≡ Some x → (n < m → ⊥) → IsCast f l h k s n v → Still m v.command x
  cast_still k m n d x PreAccepted v seen prop high p = elim (noop_else v.command x p.valid prop) [
    | inl i ↦ inl i
    | inr noop ↦ (
        let t = seen_proposed k m d seen in
        let low = (ok.asked_led m t.0 t.2).0 in
        elim (cases_order m n) [
          | inl i ↦ absurd (let e : Some v.command ≡ Some t.0 = sym p.asked ∙ ap h.asked (sym i) ∙ t.2 in let same : v.command ≡ t.0 = cc in false≢true (sym t.3 ∙ ap is_noop (sym same) ∙ noop))
          | inr (inl under) ↦ inr ((p.quiet noop).below m low under)
          | inr (inr over) ↦ absurd (high over)
        ])
  ]
  cast_still k m n d x Accepted v seen prop high p = chosen_still k m n d x v seen prop p.chosen high
  cast_still k m n d x Committed v seen prop high (quickly e) = inl (let i : Some v.command ≡ Some x = sym (ok.fast_proposed v e) ∙ prop in cc)
  cast_still k m n d x Committed v seen prop high (slowly b e many) = chosen_still k m b d x v seen prop e (λ lt.
      let t = seen_proposed k m d seen in
      let low = ok.low b v e in
      (ok.asked_free m t.0 t.2 (omega arith)).below b low lt (can_choose f l h ok b many))

  -- the last vote is at m or above
  not_lower : (k m : ℕ) (d : List ℕ) (v : Option Vote) → h.seen k m ≡ Some d → ((b : ℕ) → Reported f l h k b v) → ballot_at f l v < m → ⊥
  not_lower k m d v seen reported lt = not_both seen ((reported (suc m)).blank m lt (omega arith))

  record_still : (k m : ℕ) (d : List ℕ) (x : Command) (v : Option Vote) → h.seen k m ≡ Some d → h.proposed ≡ Some x → ((b : ℕ) → Reported f l h k b v) → (w : Vote) × (v ≡ Some w) × Still m w.decree.command x
  record_still k m d x None seen prop reported = absurd (
      let t = seen_proposed k m d seen in
      let low = (ok.asked_led m t.0 t.2).0 in
      elim (cases_order l m) [
        | inl i ↦ not_both (ap (h.seen k) i ∙ seen) (reported 0).cast.unseen
        | inr (inl under) ↦ not_lower k m d None seen reported under
        | inr (inr over) ↦ omega arith
      ])
  record_still k m d x (Some w) seen prop reported = (w, refl, cast_still k m w.ballot d x w.status w.decree seen prop (not_lower k m d (Some w) seen reported) (reported 0).cast)

-- What holds of two instances in every world.

abbrev pub Crossed : (f i j : ℕ) → History → History → Type 0
Crossed f i j g h =
    (k m n : ℕ) (d e : List ℕ) (x y : Command) → g.seen k m ≡ Some d → h.seen k n ≡ Some e → g.proposed ≡ Some x → h.proposed ≡ Some y → interfere x y ≡ true →
    ((has j d ≡ true) ⊎ (has i e ≡ true)) ⊎ ((CanSee f (leader_of i) g m → ⊥) ⊎ (CanSee f (leader_of j) h n → ⊥))

pub record Pair (f i j : ℕ) (w : World) : Type 0 where
  pub one : Invariant f i w
  pub two : Invariant f j w
  pub cross : Crossed f i j one.history two.history

pub record PairLater (f i j : ℕ) (w w' : World) (p : Pair f i j w) : Type 0 where
  pub next : Pair f i j w'
  pub kept_one : (x : Decree) → Decided f (leader_of i) p.one.history x → Decided f (leader_of i) next.one.history x
  pub kept_two : (x : Decree) → Decided f (leader_of j) p.two.history x → Decided f (leader_of j) next.two.history x

crossed_swap : (f i j : ℕ) (g h : History) → Crossed f i j g h → Crossed f j i h g
crossed_swap f i j g h c k m n d e x y sd se px py clash =
    elim (c k n m e d y x se sd py px (interfere_sym x y clash)) [
      | inl a ↦ inl (elim a [ inl t ↦ inr t | inr t ↦ inl t ])
      | inr b ↦ inr (elim b [ inl t ↦ inr t | inr t ↦ inl t ])
    ]

abbrev pair_swap : (f i j : ℕ) (w : World) → Pair f i j w → Pair f j i w
pair_swap f i j w p = record { one = p.two; two = p.one; cross = crossed_swap f i j p.one.history p.two.history p.cross }

module _ (f : ℕ) (two : 0 < f) (few : size f ≤ 256) (i j : ℕ) (ne : i ≢ j) where
  -- a step of r in instance j
  cross_step : (w : World) (p : Pair f i j w) (r : ℕ) (c : Cell) (ch : Change) (new : Command → Type 0) (q : Kept f j r (interference (w.states r).records j) new p.two.history c ch) → Crossed f i j p.one.history q.after
  cross_step w p r c ch new q k m n d e x y sd se px py clash = elim (q.fresh_seen k n e se) [
    | inl old ↦ (
        let t = seen_proposed f (leader_of j) p.two.history p.two.ok k n e old in
        let i1 : Some t.0 ≡ Some y = sym (q.advance.proposed_kept t.0 t.1) ∙ py in
        let was : p.two.history.proposed ≡ Some y = t.1 ∙ i1 in
        elim (p.cross k m n d e x y sd old px was clash) [
          | inl a ↦ inl a
          | inr b ↦ inr (elim b [ inl u ↦ inl u | inr u ↦ inr (can_see_later f (leader_of j) r p.two.history q.after q.advance n u) ])
        ])
    | inr new ↦ (
        let t = seen_proposed f (leader_of j) q.after q.history k n e se in
        let i1 : Some t.0 ≡ Some y = sym t.1 ∙ py in
        let i2 : Some t.0 ≡ Some new.1 = sym t.2 ∙ new.2 in
        let same : new.1 ≡ y = cc in
        let s = record_still f (leader_of i) p.one.history p.one.ok k m d x (record_of i (cell_in (w.states k) i)).vote sd px (((p.one.cells k).held).vote) in
        elim s.2 [
          | inl is ↦ inl (inr (
              let there : has i (interference (w.states k).records j y).deps ≡ true = in_interference i j (w.states k).records (get (w.states k).records i) s.0 x y refl ne clash s.1 is in
              subst (λ z. has i z ≡ true) (sym new.3) (subst (λ z. has i (interference (w.states r).records j z).deps ≡ true) (sym same) (subst (λ z. has i (interference (w.states z).records j y).deps ≡ true) new.0 there))))
          | inr u ↦ inr (inl u)
        ])
  ]

  step_two : (w : World) (a : Act) (p : Pair f i j w) → Step f w a j → PairLater f i j w (moved f w a) p
  unfolding step_here step_elsewhere
  step_two w a p s =
      let q = s.keeps p.two in
      record {
        next = record {
          one = step_elsewhere f two few i j w (moved f w a) p.one a.replica s.change s.moved (s.own).about ne;
          two = step_here f two few j s.inside w (moved f w a) p.two a.replica s.change s.moved (IsProposal w a j) q;
          cross = cross_step w p a.replica (cell_in (w.states a.replica) j) s.change (IsProposal w a j) q;
        };
        kept_one = λ x d. d;
        kept_two = decided_kept f (leader_of j) a.replica p.two.history q.after q.advance;
      }

module _ (base : Store) (f : ℕ) (two : 0 < f) (few : size f ≤ 256) (i j : ℕ) (ne : i ≢ j) where
  step_one : (w : World) (a : Act) (p : Pair f i j w) → Step f w a i → PairLater f i j w (moved f w a) p
  step_one w a p s =
      let t = step_two f two few j i (λ e. ne (sym e)) w a (pair_swap f i j w p) s in
      record { next = pair_swap f j i (moved f w a) t.next; kept_one = t.kept_two; kept_two = t.kept_one }

  step_neither : (n : ℕ) (w : World) (a : Act) (p : Pair f i j w) → Step f w a n → i ≢ n → j ≢ n → PairLater f i j w (moved f w a) p
  unfolding step_elsewhere
  step_neither n w a p s ni nj = record {
    next = record {
      one = step_elsewhere f two few i n w (moved f w a) p.one a.replica s.change s.moved (s.own).about ni;
      two = step_elsewhere f two few j n w (moved f w a) p.two a.replica s.change s.moved (s.own).about nj;
      cross = p.cross;
    };
    kept_one = λ x d. d;
    kept_two = λ x d. d;
  }

  pair_step : (n : ℕ) (w : World) (a : Act) (p : Pair f i j w) → Step f w a n → PairLater f i j w (moved f w a) p
  pair_step n w a p s = elim (cases_eq n i) [
    | inl is ↦ step_one w a p (subst (λ m. Step f w a m) is s)
    | inr ni ↦ (elim (cases_eq n j) [
      | inl is ↦ step_two f two few i j ne w a p (subst (λ m. Step f w a m) is s)
      | inr nj ↦ step_neither n w a p s (λ e. ni (sym e)) (λ e. nj (sym e))
    ])
  ]

  pair_run : (acts : List Act) (w : World) (p : Pair f i j w) → IsRun f w acts → PairLater f i j w (ends f w acts) p
  pair_run [] w p run = record { next = p; kept_one = λ x d. d; kept_two = λ x d. d }
  pair_run (a ∷ acts) w p run =
      let s = step_of base f two few w a run.0 in
      let one = pair_step s.0 w a p s.1 in
      let rest = pair_run acts (moved f w a) one.next run.1 in
      record { next = rest.next; kept_one = λ x d. rest.kept_one x (one.kept_one x d); kept_two = λ x d. rest.kept_two x (one.kept_two x d) }

  pair_first : Pair f i j (opening base)
  unfolding opening_ok
  pair_first = record { one = opening_ok base f two few i; two = opening_ok base f two few j; cross = λ k m n d e x y sd. absurd (nothing_seen_yet base f two few (leader_of i) k m d sd) }

-- What is decided is backed by f+1 interference sets.

module _ (f l : ℕ) (two : 0 < f) (small : l < size f) (h : History) (ok : HistoryOk f l h) where
  seen_sees : (k b : ℕ) (deps : List ℕ) → Seen f l h k b deps → sees f l h b deps k ≡ true
  seen_sees k b deps s = subst (λ o. holds (within deps) o ≡ true) (sym s.is) s.inside

  fast_backed : (x : Decree) → h.fast ≡ Some x → Backed f l h x
  fast_backed x e =
      let a = ok.fast_early x e in
      let s = a.spared in
      let all = count_all (size f) in
      let one = count_without (size f) (λ k. true) s in
      let other = count_without (size f) (λ k. not (eqb k s)) l in
      let le : count (size f) (λ k. not (eqb k s) && not (eqb k l)) + 1 ≤ count (size f) (sees f l h l x.attrs.deps) = count_more (size f) l (λ k. not (eqb k s) && not (eqb k l)) (sees f l h l x.attrs.deps) small
      (and_right (not (eqb l s)) (not (eqb l l)) (ap not (eq-eqb l l refl)))
      (seen_sees l l x.attrs.deps (ok.fast_origin x e))
      (λ k lt g. let t = and_parts (not (eqb k s)) (not (eqb k l)) g in
      seen_sees k l x.attrs.deps (ok.early_seen k x (a.each k lt (and_from (not (eqb k l)) (not (eqb k s)) t.1 t.0)))) in
      record { ballot = l; from_default = (omega arith); many = (omega arith) }

  decided_backed : (x : Decree) → is_noop x.command ≡ false → Decided f l h x → Backed f l h x
  decided_backed x real (slowly b e many) = ok.backed b x e real
  decided_backed x real (quickly e) = fast_backed x e

  can_see_backed : (x : Decree) (s : Backed f l h x) → CanSee f l h s.ballot
  can_see_backed x s =
      let le = count_le (size f) (sees f l h s.ballot x.attrs.deps) (can_see f l h s.ballot) (λ k _ e.
      let t = holds_some (within x.attrs.deps) (h.seen k s.ballot) e in or_left (is_some (h.seen k s.ballot)) (leb (h.promised k) s.ballot) (ap is_some t.1)) in
      let m = s.many in
      omega arith

depend_on : (f : ℕ) → 0 < f → (i j : ℕ) → leader_of i < size f → leader_of j < size f → (w : World) (p : Pair f i j w) (x y : Decree) → interfere x.command y.command ≡ true →
    Decided f (leader_of i) p.one.history x → Decided f (leader_of j) p.two.history y → Has x.attrs.deps j ⊎ Has y.attrs.deps i
depend_on f two i j low_i low_j w p x y clash dx dy =
    let g = p.one.history in
    let h = p.two.history in
    let real_x = interfere_real x.command y.command clash in
    let real_y = interfere_real y.command x.command (interfere_sym x.command y.command clash) in
    let bx = decided_backed f (leader_of i) two low_i g p.one.ok x real_x dx in
    let bh = decided_backed f (leader_of j) two low_j h p.two.ok y real_y dy in
    let mx = bx.many in
    let my = bh.many in
    let t = meet (size f) (sees f (leader_of i) g bx.ballot x.attrs.deps) (sees f (leader_of j) h bh.ballot y.attrs.deps) (omega arith) in
    let sx = holds_some (within x.attrs.deps) (g.seen t.0 bx.ballot) t.2 in
    let sy = holds_some (within y.attrs.deps) (h.seen t.0 bh.ballot) t.3 in
    elim (p.cross t.0 bx.ballot bh.ballot sx.0 sy.0 x.command y.command sx.1 sy.1 (decided_proposed f (leader_of i) g p.one.ok x real_x dx) (decided_proposed f (leader_of j) h p.two.ok y real_y dy) clash) [
      | inl a ↦ (elim a [ inl u ↦ inl (has_place x.attrs.deps j (within_has x.attrs.deps sx.0 j sx.2 u)) | inr u ↦ inr (has_place y.attrs.deps i (within_has y.attrs.deps sy.0 i sy.2 u)) ])
      | inr b ↦ absurd (elim b [
        | inl u ↦ u (can_see_backed f (leader_of i) two low_i g p.one.ok x bx)
        | inr u ↦ u (can_see_backed f (leader_of j) two low_j h p.two.ok y bh)
      ])
    ]

pub dependency_holds : Dependency
dependency_holds base f two few early late run i j r q x y ne cx cy clash =
    let runs = run_split base f two few early late (opening base) run in
    let a = pair_run base f two few i j ne early (opening base) (pair_first base f two few i j ne) runs.0 in
    let b = pair_run base f two few i j ne late (ends f (opening base) early) a.next runs.1 in
    let low_i = committed_in_range base f two few early runs.0 r i x cx in
    let low_j = committed_in_range base f two few (early ++ late) run q j y cy in
    let dx = b.kept_one x (committed_decided base f two few i (ends f (opening base) early) a.next.one r x cx) in
    let dy = committed_decided base f two few j (ends f (ends f (opening base) early) late) b.next.two q y (subst (λ w. IsCommitted w q j y) (ends_append base f two few early late (opening base)) cy) in
    depend_on f two i j low_i low_j (ends f (ends f (opening base) early) late) b.next x y clash dx dy
