-- What is decided was voted for by F + 1 replicas, in whose records its command stays.
use Rattle.std.proofs.Common.{◌≡◌, ℕ, suc, ◌+◌, ◌*◌, ◌<◌, ◌≤◌, inl, inr, Bool, true, false, ◌&&◌, not, eqb, Option, Some, None, is_some, List, [], ◌∷◌, refl, sym, ap, subst, ◌∙◌, arith}
use Rattle.std.proofs.lemmas.Bool.{false≢true, and_parts, and_from, and_right, or_left, eq-eqb, cases_eq, cases_order}
use Rattle.ep_base.specs.Commands.{Command}
use Rattle.ep_base.specs.Instances.{leader_of}
use Rattle.ep_base.specs.Quorums.{size}
use Rattle.ep_base.specs.Sameness.{is_noop}
use Rattle.ep_base.specs.declared.decree.Decree.{Decree}
use Rattle.ep_base.specs.declared.vote.VoteStatus.{VoteStatus}
use Rattle.ep_base.specs.declared.vote.VoteStatus.TheVariants.{PreAccepted, Accepted, Committed}
use Rattle.ep_base.specs.declared.vote.Vote.{Vote}
use Rattle.ep_rules.specs.Counting.{count}
use Rattle.ep_rules.specs.OneMap.{Store}
use Rattle.ep_rules.specs.States.{record_in}
use Rattle.ep_rules.specs.Worlds.{World, opening, Act, moved, IsRun, ends, Committed as IsCommitted}
use Rattle.ep_rules.proofs.Attributes.{within}
use Rattle.ep_rules.proofs.Choices.{not_both}
use Rattle.ep_rules.proofs.Counting.{count_all, count_le, count_more, count_without}
use Rattle.ep_rules.proofs.Facts.{History, can_see, CanSee, IsValid, IsCast, ballot_at, Reported, HistoryOk, Seen, sees, Decided, slowly, quickly}
use Rattle.ep_rules.proofs.Runs.{decided_agree, decided_proposed, Invariant, IsProposal, Step, step_here, step_elsewhere, step_of, opening_ok, committed_decided, committed_in_range}
use Rattle.ep_rules.proofs.Stable.{holds_some, some_of, decided_kept}

-- r voted at m for a command other than a no-op
abbrev voted_at : History → ℕ → ℕ → Bool
voted_at h m r = is_some (h.seen r m)

-- the ballot at which more than half of the replicas did
pub record Backers (f : ℕ) (h : History) : Type 0 where
  pub ballot : ℕ
  pub many : size f < 2 * count (size f) (voted_at h ballot)

module _ (f l : ℕ) (h : History) (ok : HistoryOk f l h) where
  was_seen : (r m : ℕ) (d : List ℕ) → Seen f l h r m d → voted_at h m r ≡ true
  was_seen r m d s = ap is_some s.is

  -- on the fast path: its members and the leader
  fast_backers : 0 < f → l < size f → (x : Decree) → h.fast ≡ Some x → Backers f h
  fast_backers some small x e =
      let a = ok.fast_early x e in
      let all = count_all (size f) in
      let one = count_without (size f) (λ k. true) a.spared in
      let other = count_without (size f) (λ k. not (eqb k a.spared)) l in
      let le : count (size f) (λ k. not (eqb k a.spared) && not (eqb k l)) + 1 ≤ count (size f) (voted_at h l) =
      count_more (size f) l (λ k. not (eqb k a.spared) && not (eqb k l)) (voted_at h l) small
      (and_right (not (eqb l a.spared)) (not (eqb l l)) (ap not (eq-eqb l l refl)))
      (was_seen l l x.attrs.deps (ok.fast_origin x e))
      (λ k lt g. let t = and_parts (not (eqb k a.spared)) (not (eqb k l)) g in
      was_seen k l x.attrs.deps (ok.early_seen k x (a.each k lt (and_from (not (eqb k l)) (not (eqb k a.spared)) t.1 t.0)))) in
      record { ballot = l; many = (omega arith) }

  slow_backers : (x : Decree) (b : ℕ) → h.chosen b ≡ Some x → is_noop x.command ≡ false → Backers f h
  slow_backers x b e real =
      let s = ok.backed b x e real in
      let m = s.many in
      let le = count_le (size f) (sees f l h s.ballot x.attrs.deps) (voted_at h s.ballot) (λ k _ t. ap is_some (holds_some (within x.attrs.deps) (h.seen k s.ballot) t).1) in
      record { ballot = s.ballot; many = (omega arith) }

  backers : 0 < f → l < size f → (x : Decree) → is_noop x.command ≡ false → Decided f l h x → Backers f h
  backers some small x real (slowly b e many) = slow_backers x b e real
  backers some small x real (quickly e) = fast_backers some small x e

-- A record keeps the command that is decided while F + 1 replicas have voted at the ballot of its replica's vote, or still can.
module _ (f l : ℕ) (h : History) (ok : HistoryOk f l h) (x : Decree) (real : is_noop x.command ≡ false) (decided : Decided f l h x) (k m : ℕ) (d : List ℕ) (seen : h.seen k m ≡ Some d) (can : CanSee f l h m) where
  -- at m a command other than a no-op was asked for
  asked_at : (c : Command) → (h.asked m ≡ Some c) → is_noop c ≡ false
  asked_at c e =
      let t = ok.seen_asked k m d seen in
      let same : Some t.0 ≡ Some c = sym t.1 ∙ e in
      let is : t.0 ≡ c = cc in
      ap is_noop (sym is) ∙ t.2

  low : l ≤ m
  low = let t = ok.seen_asked k m d seen in (ok.asked_led m t.0 t.1).0

  -- a command that was voted for at b, which isn't below m, where no no-op can be
  is_decided : (b : ℕ) (c : Command) → (b < m → ⊥) → IsValid f l h c → (is_noop c ≡ true → m < b → ⊥) → (m ≡ b → is_noop c ≡ false) → c ≡ x.command
  is_decided b c high (inr p) above here = let e : Some c ≡ Some x.command = sym p ∙ decided_proposed f l h ok x real decided in cc
  is_decided b c high (inl n) above here = elim (cases_order m b) [
    | inl i ↦ absurd (false≢true (sym (here i) ∙ ap is_noop n))
    | inr (inl lt) ↦ absurd (above (ap is_noop n) lt)
    | inr (inr gt) ↦ absurd (high gt)
  ]

  cast_command : (s : VoteStatus) (b : ℕ) (v : Decree) → (b < m → ⊥) → IsCast f l h k s b v → v.command ≡ x.command
  cast_command PreAccepted b v high p =
      is_decided b v.command high p.valid (λ n lt. (p.quiet n).below m low lt can) (λ i. asked_at v.command (ap h.asked i ∙ p.asked))
  cast_command Accepted b v high p =
      let t = ok.seen_asked k m d seen in
      is_decided b v.command high (ok.valid b v p.chosen) (λ n lt. (ok.hushed b v p.chosen n).below m low lt can)
      (λ i. ap is_noop (ok.agreed b v t.0 p.chosen (ap h.asked (sym i) ∙ t.1)) ∙ t.2)
  cast_command Committed b v high p = ap (λ (y : Decree). y.command) (decided_agree f l h ok v x p decided)

  -- the last vote isn't below m
  not_below : (v : Option Vote) → ((b : ℕ) → Reported f l h k b v) → ballot_at f l v < m → ⊥
  not_below v reported lt = not_both seen ((reported (suc m)).blank m lt (omega arith))

  pub vote_stays : (v : Option Vote) → ((b : ℕ) → Reported f l h k b v) → (w : Vote) × (v ≡ Some w) × (w.decree.command ≡ x.command)
  vote_stays None reported = absurd (
      let low_m = low in
      elim (cases_order l m) [
        | inl i ↦ not_both (ap (h.seen k) i ∙ seen) (reported 0).cast.unseen
        | inr (inl under) ↦ not_below None reported under
        | inr (inr over) ↦ omega arith
      ])
  vote_stays (Some w) reported = (w, refl, cast_command w.status w.ballot w.decree (not_below (Some w) reported) (reported 0).cast)

-- A later world of a run: what was decided stays so, and what was seen.
pub record Grown (f i : ℕ) (w w' : World) (v : Invariant f i w) : Type 0 where
  pub next : Invariant f i w'
  pub decided : (x : Decree) → Decided f (leader_of i) v.history x → Decided f (leader_of i) next.history x
  pub seen : (k m : ℕ) (d : List ℕ) → v.history.seen k m ≡ Some d → next.history.seen k m ≡ Some d

module _ (base : Store) (f : ℕ) (some : 0 < f) (few : size f ≤ 256) where
  grown_step : (i n : ℕ) (w : World) (a : Act) (v : Invariant f i w) → Step f w a n → Grown f i w (moved f w a) v
  unfolding step_here step_elsewhere
  grown_step i n w a v s = elim (cases_eq n i) [
    | inl is ↦ (
        let t : Step f w a i = subst (λ j. Step f w a j) is s in
        let q = t.keeps v in
        record {
          next = step_here f some few i t.inside w (moved f w a) v a.replica t.change t.moved (IsProposal w a i) q;
          decided = decided_kept f (leader_of i) a.replica v.history q.after q.advance;
          seen = q.advance.seen_kept;
        })
    | inr ne ↦ record { next = step_elsewhere f some few i n w (moved f w a) v a.replica s.change s.moved (s.own).about (λ e. ne (sym e)); decided = λ x d. d; seen = λ k m d e. e }
  ]

  pub grown : (i : ℕ) (acts : List Act) (w : World) (v : Invariant f i w) → IsRun f w acts → Grown f i w (ends f w acts) v
  grown i [] w v run = record { next = v; decided = λ x d. d; seen = λ k m d e. e }
  grown i (a ∷ acts) w v run =
      let s = step_of base f some few w a run.0 in
      let one = grown_step i s.0 w a v s.1 in
      let rest = grown i acts (moved f w a) one.next run.1 in
      record { next = rest.next; decided = λ x d. rest.decided x (one.decided x d); seen = λ k m d e. rest.seen k m d (one.seen k m d e) }

  -- the replica has a vote for this command in its record of i, from the world w on
  abbrev pub Keeps : ℕ → World → ℕ → Command → Type 0
  Keeps i w k c = (late : List Act) → IsRun f w late → (v : Vote) × ((record_in ((ends f w late).states k) i).vote ≡ Some v) × (v.decree.command ≡ c)

  pub record Kept (i : ℕ) (w : World) (c : Command) : Type 0 where
    pub keepers : ℕ → Bool
    pub many : size f < 2 * count (size f) keepers
    pub each : (k : ℕ) → keepers k ≡ true → Keeps i w k c

  -- what a replica has committed more than half of all keep in their records
  pub committed_kept : (early : List Act) → IsRun f (opening base) early → (r i : ℕ) (x : Decree) → IsCommitted (ends f (opening base) early) r i x → is_noop x.command ≡ false →
      Kept i (ends f (opening base) early) x.command
  committed_kept early run r i x e real =
      let w : World = ends f (opening base) early in
      let l : ℕ = leader_of i in
      let g = grown i early (opening base) (opening_ok base f some few i) run in
      let v : Invariant f i w = g.next in
      let d : Decided f l v.history x = committed_decided base f some few i w v r x e in
      let b : Backers f v.history = backers f l v.history v.ok some (committed_in_range base f some few early run r i x e) x real d in
      record {
        keepers = voted_at v.history b.ballot;
        many = b.many;
        each = λ k at late more.
            let h = grown i late w v more in
            let s = seen_at v.history b.ballot k at in
            let m = b.many in
            let le = count_le (size f) (voted_at v.history b.ballot) (can_see f l h.next.history b.ballot) (λ q _ t.
            let z = seen_at v.history b.ballot q t in or_left _ _ (ap is_some (h.seen q b.ballot z.0 z.1))) in
            vote_stays f l h.next.history h.next.ok x real (h.decided x d) k b.ballot s.0 (h.seen k b.ballot s.0 s.1) (omega arith)
            (record_in ((ends f w late).states k) i).vote (((h.next.cells k).held).vote);
      }
    where
      seen_at : (h : History) (m k : ℕ) → voted_at h m k ≡ true → (d : List ℕ) × (h.seen k m ≡ Some d)
      seen_at h m k e = some_of (h.seen k m) e
