-- Each handler keeps the invariant: what a replica promises, accepts, commits and pre-accepts for others.
use Rattle.std.proofs.Common.{◌≡◌, ℕ, suc, ◌<◌, ◌≤◌, Bool, true, false, ◌&&◌, eqb, ltb, ◌≢◌, inl, inr, Option, Some, None, List, refl, sym, ap, subst, ◌∙◌, arith}
use Rattle.std.proofs.lemmas.Bool.{or_parts, eqb-false, eq-eqb, ltb-false, cases_eq, cases_order}
use Rattle.ep_base.specs.Ballots.{owner_of}
use Rattle.ep_base.specs.Instances.{leader_of}
use Rattle.ep_base.specs.Sameness.{is_noop}
use Rattle.ep_base.specs.declared.attrs.Attrs.{Attrs}
use Rattle.ep_base.specs.Commands.{Command}
use Rattle.ep_base.specs.declared.decree.Decree.{Decree}
use Rattle.ep_base.specs.declared.message.Message.TheVariants.{PreAcceptOk, AcceptOk, PrepareOk}
use Rattle.ep_base.specs.declared.vote.VoteStatus.TheVariants.{PreAccepted, Accepted}
use Rattle.ep_base.specs.declared.vote.Vote.{Vote}
use Rattle.ep_rules.specs.Cells.{is_accept, is_commit, is_committed, is_done_at, is_settled_at, recorded, voted, Cell}
use Rattle.ep_rules.specs.Phases.{with_attrs, on_pre_accept, on_accept, on_commit}
use Rattle.ep_rules.specs.Recovery.{on_prepare}
use Rattle.ep_base.specs.Attributes.{join}
use Rattle.ep_rules.proofs.Attributes.{within_trans, within_join_left, within_join_right}
use Rattle.ep_rules.proofs.Facts.{Seen, History, Decided, IsLast, ballot_at, NoVote, Reported, CellOk, AskOk, HistoryOk, Advance}
use Rattle.ep_rules.proofs.Histories.{advance_trans, with_seen, see, note, note_here, note_other, note_back, see_advance, see_news, put_same, mark_here, mark_other, history_next, promise, promise_advance, promise_news, vote_accept, vote_accept_advance, vote_accept_news, vote_early, vote_early_advance, vote_early_news, same_advance}
use Rattle.ep_rules.proofs.Keeping.{record_of, split, FreshSeen, Kept, KeptOk, keep_nothing, keep_nack, keep_committed, keep_limited, later_unseen, later_unaccepted}
use Rattle.ep_rules.proofs.Stable.{member_kept, seen_kept, quiet_kept, free_kept, reported_same, led_moved}

-- What the tests say of the last vote.

pub not_committed : (b : ℕ) (v : Option Vote) → is_done_at b v ≡ false → is_committed v ≡ false
not_committed b None e = refl
not_committed b (Some v) e = (or_parts (is_commit v.status) (eqb v.ballot b) e).0

pub not_settled : (b : ℕ) (v : Option Vote) → is_settled_at b v ≡ false → is_committed v ≡ false
not_settled b None e = refl
not_settled b (Some v) e = (or_parts (is_commit v.status) (is_accept v.status && eqb v.ballot b) e).0

-- who has not voted at b, its last vote's ballot, has not voted at all
unvoted : (f l r b : ℕ) (h : History) (v : Option Vote) → IsLast f l h r v → is_done_at b v ≡ false → ballot_at f l v ≡ b → (b ≡ l) × NoVote f l h r
unvoted f l r b h None n e at = (sym at, n)
unvoted f l r b h (Some v) p e at = absurd (let t = (or_parts (is_commit v.status) (eqb v.ballot b) e).1 in let u = eq-eqb _ _ at in cc)

-- what a pre-accept is answered with
abbrev pub widened : (Command → Attrs) → Decree → Decree
widened own x = with_attrs x (join x.attrs (own x.command))

-- what is seen at b where the interference set was noted
pub note_seen : (f l : ℕ) (h : History) (r b : ℕ) (own : Command → Attrs) (x : Decree) → Seen f l (see h r b (own x.command).deps) r b (widened own x).attrs.deps
note_seen f l h r b own x = record { part = (own x.command).deps; is = note_here h.seen r b (own x.command).deps; inside = within_join_right x.attrs (own x.command) }

pub note_fresh : (r : ℕ) (own : Command → Attrs) (h : History) (b : ℕ) (x : Command) → h.asked b ≡ Some x → FreshSeen r own h (see h r b (own x).deps)
note_fresh r own h b x asked k c d e = elim (note_back h.seen r b (own x).deps k c d e) [
  | inl o ↦ inl o
  | inr t ↦ inr (t.0, x, ap h.asked t.1 ∙ asked, sym t.2)
]

-- after a promise of b, and no vote
pub promised_vote : {f i r : ℕ} {h : History} {c : Cell} (cell : CellOk f i h r c) (b n : ℕ) → h.promised r ≤ b → Reported f (leader_of i) (promise h r b) r n (record_of i c).vote
promised_vote {f} {i} {r} {h} {c} cell b n le =
    reported_same f (leader_of i) r h (promise h r b) (promise_advance f (leader_of i) r b h le) r n (record_of i c).vote (λ _. refl) refl (λ _. refl) (λ _. refl) ((cell.held).vote n)

module _ {f i r : ℕ} {h : History} {c : Cell} (cell : CellOk f i h r c) where
  unaccepted_at : (b : ℕ) → (record_of i c).promised ≤ b → is_done_at b (record_of i c).vote ≡ false → h.accepted r b ≡ false
  unaccepted_at b le e =
      let order = (cell.held).order in
      elim (cases_order (ballot_at f (leader_of i) (record_of i c).vote) b) [
        | inl at ↦ (let t = unvoted f (leader_of i) r b h (record_of i c).vote ((cell.held).vote b).cast e at in ap (h.accepted r) t.0 ∙ (t.1).unaccepted)
        | inr (inl under) ↦ ((cell.held).vote (suc b)).gap b under (omega arith)
        | inr (inr over) ↦ absurd (omega arith)
      ]

  unseen_at : (b : ℕ) → (record_of i c).promised ≤ b → is_done_at b (record_of i c).vote ≡ false → h.seen r b ≡ None
  unseen_at b le e =
      let order = (cell.held).order in
      elim (cases_order (ballot_at f (leader_of i) (record_of i c).vote) b) [
        | inl at ↦ (let t = unvoted f (leader_of i) r b h (record_of i c).vote ((cell.held).vote b).cast e at in ap (h.seen r) t.0 ∙ (t.1).unseen)
        | inr (inl under) ↦ ((cell.held).vote (suc b)).blank b under (omega arith)
        | inr (inr over) ↦ absurd (omega arith)
      ]

module _ {f i r : ℕ} {own : Command → Attrs} {new : Command → Type 0} {h : History} (ok : HistoryOk f (leader_of i) h) {c : Cell} (cell : CellOk f i h r c) where
  -- Prepare.

  keep_promise : (from b : ℕ) → (record_of i c).promised < b → Kept f i r own new h c (recorded (record { promised = b; vote = (record_of i c).vote }) from (PrepareOk i b (record_of i c).vote))
  keep_promise from b lt =
      let is = (cell.held).promised in
      let order = (cell.held).order in
      let go : Advance f (leader_of i) r h (promise h r b) = promise_advance f (leader_of i) r b h (omega arith) in
      record {
        after = promise h r b;
        advance = go;
        history = history_next f (leader_of i) r h (promise h r b) go (promise_news f (leader_of i) r b h) ok;
        cell = record {
          held = record {
            promised = put_same h.promised r b;
            order = (omega arith);
            vote = λ k. promised_vote cell b k (omega arith);
            leads = led_moved f (leader_of i) r h (promise h r b) go r (record_of i c) (record { promised = b; vote = (record_of i c).vote }) c.led (λ _ _. refl) (λ _ _. refl) (omega arith) (λ k own le e. omega arith) (cell.held).leads;
          };
          fresh = λ e. absurd (cc);
        };
        out = (record { promised = (let p = put_same h.promised r b in omega arith); before = (omega arith); reported = promised_vote cell b b (omega arith) }, tt);
        fresh_seen = (λ k b d e. inl e);
        proposed_new = (λ x e. inl e);
      }

  pub keep_prepare : (from b : ℕ) → Kept f i r own new h c (on_prepare i from b (record_of i c))
  keep_prepare from b =
      split (Kept f i r own new h c) (ltb b (record_of i c).promised) _ _ (λ e. keep_nack ok cell from b (record_of i c).promised) (λ e.
      split (Kept f i r own new h c) (eqb b (record_of i c).promised) _ _ (λ u. keep_nothing ok cell) (λ n.
      let le = ltb-false b (record_of i c).promised e in
      let ne : b ≢ (record_of i c).promised = eqb-false _ _ n in
      keep_promise from b (omega arith)))

  -- Accept.

  keep_accepted : (from b : ℕ) (x : Decree) → h.chosen b ≡ Some x → owner_of b ≢ r → (record_of i c).promised ≤ b → is_committed (record_of i c).vote ≡ false → Kept f i r own new h c (recorded (voted b Accepted x) from (AcceptOk i b))
  keep_accepted from b x chosen apart le live =
      let is = (cell.held).promised in
      let order = (cell.held).order in
      let go : Advance f (leader_of i) r h (vote_accept h r b) = vote_accept_advance f (leader_of i) r b h (omega arith) in
      record {
        after = vote_accept h r b;
        advance = go;
        history = history_next f (leader_of i) r h (vote_accept h r b) go (vote_accept_news f (leader_of i) r b h) ok;
        cell = record {
          held = record {
            promised = put_same h.promised r b;
            order = (omega arith);
            vote = λ k. record {
              low = ok.low b x chosen;
              gap = λ n low high. mark_other h.accepted r b r n (λ _ j. omega arith) ∙ later_unaccepted cell n (omega arith);
              blank = λ n low high. later_unseen cell n (omega arith);
              cast = record { chosen = chosen; accepted = mark_here h.accepted r b };
              unfast = λ j u. ((cell.held).vote 0).unfast j live;
            };
            leads = led_moved f (leader_of i) r h (vote_accept h r b) go r (record_of i c) (voted b Accepted x) c.led (λ _ _. refl) (λ _ _. refl) le (λ k own _ e. apart (ap owner_of e ∙ own)) (cell.held).leads;
          };
          fresh = λ e. absurd (cc);
        };
        out = (mark_here h.accepted r b, tt);
        fresh_seen = (λ k b d e. inl e);
        proposed_new = (λ x e. inl e);
      }

  pub keep_accept : (from b : ℕ) (x : Decree) → h.chosen b ≡ Some x → owner_of b ≢ r → Kept f i r own new h c (on_accept i from b x (record_of i c))
  keep_accept from b x chosen apart =
      split (Kept f i r own new h c) (ltb b (record_of i c).promised) _ _ (λ e. keep_nack ok cell from b (record_of i c).promised) (λ e.
      split (Kept f i r own new h c) (is_settled_at b (record_of i c).vote) _ _ (λ u. keep_nothing ok cell) (λ n.
      keep_accepted from b x chosen apart (ltb-false b (record_of i c).promised e) (not_settled b (record_of i c).vote n)))

  -- Commit.

  pub keep_commit : (x : Decree) → Decided f (leader_of i) h x → Kept f i r own new h c (on_commit i x (record_of i c))
  keep_commit x decided = split (Kept f i r own new h c) (is_committed (record_of i c).vote) _ _ (λ e. keep_nothing ok cell) (λ e. keep_committed ok cell x decided)

  -- PreAccept at a recovery ballot, where s is what is then seen.

  keep_late_in : (s : ℕ → ℕ → Option (List ℕ)) (from b : ℕ) (x : Decree) → Advance f (leader_of i) r h (with_seen h s) → HistoryOk f (leader_of i) (with_seen h s) → FreshSeen r own h (with_seen h s) → ((n : ℕ) → b < n → s r n ≡ None) →
      (is_noop x.command ≡ false → Seen f (leader_of i) (with_seen h s) r b (widened own x).attrs.deps) → AskOk f (leader_of i) h r b x → leader_of i < b → (record_of i c).promised ≤ b → is_done_at b (record_of i c).vote ≡ false →
      Kept f i r own new h c (recorded (voted b PreAccepted (widened own x)) from (PreAcceptOk i b (widened own x).attrs))
  keep_late_in s from b x before ok1 fresh blank seen ask late le new =
      let is = (cell.held).promised in
      let order = (cell.held).order in
      let h1 = with_seen h s in
      let step : Advance f (leader_of i) r h1 (promise h1 r b) = promise_advance f (leader_of i) r b h1 (omega arith) in
      let go : Advance f (leader_of i) r h (promise h1 r b) = advance_trans f (leader_of i) r h h1 (promise h1 r b) before step in
      record {
        after = promise h1 r b;
        advance = go;
        history = history_next f (leader_of i) r h1 (promise h1 r b) step (promise_news f (leader_of i) r b h1) ok1;
        cell = record {
          held = record {
            promised = put_same h.promised r b;
            order = (omega arith);
            vote = λ k. record {
              low = (omega arith);
              gap = λ n low high. later_unaccepted cell n (omega arith);
              blank = λ n low high. blank n low;
              cast = record {
                unaccepted = unaccepted_at cell b le new;
                free = λ lt. free_kept f (leader_of i) r h (promise h1 r b) go b (ask.free lt);
                early = λ e. absurd (omega arith);
                proposed = λ e. absurd (omega arith);
                valid = ask.valid;
                asked = ask.asked;
                quiet = λ n. quiet_kept f (leader_of i) r h (promise h1 r b) go b (ask.quiet n);
                seen = λ n. seen_kept f (leader_of i) r h1 (promise h1 r b) step r b _ (seen n);
              };
              unfast = λ j u. ((cell.held).vote 0).unfast j (not_committed b (record_of i c).vote new);
            };
            leads = led_moved f (leader_of i) r h (promise h1 r b) go r (record_of i c) (voted b PreAccepted (widened own x)) c.led (λ _ _. refl) (λ _ _. refl) le (λ k own _ e. ask.apart (ap owner_of e ∙ own)) (cell.held).leads;
          };
          fresh = λ e. absurd (cc);
        };
        out = (((λ e. absurd (omega arith)), record { command = x.command; asked = ask.asked; seen = λ n. seen_kept f (leader_of i) r h1 (promise h1 r b) step r b _ (seen n) }), tt);
        fresh_seen = fresh;
        proposed_new = (λ x e. inl e);
      }

  keep_late_vote : (n : Bool) (from b : ℕ) (x : Decree) → is_noop x.command ≡ n → AskOk f (leader_of i) h r b x → leader_of i < b → (record_of i c).promised ≤ b → is_done_at b (record_of i c).vote ≡ false →
      Kept f i r own new h c (recorded (voted b PreAccepted (widened own x)) from (PreAcceptOk i b (widened own x).attrs))
  keep_late_vote true from b x noop ask late le new =
      keep_late_in h.seen from b x (same_advance f (leader_of i) r h) ok (λ k b d e. inl e) (λ n lt. later_unseen cell n (omega arith)) (λ n. absurd (cc)) ask late le new
  keep_late_vote false from b x real ask late le new =
      let is = (cell.held).promised in
      let d = (own x.command).deps in
      let go : Advance f (leader_of i) r h (see h r b d) = see_advance f (leader_of i) r b d h (omega arith) (unseen_at cell b le new) in
      keep_late_in (note h.seen r b d) from b x go (history_next f (leader_of i) r h (see h r b d) go (see_news f (leader_of i) r b d h x.command ask.asked real) ok)
      (note_fresh r own h b x.command ask.asked)
      (λ n lt. note_other h.seen r b d r n (λ _ j. omega arith) ∙ later_unseen cell n (omega arith))
      (λ n. note_seen f (leader_of i) h r b own x) ask late le new

  -- PreAccept at the default ballot.

  keep_early_vote : (from : ℕ) (x : Decree) → AskOk f (leader_of i) h r (leader_of i) x → (record_of i c).promised ≤ leader_of i → is_done_at (leader_of i) (record_of i c).vote ≡ false →
      Kept f i r own new h c (recorded (voted (leader_of i) PreAccepted (widened own x)) from (PreAcceptOk i (leader_of i) (widened own x).attrs))
  keep_early_vote from x ask le new =
      let l = leader_of i in
      let is = (cell.held).promised in
      let order = (cell.held).order in
      let low = ((cell.held).vote 0).low in
      let y = widened own x in
      let d = (own x.command).deps in
      let asked = ask.first refl in
      let real = ok.proposed_real x.command asked.0 in
      let at : ballot_at f l (record_of i c).vote ≡ l = omega arith in
      let none = (unvoted f l r l h (record_of i c).vote ((cell.held).vote 0).cast new at).1 in
      let h1 = see h r l d in
      let one : Advance f l r h h1 = see_advance f l r l d h (omega arith) none.unseen in
      let ok1 : HistoryOk f l h1 = history_next f l r h h1 one (see_news f l r l d h x.command ask.asked real) ok in
      let step : Advance f l r h1 (vote_early h1 l r y) = vote_early_advance f l r y h1 (omega arith) none.unvoted in
      let go : Advance f l r h (vote_early h1 l r y) = advance_trans f l r h h1 (vote_early h1 l r y) one step in
      let seen : Seen f l (vote_early h1 l r y) r l y.attrs.deps = seen_kept f l r h1 (vote_early h1 l r y) step r l _ (note_seen f l h r l own x) in
      let first : Seen f l h l l x.attrs.deps = ask.origin refl in
      let origin : Seen f l (vote_early h1 l r y) l l y.attrs.deps = seen_kept f l r h (vote_early h1 l r y) go l l y.attrs.deps
      (record { part = first.part; is = first.is; inside = within_trans y.attrs.deps x.attrs.deps first.part (within_join_left x.attrs (own x.command)) first.inside }) in
      record {
        after = vote_early h1 l r y;
        advance = go;
        history = history_next f l r h1 (vote_early h1 l r y) step (vote_early_news f l r y h1 (record { member = member_kept f l r h (vote_early h1 l r y) go r asked.1; proposed = asked.0; seen = seen; origin = origin })) ok1;
        cell = record {
          held = record {
            promised = put_same h.promised r l;
            order = (omega arith);
            vote = λ k. record {
              low = (omega arith);
              gap = λ n low high. later_unaccepted cell n (omega arith);
              blank = λ n low high. note_other h.seen r l d r n (λ _ j. omega arith) ∙ later_unseen cell n (omega arith);
              cast = record {
                unaccepted = unaccepted_at cell l le new;
                free = λ lt. absurd (omega arith);
                early = λ e ne. put_same h.early r (Some y);
                proposed = λ e. asked.0;
                valid = ask.valid;
                asked = ask.asked;
                quiet = λ n. quiet_kept f l r h (vote_early h1 l r y) go l (ask.quiet n);
                seen = λ n. seen;
              };
              unfast = λ j u. ((cell.held).vote 0).unfast j (not_committed l (record_of i c).vote new);
            };
            leads = led_moved f l r h (vote_early h1 l r y) go r (record_of i c) (voted l PreAccepted y) c.led (λ _ _. refl) (λ _ _. refl) le (λ k own _ e. ask.apart (ap owner_of e ∙ own)) (cell.held).leads;
          };
          fresh = λ e. absurd (cc);
        };
        out = (((λ e. (x.command, put_same h.early r (Some y))), record { command = x.command; asked = ask.asked; seen = λ n. seen }), tt);
        fresh_seen = note_fresh r own h l x.command ask.asked;
        proposed_new = (λ x e. inl e);
      }

module _ {f i r : ℕ} (own : Command → Attrs) (new : Command → Type 0) {h : History} (ok : HistoryOk f (leader_of i) h) {c : Cell} (cell : CellOk f i h r c) where
  pub keep_pre_accept : (from b : ℕ) (x : Decree) → AskOk f (leader_of i) h r b x → KeptOk f i r own new h c (on_pre_accept i from b x (own x.command) (record_of i c))
  keep_pre_accept from b x ask =
      split (KeptOk f i r own new h c) (ltb b (record_of i c).promised) _ _ (λ e. keep_nack ok cell from b (record_of i c).promised) (λ e.
      split (KeptOk f i r own new h c) (is_done_at b (record_of i c).vote) _ _ (λ u. keep_nothing ok cell) (λ n.
      let le = ltb-false b (record_of i c).promised e in
      let low = ask.low in
      keep_limited (own x.command) (recorded (voted b PreAccepted (widened own x)) from (PreAcceptOk i b (widened own x).attrs))
      (elim (cases_eq b (leader_of i)) [
        | inl first ↦ subst (λ m. AskOk f (leader_of i) h r m x → (record_of i c).promised ≤ m → is_done_at m (record_of i c).vote ≡ false → Kept f i r own new h c (recorded (voted m PreAccepted (widened own x)) from (PreAcceptOk i m (widened own x).attrs)))
            (sym first) (keep_early_vote ok cell from x) ask le n
        | inr late ↦ keep_late_vote ok cell (is_noop x.command) from b x refl ask (omega arith) le n
      ])))
