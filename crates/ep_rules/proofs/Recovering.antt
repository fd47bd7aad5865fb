-- Each handler keeps the invariant: proposals, explicit prepare, and all messages.
use Rattle.std.proofs.Common.{◌≡◌, ℕ, suc, ◌+◌, ◌<◌, ◌≤◌, Bool, true, false, not, leb, inl, inr, Option, Some, None, is_some, List, [], refl, sym, ap, subst, ◌∙◌, arith}
use Rattle.std.proofs.lemmas.Bool.{and_parts, eq-eqb, leb-true, false≢true}
use Rattle.ep_base.specs.Ballots.{ballot_of, owner_of, highest_counter}
use Rattle.ep_base.specs.Instances.{leader_of}
use Rattle.ep_base.specs.Messages.{instance_of_message}
use Rattle.ep_base.specs.Quorums.{size, is_fast}
use Rattle.ep_base.specs.Sameness.{is_noop}
use Rattle.ep_base.specs.declared.attrs.Attrs.{Attrs}
use Rattle.ep_base.specs.Commands.{Command, Noop}
use Rattle.ep_base.specs.declared.decree.Decree.{Decree}
use Rattle.ep_base.specs.declared.message.Message.{Message}
use Rattle.ep_base.specs.declared.message.Message.TheVariants.{PreAccept, PreAcceptOk, Accept, AcceptOk, Commit, Prepare, PrepareOk, Nack}
use Rattle.ep_base.specs.declared.vote.Vote.{Vote}
use Rattle.ep_rules.specs.Answers.{Answers, answer, with_answer}
use Rattle.ep_rules.specs.Cells.{is_committed, fresh_record, record_or_fresh, Cell}
use Rattle.ep_rules.specs.Counting.{is_other}
use Rattle.ep_rules.specs.InterferenceSet.{interference}
use Rattle.ep_rules.specs.Phases.{accept_phase, first_phase, is_usable, propose}
use Rattle.ep_rules.specs.Recovery.{Choice, CommitIt, AcceptIt, AcceptFast, ProposeIt, ProposeNoop, choose, recover_with, act_on, next_counter, prepare_phase, recover, answered_all, count_prepare_ok, use_prepare_ok, on_prepare_ok}
use Rattle.ep_rules.specs.States.{State, cell_in}
use Rattle.ep_rules.specs.Steps.{handled}
use Rattle.ep_rules.specs.declared.led_instance.LedInstance.{LedInstance}
use Rattle.ep_rules.specs.declared.led_instance.LedInstance.TheVariants.{Proposing, Accepting, Preparing}
use Rattle.ep_rules.specs.declared.record.Record.{Record}
use Rattle.ep_rules.proofs.Attributes.{within_self}
use Rattle.ep_rules.proofs.Choices.{choose_ok, ChoiceOk, MayAccept, MayPropose, not_both}
use Rattle.ep_rules.proofs.Facts.{Seen, History, ballot_at, Reported, PromisedReport, PreparingOk, LedOk, CellOk, MessageOk, HistoryOk, Advance}
use Rattle.ep_rules.proofs.Histories.{advance_trans, ask, ask_advance, ask_news, with_seen, see, note, note_here, note_other, see_advance, see_news, put_same, put_here, history_next, promise, promise_advance, promise_news, choose_at, propose_at, propose_at_advance, propose_at_news, same_advance}
use Rattle.ep_rules.proofs.Keeping.{record_of, split, sent_to_those, FreshSeen, Kept, KeptOk, keep_nothing, keep_reported, keep_led, keep_commit_phase, keep_limited, later_unseen, later_unaccepted}
use Rattle.ep_rules.proofs.Leading.{usable, choice_led, choice_advance, keep_accept_phase, keep_pre_accept_ok, keep_accept_ok}
use Rattle.ep_rules.proofs.Lookups.{answer_back}
use Rattle.ep_rules.proofs.Stable.{safe_kept, quiet_kept, free_kept, backed_kept}
use Rattle.ep_rules.proofs.Votes.{note_fresh, promised_vote, keep_prepare, keep_accept, keep_commit, keep_pre_accept}

-- A new ballot.

abbrev next : ℕ → Record → ℕ → ℕ
next r x reported = ballot_of (next_counter x reported) r

next_above : (r : ℕ) (x : Record) (reported : ℕ) → x.promised < next r x reported
next_above r x reported = omega arith

next_mine : (r : ℕ) (x : Record) (reported : ℕ) → r < 256 → owner_of (next r x reported) ≡ r
next_mine r x reported lt = omega arith

-- what only a promise of its owner lets be
none_yet : {X : Type 0} (f l : ℕ) (h : History) (at : ℕ → Option X) (b : ℕ) → ((x : X) → at b ≡ Some x → b ≤ h.promised (owner_of b)) → h.promised (owner_of b) < b → (o : Option X) → at b ≡ o → o ≡ None
none_yet f l h at b led above None e = refl
none_yet f l h at b led above (Some x) e = absurd (let le = led x e in omega arith)

-- Recover.
module _ {f i r : ℕ} {own : Command → Attrs} {new : Command → Type 0} {h : History} (ok : HistoryOk f (leader_of i) h) {c : Cell} (cell : CellOk f i h r c) where
  keep_prepare_phase : (b : ℕ) → owner_of b ≡ r → (record_of i c).promised < b → Kept f i r own new h c (prepare_phase f i r b (record_of i c))
  keep_prepare_phase b owns above =
      let l = leader_of i in
      let is = (cell.held).promised in
      let go : Advance f l r h (promise h r b) = promise_advance f l r b h (omega arith) in
      let order = (cell.held).order in
      let low = ((cell.held).vote 0).low in
      let higher : h.promised (owner_of b) < b = (let at = ap h.promised owns in omega arith) in
      let promised_report : PromisedReport f l (promise h r b) r b (record_of i c).vote = (let p = put_same h.promised r b in record { promised = (omega arith); before = (omega arith); reported = promised_vote cell b b (omega arith) }) in
      record {
        after = promise h r b;
        advance = go;
        history = history_next f l r h (promise h r b) go (promise_news f l r b h) ok;
        cell = record {
          held = record {
            promised = put_same h.promised r b;
            order = (omega arith);
            vote = λ k. promised_vote cell b k (omega arith);
            leads = record {
              mine = owns;
              reached = (omega arith);
              low = (omega arith);
              unchosen = none_yet f l h h.chosen b (λ x e. ok.led b x e) higher (h.chosen b) refl;
              unasked = none_yet f l h h.asked b (λ x e. (ok.asked_led b x e).1) higher (h.asked b) refl;
              unvoted = λ e. omega arith;
              each = λ k v e. elim (answer_back [] r (record_of i c).vote k v e) [
                | inl o ↦ absurd (cc)
                | inr t ↦ subst (λ w. PromisedReport f l (promise h r b) k b w) t.1 (subst (λ j. PromisedReport f l (promise h r b) j b (record_of i c).vote) (sym t.0) promised_report)
              ];
            };
          };
          fresh = λ e. absurd (cc);
        };
        out = sent_to_those _ (is_other r) (size f) (Prepare i b) (λ k lt e. tt);
        fresh_seen = (λ k b d e. inl e);
        proposed_new = (λ x e. inl e);
      }

module _ {f i r : ℕ} (own : Command → Attrs) (new : Command → Type 0) (few : size f ≤ 256) (r_low : r < size f) {h : History} (ok : HistoryOk f (leader_of i) h) {c : Cell} (cell : CellOk f i h r c) where
  pub keep_recover : KeptOk f i r own new h c (recover f i r (record_of i c) c.reported)
  keep_recover =
      split (KeptOk f i r own new h c) (is_committed (record_of i c).vote) _ _ (λ e. tt) (λ e.
      split (KeptOk f i r own new h c) (leb (next_counter (record_of i c) c.reported) highest_counter) _ _
      (λ u. keep_prepare_phase ok cell (next r (record_of i c) c.reported) (next_mine r (record_of i c) c.reported (omega arith)) (next_above r (record_of i c) c.reported))
      (λ u. tt))

-- What r knows where it may choose at b.
record MayChoose (f i r : ℕ) (h : History) (c : Cell) (b : ℕ) : Type 0 where
  unasked : h.asked b ≡ None
  at : (record_of i c).promised ≡ b
  live : is_committed (record_of i c).vote ≡ false
  owned : owner_of b ≡ r
  unchosen : h.chosen b ≡ None
  late : leader_of i < b
  before : ballot_at f (leader_of i) (record_of i c).vote < b

module _ {f i r : ℕ} {own : Command → Attrs} {new : Command → Type 0} {h : History} (ok : HistoryOk f (leader_of i) h) {c : Cell} (cell : CellOk f i h r c) where
  -- phase 1 at a recovery ballot, where s is what is then seen
  keep_first_in : (s : ℕ → ℕ → Option (List ℕ)) (b : ℕ) (x : Decree) → MayChoose f i r h c b → MayPropose f (leader_of i) h b x.command →
      Advance f (leader_of i) r h (ask h b x.command) → Advance f (leader_of i) r (ask h b x.command) (with_seen (ask h b x.command) s) → HistoryOk f (leader_of i) (with_seen (ask h b x.command) s) → FreshSeen r own h (with_seen (ask h b x.command) s) →
      ((n : ℕ) → b < n → s r n ≡ None) → (is_noop x.command ≡ false → Seen f (leader_of i) (with_seen (ask h b x.command) s) r b x.attrs.deps) →
      Kept f i r own new h c (first_phase (is_other r) f i b r x)
  keep_first_in s b x p may one step ok2 fresh blank seen =
      let l = leader_of i in
      let is = (cell.held).promised in
      let order = (cell.held).order in
      let at = p.at in
      let late = p.late in
      let before = p.before in
      let h1 = ask h b x.command in
      let h2 = with_seen h1 s in
      let go : Advance f l r h h2 = advance_trans f l r h h1 h2 one step in
      record {
        after = h2;
        advance = go;
        history = ok2;
        cell = record {
          held = record {
            promised = (cell.held).promised ∙ p.at;
            order = (omega arith);
            vote = λ k. record {
              low = (omega arith);
              gap = λ n low high. later_unaccepted cell n (omega arith);
              blank = λ n low high. blank n low;
              cast = record {
                unaccepted = ((cell.held).vote (suc b)).gap b p.before (omega arith);
                free = λ lt. free_kept f l r h h2 go b may.0;
                early = λ e. absurd (omega arith);
                proposed = λ e. absurd (omega arith);
                valid = may.1;
                asked = put_same h.asked b (Some x.command);
                quiet = λ n. quiet_kept f l r h h2 go b (may.2 n);
                seen = seen;
              };
              unfast = λ j u. ((cell.held).vote 0).unfast j p.live;
            };
            leads = record { mine = p.owned; reached = (omega arith); low = (omega arith); unchosen = p.unchosen; vote = λ e u. (x, refl); spared = λ e. absurd (omega arith); views = λ k a g. absurd (cc); each = λ e k a g. absurd (cc) };
          };
          fresh = λ e. absurd (cc);
        };
        out = sent_to_those _ (is_other r) (size f) (PreAccept i b x) (λ k lt e. record {
          apart = λ j. false≢true (sym (ap not (eq-eqb k r (sym j ∙ p.owned))) ∙ e);
          low = (omega arith);
          free = λ lt. free_kept f l r h h2 go b may.0;
          valid = may.1;
          asked = put_same h.asked b (Some x.command);
          quiet = λ n. quiet_kept f l r h h2 go b (may.2 n);
          origin = λ j. absurd (omega arith);
          first = λ j. absurd (omega arith);
        });
        fresh_seen = fresh;
        proposed_new = (λ x e. inl e);
      }

  keep_first_phase : (b : ℕ) (x : Command) → MayChoose f i r h c b → MayPropose f (leader_of i) h b x → Kept f i r own new h c (first_phase (is_other r) f i b r (record { command = x; attrs = own x }))
  keep_first_phase b x p may =
      let l = leader_of i in
      let promised = (cell.held).promised in
      let at = p.at in
      let late = p.late in
      let h1 = ask h b x in
      let one : Advance f l r h h1 = ask_advance f l r b x h p.owned p.unasked in
      let led : b ≤ h.promised (owner_of b) = (let j = ap h.promised p.owned in omega arith) in
      let ok1 : HistoryOk f l h1 = history_next f l r h h1 one (ask_news f l b x h (record { unchosen = p.unchosen; low = (omega arith); led = led; free = λ lt. free_kept f l r h h1 one b may.0; valid = may.1 })) ok in
      go (is_noop x) refl one ok1
    where
      go : (n : Bool) → is_noop x ≡ n → Advance f (leader_of i) r h (ask h b x) → HistoryOk f (leader_of i) (ask h b x) → Kept f i r own new h c (first_phase (is_other r) f i b r (record { command = x; attrs = own x }))
      go true noop one ok1 = keep_first_in h.seen b (record { command = x; attrs = own x }) p may one (same_advance f (leader_of i) r (ask h b x)) ok1 (λ k b d e. inl e)
          (λ n lt. later_unseen cell n (let at = p.at in omega arith)) (λ n. absurd (cc))
      go false real one ok1 =
          let l = leader_of i in
          let promised = (cell.held).promised in
          let at = p.at in
          let d = (own x).deps in
          let asked : (ask h b x).asked b ≡ Some x = put_same h.asked b (Some x) in
          let step : Advance f l r (ask h b x) (see (ask h b x) r b d) = see_advance f l r b d (ask h b x) (omega arith) (((cell.held).vote (suc b)).blank b p.before (omega arith)) in
          keep_first_in (note h.seen r b d) b (record { command = x; attrs = own x }) p may one step
          (history_next f l r (ask h b x) (see (ask h b x) r b d) step (see_news f l r b d (ask h b x) x asked real) ok1)
          (note_fresh r own (ask h b x) b x asked)
          (λ n lt. note_other h.seen r b d r n (λ _ j. omega arith) ∙ later_unseen cell n (omega arith))
          (λ n. record { part = d; is = note_here h.seen r b d; inside = within_self d })

-- The choice.
module _ {f i r : ℕ} (own : Command → Attrs) (new : Command → Type 0) (two : 0 < f) (few : size f ≤ 256) (l_low : leader_of i < size f) (r_low : r < size f) {h : History} (ok : HistoryOk f (leader_of i) h) {c : Cell} (cell : CellOk f i h r c) where
  keep_choice_accept : (b : ℕ) → MayChoose f i r h c b → (x : Decree) → MayAccept f (leader_of i) h b x → Kept f i r own new h c (accept_phase f i r b x)
  keep_choice_accept b p x may =
      let l = leader_of i in
      let go = choice_advance few r_low cell b x p.at p.owned p.unchosen in
      keep_accept_phase few l_low r_low ok cell b x p.at p.live p.owned p.unchosen (record {
        safe = safe_kept f l r h (choose_at h r b x) go b x may.0;
        led = choice_led h r b x p.owned;
        low = (let lt = p.late in omega arith);
        valid = may.1;
        backed = λ real. backed_kept f l r h (choose_at h r b x) go x (may.2 real);
        hushed = λ noop. quiet_kept f l r h (choose_at h r b x) go b (may.3 noop);
        agreed = λ d e. absurd (not_both e p.unasked);
      })

  keep_propose_at : (b : ℕ) → MayChoose f i r h c b → (x : Command) → MayPropose f (leader_of i) h b x → KeptOk f i r own new h c (recover_with f i r b x (own x))
  keep_propose_at b p x may = keep_limited (own x) (first_phase (is_other r) f i b r (record { command = x; attrs = own x })) (keep_first_phase ok cell b x p may)

  keep_choice : (b : ℕ) → MayChoose f i r h c b → (ch : Choice) → ChoiceOk f (leader_of i) h b ch → KeptOk f i r own new h c (act_on f i r b own (record_of i c) ch)
  keep_choice b p (CommitIt x) may = keep_commit_phase ok cell x may
  keep_choice b p (AcceptIt x) may = keep_choice_accept b p x may
  keep_choice b p (AcceptFast x) may = keep_choice_accept b p x may
  keep_choice b p (ProposeIt x) may = keep_propose_at b p x may
  keep_choice b p ProposeNoop may = keep_propose_at b p Noop may

  -- Answers to Prepare.

  keep_count_prepare_ok : (from b : ℕ) (v : Option Vote) (answers : Answers (Option Vote)) → PreparingOk f (leader_of i) h r (record_of i c) b answers → (record_of i c).promised ≡ b → is_committed (record_of i c).vote ≡ false → PromisedReport f (leader_of i) h from b v →
      KeptOk f i r own new h c (count_prepare_ok f i r b (with_answer answers from v) own (record_of i c))
  keep_count_prepare_ok from b v answers p at live reported =
      let l = leader_of i in
      let all = with_answer answers from v in
      let more : (k : ℕ) (w : Option Vote) → answer all k ≡ Some w → PromisedReport f l h k b w = (λ k w g.
      elim (answer_back answers from v k w g) [
        | inl o ↦ p.each k w o
        | inr t ↦ subst (λ z. PromisedReport f l h k b z) t.1 (subst (λ j. PromisedReport f l h j b v) (sym t.0) reported)
      ]) in
      split (KeptOk f i r own new h c) (leb (f + 1) (answered_all f all)) _ _
      (λ m. keep_choice b (record { unasked = p.unasked; at = at; live = live; owned = p.mine; unchosen = p.unchosen; late = p.low; before = p.unvoted at }) (choose f l (λ q. answer all q))
      (choose_ok f l two h ok b (λ q. answer all q) more (leb-true _ _ m) l_low))
      (λ m. keep_led ok cell (Preparing b all) (record { mine = p.mine; reached = p.reached; low = p.low; unchosen = p.unchosen; unasked = p.unasked; unvoted = p.unvoted; each = more }))

  keep_led_prepare_ok : (from b : ℕ) (v : Option Vote) (led : Option LedInstance) → LedOk f (leader_of i) h r (record_of i c) led → PromisedReport f (leader_of i) h from b v → KeptOk f i r own new h c (on_prepare_ok f i r from b v own (record_of i c) led)
  keep_led_prepare_ok from b v None p reported = keep_nothing ok cell
  keep_led_prepare_ok from b v (Some (Proposing lb sp answers)) p reported = keep_nothing ok cell
  keep_led_prepare_ok from b v (Some (Accepting lb answers)) p reported = keep_nothing ok cell
  keep_led_prepare_ok from b v (Some (Preparing lb answers)) p reported =
      split (λ more. KeptOk f i r own new h c (use_prepare_ok f i r b own (record_of i c) more)) (is_some (answer answers from)) _ _
      (λ e. keep_nothing ok cell)
      (λ e. split (KeptOk f i r own new h c) (is_usable b (record_of i c) lb) _ _
      (λ e. let u = usable b (record_of i c) lb e in keep_count_prepare_ok from b v answers (subst (λ n. PreparingOk f (leader_of i) h r (record_of i c) n answers) u.0 p) u.1 u.2 reported)
      (λ e. keep_nothing ok cell))

  keep_prepare_ok : (from b : ℕ) (v : Option Vote) → PromisedReport f (leader_of i) h from b v → KeptOk f i r own new h c (on_prepare_ok f i r from b v own (record_of i c) c.led)
  keep_prepare_ok from b v reported = keep_led_prepare_ok from b v c.led (cell.held).leads reported

-- Proposals.
module _ {f i r : ℕ} (own : Command → Attrs) (new : Command → Type 0) (few : size f ≤ 256) (l_low : leader_of i < size f) {h : History} (ok : HistoryOk f (leader_of i) h) {c : Cell} (cell : CellOk f i h r c) where
  keep_new : (s : ℕ) (x : Command) → new x → is_noop x ≡ false → r ≡ leader_of i → c.entry ≡ None → Kept f i r own new h c (first_phase (is_fast (leader_of i) s) f i (leader_of i) s (record { command = x; attrs = own x }))
  keep_new s x now real leads none =
      let l = leader_of i in
      let fresh = cell.fresh none leads in
      let same : record_of i c ≡ fresh_record i = ap (record_or_fresh i) none in
      let reported : Reported f l h r 0 None = subst (λ (m : Record). Reported f l h r 0 m.vote) same ((cell.held).vote 0) in
      let promised : (record_of i c).promised ≡ l = ap (λ (m : Record). m.promised) same in
      let is = (cell.held).promised in
      let at : h.promised l ≤ l = (let j = ap h.promised leads in omega arith) in
      let y : Decree = record { command = x; attrs = own x } in
      let d = (own x).deps in
      let owner : owner_of l ≡ l = omega arith in
      let h1 = propose_at h l s x in
      let h2 = ask h1 l x in
      let h3 = see h2 r l d in
      let one : Advance f l r h h1 = subst (λ k. Advance f l k h h1) (sym leads) (propose_at_advance f l s x h at fresh.0 fresh.3) in
      let ok1 : HistoryOk f l h1 = history_next f l r h h1 one (propose_at_news f l s x h real) ok in
      let two : Advance f l r h1 h2 = ask_advance f l r l x h1 (owner ∙ sym leads) fresh.2 in
      let led : l ≤ h1.promised (owner_of l) = (let p = put_here h.promised l l (owner_of l) owner in omega arith) in
      let ok2 : HistoryOk f l h2 = history_next f l r h1 h2 two (ask_news f l l x h1 (record { unchosen = fresh.1; low = (omega arith); led = led; free = λ lt. absurd (omega arith); valid = inr refl })) ok1 in
      let asked : h2.asked l ≡ Some x = put_same h1.asked l (Some x) in
      let low2 : h2.promised r ≤ l = (let p = put_here h.promised l l r leads in omega arith) in
      let three : Advance f l r h2 h3 = see_advance f l r l d h2 low2 reported.cast.unseen in
      let ok3 : HistoryOk f l h3 = history_next f l r h2 h3 three (see_news f l r l d h2 x asked real) ok2 in
      let go : Advance f l r h h3 = advance_trans f l r h h2 h3 (advance_trans f l r h h1 h2 one two) three in
      let seen : Seen f l h3 r l d = record { part = d; is = note_here h2.seen r l d; inside = within_self d } in
      record {
        after = h3;
        advance = go;
        history = ok3;
        cell = record {
          held = record {
            promised = put_here h.promised l l r leads;
            order = (omega arith);
            vote = λ k. record {
              low = (omega arith);
              gap = λ n low high. later_unaccepted cell n (omega arith);
              blank = λ n low high. note_other h2.seen r l d r n (λ _ j. omega arith) ∙ later_unseen cell n (omega arith);
              cast = record {
                unaccepted = reported.cast.unaccepted;
                free = λ lt. absurd (omega arith);
                early = λ e n. absurd (n leads);
                proposed = λ e. refl;
                valid = inr refl;
                asked = asked;
                quiet = λ n. absurd (false≢true (sym real ∙ n));
                seen = λ n. seen;
              };
              unfast = λ j u. reported.unfast j refl;
            };
            leads = record { mine = owner ∙ sym leads; reached = (omega arith); low = (omega arith); unchosen = fresh.1; vote = λ e u. (y, refl); spared = λ e. refl; views = λ k a g. absurd (cc); each = λ e k a g. absurd (cc) };
          };
          fresh = λ e. absurd (cc);
        };
        out = sent_to_those _ (is_fast l s) (size f) (PreAccept i l y) (λ k lt e. record {
          apart = λ j. false≢true (sym (ap not (eq-eqb k l (sym j ∙ owner))) ∙ (and_parts _ _ e).0);
          low = (omega arith);
          free = λ lt. absurd (omega arith);
          valid = inr refl;
          asked = asked;
          quiet = λ n. absurd (false≢true (sym real ∙ n));
          origin = λ j. subst (λ n. Seen f l h3 n l d) leads seen;
          first = λ j. (refl, record { spared = s; named = refl; asked = e });
        });
        fresh_seen = note_fresh r own h2 l x asked;
        proposed_new = (λ z e. inr (let j : x ≡ z = cc in subst new j now));
      }

  pub keep_propose : (s : ℕ) (x : Command) → new x → is_noop x ≡ false → r ≡ leader_of i → c.entry ≡ None → KeptOk f i r own new h c (propose f i s x (own x))
  keep_propose s x now real leads none = keep_limited (own x) (first_phase (is_fast (leader_of i) s) f i (leader_of i) s (record { command = x; attrs = own x })) (keep_new s x now real leads none)

-- All messages.
module _ (f r : ℕ) (new : Command → Type 0) (two : 0 < f) (few : size f ≤ 256) (r_low : r < size f) (h : History) (s : State) where
  pub keep_handled : (from : ℕ) (m : Message) → leader_of (instance_of_message m) < size f → HistoryOk f (leader_of (instance_of_message m)) h → CellOk f (instance_of_message m) h r (cell_in s (instance_of_message m)) → MessageOk f (leader_of (instance_of_message m)) h from r m →
      KeptOk f (instance_of_message m) r (interference s.records (instance_of_message m)) new h (cell_in s (instance_of_message m)) (handled f r from s m)
  keep_handled from (PreAccept i b x) l_low ok cell p = keep_pre_accept (interference s.records i) new ok cell from b x p
  keep_handled from (PreAcceptOk i b a) l_low ok cell p = keep_pre_accept_ok few l_low r_low ok cell from b a p
  keep_handled from (Accept i b x) l_low ok cell p = keep_accept ok cell from b x p.0 p.1
  keep_handled from (AcceptOk i b) l_low ok cell p = keep_accept_ok few l_low r_low ok cell from b p
  keep_handled from (Commit i x) l_low ok cell p = keep_commit ok cell x p
  keep_handled from (Prepare i b) l_low ok cell p = keep_prepare ok cell from b
  keep_handled from (PrepareOk i b v) l_low ok cell p = keep_prepare_ok (interference s.records i) new two few l_low r_low ok cell from b v p
  keep_handled from (Nack i b p) l_low ok cell reported = keep_reported ok cell p
