-- Each handler keeps the invariant: how a leader goes from phase 1 to accept and commit.
use Rattle.std.proofs.Common.{◌≡◌, ℕ, ◌+◌, ◌<◌, ◌≤◌, true, false, ◌&&◌, ◌||◌, not, eqb, leb, inl, inr, Option, Some, None, is_some, List, refl, sym, ap, ap₂, subst, ◌∙◌, arith}
use Rattle.std.proofs.lemmas.Bool.{and_from, or_cases, and_parts, and_left, eqb-true, eq-eqb, leb-true, not-true, false≢true, cases_order}
use Rattle.ep_base.proofs.Same.{Decides-same_attrs}
use Rattle.ep_base.specs.Attributes.{same_attrs}
use Rattle.ep_base.specs.Ballots.{owner_of}
use Rattle.ep_base.specs.Instances.{leader_of}
use Rattle.ep_base.specs.Quorums.{size, is_fast}
use Rattle.ep_base.specs.Sameness.{is_noop}
use Rattle.ep_base.specs.declared.attrs.Attrs.{Attrs}
use Rattle.ep_base.specs.Commands.{Command}
use Rattle.ep_base.specs.declared.decree.Decree.{Decree}
use Rattle.ep_base.specs.declared.message.Message.TheVariants.{PreAcceptOk, Accept, Commit}
use Rattle.ep_base.specs.declared.vote.VoteStatus.TheVariants.{PreAccepted, Accepted}
use Rattle.ep_rules.specs.Answers.{Answers, answer, with_answer}
use Rattle.ep_rules.specs.Cells.{is_committed, Cell}
use Rattle.ep_rules.specs.Counting.{count, is_other}
use Rattle.ep_rules.specs.Phases.{accept_phase, with_attrs, is_usable, others, fast_answered, holds, all_equal, joined, slow_path, fast_path, count_pre_accept_ok, use_pre_accept_ok, on_pre_accept_ok, give_up, commit_own, count_accept_ok, use_accept_ok, on_accept_ok}
use Rattle.ep_rules.specs.declared.led_instance.LedInstance.{LedInstance}
use Rattle.ep_rules.specs.declared.led_instance.LedInstance.TheVariants.{Proposing, Accepting, Preparing}
use Rattle.ep_rules.specs.declared.record.Record.{Record}
use Rattle.ep_rules.proofs.Attributes.{within, within_trans, join_all_own, join_all_each}
use Rattle.ep_rules.proofs.Choices.{not_both}
use Rattle.ep_rules.proofs.Counting.{count_without, count_le, count_more, count_all, every_true}
use Rattle.ep_rules.proofs.Facts.{View, Seen, Backed, sees, History, Safe, Free, Decided, slowly, quickly, PreVote, AcceptVote, ProposingOk, AcceptingOk, LedOk, CellOk, MessageOk, HistoryOk, Advance}
use Rattle.ep_rules.proofs.Histories.{NewChoice, put_same, put_here, mark_here, mark_other, history_next, choose_at, choose_at_advance, choose_at_news, take_fast, take_fast_advance, take_fast_news}
use Rattle.ep_rules.proofs.Keeping.{record_of, split, sent_to_those, Kept, KeptOk, keep_nothing, keep_led, keep_commit_phase, commit_held, later_unseen, later_unaccepted, last_cast}
use Rattle.ep_rules.proofs.Lookups.{answer_back}
use Rattle.ep_rules.proofs.Stable.{holds_some, some_of, seen_kept, backed_kept, quiet_kept, free_kept}

abbrev pub Usable : ℕ → Record → ℕ → Type 0
Usable b x led = (led ≡ b) × (x.promised ≡ b) × (is_committed x.vote ≡ false)

pub usable : (b : ℕ) (x : Record) (led : ℕ) → is_usable b x led ≡ true → Usable b x led
usable b x led e =
    let t = and_parts (eqb led b) (eqb x.promised b && not (is_committed x.vote)) e in
    let u = and_parts (eqb x.promised b) (not (is_committed x.vote)) t.1 in
    (eqb-true _ _ t.0, eqb-true _ _ u.0, not-true _ u.1)

abbrev Views : (f l : ℕ) → History → ℕ → Answers Attrs → Type 0
Views f l h b answers = (k : ℕ) (a : Attrs) → answer answers k ≡ Some a → View f l h k b a

pub choice_led : (h : History) (r b : ℕ) (x : Decree) → owner_of b ≡ r → b ≤ (choose_at h r b x).promised (owner_of b)
choice_led h r b x owns = let p = put_here h.promised r b (owner_of b) owns in omega arith

safe_of_free : (f l : ℕ) (h : History) (b : ℕ) (x : Decree) → Free f l h b → Safe f l h b x
safe_of_free f l h b x free = record { below = λ c low lt can. absurd (free.below c low lt can); quick = λ y can. absurd (free.quick y can) }

-- What a leader knows.
module _ {f i r : ℕ} (few : size f ≤ 256) (r_low : r < size f) {h : History} {c : Cell} (cell : CellOk f i h r c) where
  pub choice_advance : (b : ℕ) (x : Decree) → (record_of i c).promised ≡ b → owner_of b ≡ r → h.chosen b ≡ None → Advance f (leader_of i) r h (choose_at h r b x)
  choice_advance b x at owns unchosen = let is = (cell.held).promised in choose_at_advance f (leader_of i) r b x h (omega arith) owns unchosen

  -- out of phase 1 any decree is safe
  phase_safe : (b : ℕ) (x : Decree) → leader_of i < size f → (record_of i c).promised ≡ b → is_committed (record_of i c).vote ≡ false → owner_of b ≡ r → h.chosen b ≡ None → leader_of i ≤ b → (leader_of i < b → Free f (leader_of i) h b) → Safe f (leader_of i) (choose_at h r b x) b x
  phase_safe b x small at live owns unchosen low free =
      elim (cases_order (leader_of i) b) [
        | inl first ↦ record {
          below = λ c from lt can. absurd (omega arith);
          quick = λ y can. absurd (elim can.leader [
            | inl e ↦ (
                let leads : r ≡ leader_of i = (let o = ap owner_of first in omega arith) in
                not_both e (((cell.held).vote 0).unfast leads live))
            | inr t ↦ not_both (put_here h.chosen b (Some x) (leader_of i) first) t.0
          ]);
        }
        | inr (inl late) ↦ safe_of_free f (leader_of i) (choose_at h r b x) b x (free_kept f (leader_of i) r h (choose_at h r b x) (choice_advance b x at owns unchosen) b (free late))
        | inr (inr under) ↦ absurd (omega arith)
      ]

  sees_here : (deps : List ℕ) (k b : ℕ) → Seen f (leader_of i) h k b deps → sees f (leader_of i) h b deps k ≡ true
  sees_here deps k b s = subst (λ o. holds (within deps) o ≡ true) (sym s.is) s.inside

  -- the leader's vote for y and f others back what is joined of their answers
  other_sees : (b : ℕ) (answers : Answers Attrs) (y : Decree) → Views f (leader_of i) h b answers → PreVote f (leader_of i) h r b y → is_noop y.command ≡ false → (k : ℕ) → k < size f → (is_other r k && is_some (answer answers k)) ≡ true →
      sees f (leader_of i) h b (joined f answers y).attrs.deps k ≡ true
  other_sees b answers y views cast real k lt e =
      let p = and_parts (is_other r k) (is_some (answer answers k)) e in
      let t = some_of (answer answers k) p.1 in
      let v = views k t.0 t.1 in
      let j : Some v.command ≡ Some y.command = sym v.asked ∙ cast.asked in
      let same : v.command ≡ y.command = cc in
      let s = v.seen (subst (λ n. is_noop n ≡ false) (sym same) real) in
      let deps = (joined f answers y).attrs.deps in
      sees_here deps k b (record { part = s.part; is = s.is; inside = within_trans deps (t.0).deps s.part (join_all_each (size f) answers y.attrs k t.0 lt t.1) s.inside })

  slow_backed : (b : ℕ) (answers : Answers Attrs) (y : Decree) → Views f (leader_of i) h b answers → PreVote f (leader_of i) h r b y → leader_of i ≤ b → is_noop y.command ≡ false → f ≤ others f r answers → Backed f (leader_of i) h (joined f answers y)
  slow_backed b answers y views cast low real many =
      let deps = (joined f answers y).attrs.deps in
      let s = cast.seen real in
      let le : count (size f) (λ k. is_other r k && is_some (answer answers k)) + 1 ≤ count (size f) (sees f (leader_of i) h b deps) = count_more (size f) r (λ k. is_other r k && is_some (answer answers k)) (sees f (leader_of i) h b deps) r_low
      (and_left _ _ (ap not (eq-eqb r r refl)))
      (sees_here deps r b (record { part = s.part; is = s.is; inside = within_trans deps y.attrs.deps s.part (join_all_own (size f) answers y.attrs) s.inside }))
      (other_sees b answers y views cast real) in
      record { ballot = b; from_default = low; many = (omega arith) }

-- The fast quorum.

fast_some : (l s k : ℕ) (answers : Answers Attrs) → is_fast l s k ≡ true → (not (is_fast l s k) || is_some (answer answers k)) ≡ true → is_some (answer answers k) ≡ true
fast_some l s k answers m e = elim (or_cases _ _ e) [ inl n ↦ absurd (false≢true (sym (ap not m) ∙ n)) | inr t ↦ t ]

-- each member answered, with these attributes
fast_holds : (f l s k : ℕ) (answers : Answers Attrs) (a : Attrs) → k < size f → is_fast l s k ≡ true → fast_answered f l s answers ≡ true → all_equal f a answers ≡ true → (d : Attrs) × (answer answers k ≡ Some d) × (a ≡ d)
fast_holds f l s k answers a lt m all equal =
    let some = fast_some l s k answers m (every_true (size f) (λ q. not (is_fast l s q) || is_some (answer answers q)) all k lt) in
    elim (or_cases _ _ (every_true (size f) (λ q. not (is_some (answer answers q)) || holds (same_attrs a) (answer answers q)) equal k lt)) [
      | inl n ↦ absurd (false≢true (sym (ap not some) ∙ n))
      | inr t ↦ (let u = holds_some (same_attrs a) (answer answers k) t in (u.0, u.1, (Decides-same_attrs a u.0).0 u.2))
    ]

-- it has f others than the leader
fast_many : (f l s r : ℕ) (answers : Answers Attrs) → r ≡ l → fast_answered f l s answers ≡ true → f ≤ others f r answers
fast_many f l s r answers leads all =
    let every = count_all (size f) in
    let one = count_without (size f) (λ k. true) s in
    let other = count_without (size f) (λ k. not (eqb k s)) l in
    let le : count (size f) (λ k. not (eqb k s) && not (eqb k l)) ≤ count (size f) (λ k. is_other r k && is_some (answer answers k)) = count_le (size f) _ _ (λ k lt e.
    let t = and_parts _ _ e in
    let m : is_fast l s k ≡ true = and_from _ _ t.1 t.0 in
    and_from _ _ (ap (λ n. not (eqb k n)) leads ∙ t.1) (fast_some l s k answers m (every_true (size f) (λ q. not (is_fast l s q) || is_some (answer answers q)) all k lt))) in
    omega arith

module _ {f i r : ℕ} {own : Command → Attrs} {new : Command → Type 0} (few : size f ≤ 256) (l_low : leader_of i < size f) (r_low : r < size f) {h : History} (ok : HistoryOk f (leader_of i) h) {c : Cell} (cell : CellOk f i h r c) where
  -- the accept phase of a ballot of r's
  pub keep_accept_phase : (b : ℕ) (x : Decree) → (record_of i c).promised ≡ b → is_committed (record_of i c).vote ≡ false → owner_of b ≡ r → h.chosen b ≡ None → NewChoice f (leader_of i) (choose_at h r b x) b x → Kept f i r own new h c (accept_phase f i r b x)
  keep_accept_phase b x at live owns unchosen news =
      let is = (cell.held).promised in
      let order = (cell.held).order in
      let go : Advance f (leader_of i) r h (choose_at h r b x) = choose_at_advance f (leader_of i) r b x h (omega arith) owns unchosen in
      record {
        after = choose_at h r b x;
        advance = go;
        history = history_next f (leader_of i) r h (choose_at h r b x) go (choose_at_news f (leader_of i) r b x h news) ok;
        cell = record {
          held = record {
            promised = put_same h.promised r b;
            order = (omega arith);
            vote = λ k. record {
              low = news.low;
              gap = λ n low high. mark_other h.accepted r b r n (λ _ j. omega arith) ∙ later_unaccepted cell n (omega arith);
              blank = λ n low high. later_unseen cell n (omega arith);
              cast = record { chosen = put_same h.chosen b (Some x); accepted = mark_here h.accepted r b };
              unfast = λ j u. ((cell.held).vote 0).unfast j live;
            };
            leads = record { mine = owns; reached = (omega arith); vote = λ e u. (x, refl); each = λ k u e. absurd (cc) };
          };
          fresh = λ e. absurd (cc);
        };
        out = sent_to_those _ (is_other r) (size f) (Accept i b x) (λ k lt e. (put_same h.chosen b (Some x), λ j. false≢true (sym (ap not (eq-eqb k r (sym j ∙ owns))) ∙ e)));
        fresh_seen = (λ k b d e. inl e);
        proposed_new = (λ x e. inl e);
      }

  -- the slow path
  keep_slow : (b sp : ℕ) (old answers : Answers Attrs) → ProposingOk f (leader_of i) h r (record_of i c) b sp old → (record_of i c).promised ≡ b → is_committed (record_of i c).vote ≡ false → Views f (leader_of i) h b answers → f ≤ others f r answers →
      Kept f i r own new h c (slow_path f i r b answers (record_of i c).vote)
  keep_slow b sp old answers p at live views many =
      let s = p.vote at live in
      let y = s.0 in
      let cast : PreVote f (leader_of i) h r b y = last_cast cell PreAccepted b y s.1 in
      let x = joined f answers y in
      let go = choice_advance few r_low cell b x at p.mine p.unchosen in
      subst (λ v. Kept f i r own new h c (slow_path f i r b answers v)) (sym s.1)
      (keep_accept_phase b x at live p.mine p.unchosen (record {
        safe = phase_safe few r_low cell b x l_low at live p.mine p.unchosen p.low cast.free;
        led = choice_led h r b x p.mine;
        low = p.low;
        valid = cast.valid;
        backed = λ real. backed_kept f (leader_of i) r h (choose_at h r b x) go x (slow_backed few r_low cell b answers y views cast p.low real many);
        hushed = λ noop. quiet_kept f (leader_of i) r h (choose_at h r b x) go b (cast.quiet noop);
        agreed = λ d e. (let j : Some y.command ≡ Some d = sym cast.asked ∙ e in cc);
      }))

  -- the fast path
  keep_fast : (b sp : ℕ) (old answers : Answers Attrs) (a : Attrs) → b ≡ leader_of i → ProposingOk f (leader_of i) h r (record_of i c) b sp old → (record_of i c).promised ≡ b → is_committed (record_of i c).vote ≡ false →
      ((k : ℕ) (d : Attrs) → answer answers k ≡ Some d → (e : Command) × (h.early k ≡ Some (record { command = e; attrs = d }))) →
      Seen f (leader_of i) h (leader_of i) (leader_of i) a.deps → fast_answered f (leader_of i) sp answers ≡ true → all_equal f a answers ≡ true → Kept f i r own new h c (fast_path f i r a (record_of i c) (record_of i c).vote)
  keep_fast b sp old answers a first p at live each origin all equal =
      let l = leader_of i in
      let is = (cell.held).promised in
      let s = p.vote at live in
      let y = s.0 in
      let x : Decree = with_attrs y a in
      let cast : PreVote f l h r b y = last_cast cell PreAccepted b y s.1 in
      let leads : l ≡ r = (let o = ap owner_of first in let m = p.mine in omega arith) in
      let promised_l : h.promised l ≤ l = (let j = ap h.promised leads in omega arith) in
      let unchosen : h.chosen l ≡ None = ap h.chosen (sym first) ∙ p.unchosen in
      let proposed : h.proposed ≡ Some y.command = cast.proposed first in
      let early : (k : ℕ) → k < size f → is_fast l sp k ≡ true → h.early k ≡ Some x = (λ k lt m.
      let w = fast_holds f l sp k answers a lt m all equal in
      let e = each k w.0 w.1 in
      let asked = ok.early_proposed k _ e.1 in
      let cmd : e.0 ≡ y.command = (let j : Some e.0 ≡ Some y.command = sym asked ∙ proposed in cc) in
      e.1 ∙ ap₂ (λ u d. let v : Decree = record { command = u; attrs = d } in Some v) cmd (sym w.2)) in
      let go : Advance f l r h (take_fast h x) = subst (λ k. Advance f l k h (take_fast h x)) leads (take_fast_advance f l x h promised_l unchosen (((cell.held).vote 0).unfast (sym leads) live)) in
      let decided : Decided f l (take_fast h x) x = quickly refl in
      subst (λ v. Kept f i r own new h c (fast_path f i r a (record_of i c) v)) (sym s.1)
      (record {
        after = take_fast h x;
        advance = go;
        history = history_next f l r h (take_fast h x) go (take_fast_news f l x h (record { early = record { spared = sp; named = p.spared first; each = early }; proposed = proposed; origin = seen_kept f l r h (take_fast h x) go l l a.deps origin })) ok;
        cell = record { held = commit_held cell (take_fast h x) x refl (λ _. refl) (λ _. refl) decided; fresh = λ e. absurd (cc) };
        out = sent_to_those _ (is_other r) (size f) (Commit i x) (λ k lt e. decided);
        fresh_seen = (λ k b d e. inl e);
        proposed_new = (λ x e. inl e);
      })

  -- Answers to PreAccept.

  keep_count_pre_accept_ok : (from b sp : ℕ) (a : Attrs) (answers : Answers Attrs) → ProposingOk f (leader_of i) h r (record_of i c) b sp answers → (record_of i c).promised ≡ b → is_committed (record_of i c).vote ≡ false →
      MessageOk f (leader_of i) h from r (PreAcceptOk i b a) → Kept f i r own new h c (count_pre_accept_ok f i r b sp a (with_answer answers from a) (record_of i c))
  keep_count_pre_accept_ok from b sp a answers p at live reported =
      let l = leader_of i in
      let all = with_answer answers from a in
      let more : b ≡ l → (k : ℕ) (d : Attrs) → answer all k ≡ Some d → (e : Command) × (h.early k ≡ Some (record { command = e; attrs = d })) = (λ first k d e.
      elim (answer_back answers from a k d e) [
        | inl o ↦ p.each first k d o
        | inr t ↦ subst (λ w. (u : Command) × (h.early k ≡ Some (record { command = u; attrs = w }))) t.1 (subst (λ j. (u : Command) × (h.early j ≡ Some (record { command = u; attrs = a }))) (sym t.0) (reported.0 first))
      ]) in
      let views : Views f l h b all = (λ k d e.
      elim (answer_back answers from a k d e) [ inl o ↦ p.views k d o | inr t ↦ subst (λ w. View f l h k b w) t.1 (subst (λ j. View f l h j b a) (sym t.0) reported.1) ]) in
      let stay = keep_led ok cell (Proposing b sp all) (record { mine = p.mine; reached = p.reached; low = p.low; unchosen = p.unchosen; vote = p.vote; spared = p.spared; views = views; each = more }) in
      split (Kept f i r own new h c) (eqb b l) _ _
      (λ first.
      let j = eqb-true b l first in
      let leads : r ≡ l = (let o = ap owner_of j in let m = p.mine in omega arith) in
      split (Kept f i r own new h c) (fast_answered f l sp all) _ _
      (λ came. split (Kept f i r own new h c) (all_equal f a all) _ _
      (λ equal. keep_fast b sp answers all a j p at live (more j) (ok.early_origin from _ (reported.0 j).1) came equal)
      (λ e. keep_slow b sp answers all p at live views (fast_many f l sp r all leads came)))
      (λ e. stay))
      (λ e. split (Kept f i r own new h c) (leb f (others f r all)) _ _ (λ m. keep_slow b sp answers all p at live views (leb-true _ _ m)) (λ e. stay))

  keep_led_pre_accept_ok : (from b : ℕ) (a : Attrs) (led : Option LedInstance) → LedOk f (leader_of i) h r (record_of i c) led → MessageOk f (leader_of i) h from r (PreAcceptOk i b a) → Kept f i r own new h c (on_pre_accept_ok f i r from b a (record_of i c) led)
  keep_led_pre_accept_ok from b a None p reported = keep_nothing ok cell
  keep_led_pre_accept_ok from b a (Some (Accepting lb answers)) p reported = keep_nothing ok cell
  keep_led_pre_accept_ok from b a (Some (Preparing lb answers)) p reported = keep_nothing ok cell
  keep_led_pre_accept_ok from b a (Some (Proposing lb sp answers)) p reported =
      split (λ more. Kept f i r own new h c (use_pre_accept_ok f i r b a (record_of i c) more)) (is_some (answer answers from)) _ _
      (λ e. keep_nothing ok cell)
      (λ e. split (Kept f i r own new h c) (is_usable b (record_of i c) lb) _ _
      (λ e. let u = usable b (record_of i c) lb e in keep_count_pre_accept_ok from b sp a answers (subst (λ n. ProposingOk f (leader_of i) h r (record_of i c) n sp answers) u.0 p) u.1 u.2 reported)
      (λ e. keep_nothing ok cell))

  pub keep_pre_accept_ok : (from b : ℕ) (a : Attrs) → MessageOk f (leader_of i) h from r (PreAcceptOk i b a) → Kept f i r own new h c (on_pre_accept_ok f i r from b a (record_of i c) c.led)
  keep_pre_accept_ok from b a reported = keep_led_pre_accept_ok from b a c.led (cell.held).leads reported

  -- Answers to Accept.

  keep_count_accept_ok : (from b : ℕ) (answers : Answers (Unit {0})) → AcceptingOk f (leader_of i) h r (record_of i c) b answers → (record_of i c).promised ≡ b → is_committed (record_of i c).vote ≡ false → h.accepted from b ≡ true →
      Kept f i r own new h c (count_accept_ok f i r b (with_answer answers from tt) (record_of i c))
  keep_count_accept_ok from b answers p at live reported =
      let all = with_answer answers from tt in
      let more : (k : ℕ) (w : Unit {0}) → answer all k ≡ Some w → h.accepted k b ≡ true = (λ k w g.
      elim (answer_back answers from tt k w g) [ inl o ↦ p.each k w o | inr t ↦ ap (λ j. h.accepted j b) t.0 ∙ reported ]) in
      let s = p.vote at live in
      let y = s.0 in
      let cast : AcceptVote f (leader_of i) h r b y = last_cast cell Accepted b y s.1 in
      split (Kept f i r own new h c) (leb f (others f r all)) _ _
      (λ m.
      let many = leb-true _ _ m in
      let le : count (size f) (λ k. is_other r k && is_some (answer all k)) + 1 ≤ count (size f) (λ k. h.accepted k b) = count_more (size f) r (λ k. is_other r k && is_some (answer all k)) (λ k. h.accepted k b) r_low
      (and_left _ _ (ap not (eq-eqb r r refl))) cast.accepted
      (λ k lt g. let q = and_parts (is_other r k) (is_some (answer all k)) g in let t = some_of (answer all k) q.1 in more k t.0 t.1) in
      subst (λ v. Kept f i r own new h c (commit_own f i r (record_of i c) v)) (sym s.1) (keep_commit_phase ok cell y (slowly b cast.chosen (omega arith))))
      (λ m. keep_led ok cell (Accepting b all) (record { mine = p.mine; reached = p.reached; vote = p.vote; each = more }))

  keep_led_accept_ok : (from b : ℕ) (led : Option LedInstance) → LedOk f (leader_of i) h r (record_of i c) led → h.accepted from b ≡ true → Kept f i r own new h c (on_accept_ok f i r from b (record_of i c) led)
  keep_led_accept_ok from b None p reported = keep_nothing ok cell
  keep_led_accept_ok from b (Some (Proposing lb sp answers)) p reported = keep_nothing ok cell
  keep_led_accept_ok from b (Some (Preparing lb answers)) p reported = keep_nothing ok cell
  keep_led_accept_ok from b (Some (Accepting lb answers)) p reported =
      split (λ more. Kept f i r own new h c (use_accept_ok f i r b (record_of i c) more)) (is_some (answer answers from)) _ _
      (λ e. keep_nothing ok cell)
      (λ e. split (Kept f i r own new h c) (is_usable b (record_of i c) lb) _ _
      (λ e. let u = usable b (record_of i c) lb e in keep_count_accept_ok from b answers (subst (λ n. AcceptingOk f (leader_of i) h r (record_of i c) n answers) u.0 p) u.1 u.2 reported)
      (λ e. keep_nothing ok cell))

  pub keep_accept_ok : (from b : ℕ) → h.accepted from b ≡ true → Kept f i r own new h c (on_accept_ok f i r from b (record_of i c) c.led)
  keep_accept_ok from b reported = keep_led_accept_ok from b c.led (cell.held).leads reported

-- Giving up.
module _ {f i r : ℕ} (own : Command → Attrs) (new : Command → Type 0) (few : size f ≤ 256) (l_low : leader_of i < size f) (r_low : r < size f) {h : History} (ok : HistoryOk f (leader_of i) h) {c : Cell} (cell : CellOk f i h r c) where
  keep_led_give_up : (led : Option LedInstance) → LedOk f (leader_of i) h r (record_of i c) led → KeptOk f i r own new h c (give_up f i r (record_of i c) led)
  keep_led_give_up None p = tt
  keep_led_give_up (Some (Accepting b answers)) p = tt
  keep_led_give_up (Some (Preparing b answers)) p = tt
  keep_led_give_up (Some (Proposing b sp answers)) p =
      split (KeptOk f i r own new h c) (is_usable (leader_of i) (record_of i c) b) _ _
      (λ e. split (KeptOk f i r own new h c) (leb f (others f r answers)) _ _
      (λ m. let u = usable (leader_of i) (record_of i c) b e in keep_slow few l_low r_low ok cell b sp answers answers p (u.1 ∙ sym u.0) u.2 p.views (leb-true _ _ m))
      (λ m. tt))
      (λ e. tt)

  pub keep_give_up : KeptOk f i r own new h c (give_up f i r (record_of i c) c.led)
  keep_give_up = keep_led_give_up c.led (cell.held).leads
