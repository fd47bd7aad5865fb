-- What lasts from step to step.
use Rattle.std.proofs.Common.{List, is_some, Bool, subst, ◌≡◌, ℕ, ◌<◌, ◌≤◌, true, false, ◌≢◌, ◌⊎◌, inl, inr, Option, Some, None, refl, sym, ap, ◌∙◌, arith}
use Rattle.std.proofs.lemmas.Bool.{or_cases, or_left, or_right, leb-true, le-leb, false_from_ne_true, false≢true}
use Rattle.ep_base.specs.Ballots.{owner_of}
use Rattle.ep_base.specs.Instances.{leader_of}
use Rattle.ep_base.specs.Quorums.{size}
use Rattle.ep_base.specs.declared.attrs.Attrs.{Attrs}
use Rattle.ep_base.specs.Commands.{Command}
use Rattle.ep_base.specs.declared.decree.Decree.{Decree}
use Rattle.ep_base.specs.declared.message.Message.{Message}
use Rattle.ep_base.specs.declared.message.Message.TheVariants.{PreAccept, PreAcceptOk, Accept, AcceptOk, Commit, Prepare, PrepareOk, Nack}
use Rattle.ep_base.specs.declared.vote.VoteStatus.{VoteStatus}
use Rattle.ep_base.specs.declared.vote.VoteStatus.TheVariants.{PreAccepted, Accepted, Committed}
use Rattle.ep_base.specs.declared.vote.Vote.{Vote}
use Rattle.ep_rules.specs.Cells.{record_or_fresh, Cell}
use Rattle.ep_rules.specs.Phases.{holds}
use Rattle.ep_rules.specs.declared.led_instance.LedInstance.{LedInstance}
use Rattle.ep_rules.specs.declared.led_instance.LedInstance.TheVariants.{Proposing, Accepting, Preparing}
use Rattle.ep_rules.specs.declared.record.Record.{Record}
use Rattle.ep_rules.proofs.Attributes.{within}
use Rattle.ep_rules.proofs.Counting.{count_le}
use Rattle.ep_rules.proofs.Facts.{Quiet, View, Seen, Backed, sees, can_see, CanSee, History, can_accept, CanChoose, Member, AllEarly, CanBeFast, Safe, Free, Decided, slowly, quickly, IsValid, IsCast, IsLast, ballot_at, Reported, PromisedReport, LedOk, HeldOk, CellOk, MessageOk, Advance}

pub holds_some : {X : Type 0} (p : X → Bool) (o : Option X) → holds p o ≡ true → (x : X) × (o ≡ Some x) × (p x ≡ true)
holds_some p None e = absurd (cc)
holds_some p (Some x) e = (x, refl, e)

pub some_of : {X : Type 0} (o : Option X) → is_some o ≡ true → (x : X) × (o ≡ Some x)
some_of None e = absurd (cc)
some_of (Some x) e = (x, refl)

-- nothing that was an answer before can become none
pub none_before : {X : Type 0} (o o' : Option X) → ((x : X) → o ≡ Some x → o' ≡ Some x) → o' ≡ None → o ≡ None
none_before None o' keep e = refl
none_before (Some x) o' keep e = absurd (let s = keep x refl in cc)

pub none_after : {X : Type 0} (o o' : Option X) → ((x : X) → o' ≡ Some x → o ≡ Some x) → o ≡ None → o' ≡ None
none_after o None back e = refl
none_after o (Some x) back e = absurd (let s = back x refl in cc)

-- an answer was so before, or there was none
pub some_before : {X : Type 0} (o o' : Option X) (y : X) → ((x : X) → o ≡ Some x → o' ≡ Some x) → o' ≡ Some y → (o ≡ Some y) ⊎ (o ≡ None)
some_before None o' y keep e = inr refl
some_before (Some x) o' y keep e = inl (sym (keep x refl) ∙ e)

module _ (f l r : ℕ) (h h' : History) (go : Advance f l r h h') where
  pub member_kept : (k : ℕ) → Member f l h k → Member f l h' k
  member_kept k m = record { spared = m.spared; named = go.spared_kept m.spared m.named; asked = m.asked }

  pub all_early_kept : (y : Decree) → AllEarly f l h y → AllEarly f l h' y
  all_early_kept y a = record { spared = a.spared; named = go.spared_kept a.spared a.named; each = λ k lt m. go.early_kept k y (a.each k lt m) }

  spared_before : (s : ℕ) → ((h'.spared ≡ Some s) ⊎ (h'.spared ≡ None)) → (h.spared ≡ Some s) ⊎ (h.spared ≡ None)
  spared_before s (inl e) = some_before h.spared h'.spared s go.spared_kept e
  spared_before s (inr n) = inr (none_before h.spared h'.spared go.spared_kept n)

  can_accept_before : (b k : ℕ) → can_accept f l h' b k ≡ true → can_accept f l h b k ≡ true
  can_accept_before b k e =
      elim (or_cases _ _ e) [
        | inl a ↦ elim (go.accepted_new k b a) [ inl a ↦ or_left _ _ a | inr p ↦ or_right _ _ (le-leb _ _ p) ]
        | inr p ↦ or_right _ _ (le-leb (h.promised k) b (let q = leb-true _ _ p in let up = go.promised_up k in omega arith))
      ]

  pub can_choose_before : (b : ℕ) → CanChoose f l h' b → CanChoose f l h b
  can_choose_before b c = let le = count_le (size f) (can_accept f l h' b) (can_accept f l h b) (λ k _ e. can_accept_before b k e) in omega arith

  leader_before : (y : Decree) → ((h'.fast ≡ Some y) ⊎ ((h'.chosen l ≡ None) × (h'.promised l ≤ l))) → (h.fast ≡ Some y) ⊎ ((h.chosen l ≡ None) × (h.promised l ≤ l))
  leader_before y (inl e) = go.fast_new y e
  leader_before y (inr t) = inr (none_before _ _ (go.chosen_kept l) t.0, let up = go.promised_up l in omega (arith, t.1))

  pub can_be_fast_before : (y : Decree) → CanBeFast f l h' y → CanBeFast f l h y
  can_be_fast_before y c = record {
    leader = leader_before y c.leader;
    spared = c.spared;
    named = spared_before c.spared c.named;
    members = λ k b m. elim (c.members k b m) [
      | inl e ↦ go.early_new k y e
      | inr p ↦ inr (let up = go.promised_up k in omega arith)
    ];
  }

  pub safe_kept : (b : ℕ) (x : Decree) → Safe f l h b x → Safe f l h' b x
  safe_kept b x s = record {
    below = λ c low lt can. go.chosen_kept c x (s.below c low lt (can_choose_before c can));
    quick = λ y can. s.quick y (can_be_fast_before y can);
  }

  pub free_kept : (b : ℕ) → Free f l h b → Free f l h' b
  free_kept b s = record {
    below = λ c low lt can. s.below c low lt (can_choose_before c can);
    quick = λ y can. s.quick y (can_be_fast_before y can);
  }

  pub decided_kept : (x : Decree) → Decided f l h x → Decided f l h' x
  decided_kept x (slowly b e m) = slowly b (go.chosen_kept b x e) (let le = count_le (size f) (λ k. h.accepted k b) (λ k. h'.accepted k b) (λ k _ a. go.accepted_kept k b a) in omega arith)
  decided_kept x (quickly e) = quickly (go.fast_kept x e)

  pub valid_kept : (c : Command) → IsValid f l h c → IsValid f l h' c
  valid_kept c (inl e) = inl e
  valid_kept c (inr e) = inr (go.proposed_kept c e)

  can_see_before : (b k : ℕ) → can_see f l h' b k ≡ true → can_see f l h b k ≡ true
  can_see_before b k e =
      elim (or_cases _ _ e) [
        | inl a ↦ (let s = some_of (h'.seen k b) a in elim (go.seen_new k b s.0 s.1) [ inl o ↦ or_left _ _ (ap is_some o) | inr p ↦ or_right _ _ (le-leb _ _ p) ])
        | inr p ↦ or_right _ _ (le-leb (h.promised k) b (let q = leb-true _ _ p in let up = go.promised_up k in omega arith))
      ]

  -- where f+1 can't see at b any more
  pub can_see_later : (b : ℕ) → (CanSee f l h b → ⊥) → CanSee f l h' b → ⊥
  can_see_later b n can = n (let le = count_le (size f) (can_see f l h' b) (can_see f l h b) (λ k _ e. can_see_before b k e) in omega arith)

  pub quiet_kept : (b : ℕ) → Quiet f l h b → Quiet f l h' b
  quiet_kept b q = record {
    below = λ c low lt can. q.below c low lt (let le = count_le (size f) (can_see f l h' c) (can_see f l h c) (λ k _ e. can_see_before c k e) in omega arith);
  }

  pub seen_kept : (k b : ℕ) (d : List ℕ) → Seen f l h k b d → Seen f l h' k b d
  seen_kept k b d s = record { part = s.part; is = go.seen_kept k b s.part s.is; inside = s.inside }

  sees_kept : (b : ℕ) (d : List ℕ) (k : ℕ) → sees f l h b d k ≡ true → sees f l h' b d k ≡ true
  sees_kept b d k e = let s = holds_some (within d) (h.seen k b) e in subst (λ o. holds (within d) o ≡ true) (sym (go.seen_kept k b s.0 s.1)) s.2

  pub backed_kept : (x : Decree) → Backed f l h x → Backed f l h' x
  backed_kept x s = record {
    ballot = s.ballot;
    from_default = s.from_default;
    many = (let le = count_le (size f) (sees f l h s.ballot x.attrs.deps) (sees f l h' s.ballot x.attrs.deps) (λ k _ e. sees_kept s.ballot x.attrs.deps k e) in let m = s.many in omega arith);
  }

  pub view_kept : (k b : ℕ) (a : Attrs) → View f l h k b a → View f l h' k b a
  view_kept k b a v = record { command = v.command; asked = go.asked_kept b v.command v.asked; seen = λ n. seen_kept k b a.deps (v.seen n) }

  -- a vote that's no longer open: what it says that isn't there stays away
  pub cast_kept : (k : ℕ) (s : VoteStatus) (b : ℕ) (x : Decree) → (h.accepted k b ≡ false → h'.accepted k b ≡ false) → (h.early k ≡ None → h'.early k ≡ None) → (h.seen k b ≡ None → h'.seen k b ≡ None) → IsCast f l h k s b x → IsCast f l h' k s b x
  cast_kept k PreAccepted b x closed unvoted hidden v = record {
    unaccepted = closed v.unaccepted;
    free = λ lt. free_kept b (v.free lt);
    early = λ e n. go.early_kept k x (v.early e n);
    proposed = λ e. go.proposed_kept _ (v.proposed e);
    valid = valid_kept _ v.valid;
    asked = go.asked_kept b _ v.asked;
    quiet = λ n. quiet_kept b (v.quiet n);
    seen = λ n. seen_kept k b _ (v.seen n);
  }
  cast_kept k Accepted b x closed unvoted hidden v = record { chosen = go.chosen_kept b x v.chosen; accepted = go.accepted_kept k b v.accepted }
  cast_kept k Committed b x closed unvoted hidden v = decided_kept x v

  last_kept : (k : ℕ) (v : Option Vote) → (h.accepted k (ballot_at f l v) ≡ false → h'.accepted k (ballot_at f l v) ≡ false) → (h.early k ≡ None → h'.early k ≡ None) → (h.seen k (ballot_at f l v) ≡ None → h'.seen k (ballot_at f l v) ≡ None) → IsLast f l h k v → IsLast f l h' k v
  last_kept k None closed unvoted hidden n = record { unaccepted = closed n.unaccepted; unvoted = unvoted n.unvoted; unseen = hidden n.unseen }
  last_kept k (Some v) closed unvoted hidden p = cast_kept k v.status v.ballot v.decree closed unvoted hidden p

  pub reported_kept : (k b : ℕ) (v : Option Vote) → ballot_at f l v < b → ((c : ℕ) → c < b → h.accepted k c ≡ false → h'.accepted k c ≡ false) → (h.early k ≡ None → h'.early k ≡ None) → (k ≡ l → h.fast ≡ None → h'.fast ≡ None) → ((c : ℕ) → c < b → h.seen k c ≡ None → h'.seen k c ≡ None) → Reported f l h k b v → Reported f l h' k b v
  reported_kept k b v lt closed unvoted unfast hidden t = record {
    low = t.low;
    gap = λ c low high. closed c high (t.gap c low high);
    blank = λ c low high. hidden c high (t.blank c low high);
    cast = last_kept k v (closed (ballot_at f l v) lt) unvoted (hidden (ballot_at f l v) lt) t.cast;
    unfast = λ e u. unfast e (t.unfast e u);
  }

  closed_at : (k c : ℕ) → c < h.promised k → h.accepted k c ≡ false → h'.accepted k c ≡ false
  closed_at k c lt e = false_from_ne_true _ (λ t. elim (go.accepted_new k c t) [ inl a ↦ absurd (false≢true (sym e ∙ a)) | inr p ↦ absurd (omega arith) ])

  hidden_at : (k c : ℕ) → c < h.promised k → h.seen k c ≡ None → h'.seen k c ≡ None
  hidden_at k c lt e = none_after _ _ (λ d t. elim (go.seen_new k c d t) [ inl a ↦ a | inr p ↦ absurd (omega arith) ]) e

  unvoted_past : (k : ℕ) → l < h.promised k → h.early k ≡ None → h'.early k ≡ None
  unvoted_past k lt e = none_after _ _ (λ x t. elim (go.early_new k x t) [ inl a ↦ a | inr p ↦ absurd (omega arith) ]) e

  unfast_past : (k : ℕ) → l < h.promised k → k ≡ l → h.fast ≡ None → h'.fast ≡ None
  unfast_past k lt is e = none_after _ _ (λ x t. elim (go.fast_new x t) [ inl a ↦ a | inr p ↦ absurd (let q = p.1 in let at = ap h.promised is in omega arith) ]) e

  pub promised_report_kept : (k b : ℕ) (v : Option Vote) → PromisedReport f l h k b v → PromisedReport f l h' k b v
  promised_report_kept k b v t =
      let past : l < h.promised k = (let low = t.reported.low in omega arith) in
      record {
        promised = (let up = go.promised_up k in omega arith);
        before = t.before;
        reported = reported_kept k b v t.before (λ c lt e. closed_at k c (omega arith) e) (unvoted_past k past) (unfast_past k past) (λ c lt e. hidden_at k c (omega arith) e) t.reported;
      }

  -- a replica whose part of the history is as it was
  pub reported_same : (k b : ℕ) (v : Option Vote) → ((c : ℕ) → h'.accepted k c ≡ h.accepted k c) → h'.early k ≡ h.early k → (k ≡ l → h'.fast ≡ h.fast) → ((c : ℕ) → h'.seen k c ≡ h.seen k c) → Reported f l h k b v → Reported f l h' k b v
  reported_same k b v same_accepted same_early same_fast same_seen t = record {
    low = t.low;
    gap = λ c low high. same_accepted c ∙ t.gap c low high;
    blank = λ c low high. same_seen c ∙ t.blank c low high;
    cast = last_kept k v (λ e. same_accepted (ballot_at f l v) ∙ e) (λ e. same_early ∙ e) (λ e. same_seen (ballot_at f l v) ∙ e) t.cast;
    unfast = λ e u. same_fast e ∙ t.unfast e u;
  }

  -- what is led, where the ballots of r's are chosen at as they were
  pub led_same : (k : ℕ) (x : Record) (led : Option LedInstance) → ((b : ℕ) → owner_of b ≡ k → h'.chosen b ≡ h.chosen b) → ((b : ℕ) → owner_of b ≡ k → h'.asked b ≡ h.asked b) → LedOk f l h k x led → LedOk f l h' k x led
  led_same k x None same same_asked p = tt
  led_same k x (Some (Proposing b s answers)) same same_asked p = record {
    mine = p.mine;
    reached = p.reached;
    low = p.low;
    unchosen = same b p.mine ∙ p.unchosen;
    vote = p.vote;
    spared = λ e. go.spared_kept s (p.spared e);
    views = λ j a is. view_kept j b a (p.views j a is);
    each = λ e j a is. (let t = p.each e j a is in (t.0, go.early_kept j _ t.1));
  }
  led_same k x (Some (Accepting b answers)) same same_asked p = record { mine = p.mine; reached = p.reached; vote = p.vote; each = λ j u is. go.accepted_kept j b (p.each j u is) }
  led_same k x (Some (Preparing b answers)) same same_asked p = record {
    mine = p.mine;
    reached = p.reached;
    low = p.low;
    unchosen = same b p.mine ∙ p.unchosen;
    unasked = same_asked b p.mine ∙ p.unasked;
    unvoted = p.unvoted;
    each = λ j v is. promised_report_kept j b v (p.each j v is);
  }

  -- the same, after a promise or a vote at a ballot that isn't led here
  pub led_moved : (k : ℕ) (x x' : Record) (led : Option LedInstance) → ((b : ℕ) → owner_of b ≡ k → h'.chosen b ≡ h.chosen b) → ((b : ℕ) → owner_of b ≡ k → h'.asked b ≡ h.asked b) → x.promised ≤ x'.promised → ((b : ℕ) → owner_of b ≡ k → b ≤ x.promised → x'.promised ≢ b) → LedOk f l h k x led → LedOk f l h' k x' led
  led_moved k x x' None same same_asked up ne p = tt
  led_moved k x x' (Some (Proposing b s answers)) same same_asked up ne p = record {
    mine = p.mine;
    reached = (let le = p.reached in omega arith);
    low = p.low;
    unchosen = same b p.mine ∙ p.unchosen;
    vote = λ e u. absurd (ne b p.mine p.reached e);
    spared = λ e. go.spared_kept s (p.spared e);
    views = λ j a is. view_kept j b a (p.views j a is);
    each = λ e j a is. (let t = p.each e j a is in (t.0, go.early_kept j _ t.1));
  }
  led_moved k x x' (Some (Accepting b answers)) same same_asked up ne p = record {
    mine = p.mine;
    reached = (let le = p.reached in omega arith);
    vote = λ e u. absurd (ne b p.mine p.reached e);
    each = λ j u is. go.accepted_kept j b (p.each j u is);
  }
  led_moved k x x' (Some (Preparing b answers)) same same_asked up ne p = record {
    mine = p.mine;
    reached = (let le = p.reached in omega arith);
    low = p.low;
    unchosen = same b p.mine ∙ p.unchosen;
    unasked = same_asked b p.mine ∙ p.unasked;
    unvoted = λ e. absurd (ne b p.mine p.reached e);
    each = λ j v is. promised_report_kept j b v (p.each j v is);
  }

  -- what another replica holds
  pub held_other : (k : ℕ) (x : Record) (led : Option LedInstance) → k ≢ r → HeldOk f l h k x led → HeldOk f l h' k x led
  held_other k x led ne p = record {
    promised = go.same_promised k ne ∙ p.promised;
    order = p.order;
    vote = λ b. reported_same k b _ (go.same_accepted k ne) (go.same_early k ne) (λ e. go.same_fast (λ i. ne (e ∙ sym i))) (go.same_seen k ne) (p.vote b);
    leads = led_same k x led (λ b e. go.same_chosen b (λ i. ne (sym e ∙ i))) (λ b e. go.same_asked b (λ i. ne (sym e ∙ i))) p.leads;
  }

  pub message_kept : (from to : ℕ) (m : Message) → MessageOk f l h from to m → MessageOk f l h' from to m
  message_kept from to (PreAccept i b x) p = record {
    apart = p.apart;
    low = p.low;
    free = λ lt. free_kept b (p.free lt);
    valid = valid_kept _ p.valid;
    asked = go.asked_kept b _ p.asked;
    quiet = λ n. quiet_kept b (p.quiet n);
    origin = λ e. seen_kept l l _ (p.origin e);
    first = λ e. (go.proposed_kept _ (p.first e).0, member_kept to (p.first e).1);
  }
  message_kept from to (PreAcceptOk i b a) p = ((λ e. (let t = p.0 e in (t.0, go.early_kept from _ t.1))), view_kept from b a p.1)
  message_kept from to (Accept i b x) p = (go.chosen_kept b x p.0, p.1)
  message_kept from to (AcceptOk i b) p = go.accepted_kept from b p
  message_kept from to (Commit i x) p = decided_kept x p
  message_kept from to (Prepare i b) p = tt
  message_kept from to (PrepareOk i b v) p = promised_report_kept from b v p
  message_kept from to (Nack i b promised) p = tt

-- the same, of a cell
pub cell_other : (f i r : ℕ) (h h' : History) → Advance f (leader_of i) r h h' → (k : ℕ) (c : Cell) → owner_of (leader_of i) ≡ leader_of i → k ≢ r → CellOk f i h k c → CellOk f i h' k c
cell_other f i r h h' go k c own ne p = record {
  held = held_other f (leader_of i) r h h' go k (record_or_fresh i c.entry) c.led ne p.held;
  fresh = λ e is. (
      let t = p.fresh e is in
      let n : r ≢ leader_of i = (λ j. ne (is ∙ sym j)) in
      (go.same_proposed n ∙ t.0, go.same_chosen (leader_of i) (λ j. n (sym j ∙ own)) ∙ t.1, go.same_asked (leader_of i) (λ j. n (sym j ∙ own)) ∙ t.2, go.same_spared n ∙ t.3));
}
