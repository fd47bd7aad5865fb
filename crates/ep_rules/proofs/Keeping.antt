-- What a step has to show: the invariant's part of the replica that acts, and of what it sends.
use Rattle.std.proofs.Common.{◌≡◌, ℕ, zero, suc, ◌<◌, Bool, true, false, cond, leb, ◌⊎◌, inl, Option, Some, None, Ok, Err, List, [], ◌∷◌, ◌++◌, refl, subst, ◌∙◌, arith}
use Rattle.ep_base.specs.Instances.{leader_of}
use Rattle.ep_base.specs.Quorums.{size}
use Rattle.ep_base.specs.declared.attrs.Attrs.{Attrs}
use Rattle.ep_base.specs.Commands.{Command}
use Rattle.ep_base.specs.declared.decree.Decree.{Decree}
use Rattle.ep_base.specs.declared.message.Message.{Message}
use Rattle.ep_base.specs.declared.message.Message.TheVariants.{Commit, Nack}
use Rattle.ep_base.specs.declared.vote.VoteStatus.{VoteStatus}
use Rattle.ep_base.specs.declared.vote.Vote.{Vote}
use Rattle.ep_rules.specs.Cells.{Change, nothing, answered, kept, record_or_fresh, Cell}
use Rattle.ep_rules.specs.Counting.{to_those, is_other}
use Rattle.ep_rules.specs.Phases.{Outcome, limited, with_commit, commit_phase}
use Rattle.ep_rules.specs.Recovery.{on_nack}
use Rattle.ep_rules.specs.declared.led_instance.LedInstance.{LedInstance}
use Rattle.ep_rules.specs.declared.record.Record.{Record}
use Rattle.ep_rules.proofs.Facts.{History, Decided, IsCast, IsLast, LedOk, HeldOk, CellOk, MessageOk, HistoryOk, Advance}
use Rattle.ep_rules.proofs.Histories.{same_advance}

-- Cells after a change.

abbrev pub newer : {X : Type 0} → Option X → X → X
newer None x = x
newer (Some y) x = y

abbrev pub newer_entry : Option Record → Option Record → Option Record
newer_entry None e = e
newer_entry (Some r) e = Some r

abbrev pub applied : Cell → Change → Cell
applied c ch = record { entry = newer_entry ch.entry c.entry; led = newer ch.led c.led; reported = newer ch.reported c.reported }

abbrev pub record_of : ℕ → Cell → Record
record_of i c = record_or_fresh i c.entry

-- Messages that a change sends.

-- P holds of each receiver and message
abbrev pub AllSent : (ℕ → Message → Type 0) → List (ℕ × Message) → Type 0
AllSent P [] = Unit {0}
AllSent P (e ∷ es) = P e.0 e.1 × AllSent P es

sent_append : (P : ℕ → Message → Type 0) (xs ys : List (ℕ × Message)) → AllSent P xs → AllSent P ys → AllSent P (xs ++ ys)
sent_append P [] ys a b = b
sent_append P (x ∷ xs) ys a b = (a.0, sent_append P xs ys a.1 b)

sent_one : (P : ℕ → Message → Type 0) (n : ℕ) (m : Message) (b : Bool) → (b ≡ true → P n m) → AllSent P (cond b ((n, m) ∷ []) [])
sent_one P n m true h = (h refl, tt)
sent_one P n m false h = tt

pub sent_to_those : (P : ℕ → Message → Type 0) (p : ℕ → Bool) (n : ℕ) (m : Message) → ((k : ℕ) → k < n → p k ≡ true → P k m) → AllSent P (to_those p n m)
sent_to_those P p zero m h = tt
sent_to_those P p (suc n) m h = sent_append P (to_those p n m) _ (sent_to_those P p n m (λ k lt. h k (omega arith))) (sent_one P n m (p n) (h n (omega arith)))

-- what holds of both holds of a choice
pub split : {A : Type 0} (P : A → Type 0) (t : Bool) (x y : A) → (t ≡ true → P x) → (t ≡ false → P y) → P (cond t x y)
split P true x y a b = a refl
split P false x y a b = b refl

-- What a step of r in instance i has to show. own: the attributes that its interference set gives a command; new: what the step proposes.

abbrev pub FreshSeen : ℕ → (Command → Attrs) → History → History → Type 0
FreshSeen r own h h' = (k b : ℕ) (d : List ℕ) → h'.seen k b ≡ Some d → (h.seen k b ≡ Some d) ⊎ ((k ≡ r) × (x : Command) × (h'.asked b ≡ Some x) × (d ≡ (own x).deps))

pub record Kept (f i r : ℕ) (own : Command → Attrs) (new : Command → Type 0) (h : History) (c : Cell) (ch : Change) : Type 0 where
  pub after : History
  pub advance : Advance f (leader_of i) r h after
  pub history : HistoryOk f (leader_of i) after
  pub cell : CellOk f i after r (applied c ch)
  pub out : AllSent (λ to m. MessageOk f (leader_of i) after r to m) ch.out
  pub fresh_seen : FreshSeen r own h after
  pub proposed_new : (x : Command) → after.proposed ≡ Some x → (h.proposed ≡ Some x) ⊎ new x

abbrev pub KeptOk : (f i r : ℕ) → (Command → Attrs) → (Command → Type 0) → History → Cell → Outcome → Type 0
KeptOk f i r own new h c (Ok ch) = Kept f i r own new h c ch
KeptOk f i r own new h c (Err e) = Unit {0}

-- What is known of a cell.
module _ {f i r : ℕ} {h : History} {c : Cell} (cell : CellOk f i h r c) where
  -- after a commit
  pub commit_held : (h' : History) (x : Decree) → h'.promised r ≡ h.promised r → ((b : ℕ) → h'.accepted r b ≡ h.accepted r b) → ((b : ℕ) → h'.seen r b ≡ h.seen r b) → Decided f (leader_of i) h' x → HeldOk f (leader_of i) h' r (with_commit i (record_of i c) x) None
  commit_held h' x same_promised same_accepted same_seen decided = record {
    promised = same_promised ∙ (cell.held).promised;
    order = (cell.held).order;
    vote = λ k. record {
      low = ((cell.held).vote k).low;
      gap = λ b low high. same_accepted b ∙ ((cell.held).vote k).gap b low high;
      blank = λ b low high. same_seen b ∙ ((cell.held).vote k).blank b low high;
      cast = decided;
      unfast = λ i u. absurd (cc);
    };
    leads = tt;
  }

  -- nothing was seen above what is promised
  pub later_unseen : (b : ℕ) → (record_of i c).promised < b → h.seen r b ≡ None
  later_unseen b lt = let order = (cell.held).order in ((cell.held).vote (suc b)).blank b (omega arith) (omega arith)

  -- nor anything voted to accept
  pub later_unaccepted : (b : ℕ) → (record_of i c).promised < b → h.accepted r b ≡ false
  later_unaccepted b lt = let order = (cell.held).order in ((cell.held).vote (suc b)).gap b (omega arith) (omega arith)

  -- the last vote, whose status and ballot are known
  pub last_cast : (s : VoteStatus) (b : ℕ) (x : Decree) → (record_of i c).vote ≡ Some (record { status = s; ballot = b; decree = x }) → IsCast f (leader_of i) h r s b x
  last_cast s b x e = subst (λ (v : Option Vote). IsLast f (leader_of i) h r v) e ((cell.held).vote 0).cast

-- Steps that add nothing.
module _ {f i r : ℕ} {own : Command → Attrs} {new : Command → Type 0} {h : History} (ok : HistoryOk f (leader_of i) h) {c : Cell} (cell : CellOk f i h r c) where
  keep_same : (ch : Change) → CellOk f i h r (applied c ch) → AllSent (λ to m. MessageOk f (leader_of i) h r to m) ch.out → Kept f i r own new h c ch
  keep_same ch after out = record { after = h; advance = same_advance f (leader_of i) r h; history = ok; cell = after; out = out; fresh_seen = (λ k b d e. inl e); proposed_new = (λ x e. inl e) }

  pub keep_nothing : Kept f i r own new h c nothing
  keep_nothing = keep_same nothing (record { held = cell.held; fresh = cell.fresh }) tt

  pub keep_nack : (from b p : ℕ) → Kept f i r own new h c (answered from (Nack i b p))
  keep_nack from b p = keep_same (answered from (Nack i b p)) (record { held = cell.held; fresh = cell.fresh }) (tt, tt)

  pub keep_reported : (promised : ℕ) → Kept f i r own new h c (on_nack promised c.reported)
  keep_reported promised = keep_same (on_nack promised c.reported) (record { held = cell.held; fresh = cell.fresh }) tt

  pub keep_led : (led : LedInstance) → LedOk f (leader_of i) h r (record_of i c) (Some led) → Kept f i r own new h c (kept led)
  keep_led led p = keep_same (kept led) (record { held = record { promised = (cell.held).promised; order = (cell.held).order; vote = (cell.held).vote; leads = p }; fresh = cell.fresh }) tt

  -- a commit that was reported
  pub keep_committed : (x : Decree) → Decided f (leader_of i) h x → Kept f i r own new h c (record { entry = Some (with_commit i (record_of i c) x); led = Some None; reported = None; out = [] })
  keep_committed x decided = keep_same _ (record { held = commit_held cell h x refl (λ _. refl) (λ _. refl) decided; fresh = λ e. absurd (cc) }) tt

  pub keep_commit_phase : (x : Decree) → Decided f (leader_of i) h x → Kept f i r own new h c (commit_phase f i r x (record_of i c))
  keep_commit_phase x decided =
      keep_same (commit_phase f i r x (record_of i c)) (record { held = commit_held cell h x refl (λ _. refl) (λ _. refl) decided; fresh = λ e. absurd (cc) })
      (sent_to_those _ (is_other r) (size f) (Commit i x) (λ k lt e. decided))

-- A step within the limits is kept.
pub keep_limited : {f i r : ℕ} {own : Command → Attrs} {new : Command → Type 0} {h : History} {c : Cell} (a : Attrs) (ch : Change) → Kept f i r own new h c ch → KeptOk f i r own new h c (limited a ch)
keep_limited {f} {i} {r} {own} {new} {h} {c} a ch k = split (KeptOk f i r own new h c) (leb a.seq 1000000) _ _ (λ e. k) (λ e. tt)
