-- What a step may add to the history, and that each addition keeps what holds of histories.
use Rattle.std.proofs.Common.{List, ◌≡◌, ℕ, ◌<◌, ◌≤◌, Bool, true, false, cond, ◌&&◌, ◌||◌, eqb, ◌≢◌, ◌⊎◌, inl, inr, Option, Some, None, refl, sym, ap, subst, ◌∙◌, arith}
use Rattle.std.proofs.lemmas.Bool.{or_cases, or_left, or_right, and_parts, and_from, eqb-true, eq-eqb, ne_eqb, cases_eq}
use Rattle.ep_base.specs.Ballots.{owner_of}
use Rattle.ep_base.specs.Sameness.{is_noop}
use Rattle.ep_base.specs.Commands.{Command}
use Rattle.ep_base.specs.declared.decree.Decree.{Decree}
use Rattle.ep_rules.proofs.Facts.{Member, AllEarly, Free, Seen, Backed, Quiet, History, Safe, IsValid, HistoryOk, Advance}
use Rattle.ep_rules.proofs.Stable.{member_kept, all_early_kept, safe_kept, valid_kept, free_kept, quiet_kept, backed_kept, seen_kept, none_before}

abbrev pub put_at : {X : Type 0} → (ℕ → X) → ℕ → X → ℕ → X
put_at g k v j = cond (eqb j k) v (g j)

pub put_same : {X : Type 0} (g : ℕ → X) (k : ℕ) (v : X) → put_at g k v k ≡ v
put_same g k v = ap (λ t. cond t v (g k)) (eq-eqb k k refl)

pub put_other : {X : Type 0} (g : ℕ → X) (k : ℕ) (v : X) (j : ℕ) → j ≢ k → put_at g k v j ≡ g j
put_other g k v j ne = ap (λ t. cond t v (g j)) (ne_eqb j k ne)

pub put_here : {X : Type 0} (g : ℕ → X) (k : ℕ) (v : X) (j : ℕ) → j ≡ k → put_at g k v j ≡ v
put_here g k v j e = ap (λ t. cond t v (g j)) (eq-eqb j k e)

abbrev pub mark : (ℕ → ℕ → Bool) → ℕ → ℕ → ℕ → ℕ → Bool
mark g r b k c = g k c || (eqb k r && eqb c b)

pub mark_here : (g : ℕ → ℕ → Bool) (r b : ℕ) → mark g r b r b ≡ true
mark_here g r b = or_right _ _ (and_from _ _ (eq-eqb r r refl) (eq-eqb b b refl))

pub mark_other : (g : ℕ → ℕ → Bool) (r b k c : ℕ) → (k ≡ r → c ≡ b → ⊥) → mark g r b k c ≡ g k c
mark_other g r b k c ne = go (g k c) (eqb k r && eqb c b) refl
  where
    go : (x y : Bool) → (eqb k r && eqb c b) ≡ y → (x || y) ≡ x
    go true y e = refl
    go false true e = absurd (let t = and_parts _ _ e in ne (eqb-true k r t.0) (eqb-true c b t.1))
    go false false e = refl

-- what is new in h'
pub record NewChoice (f l : ℕ) (h' : History) (b : ℕ) (x : Decree) : Type 0 where
  pub safe : Safe f l h' b x
  pub led : b ≤ h'.promised (owner_of b)
  pub low : l ≤ b
  pub valid : IsValid f l h' x.command
  pub backed : is_noop x.command ≡ false → Backed f l h' x
  pub hushed : is_noop x.command ≡ true → Quiet f l h' b
  pub agreed : (c : Command) → h'.asked b ≡ Some c → x.command ≡ c

pub record NewAsk (f l : ℕ) (h' : History) (b : ℕ) (c : Command) : Type 0 where
  pub unchosen : h'.chosen b ≡ None
  pub low : l ≤ b
  pub led : b ≤ h'.promised (owner_of b)
  pub free : l < b → Free f l h' b
  pub valid : IsValid f l h' c

pub record NewEarly (f l : ℕ) (h' : History) (k : ℕ) (x : Decree) : Type 0 where
  pub member : Member f l h' k
  pub proposed : h'.proposed ≡ Some x.command
  pub seen : Seen f l h' k l x.attrs.deps
  pub origin : Seen f l h' l l x.attrs.deps

pub record NewFast (f l : ℕ) (h' : History) (y : Decree) : Type 0 where
  pub early : AllEarly f l h' y
  pub proposed : h'.proposed ≡ Some y.command
  pub origin : Seen f l h' l l y.attrs.deps

pub record News (f l : ℕ) (h h' : History) : Type 0 where
  pub chosen : (b : ℕ) (x : Decree) → h'.chosen b ≡ Some x → (h.chosen b ≡ Some x) ⊎ NewChoice f l h' b x
  pub early : (k : ℕ) (x : Decree) → h'.early k ≡ Some x → (h.early k ≡ Some x) ⊎ NewEarly f l h' k x
  pub fast : (y : Decree) → h'.fast ≡ Some y → (h.fast ≡ Some y) ⊎ NewFast f l h' y
  pub asked : (b : ℕ) (c : Command) → h'.asked b ≡ Some c → (h.asked b ≡ Some c) ⊎ NewAsk f l h' b c
  pub seen : (r b : ℕ) (d : List ℕ) → h'.seen r b ≡ Some d → (h.seen r b ≡ Some d) ⊎ ((c : Command) × (h'.asked b ≡ Some c) × (is_noop c ≡ false))
  pub proposed : (c : Command) → h'.proposed ≡ Some c → (h.proposed ≡ Some c) ⊎ (is_noop c ≡ false)

pub history_next : (f l r : ℕ) (h h' : History) → Advance f l r h h' → News f l h h' → HistoryOk f l h → HistoryOk f l h'
history_next f l r h h' go new ok = record {
  safe = λ b x e. elim (new.chosen b x e) [ inl old ↦ safe_kept f l r h h' go b x (ok.safe b x old) | inr t ↦ t.safe ];
  led = λ b x e. elim (new.chosen b x e) [ inl old ↦ (let o = ok.led b x old in let up = go.promised_up (owner_of b) in omega arith) | inr t ↦ t.led ];
  low = λ b x e. elim (new.chosen b x e) [ inl old ↦ ok.low b x old | inr t ↦ t.low ];
  valid = λ b x e. elim (new.chosen b x e) [ inl old ↦ valid_kept f l r h h' go x.command (ok.valid b x old) | inr t ↦ t.valid ];
  fast_early = λ y e. elim (new.fast y e) [ inl old ↦ all_early_kept f l r h h' go y (ok.fast_early y old) | inr t ↦ t.early ];
  fast_proposed = λ y e. elim (new.fast y e) [ inl old ↦ go.proposed_kept _ (ok.fast_proposed y old) | inr t ↦ t.proposed ];
  early_fast = λ k x e. elim (new.early k x e) [ inl old ↦ member_kept f l r h h' go k (ok.early_fast k x old) | inr t ↦ t.member ];
  early_proposed = λ k x e. elim (new.early k x e) [ inl old ↦ go.proposed_kept _ (ok.early_proposed k x old) | inr t ↦ t.proposed ];
  from_default = λ k. (let o = ok.from_default k in let up = go.promised_up k in omega arith);
  backed = λ b x e n. elim (new.chosen b x e) [ inl old ↦ backed_kept f l r h h' go x (ok.backed b x old n) | inr t ↦ t.backed n ];
  hushed = λ b x e n. elim (new.chosen b x e) [ inl old ↦ quiet_kept f l r h h' go b (ok.hushed b x old n) | inr t ↦ t.hushed n ];
  agreed = λ b x c e a. elim (new.chosen b x e) [
    | inl old ↦ (elim (new.asked b c a) [ inl o ↦ ok.agreed b x c old o | inr t ↦ absurd (let u = t.unchosen in cc) ])
    | inr t ↦ t.agreed c a
  ];
  asked_led = λ b c a. elim (new.asked b c a) [ inl o ↦ (let t = ok.asked_led b c o in let up = go.promised_up (owner_of b) in (t.0, omega (arith, t.1))) | inr t ↦ (t.low, t.led) ];
  asked_free = λ b c a lt. elim (new.asked b c a) [ inl o ↦ free_kept f l r h h' go b (ok.asked_free b c o lt) | inr t ↦ t.free lt ];
  asked_valid = λ b c a. elim (new.asked b c a) [ inl o ↦ valid_kept f l r h h' go c (ok.asked_valid b c o) | inr t ↦ t.valid ];
  seen_asked = λ k b d e. elim (new.seen k b d e) [ inl o ↦ (let t = ok.seen_asked k b d o in (t.0, go.asked_kept b t.0 t.1, t.2)) | inr t ↦ t ];
  proposed_real = λ c e. elim (new.proposed c e) [ inl o ↦ ok.proposed_real c o | inr n ↦ n ];
  early_seen = λ k x e. elim (new.early k x e) [ inl old ↦ seen_kept f l r h h' go k l _ (ok.early_seen k x old) | inr t ↦ t.seen ];
  early_origin = λ k x e. elim (new.early k x e) [ inl old ↦ seen_kept f l r h h' go l l _ (ok.early_origin k x old) | inr t ↦ t.origin ];
  fast_origin = λ y e. elim (new.fast y e) [ inl old ↦ seen_kept f l r h h' go l l _ (ok.fast_origin y old) | inr t ↦ t.origin ];
}

-- two steps of one replica
pub advance_trans : (f l r : ℕ) (a b c : History) → Advance f l r a b → Advance f l r b c → Advance f l r a c
advance_trans f l r a b c p q = record {
  promised_up = λ k. (let u = p.promised_up k in let v = q.promised_up k in omega arith);
  chosen_kept = λ n x e. q.chosen_kept n x (p.chosen_kept n x e);
  accepted_kept = λ k n e. q.accepted_kept k n (p.accepted_kept k n e);
  accepted_new = λ k n e. elim (q.accepted_new k n e) [ inl o ↦ p.accepted_new k n o | inr m ↦ inr (let u = p.promised_up k in omega arith) ];
  early_kept = λ k x e. q.early_kept k x (p.early_kept k x e);
  early_new = λ k x e. elim (q.early_new k x e) [ inl o ↦ p.early_new k x o | inr m ↦ inr (let u = p.promised_up k in omega arith) ];
  proposed_kept = λ x e. q.proposed_kept x (p.proposed_kept x e);
  spared_kept = λ s e. q.spared_kept s (p.spared_kept s e);
  fast_kept = λ x e. q.fast_kept x (p.fast_kept x e);
  fast_new = λ x e. elim (q.fast_new x e) [ inl o ↦ p.fast_new x o | inr m ↦ inr (none_before _ _ (p.chosen_kept l) m.0, (let u = p.promised_up l in omega (arith, m.1))) ];
  same_promised = λ k n. q.same_promised k n ∙ p.same_promised k n;
  same_accepted = λ k n m. q.same_accepted k n m ∙ p.same_accepted k n m;
  same_early = λ k n. q.same_early k n ∙ p.same_early k n;
  same_chosen = λ m n. q.same_chosen m n ∙ p.same_chosen m n;
  same_fast = λ n. q.same_fast n ∙ p.same_fast n;
  same_proposed = λ n. q.same_proposed n ∙ p.same_proposed n;
  same_spared = λ n. q.same_spared n ∙ p.same_spared n;
  asked_kept = λ m x e. q.asked_kept m x (p.asked_kept m x e);
  seen_kept = λ k m d e. q.seen_kept k m d (p.seen_kept k m d e);
  seen_new = λ k m d e. elim (q.seen_new k m d e) [ inl o ↦ p.seen_new k m d o | inr n ↦ inr (let u = p.promised_up k in omega arith) ];
  same_asked = λ m n. q.same_asked m n ∙ p.same_asked m n;
  same_seen = λ k n m. q.same_seen k n m ∙ p.same_seen k n m;
}

-- a promise or a vote only raises r's promised ballot
abbrev pub promise : History → ℕ → ℕ → History
promise h r b = record { promised = put_at h.promised r b; chosen = h.chosen; accepted = h.accepted; early = h.early; proposed = h.proposed; spared = h.spared; fast = h.fast; asked = h.asked; seen = h.seen }

put_up : (g : ℕ → ℕ) (r b k : ℕ) → g r ≤ b → g k ≤ put_at g r b k
put_up g r b k le = elim (cases_eq k r) [ inl e ↦ (let p = put_here g r b k e in let q = ap g e in omega arith) | inr n ↦ (let p = put_other g r b k n in omega arith) ]

pub promise_advance : (f l r b : ℕ) (h : History) → h.promised r ≤ b → Advance f l r h (promise h r b)
promise_advance f l r b h le = record {
  promised_up = λ k. put_up h.promised r b k le;
  chosen_kept = λ c x e. e;
  accepted_kept = λ k c e. e;
  accepted_new = λ k c e. inl e;
  early_kept = λ k x e. e;
  early_new = λ k x e. inl e;
  proposed_kept = λ c e. e;
  spared_kept = λ s e. e;
  fast_kept = λ x e. e;
  fast_new = λ x e. inl e;
  same_promised = λ k n. put_other h.promised r b k n;
  same_accepted = λ k n c. refl;
  same_early = λ k n. refl;
  same_chosen = λ c n. refl;
  same_fast = λ n. refl;
  same_proposed = λ n. refl;
  same_spared = λ n. refl;
  asked_kept = λ c x e. e;
  seen_kept = λ k c d e. e;
  seen_new = λ k c d e. inl e;
  same_asked = λ c n. refl;
  same_seen = λ k n c. refl;
}

pub promise_news : (f l r b : ℕ) (h : History) → News f l h (promise h r b)
promise_news f l r b h = record { chosen = λ c x e. inl e; early = λ k x e. inl e; fast = λ y e. inl e; asked = λ c x e. inl e; seen = λ k c d e. inl e; proposed = λ c e. inl e }

-- r votes to accept at b
abbrev pub vote_accept : History → ℕ → ℕ → History
vote_accept h r b = record { promised = put_at h.promised r b; chosen = h.chosen; accepted = mark h.accepted r b; early = h.early; proposed = h.proposed; spared = h.spared; fast = h.fast; asked = h.asked; seen = h.seen }

mark_new : (h : History) (r b k c : ℕ) → h.promised r ≤ b → mark h.accepted r b k c ≡ true → (h.accepted k c ≡ true) ⊎ (h.promised k ≤ c)
mark_new h r b k c le e =
    elim (or_cases _ _ e) [
      | inl a ↦ inl a
      | inr t ↦ (let p = and_parts _ _ t in let i = ap h.promised (eqb-true k r p.0) in let j = eqb-true c b p.1 in inr (omega arith))
    ]

pub vote_accept_advance : (f l r b : ℕ) (h : History) → h.promised r ≤ b → Advance f l r h (vote_accept h r b)
vote_accept_advance f l r b h le = record {
  promised_up = λ k. put_up h.promised r b k le;
  chosen_kept = λ c x e. e;
  accepted_kept = λ k c e. or_left _ _ e;
  accepted_new = λ k c e. mark_new h r b k c le e;
  early_kept = λ k x e. e;
  early_new = λ k x e. inl e;
  proposed_kept = λ c e. e;
  spared_kept = λ s e. e;
  fast_kept = λ x e. e;
  fast_new = λ x e. inl e;
  same_promised = λ k n. put_other h.promised r b k n;
  same_accepted = λ k n c. mark_other h.accepted r b k c (λ e _. n e);
  same_early = λ k n. refl;
  same_chosen = λ c n. refl;
  same_fast = λ n. refl;
  same_proposed = λ n. refl;
  same_spared = λ n. refl;
  asked_kept = λ c x e. e;
  seen_kept = λ k c d e. e;
  seen_new = λ k c d e. inl e;
  same_asked = λ c n. refl;
  same_seen = λ k n c. refl;
}

pub vote_accept_news : (f l r b : ℕ) (h : History) → News f l h (vote_accept h r b)
vote_accept_news f l r b h = record { chosen = λ c x e. inl e; early = λ k x e. inl e; fast = λ y e. inl e; asked = λ c x e. inl e; seen = λ k c d e. inl e; proposed = λ c e. inl e }

-- r begins the accept phase of its ballot b with x
abbrev pub choose_at : History → ℕ → ℕ → Decree → History
choose_at h r b x = record { promised = put_at h.promised r b; chosen = put_at h.chosen b (Some x); accepted = mark h.accepted r b; early = h.early; proposed = h.proposed; spared = h.spared; fast = h.fast; asked = h.asked; seen = h.seen }

some_at : {X : Type 0} (g : ℕ → Option X) (b : ℕ) (v : X) → g b ≡ None → (c : ℕ) (x : X) → g c ≡ Some x → put_at g b (Some v) c ≡ Some x
some_at g b v none c x e = elim (cases_eq c b) [ inl i ↦ absurd (let a = ap g i in cc) | inr n ↦ put_other g b (Some v) c n ∙ e ]

some_back : {X : Type 0} (g : ℕ → Option X) (b : ℕ) (v : X) (c : ℕ) (x : X) → put_at g b (Some v) c ≡ Some x → (g c ≡ Some x) ⊎ ((c ≡ b) × (v ≡ x))
some_back g b v c x e = elim (cases_eq c b) [ inl i ↦ inr (i, (let p = put_here g b (Some v) c i in cc)) | inr n ↦ inl (sym (put_other g b (Some v) c n) ∙ e) ]

pub choose_at_advance : (f l r b : ℕ) (x : Decree) (h : History) → h.promised r ≤ b → owner_of b ≡ r → h.chosen b ≡ None → Advance f l r h (choose_at h r b x)
choose_at_advance f l r b x h le own none = record {
  promised_up = λ k. put_up h.promised r b k le;
  chosen_kept = some_at h.chosen b x none;
  accepted_kept = λ k c e. or_left _ _ e;
  accepted_new = λ k c e. mark_new h r b k c le e;
  early_kept = λ k x e. e;
  early_new = λ k x e. inl e;
  proposed_kept = λ c e. e;
  spared_kept = λ s e. e;
  fast_kept = λ x e. e;
  fast_new = λ x e. inl e;
  same_promised = λ k n. put_other h.promised r b k n;
  same_accepted = λ k n c. mark_other h.accepted r b k c (λ e _. n e);
  same_early = λ k n. refl;
  same_chosen = λ c n. put_other h.chosen b (Some x) c (λ e. n (ap owner_of e ∙ own));
  same_fast = λ n. refl;
  same_proposed = λ n. refl;
  same_spared = λ n. refl;
  asked_kept = λ c x e. e;
  seen_kept = λ k c d e. e;
  seen_new = λ k c d e. inl e;
  same_asked = λ c n. refl;
  same_seen = λ k n c. refl;
}

pub choose_at_news : (f l r b : ℕ) (x : Decree) (h : History) → NewChoice f l (choose_at h r b x) b x → News f l h (choose_at h r b x)
choose_at_news f l r b x h new = record {
  chosen = λ c y e. elim (some_back h.chosen b x c y e) [
    | inl old ↦ inl old
    | inr t ↦ inr (subst (λ v. NewChoice f l (choose_at h r b x) c v) t.1 (subst (λ n. NewChoice f l (choose_at h r b x) n x) (sym t.0) new))
  ];
  early = λ k x e. inl e;
  fast = λ y e. inl e;
  asked = λ c x e. inl e;
  seen = λ k c d e. inl e;
  proposed = λ c e. inl e;
}

-- the leader proposes c, and spares s
abbrev pub propose_at : History → ℕ → ℕ → Command → History
propose_at h l s c = record { promised = put_at h.promised l l; chosen = h.chosen; accepted = h.accepted; early = h.early; proposed = Some c; spared = Some s; fast = h.fast; asked = h.asked; seen = h.seen }

pub propose_at_advance : (f l s : ℕ) (c : Command) (h : History) → h.promised l ≤ l → h.proposed ≡ None → h.spared ≡ None → Advance f l l h (propose_at h l s c)
propose_at_advance f l s c h le none unspared = record {
  promised_up = λ k. put_up h.promised l l k le;
  chosen_kept = λ c x e. e;
  accepted_kept = λ k c e. e;
  accepted_new = λ k c e. inl e;
  early_kept = λ k x e. e;
  early_new = λ k x e. inl e;
  proposed_kept = λ c e. absurd (cc);
  spared_kept = λ k e. absurd (cc);
  fast_kept = λ x e. e;
  fast_new = λ x e. inl e;
  same_promised = λ k n. put_other h.promised l l k n;
  same_accepted = λ k n c. refl;
  same_early = λ k n. refl;
  same_chosen = λ c n. refl;
  same_fast = λ n. refl;
  same_proposed = λ n. absurd (n refl);
  same_spared = λ n. absurd (n refl);
  asked_kept = λ c x e. e;
  seen_kept = λ k c d e. e;
  seen_new = λ k c d e. inl e;
  same_asked = λ c n. refl;
  same_seen = λ k n c. refl;
}

pub propose_at_news : (f l s : ℕ) (c : Command) (h : History) → is_noop c ≡ false → News f l h (propose_at h l s c)
propose_at_news f l s c h real = record {
  chosen = λ c x e. inl e;
  early = λ k x e. inl e;
  fast = λ y e. inl e;
  asked = λ c x e. inl e;
  seen = λ k c d e. inl e;
  proposed = λ d e. inr (let i : c ≡ d = cc in subst (λ v. is_noop v ≡ false) i real);
}

-- r votes for x at the default ballot
abbrev pub vote_early : History → ℕ → ℕ → Decree → History
vote_early h l r x = record { promised = put_at h.promised r l; chosen = h.chosen; accepted = h.accepted; early = put_at h.early r (Some x); proposed = h.proposed; spared = h.spared; fast = h.fast; asked = h.asked; seen = h.seen }

early_back : (h : History) (l r : ℕ) (x : Decree) → h.promised r ≤ l → (k : ℕ) (y : Decree) → put_at h.early r (Some x) k ≡ Some y → (h.early k ≡ Some y) ⊎ (h.promised k ≤ l)
early_back h l r x le k y e = elim (some_back h.early r x k y e) [ inl old ↦ inl old | inr t ↦ inr (let i = ap h.promised t.0 in omega arith) ]

pub vote_early_advance : (f l r : ℕ) (x : Decree) (h : History) → h.promised r ≤ l → h.early r ≡ None → Advance f l r h (vote_early h l r x)
vote_early_advance f l r x h le none = record {
  promised_up = λ k. put_up h.promised r l k le;
  chosen_kept = λ c x e. e;
  accepted_kept = λ k c e. e;
  accepted_new = λ k c e. inl e;
  early_kept = some_at h.early r x none;
  early_new = early_back h l r x le;
  proposed_kept = λ c e. e;
  spared_kept = λ s e. e;
  fast_kept = λ x e. e;
  fast_new = λ x e. inl e;
  same_promised = λ k n. put_other h.promised r l k n;
  same_accepted = λ k n c. refl;
  same_early = λ k n. put_other h.early r (Some x) k n;
  same_chosen = λ c n. refl;
  same_fast = λ n. refl;
  same_proposed = λ n. refl;
  same_spared = λ n. refl;
  asked_kept = λ c x e. e;
  seen_kept = λ k c d e. e;
  seen_new = λ k c d e. inl e;
  same_asked = λ c n. refl;
  same_seen = λ k n c. refl;
}

pub vote_early_news : (f l r : ℕ) (x : Decree) (h : History) → NewEarly f l (vote_early h l r x) r x → News f l h (vote_early h l r x)
vote_early_news f l r x h new = record {
  chosen = λ c x e. inl e;
  early = λ k y e. elim (some_back h.early r x k y e) [
    | inl old ↦ inl old
    | inr t ↦ inr (subst (λ v. NewEarly f l (vote_early h l r x) k v) t.1 (subst (λ n. NewEarly f l (vote_early h l r x) n x) (sym t.0) new))
  ];
  fast = λ y e. inl e;
  asked = λ c x e. inl e;
  seen = λ k c d e. inl e;
  proposed = λ c e. inl e;
}

-- the leader commits x on the fast path
abbrev pub take_fast : History → Decree → History
take_fast h x = record { promised = h.promised; chosen = h.chosen; accepted = h.accepted; early = h.early; proposed = h.proposed; spared = h.spared; fast = Some x; asked = h.asked; seen = h.seen }

pub take_fast_advance : (f l : ℕ) (x : Decree) (h : History) → h.promised l ≤ l → h.chosen l ≡ None → h.fast ≡ None → Advance f l l h (take_fast h x)
take_fast_advance f l x h le unchosen none = record {
  promised_up = λ k. omega arith;
  chosen_kept = λ c x e. e;
  accepted_kept = λ k c e. e;
  accepted_new = λ k c e. inl e;
  early_kept = λ k x e. e;
  early_new = λ k x e. inl e;
  proposed_kept = λ c e. e;
  spared_kept = λ s e. e;
  fast_kept = λ y e. absurd (cc);
  fast_new = λ y e. inr (unchosen, le);
  same_promised = λ k n. refl;
  same_accepted = λ k n c. refl;
  same_early = λ k n. refl;
  same_chosen = λ c n. refl;
  same_fast = λ n. absurd (n refl);
  same_proposed = λ n. refl;
  same_spared = λ n. refl;
  asked_kept = λ c x e. e;
  seen_kept = λ k c d e. e;
  seen_new = λ k c d e. inl e;
  same_asked = λ c n. refl;
  same_seen = λ k n c. refl;
}

pub take_fast_news : (f l : ℕ) (x : Decree) (h : History) → NewFast f l (take_fast h x) x → News f l h (take_fast h x)
take_fast_news f l x h new = record {
  chosen = λ c x e. inl e;
  early = λ k x e. inl e;
  fast = λ y e. (let i : x ≡ y = cc in inr (subst (λ v. NewFast f l (take_fast h x) v) i new));
  asked = λ c x e. inl e;
  seen = λ k c d e. inl e;
  proposed = λ c e. inl e;
}

-- a step that adds nothing
pub same_advance : (f l r : ℕ) (h : History) → Advance f l r h h
same_advance f l r h = record {
  promised_up = λ k. omega arith;
  chosen_kept = λ c x e. e;
  accepted_kept = λ k c e. e;
  accepted_new = λ k c e. inl e;
  early_kept = λ k x e. e;
  early_new = λ k x e. inl e;
  proposed_kept = λ c e. e;
  spared_kept = λ s e. e;
  fast_kept = λ x e. e;
  fast_new = λ x e. inl e;
  same_promised = λ k n. refl;
  same_accepted = λ k n c. refl;
  same_early = λ k n. refl;
  same_chosen = λ c n. refl;
  same_fast = λ n. refl;
  same_proposed = λ n. refl;
  same_spared = λ n. refl;
  asked_kept = λ c x e. e;
  seen_kept = λ k c d e. e;
  seen_new = λ k c d e. inl e;
  same_asked = λ c n. refl;
  same_seen = λ k n c. refl;
}

-- r begins phase 1 of its ballot b for c
abbrev pub ask : History → ℕ → Command → History
ask h b c = record { promised = h.promised; chosen = h.chosen; accepted = h.accepted; early = h.early; proposed = h.proposed; spared = h.spared; fast = h.fast; asked = put_at h.asked b (Some c); seen = h.seen }

pub ask_advance : (f l r b : ℕ) (c : Command) (h : History) → owner_of b ≡ r → h.asked b ≡ None → Advance f l r h (ask h b c)
ask_advance f l r b c h own none = record {
  promised_up = λ k. omega arith;
  chosen_kept = λ c x e. e;
  accepted_kept = λ k c e. e;
  accepted_new = λ k c e. inl e;
  early_kept = λ k x e. e;
  early_new = λ k x e. inl e;
  proposed_kept = λ c e. e;
  spared_kept = λ s e. e;
  fast_kept = λ x e. e;
  fast_new = λ x e. inl e;
  same_promised = λ k n. refl;
  same_accepted = λ k n c. refl;
  same_early = λ k n. refl;
  same_chosen = λ c n. refl;
  same_fast = λ n. refl;
  same_proposed = λ n. refl;
  same_spared = λ n. refl;
  asked_kept = some_at h.asked b c none;
  seen_kept = λ k c d e. e;
  seen_new = λ k c d e. inl e;
  same_asked = λ m n. put_other h.asked b (Some c) m (λ e. n (ap owner_of e ∙ own));
  same_seen = λ k n c. refl;
}

pub ask_news : (f l b : ℕ) (c : Command) (h : History) → NewAsk f l (ask h b c) b c → News f l h (ask h b c)
ask_news f l b c h new = record {
  chosen = λ c x e. inl e;
  early = λ k x e. inl e;
  fast = λ y e. inl e;
  asked = λ m d e. elim (some_back h.asked b c m d e) [
    | inl old ↦ inl old
    | inr t ↦ inr (subst (λ v. NewAsk f l (ask h b c) m v) t.1 (subst (λ n. NewAsk f l (ask h b c) n c) (sym t.0) new))
  ];
  seen = λ k c d e. inl e;
  proposed = λ c e. inl e;
}

-- r votes in phase 1 of b with this interference set
abbrev pub note : (ℕ → ℕ → Option (List ℕ)) → ℕ → ℕ → List ℕ → ℕ → ℕ → Option (List ℕ)
note g r b d k c = cond (eqb k r && eqb c b) (Some d) (g k c)

abbrev pub with_seen : History → (ℕ → ℕ → Option (List ℕ)) → History
with_seen h s = record { promised = h.promised; chosen = h.chosen; accepted = h.accepted; early = h.early; proposed = h.proposed; spared = h.spared; fast = h.fast; asked = h.asked; seen = s }

abbrev pub see : History → ℕ → ℕ → List ℕ → History
see h r b d = record { promised = h.promised; chosen = h.chosen; accepted = h.accepted; early = h.early; proposed = h.proposed; spared = h.spared; fast = h.fast; asked = h.asked; seen = note h.seen r b d }

note_cases : (k r c b : ℕ) → ((k ≡ r) × (c ≡ b) × ((eqb k r && eqb c b) ≡ true)) ⊎ ((eqb k r && eqb c b) ≡ false)
note_cases k r c b = go (eqb k r && eqb c b) refl
  where
    go : (t : Bool) → (eqb k r && eqb c b) ≡ t → ((k ≡ r) × (c ≡ b) × ((eqb k r && eqb c b) ≡ true)) ⊎ ((eqb k r && eqb c b) ≡ false)
    go true e = (let t = and_parts _ _ e in inl (eqb-true k r t.0, eqb-true c b t.1, e))
    go false e = inr e

pub note_here : (g : ℕ → ℕ → Option (List ℕ)) (r b : ℕ) (d : List ℕ) → note g r b d r b ≡ Some d
note_here g r b d = ap (λ t. cond t (Some d) (g r b)) (and_from _ _ (eq-eqb r r refl) (eq-eqb b b refl))

pub note_other : (g : ℕ → ℕ → Option (List ℕ)) (r b : ℕ) (d : List ℕ) (k c : ℕ) → (k ≡ r → c ≡ b → ⊥) → note g r b d k c ≡ g k c
note_other g r b d k c ne = elim (note_cases k r c b) [ inl t ↦ absurd (ne t.0 t.1) | inr e ↦ ap (λ t. cond t (Some d) (g k c)) e ]

pub note_back : (g : ℕ → ℕ → Option (List ℕ)) (r b : ℕ) (d : List ℕ) (k c : ℕ) (e : List ℕ) → note g r b d k c ≡ Some e → (g k c ≡ Some e) ⊎ ((k ≡ r) × (c ≡ b) × (d ≡ e))
note_back g r b d k c e is = elim (note_cases k r c b) [
  | inl t ↦ inr (t.0, t.1, (let u = ap (λ t. cond t (Some d) (g k c)) t.2 in cc))
  | inr n ↦ inl (sym (ap (λ t. cond t (Some d) (g k c)) n) ∙ is)
]

note_kept : (g : ℕ → ℕ → Option (List ℕ)) (r b : ℕ) (d : List ℕ) → g r b ≡ None → (k c : ℕ) (e : List ℕ) → g k c ≡ Some e → note g r b d k c ≡ Some e
note_kept g r b d none k c e is = elim (note_cases k r c b) [
  | inl t ↦ absurd (let u = ap (λ n. g n c) t.0 in let v = ap (λ n. g r n) t.1 in cc)
  | inr n ↦ (ap (λ t. cond t (Some d) (g k c)) n ∙ is)
]

pub see_advance : (f l r b : ℕ) (d : List ℕ) (h : History) → h.promised r ≤ b → h.seen r b ≡ None → Advance f l r h (see h r b d)
see_advance f l r b d h le none = record {
  promised_up = λ k. omega arith;
  chosen_kept = λ c x e. e;
  accepted_kept = λ k c e. e;
  accepted_new = λ k c e. inl e;
  early_kept = λ k x e. e;
  early_new = λ k x e. inl e;
  proposed_kept = λ c e. e;
  spared_kept = λ s e. e;
  fast_kept = λ x e. e;
  fast_new = λ x e. inl e;
  same_promised = λ k n. refl;
  same_accepted = λ k n c. refl;
  same_early = λ k n. refl;
  same_chosen = λ c n. refl;
  same_fast = λ n. refl;
  same_proposed = λ n. refl;
  same_spared = λ n. refl;
  asked_kept = λ c x e. e;
  seen_kept = note_kept h.seen r b d none;
  seen_new = λ k c x e. elim (note_back h.seen r b d k c x e) [ inl o ↦ inl o | inr t ↦ inr (let i = ap h.promised t.0 in let j = t.1 in omega arith) ];
  same_asked = λ c n. refl;
  same_seen = λ k n c. note_other h.seen r b d k c (λ e _. n e);
}

pub see_news : (f l r b : ℕ) (d : List ℕ) (h : History) → (c : Command) → h.asked b ≡ Some c → is_noop c ≡ false → News f l h (see h r b d)
see_news f l r b d h c asked real = record {
  chosen = λ c x e. inl e;
  early = λ k x e. inl e;
  fast = λ y e. inl e;
  asked = λ c x e. inl e;
  seen = λ k m e is. elim (note_back h.seen r b d k m e is) [ inl o ↦ inl o | inr t ↦ inr (c, ap h.asked t.1 ∙ asked, real) ];
  proposed = λ c e. inl e;
}
