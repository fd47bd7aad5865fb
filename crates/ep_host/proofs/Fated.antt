-- What became of frames out, and of more of them.
use Rattle.std.proofs.Common.{◌≡◌, ℕ, zero, suc, ◌+◌, eqb, Bool, true, false, cond, List, [], ◌∷◌, ◌++◌, Option, subst, refl, arith, sym, ap, ◌∙◌, append_assoc, Contains, All, ⊎_elim}
use Rattle.std.proofs.lemmas.List.{append-nil}
use Rattle.std.proofs.lemmas.Bool.Decides.{eqb_tells}
use Rattle.std.proofs.lemmas.List.Elements.{Contains-append_right, All-append, All-weaker, All-nil, All-push}
use Rattle.std.proofs.lemmas.Bool.{eqb-true}
use mathlib.Core.List.{IsPrefix}
use Rattle.ep_frame.specs.Meaning.{origin_at}
use Rattle.rtrb.specs.Ring.{sent, received}
use Rattle.ep_host.specs.Rings.{KeepsLink}
use Rattle.ep_host.specs.Tasks.{next}
use Rattle.ep_host.specs.Fates.{Fate, fate, frames_in, put_of, held_of, lost_of, count_of, put_for, held_for, counted_for, lost_in, counted_up, Keeps, Obeys, Delivers, Sends, Carries}
use Rattle.ep_host.specs.Weathers.{kind_at}
use Rattle.ep_host.specs.declared.delivery.Delivery.{Delivery}
use Rattle.ep_host.specs.declared.delivery.Delivery.TheVariants.{Put, Short, Dropped, Held, Repeated}
use Rattle.ep_host.specs.declared.link.Link.{Link}
use Rattle.ep_host.specs.declared.weather.Weather.{Weather}
use Rattle.ep_host.specs.declared.weather_kind.WeatherKind.{WeatherKind}

pub frames_in-append : (xs ys : List Fate) → frames_in (xs ++ ys) ≡ frames_in xs ++ frames_in ys
frames_in-append [] ys = refl
frames_in-append (x ∷ xs) ys = ap (λ (l : List (List ℕ)). x.frame ∷ l) (frames_in-append xs ys)

-- lists of what is one frame's, for one receiver
pub put_for-append : (p : ℕ) (xs ys : List Fate) → put_for p (xs ++ ys) ≡ put_for p xs ++ put_for p ys
put_for-append p [] ys = refl
put_for-append p (x ∷ xs) ys = let own : List (List ℕ) = cond (eqb (origin_at x.frame).to p) (put_of x.frame x.delivery) [] in
    ap (λ (l : List (List ℕ)). own ++ l) (put_for-append p xs ys) ∙ sym (append_assoc own (put_for p xs) (put_for p ys))

pub held_for-append : (p : ℕ) (xs ys : List Fate) → held_for p (xs ++ ys) ≡ held_for p xs ++ held_for p ys
held_for-append p [] ys = refl
held_for-append p (x ∷ xs) ys = let own : List (List ℕ) = cond (eqb (origin_at x.frame).to p) (held_of x.frame x.delivery) [] in
    ap (λ (l : List (List ℕ)). own ++ l) (held_for-append p xs ys) ∙ sym (append_assoc own (held_for p xs) (held_for p ys))

pub counted_for-append : (p : ℕ) (xs ys : List Fate) → counted_for p (xs ++ ys) ≡ counted_for p xs + counted_for p ys
counted_for-append p [] ys = omega arith
counted_for-append p (x ∷ xs) ys = let own : ℕ = cond (eqb (origin_at x.frame).to p) (count_of x.delivery) 0 in let e = counted_for-append p xs ys in sum own (counted_for p (xs ++ ys)) (counted_for p xs) (counted_for p ys) e
  where
    sum : (k n l m : ℕ) → n ≡ l + m → k + n ≡ (k + l) + m
    sum k n l m e = omega (arith, e)

pub lost_in-append : (xs ys : List Fate) → lost_in (xs ++ ys) ≡ lost_in xs + lost_in ys
lost_in-append [] ys = omega arith
lost_in-append (x ∷ xs) ys = sum (lost_of x.delivery) (lost_in (xs ++ ys)) (lost_in xs) (lost_in ys) (lost_in-append xs ys)
  where
    sum : (k n l m : ℕ) → n ≡ l + m → k + n ≡ (k + l) + m
    sum k n l m e = omega (arith, e)

-- so many more, and so many after that
pub counted_twice : (l n m : ℕ) → counted_up (counted_up l n) m ≡ counted_up l (n + m)
counted_twice l n zero = let e : n + 0 ≡ n = omega arith in rw e refl
counted_twice l n (suc m) = let e : n + suc m ≡ suc (n + m) = omega arith in rw e (ap (next (18446744073709551615)) (counted_twice l n m))

pub obeys_both : (ws : List Weather) (p n : ℕ) (xs ys : List Fate) → Obeys ws p n xs → Obeys ws p (counted_up n (counted_for p xs)) ys → Obeys ws p n (xs ++ ys)
obeys_both ws p n [] ys h k = k
obeys_both ws p n (x ∷ xs) ys h k = let own : ℕ = cond (eqb (origin_at x.frame).to p) (count_of x.delivery) 0 in
    (h.0, obeys_both ws p (counted_up n own) xs ys h.1 (subst (λ (m : ℕ). Obeys ws p m ys) (sym (counted_twice n own (counted_for p xs))) k))

-- links

pub keeps_self : (a : Link) → KeepsLink a a
keeps_self a = record { peer = refl; to = ((refl, refl, refl, refl), refl); from = ((refl, refl, refl, refl), refl) }

pub keeps_keeps : (a b c : Link) → KeepsLink a b → KeepsLink b c → KeepsLink a c
keeps_keeps a b c h k = record {
  peer = k.peer ∙ h.peer;
  to = ((k.to.0.0 ∙ h.to.0.0, k.to.0.1 ∙ h.to.0.1, k.to.0.2 ∙ h.to.0.2, k.to.0.3 ∙ h.to.0.3), k.to.1 ∙ h.to.1);
  from = ((k.from.0.0 ∙ h.from.0.0, k.from.0.1 ∙ h.from.0.1, k.from.0.2 ∙ h.from.0.2, k.from.0.3 ∙ h.from.0.3), k.from.1 ∙ h.from.1);
}

-- the frame is one of these, and goes to this peer
abbrev pub IsFated : ℕ → List Fate → List ℕ → Type 0
IsFated p fs b = Contains (frames_in fs) b × ((origin_at b).to ≡ p)

contains_here : (x : List ℕ) (xs : List (List ℕ)) → Contains (x ∷ xs) x
contains_here x xs = (0, omega arith, refl)

one : (b : List ℕ) → All (λ (x : List ℕ). x ≡ b) (b ∷ [])
one b = All-push (λ (x : List ℕ). x ≡ b) [] b (All-nil (λ (x : List ℕ). x ≡ b)) refl

maybe_one : (b : List ℕ) (is : Bool) → All (λ (x : List ℕ). x ≡ b) (cond is (b ∷ []) [])
maybe_one b true = one b
maybe_one b false = All-nil (λ (x : List ℕ). x ≡ b)

put_same : (b : List ℕ) (d : Delivery) → All (λ (x : List ℕ). x ≡ b) (put_of b d)
put_same b (Put put) = maybe_one b put
put_same b Short = All-nil (λ (x : List ℕ). x ≡ b)
put_same b Dropped = All-nil (λ (x : List ℕ). x ≡ b)
put_same b Held = All-nil (λ (x : List ℕ). x ≡ b)
put_same b (Repeated first second) = All-append (λ (x : List ℕ). x ≡ b) (cond first (b ∷ []) []) (cond second (b ∷ []) []) (maybe_one b first) (maybe_one b second)

held_same : (b : List ℕ) (d : Delivery) → All (λ (x : List ℕ). x ≡ b) (held_of b d)
held_same b (Put put) = All-nil (λ (x : List ℕ). x ≡ b)
held_same b Short = All-nil (λ (x : List ℕ). x ≡ b)
held_same b Dropped = All-nil (λ (x : List ℕ). x ≡ b)
held_same b Held = one b
held_same b (Repeated first second) = All-nil (λ (x : List ℕ). x ≡ b)

first_fated : (p : ℕ) (f : Fate) (fs : List Fate) (xs : List (List ℕ)) (to : Bool) → (to ≡ true → (origin_at f.frame).to ≡ p) → All (λ (x : List ℕ). x ≡ f.frame) xs → All (IsFated p (f ∷ fs)) (cond to xs [])
first_fated p f fs xs true h same = All-weaker (λ (x : List ℕ). x ≡ f.frame) (IsFated p (f ∷ fs)) (λ b e. subst (IsFated p (f ∷ fs)) (sym e) (contains_here f.frame (frames_in fs), h refl)) xs same
first_fated p f fs xs false h same = All-nil (IsFated p (f ∷ fs))

later_fated : (p : ℕ) (f : Fate) (fs : List Fate) (xs : List (List ℕ)) → All (IsFated p fs) xs → All (IsFated p (f ∷ fs)) xs
later_fated p f fs xs h = All-weaker (IsFated p fs) (IsFated p (f ∷ fs)) (λ b h. (Contains-append_right (f.frame ∷ []) (frames_in fs) b h.0, h.1)) xs h

-- what was put is among these frames, and goes to that peer
pub put_all : (p : ℕ) (fs : List Fate) → All (IsFated p fs) (put_for p fs)
put_all p [] = All-nil (IsFated p [])
put_all p (f ∷ fs) = let to = eqb (origin_at f.frame).to p in
    All-append (IsFated p (f ∷ fs)) (cond to (put_of f.frame f.delivery) []) (put_for p fs)
    (first_fated p f fs (put_of f.frame f.delivery) to (eqb-true (origin_at f.frame).to p) (put_same f.frame f.delivery))
    (later_fated p f fs (put_for p fs) (put_all p fs))

-- and so is what is held
pub held_all : (p : ℕ) (fs : List Fate) → All (IsFated p fs) (held_for p fs)
held_all p [] = All-nil (IsFated p [])
held_all p (f ∷ fs) = let to = eqb (origin_at f.frame).to p in
    All-append (IsFated p (f ∷ fs)) (cond to (held_of f.frame f.delivery) []) (held_for p fs)
    (first_fated p f fs (held_of f.frame f.delivery) to (eqb-true (origin_at f.frame).to p) (held_same f.frame f.delivery))
    (later_fated p f fs (held_for p fs) (held_all p fs))

pub sends_none : (ws : List Weather) (a : Link) → Sends ws [] a a
sends_none ws a = record { keeps = keeps_self a; put = sym (append-nil (sent a.to)); taken = refl; held = sym (append-nil a.held); count = refl; obeys = tt }

-- links through which more went
module _ (ws : List Weather) (ps qs : List Fate) (a b c : Link) where
  put_both : b.peer ≡ a.peer → sent b.to ≡ sent a.to ++ put_for a.peer ps → sent c.to ≡ sent b.to ++ put_for b.peer qs → sent c.to ≡ sent a.to ++ put_for a.peer (ps ++ qs)
  put_both peer h k = k ∙ ap (λ (l : List (List ℕ)). l ++ put_for b.peer qs) h ∙ ap (λ (p : ℕ). sent a.to ++ put_for a.peer ps ++ put_for p qs) peer
      ∙ append_assoc (sent a.to) (put_for a.peer ps) (put_for a.peer qs) ∙ ap (λ (l : List (List ℕ)). sent a.to ++ l) (sym (put_for-append a.peer ps qs))

  held_both : b.peer ≡ a.peer → b.held ≡ a.held ++ held_for a.peer ps → c.held ≡ b.held ++ held_for b.peer qs → c.held ≡ a.held ++ held_for a.peer (ps ++ qs)
  held_both peer h k = k ∙ ap (λ (l : List (List ℕ)). l ++ held_for b.peer qs) h ∙ ap (λ (p : ℕ). a.held ++ held_for a.peer ps ++ held_for p qs) peer
      ∙ append_assoc a.held (held_for a.peer ps) (held_for a.peer qs) ∙ ap (λ (l : List (List ℕ)). a.held ++ l) (sym (held_for-append a.peer ps qs))

  count_both : b.peer ≡ a.peer → b.count ≡ counted_up a.count (counted_for a.peer ps) → c.count ≡ counted_up b.count (counted_for b.peer qs) → c.count ≡ counted_up a.count (counted_for a.peer (ps ++ qs))
  count_both peer h k = k ∙ ap (λ (n : ℕ). counted_up n (counted_for b.peer qs)) h ∙ ap (λ (p : ℕ). counted_up (counted_up a.count (counted_for a.peer ps)) (counted_for p qs)) peer
      ∙ counted_twice a.count (counted_for a.peer ps) (counted_for a.peer qs) ∙ ap (counted_up a.count) (sym (counted_for-append a.peer ps qs))

  obeys_all : b.peer ≡ a.peer → b.count ≡ counted_up a.count (counted_for a.peer ps) → Obeys ws a.peer a.count ps → Obeys ws b.peer b.count qs → Obeys ws a.peer a.count (ps ++ qs)
  obeys_all peer is h k = obeys_both ws a.peer a.count ps qs h (subst (λ (n : ℕ). Obeys ws a.peer n qs) is (subst (λ (p : ℕ). Obeys ws p b.count qs) peer k))

pub sends_sends : (ws : List Weather) (ps qs : List Fate) (a b c : Link) → Sends ws ps a b → Sends ws qs b c → Sends ws (ps ++ qs) a c
sends_sends ws ps qs a b c h k = record {
  keeps = keeps_keeps a b c h.keeps k.keeps;
  put = put_both ws ps qs a b c h.keeps.peer h.put k.put;
  taken = k.taken ∙ h.taken;
  held = held_both ws ps qs a b c h.keeps.peer h.held k.held;
  count = count_both ws ps qs a b c h.keeps.peer h.count k.count;
  obeys = obeys_all ws ps qs a b c h.keeps.peer h.count h.obeys k.obeys;
}

pub sends_carries : (ws : List Weather) (ps : List Fate) (a b : Link) → Sends ws ps a b → Carries ws ps a b
sends_carries ws ps a b h = record { keeps = h.keeps; put = h.put; taken = ([], append-nil (received a.from) ∙ sym h.taken); held = h.held; count = h.count; obeys = h.obeys }

prefix_prefix : (xs ys zs : List (List ℕ)) → IsPrefix xs ys → IsPrefix ys zs → IsPrefix xs zs
prefix_prefix xs ys zs p q = (p.0 ++ q.0, sym (append_assoc xs p.0 q.0) ∙ ap (λ (l : List (List ℕ)). l ++ q.0) p.1 ∙ q.1)

pub carries_none : (ws : List Weather) (a : Link) → Carries ws [] a a
carries_none ws a = sends_carries ws [] a a (sends_none ws a)

pub carries_carries : (ws : List Weather) (ps qs : List Fate) (a b c : Link) → Carries ws ps a b → Carries ws qs b c → Carries ws (ps ++ qs) a c
carries_carries ws ps qs a b c h k = record {
  keeps = keeps_keeps a b c h.keeps k.keeps;
  put = put_both ws ps qs a b c h.keeps.peer h.put k.put;
  taken = prefix_prefix (received a.from) (received b.from) (received c.from) h.taken k.taken;
  held = held_both ws ps qs a b c h.keeps.peer h.held k.held;
  count = count_both ws ps qs a b c h.keeps.peer h.count k.count;
  obeys = obeys_all ws ps qs a b c h.keeps.peer h.count h.obeys k.obeys;
}

pub carries_keeps : (ws : List Weather) (ps : List Fate) (a b : Link) → Carries ws ps a b → KeepsLink a b
carries_keeps ws ps a b h = h.keeps

-- one frame for a link, by what it does with it, and for the others
pub delivers_sends : (ws : List Weather) (b : List ℕ) (d : Delivery) (kind : Option WeatherKind) (a c : Link) → Delivers kind b d a c → kind ≡ kind_at ws a.peer (next 18446744073709551615 a.count) → (origin_at b).to ≡ a.peer → Sends ws (fate b d ∷ []) a c
delivers_sends ws b d kind a c h word to =
    let own : eqb (origin_at b).to a.peer ≡ true = eqb_yes (origin_at b).to a.peer to in record {
      keeps = h.keeps;
      put = rw own (h.put ∙ ap (λ (l : List (List ℕ)). sent a.to ++ l) (sym (append-nil (put_of b d))));
      taken = h.taken;
      held = rw own (h.held ∙ ap (λ (l : List (List ℕ)). a.held ++ l) (sym (append-nil (held_of b d))));
      count = rw own (h.count ∙ ap (counted_up a.count) (none_more (count_of d)));
      obeys = (λ (_ : (origin_at b).to ≡ a.peer). subst (λ (k : Option WeatherKind). Keeps k d) word h.word, tt);
    }
  where
    none_more : (n : ℕ) → n ≡ n + 0
    none_more n = omega arith

    eqb_yes : (n m : ℕ) → n ≡ m → eqb n m ≡ true
    eqb_yes n m e = ⊎_elim (λ (t : _). t.0) (λ (t : _). absurd (t.1 e)) (eqb_tells n m)

pub passes_by : (ws : List Weather) (b : List ℕ) (d : Delivery) (a : Link) → ((origin_at b).to ≡ a.peer → ⊥) → Sends ws (fate b d ∷ []) a a
passes_by ws b d a other =
    let own : eqb (origin_at b).to a.peer ≡ false = eqb_no (origin_at b).to a.peer other in record {
      keeps = keeps_self a;
      put = rw own (sym (append-nil (sent a.to)));
      taken = refl;
      held = rw own (sym (append-nil a.held));
      count = rw own refl;
      obeys = (λ (to : (origin_at b).to ≡ a.peer). absurd (other to), tt);
    }
  where
    eqb_no : (n m : ℕ) → (n ≡ m → ⊥) → eqb n m ≡ false
    eqb_no n m differs = ⊎_elim (λ (t : _). absurd (differs t.1)) (λ (t : _). t.0) (eqb_tells n m)
