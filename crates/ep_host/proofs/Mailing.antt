-- Outlets: what goes through them, what is held there and let go, and that each held frame stays in the outlet of its receiver.
use Rattle.std.proofs.Common.{◌≡◌, ℕ, ◌+◌, ◌<◌, ◌≤◌, eqb, Bool, true, false, cond, List, [], ◌∷◌, ◌++◌, length, get_or, set, take, Option, refl, sym, ap, ◌∙◌, subst, arith, length-append, append_assoc, All, ⊎_elim}
use Rattle.std.proofs.lemmas.List.{append-nil, set-get_or, take_more, get_or_append_left, get_or_push}
use Rattle.std.proofs.lemmas.Bool.{cases_lt, eq-eqb, ne_eqb}
use Rattle.std.proofs.lemmas.List.Elements.{All-nil, All-push, All-append, All-weaker, All-same}
use Rattle.ep_frame.specs.Meaning.{origin_at}
use Rattle.ep_host.specs.Fates.{Fate, fate, put_of, held_of, count_of, lost_of, put_for, held_for, counted_for, lost_in, counted_up, Keeps, Obeys}
use Rattle.ep_host.specs.Outboxes.{Outbox, IsNewPort, AreNew, AreAddressed, KeepsPort, PutsIn, Posts, Passes, IsLostPast, Mails, IsMailed, CountsFromNone, LetsGo}
use Rattle.ep_host.specs.Pointwise.{Each, EachAt}
use Rattle.ep_host.specs.Sent.{IsCopied}
use Rattle.ep_host.specs.Setting.{LosesAll}
use Rattle.ep_host.specs.Tasks.{next}
use Rattle.ep_host.specs.Weathers.{kind_at, own_of}
use Rattle.ep_host.specs.Ports.{put_by}
use Rattle.ep_host.specs.declared.port.Port.{Port}
use Rattle.ep_host.specs.declared.delivery.Delivery.{Delivery}
use Rattle.ep_host.specs.declared.delivery.Delivery.TheVariants.{Put}
use Rattle.ep_host.specs.declared.outlet.Outlet.{Outlet}
use Rattle.ep_host.specs.declared.weather.Weather.{Weather}
use Rattle.ep_host.specs.declared.weather_kind.WeatherKind.{WeatherKind}
use Rattle.ep_host.proofs.Copying.{copied_none, copied_kept, copied_lost}
use Rattle.ep_host.proofs.Fated.{IsFated, frames_in-append, put_for-append, held_for-append, counted_for-append, lost_in-append, counted_twice, obeys_both, held_all}
use Rattle.ep_host.proofs.Places.{place_at, place_self, place_place}
use Rattle.ep_host.proofs.Releasing.{none_left, next_out}

-- One outlet.

none_more : (n : ℕ) → n ≡ n + 0
none_more n = omega arith

-- the same port

pub port_self : (a : Outlet) → KeepsPort a a
port_self a = record { leads = (refl, refl); taken = refl }

pub port_port : (a b c : Outlet) → KeepsPort a b → KeepsPort b c → KeepsPort a c
port_port a b c h k = record { leads = (k.leads.0 ∙ h.leads.0, k.leads.1 ∙ h.leads.1); taken = k.taken ∙ h.taken }

pub passes_none : (ws : List Weather) (to : ℕ) (a : Outlet) → Passes ws [] to a a
passes_none ws to a = record { keeps = port_self a; put = sym (append-nil (put_by a.port)); held = sym (append-nil a.held); count = refl; obeys = tt }

pub passes_passes : (ws : List Weather) (ps qs : List Fate) (to : ℕ) (a b c : Outlet) → Passes ws ps to a b → Passes ws qs to b c → Passes ws (ps ++ qs) to a c
passes_passes ws ps qs to a b c h k = record {
  keeps = port_port a b c h.keeps k.keeps;
  put = k.put ∙ ap (λ (l : List (List ℕ)). l ++ put_for to qs) h.put ∙ append_assoc (put_by a.port) (put_for to ps) (put_for to qs) ∙ ap (λ (l : List (List ℕ)). put_by a.port ++ l) (sym (put_for-append to ps qs));
  held = k.held ∙ ap (λ (l : List (List ℕ)). l ++ held_for to qs) h.held ∙ append_assoc a.held (held_for to ps) (held_for to qs) ∙ ap (λ (l : List (List ℕ)). a.held ++ l) (sym (held_for-append to ps qs));
  count = k.count ∙ ap (λ (n : ℕ). counted_up n (counted_for to qs)) h.count ∙ counted_twice a.count (counted_for to ps) (counted_for to qs) ∙ ap (counted_up a.count) (sym (counted_for-append to ps qs));
  obeys = obeys_both ws to a.count ps qs h.obeys (subst (λ (n : ℕ). Obeys ws to n qs) h.count k.obeys);
}

-- one frame for it, by what it does with it, and one for another
passes_here : (ws : List Weather) (b : List ℕ) (d : Delivery) (kind : Option WeatherKind) (to : ℕ) (a c : Outlet) → Posts kind b d a c → kind ≡ kind_at ws to (next 18446744073709551615 a.count) → (origin_at b).to ≡ to → Passes ws (fate b d ∷ []) to a c
passes_here ws b d kind to a c h word is =
    let own : eqb (origin_at b).to to ≡ true = eq-eqb (origin_at b).to to is in record {
      keeps = h.keeps;
      put = rw own (h.put ∙ ap (λ (l : List (List ℕ)). put_by a.port ++ l) (sym (append-nil (put_of b d))));
      held = rw own (h.held ∙ ap (λ (l : List (List ℕ)). a.held ++ l) (sym (append-nil (held_of b d))));
      count = rw own (h.count ∙ ap (counted_up a.count) (none_more (count_of d)));
      obeys = (λ (_ : (origin_at b).to ≡ to). subst (λ (k : Option WeatherKind). Keeps k d) word h.word, tt);
    }

passes_other : (ws : List Weather) (b : List ℕ) (d : Delivery) (to : ℕ) (a : Outlet) → ((origin_at b).to ≡ to → ⊥) → Passes ws (fate b d ∷ []) to a a
passes_other ws b d to a other =
    let own : eqb (origin_at b).to to ≡ false = ne_eqb (origin_at b).to to other in record {
      keeps = port_self a;
      put = rw own (sym (append-nil (put_by a.port)));
      held = rw own (sym (append-nil a.held));
      count = rw own refl;
      obeys = (λ (is : (origin_at b).to ≡ to). absurd (other is), tt);
    }

-- All outlets.

-- a frame that goes to the outlet at its receiver's place
pub passes_at :
    (ws : List Weather) (b : List ℕ) (d : Delivery) (kind : Option WeatherKind) (outlets : List Outlet) (p : ℕ) (c e : Outlet) → p ≡ (origin_at b).to → p < length outlets →
    kind ≡ kind_at ws p (next 18446744073709551615 (get_or outlets p e).count) → Posts kind b d (get_or outlets p e) c → EachAt (Passes ws (fate b d ∷ [])) outlets (set outlets p c)
passes_at ws b d kind outlets p c e is low word h =
    place_at (Passes ws (fate b d ∷ [])) outlets p c e (λ k f below other. passes_other ws b d k (get_or outlets k f) (λ to. other (sym to ∙ sym is))) low (passes_here ws b d kind p (get_or outlets p e) c h word (sym is))

-- the outbox

pub mails_none : (a : Outbox) → Mails [] 0 a a
mails_none a = record { is = refl; outlets = place_self (Passes a.weather []) a.outlets (λ k d low. passes_none a.weather k (get_or a.outlets k d)); strays = All-nil (IsLostPast (length a.outlets)); lost = refl }

pub mails_mails : (ps qs : List Fate) (n m : ℕ) (a b c : Outbox) → Mails ps n a b → Mails qs m b c → Mails (ps ++ qs) (n + m) a c
mails_mails ps qs n m a b c h k =
    let weather : b.weather ≡ a.weather = ap (λ (o : Outbox). o.weather) h.is in
    let later : EachAt (Passes a.weather qs) b.outlets c.outlets = subst (λ (ws : List Weather). EachAt (Passes ws qs) b.outlets c.outlets) weather k.outlets in record {
      is = k.is ∙ ap (λ (o : Outbox). record o { outlets = c.outlets; lost = c.lost }) h.is;
      outlets = place_place (Passes a.weather ps) (Passes a.weather qs) (Passes a.weather (ps ++ qs)) (passes_passes a.weather ps qs) a.outlets b.outlets c.outlets h.outlets later;
      strays = All-append (IsLostPast (length a.outlets)) ps qs h.strays (subst (λ (l : ℕ). All (IsLostPast l) qs) h.outlets.len k.strays);
      lost = k.lost ∙ ap (λ (l : ℕ). counted_up l (lost_in qs + m)) h.lost ∙ counted_twice a.lost (lost_in ps + n) (lost_in qs + m) ∙ ap (counted_up a.lost) (sum (lost_in ps) (lost_in qs) (lost_in (ps ++ qs)) n m (lost_in-append ps qs));
    }
  where
    sum : (p q both n m : ℕ) → both ≡ p + q → (p + n) + (q + m) ≡ both + (n + m)
    sum p q both n m e = omega (arith, e)

-- an outbox of its parts
abbrev pub outbox : ℕ → List Weather → List Outlet → Port (List ℕ) → ℕ → Outbox
outbox me weather outlets inbox lost = record { me = me; weather = weather; outlets = outlets; inbox = inbox; lost = lost }

-- one frame
pub mails_one :
    (ws : List Weather) (b : List ℕ) (d : Delivery) (a : Outbox) (ys : List Outlet) (after : ℕ) → ws ≡ a.weather → EachAt (Passes ws (fate b d ∷ [])) a.outlets ys → (length a.outlets ≤ (origin_at b).to → d ≡ Put false) →
    after ≡ counted_up a.lost (lost_of d) → Mails (fate b d ∷ []) 0 a (record a { outlets = ys; lost = after })
mails_one ws b d a ys after weather outlets stray lost = record {
  is = refl;
  outlets = subst (λ (w : List Weather). EachAt (Passes w (fate b d ∷ [])) a.outlets ys) weather outlets;
  strays = All-push (IsLostPast (length a.outlets)) [] (fate b d) (All-nil (IsLostPast (length a.outlets))) stray;
  lost = lost ∙ ap (counted_up a.lost) (one (lost_of d));
}
  where
    one : (n : ℕ) → n ≡ (n + 0) + 0
    one n = omega arith

pub mailed_none : (a : Outbox) → IsMailed [] 0 a a
mailed_none a = record { fates = []; frames = refl; mails = mails_none a }

pub mailed_one : (out : List (List ℕ)) (o : List ℕ) (d : Delivery) (a b c : Outbox) → IsMailed out 0 a b → Mails (fate o d ∷ []) 0 b c → IsMailed (out ++ o ∷ []) 0 a c
mailed_one out o d a b c h k = record {
  fates = h.fates ++ fate o d ∷ [];
  frames = frames_in-append h.fates (fate o d ∷ []) ∙ ap (λ (l : List (List ℕ)). l ++ o ∷ []) h.frames;
  mails = mails_mails h.fates (fate o d ∷ []) 0 0 a b c h.mails k;
}

-- so many more are lost
pub mailed_lost : (out : List (List ℕ)) (n : ℕ) (a b c : Outbox) → IsMailed out 0 a b → c ≡ record b { lost = counted_up b.lost n } → IsMailed out n a c
mailed_lost out n a b c h is = subst (λ (o : Outbox). IsMailed out n a o) (sym is) record {
  fates = h.fates;
  frames = h.frames;
  mails = record {
    is = ap (λ (o : Outbox). record o { lost = counted_up b.lost n }) h.mails.is;
    outlets = h.mails.outlets;
    strays = h.mails.strays;
    lost = ap (λ (l : ℕ). counted_up l n) h.mails.lost ∙ counted_twice a.lost (lost_in h.fates + 0) n ∙ ap (counted_up a.lost) (sum (lost_in h.fates) n);
  };
}
  where
    sum : (p n : ℕ) → (p + 0) + n ≡ p + n
    sum p n = omega arith

-- Each held frame stays in the outlet of its receiver.

pub new_addressed : (inboxes : List (Port (List ℕ))) (outlets : List Outlet) → AreNew inboxes outlets → AreAddressed outlets
new_addressed inboxes outlets h = λ k d low.
    let low' : k < length inboxes = omega (arith, h.len) in
    All-same (λ (b : List ℕ). (origin_at b).to ≡ k) (get_or outlets k d).held [] (h.at k d.port d low').held (All-nil (λ (b : List ℕ). (origin_at b).to ≡ k))

pub passed_addressed : (ws : List Weather) (fates : List Fate) (xs ys : List Outlet) → EachAt (Passes ws fates) xs ys → AreAddressed xs → AreAddressed ys
passed_addressed ws fates xs ys h was = λ k d low.
    let low' : k < length xs = omega (arith, h.len) in
    let P : List ℕ → Type 0 = λ (b : List ℕ). (origin_at b).to ≡ k in
    All-same P (get_or ys k d).held ((get_or xs k d).held ++ held_for k fates) (h.at k d low').held
    (All-append P (get_or xs k d).held (held_for k fates) (was k d low') (All-weaker (IsFated k fates) P (λ b f. f.1) (held_for k fates) (held_all k fates)))

pub counted_addressed : (xs ys : List Outlet) → Each CountsFromNone xs ys → AreAddressed xs → AreAddressed ys
counted_addressed xs ys h was = λ k d low.
    let low' : k < length xs = omega (arith, h.len) in
    All-same (λ (b : List ℕ). (origin_at b).to ≡ k) (get_or ys k d).held (get_or xs k d).held (ap (λ (o : Outlet). o.held) (h.at k d low')) (was k d low')

pub let_go_addressed : (n m : ℕ) (xs ys : List Outlet) → LosesAll LetsGo n m xs ys → AreAddressed ys
let_go_addressed n m xs ys h = λ k d low.
    let low' : k < length xs = (let l = h.places in omega (arith, l)) in
    All-same (λ (b : List ℕ). (origin_at b).to ≡ k) (get_or ys k d).held [] (h.at k d low').held (All-nil (λ (b : List ℕ). (origin_at b).to ≡ k))

-- Held frames of one outlet are let go.

pub record LettingGo (missed gone : ℕ) (a b : Outlet) : Type 0 where
  pub keeps : KeepsPort a b
  pub out : List (List ℕ)
  pub is : a.held ≡ out ++ b.held
  pub len : length out ≡ gone
  pub released : List (List ℕ)
  pub copied : IsCopied out released missed
  pub put : put_by b.port ≡ put_by a.port ++ released
  pub count : b.count ≡ a.count

pub letting_none : (a : Outlet) → LettingGo 0 0 a a
letting_none a = record { keeps = port_self a; out = []; is = refl; len = refl; released = []; copied = copied_none [] refl; put = sym (append-nil (put_by a.port)); count = refl }

pub few_let_go : (missed gone : ℕ) (a b : Outlet) → LettingGo missed gone a b → missed ≤ gone
few_let_go missed gone a b h = let c = h.copied.counted in let l = h.len in omega (arith, c, l)

-- one more was put, or is lost
pub letting_more :
    (put : Bool) (missed gone : ℕ) (f : List ℕ) (a b c e : Outlet) → LettingGo missed gone a b → b.held ≡ f ∷ c.held → c.port ≡ b.port → c.count ≡ b.count → PutsIn f put c e →
    LettingGo (cond put missed (missed + 1)) (gone + 1) a e
letting_more put missed gone f a b c e h held port count p = record {
  keeps = port_port a b e h.keeps (subst (λ (q : Port (List ℕ)). KeepsPort (record b { port = q }) e) port record { leads = p.keeps.leads; taken = p.keeps.taken });
  out = h.out ++ f ∷ [];
  is = next_out a.held h.out b.held e.held f h.is (held ∙ ap (λ (l : List (List ℕ)). f ∷ l) (sym p.held));
  len = (let l = h.len in omega (arith, length-append h.out (f ∷ []), l));
  released = h.released ++ cond put (f ∷ []) [];
  copied = copies put;
  put = p.put_is ∙ ap (λ (q : Port (List ℕ)). put_by q ++ cond put (f ∷ []) []) port ∙ ap (λ (l : List (List ℕ)). l ++ cond put (f ∷ []) []) h.put ∙ append_assoc (put_by a.port) h.released (cond put (f ∷ []) []);
  count = p.count ∙ count ∙ h.count;
}
  where
    copies : (q : Bool) → IsCopied (h.out ++ f ∷ []) (h.released ++ cond q (f ∷ []) []) (cond q missed (missed + 1))
    copies true = copied_kept h.out h.released missed f h.copied
    copies false = subst (λ (l : List (List ℕ)). IsCopied (h.out ++ f ∷ []) l (missed + 1)) (sym (append-nil h.released)) (copied_lost h.out h.released missed f h.copied)

pub letting_all : (missed gone : ℕ) (a b : Outlet) → length a.held ≤ gone → LettingGo missed gone a b → LetsGo missed a b
letting_all missed gone a b all h =
    let held : b.held ≡ [] = none_left a.held h.out b.held gone h.is h.len all in
    let out : a.held ≡ h.out = h.is ∙ ap (λ (l : List (List ℕ)). h.out ++ l) held ∙ append-nil h.out in record {
      keeps = h.keeps;
      released = h.released;
      copied = subst (λ (l : List (List ℕ)). IsCopied l h.released missed) (sym out) h.copied;
      put = h.put;
      held = held;
      count = h.count;
    }

pub letting_end : (missed gone : ℕ) (a b c : Outlet) → gone < length a.held → b.held ≡ [] → LettingGo missed gone a b → LetsGo missed a c
letting_end missed gone a b c low empty h =
    let out : a.held ≡ h.out = h.is ∙ ap (λ (l : List (List ℕ)). h.out ++ l) empty ∙ append-nil h.out in
    let l = h.len in absurd (omega (arith, l, ap (length {A = List ℕ}) out))

-- Making.

-- an outlet to one inbox more
pub new_more :
    (inboxes : List (Port (List ℕ))) (outlets : List Outlet) (q port : Port (List ℕ)) → IsNewPort q port → AreNew inboxes outlets →
    AreNew (inboxes ++ q ∷ []) (outlets ++ record { port = port; count = 0; held = [] } ∷ [])
new_more inboxes outlets q port new h = record {
  len = (let l = h.len in omega (arith, l, length-append outlets (own ∷ []), length-append inboxes (q ∷ [])));
  at = λ k p r below. ⊎_elim
      (λ (l : k < length inboxes).
      let m : k < length outlets = (let n = h.len in omega (arith, n, l)) in
      rw (get_or_append_left inboxes (q ∷ []) p k l, get_or_append_left outlets (own ∷ []) r k m) (h.at k p r l))
      (λ (g : length inboxes ≤ k).
      let at : length inboxes ≡ k = (let n = length-append inboxes (q ∷ []) in omega (arith, n, below, g)) in
      let at' : length outlets ≡ k = (let n = h.len in omega (arith, n, at)) in
      rw (get_or_push inboxes q p k at, get_or_push outlets own r k at') record { port = new; count = refl; held = refl })
      (cases_lt k (length inboxes));
}
  where
    own : Outlet
    own = record { port = port; count = 0; held = [] }

-- Setting.

-- an outlet with the same held frames
pub same_held_there : (xs : List Outlet) (i : ℕ) (d : Outlet) (held : List (List ℕ)) → held ≡ (get_or xs i d).held → set xs i (record (get_or xs i d) { held = held }) ≡ xs
same_held_there xs i d held e = ap (λ (h : List (List ℕ)). set xs i (record (get_or xs i d) { held = h })) e ∙ set-get_or xs i d

own_push : (me : ℕ) (ws : List Weather) (w : Weather) → own_of me (ws ++ w ∷ []) ≡ own_of me ws ++ cond (eqb w.from me) (w ∷ []) []
own_push me [] w = refl
own_push me (v ∷ ws) w = split (eqb v.from me) (own_push me ws w)
  where
    split : (b : Bool) → own_of me (ws ++ w ∷ []) ≡ own_of me ws ++ cond (eqb w.from me) (w ∷ []) [] →
        cond b (v ∷ own_of me (ws ++ w ∷ [])) (own_of me (ws ++ w ∷ [])) ≡ cond b (v ∷ own_of me ws) (own_of me ws) ++ cond (eqb w.from me) (w ∷ []) []
    split true e = ap (λ (l : List Weather). v ∷ l) e
    split false e = e

own_next : (me : ℕ) (ws : List Weather) (i : ℕ) (w : Weather) → i < length ws → w ≡ get_or ws i w → own_of me (take (i + 1) ws) ≡ own_of me (take i ws) ++ cond (eqb w.from me) (w ∷ []) []
own_next me ws i w low is = ap (own_of me) (take_more ws i w low ∙ ap (λ (v : Weather). take i ws ++ v ∷ []) (sym is)) ∙ own_push me (take i ws) w

pub own_more :
    (me : ℕ) (own more ws : List Weather) (i : ℕ) (w : Weather) → i < length ws → w ≡ get_or ws i w → own ≡ own_of me (take i ws) → eqb w.from me ≡ true → more ≡ own ++ w ∷ [] → more ≡ own_of me (take (i + 1) ws)
own_more me own more ws i w low is so_far mine pushed = rw (own_next me ws i w low is, mine) (pushed ∙ ap (λ (l : List Weather). l ++ w ∷ []) so_far)

pub own_past : (me : ℕ) (own ws : List Weather) (i : ℕ) (w : Weather) → i < length ws → w ≡ get_or ws i w → own ≡ own_of me (take i ws) → eqb w.from me ≡ false → own ≡ own_of me (take (i + 1) ws)
own_past me own ws i w low is so_far other = rw (own_next me ws i w low is, other) (so_far ∙ sym (append-nil (own_of me (take i ws))))
