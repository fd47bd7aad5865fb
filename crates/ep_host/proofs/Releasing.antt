-- Held frames are let go, and the weather is set: the loops, and that both keep the account.
use Rattle.std.proofs.Common.{Result, Ok, Err, OnOk, OnErr, ◌≡◌, ℕ, ◌+◌, ◌<◌, ◌≤◌, List, [], ◌∷◌, ◌++◌, length, get_or, set, take, drop, refl, sym, ap, ◌∙◌, subst, arith, length-append, append_assoc, All, Contains}
use Rattle.std.proofs.lemmas.List.{append-nil, get_or_default, take_at, set-get_or}
use Rattle.std.proofs.lemmas.List.Elements.{All-nil, All-cons, All-head, All-tail, All-append, All-same, All-weaker}
use Rattle.rtrb.specs.Ring.{sent, received}
use Rattle.ep_journal.specs.declared.entry.Entry.{Entry}
use Rattle.ep_replica.specs.Kept.{start_of}
use Rattle.ep_host.specs.Fates.{Releases}
use Rattle.ep_host.specs.Host.{IsHost}
use Rattle.ep_host.specs.Node.{Node}
use Rattle.ep_host.specs.Pointwise.{Each}
use Rattle.ep_host.specs.Rings.{KeepsLink, IsOut, IsTaken, IsBooked, frames_handled}
use Rattle.ep_host.specs.Sent.{IsThinned, none, kept, lost, IsCopied}
use Rattle.ep_host.specs.Setting.{CountsAnew, SetsWeather, IsReleased, ReleasesAll}
use Rattle.ep_host.specs.declared.link.Link.{Link}
use Rattle.ep_host.specs.declared.weather.Weather.{Weather}
use Rattle.ep_host.proofs.Booking.{peers_still}
use Rattle.ep_host.proofs.Copying.{copied_none, copied_kept, copied_lost}
use Rattle.ep_host.proofs.Fated.{keeps_self, keeps_keeps}
use Rattle.ep_host.proofs.Hosts.{Stays, stays_self, host_stays, host_same}
use Rattle.ep_host.proofs.Places.{each_weaker, each_set}

-- the held frames of one link

-- so many held frames were let go
pub record Releasing (missed gone : ℕ) (a b : Link) : Type 0 where
  pub keeps : KeepsLink a b
  pub out : List (List ℕ)
  pub is : a.held ≡ out ++ b.held
  pub len : length out ≡ gone
  pub released : List (List ℕ)
  pub copied : IsCopied out released missed
  pub put : sent b.to ≡ sent a.to ++ released
  pub taken : received b.from ≡ received a.from
  pub count : b.count ≡ a.count

pub releasing_none : (a : Link) → Releasing 0 0 a a
releasing_none a = record { keeps = keeps_self a; out = []; is = refl; len = refl; released = []; copied = copied_none [] refl; put = sym (append-nil (sent a.to)); taken = refl; count = refl }

pub few_missed : (missed gone : ℕ) (a b : Link) → Releasing missed gone a b → missed ≤ gone
few_missed missed gone a b h = let c = h.copied.counted in let l = h.len in omega (arith, c, l)

pub next_out : (xs out held held' : List (List ℕ)) (f : List ℕ) → xs ≡ out ++ held → held ≡ f ∷ held' → xs ≡ (out ++ f ∷ []) ++ held'
next_out xs out held held' f e h = e ∙ ap (λ (l : List (List ℕ)). out ++ l) h ∙ sym (append_assoc out (f ∷ []) held')

-- one more was put
pub releasing_put :
    (missed gone : ℕ) (f : List ℕ) (a b c : Link) → Releasing missed gone a b → KeepsLink b c → b.held ≡ f ∷ c.held → sent c.to ≡ sent b.to ++ f ∷ [] → received c.from ≡ received b.from → c.count ≡ b.count → Releasing missed (gone + 1) a c
releasing_put missed gone f a b c h keeps held put taken count = record {
  keeps = keeps_keeps a b c h.keeps keeps;
  out = h.out ++ f ∷ [];
  is = next_out a.held h.out b.held c.held f h.is held;
  len = (let l = h.len in omega (arith, length-append h.out (f ∷ []), l));
  released = h.released ++ f ∷ [];
  copied = copied_kept h.out h.released missed f h.copied;
  put = put ∙ ap (λ (l : List (List ℕ)). l ++ f ∷ []) h.put ∙ append_assoc (sent a.to) h.released (f ∷ []);
  taken = taken ∙ h.taken;
  count = count ∙ h.count;
}

-- one more is lost
pub releasing_lost :
    (missed gone : ℕ) (f : List ℕ) (a b c : Link) → Releasing missed gone a b → KeepsLink b c → b.held ≡ f ∷ c.held → sent c.to ≡ sent b.to ++ [] → received c.from ≡ received b.from → c.count ≡ b.count → Releasing (missed + 1) (gone + 1) a c
releasing_lost missed gone f a b c h keeps held put taken count = record {
  keeps = keeps_keeps a b c h.keeps keeps;
  out = h.out ++ f ∷ [];
  is = next_out a.held h.out b.held c.held f h.is held;
  len = (let l = h.len in omega (arith, length-append h.out (f ∷ []), l));
  released = h.released;
  copied = copied_lost h.out h.released missed f h.copied;
  put = put ∙ append-nil (sent b.to) ∙ h.put;
  taken = taken ∙ h.taken;
  count = count ∙ h.count;
}

pub none_left : (xs out held : List (List ℕ)) (gone : ℕ) → xs ≡ out ++ held → length out ≡ gone → length xs ≤ gone → held ≡ []
none_left xs out [] gone e l h = refl
none_left xs out (f ∷ fs) gone e l h = absurd (omega (arith, length-append out (f ∷ fs), ap (length {A = List ℕ}) e))

-- all were let go
pub releasing_all : (missed gone : ℕ) (a b : Link) → length a.held ≤ gone → Releasing missed gone a b → Releases missed a b
releasing_all missed gone a b all h =
    let held : b.held ≡ [] = none_left a.held h.out b.held gone h.is h.len all in
    let out : a.held ≡ h.out = h.is ∙ ap (λ (l : List (List ℕ)). h.out ++ l) held ∙ append-nil h.out in record {
      keeps = h.keeps;
      released = h.released;
      copied = subst (λ (l : List (List ℕ)). IsCopied l h.released missed) (sym out) h.copied;
      put = h.put;
      taken = h.taken;
      held = held;
      count = h.count;
    }

-- none is left where none was held
pub releasing_end : (missed gone : ℕ) (a b c : Link) → gone < length a.held → b.held ≡ [] → Releasing missed gone a b → Releases missed a c
releasing_end missed gone a b c low empty h =
    let out : a.held ≡ h.out = h.is ∙ ap (λ (l : List (List ℕ)). h.out ++ l) empty ∙ append-nil h.out in
    let l = h.len in absurd (omega (arith, l, ap (length {A = List ℕ}) out))

keeps_counted : (a : Link) (n : ℕ) → KeepsLink a (record a { count = n })
keeps_counted a n = record { peer = refl; to = ((refl, refl, refl, refl), refl); from = ((refl, refl, refl, refl), refl) }

-- the account

thin_all : (P : List ℕ → Type 0) {xs ys : List (List ℕ)} → IsThinned xs ys → All P ys → All P xs
thin_all P none h = h
thin_all P (kept {xs} {ys} x t) h = All-cons P x xs (All-head P x ys h) (thin_all P t (All-tail P x ys h))
thin_all P (lost {xs} {ys} y t) h = thin_all P t (All-tail P y ys h)

-- what a link put and holds still goes to its peer out of these entries
pub record Accounts (es : List Entry) (a b : Link) : Type 0 where
  pub keeps : KeepsLink a b
  pub put : All (IsOut es a.peer) (sent a.to) → All (IsOut es a.peer) a.held → All (IsOut es a.peer) (sent b.to)
  pub held : All (IsOut es a.peer) a.held → All (IsOut es a.peer) b.held
  pub taken : received b.from ≡ received a.from

taken_there : (es : List Entry) (before after : List Link) (f : List ℕ) → Each (Accounts es) before after → IsTaken before f → IsTaken after f
taken_there es before after f h t =
    let low : t.0 < length after = let l = t.2 in omega (arith, h.len) in (
      t.0,
      get_or after t.0 t.1,
      low,
      get_or_default after t.0 (get_or after t.0 t.1) t.1 low,
      subst (λ (l : List (List ℕ)). Contains l f) (sym (h.at t.0 t.1 t.2).taken) (subst (λ (l : Link). Contains (received l.from) f) (sym t.3) t.4),
    )

accounts_keep : (es : List Entry) (a b : Link) → Accounts es a b → KeepsLink a b
accounts_keep es a b h = h.keeps

pub accounts_book : (me : ℕ) (es : List Entry) (before after : List Link) → Each (Accounts es) before after → IsBooked me es before → IsBooked me es after
accounts_book me es before after h was = record {
  peers = peers_still me before after (each_weaker (Accounts es) KeepsLink (accounts_keep es) before after h) was.peers;
  put = λ k d low. let low' : k < length before = omega (arith, h.len) in let e = h.at k d low' in
      subst (λ (p : ℕ). All (IsOut es p) (sent (get_or after k d).to)) (sym e.keeps.peer) (e.put (was.put k d low') (was.held k d low'));
  held = λ k d low. let low' : k < length before = omega (arith, h.len) in let e = h.at k d low' in
      subst (λ (p : ℕ). All (IsOut es p) (get_or after k d).held) (sym e.keeps.peer) (e.held (was.held k d low'));
  taken = All-weaker (IsTaken before) (IsTaken after) (λ f t. taken_there es before after f h t) (frames_handled es) was.taken;
}

released_account : (es : List Entry) (m : ℕ) (a b : Link) → Releases m a b → Accounts es a b
released_account es m a b r = record {
  keeps = r.keeps;
  put = λ put held. All-same (IsOut es a.peer) (sent b.to) (sent a.to ++ r.released) r.put (All-append (IsOut es a.peer) (sent a.to) r.released put (thin_all (IsOut es a.peer) r.copied.thin held));
  held = λ held. All-same (IsOut es a.peer) b.held [] r.held (All-nil (IsOut es a.peer));
  taken = r.taken;
}

counted_account : (es : List Entry) (a b : Link) → CountsAnew a b → Accounts es a b
counted_account es a b is = subst (λ (l : Link). Accounts es a l) (sym is) record { keeps = keeps_counted a 0; put = λ put held. put; held = λ held. held; taken = refl }

pub released_books : (me : ℕ) (es : List Entry) (n m : ℕ) (before after : List Link) → ReleasesAll n m before after → IsBooked me es before → IsBooked me es after
released_books me es n m before after r was = accounts_book me es before after
    record { len = r.places; at = λ i d low. released_account es (get_or r.missed i 0) (get_or before i d) (get_or after i d) (r.at i d low) } was

pub counted_books : (me : ℕ) (es : List Entry) (before after : List Link) → Each CountsAnew before after → IsBooked me es before → IsBooked me es after
counted_books me es before after h was = accounts_book me es before after (each_weaker CountsAnew (Accounts es) (counted_account es) before after h) was

-- a list in the place of one as long
pub in_place : {X : Type 0} (xs ys : List X) (n : ℕ) → length ys ≡ n → take n (ys ++ drop (length ys) xs) ≡ ys
in_place xs ys n e = take_at ys (drop (length ys) xs) n e

-- a link with the same held frames
pub same_held : (xs : List Link) (i : ℕ) (d : Link) (held : List (List ℕ)) → held ≡ (get_or xs i d).held → set xs i (record (get_or xs i d) { held = held }) ≡ xs
same_held xs i d held e = ap (λ (h : List (List ℕ)). set xs i (record (get_or xs i d) { held = h })) e ∙ set-get_or xs i d

-- the hosts

each_keep : (a b : List Link) → Each CountsAnew a b → Each KeepsLink a b
each_keep a b h = each_weaker CountsAnew KeepsLink (λ x y is. subst (λ (l : Link). KeepsLink x l) (sym is) (keeps_counted x 0)) a b h

pub weather_stays : (ws : List Weather) (a b : Node) → SetsWeather ws a b → Stays a b
weather_stays ws a b s = subst (λ (n : Node). Stays a n) (sym s.is) record { faults = refl; me = refl; start = refl; rings = each_keep a.links s.links s.counts }

pub released_stays : (a b : Node) → IsReleased a b → Stays a b
released_stays a b r = record {
  faults = ap (λ (n : Node). n.replica.faults) r.is;
  me = ap (λ (n : Node). n.replica.me) r.is;
  start = ap (λ (n : Node). start_of n.replica) r.is;
  rings = record { len = r.links.places; at = λ i d low. (r.links.at i d low).keeps };
}

pub host_weathered :
    {T E : Type 0} (P : Type 0) (r : Result T E) (f : ℕ) (xs : List Node) (k : ℕ) (b d : Node) (ws : List Weather) → k < length xs → OnOk r (P × SetsWeather ws (get_or xs k d) b) → OnErr r (b ≡ get_or xs k d) → IsHost f xs → IsHost f (set xs k b)
host_weathered P (Ok t) f xs k b d ws low ok err host = host_stays f xs (set xs k b) (each_set Stays xs k b d stays_self low (weather_stays ws (get_or xs k d) b ok.1)) host
host_weathered P (Err e) f xs k b d ws low ok err host = host_same f xs k b d low err host

pub host_released : (f : ℕ) (xs ys : List Node) → Each IsReleased xs ys → IsHost f xs → IsHost f ys
host_released f xs ys h host = host_stays f xs ys (each_weaker IsReleased Stays released_stays xs ys h) host
