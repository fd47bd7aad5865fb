-- Events keep the account of the rings.
use Rattle.std.proofs.Common.{◌≡◌, ℕ, ◌<◌, ◌≤◌, ◌-◌, List, [], ◌∷◌, ◌++◌, length, length-append, get_or, refl, arith, inl, inr, subst, sym, ap, ◌∙◌, ⊎_elim, append_assoc, Contains, All, Bool, true, false, Option, Some, option_to_list}
use Rattle.std.proofs.lemmas.List.{append-nil, get_or_default, get_or_append_left, get_or-append_right}
use Rattle.std.proofs.lemmas.Bool.{cases_lt}
use Rattle.std.proofs.lemmas.List.Elements.{Contains-append_left, Contains-append_right, All-append, All-weaker, All-nil, All-push, All-same}
use Rattle.std.proofs.lemmas.List.Quantifiers.{any-set}
use Rattle.rtrb.specs.Ring.{sent, received}
use Rattle.ep_journal.specs.declared.entry.Entry.{Entry}
use Rattle.ep_journal.specs.declared.event.Event.{Event}
use Rattle.ep_journal.specs.declared.event.Event.TheVariants.{Handle, Execute}
use Rattle.ep_journal.specs.Entries.{frames_of}
use Rattle.ep_replica.specs.Applied.{Applied}
use Rattle.ep_replica.specs.Kept.{Kept}
use Rattle.ep_replica.specs.Pending.{ExecutesNext}
use Rattle.ep_host.specs.Acts.{Made, IsHandled}
use Rattle.ep_host.specs.Fates.{Fate, frames_in, put_for, held_for, Sends, Carries}
use Rattle.ep_host.specs.Pointwise.{Each}
use Rattle.ep_host.specs.Rings.{KeepsLink, PopsAt, ArePeers, IsOut, IsTaken, IsBooked, IsFreshLink, handled_by, frames_handled, peer_at}
use Rattle.ep_host.specs.declared.link.Link.{Link}
use Rattle.ep_host.specs.declared.weather.Weather.{Weather}
use Rattle.ep_host.proofs.Fated.{IsFated, put_all, held_all, carries_none, carries_keeps, sends_carries}
use Rattle.ep_host.proofs.Places.{each_set, each_self, each_weaker}
use Rattle.ep_host.proofs.Pumping.{frames_both, no_frames}

frames_handled-append : (xs ys : List Entry) → frames_handled (xs ++ ys) ≡ frames_handled xs ++ frames_handled ys
frames_handled-append [] ys = refl
frames_handled-append (x ∷ xs) ys = ap (λ (l : List (List ℕ)). handled_by x.event ++ l) (frames_handled-append xs ys) ∙ sym (append_assoc (handled_by x.event) (frames_handled xs) (frames_handled ys))

out_still : (es more : List Entry) (p : ℕ) (b : List ℕ) → IsOut es p b → IsOut (es ++ more) p b
out_still es more p b h = (rw (frames_both es more) (Contains-append_left (frames_of es) (frames_of more) b h.0), h.1)

fated_out : (es more : List Entry) (fates : List Fate) (p : ℕ) (b : List ℕ) → frames_in fates ≡ frames_of more → IsFated p fates b → IsOut (es ++ more) p b
fated_out es more fates p b is h = (rw (frames_both es more) (Contains-append_right (frames_of es) (frames_of more) b (subst (λ (l : List (List ℕ)). Contains l b) is h.0)), h.1)

-- what a link has put, after more entries
puts_more : (ws : List Weather) (es more : List Entry) (fates : List Fate) (a b : Link) → frames_in fates ≡ frames_of more → Carries ws fates a b → All (IsOut es a.peer) (sent a.to) → All (IsOut (es ++ more) b.peer) (sent b.to)
puts_more ws es more fates a b is s old =
    let P : List ℕ → Type 0 = IsOut (es ++ more) a.peer in
    let first : All P (sent a.to) = All-weaker (IsOut es a.peer) P (out_still es more a.peer) (sent a.to) old in
    let second : All P (put_for a.peer fates) = All-weaker (IsFated a.peer fates) P (λ x h. fated_out es more fates a.peer x is h) (put_for a.peer fates) (put_all a.peer fates) in
    subst (λ (p : ℕ). All (IsOut (es ++ more) p) (sent b.to)) (sym s.keeps.peer) (All-same P (sent b.to) (sent a.to ++ put_for a.peer fates) s.put (All-append P (sent a.to) (put_for a.peer fates) first second))

holds_more : (ws : List Weather) (es more : List Entry) (fates : List Fate) (a b : Link) → frames_in fates ≡ frames_of more → Carries ws fates a b → All (IsOut es a.peer) a.held → All (IsOut (es ++ more) b.peer) b.held
holds_more ws es more fates a b is s old =
    let P : List ℕ → Type 0 = IsOut (es ++ more) a.peer in
    let first : All P a.held = All-weaker (IsOut es a.peer) P (out_still es more a.peer) a.held old in
    let second : All P (held_for a.peer fates) = All-weaker (IsFated a.peer fates) P (λ x h. fated_out es more fates a.peer x is h) (held_for a.peer fates) (held_all a.peer fates) in
    subst (λ (p : ℕ). All (IsOut (es ++ more) p) b.held) (sym s.keeps.peer) (All-same P b.held (a.held ++ held_for a.peer fates) s.held (All-append P a.held (held_for a.peer fates) first second))

taken_link : (ws : List Weather) (fates : List Fate) (a b : Link) (f : List ℕ) → Carries ws fates a b → Contains (received a.from) f → Contains (received b.from) f
taken_link ws fates a b f s c = subst (λ (l : List (List ℕ)). Contains l f) s.taken.1 (Contains-append_left (received a.from) s.taken.0 f c)

pub taken_still : (ws : List Weather) (fates : List Fate) (before after : List Link) (f : List ℕ) → Each (Carries ws fates) before after → IsTaken before f → IsTaken after f
taken_still ws fates before after f h t =
    let low : t.0 < length after = let l = t.2 in omega (arith, h.len) in (
      t.0,
      get_or after t.0 t.1,
      low,
      get_or_default after t.0 (get_or after t.0 t.1) t.1 low,
      taken_link ws fates (get_or before t.0 t.1) (get_or after t.0 t.1) f (h.at t.0 t.1 t.2) (subst (λ (l : Link). Contains (received l.from) f) (sym t.3) t.4),
    )

pub peers_still : (me : ℕ) (before after : List Link) → Each KeepsLink before after → ArePeers me before → ArePeers me after
peers_still me before after h was = λ k d low. let low' : k < length before = omega (arith, h.len) in (h.at k d low').peer ∙ was k d low'

pub carried_keep : (ws : List Weather) (fates : List Fate) (before after : List Link) → Each (Carries ws fates) before after → Each KeepsLink before after
carried_keep ws fates before after h = each_weaker (Carries ws fates) KeepsLink (carries_keeps ws fates) before after h

-- frames that were put and taken, and the entries whose they are
pub carries_books :
    (ws : List Weather) (me : ℕ) (es more : List Entry) (fates : List Fate) (before after : List Link) → Each (Carries ws fates) before after → frames_in fates ≡ frames_of more → All (IsTaken after) (frames_handled more) →
    IsBooked me es before → IsBooked me (es ++ more) after
carries_books ws me es more fates before after h is handled was = record {
  peers = peers_still me before after (carried_keep ws fates before after h) was.peers;
  put = λ k d low. let low' : k < length before = omega (arith, h.len) in puts_more ws es more fates (get_or before k d) (get_or after k d) is (h.at k d low') (was.put k d low');
  held = λ k d low. let low' : k < length before = omega (arith, h.len) in holds_more ws es more fates (get_or before k d) (get_or after k d) is (h.at k d low') (was.held k d low');
  taken = rw (frames_handled-append es more) (All-append (IsTaken after) (frames_handled es) (frames_handled more)
      (All-weaker (IsTaken before) (IsTaken after) (λ f t. taken_still ws fates before after f h t) (frames_handled es) was.taken) handled);
}

-- the same, where no entry was made
pub carries_still : (ws : List Weather) (me : ℕ) (es : List Entry) (before after : List Link) → Each (Carries ws []) before after → IsBooked me es before → IsBooked me es after
carries_still ws me es before after h was = subst (λ (l : List Entry). IsBooked me l after) (append-nil es) (carries_books ws me es [] [] before after h refl (All-nil (IsTaken after)) was)

booked_as : (old new : Kept) (e : Entry) (links : List Link) → new ≡ record old { entries = old.entries ++ e ∷ [] } → IsBooked old.me (old.entries ++ e ∷ []) links → IsBooked new.me new.entries links
booked_as old new e links is h = rw is h

pub made_books :
    (ws : List Weather) (event : Event) (lost : ℕ) (old new : Kept) (before after : List Link) → Made ws event lost old new before after → All (IsTaken before) (handled_by event) →
    IsBooked old.me old.entries before → IsBooked new.me new.entries after
made_books ws event lost old new before after m given was =
    let e : Entry = m.entry in let fates = m.sent.fates in
    let h : Each (Carries ws fates) before after = each_weaker (Sends ws fates) (Carries ws fates) (sends_carries ws fates) before after m.sent.rings in
    let still : All (IsTaken after) (handled_by event) = All-weaker (IsTaken before) (IsTaken after) (λ f t. taken_still ws fates before after f h t) (handled_by event) given in
    let handled : All (IsTaken after) (frames_handled (e ∷ [])) = rw append-nil (subst (λ (v : Event). All (IsTaken after) (handled_by v)) (sym m.applied.event) still) in
    booked_as old new e after m.applied.appended (carries_books ws old.me old.entries (e ∷ []) fates before after h (m.sent.frames ∙ sym (append-nil e.frames)) handled was)

pub idle_books : (event : Event) (old new : Kept) (before after : List Link) → new ≡ old → after ≡ before → IsBooked old.me old.entries before → IsBooked new.me new.entries after
idle_books event old new before after k l was = rw (k, l) was

pub handled_books :
    (ws : List Weather) (b : List ℕ) (lost : ℕ) (old new : Kept) (before after : List Link) → IsHandled ws b lost old new before after → IsTaken before b → IsBooked old.me old.entries before → IsBooked new.me new.entries after
handled_books ws b lost old new before after (inl m) t was = made_books ws (Handle b) lost old new before after m (All-push (IsTaken before) [] b (All-nil (IsTaken before)) t) was
handled_books ws b lost old new before after (inr i) t was = idle_books (Handle b) old new before after i.1.replica i.1.rings was

pub executes_books : (moved : Bool) (old new : Kept) (links : List Link) → ExecutesNext old moved new → IsBooked old.me old.entries links → IsBooked new.me new.entries links
executes_books true old new links x was =
    let e : Entry = x.2.0 in let a : Applied old (Execute x.0) e new = x.2.1 in
    let out : frames_of (e ∷ []) ≡ [] = append-nil e.frames ∙ no_frames old new x.0 e a in
    let none : frames_handled (e ∷ []) ≡ [] = append-nil (handled_by e.event) ∙ ap handled_by a.event in
    booked_as old new e links a.appended (carries_books [] old.me old.entries (e ∷ []) [] links links (each_self (Carries [] []) links (carries_none [])) (sym out) (All-same (IsTaken links) (frames_handled (e ∷ [])) [] none (All-nil (IsTaken links))) was)
executes_books false old new links x was = rw x.1 was

-- a frame that was taken from a ring

pops_link : (ws : List Weather) (frame : Option (List ℕ)) (a b : Link) → KeepsLink a b → sent b.to ≡ sent a.to → received b.from ≡ received a.from ++ option_to_list frame → b.held ≡ a.held → b.count ≡ a.count → Carries ws [] a b
pops_link ws frame a b k put taken held count = record { keeps = k; put = put ∙ sym (append-nil (sent a.to)); taken = (option_to_list frame, sym taken); held = held ∙ sym (append-nil a.held); count = count; obeys = tt }

pub pops_carries : (ws : List Weather) (place : ℕ) (frame : Option (List ℕ)) (xs ys : List Link) → place < length xs → PopsAt place frame xs ys → Each (Carries ws []) xs ys
pops_carries ws place frame xs ys low p = subst (λ (l : List Link). Each (Carries ws []) xs l) (sym p.is)
    (each_set (Carries ws []) xs place p.link p.link (carries_none ws) low (pops_link ws frame (get_or xs place p.link) p.link (p.keeps p.link) (p.put p.link) (p.taken p.link) (p.held p.link) (p.count p.link)))

pub pops_books : (me : ℕ) (es : List Entry) (place : ℕ) (frame : Option (List ℕ)) (xs ys : List Link) → place < length xs → PopsAt place frame xs ys → IsBooked me es xs → IsBooked me es ys
pops_books me es place frame xs ys low p was = carries_still [] me es xs ys (pops_carries [] place frame xs ys low p) was

pub pops_taken : (place : ℕ) (b : List ℕ) (xs ys : List Link) → place < length xs → PopsAt place (Some b) xs ys → IsTaken ys b
pops_taken place b xs ys low p =
    let has : Contains (received p.link.from) b = subst (λ (l : List (List ℕ)). Contains l b) (sym (p.taken p.link))
    (Contains-append_right (received (get_or xs place p.link).from) (b ∷ []) b (0, omega arith, refl)) in
    subst (λ (l : List Link). IsTaken l b) (sym p.is) (any-set (λ (l : Link). Contains (received l.from) b) xs place p.link low has)

-- one link more

still_taken : (xs : List Link) (y : Link) (f : List ℕ) → IsTaken xs f → IsTaken (xs ++ y ∷ []) f
still_taken xs y f t = let low = t.2 in let e = get_or_append_left xs (y ∷ []) t.1 t.0 low in
    (t.0, t.1, omega (arith, length-append xs (y ∷ [])), e ∙ t.3, t.4)

pub peers_more : (me : ℕ) (xs : List Link) (y : Link) → y.peer ≡ peer_at me (length xs) → ArePeers me xs → ArePeers me (xs ++ y ∷ [])
peers_more me xs y is was = λ k d low. ⊎_elim
    (λ (l : k < length xs). ap (λ (z : Link). z.peer) (get_or_append_left xs (y ∷ []) d k l) ∙ was k d l)
    (λ (l : length xs ≤ k).
    let at : k ≡ length xs = omega (arith, length-append xs (y ∷ [])) in
    let none : k - length xs ≡ 0 = omega arith in
    ap (λ (z : Link). z.peer) (get_or-append_right xs (y ∷ []) (length xs) k d refl l ∙ ap (λ n. get_or (y ∷ []) n d) none) ∙ is ∙ ap (peer_at me) (sym at))
    (cases_lt k (length xs))

pub link_books : (me : ℕ) (es : List Entry) (xs : List Link) (y : Link) → IsFreshLink me xs y → IsBooked me es xs → IsBooked me es (xs ++ y ∷ [])
link_books me es xs y fresh was = record {
  peers = peers_more me xs y fresh.peer was.peers;
  put = All-push (λ (l : Link). All (IsOut es l.peer) (sent l.to)) xs y was.put (All-same (IsOut es y.peer) (sent y.to) [] fresh.put (All-nil (IsOut es y.peer)));
  held = All-push (λ (l : Link). All (IsOut es l.peer) l.held) xs y was.held (All-same (IsOut es y.peer) y.held [] fresh.held (All-nil (IsOut es y.peer)));
  taken = All-weaker (IsTaken xs) (IsTaken (xs ++ y ∷ [])) (still_taken xs y) (frames_handled es) was.taken;
}
