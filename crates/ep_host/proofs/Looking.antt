-- Looks keep the account.
use Rattle.std.proofs.Common.{◌≡◌, ℕ, ◌<◌, List, [], ◌++◌, length, arith, get_or, set, refl, sym, ap, ◌∙◌, subst, ◌≤◌, Contains, ⊎_elim}
use Rattle.std.proofs.lemmas.List.{append-nil, get_or_past}
use Rattle.std.proofs.lemmas.Bool.{cases_lt}
use mathlib.Core.List.{IsPrefix}
use Rattle.rtrb.specs.Ring.{sent, received, IsPair}
use Rattle.ep_frame.specs.Meaning.{sender_at}
use Rattle.ep_journal.specs.declared.entry.Entry.{Entry}
use Rattle.ep_journal.specs.Entries.{frames_of}
use Rattle.ep_replica.specs.Kept.{Kept, start_of}
use Rattle.ep_host.specs.Fates.{Carries}
use Rattle.ep_host.proofs.Hosts.{Stays, host_stays, host_both}
use Rattle.ep_host.specs.Host.{IsHost, Quiet, Looked, Paired, Begins, HasLink, PairedBoth, BeginsBoth, AllBegin, AllHandledFrom, AllOfVersion, AllFrom}
use Rattle.ep_host.specs.Node.{Node}
use Rattle.ep_host.specs.Pointwise.{Each}
use Rattle.ep_host.specs.Rings.{KeepsLink, IsBooked, place, frames_handled}
use Rattle.ep_host.specs.declared.link.Link.{Link}
use Rattle.ep_host.specs.declared.weather.Weather.{Weather}
use Rattle.ep_host.proofs.Booking.{carries_still}
use Rattle.ep_host.proofs.Fated.{keeps_self, keeps_keeps}
use Rattle.ep_host.proofs.Places.{each_set, each_self, each_weaker, each_each}

pub quiet_self : (a : Link) → Quiet a a
quiet_self a = record { keeps = keeps_self a; put = refl; taken = refl; held = refl; count = refl }

quiet_quiet : (a b c : Link) → Quiet a b → Quiet b c → Quiet a c
quiet_quiet a b c h k = record { keeps = keeps_keeps a b c h.keeps k.keeps; put = k.put ∙ h.put; taken = k.taken ∙ h.taken; held = k.held ∙ h.held; count = k.count ∙ h.count }

pub looks_at : (xs : List Link) (i : ℕ) (y was : Link) → was ≡ get_or xs i was → i < length xs → Quiet was y → Each Quiet xs (set xs i y)
looks_at xs i y was is low q = each_set Quiet xs i y was quiet_self low (subst (λ (a : Link). Quiet a y) is q)

pub quiet_carries : (ws : List Weather) (a b : Link) → Quiet a b → Carries ws [] a b
quiet_carries ws a b q = record { keeps = q.keeps; put = q.put ∙ sym (append-nil (sent a.to)); taken = ([], append-nil (received a.from) ∙ sym q.taken); held = q.held ∙ sym (append-nil a.held); count = q.count; obeys = tt }

pub looks_keep : (me : ℕ) (es : List Entry) (before after : List Link) → Each Quiet before after → IsBooked me es before → IsBooked me es after
looks_keep me es before after h was = carries_still [] me es before after (each_weaker Quiet (Carries [] []) (quiet_carries []) before after h) was

begins_link : (a b a' b' : Link) → Quiet a a' → Quiet b b' → IsPrefix (received b'.from) (sent a'.to) → IsPrefix (received b.from) (sent a.to)
begins_link a b a' b' q r p = (p.0, ap (λ (l : List (List ℕ)). l ++ p.0) (sym r.taken) ∙ p.1 ∙ q.put)

me_is : (a b : Node) → Looked a b → b.replica.me ≡ a.replica.me
me_is a b l = ap (λ (n : Node). n.replica.me) l.is

pub begins_back : (a b a' b' : Node) → Looked a a' → Looked b b' → HasLink a b.replica.me → HasLink b a.replica.me → Begins a' b' → Begins a b
begins_back a b a' b' la lb ha hb p = λ e. begins_link _ _ _ _ (la.links.at (place a.replica.me b.replica.me) e ha.0) (lb.links.at (place b.replica.me a.replica.me) e hb.0) (rw (← me_is a a' la, ← me_is b b' lb) (p e))

begins_on : (a b a' b' : Link) → Quiet a a' → Quiet b b' → IsPrefix (received b.from) (sent a.to) → IsPrefix (received b'.from) (sent a'.to)
begins_on a b a' b' q r p = (p.0, ap (λ (l : List (List ℕ)). l ++ p.0) r.taken ∙ p.1 ∙ sym q.put)

begins_after : (a b a' b' : Node) → Looked a a' → Looked b b' → HasLink a b.replica.me → HasLink b a.replica.me → Begins a b → Begins a' b'
begins_after a b a' b' la lb ha hb p = λ e. rw (me_is a a' la, me_is b b' lb) (begins_on _ _ _ _ (la.links.at (place a.replica.me b.replica.me) e ha.0) (lb.links.at (place b.replica.me a.replica.me) e hb.0) (p e))

pub looked_self : (a : Node) → Looked a a
looked_self a = record { is = refl; links = each_self Quiet a.links quiet_self }

pub looked_looked : (a b c : Node) → Looked a b → Looked b c → Looked a c
looked_looked a b c h k = record { is = k.is ∙ ap (λ (n : Node). record n { links = c.links }) h.is; links = each_each Quiet Quiet Quiet quiet_quiet a.links b.links c.links h.links k.links }

pub begins_both_back : (a b a' b' : Node) → Looked a a' → Looked b b' → PairedBoth a b → BeginsBoth a' b' → BeginsBoth a b
begins_both_back a b a' b' la lb p h = (begins_back a b a' b' la lb p.2 p.3 h.0, begins_back b a b' a' lb la p.3 p.2 h.1)

pub looked_each : (xs ys zs : List Node) → Each Looked xs ys → Each Looked ys zs → Each Looked xs zs
looked_each xs ys zs h k = each_each Looked Looked Looked looked_looked xs ys zs h k

same_ring : (a b a' b' : Link) → Quiet a a' → Quiet b b' → IsPair a.to b.from → IsPair a'.to b'.from
same_ring a b a' b' q r p = let s = q.keeps.to.0 in let t = r.keeps.from.0 in
    (t.0 ∙ p.0 ∙ sym s.0, t.1 ∙ p.1 ∙ sym s.1, t.2 ∙ p.2 ∙ sym s.2, t.3 ∙ p.3 ∙ sym s.3)

looked_paired : (a b a' b' : Node) → Looked a a' → Looked b b' → HasLink a b.replica.me → HasLink b a.replica.me → Paired a b → Paired a' b'
looked_paired a b a' b' la lb ha hb p = λ e. rw (me_is a a' la, me_is b b' lb) (same_ring _ _ _ _ (la.links.at (place a.replica.me b.replica.me) e ha.0) (lb.links.at (place b.replica.me a.replica.me) e hb.0) (p e))

looked_link : (a b a' b' : Node) → Looked a a' → Looked b b' → HasLink a b.replica.me → HasLink a' b'.replica.me
looked_link a b a' b' la lb h = rw (me_is a a' la, me_is b b' lb) ((omega (arith, la.links.len, h.0)), λ e. (la.links.at (place a.replica.me b.replica.me) e h.0).keeps.peer ∙ h.1 e)

pub looked_both : (a b a' b' : Node) → Looked a a' → Looked b b' → PairedBoth a b → PairedBoth a' b'
looked_both a b a' b' la lb p = (looked_paired a b a' b' la lb p.2 p.3 p.0, looked_paired b a b' a' lb la p.3 p.2 p.1, looked_link a b a' b' la lb p.2, looked_link b a b' a' lb la p.3)

quiet_keeps : (a b : Link) → Quiet a b → KeepsLink a b
quiet_keeps a b q = q.keeps

looked_stays : (a b : Node) → Looked a b → Stays a b
looked_stays a b l = record { faults = ap (λ (n : Node). n.replica.faults) l.is; me = me_is a b l; start = ap (λ (n : Node). start_of n.replica) l.is; rings = each_weaker Quiet KeepsLink quiet_keeps a.links b.links l.links }

pub host_looked : (f : ℕ) (xs ys : List Node) → Each Looked xs ys → IsHost f xs → IsHost f ys
host_looked f xs ys h host = host_stays f xs ys (each_weaker Looked Stays looked_stays xs ys h) host

-- what both ends say together stands after a look
pub all_begin_after : (f : ℕ) (xs ys : List Node) → IsHost f xs → Each Looked xs ys → AllBegin xs → AllBegin ys
all_begin_after f xs ys host h all = λ i j d less low.
    let l : i < length xs = omega (arith, h.len) in let m : j < length xs = omega arith in
    let p = host_both f xs i j d host less l in
    let lj = h.at j d m in let li = h.at i d l in
    let b = all i j d less l in
    (begins_after (get_or xs j d) (get_or xs i d) (get_or ys j d) (get_or ys i d) lj li p.2 p.3 b.0, begins_after (get_or xs i d) (get_or xs j d) (get_or ys i d) (get_or ys j d) li lj p.3 p.2 b.1)

handled_from_after : (xs ys : List Node) → Each Looked xs ys → AllHandledFrom xs → AllHandledFrom ys
handled_from_after xs ys h all = λ j d e b low c.
    let l : j < length xs = omega (arith, h.len) in
    let me = get_or xs j d in let at = h.at j d l in
    let same : (get_or ys j d).replica ≡ me.replica = ap (λ (n : Node). n.replica) at.is in
    let was = all j d e b l (subst (λ (k : Kept). Contains (frames_handled k.entries) b) same c) in
    let from : sender_at b < length xs = was.0 in
    let there : (get_or ys (sender_at b) d).replica ≡ (get_or xs (sender_at b) d).replica = ap (λ (n : Node). n.replica) (h.at (sender_at b) d from).is in
    let k = place j (sender_at b) in (
      omega (arith, h.len, from),
      ⊎_elim
          (λ (in_range : k < length me.links). subst (λ (l : List (List ℕ)). Contains l b) (sym (at.links.at k e in_range).taken) was.1)
          (λ (past : length me.links ≤ k). subst (λ (l : Link). Contains (received l.from) b) (both_past me.links (get_or ys j d).links k e at.links.len past) was.1)
          (cases_lt k (length me.links)),
      subst (λ (k : Kept). Contains (frames_of k.entries) b) (sym there) was.2,
    )
  where
    both_past : (xs zs : List Link) (k : ℕ) (e : Link) → length zs ≡ length xs → length xs ≤ k → get_or xs k e ≡ get_or zs k e
    both_past xs zs k e len past = get_or_past xs k e past ∙ sym (get_or_past zs k e (omega (arith, len, past)))

of_version_after : (xs ys : List Node) → Each Looked xs ys → AllOfVersion xs → AllOfVersion ys
of_version_after xs ys h all = λ j k d e b low lk c.
    let l : j < length xs = omega (arith, h.len) in
    let me = get_or xs j d in let at = h.at j d l in
    let lm : k < length me.links = omega (arith, at.links.len) in
    let same : (get_or ys j d).replica ≡ me.replica = ap (λ (n : Node). n.replica) at.is in
    all j k d e b l lm (subst (λ (l : List (List ℕ)). Contains l b) (at.links.at k e lm).taken c) ∙ ap (λ (k : Kept). k.version) (sym same)

pub all_from_after : (f : ℕ) (xs ys : List Node) → IsHost f xs → Each Looked xs ys → AllFrom xs → AllFrom ys
all_from_after f xs ys host h all = (handled_from_after xs ys h all.0, of_version_after xs ys h all.1)
