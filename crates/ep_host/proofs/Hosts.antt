-- The nodes of a host: their links, and that turns keep them a host.
use Rattle.std.proofs.Common.{Result, Ok, Err, OnOk, OnErr, ◌≡◌, ◌≢◌, ℕ, ◌<◌, ◌≤◌, ◌+◌, ◌-◌, List, length, get_or, set, refl, sym, ap, ◌∙◌, subst, arith, All, Contains, ⊎_elim, ◌++◌, length-append}
use Rattle.std.proofs.lemmas.List.{get_or_default, get_or_append_left, get_or-append_right}
use Rattle.std.proofs.lemmas.List.Elements.{Contains-append_left, All-contains}
use Rattle.std.proofs.lemmas.Bool.{cases_lt}
use Rattle.rtrb.specs.Ring.{sent, received, IsPair}
use Rattle.ep_frame.specs.Meaning.{version_at}
use Rattle.ep_journal.specs.Openings.{opens}
use Rattle.ep_journal.specs.Entries.{frames_of}
use Rattle.ep_replica.specs.Kept.{Kept, start_of}
use Rattle.ep_rules.specs.States.{fresh_state}
use Rattle.ep_host.specs.Follows.{Follows}
use Rattle.ep_host.specs.Host.{IsHost, Paired, PairedBoth, HasLink, Begins, AllBegin, Knows, AllSent, AllOfVersion}
use Rattle.ep_host.specs.Node.{Node}
use Rattle.ep_host.specs.Pointwise.{Each}
use Rattle.ep_host.specs.Rings.{KeepsLink, IsTaken, IsOut, place, peer_at, frames_handled}
use Rattle.ep_host.specs.declared.link.Link.{Link}
use Rattle.ep_host.specs.Turns.{Assigns}
use Rattle.ep_host.specs.declared.task.Task.{Task}
use Rattle.ep_host.proofs.Booking.{peers_still, carried_keep}
use Rattle.ep_host.proofs.Fated.{keeps_self}
use Rattle.ep_host.proofs.Places.{each_self, each_set, each_weaker}
use Rattle.ep_host.proofs.Versioned.{frames_of_version}

-- numbers of nodes and places of links

pub place_low : (i j n l : ℕ) → i < n → j < n → i ≢ j → n ≤ l + 1 → place i j < l
place_low i j n l a b other e = grind (arith, other)

pub peer_place : (i j : ℕ) → i ≢ j → peer_at i (place i j) ≡ j
peer_place i j other = grind (arith, other)

peer_low : (i k n l : ℕ) → i < n → k < l → l + 1 ≡ n → peer_at i k < n
peer_low i k n l a b e = grind (arith)

peer_other : (i k : ℕ) → peer_at i k ≢ i
peer_other i k = λ e. grind (arith, e)

pub place_peer : (i k : ℕ) → place i (peer_at i k) ≡ k
place_peer i k = grind (arith)

pub has_link : (f : ℕ) (nodes : List Node) (i j : ℕ) (d : Node) → IsHost f nodes → i < length nodes → j < length nodes → i ≢ j → HasLink (get_or nodes i d) (get_or nodes j d).replica.me
has_link f nodes i j d host li lj other =
    let low : place i j < length (get_or nodes i d).links = place_low i j (length nodes) (length (get_or nodes i d).links) li lj other (let e = host.links i d li in omega (arith, e)) in
    rw (host.me i d li, host.me j d lj) (low, λ e. host.peers i d li (place i j) e low ∙ peer_place i j other)

pub host_both : (f : ℕ) (nodes : List Node) (i j : ℕ) (d : Node) → IsHost f nodes → j < i → i < length nodes → PairedBoth (get_or nodes j d) (get_or nodes i d)
host_both f nodes i j d host less low =
    let p = host.paired i j d less low in
    let lj : j < length nodes = omega arith in
    (p.0, p.1, has_link f nodes j i d host lj low (λ e. absurd (omega (arith, e))), has_link f nodes i j d host low lj (λ e. absurd (omega (arith, e))))

-- turns

kept_pair : (a b a' b' : Link) → KeepsLink a a' → KeepsLink b b' → IsPair a.to b.from → IsPair a'.to b'.from
kept_pair a b a' b' q r p = let s = q.to.0 in let t = r.from.0 in
    (t.0 ∙ p.0 ∙ sym s.0, t.1 ∙ p.1 ∙ sym s.1, t.2 ∙ p.2 ∙ sym s.2, t.3 ∙ p.3 ∙ sym s.3)

-- the same replica's node with the same ends of rings
pub record Stays (a b : Node) : Type 0 where
  pub faults : b.replica.faults ≡ a.replica.faults
  pub me : b.replica.me ≡ a.replica.me
  pub start : start_of b.replica ≡ start_of a.replica
  pub rings : Each KeepsLink a.links b.links

pub stays_after : (a b : Node) → Follows a b → Stays a b
stays_after a b h = record { faults = h.works.faults; me = h.works.me; start = h.works.start; rings = carried_keep a.weather h.fates a.links b.links h.rings }

pub stays_self : (a : Node) → Stays a a
stays_self a = record { faults = refl; me = refl; start = refl; rings = each_self KeepsLink a.links keeps_self }

pub stays_assigned : (a b : Node) (task : Task) → Assigns a task b → Stays a b
stays_assigned a b task is = subst (λ (n : Node). Stays a n) (sym is) record { faults = refl; me = refl; start = refl; rings = each_self KeepsLink a.links keeps_self }

kept_paired : (a b a' b' : Node) → Stays a a' → Stays b b' → HasLink a b.replica.me → HasLink b a.replica.me → Paired a b → Paired a' b'
kept_paired a b a' b' la lb ha hb p = λ e. rw (la.me, lb.me) (kept_pair _ _ _ _ (la.rings.at (place a.replica.me b.replica.me) e ha.0) (lb.rings.at (place b.replica.me a.replica.me) e hb.0) (p e))

pub host_stays : (f : ℕ) (xs ys : List Node) → Each Stays xs ys → IsHost f xs → IsHost f ys
host_stays f xs ys h host = record {
  count = h.len ∙ host.count;
  faults = λ i d low. let l : i < length xs = omega (arith, h.len) in (h.at i d l).faults ∙ host.faults i d l;
  me = λ i d low. let l : i < length xs = omega (arith, h.len) in (h.at i d l).me ∙ host.me i d l;
  start = λ i d low. let l : i < length xs = omega (arith, h.len) in let z : 0 < length xs = omega arith in (h.at i d l).start ∙ host.start i d l ∙ sym (h.at 0 d z).start;
  links = λ i d low. let l : i < length xs = omega (arith, h.len) in let n = (h.at i d l).rings.len in let m = host.links i d l in omega (arith, h.len, n, m);
  peers = λ i d low. let l : i < length xs = omega (arith, h.len) in peers_still i (get_or xs i d).links (get_or ys i d).links (h.at i d l).rings (host.peers i d l);
  paired = λ i j d less low. let l : i < length xs = omega (arith, h.len) in let m : j < length xs = omega arith in
      let p = host_both f xs i j d host less l in
      let fj = h.at j d m in let fi = h.at i d l in
      (kept_paired (get_or xs j d) (get_or xs i d) (get_or ys j d) (get_or ys i d) fj fi p.2 p.3 p.0, kept_paired (get_or xs i d) (get_or xs j d) (get_or ys i d) (get_or ys j d) fi fj p.3 p.2 p.1);
}

pub host_still : (f : ℕ) (xs ys : List Node) → Each Follows xs ys → IsHost f xs → IsHost f ys
host_still f xs ys h host = host_stays f xs ys (each_weaker Follows Stays stays_after xs ys h) host

pub host_assigned : (f : ℕ) (xs : List Node) (k : ℕ) (b d : Node) (task : Task) → k < length xs → Assigns (get_or xs k d) task b → IsHost f xs → IsHost f (set xs k b)
host_assigned f xs k b d task low is host = host_stays f xs (set xs k b) (each_set Stays xs k b d stays_self low (stays_assigned (get_or xs k d) b task is)) host

pub host_same : (f : ℕ) (xs : List Node) (k : ℕ) (b d : Node) → k < length xs → b ≡ get_or xs k d → IsHost f xs → IsHost f (set xs k b)
host_same f xs k b d low is host = host_stays f xs (set xs k b) (each_set Stays xs k b d stays_self low (subst (λ (n : Node). Stays (get_or xs k d) n) (sym is) (stays_self (get_or xs k d)))) host

pub host_reported : {T E : Type 0} (r : Result T E) (f : ℕ) (xs : List Node) (k : ℕ) (b d : Node) (task : Task) → k < length xs → OnOk r (Assigns (get_or xs k d) task b) → OnErr r (b ≡ get_or xs k d) → IsHost f xs → IsHost f (set xs k b)
host_reported (Ok t) f xs k b d task low ok err host = host_assigned f xs k b d task low ok host
host_reported (Err e) f xs k b d task low ok err host = host_same f xs k b d low err host

-- what was taken was sent

-- what b has taken from a, a has put
from_to :
    (a b : Node) (f : List ℕ) (e : Link) → Knows a → HasLink a b.replica.me → Begins a b →
    Contains (received (get_or b.links (place b.replica.me a.replica.me) e).from) f → Contains (frames_of a.replica.entries) f
from_to a b f e know has begins c =
    let l = get_or a.links (place a.replica.me b.replica.me) e in let p = begins e in
    let put : Contains (sent l.to) f = subst (λ (xs : List (List ℕ)). Contains xs f) p.1 (Contains-append_left (received (get_or b.links (place b.replica.me a.replica.me) e).from) p.0 f c) in
    (All-contains (IsOut a.replica.entries l.peer) (sent l.to) f (know.booked.put (place a.replica.me b.replica.me) e has.0) put).0

-- the frame was taken from the ring of a node whose journal has it
pub record IsFrom (nodes : List Node) (j : ℕ) (d : Node) (b : List ℕ) : Type 0 where
  pub from : ℕ
  pub low : from < length nodes
  pub taken : (e : Link) → Contains (received (get_or (get_or nodes j d).links (place j from) e).from) b
  pub out : Contains (frames_of (get_or nodes from d).replica.entries) b

-- what node j has taken from its ring at a place, the node that the ring is from has sent
out_of :
    (f : ℕ) (nodes : List Node) (j k : ℕ) (d : Node) (e : Link) (b : List ℕ) → IsHost f nodes → All Knows nodes → AllBegin nodes → j < length nodes → k < length (get_or nodes j d).links →
    Contains (received (get_or (get_or nodes j d).links k e).from) b → (peer_at j k < length nodes) × Contains (frames_of (get_or nodes (peer_at j k) d).replica.entries) b
out_of f nodes j k d e b host know begins low lk c =
    let me = get_or nodes j d in
    let i = peer_at j k in
    let li : i < length nodes = peer_low j k (length nodes) (length me.links) low lk (host.links j d low) in
    let a = get_or nodes i d in
    let at : place me.replica.me a.replica.me ≡ k = ap (λ n. place n a.replica.me) (host.me j d low) ∙ ap (place j) (host.me i d li) ∙ place_peer j k in
    let here : Contains (received (get_or me.links (place me.replica.me a.replica.me) e).from) b = subst (λ (n : ℕ). Contains (received (get_or me.links n e).from) b) (sym at) c in
    let end : HasLink a me.replica.me × Begins a me → Contains (frames_of a.replica.entries) b = λ (p : HasLink a me.replica.me × Begins a me). from_to a me b e (know i d li) p.0 p.1 here in (
      li,
      ⊎_elim
          (λ (less : i < j). end ((host_both f nodes j i d host less low).2, (begins j i d less low).0))
          (λ (more : j ≤ i). let other = peer_other j k in let less : j < i = grind (arith, other, more) in end ((host_both f nodes i j d host less li).3, (begins i j d less li).1))
          (cases_lt i j),
    )

pub all_taken : (f : ℕ) (nodes : List Node) (j : ℕ) (d : Node) (b : List ℕ) → IsHost f nodes → All Knows nodes → AllBegin nodes → j < length nodes → Contains (frames_handled (get_or nodes j d).replica.entries) b → IsFrom nodes j d b
all_taken f nodes j d b host know begins low c =
    let me = get_or nodes j d in
    let t = All-contains (IsTaken me.links) (frames_handled me.replica.entries) b (know j d low).booked.taken c in
    let mine : (e : Link) → Contains (received (get_or me.links t.0 e).from) b = λ e. subst (λ (l : Link). Contains (received l.from) b) (sym t.3 ∙ get_or_default me.links t.0 t.1 e t.2) t.4 in
    let there = out_of f nodes j t.0 d t.1 b host know begins low t.2 (mine t.1) in record {
      from = peer_at j t.0;
      low = there.0;
      taken = λ e. subst (λ (n : ℕ). Contains (received (get_or me.links n e).from) b) (sym (place_peer j t.0)) (mine e);
      out = there.1;
    }

-- each frame that was taken is of the one version of the host
pub all_of_version : (f : ℕ) (nodes : List Node) → IsHost f nodes → All Knows nodes → AllBegin nodes → AllOfVersion nodes
all_of_version f nodes host know begins = λ j k d e b low lk c.
    let there = out_of f nodes j k d e b host know begins low lk c in
    let i = peer_at j k in
    let n : Kept = (get_or nodes i d).replica in
    let v : version_at b ≡ n.version = frames_of_version n.version n.faults n.me (fresh_state (opens n.opening)) n.entries b (know i d there.0).journal.versioned there.1 in
    v ∙ ap (λ p. p.0) (host.start i d there.0) ∙ sym (ap (λ p. p.0) (host.start j d low))

pub all_sent : (f : ℕ) (nodes : List Node) → IsHost f nodes → All Knows nodes → AllBegin nodes → AllSent nodes
all_sent f nodes host know begins = λ j d b low c. let t = all_taken f nodes j d b host know begins low c in (t.from, t.low, t.out)

pub front_at : (xs front back : List Node) (low high : ℕ) (d e : Node) → xs ≡ front ++ back → length front ≡ high → low < high → get_or front low e ≡ get_or xs low d
front_at xs front back low high d e is len l = let l' : low < length front = omega arith in get_or_default front low e d l' ∙ sym (get_or_append_left front back d low l') ∙ ap (λ z. get_or z low d) (sym is)

pub back_at : (xs front back : List Node) (high : ℕ) (d e : Node) → xs ≡ front ++ back → length front ≡ high → high < length xs → get_or back 0 e ≡ get_or xs high d
back_at xs front back high d e is len l =
    let some : 0 < length back = omega (arith, length-append front back, ap (length {A = Node}) is) in
    let zero_is : high - high ≡ 0 = omega arith in
    get_or_default back 0 e d some ∙ ap (λ n. get_or back n d) (sym zero_is) ∙ sym (get_or-append_right front back high high d len (omega arith)) ∙ ap (λ z. get_or z high d) (sym is)
