-- How the nodes of a host are made, one after another, each joined to those before it.
use Rattle.std.proofs.Common.{◌≡◌, ◌≢◌, ℕ, ◌<◌, ◌≤◌, ◌+◌, ◌-◌, List, [], ◌∷◌, ◌++◌, length, length-append, get_or, set, get_or-set_same, get_or-set_other, refl, sym, ap, ◌∙◌, subst, arith, All, ⊎_elim}
use Rattle.std.proofs.Math.ListN.{length-set}
use Rattle.std.proofs.lemmas.List.{append-nil, get_or_append_left, get_or-append_right}
use Rattle.std.proofs.lemmas.List.Elements.{All-nil, All-push}
use Rattle.std.proofs.lemmas.Bool.{cases_lt}
use Rattle.std.proofs.lemmas.Bool.Decides.{eqb_tells}
use Rattle.ep_base.specs.Quorums.{size}
use Rattle.ep_base.specs.declared.version.Version.{Version}
use Rattle.ep_journal.specs.Openings.{Opening}
use Rattle.ep_replica.specs.Kept.{Kept, start_of}
use Rattle.ep_host.specs.Host.{IsHost, IsRoomy, IsFresh, StartsAs, Paired}
use Rattle.ep_host.specs.Joins.{Joins, CanJoin}
use Rattle.ep_host.specs.Node.{Node, fresh_node, with_link}
use Rattle.ep_host.specs.Pointwise.{Each}
use Rattle.ep_host.specs.Rings.{ArePeers, place, peer_at}
use Rattle.ep_host.specs.declared.link.Link.{Link}
use Rattle.ep_host.proofs.Booking.{peers_more}
use Rattle.ep_host.proofs.Hosts.{place_low}
use Rattle.ep_host.proofs.Places.{each_set}

-- the same node with more links
record IsLonger (a b : Node) : Type 0 where
  pub replica : b.replica ≡ a.replica
  pub more : List Link
  pub links : b.links ≡ a.links ++ more

longer_self : (a : Node) → IsLonger a a
longer_self a = record { replica = refl; more = []; links = sym (append-nil a.links) }

abbrev longer_with : (a b : Node) (l : Link) → b ≡ with_link a l → IsLonger a b
longer_with a b l is = record { replica = ap (λ (n : Node). n.replica) is; more = l ∷ []; links = ap (λ (n : Node). n.links) is }

me_of : (a b : Node) → IsLonger a b → b.replica.me ≡ a.replica.me
me_of a b h = ap (λ (k : Kept). k.me) h.replica

still_at : (a b : Node) (k : ℕ) (d : Link) → IsLonger a b → k < length a.links → get_or b.links k d ≡ get_or a.links k d
still_at a b k d h low = ap (λ (l : List Link). get_or l k d) h.links ∙ get_or_append_left a.links h.more d k low

-- the ends of a ring that the links had
longer_paired :
    (a b a' b' : Node) → IsLonger a a' → IsLonger b b' → place a.replica.me b.replica.me < length a.links → place b.replica.me a.replica.me < length b.links → Paired a b → Paired a' b'
longer_paired a b a' b' la lb low low' p = λ d. rw (me_of a a' la, me_of b b' lb, still_at a a' (place a.replica.me b.replica.me) d la low, still_at b b' (place b.replica.me a.replica.me) d lb low') (p d)

-- the nodes so far, each with a link to each other one
pub record AreLinked (c f : ℕ) (s : Version × Opening) (nodes : List Node) : Type 0 where
  pub faults : (i : ℕ) (d : Node) → i < length nodes → (get_or nodes i d).replica.faults ≡ f
  pub me : (i : ℕ) (d : Node) → i < length nodes → (get_or nodes i d).replica.me ≡ i
  pub start : (i : ℕ) (d : Node) → i < length nodes → start_of (get_or nodes i d).replica ≡ s
  pub links : (i : ℕ) (d : Node) → i < length nodes → length (get_or nodes i d).links + 1 ≡ length nodes
  pub peers : (i : ℕ) (d : Node) → i < length nodes → ArePeers i (get_or nodes i d).links
  pub paired : (i j : ℕ) (d : Node) → j < i → i < length nodes → Paired (get_or nodes j d) (get_or nodes i d) × Paired (get_or nodes i d) (get_or nodes j d)
  pub fresh : (i : ℕ) (d : Node) → i < length nodes → IsFresh c (get_or nodes i d)

-- the next node, joined to the first k of them
pub record AreJoined (c f : ℕ) (s : Version × Opening) (k : ℕ) (nodes : List Node) (node : Node) : Type 0 where
  pub faults : (i : ℕ) (d : Node) → i < length nodes → (get_or nodes i d).replica.faults ≡ f
  pub me : (i : ℕ) (d : Node) → i < length nodes → (get_or nodes i d).replica.me ≡ i
  pub start : (i : ℕ) (d : Node) → i < length nodes → start_of (get_or nodes i d).replica ≡ s
  pub done : (i : ℕ) (d : Node) → i < length nodes → i < k → length (get_or nodes i d).links ≡ length nodes
  pub left : (i : ℕ) (d : Node) → i < length nodes → k ≤ i → length (get_or nodes i d).links + 1 ≡ length nodes
  pub peers : (i : ℕ) (d : Node) → i < length nodes → ArePeers i (get_or nodes i d).links
  pub paired : (i j : ℕ) (d : Node) → j < i → i < length nodes → Paired (get_or nodes j d) (get_or nodes i d) × Paired (get_or nodes i d) (get_or nodes j d)
  pub fresh : (i : ℕ) (d : Node) → i < length nodes → IsFresh c (get_or nodes i d)
  pub next_faults : node.replica.faults ≡ f
  pub next_me : node.replica.me ≡ length nodes
  pub next_start : start_of node.replica ≡ s
  pub next_links : length node.links ≡ k
  pub next_peers : ArePeers (length nodes) node.links
  pub next_paired : (i : ℕ) (d : Node) → i < length nodes → i < k → Paired (get_or nodes i d) node × Paired node (get_or nodes i d)
  pub next_fresh : IsFresh c node

pub linked_none : (c f : ℕ) (s : Version × Opening) → AreLinked c f s []
linked_none c f s = record {
  faults = λ i d low. absurd (omega arith);
  me = λ i d low. absurd (omega arith);
  start = λ i d low. absurd (omega arith);
  links = λ i d low. absurd (omega arith);
  peers = λ i d low. absurd (omega arith);
  paired = λ i j d less low. absurd (omega arith);
  fresh = λ i d low. absurd (omega arith);
}

pub joined_none : (c f : ℕ) (s : Version × Opening) (nodes : List Node) (k : Kept) → AreLinked c f s nodes → k.faults ≡ f → k.me ≡ length nodes → start_of k ≡ s → k.entries ≡ [] → AreJoined c f s 0 nodes (fresh_node k)
joined_none c f s nodes k h faults me start none = record {
  faults = h.faults;
  me = h.me;
  start = h.start;
  done = λ i d low below. absurd (omega arith);
  left = λ i d low above. h.links i d low;
  peers = h.peers;
  paired = h.paired;
  fresh = h.fresh;
  next_faults = faults;
  next_me = me;
  next_start = start;
  next_links = refl;
  next_peers = λ i d low. absurd (omega arith);
  next_paired = λ i d low below. absurd (omega arith);
  next_fresh = record { rooms = All-nil (IsRoomy c); entries = none; agenda = refl; refused = refl; used = refl; lost = refl };
}

place_above : (k n : ℕ) → k < n → place n k ≡ k
place_above k n less = grind (arith)

place_below : (k n l : ℕ) → k < n → l + 1 ≡ n → place k n ≡ l
place_below k n l less e = grind (arith)

peer_above : (k n : ℕ) → k < n → peer_at n k ≡ k
peer_above k n less = grind (arith)

peer_below : (k n l : ℕ) → k < n → l + 1 ≡ n → peer_at k l ≡ n
peer_below k n l less e = grind (arith)

pub can_join : (c f : ℕ) (s : Version × Opening) (k : ℕ) (nodes : List Node) (node : Node) (d : Node) → AreJoined c f s k nodes node → k < length nodes → CanJoin (get_or nodes k d) node
can_join c f s k nodes node d h low = let n = length nodes in
    let links = h.left k d low (omega arith) in record {
      before = rw (h.me k d low, h.next_me) low;
      there = rw (h.me k d low, h.next_me) (place_below k n (length (get_or nodes k d).links) low links);
      here = rw (h.me k d low, h.next_me) (place_above k n low ∙ sym h.next_links);
    }

last_link : (xs : List Link) (y d : Link) (k : ℕ) → k ≡ length xs → get_or (xs ++ y ∷ []) k d ≡ y
last_link xs y d k is = let none : k - length xs ≡ 0 = omega arith in get_or-append_right xs (y ∷ []) (length xs) k d refl (omega arith) ∙ ap (λ n. get_or (y ∷ []) n d) none

-- the two that were joined
joins_paired : (c : ℕ) (a b a' b' : Node) → CanJoin a b → Joins c a b a' b' → Paired a' b' × Paired b' a'
joins_paired c a b a' b' can h =
    let la = longer_with a a' h.there h.a_is in let lb = longer_with b b' h.here h.b_is in
    let there = λ (d : Link). ap (λ (l : List Link). get_or l (place a.replica.me b.replica.me) d) la.links ∙ last_link a.links h.there d (place a.replica.me b.replica.me) can.there in
    let here = λ (d : Link). ap (λ (l : List Link). get_or l (place b.replica.me a.replica.me) d) lb.links ∙ last_link b.links h.here d (place b.replica.me a.replica.me) can.here in (
      (λ d. rw (me_of a a' la, me_of b b' lb, there d, here d) h.out),
      (λ d. rw (me_of a a' la, me_of b b' lb, there d, here d) h.back),
    )

fresh_still : (c : ℕ) (a b : Node) (l : Link) → b ≡ with_link a l → IsRoomy c l → IsFresh c a → IsFresh c b
fresh_still c a b l is room h = rw is record { rooms = All-push (IsRoomy c) a.links l h.rooms room; entries = h.entries; agenda = h.agenda; refused = h.refused; used = h.used; lost = h.lost }

peers_with : (me : ℕ) (a b : Node) (l : Link) → b ≡ with_link a l → l.peer ≡ peer_at me (length a.links) → ArePeers me a.links → ArePeers me b.links
peers_with me a b l is peer was = subst (λ (n : Node). ArePeers me n.links) (sym is) (peers_more me a.links l peer was)

-- one more of them is joined
pub joined_more :
    (c f : ℕ) (s : Version × Opening) (k : ℕ) (nodes : List Node) (node : Node) (e a' b' : Node) → AreJoined c f s k nodes node → k < length nodes → Joins c (get_or nodes k e) node a' b' → AreJoined c f s (k + 1) (set nodes k a') b'
joined_more c f s k nodes node e a' b' h low j =
    let n = length nodes in let ys = set nodes k a' in
    let len : length ys ≡ n = length-set nodes k a' in
    let a = get_or nodes k e in
    let la : IsLonger a a' = longer_with a a' j.there j.a_is in
    let lb : IsLonger node b' = longer_with node b' j.here j.b_is in
    let can = can_join c f s k nodes node e h low in
    let all : Each IsLonger nodes ys = each_set IsLonger nodes k a' e longer_self low la in
    let links_a : length a.links + 1 ≡ n = h.left k e low (omega arith) in
    let me_a : a.replica.me ≡ k = h.me k e low in
    let more_a : length a'.links ≡ n = (let g = ap (λ (x : Node). length x.links) j.a_is in omega (arith, g, links_a, length-append a.links (j.there ∷ []))) in
    let at : (d : Node) → get_or ys k d ≡ a' = λ d. get_or-set_same nodes k a' d low in
    let away : (i : ℕ) (d : Node) → i ≢ k → get_or ys i d ≡ get_or nodes i d = λ i d other. get_or-set_other nodes k i a' d other in
    record {
      faults = λ i d b. let l : i < n = omega (arith, len) in ap (λ (q : Kept). q.faults) (all.at i d l).replica ∙ h.faults i d l;
      me = λ i d b. let l : i < n = omega (arith, len) in me_of (get_or nodes i d) (get_or ys i d) (all.at i d l) ∙ h.me i d l;
      start = λ i d b. let l : i < n = omega (arith, len) in ap start_of (all.at i d l).replica ∙ h.start i d l;
      done = λ i d b below. let l : i < n = omega (arith, len) in ⊎_elim
          (λ (t : _). let is : i ≡ k = t.1 in rw (is, at d, len) more_a)
          (λ (t : _). let other = t.1 in let below' : i < k = grind (arith, other, below) in rw (away i d other, len) (h.done i d l below'))
          (eqb_tells i k);
      left = λ i d b above. let l : i < n = omega (arith, len) in ⊎_elim
          (λ (t : _). let is : i ≡ k = t.1 in absurd (omega (arith, is, above)))
          (λ (t : _). let other = t.1 in rw (away i d other, len) (h.left i d l (omega (arith, above))))
          (eqb_tells i k);
      peers = λ i d b. let l : i < n = omega (arith, len) in ⊎_elim
          (λ (t : _). let is : i ≡ k = t.1 in rw (is, at d)
          (peers_with k a a' j.there j.a_is (j.there_peer ∙ h.next_me ∙ sym (peer_below k n (length a.links) low links_a)) (h.peers k e low)))
          (λ (t : _). let other = t.1 in rw (away i d other) (h.peers i d l))
          (eqb_tells i k);
      paired = λ i m d less b. let l : i < n = omega (arith, len) in let l' : m < n = omega arith in
          let p = h.paired i m d less l in
          let x = get_or nodes m d in let y = get_or nodes i d in
          let mx : x.replica.me ≡ m = h.me m d l' in let my : y.replica.me ≡ i = h.me i d l in
          let there : place x.replica.me y.replica.me < length x.links = rw (mx, my) (place_low m i n (length x.links) l' l (λ q. absurd (omega (arith, q))) (enough m d l')) in
          let here : place y.replica.me x.replica.me < length y.links = rw (mx, my) (place_low i m n (length y.links) l l' (λ q. absurd (omega (arith, q))) (enough i d l)) in
          (longer_paired x y (get_or ys m d) (get_or ys i d) (all.at m d l') (all.at i d l) there here p.0, longer_paired y x (get_or ys i d) (get_or ys m d) (all.at i d l) (all.at m d l') here there p.1);
      fresh = λ i d b. let l : i < n = omega (arith, len) in ⊎_elim
          (λ (t : _). let is : i ≡ k = t.1 in rw (is, at d) (fresh_still c a a' j.there j.a_is j.there_room (h.fresh k e low)))
          (λ (t : _). let other = t.1 in rw (away i d other) (h.fresh i d l))
          (eqb_tells i k);
      next_faults = ap (λ (q : Kept). q.faults) lb.replica ∙ h.next_faults;
      next_me = me_of node b' lb ∙ h.next_me ∙ sym len;
      next_start = ap start_of lb.replica ∙ h.next_start;
      next_links = (let g = ap (λ (x : Node). length x.links) j.b_is in let was = h.next_links in omega (arith, g, was, length-append node.links (j.here ∷ [])));
      next_peers = rw len (peers_with n node b' j.here j.b_is (j.here_peer ∙ me_a ∙ sym (peer_above k n low) ∙ ap (peer_at n) (sym h.next_links)) h.next_peers);
      next_paired = λ i d b below. let l : i < n = omega (arith, len) in ⊎_elim
          (λ (t : _). let is : i ≡ k = t.1 in rw (is, at d) (joins_paired c a node a' b' can j))
          (λ (t : _). let other = t.1 in let below' : i < k = grind (arith, other, below) in
          let p = h.next_paired i d l below' in
          let x = get_or nodes i d in
          let mx : x.replica.me ≡ i = h.me i d l in
          let was = h.done i d l below' in let own = h.next_links in
          let there : place x.replica.me node.replica.me < length x.links = rw (mx, h.next_me) (reaches i n (length x.links) l was) in
          let here : place node.replica.me x.replica.me < length node.links = rw (mx, h.next_me, place_above i n l) (omega (arith, own)) in
          (longer_paired x node (get_or ys i d) b' (all.at i d l) lb there here p.0, longer_paired node x b' (get_or ys i d) lb (all.at i d l) here there p.1))
          (eqb_tells i k);
      next_fresh = fresh_still c node b' j.here j.b_is j.here_room h.next_fresh;
    }
  where
    reaches : (i n l : ℕ) → i < n → l ≡ n → place i n < l
    reaches i n l low is = grind (arith)

    enough : (i : ℕ) (d : Node) → i < length nodes → length nodes ≤ length (get_or nodes i d).links + 1
    enough i d l = ⊎_elim
        (λ (b : i < k). let e = h.done i d l b in omega (arith, e))
        (λ (b : k ≤ i). let e = h.left i d l b in omega (arith, e))
        (cases_lt i k)

-- the nodes with the one that is joined to all of them
pub linked_more : (c f : ℕ) (s : Version × Opening) (k : ℕ) (nodes : List Node) (node : Node) → AreJoined c f s k nodes node → k ≡ length nodes → AreLinked c f s (nodes ++ node ∷ [])
linked_more c f s k nodes node h all =
    let n = length nodes in let ys = nodes ++ node ∷ [] in
    let len : length ys ≡ n + 1 = length-append nodes (node ∷ []) in
    let first : (i : ℕ) (d : Node) → i < n → get_or ys i d ≡ get_or nodes i d = λ i d l. get_or_append_left nodes (node ∷ []) d i l in
    let last : (i : ℕ) (d : Node) → i ≡ n → get_or ys i d ≡ node = λ i d is. (let none : i - n ≡ 0 = omega arith in get_or-append_right nodes (node ∷ []) n i d refl (omega arith) ∙ ap (λ m. get_or (node ∷ []) m d) none) in
    record {
      faults = λ i d b. ⊎_elim (λ (l : i < n). rw (first i d l) (h.faults i d l)) (λ (l : n ≤ i). let is : i ≡ n = omega (arith, len) in rw (last i d is) h.next_faults) (cases_lt i n);
      me = λ i d b. ⊎_elim (λ (l : i < n). rw (first i d l) (h.me i d l)) (λ (l : n ≤ i). let is : i ≡ n = omega (arith, len) in rw (last i d is) (h.next_me ∙ sym is)) (cases_lt i n);
      start = λ i d b. ⊎_elim (λ (l : i < n). rw (first i d l) (h.start i d l)) (λ (l : n ≤ i). let is : i ≡ n = omega (arith, len) in rw (last i d is) h.next_start) (cases_lt i n);
      links = λ i d b. ⊎_elim
          (λ (l : i < n). let below : i < k = omega (arith, all) in let was = h.done i d l below in rw (first i d l) (omega (arith, was, len)))
          (λ (l : n ≤ i). let is : i ≡ n = omega (arith, len) in let was = h.next_links in rw (last i d is) (omega (arith, was, all, len)))
          (cases_lt i n);
      peers = λ i d b. ⊎_elim
          (λ (l : i < n). rw (first i d l) (h.peers i d l))
          (λ (l : n ≤ i). let is : i ≡ n = omega (arith, len) in rw (last i d is) (subst (λ (m : ℕ). ArePeers m node.links) (sym is) h.next_peers))
          (cases_lt i n);
      paired = λ i j d less b. ⊎_elim
          (λ (l : i < n). let l' : j < n = omega arith in rw (first i d l, first j d l') (h.paired i j d less l))
          (λ (l : n ≤ i). let is : i ≡ n = omega (arith, len) in let l' : j < n = omega (arith, is, less) in let below : j < k = omega (arith, all) in rw (last i d is, first j d l') (h.next_paired j d l' below))
          (cases_lt i n);
      fresh = λ i d b. ⊎_elim (λ (l : i < n). rw (first i d l) (h.fresh i d l)) (λ (l : n ≤ i). let is : i ≡ n = omega (arith, len) in rw (last i d is) h.next_fresh) (cases_lt i n);
    }

pub linked_host : (c f : ℕ) (s : Version × Opening) (nodes : List Node) → AreLinked c f s nodes → length nodes ≡ size f → IsHost f nodes
linked_host c f s nodes h count = record { count = count; faults = h.faults; me = h.me; start = λ i d low. h.start i d low ∙ sym (h.start 0 d (omega arith)); links = h.links; peers = h.peers; paired = h.paired }

pub linked_fresh : (c f : ℕ) (s : Version × Opening) (nodes : List Node) → AreLinked c f s nodes → All (IsFresh c) nodes
linked_fresh c f s nodes h = λ i d low. h.fresh i d low

pub linked_start : (c f : ℕ) (s : Version × Opening) (nodes : List Node) → AreLinked c f s nodes → All (StartsAs s.0 s.1) nodes
linked_start c f s nodes h = λ i d low. h.start i d low
