-- Turns, and looks after them.
use Rattle.std.proofs.Common.{◌≡◌, ℕ, suc, ◌+◌, ◌-◌, ◌<◌, ◌≤◌, ◌||◌, Bool, true, false, true≢false, List, [], length, get_or, refl, sym, ap, ◌∙◌, subst, arith, add-one, All}
use Rattle.std.proofs.lemmas.List.{append-nil}
use Rattle.ep_replica.specs.Kept.{begun}
use Rattle.ep_host.specs.Fates.{Carries}
use Rattle.ep_host.specs.Follows.{Follows, Runs, Settles}
use Rattle.ep_host.specs.Host.{IsHost, Quiet, Looked}
use Rattle.ep_host.specs.Node.{Node, fresh_node}
use Rattle.ep_host.specs.Pointwise.{Each}
use Rattle.ep_host.specs.Turned.{AreTurns, IsTurned, IsTurnIn, AreRounds, WereLet}
use Rattle.ep_host.specs.Turns.{IsTurn}
use Rattle.ep_host.specs.declared.link.Link.{Link}
use Rattle.ep_host.proofs.Following.{follows_follows}
use Rattle.ep_host.proofs.Hosts.{host_still}
use Rattle.ep_host.proofs.Looking.{quiet_carries, looked_self, looked_looked}
use Rattle.ep_host.proofs.Places.{each_each, each_weaker}

-- a look follows

links_follow : (a : Node) (links : List Link) → Each Quiet a.links links → Follows a (record a { links = links })
links_follow a links h = record {
  works = record {
    faults = refl;
    me = refl;
    start = refl;
    entries = [];
    journal = sym (append-nil a.replica.entries);
    used = [];
    agenda = refl;
    asked = refl;
    refused = sym (append-nil a.refused);
    place = refl;
  };
  fates = [];
  frames = refl;
  rings = each_weaker Quiet (Carries a.weather []) (quiet_carries a.weather) a.links links h;
  weather = refl;
  dropped = 0;
  lost = refl;
}

pub looked_follows : (a b : Node) → Looked a b → Follows a b
looked_follows a b h = subst (λ (n : Node). Follows a n) (sym h.is) (links_follow a b.links h.links)

follows_looked : (a b c : Node) → Follows a b → Looked b c → Follows a c
follows_looked a b c h k = follows_follows a b c h (looked_follows b c k)

runs_looked : (a b c : Node) → Runs a b → Looked b c → Runs a c
runs_looked a b c h k = record {
  follows = follows_looked a b c h.follows k;
  ended = λ e. ap (λ (n : Node). n.agenda) k.is ∙ h.ended (sym (ap (λ (n : Node). n.ended) k.is) ∙ e);
}

settles_looked : (n : ℕ) (a b c : Node) → Settles n a b → Looked b c → Settles n a c
settles_looked n a b c h k = record { follows = follows_looked a b c h.follows k; agenda = (let e = ap (λ (x : Node). length x.agenda) k.is in let l = h.agenda in omega (arith, e, l)) }

-- turns

pub turns_more : (n : ℕ) (moved : Bool) (a b c : Node) → AreTurns n a b → IsTurn moved b c → AreTurns (n + 1) a c
turns_more n moved a b c h t = rw add-one (b, moved, h, t)

-- a turn of a round

pub turn_before : (now moved : Bool) (a b : Node) → IsTurnIn moved a b → IsTurnIn (now || moved) a b
turn_before true moved a b t = (t.0, t.1, λ e. refl)
turn_before false moved a b t = t

pub turn_now : (now moved : Bool) (a b : Node) → IsTurnIn now a b → IsTurnIn (now || moved) a b
turn_now true moved a b t = (t.0, t.1, λ e. refl)
turn_now false moved a b t = (t.0, t.1, λ e. absurd (true≢false (sym (t.2 e))))

-- all rounds, from what is left of them: k, after this one's

abbrev pub AreLeft : ℕ → ℕ → List Node → List Node → Type 0
AreLeft done limit xs zs = (k : ℕ) (ys : List Node) → k + done ≡ limit → AreRounds k zs ys → AreRounds limit xs ys

pub rounds_none : (limit : ℕ) (xs : List Node) → AreLeft 0 limit xs xs
rounds_none limit xs k ys e h = subst (λ (n : ℕ). AreRounds n xs ys) (omega (arith, e)) h

pub rounds_more : (done limit : ℕ) (xs zs ws : List Node) → AreLeft done limit xs zs → Each (IsTurnIn true) zs ws → AreLeft (done + 1) limit xs ws
rounds_more done limit xs zs ws left each k ys e h = left (suc k) ys (omega (arith, e)) (ws, true, each, h)

pub rounds_idle : (done limit : ℕ) (xs zs ws : List Node) → AreLeft done limit xs zs → done < limit → Each (IsTurnIn false) zs ws → AreRounds limit xs ws
rounds_idle done limit xs zs ws left low each = let k : ℕ = limit - (done + 1) in left (suc k) ws (omega (arith, low)) (ws, false, each, refl)

pub rounds_all : (done limit : ℕ) (xs zs : List Node) → AreLeft done limit xs zs → done ≡ limit → AreRounds limit xs zs
rounds_all done limit xs zs left at = left 0 zs (omega (arith, at)) refl

-- after so many turns it is noted whether the node ended
pub turned_end : (n limit : ℕ) (a b : Node) (ended : Bool) → n ≤ limit → (ended ≡ false → n ≡ limit) → (ended ≡ true → 1 ≤ n) → AreTurns n a b → IsTurned limit a (record b { ended = ended })
turned_end n limit a b ended few all some h = record { count = n; few = few; all = all; some = some; last = b; turns = h; looked = looked_self (record b { ended = ended }) }

turned_looked : (limit : ℕ) (a b c : Node) → IsTurned limit a b → Looked b c → IsTurned limit a c
turned_looked limit a b c h k = record {
  count = h.count;
  few = h.few;
  all = λ e. h.all (sym (ap (λ (n : Node). n.ended) k.is) ∙ e);
  some = λ e. h.some (sym (ap (λ (n : Node). n.ended) k.is) ∙ e);
  last = h.last;
  turns = h.turns;
  looked = (let e : b.ended ≡ c.ended = sym (ap (λ (n : Node). n.ended) k.is) in subst (λ (v : Bool). Looked (record h.last { ended = v }) c) e (looked_looked (record h.last { ended = b.ended }) b c h.looked k));
}

-- all nodes

pub each_runs : (xs ys zs : List Node) → Each Runs xs ys → Each Looked ys zs → Each Runs xs zs
each_runs xs ys zs h k = each_each Runs Looked Runs runs_looked xs ys zs h k

pub each_settles : (n : ℕ) (xs ys zs : List Node) → Each (Settles n) xs ys → Each Looked ys zs → Each (Settles n) xs zs
each_settles n xs ys zs h k = each_each (Settles n) Looked (Settles n) (settles_looked n) xs ys zs h k

pub each_turned : (n : ℕ) (xs ys zs : List Node) → Each (IsTurned n) xs ys → Each Looked ys zs → Each (IsTurned n) xs zs
each_turned n xs ys zs h k = each_each (IsTurned n) Looked (IsTurned n) (turned_looked n) xs ys zs h k

pub were_let_looked : (lets : ℕ → Type 0) (ys zs : List Node) → Each Looked ys zs → WereLet lets ys → WereLet lets zs
were_let_looked lets ys zs h were = λ i d low ended. let l : i < length ys = omega (arith, h.len) in were i d l (sym (ap (λ (n : Node). n.ended) (h.at i d l).is) ∙ ended)

pub host_ran : (f : ℕ) (xs ys : List Node) → Each Runs xs ys → IsHost f xs → IsHost f ys
host_ran f xs ys h host = host_still f xs ys (each_weaker Runs Follows (λ a b r. r.follows) xs ys h) host

pub host_settled : (n f : ℕ) (xs ys : List Node) → Each (Settles n) xs ys → IsHost f xs → IsHost f ys
host_settled n f xs ys h host = host_still f xs ys (each_weaker (Settles n) Follows (λ a b s. s.follows) xs ys h) host

-- where each node has ended, each was let end
pub all_passed :
    (lets : ℕ → Type 0) (seen nodes old : List Node) → seen ≡ nodes → length nodes ≡ length old → All (λ (n : Node). n.ended ≡ true) seen → WereLet lets nodes → (i : ℕ) → i < length old → lets i
all_passed lets seen nodes old is len all were = λ i low.
    let l : i < length nodes = omega (arith, len) in
    let b = fresh_node (begun 0 0) in
    were i b l (subst (λ (ns : List Node). All (λ (n : Node). n.ended ≡ true) ns) is all i b l)
