-- How one open instance is waited for, and what is asked for it.
use Rattle.std.specs.Prelude.{◌≤◌, ◌+◌, ◌*◌, ◌/◌, ◌%◌, ℕ, Bool, true, false, ◌&&◌, ◌||◌, not, eqb, leb, ltb, cond, min, max, List, Option, Some, None}
use Rattle.ep_base.specs.Instances.{leader_of}
use Rattle.ep_base.specs.Quorums.{size}
use Rattle.ep_phase.specs.declared.progress.LeadPhase.{LeadPhase}
use Rattle.ep_phase.specs.declared.progress.LeadPhase.TheVariants.{Proposing, Accepting, Preparing}
use Rattle.rand_xoshiro.specs.SplitMix64.{mix_u64}
use Rattle.ep_patience.specs.Peers.{count, slowest}
use Rattle.ep_patience.specs.declared.outlook.Outlook.{Outlook}
use Rattle.ep_patience.specs.declared.peer.Peer.{Peer}
use Rattle.ep_patience.specs.declared.peers.Place.{Place}
use Rattle.ep_patience.specs.declared.remedy.Remedy.{Remedy}
use Rattle.ep_patience.specs.declared.remedy.Remedy.TheVariants.{GiveUp, Recover}
use Rattle.ep_patience.specs.declared.seen.Seen.{Seen}
use Rattle.ep_patience.specs.declared.waiting.Waiting.{Waiting}
use Rattle.ep_patience.specs.declared.waits.Waits.{Waits}

-- Times, which stop at 2^64 - 1.

abbrev pub plus : ℕ → ℕ → ℕ
plus now wait = min (now + wait) 18446744073709551615

-- when such a wait ends that begins now, by a random number
unfoldable pub later : ℕ → ℕ → ℕ → ℕ
later now wait random = min (now + (wait + random % (wait + 1))) 18446744073709551615

-- once to twice so long after now
abbrev pub IsWithin : ℕ → ℕ → ℕ → Type 0
IsWithin now wait due = (min (now + wait) 18446744073709551615 ≤ due) × (due ≤ now + 2 * wait)

-- the number that SplitMix64 (Steele, Lea and Flood, 2014) gives in the state seed + now + instance, modulo 2^64
unfoldable pub chance : ℕ → ℕ → ℕ → ℕ
chance seed now i = (mix_u64 (((seed + now) % 18446744073709551616 + i) % 18446744073709551616)).0

-- What a turn at this time judges an instance by whose proposal spares this replica.
abbrev pub outlook : Waits → Place → List Peer → ℕ → ℕ → Outlook
outlook w place peers spared now = record {
  place = place;
  time = now;
  own = slowest w place peers spared (size place.size);
  again = slowest w place peers place.me (size place.size);
  members = count place peers spared (size place.size);
}

abbrev pub is_own : Outlook → Seen → Bool
is_own o x = eqb (leader_of x.instance) o.place.me

-- The wait.

-- that begins where an instance is first seen: until a Commit should have come that a peer reports; for the time-out of those to which an own proposal goes; or once to twice the peers'
-- time-out and the way to the leader
abbrev pub begun_due : Outlook → ℕ → ℕ → Seen → ℕ → ℕ
begun_due o reported distance x random =
    cond x.is_reported (later o.time reported random) (cond (is_own o x) (plus o.time o.own) (later o.time (min (o.again + distance) 4294967295) random))

abbrev pub begun : Outlook → ℕ → ℕ → Seen → ℕ → Waiting
begun o reported distance x random = record { due = begun_due o reported distance x random; wait = 0; is_asked = false; silent = 0 }

-- that of an instance which is hurried
abbrev pub hurried : Outlook → Waiting → ℕ → Waiting
hurried o w random = cond (not w.is_asked) w (record { due = min w.due (later o.time o.again random); wait = o.again; is_asked = true; silent = w.silent })

-- once something is asked for: the peers' time-out, and twice as long each time
abbrev pub asked_wait : Outlook → ℕ → Waiting → ℕ
asked_wait o longest w = cond w.is_asked (min (min (w.wait * 2) 4294967295) longest) o.again

abbrev pub asked : Outlook → ℕ → Waiting → ℕ → Waiting
asked o longest w random = record { due = later o.time (asked_wait o longest w) random; wait = asked_wait o longest w; is_asked = true; silent = 0 }

-- where nothing is asked for: the members' time-out once more
abbrev pub waited_on : Outlook → Waiting → Waiting
waited_on o w = record { due = plus o.time o.own; wait = w.wait; is_asked = w.is_asked; silent = cond (ltb w.silent 3) (w.silent + 1) w.silent }

-- once somebody has begun to recover the instance, at a ballot of this counter: the peers' time-out, and as long again for each 8 ballots before it, up to 16 times
abbrev pub put_off_wait : ℕ → ℕ → ℕ → ℕ
put_off_wait again longest ballot = min (min (again * min (1 + ballot / 8) 16) 4294967295) longest

-- until then at least
abbrev pub put_off : Waiting → ℕ → Waiting
put_off w until = record { due = max w.due until; wait = w.wait; is_asked = w.is_asked; silent = w.silent }

-- What is asked for.

-- an own proposal waits in vain: it has as many answers as the slow path needs, and not all 2F - 1 members are reached; or it has fewer, and too few are reached
abbrev pub is_hopeless : Outlook → ℕ → Bool
is_hopeless o answers = cond (leb o.place.size answers) (ltb (o.members + 1) (2 * o.place.size)) (ltb o.members o.place.size)

abbrev pub hopeless_lead : Outlook → Option (LeadPhase × ℕ) → Bool
hopeless_lead o None = false
hopeless_lead o (Some (Proposing, answers)) = is_hopeless o answers
hopeless_lead o (Some (Accepting, answers)) = false
hopeless_lead o (Some (Preparing, answers)) = false

-- is its wait over, or was nothing asked for, and it waits in vain
abbrev pub is_late : Outlook → Seen → Waiting → Bool
is_late o x w = leb w.due o.time || (not w.is_asked && (is_own o x && hopeless_lead o x.leads))

-- an own proposal is given up where F others have answered; else it is waited for, and recovered where too few members are reached, or after 3 waits
abbrev pub remedy_proposed : Outlook → ℕ → ℕ → ℕ → Option Remedy
remedy_proposed o i answers silent =
    cond (leb o.place.size answers) (Some (GiveUp i)) (cond (ltb o.members o.place.size || leb 3 silent) (Some (Recover i)) None)

-- an own instance: in the accept phase it is waited for, and recovered after 3 waits
abbrev pub remedy_own : Outlook → ℕ → Option (LeadPhase × ℕ) → ℕ → Option Remedy
remedy_own o i None silent = Some (Recover i)
remedy_own o i (Some (Proposing, answers)) silent = remedy_proposed o i answers silent
remedy_own o i (Some (Accepting, answers)) silent = cond (leb 3 silent) (Some (Recover i)) None
remedy_own o i (Some (Preparing, answers)) silent = Some (Recover i)

abbrev pub remedy_of : Outlook → Seen → Waiting → Option Remedy
remedy_of o x w = cond (is_own o x) (remedy_own o x.instance x.leads w.silent) (Some (Recover x.instance))

abbrev pub remedy_at : Outlook → Seen → Waiting → Option Remedy
remedy_at o x w = cond (is_late o x w) (remedy_of o x w) None
