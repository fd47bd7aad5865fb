-- What a player's tables say of a replay.
use Rattle.std.specs.Prelude.{◌≡◌, ◌↔◌, ℕ, suc, ◌≤◌, nat_eq, Bool, true, false, Option, Some, None, List, [], slice_index_or as get_or}
use Rattle.indexmap.specs.IndexMap.{get}
use Rattle.ep_journal.specs.Openings.{opens}
use Rattle.ep_rules.specs.Verdicts.{IsOwn}
use Rattle.ep_rules.specs.Worlds.{In}
use Rattle.ep_rules.specs.declared.receipt.Receipt.{Receipt}
use Rattle.ep_world.specs.Played.{Played, journals_in}
use Rattle.ep_replay.specs.Clients.{times, greatest}
use Rattle.ep_replay.specs.Outcome.{EndsAt}
use Rattle.ep_replay.specs.Replays.{Replay, refusals}
use Rattle.ep_replay.specs.declared.clients.Client.{Client}
use Rattle.ep_replay.specs.declared.clients.Clients.{Clients}
use Rattle.ep_replay.specs.declared.given.Given.{Given}
use Rattle.ep_replay.specs.declared.player.Player.{Player}
use Rattle.ep_replay.specs.declared.tried.Tried.{Tried}
use Rattle.ep_script.specs.Plan.{Plan}

-- Clients.

abbrev pub or_new : Option Client → Client
or_new None = record { requests = 0; seen = 0 }
or_new (Some client) = client

-- what the table has of a client; where it has nothing, no requests and no stamp
abbrev pub known : Clients → ℕ → Client
known clients c = or_new (get nat_eq clients.table c)

-- the table says how often each client has proposed, and the greatest stamp that it has seen
abbrev pub AreCounted : Clients → List ℕ → List Receipt → Type 0
AreCounted clients proposers receipts = (c : ℕ) → known clients c ≡ record { requests = times c proposers; seen = greatest c receipts }

-- Messages.

-- the flags say which messages were given; up to the floor all were
pub record AreFlagged (flags : Given) (given : List ℕ) : Type 0 where
  pub flag : (place : ℕ) → (get_or flags.flags.items place false ≡ true) ↔ In (suc place) given
  pub floor : (m : ℕ) → 1 ≤ m → m ≤ flags.floor → In m given

-- Receipts.

-- each is of a command that its replica proposed and executed
abbrev pub AreOwn : Played → List Receipt → Type 0
AreOwn w receipts = (t : Receipt) → In t receipts → (r : ℕ) × IsOwn (opens w.opening) w.faults r (journals_in w r) t

-- Players.

-- what a player doesn't keep of a replay, or not always
pub record Behind : Type 0 where
  pub proposers : List ℕ
  pub given : List ℕ
  pub tried : List Tried

abbrev pub nothing : Behind
nothing = record { proposers = []; given = []; tried = [] }

-- how far the player has replayed
abbrev pub reported : Player → Behind → Replay
reported s b = record { world = s.world; proposers = b.proposers; given = b.given; receipts = s.receipts.items; tried = b.tried }

pub record IsPlayerOf (s : Player) (b : Behind) : Type 0 where
  pub clients : AreCounted s.clients b.proposers s.receipts.items
  pub flags : AreFlagged s.given b.given
  pub own : AreOwn s.world s.receipts.items
  pub refused : s.refused.items ≡ refusals b.tried
  pub log : s.keeps ≡ true → s.tried.items ≡ b.tried

-- the player names a replay that R holds of, and keeps each event, or not, as the one before
pub record LedTo (R : Replay → Type 0) (s s' : Player) : Type 0 where
  pub behind : Behind
  pub related : R (reported s' behind)
  pub reports : IsPlayerOf s' behind
  pub keeps : s'.keeps ≡ s.keeps

-- whatever replay the one player names, the other names one to which R leads
abbrev pub LeadsTo : (Replay → Replay → Type 0) → Player → Player → Type 0
LeadsTo R s s' = (b : Behind) → IsPlayerOf s b → LedTo (R (reported s b)) s s'

-- the player has played all lines of the script
pub record HasPlayed (script : Plan) (kept : Bool) (s : Player) : Type 0 where
  pub behind : Behind
  pub at_end : EndsAt script (reported s behind)
  pub reports : IsPlayerOf s behind
  pub keeps : s.keeps ≡ kept
