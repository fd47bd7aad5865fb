-- tools/generate writes this file, from crates/ep_rules/specs/OneMap.antt.
-- One map of bytes, until a seal closes it: what commands do to it, and what they are answered.
use Rattle.std.specs.Prelude.{ℕ, List, [], ◌∷◌, Option, Some, None, Bool, true, is_none, not, ◌&&◌, if◌then◌else◌}
use Rattle.std.specs.Ordering.{nat_cmp}
use Rattle.std.specs.Cmp.Lexicographic.{slice_cmp}
use Rattle.ep_laws.specs.Rows.KeyMaps as map
use Rattle.ep_base.specs.Sameness.{is_noop, same_option}
use Rattle.ep_base.specs.Commands.{Command, Noop, Get, Put, Del, Swap, Cas, Seal, Opaque, Tx}
use Rattle.ep_base.specs.Items.{Item}
use Rattle.ep_base.specs.declared.reply.Reply.{Reply}
use Rattle.ep_base.specs.declared.reply.Reply.TheVariants.{Absent, Present, Closed, Ordered, Done, Undone}
use Rattle.ep_base.specs.declared.reply.Answer.{Answer}
use Rattle.ep_base.specs.declared.reply.Answer.TheVariants.{Lost, Replied}

-- what the keys have
abbrev pub Contents : Type 0
Contents = map.FinMap (slice_cmp nat_cmp) (List ℕ)

-- no key has a value
abbrev pub empty : Contents
empty = map.empty

-- what the key has
abbrev pub value_at : Contents → List ℕ → Option (List ℕ)
value_at m k = map.get m k

-- the contents with this at the key, or with nothing there
abbrev pub with_key : Contents → List ℕ → Option (List ℕ) → Contents
with_key m k None = map.remove m k
with_key m k (Some v) = map.insert m k v

-- the guard, if there is one, holds of what its key has
abbrev pub holds_of : Option (Option (List ℕ)) → Option (List ℕ) → Bool
holds_of None had = true
holds_of (Some wanted) had = same_option had wanted

-- each guard holds
abbrev pub all_hold : Contents → List Item → Bool
all_hold m [] = true
all_hold m (i ∷ is) = holds_of i.guard (value_at m i.key) && all_hold m is

-- the contents with what is written at the key, if anything is
abbrev pub with_write : Contents → List ℕ → Option (Option (List ℕ)) → Contents
with_write m k None = m
with_write m k (Some o) = with_key m k o

-- all is written that the items write
abbrev pub with_writes : Contents → List Item → Contents
with_writes m [] = m
with_writes m (i ∷ is) = with_writes (with_write m i.key i.write) is

-- what each key had whose value is asked for
abbrev pub reply_values : Contents → List Item → List (Option (List ℕ))
reply_values m [] = []
reply_values m (i ∷ is) = if i.reported then value_at m i.key ∷ reply_values m is else reply_values m is

-- the contents after a command on an open map; a seal leaves them, and so does a command of a machine outside
abbrev pub written : Contents → Command → Contents
written m Noop = m
written m (Get k) = m
written m (Put k v) = map.insert m k v
written m (Del k) = map.remove m k
written m (Swap keys) = with_key (with_key m keys.first (value_at m keys.second)) keys.second (value_at m keys.first)
written m (Cas k expected new) = if same_option (value_at m k) expected then with_key m k new else m
written m (Seal v) = m
written m (Opaque p b) = m
written m (Tx is) = if all_hold m is then with_writes m is else m

-- what a reply says of a key
abbrev pub reported : Option (List ℕ) → Reply
reported None = Absent
reported (Some v) = Present v

-- the reply of an open map: what the command's key, of a swap the first one, has just before it; to a command of a machine outside, that it is in order; to one over many keys, whether it wrote, and what each reported key has just before it
abbrev pub read : Contents → Command → Reply
read m Noop = Absent
read m (Get k) = reported (value_at m k)
read m (Put k v) = reported (value_at m k)
read m (Del k) = reported (value_at m k)
read m (Swap keys) = reported (value_at m keys.first)
read m (Cas k expected new) = reported (value_at m k)
read m (Seal v) = Absent
read m (Opaque p b) = Ordered
read m (Tx is) = if all_hold m is then Done (reply_values m is) else Undone (reply_values m is)

-- the map: what its keys have, and the value of the seal that closed it
pub record Store : Type 0 where
  pub contents : Contents
  pub seal : Option (List ℕ)

-- an open map with these contents
abbrev pub opened : Contents → Store
opened m = record { contents = m; seal = None }

abbrev pub is_closed : Store → Bool
is_closed s = not (is_none s.seal)

-- the value of a seal
abbrev pub sealed_by : Command → Option (List ℕ)
sealed_by Noop = None
sealed_by (Get k) = None
sealed_by (Put k v) = None
sealed_by (Del k) = None
sealed_by (Swap keys) = None
sealed_by (Cas k expected new) = None
sealed_by (Seal v) = Some v
sealed_by (Opaque p b) = None
sealed_by (Tx is) = None

abbrev pub after_under : Option (List ℕ) → Contents → Command → Store
after_under None m c = record { contents = written m c; seal = sealed_by c }
after_under (Some v) m c = record { contents = m; seal = Some v }

-- the map after a command: a closed one stays as it is
abbrev pub after : Store → Command → Store
after s c = after_under s.seal s.contents c

abbrev pub reply_under : Option (List ℕ) → Contents → Command → Reply
reply_under None m c = read m c
reply_under (Some v) m c = if is_noop c then Absent else Closed

-- the reply to a command: a closed map says so
abbrev pub reply : Store → Command → Reply
reply s c = reply_under s.seal s.contents c

-- what an execution answers: the reply, or that the proposal was lost
abbrev pub answer : Store → Command → Answer
answer s c = if is_noop c then Lost else Replied (reply s c)

-- what the commands of these instances leave, done in turn
abbrev pub after_all : (ℕ → Command) → Store → List ℕ → Store
after_all c s [] = s
after_all c s (i ∷ is) = after_all c (after s (c i)) is

-- the answers where the instances are executed in turn
abbrev pub answers_of : (ℕ → Command) → Store → List ℕ → List Answer
answers_of c s [] = []
answers_of c s (i ∷ is) = answer s (c i) ∷ answers_of c (after s (c i)) is

-- the replies of one map to commands in turn
abbrev pub replies : Store → List Command → List Reply
replies s [] = []
replies s (c ∷ cs) = reply s c ∷ replies (after s c) cs

-- what commands in turn leave
abbrev pub after_commands : Store → List Command → Store
after_commands s [] = s
after_commands s (c ∷ cs) = after_commands (after s c) cs
