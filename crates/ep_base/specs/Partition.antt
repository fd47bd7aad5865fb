-- What a command's parts say of it.
use Rattle.std.specs.Prelude.{◌≡◌, ◌++◌, Some, []}
use Rattle.ep_base.specs.Commands.{Command}
use Rattle.ep_base.specs.Interference.{keys_of, listed, only_reads}
use Rattle.ep_base.specs.Items.{item_keys}
use Rattle.ep_base.specs.Ops.{reads}
use Rattle.ep_base.specs.CommandParts.{CommandParts, parts_of, command_of, key_if_any, items_of, IsInRange}

-- A command is its parts: those that are a command's are those of the command that they make; and they report its keys and whether it only reads.
pub record PartsLaw : Type 0 where
  pub back : (p : CommandParts) (c : Command) → command_of p ≡ Some c → parts_of c ≡ p
  pub ranges : (p : CommandParts) (c : Command) → command_of p ≡ Some c → IsInRange c
  pub forth : (c : Command) → IsInRange c → command_of (parts_of c) ≡ Some c
  pub keys : (c : Command) → IsInRange c → keys_of c ≡ listed (key_if_any (parts_of c).first) ++ listed (key_if_any (parts_of c).second) ++ item_keys (items_of c)
  -- of one over many keys its items say that
  pub reads : (c : Command) → IsInRange c → items_of c ≡ [] → only_reads c ≡ reads (parts_of c).op
