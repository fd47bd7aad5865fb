-- What a replica may be asked to do.
use Rattle.std.specs.Prelude.{ℕ, List, Option}
use Rattle.ep_base.specs.Items.{Item}
use Rattle.ep_base.specs.Touched.{Touched}
use Rattle.ep_base.specs.TwoKeys.{TwoKeys}

pub data Command : Type 0 where
  -- changes nothing, and has no reply
  Noop : Command
  -- asks for the key's value
  Get : (key : List ℕ) → Command
  -- sets the key's value
  Put : (key value : List ℕ) → Command
  -- removes the key
  Del : (key : List ℕ) → Command
  -- exchanges what two keys have, be it a value or none
  Swap : (keys : TwoKeys) → Command
  -- gives the key what is new, exactly where it has what is expected, be either a value or none
  Cas : (key : List ℕ) (expected new : Option (List ℕ)) → Command
  -- closes the map: what stands behind it changes nothing. Its value is its proposer's
  Seal : (value : List ℕ) → Command
  -- is a machine's outside: it is put in order by its footprint, leaves the map, and means what its body says there
  Opaque : (footprint : Touched) (body : List ℕ) → Command
  -- writes what its items say, if each guard holds, and says what they ask for
  Tx : (items : List Item) → Command
