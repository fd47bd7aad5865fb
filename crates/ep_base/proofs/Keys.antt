-- The keys that a command names, one after the other.
use Rattle.std.proofs.Common.{◌≡◌, ◌∷◌, ◌++◌, refl, sym, ap}
use Rattle.std.proofs.lemmas.List.{append-nil}
use Rattle.ep_base.specs.Commands.{Command, Noop, Get, Put, Del, Swap, Cas, Seal, Opaque, Tx}
use Rattle.ep_base.specs.Items.{item_keys}
use Rattle.ep_base.specs.CommandParts.{items_of}
use Rattle.ep_base.specs.Interference.{listed, keys_of, key_of, second_key_of}

pub keys_listed : (a : Command) → keys_of a ≡ listed (key_of a) ++ listed (second_key_of a) ++ item_keys (items_of a)
keys_listed Noop = refl
keys_listed (Get k) = refl
keys_listed (Put k v) = refl
keys_listed (Del k) = refl
keys_listed (Swap p) = refl
keys_listed (Cas k e n) = refl
keys_listed (Seal v) = refl
keys_listed (Opaque p b) = ap (λ ks. p.first ∷ ks) (sym (append-nil (listed p.second)))
keys_listed (Tx is) = refl
