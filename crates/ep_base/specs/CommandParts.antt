-- A command in parts: its op, at most two keys, and its body. What it has not has no bytes.
use Rattle.std.specs.Prelude.{◌≡◌, ◌≢◌, ℕ, zero, suc, ◌+◌, ◌*◌, ◌/◌, ◌%◌, ◌≤◌, List, [], ◌∷◌, ◌++◌, length, take, drop, slice_index, Option, Some, None, is_some, Bool, true, false, not, ◌&&◌, ◌||◌, ◌==◌, nat_le, if◌then◌else◌}
use Rattle.ep_base.specs.Commands.{Command, Noop, Get, Put, Del, Swap, Cas, Seal, Opaque, Tx}
use Rattle.ep_base.specs.Items.{Item, reported_count, rise_above}
use Rattle.ep_base.specs.declared.op.Op.{Op}
use Rattle.ep_base.specs.declared.op.Op.TheVariants as op
use Rattle.ep_base.specs.Ops.{first_fits, second_fits, body_fits, is_key_len, is_items_len}
use Rattle.ep_base.specs.Attributes.{same_list}
use Rattle.ep_base.specs.Values.{most_value}

pub record CommandParts : Type 0 where
  pub op : Op
  pub first : List ℕ
  pub second : List ℕ
  pub body : List ℕ

-- Those in one run of bytes: m of the first key, n of the second, and the body.
abbrev pub cut : Op → List ℕ → ℕ → ℕ → CommandParts
cut o run m n = record { op = o; first = take m run; second = take n (drop m run); body = drop (m + n) run }

-- the key, if it has bytes
abbrev pub key_if_any : List ℕ → Option (List ℕ)
key_if_any [] = None
key_if_any (b ∷ bs) = Some (b ∷ bs)

abbrev pub key_bytes : Option (List ℕ) → List ℕ
key_bytes None = []
key_bytes (Some k) = k

-- A value or none as bytes: 0, or 1, the value's length in four bytes, of which the first two are 0, and the value.
abbrev pub part_bytes : Option (List ℕ) → List ℕ
part_bytes None = 0 ∷ []
part_bytes (Some v) = 1 ∷ 0 ∷ 0 ∷ length v / 256 ∷ length v % 256 ∷ v

-- the value or none that these bytes begin with
abbrev pub part_at : List ℕ → Option (List ℕ)
part_at b = if slice_index b 0 == 1 then Some (take (slice_index b 3 * 256 + slice_index b 4) (drop 5 b)) else None

-- a comparison's body is what is expected, and then what is new
abbrev pub expected_in : List ℕ → Option (List ℕ)
expected_in b = part_at b

abbrev pub new_in : List ℕ → Option (List ℕ)
new_in b = part_at (drop (length (part_bytes (part_at b))) b)

abbrev pub IsShort : Option (List ℕ) → Type 0
IsShort None = Unit {0}
IsShort (Some v) = length v ≤ most_value

-- how many of the bytes they begin with are a value of at most 65,535 bytes or none, if they do
abbrev pub IsPartLen : List ℕ → Option ℕ → Type 0
IsPartLen b (Some n) = (n ≤ length b) × (take n b ≡ part_bytes (part_at b)) × IsShort (part_at b)
IsPartLen b None = IsShort (part_at b) → (rest : List ℕ) → b ≢ part_bytes (part_at b) ++ rest

abbrev pub is_short : Option (List ℕ) → Bool
is_short None = true
is_short (Some v) = nat_le (length v) most_value

-- these two, with nothing left over
abbrev pub is_comparison : List ℕ → Bool
is_comparison b = same_list b (part_bytes (expected_in b) ++ part_bytes (new_in b)) && (is_short (expected_in b) && is_short (new_in b))

-- Items as bytes.

-- a flag that is set, or 0
abbrev pub flag : ℕ → Bool → ℕ
flag n false = 0
flag n true = n

-- 4 where a value is put, and 8 where the key is deleted
abbrev pub write_flag : Option (Option (List ℕ)) → ℕ
write_flag None = 0
write_flag (Some None) = 8
write_flag (Some (Some v)) = 4

-- 1 where the key is reported, 2 where it is guarded, and that of what is written
abbrev pub flags_of : Item → ℕ
flags_of i = flag 1 i.reported + flag 2 (is_some i.guard) + write_flag i.write

-- a guard: the value or none that must be there
abbrev pub guard_bytes : Option (Option (List ℕ)) → List ℕ
guard_bytes None = []
guard_bytes (Some o) = part_bytes o

-- what is put: the value's length in four bytes, of which the first two are 0, and the value
abbrev pub put_bytes : List ℕ → List ℕ
put_bytes v = 0 ∷ 0 ∷ length v / 256 ∷ length v % 256 ∷ v

abbrev pub write_bytes : Option (Option (List ℕ)) → List ℕ
write_bytes None = []
write_bytes (Some None) = []
write_bytes (Some (Some v)) = put_bytes v

-- An item: the key's length and the flags in a byte each, the key, the guard, and what is put.
abbrev pub item_bytes : Item → List ℕ
item_bytes i = length i.key ∷ flags_of i ∷ (i.key ++ (guard_bytes i.guard ++ write_bytes i.write))

abbrev pub items_bytes : List Item → List ℕ
items_bytes [] = []
items_bytes (i ∷ is) = item_bytes i ++ items_bytes is

-- The body of a command over many keys: how many items there are, in two bytes, and the items.
abbrev pub tx_bytes : List Item → List ℕ
tx_bytes is = length is / 256 ∷ length is % 256 ∷ items_bytes is

-- the guard that bytes with these flags before them begin with
abbrev pub guard_in : ℕ → List ℕ → Option (Option (List ℕ))
guard_in flags b = if flags / 2 % 2 == 1 then Some (part_at b) else None

-- the value that is put
abbrev pub put_in : List ℕ → List ℕ
put_in b = take (slice_index b 2 * 256 + slice_index b 3) (drop 4 b)

-- what is written: a value that is put, or none
abbrev pub write_in : ℕ → List ℕ → Option (Option (List ℕ))
write_in flags b = if flags / 4 == 1 then Some (Some (put_in b)) else if flags / 4 == 2 then Some None else None

-- the same behind the guard
abbrev pub write_behind : ℕ → List ℕ → Option (Option (List ℕ))
write_behind flags b = write_in flags (drop (length (guard_bytes (guard_in flags b))) b)

-- both as bytes
abbrev pub said_bytes : ℕ → List ℕ → List ℕ
said_bytes flags b = guard_bytes (guard_in flags b) ++ write_bytes (write_behind flags b)

-- the item of this key and these flags, where what is behind the key is b
abbrev pub item_with : List ℕ → ℕ → List ℕ → Item
item_with k flags b = record { key = k; guard = guard_in flags b; reported = flags % 2 == 1; write = write_behind flags b }

-- the item that these bytes begin with
abbrev pub item_at : List ℕ → Item
item_at b = item_with (take (slice_index b 0) (drop 2 b)) (slice_index b 1) (drop (slice_index b 0) (drop 2 b))

-- so many of them
abbrev pub items_at : ℕ → List ℕ → List Item
items_at zero b = []
items_at (suc n) b = item_at b ∷ items_at n (drop (length (item_bytes (item_at b))) b)

-- the items of a command over many keys
abbrev pub items_in : List ℕ → List Item
items_in b = items_at (slice_index b 0 * 256 + slice_index b 1) (drop 2 b)

abbrev pub is_short_in : Option (Option (List ℕ)) → Bool
is_short_in None = true
is_short_in (Some o) = is_short o

-- a key of 1 to 255 bytes, of which something is said, and values of at most 65,535 bytes
abbrev pub is_item : Item → Bool
is_item i = is_key_len (length i.key) && ((i.reported || is_some i.guard || is_some i.write) && (is_short_in i.guard && is_short_in i.write))

abbrev pub all_items : List Item → Bool
all_items [] = true
all_items (i ∷ is) = is_item i && all_items is

-- 1 to 1,024 items, in rising order of keys, of which at most 16 are reported, and which have at most 131,080 bytes
abbrev pub are_items : List Item → Bool
are_items is = (nat_le 1 (length is) && nat_le (length is) 1024) && (all_items is && (rise_above [] is && (nat_le (reported_count is) 16 && is_items_len (length (tx_bytes is)))))

-- such items, with nothing left over
abbrev pub is_tx : List ℕ → Bool
is_tx b = same_list b (tx_bytes (items_in b)) && are_items (items_in b)

-- the bytes begin with so many of an item, if they begin with one
abbrev pub IsItemLen : List ℕ → Option ℕ → Type 0
IsItemLen b (Some n) = (n ≤ length b) × (take n b ≡ item_bytes (item_at b)) × (is_item (item_at b) ≡ true)
IsItemLen b None = is_item (item_at b) ≡ true → (rest : List ℕ) → b ≢ item_bytes (item_at b) ++ rest

-- the same of a value that is put, of a guard, and of what is written
abbrev pub IsPutLen : List ℕ → Option ℕ → Type 0
IsPutLen b (Some n) = (n ≤ length b) × (take n b ≡ put_bytes (put_in b)) × (length (put_in b) ≤ most_value)
IsPutLen b None = length (put_in b) ≤ most_value → (rest : List ℕ) → b ≢ put_bytes (put_in b) ++ rest

abbrev pub IsGuardLen : ℕ → List ℕ → Option ℕ → Type 0
IsGuardLen flags b (Some n) = (n ≤ length b) × (take n b ≡ guard_bytes (guard_in flags b)) × (is_short_in (guard_in flags b) ≡ true)
IsGuardLen flags b None = is_short_in (guard_in flags b) ≡ true → (rest : List ℕ) → b ≢ guard_bytes (guard_in flags b) ++ rest

abbrev pub IsWriteLen : ℕ → List ℕ → Option ℕ → Type 0
IsWriteLen flags b (Some n) = (n ≤ length b) × (take n b ≡ write_bytes (write_in flags b)) × (is_short_in (write_in flags b) ≡ true)
IsWriteLen flags b None = is_short_in (write_in flags b) ≡ true → (rest : List ℕ) → b ≢ write_bytes (write_in flags b) ++ rest

-- behind a key and flags they begin with so many of a guard and of what is written, if they do
abbrev pub IsSaidLen : ℕ → List ℕ → Option ℕ → Type 0
IsSaidLen flags b (Some n) = (n ≤ length b) × (take n b ≡ said_bytes flags b) × (is_short_in (guard_in flags b) ≡ true) × (is_short_in (write_behind flags b) ≡ true)
IsSaidLen flags b None = is_short_in (guard_in flags b) ≡ true → is_short_in (write_behind flags b) ≡ true → (rest : List ℕ) → b ≢ said_bytes flags b ++ rest

-- these bytes are so many items in range
abbrev pub are_items_at : ℕ → List ℕ → Bool
are_items_at n b = same_list b (items_bytes (items_at n b)) && all_items (items_at n b)

-- these bytes are so many items, as many as a command may have, in order, and few enough are reported
abbrev pub are_counted : ℕ → List ℕ → Bool
are_counted n b = (nat_le 1 n && nat_le n 1024) && (are_items_at n b && (rise_above [] (items_at n b) && nat_le (reported_count (items_at n b)) 16))

abbrev pub body_said : Op → List ℕ → Bool
body_said op.Noop b = true
body_said op.Get b = true
body_said op.Put b = true
body_said op.Del b = true
body_said op.Swap b = true
body_said op.Cas b = is_comparison b
body_said op.Ask b = true
body_said op.Act b = true
body_said op.Seal b = true
body_said op.Tx b = is_tx b

abbrev pub parts_of : Command → CommandParts
parts_of Noop = record { op = op.Noop; first = []; second = []; body = [] }
parts_of (Get k) = record { op = op.Get; first = k; second = []; body = [] }
parts_of (Put k v) = record { op = op.Put; first = k; second = []; body = v }
parts_of (Del k) = record { op = op.Del; first = k; second = []; body = [] }
parts_of (Swap p) = record { op = op.Swap; first = p.first; second = p.second; body = [] }
parts_of (Cas k e n) = record { op = op.Cas; first = k; second = []; body = part_bytes e ++ part_bytes n }
parts_of (Seal v) = record { op = op.Seal; first = []; second = []; body = v }
parts_of (Opaque p b) = record { op = if p.reads then op.Ask else op.Act; first = p.first; second = key_bytes p.second; body = b }
parts_of (Tx is) = record { op = op.Tx; first = []; second = []; body = tx_bytes is }

-- the command of the op, the keys and the body
abbrev pub command_with : Op → List ℕ → List ℕ → List ℕ → Command
command_with op.Noop k l b = Noop
command_with op.Get k l b = Get k
command_with op.Put k l b = Put k b
command_with op.Del k l b = Del k
command_with op.Swap k l b = Swap (record { first = k; second = l })
command_with op.Cas k l b = Cas k (expected_in b) (new_in b)
command_with op.Ask k l b = Opaque (record { first = k; second = key_if_any l; reads = true }) b
command_with op.Act k l b = Opaque (record { first = k; second = key_if_any l; reads = false }) b
command_with op.Seal k l b = Seal b
command_with op.Tx k l b = Tx (items_in b)

-- the items of a command over many keys; no other has any
abbrev pub items_of : Command → List Item
items_of Noop = []
items_of (Get k) = []
items_of (Put k v) = []
items_of (Del k) = []
items_of (Swap p) = []
items_of (Cas k e n) = []
items_of (Seal v) = []
items_of (Opaque p b) = []
items_of (Tx is) = is

abbrev pub command_in : CommandParts → Command
command_in p = command_with p.op p.first p.second p.body

abbrev pub lengths_fit : CommandParts → Bool
lengths_fit p = first_fits p.op (length p.first) && (second_fits p.op (length p.second) && body_fits p.op (length p.body))

-- the second key is the first one once more
abbrev pub is_twice : List ℕ → List ℕ → Bool
is_twice k [] = false
is_twice k (b ∷ bs) = same_list (b ∷ bs) k

-- they are those of a command: the lengths are those of its op, two keys differ, and a comparison's body and that of many keys are such
abbrev pub are_parts : CommandParts → Bool
are_parts p = lengths_fit p && (not (is_twice p.first p.second) && body_said p.op p.body)

-- the command of these parts, where they are those of one
abbrev pub command_of : CommandParts → Option Command
command_of p = if are_parts p then Some (command_in p) else None

abbrev pub IsKey : List ℕ → Type 0
IsKey k = (1 ≤ length k) × (length k ≤ 255)

abbrev pub IsSecond : List ℕ → Option (List ℕ) → Type 0
IsSecond k None = Unit {0}
IsSecond k (Some l) = IsKey l × (k ≢ l)

-- keys have 1 to 255 bytes, two keys differ, values have at most 65,535 bytes, and many keys are in order
abbrev pub IsInRange : Command → Type 0
IsInRange Noop = Unit {0}
IsInRange (Get k) = IsKey k
IsInRange (Put k v) = IsKey k × (length v ≤ most_value)
IsInRange (Del k) = IsKey k
IsInRange (Swap p) = IsKey p.first × IsSecond p.first (Some p.second)
IsInRange (Cas k e n) = IsKey k × (IsShort e × IsShort n)
IsInRange (Seal v) = length v ≤ most_value
IsInRange (Opaque p b) = IsKey p.first × (IsSecond p.first p.second × (length b ≤ most_value))
IsInRange (Tx is) = are_items is ≡ true
