-- Worked rows of commands over many keys, computed from the definitions.
use Rattle.std.proofs.Common.{◌≡◌, ℕ, true, false, Bool, List, [], ◌∷◌, map, Option, Some, None, refl}
use Rattle.ep_base.specs.Interference.{interfere}
use Rattle.ep_base.specs.Items.{Item}
use Rattle.ep_base.specs.Commands.{Command, Noop, Put, Get, Seal, Tx}
use Rattle.ep_base.specs.CommandParts.{parts_of, command_of, tx_bytes, items_in, is_tx}
use Rattle.ep_base.specs.declared.reply.Reply.{Reply}
use Rattle.ep_base.specs.declared.reply.Reply.TheVariants.{Absent, Present, Closed, Done, Undone}
use Rattle.ep_laws.specs.Rows.OneMap.{empty, Store, opened, after, after_commands, replies}
use Rattle.ep_laws.proofs.Playing.{put_x, get_x}

-- a key of one byte, with a guard, whether it is reported, and what is written
abbrev item : ℕ → Option (Option (List ℕ)) → Bool → Option (Option (List ℕ)) → Item
item k guard reported write = record { key = k ∷ []; guard = guard; reported = reported; write = write }

-- `if x %! put x 1 get y`
abbrev one : Command
one = Tx (item 120 (Some None) false (Some (Some (49 ∷ []))) ∷ (item 121 None true None ∷ []))

-- `get x del x put y 2 get y`
abbrev two : Command
two = Tx (item 120 None true (Some None) ∷ (item 121 None true (Some (Some (50 ∷ []))) ∷ []))

-- `get x get y`
abbrev both : Command
both = Tx (item 120 None true None ∷ (item 121 None true None ∷ []))

-- the guard holds once; what is reported is what was there just before
one_reports : replies (opened empty) (one ∷ (one ∷ (get_x ∷ []))) ≡ Done (None ∷ []) ∷ (Undone (None ∷ []) ∷ (Present (49 ∷ []) ∷ []))
one_reports = refl

two_reports : replies (opened empty) (one ∷ (two ∷ (both ∷ (one ∷ (both ∷ [])))))
    ≡ Done (None ∷ []) ∷ (Done (Some (49 ∷ []) ∷ (None ∷ [])) ∷ (Done (None ∷ (Some (50 ∷ []) ∷ [])) ∷ (Done (Some (50 ∷ []) ∷ []) ∷ (Done (Some (49 ∷ []) ∷ (Some (50 ∷ []) ∷ [])) ∷ []))))
two_reports = refl

-- one guard that fails keeps all from being written
none_written : after_commands (opened empty) (Tx (item 120 (Some (Some (49 ∷ []))) false None ∷ (item 121 None false (Some (Some [])) ∷ [])) ∷ []) ≡ opened empty
none_written = refl

-- all writes are done where all guards hold
all_written : after_commands (opened empty) (put_x 49 ∷ (Tx (item 120 (Some (Some (49 ∷ []))) false (Some None) ∷ (item 121 (Some None) false (Some (Some (50 ∷ []))) ∷ [])) ∷ []))
    ≡ record { contents = (121 ∷ [], 50 ∷ []) ∷ []; seal = None }
all_written = refl

-- behind a seal nothing is written, and that is reported
closed_reports : replies (opened empty) (Seal [] ∷ (one ∷ (both ∷ []))) ≡ Absent ∷ (Closed ∷ (Closed ∷ []))
closed_reports = refl

-- any common key, unless both only read
one_meets : map (λ c. interfere one c) (get_x ∷ (Get (121 ∷ []) ∷ (Get (122 ∷ []) ∷ (both ∷ (one ∷ (Noop ∷ (Seal [] ∷ [])))))))
    ≡ true ∷ (true ∷ (false ∷ (true ∷ (true ∷ (false ∷ (true ∷ []))))))
one_meets = refl

both_meets : map (λ c. interfere both c) (get_x ∷ (put_x 49 ∷ (both ∷ (two ∷ (Put (122 ∷ []) [] ∷ []))))) ≡ false ∷ (true ∷ (false ∷ (true ∷ (false ∷ []))))
both_meets = refl

-- its body, byte by byte
one_bytes : tx_bytes (item 120 (Some None) false (Some (Some (49 ∷ []))) ∷ (item 121 None true None ∷ [])) ≡ 0 ∷ (2 ∷ (1 ∷ (6 ∷ (120 ∷ (0 ∷ (0 ∷ (0 ∷ (0 ∷ (1 ∷ (49 ∷ (1 ∷ (1 ∷ (121 ∷ [])))))))))))))
one_bytes = refl

one_again : command_of (parts_of one) ≡ Some one
one_again = refl

-- flags that say nothing, or that the key is put and deleted; keys out of order, and one key twice
flags_refused : map is_tx ((0 ∷ (1 ∷ (1 ∷ (0 ∷ (120 ∷ []))))) ∷ ((0 ∷ (1 ∷ (1 ∷ (12 ∷ (120 ∷ (0 ∷ (0 ∷ (0 ∷ (0 ∷ []))))))))) ∷ ((0 ∷ (1 ∷ (1 ∷ (16 ∷ (120 ∷ []))))) ∷ []))) ≡ false ∷ (false ∷ (false ∷ []))
flags_refused = refl

order_refused : map is_tx ((0 ∷ (2 ∷ (1 ∷ (1 ∷ (121 ∷ (1 ∷ (1 ∷ (120 ∷ [])))))))) ∷ ((0 ∷ (2 ∷ (1 ∷ (1 ∷ (120 ∷ (1 ∷ (8 ∷ (120 ∷ [])))))))) ∷ ((0 ∷ (2 ∷ (1 ∷ (1 ∷ (120 ∷ (1 ∷ (1 ∷ (121 ∷ [])))))))) ∷ []))) ≡ false ∷ (false ∷ (true ∷ []))
order_refused = refl
