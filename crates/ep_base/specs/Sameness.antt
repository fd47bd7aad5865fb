-- Tests of equality, by cases. That they decide it is proved.
use Rattle.std.specs.Prelude.{ℕ, List, [], ◌∷◌, Option, Some, None, Bool, true, false, not, ◌&&◌}
use Rattle.ep_base.specs.Commands.{Command, Noop, Get, Put, Del, Swap, Cas, Seal, Opaque, Tx}
use Rattle.ep_base.specs.declared.decree.Decree.{Decree}
use Rattle.ep_base.specs.declared.reply.Reply.{Reply}
use Rattle.ep_base.specs.declared.reply.Reply.TheVariants.{Absent, Present, Closed, Ordered, Done, Undone}
use Rattle.ep_base.specs.declared.reply.Answer.{Answer}
use Rattle.ep_base.specs.declared.reply.Answer.TheVariants.{Lost, Replied}
use Rattle.ep_base.specs.Attributes.{same_list, same_attrs}
use Rattle.ep_base.specs.Items.{Item}
use Rattle.ep_base.specs.Touched.{Touched}
use Rattle.ep_base.specs.TwoKeys.{TwoKeys}

abbrev pub same_keys : TwoKeys → TwoKeys → Bool
same_keys p q = same_list p.first q.first && same_list p.second q.second

abbrev pub same_option : Option (List ℕ) → Option (List ℕ) → Bool
same_option None None = true
same_option (Some v) (Some w) = same_list v w
same_option _ _ = false

abbrev pub same_asked : Option (Option (List ℕ)) → Option (Option (List ℕ)) → Bool
same_asked None None = true
same_asked (Some o) (Some p) = same_option o p
same_asked _ _ = false

abbrev pub same_bool : Bool → Bool → Bool
same_bool true b = b
same_bool false b = not b

abbrev pub same_touched : Touched → Touched → Bool
same_touched p q = same_list p.first q.first && (same_option p.second q.second && same_bool p.reads q.reads)

abbrev pub same_item : Item → Item → Bool
same_item i j = same_list i.key j.key && (same_asked i.guard j.guard && (same_bool i.reported j.reported && same_asked i.write j.write))

abbrev pub same_items : List Item → List Item → Bool
same_items [] [] = true
same_items (i ∷ is) (j ∷ js) = same_item i j && same_items is js
same_items _ _ = false

-- the same values, or none, in the same order
abbrev pub same_options : List (Option (List ℕ)) → List (Option (List ℕ)) → Bool
same_options [] [] = true
same_options (o ∷ os) (p ∷ ps) = same_option o p && same_options os ps
same_options _ _ = false

abbrev pub same_command : Command → Command → Bool
same_command Noop Noop = true
same_command (Get k) (Get l) = same_list k l
same_command (Put k v) (Put l w) = same_list k l && same_list v w
same_command (Del k) (Del l) = same_list k l
same_command (Swap p) (Swap q) = same_keys p q
same_command (Cas k e n) (Cas l f o) = same_list k l && (same_option e f && same_option n o)
same_command (Seal v) (Seal w) = same_list v w
same_command (Opaque p b) (Opaque q c) = same_touched p q && same_list b c
same_command (Tx is) (Tx js) = same_items is js
same_command _ _ = false

abbrev pub same_decree : Decree → Decree → Bool
same_decree d e = same_command d.command e.command && same_attrs d.attrs e.attrs

abbrev pub same_reply : Reply → Reply → Bool
same_reply Absent Absent = true
same_reply (Present v) (Present w) = same_list v w
same_reply Closed Closed = true
same_reply Ordered Ordered = true
same_reply (Done os) (Done ps) = same_options os ps
same_reply (Undone os) (Undone ps) = same_options os ps
same_reply _ _ = false

abbrev pub same_answer : Answer → Answer → Bool
same_answer Lost Lost = true
same_answer (Replied r) (Replied s) = same_reply r s
same_answer _ _ = false

abbrev pub is_noop : Command → Bool
is_noop Noop = true
is_noop (Get k) = false
is_noop (Put k v) = false
is_noop (Del k) = false
is_noop (Swap p) = false
is_noop (Cas k e n) = false
is_noop (Seal v) = false
is_noop (Opaque p b) = false
is_noop (Tx is) = false
