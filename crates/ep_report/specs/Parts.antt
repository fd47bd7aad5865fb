-- What instances, commands and answers are printed as.
use Rattle.std.specs.Prelude.{ℕ, Bool, true, false, List, [], ◌∷◌, ◌++◌, Option, Some, None, codes, decimal}
use Rattle.ep_base.specs.Commands.{Command, Noop, Get, Put, Del, Swap, Cas, Seal, Opaque, Tx}
use Rattle.ep_base.specs.Items.{Item}
use Rattle.ep_base.specs.declared.reply.Reply.{Reply}
use Rattle.ep_base.specs.declared.reply.Reply.TheVariants.{Absent, Present, Closed, Ordered, Done, Undone}
use Rattle.ep_base.specs.declared.reply.Answer.{Answer}
use Rattle.ep_base.specs.declared.reply.Answer.TheVariants.{Lost, Replied}
pub use Rattle.ep_journal.specs.Refusals.{instance_text}
use Rattle.ep_report.specs.declared.part.Part.{Part}
use Rattle.ep_report.specs.declared.part.Part.TheVariants as part
use Rattle.ep_script.specs.Word.{word_of}

-- further instances, each after a comma
abbrev pub more_deps : List ℕ → List ℕ
more_deps [] = []
more_deps (i ∷ is) = codes "," ++ instance_text i ++ more_deps is

-- instances joined by commas, or a hyphen where there are none
abbrev pub deps_text : List ℕ → List ℕ
deps_text [] = codes "-"
deps_text (i ∷ is) = instance_text i ++ more_deps is

-- a value, or that there is none
abbrev pub option_text : Option (List ℕ) → List ℕ
option_text None = codes "%!"
option_text (Some value) = word_of value

-- a command of a machine outside is asked where it only reads
abbrev pub request_text : Bool → List ℕ
request_text true = codes "ask "
request_text false = codes "act "

-- a blank and the second key, where there is one
abbrev pub second_key_text : Option (List ℕ) → List ℕ
second_key_text None = []
second_key_text (Some key) = codes " " ++ word_of key

-- what an item says of its key: its guard, that it is reported, and what is written, those of them that it has

abbrev pub guard_text : List ℕ → Option (Option (List ℕ)) → List ℕ
guard_text key None = []
guard_text key (Some wanted) = codes " if " ++ word_of key ++ codes " " ++ option_text wanted

abbrev pub reported_text : List ℕ → Bool → List ℕ
reported_text key false = []
reported_text key true = codes " get " ++ word_of key

abbrev pub write_text : List ℕ → Option (Option (List ℕ)) → List ℕ
write_text key None = []
write_text key (Some None) = codes " del " ++ word_of key
write_text key (Some (Some value)) = codes " put " ++ word_of key ++ codes " " ++ word_of value

abbrev pub item_text : Item → List ℕ
item_text i = guard_text i.key i.guard ++ reported_text i.key i.reported ++ write_text i.key i.write

abbrev pub items_text : List Item → List ℕ
items_text [] = []
items_text (i ∷ is) = item_text i ++ items_text is

-- a value that is reported, or that there is none
abbrev pub value_text : Option (List ℕ) → List ℕ
value_text None = codes " absent"
value_text (Some value) = codes " present " ++ word_of value

abbrev pub values_text : List (Option (List ℕ)) → List ℕ
values_text [] = []
values_text (o ∷ os) = value_text o ++ values_text os

abbrev pub command_text : Command → List ℕ
command_text Noop = codes "noop"
command_text (Get key) = codes "get " ++ word_of key
command_text (Put key value) = codes "put " ++ word_of key ++ codes " " ++ word_of value
command_text (Del key) = codes "del " ++ word_of key
command_text (Swap keys) = codes "swap " ++ word_of keys.first ++ codes " " ++ word_of keys.second
command_text (Cas key expected new) = codes "cas " ++ word_of key ++ codes " " ++ option_text expected ++ codes " " ++ option_text new
command_text (Seal value) = codes "seal " ++ word_of value
command_text (Opaque own body) = request_text own.reads ++ word_of own.first ++ second_key_text own.second ++ codes " " ++ word_of body
command_text (Tx items) = codes "tx" ++ items_text items

abbrev pub reply_text : Reply → List ℕ
reply_text Absent = codes "absent"
reply_text (Present value) = codes "present " ++ word_of value
reply_text Closed = codes "closed"
reply_text Ordered = codes "ordered"
reply_text (Done values) = codes "done" ++ values_text values
reply_text (Undone values) = codes "undone" ++ values_text values

abbrev pub answer_text : Answer → List ℕ
answer_text Lost = codes "lost"
answer_text (Replied reply) = reply_text reply

abbrev pub part_text : Part → List ℕ
part_text (part.Text bytes) = bytes.now
part_text (part.Number n) = decimal n
part_text (part.Word bytes) = word_of bytes.now
part_text (part.Instance i) = instance_text i
part_text (part.Deps d) = deps_text d.now
part_text (part.Command c) = command_text c.now
part_text (part.Reply r) = reply_text r.now
part_text (part.Answer a) = answer_text a.now

-- what stands before, and then the parts
abbrev pub more_parts : List ℕ → List Part → List ℕ
more_parts before [] = before
more_parts before (p ∷ ps) = more_parts (before ++ part_text p) ps

-- one after another, grouped as the texts of lines are
abbrev pub parts_text : List Part → List ℕ
parts_text [] = []
parts_text (p ∷ ps) = more_parts (part_text p) ps
