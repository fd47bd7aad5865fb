-- The items of a report's arrays, and the objects in it.
use Rattle.std.specs.Prelude.{ℕ, ◌+◌, List, [], ◌∷◌, Option, Some, None, codes, decimal, length}
use Rattle.std.specs.FinMap.{entries}
use Rattle.ep_audit.specs.declared.closing.Closing.{Closing}
use Rattle.ep_audit.specs.declared.happening.Happening.{Happening}
use Rattle.ep_base.specs.declared.decree.Decree.{Decree}
use Rattle.ep_json.specs.Strings.{string_text}
use Rattle.ep_json.specs.Values.{member, null, object}
use Rattle.ep_report.specs.Contents.{digest_text}
use Rattle.ep_report.specs.Parts.{answer_text, command_text, reply_text}
use Rattle.ep_journal.specs.Refusals.{refusal_text}
use Rattle.ep_journal.specs.declared.refusal.Refusal.{Refusal}
use Rattle.ep_report_json.specs.Members.{deps_value, fault_members, instance_value}
use Rattle.ep_rules.specs.OneMap.{Contents}
use Rattle.ep_rules.specs.declared.receipt.Receipt.{Receipt}
use Rattle.ep_script.specs.Word.{word_of}

-- an instance that is committed, with its attributes and its command
abbrev pub committed_item : ℕ × Decree → List ℕ
committed_item e = object (
    member (codes "instance") (instance_value e.0)
    ∷ member (codes "seq") (decimal e.1.attrs.seq)
    ∷ member (codes "deps") (deps_value e.1.attrs.deps)
    ∷ member (codes "command") (string_text (command_text e.1.command))
    ∷ []
    )

-- a command of the history, with its place there and its reply
abbrev pub history_item : ℕ → Happening → List ℕ
history_item place h = object (
    member (codes "place") (decimal place)
    ∷ member (codes "instance") (instance_value h.instance)
    ∷ member (codes "command") (string_text (command_text h.command))
    ∷ member (codes "reply") (string_text (reply_text h.reply))
    ∷ []
    )

-- the history from this place on
abbrev pub history_items : ℕ → List Happening → List (List ℕ)
history_items place [] = []
history_items place (h ∷ hs) = history_item place h ∷ history_items (place + 1) hs

-- what a client was answered
abbrev pub receipt_item : Receipt → List ℕ
receipt_item t = object (
    member (codes "client") (decimal t.client)
    ∷ member (codes "request") (decimal t.request)
    ∷ member (codes "instance") (instance_value t.instance)
    ∷ member (codes "answer") (string_text (answer_text t.answer))
    ∷ []
    )

-- the event at this line of the script was refused
abbrev pub refused_item : ℕ × Refusal → List ℕ
refused_item e = object (member (codes "line") (decimal e.0) ∷ fault_members (refusal_text e.1))

-- the seal that closed the map
abbrev pub closed_value : Closing → List ℕ
closed_value c = object (
    member (codes "instance") (instance_value c.instance)
    ∷ member (codes "value") (string_text (word_of c.value))
    ∷ member (codes "stamp") (decimal c.stamp)
    ∷ []
    )

-- or that none did
abbrev pub closing_value : Option Closing → List ℕ
closing_value None = null
closing_value (Some c) = closed_value c

-- how many keys a map has, and its digest
abbrev pub contents_value : Contents → List ℕ
contents_value m = object (member (codes "keys") (decimal (length (entries m))) ∷ member (codes "digest") (string_text (digest_text m)) ∷ [])
