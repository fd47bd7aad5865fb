-- What becomes of files by their names.
use Rattle.std.specs.Prelude.{◌≡◌, ℕ, List, ◌++◌, Contains, codes}
use Rattle.ep_cli.specs.Causes.{cause_text}
use Rattle.ep_cli.specs.declared.files_fault.FilesFault.{FilesFault}
use Rattle.ep_cli.specs.declared.files_fault.FilesFault.TheVariants as files
use Rattle.ep_device.specs.declared.system_fault.SystemFault.{SystemFault}

-- out of memory, or a line that says why what files hold is refused
abbrev pub IsReason : (List ℕ → Type 0) → FilesFault → Type 0
IsReason Refuses files.Memory = Unit {0}
IsReason Refuses (files.ReadFailed line) = ⊥
IsReason Refuses (files.Refused line) = Refuses line.items

-- the line of a file that isn't read, for this cause
abbrev pub unread_line : List ℕ → SystemFault → List ℕ
unread_line name cause = codes "reading " ++ name ++ codes " failed: " ++ cause_text cause ++ codes "\n"

-- it is that of the file of this name
abbrev pub IsUnreadOf : List ℕ → List ℕ → Type 0
IsUnreadOf name line = (cause : SystemFault) × (line ≡ unread_line name cause)

-- a file of one of these names isn't read, and the line says which
abbrev pub IsUnreadLine : List (List ℕ) → List ℕ → Type 0
IsUnreadLine names line = (name : List ℕ) × Contains names name × IsUnreadOf name line

-- out of memory, or a file of one of these names that isn't read
abbrev pub IsUnread : List (List ℕ) → FilesFault → Type 0
IsUnread names files.Memory = Unit {0}
IsUnread names (files.ReadFailed line) = IsUnreadLine names line.items
IsUnread names (files.Refused line) = ⊥

-- out of memory, or the file of this name isn't read
abbrev pub IsOfFile : List ℕ → FilesFault → Type 0
IsOfFile name files.Memory = Unit {0}
IsOfFile name (files.ReadFailed line) = IsUnreadOf name line.items
IsOfFile name (files.Refused line) = ⊥
