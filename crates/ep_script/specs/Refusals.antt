-- Which word of a refused line is at fault, and where a line may stand.
use Rattle.std.specs.Prelude.{◌≡◌, ℕ, zero, suc, ◌==◌, ◌&&◌, ◌||◌, not, nat_le, Bool, true, false, List, [], ◌∷◌, Option, Some, None, is_some, if◌then◌else◌}
use Rattle.ep_base.specs.Versions.{version_number}
use Rattle.ep_base.specs.declared.version.Version.{Version}
use Rattle.ep_script.specs.Grammar.{faults_of}
use Rattle.ep_script.specs.Operands.{range_of}
use Rattle.ep_script.specs.declared.operand.Operand.{Operand}
use Rattle.ep_script.specs.declared.operand.Operand.TheVariants as may
use Rattle.ep_script.specs.declared.standing.Standing.{Standing}
use Rattle.ep_script.specs.declared.standing.Standing.TheVariants as stands
use Rattle.ep_script.specs.declared.why.Why.{Why}
use Rattle.ep_script.specs.declared.why.Why.TheVariants as why

-- the word that stands so many words behind this one; no bytes where there is none
abbrev pub word_behind : List ℕ → ℕ → List (List ℕ) → List ℕ
word_behind w zero ws = w
word_behind w (suc n) [] = []
word_behind w (suc n) (v ∷ vs) = word_behind v n vs

-- what is wrong at this place of a word, from which on this is left
abbrev pub fault_at : ℕ → List ℕ → Why
fault_at n [] = why.Byte n
fault_at n (b ∷ bs) = if b == 37 then why.Escape n else why.Byte n

-- the number may stand there
abbrev pub is_in_range : Operand → Option ℕ → Version → ℕ → Bool
is_in_range may.Size s v n = is_some (faults_of n)
is_in_range o s v n = nat_le (range_of o s v).0 n && nat_le n (range_of o s v).1

-- a line, or a command, that stands there may stand behind the head of a script of this kind, whose size is said
abbrev pub may_stand : Standing → Standing → Version → Bool
may_stand stands.First kind v = false
may_stand stands.Second kind v = false
may_stand stands.Opening kind v = false
may_stand stands.All kind v = true
may_stand stands.Late kind v = version_number v == 3
may_stand stands.Replay stands.Replay v = true
may_stand stands.Replay kind v = false
may_stand stands.Run stands.Run v = true
may_stand stands.Run kind v = false

-- what is wrong with a line that stands there, where the size is said and perhaps a line behind the head
abbrev pub misplaced_behind : Standing → Version → Standing → Bool → Why
misplaced_behind stands.First v kind within = why.Misplaced
misplaced_behind stands.Second v kind within = if version_number v == 3 || within then why.Misplaced else why.Nothing
misplaced_behind stands.Opening v kind within =
    if not (version_number v == 3) then why.Late else if within then why.Misplaced else why.Nothing
misplaced_behind stands.All v kind within = why.Nothing
misplaced_behind stands.Late v kind within = if version_number v == 3 then why.Nothing else why.Late
misplaced_behind stands.Replay v kind within = if may_stand stands.Replay kind v then why.Nothing else why.Other
misplaced_behind stands.Run v kind within = if may_stand stands.Run kind v then why.Nothing else why.Other

-- before the size is said only the line that says it may stand
abbrev pub misplaced_at : Standing → Option ℕ → Version → Standing → Bool → Why
misplaced_at stands.First None v kind within = why.Nothing
misplaced_at standing None v kind within = why.Unlike
misplaced_at standing (Some f) v kind within = misplaced_behind standing v kind within
