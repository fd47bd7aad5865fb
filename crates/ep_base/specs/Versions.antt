-- What each version of the formats has room for. The rule book has no version: it has the limits of the last one, and a run of an earlier version is a run.
use Rattle.std.specs.Prelude.{ℕ, ◌≡◌, ◌≤◌, Bool, true, not, ◌||◌, Option, Some, None, is_none, List, ◌==◌, if◌then◌else◌}
use Rattle.std.specs.List.{AllByRecursion}
use Rattle.ep_base.specs.Commands.{Command}
use Rattle.ep_base.specs.declared.decree.Decree.{Decree}
use Rattle.ep_base.specs.declared.message.Message.{Message}
use Rattle.ep_base.specs.declared.message.Message.TheVariants.{PreAccept, PreAcceptOk, Accept, AcceptOk, Commit, Prepare, PrepareOk, Nack}
use Rattle.ep_base.specs.declared.version.Version.{Version}
use Rattle.ep_base.specs.declared.version_kind.VersionKind.TheVariants.{V1, V2, V3}
use Rattle.ep_base.specs.declared.vote.Vote.{Vote}
use Rattle.ep_base.specs.Deps.{most_deps}
use Rattle.ep_base.specs.Instances.{number_of, highest_number}
use Rattle.ep_base.specs.Interference.{is_swap, is_seal, is_late, is_long}

abbrev pub version_number : Version → ℕ
version_number V1 = 1
version_number V2 = 2
version_number (V3 g) = 3

-- the generation's number, which versions 1 and 2 don't have
abbrev pub generation_of : Version → ℕ
generation_of V1 = 0
generation_of V2 = 0
generation_of (V3 g) = g

-- the version of the number 1, 2 or 3, and of this generation
abbrev pub version_of : ℕ → ℕ → Version
version_of n g = if n == 1 then V1 else (if n == 3 then V3 g else V2)

-- the numbers of a replica's own instances are 1 to this one
abbrev pub highest_in : Version → ℕ
highest_in V1 = 1000
highest_in V2 = 2000
highest_in (V3 g) = highest_number

-- the highest number of an instance in which the command is proposed: a generation's last ten are for seals, so that it can always be ended
abbrev pub highest_for : Version → Command → ℕ
highest_for V1 c = highest_in V1
highest_for V2 c = highest_in V2
highest_for (V3 g) c = if is_seal c then highest_in (V3 g) else 8990

-- as many as there are instances
abbrev pub most_deps_in : Version → ℕ
most_deps_in V1 = 7000
most_deps_in V2 = 14000
most_deps_in (V3 g) = most_deps

-- how many bytes a frame has at most, in bundles, logs and requests
abbrev pub most_frame : Version → ℕ
most_frame V1 = 65535
most_frame V2 = 65535
most_frame (V3 g) = 400000

-- version 1 has no swap, and neither it nor version 2 has what version 3 is for
abbrev pub knows : Version → Command → Bool
knows V1 c = not (is_swap c || (is_late c || is_long c))
knows V2 c = not (is_late c || is_long c)
knows (V3 g) c = true

-- a proposal names the replica that it spares in version 3 alone
abbrev pub names : Version → Option ℕ → Bool
names V1 spared = is_none spared
names V2 spared = is_none spared
names (V3 g) spared = true

-- what a version has: instances of its numbers, dependencies among them, and decrees of commands that it knows

abbrev pub IsInstanceIn : Version → ℕ → Type 0
IsInstanceIn v i = number_of i ≤ highest_in v

abbrev pub AreDepsIn : Version → List ℕ → Type 0
AreDepsIn v is = AllByRecursion (λ i. IsInstanceIn v i) is

abbrev pub IsDecreeIn : Version → Decree → Type 0
IsDecreeIn v x = (knows v x.command ≡ true) × AreDepsIn v x.attrs.deps

abbrev pub IsVoteIn : Version → Option Vote → Type 0
IsVoteIn v None = Unit {0}
IsVoteIn v (Some vote) = IsDecreeIn v vote.decree

-- the version can say the message
abbrev pub CanSay : Version → Message → Type 0
CanSay v (PreAccept i b x) = IsInstanceIn v i × IsDecreeIn v x
CanSay v (PreAcceptOk i b a) = IsInstanceIn v i × AreDepsIn v a.deps
CanSay v (Accept i b x) = IsInstanceIn v i × IsDecreeIn v x
CanSay v (AcceptOk i b) = IsInstanceIn v i
CanSay v (Commit i x) = IsInstanceIn v i × IsDecreeIn v x
CanSay v (Prepare i b) = IsInstanceIn v i
CanSay v (PrepareOk i b vote) = IsInstanceIn v i × IsVoteIn v vote
CanSay v (Nack i b p) = IsInstanceIn v i
