-- A frame written again in version 2.
use Rattle.std.specs.Prelude.{ℕ, List}
use Rattle.ep_base.specs.declared.version_kind.VersionKind.TheVariants.{V2}
use Rattle.ep_frame.specs.Meaning.{sender_at, origin_at, message_at}
use Rattle.ep_frame.specs.Spelling.{Spells}

-- c is the version 2 frame of b's sender, origin and message
abbrev pub IsUpgradedFrame : List ℕ → List ℕ → Type 0
IsUpgradedFrame b c = Spells V2 c (sender_at b) (origin_at b) (message_at b)
