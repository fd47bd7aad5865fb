-- The bytes of an origin.
use Rattle.std.specs.Prelude.{ℕ, ◌≤◌, ◌<◌, ◌^◌, List, ◌++◌, take, drop}
use Rattle.ep_frame.specs.declared.origin.Origin.{Origin}
use Rattle.ep_base.specs.declared.message.Message.{Message}
use Rattle.ep_base.specs.declared.version.Version.{Version}
use Rattle.ep_frame.specs.Fields.{number_bytes}
use Rattle.ep_frame.specs.Spelling.{Spells}

abbrev pub origin_bytes : Origin → List ℕ
origin_bytes o = number_bytes 1 o.to ++ number_bytes 2 o.out ++ number_bytes 4 o.entry ++ number_bytes 8 o.stamp

-- the bytes with this origin in place of the one that is there
abbrev pub readdressed : List ℕ → Origin → List ℕ
readdressed b o = take 5 b ++ origin_bytes o ++ drop 20 b

-- an origin in range, whoever the sender is
pub record OriginFits (o : Origin) : Type 0 where
  pub receiver : o.to ≤ 6
  pub out : o.out < 2 ^ 16
  pub entry_low : 1 ≤ o.entry
  pub entry_high : o.entry < 2 ^ 32
  pub stamp_low : 1 ≤ o.stamp
  pub stamp_high : o.stamp < 2 ^ 48

-- whatever body follows: where the old front and the body spell a message, the new front and the body spell it, in the same version, from the same sender and with this origin
abbrev pub KeepsMessage : List ℕ → List ℕ → Origin → Type 0
KeepsMessage old new n = (v : Version) (body : List ℕ) (from : ℕ) (o : Origin) (m : Message) → Spells v (old ++ body) from o m → Spells v (new ++ body) from n m
