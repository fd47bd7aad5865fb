-- A frame written again in version 2 says what it said.
use Rattle.std.proofs.Common.{◌≡◌, ℕ, ◌≤◌, List, [], ◌∷◌, ◌++◌, length, take, drop, refl, sym, ap, subst, ◌∙◌, arith}
use Rattle.std.specs.Prelude.{Some, None, slice_set as set}
use Rattle.ep_base.proofs.Versions.{said_later}
use Rattle.ep_base.specs.declared.message.Message.{Message}
use Rattle.ep_base.specs.declared.message.Message.TheVariants.{PreAccept, PreAcceptOk, Accept, AcceptOk, Commit, Prepare, PrepareOk, Nack}
use Rattle.ep_base.specs.declared.version_kind.VersionKind.TheVariants.{V1, V2}
use Rattle.ep_frame.specs.declared.origin.Origin.{Origin}
use Rattle.ep_frame.specs.Fields.{number_bytes}
use Rattle.ep_frame.specs.Meaning.{version_at, sender_at, origin_at, message_at}
use Rattle.ep_frame.specs.Spelling.{IsFrame, FrameParts, Spells, parts_bytes, parts_of}
use Rattle.ep_frame.specs.Upgrading.{IsUpgradedFrame}
use Rattle.ep_frame.proofs.Meanings.{version_spelled, sender_spelled, origin_spelled, message_spelled}
use Rattle.ep_frame.proofs.Frames.{frame_long}
use Rattle.ep_frame.proofs.Sound.{frame_again}

-- what an upgraded frame says
pub record SaysSame (b c : List ℕ) : Type 0 where
  pub frame : IsFrame c
  pub version : version_at c ≡ V2
  pub sender : sender_at c ≡ sender_at b
  pub origin : origin_at c ≡ origin_at b
  pub message : message_at c ≡ message_at b

pub says_same : (b c : List ℕ) → IsUpgradedFrame b c → SaysSame b c
says_same b c s = record {
  frame = (V2, sender_at b, origin_at b, message_at b, s);
  version = version_spelled V2 c (sender_at b) (origin_at b) (message_at b) s;
  sender = sender_spelled V2 c (sender_at b) (origin_at b) (message_at b) s;
  origin = origin_spelled V2 c (sender_at b) (origin_at b) (message_at b) s;
  message = message_spelled V2 c (sender_at b) (origin_at b) (message_at b) s;
}

-- the bytes with the version 2
abbrev pub in_version_2 : List ℕ → List ℕ
in_version_2 b = take 2 b ++ 2 ∷ drop 3 b

abbrev parts_in : ℕ → FrameParts → FrameParts
parts_in n p = record p { header = record p.header { version = n } }

-- versions 1 and 2 spell a message alike, but for their number
same_parts : (from : ℕ) (o : Origin) (m : Message) → (parts_of V2 from o m ≡ parts_in 2 (parts_of V1 from o m)) × (parts_of V1 from o m ≡ parts_in 1 (parts_of V1 from o m))
same_parts from o (PreAccept i b x) = (refl, refl)
same_parts from o (PreAcceptOk i b a) = (refl, refl)
same_parts from o (Accept i b x) = (refl, refl)
same_parts from o (AcceptOk i b) = (refl, refl)
same_parts from o (Commit i x) = (refl, refl)
same_parts from o (Prepare i b) = (refl, refl)
same_parts from o (PrepareOk i b None) = (refl, refl)
same_parts from o (PrepareOk i b (Some x)) = (refl, refl)
same_parts from o (Nack i p q) = (refl, refl)

changed : (p : FrameParts) → parts_bytes (parts_in 2 p) ≡ in_version_2 (parts_bytes (parts_in 1 p))
unfolding number_bytes
changed p = refl

upgraded_1 : (b : List ℕ) (from : ℕ) (o : Origin) (m : Message) → Spells V1 b from o m → Spells V2 (in_version_2 b) from o m
upgraded_1 b from o m s =
    let same = same_parts from o m in
    record {
      version = tt;
      origin = s.origin;
      message = s.message;
      sayable = said_later V1 V2 m (omega arith) s.sayable;
      is = ap in_version_2 (s.is ∙ ap parts_bytes same.1) ∙ sym (changed (parts_of V1 from o m)) ∙ ap parts_bytes (sym same.0);
    }

pub long : (b : List ℕ) → Spells (version_at b) b (sender_at b) (origin_at b) (message_at b) → 3 ≤ length b
long b s = let all = frame_long b (frame_again (version_at b) b (sender_at b) (origin_at b) (message_at b) s) in omega arith

-- a frame of version 1 with the version 2 in place of its own
pub upgraded : (b c : List ℕ) → Spells (version_at b) b (sender_at b) (origin_at b) (message_at b) → version_at b ≡ V1 → c ≡ in_version_2 b → IsUpgradedFrame b c
upgraded b c s is e =
    subst (λ x. IsUpgradedFrame b x) (sym e) (upgraded_1 b (sender_at b) (origin_at b) (message_at b) (subst (λ v. Spells v b (sender_at b) (origin_at b) (message_at b)) is s))

-- a frame of version 2 is its own
pub upgraded_already : (b c : List ℕ) → Spells (version_at b) b (sender_at b) (origin_at b) (message_at b) → version_at b ≡ V2 → c ≡ b → IsUpgradedFrame b c
upgraded_already b c s is e = subst (λ x. IsUpgradedFrame b x) (sym e) (subst (λ v. Spells v b (sender_at b) (origin_at b) (message_at b)) is s)

-- and the only one
pub stays : (b c : List ℕ) → Spells (version_at b) b (sender_at b) (origin_at b) (message_at b) → version_at b ≡ V2 → IsUpgradedFrame b c → c ≡ b
stays b c s is u = u.is ∙ sym (upgraded_already b b s is refl).is

-- so is one whose version is known to be 2
pub upgraded_self : (b : List ℕ) → IsFrame b → version_at b ≡ V2 → IsUpgradedFrame b b
upgraded_self b h is =
    let version = sym (version_spelled h.0 b h.1 h.2 h.3 h.4) ∙ is in
    let sender = sym (sender_spelled h.0 b h.1 h.2 h.3 h.4) in
    let origin = sym (origin_spelled h.0 b h.1 h.2 h.3 h.4) in
    let message = sym (message_spelled h.0 b h.1 h.2 h.3 h.4) in
    subst (λ v. Spells v b (sender_at b) (origin_at b) (message_at b)) version
    (subst (λ m. Spells h.0 b (sender_at b) (origin_at b) m) message (subst (λ o. Spells h.0 b (sender_at b) o h.3) origin (subst (λ f. Spells h.0 b f h.2 h.3) sender h.4)))

-- the third of them set
pub set_third : (b : List ℕ) (v : ℕ) → 3 ≤ length b → set b 2 v ≡ take 2 b ++ v ∷ drop 3 b
set_third [] v long = absurd (omega (arith, long))
set_third (x ∷ []) v long = absurd (omega (arith, long))
set_third (x ∷ y ∷ []) v long = absurd (omega (arith, long))
set_third (x ∷ y ∷ z ∷ b) v long = refl
