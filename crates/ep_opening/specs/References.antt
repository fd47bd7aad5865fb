-- What a generation opens with, by name: what the first bytes of the log of the generation before leave.
use Rattle.std.specs.Prelude.{ℕ, ◌≡◌, ◌≤◌, List, [], ◌∷◌, ◌++◌, length, refl}
use Rattle.std.specs.Coded.{Coded, code_by, coded×, coded_ℕ, coded_list}
use Rattle.ep_base.specs.Quorums.{size}
use Rattle.ep_frame.specs.Fields.{number_bytes}
use Rattle.ep_frame.specs.Spelling.{AreBytes}
use Rattle.sha2.specs.Sha256.{sha256}

pub record Reference : Type 0 where
  -- how many replicas of the generation's cluster may fail
  pub faults : ℕ
  pub generation : ℕ
  -- how many bytes the log of the generation before had when that was closed, and their SHA-256
  pub length : ℕ
  pub sum : List ℕ

abbrev pub reference_code : Coded Reference
reference_code =
    code_by (ℕ × (ℕ × (ℕ × List ℕ))) (coded× coded_ℕ (coded× coded_ℕ (coded× coded_ℕ (coded_list coded_ℕ))))
    (λ r. (r.faults, (r.generation, (r.length, r.sum)))) (λ p. record { faults = p.0; generation = p.1.0; length = p.1.1.0; sum = p.1.1.1 }) (λ _. refl)

-- a log has no fewer bytes than its header
abbrev pub least_log : ℕ
least_log = 43

-- what holds of every reference: no log stands before generation 1
pub record IsReference (r : Reference) : Type 0 where
  pub least : 1 ≤ r.faults
  pub most : r.faults ≤ 3
  pub later : 2 ≤ r.generation
  pub generation : r.generation ≤ 4294967295
  pub long : least_log ≤ r.length
  pub fits : r.length ≤ 18446744073709551615
  pub sum : length r.sum ≡ 32

-- Its bytes: numbers with the highest byte first, and then their digest.

-- `EPOR`
abbrev pub magic : ℕ
magic = 0x45504f52

abbrev pub lead_bytes : List ℕ
lead_bytes = number_bytes 4 magic ++ number_bytes 1 3

abbrev pub name_bytes : Reference → List ℕ
name_bytes r = number_bytes 1 (size r.faults) ++ number_bytes 4 r.generation ++ number_bytes 8 r.length ++ r.sum

abbrev pub body_bytes : Reference → List ℕ
body_bytes r = lead_bytes ++ name_bytes r

-- what the log of the generation names
abbrev pub reference_digest : Reference → List ℕ
reference_digest r = sha256 (body_bytes r)

abbrev pub reference_bytes : Reference → List ℕ
reference_bytes r = body_bytes r ++ reference_digest r

-- `EPOB`, the version, and both digests: the opening file of the second is the one that the reference of the first stood for
abbrev pub binding_bytes : List ℕ → List ℕ → List ℕ
binding_bytes reference file = 0x45 ∷ 0x50 ∷ 0x4f ∷ 0x42 ∷ 3 ∷ [] ++ reference ++ file
