-- What the replicas of a generation open with, and what a replica begins with.
use Rattle.std.specs.Prelude.{◌≡◌, ℕ, refl}
use Rattle.std.specs.Coded.{Coded, code_by, coded×, coded_ℕ}
use Rattle.ep_base.specs.contracts.version.Version as version_facts
use Rattle.ep_base.specs.declared.version.Version.{Version}
use Rattle.ep_base.specs.declared.version_kind.VersionKind.TheVariants.{V1, V2, V3}
use Rattle.ep_exec.specs.Table.{contents_code}
use Rattle.ep_rules.specs.OneMap.{Contents, Store, opened, empty}

-- a map, and the stamp that the clocks go on from
pub record Opening : Type 0 where
  pub contents : Contents
  pub base_stamp : ℕ

abbrev pub opening_code : Coded Opening
opening_code = code_by (Contents × ℕ) (coded× contents_code coded_ℕ) (λ o. (o.contents, o.base_stamp)) (λ p. record { contents = p.0; base_stamp = p.1 }) (λ _. refl)

-- where a life begins
abbrev pub no_opening : Opening
no_opening = record { contents = empty; base_stamp = 0 }

-- the open map
abbrev pub opens : Opening → Store
opens o = opened o.contents

-- versions 1 and 2 begin with nothing
abbrev pub OpensIn : Version → Opening → Type 0
OpensIn V1 o = o ≡ no_opening
OpensIn V2 o = o ≡ no_opening
OpensIn (V3 g) o = Unit {0}

-- a version, and an opening
pub record Beginning : Type 0 where
  pub version : Version
  pub opening : Opening

abbrev pub beginning_code : Coded Beginning
beginning_code =
    code_by (Version × Opening) (coded× version_facts.the_row.coded opening_code) (λ b. (b.version, b.opening))
    (λ p. record { version = p.0; opening = p.1 }) (λ _. refl)
