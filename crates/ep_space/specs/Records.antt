-- The records of a replica, the instances that have a place for one, and the keys that have room.
use Rattle.std.specs.Prelude.{ℕ, refl, List, Option}
use Rattle.std.specs.Coded.{Coded, code_by, coded×, coded_ℕ, coded_list}
use Rattle.std.specs.FinMap as map
use Rattle.std.specs.FinSet as set
use Rattle.ep_base.specs.contracts.version.Version as version_facts
use Rattle.ep_base.specs.Commands.{Command}
use Rattle.ep_base.specs.declared.version.Version.{Version}
use Rattle.ep_rules.specs.Cells.{record_or_fresh}
use Rattle.ep_rules.specs.Maps.{Map, get, insert}
use Rattle.ep_rules.specs.States.{with_held}
use Rattle.ep_rules.specs.contracts.record.Record as record_facts
use Rattle.ep_rules.specs.declared.record.Record.{Record}
use Rattle.ep_space.specs.Held.{Places, HasPlace}
use Rattle.ep_space.specs.Keys.{index_keys, keys_at, HasRoom}

pub record Records : Type 0 where
  -- how many replicas may fail
  pub faults : ℕ
  pub version : Version
  pub records : Map Record
  pub places : Places
  -- the keys that a record of one instance more may have without memory
  pub room : List (List ℕ)

abbrev pub records_code : Coded Records
records_code =
    code_by (ℕ × (Version × (Map Record × (Places × List (List ℕ)))))
    (coded× coded_ℕ (coded× version_facts.the_row.coded (coded× (map.code coded_ℕ record_facts.the_row.coded) (coded× (set.code coded_ℕ) (coded_list (coded_list coded_ℕ))))))
    (λ s. (s.faults, (s.version, (s.records, (s.places, s.room))))) (λ p. record { faults = p.0; version = p.1.0; records = p.1.1.0; places = p.1.1.1.0; room = p.1.1.1.1 }) (λ _. refl)

-- what is recorded of i
abbrev pub record_at : Records → ℕ → Record
record_at s i = record_or_fresh i (get s.records i)

abbrev pub with_record : Records → ℕ → Record → Records
with_record s i r = record s { records = insert s.records i r }

-- the same with this record of i, or with none
abbrev pub with_earlier : Records → ℕ → Option Record → Records
with_earlier s i o = record s { records = with_held s.records i o }

-- i has a place, and what a vote for this command brings there has room
pub record IsReady (s : Records) (i : ℕ) (c : Command) : Type 0 where
  pub place : HasPlace s.places i
  pub room : HasRoom s.room (keys_at s.records i) (index_keys c)
