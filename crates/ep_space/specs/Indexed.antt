-- Records by instance, with an index by key.
use Rattle.std.specs.Prelude.{ℕ, List, refl}
use Rattle.std.specs.Coded.{Coded, code_by, coded×, coded_ℕ, coded_list}
use Rattle.std.specs.FinMap as map
use Rattle.std.specs.FinSet as set
use Rattle.ep_rules.specs.Maps.{Map}
use Rattle.ep_rules.specs.contracts.record.Record as record_facts
use Rattle.ep_rules.specs.declared.record.Record.{Record}
use Rattle.ep_space.specs.Held.{Places}

pub record Indexed : Type 0 where
  pub held : Map Record
  pub places : Places
  -- the keys that a record of one instance more may have without memory
  pub room : List (List ℕ)

abbrev pub indexed_code : Coded Indexed
indexed_code =
    code_by (Map Record × (Places × List (List ℕ)))
    (coded× (map.code coded_ℕ record_facts.the_row.coded) (coded× (set.code coded_ℕ) (coded_list (coded_list coded_ℕ))))
    (λ x. (x.held, (x.places, x.room))) (λ p. record { held = p.0; places = p.1.0; room = p.1.1 }) (λ _. refl)
