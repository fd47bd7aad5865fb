-- What a replica leads, and the counters that Nacks named.
use Rattle.std.specs.Prelude.{ℕ, refl, Option}
use Rattle.std.specs.Coded.{Coded, code_by, coded×, coded_ℕ}
use Rattle.std.specs.FinMap as map
use Rattle.std.specs.FinSet as set
use Rattle.ep_rules.specs.Maps.{Map}
use Rattle.ep_rules.specs.States.{with_held}
use Rattle.ep_rules.specs.contracts.led_instance.LedInstance as led_facts
use Rattle.ep_rules.specs.declared.led_instance.LedInstance.{LedInstance}
use Rattle.ep_space.specs.Held.{Places}

pub record Lead : Type 0 where
  pub leads : Map LedInstance
  -- the greatest counter that a Nack named, where one did
  pub reported : Map ℕ
  -- the instances that have a place for what is led
  pub places : Places
  -- those that have one for a counter
  pub reported_places : Places

abbrev pub leads_code : Coded Lead
leads_code =
    code_by (Map LedInstance × (Map ℕ × (Places × Places)))
    (coded× (map.code coded_ℕ led_facts.the_row.coded) (coded× (map.code coded_ℕ coded_ℕ) (coded× (set.code coded_ℕ) (set.code coded_ℕ))))
    (λ l. (l.leads, (l.reported, (l.places, l.reported_places)))) (λ p. record { leads = p.0; reported = p.1.0; places = p.1.1.0; reported_places = p.1.1.1 }) (λ _. refl)

-- the same, with this led in i, or with nothing
abbrev pub with_lead : Lead → ℕ → Option LedInstance → Lead
with_lead l i o = record l { leads = with_held l.leads i o }

-- the same, with this counter of i, or with none
abbrev pub with_reported : Lead → ℕ → Option ℕ → Lead
with_reported l i o = record l { reported = with_held l.reported i o }
