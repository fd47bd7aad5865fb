-- What a replica knows of one instance.
use Rattle.std.specs.Prelude.{ℕ, refl, Option}
use Rattle.std.specs.Coded.{Coded, code_by, coded×, coded_ℕ, coded_option}
use Rattle.std.specs.FinMap as map
use Rattle.ep_rules.specs.Cells.{record_or_fresh}
use Rattle.ep_rules.specs.Maps.{Map, get}
use Rattle.ep_rules.specs.States.{or_zero}
use Rattle.ep_rules.specs.contracts.led_instance.LedInstance as led_facts
use Rattle.ep_rules.specs.contracts.record.Record as record_facts
use Rattle.ep_rules.specs.declared.led_instance.LedInstance.{LedInstance}
use Rattle.ep_rules.specs.declared.record.Record.{Record}
use Rattle.ep_space.specs.Records.{Records}
use Rattle.ep_phase.specs.Leads.{Lead}

pub record InstanceView : Type 0 where
  -- how many replicas may fail
  pub faults : ℕ
  pub me : ℕ
  pub instance : ℕ
  -- all that it recorded, which is what the interference set is taken from
  pub records : Map Record
  pub led : Option LedInstance
  -- the greatest counter that a Nack named, 0 where none did
  pub reported : ℕ

abbrev pub known_code : Coded InstanceView
known_code =
    code_by (ℕ × (ℕ × (ℕ × (Map Record × (Option LedInstance × ℕ)))))
    (coded× coded_ℕ (coded× coded_ℕ (coded× coded_ℕ (coded× (map.code coded_ℕ record_facts.the_row.coded) (coded× (coded_option led_facts.the_row.coded) coded_ℕ)))))
    (λ k. (k.faults, (k.me, (k.instance, (k.records, (k.led, k.reported))))))
    (λ p. record { faults = p.0; me = p.1.0; instance = p.1.1.0; records = p.1.1.1.0; led = p.1.1.1.1.0; reported = p.1.1.1.1.1 }) (λ _. refl)

-- the instance's record
abbrev pub record_of : InstanceView → Record
record_of k = record_or_fresh k.instance (get k.records k.instance)

-- what replica me knows of i, by its records and what it leads
abbrev pub view_of : ℕ → Records → Lead → ℕ → InstanceView
view_of me s l i = record { faults = s.faults; me = me; instance = i; records = s.records; led = get l.leads i; reported = or_zero (get l.reported i) }
