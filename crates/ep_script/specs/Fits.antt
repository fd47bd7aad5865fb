-- What a line that was read keeps to.
use Rattle.std.specs.Prelude.{◌≢◌, ℕ, ◌<◌, ◌≤◌, List, All, IfSome}
use Rattle.std.specs.List.{IsDistinct}
use Rattle.ep_base.specs.Instances.{leader_of}
use Rattle.ep_script.specs.Plan.{SectionPlan, same_frame}
use Rattle.ep_script.specs.declared.agenda_line.AgendaLine.{AgendaLine}
use Rattle.ep_script.specs.declared.agenda_line.AgendaLine.TheVariants.{Propose, GiveUp, Recover}
use Rattle.ep_script.specs.declared.opening_line.OpeningLine.{OpeningLine}
use Rattle.ep_script.specs.declared.opening_line.OpeningLine.TheVariants as opening
use Rattle.ep_script.specs.declared.run_line.RunLine.{RunLine}
use Rattle.ep_script.specs.declared.run_line.RunLine.TheVariants.{Agenda, Weather, Section}
use Rattle.ep_script.specs.declared.weather_line.WeatherLine.{WeatherLine}

-- it names replicas of a cluster of n, a client that is one, and no replica that it spares itself
abbrev pub FitsCluster : ℕ → AgendaLine → Type 0
FitsCluster n (Propose replica client command spared) = (replica < n) × (1 ≤ client) × IfSome spared (λ s. (s < n) × (s ≢ replica))
FitsCluster n (GiveUp replica instance) = (replica < n) × (leader_of instance < n)
FitsCluster n (Recover replica instance) = (replica < n) × (leader_of instance < n)

-- it names a frame between two replicas of a cluster of n
pub record FitsWeather (n : ℕ) (w : WeatherLine) : Type 0 where
  pub from_below : w.from < n
  pub to_below : w.to < n
  pub between_two : w.from ≢ w.to
  pub counted : 1 ≤ w.count

abbrev pub FitsRun : ℕ → RunLine → Type 0
FitsRun n (Agenda l) = FitsCluster n l
FitsRun n (Weather w) = FitsWeather n w
FitsRun n Section = Unit {0}

-- each of its lines does, and no two of its weather are for one frame
pub record FitsSection (n : ℕ) (s : SectionPlan) : Type 0 where
  pub agendas : All (λ (e : ℕ × AgendaLine). FitsCluster n e.1) s.lines
  pub weather : All (FitsWeather n) s.weather
  pub distinct : IsDistinct same_frame s.weather

abbrev pub AllFit : ℕ → List SectionPlan → Type 0
AllFit n sections = All (FitsSection n) sections

-- the stamp is below the greatest one, or 0
abbrev pub IsOfOpening : OpeningLine → Type 0
IsOfOpening (opening.Since s) = s ≤ 281474976710654
IsOfOpening (opening.Entry k v) = Unit {0}
