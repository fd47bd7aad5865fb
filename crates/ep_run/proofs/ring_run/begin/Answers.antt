use Rattle.std.proofs.Common.{◌≡◌, ℕ, List, length, subst, sym, All}
use Rattle.ep_replay.specs.Tables.{AreCounted}
use Rattle.ep_script.specs.Fits.{FitsCluster, FitsSection}
use Rattle.ep_script.specs.Plan.{SectionPlan}
use Rattle.ep_script.specs.declared.agenda_line.AgendaLine.{AgendaLine}
use Rattle.ep_run.specs.Asking.{asked_by, proposers_of}
use Rattle.ep_run.specs.Rings.{AreAssigned}
use Rattle.ep_run.proofs.ring_run.begin.Goals as goal

pub assign_all-requires-clause-fit : goal.assign_all-requires-clause-fit
assign_all-requires-clause-fit c = subst (λ (l : List (ℕ × AgendaLine)). All (λ (e : ℕ × AgendaLine). FitsCluster (length c.args.nodes.now) e.1) l) (sym c.lines.ensures) c.requires.fits.agendas

pub set_weather-requires-clause-fits : goal.set_weather-requires-clause-fits
set_weather-requires-clause-fits c =
    let k = c.requires.counted in
    let len : length c.assign_all.new.nodes ≡ length c.args.nodes.now = (c.in_ok-assign_all.ensures.assigned k.0 k.1 k.2).len in
    subst (λ (n : ℕ). FitsSection n c.args.section.now) (sym len) c.requires.fits

pub set_weather-requires-clause-host : goal.set_weather-requires-clause-host
set_weather-requires-clause-host c = let h = c.requires.host in (h.0, c.assign_all.ensures.host h.0 h.1)

pub returns-in_err-set_weather-clause-host : goal.returns-in_err-set_weather-clause-host
returns-in_err-set_weather-clause-host c = λ f host. c.set_weather.ensures.host f (c.assign_all.ensures.host f host)

pub returns-clause-host : goal.returns-clause-host
returns-clause-host c = λ f host. c.set_weather.ensures.host f (c.assign_all.ensures.host f host)

pub returns-clause-begins : goal.returns-clause-begins
returns-clause-begins c = λ ps ts are.
    let plan : SectionPlan = c.args.section.now in record {
      assigned = c.assign_all.new.nodes;
      assigns = subst (λ (l : List (ℕ × AgendaLine)). AreAssigned (asked_by ps ts l) c.args.nodes.now c.assign_all.new.nodes) c.lines.ensures (c.in_ok-assign_all.ensures.assigned ps ts are);
      sets = c.in_ok-set_weather.ensures.set;
    }

pub returns-clause-counted : goal.returns-clause-counted
returns-clause-counted c = λ ps ts are. subst (λ (l : List (ℕ × AgendaLine)). AreCounted c.assign_all.new.clients (proposers_of ps l) ts) c.lines.ensures (c.in_ok-assign_all.ensures.counted ps ts are)
