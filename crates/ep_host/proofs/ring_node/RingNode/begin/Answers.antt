use Rattle.std.proofs.Common.{arith, ◌∙◌, List, subst}
use Rattle.ep_host.specs.Acts.{Made}
use Rattle.ep_host.specs.declared.weather.Weather.{Weather}
use Rattle.ep_host.proofs.Booking.{made_books}
use Rattle.ep_host.proofs.Following.{counts, next_is}
use Rattle.ep_host.proofs.Turning.{node, task_taken, begins_made, begins_refused}
use Rattle.ep_host.proofs.ring_node.RingNode.begin.Goals as goal

pub invariant_of-self-in-Ok : goal.invariant_of-self-in-Ok
invariant_of-self-in-Ok c = let i = c.self.inside in (
  made_books c.as_slice-weather.result.now c.into_event.result c.in-Ok.lost i.replica c.act.new.replica i.links.items c.act.new.links.items c.in-Ok.ensures.ok (task_taken c.in-Some.task c.into_event.result i.links.items c.into_event.ensures) c.self.invariant.0,
  omega (arith, c.in-Some.ensures.cases, c.self.invariant.1),
)

pub returns-in-Ok : goal.returns-in-Ok
returns-in-Ok c = let i = c.self.inside in rw (← c.self.view_is)
    (begins_made c.in-Some.task c.into_event.result (node i.replica i.links.items i.weather.items i.agenda.items i.refused.items i.used i.lost i.ended) c.pop_front.new.self.items c.act.new.replica c.act.new.links.items c.saturating_add-self-inside.result c.in-Ok.lost c.saturating_add-self-inside-in-Ok.result
    c.into_event.ensures c.in-Some.ensures.items
    (subst (λ (w : List Weather). Made w c.into_event.result c.in-Ok.lost i.replica c.act.new.replica i.links.items c.act.new.links.items) c.as_slice-weather.ensures.value c.in-Ok.ensures.ok) (c.saturating_add-self-inside.ensures ∙ next_is i.used (omega arith)) (c.saturating_add-self-inside-in-Ok.ensures ∙ counts i.lost c.in-Ok.lost (omega arith)))

pub returns-in-Err : goal.returns-in-Err
returns-in-Err c = let i = c.self.inside in rw (← c.self.view_is)
    (begins_refused c.in-Some.task c.into_event.result (node i.replica i.links.items i.weather.items i.agenda.items i.refused.items i.used i.lost i.ended) c.pop_front.new.self.items c.act.new.replica c.act.new.links.items c.saturating_add-self-inside.result c.in-Err.fault c.push_reserved.new.self.items
    c.into_event.ensures c.in-Some.ensures.items c.in-Err.ensures.refused c.in-Err.ensures.err.0 c.in-Err.ensures.err.1 (c.saturating_add-self-inside.ensures ∙ next_is i.used (omega arith)) c.push_reserved.ensures.items)
