use Rattle.std.proofs.Common.{sym, ◌∙◌}
use Rattle.ep_script.proofs.FrameSets.{frame_taken}
use Rattle.ep_script.proofs.section_weather.SectionWeather.push.Goals as goal

pub invariant_of-self-else-is_err : goal.invariant_of-self-else-is_err
invariant_of-self-else-is_err c =
    frame_taken c.self.inside.frames c.insert.new.self c.self.inside.lines.items c.push.new.self.items c.args.line c.frame-frame.result c.insert.result (sym c.is_err.ensures.value ∙ c.if-is_err.false) c.insert.ensures.updates
    c.frame-frame.ensures c.in_ok-push.ensures.items c.self.invariant
