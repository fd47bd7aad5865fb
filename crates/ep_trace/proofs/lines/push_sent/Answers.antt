use Rattle.ep_view.proofs.Sending.{from_first}
use Rattle.ep_trace.proofs.Reporting.{sent}
use Rattle.ep_trace.proofs.lines.push_sent.Goals as goal

pub returns : goal.returns
returns c =
    sent c.push_from.result c.args.number c.args.frames.now _ _ c.args.text.now.items c.extend_from_slice.new.self.items _ c.in_ok-extend_from_slice.ensures.items c.push_from.ensures
    (from_first c.args.frames.now c.first-item.result c.in-len1-up.len_at_least c.first-item.is)
