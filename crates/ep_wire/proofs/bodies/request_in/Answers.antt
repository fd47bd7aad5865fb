use Rattle.std.proofs.Common.{sym, ◌∙◌}
use Rattle.ep_wire.proofs.Parsed.{malformed_so}
use Rattle.ep_wire.proofs.bodies.request_in.Goals as goal

pub returns : goal.returns
returns c =
    malformed_so c.args.dialect.now c.args.kind c.args.body.items _ _ _ _ _ (sym c.is_kind.ensures ∙ c.if-not-is_kind.false) c.in_ok-request.ensures c.in-Err.is c.deref.ensures.value
    c.deref-in-Err.ensures.value c.malformed_at-malformed.ensures
