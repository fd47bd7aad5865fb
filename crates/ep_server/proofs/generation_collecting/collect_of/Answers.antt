use Rattle.std.proofs.Common.{inr, ℕ, List, length, string_bytes, All, ap, sym, subst, ◌∙◌}
use Rattle.std.proofs.KnownBytes.{Appends-nil}
use Rattle.std.specs.Global.{Vec}
use Rattle.ep_assemble.specs.declared.opened_log.OpenedLog.{OpenedLog}
use Rattle.ep_server.proofs.FilesGiven.{are_collected_of}
use Rattle.ep_server.specs.NamedFiles.{IsNamedLog}
use Rattle.ep_server.proofs.generation_collecting.collect_of.Goals as goal

pub returns-in-Ok : goal.returns-in-Ok
returns-in-Ok g c =
    are_collected_of string_bytes c.args.generation c.args.folders.now c.args.names.now.openings.items c.args.names.now.logs.items c.args.names.now.receipts.items c.deref.result.now c.deref-in-Ok.result.now
    c.collect_generation-collected.result c.put_printout.result _ _ (ap (λ (ks : List OpenedLog). length ks) c.deref.ensures.value ∙ c.in-Ok.ensures.kept)
    (subst (λ (ks : List OpenedLog). All IsNamedLog ks) (sym c.deref.ensures.value) c.in-Ok.ensures.named) (ap (λ (vs : List (Vec ℕ)). length vs) c.deref-in-Ok.ensures.value ∙ c.in-Ok.ensures.receipts) c.collect_generation-collected.ensures.ok c.collect_generation-collected.ensures.err c.put_printout.ensures

pub returns-in-Err : goal.returns-in-Err
returns-in-Err g c = inr (record { why = c.in-Err.fault; of = c.in-Err.ensures.err; silent = Appends-nil _; reported = c.turned_away.ensures })
