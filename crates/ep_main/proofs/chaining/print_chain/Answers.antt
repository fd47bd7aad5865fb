use Rattle.std.proofs.Common.{◌∙◌, inl, inr, refl, sym, string_bytes}
use Rattle.std.proofs.lemmas.List.{length-map}
use Rattle.std.proofs.KnownBytes.{Appends-nil}
use Rattle.ep_main.proofs.Linked.{ends_stopped}
use Rattle.ep_main.proofs.chaining.print_chain.Goals as goal

pub returns-in-Ok-clause-chains : goal.returns-in-Ok-clause-chains
returns-in-Ok-clause-chains g c =
    inl (record { links = c.in-Ok.links.items; count = c.in-Ok.ensures.count ∙ sym (length-map c.args.names.now string_bytes); read = c.in-Ok.ensures.read; chains = c.write_chain.ensures.chains })

pub returns-in-Err-clause-chains : goal.returns-in-Err-clause-chains
returns-in-Err-clause-chains g c = inr (record { why = c.in-Err.fault; of = c.in-Err.ensures.err; silent = Appends-nil _; reported = c.turned_away.ensures })

pub returns-in-Err-clause-ends : goal.returns-in-Err-clause-ends
returns-in-Err-clause-ends g c = ends_stopped _ _ _ _ _ c.in-Err.ensures.err c.turned_away.ensures refl
