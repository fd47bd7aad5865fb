use Rattle.ep_base.specs.Generations.{HasItsGeneration}
use Rattle.std.proofs.Common.{◌<◌, ap, sym, subst, ◌∙◌, List, ℕ, ◌++◌}
use Rattle.ep_frame.specs.Layouts.{parts_in, as_message}
use Rattle.ep_frame.specs.Spelling.{FrameParts, parts_bytes}
use Rattle.ep_frame.specs.Fields.{text_len}
use Rattle.ep_frame.proofs.Sound.{text_small}
use Rattle.ep_frame.proofs.writing.written.Goals as goal

pub returns : goal.returns
returns c = record {
  version = subst HasItsGeneration c.kind-kind.ensures.value c.kind-kind.ensures.generation;
  origin = c.of-parts.ensures.origin;
  message = c.of-parts.ensures.message;
  sayable = c.requires.sayable;
  is = c.in_ok-put_parts.ensures ∙ ap (λ (xs : List ℕ). xs ++ parts_bytes (parts_in c.of-parts.result)) c.in_ok-out.ensures.items ∙ ap parts_bytes c.of-parts.ensures.parts;
}

pub put_parts-requires : goal.put_parts-requires
put_parts-requires c =
    let own = subst HasItsGeneration c.kind-kind.ensures.value c.kind-kind.ensures.generation in
    subst (λ (p : FrameParts). text_len p.header < 65536) (sym c.of-parts.ensures.parts)
    (text_small c.args.version c.args.from c.args.origin (as_message c.args.message.now) own c.of-parts.ensures.origin c.of-parts.ensures.message c.requires.sayable)
