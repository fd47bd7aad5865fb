use Rattle.std.proofs.Common.{rules, ◌∙◌, Some, sym, ap}
use Rattle.std.proofs.lemmas.Option.{slice_get-get_or}
use Rattle.ep_audit.specs.declared.chain_link.ChainLink.{ChainLink}
use Rattle.ep_main.proofs.chaining.refused_chain.Goals as goal

pub returns : goal.returns
returns c = record {
  place = c.args.place;
  fault = c.args.fault.now;
  refused = c.requires.fault;
  link = c.index-links-place.result;
  there = slice_get-get_or c.args.links.now c.args.place c.index-links-place.result c.requires.there ∙ ap (λ (l : ChainLink). Some l) (sym c.index-links-place.is);
  reported = search rules;
}
