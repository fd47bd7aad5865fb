use Rattle.std.proofs.Common.{ap, subst, ◌∙◌, refl, ◌++◌, option_to_list}
use Rattle.std.proofs.lemmas.List.{get_or_default}
use Rattle.rtrb.specs.Ring.{sent, received}
use Rattle.ep_host.specs.Rings.{KeepsLink}
use Rattle.ep_host.specs.declared.link.Link.{Link}
use Rattle.ep_host.proofs.acting.pop.Goals as goal

pub returns : goal.returns
returns c =
    let xs = c.args.links.now.items in let was = c.index_mut.result.now in let l = c.pop.new.self in
    let read = λ (d : Link). c.index_mut.ensures.value ∙ get_or_default xs c.args.place was d c.requires in record {
      link = l;
      versioned = c.pop.ensures.version;
      is = refl;
      keeps = λ d. subst (λ (a : Link). KeepsLink a l) (read d) c.pop.ensures.keeps;
      put = λ d. c.pop.ensures.put ∙ ap (λ (a : Link). sent a.to) (read d);
      held = λ d. c.pop.ensures.same.1 ∙ ap (λ (a : Link). a.held) (read d);
      count = λ d. c.pop.ensures.same.0 ∙ ap (λ (a : Link). a.count) (read d);
      taken = λ d. c.pop.ensures.taken ∙ ap (λ (a : Link). received a.from ++ option_to_list c.pop.result) (read d);
    }
