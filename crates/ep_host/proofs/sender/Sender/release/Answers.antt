use Rattle.std.proofs.Common.{rules, ◌≡◌, length, subst, sym, List}
use Rattle.ep_host.specs.Outboxes.{AreAddressed, LetsGo}
use Rattle.ep_host.specs.Setting.{LosesAll}
use Rattle.ep_host.specs.declared.outlet.Outlet.{Outlet}
use Rattle.ep_host.proofs.Mailing.{let_go_addressed}
use Rattle.ep_host.proofs.Releasing.{in_place}
use Rattle.ep_host.proofs.sender.Sender.release.Goals as goal

pub invariant_of-self : goal.invariant_of-self
invariant_of-self g c = let i = c.self.inside in let ys = c.release_all-self-inside.new.outlets in
    let len : length ys ≡ i.outlets.len = search rules in
    let is = in_place i.outlets.items ys i.outlets.len len in
    subst (λ (l : List Outlet). AreAddressed l) (sym is)
    (let_go_addressed i.lost c.release_all-self-inside.result i.outlets.items ys (subst (λ (l : List Outlet). LosesAll LetsGo i.lost c.release_all-self-inside.result l ys) c.deref_mut.ensures.value c.release_all-self-inside.ensures))
