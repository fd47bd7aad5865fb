use Rattle.std.proofs.Common.{rules, ◌≡◌, ◌∙◌, length, subst, sym, List, take, drop, ◌++◌}
use Rattle.ep_host.specs.Outboxes.{AreAddressed, CountsFromNone}
use Rattle.ep_host.specs.Pointwise.{Each}
use Rattle.ep_host.specs.declared.outlet.Outlet.{Outlet}
use Rattle.ep_host.proofs.Mailing.{counted_addressed}
use Rattle.ep_host.proofs.Releasing.{in_place}
use Rattle.ep_host.proofs.sender.Sender.set_weather.Goals as goal

pub invariant_of-self-2 : goal.invariant_of-self-2
invariant_of-self-2 c = let i = c.self.inside in let ys = c.count_anew.new.outlets in
    let len : length ys ≡ i.outlets.len = search rules in
    let is = in_place (take i.outlets.len (c.make_room.new.outlets ++ drop (length c.make_room.new.outlets) i.outlets.items)) ys i.outlets.len len in
    let made = c.make_room.new.outlets in
    let len' : length made ≡ i.outlets.len = search rules in
    let before = c.deref_mut-2.ensures.value ∙ in_place i.outlets.items made i.outlets.len len' ∙ c.make_room.ensures ∙ c.deref_mut.ensures.value in
    let counts : Each CountsFromNone i.outlets.items ys = subst (λ (l : List Outlet). Each CountsFromNone l ys) before c.count_anew.ensures in
    subst (λ (l : List Outlet). AreAddressed l) (sym is) (counted_addressed i.outlets.items ys counts c.self.invariant)
