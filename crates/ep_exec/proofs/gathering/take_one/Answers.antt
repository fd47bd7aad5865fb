use Rattle.std.proofs.Common.{◌≡◌, ◌∙◌, ◌-◌, sym, refl, Some, Option, List, ℕ, Vec}
use Rattle.std.specs.Global.{Global}
use Rattle.std.specs.Prelude.{slice_get}
use Rattle.ep_rules.specs.OneMap.{with_key}
use Rattle.ep_exec.specs.Table.{Entry, over}
use Rattle.ep_exec.proofs.Gathered.{one_taken}
use Rattle.ep_exec.proofs.gathering.take_one.Goals as goal

pub returns-in-Ok-clause-keeps : goal.returns-in-Ok-clause-keeps
returns-in-Ok-clause-keeps c = λ m w ls was.
    let es : List Entry = c.args.layer.now.entries in
    let left = c.args.gathering.now.left in
    let k : Vec ℕ Global = c.in-Some.key.now in
    let v : Option (List ℕ) = c.in-Some.value.now in
    let at : slice_get es (left - 1) ≡ Some (k, v) = sym c.in-Some.ensures.entry in
    let n = over m c.args.gathering.now.tree.entries in
    one_taken es (left - 1) left (k, v) n (over m c.put_again.new.tree.entries) w ls c.requires refl at
    (c.in-Ok.ensures.ok m ∙ (λ i. with_key n (c.as_slice.ensures.value i) (c.as_ref.ensures.value i))) was
