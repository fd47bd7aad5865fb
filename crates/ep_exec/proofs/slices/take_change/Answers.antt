use Rattle.std.proofs.Common.{◌∙◌, ◌+◌, ◌++◌, drop, sym}
use Rattle.ep_exec.specs.Merging.{said, starts_at}
use Rattle.ep_exec.specs.Table.{Entry}
use Rattle.ep_exec.proofs.Merged.{change_taken, first_popped, none_past, past_one}
use Rattle.ep_exec.proofs.slices.take_change.Goals as goal
use Rattle.ep_exec.proofs.slices.take_change.Goals.{then-is_same, else-is_same}

pub returns : goal.returns
returns c = λ whole was.
    let base = c.args.base.now in
    let s = c.args.slices.now in
    let us = c.pop_first-was.new.self.entries in
    let t : Entry = (c.in-Some.name.now, c.in-Some.value.now) in
    let left = drop s.place base in
    let is = first_popped s.tree.entries us c.pop_first-was.result t c.in-Some.ensures.first c.pop_first-was.ensures.variant c.pop_first-was.ensures.removal in
    let more = c.in_ok-push_said.ensures.ok ∙ (λ i. s.items.items ++ said (c.as_slice-2.ensures.value i) ((c.in_ok-value.ensures ∙ c.as_ref.ensures.value) i)) in
    let here = (λ i. starts_at ((sym c.as_slice.ensures.value) i) left) ∙ sym c.is_of-is_same.ensures in
    elim c.if-is_same.branch [
      | then-is_same w ↦ rw w.slices-is (change_taken whole s.items.items c.push_said.new.items.items left (drop (s.place + 1) base) s.tree.entries us t c.requires is more
          (past_one base s.place t.0.items (here ∙ w.if-is_same.true)) was)
      | else-is_same w ↦ rw w.slices-is (change_taken whole s.items.items c.push_said.new.items.items left left s.tree.entries us t c.requires is more
          (none_past t.0.items left (here ∙ w.if-is_same.false)) was)
    ]
