use Rattle.std.proofs.Common.{◌≡◌, ℕ, suc, ◌<◌, ◌≤◌, ◌+◌, List, [], ◌∷◌, ◌++◌, append_assoc, drop, length, sym, ap, subst, ◌∙◌, arith}
use Rattle.std.proofs.lemmas.List.{drop_more}
use Rattle.std.specs.List.{AllByRecursion}
use Rattle.ep_space.specs.Entries.{slot}
use Rattle.ep_exec.specs.Kept.{HasRoom}
use Rattle.ep_journal.specs.Executing.{AreFresh}
use Rattle.ep_journal.proofs.execute.add_all.Goals as goal

pub loop-id-preserved : goal.loop-id-preserved
loop-id-preserved c =
    let n : ℕ = c.loop-id.id-index in
    let order : List ℕ = c.args.order.now in
    let rest : List ℕ = drop (n + 1) order in
    let i : ℕ = c.id-item.result in
    let left : drop n order ≡ i ∷ rest = drop_more order n i c.loop-id-test.true ∙ ap (λ x. x ∷ rest) (sym c.id-item.is) in
    let was : HasRoom c.loop-id.executed (i ∷ rest) = subst (HasRoom c.loop-id.executed) left c.loop-id.invariant.room in
    let fresh : AreFresh c.loop-id.executed.list (i ∷ rest) = subst (AreFresh c.loop-id.executed.list) left c.loop-id.invariant.fresh in
    let added : c.add.new.self.list ≡ c.loop-id.executed.list ++ (i ∷ []) = c.add.ensures.new fresh.0 in
    record {
      room = record {
        many = (let m : suc (length rest) ≤ c.loop-id.executed.room = was.many in let r = c.add.ensures.room in omega (arith, m, r));
        slots = subst (λ m. AllByRecursion (λ j. slot j < m) rest) (sym c.add.ensures.marks) was.slots.1;
      };
      fresh = subst (λ (xs : List ℕ). AreFresh xs rest) (sym added) fresh.1;
      list = ap (λ (xs : List ℕ). xs ++ rest) added ∙ append_assoc c.loop-id.executed.list (i ∷ []) rest ∙ ap (λ (xs : List ℕ). c.loop-id.executed.list ++ xs) (sym left) ∙ c.loop-id.invariant.list;
    }
