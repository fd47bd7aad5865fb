-- The root's execution, and why there is none, from what its parts ensure.
use Rattle.std.proofs.Common.{◌≡◌, ℕ, List, ◌++◌, sym, ap, subst, ◌∙◌}
use Rattle.ep_base.specs.declared.reply.Answer.{Answer}
use Rattle.ep_exec.specs.Refusal.{Refuses}
use Rattle.ep_exec.specs.declared.plan_fault.PlanFault.{PlanFault}
use Rattle.ep_exec.specs.declared.plan_fault.PlanFault.TheVariants.{Memory as PlanMemory, NotCommitted as PlanNotCommitted}
use Rattle.ep_rules.specs.Graph.{Graph}
use Rattle.ep_rules.specs.OneMap.{Store, after_all, answers_of}
use Rattle.ep_rules.specs.Order.{IsPlan}
use Rattle.ep_rules.specs.States.{command_in, graph_in}
use Rattle.ep_rules.specs.Steps.{order_of, answers_in}
use Rattle.ep_space.specs.Records.{Records}
use Rattle.ep_journal.proofs.DoneBy.{order_done, answers_done}
use Rattle.ep_journal.proofs.Fresh.{fresh_plan}
use Rattle.ep_journal.specs.Executing.{done_by, AreFresh, IsExecuted, IsUnexecuted}
use Rattle.ep_journal.specs.Refused.{of_plan}

pub unplanned : (s : Records) (root : ℕ) (done : List ℕ) (fault : PlanFault) → Refuses (graph_in s.records) done root fault → IsUnexecuted s root done (of_plan fault)
unplanned s root done PlanMemory why = tt
unplanned s root done (PlanNotCommitted i) why = why

-- what is left to execute is new to what was executed
pub order_fresh : (g : Graph) (root : ℕ) (order added executed before : List ℕ) → IsPlan g executed root order → added ≡ order → before ≡ executed → AreFresh before added
order_fresh g root order added executed before plan new same = subst (λ is. AreFresh before is) (sym new) (subst (λ is. AreFresh is order) (sym same) (fresh_plan g executed root order plan))

-- the order, done in turn and added to what was executed, is the root's execution
pub executed_whole : (s : Records) (root : ℕ) (order tried added executed before executed' : List ℕ) (store store' : Store) (done : List (ℕ × Answer)) →
    IsPlan (graph_in s.records) executed root order → tried ≡ order → done ≡ done_by (command_in s.records) store tried → store' ≡ after_all (command_in s.records) store tried →
    added ≡ order → before ≡ executed → executed' ≡ before ++ added → IsExecuted s root done executed store executed' store'
executed_whole s root order tried added executed before executed' store store' done plan all is map new kept listed =
    let c = command_in s.records in
    let same : order_of done ≡ order = ap order_of is ∙ (order_done c store tried ∙ all) in
    record {
      plan = subst (IsPlan (graph_in s.records) executed root) (sym same) plan;
      answers = ap answers_in is ∙ (answers_done c store tried ∙ ap (answers_of c store) (all ∙ sym same));
      order = listed ∙ (ap (λ (is : List ℕ). is ++ added) kept ∙ ap (λ (is : List ℕ). executed ++ is) (new ∙ sym same));
      map = map ∙ ap (after_all c store) (all ∙ sym same);
    }
