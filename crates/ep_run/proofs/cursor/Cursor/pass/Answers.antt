use Rattle.std.proofs.Common.{◌≡◌, ◌∙◌, ℕ, drop, sym, subst}
use Rattle.ep_host.specs.Tasks.{refusals_in}
use Rattle.ep_run.specs.declared.cursor.Cursor.{Cursor}
use Rattle.ep_run.proofs.Walking.{passed_fault, passed_none, passed_some}
use Rattle.ep_run.proofs.cursor.Cursor.pass.Goals as goal
use Rattle.ep_run.proofs.cursor.Cursor.pass.Goals.{then-is_some, else-is_some}

pub returns-clause-fault : goal.returns-clause-fault
returns-clause-fault c = λ uses is. c.fault-fault.ensures ∙ passed_fault c.args.self.now.place c.in_ok-next.next c.args.self.now.reported c.args.refused.now uses c.in_ok-next.ensures.after c.in_ok-next.ensures.in_range is

pub returns-clause-rest : goal.returns-clause-rest
returns-clause-rest c = λ uses is.
    let p : ℕ = c.args.self.now.place in
    let q : ℕ = c.in_ok-next.next in
    elim c.if-is_some.branch [
      | then-is_some w ↦
          subst (λ (k : Cursor). drop k.reported c.args.refused.now ≡ refusals_in q (drop 1 uses)) (sym w.self-is)
          (passed_some p q c.args.self.now.reported c.args.refused.now uses c.fault-fault.result c.in_ok-next.ensures.after c.in_ok-next.ensures.in_range is c.fault-fault.ensures (sym c.is_some.ensures ∙ w.if-is_some.true))
      | else-is_some w ↦
          subst (λ (k : Cursor). drop k.reported c.args.refused.now ≡ refusals_in q (drop 1 uses)) (sym w.self-is)
          (passed_none p q c.args.self.now.reported c.args.refused.now uses c.fault-fault.result c.in_ok-next.ensures.after c.in_ok-next.ensures.in_range is c.fault-fault.ensures (sym c.is_some.ensures ∙ w.if-is_some.false))
    ]
