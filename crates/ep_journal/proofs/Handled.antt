-- A frame's message is handled by its kind.
use Rattle.std.proofs.Common.{◌≡◌, ℕ, Bool, true, false, cond, List, [], Option, Some, None, Result, Ok, Err, IfOk, sym, ap, subst, ◌∙◌}
use Rattle.std.specs.Prelude.{IfErr}
use Rattle.ep_base.specs.Sameness.{same_decree}
use Rattle.ep_base.specs.declared.message.Message.{Message}
use Rattle.ep_base.specs.declared.vote.Vote.{Vote}
use Rattle.ep_frame.specs.Meaning.{decree_at, kind_at, message_at, message_by}
use Rattle.ep_frame.specs.declared.kind.Kind.TheVariants.{Commit}
use Rattle.ep_frame.proofs.Reported.{by_kind}
use Rattle.ep_phase.proofs.Settled.{same_settled}
use Rattle.ep_phase.specs.Changes.{change_of}
use Rattle.ep_phase.specs.InstanceViews.{InstanceView, record_of}
use Rattle.ep_phase.specs.Refused.{IsRefused}
use Rattle.ep_phase.specs.declared.change.Change.{Change}
use Rattle.ep_phase.specs.declared.decision_fault.DecisionFault.{DecisionFault}
use Rattle.ep_phase.specs.declared.decision_fault.DecisionFault.TheVariants.{Memory}
use Rattle.ep_rules.specs.Cells as rules
use Rattle.ep_rules.specs.Phases.{Outcome, with_commit}
use Rattle.ep_rules.specs.declared.record.Record.{Record}
use Rattle.ep_journal.specs.Inputs.{handled_at, settling}

-- of a message that is this one
pub handled_ok : (k : InstanceView) (from : ℕ) (m m' : Message) (r : Result Change DecisionFault) → m ≡ m' → IfOk r (λ ch. handled_at k from m' ≡ Ok (change_of k ch)) → IfOk r (λ ch. handled_at k from m ≡ Ok (change_of k ch))
handled_ok k from m m' r is h = subst (λ x. IfOk r (λ ch. handled_at k from x ≡ Ok (change_of k ch))) (sym is) h

pub handled_refused : (k : InstanceView) (from : ℕ) (m m' : Message) (r : Result Change DecisionFault) → m ≡ m' → IfErr r (λ e. IsRefused (handled_at k from m') e) → IfErr r (λ e. IsRefused (handled_at k from m) e)
handled_refused k from m m' r is h = subst (λ x. IfErr r (λ e. IsRefused (handled_at k from x) e)) (sym is) h

-- a rule that can't refuse
pub rule_ok : (k : InstanceView) (o : rules.Change) (r : Result Change DecisionFault) → IfOk r (λ ch. change_of k ch ≡ o) → IfOk r (λ ch. ◌≡◌ {A = Outcome} (Ok o) (Ok (change_of k ch)))
rule_ok k o (Ok ch) h = ap Ok (sym h)
rule_ok k o (Err e) h = tt

pub rule_refused : (o : Outcome) (r : Result Change DecisionFault) → IfErr r (λ e. e ≡ Memory) → IfErr r (λ e. IsRefused o e)
rule_refused o (Ok ch) h = tt
rule_refused o (Err e) h = subst (IsRefused o) (sym h) tt

abbrev done : rules.Change → Outcome
done ch = Ok ch

-- what changes where this is what an instance has then
abbrev with_entry_alone : Option Record → rules.Change
with_entry_alone o = record { entry = o; led = Some None; reported = None; out = [] }

-- a Commit of what was voted for, where nothing is committed
pub settled_by : (k : InstanceView) (from : ℕ) (b : List ℕ) (v : Vote) (same : Bool) → kind_at b ≡ Commit → rules.is_committed (record_of k).vote ≡ false → Some v ≡ (record_of k).vote → same ≡ same_decree (decree_at b) v.decree → same ≡ true →
    handled_at k from (message_at b) ≡ Ok (settling k)
settled_by k from b v same kind uncommitted there is holds =
    ap (handled_at k from) (by_kind b ∙ ap (λ q. message_by q b) kind)
    ∙ ap (λ c. done (cond c rules.nothing (with_entry_alone (Some (with_commit k.instance (record_of k) (decree_at b)))))) uncommitted
    ∙ ap (λ o. done (with_entry_alone o)) (sym (same_settled k.instance (record_of k) (record_of k).vote v (decree_at b) same there is holds))
