-- The rule book sees of upgraded journals what it saw of them before: a frame is its message and its origin there, and has no bytes.
use Rattle.std.proofs.Common.{◌≡◌, ◌↔◌, ℕ, sym, ap, subst, ◌∙◌}
use Rattle.ep_journal.specs.Entries.{Collected, journals_of}
use Rattle.ep_journal.specs.Openings.{Opening, opens}
use Rattle.ep_journal.proofs.Upgrading.{journals-upgraded}
use Rattle.ep_rules.specs.Audits.{IsAccepted, IsFault}
use Rattle.ep_rules.specs.Journals.{Journals, IsSchedule}
use Rattle.ep_rules.specs.OneMap.{Store}
use Rattle.ep_rules.specs.Verdicts.{agreed, command_at, IsReply}
use Rattle.ep_audit.specs.Verdicts.{IsVerdict}
use Rattle.ep_audit.specs.Audited.{IsOneHistory}
use Rattle.ep_audit.specs.Upgraded.{SaysTheSame, UpgradedSaysTheSame}

-- what is said of equals is said of both
module _ (c c' : Collected) (base : opens c'.opening ≡ opens c.opening) (size : c'.faults ≡ c.faults) (is : journals_of c' ≡ journals_of c) where
  same_of : (A : Type 0) (of : Store → ℕ → Journals → A) → of (opens c'.opening) c'.faults (journals_of c') ≡ of (opens c.opening) c.faults (journals_of c)
  same_of A of = ap (λ b. of b c'.faults (journals_of c')) base ∙ ap (λ n. of (opens c.opening) n (journals_of c')) size ∙ ap (λ (j : Journals). of (opens c.opening) c.faults j) is

  both : (P : Store → ℕ → Journals → Type 0) → P (opens c.opening) c.faults (journals_of c) ↔ P (opens c'.opening) c'.faults (journals_of c')
  both P = (
    λ p. subst (λ b. P b c'.faults (journals_of c')) (sym base) (subst (λ n. P (opens c.opening) n (journals_of c')) (sym size) (subst (λ (j : Journals). P (opens c.opening) c.faults j) (sym is) p)),
    λ p. subst (λ (j : Journals). P (opens c.opening) c.faults j) is (subst (λ n. P (opens c.opening) n (journals_of c')) size (subst (λ b. P b c'.faults (journals_of c')) base p)),
  )

  pub same : SaysTheSame c c'
  same = record {
    accepted = λ receipts. both (λ b n j. IsAccepted b n j receipts);
    fault = λ receipts fault. both (λ b n j. IsFault b n j receipts fault);
    schedule = λ schedule. both (λ b n j. IsSchedule j schedule);
    committed = λ i. same_of _ (λ b n j. agreed b n j i);
    command = λ i. same_of _ (λ b n j. command_at b n j i);
    history = λ receipts schedule h. both (λ b n j. IsOneHistory b n j receipts schedule h);
    reply = λ h i x. both (λ b n j. IsReply b (command_at b n j) h i x);
    verdict = λ v. both (λ b n j. IsVerdict b n j v);
  }

pub upgraded_says_the_same_lem : UpgradedSaysTheSame
upgraded_says_the_same_lem c c' up = same c c' (ap (λ (o : Opening). opens o) up.opening) up.faults (journals-upgraded c c' up)
