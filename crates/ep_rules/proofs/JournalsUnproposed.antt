-- Where the leader of an instance has no record of it, only a no-op is committed there: a proposal leaves a record, which stays.
use Rattle.std.proofs.Common.{◌≡◌, ℕ, ◌<◌, ◌≤◌, Bool, true, false, cond, eqb, None, List, [], ◌∷◌, refl, sym, ap, subst, ◌∙◌}
use Rattle.std.proofs.lemmas.Bool.{eq-eqb}
use Rattle.ep_base.specs.Instances.{leader_of}
use Rattle.ep_base.specs.Sameness.{is_noop}
use Rattle.ep_base.specs.Commands.{Command}
use Rattle.ep_base.specs.declared.decree.Decree.{Decree}
use Rattle.ep_base.specs.Quorums.{size}
use Rattle.ep_rules.specs.Maps.{get}
use Rattle.ep_rules.specs.Steps.{acts, leaves, IsTaken}
use Rattle.ep_rules.specs.Worlds.{World, opening, Act, moved, IsRun, ends, Committed}
use Rattle.ep_rules.specs.Safety.{WasProposed}
use Rattle.ep_rules.proofs.JournalsCommitted.{none_some, run_parts, ends_both}
use Rattle.ep_rules.proofs.Runs.{validity_holds}
use Rattle.ep_rules.proofs.OneProposal.{HasRecord, leaves_keeps, taken_record}
use Rattle.ep_rules.specs.OneMap.{Store}

module _ (base : Store) (f : ℕ) where
  moved_keeps : (w : World) (a : Act) (r i : ℕ) → HasRecord (w.states r) i → HasRecord ((moved f w a).states r) i
  moved_keeps w a r i h = go (eqb a.replica r)
    where
      go : (b : Bool) → HasRecord (cond b (leaves f r (w.states r) a.event a.done) (w.states r)) i
      go true = leaves_keeps f r (w.states r) a.event a.done i h
      go false = h

  ends_keeps : (w : World) (these : List Act) (r i : ℕ) → HasRecord (w.states r) i → HasRecord ((ends f w these).states r) i
  ends_keeps w [] r i h = h
  ends_keeps w (a ∷ these) r i h = ends_keeps (moved f w a) these r i (moved_keeps w a r i h)

  -- what was proposed has a record at its leader
  recorded : (these : List Act) (i : ℕ) (c : Command) → IsRun f (opening base) these → WasProposed base f these i c → HasRecord ((ends f (opening base) these).states (leader_of i)) i
  recorded these i c run p =
      let l : ℕ = leader_of i in
      let w : World = ends f (opening base) p.before in
      let runs = run_parts f p.before (p.proposal ∷ p.after) (opening base) (subst (IsRun f (opening base)) (sym p.stands) run) in
      let taken : IsTaken (acts f l (w.states l) p.proposal.event) = subst (λ q. IsTaken (acts f q (w.states q) p.proposal.event)) p.replica runs.1.0.step.taken in
      let then : HasRecord (leaves f l (w.states l) p.proposal.event p.proposal.done) i =
      subst (λ j. HasRecord (leaves f l (w.states l) p.proposal.event p.proposal.done) j) p.instance (taken_record f l (w.states l) p.proposal.event p.proposal.done c p.client p.request p.seen p.number p.spared p.event p.free taken) in
      let here : HasRecord ((moved f w p.proposal).states l) i = subst (λ b. HasRecord (cond b (leaves f l (w.states l) p.proposal.event p.proposal.done) (w.states l)) i) (sym (eq-eqb p.proposal.replica l p.replica)) then in
      let whole : ends f (opening base) these ≡ ends f (moved f w p.proposal) p.after = ap (λ z. ends f (opening base) z) (sym p.stands) ∙ ends_both f p.before (p.proposal ∷ p.after) (opening base) in
      subst (λ (z : World). HasRecord (z.states l) i) (sym whole) (ends_keeps (moved f w p.proposal) p.after l i here)

-- where the leader of an instance has no record of it, only a no-op is committed there
abbrev pub Unproposed : (base : Store) → Type 0
Unproposed base =
    (f : ℕ) → 0 < f → size f ≤ 256 → (these : List Act) → IsRun f (opening base) these → (i r : ℕ) (x : Decree) →
    get ((ends f (opening base) these).states (leader_of i)).records i ≡ None → Committed (ends f (opening base) these) r i x → is_noop x.command ≡ true

pub unproposed_lem : (base : Store) → Unproposed base
unproposed_lem base f some few these run i r x none there = go (is_noop x.command) refl
  where
    go : (b : Bool) → is_noop x.command ≡ b → is_noop x.command ≡ true
    go true e = e
    go false e = let t = recorded base f these i x.command run (validity_holds base f some few these run i r x there e) in none_some t.0 (sym none ∙ t.1)
