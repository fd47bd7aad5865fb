use Rattle.std.proofs.Common.{◌≡◌, ◌≢◌, ◌≤◌, ℕ, List, length, rules, sym, ap, subst, ◌∙◌}
use Rattle.std.specs.List.{AllByRecursion}
use Rattle.ep_base.specs.Messages.{says}
use Rattle.ep_base.specs.Quorums.{size}
use Rattle.ep_base.specs.declared.message.Message.{Message}
use Rattle.ep_frame.specs.Rounds.{AreFramesTo}
use Rattle.ep_rules.specs.Counting.{to_those}
use Rattle.ep_rules.specs.Fitting.{AllFit}
use Rattle.ep_rules.specs.Steps.{sent_from}
use Rattle.ep_journal.specs.Events.{AreSpelled}
use Rattle.ep_journal.specs.Holding.{AllSayable}
use Rattle.ep_journal.specs.Inputs.{receives}
use Rattle.ep_journal.specs.Several.{to_each}
use Rattle.ep_journal.proofs.Spelling.{each_spelled, each_apart, each_fits, each_sayable, none_spelled}
use Rattle.ep_journal.proofs.frames.written_to_each.Goals as goal

pub returns-then-is_empty : goal.returns-then-is_empty
returns-then-is_empty c =
    let s = c.args.multicast.now in
    let m : Message = says s.message.now.instance s.message.now.said in
    let rs : List ℕ = c.as_slice-receivers.result.now in
    let none : length rs ≤ 0 = search rules in
    none_spelled s.version s.mark.number s.mark.stamp c.args.cell.now.me m rs c.none.result (to_those (receives c.args.cell.now s.to) (size c.args.cell.now.faults) m) none
    (ap (λ (xs : List ℕ). to_each xs m) c.as_slice-receivers.ensures ∙ c.receivers_of-chosen.ensures.sent m) c.none.ensures

pub write_each-requires-clause-apart : goal.write_each-requires-clause-apart
write_each-requires-clause-apart c =
    let s = c.args.multicast.now in
    let me : ℕ = c.args.cell.now.me in
    let m : Message = says s.message.now.instance s.message.now.said in
    let rs : List ℕ = c.as_slice-receivers.result.now in
    subst (λ (j : ℕ). AllByRecursion (λ r. r ≢ j) rs) (sym c.me.ensures)
    (each_apart me m rs (subst (λ ms. AllFit me ms) (sym (ap (λ (xs : List ℕ). to_each xs m) c.as_slice-receivers.ensures ∙ c.receivers_of-chosen.ensures.sent m)) c.requires.fit))

pub write_each-requires-clause-ballots : goal.write_each-requires-clause-ballots
write_each-requires-clause-ballots c =
    let s = c.args.multicast.now in
    let me : ℕ = c.args.cell.now.me in
    let m : Message = says s.message.now.instance s.message.now.said in
    let rs : List ℕ = c.as_slice-receivers.result.now in
    let some : 1 ≤ length rs = search rules in
    each_fits me m rs some (subst (λ ms. AllFit me ms) (sym (ap (λ (xs : List ℕ). to_each xs m) c.as_slice-receivers.ensures ∙ c.receivers_of-chosen.ensures.sent m)) c.requires.fit)

pub write_each-requires-clause-sayable : goal.write_each-requires-clause-sayable
write_each-requires-clause-sayable c =
    let s = c.args.multicast.now in
    let m : Message = says s.message.now.instance s.message.now.said in
    let rs : List ℕ = c.as_slice-receivers.result.now in
    let some : 1 ≤ length rs = search rules in
    each_sayable s.version m rs some (subst (λ ms. AllSayable s.version ms) (sym (ap (λ (xs : List ℕ). to_each xs m) c.as_slice-receivers.ensures ∙ c.receivers_of-chosen.ensures.sent m)) c.requires.said)

pub returns : goal.returns
returns c =
    let s = c.args.multicast.now in
    let me : ℕ = c.args.cell.now.me in
    let m : Message = says s.message.now.instance s.message.now.said in
    let rs : List ℕ = c.as_slice-receivers.result.now in
    let bs : List (List ℕ) = c.in_ok-items.items.items in
    subst (λ ms. AreSpelled s.version s.mark.number s.mark.stamp 0 bs (sent_from me ms)) (ap (λ (xs : List ℕ). to_each xs m) c.as_slice-receivers.ensures ∙ c.receivers_of-chosen.ensures.sent m)
    (each_spelled s.version s.mark.number s.mark.stamp 0 me m rs bs (subst (λ (j : ℕ). AreFramesTo s.version j m s.mark.number s.mark.stamp 0 rs bs) c.me.ensures c.in_ok-items.ensures))
