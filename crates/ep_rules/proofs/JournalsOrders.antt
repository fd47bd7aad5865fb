-- Each journal's order of executions is the history's.
use Rattle.std.proofs.Common.{◌≡◌, ◌<◌, true, false, cond, [], refl, sym, ap, subst, ◌∙◌}
use Rattle.ep_base.specs.Interference.{interfere}
use Rattle.ep_base.specs.Sameness.{is_noop}
use Rattle.ep_base.specs.Commands.{Command, Noop, Get, Put, Del, Swap, Cas, Seal, Opaque, Tx}
use Rattle.ep_base.specs.Places.{place, Has}
use Rattle.ep_rules.specs.History.{nothing, done_after, merged}
use Rattle.ep_base.proofs.Interfering.{Decides-interfere, Interferes-symmetric, Interferes-noop}
use Rattle.ep_rules.specs.States.{State, fresh_state, attrs_of}
use Rattle.ep_rules.specs.Worlds.{opening}
use Rattle.ep_rules.specs.Journals.{left, acts_of}
use Rattle.ep_rules.specs.Verdicts.{agreed, command_at, merged_of}
use Rattle.ep_rules.specs.Merging.{JournalsOrder}
use Rattle.ep_rules.proofs.Places.{filter_forth, filter_back}
use Rattle.ep_rules.proofs.Interleaved.{one_order_lem, one_reply_lem}
use Rattle.ep_rules.proofs.JournalsCommitted.{is_run, state_is}
use Rattle.ep_rules.proofs.JournalsExecutions.{executions, done_is}
use Rattle.ep_rules.proofs.JournalsReplies.{merged_same, dependent, locals}
use Rattle.ep_rules.proofs.Answered.{is_real}

-- what interferes is no no-op
pub real_left : (a b : Command) → interfere a b ≡ true → cond (is_noop a) false true ≡ true
real_left Noop b e = absurd (Interferes-noop b ((Decides-interfere Noop b).0 e))
real_left (Get k) b e = refl
real_left (Put k v) b e = refl
real_left (Del k) b e = refl
real_left (Swap p) b e = refl
real_left (Cas k x n) b e = refl
real_left (Seal v) b e = refl
real_left (Opaque q w) b e = refl
real_left (Tx is) b e = refl

pub real_right : (a b : Command) → interfere a b ≡ true → cond (is_noop b) false true ≡ true
real_right a b e = real_left b a ((Decides-interfere b a).1 (Interferes-symmetric a b ((Decides-interfere a b).0 e)))

pub journals_order_lem : JournalsOrder
journals_order_lem base f journal schedule given r i j hi hj ne meet =
    let run = is_run base f journal schedule given in
    let es = executions f (opening base) (acts_of schedule) in
    let own : done_after nothing es r ≡ (left f r (fresh_state base) (journal r)).executed =
    done_is f (acts_of schedule) (opening base) nothing run (λ q. refl) r ∙ ap (λ (s : State). s.executed) (state_is base f journal schedule given r) in
    let dep = dependent base f journal schedule given in
    let local = locals base f journal schedule given in
    let ki : Has (done_after nothing es r) i = subst (λ l. Has l i) (sym own) hi in
    let kj : Has (done_after nothing es r) j = subst (λ l. Has l j) (sym own) hj in
    let both = one_order_lem base (λ q. attrs_of (agreed base f journal q)) (command_at base f journal) es dep local r i j ki kj ne meet in
    let same : merged [] es ≡ merged_of [] schedule = merged_same f schedule (opening base) [] run in
    let in_merged : Has (merged_of [] schedule) i = subst (λ l. Has l i) same (one_reply_lem base (λ q. attrs_of (agreed base f journal q)) (command_at base f journal) es dep local r i ki).0 in
    let ri = real_left (command_at base f journal i) (command_at base f journal j) meet in
    let rj = real_right (command_at base f journal i) (command_at base f journal j) meet in (
      λ lt. filter_forth (is_real (command_at base f journal)) (merged_of [] schedule) i j ri rj (subst (λ l. place l i < place l j) same (both.0 (subst (λ l. place l i < place l j) (sym own) lt))),
      λ lt. subst (λ l. place l i < place l j) own (both.1 (subst (λ l. place l i < place l j) (sym same) (filter_back (is_real (command_at base f journal)) (merged_of [] schedule) i j ri rj in_merged lt))),
    )
