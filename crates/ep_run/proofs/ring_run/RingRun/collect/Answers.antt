use Rattle.std.proofs.Common.{rules, ◌≡◌, ◌<◌, ◌∙◌, ◌++◌, ℕ, List, ap, subst, sym, length, get_or, arith}
use Rattle.std.proofs.lemmas.List.{get_or_default}
use Rattle.ep_host.specs.Node.{Node}
use Rattle.ep_journal.specs.Entries.{entries_of}
use Rattle.ep_replay.specs.Tables.{AreCounted}
use Rattle.ep_replica.specs.Receipts.{receipts_after}
use Rattle.ep_rules.specs.Verdicts.{IsOwn}
use Rattle.ep_rules.specs.declared.receipt.Receipt.{Receipt as Reported}
use Rattle.ep_run.specs.Rings.{given_at}
use Rattle.ep_run.proofs.ring_run.RingRun.collect.Goals as goal
use Rattle.ep_journal.specs.Openings.{opens}

pub returns-clause-receipts : goal.returns-clause-receipts
returns-clause-receipts c = λ d.
    let nodes = c.args.self.now.nodes.items in
    let marks = c.args.self.now.collected.items in
    let receipts = c.args.self.now.receipts.items in
    let place = c.args.place in
    let low : place < length nodes = c.requires.place in
    let node : Node = c.index.result.now in
    let is : node ≡ get_or nodes place node = search rules in
    let here : node ≡ get_or nodes place d = is ∙ get_or_default nodes place node d low in
    let counted : ℕ = c.index-before.result.now in
    let under : place < length marks = omega (arith, low, c.requires.collected) in
    let there : counted ≡ get_or marks place counted = search rules in
    let mark : counted ≡ get_or marks place 0 = there ∙ get_or_default marks place counted 0 under in
    let reported : c.in_ok-new.new.items ≡ given_at place marks nodes d =
    c.in_ok-new.ensures.reported ∙ ap (λ (n : Node). receipts_after n.replica.me c.index-before.result.now (entries_of n.replica.entries)) here ∙ ap (λ (k : ℕ). receipts_after (get_or nodes place d).replica.me k (entries_of (get_or nodes place d).replica.entries)) mark in record {
      is = c.in_ok-append.ensures.items ∙ ap (λ (l : List Reported). receipts ++ l) reported;
      own = λ t h. (
        place,
        low,
        λ e. subst (λ (n : Node). IsOwn (opens n.replica.opening) n.replica.faults n.replica.me (entries_of n.replica.entries) t) (is ∙ get_or_default nodes place node e low) (c.in_ok-new.ensures.own t (rw reported h)),
      );
      counted = λ ps are.
          subst (λ (l : List Reported). AreCounted c.note_all.new.self ps l) (ap (λ (l : List Reported). receipts ++ l) c.deref.ensures.value ∙ sym c.in_ok-append.ensures.items) (c.in_ok-note_all.ensures ps receipts are);
    }
