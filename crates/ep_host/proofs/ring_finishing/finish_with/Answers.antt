use Rattle.std.proofs.Common.{rules, ◌≡◌, ◌∙◌, List, All, ap, subst}
use Rattle.std.proofs.lemmas.List.{with_items_is}
use Rattle.ep_journal.specs.Entries.{AreInOrder, all_entries, first_opening}
use Rattle.ep_replica.specs.Kept.{first_version}
use Rattle.ep_host.specs.Host.{Looked, Knows, AllSent, AllBegin, AllFrom}
use Rattle.ep_host.specs.Node.{Node}
use Rattle.ep_host.specs.Pointwise.{Each}
use Rattle.ep_host.specs.RingFinishing.{replicas_in}
use Rattle.ep_host.proofs.Accepting.{end_in_order, ended, ended_accepted}
use Rattle.ep_host.proofs.ring_finishing.finish_with.Goals as goal

pub unwrap-journals-requires : goal.unwrap-journals-requires
unwrap-journals-requires c =
    let nodes = c.args.nodes.items in let after = c.taken_was_sent.new.nodes in
    let is = with_items_is c.args.nodes after (search rules) in
    let value = c.as_mut_slice.ensures.value in
    let know : All Knows nodes = subst (λ (l : List Node). All Knows l) value c.taken_was_sent.ensures.knows in
    let looked : Each Looked nodes after = subst (λ (l : List Node). Each Looked l after) value c.taken_was_sent.ensures.looked in
    let logs = c.in_ok-journals.ensures ∙ ap (λ (l : List Node). replicas_in l) is in
    c.new.ensures.in_order.1 (first_version (replicas_in nodes), first_opening (replicas_in nodes), c.requires.0, end_in_order c.requires.0 nodes after c.in_ok-journals.journals.items c.requires.1 know looked logs)

pub accepted-requires : goal.accepted-requires
accepted-requires c =
    let f = c.requires.0 in let host = c.requires.1 in
    let nodes = c.args.nodes.items in let after = c.taken_was_sent.new.nodes in
    let is = with_items_is c.args.nodes after (search rules) in
    let value = c.as_mut_slice.ensures.value in
    let know : All Knows nodes = subst (λ (l : List Node). All Knows l) value c.taken_was_sent.ensures.knows in
    let sent : AllSent nodes = subst (λ (l : List Node). AllSent l) value c.taken_was_sent.ensures.sent in
    let looked : Each Looked nodes after = subst (λ (l : List Node). Each Looked l after) value c.taken_was_sent.ensures.looked in
    let j = c.unwrap-journals.result in let ls = c.in_ok-journals.journals.items in
    let logs = c.in_ok-journals.ensures ∙ ap (λ (l : List Node). replicas_in l) is in
    let order : AreInOrder j.version j.opening j.faults 0 ls = search rules in
    let entries : j.entries ≡ all_entries ls = search rules in
    ended_accepted f nodes j c.args.receipts.now host know sent (ended f nodes after j ls host looked logs order entries) c.requires.2

pub returns-clause-journals : goal.returns-clause-journals
returns-clause-journals c = λ f host.
    let nodes = c.args.nodes.items in let after = c.taken_was_sent.new.nodes in
    let is = with_items_is c.args.nodes after (search rules) in
    let value = c.as_mut_slice.ensures.value in
    let looked : Each Looked nodes after = subst (λ (l : List Node). Each Looked l after) value c.taken_was_sent.ensures.looked in
    let j = c.unwrap-journals.result in let ls = c.in_ok-journals.journals.items in
    let logs = c.in_ok-journals.ensures ∙ ap (λ (l : List Node). replicas_in l) is in
    let order : AreInOrder j.version j.opening j.faults 0 ls = search rules in
    let entries : j.entries ≡ all_entries ls = search rules in
    let e = ended f nodes after j ls host looked logs order entries in
    (e.of.faults, e.entries)

pub returns-clause-version : goal.returns-clause-version
returns-clause-version c =
    let f = c.requires.0 in let host = c.requires.1 in
    let nodes = c.args.nodes.items in let after = c.taken_was_sent.new.nodes in
    let is = with_items_is c.args.nodes after (search rules) in
    let value = c.as_mut_slice.ensures.value in
    let looked : Each Looked nodes after = subst (λ (l : List Node). Each Looked l after) value c.taken_was_sent.ensures.looked in
    let j = c.unwrap-journals.result in let ls = c.in_ok-journals.journals.items in
    let logs = c.in_ok-journals.ensures ∙ ap (λ (l : List Node). replicas_in l) is in
    let order : AreInOrder j.version j.opening j.faults 0 ls = search rules in
    let entries : j.entries ≡ all_entries ls = search rules in
    (ended f nodes after j ls host looked logs order entries).of.version

pub returns-clause-opening : goal.returns-clause-opening
returns-clause-opening c =
    let f = c.requires.0 in let host = c.requires.1 in
    let nodes = c.args.nodes.items in let after = c.taken_was_sent.new.nodes in
    let is = with_items_is c.args.nodes after (search rules) in
    let value = c.as_mut_slice.ensures.value in
    let looked : Each Looked nodes after = subst (λ (l : List Node). Each Looked l after) value c.taken_was_sent.ensures.looked in
    let j = c.unwrap-journals.result in let ls = c.in_ok-journals.journals.items in
    let logs = c.in_ok-journals.ensures ∙ ap (λ (l : List Node). replicas_in l) is in
    let order : AreInOrder j.version j.opening j.faults 0 ls = search rules in
    let entries : j.entries ≡ all_entries ls = search rules in
    (ended f nodes after j ls host looked logs order entries).of.opening

pub returns-in_err-journals-clause-begins : goal.returns-in_err-journals-clause-begins
returns-in_err-journals-clause-begins c = subst (λ (l : List Node). AllBegin l) c.as_mut_slice.ensures.value c.taken_was_sent.ensures.begins

pub returns-in_err-journals-clause-from : goal.returns-in_err-journals-clause-from
returns-in_err-journals-clause-from c = subst (λ (l : List Node). AllFrom l) c.as_mut_slice.ensures.value c.taken_was_sent.ensures.from

pub returns-in_err-verdict-clause-begins : goal.returns-in_err-verdict-clause-begins
returns-in_err-verdict-clause-begins c = subst (λ (l : List Node). AllBegin l) c.as_mut_slice.ensures.value c.taken_was_sent.ensures.begins

pub returns-in_err-verdict-clause-from : goal.returns-in_err-verdict-clause-from
returns-in_err-verdict-clause-from c = subst (λ (l : List Node). AllFrom l) c.as_mut_slice.ensures.value c.taken_was_sent.ensures.from

pub returns-clause-begins : goal.returns-clause-begins
returns-clause-begins c = subst (λ (l : List Node). AllBegin l) c.as_mut_slice.ensures.value c.taken_was_sent.ensures.begins

pub returns-clause-from : goal.returns-clause-from
returns-clause-from c = subst (λ (l : List Node). AllFrom l) c.as_mut_slice.ensures.value c.taken_was_sent.ensures.from
