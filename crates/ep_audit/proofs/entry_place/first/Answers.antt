use Rattle.std.proofs.Common.{◌≡◌, ◌≤◌, ◌<◌, ◌⊎◌, inl, inr, ℕ, None, Some, List, Option, drop, length, option_copied, option_map, false, true, sym, ap, subst, ◌∙◌, arith}
use Rattle.ep_journal.specs.Entries.{entries_at, entries_of}
use Rattle.ep_journal.specs.declared.entry.Entry.{Entry as Written}
use Rattle.ep_audit.specs.Turns.{first_taken, first_turn, taken}
use Rattle.ep_audit.proofs.Turning.{first_after, none_after, turn_by}
use Rattle.ep_audit.proofs.entry_place.first.Goals as goal

pub returns-in_default-get : goal.returns-in_default-get
returns-in_default-get c =
    let es : List Written = c.entries.result.now in
    let same : es ≡ entries_at c.args.journals.now c.args.replica = c.entries.ensures.entries ∙ c.in-Some.ensures.some.5 in
    let past : length es ≤ c.args.done = elim c.in_default-get.ensures.lookup.0 [ inl lt ↦ omega arith | inr past ↦ absurd (omega arith) ] in
    sym (subst (λ ws. first_turn c.args.replica (taken c.args.all (drop c.args.done (entries_of ws))) ≡ None) same (none_after c.args.all c.args.replica c.args.done es past))

pub returns-in_default-first_taken : goal.returns-in_default-first_taken
returns-in_default-first_taken c =
    let es : List Written = c.entries.result.now in
    let same : es ≡ entries_at c.args.journals.now c.args.replica = c.entries.ensures.entries ∙ c.in-Some.ensures.some.5 in
    let found : None ≡ first_taken c.args.all c.in-Some-get.rest.now = sym (ap option_copied c.in_default-first_taken.is) ∙ c.first_taken.ensures in
    sym (subst (λ ws. first_turn c.args.replica (taken c.args.all (drop c.args.done (entries_of ws))) ≡ None) same
    (first_after c.args.all c.args.replica c.args.done es c.in-Some-get.rest.now None c.in-Some-get.ensures.lookup.0.0 c.in-Some-get.ensures.lookup.0.2 found))

pub returns : goal.returns
returns c =
    let es : List Written = c.entries.result.now in
    let same : es ≡ entries_at c.args.journals.now c.args.replica = c.entries.ensures.entries ∙ c.in-Some.ensures.some.5 in
    let e : Written = c.in-Some-first_taken.entry.now in
    let found : Some e ≡ first_taken c.args.all c.in-Some-get.rest.now = sym (ap option_copied c.in-Some-first_taken.is) ∙ c.first_taken.ensures in
    sym (subst (λ ws. first_turn c.args.replica (taken c.args.all (drop c.args.done (entries_of ws))) ≡ Some (turn_by c.args.replica e)) same
    (first_after c.args.all c.args.replica c.args.done es c.in-Some-get.rest.now (Some e) c.in-Some-get.ensures.lookup.0.0 c.in-Some-get.ensures.lookup.0.2 found))
