use Rattle.std.proofs.Common.{◌≡◌, ℕ, Some, option_copied, sym, ap, ◌∙◌}
use Rattle.ep_base.specs.Quorums.{size}
use Rattle.ep_journal.specs.Entries.{journals_of}
use Rattle.ep_journal.specs.Openings.{opens}
use Rattle.ep_audit.specs.declared.happening.Happening.{Happening}
use Rattle.ep_rules.specs.Journals.{Journals}
use Rattle.ep_audit.specs.Closings.{IsExecuted}
use Rattle.ep_audit.specs.Sealed.{first_sealing, least_below}
use Rattle.ep_audit.proofs.FirstSeals.{closing_reported, first_line, no_line}
use Rattle.ep_audit.proofs.Stamps.{least_is, some_stamp}
use Rattle.ep_audit.proofs.seals.closing_of.Goals as goal

pub returns-in_default : goal.returns-in_default
returns-in_default c = no_line c.args.history.now (sym c.first_sealing.ensures ∙ ap option_copied c.in_default.is)

pub unwrap-stamp-requires : goal.unwrap-stamp-requires
unwrap-stamp-requires c =
    let journal : Journals = journals_of c.args.journals.now in
    let h : Happening = c.in-Some.happening.now in
    let first : first_sealing c.args.history.now ≡ Some h = sym c.first_sealing.ensures ∙ ap option_copied c.in-Some.is in
    let executed : IsExecuted journal h.instance = c.requires h (first_line c.args.history.now h first).stands in
    some_stamp (opens c.args.journals.now.opening) c.args.journals.now.faults journal h.instance c.least_stamp.result c.are_local_runs.ensures executed c.least_stamp.ensures

pub returns : goal.returns
returns c =
    let journal : Journals = journals_of c.args.journals.now in
    let h : Happening = c.in-Some.happening.now in
    let first : first_sealing c.args.history.now ≡ Some h = sym c.first_sealing.ensures ∙ ap option_copied c.in-Some.is in
    let t : ℕ = c.unwrap-stamp.result in
    let least : least_below (size c.args.journals.now.faults) journal h.instance ≡ Some t = sym c.least_stamp.ensures ∙ c.unwrap-stamp.ensures in
    closing_reported journal c.args.history.now h t c.closing_by.result first (least_is (opens c.args.journals.now.opening) c.args.journals.now.faults journal h.instance t c.are_local_runs.ensures least) c.closing_by.ensures
