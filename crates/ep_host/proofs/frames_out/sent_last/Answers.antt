use Rattle.std.proofs.Common.{rules, ◌≡◌, ◌≤◌, ◌<◌, ◌-◌, ℕ, length, get_or, subst, sym}
use Rattle.ep_base.specs.Versions.{version_number}
use Rattle.ep_journal.specs.Entries.{IsJournal}
use Rattle.ep_journal.specs.declared.entry.Entry.{Entry}
use Rattle.ep_journal.specs.Openings.{opens}
use Rattle.ep_rules.specs.States.{fresh_state}
use Rattle.ep_host.specs.HostFrames.{AreHostFrames, AreOfVersion}
use Rattle.ep_host.proofs.Copying.{copied_all, none_all}
use Rattle.ep_host.proofs.Versioned.{entries_each, entries_all}
use Rattle.ep_host.proofs.frames_out.sent_last.Goals as goal

pub copied-requires : goal.copied-requires
copied-requires c =
    let k = c.args.replica.now in
    let run : IsJournal k.version k.opening k.faults k.me k.entries = search rules in
    let known : 2 ≤ version_number k.version = search rules in
    let last : ℕ = length k.entries - 1 in
    let e : Entry = get_or k.entries last c.in-Some.entry.now in
    let is : c.as_slice.result.now ≡ e.frames = search rules in
    let low : last < length k.entries = search rules in
    subst AreHostFrames (sym is) (entries_each k.version k.faults k.me (fresh_state (opens k.opening)) k.entries known run.versioned last c.in-Some.entry.now low)

pub returns-in-Some-clause-same : goal.returns-in-Some-clause-same
returns-in-Some-clause-same c =
    let k = c.args.replica.now in
    let run : IsJournal k.version k.opening k.faults k.me k.entries = search rules in
    let last : ℕ = length k.entries - 1 in
    let e : Entry = get_or k.entries last c.in-Some.entry.now in
    let is : c.as_slice.result.now ≡ e.frames = search rules in
    let low : last < length k.entries = search rules in
    let all : AreOfVersion k.version e.frames = entries_all k.version k.faults k.me (fresh_state (opens k.opening)) k.entries run.versioned last c.in-Some.entry.now low in
    copied_all k.version c.as_slice.result.now c.copied.result.frames.items c.copied.result.lost c.copied.ensures.copied (subst (AreOfVersion k.version) (sym is) all)

pub returns-in-None-clause-same : goal.returns-in-None-clause-same
returns-in-None-clause-same c = none_all c.args.replica.now.version c.nothing.result.frames.items c.nothing.ensures.frames
