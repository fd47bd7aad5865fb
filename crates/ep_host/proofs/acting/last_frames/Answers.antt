use Rattle.std.proofs.Common.{rules, ◌≡◌, ◌≤◌, ◌-◌, ℕ, arith, length, get_or, subst, sym}
use Rattle.ep_base.specs.Versions.{version_number}
use Rattle.ep_journal.specs.Entries.{IsJournal}
use Rattle.ep_journal.specs.declared.entry.Entry.{Entry}
use Rattle.ep_journal.specs.Openings.{opens}
use Rattle.ep_rules.specs.States.{fresh_state}
use Rattle.ep_host.specs.HostFrames.{AreHostFrames}
use Rattle.ep_host.proofs.Versioned.{entries_each}
use Rattle.ep_host.proofs.acting.last_frames.Goals as goal

pub returns-clause-version : goal.returns-clause-version
returns-clause-version c =
    let k = c.args.replica.now in
    let run : IsJournal k.version k.opening k.faults k.me k.entries = search rules in
    let known : 2 ≤ version_number k.version = search rules in
    let last : ℕ = length k.entries - 1 in
    let e : Entry = get_or k.entries last c.index-entries-entries.result in
    let is : c.as_slice.result.now ≡ e.frames = search rules in
    subst AreHostFrames (sym is) (entries_each k.version k.faults k.me (fresh_state (opens k.opening)) k.entries known run.versioned last c.index-entries-entries.result (let some = c.requires in omega (arith, some)))
