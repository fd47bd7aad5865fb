use Rattle.std.proofs.Common.{rules, ◌≡◌, None, slice_get, sym}
use Rattle.ep_assemble.proofs.MapsOfLogs.{empty_shown, memory_alone, none_there, read_shown}
use Rattle.ep_assemble.proofs.showing.show_log.Goals as goal

pub returns-in_default-clause-ok : goal.returns-in_default-clause-ok
returns-in_default-clause-ok c =
    let gone : slice_get c.args.log.now 0 ≡ None = search rules in
    empty_shown c.args.file.now c.args.digest c.args.log.now c.show_file.result (none_there c.args.log.now gone) c.show_file.ensures.ok

pub returns-in-Ok-clause-ok : goal.returns-in-Ok-clause-ok
returns-in-Ok-clause-ok c =
    read_shown c.args.file.now c.args.digest c.args.log.now _ c.generation.result c.in_ok-origin.origin c.in-Ok.read.version c.in-Ok.read.journal c.in-Ok.read.whole c.in-Ok.read.behind c.show_read.result (sym c.in-Some.ensures.value)
    c.in_ok-origin.ensures c.generation.ensures c.in-Ok.ensures.ok c.show_read.ensures.text c.show_read.ensures.end

pub returns-in-Ok-clause-err : goal.returns-in-Ok-clause-err
returns-in-Ok-clause-err c = memory_alone c.args.file.now c.args.digest c.args.log.now c.show_read.result c.show_read.ensures.err
