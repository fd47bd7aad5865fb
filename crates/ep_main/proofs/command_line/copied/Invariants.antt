use Rattle.std.proofs.Common.{◌≡◌, map, string_bytes, take}
use Rattle.clap.specs.Walk.{texts}
use Rattle.ep_main.proofs.command_line.copied.Given as goal

abbrev pub invariant-loop-word : goal.invariant-loop-word
invariant-loop-word l = map string_bytes l.copy.items ≡ texts (take l.word-index l.words)
