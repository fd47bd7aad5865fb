use Rattle.std.proofs.Common.{rules, ◌≡◌, ◌<◌, ◌++◌, List, ℕ, false, get_or, length, map, string_bytes, refl, ap, ◌∙◌}
use Rattle.ep_assemble.specs.Lines.{end_line, name_at}
use Rattle.ep_assemble.specs.declared.assembled.End.{End}
use Rattle.ep_assemble.proofs.Appending.{one_more_line}
use Rattle.ep_assemble.proofs.lines.push_torn.Goals as goal

pub loop-place-preserved : goal.loop-place-preserved
loop-place-preserved c =
    let less : c.loop-place.place < length c.args.ends.now = search rules in
    let names : List (List ℕ) = map string_bytes c.args.names.now in
    let none : End = record { whole = 0; is_torn = false } in
    let end : End = get_or c.args.ends.now c.loop-place.place none in
    let out : List ℕ = c.loop-place.out.items in
    let named : c.name_of.result.now ≡ name_at names c.loop-place.place = search rules in
    let wrote : c.push_end.new.out.items ≡ out ++ end_line c.name_of.result.now end = search rules in
    let more : c.push_end.new.out.items ≡ out ++ end_line (name_at names c.loop-place.place) end = wrote ∙ ap (λ (n : List ℕ). out ++ end_line n end) named in
    one_more_line c.loop-place.place names c.args.ends.now end none out c.push_end.new.out.items _ less refl c.loop-place.invariant more
