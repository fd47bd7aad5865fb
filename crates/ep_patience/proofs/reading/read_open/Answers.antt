use Rattle.std.proofs.Common.{◌≡◌, ℕ, List, sym, subst}
use Rattle.ep_patience.specs.OpenBytes.{open_from, open_list}
use Rattle.ep_patience.proofs.OpenRead.{joined, one_read, tail_whole}
use Rattle.ep_patience.proofs.reading.read_open.Goals as goal

pub loop-rest-preserved : goal.loop-rest-preserved
loop-rest-preserved c =
    subst (λ (left : List ℕ). joined c.add.new.all.items (open_from c.place-last.result left) ≡ open_list c.args.bytes.now) (sym (tail_whole 10 c.loop-rest.rest.now))
    (one_read c.args.bytes.now c.loop-rest.rest.now c.loop-rest.last c.loop-rest.seen.items c.add.new.all.items c.in-Some.one c.place-last.result c.in-len10-up.len_at_least c.in-Some.ensures c.place-last.ensures.value c.in_ok-add.ensures
    c.loop-rest.invariant)
