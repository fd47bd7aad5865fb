use Rattle.std.proofs.Common.{◌≡◌, ◌↔◌, ◌<◌, ◌++◌, List, [], ◌∷◌, Option, Some, None, IsSome, option_to_list, length, true≢false, sym, rules, arith}
use Rattle.ep_rules.specs.OneMap.{Contents}
use Rattle.ep_exec.specs.Table.{Entry, over}
use Rattle.ep_exec.proofs.Mixed.{popped}
use Rattle.ep_exec.proofs.changes.put_over.Goals as goal

-- where no change is taken, none is left
none_left : (m tree : Contents) (all rest : List Entry) (o : Option Entry) → o ≡ None → all ≡ rest ++ option_to_list o → IsSome o ↔ (0 < length all) → over tree all ≡ m → tree ≡ m
none_left m tree [] rest o none is found h = h
none_left m tree (e ∷ all) rest None none is found h = absurd (true≢false (sym (found.1 (omega arith))))
none_left m tree (e ∷ all) rest (Some d) none is found h = absurd (cc)

pub loop-key-preserved : goal.loop-key-preserved
loop-key-preserved c = λ m.
    popped (over (over m c.args.older.entries) c.args.newer.entries) (over m c.put.new.changes.entries) (over m c.loop-key.all.entries) c.loop-key.newer.entries c.pop.new.self.entries (c.in-Some.key, c.in-Some.value)
    c.in-Some.ensures.entries (c.in_ok-put.ensures m) (c.loop-key.invariant m)

pub returns : goal.returns
returns c = λ m.
    let none : c.pop.result ≡ None = search rules in
    none_left (over (over m c.args.older.entries) c.args.newer.entries) (over m c.loop-key.all.entries) c.loop-key.newer.entries c.pop.new.self.entries c.pop.result none c.pop.ensures.entries c.pop.ensures.found (c.loop-key.invariant m)
