use Rattle.std.proofs.Common.{rules, arith, ◌≡◌, ◌≢◌, true, false, sym, ◌∙◌, ◌<◌, ◌≤◌, [], length}
use Rattle.ep_script.specs.RawLines.{longest}
use Rattle.ep_script.proofs.LineLemmas.{is_run, run_fed, run_more}
use Rattle.ep_script.proofs.window.Window.take_run.Goals as goal

differ : false ≡ true → ⊥
differ e = cc e

pub returns-then-len-gt-LONGEST : goal.returns-then-len-gt-LONGEST
returns-then-len-gt-LONGEST c =
    let len : c.len.result ≡ length c.args.line.now.items = grind (rules, c.len.ensures) in
    let run =
    is_run c.args.self.now c.bytes.result.now c.bytes-2.result.now c.run_length-count.result c.len.result c.args.line.now.items c.extend_from_slice.new.self.items c.skip.new.self
    c.bytes.ensures c.bytes-2.ensures len c.run_length-count.ensures.value c.run_length-count.ensures.bound c.requires.short c.requires.some c.in_ok-extend_from_slice.ensures.items c.skip.ensures in
    let long : longest < length c.extend_from_slice.new.self.items = grind (rules, arith, c.len-2.ensures, c.if-len-gt-LONGEST.true) in
    run_more c.args.self.now c.run_length-count.result c.args.line.now.items c.extend_from_slice.new.self.items c.skip.new.self run (λ s _. omega (arith, long, s))

pub returns-then-is_empty : goal.returns-then-is_empty
returns-then-is_empty c =
    let len : c.len.result ≡ length c.args.line.now.items = grind (rules, c.len.ensures) in
    let run =
    is_run c.args.self.now c.bytes.result.now c.bytes-2.result.now c.run_length-count.result c.len.result c.args.line.now.items c.extend_from_slice.new.self.items c.skip.new.self
    c.bytes.ensures c.bytes-2.ensures len c.run_length-count.ensures.value c.run_length-count.ensures.bound c.requires.short c.requires.some c.in_ok-extend_from_slice.ensures.items c.skip.ensures in
    let none : c.skip.new.self ≡ [] = c.is_empty.ensures.0 c.if-is_empty.true in
    run_more c.args.self.now c.run_length-count.result c.args.line.now.items c.extend_from_slice.new.self.items c.skip.new.self run (λ _ some. some none)

pub returns : goal.returns
returns c =
    let len : c.len.result ≡ length c.args.line.now.items = grind (rules, c.len.ensures) in
    let run =
    is_run c.args.self.now c.bytes.result.now c.bytes-2.result.now c.run_length-count.result c.len.result c.args.line.now.items c.extend_from_slice.new.self.items c.skip.new.self
    c.bytes.ensures c.bytes-2.ensures len c.run_length-count.ensures.value c.run_length-count.ensures.bound c.requires.short c.requires.some c.in_ok-extend_from_slice.ensures.items c.skip.ensures in
    let short : length c.extend_from_slice.new.self.items ≤ longest = grind (rules, arith, c.len-2.ensures, c.if-len-gt-LONGEST.false) in
    let some : c.skip.new.self ≢ [] = λ e. differ (sym c.if-is_empty.false ∙ c.is_empty.ensures.1 e) in
    run_fed c.args.self.now c.run_length-count.result c.args.line.now.items c.extend_from_slice.new.self.items c.skip.new.self c.skip-2.new.self run short some c.skip-2.ensures
