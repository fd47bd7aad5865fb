use Rattle.std.proofs.Common.{length}
use Rattle.ep_script.proofs.Powers.{digits_fit}
use Rattle.ep_script.proofs.numbers.digits.Goals as goal

pub with_digit-value-requires-clause-small : goal.with_digit-value-requires-clause-small
with_digit-value-requires-clause-small c = digits_fit c.loop-digit.digit-index (length c.args.word.now) c.loop-digit.value c.loop-digit-test.true c.loop-digit.invariant.short c.loop-digit.invariant.small
