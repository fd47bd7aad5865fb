use Rattle.std.proofs.Common.{List, ℕ, Some, ap, ◌∙◌}
use Rattle.ep_opening.proofs.Digests.{last_bytes, last_of_name, too_few, too_few_of_name}
use Rattle.ep_opening.proofs.digest.digest_in.Goals as goal

pub returns-then-bytes-lt-DIGEST_LEN-clause-file : goal.returns-then-bytes-lt-DIGEST_LEN-clause-file
returns-then-bytes-lt-DIGEST_LEN-clause-file c = λ f is. too_few c.args.bytes.now f c.if-bytes-lt-DIGEST_LEN.true is

pub returns-then-bytes-lt-DIGEST_LEN-clause-reference : goal.returns-then-bytes-lt-DIGEST_LEN-clause-reference
returns-then-bytes-lt-DIGEST_LEN-clause-reference c = λ r is. too_few_of_name c.args.bytes.now r c.if-bytes-lt-DIGEST_LEN.true is

pub returns-clause-file : goal.returns-clause-file
returns-clause-file c = λ f is. ap (λ (xs : List ℕ). Some xs) (c.copy_from_slice.ensures.after ∙ last_bytes c.args.bytes.now f is)

pub returns-clause-reference : goal.returns-clause-reference
returns-clause-reference c = λ r is. ap (λ (xs : List ℕ). Some xs) (c.copy_from_slice.ensures.after ∙ last_of_name c.args.bytes.now r is)
