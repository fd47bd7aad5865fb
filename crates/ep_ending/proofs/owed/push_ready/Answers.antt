use Rattle.std.proofs.Common.{◌≡◌, ◌++◌, ℕ, None, subst}
use Rattle.std.specs.Prelude.{OnOk}
use Rattle.ep_ending.specs.Lines.{owed_line}
use Rattle.ep_ending.proofs.owed.push_ready.Goals as goal

pub returns : goal.returns
returns c =
    subst (λ (n : ℕ). OnOk c.push_parts.result (c.push_parts.new.text.items ≡ c.args.text.now.items ++ owed_line n c.args.instance None)) c.index.ensures.value c.push_parts.ensures
