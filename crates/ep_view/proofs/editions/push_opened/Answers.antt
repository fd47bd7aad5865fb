use Rattle.std.proofs.Common.{◌≡◌, ◌++◌, subst}
use Rattle.std.specs.Prelude.{OnOk}
use Rattle.ep_report.specs.Contents.{contents_text}
use Rattle.ep_view.proofs.editions.push_opened.Goals as goal

pub returns : goal.returns
returns c =
    subst (λ m. OnOk c.push_contents.result (c.push_contents.new.text.items ≡ c.args.text.now.items ++ contents_text m)) c.contents.ensures.value
    c.push_contents.ensures
