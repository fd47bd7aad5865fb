use Rattle.std.proofs.Common.{subst}
use Rattle.ep_bundle.specs.declared.bundle_fault.BundleFault.TheVariants.{BadBundle, NotARun}
use Rattle.ep_main.proofs.Linked.{refusal}
use Rattle.ep_main.specs.ChainLines.{IsUnreadLate}
use Rattle.ep_main.proofs.chain_files.no_link.Goals as goal

pub returns-in-BadBundle : goal.returns-in-BadBundle
returns-in-BadBundle c =
    λ zs found. refusal c.args.name.now zs (BadBundle c.in-BadBundle.field) _ tt (subst (IsUnreadLate zs) c.in-BadBundle.is found) c.placed.ensures

pub returns-in-NotARun : goal.returns-in-NotARun
returns-in-NotARun c =
    λ zs found. refusal c.args.name.now zs (NotARun c.in-NotARun.replica c.in-NotARun.entry) _ tt (subst (IsUnreadLate zs) c.in-NotARun.is found) c.placed-in-NotARun.ensures
