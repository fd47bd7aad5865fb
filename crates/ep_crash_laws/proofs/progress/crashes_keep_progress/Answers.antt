use Rattle.ep_crash_laws.proofs.Coming.{crashes_keep_progress_lem}
use Rattle.ep_crash_laws.proofs.progress.crashes_keep_progress.Goals as goal

pub returns : goal.returns
returns c = crashes_keep_progress_lem
