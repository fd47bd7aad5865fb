-- What crashes leave is a world that a run reaches.
use Rattle.std.proofs.Common.{◌≡◌, ℕ, ◌+◌, ◌<◌, ◌≤◌, Bool, true, sym, subst, []}
use Rattle.ep_node.specs.Crashes.{Start, IsOneRun, fresh_cluster, cluster_after}
use Rattle.ep_node.proofs.CrashRuns.{crashing_runs_are_runs_lem}
use Rattle.ep_laws.specs.Alone.{silenced, HasRoom, Ending}
use Rattle.ep_laws.proofs.Ending.{ending}
use Rattle.ep_laws.proofs.Sound.{run_sound, opening_sound, silenced_sound}
use Rattle.ep_rules.specs.Journals.{acts_of}
use Rattle.ep_rules.specs.OneMap.{opened}
use Rattle.ep_rules.specs.Worlds.{World, opening, ends}
use Rattle.ep_crash_laws.specs.CrashProgress.{world_of, CrashesKeepProgress}

pub crashes_keep_progress_lem : CrashesKeepProgress
crashes_keep_progress_lem start f two few moves are live enough q q_low q_live i lead room =
    let one : IsOneRun start f (cluster_after fresh_cluster moves) = crashing_runs_are_runs_lem start f two few moves are in
    let w : World = ends f (opening (opened start.map)) (acts_of one.schedule) in
    let e : silenced w ≡ world_of start f (cluster_after fresh_cluster moves) = (λ j. record { states = (λ r. one.states r j); sent = [] }) in
    subst (λ (v : World). Ending f live q i v) e
    (ending f two few live enough q q_low q_live i lead (silenced w) (silenced_sound f w (run_sound f few (acts_of one.schedule) (opening (opened start.map)) one.run (opening_sound f (opened start.map))))
    (subst (λ (v : World). HasRoom f live v i) (sym e) room))
