-- A script's head and the replicas that it names are of one version, with one opening.
use Rattle.std.proofs.Common.{◌≡◌, ℕ, Result, Ok, Err, IfOk, sym, ◌∙◌}
use Rattle.ep_base.specs.declared.version.Version.{Version}
use Rattle.ep_journal.specs.Openings as journal
use Rattle.ep_replay.specs.Heads.{opening_of}
use Rattle.ep_script.specs.Heads as script
use Rattle.ep_run.specs.Locks.{HasBegun}

pub starts_so :
    (s : Version × journal.Opening) (h : script.Head) (b : journal.Beginning) → s ≡ (h.version, opening_of h.opening)
    → b.version ≡ h.version → b.opening ≡ opening_of h.opening → s ≡ (b.version, b.opening)
starts_so s h b start version opening = start ∙ (λ t. (sym version t, sym opening t))

pub locks_begun :
    {T E : Type 0} (r : Result T E) (cluster : T → ℕ) (version : T → Version) (opening : T → journal.Opening)
    (h : script.Head) (f : ℕ) (b : journal.Beginning) → f ≡ h.faults → b.version ≡ h.version → b.opening ≡ opening_of h.opening
    → IfOk r (λ x. cluster x ≡ f) → IfOk r (λ x. version x ≡ b.version) → IfOk r (λ x. opening x ≡ b.opening)
    → IfOk r (λ x. HasBegun h (cluster x) (version x) (opening x))
locks_begun (Ok x) cluster version opening h f b d e i is of opens =
    record { cluster_is = is ∙ d; version_is = of ∙ e; opening_is = opens ∙ i }
locks_begun (Err x) cluster version opening h f b d e i is of opens = tt
