use Rattle.std.proofs.Common.{◌≡◌, ◌<◌, ℕ, length, ap, subst, ◌∙◌, arith}
use Rattle.ep_host.specs.Turns.{AssignsAt}
use Rattle.ep_host.specs.declared.task.Task.{Task}
use Rattle.ep_run.specs.Asking.{asked_of}
use Rattle.ep_run.specs.Lines.{replica_of}
use Rattle.ep_run.proofs.Running.{asks_replica, fits_replica, assigned_at}
use Rattle.ep_run.proofs.ring_run.assign_line.Goals as goal

pub assign-requires : goal.assign-requires
assign-requires c =
    let k = c.requires.counted in
    let line = c.args.line.now in
    let same = c.in_ok-replica.ensures.asked k.0 k.1 k.2 in
    let at : c.in_ok-replica.replica ≡ replica_of line = ap (λ (p : ℕ × Task). p.0) same ∙ asks_replica k.0 k.1 line in
    let low : replica_of line < length c.args.nodes.now = fits_replica (length c.args.nodes.now) line c.requires.fits in
    omega (arith, c.index.ensures.value, at, low)

pub returns-clause-assigned : goal.returns-clause-assigned
returns-clause-assigned c = λ ps ts n are.
    let line = c.args.line.now in
    let same = c.in_ok-replica.ensures.asked ps ts are in
    let at : c.index.result ≡ (asked_of ps ts line).0 = c.index.ensures.value ∙ ap (λ (p : ℕ × Task). p.0) same in
    let low : replica_of line < length c.args.nodes.now = fits_replica (length c.args.nodes.now) line c.requires.fits in
    let here : AssignsAt (asked_of ps ts line).0 (asked_of ps ts line).1 c.args.nodes.now c.assign.new.nodes =
    subst (λ (p : ℕ × Task). AssignsAt p.0 p.1 c.args.nodes.now c.assign.new.nodes) same (subst (λ (i : ℕ). AssignsAt i c.in_ok-replica.task c.args.nodes.now c.assign.new.nodes) c.index.ensures.value c.in_ok-assign.ensures.ok) in
    assigned_at (n, asked_of ps ts line) c.args.nodes.now c.assign.new.nodes (let is = asks_replica ps ts line in omega (arith, is, low)) here
