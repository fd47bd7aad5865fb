use Rattle.std.proofs.Common.{◌≡◌, ◌<◌, ◌≤◌, ◌∙◌, List, option_copied, slice_get, subst, ap}
use Rattle.ep_base.specs.Quorums.{size}
use Rattle.ep_replica.specs.Kept.{Kept}
use Rattle.ep_world.specs.Played.{Played, replica_in}
use Rattle.ep_world.proofs.Kept.{if_copied, none_copied, no_replica, this_replica}
use Rattle.ep_world.proofs.world.World.replica.Goals as goal

pub returns-clause-some : goal.returns-clause-some
returns-clause-some c =
    let r = c.args.replica in
    let ks = c.self.inside.replicas.items in
    let value : option_copied c.find.result ≡ slice_get ks r = c.find.ensures ∙ ap (λ (xs : List Kept). slice_get xs r) c.as_slice.ensures.value in
    if_copied (λ (k : Kept). (r < size c.args.self.now.faults) × (k ≡ replica_in c.args.self.now r)) c.find.result (slice_get ks r) value
    (λ k is. subst (λ (w : Played). (r < size w.faults) × (k ≡ replica_in w r)) c.self.view_is (this_replica c.self.inside.size r ks c.self.inside.notes.steps.items c.self.inside.notes.messages.items k c.self.invariant.0 is))

pub returns-clause-none : goal.returns-clause-none
returns-clause-none c = λ none.
    let r = c.args.replica in
    let ks = c.self.inside.replicas.items in
    let value : option_copied c.find.result ≡ slice_get ks r = c.find.ensures ∙ ap (λ (xs : List Kept). slice_get xs r) c.as_slice.ensures.value in
    subst (λ (w : Played). size w.faults ≤ r) c.self.view_is (no_replica c.self.inside.size r ks c.self.invariant.0 (none_copied c.find.result (slice_get ks r) value none))
