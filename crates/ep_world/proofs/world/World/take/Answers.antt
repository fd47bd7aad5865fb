use Rattle.std.proofs.Common.{◌≡◌, Some, subst, sym}
use Rattle.ep_world.specs.Played.{Played}
use Rattle.ep_world.specs.Playing.{asked}
use Rattle.ep_world.specs.Replicas.{world_of, IsUntaken}
use Rattle.ep_world.specs.Safe.{Keeps}
use Rattle.ep_world.specs.declared.world_event.WorldEvent.{WorldEvent}
use Rattle.ep_world.proofs.Kept.{same_world}
use Rattle.ep_world.proofs.Laws.{keeps_took, keeps_same}
use Rattle.ep_world.proofs.Taken.{step_world, not_enabled}
use Rattle.ep_world.proofs.world.World.take.Goals as goal
use Rattle.ep_world.proofs.world.World.take.Goals.{in-Ok, in-Err}

pub invariant_of-self : goal.invariant_of-self
invariant_of-self c =
    let f = c.self.inside.size in
    let ks = c.self.inside.replicas.items in
    let steps = c.self.inside.notes.steps.items in
    let messages = c.self.inside.notes.messages.items in
    let w : Played = world_of f ks steps messages in
    let w' : Played = world_of f c.advance.new.replicas.items c.advance.new.notes.steps.items c.advance.new.notes.messages.items in
    let r = c.args.replica in
    let taken = c.args.taken in
    let event : WorldEvent = c.requires.0 in
    let is : asked w event ≡ Some (r, taken) = subst (λ (v : Played). asked v event ≡ Some (r, taken)) (sym c.self.view_is) c.requires.1 in (
      c.advance.ensures.replicas,
      elim c.match-advance.branch [
        | in-Ok b ↦ step_world w w' event r taken c.self.invariant.1 is b.in-Ok.ensures.ok
        | in-Err b ↦ same_world f ks c.advance.new.replicas.items steps c.advance.new.notes.steps.items messages c.advance.new.notes.messages.items b.in-Err.ensures.err c.self.invariant.1
      ],
    )

pub returns-clause-refused : goal.returns-clause-refused
returns-clause-refused c =
    let w = c.args.self.now in
    let r = c.args.replica in
    let taken = c.args.taken in
    elim c.match-advance.branch [
      | in-Ok b ↦ rw b.result-is tt
      | in-Err b ↦ rw b.result-is (λ (event : WorldEvent) is. not_enabled w event r taken b.in-Err.fault is (subst (λ (v : Played). IsUntaken v r taken b.in-Err.fault) c.self.view_is b.in-Err.ensures.refused))
    ]

pub returns-clause-permanence : goal.returns-clause-permanence
returns-clause-permanence c =
    let f = c.self.inside.size in
    let ks = c.self.inside.replicas.items in
    let steps = c.self.inside.notes.steps.items in
    let messages = c.self.inside.notes.messages.items in
    let w : Played = world_of f ks steps messages in
    let w' : Played = world_of f c.advance.new.replicas.items c.advance.new.notes.steps.items c.advance.new.notes.messages.items in
    let r = c.args.replica in
    let taken = c.args.taken in
    let event : WorldEvent = c.requires.0 in
    let is : asked w event ≡ Some (r, taken) = subst (λ (v : Played). asked v event ≡ Some (r, taken)) (sym c.self.view_is) c.requires.1 in
    let kept : Keeps w w' = elim c.match-advance.branch [
      | in-Ok b ↦ keeps_took w w' event r taken is b.in-Ok.ensures.ok
      | in-Err b ↦ keeps_same f ks c.advance.new.replicas.items steps c.advance.new.notes.steps.items messages c.advance.new.notes.messages.items b.in-Err.ensures.err
    ] in
    subst (λ (v : Played). Keeps v w') c.self.view_is kept
