-- Messages that nobody handles change nothing: a run of a world without them is one of the world with them.
use Rattle.std.proofs.Common.{◌≡◌, ℕ, cond, eqb, List, [], ◌∷◌, ◌++◌, refl, sym, ap, subst, inl, inr}
use Rattle.ep_rules.specs.Steps.{Sent, Event, Propose, Handle, GiveUp, Recover, Execute, IsStep, leaves, sends}
use Rattle.ep_rules.specs.States.{State}
use Rattle.ep_rules.specs.Worlds.{World, In, Act, IsThere, Happens, moved, IsRun, ends}
use Rattle.ep_laws.specs.Alone.{silenced, AloneIsRun}
use Rattle.ep_laws.proofs.Sound.{in_left, in_right}

-- w has all that v has
record Wider (v w : World) : Type 0 where
  same : (r : ℕ) → w.states r ≡ v.states r
  more : (s : Sent) → In s v.sent → In s w.sent

there_too : (v w : World) → Wider v w → (e : Event) → IsThere v.sent e → IsThere w.sent e
there_too v w k (Propose client request c seen spared) t = tt
there_too v w k (Handle m) t = k.more m.sent t
there_too v w k (GiveUp i) t = tt
there_too v w k (Recover i) t = tt
there_too v w k (Execute root) t = tt

module _ (f : ℕ) where
  happens_too : (v w : World) → Wider v w → (a : Act) → Happens f v a → Happens f w a
  happens_too v w k a h = record {
    replica = h.replica;
    step = subst (λ s. IsStep f a.replica s a.event a.done) (sym (k.same a.replica)) h.step;
    there = there_too v w k a.event h.there;
  }

  in_append : (s : Sent) (xs ys zs us : List Sent) → ((r : Sent) → In r xs → In r zs) → ys ≡ us → In s (xs ++ ys) → In s (zs ++ us)
  in_append s [] ys zs us h e there = in_right s zs us (subst (λ l. In s l) e there)
  in_append s (x ∷ xs) ys zs us h e (inl is) = in_left s zs us (h s (inl is))
  in_append s (x ∷ xs) ys zs us h e (inr there) = in_append s xs ys zs us (λ r t. h r (inr t)) e there

  moved_too : (v w : World) → Wider v w → (a : Act) → Wider (moved f v a) (moved f w a)
  moved_too v w k a = record {
    same = λ r. ap (λ (s : State). cond (eqb a.replica r) (leaves f r s a.event a.done) s) (k.same r);
    more = λ s there. in_append s v.sent (sends f a.replica (v.states a.replica) a.event) w.sent (sends f a.replica (w.states a.replica) a.event) k.more (sym (ap (λ (s : State). sends f a.replica s a.event) (k.same a.replica))) there;
  }

  run_too : (acts : List Act) (v w : World) → Wider v w → IsRun f v acts → IsRun f w acts
  run_too [] v w k run = tt
  run_too (a ∷ acts) v w k run = (happens_too v w k a run.0, run_too acts (moved f v a) (moved f w a) (moved_too v w k a) run.1)

  ends_too : (acts : List Act) (v w : World) → Wider v w → Wider (ends f v acts) (ends f w acts)
  ends_too [] v w k = k
  ends_too (a ∷ acts) v w k = ends_too acts (moved f v a) (moved f w a) (moved_too v w k a)

pub same_run : AloneIsRun
same_run f w acts run =
    let k : Wider (silenced w) w = record { same = λ r. refl; more = λ s there. absurd there } in
    record { run = run_too f acts (silenced w) w k run; same = (ends_too f acts (silenced w) w k).same }
