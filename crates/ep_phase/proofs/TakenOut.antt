-- What is led, taken out, changed and put back.
use Rattle.std.proofs.Common.{◌≡◌, ◌∙◌, ℕ, Option, Some, None, Result, Ok, Err, ap, refl}
use Rattle.std.specs.Prelude.{OnOk, OnErr}
use Rattle.std.specs.declared.alloc.AllocError.{AllocError}
use Rattle.ep_rules.specs.Maps.{Map, get, remove}
use Rattle.ep_rules.specs.States.{with_held, with_led}
use Rattle.ep_rules.specs.declared.led_instance.LedInstance.{LedInstance}
use Rattle.ep_space.specs.Held.{Held}
use Rattle.ep_space.proofs.Settling.{with_held-again}
use Rattle.ep_space.proofs.Twice.{with_held-after_remove}
use Rattle.ep_phase.specs.Changes.{or_as_before}

back : {X : Type 0} (m : Map X) (i : ℕ) → with_held (remove m i) i (get m i) ≡ m
back m i = with_held-after_remove m i (get m i) ∙ with_held-again m i (get m i) refl

changed : (m : Map LedInstance) (i : ℕ) (w : Option (Option LedInstance)) → with_held (remove m i) i (or_as_before (get m i) w) ≡ with_led m i w
changed m i None = back m i
changed m i (Some o) = with_held-after_remove m i o

-- the table after what is led was taken out, and put back as this makes it
module _ (w : Option LedInstance → Option (Option LedInstance)) (r : Result (Unit {0}) AllocError) (old out new : Held LedInstance) (i : ℕ) (was led : Option LedInstance)
    (is : was ≡ get old.held i) (taken : out ≡ record { held = remove old.held i; places = old.places })
    (written : new ≡ record { held = with_held out.held i led; places = out.places }) where
  pub added : OnOk r (led ≡ or_as_before was (w was)) → OnOk r (new ≡ record { held = with_led old.held i (w (get old.held i)); places = old.places })
  added = go r
    where
      go : (q : Result (Unit {0}) AllocError) → OnOk q (led ≡ or_as_before was (w was)) → OnOk q (new ≡ record { held = with_led old.held i (w (get old.held i)); places = old.places })
      go (Ok x) h =
          written
          ∙ ap (λ t. record { held = with_held t.held i led; places = t.places }) taken
          ∙ ap (λ l. record { held = with_held (remove old.held i) i l; places = old.places }) (h ∙ ap (λ o. or_as_before o (w o)) is)
          ∙ ap (λ m. record { held = m; places = old.places }) (changed old.held i (w (get old.held i)))
      go (Err e) h = tt

  pub as_it_was : OnErr r (led ≡ was) → OnErr r (new ≡ old)
  as_it_was = go r
    where
      go : (q : Result (Unit {0}) AllocError) → OnErr q (led ≡ was) → OnErr q (new ≡ old)
      go (Ok x) h = tt
      go (Err e) h =
          written
          ∙ ap (λ t. record { held = with_held t.held i led; places = t.places }) taken
          ∙ ap (λ l. record { held = with_held (remove old.held i) i l; places = old.places }) (h ∙ is)
          ∙ ap (λ m. record { held = m; places = old.places }) (back old.held i)
