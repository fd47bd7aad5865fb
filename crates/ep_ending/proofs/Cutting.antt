-- Open instances are listed to the last one, or up to one that is named.
use Rattle.std.proofs.Common.{◌≡◌, ℕ, ◌+◌, ◌≤◌, List, ◌++◌, length, Option, Some, None, Result, Ok, Err, sym, ap, ◌∙◌, append-nil}
use Rattle.std.specs.Prelude.{OnOk}
use Rattle.ep_journal.specs.Entries.{Collected}
use Rattle.ep_ending.specs.Endings.{IsOpenIn, AddsOpen}
use Rattle.ep_ending.specs.Lines.{open_lines, more_line}
use Rattle.ep_ending.proofs.Listing.{Listed}

-- those before the next one were reported, which are so many
abbrev pub Counted : Collected → Option ℕ → ℕ → List ℕ → List ℕ → Type 0
Counted c next reported old new = (these : Listed (IsOpenIn c) (open_lines c.faults) next old new) × (length these.is ≡ reported) × (reported ≤ 20)

pub cut : {T E : Type 0} (r : Result T E) (c : Collected) (n : ℕ) (old mid new : List ℕ) → Counted c (Some n) 20 old mid → OnOk r (new ≡ mid ++ more_line (Some n)) → OnOk r (AddsOpen c old new)
cut (Err e) c n old mid new h reported = tt
cut (Ok x) c n old mid new h reported =
    let was = h.0 in
    (was.is, Some n, record { rising = was.rising; these = was.these; cut = (was.too, h.1) }, reported ∙ ap (λ (t : List ℕ). t ++ more_line (Some n)) was.text)

pub whole : (c : Collected) (reported : ℕ) (old new : List ℕ) → Counted c None reported old new → AddsOpen c old new
whole c reported old new h =
    let was = h.0 in
    (was.is, None, record { rising = was.rising; these = was.these; cut = tt }, was.text ∙ sym (append-nil (old ++ open_lines c.faults was.is)))
