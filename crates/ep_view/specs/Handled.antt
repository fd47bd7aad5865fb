-- Which frames are handled.
use Rattle.std.specs.Prelude.{◌≡◌, ℕ, zero, suc, Bool, false, ◌||◌, List, [], ◌∷◌, Vec}
use Rattle.std.specs.Global.{Global}
use Rattle.std.specs.List.{list_any}
use Rattle.ep_base.specs.Attributes.{same_list}
use Rattle.ep_base.specs.Quorums.{size}
use Rattle.ep_journal.specs.Entries.{Collected, entries_at}
use Rattle.ep_journal.specs.declared.entry.Entry.{Entry}
use Rattle.ep_journal.specs.declared.event.Event.{Event}
use Rattle.ep_journal.specs.declared.event.Event.TheVariants.{Propose, Handle, GiveUp, Recover, Execute}
use Rattle.ep_view.specs.declared.handled.Handled.{Handled}

-- the event handles the frame of these bytes
abbrev pub handles : List ℕ → Event → Bool
handles b (Propose client request command seen spared) = false
handles b (Handle other) = same_list b other
handles b (GiveUp i) = false
handles b (Recover i) = false
handles b (Execute i) = false

-- one of the entries does
abbrev pub handled_in : List ℕ → List Entry → Bool
handled_in b [] = false
handled_in b (e ∷ es) = handles b e.event || handled_in b es

-- some entry of a replica below n does
abbrev pub handled_below : Collected → ℕ → List ℕ → Bool
handled_below c zero b = false
handled_below c (suc n) b = handled_in b (entries_at c n) || handled_below c n b

-- some entry of some replica handles the frame of these bytes
abbrev pub is_handled : Collected → List ℕ → Bool
is_handled c b = handled_below c (size c.faults) b

-- the set has these bytes
abbrev pub has_bytes : List (Vec ℕ Global) → List ℕ → Bool
has_bytes ks b = list_any (λ k. same_list b k.items) ks

abbrev pub is_in : Handled → List ℕ → Bool
is_in h b = has_bytes h.frames.keys b

-- the set has the frames that are handled, and no others
abbrev pub AreHandled : Collected → Handled → Type 0
AreHandled c h = (b : List ℕ) → is_in h b ≡ is_handled c b
