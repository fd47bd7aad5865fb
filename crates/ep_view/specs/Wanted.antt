-- What is asked for of journals, where some of it is reported by what was proposed.
use Rattle.std.specs.Prelude.{ℕ, zero, suc, Bool, true, false, ◌&&◌, cond, eqb, List, [], ◌∷◌, Option, Some, None}
use Rattle.ep_base.specs.Deps.{union}
use Rattle.ep_base.specs.Interference.{has_key, keys_of}
use Rattle.ep_base.specs.Quorums.{size}
use Rattle.ep_base.specs.Commands.{Command}
use Rattle.ep_frame.specs.Meaning.{instance_at}
use Rattle.ep_journal.specs.Entries.{Collected, entries_at}
use Rattle.ep_journal.specs.declared.entry.Entry.{Entry}
use Rattle.ep_journal.specs.declared.event.Event.{Event}
use Rattle.ep_journal.specs.declared.event.Event.TheVariants.{Propose, Handle, GiveUp, Recover, Execute}
use Rattle.ep_view.specs.declared.selection.Selection.{Selection}
use Rattle.ep_view.specs.declared.wanted.Wanted.{Wanted}

-- any client, or this one
abbrev pub is_of_client : Option ℕ → ℕ → Bool
is_of_client None client = true
is_of_client (Some other) client = eqb client other

-- any command, or one that names this key
abbrev pub is_on_key : Option (List ℕ) → Command → Bool
is_on_key None command = true
is_on_key (Some key) command = has_key key (keys_of command)

-- the event is a proposal of that client, of a command on that key
abbrev pub is_wanted : Option (List ℕ) → Option ℕ → Event → Bool
is_wanted key client (Propose c request command seen spared) = is_of_client client c && is_on_key key command
is_wanted key client (Handle b) = false
is_wanted key client (GiveUp i) = false
is_wanted key client (Recover i) = false
is_wanted key client (Execute i) = false

-- the instances is, and the one that a proposal took: what it sends is about it
abbrev pub with_taken : List (List ℕ) → List ℕ → List ℕ
with_taken [] is = is
with_taken (b ∷ bs) is = union (instance_at b ∷ []) is

module _ (key : Option (List ℕ)) (client : Option ℕ) where
  -- the instances is, and those that the wanted proposals of these entries took
  abbrev pub with_entries : List Entry → List ℕ → List ℕ
  with_entries [] is = is
  with_entries (e ∷ es) is = with_entries es (cond (is_wanted key client e.event) (with_taken e.frames is) is)

  -- the instances that the wanted proposals took, of the replicas below n
  abbrev pub taken_below : Collected → ℕ → List ℕ
  taken_below c zero = []
  taken_below c (suc n) = with_entries (entries_at c n) (taken_below c n)

-- those that the wanted proposals of all replicas took, where a key or a client is given
abbrev pub about_of : Collected → Option (List ℕ) → Option ℕ → Option (List ℕ)
about_of c None None = None
about_of c None (Some client) = Some (taken_below None (Some client) c (size c.faults))
about_of c (Some key) client = Some (taken_below (Some key) client c (size c.faults))

-- the part that has what is wanted: what is about an instance that a wanted proposal took
abbrev pub part_of : Collected → Wanted → Selection
part_of c w = record { instance = w.instance; about = about_of c w.key w.client; replica = w.replica; from = w.from; to = w.to }
