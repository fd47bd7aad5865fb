-- Which entries of journals are asked for.
use Rattle.std.specs.Prelude.{ℕ, Bool, true, false, ◌||◌, ◌&&◌, cond, eqb, nat_le, List, [], ◌∷◌, Option, Some, None}
use Rattle.ep_base.specs.declared.reply.Answer.{Answer}
use Rattle.ep_frame.specs.Meaning.{instance_at}
use Rattle.ep_journal.specs.declared.entry.Entry.{Entry}
use Rattle.ep_journal.specs.declared.event.Event.{Event}
use Rattle.ep_journal.specs.declared.event.Event.TheVariants.{Propose, Handle, GiveUp, Recover, Execute}
use Rattle.ep_view.specs.declared.selection.Selection.{Selection}

-- the instance is one of these
abbrev pub is_one_of : List ℕ → ℕ → Bool
is_one_of [] j = false
is_one_of (i ∷ is) j = cond (eqb i j) true (is_one_of is j)

-- the event names one of the instances; a proposal names none, but what it sends does
abbrev pub names : List ℕ → Event → Bool
names is (Propose client request command seen spared) = false
names is (Handle b) = is_one_of is (instance_at b)
names is (GiveUp j) = is_one_of is j
names is (Recover j) = is_one_of is j
names is (Execute j) = is_one_of is j

-- some frame is about one of the instances
abbrev pub sends_of : List ℕ → List (List ℕ) → Bool
sends_of is [] = false
sends_of is (b ∷ bs) = cond (is_one_of is (instance_at b)) true (sends_of is bs)

-- one of the instances is executed
abbrev pub executes : List ℕ → List (ℕ × Answer) → Bool
executes is [] = false
executes is (d ∷ ds) = cond (is_one_of is d.0) true (executes is ds)

-- the entry's event names one of the instances, or it sends a frame about one, or executes one
abbrev pub is_about : List ℕ → Entry → Bool
is_about is e = names is e.event || (sends_of is e.frames || executes is e.done)

-- any entry, or one about this instance
abbrev pub is_of_instance : Option ℕ → Entry → Bool
is_of_instance None e = true
is_of_instance (Some i) e = is_about (i ∷ []) e

-- any entry, or one about one of these instances
abbrev pub is_of_some : Option (List ℕ) → Entry → Bool
is_of_some None e = true
is_of_some (Some is) e = is_about is e

-- any replica, or this one
abbrev pub is_of_replica : Option ℕ → ℕ → Bool
is_of_replica None r = true
is_of_replica (Some q) r = eqb r q

-- the entry of replica r is asked for: it is that replica's, its stamp is in the range, both ends included, and it is about the instance, and
-- about one of the instances
abbrev pub keeps : Selection → ℕ → Entry → Bool
keeps part r e = is_of_replica part.replica r && (nat_le part.from e.stamp && (nat_le e.stamp part.to && (is_of_instance part.instance e && is_of_some part.about e)))
