-- The next entries of journals, of which some are done.
use Rattle.std.specs.Prelude.{◌≡◌, ◌<◌, ℕ, zero, suc, Bool, true, false, ◌||◌, length, ltb, cond, drop, List, [], ◌∷◌, Option, Some, None, filter, slice_index_or as get_or}
use Rattle.ep_base.specs.declared.reply.Answer.{Answer}
use Rattle.ep_journal.specs.declared.entry.Entry.{Entry as Written}
use Rattle.ep_rules.specs.Journals.{Entry, Journals, Scheduled}
use Rattle.ep_audit.specs.declared.entry_place.EntryPlace.{EntryPlace}

-- A merge takes all entries, or those alone that execute something.

abbrev pub executes : List (ℕ × Answer) → Bool
executes [] = false
executes (d ∷ ds) = true

-- whether it takes an entry with these executions
abbrev pub takes : Bool → List (ℕ × Answer) → Bool
takes all ds = all || executes ds

-- the entries that it takes
abbrev pub taken : Bool → List Entry → List Entry
taken all es = filter (λ e. takes all e.done) es

abbrev pub all_taken : Bool → Journals → Journals
all_taken all journal r = taken all (journal r)

-- what it takes of a schedule
abbrev pub taken_of : Bool → List Scheduled → List Scheduled
taken_of all schedule = filter (λ a. takes all a.entry.done) schedule

-- the first entry that it takes
abbrev pub first_taken : Bool → List Written → Option Written
first_taken all [] = None
first_taken all (e ∷ es) = cond (takes all e.done) (Some e) (first_taken all es)

-- Turns.

-- the first of the entries of r
abbrev pub first_turn : ℕ → List Entry → Option EntryPlace
first_turn r [] = None
first_turn r (e ∷ es) = Some (record { replica = r; number = e.number; stamp = e.stamp })

-- the earlier one; the first one where both have the same stamp
abbrev pub earlier : Option EntryPlace → Option EntryPlace → Option EntryPlace
earlier None b = b
earlier (Some a) None = Some a
earlier (Some a) (Some b) = cond (ltb b.stamp a.stamp) (Some b) (Some a)

-- the least first entry of the replicas below n, by stamp and replica
abbrev pub least_turn : ℕ → Journals → Option EntryPlace
least_turn zero journal = None
least_turn (suc n) journal = earlier (least_turn n journal) (first_turn n (journal n))

-- what is left to take where r has done so many
abbrev pub rests : Bool → Journals → List ℕ → Journals
rests all journal done r = taken all (drop (get_or done r 0) (journal r))

-- the least of the first n of these
abbrev pub least_of : ℕ → List (Option EntryPlace) → Option EntryPlace
least_of zero turns = None
least_of (suc n) turns = earlier (least_of n turns) (get_or turns n None)

-- these are the first entries of n journals
abbrev pub AreFirst : ℕ → Journals → List (Option EntryPlace) → Type 0
AreFirst n journal turns = (length turns ≡ n) × ((r : ℕ) → r < n → get_or turns r None ≡ first_turn r (journal r))
