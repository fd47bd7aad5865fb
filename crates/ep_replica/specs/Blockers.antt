-- What a replica remembers of its own instances that it hasn't executed yet: which are due to be tried, and what blocks the others.
use Rattle.std.specs.Prelude.{◌≡◌, ◌≢◌, ◌⊎◌, ◌≤◌, ℕ, Bool, true, false, List, Option, Some, None, IfSome, IsSome, slice_index_or as get_or}
use Rattle.ep_base.specs.Instances.{instance_of, highest_number}
use Rattle.ep_base.specs.Messages.{instance_of_message}
use Rattle.ep_base.specs.Places.{Has}
use Rattle.ep_base.specs.declared.decree.Decree.{Decree}
use Rattle.ep_rules.specs.Graph.{Reaches}
use Rattle.ep_rules.specs.States.{committed_in, graph_in}
use Rattle.ep_rules.specs.Steps.{Event, Propose, Handle, GiveUp, Recover, Execute}
use Rattle.ep_replica.specs.Kept.{Kept}
use Rattle.ep_replica.specs.Pending.{state_of, IsPending}
use Rattle.ep_space.specs.Entries.{slot}

-- whether the own instance of this number is due
abbrev pub is_due : List Bool → ℕ → Bool
is_due flags number = get_or flags number false

-- what blocks it, if something is known to
abbrev pub blocker_of : List (Option ℕ) → ℕ → Option ℕ
blocker_of blockers number = get_or blockers number None

abbrev pub is_flagged : List Bool → ℕ → Bool
is_flagged flags i = get_or flags (slot i) false

-- instance i waits for j, which isn't committed
abbrev pub IsBlockedBy : Kept → ℕ → ℕ → Type 0
IsBlockedBy k i j = Reaches (graph_in (state_of k).records) i j × (graph_in (state_of k).records j ≡ None)

-- each blocker blocks, and each pending instance is due or blocked
pub record Remembers (k : Kept) (due : List Bool) (blockers : List (Option ℕ)) : Type 0 where
  pub blocked : (n : ℕ) → n ≤ highest_number → IfSome (blocker_of blockers n) (IsBlockedBy k (instance_of k.me n))
  pub found : (n : ℕ) → 1 ≤ n → n ≤ highest_number → IsPending k (instance_of k.me n) → (is_due due n ≡ true) ⊎ IsSome (blocker_of blockers n)

-- The instance that a step may commit.

abbrev pub about : Event → Option ℕ
about (Propose client request c seen named) = None
about (Handle m) = Some (instance_of_message m.sent.message)
about (GiveUp i) = Some i
about (Recover i) = Some i
about (Execute root) = None

-- one entry more: what was committed or executed stays so, and no instance but the open one may have been committed
pub record Grows (k k' : Kept) (subject : Option ℕ) : Type 0 where
  pub me : k'.me ≡ k.me
  pub stays : (i : ℕ) (x : Decree) → committed_in (state_of k).records i ≡ Some x → committed_in (state_of k').records i ≡ Some x
  pub others : (i : ℕ) → (subject ≡ Some i) ⊎ (committed_in (state_of k').records i ≡ committed_in (state_of k).records i)
  pub executed : (i : ℕ) → Has (state_of k).executed i → Has (state_of k').executed i

-- what an instance blocked is due and has no blocker; the others' blockers stay
abbrev pub Wakes : ℕ → Option ℕ → Option ℕ → Bool → Type 0
Wakes i old new due = ((new ≡ old) × (old ≢ Some i)) ⊎ ((new ≡ None) × (due ≡ true))

-- it is blocked by this one, or isn't pending where there is none
abbrev pub MayBeSetAside : Kept → ℕ → Option ℕ → Type 0
MayBeSetAside k i None = ¬ IsPending k i
MayBeSetAside k i (Some j) = IsBlockedBy k i j
