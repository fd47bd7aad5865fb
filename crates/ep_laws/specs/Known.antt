-- What replicas know of: the instances that they have recorded, and the attributes in their votes and in the answers that they keep.
use Rattle.std.specs.Prelude.{◌≡◌, ℕ, ◌<◌, ◌≤◌, Bool, true, List, Option, Some, None}
use Rattle.ep_base.specs.Places.{Has}
use Rattle.ep_base.specs.Quorums.{size}
use Rattle.ep_base.specs.declared.attrs.Attrs.{Attrs}
use Rattle.ep_base.specs.declared.vote.Vote.{Vote}
use Rattle.ep_rules.specs.Answers.{answer}
use Rattle.ep_rules.specs.Maps.{get, entries}
use Rattle.ep_rules.specs.States.{State}
use Rattle.ep_rules.specs.Worlds.{World, In}
use Rattle.ep_rules.specs.declared.led_instance.LedInstance.{LedInstance}
use Rattle.ep_rules.specs.declared.led_instance.LedInstance.TheVariants.{Proposing, Accepting, Preparing}
use Rattle.ep_rules.specs.declared.record.Record.{Record}

-- P holds of what is voted for
abbrev pub VoteHas : (Attrs → Type 0) → Option Vote → Type 0
VoteHas P None = Unit {0}
VoteHas P (Some v) = P v.decree.attrs

-- P holds of each answer that a leader keeps
abbrev pub LedHas : (Attrs → Type 0) → LedInstance → Type 0
LedHas P (Proposing b s answers) = (r : ℕ) (a : Attrs) → answer answers r ≡ Some a → P a
LedHas P (Accepting b answers) = Unit {0}
LedHas P (Preparing b answers) = (r : ℕ) (v : Option Vote) → answer answers r ≡ Some v → VoteHas P v

-- dependencies are among these instances, and the sequence number is not above m
pub record Within (is : List ℕ) (m : ℕ) (a : Attrs) : Type 0 where
  pub deps : (i : ℕ) → Has a.deps i → Has is i
  pub seq : a.seq ≤ m

-- all that a replica knows of is
pub record KnowsWithin (is : List ℕ) (m : ℕ) (s : State) : Type 0 where
  pub recorded : (e : ℕ × Record) → In e (entries s.records) → Has is e.0 × VoteHas (Within is m) e.1.vote
  pub led : (i : ℕ) (l : LedInstance) → get s.leads i ≡ Some l → LedHas (Within is m) l

-- and all that live replicas know of
abbrev pub AllKnown : (f : ℕ) (live : ℕ → Bool) (is : List ℕ) (m : ℕ) → World → Type 0
AllKnown f live is m w = (r : ℕ) → r < size f → live r ≡ true → KnowsWithin is m (w.states r)
