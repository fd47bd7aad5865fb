-- tools/generate writes this file, from crates/ep_rules/specs/InterferenceSet.antt.
-- The interference set of a command at a replica (EPaxos, figure 2).
use Rattle.std.specs.Prelude.{ℕ, ◌+◌, max, Bool, ◌&&◌, not, eqb, cond, false, List, [], ◌∷◌, Option, Some, None}
use Rattle.ep_base.specs.Interference.{interfere}
use Rattle.ep_base.specs.declared.attrs.Attrs.{Attrs}
use Rattle.ep_base.specs.Commands.{Command}
use Rattle.ep_base.specs.declared.vote.Vote.{Vote}
use Rattle.ep_laws.specs.Rows.Maps.{Map, entries}
use Rattle.ep_rules.specs.declared.record.Record.{Record}

abbrev pub votes_against : Command → Option Vote → Bool
votes_against c None = false
votes_against c (Some v) = interfere c v.decree.command

abbrev pub seq_of : Option Vote → ℕ
seq_of None = 0
seq_of (Some v) = v.decree.attrs.seq

-- the record is of another instance than i, and its command interferes with c
abbrev pub touches : Command → ℕ → ℕ × Record → Bool
touches c i e = not (eqb e.0 i) && votes_against c e.1.vote

-- those of the entries that pass
abbrev pub those : (ℕ × Record → Bool) → List (ℕ × Record) → List (ℕ × Record)
those p [] = []
those p (e ∷ es) = cond (p e) (e ∷ those p es) (those p es)

abbrev pub greatest_seq : List (ℕ × Record) → ℕ
greatest_seq [] = 0
greatest_seq (e ∷ es) = max (seq_of e.1.vote) (greatest_seq es)

abbrev pub instances : List (ℕ × Record) → List ℕ
instances [] = []
instances (e ∷ es) = e.0 ∷ instances es

-- the instances of all records that touch it, and one more than their greatest sequence number
abbrev pub interference : Map Record → ℕ → Command → Attrs
interference records i c =
    let es = those (touches c i) (entries records) in
    record { seq = 1 + greatest_seq es; deps = instances es }
