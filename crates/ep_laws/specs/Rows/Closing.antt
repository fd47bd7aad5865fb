-- tools/generate writes this file, from crates/ep_rules/specs/Closing.antt.
-- Closing: the operations up to a seal, the map that they leave, and who has it.
use Rattle.std.specs.Prelude.{◌≡◌, ◌≢◌, ℕ, ◌<◌, ◌≤◌, Bool, true, false, ◌||◌, cond, List, [], ◌∷◌, ◌++◌, Option, None}
use Rattle.ep_base.specs.Interference.{is_seal}
use Rattle.ep_base.specs.Places.{Has}
use Rattle.ep_base.specs.Quorums.{size}
use Rattle.ep_base.specs.declared.reply.Answer.TheVariants.{Replied}
use Rattle.ep_base.specs.declared.reply.Reply.{Reply}
use Rattle.ep_base.specs.declared.reply.Reply.TheVariants.{Closed}
use Rattle.ep_laws.specs.Rows.OneMap.{Contents, written, read, sealed_by, Store, opened, is_closed, after_commands}
use Rattle.ep_laws.specs.Rows.Operations.{Operation, commands_of, history_of}
use Rattle.ep_laws.specs.Rows.Worlds.{World, opening, In, Act, IsRun, ends}

-- Operations up to the first seal.

abbrev pub has_seal : List Operation → Bool
has_seal [] = false
has_seal (o ∷ os) = is_seal o.command || has_seal os

-- those up to the first seal, with it; all, where there is none
abbrev pub up_to_seal : List Operation → List Operation
up_to_seal [] = []
up_to_seal (o ∷ os) = o ∷ cond (is_seal o.command) [] (up_to_seal os)

-- the value of the first seal
abbrev pub first_seal : List Operation → Option (List ℕ)
first_seal [] = None
first_seal (o ∷ os) = cond (is_seal o.command) (sealed_by o.command) (first_seal os)

-- what operations write in turn, on a map that no seal closes
abbrev pub written_by : Contents → List Operation → Contents
written_by m [] = m
written_by m (o ∷ os) = written_by (written m o.command) os

-- and what they are answered there
abbrev pub read_by : Contents → List Operation → List Reply
read_by m [] = []
read_by m (o ∷ os) = read m o.command ∷ read_by (written m o.command) os

-- what operations with a seal leave: what those up to the first one write, and its value
abbrev pub SealCloses : Type 0
SealCloses = (m : Contents) (h : List Operation) → has_seal h ≡ true →
    after_commands (opened m) (commands_of h) ≡ record { contents = written_by m (up_to_seal h); seal = first_seal h }

-- Who has executed a seal.

abbrev pub store_of : World → ℕ → Store
store_of w r = (w.states r).store

-- the replica has executed a seal
abbrev pub HasClosed : World → ℕ → Type 0
HasClosed w r = is_closed (store_of w r) ≡ true

-- A closed map stays as it is.
abbrev pub ClosedStays : Type 0
ClosedStays = (f : ℕ) (w : World) (late : List Act) (r : ℕ) → HasClosed w r → store_of (ends f w late) r ≡ store_of w r

-- Whoever has executed a seal has the map of the history up to its first seal.
abbrev pub RunsClose : Type 0
RunsClose =
    (start : Contents) (f : ℕ) → 0 < f → size f ≤ 256 → (acts : List Act) → IsRun f (opening (opened start)) acts → (r : ℕ) → HasClosed (ends f (opening (opened start)) acts) r →
    let h = history_of (opened start) f acts in
    (has_seal h ≡ true) × (store_of (ends f (opening (opened start)) acts) r ≡ record { contents = written_by start (up_to_seal h); seal = first_seal h })

-- So any two that have executed a seal, at any two times, have one map.
abbrev pub RunsCloseAlike : Type 0
RunsCloseAlike =
    (start : Contents) (f : ℕ) → 0 < f → size f ≤ 256 → (early late : List Act) → IsRun f (opening (opened start)) (early ++ late) → (r q : ℕ) →
    HasClosed (ends f (opening (opened start)) early) r → HasClosed (ends f (opening (opened start)) (early ++ late)) q →
    store_of (ends f (opening (opened start)) early) r ≡ store_of (ends f (opening (opened start)) (early ++ late)) q

-- Whoever has executed a seal has executed each operation up to the first seal: so it can say of each command of the run whether it was done, and its reply.
abbrev pub RunsExecuteAll : Type 0
RunsExecuteAll =
    (start : Contents) (f : ℕ) → 0 < f → size f ≤ 256 → (acts : List Act) → IsRun f (opening (opened start)) acts → (r : ℕ) → HasClosed (ends f (opening (opened start)) acts) r →
    (o : Operation) → In o (up_to_seal (history_of (opened start) f acts)) → Has ((ends f (opening (opened start)) acts).states r).executed o.instance

-- Whoever has executed a seal has executed whatever is ever answered, at whatever replica, by a reply other than that the map is closed: so what is answered that it is closed may be asked again, and isn't done twice.
abbrev pub OneSettling : Type 0
OneSettling =
    (start : Contents) (f : ℕ) → 0 < f → size f ≤ 256 → (early late : List Act) → IsRun f (opening (opened start)) (early ++ late) → (r : ℕ) → HasClosed (ends f (opening (opened start)) early) r →
    (a : Act) (i : ℕ) (reported : Reply) → In a (early ++ late) → In (i, Replied reported) a.done → reported ≢ Closed → Has ((ends f (opening (opened start)) early).states r).executed i
