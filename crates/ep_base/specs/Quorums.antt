-- The replicas of a cluster, and the fast quorum of an instance: all replicas but one, the spared one.
use Rattle.std.specs.Prelude.{ℕ, ◌+◌, ◌*◌, ◌%◌, Bool, true, ◌&&◌, not, eqb, ltb, Option, Some, None}

-- of 2f+1 replicas f may fail
abbrev pub size : ℕ → ℕ
size f = 2 * f + 1

-- the replica that l spares where its proposal names none: the one just below it
abbrev pub usual : ℕ → ℕ → ℕ
usual f l = (l + 2 * f) % size f

-- the replica that a proposal of l's spares: the one that it names, or the usual one
abbrev pub spared : ℕ → ℕ → Option ℕ → ℕ
spared f l None = usual f l
spared f l (Some s) = s

-- a proposal of l's may name it: another replica of the cluster
abbrev pub may_spare : ℕ → ℕ → Option ℕ → Bool
may_spare f l None = true
may_spare f l (Some s) = ltb s (size f) && not (eqb s l)

-- is r, and not l itself, of the fast quorum of an instance of l's that spares s
abbrev pub is_fast : ℕ → ℕ → ℕ → Bool
is_fast l s r = not (eqb r l) && not (eqb r s)

-- is r a member of the fast quorum of an instance of l's that spares s, both r and l being replicas of the cluster
abbrev pub is_member : ℕ → ℕ → ℕ → ℕ → Bool
is_member f l s r = ltb l (size f) && (ltb r (size f) && not (eqb r s))
