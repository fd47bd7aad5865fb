-- Versions and their numbers, what the later one has, and how many dependencies there are.
use Rattle.std.proofs.Common.{◌≡◌, ℕ, ◌+◌, ◌*◌, ◌<◌, ◌≤◌, Bool, true, false, List, [], ◌∷◌, Option, Some, None, length, refl, sym, true≢false, not, arith}
use Rattle.std.specs.Prelude.{◌||◌}
use Rattle.ep_base.specs.Deps.{IsRising, AreInstances, most_deps}
use Rattle.ep_base.specs.Instances.{leader_of, number_of, highest_number, IsInstance}
use Rattle.ep_base.specs.Interference.{is_swap, is_late, is_long}
use Rattle.ep_base.specs.Versions.{version_number, generation_of, version_of, highest_in, most_deps_in, knows, IsInstanceIn, AreDepsIn, IsDecreeIn, IsVoteIn, CanSay}
use Rattle.ep_base.specs.Commands.{Command}
use Rattle.ep_base.specs.declared.decree.Decree.{Decree}
use Rattle.ep_base.specs.declared.message.Message.{Message}
use Rattle.ep_base.specs.declared.message.Message.TheVariants.{PreAccept, PreAcceptOk, Accept, AcceptOk, Commit, Prepare, PrepareOk, Nack}
use Rattle.ep_base.specs.declared.version.Version.{Version}
use Rattle.ep_base.specs.declared.version_kind.VersionKind.TheVariants.{V1, V2, V3}
use Rattle.ep_base.specs.declared.vote.Vote.{Vote}

pub version_again : (v : Version) → version_of (version_number v) (generation_of v) ≡ v
version_again V1 = refl
version_again V2 = refl
version_again (V3 g) = refl

-- A later version has all that an earlier one has.

highest_later : (v w : Version) → version_number v ≤ version_number w → highest_in v ≤ highest_in w
highest_later V1 V1 h = omega arith
highest_later V1 V2 h = omega arith
highest_later V1 (V3 g) h = omega arith
highest_later V2 V1 h = omega (arith, h)
highest_later V2 V2 h = omega arith
highest_later V2 (V3 g) h = omega arith
highest_later (V3 f) V1 h = omega (arith, h)
highest_later (V3 f) V2 h = omega (arith, h)
highest_later (V3 f) (V3 g) h = omega arith

pub instance_later : (v w : Version) (i : ℕ) → version_number v ≤ version_number w → IsInstanceIn v i → IsInstanceIn w i
instance_later v w i e h = let later = highest_later v w e in omega (arith, h)

pub deps_later : (v w : Version) (is : List ℕ) → version_number v ≤ version_number w → AreDepsIn v is → AreDepsIn w is
deps_later v w [] e h = tt
deps_later v w (i ∷ is) e h = (instance_later v w i e h.0, deps_later v w is e h.1)

not_either : (a b : Bool) → not (a || b) ≡ true → not b ≡ true
not_either true b h = absurd (true≢false (sym h))
not_either false b h = h

pub knows_later : (v w : Version) (c : Command) → version_number v ≤ version_number w → knows v c ≡ true → knows w c ≡ true
knows_later v (V3 g) c e h = refl
knows_later V1 V1 c e h = h
knows_later V1 V2 c e h = not_either (is_swap c) (is_late c || is_long c) h
knows_later V2 V1 c e h = absurd (let f : 2 ≤ 1 = e in omega arith)
knows_later V2 V2 c e h = h
knows_later (V3 f) V1 c e h = absurd (let f : 3 ≤ 1 = e in omega arith)
knows_later (V3 f) V2 c e h = absurd (let f : 3 ≤ 2 = e in omega arith)

decree_later : (v w : Version) (x : Decree) → version_number v ≤ version_number w → IsDecreeIn v x → IsDecreeIn w x
decree_later v w x e h = (knows_later v w x.command e h.0, deps_later v w x.attrs.deps e h.1)

pub vote_later : (v w : Version) (o : Option Vote) → version_number v ≤ version_number w → IsVoteIn v o → IsVoteIn w o
vote_later v w None e h = tt
vote_later v w (Some vote) e h = decree_later v w vote.decree e h

pub said_later : (v w : Version) (m : Message) → version_number v ≤ version_number w → CanSay v m → CanSay w m
said_later v w (PreAccept i b x) e h = (instance_later v w i e h.0, decree_later v w x e h.1)
said_later v w (PreAcceptOk i b a) e h = (instance_later v w i e h.0, deps_later v w a.deps e h.1)
said_later v w (Accept i b x) e h = (instance_later v w i e h.0, decree_later v w x e h.1)
said_later v w (AcceptOk i b) e h = instance_later v w i e h
said_later v w (Commit i x) e h = (instance_later v w i e h.0, decree_later v w x e h.1)
said_later v w (Prepare i b) e h = instance_later v w i e h
said_later v w (PrepareOk i b o) e h = (instance_later v w i e h.0, vote_later v w o e h.1)
said_later v w (Nack i b p) e h = instance_later v w i e h

-- and all instances
pub deps_in_last : (g : ℕ) (is : List ℕ) → AreInstances is → AreDepsIn (V3 g) is
deps_in_last g [] h = tt
deps_in_last g (i ∷ is) h = (h.0.2, deps_in_last g is h.1)

-- of two instances of version 1 the lower one has fewer below it
first_rises : (i j : ℕ) → IsInstance i → IsInstance j → IsInstanceIn V1 i → IsInstanceIn V1 j → i < j → leader_of i * 1000 + number_of i < leader_of j * 1000 + number_of j
first_rises i j h k e f low = omega (arith, h, k, e, f)

few_from_first : (i : ℕ) (is : List ℕ) → IsRising (i ∷ is) → AreInstances (i ∷ is) → AreDepsIn V1 (i ∷ is) → length is + (leader_of i * 1000 + number_of i) ≤ most_deps_in V1
few_from_first i [] h k e = let in_i = k.0 in let first = e.0 in omega arith
few_from_first i (j ∷ js) h k e = let rest = few_from_first j js h.1 k.1 e.1 in let rises = first_rises i j k.0 k.1.0 e.0 e.1.0 h.0 in omega arith

-- version 1 has at most 7,000 dependencies
length_in_first : (is : List ℕ) → IsRising is → AreInstances is → AreDepsIn V1 is → length is ≤ most_deps_in V1
length_in_first [] h k e = omega arith
length_in_first (i ∷ is) h k e = let rest = few_from_first i is h k e in let in_i = k.0 in omega arith

-- and likewise of version 2
second_rises : (i j : ℕ) → IsInstance i → IsInstance j → IsInstanceIn V2 i → IsInstanceIn V2 j → i < j → leader_of i * 2000 + number_of i < leader_of j * 2000 + number_of j
second_rises i j h k e f low = omega (arith, h, k, e, f)

few_from_second : (i : ℕ) (is : List ℕ) → IsRising (i ∷ is) → AreInstances (i ∷ is) → AreDepsIn V2 (i ∷ is) → length is + (leader_of i * 2000 + number_of i) ≤ most_deps_in V2
few_from_second i [] h k e = let in_i = k.0 in let first = e.0 in omega arith
few_from_second i (j ∷ js) h k e = let rest = few_from_second j js h.1 k.1 e.1 in let rises = second_rises i j k.0 k.1.0 e.0 e.1.0 h.0 in omega arith

-- version 2 has at most 14,000 dependencies
length_in_second : (is : List ℕ) → IsRising is → AreInstances is → AreDepsIn V2 is → length is ≤ most_deps_in V2
length_in_second [] h k e = omega arith
length_in_second (i ∷ is) h k e = let rest = few_from_second i is h k e in let in_i = k.0 in omega arith

-- as many dependencies as the version has instances
pub length_in : (v : Version) (is : List ℕ) → IsRising is → AreInstances is → length is ≤ most_deps → AreDepsIn v is → length is ≤ most_deps_in v
length_in V1 is h k few e = length_in_first is h k e
length_in V2 is h k few e = length_in_second is h k e
length_in (V3 g) is h k few e = few

pub version_low : (v : Version) → version_number v ≤ 3
version_low V1 = omega arith
version_low V2 = omega arith
version_low (V3 g) = omega arith

pub highest_low : (v : Version) → highest_in v ≤ highest_number
highest_low V1 = omega arith
highest_low V2 = omega arith
highest_low (V3 g) = omega arith
