-- The limits of version 3 are the same in all generations.
use Rattle.std.proofs.Common.{◌≡◌, ℕ, ◌<◌, Bool, true, false, cond, eqb, ltb, List, length, refl, sym, arith}
use Rattle.std.proofs.lemmas.Bool.{lt-ltb}
use Rattle.ep_base.specs.Versions.{version_of}
use Rattle.ep_base.specs.declared.version_kind.VersionKind.TheVariants.{V1, V2, V3}
use Rattle.ep_frame.specs.declared.header.Header.{Header}
use Rattle.ep_frame.specs.Faults.{header_fault_in, header_fault, deps_allowed, version_in, is_short}
use Rattle.ep_frame.specs.Fields.{number_at}

pub same_faults : (h : Header) → header_fault_in (version_of h.version 1) h ≡ header_fault h
unfolding header_fault_in
same_faults h = go (eqb h.version 1) (eqb h.version 3)
  where
    go : (a b : Bool) → header_fault_in (cond a V1 (cond b (V3 1) V2)) h ≡ header_fault_in (cond a V1 (cond b (V3 h.generation) V2)) h
    go true b = refl
    go false true = refl
    go false false = refl

pub same_deps : (h : Header) (is : List ℕ) → deps_allowed (version_of h.version 1) is ≡ deps_allowed (version_in h) is
same_deps h is = go (eqb h.version 1) (eqb h.version 3)
  where
    go : (a b : Bool) → deps_allowed (cond a V1 (cond b (V3 1) V2)) is ≡ deps_allowed (cond a V1 (cond b (V3 h.generation) V2)) is
    go true b = refl
    go false true = refl
    go false false = refl

-- fewer than 40 bytes are short in each version
pub is_short_below : (b : List ℕ) → length b < 40 → true ≡ is_short b
is_short_below b less = go (eqb (number_at 2 1 b) 3)
  where
    go : (c : Bool) → true ≡ ltb (length b) (cond c 48 40)
    go true = sym (lt-ltb (length b) 48 (omega (arith, less)))
    go false = sym (lt-ltb (length b) 40 less)
