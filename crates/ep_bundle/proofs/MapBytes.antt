-- The bytes of a map, by the numbers of all other fields.
use Rattle.std.proofs.Common.{◌≡◌, ℕ, Bool, List, ◌++◌, length, Option, Result, refl, sym, ap, ◌∙◌, subst}
use Rattle.std.specs.FinMap.{entries}
use Rattle.std.specs.List.{flat_map}
use Rattle.ep_base.specs.Devices.{Puts}
use Rattle.ep_exec.specs.Bytes.{contents_bytes, pair_bytes}
use Rattle.ep_frame.specs.Fields.{number_bytes}
use Rattle.ep_rules.specs.OneMap.{Contents}

pub pair_is : (e : List ℕ × List ℕ) → pair_bytes e ≡ number_bytes 1 (length e.0) ++ number_bytes 4 (length e.1) ++ e.0 ++ e.1
unfolding number_bytes
pair_is e = refl

pub contents_are : (m : Contents) → contents_bytes m ≡ number_bytes 4 (length (entries m)) ++ flat_map pair_bytes (entries m)
unfolding number_bytes
contents_are m = refl

-- what was put, so spelled

pub pair_put : {T E : Type 0} (old new : Option (List ℕ)) (had has : Bool) (r : Result T E) (e : List ℕ × List ℕ) (key value : List ℕ) → key ≡ e.0 → value ≡ e.1
    → Puts old new had has r (number_bytes 1 (length key) ++ number_bytes 4 (length value) ++ key ++ value) → Puts old new had has r (pair_bytes e)
pair_put old new had has r e key value is at h =
    subst (λ (b : List ℕ). Puts old new had has r b) ((λ t. number_bytes 1 (length (is t)) ++ number_bytes 4 (length (at t)) ++ is t ++ at t) ∙ sym (pair_is e)) h

pub contents_put : {T E : Type 0} (old new : Option (List ℕ)) (had has : Bool) (r : Result T E) (m : Contents) (es : List (List ℕ × List ℕ)) → es ≡ entries m
    → Puts old new had has r (number_bytes 4 (length es) ++ flat_map pair_bytes es) → Puts old new had has r (contents_bytes m)
contents_put old new had has r m es is h = subst (λ (b : List ℕ). Puts old new had has r b) ((λ t. number_bytes 4 (length (is t)) ++ flat_map pair_bytes (is t)) ∙ sym (contents_are m)) h
