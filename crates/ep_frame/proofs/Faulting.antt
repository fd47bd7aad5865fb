-- Which faults bytes alone can have.
use Rattle.std.proofs.Common.{◌≡◌, ℕ, Bool, true, false, cond, List, [], ◌∷◌, length, drop, Result, Ok, Err, refl, sym, ap, ◌∙◌, true≢false}
use Rattle.std.specs.Prelude.{◌≢◌, not, ◌==◌}
use Rattle.ep_base.specs.declared.version.Version.{Version}
use Rattle.ep_frame.specs.declared.fault.FrameFault.{FrameFault}
use Rattle.ep_frame.specs.declared.fault.FrameFault.TheVariants.{Short, Magic, Version as OtherVersion, Kind, Field, Length, Order, SameKey, Body, Generation}
use Rattle.ep_frame.specs.declared.header.Header.{Header}
use Rattle.ep_frame.specs.Fields.{header_at, deps_in}
use Rattle.ep_frame.specs.Faults.{◌>>◌, checked, names_rows, ballot_rows, vote_rows, body_rows, late_rows, version_in, header_fault_in, header_fault, rest_fault, fault_of, is_short, frame_len, deps_place, deps_allowed, has_same_keys, has_other_body}

abbrev is_generation : FrameFault → Bool
is_generation Short = false
is_generation Magic = false
is_generation OtherVersion = false
is_generation Kind = false
is_generation (Field n) = false
is_generation Length = false
is_generation Order = false
is_generation SameKey = false
is_generation Body = false
is_generation Generation = true

-- whether that one is reported
abbrev reported : Result (Unit {0}) FrameFault → Bool
reported (Ok x) = false
reported (Err f) = is_generation f

abbrev AreOthers : List (FrameFault × Bool) → Type 0
AreOthers [] = Unit {0}
AreOthers (row ∷ rows) = (is_generation row.0 ≡ false) × AreOthers rows

reported_if : (c : Bool) (r next : Result (Unit {0}) FrameFault) → reported r ≡ false → reported next ≡ false → reported (cond c r next) ≡ false
reported_if true r next e f = e
reported_if false r next e f = f

reported_then : (r next : Result (Unit {0}) FrameFault) → reported r ≡ false → reported next ≡ false → reported (r >> next) ≡ false
reported_then (Ok x) next e f = f
reported_then (Err g) next e f = e

reported_checked : (rows : List (FrameFault × Bool)) → AreOthers rows → reported (checked rows) ≡ false
reported_checked [] h = refl
reported_checked (row ∷ rows) h = reported_if row.1 (checked rows) (Err row.0) (reported_checked rows h.1) h.0

reported_header : (v : Version) (h : Header) → reported (header_fault_in v h) ≡ false
unfolding header_fault_in
reported_header v h =
    let a = reported_checked (names_rows h) (refl, (refl, (refl, (refl, (refl, (refl, (refl, tt))))))) in
    let b = reported_checked (ballot_rows v h) (refl, (refl, (refl, (refl, tt)))) in
    let c = reported_checked (vote_rows h) (refl, (refl, (refl, tt))) in
    let d = reported_checked (body_rows v h) (refl, (refl, (refl, (refl, (refl, tt))))) in
    let e = reported_checked (late_rows v h) (refl, (refl, tt)) in
    reported_then (checked (names_rows h)) _ a (reported_then (checked (ballot_rows v h)) _ b (reported_then (checked (vote_rows h)) _ c (reported_then (checked (body_rows v h)) _ d e)))

reported_four : (a b c d : Bool) → reported (cond a (Err Length) (cond b (Err Order) (cond c (Err SameKey) (cond d (Err Body) (Ok tt))))) ≡ false
reported_four true b c d = refl
reported_four false true c d = refl
reported_four false false true d = refl
reported_four false false false true = refl
reported_four false false false false = refl

reported_rest : (h : Header) (b : List ℕ) → reported (rest_fault h b) ≡ false
unfolding rest_fault
reported_rest h b = reported_four (not (length b == frame_len h)) (not (deps_allowed (version_in h) (deps_in (drop (deps_place h) b)))) (has_same_keys h b) (has_other_body h b)

reported_bytes : (b : List ℕ) → reported (fault_of b) ≡ false
unfolding fault_of
reported_bytes b =
    reported_if (is_short b) (Err Short) (header_fault (header_at b) >> rest_fault (header_at b) b) refl
    (reported_then (header_fault (header_at b)) (rest_fault (header_at b) b) (reported_header (version_in (header_at b)) (header_at b)) (reported_rest (header_at b) b))

-- bytes alone aren't of another generation
pub never : (b : List ℕ) → fault_of b ≢ Err Generation
never b e = true≢false (sym (ap reported e) ∙ reported_bytes b)
