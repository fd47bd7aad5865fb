-- Bytes without a fault spell a message.
use Rattle.std.proofs.Common.{◌≡◌, ℕ, ◌*◌, ◌^◌, ◌≤◌, ◌<◌, Bool, true, false, cond, eqb, leb, List, length, take, drop, Result, Ok, Err, refl, sym, ap, ◌∙◌, arith}
use Rattle.std.specs.Prelude.{not}
use Rattle.ep_base.specs.CommandParts.{body_said}
use Rattle.ep_base.specs.Versions.{version_of, highest_in}
use Rattle.ep_base.proofs.Versions.{highest_low}
use Rattle.std.proofs.lemmas.Bool.{eqb-true, ltb-false, leb-true, and_parts, not-false}
use Rattle.std.proofs.lemmas.List.{length-take, length-drop}
use Rattle.ep_frame.specs.declared.fault.FrameFault.{FrameFault}
use Rattle.ep_frame.specs.declared.fault.FrameFault.TheVariants.{Short, Length, Order, SameKey, Body}
use Rattle.ep_frame.specs.declared.header.Header.{Header}
use Rattle.ep_frame.specs.Fields.{header_at, header_len, deps_in, number_at}
use Rattle.ep_frame.specs.Faults.{◌>>◌, checked, names_rows, ballot_rows, vote_rows, body_rows, late_rows, generation_fits, op_of, second_place, body_place, deps_place, frame_len, are_deps, are_in, deps_allowed, has_same_keys, has_other_body, is_short, version_in, header_fault_in, header_fault, rest_fault, fault_of}
use Rattle.ep_frame.specs.Spelling.{parts_at, parts_bytes, Spells}
use Rattle.ep_frame.specs.DepBytes.{AreDepBytes}
use Rattle.ep_frame.specs.Ranges.{InRange, Readable}
use Rattle.ep_frame.specs.Meaning.{version_at, sender_at, origin_at, message_at}
use Rattle.ep_frame.proofs.BigEndian.{IsBytes, IsBytes-drop, IsBytes-take}
use Rattle.ep_frame.proofs.Headers.{parts-found, length-deps_in}
use Rattle.ep_frame.proofs.Rows.{AllPass, fine, passes, within-is}
use Rattle.ep_frame.proofs.Found.{Good, GoodRuns, found, rising_found}
use Rattle.ep_frame.proofs.Reading.{readable}

then_fine : (r next : Result (Unit {0}) FrameFault) → (r >> next) ≡ fine → (r ≡ fine) × (next ≡ fine)
then_fine (Ok x) next e = (refl, e)
then_fine (Err f) next e = absurd cc

unless_fine : (b : Bool) (f : FrameFault) (r : Result (Unit {0}) FrameFault) → cond b (Err f) r ≡ fine → (b ≡ false) × (r ≡ fine)
unless_fine true f r e = absurd cc
unless_fine false f r e = (refl, e)

record HeaderPasses (h : Header) : Type 0 where
  names : AllPass (names_rows h)
  ballot : AllPass (ballot_rows (version_in h) h)
  vote : AllPass (vote_rows h)
  body : AllPass (body_rows (version_in h) h)
  late : AllPass (late_rows (version_in h) h)

header_passes : (h : Header) → header_fault h ≡ fine → HeaderPasses h
unfolding header_fault_in
header_passes h e =
    let x = ballot_rows (version_in h) h in let z = body_rows (version_in h) h in let l = late_rows (version_in h) h in
    let a = then_fine (checked (names_rows h)) (checked x >> (checked (vote_rows h) >> (checked z >> checked l))) e in
    let b = then_fine (checked x) (checked (vote_rows h) >> (checked z >> checked l)) a.1 in
    let c = then_fine (checked (vote_rows h)) (checked z >> checked l) b.1 in
    let d = then_fine (checked z) (checked l) c.1 in
    record { names = passes (names_rows h) a.0; ballot = passes x b.0; vote = passes (vote_rows h) c.0; body = passes z d.0; late = passes l d.1 }

record Passes (b : List ℕ) : Type 0 where
  long : header_len (header_at b).version ≤ length b
  header : HeaderPasses (header_at b)
  len : length b ≡ frame_len (header_at b)
  deps : deps_allowed (version_in (header_at b)) (deps_in (drop (deps_place (header_at b)) b)) ≡ true
  keys_differ : has_same_keys (header_at b) b ≡ false
  body_is : has_other_body (header_at b) b ≡ false

unless_not : (b : Bool) (f : FrameFault) (r : Result (Unit {0}) FrameFault) → cond (not b) (Err f) r ≡ fine → (b ≡ true) × (r ≡ fine)
unless_not true f r e = (refl, e)
unless_not false f r e = absurd cc

frame_passes : (b : List ℕ) → fault_of b ≡ fine → Passes b
unfolding fault_of rest_fault
frame_passes b e =
    let h = header_at b in
    let ds = deps_allowed (version_in h) (deps_in (drop (deps_place h) b)) in
    let fourth : Result (Unit {0}) FrameFault = cond (has_other_body h b) (Err Body) (Ok tt) in
    let third : Result (Unit {0}) FrameFault = cond (has_same_keys h b) (Err SameKey) fourth in
    let a = unless_fine (is_short b) Short (header_fault h >> rest_fault h b) e in
    let c = then_fine (header_fault h) (rest_fault h b) a.1 in
    let d = unless_not (eqb (length b) (frame_len h)) Length (cond (not ds) (Err Order) third) c.1 in
    let f = unless_not ds Order third d.1 in
    let k = unless_fine (has_same_keys h b) SameKey fourth f.1 in
    let y = unless_fine (has_other_body h b) Body (Ok tt) k.1 in
    record { long = ltb-false _ _ a.0; header = header_passes h c.0; len = eqb-true _ _ d.0; deps = f.0; keys_differ = k.0; body_is = y.0 }

long_header : (c : Bool) → 40 ≤ cond c 48 40
long_header true = omega arith
long_header false = omega arith

-- a header has 40 bytes or more
header_long : (h : Header) → 40 ≤ header_len h.version
header_long h = long_header (eqb h.version 3)

out_fits : (b : List ℕ) → IsBytes b → number_at 6 2 b < 2 ^ 16
unfolding number_at
out_fits b fits = omega (arith, fits 6, fits 7)

entry_fits : (b : List ℕ) → IsBytes b → number_at 8 4 b < 2 ^ 32
unfolding number_at
entry_fits b fits = omega (arith, fits 8, fits 9, fits 10, fits 11)

generation_small : (b : List ℕ) → IsBytes b → (c : Bool) → cond c (number_at 40 4 b) 0 < 2 ^ 32
unfolding number_at
generation_small b fits true = omega (arith, fits 40, fits 41, fits 42, fits 43)
generation_small b fits false = omega arith

run_bytes : (i n : ℕ) (b : List ℕ) → IsBytes b → IsBytes (take n (drop i b))
run_bytes i n b fits = IsBytes-take n (drop i b) (IsBytes-drop i b fits)

good_runs : (b : List ℕ) → IsBytes b → Passes b → GoodRuns (parts_at b)
good_runs b fits p =
    let h = header_at b in
    let len = p.len in
    let n = header_len h.version in
    record {
      key = omega (arith, len, length-take h.key_len (drop n b), length-drop n b);
      second = omega (arith, len, length-take h.second_len (drop (second_place h) b), length-drop (second_place h) b);
      body = omega (arith, len, length-take h.body_len (drop (body_place h) b), length-drop (body_place h) b);
      count = length-deps_in (drop (deps_place h) b) h.count (omega (arith, len, length-drop (deps_place h) b));
      deps = p.deps;
      once = p.keys_differ;
      said = not-false (body_said (op_of h.op) (take h.body_len (drop (body_place h) b))) p.body_is;
      key_bytes = run_bytes n h.key_len b fits;
      second_bytes = run_bytes (second_place h) h.second_len b fits;
      body_bytes = run_bytes (body_place h) h.body_len b fits;
    }

is_good : (b : List ℕ) → IsBytes b → Passes b → Good (parts_at b)
is_good b fits p =
    record {
      names = p.header.names;
      ballot = p.header.ballot;
      vote = p.header.vote;
      body = p.header.body;
      late = p.header.late;
      generation = generation_small b fits (eqb (number_at 2 1 b) 3);
      out = out_fits b fits;
      entry = entry_fits b fits;
      runs = good_runs b fits p;
    }

pub frame_long : (b : List ℕ) → fault_of b ≡ fine → 40 ≤ length b
frame_long b e = let p = frame_passes b e in let long = p.long in let least = header_long (header_at b) in omega (arith, long, least)

pub frame_found : (b : List ℕ) → IsBytes b → fault_of b ≡ fine → Spells (version_at b) b (sender_at b) (origin_at b) (message_at b)
frame_found b fits e =
    let p = frame_passes b e in
    let f = found (parts_at b) (is_good b fits p) in
    record { version = f.version; origin = f.origin; message = f.message; sayable = f.sayable; is = sym (parts-found b fits (frame_long b e) p.len) ∙ sym (ap parts_bytes f.is) }

pub frame_whole : (b : List ℕ) → fault_of b ≡ fine → length b ≡ frame_len (header_at b)
frame_whole b e = (frame_passes b e).len

pub frame_header : (b : List ℕ) → fault_of b ≡ fine → header_len (header_at b).version ≤ length b
frame_header b e = (frame_passes b e).long

generation_there : (n g : ℕ) → generation_fits (version_of n g) g ≡ true → n ≡ 3 → 1 ≤ g
generation_there n g e three = leb-true 1 g (ap (λ (k : ℕ). generation_fits (version_of k g) g) (sym three) ∙ e)

pub frame_generation : (b : List ℕ) → fault_of b ≡ fine → (header_at b).version ≡ 3 → 1 ≤ (header_at b).generation
frame_generation b e three = generation_there (header_at b).version (header_at b).generation (frame_passes b e).header.late.0 three

pub frame_ranges : (b : List ℕ) → fault_of b ≡ fine → InRange b
frame_ranges b e =
    let p = frame_passes b e in
    let h = header_at b in
    let n = p.header.names in
    let to = and_parts (leb h.to 6) (not (eqb h.to h.from)) n.1.1.1.1.0 in
    let stamp = within-is 1 281474976710655 h.stamp n.1.1.1.1.1.1.0 in
    let number = within-is 1 (highest_in (version_in h)) h.number p.header.ballot.1.0 in
    let most = highest_low (version_in h) in
    record {
      long = frame_long b e;
      sender = leb-true _ _ n.1.1.1.0;
      receiver = leb-true _ _ to.0;
      entry = leb-true _ _ n.1.1.1.1.1.0;
      stamp_low = stamp.0;
      stamp_high = stamp.1;
      leader = leb-true _ _ p.header.ballot.0;
      number_low = number.0;
      number_high = omega (arith, number.1, most);
    }

pub frame_readable : (b : List ℕ) → IsBytes b → fault_of b ≡ fine → Readable (parts_at b)
frame_readable b fits e = readable (parts_at b) (is_good b fits (frame_passes b e))

pub frame_deps : (b : List ℕ) → fault_of b ≡ fine → AreDepBytes (drop (deps_place (header_at b)) b)
frame_deps b e =
    let p = frame_passes b e in
    let h = header_at b in
    let rest = drop (deps_place h) b in
    let len : length rest ≡ 3 * h.count = omega (arith, p.len, length-drop (deps_place h) b) in
    let count : length (deps_in rest) ≡ h.count = length-deps_in rest h.count len in
    let both = and_parts (are_deps (deps_in rest)) (are_in (version_in h) (deps_in rest)) p.deps in
    let r = rising_found (deps_in rest) both.0 in
    record { whole = omega (arith, len, count); deps = record { rising = r.0; instances = r.1 } }
