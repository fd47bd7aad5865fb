-- What a version has room for, and so what it can say.
use Rattle.std.proofs.Common.{◌≡◌, ℕ, zero, suc, ◌^◌, ◌≤◌, ◌<◌, Bool, true, false, cond, eqb, ltb, leb, List, [], ◌∷◌, length, refl, sym, ap, ◌∙◌, true≢false, arith}
use Rattle.std.specs.Prelude.{not, ◌||◌}
use Rattle.std.proofs.lemmas.Bool.{eqb-true, leb-true, le-leb, le-ltb, ltb-false, and_parts, and_from}
use Rattle.std.specs.List.{AllByRecursion}
use Rattle.ep_base.specs.Deps.{AreInstances, most_deps}
use Rattle.ep_base.specs.Generations.{HasItsGeneration}
use Rattle.ep_base.specs.Instances.{number_of}
use Rattle.ep_base.specs.Versions.{version_number, generation_of, version_of, highest_in, most_deps_in, knows, AreDepsIn}
use Rattle.ep_base.specs.Commands.{Command}
use Rattle.ep_base.specs.Commands.{Noop, Get, Put, Del, Swap, Cas, Seal, Opaque, Tx}
use Rattle.ep_base.specs.declared.version.Version.{Version}
use Rattle.ep_base.specs.declared.version_kind.VersionKind.TheVariants.{V1, V2, V3}
use Rattle.ep_base.proofs.Versions.{deps_in_last}
use Rattle.ep_base.specs.Ops.{op_number, second_fits, body_fits, first_fits, is_key_len}
use Rattle.ep_base.specs.CommandParts.{parts_of}
use Rattle.ep_base.specs.declared.op.Op.{Op}
use Rattle.ep_base.specs.declared.op.Op.TheVariants as op
use Rattle.ep_frame.specs.Faults.{highest_op, op_of, are_early, are_in, text_fits, generation_fits}
use Rattle.ep_frame.specs.Fields.{is_early_put, second_len_from, body_len_from}

-- each version's limits are within those of the last one

pub op_low : (v : Version) → highest_op v ≤ 10
op_low V1 = omega arith
op_low V2 = omega arith
op_low (V3 g) = omega arith

pub count_low : (v : Version) → most_deps_in v ≤ most_deps
count_low V1 = omega arith
count_low V2 = omega arith
count_low (V3 g) = omega arith

-- a version's number and generation

pub is_version : (v : Version) → (eqb (version_number v) 1 || eqb (version_number v) 2 || eqb (version_number v) 3) ≡ true
is_version V1 = refl
is_version V2 = refl
is_version (V3 g) = refl

pub generation_again : (v : Version) → HasItsGeneration v → (generation_fits v (generation_of v) ≡ true) × (generation_of v < 256 ^ 4)
generation_again V1 h = (refl, omega arith)
generation_again V2 h = (refl, omega arith)
generation_again (V3 g) h = (le-leb 1 g h.0, omega (arith, h.1))

pub record VersionIs (n g : ℕ) : Type 0 where
  pub number : version_number (version_of n g) ≡ n
  pub generation : generation_of (version_of n g) ≡ g
  pub has : HasItsGeneration (version_of n g)

middle : (a : Bool) → (false || a || false) ≡ true → a ≡ true
middle true e = refl
middle false e = e

pub version_is : (n g : ℕ) → (eqb n 1 || eqb n 2 || eqb n 3) ≡ true → generation_fits (version_of n g) g ≡ true → g < 2 ^ 32 → VersionIs n g
version_is n g e f lt =
    let r = go (eqb n 1) (eqb n 3) refl refl e f in
    record { number = r.0; generation = r.1; has = r.2 }
  where
    go : (a b : Bool) → eqb n 1 ≡ a → eqb n 3 ≡ b → (a || eqb n 2 || b) ≡ true → generation_fits (cond a V1 (cond b (V3 g) V2)) g ≡ true
        → (version_number (cond a V1 (cond b (V3 g) V2)) ≡ n) × (generation_of (cond a V1 (cond b (V3 g) V2)) ≡ g) × HasItsGeneration (cond a V1 (cond b (V3 g) V2))
    go true b is third e f = (sym (eqb-true n 1 is), sym (eqb-true g 0 f), tt)
    go false true is third e f = (sym (eqb-true n 3 third), refl, (leb-true 1 g f, omega (arith, lt)))
    go false false is third e f = (sym (eqb-true n 2 (middle (eqb n 2) e)), sym (eqb-true g 0 f), tt)

-- what versions 1 and 2 read off the field at 36

-- a body is this short
abbrev pub IsShortIn : Version → ℕ → Type 0
IsShortIn V1 n = n ≤ 1024
IsShortIn V2 n = n ≤ 1024
IsShortIn (V3 g) n = Unit {0}

pub text_is : (v : Version) (o : Op) (s b : ℕ) → text_fits v o s b ≡ true → (second_fits o s ≡ true) × IsShortIn v b
text_is V1 o s b e = let p = and_parts (second_fits o s) (leb b 1024) e in (p.0, leb-true b 1024 p.1)
text_is V2 o s b e = let p = and_parts (second_fits o s) (leb b 1024) e in (p.0, leb-true b 1024 p.1)
text_is (V3 g) o s b e = (e, tt)

pub text_from : (v : Version) (o : Op) (s b : ℕ) → second_fits o s ≡ true → IsShortIn v b → text_fits v o s b ≡ true
text_from V1 o s b e h = and_from (second_fits o s) (leb b 1024) e (le-leb b 1024 h)
text_from V2 o s b e h = and_from (second_fits o s) (leb b 1024) e (le-leb b 1024 h)
text_from (V3 g) o s b e h = e

no_second : (op s : ℕ) → eqb op 3 ≡ true → second_fits (op_of op) s ≡ true → 0 ≡ s
no_second op s three e = sym (eqb-true s 0 (ap (λ (n : ℕ). second_fits (op_of n) s) (sym (eqb-true op 3 three)) ∙ e))

no_body : (op b : ℕ) → op ≤ 5 → eqb op 3 ≡ false → body_fits (op_of op) b ≡ true → 0 ≡ b
no_body zero b le n e = sym (eqb-true b 0 e)
no_body (suc zero) b le n e = sym (eqb-true b 0 e)
no_body (suc (suc zero)) b le n e = sym (eqb-true b 0 e)
no_body (suc (suc (suc zero))) b le n e = absurd (true≢false n)
no_body (suc (suc (suc (suc zero)))) b le n e = sym (eqb-true b 0 e)
no_body (suc (suc (suc (suc (suc zero))))) b le n e = sym (eqb-true b 0 e)
no_body (suc (suc (suc (suc (suc (suc op)))))) b le n e = absurd (omega arith)

-- what is read of a header in which the lengths fit the op
pub record TextIs (n op s b : ℕ) : Type 0 where
  pub second : second_len_from n op (cond (is_early_put n op) b s) ≡ s
  pub body : body_len_from n op (cond (is_early_put n op) b s) b ≡ b
  pub small : cond (is_early_put n op) b s < 256 ^ 2

early : (op s b : ℕ) (c : Bool) → eqb op 3 ≡ c → op ≤ 5 → second_fits (op_of op) s ≡ true → body_fits (op_of op) b ≡ true → (cond c 0 (cond c b s) ≡ s) × (cond c (cond c b s) 0 ≡ b)
early op s b true three le e f = (no_second op s three e, refl)
early op s b false three le e f = (refl, no_body op b le three f)

early_small : (c : Bool) (s b : ℕ) → s ≤ 255 → b ≤ 1024 → cond c b s < 256 ^ 2
early_small true s b h k = omega (arith, k)
early_small false s b h k = omega (arith, h)

pub text_again : (v : Version) (op s b : ℕ) → op ≤ highest_op v → s ≤ 255 → second_fits (op_of op) s ≡ true → body_fits (op_of op) b ≡ true → IsShortIn v b → TextIs (version_number v) op s b
text_again V1 op s b le small e f h = let r = early op s b (eqb op 3) refl (omega (arith, le)) e f in record { second = r.0; body = r.1; small = early_small (eqb op 3) s b small h }
text_again V2 op s b le small e f h = let r = early op s b (eqb op 3) refl (omega (arith, le)) e f in record { second = r.0; body = r.1; small = early_small (eqb op 3) s b small h }
text_again (V3 g) op s b le small e f h = record { second = refl; body = refl; small = omega (arith, small) }

-- the number of an op

pub op_again : (o : Op) → op_of (op_number o) ≡ o
op_again op.Noop = refl
op_again op.Get = refl
op_again op.Put = refl
op_again op.Del = refl
op_again op.Swap = refl
op_again op.Cas = refl
op_again op.Ask = refl
op_again op.Act = refl
op_again op.Seal = refl
op_again op.Tx = refl

pub op_found : (n : ℕ) → 1 ≤ n → n ≤ 10 → op_number (op_of n) ≡ n
op_found zero lo hi = absurd (omega arith)
op_found (suc zero) lo hi = refl
op_found (suc (suc zero)) lo hi = refl
op_found (suc (suc (suc zero))) lo hi = refl
op_found (suc (suc (suc (suc zero)))) lo hi = refl
op_found (suc (suc (suc (suc (suc zero))))) lo hi = refl
op_found (suc (suc (suc (suc (suc (suc zero)))))) lo hi = refl
op_found (suc (suc (suc (suc (suc (suc (suc zero))))))) lo hi = refl
op_found (suc (suc (suc (suc (suc (suc (suc (suc zero)))))))) lo hi = refl
op_found (suc (suc (suc (suc (suc (suc (suc (suc (suc zero))))))))) lo hi = refl
op_found (suc (suc (suc (suc (suc (suc (suc (suc (suc (suc zero)))))))))) lo hi = refl
op_found (suc (suc (suc (suc (suc (suc (suc (suc (suc (suc (suc n))))))))))) lo hi = absurd (omega arith)

pub op_one : (o : Op) → 1 ≤ op_number o
op_one op.Noop = omega arith
op_one op.Get = omega arith
op_one op.Put = omega arith
op_one op.Del = omega arith
op_one op.Swap = omega arith
op_one op.Cas = omega arith
op_one op.Ask = omega arith
op_one op.Act = omega arith
op_one op.Seal = omega arith
op_one op.Tx = omega arith

-- how long what fits an op may be

pub at_zero : (n high : ℕ) → eqb n 0 ≡ true → n ≤ high
at_zero n high e = let z = eqb-true n 0 e in omega (arith, z)

key_high : (n : ℕ) → is_key_len n ≡ true → n ≤ 255
key_high n e = leb-true n 255 (and_parts (leb 1 n) (leb n 255) e).1

pub first_high : (o : Op) (n : ℕ) → first_fits o n ≡ true → n ≤ 255
first_high op.Noop n e = at_zero n 255 e
first_high op.Get n e = key_high n e
first_high op.Put n e = key_high n e
first_high op.Del n e = key_high n e
first_high op.Swap n e = key_high n e
first_high op.Cas n e = key_high n e
first_high op.Ask n e = key_high n e
first_high op.Act n e = key_high n e
first_high op.Seal n e = at_zero n 255 e
first_high op.Tx n e = at_zero n 255 e

pub second_high : (o : Op) (n : ℕ) → second_fits o n ≡ true → n ≤ 255
second_high op.Noop n e = at_zero n 255 e
second_high op.Get n e = at_zero n 255 e
second_high op.Put n e = at_zero n 255 e
second_high op.Del n e = at_zero n 255 e
second_high op.Swap n e = key_high n e
second_high op.Cas n e = at_zero n 255 e
second_high op.Ask n e = leb-true n 255 e
second_high op.Act n e = leb-true n 255 e
second_high op.Seal n e = at_zero n 255 e
second_high op.Tx n e = at_zero n 255 e

value_high : (n : ℕ) → leb n 65535 ≡ true → n ≤ 131080
value_high n e = let h = leb-true n 65535 e in omega (arith, h)

pub body_high : (o : Op) (n : ℕ) → body_fits o n ≡ true → n ≤ 131080
body_high op.Noop n e = at_zero n 131080 e
body_high op.Get n e = at_zero n 131080 e
body_high op.Put n e = value_high n e
body_high op.Del n e = at_zero n 131080 e
body_high op.Swap n e = at_zero n 131080 e
body_high op.Cas n e = leb-true n 131080 (and_parts (leb 2 n) (leb n 131080) e).1
body_high op.Ask n e = value_high n e
body_high op.Act n e = value_high n e
body_high op.Seal n e = value_high n e
body_high op.Tx n e = leb-true n 131080 (and_parts (leb 5 n) (leb n 131080) e).1

-- what a version has keeps to its limits

op_high : (r : Bool) → op_number (cond r op.Ask op.Act) ≤ 10
op_high true = omega arith
op_high false = omega arith

pub op_within : (v : Version) (c : Command) → knows v c ≡ true → op_number (parts_of c).op ≤ highest_op v
op_within V1 Noop e = omega arith
op_within V1 (Get k) e = omega arith
op_within V1 (Put k x) e = omega arith
op_within V1 (Del k) e = omega arith
op_within V1 (Swap p) e = absurd (true≢false (sym e))
op_within V1 (Cas k x y) e = absurd (true≢false (sym e))
op_within V1 (Seal x) e = absurd (true≢false (sym e))
op_within V1 (Opaque p b) e = absurd (true≢false (sym e))
op_within V1 (Tx is) e = absurd (true≢false (sym e))
op_within V2 Noop e = omega arith
op_within V2 (Get k) e = omega arith
op_within V2 (Put k x) e = omega arith
op_within V2 (Del k) e = omega arith
op_within V2 (Swap p) e = omega arith
op_within V2 (Cas k x y) e = absurd (true≢false (sym e))
op_within V2 (Seal x) e = absurd (true≢false (sym e))
op_within V2 (Opaque p b) e = absurd (true≢false (sym e))
op_within V2 (Tx is) e = absurd (true≢false (sym e))
op_within (V3 g) Noop e = omega arith
op_within (V3 g) (Get k) e = omega arith
op_within (V3 g) (Put k x) e = omega arith
op_within (V3 g) (Del k) e = omega arith
op_within (V3 g) (Swap p) e = omega arith
op_within (V3 g) (Cas k x y) e = omega arith
op_within (V3 g) (Seal x) e = omega arith
op_within (V3 g) (Opaque p b) e = op_high p.reads
op_within (V3 g) (Tx is) e = omega arith

not_long : (n : ℕ) → not (ltb 1024 n) ≡ true → n ≤ 1024
not_long n e = ltb-false 1024 n (go (ltb 1024 n) e)
  where
    go : (a : Bool) → not a ≡ true → a ≡ false
    go true e = absurd (true≢false (sym e))
    go false e = refl

pub short_within : (v : Version) (c : Command) → knows v c ≡ true → IsShortIn v (length (parts_of c).body)
short_within V1 Noop e = omega arith
short_within V1 (Get k) e = omega arith
short_within V1 (Put k x) e = not_long (length x) e
short_within V1 (Del k) e = omega arith
short_within V1 (Swap p) e = omega arith
short_within V1 (Cas k x y) e = absurd (true≢false (sym e))
short_within V1 (Seal x) e = absurd (true≢false (sym e))
short_within V1 (Opaque p b) e = absurd (true≢false (sym e))
short_within V1 (Tx is) e = absurd (true≢false (sym e))
short_within V2 Noop e = omega arith
short_within V2 (Get k) e = omega arith
short_within V2 (Put k x) e = not_long (length x) e
short_within V2 (Del k) e = omega arith
short_within V2 (Swap p) e = omega arith
short_within V2 (Cas k x y) e = absurd (true≢false (sym e))
short_within V2 (Seal x) e = absurd (true≢false (sym e))
short_within V2 (Opaque p b) e = absurd (true≢false (sym e))
short_within V2 (Tx is) e = absurd (true≢false (sym e))
short_within (V3 g) c e = tt

early_again : (most : ℕ) (is : List ℕ) → AllByRecursion (λ i. number_of i ≤ most) is → are_early most is ≡ true
early_again most [] h = refl
early_again most (i ∷ is) h = and_from (leb (number_of i) most) (are_early most is) (le-leb _ _ h.0) (early_again most is h.1)

pub deps_within : (v : Version) (is : List ℕ) → AreDepsIn v is → are_in v is ≡ true
deps_within V1 is h = early_again (highest_in V1) is h
deps_within V2 is h = early_again (highest_in V2) is h
deps_within (V3 g) is h = refl

-- and the version has what keeps to them

not_either : (r : Bool) (n : ℕ) → n ≤ 5 → op_number (cond r op.Ask op.Act) ≤ n → ⊥
not_either true n le h = omega (arith, h, le)
not_either false n le h = omega (arith, h, le)

short : (n : ℕ) → n ≤ 1024 → not (ltb 1024 n) ≡ true
short n h = ap not (le-ltb 1024 n h)

pub op_known : (v : Version) (c : Command) → op_number (parts_of c).op ≤ highest_op v → IsShortIn v (length (parts_of c).body) → knows v c ≡ true
op_known V1 Noop h s = refl
op_known V1 (Get k) h s = refl
op_known V1 (Put k x) h s = short (length x) s
op_known V1 (Del k) h s = refl
op_known V1 (Swap p) h s = absurd (omega (arith, h))
op_known V1 (Cas k x y) h s = absurd (omega (arith, h))
op_known V1 (Seal x) h s = absurd (omega (arith, h))
op_known V1 (Opaque p b) h s = absurd (not_either p.reads 4 (omega arith) h)
op_known V1 (Tx is) h s = absurd (omega (arith, h))
op_known V2 Noop h s = refl
op_known V2 (Get k) h s = refl
op_known V2 (Put k x) h s = short (length x) s
op_known V2 (Del k) h s = refl
op_known V2 (Swap p) h s = refl
op_known V2 (Cas k x y) h s = absurd (omega (arith, h))
op_known V2 (Seal x) h s = absurd (omega (arith, h))
op_known V2 (Opaque p b) h s = absurd (not_either p.reads 5 (omega arith) h)
op_known V2 (Tx is) h s = absurd (omega (arith, h))
op_known (V3 g) c h s = refl

early_found : (most : ℕ) (is : List ℕ) → are_early most is ≡ true → AllByRecursion (λ i. number_of i ≤ most) is
early_found most [] e = tt
early_found most (i ∷ is) e = let p = and_parts (leb (number_of i) most) (are_early most is) e in (leb-true _ _ p.0, early_found most is p.1)

pub deps_found : (v : Version) (is : List ℕ) → AreInstances is → are_in v is ≡ true → AreDepsIn v is
deps_found V1 is h e = early_found (highest_in V1) is e
deps_found V2 is h e = early_found (highest_in V2) is e
deps_found (V3 g) is h e = deps_in_last g is h
