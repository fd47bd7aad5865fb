-- What was read as a bundle of version 1 or 2 is read as one of any version, and is of version 1 or 2.
use Rattle.std.proofs.Common.{◌≡◌, ◌≤◌, ℕ, zero, suc, Bool, true, false, cond, ltb, ◌||◌, List, [], Ok, Err, refl, sym, ap, subst, ◌∙◌, arith}
use Rattle.std.proofs.lemmas.Bool.Decides.{nat_tests}
use Rattle.ep_base.specs.Quorums.{size}
use Rattle.ep_base.specs.Versions.{version_number, version_of}
use Rattle.ep_base.specs.declared.version.Version.{Version}
use Rattle.ep_bundle.specs.Bytes.{magic}
use Rattle.ep_bundle.specs.Headers.{cluster, edition, header_of, map_in}
use Rattle.ep_bundle.specs.Journals.{Contents, ReadsJournals, Then, closing, ended}
use Rattle.ep_bundle.specs.Reading.{Left, Reading, and_then, bad, field, many, number}
use Rattle.ep_bundle.specs.Stages.{receipt}
use Rattle.ep_bundle.specs.declared.bundle_fault.BundleFault.{BundleFault}
use Rattle.ep_bundle.specs.declared.bundle_field.BundleField.TheVariants as named
use Rattle.ep_bundle.specs.declared.bundle_header.BundleHeader.{BundleHeader}
use Rattle.ep_bundle.specs.declared.wanted.Wanted.TheVariants.{Range}
use Rattle.ep_journal.specs.Openings.{Opening}
use Rattle.ep_journal.specs.declared.entry.Entry.{Entry}
use Rattle.ep_main.specs.Upgrades.{Reads, ReadsEarly}

and_then_ok : {A B : Type 0} (r : Reading A) (k : A → Left → Reading B) (b : B × Left) → and_then r k ≡ Ok b → (p : A × Left) × (r ≡ Ok p) × (k p.0 p.1 ≡ Ok b)
and_then_ok {A} {B} (Ok p) k b h = (p, refl, h)
and_then_ok {A} {B} (Err e) k b h = absurd (let bad : ◌≡◌ {A = Reading B} (Err e) (Ok b) = h in cc)

and_then_is : {A B : Type 0} (r : Reading A) (k : A → Left → Reading B) (p : A × Left) (b : B × Left) → r ≡ Ok p → k p.0 p.1 ≡ Ok b → and_then r k ≡ Ok b
and_then_is {A} {B} r k p b is h = subst (λ (q : Reading A). and_then q k ≡ Ok b) (sym is) h

-- the field of the version

inside : (x high : ℕ) (e e' : BundleFault) (q p : ℕ × Left) (b : Bool) → (ltb x 1 || ltb high x) ≡ b → high ≤ 3 → cond {A = Reading ℕ} b (Err e) (Ok q) ≡ Ok p → cond {A = Reading ℕ} (ltb x 1 || ltb 3 x) (Err e') (Ok q) ≡ Ok p
inside x high e e' q p true test most h = absurd (let bad : ◌≡◌ {A = Reading ℕ} (Err e) (Ok p) = h in cc)
inside x high e e' q p false test most h =
    let within : (ltb x 1 || ltb 3 x) ≡ false = grind (arith, nat_tests, test, most) in
    subst (λ (t : Bool). cond {A = Reading ℕ} t (Err e') (Ok q) ≡ Ok p) (sym within) (let ok : ◌≡◌ {A = Reading ℕ} (Ok q) (Ok p) = h in ok)

field_wider : (high : ℕ) (l : Left) (p : ℕ × Left) → high ≤ 3 → field named.Version 1 1 high l ≡ Ok p → field named.Version 1 1 3 l ≡ Ok p
field_wider high l p most h = go (number named.Version 1 l) h
  where
    go : (r : Reading ℕ) → and_then r (λ x l'. cond {A = Reading ℕ} (ltb x 1 || ltb high x) (Err (bad named.Version 1 (Range 1 high) l)) (Ok (x, l'))) ≡ Ok p
        → and_then r (λ x l'. cond {A = Reading ℕ} (ltb x 1 || ltb 3 x) (Err (bad named.Version 1 (Range 1 3) l)) (Ok (x, l'))) ≡ Ok p
    go (Ok q) g = inside q.0 high (bad named.Version 1 (Range 1 high) l) (bad named.Version 1 (Range 1 3) l) q p (ltb q.0 1 || ltb high q.0) refl most g
    go (Err e) g = absurd (let bad : ◌≡◌ {A = Reading ℕ} (Err e) (Ok p) = g in cc)

most_of : (x high : ℕ) (e : BundleFault) (q p : ℕ × Left) (b : Bool) → (ltb x 1 || ltb high x) ≡ b → x ≡ q.0 → cond {A = Reading ℕ} b (Err e) (Ok q) ≡ Ok p → p.0 ≤ high
most_of x high e q p true test is h = absurd (let bad : ◌≡◌ {A = Reading ℕ} (Err e) (Ok p) = h in cc)
most_of x high e q p false test is h =
    let same : q ≡ p = (let ok : ◌≡◌ {A = Reading ℕ} (Ok q) (Ok p) = h in cc) in
    let number : x ≡ p.0 = is ∙ ap (λ (r : ℕ × Left). r.0) same in
    let low : x ≤ high = grind (arith, nat_tests, test) in
    omega arith

field_most : (high : ℕ) (l : Left) (p : ℕ × Left) → field named.Version 1 1 high l ≡ Ok p → p.0 ≤ high
field_most high l p h = go (number named.Version 1 l) h
  where
    go : (r : Reading ℕ) → and_then r (λ x l'. cond {A = Reading ℕ} (ltb x 1 || ltb high x) (Err (bad named.Version 1 (Range 1 high) l)) (Ok (x, l'))) ≡ Ok p → p.0 ≤ high
    go (Ok q) g = most_of q.0 high (bad named.Version 1 (Range 1 high) l) q p (ltb q.0 1 || ltb high q.0) refl refl g
    go (Err e) g = absurd (let bad : ◌≡◌ {A = Reading ℕ} (Err e) (Ok p) = g in cc)

-- the header

header_wider : (l : Left) (p : BundleHeader × Left) → header_of 1 2 l ≡ Ok p → header_of 1 3 l ≡ Ok p
header_wider l p h =
    let a = and_then_ok (field named.Magic 4 magic magic l) _ p h in
    let b = and_then_ok (field named.Version 1 1 2 a.0.1) _ p a.2 in
    and_then_is (field named.Magic 4 magic magic l) _ a.0 p a.1 (and_then_is (field named.Version 1 1 3 a.0.1) _ b.0 p (field_wider 2 a.0.1 b.0 (omega arith) b.1) b.2)

early_number : (n : ℕ) → n ≤ 2 → version_number (version_of n 0) ≤ 2
early_number zero low = omega arith
early_number (suc zero) low = omega arith
early_number (suc (suc zero)) low = omega arith
early_number (suc (suc (suc n))) low = absurd (omega arith)

abbrev edition_version : Version → Reading (Version × ℕ) → Version
edition_version v (Ok q) = q.0.0
edition_version v (Err e) = v

early_edition : (n : ℕ) (l : Left) (p : (Version × ℕ) × Left) → n ≤ 2 → edition n l ≡ Ok p → version_number p.0.0 ≤ 2
early_edition zero l p low h =
    let same : version_of 0 0 ≡ p.0.0 = ap (edition_version (version_of 0 0)) h in subst (λ (v : Version). version_number v ≤ 2) same (early_number 0 low)
early_edition (suc zero) l p low h =
    let same : version_of 1 0 ≡ p.0.0 = ap (edition_version (version_of 1 0)) h in subst (λ (v : Version). version_number v ≤ 2) same (early_number 1 low)
early_edition (suc (suc zero)) l p low h =
    let same : version_of 2 0 ≡ p.0.0 = ap (edition_version (version_of 2 0)) h in subst (λ (v : Version). version_number v ≤ 2) same (early_number 2 low)
early_edition (suc (suc (suc n))) l p low h = absurd (omega arith)

abbrev header_version : Version → Reading BundleHeader → Version
header_version v (Ok p) = p.0.version
header_version v (Err e) = v

early_header : (l : Left) (p : BundleHeader × Left) → header_of 1 2 l ≡ Ok p → version_number p.0.version ≤ 2
early_header l p h =
    let a = and_then_ok (field named.Magic 4 magic magic l) _ p h in
    let b = and_then_ok (field named.Version 1 1 2 a.0.1) _ p a.2 in
    let c = and_then_ok (cluster b.0.1) _ p b.2 in
    let d = and_then_ok (edition b.0.0 c.0.1) _ p c.2 in
    let e = and_then_ok (number named.Receipts 4 d.0.1) _ p d.2 in
    let m = and_then_ok (map_in d.0.0.0 e.0.1) _ p e.2 in
    let same : d.0.0.0 ≡ p.0.version = ap (header_version d.0.0.0) m.2 in
    subst (λ (v : Version). version_number v ≤ 2) same (early_edition b.0.0 c.0.1 d.0 (field_most 2 a.0.1 b.0 b.1) d.1)

-- the bundle

then_as :
    {A B : Type 0} (r s : Reading A) (K : A → Left → Reading B → Type 0) (b : B × Left) → ((p : A × Left) → r ≡ Ok p → s ≡ Ok p) → Then r K (Ok b) → Then s K (Ok b)
then_as {A} {B} r s K b same h = go r refl h
  where
    go : (q : Reading A) → r ≡ q → Then q K (Ok b) → Then s K (Ok b)
    go (Ok p) is g = subst (λ (z : Reading A). Then z K (Ok b)) (sym (same p is)) g
    go (Err e) is g = absurd (let bad : ◌≡◌ {A = Reading B} (Ok b) (Err e) = g in cc)

-- what stands after a header
abbrev After : BundleHeader → Left → Reading Contents → Type 0
After h l o = (p : Reading (List (List Entry))) × ReadsJournals h.version h.opening h.cluster (size h.cluster) [] l p × Then p (λ ess l o. o ≡ closing h.version h.opening h.cluster h.receipts ess l) o

pub read_wider : (zs : List ℕ) (p : Contents × Left) → ReadsEarly zs (Ok p) → Reads zs (Ok p)
read_wider zs p h = let l : Left = record { at = 0; bytes = zs } in then_as (header_of 1 2 l) (header_of 1 3 l) After p (header_wider l) h

abbrev closed_version : Version → Reading Contents → Version
closed_version v (Ok p) = p.0.0.version
closed_version v (Err e) = v

closing_version :
    (v : Version) (base : Opening) (f k : ℕ) (ess : List (List Entry)) (l : Left) (p : Contents × Left) → closing v base f k ess l ≡ Ok p → p.0.0.version ≡ v
closing_version v base f k ess l p h =
    let a = and_then_ok (many (receipt v (size f)) k [] l) _ p h in
    let b = and_then_ok (ended a.0.1) _ p a.2 in
    sym (ap (closed_version v) b.2)

after_version : (h : BundleHeader) (l : Left) (p : Contents × Left) → After h l (Ok p) → p.0.0.version ≡ h.version
after_version h l p (Ok q, reads, is) = closing_version h.version h.opening h.cluster h.receipts q.0 q.1 p (sym is)
after_version h l p (Err e, reads, is) = absurd (let bad : ◌≡◌ {A = Reading Contents} (Ok p) (Err e) = is in cc)

pub read_early : (zs : List ℕ) (p : Contents × Left) → ReadsEarly zs (Ok p) → version_number p.0.0.version ≤ 2
read_early zs p h = go (header_of 1 2 l) refl h
  where
    l : Left
    l = record { at = 0; bytes = zs }

    go : (q : Reading BundleHeader) → header_of 1 2 l ≡ q → Then q After (Ok p) → version_number p.0.0.version ≤ 2
    go (Ok r) is g = subst (λ (v : Version). version_number v ≤ 2) (sym (after_version r.0 r.1 p g)) (early_header l r is)
    go (Err e) is g = absurd (let bad : ◌≡◌ {A = Reading Contents} (Ok p) (Err e) = g in cc)
