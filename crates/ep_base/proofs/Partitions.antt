-- A command is its parts.
use Rattle.std.proofs.Common.{◌≡◌, ℕ, ◌+◌, ◌≤◌, List, [], ◌∷◌, ◌++◌, length, drop, length-append, Option, Some, None, Bool, true, false, cond, refl, sym, ap, subst, ◌∙◌, true≢false, arith}
use Rattle.std.specs.Cmp.Derive.{both_true}
use Rattle.std.specs.Prelude.{◌≢◌, ◌&&◌, not, eqb, nat_le}
use Rattle.std.proofs.Math.Seq.{drop-append_seam}
use Rattle.std.proofs.lemmas.Bool.{eqb-true, leb-true, le-leb, and_parts}
use Rattle.std.proofs.lemmas.List.{append-nil, nil_from_length}
use Rattle.std.proofs.lemmas.Option.{same_Some}
use Rattle.ep_base.specs.Attributes.{same_list}
use Rattle.ep_base.specs.Commands.{Command, Noop, Get, Put, Del, Swap, Cas, Seal, Opaque, Tx}
use Rattle.ep_base.specs.Interference.{keys_of, listed, only_reads, key_of, second_key_of}
use Rattle.ep_base.specs.Ops.{reads, is_key_len, first_fits, second_fits, body_fits}
use Rattle.ep_base.specs.Items.{item_keys}
use Rattle.ep_base.specs.Partition.{PartsLaw}
use Rattle.ep_base.specs.CommandParts.{CommandParts, parts_of, command_with, command_in, command_of, are_parts, lengths_fit, is_twice, body_said, key_if_any, key_bytes, part_bytes, part_at, expected_in, new_in, is_short, is_comparison, items_of, tx_bytes, are_items, IsKey, IsSecond, IsShort, IsInRange}
use Rattle.ep_base.specs.Values.{most_value}
use Rattle.ep_base.specs.declared.op.Op.{Op}
use Rattle.ep_base.specs.declared.op.Op.TheVariants as op
use Rattle.ep_base.proofs.Keys.{keys_listed}
use Rattle.ep_base.proofs.Bodies.{part_again, tx_parts, tx_back, tx_again, tx_there, tx_len}
use Rattle.ep_base.proofs.Same.{Decides-same_list}

not_true : (b : Bool) → not b ≡ true → b ≡ true → ⊥
not_true true n e = true≢false (sym n)
not_true false n e = true≢false (sym e)

not_from : (b : Bool) → (b ≡ true → ⊥) → not b ≡ true
not_from true h = absurd (h refl)
not_from false h = refl

pub none_there : (xs : List ℕ) → eqb (length xs) 0 ≡ true → xs ≡ []
none_there xs e = nil_from_length xs (eqb-true (length xs) 0 e)

pub key_there : (k : List ℕ) → is_key_len (length k) ≡ true → IsKey k
key_there k e = let h = and_parts (nat_le 1 (length k)) (nat_le (length k) 255) e in (leb-true 1 (length k) h.0, leb-true (length k) 255 h.1)

pub key_from : (k : List ℕ) → IsKey k → is_key_len (length k) ≡ true
key_from k h = both_true (le-leb 1 (length k) h.0) (le-leb (length k) 255 h.1)

bytes_again : (l : List ℕ) → key_bytes (key_if_any l) ≡ l
bytes_again [] = refl
bytes_again (b ∷ bs) = refl

pub any_key : (k : List ℕ) → IsKey k → key_if_any k ≡ Some k
any_key [] h = absurd (let e : 1 ≤ 0 = h.0 in omega arith)
any_key (b ∷ bs) h = refl

twice_is : (k l : List ℕ) → IsKey l → is_twice k l ≡ same_list l k
twice_is k [] h = absurd (let e : 1 ≤ 0 = h.0 in omega arith)
twice_is k (b ∷ bs) h = refl

-- two keys that differ aren't one
apart : (k l : List ℕ) → IsKey l → not (is_twice k l) ≡ true → k ≢ l
apart k l h n e = not_true (is_twice k l) n (twice_is k l h ∙ (Decides-same_list l k).1 (sym e))

apart_from : (k l : List ℕ) → IsKey l → k ≢ l → not (is_twice k l) ≡ true
apart_from k l h n = not_from (is_twice k l) (λ e. n (sym ((Decides-same_list l k).0 (sym (twice_is k l h) ∙ e))))

abbrev made : Op → List ℕ → List ℕ → List ℕ → CommandParts
made o k l b = record { op = o; first = k; second = l; body = b }

same_made : (o : Op) {k l b : List ℕ} {k' l' b' : List ℕ} → k ≡ k' → l ≡ l' → b ≡ b' → made o k l b ≡ made o k' l' b'
same_made o e f g = λ i. record { op = o; first = e i; second = f i; body = g i }

-- what the test of the parts says
pub record Fits (o : Op) (k l b : List ℕ) : Type 0 where
  pub first : first_fits o (length k) ≡ true
  pub second : second_fits o (length l) ≡ true
  pub body : body_fits o (length b) ≡ true
  pub once : not (is_twice k l) ≡ true
  pub said : body_said o b ≡ true

pub fits : (o : Op) (k l b : List ℕ) → are_parts (made o k l b) ≡ true → Fits o k l b
fits o k l b e =
    let h = and_parts (lengths_fit (made o k l b)) (not (is_twice k l) && body_said o b) e in
    let lens = and_parts (first_fits o (length k)) (second_fits o (length l) && body_fits o (length b)) h.0 in
    let more = and_parts (second_fits o (length l)) (body_fits o (length b)) lens.1 in
    let rest = and_parts (not (is_twice k l)) (body_said o b) h.1 in
    record { first = lens.0; second = more.0; body = more.1; once = rest.0; said = rest.1 }

pub fits_from : (o : Op) (k l b : List ℕ) → Fits o k l b → are_parts (made o k l b) ≡ true
fits_from o k l b f = both_true (both_true f.first (both_true f.second f.body)) (both_true f.once f.said)

-- Comparisons' bodies.

pub new_again : (e n : Option (List ℕ)) → new_in (part_bytes e ++ part_bytes n) ≡ n
new_again e n =
    ap (λ (x : Option (List ℕ)). part_at (drop (length (part_bytes x)) (part_bytes e ++ part_bytes n))) (part_again e (part_bytes n))
    ∙ ap part_at (drop-append_seam (part_bytes e) (part_bytes n)) ∙ ap part_at (sym (append-nil (part_bytes n))) ∙ part_again n []

pub short_there : (o : Option (List ℕ)) → is_short o ≡ true → IsShort o
short_there None e = tt
short_there (Some v) e = leb-true (length v) most_value e

pub short_from : (o : Option (List ℕ)) → IsShort o → is_short o ≡ true
short_from None h = refl
short_from (Some v) h = le-leb (length v) most_value h

-- a comparison's body is its two parts
pub record Compares (b : List ℕ) : Type 0 where
  pub whole : b ≡ part_bytes (expected_in b) ++ part_bytes (new_in b)
  pub expected : IsShort (expected_in b)
  pub new : IsShort (new_in b)

pub compares : (b : List ℕ) → is_comparison b ≡ true → Compares b
compares b e =
    let whole = part_bytes (expected_in b) ++ part_bytes (new_in b) in
    let h = and_parts (same_list b whole) (is_short (expected_in b) && is_short (new_in b)) e in
    let short = and_parts (is_short (expected_in b)) (is_short (new_in b)) h.1 in
    record { whole = (Decides-same_list b whole).0 h.0; expected = short_there (expected_in b) short.0; new = short_there (new_in b) short.1 }

pub compares_from : (b : List ℕ) → Compares b → is_comparison b ≡ true
compares_from b c =
    both_true ((Decides-same_list b (part_bytes (expected_in b) ++ part_bytes (new_in b))).1 c.whole) (both_true (short_from (expected_in b) c.expected) (short_from (new_in b) c.new))

-- of two parts, one after the other
pub compares_both : (e n : Option (List ℕ)) → IsShort e → IsShort n → Compares (part_bytes e ++ part_bytes n)
compares_both e n s t =
    let at_e = part_again e (part_bytes n) in
    let at_n = new_again e n in
    record {
      whole = ap (λ (x : Option (List ℕ)). part_bytes x ++ part_bytes n) (sym at_e) ∙ ap (λ (x : Option (List ℕ)). part_bytes (expected_in (part_bytes e ++ part_bytes n)) ++ part_bytes x) (sym at_n);
      expected = subst IsShort (sym at_e) s;
      new = subst IsShort (sym at_n) t;
    }

-- The parts of the command that they make are these.

back_with : (o : Op) (k l b : List ℕ) → Fits o k l b → parts_of (command_with o k l b) ≡ made o k l b
back_with op.Noop k l b f = same_made op.Noop (sym (none_there k f.first)) (sym (none_there l f.second)) (sym (none_there b f.body))
back_with op.Get k l b f = same_made op.Get refl (sym (none_there l f.second)) (sym (none_there b f.body))
back_with op.Put k l b f = same_made op.Put refl (sym (none_there l f.second)) refl
back_with op.Del k l b f = same_made op.Del refl (sym (none_there l f.second)) (sym (none_there b f.body))
back_with op.Swap k l b f = same_made op.Swap refl refl (sym (none_there b f.body))
back_with op.Cas k l b f = same_made op.Cas refl (sym (none_there l f.second)) (let c = compares b f.said in sym c.whole)
back_with op.Ask k l b f = same_made op.Ask refl (bytes_again l) refl
back_with op.Act k l b f = same_made op.Act refl (bytes_again l) refl
back_with op.Seal k l b f = same_made op.Seal (sym (none_there k f.first)) (sym (none_there l f.second)) refl
back_with op.Tx k l b f = same_made op.Tx (sym (none_there k f.first)) (sym (none_there l f.second)) (tx_back b f.said)

second_range : (k l : List ℕ) → nat_le (length l) 255 ≡ true → not (is_twice k l) ≡ true → IsSecond k (key_if_any l)
second_range k [] e n = tt
second_range k (b ∷ bs) e n = let some : IsKey (b ∷ bs) = (omega arith, leb-true (length (b ∷ bs)) 255 e) in (some, apart k (b ∷ bs) some n)

range_with : (o : Op) (k l b : List ℕ) → Fits o k l b → IsInRange (command_with o k l b)
range_with op.Noop k l b f = tt
range_with op.Get k l b f = key_there k f.first
range_with op.Put k l b f = (key_there k f.first, leb-true (length b) most_value f.body)
range_with op.Del k l b f = key_there k f.first
range_with op.Swap k l b f = let second = key_there l f.second in (key_there k f.first, (second, apart k l second f.once))
range_with op.Cas k l b f = let c = compares b f.said in (key_there k f.first, (c.expected, c.new))
range_with op.Ask k l b f = (key_there k f.first, (second_range k l f.second f.once, leb-true (length b) most_value f.body))
range_with op.Act k l b f = (key_there k f.first, (second_range k l f.second f.once, leb-true (length b) most_value f.body))
range_with op.Seal k l b f = leb-true (length b) most_value f.body
range_with op.Tx k l b f = (tx_parts b f.said).1

pub back_is : (o : Op) (k l b : List ℕ) → are_parts (made o k l b) ≡ true → parts_of (command_with o k l b) ≡ made o k l b
back_is o k l b e = back_with o k l b (fits o k l b e)

pub range_is : (o : Op) (k l b : List ℕ) → are_parts (made o k l b) ≡ true → IsInRange (command_with o k l b)
range_is o k l b e = range_with o k l b (fits o k l b e)

-- the parts of a command are its parts

pub again_with : (c : Command) → IsInRange c → command_in (parts_of c) ≡ c
again_with Noop h = refl
again_with (Get k) h = refl
again_with (Put k v) h = refl
again_with (Del k) h = refl
again_with (Swap p) h = refl
again_with (Cas k e n) h = λ i. Cas k (part_again e (part_bytes n) i) (new_again e n i)
again_with (Seal v) h = refl
again_with (Tx is) h = ap Tx (tx_again is)
again_with (Opaque p b) h = go p.reads refl p.second refl h.1.0
  where
    go : (r : Bool) → p.reads ≡ r → (s : Option (List ℕ)) → p.second ≡ s → IsSecond p.first s → command_with (cond r op.Ask op.Act) p.first (key_bytes s) b ≡ Opaque p b
    go true e None f g = λ i. Opaque (record { first = p.first; second = sym f i; reads = sym e i }) b
    go false e None f g = λ i. Opaque (record { first = p.first; second = sym f i; reads = sym e i }) b
    go true e (Some l) f g = λ i. Opaque (record { first = p.first; second = (any_key l g.0 ∙ sym f) i; reads = sym e i }) b
    go false e (Some l) f g = λ i. Opaque (record { first = p.first; second = (any_key l g.0 ∙ sym f) i; reads = sym e i }) b

small : (b : List ℕ) → length b ≤ most_value → nat_le (length b) most_value ≡ true
small b h = le-leb (length b) most_value h

part_len : (e : Option (List ℕ)) → IsShort e → (1 ≤ length (part_bytes e)) × (length (part_bytes e) ≤ 65540)
part_len None h = (omega arith, omega arith)
part_len (Some v) h = (omega arith, omega arith)

body_len : (e n : Option (List ℕ)) → IsShort e → IsShort n → body_fits op.Cas (length (part_bytes e ++ part_bytes n)) ≡ true
body_len e n s t =
    let first = part_len e s in
    let second = part_len n t in
    let len : length (part_bytes e ++ part_bytes n) ≡ length (part_bytes e) + length (part_bytes n) = length-append (part_bytes e) (part_bytes n) in
    both_true (le-leb 2 (length (part_bytes e ++ part_bytes n)) (omega arith)) (le-leb (length (part_bytes e ++ part_bytes n)) 131080 (omega arith))

second_from : (k : List ℕ) (s : Option (List ℕ)) → IsSecond k s → (nat_le (length (key_bytes s)) 255 ≡ true) × (not (is_twice k (key_bytes s)) ≡ true)
second_from k None h = (refl, refl)
second_from k (Some l) h = (le-leb (length l) 255 h.0.1, apart_from k l h.0 h.1)

pub fits_with : (c : Command) → IsInRange c → are_parts (parts_of c) ≡ true
fits_with Noop h = refl
fits_with (Get k) h = fits_from op.Get k [] [] (record { first = key_from k h; second = refl; body = refl; once = refl; said = refl })
fits_with (Put k v) h = fits_from op.Put k [] v (record { first = key_from k h.0; second = refl; body = small v h.1; once = refl; said = refl })
fits_with (Del k) h = fits_from op.Del k [] [] (record { first = key_from k h; second = refl; body = refl; once = refl; said = refl })
fits_with (Swap p) h =
    fits_from op.Swap p.first p.second [] (record { first = key_from p.first h.0; second = key_from p.second h.1.0; body = refl; once = apart_from p.first p.second h.1.0 h.1.1; said = refl })
fits_with (Cas k e n) h =
    fits_from op.Cas k [] (part_bytes e ++ part_bytes n)
    (record { first = key_from k h.0; second = refl; body = body_len e n h.1.0 h.1.1; once = refl; said = compares_from (part_bytes e ++ part_bytes n) (compares_both e n h.1.0 h.1.1) })
fits_with (Seal v) h = fits_from op.Seal [] [] v (record { first = refl; second = refl; body = small v h; once = refl; said = refl })
fits_with (Tx is) h = fits_from op.Tx [] [] (tx_bytes is) (record { first = refl; second = refl; body = tx_len is h; once = refl; said = tx_there is h })
fits_with (Opaque p b) h = go p.reads
  where
    go : (r : Bool) → are_parts (made (cond r op.Ask op.Act) p.first (key_bytes p.second) b) ≡ true
    go true =
        let s = second_from p.first p.second h.1.0 in
        fits_from op.Ask p.first (key_bytes p.second) b (record { first = key_from p.first h.0; second = s.0; body = small b h.1.1; once = s.1; said = refl })
    go false =
        let s = second_from p.first p.second h.1.0 in
        fits_from op.Act p.first (key_bytes p.second) b (record { first = key_from p.first h.0; second = s.0; body = small b h.1.1; once = s.1; said = refl })

-- The command of parts.

pub of_fitting : (p : CommandParts) → are_parts p ≡ true → command_of p ≡ Some (command_in p)
of_fitting p e = ap (λ b. cond b (Some (command_in p)) None) e

pub of_then : (p : CommandParts) (c : Command) → command_of p ≡ Some c → (are_parts p ≡ true) × (command_in p ≡ c)
of_then p c e = go (are_parts p) refl e
  where
    go : (b : Bool) → are_parts p ≡ b → cond b (Some (command_in p)) None ≡ Some c → (are_parts p ≡ true) × (command_in p ≡ c)
    go true is e = (is, same_Some (command_in p) c e)
    go false is e = absurd (cc)

pub forth_lem : (c : Command) → IsInRange c → command_of (parts_of c) ≡ Some c
forth_lem c h = of_fitting (parts_of c) (fits_with c h) ∙ ap Some (again_with c h)

back_lem : (p : CommandParts) (c : Command) → command_of p ≡ Some c → parts_of c ≡ p
back_lem p c e = let h = of_then p c e in ap parts_of (sym h.1) ∙ back_is p.op p.first p.second p.body h.0

ranges_lem : (p : CommandParts) (c : Command) → command_of p ≡ Some c → IsInRange c
ranges_lem p c e = let h = of_then p c e in subst IsInRange h.1 (range_is p.op p.first p.second p.body h.0)

-- The keys.

any_second : (k : List ℕ) (s : Option (List ℕ)) → IsSecond k s → key_if_any (key_bytes s) ≡ s
any_second k None h = refl
any_second k (Some l) h = any_key l h.0

pub first_is : (c : Command) → IsInRange c → key_if_any (parts_of c).first ≡ key_of c
first_is Noop h = refl
first_is (Get k) h = any_key k h
first_is (Put k v) h = any_key k h.0
first_is (Del k) h = any_key k h
first_is (Swap p) h = any_key p.first h.0
first_is (Cas k e n) h = any_key k h.0
first_is (Seal v) h = refl
first_is (Tx is) h = refl
first_is (Opaque p b) h = any_key p.first h.0

pub second_is : (c : Command) → IsInRange c → key_if_any (parts_of c).second ≡ second_key_of c
second_is Noop h = refl
second_is (Get k) h = refl
second_is (Put k v) h = refl
second_is (Del k) h = refl
second_is (Swap p) h = any_key p.second h.1.0
second_is (Cas k e n) h = refl
second_is (Seal v) h = refl
second_is (Tx is) h = refl
second_is (Opaque p b) h = any_second p.first p.second h.1.0

pub keys_lem : (c : Command) → IsInRange c → keys_of c ≡ listed (key_if_any (parts_of c).first) ++ listed (key_if_any (parts_of c).second) ++ item_keys (items_of c)
keys_lem c h = keys_listed c ∙ (λ i. listed (sym (first_is c h) i) ++ listed (sym (second_is c h) i) ++ item_keys (items_of c))

pub reads_lem : (c : Command) → IsInRange c → items_of c ≡ [] → only_reads c ≡ reads (parts_of c).op
reads_lem Noop h e = refl
reads_lem (Get k) h e = refl
reads_lem (Put k v) h e = refl
reads_lem (Del k) h e = refl
reads_lem (Swap p) h e = refl
reads_lem (Cas k x n) h e = refl
reads_lem (Seal v) h e = refl
reads_lem (Tx is) h e = absurd (true≢false (sym h ∙ ap are_items e))
reads_lem (Opaque p b) h e = go p.reads
  where
    go : (r : Bool) → r ≡ reads (cond r op.Ask op.Act)
    go true = refl
    go false = refl

pub parts_law_lem : PartsLaw
parts_law_lem = record { back = back_lem; ranges = ranges_lem; forth = forth_lem; keys = keys_lem; reads = reads_lem }
