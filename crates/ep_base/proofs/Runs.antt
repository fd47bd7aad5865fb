-- The parts of a command in its run of bytes, and those of a comparison's body.
use Rattle.std.proofs.Common.{◌≡◌, ℕ, ◌+◌, ◌-◌, ◌≤◌, ◌<◌, List, [], ◌∷◌, ◌++◌, length, take, drop, append_assoc, length-append, length-take-le, length-drop, Option, Some, None, Result, Ok, Err, Bool, true, false, cond, refl, sym, ap, subst, ◌∙◌, arith}
use Rattle.std.specs.Prelude.{◌↔◌, ◌&&◌, eqb, IsTrue, IfOk}
use Rattle.std.specs.Cmp.{both_ways}
use Rattle.std.proofs.Math.Seq.{take-append_seam, drop-append_seam}
use Rattle.std.proofs.lemmas.Bool.{eqb-true, eq-eqb, and_parts}
use Rattle.std.proofs.lemmas.List.{append-nil, take-append-drop, drop-drop, drop-take, take_all, take_rest}
use Rattle.ep_base.specs.Commands.{Command, Cas, Opaque}
use Rattle.ep_base.specs.CommandParts.{CommandParts, parts_of, command_in, command_with, command_of, are_parts, cut, body_said, key_if_any, key_bytes, part_bytes, part_at, expected_in, new_in, is_short, is_comparison, IsShort, IsPartLen, IsInRange}
use Rattle.ep_base.specs.Ops.{is_key_len}
use Rattle.ep_base.specs.Sameness.{same_command}
use Rattle.ep_base.specs.Touched.{Touched}
use Rattle.ep_base.specs.declared.command_fault.CommandFault.{CommandFault}
use Rattle.ep_base.specs.declared.op.Op.{Op}
use Rattle.ep_base.specs.declared.op.Op.TheVariants as op
use Rattle.ep_base.proofs.Partitions.{key_there, short_there, fits, fits_with, of_then, back_is, range_is, forth_lem, again_with, Compares, compares, compares_from}
use Rattle.ep_base.proofs.Same.{Decides-same_command}

-- A run of bytes that is a command's.

pub view_parts : (o : Op) (run : List ℕ) (m n : ℕ) (s : Command) → are_parts (cut o run m n) ≡ true → command_in (cut o run m n) ≡ s → parts_of s ≡ cut o run m n
view_parts o run m n s e v = ap parts_of (sym v) ∙ back_is o (take m run) (take n (drop m run)) (drop (m + n) run) e

pub view_range : (o : Op) (run : List ℕ) (m n : ℕ) (s : Command) → are_parts (cut o run m n) ≡ true → command_in (cut o run m n) ≡ s → IsInRange s
view_range o run m n s e v = subst IsInRange v (range_is o (take m run) (take n (drop m run)) (drop (m + n) run) e)

pub view_fits : (o : Op) (run : List ℕ) (m n : ℕ) (s : Command) → are_parts (cut o run m n) ≡ true → command_in (cut o run m n) ≡ s → are_parts (parts_of s) ≡ true
view_fits o run m n s e v = ap are_parts (view_parts o run m n s e v) ∙ e

pub view_again : (o : Op) (run : List ℕ) (m n : ℕ) (s : Command) → are_parts (cut o run m n) ≡ true → command_in (cut o run m n) ≡ s → command_of (parts_of s) ≡ Some s
view_again o run m n s e v = forth_lem s (view_range o run m n s e v)

abbrev all_of : CommandParts → List ℕ
all_of p = p.first ++ p.second ++ p.body

cut_whole : (run : List ℕ) (m n : ℕ) → take m run ++ take n (drop m run) ++ drop (m + n) run ≡ run
cut_whole run m n =
    append_assoc (take m run) (take n (drop m run)) (drop (m + n) run)
    ∙ ap (λ x. take m run ++ (take n (drop m run) ++ x)) (sym (drop-drop n m run))
    ∙ ap (λ x. take m run ++ x) (take-append-drop n (drop m run))
    ∙ take-append-drop m run

pub view_whole : (o : Op) (run : List ℕ) (m n : ℕ) (s : Command) → are_parts (cut o run m n) ≡ true → command_in (cut o run m n) ≡ s → run ≡ all_of (parts_of s)
view_whole o run m n s e v = sym (ap all_of (view_parts o run m n s e v) ∙ cut_whole run m n)

pub view_body : (o : Op) (run : List ℕ) (m n : ℕ) (s : Command) → are_parts (cut o run m n) ≡ true → command_in (cut o run m n) ≡ s → (xs : List ℕ) → xs ≡ run → take (length xs - (m + n)) (drop (m + n) xs) ≡ (parts_of s).body
view_body o run m n s e v xs is = take_rest xs (m + n) ∙ ap (λ x. drop (m + n) x) is ∙ sym (ap (λ (p : CommandParts). p.body) (view_parts o run m n s e v))

pub view_second : (o : Op) (run : List ℕ) (m n : ℕ) (s : Command) → are_parts (cut o run m n) ≡ true → command_in (cut o run m n) ≡ s → (xs : List ℕ) → xs ≡ run → take (m + n - m) (drop m xs) ≡ (parts_of s).second
view_second o run m n s e v xs is =
    ap (λ k. take k (drop m xs)) (let f : m + n - m ≡ n = omega arith in f) ∙ ap (λ x. take n (drop m x)) is ∙ sym (ap (λ (p : CommandParts). p.second) (view_parts o run m n s e v))

-- how long they are
pub record Lens (o : Op) (m n : ℕ) (s : Command) : Type 0 where
  pub op : (parts_of s).op ≡ o
  pub first : length (parts_of s).first ≡ m
  pub second : length (parts_of s).second ≡ n

pub view_lens : (o : Op) (run : List ℕ) (m n : ℕ) (s : Command) → m + n ≤ length run → are_parts (cut o run m n) ≡ true → command_in (cut o run m n) ≡ s → Lens o m n s
view_lens o run m n s le e v =
    let p = view_parts o run m n s e v in
    let rest = length-drop m run in
    record {
      op = ap (λ (x : CommandParts). x.op) p;
      first = ap (λ (x : CommandParts). length x.first) p ∙ length-take-le m run (omega arith);
      second = ap (λ (x : CommandParts). length x.second) p ∙ length-take-le n (drop m run) (omega arith);
    }

-- Keys.

-- Sameness.

-- the op, how long the keys are, and all the bytes
pub record Alike (p q : CommandParts) : Type 0 where
  pub op : p.op ≡ q.op
  pub first : length p.first ≡ length q.first
  pub second : length p.second ≡ length q.second
  pub whole : all_of p ≡ all_of q

first_of : (p : CommandParts) → take (length p.first) (all_of p) ≡ p.first
first_of p = ap (λ x. take (length p.first) x) (append_assoc p.first p.second p.body) ∙ take-append_seam p.first (p.second ++ p.body)

rest_of : (p : CommandParts) → drop (length p.first) (all_of p) ≡ p.second ++ p.body
rest_of p = ap (λ x. drop (length p.first) x) (append_assoc p.first p.second p.body) ∙ drop-append_seam p.first (p.second ++ p.body)

-- parts that are alike are the same
pub alike_same : (p q : CommandParts) → Alike p q → p ≡ q
alike_same p q a =
    let first : p.first ≡ q.first = sym (first_of p) ∙ (λ i. take (a.first i) (a.whole i)) ∙ first_of q in
    let rest : p.second ++ p.body ≡ q.second ++ q.body = sym (rest_of p) ∙ (λ i. drop (a.first i) (a.whole i)) ∙ rest_of q in
    let second : p.second ≡ q.second = sym (take-append_seam p.second p.body) ∙ (λ i. take (a.second i) (rest i)) ∙ take-append_seam q.second q.body in
    let body : p.body ≡ q.body = sym (drop-append_seam p.second p.body) ∙ (λ i. drop (a.second i) (rest i)) ∙ drop-append_seam q.second q.body in
    λ i. record { op = a.op i; first = first i; second = second i; body = body i }

pub same_alike : (p q : CommandParts) → p ≡ q → Alike p q
same_alike p q e =
    record {
      op = ap (λ (x : CommandParts). x.op) e;
      first = ap (λ (x : CommandParts). length x.first) e;
      second = ap (λ (x : CommandParts). length x.second) e;
      whole = ap all_of e;
    }

pub parts_same : (c d : Command) → IsInRange c → IsInRange d → Alike (parts_of c) (parts_of d) → c ≡ d
parts_same c d h k a = sym (again_with c h) ∙ ap command_in (alike_same (parts_of c) (parts_of d) a) ∙ again_with d k

pub same_parts : (c d : Command) → c ≡ d → Alike (parts_of c) (parts_of d)
same_parts c d e = same_alike (parts_of c) (parts_of d) (ap parts_of e)

-- two commands with such parts have the same heads where these are the same
abbrev SameHeads : Command → Command → Type 0
SameHeads c d = ((parts_of c).op ≡ (parts_of d).op) × (length (parts_of c).first ≡ length (parts_of d).first) × (length (parts_of c).second ≡ length (parts_of d).second)

pub heads_then : (o p : Op) (m n k l : ℕ) (c d : Command) → Lens o m n c → Lens p k l d → o ≡ p → m ≡ k → n ≡ l → SameHeads c d
heads_then o p m n k l c d x y e f g = (x.op ∙ e ∙ sym y.op, x.first ∙ f ∙ sym y.first, x.second ∙ g ∙ sym y.second)

pub then_heads : (o p : Op) (m n k l : ℕ) (c d : Command) → Lens o m n c → Lens p k l d → SameHeads c d → (o ≡ p) × (m ≡ k) × (n ≡ l)
then_heads o p m n k l c d x y h = (sym x.op ∙ h.0 ∙ y.op, sym x.first ∙ h.1 ∙ y.first, sym x.second ∙ h.2 ∙ y.second)

pub same_where : (c d : Command) → IsInRange c → IsInRange d → SameHeads c d → (t : Bool) → (IsTrue t ↔ (all_of (parts_of c) ≡ all_of (parts_of d))) → IsTrue t ↔ (c ≡ d)
same_where c d h k heads t w =
    (λ is. parts_same c d h k (record { op = heads.0; first = heads.1; second = heads.2; whole = w.0 is }), λ e. w.1 (let a = same_parts c d e in a.whole))

pub tested : (c d : Command) (t : Bool) → (IsTrue t ↔ (c ≡ d)) → t ≡ same_command c d
tested c d t w = both_ways t (same_command c d) (λ is. (Decides-same_command c d).1 (w.0 is)) (λ is. w.1 ((Decides-same_command c d).0 is))

-- Making commands.

pub cas_range : (k : List ℕ) (e n : Option (List ℕ)) → (is_key_len (length k) && (is_short e && is_short n)) ≡ true → IsInRange (Cas k e n)
cas_range k e n h =
    let p = and_parts (is_key_len (length k)) (is_short e && is_short n) h in
    let q = and_parts (is_short e) (is_short n) p.1 in
    (key_there k p.0, (short_there e q.0, short_there n q.1))

cas_cut : (k run : List ℕ) (e n : Option (List ℕ)) → run ≡ k ++ (part_bytes e ++ part_bytes n) → cut op.Cas run (length k) 0 ≡ parts_of (Cas k e n)
cas_cut k run e n is =
    let body = part_bytes e ++ part_bytes n in
    let first : take (length k) run ≡ k = ap (λ x. take (length k) x) is ∙ take-append_seam k body in
    let rest : drop (length k + 0) run ≡ body = ap (λ m. drop m run) (let f : length k + 0 ≡ length k = omega arith in f) ∙ ap (λ x. drop (length k) x) is ∙ drop-append_seam k body in
    λ i. record { op = op.Cas; first = first i; second = []; body = rest i }

pub cas_fits : (k run : List ℕ) (e n : Option (List ℕ)) → IsInRange (Cas k e n) → run ≡ k ++ (part_bytes e ++ part_bytes n) → (length k + 0 ≤ length run) × (are_parts (cut op.Cas run (length k) 0) ≡ true)
cas_fits k run e n h is =
    let len : length run ≡ length k + length (part_bytes e ++ part_bytes n) = ap length is ∙ length-append k (part_bytes e ++ part_bytes n) in
    (omega arith, ap are_parts (cas_cut k run e n is) ∙ fits_with (Cas k e n) h)

pub cas_made : (k run : List ℕ) (e n : Option (List ℕ)) → IsInRange (Cas k e n) → run ≡ k ++ (part_bytes e ++ part_bytes n) → command_in (cut op.Cas run (length k) 0) ≡ Cas k e n
cas_made k run e n h is = ap command_in (cas_cut k run e n is) ∙ again_with (Cas k e n) h

range_of : (p : CommandParts) → are_parts p ≡ true → IsInRange (command_in p)
range_of p e = range_is p.op p.first p.second p.body e

abbrev opaque_parts : Touched → List ℕ → List ℕ → CommandParts
opaque_parts p l b = record { op = cond p.reads op.Ask op.Act; first = p.first; second = l; body = b }

opaque_again : (p : Touched) (l b : List ℕ) → key_if_any l ≡ p.second → command_in (opaque_parts p l b) ≡ Opaque p b
opaque_again p l b is = go p.reads refl
  where
    go : (r : Bool) → p.reads ≡ r → command_with (cond r op.Ask op.Act) p.first l b ≡ Opaque p b
    go true e = λ i. Opaque (record { first = p.first; second = is i; reads = sym e i }) b
    go false e = λ i. Opaque (record { first = p.first; second = is i; reads = sym e i }) b

pub opaque_made : (p : Touched) (l b : List ℕ) (c : Command) → key_if_any l ≡ p.second → command_of (opaque_parts p l b) ≡ Some c → c ≡ Opaque p b
opaque_made p l b c is e = let h = of_then (opaque_parts p l b) c e in sym h.1 ∙ opaque_again p l b is

bytes_if_any : (l : List ℕ) (o : Option (List ℕ)) → key_if_any l ≡ o → key_bytes o ≡ l
bytes_if_any [] o e = sym (ap key_bytes e)
bytes_if_any (x ∷ xs) o e = sym (ap key_bytes e)

pub opaque_in : (p : Touched) (l b : List ℕ) → key_if_any l ≡ p.second → command_of (opaque_parts p l b) ≡ None ↔ ¬ IsInRange (Opaque p b)
opaque_in p l b is =
    let same : opaque_parts p l b ≡ parts_of (Opaque p b) = λ i. opaque_parts p (sym (bytes_if_any l p.second is) i) b in (
      λ none h. none_some (Opaque p b) (sym none ∙ ap command_of same ∙ forth_lem (Opaque p b) h),
      λ n. go n (are_parts (opaque_parts p l b)) refl,
    )
  where
    none_some : (c : Command) → None ≡ Some c → ⊥
    none_some c e = cc

    go : ¬ IsInRange (Opaque p b) → (t : Bool) → are_parts (opaque_parts p l b) ≡ t → cond t (Some (command_in (opaque_parts p l b))) None ≡ None
    go n true e = absurd (n (subst IsInRange (opaque_again p l b is) (range_of (opaque_parts p l b) e)))
    go n false e = refl

-- what making one of its parts gives
pub opaque_ok : (p : Touched) (l b : List ℕ) (o : Op) → o ≡ cond p.reads op.Ask op.Act → key_if_any l ≡ p.second → (r : Result Command CommandFault) → IfOk r (λ c. command_of (record { op = o; first = p.first; second = l; body = b }) ≡ Some c) → IfOk r (λ c. c ≡ Opaque p b)
opaque_ok p l b o e is (Ok c) h = opaque_made p l b c is (ap (λ x. command_of (record { op = x; first = p.first; second = l; body = b })) (sym e) ∙ h)
opaque_ok p l b o e is (Err fault) h = h

pub opaque_err : (p : Touched) (l b : List ℕ) (o : Op) → o ≡ cond p.reads op.Ask op.Act → key_if_any l ≡ p.second → (X : Type 0) → (X ↔ (command_of (record { op = o; first = p.first; second = l; body = b }) ≡ None)) → X ↔ ¬ IsInRange (Opaque p b)
opaque_err p l b o e is X h =
    let turn : command_of (record { op = o; first = p.first; second = l; body = b }) ≡ command_of (opaque_parts p l b) = ap (λ x. command_of (record { op = x; first = p.first; second = l; body = b })) e in
    let exact = opaque_in p l b is in
    (λ x. exact.0 (sym turn ∙ h.0 x), λ n. h.1 (turn ∙ exact.1 n))

-- a comparison's body is one
pub cas_body : (s : Command) → are_parts (parts_of s) ≡ true → (parts_of s).op ≡ op.Cas → is_comparison (parts_of s).body ≡ true
cas_body s e is = let p = parts_of s in let f = fits p.op p.first p.second p.body e in subst (λ o. body_said o p.body ≡ true) is f.said

pub cas_said : (s : Command) → IsInRange s → (parts_of s).op ≡ op.Cas → Cas (parts_of s).first (expected_in (parts_of s).body) (new_in (parts_of s).body) ≡ s
cas_said s h is = let p = parts_of s in sym (ap (λ o. command_with o p.first p.second p.body) is) ∙ again_with s h

-- Comparisons' bodies.

len_is : (b : List ℕ) (n : ℕ) → IsPartLen b (Some n) → n ≡ length (part_bytes (part_at b))
len_is b n h = sym (length-take-le n b h.0) ∙ ap length h.1

rest_at : (b : List ℕ) (n : ℕ) → IsPartLen b (Some n) → part_at (drop n b) ≡ new_in b
rest_at b n h = ap (λ k. part_at (drop k b)) (len_is b n h)

-- where the bytes are a comparison's body, they begin with a part
begins : {X : Type 0} (b : List ℕ) → IsPartLen b None → is_comparison b ≡ true → X
begins b none is = let c = compares b is in absurd (none c.expected (part_bytes (new_in b)) c.whole)

-- and so does the rest
goes_on : {X : Type 0} (b : List ℕ) (n : ℕ) → IsPartLen b (Some n) → IsPartLen (drop n b) None → is_comparison b ≡ true → X
goes_on b n some none is =
    let c = compares b is in
    let short : IsShort (part_at (drop n b)) = subst IsShort (sym (rest_at b n some)) c.new in
    let rest : drop n b ≡ part_bytes (new_in b) = ap (λ k. drop k b) (len_is b n some) ∙ ap (λ x. drop (length (part_bytes (part_at b))) x) c.whole ∙ drop-append_seam (part_bytes (expected_in b)) (part_bytes (new_in b)) in
    absurd (none short [] (rest ∙ sym (append-nil (part_bytes (new_in b))) ∙ ap (λ x. part_bytes x ++ []) (sym (rest_at b n some))))

false_where : (t : Bool) → (t ≡ true → ⊥) → false ≡ t
false_where true h = absurd (h refl)
false_where false h = refl

pub no_second : (b r : List ℕ) (n : ℕ) → IsPartLen b (Some n) → r ≡ drop n b → IsPartLen r None → false ≡ is_comparison b
no_second b r n some e none = false_where (is_comparison b) (λ is. goes_on b n some (subst (λ x. IsPartLen x None) e none) is)

whole_then : (b : List ℕ) (n m : ℕ) → IsPartLen b (Some n) → IsPartLen (drop n b) (Some m) → n + m ≡ length b → Compares b
whole_then b n m first second sum =
    let at = rest_at b n first in
    let all : take m (drop n b) ≡ drop n b = take_all m (drop n b) (let e = length-drop n b in omega arith) in
    record {
      whole = sym (take-append-drop n b) ∙ (λ i. first.1 i ++ (sym all ∙ second.1 ∙ ap part_bytes at) i);
      expected = first.2;
      new = subst IsShort at second.2;
    }

then_whole : (b : List ℕ) (n m : ℕ) → IsPartLen b (Some n) → IsPartLen (drop n b) (Some m) → Compares b → n + m ≡ length b
then_whole b n m first second c =
    let second_len : m ≡ length (part_bytes (new_in b)) = len_is (drop n b) m second ∙ ap (λ x. length (part_bytes x)) (rest_at b n first) in
    (λ i. len_is b n first i + second_len i) ∙ sym (length-append (part_bytes (expected_in b)) (part_bytes (new_in b))) ∙ sym (ap length c.whole)

pub both_there : (b r : List ℕ) (n m : ℕ) → IsPartLen b (Some n) → r ≡ drop n b → IsPartLen r (Some m) → eqb (n + m) (length b) ≡ is_comparison b
both_there b r n m first e second =
    let there : IsPartLen (drop n b) (Some m) = subst (λ x. IsPartLen x (Some m)) e second in
    both_ways (eqb (n + m) (length b)) (is_comparison b)
    (λ is. compares_from b (whole_then b n m first there (eqb-true (n + m) (length b) is)))
    (λ is. eq-eqb (n + m) (length b) (then_whole b n m first there (compares b is)))

pub second_there : {X : Type 0} (b r : List ℕ) (n : ℕ) → is_comparison b ≡ true → IsPartLen b (Some n) → r ≡ drop n b → IsPartLen r None → X
second_there b r n is some e none = goes_on b n some (subst (λ x. IsPartLen x None) e none) is

long : (v : List ℕ) → 5 ≤ length (part_bytes (Some v))
long v = omega arith

pub none_at : (b : List ℕ) (n : ℕ) → n ≤ length b → take n b ≡ part_bytes (part_at b) → n < 5 → None ≡ part_at b
none_at b n le spelled few = go (part_at b) spelled
  where
    go : (o : Option (List ℕ)) → take n b ≡ part_bytes o → None ≡ o
    go None is = refl
    go (Some v) is = absurd (let e = length-take-le n b le in let f : length (take n b) ≡ length (part_bytes (Some v)) = ap length is in let g = long v in omega arith)

pub some_at : (b : List ℕ) (n : ℕ) → n ≤ length b → take n b ≡ part_bytes (part_at b) → 5 ≤ n → Some (take (n - 5) (drop 5 b)) ≡ part_at b
some_at b n le spelled many = go (part_at b) spelled
  where
    go : (o : Option (List ℕ)) → take n b ≡ part_bytes o → Some (take (n - 5) (drop 5 b)) ≡ o
    go None is = absurd (let e = length-take-le n b le in let f : length (take n b) ≡ 1 = ap length is in omega arith)
    go (Some v) is = ap Some (sym (drop-take 5 (n - 5) b) ∙ ap (λ k. drop 5 (take k b)) (let e : 5 + (n - 5) ≡ n = omega arith in e) ∙ ap (λ x. drop 5 x) is)
