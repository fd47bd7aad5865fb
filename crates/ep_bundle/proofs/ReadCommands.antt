-- Commands: each took its own bytes, the lengths as its version writes them and the parts as all do.
use Rattle.std.proofs.Common.{◌≡◌, ℕ, ◌+◌, ◌≤◌, Bool, true, false, ◌&&◌, not, cond, leb, List, [], ◌++◌, length, length-append, append-nil, append_assoc, Option, Some, None, Result, Ok, Err, refl, sym, ap, ◌∙◌, subst, arith}
use Rattle.std.proofs.lemmas.Bool.{leb-true, and_parts}
use Rattle.ep_base.specs.Commands.{Command}
use Rattle.ep_base.specs.Ops.{op_number, first_fits, second_fits, body_fits}
use Rattle.ep_base.specs.CommandParts.{CommandParts, parts_of, command_of, command_in, command_with, are_parts, is_twice, body_said}
use Rattle.ep_base.specs.declared.op.Op.{Op}
use Rattle.ep_base.specs.declared.version.Version.{Version}
use Rattle.ep_base.specs.declared.version_kind.VersionKind.TheVariants.{V1, V2, V3}
use Rattle.ep_base.proofs.Partitions.{fits, fits_from, of_fitting, of_then, parts_law_lem}
use Rattle.ep_frame.specs.Faults.{highest_op, op_of}
use Rattle.ep_frame.specs.Fields.{number_bytes}
use Rattle.ep_frame.specs.Spelling.{AreBytes}
use Rattle.ep_frame.proofs.BigEndian.{IsWide, wide1, wide2, wide4}
use Rattle.ep_frame.proofs.Saying.{IsShortIn, op_again, op_low, op_found, op_known, second_high}
use Rattle.ep_bundle.specs.Bytes.{command_bytes, length_bytes, part_bytes}
use Rattle.ep_bundle.specs.Reading.{Left, Reading, Reads, and_then, bad, run, number, field}
use Rattle.ep_bundle.specs.Stages.{AreLengths, allowed, allowed_run, body_in, command, early_fits, early_lengths, lengths, op, other_lengths, parts, second_in}
use Rattle.ep_bundle.specs.Writing.{CommandFits}
use Rattle.ep_bundle.specs.declared.bundle_fault.BundleFault.{BundleFault}
use Rattle.ep_bundle.specs.declared.bundle_field.BundleField.{BundleField}
use Rattle.ep_bundle.specs.declared.bundle_field.BundleField.TheVariants as named
use Rattle.ep_bundle.specs.declared.wanted.Wanted.{Wanted}
use Rattle.ep_bundle.specs.declared.wanted.Wanted.TheVariants.{BodyFor, LengthFor, OtherKey}
use Rattle.ep_bundle.specs.declared.lengths.Lengths.{Lengths}
use Rattle.ep_bundle.proofs.Readings.{fails, goes_on}
use Rattle.ep_bundle.proofs.ReadNumbers.{Gives, Comes, done, step, last, other, whole, choice, refused, run_gives, number_gives, field_gives}

-- a number, and a run, that are allowed

pub allowed_gives : (name : BundleField) (wanted : Wanted) (n : ℕ) → IsWide n → (holds : ℕ → Bool) (l : Left) → AreBytes l.bytes → Gives (number_bytes n) (λ x. holds x ≡ true) l (allowed name wanted n holds l)
allowed_gives name wanted n wide holds l h =
    whole (step (number name n l) (λ x m. cond (holds x) (Ok (x, m)) (Err (bad name n wanted l))) h (number_gives _ n wide l h)
    (λ x m p k. choice (holds x) (Ok (x, m)) (Err (bad name n wanted l)) (λ e. done x (append-nil (number_bytes n x), e)) (λ e. refused (bad name n wanted l))))

allowed_run_gives : (name : BundleField) (wanted : Wanted) (n : ℕ) (holds : List ℕ → Bool) (l : Left) → AreBytes l.bytes → Gives (λ b. b) (λ b. (length b ≡ n) × (holds b ≡ true)) l (allowed_run name wanted n holds l)
allowed_run_gives name wanted n holds l h =
    whole (step (run name n l) (λ b m. cond (holds b) (Ok (b, m)) (Err (bad name n wanted l))) h (run_gives _ n l h)
    (λ b m p k. choice (holds b) (Ok (b, m)) (Err (bad name n wanted l)) (λ e. done b (append-nil b, (p.0, e))) (λ e. refused (bad name n wanted l))))

-- the op

pub op_is : (o : Op) (n : ℕ) → n ≡ op_number o → o ≡ op_of n
op_is o n is = sym (op_again o) ∙ sym (ap op_of is)

op_gives : (v : Version) (l : Left) → AreBytes l.bytes → Gives (λ o. number_bytes 1 (op_number o)) (λ o. op_number o ≤ highest_op v) l (op v l)
op_gives v l h =
    whole (step (field named.Op 1 2 (highest_op v) l) (λ n m. Ok (op_of n, m)) h (field_gives _ 1 wide1 2 (highest_op v) l h)
    (λ n m p k.
    let high : highest_op v ≤ 10 = op_low v in
    let low : 2 ≤ n = p.least in
    let most : n ≤ highest_op v = p.most in
    let back : op_number (op_of n) ≡ n = op_found n (omega arith) (omega arith) in
    done (op_of n) (append-nil (number_bytes 1 n) ∙ ap (λ x. number_bytes 1 x) (sym back), subst (λ x. x ≤ highest_op v) (sym back) most)))

-- the lengths

-- as they stand after the first key's
abbrev pub other_in : Version → Lengths → List ℕ
other_in V1 s = number_bytes 2 (s.second + s.body)
other_in V2 s = number_bytes 2 (s.second + s.body)
other_in (V3 g) s = number_bytes 1 s.second ++ number_bytes 4 s.body

abbrev pub lengths_in : Version → Lengths → List ℕ
lengths_in v s = number_bytes 1 (op_number s.op) ++ number_bytes 1 s.first ++ other_in v s

pub record IsOther (v : Version) (o : Op) (k : ℕ) (s : Lengths) : Type 0 where
  pub op : s.op ≡ o
  pub first : s.first ≡ k
  pub fit : (second_fits o s.second ≡ true) × (body_fits o s.body ≡ true)
  pub short : IsShortIn v s.body

-- the lengths that a command of version 1 or 2 has are of its parts
pub early_lengths_are : (o : Op) (k n : ℕ) → first_fits o k ≡ true → early_fits o n ≡ true → AreLengths (record { op = o; first = k; second = second_in o n; body = body_in o n })
early_lengths_are o k n h e =
    let p = and_parts (second_fits o (second_in o n)) (leb (body_in o n) 1024 && body_fits o (body_in o n)) e in
    (h, p.0, (and_parts (leb (body_in o n) 1024) (body_fits o (body_in o n)) p.1).1)

pub early_second : (o : Op) (n : ℕ) → early_fits o n ≡ true → second_in o n ≤ 255
early_second o n e = second_high o (second_in o n) (and_parts (second_fits o (second_in o n)) (leb (body_in o n) 1024 && body_fits o (body_in o n)) e).0

divided : (b : Bool) (n : ℕ) → n ≡ cond b 0 n + cond b n 0
divided true n = omega arith
divided false n = omega arith

early_gives : (v : Version) (o : Op) (k : ℕ) (l : Left) → ((s : Lengths) → number_bytes 2 (s.second + s.body) ≡ other_in v s) → ((n : ℕ) → n ≤ 1024 → IsShortIn v n) → AreBytes l.bytes
    → Gives (other_in v) (IsOther v o k) l (early_lengths o k l)
early_gives v o k l reported short h =
    whole (step (allowed named.TextLength (LengthFor o) 2 (early_fits o) l) (λ n m. Ok (record { op = o; first = k; second = second_in o n; body = body_in o n }, m)) h (allowed_gives _ _ 2 wide2 (early_fits o) l h)
    (λ n m p hm.
    let e = and_parts (second_fits o (second_in o n)) (leb (body_in o n) 1024 && body_fits o (body_in o n)) p in
    let f = and_parts (leb (body_in o n) 1024) (body_fits o (body_in o n)) e.1 in
    let s : Lengths = record { op = o; first = k; second = second_in o n; body = body_in o n } in
    done s (
      append-nil (number_bytes 2 n) ∙ ap (λ x. number_bytes 2 x) (divided (second_fits o 0) n) ∙ reported s,
      record { op = refl; first = refl; fit = (e.0, f.1); short = short (body_in o n) (leb-true (body_in o n) 1024 f.0) },
    )))

other_gives : (v : Version) (o : Op) (k : ℕ) (l : Left) → AreBytes l.bytes → Gives (other_in v) (IsOther v o k) l (other_lengths v o k l)
other_gives V1 o k l h = early_gives V1 o k l (λ s. refl) (λ n le. le) h
other_gives V2 o k l h = early_gives V2 o k l (λ s. refl) (λ n le. le) h
other_gives (V3 g) o k l h =
    whole (step (allowed named.SecondLength (LengthFor o) 1 (second_fits o) l) (λ x m. and_then (allowed named.BodyLength (LengthFor o) 4 (body_fits o) m) (λ n m. Ok (record { op = o; first = k; second = x; body = n }, m))) h (allowed_gives _ _ 1 wide1 (second_fits o) l h)
    (λ x m p hm. step (allowed named.BodyLength (LengthFor o) 4 (body_fits o) m) (λ n m. Ok (record { op = o; first = k; second = x; body = n }, m)) hm (allowed_gives _ _ 4 wide4 (body_fits o) m hm)
    (λ n m q hn. done (record { op = o; first = k; second = x; body = n }) (ap (λ y. number_bytes 1 x ++ y) (append-nil (number_bytes 4 n)), record { op = refl; first = refl; fit = (p, q); short = tt }))))

pub record Reported (v : Version) (s : Lengths) : Type 0 where
  pub op : op_number s.op ≤ highest_op v
  pub fit : AreLengths s
  pub short : IsShortIn v s.body

reported_lengths : (v : Version) (o : Op) (k : ℕ) (s : Lengths) → op_number o ≤ highest_op v → first_fits o k ≡ true → IsOther v o k s → Reported v s
reported_lengths v o k s high first is =
    let same : o ≡ s.op = sym is.op in
    record {
      op = subst (λ (x : Op). op_number x ≤ highest_op v) same high;
      fit = subst (λ (x : Op). (first_fits x s.first ≡ true) × (second_fits x s.second ≡ true) × (body_fits x s.body ≡ true)) same (subst (λ n. first_fits o n ≡ true) (sym is.first) first, is.fit.0, is.fit.1);
      short = is.short;
    }

reported_bytes : (v : Version) (o : Op) (k : ℕ) (s : Lengths) → IsOther v o k s → number_bytes 1 (op_number o) ++ (number_bytes 1 k ++ other_in v s) ≡ lengths_in v s
reported_bytes v o k s is =
    (λ t. number_bytes 1 (op_number (sym is.op t)) ++ (number_bytes 1 (sym is.first t) ++ other_in v s))
    ∙ sym (append_assoc (number_bytes 1 (op_number s.op)) (number_bytes 1 s.first) (other_in v s))

lengths_gives : (v : Version) (l : Left) → AreBytes l.bytes → Gives (lengths_in v) (Reported v) l (lengths v l)
lengths_gives v l h =
    whole (step (op v l) (λ o l. and_then (allowed named.KeyLength (LengthFor o) 1 (first_fits o) l) (λ k l. other_lengths v o k l)) h (op_gives v l h)
    (λ o m p hm. step (allowed named.KeyLength (LengthFor o) 1 (first_fits o) m) (λ k l. other_lengths v o k l) hm (allowed_gives _ _ 1 wide1 (first_fits o) m hm)
    (λ k m q hk. last (other_gives v o k m hk) (λ s r. (reported_bytes v o k s r, reported_lengths v o k s p q r)))))

-- the parts

pub record Made (s : Lengths) (c : Command) (bs : List ℕ) : Type 0 where
  pub parts : CommandParts
  pub is : command_of parts ≡ Some c
  pub bytes : bs ≡ parts.first ++ parts.second ++ parts.body
  pub op : parts.op ≡ s.op
  pub first : length parts.first ≡ s.first
  pub second : length parts.second ≡ s.second
  pub body : length parts.body ≡ s.body

are : (a b c d e : Bool) → a ≡ true → b ≡ true → c ≡ true → not d ≡ true → e ≡ true → ((a && (b && c)) && (not d && e)) ≡ true
are a b c d e ea eb ec ed ee = (λ t. (ea t && (eb t && ec t)) && (ed t && ee t))

if_true : (b : Bool) (c : Command) (p : CommandParts) → are_parts p ≡ b → b ≡ true → command_in p ≡ c → command_of p ≡ Some c
if_true true c p is e same = ap (λ (x : Bool). cond x (Some (command_in p)) None) is ∙ ap (λ (x : Command). Some x) same
if_true false c p is e same = absurd (cc)

made : (s : Lengths) (k m b : List ℕ) → AreLengths s → length k ≡ s.first → length m ≡ s.second → length b ≡ s.body → not (is_twice k m) ≡ true → body_said s.op b ≡ true → Made s (command_with s.op k m b) (k ++ (m ++ (b ++ [])))
made s k m b fit ek em eb differ said = record {
  parts = record { op = s.op; first = k; second = m; body = b };
  is = if_true (are_parts (record { op = s.op; first = k; second = m; body = b })) (command_with s.op k m b) (record { op = s.op; first = k; second = m; body = b }) refl
      (are (first_fits s.op (length k)) (second_fits s.op (length m)) (body_fits s.op (length b)) (is_twice k m) (body_said s.op b)
      (subst (λ n. first_fits s.op n ≡ true) (sym ek) fit.0) (subst (λ n. second_fits s.op n ≡ true) (sym em) fit.1) (subst (λ n. body_fits s.op n ≡ true) (sym eb) fit.2) differ said) refl;
  bytes = ap (λ x. k ++ (m ++ x)) (append-nil b) ∙ sym (append_assoc k m b);
  op = refl;
  first = ek;
  second = em;
  body = eb;
}

parts_comes : (s : Lengths) (l : Left) → AreLengths s → AreBytes l.bytes → Comes (Made s) l (parts s l)
parts_comes s l fit h =
    step (run named.Key s.first l) (λ k l. and_then (allowed_run named.SecondKey OtherKey s.second (λ m. not (is_twice k m)) l) (λ m l. and_then (allowed_run named.Body (BodyFor s.op) s.body (body_said s.op) l) (λ b l. Ok (command_with s.op k m b, l)))) h (run_gives _ s.first l h)
    (λ k l p h. step (allowed_run named.SecondKey OtherKey s.second (λ m. not (is_twice k m)) l) (λ m l. and_then (allowed_run named.Body (BodyFor s.op) s.body (body_said s.op) l) (λ b l. Ok (command_with s.op k m b, l))) h (allowed_run_gives _ _ s.second (λ m. not (is_twice k m)) l h)
    (λ m l q h. step (allowed_run named.Body (BodyFor s.op) s.body (body_said s.op) l) (λ b l. Ok (command_with s.op k m b, l)) h (allowed_run_gives _ _ s.body (body_said s.op) l h)
    (λ b l r h. done (command_with s.op k m b) (made s k m b fit p.0 q.0 r.0 q.1 r.1))))

-- commands

same_lengths : (v : Version) (s : Lengths) (p : CommandParts) → length p.second ≡ s.second → length p.body ≡ s.body → other_in v s ≡ length_bytes v p
same_lengths V1 s p second body = ap (λ n. number_bytes 2 n) (let e = length-append p.second p.body in omega arith)
same_lengths V2 s p second body = ap (λ n. number_bytes 2 n) (let e = length-append p.second p.body in omega arith)
same_lengths (V3 g) s p second body = λ t. number_bytes 1 (sym second t) ++ number_bytes 4 (sym body t)

-- what is read is spelled so, and is a command that the version has
pub record Read (v : Version) (c : Command) (bs : List ℕ) : Type 0 where
  pub bytes : bs ≡ command_bytes v c
  pub fits : CommandFits v c

made_bytes : (v : Version) (s : Lengths) (c : Command) (bs : List ℕ) → Reported v s → Made s c bs → Read v c (lengths_in v s ++ bs)
made_bytes v s c bs reported m =
    let back : parts_of c ≡ m.parts = parts_law_lem.back m.parts c m.is in
    record {
      bytes = ap (λ x. lengths_in v s ++ x) m.bytes
          ∙ (λ t. number_bytes 1 (op_number (sym m.op t)) ++ number_bytes 1 (sym m.first t) ++ same_lengths v s m.parts m.second m.body t ++ (m.parts.first ++ m.parts.second ++ m.parts.body))
          ∙ ap (part_bytes v) (sym back);
      fits = op_known v c (subst (λ (p : CommandParts). op_number p.op ≤ highest_op v) (sym back) (subst (λ (o : Op). op_number o ≤ highest_op v) (sym m.op) reported.op))
          (subst (λ (p : CommandParts). IsShortIn v (length p.body)) (sym back) (subst (IsShortIn v) (sym m.body) reported.short));
    }

pub command_gives : (v : Version) (l : Left) → AreBytes l.bytes → Gives (command_bytes v) (CommandFits v) l (command v l)
command_gives v l h =
    whole (step (lengths v l) parts h (lengths_gives v l h) (λ s m p hm. other (parts_comes s m p.fit hm) (λ c bs q. let r = made_bytes v s c bs p q in (r.bytes, r.fits))))

-- What a call makes of the body.

abbrev finished : Op → List ℕ → List ℕ → ℕ → Left → Reading Command
finished o k m n l = and_then (allowed_run named.Body (BodyFor o) n (body_said o) l) (λ b l. Ok (command_with o k m b, l))

-- a second key that is compared with the first one as it was lent
pub second_as : (k k' : List ℕ) (n : ℕ) (l : Left) (r : Result (List ℕ) BundleFault) (p : ℕ) (left : Option (List ℕ)) → k' ≡ k → Reads (allowed_run named.SecondKey OtherKey n (λ m. not (is_twice k' m)) l) r p left → Reads (allowed_run named.SecondKey OtherKey n (λ m. not (is_twice k m)) l) r p left
second_as k k' n l r p left is h = subst (λ x. Reads (allowed_run named.SecondKey OtherKey n (λ m. not (is_twice x m)) l) r p left) is h

pub body_read : (o : Op) (k m b k' m' b' : List ℕ) (n : ℕ) (c : Command) (l : Left) (p : ℕ) (left : Option (List ℕ)) → k' ≡ k → m' ≡ m → b' ≡ b → Reads (run named.Body n l) (Ok b) p left
    → Some c ≡ command_of (record { op = o; first = k'; second = m'; body = b' }) → Reads (finished o k m n l) (Ok c) p left
body_read o k m b k' m' b' n c l p left ek em eb h is =
    let here : command_of (record { op = o; first = k; second = m; body = b }) ≡ Some c = (λ t. command_of (record { op = o; first = sym ek t; second = sym em t; body = sym eb t })) ∙ sym is in
    let t = of_then (record { op = o; first = k; second = m; body = b }) c here in
    let f = fits o k m b t.0 in (
      h.0,
      h.1,
      ap (λ (r : Reading (List ℕ)). and_then (and_then r (λ b l'. cond (body_said o b) (Ok (b, l')) (Err (bad named.Body n (BodyFor o) l)))) (λ b l. Ok (command_with o k m b, l))) h.2
          ∙ ap (λ (x : Bool). and_then (cond x (Ok (b, record { at = p; bytes = h.0 })) (Err (bad named.Body n (BodyFor o) l))) (λ b l. Ok (command_with o k m b, l))) f.said
          ∙ ap (λ (x : Command). Ok (x, record { at = p; bytes = h.0 })) t.1,
    )

none_said : (s : Lengths) (k m b : List ℕ) → AreLengths s → length k ≡ s.first → length m ≡ s.second → length b ≡ s.body → is_twice k m ≡ false → command_of (record { op = s.op; first = k; second = m; body = b }) ≡ None → body_said s.op b ≡ false
none_said s k m b fit ek em eb once none = go (body_said s.op b) refl
  where
    go : (x : Bool) → body_said s.op b ≡ x → x ≡ false
    go false is = refl
    go true is =
        let all : are_parts (record { op = s.op; first = k; second = m; body = b }) ≡ true =
        fits_from s.op k m b
        (record {
          first = subst (λ n. first_fits s.op n ≡ true) (sym ek) fit.0;
          second = subst (λ n. second_fits s.op n ≡ true) (sym em) fit.1;
          body = subst (λ n. body_fits s.op n ≡ true) (sym eb) fit.2;
          once = ap not once;
          said = is;
        }) in
        let some : command_of (record { op = s.op; first = k; second = m; body = b }) ≡ Some (command_with s.op k m b) = of_fitting (record { op = s.op; first = k; second = m; body = b }) all in
        absurd (let t : None ≡ Some (command_with s.op k m b) = sym none ∙ some in (cc))

-- a run that isn't read
pub run_fails : (name : BundleField) (wanted : Wanted) (n : ℕ) (holds : List ℕ → Bool) (l : Left) (e : BundleFault) (p : ℕ) (left : Option (List ℕ)) → Reads {A = List ℕ} (run name n l) (Err e) p left → Reads {A = List ℕ} (allowed_run name wanted n holds l) (Err e) p left
run_fails name wanted n holds l e p left h = fails (run name n l) (λ b l'. cond (holds b) (Ok (b, l')) (Err (bad name n wanted l))) e (Err e) p p left left h refl

pub body_unread : (s : Lengths) (k m b k' m' b' : List ℕ) (l : Left) (p : ℕ) (left : Option (List ℕ)) → AreLengths s → k' ≡ k → m' ≡ m → b' ≡ b → length k ≡ s.first → length m ≡ s.second → length b ≡ s.body → is_twice k' m ≡ false
    → Reads (run named.Body s.body l) (Ok b) p left → None ≡ command_of (record { op = s.op; first = k'; second = m'; body = b' }) → finished s.op k m s.body l ≡ Err (bad named.Body s.body (BodyFor s.op) l)
body_unread s k m b k' m' b' l p left fit ek em eb lk lm lb once h none =
    let here : command_of (record { op = s.op; first = k; second = m; body = b }) ≡ None = (λ t. command_of (record { op = s.op; first = sym ek t; second = sym em t; body = sym eb t })) ∙ sym none in
    let said : body_said s.op b ≡ false = none_said s k m b fit lk lm lb ((λ t. is_twice (sym ek t) m) ∙ once) here in
    ap (λ (r : Reading (List ℕ)). and_then (and_then r (λ b l'. cond (body_said s.op b) (Ok (b, l')) (Err (bad named.Body s.body (BodyFor s.op) l)))) (λ b l. Ok (command_with s.op k m b, l))) h.2
    ∙ ap (λ (x : Bool). and_then (cond x (Ok (b, record { at = p; bytes = h.0 })) (Err (bad named.Body s.body (BodyFor s.op) l))) (λ b l. Ok (command_with s.op k m b, l))) said

-- the fault of a body that begins here
abbrev pub body_bad : Lengths → ℕ → BundleFault
body_bad s p = bad named.Body s.body (BodyFor s.op) (record { at = p; bytes = [] })

-- all parts were read, but the body isn't one of the op
pub parts_unread : (s : Lengths) (k m b k' m' b' : List ℕ) (l : Left) (p1 p2 p3 : ℕ) (left1 left2 left3 : Option (List ℕ)) → AreLengths s → k' ≡ k → m' ≡ m → b' ≡ b → length k ≡ s.first → length m ≡ s.second → length b ≡ s.body → is_twice k' m ≡ false
    → Reads (run named.Key s.first l) (Ok k) p1 left1 → ((ys : List ℕ) → left1 ≡ Some ys → Reads (allowed_run named.SecondKey OtherKey s.second (λ m. not (is_twice k' m)) (record { at = p1; bytes = ys })) (Ok m) p2 left2)
    → ((ys : List ℕ) → left2 ≡ Some ys → Reads (run named.Body s.body (record { at = p2; bytes = ys })) (Ok b) p3 left3) → None ≡ command_of (record { op = s.op; first = k'; second = m'; body = b' }) → Reads {A = Command} (parts s l) (Err (body_bad s p2)) p3 left3
parts_unread s k m b k' m' b' l p1 p2 p3 left1 left2 left3 fit ek em eb lk lm lb once first second body none =
    goes_on (run named.Key s.first l) (λ k l. and_then (allowed_run named.SecondKey OtherKey s.second (λ m. not (is_twice k m)) l) (λ m l. finished s.op k m s.body l)) k p1 left1 (Err (body_bad s p2)) p3 left3 first
    (λ ys is. goes_on (allowed_run named.SecondKey OtherKey s.second (λ m. not (is_twice k m)) (record { at = p1; bytes = ys })) (λ m l. finished s.op k m s.body l) m p2 left2 (Err (body_bad s p2)) p3 left3
    (second_as k k' s.second (record { at = p1; bytes = ys }) (Ok m) p2 left2 ek (second ys is))
    (λ zs ks. body_unread s k m b k' m' b' (record { at = p2; bytes = zs }) p3 left3 fit ek em eb lk lm lb once (body zs ks) none))

-- and it is
pub parts_read : (s : Lengths) (k m b k' m' b' : List ℕ) (c : Command) (l : Left) (p1 p2 p3 : ℕ) (left1 left2 left3 : Option (List ℕ)) → k' ≡ k → m' ≡ m → b' ≡ b
    → Reads (run named.Key s.first l) (Ok k) p1 left1 → ((ys : List ℕ) → left1 ≡ Some ys → Reads (allowed_run named.SecondKey OtherKey s.second (λ m. not (is_twice k' m)) (record { at = p1; bytes = ys })) (Ok m) p2 left2)
    → ((ys : List ℕ) → left2 ≡ Some ys → Reads (run named.Body s.body (record { at = p2; bytes = ys })) (Ok b) p3 left3) → Some c ≡ command_of (record { op = s.op; first = k'; second = m'; body = b' }) → Reads (parts s l) (Ok c) p3 left3
parts_read s k m b k' m' b' c l p1 p2 p3 left1 left2 left3 ek em eb first second body is =
    goes_on (run named.Key s.first l) (λ k l. and_then (allowed_run named.SecondKey OtherKey s.second (λ m. not (is_twice k m)) l) (λ m l. finished s.op k m s.body l)) k p1 left1 (Ok c) p3 left3 first
    (λ ys at. goes_on (allowed_run named.SecondKey OtherKey s.second (λ m. not (is_twice k m)) (record { at = p1; bytes = ys })) (λ m l. finished s.op k m s.body l) m p2 left2 (Ok c) p3 left3
    (second_as k k' s.second (record { at = p1; bytes = ys }) (Ok m) p2 left2 ek (second ys at))
    (λ zs ks. body_read s.op k m b k' m' b' s.body c (record { at = p2; bytes = zs }) p3 left3 ek em eb (body zs ks) is))
