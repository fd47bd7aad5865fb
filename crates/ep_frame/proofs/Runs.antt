-- A command's keys and body as one run of bytes.
use Rattle.std.proofs.Common.{◌≡◌, ℕ, ◌+◌, ◌-◌, ◌≤◌, Bool, true, false, eqb, List, ◌++◌, length, take, drop, Some, refl, sym, ap, subst, ◌∙◌, append_assoc, true≢false, arith}
use Rattle.std.specs.Prelude.{◌&&◌, cond, None}
use Rattle.std.proofs.Math.Seq.{take-add}
use Rattle.std.proofs.lemmas.Bool.{eqb-true, eq-eqb, and_parts, and_from}
use Rattle.std.proofs.lemmas.List.{take_at, drop_at, drop-take, length-take, length-drop, length-append, take-append-drop}
use Rattle.ep_base.specs.Attributes.{same_list}
use Rattle.ep_base.specs.Commands.{Command}
use Rattle.ep_base.specs.Ops.{op_number}
use Rattle.ep_base.specs.CommandParts.{CommandParts, parts_of, command_in, command_of, are_parts, cut}
use Rattle.ep_base.specs.Sameness.{same_command}
use Rattle.ep_base.specs.declared.op.Op.{Op}
use Rattle.ep_base.proofs.Partitions.{parts_law_lem}
use Rattle.ep_base.proofs.Same.{Decides-same_list, Decides-same_command}
use Rattle.ep_frame.specs.Faults.{op_of, second_place, deps_place, frame_len}
use Rattle.ep_frame.specs.Fields.{header_at, header_len}
use Rattle.ep_frame.specs.Meaning.{command_parts_at, run_at, command_at}
use Rattle.ep_frame.proofs.BigEndian.{rest_is}
use Rattle.ep_frame.proofs.Saying.{op_again}

abbrev made : Op → List ℕ → List ℕ → List ℕ → CommandParts
made o k l b = record { op = o; first = k; second = l; body = b }

-- the first of the first
front : (n m : ℕ) (xs : List ℕ) → n ≤ length xs → take n (take (n + m) xs) ≡ take n xs
front n m xs le = ap (take n) (take-add n m xs) ∙ take_at (take n xs) (take m (drop n xs)) n (omega (arith, le, length-take n xs))

-- the run from place i on is cut where the parts lie
pub cut_is : (o : Op) (b : List ℕ) (i k l n : ℕ) → i + k + l + n ≤ length b
    → cut o (take (i + k + l + n - i) (drop i b)) k l ≡ made o (take k (drop i b)) (take l (drop (i + k) b)) (take n (drop (i + k + l) b))
cut_is o b i k l n le =
    let ys = drop i b in
    let ly : length ys ≡ length b - i = length-drop i b in
    let all : i + k + l + n - i ≡ k + (l + n) = omega arith in
    let all2 : i + k + l + n - i ≡ k + l + n = omega arith in
    let first : take k (take (i + k + l + n - i) ys) ≡ take k ys = ap (λ (m : ℕ). take k (take m ys)) all ∙ front k (l + n) ys (omega (arith, ly, le)) in
    let rest : drop k (take (i + k + l + n - i) ys) ≡ take (l + n) (drop k ys) = ap (λ (m : ℕ). drop k (take m ys)) all ∙ drop-take k (l + n) ys in
    let second : take l (drop k (take (i + k + l + n - i) ys)) ≡ take l (drop (i + k) b) =
    ap (take l) rest ∙ front l n (drop k ys) (omega (arith, ly, le, length-drop k ys)) ∙ ap (take l) (sym (rest_is i k b)) in
    let place : i + k + l ≡ i + (k + l) = omega arith in
    let last : drop (k + l) (take (i + k + l + n - i) ys) ≡ take n (drop (i + k + l) b) =
    ap (λ (m : ℕ). drop (k + l) (take m ys)) all2 ∙ drop-take (k + l) n ys ∙ ap (take n) (sym (rest_is i (k + l) b)) ∙ ap (λ (m : ℕ). take n (drop m b)) (sym place) in
    λ t. made o (first t) (second t) (last t)

-- and so is a command's own run

pub run_first : (f s y : List ℕ) → take (length f) ((f ++ s) ++ y) ≡ f
run_first f s y = ap (take (length f)) (append_assoc f s y) ∙ take_at f (s ++ y) (length f) refl

pub run_second : (f s y : List ℕ) → take (length s) (drop (length f) ((f ++ s) ++ y)) ≡ s
run_second f s y = ap (λ (r : List ℕ). take (length s) (drop (length f) r)) (append_assoc f s y) ∙ ap (take (length s)) (drop_at f (s ++ y) (length f) refl) ∙ take_at s y (length s) refl

pub run_body : (f s y : List ℕ) → drop (length f + length s) ((f ++ s) ++ y) ≡ y
run_body f s y = drop_at (f ++ s) y (length f + length s) (length-append f s)

-- what is cut is the whole run
pub run_whole : (k l : ℕ) (r : List ℕ) → (take k r ++ take l (drop k r)) ++ drop (k + l) r ≡ r
run_whole k l r =
    append_assoc (take k r) (take l (drop k r)) (drop (k + l) r)
    ∙ ap (λ (x : List ℕ). take k r ++ (take l (drop k r) ++ x)) (rest_is k l r)
    ∙ ap (λ (x : List ℕ). take k r ++ x) (take-append-drop l (drop k r))
    ∙ take-append-drop k r

-- ---- one command

iff : (a b : Bool) → (a ≡ true → b ≡ true) → (b ≡ true → a ≡ true) → a ≡ b
iff true b f g = sym (f refl)
iff false true f g = absurd (true≢false (sym (g refl)))
iff false false f g = refl

same_op : (o p : Op) → op_number o ≡ op_number p → o ≡ p
same_op o p e = sym (op_again o) ∙ ap op_of e ∙ op_again p

-- the test of two commands' parts
abbrev test : CommandParts → CommandParts → Bool
test p q = eqb (op_number p.op) (op_number q.op) && (eqb (length p.first) (length q.first) && (eqb (length p.second) (length q.second) && same_list ((p.first ++ p.second) ++ p.body) ((q.first ++ q.second) ++ q.body)))

cut_alike : (p q : CommandParts) → length p.first ≡ length q.first → length p.second ≡ length q.second → (p.first ++ p.second) ++ p.body ≡ (q.first ++ q.second) ++ q.body → (p.first ≡ q.first) × (p.second ≡ q.second) × (p.body ≡ q.body)
cut_alike p q f s e = (
  sym (run_first p.first p.second p.body) ∙ (λ t. take (f t) (e t)) ∙ run_first q.first q.second q.body,
  sym (run_second p.first p.second p.body) ∙ (λ t. take (s t) (drop (f t) (e t))) ∙ run_second q.first q.second q.body,
  sym (run_body p.first p.second p.body) ∙ (λ t. drop (f t + s t) (e t)) ∙ run_body q.first q.second q.body,
)

test_true : (p q : CommandParts) → test p q ≡ true → p ≡ q
test_true p q e =
    let a = and_parts (eqb (op_number p.op) (op_number q.op)) _ e in
    let b = and_parts (eqb (length p.first) (length q.first)) _ a.1 in
    let c = and_parts (eqb (length p.second) (length q.second)) _ b.1 in
    let o : p.op ≡ q.op = same_op p.op q.op (eqb-true _ _ a.0) in
    let r = cut_alike p q (eqb-true _ _ b.0) (eqb-true _ _ c.0) ((Decides-same_list ((p.first ++ p.second) ++ p.body) ((q.first ++ q.second) ++ q.body)).0 c.1) in
    λ t. made (o t) (r.0 t) (r.1 t) (r.2 t)

test_self : (p : CommandParts) → test p p ≡ true
test_self p =
    and_from _ _ (eq-eqb (op_number p.op) (op_number p.op) refl)
    (and_from _ _ (eq-eqb (length p.first) (length p.first) refl)
    (and_from _ _ (eq-eqb (length p.second) (length p.second) refl) ((Decides-same_list ((p.first ++ p.second) ++ p.body) ((p.first ++ p.second) ++ p.body)).1 refl)))

pub some_if : {X : Type 0} (b : Bool) (x y : X) → cond b (Some x) None ≡ Some y → x ≡ y
some_if true x y e = cc
some_if false x y e = absurd (cc)

-- the parts of a command are those of another one exactly where the commands are one
pub same_parts : (p : CommandParts) (c : Command) → are_parts p ≡ true → command_of (parts_of c) ≡ Some c → test p (parts_of c) ≡ same_command (command_in p) c
same_parts p c e f =
    let own : command_in (parts_of c) ≡ c = some_if (are_parts (parts_of c)) (command_in (parts_of c)) c f in
    let back : parts_of (command_in p) ≡ p = parts_law_lem.back p (command_in p) (ap (λ (b : Bool). cond b (Some (command_in p)) None) e) in
    iff (test p (parts_of c)) (same_command (command_in p) c)
    (λ t. (Decides-same_command (command_in p) c).1 (ap command_in (test_true p (parts_of c) t) ∙ own))
    (λ t. let same : p ≡ parts_of c = sym back ∙ ap parts_of ((Decides-same_command (command_in p) c).0 t) in subst (λ (q : CommandParts). test p q ≡ true) same (test_self p))

-- ---- the run of a frame

pub cut_there : (b run : List ℕ) (o : Op) (k l : ℕ) → length b ≡ frame_len (header_at b) → o ≡ op_of (header_at b).op → run ≡ run_at b → k ≡ (header_at b).key_len → l ≡ (header_at b).second_len → cut o run k l ≡ command_parts_at b
cut_there b run o k l whole oe re ke le =
    let h = header_at b in
    (λ t. cut (oe t) (re t) (ke t) (le t)) ∙ cut_is (op_of h.op) b (header_len h.version) h.key_len h.second_len h.body_len (omega (arith, whole))

pub cut_long : (b run : List ℕ) (k l : ℕ) → length b ≡ frame_len (header_at b) → run ≡ run_at b → k ≡ (header_at b).key_len → l ≡ (header_at b).second_len → k + l ≤ length run
cut_long b run k l whole re ke le =
    let h = header_at b in
    let n = header_len h.version in
    let lr : length run ≡ length (run_at b) = ap length re in
    omega (arith, whole, ke, le, lr, length-take (deps_place h - n) (drop n b), length-drop n b)

run_there : (b : List ℕ) → length b ≡ frame_len (header_at b) → ((command_parts_at b).first ++ (command_parts_at b).second) ++ (command_parts_at b).body ≡ run_at b
run_there b whole =
    let h = header_at b in
    let r = run_at b in
    let is = cut_there b r (op_of h.op) h.key_len h.second_len whole refl refl refl refl in
    (λ t. let p = sym is t in (p.first ++ p.second) ++ p.body) ∙ run_whole h.key_len h.second_len r

-- the test of a frame's parts and a command's
abbrev test_at : List ℕ → CommandParts → Bool
test_at b q =
    eqb (op_number (command_parts_at b).op) (op_number q.op)
    && (eqb (header_at b).key_len (length q.first) && (eqb (header_at b).second_len (length q.second) && same_list (run_at b) ((q.first ++ q.second) ++ q.body)))

pub same_there : (b : List ℕ) (c : Command) → length b ≡ frame_len (header_at b) → are_parts (command_parts_at b) ≡ true → command_of (parts_of c) ≡ Some c → test_at b (parts_of c) ≡ same_command (command_at b) c
same_there b c whole are again =
    let h = header_at b in
    let n = header_len h.version in
    let p = command_parts_at b in
    let q = parts_of c in
    let first : length p.first ≡ h.key_len = omega (arith, whole, length-take h.key_len (drop n b), length-drop n b) in
    let second : length p.second ≡ h.second_len = omega (arith, whole, length-take h.second_len (drop (second_place h) b), length-drop (second_place h) b) in
    let run = run_there b whole in
    (λ t. eqb (op_number p.op) (op_number q.op) && (eqb (sym first t) (length q.first) && (eqb (sym second t) (length q.second) && same_list (sym run t) ((q.first ++ q.second) ++ q.body))))
    ∙ same_parts p c are again

-- ---- writing

-- what is written one after the other, of which the run is both keys and the body
pub laid_out : (o x r d o1 o2 o3 : List ℕ) (k l : ℕ) → o1 ≡ o ++ x → o2 ≡ o1 ++ r → o3 ≡ o2 ++ d → o3 ≡ o ++ ((((x ++ take k r) ++ take l (drop k r)) ++ drop (k + l) r) ++ d)
laid_out o x r d o1 o2 o3 k l e1 e2 e3 =
    let run : ((x ++ take k r) ++ take l (drop k r)) ++ drop (k + l) r ≡ x ++ r =
    ap (λ (y : List ℕ). y ++ drop (k + l) r) (append_assoc x (take k r) (take l (drop k r))) ∙ append_assoc x (take k r ++ take l (drop k r)) (drop (k + l) r) ∙ ap (λ (y : List ℕ). x ++ y) (run_whole k l r) in
    e3 ∙ ap (λ (y : List ℕ). y ++ d) (e2 ∙ ap (λ (y : List ℕ). y ++ r) e1 ∙ append_assoc o x r) ∙ append_assoc o (x ++ r) d ∙ ap (λ (y : List ℕ). o ++ (y ++ d)) (sym run)
