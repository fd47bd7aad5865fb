-- The tests of equality decide it.
use Rattle.std.proofs.Common.{◌≡◌, ℕ, List, [], ◌∷◌, Option, Some, None, refl, ap, ◌∙◌}
use Rattle.std.specs.Prelude.{Bool, true, false, ◌&&◌, eqb}
use Rattle.std.specs.Bool.{Decides}
use Rattle.std.specs.Cmp.Lexicographic.{pointwise_decides}
use Rattle.std.proofs.lemmas.Bool.{false≢true, eqb-false}
use Rattle.std.proofs.lemmas.Bool.Decides.{Decides-like, Decides-and, Decides-eqb}
use Rattle.ep_base.specs.declared.attrs.Attrs.{Attrs}
use Rattle.ep_base.specs.Commands.{Command, Noop, Get, Put, Del, Swap, Cas, Seal, Opaque, Tx}
use Rattle.ep_base.specs.declared.decree.Decree.{Decree}
use Rattle.ep_base.specs.declared.reply.Reply.{Reply}
use Rattle.ep_base.specs.declared.reply.Reply.TheVariants.{Absent, Present, Closed, Ordered, Done, Undone}
use Rattle.ep_base.specs.declared.reply.Answer.{Answer}
use Rattle.ep_base.specs.declared.reply.Answer.TheVariants.{Lost, Replied}
use Rattle.ep_base.specs.Attributes.{same_list, same_attrs}
use Rattle.ep_base.specs.Sameness.{same_keys, same_option, same_bool, same_touched, same_asked, same_item, same_items, same_options, same_command, same_decree, same_reply, same_answer}
use Rattle.ep_base.specs.Items.{Item}
use Rattle.ep_base.specs.Touched.{Touched}
use Rattle.ep_base.specs.TwoKeys.{TwoKeys}

pub Decides-same_list : (xs ys : List ℕ) → Decides (same_list xs ys) (xs ≡ ys)
Decides-same_list xs ys = pointwise_decides Decides-eqb xs ys

pub attrs_from_parts : (a b : Attrs) → a.seq ≡ b.seq → a.deps ≡ b.deps → a ≡ b
attrs_from_parts a b s d =
    let first : Attrs → ℕ → Attrs = λ x n. record { seq = n; deps = x.deps } in
    let second : Attrs → List ℕ → Attrs = λ x is. record { seq = x.seq; deps = is } in
    ap (first a) s ∙ ap (second b) d

pub Decides-same_attrs : (a b : Attrs) → Decides (same_attrs a b) (a ≡ b)
Decides-same_attrs a b =
    let parts = Decides-and (eqb a.seq b.seq) (same_list a.deps b.deps) (Decides-eqb a.seq b.seq) (Decides-same_list a.deps b.deps) in
    Decides-like (same_attrs a b) (λ h. attrs_from_parts a b h.0 h.1) (λ e. (ap (λ (x : Attrs). x.seq) e, ap (λ (x : Attrs). x.deps) e)) parts

-- values that a mark distinguishes are not equal
apart : {X : Type 0} {x y : X} (mark : X → ℕ) → eqb (mark x) (mark y) ≡ false → Decides false (x ≡ y)
apart mark differs = (λ e. absurd (false≢true e), λ e. absurd (eqb-false _ _ differs (ap mark e)))

abbrev kind : Command → ℕ
kind Noop = 0
kind (Get k) = 1
kind (Put k v) = 2
kind (Del k) = 3
kind (Swap p) = 4
kind (Cas k e n) = 5
kind (Seal v) = 6
kind (Opaque p b) = 7
kind (Tx is) = 8

abbrev key_or_none : Command → List ℕ
key_or_none Noop = []
key_or_none (Get k) = k
key_or_none (Put k v) = k
key_or_none (Del k) = k
key_or_none (Swap p) = p.first
key_or_none (Cas k e n) = k
key_or_none (Seal v) = []
key_or_none (Opaque p b) = p.first
key_or_none (Tx is) = []

abbrev value_or_none : Command → List ℕ
value_or_none Noop = []
value_or_none (Get k) = []
value_or_none (Put k v) = v
value_or_none (Del k) = []
value_or_none (Swap p) = []
value_or_none (Cas k e n) = []
value_or_none (Seal v) = v
value_or_none (Opaque p b) = b
value_or_none (Tx is) = []

abbrev no_keys : TwoKeys
no_keys = record { first = []; second = [] }

abbrev keys_or_none : Command → TwoKeys
keys_or_none Noop = no_keys
keys_or_none (Get k) = no_keys
keys_or_none (Put k v) = no_keys
keys_or_none (Del k) = no_keys
keys_or_none (Swap p) = p
keys_or_none (Cas k e n) = no_keys
keys_or_none (Seal v) = no_keys
keys_or_none (Opaque p b) = no_keys
keys_or_none (Tx is) = no_keys

abbrev expected_or_none : Command → Option (List ℕ)
expected_or_none Noop = None
expected_or_none (Get k) = None
expected_or_none (Put k v) = None
expected_or_none (Del k) = None
expected_or_none (Swap p) = None
expected_or_none (Cas k e n) = e
expected_or_none (Seal v) = None
expected_or_none (Opaque p b) = p.second
expected_or_none (Tx is) = None

abbrev new_or_none : Command → Option (List ℕ)
new_or_none Noop = None
new_or_none (Get k) = None
new_or_none (Put k v) = None
new_or_none (Del k) = None
new_or_none (Swap p) = None
new_or_none (Cas k e n) = n
new_or_none (Seal v) = None
new_or_none (Opaque p b) = None
new_or_none (Tx is) = None

abbrev no_touch : Touched
no_touch = record { first = []; second = None; reads = false }

abbrev touched_or_none : Command → Touched
touched_or_none Noop = no_touch
touched_or_none (Get k) = no_touch
touched_or_none (Put k v) = no_touch
touched_or_none (Del k) = no_touch
touched_or_none (Swap p) = no_touch
touched_or_none (Cas k e n) = no_touch
touched_or_none (Seal v) = no_touch
touched_or_none (Opaque p b) = p
touched_or_none (Tx is) = no_touch

abbrev option_kind : Option (List ℕ) → ℕ
option_kind None = 0
option_kind (Some v) = 1

abbrev value_in : Option (List ℕ) → List ℕ
value_in None = []
value_in (Some v) = v

pub Decides-same_option : (a b : Option (List ℕ)) → Decides (same_option a b) (a ≡ b)
Decides-same_option None None = (λ _. refl, λ _. refl)
Decides-same_option (Some v) (Some w) = Decides-like (same_list v w) (ap Some) (ap value_in) (Decides-same_list v w)
Decides-same_option None (Some w) = apart option_kind refl
Decides-same_option (Some v) None = apart option_kind refl

keys_from_parts : (p q : TwoKeys) → p.first ≡ q.first → p.second ≡ q.second → p ≡ q
keys_from_parts p q f s =
    let first : TwoKeys → List ℕ → TwoKeys = λ x k. record { first = k; second = x.second } in
    let second : TwoKeys → List ℕ → TwoKeys = λ x k. record { first = x.first; second = k } in
    ap (first p) f ∙ ap (second q) s

pub Decides-same_keys : (p q : TwoKeys) → Decides (same_keys p q) (p ≡ q)
Decides-same_keys p q =
    let parts = Decides-and (same_list p.first q.first) (same_list p.second q.second) (Decides-same_list p.first q.first) (Decides-same_list p.second q.second) in
    Decides-like (same_keys p q) (λ h. keys_from_parts p q h.0 h.1) (λ e. (ap (λ (x : TwoKeys). x.first) e, ap (λ (x : TwoKeys). x.second) e)) parts

abbrev bool_kind : Bool → ℕ
bool_kind false = 0
bool_kind true = 1

pub Decides-same_bool : (a b : Bool) → Decides (same_bool a b) (a ≡ b)
Decides-same_bool true true = (λ _. refl, λ _. refl)
Decides-same_bool false false = (λ _. refl, λ _. refl)
Decides-same_bool true false = apart bool_kind refl
Decides-same_bool false true = apart bool_kind refl

touched_from_parts : (p q : Touched) → p.first ≡ q.first → p.second ≡ q.second → p.reads ≡ q.reads → p ≡ q
touched_from_parts p q f s r = λ i. record { first = f i; second = s i; reads = r i }

pub Decides-same_touched : (p q : Touched) → Decides (same_touched p q) (p ≡ q)
Decides-same_touched p q =
    let rest = Decides-and (same_option p.second q.second) (same_bool p.reads q.reads) (Decides-same_option p.second q.second) (Decides-same_bool p.reads q.reads) in
    let parts = Decides-and (same_list p.first q.first) (same_option p.second q.second && same_bool p.reads q.reads) (Decides-same_list p.first q.first) rest in
    Decides-like (same_touched p q) (λ h. touched_from_parts p q h.0 h.1.0 h.1.1) (λ e. (ap (λ (x : Touched). x.first) e, (ap (λ (x : Touched). x.second) e, ap (λ (x : Touched). x.reads) e))) parts

abbrev items_or_none : Command → List Item
items_or_none Noop = []
items_or_none (Get k) = []
items_or_none (Put k v) = []
items_or_none (Del k) = []
items_or_none (Swap p) = []
items_or_none (Cas k e n) = []
items_or_none (Seal v) = []
items_or_none (Opaque p b) = []
items_or_none (Tx is) = is

abbrev asked_kind : Option (Option (List ℕ)) → ℕ
asked_kind None = 0
asked_kind (Some o) = 1

abbrev asked_in : Option (Option (List ℕ)) → Option (List ℕ)
asked_in None = None
asked_in (Some o) = o

Decides-same_asked : (a b : Option (Option (List ℕ))) → Decides (same_asked a b) (a ≡ b)
Decides-same_asked None None = (λ _. refl, λ _. refl)
Decides-same_asked (Some o) (Some p) = Decides-like (same_option o p) (ap Some) (ap asked_in) (Decides-same_option o p)
Decides-same_asked None (Some p) = apart asked_kind refl
Decides-same_asked (Some o) None = apart asked_kind refl

item_from_parts : (i j : Item) → i.key ≡ j.key → i.guard ≡ j.guard → i.reported ≡ j.reported → i.write ≡ j.write → i ≡ j
item_from_parts i j k g t w = λ n. record { key = k n; guard = g n; reported = t n; write = w n }

Decides-same_item : (i j : Item) → Decides (same_item i j) (i ≡ j)
Decides-same_item i j =
    let last = Decides-and (same_bool i.reported j.reported) (same_asked i.write j.write) (Decides-same_bool i.reported j.reported) (Decides-same_asked i.write j.write) in
    let rest = Decides-and (same_asked i.guard j.guard) (same_bool i.reported j.reported && same_asked i.write j.write) (Decides-same_asked i.guard j.guard) last in
    let parts = Decides-and (same_list i.key j.key) (same_asked i.guard j.guard && (same_bool i.reported j.reported && same_asked i.write j.write)) (Decides-same_list i.key j.key) rest in
    Decides-like (same_item i j) (λ h. item_from_parts i j h.0 h.1.0 h.1.1.0 h.1.1.1)
    (λ e. (ap (λ (x : Item). x.key) e, (ap (λ (x : Item). x.guard) e, (ap (λ (x : Item). x.reported) e, ap (λ (x : Item). x.write) e))))
    parts

-- lists, by a test of what they have

module _ {X : Type 0} where
  abbrev list_kind : List X → ℕ
  list_kind [] = 0
  list_kind (x ∷ xs) = 1

  abbrev head_or : X → List X → X
  head_or d [] = d
  head_or d (x ∷ xs) = x

  abbrev tail_of : List X → List X
  tail_of [] = []
  tail_of (x ∷ xs) = xs

  cons_from : (x y : X) (xs ys : List X) → x ≡ y → xs ≡ ys → (x ∷ xs) ≡ (y ∷ ys)
  cons_from x y xs ys e f = λ i. e i ∷ f i

  Decides-cons : (s : Bool) (t : Bool) (x y : X) (xs ys : List X) → Decides s (x ≡ y) → Decides t (xs ≡ ys) → Decides (s && t) ((x ∷ xs) ≡ (y ∷ ys))
  Decides-cons s t x y xs ys d e = Decides-like (s && t) (λ h. cons_from x y xs ys h.0 h.1) (λ is. (ap (head_or x) is, ap tail_of is)) (Decides-and s t d e)

Decides-same_items : (is js : List Item) → Decides (same_items is js) (is ≡ js)
Decides-same_items [] [] = (λ _. refl, λ _. refl)
Decides-same_items (i ∷ is) (j ∷ js) = Decides-cons (same_item i j) (same_items is js) i j is js (Decides-same_item i j) (Decides-same_items is js)
Decides-same_items [] (j ∷ js) = apart list_kind refl
Decides-same_items (i ∷ is) [] = apart list_kind refl

pub Decides-same_options : (os ps : List (Option (List ℕ))) → Decides (same_options os ps) (os ≡ ps)
Decides-same_options [] [] = (λ _. refl, λ _. refl)
Decides-same_options (o ∷ os) (p ∷ ps) = Decides-cons (same_option o p) (same_options os ps) o p os ps (Decides-same_option o p) (Decides-same_options os ps)
Decides-same_options [] (p ∷ ps) = apart list_kind refl
Decides-same_options (o ∷ os) [] = apart list_kind refl

pub Decides-same_command : (a b : Command) → Decides (same_command a b) (a ≡ b)
Decides-same_command Noop Noop = (λ _. refl, λ _. refl)
Decides-same_command (Get k) (Get l) = Decides-like (same_list k l) (ap Get) (ap key_or_none) (Decides-same_list k l)
Decides-same_command (Put k v) (Put l w) =
    let parts = Decides-and (same_list k l) (same_list v w) (Decides-same_list k l) (Decides-same_list v w) in
    Decides-like (same_list k l && same_list v w) (λ h. cc) (λ e. (ap key_or_none e, ap value_or_none e)) parts
Decides-same_command (Del k) (Del l) = Decides-like (same_list k l) (ap Del) (ap key_or_none) (Decides-same_list k l)
Decides-same_command (Swap p) (Swap q) = Decides-like (same_keys p q) (ap Swap) (ap keys_or_none) (Decides-same_keys p q)
Decides-same_command (Cas k e n) (Cas l f o) =
    let options = Decides-and (same_option e f) (same_option n o) (Decides-same_option e f) (Decides-same_option n o) in
    let parts = Decides-and (same_list k l) (same_option e f && same_option n o) (Decides-same_list k l) options in
    Decides-like (same_list k l && (same_option e f && same_option n o)) (λ h. cc) (λ t. (ap key_or_none t, (ap expected_or_none t, ap new_or_none t))) parts
Decides-same_command (Seal v) (Seal w) = Decides-like (same_list v w) (ap Seal) (ap value_or_none) (Decides-same_list v w)
Decides-same_command (Opaque p b) (Opaque q c) =
    let parts = Decides-and (same_touched p q) (same_list b c) (Decides-same_touched p q) (Decides-same_list b c) in
    Decides-like (same_touched p q && same_list b c) (λ h. cc) (λ e. (ap touched_or_none e, ap value_or_none e)) parts
Decides-same_command (Tx is) (Tx js) = Decides-like (same_items is js) (ap Tx) (ap items_or_none) (Decides-same_items is js)
Decides-same_command a b = apart kind refl

pub decree_from_parts : (d e : Decree) → d.command ≡ e.command → d.attrs ≡ e.attrs → d ≡ e
decree_from_parts d e c a =
    let first : Decree → Command → Decree = λ x y. record { command = y; attrs = x.attrs } in
    let second : Decree → Attrs → Decree = λ x y. record { command = x.command; attrs = y } in
    ap (first d) c ∙ ap (second e) a

pub Decides-same_decree : (d e : Decree) → Decides (same_decree d e) (d ≡ e)
Decides-same_decree d e =
    let parts = Decides-and (same_command d.command e.command) (same_attrs d.attrs e.attrs) (Decides-same_command d.command e.command) (Decides-same_attrs d.attrs e.attrs) in
    Decides-like (same_decree d e) (λ h. decree_from_parts d e h.0 h.1) (λ h. (ap (λ (x : Decree). x.command) h, ap (λ (x : Decree). x.attrs) h)) parts

abbrev reply_kind : Reply → ℕ
reply_kind Absent = 0
reply_kind (Present v) = 1
reply_kind Closed = 2
reply_kind Ordered = 3
reply_kind (Done os) = 4
reply_kind (Undone os) = 5

abbrev reported_value : Reply → List ℕ
reported_value Absent = []
reported_value (Present v) = v
reported_value Closed = []
reported_value Ordered = []
reported_value (Done os) = []
reported_value (Undone os) = []

abbrev reply_values : Reply → List (Option (List ℕ))
reply_values Absent = []
reply_values (Present v) = []
reply_values Closed = []
reply_values Ordered = []
reply_values (Done os) = os
reply_values (Undone os) = os

pub Decides-same_reply : (r s : Reply) → Decides (same_reply r s) (r ≡ s)
Decides-same_reply Absent Absent = (λ _. refl, λ _. refl)
Decides-same_reply (Present v) (Present w) = Decides-like (same_list v w) (ap Present) (ap reported_value) (Decides-same_list v w)
Decides-same_reply Closed Closed = (λ _. refl, λ _. refl)
Decides-same_reply Ordered Ordered = (λ _. refl, λ _. refl)
Decides-same_reply (Done os) (Done ps) = Decides-like (same_options os ps) (ap Done) (ap reply_values) (Decides-same_options os ps)
Decides-same_reply (Undone os) (Undone ps) = Decides-like (same_options os ps) (ap Undone) (ap reply_values) (Decides-same_options os ps)
Decides-same_reply r s = apart reply_kind refl

abbrev answer_kind : Answer → ℕ
answer_kind Lost = 0
answer_kind (Replied r) = 1

abbrev reported_reply : Answer → Reply
reported_reply Lost = Absent
reported_reply (Replied r) = r

pub Decides-same_answer : (a b : Answer) → Decides (same_answer a b) (a ≡ b)
Decides-same_answer Lost Lost = (λ _. refl, λ _. refl)
Decides-same_answer (Replied r) (Replied s) = Decides-like (same_reply r s) (ap Replied) (ap reported_reply) (Decides-same_reply r s)
Decides-same_answer a b = apart answer_kind refl
