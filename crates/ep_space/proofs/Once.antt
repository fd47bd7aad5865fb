-- The keys of a command over many keys stand once in the index.
use Rattle.std.proofs.Common.{◌≡◌, ℕ, length, List, [], ◌∷◌, Bool, true, false, cond, not, subst, ◌&&◌, ◌||◌, refl, sym, ap, ◌∙◌, true≢false}
use Rattle.std.specs.Prelude.{nat_le}
use Rattle.std.proofs.lemmas.Bool.{and_parts}
use Rattle.ep_base.specs.Attributes.{same_list}
use Rattle.ep_base.specs.Commands.{Command, Noop, Get, Put, Del, Swap, Cas, Seal, Opaque, Tx}
use Rattle.ep_base.specs.Interference.{has_key, is_many, is_seal, keys_of, only_reads}
use Rattle.ep_base.specs.Items.{Item, item_keys, rise_above, reported_count, none_writes}
use Rattle.ep_base.specs.Ops.{is_items_len}
use Rattle.ep_base.specs.CommandParts.{IsInRange, are_items, all_items, items_of, tx_bytes}
use Rattle.ep_base.specs.Sameness.{is_noop}
use Rattle.ep_base.proofs.Ascending.{above_none}
use Rattle.ep_base.proofs.Same.{Decides-same_list}
use Rattle.ep_space.specs.Index.{brings, run, has_room, HasRuns, KeepsRoom}
use Rattle.ep_space.specs.declared.index.Index.{Index}
use Rattle.ep_space.specs.Keys.{mark, marked, index_keys}
use Rattle.ep_space.specs.Names.{AreOnce}

-- behind one mark stands what stands without it
pub marked_has : (r : Bool) (k : List ℕ) (ks : List (List ℕ)) → has_key (mark r ∷ k) (marked (mark r) ks) ≡ has_key k ks
marked_has r k [] = refl
marked_has true k (l ∷ ks) = ap (λ b. same_list k l || b) (marked_has true k ks)
marked_has false k (l ∷ ks) = ap (λ b. same_list k l || b) (marked_has false k ks)

-- and behind another one nothing
pub marked_none : (r : Bool) (k : List ℕ) (ks : List (List ℕ)) → has_key (mark (not r) ∷ k) (marked (mark r) ks) ≡ false
marked_none r k [] = refl
marked_none true k (l ∷ ks) = marked_none true k ks
marked_none false k (l ∷ ks) = marked_none false k ks

pub seals_none : (m : ℕ) (ks : List (List ℕ)) → has_key [] (marked m ks) ≡ false
seals_none m [] = refl
seals_none m (l ∷ ks) = seals_none m ks

once_marked : (r : Bool) (k : List ℕ) (is : List Item) → rise_above k is ≡ true → AreOnce (marked (mark r) (item_keys is))
once_marked r k [] h = tt
once_marked r k (i ∷ is) h =
    let rest = (and_parts _ (rise_above i.key is) h).1 in
    (marked_has r i.key (item_keys is) ∙ above_none i.key is rest, once_marked r i.key is rest)

rises : (is : List Item) → are_items is ≡ true → rise_above [] is ≡ true
rises is h =
    let long = is_items_len (length (tx_bytes is)) in
    let some = and_parts (nat_le 1 (length is) && nat_le (length is) 1024) (all_items is && (rise_above [] is && (nat_le (reported_count is) 16 && long))) h in
    let all = and_parts (all_items is) (rise_above [] is && (nat_le (reported_count is) 16 && long)) some.1 in
    (and_parts (rise_above [] is) (nat_le (reported_count is) 16 && long) all.1).0

pub many_once : (c : Command) → is_many c ≡ true → IsInRange c → AreOnce (index_keys c)
many_once Noop e h = tt
many_once (Get k) e h = absurd (true≢false (sym e))
many_once (Put k v) e h = absurd (true≢false (sym e))
many_once (Del k) e h = absurd (true≢false (sym e))
many_once (Swap p) e h = absurd (true≢false (sym e))
many_once (Cas k x n) e h = absurd (true≢false (sym e))
many_once (Seal v) e h = absurd (true≢false (sym e))
many_once (Opaque p b) e h = absurd (true≢false (sym e))
many_once (Tx is) e h = once_marked (none_writes is) [] is (rises is h)

-- its keys in the index are those of its items, behind the mark of what it does
pub many_keys : (c : Command) → is_many c ≡ true → index_keys c ≡ marked (mark (only_reads c)) (item_keys (items_of c))
many_keys Noop e = absurd (true≢false (sym e))
many_keys (Get k) e = absurd (true≢false (sym e))
many_keys (Put k v) e = absurd (true≢false (sym e))
many_keys (Del k) e = absurd (true≢false (sym e))
many_keys (Swap p) e = absurd (true≢false (sym e))
many_keys (Cas k x n) e = absurd (true≢false (sym e))
many_keys (Seal v) e = absurd (true≢false (sym e))
many_keys (Opaque p b) e = absurd (true≢false (sym e))
many_keys (Tx is) e = refl

pub keys_many : (c : Command) → is_many c ≡ true → keys_of c ≡ item_keys (items_of c)
keys_many Noop e = absurd (true≢false (sym e))
keys_many (Get k) e = absurd (true≢false (sym e))
keys_many (Put k v) e = absurd (true≢false (sym e))
keys_many (Del k) e = absurd (true≢false (sym e))
keys_many (Swap p) e = absurd (true≢false (sym e))
keys_many (Cas k x n) e = absurd (true≢false (sym e))
keys_many (Seal v) e = absurd (true≢false (sym e))
keys_many (Opaque p b) e = absurd (true≢false (sym e))
keys_many (Tx is) e = refl

-- One key of several, and the others.

-- first the one, and then the others
pub then_others : (f : List ℕ → List ℕ) (own : List (List ℕ)) (p : List ℕ) (ks : List (List ℕ)) (k : List ℕ) (s : Bool) (xs ys zs : List ℕ) → has_key p ks ≡ false → s ≡ has_key p own
    → ys ≡ cond (same_list k p && not s) (f xs) xs → zs ≡ cond (brings own ks k) (f ys) ys → zs ≡ cond (brings own (p ∷ ks) k) (f xs) xs
then_others f own p ks k s xs ys zs apart es first second =
    second ∙ (λ d. cond (brings own ks k) (f (first d)) (first d)) ∙ (λ d. cond (brings own ks k) (f (cond (same_list k p && not (es d)) (f xs) xs)) (cond (same_list k p && not (es d)) (f xs) xs))
    ∙ go (same_list k p) refl
  where
    go : (b : Bool) → same_list k p ≡ b
        → cond (brings own ks k) (f (cond (b && not (has_key p own)) (f xs) xs)) (cond (b && not (has_key p own)) (f xs) xs) ≡ cond ((b || has_key k ks) && not (has_key k own)) (f xs) xs
    go true e =
        let is = (Decides-same_list k p).0 e in
        ap (λ b. cond (b && not (has_key k own)) (f (cond (not (has_key p own)) (f xs) xs)) (cond (not (has_key p own)) (f xs) xs)) (ap (λ z. has_key z ks) is ∙ apart)
        ∙ ap (λ z. cond (not (has_key z own)) (f xs) xs) (sym is)
    go false e = refl

-- the others' runs stay
pub others_stay : (p k : List ℕ) (ks : List (List ℕ)) → has_key p ks ≡ false → has_key k ks ≡ true → same_list k p ≡ false
others_stay p k ks apart there = go (same_list k p) refl
  where
    go : (b : Bool) → same_list k p ≡ b → b ≡ false
    go true e = absurd (true≢false (sym there ∙ ap (λ z. has_key z ks) ((Decides-same_list k p).0 e) ∙ apart))
    go false e = refl

pub first_has : (p : List ℕ) (ks : List (List ℕ)) → has_key p (p ∷ ks) ≡ true
first_has p ks = ap (λ b. b || has_key p ks) ((Decides-same_list p p).1 refl)

pub rest_has : (p k : List ℕ) (ks : List (List ℕ)) → has_key k ks ≡ true → has_key k (p ∷ ks) ≡ true
rest_has p k ks h = go (same_list k p)
  where
    go : (b : Bool) → (b || has_key k ks) ≡ true
    go true = refl
    go false = h

-- Whether one of its names is that of a key.

has_under : (r : Bool) (k : List ℕ) (ks : List (List ℕ)) → (not r && has_key k ks) ≡ has_key (0 ∷ k) (marked (mark r) ks)
has_under true k ks = sym (marked_none true k ks)
has_under false k ks = sym (marked_has false k ks)

has_read : (r : Bool) (k : List ℕ) (ks : List (List ℕ)) → (r && has_key k ks) ≡ has_key (1 ∷ k) (marked (mark r) ks)
has_read true k ks = sym (marked_has true k ks)
has_read false k ks = sym (marked_none false k ks)

pub many_writes : (c : Command) (k : List ℕ) → is_many c ≡ true → (not (only_reads c) && has_key k (keys_of c)) ≡ has_key (0 ∷ k) (index_keys c)
many_writes c k e = ap (λ ks. not (only_reads c) && has_key k ks) (keys_many c e) ∙ has_under (only_reads c) k (item_keys (items_of c)) ∙ ap (λ ks. has_key (0 ∷ k) ks) (sym (many_keys c e))

pub many_reads : (c : Command) (k : List ℕ) → is_many c ≡ true → (only_reads c && has_key k (keys_of c)) ≡ has_key (1 ∷ k) (index_keys c)
many_reads c k e = ap (λ ks. only_reads c && has_key k ks) (keys_many c e) ∙ has_read (only_reads c) k (item_keys (items_of c)) ∙ ap (λ ks. has_key (1 ∷ k) ks) (sym (many_keys c e))

pub many_no_seals : (c : Command) → is_many c ≡ true → false ≡ has_key [] (index_keys c)
many_no_seals c e = sym (ap (λ ks. has_key [] ks) (many_keys c e) ∙ seals_none (mark (only_reads c)) (item_keys (items_of c)))

-- and it is neither a seal nor a no-op
pub many_plain : (c : Command) → is_many c ≡ true → (is_seal c ≡ false) × (is_noop c ≡ false)
many_plain Noop e = absurd (true≢false (sym e))
many_plain (Get k) e = (refl, refl)
many_plain (Put k v) e = (refl, refl)
many_plain (Del k) e = (refl, refl)
many_plain (Swap p) e = (refl, refl)
many_plain (Cas k x n) e = (refl, refl)
many_plain (Seal v) e = absurd (true≢false (sym e))
many_plain (Opaque p b) e = (refl, refl)
many_plain (Tx is) e = (refl, refl)

-- Going down the items: of the keys that are left, the first one is entered, or left, or given room, and then the others.

abbrev pub keys_left : Bool → List Item → List (List ℕ)
keys_left r is = marked (mark r) (item_keys is)

-- the first of the keys that are left, and the others
module _ (r : Bool) (i : Item) (all rest : List Item) (is : all ≡ i ∷ rest) where
  abbrev first_key : List ℕ
  first_key = mark r ∷ i.key

  pub first_once : AreOnce (keys_left r all) → has_key first_key (keys_left r rest) ≡ false
  first_once h = (subst (λ xs. AreOnce (keys_left r xs)) is h).0

  pub rest_once : AreOnce (keys_left r all) → AreOnce (keys_left r rest)
  rest_once h = (subst (λ xs. AreOnce (keys_left r xs)) is h).1

  pub first_left : has_key first_key (keys_left r all) ≡ true
  first_left = ap (λ xs. has_key first_key (keys_left r xs)) is ∙ first_has first_key (keys_left r rest)

  pub rest_left : (k : List ℕ) → has_key k (keys_left r rest) ≡ true → has_key k (keys_left r all) ≡ true
  rest_left k h = ap (λ xs. has_key k (keys_left r xs)) is ∙ rest_has first_key k (keys_left r rest) h

  -- the room of the others, and their runs

  pub rest_room : (x y : Index) (own : List (List ℕ)) → AreOnce (keys_left r all) → HasRuns x own (keys_left r all)
      → ((k : List ℕ) → same_list k first_key ≡ false → has_room y k ≡ has_room x k) → HasRuns y own (keys_left r rest)
  rest_room x y own once room others = λ k new none. others k (others_stay first_key k (keys_left r rest) (first_once once) new) ∙ room k (rest_left k new) none

  pub rest_run : (x y : Index) (f : List ℕ → List ℕ) (s : Bool) → AreOnce (keys_left r all) → ((k : List ℕ) → run y k ≡ cond (same_list k first_key && not s) (f (run x k)) (run x k))
      → (k : List ℕ) → has_key k (keys_left r rest) ≡ true → run y k ≡ run x k
  rest_run x y f s once changed k h = changed k ∙ ap (λ b. cond (b && not s) (f (run x k)) (run x k)) (others_stay first_key k (keys_left r rest) (first_once once) h)

  -- what is made of all of them
  pub made_of_all : (f : List ℕ → List ℕ) (own : List (List ℕ)) (s : Bool) (x y z : Index) → AreOnce (keys_left r all) → s ≡ has_key first_key own
      → ((k : List ℕ) → run y k ≡ cond (same_list k first_key && not s) (f (run x k)) (run x k)) → ((k : List ℕ) → run z k ≡ cond (brings own (keys_left r rest) k) (f (run y k)) (run y k))
      → (k : List ℕ) → run z k ≡ cond (brings own (keys_left r all) k) (f (run x k)) (run x k)
  made_of_all f own s x y z once stays first second k =
      then_others f own first_key (keys_left r rest) k s (run x k) (run y k) (run z k) (first_once once) stays (first k) (second k)
      ∙ ap (λ xs. cond (brings own (keys_left r xs) k) (f (run x k)) (run x k)) (sym is)

  pub room_of_all : (x y : Index) (own : List (List ℕ)) → HasRuns x own (first_key ∷ []) → KeepsRoom x y → HasRuns y own (keys_left r rest) → HasRuns y own (keys_left r all)
  room_of_all x y own one keeps more = λ k new none. go k none (same_list k first_key) refl (sym (ap (λ xs. has_key k (keys_left r xs)) is) ∙ new)
    where
      go : (k : List ℕ) → has_key k own ≡ false → (b : Bool) → same_list k first_key ≡ b → (b || has_key k (keys_left r rest)) ≡ true → has_room y k ≡ true
      go k none true e new = keeps k (one k (ap (λ b. b || false) e) none)
      go k none false e new = more k new none

-- none are left
pub no_room : (r : Bool) (x : Index) (own : List (List ℕ)) (all : List Item) → all ≡ [] → HasRuns x own (keys_left r all)
no_room r x own all is = λ k new none. absurd (true≢false (sym new ∙ ap (λ xs. has_key k (keys_left r xs)) is))

pub none_made : (r : Bool) (f : List ℕ → List ℕ) (x : Index) (own : List (List ℕ)) (all : List Item) → all ≡ [] → (k : List ℕ) → run x k ≡ cond (brings own (keys_left r all) k) (f (run x k)) (run x k)
none_made r f x own all is k = sym (ap (λ xs. cond (brings own (keys_left r xs) k) (f (run x k)) (run x k)) is)

-- The same keys again: none is brought.

pub room_again : (x : Index) (own new : List (List ℕ)) → own ≡ new → HasRuns x own new
room_again x own new is = λ k here none. absurd (true≢false (sym here ∙ ap (has_key k) (sym is) ∙ none))

pub none_again : (f : List ℕ → List ℕ) (own new : List (List ℕ)) (k xs : List ℕ) → own ≡ new → xs ≡ cond (brings own new k) (f xs) xs
none_again f own new k xs is = go (has_key k own) ∙ ap (λ ks. cond (brings own ks k) (f xs) xs) is
  where
    go : (b : Bool) → xs ≡ cond (b && not b) (f xs) xs
    go true = refl
    go false = refl
