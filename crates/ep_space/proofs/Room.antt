-- Keys whose runs have a free place.
use Rattle.std.proofs.Common.{◌≡◌, ◌≢◌, ◌<◌, ℕ, zero, suc, Bool, true, false, cond, ◌&&◌, ◌||◌, eqb, Option, Some, None, List, [], ◌∷◌, ◌++◌, Result, Ok, Err, refl, sym, ap, subst, ◌∙◌, append-nil, true≢false}
use Rattle.std.specs.Prelude.{Vec, IsOk, is_ok, if◌then◌else◌}
use Rattle.std.specs.Global.{Global}
use Rattle.std.specs.Map.{lookup, set_value, KeepsOthers}
use Rattle.std.specs.Vec.{vec_len, vec_capacity}
use Rattle.std.proofs.lemmas.Bool.{and_parts, and_from, lt-ltb, ltb-true}
use Rattle.ep_base.specs.Attributes.{same_list}
use Rattle.ep_base.specs.Interference.{has_key}
use Rattle.ep_base.proofs.Same.{Decides-same_list}
use Rattle.ep_space.specs.Index.{Entry, is_at, listed, run_in, is_roomy, found_roomy, room_in, has_room, passing, entry_keys, all_keys, roomy_keys, HasRuns, KeepsRoom}
use Rattle.ep_space.specs.Keys.{marked, HasRoom}
use Rattle.ep_space.specs.declared.index.Index.{Index}
use Rattle.ep_space.proofs.Bringing.{same_itself, first_among, second_among}
use Rattle.ep_space.proofs.Entered.{same, run-kept, run-updated, room-set, room-updated}

is_same : (k l : List ℕ) → same_list k l ≡ true → k ≡ l
is_same k l = (Decides-same_list k l).0

-- The keys that have room are those whose runs have a free place.

and_false : (b : Bool) → (b && false) ≡ false
and_false true = refl
and_false false = refl

has_key-passing : (test : List ℕ → Bool) (k : List ℕ) (ks : List (List ℕ)) → has_key k (passing test ks) ≡ (has_key k ks && test k)
has_key-passing test k [] = refl
has_key-passing test k (l ∷ ls) = go (same_list k l) refl (test l) refl (has_key-passing test k ls)
  where
    go : (b : Bool) → same_list k l ≡ b → (c : Bool) → test l ≡ c → has_key k (passing test ls) ≡ (has_key k ls && test k)
        → has_key k (cond c (l ∷ passing test ls) (passing test ls)) ≡ ((b || has_key k ls) && test k)
    go true e true f rest = ap (λ b. b || has_key k (passing test ls)) e ∙ sym (ap test (is_same k l e) ∙ f)
    go true e false f rest =
        let fails : test k ≡ false = ap test (is_same k l e) ∙ f in
        rest ∙ ap (λ b. has_key k ls && b) fails ∙ and_false (has_key k ls) ∙ sym fails
    go false e true f rest = ap (λ b. b || has_key k (passing test ls)) e ∙ rest
    go false e false f rest = rest

has_key-entry : (k : List ℕ) (es : List Entry) → room_in es k ≡ true → has_key k (entry_keys es) ≡ true
has_key-entry k [] h = absurd (true≢false (sym h))
has_key-entry k (e ∷ es) h = go (same_list k e.0.items) refl h (has_key-entry k es)
  where
    go : (b : Bool) → same_list k e.0.items ≡ b → found_roomy (cond b (Some e.1) (lookup (is_at k) es)) ≡ true → (room_in es k ≡ true → has_key k (entry_keys es) ≡ true)
        → (b || has_key k (entry_keys es)) ≡ true
    go true is h rest = refl
    go false is h rest = rest h

-- what stands in a list stands behind a mark in what is marked by it, whatever comes behind
has_marked : (m : ℕ) → eqb m m ≡ true → (k : List ℕ) (ks ls : List (List ℕ)) → has_key k ks ≡ true → has_key (m ∷ k) (marked m ks ++ ls) ≡ true
has_marked m itself k [] ls h = absurd (true≢false (sym h))
has_marked m itself k (l ∷ ks) ls h = go (same_list k l) refl h (has_marked m itself k ks ls)
  where
    go : (b : Bool) → same_list k l ≡ b → (b || has_key k ks) ≡ true → (has_key k ks ≡ true → has_key (m ∷ k) (marked m ks ++ ls) ≡ true)
        → ((eqb m m && same_list k l) || has_key (m ∷ k) (marked m ks ++ ls)) ≡ true
    go true e h rest = ap (λ b. (b && same_list k l) || has_key (m ∷ k) (marked m ks ++ ls)) itself ∙ ap (λ b. b || has_key (m ∷ k) (marked m ks ++ ls)) e
    go false e h rest =
        ap (λ b. (b && same_list k l) || has_key (m ∷ k) (marked m ks ++ ls)) itself ∙ ap (λ b. b || has_key (m ∷ k) (marked m ks ++ ls)) e ∙ rest h

has_behind : (k : List ℕ) (ks ls : List (List ℕ)) → has_key k ls ≡ true → has_key k (ks ++ ls) ≡ true
has_behind k [] ls h = h
has_behind k (l ∷ ks) ls h = go (same_list k l) (has_behind k ks ls h)
  where
    go : (b : Bool) → has_key k (ks ++ ls) ≡ true → (b || has_key k (ks ++ ls)) ≡ true
    go true rest = refl
    go false rest = rest

among_all : (x : Index) (k : List ℕ) → has_room x k ≡ true → has_key k (all_keys x) ≡ true
among_all x [] h = refl
among_all x (zero ∷ k) h =
    let writes = entry_keys x.writes.runs.entries in
    has_marked 0 refl k writes (marked 1 (entry_keys x.reads.runs.entries)) (has_key-entry k x.writes.runs.entries h)
among_all x (suc zero ∷ k) h =
    let reads = entry_keys x.reads.runs.entries in
    has_behind (1 ∷ k) (marked 0 (entry_keys x.writes.runs.entries)) (marked 1 reads)
    (subst (λ ks. has_key (1 ∷ k) ks ≡ true) (append-nil (marked 1 reads)) (has_marked 1 refl k reads [] (has_key-entry k x.reads.runs.entries h)))
among_all x (suc (suc m) ∷ k) h = absurd (true≢false (sym h))

pub roomy-has_room : (x : Index) (k : List ℕ) → has_key k (roomy_keys x) ≡ true → has_room x k ≡ true
roomy-has_room x k h = (and_parts (has_key k (all_keys x)) (has_room x k) (sym (has_key-passing (has_room x) k (all_keys x)) ∙ h)).1

pub has_room-roomy : (x : Index) (k : List ℕ) → has_room x k ≡ true → has_key k (roomy_keys x) ≡ true
has_room-roomy x k h = has_key-passing (has_room x) k (all_keys x) ∙ and_from (has_key k (all_keys x)) (has_room x k) (among_all x k h) h

pub has_runs : (x : Index) (own new : List (List ℕ)) → HasRoom (roomy_keys x) own new → HasRuns x own new
has_runs x own new h = λ k a b. roomy-has_room x k (h k a b)

pub with_room : (x : Index) (own new : List (List ℕ)) → HasRuns x own new → HasRoom (roomy_keys x) own new
with_room x own new h = λ k a b. has_room-roomy x k (h k a b)

-- One key, or two.

sole : (k key : List ℕ) → has_key k (key ∷ []) ≡ true → k ≡ key
sole k key h = go (same_list k key) refl h
  where
    go : (b : Bool) → same_list k key ≡ b → (b || false) ≡ true → k ≡ key
    go true e h = is_same k key e
    go false e h = absurd (true≢false (sym h))

pub room_one : (x : Index) (own : List (List ℕ)) (key : List ℕ) → has_room x key ≡ true → HasRuns x own (key ∷ [])
room_one x own key h = λ k new none. ap (has_room x) (sole k key new) ∙ h

-- a key that is there brings nothing
pub room_none : (x : Index) (own : List (List ℕ)) (key : List ℕ) → has_key key own ≡ true → HasRuns x own (key ∷ [])
room_none x own key h = λ k new none. absurd (true≢false (sym h ∙ sym (ap (λ z. has_key z own) (sole k key new)) ∙ none))

pub room_two : (x y : Index) (own : List (List ℕ)) (p q : List ℕ) → HasRuns x own (p ∷ []) → KeepsRoom x y → HasRuns y own (q ∷ []) → HasRuns y own (p ∷ q ∷ [])
room_two x y own p q one keeps two = λ k new none. go k none (same_list k p) refl new
  where
    go : (k : List ℕ) → has_key k own ≡ false → (b : Bool) → same_list k p ≡ b → (b || has_key k (q ∷ [])) ≡ true → has_room y k ≡ true
    go k none true e new = keeps k (one k (ap (λ b. b || false) e) none)
    go k none false e new = two k new none

-- what one key of two needs
pub room_first : (x : Index) (own : List (List ℕ)) (p q : List ℕ) → HasRuns x own (p ∷ q ∷ []) → has_key p own ≡ false → has_room x p ≡ true
room_first x own p q h none = h p (first_among p q) none

pub room_second : (x : Index) (own : List (List ℕ)) (p q : List ℕ) → HasRuns x own (p ∷ q ∷ []) → has_key q own ≡ false → has_room x q ≡ true
room_second x own p q h none = h q (second_among p q) none

pub room_sole : (x : Index) (own : List (List ℕ)) (p : List ℕ) → HasRuns x own (p ∷ []) → has_key p own ≡ false → has_room x p ≡ true
room_sole x own p h none = h p (ap (λ b. b || false) (same_itself p)) none

-- Room that is made under a key.

pub record Widened (old new : List Entry) : Type 0 where
  pub kept : (k : List ℕ) → run_in new k ≡ run_in old k
  pub keeps : (k : List ℕ) → room_in old k ≡ true → room_in new k ≡ true

roomy_from : (v w : Vec ℕ Global) → (vec_len v < vec_capacity v → vec_len w < vec_capacity w) → is_roomy v ≡ true → is_roomy w ≡ true
roomy_from v w keeps h = lt-ltb (vec_len w) (vec_capacity w) (keeps (ltb-true (vec_len v) (vec_capacity v) h))

pub widened_there : (es fs : List Entry) (k : List ℕ) (v w : Vec ℕ Global) → lookup (is_at k) es ≡ Some v → fs ≡ set_value (is_at k) es w → w.items ≡ v.items
    → (vec_len v < vec_capacity v → vec_len w < vec_capacity w) → Widened es fs
widened_there es fs k v w here written kept keeps = record {
  kept = run-kept es fs k v w here written kept;
  keeps = λ q h. ap (λ gs. room_in gs q) written ∙ room-set es k v w here q ∙ go q h (same_list q k) refl;
}
  where
    go : (q : List ℕ) → room_in es q ≡ true → (b : Bool) → same_list q k ≡ b → cond b (is_roomy w) (room_in es q) ≡ true
    go q h true e = roomy_from v w keeps (sym (ap found_roomy here) ∙ sym (ap (room_in es) (is_same q k e)) ∙ h)
    go q h false e = h

pub widened_room : (es fs : List Entry) (k : List ℕ) (v w : Vec ℕ Global) → lookup (is_at k) es ≡ Some v → fs ≡ set_value (is_at k) es w → vec_len w < vec_capacity w → room_in fs k ≡ true
widened_room es fs k v w here written room =
    ap (λ gs. room_in gs k) written ∙ room-set es k v w here k ∙ ap (λ b. cond b (is_roomy w) (room_in es k)) (same_itself k) ∙ lt-ltb (vec_len w) (vec_capacity w) room

-- a new run, empty and with a free place
module _ (old new : List Entry) (key k : List ℕ) (v : Vec ℕ Global) (is : k ≡ key) (empty : v.items ≡ []) (room : vec_len v < vec_capacity v)
    (none : lookup (is_at key) old ≡ None) (here : lookup (is_at k) new ≡ Some v) (others : KeepsOthers same (is_at k) old new) where
  no_run : (q : List ℕ) → same_list q k ≡ true → run_in old q ≡ []
  no_run q e = ap (run_in old) (is_same q k e ∙ is) ∙ ap listed none

  pub widened_new : Widened old new
  widened_new = record {
    kept = λ q. run-updated old new k v here others q ∙ kept q (same_list q k) refl;
    keeps = λ q h. room-updated old new k v here others q ∙ either q h (same_list q k);
  }
    where
      kept : (q : List ℕ) (b : Bool) → same_list q k ≡ b → cond b v.items (run_in old q) ≡ run_in old q
      kept q true e = empty ∙ sym (no_run q e)
      kept q false e = refl

      either : (q : List ℕ) → room_in old q ≡ true → (b : Bool) → cond b (is_roomy v) (room_in old q) ≡ true
      either q h true = lt-ltb (vec_len v) (vec_capacity v) room
      either q h false = h

  pub new_room : room_in new key ≡ true
  new_room =
      room-updated old new k v here others key
      ∙ ap (λ b. cond b (is_roomy v) (room_in old key)) (ap (same_list key) is ∙ same_itself key)
      ∙ lt-ltb (vec_len v) (vec_capacity v) room

-- Of an index.

abbrev KeepsRooms : List Entry → List Entry → Type 0
KeepsRooms es fs = (k : List ℕ) → room_in es k ≡ true → room_in fs k ≡ true

pub keeps_seals : (x y : Index) → y.writes ≡ x.writes → y.reads ≡ x.reads → (vec_len x.seals < vec_capacity x.seals → vec_len y.seals < vec_capacity y.seals) → KeepsRoom x y
keeps_seals x y writes reads keeps [] h = roomy_from x.seals y.seals keeps h
keeps_seals x y writes reads keeps (zero ∷ k) h = ap (λ s. room_in s.runs.entries k) writes ∙ h
keeps_seals x y writes reads keeps (suc zero ∷ k) h = ap (λ s. room_in s.runs.entries k) reads ∙ h
keeps_seals x y writes reads keeps (suc (suc m) ∷ k) h = h

pub keeps_writes : (x y : Index) → y.seals ≡ x.seals → y.reads ≡ x.reads → KeepsRooms x.writes.runs.entries y.writes.runs.entries → KeepsRoom x y
keeps_writes x y seals reads keeps [] h = ap is_roomy seals ∙ h
keeps_writes x y seals reads keeps (zero ∷ k) h = keeps k h
keeps_writes x y seals reads keeps (suc zero ∷ k) h = ap (λ s. room_in s.runs.entries k) reads ∙ h
keeps_writes x y seals reads keeps (suc (suc m) ∷ k) h = h

pub keeps_reads : (x y : Index) → y.seals ≡ x.seals → y.writes ≡ x.writes → KeepsRooms x.reads.runs.entries y.reads.runs.entries → KeepsRoom x y
keeps_reads x y seals writes keeps [] h = ap is_roomy seals ∙ h
keeps_reads x y seals writes keeps (zero ∷ k) h = ap (λ s. room_in s.runs.entries k) writes ∙ h
keeps_reads x y seals writes keeps (suc zero ∷ k) h = keeps k h
keeps_reads x y seals writes keeps (suc (suc m) ∷ k) h = h

-- the runs of other keys

abbrev OtherRooms : List ℕ → List Entry → List Entry → Type 0
OtherRooms key es fs = (k : List ℕ) → same_list k key ≡ false → room_in fs k ≡ room_in es k

pub others_seals : (x y : Index) → y.writes ≡ x.writes → y.reads ≡ x.reads → (k : List ℕ) → same_list k [] ≡ false → has_room y k ≡ has_room x k
others_seals x y writes reads [] e = absurd (true≢false e)
others_seals x y writes reads (zero ∷ k) e = ap (λ s. room_in s.runs.entries k) writes
others_seals x y writes reads (suc zero ∷ k) e = ap (λ s. room_in s.runs.entries k) reads
others_seals x y writes reads (suc (suc m) ∷ k) e = refl

pub others_writes : (x y : Index) (key : List ℕ) → y.seals ≡ x.seals → y.reads ≡ x.reads → OtherRooms key x.writes.runs.entries y.writes.runs.entries
    → (k : List ℕ) → same_list k (0 ∷ key) ≡ false → has_room y k ≡ has_room x k
others_writes x y key seals reads others [] e = ap is_roomy seals
others_writes x y key seals reads others (zero ∷ k) e = others k e
others_writes x y key seals reads others (suc zero ∷ k) e = ap (λ s. room_in s.runs.entries k) reads
others_writes x y key seals reads others (suc (suc m) ∷ k) e = refl

pub others_reads : (x y : Index) (key : List ℕ) → y.seals ≡ x.seals → y.writes ≡ x.writes → OtherRooms key x.reads.runs.entries y.reads.runs.entries
    → (k : List ℕ) → same_list k (1 ∷ key) ≡ false → has_room y k ≡ has_room x k
others_reads x y key seals writes others [] e = ap is_roomy seals
others_reads x y key seals writes others (zero ∷ k) e = ap (λ s. room_in s.runs.entries k) writes
others_reads x y key seals writes others (suc zero ∷ k) e = others k e
others_reads x y key seals writes others (suc (suc m) ∷ k) e = refl

pub others_set : (es fs : List Entry) (k : List ℕ) (v w : Vec ℕ Global) → lookup (is_at k) es ≡ Some v → fs ≡ set_value (is_at k) es w → (q : List ℕ) → same_list q k ≡ false → room_in fs q ≡ room_in es q
others_set es fs k v w here written q e = ap (λ gs. room_in gs q) written ∙ room-set es k v w here q ∙ ap (λ b. cond b (is_roomy w) (room_in es q)) e

-- a run that has room is there
pub roomy_there : (v : Vec ℕ Global) (o : Option (Vec ℕ Global)) → Some v ≡ o → found_roomy o ≡ true → vec_len v < vec_capacity v
roomy_there v o is h = ltb-true (vec_len v) (vec_capacity v) (ap found_roomy is ∙ h)

pub room_of_seals : (x : Index) → has_room x [] ≡ true → vec_len x.seals < vec_capacity x.seals
room_of_seals x h = ltb-true (vec_len x.seals) (vec_capacity x.seals) h

-- the second of two keys has its room still
pub second_room : (x y : Index) (own : List (List ℕ)) (p q : List ℕ) (s : Bool) → HasRuns x own (p ∷ q ∷ []) → p ≢ q → s ≡ has_key q own
    → ((k : List ℕ) → same_list k p ≡ false → has_room y k ≡ has_room x k) → s ≡ false → has_room y q ≡ true
second_room x y own p q s room apart is others goes = others q (go (same_list q p) refl) ∙ room_second x own p q room (sym is ∙ goes)
  where
    go : (b : Bool) → same_list q p ≡ b → same_list q p ≡ false
    go true e = absurd (apart (sym (is_same q p e)))
    go false e = e

-- of an insertion that isn't refused
pub when_ok : {X E : Type 0} (r : Result X E) (xs ys zs : List ℕ) → IsOk r → zs ≡ (if is_ok r then xs else ys) → zs ≡ xs
when_ok (Ok x) xs ys zs h e = e
when_ok (Err f) xs ys zs h e = absurd (true≢false (sym h))
