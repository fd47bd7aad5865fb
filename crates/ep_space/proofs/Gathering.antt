-- What is gathered of the run of a command's key is its interference set.
use Rattle.std.proofs.Common.{◌≡◌, inl, inr, ℕ, Bool, true, false, cond, not, ◌&&◌, ◌||◌, Option, Some, None, List, [], ◌∷◌, ◌++◌, max, refl, sym, ap, ◌∙◌, arith, append_assoc, append-nil, true≢false, eqb, subst, zero, suc, ◌+◌, ◌<◌, length}
use Rattle.std.specs.Prelude.{is_some}
use Rattle.std.specs.Cmp.{unsigned_tied}
use Rattle.std.specs.FinMap as map
use Rattle.std.specs.FinMap.{find, is_sorted}
use Rattle.std.specs.FinMap.Entries.{below_all}
use Rattle.std.specs.List.{AllByRecursion, Contains, dedup, slice_index}
use Rattle.std.specs.List.Sorted.{IsPermutation, IsSorted, IsStrictlyIncreasing}
use Rattle.std.specs.Ordering.{nat_cmp}
use Rattle.std.proofs.lemmas.Bool.{and_parts, eq-eqb, eqb-true}
use Rattle.std.proofs.lemmas.List.Kept.{Contains-dedup_nat, Contains-from_dedup}
use Rattle.std.proofs.lemmas.List.Sorted.{Contains-permutation, IsPermutation-sym}
use Rattle.std.proofs.lemmas.Map.Keys.{IsStrictlyIncreasing-dedup}
use Rattle.std.proofs.lemmas.Option.{same_Some}
use Rattle.ep_base.specs.Deps.{IsRising, union}
use Rattle.ep_base.specs.Items.{item_keys, none_writes}
use Rattle.ep_base.specs.Interference.{is_many, keys_in, keys_of, key_of, second_key_of, listed, has_key, share_key, only_reads, is_seal, meet, interfere}
use Rattle.ep_base.specs.Places.{Has}
use Rattle.ep_base.specs.Sameness.{is_noop}
use Rattle.ep_base.specs.Commands.{Command, Noop, Get, Put, Del, Swap, Cas, Seal, Opaque, Tx}
use Rattle.ep_base.specs.declared.vote.Vote.{Vote}
use Rattle.ep_rules.specs.InterferenceSet.{touches, votes_against, those, greatest_seq, seq_of, instances, interference}
use Rattle.ep_rules.specs.Maps.{Map, get, entries}
use Rattle.ep_rules.specs.declared.record.Record.{Record}
use Rattle.ep_space.specs.Gathering.{gather, gather_all, next_attrs, recorded_in}
use Rattle.ep_space.specs.Keys.{mark, marked, index_keys, voted_keys, met_keys, names_one, holders, holders_of, recorded, IsMet, AreMet}
use Rattle.ep_space.specs.Open.{AreRecords}
use Rattle.ep_space.specs.declared.gathered.Gathered.{Gathered}
use Rattle.ep_rules.specs.Worlds.{In}
use Rattle.ep_base.proofs.Interfering.{Decides-interfere, Interferes-noop}
use Rattle.ep_base.proofs.Members.{same_members}
use Rattle.ep_base.proofs.Places.{Has-empty, Has-cons_cases, Has-head, Has-first, Has-tail}
use Rattle.ep_space.proofs.Holders.{found_on, sorted_true, share_joined, holders-one, holders-two, holders-more, rising_those, those-found, found-those}
use Rattle.ep_space.proofs.Once.{marked_has, marked_none, seals_none}
use Rattle.ep_space.proofs.Rising.{all_from}

abbrev Entry : Type 0
Entry = ℕ × Record

-- Entries of a map are what it has.

all_map : {P Q : Entry → Type 0} (es : List Entry) → ((e : Entry) → P e → Q e) → AllByRecursion P es → AllByRecursion Q es
all_map [] f h = tt
all_map (e ∷ es) f h = (f e h.0, all_map es f h.1)

all_those : (P : Entry → Type 0) (t : Entry → Bool) (es : List Entry) → AllByRecursion P es → AllByRecursion P (those t es)
all_those P t [] h = tt
all_those P t (e ∷ es) h =
    let rest = all_those P t es h.1 in
    elim (t e) as (λ b. AllByRecursion P (cond b (e ∷ those t es) (those t es))) [ true ↦ (h.0, rest) | false ↦ rest ]

all_found : (es : List Entry) → is_sorted nat_cmp es ≡ true → AllByRecursion (λ e. find nat_cmp e.0 es ≡ Some e.1) es
all_found [] s = tt
all_found (e ∷ es) s =
    let p = and_parts (below_all nat_cmp e.0 es) (is_sorted nat_cmp es) s in (
      ap (λ b. cond b (Some e.1) (find nat_cmp e.0 es)) (unsigned_tied e.0 e.0 ∙ eq-eqb e.0 e.0 refl),
      all_map {P = λ f. find nat_cmp f.0 es ≡ Some f.1} {Q = λ f. find nat_cmp f.0 (e ∷ es) ≡ Some f.1} es (λ f at. found_on e es f.0 f.1 p.0 at) (all_found es p.1),
    )

-- Gathering one after the other.

abbrev with_all : Gathered → List Entry → Gathered
with_all g es = record { seq = max g.seq (greatest_seq es); deps = g.deps ++ instances es }

with_one : (g : Gathered) (e : Entry) (es : List Entry) → with_all (record { seq = max g.seq (seq_of e.1.vote); deps = g.deps ++ e.0 ∷ [] }) es ≡ with_all g (e ∷ es)
with_one g e es =
    let greatest : max (max g.seq (seq_of e.1.vote)) (greatest_seq es) ≡ max g.seq (max (seq_of e.1.vote) (greatest_seq es)) = omega arith in
    λ d. record { seq = greatest d; deps = append_assoc g.deps (e.0 ∷ []) (instances es) d }

module _ (t : Entry → Bool) (m : Map Record) where
  gathered_one : (g : Gathered) (e : Entry) (es : List Entry) (b : Bool) → t e ≡ b
      → ((g : Gathered) → gather_all t m g (instances es) ≡ with_all g (those t es))
      → gather_all t m (cond b (record { seq = max g.seq (seq_of e.1.vote); deps = g.deps ++ e.0 ∷ [] }) g) (instances es) ≡ with_all g (cond b (e ∷ those t es) (those t es))
  gathered_one g e es true passes rest = rest (record { seq = max g.seq (seq_of e.1.vote); deps = g.deps ++ e.0 ∷ [] }) ∙ with_one g e (those t es)
  gathered_one g e es false fails rest = rest g

  gathered_all : (es : List Entry) → AllByRecursion (λ e. get m e.0 ≡ Some e.1) es → (g : Gathered) → gather_all t m g (instances es) ≡ with_all g (those t es)
  gathered_all [] h g =
      let least : g.seq ≡ max g.seq 0 = omega arith in
      λ d. record { seq = least d; deps = sym (append-nil g.deps) d }
  gathered_all (e ∷ es) h g = ap (λ o. gather_all t m (gather t g e.0 o) (instances es)) h.0 ∙ gathered_one g e es (t e) refl (gathered_all es h.1)

-- Tests.

those_within : (t h : Entry → Bool) (es : List Entry) → ((e : Entry) → t e ≡ true → h e ≡ true) → those t (those h es) ≡ those t es
those_within t h [] w = refl
those_within t h (e ∷ es) w = go (t e) (h e) refl refl (those_within t h es w)
  where
    go : (b c : Bool) → t e ≡ b → h e ≡ c → those t (those h es) ≡ those t es → those t (cond c (e ∷ those h es) (those h es)) ≡ cond b (e ∷ those t es) (those t es)
    go true true p q rest = ap (λ x. cond x (e ∷ those t (those h es)) (those t (those h es))) p ∙ ap (λ (es : List Entry). e ∷ es) rest
    go true false p q rest = absurd (true≢false (sym (w e p) ∙ q))
    go false true p q rest = ap (λ x. cond x (e ∷ those t (those h es)) (those t (those h es))) p ∙ rest
    go false false p q rest = rest

-- What stands under the keys that a command meets.

share_none : (ks : List (List ℕ)) → share_key ks [] ≡ false
share_none [] = refl
share_none (k ∷ ks) = share_none ks

-- behind the same mark, or another one

-- what reads meets what writes, and no other; what writes meets both

read_write : (ks ls : List (List ℕ)) → share_key (met_keys true ks) (marked 0 ls) ≡ share_key ks ls
read_write [] ls = refl
read_write (k ∷ ks) ls = λ d. marked_has false k ls d || read_write ks ls d

read_read : (ks ls : List (List ℕ)) → share_key (met_keys true ks) (marked 1 ls) ≡ false
read_read [] ls = refl
read_read (k ∷ ks) ls = λ d. marked_none true k ls d || read_read ks ls d

write_write : (ks ls : List (List ℕ)) → share_key (met_keys false ks) (marked 0 ls) ≡ share_key ks ls
write_write [] ls = refl
write_write (k ∷ ks) ls = λ d. marked_has false k ls d || (marked_none false k ls d || write_write ks ls d)

write_read : (ks ls : List (List ℕ)) → share_key (met_keys false ks) (marked 1 ls) ≡ share_key ks ls
write_read [] ls = refl
write_read (k ∷ ks) ls = λ d. marked_none true k ls d || (marked_has true k ls d || write_read ks ls d)

met_marked : (r q : Bool) (ks ls : List (List ℕ)) → share_key (met_keys r ks) (marked (mark q) ls) ≡ (share_key ks ls && not (r && q))
met_marked true true ks ls = read_read ks ls ∙ none (share_key ks ls)
  where
    none : (b : Bool) → false ≡ (b && false)
    none true = refl
    none false = refl
met_marked true false ks ls = read_write ks ls ∙ all (share_key ks ls)
  where
    all : (b : Bool) → b ≡ (b && true)
    all true = refl
    all false = refl
met_marked false true ks ls = write_read ks ls ∙ all (share_key ks ls)
  where
    all : (b : Bool) → b ≡ (b && true)
    all true = refl
    all false = refl
met_marked false false ks ls = write_write ks ls ∙ all (share_key ks ls)
  where
    all : (b : Bool) → b ≡ (b && true)
    all true = refl
    all false = refl

index_marked : (d : Command) → is_seal d ≡ false → index_keys d ≡ marked (mark (only_reads d)) (keys_of d)
index_marked Noop e = refl
index_marked (Get k) e = refl
index_marked (Put k v) e = refl
index_marked (Del k) e = refl
index_marked (Swap p) e = refl
index_marked (Cas k x n) e = refl
index_marked (Seal v) e = absurd (true≢false e)
index_marked (Opaque p b) e = refl
index_marked (Tx is) e = refl

seal_index : (d : Command) → has_key [] (index_keys d) ≡ is_seal d
seal_index Noop = refl
seal_index (Get k) = refl
seal_index (Put k v) = refl
seal_index (Del k) = refl
seal_index (Swap p) = refl
seal_index (Cas k x n) = refl
seal_index (Seal v) = refl
seal_index (Opaque p b) = seals_none (mark p.reads) (keys_in p)
seal_index (Tx is) = seals_none (mark (none_writes is)) (item_keys is)

seal_is_something : (d : Command) → is_seal d ≡ true → is_noop d ≡ false
seal_is_something Noop e = absurd (true≢false (sym e))
seal_is_something (Get k) e = refl
seal_is_something (Put k v) e = refl
seal_is_something (Del k) e = refl
seal_is_something (Swap p) e = refl
seal_is_something (Cas k x n) e = refl
seal_is_something (Seal v) e = refl
seal_is_something (Opaque p b) e = refl
seal_is_something (Tx is) e = refl

-- what a command that is neither a seal nor a no-op meets in the index
abbrev pub met_of : Command → List (List ℕ)
met_of c = met_keys (only_reads c) (keys_of c)

-- beside seals that is what interferes with it
module _ (c : Command) (plain : is_seal c ≡ false) (some : is_noop c ≡ false) where
  met_interferes : (d : Command) → share_key (met_of c ++ [] ∷ []) (index_keys d) ≡ interfere c d
  met_interferes d =
      share_joined (met_of c) ([] ∷ []) (index_keys d)
      ∙ ap (λ b. share_key (met_of c) (index_keys d) || (b || false)) (seal_index d)
      ∙ go (is_seal d) refl
      ∙ (λ d2. meet c d || ((sym plain d2 || is_seal d) && not (sym some d2 || is_noop d)))
    where
      go : (b : Bool) → is_seal d ≡ b → (share_key (met_of c) (index_keys d) || (is_seal d || false)) ≡ (meet c d || ((false || is_seal d) && not (false || is_noop d)))
      go true e = (λ d2. share_key (met_of c) (index_keys d) || (e d2 || false)) ∙ both (share_key (met_of c) (index_keys d)) (meet c d) ∙ (λ d2. meet c d || ((false || sym e d2) && not (false || sym (seal_is_something d e) d2)))
        where
          both : (a b : Bool) → (a || true) ≡ (b || true)
          both true true = refl
          both true false = refl
          both false true = refl
          both false false = refl
      go false e = (λ d2. share_key (met_of c) (index_marked d e d2) || (e d2 || false)) ∙ ap (λ b. b || false) (met_marked (only_reads c) (only_reads d) (keys_of c) (keys_of d)) ∙ (λ d2. meet c d || ((false || sym e d2) && not (false || is_noop d)))

  pub met_votes : (v : Option Vote) → share_key (met_of c ++ [] ∷ []) (voted_keys v) ≡ votes_against c v
  met_votes None = share_none (met_of c ++ [] ∷ [])
  met_votes (Some v) = met_interferes v.decree.command

  pub met_holders : (m : Map Record) (is : List ℕ) → is ≡ union (holders_of (met_of c) m) (holders [] m) → AreMet c m is
  met_holders m is e = subst (AreMet c m) (sym (e ∙ holders-more (met_of c) [] m)) (all_from (λ i. IsMet c (get m i)) (holders_of (met_of c ++ [] ∷ []) m) met)
    where
      met : (i : ℕ) → Has (holders_of (met_of c ++ [] ∷ []) m) i → IsMet c (get m i)
      met i has =
          let f = those-found (names_one (met_of c ++ [] ∷ [])) (map.entries m) i (sorted_true m) has in
          let at : get m i ≡ Some f.0 = map.get-entries m i ∙ f.1 in
          subst (IsMet c) (sym at) (sym (met_votes f.0.vote) ∙ f.2)

-- Of one key: what reads it meets what writes it, and what writes it both.

pub met_reads : (c : Command) (k : List ℕ) (m : Map Record) (writes : List ℕ) → keys_of c ≡ k ∷ [] → only_reads c ≡ true → writes ≡ holders (0 ∷ k) m → writes ≡ holders_of (met_of c) m
met_reads c k m writes keys r is = is ∙ holders-one (0 ∷ k) m ∙ (λ d. holders_of (met_keys (sym r d) (sym keys d)) m)

pub met_writes : (c : Command) (k : List ℕ) (m : Map Record) (writes reads : List ℕ) → keys_of c ≡ k ∷ [] → only_reads c ≡ false → writes ≡ holders (0 ∷ k) m → reads ≡ holders (1 ∷ k) m → union writes reads ≡ holders_of (met_of c) m
met_writes c k m writes reads keys r a b = (λ d. union (a d) (b d)) ∙ holders-two (0 ∷ k) (1 ∷ k) m ∙ (λ d. holders_of (met_keys (sym r d) (sym keys d)) m)

-- The keys of a command that names one.

pub keyless : (c : Command) → is_seal c ≡ false → is_many c ≡ false → key_of c ≡ None → c ≡ Noop
keyless Noop e m h = refl
keyless (Get k) e m h = absurd (true≢false (ap is_some h))
keyless (Put k v) e m h = absurd (true≢false (ap is_some h))
keyless (Del k) e m h = absurd (true≢false (ap is_some h))
keyless (Swap p) e m h = absurd (true≢false (ap is_some h))
keyless (Cas k x n) e m h = absurd (true≢false (ap is_some h))
keyless (Seal v) e m h = absurd (true≢false e)
keyless (Opaque p b) e m h = absurd (true≢false (ap is_some h))
keyless (Tx is) e m h = absurd (true≢false m)

pub keys_from : (c : Command) (k : List ℕ) → key_of c ≡ Some k → keys_of c ≡ k ∷ listed (second_key_of c)
keys_from Noop k h = absurd (true≢false (sym (ap is_some h)))
keys_from (Get l) k h = ap (λ (l : List ℕ). l ∷ []) (same_Some l k h)
keys_from (Put l v) k h = ap (λ (l : List ℕ). l ∷ []) (same_Some l k h)
keys_from (Del l) k h = ap (λ (l : List ℕ). l ∷ []) (same_Some l k h)
keys_from (Swap p) k h = ap (λ (l : List ℕ). l ∷ p.second ∷ []) (same_Some p.first k h)
keys_from (Cas l x n) k h = ap (λ (l : List ℕ). l ∷ []) (same_Some l k h)
keys_from (Seal v) k h = absurd (true≢false (sym (ap is_some h)))
keys_from (Tx is) k h = absurd (true≢false (sym (ap is_some h)))
keys_from (Opaque p b) k h = ap (λ (l : List ℕ). l ∷ listed p.second) (same_Some p.first k h)

pub keyed_some : (c : Command) (k : List ℕ) (ks : List (List ℕ)) → keys_of c ≡ k ∷ ks → is_noop c ≡ false
keyed_some Noop k ks h = absurd (true≢false (sym (ap is_cons h)))
  where
    is_cons : List (List ℕ) → Bool
    is_cons [] = false
    is_cons (l ∷ ls) = true
keyed_some (Get l) k ks h = refl
keyed_some (Put l v) k ks h = refl
keyed_some (Del l) k ks h = refl
keyed_some (Swap p) k ks h = refl
keyed_some (Cas l x n) k ks h = refl
keyed_some (Seal v) k ks h = refl
keyed_some (Opaque p b) k ks h = refl
keyed_some (Tx is) k ks h = refl

module _ (c : Command) (except : ℕ) where
  pub gathered-some : (m : Map Record) (some : Entry → Bool) → ((e : Entry) → touches c except e ≡ true → some e ≡ true) →
      next_attrs (gather_all (touches c except) m (record { seq = 0; deps = [] }) (instances (those some (entries m)))) ≡ interference m except c
  gathered-some m some touched =
      let found : AllByRecursion (λ e. get m e.0 ≡ Some e.1) (those some (entries m)) =
      all_those (λ e. get m e.0 ≡ Some e.1) some (entries m)
      (all_map {P = λ e. find nat_cmp e.0 (entries m) ≡ Some e.1} {Q = λ e. get m e.0 ≡ Some e.1} (entries m) (λ e at. map.get-entries m e.0 ∙ at) (all_found (entries m) (sorted_true m))) in
      let least : (n : ℕ) → max 0 n ≡ n = λ n. omega arith in
      ap next_attrs (gathered_all (touches c except) m (those some (entries m)) found (record { seq = 0; deps = [] }))
      ∙ ap (λ (es : List Entry). next_attrs (record { seq = max 0 (greatest_seq es); deps = instances es })) (those_within (touches c except) some (entries m) touched)
      ∙ (λ d. next_attrs (record { seq = least (greatest_seq (those (touches c except) (entries m))) d; deps = instances (those (touches c except) (entries m)) }))

  touched_key : is_seal c ≡ false → is_noop c ≡ false → (e : Entry) → touches c except e ≡ true → names_one (met_of c ++ [] ∷ []) e ≡ true
  touched_key plain some e h = met_votes c plain some e.1.vote ∙ (and_parts (not (eqb e.0 except)) (votes_against c e.1.vote) h).1

  -- of a command that is neither a seal nor a no-op: what it meets by its keys, and seals
  pub gathered-keys : is_seal c ≡ false → is_noop c ≡ false → (m : Map Record) (is : List ℕ) → is ≡ union (holders_of (met_of c) m) (holders [] m)
      → next_attrs (gather_all (touches c except) m (record { seq = 0; deps = [] }) is) ≡ interference m except c
  gathered-keys plain some m is e =
      ap (λ is. next_attrs (gather_all (touches c except) m (record { seq = 0; deps = [] }) is)) (e ∙ holders-more (met_of c) [] m)
      ∙ gathered-some m (names_one (met_of c ++ [] ∷ [])) (touched_key plain some)

  -- of any command: all that is recorded
  pub gathered-every : (m : Map Record) → next_attrs (gather_all (touches c except) m (record { seq = 0; deps = [] }) (recorded m)) ≡ interference m except c
  gathered-every m =
      ap (λ (es : List Entry). next_attrs (gather_all (touches c except) m (record { seq = 0; deps = [] }) (instances es))) (sym (all_of (entries m)))
      ∙ gathered-some m (λ e. true) (λ e h. refl)
    where
      all_of : (es : List Entry) → those (λ e. true) es ≡ es
      all_of [] = refl
      all_of (e ∷ es) = ap (λ (fs : List Entry). e ∷ fs) (all_of es)

  pub gathered-none : (m : Map Record) → c ≡ Noop → next_attrs (record { seq = 0; deps = [] }) ≡ interference m except c
  gathered-none m is = ap (λ (es : List Entry). next_attrs (record { seq = greatest_seq es; deps = instances es })) (sym (nobody (entries m)))
    where
      against : (v : Option Vote) → votes_against c v ≡ false
      against None = refl
      against (Some v) = no_meet (interfere c v.decree.command) (λ e. Interferes-noop v.decree.command ((Decides-interfere Noop v.decree.command).0 (ap (λ d. interfere d v.decree.command) (sym is) ∙ e)))
        where
          no_meet : (b : Bool) → (b ≡ true → ⊥) → b ≡ false
          no_meet true h = absurd (h refl)
          no_meet false h = refl

      nobody : (es : List Entry) → those (touches c except) es ≡ []
      nobody [] = refl
      nobody (e ∷ es) = go (not (eqb e.0 except)) (votes_against c e.1.vote) (against e.1.vote) (nobody es)
        where
          go : (a b : Bool) → b ≡ false → those (touches c except) es ≡ [] → cond (a && b) (e ∷ those (touches c except) es) (those (touches c except) es) ≡ []
          go a true h rest = absurd (true≢false h)
          go true false h rest = rest
          go false false h rest = rest

-- All places.

-- an instance is one of an entry with a record
places_from : (es : List (ℕ × Option Record)) (i : ℕ) → Has (recorded_in es) i → (r : Record) × In (i, Some r) es
places_from [] i h = absurd (Has-empty i h)
places_from (e ∷ es) i h = go e.1 refl h (places_from es i)
  where
    go : (o : Option Record) → e.1 ≡ o → Has (cond (is_some o) (e.0 ∷ recorded_in es) (recorded_in es)) i → (Has (recorded_in es) i → (r : Record) × In (i, Some r) es) → (r : Record) × In (i, Some r) (e ∷ es)
    go None at k rec = let t = rec k in (t.0, inr t.1)
    go (Some r) at k rec = elim (Has-cons_cases e.0 (recorded_in es) i k) [
      | inl same ↦ (r, inl (λ t. (same t, at t)))
      | inr rest ↦ (let t = rec rest in (t.0, inr t.1))
    ]

places_have : (es : List (ℕ × Option Record)) (i : ℕ) (r : Record) → In (i, Some r) es → Has (recorded_in es) i
places_have [] i r h = absurd h
places_have (e ∷ es) i r (inl is) = subst (λ f. Has (cond (is_some f.1) (f.0 ∷ recorded_in es) (recorded_in es)) i) (sym is) (Has-first i (recorded_in es))
places_have (e ∷ es) i r (inr h) = go (is_some e.1) (places_have es i r h)
  where
    go : (b : Bool) → Has (recorded_in es) i → Has (cond b (e.0 ∷ recorded_in es) (recorded_in es)) i
    go true k = Has-tail e.0 (recorded_in es) i k
    go false k = k

-- an element of a list, and its place
has_element : (xs : List ℕ) (i : ℕ) → Has xs i → Contains xs i
has_element [] i h = absurd (Has-empty i h)
has_element (x ∷ xs) i h = elim (Has-cons_cases x xs i h) [
  | inl same ↦ (0, omega arith, same)
  | inr rest ↦ (let t = has_element xs i rest in (suc t.0, omega (arith, t.1), t.2))
]

element_has : (xs : List ℕ) (i : ℕ) → Contains xs i → Has xs i
element_has [] i h = absurd (omega (arith, h.1))
element_has (x ∷ xs) i (zero, lt, is) = Has-head x xs i is
element_has (x ∷ xs) i (suc k, lt, is) = Has-tail x xs i (element_has xs i (k, omega (arith, lt), is))

increasing_rises : (xs : List ℕ) → IsStrictlyIncreasing xs → IsRising xs
increasing_rises [] h = tt
increasing_rises (x ∷ []) h = (tt, tt)
increasing_rises (x ∷ y ∷ ys) h = (h 0 (omega arith), increasing_rises (y ∷ ys) later)
  where
    later : (k : ℕ) → k + 1 < length (y ∷ ys) → slice_index (y ∷ ys) k < slice_index (y ∷ ys) (k + 1)
    later k lt = let e : suc k + 1 ≡ suc (k + 1) = omega arith in subst (λ n. slice_index (y ∷ ys) k < slice_index (x ∷ y ∷ ys) n) e (h (suc k) (omega (arith, lt)))

-- in order, each once, the instances of a table's entries are what is recorded
pub places_sorted : (m : Map Record) (es : List (ℕ × Option Record)) (is : List ℕ) → AreRecords m es → IsPermutation (recorded_in es) is → IsSorted nat_cmp is →
    (dedup eqb is ≡ recorded m) × IsRising (dedup eqb is)
places_sorted m es is are moved sorted = (
  same_members (dedup eqb is) (recorded m) rises (subst IsRising (all_of (entries m)) (rising_those (λ e. true) (entries m) (sorted_true m)))
      (λ i h. let from = places_from es i (element_has (recorded_in es) i (Contains-permutation is (recorded_in es) i (IsPermutation-sym (recorded_in es) is moved) (Contains-from_dedup eqb is i (has_element (dedup eqb is) i h)))) in
      subst (λ is. Has is i) (all_of (entries m)) (found-those (λ e. true) (entries m) i from.0 (sym (map.get-entries m i) ∙ (are i from.0).1 from.1) refl))
      (λ i h. let f = those-found (λ e. true) (entries m) i (sorted_true m) (subst (λ is. Has is i) (sym (all_of (entries m))) h) in
      let there = places_have es i f.0 ((are i f.0).0 (map.get-entries m i ∙ f.1)) in
      element_has (dedup eqb is) i (Contains-dedup_nat is i (Contains-permutation (recorded_in es) is i moved (has_element (recorded_in es) i there)))),
  rises,
)
  where
    all_of : (es : List Entry) → instances (those (λ e. true) es) ≡ instances es
    all_of [] = refl
    all_of (e ∷ es) = ap (λ (is : List ℕ). e.0 ∷ is) (all_of es)

    rises : IsRising (dedup eqb is)
    rises = increasing_rises (dedup eqb is) (IsStrictlyIncreasing-dedup is sorted)

-- Rising while it is gathered.

-- what is rising stays so without one in its midst
pub rising_without : (xs : List ℕ) (i : ℕ) (ys : List ℕ) → IsRising (xs ++ i ∷ ys) → IsRising (xs ++ ys)
rising_without [] i ys h = h.1
rising_without (x ∷ []) i [] h = (tt, tt)
rising_without (x ∷ []) i (y ∷ ys) h = let low = h.0 in let high = h.1.0 in (omega (arith, low, high), h.1.1)
rising_without (x ∷ z ∷ zs) i ys h = (h.0, rising_without (z ∷ zs) i ys h.1)

-- and its front is rising
pub rising_front : (xs : List ℕ) (i : ℕ) (ys : List ℕ) → IsRising (xs ++ i ∷ ys) → IsRising (xs ++ i ∷ [])
rising_front [] i ys h = (tt, tt)
rising_front (x ∷ []) i ys h = (h.0, (tt, tt))
rising_front (x ∷ z ∷ zs) i ys h = (h.0, rising_front (z ∷ zs) i ys h.1)

-- whether i was appended or not
pub rising_gathered : (t : Entry → Bool) (g : Gathered) (i : ℕ) (o : Option Record) (ys : List ℕ) → IsRising (g.deps ++ i ∷ ys) → IsRising ((gather t g i o).deps ++ ys)
rising_gathered t g i None ys h = rising_without g.deps i ys h
rising_gathered t g i (Some r) ys h =
    elim (t (i, r)) as (λ b. IsRising ((cond b (record { seq = max g.seq (seq_of r.vote); deps = g.deps ++ i ∷ [] }) g).deps ++ ys)) [
      | true ↦ subst IsRising (sym (append_assoc g.deps (i ∷ []) ys)) h
      | false ↦ rising_without g.deps i ys h
    ]

-- One run and none.

pub union_none : (xs ys : List ℕ) → true ≡ eqb (length ys) 0 → union xs ys ≡ xs
union_none xs ys e = ap (union xs) (none ys e) ∙ alone xs
  where
    none : (ys : List ℕ) → true ≡ eqb (length ys) 0 → ys ≡ []
    none [] e = refl
    none (y ∷ ys) e = absurd (let is = eqb-true (suc (length ys)) 0 (sym e) in omega arith)

    alone : (xs : List ℕ) → union xs [] ≡ xs
    alone [] = refl
    alone (x ∷ xs) = ap (λ (zs : List ℕ). x ∷ zs) (alone xs)
