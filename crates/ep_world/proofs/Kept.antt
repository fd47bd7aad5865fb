-- The replicas of a world as its parts.
use Rattle.std.proofs.Common.{◌≡◌, ℕ, zero, suc, ◌+◌, ◌<◌, ◌≤◌, Option, Some, None, List, [], ◌∷◌, ◌++◌, length, get_or, set, slice_get, refl, sym, ap, subst, ◌∙◌, arith, append-nil, append_assoc, Bor, IfSome, option_copied}
use Rattle.std.proofs.lemmas.Option.{slice_get_within}
use Rattle.ep_base.specs.Quorums.{size}
use Rattle.ep_base.specs.declared.version.Version.{Version}
use Rattle.ep_rules.specs.Journals.{AreClocked}
use Rattle.ep_journal.specs.Entries.{Log, entries_of, IsJournal, AreInOrder, all_entries, first_opening, Collected, frame_in}
use Rattle.ep_journal.specs.declared.entry.Entry.{Entry}
use Rattle.ep_replica.specs.Kept.{Kept, first_version}
use Rattle.ep_journal.proofs.InOrder.{named}
use Rattle.ep_journal.specs.Openings.{Beginning, Opening, OpensIn}
use Rattle.ep_world.specs.Played.{collected, replica_in, numbered, IsWorld}
use Rattle.ep_world.specs.Playing.{with_entry}
use Rattle.ep_world.specs.Replicas.{AreReplicas, AreAll, world_of, AreTheirs}
use Rattle.ep_world.specs.declared.place.Place.{Place}

pub count_all : (ks : List Kept) → length (all_entries ks) ≡ length ks
count_all [] = refl
count_all (k ∷ ks) = ap suc (count_all ks)

replicas_size : (v : Version) (o : Opening) (f r : ℕ) (ks : List Kept) → AreReplicas v o f r ks → r + length ks ≡ size f
replicas_size v o f r [] h = let q : r ≡ size f = h in omega arith
replicas_size v o f r (k ∷ ks) h = let q = replicas_size v o f (suc r) ks h.4 in omega arith

pub as_many : (f : ℕ) (ks : List Kept) → AreAll f ks → length ks ≡ size f
as_many f ks h = let q = replicas_size (first_version ks) (first_opening ks) f 0 ks h in omega arith

-- the replica that stands at a place
pub record At (v : Version) (o : Opening) (f r n : ℕ) (ks : List Kept) (k : Kept) : Type 0 where
  pub version : k.version ≡ v
  pub opening : k.opening ≡ o
  pub faults : k.faults ≡ f
  pub me : k.me ≡ r + n
  pub entries : get_or (all_entries ks) n [] ≡ k.entries

pub kept_at : (v : Version) (o : Opening) (f r n : ℕ) (ks : List Kept) (k : Kept) → AreReplicas v o f r ks → slice_get ks n ≡ Some k → At v o f r n ks k
kept_at v o f r n [] k h is = absurd (cc)
kept_at v o f r zero (x ∷ ks) k h is =
    let same : x ≡ k = (let s : Some x ≡ Some k = is in cc) in
    subst (λ (z : Kept). At v o f r 0 (x ∷ ks) z) same (record { version = h.0; opening = h.1; faults = h.2; me = (let q = h.3 in omega arith); entries = refl })
kept_at v o f r (suc n) (x ∷ ks) k h is =
    let t = kept_at v o f (suc r) n ks k h.4 is in
    record { version = t.version; opening = t.opening; faults = t.faults; me = (let q = t.me in omega arith); entries = t.entries }

-- another one of the same number in its place
pub replicas_set : (v : Version) (o : Opening) (f r n : ℕ) (ks : List Kept) (k : Kept) → AreReplicas v o f r ks → k.version ≡ v → k.opening ≡ o → k.faults ≡ f → k.me ≡ r + n → AreReplicas v o f r (set ks n k)
replicas_set v o f r n [] k h version opening faults me = h
replicas_set v o f r zero (x ∷ ks) k h version opening faults me = (version, opening, faults, omega arith, h.4)
replicas_set v o f r (suc n) (x ∷ ks) k h version opening faults me = (h.0, h.1, h.2, h.3, replicas_set v o f (suc r) n ks k h.4 version opening faults (omega arith))

-- what they start as stays
pub first_set : (n : ℕ) (ks : List Kept) (k : Kept) → k.version ≡ first_version ks → k.opening ≡ first_opening ks → (first_version (set ks n k) ≡ first_version ks) × (first_opening (set ks n k) ≡ first_opening ks)
first_set n [] k version opening = (refl, refl)
first_set zero (x ∷ ks) k version opening = (version, opening)
first_set (suc n) (x ∷ ks) k version opening = (refl, refl)

pub all_set : (n : ℕ) (ks : List Kept) (k : Kept) (e : Entry) → k.entries ≡ get_or (all_entries ks) n [] ++ e ∷ [] → all_entries (set ks n k) ≡ with_entry (all_entries ks) n e
all_set n [] k e is = refl
all_set zero (x ∷ ks) k e is = ap (λ (es : List Entry). es ∷ all_entries ks) is
all_set (suc n) (x ∷ ks) k e is = ap (λ (ess : List (List Entry)). x.entries ∷ ess) (all_set n ks k e is)

pub entries_there : (ks : List Kept) (r : ℕ) (k : Kept) → slice_get ks r ≡ Some k → get_or (all_entries ks) r [] ≡ k.entries
entries_there [] r k is = absurd (cc)
entries_there (x ∷ ks) zero k is = let same : x ≡ k = (let s : Some x ≡ Some k = is in cc) in ap (λ (z : Kept). z.entries) same
entries_there (x ∷ ks) (suc r) k is = entries_there ks r k is

none_there : (ks : List Kept) (r : ℕ) → slice_get ks r ≡ None → get_or (all_entries ks) r [] ≡ []
none_there [] r is = refl
none_there (x ∷ ks) zero is = absurd (cc)
none_there (x ∷ ks) (suc r) is = none_there ks r is

no_entry : (n : ℕ) → numbered {X = Entry} [] n ≡ None
no_entry zero = refl
no_entry (suc n) = refl

pub no_entry_there : (ks : List Kept) (r n : ℕ) → slice_get ks r ≡ None → numbered (get_or (all_entries ks) r []) n ≡ None
no_entry_there ks r n is = ap (λ (es : List Entry). numbered es n) (none_there ks r is) ∙ no_entry n

pub entry_there : (ks : List Kept) (r n : ℕ) (k : Kept) (es : List Entry) → slice_get ks r ≡ Some k → es ≡ k.entries → numbered es n ≡ numbered (get_or (all_entries ks) r []) n
entry_there ks r n k es there same = ap (λ (xs : List Entry). numbered xs n) (same ∙ sym (entries_there ks r k there))

pub frame_there : (o : Option Entry) (out : ℕ) (e : Entry) (fs : List (List ℕ)) → o ≡ Some e → fs ≡ e.frames → slice_get fs out ≡ frame_in o out
frame_there o out e fs entry frames = ap (λ (bs : List (List ℕ)). slice_get bs out) frames ∙ sym (ap (λ (q : Option Entry). frame_in q out) entry)

-- Replicas before any event.

abbrev fresh_one : Version → Opening → ℕ → ℕ → Kept
fresh_one v o f r = record { version = v; faults = f; me = r; opening = o; entries = [] }

pub more_fresh :
    (v : Version) (o : Opening) (f r : ℕ) (ks more : List Kept) (k : Kept) → more ≡ ks ++ k ∷ [] → k ≡ fresh_one v o f r → ((rest : List Kept) → AreReplicas v o f r rest → AreReplicas v o f 0 (ks ++ rest)) → (rest : List Kept) → AreReplicas v o f (r + 1) rest →
    AreReplicas v o f 0 (more ++ rest)
more_fresh v o f r ks more k is fresh old rest h =
    let next : r + 1 ≡ suc r = omega arith in
    let here : AreReplicas v o f r (k ∷ rest) = (ap (λ (z : Kept). z.version) fresh, ap (λ (z : Kept). z.opening) fresh, ap (λ (z : Kept). z.faults) fresh, ap (λ (z : Kept). z.me) fresh, subst (λ n. AreReplicas v o f n rest) next h) in
    subst (λ (xs : List Kept). AreReplicas v o f 0 (xs ++ rest)) (sym is) (subst (λ (xs : List Kept). AreReplicas v o f 0 xs) (sym (append_assoc ks (k ∷ []) rest)) (old (k ∷ rest) here))

none_more : (ks : List Kept) (k : Kept) → k.entries ≡ [] → ((r : ℕ) → get_or (all_entries ks) r [] ≡ []) → (r : ℕ) → get_or (all_entries (ks ++ k ∷ [])) r [] ≡ []
none_more [] k is old zero = is
none_more [] k is old (suc r) = refl
none_more (x ∷ ks) k is old zero = old 0
none_more (x ∷ ks) k is old (suc r) = none_more ks k is (λ q. old (suc q)) r

pub still_none : (v : Version) (o : Opening) (f r : ℕ) (ks more : List Kept) (k : Kept) → more ≡ ks ++ k ∷ [] → k ≡ fresh_one v o f r → ((q : ℕ) → get_or (all_entries ks) q [] ≡ []) → (q : ℕ) → get_or (all_entries more) q [] ≡ []
still_none v o f r ks more k is fresh old q = subst (λ (xs : List Kept). get_or (all_entries xs) q [] ≡ []) (sym is) (none_more ks k (ap (λ (z : Kept). z.entries) fresh) old q)

-- all of a cluster, which give its version and opening
pub record Whole (v : Version) (o : Opening) (f : ℕ) (ks : List Kept) : Type 0 where
  pub version : first_version ks ≡ v
  pub opening : first_opening ks ≡ o
  pub all : AreAll f ks

all_first : (v : Version) (o : Opening) (f : ℕ) (ks : List Kept) → AreReplicas v o f 0 ks → Whole v o f ks
all_first v o f [] h = absurd (let a : 0 ≡ size f = h in omega arith)
all_first v o f (k ∷ ks) h =
    record { version = h.0; opening = h.1; all = subst (λ (u : Version). AreReplicas u k.opening f 0 (k ∷ ks)) (sym h.0) (subst (λ (p : Opening). AreReplicas v p f 0 (k ∷ ks)) (sym h.1) h) }

pub whole : (v : Version) (o : Opening) (f r : ℕ) (ks : List Kept) → r ≡ size f → ((rest : List Kept) → AreReplicas v o f r rest → AreReplicas v o f 0 (ks ++ rest)) → Whole v o f ks
whole v o f r ks is h = all_first v o f ks (subst (λ (xs : List Kept). AreReplicas v o f 0 xs) (append-nil ks) (h [] is))

-- What a look-up lends, by what it finds.

pub if_copied : {X : Type 0} (P : X → Type 0) (o : Option (Bor X)) (m : Option X) → option_copied o ≡ m → ((x : X) → m ≡ Some x → P x) → IfSome o (λ b. P b.now)
if_copied P None m is h = tt
if_copied P (Some b) m is h = h b.now (sym is)

pub none_copied : {X : Type 0} (o : Option (Bor X)) (m : Option X) → option_copied o ≡ m → o ≡ None → m ≡ None
none_copied o m is none = sym is ∙ ap option_copied none

past : (ks : List Kept) (r : ℕ) → slice_get ks r ≡ None → length ks ≤ r
past [] r is = omega arith
past (x ∷ ks) zero is = absurd (cc)
past (x ∷ ks) (suc r) is = let q = past ks r is in omega arith

pub no_replica : (f r : ℕ) (ks : List Kept) → AreAll f ks → slice_get ks r ≡ None → size f ≤ r
no_replica f r ks h is = let n = as_many f ks h in let p = past ks r is in omega arith

pub this_replica : (f r : ℕ) (ks : List Kept) (steps : List (ℕ × ℕ)) (messages : List Place) (k : Kept) → AreAll f ks → slice_get ks r ≡ Some k → (r < size f) × (k ≡ replica_in (world_of f ks steps messages) r)
this_replica f r ks steps messages k h is =
    let t = kept_at (first_version ks) (first_opening ks) f 0 r ks k h is in
    let n = as_many f ks h in
    let l = slice_get_within ks r k is in
    let me : k.me ≡ r = (let q = t.me in omega arith) in
    (omega arith, λ i. record { version = t.version i; faults = t.faults i; me = me i; opening = t.opening i; entries = sym t.entries i })

-- A world before any event.

pub new_world : (f : ℕ) (ks : List Kept) (steps : List (ℕ × ℕ)) (messages : List Place) → AreAll f ks → OpensIn (first_version ks) (first_opening ks) → ((r : ℕ) → get_or (all_entries ks) r [] ≡ []) → steps ≡ [] → messages ≡ [] → IsWorld (world_of f ks steps messages)
new_world f ks steps messages h opens none no_steps no_messages = record {
  schedule = [];
  shows = record { journals = λ r. ap entries_of (sym (none r)); steps = no_steps; messages = no_messages; played = tt };
  journals = record { count = count_all ks ∙ as_many f ks h; opens = opens; journal = λ r lt. subst (λ (es : List Entry). IsJournal (first_version ks) (first_opening ks) f r es) (sym (none r)) (record { run = (tt, tt); above = tt; readable = tt; versioned = tt }); others = λ r ge. none r };
  clocked = λ r. subst (λ (es : List Entry). AreClocked (first_opening ks).base_stamp (entries_of es)) (sym (none r)) tt;
}

pub all_open : (b : Beginning) (ks : List Kept) → first_version ks ≡ b.version → first_opening ks ≡ b.opening
    → OpensIn b.version b.opening → OpensIn (first_version ks) (first_opening ks)
all_open b ks version opening opens =
    subst (λ (v : Version). OpensIn v (first_opening ks)) (sym version) (subst (OpensIn b.version) (sym opening) opens)

pub same_world : (f : ℕ) (ks js : List Kept) (steps other_steps : List (ℕ × ℕ)) (messages others : List Place) → (js ≡ ks) × (other_steps ≡ steps) × (others ≡ messages) → IsWorld (world_of f ks steps messages) → IsWorld (world_of f js other_steps others)
same_world f ks js steps other_steps messages others is h = subst IsWorld (λ i. world_of f (sym is.0 i) (sym is.1 i) (sym is.2 i)) h

-- The journals of the replicas.

pub theirs_more : (ks : List Kept) (ls more : List Log) (k : Kept) (l : Log) → more ≡ ls ++ l ∷ [] → l ≡ k → IsJournal l.version l.opening l.faults l.me l.entries → AreTheirs ks ls → AreTheirs (ks ++ k ∷ []) more
theirs_more ks ls more k l is same run h = subst (λ (xs : List Log). AreTheirs (ks ++ k ∷ []) xs) (sym is) (go ks ls h)
  where
    go : (ks : List Kept) (ls : List Log) → AreTheirs ks ls → AreTheirs (ks ++ k ∷ []) (ls ++ l ∷ [])
    go [] [] h = (same, run, tt)
    go [] (x ∷ ls) h = absurd h
    go (x ∷ ks) [] h = absurd h
    go (x ∷ ks) (y ∷ ls) h = (h.0, h.1, go ks ls h.2)

theirs_are : (ks : List Kept) (ls : List Log) → AreTheirs ks ls → ls ≡ ks
theirs_are [] [] h = refl
theirs_are [] (l ∷ ls) h = absurd h
theirs_are (k ∷ ks) [] h = absurd h
theirs_are (k ∷ ks) (l ∷ ls) h = λ i. h.0 i ∷ theirs_are ks ls h.2 i

theirs_in_order : (v : Version) (o : Opening) (f r : ℕ) (ks : List Kept) (ls : List Log) → OpensIn v o → AreReplicas v o f r ks → AreTheirs ks ls → AreInOrder v o f r ls
theirs_in_order v o f r [] [] opens all h = all
theirs_in_order v o f r [] (l ∷ ls) opens all h = absurd h
theirs_in_order v o f r (k ∷ ks) [] opens all h = absurd h
theirs_in_order v o f r (k ∷ ks) (l ∷ ls) opens all h =
    let version : l.version ≡ v = ap (λ (z : Log). z.version) h.0 ∙ all.0 in
    let opening : l.opening ≡ o = ap (λ (z : Log). z.opening) h.0 ∙ all.1 in
    let faults : l.faults ≡ f = ap (λ (z : Log). z.faults) h.0 ∙ all.2 in
    let me : l.me ≡ r = ap (λ (z : Log). z.me) h.0 ∙ all.3 in
    (named v o f r l version opening faults (subst (λ (u : Version). OpensIn u l.opening) (sym version) (subst (OpensIn v) (sym opening) opens)) h.1 me, theirs_in_order v o f (suc r) ks ls opens all.4 h.2)

pub in_order : (f : ℕ) (ks : List Kept) (ls : List Log) → OpensIn (first_version ks) (first_opening ks) → AreAll f ks → AreTheirs ks ls → (v : Version) × (o : Opening) × (n : ℕ) × AreInOrder v o n 0 ls
in_order f ks ls opens all h = (first_version ks, first_opening ks, f, theirs_in_order (first_version ks) (first_opening ks) f 0 ks ls opens all h)

-- they give the version, the opening and the cluster
same_named : (f n : ℕ) (v : Version) (p : Opening) (ks : List Kept) → AreAll f ks → AreInOrder v p n 0 ks → (v ≡ first_version ks) × (p ≡ first_opening ks) × (n ≡ f)
same_named f n v p [] all o = absurd (let a : 0 ≡ size f = all in omega arith)
same_named f n v p (k ∷ ks) all o = (sym o.0.version, sym o.0.opening, sym o.0.faults ∙ all.2)

pub collects : (f : ℕ) (ks : List Kept) (steps : List (ℕ × ℕ)) (messages : List Place) (ls : List Log) (j : Collected) → AreAll f ks → AreTheirs ks ls → AreInOrder j.version j.opening j.faults 0 ls → j.entries ≡ all_entries ls → j ≡ collected (world_of f ks steps messages)
collects f ks steps messages ls j all h o is =
    let theirs = theirs_are ks ls h in
    let same = same_named f j.faults j.version j.opening ks all (subst (λ (xs : List Log). AreInOrder j.version j.opening j.faults 0 xs) theirs o) in
    λ i. record { version = same.0 i; faults = same.2 i; opening = same.1 i; entries = (is ∙ ap all_entries theirs) i }
