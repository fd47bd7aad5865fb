-- What is on the disk.
use Rattle.std.proofs.Common.{◌≡◌, ◌⊎◌, inl, inr, ℕ, ◌+◌, ◌≤◌, false, length, take, take_all, drop, List, ◌++◌, append_assoc, Option, Some, refl, sym, ap, ◌∙◌, subst, arith}
use Rattle.std.proofs.Math.Seq.{take-append_seam}
use Rattle.std.proofs.lemmas.List.{take-append-drop, take-map}
use Rattle.ep_journal.specs.declared.entry.Entry.{Entry}
use Rattle.ep_log.specs.Bytes.{LogRecord, entries_in, header_bytes, log_bytes, records_in}
use Rattle.ep_log.specs.Origins.{Origin}
use Rattle.ep_log.specs.Reading.{IsBeginning}
use Rattle.ep_log.specs.declared.log_version.LogVersion.TheVariants.{Three}
use Rattle.ep_log.proofs.Sequences.{records_append}
use Rattle.ep_node.specs.Nodes.{IsCut, IsQuiet, Logged}
use Rattle.ep_device.specs.Device.{LeavesOnly}
use Rattle.ep_replica.specs.Kept.{Kept}
use Rattle.ep_serve.specs.Lasting.{crashes, Crashes, GoesOn, IsKept, Keeps, Lasts, LastsFrom, StaysKnown, origin_of}
use Rattle.ep_serve.proofs.Growing.{Extends, first_of}

-- Of logs.

-- a log begins with the log of its first records
begins_less : (o : Origin) (f me : ℕ) (rs more : List LogRecord) (c : List ℕ) → IsBeginning (log_bytes o f me (rs ++ more)) c → IsBeginning (log_bytes o f me rs) c
begins_less o f me rs more c h =
    let at : ℕ = length (header_bytes o f me) in
    let later : List ℕ = records_in Three o.version (at + length (records_in Three o.version at rs)) more in
    let whole : log_bytes o f me (rs ++ more) ≡ log_bytes o f me rs ++ later =
    ap (λ (x : List ℕ). header_bytes o f me ++ x) (records_append Three o.version at rs more) ∙ sym (append_assoc (header_bytes o f me) (records_in Three o.version at rs) later) in
    (later ++ h.0, h.1 ∙ ap (λ (x : List ℕ). x ++ h.0) whole ∙ append_assoc (log_bytes o f me rs) later h.0)

entries_of_first : (n : ℕ) (rs : List LogRecord) → entries_in (take n rs) ≡ take n (entries_in rs)
entries_of_first n rs = sym (take-map (λ (r : LogRecord). r.entry) n rs)

pub keeps_less : (digest : List ℕ) (k : Kept) (es more : List Entry) (c : List ℕ) → Keeps digest k (es ++ more) c → Keeps digest k es c
keeps_less digest k es more c h =
    let n : ℕ = length es in
    let o : Origin = origin_of digest k in
    let begins : IsBeginning (log_bytes o k.faults k.me (take n h.0 ++ drop n h.0)) c = subst (λ (x : List LogRecord). IsBeginning (log_bytes o k.faults k.me x) c) (sym (take-append-drop n h.0)) h.2 in
    (take n h.0, entries_of_first n h.0 ∙ ap (λ (x : List Entry). take n x) h.1 ∙ take-append_seam es more, begins_less o k.faults k.me (take n h.0) (drop n h.0) c begins)

pub cut_keeps : {D : Type 0} (node : Logged D) (n : ℕ) (c : List ℕ) → IsCut node n c → Keeps node.digest node.replica (take n node.replica.entries) c
cut_keeps node n c h = (take n h.records, entries_of_first n h.records ∙ ap (λ (x : List Entry). take n x) h.entries, h.cut.kept)

-- Of replicas.

pub keeps_earlier : (digest : List ℕ) (k k' : Kept) (c : List ℕ) → Extends k k' → Keeps digest k' k'.entries c → Keeps digest k k.entries c
keeps_earlier digest k k' c h keeps = keeps_less digest k k.entries h.0 c (subst (λ (x : Kept). Keeps digest x x.entries c) h.1 keeps)

-- Of nodes.

all_first : (n : ℕ) (es : List Entry) → n ≡ length es → take n es ≡ es
all_first n es is = take_all n es (omega (arith, is))

pub rests : {D : Type 0} (digest : List ℕ) (seen : D → Option (List ℕ)) (moment : D → ℕ) (left_since : D → ℕ → List ℕ → Type 0) (n : Logged D) (old : D) (k : Kept) → n.replica ≡ k → n.digest ≡ digest → IsQuiet n → StaysKnown seen old n.device
    → ((bytes : List ℕ) → seen n.device ≡ Some bytes → LeavesOnly moment left_since n.device n.device (IsCut n n.synced)) → IsKept digest seen moment left_since old n.device k
rests digest seen moment left_since n old k same own quiet known at_rest = λ bytes was c left.
    let after = known bytes was in
    let cut : IsCut n n.synced c = (at_rest after.0 after.1).each c left in
    subst (λ (d : List ℕ). Keeps d k k.entries c) own
    (subst (λ (x : Kept). Keeps n.digest x x.entries c) same
    (subst (λ (es : List Entry). Keeps n.digest n.replica es c) (all_first n.synced n.replica.entries quiet.synced) (cut_keeps n n.synced c cut)))

pub leaves_on : {D : Type 0} (seen : D → Option (List ℕ)) (moment : D → ℕ) (left_since : D → ℕ → List ℕ → Type 0) (n : Logged D) (new : D)
    → ((bytes : List ℕ) → seen n.device ≡ Some bytes → LeavesOnly moment left_since n.device new (IsCut n n.synced)) → GoesOn n.digest seen moment left_since n.device new n.replica n.synced
leaves_on seen moment left_since n new leaves = λ bytes was. record {
  later = (leaves bytes was).later;
  keeps = λ t c le left. elim ((leaves bytes was).before t c le left) [
    | inl before ↦ inl before
    | inr cut ↦ inr (cut_keeps n n.synced c cut)
  ];
}

-- of another replica with the same first entries

first_kept : (digest : List ℕ) (k k' : Kept) (n : ℕ) (c : List ℕ) → n ≤ length k.entries → Extends k k' → Keeps digest k' (take n k'.entries) c → Keeps digest k (take n k.entries) c
first_kept digest k k' n c le h keeps = subst (λ (es : List Entry). Keeps digest k es c) (first_of k k' n le h) (subst (λ (x : Kept). Keeps digest x (take n k'.entries) c) h.1 keeps)

pub goes_on_as : {D : Type 0} (digest : List ℕ) (seen : D → Option (List ℕ)) (moment : D → ℕ) (left_since : D → ℕ → List ℕ → Type 0) (old new : D) (k k' : Kept) (n : ℕ) → n ≤ length k.entries → Extends k k'
    → GoesOn digest seen moment left_since old new k' n → GoesOn digest seen moment left_since old new k n
goes_on_as digest seen moment left_since old new k k' n le h goes = λ bytes was. record {
  later = (goes bytes was).later;
  keeps = λ t c before left. elim ((goes bytes was).keeps t c before left) [
    | inl then ↦ inl then
    | inr keeps ↦ inr (first_kept digest k k' n c le h keeps)
  ];
}

-- Of a whole service: what lasted lasts on.

-- what goes on from a device to the next one, in a service that began with the first one
pub record Passes (w w' : Crashes) (s : Kept) : Type 0 where
  pub own : w'.digest ≡ w.digest
  pub known : w'.known → w.known
  pub start : w'.start ≡ w.start
  pub later : w'.known → w.now ≤ w'.now
  pub keeps : w'.known → (t : ℕ) (c : List ℕ) → t ≤ w.now → w'.since t c → w.since t c ⊎ Keeps w.digest s s.entries c

pub passes : {D : Type 0} (digest : List ℕ) (seen : D → Option (List ℕ)) (moment : D → ℕ) (left_since : D → ℕ → List ℕ → Type 0) (start old new : D) (k s : Kept) (n : ℕ) → StaysKnown seen start old → n ≡ length s.entries → Extends s k
    → GoesOn digest seen moment left_since old new k n → Passes (crashes digest seen moment left_since start old) (crashes digest seen moment left_since start new) s
passes digest seen moment left_since start old new k s n known is h goes = record {
  own = refl;
  known = λ p. p;
  start = refl;
  later = λ p. let after = known p.0 p.1 in (goes after.0 after.1).later;
  keeps = λ p t c le left.
      let after = known p.0 p.1 in
      elim ((goes after.0 after.1).keeps t c le left) [
        | inl then ↦ inl then
        | inr keeps ↦ inr (subst (λ (es : List Entry). Keeps digest s es c) (all_first n s.entries is) (first_kept digest s k n c (omega (arith, is)) h keeps))
      ];
}

pub lasts_from_on : (w w' : Crashes) (s k : Kept) (t : ℕ) → Passes w w' s → Extends k s → LastsFrom w t k → LastsFrom w' t k
lasts_from_on w w' s k t p h l = record {
  by_now = λ known. let le : t ≤ w.now = l.by_now (p.known known) in let on : w.now ≤ w'.now = p.later known in omega arith;
  keeps = λ known c left. elim (p.keeps known t c (l.by_now (p.known known)) left) [
    | inl before ↦ subst (λ (d : List ℕ). Keeps d k k.entries c) (sym p.own) (l.keeps (p.known known) c before)
    | inr keeps ↦ subst (λ (d : List ℕ). Keeps d k k.entries c) (sym p.own) (keeps_earlier w.digest k s c h keeps)
  ];
}

pub lasts_on : (w w' : Crashes) (s k : Kept) → Passes w w' s → Extends k s → Lasts w k → Lasts w' k
lasts_on w w' s k p h l = (l.0, lasts_from_on w w' s k l.0 p h l.1)

-- all is on the disk, from now on
pub lasts_now : {D : Type 0} (digest : List ℕ) (seen : D → Option (List ℕ)) (moment : D → ℕ) (left_since : D → ℕ → List ℕ → Type 0) (start old new : D) (k : Kept) → StaysKnown seen start old → IsKept digest seen moment left_since old new k
    → Lasts (crashes digest seen moment left_since start new) k
lasts_now digest seen moment left_since start old new k known kept = (
  moment new,
  record {
    by_now = λ p. omega arith;
    keeps = λ p c left. let after = known p.0 p.1 in kept after.0 after.1 c left;
  },
)

-- it was at the beginning
pub lasts_first : {D : Type 0} (digest : List ℕ) (seen : D → Option (List ℕ)) (moment : D → ℕ) (left_since : D → ℕ → List ℕ → Type 0) (start : D) (k : Kept) → IsKept digest seen moment left_since start start k
    → LastsFrom (crashes digest seen moment left_since start start) (moment start) k
lasts_first digest seen moment left_since start k kept = record { by_now = λ p. omega arith; keeps = λ p c left. kept p.0 p.1 c left }

pub known_on : {D : Type 0} (seen : D → Option (List ℕ)) (start old new : D) → StaysKnown seen start old → StaysKnown seen old new → StaysKnown seen start new
known_on seen start old new a b = λ bytes was. let after = a bytes was in b after.0 after.1

pub known_same : {D : Type 0} (seen : D → Option (List ℕ)) (old new : D) → new ≡ old → StaysKnown seen old new
known_same seen old new same = λ bytes was. (bytes, ap seen same ∙ was)

-- Of one call.

pub quiet_after : {D : Type 0} (n n' : Logged D) → n.closed ≡ false → n' ≡ record n { device = n'.device; synced = length n.replica.entries; on_disk = n'.on_disk } → IsQuiet n'
quiet_after n n' works is = record { works = ap (λ x. x.closed) is ∙ works; synced = ap (λ x. x.synced) is ∙ ap (λ x. length x.replica.entries) (sym is) }

pub kept_as : {D : Type 0} (digest reported : List ℕ) (seen : D → Option (List ℕ)) (moment : D → ℕ) (left_since : D → ℕ → List ℕ → Type 0) (old mid new : D) (k k' : Kept) → reported ≡ digest → mid ≡ old → k' ≡ k → IsKept reported seen moment left_since mid new k → IsKept digest seen moment left_since old new k'
kept_as digest reported seen moment left_since old mid new k k' own same is kept =
    subst (λ (d : List ℕ). IsKept d seen moment left_since old new k') own (subst (λ (x : Kept). IsKept reported seen moment left_since old new x) (sym is) (subst (λ x. IsKept reported seen moment left_since x new k) same kept))

pub onward_before : {D : Type 0} (seen : D → Option (List ℕ)) (moment : D → ℕ) (left_since : D → ℕ → List ℕ → Type 0) (old mid : Logged D) (new : D) → mid ≡ record old { replica = mid.replica } → old.synced ≤ length old.replica.entries → Extends old.replica mid.replica
    → GoesOn mid.digest seen moment left_since mid.device new mid.replica mid.synced → GoesOn old.digest seen moment left_since old.device new old.replica old.synced
onward_before seen moment left_since old mid new same within h goes =
    goes_on_as old.digest seen moment left_since old.device new old.replica mid.replica old.synced within h
    (subst (λ (d : List ℕ). GoesOn d seen moment left_since old.device new mid.replica old.synced) (ap (λ x. x.digest) same)
    (subst (λ (x : ℕ). GoesOn mid.digest seen moment left_since old.device new mid.replica x) (ap (λ x. x.synced) same)
    (subst (λ x. GoesOn mid.digest seen moment left_since x new mid.replica mid.synced) (ap (λ x. x.device) same) goes)))
