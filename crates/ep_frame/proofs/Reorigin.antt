-- A frame with another origin.
use Rattle.std.proofs.Common.{◌≡◌, ◌≢◌, ℕ, ◌<◌, ◌≤◌, List, [], ◌++◌, length, take, drop, refl, sym, ap, subst, ◌∙◌, append_assoc, arith}
use Rattle.std.specs.Prelude.{Some, None, slice_index}
use Rattle.std.specs.List.{flat_map}
use Rattle.std.proofs.lemmas.List.{take_at, drop_at, length-append, length-take, length-drop, append-nil, take-append-le, get_or_append_left}
use Rattle.ep_base.specs.declared.message.Message.{Message}
use Rattle.ep_base.specs.declared.version.Version.{Version}
use Rattle.ep_base.specs.declared.message.Message.TheVariants.{PreAccept, PreAcceptOk, Accept, AcceptOk, Commit, Prepare, PrepareOk, Nack}
use Rattle.ep_frame.specs.declared.origin.Origin.{Origin}
use Rattle.ep_frame.specs.Fields.{spelled, number_at, number_bytes, start_fields, origin_fields, ballot_fields, vote_fields, body_fields, late_fields, dep_bytes}
use Rattle.ep_frame.specs.Origins.{origin_bytes, readdressed, OriginFits, KeepsMessage}
use Rattle.ep_frame.specs.Spelling.{FrameParts, Spells, parts_bytes, parts_of}
use Rattle.ep_frame.proofs.Again.{length-spelled}
use Rattle.ep_frame.proofs.Meanings.{sender_spelled}

abbrev reorigin : Origin → FrameParts → FrameParts
reorigin o p = record p { header = record p.header { to = o.to; out = o.out; entry = o.entry; stamp = o.stamp } }

reorigin_is : (v : Version) (from : ℕ) (o n : Origin) (m : Message) → parts_of v from n m ≡ reorigin n (parts_of v from o m)
reorigin_is v from o n (PreAccept i b x) = refl
reorigin_is v from o n (PreAcceptOk i b a) = refl
reorigin_is v from o n (Accept i b x) = refl
reorigin_is v from o n (AcceptOk i b) = refl
reorigin_is v from o n (Commit i x) = refl
reorigin_is v from o n (Prepare i b) = refl
reorigin_is v from o n (PrepareOk i b None) = refl
reorigin_is v from o n (PrepareOk i b (Some x)) = refl
reorigin_is v from o n (Nack i p q) = refl

abbrev tail_of : FrameParts → List ℕ
tail_of p = spelled (ballot_fields p.header) ++ (spelled (vote_fields p.header) ++ (spelled (body_fields p.header) ++ (spelled (late_fields p.header) ++ (p.key ++ (p.second ++ (p.body ++ flat_map dep_bytes p.deps))))))

regrouped : (s o a v y l k w c d : List ℕ) → (((((((((s ++ o) ++ a) ++ v) ++ y) ++ l) ++ k) ++ w) ++ c) ++ d) ≡ s ++ (o ++ (a ++ (v ++ (y ++ (l ++ (k ++ (w ++ (c ++ d))))))))
regrouped s o a v y l k w c d = simp append_assoc

origin_joined : (a b c d : List ℕ) → ((a ++ b) ++ c) ++ d ≡ a ++ (b ++ (c ++ (d ++ [])))
origin_joined a b c d = simp (append_assoc, append-nil)

parts_split : (p : FrameParts) → parts_bytes p ≡ spelled (start_fields p.header) ++ (spelled (origin_fields p.header) ++ tail_of p)
parts_split p =
    regrouped (spelled (start_fields p.header)) (spelled (origin_fields p.header)) (spelled (ballot_fields p.header)) (spelled (vote_fields p.header)) (spelled (body_fields p.header)) (spelled (late_fields p.header)) p.key p.second p.body (flat_map dep_bytes p.deps)

changed : (o : Origin) (p : FrameParts) → parts_bytes (reorigin o p) ≡ (take 5 (parts_bytes p) ++ origin_bytes o) ++ drop 20 (parts_bytes p)
changed o p =
    let s = spelled (start_fields p.header) in let g = spelled (origin_fields p.header) in
    let front : take 5 (parts_bytes p) ≡ s = ap (take 5) (parts_split p) ∙ take_at s (g ++ tail_of p) 5 (length-spelled (start_fields p.header)) in
    let rest : drop 20 (parts_bytes p) ≡ tail_of p =
    ap (drop 20) (parts_split p ∙ sym (append_assoc s g (tail_of p))) ∙ drop_at (s ++ g) (tail_of p) 20 (omega (arith, length-append s g, length-spelled (start_fields p.header), length-spelled (origin_fields p.header))) in
    let middle : origin_bytes o ≡ spelled (origin_fields (reorigin o p).header) = origin_joined (number_bytes 1 o.to) (number_bytes 2 o.out) (number_bytes 4 o.entry) (number_bytes 8 o.stamp) in
    parts_split (reorigin o p) ∙ sym (append_assoc s (spelled (origin_fields (reorigin o p).header)) (tail_of p)) ∙ (λ t. (sym front t ++ sym middle t) ++ sym rest t)

-- a frame whose origin is replaced keeps its message
pub again : (v : Version) (b : List ℕ) (from : ℕ) (o n : Origin) (m : Message) → Spells v b from o m → n.to ≢ from → OriginFits n → Spells v (readdressed b n) from n m
again v b from o n m s apart fits = record {
  version = s.version;
  origin = record {
    sender = s.origin.sender;
    receiver = fits.receiver;
    apart = apart;
    out = fits.out;
    entry_low = fits.entry_low;
    entry_high = fits.entry_high;
    stamp_low = fits.stamp_low;
    stamp_high = fits.stamp_high;
  };
  message = s.message;
  sayable = s.sayable;
  is = ap (λ (x : List ℕ). readdressed x n) s.is ∙ sym (changed n (parts_of v from o m)) ∙ ap parts_bytes (sym (reorigin_is v from o n m));
}

pub length-readdressed : (b : List ℕ) (n : Origin) → 20 ≤ length b → length (readdressed b n) ≡ length b
unfolding number_bytes
length-readdressed b n long = omega (arith, length-append (take 5 b ++ origin_bytes n) (drop 20 b), length-append (take 5 b) (origin_bytes n), length-take 5 b, length-drop 20 b)

front_again : (old body : List ℕ) (k : ℕ) → k < length old → slice_index (old ++ body) k ≡ slice_index old k
front_again old body k lt = get_or_append_left old body 0 k lt

sender_in_front : (old body : List ℕ) → length old ≡ 20 → number_at 4 1 (old ++ body) ≡ number_at 4 1 old
unfolding number_at
sender_in_front old body len = let e = front_again old body 4 (omega (arith, len)) in omega (arith, e)

pub keeps_message : (old : List ℕ) (n : Origin) → length old ≡ 20 → n.to ≢ number_at 4 1 old → OriginFits n → KeepsMessage old (take 5 old ++ origin_bytes n) n
keeps_message old n len apart fits v body from o m s =
    let sender : number_at 4 1 old ≡ from = sym (sender_in_front old body len) ∙ sender_spelled v (old ++ body) from o m s in
    let front : take 5 (old ++ body) ≡ take 5 old = take-append-le 5 old body (omega (arith, len)) in
    let rest : drop 20 (old ++ body) ≡ body = drop_at old body 20 len in
    let same : readdressed (old ++ body) n ≡ (take 5 old ++ origin_bytes n) ++ body = λ t. (front t ++ origin_bytes n) ++ rest t in
    subst (λ x. Spells v x from n m) same (again v (old ++ body) from o n m s (λ e. apart (e ∙ sym sender)) fits)
