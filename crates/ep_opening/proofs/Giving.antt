-- A file that is given in pieces.
use Rattle.std.proofs.Common.{◌≡◌, inl, ℕ, ◌+◌, ◌-◌, ◌≤◌, List, [], ◌++◌, length, take, drop, append-nil, append_assoc, refl, sym, ap, ◌∙◌, arith}
use Rattle.std.proofs.Math.ListN.{drop_of_length-le}
use Rattle.std.proofs.lemmas.Grind.{flat_map-append}
use Rattle.std.proofs.lemmas.List.{drop-drop, take-append-drop}
use Rattle.std.specs.FinMap.{entries}
use Rattle.std.specs.List.{flat_map}
use Rattle.ep_bundle.proofs.MapBytes.{contents_are}
use Rattle.ep_exec.specs.Bytes.{pair_bytes}
use Rattle.ep_frame.specs.Fields.{number_bytes}
use Rattle.sha2.specs.Hashers.{Holds256}
use Rattle.sha2.specs.Sha256.{sha256}
use Rattle.sha2.specs.declared.Sha256.{Sha256}
use Rattle.ep_opening.specs.Bytes.{executed_bytes, file_digest, front_bytes, lead_bytes}
use Rattle.ep_opening.specs.Files.{File}
use Rattle.ep_opening.specs.Pieces.{IsAlone, IsGiven, IsPiece, IsUnderWay, body_left, entries_from, head_bytes, left_of}
use Rattle.ep_opening.specs.declared.stage.Stage.{Stage}
use Rattle.ep_opening.specs.declared.stage.Stage.TheVariants.{Front, Entries, Digest, Over}

-- What the pieces are.

pub first_is : (f : File) (piece : List ℕ) → piece ≡ head_bytes f → IsPiece f Front piece (Entries 0)
first_is f piece is =
    let m = f.opening.contents in
    record {
      is = ap (λ (c : List ℕ). lead_bytes ++ front_bytes f ++ c ++ executed_bytes f.executed) (contents_are m)
          ∙ group lead_bytes (front_bytes f) (number_bytes 4 (length (entries m))) (flat_map pair_bytes (entries m)) (executed_bytes f.executed)
          ∙ ap (λ (c : List ℕ). c ++ (entries_from f 0 ++ executed_bytes f.executed)) (sym is);
      goes_on = refl;
    }
  where
    group : (a b c d e : List ℕ) → a ++ b ++ (c ++ d) ++ e ≡ a ++ b ++ c ++ (d ++ e)
    group a b c d e = simp append_assoc

pub last_is : (f : File) (start : ℕ) (piece : List ℕ) → length (entries f.opening.contents) ≤ start → piece ≡ executed_bytes f.executed → IsPiece f (Entries start) piece Digest
last_is f start piece le is = record {
  is = ap (λ es. flat_map pair_bytes es ++ executed_bytes f.executed) (drop_of_length-le (entries f.opening.contents) le) ∙ sym is ∙ sym (append-nil piece);
  goes_on = refl;
}

pub next_is : (f : File) (start end : ℕ) (es : List (List ℕ × List ℕ)) (piece : List ℕ) → es ≡ entries f.opening.contents → start ≤ end → piece ≡ flat_map pair_bytes (take (end - start) (drop start es)) → IsPiece f (Entries start) piece (Entries end)
next_is f start end es piece same le is =
    let all = entries f.opening.contents in
    let n : ℕ = end - start in
    let far : start + n ≡ end = omega arith in
    let split : flat_map pair_bytes (drop start all) ≡ flat_map pair_bytes (take n (drop start all)) ++ flat_map pair_bytes (drop end all) =
    ap (λ xs. flat_map pair_bytes xs) (sym (take-append-drop n (drop start all)))
    ∙ flat_map-append pair_bytes (take n (drop start all)) (drop n (drop start all))
    ∙ ap (λ xs. flat_map pair_bytes (take n (drop start all)) ++ flat_map pair_bytes xs) (drop-drop n start all ∙ ap (λ (k : ℕ). drop k all) far) in
    let piece_is : piece ≡ flat_map pair_bytes (take n (drop start all)) = is ∙ ap (λ xs. flat_map pair_bytes (take n (drop start xs))) same in
    record {
      is = ap (λ (bs : List ℕ). bs ++ executed_bytes f.executed) split
          ∙ append_assoc (flat_map pair_bytes (take n (drop start all))) (flat_map pair_bytes (drop end all)) (executed_bytes f.executed)
          ∙ ap (λ (bs : List ℕ). bs ++ (entries_from f end ++ executed_bytes f.executed)) (sym piece_is);
      goes_on = refl;
    }

-- What is left, and what was given.

pub piece_left : (f : File) (s next : Stage) (piece old new : List ℕ) → IsPiece f s piece next → old ≡ body_left f s ++ file_digest f → new ≡ left_of f next → old ≡ piece ++ new
piece_left f s next piece old new p h is =
    h ∙ ap (λ (bs : List ℕ). bs ++ file_digest f) p.is ∙ append_assoc piece (body_left f next) (file_digest f) ∙ ap (λ (bs : List ℕ). piece ++ bs) (sym p.goes_on ∙ sym is)

pub digest_left : (f : File) (s next : Stage) (piece new : List ℕ) → IsPiece f s piece next → new ≡ left_of f next
    → IsAlone f piece new
digest_left f s next piece new p is = inl (body_left f next, is ∙ p.goes_on)

moved : (f : File) (s next : Stage) (piece : List ℕ) (h h' : Sha256) → IsUnderWay f s h → ((m : List ℕ) → Holds256 h m → Holds256 h' (m ++ piece)) → IsPiece f s piece next → IsUnderWay f next h'
moved f s next piece h h' u more p = record {
  given = u.given ++ piece;
  held = more u.given u.held;
  all = append_assoc u.given piece (body_left f next) ∙ ap (λ (bs : List ℕ). u.given ++ bs) (sym p.is) ∙ u.all;
}

pub given_more : (f : File) (s next : Stage) (piece : List ℕ) (h h' : Sha256) → IsUnderWay f s h → ((m : List ℕ) → Holds256 h m → Holds256 h' (m ++ piece)) → IsPiece f s piece next → IsGiven f next h'
given_more f s Front piece h h' u more p = moved f s Front piece h h' u more p
given_more f s (Entries i) piece h h' u more p = moved f s (Entries i) piece h h' u more p
given_more f s Digest piece h h' u more p = moved f s Digest piece h h' u more p
given_more f s Over piece h h' u more p = tt

-- the digest is that of all that was given
pub digest_is : (f : File) (h : Sha256) (digest : List ℕ) → IsUnderWay f Digest h → ((m : List ℕ) → Holds256 h m → digest ≡ sha256 m) → digest ≡ file_digest f
digest_is f h digest u sum = sum u.given u.held ∙ ap sha256 (sym (append-nil u.given) ∙ u.all)

-- nothing was given
pub none_given : (f : File) (h : Sha256) → Holds256 h [] → IsUnderWay f Front h
none_given f h held = record { given = []; held = held; all = refl }
