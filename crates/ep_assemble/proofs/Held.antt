-- Receipts, read one after the other.
use Rattle.std.proofs.Common.{◌≡◌, ℕ, ◌+◌, ◌≤◌, ◌<◌, true, false, ltb, List, [], ◌∷◌, ◌++◌, length, length-append, append-nil, append_assoc, Option, Some, Ok, Err, get_or, slice_get, take, refl, sym, ap, subst, ◌∙◌, arith}
use Rattle.std.specs.Global.{Vec}
use Rattle.std.proofs.lemmas.Bool.{ltb-true, ltb-false}
use Rattle.std.proofs.lemmas.List.{take_more, map-append}
use Rattle.ep_base.specs.declared.version.Version.{Version}
use Rattle.ep_bundle.proofs.ReadEntries.{receipt_gives}
use Rattle.ep_bundle.proofs.ReadNumbers.{Took, rest_bytes}
use Rattle.ep_bundle.specs.Bytes.{claim_bytes, outcome_bytes, receipt_bytes}
use Rattle.ep_bundle.specs.Reading.{Left, Reads}
use Rattle.ep_bundle.specs.Stages.{receipt}
use Rattle.ep_bundle.specs.declared.bundle_fault.BundleFault.{BundleFault}
use Rattle.ep_bundle.specs.declared.bundle_fault.BundleFault.TheVariants as bundle
use Rattle.ep_frame.specs.Fields.{dep_bytes, number_bytes}
use Rattle.ep_frame.specs.Spelling.{AreBytes}
use Rattle.ep_frame.proofs.Again.{length-number_bytes}
use Rattle.ep_rules.specs.declared.receipt.Receipt.{Receipt}
use Rattle.ep_assemble.specs.Logs.{contents}
use Rattle.ep_assemble.specs.Receipts.{AreHeld, AreReceipts, AreUnheld, Hold, IsNotHeld, IsUnheld, all_of, is_cut, receipt_length}
use Rattle.ep_assemble.specs.declared.assemble_fault.AssembleFault.{AssembleFault}
use Rattle.ep_assemble.specs.declared.assemble_fault.AssembleFault.TheVariants.{Memory, Log, Collect, Receipts, TooManyReceipts}
use Rattle.ep_assemble.proofs.InTurn.{there}
use Rattle.ep_assemble.specs.declared.assembled.End.{End}

one_more : (w : Version) (n : ℕ) (l m l' : Left) (rs : List Receipt) (r : Receipt) → AreReceipts w n l rs m → receipt w n m ≡ Ok (r, l') → AreReceipts w n l (rs ++ r ∷ []) l'
one_more w n l m l' [] r h e = (l', subst (λ (x : Left). receipt w n x ≡ Ok (r, l')) h e, refl)
one_more w n l m l' (x ∷ rs) r h e = (h.0, h.1, one_more w n h.0 m l' rs r h.2 e)

some_bytes : (w : Version) (r : Receipt) → 0 < length (receipt_bytes w r)
some_bytes w r =
    let client = number_bytes 4 r.client in
    let request = number_bytes 4 r.request in
    omega (
      arith,
      length-append (claim_bytes r) (outcome_bytes w r),
      length-append (client ++ request ++ dep_bytes r.instance) (number_bytes 8 r.seen),
      length-append (client ++ request) (dep_bytes r.instance),
      length-append client request,
      length-number_bytes 4 r.client,
    )

-- so far these bytes gave more receipts, and the tail is left
pub record Holding (w : Version) (n : ℕ) (bytes : List ℕ) (before now : List Receipt) (place : ℕ) (tail : List ℕ) : Type 0 where
  pub are : AreBytes tail
  pub fits : length tail ≤ length bytes
  pub more : List Receipt
  pub read : AreReceipts w n (all_of bytes) more (record { at = place; bytes = tail })
  pub is : now ≡ before ++ more

pub begins : (w : Version) (n : ℕ) (bytes : List ℕ) (before : List Receipt) → AreBytes bytes → Holding w n bytes before before 0 bytes
begins w n bytes before are = record { are = are; fits = omega arith; more = []; read = refl; is = sym (append-nil before) }

pub record Next (w : Version) (n : ℕ) (bytes : List ℕ) (before now : List Receipt) (place : ℕ) (tail : List ℕ) (l : List ℕ) : Type 0 where
  pub holding : Holding w n bytes before now place tail
  pub shorter : length tail < length l

pub goes_on :
    (w : Version) (n : ℕ) (bytes : List ℕ) (before now now' : List Receipt) (place place' : ℕ) (tail tail' : List ℕ) (r : Receipt) (left : Option (List ℕ)) → Holding w n bytes before now place tail →
    Reads (receipt w n (record { at = place; bytes = tail })) (Ok r) place' left → left ≡ Some tail' → now' ≡ now ++ r ∷ [] → Next w n bytes before now' place' tail' tail
goes_on w n bytes before now now' place place' tail tail' r left h reads is more =
    let l : Left = record { at = place; bytes = tail } in
    let l' : Left = record { at = place'; bytes = tail' } in
    let same : reads.0 ≡ tail' = (let e : Some reads.0 ≡ Some tail' = sym reads.1 ∙ is in cc) in
    let read : receipt w n l ≡ Ok (r, l') = subst (λ (b : List ℕ). receipt w n l ≡ Ok (r, record { at = place'; bytes = b })) same reads.2 in
    let took : Took (receipt_bytes w r) l l' = ((receipt_gives w n l h.are).took r l' read).1 in
    let long : length tail ≡ length (receipt_bytes w r ++ tail') = ap (λ (b : List ℕ). length b) took.bytes in
    let sum : length (receipt_bytes w r ++ tail') ≡ length (receipt_bytes w r) + length tail' = length-append (receipt_bytes w r) tail' in
    let some : 0 < length (receipt_bytes w r) = some_bytes w r in
    let fits = h.fits in
    record {
      holding = record {
        are = rest_bytes (receipt_bytes w r) l l' h.are took;
        fits = omega arith;
        more = h.more ++ r ∷ [];
        read = one_more w n (all_of bytes) l l' h.more r h.read read;
        is = more ∙ ap (λ (rs : List Receipt). rs ++ r ∷ []) h.is ∙ append_assoc before h.more (r ∷ []);
      };
      shorter = omega arith;
    }

pub stops :
    (w : Version) (n : ℕ) (bytes : List ℕ) (before now : List Receipt) (place : ℕ) (tail : List ℕ) (end : End) → Holding w n bytes before now place tail → is_cut w tail ≡ true →
    end.whole + length tail ≡ length bytes → end.is_torn ≡ ltb 0 (length tail) → (more : List Receipt) × Hold w n bytes more end × (now ≡ before ++ more)
stops w n bytes before now place tail end h cut whole torn =
    (h.more, record { tail = record { at = place; bytes = tail }; read = h.read; cut = ltb-true (length tail) (receipt_length w tail) cut; whole = whole; torn = torn }, h.is)

pub is_refused :
    (w : Version) (n : ℕ) (bytes : List ℕ) (before now : List Receipt) (place place' : ℕ) (tail : List ℕ) (fault : BundleFault) (left : Option (List ℕ)) → Holding w n bytes before now place tail →
    is_cut w tail ≡ false → Reads {A = Receipt} (receipt w n (record { at = place; bytes = tail })) (Err fault) place' left → IsUnheld w n bytes fault
is_refused w n bytes before now place place' tail bundle.Memory left h not_cut reads = tt
is_refused w n bytes before now place place' tail bundle.ReadFailed left h not_cut reads = tt
is_refused w n bytes before now place place' tail (bundle.BadBundle field) left h not_cut reads =
    record { receipts = h.more; tail = record { at = place; bytes = tail }; read = h.read; whole = ltb-false (length tail) (receipt_length w tail) not_cut; field = field; refused = reads; offset = refl }
is_refused w n bytes before now place place' tail (bundle.NotARun replica entry) left h not_cut reads = tt

pub one_more_file :
    (w : Version) (n : ℕ) (files : List (List ℕ)) (rs more : List Receipt) (ends : List End) (bytes : List ℕ) (end : End) → AreHeld w n files rs ends → Hold w n bytes more end →
    AreHeld w n (files ++ bytes ∷ []) (rs ++ more) (ends ++ end ∷ [])
one_more_file w n [] rs more [] bytes end all h = (more, [], h, refl, ap (λ (xs : List Receipt). xs ++ more) all ∙ sym (append-nil more))
one_more_file w n [] rs more (e ∷ ends) bytes end all h = absurd all
one_more_file w n (b ∷ files) rs more [] bytes end all h = absurd all
one_more_file w n (b ∷ files) rs more (e ∷ ends) bytes end all h =
    (all.0, all.1 ++ more, all.2, one_more_file w n files all.1 more ends bytes end all.3 h, ap (λ (xs : List Receipt). xs ++ more) all.4 ∙ append_assoc all.0 all.1 more)

-- a file at its place holds no receipts, and those before it do
pub file_unheld :
    (w : Version) (n : ℕ) (e : AssembleFault) (place : ℕ) (vs : List (Vec ℕ)) (v d : Vec ℕ) (rs : List Receipt) (ends : List End) → place < length vs → v ≡ get_or vs place d →
    AreHeld w n (contents (take place vs)) rs ends → IsNotHeld w n place v.items e → AreUnheld w n (contents vs) e
file_unheld w n Memory place vs v d rs ends less is all h = tt
file_unheld w n (Log p fault) place vs v d rs ends less is all h = absurd h
file_unheld w n (Collect fault) place vs v d rs ends less is all h = absurd h
file_unheld w n (Receipts p at) place vs v d rs ends less is all h =
    let t = there place vs v d less is in
    record {
      receipts = rs;
      ends = ends;
      before = subst (λ k. AreHeld w n (take k (contents vs)) rs ends) (sym h.0) (subst (λ (bs : List (List ℕ)). AreHeld w n bs rs ends) (sym t.before) all);
      bytes = v.items;
      stands = ap (λ k. slice_get (contents vs) k) h.0 ∙ t.stands;
      spoiled = h.1;
    }
file_unheld w n TooManyReceipts place vs v d rs ends less is all h = absurd h

pub file_held :
    (w : Version) (n i : ℕ) (vs : List (Vec ℕ)) (v d : Vec ℕ) (rs rs' : List Receipt) (ends ends' : List End) (end : End) → i < length vs → v ≡ get_or vs i d → AreHeld w n (contents (take i vs)) rs ends →
    (more : List Receipt) × Hold w n v.items more end × (rs' ≡ rs ++ more) → ends' ≡ ends ++ end ∷ [] → AreHeld w n (contents (take (i + 1) vs)) rs' ends'
file_held w n i vs v d rs rs' ends ends' end less is all h also =
    let next : contents (take (i + 1) vs) ≡ contents (take i vs) ++ v.items ∷ [] =
    ap contents (take_more vs i d less) ∙ map-append (λ (x : Vec ℕ). x.items) (take i vs) (get_or vs i d ∷ []) ∙ ap (λ (x : Vec ℕ). contents (take i vs) ++ x.items ∷ []) (sym is) in
    subst (λ (es : List End). AreHeld w n (contents (take (i + 1) vs)) rs' es) (sym also)
    (subst (λ (x : List Receipt). AreHeld w n (contents (take (i + 1) vs)) x (ends ++ end ∷ [])) (sym h.2)
    (subst (λ (bs : List (List ℕ)). AreHeld w n bs (rs ++ h.0) (ends ++ end ∷ [])) (sym next) (one_more_file w n (contents (take i vs)) rs h.0 ends v.items end all h.1)))
