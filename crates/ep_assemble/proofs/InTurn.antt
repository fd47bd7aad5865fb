-- Logs, read one after the other.
use Rattle.std.proofs.Common.{◌≡◌, ◌<◌, ◌+◌, ℕ, zero, suc, List, [], ◌∷◌, ◌++◌, Some, take, length, get_or, slice_get, sym, ap, subst, ◌∙◌}
use Rattle.std.specs.Global.{Vec}
use Rattle.std.proofs.lemmas.Option.{slice_get-get_or}
use Rattle.std.proofs.lemmas.List.{take-map, take_more, map-append}
use Rattle.ep_journal.specs.Entries.{Log as Journal}
use Rattle.ep_log.specs.Origins.{second}
use Rattle.ep_assemble.specs.Logs.{AreRead, IsNotRead, IsReadTo, IsLogRefused, contents}
use Rattle.ep_assemble.specs.declared.assemble_fault.AssembleFault.{AssembleFault}
use Rattle.ep_assemble.specs.declared.assemble_fault.AssembleFault.TheVariants.{Memory, Log, Collect, Receipts, TooManyReceipts}
use Rattle.ep_assemble.specs.declared.assembled.End.{End}

pub one_more : (logs : List (List ℕ)) (js : List Journal) (ends : List End) (bytes : List ℕ) (j : Journal) (end : End) → AreRead logs js ends →
    IsReadTo second bytes j end → AreRead (logs ++ bytes ∷ []) (js ++ j ∷ []) (ends ++ end ∷ [])
one_more [] [] [] bytes j end all is = (is, tt)
one_more [] [] (e ∷ ends) bytes j end all is = absurd all
one_more [] (x ∷ js) [] bytes j end all is = absurd all
one_more [] (x ∷ js) (e ∷ ends) bytes j end all is = absurd all
one_more (b ∷ logs) [] [] bytes j end all is = absurd all
one_more (b ∷ logs) [] (e ∷ ends) bytes j end all is = absurd all
one_more (b ∷ logs) (x ∷ js) [] bytes j end all is = absurd all
one_more (b ∷ logs) (x ∷ js) (e ∷ ends) bytes j end all is = (all.0, one_more logs js ends bytes j end all.1 is)

-- the bytes at a place, behind those before it
pub record IsThere (place : ℕ) (vs : List (Vec ℕ)) (bytes : List ℕ) : Type 0 where
  pub stands : slice_get (contents vs) place ≡ Some bytes
  pub before : take place (contents vs) ≡ contents (take place vs)

pub there : (place : ℕ) (vs : List (Vec ℕ)) (v d : Vec ℕ) → place < length vs → v ≡ get_or vs place d → IsThere place vs v.items
there place vs v d less is = record { stands = stands place vs v (slice_get-get_or vs place d less ∙ ap Some (sym is)); before = take-map (λ (x : Vec ℕ). x.items) place vs }
  where
    stands : (k : ℕ) (xs : List (Vec ℕ)) (x : Vec ℕ) → slice_get xs k ≡ Some x → slice_get (contents xs) k ≡ Some x.items
    stands k [] x h = absurd (cc)
    stands zero (y ∷ xs) x h = let same : y ≡ x = (let s : Some y ≡ Some x = h in cc) in ap (λ (z : Vec ℕ). Some z.items) same
    stands (suc k) (y ∷ xs) x h = stands k xs x h

pub not_read : (e : AssembleFault) (place : ℕ) (vs : List (Vec ℕ)) (v d : Vec ℕ) (js : List Journal) (ends : List End) → place < length vs → v ≡ get_or vs place d →
    AreRead (contents (take place vs)) js ends → IsNotRead second place v.items e → IsLogRefused e (contents vs)
not_read Memory place vs v d js ends less is all h = tt
not_read (Log at fault) place vs v d js ends less is all h =
    let t = there place vs v d less is in
    record {
      journals = js;
      ends = ends;
      before = subst (λ n. AreRead (take n (contents vs)) js ends) (sym h.0) (subst (λ (bs : List (List ℕ)). AreRead bs js ends) (sym t.before) all);
      bytes = v.items;
      stands = ap (λ n. slice_get (contents vs) n) h.0 ∙ t.stands;
      of = h.1;
      refused = h.2;
    }
not_read (Collect fault) place vs v d js ends less is all h = absurd h
not_read (Receipts p at) place vs v d js ends less is all h = absurd h
not_read TooManyReceipts place vs v d js ends less is all h = absurd h

pub one_read : (i : ℕ) (vs : List (Vec ℕ)) (v d : Vec ℕ) (js : List Journal) (ends : List End) (j : Journal) (end : End) → i < length vs → v ≡ get_or vs i d →
    AreRead (contents (take i vs)) js ends → IsReadTo second v.items j end → AreRead (contents (take (i + 1) vs)) (js ++ j ∷ []) (ends ++ end ∷ [])
one_read i vs v d js ends j end less is all read =
    let more : contents (take (i + 1) vs) ≡ contents (take i vs) ++ v.items ∷ [] =
    ap contents (take_more vs i d less) ∙ map-append (λ (x : Vec ℕ). x.items) (take i vs) (get_or vs i d ∷ []) ∙ ap (λ (x : Vec ℕ). contents (take i vs) ++ x.items ∷ []) (sym is) in
    subst (λ (bs : List (List ℕ)). AreRead bs (js ++ j ∷ []) (ends ++ end ∷ [])) (sym more) (one_more (contents (take i vs)) js ends v.items j end all read)
