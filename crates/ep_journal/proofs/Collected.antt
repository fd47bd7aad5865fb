-- Each of the journals in replica order.
use Rattle.std.proofs.Common.{◌≡◌, ℕ, zero, suc, ◌+◌, ◌<◌, ◌≤◌, List, [], ◌∷◌, length, get_or, refl, subst, arith}
use Rattle.ep_base.specs.Quorums.{size}
use Rattle.ep_base.specs.declared.version.Version.{Version}
use Rattle.ep_journal.specs.Openings.{Opening}
use Rattle.ep_journal.proofs.InOrder.{first_is}
use Rattle.ep_journal.proofs.Collecting.{below_size}
use Rattle.ep_journal.specs.Entries.{Log, IsJournal, AreInOrder, all_entries, AreJournals}

mine : (v : Version) (o : Opening) (f r : ℕ) (ls : List Log) → AreInOrder v o f r ls → (k : ℕ) → r + k < size f → IsJournal v o f (r + k) (get_or (all_entries ls) k [])
mine v o f r [] h k lt = let e : r ≡ size f = h in absurd (omega arith)
mine v o f r (l ∷ ls) h zero lt = let e : r ≡ r + 0 = omega arith in subst (λ q. IsJournal v o f q l.entries) e h.0.journal
mine v o f r (l ∷ ls) h (suc k) lt =
    let e : suc r + k ≡ r + suc k = omega arith in
    subst (λ q. IsJournal v o f q (get_or (all_entries ls) k [])) e (mine v o f (suc r) ls h.1 k (omega arith))

nobody : (v : Version) (o : Opening) (f r : ℕ) (ls : List Log) → AreInOrder v o f r ls → (k : ℕ) → size f ≤ r + k → get_or (all_entries ls) k [] ≡ []
nobody v o f r [] h k le = refl
nobody v o f r (l ∷ ls) h zero le = let b : suc r ≤ size f = below_size v o f (suc r) ls h.1 in absurd (omega arith)
nobody v o f r (l ∷ ls) h (suc k) le = nobody v o f (suc r) ls h.1 k (omega arith)

counted : (v : Version) (o : Opening) (f r : ℕ) (ls : List Log) → AreInOrder v o f r ls → r + length (all_entries ls) ≡ size f
counted v o f r [] h = let e : r ≡ size f = h in omega arith
counted v o f r (l ∷ ls) h = let e : suc r + length (all_entries ls) ≡ size f = counted v o f (suc r) ls h.1 in omega arith

pub are_journals : (v : Version) (o : Opening) (f : ℕ) (ls : List Log) → AreInOrder v o f 0 ls → AreJournals (record { version = v; faults = f; opening = o; entries = all_entries ls })
are_journals v o f ls h = record {
  count = let e : 0 + length (all_entries ls) ≡ size f = counted v o f 0 ls h in omega arith;
  opens = (first_is v o f ls h).1;
  journal = λ r lt. let e : 0 + r ≡ r = omega arith in subst (λ q. IsJournal v o f q (get_or (all_entries ls) r [])) e (mine v o f 0 ls h r (omega arith));
  others = λ r le. nobody v o f 0 ls h r (omega arith);
}
