-- What the checks report.
use Rattle.std.proofs.Common.{◌≡◌, ◌<◌, ℕ, List, Some, take, length, All, get_or, slice_get, sym, subst, ◌∙◌, ap, arith}
use Rattle.std.proofs.lemmas.Option.{slice_get-get_or}
use Rattle.ep_base.specs.Quorums.{size}
use Rattle.ep_base.specs.declared.version.Version.{Version}
use Rattle.ep_journal.specs.Entries.{Log}
use Rattle.ep_journal.specs.Openings.{Opening}
use Rattle.ep_assemble.specs.Clusters.{IsMember, IsOther, IsOfAnother, IsNotOne, IsMiscounted, IsAt, IsRefused, count_of}
use Rattle.ep_assemble.specs.declared.collect_fault.CollectFault.{CollectFault}
use Rattle.ep_assemble.specs.declared.collect_fault.CollectFault.TheVariants.{NoJournal, OtherCluster, Twice, Missing}

pub miscounted : (e : CollectFault) (f i : ℕ) (ls : List Log) → i < size f → ((k : ℕ) → k < i → count_of k ls ≡ 1) → IsNotOne e i ls → IsMiscounted e f ls
miscounted NoJournal f i ls below before h = h
miscounted (OtherCluster place) f i ls below before h = h
miscounted (Twice r) f i ls below before h = (record { below = subst (λ n. n < size f) (sym h.0) below; before = λ k less. before k (let q = h.0 in omega arith) }, h.1)
miscounted (Missing r) f i ls below before h = (record { below = subst (λ n. n < size f) (sym h.0) below; before = λ k less. before k (let q = h.0 in omega arith) }, h.1)

at_place : (ls : List Log) (k : ℕ) (l d : Log) → k < length ls → l ≡ get_or ls k d → slice_get ls k ≡ Some l
at_place ls k l d less is = slice_get-get_or ls k d less ∙ ap Some (sym is)

pub other : (v : Version) (o : Opening) (f place : ℕ) (ls : List Log) (l d : Log) → place < length ls → l ≡ get_or ls place d → (IsMember v o f l → ⊥) → All (IsMember v o f) (take place ls) → IsOther place v o f ls
other v o f place ls l d less is differs before = record { other = l; stands = at_place ls place l d less is; differs = differs; before = before }

-- the first journal says which cluster it is
pub of_another : (place : ℕ) (ls : List Log) (l : Log) (v : Version) (o : Opening) (f : ℕ) → slice_get ls 0 ≡ Some l → v ≡ l.version → o ≡ l.opening → f ≡ l.faults → IsOther place v o f ls → IsOfAnother place ls
of_another place ls l v o f stands version opening faults h = record {
  first = l;
  stands = stands;
  other = subst (λ w. IsOther place w l.opening l.faults ls) version (subst (λ p. IsOther place v p l.faults ls) opening (subst (λ g. IsOther place v o g ls) faults h));
}

pub is_at : (r place : ℕ) (ls : List Log) (l d : Log) → place < length ls → l ≡ get_or ls place d → l.me ≡ r → IsAt r place ls
is_at r place ls l d less is of = record { journal = l; stands = at_place ls place l d less is; of = of }

pub incomplete : (e : CollectFault) (v : Version) (o : Opening) (f : ℕ) (ls : List Log) → All (IsMember v o f) ls → IsMiscounted e f ls → IsRefused e ls
incomplete NoJournal v o f ls all h = absurd h
incomplete (OtherCluster place) v o f ls all h = absurd h
incomplete (Twice r) v o f ls all h = record { version = v; opening = o; faults = f; members = all; miscounted = h }
incomplete (Missing r) v o f ls all h = record { version = v; opening = o; faults = f; members = all; miscounted = h }
