-- Chains: the journals and receipts of generations, one after the other, and what then holds of them.
use Rattle.std.specs.Prelude.{◌≡◌, ◌≢◌, ℕ, suc, ◌<◌, ◌≤◌, length, List, [], Option, Some, None, slice_get}
use Rattle.ep_base.specs.Versions.{generation_of}
use Rattle.ep_journal.specs.Entries.{journals_of}
use Rattle.ep_journal.specs.Openings.{opens}
use Rattle.ep_audit.specs.Faults.{fault_of}
use Rattle.ep_audit.specs.declared.audit_fault.AuditFault.{AuditFault}
use Rattle.ep_audit.specs.declared.chain_fault.ChainFault.{ChainFault}
use Rattle.ep_audit.specs.declared.chain_fault.ChainFault.TheVariants.{Audit, NotConsecutive, OpeningDiffers, StampsGoBack, NotClosed}
use Rattle.ep_audit.specs.declared.closing.Closing.{Closing}
use Rattle.ep_rules.specs.Audits.{IsAccepted, IsFault}
use Rattle.ep_rules.specs.Chains.{IsChain, histories, Explains, ClocksGoOn}
use Rattle.ep_rules.specs.Generations.{joined, place_in, HasIn}
use Rattle.ep_rules.specs.Journals.{Entry, Journals, Scheduled}
use Rattle.ep_rules.specs.OneMap.{Contents, empty}
use Rattle.ep_rules.specs.Worlds.{In}
use Rattle.ep_rules.specs.declared.receipt.Receipt.{Receipt}
use Rattle.ep_audit.specs.Closings.{operations_in}
use Rattle.ep_audit.specs.Verdicts.{left_after, places_of}
use Rattle.ep_audit.specs.declared.verdict.Verdict.{Verdict}
use Rattle.ep_audit.specs.Audited.{IsAudited}
use Rattle.ep_audit.specs.Differences.{IsLeastDifference}
use Rattle.ep_audit.specs.declared.chain_verdict_fault.ChainVerdictFault.{ChainVerdictFault}
use Rattle.ep_audit.specs.declared.chain_verdict_fault.ChainVerdictFault.TheVariants.{Memory, Fault}
use Rattle.ep_audit.specs.declared.chain_link.ChainLink.{ChainLink}

-- A generation of a chain.

-- its number; 0 in versions 1 and 2, which have none
abbrev pub number_of : ChainLink → ℕ
number_of l = generation_of l.journals.version

-- its audit accepts
abbrev pub IsGood : ChainLink → Type 0
IsGood l = IsAccepted (opens l.journals.opening) l.journals.faults (journals_of l.journals) l.receipts.items

-- and answers this verdict
abbrev pub IsJudged : ChainLink → Verdict → Type 0
IsJudged l v = IsAudited (opens l.journals.opening) l.journals.faults (journals_of l.journals) l.receipts.items v

-- and this is the map that its history leaves
abbrev pub map_after : ChainLink → Verdict → Contents
map_after l v = left_after (opens l.journals.opening) v

-- the next generation goes on from p, whose verdict is v
pub record GoesOn (p : ChainLink) (v : Verdict) (next : ChainLink) : Type 0 where
  pub closing : Closing
  pub closed : v.closing ≡ Some closing
  pub consecutive : number_of next ≡ suc (number_of p)
  pub opening : next.journals.opening.contents ≡ map_after p v
  pub clocks : closing.stamp ≤ next.journals.opening.base_stamp
  -- so each of its stamps is above that of the seal
  pub later : (r : ℕ) (e : Entry) → In e (journals_of next.journals r) → closing.stamp < e.stamp

-- the first reason why it doesn't go on from p, which c closed
abbrev pub IsParted : ChainLink → Verdict → Closing → ChainLink → ChainFault → Type 0
IsParted p v c next (Audit fault) = ⊥
IsParted p v c next NotConsecutive = number_of next ≢ suc (number_of p)
IsParted p v c next (OpeningDiffers key) = (number_of next ≡ suc (number_of p)) × IsLeastDifference next.journals.opening.contents (map_after p v) key
IsParted p v c next StampsGoBack =
    (number_of next ≡ suc (number_of p)) × (next.journals.opening.contents ≡ map_after p v) × (next.journals.opening.base_stamp < c.stamp)
IsParted p v c next NotClosed = ⊥

-- Generations, one after the other.

-- these are the verdicts of the first ones, each of which goes on from the one before
pub record AreLinked (links : List ChainLink) (verdicts : List Verdict) : Type 0 where
  pub judged : (k : ℕ) (l : ChainLink) (v : Verdict) → slice_get links k ≡ Some l → slice_get verdicts k ≡ Some v → IsJudged l v
  pub goes_on :
      (k : ℕ) (l next : ChainLink) (v w : Verdict) → slice_get links k ≡ Some l → slice_get links (suc k) ≡ Some next → slice_get verdicts k ≡ Some v → slice_get verdicts (suc k) ≡ Some w →
      GoesOn l v next

-- those before the one at place k have no fault, and the last of them is closed
pub record IsReached (links : List ChainLink) (k : ℕ) (l : ChainLink) : Type 0 where
  pub there : slice_get links k ≡ Some l
  pub verdicts : List Verdict
  pub count : length verdicts ≡ k
  pub linked : AreLinked links verdicts
  pub closed : (j : ℕ) (v : Verdict) → k ≡ suc j → slice_get verdicts j ≡ Some v → (c : Closing) × (v.closing ≡ Some c)

-- p is just before the one at place k, with its verdict and its seal
pub record IsBefore (links : List ChainLink) (verdicts : List Verdict) (k : ℕ) (p : ChainLink) (v : Verdict) (c : Closing) : Type 0 where
  pub place : ℕ
  pub is : k ≡ suc place
  pub link : slice_get links place ≡ Some p
  pub verdict : slice_get verdicts place ≡ Some v
  pub closing : v.closing ≡ Some c

-- The first fault of the first one that has one, which stands at place k: what its own audit finds, then why it doesn't go on from the one before, then
-- that it has no seal though another one follows.
pub data IsChainFault (links : List ChainLink) (k : ℕ) : ChainFault → Type 0 where
  refused :
      (l : ChainLink) (fault : AuditFault) → IsReached links k l → IsFault (opens l.journals.opening) l.journals.faults (journals_of l.journals) l.receipts.items (fault_of fault) →
      IsChainFault links k (Audit fault)
  parted :
      (l p : ChainLink) (v : Verdict) (c : Closing) (fault : ChainFault) → (reached : IsReached links k l) → IsBefore links reached.verdicts k p v c → IsGood l → IsParted p v c l fault →
      IsChainFault links k fault
  unclosed :
      (verdicts : List Verdict) (v : Verdict) → length verdicts ≡ suc k → AreLinked links verdicts → slice_get verdicts k ≡ Some v → v.closing ≡ None → suc k < length links →
      IsChainFault links k NotClosed

-- why there are no verdicts: out of memory, or the first fault
abbrev pub IsChainRefused : List ChainLink → ChainVerdictFault → Type 0
IsChainRefused links Memory = Unit {0}
IsChainRefused links (Fault place fault) = IsChainFault links place fault

-- What holds of them, in the rule book's words: of each place its faults, its opening map, its journals, its receipts.

abbrev pub faults_in : Option ChainLink → ℕ
faults_in None = 0
faults_in (Some l) = l.journals.faults

abbrev pub map_in : Option ChainLink → Contents
map_in None = empty
map_in (Some l) = l.journals.opening.contents

abbrev pub journals_in : Option ChainLink → Journals
journals_in None = λ r. []
journals_in (Some l) = journals_of l.journals

abbrev pub receipts_in : Option ChainLink → List Receipt
receipts_in None = []
receipts_in (Some l) = l.receipts.items

abbrev pub faults_at : List ChainLink → ℕ → ℕ
faults_at links g = faults_in (slice_get links g)

abbrev pub maps_at : List ChainLink → ℕ → Contents
maps_at links g = map_in (slice_get links g)

abbrev pub journals_at : List ChainLink → ℕ → Journals
journals_at links g = journals_in (slice_get links g)

abbrev pub receipts_at : List ChainLink → ℕ → List Receipt
receipts_at links g = receipts_in (slice_get links g)

-- Generations without a fault, with their verdicts.
pub record IsChained (links : List ChainLink) (verdicts : List Verdict) : Type 0 where
  pub count : length verdicts ≡ length links
  pub linked : AreLinked links verdicts
  -- each one's schedule and operations are those of its verdict
  pub schedule : ℕ → List Scheduled
  pub scheduled : (g : ℕ) (v : Verdict) → slice_get verdicts g ≡ Some v → v.schedule.items ≡ places_of (schedule g)
  pub operations : (g : ℕ) (v : Verdict) → slice_get verdicts g ≡ Some v → operations_in v.history.items ≡ histories (faults_at links) (maps_at links) schedule g
  -- each opens with a map that one of the generation before leaves, closed by a seal, and its stamps are above one at which that seal was executed
  pub chain : IsChain (length links) (faults_at links) (maps_at links) (journals_at links) schedule
  pub clocks : ClocksGoOn (length links) (faults_at links) (maps_at links) (journals_at links)
  -- so the operations of each up to its first seal, one generation after the other, are one history: each answer of each execution, in whatever
  -- generation, is one map's reply to it, from the first opening on; what has no place there was lost, or found the map closed
  pub explains : Explains (length links) (faults_at links) (maps_at links) schedule
  -- and what a client proposes after it saw a receipt's stamp stands after that receipt's command, whatever the generations
  pub callers :
      (g k : ℕ) (u t : Receipt) → In u (receipts_at links g) → In t (receipts_at links k) → u.stamp ≤ t.seen →
      let h = joined (histories (faults_at links) (maps_at links) schedule) (length links) in
      HasIn h g u.instance → HasIn h k t.instance → place_in h g u.instance < place_in h k t.instance
