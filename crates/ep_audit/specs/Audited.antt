-- What holds of journals and receipts that an audit accepts.
use Rattle.std.specs.Prelude.{◌≡◌, ◌≢◌, ◌⊎◌, ◌↔◌, ℕ, ◌<◌, ◌≤◌, true, false, List, ◌++◌, Some, option_map}
use Rattle.ep_base.specs.Instances.{leader_of}
use Rattle.ep_base.specs.Interference.{interfere}
use Rattle.ep_base.specs.Places.{place, Has}
use Rattle.ep_base.specs.Sameness.{is_noop}
use Rattle.ep_base.specs.declared.decree.Decree.{Decree}
use Rattle.ep_base.specs.declared.reply.Answer.{Answer}
use Rattle.ep_rules.specs.Audits.{IsAccepted, IsFault}
use Rattle.ep_rules.specs.Chains.{store_left}
use Rattle.ep_rules.specs.Journals.{Entry, Journals, Scheduled, IsSchedule, acts_of, left}
use Rattle.ep_rules.specs.Merging.{Merges}
use Rattle.ep_rules.specs.States.{fresh_state, committed_in}
use Rattle.ep_rules.specs.Verdicts.{committed_by, command_at, history_of, IsReply, Proposes}
use Rattle.ep_rules.specs.Worlds.{In, IsRun, opening}
use Rattle.ep_rules.specs.declared.receipt.Receipt.{Receipt}
use Rattle.ep_audit.specs.Faults.{fault_of}
use Rattle.ep_audit.specs.declared.closing.Closing.{Closing}
use Rattle.ep_audit.specs.Verdicts.{instances_in, left_by, places_of, summary_of, IsSummary}
use Rattle.ep_audit.specs.declared.summary.Summary.{Summary}
use Rattle.ep_audit.specs.declared.verdict.Verdict.{Verdict}
use Rattle.ep_audit.specs.declared.verdict_fault.VerdictFault.{VerdictFault}
use Rattle.ep_audit.specs.declared.verdict_fault.VerdictFault.TheVariants.{Memory, Fault}
use Rattle.ep_rules.specs.OneMap.{Contents, Store, opened, is_closed}

-- The journals of replicas that open with the map base, merged in the schedule's order, are a run of the protocol; h is their one history.
pub record IsOneHistory (base : Store) (f : ℕ) (journal : Journals) (receipts : List Receipt) (schedule : List Scheduled) (h : List ℕ) : Type 0 where
  pub scheduled : IsSchedule journal schedule
  pub history : h ≡ history_of (command_at base f journal) schedule
  -- merged, they are a run
  pub run : IsRun f (opening base) (acts_of schedule)
  -- no two replicas commit different commands or attributes in an instance
  pub agreement : (i r q : ℕ) (x y : Decree) → committed_by base f journal r i ≡ Some x → committed_by base f journal q i ≡ Some y → x ≡ y
  -- what a replica has committed after some of its entries it has committed after all of them
  pub permanence :
      (r i : ℕ) (x : Decree) (before rest : List Entry) → before ++ rest ≡ journal r → committed_in (left f r (fresh_state base) before).records i ≡ Some x →
      committed_by base f journal r i ≡ Some x
  -- a committed command other than a no-op was proposed, as this instance, by the replica that leads it
  pub validity :
      (r i : ℕ) (x : Decree) → committed_by base f journal r i ≡ Some x → is_noop x.command ≡ false →
      (client request : ℕ) × (p : Proposes base f (leader_of i) (journal (leader_of i)) i client request) × (p.command ≡ x.command)
  -- of two interfering committed commands one depends on the other
  pub dependency :
      (i j r q : ℕ) (x y : Decree) → i ≢ j → committed_by base f journal r i ≡ Some x → committed_by base f journal q j ≡ Some y →
      interfere x.command y.command ≡ true → Has x.attrs.deps j ⊎ Has y.attrs.deps i
  -- each answer of each execution is one map's reply, from base on, at the command's place in the history; a no-op answers lost, and has no place
  pub replies : (a : Scheduled) (i : ℕ) (x : Answer) → In a schedule → In (i, x) a.entry.done → IsReply base (command_at base f journal) h i x
  -- each replica executes two interfering commands in the history's order
  pub order :
      (r i j : ℕ) → Has (left f r (fresh_state base) (journal r)).executed i → Has (left f r (fresh_state base) (journal r)).executed j → i ≢ j →
      interfere (command_at base f journal i) (command_at base f journal j) ≡ true →
      (place (left f r (fresh_state base) (journal r)).executed i < place (left f r (fresh_state base) (journal r)).executed j) ↔ (place h i < place h j)
  -- what a client proposes after it saw a receipt's stamp stands after that receipt's command
  pub callers :
      (t u : Receipt) → In t receipts → In u receipts → u.stamp ≤ t.seen → Has h t.instance → Has h u.instance → place h u.instance < place h t.instance

-- The journals of replicas that open with the map m have one closing, which the summary has.
pub record IsOneClosing (m : Contents) (f : ℕ) (journal : Journals) (v : Summary) : Type 0 where
  -- whose journal has executed a seal leaves the map that the summary's history leaves, closed by the summary's seal
  pub left : (r : ℕ) → is_closed (store_left m f journal r) ≡ true → store_left m f journal r ≡ record { contents = left_by (opened m) v.history.items; seal = option_map (λ c. c.value) v.closing }
  -- and where the history has a seal, somebody has executed it
  pub somebody : (c : Closing) → v.closing ≡ Some c → (r : ℕ) × (store_left m f journal r ≡ record { contents = left_by (opened m) v.history.items; seal = Some c.value })

-- what journals and receipts say that are accepted: its history is that of the run
pub record IsSummarized (base : Store) (f : ℕ) (journal : Journals) (receipts : List Receipt) (s : Summary) : Type 0 where
  pub accepted : IsAccepted base f journal receipts
  pub summary : IsSummary base f journal s
  -- what the laws of runs that merge are said of
  pub merges : Merges base f journal summary.order
  pub history : IsOneHistory base f journal receipts summary.order (instances_in s.history.items)
  pub closing : (m : Contents) → base ≡ opened m → IsOneClosing m f journal s

-- the verdict of journals and receipts that are accepted: its schedule is that of the run, too
pub record IsAudited (base : Store) (f : ℕ) (journal : Journals) (receipts : List Receipt) (v : Verdict) : Type 0 where
  pub says : IsSummarized base f journal receipts (summary_of v)
  pub schedule : v.schedule.items ≡ places_of says.summary.order

-- why there is no verdict: out of memory, or the first fault
abbrev pub IsRefused : Store → ℕ → Journals → List Receipt → VerdictFault → Type 0
IsRefused base f journal receipts Memory = Unit {0}
IsRefused base f journal receipts (Fault fault) = IsFault base f journal receipts (fault_of fault)
