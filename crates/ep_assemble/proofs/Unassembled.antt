-- Files of receipts that no bundle is made of, behind logs that are one cluster's.
use Rattle.std.proofs.Common.{ℕ, List}
use Rattle.ep_base.specs.Quorums.{size}
use Rattle.ep_assemble.specs.Clusters.{Collects}
use Rattle.ep_journal.specs.Entries.{Collected, Log as Journal}
use Rattle.ep_assemble.specs.Logs.{AreRead, IsRefused}
use Rattle.ep_assemble.specs.Receipts.{AreUnheld}
use Rattle.ep_assemble.specs.declared.assembled.End.{End}
use Rattle.ep_assemble.specs.declared.assemble_fault.AssembleFault.{AssembleFault}
use Rattle.ep_assemble.specs.declared.assemble_fault.AssembleFault.TheVariants.{Memory, Log, Collect, Receipts, TooManyReceipts}

pub unassembled : (fault : AssembleFault) (logs files : List (List ℕ)) (js : List Journal) (ends : List End) (c : Collected) → AreRead logs js ends → Collects js c → AreUnheld c.version (size c.faults) files fault → IsRefused fault logs files
unassembled Memory logs files js ends c read one why = tt
unassembled (Log place fault) logs files js ends c read one why = absurd why
unassembled (Collect fault) logs files js ends c read one why = absurd why
unassembled (Receipts place at) logs files js ends c read one why = record { journals = js; ends = ends; read = read; collected = c; collects = one; holds = why }
unassembled TooManyReceipts logs files js ends c read one why = record { journals = js; ends = ends; read = read; collected = c; collects = one; holds = why }
