-- What the faults of chains are printed as.
use Rattle.std.specs.Prelude.{ℕ, List, ◌++◌, codes}
use Rattle.ep_audit.specs.Faults.{fault_of, fault_text}
use Rattle.ep_audit.specs.declared.chain_fault.ChainFault.{ChainFault}
use Rattle.ep_audit.specs.declared.chain_fault.ChainFault.TheVariants as chain
use Rattle.ep_script.specs.Word.{word_of}

-- why the audit refuses a generation of a chain
abbrev pub chain_fault_text : ChainFault → List ℕ
chain_fault_text (chain.Audit fault) = fault_text (fault_of fault)
chain_fault_text chain.NotConsecutive = codes "A6 not consecutive"
chain_fault_text (chain.OpeningDiffers key) = codes "A7 opening differs at key " ++ word_of key
chain_fault_text chain.StampsGoBack = codes "A8 stamps go back"
chain_fault_text chain.NotClosed = codes "A9 not closed"
