-- What the faults of the parts are reported as.
use Rattle.ep_node.specs.declared.close_fault.CloseFault.{CloseFault}
use Rattle.ep_node.specs.declared.close_fault.CloseFault.TheVariants as close
use Rattle.ep_node.specs.declared.open_fault.OpenFault.{OpenFault}
use Rattle.ep_node.specs.declared.open_fault.OpenFault.TheVariants as node
use Rattle.ep_opening.specs.declared.opening_fault.OpeningFault.{OpeningFault}
use Rattle.ep_opening.specs.declared.opening_fault.OpeningFault.TheVariants as file
use Rattle.ep_embedded.specs.declared.ask_fault.AskFault.{AskFault}
use Rattle.ep_embedded.specs.declared.ask_fault.AskFault.TheVariants as ask
use Rattle.ep_embedded.specs.declared.succeed_fault.SucceedFault.{SucceedFault}
use Rattle.ep_embedded.specs.declared.succeed_fault.SucceedFault.TheVariants as succeed
use Rattle.ep_embedded.specs.declared.start_fault.StartFault.{StartFault}
use Rattle.ep_embedded.specs.declared.start_fault.StartFault.TheVariants.{Memory, Opening, Log}
use Rattle.ep_wire.specs.declared.request_fault.RequestFault.{RequestFault}
use Rattle.ep_wire.specs.declared.request_fault.RequestFault.TheVariants as request

abbrev pub of_opening : OpeningFault → StartFault
of_opening file.Memory = Memory
of_opening (file.CutShort at) = Opening (file.CutShort at)
of_opening (file.Damaged at) = Opening (file.Damaged at)
of_opening (file.Wrong at field) = Opening (file.Wrong at field)

-- a device in memory fails only when out of memory
abbrev pub of_open : OpenFault → StartFault
of_open node.OutOfRange = Log node.OutOfRange
of_open node.Memory = Memory
of_open (node.Failed cause) = Memory
of_open node.NoLog = Log node.NoLog
of_open node.LogExists = Log node.LogExists
of_open node.OtherLog = Log node.OtherLog
of_open (node.Log fault) = Log (node.Log fault)
of_open (node.NotClocked number) = Log (node.NotClocked number)

-- bytes in memory are read without fail
abbrev pub of_request : RequestFault → AskFault
of_request request.Memory = ask.Memory
of_request request.ReadFailed = ask.Memory
of_request (request.BadRequest at) = ask.NotOne

-- no device of a host fails
abbrev pub of_close : CloseFault → SucceedFault
of_close close.Memory = succeed.Memory
of_close close.NotSealed = succeed.NotSealed
of_close close.LastGeneration = succeed.LastGeneration
of_close close.Unsynced = succeed.Unsynced
of_close close.Closed = succeed.Unsynced

-- a device in memory fails only when out of memory
abbrev pub of_reopen : OpenFault → SucceedFault
of_reopen node.OutOfRange = succeed.OutOfRange
of_reopen node.Memory = succeed.Memory
of_reopen (node.Failed cause) = succeed.Memory
of_reopen node.NoLog = succeed.Log node.NoLog
of_reopen node.LogExists = succeed.Log node.LogExists
of_reopen node.OtherLog = succeed.Log node.OtherLog
of_reopen (node.Log fault) = succeed.Log (node.Log fault)
of_reopen (node.NotClocked number) = succeed.Log (node.NotClocked number)
