-- What the faults of the parts are reported as.
use Rattle.ep_node.specs.declared.node_fault.NodeFault.{NodeFault}
use Rattle.ep_node.specs.declared.node_fault.NodeFault.TheVariants as node
use Rattle.ep_serve.specs.declared.serve_fault.ServeFault.{ServeFault}
use Rattle.ep_serve.specs.declared.serve_fault.ServeFault.TheVariants.{Memory, ReadFailed, BadRequest, LogFailed}
use Rattle.ep_wire.specs.declared.request_fault.RequestFault.{RequestFault}
use Rattle.ep_wire.specs.declared.request_fault.RequestFault.TheVariants as request

abbrev pub of_request : RequestFault → ServeFault
of_request request.Memory = Memory
of_request request.ReadFailed = ReadFailed
of_request (request.BadRequest at) = BadRequest at

-- a node whose device works refuses a sync only when out of memory
abbrev pub of_node : NodeFault → ServeFault
of_node (node.Refused fault) = Memory
of_node node.Memory = Memory
of_node (node.Failed cause) = LogFailed cause
of_node node.Closed = Memory
