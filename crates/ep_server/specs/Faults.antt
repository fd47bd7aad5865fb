-- How the program ends at a fault, and the line that it then reports.
use Rattle.std.specs.Prelude.{ℕ, ◌+◌, List, [], ◌++◌, codes, decimal}
use Rattle.ep_cli.specs.Causes.{cause_text}
use Rattle.ep_cli.specs.Lines.{numbered, out_of_memory, reading_failed, writing_failed}
use Rattle.ep_cli.specs.declared.status.Status.{Status}
use Rattle.ep_cli.specs.declared.status.Status.TheVariants.{Refused, OutOfMemory, Failed}
use Rattle.ep_device.specs.declared.system_fault.SystemFault.{SystemFault}
use Rattle.ep_device.specs.declared.device_fault.DeviceFault.{DeviceFault}
use Rattle.ep_device.specs.declared.device_fault.DeviceFault.TheVariants as device
use Rattle.ep_folder.specs.declared.start_fault.StartFault.{StartFault}
use Rattle.ep_folder.specs.declared.start_fault.StartFault.TheVariants.{Empty, There, Left, Older, Other, Broken}
use Rattle.ep_log.specs.declared.log_fault.LogFault.{LogFault}
use Rattle.ep_log.specs.declared.log_fault.LogFault.TheVariants as log
use Rattle.ep_node.specs.declared.cut.Cut.{Cut}
use Rattle.ep_node.specs.declared.open_fault.OpenFault.{OpenFault}
use Rattle.ep_node.specs.declared.open_fault.OpenFault.TheVariants as open_
use Rattle.ep_opening.specs.declared.opening_fault.OpeningFault.{OpeningFault}
use Rattle.ep_opening.specs.declared.opening_fault.OpeningFault.TheVariants as opening
use Rattle.ep_serve.specs.declared.serve_fault.ServeFault.{ServeFault}
use Rattle.ep_serve.specs.declared.serve_fault.ServeFault.TheVariants as serve
use Rattle.ep_server.specs.declared.server_fault.ServerFault.{ServerFault}
use Rattle.ep_server.specs.declared.server_fault.ServerFault.TheVariants.{Open, Serve, Folder}
use Rattle.ep_server.specs.declared.folder_fault.FolderFault.{FolderFault}
use Rattle.ep_server.specs.declared.folder_fault.FolderFault.TheVariants as folder

abbrev pub log_failed : SystemFault → List ℕ
log_failed cause = codes "log failed: " ++ cause_text cause ++ codes "\n"

-- what was cut off a log
abbrev pub line_of_cut : Cut → List ℕ
line_of_cut cut = numbered (codes "log cut at byte ") cut.at (codes ": ") ++ (decimal cut.behind ++ codes " bytes behind it were no whole record\n")

abbrev pub line_of_log : LogFault → List ℕ
line_of_log log.Memory = out_of_memory
line_of_log log.NoHeader = codes "log refused: no header of a log\n"
line_of_log log.OtherVersion = codes "log refused: a log of another version\n"
line_of_log log.OtherGeneration = codes "log refused: a log of another generation\n"
line_of_log (log.BadLength at) = numbered (codes "log refused: bad length in the record at byte ") at (codes "\n")
line_of_log (log.BadChecksum at) = numbered (codes "log refused: bad checksum in the record at byte ") at (codes "\n")
line_of_log (log.BadEntry at) = numbered (codes "log refused: no entry in the record at byte ") at (codes "\n")
line_of_log (log.NotNext at) = numbered (codes "log refused: not the next entry in the record at byte ") at (codes "\n")
line_of_log (log.Turned at by) = numbered (codes "log refused: the record at byte ") at (codes " is damaged, and was on the disk by the record at byte ") ++ (decimal by ++ codes "\n")

abbrev pub line_of_open : OpenFault → List ℕ
line_of_open open_.OutOfRange = codes "log refused: E3 out of range\n"
line_of_open open_.Memory = out_of_memory
line_of_open (open_.Failed cause) = log_failed cause
line_of_open open_.NoLog = codes "log refused: there is none\n"
line_of_open open_.LogExists = codes "log refused: there is one already\n"
line_of_open open_.OtherLog = codes "log refused: a log of another cluster or replica\n"
line_of_open (open_.Log fault) = line_of_log fault
line_of_open (open_.NotClocked number) = numbered (codes "log refused: entry ") number (codes " is not clocked\n")

abbrev pub line_of_serve : ServeFault → List ℕ
line_of_serve serve.Memory = out_of_memory
line_of_serve serve.ReadFailed = reading_failed
line_of_serve (serve.BadRequest at) = numbered (codes "request refused at byte ") at (codes "\n")
line_of_serve serve.WriteFailed = writing_failed
line_of_serve (serve.LogFailed cause) = log_failed cause

-- what a device's fault is here
abbrev pub of_device : DeviceFault → FolderFault
of_device device.Memory = folder.Memory
of_device (device.Failed cause) = folder.Failed cause

-- why bytes are no opening
abbrev pub line_of_opening : OpeningFault → List ℕ
line_of_opening opening.Memory = out_of_memory
line_of_opening (opening.CutShort at) = numbered (codes "cut short at byte ") at (codes "\n")
line_of_opening (opening.Damaged at) = numbered (codes "damaged: no digest of the bytes before it at byte ") at (codes "\n")
line_of_opening (opening.Wrong at field) = numbered (codes "wrong field at byte ") at (codes "\n")

abbrev pub line_of_refusal : StartFault → List ℕ
line_of_refusal Empty = codes "folder refused: no generation is here; --new begins the first one of a new replica, --take FILE goes on with a peer's opening\n"
line_of_refusal (There g) = numbered (codes "folder refused: generation ") g (codes " is here already; --new is for a new replica\n")
line_of_refusal (Left g) = numbered (codes "folder refused: the replica has been in generation ") g (codes ", which is gone; --take FILE goes on with the opening of a later one\n")
line_of_refusal (Older g) = numbered (codes "opening refused: it is of an earlier generation than ") g (codes ", which is here; start without --take\n")
line_of_refusal (Other g) = numbered (codes "opening refused: generation ") g (codes " has another one here; start without --take\n")
line_of_refusal (Broken g) = numbered (codes "folder refused: what generation ") g (codes " opens with is gone, and a later one rests on it; --take FILE goes on with the opening of a later one\n")

abbrev pub line_of_folder : FolderFault → List ℕ
line_of_folder folder.Memory = out_of_memory
line_of_folder (folder.Failed cause) = codes "folder failed: " ++ cause_text cause ++ codes "\n"
line_of_folder (folder.Unread cause) = codes "opening failed: " ++ cause_text cause ++ codes "\n"
line_of_folder (folder.Refused why) = line_of_refusal why
line_of_folder (folder.NoLog g) = numbered (codes "folder refused: generation ") g (codes " has no log; repeat the --take that was broken off, or go on with the opening of a later one by --take FILE\n")
line_of_folder (folder.Opening g why) = numbered (codes "folder refused: the opening of generation ") g (codes ": ") ++ line_of_opening why
line_of_folder (folder.OtherGeneration g h) = numbered (codes "folder refused: the opening of generation ") g (codes " is that of generation ") ++ (decimal h ++ codes "\n")
line_of_folder (folder.Reference g why) = numbered (codes "folder refused: the reference of generation ") g (codes ": ") ++ line_of_opening why
line_of_folder (folder.OtherReference g h) = numbered (codes "folder refused: the reference of generation ") g (codes " is that of generation ") ++ (decimal h ++ codes "\n")
line_of_folder (folder.ShortLog g) = numbered (codes "folder refused: the log of generation ") g (codes " is gone or cut short, and what it leaves opens generation ") ++ (decimal (g + 1) ++ codes "\n")
line_of_folder (folder.OtherLog g) = numbered (codes "folder refused: the log of generation ") g (codes " isn't the one that generation ") ++ (decimal (g + 1) ++ codes " opens with\n")
line_of_folder (folder.OtherSize g n) = numbered (codes "folder refused: generation ") g (codes " has another size and isn't closed; go on with --replicas ") ++ (decimal n ++ codes "\n")
line_of_folder (folder.NoOpening why) = codes "opening refused: " ++ line_of_opening why
line_of_folder (folder.OtherCluster n) = numbered (codes "opening refused: it is for --replicas ") n (codes "\n")
line_of_folder folder.Last = codes "folder refused: the last generation is closed, and there is none after it\n"

-- the folder of this name can't be had
abbrev pub line_of_place : List ℕ → DeviceFault → List ℕ
line_of_place folder device.Memory = out_of_memory
line_of_place folder (device.Failed cause) = codes "folder failed: " ++ folder ++ (codes ": " ++ cause_text cause ++ codes "\n")

abbrev pub status_of_place : DeviceFault → Status
status_of_place device.Memory = OutOfMemory
status_of_place (device.Failed cause) = Failed

abbrev pub line_of : ServerFault → List ℕ
line_of (Open why) = line_of_open why
line_of (Serve why) = line_of_serve why
line_of (Folder why) = line_of_folder why

abbrev pub status_of_open : OpenFault → Status
status_of_open open_.OutOfRange = Refused
status_of_open open_.Memory = OutOfMemory
status_of_open (open_.Failed cause) = Failed
status_of_open open_.NoLog = Refused
status_of_open open_.LogExists = Refused
status_of_open open_.OtherLog = Refused
status_of_open (open_.Log fault) = Refused
status_of_open (open_.NotClocked number) = Refused

abbrev pub status_of_serve : ServeFault → Status
status_of_serve serve.Memory = OutOfMemory
status_of_serve serve.ReadFailed = Failed
status_of_serve (serve.BadRequest at) = Refused
status_of_serve serve.WriteFailed = Failed
status_of_serve (serve.LogFailed cause) = Failed

abbrev pub status_of_folder : FolderFault → Status
status_of_folder folder.Memory = OutOfMemory
status_of_folder (folder.Failed cause) = Failed
status_of_folder (folder.Unread cause) = Failed
status_of_folder (folder.Refused why) = Refused
status_of_folder (folder.NoLog g) = Refused
status_of_folder (folder.Opening g why) = Refused
status_of_folder (folder.OtherGeneration g h) = Refused
status_of_folder (folder.Reference g why) = Refused
status_of_folder (folder.OtherReference g h) = Refused
status_of_folder (folder.ShortLog g) = Refused
status_of_folder (folder.OtherLog g) = Refused
status_of_folder (folder.OtherSize g n) = Refused
status_of_folder (folder.NoOpening why) = Refused
status_of_folder (folder.OtherCluster n) = Refused
status_of_folder folder.Last = Refused

abbrev pub status_of : ServerFault → Status
status_of (Open why) = status_of_open why
status_of (Serve why) = status_of_serve why
status_of (Folder why) = status_of_folder why
