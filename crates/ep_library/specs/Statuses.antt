-- What a status says. Those below 16 are the numbers of the faults' names.
use Rattle.std.specs.Prelude.{ℕ}
use Rattle.ep_base.specs.declared.command_fault.CommandFault.{CommandFault}
use Rattle.ep_base.specs.declared.command_fault.CommandFault.TheVariants as command
use Rattle.ep_bundle.specs.declared.bundle_fault.BundleFault.{BundleFault}
use Rattle.ep_bundle.specs.declared.bundle_fault.BundleFault.TheVariants as bundle
use Rattle.ep_embedded.specs.declared.ask_fault.AskFault.{AskFault}
use Rattle.ep_embedded.specs.declared.ask_fault.AskFault.TheVariants as ask
use Rattle.ep_embedded.specs.declared.prepare_fault.PrepareFault.{PrepareFault}
use Rattle.ep_embedded.specs.declared.prepare_fault.PrepareFault.TheVariants as prepare
use Rattle.ep_embedded.specs.declared.start_fault.StartFault.{StartFault}
use Rattle.ep_embedded.specs.declared.start_fault.StartFault.TheVariants as start
use Rattle.ep_embedded.specs.declared.succeed_fault.SucceedFault.{SucceedFault}
use Rattle.ep_embedded.specs.declared.succeed_fault.SucceedFault.TheVariants as succeed
use Rattle.ep_embedded.specs.declared.sync_fault.SyncFault.{SyncFault}
use Rattle.ep_embedded.specs.declared.sync_fault.SyncFault.TheVariants as sync
use Rattle.ep_embedded.specs.declared.taking_fault.TakingFault.{TakingFault}
use Rattle.ep_embedded.specs.declared.taking_fault.TakingFault.TheVariants as taking
use Rattle.ep_embedded.specs.declared.report_fault.ReportFault.{ReportFault}
use Rattle.ep_embedded.specs.declared.report_fault.ReportFault.TheVariants as report_faults
use Rattle.ep_journal.specs.Refusals.{code_of}
use Rattle.ep_log.specs.declared.log_fault.LogFault.{LogFault}
use Rattle.ep_log.specs.declared.log_fault.LogFault.TheVariants as log
use Rattle.ep_node.specs.declared.close_fault.CloseFault.{CloseFault}
use Rattle.ep_node.specs.declared.close_fault.CloseFault.TheVariants as close
use Rattle.ep_node.specs.declared.open_fault.OpenFault.{OpenFault}
use Rattle.ep_node.specs.declared.open_fault.OpenFault.TheVariants as opened
use Rattle.ep_opening.specs.declared.opening_fault.OpeningFault.{OpeningFault}
use Rattle.ep_opening.specs.declared.opening_fault.OpeningFault.TheVariants as opening

abbrev pub done : ℕ
done = 0

abbrev pub memory : ℕ
memory = 1

abbrev pub out_of_range : ℕ
out_of_range = 3

abbrev pub no_replica : ℕ
no_replica = 32

abbrev pub has_replica : ℕ
has_replica = 33

abbrev pub no_patience : ℕ
no_patience = 44

abbrev pub has_patience : ℕ
has_patience = 45

abbrev pub no_checkpoint : ℕ
no_checkpoint = 30

abbrev pub has_checkpoint : ℕ
has_checkpoint = 31

abbrev pub log_exists : ℕ
log_exists = 49

abbrev pub lent : ℕ
lent = 34

abbrev pub unsynced : ℕ
unsynced = 35

abbrev pub none : ℕ
none = 38

abbrev pub too_short : ℕ
too_short = 39

abbrev pub refused : ℕ
refused = 41

abbrev pub bad_frame : ℕ
bad_frame = 14

abbrev pub no_header : ℕ
no_header = 51

abbrev pub opening_short : ℕ
opening_short = 60

abbrev pub opening_wrong : ℕ
opening_wrong = 62

-- why no command was made
abbrev pub command_status : CommandFault → ℕ
command_status command.Memory = memory
command_status command.OutOfRange = out_of_range

-- why nothing was taken
abbrev pub taking_status : TakingFault → ℕ
taking_status taking.Lent = lent
taking_status (taking.Refused refusal) = code_of refusal

-- why bytes don't count as on the disk
abbrev pub sync_status : SyncFault → ℕ
sync_status sync.NotLent = 36
sync_status sync.NotAll = 37

-- why no answers are made
abbrev pub prepare_status : PrepareFault → ℕ
prepare_status prepare.Memory = memory
prepare_status prepare.Unlent = unsynced
prepare_status prepare.Unreported = 46

-- why nothing is reported
abbrev pub report_status : ReportFault → ℕ
report_status report_faults.Memory = memory
report_status report_faults.Unsynced = unsynced

-- why a request wasn't done
abbrev pub ask_status : AskFault → ℕ
ask_status ask.Lent = lent
ask_status ask.Memory = memory
ask_status ask.NotOne = 40

-- why there is no opening of the next generation
abbrev pub close_status : CloseFault → ℕ
close_status close.Memory = memory
close_status close.NotSealed = 42
close_status close.LastGeneration = 43
close_status close.Unsynced = unsynced
close_status close.Closed = unsynced

-- why a log isn't read
abbrev pub log_status : LogFault → ℕ
log_status log.Memory = memory
log_status log.NoHeader = 51
log_status log.OtherVersion = 52
log_status log.OtherGeneration = 53
log_status (log.BadLength at) = 54
log_status (log.BadChecksum at) = 55
log_status (log.BadEntry at) = 56
log_status (log.NotNext at) = 57
log_status (log.Turned at by) = 58

-- why a log isn't begun, or gone on from
abbrev pub open_status : OpenFault → ℕ
open_status opened.OutOfRange = out_of_range
open_status opened.Memory = memory
open_status (opened.Failed cause) = memory
open_status opened.NoLog = 48
open_status opened.LogExists = log_exists
open_status opened.OtherLog = 50
open_status (opened.Log fault) = log_status fault
open_status (opened.NotClocked number) = 59

-- why an opening isn't read
abbrev pub opening_status : OpeningFault → ℕ
opening_status opening.Memory = memory
opening_status (opening.CutShort count) = 60
opening_status (opening.Damaged at) = 61
opening_status (opening.Wrong at field) = 62

-- why no replica was opened
abbrev pub start_status : StartFault → ℕ
start_status start.Memory = memory
start_status (start.Opening fault) = opening_status fault
start_status (start.OtherSize count) = 63
start_status (start.Log fault) = open_status fault

-- why bytes aren't a bundle
abbrev pub bundle_status : BundleFault → ℕ
bundle_status bundle.Memory = memory
bundle_status bundle.ReadFailed = memory
bundle_status (bundle.BadBundle field) = 12
bundle_status (bundle.NotARun replica entry) = 11

-- why no replica goes on in the next generation
abbrev pub succeed_status : SucceedFault → ℕ
succeed_status succeed.Memory = memory
succeed_status succeed.OutOfRange = out_of_range
succeed_status succeed.NotSealed = 42
succeed_status succeed.LastGeneration = 43
succeed_status succeed.Unsynced = unsynced
succeed_status (succeed.Log fault) = open_status fault
