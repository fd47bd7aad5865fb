-- What the program does, by the status that it answers: of the bytes of its log and those that it reads, its output and its fault output.
use Rattle.std.specs.Prelude.{◌≡◌, ◌++◌, ℕ, Bool, true, false, List, [], Option, Some, None, Result, Ok, Err, IfErr}
use Rattle.ep_base.specs.Devices.{FailsAsReported}
use Rattle.ep_device.specs.declared.system_fault.SystemFault.{SystemFault}
use Rattle.ep_cli.specs.Outputs.{Input, Output, Reported, WroteNothing}
use Rattle.ep_cli.specs.declared.status.Status.{Status}
use Rattle.ep_cli.specs.declared.status.Status.TheVariants.{Done}
use Rattle.ep_log.specs.Origins.{Origin, second}
use Rattle.ep_node.specs.Nodes.{Logged, origin_of}
use Rattle.ep_node.specs.Opening.{IsOpened, IsUnopened, IsWrittenAnew}
use Rattle.ep_node.specs.declared.begin.Begin.{Begin}
use Rattle.ep_node.specs.declared.cut.Cut.{Cut}
use Rattle.ep_node.specs.declared.open_fault.OpenFault.{OpenFault}
use Rattle.ep_node.specs.declared.open_fault.OpenFault.TheVariants as open_
use Rattle.ep_journal.specs.Entries.{Log}
use Rattle.ep_opening.specs.Closing.{store_of, IsClosing}
use Rattle.ep_opening.specs.Files.{File}
use Rattle.ep_rules.specs.OneMap.{is_closed}
use Rattle.ep_serve.specs.Lasting.{crashes}
use Rattle.ep_serve.specs.Serving.{dialect_of, Ends, IsReadTo, Names, is_log_failed, is_write_failed}
use Rattle.ep_serve.specs.declared.mode.Mode.{Mode}
use Rattle.ep_serve.specs.declared.serve_fault.ServeFault.{ServeFault}
use Rattle.ep_server.specs.Faults.{line_of, line_of_cut, status_of}
use Rattle.ep_server.specs.Replays.{HasOpened, origin_from}
use Rattle.ep_server.specs.declared.named_file.NamedFile.{NamedFile}
use Rattle.ep_server.specs.declared.server_fault.ServerFault.{ServerFault}
use Rattle.ep_server.specs.declared.server_fault.ServerFault.TheVariants.{Open, Serve, Folder}

-- which node is asked for, when it writes answers, and whether its log is to be begun
pub record Role : Type 0 where
  pub begin : Begin
  pub mode : Mode
  pub faults : ℕ
  pub me : ℕ

-- What is known of a type of devices: the bytes that a read returns, the moment, what a crash from a moment on might have left, whether it has
-- failed, and why it did first.
pub record Shown (D : Type 0) : Type 1 where
  pub has_failed : D → Bool
  pub why : D → Option SystemFault
  pub seen : D → Option (List ℕ)
  pub moment : D → ℕ
  pub left_since : D → ℕ → List ℕ → Type 0

-- Which device failed: the output, the log, and the reader, each where that is reported; and why the log's did.
pub record Fails {D : Type 0} (shown : Shown D) (first last : D) (outcome : Result Unit ServeFault) (reader : Input) (out : Output) : Type 0 where
  pub written : FailsAsReported is_write_failed outcome out.had_failed out.failed
  pub logged : FailsAsReported is_log_failed outcome (shown.has_failed first) (shown.has_failed last)
  pub why : IfErr outcome (λ fault. Names fault (shown.why last))
  pub read : IsReadTo outcome reader.had_failed reader.failed

-- The log holds this replica, which is of this origin, and from there the requests in zs were served, as `serve` reports, on a device whose bytes were known when the log had been
-- written anew.
pub record HasServed {D : Type 0} (shown : Shown D) (role : Role) (o : Origin) (bytes zs : List ℕ) (cut : Option Cut) (outcome : Result Unit ServeFault) (reader : Input) (out : Output) : Type 0 where
  pub start : Logged D
  pub cluster : start.replica.faults ≡ role.faults
  pub replica : start.replica.me ≡ role.me
  pub origin : origin_of start ≡ o
  pub opened : IsOpened role.begin o role.faults role.me bytes start.replica.entries cut
  pub log : List ℕ
  pub known : shown.seen start.device ≡ Some log
  pub anew : IsWrittenAnew role.begin o role.faults role.me bytes log
  pub end : Logged D
  pub ends : Ends role.mode (dialect_of start.replica) (crashes start.digest shown.seen shown.moment shown.left_since start.device end.device) start.replica (record { at = 0; bytes = zs }) out.before out.after outcome end.replica
  pub fails : Fails shown start.device end.device outcome reader out

-- how serving ended, as the program has it
abbrev pub of_serve : Result Unit ServeFault → Result Unit ServerFault
of_serve (Ok x) = Ok x
of_serve (Err why) = Err (Serve why)

-- a node that was opened has served so, on a device that is then this one
abbrev pub IsOver : {D : Type 0} → Shown D → Mode → Logged D → List ℕ → Result Unit ServerFault → Input → Output → Type 0
IsOver {D = D} shown mode start zs outcome reader out =
    (end : Logged D) × (ended : Result Unit ServeFault) × (outcome ≡ of_serve ended)
    × Ends mode (dialect_of start.replica) (crashes start.digest shown.seen shown.moment shown.left_since start.device end.device) start.replica (record { at = 0; bytes = zs }) out.before out.after ended end.replica
    × Fails shown start.device end.device ended reader out

-- where the log's device failed, there is one that did, first for this reason
abbrev pub IsFailure : {D : Type 0} → Shown D → OpenFault → Type 0
IsFailure shown open_.OutOfRange = Unit {0}
IsFailure shown open_.Memory = Unit {0}
IsFailure {D = D} shown (open_.Failed cause) = (device : D) × (shown.why device ≡ Some cause)
IsFailure shown open_.NoLog = Unit {0}
IsFailure shown open_.LogExists = Unit {0}
IsFailure shown open_.OtherLog = Unit {0}
IsFailure shown (open_.Log fault) = Unit {0}
IsFailure shown (open_.NotClocked number) = Unit {0}

-- before a fault is reported: where the log isn't opened, why, and that nothing was written
abbrev pub Happens : {D : Type 0} → Shown D → Role → Origin → List ℕ → List ℕ → Option Cut → Result Unit ServerFault → Input → Output → Type 0
Happens shown role o bytes zs cut (Ok x) reader out = HasServed shown role o bytes zs cut (Ok x) reader out
Happens shown role o bytes zs cut (Err (Open why)) reader out = IsUnopened role.begin o role.faults role.me bytes why × IsFailure shown why × WroteNothing out × (cut ≡ None)
Happens shown role o bytes zs cut (Err (Serve why)) reader out = HasServed shown role o bytes zs cut (Err why) reader out
Happens shown role o bytes zs cut (Err (Folder why)) reader out = ⊥

-- what was cut off the log is reported first
abbrev pub reported_first : Option Cut → List ℕ
reported_first None = []
reported_first (Some cut) = line_of_cut cut

-- then a fault is reported, and decides on the status
abbrev pub EndsWith : List ℕ → Result Unit ServerFault → Status → Output → Type 0
EndsWith reported (Ok x) status fault = (status ≡ Done) × Reported fault reported
EndsWith reported (Err e) status fault = (status ≡ status_of e) × Reported fault (reported ++ line_of e)

-- Of a replica of version 2. At the status Done all requests were read and answered; at any other the line says what stopped that.
pub record IsNode {D : Type 0} (shown : Shown D) (role : Role) (bytes zs : List ℕ) (status : Status) (reader : Input) (out fault : Output) : Type 0 where
  pub cut : Option Cut
  pub outcome : Result Unit ServerFault
  pub happens : Happens shown role second bytes zs cut outcome reader out
  pub concluded : EndsWith (reported_first cut) outcome status fault

-- A node in the folder of a replica that lives through generations.

-- what a journal is gone on with, in a next generation of which `next` replicas may fail: nothing, where no seal was executed; else the file that closes it
abbrev pub IsNextOf : Log → ℕ → Option File → Type 0
IsNextOf j next None = is_closed (store_of j) ≡ false
IsNextOf j next (Some f) = IsClosing j next f

-- The node's replica is of the generation that a file opens, for a cluster of this size, and began with what that file has, which is kept or which logs lead to: its log
-- names the digest of the file, or of the reference that stood for it.
pub record IsOfFile {D : Type 0} (faults me : ℕ) (node : Logged D) : Type 0 where
  pub file : NamedFile
  pub opened : HasOpened file
  pub size : file.file.faults ≡ faults
  pub origin : origin_of node ≡ origin_from file
  pub cluster : node.replica.faults ≡ faults
  pub replica : node.replica.me ≡ me

-- why there is no such node: its log isn't opened, or the folder or what is asked for doesn't allow it
abbrev pub IsUnready : ServerFault → Type 0
IsUnready (Open why) = Unit {0}
IsUnready (Serve why) = ⊥
IsUnready (Folder why) = Unit {0}

-- such a node has served
pub record HasServedThere {D : Type 0} (shown : Shown D) (mode : Mode) (faults me : ℕ) (zs : List ℕ) (outcome : Result Unit ServerFault) (reader : Input) (out : Output) : Type 0 where
  pub start : Logged D
  pub of : IsOfFile faults me start
  pub over : IsOver shown mode start zs outcome reader out

-- before a fault is reported: such a node has served; or there is none, and nothing was written
abbrev pub HappensThere : {D : Type 0} → Shown D → Mode → ℕ → ℕ → List ℕ → Result Unit ServerFault → Input → Output → Type 0
HappensThere shown mode faults me zs (Ok x) reader out = HasServedThere shown mode faults me zs (Ok x) reader out
HappensThere shown mode faults me zs (Err (Serve why)) reader out = HasServedThere shown mode faults me zs (Err (Serve why)) reader out
HappensThere shown mode faults me zs (Err (Open why)) reader out = WroteNothing out
HappensThere shown mode faults me zs (Err (Folder why)) reader out = WroteNothing out

-- what was cut off one log, or two, is reported, and nothing else; an output that has failed has failed for good
pub record ReportsCut (fault : Output) : Type 0 where
  pub cut : Option Cut
  pub reported : Reported fault (reported_first cut)
  pub for_good : fault.had_failed ≡ true → fault.failed ≡ true

pub record ReportsCuts (fault : Output) : Type 0 where
  pub first : Option Cut
  pub then_ : Option Cut
  pub reported : Reported fault (reported_first first ++ reported_first then_)
  pub for_good : fault.had_failed ≡ true → fault.failed ≡ true

-- Whatever the folder has. At the status Done all requests were read and answered; at any other the line says what stopped that.
pub record IsFolderNode {D : Type 0} (shown : Shown D) (mode : Mode) (faults me : ℕ) (zs : List ℕ) (status : Status) (reader : Input) (out fault : Output) : Type 0 where
  -- what was cut off the logs of the generation that was closed, and of that which is served
  pub first : Option Cut
  pub then_ : Option Cut
  pub outcome : Result Unit ServerFault
  pub happens : HappensThere shown mode faults me zs outcome reader out
  pub concluded : EndsWith (reported_first first ++ reported_first then_) outcome status fault
