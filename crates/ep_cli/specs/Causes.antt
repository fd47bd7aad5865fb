-- Why the operating system refused something, in words.
use Rattle.std.specs.Prelude.{ℕ, List, ◌++◌, codes, decimal}
use Rattle.ep_device.specs.declared.system_fault.SystemFault.{SystemFault}
use Rattle.ep_device.specs.declared.system_fault.SystemFault.TheVariants as cause

abbrev pub cause_text : SystemFault → List ℕ
cause_text cause.NotFound = codes "no such file or directory"
cause_text cause.NotAllowed = codes "permission denied"
cause_text cause.NotAFile = codes "not a regular file"
cause_text cause.Locked = codes "another process has it open"
cause_text cause.NoSpace = codes "no space left on device"
cause_text cause.OverQuota = codes "disk quota exceeded"
cause_text cause.TooLarge = codes "file too large"
cause_text cause.ReadOnly = codes "read-only file system"
cause_text cause.InputOutput = codes "input/output error"
cause_text cause.NoMemory = codes "out of memory"
cause_text (cause.System number) = codes "system error " ++ decimal number
cause_text cause.Unknown = codes "unknown error"
