-- The words of the command line.
use Rattle.std.specs.Prelude.{ℕ, ◌≡◌, ◌⊎◌, List, [], ◌∷◌, Option, Some, None, true, codes, map, option_map, string_bytes}
use Rattle.clap.specs.Walk.{Row, Rule, Text, all_of, first_of}
use Rattle.clap.specs.Faults.{fault_of}
use Rattle.clap.specs.Kinds.{IsAmong}
use Rattle.clap.specs.Simple.{App, new_app, new_rule, on_top, subcommand_of, with_rule, with_subcommand}
use Rattle.ep_main.specs.declared.asked.Asked.{Asked}
use Rattle.ep_main.specs.Options.{Options, plain}
use Rattle.ep_main.specs.declared.asked.Asked.TheVariants.{Replay, Run, Audit, Upgrade, Version, Help}
use Rattle.ep_script.specs.Grammar.{number_in}
use Rattle.ep_main.specs.declared.asked.Emit.{Emit}
use Rattle.ep_main.specs.declared.asked.Emit.TheVariants.{Report, Bundle}
use Rattle.ep_main.specs.declared.form.Form.{Form}
use Rattle.ep_main.specs.declared.form.Form.TheVariants.{Lines, Json}
use Rattle.ep_main.specs.declared.host.Host.{Host}
use Rattle.ep_main.specs.declared.host.Host.TheVariants.{Lock, Ring}
use Rattle.ep_main.specs.declared.target.Target.{Target}
use Rattle.ep_main.specs.declared.target.Target.TheVariants.{Second, Third}
use Rattle.ep_main.specs.declared.job.Job.{Job}
use Rattle.ep_main.specs.declared.job.Job.TheVariants.{Streams, Chain}
use Rattle.clap.specs.declared.builder.action.ArgAction.TheVariants.{Set, SetTrue, Append}
use Rattle.clap.specs.declared.error.kind.ErrorKind.{ErrorKind}
use Rattle.clap.specs.declared.error.kind.ErrorKind.TheVariants.{DisplayHelp, DisplayVersion}

-- the word for a host
abbrev pub host_word : Host → Text
host_word Lock = codes "lock"
host_word Ring = codes "ring"

-- the word for what is printed
abbrev pub emit_word : Emit → Text
emit_word (Report Lines) = codes "report"
emit_word (Report Json) = codes "json"
emit_word Bundle = codes "bundle"

-- the words ask for this. The first one is the program's own name, and then: for a report `replay`, and perhaps `--emit report` or `--emit=report`;
-- for a report as JSON `replay`, and `--emit json` or `--emit=json`; for a bundle `replay`, and `--emit bundle` or `--emit=bundle`; for a run, with the limits that hold where none are given, `run`, perhaps `--host` and a
-- host, and then perhaps `--emit` and what is printed; for an audit `audit`, as JSON with `--emit json`; for an upgrade `upgrade`, perhaps with `--to` and a version; for the version `--version` or `-V`
abbrev pub AskFor : Asked → List Text → Type 0
AskFor (Replay (Report Lines)) words =
    (name : Text)
    × ((words ≡ name ∷ codes "replay" ∷ [])
    ⊎ ((words ≡ name ∷ codes "replay" ∷ codes "--emit" ∷ codes "report" ∷ []) ⊎ (words ≡ name ∷ codes "replay" ∷ codes "--emit=report" ∷ [])))
AskFor (Replay (Report Json)) words =
    (name : Text) × ((words ≡ name ∷ codes "replay" ∷ codes "--emit" ∷ codes "json" ∷ []) ⊎ (words ≡ name ∷ codes "replay" ∷ codes "--emit=json" ∷ []))
AskFor (Replay Bundle) words =
    (name : Text) × ((words ≡ name ∷ codes "replay" ∷ codes "--emit" ∷ codes "bundle" ∷ []) ⊎ (words ≡ name ∷ codes "replay" ∷ codes "--emit=bundle" ∷ []))
AskFor (Run options) words =
    (name : Text)
    × (((options ≡ plain Lock (Report Lines)) × (words ≡ name ∷ codes "run" ∷ []))
    ⊎ (((options ≡ plain options.host (Report Lines)) × (words ≡ name ∷ codes "run" ∷ codes "--host" ∷ host_word options.host ∷ []))
    ⊎ (((options ≡ plain Lock options.emit) × (words ≡ name ∷ codes "run" ∷ codes "--emit" ∷ emit_word options.emit ∷ []))
    ⊎ ((options ≡ plain options.host options.emit)
    × (words ≡ name ∷ codes "run" ∷ codes "--host" ∷ host_word options.host ∷ codes "--emit" ∷ emit_word options.emit ∷ [])))))
AskFor (Audit Lines) words = (name : Text) × (words ≡ name ∷ codes "audit" ∷ [])
AskFor (Audit Json) words = (name : Text) × (words ≡ name ∷ codes "audit" ∷ codes "--emit" ∷ codes "json" ∷ [])
AskFor (Upgrade Second) words = (name : Text) × ((words ≡ name ∷ codes "upgrade" ∷ []) ⊎ (words ≡ name ∷ codes "upgrade" ∷ codes "--to" ∷ codes "2" ∷ []))
AskFor (Upgrade Third) words = (name : Text) × (words ≡ name ∷ codes "upgrade" ∷ codes "--to" ∷ codes "3" ∷ [])
AskFor Version words = (name : Text) × ((words ≡ name ∷ codes "--version" ∷ []) ⊎ (words ≡ name ∷ codes "-V" ∷ []))
AskFor (Help text) words = ⊥

-- the words ask for help: `--help` or `-h`, right after the program's own name or after a subcommand
abbrev pub AskForHelp : List Text → Type 0
AskForHelp words = (name : Text) × ((words ≡ name ∷ codes "--help" ∷ []) ⊎ ((words ≡ name ∷ codes "-h" ∷ [])
    ⊎ ((words ≡ name ∷ codes "replay" ∷ codes "--help" ∷ []) ⊎ ((words ≡ name ∷ codes "replay" ∷ codes "-h" ∷ [])
    ⊎ ((words ≡ name ∷ codes "audit" ∷ codes "--help" ∷ []) ⊎ ((words ≡ name ∷ codes "audit" ∷ codes "-h" ∷ [])
    ⊎ ((words ≡ name ∷ codes "upgrade" ∷ codes "--help" ∷ []) ⊎ ((words ≡ name ∷ codes "upgrade" ∷ codes "-h" ∷ [])
    ⊎ ((words ≡ name ∷ codes "run" ∷ codes "--help" ∷ []) ⊎ (words ≡ name ∷ codes "run" ∷ codes "-h" ∷ []))))))))))

-- What the program has, as `clap` sees it.

-- an option of this name, with a word after it
abbrev pub value_option : Text → Rule
value_option name = record (new_rule name) { long = Some name; action = Some Set; value_names = 1 }

abbrev pub emit : Rule
emit = value_option (codes "emit")

abbrev pub replay : App
replay = with_rule (new_app (codes "replay")) emit

abbrev pub hosted : App
hosted = with_rule (new_app (codes "run")) (value_option (codes "host"))

abbrev pub bounded : App
bounded = with_rule hosted (value_option (codes "capacity"))

abbrev pub turned : App
turned = with_rule bounded (value_option (codes "turns"))

abbrev pub run : App
run = with_rule turned emit

abbrev pub chained : App
chained = with_rule (new_app (codes "audit")) (record (new_rule (codes "chain")) { long = Some (codes "chain"); action = Some SetTrue })

abbrev pub formed : App
formed = with_rule chained emit

abbrev pub audit : App
audit = with_rule formed (record (new_rule (codes "FILE")) { action = Some Append })

abbrev pub replaying : App
replaying = with_subcommand (on_top (λ s. record s { subcommand_required = true; has_version = true }) (new_app (codes "epaxos"))) replay.top

abbrev pub auditing : App
auditing = with_subcommand (with_subcommand replaying run.top) audit.top

abbrev pub upgrade : App
upgrade = with_rule (new_app (codes "upgrade")) (value_option (codes "to"))

abbrev pub epaxos : App
epaxos = with_subcommand auditing upgrade.top

-- the subcommand that was met, and the word after `--emit`
abbrev pub met : Option (Text × List Row) → Option (Text × Option Text)
met = option_map (λ p. (p.0, first_of (codes "emit") p.1))

-- `--emit report`, or nothing; or `--emit json`
abbrev pub NamesForm : Option Text → Form → Type 0
NamesForm what Lines = (what ≡ None) ⊎ (what ≡ Some (codes "report"))
NamesForm what Json = what ≡ Some (codes "json")

-- a form; or `--emit bundle`
abbrev pub Names : Option Text → Emit → Type 0
Names what (Report form) = NamesForm what form
Names what Bundle = what ≡ Some (codes "bundle")

-- a replay was met, of which this is to be printed
abbrev pub MetReplay : Emit → Option (Text × List Row) → Type 0
MetReplay emit found = (what : Option Text) × (met found ≡ Some (codes "replay", what)) × Names what emit

-- `--host lock`, or nothing; or `--host ring`
abbrev pub NamesHost : Option Text → Host → Type 0
NamesHost what Lock = (what ≡ None) ⊎ (what ≡ Some (codes "lock"))
NamesHost what Ring = what ≡ Some (codes "ring")

-- the number from 1 to so much that this word spells, or this one where there is no word
abbrev pub limit_in : ℕ → ℕ → Option Text → Option ℕ
limit_in most default None = Some default
limit_in most default (Some word) = number_in 1 most word

-- the words after the options of `run`
pub record RunWords : Type 0 where
  pub host : Option Text
  pub capacity : Option Text
  pub turns : Option Text
  pub emit : Option Text

abbrev pub run_words : List Row → RunWords
run_words rows = record {
  host = first_of (codes "host") rows;
  capacity = first_of (codes "capacity") rows;
  turns = first_of (codes "turns") rows;
  emit = first_of (codes "emit") rows;
}

-- these words ask for this
pub record Chooses (words : RunWords) (options : Options) : Type 0 where
  pub host : NamesHost words.host options.host
  pub capacity : limit_in 4096 64 words.capacity ≡ Some options.capacity
  pub turns : limit_in 10000000 100000 words.turns ≡ Some options.turns
  pub emit : Names words.emit options.emit

-- the subcommand that was met, and the words after its options
abbrev pub met_with : Option (Text × List Row) → Option (Text × RunWords)
met_with = option_map (λ p. (p.0, run_words p.1))

-- a run was met, with these options
abbrev pub MetRun : Options → Option (Text × List Row) → Type 0
MetRun options found = (words : RunWords) × (met_with found ≡ Some (codes "run", words)) × Chooses words options

-- the words after the options of `audit`: that of `--chain`, which is `true` where it is given, that after `--emit`, and the others
pub record AuditWords : Type 0 where
  pub chain : Option Text
  pub emit : Option Text
  pub files : Option (List Text)

abbrev pub audit_words : List Row → AuditWords
audit_words rows = record { chain = first_of (codes "chain") rows; emit = first_of (codes "emit") rows; files = all_of (codes "FILE") rows }

-- the audit of a bundle
pub record IsBundleAudit (words : AuditWords) : Type 0 where
  pub chain : words.chain ≡ Some (codes "true") → ⊥
  pub files : words.files ≡ None

-- the audit of a chain, of these files
pub record IsChainAudit (names : List Text) (words : AuditWords) : Type 0 where
  pub chain : words.chain ≡ Some (codes "true")
  pub files : words.files ≡ Some names

abbrev pub met_audit : Option (Text × List Row) → Option (Text × AuditWords)
met_audit = option_map (λ p. (p.0, audit_words p.1))

abbrev pub MetAudit : Form → Option (Text × List Row) → Type 0
MetAudit form found = (words : AuditWords) × (met_audit found ≡ Some (codes "audit", words)) × IsBundleAudit words × NamesForm words.emit form

abbrev pub MetChain : Form → List Text → Option (Text × List Row) → Type 0
MetChain form names found = (words : AuditWords) × (met_audit found ≡ Some (codes "audit", words)) × IsChainAudit names words × NamesForm words.emit form

-- `--to 2`, or nothing; or `--to 3`
abbrev pub NamesTarget : Option Text → Target → Type 0
NamesTarget what Second = (what ≡ None) ⊎ (what ≡ Some (codes "2"))
NamesTarget what Third = what ≡ Some (codes "3")

-- the subcommand that was met, and the word after `--to`
abbrev pub met_to : Option (Text × List Row) → Option (Text × Option Text)
met_to = option_map (λ p. (p.0, first_of (codes "to") p.1))

abbrev pub MetUpgrade : Target → Option (Text × List Row) → Type 0
MetUpgrade target found = (what : Option Text) × (met_to found ≡ Some (codes "upgrade", what)) × NamesTarget what target

-- what was met is this
abbrev pub IsMet : Asked → Option (Text × List Row) → Type 0
IsMet (Replay emit) found = MetReplay emit found
IsMet (Run options) found = MetRun options found
IsMet (Audit form) found = MetAudit form found
IsMet (Upgrade target) found = MetUpgrade target found
IsMet Version found = ⊥
IsMet (Help text) found = ⊥

-- in the words this is met; or the version, or help, is among what `clap` may answer in the place of a match
abbrev pub IsAsked : Asked → List Text → Type 0
IsAsked (Replay emit) words = MetReplay emit (subcommand_of epaxos words)
IsAsked (Run options) words = MetRun options (subcommand_of epaxos words)
IsAsked (Audit form) words = MetAudit form (subcommand_of epaxos words)
IsAsked (Upgrade target) words = MetUpgrade target (subcommand_of epaxos words)
IsAsked Version words = IsAmong DisplayVersion (fault_of epaxos words)
IsAsked (Help text) words = IsAmong DisplayHelp (fault_of epaxos words)

abbrev pub IsHelp : Asked → Type 0
IsHelp (Replay emit) = ⊥
IsHelp (Run options) = ⊥
IsHelp (Audit form) = ⊥
IsHelp (Upgrade target) = ⊥
IsHelp Version = ⊥
IsHelp (Help text) = Unit {0}

-- what is asked for where `clap` answers by this kind in the place of a match
abbrev pub IsShown : Asked → ErrorKind → Type 0
IsShown (Replay emit) kind = ⊥
IsShown (Run options) kind = ⊥
IsShown (Audit form) kind = ⊥
IsShown (Upgrade target) kind = ⊥
IsShown Version kind = kind ≡ DisplayVersion
IsShown (Help text) kind = kind ≡ DisplayHelp

-- Tasks: what streams serve for, or a chain.

-- the chain of files with these names
abbrev pub IsChainOf : Form → List Text → Job → Type 0
IsChainOf form names (Streams asked) = ⊥
IsChainOf form names (Chain f files) = (f ≡ form) × (map string_bytes files.items ≡ names)

-- that of the files that were found
abbrev pub IsChainFound : Form → Job → Option (List Text) → Type 0
IsChainFound form (Streams asked) found = ⊥
IsChainFound form (Chain f files) found = (f ≡ form) × (found ≡ Some (map string_bytes files.items))

-- these words after the options of `audit` ask for this, to be reported in this form
abbrev pub IsAuditIn : Form → Job → AuditWords → Type 0
IsAuditIn form (Streams asked) words = (asked ≡ Audit form) × IsBundleAudit words
IsAuditIn form (Chain f files) words = (f ≡ form) × IsChainAudit (map string_bytes files.items) words

-- they ask for this
abbrev pub IsAuditTask : Job → AuditWords → Type 0
IsAuditTask t words = (form : Form) × IsAuditIn form t words × NamesForm words.emit form

-- what was met is this
abbrev pub IsMetTask : Job → Option (Text × List Row) → Type 0
IsMetTask (Streams asked) found = IsMet asked found
IsMetTask (Chain form files) found = MetChain form (map string_bytes files.items) found

-- in the words the chain of files with these names is met
abbrev pub IsChainAsked : Form → List Text → List Text → Type 0
IsChainAsked form names words = MetChain form names (subcommand_of epaxos words)

abbrev pub IsTask : Job → List Text → Type 0
IsTask (Streams asked) words = IsAsked asked words
IsTask (Chain form files) words = IsChainAsked form (map string_bytes files.items) words

abbrev pub IsHelpTask : Job → Type 0
IsHelpTask (Streams asked) = IsHelp asked
IsHelpTask (Chain form files) = ⊥

abbrev pub IsShownTask : Job → ErrorKind → Type 0
IsShownTask (Streams asked) kind = IsShown asked kind
IsShownTask (Chain form files) kind = ⊥
