-- How the program ends, by what became of what it was asked for.
use Rattle.std.proofs.Common.{◌≡◌, ◌≤◌, ◌<◌, inl, inr, ℕ, Bool, List, Option, Result, Ok, Err, sym, ◌∙◌, subst, map, string_bytes, arith, ⊎_elim}
use Rattle.std.proofs.lemmas.Bool.{cases_lt}
use Rattle.ep_base.specs.Versions.{version_number}
use Rattle.std.specs.Prelude.{IfOk, IsErrAnd}
use Rattle.ep_base.specs.Devices.{FailsAsReported}
use Rattle.ep_main.specs.Faults.{of_bundle, is_read, is_write}
use Rattle.ep_cli.proofs.Printed.{not_made, put_to}
use Rattle.ep_cli.specs.Endings.{IsOutOfMemory, ReportsWhy}
use Rattle.ep_cli.specs.Outputs.{Input, Output, WroteNothing, became}
use Rattle.ep_cli.specs.Printed.{IsPut, IsTextPut, Makes}
use Rattle.ep_cli.specs.declared.made.Made.{Made}
use Rattle.ep_bundle.specs.Journals.{Contents, Finds}
use Rattle.ep_bundle.specs.Reading.{Left, Reading}
use Rattle.ep_journal.specs.Entries.{Collected}
use Rattle.ep_rules.specs.declared.receipt.Receipt.{Receipt}
use Rattle.ep_main.specs.Chains.{ChainsFiles}
use Rattle.ep_main.specs.Tasks as tasks
use Rattle.ep_main.specs.Tasks.{EndsBy, EndsSo, Works}
use Rattle.ep_main.specs.Upgrades.{IsThirdFault, IsUnread, IsUnupgraded, Reads, ReadsEarly}
use Rattle.ep_bundle.specs.declared.bundle_fault.BundleFault.{BundleFault}
use Rattle.ep_bundle.specs.declared.bundle_fault.BundleFault.TheVariants as bundle
use Rattle.ep_main.specs.Runs.{Plays, Leaves, Runs, RunsInThreads, Finishes, Rewrites, StopsBy, Prints, Does, Concludes, Declines, Ends, IsVerdict, Replays, Emits, Audits, Upgrades, Versions, Helps, IsHelped, Performs, version_line}
use Rattle.ep_main.specs.Words.{AskFor, IsHelp, IsHelpTask, IsTask}
use Rattle.ep_main.specs.declared.target.Target.{Target}
use Rattle.ep_main.specs.declared.target.Target.TheVariants.{Second, Third}
use Rattle.ep_main.specs.declared.job.Job.{Job}
use Rattle.ep_main.specs.declared.job.Job.TheVariants.{Streams, Chain}
use Rattle.ep_main.specs.declared.asked.Asked.{Asked}
use Rattle.ep_main.specs.declared.asked.Asked.TheVariants.{Replay, Run, Audit, Upgrade, Version, Help}
use Rattle.ep_cli.specs.declared.words_fault.WordsFault.{WordsFault}
use Rattle.ep_cli.specs.declared.words_fault.WordsFault.TheVariants as declined
use Rattle.ep_main.specs.declared.asked.Emit.TheVariants.{Report, Bundle}
use Rattle.ep_main.specs.declared.form.Form.{Form}
use Rattle.ep_main.specs.Options.{Options}
use Rattle.ep_main.specs.declared.engine_fault.EngineFault.{EngineFault}
use Rattle.ep_main.specs.declared.engine_fault.EngineFault.TheVariants.{Script, BadBundle, NotARun, Memory, Read, Write}
use Rattle.ep_cli.specs.declared.status.Status.{Status}
use Rattle.ep_cli.specs.declared.status.Status.TheVariants.{Done, AuditRefused, Refused, OutOfMemory, Failed}

-- the reader and the output fail as the outcome says
pub record IsReported (outcome : Result Status EngineFault) (reader : Input) (out : Output) : Type 0 where
  pub read : FailsAsReported is_read outcome reader.had_failed reader.failed
  pub written : FailsAsReported is_write outcome out.had_failed out.failed

replays : (form : Form) (outcome : Result Status EngineFault) (status : Status) (zs : List ℕ) (reader : Input) (out fault : Output) → Plays form outcome zs out → IsReported outcome reader out → Concludes outcome status fault → Replays form status zs reader out fault
replays form (Ok said) status zs reader out fault p t c = subst (λ s. Replays form s zs reader out fault) (sym (c.0 ∙ p.0)) (p.1, c.1)
replays form (Err (Script line)) status zs reader out fault p t c =
    subst (λ s. Replays form s zs reader out fault) (sym c.0) (record { line = line; script = p.0; silent = p.1; reported = c.1 })
replays form (Err (BadBundle field)) status zs reader out fault p t c = absurd p
replays form (Err (NotARun replica entry)) status zs reader out fault p t c = absurd p
replays form (Err Memory) status zs reader out fault p t c = subst (λ s. Replays form s zs reader out fault) (sym c.0) (record { silent = p; reported = c.1 })
replays form (Err Read) status zs reader out fault p t c = subst (λ s. Replays form s zs reader out fault) (sym c.0) (inl ((t.read, t.written), p, c.1))
replays form (Err Write) status zs reader out fault p t c = subst (λ s. Replays form s zs reader out fault) (sym c.0) (inr ((t.read, t.written), c.1))

emits : (outcome : Result Status EngineFault) (status : Status) (zs : List ℕ) (reader : Input) (out fault : Output) → Leaves outcome zs out → IsReported outcome reader out → Concludes outcome status fault → Emits status zs reader out fault
emits (Ok said) status zs reader out fault p t c = subst (λ s. Emits s zs reader out fault) (sym (c.0 ∙ p.0)) (p.1, c.1)
emits (Err (Script line)) status zs reader out fault p t c =
    subst (λ s. Emits s zs reader out fault) (sym c.0) (record { line = line; script = p.0; silent = p.1; reported = c.1 })
emits (Err (BadBundle field)) status zs reader out fault p t c = absurd p
emits (Err (NotARun replica entry)) status zs reader out fault p t c = absurd p
emits (Err Memory) status zs reader out fault p t c = subst (λ s. Emits s zs reader out fault) (sym c.0) (record { silent = p; reported = c.1 })
emits (Err Read) status zs reader out fault p t c = subst (λ s. Emits s zs reader out fault) (sym c.0) (inl ((t.read, t.written), p, c.1))
emits (Err Write) status zs reader out fault p t c = subst (λ s. Emits s zs reader out fault) (sym c.0) (inr ((t.read, t.written), c.1))

runs :
    (options : Options) (outcome : Result Status EngineFault) (status : Status) (zs : List ℕ) (reader : Input) (out fault : Output) → Runs options outcome zs out → IsReported outcome reader out →
    Concludes outcome status fault → RunsInThreads options status zs reader out fault
runs options (Ok Done) status zs reader out fault p t c = subst (λ s. RunsInThreads options s zs reader out fault) (sym c.0) (p, c.1)
runs options (Ok AuditRefused) status zs reader out fault p t c = subst (λ s. RunsInThreads options s zs reader out fault) (sym c.0) (p, c.1)
runs options (Ok Refused) status zs reader out fault p t c = absurd p
runs options (Ok OutOfMemory) status zs reader out fault p t c = absurd p
runs options (Ok Failed) status zs reader out fault p t c = absurd p
runs options (Err (Script line)) status zs reader out fault p t c =
    subst (λ s. RunsInThreads options s zs reader out fault) (sym c.0) (record { line = line; script = p.0; silent = p.1; reported = c.1 })
runs options (Err (BadBundle field)) status zs reader out fault p t c = absurd p
runs options (Err (NotARun replica entry)) status zs reader out fault p t c = absurd p
runs options (Err Memory) status zs reader out fault p t c = subst (λ s. RunsInThreads options s zs reader out fault) (sym c.0) (record { silent = p; reported = c.1 })
runs options (Err Read) status zs reader out fault p t c = subst (λ s. RunsInThreads options s zs reader out fault) (sym c.0) (inl ((t.read, t.written), p, c.1))
runs options (Err Write) status zs reader out fault p t c = subst (λ s. RunsInThreads options s zs reader out fault) (sym c.0) (inr ((t.read, t.written), c.1))

audits : (form : Form) (outcome : Result Status EngineFault) (status : Status) (zs : List ℕ) (reader : Input) (out fault : Output) → Finishes form outcome zs out → IsReported outcome reader out → Concludes outcome status fault → Audits form status zs reader out fault
audits form (Ok Done) status zs reader out fault p t c = subst (λ s. Audits form s zs reader out fault) (sym c.0) (p, c.1)
audits form (Ok AuditRefused) status zs reader out fault p t c = subst (λ s. Audits form s zs reader out fault) (sym c.0) (p, c.1)
audits form (Ok Refused) status zs reader out fault p t c = absurd p.says
audits form (Ok OutOfMemory) status zs reader out fault p t c = absurd p.says
audits form (Ok Failed) status zs reader out fault p t c = absurd p.says
audits form (Err (Script line)) status zs reader out fault p t c = absurd p
audits form (Err (BadBundle field)) status zs reader out fault p t c =
    subst (λ s. Audits form s zs reader out fault) (sym c.0) (inl (record { field = field; read = p.0; silent = p.1; reported = c.1 }))
audits form (Err (NotARun replica entry)) status zs reader out fault p t c =
    subst (λ s. Audits form s zs reader out fault) (sym c.0) (inr (record { replica = replica; entry = entry; read = p.0; silent = p.1; reported = c.1 }))
audits form (Err Memory) status zs reader out fault p t c = subst (λ s. Audits form s zs reader out fault) (sym c.0) (record { silent = p; reported = c.1 })
audits form (Err Read) status zs reader out fault p t c = subst (λ s. Audits form s zs reader out fault) (sym c.0) (inl ((t.read, t.written), p, c.1))
audits form (Err Write) status zs reader out fault p t c = subst (λ s. Audits form s zs reader out fault) (sym c.0) (inr ((t.read, t.written), c.1))

upgrades :
    (target : Target) (outcome : Result Status EngineFault) (status : Status) (zs : List ℕ) (reader : Input) (out fault : Output) → Rewrites target outcome zs out → IsReported outcome reader out → Concludes outcome status fault → Upgrades target status zs reader out fault
upgrades target (Ok said) status zs reader out fault p t c = subst (λ s. Upgrades target s zs reader out fault) (sym (c.0 ∙ p.0)) (p.1, c.1)
upgrades target (Err (Script line)) status zs reader out fault p t c = absurd p
upgrades target (Err (BadBundle field)) status zs reader out fault p t c =
    subst (λ s. Upgrades target s zs reader out fault) (sym c.0) (inl (record { field = field; read = p.0; silent = p.1; reported = c.1 }))
upgrades target (Err (NotARun replica entry)) status zs reader out fault p t c =
    subst (λ s. Upgrades target s zs reader out fault) (sym c.0) (inr (record { replica = replica; entry = entry; read = p.0; silent = p.1; reported = c.1 }))
upgrades target (Err Memory) status zs reader out fault p t c = subst (λ s. Upgrades target s zs reader out fault) (sym c.0) (record { silent = p; reported = c.1 })
upgrades target (Err Read) status zs reader out fault p t c = subst (λ s. Upgrades target s zs reader out fault) (sym c.0) (inl ((t.read, t.written), p, c.1))
upgrades target (Err Write) status zs reader out fault p t c = subst (λ s. Upgrades target s zs reader out fault) (sym c.0) (inr ((t.read, t.written), c.1))

helps : (outcome : Result Status EngineFault) (status : Status) (text : List ℕ) (out fault : Output) → Prints outcome text out → FailsAsReported is_write outcome out.had_failed out.failed → Concludes outcome status fault → Helps status text out fault
helps (Ok said) status text out fault p t c = subst (λ s. Helps s text out fault) (sym (c.0 ∙ p.0)) (p.1, c.1)
helps (Err (Script line)) status text out fault p t c = absurd p
helps (Err (BadBundle field)) status text out fault p t c = absurd p
helps (Err (NotARun replica entry)) status text out fault p t c = absurd p
helps (Err Memory) status text out fault p t c = absurd p
helps (Err Read) status text out fault p t c = absurd p
helps (Err Write) status text out fault p t c = subst (λ s. Helps s text out fault) (sym c.0) (t, c.1)

versions : (outcome : Result Status EngineFault) (status : Status) (out fault : Output) → Prints outcome version_line out → FailsAsReported is_write outcome out.had_failed out.failed → Concludes outcome status fault → Versions status out fault
versions (Ok said) status out fault p t c = subst (λ s. Versions s out fault) (sym (c.0 ∙ p.0)) (p.1, c.1)
versions (Err (Script line)) status out fault p t c = absurd p
versions (Err (BadBundle field)) status out fault p t c = absurd p
versions (Err (NotARun replica entry)) status out fault p t c = absurd p
versions (Err Memory) status out fault p t c = absurd p
versions (Err Read) status out fault p t c = absurd p
versions (Err Write) status out fault p t c = subst (λ s. Versions s out fault) (sym c.0) (t, c.1)

pub performs :
    (asked : Asked) (outcome : Result Status EngineFault) (status : Status) (zs : List ℕ) (reader : Input) (out fault : Output) → Does asked outcome zs out →
    IsReported outcome reader out → Concludes outcome status fault → Performs asked status zs reader out fault
performs (Replay (Report form)) outcome status zs reader out fault d t c = replays form outcome status zs reader out fault d t c
performs (Replay Bundle) outcome status zs reader out fault d t c = emits outcome status zs reader out fault d t c
performs (Run options) outcome status zs reader out fault d t c = runs options outcome status zs reader out fault d t c
performs (Audit form) outcome status zs reader out fault d t c = audits form outcome status zs reader out fault d t c
performs (Upgrade target) outcome status zs reader out fault d t c = upgrades target outcome status zs reader out fault d t c
performs Version outcome status zs reader out fault d t c = versions outcome status out fault d t.written c
performs (Help text) outcome status zs reader out fault d t c = helps outcome status (string_bytes text) out fault d t.written c

pub is_helped : (asked : Asked) (status : Status) (zs : List ℕ) (reader : Input) (out fault : Output) → IsHelp asked → Performs asked status zs reader out fault → IsHelped status out fault
is_helped (Replay emit) status zs reader out fault help p = absurd help
is_helped (Run options) status zs reader out fault help p = absurd help
is_helped (Audit form) status zs reader out fault help p = absurd help
is_helped (Upgrade target) status zs reader out fault help p = absurd help
is_helped Version status zs reader out fault help p = absurd help
is_helped (Help text) Done zs reader out fault help p = ((string_bytes text, p.0), p.1)
is_helped (Help text) AuditRefused zs reader out fault help p = absurd p
is_helped (Help text) Refused zs reader out fault help p = absurd p
is_helped (Help text) OutOfMemory zs reader out fault help p = absurd p
is_helped (Help text) Failed zs reader out fault help p = p

-- what stops the reading of a bundle

finds :
    (R : Reading Contents → Type 0) (b : BundleFault) (place : ℕ) (left : Option (List ℕ)) (out : Output) → Finds R (Err b) place left → WroteNothing out →
    StopsBy (λ e. R (Err e)) (of_bundle b) out
finds R bundle.Memory place left out found silent = silent
finds R bundle.ReadFailed place left out found silent = silent
finds R (bundle.BadBundle field) place left out found silent = (found, silent)
finds R (bundle.NotARun replica entry) place left out found silent = (found, silent)

-- where there are more faults
stops_more : (P Q : BundleFault → Type 0) (e : EngineFault) (out : Output) → ((b : BundleFault) → P b → Q b) → StopsBy P e out → StopsBy Q e out
stops_more P Q (Script line) out more stop = absurd stop
stops_more P Q (BadBundle field) out more stop = (more (bundle.BadBundle field) stop.0, stop.1)
stops_more P Q (NotARun replica entry) out more stop = (more (bundle.NotARun replica entry) stop.0, stop.1)
stops_more P Q Memory out more stop = stop
stops_more P Q Read out more stop = stop
stops_more P Q Write out more stop = stop

-- Of a bundle that isn't read nothing is made.

pub finishes :
    (form : Form) (b : BundleFault) (r : Result Made EngineFault) (zs : List ℕ) (place : ℕ) (left : Option (List ℕ)) → IsErrAnd r (λ e. e ≡ of_bundle b) → Finds (Reads zs) (Err b) place left → Makes (Does (Audit form)) r zs
finishes form b r zs place left is found = not_made (Does (Audit form)) r (of_bundle b) zs is (λ out silent. finds (Reads zs) b place left out found silent)

pub second_not_read :
    (b : BundleFault) (r : Result Made EngineFault) (zs : List ℕ) (place : ℕ) (left : Option (List ℕ)) → IsErrAnd r (λ e. e ≡ of_bundle b) → Finds (ReadsEarly zs) (Err b) place left →
    Makes (Does (Upgrade Second)) r zs
second_not_read b r zs place left is found = not_made (Does (Upgrade Second)) r (of_bundle b) zs is (λ out silent. finds (ReadsEarly zs) b place left out found silent)

pub third_not_read :
    (b : BundleFault) (r : Result Made EngineFault) (zs : List ℕ) (place : ℕ) (left : Option (List ℕ)) → IsErrAnd r (λ e. e ≡ of_bundle b) → Finds (Reads zs) (Err b) place left → Makes (Does (Upgrade Third)) r zs
third_not_read b r zs place left is found =
    not_made (Does (Upgrade Third)) r (of_bundle b) zs is (λ out silent. stops_more (IsUnread zs) (IsUnupgraded Third zs) (of_bundle b) out (λ x h. inl h) (finds (Reads zs) b place left out found silent))

-- out of memory
pub not_upgraded : (target : Target) (e : EngineFault) (zs : List ℕ) (out : Output) → e ≡ Memory → WroteNothing out → Rewrites target (Err e) zs out
not_upgraded target e zs out is silent = subst (λ y. StopsBy (IsUnupgraded target zs) y out) (sym is) silent

-- there is none in version 3
no_third :
    (e : EngineFault) (zs : List ℕ) (c : Collected) (rs : List Receipt) (end : Left) (out : Output) → Reads zs (Ok ((c, rs), end)) → version_number c.version ≤ 2 → IsThirdFault c rs e →
    WroteNothing out → StopsBy (IsUnupgraded Third zs) e out
no_third (Script line) zs c rs end out read early fault silent = absurd fault
no_third (BadBundle field) zs c rs end out read early fault silent = (inr (record { journals = c; receipts = rs; end = end; read = read; early = early; refused = fault }), silent)
no_third (NotARun replica entry) zs c rs end out read early fault silent = (inr (record { journals = c; receipts = rs; end = end; read = read; early = early; refused = fault }), silent)
no_third Memory zs c rs end out read early fault silent = silent
no_third Read zs c rs end out read early fault silent = absurd fault
no_third Write zs c rs end out read early fault silent = absurd fault

pub third_refused :
    (e : EngineFault) (zs : List ℕ) (c : Collected) (rs : List Receipt) (end : Left) (out : Output) → Reads zs (Ok ((c, rs), end)) → (version_number c.version ≤ 2 → IsThirdFault c rs e) →
    (3 ≤ version_number c.version → e ≡ Memory) → WroteNothing out → Rewrites Third (Err e) zs out
third_refused e zs c rs end out read early late silent = ⊎_elim
    (λ (low : version_number c.version < 3). no_third e zs c rs end out read (omega arith) (early (omega arith)) silent)
    (λ (high : 3 ≤ version_number c.version). subst (λ y. StopsBy (IsUnupgraded Third zs) y out) (sym (late high)) silent)
    (cases_lt (version_number c.version) 3)

-- What was made is printed.

-- where the output fails, nothing more is promised
free : (asked : Asked) (zs : List ℕ) (out : Output) → Does asked (Err Write) zs out
free (Replay (Report form)) zs out = tt
free (Replay Bundle) zs out = tt
free (Run options) zs out = tt
free (Audit form) zs out = tt
free (Upgrade target) zs out = tt
free Version zs out = tt
free (Help text) zs out = tt

pub done_as :
    (asked other : Asked) (made : Result Made EngineFault) (r : Result Status EngineFault) (zs : List ℕ) (out : Output) → asked ≡ other → Makes (Does other) made zs → IsPut Write made r out → Does asked r zs out
done_as asked other made r zs out is makes put = subst (λ (a : Asked). Does a r zs out) (sym is) (put_to (Does other) Write made r zs out (free other zs out) makes put)

text_put : (text : List ℕ) (r : Result Status EngineFault) (out : Output) → IsTextPut Write text Done r out → Prints r text out
text_put text (Ok found) out put = (put.0, put.1)
text_put text (Err e) out put = subst (λ (x : EngineFault). Prints (Err x) text out) (sym put.0) tt

pub version_put : (asked : Asked) (r : Result Status EngineFault) (zs : List ℕ) (out : Output) → asked ≡ Version → IsTextPut Write version_line Done r out → Does asked r zs out
version_put asked r zs out is put = subst (λ (a : Asked). Does a r zs out) (sym is) (text_put version_line r out put)

-- help is asked for, with this text
abbrev pub IsHelpText : Asked → List ℕ → Type 0
IsHelpText (Replay emit) bytes = ⊥
IsHelpText (Run options) bytes = ⊥
IsHelpText (Audit form) bytes = ⊥
IsHelpText (Upgrade target) bytes = ⊥
IsHelpText Version bytes = ⊥
IsHelpText (Help text) bytes = bytes ≡ string_bytes text

pub help_put :
    (asked other : Asked) (bytes : List ℕ) (r : Result Status EngineFault) (zs : List ℕ) (out : Output) → asked ≡ other → IsHelpText other bytes → IsTextPut Write bytes Done r out → Does asked r zs out
help_put asked other bytes r zs out is text put = subst (λ (a : Asked). Does a r zs out) (sym is) (go other text)
  where
    go : (a : Asked) → IsHelpText a bytes → Does a r zs out
    go (Replay emit) h = absurd h
    go (Run options) h = absurd h
    go (Audit form) h = absurd h
    go (Upgrade target) h = absurd h
    go Version h = absurd h
    go (Help text) h = text_put (string_bytes text) r out (subst (λ (l : List ℕ). IsTextPut Write l Done r out) h put)

-- The devices, whatever was read.

pub ends :
    (outcome : Result Status EngineFault) (status : Status) (reader : Input) (out fault : Output) → IfOk outcome IsVerdict → IsReported outcome reader out → Concludes outcome status fault → Ends status reader out fault
ends (Ok Done) status reader out fault d t c = subst (λ s. Ends s reader out fault) (sym c.0) ((t.read, t.written), c.2)
ends (Ok AuditRefused) status reader out fault d t c = subst (λ s. Ends s reader out fault) (sym c.0) ((t.read, t.written), c.2)
ends (Ok Refused) status reader out fault d t c = absurd d
ends (Ok OutOfMemory) status reader out fault d t c = absurd d
ends (Ok Failed) status reader out fault d t c = absurd d
ends (Err (Script line)) status reader out fault d t c = subst (λ s. Ends s reader out fault) (sym c.0) (t.read, t.written)
ends (Err (BadBundle field)) status reader out fault d t c = subst (λ s. Ends s reader out fault) (sym c.0) (t.read, t.written)
ends (Err (NotARun replica entry)) status reader out fault d t c = subst (λ s. Ends s reader out fault) (sym c.0) (t.read, t.written)
ends (Err Memory) status reader out fault d t c = subst (λ s. Ends s reader out fault) (sym c.0) (t.read, t.written)
ends (Err Read) status reader out fault d t c = subst (λ s. Ends s reader out fault) (sym c.0) (inl ((t.read, t.written), c.1))
ends (Err Write) status reader out fault d t c = subst (λ s. Ends s reader out fault) (sym c.0) (inr ((t.read, t.written), c.1))

-- Nothing is done, and so neither the reader nor the output failed.

pub declines : (why : WordsFault) (status : Status) (out fault : Output) → ReportsWhy why status fault → WroteNothing out → Declines status out fault
declines (declined.Words text) status out fault reported silent = subst (λ s. Declines s out fault) (sym reported.0) (silent, (string_bytes text, reported.1))
declines declined.Memory status out fault reported silent = subst (λ s. Declines s out fault) (sym reported.0) (record { silent = silent; reported = reported.1 })

-- nothing is done of what is asked for, since memory was refused
out_of_memory : (want : Asked) (zs : List ℕ) (reader : Input) (out fault : Output) (words : List (List ℕ)) → AskFor want words → IsOutOfMemory out fault → Performs want OutOfMemory zs reader out fault
out_of_memory (Replay (Report form)) zs reader out fault words ask memory = memory
out_of_memory (Replay Bundle) zs reader out fault words ask memory = memory
out_of_memory (Run options) zs reader out fault words ask memory = memory
out_of_memory (Audit form) zs reader out fault words ask memory = memory
out_of_memory (Upgrade target) zs reader out fault words ask memory = memory
out_of_memory Version zs reader out fault words ask memory = memory
out_of_memory (Help text) zs reader out fault words ask memory = absurd ask

pub performs_none :
    (want : Asked) (why : WordsFault) (status : Status) (zs : List ℕ) (reader : Input) (out fault : Output) (words : List (List ℕ)) → AskFor want words → why ≡ declined.Memory →
    ReportsWhy why status fault → WroteNothing out → Performs want status zs reader out fault
performs_none want why status zs reader out fault words ask is reported silent =
    let why_reported : ReportsWhy declined.Memory status fault = subst (λ d. ReportsWhy d status fault) is reported in
    subst (λ s. Performs want s zs reader out fault) (sym why_reported.0) (out_of_memory want zs reader out fault words ask (record { silent = silent; reported = why_reported.1 }))

pub helps_none : (why : WordsFault) (status : Status) (out fault : Output) → why ≡ declined.Memory → ReportsWhy why status fault → WroteNothing out → IsHelped status out fault
helps_none why status out fault is reported silent =
    let why_reported : ReportsWhy declined.Memory status fault = subst (λ d. ReportsWhy d status fault) is reported in
    subst (λ s. IsHelped s out fault) (sym why_reported.0) (record { silent = silent; reported = why_reported.1 })

pub ends_declined :
    (why : WordsFault) (status : Status) (reader : Input) (out fault : Output) → ReportsWhy why status fault → reader.failed ≡ reader.had_failed → out.failed ≡ out.had_failed →
    Ends status reader out fault
ends_declined (declined.Words text) status reader out fault reported r o = subst (λ s. Ends s reader out fault) (sym reported.0) (r, o)
ends_declined declined.Memory status reader out fault reported r o = subst (λ s. Ends s reader out fault) (sym reported.0) (r, o)

-- Tasks.

pub works_as :
    (task other : Job) (status : Status) (zs : List ℕ) (reader : Input) (out fault : Output) → task ≡ other → Works other status zs reader out fault →
    Works task status zs reader out fault
works_as task other status zs reader out fault is works = subst (λ t. Works t status zs reader out fault) (sym is) works

pub ends_as :
    (task other : Job) (status : Status) (reader : Input) (out fault : Output) → task ≡ other → EndsBy other status reader out fault → EndsBy task status reader out fault
ends_as task other status reader out fault is ends = subst (λ t. EndsBy t status reader out fault) (sym is) ends

-- of the same names
pub files_as :
    (form : Form) {S : Type 0} (text : S → List ℕ) (slice files : List S) (status : Status) (out fault : Output) → slice ≡ files → ChainsFiles form (map text slice) status out fault →
    ChainsFiles form (map text files) status out fault
files_as form {S} text slice files status out fault same chains = subst (λ (l : List S). ChainsFiles form (map text l) status out fault) same chains

pub works_asked :
    (task : Job) (want : Asked) (status : Status) (zs : List ℕ) (reader : Input) (out fault : Output) → task ≡ Streams want → Works task status zs reader out fault →
    Performs want status zs reader out fault
works_asked task want status zs reader out fault is works = subst (λ t. Works t status zs reader out fault) is works

pub task_helped : (task : Job) (status : Status) (zs : List ℕ) (reader : Input) (out fault : Output) → IsHelpTask task → Works task status zs reader out fault → IsHelped status out fault
task_helped (Streams asked) status zs reader out fault help works = is_helped asked status zs reader out fault help works
task_helped (Chain form files) status zs reader out fault help works = absurd help

pub task_done :
    (task : Job) (words : List (List ℕ)) (status : Status) (zs : List ℕ) (reader : Input) (out fault : Output) → IsTask task words → Works task status zs reader out fault →
    tasks.Does words status zs reader out fault
task_done (Streams asked) words status zs reader out fault is works = inl (asked, is, works)
task_done (Chain form files) words status zs reader out fault is works = inr (form, map string_bytes files.items, is, works)

pub task_ends :
    (task : Job) (words : List (List ℕ)) (status : Status) (reader : Input) (out fault : Output) → IsTask task words → EndsBy task status reader out fault →
    EndsSo words status reader out fault
task_ends (Streams asked) words status reader out fault is ends = inl ends
task_ends (Chain form files) words status reader out fault is ends = inr (form, map string_bytes files.items, is, ends.0, ends.1)

-- on a fault output that stayed as it was before
pub concludes_from :
    {F : Type 0} (held : F → Option (List ℕ)) (has_failed : F → Bool) (outcome : Result Status EngineFault) (status : Status) (a b c : F) → b ≡ a → Concludes outcome status (became held has_failed b c) →
    Concludes outcome status (became held has_failed a c)
concludes_from held has_failed outcome status a b c same h = subst (λ w. Concludes outcome status (became held has_failed w c)) same h
