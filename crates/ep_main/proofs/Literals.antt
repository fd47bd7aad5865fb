-- What `clap` makes of the words that ask for something.
use Rattle.std.proofs.Common.{◌≡◌, ◌⊎◌, inl, inr, List, [], ◌∷◌, Option, Some, None, Result, Ok, Err, MatchResult, IfOk, true, codes, refl, sym, ap, ap₂, subst, ◌∙◌, option_map}
use Rattle.clap.specs.Matches.{found_of, subcommand_name_of}
use Rattle.clap.specs.Walk.{Row, Text, first_of, rows_of}
use Rattle.clap.specs.declared.parser.matches.ArgMatches.{ArgMatches}
use Rattle.clap.specs.declared.parser.matches.ArgMatches.TheViews.{out-ArgMatches, out-SubCommand}
use Rattle.clap.specs.declared.parser.matches.SubCommand.{SubCommand}
use Rattle.std.specs.Prelude.{Box}
use Rattle.std.specs.Box.{box_value}
use Rattle.clap.specs.Simple.{App, is_simple, subcommand_of, subcommand_rows, subcommand_rows_of}
use Rattle.clap.specs.declared.error.kind.ErrorKind.{ErrorKind}
use Rattle.clap.specs.declared.error.kind.ErrorKind.TheVariants.{DisplayHelp, DisplayVersion, OutOfMemory}
use Rattle.clap.specs.Faults.{fault_of, is_simple_and_free}
use Rattle.clap.specs.Kinds.{IsAmong}
use Rattle.clap.specs.Takes.{takes}
use Rattle.clap.proofs.OnLiterals.{clap_on_literals}
use Rattle.ep_main.specs.Options.{Options, plain}
use Rattle.ep_main.specs.Words.{AskFor, AskForHelp, Chooses, IsAsked, IsMet, IsShown, AuditWords, IsAuditIn, IsAuditTask, IsBundleAudit, IsChainAudit, IsChainFound, IsHelpTask, IsMetTask, IsShownTask, IsTask, MetReplay, MetRun, MetAudit, MetChain, MetUpgrade, Names, NamesForm, NamesHost, NamesTarget, RunWords, audit_words, emit_word, epaxos, host_word, met, met_audit, met_to, met_with, run_words}
use Rattle.ep_main.specs.declared.asked.Asked.{Asked}
use Rattle.ep_main.specs.declared.asked.Asked.TheVariants.{Replay, Run, Audit, Upgrade, Version, Help}
use Rattle.ep_main.specs.declared.asked.Emit.TheVariants.{Report, Bundle}
use Rattle.ep_main.specs.declared.form.Form.{Form}
use Rattle.ep_main.specs.declared.form.Form.TheVariants.{Lines, Json}
use Rattle.ep_main.specs.declared.asked.Emit.{Emit}
use Rattle.ep_main.specs.declared.host.Host.{Host}
use Rattle.ep_main.specs.declared.host.Host.TheVariants.{Lock, Ring}
use Rattle.ep_main.specs.declared.target.Target.{Target}
use Rattle.ep_main.specs.declared.target.Target.TheVariants.{Second, Third}
use Rattle.ep_main.specs.declared.job.Job.{Job}
use Rattle.ep_main.specs.declared.job.Job.TheVariants.{Streams, Chain}
use Rattle.ep_cli.specs.declared.words_fault.WordsFault.{WordsFault}
use Rattle.ep_cli.specs.declared.words_fault.WordsFault.TheVariants.{Memory}

pub simple : is_simple epaxos ≡ true
unfolding clap_on_literals
simple = refl

takes_replay : (name : Text) → takes epaxos (name ∷ codes "replay" ∷ []) ≡ true
unfolding clap_on_literals
takes_replay name = refl

takes_emit : (name : Text) → takes epaxos (name ∷ codes "replay" ∷ codes "--emit" ∷ codes "report" ∷ []) ≡ true
unfolding clap_on_literals
takes_emit name = refl

met_replay : (name : Text) → met (subcommand_of epaxos (name ∷ codes "replay" ∷ [])) ≡ Some (codes "replay", None)
unfolding clap_on_literals
met_replay name = refl

met_emit : (name : Text) → met (subcommand_of epaxos (name ∷ codes "replay" ∷ codes "--emit" ∷ codes "report" ∷ [])) ≡ Some (codes "replay", Some (codes "report"))
unfolding clap_on_literals
met_emit name = refl

takes_equals : (name : Text) → takes epaxos (name ∷ codes "replay" ∷ codes "--emit=report" ∷ []) ≡ true
unfolding clap_on_literals
takes_equals name = refl

met_equals : (name : Text) → met (subcommand_of epaxos (name ∷ codes "replay" ∷ codes "--emit=report" ∷ [])) ≡ Some (codes "replay", Some (codes "report"))
unfolding clap_on_literals
met_equals name = refl

takes_bundle : (name : Text) → takes epaxos (name ∷ codes "replay" ∷ codes "--emit" ∷ codes "bundle" ∷ []) ≡ true
unfolding clap_on_literals
takes_bundle name = refl

takes_json : (name : Text) → takes epaxos (name ∷ codes "replay" ∷ codes "--emit" ∷ codes "json" ∷ []) ≡ true
unfolding clap_on_literals
takes_json name = refl

takes_json_equals : (name : Text) → takes epaxos (name ∷ codes "replay" ∷ codes "--emit=json" ∷ []) ≡ true
unfolding clap_on_literals
takes_json_equals name = refl

met_json : (name : Text) → met (subcommand_of epaxos (name ∷ codes "replay" ∷ codes "--emit" ∷ codes "json" ∷ [])) ≡ Some (codes "replay", Some (codes "json"))
unfolding clap_on_literals
met_json name = refl

met_json_equals : (name : Text) → met (subcommand_of epaxos (name ∷ codes "replay" ∷ codes "--emit=json" ∷ [])) ≡ Some (codes "replay", Some (codes "json"))
unfolding clap_on_literals
met_json_equals name = refl

takes_audit_json : (name : Text) → takes epaxos (name ∷ codes "audit" ∷ codes "--emit" ∷ codes "json" ∷ []) ≡ true
unfolding clap_on_literals
takes_audit_json name = refl

takes_audit : (name : Text) → takes epaxos (name ∷ codes "audit" ∷ []) ≡ true
unfolding clap_on_literals
takes_audit name = refl

takes_bundle_equals : (name : Text) → takes epaxos (name ∷ codes "replay" ∷ codes "--emit=bundle" ∷ []) ≡ true
unfolding clap_on_literals
takes_bundle_equals name = refl

met_bundle_equals : (name : Text) → met (subcommand_of epaxos (name ∷ codes "replay" ∷ codes "--emit=bundle" ∷ [])) ≡ Some (codes "replay", Some (codes "bundle"))
unfolding clap_on_literals
met_bundle_equals name = refl

met_bundle : (name : Text) → met (subcommand_of epaxos (name ∷ codes "replay" ∷ codes "--emit" ∷ codes "bundle" ∷ [])) ≡ Some (codes "replay", Some (codes "bundle"))
unfolding clap_on_literals
met_bundle name = refl

-- the words after the options of `audit`, where at most `--emit` is given
abbrev words_of_audit : Option Text → AuditWords
words_of_audit emit = record { chain = Some (codes "false"); emit = emit; files = None }

met_bare : (name : Text) → met_audit (subcommand_of epaxos (name ∷ codes "audit" ∷ [])) ≡ Some (codes "audit", words_of_audit None)
unfolding clap_on_literals
met_bare name = refl

met_audit_json : (name : Text) → met_audit (subcommand_of epaxos (name ∷ codes "audit" ∷ codes "--emit" ∷ codes "json" ∷ [])) ≡ Some (codes "audit", words_of_audit (Some (codes "json")))
unfolding clap_on_literals
met_audit_json name = refl

no_chain : Some (codes "false") ≡ Some (codes "true") → ⊥
no_chain bad = let e : Some (codes "false") ≡ Some (codes "true") = bad in cc

takes_upgrade : (name : Text) → takes epaxos (name ∷ codes "upgrade" ∷ []) ≡ true
unfolding clap_on_literals
takes_upgrade name = refl

met_upgrade : (name : Text) → met_to (subcommand_of epaxos (name ∷ codes "upgrade" ∷ [])) ≡ Some (codes "upgrade", None)
unfolding clap_on_literals
met_upgrade name = refl

takes_second : (name : Text) → takes epaxos (name ∷ codes "upgrade" ∷ codes "--to" ∷ codes "2" ∷ []) ≡ true
unfolding clap_on_literals
takes_second name = refl

met_second : (name : Text) → met_to (subcommand_of epaxos (name ∷ codes "upgrade" ∷ codes "--to" ∷ codes "2" ∷ [])) ≡ Some (codes "upgrade", Some (codes "2"))
unfolding clap_on_literals
met_second name = refl

takes_third : (name : Text) → takes epaxos (name ∷ codes "upgrade" ∷ codes "--to" ∷ codes "3" ∷ []) ≡ true
unfolding clap_on_literals
takes_third name = refl

met_third : (name : Text) → met_to (subcommand_of epaxos (name ∷ codes "upgrade" ∷ codes "--to" ∷ codes "3" ∷ [])) ≡ Some (codes "upgrade", Some (codes "3"))
unfolding clap_on_literals
met_third name = refl

takes_run : (name : Text) → takes epaxos (name ∷ codes "run" ∷ []) ≡ true
unfolding clap_on_literals
takes_run name = refl

takes_host : (host : Host) (name : Text) → takes epaxos (name ∷ codes "run" ∷ codes "--host" ∷ host_word host ∷ []) ≡ true
unfolding clap_on_literals
takes_host Lock name = refl
takes_host Ring name = refl

takes_emitting : (emit : Emit) (name : Text) → takes epaxos (name ∷ codes "run" ∷ codes "--emit" ∷ emit_word emit ∷ []) ≡ true
unfolding clap_on_literals
takes_emitting (Report Lines) name = refl
takes_emitting (Report Json) name = refl
takes_emitting Bundle name = refl

takes_both :
    (host : Host) (emit : Emit) (name : Text) → takes epaxos (name ∷ codes "run" ∷ codes "--host" ∷ host_word host ∷ codes "--emit" ∷ emit_word emit ∷ []) ≡ true
unfolding clap_on_literals
takes_both Lock (Report Lines) name = refl
takes_both Lock (Report Json) name = refl
takes_both Lock Bundle name = refl
takes_both Ring (Report Lines) name = refl
takes_both Ring (Report Json) name = refl
takes_both Ring Bundle name = refl

-- the words after `--host` and `--emit`, and none after the others
abbrev words_with : Option Text → Option Text → RunWords
words_with host emit = record { host = host; capacity = None; turns = None; emit = emit }

met_run : (name : Text) → met_with (subcommand_of epaxos (name ∷ codes "run" ∷ [])) ≡ Some (codes "run", words_with None None)
unfolding clap_on_literals
met_run name = refl

met_host :
    (host : Host) (name : Text) → met_with (subcommand_of epaxos (name ∷ codes "run" ∷ codes "--host" ∷ host_word host ∷ [])) ≡ Some (codes "run", words_with (Some (host_word host)) None)
unfolding clap_on_literals
met_host Lock name = refl
met_host Ring name = refl

met_emitting :
    (emit : Emit) (name : Text) → met_with (subcommand_of epaxos (name ∷ codes "run" ∷ codes "--emit" ∷ emit_word emit ∷ [])) ≡ Some (codes "run", words_with None (Some (emit_word emit)))
unfolding clap_on_literals
met_emitting (Report Lines) name = refl
met_emitting (Report Json) name = refl
met_emitting Bundle name = refl

met_both :
    (host : Host) (emit : Emit) (name : Text) →
    met_with (subcommand_of epaxos (name ∷ codes "run" ∷ codes "--host" ∷ host_word host ∷ codes "--emit" ∷ emit_word emit ∷ []))
    ≡ Some (codes "run", words_with (Some (host_word host)) (Some (emit_word emit)))
unfolding clap_on_literals
met_both Lock (Report Lines) name = refl
met_both Lock (Report Json) name = refl
met_both Lock Bundle name = refl
met_both Ring (Report Lines) name = refl
met_both Ring (Report Json) name = refl
met_both Ring Bundle name = refl

host_named : (host : Host) → NamesHost (Some (host_word host)) host
host_named Lock = inr refl
host_named Ring = refl

emit_named : (emit : Emit) → Names (Some (emit_word emit)) emit
emit_named (Report Lines) = inr refl
emit_named (Report Json) = refl
emit_named Bundle = refl

run_met : (options o : Options) (words line : List Text) → options ≡ o → words ≡ line → MetRun o (subcommand_of epaxos line) → MetRun options (subcommand_of epaxos words)
run_met options o words line same is found =
    subst (λ p. MetRun p (subcommand_of epaxos words)) (sym same) (subst (λ (ws : List Text). MetRun o (subcommand_of epaxos ws)) (sym is) found)

-- what is asked for by words that `clap` matches
abbrev pub IsMatched : Asked → Type 0
IsMatched (Replay emit) = Unit {0}
IsMatched (Run options) = Unit {0}
IsMatched (Audit form) = Unit {0}
IsMatched (Upgrade target) = Unit {0}
IsMatched Version = ⊥
IsMatched (Help text) = ⊥

taken : (want : Asked) (words : List Text) → IsMatched want → AskFor want words → takes epaxos words ≡ true
taken (Replay (Report Lines)) words matched (name, inl is) = subst (λ (ws : List Text). takes epaxos ws ≡ true) (sym is) (takes_replay name)
taken (Replay (Report Lines)) words matched (name, inr (inl is)) = subst (λ (ws : List Text). takes epaxos ws ≡ true) (sym is) (takes_emit name)
taken (Replay (Report Lines)) words matched (name, inr (inr is)) = subst (λ (ws : List Text). takes epaxos ws ≡ true) (sym is) (takes_equals name)
taken (Replay (Report Json)) words matched (name, inl is) = subst (λ (ws : List Text). takes epaxos ws ≡ true) (sym is) (takes_json name)
taken (Replay (Report Json)) words matched (name, inr is) = subst (λ (ws : List Text). takes epaxos ws ≡ true) (sym is) (takes_json_equals name)
taken (Replay Bundle) words matched (name, inl is) = subst (λ (ws : List Text). takes epaxos ws ≡ true) (sym is) (takes_bundle name)
taken (Replay Bundle) words matched (name, inr is) = subst (λ (ws : List Text). takes epaxos ws ≡ true) (sym is) (takes_bundle_equals name)
taken (Run options) words matched (name, inl (same, is)) = subst (λ (ws : List Text). takes epaxos ws ≡ true) (sym is) (takes_run name)
taken (Run options) words matched (name, inr (inl (same, is))) = subst (λ (ws : List Text). takes epaxos ws ≡ true) (sym is) (takes_host options.host name)
taken (Run options) words matched (name, inr (inr (inl (same, is)))) = subst (λ (ws : List Text). takes epaxos ws ≡ true) (sym is) (takes_emitting options.emit name)
taken (Run options) words matched (name, inr (inr (inr (same, is)))) = subst (λ (ws : List Text). takes epaxos ws ≡ true) (sym is) (takes_both options.host options.emit name)
taken (Audit Lines) words matched (name, is) = subst (λ (ws : List Text). takes epaxos ws ≡ true) (sym is) (takes_audit name)
taken (Audit Json) words matched (name, is) = subst (λ (ws : List Text). takes epaxos ws ≡ true) (sym is) (takes_audit_json name)
taken (Upgrade Second) words matched (name, inl is) = subst (λ (ws : List Text). takes epaxos ws ≡ true) (sym is) (takes_upgrade name)
taken (Upgrade Second) words matched (name, inr is) = subst (λ (ws : List Text). takes epaxos ws ≡ true) (sym is) (takes_second name)
taken (Upgrade Third) words matched (name, is) = subst (λ (ws : List Text). takes epaxos ws ≡ true) (sym is) (takes_third name)
taken Version words matched ask = absurd matched
taken (Help text) words matched ask = absurd matched

is_met : (want : Asked) (words : List Text) → IsMatched want → AskFor want words → IsMet want (subcommand_of epaxos words)
is_met (Replay (Report Lines)) words matched (name, inl is) = subst (λ (ws : List Text). MetReplay (Report Lines) (subcommand_of epaxos ws)) (sym is) (None, met_replay name, inl refl)
is_met (Replay (Report Lines)) words matched (name, inr (inl is)) = subst (λ (ws : List Text). MetReplay (Report Lines) (subcommand_of epaxos ws)) (sym is) (Some (codes "report"), met_emit name, inr refl)
is_met (Replay (Report Lines)) words matched (name, inr (inr is)) = subst (λ (ws : List Text). MetReplay (Report Lines) (subcommand_of epaxos ws)) (sym is) (Some (codes "report"), met_equals name, inr refl)
is_met (Replay (Report Json)) words matched (name, inl is) = subst (λ (ws : List Text). MetReplay (Report Json) (subcommand_of epaxos ws)) (sym is) (Some (codes "json"), met_json name, refl)
is_met (Replay (Report Json)) words matched (name, inr is) = subst (λ (ws : List Text). MetReplay (Report Json) (subcommand_of epaxos ws)) (sym is) (Some (codes "json"), met_json_equals name, refl)
is_met (Replay Bundle) words matched (name, inl is) = subst (λ (ws : List Text). MetReplay Bundle (subcommand_of epaxos ws)) (sym is) (Some (codes "bundle"), met_bundle name, refl)
is_met (Replay Bundle) words matched (name, inr is) = subst (λ (ws : List Text). MetReplay Bundle (subcommand_of epaxos ws)) (sym is) (Some (codes "bundle"), met_bundle_equals name, refl)
is_met (Run options) words matched (name, inl (same, is)) =
    run_met options (plain Lock (Report Lines)) words (name ∷ codes "run" ∷ []) same is
    (words_with None None, met_run name, record { host = inl refl; capacity = refl; turns = refl; emit = inl refl })
is_met (Run options) words matched (name, inr (inl (same, is))) =
    run_met options (plain options.host (Report Lines)) words (name ∷ codes "run" ∷ codes "--host" ∷ host_word options.host ∷ []) same is
    (words_with (Some (host_word options.host)) None, met_host options.host name, record { host = host_named options.host; capacity = refl; turns = refl; emit = inl refl })
is_met (Run options) words matched (name, inr (inr (inl (same, is)))) =
    run_met options (plain Lock options.emit) words (name ∷ codes "run" ∷ codes "--emit" ∷ emit_word options.emit ∷ []) same is
    (words_with None (Some (emit_word options.emit)), met_emitting options.emit name, record { host = inl refl; capacity = refl; turns = refl; emit = emit_named options.emit })
is_met (Run options) words matched (name, inr (inr (inr (same, is)))) =
    run_met options (plain options.host options.emit) words (name ∷ codes "run" ∷ codes "--host" ∷ host_word options.host ∷ codes "--emit" ∷ emit_word options.emit ∷ []) same is (
      words_with (Some (host_word options.host)) (Some (emit_word options.emit)),
      met_both options.host options.emit name,
      record { host = host_named options.host; capacity = refl; turns = refl; emit = emit_named options.emit },
    )
is_met (Audit Lines) words matched (name, is) =
    subst (λ (ws : List Text). MetAudit Lines (subcommand_of epaxos ws)) (sym is) (words_of_audit None, met_bare name, record { chain = no_chain; files = refl }, inl refl)
is_met (Audit Json) words matched (name, is) =
    subst (λ (ws : List Text). MetAudit Json (subcommand_of epaxos ws)) (sym is) (words_of_audit (Some (codes "json")), met_audit_json name, record { chain = no_chain; files = refl }, refl)
is_met (Upgrade Second) words matched (name, inl is) = subst (λ (ws : List Text). MetUpgrade Second (subcommand_of epaxos ws)) (sym is) (None, met_upgrade name, inl refl)
is_met (Upgrade Second) words matched (name, inr is) = subst (λ (ws : List Text). MetUpgrade Second (subcommand_of epaxos ws)) (sym is) (Some (codes "2"), met_second name, inr refl)
is_met (Upgrade Third) words matched (name, is) = subst (λ (ws : List Text). MetUpgrade Third (subcommand_of epaxos ws)) (sym is) (Some (codes "3"), met_third name, refl)
is_met Version words matched ask = absurd matched
is_met (Help text) words matched ask = absurd matched

found_met :
    {X : Type 0} (want : Asked) (app : App) (words : List Text) (found : Option (Text × List Row)) → IsMatched want → app ≡ epaxos →
    (is_simple app ≡ true → X × (found ≡ subcommand_of app words)) → AskFor want words → IsMet want found
found_met {X} want app words found matched is has ask =
    let same : found ≡ subcommand_of epaxos words = (subst (λ a. is_simple a ≡ true → X × (found ≡ subcommand_of a words)) is has simple).1 in
    subst (IsMet want) (sym same) (is_met want words matched ask)

free : is_simple_and_free epaxos ≡ true
unfolding clap_on_literals
free = refl

-- what is met is what is asked for
met_is_asked : (asked : Asked) (words : List Text) → IsMet asked (subcommand_of epaxos words) → IsAsked asked words
met_is_asked (Replay emit) words met = met
met_is_asked (Run options) words met = met
met_is_asked (Audit form) words met = met
met_is_asked (Upgrade target) words met = met
met_is_asked Version words met = absurd met
met_is_asked (Help text) words met = absurd met

task_met : (task : Job) (words : List Text) → IsMetTask task (subcommand_of epaxos words) → IsTask task words
task_met (Streams asked) words met = met_is_asked asked words met
task_met (Chain form files) words met = met

pub task_of_met :
    {X : Type 0} (app : App) (words : List Text) (found : Option (Text × List Row)) (r : Result Job WordsFault) → app ≡ epaxos →
    (is_simple app ≡ true → X × (found ≡ subcommand_of app words)) → IfOk r (λ t. IsMetTask t found) → IfOk r (λ t. IsTask t words)
task_of_met {X} app words found (Ok task) is has met =
    let same : found ≡ subcommand_of epaxos words = (subst (λ a. is_simple a ≡ true → X × (found ≡ subcommand_of a words)) is has simple).1 in
    task_met task words (subst (IsMetTask task) same met)
task_of_met {X} app words found (Err e) is has met = tt

help_is_no_memory : DisplayHelp ≡ OutOfMemory → ⊥
help_is_no_memory bad = cc

version_is_no_memory : DisplayVersion ≡ OutOfMemory → ⊥
version_is_no_memory bad = cc

among :
    (words : List Text) (kind wanted : ErrorKind) → (wanted ≡ OutOfMemory → ⊥) → kind ≡ wanted → (kind ≡ OutOfMemory) ⊎ IsAmong kind (fault_of epaxos words) →
    IsAmong wanted (fault_of epaxos words)
among words kind wanted other is (inl memory) = absurd (other (sym is ∙ memory))
among words kind wanted other is (inr known) = subst (λ k. IsAmong k (fault_of epaxos words)) is known

shown_is_asked :
    (asked : Asked) (words : List Text) (kind : ErrorKind) → (kind ≡ OutOfMemory) ⊎ IsAmong kind (fault_of epaxos words) → IsShown asked kind → IsAsked asked words
shown_is_asked (Replay emit) words kind known shown = absurd shown
shown_is_asked (Run options) words kind known shown = absurd shown
shown_is_asked (Audit form) words kind known shown = absurd shown
shown_is_asked (Upgrade target) words kind known shown = absurd shown
shown_is_asked Version words kind known shown = among words kind DisplayVersion version_is_no_memory shown known
shown_is_asked (Help text) words kind known shown = among words kind DisplayHelp help_is_no_memory shown known

pub task_of_shown :
    (app : App) (words : List Text) (kind : ErrorKind) (r : Result Job WordsFault) → app ≡ epaxos →
    (is_simple_and_free app ≡ true → (kind ≡ OutOfMemory) ⊎ IsAmong kind (fault_of app words)) → IfOk r (λ t. IsShownTask t kind) → IfOk r (λ t. IsTask t words)
task_of_shown app words kind (Ok (Streams asked)) is has shown =
    shown_is_asked asked words kind (subst (λ a. is_simple_and_free a ≡ true → (kind ≡ OutOfMemory) ⊎ IsAmong kind (fault_of a words)) is has free) shown
task_of_shown app words kind (Ok (Chain form files)) is has shown = absurd shown
task_of_shown app words kind (Err e) is has shown = tt

help_alone : (name : Text) → fault_of epaxos (name ∷ codes "--help" ∷ []) ≡ DisplayHelp ∷ []
unfolding clap_on_literals
help_alone name = refl

short_help : (name : Text) → fault_of epaxos (name ∷ codes "-h" ∷ []) ≡ DisplayHelp ∷ []
unfolding clap_on_literals
short_help name = refl

help_of_replay : (name : Text) → fault_of epaxos (name ∷ codes "replay" ∷ codes "--help" ∷ []) ≡ DisplayHelp ∷ []
unfolding clap_on_literals
help_of_replay name = refl

help_of_audit : (name : Text) → fault_of epaxos (name ∷ codes "audit" ∷ codes "--help" ∷ []) ≡ DisplayHelp ∷ []
unfolding clap_on_literals
help_of_audit name = refl

short_help_of_replay : (name : Text) → fault_of epaxos (name ∷ codes "replay" ∷ codes "-h" ∷ []) ≡ DisplayHelp ∷ []
unfolding clap_on_literals
short_help_of_replay name = refl

short_help_of_audit : (name : Text) → fault_of epaxos (name ∷ codes "audit" ∷ codes "-h" ∷ []) ≡ DisplayHelp ∷ []
unfolding clap_on_literals
short_help_of_audit name = refl

help_of_upgrade : (name : Text) → fault_of epaxos (name ∷ codes "upgrade" ∷ codes "--help" ∷ []) ≡ DisplayHelp ∷ []
unfolding clap_on_literals
help_of_upgrade name = refl

short_help_of_upgrade : (name : Text) → fault_of epaxos (name ∷ codes "upgrade" ∷ codes "-h" ∷ []) ≡ DisplayHelp ∷ []
unfolding clap_on_literals
short_help_of_upgrade name = refl

help_of_run : (name : Text) → fault_of epaxos (name ∷ codes "run" ∷ codes "--help" ∷ []) ≡ DisplayHelp ∷ []
unfolding clap_on_literals
help_of_run name = refl

short_help_of_run : (name : Text) → fault_of epaxos (name ∷ codes "run" ∷ codes "-h" ∷ []) ≡ DisplayHelp ∷ []
unfolding clap_on_literals
short_help_of_run name = refl

help_known : (words : List Text) → AskForHelp words → fault_of epaxos words ≡ DisplayHelp ∷ []
help_known words (name, inl is) = subst (λ (ws : List Text). fault_of epaxos ws ≡ DisplayHelp ∷ []) (sym is) (help_alone name)
help_known words (name, inr (inl is)) = subst (λ (ws : List Text). fault_of epaxos ws ≡ DisplayHelp ∷ []) (sym is) (short_help name)
help_known words (name, inr (inr (inl is))) = subst (λ (ws : List Text). fault_of epaxos ws ≡ DisplayHelp ∷ []) (sym is) (help_of_replay name)
help_known words (name, inr (inr (inr (inl is)))) = subst (λ (ws : List Text). fault_of epaxos ws ≡ DisplayHelp ∷ []) (sym is) (short_help_of_replay name)
help_known words (name, inr (inr (inr (inr (inl is))))) = subst (λ (ws : List Text). fault_of epaxos ws ≡ DisplayHelp ∷ []) (sym is) (help_of_audit name)
help_known words (name, inr (inr (inr (inr (inr (inl is)))))) = subst (λ (ws : List Text). fault_of epaxos ws ≡ DisplayHelp ∷ []) (sym is) (short_help_of_audit name)
help_known words (name, inr (inr (inr (inr (inr (inr (inl is))))))) = subst (λ (ws : List Text). fault_of epaxos ws ≡ DisplayHelp ∷ []) (sym is) (help_of_upgrade name)
help_known words (name, inr (inr (inr (inr (inr (inr (inr (inl is)))))))) = subst (λ (ws : List Text). fault_of epaxos ws ≡ DisplayHelp ∷ []) (sym is) (short_help_of_upgrade name)
help_known words (name, inr (inr (inr (inr (inr (inr (inr (inr (inl is))))))))) = subst (λ (ws : List Text). fault_of epaxos ws ≡ DisplayHelp ∷ []) (sym is) (help_of_run name)
help_known words (name, inr (inr (inr (inr (inr (inr (inr (inr (inr is))))))))) = subst (λ (ws : List Text). fault_of epaxos ws ≡ DisplayHelp ∷ []) (sym is) (short_help_of_run name)

version_alone : (name : Text) → fault_of epaxos (name ∷ codes "--version" ∷ []) ≡ DisplayVersion ∷ []
unfolding clap_on_literals
version_alone name = refl

short_version : (name : Text) → fault_of epaxos (name ∷ codes "-V" ∷ []) ≡ DisplayVersion ∷ []
unfolding clap_on_literals
short_version name = refl

version_known : (words : List Text) → AskFor Version words → fault_of epaxos words ≡ DisplayVersion ∷ []
version_known words (name, inl is) = subst (λ (ws : List Text). fault_of epaxos ws ≡ DisplayVersion ∷ []) (sym is) (version_alone name)
version_known words (name, inr is) = subst (λ (ws : List Text). fault_of epaxos ws ≡ DisplayVersion ∷ []) (sym is) (short_version name)

-- where help is asked for, nothing is met
pub help_is_no_match : {X : Type 0} (app : App) (words : List Text) → app ≡ epaxos → (is_simple_and_free app ≡ true → fault_of app words ≡ []) → AskForHelp words → X
help_is_no_match {X} app words is none ask =
    let empty : fault_of epaxos words ≡ [] = subst (λ a. is_simple_and_free a ≡ true → fault_of a words ≡ []) is none free in
    let bad : DisplayHelp ∷ [] ≡ [] = sym (help_known words ask) ∙ empty in
    cc

helps_by :
    (kind : ErrorKind) (kinds : List ErrorKind) (r : Result Job WordsFault) → kinds ≡ DisplayHelp ∷ [] → (kind ≡ OutOfMemory) ⊎ IsAmong kind kinds → (kind ≡ OutOfMemory → r ≡ Err Memory) →
    (kind ≡ DisplayHelp → MatchResult r IsHelpTask (λ d. d ≡ Memory)) → MatchResult r IsHelpTask (λ d. d ≡ Memory)
helps_by kind kinds r is (inl none) memory help = subst (λ r. MatchResult r IsHelpTask (λ d. d ≡ Memory)) (sym (memory none)) refl
helps_by kind kinds r is (inr known) memory help =
    let among : (kind ≡ DisplayHelp) ⊎ ⊥ = subst (λ ks. IsAmong kind ks) is known in
    help (elim among [ inl h ↦ h | inr h ↦ absurd h ])

pub help_is_met :
    (app : App) (words : List Text) (kind : ErrorKind) (r : Result Job WordsFault) → app ≡ epaxos →
    (is_simple_and_free app ≡ true → (kind ≡ OutOfMemory) ⊎ IsAmong kind (fault_of app words)) → (kind ≡ OutOfMemory → r ≡ Err Memory) →
    (kind ≡ DisplayHelp → MatchResult r IsHelpTask (λ d. d ≡ Memory)) → AskForHelp words → MatchResult r IsHelpTask (λ d. d ≡ Memory)
help_is_met app words kind r is has memory help ask =
    helps_by kind (fault_of epaxos words) r (help_known words ask)
    (subst (λ a. is_simple_and_free a ≡ true → (kind ≡ OutOfMemory) ⊎ IsAmong kind (fault_of a words)) is has free) memory help

asks : (want : Asked) (r : Result Job WordsFault) → r ≡ Ok (Streams want) → MatchResult r (λ t. t ≡ Streams want) (λ d. d ≡ Memory)
asks want r is = subst (λ r. MatchResult r (λ t. t ≡ Streams want) (λ d. d ≡ Memory)) (sym is) refl

has_no_memory : (want : Asked) (r : Result Job WordsFault) → r ≡ Err Memory → MatchResult r (λ t. t ≡ Streams want) (λ d. d ≡ Memory)
has_no_memory want r is = subst (λ r. MatchResult r (λ t. t ≡ Streams want) (λ d. d ≡ Memory)) (sym is) refl

answers :
    (want : Asked) (r : Result Job WordsFault) (found : Option (Text × List Row)) → ((emit : Emit) → MetReplay emit found → r ≡ Ok (Streams (Replay emit))) →
    ((options : Options) → MetRun options found → r ≡ Ok (Streams (Run options))) → ((form : Form) → MetAudit form found → r ≡ Ok (Streams (Audit form))) → ((target : Target) → MetUpgrade target found → r ≡ Ok (Streams (Upgrade target))) → IsMet want found →
    MatchResult r (λ t. t ≡ Streams want) (λ d. d ≡ Memory)
answers (Replay emit) r found replay run audit upgrade is = asks (Replay emit) r (replay emit is)
answers (Run options) r found replay run audit upgrade is = asks (Run options) r (run options is)
answers (Audit form) r found replay run audit upgrade is = asks (Audit form) r (audit form is)
answers (Upgrade target) r found replay run audit upgrade is = asks (Upgrade target) r (upgrade target is)
answers Version r found replay run audit upgrade is = absurd is
answers (Help text) r found replay run audit upgrade is = absurd is

-- the answer where `clap` finds a match
pub asked_in_match :
    {X : Type 0} (want : Asked) (app : App) (words : List Text) (found : Option (Text × List Row)) (r : Result Job WordsFault) → app ≡ epaxos →
    (is_simple app ≡ true → X × (found ≡ subcommand_of app words)) → (is_simple_and_free app ≡ true → fault_of app words ≡ []) →
    ((emit : Emit) → MetReplay emit found → r ≡ Ok (Streams (Replay emit))) → ((options : Options) → MetRun options found → r ≡ Ok (Streams (Run options))) → ((form : Form) → MetAudit form found → r ≡ Ok (Streams (Audit form))) →
    ((target : Target) → MetUpgrade target found → r ≡ Ok (Streams (Upgrade target))) → AskFor want words → MatchResult r (λ t. t ≡ Streams want) (λ d. d ≡ Memory)
asked_in_match (Replay emit) app words found r is has none replay run audit upgrade ask =
    answers (Replay emit) r found replay run audit upgrade (found_met (Replay emit) app words found tt is has ask)
asked_in_match (Run options) app words found r is has none replay run audit upgrade ask =
    answers (Run options) r found replay run audit upgrade (found_met (Run options) app words found tt is has ask)
asked_in_match (Audit form) app words found r is has none replay run audit upgrade ask =
    answers (Audit form) r found replay run audit upgrade (found_met (Audit form) app words found tt is has ask)
asked_in_match (Upgrade target) app words found r is has none replay run audit upgrade ask =
    answers (Upgrade target) r found replay run audit upgrade (found_met (Upgrade target) app words found tt is has ask)
asked_in_match Version app words found r is has none replay run audit upgrade ask =
    let empty : fault_of epaxos words ≡ [] = subst (λ a. is_simple_and_free a ≡ true → fault_of a words ≡ []) is none free in
    let bad : DisplayVersion ∷ [] ≡ [] = sym (version_known words ask) ∙ empty in
    cc
asked_in_match (Help text) app words found r is has none replay run audit upgrade ask = absurd ask

no_match :
    (want : Asked) (app : App) (words : List Text) (kind : ErrorKind) (r : Result Job WordsFault) → IsMatched want → app ≡ epaxos → (takes app words ≡ true → kind ≡ OutOfMemory) →
    (kind ≡ OutOfMemory → r ≡ Err Memory) → AskFor want words → MatchResult r (λ t. t ≡ Streams want) (λ d. d ≡ Memory)
no_match want app words kind r matched is passes memory ask =
    has_no_memory want r (memory (passes (subst (λ a. takes a words ≡ true) (sym is) (taken want words matched ask))))

versions_by :
    (kind : ErrorKind) (kinds : List ErrorKind) (r : Result Job WordsFault) → kinds ≡ DisplayVersion ∷ [] → (kind ≡ OutOfMemory) ⊎ IsAmong kind kinds → (kind ≡ OutOfMemory → r ≡ Err Memory) →
    (kind ≡ DisplayVersion → r ≡ Ok (Streams Version)) → MatchResult r (λ t. t ≡ Streams Version) (λ d. d ≡ Memory)
versions_by kind kinds r is (inl none) memory version = has_no_memory Version r (memory none)
versions_by kind kinds r is (inr known) memory version =
    let among : (kind ≡ DisplayVersion) ⊎ ⊥ = subst (λ ks. IsAmong kind ks) is known in
    asks Version r (version (elim among [ inl h ↦ h | inr h ↦ absurd h ]))

-- the answer where it finds none
pub asked_in_place :
    (want : Asked) (app : App) (words : List Text) (kind : ErrorKind) (r : Result Job WordsFault) → app ≡ epaxos → (takes app words ≡ true → kind ≡ OutOfMemory) →
    (is_simple_and_free app ≡ true → (kind ≡ OutOfMemory) ⊎ IsAmong kind (fault_of app words)) → (kind ≡ OutOfMemory → r ≡ Err Memory) →
    (kind ≡ DisplayVersion → r ≡ Ok (Streams Version)) → AskFor want words → MatchResult r (λ t. t ≡ Streams want) (λ d. d ≡ Memory)
asked_in_place (Replay emit) app words kind r is passes has memory version ask = no_match (Replay emit) app words kind r tt is passes memory ask
asked_in_place (Run options) app words kind r is passes has memory version ask = no_match (Run options) app words kind r tt is passes memory ask
asked_in_place (Audit form) app words kind r is passes has memory version ask = no_match (Audit form) app words kind r tt is passes memory ask
asked_in_place (Upgrade target) app words kind r is passes has memory version ask = no_match (Upgrade target) app words kind r tt is passes memory ask
asked_in_place Version app words kind r is passes has memory version ask =
    versions_by kind (fault_of epaxos words) r (version_known words ask)
    (subst (λ a. is_simple_and_free a ≡ true → (kind ≡ OutOfMemory) ⊎ IsAmong kind (fault_of a words)) is has free) memory version
asked_in_place (Help text) app words kind r is passes has memory version ask = absurd ask

pub is_report : (what : Text) (o : Option Text) → Some what ≡ o → NamesForm o Lines → what ≡ codes "report"
is_report what o is (inl none) = let e : Some what ≡ None = is ∙ none in cc
is_report what o is (inr some) = let e : Some what ≡ Some (codes "report") = is ∙ some in cc

pub form_as :
    (form : Form) (what : Text) (o : Option Text) (r : Result Form WordsFault) → Some what ≡ o → (what ≡ codes "report" → r ≡ Ok Lines) → (what ≡ codes "json" → r ≡ Ok Json) →
    NamesForm o form → r ≡ Ok form
form_as Lines what o r is lines json names = lines (is_report what o is names)
form_as Json what o r is lines json names = json (let e : Some what ≡ Some (codes "json") = is ∙ names in cc)

none_forms : (form : Form) (o : Option Text) → None ≡ o → NamesForm o form → Lines ≡ form
none_forms Lines o is names = refl
none_forms Json o is names = let bad : None ≡ Some (codes "json") = is ∙ names in cc

pub no_form : (form : Form) (o : Option Text) (r : Result Form WordsFault) → r ≡ Ok Lines → None ≡ o → NamesForm o form → r ≡ Ok form
no_form form o r lines is names = subst (λ f. r ≡ Ok f) (none_forms form o is names) lines

pub named_as :
    (emit : Emit) (what : Text) (o : Option Text) (r : Result Emit WordsFault) → Some what ≡ o → (what ≡ codes "report" → r ≡ Ok (Report Lines)) → (what ≡ codes "json" → r ≡ Ok (Report Json)) →
    (what ≡ codes "bundle" → r ≡ Ok Bundle) → Names o emit → r ≡ Ok emit
named_as (Report Lines) what o r is report json bundle names = report (is_report what o is names)
named_as (Report Json) what o r is report json bundle names = json (let e : Some what ≡ Some (codes "json") = is ∙ names in cc)
named_as Bundle what o r is report json bundle names = bundle (let e : Some what ≡ Some (codes "bundle") = is ∙ names in cc)

none_named : (emit : Emit) (o : Option Text) → None ≡ o → Names o emit → Report Lines ≡ emit
none_named (Report form) o is names = ap (λ (f : Form). Report f) (none_forms form o is names)
none_named Bundle o is names = let bad : None ≡ Some (codes "bundle") = is ∙ names in cc

pub not_named : (emit : Emit) (o : Option Text) (r : Result Emit WordsFault) → r ≡ Ok (Report Lines) → None ≡ o → Names o emit → r ≡ Ok emit
not_named emit o r reports is names = subst (λ e. r ≡ Ok e) (none_named emit o is names) reports

module _ {Z : Type 0} where
  met_in :
      (o : Option (Box SubCommand Z)) (name : Text) (rows : List Row) → option_map (λ b. (out-SubCommand (box_value b)).name.now) o ≡ Some name →
      option_map (λ p. p.1) (subcommand_rows o) ≡ Some rows → met (subcommand_rows o) ≡ Some (name, first_of (codes "emit") rows)
  met_in None name rows named has = let bad : None ≡ Some name = named in cc
  met_in (Some b) name rows named has =
      let same : (out-SubCommand (box_value b)).name.now ≡ name = (let e : Some (out-SubCommand (box_value b)).name.now ≡ Some name = named in cc) in
      let same_rows : rows_of (found_of (out-SubCommand (box_value b)).matches) ≡ rows =
      (let e : Some (rows_of (found_of (out-SubCommand (box_value b)).matches)) ≡ Some rows = has in cc) in
      ap₂ (λ n r. Some (n, first_of (codes "emit") r)) same same_rows

pub met_by :
    (m : ArgMatches) (name : Text) (rows : List Row) → subcommand_name_of m ≡ Some name → option_map (λ p. p.1) (subcommand_rows_of m) ≡ Some rows →
    met (subcommand_rows_of m) ≡ Some (name, first_of (codes "emit") rows)
met_by m name rows named has = met_in (out-ArgMatches m).subcommand name rows named has

second_of : (a b : Text) (x y : Option Text) → ◌≡◌ {A = Option (Text × Option Text)} (Some (a, x)) (Some (b, y)) → x ≡ y
second_of a b x y same =
    let e : Some x ≡ Some y = ap (option_map (λ (p : Text × Option Text). p.1)) same in cc

pub names_met :
    (m : ArgMatches) (name : Text) (rows : List Row) (emit : Emit) → subcommand_name_of m ≡ Some name → option_map (λ p. p.1) (subcommand_rows_of m) ≡ Some rows →
    MetReplay emit (subcommand_rows_of m) → Names (first_of (codes "emit") rows) emit
names_met m name rows emit named has (what, found, names) =
    let same : first_of (codes "emit") rows ≡ what = second_of name (codes "replay") (first_of (codes "emit") rows) what (sym (met_by m name rows named has) ∙ found) in
    subst (λ o. Names o emit) (sym same) names

module _ {Z : Type 0} where
  name_in : (o : Option (Box SubCommand Z)) → option_map (λ p. p.0) (subcommand_rows o) ≡ option_map (λ b. (out-SubCommand (box_value b)).name.now) o
  name_in None = refl
  name_in (Some b) = refl

-- the name of the subcommand that was met
name_by : (m : ArgMatches) → option_map (λ p. p.0) (subcommand_rows_of m) ≡ subcommand_name_of m
name_by m = name_in (out-ArgMatches m).subcommand

-- what the subcommand's options say, by its name and its rows
module _ {W : Type 0} (f : List Row → W) where
  abbrev pub said : Option (Text × List Row) → Option (Text × W)
  said = option_map (λ (p : Text × List Row). (p.0, f p.1))

  said_in :
      {Z : Type 0} (o : Option (Box SubCommand Z)) (name : Text) (rows : List Row) → option_map (λ b. (out-SubCommand (box_value b)).name.now) o ≡ Some name →
      option_map (λ p. p.1) (subcommand_rows o) ≡ Some rows → said (subcommand_rows o) ≡ Some (name, f rows)
  said_in {Z} None name rows named has = let bad : None ≡ Some name = named in cc
  said_in {Z} (Some b) name rows named has =
      let same : (out-SubCommand (box_value b)).name.now ≡ name = (let e : Some (out-SubCommand (box_value b)).name.now ≡ Some name = named in cc) in
      let same_rows : rows_of (found_of (out-SubCommand (box_value b)).matches) ≡ rows =
      (let e : Some (rows_of (found_of (out-SubCommand (box_value b)).matches)) ≡ Some rows = has in cc) in
      ap₂ (λ (n : Text) (r : List Row). Some (n, f r)) same same_rows

  pub said_by :
      (m : ArgMatches) (name : Text) (rows : List Row) → subcommand_name_of m ≡ Some name → option_map (λ p. p.1) (subcommand_rows_of m) ≡ Some rows →
      said (subcommand_rows_of m) ≡ Some (name, f rows)
  said_by m name rows named has = said_in (out-ArgMatches m).subcommand name rows named has

  said_name : (found : Option (Text × List Row)) → option_map (λ (p : Text × W). p.0) (said found) ≡ option_map (λ p. p.0) found
  said_name None = refl
  said_name (Some p) = refl

  pub said_named : (m : ArgMatches) (name : Text) (w : W) → said (subcommand_rows_of m) ≡ Some (name, w) → subcommand_name_of m ≡ Some name
  said_named m name w found = sym (name_by m) ∙ sym (said_name (subcommand_rows_of m)) ∙ ap (option_map (λ (p : Text × W). p.0)) found

  said_as : (a b : Text) (x y : W) → ◌≡◌ {A = Option (Text × W)} (Some (a, x)) (Some (b, y)) → x ≡ y
  said_as a b x y same = let e : Some x ≡ Some y = ap (option_map (λ (p : Text × W). p.1)) same in cc

  pub said_is :
      (m : ArgMatches) (name other : Text) (rows : List Row) (w : W) → subcommand_name_of m ≡ Some name → option_map (λ p. p.1) (subcommand_rows_of m) ≡ Some rows →
      said (subcommand_rows_of m) ≡ Some (other, w) → f rows ≡ w
  said_is m name other rows w named has found = said_as name other (f rows) w (sym (said_by m name rows named has) ∙ found)

abbrev to_word : List Row → Option Text
to_word rows = first_of (codes "to") rows

pub audit_named : (m : ArgMatches) (form : Form) → MetAudit form (subcommand_rows_of m) → subcommand_name_of m ≡ Some (codes "audit")
audit_named m form (words, found, is, names) = said_named audit_words m (codes "audit") words found

pub chain_named : (m : ArgMatches) (form : Form) (names : List Text) → MetChain form names (subcommand_rows_of m) → subcommand_name_of m ≡ Some (codes "audit")
chain_named m form names (words, found, is, reported) = said_named audit_words m (codes "audit") words found

pub upgrade_named : (m : ArgMatches) (target : Target) → MetUpgrade target (subcommand_rows_of m) → subcommand_name_of m ≡ Some (codes "upgrade")
upgrade_named m target (what, found, names) = said_named to_word m (codes "upgrade") what found

pub replay_named : (m : ArgMatches) (emit : Emit) → MetReplay emit (subcommand_rows_of m) → subcommand_name_of m ≡ Some (codes "replay")
replay_named m emit (what, found, names) = said_named (first_of (codes "emit")) m (codes "replay") what found

-- the words after the options of `audit`
pub bundle_met :
    (m : ArgMatches) (form : Form) (rows : List Row) → subcommand_name_of m ≡ Some (codes "audit") → option_map (λ p. p.1) (subcommand_rows_of m) ≡ Some rows →
    MetAudit form (subcommand_rows_of m) → IsBundleAudit (audit_words rows) × NamesForm (first_of (codes "emit") rows) form
bundle_met m form rows named has (words, found, is, names) =
    subst (λ (w : AuditWords). IsBundleAudit w × NamesForm w.emit form) (sym (said_is audit_words m (codes "audit") (codes "audit") rows words named has found)) (is, names)

pub chain_met :
    (m : ArgMatches) (form : Form) (rows : List Row) (names : List Text) → subcommand_name_of m ≡ Some (codes "audit") → option_map (λ p. p.1) (subcommand_rows_of m) ≡ Some rows →
    MetChain form names (subcommand_rows_of m) → IsChainAudit names (audit_words rows) × NamesForm (first_of (codes "emit") rows) form
chain_met m form rows names named has (words, found, is, reported) =
    subst (λ (w : AuditWords). IsChainAudit names w × NamesForm w.emit form) (sym (said_is audit_words m (codes "audit") (codes "audit") rows words named has found)) (is, reported)

pub met_audit_by :
    (m : ArgMatches) (rows : List Row) → subcommand_name_of m ≡ Some (codes "audit") → option_map (λ p. p.1) (subcommand_rows_of m) ≡ Some rows →
    met_audit (subcommand_rows_of m) ≡ Some (codes "audit", audit_words rows)
met_audit_by m rows named has = said_by audit_words m (codes "audit") rows named has

-- the word after `--to`
pub met_to_by :
    (m : ArgMatches) (rows : List Row) → subcommand_name_of m ≡ Some (codes "upgrade") → option_map (λ p. p.1) (subcommand_rows_of m) ≡ Some rows →
    met_to (subcommand_rows_of m) ≡ Some (codes "upgrade", first_of (codes "to") rows)
met_to_by m rows named has = said_by to_word m (codes "upgrade") rows named has

pub target_met :
    (m : ArgMatches) (rows : List Row) (target : Target) → subcommand_name_of m ≡ Some (codes "upgrade") → option_map (λ p. p.1) (subcommand_rows_of m) ≡ Some rows →
    MetUpgrade target (subcommand_rows_of m) → NamesTarget (first_of (codes "to") rows) target
target_met m rows target named has (what, found, names) =
    subst (λ o. NamesTarget o target) (sym (said_is to_word m (codes "upgrade") (codes "upgrade") rows what named has found)) names

pub replay_no_upgrade : (m : ArgMatches) (target : Target) → subcommand_name_of m ≡ Some (codes "replay") → MetUpgrade target (subcommand_rows_of m) → ⊥
replay_no_upgrade m target named found = let bad : Some (codes "replay") ≡ Some (codes "upgrade") = sym named ∙ upgrade_named m target found in cc

pub run_no_upgrade : (m : ArgMatches) (target : Target) → subcommand_name_of m ≡ Some (codes "run") → MetUpgrade target (subcommand_rows_of m) → ⊥
run_no_upgrade m target named found = let bad : Some (codes "run") ≡ Some (codes "upgrade") = sym named ∙ upgrade_named m target found in cc

pub audit_no_upgrade : (m : ArgMatches) (target : Target) → subcommand_name_of m ≡ Some (codes "audit") → MetUpgrade target (subcommand_rows_of m) → ⊥
audit_no_upgrade m target named found = let bad : Some (codes "audit") ≡ Some (codes "upgrade") = sym named ∙ upgrade_named m target found in cc

pub audit_no_replay : (m : ArgMatches) (emit : Emit) → subcommand_name_of m ≡ Some (codes "audit") → MetReplay emit (subcommand_rows_of m) → ⊥
audit_no_replay m emit named found = let bad : Some (codes "audit") ≡ Some (codes "replay") = sym named ∙ replay_named m emit found in cc

pub as_replay : (e emit : Emit) (r : Result Emit WordsFault) (x : Result Asked WordsFault) → r ≡ Ok e → x ≡ Ok (Replay e) → r ≡ Ok emit → x ≡ Ok (Replay emit)
as_replay e emit r x is gives wants =
    let same : Ok e ≡ Ok emit = sym is ∙ wants in
    let equal : e ≡ emit = cc in
    gives ∙ ap (λ (y : Emit). Ok (Replay y)) equal

pub err_not_ok : {A : Type 0} (e : WordsFault) (x : A) (r : Result A WordsFault) → r ≡ Err e → r ≡ Ok x → ⊥
err_not_ok {A} e x r is other = let bad : Err e ≡ Ok x = sym is ∙ other in cc

-- a run

module _ {Z : Type 0} where
  met_with_in :
      (o : Option (Box SubCommand Z)) (name : Text) (rows : List Row) → option_map (λ b. (out-SubCommand (box_value b)).name.now) o ≡ Some name →
      option_map (λ p. p.1) (subcommand_rows o) ≡ Some rows → met_with (subcommand_rows o) ≡ Some (name, run_words rows)
  met_with_in None name rows named has = let bad : None ≡ Some name = named in cc
  met_with_in (Some b) name rows named has =
      let same : (out-SubCommand (box_value b)).name.now ≡ name = (let e : Some (out-SubCommand (box_value b)).name.now ≡ Some name = named in cc) in
      let same_rows : rows_of (found_of (out-SubCommand (box_value b)).matches) ≡ rows =
      (let e : Some (rows_of (found_of (out-SubCommand (box_value b)).matches)) ≡ Some rows = has in cc) in
      ap₂ (λ n r. Some (n, run_words r)) same same_rows

pub met_with_by :
    (m : ArgMatches) (name : Text) (rows : List Row) → subcommand_name_of m ≡ Some name → option_map (λ p. p.1) (subcommand_rows_of m) ≡ Some rows →
    met_with (subcommand_rows_of m) ≡ Some (name, run_words rows)
met_with_by m name rows named has = met_with_in (out-ArgMatches m).subcommand name rows named has

words_of : (a b : Text) (x y : RunWords) → ◌≡◌ {A = Option (Text × RunWords)} (Some (a, x)) (Some (b, y)) → x ≡ y
words_of a b x y same =
    let e : Some x ≡ Some y = ap (option_map (λ (p : Text × RunWords). p.1)) same in cc

pub chooses_met :
    (m : ArgMatches) (name : Text) (rows : List Row) (options : Options) → subcommand_name_of m ≡ Some name → option_map (λ p. p.1) (subcommand_rows_of m) ≡ Some rows →
    MetRun options (subcommand_rows_of m) → Chooses (run_words rows) options
chooses_met m name rows options named has (words, found, chooses) =
    let same : run_words rows ≡ words = words_of name (codes "run") (run_words rows) words (sym (met_with_by m name rows named has) ∙ found) in
    subst (λ w. Chooses w options) (sym same) chooses

name_with : (found : Option (Text × List Row)) → option_map (λ (p : Text × RunWords). p.0) (met_with found) ≡ option_map (λ p. p.0) found
name_with None = refl
name_with (Some p) = refl

run_named : (m : ArgMatches) (options : Options) → MetRun options (subcommand_rows_of m) → subcommand_name_of m ≡ Some (codes "run")
run_named m options (words, found, chooses) =
    sym (name_by m) ∙ sym (name_with (subcommand_rows_of m)) ∙ ap (option_map (λ (p : Text × RunWords). p.0)) found

pub replay_no_run : (m : ArgMatches) (options : Options) → subcommand_name_of m ≡ Some (codes "replay") → MetRun options (subcommand_rows_of m) → ⊥
replay_no_run m options named found = let bad : Some (codes "replay") ≡ Some (codes "run") = sym named ∙ run_named m options found in cc

pub audit_no_run : (m : ArgMatches) (options : Options) → subcommand_name_of m ≡ Some (codes "audit") → MetRun options (subcommand_rows_of m) → ⊥
audit_no_run m options named found = let bad : Some (codes "audit") ≡ Some (codes "run") = sym named ∙ run_named m options found in cc

pub as_run : (o options : Options) (r : Result Options WordsFault) (x : Result Asked WordsFault) → r ≡ Ok o → x ≡ Ok (Run o) → r ≡ Ok options → x ≡ Ok (Run options)
as_run o options r x is gives wants =
    let same : Ok o ≡ Ok options = sym is ∙ wants in
    let equal : o ≡ options = cc in
    gives ∙ ap (λ (y : Options). Ok (Run y)) equal

pub as_upgrade : (t target : Target) (r : Result Target WordsFault) (x : Result Asked WordsFault) → r ≡ Ok t → x ≡ Ok (Upgrade t) → r ≡ Ok target → x ≡ Ok (Upgrade target)
as_upgrade t target r x is gives wants =
    let same : Ok t ≡ Ok target = sym is ∙ wants in
    let equal : t ≡ target = cc in
    gives ∙ ap (λ (y : Target). Ok (Upgrade y)) equal

-- of what is asked for streams serve
pub as_streams : (a want : Asked) (r : Result Asked WordsFault) (x : Result Job WordsFault) → r ≡ Ok a → x ≡ Ok (Streams a) → r ≡ Ok want → x ≡ Ok (Streams want)
as_streams a want r x is gives wants =
    let same : Ok a ≡ Ok want = sym is ∙ wants in
    let equal : a ≡ want = cc in
    gives ∙ ap (λ (y : Asked). Ok (Streams y)) equal

-- the word after `--to`

is_second : (what : Text) (o : Option Text) → Some what ≡ o → NamesTarget o Second → what ≡ codes "2"
is_second what o is (inl none) = let e : Some what ≡ None = is ∙ none in cc
is_second what o is (inr some) = let e : Some what ≡ Some (codes "2") = is ∙ some in cc

pub target_as :
    (target : Target) (what : Text) (o : Option Text) (r : Result Target WordsFault) → Some what ≡ o → (what ≡ codes "2" → r ≡ Ok Second) → (what ≡ codes "3" → r ≡ Ok Third) →
    NamesTarget o target → r ≡ Ok target
target_as Second what o r is second third names = second (is_second what o is names)
target_as Third what o r is second third names = third (let e : Some what ≡ Some (codes "3") = is ∙ names in cc)

none_targets : (target : Target) (o : Option Text) → None ≡ o → NamesTarget o target → Second ≡ target
none_targets Second o is names = refl
none_targets Third o is names = let bad : None ≡ Some (codes "3") = is ∙ names in cc

pub no_target : (target : Target) (o : Option Text) (r : Result Target WordsFault) → r ≡ Ok Second → None ≡ o → NamesTarget o target → r ≡ Ok target
no_target target o r seconds is names = subst (λ t. r ≡ Ok t) (none_targets target o is names) seconds

-- the word that was found

pub some_is : (word wanted : Text) (o : Option Text) → Some word ≡ o → o ≡ Some wanted → word ≡ wanted
some_is word wanted o is given = let e : Some word ≡ Some wanted = is ∙ given in cc

pub none_isnt : {A : Type 0} (wanted : A) (o : Option A) → None ≡ o → o ≡ Some wanted → ⊥
none_isnt {A} wanted o is given = let bad : None ≡ Some wanted = is ∙ given in cc

pub all_is : (words wanted : List Text) (o : Option (List Text)) → Some words ≡ o → o ≡ Some wanted → words ≡ wanted
all_is words wanted o is given = let e : Some words ≡ Some wanted = is ∙ given in cc

-- the files of a chain that was copied

pub chain_copied : (words names copies : List Text) (o : Option (List Text)) → Some words ≡ o → copies ≡ words → o ≡ Some names → copies ≡ names
chain_copied words names copies o is copied given = copied ∙ all_is words names o is given

pub chain_found : (words copies : List Text) (o : Option (List Text)) → Some words ≡ o → copies ≡ words → o ≡ Some copies
chain_found words copies o is copied = sym is ∙ ap (λ (ws : List Text). Some ws) (sym copied)

-- The task that the options of `audit` ask for.

met_in_form :
    (m : ArgMatches) (rows : List Row) (form : Form) (t : Job) → subcommand_name_of m ≡ Some (codes "audit") → option_map (λ p. p.1) (subcommand_rows_of m) ≡ Some rows →
    IsAuditIn form t (audit_words rows) → NamesForm (first_of (codes "emit") rows) form → IsMetTask t (subcommand_rows_of m)
met_in_form m rows form (Streams asked) named has is names = subst (λ (a : Asked). IsMet a (subcommand_rows_of m)) (sym is.0) (audit_words rows, met_audit_by m rows named has, is.1, names)
met_in_form m rows form (Chain f files) named has is names = (audit_words rows, met_audit_by m rows named has, is.1, subst (NamesForm (first_of (codes "emit") rows)) (sym is.0) names)

pub met_audit_task :
    (m : ArgMatches) (rows : List Row) (t : Job) → subcommand_name_of m ≡ Some (codes "audit") → option_map (λ p. p.1) (subcommand_rows_of m) ≡ Some rows →
    IsAuditTask t (audit_words rows) → IsMetTask t (subcommand_rows_of m)
met_audit_task m rows t named has (form, is, names) = met_in_form m rows form t named has is names

pub met_audit_tasks :
    (m : ArgMatches) (rows : List Row) (r : Result Job WordsFault) → subcommand_name_of m ≡ Some (codes "audit") → option_map (λ p. p.1) (subcommand_rows_of m) ≡ Some rows →
    IfOk r (λ t. IsAuditTask t (audit_words rows)) → IfOk r (λ t. IsMetTask t (subcommand_rows_of m))
met_audit_tasks m rows (Ok t) named has is = met_audit_task m rows t named has is
met_audit_tasks m rows (Err e) named has is = tt

pub some_isnt : {A : Type 0} (given : A) (o : Option A) → Some given ≡ o → o ≡ None → ⊥
some_isnt {A} given o is none = let bad : Some given ≡ None = is ∙ none in cc

-- The form in which an audit is reported.

pub same_form : (form f : Form) (r : Result Form WordsFault) → r ≡ Ok f → r ≡ Ok form → form ≡ f
same_form form f r is wants =
    let same : Ok form ≡ Ok f = sym wants ∙ is in
    cc

-- of what it is answered in
pub audit_tasks :
    (form : Form) (words : AuditWords) (r : Result Job WordsFault) → NamesForm words.emit form → IfOk r (λ t. IsAuditIn form t words) → IfOk r (λ t. IsAuditTask t words)
audit_tasks form words (Ok t) names is = (form, is, names)
audit_tasks form words (Err e) names is = tt

pub chain_is_audit :
    (form : Form) (words : AuditWords) (r : Result Job WordsFault) → words.chain ≡ Some (codes "true") → IfOk r (λ t. IsChainFound form t words.files) → IfOk r (λ t. IsAuditIn form t words)
chain_is_audit form words (Ok (Streams asked)) chain found = absurd found
chain_is_audit form words (Ok (Chain f files)) chain found = (found.0, record { chain = chain; files = found.1 })
chain_is_audit form words (Err e) chain found = tt
