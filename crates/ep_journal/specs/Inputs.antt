-- What is asked of a replica, and what the rule book answers. A rule looks at what is known of one instance.
use Rattle.std.specs.Prelude.{ℕ, Bool, eqb, [], Some, None, Result, Ok, Err}
use Rattle.ep_base.specs.Instances.{leader_of}
use Rattle.ep_base.specs.Quorums.{is_fast}
use Rattle.ep_base.specs.declared.version.Version.{Version}
use Rattle.ep_base.specs.declared.message.Message.{Message}
use Rattle.ep_base.specs.declared.message.Message.TheVariants.{PreAccept, PreAcceptOk, Accept, AcceptOk, Commit, Prepare, PrepareOk, Nack}
use Rattle.ep_frame.specs.Meaning.{sender_at, message_at}
use Rattle.ep_phase.specs.InstanceViews.{InstanceView, record_of}
use Rattle.ep_space.specs.Settled.{settled}
use Rattle.ep_rules.specs.Cells.{Change, Refusal}
use Rattle.ep_phase.specs.declared.receivers.Receivers.{Receivers}
use Rattle.ep_phase.specs.declared.receivers.Receivers.TheVariants.{One, FastQuorum, Others}
use Rattle.ep_rules.specs.Counting.{is_other}
use Rattle.ep_rules.specs.Fitting.{AllFit}
use Rattle.ep_rules.specs.InterferenceSet.{interference}
use Rattle.ep_rules.specs.Phases.{Outcome, propose, give_up, on_pre_accept, on_pre_accept_ok, on_accept, on_accept_ok, on_commit}
use Rattle.ep_rules.specs.Recovery.{recover, on_prepare, on_prepare_ok, on_nack}
use Rattle.ep_journal.specs.Holding.{AllSayable}
use Rattle.ep_journal.specs.declared.input.Input.{Input}
use Rattle.ep_journal.specs.declared.input.Input.TheVariants.{Start, Message as Handles, GiveUp, Recover}

-- what the rule book answers to a message from this replica
abbrev pub handled_at : InstanceView → ℕ → Message → Outcome
handled_at k from (PreAccept i b x) = on_pre_accept k.instance from b x (interference k.records k.instance x.command) (record_of k)
handled_at k from (PreAcceptOk i b a) = Ok (on_pre_accept_ok k.faults k.instance k.me from b a (record_of k) k.led)
handled_at k from (Accept i b x) = Ok (on_accept k.instance from b x (record_of k))
handled_at k from (AcceptOk i b) = Ok (on_accept_ok k.faults k.instance k.me from b (record_of k) k.led)
handled_at k from (Commit i x) = Ok (on_commit k.instance x (record_of k))
handled_at k from (Prepare i b) = Ok (on_prepare k.instance from b (record_of k))
handled_at k from (PrepareOk i b v) = on_prepare_ok k.faults k.instance k.me from b v (interference k.records k.instance) (record_of k) k.led
handled_at k from (Nack i b p) = Ok (on_nack p k.reported)

-- what it answers to what is asked
abbrev pub outcome_at : InstanceView → Input → Outcome
outcome_at k (Start c s) = propose k.faults k.instance s.now c.now (interference k.records k.instance c.now)
outcome_at k (Handles v) = handled_at k (sender_at v.now) (message_at v.now)
outcome_at k GiveUp = give_up k.faults k.instance k.me (record_of k) k.led
outcome_at k Recover = recover k.faults k.instance k.me (record_of k) k.reported

-- what changes where a Commit is of what was voted for
abbrev pub settling : InstanceView → Change
settling k = record { entry = settled k.instance (record_of k) (record_of k).vote; led = Some None; reported = None; out = [] }

-- whether a replica is one of the receivers of what is known there
abbrev pub receives : InstanceView → Receivers → ℕ → Bool
receives k (One q) r = eqb r q
receives k (FastQuorum s) r = is_fast (leader_of k.instance) s r
receives k Others r = is_other k.me r

-- what is sent has a spelling in the version
abbrev pub IsWritable : Version → ℕ → Result (ℕ × Change) Refusal → Type 0
IsWritable v me (Ok p) = AllFit me p.1.out × AllSayable v p.1.out
IsWritable v me (Err e) = Unit {0}
