-- A replay gives each instance one receipt at most.
use Rattle.std.proofs.Common.{◌≡◌, ◌≢◌, ℕ, List, [], ◌∷◌, ◌++◌, sym, ap, subst, ◌∙◌}
use Rattle.ep_rules.specs.Journals as rules
use Rattle.ep_rules.specs.declared.receipt.Receipt.{Receipt}
use Rattle.ep_journal.specs.Entries.{entry_of, entries_of}
use Rattle.ep_journal.specs.Openings.{Opening, opens}
use Rattle.ep_journal.proofs.Growing.{entries_append}
use Rattle.ep_replica.specs.Kept.{Kept}
use Rattle.ep_replica.specs.Receipts.{receipts_of}
use Rattle.ep_rules.proofs.Places.{Once}
use Rattle.ep_script.specs.Heads.{Head}
use Rattle.ep_script.specs.Plan.{Plan}
use Rattle.ep_world.specs.Played.{Played, entries_in, journals_in}
use Rattle.ep_world.specs.Playing.{Happens}
use Rattle.ep_world.proofs.Grown.{with_other}
use Rattle.ep_replay.specs.Outcome.{IsReplay}
use Rattle.ep_replay.specs.Replays.{Replay, IsOpening}
use Rattle.ep_replay.specs.Reported.{instances_of}
use Rattle.ep_replay.specs.declared.replayed.Replayed.{Replayed}
use Rattle.ep_replay.proofs.Keeping.{KeepsOf, all_keep}
use Rattle.ep_replay.proofs.OneReceipt.{Sole, none_sole, more_sole}

abbrev SoleIn : Played → List Receipt → Type 0
SoleIn w ts = Sole (opens w.opening) w.faults (journals_in w) ts

-- One event.

takes_sole : KeepsOf SoleIn
takes_sole p q line event t s =
    let h : Happens p.world event t.next = t.happens in
    let w : Played = p.world in
    let v : Played = t.next in
    let same : v.faults ≡ w.faults = ap (λ (u : Played). u.faults) h.becomes in
    let open_same : v.opening ≡ w.opening = ap (λ (u : Played). u.opening) h.becomes in
    let here : journals_in v h.replica ≡ journals_in w h.replica ++ (entry_of h.entry ∷ []) =
    ap (λ (k : Kept). entries_of k.entries) h.applied.appended ∙ entries_append (entries_in w h.replica) (h.entry ∷ []) in
    let other : (r : ℕ) → h.replica ≢ r → journals_in v r ≡ journals_in w r = λ r ne. ap (λ (u : Played). journals_in u r) h.becomes ∙ ap entries_of (with_other w.entries h.replica r h.entry ne) in
    subst (λ (z : Replay). SoleIn z.world z.receipts) (sym t.becomes)
    (subst (λ (o : Opening). Sole (opens o) v.faults (journals_in v) (p.receipts ++ receipts_of h.replica (journals_in v h.replica) (entry_of h.entry))) (sym open_same)
    (subst (λ f. Sole (opens w.opening) f (journals_in v) (p.receipts ++ receipts_of h.replica (journals_in v h.replica) (entry_of h.entry))) (sym same)
    (more_sole (opens w.opening) w.faults (journals_in w) (journals_in v) p.receipts h.replica (entry_of h.entry) here other h.applied.step s)))

opening_sole : (head : Head) (p : Replay) → IsOpening head p → SoleIn p.world p.receipts
opening_sole head p o =
    subst (λ (ts : List Receipt). Sole (opens p.world.opening) p.world.faults (journals_in p.world) ts) (sym o.receipts)
    (none_sole (opens p.world.opening) p.world.faults (journals_in p.world) (λ r. ap entries_of (o.entries r)))

-- Replays.

pub replay_once : (plan : Plan) (d : Replayed) → IsReplay plan d → Once (instances_of d.receipts.items)
replay_once plan d h =
    let s : SoleIn h.last.world h.last.receipts = all_keep SoleIn takes_sole h.at_end.first h.last plan.lines h.at_end.played (opening_sole plan.head h.at_end.first h.at_end.opening) in
    subst (λ (ts : List Receipt). Once (instances_of ts)) (sym h.receipts) s.once
