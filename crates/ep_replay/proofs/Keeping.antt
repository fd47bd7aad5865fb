-- What each event of a replay keeps, the replay keeps; its version and its opening stay.
use Rattle.std.proofs.Common.{◌≡◌, inl, inr, ℕ, List, [], ◌∷◌, sym, ap, subst, ◌∙◌}
use Rattle.ep_base.specs.declared.version.Version.{Version}
use Rattle.ep_journal.specs.Entries.{Collected}
use Rattle.ep_journal.specs.Openings.{Opening}
use Rattle.ep_rules.specs.declared.receipt.Receipt.{Receipt}
use Rattle.ep_script.specs.Plan.{Plan}
use Rattle.ep_script.specs.declared.agenda_line.AgendaLine.{AgendaLine}
use Rattle.ep_script.specs.declared.agenda_line.AgendaLine.TheVariants.{Propose, GiveUp, Recover}
use Rattle.ep_script.specs.declared.line.Line.{Line}
use Rattle.ep_script.specs.declared.line.Line.TheVariants.{Agenda, Execute, Deliver, Flush}
use Rattle.ep_world.specs.Played.{Played}
use Rattle.ep_world.specs.declared.world_event.WorldEvent.{WorldEvent}
use Rattle.ep_world.specs.declared.world_event.WorldEvent.TheVariants as event
use Rattle.ep_replay.specs.Heads.{opening_of}
use Rattle.ep_replay.specs.Outcome.{EndsAt, HasEnded, IsReplay}
use Rattle.ep_replay.specs.Replays.{Replay, Takes, Tries, Asks, Gives, Plays, PlayAll, with_given, with_proposer}
use Rattle.ep_replay.specs.declared.ended.Ended.{Ended}
use Rattle.ep_replay.specs.declared.replayed.Replayed.{Replayed}

-- it keeps P of the world and the receipts
abbrev pub KeepsOf : (Played → List Receipt → Type 0) → Type 0
KeepsOf P = (p q : Replay) (line : ℕ) (event : WorldEvent) → Takes p line event q → P p.world p.receipts → P q.world q.receipts

module _ (P : Played → List Receipt → Type 0) (keeps : KeepsOf P) where
  abbrev At : Replay → Type 0
  At p = P p.world p.receipts

  tries_keep : (p q : Replay) (line : ℕ) (event : WorldEvent) → Tries p line event q → At p → At q
  tries_keep p q line event (inl t) s = keeps p q line event t s
  tries_keep p q line event (inr t) s = subst At (sym t.becomes) s

  gives_keep : (p q : Replay) (line : ℕ) (ms : List ℕ) → Gives p line ms q → At p → At q
  gives_keep p q line [] is s = subst At (sym is) s
  gives_keep p q line (m ∷ ms) g s = gives_keep g.0 q line ms g.2 (tries_keep (with_given p m) g.0 line (event.Deliver m) g.1 s)

  asks_keep : (p q : Replay) (line : ℕ) (asked : AgendaLine) → Asks p line asked q → At p → At q
  asks_keep p q line (Propose replica client command named) g s = tries_keep (with_proposer p client) q line _ g s
  asks_keep p q line (GiveUp replica instance) g s = tries_keep p q line _ g s
  asks_keep p q line (Recover replica instance) g s = tries_keep p q line _ g s

  plays_keep : (p q : Replay) (line : ℕ) (what : Line) → Plays p line what q → At p → At q
  plays_keep p q line (Agenda asked) g s = asks_keep p q line asked g s
  plays_keep p q line (Execute replica instance) g s = tries_keep p q line _ g s
  plays_keep p q line (Deliver messages) g s = gives_keep p q line messages g s
  plays_keep p q line Flush g s = gives_keep p q line g.0 g.2 s

  pub all_keep : (p q : Replay) (ls : List (ℕ × Line)) → PlayAll p ls q → P p.world p.receipts → P q.world q.receipts
  all_keep p q [] is s = subst At (sym is) s
  all_keep p q (l ∷ ls) g s = all_keep g.0 q ls g.2 (plays_keep p g.0 l.0 l.1 g.1 s)

-- The version and the opening.

abbrev Is : Version → Opening → Played → List Receipt → Type 0
Is v o w ts = (w.version ≡ v) × (w.opening ≡ o)

takes_stay : (v : Version) (o : Opening) → KeepsOf (Is v o)
takes_stay v o p q line event t s =
    subst (λ (r : Replay). Is v o r.world r.receipts) (sym t.becomes)
    (subst (λ (w : Played). Is v o w p.receipts) (sym t.happens.becomes) s)

stays : (plan : Plan) (last : Replay) → EndsAt plan last → (last.world.version ≡ plan.head.version) × (last.world.opening ≡ opening_of plan.head.opening)
stays plan last h = all_keep (Is plan.head.version (opening_of plan.head.opening)) (takes_stay plan.head.version (opening_of plan.head.opening)) h.first last plan.lines h.played (h.opening.version, h.opening.opening)

pub ended_version : (plan : Plan) (d : Ended) → HasEnded plan d → d.world.version ≡ plan.head.version
ended_version plan d h = ap (λ (w : Played). w.version) h.world ∙ (stays plan h.last h.at_end).0

pub ended_opening : (plan : Plan) (d : Ended) → HasEnded plan d → d.world.opening ≡ opening_of plan.head.opening
ended_opening plan d h = ap (λ (w : Played). w.opening) h.world ∙ (stays plan h.last h.at_end).1

pub replay_version : (plan : Plan) (d : Replayed) → IsReplay plan d → d.journals.version ≡ plan.head.version
replay_version plan d h = ap (λ (j : Collected). j.version) h.journals ∙ (stays plan h.last h.at_end).0

pub replay_opening : (plan : Plan) (d : Replayed) → IsReplay plan d → d.journals.opening ≡ opening_of plan.head.opening
replay_opening plan d h = ap (λ (j : Collected). j.opening) h.journals ∙ (stays plan h.last h.at_end).1
