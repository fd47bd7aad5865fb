-- What the audit looks up, by places in journals.
use Rattle.std.proofs.Common.{◌≡◌, ℕ, ◌+◌, ◌<◌, Some, List, slice_get, sym, subst, ◌∙◌}
use Rattle.ep_base.specs.Instances.{leader_of}
use Rattle.ep_rules.specs.Worlds.{In}
use Rattle.ep_rules.specs.Journals.{Entry, AreNumbered}
use Rattle.ep_rules.specs.Merging.{SentByPlace, OriginByPlace, DoneByPlace, AgreesByStamp}
use Rattle.ep_rules.proofs.JournalsGrow.{numbers_are_places_lem}
use Rattle.ep_rules.proofs.Merged.{in_at}
use Rattle.ep_rules.proofs.OneProposal.{one_proposal_lem}

-- the place of an entry of this number
place_of : (es : List Entry) (e : Entry) (n : ℕ) → AreNumbered 1 0 es → In e es → e.number ≡ n → (k : ℕ) × (n ≡ k + 1) × (slice_get es k ≡ Some e)
place_of es e n numbered h is = let t = in_at es e h in (t.0, sym is ∙ ((numbers_are_places_lem es numbered t.0 e).0 t.1).1, t.1)

pub sent_by_place_lem : SentByPlace
sent_by_place_lem journal m numbered = (
  (λ w. let t = place_of (journal m.sent.from) w.entry m.entry numbered w.stands w.number in (t.0, w.entry, t.1, t.2, w.frame)),
  (λ t. let h = (numbers_are_places_lem (journal m.sent.from) numbered t.0 t.1).0 t.3 in record { entry = t.1; stands = h.0; number = h.1 ∙ sym t.2; frame = t.4 }),
)

pub origin_by_place_lem : OriginByPlace
origin_by_place_lem journal m numbered = (
  (λ w. let t = place_of (journal m.sent.from) w.entry m.entry numbered w.stands w.number in (t.0, w.entry, w.frame, t.1, t.2, w.there)),
  (λ t. let h = (numbers_are_places_lem (journal m.sent.from) numbered t.0 t.1).0 t.4 in record { entry = t.1; stands = h.0; number = h.1 ∙ sym t.3; frame = t.2; there = t.5 }),
)

pub done_by_place_lem : DoneByPlace
done_by_place_lem es numbered number stamp i answer = (
  (λ d. let t = place_of es d.entry number numbered d.stands d.is_number in (t.0, d.entry, t.1, t.2, d.is_stamp, d.done)),
  (λ t. let h = (numbers_are_places_lem es numbered t.0 t.1).0 t.3 in record { entry = t.1; stands = h.0; is_number = h.1 ∙ sym t.2; is_stamp = t.4; done = t.5 }),
)

pub agrees_by_stamp_lem : AgreesByStamp
agrees_by_stamp_lem base f journal local t known client request p =
    let l : ℕ = leader_of t.instance in
    let same = one_proposal_lem base f l (journal l) (local.local l).1 t.instance t.client t.request client request known.proposed p in (
      (λ a. subst (λ (e : Entry). t.seen < e.stamp) (one_proposal_lem base f l (journal l) (local.local l).1 t.instance t.client t.request client request a.known.proposed p) a.later),
      (λ lt. record { known = known; later = subst (λ (e : Entry). t.seen < e.stamp) (sym same) lt }),
    )
