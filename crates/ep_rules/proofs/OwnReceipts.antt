-- Receipts of a replica's own commands agree with clocked journals, which are accepted with them, and stay its own; what was sent stays so.
use Rattle.std.proofs.Common.{◌≡◌, ℕ, ◌<◌, inl, List, ◌∷◌, ◌++◌, sym, ap, subst, ◌∙◌, refl, append_assoc}
use Rattle.ep_base.specs.Instances.{leader_of}
use Rattle.ep_rules.specs.Steps.{Event}
use Rattle.ep_rules.specs.Worlds.{In}
use Rattle.ep_rules.specs.Journals.{Entry, heard}
use Rattle.ep_rules.specs.Verdicts.{Proposes, HasDone, Agrees}
use Rattle.ep_rules.specs.Merging.{OwnReceiptsAgree, ClockedMatch, ClockedAccepted, SentStays, OwnStays}
use Rattle.ep_rules.proofs.Merged.{in_left, in_right}
use Rattle.ep_rules.proofs.Played.{clocked_later}
use Rattle.ep_rules.specs.OneMap.{Store}

pub own_receipts_agree_lem : OwnReceiptsAgree
own_receipts_agree_lem base base_stamp f journal clocked r t own =
    let executed = subst (λ q. HasDone (journal q) t.entry t.stamp t.instance t.answer) (sym own.replica) own.executed in
    subst (λ q. (p : Proposes base f q (journal q) t.instance t.client t.request) → p.seen ≡ t.seen → Agrees base f journal t) own.leader (λ p seen.
    let stands : In p.proposal (journal (leader_of t.instance)) = subst (λ es. In p.proposal es) p.split (in_right p.proposal p.before (p.proposal ∷ p.rest) (inl refl)) in
    let lt : heard p.proposal.event < p.proposal.stamp = clocked_later (base_stamp (leader_of t.instance)) (journal (leader_of t.instance)) p.proposal (clocked (leader_of t.instance)) stands in
    let from : p.seen < p.proposal.stamp = subst (λ (e : Event). heard e < p.proposal.stamp) p.event lt in
    record { known = record { proposed = p; executed = executed }; later = subst (λ n. n < p.proposal.stamp) seen from }) own.proposed own.seen

pub clocked_match_lem : ClockedMatch
clocked_match_lem base_stamp journal clocked sent r e m h is = (sent r e m h is, subst (λ v. heard v < e.stamp) is (clocked_later (base_stamp r) (journal r) e (clocked r) h))

pub clocked_accepted_lem : ClockedAccepted
clocked_accepted_lem base base_stamp f journal clocked sent receipts are_own = record {
  matched = clocked_match_lem base_stamp journal clocked sent;
  agree = λ t h. let o = are_own t h in own_receipts_agree_lem base base_stamp f journal clocked o.0 t o.1;
}

pub sent_stays_lem : SentStays
sent_stays_lem journal more m w = record { entry = w.entry; stands = in_left w.entry (journal m.sent.from) (more m.sent.from) w.stands; number = w.number; frame = w.frame }

proposes_still : (base : Store) → (f me : ℕ) (es more : List Entry) (i client request : ℕ) → Proposes base f me es i client request → Proposes base f me (es ++ more) i client request
proposes_still base f me es more i client request p = record {
  before = p.before;
  proposal = p.proposal;
  rest = p.rest ++ more;
  split = sym (append_assoc p.before (p.proposal ∷ p.rest) more) ∙ ap (λ z. z ++ more) p.split;
  command = p.command;
  seen = p.seen;
  spared = p.spared;
  event = p.event;
  number = p.number;
  free = p.free;
  instance = p.instance;
}

pub own_stays_lem : OwnStays
unfolding proposes_still
own_stays_lem base f me es more t own = record {
  replica = own.replica;
  leader = own.leader;
  proposed = proposes_still base f me es more t.instance t.client t.request own.proposed;
  seen = own.seen;
  executed = (let d = own.executed in record { entry = d.entry; stands = in_left d.entry es more d.stands; is_number = d.is_number; is_stamp = d.is_stamp; done = d.done });
}
