-- What is known of the parts of a frame without a fault.
use Rattle.std.proofs.Common.{◌≡◌, ℕ, ◌≤◌, true, eqb, arith}
use Rattle.std.specs.Prelude.{◌||◌}
use Rattle.ep_base.specs.Versions.{highest_in}
use Rattle.std.proofs.lemmas.Bool.{eqb-true, leb-true, and_parts}
use Rattle.ep_frame.specs.declared.header.Header.{Header}
use Rattle.ep_frame.specs.Faults.{within, op_of, are_deps, are_in, counter_allowed, replica_allowed, other_counter_allowed, other_replica_allowed}
use Rattle.ep_frame.specs.Ranges.{Readable}
use Rattle.ep_frame.specs.Spelling.{FrameParts}
use Rattle.ep_base.specs.CommandParts.{are_parts}
use Rattle.ep_base.proofs.Versions.{highest_low}
use Rattle.ep_frame.specs.Meaning.{command_parts_of}
use Rattle.ep_frame.proofs.Rows.{within-is, chosen, either}
use Rattle.ep_frame.proofs.Found.{Good, version_in, parts_there}
use Rattle.ep_frame.proofs.Saying.{text_is, at_zero}

up_to : (low high n : ℕ) → within low high n ≡ true → n ≤ high
up_to low high n e = let r = within-is low high n e in r.1

small_counter : (h : Header) → counter_allowed h ≡ true → h.counter ≤ 60000
small_counter h e = either (eqb h.kind 5) _ _ e (at_zero h.counter 60000) (λ t. either (eqb h.kind 6 || eqb h.kind 7) _ _ t (up_to 1 60000 h.counter) (leb-true h.counter 60000))

as_leader : (leader replica : ℕ) → leader ≤ 6 → eqb replica leader ≡ true → replica ≤ 6
as_leader leader replica le e = let s = eqb-true replica leader e in omega (arith, s, le)

small_replica : (h : Header) → h.leader ≤ 6 → replica_allowed h ≡ true → h.replica ≤ 6
small_replica h le e = either (eqb h.kind 5) _ _ e (at_zero h.replica 6) (λ t. either (eqb h.counter 0) _ _ t (as_leader h.leader h.replica le) (leb-true h.replica 6))

small_other_counter : (h : Header) → other_counter_allowed h ≡ true → h.other_counter ≤ 60000
small_other_counter h e =
    either (eqb h.kind 7) _ _ e
    (λ t. either (eqb h.status 0) _ _ t (at_zero h.other_counter 60000) (leb-true h.other_counter 60000))
    (λ t. either (eqb h.kind 8) _ _ t (up_to 1 60000 h.other_counter) (at_zero h.other_counter 60000))

small_other_replica : (h : Header) → h.leader ≤ 6 → other_replica_allowed h ≡ true → h.other_replica ≤ 6
small_other_replica h le e =
    either (eqb h.kind 7) _ _ e
    (λ t. either (eqb h.other_counter 0) _ _ t (as_leader h.leader h.other_replica le) (leb-true h.other_replica 6))
    (λ t. either (eqb h.kind 8) _ _ t (leb-true h.other_replica 6) (at_zero h.other_replica 6))

command_there : (p : FrameParts) → Good p → are_parts (command_parts_of p) ≡ true
command_there p g =
    let h = p.header in
    let text = text_is (version_in p) (op_of h.op) h.second_len h.body_len g.body.1.1.1.0 in
    parts_there p g.body.1.1.0 text.0 g.late.1.0 g.runs

pub readable : (p : FrameParts) → Good p → Readable p
readable p g =
    let h = p.header in
    let leader : h.leader ≤ 6 = leb-true _ _ g.ballot.0 in
    let v = version_in p in
    let number = within-is 1 (highest_in v) h.number g.ballot.1.0 in
    let most = highest_low v in
    record {
      leader = leader;
      number_low = number.0;
      number_high = omega (arith, number.1, most);
      counter = small_counter h g.ballot.1.1.0;
      replica = small_replica h leader g.ballot.1.1.1.0;
      other_counter = small_other_counter h g.vote.1.0;
      other_replica = small_other_replica h leader g.vote.1.1.0;
      seq_low = λ t. let n = within-is 1 1000000 h.seq (chosen _ _ _ t g.body.0) in n.0;
      seq_high = λ t. let n = within-is 1 1000000 h.seq (chosen _ _ _ t g.body.0) in n.1;
      command = command_there p g;
      deps = (and_parts (are_deps p.deps) (are_in v p.deps) g.runs.deps).0;
    }
