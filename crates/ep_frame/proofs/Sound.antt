-- The frame of a message has no fault.
use Rattle.std.proofs.Common.{◌≡◌, ℕ, ◌≤◌, ◌<◌, Bool, true, false, cond, eqb, leb, List, [], ◌∷◌, length, drop, Err, refl, sym, ap, subst, ◌∙◌, arith}
use Rattle.std.specs.Prelude.{◌&&◌, not, Some, None}
use Rattle.std.specs.List.{AllByRecursion}
use Rattle.std.proofs.lemmas.Bool.{eqb-true, eq-eqb, le-leb, lt-ltb, and_from, le-ltb, not-true}
use Rattle.std.proofs.lemmas.Option.{cond_some}
use Rattle.ep_base.specs.Instances.{leader_of, number_of, highest_number, IsInstance}
use Rattle.ep_base.specs.Ballots.{counter_of, owner_of}
use Rattle.ep_base.specs.Deps.{IsRising, IsBelowFirst, most_deps}
use Rattle.ep_base.specs.Generations.{HasItsGeneration}
use Rattle.ep_base.specs.Ops.{op_number, first_fits}
use Rattle.ep_base.specs.CommandParts.{parts_of as command_parts, command_in, are_parts, is_twice, body_said, IsInRange}
use Rattle.ep_base.specs.declared.op.Op.{Op}
use Rattle.ep_base.proofs.Partitions.{Fits, fits, parts_law_lem}
use Rattle.ep_base.specs.Versions.{version_number, generation_of, highest_in, most_deps_in, IsInstanceIn, AreDepsIn, IsDecreeIn, CanSay}
use Rattle.ep_base.specs.declared.version.Version.{Version}
use Rattle.ep_base.specs.declared.version_kind.VersionKind.TheVariants.{V1, V2, V3}
use Rattle.ep_base.proofs.Versions.{version_again, length_in, version_low}
use Rattle.ep_base.specs.declared.attrs.Attrs.{Attrs}
use Rattle.ep_base.specs.declared.decree.Decree.{Decree}
use Rattle.ep_base.specs.Commands.{Command}
use Rattle.ep_base.specs.declared.vote.VoteStatus.{VoteStatus}
use Rattle.ep_base.specs.declared.vote.VoteStatus.TheVariants.{PreAccepted, Accepted, Committed}
use Rattle.ep_base.specs.declared.message.Message.{Message}
use Rattle.ep_base.specs.declared.message.Message.TheVariants.{PreAccept, PreAcceptOk, Accept, AcceptOk, Commit, Prepare, PrepareOk, Nack}
use Rattle.ep_frame.specs.declared.fault.FrameFault.{FrameFault}
use Rattle.ep_frame.specs.declared.fault.FrameFault.TheVariants.{Short, Field, Length, Order, SameKey, Body}
use Rattle.ep_frame.specs.declared.header.Header.{Header}
use Rattle.ep_frame.specs.declared.origin.Origin.{Origin}
use Rattle.ep_frame.specs.Fields.{header_at, header_len, generation_from, text_len, deps_in}
use Rattle.ep_frame.specs.Faults.{◌>>◌, names_rows, ballot_rows, vote_rows, body_rows, late_rows, within, checked, highest_op, op_of, text_fits, are_deps, are_in, deps_allowed, has_same_keys, has_other_body, is_instance, precedes_first, version_in, header_fault_in, header_fault, rest_fault, fault_of, frame_len, deps_place}
use Rattle.ep_frame.specs.Spelling.{FrameParts, parts_at, parts_of, status_code, IsBallot, AreAttrs, IsDecree, IsMessage, IsOrigin, Spells}
use Rattle.ep_frame.proofs.Rows.{AllPass, fine, all_pass, within-from, apart-from, choose, choose_other}
use Rattle.ep_frame.proofs.Again.{PartsFit, parts_again, length-parts_bytes}
use Rattle.ep_frame.proofs.Saying.{op_low, is_version, generation_again, IsShortIn, text_from, text_again, op_again, op_one, first_high, second_high, body_high, op_within, short_within, deps_within}

-- parts with these fields
abbrev frame : (v : Version) (k from : ℕ) (o : Origin) (i counter replica status other_counter other_replica seq op : ℕ) (key second body deps : List ℕ) → FrameParts
frame v k from o i counter replica status other_counter other_replica seq op key second body deps = record {
  header = record {
    magic = 17744;
    version = version_number v;
    kind = k;
    from = from;
    to = o.to;
    out = o.out;
    entry = o.entry;
    stamp = o.stamp;
    leader = leader_of i;
    number = number_of i;
    counter = counter;
    replica = replica;
    status = status;
    other_counter = other_counter;
    other_replica = other_replica;
    seq = seq;
    op = op;
    key_len = length key;
    second_len = length second;
    count = length deps;
    generation = generation_of v;
    body_len = length body;
  };
  key = key;
  second = second;
  body = body;
  deps = deps;
}

pub record Sound (p : FrameParts) : Type 0 where
  pub header : header_fault p.header ≡ fine
  pub fits : PartsFit p
  pub count : length p.deps ≡ p.header.count
  pub deps : deps_allowed (version_in p.header) p.deps ≡ true
  pub once : is_twice p.key p.second ≡ false
  pub said : body_said (op_of p.header.op) p.body ≡ true

-- three groups of fields, each with its rows

record BallotPart (rows : List (FrameFault × Bool)) (counter replica : ℕ) : Type 0 where
  pass : AllPass rows
  counter_small : counter ≤ 60000
  replica_small : replica ≤ 6

record VotePart (rows : List (FrameFault × Bool)) (status counter replica : ℕ) : Type 0 where
  pass : AllPass rows
  status_small : status ≤ 3
  counter_small : counter ≤ 60000
  replica_small : replica ≤ 6

record BodyPart (v : Version) (rows : List (FrameFault × Bool)) (seq op : ℕ) (key second body deps : List ℕ) : Type 0 where
  pass : AllPass rows
  seq_small : seq ≤ 1000000
  op_high : op ≤ highest_op v
  fits : Fits (op_of op) key second body
  short : IsShortIn v (length body)
  deps_small : length deps ≤ most_deps
  rising : deps_allowed v deps ≡ true
  instances : AllByRecursion IsInstance deps

generation_kept : (v : Version) → HasItsGeneration v → generation_from (version_number v) (generation_of v) ≡ generation_of v
generation_kept V1 h = refl
generation_kept V2 h = refl
generation_kept (V3 g) h = refl

sound_frame : (v : Version) (k from : ℕ) (o : Origin) (i counter replica status other_counter other_replica seq op : ℕ) (key second body deps : List ℕ) → HasItsGeneration v → IsOrigin from o → IsInstance i → 1 ≤ k → k ≤ 8
    → BallotPart (ballot_rows v (frame v k from o i counter replica status other_counter other_replica seq op key second body deps).header) counter replica
    → VotePart (vote_rows (frame v k from o i counter replica status other_counter other_replica seq op key second body deps).header) status other_counter other_replica
    → BodyPart v (body_rows v (frame v k from o i counter replica status other_counter other_replica seq op key second body deps).header) seq op key second body deps
    → Sound (frame v k from o i counter replica status other_counter other_replica seq op key second body deps)
unfolding header_fault_in
sound_frame v k from o i counter replica status other_counter other_replica seq op key second body deps own g n low high a w y =
    let h = (frame v k from o i counter replica status other_counter other_replica seq op key second body deps).header in
    let to : (leb o.to 6 && not (eqb o.to from)) ≡ true = and_from _ _ (le-leb _ _ g.receiver) (apart-from o.to from g.apart) in
    let stamp : within 1 281474976710655 o.stamp ≡ true = within-from 1 281474976710655 o.stamp g.stamp_low (omega (arith, g.stamp_high)) in
    let names : AllPass (names_rows h) = (refl, (is_version v, (within-from 1 8 k low high, (le-leb _ _ g.sender, (to, (le-leb _ _ g.entry_low, (stamp, tt))))))) in
    let generation = generation_again v own in
    let late : AllPass (late_rows v h) = (generation.0, (y.fits.body, tt)) in
    let e0 = all_pass (names_rows h) names in
    let e1 = ap (λ (u : Version). checked (ballot_rows u h)) (version_again v) ∙ all_pass (ballot_rows v h) a.pass in
    let e2 = all_pass (vote_rows h) w.pass in
    let e3 = ap (λ (u : Version). checked (body_rows u h)) (version_again v) ∙ all_pass (body_rows v h) y.pass in
    let e4 = ap (λ (u : Version). checked (late_rows u h)) (version_again v) ∙ all_pass (late_rows v h) late in
    let lowest = version_low v in
    let most = op_low v in
    let text = text_again v op (length second) (length body) y.op_high (second_high (op_of op) (length second) y.fits.second) y.fits.second y.fits.body y.short in
    let key_small = first_high (op_of op) (length key) y.fits.first in
    let body_small = body_high (op_of op) (length body) y.fits.body in
    record {
      header = λ t. e0 t >> (e1 t >> (e2 t >> (e3 t >> e4 t)));
      fits = record {
        header = record {
          start = (omega arith, (omega (arith, lowest), (omega arith, (omega (arith, g.sender), tt))));
          origin = (omega (arith, g.receiver), (omega (arith, g.out), (omega (arith, g.entry_high), (omega (arith, g.stamp_high), tt))));
          ballot = (omega (arith, n.0), (omega (arith, n.2), (omega (arith, a.counter_small), (omega (arith, a.replica_small), tt))));
          vote = (omega (arith, w.status_small), (omega (arith, w.counter_small), (omega (arith, w.replica_small), tt)));
          body = (omega (arith, y.seq_small), (omega (arith, y.op_high, most), (omega (arith, key_small), (text.small, (omega (arith, y.deps_small), tt)))));
          generation_small = generation.1;
          body_small = omega (arith, body_small);
          second_is = text.second;
          generation_is = generation_kept v own;
          body_is = text.body;
        };
        key = refl;
        second = refl;
        body = refl;
        deps = y.instances;
      };
      count = refl;
      deps = ap (λ (u : Version). deps_allowed u deps) (version_again v) ∙ y.rising;
      once = not-true (is_twice key second) y.fits.once;
      said = y.fits.said;
    }

-- ---- ballots

replica_from : (i least b : ℕ) → IsBallot i least b → cond (eqb (counter_of b) 0) (eqb (owner_of b) (leader_of i)) (leb (owner_of b) 6) ≡ true
replica_from i least b h =
    elim (eqb (counter_of b) 0) as (λ c. eqb (counter_of b) 0 ≡ c → cond c (eqb (owner_of b) (leader_of i)) (leb (owner_of b) 6) ≡ true) [
      | true ↦ λ t. eq-eqb _ _ (h.first (eqb-true (counter_of b) 0 t))
      | false ↦ λ t. le-leb _ _ h.replica
    ] refl

abbrev ballot_rows_of : Version → ℕ → Bool → Bool → List (FrameFault × Bool)
ballot_rows_of v i counter replica = (Field 20, leb (leader_of i) 6) ∷ (Field 21, within 1 (highest_in v) (number_of i)) ∷ (Field 23, counter) ∷ (Field 25, replica) ∷ []

-- an instance of the version
record InstanceIs (v : Version) (i : ℕ) : Type 0 where
  is : IsInstance i
  high : number_of i ≤ highest_in v

instance_is : (v : Version) (i : ℕ) → IsInstance i → IsInstanceIn v i → InstanceIs v i
instance_is v i h e = record { is = h; high = e }

ballot_rows_pass : (v : Version) (i : ℕ) (counter replica : Bool) → InstanceIs v i → counter ≡ true → replica ≡ true → AllPass (ballot_rows_of v i counter replica)
ballot_rows_pass v i counter replica n c r = (le-leb _ _ n.is.0, (within-from 1 (highest_in v) (number_of i) n.is.1 n.high, (c, (r, tt))))

-- any ballot
any_ballot : (v : Version) (i b : ℕ) → InstanceIs v i → IsBallot i 0 b
    → BallotPart (ballot_rows_of v i (leb (counter_of b) 60000) (cond (eqb (counter_of b) 0) (eqb (owner_of b) (leader_of i)) (leb (owner_of b) 6))) (counter_of b) (owner_of b)
any_ballot v i b n h = record { pass = ballot_rows_pass v i _ _ n (le-leb _ _ h.high) (replica_from i 0 b h); counter_small = h.high; replica_small = h.replica }

-- one of a counter of 1 or more
joined_ballot : (v : Version) (i b : ℕ) → InstanceIs v i → IsBallot i 1 b
    → BallotPart (ballot_rows_of v i (within 1 60000 (counter_of b)) (cond (eqb (counter_of b) 0) (eqb (owner_of b) (leader_of i)) (leb (owner_of b) 6))) (counter_of b) (owner_of b)
joined_ballot v i b n h = record { pass = ballot_rows_pass v i _ _ n (within-from 1 60000 (counter_of b) h.low h.high) (replica_from i 1 b h); counter_small = h.high; replica_small = h.replica }

no_ballot : (v : Version) (i : ℕ) → InstanceIs v i → BallotPart (ballot_rows_of v i true true) 0 0
no_ballot v i n = record { pass = ballot_rows_pass v i true true n refl refl; counter_small = omega arith; replica_small = omega arith }

-- ---- votes

abbrev vote_rows_of : Bool → Bool → Bool → List (FrameFault × Bool)
vote_rows_of status counter replica = (Field 26, status) ∷ (Field 27, counter) ∷ (Field 29, replica) ∷ []

no_vote : VotePart (vote_rows_of true true true) 0 0 0
no_vote = record { pass = (refl, (refl, (refl, tt))); status_small = omega arith; counter_small = omega arith; replica_small = omega arith }

pub has_status : (s : VoteStatus) → eqb (status_code s) 0 ≡ false
has_status PreAccepted = refl
has_status Accepted = refl
has_status Committed = refl

status_high : (s : VoteStatus) → status_code s ≤ 3
status_high PreAccepted = omega arith
status_high Accepted = omega arith
status_high Committed = omega arith

some_vote : (i : ℕ) (s : VoteStatus) (b : ℕ) → IsBallot i 0 b
    → VotePart (vote_rows_of (leb (status_code s) 3) (cond (eqb (status_code s) 0) (eqb (counter_of b) 0) (leb (counter_of b) 60000)) (cond (eqb (counter_of b) 0) (eqb (owner_of b) (leader_of i)) (leb (owner_of b) 6)))
    (status_code s) (counter_of b) (owner_of b)
some_vote i s b h =
    record {
      pass = (le-leb _ _ (status_high s), (choose_other _ _ _ (has_status s) (le-leb _ _ h.high), (replica_from i 0 b h, tt)));
      status_small = status_high s;
      counter_small = h.high;
      replica_small = h.replica;
    }

-- ---- commands and attributes

rising_again : (ds : List ℕ) → IsRising ds → AllByRecursion IsInstance ds → are_deps ds ≡ true
rising_again [] r h = refl
rising_again (i ∷ is) r h =
    let one : is_instance i ≡ true = and_from (leb (leader_of i) 6) (within 1 highest_number (number_of i)) (le-leb _ _ h.0.0) (within-from 1 highest_number (number_of i) h.0.1 h.0.2) in
    and_from (is_instance i && precedes_first i is) (are_deps is) (and_from (is_instance i) (precedes_first i is) one (first is r.0)) (rising_again is r.1 h.1)
  where
    first : (is : List ℕ) → IsBelowFirst i is → precedes_first i is ≡ true
    first [] h = refl
    first (j ∷ js) h = lt-ltb _ _ h

allowed_again : (v : Version) (ds : List ℕ) → IsRising ds → AllByRecursion IsInstance ds → AreDepsIn v ds → deps_allowed v ds ≡ true
allowed_again v ds r h e = and_from (are_deps ds) (are_in v ds) (rising_again ds r h) (deps_within v ds e)

-- a command in range is its parts
pub command_fits : (c : Command) → IsInRange c → Fits (command_parts c).op (command_parts c).first (command_parts c).second (command_parts c).body
command_fits c h =
    let p = command_parts c in
    fits p.op p.first p.second p.body (cond_some (are_parts p) (command_in p) c (parts_law_lem.forth c h)).0

command_numbered : (c : Command) → IsInRange c → Fits (op_of (op_number (command_parts c).op)) (command_parts c).first (command_parts c).second (command_parts c).body
command_numbered c h =
    let p = command_parts c in
    subst (λ (o : Op). Fits o p.first p.second p.body) (sym (op_again p.op)) (command_fits c h)

-- the rows of a frame that has attributes or not, and a command or not
abbrev body_rows_of : (v : Version) (attributes command : Bool) (seq op kl sl bl count : ℕ) → List (FrameFault × Bool)
body_rows_of v attributes command seq op kl sl bl count =
    (Field 30, cond attributes (within 1 1000000 seq) (eqb seq 0)) ∷ (Field 34, cond command (within 1 (highest_op v) op) (eqb op 0))
    ∷ (Field 35, first_fits (op_of op) kl) ∷ (Field 36, text_fits v (op_of op) sl bl)
    ∷ (Field 38, cond attributes (leb count (most_deps_in v)) (eqb count 0)) ∷ []

decree_body : (v : Version) (attributes command : Bool) → attributes ≡ true → command ≡ true → (x : Decree) → IsDecree x → IsDecreeIn v x
    → BodyPart v (body_rows_of v attributes command x.attrs.seq (op_number (command_parts x.command).op) (length (command_parts x.command).first) (length (command_parts x.command).second) (length (command_parts x.command).body) (length x.attrs.deps))
    x.attrs.seq (op_number (command_parts x.command).op) (command_parts x.command).first (command_parts x.command).second (command_parts x.command).body x.attrs.deps
decree_body v attributes command ta tc x h e =
    let p = command_parts x.command in
    let n = op_number p.op in
    let high : n ≤ highest_op v = op_within v x.command e.0 in
    let short = short_within v x.command e.0 in
    let c = command_numbered x.command h.command.in_range in let a = h.attrs in
    record {
      pass = (
        choose _ _ _ ta (within-from 1 1000000 x.attrs.seq a.low a.high),
        (
          choose _ _ _ tc (within-from 1 (highest_op v) n (op_one p.op) high),
          (c.first, (text_from v (op_of n) (length p.second) (length p.body) c.second short, (choose _ _ _ ta (le-leb _ _ (length_in v x.attrs.deps a.rising a.instances a.few e.1)), tt))),
        ),
      );
      seq_small = a.high;
      op_high = high;
      fits = c;
      short = short;
      deps_small = a.few;
      rising = allowed_again v x.attrs.deps a.rising a.instances e.1;
      instances = a.instances;
    }

pub nothing_short : (v : Version) → IsShortIn v 0
nothing_short V1 = omega arith
nothing_short V2 = omega arith
nothing_short (V3 g) = tt

nothing_row : (v : Version) → text_fits v (op_of 0) 0 0 ≡ true
nothing_row v = text_from v (op_of 0) 0 0 refl (nothing_short v)

nothing_fits : Fits (op_of 0) [] [] []
nothing_fits = record { first = refl; second = refl; body = refl; once = refl; said = refl }

attrs_body : (v : Version) (x : Attrs) → AreAttrs x → AreDepsIn v x.deps → BodyPart v (body_rows_of v true false x.seq 0 0 0 0 (length x.deps)) x.seq 0 [] [] [] x.deps
attrs_body v x a e =
    record {
      pass = (within-from 1 1000000 x.seq a.low a.high, (refl, (refl, (nothing_row v, (le-leb _ _ (length_in v x.deps a.rising a.instances a.few e), tt)))));
      seq_small = a.high;
      op_high = omega arith;
      fits = nothing_fits;
      short = nothing_short v;
      deps_small = a.few;
      rising = allowed_again v x.deps a.rising a.instances e;
      instances = a.instances;
    }

no_body : (v : Version) → BodyPart v (body_rows_of v false false 0 0 0 0 0 0) 0 0 [] [] [] []
no_body v =
    record {
      pass = (refl, (refl, (refl, (nothing_row v, (refl, tt)))));
      seq_small = omega arith;
      op_high = omega arith;
      fits = nothing_fits;
      short = nothing_short v;
      deps_small = omega arith;
      rising = allowed_again v [] tt tt tt;
      instances = tt;
    }

-- ---- messages

pub sound : (v : Version) (from : ℕ) (o : Origin) (m : Message) → HasItsGeneration v → IsOrigin from o → IsMessage m → CanSay v m → Sound (parts_of v from o m)
sound v from o (PreAccept i b x) own g m e =
    let n = instance_is v i m.0 e.0 in
    sound_frame v 1 from o i _ _ 0 0 0 _ _ _ _ _ _ own g m.0 (omega arith) (omega arith) (any_ballot v i b n m.1) no_vote (decree_body v true true refl refl x m.2 e.1)
sound v from o (PreAcceptOk i b a) own g m e =
    let n = instance_is v i m.0 e.0 in
    sound_frame v 2 from o i _ _ 0 0 0 _ 0 [] [] [] _ own g m.0 (omega arith) (omega arith) (any_ballot v i b n m.1) no_vote (attrs_body v a m.2 e.1)
sound v from o (Accept i b x) own g m e =
    let n = instance_is v i m.0 e.0 in
    sound_frame v 3 from o i _ _ 0 0 0 _ _ _ _ _ _ own g m.0 (omega arith) (omega arith) (any_ballot v i b n m.1) no_vote (decree_body v true true refl refl x m.2 e.1)
sound v from o (AcceptOk i b) own g m e =
    let n = instance_is v i m.0 e in sound_frame v 4 from o i _ _ 0 0 0 0 0 [] [] [] [] own g m.0 (omega arith) (omega arith) (any_ballot v i b n m.1) no_vote (no_body v)
sound v from o (Commit i x) own g m e =
    let n = instance_is v i m.0 e.0 in
    sound_frame v 5 from o i 0 0 0 0 0 _ _ _ _ _ _ own g m.0 (omega arith) (omega arith) (no_ballot v i n) no_vote (decree_body v true true refl refl x m.1 e.1)
sound v from o (Prepare i b) own g m e =
    let n = instance_is v i m.0 e in sound_frame v 6 from o i _ _ 0 0 0 0 0 [] [] [] [] own g m.0 (omega arith) (omega arith) (joined_ballot v i b n m.1) no_vote (no_body v)
sound v from o (PrepareOk i b None) own g m e =
    let n = instance_is v i m.0 e.0 in
    sound_frame v 7 from o i _ _ 0 0 (leader_of i) 0 0 [] [] [] [] own g m.0 (omega arith) (omega arith) (joined_ballot v i b n m.1)
    (record { pass = (refl, (refl, (eq-eqb (leader_of i) (leader_of i) refl, tt))); status_small = omega arith; counter_small = omega arith; replica_small = m.0.0 }) (no_body v)
sound v from o (PrepareOk i b (Some x)) own g m e =
    let n = instance_is v i m.0 e.0 in
    let has = ap not (has_status x.status) in
    sound_frame v 7 from o i _ _ (status_code x.status) (counter_of x.ballot) (owner_of x.ballot) _ _ _ _ _ _ own g m.0 (omega arith) (omega arith) (joined_ballot v i b n m.1)
    (some_vote i x.status x.ballot m.2.0) (decree_body v (not (eqb (status_code x.status) 0)) (not (eqb (status_code x.status) 0)) has has x.decree m.2.1 e.1)
sound v from o (Nack i b p) own g m e =
    let n = instance_is v i m.0 e in
    sound_frame v 8 from o i _ _ 0 (counter_of p) (owner_of p) 0 0 [] [] [] [] own g m.0 (omega arith) (omega arith) (any_ballot v i b n m.1)
    (record { pass = (refl, (within-from 1 60000 (counter_of p) m.2 m.3, (le-leb _ _ m.4, tt))); status_small = omega arith; counter_small = m.3; replica_small = m.4 }) (no_body v)

rest_fine : (len deps keys body : Bool) → len ≡ true → deps ≡ true → keys ≡ false → body ≡ false → cond (not len) (Err Length) (cond (not deps) (Err Order) (cond keys (Err SameKey) (cond body (Err Body) fine))) ≡ fine
rest_fine len deps keys body l d k b = λ t. cond (not (l t)) (Err Length) (cond (not (d t)) (Err Order) (cond (k t) (Err SameKey) (cond (b t) (Err Body) fine)))

no_fault : (b : List ℕ) (p : FrameParts) → parts_at b ≡ p → header_len p.header.version ≤ length b → length b ≡ frame_len p.header → header_fault p.header ≡ fine → deps_allowed (version_in p.header) p.deps ≡ true
    → is_twice p.key p.second ≡ false → body_said (op_of p.header.op) p.body ≡ true → fault_of b ≡ fine
unfolding fault_of rest_fault
no_fault b p is long len header deps apart body =
    let h : header_at b ≡ p.header = ap (λ q. q.header) is in
    let d : deps_allowed (version_in (header_at b)) (deps_in (drop (deps_place (header_at b)) b)) ≡ true = ap (λ q. deps_allowed (version_in q.header) q.deps) is ∙ deps in
    let k : has_same_keys (header_at b) b ≡ false = ap (λ q. is_twice q.key q.second) is ∙ apart in
    let y : has_other_body (header_at b) b ≡ false = ap (λ q. not (body_said (op_of q.header.op) q.body)) is ∙ ap not body in
    let l : eqb (length b) (frame_len (header_at b)) ≡ true = eq-eqb _ _ (len ∙ ap frame_len (sym h)) in
    let head : header_len (header_at b).version ≤ length b = subst (λ (q : Header). header_len q.version ≤ length b) (sym h) long in
    let rest : rest_fault (header_at b) b ≡ fine = rest_fine (eqb (length b) (frame_len (header_at b))) (deps_allowed (version_in (header_at b)) (deps_in (drop (deps_place (header_at b)) b))) (has_same_keys (header_at b) b) (has_other_body (header_at b) b) l d k y in
    ap (λ x. cond x (Err Short) (header_fault (header_at b) >> rest_fault (header_at b) b)) (le-ltb _ _ head)
    ∙ (λ t. (ap header_fault h ∙ header) t >> rest t)

-- what is spelled has no fault
pub frame_again : (v : Version) (b : List ℕ) (from : ℕ) (o : Origin) (m : Message) → Spells v b from o m → fault_of b ≡ fine
frame_again v b from o m s =
    let p = parts_of v from o m in
    let q = sound v from o m s.version s.origin s.message s.sayable in
    let at : parts_at b ≡ p = ap parts_at s.is ∙ parts_again p q.fits in
    let len = ap length s.is ∙ length-parts_bytes p q.fits q.count in
    no_fault b p at (omega (arith, len)) len q.header q.deps q.once q.said

-- the field at 36 has two bytes
pub text_small : (v : Version) (from : ℕ) (o : Origin) (m : Message) → HasItsGeneration v → IsOrigin from o → IsMessage m → CanSay v m → text_len (parts_of v from o m).header < 65536
text_small v from o m own g n e = let s = sound v from o m own g n e in let lt = s.fits.header.body.1.1.1.0 in omega (arith, lt)
