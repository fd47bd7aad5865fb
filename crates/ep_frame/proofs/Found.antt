-- A frame without a fault is the frame of the message that its parts stand for.
use Rattle.std.proofs.Common.{◌≡◌, ℕ, zero, suc, ◌^◌, ◌≤◌, ◌<◌, Bool, true, false, cond, eqb, leb, List, [], ◌∷◌, length, None, refl, sym, ap, subst, ◌∙◌, arith}
use Rattle.std.specs.Prelude.{◌&&◌, not, Some}
use Rattle.ep_base.specs.Ops.{op_number, first_fits, second_fits, body_fits}
use Rattle.ep_base.specs.CommandParts.{CommandParts, parts_of as command_parts, command_in, command_of, are_parts, is_twice, body_said}
use Rattle.ep_base.proofs.Partitions.{fits_from, parts_law_lem}
use Rattle.ep_base.proofs.Versions.{highest_low}
use Rattle.std.specs.List.{AllByRecursion}
use Rattle.std.proofs.lemmas.Bool.{eqb-true, leb-true, ltb-true, eq-eqb, and_parts}
use Rattle.std.proofs.lemmas.List.{nil_from_length}
use Rattle.ep_base.specs.Instances.{leader_of, number_of, highest_number, IsInstance}
use Rattle.ep_base.specs.Ballots.{counter_of, owner_of, ballot_of}
use Rattle.ep_base.specs.Deps.{IsRising, IsBelowFirst}
use Rattle.ep_base.specs.Generations.{HasItsGeneration}
use Rattle.ep_base.specs.Versions.{version_number, generation_of, version_of, highest_in, most_deps_in, IsInstanceIn, AreDepsIn, IsDecreeIn, CanSay}
use Rattle.ep_base.specs.declared.version.Version.{Version}
use Rattle.ep_base.specs.declared.vote.VoteStatus.{VoteStatus}
use Rattle.ep_base.specs.declared.vote.VoteStatus.TheVariants.{PreAccepted, Accepted, Committed}
use Rattle.ep_base.specs.declared.message.Message.{Message}
use Rattle.ep_base.specs.declared.message.Message.TheVariants.{PrepareOk}
use Rattle.ep_frame.specs.Faults.{names_rows, ballot_rows, vote_rows, body_rows, late_rows, within, highest_op, op_of, text_fits, generation_fits, are_deps, are_in, deps_allowed, is_instance, precedes_first}
use Rattle.ep_frame.specs.Spelling.{FrameParts, parts_of, status_code, IsBallot, IsCommand, AreAttrs, AreBytes, IsDecree, IsMessage, IsOrigin}
use Rattle.ep_frame.specs.Meaning.{origin_in, instance_in, ballot_in, other_in, attrs_of, command_parts_of, decree_of, message_of}
use Rattle.ep_frame.proofs.Packing.{leader_again, number_again, counter_again, owner_again}
use Rattle.ep_frame.proofs.Rows.{AllPass, within-is, apart-is, chosen, other_chosen}
use Rattle.ep_frame.proofs.Saying.{op_low, count_low, version_is, IsShortIn, text_is, op_found, op_known, deps_found}

-- the version that the header names
abbrev pub version_in : FrameParts → Version
version_in p = version_of p.header.version p.header.generation

-- what stands behind the header
pub record GoodRuns (p : FrameParts) : Type 0 where
  pub key : length p.key ≡ p.header.key_len
  pub second : length p.second ≡ p.header.second_len
  pub body : length p.body ≡ p.header.body_len
  pub count : length p.deps ≡ p.header.count
  pub deps : deps_allowed (version_in p) p.deps ≡ true
  pub once : is_twice p.key p.second ≡ false
  pub said : body_said (op_of p.header.op) p.body ≡ true
  pub key_bytes : AreBytes p.key
  pub second_bytes : AreBytes p.second
  pub body_bytes : AreBytes p.body

pub record Good (p : FrameParts) : Type 0 where
  pub names : AllPass (names_rows p.header)
  pub ballot : AllPass (ballot_rows (version_in p) p.header)
  pub vote : AllPass (vote_rows p.header)
  pub body : AllPass (body_rows (version_in p) p.header)
  pub late : AllPass (late_rows (version_in p) p.header)
  pub generation : p.header.generation < 2 ^ 32
  pub out : p.header.out < 2 ^ 16
  pub entry : p.header.entry < 2 ^ 32
  pub runs : GoodRuns p

pub record Found (p : FrameParts) : Type 0 where
  pub version : HasItsGeneration (version_in p)
  pub origin : IsOrigin p.header.from (origin_in p.header)
  pub message : IsMessage (message_of p)
  pub sayable : CanSay (version_in p) (message_of p)
  pub is : parts_of (version_in p) p.header.from (origin_in p.header) (message_of p) ≡ p

abbrev with_kind : ℕ → FrameParts → FrameParts
with_kind k p = record p { header = record p.header { kind = k } }

abbrev with_status : ℕ → FrameParts → FrameParts
with_status s p = record p { header = record p.header { kind = 7; status = s } }

-- parts with these in place of its own
abbrev made : FrameParts → (magic version generation leader number counter replica status other_counter other_replica seq op kl sl bl count : ℕ) (key second body deps : List ℕ) → FrameParts
made q magic version generation leader number counter replica status other_counter other_replica seq op kl sl bl count key second body deps = record {
  header = record q.header {
    magic = magic;
    version = version;
    leader = leader;
    number = number;
    counter = counter;
    replica = replica;
    status = status;
    other_counter = other_counter;
    other_replica = other_replica;
    seq = seq;
    op = op;
    key_len = kl;
    second_len = sl;
    count = count;
    generation = generation;
    body_len = bl;
  };
  key = key;
  second = second;
  body = body;
  deps = deps;
}

-- ---- groups of fields

-- what all kinds have
record Front (p : FrameParts) : Type 0 where
  origin : IsOrigin p.header.from (origin_in p.header)
  magic : 17744 ≡ p.header.magic
  version : version_number (version_in p) ≡ p.header.version
  generation : generation_of (version_in p) ≡ p.header.generation
  has : HasItsGeneration (version_in p)
  instance : IsInstance (instance_in p.header)
  known : IsInstanceIn (version_in p) (instance_in p.header)
  leader : leader_of (instance_in p.header) ≡ p.header.leader
  number : number_of (instance_in p.header) ≡ p.header.number
  leader_small : p.header.leader ≤ 6

front : (p : FrameParts) (k : ℕ) → AllPass (names_rows (with_kind k p).header) → leb p.header.leader 6 ≡ true → within 1 (highest_in (version_in p)) p.header.number ≡ true → p.header.out < 2 ^ 16 → p.header.entry < 2 ^ 32
    → generation_fits (version_in p) p.header.generation ≡ true → p.header.generation < 2 ^ 32 → Front p
front p k n l m out entry fits small_generation =
    let to = and_parts (leb p.header.to 6) (not (eqb p.header.to p.header.from)) n.1.1.1.1.0 in
    let stamp = within-is 1 281474976710655 p.header.stamp n.1.1.1.1.1.1.0 in
    let small : p.header.leader ≤ 6 = leb-true _ _ l in
    let number = within-is 1 (highest_in (version_in p)) p.header.number m in
    let high : p.header.number ≤ highest_number = let most = highest_low (version_in p) in omega (arith, number.1, most) in
    let own = version_is p.header.version p.header.generation n.1.0 fits small_generation in
    let is_leader = leader_again p.header.leader p.header.number (omega (arith, high)) in
    let is_number = number_again p.header.leader p.header.number (omega (arith, high)) in
    record {
      origin = record {
        sender = leb-true _ _ n.1.1.1.0;
        receiver = leb-true _ _ to.0;
        apart = apart-is p.header.to p.header.from to.1;
        out = out;
        entry_low = leb-true _ _ n.1.1.1.1.1.0;
        entry_high = entry;
        stamp_low = stamp.0;
        stamp_high = omega (arith, stamp.1);
      };
      magic = sym (eqb-true p.header.magic 17744 n.0);
      version = own.number;
      generation = own.generation;
      has = own.has;
      instance = (omega (arith, is_leader, small), omega (arith, is_number, number.0), omega (arith, is_number, high));
      known = omega (arith, is_number, number.1);
      leader = is_leader;
      number = is_number;
      leader_small = small;
    }

record BallotIs (i least counter replica : ℕ) : Type 0 where
  is : IsBallot i least (ballot_of counter replica)
  counter_is : counter_of (ballot_of counter replica) ≡ counter
  replica_is : owner_of (ballot_of counter replica) ≡ replica

ballot_found : (i leader least counter replica : ℕ) → leader_of i ≡ leader → leader ≤ 6 → least ≤ counter → counter ≤ 60000
    → cond (eqb counter 0) (eqb replica leader) (leb replica 6) ≡ true → BallotIs i least counter replica
ballot_found i leader least counter replica is le low high e =
    let small : replica ≤ 6 = elim (eqb counter 0) as (λ b. cond b (eqb replica leader) (leb replica 6) ≡ true → replica ≤ 6) [
      | true ↦ λ r. let same = eqb-true replica leader r in omega (arith, same)
      | false ↦ λ r. leb-true _ _ r
    ] e in
    let c = counter_again counter replica (omega (arith, small)) in
    let o = owner_again counter replica (omega (arith, small)) in
    record {
      is = record {
        low = omega (arith, c);
        high = omega (arith, c);
        replica = omega (arith, o, small);
        first = λ z. o ∙ eqb-true replica leader (chosen _ _ _ (eq-eqb counter 0 (sym c ∙ z)) e) ∙ sym is;
      };
      counter_is = c;
      replica_is = o;
    }

-- a ballot of kinds 1 to 4 and 8
any_ballot : (p : FrameParts) → Front p → leb p.header.counter 60000 ≡ true → cond (eqb p.header.counter 0) (eqb p.header.replica p.header.leader) (leb p.header.replica 6) ≡ true
    → BallotIs (instance_in p.header) 0 p.header.counter p.header.replica
any_ballot p f c r = ballot_found (instance_in p.header) p.header.leader 0 p.header.counter p.header.replica f.leader f.leader_small (omega arith) (leb-true _ _ c) r

-- a ballot of kinds 6 and 7
joined_ballot : (p : FrameParts) → Front p → within 1 60000 p.header.counter ≡ true → cond (eqb p.header.counter 0) (eqb p.header.replica p.header.leader) (leb p.header.replica 6) ≡ true
    → BallotIs (instance_in p.header) 1 p.header.counter p.header.replica
joined_ballot p f c r = let n = within-is 1 60000 p.header.counter c in ballot_found (instance_in p.header) p.header.leader 1 p.header.counter p.header.replica f.leader f.leader_small n.0 n.1 r

nothing_found : (xs : List ℕ) (n : ℕ) → length xs ≡ n → eqb n 0 ≡ true → [] ≡ xs
nothing_found xs n len e = sym (nil_from_length xs (len ∙ eqb-true n 0 e))

-- the parts are those of a command
pub parts_there : (p : FrameParts) → first_fits (op_of p.header.op) p.header.key_len ≡ true → second_fits (op_of p.header.op) p.header.second_len ≡ true → body_fits (op_of p.header.op) p.header.body_len ≡ true → GoodRuns p
    → are_parts (command_parts_of p) ≡ true
parts_there p k s y r =
    let o = op_of p.header.op in
    fits_from o p.key p.second p.body
    (record { first = ap (first_fits o) r.key ∙ k; second = ap (second_fits o) r.second ∙ s; body = ap (body_fits o) r.body ∙ y; once = ap not r.once; said = r.said })

record CommandIs (p : FrameParts) : Type 0 where
  is : IsCommand (command_in (command_parts_of p))
  parts_are : command_parts (command_in (command_parts_of p)) ≡ command_parts_of p
  op_is : op_number (command_parts (command_in (command_parts_of p))).op ≡ p.header.op

command_found : (p : FrameParts) → 1 ≤ p.header.op → p.header.op ≤ 10 → are_parts (command_parts_of p) ≡ true → GoodRuns p → CommandIs p
command_found p lo hi e r =
    let q = command_parts_of p in
    let c = command_in q in
    let some : command_of q ≡ Some c = ap (λ (b : Bool). cond b (Some c) None) e in
    let are : command_parts c ≡ q = parts_law_lem.back q c some in
    record {
      is = record {
        in_range = parts_law_lem.ranges q c some;
        first = subst (λ (x : CommandParts). AreBytes x.first) (sym are) r.key_bytes;
        second = subst (λ (x : CommandParts). AreBytes x.second) (sym are) r.second_bytes;
        body = subst (λ (x : CommandParts). AreBytes x.body) (sym are) r.body_bytes;
      };
      parts_are = are;
      op_is = ap (λ (x : CommandParts). op_number x.op) are ∙ op_found p.header.op lo hi;
    }

record NoCommand (op kl sl bl : ℕ) (key second body : List ℕ) : Type 0 where
  op_is : 0 ≡ op
  kl_is : 0 ≡ kl
  sl_is : 0 ≡ sl
  bl_is : 0 ≡ bl
  key_is : [] ≡ key
  second_is : [] ≡ second
  body_is : [] ≡ body

no_command : (op kl sl bl : ℕ) (key second body : List ℕ) → eqb op 0 ≡ true → first_fits (op_of op) kl ≡ true
    → second_fits (op_of op) sl ≡ true → body_fits (op_of op) bl ≡ true → length key ≡ kl → length second ≡ sl → length body ≡ bl → NoCommand op kl sl bl key second body
no_command zero kl sl bl key second body o k s y lk ls ly =
    record {
      op_is = refl;
      kl_is = sym (eqb-true kl 0 k);
      sl_is = sym (eqb-true sl 0 s);
      bl_is = sym (eqb-true bl 0 y);
      key_is = nothing_found key kl lk k;
      second_is = nothing_found second sl ls s;
      body_is = nothing_found body bl ly y;
    }
no_command (suc op) kl sl bl key second body o k s y lk ls ly = let e = eqb-true (suc op) 0 o in absurd (omega arith)

pub rising_found : (ds : List ℕ) → are_deps ds ≡ true → IsRising ds × AllByRecursion IsInstance ds
rising_found [] e = (tt, tt)
rising_found (i ∷ is) e =
    let p = and_parts (is_instance i && precedes_first i is) (are_deps is) e in
    let q = and_parts (is_instance i) (precedes_first i is) p.0 in
    let r = and_parts (leb (leader_of i) 6) (within 1 highest_number (number_of i)) q.0 in
    let n = within-is 1 highest_number (number_of i) r.1 in
    let rest = rising_found is p.1 in
    ((below is q.1, rest.0), ((leb-true _ _ r.0, n.0, n.1), rest.1))
  where
    below : (is : List ℕ) → precedes_first i is ≡ true → IsBelowFirst i is
    below [] e = tt
    below (j ∷ js) e = ltb-true _ _ e

attrs_found : (p : FrameParts) → within 1 1000000 p.header.seq ≡ true → leb p.header.count (most_deps_in (version_in p)) ≡ true → length p.deps ≡ p.header.count → deps_allowed (version_in p) p.deps ≡ true → AreAttrs (attrs_of p)
attrs_found p s c len d =
    let n = within-is 1 1000000 p.header.seq s in
    let few = leb-true p.header.count (most_deps_in (version_in p)) c in
    let most = count_low (version_in p) in
    let both = and_parts (are_deps p.deps) (are_in (version_in p) p.deps) d in
    let r = rising_found p.deps both.0 in
    record { low = n.0; high = n.1; few = omega (arith, few, most, len); rising = r.0; instances = r.1 }

attrs_known : (p : FrameParts) → deps_allowed (version_in p) p.deps ≡ true → AreDepsIn (version_in p) p.deps
attrs_known p d = let both = and_parts (are_deps p.deps) (are_in (version_in p) p.deps) d in deps_found (version_in p) p.deps (rising_found p.deps both.0).1 both.1

record NoAttrs (seq count : ℕ) (deps : List ℕ) : Type 0 where
  seq_is : 0 ≡ seq
  count_is : 0 ≡ count
  deps_is : [] ≡ deps

no_attrs : (seq count : ℕ) (deps : List ℕ) → eqb seq 0 ≡ true → eqb count 0 ≡ true → length deps ≡ count → NoAttrs seq count deps
no_attrs seq count deps s c len = let ec = eqb-true count 0 c in record { seq_is = sym (eqb-true seq 0 s); count_is = sym ec; deps_is = sym (nil_from_length deps (len ∙ ec)) }

record DecreeIs (p : FrameParts) : Type 0 where
  is : IsDecree (decree_of p)
  known : IsDecreeIn (version_in p) (decree_of p)
  op_is : op_number (command_parts (decree_of p).command).op ≡ p.header.op
  kl_is : length (command_parts (decree_of p).command).first ≡ p.header.key_len
  sl_is : length (command_parts (decree_of p).command).second ≡ p.header.second_len
  bl_is : length (command_parts (decree_of p).command).body ≡ p.header.body_len
  key_is : (command_parts (decree_of p).command).first ≡ p.key
  second_is : (command_parts (decree_of p).command).second ≡ p.second
  body_is : (command_parts (decree_of p).command).body ≡ p.body

decree_found : (p : FrameParts) → within 1 1000000 p.header.seq ≡ true → within 1 (highest_op (version_in p)) p.header.op ≡ true → first_fits (op_of p.header.op) p.header.key_len ≡ true
    → text_fits (version_in p) (op_of p.header.op) p.header.second_len p.header.body_len ≡ true → leb p.header.count (most_deps_in (version_in p)) ≡ true → body_fits (op_of p.header.op) p.header.body_len ≡ true
    → GoodRuns p → DecreeIs p
decree_found p s o k v n y r =
    let op = within-is 1 (highest_op (version_in p)) p.header.op o in
    let most = op_low (version_in p) in
    let text = text_is (version_in p) (op_of p.header.op) p.header.second_len p.header.body_len v in
    let c = command_found p op.0 (omega (arith, op.1, most)) (parts_there p k text.0 y r) r in
    let same = c.op_is in
    let first = ap (λ (x : CommandParts). x.first) c.parts_are in
    let second = ap (λ (x : CommandParts). x.second) c.parts_are in
    let body = ap (λ (x : CommandParts). x.body) c.parts_are in
    let len : length (command_parts (decree_of p).command).body ≡ p.header.body_len = ap length body ∙ r.body in
    record {
      is = record { command = c.is; attrs = attrs_found p s n r.count r.deps };
      known = (op_known (version_in p) (decree_of p).command (subst (λ (n : ℕ). n ≤ highest_op (version_in p)) (sym same) op.1) (subst (IsShortIn (version_in p)) (sym len) text.1), attrs_known p r.deps);
      op_is = same;
      kl_is = ap length first ∙ r.key;
      sl_is = ap length second ∙ r.second;
      bl_is = len;
      key_is = first;
      second_is = second;
      body_is = body;
    }

-- that there is no command
nothing_is : (p : FrameParts) → eqb p.header.op 0 ≡ true → first_fits (op_of p.header.op) p.header.key_len ≡ true
    → text_fits (version_in p) (op_of p.header.op) p.header.second_len p.header.body_len ≡ true → body_fits (op_of p.header.op) p.header.body_len ≡ true → GoodRuns p
    → NoCommand p.header.op p.header.key_len p.header.second_len p.header.body_len p.key p.second p.body
nothing_is p o k v y r =
    let text = text_is (version_in p) (op_of p.header.op) p.header.second_len p.header.body_len v in
    no_command p.header.op p.header.key_len p.header.second_len p.header.body_len p.key p.second p.body o k text.0 y r.key r.second r.body

-- ---- kinds

-- the kind and the status have no part in them

of_kind : (k : ℕ) (p : FrameParts) → GoodRuns (with_kind k p) → GoodRuns p
of_kind k p r = record { key = r.key; second = r.second; body = r.body; count = r.count; deps = r.deps; once = r.once; said = r.said; key_bytes = r.key_bytes; second_bytes = r.second_bytes; body_bytes = r.body_bytes }

of_status : (s : ℕ) (p : FrameParts) → GoodRuns (with_status s p) → GoodRuns p
of_status s p r = record { key = r.key; second = r.second; body = r.body; count = r.count; deps = r.deps; once = r.once; said = r.said; key_bytes = r.key_bytes; second_bytes = r.second_bytes; body_bytes = r.body_bytes }

kind1 : (p : FrameParts) → Good (with_kind 1 p) → Found (with_kind 1 p)
kind1 p g =
    let f = front p 1 g.names g.ballot.0 g.ballot.1.0 g.out g.entry g.late.0 g.generation in
    let b = any_ballot p f g.ballot.1.1.0 g.ballot.1.1.1.0 in
    let x = decree_found p g.body.0 g.body.1.0 g.body.1.1.0 g.body.1.1.1.0 g.body.1.1.1.1.0 g.late.1.0 (of_kind 1 p g.runs) in
    let es = eqb-true p.header.status 0 g.vote.0 in let ec = eqb-true p.header.other_counter 0 g.vote.1.0 in let er = eqb-true p.header.other_replica 0 g.vote.1.1.0 in
    record {
      version = f.has;
      origin = f.origin;
      message = (f.instance, b.is, x.is);
      sayable = (f.known, x.known);
      is = λ t. made (with_kind 1 p) (f.magic t) (f.version t) (f.generation t) (f.leader t) (f.number t) (b.counter_is t) (b.replica_is t) (sym es t) (sym ec t) (sym er t)
          p.header.seq (x.op_is t) (x.kl_is t) (x.sl_is t) (x.bl_is t) (g.runs.count t) (x.key_is t) (x.second_is t) (x.body_is t) p.deps;
    }

kind2 : (p : FrameParts) → Good (with_kind 2 p) → Found (with_kind 2 p)
kind2 p g =
    let f = front p 2 g.names g.ballot.0 g.ballot.1.0 g.out g.entry g.late.0 g.generation in
    let b = any_ballot p f g.ballot.1.1.0 g.ballot.1.1.1.0 in
    let c = nothing_is p g.body.1.0 g.body.1.1.0 g.body.1.1.1.0 g.late.1.0 (of_kind 2 p g.runs) in
    let es = eqb-true p.header.status 0 g.vote.0 in let ec = eqb-true p.header.other_counter 0 g.vote.1.0 in let er = eqb-true p.header.other_replica 0 g.vote.1.1.0 in
    record {
      version = f.has;
      origin = f.origin;
      message = (f.instance, b.is, attrs_found p g.body.0 g.body.1.1.1.1.0 g.runs.count g.runs.deps);
      sayable = (f.known, attrs_known p g.runs.deps);
      is = λ t. made (with_kind 2 p) (f.magic t) (f.version t) (f.generation t) (f.leader t) (f.number t) (b.counter_is t) (b.replica_is t) (sym es t) (sym ec t) (sym er t)
          p.header.seq (c.op_is t) (c.kl_is t) (c.sl_is t) (c.bl_is t) (g.runs.count t) (c.key_is t) (c.second_is t) (c.body_is t) p.deps;
    }

kind3 : (p : FrameParts) → Good (with_kind 3 p) → Found (with_kind 3 p)
kind3 p g =
    let f = front p 3 g.names g.ballot.0 g.ballot.1.0 g.out g.entry g.late.0 g.generation in
    let b = any_ballot p f g.ballot.1.1.0 g.ballot.1.1.1.0 in
    let x = decree_found p g.body.0 g.body.1.0 g.body.1.1.0 g.body.1.1.1.0 g.body.1.1.1.1.0 g.late.1.0 (of_kind 3 p g.runs) in
    let es = eqb-true p.header.status 0 g.vote.0 in let ec = eqb-true p.header.other_counter 0 g.vote.1.0 in let er = eqb-true p.header.other_replica 0 g.vote.1.1.0 in
    record {
      version = f.has;
      origin = f.origin;
      message = (f.instance, b.is, x.is);
      sayable = (f.known, x.known);
      is = λ t. made (with_kind 3 p) (f.magic t) (f.version t) (f.generation t) (f.leader t) (f.number t) (b.counter_is t) (b.replica_is t) (sym es t) (sym ec t) (sym er t)
          p.header.seq (x.op_is t) (x.kl_is t) (x.sl_is t) (x.bl_is t) (g.runs.count t) (x.key_is t) (x.second_is t) (x.body_is t) p.deps;
    }

kind4 : (p : FrameParts) → Good (with_kind 4 p) → Found (with_kind 4 p)
kind4 p g =
    let f = front p 4 g.names g.ballot.0 g.ballot.1.0 g.out g.entry g.late.0 g.generation in
    let b = any_ballot p f g.ballot.1.1.0 g.ballot.1.1.1.0 in
    let c = nothing_is p g.body.1.0 g.body.1.1.0 g.body.1.1.1.0 g.late.1.0 (of_kind 4 p g.runs) in
    let a = no_attrs p.header.seq p.header.count p.deps g.body.0 g.body.1.1.1.1.0 g.runs.count in
    let es = eqb-true p.header.status 0 g.vote.0 in let ec = eqb-true p.header.other_counter 0 g.vote.1.0 in let er = eqb-true p.header.other_replica 0 g.vote.1.1.0 in
    record {
      version = f.has;
      origin = f.origin;
      message = (f.instance, b.is);
      sayable = f.known;
      is = λ t. made (with_kind 4 p) (f.magic t) (f.version t) (f.generation t) (f.leader t) (f.number t) (b.counter_is t) (b.replica_is t) (sym es t) (sym ec t) (sym er t)
          (a.seq_is t) (c.op_is t) (c.kl_is t) (c.sl_is t) (c.bl_is t) (a.count_is t) (c.key_is t) (c.second_is t) (c.body_is t) (a.deps_is t);
    }

kind5 : (p : FrameParts) → Good (with_kind 5 p) → Found (with_kind 5 p)
kind5 p g =
    let f = front p 5 g.names g.ballot.0 g.ballot.1.0 g.out g.entry g.late.0 g.generation in
    let x = decree_found p g.body.0 g.body.1.0 g.body.1.1.0 g.body.1.1.1.0 g.body.1.1.1.1.0 g.late.1.0 (of_kind 5 p g.runs) in
    let es = eqb-true p.header.status 0 g.vote.0 in let ec = eqb-true p.header.other_counter 0 g.vote.1.0 in let er = eqb-true p.header.other_replica 0 g.vote.1.1.0 in
    let bc = eqb-true p.header.counter 0 g.ballot.1.1.0 in let br = eqb-true p.header.replica 0 g.ballot.1.1.1.0 in
    record {
      version = f.has;
      origin = f.origin;
      message = (f.instance, x.is);
      sayable = (f.known, x.known);
      is = λ t. made (with_kind 5 p) (f.magic t) (f.version t) (f.generation t) (f.leader t) (f.number t) (sym bc t) (sym br t) (sym es t) (sym ec t) (sym er t)
          p.header.seq (x.op_is t) (x.kl_is t) (x.sl_is t) (x.bl_is t) (g.runs.count t) (x.key_is t) (x.second_is t) (x.body_is t) p.deps;
    }

kind6 : (p : FrameParts) → Good (with_kind 6 p) → Found (with_kind 6 p)
kind6 p g =
    let f = front p 6 g.names g.ballot.0 g.ballot.1.0 g.out g.entry g.late.0 g.generation in
    let b = joined_ballot p f g.ballot.1.1.0 g.ballot.1.1.1.0 in
    let c = nothing_is p g.body.1.0 g.body.1.1.0 g.body.1.1.1.0 g.late.1.0 (of_kind 6 p g.runs) in
    let a = no_attrs p.header.seq p.header.count p.deps g.body.0 g.body.1.1.1.1.0 g.runs.count in
    let es = eqb-true p.header.status 0 g.vote.0 in let ec = eqb-true p.header.other_counter 0 g.vote.1.0 in let er = eqb-true p.header.other_replica 0 g.vote.1.1.0 in
    record {
      version = f.has;
      origin = f.origin;
      message = (f.instance, b.is);
      sayable = f.known;
      is = λ t. made (with_kind 6 p) (f.magic t) (f.version t) (f.generation t) (f.leader t) (f.number t) (b.counter_is t) (b.replica_is t) (sym es t) (sym ec t) (sym er t)
          (a.seq_is t) (c.op_is t) (c.kl_is t) (c.sl_is t) (c.bl_is t) (a.count_is t) (c.key_is t) (c.second_is t) (c.body_is t) (a.deps_is t);
    }

kind8 : (p : FrameParts) → Good (with_kind 8 p) → Found (with_kind 8 p)
kind8 p g =
    let f = front p 8 g.names g.ballot.0 g.ballot.1.0 g.out g.entry g.late.0 g.generation in
    let b = any_ballot p f g.ballot.1.1.0 g.ballot.1.1.1.0 in
    let c = nothing_is p g.body.1.0 g.body.1.1.0 g.body.1.1.1.0 g.late.1.0 (of_kind 8 p g.runs) in
    let a = no_attrs p.header.seq p.header.count p.deps g.body.0 g.body.1.1.1.1.0 g.runs.count in
    let es = eqb-true p.header.status 0 g.vote.0 in
    let n = within-is 1 60000 p.header.other_counter g.vote.1.0 in let r = leb-true _ _ g.vote.1.1.0 in
    let pc = counter_again p.header.other_counter p.header.other_replica (omega (arith, r)) in let pr = owner_again p.header.other_counter p.header.other_replica (omega (arith, r)) in
    record {
      version = f.has;
      origin = f.origin;
      message = (f.instance, b.is, omega (arith, pc, n.0), omega (arith, pc, n.1), omega (arith, pr, r));
      sayable = f.known;
      is = λ t. made (with_kind 8 p) (f.magic t) (f.version t) (f.generation t) (f.leader t) (f.number t) (b.counter_is t) (b.replica_is t) (sym es t) (pc t) (pr t)
          (a.seq_is t) (c.op_is t) (c.kl_is t) (c.sl_is t) (c.bl_is t) (a.count_is t) (c.key_is t) (c.second_is t) (c.body_is t) (a.deps_is t);
    }

status0 : (p : FrameParts) → Good (with_status 0 p) → Found (with_status 0 p)
status0 p g =
    let f = front p 7 g.names g.ballot.0 g.ballot.1.0 g.out g.entry g.late.0 g.generation in
    let b = joined_ballot p f g.ballot.1.1.0 g.ballot.1.1.1.0 in
    let c = nothing_is p g.body.1.0 g.body.1.1.0 g.body.1.1.1.0 g.late.1.0 (of_status 0 p g.runs) in
    let a = no_attrs p.header.seq p.header.count p.deps g.body.0 g.body.1.1.1.1.0 g.runs.count in
    let ec = eqb-true p.header.other_counter 0 g.vote.1.0 in
    let er = eqb-true p.header.other_replica p.header.leader (chosen _ _ _ g.vote.1.0 g.vote.1.1.0) in
    record {
      version = f.has;
      origin = f.origin;
      message = (f.instance, b.is, tt);
      sayable = (f.known, tt);
      is = λ t. made (with_status 0 p) (f.magic t) (f.version t) (f.generation t) (f.leader t) (f.number t) (b.counter_is t) (b.replica_is t) 0 (sym ec t) ((f.leader ∙ sym er) t)
          (a.seq_is t) (c.op_is t) (c.kl_is t) (c.sl_is t) (c.bl_is t) (a.count_is t) (c.key_is t) (c.second_is t) (c.body_is t) (a.deps_is t);
    }

-- the answer to a Prepare with this vote
abbrev voted : FrameParts → VoteStatus → Message
voted p st = PrepareOk (instance_in p.header) (ballot_in p.header) (Some (record { status = st; ballot = other_in p.header; decree = decree_of p }))

record FoundVote (p : FrameParts) (s : ℕ) (st : VoteStatus) : Type 0 where
  version : HasItsGeneration (version_in p)
  origin : IsOrigin p.header.from (origin_in p.header)
  message : IsMessage (voted p st)
  sayable : CanSay (version_in p) (voted p st)
  is : parts_of (version_in p) p.header.from (origin_in p.header) (voted p st) ≡ with_status s p

vote_found : (p : FrameParts) (s : ℕ) (st : VoteStatus) → status_code st ≡ s → eqb s 0 ≡ false → Good (with_status s p) → FoundVote p s st
vote_found p s st code e g =
    let has = ap not e in
    let f = front p 7 g.names g.ballot.0 g.ballot.1.0 g.out g.entry g.late.0 g.generation in
    let b = joined_ballot p f g.ballot.1.1.0 g.ballot.1.1.1.0 in
    let x = decree_found p (chosen _ _ _ has g.body.0) (chosen _ _ _ has g.body.1.0) g.body.1.1.0 g.body.1.1.1.0 (chosen _ _ _ has g.body.1.1.1.1.0) g.late.1.0 (of_status s p g.runs) in
    let v =
    ballot_found (instance_in p.header) p.header.leader 0 p.header.other_counter p.header.other_replica f.leader f.leader_small (omega arith) (leb-true _ _ (other_chosen _ _ _ e g.vote.1.0)) g.vote.1.1.0 in
    record {
      version = f.has;
      origin = f.origin;
      message = (f.instance, b.is, (v.is, x.is));
      sayable = (f.known, x.known);
      is = λ t. made (with_status s p) (f.magic t) (f.version t) (f.generation t) (f.leader t) (f.number t) (b.counter_is t) (b.replica_is t) (code t) (v.counter_is t) (v.replica_is t)
          p.header.seq (x.op_is t) (x.kl_is t) (x.sl_is t) (x.bl_is t) (g.runs.count t) (x.key_is t) (x.second_is t) (x.body_is t) p.deps;
    }

at_status : (p : FrameParts) (s : ℕ) → s ≤ 3 → Good (with_status s p) → Found (with_status s p)
at_status p zero le g = status0 p g
at_status p (suc zero) le g = let v = vote_found p 1 PreAccepted refl refl g in record { version = v.version; origin = v.origin; message = v.message; sayable = v.sayable; is = v.is }
at_status p (suc (suc zero)) le g = let v = vote_found p 2 Accepted refl refl g in record { version = v.version; origin = v.origin; message = v.message; sayable = v.sayable; is = v.is }
at_status p (suc (suc (suc zero))) le g = let v = vote_found p 3 Committed refl refl g in record { version = v.version; origin = v.origin; message = v.message; sayable = v.sayable; is = v.is }
at_status p (suc (suc (suc (suc s)))) le g = absurd (omega arith)

at_kind : (p : FrameParts) (k : ℕ) → 1 ≤ k → k ≤ 8 → Good (with_kind k p) → Found (with_kind k p)
at_kind p zero low high g = absurd (omega arith)
at_kind p (suc zero) low high g = kind1 p g
at_kind p (suc (suc zero)) low high g = kind2 p g
at_kind p (suc (suc (suc zero))) low high g = kind3 p g
at_kind p (suc (suc (suc (suc zero)))) low high g = kind4 p g
at_kind p (suc (suc (suc (suc (suc zero))))) low high g = kind5 p g
at_kind p (suc (suc (suc (suc (suc (suc zero)))))) low high g = kind6 p g
at_kind p (suc (suc (suc (suc (suc (suc (suc zero))))))) low high g = at_status p p.header.status (leb-true _ _ g.vote.0) g
at_kind p (suc (suc (suc (suc (suc (suc (suc (suc zero)))))))) low high g = kind8 p g
at_kind p (suc (suc (suc (suc (suc (suc (suc (suc (suc k))))))))) low high g = absurd (omega arith)

pub found : (p : FrameParts) → Good p → Found p
found p g = let n = within-is 1 8 p.header.kind g.names.1.1.0 in at_kind p p.header.kind n.0 n.1 g
