-- A node that is opened has served.
use Rattle.std.proofs.Common.{◌≡◌, inl, inr, ℕ, Bool, true, List, [], ◌++◌, Option, Some, None, Result, Ok, Err, append-nil, sym, subst}
use Rattle.ep_base.specs.Devices.{Puts}
use Rattle.ep_log.specs.Origins.{Origin}
use Rattle.ep_node.specs.Nodes.{Logged, origin_of}
use Rattle.ep_node.specs.Opening.{IsOpened, IsWrittenAnew, Names}
use Rattle.ep_node.specs.declared.cut.Cut.{Cut}
use Rattle.ep_node.specs.declared.open_fault.OpenFault.{OpenFault}
use Rattle.ep_node.specs.declared.open_fault.OpenFault.TheVariants as open_
use Rattle.ep_serve.specs.Lasting.{crashes}
use Rattle.ep_serve.specs.Serving.{dialect_of, Ends}
use Rattle.ep_serve.specs.declared.serve_fault.ServeFault.{ServeFault}
use Rattle.ep_cli.proofs.Puts.{appends_twice}
use Rattle.ep_server.specs.Faults.{line_of}
use Rattle.ep_cli.specs.Outputs.{Input, Output, became, output, Reported}
use Rattle.ep_server.specs.Served.{reported_first, of_serve, EndsWith, Fails, Happens, HasServed, IsFailure, IsOver, Role, Shown}
use Rattle.ep_server.specs.declared.server_fault.ServerFault.{ServerFault}
use Rattle.ep_cli.specs.declared.status.Status.{Status}

pub has_served :
    {D : Type 0} (shown : Shown D) (role : Role) (o : Origin) (start : Logged D) (bytes zs log : List ℕ) (cut : Option Cut) (outcome : Result Unit ServerFault) (reader : Input) (out : Output) →
    start.replica.faults ≡ role.faults → start.replica.me ≡ role.me → origin_of start ≡ o → IsOpened role.begin o role.faults role.me bytes start.replica.entries cut →
    shown.seen start.device ≡ Some log → IsWrittenAnew role.begin o role.faults role.me bytes log → IsOver shown role.mode start zs outcome reader out → Happens shown role o bytes zs cut outcome reader out
has_served {D = D} shown role o start bytes zs log cut outcome reader out cluster replica origin opened known anew over =
    subst (λ (x : Result Unit ServerFault). Happens shown role o bytes zs cut x reader out) (sym over.2) (go over.1 over.3 over.4)
  where
    served : (ended : Result Unit ServeFault) → Ends role.mode (dialect_of start.replica) (crashes start.digest shown.seen shown.moment shown.left_since start.device over.0.device) start.replica (record { at = 0; bytes = zs }) out.before out.after ended over.0.replica
        → Fails shown start.device over.0.device ended reader out → HasServed shown role o bytes zs cut ended reader out
    served ended ends fails = record {
      start = start;
      cluster = cluster;
      replica = replica;
      origin = origin;
      opened = opened;
      log = log;
      known = known;
      anew = anew;
      end = over.0;
      ends = ends;
      fails = fails;
    }

    go : (ended : Result Unit ServeFault) → Ends role.mode (dialect_of start.replica) (crashes start.digest shown.seen shown.moment shown.left_since start.device over.0.device) start.replica (record { at = 0; bytes = zs }) out.before out.after ended over.0.replica
        → Fails shown start.device over.0.device ended reader out → Happens shown role o bytes zs cut (of_serve ended) reader out
    go (Ok x) ends fails = served (Ok x) ends fails
    go (Err why) ends fails = served (Err why) ends fails

-- What was cut off is reported, and then how it ended.

pub reported_twice : (a b c : Option (List ℕ)) (first second third : Bool) (xs ys : List ℕ) → Reported (output a b first second) xs → (second ≡ true → third ≡ true) → Reported (output b c second third) ys → Reported (output a c first third) (xs ++ ys)
reported_twice a b c first second third xs ys before stays after = elim before [
  | inl failed ↦ inl (stays failed)
  | inr wrote ↦ elim after [
    | inl failed ↦ inl failed
    | inr more ↦ inr (appends_twice a b c xs ys wrote more)
  ]
]

-- What was reported before, and then how it ended, on a fault output that stayed as it was in between.
pub ends_after :
    {F : Type 0} (held : F → Option (List ℕ)) (has_failed : F → Bool) (outcome : Result Unit ServerFault) (status : Status) (a b b' c : F) (xs : List ℕ) → Reported (became held has_failed a b) xs → b' ≡ b →
    (has_failed b' ≡ true → has_failed c ≡ true) → EndsWith [] outcome status (became held has_failed b' c) → EndsWith xs outcome status (became held has_failed a c)
ends_after {F = F} held has_failed outcome status a b b' c xs reported same stays ended = go outcome ended
  where
    before : Reported (became held has_failed a b') xs
    before = subst (λ (x : F). Reported (became held has_failed a x) xs) (sym same) reported

    twice : (ys : List ℕ) → Reported (became held has_failed b' c) ys → Reported (became held has_failed a c) (xs ++ ys)
    twice ys more = reported_twice (held a) (held b') (held c) (has_failed a) (has_failed b') (has_failed c) xs ys before stays more

    go : (outcome : Result Unit ServerFault) → EndsWith [] outcome status (became held has_failed b' c) → EndsWith xs outcome status (became held has_failed a c)
    go (Ok x) h = (h.0, subst (λ (l : List ℕ). Reported (became held has_failed a c) l) (append-nil xs) (twice [] h.1))
    go (Err e) h = (h.0, twice (line_of e) h.1)

-- what a call has put is reported
pub reported_by : {E : Type 0} (a b : Option (List ℕ)) (first second : Bool) (xs : List ℕ) (r : Result Unit E) → Puts a b first second r xs → Reported (output a b first second) xs
reported_by a b first second xs (Ok x) p = inr p.0
reported_by a b first second xs (Err e) p = inl p

pub concludes_after :
    {F E : Type 0} (held : F → Option (List ℕ)) (has_failed : F → Bool) (cut reported : Option Cut) (outcome : Result Unit ServerFault) (status : Status) (a b b' c : F) (r : Result Unit E) → reported ≡ cut →
    Puts (held a) (held b) (has_failed a) (has_failed b) r (reported_first reported) → b' ≡ b → (has_failed b' ≡ true → has_failed c ≡ true) → EndsWith [] outcome status (became held has_failed b' c) →
    EndsWith (reported_first cut) outcome status (became held has_failed a c)
concludes_after held has_failed cut reported outcome status a b b' c r is q same stays h =
    ends_after held has_failed outcome status a b b' c (reported_first cut)
    (reported_by (held a) (held b) (has_failed a) (has_failed b) (reported_first cut) r (subst (λ (z : Option Cut). Puts (held a) (held b) (has_failed a) (has_failed b) r (reported_first z)) is q)) same stays h

-- where the device failed, it did so first for the reason that is reported
pub is_failure : {D : Type 0} (shown : Shown D) (device : D) (why : OpenFault) → Names why (shown.why device) → IsFailure shown why
is_failure shown device open_.OutOfRange names = tt
is_failure shown device open_.Memory names = tt
is_failure shown device (open_.Failed cause) names = (device, names)
is_failure shown device open_.NoLog names = tt
is_failure shown device open_.LogExists names = tt
is_failure shown device open_.OtherLog names = tt
is_failure shown device (open_.Log fault) names = tt
is_failure shown device (open_.NotClocked number) names = tt
