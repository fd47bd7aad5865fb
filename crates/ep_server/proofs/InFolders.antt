-- What a node in a folder has reported, and that it has served.
use Rattle.std.proofs.Common.{◌≡◌, inl, inr, ℕ, Bool, true, List, [], ◌++◌, Option, Some, None, Result, Ok, Err, IfOk, refl, append-nil, ap, sym, subst, ◌∙◌}
use Rattle.std.proofs.KnownBytes.{Appends-nil}
use Rattle.ep_base.specs.Devices.{Puts}
use Rattle.ep_log.specs.Origins.{Origin}
use Rattle.ep_node.specs.Nodes.{IsQuiet, Logged, origin_of}
use Rattle.ep_node.specs.declared.cut.Cut.{Cut}
use Rattle.ep_opening.specs.Bytes.{file_digest}
use Rattle.ep_opening.specs.Files.{File}
use Rattle.ep_serve.specs.Lasting.{crashes}
use Rattle.ep_serve.specs.Serving.{dialect_of, Ends}
use Rattle.ep_serve.specs.declared.mode.Mode.{Mode}
use Rattle.ep_serve.specs.declared.serve_fault.ServeFault.{ServeFault}
use Rattle.ep_server.proofs.Serving.{reported_by, reported_twice}
use Rattle.ep_cli.specs.Outputs.{Input, Output, output, Reported, WroteNothing}
use Rattle.ep_server.specs.Served.{reported_first, of_serve, Fails, HappensThere, HasServedThere, IsOfFile, IsOver, IsUnready, Shown, ReportsCut, ReportsCuts}
use Rattle.ep_server.specs.Replays.{HasOpened, origin_from}
use Rattle.ep_server.specs.declared.named_file.NamedFile.{NamedFile}
use Rattle.ep_server.specs.declared.server_fault.ServerFault.{ServerFault}
use Rattle.ep_server.specs.declared.server_fault.ServerFault.TheVariants.{Open, Serve, Folder}

-- nothing is reported where nothing is written
pub reports_nothing : (a : Option (List ℕ)) (first : Bool) → ReportsCut (output a a first first)
reports_nothing a first = record { cut = None; reported = inr (Appends-nil a); for_good = λ e. e }

-- what was cut off a log is reported
pub reports_cut : {E : Type 0} (cut : Option Cut) (a b : Option (List ℕ)) (first second : Bool) (r : Result Unit E) → Puts a b first second r (reported_first cut) → ReportsCut (output a b first second)
reports_cut cut a b first second r p = record { cut = cut; reported = reported_by a b first second (reported_first cut) r p; for_good = stays r p }
  where
    stays : {E : Type 0} (r : Result Unit E) → Puts a b first second r (reported_first cut) → first ≡ true → second ≡ true
    stays (Ok x) q had = q.1 ∙ had
    stays (Err e) q had = q

-- one log, of two at most
pub one_cut : (a b : Option (List ℕ)) (first second : Bool) → ReportsCut (output a b first second) → ReportsCuts (output a b first second)
one_cut a b first second t = record {
  first = t.cut;
  then_ = None;
  reported = subst (λ (l : List ℕ). Reported (output a b first second) l) (sym (append-nil (reported_first t.cut))) t.reported;
  for_good = t.for_good;
}

pub both_cuts : (a b c : Option (List ℕ)) (first second third : Bool) → ReportsCut (output a b first second) → ReportsCut (output b c second third) → ReportsCuts (output a c first third)
both_cuts a b c first second third t u = record {
  first = t.cut;
  then_ = u.cut;
  reported = reported_twice a b c first second third (reported_first t.cut) (reported_first u.cut) t.reported u.for_good u.reported;
  for_good = λ had. u.for_good (t.for_good had);
}

-- there is no node, and nothing was written
pub unready_there :
    {D : Type 0} (shown : Shown D) (mode : Mode) (faults me : ℕ) (zs : List ℕ) (e : ServerFault) (reader : Input) (out : Output) → IsUnready e → WroteNothing out →
    HappensThere shown mode faults me zs (Err e) reader out
unready_there shown mode faults me zs (Open why) reader out is silent = silent
unready_there shown mode faults me zs (Serve why) reader out is silent = absurd is
unready_there shown mode faults me zs (Folder why) reader out is silent = silent

-- a node of a file has served
pub has_served_there :
    {D : Type 0} (shown : Shown D) (mode : Mode) (faults me : ℕ) (start : Logged D) (zs : List ℕ) (outcome : Result Unit ServerFault) (reader : Input) (out : Output) → IsOfFile faults me start →
    IsOver shown mode start zs outcome reader out → HappensThere shown mode faults me zs outcome reader out
has_served_there {D = D} shown mode faults me start zs outcome reader out of over =
    subst (λ (x : Result Unit ServerFault). HappensThere shown mode faults me zs x reader out) (sym over.2) (go over.1 over.3 over.4)
  where
    go : (ended : Result Unit ServeFault) → Ends mode (dialect_of start.replica) (crashes start.digest shown.seen shown.moment shown.left_since start.device over.0.device) start.replica (record { at = 0; bytes = zs }) out.before out.after ended over.0.replica
        → Fails shown start.device over.0.device ended reader out → HappensThere shown mode faults me zs (of_serve ended) reader out
    go (Ok x) ends fails = record { start = start; of = of; over = (over.0, Ok x, refl, ends, fails) }
    go (Err why) ends fails = record { start = start; of = of; over = (over.0, Err why, refl, ends, fails) }

-- a node that is opened with the origin that a file has
pub of_file :
    {D : Type 0} (file : NamedFile) (faults me who : ℕ) (o : Origin) (node : Logged D) → HasOpened file → faults ≡ file.file.faults → who ≡ me → o ≡ origin_from file → node.replica.faults ≡ faults → node.replica.me ≡ who →
    origin_of node ≡ o → IsOfFile node.replica.faults me node
of_file file faults me who o node opened size mine from cluster replica origin = record {
  file = file;
  opened = opened;
  size = sym (cluster ∙ size);
  origin = origin ∙ from;
  cluster = refl;
  replica = replica ∙ mine;
}

-- the file of a closed generation, which its log names by its own digest
pub begins_with :
    {D : Type 0} (node it : Logged D) (n : NamedFile) (file : File) → n.file ≡ file → n.digest ≡ file_digest file → origin_of node ≡ origin_from n → it ≡ node →
    origin_of it ≡ origin_from (record { file = file; digest = file_digest file })
begins_with {D = D} node it n file same digest is one = ap (λ (x : Logged D). origin_of x) one ∙ is ∙ ap (λ (f : File). origin_from (record { file = f; digest = n.digest })) same ∙ ap (λ (d : List ℕ). origin_from (record { file = file; digest = d })) digest

-- it is for a cluster of this size
pub of_this_size : {D : Type 0} (size me : ℕ) (node it : Logged D) → IsOfFile node.replica.faults me node → it ≡ node → node.replica.faults ≡ size → IsOfFile size me it
of_this_size {D = D} size me node it of same is = subst (λ (n : ℕ). IsOfFile n me it) is (subst (λ (x : Logged D). IsOfFile node.replica.faults me x) (sym same) of)

-- the same node, after a call that hands it on
pub left_as :
    {D E : Type 0} (me : ℕ) (r : Result (Logged D) E) (node : Logged D) → IfOk r (λ it. it ≡ node) → IsQuiet node → IsOfFile node.replica.faults me node →
    IfOk r (λ it. IsQuiet it × IsOfFile it.replica.faults me it)
left_as {D = D} me (Ok it) node same quiet of = subst (λ (n : Logged D). IsQuiet n × IsOfFile n.replica.faults me n) (sym same) (quiet, of)
left_as me (Err e) node same quiet of = tt

-- the same, where it is looked at how many faults its cluster bears
pub sized_as :
    {D E : Type 0} (size me : ℕ) (r : Result (Logged D) E) (node : Logged D) → IfOk r (λ it. (it ≡ node) × (node.replica.faults ≡ size)) → IsQuiet node → IsOfFile node.replica.faults me node →
    IfOk r (λ it. IsQuiet it × IsOfFile size me it)
sized_as {D = D} size me (Ok it) node same quiet of = (subst (λ (n : Logged D). IsQuiet n) (sym same.0) quiet, of_this_size size me node it of same.0 same.1)
sized_as size me (Err e) node same quiet of = tt

pub sized_begins :
    {D E : Type 0} (size : ℕ) (r : Result (Logged D) E) (node : Logged D) (n : NamedFile) (file : File) → IfOk r (λ it. (it ≡ node) × (node.replica.faults ≡ size)) → n.file ≡ file → n.digest ≡ file_digest file →
    origin_of node ≡ origin_from n → IfOk r (λ it. origin_of it ≡ origin_from (record { file = file; digest = file_digest file }))
sized_begins size (Ok it) node n file same named digest origin = begins_with node it n file named digest origin same.0
sized_begins size (Err e) node n file same named digest origin = tt
