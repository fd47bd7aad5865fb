-- What a generation opens with, log by log.
use Rattle.std.proofs.Common.{◌≡◌, inl, inr, ℕ, ◌+◌, zero, suc, List, Option, Some, Result, Ok, Err, IfOk, refl, sym, ap, subst, ◌∙◌, arith}
use Rattle.ep_base.specs.Versions.{generation_of}
use Rattle.ep_base.specs.declared.version.Version.{Version}
use Rattle.ep_journal.specs.Entries.{Log}
use Rattle.ep_log.specs.Origins.{Origin}
use Rattle.ep_log.specs.Reading.{IsRead}
use Rattle.ep_log.specs.declared.log_version.LogVersion.{LogVersion}
use Rattle.ep_opening.specs.Bytes.{file_digest}
use Rattle.ep_opening.specs.Closing.{IsClosing}
use Rattle.ep_opening.specs.Files.{File}
use Rattle.ep_opening.specs.References.{IsReference, Reference, reference_digest}
use Rattle.ep_server.specs.Replays.{HasOpened, IsKept, IsNamed, IsReplayed, IsWholeLog, origin_from}
use Rattle.ep_server.specs.declared.folder_fault.FolderFault.{FolderFault}
use Rattle.ep_server.specs.declared.named_file.NamedFile.{NamedFile}
use Rattle.ep_server.specs.declared.named_log.NamedLog.{NamedLog}
use Rattle.ep_server.specs.declared.named_reference.NamedReference.{NamedReference}

-- by a file that is kept

starts : (n : NamedFile) → IsKept n → HasOpened n
starts n kept = record { from = n; kept = kept; count = 0; lead = refl }

pub by_digest : (n : NamedFile) (file : File) → n.file ≡ file → n.digest ≡ file_digest file → HasOpened n
by_digest n file same is = starts n (inl (is ∙ ap (λ (f : File). file_digest f) (sym same)))

pub by_reference : (n : NamedFile) (file : File) (g : ℕ) (r : NamedReference) → n.file ≡ file → file.generation ≡ g → IsNamed g r → n.digest ≡ r.digest → HasOpened n
by_reference n file g r same of named digest =
    let here : g ≡ n.file.generation = sym of ∙ ap (λ (f : File). f.generation) (sym same) in
    starts n (inr (r, subst (λ (k : ℕ). IsNamed k r) here named, digest))

-- by a log more

of_next : (from to : NamedFile) (log : List ℕ) → IsReplayed from log to → to.file.generation ≡ from.file.generation + 1
of_next from to log r =
    let next : to.file.generation ≡ suc from.file.generation = r.closes.generation ∙ ap (λ (v : Version). suc (generation_of v)) r.read.version in
    omega arith

by_a_log : (from to : NamedFile) (log : List ℕ) → HasOpened from → IsReplayed from log to → HasOpened to
by_a_log from to log h r = record { from = h.from; kept = h.kept; count = suc h.count; lead = (from, h.lead, log, r) }

pub opened_by : (from : NamedFile) (log : List ℕ) (r : Result NamedFile FolderFault) → HasOpened from → IfOk r (IsReplayed from log) → IfOk r HasOpened
opened_by from log (Ok to) h is = by_a_log from to log h is
opened_by from log (Err e) h is = tt

pub next_of : (from : NamedFile) (log : List ℕ) (r : Result NamedFile FolderFault) → IfOk r (IsReplayed from log) → IfOk r (λ to. to.file.generation ≡ from.file.generation + 1)
next_of from log (Ok to) is = of_next from to log is
next_of from log (Err e) is = tt

-- parts of a reference and of a log

pub is_named : (r : Reference) (n : NamedReference) → IsReference r → n.reference ≡ r → Some n.digest ≡ Some (reference_digest r) → IsNamed r.generation n
is_named r n is same digest =
    let here : n.digest ≡ reference_digest r = (let s : Some n.digest ≡ Some (reference_digest r) = digest in cc) in
    record {
      is = subst IsReference (sym same) is;
      generation = ap (λ (x : Reference). x.generation) same;
      digest = here ∙ ap (λ (x : Reference). reference_digest x) (sym same);
    }

pub read_to_end :
    (o : Origin) (bytes : List ℕ) (v : LogVersion) (j : Log) (whole behind : ℕ) (r : Result Log FolderFault) → IsRead o bytes v j whole behind → IfOk r (λ it. it ≡ j) → IfOk r (λ it. behind ≡ 0) →
    IfOk r (λ it. (version : LogVersion) × (end : ℕ) × IsRead o bytes version it end 0)
read_to_end o bytes v j whole behind (Ok it) read same none =
    (v, whole, subst (λ (x : Log). IsRead o bytes v x whole 0) (sym same) (subst (λ (n : ℕ). IsRead o bytes v j whole n) none read))
read_to_end o bytes v j whole behind (Err e) read same none = tt

pub is_replayed :
    (from to : NamedFile) (log : NamedLog) (o : Origin) (j : Log) (next : ℕ) → IsWholeLog log.named.reference log.bytes.items → IsNamed (from.file.generation + 1) log.named → o ≡ origin_from from →
    ((version : LogVersion) × (end : ℕ) × IsRead o log.bytes.items version j end 0) → j.faults ≡ from.file.faults → next ≡ log.named.reference.faults → IsClosing j next to.file →
    to.digest ≡ log.named.digest → IsReplayed from log.bytes.items to
is_replayed from to log o j next whole named begun read size here closes digest =
    record {
      reference = log.named;
      named = named;
      whole = whole;
      version = read.0;
      journal = j;
      end = read.1;
      read = subst (λ (x : Origin). IsRead x log.bytes.items read.0 j read.1 0) begun read.2;
      size = size;
      closes = subst (λ (n : ℕ). IsClosing j n to.file) here closes;
      digest = digest;
    }
