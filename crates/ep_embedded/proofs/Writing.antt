-- What a log is once records were written behind it.
use Rattle.std.proofs.Common.{◌≡◌, ℕ, ◌+◌, ◌^◌, ◌≤◌, ◌<◌, Bool, true, false, List, ◌++◌, length, take, drop, Some, refl, sym, ap, ◌∙◌, subst, arith}
use Rattle.std.proofs.lemmas.List.{length-take-le, take-take}
use Rattle.ep_device.specs.declared.host_device.HostDevice.{HostDevice}
use Rattle.ep_journal.specs.declared.entry.Entry.{Entry}
use Rattle.ep_log.specs.Bytes.{records_in}
use Rattle.ep_log.specs.Origins.{Origin}
use Rattle.ep_log.specs.declared.log_version.LogVersion.TheVariants.{Three}
use Rattle.ep_node.proofs.Growing.{log_grown}
use Rattle.ep_node.specs.Nodes.{IsLogOf, Logged, origin_of, said, unwritten}
use Rattle.ep_embedded.specs.Hosting.{AreRecords, Buffer, Hosting, IsHosted, IsLent}
use Rattle.ep_embedded.specs.Reporting.{log_after, LendsNow}

-- records of all behind the first n
grown : (o : Origin) (f me n len : ℕ) (es : List Entry) (log bytes : List ℕ) → n ≤ length es → length log < 2 ^ 64 → IsLogOf o f me (take n es) len log → bytes ≡ records_in Three o.version len (said len (drop n es))
    → IsLogOf o f me es (len + length bytes) (log ++ bytes)
grown o f me n len es log bytes within fits was are =
    let long = was.long in
    (log_grown (Some log) (Some (log ++ bytes)) (λ c. c ≡ log) (λ c. c ≡ log ++ bytes) o f me n len (len + length bytes) es bytes within (omega (arith, long, fits))
    (λ b is. (subst (λ (l : List ℕ). IsLogOf o f me (take n es) len l) (let e : Some log ≡ Some b = is in cc) was, λ c left. left ∙ (let e : Some log ≡ Some b = is in cc)))
    are refl refl (λ l c is left. left ∙ (let e : Some (log ++ bytes) ≡ Some l = is in cc)) (log ++ bytes) refl).0

-- the records of what the node has written and wasn't durable
behind : (n : Logged HostDevice) (durable : ℕ) (log bytes : List ℕ) → n.synced ≤ length n.replica.entries → AreRecords n durable bytes → length log < 2 ^ 64 → IsLogOf (origin_of n) n.replica.faults n.replica.me (take durable n.replica.entries) (length log) log
    → n.on_disk ≡ length log + length bytes → IsLogOf (origin_of n) n.replica.faults n.replica.me (take n.synced n.replica.entries) n.on_disk (log ++ bytes)
behind n durable log bytes within r fits was end =
    let o = origin_of n in
    let f = n.replica.faults in
    let me = n.replica.me in
    let es = take n.synced n.replica.entries in
    let long : length es ≡ n.synced = length-take-le n.synced n.replica.entries within in
    let below = r.within in
    let ends = r.end in
    let here : r.before ≡ length log = omega (arith, ends, end) in
    let first : take durable es ≡ take durable n.replica.entries = take-take durable n.synced n.replica.entries below in
    let are : bytes ≡ records_in Three o.version (length log) (said (length log) (drop durable es)) = r.are ∙ ap (λ (k : ℕ). records_in Three o.version k (said k (drop durable es))) here in
    subst (λ (k : ℕ). IsLogOf o f me es k (log ++ bytes)) (sym end)
    (grown o f me durable (length log) es log bytes (omega (arith, long, below)) fits (subst (λ (l : List Entry). IsLogOf o f me l (length log) log) (sym first) was) are)

-- what was lent, written behind the log or in its place
lies : (n : Logged HostDevice) (is_anew : Bool) (durable : ℕ) (bytes : Buffer) (log : List ℕ) → n.synced ≤ length n.replica.entries → IsLent n is_anew durable (Some bytes) → length log < 2 ^ 64
    → (is_anew ≡ false → IsLogOf (origin_of n) n.replica.faults n.replica.me (take durable n.replica.entries) (length log) log × (n.on_disk ≡ length log + length bytes.items))
    → IsLogOf (origin_of n) n.replica.faults n.replica.me (take n.synced n.replica.entries) n.on_disk (log_after is_anew log bytes.items)
lies n true durable bytes log within lent fits was = lent.1
lies n false durable bytes log within lent fits was = behind n durable log bytes.items within lent fits (was refl).0 (was refl).1

pub has_written : (n : Logged HostDevice) (is_anew : Bool) (durable w : ℕ) (bytes asked : Buffer) (log : List ℕ) → n.synced ≤ length n.replica.entries → IsLent n is_anew durable (Some bytes) → w ≡ n.synced → Some bytes ≡ Some asked → length log < 2 ^ 64
    → (is_anew ≡ false → IsLogOf (origin_of n) n.replica.faults n.replica.me (take durable n.replica.entries) (length log) log × (n.on_disk ≡ length log + length asked.items))
    → IsLogOf (origin_of n) n.replica.faults n.replica.me (take w n.replica.entries) n.on_disk (log_after is_anew log asked.items)
has_written n is_anew durable w bytes asked log within lent to same fits was =
    let one : bytes ≡ asked = cc in
    subst (λ (k : ℕ). IsLogOf (origin_of n) n.replica.faults n.replica.me (take k n.replica.entries) n.on_disk (log_after is_anew log asked.items)) (sym to)
    (lies n is_anew durable asked log within (subst (λ (b : Buffer). IsLent n is_anew durable (Some b)) one lent) fits was)
