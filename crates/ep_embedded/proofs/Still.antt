-- A node whose replica alone has changed, and the bytes that it lends.
use Rattle.std.proofs.Common.{◌≡◌, ℕ, ◌+◌, ◌≤◌, ◌++◌, Bool, true, false, List, [], length, take, drop, Option, None, Some, inl, inr, refl, sym, ap, ◌∙◌, subst, arith, length-append}
use Rattle.std.specs.Prelude.{Result, Ok, Err, OnOk}
use Rattle.std.proofs.lemmas.Bool.{false≢true}
use Rattle.std.proofs.lemmas.List.{take-append-le}
use Rattle.ep_device.specs.declared.host_device.HostDevice.{HostDevice}
use Rattle.ep_journal.specs.declared.entry.Entry.{Entry}
use Rattle.ep_journal.specs.declared.step_fault.StepFault.{StepFault}
use Rattle.ep_log.specs.Bytes.{records_in}
use Rattle.ep_log.specs.declared.log_version.LogVersion.TheVariants.{Three}
use Rattle.ep_node.specs.Nodes.{IsQuiet, Logged, said, unwritten}
use Rattle.ep_opening.specs.Bytes.{opening_bytes}
use Rattle.ep_opening.specs.Closing.{IsClosing}
use Rattle.ep_opening.specs.Files.{File}
use Rattle.ep_replica.specs.Kept.{Kept}
use Rattle.ep_replica.specs.Pending.{IsHeldUp}
use Rattle.ep_serve.specs.Answering.{AllAnswered}
use Rattle.ep_serve.specs.declared.pending_answer.PendingAnswer.{PendingAnswer}
use Rattle.ep_journal.specs.declared.refusal.Refusal.TheVariants.{Step}
use Rattle.ep_embedded.specs.Hosting.{AreRecords, Buffer, Grows, Hosting, IsHosted, IsLent, IsOnDisk}
use Rattle.ep_embedded.specs.Taking.{IsNotExecuted}
use Rattle.ep_embedded.specs.Reporting.{HasClosed, HasLent, HasNoted, HasPrepared, HasReported, IsUnnoted, IsWritten, LendsNow, MayReport}
use Rattle.ep_embedded.proofs.Writing.{has_written}
use Rattle.ep_embedded.specs.declared.sync_fault.SyncFault.TheVariants.{NotAll}
use Rattle.ep_embedded.specs.declared.taking_fault.TakingFault.TheVariants.{Refused}

-- the node with more entries
abbrev longer : Logged HostDevice → List Entry → Logged HostDevice
longer n more = record n { replica = record n.replica { entries = n.replica.entries ++ more } }

-- the records that are lent are of entries that stay where they are
same_records : (n : Logged HostDevice) (more : List Entry) (durable : ℕ) (bytes : List ℕ) → n.synced ≤ length n.replica.entries → AreRecords n durable bytes → AreRecords (longer n more) durable bytes
same_records n more durable bytes within r = record {
  before = r.before;
  within = r.within;
  are = r.are ∙ ap (λ (es : List Entry). records_in Three n.replica.version r.before (said r.before (drop durable es))) (sym (take-append-le n.synced n.replica.entries more within));
  end = r.end;
}

lends_on : (n : Logged HostDevice) (more : List Entry) (durable : ℕ) (lent : Option Buffer) → n.synced ≤ length n.replica.entries → IsLent n false durable lent → IsLent (longer n more) false durable lent
lends_on n more durable None within lends = lends
lends_on n more durable (Some buffer) within lends = same_records n more durable buffer.items within lends

with_more : (n : Logged HostDevice) (more : List Entry) (durable : ℕ) (lent : Option Buffer) → IsHosted n false durable lent → IsHosted (longer n more) false durable lent
with_more n more durable lent is = record {
  works = is.works;
  within = let within = is.within in let long = length-append n.replica.entries more in omega (arith, within, long);
  lends = lends_on n more durable lent is.within is.lends;
}

grown_so : (n n' : Logged HostDevice) → n' ≡ record n { replica = n'.replica } → (g : Grows n.replica n'.replica) → longer n g.more ≡ n'
grown_so n n' same g = sym (same ∙ ap (λ (k : Kept). record n { replica = k }) g.is)

-- the log has begun, and the replica has taken more: it works on, and lends what it lent
pub still_hosted : (n n' : Logged HostDevice) (is_anew : Bool) (durable : ℕ) (lent : Option Buffer) → is_anew ≡ false → n' ≡ record n { replica = n'.replica } → Grows n.replica n'.replica
    → IsHosted n is_anew durable lent → IsHosted n' is_anew durable lent
still_hosted n n' true durable lent begun same g is = absurd (false≢true (sym begun))
still_hosted n n' false durable lent begun same g is = subst (λ (x : Logged HostDevice). IsHosted x false durable lent) (grown_so n n' same g) (with_more n g.more durable lent is)

-- (h0 is the node h, as its fields say)
pub not_executed : (h0 h : Hosting) (n' : Logged HostDevice) (fault : StepFault) → h0 ≡ h → h.is_anew ≡ false → IsHeldUp h0.node.replica fault × (n' ≡ h0.node) → IsNotExecuted h (Refused (Step fault)) (record h0 { node = n' })
not_executed h0 h n' fault same begun held = (begun, subst (λ (x : Hosting). IsHeldUp x.node.replica fault) same held.0, ap (λ (n : Logged HostDevice). record h0 { node = n }) held.1 ∙ same)

pub closed : (h0 h : Hosting) (next : ℕ) (file : File) (bytes : Buffer) → h0 ≡ h → IsOnDisk h → IsClosing h0.node.replica next file → bytes.items ≡ opening_bytes file → HasClosed h next (record h0 { answers = bytes })
closed h0 h next file bytes same on_disk closing reported = subst (λ (x : Hosting). HasClosed x next (record h0 { answers = bytes })) same (record {
  on_disk = subst (λ (x : Hosting). IsOnDisk x) (sym same) on_disk;
  file = file;
  closing = closing;
  reported = reported;
  is = refl;
})

pub not_all : (h0 h : Hosting) (bytes : Buffer) (count : ℕ) → h0 ≡ h → h0.lent ≡ Some bytes → ¬ (length bytes.items ≡ count) → IsUnnoted h count NotAll
not_all h0 h bytes count same lent other = (bytes, ap (λ (x : Hosting). x.lent) (sym same) ∙ lent, other)

pub noted : (h0 h : Hosting) (bytes : Buffer) (count w : ℕ) → h0 ≡ h → h0.lent ≡ Some bytes → length bytes.items ≡ count → w ≡ h0.node.synced → HasNoted h count (record h0 { lent = None; is_anew = false; durable = w })
noted h0 h bytes count w same lent long is = subst (λ (x : Hosting). HasNoted x count (record h0 { lent = None; is_anew = false; durable = w })) same (inl (record {
  bytes = bytes;
  lent = lent;
  long = long;
  is = ap (λ (d : ℕ). record h0 { lent = None; is_anew = false; durable = d }) is;
}))

pub log_written : (h0 h : Hosting) (bytes : Buffer) (w : ℕ) → h0 ≡ h → h0.lent ≡ Some bytes → IsHosted h0.node h0.is_anew h0.durable h0.lent → w ≡ h0.node.synced → IsWritten h (record h0 { lent = None; is_anew = false; durable = w })
log_written h0 h bytes w same lent is to = subst (λ (x : Hosting). IsWritten x (record h0 { lent = None; is_anew = false; durable = w })) same
    (λ log asked found fits was. has_written h0.node h0.is_anew h0.durable w bytes asked log is.within (subst (λ (o : Option Buffer). IsLent h0.node h0.is_anew h0.durable o) lent is.lends) to (sym lent ∙ found) fits was)

pub lends_now : (h0 h : Hosting) (n' : Logged HostDevice) (bytes : Buffer) → h0 ≡ h → bytes.items ≡ unwritten h.node
    → n' ≡ record h0.node { device = n'.device; synced = length h0.node.replica.entries; on_disk = h0.node.on_disk + length bytes.items } → LendsNow h (record h0 { node = n'; lent = Some bytes })
lends_now h0 h n' bytes same are is = subst (λ (x : Hosting). LendsNow x (record h0 { node = n'; lent = Some bytes })) same (record {
  bytes = bytes;
  are = subst (λ (x : Hosting). bytes.items ≡ unwritten x.node) (sym same) are;
  is = ap (λ (n : Logged HostDevice). record h0 { node = n; lent = Some bytes }) is;
})

pub has_lent : {E : Type 0} (h h' : Hosting) (result : Result Unit E) → h.lent ≡ None → ¬ IsOnDisk h → OnOk result (LendsNow h h') → OnOk result (HasLent h h')
has_lent h h' (Ok _) none not now = inr (inr (none, not, now))
has_lent h h' (Err fault) none not now = tt

pub reported_now : (h0 h : Hosting) (bytes : Buffer) (rest : Option Buffer) → h0 ≡ h → h0.held ≡ Some bytes → MayReport h → rest ≡ None → HasReported h true (record h0 { held = rest; answers = bytes })
reported_now h0 h bytes rest same held may none = subst (λ (x : Hosting). HasReported x true (record h0 { held = rest; answers = bytes })) same
    (bytes, held, subst (λ (x : Hosting). MayReport x) (sym same) may, ap (λ (r : Option Buffer). record h0 { held = r; answers = bytes }) none)

-- all that was taken is lent, and the answers to what was asked are held
pub prepared : (h0 h : Hosting) (n' : Logged HostDevice) (dues asked : List PendingAnswer) (after most until : ℕ) (bytes : Buffer) → h0 ≡ h → IsQuiet h.node → h.held ≡ None
    → asked ≡ h0.dues → AllAnswered h0.node.replica asked after most bytes.items → n' ≡ h0.node → dues ≡ [] → until ≡ length n'.replica.entries
    → HasPrepared h after most (record h0 { node = n'; dues = dues; held = Some bytes; until = until })
prepared h0 h n' dues asked after most until bytes same quiet none to reports is empty all =
    subst (λ (x : Hosting). HasPrepared x after most (record h0 { node = n'; dues = dues; held = Some bytes; until = until })) same (record {
      lent = subst (λ (x : Hosting). IsQuiet x.node) (sym same) quiet;
      none = ap (λ (x : Hosting). x.held) same ∙ none;
      bytes = bytes;
      reports = subst (λ (ds : List PendingAnswer). AllAnswered h0.node.replica ds after most bytes.items) to reports;
      is = λ t. record h0 { node = is t; dues = empty t; held = Some bytes; until = (all ∙ ap (λ (n : Logged HostDevice). length n.replica.entries) is) t };
    })
