-- The bundle of what was upgraded.
use Rattle.std.proofs.Common.{◌≡◌, ◌≤◌, ◌<◌, ◌⊎◌, inl, inr, ℕ, Bool, false, List, [], ◌++◌, append-nil, Ok, Err, refl, ap, sym, subst, ◌∙◌, arith, ⊎_elim}
use Rattle.std.proofs.lemmas.Bool.{cases_lt}
use Rattle.std.specs.Prelude.{◌||◌}
use Rattle.ep_base.specs.Devices.{FailsAsReported}
use Rattle.ep_base.specs.Versions.{version_number}
use Rattle.ep_base.specs.declared.version.Version.{Version}
use Rattle.ep_base.specs.declared.version_kind.VersionKind.TheVariants.{V2}
use Rattle.ep_bundle.specs.Bytes.{bundle_bytes}
use Rattle.ep_bundle.specs.ReadLaws.{Begins}
use Rattle.ep_bundle.specs.Reading.{Left}
use Rattle.ep_bundle.specs.declared.bundle_fault.BundleFault.{BundleFault}
use Rattle.ep_bundle.specs.declared.bundle_fault.BundleFault.TheVariants as bundle
use Rattle.ep_frame.specs.Spelling.{AreBytes}
use Rattle.ep_journal.specs.Entries.{Collected}
use Rattle.ep_journal.specs.Upgrading.{IsUpgraded}
use Rattle.ep_rules.specs.declared.receipt.Receipt.{Receipt}
use Rattle.ep_cli.specs.Outputs.{Output, Wrote}
use Rattle.ep_cli.specs.declared.made.Made.{Made}
use Rattle.ep_main.specs.Faults.{of_bundle, is_read, is_write}
use Rattle.ep_main.specs.Upgrades.{IsSecond, IsEarlyInThird, IsLateAsItIs, IsThirdFault, Reads, ReadsEarly}
use Rattle.ep_main.specs.declared.engine_fault.EngineFault.{EngineFault}
use Rattle.ep_main.specs.declared.engine_fault.EngineFault.TheVariants.{Script, BadBundle, NotARun, Memory, Read, Write}
use Rattle.ep_bundle.specs.Respelled.{IsNoThird, IsThird}

pub rewritten :
    (journals upgraded : Collected) (receipts kept : List Receipt) (zs text : List ℕ) (end : Left) (out : Output) →
    ReadsEarly zs (Ok ((journals, receipts), end)) → IsUpgraded journals upgraded → (journals.version ≡ V2 → upgraded ≡ journals) → kept ≡ receipts →
    text ≡ bundle_bytes upgraded kept → (AreBytes zs → zs ≡ bundle_bytes journals receipts) → Wrote out text → IsSecond zs out
rewritten journals upgraded receipts kept zs text end out read upgrade stays same is canonical wrote =
    let bytes : text ≡ bundle_bytes upgraded receipts = is ∙ ap (λ rs. bundle_bytes upgraded rs) same in
    record {
      journals = journals;
      receipts = receipts;
      end = end;
      read = read;
      upgraded = upgraded;
      upgrade = upgrade;
      wrote = subst (Wrote out) bytes wrote;
      same = λ version are. subst (Wrote out) (bytes ∙ ap (λ (j : Collected). bundle_bytes j receipts) (stays version) ∙ sym (canonical are)) wrote;
    }

-- bytes of which nothing is left
pub all_begun : (l : Left) (bs : List ℕ) (end : Left) → Begins l bs end × (end.bytes ≡ []) → l.bytes ≡ bs
all_begun l bs end h = h.0.bytes ∙ ap (λ (rest : List ℕ). bs ++ rest) h.1 ∙ append-nil bs

-- journals of version 2 stay as they are
pub two_is_late : (v : Version) → v ≡ V2 → 2 ≤ version_number v
two_is_late v is = subst (λ (z : Version). 2 ≤ version_number z) (sym is) (omega arith)

-- In version 3.

pub in_third :
    (journals : Collected) (receipts : List Receipt) (zs text : List ℕ) (end : Left) (out : Output) → Reads zs (Ok ((journals, receipts), end)) →
    (version_number journals.version ≤ 2 → IsThird journals receipts text) → (3 ≤ version_number journals.version → text ≡ bundle_bytes journals receipts) →
    (AreBytes zs → zs ≡ bundle_bytes journals receipts) → Wrote out text → IsEarlyInThird zs out ⊎ IsLateAsItIs zs out
in_third journals receipts zs text end out read early late canonical wrote = ⊎_elim
    (λ (low : version_number journals.version < 3).
    inl (record { journals = journals; receipts = receipts; end = end; read = read; early = omega arith; text = text; third = early (omega arith); wrote = wrote }))
    (λ (high : 3 ≤ version_number journals.version). inr (record {
      journals = journals;
      receipts = receipts;
      end = end;
      read = read;
      late = high;
      wrote = subst (Wrote out) (late high) wrote;
      same = λ are. subst (Wrote out) (late high ∙ sym (canonical are)) wrote;
    }))
    (cases_lt (version_number journals.version) 3)

pub third_fault_of : (c : Collected) (rs : List Receipt) (b : BundleFault) → IsNoThird c rs b → IsThirdFault c rs (of_bundle b)
third_fault_of c rs bundle.Memory h = tt
third_fault_of c rs bundle.ReadFailed h = absurd h
third_fault_of c rs (bundle.BadBundle field) h = h
third_fault_of c rs (bundle.NotARun replica entry) h = h

-- no device failed
no_device : (c : Collected) (rs : List Receipt) (e : EngineFault) → IsThirdFault c rs e → (is_read e ≡ false) × (is_write e ≡ false)
no_device c rs (Script line) h = absurd h
no_device c rs (BadBundle field) h = (refl, refl)
no_device c rs (NotARun replica entry) h = (refl, refl)
no_device c rs Memory h = (refl, refl)
no_device c rs Read h = absurd h
no_device c rs Write h = absurd h

third_device :
    (c : Collected) (rs : List Receipt) (e : EngineFault) → (version_number c.version ≤ 2 → IsThirdFault c rs e) → (3 ≤ version_number c.version → e ≡ Memory) →
    (is_read e ≡ false) × (is_write e ≡ false)
third_device c rs e early late = ⊎_elim
    (λ (low : version_number c.version < 3). no_device c rs e (early (omega arith)))
    (λ (high : 3 ≤ version_number c.version). no_device c rs e (subst (IsThirdFault c rs) (sym (late high)) tt))
    (cases_lt (version_number c.version) 3)

pub third_reported :
    (c : Collected) (rs : List Receipt) (e : EngineFault) (had has : Bool) → (version_number c.version ≤ 2 → IsThirdFault c rs e) → (3 ≤ version_number c.version → e ≡ Memory) → has ≡ (false || had) →
    FailsAsReported {T = Made} is_read (Err e) had has
third_reported c rs e had has early late flag = flag ∙ ap (λ (b : Bool). b || had) (sym (third_device c rs e early late).0)

pub third_unwritten : (c : Collected) (rs : List Receipt) (e : EngineFault) → (version_number c.version ≤ 2 → IsThirdFault c rs e) → (3 ≤ version_number c.version → e ≡ Memory) → is_write e ≡ false
third_unwritten c rs e early late = (third_device c rs e early late).1
