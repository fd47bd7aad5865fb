-- A script's head and the replicas that it names are of one version, with one opening.
use Rattle.std.proofs.Common.{◌≡◌, ◌≤◌, Result, Ok, Err, IfOk, ap, arith, subst, sym, ◌∙◌}
use Rattle.ep_base.specs.Versions.{version_number}
use Rattle.ep_base.specs.declared.version.Version.{Version}
use Rattle.ep_base.specs.declared.version_kind.VersionKind.TheVariants.{V1, V2, V3}
use Rattle.ep_journal.specs.Openings as journal
use Rattle.ep_script.specs.Heads as script
use Rattle.ep_replay.specs.Heads.{opening_of}

pub opens : (v : Version) (o : script.Opening) → script.OpensIn v o → journal.OpensIn v (opening_of o)
opens V1 o h = absurd h
opens V2 o h = ap opening_of h
opens (V3 g) o h = tt

late : (v : Version) (o : script.Opening) → script.OpensIn v o → 2 ≤ version_number v
late V1 o h = absurd h
late V2 o h = omega arith
late (V3 g) o h = omega arith

pub known :
    {E : Type 0} (r : Result journal.Beginning E) (v : Version) (o : journal.Opening) (h : script.Head) → v ≡ h.version
    → script.OpensIn h.version h.opening → IfOk r (λ b. b ≡ record { version = v; opening = o })
    → IfOk r (λ b. 2 ≤ version_number b.version)
known (Err e) v o h is opens made = tt
known (Ok b) v o h is opens made =
    let of : b.version ≡ h.version = ap (λ (x : journal.Beginning). x.version) made ∙ is in
    subst (λ (u : Version). 2 ≤ version_number u) (sym of) (late h.version h.opening opens)
