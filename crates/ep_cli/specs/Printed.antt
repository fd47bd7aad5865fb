-- What was made before it is printed, and what becomes of it then.
use Rattle.std.specs.Prelude.{◌≡◌, ℕ, true, List, Result, Ok, Err}
use Rattle.ep_cli.specs.Outputs.{Output, Wrote, WroteNothing}
use Rattle.ep_cli.specs.declared.made.Made.{Made}
use Rattle.ep_cli.specs.declared.status.Status.{Status}

-- Of the bytes zs that were read: on whatever output what was made is printed, this is done. Where nothing was made, nothing is printed.
abbrev pub Makes : {E : Type 0} → (Result Status E → List ℕ → Output → Type 0) → Result Made E → List ℕ → Type 0
Makes Does (Ok made) zs = (out : Output) → Wrote out made.text.items → Does (Ok made.status) zs out
Makes Does (Err e) zs = (out : Output) → WroteNothing out → Does (Err e) zs out

-- a text is printed, or the output has failed, and this fault says so
abbrev pub IsTextPut : {E : Type 0} → E → List ℕ → Status → Result Status E → Output → Type 0
IsTextPut unwritten text status (Ok found) out = (found ≡ status) × Wrote out text × (out.failed ≡ out.had_failed)
IsTextPut unwritten text status (Err e) out = (e ≡ unwritten) × (out.failed ≡ true)

-- what was made is printed so; where nothing was made, nothing is printed
abbrev pub IsPut : {E : Type 0} → E → Result Made E → Result Status E → Output → Type 0
IsPut unwritten (Ok made) outcome out = IsTextPut unwritten made.text.items made.status outcome out
IsPut unwritten (Err e) (Ok status) out = ⊥
IsPut unwritten (Err e) (Err f) out = (f ≡ e) × WroteNothing out × (out.failed ≡ out.had_failed)
