-- What the reader's answers say of the bytes.
use Rattle.std.proofs.Common.{◌≡◌, ◌≢◌, ℕ, List, [], Result, Ok, Err, refl, sym, ap, ◌∙◌}
use Rattle.std.specs.Prelude.{IfErr, IfOk}
use Rattle.ep_frame.specs.Spelling.{AreBytes}
use Rattle.ep_bundle.specs.Reading.{Left}
use Rattle.ep_opening.specs.Bytes.{opening_bytes}
use Rattle.ep_opening.specs.Files.{File, IsFile}
use Rattle.ep_opening.specs.Reading.{IsNone, IsRefused, IsReadAs, FileReading, file}
use Rattle.ep_opening.specs.declared.opening_fault.OpeningFault.{OpeningFault}
use Rattle.ep_opening.specs.declared.opening_fault.OpeningFault.TheVariants.{Memory, CutShort, Damaged, Wrong}
use Rattle.ep_opening.proofs.ReadFiles.{file_is}
use Rattle.ep_opening.proofs.WrittenFiles.{files_back}

apart : (o : FileReading File) (e : OpeningFault) (f : File) (l : Left) → o ≡ Err e → o ≡ Ok (f, l) → ⊥
apart (Ok p) e f l h k = absurd (cc)
apart (Err x) e f l h k = absurd (cc)

none_has : (bs : List ℕ) (e : OpeningFault) → file bs ≡ Err e → IsNone bs
none_has bs e h f k is = let b = files_back f k in apart (file bs) e f (record { at = b.0; bytes = [] }) h (ap (λ (x : List ℕ). file x) is ∙ b.1)

pub reported_bytes : (bs : List ℕ) (r : Result File OpeningFault) → AreBytes bs → IsReadAs (file bs) r → IfOk r (λ f. bs ≡ opening_bytes f)
reported_bytes bs (Ok f) h is = file_is bs f is.0 h is.1
reported_bytes bs (Err e) h is = tt

pub reported_refusal : (bs : List ℕ) (r : Result File OpeningFault) → IsReadAs (file bs) r → IfErr r (λ e. IsRefused e bs)
reported_refusal bs (Ok f) is = tt
reported_refusal bs (Err Memory) is = tt
reported_refusal bs (Err (CutShort at)) is = (is, none_has bs (CutShort at) is)
reported_refusal bs (Err (Damaged at)) is = (is, none_has bs (Damaged at) is)
reported_refusal bs (Err (Wrong at name)) is = (is, none_has bs (Wrong at name) is)
