-- What is sent, reported from the first frame on.
use Rattle.std.proofs.Common.{◌≡◌, ℕ, ◌+◌, List, ◌∷◌, ◌++◌, Result, Ok, Err, codes, sym, ap, ◌∙◌}
use Rattle.std.specs.Prelude.{OnOk}
use Rattle.ep_view.specs.Lines.{words_at}
use Rattle.ep_view.proofs.Sending.{joined}
use Rattle.ep_trace.specs.Lines.{receiver_text, more_sent, sent_text}

pub sent :
    {T E : Type 0} (res : Result T E) (number : ℕ) (fs : List (List ℕ)) (first : List ℕ) (rest : List (List ℕ)) (t e n : List ℕ) →
    e ≡ t ++ codes "; sends " → OnOk res (n ≡ e ++ receiver_text number first ++ more_sent (number + 1) (words_at first) rest) → fs ≡ first ∷ rest →
    OnOk res (n ≡ t ++ sent_text number fs)
sent (Ok x) number fs first rest t e n is reported are =
    joined t (codes "; sends ") (receiver_text number first) (more_sent (number + 1) (words_at first) rest) e n is reported
    ∙ ap (λ (z : List (List ℕ)). t ++ sent_text number z) (sym are)
sent (Err x) number fs first rest t e n is reported are = reported
