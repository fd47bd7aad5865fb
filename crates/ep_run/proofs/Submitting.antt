-- One line's task more.
use Rattle.std.proofs.Common.{◌≡◌, ℕ, List, [], ◌∷◌, ◌++◌, refl}
use Rattle.ep_rules.specs.declared.receipt.Receipt.{Receipt}
use Rattle.ep_script.specs.declared.agenda_line.AgendaLine.{AgendaLine}
use Rattle.ep_run.specs.Asking.{proposers_after, proposers_of, IsSubmission, AreSubmissions}
use Rattle.ep_run.specs.declared.submission.Submission.{Submission}

pub submissions_more : (ps : List ℕ) (rs : List Receipt) (ls : List (ℕ × AgendaLine)) (l : ℕ × AgendaLine) (ts : List Submission) (t : Submission) → AreSubmissions ps rs ls ts → IsSubmission (proposers_of ps ls) rs l t → AreSubmissions ps rs (ls ++ l ∷ []) (ts ++ t ∷ [])
submissions_more ps rs [] l [] t h new = (new, tt)
submissions_more ps rs [] l (x ∷ xs) t h new = absurd h
submissions_more ps rs (m ∷ ms) l [] t h new = absurd h
submissions_more ps rs (m ∷ ms) l (x ∷ xs) t h new = (h.0, submissions_more (proposers_after ps m.1) rs ms l xs t h.1 new)

pub proposers_more : (ps : List ℕ) (ls : List (ℕ × AgendaLine)) (l : ℕ × AgendaLine) → proposers_of ps (ls ++ l ∷ []) ≡ proposers_after (proposers_of ps ls) l.1
proposers_more ps [] l = refl
proposers_more ps (m ∷ ms) l = proposers_more (proposers_after ps m.1) ms l
