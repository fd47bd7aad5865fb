-- How the first seal of a history, and the least stamp of who executes it, are found.
use Rattle.std.specs.Prelude.{ℕ, zero, suc, Bool, false, ◌==◌, ◌||◌, cond, ltb, List, [], ◌∷◌, Option, Some, None, option_map}
use Rattle.ep_base.specs.Interference.{is_seal}
use Rattle.ep_base.specs.declared.reply.Answer.{Answer}
use Rattle.ep_audit.specs.declared.closing.Closing.{Closing}
use Rattle.ep_audit.specs.declared.happening.Happening.{Happening}
use Rattle.ep_rules.specs.Journals.{Entry, Journals}
use Rattle.ep_rules.specs.OneMap.{sealed_by}

-- the first line of a seal
abbrev pub first_sealing : List Happening → Option Happening
first_sealing [] = None
first_sealing (h ∷ hs) = cond (is_seal h.command) (Some h) (first_sealing hs)

-- the line's seal, with a stamp; none where it is of another command
abbrev pub closing_by : Happening → ℕ → Option Closing
closing_by h stamp = option_map (λ v. record { instance = h.instance; value = v; stamp = stamp }) (sealed_by h.command)

-- i was found, or is among these executions
abbrev pub is_among : ℕ → List (ℕ × Answer) → Bool → Bool
is_among i [] found = found
is_among i (d ∷ ds) found = is_among i ds (found || (d.0 == i))

-- the lesser stamp
abbrev pub lesser : Option ℕ → ℕ → Option ℕ
lesser None stamp = Some stamp
lesser (Some best) stamp = cond (ltb stamp best) (Some stamp) (Some best)

-- the best stamp so far, or a lesser one of an entry that executes i
abbrev pub least_in : ℕ → List Entry → Option ℕ → Option ℕ
least_in i [] best = best
least_in i (e ∷ es) best = least_in i es (cond (is_among i e.done false) (lesser best e.stamp) best)

-- the least one of the first n journals
abbrev pub least_below : ℕ → Journals → ℕ → Option ℕ
least_below zero journal i = None
least_below (suc n) journal i = least_in i (journal n) (least_below n journal i)
