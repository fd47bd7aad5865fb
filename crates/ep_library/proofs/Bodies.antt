-- What is proposed of a body, by the command that was made of it.
use Rattle.std.proofs.Common.{◌≡◌, ℕ, inl, inr, List, Option, Result, Ok, Err, IfOk, Bool, true, false, refl, subst}
use Rattle.std.specs.Prelude.{◌↔◌}
use Rattle.ep_base.specs.Commands.{Tx}
use Rattle.ep_base.specs.CommandParts.{is_tx, items_in}
use Rattle.ep_base.specs.declared.command.Command.{Command}
use Rattle.ep_base.specs.declared.command_fault.CommandFault.{CommandFault}
use Rattle.ep_base.specs.declared.command_fault.CommandFault.TheVariants.{Memory, OutOfRange}
use Rattle.ep_embedded.specs.Hosting.{Hosting}
use Rattle.ep_library.specs.Calls.{Asks, Made, ProposesMany}
use Rattle.ep_library.specs.declared.call.Call.{Call}

pub proposes_many : (status : ℕ) (old : Option Hosting) (call : Call) (body : List ℕ) (new : Option Hosting)
    (made : Result Command CommandFault) → IfOk made (λ c. c ≡ Tx (items_in body))
    → (made ≡ Err OutOfRange ↔ (is_tx body ≡ false)) → Made status old call made new
    → ProposesMany status old call body new
proposes_many status old call body new (Err Memory) of only asks = inl asks
proposes_many status old call body new (Err OutOfRange) of only asks = inr (inl (only.0 refl, asks))
proposes_many status old call body new (Ok c) of only asks = go (is_tx body) refl
  where
    go : (b : Bool) → is_tx body ≡ b → ProposesMany status old call body new
    go true e = inr (inr (e, subst (λ x. Asks status old call x new) of asks))
    go false e = let wrong : Ok c ≡ Err OutOfRange = only.1 e in absurd (cc)
