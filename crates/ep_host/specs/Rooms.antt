-- For how many frames the inboxes of a host have room.
use Rattle.std.specs.Prelude.{◌≡◌, ℕ, List, All, Option, Some, None}
use Rattle.ep_host.specs.Ports.{inbox_capacity}
use Rattle.ep_host.specs.declared.port.Port.{Port}
use Rattle.ep_host.specs.Outboxes.{Outbox}
use Rattle.ep_host.specs.declared.outlet.Outlet.{Outlet}

-- it is for so many, where that is known
abbrev pub HasRoom : Option ℕ → ℕ → Type 0
HasRoom None n = Unit {0}
HasRoom (Some capacity) n = n ≡ capacity

abbrev pub HaveRoom : Option ℕ → List (Port (List ℕ)) → Type 0
HaveRoom room ports = All (λ (p : Port (List ℕ)). HasRoom room (inbox_capacity p)) ports

-- the inbox by which a replica receives, and each to which it sends
pub record AreRoomy (room : Option ℕ) (a : Outbox) : Type 0 where
  pub inbox : HasRoom room (inbox_capacity a.inbox)
  pub outlets : All (λ (o : Outlet). HasRoom room (inbox_capacity o.port)) a.outlets
