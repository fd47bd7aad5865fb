-- What setting the weather does to a node, and what letting its held frames go does.
use Rattle.std.specs.Prelude.{◌≡◌, ℕ, ◌+◌, ◌<◌, List, [], ◌∷◌, length, slice_index_or, slice_set}
use Rattle.ep_host.specs.Fates.{Releases, counted_up}
use Rattle.ep_host.specs.Node.{Node}
use Rattle.ep_host.specs.Pointwise.{Each}
use Rattle.ep_host.specs.Weathers.{IsWeatherAt}
use Rattle.ep_host.specs.declared.host_fault.HostFault.{HostFault}
use Rattle.ep_host.specs.declared.host_fault.HostFault.TheVariants.{Memory, OutOfRange, Replica}
use Rattle.ep_host.specs.declared.link.Link.{Link}
use Rattle.ep_host.specs.declared.weather.Weather.{Weather}

-- frames are counted anew, from none
abbrev pub CountsAnew : Link → Link → Type 0
CountsAnew a b = b ≡ record a { count = 0 }

-- this is the weather now, and frames are counted anew; what is held stays held
pub record SetsWeather (ws : List Weather) (a b : Node) : Type 0 where
  pub links : List Link
  pub counts : Each CountsAnew a.links links
  pub is : b ≡ record a { links = links; weather = ws }

-- why a list was not set, where P says that it is a weather, of the cluster or of one replica: out of memory, and it is one; or it is none
abbrev pub IsUnset : Type 0 → HostFault → Type 0
IsUnset P Memory = P
IsUnset P OutOfRange = P → ⊥
IsUnset P (Replica fault) = ⊥

abbrev pub total : List ℕ → ℕ
total [] = 0
total (n ∷ ns) = n + total ns

-- each two at one place are so related, by how many are lost there; all these are counted
pub record LosesAll {X : Type 0} (R : ℕ → X → X → Type 0) (lost lost' : ℕ) (xs ys : List X) : Type 0 where
  pub missed : List ℕ
  pub len : length missed ≡ length xs
  pub places : length ys ≡ length xs
  pub at : (i : ℕ) (d : X) → i < length xs → R (slice_index_or missed i 0) (slice_index_or xs i d) (slice_index_or ys i d)
  pub counted : lost' ≡ counted_up lost (total missed)

-- each link's held frames are put, in order, less so many that are lost of each; all these are counted
abbrev pub ReleasesAll : ℕ → ℕ → List Link → List Link → Type 0
ReleasesAll lost lost' xs ys = LosesAll Releases lost lost' xs ys

-- the held frames of a node are put, and it holds none
pub record IsReleased (a b : Node) : Type 0 where
  pub links : ReleasesAll a.lost b.lost a.links b.links
  pub is : b ≡ record a { links = b.links; lost = b.lost }

-- the same of the node at a place, which it is a weather of; and no other changed
pub record SetsWeatherAt (place : ℕ) (ws : List Weather) (xs ys : List Node) : Type 0 where
  pub node : Node
  pub is : ys ≡ slice_set xs place node
  pub own : (d : Node) → IsWeatherAt (slice_index_or xs place d).replica.faults (slice_index_or xs place d).replica.me ws
  pub sets : (d : Node) → SetsWeather ws (slice_index_or xs place d) node

-- why none was set at a place
abbrev pub IsUnsetAt : ℕ → List Weather → List Node → HostFault → Type 0
IsUnsetAt place ws xs fault = (d : Node) → IsUnset (IsWeatherAt (slice_index_or xs place d).replica.faults (slice_index_or xs place d).replica.me ws) fault
