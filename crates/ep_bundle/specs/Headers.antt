-- Reading what stands before a bundle's journals: its version, the size of its cluster, and in version 3 the opening of its generation.
use Rattle.std.specs.Prelude.{◌≡◌, ℕ, zero, suc, ◌/◌, ◌||◌, eqb, cond, List, [], ◌∷◌, ◌++◌, Ok, Err}
use Rattle.std.specs.FinMap.{from_sorted, is_sorted}
use Rattle.ep_base.specs.Values.{most_value}
use Rattle.ep_base.specs.Versions.{version_of}
use Rattle.ep_base.specs.declared.version.Version.{Version}
use Rattle.ep_base.specs.declared.version_kind.VersionKind.TheVariants.{V1, V2, V3}
use Rattle.ep_exec.specs.Table.{key_cmp}
use Rattle.ep_rules.specs.OneMap.{Contents, empty}
use Rattle.ep_bundle.specs.Bytes.{magic}
use Rattle.ep_bundle.specs.Reading.{Left, Reading, and_then, bad, run, number, field}
use Rattle.ep_bundle.specs.declared.bundle_header.BundleHeader.{BundleHeader}
use Rattle.ep_bundle.specs.declared.bundle_field.BundleField.TheVariants as named
use Rattle.ep_bundle.specs.declared.wanted.Wanted.TheVariants.{ClusterSize, Higher}

-- the number of replicas, of which less than half may fail
abbrev pub cluster : Left → Reading ℕ
cluster l = and_then (number named.Replicas 1 l) (λ n l'. cond (eqb n 3 || eqb n 5 || eqb n 7) (Ok (n / 2, l')) (Err (bad named.Replicas 1 ClusterSize l)))

-- of version 3 the generation, and the stamp that the clocks go on from
abbrev pub late_edition : Left → Reading (Version × ℕ)
late_edition l = and_then (field named.Generation 4 1 4294967295 l) (λ g l. and_then (field named.BaseStamp 8 0 281474976710655 l) (λ base_stamp l. Ok ((V3 g, base_stamp), l)))

-- the version of this number; a life of version 1 or 2 begins at 0
abbrev pub edition : ℕ → Left → Reading (Version × ℕ)
edition n l = cond (eqb n 3) (late_edition l) (Ok ((version_of n 0, 0), l))

-- only version 3 goes on from a stamp
abbrev pub StartsAt : Version → ℕ → Type 0
StartsAt V1 base_stamp = base_stamp ≡ 0
StartsAt V2 base_stamp = base_stamp ≡ 0
StartsAt (V3 g) base_stamp = Unit {0}

-- a key, with what it has
abbrev pub Pair : Type 0
Pair = List ℕ × List ℕ

-- a key of n bytes, which stands above those of these
abbrev pub key_above : List Pair → ℕ → Left → Reading (List ℕ)
key_above es n l = and_then (run named.PairKey n l) (λ k l'. cond (is_sorted key_cmp (es ++ (k, []) ∷ [])) (Ok (k, l')) (Err (bad named.PairKey n Higher l)))

-- the next one after these: its key's length, its value's, the key and the value
abbrev pub pair : List Pair → Left → Reading Pair
pair es l =
    and_then (field named.PairKeyLength 1 1 255 l) (λ k l. and_then (field named.PairValueLength 4 0 most_value l) (λ n l. and_then (key_above es k l) (λ key l. and_then (run named.PairValue n l) (λ value l. Ok ((key, value), l)))))

-- n more of them
abbrev pub pairs : ℕ → List Pair → Left → Reading (List Pair)
pairs zero es l = Ok (es, l)
pairs (suc n) es l = and_then (pair es l) (λ e l. pairs n (es ++ e ∷ []) l)

-- a map of n keys
abbrev pub contents : ℕ → Left → Reading Contents
contents n l = and_then (pairs n [] l) (λ es l. Ok (from_sorted es, l))

-- the map that a generation opens with; versions 1 and 2 begin with nothing
abbrev pub map_in : Version → Left → Reading Contents
map_in V1 l = Ok (empty, l)
map_in V2 l = Ok (empty, l)
map_in (V3 g) l = and_then (field named.Keys 4 0 4000000000 l) contents

-- only version 3 opens with something
abbrev pub HoldsAt : Version → Contents → Type 0
HoldsAt V1 m = m ≡ empty
HoldsAt V2 m = m ≡ empty
HoldsAt (V3 g) m = Unit {0}

-- of a bundle whose version is of these numbers
abbrev pub header_of : ℕ → ℕ → Left → Reading BundleHeader
header_of low high l =
    and_then (field named.Magic 4 magic magic l) (λ x l. and_then (field named.Version 1 low high l) (λ n l. and_then (cluster l) (λ f l. and_then (edition n l) (λ e l. and_then (number named.Receipts 4 l) (λ k l. and_then (map_in e.0 l)
    (λ m l. Ok (record { version = e.0; cluster = f; opening = record { contents = m; base_stamp = e.1 }; receipts = k }, l)))))))

abbrev pub header : Left → Reading BundleHeader
header l = header_of 1 3 l
