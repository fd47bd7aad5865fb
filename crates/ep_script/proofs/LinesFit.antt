-- What lines keep to, since they were read.
use Rattle.std.proofs.Common.{◌≡◌, ◌≢◌, ℕ, ◌+◌, ◌*◌, ◌/◌, ◌<◌, ◌≤◌, ◌==◌, Bool, true, false, cond, MatchBool, List, [], ◌∷◌, ◌++◌, Option, Some, None, refl, sym, subst, arith, IfSome}
use Rattle.std.specs.Prelude.{nat_le, nat_lt, ◌&&◌, option_map, option_and_then, codes}
use Rattle.std.specs.Option.{option_map_or}
use Rattle.std.specs.List.{IsDistinct}
use Rattle.std.specs.Str.{bytes_eq}
use Rattle.std.specs.Cmp.{IsEquivalence}
use Rattle.std.proofs.lemmas.Bool.Decides.{nat_tests}
use Rattle.std.proofs.lemmas.List.Elements.{All-nil, All-push}
use Rattle.std.proofs.lemmas.Map.Keys.{IsDistinct-push}
use Rattle.ep_base.specs.Versions.{highest_in}
use Rattle.ep_base.proofs.Versions.{highest_low}
use Rattle.ep_base.specs.Instances.{instance_of, leader_of, highest_number}
use Rattle.ep_base.specs.declared.version.Version.{Version}
use Rattle.ep_base.specs.declared.version_kind.VersionKind.TheVariants.{V1, V2, V3}
use Rattle.ep_script.specs.Parts.{number_of}
use Rattle.ep_script.specs.Grammar.{number_in, count_of, replica_of, instance_parts, parts_of, place_of, command_of, proposer, propose_of, spared_of, sparing_of, agenda_line, section_of, weather_between, weather_of, kind_of, plain_run_line, run_line}
use Rattle.ep_script.specs.Plan.{SectionPlan, no_section, with_weather, same_frame, has_frame}
use Rattle.ep_script.specs.Fits.{FitsCluster, FitsWeather, FitsRun, FitsSection, AllFit}
use Rattle.ep_script.specs.declared.agenda_line.AgendaLine.{AgendaLine}
use Rattle.ep_script.specs.declared.agenda_line.AgendaLine.TheVariants.{Propose, GiveUp, Recover}
use Rattle.ep_script.specs.declared.run_line.RunLine.TheVariants.{Agenda, Weather}
use Rattle.ep_script.specs.declared.weather_word.WeatherWord.{WeatherWord}
use Rattle.ep_script.specs.declared.weather_line.WeatherLine.{WeatherLine}

if_mapped : {A B : Type 0} (f : A → B) (P : A → Type 0) (Q : B → Type 0) (o : Option A) → IfSome o P → ((x : A) → P x → Q (f x)) → IfSome (option_map f o) Q
if_mapped f P Q None h g = h
if_mapped f P Q (Some x) h g = g x h

if_then : {A B : Type 0} (f : A → Option B) (P : A → Type 0) (Q : B → Type 0) (o : Option A) → IfSome o P → ((x : A) → P x → IfSome (f x) Q) → IfSome (option_and_then f o) Q
if_then f P Q None h g = h
if_then f P Q (Some x) h g = g x h

if_either : {B : Type 0} (Q : B → Type 0) (t : Bool) (a b : Option B) → IfSome a Q → IfSome b Q → IfSome (cond t a b) Q
if_either Q true a b h k = h
if_either Q false a b h k = k

if_any : {A : Type 0} (o : Option A) → IfSome o (λ _. Unit {0})
if_any None = tt
if_any (Some x) = tt

below : (n r : ℕ) → IfSome (cond (nat_lt r n) (Some r) None) (λ x. x < n)
below n r = go (nat_lt r n) refl
  where
    go : (b : Bool) → nat_lt r n ≡ b → IfSome (cond b (Some r) None) (λ x. x < n)
    go true e = grind (arith, nat_tests)
    go false e = tt

from_one : (most x : ℕ) → IfSome (cond (nat_le 1 x && nat_le x most) (Some x) None) (λ y. (1 ≤ y) × (y ≤ most))
from_one most x = go (nat_le 1 x && nat_le x most) refl
  where
    go : (b : Bool) → (nat_le 1 x && nat_le x most) ≡ b → IfSome (cond b (Some x) None) (λ y. (1 ≤ y) × (y ≤ most))
    go true e = grind (arith, nat_tests)
    go false e = tt

replica_fits : (n : ℕ) (w : List ℕ) → IfSome (replica_of n w) (λ r. r < n)
replica_fits n w = if_then (λ r. cond (nat_lt r n) (Some r) None) (λ _. Unit {0}) (λ r. r < n) (number_of w) (if_any (number_of w)) (λ r _. below n r)

number_fits : (most : ℕ) (w : List ℕ) → IfSome (number_in 1 most w) (λ y. (1 ≤ y) × (y ≤ most))
number_fits most w = if_then (λ x. cond (nat_le 1 x && nat_le x most) (Some x) None) (λ _. Unit {0}) (λ y. (1 ≤ y) × (y ≤ most)) (number_of w) (if_any (number_of w)) (λ x _. from_one most x)

count_fits : (w : List ℕ) → IfSome (count_of w) (λ c. 1 ≤ c)
count_fits w = if_less (count_of w) (number_fits 4294967295 w)
  where
    if_less : (o : Option ℕ) → IfSome o (λ y. (1 ≤ y) × (y ≤ 4294967295)) → IfSome o (λ c. 1 ≤ c)
    if_less None h = h
    if_less (Some x) h = h.0

leader_again : (r i n : ℕ) → r < n → (1 ≤ i) × (i ≤ highest_number) → leader_of (instance_of r i) < n
leader_again r i n h k = let a : i ≤ highest_number = k.1 in let e : (r * 65536 + i) / 65536 ≡ r = omega arith in subst (λ (x : ℕ). x < n) (sym e) h

instance_fits : (n : ℕ) (v : Version) (ps : List (List ℕ)) → IfSome (instance_parts n v ps) (λ i. leader_of i < n)
instance_fits n v [] = tt
instance_fits n v (r ∷ []) = tt
instance_fits n v (r ∷ i ∷ []) =
    if_then (λ leader. option_map (instance_of leader) (number_in 1 (highest_in v) i)) (λ leader. leader < n) (λ x. leader_of x < n) (replica_of n r) (replica_fits n r)
    (λ leader h. if_mapped (instance_of leader) (λ y. (1 ≤ y) × (y ≤ highest_in v)) (λ x. leader_of x < n) (number_in 1 (highest_in v) i) (number_fits (highest_in v) i)
    (λ y k. leader_again leader y n h (k.0, (let most = highest_low v in let le = k.1 in omega (arith, most, le)))))
instance_fits n v (r ∷ i ∷ w ∷ more) = tt

place_fits : (n : ℕ) (v : Version) (ws : List (List ℕ)) → IfSome (place_of n v ws) (λ p. (p.0 < n) × (leader_of p.1 < n))
place_fits n v [] = tt
place_fits n v (r ∷ []) = tt
place_fits n v (r ∷ i ∷ []) =
    if_then (λ replica. option_map (λ instance. (replica, instance)) (instance_parts n v (parts_of i))) (λ replica. replica < n) (λ p. (p.0 < n) × (leader_of p.1 < n)) (replica_of n r) (replica_fits n r)
    (λ replica h. if_mapped (λ instance. (replica, instance)) (λ x. leader_of x < n) (λ p. (p.0 < n) × (leader_of p.1 < n)) (instance_parts n v (parts_of i)) (instance_fits n v (parts_of i)) (λ x k. (h, k)))
place_fits n v (r ∷ i ∷ w ∷ more) = tt

-- a replica that proposes isn't the one to be spared
proposer_fits : (n : ℕ) (spared : Option ℕ) (w : List ℕ) → IfSome spared (λ s. s < n) → IfSome (option_and_then (proposer spared) (replica_of n w)) (λ r. (r < n) × IfSome spared (λ s. (s < n) × (s ≢ r)))
proposer_fits n spared w below = if_then (proposer spared) (λ r. r < n) (λ r. (r < n) × IfSome spared (λ s. (s < n) × (s ≢ r))) (replica_of n w) (replica_fits n w) (λ r h. other spared below r h)
  where
    other : (o : Option ℕ) → IfSome o (λ s. s < n) → (r : ℕ) → r < n → IfSome (proposer o r) (λ x. (x < n) × IfSome o (λ s. (s < n) × (s ≢ x)))
    other None under r h = (h, tt)
    other (Some s) under r h = go (s == r) refl
      where
        apart : (s == r) ≡ false → s ≢ r
        apart e = grind (arith, nat_tests)

        go : (t : Bool) → (s == r) ≡ t → IfSome (cond t None (Some r)) (λ x. (x < n) × ((s < n) × (s ≢ x)))
        go true e = tt
        go false e = (h, (under, apart e))

propose_fits : (n : ℕ) (v : Version) (spared : Option ℕ) (ws : List (List ℕ)) → IfSome spared (λ s. s < n) → IfSome (propose_of n v spared ws) (FitsCluster n)
propose_fits n v spared [] below = tt
propose_fits n v spared (r ∷ []) below = tt
propose_fits n v spared (r ∷ c ∷ command) below =
    if_then (λ replica. option_and_then (λ client. option_map (λ x. Propose replica client x spared) (command_of v command)) (count_of c)) (λ replica. (replica < n) × IfSome spared (λ s. (s < n) × (s ≢ replica))) (FitsCluster n)
    (option_and_then (proposer spared) (replica_of n r)) (proposer_fits n spared r below)
    (λ replica h. if_then (λ client. option_map (λ x. Propose replica client x spared) (command_of v command)) (λ client. 1 ≤ client) (FitsCluster n) (count_of c) (count_fits c)
    (λ client k. if_mapped (λ x. Propose replica client x spared) (λ _. Unit {0}) (FitsCluster n) (command_of v command) (if_any (command_of v command)) (λ x _. (h.0, k, h.1))))

spared_fits : (n : ℕ) (v : Version) (ws : List (List ℕ)) → IfSome (spared_of n v ws) (FitsCluster n)
spared_fits n v [] = tt
spared_fits n v (s ∷ []) = tt
spared_fits n v (s ∷ p ∷ ws) =
    if_either (FitsCluster n) (bytes_eq p (codes "propose")) _ None
    (if_then (λ spared. propose_of n v (Some spared) ws) (λ spared. spared < n) (FitsCluster n) (replica_of n s) (replica_fits n s) (λ spared h. propose_fits n v (Some spared) ws h)) tt

sparing_fits : (n : ℕ) (v : Version) (ws : List (List ℕ)) → IfSome (sparing_of n v ws) (FitsCluster n)
sparing_fits n V1 ws = tt
sparing_fits n V2 ws = tt
sparing_fits n (V3 g) ws = spared_fits n (V3 g) ws

agenda_fits : (n : ℕ) (v : Version) (ws : List (List ℕ)) → IfSome (agenda_line n v ws) (FitsCluster n)
agenda_fits n v [] = tt
agenda_fits n v (w ∷ ws) =
    if_either (FitsCluster n) (bytes_eq w (codes "propose")) _ _ (propose_fits n v None ws tt)
    (if_either (FitsCluster n) (bytes_eq w (codes "sparing")) _ _ (sparing_fits n v ws)
    (if_either (FitsCluster n) (bytes_eq w (codes "giveup")) _ _
    (if_mapped (λ p. GiveUp p.0 p.1) (λ p. (p.0 < n) × (leader_of p.1 < n)) (FitsCluster n) (place_of n v ws) (place_fits n v ws) (λ p h. h))
    (if_either (FitsCluster n) (bytes_eq w (codes "recover")) _ None
    (if_mapped (λ p. Recover p.0 p.1) (λ p. (p.0 < n) × (leader_of p.1 < n)) (FitsCluster n) (place_of n v ws) (place_fits n v ws) (λ p h. h)) tt)))

between_fits : (n : ℕ) (kind : WeatherWord) (a b j : ℕ) → a < n → b < n → 1 ≤ j → IfSome (weather_between kind a b j) (FitsWeather n)
between_fits n kind a b j below-a below-b counted = go (a == b) refl
  where
    apart : (a == b) ≡ false → a ≢ b
    apart e = grind (arith, nat_tests)

    go : (t : Bool) → (a == b) ≡ t → IfSome (cond t None (Some (record { kind = kind; from = a; to = b; count = j }))) (FitsWeather n)
    go true e = tt
    go false e = record { from_below = below-a; to_below = below-b; between_two = apart e; counted = counted }

weather_fits : (n : ℕ) (kind : WeatherWord) (ws : List (List ℕ)) → IfSome (weather_of n kind ws) (FitsWeather n)
weather_fits n kind [] = tt
weather_fits n kind (a ∷ []) = tt
weather_fits n kind (a ∷ b ∷ []) = tt
weather_fits n kind (a ∷ b ∷ j ∷ []) =
    if_then (λ from. option_and_then (λ to. option_and_then (weather_between kind from to) (count_of j)) (replica_of n b)) (λ from. from < n) (FitsWeather n) (replica_of n a) (replica_fits n a)
    (λ from h. if_then (λ to. option_and_then (weather_between kind from to) (count_of j)) (λ to. to < n) (FitsWeather n) (replica_of n b) (replica_fits n b)
    (λ to k. if_then (weather_between kind from to) (λ count. 1 ≤ count) (FitsWeather n) (count_of j) (count_fits j)
    (λ count l. between_fits n kind from to count h k l)))
weather_fits n kind (a ∷ b ∷ j ∷ w ∷ more) = tt

section_fits : (n : ℕ) (ws : List (List ℕ)) → IfSome (section_of ws) (FitsRun n)
section_fits n [] = tt
section_fits n (w ∷ ws) = tt

plain_fits : (n : ℕ) (v : Version) (ws : List (List ℕ)) → IfSome (plain_run_line n v ws) (FitsRun n)
plain_fits n v [] = tt
plain_fits n v (w ∷ ws) =
    if_either (FitsRun n) (bytes_eq w (codes "section")) _ _ (section_fits n ws)
    (if_mapped (λ l. Agenda l) (FitsCluster n) (FitsRun n) (agenda_line n v (w ∷ ws)) (agenda_fits n v (w ∷ ws)) (λ l h. h))

-- a line that was read fits
pub run_fits : (n : ℕ) (v : Version) (ws : List (List ℕ)) → IfSome (run_line n v ws) (FitsRun n)
run_fits n v [] = tt
run_fits n v (w ∷ ws) = go (kind_of w)
  where
    go : (o : Option WeatherWord) → IfSome (option_map_or (λ kind. option_map (λ l. Weather l) (weather_of n kind ws)) o (plain_run_line n v (w ∷ ws))) (FitsRun n)
    go None = plain_fits n v (w ∷ ws)
    go (Some kind) = if_mapped (λ l. Weather l) (FitsWeather n) (FitsRun n) (weather_of n kind ws) (weather_fits n kind ws) (λ l h. h)

frames_equal : IsEquivalence same_frame
frames_equal = record {
  refl = λ v. grind (arith, nat_tests);
  symm = λ v w. grind (arith, nat_tests);
  congr = λ v w u e. grind (arith, nat_tests);
}

pub none_fits : (n : ℕ) → FitsSection n no_section
unfolding IsDistinct
none_fits n = record { agendas = All-nil (λ (e : ℕ × AgendaLine). FitsCluster n e.1); weather = All-nil (FitsWeather n); distinct = tt }

weather_more : (n : ℕ) (w : WeatherLine) (s : SectionPlan) → FitsWeather n w → has_frame w s ≡ false → FitsSection n s → FitsSection n (with_weather w s)
weather_more n w s fits new h = record {
  agendas = h.agendas;
  weather = All-push (FitsWeather n) s.weather w h.weather fits;
  distinct = IsDistinct-push frames_equal s.weather w h.distinct new;
}

-- a line of the weather was taken, or there was one for its frame
pub weather_taken : (n : ℕ) (w : WeatherLine) (s after : SectionPlan) (b : Bool) → MatchBool b ((has_frame w s ≡ false) × (after ≡ with_weather w s)) ((has_frame w s ≡ true) × (after ≡ s)) → FitsWeather n w → FitsSection n s → FitsSection n after
weather_taken n w s after true taken fits h = subst (FitsSection n) (sym taken.1) (weather_more n w s fits taken.0 h)
weather_taken n w s after false taken fits h = subst (FitsSection n) (sym taken.1) h

-- a section more has ended, or none was pushed
pub all_more : (n : ℕ) (ended after : List SectionPlan) (s : SectionPlan) (ok : Bool) → after ≡ cond ok (ended ++ s ∷ []) ended → FitsSection n s → AllFit n ended → AllFit n after
all_more n ended after s true e h all = subst (AllFit n) (sym e) (All-push (FitsSection n) ended s all h)
all_more n ended after s false e h all = subst (AllFit n) (sym e) all
