-- What the words of a line say, in a cluster of n replicas of version v. Lines of agendas stand in scripts for a replay and for a run alike.
use Rattle.std.specs.Prelude.{ℕ, ◌==◌, ◌&&◌, ◌||◌, nat_le, nat_lt, Bool, true, false, List, [], ◌∷◌, ◌++◌, Option, Some, None, is_some, length, if◌then◌else◌, codes, option_map, option_and_then}
use Rattle.std.specs.Str.{bytes_eq}
use Rattle.std.specs.List.{slice_split}
use Rattle.std.specs.Option.{option_map_or}
use Rattle.ep_base.specs.Attributes.{same_list}
use Rattle.ep_base.specs.Instances.{instance_of}
use Rattle.ep_base.specs.Commands.{Command, Get, Put, Del, Swap, Cas, Seal, Opaque, Tx}
use Rattle.ep_base.specs.Items.{Item}
use Rattle.ep_base.specs.CommandParts.{are_items}
use Rattle.ep_base.specs.Values.{most_value}
use Rattle.ep_base.specs.Versions.{highest_in, knows}
use Rattle.ep_base.specs.declared.version.Version.{Version}
use Rattle.ep_base.specs.declared.version_kind.VersionKind.TheVariants.{V1, V2, V3}
use Rattle.ep_script.specs.Clauses.{Said, merged}
use Rattle.ep_script.specs.Word.{bytes_of}
use Rattle.ep_script.specs.Parts.{number_of, digits_of}
use Rattle.ep_script.specs.declared.agenda_line.AgendaLine.{AgendaLine}
use Rattle.ep_script.specs.declared.agenda_line.AgendaLine.TheVariants as agenda
use Rattle.ep_script.specs.declared.clause.Clause.{Clause}
use Rattle.ep_script.specs.declared.clause.Clause.TheVariants.{Guard, Reported, Write}
use Rattle.ep_script.specs.declared.line.Line.{Line}
use Rattle.ep_script.specs.declared.line.Line.TheVariants.{Execute, Deliver, Flush}
use Rattle.ep_script.specs.declared.line.Line.TheVariants as asked
use Rattle.ep_script.specs.declared.opening_line.OpeningLine.{OpeningLine}
use Rattle.ep_script.specs.declared.opening_line.OpeningLine.TheVariants.{Since, Entry}
use Rattle.ep_script.specs.declared.run_line.RunLine.{RunLine}
use Rattle.ep_script.specs.declared.run_line.RunLine.TheVariants.{Agenda, Weather, Section}
use Rattle.ep_script.specs.declared.weather_word.WeatherWord.{WeatherWord}
use Rattle.ep_script.specs.declared.weather_word.WeatherWord.TheVariants as kinds
use Rattle.ep_script.specs.declared.weather_line.WeatherLine.{WeatherLine}

abbrev pub starts_comment : List ℕ → Bool
starts_comment [] = false
starts_comment (b ∷ bs) = b == 35

-- a line of these words says nothing
abbrev pub is_silent : List (List ℕ) → Bool
is_silent [] = true
is_silent (w ∷ ws) = starts_comment w

-- how many replicas of a cluster of this size may fail
abbrev pub faults_of : ℕ → Option ℕ
faults_of n = if n == 3 then Some 1 else if n == 5 then Some 2 else if n == 7 then Some 3 else None

abbrev pub size_word : List (List ℕ) → Option ℕ
size_word [] = None
size_word (w ∷ []) = option_and_then faults_of (number_of w)
size_word (w ∷ v ∷ more) = None

-- `replicas N`
abbrev pub size_of : List (List ℕ) → Option ℕ
size_of [] = None
size_of (w ∷ ws) = if bytes_eq w (codes "replicas") then size_word ws else None

-- a number with a range
abbrev pub number_in : ℕ → ℕ → List ℕ → Option ℕ
number_in least most w = option_and_then (λ x. if nat_le least x && nat_le x most then Some x else None) (number_of w)

-- a client, a message or a place
abbrev pub count_of : List ℕ → Option ℕ
count_of w = number_in 1 4294967295 w

abbrev pub replica_of : ℕ → List ℕ → Option ℕ
replica_of n w = option_and_then (λ r. if nat_lt r n then Some r else None) (number_of w)

abbrev pub instance_parts : ℕ → Version → List (List ℕ) → Option ℕ
instance_parts n v [] = None
instance_parts n v (r ∷ []) = None
instance_parts n v (r ∷ i ∷ []) = option_and_then (λ leader. option_map (instance_of leader) (number_in 1 (highest_in v) i)) (replica_of n r)
instance_parts n v (r ∷ i ∷ w ∷ more) = None

-- `R.I`
abbrev pub parts_of : List ℕ → List (List ℕ)
parts_of w = slice_split (λ b. b == 46) w

-- bytes that can be a key, and a value
abbrev pub key_of : List ℕ → Option (List ℕ)
key_of k = if nat_le 1 (length k) && nat_le (length k) 255 then Some k else None

abbrev pub value_of : List ℕ → Option (List ℕ)
value_of v = if nat_le (length v) most_value then Some v else None

abbrev pub key_word : List ℕ → Option (List ℕ)
key_word w = option_and_then key_of (bytes_of w)

abbrev pub value_word : List ℕ → Option (List ℕ)
value_word w = option_and_then value_of (bytes_of w)

abbrev pub key_only : List (List ℕ) → Option (List ℕ)
key_only [] = None
key_only (k ∷ []) = key_word k
key_only (k ∷ v ∷ more) = None

-- `get K`
abbrev pub get_of : List (List ℕ) → Option Command
get_of ws = option_map (λ k. Get k) (key_only ws)

-- `del K`
abbrev pub del_of : List (List ℕ) → Option Command
del_of ws = option_map (λ k. Del k) (key_only ws)

-- `put K V`
abbrev pub put_of : List (List ℕ) → Option Command
put_of [] = None
put_of (k ∷ []) = None
put_of (k ∷ v ∷ []) = option_and_then (λ key. option_map (λ value. Put key value) (value_word v)) (key_word k)
put_of (k ∷ v ∷ w ∷ more) = None

-- the swap of keys that differ
abbrev pub swap_with : List ℕ → List ℕ → Option Command
swap_with k l = if same_list k l then None else Some (Swap (record { first = k; second = l }))

-- `swap K K`
abbrev pub swap_of : List (List ℕ) → Option Command
swap_of [] = None
swap_of (k ∷ []) = None
swap_of (k ∷ l ∷ []) = option_and_then (λ first. option_and_then (swap_with first) (key_word l)) (key_word k)
swap_of (k ∷ l ∷ w ∷ more) = None

-- a value, or that there is none
abbrev pub option_word : List ℕ → Option (Option (List ℕ))
option_word w = if bytes_eq w (codes "%!") then Some None else option_map (λ v. Some v) (value_word w)

-- `cas K E N`
abbrev pub cas_of : List (List ℕ) → Option Command
cas_of [] = None
cas_of (k ∷ []) = None
cas_of (k ∷ e ∷ []) = None
cas_of (k ∷ e ∷ n ∷ []) = option_and_then (λ key. option_and_then (λ expected. option_map (λ new. Cas key expected new) (option_word n)) (option_word e)) (key_word k)
cas_of (k ∷ e ∷ n ∷ w ∷ more) = None

-- the command of a machine outside on one key, and on two that differ
abbrev pub opaque_with : Bool → List ℕ → List ℕ → Command
opaque_with reads k b = Opaque (record { first = k; second = None; reads = reads }) b

abbrev pub opaque_with_two : Bool → List ℕ → List ℕ → List ℕ → Option Command
opaque_with_two reads k l b = if same_list k l then None else Some (Opaque (record { first = k; second = Some l; reads = reads }) b)

-- `ask K B`, `ask K K B`, `act K B` and `act K K B`: an ask only reads
abbrev pub opaque_of : Bool → List (List ℕ) → Option Command
opaque_of reads [] = None
opaque_of reads (k ∷ []) = None
opaque_of reads (k ∷ b ∷ []) = option_and_then (λ key. option_map (opaque_with reads key) (value_word b)) (key_word k)
opaque_of reads (k ∷ l ∷ b ∷ []) = option_and_then (λ first. option_and_then (λ second. option_and_then (opaque_with_two reads first second) (value_word b)) (key_word l)) (key_word k)
opaque_of reads (k ∷ l ∷ b ∷ w ∷ more) = None

-- `seal V`
abbrev pub seal_of : List (List ℕ) → Option Command
seal_of [] = None
seal_of (v ∷ []) = option_map (λ value. Seal value) (value_word v)
seal_of (v ∷ w ∷ more) = None

-- what `get K` and `del K` say of K
abbrev pub short_clause : List ℕ → Option Clause
short_clause w =
    if bytes_eq w (codes "get") then Some Reported
    else if bytes_eq w (codes "del") then Some (Write None)
    else None

-- what `if K E` and `put K V` say of it
abbrev pub long_clause : List ℕ → List ℕ → Option Clause
long_clause w v =
    if bytes_eq w (codes "if") then option_map (λ wanted. Guard wanted) (option_word v)
    else if bytes_eq w (codes "put") then option_map (λ value. Write (Some value)) (value_word v)
    else None

-- what is said of the key that this word spells, before the rest
abbrev pub said_first : List ℕ → Option Clause → Option (List Said) → Option (List Said)
said_first k c rest = option_and_then (λ key. option_and_then (λ clause. option_map (λ ss. record { key = key; clause = clause } ∷ ss) rest) c) (key_word k)

-- ITEM ..
abbrev pub clauses_of : List (List ℕ) → Option (List Said)
clauses_of [] = Some []
clauses_of (w ∷ []) = None
clauses_of (w ∷ k ∷ []) = said_first k (short_clause w) (Some [])
clauses_of (w ∷ k ∷ v ∷ ws) = if is_some (short_clause w) then said_first k (short_clause w) (clauses_of (v ∷ ws)) else said_first k (long_clause w v) (clauses_of ws)

-- the items of these words, after those that were read before: one for each key, in rising order of keys
abbrev pub items_after : List Item → List (List ℕ) → Option (List Item)
items_after is ws = option_and_then (merged is) (clauses_of ws)

-- the command of these items, if there is one
abbrev pub tx_with : List Item → Option Command
tx_with is = if are_items is then Some (Tx is) else None

-- `tx ITEM ..`, an ITEM being `if K E`, `get K`, `put K V` or `del K`
abbrev pub tx_of : List (List ℕ) → Option Command
tx_of ws = option_and_then tx_with (items_after [] ws)

-- a command that version 3 alone knows
abbrev pub late_command_of : List (List ℕ) → Option Command
late_command_of [] = None
late_command_of (w ∷ ws) =
    if bytes_eq w (codes "cas") then cas_of ws
    else if bytes_eq w (codes "ask") then opaque_of true ws
    else if bytes_eq w (codes "act") then opaque_of false ws
    else if bytes_eq w (codes "seal") then seal_of ws
    else if bytes_eq w (codes "tx") then tx_of ws
    else None

-- a command of any version
abbrev pub any_command_of : List (List ℕ) → Option Command
any_command_of [] = None
any_command_of (w ∷ ws) =
    if bytes_eq w (codes "get") then get_of ws
    else if bytes_eq w (codes "put") then put_of ws
    else if bytes_eq w (codes "del") then del_of ws
    else if bytes_eq w (codes "swap") then swap_of ws
    else late_command_of (w ∷ ws)

-- one that version v knows
abbrev pub known_in : Version → Command → Option Command
known_in v c = if knows v c then Some c else None

abbrev pub command_of : Version → List (List ℕ) → Option Command
command_of v ws = option_and_then (known_in v) (any_command_of ws)

-- the replica that proposes, where this one is to be spared, or the usual one: no replica spares itself
abbrev pub proposer : Option ℕ → ℕ → Option ℕ
proposer None r = Some r
proposer (Some s) r = if s == r then None else Some r

-- `propose R C` and a command, where this replica is to be spared, or the usual one
abbrev pub propose_of : ℕ → Version → Option ℕ → List (List ℕ) → Option AgendaLine
propose_of n v spared [] = None
propose_of n v spared (r ∷ []) = None
propose_of n v spared (r ∷ c ∷ command) =
    option_and_then (λ replica. option_and_then (λ client. option_map (λ x. agenda.Propose replica client x spared) (command_of v command)) (count_of c)) (option_and_then (proposer spared) (replica_of n r))

-- the replica to be spared, and then `propose`
abbrev pub spared_of : ℕ → Version → List (List ℕ) → Option AgendaLine
spared_of n v [] = None
spared_of n v (s ∷ []) = None
spared_of n v (s ∷ p ∷ ws) = if bytes_eq p (codes "propose") then option_and_then (λ spared. propose_of n v (Some spared) ws) (replica_of n s) else None

-- `sparing S propose R C` and a command, in version 3 alone
abbrev pub sparing_of : ℕ → Version → List (List ℕ) → Option AgendaLine
sparing_of n V1 ws = None
sparing_of n V2 ws = None
sparing_of n (V3 g) ws = spared_of n (V3 g) ws

-- a replica and an instance
abbrev pub place_of : ℕ → Version → List (List ℕ) → Option (ℕ × ℕ)
place_of n v [] = None
place_of n v (r ∷ []) = None
place_of n v (r ∷ i ∷ []) = option_and_then (λ replica. option_map (λ instance. (replica, instance)) (instance_parts n v (parts_of i))) (replica_of n r)
place_of n v (r ∷ i ∷ w ∷ more) = None

-- what a replica is to do: `propose`, `sparing`, `giveup` and `recover`
abbrev pub agenda_line : ℕ → Version → List (List ℕ) → Option AgendaLine
agenda_line n v [] = None
agenda_line n v (w ∷ ws) =
    if bytes_eq w (codes "propose") then propose_of n v None ws
    else if bytes_eq w (codes "sparing") then sparing_of n v ws
    else if bytes_eq w (codes "giveup") then option_map (λ p. agenda.GiveUp p.0 p.1) (place_of n v ws)
    else if bytes_eq w (codes "recover") then option_map (λ p. agenda.Recover p.0 p.1) (place_of n v ws)
    else None

-- numbers of messages, after those that were read before
abbrev pub counts_after : List ℕ → List (List ℕ) → Option (List ℕ)
counts_after done [] = Some done
counts_after done (w ∷ ws) = option_and_then (λ m. counts_after (done ++ m ∷ []) ws) (count_of w)

-- `deliver M ..`
abbrev pub deliver_of : List (List ℕ) → Option Line
deliver_of [] = None
deliver_of (w ∷ ws) = option_map (λ ms. Deliver ms) (counts_after [] (w ∷ ws))

abbrev pub flush_of : List (List ℕ) → Option Line
flush_of [] = Some Flush
flush_of (w ∷ ws) = None

-- a line of a replay behind the script's head; none where it is refused
abbrev pub replay_line : ℕ → Version → List (List ℕ) → Option Line
replay_line n v [] = None
replay_line n v (w ∷ ws) =
    if bytes_eq w (codes "execute") then option_map (λ p. Execute p.0 p.1) (place_of n v ws)
    else if bytes_eq w (codes "deliver") then deliver_of ws
    else if bytes_eq w (codes "flush") then flush_of ws
    else option_map (λ a. asked.Agenda a) (agenda_line n v (w ∷ ws))

abbrev pub section_of : List (List ℕ) → Option RunLine
section_of [] = Some Section
section_of (w ∷ ws) = None

-- no replica puts a frame for itself
abbrev pub weather_between : WeatherWord → ℕ → ℕ → ℕ → Option WeatherLine
weather_between kind a b j = if a == b then None else Some (record { kind = kind; from = a; to = b; count = j })

-- a frame, and what becomes of it: the J-th that A puts for B, by `A B J`
abbrev pub weather_of : ℕ → WeatherWord → List (List ℕ) → Option WeatherLine
weather_of n kind [] = None
weather_of n kind (a ∷ []) = None
weather_of n kind (a ∷ b ∷ []) = None
weather_of n kind (a ∷ b ∷ j ∷ []) = option_and_then (λ from. option_and_then (λ to. option_and_then (weather_between kind from to) (count_of j)) (replica_of n b)) (replica_of n a)
weather_of n kind (a ∷ b ∷ j ∷ w ∷ more) = None

-- what becomes of the frame that `drop`, `hold` or `repeat` is about
abbrev pub kind_of : List ℕ → Option WeatherWord
kind_of w =
    if bytes_eq w (codes "drop") then Some kinds.Drop
    else if bytes_eq w (codes "hold") then Some kinds.Hold
    else if bytes_eq w (codes "repeat") then Some kinds.Repeat
    else None

-- a line of a run that is none of its weather
abbrev pub plain_run_line : ℕ → Version → List (List ℕ) → Option RunLine
plain_run_line n v [] = None
plain_run_line n v (w ∷ ws) =
    if bytes_eq w (codes "section") then section_of ws
    else option_map (λ l. Agenda l) (agenda_line n v (w ∷ ws))

-- a line of a run behind the script's head; none where it is refused
abbrev pub run_line : ℕ → Version → List (List ℕ) → Option RunLine
run_line n v [] = None
run_line n v (w ∷ ws) = option_map_or (λ kind. option_map (λ l. Weather l) (weather_of n kind ws)) (kind_of w) (plain_run_line n v (w ∷ ws))

-- Lines of a script's head, behind `replicas N`.

-- the first word is this one
abbrev pub starts_with : List ℕ → List (List ℕ) → Bool
starts_with word [] = false
starts_with word (w ∷ ws) = bytes_eq w word

abbrev pub generation_word : List (List ℕ) → Option ℕ
generation_word [] = None
generation_word (g ∷ []) = count_of g
generation_word (g ∷ w ∷ more) = None

-- `generation G`
abbrev pub generation_of : List (List ℕ) → Option ℕ
generation_of [] = None
generation_of (w ∷ ws) = if bytes_eq w (codes "generation") then generation_word ws else None

-- a stamp below the greatest one, or 0, in 1 to 15 digits
abbrev pub since_number : List ℕ → Option ℕ
since_number w = option_and_then (λ s. if nat_le s 281474976710654 then Some s else None) (digits_of 15 w)

-- `since S`
abbrev pub since_of : List (List ℕ) → Option OpeningLine
since_of [] = None
since_of (s ∷ []) = option_map (λ x. Since x) (since_number s)
since_of (s ∷ w ∷ more) = None

-- `opening K V`
abbrev pub entry_of : List (List ℕ) → Option OpeningLine
entry_of [] = None
entry_of (k ∷ []) = None
entry_of (k ∷ v ∷ []) = option_and_then (λ key. option_map (λ value. Entry key value) (value_word v)) (key_word k)
entry_of (k ∷ v ∷ w ∷ more) = None

-- the line is one of what replicas open with
abbrev pub is_opening : List (List ℕ) → Bool
is_opening ws = starts_with (codes "since") ws || starts_with (codes "opening") ws

abbrev pub opening_of : List (List ℕ) → Option OpeningLine
opening_of [] = None
opening_of (w ∷ ws) =
    if bytes_eq w (codes "since") then since_of ws
    else if bytes_eq w (codes "opening") then entry_of ws
    else None
