-- Arrays and objects of JSON (RFC 8259, sections 4 and 5), without blanks. Each item of an array is the text of a value.
use Rattle.std.specs.Prelude.{ℕ, Bool, true, false, List, [], ◌∷◌, ◌++◌, codes}
use Rattle.ep_json.specs.Strings.{string_text}

-- before what isn't the first
abbrev pub comma : Bool → List ℕ
comma true = []
comma false = codes ","

-- texts, with a comma between each two, and before the first one, unless it is the first of all
abbrev pub joined : Bool → List (List ℕ) → List ℕ
joined is_first [] = []
joined is_first (t ∷ ts) = comma is_first ++ t ++ joined false ts

abbrev pub array : List (List ℕ) → List ℕ
array items = codes "[" ++ joined true items ++ codes "]"

abbrev pub name_text : List ℕ → List ℕ
name_text name = string_text name ++ codes ":"

-- a member of an object: its name, and the text of its value
abbrev pub member : List ℕ → List ℕ → List ℕ
member name value = name_text name ++ value

abbrev pub object : List (List ℕ) → List ℕ
object members = codes "{" ++ joined true members ++ codes "}"

abbrev pub null : List ℕ
null = codes "null"
