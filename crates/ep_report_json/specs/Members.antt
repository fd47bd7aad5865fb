-- Members of objects whose values are parts of a report's lines.
use Rattle.std.specs.Prelude.{ℕ, List, [], ◌∷◌, cond, eqb, codes, decimal, map}
use Rattle.ep_json.specs.Strings.{string_text}
use Rattle.ep_json.specs.Values.{array, member}
use Rattle.ep_report.specs.Parts.{instance_text, part_text}
use Rattle.ep_report.specs.declared.part.Part.{Part}
use Rattle.ep_report.specs.declared.part.Part.TheVariants as part
use Rattle.ep_report_json.specs.declared.member.Member.{Member}

abbrev pub instance_value : ℕ → List ℕ
instance_value i = string_text (instance_text i)

abbrev pub deps_value : List ℕ → List ℕ
deps_value deps = array (map instance_value deps)

-- a number is a number, a set of instances is an array of strings, and all else is a string of what a line of a report has there
abbrev pub value_of : Part → List ℕ
value_of (part.Text bytes) = string_text bytes.now
value_of (part.Number n) = decimal n
value_of (part.Word bytes) = string_text (part_text (part.Word bytes))
value_of (part.Instance i) = instance_value i
value_of (part.Deps d) = deps_value d.now
value_of (part.Command c) = string_text (part_text (part.Command c))
value_of (part.Reply r) = string_text (part_text (part.Reply r))
value_of (part.Answer a) = string_text (part_text (part.Answer a))

abbrev pub member_of : Member → List ℕ
member_of m = member m.name.now (value_of m.value)

-- up to the first blank
abbrev pub first_word : List ℕ → List ℕ
first_word [] = []
first_word (b ∷ bs) = cond (eqb b 32) [] (b ∷ first_word bs)

-- of a cause or a fault: its code, and its words
abbrev pub fault_members : List ℕ → List (List ℕ)
fault_members message = member (codes "code") (string_text (first_word message)) ∷ member (codes "message") (string_text message) ∷ []
