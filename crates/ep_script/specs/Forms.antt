-- The form of a word.
use Rattle.std.specs.Prelude.{ℕ, List, Option, find}
use Rattle.std.specs.Str.{bytes_eq}
use Rattle.ep_script.specs.declared.form.Form.{Form}

-- the first of the forms that begins with the word
abbrev pub form_with : List ℕ → List Form → Option Form
form_with word forms = find (λ f. bytes_eq word f.word.now) forms
