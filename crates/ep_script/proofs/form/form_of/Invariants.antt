use Rattle.std.proofs.Common.{◌≡◌, drop}
use Rattle.ep_script.specs.Forms.{form_with}
use Rattle.ep_script.proofs.form.form_of.Given as goal

abbrev pub invariant-loop-form : goal.invariant-loop-form
invariant-loop-form l = form_with l.word (drop l.form-index l.forms) ≡ form_with l.word l.forms
