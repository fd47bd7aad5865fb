use Rattle.std.proofs.Common.{rules, ◌≡◌}
use Rattle.ep_main.specs.declared.form.Form.TheVariants.{Lines, Json}
use Rattle.ep_main.proofs.Judged.{json_judged, lines_judged}
use Rattle.ep_main.proofs.forms.judged_in.Goals as goal

pub returns-in-Lines : goal.returns-in-Lines
returns-in-Lines c =
    let is : c.args.form ≡ Lines = search rules in
    lines_judged c.args.form is _ _ c.judge.result c.judge.ensures

pub returns-in-Json : goal.returns-in-Json
returns-in-Json c =
    let is : c.args.form ≡ Json = search rules in
    json_judged c.args.form is _ _ c.judge_json.result c.judge_json.ensures
