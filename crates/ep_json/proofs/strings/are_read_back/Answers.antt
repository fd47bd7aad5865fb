use Rattle.ep_json.proofs.ReadBack.{is_string}
use Rattle.ep_json.proofs.strings.are_read_back.Goals as goal

pub returns : goal.returns
returns c = is_string c.args.words.now
