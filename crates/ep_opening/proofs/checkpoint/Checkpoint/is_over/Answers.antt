use Rattle.std.proofs.Common.{ap}
use Rattle.ep_opening.specs.Pieces.{Pieces}
use Rattle.ep_opening.proofs.Short.{left_at_digest, left_at_entries, left_at_front}
use Rattle.ep_opening.proofs.checkpoint.Checkpoint.is_over.Goals as goal

pub returns-in-Front : goal.returns-in-Front
returns-in-Front c = left_at_front c.self.inside.file c.self.inside.stage c.args.self.now.left (ap (λ (p : Pieces). p.left) c.self.view_is) c.in-Front.is

pub returns-in-Entries : goal.returns-in-Entries
returns-in-Entries c = left_at_entries c.self.inside.file c.self.inside.stage c.args.self.now.left c.in-Entries.field-0 (ap (λ (p : Pieces). p.left) c.self.view_is) c.in-Entries.is

pub returns-in-Digest : goal.returns-in-Digest
returns-in-Digest c = left_at_digest c.self.inside.file c.self.inside.stage c.args.self.now.left (ap (λ (p : Pieces). p.left) c.self.view_is) c.in-Digest.is
