use Rattle.std.proofs.Common.{◌≡◌, ◌+◌, length, vec_len, ap, ◌∙◌, arith}
use Rattle.std.proofs.lemmas.Result.{IfOk-weaker}
use Rattle.ep_base.specs.Quorums.{size}
use Rattle.ep_journal.specs.Entries.{first_opening}
use Rattle.ep_journal.proofs.InOrder.{in_order_size}
use Rattle.ep_replica.specs.Kept.{first_version}
use Rattle.ep_host.proofs.Seating.{first_is}
use Rattle.ep_host.proofs.finishing.finished.Goals as goal

pub returns-in-Ok-clause-size : goal.returns-in-Ok-clause-size
returns-in-Ok-clause-size c =
    let f = c.in-Ok.journals.faults in
    let all : 0 + length c.args.journals.items ≡ size f = in_order_size c.in-Ok.journals.version c.in-Ok.journals.opening f 0 c.args.journals.items c.in-Ok.ensures.of_one in
    let length : vec_len c.args.journals ≡ length c.args.journals.items = c.args.journals.ok.0 in
    let same : size f ≡ vec_len c.args.journals = omega arith in
    IfOk-weaker c.audited.result (λ x. x.journals.faults ≡ f) (λ x. size x.journals.faults ≡ vec_len c.args.journals) (λ x faults. ap size faults ∙ same) c.audited.ensures.size

pub returns-in-Ok-clause-version : goal.returns-in-Ok-clause-version
returns-in-Ok-clause-version c =
    let v = c.in-Ok.journals.version in
    let is : v ≡ first_version c.args.journals.items = (first_is v c.in-Ok.journals.opening c.in-Ok.journals.faults c.args.journals.items c.in-Ok.ensures.of_one).0 in
    IfOk-weaker c.audited.result (λ x. x.journals.version ≡ v) (λ x. x.journals.version ≡ first_version c.args.journals.items) (λ x version. version ∙ is) c.audited.ensures.version

pub returns-in-Ok-clause-opening : goal.returns-in-Ok-clause-opening
returns-in-Ok-clause-opening c =
    let o = c.in-Ok.journals.opening in
    let is : o ≡ first_opening c.args.journals.items = (first_is c.in-Ok.journals.version o c.in-Ok.journals.faults c.args.journals.items c.in-Ok.ensures.of_one).1 in
    IfOk-weaker c.audited.result (λ x. x.journals.opening ≡ o) (λ x. x.journals.opening ≡ first_opening c.args.journals.items) (λ x opening. opening ∙ is) c.audited.ensures.opening
