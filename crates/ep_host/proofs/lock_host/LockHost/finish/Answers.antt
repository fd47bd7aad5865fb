use Rattle.std.proofs.Common.{◌≡◌, ◌<◌, ◌∙◌, length, vec_len, sym, arith}
use Rattle.std.proofs.lemmas.Result.{IfOk-weaker}
use Rattle.ep_base.specs.Quorums.{size}
use Rattle.ep_journal.specs.Entries.{first_opening}
use Rattle.ep_replica.specs.Kept.{first_version}
use Rattle.ep_host.proofs.Starting.{first_starts}
use Rattle.ep_host.proofs.lock_host.LockHost.finish.Goals as goal

pub returns-clause-version : goal.returns-clause-version
returns-clause-version g c =
    let ls = c.in_ok-journals.journals.items in
    let some : 0 < length ls = (let all : vec_len c.in_ok-journals.journals ≡ size c.args.self.cluster = c.in_ok-journals.ensures.count ∙ c.args.self.seated in let long : vec_len c.in_ok-journals.journals ≡ length ls = c.in_ok-journals.journals.ok.0 in omega arith) in
    let first = first_starts g.S.Start.start ls some c.in_ok-journals.ensures.start in
    IfOk-weaker c.finished.result (λ f. f.journals.version ≡ first_version ls) (λ f. f.journals.version ≡ c.args.self.version) (λ f e. e ∙ first.0 ∙ sym c.args.self.of_version) c.finished.ensures.version

pub returns-clause-opening : goal.returns-clause-opening
returns-clause-opening g c =
    let ls = c.in_ok-journals.journals.items in
    let some : 0 < length ls = (let all : vec_len c.in_ok-journals.journals ≡ size c.args.self.cluster = c.in_ok-journals.ensures.count ∙ c.args.self.seated in let long : vec_len c.in_ok-journals.journals ≡ length ls = c.in_ok-journals.journals.ok.0 in omega arith) in
    let first = first_starts g.S.Start.start ls some c.in_ok-journals.ensures.start in
    IfOk-weaker c.finished.result (λ f. f.journals.opening ≡ first_opening ls) (λ f. f.journals.opening ≡ c.args.self.opening) (λ f e. e ∙ first.1 ∙ sym c.args.self.of_opening) c.finished.ensures.opening
