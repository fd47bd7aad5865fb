use Rattle.std.proofs.Common.{◌≡◌, ◌∙◌, Some, sym, ap}
use Rattle.ep_embedded.proofs.Requests.{is_bad, is_none, is_one}
use Rattle.ep_embedded.proofs.asking.read_one.Goals as goal

pub returns-in-Ok-clause-ok : goal.returns-in-Ok-clause-ok
returns-in-Ok-clause-ok c =
    let r = c.in-Ok.ensures.bytes c.args.bytes.now (λ t. Some (c.new-source.ensures t).inner.now) in
    let left : c.read_request.new.source.inner.now ≡ r.0 = (let e = r.1 in cc) in
    let seen : c.inner.result.now.now ≡ c.read_request.new.source.inner.now = ap (λ b. b.now) c.inner.ensures in
    is_one c.args.dialect.now c.args.bytes.now r.0 _ c.in-Ok.found c.is_over.result c.alone.result r.2 (λ t. sym left ∙ sym seen ∙ c.is_over.ensures.over t) c.alone.ensures.ok

pub returns-in-Ok-clause-err : goal.returns-in-Ok-clause-err
returns-in-Ok-clause-err c =
    let r = c.in-Ok.ensures.bytes c.args.bytes.now (λ t. Some (c.new-source.ensures t).inner.now) in
    let left : c.read_request.new.source.inner.now ≡ r.0 = (let e = r.1 in cc) in
    let seen : c.inner.result.now.now ≡ c.read_request.new.source.inner.now = ap (λ b. b.now) c.inner.ensures in
    is_none c.args.dialect.now c.args.bytes.now r.0 _ c.in-Ok.found c.is_over.result c.alone.result r.2 (λ t none. c.is_over.ensures.more t (seen ∙ left ∙ none)) c.alone.ensures.err

pub returns-in-Err-clause-err : goal.returns-in-Err-clause-err
returns-in-Err-clause-err c = is_bad c.args.dialect.now c.args.bytes.now c.in-Err.fault c.from.result _ _ c.from.ensures (c.in-Err.ensures.bytes c.args.bytes.now (λ t. Some (c.new-source.ensures t).inner.now))
