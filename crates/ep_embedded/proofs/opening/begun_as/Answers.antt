use Rattle.std.proofs.Common.{◌∙◌, Some}
use Rattle.ep_embedded.proofs.Beginning.{begun_on, unopened_on}
use Rattle.ep_embedded.proofs.opening.begun_as.Goals as goal

pub returns-in-Ok-clause-ok : goal.returns-in-Ok-clause-ok
returns-in-Ok-clause-ok c =
    let whose = c.args.whose in
    let seen = c.in_ok-device.ensures.bytes ∙ c.bytes_of.ensures in
    let ok = c.in-Ok.ensures.ok in
    let handed = c.hosted_by.ensures in
    begun_on whose.origin whose.cluster whose.me _ c.begin_of-begin.result c.in-Ok.node c.hosted_by.result c.begin_of-begin.ensures
    (record {
      replica = handed.node.0;
      digest = handed.node.1;
      cut = handed.node.2;
      quiet = handed.quiet;
      bytes = handed.lent.0;
      lent = handed.lent.1;
      all = handed.lent.2;
      anew = handed.anew;
      asked = handed.none.0;
      held = handed.none.1;
      reported = handed.none.2;
    })
    c.in-Ok.ensures.origin ok.1 ok.2 (ok.3 _ (λ t. Some (seen t))) (c.in-Ok.ensures.written _ (λ t. Some (seen t)))

pub returns-in-Err-clause-err : goal.returns-in-Err-clause-err
returns-in-Err-clause-err c =
    let whose = c.args.whose in
    let seen = c.in_ok-device.ensures.bytes ∙ c.bytes_of.ensures in
    unopened_on whose.origin whose.cluster whose.me _ c.begin_of-begin.result c.in-Err.fault c.begin_of-begin.ensures (c.in-Err.ensures.err _ (λ t. Some (seen t)))
