use Rattle.std.proofs.Common.{◌≡◌, ◌∙◌, sym, rules}
use Rattle.std.proofs.lemmas.Bool.{false≢true}
use Rattle.ep_embedded.specs.Succeeding.{MaySucceed}
use Rattle.ep_library.proofs.Heirs.{gone_on, is_gone}
use Rattle.ep_library.proofs.succeeding.succeeds.Goals as goal

pub returns-in-Ok : goal.returns-in-Ok
returns-in-Ok c =
    let own : c.into_inner.result ≡ c.args.hosted.value = search rules in
    gone_on c.keep_both.result c.args.hosted.value c.into_inner.result c.args.succession.now c.in-Some.heir c.in-Ok.next.0 c.in-Ok.next.1 c.keep_both.new.handle.value c.keep_both.new.checkpoint.value
    c.in-Some.ensures.some (λ p. false≢true (sym c.if-is_spare.false ∙ c.is_spare.ensures.1 p)) own c.in-Ok.ensures c.keep_both.ensures

pub returns-in-Err-next_of : goal.returns-in-Err-next_of
returns-in-Err-next_of c =
    let own : c.into_inner.result ≡ c.args.hosted.value = search rules in
    let may : MaySucceed c.args.hosted.value c.in-Some.heir = search rules in
    is_gone c.succeed_status-in-Err-next_of.result c.succeed_place.result c.args.hosted.value c.into_inner.result c.args.succession.now c.in-Some.heir c.in-Err-next_of.fault c.args.handle.now.value c.args.checkpoint.now.value
    c.in-Some.ensures.some (λ p. false≢true (sym c.if-is_spare.false ∙ c.is_spare.ensures.1 p)) own may c.in-Err-next_of.ensures c.succeed_status-in-Err-next_of.ensures.value c.succeed_place.ensures c.requires.none c.requires.free
