use Rattle.std.proofs.Common.{◌≡◌, refl, subst, ℕ, List, Option}
use Rattle.ep_base.specs.declared.version.Version.{Version}
use Rattle.ep_journal.specs.Openings.{Opening}
use Rattle.ep_replica.specs.Kept.{start_of}
use Rattle.ep_host.specs.Asking.{IsPumped, turn_of}
use Rattle.ep_host.specs.HostFrames.{IsOnly}
use Rattle.ep_host.proofs.Versioned.{only_versioned}
use Rattle.ep_host.proofs.host_replica.HostReplica.pump.Goals as goal

pub returns-clause-pumped : goal.returns-clause-pumped
returns-clause-pumped g c =
    let k = c.args.self.now.replica in
    let only : IsOnly k.version c.frame_in.result c.only_of-given.result = subst (λ (v : Version). IsOnly v c.frame_in.result c.only_of-given.result) c.version.ensures.value c.only_of-given.ensures in
    let reported : IsPumped (start_of k) (turn_of c.tend.result.moved) = record {
      old = k;
      new = c.tend.new.replica;
      run = c.know.ensures;
      given = c.only_of-given.result;
      versioned = only_versioned k.version c.frame_in.result c.only_of-given.result only;
      tended = c.tend.result;
      tends = c.tend.ensures.tends;
      reported = refl;
    } in
    subst (λ (s : Version × Opening). IsPumped s (turn_of c.tend.result.moved)) c.args.self.now.start reported

pub returns-clause-exact : goal.returns-clause-exact
returns-clause-exact g c =
    let k = c.args.self.now.replica in
    let only : IsOnly k.version c.frame_in.result c.only_of-given.result = subst (λ (v : Version). IsOnly v c.frame_in.result c.only_of-given.result) c.version.ensures.value c.only_of-given.ensures in (
      c.only_of-given.result,
      subst (λ (f : Option (List ℕ)). IsOnly k.version f c.only_of-given.result) c.frame_in.ensures.value only,
      c.tend.ensures.tends,
    )
