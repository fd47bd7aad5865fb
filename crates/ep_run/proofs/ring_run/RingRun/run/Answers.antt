use Rattle.std.proofs.Common.{rules, ◌≡◌, ◌∙◌, ◌++◌, ℕ, List, length, subst, sym, ap, []}
use Rattle.std.proofs.lemmas.List.{with_items_is}
use Rattle.ep_host.specs.Host.{IsHost}
use Rattle.ep_host.specs.Node.{Node}
use Rattle.ep_host.specs.Pointwise.{Each}
use Rattle.ep_host.specs.declared.weather.Weather.{Weather}
use Rattle.ep_replay.specs.Tables.{AreCounted}
use Rattle.ep_script.specs.Fits.{FitsSection}
use Rattle.ep_script.specs.Plan.{SectionPlan}
use Rattle.ep_run.specs.Asking.{asked_by, proposers_of}
use Rattle.ep_run.specs.Rings.{Begins, Turns, Collects, proposers_in, entry_counts, given_after}
use Rattle.ep_run.specs.Weathers.{weather_in}
use Rattle.ep_run.proofs.Running.{has_run, counts_long}
use Rattle.ep_run.proofs.Turning.{Passes, passes_section, own_stays}
use Rattle.ep_run.proofs.ring_run.RingRun.run.Goals as goal

pub begin-requires-clause-fits : goal.begin-requires-clause-fits
begin-requires-clause-fits g c = subst (λ (l : List Node). FitsSection (length l) c.args.section.now) (sym c.as_mut_slice.ensures.value) c.requires.fits

pub begin-requires-clause-host : goal.begin-requires-clause-host
begin-requires-clause-host g c = let r = c.requires.run in (r.0.faults, subst (λ (l : List Node). IsHost r.0.faults l) (sym c.as_mut_slice.ensures.value) r.2.host)

pub begin-requires-clause-counted : goal.begin-requires-clause-counted
begin-requires-clause-counted g c = let r = c.requires.run in (proposers_in [] r.1, c.args.self.now.receipts.items, r.2.counted)

pub collect_all-requires : goal.collect_all-requires
collect_all-requires g c =
    let r = c.requires.run in
    let f = r.0.faults in
    let old = c.args.self.now in
    let middle : List Node = c.begin.new.nodes in
    let is : c.replace-nodes.result.items ≡ middle = ap (λ (v : _). v.items) c.replace-nodes.ensures.value ∙ with_items_is old.nodes middle (search rules) in
    let host : IsHost f middle = c.begin.ensures.host f (subst (λ (l : List Node). IsHost f l) (sym c.as_mut_slice.ensures.value) r.2.host) in
    let after : IsHost f c.turned.result.items = c.turned.ensures.host f (subst (λ (l : List Node). IsHost f l) (sym is) host) in
    let emptied = c.replace-emptied.ensures.after in
    let there : c.replace-emptied.new.dest.items ≡ c.turned.result.items = cc in
    counts_long old.nodes.items old.collected.items r.2.collected ∙ r.2.host.count ∙ sym after.count ∙ sym (ap (λ (l : List Node). length l) there)

pub returns-clause-run : goal.returns-clause-run
returns-clause-run g c = λ b done h.
    let f = b.faults in
    let turns = c.args.turns in
    let plan : SectionPlan = c.args.section.now in
    let ws : List Weather = weather_in plan.weather in
    let old = c.args.self.now in
    let new = c.collect_all.new.self in
    let middle : List Node = c.begin.new.nodes in
    let clients = c.begin.new.clients in
    let ps = proposers_in [] done in
    let ts = old.receipts.items in
    let start : c.as_mut_slice.result.now ≡ old.nodes.items = c.as_mut_slice.ensures.value in
    let is : c.replace-nodes.result.items ≡ middle = ap (λ (v : _). v.items) c.replace-nodes.ensures.value ∙ with_items_is old.nodes middle (search rules) in
    let kept : new.nodes.items ≡ c.turned.result.items = (let n = c.in_ok-collect_all.ensures.nodes in let r = c.replace-emptied.ensures.after in cc) in
    let begins : Begins (asked_by ps ts plan.lines) ws old.nodes.items middle = subst (λ (l : List Node). Begins (asked_by ps ts plan.lines) ws l middle) start (c.in_ok-begin.ensures.begins ps ts h.counted) in
    let counted : AreCounted clients (proposers_of ps plan.lines) ts = c.in_ok-begin.ensures.counted ps ts h.counted in
    let turned : Turns turns middle new.nodes.items = subst (λ (l : List Node). Turns turns middle l) (sym kept) (subst (λ (l : List Node). Turns turns l c.turned.result.items) is c.turned.ensures.turns) in
    let each : Each (Passes turns) begins.assigned new.nodes.items = passes_section turns ws begins.assigned middle new.nodes.items begins.sets turned in
    let host : IsHost f new.nodes.items =
    subst (λ (l : List Node). IsHost f l) (sym kept) (c.turned.ensures.host f (subst (λ (l : List Node). IsHost f l) (sym is) (c.begin.ensures.host f (subst (λ (l : List Node). IsHost f l) (sym start) h.host)))) in
    let still : new.nodes.items ≡ c.replace-emptied.new.dest.items = (let n = c.in_ok-collect_all.ensures.nodes in cc) in
    let more = given_after old.collected.items new.nodes.items in
    let collects : Collects more new.nodes.items clients ts new.clients new.receipts.items =
    subst (λ (l : List Node). Collects (given_after old.collected.items l) l clients ts new.clients new.receipts.items) (sym still) c.in_ok-collect_all.ensures.receipts in
    let collected : new.collected.items ≡ entry_counts new.nodes.items = c.in_ok-collect_all.ensures.collected ∙ ap entry_counts (sym still) in
    has_run b turns done plan old new begins.assigned clients h c.requires.fits.agendas begins.assigns counted each host more collects collected

pub returns-clause-section : goal.returns-clause-section
returns-clause-section g c = λ b done h.
    let turns = c.args.turns in
    let plan : SectionPlan = c.args.section.now in
    let ws : List Weather = weather_in plan.weather in
    let old = c.args.self.now in
    let new = c.collect_all.new.self in
    let middle : List Node = c.begin.new.nodes in
    let ps = proposers_in [] done in
    let ts = old.receipts.items in
    let start : c.as_mut_slice.result.now ≡ old.nodes.items = c.as_mut_slice.ensures.value in
    let is : c.replace-nodes.result.items ≡ middle = ap (λ (v : _). v.items) c.replace-nodes.ensures.value ∙ with_items_is old.nodes middle (search rules) in
    let kept : new.nodes.items ≡ c.turned.result.items = (let n = c.in_ok-collect_all.ensures.nodes in let r = c.replace-emptied.ensures.after in cc) in
    let still : new.nodes.items ≡ c.replace-emptied.new.dest.items = (let n = c.in_ok-collect_all.ensures.nodes in cc) in
    let begins : Begins (asked_by ps ts plan.lines) ws old.nodes.items middle = subst (λ (l : List Node). Begins (asked_by ps ts plan.lines) ws l middle) start (c.in_ok-begin.ensures.begins ps ts h.counted) in
    let turned : Turns turns middle new.nodes.items = subst (λ (l : List Node). Turns turns middle l) (sym kept) (subst (λ (l : List Node). Turns turns l c.turned.result.items) is c.turned.ensures.turns) in record {
      begun = middle;
      begins = begins;
      turned = turned;
      collected = c.in_ok-collect_all.ensures.receipts.is ∙ ap (λ (l : List Node). ts ++ given_after old.collected.items l) (sym still) ∙ ap (λ (ks : List ℕ). ts ++ given_after ks new.nodes.items) h.collected;
    }

pub returns-clause-weather : goal.returns-clause-weather
returns-clause-weather g c =
    let turns = c.args.turns in
    let plan : SectionPlan = c.args.section.now in
    let ws : List Weather = weather_in plan.weather in
    let old = c.args.self.now in
    let new = c.collect_all.new.self in
    let middle : List Node = c.begin.new.nodes in
    let r = c.requires.run in
    let ps = proposers_in [] r.1 in
    let ts = old.receipts.items in
    let is : c.replace-nodes.result.items ≡ middle = ap (λ (v : _). v.items) c.replace-nodes.ensures.value ∙ with_items_is old.nodes middle (search rules) in
    let kept : new.nodes.items ≡ c.turned.result.items = (let n = c.in_ok-collect_all.ensures.nodes in let r = c.replace-emptied.ensures.after in cc) in
    let begins : Begins (asked_by ps ts plan.lines) ws c.as_mut_slice.result.now middle = c.in_ok-begin.ensures.begins ps ts r.2.counted in
    let turned : Turns turns middle new.nodes.items = subst (λ (l : List Node). Turns turns middle l) (sym kept) (subst (λ (l : List Node). Turns turns l c.turned.result.items) is c.turned.ensures.turns) in
    own_stays turns ws begins.assigned middle new.nodes.items begins.sets turned

pub turned-requires-clause-host : goal.turned-requires-clause-host
turned-requires-clause-host g c = λ κs lives.
    let r = c.requires.run in
    let old = c.args.self.now in
    let middle : List Node = c.begin.new.nodes in
    let is : c.replace-nodes.result.items ≡ middle = ap (λ (v : _). v.items) c.replace-nodes.ensures.value ∙ with_items_is old.nodes middle (search rules) in
    (r.0.faults, subst (λ (l : List Node). IsHost r.0.faults l) (sym is) (c.begin.ensures.host r.0.faults (subst (λ (l : List Node). IsHost r.0.faults l) (sym c.as_mut_slice.ensures.value) r.2.host)))
