use Rattle.std.proofs.Common.{rules, ◌≡◌, refl, string_bytes}
use Rattle.ep_cli.proofs.Printed.{put_fails, put_reads, text_fails, text_reads}
use Rattle.ep_viewer.proofs.Ending.{done_as, help_put, version_put}
use Rattle.ep_viewer.specs.Faults.{is_read, is_write}
use Rattle.ep_viewer.specs.declared.viewer_asked.ViewerAsked.TheVariants.{View as OfBundle, Trace, Explain, Version, Help}
use Rattle.ep_viewer.specs.declared.viewer_fault.ViewerFault.TheVariants.{Write}
use Rattle.ep_viewer.proofs.program.attempt.Goals as goal

pub returns-in-View-clause-done : goal.returns-in-View-clause-done
returns-in-View-clause-done g c zs known =
    let is : c.args.asked.now ≡ OfBundle c.in-View.view = search rules in
    done_as c.args.asked.now (OfBundle c.in-View.view) c.view_of-made.result c.put_made.result zs _ is (c.view_of-made.ensures.made zs known) c.put_made.ensures

pub returns-in-View-clause-read : goal.returns-in-View-clause-read
returns-in-View-clause-read g c = put_reads is_read Write c.view_of-made.result c.put_made.result _ _ _ refl c.view_of-made.ensures.read c.put_made.ensures

pub returns-in-View-clause-written : goal.returns-in-View-clause-written
returns-in-View-clause-written g c = put_fails is_write Write c.view_of-made.result c.put_made.result _ refl c.view_of-made.ensures.unwritten c.put_made.ensures

pub returns-in-Trace-clause-done : goal.returns-in-Trace-clause-done
returns-in-Trace-clause-done g c zs known =
    let is : c.args.asked.now ≡ Trace = search rules in
    done_as c.args.asked.now Trace c.trace_of-made.result c.put_made-in-Trace.result zs _ is (c.trace_of-made.ensures.made zs known) c.put_made-in-Trace.ensures

pub returns-in-Trace-clause-read : goal.returns-in-Trace-clause-read
returns-in-Trace-clause-read g c = put_reads is_read Write c.trace_of-made.result c.put_made-in-Trace.result _ _ _ refl c.trace_of-made.ensures.read c.put_made-in-Trace.ensures

pub returns-in-Trace-clause-written : goal.returns-in-Trace-clause-written
returns-in-Trace-clause-written g c = put_fails is_write Write c.trace_of-made.result c.put_made-in-Trace.result _ refl c.trace_of-made.ensures.unwritten c.put_made-in-Trace.ensures

pub returns-in-Explain-clause-done : goal.returns-in-Explain-clause-done
returns-in-Explain-clause-done g c zs known =
    let is : c.args.asked.now ≡ Explain = search rules in
    done_as c.args.asked.now Explain c.explanation_of-made.result c.put_made-in-Explain.result zs _ is (c.explanation_of-made.ensures.made zs known) c.put_made-in-Explain.ensures

pub returns-in-Explain-clause-read : goal.returns-in-Explain-clause-read
returns-in-Explain-clause-read g c = put_reads is_read Write c.explanation_of-made.result c.put_made-in-Explain.result _ _ _ refl c.explanation_of-made.ensures.read c.put_made-in-Explain.ensures

pub returns-in-Explain-clause-written : goal.returns-in-Explain-clause-written
returns-in-Explain-clause-written g c = put_fails is_write Write c.explanation_of-made.result c.put_made-in-Explain.result _ refl c.explanation_of-made.ensures.unwritten c.put_made-in-Explain.ensures

pub returns-in-Version-clause-done : goal.returns-in-Version-clause-done
returns-in-Version-clause-done g c zs known =
    let is : c.args.asked.now ≡ Version = search rules in
    version_put c.args.asked.now c.put_text.result zs _ is c.put_text.ensures

pub returns-in-Help-clause-done : goal.returns-in-Help-clause-done
returns-in-Help-clause-done g c zs known =
    let is : c.args.asked.now ≡ Help c.in-Help.text = search rules in
    let bytes : c.as_bytes.result.now ≡ string_bytes c.in-Help.text = search rules in
    help_put c.args.asked.now (Help c.in-Help.text) _ c.put_text-in-Help.result zs _ is bytes c.put_text-in-Help.ensures

pub returns-in-Version-clause-read : goal.returns-in-Version-clause-read
returns-in-Version-clause-read g c = text_reads is_read Write _ _ c.put_text.result _ _ refl c.put_text.ensures

pub returns-in-Version-clause-written : goal.returns-in-Version-clause-written
returns-in-Version-clause-written g c = text_fails is_write Write _ _ c.put_text.result _ refl c.put_text.ensures

pub returns-in-Help-clause-read : goal.returns-in-Help-clause-read
returns-in-Help-clause-read g c = text_reads is_read Write _ _ c.put_text-in-Help.result _ _ refl c.put_text-in-Help.ensures

pub returns-in-Help-clause-written : goal.returns-in-Help-clause-written
returns-in-Help-clause-written g c = text_fails is_write Write _ _ c.put_text-in-Help.result _ refl c.put_text-in-Help.ensures
