-- Answers that are held, with what the entries did behind them.
use Rattle.std.proofs.Common.{◌≡◌, ℕ, List, [], length, None, Some, sym, ap, ◌∙◌, subst}
use Rattle.ep_device.specs.declared.host_device.HostDevice.{HostDevice}
use Rattle.ep_embedded.specs.Following.{AllFollowed, HasPreparedAll}
use Rattle.ep_embedded.specs.Hosting.{Buffer, Hosting}
use Rattle.ep_node.specs.Nodes.{IsQuiet, Logged}
use Rattle.ep_serve.specs.declared.pending_answer.PendingAnswer.{PendingAnswer}

-- all that was taken is lent, and they are held
pub prepared_all : (h0 h : Hosting) (n' : Logged HostDevice) (dues asked : List PendingAnswer) (after most until : ℕ)
    (bytes : Buffer) → h0 ≡ h → IsQuiet h.node → h.held ≡ None
    → asked ≡ h0.dues → AllFollowed h0.node.replica asked after most bytes.items → n' ≡ h0.node → dues ≡ []
    → until ≡ length n'.replica.entries
    → HasPreparedAll h after most (record h0 { node = n'; dues = dues; held = Some bytes; until = until })
prepared_all h0 h n' dues asked after most until bytes same quiet none to reports is empty all =
    let k : Hosting = record h0 { node = n'; dues = dues; held = Some bytes; until = until } in
    subst (λ (x : Hosting). HasPreparedAll x after most k) same (record {
      lent = subst (λ (x : Hosting). IsQuiet x.node) (sym same) quiet;
      none = ap (λ (x : Hosting). x.held) same ∙ none;
      bytes = bytes;
      reports = subst (λ (ds : List PendingAnswer). AllFollowed h0.node.replica ds after most bytes.items) to reports;
      is = λ t. record h0 {
        node = is t;
        dues = empty t;
        held = Some bytes;
        until = (all ∙ ap (λ (n : Logged HostDevice). length n.replica.entries) is) t;
      };
    })
