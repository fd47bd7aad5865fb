-- A request that a node which works hasn't done.
use Rattle.std.proofs.Common.{◌≡◌, false, inl, inr, sym, ◌∙◌}
use Rattle.std.proofs.lemmas.Bool.{false≢true}
use Rattle.ep_node.specs.Nodes.{Logged}
use Rattle.ep_serve.specs.Acting.{IsCutShort, IsUndone}
use Rattle.ep_wire.specs.declared.request.Request.{Request}
use Rattle.ep_wire.specs.declared.request.Request.TheVariants as request

-- it stopped when out of memory
pub cut_short : {D : Type 0} (n n' : Logged D) (r : Request) → n.closed ≡ false → IsUndone n r n' → IsCutShort n.replica r n'.replica
cut_short n n' (request.Event happening) works un = absurd (false≢true (sym works ∙ un.0))
cut_short n n' request.BadFrame works un = absurd un
cut_short n n' request.Advance works (inl over) = absurd (false≢true (sym works ∙ over.0))
cut_short n n' request.Advance works (inr short) = short
cut_short n n' (request.Get key) works un = absurd un
cut_short n n' (request.NextOpen after) works un = absurd un
cut_short n n' (request.Leads i) works un = absurd un
cut_short n n' request.Sync works un = absurd un
cut_short n n' request.State works un = absurd un
cut_short n n' request.ExecuteAll works (inl over) = absurd (false≢true (sym works ∙ over.0))
cut_short n n' request.ExecuteAll works (inr short) = short
cut_short n n' (request.Ready after most) works un = absurd un
cut_short n n' (request.Handled r) works un = absurd un
cut_short n n' (request.Interfering key) works un = absurd un
cut_short n n' (request.Read key found) works un = absurd un
cut_short n n' (request.Malformed m) works un = absurd un
