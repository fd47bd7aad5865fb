use Rattle.std.proofs.Common.{◌≡◌, ℕ, suc, ◌+◌, ◌<◌, List, ◌∷◌, ◌++◌, length, drop, drop-cons, get_or, sym, ap, ◌∙◌, subst, append_assoc, arith}
use Rattle.ep_journal.specs.Entries.{Collected}
use Rattle.ep_rules.specs.declared.receipt.Receipt.{Receipt}
use Rattle.ep_audit.specs.Claims.{receipt_fault}
use Rattle.ep_audit.specs.Listed.{listed, receipt_faults}
use Rattle.ep_audit.specs.declared.audit_fault.AuditFault.{AuditFault}
use Rattle.ep_audit.proofs.listing.push_receipt_faults.Goals as goal

-- the fault of the next receipt, which is the one of this place, stands behind those found
one_more : (c : Collected) (place : ℕ) (t : Receipt) (ts : List Receipt) (found more all : List AuditFault) → place < length ts → t ≡ get_or ts place t → more ≡ found ++ listed (receipt_fault c (suc place) t)
    → found ++ receipt_faults c (suc place) (drop place ts) ≡ all → more ++ receipt_faults c (suc (suc place)) (drop (suc place) ts) ≡ all
one_more c place t ts found more all inside this is so =
    let rest = receipt_faults c (suc (suc place)) (drop (suc place) ts) in
    let here : drop place ts ≡ t ∷ drop (suc place) ts = drop-cons ts place t inside ∙ ap (λ (x : Receipt). x ∷ drop (suc place) ts) (sym this) in
    ap (λ (x : List AuditFault). x ++ rest) is ∙ append_assoc found (listed (receipt_fault c (suc place) t)) rest ∙ ap (λ (x : List Receipt). found ++ receipt_faults c (suc place) x) (sym here) ∙ so

-- the same, by the number that comes next
one_more_by : (n : ℕ) (c : Collected) (place : ℕ) (t : Receipt) (ts : List Receipt) (found more all : List AuditFault) → suc place ≡ n → place < length ts → t ≡ get_or ts place t → more ≡ found ++ listed (receipt_fault c n t)
    → found ++ receipt_faults c (suc place) (drop place ts) ≡ all → more ++ receipt_faults c (suc n) (drop n ts) ≡ all
one_more_by n c place t ts found more all e inside this =
    subst (λ (m : ℕ). more ≡ found ++ listed (receipt_fault c m t) → found ++ receipt_faults c (suc place) (drop place ts) ≡ all → more ++ receipt_faults c (suc m) (drop m ts) ≡ all) e
    (one_more c place t ts found more all inside this)

next : (place : ℕ) → suc place ≡ place + 1
next place = omega arith

pub loop-place-preserved : goal.loop-place-preserved
loop-place-preserved c =
    one_more_by (c.loop-place.place + 1) c.args.journals.now c.loop-place.place c.index-receipts-place.result c.args.receipts.now c.loop-place.found.items c.push_some.new.found.items _
    (next c.loop-place.place) c.loop-place-test.true c.index-receipts-place.is (c.in_ok-push_some.ensures ∙ ap (λ x. c.loop-place.found.items ++ listed x) c.receipt_fault.ensures) c.loop-place.invariant
