-- The first of all faults is the audit's first fault.
use Rattle.std.proofs.Common.{◌≡◌, ℕ, zero, suc, ◌<◌, Option, Some, None, List, [], ◌∷◌, ◌++◌, refl, sym, ap, subst, ◌∙◌}
use Rattle.ep_base.specs.Quorums.{size}
use Rattle.ep_journal.specs.Entries.{Collected, entries_at, journals_of, AreJournals}
use Rattle.ep_journal.specs.declared.entry.Entry.{Entry}
use Rattle.ep_journal.specs.Openings.{opens}
use Rattle.ep_audit.specs.Claims.{receipt_fault, first_of}
use Rattle.ep_audit.specs.Handlings.{entry_fault, or_else, first_in, first_below}
use Rattle.ep_audit.proofs.Handled.{matched, handled_wrong}
use Rattle.ep_audit.proofs.Claimed.{accepted_if, wrong_if}
use Rattle.ep_audit.specs.declared.audit_fault.AuditFault.{AuditFault}
use Rattle.ep_rules.specs.declared.receipt.Receipt.{Receipt}
use Rattle.ep_audit.specs.Listed.{listed, faults_in, faults_below, receipt_faults, all_faults, IsFirst}

-- the first one, if there is one
abbrev head : List AuditFault → Option AuditFault
head [] = None
head (x ∷ xs) = Some x

head_append : (xs ys : List AuditFault) → head (xs ++ ys) ≡ or_else (head xs) (head ys)
head_append [] ys = refl
head_append (x ∷ xs) ys = refl

head_listed : (o : Option AuditFault) → head (listed o) ≡ o
head_listed None = refl
head_listed (Some x) = refl

head_more : (o p : Option AuditFault) (ys : List AuditFault) → head ys ≡ p → head (listed o ++ ys) ≡ or_else o p
head_more o p ys is = head_append (listed o) ys ∙ ap (λ z. or_else z (head ys)) (head_listed o) ∙ ap (λ z. or_else o z) is

head_in : (c : Collected) (r : ℕ) (es : List Entry) → head (faults_in c r es) ≡ first_in c r es
head_in c r [] = refl
head_in c r (e ∷ es) = head_more (entry_fault c r e) (first_in c r es) (faults_in c r es) (head_in c r es)

head_below : (c : Collected) (n : ℕ) → head (faults_below c n) ≡ first_below c n
head_below c zero = refl
head_below c (suc n) =
    head_append (faults_below c n) (faults_in c n (entries_at c n))
    ∙ ap (λ z. or_else z (head (faults_in c n (entries_at c n)))) (head_below c n)
    ∙ ap (λ z. or_else (first_below c n) z) (head_in c n (entries_at c n))

head_of : (c : Collected) (place : ℕ) (ts : List Receipt) → head (receipt_faults c place ts) ≡ first_of c place ts
head_of c place [] = refl
head_of c place (t ∷ ts) = head_more (receipt_fault c place t) (first_of c (suc place) ts) (receipt_faults c (suc place) ts) (head_of c (suc place) ts)

head_all : (c : Collected) (ts : List Receipt) → head (all_faults c ts) ≡ or_else (first_below c (size c.faults)) (first_of c 1 ts)
head_all c ts =
    head_append (faults_below c (size c.faults)) (receipt_faults c 1 ts)
    ∙ ap (λ z. or_else z (head (receipt_faults c 1 ts))) (head_below c (size c.faults))
    ∙ ap (λ z. or_else (first_below c (size c.faults)) z) (head_of c 1 ts)

-- whatever has that first one
module _ (c : Collected) (ts : List Receipt) (h : AreJournals c) (some : 0 < c.faults) where
  first : (xs : List AuditFault) (o : Option AuditFault) → first_below c (size c.faults) ≡ o → head xs ≡ or_else o (first_of c 1 ts) → IsFirst (opens c.opening) c.faults (journals_of c) ts xs
  first [] None none is = accepted_if c ts h some (matched c h none) None is
  first (x ∷ xs) None none is = wrong_if c ts h some (matched c h none) (Some x) is
  first [] (Some y) found is = let s : None ≡ Some y = is in absurd (cc)
  first (x ∷ xs) (Some y) found is = let s : Some x ≡ Some y = is in handled_wrong c.faults c ts (size c.faults) x h (found ∙ sym s)

pub is_first : (c : Collected) (ts : List Receipt) → AreJournals c → 0 < c.faults → IsFirst (opens c.opening) c.faults (journals_of c) ts (all_faults c ts)
is_first c ts h some = first c ts h some (all_faults c ts) (first_below c (size c.faults)) refl (head_all c ts)

-- the same of a list that was made
pub is_first_of : (c : Collected) (ts : List Receipt) (xs : List AuditFault) → AreJournals c → 0 < c.faults → xs ≡ all_faults c ts → IsFirst (opens c.opening) c.faults (journals_of c) ts xs
is_first_of c ts xs h some e = subst (λ z. IsFirst (opens c.opening) c.faults (journals_of c) ts z) (sym e) (is_first c ts h some)
