-- Items of generations, one after the other.
use Rattle.std.proofs.Common.{◌≡◌, ◌+◌, ◌≤◌, ◌<◌, ℕ, zero, suc, Bool, false, List, [], ◌∷◌, ◌++◌, length, get_or, drop, append-nil, append_assoc, sym, ap, subst, ◌∙◌, arith}
use Rattle.std.proofs.lemmas.List.{at_drop_all}
use Rattle.ep_audit.specs.declared.chain_link.ChainLink.{ChainLink}
use Rattle.ep_audit.specs.declared.verdict.Verdict.{Verdict}
use Rattle.ep_json.specs.Values.{comma, joined}
use Rattle.ep_report_json.specs.Chains.{link_value, link_values}

-- the next one
link_next :
    (k : ℕ) (ls : List ChainLink) (vs : List Verdict) (l dl : ChainLink) (v dv : Verdict) → k < length ls → length vs ≡ length ls → l ≡ get_or ls k dl → v ≡ get_or vs k dv →
    link_values (drop k ls) (drop k vs) ≡ link_value l v ∷ link_values (drop (suc k) ls) (drop (suc k) vs)
link_next k [] vs l dl v dv less same at_l at_v = absurd (omega arith)
link_next k (x ∷ ls) [] l dl v dv less same at_l at_v = absurd (let bad : 0 ≡ suc (length ls) = same in cc)
link_next zero (x ∷ ls) (y ∷ vs) l dl v dv less same at_l at_v =
    ap (λ (t : List ℕ). t ∷ link_values ls vs) (ap (λ (z : ChainLink). link_value z y) (sym at_l) ∙ ap (λ (w : Verdict). link_value l w) (sym at_v))
link_next (suc k) (x ∷ ls) (y ∷ vs) l dl v dv less same at_l at_v = link_next k ls vs l dl v dv (omega arith) (omega arith) at_l at_v

-- it was appended
pub link_more :
    (k : ℕ) (ls : List ChainLink) (vs : List Verdict) (l dl : ChainLink) (v dv : Verdict) (b : Bool) (text text' whole : List ℕ) → k < length ls → length vs ≡ length ls →
    l ≡ get_or ls k dl → v ≡ get_or vs k dv → text ++ joined b (link_values (drop k ls) (drop k vs)) ≡ whole → text' ≡ text ++ comma b ++ link_value l v →
    text' ++ joined false (link_values (drop (k + 1) ls) (drop (k + 1) vs)) ≡ whole
link_more k ls vs l dl v dv b text text' whole less same at_l at_v held more =
    let next : suc k ≡ k + 1 = omega arith in
    let rest : List ℕ = joined false (link_values (drop (suc k) ls) (drop (suc k) vs)) in
    subst (λ (n : ℕ). text' ++ joined false (link_values (drop n ls) (drop n vs)) ≡ whole) next
    (ap (λ (t : List ℕ). t ++ rest) (more ∙ append_assoc text (comma b) (link_value l v))
    ∙ append_assoc text (comma b ++ link_value l v) rest
    ∙ ap (λ (ts : List (List ℕ)). text ++ joined b ts) (sym (link_next k ls vs l dl v dv less same at_l at_v))
    ∙ held)

-- none is left
pub link_all :
    (k : ℕ) (ls : List ChainLink) (vs : List Verdict) (b : Bool) (text whole : List ℕ) → length ls ≤ k → text ++ joined b (link_values (drop k ls) (drop k vs)) ≡ whole →
    text ≡ whole
link_all k ls vs b text whole over held =
    sym (append-nil text) ∙ sym (at_drop_all (λ (xs : List ChainLink). text ++ joined b (link_values xs (drop k vs))) ls k over) ∙ held
