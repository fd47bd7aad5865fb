-- One name more.
use Rattle.std.proofs.Common.{◌≡◌, ℕ, suc, ◌+◌, List, ◌++◌, codes, decimal, sym, ap, subst, ◌∙◌, append_assoc}
use Rattle.ep_base.specs.Instances.{leader_of}
use Rattle.ep_report.specs.Parts.{instance_text}
use Rattle.ep_ending.specs.Lines.{between_text, names_text, open_line}
use Rattle.ep_laws.specs.Named.{name}

pub one_name :
    (f leader n m : ℕ) (old mid new : List ℕ) → m ≡ suc n → mid ≡ old ++ names_text f leader n → new ≡ mid ++ (between_text f n ++ decimal (name leader n)) →
    new ≡ old ++ names_text f leader m
one_name f leader n m old mid new is before reported = subst (λ (k : ℕ). new ≡ old ++ names_text f leader k) (sym is) (
    reported ∙ ap (λ (t : List ℕ). t ++ (between_text f n ++ decimal (name leader n))) before ∙ append_assoc old (names_text f leader n) (between_text f n ++ decimal (name leader n)))

-- the whole line of an open instance
pub line_reported :
    (f i leader : ℕ) (old a b new : List ℕ) → a ≡ old ++ (codes "next  recover " ++ instance_text i ++ codes " at any replica that reaches ") → leader ≡ leader_of i →
    b ≡ a ++ names_text f leader (f + 1) → new ≡ b ++ codes "\n" → new ≡ old ++ open_line f i
line_reported f i leader old a b new front led names reported =
    let head : List ℕ = codes "next  recover " ++ instance_text i ++ codes " at any replica that reaches " in
    let named : List ℕ = names_text f (leader_of i) (f + 1) in
    reported ∙ ap (λ (t : List ℕ). t ++ codes "\n") (names ∙ (λ j. front j ++ names_text f (led j) (f + 1)) ∙ append_assoc old head named) ∙ append_assoc old (head ++ named) (codes "\n")
