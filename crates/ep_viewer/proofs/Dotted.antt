-- The two parts of a word with a dot.
use Rattle.std.proofs.Common.{◌≡◌, ℕ, ◌+◌, ◌≤◌, List, [], length, Option, Some, None, option_map, option_and_then, drop, take, refl, sym, ap, subst, arith}
use Rattle.std.specs.List.{after_first, before_first, position, position_or_len}
use Rattle.std.proofs.lemmas.Grind.{common_steps}
use Rattle.ep_base.specs.Instances.{highest_number, instance_of}
use Rattle.ep_script.specs.Grammar.{number_in, replica_of}
use Rattle.ep_viewer.specs.Spelled.{instance_word, is_dot}

-- the instance that these two spell
abbrev of_parts : List ℕ → List ℕ → Option ℕ
of_parts r n =
    option_and_then (λ leader. option_map (instance_of leader) (number_in 1 highest_number n)) (replica_of 7 r)

pub dotted :
    (w : List ℕ) (i : ℕ) → position is_dot w ≡ Some i → instance_word w ≡ of_parts (take i w) (drop (i + 1) w)
dotted w i is =
    let at : position_or_len is_dot w ≡ i = grind (arith, common_steps) in
    ap (λ (n : ℕ). of_parts (take n w) (drop (n + 1) w)) at

no_number :
    (o : Option ℕ) →
    option_and_then (λ (leader : ℕ). option_map (instance_of leader) (number_in 1 highest_number [])) o ≡ None
no_number None = refl
no_number (Some leader) = refl

pub undotted : (w : List ℕ) → position is_dot w ≡ None → instance_word w ≡ None
undotted w is =
    let late : length w ≤ position_or_len is_dot w = grind (arith, common_steps) in
    let rest : after_first is_dot w ≡ [] = grind (arith, common_steps) in
    subst (λ (n : List ℕ). of_parts (before_first is_dot w) n ≡ None) (sym rest)
    (no_number (replica_of 7 (before_first is_dot w)))
