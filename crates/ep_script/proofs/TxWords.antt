-- The words of a line `tx`, item by item.
use Rattle.std.proofs.Common.{◌≡◌, ℕ, Bool, true, false, cond, List, [], ◌∷◌, Option, Some, None, Result, refl, sym, ap, subst, ◌∙◌}
use Rattle.std.specs.Prelude.{option_map, option_and_then, is_some, IfOk, MatchOption}
use Rattle.std.specs.Borrow.{Bor}
use Rattle.ep_base.specs.Items.{Item}
use Rattle.ep_script.specs.Clauses.{Said, with_said, merged}
use Rattle.ep_script.specs.Grammar.{key_word, short_clause, long_clause, said_first, clauses_of, items_after}
use Rattle.ep_script.specs.Parts.{words_of}
use Rattle.ep_script.specs.declared.clause.Clause.{Clause}

-- the word spells no key
unkeyed : (w : List ℕ) (o : Option Clause) (rest : Option (List Said)) → key_word w ≡ None → said_first w o rest ≡ None
unkeyed w o rest e = ap (λ k. option_and_then (λ key. option_and_then (λ clause. option_map (λ (ss : List Said). record { key = key; clause = clause } ∷ ss) rest) o) k) e

-- nothing is said
unsaid : (w : List ℕ) (rest : Option (List Said)) → said_first w None rest ≡ None
unsaid w rest = go (key_word w)
  where
    go : (k : Option (List ℕ)) → option_and_then (λ (key : List ℕ). option_and_then (λ clause. option_map (λ (ss : List Said). record { key = key; clause = clause } ∷ ss) rest) None) k ≡ None
    go None = refl
    go (Some k) = refl

keyed : (w k : List ℕ) (c : Clause) (rest : Option (List Said)) → key_word w ≡ Some k → said_first w (Some c) rest ≡ option_map (λ ss. record { key = k; clause = c } ∷ ss) rest
keyed w k c rest e = ap (λ o. option_and_then (λ key. option_map (λ (ss : List Said). record { key = key; clause = c } ∷ ss) rest) o) e

-- what is said of the key is added to the items, or may not be

pub no_key : (is : List Item) (w : List ℕ) (c : Clause) (rest : Option (List Said)) → key_word w ≡ None → option_and_then (merged is) (said_first w (Some c) rest) ≡ None
no_key is w c rest e = ap (option_and_then (merged is)) (unkeyed w (Some c) rest e)

pub added : (is js : List Item) (w k : List ℕ) (c : Clause) (rest : Option (List Said)) → key_word w ≡ Some k → with_said (record { key = k; clause = c }) is ≡ Some js → option_and_then (merged is) (said_first w (Some c) rest) ≡ option_and_then (merged js) rest
added is js w k c None e f = ap (option_and_then (merged is)) (keyed w k c None e)
added is js w k c (Some ss) e f = ap (option_and_then (merged is)) (keyed w k c (Some ss) e) ∙ ap (option_and_then (λ (ks : List Item). merged ks ss)) f

pub unadded : (is : List Item) (w k : List ℕ) (c : Clause) (rest : Option (List Said)) → key_word w ≡ Some k → with_said (record { key = k; clause = c }) is ≡ None → option_and_then (merged is) (said_first w (Some c) rest) ≡ None
unadded is w k c None e f = ap (option_and_then (merged is)) (keyed w k c None e)
unadded is w k c (Some ss) e f = ap (option_and_then (merged is)) (keyed w k c (Some ss) e) ∙ ap (option_and_then (λ (ks : List Item). merged ks ss)) f

-- items of two words, and of three

pub short_said : (w k : List ℕ) (c : Clause) (ws : List (List ℕ)) → short_clause w ≡ Some c → clauses_of (w ∷ k ∷ ws) ≡ said_first k (Some c) (clauses_of ws)
short_said w k c [] e = ap (λ o. said_first k o (Some [])) e
short_said w k c (v ∷ ws) e = ap (λ o. cond (is_some o) (said_first k o (clauses_of (v ∷ ws))) (said_first k (long_clause w v) (clauses_of ws))) e

pub long_said : (w k v : List ℕ) (ws : List (List ℕ)) → short_clause w ≡ None → clauses_of (w ∷ k ∷ v ∷ ws) ≡ said_first k (long_clause w v) (clauses_of ws)
long_said w k v ws e = ap (λ o. cond (is_some o) (said_first k o (clauses_of (v ∷ ws))) (said_first k (long_clause w v) (clauses_of ws))) e

pub long_cut : (w k : List ℕ) → short_clause w ≡ None → clauses_of (w ∷ k ∷ []) ≡ None
long_cut w k e = ap (λ o. said_first k o (Some [])) e ∙ unsaid k (Some [])

pub long_unlike : (w k v : List ℕ) (ws : List (List ℕ)) → short_clause w ≡ None → long_clause w v ≡ None → clauses_of (w ∷ k ∷ v ∷ ws) ≡ None
long_unlike w k v ws e f = long_said w k v ws e ∙ ap (λ o. said_first k o (clauses_of ws)) f ∙ unsaid k (clauses_of ws)

-- the same of what is equal
pub so_of : {F : Type 0} (r : Result (Option (Bor (List ℕ))) F) (x y : Option (List Item)) (js : List Item) → y ≡ x → IfOk r (λ o. MatchOption o (x ≡ None) (λ more. x ≡ items_after js (words_of more.now))) → IfOk r (λ o. MatchOption o (y ≡ None) (λ more. y ≡ items_after js (words_of more.now)))
so_of r x y js e h = subst (λ (z : Option (List Item)). IfOk r (λ o. MatchOption o (z ≡ None) (λ more. z ≡ items_after js (words_of more.now)))) (sym e) h
