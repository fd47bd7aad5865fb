-- Words as labels of Mermaid and of Graphviz: what is written for them, and what a reader takes that for.
use Rattle.std.specs.Prelude.{◌≡◌, ℕ, Bool, true, ◌&&◌, ◌||◌, eqb, cond, nat_le, List, [], ◌∷◌, ◌++◌, codes, decimal}

abbrev pub is_from : ℕ → ℕ → ℕ → Bool
is_from low high b = nat_le low b && nat_le b high

-- a letter, a digit, a blank, or one of ( ) , - . _
abbrev pub stands_for_itself : ℕ → Bool
stands_for_itself b =
    is_from 97 122 b || (is_from 65 90 b || (is_from 48 57 b || (eqb b 32 || (eqb b 40 || (eqb b 41 || (eqb b 44 || (eqb b 45 || (eqb b 46 || eqb b 95))))))))

-- Mermaid: the line of a message or of a note goes on to its end, to ; or to #, which begins a character's number.

abbrev pub mermaid_byte : ℕ → List ℕ
mermaid_byte b = cond (stands_for_itself b) (b ∷ []) (codes "#" ++ decimal b ++ codes ";")

abbrev pub mermaid_words : List ℕ → List ℕ
mermaid_words [] = []
mermaid_words (b ∷ bs) = mermaid_byte b ++ mermaid_words bs

-- what a reader of Mermaid takes the text of a line for: # (35), a number and ; (59) for the character of that number
pub data ReadsMermaid : List ℕ → List ℕ → Type 0 where
  no_text : ReadsMermaid [] []
  plain_text : (b : ℕ) (bs ws : List ℕ) → stands_for_itself b ≡ true → ReadsMermaid bs ws → ReadsMermaid (b ∷ bs) (b ∷ ws)
  numbered_text : (b : ℕ) (bs ws : List ℕ) → ReadsMermaid bs ws → ReadsMermaid (35 ∷ (decimal b ++ (59 ∷ bs))) (b ∷ ws)

-- Graphviz: a string goes on to its end quote. In a label \ begins an escape, and & a character's number.

abbrev pub dot_other : ℕ → List ℕ
dot_other b = cond (eqb b 92) (codes "\\\\") (codes "&#" ++ decimal b ++ codes ";")

abbrev pub dot_byte : ℕ → List ℕ
dot_byte b = cond (stands_for_itself b) (b ∷ []) (dot_other b)

abbrev pub dot_words : List ℕ → List ℕ
dot_words [] = []
dot_words (b ∷ bs) = dot_byte b ++ dot_words bs

-- what Graphviz takes a quoted label for: \ (92) twice for one, and & (38), # (35), a number and ; (59) for the character of that number
pub data ReadsDot : List ℕ → List ℕ → Type 0 where
  no_label : ReadsDot [] []
  plain_label : (b : ℕ) (bs ws : List ℕ) → stands_for_itself b ≡ true → ReadsDot bs ws → ReadsDot (b ∷ bs) (b ∷ ws)
  backslash : (bs ws : List ℕ) → ReadsDot bs ws → ReadsDot (92 ∷ 92 ∷ bs) (92 ∷ ws)
  numbered_label : (b : ℕ) (bs ws : List ℕ) → ReadsDot bs ws → ReadsDot (38 ∷ 35 ∷ (decimal b ++ (59 ∷ bs))) (b ∷ ws)

-- what is written for words is read as them: it ends no line, no statement and no string
pub record AreLabels (ws : List ℕ) : Type 0 where
  pub mermaid : ReadsMermaid (mermaid_words ws) ws
  pub dot : ReadsDot (dot_words ws) ws
