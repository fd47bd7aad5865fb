-- The words of items of a command over many keys.
use Rattle.std.specs.Prelude.{◌≡◌, ℕ, ◌+◌, ◌||◌, min, Bool, List, [], ◌∷◌, Option, Some, None, codes, if◌then◌else◌}
use Rattle.std.specs.Borrow.{Bor}
use Rattle.std.specs.Str.{bytes_eq}
use Rattle.ep_script.specs.Parts.{words_of}
use Rattle.ep_script.specs.declared.item_words.ItemWord.{ItemWord}
use Rattle.ep_script.specs.declared.item_words.ItemWords.{ItemWords}

-- what a key is given
abbrev pub is_write : List ℕ → Bool
is_write w = bytes_eq w (codes "put") || bytes_eq w (codes "del")

-- an item may begin with it
abbrev pub is_item : List ℕ → Bool
is_item w = bytes_eq w (codes "if") || bytes_eq w (codes "get") || is_write w

-- a value stands behind the key
abbrev pub has_value : List ℕ → Bool
has_value w = bytes_eq w (codes "if") || bytes_eq w (codes "put")

-- what items with these words say is of one kind: what a key has to have, that its value is asked for, or what it is given
abbrev pub are_of_kind : List ℕ → List ℕ → Bool
are_of_kind w v = if is_write w then is_write v else bytes_eq w v

-- the place behind this one, as far as places go
abbrev pub next_place : ℕ → ℕ
next_place p = min (p + 1) 4294967295

-- the key of an item stands two places behind the item before it
abbrev pub key_place : ℕ → ℕ
key_place p = next_place (next_place p)

-- the items of the words behind this place: the first word of each, its key and the key's place
abbrev pub items_behind : ℕ → List (List ℕ) → List (List ℕ × List ℕ × ℕ)
items_behind p [] = []
items_behind p (w ∷ []) = []
items_behind p (w ∷ k ∷ []) = (w, k, key_place p) ∷ []
items_behind p (w ∷ k ∷ v ∷ ws) =
    (w, k, key_place p)
    ∷ (if has_value w then items_behind (next_place (key_place p)) ws else items_behind (key_place p) (v ∷ ws))

-- the items that aren't passed yet
abbrev pub items_left : ItemWords → List (List ℕ × List ℕ × ℕ)
items_left s = items_behind s.place (words_of s.rest.now)

-- the first of them was passed; or there is none, and none is left
abbrev pub IsNextItem : ItemWords → ItemWords → Option ItemWord → Type 0
IsNextItem s t None = (items_left s ≡ []) × (items_left t ≡ [])
IsNextItem s t (Some i) = items_left s ≡ (i.word.now, i.key.now, i.place) ∷ items_left t

-- the first word was passed, or there is none, and nothing changed
abbrev pub IsNextWord : ItemWords → ItemWords → Option (Bor (List ℕ)) → Type 0
IsNextWord s t None = (words_of s.rest.now ≡ []) × (t ≡ s)
IsNextWord s t (Some w) = (words_of s.rest.now ≡ w.now ∷ words_of t.rest.now) × (t.place ≡ next_place s.place)
