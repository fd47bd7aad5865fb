-- The first item of some words, and those behind it.
use Rattle.std.proofs.Common.{◌≡◌, ℕ, Bool, true, false, cond, List, [], ◌∷◌, Option, Some, None, Bor, refl, sym, ap, ◌∙◌}
use Rattle.ep_script.specs.ItemWords.{has_value, next_place, key_place, items_behind, items_left, IsNextWord}
use Rattle.ep_script.specs.Parts.{words_of}
use Rattle.ep_script.specs.declared.item_words.ItemWords.{ItemWords}

abbrev Rows : Type 0
Rows = List (List ℕ × List ℕ × ℕ)

-- the first two words of an item are passed
pub record IsBegun (p : ℕ) (all : List (List ℕ)) (w k : List ℕ) (s : ItemWords) : Type 0 where
  pub words : all ≡ w ∷ k ∷ words_of s.rest.now
  pub place : s.place ≡ key_place p

no_value : (p : ℕ) (w k : List ℕ) (ws : List (List ℕ)) → has_value w ≡ false
    → items_behind p (w ∷ k ∷ ws) ≡ (w, k, key_place p) ∷ items_behind (key_place p) ws
no_value p w k [] h = refl
no_value p w k (v ∷ vs) h =
    let more : Rows = items_behind (next_place (key_place p)) vs in
    ap (λ (b : Bool). (w, k, key_place p) ∷ cond b more (items_behind (key_place p) (v ∷ vs))) h

a_value : (p : ℕ) (w k v : List ℕ) (vs : List (List ℕ)) → has_value w ≡ true
    → items_behind p (w ∷ k ∷ v ∷ vs) ≡ (w, k, key_place p) ∷ items_behind (next_place (key_place p)) vs
a_value p w k v vs h =
    let more : Rows = items_behind (next_place (key_place p)) vs in
    ap (λ (b : Bool). (w, k, key_place p) ∷ cond b more (items_behind (key_place p) (v ∷ vs))) h

pub item_alone : (p : ℕ) (all : List (List ℕ)) (w k : List ℕ) (s : ItemWords) → IsBegun p all w k s
    → has_value w ≡ false → items_behind p all ≡ (w, k, s.place) ∷ items_left s
item_alone p all w k s b h =
    ap (items_behind p) b.words
    ∙ no_value p w k (words_of s.rest.now) h
    ∙ ap (λ (q : ℕ). (w, k, q) ∷ items_behind q (words_of s.rest.now)) (sym b.place)

pub item_before_value : (p : ℕ) (all : List (List ℕ)) (w k : List ℕ) (s t : ItemWords) (o : Option (Bor (List ℕ)))
    → IsBegun p all w k s → has_value w ≡ true → IsNextWord s t o
    → items_behind p all ≡ (w, k, s.place) ∷ items_left t
item_before_value p all w k s t None b h next =
    ap (items_behind p) (b.words ∙ ap (λ (ws : List (List ℕ)). w ∷ k ∷ ws) next.0)
    ∙ ap (λ (q : ℕ). (w, k, q) ∷ []) (sym b.place)
    ∙ ap (λ (ws : List (List ℕ)). (w, k, s.place) ∷ items_behind s.place ws) (sym next.0)
    ∙ ap (λ (x : ItemWords). (w, k, s.place) ∷ items_left x) (sym next.1)
item_before_value p all w k s t (Some v) b h next =
    ap (items_behind p) (b.words ∙ ap (λ (ws : List (List ℕ)). w ∷ k ∷ ws) next.0)
    ∙ a_value p w k v.now (words_of t.rest.now) h
    ∙ ap (λ (q : ℕ). (w, k, q) ∷ items_behind (next_place q) (words_of t.rest.now)) (sym b.place)
    ∙ ap (λ (q : ℕ). (w, k, s.place) ∷ items_behind q (words_of t.rest.now)) (sym next.1)
