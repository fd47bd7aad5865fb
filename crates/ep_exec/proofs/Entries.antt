-- What a table's entries say of its map.
use Rattle.std.proofs.Common.{◌≡◌, ℕ, Bool, true, false, true≢false, cond, Option, Some, None, List, [], ◌∷◌, ◌++◌, refl, sym, ap, ◌∙◌}
use Rattle.std.proofs.lemmas.Cmp.{nat_list_cmp_total}
use Rattle.std.proofs.lemmas.Map.Lookups.{exact_bytes}
use Rattle.std.proofs.lemmas.Map.Views.{tells_apart}
use Rattle.std.specs.Cmp.Lexicographic.{texts_ties, nat_list_eq_equiv}
use Rattle.std.specs.FinMap.{same_map}
use Rattle.std.specs.Option.{option_copied, option_flatten}
use Rattle.std.specs.Borrow.{Bor}
use Rattle.std.specs.Prelude.{Vec, is_some}
use Rattle.std.specs.Global.{Global}
use Rattle.std.specs.Map.{lookup, KeepsOthers}
use Rattle.ep_base.specs.Attributes.{same_list}
use Rattle.ep_rules.specs.OneMap.{Contents, value_at, with_key}
use Rattle.ep_rules.proofs.Commuting.{is_key, value_with}
pub use Rattle.ep_exec.specs.Layers.{said_or}
use Rattle.ep_exec.specs.Table.{Entry, HavePlaces, over, has_place, restored}
use Rattle.ep_space.specs.Index.{is_at}

-- two maps with one value at each key are one
pub same_contents : (m n : Contents) → ((q : List ℕ) → value_at m q ≡ value_at n q) → m ≡ n
same_contents m n h = same_map nat_list_cmp_total exact_bytes m n h

-- a key that is set twice has the second value
pub with_key_again : (m : Contents) (k : List ℕ) (o p : Option (List ℕ)) → with_key (with_key m k o) k p ≡ with_key m k p
with_key_again m k o p = same_contents _ _ (λ q.
    value_with (with_key m k o) k p q ∙ ap (cond (is_key q k) p) (value_with m k o q) ∙ twice (is_key q k) (value_at m q) ∙ sym (value_with m k p q))
  where
    twice : (b : Bool) (v : Option (List ℕ)) → cond b p (cond b o v) ≡ cond b p v
    twice true v = refl
    twice false v = refl

-- a key that is set to what it has
pub with_key_own : (m : Contents) (k : List ℕ) → with_key m k (value_at m k) ≡ m
with_key_own m k = same_contents _ _ (λ q. value_with m k (value_at m k) q ∙ own q (is_key q k) refl)
  where
    own : (q : List ℕ) (b : Bool) → is_key q k ≡ b → cond b (value_at m k) (value_at m q) ≡ value_at m q
    own q true e = ap (value_at m) (sym (tells_apart exact_bytes q k e))
    own q false e = refl

-- a change is taken back by what the key had
pub with_key_back : (m : Contents) (k : List ℕ) (o : Option (List ℕ)) → with_key (with_key m k o) k (value_at m k) ≡ m
with_key_back m k o = with_key_again m k o (value_at m k) ∙ with_key_own m k

pub value_of : (m : Contents) (es : List Entry) (q : List ℕ) → value_at (over m es) q ≡ said_or (lookup (is_at q) es) (value_at m q)
value_of m [] q = refl
value_of m (e ∷ es) q =
    value_with (over m es) e.0.items e.1 q
    ∙ ap (cond (is_key q e.0.items) e.1) (value_of m es q)
    ∙ ap (λ b. cond b e.1 (said_or (lookup (is_at q) es) (value_at m q))) (sym (texts_ties q e.0.items))
    ∙ pulled (is_at q e.0) e.1 (lookup (is_at q) es)
  where
    pulled : (b : Bool) (o : Option (List ℕ)) (l : Option (Option (List ℕ))) → cond b o (said_or l (value_at m q)) ≡ said_or (cond b (Some o) l) (value_at m q)
    pulled true o l = refl
    pulled false o l = refl

abbrev pub same : Vec ℕ Global → Vec ℕ Global → Bool
same k l = same_list k.items l.items

-- a table that keeps what other keys have keeps it at each list of bytes
other_kept : (old new : List Entry) (k q : List ℕ) → KeepsOthers same (is_at k) old new → is_key q k ≡ false → lookup (is_at q) new ≡ lookup (is_at q) old
unfolding KeepsOthers
other_kept old new k q keeps e = keeps (is_at q) (λ x y h. nat_list_eq_equiv.congr q x.items y.items h)
    (λ l h. nat_list_eq_equiv.symm q l.items ∙ sym (nat_list_eq_equiv.congr k l.items q h) ∙ nat_list_eq_equiv.symm k q ∙ texts_ties q k ∙ e)

-- where a look-up is changed at one key alone, so is the map
pub changed_at : (m : Contents) (old new : List Entry) (k : List ℕ) (w : Option (List ℕ)) → said_or (lookup (is_at k) new) (value_at m k) ≡ w → KeepsOthers same (is_at k) old new
    → over m new ≡ with_key (over m old) k w
changed_at m old new k w here keeps = same_contents _ _ (λ q. value_of m new q ∙ go q (is_key q k) refl ∙ sym (value_with (over m old) k w q))
  where
    go : (q : List ℕ) (b : Bool) → is_key q k ≡ b → said_or (lookup (is_at q) new) (value_at m q) ≡ cond b w (value_at (over m old) q)
    go q true e = ap (λ z. said_or (lookup (is_at z) new) (value_at m z)) (tells_apart exact_bytes q k e) ∙ here
    go q false e = ap (λ l. said_or l (value_at m q)) (other_kept old new k q keeps e) ∙ sym (value_of m old q)

-- it is set there
pub set_at : (m : Contents) (old new : List Entry) (k : List ℕ) (o : Option (List ℕ)) → lookup (is_at k) new ≡ Some o → KeepsOthers same (is_at k) old new → over m new ≡ with_key (over m old) k o
set_at m old new k o here keeps = changed_at m old new k o (ap (λ l. said_or l (value_at m k)) here) keeps

-- and the other places stay
pub place_kept : (old new : List Entry) (k q : List ℕ) (o : Option (List ℕ)) → lookup (is_at k) new ≡ Some o → KeepsOthers same (is_at k) old new → has_place old q ≡ true → has_place new q ≡ true
place_kept old new k q o here keeps h = go (is_key q k) refl
  where
    go : (b : Bool) → is_key q k ≡ b → has_place new q ≡ true
    go true e = ap is_some (ap (λ z. lookup (is_at z) new) (tells_apart exact_bytes q k e) ∙ here)
    go false e = ap is_some (other_kept old new k q keeps e) ∙ h

pub restored-push : (us : List Entry) (u : Entry) (m : Contents) → restored (us ++ u ∷ []) m ≡ restored us (with_key m u.0.items u.1)
restored-push [] u m = refl
restored-push (v ∷ us) u m = ap (λ n. with_key n v.0.items v.1) (restored-push us u m)

-- a key that is set to none where it had none
pub with_key_none : (m : Contents) (k : List ℕ) → value_at m k ≡ None → with_key m k None ≡ m
with_key_none m k e = ap (with_key m k) (sym e) ∙ with_key_own m k

-- where something is said of a key, that counts
pub said_there : (l : Option (Option (List ℕ))) (v : Option (List ℕ)) → is_some l ≡ true → option_flatten l ≡ said_or l v
said_there None v e = absurd (true≢false (sym e))
said_there (Some o) v e = refl

-- and nothing else, where it had none
pub said_alone : (l : Option (Option (List ℕ))) → option_flatten l ≡ said_or l None
said_alone None = refl
said_alone (Some o) = refl

-- nothing is said of a key that has no place
pub unsaid : (es : List Entry) (k : List ℕ) → has_place es k ≡ false → lookup (is_at k) es ≡ None
unsaid es k h = go (lookup (is_at k) es) h
  where
    go : (l : Option (Option (List ℕ))) → is_some l ≡ false → l ≡ None
    go None e = refl
    go (Some o) e = absurd (true≢false e)

-- places that stay keep those of what is to be put back
pub have_places : (old new us : List Entry) → ((q : List ℕ) → has_place old q ≡ true → has_place new q ≡ true) → HavePlaces old us → HavePlaces new us
have_places old new [] h p = p
have_places old new (u ∷ us) h p = (h u.0.items p.0, have_places old new us h p.1)

pub have_places-push : (es us : List Entry) (u : Entry) → HavePlaces es us → has_place es u.0.items ≡ true → HavePlaces es (us ++ u ∷ [])
have_places-push es [] u p h = (h, tt)
have_places-push es (v ∷ us) u p h = (p.0, have_places-push es us u p.1 h)

pub have_places-front : (es us : List Entry) (u : Entry) → HavePlaces es (us ++ u ∷ []) → HavePlaces es us × (has_place es u.0.items ≡ true)
have_places-front es [] u p = (tt, p.0)
have_places-front es (v ∷ us) u p = let r = have_places-front es us u p.1 in ((p.0, r.0), r.1)

pub copied_none : {X : Type 0} (o : Option (Bor X)) → is_some o ≡ false → option_copied o ≡ None
copied_none None e = refl
copied_none (Some x) e = absurd (true≢false e)

-- an exchange is taken back by what both keys had
pub swap_back : (m : Contents) (k l : List ℕ) (o p : Option (List ℕ)) → with_key (with_key (with_key (with_key m k o) l p) l (value_at m l)) k (value_at m k) ≡ m
swap_back m k l o p =
    ap (λ n. with_key n k (value_at m k)) (with_key_again (with_key m k o) l p (value_at m l))
    ∙ same_contents _ _ (λ q.
    value_with (with_key (with_key m k o) l (value_at m l)) k (value_at m k) q
    ∙ ap (cond (is_key q k) (value_at m k)) (value_with (with_key m k o) l (value_at m l) q)
    ∙ ap (λ v. cond (is_key q k) (value_at m k) (cond (is_key q l) (value_at m l) v)) (value_with m k o q)
    ∙ at q (is_key q k) (is_key q l) refl refl)
  where
    at : (q : List ℕ) (a b : Bool) → is_key q k ≡ a → is_key q l ≡ b → cond a (value_at m k) (cond b (value_at m l) (cond a o (value_at m q))) ≡ value_at m q
    at q true b e f = ap (value_at m) (sym (tells_apart exact_bytes q k e))
    at q false true e f = ap (value_at m) (sym (tells_apart exact_bytes q l f))
    at q false false e f = refl

-- so it is by what is noted of both before the first is written
pub exchange_back : (us one two : List Entry) (m n r : Contents) (k l : List ℕ) (o p : Option (List ℕ))
    → ((x : Contents) → restored one x ≡ restored us (with_key x k (value_at m k)))
    → ((x : Contents) → restored two x ≡ restored one (with_key x l (value_at n l)))
    → n ≡ m → r ≡ with_key (with_key n k o) l p → restored two r ≡ restored us m
exchange_back us one two m n r k l o p f g e h =
    let own : m ≡ n = sym e in
    g r
    ∙ f (with_key r l (value_at n l))
    ∙ ap (restored us) ((λ t. with_key (with_key (h t) l (value_at n l)) k (value_at (own t) k)) ∙ swap_back n k l o p ∙ e)
