-- The weather of a frame, and whether a weather is one.
use Rattle.std.proofs.Common.{◌≡◌, ℕ, ◌+◌, ◌<◌, ◌≤◌, true, false, not, eqb, ◌&&◌, List, ◌∷◌, length, get_or, take, drop, Some, None, refl, sym, ap, ◌∙◌, subst, arith, ⊎_elim}
use Rattle.std.proofs.lemmas.List.{get_or_default, get_or-take, length-take-le, at_drop_more, at_drop_all}
use Rattle.std.proofs.lemmas.Bool.{false≢true, eq-eqb}
use Rattle.std.proofs.lemmas.Bool.Decides.{eqb_tells}
use Rattle.ep_host.specs.Weathers.{kind_at, NameOne, IsFrameIn, IsWeather}
use Rattle.ep_host.specs.declared.weather.Weather.{Weather}

pub same_by : (n m : ℕ) → false ≡ not (eqb n m) → n ≡ m
same_by n m e = ⊎_elim (λ (t : _). t.1) (λ (t : _). absurd (cc)) (eqb_tells n m)

pub apart_by : (n m : ℕ) → true ≡ not (eqb n m) → n ≡ m → ⊥
apart_by n m e same = ⊎_elim (λ (t : _). false≢true (ap not (sym t.0) ∙ sym e)) (λ (t : _). t.1 same) (eqb_tells n m)

-- what the rest of a list gives

rest_at : (ws : List Weather) (i : ℕ) (w : Weather) (peer count : ℕ) → i < length ws → w ≡ get_or ws i w → kind_at (drop i ws) peer count ≡ kind_at ws peer count → kind_at (w ∷ drop (i + 1) ws) peer count ≡ kind_at ws peer count
rest_at ws i w peer count low is so_far =
    let at : kind_at (drop i ws) peer count ≡ kind_at (get_or ws i w ∷ drop (i + 1) ws) peer count = at_drop_more (λ (l : List Weather). kind_at l peer count) ws i w low in
    ap (λ (v : Weather). kind_at (v ∷ drop (i + 1) ws) peer count) is ∙ sym at ∙ so_far

pub kind_here :
    (ws : List Weather) (i : ℕ) (w : Weather) (peer count : ℕ) → i < length ws → w ≡ get_or ws i w → kind_at (drop i ws) peer count ≡ kind_at ws peer count → eqb w.to peer ≡ true → w.count ≡ count → Some w.kind ≡ kind_at ws peer count
kind_here ws i w peer count low is so_far to n = sym (here w (drop (i + 1) ws)) ∙ rest_at ws i w peer count low is so_far
  where
    here : (v : Weather) (vs : List Weather) → kind_at (w ∷ vs) peer count ≡ Some w.kind
    here v vs = rw (to, eq-eqb w.count count n) refl

pub kind_past :
    (ws : List Weather) (i : ℕ) (w : Weather) (peer count : ℕ) → i < length ws → w ≡ get_or ws i w → kind_at (drop i ws) peer count ≡ kind_at ws peer count → (eqb w.to peer && eqb w.count count) ≡ false →
    kind_at (drop (i + 1) ws) peer count ≡ kind_at ws peer count
kind_past ws i w peer count low is so_far other = sym (past (drop (i + 1) ws)) ∙ rest_at ws i w peer count low is so_far
  where
    past : (vs : List Weather) → kind_at (w ∷ vs) peer count ≡ kind_at vs peer count
    past vs = rw other refl

pub kind_none : (ws : List Weather) (i peer count : ℕ) → length ws ≤ i → kind_at (drop i ws) peer count ≡ kind_at ws peer count → None ≡ kind_at ws peer count
kind_none ws i peer count all so_far = sym (at_drop_all (λ (l : List Weather). kind_at l peer count) ws i all) ∙ so_far

-- the first so many are a weather
pub record Checked (f : ℕ) (ws : List Weather) (i : ℕ) : Type 0 where
  pub frames : (k : ℕ) (d : Weather) → k < i → IsFrameIn f (get_or ws k d)
  pub apart : (j k : ℕ) (d : Weather) → j < k → k < i → NameOne (get_or ws j d) (get_or ws k d) → ⊥

pub checked_none : (f : ℕ) (ws : List Weather) → Checked f ws 0
checked_none f ws = record { frames = λ k d low. absurd (omega arith); apart = λ j k d less low. absurd (omega arith) }

pub checked_more :
    (f : ℕ) (ws : List Weather) (i : ℕ) (w : Weather) → i < length ws → w ≡ get_or ws i w → Checked f ws i → IsFrameIn f w → ((j : ℕ) (d : Weather) → j < length (take i ws) → NameOne (get_or (take i ws) j d) w → ⊥) → Checked f ws (i + 1)
checked_more f ws i w low is h frame apart = record {
  frames = λ k d below. ⊎_elim
      (λ (e : _). let at : k ≡ i = e.1 in rw at (subst (IsFrameIn f) (read d) frame))
      (λ (e : _). let below' : k < i = (let other = e.1 in grind (arith, other)) in h.frames k d below')
      (eqb_tells k i);
  apart = λ j k d less below. ⊎_elim
      (λ (e : _). let at : k ≡ i = e.1 in
      let inside : j < i = omega (arith, at) in
      let inside' : j < length (take i ws) = (let l = length-take-le i ws (omega arith) in omega (arith, l)) in
      λ (n : NameOne (get_or ws j d) (get_or ws k d)).
      apart j d inside' (subst (λ (v : Weather). NameOne v w) (sym (get_or-take i ws j d inside)) (subst (λ (v : Weather). NameOne (get_or ws j d) v) (ap (λ (m : ℕ). get_or ws m d) at ∙ sym (read d)) n)))
      (λ (e : _). let below' : k < i = (let other = e.1 in grind (arith, other)) in h.apart j k d less below')
      (eqb_tells k i);
}
  where
    read : (d : Weather) → w ≡ get_or ws i d
    read d = is ∙ get_or_default ws i w d low

pub checked_all : (f : ℕ) (ws : List Weather) (i : ℕ) → length ws ≤ i → Checked f ws i → IsWeather f ws
checked_all f ws i all h = record { frames = λ k d low. h.frames k d (omega arith); apart = λ j k d less low. h.apart j k d less (omega arith) }

pub no_frame : (f : ℕ) (ws : List Weather) (i : ℕ) (w : Weather) → i < length ws → w ≡ get_or ws i w → (IsFrameIn f w → ⊥) → IsWeather f ws → ⊥
no_frame f ws i w low is none h = none (subst (IsFrameIn f) (sym is) (h.frames i w low))

pub named_twice : (f : ℕ) (ws : List Weather) (i : ℕ) (w : Weather) → i < length ws → w ≡ get_or ws i w → (j : ℕ) × (j < length (take i ws)) × ((d : Weather) → NameOne (get_or (take i ws) j d) w) → IsWeather f ws → ⊥
named_twice f ws i w low is n h =
    let l = length-take-le i ws (omega arith) in let m = n.1 in
    let inside : n.0 < i = omega (arith, l, m) in
    h.apart n.0 i w inside low (subst (λ (v : Weather). NameOne (get_or ws n.0 w) v) is (subst (λ (v : Weather). NameOne v w) (get_or-take i ws n.0 w inside) (n.2 w)))
