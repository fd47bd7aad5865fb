-- Acts that lead from a world to one of which something holds.
use Rattle.std.proofs.Common.{◌≡◌, ℕ, ◌+◌, ◌≤◌, Bool, true, List, [], ◌∷◌, ◌++◌, refl, sym, subst, arith}
use Rattle.ep_rules.specs.Worlds.{World, Act, Happens, moved, IsRun, ends}
use Rattle.ep_laws.specs.Alone.{Serves, AllServe, recovers, recoveries}

-- k recoveries at most
pub record LeadsTo (f : ℕ) (live : ℕ → Bool) (q i k : ℕ) (w : World) (P : World → Type 0) : Type 0 where
  pub acts : List Act
  pub run : IsRun f w acts
  pub serve : AllServe live q i acts
  pub few : recoveries acts ≤ k
  pub end : P (ends f w acts)

module _ (f : ℕ) (live : ℕ → Bool) (q i : ℕ) where
  pub at_once : (k : ℕ) (w : World) (P : World → Type 0) → P w → LeadsTo f live q i k w P
  at_once k w P p = record { acts = []; run = tt; serve = tt; few = (omega arith); end = p }

  pub then_act : (n k : ℕ) (w : World) (a : Act) (P : World → Type 0) → Happens f w a → live a.replica ≡ true → Serves q i a.replica a.event → recovers a.event + k ≤ n → LeadsTo f live q i k (moved f w a) P → LeadsTo f live q i n w P
  then_act n k w a P h l s c t = record { acts = a ∷ t.acts; run = (h, t.run); serve = (l, s, t.serve); few = (let few = t.few in omega arith); end = t.end }

  pub join : (xs ys : List Act) (w : World) → IsRun f w xs → IsRun f (ends f w xs) ys → IsRun f w (xs ++ ys)
  join [] ys w a b = b
  join (x ∷ xs) ys w a b = (a.0, join xs ys (moved f w x) a.1 b)

  pub ends_join : (xs ys : List Act) (w : World) → ends f w (xs ++ ys) ≡ ends f (ends f w xs) ys
  ends_join [] ys w = refl
  ends_join (x ∷ xs) ys w = ends_join xs ys (moved f w x)

  serve_join : (xs ys : List Act) → AllServe live q i xs → AllServe live q i ys → AllServe live q i (xs ++ ys)
  serve_join [] ys a b = b
  serve_join (x ∷ xs) ys a b = (a.0, a.1, serve_join xs ys a.2 b)

  pub sum_join : (xs ys : List Act) → recoveries (xs ++ ys) ≡ recoveries xs + recoveries ys
  sum_join [] ys = omega arith
  sum_join (x ∷ xs) ys = let ih = sum_join xs ys in omega arith

  pub and_then : (k j : ℕ) (w : World) (P Q : World → Type 0) → LeadsTo f live q i k w P → ((w' : World) → P w' → LeadsTo f live q i j w' Q) → LeadsTo f live q i (k + j) w Q
  and_then k j w P Q a go =
      let b = go (ends f w a.acts) a.end in
      record {
        acts = a.acts ++ b.acts;
        run = join a.acts b.acts w a.run b.run;
        serve = serve_join a.acts b.acts a.serve b.serve;
        few = (let s = sum_join a.acts b.acts in let x = a.few in let y = b.few in omega arith);
        end = subst Q (sym (ends_join a.acts b.acts w)) b.end;
      }
