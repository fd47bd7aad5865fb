-- The replies of the map in two lists that order interfering commands alike: the map is a machine whose commands, where they don't interfere, commute.
use Rattle.std.proofs.Common.{◌≡◌, ℕ, List, [], ◌∷◌, take, Bool, false, sym, ap, ◌∙◌, refl}
use Rattle.std.specs.List.{filter}
use Rattle.ep_base.specs.Commands.{Command, Noop}
use Rattle.ep_base.specs.declared.reply.Reply.{Reply}
use Rattle.ep_base.specs.Interference.{interfere}
use Rattle.ep_base.specs.Places.{place, Has}
use Rattle.ep_rules.specs.OneMap.{Store, after, after_all, reply}
use Rattle.ep_rules.specs.History.{reply_in}
use Rattle.ep_rules.proofs.Places.{Once}
use Rattle.ep_rules.proofs.Commuting.{commutes, unseen, after_noop}
use Rattle.ep_rules.proofs.Turns.{run, Commute, AreUnseen, IsOrdered, idle_out, one_reported, one_left}

module _ (base : Store) (c : ℕ → Command) where
  abbrev step : Store → ℕ → Store
  step s i = after s (c i)

  abbrev ask : Store → ℕ → Reply
  ask s i = reply s (c i)

  abbrev pub meets : ℕ → ℕ → Bool
  meets i j = interfere (c i) (c j)

  commute : Commute step meets
  commute s i j ne e = commutes s (c i) (c j) e

  are_unseen : AreUnseen step ask meets
  are_unseen s i j ne e = unseen s (c i) (c j) e

  runs : (s : Store) (xs : List ℕ) → after_all c s xs ≡ run step s xs
  runs s [] = refl
  runs s (x ∷ xs) = runs (after s (c x)) xs

  unchanged : (x : ℕ) → c x ≡ Noop → (s : Store) → after s (c x) ≡ s
  unchanged x e s = ap (λ d. after s d) e ∙ after_noop s

  -- no-ops can be taken out
  pub noops_out : (keep : ℕ → Bool) (m : Store) (xs : List ℕ) → ((x : ℕ) → Has xs x → keep x ≡ false → c x ≡ Noop) → after_all c m xs ≡ after_all c m (filter keep xs)
  noops_out keep m xs h = runs m xs ∙ idle_out step meets commute keep m xs (λ x k e. unchanged x (h x k e)) ∙ sym (runs m (filter keep xs))

  module _ (i : ℕ) (l m : List ℕ) (ol : Once l) (om : Once m) (hl : Has l i) (hm : Has m i) (alike : IsOrdered meets l m) where
    -- two such lists give one reply
    pub one_reply : reply_in base c l i ≡ reply_in base c m i
    one_reply =
        ap (λ s. reply s (c i)) (runs base (take (place l i) l))
        ∙ one_reported step meets commute i base l m ol om hl hm alike ask are_unseen
        ∙ sym (ap (λ s. reply s (c i)) (runs base (take (place m i) m)))

    -- and before i they leave one map, where only no-ops don't interfere with i
    pub one_map : ((x : ℕ) → interfere (c x) (c i) ≡ false → c x ≡ Noop) → after_all c base (take (place l i) l) ≡ after_all c base (take (place m i) m)
    one_map noop =
        runs base (take (place l i) l)
        ∙ one_left step meets commute i base l m ol om hl hm alike (λ x e. unchanged x (noop x e))
        ∙ sym (runs base (take (place m i) m))
