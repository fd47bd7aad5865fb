-- What is committed stays so while other instances are ended.
use Rattle.std.proofs.Common.{◌≡◌, ℕ, ◌+◌, ◌<◌, ◌≤◌, Bool, true, List, [], ◌∷◌, refl, ap, subst, inl, inr}
use Rattle.ep_base.specs.Instances.{leader_of}
use Rattle.ep_base.specs.Quorums.{size}
use Rattle.ep_rules.specs.Counting.{count}
use Rattle.ep_rules.specs.States.{attrs_of}
use Rattle.ep_rules.specs.Worlds.{World, opening, In, Act, ends}
use Rattle.ep_rules.proofs.Permanence.{permanence_holds}
use Rattle.ep_laws.specs.Alone.{silenced}
use Rattle.ep_laws.specs.InTurn.{HasEnded, Ends, already, by_one, by_two, EndsAll, InTurn}
use Rattle.ep_laws.specs.Quiet.{recovering, IsRound, after_round}
use Rattle.ep_laws.proofs.Knowing.{unstuck_any}
use Rattle.ep_laws.proofs.Sound.{WorldSound, run_sound, opening_sound, silenced_sound}
use Rattle.ep_laws.proofs.Waiting.{nothing_waits_lem}

module _ (f : ℕ) (two : 0 < f) (few : size f ≤ 256) (live : ℕ → Bool) (enough : f + 1 ≤ count (size f) live) (q : ℕ) (q_low : q < size f) (q_live : live q ≡ true) where
  round_sound : (i : ℕ) (w : World) (late : List Act) → IsRound f live q i w late → WorldSound f w → WorldSound f (after_round f w q i late)
  round_sound i w late round ok = run_sound f few (recovering q i ∷ late) (silenced w) round.run (silenced_sound f w ok)

  round_keeps : (i : ℕ) (w : World) (late : List Act) → IsRound f live q i w late → (j : ℕ) → HasEnded w q j → HasEnded (after_round f w q i late) q j
  round_keeps i w late round j e = (e.0, permanence_holds f (silenced w) (recovering q i ∷ late) round.run j q e.0 e.1)

  ends_sound : (i : ℕ) (w v : World) → Ends f live q i w v → WorldSound f w → WorldSound f v
  ends_sound i w v (already e is) ok = subst (WorldSound f) is ok
  ends_sound i w v (by_one a r e is) ok = subst (WorldSound f) is (round_sound i w a r ok)
  ends_sound i w v (by_two a b r s is) ok = subst (WorldSound f) is (round_sound i (after_round f w q i a) b s (round_sound i w a r ok))

  ends_keeps : (i : ℕ) (w v : World) → Ends f live q i w v → (j : ℕ) → HasEnded w q j → HasEnded v q j
  ends_keeps i w v (already e is) j h = subst (λ u. HasEnded u q j) is h
  ends_keeps i w v (by_one a r e is) j h = subst (λ u. HasEnded u q j) is (round_keeps i w a r j h)
  ends_keeps i w v (by_two a b r s is) j h = subst (λ u. HasEnded u q j) is (round_keeps i (after_round f w q i a) b s j (round_keeps i w a r j h))

  ends_it : (i : ℕ) → leader_of i < size f → (w v : World) → WorldSound f w → Ends f live q i w v → HasEnded v q i
  ends_it i lead w v ok (already e is) = subst (λ u. HasEnded u q i) is e
  ends_it i lead w v ok (by_one a r e is) = subst (λ u. HasEnded u q i) is e
  ends_it i lead w v ok (by_two a b r s is) = subst (λ u. HasEnded u q i) is (unstuck_any f two few live enough q q_low q_live i lead w ok a b r s)

  all_keep : (is : List ℕ) (w v : World) → EndsAll f live q w is v → (j : ℕ) → HasEnded w q j → HasEnded v q j
  all_keep [] w v e j h = subst (λ u. HasEnded u q j) e h
  all_keep (i ∷ is) w v t j h = all_keep is t.0 v t.2 j (ends_keeps i w t.0 t.1 j h)

  all_end : (is : List ℕ) (w v : World) → WorldSound f w → EndsAll f live q w is v → ((i : ℕ) → In i is → leader_of i < size f) → (i : ℕ) → In i is → HasEnded v q i
  all_end [] w v ok t lead i there = absurd there
  all_end (k ∷ is) w v ok t lead i (inl e) = all_keep is t.0 v t.2 i (subst (λ j. HasEnded t.0 q j) e (ends_it k (lead k (inl refl)) w t.0 ok t.1))
  all_end (k ∷ is) w v ok t lead i (inr there) = all_end is t.0 v (ends_sound k w t.0 t.1 ok) t.2 (λ j h. lead j (inr h)) i there

pub in_turn_lem : InTurn
in_turn_lem base f two few early run live enough q q_low q_live is lead v t =
    let w : World = ends f (opening base) early in
    let all : (i : ℕ) → In i is → HasEnded v q i = all_end f two few live enough q q_low q_live is w v (run_sound f few early (opening base) run (opening_sound f base)) t lead in
    record {
      committed = all;
      executes = λ root low reach. nothing_waits_lem f q (v.states q) root low (λ j h. let e = all j (reach j h) in ((e.0).attrs, ap attrs_of e.1));
    }
