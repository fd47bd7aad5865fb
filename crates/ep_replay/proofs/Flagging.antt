-- One message more is given, and those that never were.
use Rattle.std.proofs.Common.{◌≡◌, ◌≢◌, ◌↔◌, inl, inr, ℕ, zero, suc, ◌+◌, ◌-◌, ◌<◌, ◌≤◌, Bool, true, false, eqb, ltb, min, List, [], ◌∷◌, ◌++◌, length, get_or, set, refl, sym, subst, ◌∙◌, arith}
use Rattle.std.proofs.lemmas.Bool.{eqb-true, eqb-false, ltb-true, ltb-false}
use Rattle.std.proofs.lemmas.List.{get_or-set_same, get_or-set_other, get_or_past}
use Rattle.ep_base.specs.Deps.{IsRising}
use Rattle.ep_rules.specs.Worlds.{In}
use Rattle.ep_rules.proofs.Merged.{in_left, in_right, in_split}
use Rattle.ep_replay.specs.Replays.{AreUngiven, above}
use Rattle.ep_replay.specs.Tables.{AreFlagged}
use Rattle.ep_replay.specs.declared.given.Given.{Given}

pub in_one : (m n : ℕ) → In m (n ∷ []) → n ≡ m
in_one m n (inl is) = is
in_one m n (inr h) = absurd h

-- Flags.

-- the same flags, and a floor up to which all of them are set
pub raised : (old new : Given) (given : List ℕ) → new.flags.items ≡ old.flags.items → ((place : ℕ) → old.floor ≤ place → place < new.floor → get_or old.flags.items place false ≡ true) → AreFlagged old given → AreFlagged new given
raised old new given same above are = record {
  flag = (λ place. subst (λ (fs : List Bool). (get_or fs place false ≡ true) ↔ In (suc place) given) (sym same) (are.flag place));
  floor = low;
}
  where
    at : (place : ℕ) → place < new.floor → (b : Bool) → ltb place old.floor ≡ b → In (suc place) given
    at place lt true test = let le : place < old.floor = ltb-true place old.floor test in are.floor (suc place) (omega arith) (omega arith)
    at place lt false test = let le : old.floor ≤ place = ltb-false place old.floor test in (are.flag place).0 (above place le lt)

    low : (m : ℕ) → 1 ≤ m → m ≤ new.floor → In m given
    low zero one le = absurd (omega arith)
    low (suc place) one le = at place (omega arith) (ltb place old.floor) refl

pub flagged : (old new : Given) (mid : List Bool) (n : ℕ) (given : List ℕ) → 1 ≤ n → n ≤ length mid → ((place : ℕ) → get_or mid place false ≡ get_or old.flags.items place false)
    → new.flags.items ≡ set mid (n - 1) true → new.floor ≡ old.floor → AreFlagged old given → AreFlagged new (given ++ n ∷ [])
flagged old new mid n given some room same sets floors are = record { flag = flag; floor = floor }
  where
    floor : (m : ℕ) → 1 ≤ m → m ≤ new.floor → In m (given ++ n ∷ [])
    floor m one low = in_left m given (n ∷ []) (are.floor m one (omega arith))

    go : (place : ℕ) → (b : Bool) → eqb (suc place) n ≡ b → (get_or (set mid (n - 1) true) place false ≡ true) ↔ In (suc place) (given ++ n ∷ [])
    go place true test =
        let this : suc place ≡ n = eqb-true (suc place) n test in
        let at : n - 1 ≡ place = omega arith in (
          (λ _. in_right (suc place) given (n ∷ []) (inl (sym this))),
          (λ _. subst (λ i. get_or (set mid (n - 1) true) i false ≡ true) at (get_or-set_same mid (n - 1) true false (omega arith))),
        )
    go place false test =
        let apart : suc place ≢ n = eqb-false (suc place) n test in
        let other : place ≢ n - 1 = (λ e. apart (omega arith)) in
        let was : get_or (set mid (n - 1) true) place false ≡ get_or old.flags.items place false = get_or-set_other mid (n - 1) place true false other ∙ same place in (
          (λ h. in_left (suc place) given (n ∷ []) ((are.flag place).0 (sym was ∙ h))),
          (λ h. was ∙ (are.flag place).1 (elim (in_split (suc place) given (n ∷ []) h) [
            | inl before ↦ before
            | inr here ↦ absurd (apart (sym (in_one (suc place) n here)))
          ])),
        )

    flag : (place : ℕ) → (get_or new.flags.items place false ≡ true) ↔ In (suc place) (given ++ n ∷ [])
    flag place = subst (λ (fs : List Bool). (get_or fs place false ≡ true) ↔ In (suc place) (given ++ n ∷ [])) (sym sets) (go place (eqb (suc place) n) refl)

-- The messages that were never given.

below : (given : List ℕ) (n : ℕ) (ms : List ℕ) → AreUngiven given n ms → (m : ℕ) → In m ms → m ≤ n
below given n ms are m h = (((are.these m).0 h)).1

rising_push : (ms : List ℕ) (n : ℕ) → IsRising ms → ((m : ℕ) → In m ms → m ≤ n) → IsRising (ms ++ (n + 1) ∷ [])
rising_push [] n rises all = (tt, tt)
rising_push (m ∷ []) n rises all = (let le : m ≤ n = all m (inl refl) in omega arith, (tt, tt))
rising_push (m ∷ k ∷ ms) n rises all = (rises.0, rising_push (k ∷ ms) n rises.1 (λ j h. all j (inr h)))

-- one message more, which wasn't given
pub one_ungiven : (flags : Given) (given : List ℕ) (n : ℕ) (ms : List ℕ) → AreFlagged flags given → get_or flags.flags.items n false ≡ false → AreUngiven given n ms → AreUngiven given (n + 1) (ms ++ (n + 1) ∷ [])
one_ungiven flags given n ms are unset was = record { rising = rising_push ms n was.rising (below given n ms was); these = (λ m. (to m, from m (eqb (n + 1) m) refl)) }
  where
    never : ¬ In (suc n) given
    never h = let set : get_or flags.flags.items n false ≡ true = (are.flag n).1 h in absurd (cc)

    to : (m : ℕ) → In m (ms ++ (n + 1) ∷ []) → (1 ≤ m) × (m ≤ n + 1) × ¬ In m given
    to m h = elim (in_split m ms ((n + 1) ∷ []) h) [
      | inl before ↦ (let w = (was.these m).0 before in (w.0, omega arith, w.2))
      | inr here ↦ (let is : n + 1 ≡ m = in_one m (n + 1) here in (omega arith, omega arith, (λ g. never (subst (λ k. In k given) (let s : m ≡ suc n = omega arith in s) g))))
    ]

    from : (m : ℕ) (b : Bool) → eqb (n + 1) m ≡ b → (1 ≤ m) × (m ≤ n + 1) × ¬ In m given → In m (ms ++ (n + 1) ∷ [])
    from m true test h = in_right m ms ((n + 1) ∷ []) (inl (eqb-true (n + 1) m test))
    from m false test h = let apart : n + 1 ≢ m = eqb-false (n + 1) m test in let le : m ≤ n + 1 = h.1 in in_left m ms ((n + 1) ∷ []) ((was.these m).1 (h.0, omega arith, h.2))

-- one message more, which was given
pub same_ungiven : (flags : Given) (given : List ℕ) (n : ℕ) (ms : List ℕ) → AreFlagged flags given → get_or flags.flags.items n false ≡ true → AreUngiven given n ms → AreUngiven given (n + 1) ms
same_ungiven flags given n ms are is_set was = record { rising = was.rising; these = (λ m. (to m, from m (eqb (n + 1) m) refl)) }
  where
    to : (m : ℕ) → In m ms → (1 ≤ m) × (m ≤ n + 1) × ¬ In m given
    to m h = (let w = (was.these m).0 h in (w.0, omega arith, w.2))

    from : (m : ℕ) (b : Bool) → eqb (n + 1) m ≡ b → (1 ≤ m) × (m ≤ n + 1) × ¬ In m given → In m ms
    from m true test h = let is : n + 1 ≡ m = eqb-true (n + 1) m test in absurd (h.2 (subst (λ k. In k given) (let s : suc n ≡ m = omega arith in s) ((are.flag n).0 is_set)))
    from m false test h = let apart : n + 1 ≢ m = eqb-false (n + 1) m test in let le : m ≤ n + 1 = h.1 in (was.these m).1 (h.0, omega arith, h.2)

-- none of those up to the floor
none_ungiven : (flags : Given) (given : List ℕ) (n : ℕ) → n ≤ flags.floor → AreFlagged flags given
    → AreUngiven given n []
none_ungiven flags given n low are = record {
  rising = tt;
  these = (λ m. ((λ h. absurd h), (λ h. absurd (h.2 (was m h.0 h.1)))));
}
  where
    was : (m : ℕ) → 1 ≤ m → m ≤ n → In m given
    was m one le = are.floor m one (omega arith)

-- all of those above it, where no flag stands behind it
above_ungiven : (flags : Given) (given : List ℕ) (k : ℕ) → length flags.flags.items ≤ flags.floor
    → AreFlagged flags given → AreUngiven given (flags.floor + k) (above flags.floor k)
above_ungiven flags given zero last are = none_ungiven flags given (flags.floor + zero) (omega arith) are
above_ungiven flags given (suc k) last are =
    let n : flags.floor + k + 1 ≡ flags.floor + suc k = omega arith in
    let unset = get_or_past flags.flags.items (flags.floor + k) false (omega arith) in
    let before = above_ungiven flags given k last are in
    subst (λ n. AreUngiven given n (above flags.floor (suc k))) n
    (one_ungiven flags given (flags.floor + k) (above flags.floor k) are unset before)

pub all_above_ungiven : (flags : Given) (given : List ℕ) (sent from : ℕ) → length flags.flags.items ≤ flags.floor
    → from ≡ min flags.floor sent → AreFlagged flags given → AreUngiven given sent (above from (sent - from))
all_above_ungiven flags given sent from last is are = go (ltb flags.floor sent) refl
  where
    go : (b : Bool) → ltb flags.floor sent ≡ b → AreUngiven given sent (above from (sent - from))
    go true test =
        let lt : flags.floor < sent = ltb-true flags.floor sent test in
        let at : flags.floor ≡ from = omega arith in
        let all : flags.floor + (sent - flags.floor) ≡ sent = omega arith in
        subst (λ n. AreUngiven given sent (above n (sent - n))) at
        (subst (λ n. AreUngiven given n (above flags.floor (sent - flags.floor))) all
        (above_ungiven flags given (sent - flags.floor) last are))
    go false test =
        let le : sent ≤ flags.floor = ltb-false flags.floor sent test in
        let none : 0 ≡ sent - from = omega arith in
        subst (λ k. AreUngiven given sent (above from k)) none (none_ungiven flags given sent le are)
