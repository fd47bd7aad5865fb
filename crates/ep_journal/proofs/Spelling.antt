-- The frames of one message to several replicas.
use Rattle.std.proofs.Common.{◌≡◌, ◌≢◌, ℕ, suc, ◌+◌, ◌≤◌, Bool, true, false, cond, List, [], ◌∷◌, ◌++◌, length, refl, sym, ap, subst, ◌∙◌, arith}
use Rattle.std.specs.List.{AllByRecursion}
use Rattle.std.proofs.lemmas.List.{append-nil}
use Rattle.ep_base.specs.Fitting.{BallotsFit}
use Rattle.ep_base.specs.Versions.{CanSay}
use Rattle.ep_base.specs.declared.message.Message.{Message}
use Rattle.ep_base.specs.declared.version.Version.{Version}
use Rattle.ep_frame.specs.Rounds.{AreFramesTo}
use Rattle.ep_rules.specs.Counting.{to_those}
use Rattle.ep_rules.specs.Fitting.{AllFit}
use Rattle.ep_rules.specs.Steps.{sent_from}
use Rattle.ep_journal.specs.Events.{AreSpelled}
use Rattle.ep_journal.specs.Holding.{AllSayable}
use Rattle.ep_journal.specs.Several.{to_each}

-- they are the frames of what is sent
pub each_spelled : (v : Version) (n stamp k me : ℕ) (m : Message) (rs : List ℕ) (bs : List (List ℕ)) → AreFramesTo v me m n stamp k rs bs → AreSpelled v n stamp k bs (sent_from me (to_each rs m))
each_spelled v n stamp k me m [] [] h = tt
each_spelled v n stamp k me m [] (b ∷ bs) h = absurd h
each_spelled v n stamp k me m (r ∷ rs) [] h = absurd h
each_spelled v n stamp k me m (r ∷ rs) (b ∷ bs) h = (h.0, each_spelled v n stamp (suc k) me m rs bs h.1)

-- each receiver is another replica
pub each_apart : (me : ℕ) (m : Message) (rs : List ℕ) → AllFit me (to_each rs m) → AllByRecursion (λ r. r ≢ me) rs
each_apart me m [] h = tt
each_apart me m (r ∷ rs) h = (h.0, each_apart me m rs h.2)

-- where there is one, the message has a spelling, and the version can say it
pub each_fits : (me : ℕ) (m : Message) (rs : List ℕ) → 1 ≤ length rs → AllFit me (to_each rs m) → BallotsFit m
each_fits me m [] some h = absurd (omega (arith, some))
each_fits me m (r ∷ rs) some h = h.1

pub each_sayable : (v : Version) (m : Message) (rs : List ℕ) → 1 ≤ length rs → AllSayable v (to_each rs m) → CanSay v m
each_sayable v m [] some h = absurd (omega (arith, some))
each_sayable v m (r ∷ rs) some h = h.0

each_more : (rs : List ℕ) (r : ℕ) (m : Message) → to_each (rs ++ r ∷ []) m ≡ to_each rs m ++ (r, m) ∷ []
each_more [] r m = refl
each_more (s ∷ rs) r m = ap (λ (ms : List (ℕ × Message)). (s, m) ∷ ms) (each_more rs r m)

-- one receiver more
pub each_added : (p : Bool) (rs rs' : List ℕ) (r q : ℕ) (m : Message) → p ≡ true → rs' ≡ rs ++ q ∷ [] → q ≡ r → to_each rs' m ≡ to_each rs m ++ cond p ((r, m) ∷ []) []
each_added p rs rs' r q m passes is same =
    ap (λ (xs : List ℕ). to_each xs m) is ∙ each_more rs q m ∙ ap (λ (s : ℕ). to_each rs m ++ (s, m) ∷ []) same ∙ sym (ap (λ (b : Bool). to_each rs m ++ cond b ((r, m) ∷ []) []) passes)

pub each_passed : (p : Bool) (rs : List ℕ) (r : ℕ) (m : Message) → p ≡ false → to_each rs m ≡ to_each rs m ++ cond p ((r, m) ∷ []) []
each_passed p rs r m fails = sym (append-nil (to_each rs m)) ∙ sym (ap (λ (b : Bool). to_each rs m ++ cond b ((r, m) ∷ []) []) fails)

-- those below the next number
pub those_next : (p : ℕ → Bool) (r : ℕ) (m : Message) (rs rs' : List ℕ) → to_each rs m ≡ to_those p r m → to_each rs' m ≡ to_each rs m ++ cond (p r) ((r, m) ∷ []) [] → to_each rs' m ≡ to_those p (r + 1) m
those_next p r m rs rs' before is =
    let next : suc r ≡ r + 1 = omega arith in
    is ∙ ap (λ (ms : List (ℕ × Message)). ms ++ cond (p r) ((r, m) ∷ []) []) before ∙ ap (λ (j : ℕ). to_those p j m) next

-- where there is no receiver, there is no frame
pub none_spelled : (v : Version) (n stamp me : ℕ) (m : Message) (rs : List ℕ) (bs : List (List ℕ)) (ms : List (ℕ × Message)) → length rs ≤ 0 → to_each rs m ≡ ms → bs ≡ [] → AreSpelled v n stamp 0 bs (sent_from me ms)
none_spelled v n stamp me m [] bs ms none is empty = subst (λ (x : List (ℕ × Message)). AreSpelled v n stamp 0 bs (sent_from me x)) is (subst (λ (y : List (List ℕ)). AreSpelled v n stamp 0 y []) (sym empty) tt)
none_spelled v n stamp me m (r ∷ rs) bs ms none is empty = absurd (omega (arith, none))
