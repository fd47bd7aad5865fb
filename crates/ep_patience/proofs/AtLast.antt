-- What stays open is asked for at last: each wait that is over is counted, or something is asked for.
use Rattle.std.proofs.Common.{◌≡◌, ◌≤◌, ◌<◌, ◌⊎◌, ◌+◌, ℕ, zero, suc, max, min, Bool, true, false, cond, not, leb, ltb, ◌&&◌, ◌||◌, inl, inr, List, [], ◌∷◌, length, take, slice_get, refl, sym, ap, subst, ◌∙◌, arith}
use Rattle.std.specs.Prelude.{Option, Some, None}
use Rattle.std.specs.List.{cons_option}
use Rattle.std.proofs.lemmas.Bool.{or_left, leb-true, leb-false, ltb-true, ltb-false, le-leb, le-ltb}
use Rattle.std.proofs.lemmas.Option.{none-some, same_Some}
use Rattle.ep_phase.specs.declared.progress.LeadPhase.{LeadPhase}
use Rattle.ep_phase.specs.declared.progress.LeadPhase.TheVariants.{Proposing, Accepting, Preparing}
use Rattle.ep_patience.proofs.InTime.{Names, at_names}
use Rattle.ep_patience.specs.AtLast.{IsAsked, silent_of, silent_at, is_over, is_over_in, IsOpenIn, StaysOpen, waits_over, IsAskedIn, AsksAtLast}
use Rattle.ep_patience.specs.InTime.{named, IsTurn, Turned}
use Rattle.ep_patience.specs.Turning.{after, found, found_at, has_room, most_of, outlook_of, remedies, remedy_in, time_at, waiting_for, waiting_in}
use Rattle.ep_patience.specs.Waiting.{begun, chance, hurried, is_late, is_own, later, remedy_at, remedy_of, remedy_own, waited_on}
use Rattle.ep_patience.specs.declared.outlook.Outlook.{Outlook}
use Rattle.ep_patience.specs.declared.patience.Patience.{Patience}
use Rattle.ep_patience.specs.declared.remedy.Remedy.{Remedy}
use Rattle.ep_patience.specs.declared.remedy.Remedy.TheVariants.{GiveUp, Recover}
use Rattle.ep_patience.specs.declared.seen.Seen.{Seen}
use Rattle.ep_patience.specs.declared.waiting.Waiting.{Waiting}

-- What is to be asked for an instance for which there is room is asked for.

asked_first : (i most : ℕ) (o : Option Remedy) (r : Remedy) (rs : List Remedy) → o ≡ Some r → named r ≡ i → 0 < most → IsAsked i (take most (cons_option o rs))
asked_first i zero o r rs e names lt = absurd (omega arith)
asked_first i (suc most) None r rs e names lt = absurd (none-some r e)
asked_first i (suc most) (Some s) r rs e names lt = inl (ap named (same_Some s r e) ∙ names)

asked_behind : (i most : ℕ) (o : Option Remedy) (before rs : List Remedy) → length (cons_option o before) < most → ((m : ℕ) → length before < m → IsAsked i (take m rs)) → IsAsked i (take most (cons_option o rs))
asked_behind i zero o before rs lt rec = absurd (omega arith)
asked_behind i (suc most) None before rs lt rec = rec (suc most) lt
asked_behind i (suc most) (Some s) before rs lt rec = inr (rec most (omega arith))

asked_at : (p : Patience) (time i : ℕ) (xs : List Seen) (n : ℕ) (x : Seen) (r : Remedy) (most : ℕ) → slice_get xs n ≡ Some x → remedy_in p time x ≡ Some r → named r ≡ i →
    length (remedies p time (take n xs)) < most → IsAsked i (take most (remedies p time xs))
asked_at p time i [] n x r most at e names lt = absurd (none-some x at)
asked_at p time i (y ∷ xs) zero x r most at e names lt = asked_first i most (remedy_in p time y) r (remedies p time xs) (ap (remedy_in p time) (same_Some y x at) ∙ e) names lt
asked_at p time i (y ∷ xs) (suc n) x r most at e names lt =
    asked_behind i most (remedy_in p time y) (remedies p time (take n xs)) (remedies p time xs) lt (λ m less. asked_at p time i xs n x r m at e names less)

-- Where nothing is to be asked for one whose wait is over, it wasn't over three times yet.

own_silent : (o : Outlook) (i : ℕ) (leads : Option (LeadPhase × ℕ)) (silent : ℕ) → remedy_own o i leads silent ≡ None → silent < 3
own_silent o i None silent e = absurd (cc)
own_silent o i (Some (Proposing, n)) silent e = go (leb o.place.size n) (ltb o.members o.place.size) (leb 3 silent) refl e
  where
    go : (a b c : Bool) → leb 3 silent ≡ c → cond a (Some (GiveUp i)) (cond (b || c) (Some (Recover i)) None) ≡ None → silent < 3
    go true b c at e = absurd (cc)
    go false true c at e = absurd (cc)
    go false false true at e = absurd (cc)
    go false false false at e = leb-false 3 silent at
own_silent o i (Some (Accepting, n)) silent e = go (leb 3 silent) refl e
  where
    go : (c : Bool) → leb 3 silent ≡ c → cond c (Some (Recover i)) None ≡ None → silent < 3
    go true at e = absurd (cc)
    go false at e = leb-false 3 silent at
own_silent o i (Some (Preparing, n)) silent e = absurd (cc)

none_silent : (o : Outlook) (x : Seen) (w : Waiting) → remedy_at o x w ≡ None → w.due ≤ o.time → w.silent < 3
none_silent o x w e le = go (is_own o x) (sym (ap (λ b. cond b (remedy_of o x w) None) late) ∙ e)
  where
    late : is_late o x w ≡ true
    late = or_left (leb w.due o.time) _ (le-leb w.due o.time le)

    go : (b : Bool) → cond b (remedy_own o x.instance x.leads w.silent) (Some (Recover x.instance)) ≡ None → w.silent < 3
    go true e = own_silent o x.instance x.leads w.silent e
    go false e = absurd (cc)

-- How it is found in a turn: its waits counted as before, and over, where it was.

record FoundSo (v : Option Waiting) (time : ℕ) (w : Waiting) : Type 0 where
  silent : w.silent ≡ silent_of v
  over : is_over v time ≡ true → w.due ≤ time

found_so : (p : Patience) (o : Outlook) (x : Seen) (v : Option Waiting) → FoundSo v o.time (found p o x v)
found_so p o x None = record { silent = refl; over = λ e. absurd (cc) }
found_so p o x (Some v) = go p.is_hurried v.is_asked
  where
    went : Waiting
    went = record { due = min v.due (later o.time o.again (chance p.seed o.time x.instance)); wait = o.again; is_asked = true; silent = v.silent }

    go : (h a : Bool) → FoundSo (Some v) o.time (cond h (cond (not a) v went) v)
    go true true = record { silent = refl; over = λ e. (let t = leb-true v.due o.time e in omega arith) }
    go true false = record { silent = refl; over = λ e. leb-true v.due o.time e }
    go false a = record { silent = refl; over = λ e. leb-true v.due o.time e }

-- One turn: something is asked for it, or its wait is counted, if it is over.

abbrev over : ℕ → Turned → ℕ
over i t = cond (is_over_in i t) 1 0

record Counted (i : ℕ) (t : Turned) : Type 0 where
  more : silent_at t.before i + over i t ≤ silent_at t.after i
  less : over i t ≡ 0 ⊎ (silent_at t.before i < 3)

kept_silent : (b : Bool) (o : Outlook) (w : Waiting) → w.silent ≤ (cond b w (waited_on o w)).silent
kept_silent true o w = omega arith
kept_silent false o w = go (ltb w.silent 3)
  where
    go : (b : Bool) → w.silent ≤ cond b (w.silent + 1) w.silent
    go true = omega arith
    go false = omega arith

more_silent : (o : Outlook) (w : Waiting) → w.due ≤ o.time → w.silent < 3 → w.silent + 1 ≤ (cond (ltb o.time w.due) w (waited_on o w)).silent
more_silent o w le lt = go (ltb o.time w.due) (ltb w.silent 3) refl refl
  where
    go : (a b : Bool) → ltb o.time w.due ≡ a → ltb w.silent 3 ≡ b → w.silent + 1 ≤ (cond a w (record { due = (waited_on o w).due; wait = w.wait; is_asked = w.is_asked; silent = cond b (w.silent + 1) w.silent })).silent
    go true b ea eb = absurd (let t = ltb-true o.time w.due ea in omega arith)
    go false true ea eb = omega arith
    go false false ea eb = absurd (let t = ltb-false w.silent 3 eb in omega arith)

counted : (t : Turned) → IsTurn t → (n : ℕ) (x : Seen) → slice_get t.seen n ≡ Some x → remedy_in t.before (time_at t.before t.now) x ≡ None → Counted x.instance t
counted t turn n x at none = go (is_over_in x.instance t) refl
  where
    time : ℕ
    time = time_at t.before t.now

    o : Outlook
    o = outlook_of t.before (time_at t.before t.now) x

    w : Waiting
    w = found_at t.before (outlook_of t.before (time_at t.before t.now) x) x

    so : FoundSo (waiting_for t.before.all.entries x.instance) (time_at t.before t.now) (found_at t.before (outlook_of t.before (time_at t.before t.now) x) x)
    so = found_so t.before (outlook_of t.before (time_at t.before t.now) x) x (waiting_for t.before.all.entries x.instance)

    left : silent_at t.after x.instance ≡ (cond (ltb (time_at t.before t.now) w.due) w (waited_on o w)).silent
    left = ap silent_of (turn.turned.turns.waited n x at ∙ ap Some (ap (λ (r : Option Remedy). after t.before o x w r (has_room t.before (time_at t.before t.now) (take n t.seen))) none))

    go : (b : Bool) → is_over_in x.instance t ≡ b → Counted x.instance t
    go false e = record {
      more = (let z : over x.instance t ≡ 0 = ap (λ c. cond c 1 0) e in let k = kept_silent (ltb (time_at t.before t.now) w.due) o w in let s = so.silent in let l = left in omega arith);
      less = inl (ap (λ c. cond c 1 0) e);
    }
    go true e =
        let z : over x.instance t ≡ 1 = ap (λ c. cond c 1 0) e in
        let le : w.due ≤ time_at t.before t.now = so.over e in
        let few : w.silent < 3 = none_silent o x w none le in
        let m = more_silent o w le few in
        let s = so.silent in
        let l = left in
        record { more = (omega arith); less = inr (omega arith) }

one_turn : (i : ℕ) (t : Turned) → IsTurn t → IsOpenIn i t → IsAsked i t.asked ⊎ Counted i t
one_turn i t turn stays = go (remedy_in t.before (time_at t.before t.now) stays.x) refl
  where
    go : (r : Option Remedy) → remedy_in t.before (time_at t.before t.now) stays.x ≡ r → IsAsked i t.asked ⊎ Counted i t
    go (Some r) e = inl (subst (IsAsked i) (sym turn.turned.turns.late)
        (asked_at t.before (time_at t.before t.now) i t.seen stays.n stays.x r (most_of t.before) stays.open_at e (subst (λ s. Names stays.x.instance s) e (at_names (outlook_of t.before (time_at t.before t.now) stays.x) stays.x (found_at t.before (outlook_of t.before (time_at t.before t.now) stays.x) stays.x)) ∙ stays.instance) (ltb-true _ _ stays.room)))
    go None e = inr (subst (λ j. Counted j t) stays.instance (counted t turn stays.n stays.x stays.open_at e))

at_most_one : (b : Bool) → cond b 1 0 ≤ 1
at_most_one true = omega arith
at_most_one false = omega arith

all_turns : (i : ℕ) (p : Patience) (ts : List Turned) → StaysOpen i p ts → IsAskedIn i ts ⊎ (silent_at p i + waits_over i ts ≤ max 3 (silent_at p i))
all_turns i p [] stays = inr (omega arith)
all_turns i p (t ∷ ts) stays = go (one_turn i t stays.1 stays.2) (all_turns i t.after ts stays.3)
  where
    go : IsAsked i t.asked ⊎ Counted i t → IsAskedIn i ts ⊎ (silent_at t.after i + waits_over i ts ≤ max 3 (silent_at t.after i)) → IsAskedIn i (t ∷ ts) ⊎ (silent_at p i + waits_over i (t ∷ ts) ≤ max 3 (silent_at p i))
    go (inl asked) rest = inl (inl asked)
    go (inr c) (inl asked) = inl (inr asked)
    go (inr c) (inr few) = inr (let same = stays.0 in let m = c.more in let one = at_most_one (is_over_in i t) in elim c.less [ inl z ↦ omega arith | inr l ↦ omega arith ])

pub asks_at_last_lem : AsksAtLast
asks_at_last_lem i p ts stays enough = elim (all_turns i p ts stays) [ inl asked ↦ asked | inr few ↦ absurd (omega arith) ]
