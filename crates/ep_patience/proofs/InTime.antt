-- What comes in time is neither given up nor recovered.
use Rattle.std.proofs.Common.{◌≡◌, ◌<◌, ℕ, zero, suc, Bool, true, false, cond, not, leb, ltb, ◌&&◌, ◌||◌, List, [], ◌∷◌, take, slice_get, true≢false, refl, sym, ap, subst, ◌∙◌, arith}
use Rattle.std.specs.Prelude.{Option, Some, None}
use Rattle.std.specs.List.{cons_option}
use Rattle.std.proofs.lemmas.Bool.Decides.{nat_tests}
use Rattle.std.proofs.lemmas.Option.{none-some, same_Some}
use Rattle.ep_base.specs.Deps.{IsRising}
use Rattle.ep_phase.specs.declared.progress.LeadPhase.{LeadPhase}
use Rattle.ep_phase.specs.declared.progress.LeadPhase.TheVariants.{Proposing, Accepting, Preparing}
use Rattle.ep_patience.proofs.Turning.{above_all}
use Rattle.ep_patience.specs.InTime.{named, Awaits, BeginsPatient, IsEarly, IsHopeful, IsTurn, IsUnasked, StaysPatient, Turned}
use Rattle.ep_patience.specs.Turning.{after, found, found_at, has_room, instances, most_of, outlook_of, remedies, remedy_in, time_at, waiting_for, HasTurned}
use Rattle.ep_patience.specs.Waiting.{chance, hurried, is_late, is_own, remedy_at, remedy_of, remedy_own, waited_on}
use Rattle.ep_patience.specs.declared.outlook.Outlook.{Outlook}
use Rattle.ep_patience.specs.declared.patience.Patience.{Patience}
use Rattle.ep_patience.specs.declared.remedy.Remedy.{Remedy}
use Rattle.ep_patience.specs.declared.seen.Seen.{Seen}
use Rattle.ep_patience.specs.declared.waiting.Waiting.{Waiting}

-- What is asked for an instance names it.

abbrev pub Names : ℕ → Option Remedy → Type 0
Names i None = Unit {0}
Names i (Some r) = named r ≡ i

if_names : (b : Bool) (i : ℕ) (r s : Option Remedy) → Names i r → Names i s → Names i (cond b r s)
if_names true i r s one two = one
if_names false i r s one two = two

own_names : (o : Outlook) (i : ℕ) (leads : Option (LeadPhase × ℕ)) (silent : ℕ) → Names i (remedy_own o i leads silent)
own_names o i None silent = refl
own_names o i (Some (Proposing, n)) silent = if_names (leb o.place.size n) i _ _ refl (if_names (ltb o.members o.place.size || leb 3 silent) i _ _ refl tt)
own_names o i (Some (Accepting, n)) silent = if_names (leb 3 silent) i _ _ refl tt
own_names o i (Some (Preparing, n)) silent = refl

pub at_names : (o : Outlook) (x : Seen) (w : Waiting) → Names x.instance (remedy_at o x w)
at_names o x w = if_names (is_late o x w) x.instance _ _ (if_names (is_own o x) x.instance _ _ (own_names o x.instance x.leads w.silent) refl) tt

-- Where nothing is asked for an instance, none of what is asked for names it.

unasked_by : (p : Patience) (time i : ℕ) (xs : List Seen) → ((n : ℕ) (y : Seen) → slice_get xs n ≡ Some y → y.instance ≡ i → remedy_in p time y ≡ None) → IsUnasked i (remedies p time xs)
unasked_by p time i [] none = tt
unasked_by p time i (y ∷ ys) none =
    go (remedy_in p time y) refl (at_names (outlook_of p time y) y (found_at p (outlook_of p time y) y)) (unasked_by p time i ys (λ n z at same. none (suc n) z at same))
  where
    go : (r : Option Remedy) → remedy_in p time y ≡ r → Names y.instance r → IsUnasked i (remedies p time ys) → IsUnasked i (cons_option r (remedies p time ys))
    go None e names rest = rest
    go (Some r) e names rest = ((λ same. none-some r (sym (none 0 y refl (sym names ∙ same)) ∙ e)), rest)

unasked_front : (i most : ℕ) (rs : List Remedy) → IsUnasked i rs → IsUnasked i (take most rs)
unasked_front i zero rs h = tt
unasked_front i (suc most) [] h = tt
unasked_front i (suc most) (r ∷ rs) h = (h.0, unasked_front i most rs h.1)

-- an instance stands once in a rising list
once : (xs : List Seen) (m n : ℕ) (x y : Seen) → IsRising (instances xs) → slice_get xs m ≡ Some x → slice_get xs n ≡ Some y → y.instance ≡ x.instance → x ≡ y
once [] m n x y rising at to same = absurd (none-some x at)
once (z ∷ xs) zero zero x y rising at to same = sym (same_Some z x at) ∙ same_Some z y to
once (z ∷ xs) zero (suc n) x y rising at to same =
    let lt : z.instance < y.instance = above_all z.instance xs n y rising.0 rising.1 to in let here : z.instance ≡ x.instance = ap (λ (w : Seen). w.instance) (same_Some z x at) in absurd (omega (arith, lt, here, same))
once (z ∷ xs) (suc m) zero x y rising at to same =
    let lt : z.instance < x.instance = above_all z.instance xs m x rising.0 rising.1 at in let here : z.instance ≡ y.instance = ap (λ (w : Seen). w.instance) (same_Some z y to) in absurd (omega (arith, lt, here, same))
once (z ∷ xs) (suc m) (suc n) x y rising at to same = once xs m n x y rising.1 at to same

-- One turn, in which the instance is open, was not asked for, and isn't late.

not_late : (o : Outlook) (x : Seen) (w : Waiting) → w.is_asked ≡ false → IsHopeful o x → o.time < w.due → is_late o x w ≡ false
not_late o x w unasked hopeful lt =
    let early : leb w.due o.time ≡ false = grind (arith, nat_tests, lt) in
    (λ k. early k || (not (unasked k) && hopeful k))

quiet : (p : Patience) (now : ℕ) (seen : List Seen) (q : Patience) (asked : List Remedy) (n : ℕ) (x : Seen) (w : Waiting) → IsRising (instances seen) → HasTurned p now seen q asked → slice_get seen n ≡ Some x
    → found_at p (outlook_of p (time_at p now) x) x ≡ w → w.is_asked ≡ false → IsHopeful (outlook_of p (time_at p now) x) x → time_at p now < w.due → IsUnasked x.instance asked × (waiting_for q.all.entries x.instance ≡ Some w)
quiet p now seen q asked n x w rising turned at is unasked hopeful lt = (
  subst (IsUnasked x.instance) (sym turned.turns.late) (unasked_front x.instance (most_of p) (remedies p time seen) (unasked_by p time x.instance seen (λ m y to same. subst (λ (z : Seen). remedy_in p time z ≡ None) (once seen n m x y rising at to same) none))),
  turned.turns.waited n x at ∙ ap Some (ap (λ (r : Option Remedy). after p o x (found_at p o x) r (has_room p time (take n seen))) none ∙ stays),
)
  where
    time : ℕ
    time = time_at p now

    o : Outlook
    o = outlook_of p (time_at p now) x

    none : remedy_in p (time_at p now) x ≡ None
    none = ap (remedy_at o x) is ∙ ap (λ b. cond b (remedy_of o x w) None) (not_late o x w unasked hopeful lt)

    stays : after p (outlook_of p (time_at p now) x) x (found_at p (outlook_of p (time_at p now) x) x) None (has_room p (time_at p now) (take n seen)) ≡ w
    stays = let early : ltb time w.due ≡ true = grind (arith, nat_tests, lt) in
        ap (λ (v : Waiting). after p o x v None (has_room p time (take n seen))) is ∙ ap (λ b. cond b w (waited_on o w)) early

skip : (b : Bool) (w v : Waiting) → b ≡ false → cond (not b) w v ≡ w
skip true w v e = absurd (true≢false e)
skip false w v e = refl

-- what was not asked for isn't hurried
found_so : (p : Patience) (o : Outlook) (x : Seen) (w : Waiting) → w.is_asked ≡ false → waiting_for p.all.entries x.instance ≡ Some w → found_at p o x ≡ w
found_so p o x w unasked at = ap (found p o x) at ∙ go p.is_hurried
  where
    go : (b : Bool) → cond b (hurried o w (chance p.seed o.time x.instance)) w ≡ w
    go true = skip w.is_asked w _ unasked
    go false = refl

pub begins_lem : BeginsPatient
begins_lem t n x turn at new hopeful lt =
    let so = quiet t.before t.now t.seen t.after t.asked n x _ turn.rising turn.turned at (ap (found t.before (outlook_of t.before (time_at t.before t.now) x) x) new) refl hopeful lt in
    (so.0, (_, so.1, refl, omega arith))

one_unasked : (i until : ℕ) (t : Turned) → IsTurn t → Awaits t.before i until → IsEarly i until t → IsUnasked i t.asked × Awaits t.after i until
one_unasked i until t turn waits early =
    let w = waits.0 in let le = waits.3 in let less = early.early in let lt : time_at t.before t.now < w.due = omega (arith, le, less) in
    let at : waiting_for t.before.all.entries early.x.instance ≡ Some w = ap (waiting_for t.before.all.entries) early.instance ∙ waits.1 in
    let so = quiet t.before t.now t.seen t.after t.asked early.n early.x w turn.rising turn.turned early.open_at (found_so t.before (outlook_of t.before (time_at t.before t.now) early.x) early.x w waits.2 at) waits.2 early.hopeful lt in
    (subst (λ j. IsUnasked j t.asked) early.instance so.0, (w, ap (waiting_for t.after.all.entries) (sym early.instance) ∙ so.1, waits.2, waits.3))

pub stays_lem : StaysPatient
stays_lem i until p [] waits run early = tt
stays_lem i until p (t ∷ ts) waits run early =
    let so = one_unasked i until t run.1 (run.0 until waits) early.0 in
    (so.0, stays_lem i until t.after ts so.1 run.2 early.1)
