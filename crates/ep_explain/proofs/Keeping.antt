-- What is left of a source that keeps what it gave.
use Rattle.std.proofs.Common.{◌≡◌, ℕ, ◌≤◌, Bool, List, [], ◌∷◌, ◌++◌, Option, Some, None, Result, length, take, drop, refl, sym, ap, subst, ◌∙◌, arith, ◌+◌, ◌-◌, zero, suc, take-append-drop, length-drop, take_all, append-nil, ◌<◌}
use Rattle.std.proofs.lemmas.List.{length-take-le}
use Rattle.std.proofs.Math.Seq.{take-append_seam}
use Rattle.std.proofs.KnownBytes.{prepend_known-nil}
use Rattle.std.proofs.Math.ListN.{drop_of_length-le}
use Rattle.std.specs.Prelude.{true, false, Ok, Err, IfOk, IfErr}
use Rattle.std.specs.Io.KnownBytes.{Consumes, IsAtEnd, Keeps, prepend_known}
use Rattle.ep_base.specs.Devices.{Pulls}
use Rattle.ep_explain.specs.Kept.{Keeper, known_left, followed, ends, Gives}

-- nothing was given where there was room, and nothing was left
at_end : (known : Option (List ℕ)) (bs given : List ℕ) → IsAtEnd known → given ≡ [] → Consumes (prepend_known bs known) (Some bs) given
at_end None bs given e none = tt
at_end (Some x) bs given e none = ap (λ (l : List ℕ). bs ++ l) e ∙ append-nil bs ∙ ap (λ (l : List ℕ). l ++ bs) (sym none)

ended_none : (count room : ℕ) → ends count room ≡ true → count ≡ 0
ended_none count room e = grind arith

ended_room : (count room : ℕ) → ends count room ≡ true → 0 < room
ended_room count room e = grind arith

-- the source gave n bytes, where all bytes that are kept were pulled
gave_on :
    (over : Bool) (a b : Option (List ℕ)) (buf : List ℕ) (n : ℕ) → over ≡ ends n (length buf) → Consumes a b (take n buf) → (n ≡ 0 → 0 < length buf → IsAtEnd a) →
    Consumes (prepend_known [] a) (followed over [] b) (take n buf)
gave_on false a b buf n is c end =
    subst (λ (k : Option (List ℕ)). Consumes k (prepend_known [] b) (take n buf)) (sym (prepend_known-nil a))
    (subst (λ (k : Option (List ℕ)). Consumes a k (take n buf)) (sym (prepend_known-nil b)) c)
gave_on true a b buf n is c end =
    let none : n ≡ 0 = ended_none n (length buf) (sym is) in
    at_end a [] (take n buf) (end none (ended_room n (length buf) (sym is))) (ap (λ (k : ℕ). take k buf) none)

kept_on : (over : Bool) (a b : Option (List ℕ)) → over ≡ false → Keeps a b → Keeps (prepend_known [] a) (followed over [] b)
kept_on true a b is k = absurd (let e : true ≡ false = is in (cc))
kept_on false a b is k =
    subst (λ (l : Option (List ℕ)). Keeps l (prepend_known [] b)) (sym (prepend_known-nil a)) (subst (λ (l : Option (List ℕ)). Keeps a l) (sym (prepend_known-nil b)) k)

pulled_of :
    {E : Type 0} (over : Bool) (a b : Option (List ℕ)) (had has : Bool) (r : Result ℕ E) (buf : List ℕ) → IfOk r (λ n. over ≡ ends n (length buf)) → IfErr r (λ _. over ≡ false) →
    Pulls a b had has r buf → Pulls (prepend_known [] a) (followed over [] b) had has r buf
pulled_of over a b had has (Err e) buf ok err p = (kept_on over a b err p.0, p.1)
pulled_of over a b had has (Ok n) buf ok err p =
    (gave_on over a b buf n ok p.0 p.1, λ none room. subst (λ (k : Option (List ℕ)). IsAtEnd k) (sym (prepend_known-nil a)) (p.1 none room), p.2)

-- more was pulled from the source, where all bytes that are kept were pulled before and after
pub pulled :
    {S E : Type 0} (left : S → Option (List ℕ)) (old new : Keeper S) (had has : Bool) (r : Result ℕ E) (buf : List ℕ) → length old.bytes ≤ old.at → length new.bytes ≤ new.at →
    old.is_over ≡ false → IfOk r (λ n. new.is_over ≡ ends n (length buf)) → IfErr r (λ _. new.is_over ≡ false) →
    Pulls (left old.source) (left new.source) had has r buf → Pulls (known_left left old) (known_left left new) had has r buf
pulled left old new had has r buf all after still ok err p =
    subst (λ (o : Bool). Pulls (followed o (drop old.at old.bytes) (left old.source)) (known_left left new) had has r buf) (sym still)
    (subst (λ (bs : List ℕ). Pulls (prepend_known bs (left old.source)) (known_left left new) had has r buf) (sym (drop_of_length-le old.bytes all))
    (subst (λ (bs : List ℕ). Pulls (prepend_known [] (left old.source)) (followed new.is_over bs (left new.source)) had has r buf) (sym (drop_of_length-le new.bytes after))
    (pulled_of new.is_over (left old.source) (left new.source) had has r buf ok err p)))

drop_twice : (at n m : ℕ) (bs : List ℕ) → m ≡ at + n → drop n (drop at bs) ≡ drop m bs
drop_twice zero n m bs e = let same : m ≡ n = omega (arith, e) in ap (λ (k : ℕ). drop k bs) (sym same)
drop_twice (suc at) n m [] e = drop_of_length-le [] (omega arith) ∙ sym (drop_of_length-le [] (omega arith))
drop_twice (suc at) n zero (b ∷ bs) e = absurd (omega (arith, e))
drop_twice (suc at) n (suc m) (b ∷ bs) e = drop_twice at n m bs (omega (arith, e))

-- the first n of the bytes from a place on, copied over the first ones of a buffer, and those that are left
front_of : (xs copied buf : List ℕ) (n : ℕ) → n ≤ length xs → copied ≡ take n xs → xs ≡ take n (copied ++ drop n buf) ++ drop n xs
front_of xs copied buf n fits is =
    let len : length copied ≡ n = ap (λ (l : List ℕ). length l) is ∙ length-take-le n xs fits in
    let seam : take n (copied ++ drop n buf) ≡ copied = subst (λ (k : ℕ). take k (copied ++ drop n buf) ≡ copied) len (take-append_seam copied (drop n buf)) in
    sym (take-append-drop n xs) ∙ ap (λ (l : List ℕ). l ++ drop n xs) (sym (seam ∙ is))

-- what is given, where the bytes stand as they were copied
pub gives_of :
    {S : Type 0} (old : Keeper S) (source : S) (over : Bool) (bs ds copied buf : List ℕ) (at n : ℕ) → record { source = source; bytes = bs; at = at; is_over = over } ≡ old → ds ≡ bs →
    n ≤ length (take (length ds - at) (drop at ds)) → copied ≡ take n (take (length ds - at) (drop at ds)) →
    Gives old (record { source = source; bytes = bs; at = at + n; is_over = over }) (take n (copied ++ drop n buf))
gives_of {S} old source over bs ds copied buf at n view same fits is =
    let short : length (drop at ds) ≤ length ds - at = subst (λ (k : ℕ). k ≤ length ds - at) (sym (length-drop at ds)) (omega arith) in
    let all : take (length ds - at) (drop at ds) ≡ drop at bs = take_all (length ds - at) (drop at ds) short ∙ ap (λ (l : List ℕ). drop at l) same in
    let fits' : n ≤ length (drop at bs) = subst (λ (l : List ℕ). n ≤ length l) all fits in
    let is' : copied ≡ take n (drop at bs) = is ∙ ap (λ (l : List ℕ). take n l) all in
    let front : drop at bs ≡ take n (copied ++ drop n buf) ++ drop (at + n) bs =
    front_of (drop at bs) copied buf n fits' is' ∙ ap (λ (l : List ℕ). take n (copied ++ drop n buf) ++ l) (drop_twice at n (at + n) bs refl) in
    subst (λ (o : Keeper S). Gives o (record { source = source; bytes = bs; at = at + n; is_over = over }) (take n (copied ++ drop n buf))) view (record { source = refl; over = refl; front = front })
