-- A history up to its first seal: its places, and what it is answered there.
use Rattle.std.proofs.Common.{◌≡◌, ℕ, zero, suc, ◌<◌, ◌≤◌, Bool, true, false, cond, ◌||◌, inl, inr, Option, Some, None, List, [], ◌∷◌, ◌++◌, length, get_or, refl, sym, ap, subst, ◌∙◌, arith}
use Rattle.std.proofs.lemmas.Bool.{false≢true}
use Rattle.std.specs.List.{filter}
use Rattle.ep_base.specs.Interference.{is_seal}
use Rattle.ep_base.specs.Places.{place, Has}
use Rattle.ep_base.specs.Sameness.{is_noop}
use Rattle.ep_base.specs.Commands.{Command, Noop, Get, Put, Del, Swap, Cas, Seal, Opaque, Tx}
use Rattle.ep_base.specs.declared.reply.Reply.TheVariants.{Absent, Closed, Done, Undone}
use Rattle.ep_rules.specs.Closing.{has_seal, up_to_seal, written_by, read_by}
use Rattle.ep_rules.specs.History.{is_new}
use Rattle.ep_rules.specs.OneMap.{Contents, written, read, reported, all_hold, reply_values, opened, after, replies}
use Rattle.ep_rules.specs.Operations.{Operation, instances_of, commands_of, operations_of, executed_by, new_to, history_after}
use Rattle.ep_rules.specs.Steps.{order_of}
use Rattle.ep_rules.specs.Worlds.{World, In, Act, moved}
use Rattle.ep_rules.proofs.Commuting.{map_of, seal_value}
use Rattle.ep_rules.proofs.Places.{Once, place_cons, place_head, has_cons, has_left, place-append_in, place-append_out}
use Rattle.ep_rules.proofs.RunHistories.{instances_append, instance_in}
use Rattle.ep_rules.proofs.Sealing.{not_seal, stays_open, sealed_here}

-- A history has no no-op.

abbrev pub AreReal : List Operation → Type 0
AreReal [] = Unit {0}
AreReal (o ∷ os) = (is_noop o.command ≡ false) × AreReal os

real_both : (xs ys : List Operation) → AreReal xs → AreReal ys → AreReal (xs ++ ys)
real_both [] ys x y = y
real_both (o ∷ xs) ys x y = (x.0, real_both xs ys x.1 y)

real_some : (p : Operation → Bool) (xs : List Operation) → AreReal xs → AreReal (filter p xs)
real_some p [] x = tt
real_some p (o ∷ xs) x = go (p o) (real_some p xs x.1)
  where
    go : (b : Bool) → AreReal (filter p xs) → AreReal (cond b (o ∷ filter p xs) (filter p xs))
    go true r = (x.0, r)
    go false r = r

real_operations : (c : ℕ → Command) (is : List ℕ) → AreReal (operations_of c is)
real_operations c [] = tt
real_operations c (i ∷ is) = go (is_noop (c i)) refl (real_operations c is)
  where
    go : (b : Bool) → is_noop (c i) ≡ b → AreReal (operations_of c is) → AreReal (cond b (operations_of c is) (record { instance = i; command = c i } ∷ operations_of c is))
    go true e r = r
    go false e r = (e, r)

pub real_history : (f : ℕ) (w : World) (h : List Operation) (acts : List Act) → AreReal h → AreReal (history_after f w h acts)
real_history f w h [] r = r
real_history f w h (a ∷ acts) r =
    real_history f (moved f w a) (h ++ new_to h (executed_by w a)) acts
    (real_both h (new_to h (executed_by w a)) r (real_some (λ o. is_new (instances_of h) o.instance) (executed_by w a) (real_operations _ (order_of a.done))))

-- Places.

pub cut_front : (h : List Operation) → (more : List Operation) × (up_to_seal h ++ more ≡ h)
cut_front [] = ([], refl)
cut_front (o ∷ os) = go (is_seal o.command) (cut_front os)
  where
    go : (b : Bool) → (more : List Operation) × (up_to_seal os ++ more ≡ os) → (more : List Operation) × ((o ∷ cond b [] (up_to_seal os)) ++ more ≡ o ∷ os)
    go true r = (os, refl)
    go false r = (r.0, ap (λ z. o ∷ z) r.1)

pub cut_in : (h : List Operation) (i : ℕ) → Has (instances_of (up_to_seal h)) i → Has (instances_of h) i × (place (instances_of (up_to_seal h)) i ≡ place (instances_of h) i)
cut_in h i k =
    let t = cut_front h in
    let is : instances_of (up_to_seal h) ++ instances_of t.0 ≡ instances_of h = sym (instances_append (up_to_seal h) t.0) ∙ ap instances_of t.1 in (
      subst (λ js. Has js i) is (has_left (instances_of (up_to_seal h)) (instances_of t.0) i k),
      sym (place-append_in (instances_of (up_to_seal h)) (instances_of t.0) i k) ∙ ap (λ js. place js i) is,
    )

pub cut_out : (h : List Operation) (i : ℕ) → (Has (instances_of (up_to_seal h)) i → ⊥) → length (instances_of (up_to_seal h)) ≤ place (instances_of h) i
cut_out h i n =
    let t = cut_front h in
    let is : instances_of (up_to_seal h) ++ instances_of t.0 ≡ instances_of h = sym (instances_append (up_to_seal h) t.0) ∙ ap instances_of t.1 in
    let p = place-append_out (instances_of (up_to_seal h)) (instances_of t.0) i n in
    subst (λ js. length (instances_of (up_to_seal h)) ≤ place js i) is (omega arith)

pub in_front : {X : Type 0} (xs ys : List X) (x : X) → In x xs → In x (xs ++ ys)
in_front [] ys x k = absurd k
in_front (y ∷ xs) ys x (inl e) = inl e
in_front (y ∷ xs) ys x (inr k) = inr (in_front xs ys x k)

pub cut_of : (h : List Operation) (o : Operation) → In o (up_to_seal h) → In o h
cut_of h o k = let t = cut_front h in subst (λ os. In o os) t.1 (in_front (up_to_seal h) t.0 o k)

pub once_front : (xs ys : List ℕ) → Once (xs ++ ys) → Once xs
once_front [] ys o = tt
once_front (x ∷ xs) ys o = ((λ h. o.0 (has_left xs ys x h)), once_front xs ys o.1)

pub once_cut : (h : List Operation) → Once (instances_of h) → Once (instances_of (up_to_seal h))
once_cut h o =
    let t = cut_front h in
    once_front (instances_of (up_to_seal h)) (instances_of t.0) (subst Once (sym (sym (instances_append (up_to_seal h) t.0) ∙ ap instances_of t.1)) o)

-- what stands up to the first seal stands before each seal, or is it
pub before_seals : (h : List Operation) (s : Operation) (j : ℕ) → Once (instances_of h) → In s h → is_seal s.command ≡ true → Has (instances_of (up_to_seal h)) j → place (instances_of h) j ≤ place (instances_of h) s.instance
before_seals [] s j once k e hj = absurd k
before_seals (o ∷ os) s j once k e hj = go (is_seal o.command) refl hj (before_seals os s j once.1)
  where
    go : (b : Bool) → is_seal o.command ≡ b → Has (o.instance ∷ instances_of (cond b [] (up_to_seal os))) j →
        (In s os → is_seal s.command ≡ true → Has (instances_of (up_to_seal os)) j → place (instances_of os) j ≤ place (instances_of os) s.instance) →
        place (o.instance ∷ instances_of os) j ≤ place (o.instance ∷ instances_of os) s.instance
    go true q h rec = elim (has_cons o.instance j [] h) [
      | inl is ↦ (let p = place_head o.instance (instances_of os) in let z : place (o.instance ∷ instances_of os) j ≡ 0 = ap (λ n. place (o.instance ∷ instances_of os) n) (sym is) ∙ p in omega arith)
      | inr none ↦ absurd (omega arith)
    ]
    go false q h rec = elim k [
      | inl is ↦ absurd (false≢true (sym q ∙ ap (λ (x : Operation). is_seal x.command) is ∙ e))
      | inr there ↦ elim (has_cons o.instance j (instances_of (up_to_seal os)) h) [
        | inl is ↦ (let p = place_head o.instance (instances_of os) in let z : place (o.instance ∷ instances_of os) j ≡ 0 = ap (λ n. place (o.instance ∷ instances_of os) n) (sym is) ∙ p in omega arith)
        | inr hj' ↦ (
            let le = rec there e hj' in
            elim (place_cons o.instance s.instance (instances_of os)) [
              | inl at ↦ absurd (once.0 (subst (λ n. Has (instances_of os) n) (sym at.0) (instance_in os s there)))
              | inr at ↦ elim (place_cons o.instance j (instances_of os)) [ inl aj ↦ omega arith | inr aj ↦ omega arith ]
            ])
      ]
    ]

pub find_seal : (h : List Operation) → has_seal h ≡ true → (s : Operation) × In s h × (is_seal s.command ≡ true)
find_seal [] e = absurd (false≢true e)
find_seal (o ∷ os) e = go (is_seal o.command) refl e (find_seal os)
  where
    go : (b : Bool) → is_seal o.command ≡ b → (b || has_seal os) ≡ true → (has_seal os ≡ true → (s : Operation) × In s os × (is_seal s.command ≡ true)) → (s : Operation) × In s (o ∷ os) × (is_seal s.command ≡ true)
    go true q h rec = (o, inl refl, q)
    go false q h rec = let r = rec h in (r.0, inr r.1, r.2)

-- Replies.

reported_open : (v : Option (List ℕ)) → reported v ≡ Closed → ⊥
reported_open None e = absurd (cc)
reported_open (Some v) e = absurd (cc)

read_open : (m : Contents) (c : Command) → read m c ≡ Closed → ⊥
read_open m Noop e = absurd (cc)
read_open m (Get k) e = reported_open _ e
read_open m (Put k v) e = reported_open _ e
read_open m (Del k) e = reported_open _ e
read_open m (Swap p) e = reported_open _ e
read_open m (Cas k x n) e = reported_open _ e
read_open m (Seal v) e = absurd (cc)
read_open m (Opaque q w) e = absurd (cc)
read_open m (Tx is) e = go (all_hold m is) e
  where
    go : (b : Bool) → cond b (Done (reply_values m is)) (Undone (reply_values m is)) ≡ Closed → ⊥
    go true h = absurd (cc)
    go false h = absurd (cc)

pub reads_open : (m : Contents) (os : List Operation) (p : ℕ) → get_or (read_by m os) p Absent ≡ Closed → ⊥
reads_open m [] p e = absurd (cc)
reads_open m (o ∷ os) zero e = read_open m o.command e
reads_open m (o ∷ os) (suc p) e = reads_open (written m o.command) os p e

pub length_reads : (m : Contents) (os : List Operation) → length (read_by m os) ≡ length os
length_reads m [] = refl
length_reads m (o ∷ os) = ap suc (length_reads (written m o.command) os)

-- up to the first seal, a map answers as if no seal would close it
pub cut_reply : (m : Contents) (h : List Operation) (p : ℕ) → p < length (instances_of (up_to_seal h)) → get_or (replies (opened m) (commands_of h)) p Absent ≡ get_or (read_by m (up_to_seal h)) p Absent
cut_reply m [] p lt = absurd (omega arith)
cut_reply m (o ∷ os) zero lt = refl
cut_reply m (o ∷ os) (suc p) lt = go (is_seal o.command) refl lt (cut_reply (written m o.command) os p)
  where
    go : (b : Bool) → is_seal o.command ≡ b → suc p < suc (length (instances_of (cond b [] (up_to_seal os)))) →
        (p < length (instances_of (up_to_seal os)) → get_or (replies (opened (written m o.command)) (commands_of os)) p Absent ≡ get_or (read_by (written m o.command) (up_to_seal os)) p Absent) →
        get_or (replies (after (opened m) o.command) (commands_of os)) p Absent ≡ get_or (read_by (written m o.command) (cond b [] (up_to_seal os))) p Absent
    go true q lt rec = absurd (omega arith)
    go false q lt rec = ap (λ s. get_or (replies s (commands_of os)) p Absent) (stays_open m o.command (not_seal o.command q)) ∙ rec (omega arith)

closed_reply : (m : Contents) (v : List ℕ) (os : List Operation) (p : ℕ) → AreReal os → p < length (instances_of os) → get_or (replies (map_of m (Some v)) (commands_of os)) p Absent ≡ Closed
closed_reply m v [] p r lt = absurd (omega arith)
closed_reply m v (o ∷ os) zero r lt = ap (λ b. cond b Absent Closed) r.0
closed_reply m v (o ∷ os) (suc p) r lt = closed_reply m v os p r.1 (omega arith)

-- and later ones find it closed
pub late_reply : (m : Contents) (h : List Operation) (p : ℕ) → AreReal h → length (instances_of (up_to_seal h)) ≤ p → p < length (instances_of h) → get_or (replies (opened m) (commands_of h)) p Absent ≡ Closed
late_reply m [] p r le lt = absurd (omega arith)
late_reply m (o ∷ os) zero r le lt = absurd (omega arith)
late_reply m (o ∷ os) (suc p) r le lt = go (is_seal o.command) refl le (late_reply (written m o.command) os p r.1)
  where
    go : (b : Bool) → is_seal o.command ≡ b → suc (length (instances_of (cond b [] (up_to_seal os)))) ≤ suc p →
        (length (instances_of (up_to_seal os)) ≤ p → p < length (instances_of os) → get_or (replies (opened (written m o.command)) (commands_of os)) p Absent ≡ Closed) →
        get_or (replies (after (opened m) o.command) (commands_of os)) p Absent ≡ Closed
    go true q le' rec =
        let v = seal_value o.command q in
        ap (λ s. get_or (replies s (commands_of os)) p Absent) (sealed_here m o.command v.0 v.1) ∙ closed_reply m v.0 os p r.1 (omega arith)
    go false q le' rec = ap (λ s. get_or (replies s (commands_of os)) p Absent) (stays_open m o.command (not_seal o.command q)) ∙ rec (omega arith) (omega arith)

pub written_both : (m : Contents) (xs ys : List Operation) → written_by m (xs ++ ys) ≡ written_by (written_by m xs) ys
written_both m [] ys = refl
written_both m (o ∷ xs) ys = written_both (written m o.command) xs ys

pub read_both : (m : Contents) (xs ys : List Operation) → read_by m (xs ++ ys) ≡ read_by m xs ++ read_by (written_by m xs) ys
read_both m [] ys = refl
read_both m (o ∷ xs) ys = ap (λ z. read m o.command ∷ z) (read_both (written m o.command) xs ys)
