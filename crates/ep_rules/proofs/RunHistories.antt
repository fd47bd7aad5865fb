-- The history of a run is that of its replicas' executions.
use Rattle.std.proofs.Common.{◌≡◌, ℕ, Bool, true, false, cond, inl, inr, Option, List, [], ◌∷◌, ◌++◌, length, map, refl, sym, ap, subst, ◌∙◌, arith, append-nil, append_assoc}
use Rattle.std.proofs.lemmas.Bool.{le-leb, lt-leb}
use Rattle.std.proofs.lemmas.List.Elements.{filter-append}
use Rattle.std.specs.List.{filter}
use Rattle.ep_base.specs.Places.{place, Has}
use Rattle.ep_base.specs.Sameness.{is_noop}
use Rattle.ep_base.specs.Commands.{Command}
use Rattle.ep_base.specs.declared.decree.Decree.{Decree}
use Rattle.ep_rules.specs.History.{is_new, merged}
use Rattle.ep_rules.specs.Linearizable.{HistoryGrows}
use Rattle.ep_rules.specs.Operations.{Operation, instances_of, commands_of, operations_of, executed_by, new_to, history_after, history_of}
use Rattle.ep_rules.specs.States.{command_in}
use Rattle.ep_rules.specs.Steps.{order_of}
use Rattle.ep_rules.specs.Worlds.{World, opening, Act, In, moved, IsRun, ends}
use Rattle.ep_rules.proofs.JournalsExecutions.{executions, Known, reported, same_commands, known_next}
use Rattle.ep_rules.proofs.JournalsReplies.{merged_step}
use Rattle.ep_rules.proofs.Places.{has_or, not_has, place_head, has_tail, filter_has, has_filter}
use Rattle.ep_rules.proofs.Answered.{is_real}
use Rattle.ep_rules.specs.OneMap.{Store}

-- Operations whose commands c gives.

abbrev pub AreOf : (ℕ → Command) → List Operation → Type 0
AreOf c [] = Unit {0}
AreOf c (o ∷ os) = (o.command ≡ c o.instance) × AreOf c os

of_append : (c : ℕ → Command) (xs ys : List Operation) → AreOf c xs → AreOf c ys → AreOf c (xs ++ ys)
of_append c [] ys x y = y
of_append c (o ∷ xs) ys x y = (x.0, of_append c xs ys x.1 y)

of_filter : (c : ℕ → Command) (p : Operation → Bool) (xs : List Operation) → AreOf c xs → AreOf c (filter p xs)
of_filter c p [] x = tt
of_filter c p (o ∷ xs) x = go (p o) (of_filter c p xs x.1)
  where
    go : (b : Bool) → AreOf c (filter p xs) → AreOf c (cond b (o ∷ filter p xs) (filter p xs))
    go true r = (x.0, r)
    go false r = r

of_operations : (c d : ℕ → Command) (is : List ℕ) → ((i : ℕ) → Has is i → d i ≡ c i) → AreOf c (operations_of d is)
of_operations c d [] same = tt
of_operations c d (i ∷ is) same = go (is_noop (d i)) (of_operations c d is (λ j k. same j (has_tail i j is k)))
  where
    go : (b : Bool) → AreOf c (operations_of d is) → AreOf c (cond b (operations_of d is) (record { instance = i; command = d i } ∷ operations_of d is))
    go true r = r
    go false r = (same i (let e = place_head i is in omega arith), r)

pub commands_are : (c : ℕ → Command) (h : List Operation) → AreOf c h → commands_of h ≡ map c (instances_of h)
commands_are c [] x = refl
commands_are c (o ∷ h) x = ap (λ d. d ∷ commands_of h) x.0 ∙ ap (λ cs. c o.instance ∷ cs) (commands_are c h x.1)

pub command_is : (c : ℕ → Command) (h : List Operation) (o : Operation) → AreOf c h → In o h → o.command ≡ c o.instance
command_is c [] o x k = absurd k
command_is c (p ∷ h) o x (inl e) = subst (λ (z : Operation). z.command ≡ c z.instance) e x.0
command_is c (p ∷ h) o x (inr k) = command_is c h o x.1 k

pub instance_in : (h : List Operation) (o : Operation) → In o h → Has (instances_of h) o.instance
instance_in [] o k = absurd k
instance_in (p ∷ h) o (inl e) = subst (λ (z : Operation). Has (p.instance ∷ instances_of h) z.instance) e (let l = place_head p.instance (instances_of h) in omega arith)
instance_in (p ∷ h) o (inr k) = has_tail p.instance o.instance (instances_of h) (instance_in h o k)

-- Their instances.

pub instances_append : (xs ys : List Operation) → instances_of (xs ++ ys) ≡ instances_of xs ++ instances_of ys
instances_append [] ys = refl
instances_append (o ∷ xs) ys = ap (λ is. o.instance ∷ is) (instances_append xs ys)

instances_filter : (p : ℕ → Bool) (os : List Operation) → instances_of (filter (λ o. p o.instance) os) ≡ filter p (instances_of os)
instances_filter p [] = refl
instances_filter p (o ∷ os) = go (p o.instance) (instances_filter p os)
  where
    go : (b : Bool) → instances_of (filter (λ o. p o.instance) os) ≡ filter p (instances_of os) →
        instances_of (cond b (o ∷ filter (λ o. p o.instance) os) (filter (λ o. p o.instance) os)) ≡ cond b (o.instance ∷ filter p (instances_of os)) (filter p (instances_of os))
    go true r = ap (λ is. o.instance ∷ is) r
    go false r = r

-- the instances of operations are those that are no no-ops
pub instances_real : (c d : ℕ → Command) (is : List ℕ) → ((i : ℕ) → Has is i → d i ≡ c i) → instances_of (operations_of d is) ≡ filter (is_real c) is
instances_real c d [] same = refl
instances_real c d (i ∷ is) same =
    ap (λ b. instances_of (cond b (operations_of d is) (record { instance = i; command = d i } ∷ operations_of d is))) (ap is_noop (same i (let e = place_head i is in omega arith)))
    ∙ go (is_noop (c i)) (instances_real c d is (λ j k. same j (has_tail i j is k)))
  where
    go : (b : Bool) → instances_of (operations_of d is) ≡ filter (is_real c) is →
        instances_of (cond b (operations_of d is) (record { instance = i; command = d i } ∷ operations_of d is)) ≡ cond (cond b false true) (i ∷ filter (is_real c) is) (filter (is_real c) is)
    go true r = r
    go false r = ap (λ js. i ∷ js) r

-- what passes is new to a list where it is new to those of it that pass
new_same : (p : ℕ → Bool) (seen : List ℕ) (i : ℕ) → p i ≡ true → is_new (filter p seen) i ≡ is_new seen i
new_same p seen i e = elim (has_or seen i) [
  | inl k ↦ lt-leb (length (filter p seen)) (place (filter p seen) i) (filter_has p seen i e k) ∙ sym (lt-leb (length seen) (place seen i) k)
  | inr n ↦ (
      let there = not_has seen i n in
      let not_there = not_has (filter p seen) i (λ k. n (has_filter p seen i k).0) in
      le-leb (length (filter p seen)) (place (filter p seen) i) (omega arith) ∙ sym (le-leb (length seen) (place seen i) (omega arith)))
]

new_filter : (p : ℕ → Bool) (seen is : List ℕ) → filter (is_new (filter p seen)) (filter p is) ≡ filter p (filter (is_new seen) is)
new_filter p seen [] = refl
new_filter p seen (i ∷ is) = go (p i) (is_new seen i) refl refl (new_filter p seen is)
  where
    go : (b t : Bool) → p i ≡ b → is_new seen i ≡ t → filter (is_new (filter p seen)) (filter p is) ≡ filter p (filter (is_new seen) is) →
        filter (is_new (filter p seen)) (cond b (i ∷ filter p is) (filter p is)) ≡ filter p (cond t (i ∷ filter (is_new seen) is) (filter (is_new seen) is))
    go false false pe ne r = r
    go false true pe ne r = r ∙ sym (ap (λ b. cond b (i ∷ filter p (filter (is_new seen) is)) (filter p (filter (is_new seen) is))) pe)
    go true false pe ne r =
        ap (λ b. cond b (i ∷ filter (is_new (filter p seen)) (filter p is)) (filter (is_new (filter p seen)) (filter p is))) (new_same p seen i pe ∙ ne) ∙ r
    go true true pe ne r =
        ap (λ b. cond b (i ∷ filter (is_new (filter p seen)) (filter p is)) (filter (is_new (filter p seen)) (filter p is))) (new_same p seen i pe ∙ ne)
        ∙ ap (λ js. i ∷ js) r
        ∙ sym (ap (λ b. cond b (i ∷ filter p (filter (is_new seen) is)) (filter p (filter (is_new seen) is))) pe)

-- one act more
module _ (c d : ℕ → Command) (h : List Operation) (seen is : List ℕ) (same : (i : ℕ) → Has is i → d i ≡ c i) where
  one_more : instances_of h ≡ filter (is_real c) seen → instances_of (h ++ new_to h (operations_of d is)) ≡ filter (is_real c) (seen ++ filter (is_new seen) is)
  one_more e =
      instances_append h (new_to h (operations_of d is))
      ∙ ap (λ js. instances_of h ++ js) (instances_filter (is_new (instances_of h)) (operations_of d is))
      ∙ ap (λ js. instances_of h ++ filter (is_new (instances_of h)) js) (instances_real c d is same)
      ∙ ap (λ js. js ++ filter (is_new js) (filter (is_real c) is)) e
      ∙ ap (λ js. filter (is_real c) seen ++ js) (new_filter (is_real c) seen is)
      ∙ sym (filter-append (is_real c) seen (filter (is_new seen) is))

  of_more : AreOf c h → AreOf c (h ++ new_to h (operations_of d is))
  of_more x = of_append c h (new_to h (operations_of d is)) x (of_filter c (λ o. is_new (instances_of h) o.instance) (operations_of d is) (of_operations c d is same))

-- The history only grows.

after_both : (f : ℕ) (early late : List Act) (w : World) (h : List Operation) → history_after f w h (early ++ late) ≡ history_after f (ends f w early) (history_after f w h early) late
after_both f [] late w h = refl
after_both f (a ∷ early) late w h = after_both f early late (moved f w a) (h ++ new_to h (executed_by w a))

after_grows : (f : ℕ) (these : List Act) (w : World) (h : List Operation) → (more : List Operation) × (history_after f w h these ≡ h ++ more)
after_grows f [] w h = ([], sym (append-nil h))
after_grows f (a ∷ these) w h =
    let t = after_grows f these (moved f w a) (h ++ new_to h (executed_by w a)) in
    (new_to h (executed_by w a) ++ t.0, t.1 ∙ append_assoc h (new_to h (executed_by w a)) t.0)

pub history_grows_lem : HistoryGrows
history_grows_lem base f early late =
    let t = after_grows f late (ends f (opening base) early) (history_of base f early) in
    (t.0, after_both f early late (opening base) [] ∙ t.1)

-- The history that acts make.
module _ (base : Store) (f : ℕ) (all : ℕ → Option Decree) where
  pub record IsHistory (h : List Operation) (seen : List ℕ) : Type 0 where
    pub instances : instances_of h ≡ filter (is_real (reported base f all)) seen
    pub commands : AreOf (reported base f all) h

  pub history_is : (these : List Act) (w : World) (h : List Operation) (seen : List ℕ) → IsRun f w these → Known base f all w these → IsHistory h seen →
      IsHistory (history_after f w h these) (merged seen (executions f w these))
  history_is [] w h seen run known is = is
  history_is (a ∷ these) w h seen run known is =
      let same : (i : ℕ) → Has (order_of a.done) i → command_in (w.states a.replica).records i ≡ reported base f all i = same_commands base f all w a these known run.0.step.executes in
      let d : ℕ → Command = command_in (w.states a.replica).records in
      let next : IsHistory (h ++ new_to h (executed_by w a)) (seen ++ filter (is_new seen) (order_of a.done)) = record {
        instances = one_more (reported base f all) d h seen (order_of a.done) same is.instances;
        commands = of_more (reported base f all) d h seen (order_of a.done) same is.commands;
      } in
      subst (λ m. IsHistory (history_after f (moved f w a) (h ++ new_to h (executed_by w a)) these) m) (sym (merged_step f w a seen (executions f (moved f w a) these) a.event run.0.step.executes))
      (history_is these (moved f w a) (h ++ new_to h (executed_by w a)) (seen ++ filter (is_new seen) (order_of a.done)) run.1 (known_next base f all w a these known) next)
