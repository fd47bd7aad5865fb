-- Every life is linearizable, by one history through all its generations.
use Rattle.std.proofs.Common.{◌≡◌, ℕ, zero, suc, ◌+◌, ◌-◌, ◌<◌, ◌≤◌, Bool, true, false, cond, eqb, inl, inr, List, [], ◌∷◌, ◌++◌, length, refl, sym, ap, subst, ◌∙◌, arith, append-nil, append_assoc}
use Rattle.std.proofs.Math.Nat.{le-max_left, le-max_right}
use Rattle.std.proofs.lemmas.Bool.{cases_Bool, cases_order, false≢true, eq-eqb, eqb-true}
use Rattle.ep_base.specs.Instances.{leader_of}
use Rattle.ep_base.specs.Interference.{interfere}
use Rattle.ep_base.specs.Places.{place, Has}
use Rattle.ep_base.specs.Quorums.{size}
use Rattle.ep_base.specs.Commands.{Command}
use Rattle.ep_base.specs.declared.reply.Answer.{Answer}
use Rattle.ep_base.specs.declared.reply.Answer.TheVariants.{Replied}
use Rattle.ep_rules.specs.Closing.{has_seal, up_to_seal}
use Rattle.ep_rules.specs.Generations.{Turn, Opens, Steps, birth, IsLife, lived, acts_in, opening_map, history_in, Named, operations, joined, ages, one_history, place_in, HasIn, RespondsIn, IsLegalIn, WasProposedIn, PrecedesIn, IsOneHistory, LivesAreLinearizable}
use Rattle.ep_rules.specs.Linearizable.{Precedes, IsLinearizable}
use Rattle.ep_rules.specs.OneMap.{Contents, opened}
use Rattle.ep_rules.specs.Operations.{Operation, instances_of, history_of}
use Rattle.ep_rules.specs.Safety.{WasProposed}
use Rattle.ep_rules.specs.States.{free_number}
use Rattle.ep_rules.specs.Steps.{order_of}
use Rattle.ep_rules.specs.Worlds.{opening, In, Act, ends}
use Rattle.ep_rules.proofs.CutHistories.{real_history, cut_in, cut_of, in_front, before_seals, find_seal, reads_open}
use Rattle.ep_rules.proofs.JoinedHistories.{J_back, J_forth, ages_apart, member, once_J, legal_in}
use Rattle.ep_rules.proofs.Lives.{acts_both, life_parts, first_of, Kept, kept_at}
use Rattle.ep_rules.proofs.OnceDone.{from_once}
use Rattle.ep_rules.proofs.Places.{Once, same_refl}
use Rattle.ep_rules.proofs.RunHistories.{instance_in, history_grows_lem}
use Rattle.ep_rules.proofs.RunsLinear.{linearizability_holds, reported_lost, reported_from}
use Rattle.ep_rules.proofs.JournalsCallers.{in_has}

-- Turns and acts.

abbrev age : Turn → ℕ
age (Opens g r q) = 0
age (Steps g a) = g

abbrev act_or : Act → Turn → Act
act_or b (Opens g r q) = b
act_or b (Steps g a) = a

abbrev is_step : Turn → Bool
is_step (Opens g r q) = false
is_step (Steps g a) = true

pub in_acts : (g : ℕ) (a : Act) (ts : List Turn) → In (Steps g a) ts → In a (acts_in g ts)
in_acts g a [] k = absurd k
in_acts g a (Opens h r q ∷ ts) (inl e) = absurd (false≢true (ap is_step e))
in_acts g a (Opens h r q ∷ ts) (inr k) = in_acts g a ts k
in_acts g a (Steps h b ∷ ts) (inl e) = subst (λ t. In a (cond t (b ∷ acts_in g ts) (acts_in g ts))) (sym (eq-eqb h g (ap age e))) (inl (ap (act_or b) e))
in_acts g a (Steps h b ∷ ts) (inr k) = go (eqb h g) (in_acts g a ts k)
  where
    go : (t : Bool) → In a (acts_in g ts) → In a (cond t (b ∷ acts_in g ts) (acts_in g ts))
    go true k = inr k
    go false k = k

acts_back : (g : ℕ) (a : Act) (ts : List Turn) → In a (acts_in g ts) → In (Steps g a) ts
acts_back g a [] k = absurd k
acts_back g a (Opens h r q ∷ ts) k = inr (acts_back g a ts k)
acts_back g a (Steps h b ∷ ts) k = go (eqb h g) refl k (acts_back g a ts)
  where
    go : (t : Bool) → eqb h g ≡ t → In a (cond t (b ∷ acts_in g ts) (acts_in g ts)) → (In a (acts_in g ts) → In (Steps g a) ts) → In (Steps g a) (Steps h b ∷ ts)
    go true e (inl is) rec = inl (ap (λ n. Steps n b) (eqb-true h g e) ∙ ap (λ c. Steps g c) is)
    go true e (inr k) rec = inr (rec k)
    go false e k rec = inr (rec k)

step_now : (g : ℕ) (a : Act) (ts : List Turn) → acts_in g (Steps g a ∷ ts) ≡ a ∷ acts_in g ts
step_now g a ts = ap (λ b. cond b (a ∷ acts_in g ts) (acts_in g ts)) (same_refl g)

acts_through : (g : ℕ) (before : List Turn) (a : Act) (rest whole : List Turn) → before ++ (Steps g a ∷ rest) ≡ whole → acts_in g before ++ (a ∷ acts_in g rest) ≡ acts_in g whole
acts_through g before a rest whole e = ap (λ xs. acts_in g before ++ xs) (sym (step_now g a rest)) ∙ sym (acts_both g before (Steps g a ∷ rest)) ∙ ap (acts_in g) e

-- a generation's acts in two parts, and the turns that they are
pub record Parted (g : ℕ) (ts : List Turn) (b : List Act) (p : Act) : Type 0 where
  pub before : List Turn
  pub after : List Turn
  pub stands : before ++ (Steps g p ∷ after) ≡ ts
  pub is : acts_in g before ≡ b

no_first : {X : Type 0} (b : List Act) (p : Act) (c : List Act) → [] ≡ b ++ (p ∷ c) → X
no_first [] p c e = absurd (let n = ap length e in omega arith)
no_first (x ∷ b) p c e = absurd (let n = ap length e in omega arith)

abbrev head_or : Act → List Act → Act
head_or x [] = x
head_or x (y ∷ ys) = y

abbrev tail_of : List Act → List Act
tail_of [] = []
tail_of (y ∷ ys) = ys

parted : (g : ℕ) (ts : List Turn) (b : List Act) (p : Act) (c : List Act) → acts_in g ts ≡ b ++ (p ∷ c) → Parted g ts b p
parted g [] b p c e = no_first b p c e
parted g (Opens h r q ∷ ts) b p c e =
    let t = parted g ts b p c e in
    record { before = Opens h r q ∷ t.before; after = t.after; stands = ap (λ z. Opens h r q ∷ z) t.stands; is = t.is }
parted g (Steps h a ∷ ts) b p c e = go (eqb h g) refl b e (λ d. parted g ts d p c)
  where
    go : (t : Bool) → eqb h g ≡ t → (d : List Act) → cond t (a ∷ acts_in g ts) (acts_in g ts) ≡ d ++ (p ∷ c) → ((d : List Act) → acts_in g ts ≡ d ++ (p ∷ c) → Parted g ts d p) → Parted g (Steps h a ∷ ts) d p
    go true q [] is rec = record {
      before = [];
      after = ts;
      stands = ap (λ n. Steps n p ∷ ts) (sym (eqb-true h g q)) ∙ ap (λ x. Steps h x ∷ ts) (sym (ap (head_or a) is));
      is = refl;
    }
    go true q (x ∷ d) is rec =
        let t = rec d (ap tail_of is) in
        record {
          before = Steps h a ∷ t.before;
          after = t.after;
          stands = ap (λ z. Steps h a ∷ z) t.stands;
          is = ap (λ k. cond k (a ∷ acts_in g t.before) (acts_in g t.before)) q ∙ ap (λ z. z ∷ acts_in g t.before) (ap (head_or a) is) ∙ ap (λ z. x ∷ z) t.is;
        }
    go false q d is rec =
        let t = rec d is in
        record {
          before = Steps h a ∷ t.before;
          after = t.after;
          stands = ap (λ z. Steps h a ∷ z) t.stands;
          is = ap (λ k. cond k (a ∷ acts_in g t.before) (acts_in g t.before)) q ∙ t.is;
        }

aged : (g : ℕ) (a : Act) (ts : List Turn) → In (Steps g a) ts → g < ages ts
aged g a [] k = absurd k
aged g a (Opens h r q ∷ ts) (inl e) = absurd (false≢true (ap is_step e))
aged g a (Opens h r q ∷ ts) (inr k) = aged g a ts k
aged g a (Steps h b ∷ ts) (inl e) = let l = le-max_left (suc h) (ages ts) in let is : h ≡ g = ap age e in omega arith
aged g a (Steps h b ∷ ts) (inr k) = let l = le-max_right (suc h) (ages ts) in let r = aged g a ts k in omega arith

module _ (start : Contents) (f : ℕ → ℕ) (sizes : (g : ℕ) → (0 < f g) × (size (f g) ≤ 256)) (turns : List Turn) (life : IsLife f (birth start) turns) where
  abbrev base : ℕ → Contents
  base g = opening_map start f turns g

  abbrev h_of : ℕ → List Operation
  h_of g = history_in start f turns g

  abbrev cut : ℕ → List Operation
  cut g = up_to_seal (h_of g)

  abbrev J : ℕ → List Named
  J n = joined h_of n

  -- Each generation.

  kept : (before rest : List Turn) → before ++ rest ≡ turns → Kept start f sizes turns (lived f (birth start) before) (λ h. acts_in h before)
  kept before rest whole = kept_at start f sizes turns before rest whole life

  all : Kept start f sizes turns (lived f (birth start) turns) (λ h. acts_in h turns)
  all = kept turns [] (append-nil turns)

  lin : (g : ℕ) → IsLinearizable (opened (base g)) (f g) (acts_in g turns)
  lin g = linearizability_holds (opened (base g)) (f g) (sizes g).0 (sizes g).1 (acts_in g turns) (all.each g).run

  once_in : (g : ℕ) → Once (instances_of (h_of g))
  once_in g = from_once (instances_of (h_of g)) (lin g).once

  -- Answers.

  legal : (g : ℕ) (a : Act) (i : ℕ) (x : Answer) → In (Steps g a) turns → In (i, x) a.done → IsLegalIn start (J (ages turns)) g i x
  legal g a i x m k =
      legal_in h_of base start refl (ages turns) g i x (λ n l. refl) (aged g a turns m) (real_history (f g) (opening (opened (base g))) [] (acts_in g turns) tt) ((lin g).legal a i x (in_acts g a turns m) k)

  responds : (g i : ℕ) → HasIn (J (ages turns)) g i → RespondsIn turns g i
  responds g i hj =
      let c = (J_back h_of (ages turns) g i hj).1 in
      let t = ((lin g).complete i).0 (cut_in (h_of g) i c).0 in
      let m : In (Steps g t.0) turns = acts_back g t.0 turns t.2 in (
        t.0,
        t.1,
        m,
        t.3,
        λ e. elim (legal g t.0 i (Replied t.1) m t.3) [
          | inl none ↦ none.0 hj
          | inr reported ↦ reads_open start (operations (J (ages turns))) (place_in (J (ages turns)) g i) (sym (reported_from _ _ reported.1) ∙ e)
        ],
      )

  responded : (g i : ℕ) → RespondsIn turns g i → HasIn (J (ages turns)) g i
  responded g i t = elim (legal g t.0 i (Replied t.1) t.2 t.3) [
    | inl none ↦ elim none.1 [ inl lost ↦ reported_lost t.1 lost | inr shut ↦ absurd (t.4 (reported_from _ _ shut)) ]
    | inr reported ↦ reported.0
  ]

  -- Proposals.

  -- a proposal's replica, as its generation's run knows it
  same_free : (g i : ℕ) (before rest : List Turn) (p : Act) (whole : before ++ (Steps g p ∷ rest) ≡ turns) → p.replica ≡ leader_of i →
      ((lived f (birth start) before).worlds g).states (leader_of i) ≡ (ends (f g) (first_of start f sizes turns g) (acts_in g before)).states (leader_of i)
  same_free g i before rest p whole is =
      let turn = (life_parts f before (Steps g p ∷ rest) (birth start) (subst (λ ts. IsLife f (birth start) ts) (sym whole) life)).1.0 in
      ((kept before (Steps g p ∷ rest) whole).each g).same (leader_of i) (subst (λ r. (lived f (birth start) before).has_opened g r ≡ true) is turn.0)

  to_proposed : (ts more : List Turn) → ts ++ more ≡ turns → (g i : ℕ) (c : Command) → WasProposed (opened (base g)) (f g) (acts_in g ts) i c → WasProposedIn start f ts g i c
  to_proposed ts more whole g i c p =
      let t : Parted g ts p.before p.proposal = parted g ts p.before p.proposal p.after (sym p.stands) in
      let through : t.before ++ (Steps g p.proposal ∷ (t.after ++ more)) ≡ turns = sym (append_assoc t.before (Steps g p.proposal ∷ t.after) more) ∙ ap (λ z. z ++ more) t.stands ∙ whole in
      let same = same_free g i t.before (t.after ++ more) p.proposal through p.replica in
      record {
        before = t.before;
        proposal = p.proposal;
        after = t.after;
        stands = t.stands;
        replica = p.replica;
        client = p.client;
        request = p.request;
        seen = p.seen;
        spared = p.spared;
        event = p.event;
        number = p.number;
        free = ap (λ s. free_number s.records (leader_of i)) same ∙ ap (λ acts. free_number ((ends (f g) (first_of start f sizes turns g) acts).states (leader_of i)).records (leader_of i)) t.is ∙ p.free;
        instance = p.instance;
      }

  from_proposed : (g i : ℕ) (c : Command) (p : WasProposedIn start f turns g i c) → (q : WasProposed (opened (base g)) (f g) (acts_in g turns) i c) × (q.before ≡ acts_in g p.before)
  from_proposed g i c p = (
    record {
      before = acts_in g p.before;
      proposal = p.proposal;
      after = acts_in g p.after;
      stands = acts_through g p.before p.proposal p.after turns p.stands;
      replica = p.replica;
      client = p.client;
      request = p.request;
      seen = p.seen;
      spared = p.spared;
      event = p.event;
      number = p.number;
      free = ap (λ s. free_number s.records (leader_of i)) (sym (same_free g i p.before p.after p.proposal p.stands p.replica)) ∙ p.free;
      instance = p.instance;
    },
    refl,
  )

  proposed : (o : Named) (before rest : List Turn) (a : Act) → In o (J (ages turns)) → before ++ (Steps o.generation a ∷ rest) ≡ turns → Has (order_of a.done) o.operation.instance →
      WasProposedIn start f before o.generation o.operation.instance o.operation.command
  proposed o before rest a m whole k =
      let g : ℕ = o.generation in
      to_proposed before (Steps g a ∷ rest) whole g o.operation.instance o.operation.command
      ((lin g).proposed o.operation (acts_in g before) (acts_in g rest) a (cut_of (h_of g) o.operation (member h_of (ages turns) o m).1) (acts_through g before a rest turns whole) k)

  -- Real time.

  -- where a later generation has steps, a seal of this one was executed
  abbrev pub so_far : ℕ → List Turn → List Operation
  so_far g before = history_of (opened (base g)) (f g) (acts_in g before)

  some_act : (g : ℕ) (acts : List Act) → has_seal (history_of (opened (base g)) (f g) acts) ≡ true → (a : Act) × In a acts
  some_act g [] e = absurd (false≢true e)
  some_act g (a ∷ acts) e = (a, inl refl)

  pub sealed_before : (before rest : List Turn) → before ++ rest ≡ turns → (k d g : ℕ) → g ≡ suc (d + k) → (a : Act) → In a (acts_in g before) → has_seal (so_far k before) ≡ true
  sealed_before before rest whole k zero g is a m =
      let e : g ≡ suc k = omega arith in
      (kept before rest whole).acted k a (subst (λ n. In a (acts_in n before)) e m)
  sealed_before before rest whole k (suc d) g is a m =
      let e : g ≡ suc (suc (d + k)) = omega arith in
      let s = (kept before rest whole).acted (suc (d + k)) a (subst (λ n. In a (acts_in n before)) e m) in
      let b = some_act (suc (d + k)) (acts_in (suc (d + k)) before) s in
      sealed_before before rest whole k d (suc (d + k)) refl b.0 b.1

  too_late : (g i k j : ℕ) → k < g → HasIn (J (ages turns)) k j → PrecedesIn start f turns g i k j → ⊥
  too_late g i k j lt hj p =
      let before : List Turn = p.proposed.before in
      let rest : List Turn = Steps k p.proposed.proposal ∷ p.proposed.after in
      let whole : before ++ rest ≡ turns = p.proposed.stands in
      let d : ℕ = g - suc k in
      let is : g ≡ suc (d + k) = omega arith in
      let shut : has_seal (so_far k before) ≡ true = sealed_before before rest whole k d g is p.act (in_acts g p.act before p.earlier) in
      let s = find_seal (so_far k before) shut in
      let early = linearizability_holds (opened (base k)) (f k) (sizes k).0 (sizes k).1 (acts_in k before) ((kept before rest whole).each k).run in
      let t = (early.complete s.0.instance).0 (instance_in (so_far k before) s.0 s.1) in
      let grown = history_grows_lem (opened (base k)) (f k) (acts_in k before) (acts_in k rest) in
      let longer : h_of k ≡ so_far k before ++ grown.0 = ap (λ acts. history_of (opened (base k)) (f k) acts) (sym (sym (acts_both k before rest) ∙ ap (acts_in k) whole)) ∙ grown.1 in
      let there : In s.0 (h_of k) = subst (λ os. In s.0 os) (sym longer) (in_front (so_far k before) grown.0 s.0 s.1) in
      let c : Has (instances_of (cut k)) j = (J_back h_of (ages turns) k j hj).1 in
      let inside = cut_in (h_of k) j c in
      let q = from_proposed k j p.command p.proposed in
      let precedes : Precedes (opened (base k)) (f k) (acts_in k turns) s.0.instance j = record {
        command = p.command;
        proposed = q.0;
        act = t.0;
        earlier = subst (λ acts. In t.0 acts) (sym q.1) t.2;
        executed = in_has t.0.done s.0.instance (Replied t.1) t.3;
      } in
      let after = (lin k).real_time s.0.instance j (instance_in (h_of k) s.0 there) inside.0 precedes in
      let le = before_seals (h_of k) s.0 j (once_in k) there s.2 c in
      omega arith

  same_age : (g i j : ℕ) → HasIn (J (ages turns)) g i → HasIn (J (ages turns)) g j → PrecedesIn start f turns g i g j → place_in (J (ages turns)) g i < place_in (J (ages turns)) g j
  same_age g i j hi hj p =
      let a = J_back h_of (ages turns) g i hi in
      let b = J_back h_of (ages turns) g j hj in
      let x = cut_in (h_of g) i a.1 in
      let y = cut_in (h_of g) j b.1 in
      let q = from_proposed g j p.command p.proposed in
      let precedes : Precedes (opened (base g)) (f g) (acts_in g turns) i j = record {
        command = p.command;
        proposed = q.0;
        act = p.act;
        earlier = subst (λ acts. In p.act acts) (sym q.1) (in_acts g p.act p.proposed.before p.earlier);
        executed = p.executed;
      } in
      let lt = (lin g).real_time i j x.0 y.0 precedes in
      let u = a.2 in
      let v = b.2 in
      let xs = x.1 in
      let ys = y.1 in
      omega arith

  real_time : (g i k j : ℕ) → HasIn (J (ages turns)) g i → HasIn (J (ages turns)) k j → PrecedesIn start f turns g i k j → place_in (J (ages turns)) g i < place_in (J (ages turns)) k j
  real_time g i k j hi hj p = elim (cases_order g k) [
    | inl is ↦ subst (λ z. place_in (J (ages turns)) g i < place_in (J (ages turns)) z j) is
        (same_age g i j hi (subst (λ z. HasIn (J (ages turns)) z j) (sym is) hj) (subst (λ z. PrecedesIn start f turns g i z j) (sym is) p))
    | inr (inl lt) ↦ ages_apart h_of (ages turns) g i k j hi hj lt
    | inr (inr gt) ↦ absurd (too_late g i k j gt hj p)
  ]

  -- At each replica.

  everywhere : (r : ℕ) (o p : Named) → In o (J (ages turns)) → In p (J (ages turns)) → o.generation ≡ p.generation → interfere o.operation.command p.operation.command ≡ true →
      place_in (J (ages turns)) o.generation o.operation.instance < place_in (J (ages turns)) p.generation p.operation.instance →
      Has (((lived f (birth start) turns).worlds p.generation).states r).executed p.operation.instance →
      place (((lived f (birth start) turns).worlds p.generation).states r).executed o.operation.instance < place (((lived f (birth start) turns).worlds p.generation).states r).executed p.operation.instance
  everywhere r o p mo mp same meet lt k =
      let g : ℕ = p.generation in
      let i : ℕ = o.operation.instance in
      let j : ℕ = p.operation.instance in
      let ino : In o.operation (cut g) = subst (λ z. In o.operation (cut z)) same (member h_of (ages turns) o mo).1 in
      let inp : In p.operation (cut g) = (member h_of (ages turns) p mp).1 in
      let hi : Has (instances_of (cut g)) i = instance_in (cut g) o.operation ino in
      let hj : Has (instances_of (cut g)) j = instance_in (cut g) p.operation inp in
      let a = J_back h_of (ages turns) g i (J_forth h_of (ages turns) g i (member h_of (ages turns) p mp).0 hi) in
      let b = J_back h_of (ages turns) g j (J_forth h_of (ages turns) g j (member h_of (ages turns) p mp).0 hj) in
      let x = cut_in (h_of g) i hi in
      let y = cut_in (h_of g) j hj in
      let lt' : place_in (J (ages turns)) g i < place_in (J (ages turns)) g j = subst (λ z. place_in (J (ages turns)) z i < place_in (J (ages turns)) g j) same lt in
      let before : place (instances_of (h_of g)) i < place (instances_of (h_of g)) j = (let u = a.2 in let v = b.2 in let xs = x.1 in let ys = y.1 in omega arith) in
      elim (cases_Bool ((lived f (birth start) turns).has_opened g r)) [
        | inl yes' ↦ (
            let own = (all.each g).same r yes' in
            subst (λ s. place s.executed i < place s.executed j) (sym own)
            ((lin g).everywhere r o.operation p.operation (cut_of (h_of g) o.operation ino) (cut_of (h_of g) p.operation inp) meet before (subst (λ s. Has s.executed j) own k)))
        | inr not_yet ↦ absurd (let none : Has [] j = subst (λ xs. Has xs j) ((all.each g).idle r not_yet) k in omega arith)
      ]

  lives : IsOneHistory start f turns (one_history start f turns)
  lives = record {
    once = once_J h_of (ages turns) (λ g lt. once_in g);
    complete = λ g i. (responds g i, responded g i);
    proposed = proposed;
    legal = legal;
    real_time = real_time;
    ages_rise = ages_apart h_of (ages turns);
    everywhere = everywhere;
  }

pub lives_are_linearizable_lem : LivesAreLinearizable
lives_are_linearizable_lem start f sizes turns life = lives start f sizes turns life
