-- Reads in a generation of a life are reads in the run that the generation is.
use Rattle.std.proofs.Common.{◌≡◌, ℕ, zero, suc, ◌+◌, ◌-◌, ◌<◌, ◌≤◌, Bool, true, false, cond, ◌||◌, inl, inr, Some, is_some, List, [], ◌∷◌, ◌++◌, length, take, drop, refl, sym, ap, subst, ◌∙◌, arith, length-append}
use Rattle.std.proofs.Math.Seq.{take-append_seam, take-append-add}
use Rattle.std.proofs.lemmas.Bool.{cases_Bool, false≢true}
use Rattle.std.proofs.lemmas.List.{take-append-drop}
use Rattle.ep_base.specs.Commands.{Command}
use Rattle.ep_base.specs.Interference.{is_seal, only_reads}
use Rattle.ep_base.specs.Places.{Has}
use Rattle.ep_base.specs.Quorums.{size}
use Rattle.ep_base.specs.Sameness.{is_noop}
use Rattle.ep_base.specs.declared.reply.Reply.{Reply}
use Rattle.ep_base.specs.declared.reply.Reply.TheVariants.{Absent, Closed}
use Rattle.ep_rules.specs.Closing.{has_seal, up_to_seal, first_seal, written_by}
use Rattle.ep_rules.specs.Generations.{Turn, birth, IsLife, acts_in, opening_map, history_in, operations, named, joined}
use Rattle.ep_rules.specs.OneMap.{Contents, read, sealed_by, Store, opened, reply, after_commands}
use Rattle.ep_rules.specs.Operations.{Operation, commands_of, history_of}
use Rattle.ep_rules.specs.States.{State}
use Rattle.ep_rules.specs.Worlds.{opening, Act, IsRun, ends}
use Rattle.ep_rules.proofs.Closings.{seal_closes_lem, open_without}
use Rattle.ep_rules.proofs.Commuting.{seal_value}
use Rattle.ep_rules.proofs.Counting.{count_le}
use Rattle.ep_rules.proofs.CutHistories.{written_both}
use Rattle.ep_rules.proofs.Lives.{Kept, kept_at, acts_both, seal_more}
use Rattle.ep_rules.proofs.NamedPlaces.{operations_named, operations_both}
use Rattle.ep_rules.proofs.RunHistories.{history_grows_lem}
use Rattle.std.specs.Option.{option_map}
use Rattle.ep_laws.proofs.Mapped.{mapped_is, mapped_back}
use Rattle.ep_laws.specs.Reads.{found, world_at, Read, IsRead}
use Rattle.ep_laws.specs.LifeReads.{life_at, state_at, IsLifeRead, life_reply, history_to, IsRightOrClosed, LifeReadsAreLinearizable}
use Rattle.ep_laws.proofs.Fronts.{between}
use Rattle.ep_laws.proofs.Reading.{reader_real, reads_are_linearizable_lem}

-- What a closed map replies.

sealed_first : (h : List Operation) → has_seal h ≡ true → (v : List ℕ) × (first_seal h ≡ Some v)
sealed_first [] e = absurd (false≢true e)
sealed_first (o ∷ os) e = go (is_seal o.command) refl e (sealed_first os)
  where
    go : (b : Bool) → is_seal o.command ≡ b → (b || has_seal os) ≡ true → (has_seal os ≡ true → (v : List ℕ) × (first_seal os ≡ Some v)) → (v : List ℕ) × (cond b (sealed_by o.command) (first_seal os) ≡ Some v)
    go true s h rec = let v = seal_value o.command s in (v.0, ap sealed_by v.1)
    go false s h rec = rec h

says_closed : (m : Contents) (v : List ℕ) (c : Command) → is_noop c ≡ false → reply (record { contents = m; seal = Some v }) c ≡ Closed
says_closed m v c e = ap (λ b. cond b Absent Closed) e

closed_reply : (m : Contents) (h : List Operation) (c : Command) → is_noop c ≡ false → has_seal h ≡ true → reply (after_commands (opened m) (commands_of h)) c ≡ Closed
closed_reply m h c real e =
    let v = sealed_first h e in
    ap (λ s. reply s c) (seal_closes_lem m h e)
    ∙ ap (λ o. reply (record { contents = written_by m (up_to_seal h); seal = o }) c) v.1
    ∙ says_closed (written_by m (up_to_seal h)) v.0 c real

module _ (start : Contents) (f : ℕ → ℕ) (sizes : (g : ℕ) → (0 < f g) × (size (f g) ≤ 256)) (turns : List Turn) (life : IsLife f (birth start) turns) where
  -- the map with which a generation opens is what the generations before it have written
  opening_is : (g : ℕ) → opening_map start f turns g ≡ written_by start (operations (joined (history_in start f turns) g))
  opening_is zero = refl
  opening_is (suc g) =
      let cut : List Operation = up_to_seal (history_in start f turns g) in
      let before = joined (history_in start f turns) g in
      ap (λ m. written_by m cut) (opening_is g)
      ∙ sym (written_both start (operations before) cut)
      ∙ ap (λ os. written_by start (operations before ++ os)) (sym (operations_named g cut))
      ∙ ap (written_by start) (sym (operations_both before (named g cut)))

  module _ (g : ℕ) where
    abbrev pub base : Store
    base = opened (opening_map start f turns g)

    abbrev pub acts : List Act
    acts = acts_in g turns

    -- how many of the generation's acts are done at a point of the life
    abbrev pub A : ℕ → ℕ
    A n = length (acts_in g (take n turns))

    pub part : (n : ℕ) → take (A n) acts ≡ acts_in g (take n turns)
    part n =
        ap (take (length (acts_in g (take n turns)))) (sym (sym (acts_both g (take n turns) (drop n turns)) ∙ ap (acts_in g) (take-append-drop n turns)))
        ∙ take-append_seam (acts_in g (take n turns)) (acts_in g (drop n turns))

    pub rises : (a n : ℕ) → a ≤ n → A a ≤ A n
    rises a n le =
        let m = between a n turns le in
        let e : length (acts_in g (take n turns)) ≡ length (acts_in g (take a turns)) + length (acts_in g m.0) =
        ap (λ ts. length (acts_in g ts)) (sym m.1) ∙ ap length (acts_both g (take a turns) m.0) ∙ length-append (acts_in g (take a turns)) (acts_in g m.0) in
        omega arith

    pub kept : (n : ℕ) → Kept start f sizes turns (life_at start f turns n) (λ h. acts_in h (take n turns))
    kept n = kept_at start f sizes turns (take n turns) (drop n turns) (take-append-drop n turns) life

    -- who has opened the generation has there the state that its run leaves
    same_state : (n q : ℕ) → (life_at start f turns n).has_opened g q ≡ true → state_at start f turns g n q ≡ (world_at base (f g) acts (A n)).states q
    same_state n q o = ((kept n).each g).same q o ∙ ap (λ these. (ends (f g) (opening base) these).states q) (sym (part n))

    pub run : IsRun (f g) (opening base) acts
    run = ((kept_at start f sizes turns turns [] (Rattle.std.proofs.lemmas.List.append-nil turns) life).each g).run

    pub same_history : (n : ℕ) → history_of base (f g) (take (A n) acts) ≡ history_to start f turns g n
    same_history n = ap (history_of base (f g)) (part n)

    -- a seal that was executed by some point stands among the first p operations, if all that were executed by then do
    pub sealed_then : (a p : ℕ) → length (history_to start f turns g a) ≤ p → has_seal (history_to start f turns g a) ≡ true → has_seal (take p (history_in start f turns g)) ≡ true
    sealed_then a p le e =
        let early : List Operation = history_to start f turns g a in
        let t = history_grows_lem base (f g) (acts_in g (take a turns)) (acts_in g (drop a turns)) in
        let whole : history_in start f turns g ≡ early ++ t.0 = ap (history_of base (f g)) (sym (sym (acts_both g (take a turns) (drop a turns)) ∙ ap (acts_in g) (take-append-drop a turns))) ∙ t.1 in
        let k : ℕ = p - length early in
        let is : p ≡ length early + k = omega arith in
        subst (λ os. has_seal os ≡ true) (sym (ap (take p) whole ∙ ap (λ n. take n (early ++ t.0)) is ∙ take-append-add early t.0 k)) (seal_more early (take k t.0) e)

    -- nobody had opened the next generation at a point whose operations are before the place, and have no seal
    unopened : (a p : ℕ) → length (history_to start f turns g a) ≤ p → has_seal (take p (history_in start f turns g)) ≡ false → (q : ℕ) → (life_at start f turns a).has_opened (suc g) q ≡ false
    unopened a p le e q = elim (cases_Bool ((life_at start f turns a).has_opened (suc g) q)) [
      | inr n ↦ n
      | inl o ↦ absurd (false≢true (sym e ∙ sealed_then a p le ((kept a).sealed g q o)))
    ]

    open_reply : (c : Command) (p : ℕ) → has_seal (take p (history_in start f turns g)) ≡ false → reply (after_commands base (commands_of (take p (history_in start f turns g)))) c ≡
        read (written_by start (operations (joined (history_in start f turns) g) ++ take p (history_in start f turns g))) c
    open_reply c p e =
        let first : List Operation = take p (history_in start f turns g) in
        ap (λ s. reply s c) (open_without (opening_map start f turns g) first e)
        ∙ ap (λ m. read (written_by m first) c) (opening_is g)
        ∙ ap (λ m. read m c) (sym (written_both start (operations (joined (history_in start f turns) g)) first))

    -- what one map of the generation replies behind p of its operations, among which all are that were executed at the point a
    pub right_or_closed : (c : Command) (y : Reply) (a p : ℕ) → only_reads c ≡ true → length (history_to start f turns g a) ≤ p →
        y ≡ reply (after_commands base (commands_of (take p (history_in start f turns g)))) c → IsRightOrClosed start f turns g c y ((life_at start f turns a).has_opened (suc g)) p
    right_or_closed c y a p only le is = elim (cases_Bool (has_seal (take p (history_in start f turns g)))) [
      | inl s ↦ inl (s, is ∙ closed_reply (opening_map start f turns g) (take p (history_in start f turns g)) c (reader_real c only) s)
      | inr n ↦ inr (n, is ∙ open_reply c p n, unopened a p le n)
    ]

    abbrev pub in_run : Read → Read
    in_run r = record { command = r.command; reader = r.reader; asked = A r.asked; looked = λ q. option_map A (r.looked q); answered = A r.answered }

    module _ (r : Read) (is : IsLifeRead start f turns g r) where
      is_read : IsRead base (f g) acts (in_run r)
      is_read = record {
        reads = is.reads;
        many = (
            let m = is.many in
            let le = count_le (size (f g)) (λ q. is_some (r.looked q)) (λ q. is_some (option_map A (r.looked q))) (λ q lt e. mapped_is A (r.looked q) e) in
            omega arith);
        between = λ q m e.
            let t = mapped_back A (r.looked q) m e in
            let b = is.between q t.0 t.1 in
            let low = rises r.asked t.0 b.0 in
            let high = rises t.0 r.answered b.1 in
            let at = t.2 in
            (omega arith, omega arith);
        executed = λ q m i e k.
            let t = mapped_back A (r.looked q) m e in
            subst (λ (s : State). Has s.executed i) (same_state r.answered r.reader is.reader)
            (is.executed q t.0 i t.1
            (subst (λ (s : State). Has (found s r.command) i) (sym (same_state t.0 q (is.here q t.0 t.1)))
            (subst (λ n. Has (found ((world_at base (f g) acts n).states q) r.command) i) (sym t.2) k)));
      }

      -- its place in the generation
      placed : (p : ℕ) × (length (history_to start f turns g r.asked) ≤ p) × (p ≤ length (history_to start f turns g r.answered))
          × (life_reply start f turns g r ≡ reply (after_commands base (commands_of (take p (history_in start f turns g)))) r.command)
      placed =
          let t = reads_are_linearizable_lem base (f g) (sizes g).0 (sizes g).1 acts run (in_run r) is_read in (
            t.0,
            subst (λ os. length os ≤ t.0) (same_history r.asked) t.1.asked,
            subst (λ os. t.0 ≤ length os) (same_history r.answered) t.1.answered,
            ap (λ (s : State). reply s.store r.command) (same_state r.answered r.reader is.reader) ∙ t.2,
          )

      right : (p : ℕ) × (length (history_to start f turns g r.asked) ≤ p) × (p ≤ length (history_to start f turns g r.answered))
          × IsRightOrClosed start f turns g r.command (life_reply start f turns g r) ((life_at start f turns r.asked).has_opened (suc g)) p
      right = let t = placed in (t.0, t.1, t.2, right_or_closed r.command (life_reply start f turns g r) r.asked t.0 is.reads.only t.1 t.3)

pub life_reads_are_linearizable_lem : LifeReadsAreLinearizable
life_reads_are_linearizable_lem start f sizes turns life g r is = right start f sizes turns life g r is
