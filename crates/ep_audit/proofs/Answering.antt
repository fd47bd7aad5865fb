-- Each line's reply is what the first execution of its instance answered.
use Rattle.std.proofs.Common.{◌≡◌, ℕ, Bool, true, false, cond, inl, inr, Option, Some, None, List, [], ◌∷◌, ◌++◌, refl, sym, ap, subst, ◌∙◌}
use Rattle.std.proofs.lemmas.Bool.{false≢true}
use Rattle.std.specs.List.{filter}
use Rattle.ep_base.specs.Places.{Has}
use Rattle.ep_base.specs.Sameness.{is_noop}
use Rattle.ep_base.specs.declared.decree.Decree.{Decree}
use Rattle.ep_base.specs.declared.reply.Answer.{Answer}
use Rattle.ep_rules.specs.History.{is_new}
use Rattle.ep_rules.specs.Journals.{Scheduled}
use Rattle.ep_rules.specs.Steps.{order_of}
use Rattle.ep_rules.specs.Worlds.{In}
use Rattle.ep_rules.proofs.Merged.{in_split}
use Rattle.ep_rules.proofs.Places.{has_left, has_right, filter_has}
use Rattle.ep_audit.specs.Lines.{reported_by, line_at, line_of, lines_of, lines_in}
use Rattle.ep_audit.specs.Verdicts.{AnswersFirst}
use Rattle.ep_audit.proofs.Seen.{new_false, new_true}
use Rattle.ep_audit.specs.declared.happening.Happening.{Happening}

reported_line : (i : ℕ) (x : Answer) (o : Option Decree) (h : Happening) → In h (line_at i x o) → (i ≡ h.instance) × (reported_by x ≡ h.reply)
reported_line i x None h there = absurd there
reported_line i x (Some d) h there = go (is_noop d.command) there
  where
    go : (b : Bool) → In h (cond b [] (record { instance = i; command = d.command; reply = reported_by x } ∷ [])) → (i ≡ h.instance) × (reported_by x ≡ h.reply)
    go true none = absurd none
    go false (inl is) = (ap (λ (z : Happening). z.instance) is, ap (λ (z : Happening). z.reply) is)
    go false (inr none) = absurd none

-- the line is of one of these executions, whose instance wasn't seen
record Made (seen : List ℕ) (done : List (ℕ × Answer)) (h : Happening) : Type 0 where
  answer : Answer
  new : is_new seen h.instance ≡ true
  stands : In (h.instance, answer) done
  reported : reported_by answer ≡ h.reply

-- the line is of an execution of the schedule, the first one of its instance, which wasn't seen before
record Later (seen : List ℕ) (schedule : List Scheduled) (h : Happening) : Type 0 where
  answer : Answer
  unseen : ¬ Has seen h.instance
  first : AnswersFirst schedule h.instance answer
  reported : reported_by answer ≡ h.reply

module _ (g : ℕ → Option Decree) where
  made : (seen : List ℕ) (done : List (ℕ × Answer)) (h : Happening) → In h (lines_of g seen done) → Made seen done h
  made seen [] h there = absurd there
  made seen (d ∷ done) h there = elim (in_split h (line_of g seen d.0 d.1) (lines_of g seen done) there) [
    | inl here ↦ go (is_new seen d.0) refl here
    | inr rest ↦ (let m = made seen done h rest in record { answer = m.answer; new = m.new; stands = inr m.stands; reported = m.reported })
  ]
    where
      go : (b : Bool) → is_new seen d.0 ≡ b → In h (cond b (line_at d.0 d.1 (g d.0)) []) → Made seen (d ∷ done) h
      go false e none = absurd none
      go true e here =
          let t = reported_line d.0 d.1 (g d.0) h here in
          record { answer = d.1; new = ap (is_new seen) (sym t.0) ∙ e; stands = inl (ap (λ (i : ℕ). (i, d.1)) t.0); reported = t.1 }

  later : (seen : List ℕ) (schedule : List Scheduled) (h : Happening) → In h (lines_in g seen schedule) → Later seen schedule h
  later seen [] h there = absurd there
  later seen (a ∷ s) h there =
      elim (in_split h (lines_of g seen a.entry.done) (lines_in g (seen ++ new) s) there) [
        | inl here ↦ (let m = made seen a.entry.done h here in record {
          answer = m.answer;
          unseen = λ old. false≢true (sym (new_false seen h.instance old) ∙ m.new);
          first = record { before = []; first = a; rest = s; split = refl; new = λ b none. absurd none; done = m.stands };
          reported = m.reported;
        })
        | inr rest ↦ (let l = later (seen ++ new) s h rest in record {
          answer = l.answer;
          unseen = λ old. l.unseen (has_left seen new h.instance old);
          first = record {
            before = a ∷ l.first.before;
            first = l.first.first;
            rest = l.first.rest;
            split = ap (λ z. a ∷ z) l.first.split;
            new = after l;
            done = l.first.done;
          };
          reported = l.reported;
        })
      ]
    where
      new : List ℕ
      new = filter (is_new seen) (order_of a.entry.done)

      here : Later (seen ++ new) s h → ¬ Has (order_of a.entry.done) h.instance
      here l there =
          let unseen : ¬ Has seen h.instance = λ old. l.unseen (has_left seen new h.instance old) in
          l.unseen (has_right seen new h.instance (filter_has (is_new seen) (order_of a.entry.done) h.instance (new_true seen h.instance unseen) there))

      after : (l : Later (seen ++ new) s h) (b : Scheduled) → In b (a ∷ l.first.before) → ¬ Has (order_of b.entry.done) h.instance
      after l b (inl is) = subst (λ (z : Scheduled). ¬ Has (order_of z.entry.done) h.instance) is (here l)
      after l b (inr stands) = l.first.new b stands

  pub each_reported : (schedule : List Scheduled) (h : Happening) → In h (lines_in g [] schedule) → (answer : Answer) × AnswersFirst schedule h.instance answer × (reported_by answer ≡ h.reply)
  each_reported schedule h there = let l = later [] schedule h there in (l.answer, l.first, l.reported)
