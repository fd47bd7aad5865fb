-- What a node has noted of its first entries, as they grow and as more of them are noted.
use Rattle.std.proofs.Common.{◌≡◌, ◌≢◌, inl, inr, cond, ◌*◌, ◌/◌, ◌%◌, get_or, ℕ, ◌+◌, ◌-◌, ◌≤◌, ◌<◌, length, take, drop, List, [], ◌∷◌, ◌++◌, refl, sym, ap, subst, ◌∙◌, arith, append_assoc, length-append}
use Rattle.std.specs.Prelude.{Option, Some, None}
use Rattle.std.proofs.lemmas.List.{drop_more, take_more, take-append-le}
use Rattle.std.proofs.lemmas.Bool.{cases_eq, eq-eqb, ne_eqb}
use Rattle.ep_base.specs.Instances.{IsInstance}
use Rattle.ep_journal.specs.declared.entry.Entry.{Entry}
use Rattle.ep_node.specs.Reporting.{about_by, commits_by, first_number, learnt_by, new_commit, noted, number_for, or_other, AreFirst, Knows}
use Rattle.ep_space.specs.Entries.{slot}

or_none : (o : Option ℕ) → or_other o None ≡ o
or_none None = refl
or_none (Some n) = refl

or_assoc : (a b c : Option ℕ) → or_other (or_other a b) c ≡ or_other a (or_other b c)
or_assoc None b c = refl
or_assoc (Some n) b c = refl

-- One entry more.

first_grows : (key : Entry → Option ℕ) (es : List Entry) (e : Entry) (i : ℕ) → first_number key (es ++ e ∷ []) i ≡ or_other (first_number key es i) (number_for (key e) e.number i)
first_grows key [] e i = or_none (number_for (key e) e.number i)
first_grows key (x ∷ es) e i =
    ap (λ o. or_other (number_for (key x) x.number i) o) (first_grows key es e i) ∙ sym (or_assoc (number_for (key x) x.number i) (first_number key es i) (number_for (key e) e.number i))

pub first_more : (key : Entry → Option ℕ) (es : List Entry) (e : Entry) (subject : Option ℕ) (number : ℕ) (old new : List (Option ℕ)) → subject ≡ key e → number ≡ e.number
    → ((i : ℕ) → IsInstance i → noted new i ≡ or_other (noted old i) (number_for subject number i)) → AreFirst key es old → AreFirst key (es ++ e ∷ []) new
first_more key es e subject number old new about same more first i is =
    more i is ∙ ap (λ o. or_other o (number_for subject number i)) (first i is) ∙ ap (λ s. or_other (first_number key es i) (number_for s number i)) about
    ∙ ap (λ n. or_other (first_number key es i) (number_for (key e) n i)) same ∙ sym (first_grows key es e i)

-- The places of two instances differ.
apart : (i j : ℕ) → IsInstance i → IsInstance j → (i ≡ j → ⊥) → slot i ≡ slot j → ⊥
apart i j a b ne same =
    let low : i / 65536 ≤ 6 = a.0 in
    let low' : j / 65536 ≤ 6 = b.0 in
    let e : i % 65536 * 8 + i / 65536 ≡ j % 65536 * 8 + j / 65536 = same in
    ne (omega (arith, low, low', e))

pub noted_so : (j i place number : ℕ) (old new : List (Option ℕ)) → place ≡ slot j → IsInstance j → IsInstance i → get_or new place None ≡ or_other (get_or old place None) (Some number)
    → ((n : ℕ) → n ≢ place → get_or new n None ≡ get_or old n None) → noted new i ≡ or_other (noted old i) (number_for (Some j) number i)
noted_so j i place number old new at named is here others = elim (cases_eq i j) [
  | inl same ↦
      let to : place ≡ slot i = at ∙ ap slot (sym same) in
      subst (λ (p : ℕ). get_or new p None ≡ or_other (get_or old p None) (Some number)) to here
      ∙ ap (λ b. or_other (noted old i) (cond b (Some number) None)) (sym (eq-eqb j i (sym same)))
  | inr ne ↦
      others (slot i) (λ e. apart i j is named ne (e ∙ at)) ∙ sym (or_none (noted old i))
      ∙ ap (λ b. or_other (noted old i) (cond b (Some number) None)) (sym (ne_eqb j i (λ e. ne (sym e))))
]

pub noted_in : (j i place number : ℕ) (old old' new : List (Option ℕ)) → old ≡ old' → place ≡ slot j → IsInstance j → IsInstance i → get_or new place None ≡ or_other (get_or old place None) (Some number)
    → ((n : ℕ) → n ≢ place → get_or new n None ≡ get_or old n None) → noted new i ≡ or_other (noted old' i) (number_for (Some j) number i)
noted_in j i place number old old' new same at named is here others =
    subst (λ (l : List (Option ℕ)). noted new i ≡ or_other (noted l i) (number_for (Some j) number i)) same (noted_so j i place number old new at named is here others)

-- The entries grow.

pub knows_more : (es more : List Entry) (seen : ℕ) (about commits : List (Option ℕ)) → Knows es seen about commits → Knows (es ++ more) seen about commits
knows_more es more seen about commits k =
    let le = k.within in
    let same : take seen (es ++ more) ≡ take seen es = take-append-le seen es more le in
    record {
      within = omega (arith, le, length-append es more);
      first_about = subst (λ (l : List Entry). AreFirst about_by l about) (sym same) k.first_about;
      first_learnt = subst (λ (l : List Entry). AreFirst learnt_by l commits) (sym same) k.first_learnt;
    }

-- nothing is noted
pub none_known : (es : List Entry) (seen : ℕ) (about commits : List (Option ℕ)) → (seen ≡ 0) × (about ≡ []) × (commits ≡ []) → Knows es seen about commits
none_known es seen about commits none =
    subst (λ (n : ℕ). Knows es n about commits) (sym none.0) (subst (λ (l : List (Option ℕ)). Knows es 0 l commits) (sym none.1) (subst (λ (l : List (Option ℕ)). Knows es 0 [] l) (sym none.2)
    (record { within = omega arith; first_about = λ i is. refl; first_learnt = λ i is. refl })))

-- the same is noted under other places
pub knows_same : (es : List Entry) (seen : ℕ) (about about' commits commits' : List (Option ℕ)) → ((i : ℕ) → noted about' i ≡ noted about i) → ((i : ℕ) → noted commits' i ≡ noted commits i) → Knows es seen about commits → Knows es seen about' commits'
knows_same es seen about about' commits commits' same same' k = record {
  within = k.within;
  first_about = λ i is. same i ∙ k.first_about i is;
  first_learnt = λ i is. same' i ∙ k.first_learnt i is;
}

-- the next entry is noted too
pub knows_next : (es : List Entry) (seen : ℕ) (e : Entry) (about about' commits commits' : List (Option ℕ)) → seen < length es → e ≡ get_or es seen e
    → (AreFirst about_by (take seen es) about → AreFirst about_by (take seen es ++ (e ∷ [])) about') → (AreFirst learnt_by (take seen es) commits → AreFirst learnt_by (take seen es ++ (e ∷ [])) commits')
    → Knows es seen about commits → Knows es (seen + 1) about' commits'
knows_next es seen e about about' commits commits' lt is more more' k =
    let next : take (seen + 1) es ≡ take seen es ++ (e ∷ []) = take_more es seen e lt ∙ ap (λ (x : Entry). take seen es ++ (x ∷ [])) (sym is) in
    record {
      within = omega (arith, lt);
      first_about = subst (λ (l : List Entry). AreFirst about_by l about') (sym next) (more k.first_about);
      first_learnt = subst (λ (l : List Entry). AreFirst learnt_by l commits') (sym next) (more' k.first_learnt);
    }

-- Places.

-- whatever the others commit completes the whole, with one entry more
pub commits_more : (all es : List Entry) (n : ℕ) (e : Entry) (old new whole : List ℕ) → n < length es → e ≡ get_or es n e → new ≡ old ++ new_commit all e.number (learnt_by e) → old ++ commits_by all (drop n es) ≡ whole
    → new ++ commits_by all (drop (n + 1) es) ≡ whole
commits_more all es n e old new whole lt is added so_far =
    let left : drop n es ≡ e ∷ drop (n + 1) es = drop_more es n e lt ∙ ap (λ (y : Entry). y ∷ drop (n + 1) es) (sym is) in
    ap (λ (l : List ℕ). l ++ commits_by all (drop (n + 1) es)) added
    ∙ append_assoc old (new_commit all e.number (learnt_by e)) (commits_by all (drop (n + 1) es))
    ∙ sym (ap (λ (l : List Entry). old ++ commits_by all l) left)
    ∙ so_far
