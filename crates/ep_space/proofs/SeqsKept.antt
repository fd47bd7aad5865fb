-- What a write leaves of the sequence numbers by instance.
use Rattle.std.proofs.Common.{◌≡◌, ℕ, ◌<◌, ◌≤◌, Bool, true, false, ◌||◌, Option, Some, None, List, [], Result, Ok, Err, OnOk, OnErr, inl, inr, refl, sym, ap, subst, ◌∙◌, true≢false, arith, length}
use Rattle.std.specs.Prelude.{slice_index_or, slice_set}
use Rattle.std.specs.Cmp.{nat_cmp_total, unsigned_tied}
use Rattle.std.specs.FinMap as map
use Rattle.std.specs.FinSet as set
use Rattle.std.specs.Ordering.{nat_cmp, eq_by_cmp}
use Rattle.std.specs.declared.alloc.AllocError.{AllocError}
use Rattle.std.proofs.lemmas.Bool.{eqb-true, cases_eq}
use Rattle.std.proofs.Math.Seq.{lt-length-set}
use Rattle.std.proofs.lemmas.List.{get_or-set_same, get_or-set_other}
use Rattle.ep_base.specs.Instances.{IsInstance}
use Rattle.ep_base.specs.declared.vote.Vote.{Vote}
use Rattle.ep_rules.specs.Cells.{record_or_fresh}
use Rattle.ep_rules.specs.InterferenceSet.{seq_of}
use Rattle.ep_rules.specs.Maps.{Map, none, get}
use Rattle.ep_rules.specs.States.{with_held}
use Rattle.ep_rules.specs.declared.record.Record.{Record}
use Rattle.ep_space.specs.Entries.{slot}
use Rattle.ep_space.specs.Held.{Held, Places}
use Rattle.ep_space.specs.Seqs.{recorded_seq, AreSeqs}
use Rattle.ep_space.specs.Settled.{committed_vote, as_settled}
use Rattle.ep_space.proofs.Kept.{get-other, get-own}
use Rattle.ep_space.proofs.Spots.{slot-is}

pub seqs-none : (ns : List ℕ) → ns ≡ [] → AreSeqs (record { held = none; places = set.empty }) ns
seqs-none ns e = record {
  reported = λ i h. ap (λ xs. slice_index_or xs (slot i) 0) e ∙ sym (ap recorded_seq (map.get-empty nat_cmp i));
  room = λ i h. absurd (true≢false (sym h ∙ set.contains-empty nat_cmp i));
}

pub seqs-written : (m : Map Record) (places : Places) (i n : ℕ) (o : Option Record) (ns : List ℕ) → AreSeqs (record { held = m; places = places }) ns → IsInstance i → slot i < length ns → n ≡ recorded_seq o
    → AreSeqs (record { held = with_held m i o; places = places }) (slice_set ns (slot i) n)
seqs-written m places i n o ns s known within is = record {
  reported = λ q h. elim (cases_eq q i) [
    | inl same ↦
        subst (λ j. slice_index_or (slice_set ns (slot i) n) (slot j) 0 ≡ recorded_seq (get (with_held m i o) j)) (sym same)
        (get_or-set_same ns (slot i) n 0 within ∙ is ∙ sym (ap recorded_seq (get-own m i o)))
    | inr apart ↦
        get_or-set_other ns (slot i) (slot q) n 0 (λ t. apart (slot-is q i h known t)) ∙ s.reported q h ∙ sym (ap recorded_seq (get-other m i o q apart))
  ];
  room = λ q h. lt-length-set ns (slot i) n (s.room q h);
}

-- with the same number
pub seqs-kept : (m : Map Record) (places : Places) (i : ℕ) (o : Option Record) (ns : List ℕ) → AreSeqs (record { held = m; places = places }) ns → recorded_seq o ≡ recorded_seq (get m i)
    → AreSeqs (record { held = with_held m i o; places = places }) ns
seqs-kept m places i o ns s is = record {
  reported = λ q h. elim (cases_eq q i) [
    | inl same ↦
        subst (λ j. slice_index_or ns (slot j) 0 ≡ recorded_seq (get (with_held m i o) j)) (sym same)
        (s.reported i (subst IsInstance same h) ∙ sym is ∙ sym (ap recorded_seq (get-own m i o)))
    | inr apart ↦ s.reported q h ∙ sym (ap recorded_seq (get-other m i o q apart))
  ];
  room = s.room;
}

-- a promise and a commit leave it

pub seq_promised : (i : ℕ) (o : Option Record) → seq_of (record_or_fresh i o).vote ≡ recorded_seq o
seq_promised i None = refl
seq_promised i (Some r) = refl

seq_committed : (v : Option Vote) → seq_of (committed_vote v) ≡ seq_of v
seq_committed None = refl
seq_committed (Some v) = refl

pub seq_settled : (o : Option Record) → recorded_seq (as_settled o) ≡ recorded_seq o
seq_settled None = refl
seq_settled (Some r) = seq_committed r.vote

-- with more slots
pub longer-seqs : (t : Held Record) (ns more : List ℕ) → AreSeqs t ns → length ns ≤ length more → ((k : ℕ) → slice_index_or more k 0 ≡ slice_index_or ns k 0) → AreSeqs t more
longer-seqs t ns more s longer same = record {
  reported = λ q h. same (slot q) ∙ s.reported q h;
  room = λ q h. let low = s.room q h in omega (arith, low, longer);
}

-- with a place more, for which there is a slot
module _ (old new : Held Record) (i : ℕ) (ns more : List ℕ) (s : AreSeqs old ns) (longer : length ns ≤ length more) (same : (k : ℕ) → slice_index_or more k 0 ≡ slice_index_or ns k 0) where
  placed-seqs : slot i < length more → AreSeqs (record { held = old.held; places = set.insert old.places i }) more
  placed-seqs within = record {
    reported = λ q h. same (slot q) ∙ s.reported q h;
    room = λ q h. go q (eq_by_cmp nat_cmp q i) refl (sym (set.contains-insert nat_cmp_total old.places i q) ∙ h);
  }
    where
      go : (q : ℕ) (b : Bool) → eq_by_cmp nat_cmp q i ≡ b → (b || set.contains old.places q) ≡ true → slot q < length more
      go q true e h = subst (λ j. slot j < length more) (sym (eqb-true q i (sym (unsigned_tied q i) ∙ e))) within
      go q false e h = let low = s.room q h in omega (arith, low, longer)

  pub seqs-at : (r : Result (Unit {0}) AllocError) → slot i < length more → OnOk r (new ≡ record { held = old.held; places = set.insert old.places i }) → OnErr r (new ≡ old) → AreSeqs new more
  seqs-at (Ok x) within ok err = subst (λ t. AreSeqs t more) (sym ok) (placed-seqs within)
  seqs-at (Err e) within ok err = subst (λ t. AreSeqs t more) (sym err) (longer-seqs old ns more s longer same)
