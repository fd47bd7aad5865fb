-- A record whose vote is committed.
use Rattle.std.proofs.Common.{◌≡◌, ◌∙◌, ℕ, Bool, true, false, cond, Option, Some, None, is_none, sym, ap, refl}
use Rattle.std.specs.Cmp.{nat_cmp_total, unsigned_tied}
use Rattle.std.proofs.lemmas.Bool.{eqb-true}
use Rattle.std.specs.FinMap as map
use Rattle.std.specs.FinMap.{nat_cmp-IsAntisymmetric}
use Rattle.std.specs.Ordering.{nat_cmp, eq_by_cmp}
use Rattle.ep_base.specs.declared.vote.VoteStatus.TheVariants.{Committed}
use Rattle.ep_base.specs.declared.vote.Vote.{Vote}
use Rattle.ep_rules.specs.Cells.{record_or_fresh, voted_ballot}
use Rattle.ep_rules.specs.Maps.{Map, get, insert, remove}
use Rattle.ep_rules.specs.States.{with_held, with_entry}
use Rattle.ep_rules.specs.declared.record.Record.{Record}
use Rattle.ep_space.specs.Held.{Held}
use Rattle.ep_space.specs.Indexed.{Indexed}
use Rattle.ep_space.specs.Keys.{voted_keys, recorded_keys}
use Rattle.ep_base.specs.declared.version.Version.{Version}
use Rattle.ep_space.specs.Records.{Records, record_at}
use Rattle.ep_space.specs.Settled.{committed_vote, as_settled, settled}
use Rattle.ep_space.proofs.Twice.{remove_none}

own_or : {X : Type 0} (b : Bool) (v o : Option X) → (b ≡ true → v ≡ o) → cond b v o ≡ o
own_or true v o h = h refl
own_or false v o h = refl

-- what is there, written again
pub with_held-again : {X : Type 0} (m : Map X) (i : ℕ) (o : Option X) → get m i ≡ o → with_held m i o ≡ m
with_held-again m i None h = remove_none m i h
with_held-again m i (Some x) h =
    map.same_map nat_cmp_total nat_cmp-IsAntisymmetric _ _
    (λ q.
    map.get-insert nat_cmp_total m i x q
    ∙ own_or (eq_by_cmp nat_cmp q i) (Some x) (map.get m q) (λ tied. sym (ap (map.get m) (eqb-true q i (sym (unsigned_tied q i) ∙ tied)) ∙ h)))

keys_committed : (v : Option Vote) → voted_keys (committed_vote v) ≡ voted_keys v
keys_committed None = refl
keys_committed (Some v) = refl

-- the keys stay
pub keys_settled : (o : Option Record) → recorded_keys (as_settled o) ≡ recorded_keys o
keys_settled None = refl
keys_settled (Some r) = keys_committed r.vote

-- there is a record if there was
pub settled_there : (o : Option Record) → is_none (as_settled o) ≡ is_none o
settled_there None = refl
settled_there (Some r) = refl

by_vote : (m : Map Record) (i : ℕ) (r : Record) (v : Option Vote) → r.vote ≡ v → get m i ≡ Some r → insert m i (record { promised = r.promised; vote = committed_vote v }) ≡ with_entry m i (settled i r v)
by_vote m i r None e h = ap (λ w. insert m i (record { promised = r.promised; vote = w })) (sym e) ∙ with_held-again m i (Some r) h
by_vote m i r (Some v) e h =
    ap (λ w. insert m i (record { promised = r.promised; vote = Some (record { status = Committed; ballot = voted_ballot i w; decree = v.decree }) })) (sym e)

by_record : (m : Map Record) (i : ℕ) (o : Option Record) → get m i ≡ o → with_held m i (as_settled o) ≡ with_entry m i (settled i (record_or_fresh i o) (record_or_fresh i o).vote)
by_record m i None h = remove_none m i h
by_record m i (Some r) h = by_vote m i r r.vote refl h

-- what is written is the rule's
pub settled-entry : (m : Map Record) (i : ℕ) → with_held m i (as_settled (get m i)) ≡ with_entry m i (settled i (record_or_fresh i (get m i)) (record_or_fresh i (get m i)).vote)
settled-entry m i = by_record m i (get m i) refl

-- where there is nothing, nothing is cleared
pub cleared : {X : Type 0} (h : Held X) (i : ℕ) → get h.held i ≡ None → h ≡ record { held = remove h.held i; places = h.places }
cleared h i e = ap (λ m. record { held = m; places = h.places }) (sym (remove_none h.held i e))

pub settled-records : (f : ℕ) (v : Version) (x : Indexed) (i : ℕ) (s : Records) → record { faults = f; version = v; records = x.held; places = x.places; room = x.room } ≡ s
    → record { faults = f; version = v; records = with_held x.held i (as_settled (get x.held i)); places = x.places; room = x.room } ≡ record s { records = with_entry s.records i (settled i (record_at s i) (record_at s i).vote) }
settled-records f v x i s is =
    ap (λ (m : Map Record). record { faults = f; version = v; records = m; places = x.places; room = x.room }) (settled-entry x.held i)
    ∙ ap (λ (q : Records). record q { records = with_entry q.records i (settled i (record_at q i) (record_at q i).vote) }) is
