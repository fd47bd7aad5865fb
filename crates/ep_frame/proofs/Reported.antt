-- What the kind of a frame says of its message.
use Rattle.std.proofs.Common.{◌≡◌, ℕ, Bool, true, false, cond, eqb, List, refl, ap, sym, true≢false}
use Rattle.std.specs.Prelude.{◌||◌, ◌&&◌, not}
use Rattle.std.proofs.lemmas.Bool.{eqb-true}
use Rattle.ep_base.specs.declared.message.Message.TheVariants.{PreAccept, PreAcceptOk, Accept, AcceptOk, Commit, Prepare, PrepareOk, Nack}
use Rattle.ep_frame.specs.declared.kind.Kind.{Kind}
use Rattle.ep_frame.specs.declared.kind.Kind.TheVariants as kind
use Rattle.ep_frame.specs.Faults.{has_attributes, has_command}
use Rattle.ep_frame.specs.Fields.{header_at}
use Rattle.ep_frame.specs.Meaning.{kind_at, message_at, message_by, carries_attrs, carries_decree, instance_at, ballot_at, other_at, attrs_at, decree_at, vote_at}

abbrev chosen : Bool → Bool → Bool → Bool → Bool → Bool → Bool → Kind
chosen a b c d e f g = cond a kind.PreAccept (cond b kind.PreAcceptOk (cond c kind.Accept (cond d kind.AcceptOk (cond e kind.Commit (cond f kind.Prepare (cond g kind.PrepareOk kind.Nack))))))

by_tests : (x : List ℕ) (a b c d e f g : Bool) →
    cond a (PreAccept (instance_at x) (ballot_at x) (decree_at x))
    (cond b (PreAcceptOk (instance_at x) (ballot_at x) (attrs_at x))
    (cond c (Accept (instance_at x) (ballot_at x) (decree_at x))
    (cond d (AcceptOk (instance_at x) (ballot_at x))
    (cond e (Commit (instance_at x) (decree_at x))
    (cond f (Prepare (instance_at x) (ballot_at x))
    (cond g (PrepareOk (instance_at x) (ballot_at x) (vote_at x)) (Nack (instance_at x) (ballot_at x) (other_at x))))))))
    ≡ message_by (chosen a b c d e f g) x
by_tests x true b c d e f g = refl
by_tests x false true c d e f g = refl
by_tests x false false true d e f g = refl
by_tests x false false false true e f g = refl
by_tests x false false false false true f g = refl
by_tests x false false false false false true g = refl
by_tests x false false false false false false true = refl
by_tests x false false false false false false false = refl

pub by_kind : (x : List ℕ) → message_at x ≡ message_by (kind_at x) x
by_kind x =
    let k = (header_at x).kind in
    by_tests x (eqb k 1) (eqb k 2) (eqb k 3) (eqb k 4) (eqb k 5) (eqb k 6) (eqb k 7)

attrs_by : (a b c d e f g s : Bool) → carries_attrs (chosen a b c d e f g) ≡ true → (a || b || c || e || (g && s)) ≡ true
attrs_by true b c d e f g s h = refl
attrs_by false true c d e f g s h = refl
attrs_by false false true d e f g s h = refl
attrs_by false false false true e f g s h = absurd (true≢false (sym h))
attrs_by false false false false true f g s h = refl
attrs_by false false false false false true g s h = absurd (true≢false (sym h))
attrs_by false false false false false false true s h = absurd (true≢false (sym h))
attrs_by false false false false false false false s h = absurd (true≢false (sym h))

pub attrs_there : (x : List ℕ) → carries_attrs (kind_at x) ≡ true → has_attributes (header_at x) ≡ true
attrs_there x h =
    let y = header_at x in let k = y.kind in
    attrs_by (eqb k 1) (eqb k 2) (eqb k 3) (eqb k 4) (eqb k 5) (eqb k 6) (eqb k 7) (not (eqb y.status 0)) h

decree_by : (a b c d e f g s : Bool) → carries_decree (chosen a b c d e f g) ≡ true → (a || c || e || (g && s)) ≡ true
decree_by true b c d e f g s h = refl
decree_by false true c d e f g s h = absurd (true≢false (sym h))
decree_by false false true d e f g s h = refl
decree_by false false false true e f g s h = absurd (true≢false (sym h))
decree_by false false false false true f g s h = refl
decree_by false false false false false true g s h = absurd (true≢false (sym h))
decree_by false false false false false false true s h = absurd (true≢false (sym h))
decree_by false false false false false false false s h = absurd (true≢false (sym h))

pub decree_there : (x : List ℕ) → carries_decree (kind_at x) ≡ true → has_command (header_at x) ≡ true
decree_there x h =
    let y = header_at x in let k = y.kind in
    decree_by (eqb k 1) (eqb k 2) (eqb k 3) (eqb k 4) (eqb k 5) (eqb k 6) (eqb k 7) (not (eqb y.status 0)) h

have_attrs : (k : Kind) → carries_decree k ≡ true → carries_attrs k ≡ true
have_attrs kind.PreAccept h = refl
have_attrs kind.PreAcceptOk h = absurd (true≢false (sym h))
have_attrs kind.Accept h = refl
have_attrs kind.AcceptOk h = absurd (true≢false (sym h))
have_attrs kind.Commit h = refl
have_attrs kind.Prepare h = absurd (true≢false (sym h))
have_attrs kind.PrepareOk h = absurd (true≢false (sym h))
have_attrs kind.Nack h = absurd (true≢false (sym h))

pub decree_attrs_there : (x : List ℕ) → carries_decree (kind_at x) ≡ true → has_attributes (header_at x) ≡ true
decree_attrs_there x h = attrs_there x (have_attrs (kind_at x) h)

abbrev is_vote : Kind → Bool
is_vote kind.PreAccept = false
is_vote kind.PreAcceptOk = false
is_vote kind.Accept = false
is_vote kind.AcceptOk = false
is_vote kind.Commit = false
is_vote kind.Prepare = false
is_vote kind.PrepareOk = true
is_vote kind.Nack = false

seventh : (a b c d e f g : Bool) → is_vote (chosen a b c d e f g) ≡ true → g ≡ true
seventh true b c d e f g h = absurd (true≢false (sym h))
seventh false true c d e f g h = absurd (true≢false (sym h))
seventh false false true d e f g h = absurd (true≢false (sym h))
seventh false false false true e f g h = absurd (true≢false (sym h))
seventh false false false false true f g h = absurd (true≢false (sym h))
seventh false false false false false true g h = absurd (true≢false (sym h))
seventh false false false false false false true h = refl
seventh false false false false false false false h = absurd (true≢false (sym h))

pub vote_there : (x : List ℕ) → kind_at x ≡ kind.PrepareOk → (header_at x).kind ≡ 7
vote_there x h =
    let k = (header_at x).kind in
    eqb-true k 7 (seventh (eqb k 1) (eqb k 2) (eqb k 3) (eqb k 4) (eqb k 5) (eqb k 6) (eqb k 7) (ap is_vote h))
