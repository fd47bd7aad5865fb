-- To commands that a version knows its map gives answers that the version has, and stays one that it has.
use Rattle.std.proofs.Common.{◌≡◌, ℕ, ◌≤◌, length, ltb, nltb→le, Bool, true, false, not, T, ◌||◌, cond, List, [], ◌∷◌, Option, Some, None, refl, sym, ap, subst, ◌∙◌, true≢false, arith}
use Rattle.std.specs.List.{AllByRecursion}
use Rattle.ep_base.specs.Sameness.{is_noop}
use Rattle.ep_base.specs.Versions.{knows, IsVoteIn}
use Rattle.ep_base.specs.Commands.{Command, Noop, Get, Put, Del, Swap, Cas, Seal, Opaque, Tx}
use Rattle.ep_base.specs.declared.decree.Decree.{Decree}
use Rattle.ep_base.specs.declared.reply.Answer.TheVariants.{Lost, Replied}
use Rattle.ep_base.specs.declared.version.Version.{Version}
use Rattle.ep_base.specs.declared.version_kind.VersionKind.TheVariants.{V1, V2, V3}
use Rattle.ep_base.specs.declared.vote.VoteStatus.{VoteStatus}
use Rattle.ep_base.specs.declared.vote.VoteStatus.TheVariants.{PreAccepted, Accepted, Committed}
use Rattle.ep_base.specs.declared.vote.Vote.{Vote}
use Rattle.ep_rules.specs.Cells.{committed_at, committed_decree}
use Rattle.std.specs.FinMap.{get-empty}
use Rattle.ep_base.proofs.Versions.{knows_later}
use Rattle.ep_rules.proofs.Commuting.{is_key, value_with}
use Rattle.ep_rules.specs.OneMap.{Contents, Store, opened, empty, value_at, with_key, written, reported, sealed_by, after, after_under, after_all, reply_under, answer, answers_of}
use Rattle.ep_rules.specs.States.{command_of}
use Rattle.ep_journal.specs.Entries.{IsEarlyAnswer, IsAnswerIn}
use Rattle.ep_journal.specs.Holding.{IsEarly, IsStoreIn}
use Rattle.ep_journal.specs.Openings.{Opening, opens, OpensIn}

pub knows_noop : (v : Version) → knows v Noop ≡ true
knows_noop V1 = refl
knows_noop V2 = refl
knows_noop (V3 g) = refl

-- what is committed is known
known_at : (v : Version) (status : VoteStatus) (x : Decree) → knows v x.command ≡ true → knows v (command_of (committed_at status x)) ≡ true
known_at v PreAccepted x h = knows_noop v
known_at v Accepted x h = knows_noop v
known_at v Committed x h = h

pub known_vote : (v : Version) (o : Option Vote) → IsVoteIn v o → knows v (command_of (committed_decree o)) ≡ true
known_vote v None h = knows_noop v
known_vote v (Some vote) h = known_at v vote.status vote.decree h.0

-- Short values.

-- each value of the contents is short
abbrev AreShort : Contents → Type 0
AreShort m = (k x : List ℕ) → value_at m k ≡ Some x → length x ≤ 1024

-- the value is, if there is one
abbrev IsShort : Option (List ℕ) → Type 0
IsShort o = (x : List ℕ) → o ≡ Some x → length x ≤ 1024

short_with : (m : Contents) (k : List ℕ) (o : Option (List ℕ)) → AreShort m → IsShort o → AreShort (with_key m k o)
short_with m k o all one q x e = go (is_key q k) (sym (value_with m k o q) ∙ e)
  where
    go : (b : Bool) → cond b o (value_at m q) ≡ Some x → length x ≤ 1024
    go true h = one x h
    go false h = all q x h

short_none : IsShort None
short_none x e = absurd (cc)

not_long : (n : ℕ) (b : Bool) → ltb 1024 n ≡ b → not (false || b) ≡ true → n ≤ 1024
not_long n true e h = absurd (true≢false (sym h))
not_long n false e h = nltb→le 1024 n (subst (λ b. T (not b)) (sym e) tt)

-- what version 2 knows leaves an open map of short values so
short_written : (m : Contents) (c : Command) → AreShort m → knows V2 c ≡ true → AreShort (written m c)
short_written m Noop all h = all
short_written m (Get k) all h = all
short_written m (Put k v) all h = short_with m k (Some v) all (λ x e. let same : v ≡ x = cc in subst (λ (y : List ℕ). length y ≤ 1024) same (not_long (length v) (ltb 1024 (length v)) refl h))
short_written m (Del k) all h = short_with m k None all short_none
short_written m (Swap p) all h =
    short_with (with_key m p.first (value_at m p.second)) p.second (value_at m p.first) (short_with m p.first (value_at m p.second) all (all p.second)) (all p.first)
short_written m (Cas k x y) all h = absurd (true≢false (sym h))
short_written m (Seal x) all h = all
short_written m (Opaque p b) all h = all
short_written m (Tx is) all h = absurd (true≢false (sym h))

seals_nothing : (c : Command) → knows V2 c ≡ true → sealed_by c ≡ None
seals_nothing Noop h = refl
seals_nothing (Get k) h = refl
seals_nothing (Put k x) h = refl
seals_nothing (Del k) h = refl
seals_nothing (Swap p) h = refl
seals_nothing (Cas k x y) h = refl
seals_nothing (Seal x) h = absurd (true≢false (sym h))
seals_nothing (Opaque p b) h = refl
seals_nothing (Tx is) h = refl

early_under : (o : Option (List ℕ)) (m : Contents) (c : Command) → o ≡ None → AreShort m → knows V2 c ≡ true → IsEarly (after_under o m c)
early_under None m c e all h = record { unsealed = seals_nothing c h; short = short_written m c all h }
early_under (Some v) m c e all h = absurd (cc)

early_after : (s : Store) (c : Command) → IsEarly s → knows V2 c ≡ true → IsEarly (after s c)
early_after s c e h = early_under s.seal s.contents c e.unsealed e.short h

reported_early : (o : Option (List ℕ)) → IsShort o → IsEarlyAnswer (Replied (reported o))
reported_early None h = tt
reported_early (Some x) h = h x refl

answer_open : (m : Contents) (c : Command) → AreShort m → knows V2 c ≡ true → IsEarlyAnswer (answer (opened m) c)
answer_open m Noop all h = tt
answer_open m (Get k) all h = reported_early (value_at m k) (all k)
answer_open m (Put k x) all h = reported_early (value_at m k) (all k)
answer_open m (Del k) all h = reported_early (value_at m k) (all k)
answer_open m (Swap p) all h = reported_early (value_at m p.first) (all p.first)
answer_open m (Cas k x y) all h = reported_early (value_at m k) (all k)
answer_open m (Seal x) all h = tt
answer_open m (Opaque p b) all h = absurd (true≢false (sym h))
answer_open m (Tx is) all h = absurd (true≢false (sym h))

answer_early : (s : Store) (c : Command) → IsEarly s → knows V2 c ≡ true → IsEarlyAnswer (answer s c)
answer_early s c e h = subst (λ (o : Option (List ℕ)). IsEarlyAnswer (cond (is_noop c) Lost (Replied (reply_under o s.contents c)))) (sym e.unsealed) (answer_open s.contents c e.short h)

-- Any version.

after_in : (v : Version) (s : Store) (c : Command) → IsStoreIn v s → knows v c ≡ true → IsStoreIn v (after s c)
after_in V1 s c e h = early_after s c e (knows_later V1 V2 c (omega arith) h)
after_in V2 s c e h = early_after s c e h
after_in (V3 g) s c e h = tt

answer_in : (v : Version) (s : Store) (c : Command) → IsStoreIn v s → knows v c ≡ true → IsAnswerIn v (answer s c)
answer_in V1 s c e h = answer_early s c e (knows_later V1 V2 c (omega arith) h)
answer_in V2 s c e h = answer_early s c e h
answer_in (V3 g) s c e h = tt

module _ (v : Version) (c : ℕ → Command) (known : (i : ℕ) → knows v (c i) ≡ true) where
  pub stays_in : (s : Store) (is : List ℕ) → IsStoreIn v s → IsStoreIn v (after_all c s is)
  stays_in s [] e = e
  stays_in s (i ∷ is) e = stays_in (after s (c i)) is (after_in v s (c i) e (known i))

  pub answers_given : (s : Store) (is : List ℕ) → IsStoreIn v s → AllByRecursion (IsAnswerIn v) (answers_of c s is)
  answers_given s [] e = tt
  answers_given s (i ∷ is) e = (answer_in v s (c i) e (known i), answers_given (after s (c i)) is (after_in v s (c i) e (known i)))

-- where a life begins
pub empty_early : IsEarly (opened empty)
empty_early = record { unsealed = refl; short = λ k x h. absurd (let n : value_at empty k ≡ None = get-empty _ k in cc) }

pub opens_in : (v : Version) (o : Opening) (s : Store) → OpensIn v o → s ≡ opens o → IsStoreIn v s
opens_in V1 o s none is = subst IsEarly (sym (is ∙ ap opens none)) empty_early
opens_in V2 o s none is = subst IsEarly (sym (is ∙ ap opens none)) empty_early
opens_in (V3 g) o s any is = tt
