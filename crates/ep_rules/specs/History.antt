-- Executions at several replicas, and the history that they make.
use Rattle.std.specs.Prelude.{◌≡◌, ◌≢◌, ℕ, ◌<◌, ◌⊎◌, ◌↔◌, List, [], ◌∷◌, ◌++◌, length, take, Some, Bool, true, false, ◌==◌, nat_le, if◌then◌else◌, filter, map, slice_index_or as get_or}
use Rattle.std.specs.List.{AllByRecursion}
use Rattle.ep_base.specs.declared.attrs.Attrs.{Attrs}
use Rattle.ep_base.specs.Commands.{Command}
use Rattle.ep_base.specs.declared.reply.Reply.{Reply}
use Rattle.ep_base.specs.declared.reply.Reply.TheVariants.{Absent}
use Rattle.ep_base.specs.declared.reply.Answer.{Answer}
use Rattle.ep_base.specs.declared.reply.Answer.TheVariants.{Lost, Replied}
use Rattle.ep_base.specs.Interference.{interfere}
use Rattle.ep_base.specs.Places.{place, Has}
use Rattle.ep_rules.specs.Graph.{Graph, Reaches}
use Rattle.ep_rules.specs.Order.{IsPlan}
use Rattle.ep_base.specs.Sameness.{is_noop}
use Rattle.ep_rules.specs.OneMap.{after_all, reply, answers_of, replies, Store, is_closed}

-- one execution: where, what was committed there then, the root, the instances executed, in order, and the answers
pub record Execution : Type 0 where
  pub replica : ℕ
  pub graph : Graph
  pub root : ℕ
  pub order : List ℕ
  pub answers : List Answer

-- what each replica has executed, in order
abbrev pub Done : Type 0
Done = ℕ → List ℕ

abbrev pub nothing : Done
nothing r = []

abbrev pub with_done : Done → Execution → Done
with_done done e r = if e.replica == r then done r ++ e.order else done r

abbrev pub done_after : Done → List Execution → Done
done_after done [] = done
done_after done (e ∷ es) = done_after (with_done done e) es

-- what is committed at one replica is what is committed
abbrev pub Agrees : Graph → Graph → Type 0
Agrees here all = (i : ℕ) (a : Attrs) → here i ≡ Some a → all i ≡ Some a

-- one replica's own run: each execution is a plan after those before it, answered by its own map
abbrev pub IsLocal : (base : Store) → Graph → (ℕ → Command) → List ℕ → List Execution → Type 0
IsLocal base all c done [] = Unit {0}
IsLocal base all c done (e ∷ es) = Agrees e.graph all × IsPlan e.graph done e.root e.order × (e.answers ≡ answers_of c (after_all c base done) e.order) × IsLocal base all c (done ++ e.order) es

-- the executions of one replica, in order
abbrev pub of : ℕ → List Execution → List Execution
of r es = filter (λ e. e.replica == r) es

-- any interleaving of the replicas' own runs
abbrev pub AreLocal : (base : Store) → Graph → (ℕ → Command) → List Execution → Type 0
AreLocal base all c es = (r : ℕ) → IsLocal base all c [] (of r es)

abbrev pub is_new : List ℕ → ℕ → Bool
is_new seen i = nat_le (length seen) (place seen i)

-- each instance once, in order of its first execution
abbrev pub merged : List ℕ → List Execution → List ℕ
merged seen [] = seen
merged seen (e ∷ es) = merged (seen ++ filter (is_new seen) e.order) es

-- the history: each instance once that is no no-op, in order of its first execution
abbrev pub history : (ℕ → Command) → List Execution → List ℕ
history c es = filter (λ i. if is_noop (c i) then false else true) (merged [] es)

abbrev pub DependsOn : Graph → ℕ → ℕ → Type 0
DependsOn g i j = (a : Attrs) × (g i ≡ Some a) × Has a.deps j

-- of two interfering committed commands one depends on the other
abbrev pub AreDependent : Graph → (ℕ → Command) → Type 0
AreDependent g c = (i j : ℕ) (a b : Attrs) → i ≢ j → g i ≡ Some a → g j ≡ Some b → interfere (c i) (c j) ≡ true → DependsOn g i j ⊎ DependsOn g j i

-- the reply to i where the instances of the list are executed in turn
abbrev pub reply_in : (base : Store) → (ℕ → Command) → List ℕ → ℕ → Reply
reply_in base c is i = reply (after_all c base (take (place is i) is)) (c i)

-- the k-th answer is Lost at a no-op, and else the reply of one map to the history, at the instance's place there
abbrev pub AnswersBy : (base : Store) → (ℕ → Command) → List ℕ → Execution → Type 0
AnswersBy base c h e = (k i : ℕ) (x : Answer) → k < length e.order → get_or e.order k i ≡ i →
    ((is_noop (c i) ≡ true) × (get_or e.answers k x ≡ Lost))
    ⊎ (Has h i × (get_or e.answers k x ≡ Replied (get_or (replies base (map c h)) (place h i) Absent)))

-- a component is executed whole in one execution
abbrev pub IsWhole : Graph → Execution → Type 0
IsWhole g e = (i j : ℕ) → Has e.order i → Reaches g i j → Reaches g j i → Has e.order j

-- the instance stands in some execution
abbrev pub IsExecutedIn : List Execution → ℕ → Type 0
IsExecutedIn [] i = ⊥
IsExecutedIn (e ∷ es) i = Has e.order i ⊎ IsExecutedIn es i

abbrev pub OnePlan : Type 0
OnePlan = (g : Graph) (done : List ℕ) (root : ℕ) (first second : List ℕ) → IsPlan g done root first → IsPlan g done root second → first ≡ second

abbrev pub Components : Type 0
Components = (base : Store) → (all : Graph) (c : ℕ → Command) (es : List Execution) → AreLocal base all c es →
    AllByRecursion (IsWhole all) es × ((r i j : ℕ) → Has (done_after nothing es r) i → Reaches all i j → Has (done_after nothing es r) j)

abbrev pub OneOrder : Type 0
OneOrder = (base : Store) → (all : Graph) (c : ℕ → Command) (es : List Execution) → AreDependent all c → AreLocal base all c es → (r i j : ℕ) →
    Has (done_after nothing es r) i → Has (done_after nothing es r) j → i ≢ j → interfere (c i) (c j) ≡ true →
    (place (done_after nothing es r) i < place (done_after nothing es r) j) ↔ (place (merged [] es) i < place (merged [] es) j)

abbrev pub OneReply : Type 0
OneReply = (base : Store) → (all : Graph) (c : ℕ → Command) (es : List Execution) → AreDependent all c → AreLocal base all c es → (r i : ℕ) →
    Has (done_after nothing es r) i → Has (merged [] es) i × (reply_in base c (done_after nothing es r) i ≡ reply_in base c (merged [] es) i)

abbrev pub OneHistory : Type 0
OneHistory = (base : Store) → (all : Graph) (c : ℕ → Command) (es : List Execution) → AreDependent all c → AreLocal base all c es →
    AllByRecursion (AnswersBy base c (history c es)) es

-- what is executed before any execution of i stands before i in the history
abbrev pub EarlierFirst : Type 0
EarlierFirst = (c : ℕ → Command) (before rest : List Execution) (i j : ℕ) → is_noop (c i) ≡ false → is_noop (c j) ≡ false →
    IsExecutedIn before j → ¬ IsExecutedIn before i → place (history c (before ++ rest)) j < place (history c (before ++ rest)) i

-- a replica that has executed a seal has the map that the history leaves
abbrev pub OneClosing : Type 0
OneClosing = (base : Store) (all : Graph) (c : ℕ → Command) (es : List Execution) → AreDependent all c → AreLocal base all c es → (r : ℕ) →
    is_closed (after_all c base (done_after nothing es r)) ≡ true → after_all c base (done_after nothing es r) ≡ after_all c base (history c es)
