-- Worked reads that write nothing, computed from the definitions.
use Rattle.std.proofs.Common.{◌≡◌, ℕ, Bool, true, false, eqb, List, [], ◌∷◌, map, take, Option, Some, None, refl, sym, subst, arith}
use Rattle.std.proofs.lemmas.Bool.{eqb-true}
use Rattle.ep_base.specs.Commands.{Command, Put}
use Rattle.ep_base.specs.Instances.{instance_of}
use Rattle.ep_base.specs.Places.{Has}
use Rattle.ep_base.specs.declared.reply.Answer.TheVariants.{Replied}
use Rattle.ep_base.specs.declared.reply.Reply.TheVariants.{Absent, Present}
use Rattle.ep_laws.specs.Rows.OneMap.{empty, opened, after_commands}
use Rattle.ep_laws.specs.Rows.Operations.{commands_of, history_of}
use Rattle.ep_laws.specs.Rows.Reads.{found, world_at, history_at, Read, IsRead, reply_of}
use Rattle.ep_laws.specs.Rows.Worlds.{Act}
use Rattle.ep_laws.proofs.Playing.{Proposal, Deliver, Execution, Played, play, fresh, given, put_x, get_x, put_as}

-- a put is answered at replica 0 (4 acts); then its commit comes to replica 2, which executes it
abbrev put_reported : Played
put_reported =
    play 1 fresh (Proposal 0 (put_x 49) ∷ given (1 ∷ 2 ∷ []) (Execution 0 (instance_of 0 1) (Replied Absent) ∷ (Deliver 4 ∷ (Execution 2 (instance_of 0 1) (Replied Absent) ∷ []))))

put_reported_refuses_nothing : put_reported.refused ≡ []
put_reported_refuses_nothing = refl

abbrev acts : List Act
acts = put_reported.acts

-- the point of a look at replica 1, or at replica 2
abbrev point : Bool → Bool → Option ℕ
point true b = Some 4
point false true = Some 4
point false false = None

-- replica 2 is asked to read x after that answer, when it knows nothing of the put; replicas 1 and 2 are looked at
abbrev reading : Read
reading = record { command = get_x; reader = 2; asked = 4; looked = λ q. point (eqb q 1) (eqb q 2); answered = 6 }

-- replica 1 has the put, which it voted for; replica 2 hasn't
finds_1 : found ((world_at (opened empty) 1 acts 4).states 1) get_x ≡ instance_of 0 1 ∷ []
finds_1 = refl

finds_2 : found ((world_at (opened empty) 1 acts 4).states 2) get_x ≡ []
finds_2 = refl

-- replica 2 has executed what was found when it answers
executes : ((world_at (opened empty) 1 acts 6).states 2).executed ≡ instance_of 0 1 ∷ []
executes = refl

at_four : (n : ℕ) → Some 4 ≡ Some n → 4 ≡ n
at_four n e = cc

looked_at : (n : ℕ) (a b : Bool) → point a b ≡ Some n → 4 ≡ n
looked_at n true b e = at_four n e
looked_at n false true e = at_four n e
looked_at n false false e = absurd (cc)

none_in : (i : ℕ) → Has [] i → ⊥
none_in i k = omega arith

found_then : (i : ℕ) (q : ℕ) (a b : Bool) → eqb q 1 ≡ a → eqb q 2 ≡ b → point a b ≡ Some 4 → Has (found ((world_at (opened empty) 1 acts 4).states q) get_x) i →
    Has (instance_of 0 1 ∷ []) i
found_then i q true b ea eb e k = subst (λ is. Has is i) finds_1 (subst (λ r. Has (found ((world_at (opened empty) 1 acts 4).states r) get_x) i) (eqb-true q 1 ea) k)
found_then i q false true ea eb e k = absurd (none_in i (subst (λ is. Has is i) finds_2 (subst (λ r. Has (found ((world_at (opened empty) 1 acts 4).states r) get_x) i) (eqb-true q 2 eb) k)))
found_then i q false false ea eb e k = absurd (cc)

reading_is_one : IsRead (opened empty) 1 acts reading
reading_is_one = record {
  reads = record { only = refl; one = (120 ∷ [], refl) };
  many = (omega arith);
  between = λ q n e. let is = looked_at n (eqb q 1) (eqb q 2) e in (omega arith, omega arith);
  executed = λ q n i e k.
      let is = looked_at n (eqb q 1) (eqb q 2) e in
      subst (λ is. Has is i) (sym executes)
      (found_then i q (eqb q 1) (eqb q 2) refl refl (subst (λ m. point (eqb q 1) (eqb q 2) ≡ Some m) (sym is) e)
      (subst (λ m. Has (found ((world_at (opened empty) 1 acts m).states q) get_x) i) (sym is) k));
}

-- so it is answered the value of the put, behind which it has its place
reading_reports : reply_of (opened empty) 1 acts reading ≡ Present (49 ∷ [])
reading_reports = refl

reading_between : map (λ n. history_at (opened empty) 1 acts n) (4 ∷ 6 ∷ []) ≡ (put_as 0 49 ∷ []) ∷ ((put_as 0 49 ∷ []) ∷ [])
reading_between = refl

-- had replica 2 alone been looked at, it would have answered at once, with what the key had before the put
reading_alone : reply_of (opened empty) 1 acts (record { command = get_x; reader = 2; asked = 4; looked = λ q. point false (eqb q 2); answered = 4 }) ≡ Absent
reading_alone = refl

-- A read of two keys is none: replicas 0 and 2 are looked at before anything is proposed; then y is put and answered at replica 1, and then x is put at replica 0.
abbrev put_y : Command
put_y = Put (121 ∷ []) (50 ∷ [])

abbrev two_keys : Played
two_keys =
    play 1 fresh (Proposal 1 put_y ∷ given (1 ∷ 2 ∷ []) (Execution 1 (instance_of 1 1) (Replied Absent) ∷ (Proposal 0 (put_x 49) ∷ given (5 ∷ 6 ∷ []) (Execution 0 (instance_of 0 1) (Replied Absent) ∷ []))))

two_keys_refuses_nothing : two_keys.refused ≡ []
two_keys_refuses_nothing = refl

two_keys_history : history_of (opened empty) 1 two_keys.acts ≡ record { instance = instance_of 1 1; command = put_y } ∷ (put_as 0 49 ∷ [])
two_keys_history = refl

-- the map of replica 0 has x and not y then, which no beginning of the history leaves
two_keys_at_0 : (two_keys.world.states 0).store ≡ record { contents = (120 ∷ [], 49 ∷ []) ∷ []; seal = None }
two_keys_at_0 = refl

two_keys_leave : map (λ n. (after_commands (opened empty) (commands_of (take n (history_of (opened empty) 1 two_keys.acts)))).contents) (0 ∷ 1 ∷ 2 ∷ [])
    ≡ [] ∷ (((121 ∷ [], 50 ∷ []) ∷ []) ∷ (((120 ∷ [], 49 ∷ []) ∷ (121 ∷ [], 50 ∷ []) ∷ []) ∷ []))
two_keys_leave = refl
