-- Worked rows of compare-and-set and of commands of machines outside, computed from the definitions.
use Rattle.std.proofs.Common.{◌≡◌, ℕ, true, false, Bool, List, [], ◌∷◌, map, Option, Some, None, refl}
use Rattle.ep_base.specs.Instances.{instance_of}
use Rattle.ep_base.specs.Interference.{interfere}
use Rattle.ep_base.specs.Commands.{Command, Noop, Put, Get, Del, Swap, Cas, Opaque}
use Rattle.ep_base.specs.declared.reply.Reply.{Reply}
use Rattle.ep_base.specs.declared.reply.Reply.TheVariants.{Absent, Present, Ordered}
use Rattle.ep_laws.specs.Rows.OneMap.{empty, Store, opened, after, after_commands, replies}
use Rattle.ep_laws.proofs.Playing.{Proposal, Played, play, fresh, given, committed, put_x, get_x, decree}

abbrev cas_x : Option (List ℕ) → Option (List ℕ) → Command
cas_x expected new = Cas (120 ∷ []) expected new

-- the map in which x has this
abbrev x_has : List ℕ → Store
x_has v = record { contents = (120 ∷ [], v) ∷ []; seal = None }

-- a lock at x, whose owner's token is its value: 1 takes it, 2 is refused and answered who has it, 1 gives it back, 2 takes it
abbrev lock : List Command
lock = cas_x None (Some (1 ∷ [])) ∷ (cas_x None (Some (2 ∷ [])) ∷ (cas_x (Some (1 ∷ [])) None ∷ (cas_x None (Some (2 ∷ [])) ∷ [])))

lock_reports : replies (opened empty) lock ≡ Absent ∷ (Present (1 ∷ []) ∷ (Present (1 ∷ []) ∷ (Absent ∷ [])))
lock_reports = refl

lock_leaves : after_commands (opened empty) lock ≡ x_has (2 ∷ [])
lock_leaves = refl

-- 2, who hasn't got it, doesn't give it back
lock_kept : after_commands (opened empty) (cas_x None (Some (1 ∷ [])) ∷ (cas_x (Some (2 ∷ [])) None ∷ [])) ≡ x_has (1 ∷ [])
lock_kept = refl

-- the key is exchanged only where it has the very value, and the reply is what it had in either case
cas_fits : after (after (opened empty) (put_x 49)) (cas_x (Some (49 ∷ [])) None) ≡ opened empty
cas_fits = refl

cas_differs : after (after (opened empty) (put_x 49)) (cas_x None (Some (50 ∷ []))) ≡ x_has (49 ∷ [])
cas_differs = refl

cas_reports : replies (x_has (49 ∷ [])) (cas_x (Some (49 ∷ [])) (Some (50 ∷ [])) ∷ (cas_x (Some (49 ∷ [])) (Some (51 ∷ [])) ∷ [])) ≡ Present (49 ∷ []) ∷ (Present (50 ∷ []) ∷ [])
cas_reports = refl

-- values of one length, and a beginning of another, are not the same
cas_length : after (x_has (49 ∷ [])) (cas_x (Some (50 ∷ [])) None) ≡ x_has (49 ∷ [])
cas_length = refl

cas_beginning : after (x_has (49 ∷ (50 ∷ []))) (cas_x (Some (49 ∷ [])) None) ≡ x_has (49 ∷ (50 ∷ []))
cas_beginning = refl

-- what is absent may be expected, and left so
cas_absent : after (opened empty) (cas_x None None) ≡ opened empty
cas_absent = refl

cas_absent_reports : replies (opened empty) (cas_x None None ∷ []) ≡ Absent ∷ []
cas_absent_reports = refl

-- a value of no bytes is a value, and not its absence
cas_empty_expected : after (opened empty) (cas_x (Some []) (Some (49 ∷ []))) ≡ opened empty
cas_empty_expected = refl

cas_absent_expected : after (x_has []) (cas_x None (Some (49 ∷ []))) ≡ x_has []
cas_absent_expected = refl

cas_empty_new : after (opened empty) (cas_x None (Some [])) ≡ x_has []
cas_empty_new = refl

cas_empty_reported : replies (x_has []) (cas_x (Some []) (Some (49 ∷ [])) ∷ (get_x ∷ [])) ≡ Present [] ∷ (Present (49 ∷ []) ∷ [])
cas_empty_reported = refl

-- it interferes as a put does: also where it would exchange nothing
cas_meets : map (λ c. interfere (cas_x None None) c) (put_x 49 ∷ (get_x ∷ (Del (120 ∷ []) ∷ (cas_x None None ∷ (Get (121 ∷ []) ∷ (Noop ∷ [])))))) ≡ true ∷ (true ∷ (true ∷ (true ∷ (false ∷ (false ∷ [])))))
cas_meets = refl

-- a command of a machine outside, of the keys x and y, or of x alone
abbrev of_both : Bool → Command
of_both reads = Opaque (record { first = 120 ∷ []; second = Some (121 ∷ []); reads = reads }) (7 ∷ [])

abbrev of_x : Bool → Command
of_x reads = Opaque (record { first = 120 ∷ []; second = None; reads = reads }) (7 ∷ [])

abbrev put_y : Command
put_y = Put (121 ∷ []) (49 ∷ [])

-- one that writes interferes by either key, and one that reads with what writes alone
writer_meets : map (λ c. interfere (of_both false) c) (put_x 49 ∷ (put_y ∷ (Put (122 ∷ []) (49 ∷ []) ∷ (Get (121 ∷ []) ∷ (of_x true ∷ (of_x false ∷ (Noop ∷ []))))))) ≡ true ∷ (true ∷ (false ∷ (true ∷ (true ∷ (true ∷ (false ∷ []))))))
writer_meets = refl

reader_meets : map (λ c. interfere (of_both true) c) (put_x 49 ∷ (put_y ∷ (Get (121 ∷ []) ∷ (of_x true ∷ (of_x false ∷ (Swap (record { first = 122 ∷ []; second = 121 ∷ [] }) ∷ [])))))) ≡ true ∷ (true ∷ (false ∷ (false ∷ (true ∷ (true ∷ [])))))
reader_meets = refl

-- it leaves the map, and is answered that it is in order
outside_leaves : after (x_has (49 ∷ [])) (of_both false) ≡ x_has (49 ∷ [])
outside_leaves = refl

outside_reported : replies (opened empty) (put_x 49 ∷ (of_both false ∷ (get_x ∷ (of_x true ∷ [])))) ≡ Absent ∷ (Ordered ∷ (Present (49 ∷ []) ∷ (Ordered ∷ [])))
outside_reported = refl

-- one of x and y at replica 0 and a put of y at replica 1, at once: the put came first to replica 1
abbrev outside_and_put : Played
outside_and_put = play 1 fresh (Proposal 0 (of_both false) ∷ (Proposal 1 put_y ∷ given (1 ∷ 2 ∷ 3 ∷ 4 ∷ 5 ∷ 6 ∷ 7 ∷ 8 ∷ []) []))

outside_and_put_commit : map (λ i. committed outside_and_put 2 i) (instance_of 0 1 ∷ instance_of 1 1 ∷ [])
    ≡ Some (decree (of_both false) 2 (instance_of 1 1 ∷ [])) ∷ Some (decree put_y 1 []) ∷ []
outside_and_put_commit = refl

-- two that only read depend on the put before both, and not on one another
abbrev outside_reads : Played
outside_reads = play 1 fresh (Proposal 0 put_y ∷ given (1 ∷ 2 ∷ 3 ∷ 4 ∷ []) (Proposal 0 (of_both true) ∷ (Proposal 1 (of_both true) ∷ given (5 ∷ 6 ∷ 7 ∷ 8 ∷ 9 ∷ 10 ∷ 11 ∷ 12 ∷ []) [])))

outside_reads_commit : map (λ i. committed outside_reads 2 i) (instance_of 0 2 ∷ instance_of 1 1 ∷ [])
    ≡ Some (decree (of_both true) 2 (instance_of 0 1 ∷ [])) ∷ Some (decree (of_both true) 2 (instance_of 0 1 ∷ [])) ∷ []
outside_reads_commit = refl
