-- Worked runs in which f+1 replicas end an instance alone.
use Rattle.std.proofs.Common.{◌≡◌, ℕ, List, [], ◌∷◌, map, Option, Some, None, refl}
use Rattle.ep_base.specs.Instances.{instance_of}
use Rattle.ep_base.specs.Commands.{Noop}
use Rattle.ep_laws.proofs.Playing.{Line, Proposal, Recovery, Deliver, Played, play, fresh, given, committed, put_x, decree}

-- the leader has committed on the fast path, and stops before anybody hears of it: replica 2 finds replica 1's vote, and both have it accepted
abbrev stopped : Played
stopped = play 1 fresh (Proposal 0 (put_x 49) ∷ given (1 ∷ 2 ∷ []) (Recovery 2 (instance_of 0 1) ∷ given (6 ∷ 7 ∷ 9 ∷ 10 ∷ []) []))

stopped_commits : map (λ r. committed stopped r (instance_of 0 1)) (0 ∷ 1 ∷ 2 ∷ []) ≡ Some (decree (put_x 49) 1 []) ∷ None ∷ Some (decree (put_x 49) 1 []) ∷ []
stopped_commits = refl

stopped_takes_all : stopped.refused ≡ []
stopped_takes_all = refl

-- a race of two recoveries with one counter, and the leader has stopped: replica 1 hears of a counter that isn't above its own, and its second ballot is above both
abbrev raced : List Line → Played
raced ls = play 1 fresh (Proposal 0 (put_x 49) ∷ (Recovery 1 (instance_of 0 1) ∷ (Recovery 2 (instance_of 0 1) ∷ given (3 ∷ 6 ∷ []) (Recovery 1 (instance_of 0 1) ∷ ls))))

raced_commits : map (λ r. committed (raced (given (8 ∷ 9 ∷ 11 ∷ 12 ∷ 14 ∷ 15 ∷ []) [])) r (instance_of 0 1)) (0 ∷ 1 ∷ 2 ∷ []) ≡ None ∷ Some (decree Noop 1 []) ∷ None ∷ []
raced_commits = refl

raced_takes_all : (raced (given (8 ∷ 9 ∷ 11 ∷ 12 ∷ 14 ∷ 15 ∷ []) [])).refused ≡ []
raced_takes_all = refl

-- of five replicas two have stopped, all that voted for it but one among them: the one that was spared has committed, and its answer is enough
abbrev reported_one : Played
reported_one = play 2 fresh (Proposal 0 (put_x 49) ∷ given (1 ∷ 2 ∷ 3 ∷ 4 ∷ 5 ∷ 6 ∷ 10 ∷ []) (Recovery 2 (instance_of 0 1) ∷ given (13 ∷ 14 ∷ 15 ∷ 16 ∷ []) []))

reported_one_commits : map (λ r. committed reported_one r (instance_of 0 1)) (1 ∷ 2 ∷ 3 ∷ 4 ∷ []) ≡ None ∷ Some (decree (put_x 49) 1 []) ∷ None ∷ Some (decree (put_x 49) 1 []) ∷ []
reported_one_commits = refl

reported_one_takes_all : reported_one.refused ≡ []
reported_one_takes_all = refl
