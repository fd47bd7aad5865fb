-- What the code's choice stands for in the rules, and the choice after some of its cases are ruled out.
use Rattle.std.specs.Prelude.{ℕ, ◌&&◌, eqb, Option}
use Rattle.ep_base.specs.Quorums.{size}
use Rattle.ep_base.specs.declared.vote.Vote.{Vote}
use Rattle.ep_prepare.specs.declared.choice.Choice.{Choice}
use Rattle.ep_prepare.specs.declared.choice.Choice.TheVariants.{Commit, Accept, AcceptFast, Propose, ProposeNoop}
use Rattle.ep_rules.specs.Counting.{least}
use Rattle.ep_rules.specs.Recovery as rules
use Rattle.ep_rules.specs.Recovery.{choose_at, votes, did_commit, did_accept_at, did_preaccept_at, is_fast_witness}

abbrev pub chosen : Choice → rules.Choice
chosen (Commit x) = rules.CommitIt x.now
chosen (Accept x) = rules.AcceptIt x.now
chosen (AcceptFast x) = rules.AcceptFast x.now
chosen (Propose c) = rules.ProposeIt c.now
chosen ProposeNoop = rules.ProposeNoop

-- `top` is the greatest ballot at which a replica voted.

-- no answer may have been committed
abbrev pub choose_command : ℕ → ℕ → (ℕ → Option (Option Vote)) → rules.Choice
choose_command f top vote = choose_at vote (least (size f) (λ r. votes (did_preaccept_at top) (vote r))) (λ x. rules.ProposeIt x.command) rules.ProposeNoop

-- no answer is committed or accepted at `top`
abbrev pub choose_voted : ℕ → ℕ → ℕ → (ℕ → Option (Option Vote)) → rules.Choice
choose_voted f l top vote = choose_at vote (least (size f) (λ r. eqb top l && is_fast_witness f l vote r)) (λ x. rules.AcceptFast x) (choose_command f top vote)

-- no answer is committed
abbrev pub choose_uncommitted : ℕ → ℕ → ℕ → (ℕ → Option (Option Vote)) → rules.Choice
choose_uncommitted f l top vote = choose_at vote (least (size f) (λ r. votes (did_accept_at top) (vote r))) (λ x. rules.AcceptIt x) (choose_voted f l top vote)

-- all five cases
abbrev pub choose_with : ℕ → ℕ → ℕ → (ℕ → Option (Option Vote)) → rules.Choice
choose_with f l top vote = choose_at vote (least (size f) (λ r. votes did_commit (vote r))) (λ x. rules.CommitIt x) (choose_uncommitted f l top vote)
