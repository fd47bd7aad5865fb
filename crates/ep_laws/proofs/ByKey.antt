-- What a look finds for a command that only reads rests on its keys alone.
use Rattle.std.proofs.Common.{◌≡◌, ℕ, Bool, true, false, cond, not, ◌&&◌, eqb, Option, Some, None, List, [], ◌∷◌, refl, sym, ap, ◌∙◌}
use Rattle.std.specs.Prelude.{◌||◌}
use Rattle.ep_base.specs.Commands.{Command}
use Rattle.ep_base.specs.Interference.{keys_of, only_reads, is_seal, share_key, interfere}
use Rattle.ep_base.specs.Sameness.{is_noop}
use Rattle.ep_base.specs.declared.vote.Vote.{Vote}
use Rattle.ep_rules.specs.InterferenceSet.{votes_against, touches, those, instances}
use Rattle.ep_rules.specs.Maps.{entries}
use Rattle.ep_rules.specs.declared.record.Record.{Record}
use Rattle.ep_base.proofs.Footprints.{reader_no_seal}
use Rattle.ep_laws.proofs.Reading.{reader_real}
use Rattle.ep_laws.specs.AheadReads.{LooksGoByKey}

-- all that interference asks of a command that only reads
interferes : (c : Command) → only_reads c ≡ true → (d : Command) → interfere c d ≡ ((share_key (keys_of c) (keys_of d) && not (only_reads d)) || (is_seal d && not (is_noop d)))
interferes c r d =
    ap (λ b. (share_key (keys_of c) (keys_of d) && not (b && only_reads d)) || ((is_seal c || is_seal d) && not (is_noop c || is_noop d))) r
    ∙ ap (λ b. (share_key (keys_of c) (keys_of d) && not (only_reads d)) || ((b || is_seal d) && not (is_noop c || is_noop d))) (reader_no_seal c r)
    ∙ ap (λ b. (share_key (keys_of c) (keys_of d) && not (only_reads d)) || (is_seal d && not (b || is_noop d))) (reader_real c r)

module _ (c d : Command) (same : (x : Command) → interfere c x ≡ interfere d x) where
  same_votes : (o : Option Vote) → votes_against c o ≡ votes_against d o
  same_votes None = refl
  same_votes (Some v) = same v.decree.command

  same_found : (es : List (ℕ × Record)) → instances (those (touches c 0) es) ≡ instances (those (touches d 0) es)
  same_found [] = refl
  same_found (e ∷ es) = ap (λ b. instances (cond (not (eqb e.0 0) && b) (e ∷ those (touches c 0) es) (those (touches c 0) es))) (same_votes e.1.vote) ∙ go (touches d 0 e) (same_found es)
    where
      go : (b : Bool) → instances (those (touches c 0) es) ≡ instances (those (touches d 0) es) →
          instances (cond b (e ∷ those (touches c 0) es) (those (touches c 0) es)) ≡ instances (cond b (e ∷ those (touches d 0) es) (those (touches d 0) es))
      go true rec = ap (λ is. e.0 ∷ is) rec
      go false rec = rec

pub looks_go_by_key_lem : LooksGoByKey
looks_go_by_key_lem s c d rc rd e =
    same_found c d
    (λ x. interferes c rc x ∙ ap (λ ks. (share_key ks (keys_of x) && not (only_reads x)) || (is_seal x && not (is_noop x))) e ∙ sym (interferes d rd x))
    (entries s.records)
