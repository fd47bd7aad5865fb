-- What a node's calls do are moves.
use Rattle.std.proofs.Common.{◌≡◌, ℕ, ◌+◌, ◌≤◌, max, List, [], ◌∷◌, ◌++◌, length, take, refl, sym, ap, subst, ◌∙◌, arith, length-append}
use Rattle.std.proofs.lemmas.List.{length-take-le}
use Rattle.ep_journal.specs.Entries.{entry_of, entries_of}
use Rattle.ep_journal.specs.Events.{event_of}
use Rattle.ep_journal.specs.declared.entry.Entry.{Entry}
use Rattle.ep_journal.specs.declared.event.Event.{Event as Happening}
use Rattle.ep_journal.proofs.Growing.{count_entries}
use Rattle.ep_log.specs.Crashing.{AreFirst}
use Rattle.ep_replica.specs.Applied.{Applied}
use Rattle.ep_replica.specs.Kept.{Kept}
use Rattle.ep_rules.specs.Journals.{IsAmong, IsEntry, left, stamp_after, heard}
use Rattle.ep_rules.specs.Journals as rules
use Rattle.ep_rules.specs.States.{fresh_state}
use Rattle.ep_node.specs.Calls.{CallsAreMoves, IsNode, Makes, StartsFrom}
use Rattle.ep_node.specs.Crashes.{Cluster, Start, IsTaken, Move, Take, HandOut, ComeBack, mover, moved}
use Rattle.ep_node.proofs.CrashMoves.{at_same}
use Rattle.ep_node.proofs.CrashTraces.{at_other}
use Rattle.ep_node.proofs.Opened.{entries_of-take}
use Rattle.ep_rules.specs.OneMap.{Contents, opened}

entries_of-push : (es : List Entry) (e : Entry) → entries_of (es ++ e ∷ []) ≡ entries_of es ++ (entry_of e ∷ [])
entries_of-push [] e = refl
entries_of-push (x ∷ es) e = ap (λ (l : List rules.Entry). entry_of x ∷ l) (entries_of-push es e)

module _ (start : Start) (f n : ℕ) (c : Cluster) (k : Kept) (h : IsNode start f c k n) where
  count : length (c.journal k.me) ≡ length k.entries
  count = ap (λ (es : List rules.Entry). length es) h.journal ∙ count_entries k.entries

  taken : (event : Happening) (e : Entry) (k' : Kept) → Applied k event e k' → IsTaken start f k.me (c.journal k.me) (entry_of e)
  taken event e k' a = record {
    entry = subst (λ (es : List rules.Entry). IsEntry f k.me (left f k.me (fresh_state (opened start.map)) es) (entry_of e)) (sym h.journal)
        (subst (λ (g : ℕ). IsEntry g k.me (left g k.me (fresh_state (opened start.map)) (entries_of k.entries)) (entry_of e)) h.faults
        (subst (λ (m : Contents). IsEntry k.faults k.me (left k.faults k.me (fresh_state (opened m)) (entries_of k.entries)) (entry_of e)) h.opening.map a.step));
    number = a.number ∙ ap (λ (m : ℕ). m + 1) (sym count);
    stamp = subst (λ (es : List rules.Entry). e.stamp ≡ 1 + max (stamp_after (start.base_stamp k.me) es) (heard (event_of e.event))) (sym h.journal)
        (subst (λ (z : Happening). e.stamp ≡ 1 + max (stamp_after (start.base_stamp k.me) (entries_of k.entries)) (heard (event_of z))) (sym a.event)
        (subst (λ (m : ℕ). e.stamp ≡ 1 + max (stamp_after m (entries_of k.entries)) (heard (event_of event))) h.opening.base_stamp a.stamp));
    marked = a.marked;
  }

  of_entries : (es : List Entry) → StartsFrom start (record k { entries = es })
  of_entries es = record { map = h.opening.map; base_stamp = h.opening.base_stamp }

  grown : (e : Entry) → IsNode start f (moved c (Take k.me (entry_of e))) (record k { entries = k.entries ++ e ∷ [] }) n
  grown e = record {
    opening = of_entries (k.entries ++ e ∷ []);
    faults = h.faults;
    member = h.member;
    journal = at_same k.me (c.journal k.me ++ (entry_of e ∷ [])) c.journal ∙ ap (λ (es : List rules.Entry). es ++ (entry_of e ∷ [])) h.journal ∙ sym (entries_of-push k.entries e);
    out = h.out;
    synced = let more = length-append k.entries (e ∷ []) in let within = h.synced in omega (arith, more, within);
  }

  takes_lem : (k' : Kept) (event : Happening) (e : Entry) → IsAmong c.given (event_of event) → Applied k event e k' → Makes start f c (Take k.me (entry_of e)) k' n
  takes_lem k' event e among a = record {
    move = (h.member, taken event e k' a, subst (λ (z : Happening). IsAmong c.given (event_of z)) (sym a.event) among);
    node = subst (λ (z : Kept). IsNode start f (moved c (Take k.me (entry_of e))) z n) (sym a.appended) (grown e);
  }

  syncs_lem : (m : ℕ) → n ≤ m → m ≤ length k.entries → IsNode start f c k m
  syncs_lem m more within = record {
    opening = h.opening;
    faults = h.faults;
    member = h.member;
    journal = h.journal;
    out = let out = h.out in omega (arith, out, more);
    synced = within;
  }

  lends_lem : Makes start f c (HandOut k.me n) k n
  lends_lem = record {
    move = (h.member, record { least = h.out; most = let within = h.synced in omega (arith, count, within) });
    node = record {
      opening = h.opening;
      faults = h.faults;
      member = h.member;
      journal = h.journal;
      out = let now = at_same k.me n c.out in omega (arith, now);
      synced = h.synced;
    };
  }

  first : (es : List Entry) (a : AreFirst n k.entries es) → length es ≡ a.count
  first es a = ap (λ (l : List Entry). length l) a.are ∙ length-take-le a.count k.entries a.most

  comes_back_lem : (es : List Entry) → AreFirst n k.entries es → Makes start f c (ComeBack k.me (length es)) (record k { entries = es }) (length es)
  comes_back_lem es a =
      let long = first es a in
      let out = h.out in
      let least = a.least in
      let most = a.most in
      record {
        move = (h.member, record { least = omega (arith, long, out, least); most = omega (arith, long, most, count) });
        node = record {
          opening = of_entries es;
          faults = h.faults;
          member = h.member;
          journal = at_same k.me (take (length es) (c.journal k.me)) c.journal
              ∙ ap (λ (m : ℕ). take m (c.journal k.me)) long
              ∙ ap (λ (l : List rules.Entry). take a.count l) h.journal
              ∙ sym (entries_of-take a.count k.entries)
              ∙ ap (λ (l : List Entry). entries_of l) (sym a.are);
          out = omega (arith, long, out, least);
          synced = omega arith;
        };
      }

  others_lem : (m : Move) → (mover m ≡ k.me → ⊥) → IsNode start f (moved c m) k n
  others_lem (Take r e) other = record {
    opening = h.opening;
    faults = h.faults;
    member = h.member;
    journal = at_other r k.me (c.journal r ++ (e ∷ [])) c.journal other ∙ h.journal;
    out = h.out;
    synced = h.synced;
  }
  others_lem (HandOut r j) other = record {
    opening = h.opening;
    faults = h.faults;
    member = h.member;
    journal = h.journal;
    out = subst (λ (m : ℕ). m ≤ n) (sym (at_other r k.me j c.out other)) h.out;
    synced = h.synced;
  }
  others_lem (ComeBack r j) other = record {
    opening = h.opening;
    faults = h.faults;
    member = h.member;
    journal = at_other r k.me (take j (c.journal r)) c.journal other ∙ h.journal;
    out = h.out;
    synced = h.synced;
  }

pub calls_are_moves_lem : CallsAreMoves
calls_are_moves_lem = record {
  begins = λ f me member. record { opening = record { map = refl; base_stamp = refl }; faults = refl; member = member; journal = refl; out = omega arith; synced = omega arith };
  opens = λ start k opening member none. record { opening = opening; faults = refl; member = member; journal = sym (ap entries_of none); out = omega arith; synced = omega arith };
  takes = λ start f n c k k' event e h among a. takes_lem start f n c k h k' event e among a;
  syncs = λ start f n m c k h more within. syncs_lem start f n c k h m more within;
  lends = λ start f n c k h. lends_lem start f n c k h;
  comes_back = λ start f n c k es h a. comes_back_lem start f n c k h es a;
  others = λ start f n c k m h other. others_lem start f n c k h m other;
}
