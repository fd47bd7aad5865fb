-- What the calls of nodes do through generations are moves of a life.
use Rattle.std.proofs.Common.{◌≡◌, ℕ, suc, ◌+◌, ◌<◌, ◌≤◌, Bool, true, false, cond, eqb, None, List, [], ◌∷◌, ◌++◌, length, take, refl, sym, ap, subst, ◌∙◌, arith}
use Rattle.std.proofs.lemmas.Bool.{eqb-true}
use Rattle.std.proofs.lemmas.List.{take_all}
use Rattle.ep_base.specs.Quorums.{size}
use Rattle.ep_base.specs.Versions.{generation_of}
use Rattle.ep_base.specs.declared.version.Version.{Version}
use Rattle.ep_base.specs.declared.version_kind.VersionKind.TheVariants.{V3}
use Rattle.ep_journal.specs.Entries.{entry_of, entries_of, IsEntryIn}
use Rattle.ep_journal.specs.Events.{event_of, lacking}
use Rattle.ep_journal.specs.Openings.{Opening}
use Rattle.ep_journal.specs.declared.entry.Entry.{Entry}
use Rattle.ep_journal.specs.declared.event.Event.{Event as Happening}
use Rattle.ep_journal.specs.declared.event.Event.TheVariants.{Handle}
use Rattle.ep_journal.proofs.Growing.{count_entries}
use Rattle.ep_log.specs.Crashing.{AreFirst}
use Rattle.ep_opening.specs.Closing.{IsClosing, store_of}
use Rattle.ep_opening.specs.Files.{File}
use Rattle.ep_replica.specs.Applied.{Applied}
use Rattle.ep_replica.specs.Kept.{Kept}
use Rattle.ep_rules.specs.Journals.{IsAmong, AreNumbered, left, stamp_after}
use Rattle.ep_rules.specs.Journals as rules
use Rattle.ep_rules.specs.OneMap.{Contents, Store, opened, is_closed}
use Rattle.ep_rules.specs.States.{fresh_state}
use Rattle.ep_rules.specs.Worlds.{In}
use Rattle.ep_rules.proofs.Sorted.{stamp_reached}
use Rattle.ep_node.specs.Calls.{IsNode, Makes, StartsFrom}
use Rattle.ep_node.specs.CrashLives.{Generations, newborn, start_of, store_out, HasSealed, LifeMove, Within, OpensNext, IsLifeMove, after_move, AreLifeMoves, life_after, stand_on, IsLifeInRealTime, AreOpen, AreChained}
use Rattle.ep_node.specs.Crashes.{Start, Cluster, Move, Take, HandOut, ComeBack, mover, IsMove, with_at, moved, handed_out, standing}
use Rattle.ep_node.specs.LifeCalls.{HasLived, IsNodeIn, MakesIn, HasHandedOn, OpensWith, WasHandedOut, IsElsewhere, LifeCallsAreMoves}
use Rattle.ep_node.proofs.CallMoves.{calls_are_moves_lem}
use Rattle.ep_node.proofs.CrashLives.{same_on, Same, crashing_lives_are_linearizable_lem}
use Rattle.ep_node.proofs.CrashMoves.{at_same}
use Rattle.ep_node.proofs.LifeChains.{crashing_lives_are_chains_lem}
use Rattle.ep_node.proofs.LifeFrames.{among_lem, frame_out, framed_in, in_entries_of, stays_out_lem}
use Rattle.ep_node.proofs.Opened.{entries_of-take}
use Rattle.ep_node.proofs.LifeStays.{IsUntouched, AreUntouched, untouched_after, untouched_first, AllNumbered, numbered_after, store_stays, sealed_stays, at_opened, has_now}
use Rattle.ep_node.proofs.Sealed.{Seals, sealing}

-- One move more.

are_more : (f : ℕ → ℕ) (l : Generations) (ms : List LifeMove) (m : LifeMove) → AreLifeMoves f l ms → IsLifeMove f (life_after f l ms) m → AreLifeMoves f l (ms ++ (m ∷ []))
are_more f l [] m k h = (h, tt)
are_more f l (x ∷ ms) m k h = (k.0, are_more f (after_move f l x) ms m k.1 h)

after_more : (f : ℕ → ℕ) (l : Generations) (ms : List LifeMove) (m : LifeMove) → life_after f l (ms ++ (m ∷ [])) ≡ after_move f (life_after f l ms) m
after_more f l [] m = refl
after_more f l (x ∷ ms) m = after_more f (after_move f l x) ms m

lives_on_lem : (start : Start) (f : ℕ → ℕ) (l : Generations) (m : LifeMove) → HasLived start f l → IsLifeMove f l m → HasLived start f (after_move f l m)
lives_on_lem start f l m h k = record {
  moves = h.moves ++ (m ∷ []);
  are = are_more f (newborn start) h.moves m h.are (subst (λ (x : Generations). IsLifeMove f x m) (sym h.leave) k);
  leave = after_more f (newborn start) h.moves m ∙ ap (λ (x : Generations). after_move f x m) h.leave;
}

-- What holds of what has lived.

untouched : (start : Start) (f : ℕ → ℕ) (l : Generations) → HasLived start f l → AreUntouched l
untouched start f l h = subst AreUntouched h.leave (untouched_after f (newborn start) h.moves h.are (untouched_first start))

numbered : (start : Start) (f : ℕ → ℕ) (l : Generations) → HasLived start f l → AllNumbered l
numbered start f l h = subst AllNumbered h.leave (numbered_after f (newborn start) h.moves h.are (λ g r. tt))

-- Within a generation.

within : (first : ℕ) (f : ℕ → ℕ) (l : Generations) (g n : ℕ) (m : Move) (k : Kept) → k.version ≡ V3 (first + g) → l.has_opened g k.me ≡ true → mover m ≡ k.me →
    Makes (start_of l g k.me) (f g) (l.cluster g) m k n → MakesIn first f l (Within g m) g k n
within first f l g n m k version has is makes = record {
  move = (
    subst (λ (r : ℕ). l.has_opened g r ≡ true) (sym is) has,
    subst (λ (r : ℕ). IsMove (start_of l g r) (f g) (l.cluster g) m) (sym is) makes.move,
  );
  node = record {
    version = version;
    has_opened = has;
    node = subst (λ (c : Cluster). IsNode (start_of l g k.me) (f g) c k n) (sym (at_same g (moved (l.cluster g) m) l.cluster)) makes.node;
  };
}

module _ (first : ℕ) (f : ℕ → ℕ) (l : Generations) (g n : ℕ) (k : Kept) (h : IsNodeIn first f l g k n) where
  takes_lem : (k' : Kept) (event : Happening) (e : Entry) → WasHandedOut first l event → Applied k event e k' → MakesIn first f l (Within g (Take k.me (entry_of e))) g k' n
  takes_lem k' event e out a =
      let own : lacking (V3 (first + g)) event ≡ None =
      subst (λ (v : Version). lacking v event ≡ None) h.version (subst (λ (z : Happening). lacking k.version z ≡ None) a.event a.versioned.event) in
      let among : IsAmong (l.cluster g).given (event_of event) = among_lem first l g event out own in
      let grown : Kept = record k { entries = k.entries ++ e ∷ [] } in
      let makes : Makes (start_of l g k.me) (f g) (l.cluster g) (Take k.me (entry_of e)) grown n =
      subst (λ (z : Kept). Makes (start_of l g k.me) (f g) (l.cluster g) (Take k.me (entry_of e)) z n) a.appended
      (calls_are_moves_lem.takes (start_of l g k.me) (f g) n (l.cluster g) k k' event e h.node among a) in
      subst (λ (z : Kept). MakesIn first f l (Within g (Take k.me (entry_of e))) g z n) (sym a.appended)
      (within first f l g n (Take k.me (entry_of e)) grown h.version h.has_opened refl makes)

  syncs_lem : (m : ℕ) → n ≤ m → m ≤ length k.entries → IsNodeIn first f l g k m
  syncs_lem m more within = record { version = h.version; has_opened = h.has_opened; node = calls_are_moves_lem.syncs (start_of l g k.me) (f g) n m (l.cluster g) k h.node more within }

  abbrev lent_to : LifeMove
  lent_to = Within g (HandOut k.me n)

  lends_lem : MakesIn first f l lent_to g k n
  lends_lem = within first f l g n (HandOut k.me n) k h.version h.has_opened refl (calls_are_moves_lem.lends (start_of l g k.me) (f g) n (l.cluster g) k h.node)

  first_out : handed_out ((after_move f l lent_to).cluster g) k.me ≡ entries_of (take n k.entries)
  first_out =
      ap (λ (c : Cluster). handed_out c k.me) (at_same g (moved (l.cluster g) (HandOut k.me n)) l.cluster)
      ∙ ap (λ (m : ℕ). take m ((l.cluster g).journal k.me)) (at_same k.me n (l.cluster g).out)
      ∙ ap (λ (es : List rules.Entry). take n es) h.node.journal
      ∙ sym (entries_of-take n k.entries)

  sends_lem : (start : Start) (e : Entry) (b : List ℕ) → HasLived start f l → In e (take n k.entries) → IsEntryIn k.version e → In b e.frames → WasHandedOut first (after_move f l lent_to) (Handle b)
  sends_lem start e b lived stands is out =
      frame_out start first f (after_move f l lent_to) g k.me e b (lives_on_lem start f l lent_to lived lends_lem.move)
      (subst (λ (es : List rules.Entry). In (entry_of e) es) (sym first_out) (in_entries_of e (take n k.entries) stands))
      (framed_in k.version b e.frames is.frames out ∙ h.version) out

  comes_back_lem : (es : List Entry) → AreFirst n k.entries es → MakesIn first f l (Within g (ComeBack k.me (length es))) g (record k { entries = es }) (length es)
  comes_back_lem es a =
      within first f l g (length es) (ComeBack k.me (length es)) (record k { entries = es }) h.version h.has_opened refl
      (calls_are_moves_lem.comes_back (start_of l g k.me) (f g) n (l.cluster g) k es h.node a)

  -- of another's move, at the node's generation
  other_move : (m : Move) (j : ℕ) → (j ≡ g → mover m ≡ k.me → ⊥) → IsNode (start_of l g k.me) (f g) (with_at j (moved (l.cluster j) m) l.cluster g) k n
  other_move m j other = go (eqb j g) refl
    where
      go : (b : Bool) → eqb j g ≡ b → IsNode (start_of l g k.me) (f g) (cond b (moved (l.cluster j) m) (l.cluster g)) k n
      go true e =
          let is = eqb-true j g e in
          subst (λ (i : ℕ). IsNode (start_of l g k.me) (f g) (moved (l.cluster i) m) k n) (sym is)
          (calls_are_moves_lem.others (start_of l g k.me) (f g) n (l.cluster g) k m h.node (other is))
      go false e = h.node

  others_lem : (m : LifeMove) → IsLifeMove f l m → IsElsewhere g k.me m → IsNodeIn first f (after_move f l m) g k n
  others_lem (Within j m) move other = record { version = h.version; has_opened = h.has_opened; node = other_move m j other }
  others_lem (OpensNext j p q base_stamp) move other =
      let same : Same l (after_move f l (OpensNext j p q base_stamp)) g k.me = same_on f l (OpensNext j p q base_stamp) move g k.me h.has_opened in
      record {
        version = h.version;
        has_opened = same.has;
        node = record {
          opening = record { map = h.node.opening.map ∙ sym same.map; base_stamp = h.node.opening.base_stamp ∙ sym same.base_stamp };
          faults = h.node.faults;
          member = h.node.member;
          journal = h.node.journal;
          out = h.node.out;
          synced = h.node.synced;
        };
      }

-- Handing on.

-- the map that the entries leave of which something has been handed out, of a node that lent its replica
module _ (first : ℕ) (f : ℕ → ℕ) (l : Generations) (g : ℕ) (k : Kept) (h : IsNodeIn first f l g k (length k.entries)) where
  abbrev lent : LifeMove
  lent = Within g (HandOut k.me (length k.entries))

  all_out : handed_out ((after_move f l lent).cluster g) k.me ≡ entries_of k.entries
  all_out =
      ap (λ (c : Cluster). handed_out c k.me) (at_same g (moved (l.cluster g) (HandOut k.me (length k.entries))) l.cluster)
      ∙ ap (λ (n : ℕ). take n ((l.cluster g).journal k.me)) (at_same k.me (length k.entries) (l.cluster g).out)
      ∙ ap (λ (es : List rules.Entry). take (length k.entries) es) h.node.journal
      ∙ take_all (length k.entries) (entries_of k.entries) (let same = count_entries k.entries in omega arith)

  store_is : store_out f (after_move f l lent) g k.me ≡ store_of k
  store_is =
      ap (λ (es : List rules.Entry). (left (f g) k.me (fresh_state (opened (l.map g k.me))) es).store) all_out
      ∙ ap (λ (x : Contents). (left (f g) k.me (fresh_state (opened x)) (entries_of k.entries)).store) (sym h.node.opening.map)
      ∙ ap (λ (x : ℕ). (left x k.me (fresh_state (opened k.opening.contents)) (entries_of k.entries)).store) (sym h.node.faults)

  -- an entry executed the seal
  sealed : (start : Start) (base_stamp : ℕ) → HasLived start f l → is_closed (store_of k) ≡ true → base_stamp ≡ stamp_after k.opening.base_stamp (entries_of k.entries) → HasSealed f (after_move f l lent) g k.me base_stamp
  sealed start base_stamp lived closed is =
      let own : is_closed (left (f g) k.me (fresh_state (opened (l.map g k.me))) (handed_out ((after_move f l lent).cluster g) k.me)).store ≡ true = ap is_closed store_is ∙ closed in
      let s : Seals (f g) k.me (fresh_state (opened (l.map g k.me))) (handed_out ((after_move f l lent).cluster g) k.me) =
      sealing (f g) k.me (fresh_state (opened (l.map g k.me))) (handed_out ((after_move f l lent).cluster g) k.me) refl own in
      let rising : AreNumbered 1 0 (entries_of k.entries) = subst (λ (es : List rules.Entry). AreNumbered 1 0 es) h.node.journal (numbered start f l lived g k.me) in
      let low : s.entry.stamp ≤ stamp_after k.opening.base_stamp (entries_of k.entries) =
      stamp_reached 1 0 k.opening.base_stamp (entries_of k.entries) s.entry rising (subst (λ (es : List rules.Entry). In s.entry es) all_out s.stands) in
      record {
        entry = s.entry;
        stands = s.stands;
        instance = s.instance;
        executes = s.executes;
        decree = s.decree;
        committed = s.committed;
        seals = s.seals;
        reached = omega (arith, low, is);
      }

  closes_lem : (start : Start) (file : File) → HasLived start f l → IsClosing k (f (suc g)) file → HasHandedOn first f (after_move f l lent) g k.me file
  closes_lem start file lived c = record {
    generation = (let own : file.generation ≡ suc (first + g) = c.generation ∙ ap (λ (v : Version). suc (generation_of v)) h.version in omega (arith, own));
    faults = c.faults;
    has_opened = h.has_opened;
    closed = ap is_closed store_is ∙ c.closed;
    map = ap (λ (s : Store). s.contents) store_is ∙ sym c.contents;
    sealed = sealed start file.opening.base_stamp lived c.closed c.base_stamp;
  }

module _ (first : ℕ) (f : ℕ → ℕ) (l : Generations) (g q : ℕ) (file : File) (h : HasHandedOn first f l g q file) where
  stays_lem : (m : LifeMove) → IsLifeMove f l m → HasHandedOn first f (after_move f l m) g q file
  stays_lem m move =
      let same : Same l (after_move f l m) g q = same_on f l m move g q h.has_opened in
      let is = store_stays f l g q h.has_opened h.closed m move in
      record {
        generation = h.generation;
        faults = h.faults;
        has_opened = same.has;
        closed = ap is_closed is ∙ h.closed;
        map = ap (λ (s : Store). s.contents) is ∙ h.map;
        sealed = sealed_stays f l g q h.has_opened file.opening.base_stamp h.sealed m move;
      }

-- Opening the next generation.

opens_lem : (start : Start) (first : ℕ) (f : ℕ → ℕ) (l : Generations) (g q : ℕ) (file : File) (k : Kept) → HasLived start f l → HasHandedOn first f l g q file → OpensWith file k →
    l.has_opened (suc g) k.me ≡ false → MakesIn first f l (OpensNext g k.me q file.opening.base_stamp) (suc g) k 0
opens_lem start first f l g q file k lived on w new =
    let none : IsUntouched (l.cluster (suc g)) k.me = untouched start f l lived (suc g) k.me new in
    record {
      move = (new, on.has_opened, on.closed, on.sealed);
      node = record {
        version = w.version ∙ ap (λ (n : ℕ). V3 n) on.generation;
        has_opened = has_now g k.me l.has_opened;
        node = record {
          opening = record {
            map = ap (λ (o : Opening). o.contents) w.opening ∙ sym on.map ∙ sym (at_opened g k.me (store_out f l g q).contents (l.map (suc g) k.me));
            base_stamp = ap (λ (o : Opening). o.base_stamp) w.opening ∙ sym (at_opened g k.me file.opening.base_stamp (l.base_stamp (suc g) k.me));
          };
          faults = w.faults ∙ on.faults;
          member = subst (λ (n : ℕ). k.me < size n) (w.faults ∙ on.faults) w.member;
          journal = none.0 ∙ sym (ap entries_of w.entries);
          out = let e = none.1 in omega (arith, e);
          synced = omega arith;
        };
      };
    }

begins_lem : (start : Start) (first : ℕ) (f : ℕ → ℕ) (k : Kept) → StartsFrom start k → k.version ≡ V3 first → k.faults ≡ f 0 → k.me < size k.faults → k.entries ≡ [] →
    IsNodeIn first f (newborn start) 0 k 0
begins_lem start first f k opening version faults member none =
    let same : first ≡ first + 0 = omega arith in
    record {
      version = version ∙ ap (λ (n : ℕ). V3 n) same;
      has_opened = refl;
      node = record {
        opening = record { map = opening.map; base_stamp = opening.base_stamp };
        faults = faults;
        member = subst (λ (n : ℕ). k.me < size n) faults member;
        journal = sym (ap entries_of none);
        out = omega arith;
        synced = omega arith;
      };
    }

pub life_calls_are_moves_lem : LifeCallsAreMoves
life_calls_are_moves_lem = record {
  born = λ start f. record { moves = []; are = tt; leave = refl };
  lives_on = lives_on_lem;
  is_life = λ start f l sizes h. subst (λ (x : Generations). IsLifeInRealTime start f x (standing stand_on [] h.moves)) h.leave (crashing_lives_are_linearizable_lem start f sizes h.moves h.are);
  is_chain = λ start f l sizes h.
      subst (λ (x : Generations). (n : ℕ) → AreOpen x n → AreChained start f x (standing stand_on [] h.moves) n) h.leave (crashing_lives_are_chains_lem start f sizes h.moves h.are);
  begins = begins_lem;
  takes = λ first f l g n k k' event e h out a. takes_lem first f l g n k h k' event e out a;
  syncs = λ first f l g n m k h more within. syncs_lem first f l g n k h m more within;
  lends = λ first f l g n k h. lends_lem first f l g n k h;
  sends = λ start first f l g n k e b lived h stands is out. sends_lem first f l g n k h start e b lived stands is out;
  stays_out = stays_out_lem;
  comes_back = λ first f l g n k es h a. comes_back_lem first f l g n k h es a;
  closes = λ start first f l g k file lived h c. (lends_lem first f l g (length k.entries) k h, closes_lem first f l g k h start file lived c);
  stays = λ first f l g q file m h move. stays_lem first f l g q file h m move;
  opens = opens_lem;
  others = λ first f l g n k m h move other. others_lem first f l g n k h m move other;
}
