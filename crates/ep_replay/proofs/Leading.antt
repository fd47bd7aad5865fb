-- From one player to the next.
use Rattle.std.proofs.Common.{◌≡◌, ◌≢◌, inl, inr, ℕ, suc, ◌+◌, ◌<◌, ◌≤◌, Bool, true, false, cond, List, [], Option, ◌∷◌, ◌++◌, length, get_or, drop, refl, sym, ap, subst, ◌∙◌, arith, append-nil, append_assoc}
use Rattle.std.proofs.lemmas.Bool.{false≢true}
use Rattle.std.proofs.Math.Seq.{drop-cons}
use Rattle.std.proofs.lemmas.List.{drop_all}
use Rattle.ep_base.specs.Commands.{Command}
use Rattle.ep_rules.specs.declared.receipt.Receipt.{Receipt}
use Rattle.ep_journal.specs.Entries.{entry_of}
use Rattle.ep_journal.specs.declared.step_fault.StepFault.TheVariants.{Memory}
use Rattle.ep_replica.specs.Receipts.{receipts_of}
use Rattle.ep_journal.specs.declared.refusal.Refusal.{Refusal}
use Rattle.ep_script.specs.Heads.{Head}
use Rattle.ep_script.specs.Plan.{Plan}
use Rattle.ep_script.specs.declared.line.Line.{Line}
use Rattle.ep_script.specs.declared.line.Line.TheVariants as asked
use Rattle.ep_world.specs.Played.{Played, journals_in, collected}
use Rattle.ep_world.specs.Playing.{Happens, IsNotEnabled}
use Rattle.ep_journal.specs.declared.refusal.Refusal.TheVariants.{Step}
use Rattle.ep_world.specs.declared.world_event.WorldEvent.{WorldEvent}
use Rattle.ep_world.specs.declared.world_event.WorldEvent.TheVariants as event
use Rattle.ep_replay.specs.Clients.{times, greatest}
use Rattle.ep_replay.specs.Outcome.{HasEnded, IsReplay}
use Rattle.ep_replay.specs.Replays.{Replay, one_tried, refusal, refusals, IsOpening, Tries, Gives, Plays, PlayAll, AreUngiven, above, with_given, was_sent, with_proposer, proposal}
use Rattle.ep_replay.specs.Tables.{AreCounted, AreFlagged, AreOwn, Behind, IsPlayerOf, nothing, reported, LeadsTo, HasPlayed}
use Rattle.ep_replay.specs.declared.clients.Client.{Client}
use Rattle.ep_replay.specs.declared.clients.Clients.{Clients}
use Rattle.ep_replay.specs.declared.ended.Ended.{Ended}
use Rattle.ep_replay.specs.declared.given.Given.{Given}
use Rattle.ep_replay.specs.declared.outcome.Outcome.{Outcome}
use Rattle.ep_replay.specs.declared.outcome.Outcome.TheVariants.{Took, Refused}
use Rattle.ep_replay.specs.declared.player.Player.{Player}
use Rattle.ep_replay.specs.declared.replayed.Replayed.{Replayed}
use Rattle.ep_replay.specs.declared.tried.Tried.{Tried}
use Rattle.ep_replay.proofs.Receiving.{own_still}

-- One event.

refusals_more : (ts : List Tried) (t : Tried) → refusals (ts ++ t ∷ []) ≡ refusals ts ++ refusal t.line t.outcome
refusals_more [] t = append-nil (refusal t.line t.outcome)
refusals_more (x ∷ ts) t = ap (λ (rs : List (ℕ × Refusal)). refusal x.line x.outcome ++ rs) (refusals_more ts t) ∙ sym (append_assoc (refusal x.line x.outcome) (refusals ts) (refusal t.line t.outcome))

-- the event happened
pub took : (s s' : Player) (line : ℕ) (event : WorldEvent) (h : Happens s.world event s'.world)
    → s'.receipts.items ≡ s.receipts.items ++ receipts_of h.replica (journals_in s'.world h.replica) (entry_of h.entry)
    → s'.refused.items ≡ s.refused.items → s'.given ≡ s.given → s'.keeps ≡ s.keeps
    → (s.keeps ≡ true → s'.tried.items ≡ s.tried.items ++ one_tried line event (Took h.replica h.entry.number (length s.world.messages + 1)) ∷ [])
    → ((ps : List ℕ) → AreCounted s.clients ps s.receipts.items → AreCounted s'.clients ps s'.receipts.items)
    → (AreOwn s'.world s.receipts.items → AreOwn s'.world s'.receipts.items)
    → LeadsTo (λ p q. Tries p line event q) s s'
took s s' line event h receipts refused given keeps kept counted own b t =
    let one : Tried = one_tried line event (Took h.replica h.entry.number (length s.world.messages + 1)) in
    let more : refusals (b.tried ++ one ∷ []) ≡ refusals b.tried = refusals_more b.tried one ∙ append-nil (refusals b.tried) in
    record {
      behind = record { proposers = b.proposers; given = b.given; tried = b.tried ++ one ∷ [] };
      related = inl (record { next = s'.world; happens = h; becomes = (λ i. record { world = s'.world; proposers = b.proposers; given = b.given; receipts = receipts i; tried = b.tried ++ one ∷ [] }) });
      reports = record {
        clients = counted b.proposers t.clients;
        flags = subst (λ (g : Given). AreFlagged g b.given) (sym given) t.flags;
        own = own (own_still s.world s'.world event s.receipts.items h t.own);
        refused = refused ∙ t.refused ∙ sym more;
        log = (λ k. kept (sym keeps ∙ k) ∙ ap (λ (ts : List Tried). ts ++ one ∷ []) (t.log (sym keeps ∙ k)));
      };
      keeps = keeps;
    }

-- nothing is kept of it
pub unkept : {A : Type 0} (k : Bool) → k ≡ false → k ≡ true → A
unkept k isnt is = absurd (false≢true (sym isnt ∙ is))

-- what is kept of an event that happened
pub took_so : (line first k : ℕ) (event copied : WorldEvent) (o : Outcome) (w v : Played) (h : Happens w event v) (old new : List Tried) → copied ≡ event → first ≡ k → o ≡ Took h.replica h.entry.number first → new ≡ old ++ one_tried line copied o ∷ []
    → new ≡ old ++ one_tried line event (Took h.replica h.entry.number k) ∷ []
took_so line first k event copied o w v h old new same at is kept =
    let outcome : o ≡ Took h.replica h.entry.number k = is ∙ ap (λ n. Took h.replica h.entry.number n) at in
    kept ∙ (λ i. old ++ one_tried line (same i) (outcome i) ∷ [])

-- and of one that was refused
pub refused_so : (line : ℕ) (event copied : WorldEvent) (cause : Refusal) (old new : List Tried) → copied ≡ event
    → new ≡ old ++ one_tried line copied (Refused cause) ∷ [] → new ≡ old ++ one_tried line event (Refused cause) ∷ []
refused_so line event copied cause old new same kept = kept ∙ (λ i. old ++ one_tried line (same i) (Refused cause) ∷ [])

-- the event was listed
pub listed : (s s' : Player) (line : ℕ) (event : WorldEvent) (cause : Refusal) → IsNotEnabled s.world event cause → cause ≢ Step Memory
    → s'.refused.items ≡ s.refused.items ++ (line, cause) ∷ []
    → s'.world ≡ s.world → s'.clients ≡ s.clients → s'.receipts.items ≡ s.receipts.items → s'.given ≡ s.given → s'.keeps ≡ s.keeps
    → (s.keeps ≡ true → s'.tried.items ≡ s.tried.items ++ one_tried line event (Refused cause) ∷ [])
    → LeadsTo (λ p q. Tries p line event q) s s'
listed s s' line event cause why is refused world clients receipts given keeps kept b t =
    let one : Tried = one_tried line event (Refused cause) in
    record {
      behind = record { proposers = b.proposers; given = b.given; tried = b.tried ++ one ∷ [] };
      related = inr (record { cause = cause; refused = why; reported = is; becomes = (λ i. record { world = world i; proposers = b.proposers; given = b.given; receipts = receipts i; tried = b.tried ++ one ∷ [] }) });
      reports = record {
        clients = subst (λ (ts : List Receipt). AreCounted s'.clients b.proposers ts) (sym receipts) (subst (λ (cs : Clients). AreCounted cs b.proposers s.receipts.items) (sym clients) t.clients);
        flags = subst (λ (g : Given). AreFlagged g b.given) (sym given) t.flags;
        own = subst (λ (ts : List Receipt). AreOwn s'.world ts) (sym receipts) (subst (λ (w : Played). AreOwn w s.receipts.items) (sym world) t.own);
        refused = refused ∙ ap (λ (rs : List (ℕ × Refusal)). rs ++ (line, cause) ∷ []) t.refused ∙ sym (refusals_more b.tried one);
        log = (λ k. kept (sym keeps ∙ k) ∙ ap (λ (ts : List Tried). ts ++ one ∷ []) (t.log (sym keeps ∙ k)));
      };
      keeps = keeps;
    }

-- One proposal.

-- the client's next request was counted, and then proposed
pub proposed : (s s' : Player) (cs : Clients) (k : Client) (line replica client : ℕ) (command copied : Command) (named : Option ℕ)
    → ((ps : List ℕ) (ts : List Receipt) → AreCounted s.clients ps ts → k.requests ≡ times client ps + 1)
    → ((ps : List ℕ) (ts : List Receipt) → AreCounted s.clients ps ts → k.seen ≡ greatest client ts)
    → ((ps : List ℕ) (ts : List Receipt) → AreCounted s.clients ps ts → AreCounted cs (ps ++ client ∷ []) ts)
    → copied ≡ command
    → LeadsTo (λ p q. Tries p line (event.Propose replica client k.requests copied k.seen named) q) (record s { clients = cs }) s'
    → LeadsTo (λ p q. Tries (with_proposer p client) line (proposal p replica client command named) q) s s'
proposed s s' cs k line replica client command copied named requests seen counted same leads b t =
    let r = leads (record { proposers = b.proposers ++ client ∷ []; given = b.given; tried = b.tried }) (record { clients = counted b.proposers s.receipts.items t.clients; flags = t.flags; own = t.own; refused = t.refused; log = t.log }) in
    let is : event.Propose replica client k.requests copied k.seen named ≡ event.Propose replica client (times client b.proposers + 1) command (greatest client s.receipts.items) named =
    λ i. event.Propose replica client (requests b.proposers s.receipts.items t.clients i) (same i) (seen b.proposers s.receipts.items t.clients i) named in
    record {
      behind = r.behind;
      related = subst (λ (e : WorldEvent). Tries (with_proposer (reported s b) client) line e (reported s' r.behind)) is r.related;
      reports = r.reports;
      keeps = r.keeps;
    }

-- Messages.

-- there is such a message, and it was noted
pub sent_noted : (s : Player) (g : Given) (m : ℕ) → was_sent s.world m ≡ true → ((gs : List ℕ) → AreFlagged s.given gs → AreFlagged g (gs ++ m ∷ [])) → LeadsTo (λ p q. q ≡ with_given p m) s (record s { given = g })
sent_noted s g m sent flags b t = record {
  behind = record { proposers = b.proposers; given = b.given ++ m ∷ []; tried = b.tried };
  related = ap (λ (x : Bool). record { world = s.world; proposers = b.proposers; given = cond x (b.given ++ m ∷ []) b.given; receipts = s.receipts.items; tried = b.tried }) (sym sent);
  reports = record { clients = t.clients; flags = flags b.given t.flags; own = t.own; refused = t.refused; log = t.log };
  keeps = refl;
}

-- there is no such message
pub unsent_noted : (s : Player) (m : ℕ) → was_sent s.world m ≡ false → LeadsTo (λ p q. q ≡ with_given p m) s s
unsent_noted s m unsent b t = record {
  behind = b;
  related = ap (λ (x : Bool). record { world = s.world; proposers = b.proposers; given = cond x (b.given ++ m ∷ []) b.given; receipts = s.receipts.items; tried = b.tried }) (sym unsent);
  reports = t;
  keeps = refl;
}

-- a message was noted, and then its delivery tried
pub gave : (s next s' : Player) (line m : ℕ) → LeadsTo (λ p q. q ≡ with_given p m) s next → LeadsTo (λ p q. Tries p line (event.Deliver m) q) next s' → LeadsTo (λ p q. Tries (with_given p m) line (event.Deliver m) q) s s'
gave s next s' line m noted tried b t =
    let a = noted b t in
    let c = tried a.behind a.reports in
    record {
      behind = c.behind;
      related = subst (λ (p : Replay). Tries p line (event.Deliver m) (reported s' c.behind)) a.related c.related;
      reports = c.reports;
      keeps = c.keeps ∙ a.keeps;
    }

-- what was never given was given
pub flushed : (s s' : Player) (g : Given) (line sent : ℕ) (ms : List ℕ) → sent ≡ length s.world.messages → ((gs : List ℕ) → AreFlagged s.given gs → AreFlagged g gs) → ((gs : List ℕ) → AreFlagged s.given gs → AreUngiven gs sent ms)
    → LeadsTo (λ p q. Gives p line ms q) (record s { given = g }) s' → LeadsTo (λ p q. Plays p line asked.Flush q) s s'
flushed s s' g line sent ms all flags these leads b t =
    let r = leads b (record { clients = t.clients; flags = flags b.given t.flags; own = t.own; refused = t.refused; log = t.log }) in
    record {
      behind = r.behind;
      related = (ms, subst (λ n. AreUngiven b.given n ms) all (these b.given t.flags), r.related);
      reports = r.reports;
      keeps = r.keeps;
    }

-- the flags say the same as before
pub readied : (R : Replay → Replay → Type 0) (s s' : Player) (g : Given)
    → ((gs : List ℕ) → AreFlagged s.given gs → AreFlagged g gs) → LeadsTo R (record s { given = g }) s' → LeadsTo R s s'
readied R s s' g flags leads b t =
    let r = leads b (record {
      clients = t.clients;
      flags = flags b.given t.flags;
      own = t.own;
      refused = t.refused;
      log = t.log;
    }) in
    record { behind = r.behind; related = r.related; reports = r.reports; keeps = r.keeps }

-- none was given yet
pub above_begins : (line n k : ℕ) (s : Player) → k ≡ 0 → LeadsTo (λ p q. Gives p line (above n k) q) s s
above_begins line n k s none b t = record {
  behind = b;
  related = subst (λ j. Gives (reported s b) line (above n j) (reported s b)) (sym none) refl;
  reports = t;
  keeps = refl;
}

gives_one : (line m : ℕ) (ms : List ℕ) (p q end : Replay) → Gives p line ms q
    → Tries (with_given q m) line (event.Deliver m) end → Gives p line (ms ++ m ∷ []) end
gives_one line m [] p q end is step =
    (end, subst (λ (z : Replay). Tries (with_given z m) line (event.Deliver m) end) is step, refl)
gives_one line m (k ∷ ms) p q end g step = (g.0, g.1, gives_one line m ms g.0 q end g.2 step)

-- one more of them was given
pub above_goes_on : (line n k j m : ℕ) (s next s' : Player) → j ≡ k + 1 → m ≡ n + k + 1
    → LeadsTo (λ p q. Gives p line (above n k) q) s next
    → LeadsTo (λ p q. Tries (with_given p m) line (event.Deliver m) q) next s'
    → LeadsTo (λ p q. Gives p line (above n j) q) s s'
above_goes_on line n k j m s next s' one at done leads b t =
    let a = done b t in
    let c = leads a.behind a.reports in
    let this : suc k ≡ j = omega arith in
    let p : Replay = reported next a.behind in
    let step = subst (λ i. Tries (with_given p i) line (event.Deliver i) (reported s' c.behind)) at c.related in
    record {
      behind = c.behind;
      related = subst (λ i. Gives (reported s b) line (above n i) (reported s' c.behind)) this
          (gives_one line (n + k + 1) (above n k) (reported s b) p (reported s' c.behind) a.related step);
      reports = c.reports;
      keeps = c.keeps ∙ a.keeps;
    }

-- One after another.

-- whatever completes the rest of xs completes all of it
abbrev pub Completes : {X : Type 0} → (Replay → List X → Replay → Type 0) → List X → ℕ → Player → Player → Type 0
Completes G xs i s s' = LeadsTo (λ p q. (end : Replay) → G q (drop i xs) end → G p xs end) s s'

pub starts : {X : Type 0} (G : Replay → List X → Replay → Type 0) (xs : List X) (s : Player) → Completes G xs 0 s s
starts G xs s b t = record { behind = b; related = (λ end h. h); reports = t; keeps = refl }

goes_on : {X : Type 0} (G : Replay → List X → Replay → Type 0) (Each : Replay → X → Replay → Type 0) → ((p q end : Replay) (x : X) (xs : List X) → Each p x q → G q xs end → G p (x ∷ xs) end)
    → (xs : List X) (i : ℕ) (x d : X) (s next s' : Player) → i < length xs → x ≡ get_or xs i d → Completes G xs i s next → LeadsTo (λ p q. Each p x q) next s' → Completes G xs (i + 1) s s'
goes_on {X} G Each more xs i x d s next s' lt is done leads b t =
    let a = done b t in
    let c = leads a.behind a.reports in
    let rest : drop i xs ≡ x ∷ drop (suc i) xs = drop-cons xs i d lt ∙ ap (λ (y : X). y ∷ drop (suc i) xs) (sym is) in
    let one : i + 1 ≡ suc i = omega arith in
    record {
      behind = c.behind;
      related = (λ end h. a.related end (subst (λ (ys : List X). G (reported next a.behind) ys end) (sym rest)
          (more (reported next a.behind) (reported s' c.behind) end x (drop (suc i) xs) c.related (subst (λ n. G (reported s' c.behind) (drop n xs) end) one h))));
      reports = c.reports;
      keeps = c.keeps ∙ a.keeps;
    }

ends : {X : Type 0} (G : Replay → List X → Replay → Type 0) → ((p : Replay) → G p [] p) → (xs : List X) (i : ℕ) (s s' : Player) → length xs ≤ i → Completes G xs i s s' → LeadsTo (λ p q. G p xs q) s s'
ends {X} G none xs i s s' over done b t =
    let a = done b t in
    record {
      behind = a.behind;
      related = a.related (reported s' a.behind) (subst (λ (ys : List X). G (reported s' a.behind) ys (reported s' a.behind)) (sym (drop_all i xs over)) (none (reported s' a.behind)));
      reports = a.reports;
      keeps = a.keeps;
    }

abbrev pub gives : ℕ → Replay → List ℕ → Replay → Type 0
gives line p ms q = Gives p line ms q

pub gave_more : (line : ℕ) (ms : List ℕ) (i m : ℕ) (s next s' : Player) → i < length ms → m ≡ get_or ms i 0 → Completes (gives line) ms i s next → LeadsTo (λ p q. Tries (with_given p m) line (event.Deliver m) q) next s' → Completes (gives line) ms (i + 1) s s'
gave_more line ms i m s next s' lt is done leads = goes_on (gives line) (λ p k q. Tries (with_given p k) line (event.Deliver k) q) (λ p q end k ks step rest. (q, step, rest)) ms i m 0 s next s' lt is done leads

pub gave_all : (line : ℕ) (ms : List ℕ) (i : ℕ) (s s' : Player) → length ms ≤ i → Completes (gives line) ms i s s' → LeadsTo (λ p q. Gives p line ms q) s s'
gave_all line ms i s s' over done = ends (gives line) (λ p. refl) ms i s s' over done

pub played_more : (ls : List (ℕ × Line)) (i : ℕ) (l : ℕ × Line) (s next s' : Player) → i < length ls → l ≡ get_or ls i l → Completes PlayAll ls i s next → LeadsTo (λ p q. Plays p l.0 l.1 q) next s' → Completes PlayAll ls (i + 1) s s'
played_more ls i l s next s' lt is done leads = goes_on PlayAll (λ p k q. Plays p k.0 k.1 q) (λ p q end k ks step rest. (q, step, rest)) ls i l l s next s' lt is done leads

pub played_all : (ls : List (ℕ × Line)) (i : ℕ) (s s' : Player) → length ls ≤ i → Completes PlayAll ls i s s' → LeadsTo (λ p q. PlayAll p ls q) s s'
played_all ls i s s' over done = ends PlayAll (λ p. refl) ls i s s' over done

-- All lines.

pub have_played : (plan : Plan) (s s' : Player) (keeps : Bool) (head : Head) (lines : List (ℕ × Line)) → head ≡ plan.head → lines ≡ plan.lines → IsOpening head (reported s nothing) → IsPlayerOf s nothing → s.keeps ≡ keeps → LeadsTo (λ p q. PlayAll p lines q) s s' → HasPlayed plan keeps s'
have_played plan s s' keeps head lines same_head same_lines opening t kept leads =
    let r = leads nothing t in
    record {
      behind = r.behind;
      at_end = record { first = reported s nothing; opening = subst (λ (h : Head). IsOpening h (reported s nothing)) same_head opening; played = subst (λ (ls : List (ℕ × Line)). PlayAll (reported s nothing) ls (reported s' r.behind)) same_lines r.related };
      reports = r.reports;
      keeps = r.keeps ∙ kept;
    }

pub ended : (plan : Plan) (s : Player) (d : Ended) → HasPlayed plan true s → d.world ≡ s.world → d.receipts.items ≡ s.receipts.items → d.tried.items ≡ s.tried.items → ((gs : List ℕ) → AreFlagged s.given gs → AreUngiven gs (length s.world.messages) d.ungiven.items) → HasEnded plan d
ended plan s d h world receipts tried ungiven = record {
  last = reported s h.behind;
  at_end = h.at_end;
  world = world;
  receipts = receipts;
  tried = tried ∙ h.reports.log h.keeps;
  ungiven = ungiven h.behind.given h.reports.flags;
}

pub replayed : (plan : Plan) (keeps : Bool) (s : Player) (d : Replayed) → HasPlayed plan keeps s → d.journals ≡ collected s.world → d.receipts.items ≡ s.receipts.items → d.refused.items ≡ s.refused.items → IsReplay plan d
replayed plan keeps s d h journals receipts refused = record {
  last = reported s h.behind;
  at_end = h.at_end;
  journals = journals;
  receipts = receipts;
  refused = refused ∙ h.reports.refused;
}
