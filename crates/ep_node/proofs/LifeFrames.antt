-- Through generations, each frame of what was handed out of was handed out, and each frame that a node takes names its generation.
use Rattle.std.proofs.Common.{◌≡◌, ℕ, ◌+◌, ◌≤◌, Bool, true, false, cond, eqb, inl, inr, Some, None, List, [], ◌∷◌, ◌++◌, length, take, drop, refl, sym, ap, subst, arith, ⊎_elim}
use Rattle.std.proofs.lemmas.Bool.{eqb-true}
use Rattle.std.proofs.lemmas.List.{take-append-drop, take-take, take-append-le}
use Rattle.ep_base.specs.declared.version.Version.{Version}
use Rattle.ep_base.specs.declared.version_kind.VersionKind.TheVariants.{V3}
use Rattle.ep_frame.specs.Meaning.{version_at}
use Rattle.ep_journal.specs.Entries.{entry_of, entries_of, frames_at, AreFramesIn}
use Rattle.ep_journal.specs.Events.{event_of, frame_at, lacking, spelled_in}
use Rattle.ep_journal.specs.declared.entry.Entry.{Entry}
use Rattle.ep_journal.specs.declared.event.Event.{Event as Happening}
use Rattle.ep_journal.specs.declared.event.Event.TheVariants.{Propose, Handle, GiveUp, Recover, Execute}
use Rattle.ep_journal.specs.declared.step_fault.StepFault.TheVariants.{OtherGeneration}
use Rattle.ep_rules.specs.Journals.{IsAmong}
use Rattle.ep_rules.specs.Journals as rules
use Rattle.ep_rules.specs.Steps.{Frame}
use Rattle.ep_rules.specs.Worlds.{In}
use Rattle.ep_rules.proofs.Merged.{in_left, in_right, in_split}
use Rattle.ep_node.specs.CrashLives.{Generations, newborn, start_of, LifeMove, Within, OpensNext, IsLifeMove, after_move, AreLifeMoves, life_after}
use Rattle.ep_node.specs.Crashes.{Start, Cluster, Move, Take, HandOut, ComeBack, mover, IsMove, frames_in, with_at, moved, handed_out}
use Rattle.ep_node.specs.LifeCalls.{HasLived, WasHandedOut}
use Rattle.ep_node.proofs.CrashLives.{at_gen, within_move}
use Rattle.ep_node.proofs.CrashMoves.{at_each}

-- What is in a list.

in_frames_at : (b : List ℕ) (bs : List (List ℕ)) → In b bs → In (frame_at b) (frames_at bs)
in_frames_at b [] k = absurd k
in_frames_at b (x ∷ bs) (inl is) = inl (ap frame_at is)
in_frames_at b (x ∷ bs) (inr k) = inr (in_frames_at b bs k)

pub in_entries_of : (e : Entry) (es : List Entry) → In e es → In (entry_of e) (entries_of es)
in_entries_of e [] k = absurd k
in_entries_of e (x ∷ es) (inl is) = inl (ap entry_of is)
in_entries_of e (x ∷ es) (inr k) = inr (in_entries_of e es k)

pub framed_in : (v : Version) (b : List ℕ) (bs : List (List ℕ)) → AreFramesIn v bs → In b bs → version_at b ≡ v
framed_in v b [] h k = absurd k
framed_in v b (x ∷ bs) h (inl is) = subst (λ (z : List ℕ). version_at z ≡ v) is h.0
framed_in v b (x ∷ bs) h (inr k) = framed_in v b bs h.1 k

in_frames_in : (e : rules.Entry) (m : Frame) (es : List rules.Entry) → In e es → In m e.out → In m (frames_in es)
in_frames_in e m [] k h = absurd k
in_frames_in e m (x ∷ es) (inl is) h = in_left m x.out (frames_in es) (subst (λ (z : rules.Entry). In m z.out) (sym is) h)
in_frames_in e m (x ∷ es) (inr k) h = in_right m x.out (frames_in es) (in_frames_in e m es k h)

-- Each frame of what was handed out of was handed out.

abbrev AllGiven : Cluster → Type 0
AllGiven c = (r : ℕ) (e : rules.Entry) (m : Frame) → In e (handed_out c r) → In m e.out → In m c.given

abbrev AllWithin : Cluster → Type 0
AllWithin c = (r : ℕ) → c.out r ≤ length (c.journal r)

-- where the handed out entries are those that they were
as_before : (c : Cluster) (j : rules.Journals) → ((r : ℕ) → take (c.out r) (j r) ≡ take (c.out r) (c.journal r)) → AllGiven c → AllGiven (record { journal = j; out = c.out; given = c.given })
as_before c j same h r e m there out = h r e m (subst (λ (es : List rules.Entry). In e es) (same r) there) out

given_move : (start : Start) (f : ℕ) (c : Cluster) (m : Move) → IsMove start f c m → AllWithin c → AllGiven c → AllGiven (moved c m)
given_move start f c (Take q x) k within h =
    as_before c (with_at q (c.journal q ++ (x ∷ [])) c.journal)
    (at_each (λ p es. take (c.out p) es ≡ take (c.out p) (c.journal p)) q (c.journal q ++ (x ∷ [])) c.journal (take-append-le (c.out q) (c.journal q) (x ∷ []) (within q)) (λ p. refl)) h
given_move start f c (ComeBack q n) k within h =
    as_before c (with_at q (take n (c.journal q)) c.journal)
    (at_each (λ p es. take (c.out p) es ≡ take (c.out p) (c.journal p)) q (take n (c.journal q)) c.journal (take-take (c.out q) n (c.journal q) k.1.least) (λ p. refl)) h
given_move start f c (HandOut q n) k within h =
    at_each (λ p j. (e : rules.Entry) (m : Frame) → In e (take j (c.journal p)) → In m e.out → In m (c.given ++ frames_in (drop (c.out q) (take n (c.journal q))))) q n c.out here
    (λ p e m there out. in_left m c.given (frames_in (drop (c.out q) (take n (c.journal q)))) (h p e m there out))
  where
    here : (e : rules.Entry) (m : Frame) → In e (take n (c.journal q)) → In m e.out → In m (c.given ++ frames_in (drop (c.out q) (take n (c.journal q))))
    here e m there out = ⊎_elim
        (λ (old : In e (take (c.out q) (take n (c.journal q)))). in_left m c.given (frames_in (drop (c.out q) (take n (c.journal q))))
        (h q e m (subst (λ (es : List rules.Entry). In e es) (take-take (c.out q) n (c.journal q) k.1.least) old) out))
        (λ (new : In e (drop (c.out q) (take n (c.journal q)))). in_right m c.given (frames_in (drop (c.out q) (take n (c.journal q))))
        (in_frames_in e m (drop (c.out q) (take n (c.journal q))) new out))
        (in_split e (take (c.out q) (take n (c.journal q))) (drop (c.out q) (take n (c.journal q)))
        (subst (λ (es : List rules.Entry). In e es) (sym (take-append-drop (c.out q) (take n (c.journal q)))) there))

record Given (l : Generations) : Type 0 where
  pub within : (g : ℕ) → AllWithin (l.cluster g)
  pub given : (g : ℕ) → AllGiven (l.cluster g)

given_on : (f : ℕ → ℕ) (l : Generations) (m : LifeMove) → IsLifeMove f l m → Given l → Given (after_move f l m)
given_on f l (OpensNext g r q base_stamp) k h = record { within = h.within; given = h.given }
given_on f l (Within g m) k h = record {
  within = at_gen (λ j c. AllWithin c) g (moved (l.cluster g) m) l.cluster (within_move (start_of l g (mover m)) (f g) (l.cluster g) m (h.within g) k.1) (λ j e. h.within j);
  given = at_gen (λ j c. AllGiven c) g (moved (l.cluster g) m) l.cluster (given_move (start_of l g (mover m)) (f g) (l.cluster g) m k.1 (h.within g) (h.given g)) (λ j e. h.given j);
}

given_after : (f : ℕ → ℕ) (l : Generations) (ms : List LifeMove) → AreLifeMoves f l ms → Given l → Given (life_after f l ms)
given_after f l [] k h = h
given_after f l (m ∷ ms) k h = given_after f (after_move f l m) ms k.1 (given_on f l m k.0 h)

all_given : (start : Start) (f : ℕ → ℕ) (l : Generations) → HasLived start f l → Given l
all_given start f l h = subst Given h.leave (given_after f (newborn start) h.moves h.are (record { within = λ g r. omega arith; given = λ g r e m there out. absurd there }))

-- a frame of an entry that was handed out of, in a generation that it names
pub frame_out : (start : Start) (first : ℕ) (f : ℕ → ℕ) (l : Generations) (g r : ℕ) (e : Entry) (b : List ℕ) → HasLived start f l → In (entry_of e) (handed_out (l.cluster g) r) →
    version_at b ≡ V3 (first + g) → In b e.frames → WasHandedOut first l (Handle b)
frame_out start first f l g r e b lived there version out = (g, version, (all_given start f l lived).given g r (entry_of e) (frame_at b) there (in_frames_at b e.frames out))

-- It stays so.

still_given : (c : Cluster) (m : Move) (x : Frame) → In x c.given → In x (moved c m).given
still_given c (Take r e) x h = h
still_given c (HandOut r n) x h = in_left x c.given (frames_in (drop (c.out r) (take n (c.journal r)))) h
still_given c (ComeBack r n) x h = h

given_still : (f : ℕ → ℕ) (l : Generations) (m : LifeMove) (g : ℕ) (x : Frame) → In x (l.cluster g).given → In x ((after_move f l m).cluster g).given
given_still f l (OpensNext h r q base_stamp) g x = λ there. there
given_still f l (Within h m) g x =
    at_gen (λ j c. In x (l.cluster j).given → In x c.given) h (moved (l.cluster h) m) l.cluster (still_given (l.cluster h) m x) (λ j e there. there) g

pub stays_out_lem : (first : ℕ) (f : ℕ → ℕ) (l : Generations) (m : LifeMove) (event : Happening) → WasHandedOut first l event → IsLifeMove f l m → WasHandedOut first (after_move f l m) event
stays_out_lem first f l m (Propose client request command seen named) h k = tt
stays_out_lem first f l m (Handle b) h k = (h.0, h.1, given_still f l m h.0 (frame_at b) h.2)
stays_out_lem first f l m (GiveUp i) h k = tt
stays_out_lem first f l m (Recover i) h k = tt
stays_out_lem first f l m (Execute i) h k = tt

-- What a node takes is of its generation.

same_number : (x y : ℕ) → cond (eqb x y) None (Some OtherGeneration) ≡ None → x ≡ y
same_number x y h = go (eqb x y) refl h
  where
    go : (b : Bool) → eqb x y ≡ b → cond b None (Some OtherGeneration) ≡ None → x ≡ y
    go true e h = eqb-true x y e
    go false e h = absurd (let bad : Some OtherGeneration ≡ None = h in cc)

of_its_own : (first g h : ℕ) (v : Version) → v ≡ V3 (first + h) → spelled_in v (V3 (first + g)) ≡ None → h ≡ g
of_its_own first g h v is none =
    let same : first + h ≡ first + g = same_number (first + h) (first + g) (subst (λ (w : Version). spelled_in w (V3 (first + g)) ≡ None) is none) in omega (arith, same)

pub among_lem : (first : ℕ) (l : Generations) (g : ℕ) (event : Happening) → WasHandedOut first l event → lacking (V3 (first + g)) event ≡ None → IsAmong (l.cluster g).given (event_of event)
among_lem first l g (Propose client request command seen named) h none = tt
among_lem first l g (Handle b) h none = subst (λ (j : ℕ). In (frame_at b) (l.cluster j).given) (of_its_own first g h.0 (version_at b) h.1 none) h.2
among_lem first l g (GiveUp i) h none = tt
among_lem first l g (Recover i) h none = tt
among_lem first l g (Execute i) h none = tt
