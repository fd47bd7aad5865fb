-- What the parts of a turn do, of what they call.
use Rattle.std.proofs.Common.{◌≡◌, ℕ, ◌+◌, ◌<◌, ◌≤◌, cond, List, [], ◌∷◌, ◌++◌, length, get_or, set, Bool, true, false, Option, Some, refl, sym, ap, ◌∙◌, subst, arith, inl, inr, All}
use Rattle.std.proofs.lemmas.List.Elements.{All-nil}
use Rattle.ep_frame.specs.Meaning.{origin_at}
use Rattle.ep_journal.specs.declared.event.Event.{Event}
use Rattle.ep_journal.specs.declared.step_fault.StepFault.{StepFault}
use Rattle.ep_replica.specs.Applied.{IsDeclined}
use Rattle.ep_replica.specs.Kept.{Kept}
use Rattle.ep_host.specs.Acts.{Made, IsHandled}
use Rattle.ep_host.specs.Fates.{fate, lost_of, lost_in, Delivers, Sends, IsSent, counted_up}
use Rattle.ep_host.specs.Node.{Node}
use Rattle.ep_host.specs.Pointwise.{Each}
use Rattle.ep_host.specs.Rings.{ArePeers, place, PopsAt, IsTaken, handled_by}
use Rattle.ep_host.specs.Tasks.{event_of, next, next_place}
use Rattle.ep_host.specs.Asking.{turn_of}
use Rattle.ep_host.specs.Turns.{TakesAt, BeginsTask, has_moved}
use Rattle.ep_host.specs.Weathers.{kind_at}
use Rattle.ep_host.specs.declared.delivery.Delivery.{Delivery}
use Rattle.ep_host.specs.declared.delivery.Delivery.TheVariants.{Put, Short, Dropped, Held, Repeated}
use Rattle.ep_host.specs.declared.link.Link.{Link}
use Rattle.ep_host.specs.declared.weather.Weather.{Weather}
use Rattle.ep_host.specs.declared.weather_kind.WeatherKind.{WeatherKind}
use Rattle.ep_host.specs.declared.task.Task.{Task}
use Rattle.ep_host.specs.declared.task.Task.TheVariants.{Propose, GiveUp, Recover}
use Rattle.ep_host.proofs.Fated.{frames_in-append, lost_in-append, sends_sends, delivers_sends, passes_by}
use Rattle.ep_host.proofs.Hosts.{place_peer}
use Rattle.ep_host.proofs.Places.{each_each, each_at}

-- a node of its parts
abbrev pub node : Kept → List Link → List Weather → List Task → List (ℕ × StepFault) → ℕ → ℕ → Bool → Node
node k links weather agenda refused used lost ended = record { replica = k; links = links; weather = weather; agenda = agenda; refused = refused; used = used; lost = lost; ended = ended }

pub moved_back : (b : Bool) → has_moved (turn_of b) ≡ b
moved_back true = refl
moved_back false = refl

-- one frame more

pub one_sent :
    (ws : List Weather) (out : List (List ℕ)) (o : List ℕ) (d : Delivery) (n : ℕ) (xs ys zs : List Link) → IsSent ws out n xs ys → Each (Sends ws (fate o d ∷ [])) ys zs → IsSent ws (out ++ o ∷ []) (n + lost_of d) xs zs
one_sent ws out o d n xs ys zs h s = record {
  fates = h.fates ++ fate o d ∷ [];
  frames = frames_in-append h.fates (fate o d ∷ []) ∙ ap (λ (l : List (List ℕ)). l ++ o ∷ []) h.frames;
  lost = sum n (lost_in h.fates) (lost_of d) (lost_in (h.fates ++ fate o d ∷ [])) h.lost (lost_in-append h.fates (fate o d ∷ []));
  rings = each_each (Sends ws h.fates) (Sends ws (fate o d ∷ [])) (Sends ws (h.fates ++ fate o d ∷ [])) (sends_sends ws h.fates (fate o d ∷ [])) xs ys zs h.rings s;
}
  where
    sum : (n k l m : ℕ) → n ≡ k → m ≡ k + (l + 0) → n + l ≡ m
    sum n k l m e f = omega (arith, e, f)

lost_at_most : (put : Bool) → cond put 0 1 ≤ 1
lost_at_most true = omega arith
lost_at_most false = omega arith

pub lost_few : (d : Delivery) → lost_of d ≤ 2
lost_few (Put put) = let l = lost_at_most put in omega (arith, l)
lost_few Short = omega arith
lost_few Dropped = omega arith
lost_few Held = omega arith
lost_few (Repeated first second) = let l = lost_at_most first in let m = lost_at_most second in omega (arith, l, m)

-- a frame that goes to the link at a place
pub each_sends :
    (ws : List Weather) (b : List ℕ) (d : Delivery) (kind : Option WeatherKind) (me : ℕ) (links : List Link) (p : ℕ) (c e : Link) → ArePeers me links → p ≡ place me (origin_at b).to → p < length links →
    (get_or links p e).peer ≡ (origin_at b).to → kind ≡ kind_at ws (get_or links p e).peer (next 18446744073709551615 (get_or links p e).count) → Delivers kind b d (get_or links p e) c → Each (Sends ws (fate b d ∷ [])) links (set links p c)
each_sends ws b d kind me links p c e peers is low peer word h =
    each_at (Sends ws (fate b d ∷ [])) links p c e (λ k f below other. passes_by ws b d (get_or links k f) (λ to. other (here k f below to))) low (delivers_sends ws b d kind (get_or links p e) c h word (sym peer))
  where
    here : (k : ℕ) (f : Link) → k < length links → (origin_at b).to ≡ (get_or links k f).peer → k ≡ p
    here k f below to = sym (place_peer me k) ∙ ap (place me) (sym (peers k f below)) ∙ ap (place me) (sym to) ∙ sym is

-- a frame to whose receiver no link goes
pub each_passes :
    (ws : List Weather) (b : List ℕ) (d : Delivery) (me : ℕ) (links : List Link) (p : ℕ) → ArePeers me links → p ≡ place me (origin_at b).to →
    ((f : Link) → p < length links → (get_or links p f).peer ≡ (origin_at b).to → ⊥) → Each (Sends ws (fate b d ∷ [])) links links
each_passes ws b d me links p peers is other = record {
  len = refl;
  at = λ k f below. passes_by ws b d (get_or links k f) (λ to.
      let here : k ≡ p = sym (place_peer me k) ∙ ap (place me) (sym (peers k f below)) ∙ ap (place me) (sym to) ∙ sym is in
      other f (subst (λ (n : ℕ). n < length links) here below) (subst (λ (n : ℕ). (get_or links n f).peer ≡ (origin_at b).to) here (sym to)));
}

-- one frame taken

pub takes_frame :
    (place : ℕ) (b : List ℕ) (a : Node) (links after : List Link) (k : Kept) (lost more : ℕ) → PopsAt place (Some b) a.links links → IsHandled a.weather b lost a.replica k links after →
    more ≡ counted_up a.lost lost → TakesAt place true a (record a { replica = k; links = after; lost = more })
takes_frame place b a links after k lost more p h is = record { frame = Some b; links = links; pops = p; handled = (lost, h, ap (λ (n : ℕ). record a { replica = k; links = after; lost = n }) is); moves = refl }

-- one task used up

none_handled : (t : Task) → handled_by (event_of t) ≡ []
none_handled (Propose client request command seen named) = refl
none_handled (GiveUp i) = refl
none_handled (Recover i) = refl

pub task_taken : (t : Task) (event : Event) (links : List Link) → event ≡ event_of t → All (IsTaken links) (handled_by event)
task_taken t event links is = rw (is, none_handled t) (All-nil (IsTaken links))

pub begins_made :
    (task : Task) (event : Event) (a : Node) (rest : List Task) (k : Kept) (after : List Link) (used lost more : ℕ) → event ≡ event_of task → a.agenda ≡ task ∷ rest →
    Made a.weather event lost a.replica k a.links after → used ≡ next_place a.used → more ≡ counted_up a.lost lost →
    BeginsTask true a (record a { replica = k; links = after; agenda = rest; used = used; lost = more })
begins_made task event a rest k after used lost more e agenda m u is =
    (task, rest, agenda, inl (lost, subst (λ (v : Event). Made a.weather v lost a.replica k a.links after) e m, (rw (u, is) refl)))

pub begins_refused :
    (task : Task) (event : Event) (a : Node) (rest : List Task) (k : Kept) (after : List Link) (used : ℕ) (fault : StepFault) (refused : List (ℕ × StepFault)) → event ≡ event_of task → a.agenda ≡ task ∷ rest →
    IsDeclined a.replica event fault → k ≡ a.replica → after ≡ a.links → used ≡ next_place a.used → refused ≡ a.refused ++ (a.used, fault) ∷ [] →
    BeginsTask true a (record a { replica = k; links = after; agenda = rest; used = used; refused = refused })
begins_refused task event a rest k after used fault refused e agenda why same still u is =
    (task, rest, agenda, inr (fault, record { declined = subst (λ (v : Event). IsDeclined a.replica v fault) e why; replica = same; rings = still }, (rw (same, still, u, is) refl)))
