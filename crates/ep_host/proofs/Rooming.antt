-- What a sender does leaves its inboxes as large as they were.
use Rattle.std.proofs.Common.{◌≡◌, ℕ, ◌<◌, List, length, get_or, ap, sym, subst, arith, All, Option}
use Rattle.ep_host.specs.Ports.{inbox_capacity}
use Rattle.ep_host.specs.declared.port.Port.{Port}
use Rattle.ep_host.specs.Outboxes.{Outbox, AreNew, IsNewOutbox, IsMailed, SetsOwn, IsLetGo, Receives, IsOpen}
use Rattle.ep_host.specs.Rooms.{HasRoom, HaveRoom, AreRoomy}
use Rattle.ep_host.specs.declared.outlet.Outlet.{Outlet}
use Rattle.ep_host.specs.declared.weather.Weather.{Weather}

room_same : (room : Option ℕ) (n m : ℕ) → m ≡ n → HasRoom room n → HasRoom room m
room_same room n m is h = subst (HasRoom room) (sym is) h

-- each outlet leads to an inbox that is as large as that of the one before
rooms_same :
    (room : Option ℕ) (xs ys : List Outlet) → length ys ≡ length xs → ((i : ℕ) (d : Outlet) → i < length xs → inbox_capacity (get_or ys i d).port ≡ inbox_capacity (get_or xs i d).port) →
    All (λ (o : Outlet). HasRoom room (inbox_capacity o.port)) xs → All (λ (o : Outlet). HasRoom room (inbox_capacity o.port)) ys
rooms_same room xs ys len same h i d low =
    let low' : i < length xs = omega (arith, low, len) in
    room_same room (inbox_capacity (get_or xs i d).port) (inbox_capacity (get_or ys i d).port) (same i d low') (h i d low')

pub roomy_new : (room : Option ℕ) (inboxes : List (Port (List ℕ))) (me : ℕ) (a : Outbox) → me < length inboxes → HaveRoom room inboxes → IsNewOutbox inboxes me a → AreRoomy room a
roomy_new room inboxes me a here have h = record {
  inbox = room_same room (inbox_capacity (get_or inboxes me a.inbox)) (inbox_capacity a.inbox) (h.inbox a.inbox).leads.1 (have me a.inbox here);
  outlets = λ i d low.
      let low' : i < length inboxes = omega (arith, low, h.outlets.len) in
      room_same room (inbox_capacity (get_or inboxes i d.port)) (inbox_capacity (get_or a.outlets i d).port) (h.outlets.at i d.port d low').port.leads.1 (have i d.port low');
}

pub roomy_mailed : (room : Option ℕ) (out : List (List ℕ)) (more : ℕ) (a b : Outbox) → IsMailed out more a b → AreRoomy room a → AreRoomy room b
roomy_mailed room out more a b m h = record {
  inbox = room_same room (inbox_capacity a.inbox) (inbox_capacity b.inbox) (ap (λ (o : Outbox). inbox_capacity o.inbox) m.mails.is) h.inbox;
  outlets = rooms_same room a.outlets b.outlets m.mails.outlets.len (λ i d low. (m.mails.outlets.at i d low).keeps.leads.1) h.outlets;
}

pub roomy_set : (room : Option ℕ) (ws : List Weather) (a b : Outbox) → SetsOwn ws a b → AreRoomy room a → AreRoomy room b
roomy_set room ws a b s h = record {
  inbox = room_same room (inbox_capacity a.inbox) (inbox_capacity b.inbox) (ap (λ (o : Outbox). inbox_capacity o.inbox) s.is) h.inbox;
  outlets = subst (λ (os : List Outlet). All (λ (o : Outlet). HasRoom room (inbox_capacity o.port)) os) (sym (ap (λ (o : Outbox). o.outlets) s.is))
      (rooms_same room a.outlets s.outlets s.counts.len (λ i d low. ap (λ (o : Outlet). inbox_capacity o.port) (s.counts.at i d low)) h.outlets);
}

pub roomy_let_go : (room : Option ℕ) (a b : Outbox) → IsLetGo a b → AreRoomy room a → AreRoomy room b
roomy_let_go room a b g h = record {
  inbox = room_same room (inbox_capacity a.inbox) (inbox_capacity b.inbox) (ap (λ (o : Outbox). inbox_capacity o.inbox) g.is) h.inbox;
  outlets = rooms_same room a.outlets b.outlets g.outlets.places (λ i d low. (g.outlets.at i d low).keeps.leads.1) h.outlets;
}

pub roomy_received : (room : Option ℕ) (frame : Option (List ℕ)) (a b : Outbox) → Receives frame a b → AreRoomy room a → AreRoomy room b
roomy_received room frame a b r h = record {
  inbox = room_same room (inbox_capacity a.inbox) (inbox_capacity b.inbox) r.leads.1 h.inbox;
  outlets = subst (λ (os : List Outlet). All (λ (o : Outlet). HasRoom room (inbox_capacity o.port)) os) (sym (ap (λ (o : Outbox). o.outlets) r.is)) h.outlets;
}

-- inboxes that were opened for so many frames
pub open_rooms : (room : Option ℕ) (capacity : ℕ) (inboxes : List (Port (List ℕ))) → HasRoom room capacity → All (IsOpen capacity) inboxes → HaveRoom room inboxes
open_rooms room capacity inboxes h are i d low = room_same room capacity (inbox_capacity (get_or inboxes i d)) (are i d low).room h
