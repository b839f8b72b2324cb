-- The worlds of a run: what holds of each, and which packets of one are those of a later one.
use Rattle.std.proofs.Common.{◌≡◌, ◌≢◌, ◌<◌, ◌≤◌, ◌+◌, ◌⊎◌, inl, inr, ℕ, List, [], ◌∷◌}
use Rattle.std.proofs.Common.{◌++◌, Some, map, slice_get, refl, sym, ap, ◌∙◌, subst}
use Rattle.std.proofs.Common.{arith}
use Rattle.std.proofs.lemmas.Option.{get_or_from_slice_get}
use Rattle.std.specs.Prelude.{slice_set, Contains}
use Rattle.peg_name.specs.Name.{Rack}
use Rattle.peg_name.specs.declared.Format.{Format}
use Rattle.peg_name.specs.declared.Node.{Node}
use Rattle.peg_event.specs.declared.Event.{Event}
use Rattle.peg_event.specs.declared.Line.{Line}
use Rattle.peg_model.specs.Words.{below}
use Rattle.peg_model.specs.Packet.{Packet}
use Rattle.peg_model.specs.Client.{Client, new_client}
use Rattle.peg_model.specs.World.{World, start, step, client_of}
use Rattle.peg_model.specs.Moments.{Moment, moments}
use Rattle.peg_law.proofs.Lists.{Begins, begins_itself, begins_also, IsSet, Here, Else, get_set}
use Rattle.peg_law.proofs.Lists.{IsAt, In, Past, at_cases, contains_cases, below_at, map_at}
use Rattle.peg_law.proofs.Known.{ClientOk, IsTurn, more_none, more_of_other}
use Rattle.peg_law.proofs.Events.{Clients, OneMoves, NoneMoves, Effect, happened}

-- ---- each client has its number, and the packets tell what its pending operation is

pub record IsClient (packets : List (Node × Packet)) (id : ℕ) (c : Client) : Type 0 where
  pub number : c.id ≡ id
  pub ok : ClientOk packets c

abbrev AreClients : List (Node × Packet) → List Client → Type 0
AreClients packets clients =
    (id : ℕ) (c : Client) → slice_get clients id ≡ Some c → IsClient packets id c

pub record Sound (w : World) : Type 0 where
  pub clients : AreClients w.packets w.clients

own_number : (w : World) → Sound w → (id : ℕ) → (client_of w id).id ≡ id
own_number w s id = by_place (at_cases w.clients id (new_client w.rack.format id 1))
  where
    by_place : IsAt w.clients id (new_client w.rack.format id 1) → (client_of w id).id ≡ id
    by_place (In e) = (s.clients id (client_of w id) e).number
    by_place (Past e f) = ap (λ (c : Client). c.id) f

one_moved :
    (w : World) (id : ℕ) (d : Client) (sent : List (Node × Packet)) → Sound w
    → IsTurn (client_of w id) d sent
    → AreClients (w.packets ++ sent) (slice_set w.clients d.id d)
one_moved w id d sent s t i c e = by_place (get_set w.clients d.id d i c e)
  where
    number : d.id ≡ id
    number = t.id ∙ own_number w s id

    by_place : IsSet w.clients d.id d i c → IsClient (w.packets ++ sent) i c
    by_place (Here old at is f) =
        let was : slice_get w.clients id ≡ Some old =
        subst (λ j. slice_get w.clients j ≡ Some old) (at ∙ number) f in
        let same : client_of w id ≡ old =
        get_or_from_slice_get w.clients id old (new_client w.rack.format id 1) was in
        let ok : ClientOk w.packets (client_of w id) =
        subst (ClientOk w.packets) (sym same) (s.clients id old was).ok in
        subst (IsClient (w.packets ++ sent) i) (sym is)
        (record { number = sym at; ok = t.kept w.packets ok })
    by_place (Else other f) =
        let was = s.clients i c f in
        let apart : c.id ≢ (client_of w id).id =
        λ g. other (sym was.number ∙ g ∙ sym t.id) in
        record {
          number = was.number;
          ok = more_of_other c (client_of w id).id w.packets sent apart t.own was.ok;
        }

clients_after :
    (w : World) (clients : List Client) (sent : List (Node × Packet)) → Sound w
    → Clients w clients sent → AreClients (w.packets ++ sent) clients
clients_after w clients sent s (OneMoves id d is t) =
    subst (AreClients (w.packets ++ sent)) (sym is) (one_moved w id d sent s t)
clients_after w clients sent s (NoneMoves is none) =
    subst (AreClients (w.packets ++ sent)) (sym is)
    (λ id c e.
    let was = s.clients id c e in
    record { number = was.number; ok = more_none c w.packets sent none was.ok })

pub sound_after : (w : World) (r : World × Line) → Sound w → Effect w r → Sound r.0
sound_after w r s e =
    record {
      clients =
          subst (λ packets. AreClients packets r.0.clients) (sym e.packets)
          (clients_after w r.0.clients e.sent s e.clients);
    }

-- ---- at the start

new_is :
    (format : Format) (n i : ℕ) (c : Client)
    → slice_get (map (λ id. new_client format id 1) (below n)) i ≡ Some c
    → c ≡ new_client format i 1
new_is format n i c e =
    let x = map_at (λ id. new_client format id 1) (below n) i c e in
    x.2 ∙ ap (λ id. new_client format id 1) (below_at n i x.0 x.1)

pub sound_start : (rack : Rack) (keys : List (List ℕ)) → Sound (start rack keys)
sound_start rack keys =
    record {
      clients = λ id c e.
          let is : c ≡ new_client rack.format id 1 = new_is rack.format rack.clients id c e in
          subst (IsClient [] id) (sym is)
          (record {
            number = refl;
            ok = record { pending_below = λ p f. absurd (cc); knows = tt };
          });
    }

-- ---- a line of a run

abbrev pub after : Moment → World
after m = (step m.before m.place m.event).0

pub record IsMet (w : World) (place : ℕ) (m : Moment) : Type 0 where
  pub sound : Sound m.before
  pub line : m.line ≡ (step m.before m.place m.event).1
  pub no_sooner : place ≤ m.place
  pub begins : Begins w.packets m.before.packets

sound_at : (w : World) (place : ℕ) → Sound w → Sound (record w { place = place })
sound_at w place s = record { clients = s.clients }

pub stepped :
    (w : World) (place : ℕ) (e : Event) → Effect (record w { place = place }) (step w place e)
stepped w place e = happened (record w { place = place }) e

pub begins_after :
    (w : World) (place : ℕ) (e : Event) → Begins w.packets (step w place e).0.packets
begins_after w place e =
    let effect = stepped w place e in record { more = effect.sent; is = effect.packets }

sound_next : (w : World) (place : ℕ) (e : Event) → Sound w → Sound (step w place e).0
sound_next w place e s =
    sound_after (record w { place = place }) (step w place e) (sound_at w place s)
    (stepped w place e)

abbrev tail_of : World → ℕ → Event → List Event → List Moment
tail_of w place e events = moments (step w place e).0 (place + 1) events

abbrev head_of : World → ℕ → Event → Moment
head_of w place e = record { place = place; event = e; before = w; line = (step w place e).1 }

pub met :
    (w : World) (place : ℕ) (events : List Event) (m : Moment) → Sound w
    → Contains (moments w place events) m → IsMet w place m
met w place [] m s (k, less, is) = absurd (omega (arith, less))
met w place (e ∷ events) m s has =
    by_place (contains_cases (head_of w place e) m (tail_of w place e events) has)
    (λ later. met (step w place e).0 (place + 1) events m (sound_next w place e s) later)
  where
    by_place :
        (head_of w place e ≡ m) ⊎ Contains (tail_of w place e events) m
        →
        (Contains (tail_of w place e events) m → IsMet (step w place e).0 (place + 1) m)
        → IsMet w place m
    by_place (inl is) rest =
        subst (IsMet w place) is
        (record {
          sound = s;
          line = refl;
          no_sooner = omega arith;
          begins = begins_itself w.packets;
        })
    by_place (inr later) rest =
        let more = rest later in
        record {
          sound = more.sound;
          line = more.line;
          no_sooner = let l = more.no_sooner in omega (arith, l);
          begins =
              begins_also w.packets (step w place e).0.packets m.before.packets
              (begins_after w place e) more.begins;
        }

-- what was sent up to a line's end is in flight at each later line
pub between :
    (w : World) (place : ℕ) (events : List Event) (m n : Moment) → Sound w
    → Contains (moments w place events) m → Contains (moments w place events) n
    → m.place < n.place → Begins (after m).packets n.before.packets
between w place [] m n s (k, less, is) late sooner = absurd (omega (arith, less))
between w place (e ∷ events) m n s has late sooner =
    let t = sound_next w place e s in
    by_place t (contains_cases (head_of w place e) m (tail_of w place e events) has)
    (contains_cases (head_of w place e) n (tail_of w place e events) late)
    (λ first second. between (step w place e).0 (place + 1) events m n t first second sooner)
  where
    by_place :
        Sound (step w place e).0 → (head_of w place e ≡ m) ⊎ Contains (tail_of w place e events) m
        → (head_of w place e ≡ n) ⊎ Contains (tail_of w place e events) n
        →
        (Contains (tail_of w place e events) m → Contains (tail_of w place e events) n
        → Begins (after m).packets n.before.packets)
        → Begins (after m).packets n.before.packets
    by_place t (inl is) (inl f) both =
        let g : place ≡ m.place = ap (λ (x : Moment). x.place) is in
        let h : place ≡ n.place = ap (λ (x : Moment). x.place) f in
        absurd (omega (arith, g, h, sooner))
    by_place t (inl is) (inr second) both =
        subst (λ (x : Moment). Begins (after x).packets n.before.packets) is
        (met (step w place e).0 (place + 1) events n t second).begins
    by_place t (inr first) (inl f) both =
        let l = (met (step w place e).0 (place + 1) events m t first).no_sooner in
        let h : place ≡ n.place = ap (λ (x : Moment). x.place) f in
        absurd (omega (arith, l, h, sooner))
    by_place t (inr first) (inr second) both = both first second
