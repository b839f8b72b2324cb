-- What holds of the lines of a schedule holds of those of a run with gaps between its places.
use Rattle.std.proofs.Common.{◌≡◌, ◌+◌, ◌-◌, ◌⊎◌, inl, inr, ℕ, zero, suc}
use Rattle.std.proofs.Common.{List, [], ◌∷◌, ◌++◌, replicate, refl, sym, ap, ◌∙◌, subst, arith}
use Rattle.std.proofs.Common.{append-nil, slice_get}
use Rattle.std.specs.Prelude.{IsSomeAnd, Contains}
use Rattle.peg_name.specs.declared.Node.{Node}
use Rattle.peg_name.specs.declared.Node.TheVariants as node
use Rattle.peg_event.specs.declared.Event.{Event}
use Rattle.peg_event.specs.declared.Line.{Line}
use Rattle.peg_model.specs.Packet.{Packet}
use Rattle.peg_model.specs.Switch.{Active}
use Rattle.peg_model.specs.World.{World, step, client_of, switch_of}
use Rattle.peg_model.specs.Moments.{Moment, moments, FullRound, IsHandedOn, IsAtActive, IsPendingAt}
use Rattle.peg_model.specs.Moments.{IsRequestOf, IsReply, IsAnsweredAt, IsInPlace}
use Rattle.peg_model.specs.Moments.{is_bad_junk, says_malformed, says_out_of_place}
use Rattle.peg_law.specs.Places.{AreRising, quiet, filled, moment_at, moments_at}
use Rattle.peg_law.proofs.Filled.{quiet_step}
use Rattle.peg_law.proofs.Lists.{contains_cases}

-- ---- worlds that are the same but for the place

abbrev placeless : World → World
placeless w = record w { place = 0 }

same_step :
    (w v : World) (at : ℕ) (e : Event) → placeless w ≡ placeless v → step w at e ≡ step v at e
same_step w v at e same = ap (λ (u : World). step (record u { place = at }) at e) same

quiet_same : (w : World) (place : ℕ) → placeless w ≡ placeless (step w place quiet).0
quiet_same w place =
    ap (λ packets. record w { place = 0; packets = packets }) (sym (append-nil w.packets))
    ∙ sym (ap placeless (quiet_step w place))

-- ---- lines that are the same but for the place of the line before

pub record AreAlike (m n : Moment) : Type 0 where
  pub place : n.place ≡ m.place
  pub event : n.event ≡ m.event
  pub line : n.line ≡ m.line
  pub before : placeless m.before ≡ placeless n.before

pub record Found (m : Moment) (lines : List Moment) : Type 0 where
  pub found : Moment
  pub has : Contains lines found
  pub alike : AreAlike m found

contains_later :
    (x m : Moment) (xs : List Moment) → Contains xs m → Contains (x ∷ xs) m
contains_later x m xs (k, less, is) = (suc k, omega (arith, less), is)

-- where quiet events come first
record Behind (w v : World) (place : ℕ) (e : Event) (k : ℕ) (events : List Event) : Type 0 where
  world : World
  same : placeless w ≡ placeless world
  has :
      (m : Moment) → Contains (moments world (place + k) (e ∷ events)) m
      → Contains (moments v place (replicate k quiet ++ e ∷ events)) m

behind :
    (k : ℕ) (w v : World) (place : ℕ) (e : Event) (events : List Event)
    → placeless w ≡ placeless v → Behind w v place e k events
behind zero w v place e events same =
    let at : place + 0 ≡ place = omega arith in
    record {
      world = v;
      same = same;
      has = λ m h. subst (λ n. Contains (moments v n (e ∷ events)) m) at h;
    }
behind (suc k) w v place e events same =
    let next = (step v place quiet).0 in
    let b = behind k w next (place + 1) e events (same ∙ quiet_same v place) in
    let at : place + suc k ≡ place + 1 + k = omega arith in
    record {
      world = b.world;
      same = b.same;
      has = λ m h.
          contains_later (moment_at v place quiet) m
          (moments next (place + 1) (replicate k quiet ++ e ∷ events))
          (b.has m (subst (λ n. Contains (moments b.world n (e ∷ events)) m) at h));
    }

pub found_in :
    (w v : World) (place : ℕ) (placed : List (ℕ × Event)) (m : Moment)
    → placeless w ≡ placeless v → AreRising place placed → Contains (moments_at w placed) m
    → Found m (moments v place (filled place placed))
found_in w v place [] m same rising (k, less, is) = absurd (omega (arith, less))
found_in w v place ((at, e) ∷ placed) m same rising has =
    by_case (contains_cases (moment_at w at e) m (moments_at (step w at e).0 placed) has)
    (λ later.
    found_in (step w at e).0 (step b.world at e).0 (at + 1) placed m next rising.1 later)
  where
    events : List Event
    events = filled (at + 1) placed

    b : Behind w v place e (at - place) events
    b = behind (at - place) w v place e events same

    here : place + (at - place) ≡ at
    here = omega (arith, rising.0)

    ends :
        (n : Moment) → Found n (moments b.world at (e ∷ events))
        → Found n (moments v place (replicate (at - place) quiet ++ e ∷ events))
    ends n f =
        record {
          found = f.found;
          has =
              b.has f.found
              (subst (λ n. Contains (moments b.world n (e ∷ events)) f.found) (sym here) f.has);
          alike = f.alike;
        }

    next : placeless (step w at e).0 ≡ placeless (step b.world at e).0
    next = ap (λ (r : World × Line). placeless r.0) (same_step w b.world at e b.same)

    by_case :
        (moment_at w at e ≡ m) ⊎ Contains (moments_at (step w at e).0 placed) m
        →
        (Contains (moments_at (step w at e).0 placed) m
        → Found m (moments (step b.world at e).0 (at + 1) events))
        → Found m (moments v place (replicate (at - place) quiet ++ e ∷ events))
    by_case (inl is) rest =
        subst (λ n. Found n (moments v place (replicate (at - place) quiet ++ e ∷ events))) is
        (ends (moment_at w at e) (record {
          found = moment_at b.world at e;
          has = (0, omega arith, refl);
          alike = record {
            place = refl;
            event = refl;
            line = ap (λ (r : World × Line). r.1) (sym (same_step w b.world at e b.same));
            before = b.same;
          };
        }))
    by_case (inr later) rest =
        let f = rest later in
        ends m (record {
          found = f.found;
          has =
              contains_later (moment_at b.world at e) f.found
              (moments (step b.world at e).0 (at + 1) events) f.has;
          alike = f.alike;
        })

-- ---- nothing is out of place

place_kept : (m n : Moment) → AreAlike m n → IsInPlace n → IsInPlace m
place_kept m n a h =
    record {
      in_place = ap (λ (l : Line). says_out_of_place l.said) (sym a.line) ∙ h.in_place;
      malformed =
          ap (λ (l : Line). says_malformed l.said) (sym a.line) ∙ h.malformed
          ∙ ap is_bad_junk a.event;
    }

pub in_place_at :
    (w : World) (place : ℕ) (placed : List (ℕ × Event)) (m : Moment) → AreRising place placed
    → ((n : Moment) → Contains (moments w place (filled place placed)) n → IsInPlace n)
    → Contains (moments_at w placed) m → IsInPlace m
in_place_at w place placed m rising all has =
    let f = found_in w w place placed m refl rising has in
    place_kept m f.found f.alike (all f.found f.has)

-- ---- full rounds

handed_on :
    (m n : Moment) (number next : ℕ) → AreAlike m n → IsHandedOn m number next
    → IsHandedOn n number next
handed_on m n number next a h =
    record {
      pick = h.pick;
      delivered = a.event ∙ h.delivered;
      sent = ap (λ (l : Line). l.sent) a.line ∙ h.sent;
    }

at_active : (m n : Moment) (number : ℕ) → AreAlike m n → IsAtActive m number → IsAtActive n number
at_active m n number a h =
    let P : World → Type 0 =
    λ w. IsSomeAnd (slice_get w.packets number)
    (λ item. (id : ℕ) × (item.0 ≡ node.Switch id) × ((switch_of w id).mode ≡ Active)) in
    subst P a.before h

packet_is :
    (m n : Moment) (number : ℕ) (Q : Node × Packet → Type 0) → AreAlike m n
    → IsSomeAnd (slice_get m.before.packets number) Q
    → IsSomeAnd (slice_get n.before.packets number) Q
packet_is m n number Q a h =
    let P : World → Type 0 = λ w. IsSomeAnd (slice_get w.packets number) Q in subst P a.before h

pending_at :
    (m n : Moment) (client seq : ℕ) → AreAlike m n → IsPendingAt m.before client seq
    → IsPendingAt n.before client seq
pending_at m n client seq a h =
    let P : World → Type 0 = λ w. IsSomeAnd (client_of w client).pending (λ p. p.seq ≡ seq) in
    subst P a.before h

module _ (w : World) (place : ℕ) (placed : List (ℕ × Event)) (rising : AreRising place placed) where
  abbrev lines : List Moment
  lines = moments w place (filled place placed)

  find : (m : Moment) → Contains (moments_at w placed) m → Found m lines
  find m has = found_in w w place placed m refl rising has

  round_found :
      (client seq : ℕ) (last : Moment) → (f : FullRound (moments_at w placed) client seq last)
      → FullRound lines client seq (find last f.in_run.3).found
  round_found client seq last f =
      let first = find f.first f.in_run.0 in
      let second = find f.second f.in_run.1 in
      let third = find f.third f.in_run.2 in
      let ends = find last f.in_run.3 in
      let a = first.alike.place in
      let b = second.alike.place in
      let c = third.alike.place in
      let d = ends.alike.place in
      let up = f.rising in
      record {
        first = first.found;
        second = second.found;
        third = third.found;
        in_run = (first.has, second.has, third.has, ends.has);
        rising = (omega (arith, a, b, up.0), omega (arith, b, c, up.1), omega (arith, c, d, up.2));
        request = f.request;
        forwarded = f.forwarded;
        reply = f.reply;
        answer = f.answer;
        is_request =
            packet_is f.first first.found f.request (IsRequestOf client seq) first.alike
            f.is_request;
        is_reply = packet_is f.third third.found f.reply IsReply third.alike f.is_reply;
        at_active = (
          at_active f.first first.found f.request first.alike f.at_active.0,
          at_active f.third third.found f.reply third.alike f.at_active.1,
        );
        hops = (
          handed_on f.first first.found f.request f.forwarded first.alike f.hops.0,
          handed_on f.second second.found f.forwarded f.reply second.alike f.hops.1,
          handed_on f.third third.found f.reply f.answer third.alike f.hops.2,
        );
        delivered = (f.delivered.0, ends.alike.event ∙ f.delivered.1);
        is_pending = pending_at last ends.found client seq ends.alike f.is_pending;
      }

  pub answered_at_places :
      ((client seq : ℕ) (last : Moment) → FullRound lines client seq last
      → IsAnsweredAt last client seq)
      → (client seq : ℕ) (last : Moment) → FullRound (moments_at w placed) client seq last
      → IsAnsweredAt last client seq
  answered_at_places law client seq last f =
      let ends = find last f.in_run.3 in
      let h = law client seq ends.found (round_found client seq last f) in
      (h.0, ap (λ (l : Line). l.said) (sym ends.alike.line) ∙ h.1, h.2)
