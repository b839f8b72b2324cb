-- Full rounds, computed: of a write of a key that the switch lists, and of a read of it; and a
-- reply that comes when its operation was given up.
use Rattle.std.proofs.Common.{◌≡◌, ℕ, List, [], ◌∷◌, map, drop, refl, arith}
use Rattle.std.specs.Prelude.{slice_index_or}
use Rattle.peg_name.specs.Name.{Rack}
use Rattle.peg_name.specs.declared.Format.TheVariants.{One}
use Rattle.peg_event.specs.declared.Event.{Event}
use Rattle.peg_event.specs.declared.Event.TheVariants.{Read, Write, Deliver, GiveUp}
use Rattle.peg_event.specs.declared.ClientDid.TheVariants as did
use Rattle.peg_event.specs.declared.Said.TheVariants as said
use Rattle.peg_name.specs.declared.value.Content.TheVariants.{Present}
use Rattle.peg_model.specs.World.{start, happens}
use Rattle.peg_model.specs.Switch.{switch_step}
use Rattle.peg_model.specs.Server.{server_step}
use Rattle.peg_model.specs.Client.{client_step}
use Rattle.peg_model.specs.Moments.{Moment, moments, FullRound}

abbrev rack : Rack
rack = record {
  format = One;
  servers = 2;
  clients = 1;
  switches = 1;
  listed = 1;
  hot = 1;
  first = 1;
}

abbrev keys : List (List ℕ)
keys = (107 ∷ []) ∷ []

-- a late copy of the write comes between the hops of the read
abbrev events : List Event
events =
    Write 0 (107 ∷ []) (118 ∷ []) ∷ Deliver 0 1 ∷ Deliver 1 0 ∷ Deliver 2 0 ∷ Deliver 3 0
    ∷ Read 0 (107 ∷ []) ∷ Deliver 4 0 ∷ Deliver 0 0 ∷ Deliver 5 0 ∷ Deliver 7 0 ∷ Deliver 8 0 ∷ []

abbrev lines : List Moment
lines = moments (start rack keys) 2 events

abbrev at_line : ℕ → Moment
at_line i =
    slice_index_or lines i
    (record {
      place = 0;
      event = Deliver 0 0;
      before = start rack keys;
      line = (happens (start rack keys) (Deliver 0 0)).1;
    })

round_of_write : FullRound lines 0 1 (at_line 4)
unfolding happens switch_step server_step client_step
round_of_write = record {
  first = at_line 1;
  second = at_line 2;
  third = at_line 3;
  in_run = (
    (1, omega arith, refl),
    (2, omega arith, refl),
    (3, omega arith, refl),
    (4, omega arith, refl),
  );
  rising = (omega arith, omega arith, omega arith);
  request = 0;
  forwarded = 1;
  reply = 2;
  answer = 3;
  is_request = (refl, refl);
  is_reply = tt;
  at_active = ((0, refl, refl), (0, refl, refl));
  hops = (
    record { pick = 1; delivered = refl; sent = refl },
    record { pick = 0; delivered = refl; sent = refl },
    record { pick = 0; delivered = refl; sent = refl },
  );
  delivered = (0, refl);
  is_pending = refl;
}

round_of_read : FullRound lines 0 2 (at_line 10)
unfolding happens switch_step server_step client_step
round_of_read = record {
  first = at_line 6;
  second = at_line 8;
  third = at_line 9;
  in_run = (
    (6, omega arith, refl),
    (8, omega arith, refl),
    (9, omega arith, refl),
    (10, omega arith, refl),
  );
  rising = (omega arith, omega arith, omega arith);
  request = 4;
  forwarded = 5;
  reply = 7;
  answer = 8;
  is_request = (refl, refl);
  is_reply = tt;
  at_active = ((0, refl, refl), (0, refl, refl));
  hops = (
    record { pick = 0; delivered = refl; sent = refl },
    record { pick = 0; delivered = refl; sent = refl },
    record { pick = 0; delivered = refl; sent = refl },
  );
  delivered = (0, refl);
  is_pending = refl;
}

-- the content that was written, at version 1
read_answer : (at_line 10).line.said ≡ said.Client 0 (did.Read 2 1 (Present (118 ∷ [])))
unfolding happens switch_step server_step client_step
read_answer = refl

-- without its being pending an operation isn't answered
given_up : List Event
given_up =
    Read 0 (107 ∷ []) ∷ Deliver 0 0 ∷ Deliver 1 0 ∷ Deliver 2 0 ∷ GiveUp 0 ∷ Read 0 (107 ∷ [])
    ∷ Deliver 3 0 ∷ []

late_answer : map (λ (m : Moment). m.line.said) (drop 6 (moments (start rack keys) 2 given_up))
    ≡ said.Client 0 did.Ignored ∷ []
unfolding given_up happens switch_step server_step client_step
late_answer = refl
