-- How an event comes.
use Rattle.std.proofs.Common.{◌≡◌, ℕ, ◌+◌, ◌≤◌, List, length, ap, sym, ◌∙◌}
use Rattle.std.proofs.Common.{arith}
use Rattle.std.specs.Prelude.{Ok, Err}
use Rattle.peg_name.specs.declared.Node.{Node}
use Rattle.peg_event.specs.declared.Line.{Line}
use Rattle.peg_event.specs.declared.Said.{Said}
use Rattle.peg_model.specs.Packet.{Packet}
use Rattle.peg_model.specs.World.{World, Operation, AppliedFence, Promotion, reports}
use Rattle.peg_world.specs.declared.Halt.{Halt}
use Rattle.peg_world.specs.declared.Halt.TheVariants as halts
use Rattle.peg_world.specs.Acting.{Acting}
use Rattle.peg_world.specs.Machine.{world_of}
use Rattle.peg_world.specs.Midway.{Midway, Came, Closes}

-- the packets would pass the limit
stopped :
    (halt : Halt) (old mid now : Midway) (place : ℕ) (after : World × Line)
    → Closes mid now place (Err halt)
    → mid.world.packets ≡ old.world.packets → mid.world.operations ≡ old.world.operations
    → mid.world.rack ≡ old.world.rack → mid.world.place ≡ old.world.place
    → length after.0.packets ≡ length mid.world.packets + length mid.sent
    → Came old now place after (Err halt)
stopped halts.OutOfMemory old mid now place after closes packets operations rack at count =
    absurd closes
stopped halts.TooMuch old mid now place after closes packets operations rack at count =
    let same : now.world ≡ mid.world = ap (λ (m : Midway). m.world) closes.0 in
    record {
      comes = (
        ap (λ (w : World). w.packets) same ∙ packets,
        ap (λ (w : World). w.operations) same ∙ operations,
        omega (arith, closes.1, count),
        ap (λ (w : World). w.place) same ∙ at,
      );
      at = tt;
      rack = ap (λ (w : World). w.rack) same ∙ rack;
      packets = tt;
      counted =
          omega (
            arith,
            ap (λ (w : World). length w.operations) same,
            ap length operations,
          );
    }

-- it came
pub came :
    (old now : Midway) (place : ℕ) (after : World × Line) (said : Said)
    → reports now.world now.sent said ≡ after
    → length now.world.packets + length now.sent ≤ 200000 → length now.sent ≤ now.spare
    → now.world.place ≡ place → now.world.rack ≡ old.world.rack
    → now.world.packets ≡ old.world.packets
    → length now.world.operations ≤ length old.world.operations + 1
    → Came old now place after (Ok said)
came old now place after said is within room at rack packets counted = record {
  comes = record { is = is; within = within; room = room };
  at = at;
  rack = rack;
  packets = packets;
  counted = counted;
}

-- ---- an event that only a node takes part in

module _
    (old now : Midway) (n0 n1 n2 : Acting) (before place : ℕ) (packets : List (Node × Packet))
    (operations : List Operation) (fences : List AppliedFence) (promotions : List Promotion)
    (spare notes bytes : ℕ) (book : World → World × Line)
  where
    abbrev w0 : World
    w0 = world_of n0 before packets operations fences promotions

    abbrev mid : Midway
    mid = record {
      world = world_of n1 before packets operations fences promotions;
      sent = n1.sent;
      spare = spare;
      notes = notes;
      room = bytes;
    }

    pub stops :
        (halt : Halt)
        → w0 ≡ old.world → n1 ≡ n2 → n2.rack ≡ n0.rack
        → length (book w0).0.packets ≡ length packets + length n2.sent
        → Closes mid now place (Err halt)
        → Came old now place (book old.world) (Err halt)
    stops halt seen same rack count closes =
        stopped halt old mid now place (book old.world) closes
        (ap (λ (w : World). w.packets) seen) (ap (λ (w : World). w.operations) seen)
        (ap (λ (n : Acting). n.rack) same ∙ rack ∙ ap (λ (w : World). w.rack) seen)
        (ap (λ (w : World). w.place) seen)
        (ap (λ w. length (book w).0.packets) (sym seen) ∙ count
        ∙ ap (λ (n : Acting). length packets + length n.sent) (sym same))
