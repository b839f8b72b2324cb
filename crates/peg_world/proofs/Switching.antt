-- A packet that is handed to a switch, and what is noted of it.
use Rattle.std.proofs.Common.{◌≡◌, ℕ, ◌≤◌, List, ◌++◌, length, ap, sym, ◌∙◌, refl, arith}
use Rattle.std.proofs.Common.{Some, None, Option, length-append}
use Rattle.std.specs.Prelude.{Ok, Err}
use Rattle.std.proofs.lemmas.List.{length-map}
use Rattle.peg_name.specs.declared.Node.{Node}
use Rattle.peg_event.specs.declared.Line.{Line}
use Rattle.peg_event.specs.declared.Outcome.TheVariants.{Listed}
use Rattle.peg_event.specs.declared.Said.{Said}
use Rattle.peg_event.specs.declared.Said.TheVariants as said
use Rattle.peg_event.specs.declared.SwitchDid.{SwitchDid}
use Rattle.peg_event.specs.declared.SwitchDid.TheVariants as switch_did
use Rattle.peg_model.specs.Packet.{Packet, Write, Command, Promote}
use Rattle.peg_model.specs.Rules.{base_of}
use Rattle.peg_model.specs.Switch.{Switch, SwitchStep, switch_step}
use Rattle.peg_model.specs.World.{World, Operation, AppliedFence, Promotion, reports, switch_stepped}
use Rattle.peg_model.specs.World.{switch_of, after_switch, promoted}
use Rattle.peg_world.specs.declared.Halt.{Halt}
use Rattle.peg_world.specs.declared.saying.Note.{Note}
use Rattle.peg_world.specs.declared.saying.Note.TheVariants as note
use Rattle.peg_world.specs.Acting.{Acting, switch_at, switch_acts}
use Rattle.peg_world.specs.Machine.{world_of}
use Rattle.peg_world.specs.Midway.{Midway, Came, Closes, at_place}
use Rattle.peg_world.specs.Notes.{note_by, noted}
use Rattle.peg_world.proofs.Coming.{came, stops}

-- ---- the book's step

noted_is :
    (p : Packet) (did : SwitchDid) (w : World) (s : Switch)
    → after_switch w s p did ≡ noted w s (note_by p did)
noted_is (Write client seq key content) (switch_did.Wrote server written version) w s = refl
noted_is (Write client seq key content) _ w s = refl
noted_is (Command number (Promote key)) (switch_did.Applied applied (Listed listing)) w s = refl
noted_is (Command number (Promote key)) (switch_did.Applied applied _) w s = refl
noted_is (Command number (Promote key)) _ w s = refl
noted_is (Command number _) did w s = refl
noted_is _ did w s = refl

record Alike (w v : World) : Type 0 where
  packets : v.packets ≡ w.packets
  place : v.place ≡ w.place
  rack : v.rack ≡ w.rack
  operations : length v.operations ≡ length w.operations

promoted_alike : (base : Option ℕ) (w : World) (key : List ℕ) → Alike w (promoted w key base)
promoted_alike None w key =
    record { packets = refl; place = refl; rack = refl; operations = refl }
promoted_alike (Some version) w key =
    record { packets = refl; place = refl; rack = refl; operations = refl }

noted_alike : (n : Note) (w : World) (s : Switch) → Alike w (noted w s n)
noted_alike (note.Stamped client seq version) w s =
    record { packets = refl; place = refl; rack = refl; operations = length-map w.operations _ }
noted_alike (note.Listed key) w s = promoted_alike (base_of s.entries key) w key
noted_alike note.Nothing w s =
    record { packets = refl; place = refl; rack = refl; operations = refl }

-- ---- what the delivery comes to

module _
    (n0 n1 : Acting) (before place : ℕ) (packets : List (Node × Packet))
    (operations : List Operation) (fences : List AppliedFence) (promotions : List Promotion)
    (id : ℕ) (p : Packet) (pick : ℕ) (old now : Midway) (spare notes bytes : ℕ)
  where
    abbrev step : SwitchStep
    step = switch_step (switch_at n0 id) p pick

    abbrev w0 : World
    w0 = world_of n0 before packets operations fences promotions

    abbrev book : World → World × Line
    book w = switch_stepped (at_place w place) id p (switch_step (switch_of w id) p pick)

    abbrev mid : Midway
    mid = record {
      world = world_of n1 before packets operations fences promotions;
      sent = n1.sent;
      spare = spare;
      notes = notes;
      room = bytes;
    }

    abbrev w2 : World
    w2 = world_of (switch_acts n0 step) place packets operations fences promotions

    pub switch_stops :
        (halt : Halt) → w0 ≡ old.world → n1 ≡ switch_acts n0 step → Closes mid now place (Err halt)
        → Came old now place (book old.world) (Err halt)
    switch_stops halt seen acts closes =
        stops old now n0 n1 (switch_acts n0 step) before place packets operations fences promotions
        spare notes bytes book halt seen acts refl
        (ap (λ (w : World). length (w.packets ++ step.sent)) (noted_is p step.did w2 step.state)
        ∙ ap (λ ps. length (ps ++ step.sent))
        (noted_alike (note_by p step.did) w2 step.state).packets
        ∙ length-append packets step.sent) closes

    pub switch_came :
        (closed : Midway) (n : Note) (did : SwitchDid) (told : Said)
        → w0 ≡ old.world → n1 ≡ switch_acts n0 step → switch_at n1 id ≡ step.state
        → n ≡ note_by p did → did ≡ step.did → told ≡ said.Switch id did
        → Closes mid closed place (Ok tt)
        → now.world ≡ noted closed.world (switch_of closed.world id) n
        → now.sent ≡ closed.sent → now.spare ≡ closed.spare → length n1.sent ≤ spare
        → Came old now place (book old.world) (Ok told)
    switch_came closed n did told seen acts held notes_is answered tells closes is sent room fits =
        let alike = noted_alike (note_by p step.did) w2 step.state in
        let world_is : now.world ≡ noted w2 step.state (note_by p step.did) =
        is
        ∙ ap (λ (m : Midway). noted m.world (switch_of m.world id) n) closes.0
        ∙ ap (λ s. noted (world_of n1 place packets operations fences promotions) s n) held
        ∙ ap (λ (m : Acting). noted (world_of m place packets operations fences promotions)
        step.state n) acts
        ∙ ap (noted w2 step.state) (notes_is ∙ ap (note_by p) answered) in
        let sent_is : now.sent ≡ step.sent =
        sent ∙ ap (λ (m : Midway). m.sent) closes.0 ∙ ap (λ (m : Acting). m.sent) acts in
        came old now place (book old.world) told
        (ap (λ w. reports w now.sent told)
        (world_is ∙ sym (noted_is p step.did w2 step.state))
        ∙ ap (λ xs. reports (after_switch w2 step.state p step.did) xs told) sent_is
        ∙ ap (reports (after_switch w2 step.state p step.did) step.sent)
        (tells ∙ ap (said.Switch id) answered)
        ∙ ap book seen)
        (omega (
          arith,
          closes.1,
          ap (λ (w : World). length w.packets) world_is,
          ap length alike.packets,
          ap length sent_is,
          ap (λ (m : Acting). length m.sent) acts,
        ))
        (omega (
          arith,
          fits,
          room,
          ap (λ (m : Midway). m.spare) closes.0,
          ap length sent_is,
          ap (λ (m : Acting). length m.sent) acts,
        ))
        (ap (λ (w : World). w.place) world_is ∙ alike.place)
        (ap (λ (w : World). w.rack) world_is ∙ alike.rack ∙ ap (λ (w : World). w.rack) seen)
        (ap (λ (w : World). w.packets) world_is ∙ alike.packets
        ∙ ap (λ (w : World). w.packets) seen)
        (omega (
          arith,
          ap (λ (w : World). length w.operations) world_is,
          alike.operations,
          ap (λ (w : World). length w.operations) seen,
        ))
