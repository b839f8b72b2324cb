-- The made workload of `soak`: its events are drawn from a generator of words, and what is written
-- of its run.
--     range n g      the next word of a generator modulo n
--     popular_key r      the key that a number below 336 stands for
--     drawn number sent g      the event of this number, where so many packets were sent, and the
--         generator behind it
--     made left number w g      the world after so many further events
--     summary_text events w      the six lines that are written
--     soak_text events start      the same of a run from this number, drawn from Pcg64
use Rattle.std.specs.Prelude.{◌+◌, ◌-◌, ◌%◌, ℕ, zero, suc, ◌==◌, nat_lt, min, List, [], ◌∷◌, ◌++◌}
use Rattle.std.specs.Prelude.{length, count_by, is_some, replicate, slice_index_or, codes, decimal}
use Rattle.std.specs.Prelude.{if◌then◌else◌}
use Rattle.rand_pcg.specs.Lcg.{Lcg, started, increment_of}
use Rattle.rand_pcg.specs.Pcg.{pcg64, multiplier_128}
use Rattle.peg_name.specs.Name.{Rack}
use Rattle.peg_name.specs.declared.Format.TheVariants.{One}
use Rattle.peg_name.specs.declared.Node.TheVariants as node
use Rattle.peg_event.specs.declared.Event.{Event}
use Rattle.peg_event.specs.declared.Event.TheVariants as event
use Rattle.peg_event.specs.declared.history.Verdict.{Verdict}
use Rattle.peg_event.specs.declared.history.Verdict.TheVariants as verdict
use Rattle.peg_model.specs.Words.{last_number}
use Rattle.peg_model.specs.Packet.{eight}
use Rattle.peg_model.specs.World.{World, start, step, history}
use Rattle.peg_model.specs.Order.{orders}
use Rattle.peg_model.specs.Schedule.{fed}
use Rattle.peg_model.specs.Judge.{verdict_of, fault_text}

abbrev pub soak_rack : Rack
soak_rack = record {
  format = One;
  servers = 4;
  clients = 8;
  switches = 2;
  listed = 4;
  hot = 8;
  first = 1;
}

-- ---- keys

-- how many of 336 draws each key has
abbrev pub weights : List ℕ
weights = 128 ∷ 64 ∷ 32 ∷ 16 ∷ replicate 12 8

-- the number of the first weight that, with all before it, is above r
abbrev pub weight_above : ℕ → List ℕ → ℕ
weight_above r [] = 0
weight_above r (weight ∷ rest) = if nat_lt r weight then 0 else 1 + weight_above (r - weight) rest

abbrev pub popular_key : ℕ → List ℕ
popular_key r = codes "k" ++ decimal (weight_above r weights)

-- ---- events, each drawn with what it needs in the order of its words

module _ {G : Type 0} (draw : G → ℕ × G) where
  abbrev pub range : ℕ → G → ℕ × G
  range n g = let word = draw g in (word.0 % n, word.1)

  abbrev pub key : G → List ℕ × G
  key g = let r = range 336 g in (popular_key r.0, r.1)

  abbrev pub of_client : (ℕ → Event) → G → Event × G
  of_client e g = let client = range 8 g in (e client.0, client.1)

  abbrev pub of_key : (List ℕ → Event) → G → Event × G
  of_key e g = let k = key g in (e k.0, k.1)

  abbrev pub of_client_and_key : (ℕ → List ℕ → Event) → G → Event × G
  of_client_and_key e g = let client = range 8 g in of_key (e client.0) client.1

  abbrev pub plainly : Event → G → Event × G
  plainly e g = (e, g)

  abbrev pub writes : ℕ → G → Event × G
  writes number g =
      of_client_and_key (λ client k. event.Write client k (codes "v" ++ decimal number)) g

  -- eight bytes, which no packet has
  abbrev pub junks : G → Event × G
  junks g =
      let to = range 2 g in
      let bytes = range last_number to.1 in
      (event.Junk (node.Switch to.0) (eight bytes.0), bytes.1)

  abbrev pub copies : G → Event × G
  copies g =
      let k = key g in
      let target = range 4 k.1 in
      (event.Copy k.0 target.0, target.1)

  abbrev pub handovers : G → Event × G
  handovers g = let target = range 2 g in (event.Handover target.0, target.1)

  -- one of the last 24 packets
  abbrev pub delivers : ℕ → G → Event × G
  delivers sent g =
      let back = range (min sent 24) g in
      let pick = range 12 back.1 in
      if sent == 0 then (event.Retry, g)
      else (event.Deliver (sent - 1 - back.0) pick.0, pick.1)

  -- how often of 32 each is drawn
  abbrev pub table : ℕ → ℕ → List (G → Event × G)
  table number sent =
      replicate 4 (of_client_and_key event.Read) ++ replicate 3 (writes number)
      ++ of_client event.Resend ∷ of_client event.GiveUp ∷ junks ∷ of_key event.Promote
      ∷ of_key event.Demote ∷ copies ∷ handovers ∷ plainly event.Survey
      ∷ plainly (event.Plan 8 2) ∷ plainly event.Clear ∷ plainly event.Retry
      ∷ replicate 14 (delivers sent)

  unfoldable pub drawn : ℕ → ℕ → G → Event × G
  drawn number sent g =
      let d = range 32 g in slice_index_or (table number sent) d.0 (plainly event.Retry) d.1

  -- event number i stands at the place i + 1
  unfoldable pub made : ℕ → ℕ → World → G → World
  made zero number w g = w
  made (suc left) number w g =
      let e = drawn number (length w.packets) g in
      made left (number + 1) (step w (number + 1) e.0).0 e.1

-- ---- the summary

abbrev pub check_text : Verdict → List ℕ
check_text verdict.Yes = codes "check yes"
check_text (verdict.No f) = codes "check no " ++ fault_text f

abbrev pub answered_count : World → ℕ
answered_count w = count_by (λ op. is_some op.answered) (history w)

abbrev pub summary_text : ℕ → World → List ℕ
summary_text events w =
    let key_orders = orders w in
    fed (codes "events " ++ decimal events)
    ++ fed (codes "packets " ++ decimal (length w.packets))
    ++ fed (codes "operations " ++ decimal (length w.operations))
    ++ fed (codes "answered " ++ decimal (answered_count w))
    ++ fed (codes "keys " ++ decimal (length key_orders))
    ++ fed (check_text (verdict_of (history w) key_orders))

-- Pcg64 from this number, on the stream 1
abbrev pub soak_generator : ℕ → Lcg
soak_generator number = started 128 multiplier_128 number (increment_of 128 1)

abbrev pub soak_world : ℕ → ℕ → World
soak_world events number = made pcg64 events 1 (start soak_rack []) (soak_generator number)

abbrev pub soak_text : ℕ → ℕ → List ℕ
soak_text events number = summary_text events (soak_world events number)
