-- Lines that words accept and lines that they refuse, at the edges of their ranges.
use Rattle.std.specs.Prelude.{◌≡◌, ◌≤◌, ◌<◌, ◌^◌, ℕ, List, [], ◌∷◌, refl, codes, replicate, None}
use Rattle.std.specs.Prelude.{slice_index_or}
use Rattle.std.proofs.Common.{arith, ap}
use Rattle.std.specs.Fmt.{digits}
use Rattle.peg_name.specs.declared.Format.TheVariants.{One, Two}
use Rattle.peg_name.specs.declared.value.Content.TheVariants.{Absent, Present}
use Rattle.peg_name.specs.declared.Node.TheVariants as node
use Rattle.peg_event.specs.declared.history.Act.TheVariants as act
use Rattle.peg_event.specs.declared.answers.Ask.TheVariants as ask
use Rattle.peg_event.specs.declared.Command.TheVariants as command
use Rattle.peg_event.specs.declared.Event.TheVariants as event
use Rattle.peg_event.specs.declared.history.Op.{Op}
use Rattle.peg_meaning.specs.Roles.{IsAskLine, IsCallLine, Orders, Plans}
use Rattle.peg_meaning.specs.RackWord as rack
use Rattle.peg_meaning.specs.RackWord.{IsRackWordLine, Racked, racked, Running}
use Rattle.peg_meaning.specs.Records as record_word
use Rattle.peg_meaning.specs.Records.{IsRecordLine, no_event, IsAuditLine, Judging, audited, Took}
use Rattle.peg_meaning.specs.Records.{Sent, AuditEntry}
use Rattle.peg_meaning.specs.CheckWord as check
use Rattle.peg_meaning.specs.CheckWord.{IsCheckLine, Checker, Checked, checker}
use Rattle.peg_model.proofs.Computed.{rack_with}

-- ---- ask

asks_a_write : IsAskLine One (codes "write k =x") (codes "k", ask.Write (Present (codes "x")))
unfolding digits
asks_a_write = record { key = omega arith; content = omega arith; spelled = refl }

asks_a_delete : IsAskLine Two (codes "delete k") (codes "k", ask.Write Absent)
asks_a_delete = record { key = omega arith; content = refl; spelled = refl }

no_delete_in_the_first_format :
    IsAskLine One (codes "delete k") (codes "k", ask.Write Absent) → ⊥
no_delete_in_the_first_format h = let differs : One ≡ Two = h.content in cc

too_long_a_value :
    (line : List ℕ)
    → IsAskLine One line (codes "k", ask.Write (Present (replicate 513 120))) → ⊥
too_long_a_value line h = let long : 513 ≤ 512 = h.content.0 in absurd (omega (arith, long))

-- ---- control

copies_to_255 : IsCallLine (codes "copy k 255") (Orders (command.Copy (codes "k") 255))
unfolding digits
copies_to_255 = record { in_range = omega arith; spelled = (0, omega arith, refl) }

no_copy_to_256 : (line : List ℕ) → IsCallLine line (Orders (command.Copy (codes "k") 256)) → ⊥
no_copy_to_256 line h = let far : 256 < 256 = h.in_range.1 in absurd (omega (arith, far))

plans_with_great_numbers :
    IsCallLine (codes "plan 18446744073709551615 0") (Plans 18446744073709551615 0)
unfolding digits
plans_with_great_numbers = record { in_range = omega arith; spelled = (0, omega arith, refl) }

-- ---- rack

abbrev two_clients : rack.RackWord
two_clients = Running (racked 7000 (rack_with One 1 2 1 1 1 1) [])

takes_from_the_last :
    IsRackWordLine two_clients (codes "take client 1 18446744073709551615")
    (rack.Takes (node.Client 1) 18446744073709551615)
unfolding digits
takes_from_the_last = (omega arith, omega arith, (0, omega arith, refl))

takes_without_a_pick :
    IsRackWordLine two_clients (codes "take controller") (rack.Takes node.Controller 0)
unfolding digits
takes_without_a_pick = (tt, omega arith, (0, omega arith, refl))

takes_with_the_pick_0 :
    IsRackWordLine two_clients (codes "take controller 0") (rack.Takes node.Controller 0)
unfolding digits
takes_with_the_pick_0 = (tt, omega arith, (1, omega arith, refl))

no_such_client :
    (line : List ℕ) → IsRackWordLine two_clients line (rack.Takes (node.Client 2) 0) → ⊥
no_such_client line h = let far : 2 < 2 = h.0 in absurd (omega (arith, far))

no_delivery :
    (line : List ℕ) → IsRackWordLine two_clients line (rack.Happens (event.Deliver 0 0)) → ⊥
no_delivery line h = h.1

no_junk :
    (line : List ℕ)
    → IsRackWordLine two_clients line (rack.Happens (event.Junk node.Controller [])) → ⊥
no_junk line h = h.1

-- ---- record and audit

takes_plainly :
    IsRecordLine no_event (rack_with One 1 1 1 1 1 1) (codes "take") (record_word.Takes 0)
takes_plainly = (omega arith, (0, omega arith, refl))

abbrev begun : record_word.Auditor
begun = Judging (audited (rack_with One 1 1 1 1 1 1))

nothing_sent_before_an_event :
    (line : List ℕ) → IsAuditLine begun line (Sent (node.Server 0) []) → ⊥
nothing_sent_before_an_event line h = let early : 2 ≤ 0 = h.0 in absurd (omega (arith, early))

took_no_bytes : IsAuditLine begun (codes "took switch 0 7 x") (Took (node.Switch 0) 7 [])
unfolding digits
took_no_bytes = (omega arith, omega arith, (omega arith, tt), refl)

too_long_a_datagram :
    (line : List ℕ) → IsAuditLine begun line (Took (node.Switch 0) 0 (replicate 1154 0)) → ⊥
too_long_a_datagram line h = let long : 1154 ≤ 1153 = h.2.0 in absurd (omega (arith, long))

-- ---- check

many_operations : IsCheckLine checker (codes "history 200000") (check.History 200000)
unfolding digits
many_operations = (omega arith, refl)

too_many_operations : (line : List ℕ) → IsCheckLine checker line (check.History 200001) → ⊥
too_many_operations line h = let many : 200001 ≤ 200000 = h.0 in absurd (omega (arith, many))

abbrev read_of : ℕ → Op
read_of issued =
    record {
      client = 1023;
      key = codes "k";
      act = act.Read;
      content = Absent;
      issued = issued;
      answered = None;
    }

-- one more operation is to come behind this one
abbrev one_read : Checker
one_read =
    record {
      lines = 2;
      stage = check.Reading (record {
        unread = 1;
        ops = read_of 4 ∷ [];
        unplaced = 0;
        key_orders = [];
      });
    }

reads_the_next :
    IsCheckLine one_read (codes "op 1 client 1023 read k issued 5 open")
    (check.Operation 1 (read_of 5))
unfolding digits
reads_the_next = (
  record {
    number_in_range = omega arith;
    in_range =
        record {
          client = omega arith;
          key = omega arith;
          content = tt;
          ungiven = refl;
          issued = omega arith;
          answered = tt;
        };
    spelled = refl;
  },
  refl,
  omega arith,
)

not_at_the_same_place :
    (line : List ℕ) → IsCheckLine one_read line (check.Operation 1 (read_of 4)) → ⊥
not_at_the_same_place line h = let same : 4 < 4 = h.2 in absurd (omega (arith, same))

not_under_another_number :
    (line : List ℕ) → IsCheckLine one_read line (check.Operation 2 (read_of 5)) → ⊥
not_under_another_number line h = let other : 2 ≡ 1 = h.1 in absurd (omega (arith, other))

not_done_yet : (line : List ℕ) → IsCheckLine one_read line check.Done → ⊥
not_done_yet line h = h

-- all operations were read, and no order yet
abbrev all_read : Checker
all_read =
    record {
      lines = 2;
      stage = check.Reading (record {
        unread = 0;
        ops = read_of 4 ∷ [];
        unplaced = 0;
        key_orders = [];
      });
    }

orders_its_key : IsCheckLine all_read (codes "order k 18446744073709551615")
    (check.Order (codes "k") 18446744073709551615)
unfolding digits
orders_its_key = (refl, omega arith, refl)

orders_no_other : (line : List ℕ) → IsCheckLine all_read line (check.Order (codes "a") 0) → ⊥
orders_no_other line h =
    let other : 97 ≡ 107 = ap (λ xs. slice_index_or xs 0 0) h.0 in absurd (omega (arith, other))

no_order_is_missing : (line : List ℕ) → IsCheckLine all_read line check.Done → ⊥
no_order_is_missing line h = h

-- an order of which a place is to come
abbrev one_place : Checker
one_place =
    record {
      lines = 3;
      stage = check.Reading (record {
        unread = 0;
        ops = read_of 4 ∷ [];
        unplaced = 1;
        key_orders = (codes "k", []) ∷ [];
      });
    }

stands_far : IsCheckLine one_place (codes "at 4294967295") (check.At 4294967295)
unfolding digits
stands_far = (omega arith, refl)

stands_too_far : (line : List ℕ) → IsCheckLine one_place line (check.At 4294967296) → ⊥
stands_too_far line h = let far : 4294967296 < 2 ^ 32 = h.0 in absurd (omega (arith, far))
