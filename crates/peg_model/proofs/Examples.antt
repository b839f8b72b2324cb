-- Single packets, single verdicts and refused lines, computed from the definitions.
use Rattle.std.specs.Prelude.{◌≡◌, ◌≤◌, List, [], ◌∷◌, ◌++◌, Some, None, Err, refl, codes, take}
use Rattle.std.specs.Prelude.{slice_set, replicate}
use Rattle.std.specs.Fmt.{digits}
use Rattle.std.proofs.Common.{arith}
use Rattle.peg_name.specs.Limits.{config_of}
use Rattle.peg_name.specs.declared.Format.TheVariants.{One, Two}
use Rattle.peg_name.specs.declared.value.Content.TheVariants.{Absent, Present}
use Rattle.peg_name.specs.declared.config.ConfigFault.TheVariants.{Servers}
use Rattle.peg_event.specs.declared.history.Act.TheVariants as act
use Rattle.peg_event.specs.declared.Event.TheVariants.{Read, Delete}
use Rattle.peg_event.specs.declared.history.Op.{Op}
use Rattle.peg_event.specs.declared.history.Fault.TheVariants as fault
use Rattle.peg_event.specs.declared.history.Verdict.TheVariants as verdict
use Rattle.peg_model.specs.Packet.{Packet, Write, ToServerWrite, WriteReply, ToServerRead}
use Rattle.peg_model.specs.Packet.{ReadReply, in_range, spelling}
use Rattle.peg_model.specs.Packet as packet
use Rattle.peg_model.specs.Reading.{packet_of}
use Rattle.peg_model.specs.Schedule.{EventInRack, EventInRange}
use Rattle.peg_model.specs.Judge.{verdict_of, verdict_text}
use Rattle.peg_model.proofs.Computed.{rack_with, hex}

-- ---- the packets of a write and a read through one switch

abbrev write_of_x : Packet
write_of_x = Write 0 1 (codes "k") (Present (codes "x"))

write_spelled :
    spelling One write_of_x
    ≡ hex (codes "504701020000000000000000000100000000000000000000016b01000178")
unfolding spelling
write_spelled = refl

forwarded_spelled :
    spelling One (ToServerWrite 0 1 1 0 0 (codes "k") (Present (codes "x")))
    ≡ hex (codes "504701040000000000000000000100000000000000010000016b01000178")
unfolding spelling
forwarded_spelled = refl

write_reply_spelled :
    spelling One (WriteReply 0 1 1 0 0 (codes "k"))
    ≡ hex (codes "504701060000000000000000000100000000000000010000016b")
unfolding spelling
write_reply_spelled = refl

read_spelled :
    spelling One (packet.Read 0 2 (codes "k"))
    ≡ hex (codes "504701010000000000000000000200000000000000000000016b")
unfolding spelling
read_spelled = refl

forwarded_read_spelled :
    spelling One (ToServerRead 0 2 0 0 (codes "k"))
    ≡ hex (codes "504701030000000000000000000200000000000000000000016b")
unfolding spelling
forwarded_read_spelled = refl

read_reply_spelled :
    spelling One (ReadReply 0 2 1 0 0 (codes "k") (Present (codes "x")))
    ≡ hex (codes "504701050000000000000000000200000000000000010000016b01000178")
unfolding spelling
read_reply_spelled = refl

delete_spelled :
    spelling Two (Write 1023 2 (codes "k") Absent)
    ≡ hex (codes "5047020203ff000000000000000200000000000000000000016b00")
unfolding spelling
delete_spelled = refl

-- ---- what bytes spell

write_read : packet_of (spelling One write_of_x) ≡ Some (One, write_of_x)
unfolding spelling in_range packet_of
write_read = refl

one_byte_more : packet_of (spelling One write_of_x ++ 0 ∷ []) ≡ None
unfolding spelling in_range packet_of
one_byte_more = refl

one_byte_less : packet_of (take 29 (spelling One write_of_x)) ≡ None
unfolding spelling in_range packet_of
one_byte_less = refl

with_a_version : packet_of (slice_set (spelling One write_of_x) 21 1) ≡ None
unfolding spelling in_range packet_of
with_a_version = refl

delete_in_the_first_format : packet_of (spelling One (Write 23 2 (codes "k") Absent)) ≡ None
unfolding spelling in_range packet_of
delete_in_the_first_format = refl

-- ---- refused lines

-- 64 servers and 1,024 clients are too many for the first format
too_many_servers : config_of 1 (rack_with One 64 1024 1 1 1 1) ≡ Err Servers
too_many_servers = refl

no_delete_in_the_first_format : EventInRack (rack_with One 3 2 2 4 4 1) (Delete 0 (codes "k")) → ⊥
no_delete_in_the_first_format h = let no : One ≡ Two = h.1 in cc

too_long_a_key : EventInRange (Read 0 (replicate 33 107)) → ⊥
too_long_a_key h = let no : 33 ≤ 32 = h.0.1 in absurd (omega (arith, no))

-- ---- verdicts

abbrev answered_write : Op
answered_write = record {
  client = 0;
  key = codes "k";
  act = act.Write;
  content = Present (codes "x");
  issued = 2;
  answered = Some 6;
}

abbrev read_after : Op
read_after = record {
  client = 0;
  key = codes "k";
  act = act.Read;
  content = Present (codes "x");
  issued = 7;
  answered = Some 11;
}

abbrev seen_and_read : List Op
seen_and_read = answered_write ∷ read_after ∷ []

-- the read is answered with nothing
abbrev not_seen : List Op
not_seen = answered_write ∷ record read_after { content = Absent } ∷ []

judged_yes :
    verdict_text (verdict_of seen_and_read ((codes "k", 0 ∷ 1 ∷ []) ∷ [])) 2 1
    ≡ codes "yes 2 operations 1 keys"
unfolding digits
judged_yes = refl

judged_illegal :
    verdict_of not_seen ((codes "k", 0 ∷ 1 ∷ []) ∷ []) ≡ verdict.No (fault.Illegal 1)
judged_illegal = refl

judged_late : verdict_of not_seen ((codes "k", 1 ∷ 0 ∷ []) ∷ []) ≡ verdict.No (fault.Late 1 0)
judged_late = refl

judged_missing : verdict_of not_seen ((codes "k", 1 ∷ []) ∷ []) ≡ verdict.No (fault.Missing 0)
judged_missing = refl
