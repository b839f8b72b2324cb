-- Runs of reads, writes and deletes of keys that no directory lists. Each is a schedule and its
-- whole trace.
use Rattle.std.specs.Prelude.{◌≡◌, true, List, [], ◌∷◌, ◌++◌, refl, codes, replicate}
use Rattle.std.specs.Fmt.{digits}
use Rattle.peg_name.specs.Holders.{servers_from, servers_of}
use Rattle.peg_name.specs.declared.Format.TheVariants.{One, Two}
use Rattle.peg_name.specs.declared.Node.TheVariants as node
use Rattle.peg_event.specs.declared.Event.{Event}
use Rattle.peg_event.specs.declared.Event.TheVariants.{Read, Write, Delete, GiveUp, Deliver, Junk}
use Rattle.peg_model.specs.Packet.{in_range, spelling}
use Rattle.peg_model.specs.Reading.{packet_of}
use Rattle.peg_model.specs.Handover.{state_bytes, state_of}
use Rattle.peg_model.specs.Server.{server_step}
use Rattle.peg_model.specs.Client.{client_step}
use Rattle.peg_model.specs.Controller.{controller_step}
use Rattle.peg_model.specs.Switch.{switch_step}
use Rattle.peg_model.specs.World.{happens, run}
use Rattle.peg_model.specs.Order.{order_of}
use Rattle.peg_model.specs.Trace.{said_text, replay_text}
use Rattle.peg_model.proofs.Computed.{rack_with, lines, is_schedule}

-- a write and a read through one switch
unfoldable pub write_and_read_events : List Event
write_and_read_events =
    Write 0 (codes "k") (codes "x") ∷ Deliver 0 0 ∷ Deliver 1 0 ∷ Deliver 2 0 ∷ Deliver 3 0
    ∷ Read 0 (codes "k") ∷ Deliver 4 0 ∷ Deliver 5 0 ∷ Deliver 6 0 ∷ Deliver 7 0 ∷ []

write_and_read_schedule : is_schedule (rack_with One 1 1 1 1 1 1) [] write_and_read_events (
    codes "rack servers=1 clients=1 switches=1 listed=1 hot=1 first=1"
    ∷ codes "write 0 k =x"
    ∷ codes "deliver 0"
    ∷ codes "deliver 1"
    ∷ codes "deliver 2"
    ∷ codes "deliver 3"
    ∷ codes "read 0 k"
    ∷ codes "deliver 4"
    ∷ codes "deliver 5"
    ∷ codes "deliver 6"
    ∷ codes "deliver 7"
    ∷ []
    ) ≡ true
unfolding digits write_and_read_events
write_and_read_schedule = refl

write_and_read_trace :
    replay_text (rack_with One 1 1 1 1 1 1) [] write_and_read_events ≡ lines (
    codes "1 rack"
    ∷ codes "2 write 0 seq 1 sends 0"
    ∷ codes "3 switch 0 forwards write k version 1 to server 0 sends 1"
    ∷ codes "4 server 0 applies k version 1 sends 2"
    ∷ codes "5 switch 0 answers client 0 seq 1 version 1 unlisted sends 3"
    ∷ codes "6 client 0 answered 1 version 1"
    ∷ codes "7 read 0 seq 2 sends 4"
    ∷ codes "8 switch 0 forwards read k to server 0 sends 5"
    ∷ codes "9 server 0 reads k version 1 sends 6"
    ∷ codes "10 switch 0 answers client 0 seq 2 version 1 unlisted sends 7"
    ∷ codes "11 client 0 answered 2 version 1 =x"
    ∷ codes "12 end"
    ∷ codes "history 2"
    ∷ codes "op 0 client 0 write k =x issued 2 answered 6"
    ∷ codes "op 1 client 0 read k issued 7 answered 11 =x"
    ∷ codes "order k 2"
    ∷ codes "at 0"
    ∷ codes "at 1"
    ∷ codes "done"
    ∷ []
    )
unfolding
    digits servers_from servers_of spelling in_range packet_of state_bytes state_of server_step
    client_step controller_step switch_step happens run order_of said_text write_and_read_events
write_and_read_trace = refl

-- no event at all
unfoldable pub nothing_happens_events : List Event
nothing_happens_events =
    []

nothing_happens_schedule : is_schedule (rack_with One 1 1 1 1 1 1) [] nothing_happens_events (
    codes "rack servers=1 clients=1 switches=1 listed=1 hot=1 first=1"
    ∷ []
    ) ≡ true
unfolding digits nothing_happens_events
nothing_happens_schedule = refl

nothing_happens_trace :
    replay_text (rack_with One 1 1 1 1 1 1) [] nothing_happens_events ≡ lines (
    codes "1 rack"
    ∷ codes "2 end"
    ∷ codes "history 0"
    ∷ codes "done"
    ∷ []
    )
unfolding
    digits servers_from servers_of spelling in_range packet_of state_bytes state_of server_step
    client_step controller_step switch_step happens run order_of said_text nothing_happens_events
nothing_happens_trace = refl

-- a read of a key that was never written
unfoldable pub never_written_events : List Event
never_written_events =
    Read 0 (codes "k") ∷ Deliver 0 0 ∷ Deliver 1 0 ∷ Deliver 2 0 ∷ Deliver 3 0 ∷ []

never_written_schedule : is_schedule (rack_with One 3 2 2 4 4 1) [] never_written_events (
    codes "rack servers=3 clients=2 switches=2 listed=4 hot=4 first=1"
    ∷ codes "read 0 k"
    ∷ codes "deliver 0"
    ∷ codes "deliver 1"
    ∷ codes "deliver 2"
    ∷ codes "deliver 3"
    ∷ []
    ) ≡ true
unfolding digits never_written_events
never_written_schedule = refl

never_written_trace : replay_text (rack_with One 3 2 2 4 4 1) [] never_written_events ≡ lines (
    codes "1 rack"
    ∷ codes "2 read 0 seq 1 sends 0"
    ∷ codes "3 switch 0 forwards read k to server 2 sends 1"
    ∷ codes "4 server 2 reads k version 0 sends 2"
    ∷ codes "5 switch 0 answers client 0 seq 1 version 0 unlisted sends 3"
    ∷ codes "6 client 0 answered 1 version 0 -"
    ∷ codes "7 end"
    ∷ codes "history 1"
    ∷ codes "op 0 client 0 read k issued 2 answered 6 -"
    ∷ codes "order k 1"
    ∷ codes "at 0"
    ∷ codes "done"
    ∷ []
    )
unfolding
    digits servers_from servers_of spelling in_range packet_of state_bytes state_of server_step
    client_step controller_step switch_step happens run order_of said_text never_written_events
never_written_trace = refl

-- a write whose request comes three times
unfoldable pub sent_thrice_events : List Event
sent_thrice_events =
    Write 0 (codes "k") (codes "x") ∷ Deliver 0 0 ∷ Deliver 0 0 ∷ Deliver 0 0 ∷ Deliver 1 0
    ∷ Deliver 2 0 ∷ Deliver 4 0 ∷ Deliver 6 0 ∷ []

sent_thrice_schedule : is_schedule (rack_with One 3 2 2 4 4 1) [] sent_thrice_events (
    codes "rack servers=3 clients=2 switches=2 listed=4 hot=4 first=1"
    ∷ codes "write 0 k =x"
    ∷ codes "deliver 0"
    ∷ codes "deliver 0"
    ∷ codes "deliver 0"
    ∷ codes "deliver 1"
    ∷ codes "deliver 2"
    ∷ codes "deliver 4"
    ∷ codes "deliver 6"
    ∷ []
    ) ≡ true
unfolding digits sent_thrice_events
sent_thrice_schedule = refl

sent_thrice_trace : replay_text (rack_with One 3 2 2 4 4 1) [] sent_thrice_events ≡ lines (
    codes "1 rack"
    ∷ codes "2 write 0 seq 1 sends 0"
    ∷ codes "3 switch 0 forwards write k version 1 to server 2 sends 1"
    ∷ codes "4 switch 0 forwards write k version 1 to server 2 sends 2"
    ∷ codes "5 switch 0 forwards write k version 1 to server 2 sends 3"
    ∷ codes "6 server 2 applies k version 1 sends 4"
    ∷ codes "7 server 2 keeps k version 1 sends 5"
    ∷ codes "8 switch 0 answers client 0 seq 1 version 1 unlisted sends 6"
    ∷ codes "9 client 0 answered 1 version 1"
    ∷ codes "10 end"
    ∷ codes "history 1"
    ∷ codes "op 0 client 0 write k =x issued 2 answered 9"
    ∷ codes "order k 1"
    ∷ codes "at 0"
    ∷ codes "done"
    ∷ []
    )
unfolding
    digits servers_from servers_of spelling in_range packet_of state_bytes state_of server_step
    client_step controller_step switch_step happens run order_of said_text sent_thrice_events
sent_thrice_trace = refl

-- two writes, of which the later one comes first
unfoldable pub later_first_events : List Event
later_first_events =
    Write 0 (codes "k") (codes "x") ∷ Write 1 (codes "k") (codes "y") ∷ Deliver 0 0 ∷ Deliver 1 0
    ∷ Deliver 3 0 ∷ Deliver 2 0 ∷ Deliver 4 0 ∷ Deliver 5 0 ∷ Deliver 6 0 ∷ Deliver 7 0 ∷ []

later_first_schedule : is_schedule (rack_with One 3 2 2 4 4 1) [] later_first_events (
    codes "rack servers=3 clients=2 switches=2 listed=4 hot=4 first=1"
    ∷ codes "write 0 k =x"
    ∷ codes "write 1 k =y"
    ∷ codes "deliver 0"
    ∷ codes "deliver 1"
    ∷ codes "deliver 3"
    ∷ codes "deliver 2"
    ∷ codes "deliver 4"
    ∷ codes "deliver 5"
    ∷ codes "deliver 6"
    ∷ codes "deliver 7"
    ∷ []
    ) ≡ true
unfolding digits later_first_events
later_first_schedule = refl

later_first_trace : replay_text (rack_with One 3 2 2 4 4 1) [] later_first_events ≡ lines (
    codes "1 rack"
    ∷ codes "2 write 0 seq 1 sends 0"
    ∷ codes "3 write 1 seq 1 sends 1"
    ∷ codes "4 switch 0 forwards write k version 1 to server 2 sends 2"
    ∷ codes "5 switch 0 forwards write k version 2 to server 2 sends 3"
    ∷ codes "6 server 2 applies k version 2 sends 4"
    ∷ codes "7 server 2 keeps k version 2 sends 5"
    ∷ codes "8 switch 0 answers client 1 seq 1 version 2 unlisted sends 6"
    ∷ codes "9 switch 0 answers client 0 seq 1 version 1 unlisted sends 7"
    ∷ codes "10 client 1 answered 1 version 2"
    ∷ codes "11 client 0 answered 1 version 1"
    ∷ codes "12 end"
    ∷ codes "history 2"
    ∷ codes "op 0 client 0 write k =x issued 2 answered 11"
    ∷ codes "op 1 client 1 write k =y issued 3 answered 10"
    ∷ codes "order k 2"
    ∷ codes "at 0"
    ∷ codes "at 1"
    ∷ codes "done"
    ∷ []
    )
unfolding
    digits servers_from servers_of spelling in_range packet_of state_bytes state_of server_step
    client_step controller_step switch_step happens run order_of said_text later_first_events
later_first_trace = refl

-- an operation that was given up
unfoldable pub given_up_events : List Event
given_up_events =
    Write 0 (codes "k") (codes "x") ∷ Deliver 0 0 ∷ GiveUp 0 ∷ Read 0 (codes "k") ∷ Deliver 2 0
    ∷ Deliver 3 0 ∷ Deliver 4 0 ∷ Deliver 5 0 ∷ Deliver 1 0 ∷ Deliver 6 0 ∷ Deliver 7 0 ∷ []

given_up_schedule : is_schedule (rack_with One 3 2 2 4 4 1) [] given_up_events (
    codes "rack servers=3 clients=2 switches=2 listed=4 hot=4 first=1"
    ∷ codes "write 0 k =x"
    ∷ codes "deliver 0"
    ∷ codes "giveup 0"
    ∷ codes "read 0 k"
    ∷ codes "deliver 2"
    ∷ codes "deliver 3"
    ∷ codes "deliver 4"
    ∷ codes "deliver 5"
    ∷ codes "deliver 1"
    ∷ codes "deliver 6"
    ∷ codes "deliver 7"
    ∷ []
    ) ≡ true
unfolding digits given_up_events
given_up_schedule = refl

given_up_trace : replay_text (rack_with One 3 2 2 4 4 1) [] given_up_events ≡ lines (
    codes "1 rack"
    ∷ codes "2 write 0 seq 1 sends 0"
    ∷ codes "3 switch 0 forwards write k version 1 to server 2 sends 1"
    ∷ codes "4 giveup 0 seq 1"
    ∷ codes "5 read 0 seq 2 sends 2"
    ∷ codes "6 switch 0 forwards read k to server 2 sends 3"
    ∷ codes "7 server 2 reads k version 0 sends 4"
    ∷ codes "8 switch 0 answers client 0 seq 2 version 0 unlisted sends 5"
    ∷ codes "9 client 0 answered 2 version 0 -"
    ∷ codes "10 server 2 applies k version 1 sends 6"
    ∷ codes "11 switch 0 answers client 0 seq 1 version 1 unlisted sends 7"
    ∷ codes "12 client 0 ignores"
    ∷ codes "13 end"
    ∷ codes "history 2"
    ∷ codes "op 0 client 0 write k =x issued 2 open"
    ∷ codes "op 1 client 0 read k issued 5 answered 9 -"
    ∷ codes "order k 1"
    ∷ codes "at 1"
    ∷ codes "done"
    ∷ []
    )
unfolding
    digits servers_from servers_of spelling in_range packet_of state_bytes state_of server_step
    client_step controller_step switch_step happens run order_of said_text given_up_events
given_up_trace = refl

-- a write that was given up, and is read all the same
unfoldable pub read_all_the_same_events : List Event
read_all_the_same_events =
    Write 0 (codes "k") (codes "x") ∷ Deliver 0 0 ∷ GiveUp 0 ∷ Read 0 (codes "k") ∷ Deliver 2 0
    ∷ Deliver 3 0 ∷ Deliver 4 0 ∷ Deliver 5 0 ∷ Deliver 1 0 ∷ Deliver 6 0 ∷ Deliver 7 0
    ∷ Read 1 (codes "k") ∷ Deliver 8 0 ∷ Deliver 9 0 ∷ Deliver 10 0 ∷ Deliver 11 0 ∷ []

read_all_the_same_schedule :
    is_schedule (rack_with One 3 2 2 4 4 1) [] read_all_the_same_events (
    codes "rack servers=3 clients=2 switches=2 listed=4 hot=4 first=1"
    ∷ codes "write 0 k =x"
    ∷ codes "deliver 0"
    ∷ codes "giveup 0"
    ∷ codes "read 0 k"
    ∷ codes "deliver 2"
    ∷ codes "deliver 3"
    ∷ codes "deliver 4"
    ∷ codes "deliver 5"
    ∷ codes "deliver 1"
    ∷ codes "deliver 6"
    ∷ codes "deliver 7"
    ∷ codes "read 1 k"
    ∷ codes "deliver 8"
    ∷ codes "deliver 9"
    ∷ codes "deliver 10"
    ∷ codes "deliver 11"
    ∷ []
    ) ≡ true
unfolding digits read_all_the_same_events
read_all_the_same_schedule = refl

read_all_the_same_trace :
    replay_text (rack_with One 3 2 2 4 4 1) [] read_all_the_same_events ≡ lines (
    codes "1 rack"
    ∷ codes "2 write 0 seq 1 sends 0"
    ∷ codes "3 switch 0 forwards write k version 1 to server 2 sends 1"
    ∷ codes "4 giveup 0 seq 1"
    ∷ codes "5 read 0 seq 2 sends 2"
    ∷ codes "6 switch 0 forwards read k to server 2 sends 3"
    ∷ codes "7 server 2 reads k version 0 sends 4"
    ∷ codes "8 switch 0 answers client 0 seq 2 version 0 unlisted sends 5"
    ∷ codes "9 client 0 answered 2 version 0 -"
    ∷ codes "10 server 2 applies k version 1 sends 6"
    ∷ codes "11 switch 0 answers client 0 seq 1 version 1 unlisted sends 7"
    ∷ codes "12 client 0 ignores"
    ∷ codes "13 read 1 seq 1 sends 8"
    ∷ codes "14 switch 0 forwards read k to server 2 sends 9"
    ∷ codes "15 server 2 reads k version 1 sends 10"
    ∷ codes "16 switch 0 answers client 1 seq 1 version 1 unlisted sends 11"
    ∷ codes "17 client 1 answered 1 version 1 =x"
    ∷ codes "18 end"
    ∷ codes "history 3"
    ∷ codes "op 0 client 0 write k =x issued 2 open"
    ∷ codes "op 1 client 0 read k issued 5 answered 9 -"
    ∷ codes "op 2 client 1 read k issued 13 answered 17 =x"
    ∷ codes "order k 3"
    ∷ codes "at 1"
    ∷ codes "at 0"
    ∷ codes "at 2"
    ∷ codes "done"
    ∷ []
    )
unfolding
    digits servers_from servers_of spelling in_range packet_of state_bytes state_of server_step
    client_step controller_step switch_step happens run order_of said_text read_all_the_same_events
read_all_the_same_trace = refl

-- the last version is never stamped
unfoldable pub last_version_events : List Event
last_version_events =
    Write 0 (codes "k") (codes "x") ∷ Deliver 0 0 ∷ Read 1 (codes "k") ∷ Deliver 1 0 ∷ []

last_version_schedule :
    is_schedule (rack_with One 3 2 2 4 4 18446744073709551615) [] last_version_events (
    codes "rack servers=3 clients=2 switches=2 listed=4 hot=4 first=18446744073709551615"
    ∷ codes "write 0 k =x"
    ∷ codes "deliver 0"
    ∷ codes "read 1 k"
    ∷ codes "deliver 1"
    ∷ []
    ) ≡ true
unfolding digits last_version_events
last_version_schedule = refl

last_version_trace :
    replay_text (rack_with One 3 2 2 4 4 18446744073709551615) [] last_version_events ≡ lines (
    codes "1 rack"
    ∷ codes "2 write 0 seq 1 sends 0"
    ∷ codes "3 switch 0 exhausted 18446744073709551615"
    ∷ codes "4 read 1 seq 1 sends 1"
    ∷ codes "5 switch 0 forwards read k to server 2 sends 2"
    ∷ codes "6 end"
    ∷ codes "history 2"
    ∷ codes "op 0 client 0 write k =x issued 2 open"
    ∷ codes "op 1 client 1 read k issued 4 open"
    ∷ codes "order k 0"
    ∷ codes "done"
    ∷ []
    )
unfolding
    digits servers_from servers_of spelling in_range packet_of state_bytes state_of server_step
    client_step controller_step switch_step happens run order_of said_text last_version_events
last_version_trace = refl

-- a packet that was never sent
unfoldable pub never_sent_events : List Event
never_sent_events =
    Deliver 0 0 ∷ []

never_sent_schedule : is_schedule (rack_with One 3 2 2 4 4 1) [] never_sent_events (
    codes "rack servers=3 clients=2 switches=2 listed=4 hot=4 first=1"
    ∷ codes "deliver 0"
    ∷ []
    ) ≡ true
unfolding digits never_sent_events
never_sent_schedule = refl

never_sent_trace : replay_text (rack_with One 3 2 2 4 4 1) [] never_sent_events ≡ lines (
    codes "1 rack"
    ∷ codes "2 no such packet 0 of 0"
    ∷ codes "3 end"
    ∷ codes "history 0"
    ∷ codes "done"
    ∷ []
    )
unfolding
    digits servers_from servers_of spelling in_range packet_of state_bytes state_of server_step
    client_step controller_step switch_step happens run order_of said_text never_sent_events
never_sent_trace = refl

-- a key of 32 bytes
unfoldable pub longest_key_events : List Event
longest_key_events =
    Read 0 (replicate 32 107) ∷ []

longest_key_schedule : is_schedule (rack_with One 3 2 2 4 4 1) [] longest_key_events (
    codes "rack servers=3 clients=2 switches=2 listed=4 hot=4 first=1"
    ∷ (codes "read 0 " ++ replicate 32 107)
    ∷ []
    ) ≡ true
unfolding digits longest_key_events
longest_key_schedule = refl

longest_key_trace : replay_text (rack_with One 3 2 2 4 4 1) [] longest_key_events ≡ lines (
    codes "1 rack"
    ∷ codes "2 read 0 seq 1 sends 0"
    ∷ codes "3 end"
    ∷ codes "history 1"
    ∷ (codes "op 0 client 0 read " ++ replicate 32 107 ++ codes " issued 2 open")
    ∷ (codes "order " ++ replicate 32 107 ++ codes " 0")
    ∷ codes "done"
    ∷ []
    )
unfolding
    digits servers_from servers_of spelling in_range packet_of state_bytes state_of server_step
    client_step controller_step switch_step happens run order_of said_text longest_key_events
longest_key_trace = refl

-- bytes that no packet spells, and bytes that one does
unfoldable pub junk_events : List Event
junk_events =
    Junk (node.Switch 0) (replicate 641 0) ∷ Junk (node.Switch 0) (80 ∷ 71 ∷ 1 ∷ 14 ∷ [])
    ∷ Junk (node.Switch 0) (80 ∷ 71 ∷ 1 ∷ 14 ∷ 0 ∷ []) ∷ Junk (node.Client 0) [] ∷ []

junk_schedule : is_schedule (rack_with One 3 2 2 4 4 1) [] junk_events (
    codes "rack servers=3 clients=2 switches=2 listed=4 hot=4 first=1"
    ∷ (codes "junk switch 0 x" ++ replicate 1282 48)
    ∷ codes "junk switch 0 x5047010e"
    ∷ codes "junk switch 0 x5047010e00"
    ∷ codes "junk client 0 x"
    ∷ []
    ) ≡ true
unfolding digits junk_events
junk_schedule = refl

junk_trace : replay_text (rack_with One 3 2 2 4 4 1) [] junk_events ≡ lines (
    codes "1 rack"
    ∷ codes "2 switch 0 malformed"
    ∷ codes "3 forged"
    ∷ codes "4 switch 0 malformed"
    ∷ codes "5 client 0 ignores"
    ∷ codes "6 end"
    ∷ codes "history 0"
    ∷ codes "done"
    ∷ []
    )
unfolding
    digits servers_from servers_of spelling in_range packet_of state_bytes state_of server_step
    client_step controller_step switch_step happens run order_of said_text junk_events
junk_trace = refl

-- a client that is busy, gives up, and is stale
unfoldable pub busy_events : List Event
busy_events =
    Write 0 (codes "k") (codes "x") ∷ Read 0 (codes "k") ∷ Deliver 0 0 ∷ GiveUp 0 ∷ GiveUp 0
    ∷ Write 0 (codes "k") (codes "y") ∷ Deliver 2 0 ∷ Deliver 0 0 ∷ []

busy_schedule : is_schedule (rack_with One 3 2 2 4 4 1) [] busy_events (
    codes "rack servers=3 clients=2 switches=2 listed=4 hot=4 first=1"
    ∷ codes "write 0 k =x"
    ∷ codes "read 0 k"
    ∷ codes "deliver 0"
    ∷ codes "giveup 0"
    ∷ codes "giveup 0"
    ∷ codes "write 0 k =y"
    ∷ codes "deliver 2"
    ∷ codes "deliver 0"
    ∷ []
    ) ≡ true
unfolding digits busy_events
busy_schedule = refl

busy_trace : replay_text (rack_with One 3 2 2 4 4 1) [] busy_events ≡ lines (
    codes "1 rack"
    ∷ codes "2 write 0 seq 1 sends 0"
    ∷ codes "3 busy 0 seq 1"
    ∷ codes "4 switch 0 forwards write k version 1 to server 2 sends 1"
    ∷ codes "5 giveup 0 seq 1"
    ∷ codes "6 nothing open 0"
    ∷ codes "7 write 0 seq 2 sends 2"
    ∷ codes "8 switch 0 forwards write k version 2 to server 2 sends 3"
    ∷ codes "9 switch 0 stale 2"
    ∷ codes "10 end"
    ∷ codes "history 2"
    ∷ codes "op 0 client 0 write k =x issued 2 open"
    ∷ codes "op 1 client 0 write k =y issued 7 open"
    ∷ codes "order k 0"
    ∷ codes "done"
    ∷ []
    )
unfolding
    digits servers_from servers_of spelling in_range packet_of state_bytes state_of server_step
    client_step controller_step switch_step happens run order_of said_text busy_events
busy_trace = refl

-- the second format: a delete
unfoldable pub deleted_events : List Event
deleted_events =
    Write 1023 (codes "k") (codes "x") ∷ Deliver 0 0 ∷ Deliver 1 0 ∷ Deliver 2 0 ∷ Deliver 3 0
    ∷ Delete 1023 (codes "k") ∷ Deliver 4 0 ∷ Deliver 5 0 ∷ Read 0 (codes "k") ∷ Deliver 7 0
    ∷ Deliver 8 0 ∷ Deliver 9 0 ∷ Deliver 10 0 ∷ []

deleted_schedule : is_schedule (rack_with Two 64 1024 1 1 1 1) [] deleted_events (
    codes "rack servers=64 clients=1024 switches=1 listed=1 hot=1 first=1 format=2"
    ∷ codes "write 1023 k =x"
    ∷ codes "deliver 0"
    ∷ codes "deliver 1"
    ∷ codes "deliver 2"
    ∷ codes "deliver 3"
    ∷ codes "delete 1023 k"
    ∷ codes "deliver 4"
    ∷ codes "deliver 5"
    ∷ codes "read 0 k"
    ∷ codes "deliver 7"
    ∷ codes "deliver 8"
    ∷ codes "deliver 9"
    ∷ codes "deliver 10"
    ∷ []
    ) ≡ true
unfolding digits deleted_events
deleted_schedule = refl

deleted_trace : replay_text (rack_with Two 64 1024 1 1 1 1) [] deleted_events ≡ lines (
    codes "1 rack"
    ∷ codes "2 write 1023 seq 1 sends 0"
    ∷ codes "3 switch 0 forwards write k version 1 to server 43 sends 1"
    ∷ codes "4 server 43 applies k version 1 sends 2"
    ∷ codes "5 switch 0 answers client 1023 seq 1 version 1 unlisted sends 3"
    ∷ codes "6 client 1023 answered 1 version 1"
    ∷ codes "7 delete 1023 seq 2 sends 4"
    ∷ codes "8 switch 0 forwards write k version 2 to server 43 sends 5"
    ∷ codes "9 server 43 applies k version 2 sends 6"
    ∷ codes "10 read 0 seq 1 sends 7"
    ∷ codes "11 switch 0 forwards read k to server 43 sends 8"
    ∷ codes "12 server 43 reads k version 2 sends 9"
    ∷ codes "13 switch 0 answers client 0 seq 1 version 2 unlisted sends 10"
    ∷ codes "14 client 0 answered 1 version 2 -"
    ∷ codes "15 end"
    ∷ codes "history 3"
    ∷ codes "op 0 client 1023 write k =x issued 2 answered 6"
    ∷ codes "op 1 client 1023 write k - issued 7 open"
    ∷ codes "op 2 client 0 read k issued 10 answered 14 -"
    ∷ codes "order k 3"
    ∷ codes "at 0"
    ∷ codes "at 1"
    ∷ codes "at 2"
    ∷ codes "done"
    ∷ []
    )
unfolding
    digits servers_from servers_of spelling in_range packet_of state_bytes state_of server_step
    client_step controller_step switch_step happens run order_of said_text deleted_events
deleted_trace = refl
