-- Processes that record what they do, and the audit of such records. An independent model gave what
-- each writes and sends.
use Rattle.std.specs.Prelude.{◌≡◌, true, Some, List, [], ◌∷◌, ◌++◌, refl, codes, replicate}
use Rattle.std.specs.Fmt.{digits}
use Rattle.peg_name.specs.Holders.{servers_from, servers_of}
use Rattle.peg_name.specs.declared.Format.TheVariants.{One, Two}
use Rattle.peg_name.specs.declared.value.Content.TheVariants.{Present}
use Rattle.peg_name.specs.declared.Node.TheVariants as node
use Rattle.peg_event.specs.declared.Event.{Event}
use Rattle.peg_event.specs.declared.Event.TheVariants as event
use Rattle.peg_event.specs.declared.Command.TheVariants as command
use Rattle.peg_event.specs.declared.answers.Ask.TheVariants as ask
use Rattle.peg_model.specs.Packet.{in_range, spelling}
use Rattle.peg_model.specs.Reading.{packet_of}
use Rattle.peg_model.specs.Handover.{state_bytes, state_of}
use Rattle.peg_model.specs.Server.{server_step}
use Rattle.peg_model.specs.Client.{client_step}
use Rattle.peg_model.specs.Controller.{controller_step}
use Rattle.peg_model.specs.Switch.{switch_step}
use Rattle.peg_model.specs.World.{happens}
use Rattle.peg_model.specs.Order.{order_of}
use Rattle.peg_model.specs.Trace.{said_text}
use Rattle.peg_meaning.specs.Session.{Input, Entry, Quiet}
use Rattle.peg_meaning.specs.Played.{played, plays}
use Rattle.peg_model.proofs.Computed.{rack_with, lines, hex}
use Rattle.peg_worked.proofs.Sessions.{carries, sent, shows, shown, spell}
use Rattle.peg_meaning.specs.Roles.{Call, Orders, Retries, Surveys, Plans, call_event}
use Rattle.peg_meaning.specs.Records.{ClientCall, Begins, Resends, client_event, no_event}
use Rattle.peg_meaning.specs.Records.{RecordEntry, Calls, Takes, End, record_entry_lines}
use Rattle.peg_meaning.specs.Records.{records_client, records_controller, records_switch}
use Rattle.peg_meaning.specs.Records.{records_server, client_recorder, controller_recorder}
use Rattle.peg_meaning.specs.Records.{switch_recorder, server_recorder, run_entries, record_text}
use Rattle.peg_meaning.specs.Records.{audit_lines, AuditEntry, Named, Happens, Took, Sent, Ends}
use Rattle.peg_meaning.specs.Records.{audit_start, audits}

-- a switch takes a write
unfoldable pub took_a_write_inputs : List (Input (RecordEntry ⊥))
took_a_write_inputs =
    Entry (Takes 0)
    ∷ carries (codes "504701020000000000000000000100000000000000000000016b01000178")
    ∷ Entry End
    ∷ []

took_a_write_lines : spell (record_entry_lines (no_event)) took_a_write_inputs (
    codes "take 0"
    ∷ codes "end"
    ∷ []
    ) ≡ true
unfolding digits took_a_write_inputs
took_a_write_lines = refl

took_a_write_plays :
    shown records_switch (plays records_switch (switch_recorder 7000 (rack_with One 1 1 1 1 1 1) 0) took_a_write_inputs)
    ≡ Some (shows true (lines (
    codes "took switch 0 0 x504701020000000000000000000100000000000000000000016b01000178"
    ∷ codes "sent server 0 x504701040000000000000000000100000000000000010000016b01000178"
    ∷ []
    )) (7001 ∷ []) (
    sent 1 0 7008 (codes "504701040000000000000000000100000000000000010000016b01000178")
    ∷ []
    ))
unfolding
    digits servers_from servers_of spelling in_range packet_of state_bytes state_of server_step
    client_step controller_step switch_step happens order_of said_text played took_a_write_inputs
took_a_write_plays = refl

-- a write on its way
unfoldable pub audited_inputs : List (Input AuditEntry)
audited_inputs =
    Entry (Named (rack_with One 1 1 1 1 1 1))
    ∷ Entry (Happens (event.Write 0 (codes "k") (codes "x")))
    ∷ Entry (Sent (node.Switch 0) (hex (codes "504701020000000000000000000100000000000000000000016b01000178")))
    ∷ Entry (Took (node.Switch 0) 0 (hex (codes "504701020000000000000000000100000000000000000000016b01000178")))
    ∷ Entry (Sent (node.Server 0) (hex (codes "504701040000000000000000000100000000000000010000016b01000178")))
    ∷ Entry Ends
    ∷ []

audited_lines : spell audit_lines audited_inputs (
    codes "rack servers=1 clients=1 switches=1 listed=1 hot=1 first=1"
    ∷ codes "write 0 k =x"
    ∷ codes "sent switch 0 x504701020000000000000000000100000000000000000000016b01000178"
    ∷ codes "took switch 0 0 x504701020000000000000000000100000000000000000000016b01000178"
    ∷ codes "sent server 0 x504701040000000000000000000100000000000000010000016b01000178"
    ∷ codes "end"
    ∷ []
    ) ≡ true
unfolding digits audited_inputs
audited_lines = refl

audited_plays :
    shown audits (plays audits audit_start audited_inputs)
    ≡ Some (shows true (lines (
    codes "yes 1 operations 1 keys"
    ∷ codes "history 1"
    ∷ codes "op 0 client 0 write k =x issued 2 open"
    ∷ codes "order k 0"
    ∷ codes "done"
    ∷ []
    )) [] [])
unfolding
    digits servers_from servers_of spelling in_range packet_of state_bytes state_of server_step
    client_step controller_step switch_step happens order_of said_text played audited_inputs
audited_plays = refl

-- a datagram that nobody sent
unfoldable pub nobody_sent_inputs : List (Input AuditEntry)
nobody_sent_inputs =
    Entry (Named (rack_with One 1 1 1 1 1 1))
    ∷ Entry (Happens (event.Write 0 (codes "k") (codes "x")))
    ∷ Entry (Sent (node.Switch 0) (hex (codes "504701020000000000000000000100000000000000000000016b01000178")))
    ∷ Entry (Took (node.Switch 0) 0 (hex (codes "504701040000000000000000000100000000000000010000016b01000178")))
    ∷ Entry (Sent (node.Server 0) (hex (codes "504701040000000000000000000100000000000000010000016b01000178")))
    ∷ Entry Ends
    ∷ []

nobody_sent_lines : spell audit_lines nobody_sent_inputs (
    codes "rack servers=1 clients=1 switches=1 listed=1 hot=1 first=1"
    ∷ codes "write 0 k =x"
    ∷ codes "sent switch 0 x504701020000000000000000000100000000000000000000016b01000178"
    ∷ codes "took switch 0 0 x504701040000000000000000000100000000000000010000016b01000178"
    ∷ codes "sent server 0 x504701040000000000000000000100000000000000010000016b01000178"
    ∷ codes "end"
    ∷ []
    ) ≡ true
unfolding digits nobody_sent_inputs
nobody_sent_lines = refl

nobody_sent_plays :
    shown audits (plays audits audit_start nobody_sent_inputs)
    ≡ Some (shows true (lines (
    codes "no foreign 4"
    ∷ []
    )) [] [])
unfolding
    digits servers_from servers_of spelling in_range packet_of state_bytes state_of server_step
    client_step controller_step switch_step happens order_of said_text played nobody_sent_inputs
nobody_sent_plays = refl

-- what a switch sent is missing
unfoldable pub sent_less_inputs : List (Input AuditEntry)
sent_less_inputs =
    Entry (Named (rack_with One 1 1 1 1 1 1))
    ∷ Entry (Happens (event.Write 0 (codes "k") (codes "x")))
    ∷ Entry (Sent (node.Switch 0) (hex (codes "504701020000000000000000000100000000000000000000016b01000178")))
    ∷ Entry (Took (node.Switch 0) 0 (hex (codes "504701020000000000000000000100000000000000000000016b01000178")))
    ∷ Entry Ends
    ∷ []

sent_less_lines : spell audit_lines sent_less_inputs (
    codes "rack servers=1 clients=1 switches=1 listed=1 hot=1 first=1"
    ∷ codes "write 0 k =x"
    ∷ codes "sent switch 0 x504701020000000000000000000100000000000000000000016b01000178"
    ∷ codes "took switch 0 0 x504701020000000000000000000100000000000000000000016b01000178"
    ∷ codes "end"
    ∷ []
    ) ≡ true
unfolding digits sent_less_inputs
sent_less_lines = refl

sent_less_plays :
    shown audits (plays audits audit_start sent_less_inputs)
    ≡ Some (shows true (lines (
    codes "no other 4"
    ∷ []
    )) [] [])
unfolding
    digits servers_from servers_of spelling in_range packet_of state_bytes state_of server_step
    client_step controller_step switch_step happens order_of said_text played sent_less_inputs
sent_less_plays = refl

-- a random run of a switch
unfoldable pub switch_recorded_inputs : List (Input (RecordEntry ⊥))
switch_recorded_inputs =
    Entry (Takes 0)
    ∷ Quiet
    ∷ Entry (Takes 8)
    ∷ carries (codes "50470102000100000000000000010000000000000000000001630100027631")
    ∷ Entry (Takes 0)
    ∷ carries (codes "50470102000000000000000000010000000000000000000001610100027633")
    ∷ Entry (Takes 1)
    ∷ carries (codes "5047010600010000000000000001000000000000000101000163")
    ∷ Entry (Takes 0)
    ∷ carries (codes "50470102000200000000000000010000000000000000000001610100027636")
    ∷ Entry (Takes 0)
    ∷ Quiet
    ∷ Entry (Takes 0)
    ∷ Quiet
    ∷ Entry (Takes 5)
    ∷ carries (codes "5047010200010000000000000002000000000000000000000163010003763130")
    ∷ Entry (Takes 1)
    ∷ carries (codes "5047010600020000000000000001000000000000000301000161")
    ∷ Entry (Takes 5)
    ∷ carries (codes "50470102000000000000000000010000000000000000000001610100027633")
    ∷ Entry (Takes 11)
    ∷ carries (codes "50470107000000000000000105")
    ∷ Entry (Takes 0)
    ∷ carries (codes "5047010600000000000000000001000000000000000201000161")
    ∷ Entry (Takes 0)
    ∷ carries (codes "5047010200010000000000000002000000000000000000000163010003763130")
    ∷ Entry (Takes 2)
    ∷ carries (codes "5047010600010000000000000002000000000000000401000163")
    ∷ Entry (Takes 0)
    ∷ Quiet
    ∷ Entry (Takes 0)
    ∷ carries (codes "50470104000000000000000000010000000000000002010001610100027633")
    ∷ Entry (Takes 0)
    ∷ Quiet
    ∷ Entry (Takes 5)
    ∷ carries (codes "5047010200020000000000000002000000000000000000000161010003763133")
    ∷ Entry (Takes 4)
    ∷ carries (codes "5047010200020000000000000002000000000000000000000161010003763133")
    ∷ Entry (Takes 0)
    ∷ carries (codes "5047010200020000000000000002000000000000000000000161010003763133")
    ∷ Entry (Takes 9)
    ∷ carries (codes "5047010600020000000000000002000000000000000501000161")
    ∷ Entry (Takes 0)
    ∷ carries (codes "5047010600020000000000000002000000000000000501000161")
    ∷ Entry (Takes 0)
    ∷ carries (codes "5047010600020000000000000002000000000000000501000161")
    ∷ Entry (Takes 0)
    ∷ carries (codes "5047010100000000000000000002000000000000000000000163")
    ∷ Entry (Takes 6)
    ∷ carries (codes "5047010500000000000000000002000000000000000401000163010003763130")
    ∷ Entry (Takes 0)
    ∷ carries (codes "50470107000000000000000205")
    ∷ Entry (Takes 8)
    ∷ Quiet
    ∷ Entry (Takes 10)
    ∷ carries (codes "504701020000000000000000000300000000000000000000016b010003763233")
    ∷ Entry (Takes 0)
    ∷ carries (codes "504701060000000000000000000300000000000000060100016b")
    ∷ Entry (Takes 0)
    ∷ Quiet
    ∷ Entry (Takes 0)
    ∷ Quiet
    ∷ Entry (Takes 0)
    ∷ carries (codes "5047010200010000000000000004000000000000000000000163010003763238")
    ∷ Entry (Takes 0)
    ∷ carries (codes "504701070000000000000003060163")
    ∷ Entry (Takes 10)
    ∷ carries (codes "5047010600010000000000000004000000000000000701000163")
    ∷ Entry (Takes 0)
    ∷ Quiet
    ∷ Entry End
    ∷ []

switch_recorded_lines : spell (record_entry_lines (no_event)) switch_recorded_inputs (
    codes "take 0"
    ∷ codes "take 8"
    ∷ codes "take 0"
    ∷ codes "take 1"
    ∷ codes "take 0"
    ∷ codes "take"
    ∷ codes "take 0"
    ∷ codes "take 5"
    ∷ codes "take 1"
    ∷ codes "take 5"
    ∷ codes "take 11"
    ∷ codes "take"
    ∷ codes "take"
    ∷ codes "take 2"
    ∷ codes "take 0"
    ∷ codes "take 0"
    ∷ codes "take 0"
    ∷ codes "take 5"
    ∷ codes "take 4"
    ∷ codes "take"
    ∷ codes "take 9"
    ∷ codes "take"
    ∷ codes "take"
    ∷ codes "take 0"
    ∷ codes "take 6"
    ∷ codes "take"
    ∷ codes "take 8"
    ∷ codes "take 10"
    ∷ codes "take 0"
    ∷ codes "take 0"
    ∷ codes "take 0"
    ∷ codes "take 0"
    ∷ codes "take"
    ∷ codes "take 10"
    ∷ codes "take 0"
    ∷ codes "end"
    ∷ []
    ) ≡ true
unfolding digits switch_recorded_inputs
switch_recorded_lines = refl

switch_recorded_plays :
    shown records_switch (plays records_switch (switch_recorder 7000 (rack_with One 2 3 2 2 3 1) 0) switch_recorded_inputs)
    ≡ Some (shows true (lines (
    codes "took switch 0 8 x50470102000100000000000000010000000000000000000001630100027631"
    ∷ codes "sent server 1 x50470104000100000000000000010000000000000001010001630100027631"
    ∷ codes "took switch 0 0 x50470102000000000000000000010000000000000000000001610100027633"
    ∷ codes "sent server 1 x50470104000000000000000000010000000000000002010001610100027633"
    ∷ codes "took switch 0 1 x5047010600010000000000000001000000000000000101000163"
    ∷ codes "sent client 1 x5047010600010000000000000001000000000000000101000163"
    ∷ codes "took switch 0 0 x50470102000200000000000000010000000000000000000001610100027636"
    ∷ codes "sent server 1 x50470104000200000000000000010000000000000003010001610100027636"
    ∷ codes "took switch 0 5 x5047010200010000000000000002000000000000000000000163010003763130"
    ∷ codes "sent server 1 x5047010400010000000000000002000000000000000401000163010003763130"
    ∷ codes "took switch 0 1 x5047010600020000000000000001000000000000000301000161"
    ∷ codes "sent client 2 x5047010600020000000000000001000000000000000301000161"
    ∷ codes "took switch 0 5 x50470102000000000000000000010000000000000000000001610100027633"
    ∷ codes "sent server 1 x50470104000000000000000000010000000000000002010001610100027633"
    ∷ codes "took switch 0 11 x50470107000000000000000105"
    ∷ codes "sent controller x5047010800000000000000010a0000000000000000"
    ∷ codes "took switch 0 0 x5047010600000000000000000001000000000000000201000161"
    ∷ codes "sent client 0 x5047010600000000000000000001000000000000000201000161"
    ∷ codes "took switch 0 0 x5047010200010000000000000002000000000000000000000163010003763130"
    ∷ codes "sent server 1 x5047010400010000000000000002000000000000000401000163010003763130"
    ∷ codes "took switch 0 2 x5047010600010000000000000002000000000000000401000163"
    ∷ codes "sent client 1 x5047010600010000000000000002000000000000000401000163"
    ∷ codes "took switch 0 0 x50470104000000000000000000010000000000000002010001610100027633"
    ∷ codes "took switch 0 5 x5047010200020000000000000002000000000000000000000161010003763133"
    ∷ codes "sent server 1 x5047010400020000000000000002000000000000000501000161010003763133"
    ∷ codes "took switch 0 4 x5047010200020000000000000002000000000000000000000161010003763133"
    ∷ codes "sent server 1 x5047010400020000000000000002000000000000000501000161010003763133"
    ∷ codes "took switch 0 0 x5047010200020000000000000002000000000000000000000161010003763133"
    ∷ codes "sent server 1 x5047010400020000000000000002000000000000000501000161010003763133"
    ∷ codes "took switch 0 9 x5047010600020000000000000002000000000000000501000161"
    ∷ codes "sent client 2 x5047010600020000000000000002000000000000000501000161"
    ∷ codes "took switch 0 0 x5047010600020000000000000002000000000000000501000161"
    ∷ codes "sent client 2 x5047010600020000000000000002000000000000000501000161"
    ∷ codes "took switch 0 0 x5047010600020000000000000002000000000000000501000161"
    ∷ codes "sent client 2 x5047010600020000000000000002000000000000000501000161"
    ∷ codes "took switch 0 0 x5047010100000000000000000002000000000000000000000163"
    ∷ codes "sent server 1 x5047010300000000000000000002000000000000000001000163"
    ∷ codes "took switch 0 6 x5047010500000000000000000002000000000000000401000163010003763130"
    ∷ codes "sent client 0 x5047010500000000000000000002000000000000000401000163010003763130"
    ∷ codes "took switch 0 0 x50470107000000000000000205"
    ∷ codes "sent controller x5047010800000000000000020a0000000000000000"
    ∷ codes "took switch 0 10 x504701020000000000000000000300000000000000000000016b010003763233"
    ∷ codes "sent server 1 x504701040000000000000000000300000000000000060100016b010003763233"
    ∷ codes "took switch 0 0 x504701060000000000000000000300000000000000060100016b"
    ∷ codes "sent client 0 x504701060000000000000000000300000000000000060100016b"
    ∷ codes "took switch 0 0 x5047010200010000000000000004000000000000000000000163010003763238"
    ∷ codes "sent server 1 x5047010400010000000000000004000000000000000701000163010003763238"
    ∷ codes "took switch 0 0 x504701070000000000000003060163"
    ∷ codes "sent controller x504701080000000000000003050000000000000000"
    ∷ codes "took switch 0 10 x5047010600010000000000000004000000000000000701000163"
    ∷ codes "sent client 1 x5047010600010000000000000004000000000000000701000163"
    ∷ []
    )) (7001 ∷ []) (
    sent 2 0 7009 (codes "50470104000100000000000000010000000000000001010001630100027631")
    ∷ sent 3 0 7009 (codes "50470104000000000000000000010000000000000002010001610100027633")
    ∷ sent 4 0 7129 (codes "5047010600010000000000000001000000000000000101000163")
    ∷ sent 5 0 7009 (codes "50470104000200000000000000010000000000000003010001610100027636")
    ∷ sent 8 0 7009 (codes "5047010400010000000000000002000000000000000401000163010003763130")
    ∷ sent 9 0 7130 (codes "5047010600020000000000000001000000000000000301000161")
    ∷ sent 10 0 7009 (codes "50470104000000000000000000010000000000000002010001610100027633")
    ∷ sent 11 0 7000 (codes "5047010800000000000000010a0000000000000000")
    ∷ sent 12 0 7128 (codes "5047010600000000000000000001000000000000000201000161")
    ∷ sent 13 0 7009 (codes "5047010400010000000000000002000000000000000401000163010003763130")
    ∷ sent 14 0 7129 (codes "5047010600010000000000000002000000000000000401000163")
    ∷ sent 18 0 7009 (codes "5047010400020000000000000002000000000000000501000161010003763133")
    ∷ sent 19 0 7009 (codes "5047010400020000000000000002000000000000000501000161010003763133")
    ∷ sent 20 0 7009 (codes "5047010400020000000000000002000000000000000501000161010003763133")
    ∷ sent 21 0 7130 (codes "5047010600020000000000000002000000000000000501000161")
    ∷ sent 22 0 7130 (codes "5047010600020000000000000002000000000000000501000161")
    ∷ sent 23 0 7130 (codes "5047010600020000000000000002000000000000000501000161")
    ∷ sent 24 0 7009 (codes "5047010300000000000000000002000000000000000001000163")
    ∷ sent 25 0 7128 (codes "5047010500000000000000000002000000000000000401000163010003763130")
    ∷ sent 26 0 7000 (codes "5047010800000000000000020a0000000000000000")
    ∷ sent 28 0 7009 (codes "504701040000000000000000000300000000000000060100016b010003763233")
    ∷ sent 29 0 7128 (codes "504701060000000000000000000300000000000000060100016b")
    ∷ sent 32 0 7009 (codes "5047010400010000000000000004000000000000000701000163010003763238")
    ∷ sent 33 0 7000 (codes "504701080000000000000003050000000000000000")
    ∷ sent 34 0 7129 (codes "5047010600010000000000000004000000000000000701000163")
    ∷ []
    ))
unfolding
    digits servers_from servers_of spelling in_range packet_of state_bytes state_of server_step
    client_step controller_step switch_step happens order_of said_text played switch_recorded_inputs
switch_recorded_plays = refl

-- a random run of a server
unfoldable pub server_recorded_inputs : List (Input (RecordEntry ⊥))
server_recorded_inputs =
    Entry (Takes 0)
    ∷ Quiet
    ∷ Entry (Takes 8)
    ∷ carries (codes "4c79c3f4dcc619a8799e3bd6fd292d2367e5")
    ∷ Entry (Takes 0)
    ∷ carries (codes "504702030001000000000000000100000000000000000000016b")
    ∷ Entry (Takes 8)
    ∷ Quiet
    ∷ Entry (Takes 2)
    ∷ carries (codes "504702030001000000000000000200000000000000000000016b")
    ∷ Entry (Takes 2)
    ∷ carries (codes "809b64b096bd3f1332a49a103af0d0524a75")
    ∷ Entry (Takes 0)
    ∷ carries (codes "504702040001000000000000000300000000000000030000016300")
    ∷ Entry (Takes 0)
    ∷ carries (codes "50470204000000000000000000010000000000000001000001630100027631")
    ∷ Entry (Takes 1)
    ∷ Quiet
    ∷ Entry (Takes 8)
    ∷ carries (codes "504702040001000000000000000400000000000000040000016b00")
    ∷ Entry (Takes 1)
    ∷ Quiet
    ∷ Entry (Takes 0)
    ∷ carries (codes "504702040000000000000000000200000000000000050000016b00")
    ∷ Entry (Takes 0)
    ∷ carries (codes "5047020300000000000000000003000000000000000000000163")
    ∷ Entry (Takes 0)
    ∷ carries (codes "5047020300000000000000000003000000000000000000000163")
    ∷ Entry (Takes 0)
    ∷ carries (codes "5047020300010000000000000005000000000000000000000163")
    ∷ Entry (Takes 11)
    ∷ Quiet
    ∷ Entry (Takes 3)
    ∷ Quiet
    ∷ Entry (Takes 7)
    ∷ carries (codes "5047020400010000000000000006000000000000000600000163010003763236")
    ∷ Entry (Takes 10)
    ∷ carries (codes "504702030000000000000000000400000000000000000000016b")
    ∷ Entry (Takes 0)
    ∷ carries (codes "504702030000000000000000000400000000000000000000016b")
    ∷ Entry (Takes 0)
    ∷ carries (codes "504702030000000000000000000400000000000000000000016b")
    ∷ Entry (Takes 0)
    ∷ carries (codes "504702030000000000000000000400000000000000000000016b")
    ∷ Entry (Takes 0)
    ∷ carries (codes "504702030001000000000000000700000000000000000000016b")
    ∷ Entry (Takes 7)
    ∷ carries (codes "5047020300010000000000000008000000000000000000000163")
    ∷ Entry (Takes 3)
    ∷ carries (codes "5047020300010000000000000008000000000000000000000163")
    ∷ Entry (Takes 0)
    ∷ carries (codes "5047020300010000000000000008000000000000000000000163")
    ∷ Entry (Takes 0)
    ∷ carries (codes "5047020400000000000000000005000000000000000700000163010003763333")
    ∷ Entry (Takes 0)
    ∷ Quiet
    ∷ Entry (Takes 0)
    ∷ carries (codes "504702040001000000000000000900000000000000080000016100")
    ∷ Entry (Takes 0)
    ∷ Quiet
    ∷ Entry (Takes 0)
    ∷ carries (codes "504702040000000000000000000600000000000000090000016100")
    ∷ Entry (Takes 0)
    ∷ carries (codes "504702040001000000000000000a000000000000000a00000163010003763534")
    ∷ Entry (Takes 0)
    ∷ Quiet
    ∷ Entry (Takes 0)
    ∷ carries (codes "5047020400000000000000000007000000000000000b0000016b010003763539")
    ∷ Entry (Takes 0)
    ∷ carries (codes "504702040001000000000000000b000000000000000c0000016b010003763630")
    ∷ Entry End
    ∷ []

server_recorded_lines : spell (record_entry_lines (no_event)) server_recorded_inputs (
    codes "take"
    ∷ codes "take 8"
    ∷ codes "take"
    ∷ codes "take 8"
    ∷ codes "take 2"
    ∷ codes "take 2"
    ∷ codes "take 0"
    ∷ codes "take 0"
    ∷ codes "take 1"
    ∷ codes "take 8"
    ∷ codes "take 1"
    ∷ codes "take"
    ∷ codes "take 0"
    ∷ codes "take"
    ∷ codes "take 0"
    ∷ codes "take 11"
    ∷ codes "take 3"
    ∷ codes "take 7"
    ∷ codes "take 10"
    ∷ codes "take 0"
    ∷ codes "take"
    ∷ codes "take 0"
    ∷ codes "take"
    ∷ codes "take 7"
    ∷ codes "take 3"
    ∷ codes "take"
    ∷ codes "take 0"
    ∷ codes "take"
    ∷ codes "take"
    ∷ codes "take 0"
    ∷ codes "take 0"
    ∷ codes "take 0"
    ∷ codes "take 0"
    ∷ codes "take"
    ∷ codes "take"
    ∷ codes "end"
    ∷ []
    ) ≡ true
unfolding digits server_recorded_inputs
server_recorded_lines = refl

server_recorded_plays :
    shown records_server (plays records_server (server_recorder 7000 (rack_with Two 1 2 1 1 2 1) 0) server_recorded_inputs)
    ≡ Some (shows true (lines (
    codes "took server 0 8 x4c79c3f4dcc619a8799e3bd6fd292d2367e5"
    ∷ codes "took server 0 0 x504702030001000000000000000100000000000000000000016b"
    ∷ codes "sent switch 0 x504702050001000000000000000100000000000000000000016b00"
    ∷ codes "took server 0 2 x504702030001000000000000000200000000000000000000016b"
    ∷ codes "sent switch 0 x504702050001000000000000000200000000000000000000016b00"
    ∷ codes "took server 0 2 x809b64b096bd3f1332a49a103af0d0524a75"
    ∷ codes "took server 0 0 x504702040001000000000000000300000000000000030000016300"
    ∷ codes "sent switch 0 x5047020600010000000000000003000000000000000300000163"
    ∷ codes "took server 0 0 x50470204000000000000000000010000000000000001000001630100027631"
    ∷ codes "sent switch 0 x5047020600000000000000000001000000000000000100000163"
    ∷ codes "took server 0 8 x504702040001000000000000000400000000000000040000016b00"
    ∷ codes "sent switch 0 x504702060001000000000000000400000000000000040000016b"
    ∷ codes "took server 0 0 x504702040000000000000000000200000000000000050000016b00"
    ∷ codes "sent switch 0 x504702060000000000000000000200000000000000050000016b"
    ∷ codes "took server 0 0 x5047020300000000000000000003000000000000000000000163"
    ∷ codes "sent switch 0 x504702050000000000000000000300000000000000030000016300"
    ∷ codes "took server 0 0 x5047020300000000000000000003000000000000000000000163"
    ∷ codes "sent switch 0 x504702050000000000000000000300000000000000030000016300"
    ∷ codes "took server 0 0 x5047020300010000000000000005000000000000000000000163"
    ∷ codes "sent switch 0 x504702050001000000000000000500000000000000030000016300"
    ∷ codes "took server 0 7 x5047020400010000000000000006000000000000000600000163010003763236"
    ∷ codes "sent switch 0 x5047020600010000000000000006000000000000000600000163"
    ∷ codes "took server 0 10 x504702030000000000000000000400000000000000000000016b"
    ∷ codes "sent switch 0 x504702050000000000000000000400000000000000050000016b00"
    ∷ codes "took server 0 0 x504702030000000000000000000400000000000000000000016b"
    ∷ codes "sent switch 0 x504702050000000000000000000400000000000000050000016b00"
    ∷ codes "took server 0 0 x504702030000000000000000000400000000000000000000016b"
    ∷ codes "sent switch 0 x504702050000000000000000000400000000000000050000016b00"
    ∷ codes "took server 0 0 x504702030000000000000000000400000000000000000000016b"
    ∷ codes "sent switch 0 x504702050000000000000000000400000000000000050000016b00"
    ∷ codes "took server 0 0 x504702030001000000000000000700000000000000000000016b"
    ∷ codes "sent switch 0 x504702050001000000000000000700000000000000050000016b00"
    ∷ codes "took server 0 7 x5047020300010000000000000008000000000000000000000163"
    ∷ codes "sent switch 0 x5047020500010000000000000008000000000000000600000163010003763236"
    ∷ codes "took server 0 3 x5047020300010000000000000008000000000000000000000163"
    ∷ codes "sent switch 0 x5047020500010000000000000008000000000000000600000163010003763236"
    ∷ codes "took server 0 0 x5047020300010000000000000008000000000000000000000163"
    ∷ codes "sent switch 0 x5047020500010000000000000008000000000000000600000163010003763236"
    ∷ codes "took server 0 0 x5047020400000000000000000005000000000000000700000163010003763333"
    ∷ codes "sent switch 0 x5047020600000000000000000005000000000000000700000163"
    ∷ codes "took server 0 0 x504702040001000000000000000900000000000000080000016100"
    ∷ codes "sent switch 0 x5047020600010000000000000009000000000000000800000161"
    ∷ codes "took server 0 0 x504702040000000000000000000600000000000000090000016100"
    ∷ codes "sent switch 0 x5047020600000000000000000006000000000000000900000161"
    ∷ codes "took server 0 0 x504702040001000000000000000a000000000000000a00000163010003763534"
    ∷ codes "sent switch 0 x504702060001000000000000000a000000000000000a00000163"
    ∷ codes "took server 0 0 x5047020400000000000000000007000000000000000b0000016b010003763539"
    ∷ codes "sent switch 0 x5047020600000000000000000007000000000000000b0000016b"
    ∷ codes "took server 0 0 x504702040001000000000000000b000000000000000c0000016b010003763630"
    ∷ codes "sent switch 0 x504702060001000000000000000b000000000000000c0000016b"
    ∷ []
    )) (7008 ∷ []) (
    sent 3 0 7001 (codes "504702050001000000000000000100000000000000000000016b00")
    ∷ sent 5 0 7001 (codes "504702050001000000000000000200000000000000000000016b00")
    ∷ sent 7 0 7001 (codes "5047020600010000000000000003000000000000000300000163")
    ∷ sent 8 0 7001 (codes "5047020600000000000000000001000000000000000100000163")
    ∷ sent 10 0 7001 (codes "504702060001000000000000000400000000000000040000016b")
    ∷ sent 12 0 7001 (codes "504702060000000000000000000200000000000000050000016b")
    ∷ sent 13 0 7001 (codes "504702050000000000000000000300000000000000030000016300")
    ∷ sent 14 0 7001 (codes "504702050000000000000000000300000000000000030000016300")
    ∷ sent 15 0 7001 (codes "504702050001000000000000000500000000000000030000016300")
    ∷ sent 18 0 7001 (codes "5047020600010000000000000006000000000000000600000163")
    ∷ sent 19 0 7001 (codes "504702050000000000000000000400000000000000050000016b00")
    ∷ sent 20 0 7001 (codes "504702050000000000000000000400000000000000050000016b00")
    ∷ sent 21 0 7001 (codes "504702050000000000000000000400000000000000050000016b00")
    ∷ sent 22 0 7001 (codes "504702050000000000000000000400000000000000050000016b00")
    ∷ sent 23 0 7001 (codes "504702050001000000000000000700000000000000050000016b00")
    ∷ sent 24 0 7001 (codes "5047020500010000000000000008000000000000000600000163010003763236")
    ∷ sent 25 0 7001 (codes "5047020500010000000000000008000000000000000600000163010003763236")
    ∷ sent 26 0 7001 (codes "5047020500010000000000000008000000000000000600000163010003763236")
    ∷ sent 27 0 7001 (codes "5047020600000000000000000005000000000000000700000163")
    ∷ sent 29 0 7001 (codes "5047020600010000000000000009000000000000000800000161")
    ∷ sent 31 0 7001 (codes "5047020600000000000000000006000000000000000900000161")
    ∷ sent 32 0 7001 (codes "504702060001000000000000000a000000000000000a00000163")
    ∷ sent 34 0 7001 (codes "5047020600000000000000000007000000000000000b0000016b")
    ∷ sent 35 0 7001 (codes "504702060001000000000000000b000000000000000c0000016b")
    ∷ []
    ))
unfolding
    digits servers_from servers_of spelling in_range packet_of state_bytes state_of server_step
    client_step controller_step switch_step happens order_of said_text played server_recorded_inputs
server_recorded_plays = refl

-- a random run of a client
unfoldable pub client_recorded_inputs : List (Input (RecordEntry ClientCall))
client_recorded_inputs =
    Entry (Takes 0)
    ∷ carries []
    ∷ Entry (Calls (Begins (codes "a") (ask.Write (Present (codes "r1")))))
    ∷ Entry (Takes 0)
    ∷ Quiet
    ∷ Entry (Takes 0)
    ∷ carries (codes "5047010600010000000000000001000000000000000301000161")
    ∷ Entry (Calls (Begins (codes "k") (ask.Write (Present (codes "r4")))))
    ∷ Entry (Takes 0)
    ∷ Quiet
    ∷ Entry (Takes 0)
    ∷ Quiet
    ∷ Entry (Takes 0)
    ∷ Quiet
    ∷ Entry (Takes 1)
    ∷ Quiet
    ∷ Entry (Takes 0)
    ∷ Quiet
    ∷ Entry (Calls (Begins (codes "c") ask.Read))
    ∷ Entry (Takes 0)
    ∷ Quiet
    ∷ Entry (Takes 0)
    ∷ Quiet
    ∷ Entry (Takes 1)
    ∷ Quiet
    ∷ Entry (Calls (Begins (codes "k") (ask.Write (Present (codes "r14")))))
    ∷ Entry (Takes 11)
    ∷ Quiet
    ∷ Entry (Takes 0)
    ∷ Quiet
    ∷ Entry (Calls (Begins (codes "a") (ask.Write (Present (codes "r17")))))
    ∷ Entry (Takes 0)
    ∷ Quiet
    ∷ Entry (Takes 1)
    ∷ carries (codes "5047010d000000000000000100")
    ∷ Entry (Calls (Begins (codes "c") ask.Read))
    ∷ Entry (Takes 0)
    ∷ Quiet
    ∷ Entry (Calls (Begins (codes "k") (ask.Write (Present (codes "r22")))))
    ∷ Entry (Takes 2)
    ∷ carries []
    ∷ Entry (Takes 0)
    ∷ Quiet
    ∷ Entry (Calls (Begins (codes "a") ask.Read))
    ∷ Entry (Takes 0)
    ∷ Quiet
    ∷ Entry (Takes 2)
    ∷ carries (replicate 1282 48)
    ∷ Entry (Takes 7)
    ∷ Quiet
    ∷ Entry (Calls (Begins (codes "k") (ask.Write (Present (codes "r29")))))
    ∷ Entry (Takes 0)
    ∷ Quiet
    ∷ Entry (Takes 0)
    ∷ Quiet
    ∷ Entry (Calls Resends)
    ∷ Entry (Takes 11)
    ∷ Quiet
    ∷ Entry (Takes 9)
    ∷ Quiet
    ∷ Entry End
    ∷ []

client_recorded_lines : spell (record_entry_lines (client_event 1)) client_recorded_inputs (
    codes "take"
    ∷ codes "write 1 a =r1"
    ∷ codes "take 0"
    ∷ codes "take"
    ∷ codes "write 1 k =r4"
    ∷ codes "take"
    ∷ codes "take 0"
    ∷ codes "take"
    ∷ codes "take 1"
    ∷ codes "take"
    ∷ codes "read 1 c"
    ∷ codes "take"
    ∷ codes "take"
    ∷ codes "take 1"
    ∷ codes "write 1 k =r14"
    ∷ codes "take 11"
    ∷ codes "take 0"
    ∷ codes "write 1 a =r17"
    ∷ codes "take 0"
    ∷ codes "take 1"
    ∷ codes "read 1 c"
    ∷ codes "take 0"
    ∷ codes "write 1 k =r22"
    ∷ codes "take 2"
    ∷ codes "take"
    ∷ codes "read 1 a"
    ∷ codes "take 0"
    ∷ codes "take 2"
    ∷ codes "take 7"
    ∷ codes "write 1 k =r29"
    ∷ codes "take 0"
    ∷ codes "take"
    ∷ codes "resend 1"
    ∷ codes "take 11"
    ∷ codes "take 9"
    ∷ codes "end"
    ∷ []
    ) ≡ true
unfolding digits client_recorded_inputs
client_recorded_lines = refl

client_recorded_plays :
    shown records_client (plays records_client (client_recorder 7000 (rack_with One 2 3 2 2 3 1) 1) client_recorded_inputs)
    ≡ Some (shows true (lines (
    codes "took client 1 0 x"
    ∷ codes "write 1 a =r1"
    ∷ codes "sent switch 0 x50470102000100000000000000010000000000000000000001610100027231"
    ∷ codes "took client 1 0 x5047010600010000000000000001000000000000000301000161"
    ∷ codes "write 1 k =r4"
    ∷ codes "sent switch 0 x504701020001000000000000000200000000000000000000016b0100027234"
    ∷ codes "read 1 c"
    ∷ codes "write 1 k =r14"
    ∷ codes "write 1 a =r17"
    ∷ codes "took client 1 1 x5047010d000000000000000100"
    ∷ codes "read 1 c"
    ∷ codes "write 1 k =r22"
    ∷ codes "took client 1 2 x"
    ∷ codes "read 1 a"
    ∷ (codes "took client 1 2 x000000000000000000000000000000000000000000000000000000000000000" ++ codes "00000000000000000000000000000000000000000000000000000000000000000000000000000000" ++ codes "00000000000000000000000000000000000000000000000000000000000000000000000000000000" ++ codes "00000000000000000000000000000000000000000000000000000000000000000000000000000000" ++ codes "00000000000000000000000000000000000000000000000000000000000000000000000000000000" ++ codes "00000000000000000000000000000000000000000000000000000000000000000000000000000000" ++ codes "00000000000000000000000000000000000000000000000000000000000000000000000000000000" ++ codes "00000000000000000000000000000000000000000000000000000000000000000000000000000000" ++ codes "00000000000000000000000000000000000000000000000000000000000000000000000000000000" ++ codes "00000000000000000000000000000000000000000000000000000000000000000000000000000000" ++ codes "00000000000000000000000000000000000000000000000000000000000000000000000000000000" ++ codes "00000000000000000000000000000000000000000000000000000000000000000000000000000000" ++ codes "00000000000000000000000000000000000000000000000000000000000000000000000000000000" ++ codes "00000000000000000000000000000000000000000000000000000000000000000000000000000000" ++ codes "00000000000000000000000000000000000000000000000000000000000000000000000000000000" ++ codes "00000000000000000000000000000000000000000000000000000000000000000000000000000000" ++ codes "0000000000000000000")
    ∷ codes "write 1 k =r29"
    ∷ codes "resend 1"
    ∷ codes "sent switch 0 x504701020001000000000000000200000000000000000000016b0100027234"
    ∷ []
    )) (7129 ∷ []) (
    sent 1 0 7001 (codes "50470102000100000000000000010000000000000000000001610100027231")
    ∷ sent 3 0 7001 (codes "504701020001000000000000000200000000000000000000016b0100027234")
    ∷ sent 23 0 7001 (codes "504701020001000000000000000200000000000000000000016b0100027234")
    ∷ []
    ))
unfolding
    digits servers_from servers_of spelling in_range packet_of state_bytes state_of server_step
    client_step controller_step switch_step happens order_of said_text played client_recorded_inputs
client_recorded_plays = refl

-- a random run of the controller
unfoldable pub controller_recorded_inputs : List (Input (RecordEntry Call))
controller_recorded_inputs =
    Entry (Calls (Orders (command.Promote (codes "k"))))
    ∷ Entry (Calls (Orders (command.Copy (codes "a") 1)))
    ∷ Entry (Calls (Orders (command.Promote (codes "c"))))
    ∷ Entry (Calls (Orders (command.Promote (codes "c"))))
    ∷ Entry (Takes 10)
    ∷ carries (codes "504701080000000000000001010000000000000001")
    ∷ Entry (Takes 2)
    ∷ Quiet
    ∷ Entry (Calls (Plans 2 0))
    ∷ Entry (Calls Retries)
    ∷ Entry (Takes 0)
    ∷ Quiet
    ∷ Entry (Takes 0)
    ∷ Quiet
    ∷ Entry (Takes 7)
    ∷ Quiet
    ∷ Entry (Calls (Orders (command.Fence (codes "a"))))
    ∷ Entry (Takes 0)
    ∷ Quiet
    ∷ Entry (Takes 5)
    ∷ carries (codes "504701080000000000000002050000000000000000")
    ∷ Entry (Takes 6)
    ∷ carries (codes "504701080000000000000002050000000000000000")
    ∷ Entry (Takes 11)
    ∷ Quiet
    ∷ Entry (Takes 9)
    ∷ Quiet
    ∷ Entry (Calls (Orders (command.Fence (codes "c"))))
    ∷ Entry (Takes 0)
    ∷ carries (codes "504701080000000000000003050000000000000000")
    ∷ Entry (Calls Surveys)
    ∷ Entry (Takes 0)
    ∷ carries (codes "5047010f00000000000000010000000000000006020163000000000000000300000000" ++ codes "00000002016b00000000000000030000000000000000")
    ∷ Entry (Calls (Orders (command.Fence (codes "c"))))
    ∷ Entry (Calls (Orders (command.Promote (codes "c"))))
    ∷ Entry (Takes 0)
    ∷ Quiet
    ∷ Entry (Takes 0)
    ∷ carries (codes "504701080000000000000004050000000000000000")
    ∷ Entry (Calls Retries)
    ∷ Entry (Takes 0)
    ∷ Quiet
    ∷ Entry (Calls (Orders (command.Promote (codes "a"))))
    ∷ Entry (Takes 0)
    ∷ carries (codes "504701080000000000000005010000000000000005")
    ∷ Entry (Takes 0)
    ∷ Quiet
    ∷ Entry (Calls (Orders (command.Handover 2)))
    ∷ Entry (Takes 0)
    ∷ Quiet
    ∷ Entry (Takes 0)
    ∷ Quiet
    ∷ Entry (Takes 2)
    ∷ carries (replicate 1282 48)
    ∷ Entry (Takes 5)
    ∷ Quiet
    ∷ Entry End
    ∷ []

controller_recorded_lines : spell (record_entry_lines (call_event)) controller_recorded_inputs (
    codes "promote k"
    ∷ codes "copy a 1"
    ∷ codes "promote c"
    ∷ codes "promote c"
    ∷ codes "take 10"
    ∷ codes "take 2"
    ∷ codes "plan 2 0"
    ∷ codes "retry"
    ∷ codes "take"
    ∷ codes "take"
    ∷ codes "take 7"
    ∷ codes "fence a"
    ∷ codes "take 0"
    ∷ codes "take 5"
    ∷ codes "take 6"
    ∷ codes "take 11"
    ∷ codes "take 9"
    ∷ codes "fence c"
    ∷ codes "take 0"
    ∷ codes "survey"
    ∷ codes "take 0"
    ∷ codes "fence c"
    ∷ codes "promote c"
    ∷ codes "take 0"
    ∷ codes "take 0"
    ∷ codes "retry"
    ∷ codes "take"
    ∷ codes "promote a"
    ∷ codes "take"
    ∷ codes "take 0"
    ∷ codes "handover 2"
    ∷ codes "take 0"
    ∷ codes "take 0"
    ∷ codes "take 2"
    ∷ codes "take 5"
    ∷ codes "end"
    ∷ []
    ) ≡ true
unfolding digits controller_recorded_inputs
controller_recorded_lines = refl

controller_recorded_plays :
    shown records_controller (plays records_controller (controller_recorder 7000 (rack_with One 2 2 2 2 2 1)) controller_recorded_inputs)
    ≡ Some (shows true (lines (
    codes "promote k"
    ∷ codes "sent switch 0 x50470107000000000000000101016b"
    ∷ codes "copy a 1"
    ∷ codes "promote c"
    ∷ codes "promote c"
    ∷ codes "took controller 10 x504701080000000000000001010000000000000001"
    ∷ codes "plan 2 0"
    ∷ codes "retry"
    ∷ codes "sent client 0 x5047010d000000000000000100"
    ∷ codes "sent client 1 x5047010d000000000000000100"
    ∷ codes "fence a"
    ∷ codes "sent switch 0 x504701070000000000000002060161"
    ∷ codes "took controller 5 x504701080000000000000002050000000000000000"
    ∷ codes "took controller 6 x504701080000000000000002050000000000000000"
    ∷ codes "fence c"
    ∷ codes "sent switch 0 x504701070000000000000003060163"
    ∷ codes "took controller 0 x504701080000000000000003050000000000000000"
    ∷ codes "survey"
    ∷ codes "sent switch 0 x5047010e"
    ∷ (codes "took controller 0 x5047010f00000000000000010000000000000006020163000000000000000" ++ codes "30000000000000002016b00000000000000030000000000000000")
    ∷ codes "fence c"
    ∷ codes "sent switch 0 x504701070000000000000004060163"
    ∷ codes "promote c"
    ∷ codes "took controller 0 x504701080000000000000004050000000000000000"
    ∷ codes "retry"
    ∷ codes "sent client 0 x5047010d000000000000000100"
    ∷ codes "sent client 1 x5047010d000000000000000100"
    ∷ codes "promote a"
    ∷ codes "sent switch 0 x504701070000000000000005010161"
    ∷ codes "took controller 0 x504701080000000000000005010000000000000005"
    ∷ codes "handover 2"
    ∷ (codes "took controller 2 x0000000000000000000000000000000000000000000000000000000000000" ++ codes "00000000000000000000000000000000000000000000000000000000000000000000000000000000" ++ codes "00000000000000000000000000000000000000000000000000000000000000000000000000000000" ++ codes "00000000000000000000000000000000000000000000000000000000000000000000000000000000" ++ codes "00000000000000000000000000000000000000000000000000000000000000000000000000000000" ++ codes "00000000000000000000000000000000000000000000000000000000000000000000000000000000" ++ codes "00000000000000000000000000000000000000000000000000000000000000000000000000000000" ++ codes "00000000000000000000000000000000000000000000000000000000000000000000000000000000" ++ codes "00000000000000000000000000000000000000000000000000000000000000000000000000000000" ++ codes "00000000000000000000000000000000000000000000000000000000000000000000000000000000" ++ codes "00000000000000000000000000000000000000000000000000000000000000000000000000000000" ++ codes "00000000000000000000000000000000000000000000000000000000000000000000000000000000" ++ codes "00000000000000000000000000000000000000000000000000000000000000000000000000000000" ++ codes "00000000000000000000000000000000000000000000000000000000000000000000000000000000" ++ codes "00000000000000000000000000000000000000000000000000000000000000000000000000000000" ++ codes "00000000000000000000000000000000000000000000000000000000000000000000000000000000" ++ codes "000000000000000000000")
    ∷ []
    )) (7000 ∷ []) (
    sent 0 0 7001 (codes "50470107000000000000000101016b")
    ∷ sent 2 0 7128 (codes "5047010d000000000000000100")
    ∷ sent 2 0 7129 (codes "5047010d000000000000000100")
    ∷ sent 5 0 7001 (codes "504701070000000000000002060161")
    ∷ sent 10 0 7001 (codes "504701070000000000000003060163")
    ∷ sent 11 0 7001 (codes "5047010e")
    ∷ sent 12 0 7001 (codes "504701070000000000000004060163")
    ∷ sent 14 0 7128 (codes "5047010d000000000000000100")
    ∷ sent 14 0 7129 (codes "5047010d000000000000000100")
    ∷ sent 15 0 7001 (codes "504701070000000000000005010161")
    ∷ []
    ))
unfolding
    digits servers_from servers_of spelling in_range packet_of state_bytes state_of server_step
    client_step controller_step switch_step happens order_of said_text played controller_recorded_inputs
controller_recorded_plays = refl

-- the record of a random run
unfoldable pub run_two_events : List Event
run_two_events =
    (event.Read 1 (codes "e"))
    ∷ (event.Deliver 0 0)
    ∷ (event.Deliver 0 1)
    ∷ (event.Deliver 1 4)
    ∷ (event.Deliver 3 2)
    ∷ (event.Deliver 4 2)
    ∷ (event.Deliver 1 5)
    ∷ (event.Write 2 (codes "e") (codes "v1"))
    ∷ (event.Deliver 3 3)
    ∷ (event.Deliver 4 3)
    ∷ (event.Deliver 6 4)
    ∷ (event.Deliver 4 3)
    ∷ (event.Delete 0 (codes "b"))
    ∷ (event.Deliver 9 5)
    ∷ (event.Deliver 1 3)
    ∷ (event.Deliver 10 3)
    ∷ (event.Deliver 8 3)
    ∷ (event.Deliver 4 3)
    ∷ (event.Deliver 9 6)
    ∷ (event.Deliver 1 0)
    ∷ (event.Deliver 3 7)
    ∷ (event.Deliver 4 1)
    ∷ (event.Copy (codes "b") 1)
    ∷ (event.Write 1 (codes "e") (codes "v3"))
    ∷ (event.Deliver 18 8)
    ∷ (event.Deliver 4 0)
    ∷ (event.Deliver 4 1)
    ∷ (event.Deliver 17 9)
    ∷ (event.Deliver 9 10)
    ∷ (event.Deliver 15 11)
    ∷ (event.Deliver 22 1)
    ∷ (event.Deliver 22 4)
    ∷ (event.Deliver 6 12)
    ∷ (event.Deliver 10 3)
    ∷ (event.Deliver 12 13)
    ∷ (event.Deliver 25 2)
    ∷ (event.Deliver 8 5)
    ∷ (event.Deliver 13 14)
    ∷ (event.Deliver 27 4)
    ∷ (event.Deliver 17 15)
    ∷ []

run_two_recorded : record_text (rack_with Two 2 3 2 1 2 1) run_two_events ≡ lines (
    codes "rack servers=2 clients=3 switches=2 listed=1 hot=2 first=1 format=2"
    ∷ codes "read 1 e"
    ∷ codes "sent switch 0 x5047020100010000000000000001000000000000000000000165"
    ∷ codes "took switch 0 0 x5047020100010000000000000001000000000000000000000165"
    ∷ codes "sent server 1 x5047020300010000000000000001000000000000000001000165"
    ∷ codes "took switch 0 1 x5047020100010000000000000001000000000000000000000165"
    ∷ codes "sent server 1 x5047020300010000000000000001000000000000000001000165"
    ∷ codes "took server 1 4 x5047020300010000000000000001000000000000000001000165"
    ∷ codes "sent switch 0 x504702050001000000000000000100000000000000000100016500"
    ∷ codes "took switch 0 2 x504702050001000000000000000100000000000000000100016500"
    ∷ codes "sent client 1 x504702050001000000000000000100000000000000000100016500"
    ∷ codes "took client 1 2 x504702050001000000000000000100000000000000000100016500"
    ∷ codes "took server 1 5 x5047020300010000000000000001000000000000000001000165"
    ∷ codes "sent switch 0 x504702050001000000000000000100000000000000000100016500"
    ∷ codes "write 2 e =v1"
    ∷ codes "sent switch 0 x50470202000200000000000000010000000000000000000001650100027631"
    ∷ codes "took switch 0 3 x504702050001000000000000000100000000000000000100016500"
    ∷ codes "sent client 1 x504702050001000000000000000100000000000000000100016500"
    ∷ codes "took client 1 3 x504702050001000000000000000100000000000000000100016500"
    ∷ codes "took switch 0 4 x50470202000200000000000000010000000000000000000001650100027631"
    ∷ codes "sent server 1 x50470204000200000000000000010000000000000001010001650100027631"
    ∷ codes "took client 1 3 x504702050001000000000000000100000000000000000100016500"
    ∷ codes "delete 0 b"
    ∷ codes "sent switch 0 x504702020000000000000000000100000000000000000000016200"
    ∷ codes "took switch 0 5 x504702020000000000000000000100000000000000000000016200"
    ∷ codes "sent server 0 x504702040000000000000000000100000000000000020000016200"
    ∷ codes "took server 1 3 x5047020300010000000000000001000000000000000001000165"
    ∷ codes "sent switch 0 x504702050001000000000000000100000000000000000100016500"
    ∷ codes "took server 0 3 x504702040000000000000000000100000000000000020000016200"
    ∷ codes "sent switch 0 x5047020600000000000000000001000000000000000200000162"
    ∷ codes "took server 1 3 x50470204000200000000000000010000000000000001010001650100027631"
    ∷ codes "sent switch 0 x5047020600020000000000000001000000000000000101000165"
    ∷ codes "took client 1 3 x504702050001000000000000000100000000000000000100016500"
    ∷ codes "took switch 0 6 x504702020000000000000000000100000000000000000000016200"
    ∷ codes "sent server 0 x504702040000000000000000000100000000000000020000016200"
    ∷ codes "took server 1 0 x5047020300010000000000000001000000000000000001000165"
    ∷ codes "sent switch 0 x50470205000100000000000000010000000000000001010001650100027631"
    ∷ codes "took switch 0 7 x504702050001000000000000000100000000000000000100016500"
    ∷ codes "sent client 1 x504702050001000000000000000100000000000000000100016500"
    ∷ codes "took client 1 1 x504702050001000000000000000100000000000000000100016500"
    ∷ codes "copy b 1"
    ∷ codes "sent switch 0 x50470207000000000000000103010162"
    ∷ codes "write 1 e =v3"
    ∷ codes "sent switch 0 x50470202000100000000000000020000000000000000000001650100027633"
    ∷ codes "took switch 0 8 x50470202000100000000000000020000000000000000000001650100027633"
    ∷ codes "sent server 1 x50470204000100000000000000020000000000000003010001650100027633"
    ∷ codes "took client 1 0 x504702050001000000000000000100000000000000000100016500"
    ∷ codes "took client 1 1 x504702050001000000000000000100000000000000000100016500"
    ∷ codes "took switch 0 9 x50470207000000000000000103010162"
    ∷ codes "sent controller x504702080000000000000001050000000000000000"
    ∷ codes "took switch 0 10 x504702020000000000000000000100000000000000000000016200"
    ∷ codes "sent server 0 x504702040000000000000000000100000000000000020000016200"
    ∷ codes "took switch 0 11 x50470205000100000000000000010000000000000001010001650100027631"
    ∷ codes "sent client 1 x50470205000100000000000000010000000000000001010001650100027631"
    ∷ codes "took client 1 1 x50470205000100000000000000010000000000000001010001650100027631"
    ∷ codes "took client 1 4 x50470205000100000000000000010000000000000001010001650100027631"
    ∷ codes "took switch 0 12 x50470202000200000000000000010000000000000000000001650100027631"
    ∷ codes "sent server 1 x50470204000200000000000000010000000000000001010001650100027631"
    ∷ codes "took server 0 3 x504702040000000000000000000100000000000000020000016200"
    ∷ codes "sent switch 0 x5047020600000000000000000001000000000000000200000162"
    ∷ codes "took switch 0 13 x5047020600000000000000000001000000000000000200000162"
    ∷ codes "sent client 0 x5047020600000000000000000001000000000000000200000162"
    ∷ codes "took client 0 2 x5047020600000000000000000001000000000000000200000162"
    ∷ codes "took server 1 5 x50470204000200000000000000010000000000000001010001650100027631"
    ∷ codes "sent switch 0 x5047020600020000000000000001000000000000000101000165"
    ∷ codes "took switch 0 14 x5047020600020000000000000001000000000000000101000165"
    ∷ codes "sent client 2 x5047020600020000000000000001000000000000000101000165"
    ∷ codes "took client 2 4 x5047020600020000000000000001000000000000000101000165"
    ∷ codes "took switch 0 15 x50470207000000000000000103010162"
    ∷ codes "sent controller x504702080000000000000001050000000000000000"
    ∷ codes "end"
    ∷ []
    )
unfolding
    digits servers_from servers_of spelling in_range packet_of state_bytes state_of server_step
    client_step controller_step switch_step happens order_of said_text played run_entries run_two_events
run_two_recorded = refl

-- and its audit
unfoldable pub run_two_yes_inputs : List (Input AuditEntry)
run_two_yes_inputs =
    Entry (Named (rack_with Two 2 3 2 1 2 1))
    ∷ Entry (Happens (event.Read 1 (codes "e")))
    ∷ Entry (Sent (node.Switch 0) (hex (codes "5047020100010000000000000001000000000000000000000165")))
    ∷ Entry (Took (node.Switch 0) 0 (hex (codes "5047020100010000000000000001000000000000000000000165")))
    ∷ Entry (Sent (node.Server 1) (hex (codes "5047020300010000000000000001000000000000000001000165")))
    ∷ Entry (Took (node.Switch 0) 1 (hex (codes "5047020100010000000000000001000000000000000000000165")))
    ∷ Entry (Sent (node.Server 1) (hex (codes "5047020300010000000000000001000000000000000001000165")))
    ∷ Entry (Took (node.Server 1) 4 (hex (codes "5047020300010000000000000001000000000000000001000165")))
    ∷ Entry (Sent (node.Switch 0) (hex (codes "504702050001000000000000000100000000000000000100016500")))
    ∷ Entry (Took (node.Switch 0) 2 (hex (codes "504702050001000000000000000100000000000000000100016500")))
    ∷ Entry (Sent (node.Client 1) (hex (codes "504702050001000000000000000100000000000000000100016500")))
    ∷ Entry (Took (node.Client 1) 2 (hex (codes "504702050001000000000000000100000000000000000100016500")))
    ∷ Entry (Took (node.Server 1) 5 (hex (codes "5047020300010000000000000001000000000000000001000165")))
    ∷ Entry (Sent (node.Switch 0) (hex (codes "504702050001000000000000000100000000000000000100016500")))
    ∷ Entry (Happens (event.Write 2 (codes "e") (codes "v1")))
    ∷ Entry (Sent (node.Switch 0) (hex (codes "50470202000200000000000000010000000000000000000001650100027631")))
    ∷ Entry (Took (node.Switch 0) 3 (hex (codes "504702050001000000000000000100000000000000000100016500")))
    ∷ Entry (Sent (node.Client 1) (hex (codes "504702050001000000000000000100000000000000000100016500")))
    ∷ Entry (Took (node.Client 1) 3 (hex (codes "504702050001000000000000000100000000000000000100016500")))
    ∷ Entry (Took (node.Switch 0) 4 (hex (codes "50470202000200000000000000010000000000000000000001650100027631")))
    ∷ Entry (Sent (node.Server 1) (hex (codes "50470204000200000000000000010000000000000001010001650100027631")))
    ∷ Entry (Took (node.Client 1) 3 (hex (codes "504702050001000000000000000100000000000000000100016500")))
    ∷ Entry (Happens (event.Delete 0 (codes "b")))
    ∷ Entry (Sent (node.Switch 0) (hex (codes "504702020000000000000000000100000000000000000000016200")))
    ∷ Entry (Took (node.Switch 0) 5 (hex (codes "504702020000000000000000000100000000000000000000016200")))
    ∷ Entry (Sent (node.Server 0) (hex (codes "504702040000000000000000000100000000000000020000016200")))
    ∷ Entry (Took (node.Server 1) 3 (hex (codes "5047020300010000000000000001000000000000000001000165")))
    ∷ Entry (Sent (node.Switch 0) (hex (codes "504702050001000000000000000100000000000000000100016500")))
    ∷ Entry (Took (node.Server 0) 3 (hex (codes "504702040000000000000000000100000000000000020000016200")))
    ∷ Entry (Sent (node.Switch 0) (hex (codes "5047020600000000000000000001000000000000000200000162")))
    ∷ Entry (Took (node.Server 1) 3 (hex (codes "50470204000200000000000000010000000000000001010001650100027631")))
    ∷ Entry (Sent (node.Switch 0) (hex (codes "5047020600020000000000000001000000000000000101000165")))
    ∷ Entry (Took (node.Client 1) 3 (hex (codes "504702050001000000000000000100000000000000000100016500")))
    ∷ Entry (Took (node.Switch 0) 6 (hex (codes "504702020000000000000000000100000000000000000000016200")))
    ∷ Entry (Sent (node.Server 0) (hex (codes "504702040000000000000000000100000000000000020000016200")))
    ∷ Entry (Took (node.Server 1) 0 (hex (codes "5047020300010000000000000001000000000000000001000165")))
    ∷ Entry (Sent (node.Switch 0) (hex (codes "50470205000100000000000000010000000000000001010001650100027631")))
    ∷ Entry (Took (node.Switch 0) 7 (hex (codes "504702050001000000000000000100000000000000000100016500")))
    ∷ Entry (Sent (node.Client 1) (hex (codes "504702050001000000000000000100000000000000000100016500")))
    ∷ Entry (Took (node.Client 1) 1 (hex (codes "504702050001000000000000000100000000000000000100016500")))
    ∷ Entry (Happens (event.Copy (codes "b") 1))
    ∷ Entry (Sent (node.Switch 0) (hex (codes "50470207000000000000000103010162")))
    ∷ Entry (Happens (event.Write 1 (codes "e") (codes "v3")))
    ∷ Entry (Sent (node.Switch 0) (hex (codes "50470202000100000000000000020000000000000000000001650100027633")))
    ∷ Entry (Took (node.Switch 0) 8 (hex (codes "50470202000100000000000000020000000000000000000001650100027633")))
    ∷ Entry (Sent (node.Server 1) (hex (codes "50470204000100000000000000020000000000000003010001650100027633")))
    ∷ Entry (Took (node.Client 1) 0 (hex (codes "504702050001000000000000000100000000000000000100016500")))
    ∷ Entry (Took (node.Client 1) 1 (hex (codes "504702050001000000000000000100000000000000000100016500")))
    ∷ Entry (Took (node.Switch 0) 9 (hex (codes "50470207000000000000000103010162")))
    ∷ Entry (Sent node.Controller (hex (codes "504702080000000000000001050000000000000000")))
    ∷ Entry (Took (node.Switch 0) 10 (hex (codes "504702020000000000000000000100000000000000000000016200")))
    ∷ Entry (Sent (node.Server 0) (hex (codes "504702040000000000000000000100000000000000020000016200")))
    ∷ Entry (Took (node.Switch 0) 11 (hex (codes "50470205000100000000000000010000000000000001010001650100027631")))
    ∷ Entry (Sent (node.Client 1) (hex (codes "50470205000100000000000000010000000000000001010001650100027631")))
    ∷ Entry (Took (node.Client 1) 1 (hex (codes "50470205000100000000000000010000000000000001010001650100027631")))
    ∷ Entry (Took (node.Client 1) 4 (hex (codes "50470205000100000000000000010000000000000001010001650100027631")))
    ∷ Entry (Took (node.Switch 0) 12 (hex (codes "50470202000200000000000000010000000000000000000001650100027631")))
    ∷ Entry (Sent (node.Server 1) (hex (codes "50470204000200000000000000010000000000000001010001650100027631")))
    ∷ Entry (Took (node.Server 0) 3 (hex (codes "504702040000000000000000000100000000000000020000016200")))
    ∷ Entry (Sent (node.Switch 0) (hex (codes "5047020600000000000000000001000000000000000200000162")))
    ∷ Entry (Took (node.Switch 0) 13 (hex (codes "5047020600000000000000000001000000000000000200000162")))
    ∷ Entry (Sent (node.Client 0) (hex (codes "5047020600000000000000000001000000000000000200000162")))
    ∷ Entry (Took (node.Client 0) 2 (hex (codes "5047020600000000000000000001000000000000000200000162")))
    ∷ Entry (Took (node.Server 1) 5 (hex (codes "50470204000200000000000000010000000000000001010001650100027631")))
    ∷ Entry (Sent (node.Switch 0) (hex (codes "5047020600020000000000000001000000000000000101000165")))
    ∷ Entry (Took (node.Switch 0) 14 (hex (codes "5047020600020000000000000001000000000000000101000165")))
    ∷ Entry (Sent (node.Client 2) (hex (codes "5047020600020000000000000001000000000000000101000165")))
    ∷ Entry (Took (node.Client 2) 4 (hex (codes "5047020600020000000000000001000000000000000101000165")))
    ∷ Entry (Took (node.Switch 0) 15 (hex (codes "50470207000000000000000103010162")))
    ∷ Entry (Sent node.Controller (hex (codes "504702080000000000000001050000000000000000")))
    ∷ Entry Ends
    ∷ []

run_two_yes_lines : spell audit_lines run_two_yes_inputs (
    codes "rack servers=2 clients=3 switches=2 listed=1 hot=2 first=1 format=2"
    ∷ codes "read 1 e"
    ∷ codes "sent switch 0 x5047020100010000000000000001000000000000000000000165"
    ∷ codes "took switch 0 0 x5047020100010000000000000001000000000000000000000165"
    ∷ codes "sent server 1 x5047020300010000000000000001000000000000000001000165"
    ∷ codes "took switch 0 1 x5047020100010000000000000001000000000000000000000165"
    ∷ codes "sent server 1 x5047020300010000000000000001000000000000000001000165"
    ∷ codes "took server 1 4 x5047020300010000000000000001000000000000000001000165"
    ∷ codes "sent switch 0 x504702050001000000000000000100000000000000000100016500"
    ∷ codes "took switch 0 2 x504702050001000000000000000100000000000000000100016500"
    ∷ codes "sent client 1 x504702050001000000000000000100000000000000000100016500"
    ∷ codes "took client 1 2 x504702050001000000000000000100000000000000000100016500"
    ∷ codes "took server 1 5 x5047020300010000000000000001000000000000000001000165"
    ∷ codes "sent switch 0 x504702050001000000000000000100000000000000000100016500"
    ∷ codes "write 2 e =v1"
    ∷ codes "sent switch 0 x50470202000200000000000000010000000000000000000001650100027631"
    ∷ codes "took switch 0 3 x504702050001000000000000000100000000000000000100016500"
    ∷ codes "sent client 1 x504702050001000000000000000100000000000000000100016500"
    ∷ codes "took client 1 3 x504702050001000000000000000100000000000000000100016500"
    ∷ codes "took switch 0 4 x50470202000200000000000000010000000000000000000001650100027631"
    ∷ codes "sent server 1 x50470204000200000000000000010000000000000001010001650100027631"
    ∷ codes "took client 1 3 x504702050001000000000000000100000000000000000100016500"
    ∷ codes "delete 0 b"
    ∷ codes "sent switch 0 x504702020000000000000000000100000000000000000000016200"
    ∷ codes "took switch 0 5 x504702020000000000000000000100000000000000000000016200"
    ∷ codes "sent server 0 x504702040000000000000000000100000000000000020000016200"
    ∷ codes "took server 1 3 x5047020300010000000000000001000000000000000001000165"
    ∷ codes "sent switch 0 x504702050001000000000000000100000000000000000100016500"
    ∷ codes "took server 0 3 x504702040000000000000000000100000000000000020000016200"
    ∷ codes "sent switch 0 x5047020600000000000000000001000000000000000200000162"
    ∷ codes "took server 1 3 x50470204000200000000000000010000000000000001010001650100027631"
    ∷ codes "sent switch 0 x5047020600020000000000000001000000000000000101000165"
    ∷ codes "took client 1 3 x504702050001000000000000000100000000000000000100016500"
    ∷ codes "took switch 0 6 x504702020000000000000000000100000000000000000000016200"
    ∷ codes "sent server 0 x504702040000000000000000000100000000000000020000016200"
    ∷ codes "took server 1 0 x5047020300010000000000000001000000000000000001000165"
    ∷ codes "sent switch 0 x50470205000100000000000000010000000000000001010001650100027631"
    ∷ codes "took switch 0 7 x504702050001000000000000000100000000000000000100016500"
    ∷ codes "sent client 1 x504702050001000000000000000100000000000000000100016500"
    ∷ codes "took client 1 1 x504702050001000000000000000100000000000000000100016500"
    ∷ codes "copy b 1"
    ∷ codes "sent switch 0 x50470207000000000000000103010162"
    ∷ codes "write 1 e =v3"
    ∷ codes "sent switch 0 x50470202000100000000000000020000000000000000000001650100027633"
    ∷ codes "took switch 0 8 x50470202000100000000000000020000000000000000000001650100027633"
    ∷ codes "sent server 1 x50470204000100000000000000020000000000000003010001650100027633"
    ∷ codes "took client 1 0 x504702050001000000000000000100000000000000000100016500"
    ∷ codes "took client 1 1 x504702050001000000000000000100000000000000000100016500"
    ∷ codes "took switch 0 9 x50470207000000000000000103010162"
    ∷ codes "sent controller x504702080000000000000001050000000000000000"
    ∷ codes "took switch 0 10 x504702020000000000000000000100000000000000000000016200"
    ∷ codes "sent server 0 x504702040000000000000000000100000000000000020000016200"
    ∷ codes "took switch 0 11 x50470205000100000000000000010000000000000001010001650100027631"
    ∷ codes "sent client 1 x50470205000100000000000000010000000000000001010001650100027631"
    ∷ codes "took client 1 1 x50470205000100000000000000010000000000000001010001650100027631"
    ∷ codes "took client 1 4 x50470205000100000000000000010000000000000001010001650100027631"
    ∷ codes "took switch 0 12 x50470202000200000000000000010000000000000000000001650100027631"
    ∷ codes "sent server 1 x50470204000200000000000000010000000000000001010001650100027631"
    ∷ codes "took server 0 3 x504702040000000000000000000100000000000000020000016200"
    ∷ codes "sent switch 0 x5047020600000000000000000001000000000000000200000162"
    ∷ codes "took switch 0 13 x5047020600000000000000000001000000000000000200000162"
    ∷ codes "sent client 0 x5047020600000000000000000001000000000000000200000162"
    ∷ codes "took client 0 2 x5047020600000000000000000001000000000000000200000162"
    ∷ codes "took server 1 5 x50470204000200000000000000010000000000000001010001650100027631"
    ∷ codes "sent switch 0 x5047020600020000000000000001000000000000000101000165"
    ∷ codes "took switch 0 14 x5047020600020000000000000001000000000000000101000165"
    ∷ codes "sent client 2 x5047020600020000000000000001000000000000000101000165"
    ∷ codes "took client 2 4 x5047020600020000000000000001000000000000000101000165"
    ∷ codes "took switch 0 15 x50470207000000000000000103010162"
    ∷ codes "sent controller x504702080000000000000001050000000000000000"
    ∷ codes "end"
    ∷ []
    ) ≡ true
unfolding digits run_two_yes_inputs
run_two_yes_lines = refl

run_two_yes_plays :
    shown audits (plays audits audit_start run_two_yes_inputs)
    ≡ Some (shows true (lines (
    codes "yes 4 operations 2 keys"
    ∷ codes "history 4"
    ∷ codes "op 0 client 1 read e issued 2 answered 12 -"
    ∷ codes "op 1 client 2 write e =v1 issued 15 answered 68"
    ∷ codes "op 2 client 0 write b - issued 23 answered 63"
    ∷ codes "op 3 client 1 write e =v3 issued 43 open"
    ∷ codes "order e 2"
    ∷ codes "at 0"
    ∷ codes "at 1"
    ∷ codes "order b 1"
    ∷ codes "at 2"
    ∷ codes "done"
    ∷ []
    )) [] [])
unfolding
    digits servers_from servers_of spelling in_range packet_of state_bytes state_of server_step
    client_step controller_step switch_step happens order_of said_text played run_two_yes_inputs
run_two_yes_plays = refl

-- the record of a random run
unfoldable pub run_one_events : List Event
run_one_events =
    (event.Handover 1)
    ∷ (event.Deliver 0 0)
    ∷ (event.Deliver 1 0)
    ∷ (event.Deliver 2 4)
    ∷ (event.Deliver 4 3)
    ∷ (event.Deliver 4 2)
    ∷ (event.Deliver 3 2)
    ∷ (event.Deliver 4 0)
    ∷ (event.Deliver 1 1)
    ∷ (event.Deliver 2 2)
    ∷ (event.Deliver 1 2)
    ∷ (event.Write 0 (codes "e") (codes "v0"))
    ∷ (event.Deliver 7 3)
    ∷ (event.Deliver 8 1)
    ∷ (event.Deliver 2 2)
    ∷ (event.Deliver 1 4)
    ∷ (event.Deliver 2 4)
    ∷ (event.Deliver 2 2)
    ∷ (event.Handover 2)
    ∷ (event.Deliver 11 5)
    ∷ (event.Deliver 12 0)
    ∷ event.Retry
    ∷ (event.Deliver 11 6)
    ∷ (event.Deliver 12 1)
    ∷ (event.Deliver 13 1)
    ∷ (event.Write 1 (codes "e") (codes "v1"))
    ∷ (event.Deliver 11 7)
    ∷ (event.Deliver 13 4)
    ∷ (event.Promote (codes "e"))
    ∷ (event.Deliver 21 2)
    ∷ (event.Deliver 22 2)
    ∷ (event.Demote (codes "e"))
    ∷ (event.Deliver 23 3)
    ∷ (event.Deliver 24 0)
    ∷ event.Retry
    ∷ (event.Deliver 18 0)
    ∷ (event.Handover 2)
    ∷ (event.Deliver 2 4)
    ∷ (event.Deliver 9 8)
    ∷ (event.Handover 1)
    ∷ []

run_one_recorded : record_text (rack_with One 2 2 3 1 2 1) run_one_events ≡ lines (
    codes "rack servers=2 clients=2 switches=3 listed=1 hot=2 first=1"
    ∷ codes "handover 1"
    ∷ codes "sent switch 0 x50470107000000000000000104010000000000000002"
    ∷ codes "took switch 0 0 x50470107000000000000000104010000000000000002"
    ∷ (codes "sent switch 1 x5047010c000000000000000200010033000000000000000100000000000000010" ++ codes "002000000000000000000000000000000000000000000000000000000000000000000")
    ∷ (codes "took switch 1 0 x5047010c0000000000000002000100330000000000000001000000000000000" ++ codes "10002000000000000000000000000000000000000000000000000000000000000000000")
    ∷ codes "sent controller x504701080000000000000001090000000000000002"
    ∷ codes "took controller 4 x504701080000000000000001090000000000000002"
    ∷ codes "sent client 0 x5047010d000000000000000201"
    ∷ codes "sent client 1 x5047010d000000000000000201"
    ∷ codes "took client 1 3 x5047010d000000000000000201"
    ∷ codes "took client 1 2 x5047010d000000000000000201"
    ∷ codes "took client 0 2 x5047010d000000000000000201"
    ∷ codes "took client 1 0 x5047010d000000000000000201"
    ∷ (codes "took switch 1 1 x5047010c0000000000000002000100330000000000000001000000000000000" ++ codes "10002000000000000000000000000000000000000000000000000000000000000000000")
    ∷ codes "sent controller x504701080000000000000001090000000000000002"
    ∷ codes "took controller 2 x504701080000000000000001090000000000000002"
    ∷ (codes "took switch 1 2 x5047010c0000000000000002000100330000000000000001000000000000000" ++ codes "10002000000000000000000000000000000000000000000000000000000000000000000")
    ∷ codes "sent controller x504701080000000000000001090000000000000002"
    ∷ codes "write 0 e =v0"
    ∷ codes "sent switch 1 x50470102000000000000000000010000000000000000000001650100027630"
    ∷ codes "took switch 1 3 x50470102000000000000000000010000000000000000000001650100027630"
    ∷ codes "sent server 1 x50470104000000000000000000010000000000000001010101650100027630"
    ∷ codes "took server 1 1 x50470104000000000000000000010000000000000001010101650100027630"
    ∷ codes "sent switch 1 x5047010600000000000000000001000000000000000101010165"
    ∷ codes "took controller 2 x504701080000000000000001090000000000000002"
    ∷ (codes "took switch 1 4 x5047010c0000000000000002000100330000000000000001000000000000000" ++ codes "10002000000000000000000000000000000000000000000000000000000000000000000")
    ∷ codes "sent controller x504701080000000000000001090000000000000002"
    ∷ codes "took controller 4 x504701080000000000000001090000000000000002"
    ∷ codes "took controller 2 x504701080000000000000001090000000000000002"
    ∷ codes "handover 2"
    ∷ codes "sent switch 1 x50470107000000000000000204020000000000000003"
    ∷ codes "took switch 1 5 x50470107000000000000000204020000000000000003"
    ∷ (codes "sent switch 2 x5047010c000000000000000300010033000000000000000200000000000000020" ++ codes "002000000000000000100000000000000010000000000000000000000000000000000")
    ∷ (codes "took switch 2 0 x5047010c0000000000000003000100330000000000000002000000000000000" ++ codes "20002000000000000000100000000000000010000000000000000000000000000000000")
    ∷ codes "sent controller x504701080000000000000002090000000000000003"
    ∷ codes "retry"
    ∷ codes "sent switch 1 x50470107000000000000000204020000000000000003"
    ∷ codes "took switch 1 6 x50470107000000000000000204020000000000000003"
    ∷ (codes "sent switch 2 x5047010c000000000000000300010033000000000000000200000000000000020" ++ codes "002000000000000000100000000000000010000000000000000000000000000000000")
    ∷ (codes "took switch 2 1 x5047010c0000000000000003000100330000000000000002000000000000000" ++ codes "20002000000000000000100000000000000010000000000000000000000000000000000")
    ∷ codes "sent controller x504701080000000000000002090000000000000003"
    ∷ codes "took controller 1 x504701080000000000000002090000000000000003"
    ∷ codes "sent client 0 x5047010d000000000000000302"
    ∷ codes "sent client 1 x5047010d000000000000000302"
    ∷ codes "write 1 e =v1"
    ∷ codes "sent switch 1 x50470102000100000000000000010000000000000000000001650100027631"
    ∷ codes "took switch 1 7 x50470107000000000000000204020000000000000003"
    ∷ (codes "sent switch 2 x5047010c000000000000000300010033000000000000000200000000000000020" ++ codes "002000000000000000100000000000000010000000000000000000000000000000000")
    ∷ codes "took controller 4 x504701080000000000000002090000000000000003"
    ∷ codes "promote e"
    ∷ codes "sent switch 2 x504701070000000000000003010165"
    ∷ codes "took switch 2 2 x504701070000000000000003010165"
    ∷ codes "sent controller x504701080000000000000003010000000000000003"
    ∷ codes "took controller 2 x504701080000000000000003010000000000000003"
    ∷ codes "demote e"
    ∷ codes "sent switch 2 x504701070000000000000004020165"
    ∷ codes "took switch 2 3 x504701070000000000000004020165"
    ∷ codes "sent controller x504701080000000000000004040000000000000003"
    ∷ codes "took controller 0 x504701080000000000000004040000000000000003"
    ∷ codes "retry"
    ∷ codes "sent client 0 x5047010d000000000000000302"
    ∷ codes "sent client 1 x5047010d000000000000000302"
    ∷ codes "took client 1 0 x5047010d000000000000000302"
    ∷ codes "handover 2"
    ∷ codes "took controller 4 x504701080000000000000001090000000000000002"
    ∷ codes "took switch 1 8 x5047010600000000000000000001000000000000000101010165"
    ∷ codes "handover 1"
    ∷ codes "sent switch 2 x50470107000000000000000504010000000000000004"
    ∷ codes "end"
    ∷ []
    )
unfolding
    digits servers_from servers_of spelling in_range packet_of state_bytes state_of server_step
    client_step controller_step switch_step happens order_of said_text played run_entries run_one_events
run_one_recorded = refl

-- and its audit
unfoldable pub run_one_yes_inputs : List (Input AuditEntry)
run_one_yes_inputs =
    Entry (Named (rack_with One 2 2 3 1 2 1))
    ∷ Entry (Happens (event.Handover 1))
    ∷ Entry (Sent (node.Switch 0) (hex (codes "50470107000000000000000104010000000000000002")))
    ∷ Entry (Took (node.Switch 0) 0 (hex (codes "50470107000000000000000104010000000000000002")))
    ∷ Entry (Sent (node.Switch 1) (hex (codes "5047010c00000000000000020001003300000000000000010000000000000001000200" ++ codes "0000000000000000000000000000000000000000000000000000000000000000")))
    ∷ Entry (Took (node.Switch 1) 0 (hex (codes "5047010c00000000000000020001003300000000000000010000000000000001000200" ++ codes "0000000000000000000000000000000000000000000000000000000000000000")))
    ∷ Entry (Sent node.Controller (hex (codes "504701080000000000000001090000000000000002")))
    ∷ Entry (Took node.Controller 4 (hex (codes "504701080000000000000001090000000000000002")))
    ∷ Entry (Sent (node.Client 0) (hex (codes "5047010d000000000000000201")))
    ∷ Entry (Sent (node.Client 1) (hex (codes "5047010d000000000000000201")))
    ∷ Entry (Took (node.Client 1) 3 (hex (codes "5047010d000000000000000201")))
    ∷ Entry (Took (node.Client 1) 2 (hex (codes "5047010d000000000000000201")))
    ∷ Entry (Took (node.Client 0) 2 (hex (codes "5047010d000000000000000201")))
    ∷ Entry (Took (node.Client 1) 0 (hex (codes "5047010d000000000000000201")))
    ∷ Entry (Took (node.Switch 1) 1 (hex (codes "5047010c00000000000000020001003300000000000000010000000000000001000200" ++ codes "0000000000000000000000000000000000000000000000000000000000000000")))
    ∷ Entry (Sent node.Controller (hex (codes "504701080000000000000001090000000000000002")))
    ∷ Entry (Took node.Controller 2 (hex (codes "504701080000000000000001090000000000000002")))
    ∷ Entry (Took (node.Switch 1) 2 (hex (codes "5047010c00000000000000020001003300000000000000010000000000000001000200" ++ codes "0000000000000000000000000000000000000000000000000000000000000000")))
    ∷ Entry (Sent node.Controller (hex (codes "504701080000000000000001090000000000000002")))
    ∷ Entry (Happens (event.Write 0 (codes "e") (codes "v0")))
    ∷ Entry (Sent (node.Switch 1) (hex (codes "50470102000000000000000000010000000000000000000001650100027630")))
    ∷ Entry (Took (node.Switch 1) 3 (hex (codes "50470102000000000000000000010000000000000000000001650100027630")))
    ∷ Entry (Sent (node.Server 1) (hex (codes "50470104000000000000000000010000000000000001010101650100027630")))
    ∷ Entry (Took (node.Server 1) 1 (hex (codes "50470104000000000000000000010000000000000001010101650100027630")))
    ∷ Entry (Sent (node.Switch 1) (hex (codes "5047010600000000000000000001000000000000000101010165")))
    ∷ Entry (Took node.Controller 2 (hex (codes "504701080000000000000001090000000000000002")))
    ∷ Entry (Took (node.Switch 1) 4 (hex (codes "5047010c00000000000000020001003300000000000000010000000000000001000200" ++ codes "0000000000000000000000000000000000000000000000000000000000000000")))
    ∷ Entry (Sent node.Controller (hex (codes "504701080000000000000001090000000000000002")))
    ∷ Entry (Took node.Controller 4 (hex (codes "504701080000000000000001090000000000000002")))
    ∷ Entry (Took node.Controller 2 (hex (codes "504701080000000000000001090000000000000002")))
    ∷ Entry (Happens (event.Handover 2))
    ∷ Entry (Sent (node.Switch 1) (hex (codes "50470107000000000000000204020000000000000003")))
    ∷ Entry (Took (node.Switch 1) 5 (hex (codes "50470107000000000000000204020000000000000003")))
    ∷ Entry (Sent (node.Switch 2) (hex (codes "5047010c00000000000000030001003300000000000000020000000000000002000200" ++ codes "0000000000000100000000000000010000000000000000000000000000000000")))
    ∷ Entry (Took (node.Switch 2) 0 (hex (codes "5047010c00000000000000030001003300000000000000020000000000000002000200" ++ codes "0000000000000100000000000000010000000000000000000000000000000000")))
    ∷ Entry (Sent node.Controller (hex (codes "504701080000000000000002090000000000000003")))
    ∷ Entry (Happens event.Retry)
    ∷ Entry (Sent (node.Switch 1) (hex (codes "50470107000000000000000204020000000000000003")))
    ∷ Entry (Took (node.Switch 1) 6 (hex (codes "50470107000000000000000204020000000000000003")))
    ∷ Entry (Sent (node.Switch 2) (hex (codes "5047010c00000000000000030001003300000000000000020000000000000002000200" ++ codes "0000000000000100000000000000010000000000000000000000000000000000")))
    ∷ Entry (Took (node.Switch 2) 1 (hex (codes "5047010c00000000000000030001003300000000000000020000000000000002000200" ++ codes "0000000000000100000000000000010000000000000000000000000000000000")))
    ∷ Entry (Sent node.Controller (hex (codes "504701080000000000000002090000000000000003")))
    ∷ Entry (Took node.Controller 1 (hex (codes "504701080000000000000002090000000000000003")))
    ∷ Entry (Sent (node.Client 0) (hex (codes "5047010d000000000000000302")))
    ∷ Entry (Sent (node.Client 1) (hex (codes "5047010d000000000000000302")))
    ∷ Entry (Happens (event.Write 1 (codes "e") (codes "v1")))
    ∷ Entry (Sent (node.Switch 1) (hex (codes "50470102000100000000000000010000000000000000000001650100027631")))
    ∷ Entry (Took (node.Switch 1) 7 (hex (codes "50470107000000000000000204020000000000000003")))
    ∷ Entry (Sent (node.Switch 2) (hex (codes "5047010c00000000000000030001003300000000000000020000000000000002000200" ++ codes "0000000000000100000000000000010000000000000000000000000000000000")))
    ∷ Entry (Took node.Controller 4 (hex (codes "504701080000000000000002090000000000000003")))
    ∷ Entry (Happens (event.Promote (codes "e")))
    ∷ Entry (Sent (node.Switch 2) (hex (codes "504701070000000000000003010165")))
    ∷ Entry (Took (node.Switch 2) 2 (hex (codes "504701070000000000000003010165")))
    ∷ Entry (Sent node.Controller (hex (codes "504701080000000000000003010000000000000003")))
    ∷ Entry (Took node.Controller 2 (hex (codes "504701080000000000000003010000000000000003")))
    ∷ Entry (Happens (event.Demote (codes "e")))
    ∷ Entry (Sent (node.Switch 2) (hex (codes "504701070000000000000004020165")))
    ∷ Entry (Took (node.Switch 2) 3 (hex (codes "504701070000000000000004020165")))
    ∷ Entry (Sent node.Controller (hex (codes "504701080000000000000004040000000000000003")))
    ∷ Entry (Took node.Controller 0 (hex (codes "504701080000000000000004040000000000000003")))
    ∷ Entry (Happens event.Retry)
    ∷ Entry (Sent (node.Client 0) (hex (codes "5047010d000000000000000302")))
    ∷ Entry (Sent (node.Client 1) (hex (codes "5047010d000000000000000302")))
    ∷ Entry (Took (node.Client 1) 0 (hex (codes "5047010d000000000000000302")))
    ∷ Entry (Happens (event.Handover 2))
    ∷ Entry (Took node.Controller 4 (hex (codes "504701080000000000000001090000000000000002")))
    ∷ Entry (Took (node.Switch 1) 8 (hex (codes "5047010600000000000000000001000000000000000101010165")))
    ∷ Entry (Happens (event.Handover 1))
    ∷ Entry (Sent (node.Switch 2) (hex (codes "50470107000000000000000504010000000000000004")))
    ∷ Entry Ends
    ∷ []

run_one_yes_lines : spell audit_lines run_one_yes_inputs (
    codes "rack servers=2 clients=2 switches=3 listed=1 hot=2 first=1"
    ∷ codes "handover 1"
    ∷ codes "sent switch 0 x50470107000000000000000104010000000000000002"
    ∷ codes "took switch 0 0 x50470107000000000000000104010000000000000002"
    ∷ (codes "sent switch 1 x5047010c000000000000000200010033000000000000000100000000000000010" ++ codes "002000000000000000000000000000000000000000000000000000000000000000000")
    ∷ (codes "took switch 1 0 x5047010c0000000000000002000100330000000000000001000000000000000" ++ codes "10002000000000000000000000000000000000000000000000000000000000000000000")
    ∷ codes "sent controller x504701080000000000000001090000000000000002"
    ∷ codes "took controller 4 x504701080000000000000001090000000000000002"
    ∷ codes "sent client 0 x5047010d000000000000000201"
    ∷ codes "sent client 1 x5047010d000000000000000201"
    ∷ codes "took client 1 3 x5047010d000000000000000201"
    ∷ codes "took client 1 2 x5047010d000000000000000201"
    ∷ codes "took client 0 2 x5047010d000000000000000201"
    ∷ codes "took client 1 0 x5047010d000000000000000201"
    ∷ (codes "took switch 1 1 x5047010c0000000000000002000100330000000000000001000000000000000" ++ codes "10002000000000000000000000000000000000000000000000000000000000000000000")
    ∷ codes "sent controller x504701080000000000000001090000000000000002"
    ∷ codes "took controller 2 x504701080000000000000001090000000000000002"
    ∷ (codes "took switch 1 2 x5047010c0000000000000002000100330000000000000001000000000000000" ++ codes "10002000000000000000000000000000000000000000000000000000000000000000000")
    ∷ codes "sent controller x504701080000000000000001090000000000000002"
    ∷ codes "write 0 e =v0"
    ∷ codes "sent switch 1 x50470102000000000000000000010000000000000000000001650100027630"
    ∷ codes "took switch 1 3 x50470102000000000000000000010000000000000000000001650100027630"
    ∷ codes "sent server 1 x50470104000000000000000000010000000000000001010101650100027630"
    ∷ codes "took server 1 1 x50470104000000000000000000010000000000000001010101650100027630"
    ∷ codes "sent switch 1 x5047010600000000000000000001000000000000000101010165"
    ∷ codes "took controller 2 x504701080000000000000001090000000000000002"
    ∷ (codes "took switch 1 4 x5047010c0000000000000002000100330000000000000001000000000000000" ++ codes "10002000000000000000000000000000000000000000000000000000000000000000000")
    ∷ codes "sent controller x504701080000000000000001090000000000000002"
    ∷ codes "took controller 4 x504701080000000000000001090000000000000002"
    ∷ codes "took controller 2 x504701080000000000000001090000000000000002"
    ∷ codes "handover 2"
    ∷ codes "sent switch 1 x50470107000000000000000204020000000000000003"
    ∷ codes "took switch 1 5 x50470107000000000000000204020000000000000003"
    ∷ (codes "sent switch 2 x5047010c000000000000000300010033000000000000000200000000000000020" ++ codes "002000000000000000100000000000000010000000000000000000000000000000000")
    ∷ (codes "took switch 2 0 x5047010c0000000000000003000100330000000000000002000000000000000" ++ codes "20002000000000000000100000000000000010000000000000000000000000000000000")
    ∷ codes "sent controller x504701080000000000000002090000000000000003"
    ∷ codes "retry"
    ∷ codes "sent switch 1 x50470107000000000000000204020000000000000003"
    ∷ codes "took switch 1 6 x50470107000000000000000204020000000000000003"
    ∷ (codes "sent switch 2 x5047010c000000000000000300010033000000000000000200000000000000020" ++ codes "002000000000000000100000000000000010000000000000000000000000000000000")
    ∷ (codes "took switch 2 1 x5047010c0000000000000003000100330000000000000002000000000000000" ++ codes "20002000000000000000100000000000000010000000000000000000000000000000000")
    ∷ codes "sent controller x504701080000000000000002090000000000000003"
    ∷ codes "took controller 1 x504701080000000000000002090000000000000003"
    ∷ codes "sent client 0 x5047010d000000000000000302"
    ∷ codes "sent client 1 x5047010d000000000000000302"
    ∷ codes "write 1 e =v1"
    ∷ codes "sent switch 1 x50470102000100000000000000010000000000000000000001650100027631"
    ∷ codes "took switch 1 7 x50470107000000000000000204020000000000000003"
    ∷ (codes "sent switch 2 x5047010c000000000000000300010033000000000000000200000000000000020" ++ codes "002000000000000000100000000000000010000000000000000000000000000000000")
    ∷ codes "took controller 4 x504701080000000000000002090000000000000003"
    ∷ codes "promote e"
    ∷ codes "sent switch 2 x504701070000000000000003010165"
    ∷ codes "took switch 2 2 x504701070000000000000003010165"
    ∷ codes "sent controller x504701080000000000000003010000000000000003"
    ∷ codes "took controller 2 x504701080000000000000003010000000000000003"
    ∷ codes "demote e"
    ∷ codes "sent switch 2 x504701070000000000000004020165"
    ∷ codes "took switch 2 3 x504701070000000000000004020165"
    ∷ codes "sent controller x504701080000000000000004040000000000000003"
    ∷ codes "took controller 0 x504701080000000000000004040000000000000003"
    ∷ codes "retry"
    ∷ codes "sent client 0 x5047010d000000000000000302"
    ∷ codes "sent client 1 x5047010d000000000000000302"
    ∷ codes "took client 1 0 x5047010d000000000000000302"
    ∷ codes "handover 2"
    ∷ codes "took controller 4 x504701080000000000000001090000000000000002"
    ∷ codes "took switch 1 8 x5047010600000000000000000001000000000000000101010165"
    ∷ codes "handover 1"
    ∷ codes "sent switch 2 x50470107000000000000000504010000000000000004"
    ∷ codes "end"
    ∷ []
    ) ≡ true
unfolding digits run_one_yes_inputs
run_one_yes_lines = refl

run_one_yes_plays :
    shown audits (plays audits audit_start run_one_yes_inputs)
    ≡ Some (shows true (lines (
    codes "yes 2 operations 1 keys"
    ∷ codes "history 2"
    ∷ codes "op 0 client 0 write e =v0 issued 20 open"
    ∷ codes "op 1 client 1 write e =v1 issued 46 open"
    ∷ codes "order e 0"
    ∷ codes "done"
    ∷ []
    )) [] [])
unfolding
    digits servers_from servers_of spelling in_range packet_of state_bytes state_of server_step
    client_step controller_step switch_step happens order_of said_text played run_one_yes_inputs
run_one_yes_plays = refl

-- an audit of a random run, of which a datagram that was taken is longer by a byte
unfoldable pub longer_take_inputs : List (Input AuditEntry)
longer_take_inputs =
    Entry (Named (rack_with One 2 3 1 1 1 1))
    ∷ Entry (Happens (event.Promote (codes "k")))
    ∷ Entry (Sent (node.Switch 0) (hex (codes "50470107000000000000000101016b")))
    ∷ Entry (Took (node.Switch 0) 0 (hex (codes "50470107000000000000000101016b")))
    ∷ Entry (Sent node.Controller (hex (codes "504701080000000000000001010000000000000001")))
    ∷ Entry (Took node.Controller 4 (hex (codes "504701080000000000000001010000000000000001")))
    ∷ Entry (Happens (event.Promote (codes "k")))
    ∷ Entry (Sent (node.Switch 0) (hex (codes "50470107000000000000000201016b")))
    ∷ Entry (Took (node.Switch 0) 1 (hex (codes "50470107000000000000000201016b")))
    ∷ Entry (Sent node.Controller (hex (codes "504701080000000000000002020000000000000001")))
    ∷ Entry (Took node.Controller 0 (hex (codes "504701080000000000000002020000000000000001")))
    ∷ Entry (Happens (event.Write 2 (codes "k") (codes "v0")))
    ∷ Entry (Sent (node.Switch 0) (hex (codes "504701020002000000000000000100000000000000000000016b0100027630")))
    ∷ Entry (Took (node.Switch 0) 2 (hex (codes "504701020002000000000000000100000000000000000000016b0100027630")))
    ∷ Entry (Sent (node.Server 0) (hex (codes "504701040002000000000000000100000000000000020000016b0100027630")))
    ∷ Entry (Happens (event.Promote (codes "k")))
    ∷ Entry (Sent (node.Switch 0) (hex (codes "50470107000000000000000301016b")))
    ∷ Entry (Took (node.Switch 0) 3 (hex (codes "50470107000000000000000301016b")))
    ∷ Entry (Sent node.Controller (hex (codes "504701080000000000000003020000000000000001")))
    ∷ Entry (Took node.Controller 4 (hex (codes "504701080000000000000003020000000000000001")))
    ∷ Entry (Took (node.Server 0) 0 (hex (codes "504701040002000000000000000100000000000000020000016b0100027630")))
    ∷ Entry (Sent (node.Switch 0) (hex (codes "504701060002000000000000000100000000000000020000016b")))
    ∷ Entry (Took (node.Switch 0) 4 (hex (codes "504701060002000000000000000100000000000000020000016b")))
    ∷ Entry (Sent (node.Client 2) (hex (codes "504701060002000000000000000100000000000000020000016b")))
    ∷ Entry (Took (node.Client 2) 4 (hex (codes "504701060002000000000000000100000000000000020000016b")))
    ∷ Entry (Took node.Controller 2 (hex (codes "504701080000000000000003020000000000000001")))
    ∷ Entry (Happens (event.Write 2 (codes "k") (codes "v1")))
    ∷ Entry (Sent (node.Switch 0) (hex (codes "504701020002000000000000000200000000000000000000016b0100027631")))
    ∷ Entry (Happens (event.Fence (codes "k")))
    ∷ Entry (Sent (node.Switch 0) (hex (codes "50470107000000000000000406016b")))
    ∷ Entry (Took (node.Switch 0) 5 (hex (codes "50470107000000000000000406016b")))
    ∷ Entry (Sent (node.Server 1) (hex (codes "5047011000010000000000000001016b")))
    ∷ Entry (Sent node.Controller (hex (codes "5047010800000000000000040b0000000000000001")))
    ∷ Entry (Took (node.Server 1) 1 (hex (codes "5047011000010000000000000001016b")))
    ∷ Entry (Sent (node.Switch 0) (hex (codes "5047010b010000000000000001016b")))
    ∷ Entry (Took (node.Switch 0) 6 (hex (codes "5047010b010000000000000001016b")))
    ∷ Entry (Took node.Controller 0 (hex (codes "5047010800000000000000040b0000000000000001")))
    ∷ Entry (Happens (event.Write 1 (codes "k") (codes "v2")))
    ∷ Entry (Sent (node.Switch 0) (hex (codes "504701020001000000000000000100000000000000000000016b0100027632")))
    ∷ Entry (Happens (event.Promote (codes "k")))
    ∷ Entry (Sent (node.Switch 0) (hex (codes "50470107000000000000000501016b")))
    ∷ Entry (Took (node.Switch 0) 7 (hex (codes "504701020001000000000000000100000000000000000000016b010002763200")))
    ∷ Entry (Sent (node.Server 1) (hex (codes "504701040001000000000000000100000000000000030100016b0100027632")))
    ∷ Entry (Took (node.Switch 0) 8 (hex (codes "50470107000000000000000501016b")))
    ∷ Entry (Sent node.Controller (hex (codes "504701080000000000000005020000000000000001")))
    ∷ Entry (Took node.Controller 1 (hex (codes "504701080000000000000005020000000000000001")))
    ∷ Entry (Took (node.Switch 0) 9 (hex (codes "504701020002000000000000000200000000000000000000016b0100027631")))
    ∷ Entry (Sent (node.Server 1) (hex (codes "504701040002000000000000000200000000000000040100016b0100027631")))
    ∷ Entry (Took (node.Switch 0) 10 (hex (codes "504701020001000000000000000100000000000000000000016b0100027632")))
    ∷ Entry (Sent (node.Server 0) (hex (codes "504701040001000000000000000100000000000000030000016b0100027632")))
    ∷ Entry (Happens (event.Copy (codes "k") 1))
    ∷ Entry (Sent (node.Switch 0) (hex (codes "5047010700000000000000060301016b")))
    ∷ Entry (Took (node.Switch 0) 11 (hex (codes "5047010700000000000000060301016b")))
    ∷ Entry (Sent (node.Server 0) (hex (codes "50470109000001016b")))
    ∷ Entry (Sent node.Controller (hex (codes "504701080000000000000006070000000000000000")))
    ∷ Entry (Took (node.Server 0) 0 (hex (codes "50470109000001016b")))
    ∷ Entry (Sent (node.Server 1) (hex (codes "5047010a00010000000000000002016b0100027630")))
    ∷ Entry (Took (node.Server 1) 4 (hex (codes "5047010a00010000000000000002016b0100027630")))
    ∷ Entry (Sent (node.Switch 0) (hex (codes "5047010b010000000000000002016b")))
    ∷ Entry (Took (node.Server 1) 3 (hex (codes "504701040001000000000000000100000000000000030100016b0100027632")))
    ∷ Entry (Sent (node.Switch 0) (hex (codes "504701060001000000000000000100000000000000030100016b")))
    ∷ Entry (Took (node.Switch 0) 12 (hex (codes "504701060001000000000000000100000000000000030100016b")))
    ∷ Entry (Sent (node.Client 1) (hex (codes "504701060001000000000000000100000000000000030100016b")))
    ∷ Entry (Took (node.Client 1) 3 (hex (codes "504701060001000000000000000100000000000000030100016b")))
    ∷ Entry (Took node.Controller 4 (hex (codes "504701080000000000000006070000000000000000")))
    ∷ Entry (Took (node.Switch 0) 13 (hex (codes "5047010b010000000000000002016b")))
    ∷ Entry (Took (node.Server 0) 0 (hex (codes "504701040001000000000000000100000000000000030000016b0100027632")))
    ∷ Entry (Sent (node.Switch 0) (hex (codes "504701060001000000000000000100000000000000030000016b")))
    ∷ Entry (Happens (event.Fence (codes "k")))
    ∷ Entry (Sent (node.Switch 0) (hex (codes "50470107000000000000000706016b")))
    ∷ Entry (Took (node.Switch 0) 14 (hex (codes "50470107000000000000000706016b")))
    ∷ Entry (Sent (node.Server 1) (hex (codes "5047011000010000000000000001016b")))
    ∷ Entry (Sent node.Controller (hex (codes "5047010800000000000000070b0000000000000001")))
    ∷ Entry Ends
    ∷ []

longer_take_lines : spell audit_lines longer_take_inputs (
    codes "rack servers=2 clients=3 switches=1 listed=1 hot=1 first=1"
    ∷ codes "promote k"
    ∷ codes "sent switch 0 x50470107000000000000000101016b"
    ∷ codes "took switch 0 0 x50470107000000000000000101016b"
    ∷ codes "sent controller x504701080000000000000001010000000000000001"
    ∷ codes "took controller 4 x504701080000000000000001010000000000000001"
    ∷ codes "promote k"
    ∷ codes "sent switch 0 x50470107000000000000000201016b"
    ∷ codes "took switch 0 1 x50470107000000000000000201016b"
    ∷ codes "sent controller x504701080000000000000002020000000000000001"
    ∷ codes "took controller 0 x504701080000000000000002020000000000000001"
    ∷ codes "write 2 k =v0"
    ∷ codes "sent switch 0 x504701020002000000000000000100000000000000000000016b0100027630"
    ∷ codes "took switch 0 2 x504701020002000000000000000100000000000000000000016b0100027630"
    ∷ codes "sent server 0 x504701040002000000000000000100000000000000020000016b0100027630"
    ∷ codes "promote k"
    ∷ codes "sent switch 0 x50470107000000000000000301016b"
    ∷ codes "took switch 0 3 x50470107000000000000000301016b"
    ∷ codes "sent controller x504701080000000000000003020000000000000001"
    ∷ codes "took controller 4 x504701080000000000000003020000000000000001"
    ∷ codes "took server 0 0 x504701040002000000000000000100000000000000020000016b0100027630"
    ∷ codes "sent switch 0 x504701060002000000000000000100000000000000020000016b"
    ∷ codes "took switch 0 4 x504701060002000000000000000100000000000000020000016b"
    ∷ codes "sent client 2 x504701060002000000000000000100000000000000020000016b"
    ∷ codes "took client 2 4 x504701060002000000000000000100000000000000020000016b"
    ∷ codes "took controller 2 x504701080000000000000003020000000000000001"
    ∷ codes "write 2 k =v1"
    ∷ codes "sent switch 0 x504701020002000000000000000200000000000000000000016b0100027631"
    ∷ codes "fence k"
    ∷ codes "sent switch 0 x50470107000000000000000406016b"
    ∷ codes "took switch 0 5 x50470107000000000000000406016b"
    ∷ codes "sent server 1 x5047011000010000000000000001016b"
    ∷ codes "sent controller x5047010800000000000000040b0000000000000001"
    ∷ codes "took server 1 1 x5047011000010000000000000001016b"
    ∷ codes "sent switch 0 x5047010b010000000000000001016b"
    ∷ codes "took switch 0 6 x5047010b010000000000000001016b"
    ∷ codes "took controller 0 x5047010800000000000000040b0000000000000001"
    ∷ codes "write 1 k =v2"
    ∷ codes "sent switch 0 x504701020001000000000000000100000000000000000000016b0100027632"
    ∷ codes "promote k"
    ∷ codes "sent switch 0 x50470107000000000000000501016b"
    ∷ codes "took switch 0 7 x504701020001000000000000000100000000000000000000016b010002763200"
    ∷ codes "sent server 1 x504701040001000000000000000100000000000000030100016b0100027632"
    ∷ codes "took switch 0 8 x50470107000000000000000501016b"
    ∷ codes "sent controller x504701080000000000000005020000000000000001"
    ∷ codes "took controller 1 x504701080000000000000005020000000000000001"
    ∷ codes "took switch 0 9 x504701020002000000000000000200000000000000000000016b0100027631"
    ∷ codes "sent server 1 x504701040002000000000000000200000000000000040100016b0100027631"
    ∷ codes "took switch 0 10 x504701020001000000000000000100000000000000000000016b0100027632"
    ∷ codes "sent server 0 x504701040001000000000000000100000000000000030000016b0100027632"
    ∷ codes "copy k 1"
    ∷ codes "sent switch 0 x5047010700000000000000060301016b"
    ∷ codes "took switch 0 11 x5047010700000000000000060301016b"
    ∷ codes "sent server 0 x50470109000001016b"
    ∷ codes "sent controller x504701080000000000000006070000000000000000"
    ∷ codes "took server 0 0 x50470109000001016b"
    ∷ codes "sent server 1 x5047010a00010000000000000002016b0100027630"
    ∷ codes "took server 1 4 x5047010a00010000000000000002016b0100027630"
    ∷ codes "sent switch 0 x5047010b010000000000000002016b"
    ∷ codes "took server 1 3 x504701040001000000000000000100000000000000030100016b0100027632"
    ∷ codes "sent switch 0 x504701060001000000000000000100000000000000030100016b"
    ∷ codes "took switch 0 12 x504701060001000000000000000100000000000000030100016b"
    ∷ codes "sent client 1 x504701060001000000000000000100000000000000030100016b"
    ∷ codes "took client 1 3 x504701060001000000000000000100000000000000030100016b"
    ∷ codes "took controller 4 x504701080000000000000006070000000000000000"
    ∷ codes "took switch 0 13 x5047010b010000000000000002016b"
    ∷ codes "took server 0 0 x504701040001000000000000000100000000000000030000016b0100027632"
    ∷ codes "sent switch 0 x504701060001000000000000000100000000000000030000016b"
    ∷ codes "fence k"
    ∷ codes "sent switch 0 x50470107000000000000000706016b"
    ∷ codes "took switch 0 14 x50470107000000000000000706016b"
    ∷ codes "sent server 1 x5047011000010000000000000001016b"
    ∷ codes "sent controller x5047010800000000000000070b0000000000000001"
    ∷ codes "end"
    ∷ []
    ) ≡ true
unfolding digits longer_take_inputs
longer_take_lines = refl

longer_take_plays :
    shown audits (plays audits audit_start longer_take_inputs)
    ≡ Some (shows true (lines (
    codes "no foreign 42"
    ∷ []
    )) [] [])
unfolding
    digits servers_from servers_of spelling in_range packet_of state_bytes state_of server_step
    client_step controller_step switch_step happens order_of said_text played longer_take_inputs
longer_take_plays = refl

-- an audit of a random run, of which a line that says what was sent is left out
unfoldable pub sent_left_out_inputs : List (Input AuditEntry)
sent_left_out_inputs =
    Entry (Named (rack_with One 3 2 2 2 1 1))
    ∷ Entry (Happens (event.Read 0 (codes "a")))
    ∷ Entry (Sent (node.Switch 0) (hex (codes "5047010100000000000000000001000000000000000000000161")))
    ∷ Entry (Took (node.Switch 0) 0 (hex (codes "5047010100000000000000000001000000000000000000000161")))
    ∷ Entry (Sent (node.Server 1) (hex (codes "5047010300000000000000000001000000000000000001000161")))
    ∷ Entry (Took (node.Switch 0) 1 (hex (codes "5047010100000000000000000001000000000000000000000161")))
    ∷ Entry (Sent (node.Server 1) (hex (codes "5047010300000000000000000001000000000000000001000161")))
    ∷ Entry (Took (node.Server 1) 0 (hex (codes "5047010300000000000000000001000000000000000001000161")))
    ∷ Entry (Sent (node.Switch 0) (hex (codes "504701050000000000000000000100000000000000000100016100")))
    ∷ Entry (Took (node.Switch 0) 2 (hex (codes "504701050000000000000000000100000000000000000100016100")))
    ∷ Entry (Sent (node.Client 0) (hex (codes "504701050000000000000000000100000000000000000100016100")))
    ∷ Entry (Took (node.Client 0) 2 (hex (codes "504701050000000000000000000100000000000000000100016100")))
    ∷ Entry (Took (node.Server 1) 2 (hex (codes "5047010300000000000000000001000000000000000001000161")))
    ∷ Entry (Sent (node.Switch 0) (hex (codes "504701050000000000000000000100000000000000000100016100")))
    ∷ Entry (Happens event.Retry)
    ∷ Entry (Sent (node.Client 0) (hex (codes "5047010d000000000000000100")))
    ∷ Entry (Sent (node.Client 1) (hex (codes "5047010d000000000000000100")))
    ∷ Entry (Happens (event.Read 1 (codes "a")))
    ∷ Entry (Sent (node.Switch 0) (hex (codes "5047010100010000000000000001000000000000000000000161")))
    ∷ Entry (Took (node.Switch 0) 3 (hex (codes "504701050000000000000000000100000000000000000100016100")))
    ∷ Entry (Sent (node.Client 0) (hex (codes "504701050000000000000000000100000000000000000100016100")))
    ∷ Entry (Took (node.Client 0) 3 (hex (codes "5047010d000000000000000100")))
    ∷ Entry (Took (node.Client 0) 2 (hex (codes "504701050000000000000000000100000000000000000100016100")))
    ∷ Entry (Took (node.Client 0) 2 (hex (codes "504701050000000000000000000100000000000000000100016100")))
    ∷ Entry (Happens event.Clear)
    ∷ Entry (Sent (node.Switch 0) (hex (codes "50470107000000000000000105")))
    ∷ Entry (Happens (event.Write 0 (codes "a") (codes "v2")))
    ∷ Entry (Sent (node.Switch 0) (hex (codes "50470102000000000000000000020000000000000000000001610100027632")))
    ∷ Entry (Took (node.Switch 0) 4 (hex (codes "50470102000000000000000000020000000000000000000001610100027632")))
    ∷ Entry (Sent (node.Server 1) (hex (codes "50470104000000000000000000020000000000000001010001610100027632")))
    ∷ Entry (Took (node.Server 1) 5 (hex (codes "50470104000000000000000000020000000000000001010001610100027632")))
    ∷ Entry (Sent (node.Switch 0) (hex (codes "5047010600000000000000000002000000000000000101000161")))
    ∷ Entry (Took (node.Client 1) 3 (hex (codes "5047010d000000000000000100")))
    ∷ Entry (Happens (event.Resend 1))
    ∷ Entry (Sent (node.Switch 0) (hex (codes "5047010100010000000000000001000000000000000000000161")))
    ∷ Entry (Took (node.Switch 0) 5 (hex (codes "5047010600000000000000000002000000000000000101000161")))
    ∷ Entry (Sent (node.Client 0) (hex (codes "5047010600000000000000000002000000000000000101000161")))
    ∷ Entry (Took (node.Switch 0) 6 (hex (codes "504701050000000000000000000100000000000000000100016100")))
    ∷ Entry (Sent (node.Client 0) (hex (codes "504701050000000000000000000100000000000000000100016100")))
    ∷ Entry (Took (node.Client 0) 5 (hex (codes "504701050000000000000000000100000000000000000100016100")))
    ∷ Entry (Happens (event.Resend 1))
    ∷ Entry (Took (node.Switch 0) 7 (hex (codes "50470102000000000000000000020000000000000000000001610100027632")))
    ∷ Entry (Sent (node.Server 1) (hex (codes "50470104000000000000000000020000000000000001010001610100027632")))
    ∷ Entry (Took (node.Switch 0) 8 (hex (codes "5047010100010000000000000001000000000000000000000161")))
    ∷ Entry (Sent (node.Server 1) (hex (codes "5047010300010000000000000001000000000000000001000161")))
    ∷ Entry (Happens (event.Resend 1))
    ∷ Entry (Sent (node.Switch 0) (hex (codes "5047010100010000000000000001000000000000000000000161")))
    ∷ Entry (Took (node.Switch 0) 9 (hex (codes "5047010100010000000000000001000000000000000000000161")))
    ∷ Entry (Sent (node.Server 1) (hex (codes "5047010300010000000000000001000000000000000001000161")))
    ∷ Entry (Took (node.Switch 0) 10 (hex (codes "5047010100010000000000000001000000000000000000000161")))
    ∷ Entry (Sent (node.Server 1) (hex (codes "5047010300010000000000000001000000000000000001000161")))
    ∷ Entry (Happens (event.Resend 0))
    ∷ Entry (Sent (node.Switch 0) (hex (codes "50470102000000000000000000020000000000000000000001610100027632")))
    ∷ Entry (Took (node.Server 1) 3 (hex (codes "5047010300010000000000000001000000000000000001000161")))
    ∷ Entry (Sent (node.Switch 0) (hex (codes "50470105000100000000000000010000000000000001010001610100027632")))
    ∷ Entry (Took (node.Switch 0) 11 (hex (codes "50470105000100000000000000010000000000000001010001610100027632")))
    ∷ Entry (Sent (node.Client 1) (hex (codes "50470105000100000000000000010000000000000001010001610100027632")))
    ∷ Entry (Took (node.Switch 0) 12 (hex (codes "50470102000000000000000000020000000000000000000001610100027632")))
    ∷ Entry (Sent (node.Server 1) (hex (codes "50470104000000000000000000020000000000000001010001610100027632")))
    ∷ Entry (Took (node.Server 1) 4 (hex (codes "50470104000000000000000000020000000000000001010001610100027632")))
    ∷ Entry (Sent (node.Switch 0) (hex (codes "5047010600000000000000000002000000000000000101000161")))
    ∷ Entry (Took (node.Switch 0) 13 (hex (codes "5047010600000000000000000002000000000000000101000161")))
    ∷ Entry (Sent (node.Client 0) (hex (codes "5047010600000000000000000002000000000000000101000161")))
    ∷ Entry (Took (node.Server 1) 3 (hex (codes "5047010300010000000000000001000000000000000001000161")))
    ∷ Entry (Sent (node.Switch 0) (hex (codes "50470105000100000000000000010000000000000001010001610100027632")))
    ∷ Entry (Took (node.Client 0) 5 (hex (codes "5047010600000000000000000002000000000000000101000161")))
    ∷ Entry (Took (node.Client 1) 3 (hex (codes "50470105000100000000000000010000000000000001010001610100027632")))
    ∷ Entry (Took (node.Server 1) 3 (hex (codes "5047010300010000000000000001000000000000000001000161")))
    ∷ Entry (Sent (node.Switch 0) (hex (codes "50470105000100000000000000010000000000000001010001610100027632")))
    ∷ Entry (Took (node.Switch 0) 14 (hex (codes "50470105000100000000000000010000000000000001010001610100027632")))
    ∷ Entry (Sent (node.Client 1) (hex (codes "50470105000100000000000000010000000000000001010001610100027632")))
    ∷ Entry (Took (node.Server 1) 2 (hex (codes "5047010300000000000000000001000000000000000001000161")))
    ∷ Entry (Sent (node.Switch 0) (hex (codes "50470105000000000000000000010000000000000001010001610100027632")))
    ∷ Entry Ends
    ∷ []

sent_left_out_lines : spell audit_lines sent_left_out_inputs (
    codes "rack servers=3 clients=2 switches=2 listed=2 hot=1 first=1"
    ∷ codes "read 0 a"
    ∷ codes "sent switch 0 x5047010100000000000000000001000000000000000000000161"
    ∷ codes "took switch 0 0 x5047010100000000000000000001000000000000000000000161"
    ∷ codes "sent server 1 x5047010300000000000000000001000000000000000001000161"
    ∷ codes "took switch 0 1 x5047010100000000000000000001000000000000000000000161"
    ∷ codes "sent server 1 x5047010300000000000000000001000000000000000001000161"
    ∷ codes "took server 1 0 x5047010300000000000000000001000000000000000001000161"
    ∷ codes "sent switch 0 x504701050000000000000000000100000000000000000100016100"
    ∷ codes "took switch 0 2 x504701050000000000000000000100000000000000000100016100"
    ∷ codes "sent client 0 x504701050000000000000000000100000000000000000100016100"
    ∷ codes "took client 0 2 x504701050000000000000000000100000000000000000100016100"
    ∷ codes "took server 1 2 x5047010300000000000000000001000000000000000001000161"
    ∷ codes "sent switch 0 x504701050000000000000000000100000000000000000100016100"
    ∷ codes "retry"
    ∷ codes "sent client 0 x5047010d000000000000000100"
    ∷ codes "sent client 1 x5047010d000000000000000100"
    ∷ codes "read 1 a"
    ∷ codes "sent switch 0 x5047010100010000000000000001000000000000000000000161"
    ∷ codes "took switch 0 3 x504701050000000000000000000100000000000000000100016100"
    ∷ codes "sent client 0 x504701050000000000000000000100000000000000000100016100"
    ∷ codes "took client 0 3 x5047010d000000000000000100"
    ∷ codes "took client 0 2 x504701050000000000000000000100000000000000000100016100"
    ∷ codes "took client 0 2 x504701050000000000000000000100000000000000000100016100"
    ∷ codes "clear"
    ∷ codes "sent switch 0 x50470107000000000000000105"
    ∷ codes "write 0 a =v2"
    ∷ codes "sent switch 0 x50470102000000000000000000020000000000000000000001610100027632"
    ∷ codes "took switch 0 4 x50470102000000000000000000020000000000000000000001610100027632"
    ∷ codes "sent server 1 x50470104000000000000000000020000000000000001010001610100027632"
    ∷ codes "took server 1 5 x50470104000000000000000000020000000000000001010001610100027632"
    ∷ codes "sent switch 0 x5047010600000000000000000002000000000000000101000161"
    ∷ codes "took client 1 3 x5047010d000000000000000100"
    ∷ codes "resend 1"
    ∷ codes "sent switch 0 x5047010100010000000000000001000000000000000000000161"
    ∷ codes "took switch 0 5 x5047010600000000000000000002000000000000000101000161"
    ∷ codes "sent client 0 x5047010600000000000000000002000000000000000101000161"
    ∷ codes "took switch 0 6 x504701050000000000000000000100000000000000000100016100"
    ∷ codes "sent client 0 x504701050000000000000000000100000000000000000100016100"
    ∷ codes "took client 0 5 x504701050000000000000000000100000000000000000100016100"
    ∷ codes "resend 1"
    ∷ codes "took switch 0 7 x50470102000000000000000000020000000000000000000001610100027632"
    ∷ codes "sent server 1 x50470104000000000000000000020000000000000001010001610100027632"
    ∷ codes "took switch 0 8 x5047010100010000000000000001000000000000000000000161"
    ∷ codes "sent server 1 x5047010300010000000000000001000000000000000001000161"
    ∷ codes "resend 1"
    ∷ codes "sent switch 0 x5047010100010000000000000001000000000000000000000161"
    ∷ codes "took switch 0 9 x5047010100010000000000000001000000000000000000000161"
    ∷ codes "sent server 1 x5047010300010000000000000001000000000000000001000161"
    ∷ codes "took switch 0 10 x5047010100010000000000000001000000000000000000000161"
    ∷ codes "sent server 1 x5047010300010000000000000001000000000000000001000161"
    ∷ codes "resend 0"
    ∷ codes "sent switch 0 x50470102000000000000000000020000000000000000000001610100027632"
    ∷ codes "took server 1 3 x5047010300010000000000000001000000000000000001000161"
    ∷ codes "sent switch 0 x50470105000100000000000000010000000000000001010001610100027632"
    ∷ codes "took switch 0 11 x50470105000100000000000000010000000000000001010001610100027632"
    ∷ codes "sent client 1 x50470105000100000000000000010000000000000001010001610100027632"
    ∷ codes "took switch 0 12 x50470102000000000000000000020000000000000000000001610100027632"
    ∷ codes "sent server 1 x50470104000000000000000000020000000000000001010001610100027632"
    ∷ codes "took server 1 4 x50470104000000000000000000020000000000000001010001610100027632"
    ∷ codes "sent switch 0 x5047010600000000000000000002000000000000000101000161"
    ∷ codes "took switch 0 13 x5047010600000000000000000002000000000000000101000161"
    ∷ codes "sent client 0 x5047010600000000000000000002000000000000000101000161"
    ∷ codes "took server 1 3 x5047010300010000000000000001000000000000000001000161"
    ∷ codes "sent switch 0 x50470105000100000000000000010000000000000001010001610100027632"
    ∷ codes "took client 0 5 x5047010600000000000000000002000000000000000101000161"
    ∷ codes "took client 1 3 x50470105000100000000000000010000000000000001010001610100027632"
    ∷ codes "took server 1 3 x5047010300010000000000000001000000000000000001000161"
    ∷ codes "sent switch 0 x50470105000100000000000000010000000000000001010001610100027632"
    ∷ codes "took switch 0 14 x50470105000100000000000000010000000000000001010001610100027632"
    ∷ codes "sent client 1 x50470105000100000000000000010000000000000001010001610100027632"
    ∷ codes "took server 1 2 x5047010300000000000000000001000000000000000001000161"
    ∷ codes "sent switch 0 x50470105000000000000000000010000000000000001010001610100027632"
    ∷ codes "end"
    ∷ []
    ) ≡ true
unfolding digits sent_left_out_inputs
sent_left_out_lines = refl

sent_left_out_plays :
    shown audits (plays audits audit_start sent_left_out_inputs)
    ≡ Some (shows true (lines (
    codes "no other 41"
    ∷ []
    )) [] [])
unfolding
    digits servers_from servers_of spelling in_range packet_of state_bytes state_of server_step
    client_step controller_step switch_step happens order_of said_text played sent_left_out_inputs
sent_left_out_plays = refl

-- an audit of a random run, of which a line that says what was sent stands twice
unfoldable pub sent_twice_inputs : List (Input AuditEntry)
sent_twice_inputs =
    Entry (Named (rack_with One 2 3 1 1 1 1))
    ∷ Entry (Happens (event.Copy (codes "e") 1))
    ∷ Entry (Sent (node.Switch 0) (hex (codes "50470107000000000000000103010165")))
    ∷ Entry (Took (node.Switch 0) 0 (hex (codes "50470107000000000000000103010165")))
    ∷ Entry (Sent node.Controller (hex (codes "504701080000000000000001050000000000000000")))
    ∷ Entry (Took node.Controller 1 (hex (codes "504701080000000000000001050000000000000000")))
    ∷ Entry (Took node.Controller 2 (hex (codes "504701080000000000000001050000000000000000")))
    ∷ Entry (Happens (event.Fence (codes "e")))
    ∷ Entry (Sent (node.Switch 0) (hex (codes "504701070000000000000002060165")))
    ∷ Entry (Took (node.Switch 0) 1 (hex (codes "504701070000000000000002060165")))
    ∷ Entry (Sent node.Controller (hex (codes "504701080000000000000002050000000000000000")))
    ∷ Entry (Took node.Controller 2 (hex (codes "504701080000000000000002050000000000000000")))
    ∷ Entry (Took node.Controller 2 (hex (codes "504701080000000000000002050000000000000000")))
    ∷ Entry (Happens (event.Write 0 (codes "e") (codes "v0")))
    ∷ Entry (Sent (node.Switch 0) (hex (codes "50470102000000000000000000010000000000000000000001650100027630")))
    ∷ Entry (Took (node.Switch 0) 2 (hex (codes "50470102000000000000000000010000000000000000000001650100027630")))
    ∷ Entry (Sent (node.Server 1) (hex (codes "50470104000000000000000000010000000000000001010001650100027630")))
    ∷ Entry (Happens (event.Promote (codes "e")))
    ∷ Entry (Sent (node.Switch 0) (hex (codes "504701070000000000000003010165")))
    ∷ Entry (Took (node.Switch 0) 3 (hex (codes "504701070000000000000003010165")))
    ∷ Entry (Sent node.Controller (hex (codes "504701080000000000000003010000000000000003")))
    ∷ Entry (Took node.Controller 0 (hex (codes "504701080000000000000003010000000000000003")))
    ∷ Entry (Took (node.Server 1) 2 (hex (codes "50470104000000000000000000010000000000000001010001650100027630")))
    ∷ Entry (Sent (node.Switch 0) (hex (codes "5047010600000000000000000001000000000000000101000165")))
    ∷ Entry (Took (node.Switch 0) 4 (hex (codes "5047010600000000000000000001000000000000000101000165")))
    ∷ Entry (Sent (node.Client 0) (hex (codes "5047010600000000000000000001000000000000000101000165")))
    ∷ Entry (Happens (event.Promote (codes "e")))
    ∷ Entry (Sent (node.Switch 0) (hex (codes "504701070000000000000004010165")))
    ∷ Entry (Happens (event.Write 1 (codes "e") (codes "v1")))
    ∷ Entry (Sent (node.Switch 0) (hex (codes "50470102000100000000000000010000000000000000000001650100027631")))
    ∷ Entry (Took (node.Switch 0) 5 (hex (codes "50470102000100000000000000010000000000000000000001650100027631")))
    ∷ Entry (Sent (node.Server 1) (hex (codes "50470104000100000000000000010000000000000003010001650100027631")))
    ∷ Entry (Sent (node.Server 1) (hex (codes "50470104000100000000000000010000000000000003010001650100027631")))
    ∷ Entry (Took (node.Switch 0) 6 (hex (codes "504701070000000000000004010165")))
    ∷ Entry (Sent node.Controller (hex (codes "504701080000000000000004020000000000000003")))
    ∷ Entry (Took node.Controller 5 (hex (codes "504701080000000000000004020000000000000003")))
    ∷ Entry (Took (node.Server 1) 0 (hex (codes "50470104000100000000000000010000000000000003010001650100027631")))
    ∷ Entry (Sent (node.Switch 0) (hex (codes "5047010600010000000000000001000000000000000301000165")))
    ∷ Entry (Took node.Controller 4 (hex (codes "504701080000000000000003010000000000000003")))
    ∷ Entry (Happens (event.Write 0 (codes "e") (codes "v2")))
    ∷ Entry (Took node.Controller 1 (hex (codes "504701080000000000000003010000000000000003")))
    ∷ Entry (Happens (event.Promote (codes "e")))
    ∷ Entry (Sent (node.Switch 0) (hex (codes "504701070000000000000005010165")))
    ∷ Entry (Took (node.Switch 0) 7 (hex (codes "504701070000000000000005010165")))
    ∷ Entry (Sent node.Controller (hex (codes "504701080000000000000005020000000000000003")))
    ∷ Entry (Took node.Controller 3 (hex (codes "504701080000000000000005020000000000000003")))
    ∷ Entry (Took (node.Client 0) 0 (hex (codes "5047010600000000000000000001000000000000000101000165")))
    ∷ Entry (Took (node.Switch 0) 8 (hex (codes "5047010600010000000000000001000000000000000301000165")))
    ∷ Entry (Sent (node.Client 1) (hex (codes "5047010600010000000000000001000000000000000301000165")))
    ∷ Entry (Happens (event.Demote (codes "e")))
    ∷ Entry (Sent (node.Switch 0) (hex (codes "504701070000000000000006020165")))
    ∷ Entry (Took (node.Client 1) 4 (hex (codes "5047010600010000000000000001000000000000000301000165")))
    ∷ Entry (Took (node.Switch 0) 9 (hex (codes "504701070000000000000006020165")))
    ∷ Entry (Sent node.Controller (hex (codes "504701080000000000000006040000000000000004")))
    ∷ Entry (Took node.Controller 5 (hex (codes "504701080000000000000006040000000000000004")))
    ∷ Entry (Happens (event.Write 1 (codes "e") (codes "v2")))
    ∷ Entry (Sent (node.Switch 0) (hex (codes "50470102000100000000000000020000000000000000000001650100027632")))
    ∷ Entry (Took (node.Switch 0) 10 (hex (codes "50470107000000000000000103010165")))
    ∷ Entry (Took (node.Switch 0) 11 (hex (codes "50470102000100000000000000020000000000000000000001650100027632")))
    ∷ Entry (Sent (node.Server 1) (hex (codes "50470104000100000000000000020000000000000004010001650100027632")))
    ∷ Entry (Took (node.Switch 0) 12 (hex (codes "504701070000000000000004010165")))
    ∷ Entry (Took (node.Switch 0) 13 (hex (codes "504701070000000000000004010165")))
    ∷ Entry (Took (node.Server 1) 5 (hex (codes "50470104000100000000000000020000000000000004010001650100027632")))
    ∷ Entry (Sent (node.Switch 0) (hex (codes "5047010600010000000000000002000000000000000401000165")))
    ∷ Entry (Took (node.Switch 0) 14 (hex (codes "5047010600010000000000000002000000000000000401000165")))
    ∷ Entry (Sent (node.Client 1) (hex (codes "5047010600010000000000000002000000000000000401000165")))
    ∷ Entry Ends
    ∷ []

sent_twice_lines : spell audit_lines sent_twice_inputs (
    codes "rack servers=2 clients=3 switches=1 listed=1 hot=1 first=1"
    ∷ codes "copy e 1"
    ∷ codes "sent switch 0 x50470107000000000000000103010165"
    ∷ codes "took switch 0 0 x50470107000000000000000103010165"
    ∷ codes "sent controller x504701080000000000000001050000000000000000"
    ∷ codes "took controller 1 x504701080000000000000001050000000000000000"
    ∷ codes "took controller 2 x504701080000000000000001050000000000000000"
    ∷ codes "fence e"
    ∷ codes "sent switch 0 x504701070000000000000002060165"
    ∷ codes "took switch 0 1 x504701070000000000000002060165"
    ∷ codes "sent controller x504701080000000000000002050000000000000000"
    ∷ codes "took controller 2 x504701080000000000000002050000000000000000"
    ∷ codes "took controller 2 x504701080000000000000002050000000000000000"
    ∷ codes "write 0 e =v0"
    ∷ codes "sent switch 0 x50470102000000000000000000010000000000000000000001650100027630"
    ∷ codes "took switch 0 2 x50470102000000000000000000010000000000000000000001650100027630"
    ∷ codes "sent server 1 x50470104000000000000000000010000000000000001010001650100027630"
    ∷ codes "promote e"
    ∷ codes "sent switch 0 x504701070000000000000003010165"
    ∷ codes "took switch 0 3 x504701070000000000000003010165"
    ∷ codes "sent controller x504701080000000000000003010000000000000003"
    ∷ codes "took controller 0 x504701080000000000000003010000000000000003"
    ∷ codes "took server 1 2 x50470104000000000000000000010000000000000001010001650100027630"
    ∷ codes "sent switch 0 x5047010600000000000000000001000000000000000101000165"
    ∷ codes "took switch 0 4 x5047010600000000000000000001000000000000000101000165"
    ∷ codes "sent client 0 x5047010600000000000000000001000000000000000101000165"
    ∷ codes "promote e"
    ∷ codes "sent switch 0 x504701070000000000000004010165"
    ∷ codes "write 1 e =v1"
    ∷ codes "sent switch 0 x50470102000100000000000000010000000000000000000001650100027631"
    ∷ codes "took switch 0 5 x50470102000100000000000000010000000000000000000001650100027631"
    ∷ codes "sent server 1 x50470104000100000000000000010000000000000003010001650100027631"
    ∷ codes "sent server 1 x50470104000100000000000000010000000000000003010001650100027631"
    ∷ codes "took switch 0 6 x504701070000000000000004010165"
    ∷ codes "sent controller x504701080000000000000004020000000000000003"
    ∷ codes "took controller 5 x504701080000000000000004020000000000000003"
    ∷ codes "took server 1 0 x50470104000100000000000000010000000000000003010001650100027631"
    ∷ codes "sent switch 0 x5047010600010000000000000001000000000000000301000165"
    ∷ codes "took controller 4 x504701080000000000000003010000000000000003"
    ∷ codes "write 0 e =v2"
    ∷ codes "took controller 1 x504701080000000000000003010000000000000003"
    ∷ codes "promote e"
    ∷ codes "sent switch 0 x504701070000000000000005010165"
    ∷ codes "took switch 0 7 x504701070000000000000005010165"
    ∷ codes "sent controller x504701080000000000000005020000000000000003"
    ∷ codes "took controller 3 x504701080000000000000005020000000000000003"
    ∷ codes "took client 0 0 x5047010600000000000000000001000000000000000101000165"
    ∷ codes "took switch 0 8 x5047010600010000000000000001000000000000000301000165"
    ∷ codes "sent client 1 x5047010600010000000000000001000000000000000301000165"
    ∷ codes "demote e"
    ∷ codes "sent switch 0 x504701070000000000000006020165"
    ∷ codes "took client 1 4 x5047010600010000000000000001000000000000000301000165"
    ∷ codes "took switch 0 9 x504701070000000000000006020165"
    ∷ codes "sent controller x504701080000000000000006040000000000000004"
    ∷ codes "took controller 5 x504701080000000000000006040000000000000004"
    ∷ codes "write 1 e =v2"
    ∷ codes "sent switch 0 x50470102000100000000000000020000000000000000000001650100027632"
    ∷ codes "took switch 0 10 x50470107000000000000000103010165"
    ∷ codes "took switch 0 11 x50470102000100000000000000020000000000000000000001650100027632"
    ∷ codes "sent server 1 x50470104000100000000000000020000000000000004010001650100027632"
    ∷ codes "took switch 0 12 x504701070000000000000004010165"
    ∷ codes "took switch 0 13 x504701070000000000000004010165"
    ∷ codes "took server 1 5 x50470104000100000000000000020000000000000004010001650100027632"
    ∷ codes "sent switch 0 x5047010600010000000000000002000000000000000401000165"
    ∷ codes "took switch 0 14 x5047010600010000000000000002000000000000000401000165"
    ∷ codes "sent client 1 x5047010600010000000000000002000000000000000401000165"
    ∷ codes "end"
    ∷ []
    ) ≡ true
unfolding digits sent_twice_inputs
sent_twice_lines = refl

sent_twice_plays :
    shown audits (plays audits audit_start sent_twice_inputs)
    ≡ Some (shows true (lines (
    codes "no other 31"
    ∷ []
    )) [] [])
unfolding
    digits servers_from servers_of spelling in_range packet_of state_bytes state_of server_step
    client_step controller_step switch_step happens order_of said_text played sent_twice_inputs
sent_twice_plays = refl
