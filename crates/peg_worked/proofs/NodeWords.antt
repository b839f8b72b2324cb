-- Words that run one node, over a wire whose turns are written out. An independent model gave what
-- each writes and sends.
use Rattle.std.specs.Prelude.{◌≡◌, true, false, Some, List, [], ◌∷◌, ◌++◌, refl, codes, replicate}
use Rattle.std.specs.Fmt.{digits}
use Rattle.peg_name.specs.Holders.{servers_from, servers_of}
use Rattle.peg_name.specs.declared.Format.TheVariants.{One, Two}
use Rattle.peg_name.specs.declared.value.Content.TheVariants.{Absent, Present}
use Rattle.peg_event.specs.declared.Command.TheVariants as command
use Rattle.peg_event.specs.declared.answers.Ask.TheVariants as ask
use Rattle.peg_model.specs.Packet.{in_range, spelling}
use Rattle.peg_model.specs.Reading.{packet_of}
use Rattle.peg_model.specs.Handover.{state_bytes, state_of}
use Rattle.peg_model.specs.Server.{server_step}
use Rattle.peg_model.specs.Client.{client_step}
use Rattle.peg_model.specs.Controller.{controller_step}
use Rattle.peg_model.specs.Switch.{switch_step}
use Rattle.peg_model.specs.World.{happens}
use Rattle.peg_model.specs.Order.{order_of}
use Rattle.peg_model.specs.Trace.{said_text}
use Rattle.peg_meaning.specs.Session.{Input, Entry, Quiet, Tick}
use Rattle.peg_meaning.specs.Played.{played, plays}
use Rattle.peg_model.proofs.Computed.{rack_with, lines}
use Rattle.peg_worked.proofs.Sessions.{carries, sent, shows, shown, spell}
use Rattle.peg_model.specs.Schedule.{event_lines}
use Rattle.peg_meaning.specs.Roles.{switch_word, server_word, switch_start, server_start, Asked}
use Rattle.peg_meaning.specs.Roles.{ask_line, ask_start, asks, Call, Orders, Retries, Surveys}
use Rattle.peg_meaning.specs.Roles.{Plans, call_event, control_start, controls}

-- a switch forwards a write
unfoldable pub forwarded_inputs : List (Input ⊥)
forwarded_inputs =
    carries (codes "504701020000000000000000000100000000000000000000016b01000178")
    ∷ Quiet
    ∷ Tick
    ∷ []

forwarded_plays :
    shown switch_word (plays switch_word (switch_start 7000 (rack_with One 1 1 1 1 1 1) 0 2) forwarded_inputs)
    ≡ Some (shows true (lines (
    codes "datagrams 1"
    ∷ []
    )) (7001 ∷ []) (
    sent 1 0 7008 (codes "504701040000000000000000000100000000000000010000016b01000178")
    ∷ []
    ))
unfolding
    digits servers_from servers_of spelling in_range packet_of state_bytes state_of server_step
    client_step controller_step switch_step happens order_of said_text played forwarded_inputs
forwarded_plays = refl

-- a write is answered and a read is not
unfoldable pub asked_inputs : List (Input Asked)
asked_inputs =
    Entry ((codes "k"), (ask.Write (Present (codes "x"))))
    ∷ carries (codes "504701060000000000000000000100000000000000010000016b")
    ∷ Entry ((codes "k"), ask.Read)
    ∷ Quiet
    ∷ Tick
    ∷ Quiet
    ∷ Tick
    ∷ []

asked_lines : spell (λ asked. ask_line asked ∷ []) asked_inputs (
    codes "write k =x"
    ∷ codes "read k"
    ∷ []
    ) ≡ true
unfolding digits asked_inputs
asked_lines = refl

asked_plays :
    shown asks (plays asks (ask_start 7000 One 0 1 2 1) asked_inputs)
    ≡ Some (shows true (lines (
    codes "answered 1 version 1"
    ∷ codes "unanswered 2"
    ∷ []
    )) (7128 ∷ []) (
    sent 0 0 7001 (codes "504701020000000000000000000100000000000000000000016b01000178")
    ∷ sent 1 0 7001 (codes "504701010000000000000000000200000000000000000000016b")
    ∷ sent 2 0 7001 (codes "504701010000000000000000000200000000000000000000016b")
    ∷ []
    ))
unfolding
    digits servers_from servers_of spelling in_range packet_of state_bytes state_of server_step
    client_step controller_step switch_step happens order_of said_text played asked_inputs
asked_plays = refl

-- nothing answers the controller
unfoldable pub ruled_inputs : List (Input Call)
ruled_inputs =
    Entry (Orders (command.Promote (codes "k")))
    ∷ Quiet
    ∷ Tick
    ∷ Quiet
    ∷ Tick
    ∷ Entry (Orders (command.Handover 1))
    ∷ []

ruled_lines : spell (λ c. event_lines (call_event c)) ruled_inputs (
    codes "promote k"
    ∷ codes "handover 1"
    ∷ []
    ) ≡ true
unfolding digits ruled_inputs
ruled_lines = refl

ruled_plays :
    shown controls (plays controls (control_start 7000 (rack_with One 1 1 1 1 1 1) 2 1) ruled_inputs)
    ≡ Some (shows true (lines (
    codes "controller orders 1 promote k"
    ∷ codes "controller retries 1"
    ∷ codes "controller unanswered 1"
    ∷ codes "controller busy 1"
    ∷ []
    )) (7000 ∷ []) (
    sent 0 0 7001 (codes "50470107000000000000000101016b")
    ∷ sent 1 0 7001 (codes "50470107000000000000000101016b")
    ∷ []
    ))
unfolding
    digits servers_from servers_of spelling in_range packet_of state_bytes state_of server_step
    client_step controller_step switch_step happens order_of said_text played ruled_inputs
ruled_plays = refl

-- nothing comes
unfoldable pub ask_pauses_inputs : List (Input Asked)
ask_pauses_inputs =
    Entry ((codes "k"), (ask.Write (Present (codes "x"))))
    ∷ Quiet
    ∷ Quiet
    ∷ Tick
    ∷ Quiet
    ∷ Quiet
    ∷ Tick
    ∷ Quiet
    ∷ Quiet
    ∷ Tick
    ∷ []

ask_pauses_lines : spell (λ asked. ask_line asked ∷ []) ask_pauses_inputs (
    codes "write k =x"
    ∷ []
    ) ≡ true
unfolding digits ask_pauses_inputs
ask_pauses_lines = refl

ask_pauses_plays :
    shown asks (plays asks (ask_start 7000 One 0 1 3 2) ask_pauses_inputs)
    ≡ Some (shows true (lines (
    codes "unanswered 1"
    ∷ []
    )) (7128 ∷ []) (
    sent 0 0 7001 (codes "504701020000000000000000000100000000000000000000016b01000178")
    ∷ sent 2 0 7001 (codes "504701020000000000000000000100000000000000000000016b01000178")
    ∷ sent 4 0 7001 (codes "504701020000000000000000000100000000000000000000016b01000178")
    ∷ []
    ))
unfolding
    digits servers_from servers_of spelling in_range packet_of state_bytes state_of server_step
    client_step controller_step switch_step happens order_of said_text played ask_pauses_inputs
ask_pauses_plays = refl

-- the first receive fails: the port is bound, and nothing was sent
unheard :
    shown server_word (plays server_word (server_start 7000 (rack_with One 1 1 1 1 1 1) 0 1) []) ≡ Some (shows false [] (7008 ∷ []) [])
unfolding digits played
unheard = refl

-- a random run of a switch
unfoldable pub switch_one_inputs : List (Input ⊥)
switch_one_inputs =
    carries (codes "5047010100000000000000000001000000000000000000000161")
    ∷ Quiet
    ∷ carries (codes "504701050000000000000000000100000000000000000100016100")
    ∷ carries (codes "50470107000000000000000103000161")
    ∷ Quiet
    ∷ carries (codes "504701020000000000000000000200000000000000000000016b0100027632")
    ∷ Quiet
    ∷ carries (codes "504701060000000000000000000200000000000000010200016b")
    ∷ carries (codes "504701020000000000000000000200000000000000000000016b0100027632")
    ∷ carries (codes "504701020002000000000000000100000000000000000000016b0100027633")
    ∷ carries (codes "5047010100000000000000000003000000000000000000000163")
    ∷ carries []
    ∷ carries (codes "504701060002000000000000000100000000000000020200016b")
    ∷ carries (codes "504701050000000000000000000300000000000000000000016300")
    ∷ carries (codes "504701020001000000000000000100000000000000000000016b0100027637")
    ∷ carries (codes "504701070000000000000002010161")
    ∷ carries (codes "504701060001000000000000000100000000000000030200016b")
    ∷ carries (codes "504701020002000000000000000200000000000000000000016b0100027638")
    ∷ Quiet
    ∷ carries (codes "504701060002000000000000000200000000000000050200016b")
    ∷ Quiet
    ∷ Quiet
    ∷ carries (codes "5047010100020000000000000003000000000000000000000161")
    ∷ carries (codes "504701060002000000000000000200000000000000050200016b")
    ∷ carries (codes "504701020000000000000000000400000000000000000000016b0100027639")
    ∷ carries (codes "5047010100020000000000000003000000000000000000000161")
    ∷ carries (codes "504701020001000000000000000200000000000000000000016b010003763130")
    ∷ carries (codes "5047010100020000000000000003000000000000000000000161")
    ∷ carries []
    ∷ carries (codes "504701050002000000000000000300000000000000000100016100")
    ∷ Tick
    ∷ []

switch_one_plays :
    shown switch_word (plays switch_word (switch_start 7000 (rack_with One 3 3 2 2 3 1) 0 30) switch_one_inputs)
    ≡ Some (shows true (lines (
    codes "datagrams 24"
    ∷ []
    )) (7001 ∷ []) (
    sent 1 0 7009 (codes "5047010300000000000000000001000000000000000001000161")
    ∷ sent 3 0 7128 (codes "504701050000000000000000000100000000000000000100016100")
    ∷ sent 4 0 7000 (codes "504701080000000000000001050000000000000000")
    ∷ sent 6 0 7010 (codes "504701040000000000000000000200000000000000010200016b0100027632")
    ∷ sent 8 0 7128 (codes "504701060000000000000000000200000000000000010200016b")
    ∷ sent 9 0 7010 (codes "504701040000000000000000000200000000000000010200016b0100027632")
    ∷ sent 10 0 7010 (codes "504701040002000000000000000100000000000000020200016b0100027633")
    ∷ sent 11 0 7008 (codes "5047010300000000000000000003000000000000000000000163")
    ∷ sent 13 0 7130 (codes "504701060002000000000000000100000000000000020200016b")
    ∷ sent 14 0 7128 (codes "504701050000000000000000000300000000000000000000016300")
    ∷ sent 15 0 7010 (codes "504701040001000000000000000100000000000000030200016b0100027637")
    ∷ sent 16 0 7000 (codes "504701080000000000000002010000000000000002")
    ∷ sent 17 0 7129 (codes "504701060001000000000000000100000000000000030200016b")
    ∷ sent 18 0 7010 (codes "504701040002000000000000000200000000000000050200016b0100027638")
    ∷ sent 20 0 7130 (codes "504701060002000000000000000200000000000000050200016b")
    ∷ sent 23 0 7009 (codes "5047010300020000000000000003000000000000000001000161")
    ∷ sent 24 0 7130 (codes "504701060002000000000000000200000000000000050200016b")
    ∷ sent 25 0 7010 (codes "504701040000000000000000000400000000000000060200016b0100027639")
    ∷ sent 26 0 7009 (codes "5047010300020000000000000003000000000000000001000161")
    ∷ sent 27 0 7010 (codes "504701040001000000000000000200000000000000070200016b010003763130")
    ∷ sent 28 0 7009 (codes "5047010300020000000000000003000000000000000001000161")
    ∷ sent 30 0 7130 (codes "504701050002000000000000000300000000000000000100016100")
    ∷ []
    ))
unfolding
    digits servers_from servers_of spelling in_range packet_of state_bytes state_of server_step
    client_step controller_step switch_step happens order_of said_text played switch_one_inputs
switch_one_plays = refl

-- a random run of a server
unfoldable pub server_one_inputs : List (Input ⊥)
server_one_inputs =
    Quiet
    ∷ carries (codes "504701030002000000000000000100000000000000000000016b")
    ∷ carries (codes "5047010300010000000000000001000000000000000000000163")
    ∷ carries (codes "504701040000000000000000000100000000000000010000016b0100027634")
    ∷ carries (codes "5047010300010000000000000001000000000000000000000163")
    ∷ carries (codes "5047010300020000000000000002000000000000000000000163")
    ∷ carries (codes "5047010300020000000000000002000000000000000000000163")
    ∷ carries (codes "5047010300020000000000000002000000000000000000000163")
    ∷ carries (codes "504701040000000000000000000200000000000000020000016b010003763134")
    ∷ carries (codes "5047010300010000000000000001000000000000000000000163")
    ∷ carries (codes "504701040000000000000000000200000000000000020000016b010003763134")
    ∷ carries (codes "5047010300010000000000000002000000000000000000000161")
    ∷ carries (codes "5047010300010000000000000002000000000000000000000161")
    ∷ carries []
    ∷ carries (codes "5047010400000000000000000003000000000000000500000161010003763233")
    ∷ carries (codes "5047010400020000000000000003000000000000000400000163010003763230")
    ∷ carries (codes "5047010400020000000000000003000000000000000400000163010003763230")
    ∷ carries (codes "5047010400020000000000000003000000000000000400000163010003763230")
    ∷ carries (codes "50470110000000000000000000060161")
    ∷ carries (codes "50470110000000000000000000030163")
    ∷ carries (codes "5047010300000000000000000004000000000000000000000163")
    ∷ carries (codes "5047010300010000000000000003000000000000000000000163")
    ∷ carries (codes "5047010400020000000000000004000000000000000700000163010003763339")
    ∷ carries (codes "5047010300010000000000000004000000000000000000000163")
    ∷ carries (codes "5047010300010000000000000004000000000000000000000163")
    ∷ Tick
    ∷ []

server_one_plays :
    shown server_word (plays server_word (server_start 7100 (rack_with One 1 3 1 2 3 1) 0 25) server_one_inputs)
    ≡ Some (shows true (lines (
    codes "datagrams 24"
    ∷ []
    )) (7108 ∷ []) (
    sent 2 0 7101 (codes "504701050002000000000000000100000000000000000000016b00")
    ∷ sent 3 0 7101 (codes "504701050001000000000000000100000000000000000000016300")
    ∷ sent 4 0 7101 (codes "504701060000000000000000000100000000000000010000016b")
    ∷ sent 5 0 7101 (codes "504701050001000000000000000100000000000000000000016300")
    ∷ sent 6 0 7101 (codes "504701050002000000000000000200000000000000000000016300")
    ∷ sent 7 0 7101 (codes "504701050002000000000000000200000000000000000000016300")
    ∷ sent 8 0 7101 (codes "504701050002000000000000000200000000000000000000016300")
    ∷ sent 9 0 7101 (codes "504701060000000000000000000200000000000000020000016b")
    ∷ sent 10 0 7101 (codes "504701050001000000000000000100000000000000000000016300")
    ∷ sent 11 0 7101 (codes "504701060000000000000000000200000000000000020000016b")
    ∷ sent 12 0 7101 (codes "504701050001000000000000000200000000000000000000016100")
    ∷ sent 13 0 7101 (codes "504701050001000000000000000200000000000000000000016100")
    ∷ sent 15 0 7101 (codes "5047010600000000000000000003000000000000000500000161")
    ∷ sent 16 0 7101 (codes "5047010600020000000000000003000000000000000400000163")
    ∷ sent 17 0 7101 (codes "5047010600020000000000000003000000000000000400000163")
    ∷ sent 18 0 7101 (codes "5047010600020000000000000003000000000000000400000163")
    ∷ sent 19 0 7101 (codes "5047010b0000000000000000060161")
    ∷ sent 20 0 7101 (codes "5047010b0000000000000000030163")
    ∷ sent 21 0 7101 (codes "5047010500000000000000000004000000000000000400000163010003763230")
    ∷ sent 22 0 7101 (codes "5047010500010000000000000003000000000000000400000163010003763230")
    ∷ sent 23 0 7101 (codes "5047010600020000000000000004000000000000000700000163")
    ∷ sent 24 0 7101 (codes "5047010500010000000000000004000000000000000700000163010003763339")
    ∷ sent 25 0 7101 (codes "5047010500010000000000000004000000000000000700000163010003763339")
    ∷ []
    ))
unfolding
    digits servers_from servers_of spelling in_range packet_of state_bytes state_of server_step
    client_step controller_step switch_step happens order_of said_text played server_one_inputs
server_one_plays = refl

-- a random run of a client that asks
unfoldable pub ask_one_inputs : List (Input Asked)
ask_one_inputs =
    Entry ((codes "c"), ask.Read)
    ∷ Quiet
    ∷ Quiet
    ∷ Quiet
    ∷ Tick
    ∷ Quiet
    ∷ Quiet
    ∷ carries (codes "504701050001000000000000000100000000000000000000016300")
    ∷ Entry ((codes "k"), (ask.Write (Present (codes "w1"))))
    ∷ carries (codes "504701060001000000000000000200000000000000020200016b")
    ∷ Entry ((codes "c"), (ask.Write (Present (codes "w2"))))
    ∷ carries (codes "504701050001000000000000000100000000000000000000016300")
    ∷ carries (codes "504701060001000000000000000200000000000000020200016b")
    ∷ carries (codes "5047010600010000000000000003000000000000000300000163")
    ∷ Entry ((codes "a"), (ask.Write (Present (codes "w3"))))
    ∷ carries (codes "5047010600010000000000000004000000000000000401000161")
    ∷ Entry ((codes "k"), ask.Read)
    ∷ Quiet
    ∷ Quiet
    ∷ Quiet
    ∷ Tick
    ∷ Quiet
    ∷ Quiet
    ∷ Quiet
    ∷ Tick
    ∷ Entry ((codes "a"), ask.Read)
    ∷ carries (codes "50470105000100000000000000060000000000000006010001610100027631")
    ∷ Entry ((codes "c"), ask.Read)
    ∷ carries (codes "50470105000100000000000000060000000000000006010001610100027631")
    ∷ carries (codes "50470105000100000000000000060000000000000006010001610100027631")
    ∷ Quiet
    ∷ Tick
    ∷ Quiet
    ∷ carries (codes "5047")
    ∷ carries (codes "5047010500010000000000000007000000000000000500000163010003763130")
    ∷ Entry ((codes "k"), (ask.Write (Present (codes "w7"))))
    ∷ carries (codes "5047010500010000000000000007000000000000000500000163010003763130")
    ∷ Quiet
    ∷ Quiet
    ∷ Tick
    ∷ Quiet
    ∷ carries (codes "5047")
    ∷ Quiet
    ∷ Tick
    ∷ []

ask_one_lines : spell (λ asked. ask_line asked ∷ []) ask_one_inputs (
    codes "read c"
    ∷ codes "write k =w1"
    ∷ codes "write c =w2"
    ∷ codes "write a =w3"
    ∷ codes "read k"
    ∷ codes "read a"
    ∷ codes "read c"
    ∷ codes "write k =w7"
    ∷ []
    ) ≡ true
unfolding digits ask_one_inputs
ask_one_lines = refl

ask_one_plays :
    shown asks (plays asks (ask_start 7000 One 1 1 2 3) ask_one_inputs)
    ≡ Some (shows true (lines (
    codes "answered 1 version 0 -"
    ∷ codes "answered 2 version 2"
    ∷ codes "answered 3 version 3"
    ∷ codes "answered 4 version 4"
    ∷ codes "unanswered 5"
    ∷ codes "answered 6 version 6 =v1"
    ∷ codes "answered 7 version 5 =v10"
    ∷ codes "unanswered 8"
    ∷ []
    )) (7129 ∷ []) (
    sent 0 0 7001 (codes "5047010100010000000000000001000000000000000000000163")
    ∷ sent 3 0 7001 (codes "5047010100010000000000000001000000000000000000000163")
    ∷ sent 6 0 7001 (codes "504701020001000000000000000200000000000000000000016b0100027731")
    ∷ sent 7 0 7001 (codes "50470102000100000000000000030000000000000000000001630100027732")
    ∷ sent 10 0 7001 (codes "50470102000100000000000000040000000000000000000001610100027733")
    ∷ sent 11 0 7001 (codes "504701010001000000000000000500000000000000000000016b")
    ∷ sent 14 0 7001 (codes "504701010001000000000000000500000000000000000000016b")
    ∷ sent 17 0 7001 (codes "5047010100010000000000000006000000000000000000000161")
    ∷ sent 18 0 7001 (codes "5047010100010000000000000007000000000000000000000163")
    ∷ sent 21 0 7001 (codes "5047010100010000000000000007000000000000000000000163")
    ∷ sent 24 0 7001 (codes "504701020001000000000000000800000000000000000000016b0100027737")
    ∷ sent 27 0 7001 (codes "504701020001000000000000000800000000000000000000016b0100027737")
    ∷ []
    ))
unfolding
    digits servers_from servers_of spelling in_range packet_of state_bytes state_of server_step
    client_step controller_step switch_step happens order_of said_text played ask_one_inputs
ask_one_plays = refl

-- a random run of the controller
unfoldable pub control_one_inputs : List (Input Call)
control_one_inputs =
    Entry (Orders command.Clear)
    ∷ Quiet
    ∷ Quiet
    ∷ Quiet
    ∷ Tick
    ∷ Quiet
    ∷ carries (codes "5047010800000000000000010a0000000000000000")
    ∷ Entry (Orders (command.Handover 1))
    ∷ carries (codes "504701080000000000000002090000000000000002")
    ∷ Entry (Orders (command.Copy (codes "a") 1))
    ∷ Quiet
    ∷ carries (replicate 1282 48)
    ∷ carries (codes "504701080000000000000003050000000000000000")
    ∷ Entry (Orders (command.Promote (codes "k")))
    ∷ carries (codes "504701080000000000000003050000000000000000")
    ∷ carries (codes "504701080000000000000004010000000000000004")
    ∷ Entry Retries
    ∷ Entry Surveys
    ∷ Quiet
    ∷ Quiet
    ∷ Quiet
    ∷ Tick
    ∷ carries (codes "5047010f00000000000000020000000000000003020161000000000000000100000000" ++ codes "00000000016b00000000000000020000000000000000")
    ∷ Entry Retries
    ∷ Entry (Orders (command.Fence (codes "c")))
    ∷ Quiet
    ∷ carries (codes "504701080000000000000005050000000000000000")
    ∷ Entry (Orders (command.Copy (codes "k") 2))
    ∷ carries (codes "504701080000000000000006080000000000000000")
    ∷ []

control_one_lines : spell (λ c. event_lines (call_event c)) control_one_inputs (
    codes "clear"
    ∷ codes "handover 1"
    ∷ codes "copy a 1"
    ∷ codes "promote k"
    ∷ codes "retry"
    ∷ codes "survey"
    ∷ codes "retry"
    ∷ codes "fence c"
    ∷ codes "copy k 2"
    ∷ []
    ) ≡ true
unfolding digits control_one_inputs
control_one_lines = refl

control_one_plays :
    shown controls (plays controls (control_start 7000 (rack_with One 3 3 2 2 3 1) 2 3) control_one_inputs)
    ≡ Some (shows true (lines (
    codes "controller orders 1 clear"
    ∷ codes "controller retries 1"
    ∷ codes "controller takes 1 cleared"
    ∷ codes "controller orders 2 handover to switch 1"
    ∷ codes "controller takes 2 activated 2"
    ∷ codes "controller orders 3 copy a to server 1"
    ∷ codes "controller malformed"
    ∷ codes "controller takes 3 not listed"
    ∷ codes "controller orders 4 promote k"
    ∷ codes "controller ignores"
    ∷ codes "controller takes 4 listed 4"
    ∷ codes "controller announces epoch 2"
    ∷ codes "controller surveys"
    ∷ codes "controller surveys"
    ∷ codes "controller has report of 2 rows"
    ∷ codes "controller announces epoch 2"
    ∷ codes "controller orders 5 fence c"
    ∷ codes "controller takes 5 not listed"
    ∷ codes "controller orders 6 copy k to server 2"
    ∷ codes "controller takes 6 holds"
    ∷ []
    )) (7000 ∷ []) (
    sent 0 0 7001 (codes "50470107000000000000000105")
    ∷ sent 3 0 7001 (codes "50470107000000000000000105")
    ∷ sent 5 0 7001 (codes "50470107000000000000000204010000000000000002")
    ∷ sent 6 0 7128 (codes "5047010d000000000000000201")
    ∷ sent 6 0 7129 (codes "5047010d000000000000000201")
    ∷ sent 6 0 7130 (codes "5047010d000000000000000201")
    ∷ sent 6 0 7002 (codes "50470107000000000000000303010161")
    ∷ sent 9 0 7002 (codes "50470107000000000000000401016b")
    ∷ sent 11 0 7128 (codes "5047010d000000000000000201")
    ∷ sent 11 0 7129 (codes "5047010d000000000000000201")
    ∷ sent 11 0 7130 (codes "5047010d000000000000000201")
    ∷ sent 11 0 7002 (codes "5047010e")
    ∷ sent 14 0 7002 (codes "5047010e")
    ∷ sent 15 0 7128 (codes "5047010d000000000000000201")
    ∷ sent 15 0 7129 (codes "5047010d000000000000000201")
    ∷ sent 15 0 7130 (codes "5047010d000000000000000201")
    ∷ sent 15 0 7002 (codes "504701070000000000000005060163")
    ∷ sent 17 0 7002 (codes "5047010700000000000000060302016b")
    ∷ []
    ))
unfolding
    digits servers_from servers_of spelling in_range packet_of state_bytes state_of server_step
    client_step controller_step switch_step happens order_of said_text played control_one_inputs
control_one_plays = refl

-- a random run of a switch
unfoldable pub switch_two_inputs : List (Input ⊥)
switch_two_inputs =
    carries (codes "50470207000000000000000103010163")
    ∷ carries (codes "50470202000000000000000000010000000000000000000001610100027631")
    ∷ carries (codes "5047020600000000000000000001000000000000000101000161")
    ∷ Quiet
    ∷ Quiet
    ∷ carries (codes "50470202000100000000000000010000000000000000000001630100027633")
    ∷ carries (codes "50470207000000000000000205")
    ∷ carries (codes "50470202000000000000000000020000000000000000000001630100027634")
    ∷ carries (codes "5047020600010000000000000001000000000000000201000163")
    ∷ carries (codes "5047020600010000000000000001000000000000000201000163")
    ∷ carries (codes "5047020600000000000000000002000000000000000301000163")
    ∷ Quiet
    ∷ Quiet
    ∷ carries (codes "50470207000000000000000303000163")
    ∷ carries (codes "504702010001000000000000000200000000000000000000016b")
    ∷ Quiet
    ∷ carries (codes "5047")
    ∷ carries (codes "504702050001000000000000000200000000000000000100016b00")
    ∷ carries (codes "504702020001000000000000000300000000000000000000016b0100027638")
    ∷ Quiet
    ∷ carries (codes "50470202000000000000000000030000000000000000000001630100027635")
    ∷ Quiet
    ∷ carries (codes "5047020600000000000000000003000000000000000501000163")
    ∷ Quiet
    ∷ carries (codes "5047")
    ∷ carries (codes "504702010001000000000000000400000000000000000000016b")
    ∷ carries (codes "504702020000000000000000000400000000000000000000016b010003763138")
    ∷ carries (codes "504702050001000000000000000400000000000000000100016b00")
    ∷ carries (codes "504702060000000000000000000400000000000000060100016b")
    ∷ carries (codes "5047020100010000000000000005000000000000000000000163")
    ∷ Tick
    ∷ []

switch_two_plays :
    shown switch_word (plays switch_word (switch_start 7000 (rack_with Two 2 2 1 1 2 1) 0 30) switch_two_inputs)
    ≡ Some (shows true (lines (
    codes "datagrams 22"
    ∷ []
    )) (7001 ∷ []) (
    sent 1 0 7000 (codes "504702080000000000000001050000000000000000")
    ∷ sent 2 0 7009 (codes "50470204000000000000000000010000000000000001010001610100027631")
    ∷ sent 3 0 7128 (codes "5047020600000000000000000001000000000000000101000161")
    ∷ sent 6 0 7009 (codes "50470204000100000000000000010000000000000002010001630100027633")
    ∷ sent 7 0 7000 (codes "5047020800000000000000020a0000000000000000")
    ∷ sent 8 0 7009 (codes "50470204000000000000000000020000000000000003010001630100027634")
    ∷ sent 9 0 7129 (codes "5047020600010000000000000001000000000000000201000163")
    ∷ sent 10 0 7129 (codes "5047020600010000000000000001000000000000000201000163")
    ∷ sent 11 0 7128 (codes "5047020600000000000000000002000000000000000301000163")
    ∷ sent 14 0 7000 (codes "504702080000000000000003050000000000000000")
    ∷ sent 15 0 7009 (codes "504702030001000000000000000200000000000000000100016b")
    ∷ sent 18 0 7129 (codes "504702050001000000000000000200000000000000000100016b00")
    ∷ sent 19 0 7009 (codes "504702040001000000000000000300000000000000040100016b0100027638")
    ∷ sent 21 0 7009 (codes "50470204000000000000000000030000000000000005010001630100027635")
    ∷ sent 23 0 7128 (codes "5047020600000000000000000003000000000000000501000163")
    ∷ sent 26 0 7009 (codes "504702030001000000000000000400000000000000000100016b")
    ∷ sent 27 0 7009 (codes "504702040000000000000000000400000000000000060100016b010003763138")
    ∷ sent 28 0 7129 (codes "504702050001000000000000000400000000000000000100016b00")
    ∷ sent 29 0 7128 (codes "504702060000000000000000000400000000000000060100016b")
    ∷ sent 30 0 7009 (codes "5047020300010000000000000005000000000000000001000163")
    ∷ []
    ))
unfolding
    digits servers_from servers_of spelling in_range packet_of state_bytes state_of server_step
    client_step controller_step switch_step happens order_of said_text played switch_two_inputs
switch_two_plays = refl

-- a random run of a server
unfoldable pub server_two_inputs : List (Input ⊥)
server_two_inputs =
    Quiet
    ∷ Quiet
    ∷ carries (codes "5047")
    ∷ Quiet
    ∷ Quiet
    ∷ Quiet
    ∷ Quiet
    ∷ Quiet
    ∷ Quiet
    ∷ Quiet
    ∷ Quiet
    ∷ Quiet
    ∷ Quiet
    ∷ Quiet
    ∷ Quiet
    ∷ carries (codes "5047020a00000000000000000002016b00")
    ∷ Quiet
    ∷ carries (codes "504702030000000000000000000700000000000000000000016b")
    ∷ Quiet
    ∷ Quiet
    ∷ Quiet
    ∷ Quiet
    ∷ Quiet
    ∷ Quiet
    ∷ carries (codes "5047")
    ∷ Tick
    ∷ []

server_two_plays :
    shown server_word (plays server_word (server_start 7100 (rack_with Two 2 2 1 1 2 1) 0 25) server_two_inputs)
    ≡ Some (shows true (lines (
    codes "datagrams 4"
    ∷ []
    )) (7108 ∷ []) (
    sent 16 0 7101 (codes "5047020b000000000000000002016b")
    ∷ sent 18 0 7101 (codes "504702050000000000000000000700000000000000020000016b00")
    ∷ []
    ))
unfolding
    digits servers_from servers_of spelling in_range packet_of state_bytes state_of server_step
    client_step controller_step switch_step happens order_of said_text played server_two_inputs
server_two_plays = refl

-- a random run of a client that asks
unfoldable pub ask_two_inputs : List (Input Asked)
ask_two_inputs =
    Entry ((codes "a"), (ask.Write (Present (codes "w0"))))
    ∷ Quiet
    ∷ Quiet
    ∷ Tick
    ∷ Quiet
    ∷ carries (codes "5047020600010000000000000001000000000000000101000161")
    ∷ Entry ((codes "a"), (ask.Write Absent))
    ∷ Quiet
    ∷ Quiet
    ∷ Tick
    ∷ Quiet
    ∷ Quiet
    ∷ Tick
    ∷ Quiet
    ∷ Quiet
    ∷ Tick
    ∷ Entry ((codes "c"), ask.Read)
    ∷ carries (codes "5047020600010000000000000002000000000000000301000161")
    ∷ Quiet
    ∷ Tick
    ∷ carries (codes "5047020600010000000000000002000000000000000301000161")
    ∷ carries (codes "5047020600010000000000000002000000000000000301000161")
    ∷ Tick
    ∷ Quiet
    ∷ Quiet
    ∷ Tick
    ∷ Entry ((codes "c"), (ask.Write (Present (codes "w3"))))
    ∷ Quiet
    ∷ carries (codes "504702050001000000000000000300000000000000000100016300")
    ∷ Tick
    ∷ carries (codes "504702050001000000000000000300000000000000000100016300")
    ∷ Quiet
    ∷ Tick
    ∷ Quiet
    ∷ Quiet
    ∷ Tick
    ∷ Entry ((codes "k"), (ask.Write (Present (codes "w4"))))
    ∷ Quiet
    ∷ carries (codes "504702050001000000000000000300000000000000000100016300")
    ∷ Tick
    ∷ Quiet
    ∷ Quiet
    ∷ Tick
    ∷ carries (codes "5047020d000000000000000100")
    ∷ Quiet
    ∷ Tick
    ∷ Entry ((codes "k"), (ask.Write Absent))
    ∷ Quiet
    ∷ Quiet
    ∷ Tick
    ∷ carries (codes "5047020600010000000000000004000000000000000501000163")
    ∷ Quiet
    ∷ Tick
    ∷ Quiet
    ∷ Quiet
    ∷ Tick
    ∷ Entry ((codes "k"), ask.Read)
    ∷ Quiet
    ∷ Quiet
    ∷ Tick
    ∷ Quiet
    ∷ Quiet
    ∷ Tick
    ∷ Quiet
    ∷ carries (codes "504702060001000000000000000500000000000000070100016b")
    ∷ Tick
    ∷ Entry ((codes "a"), (ask.Write (Present (codes "w7"))))
    ∷ Quiet
    ∷ carries (codes "504702060001000000000000000600000000000000080000016b")
    ∷ Tick
    ∷ Quiet
    ∷ Quiet
    ∷ Tick
    ∷ Quiet
    ∷ carries (codes "504702060001000000000000000600000000000000080000016b")
    ∷ Tick
    ∷ []

ask_two_lines : spell (λ asked. ask_line asked ∷ []) ask_two_inputs (
    codes "write a =w0"
    ∷ codes "delete a"
    ∷ codes "read c"
    ∷ codes "write c =w3"
    ∷ codes "write k =w4"
    ∷ codes "delete k"
    ∷ codes "read k"
    ∷ codes "write a =w7"
    ∷ []
    ) ≡ true
unfolding digits ask_two_inputs
ask_two_lines = refl

ask_two_plays :
    shown asks (plays asks (ask_start 7000 Two 1 1 3 2) ask_two_inputs)
    ≡ Some (shows true (lines (
    codes "answered 1 version 1"
    ∷ codes "unanswered 2"
    ∷ codes "unanswered 3"
    ∷ codes "unanswered 4"
    ∷ codes "unanswered 5"
    ∷ codes "unanswered 6"
    ∷ codes "unanswered 7"
    ∷ codes "unanswered 8"
    ∷ []
    )) (7129 ∷ []) (
    sent 0 0 7001 (codes "50470202000100000000000000010000000000000000000001610100027730")
    ∷ sent 2 0 7001 (codes "50470202000100000000000000010000000000000000000001610100027730")
    ∷ sent 4 0 7001 (codes "504702020001000000000000000200000000000000000000016100")
    ∷ sent 6 0 7001 (codes "504702020001000000000000000200000000000000000000016100")
    ∷ sent 8 0 7001 (codes "504702020001000000000000000200000000000000000000016100")
    ∷ sent 10 0 7001 (codes "5047020100010000000000000003000000000000000000000163")
    ∷ sent 12 0 7001 (codes "5047020100010000000000000003000000000000000000000163")
    ∷ sent 14 0 7001 (codes "5047020100010000000000000003000000000000000000000163")
    ∷ sent 16 0 7001 (codes "50470202000100000000000000040000000000000000000001630100027733")
    ∷ sent 18 0 7001 (codes "50470202000100000000000000040000000000000000000001630100027733")
    ∷ sent 20 0 7001 (codes "50470202000100000000000000040000000000000000000001630100027733")
    ∷ sent 22 0 7001 (codes "504702020001000000000000000500000000000000000000016b0100027734")
    ∷ sent 24 0 7001 (codes "504702020001000000000000000500000000000000000000016b0100027734")
    ∷ sent 26 0 7001 (codes "504702020001000000000000000500000000000000000000016b0100027734")
    ∷ sent 28 0 7001 (codes "504702020001000000000000000600000000000000000000016b00")
    ∷ sent 30 0 7001 (codes "504702020001000000000000000600000000000000000000016b00")
    ∷ sent 32 0 7001 (codes "504702020001000000000000000600000000000000000000016b00")
    ∷ sent 34 0 7001 (codes "504702010001000000000000000700000000000000000000016b")
    ∷ sent 36 0 7001 (codes "504702010001000000000000000700000000000000000000016b")
    ∷ sent 38 0 7001 (codes "504702010001000000000000000700000000000000000000016b")
    ∷ sent 40 0 7001 (codes "50470202000100000000000000080000000000000000000001610100027737")
    ∷ sent 42 0 7001 (codes "50470202000100000000000000080000000000000000000001610100027737")
    ∷ sent 44 0 7001 (codes "50470202000100000000000000080000000000000000000001610100027737")
    ∷ []
    ))
unfolding
    digits servers_from servers_of spelling in_range packet_of state_bytes state_of server_step
    client_step controller_step switch_step happens order_of said_text played ask_two_inputs
ask_two_plays = refl

-- a random run of the controller
unfoldable pub control_two_inputs : List (Input Call)
control_two_inputs =
    Entry Surveys
    ∷ carries (codes "5047020f0000000000000001000000000000000000")
    ∷ Entry Retries
    ∷ Entry Retries
    ∷ Entry (Orders (command.Fence (codes "a")))
    ∷ Quiet
    ∷ Quiet
    ∷ Tick
    ∷ Quiet
    ∷ carries (codes "504702080000000000000001050000000000000000")
    ∷ Entry (Orders command.Clear)
    ∷ Quiet
    ∷ Quiet
    ∷ Tick
    ∷ carries (codes "5047020800000000000000020a0000000000000000")
    ∷ Entry (Orders (command.Promote (codes "c")))
    ∷ Quiet
    ∷ Quiet
    ∷ Tick
    ∷ carries (codes "504702080000000000000003010000000000000003")
    ∷ Entry (Plans 3 2)
    ∷ carries (codes "5047")
    ∷ carries (codes "504702080000000000000003010000000000000003")
    ∷ Tick
    ∷ carries (codes "504702080000000000000004040000000000000003")
    ∷ Entry (Orders (command.Promote (codes "c")))
    ∷ carries (codes "504702080000000000000004040000000000000003")
    ∷ Quiet
    ∷ Tick
    ∷ carries (codes "504702070000000000000003010163")
    ∷ carries (codes "504702080000000000000005020000000000000003")
    ∷ Entry (Orders (command.Fence (codes "c")))
    ∷ carries (codes "5047020800000000000000060b0000000000000002")
    ∷ []

control_two_lines : spell (λ c. event_lines (call_event c)) control_two_inputs (
    codes "survey"
    ∷ codes "retry"
    ∷ codes "retry"
    ∷ codes "fence a"
    ∷ codes "clear"
    ∷ codes "promote c"
    ∷ codes "plan 3 2"
    ∷ codes "promote c"
    ∷ codes "fence c"
    ∷ []
    ) ≡ true
unfolding digits control_two_inputs
control_two_lines = refl

control_two_plays :
    shown controls (plays controls (control_start 7000 (rack_with Two 2 2 1 1 2 1) 3 2) control_two_inputs)
    ≡ Some (shows true (lines (
    codes "controller surveys"
    ∷ codes "controller has report of 0 rows"
    ∷ codes "controller announces epoch 1"
    ∷ codes "controller announces epoch 1"
    ∷ codes "controller orders 1 fence a"
    ∷ codes "controller retries 1"
    ∷ codes "controller takes 1 not listed"
    ∷ codes "controller orders 2 clear"
    ∷ codes "controller retries 2"
    ∷ codes "controller takes 2 cleared"
    ∷ codes "controller orders 3 promote c"
    ∷ codes "controller retries 3"
    ∷ codes "controller takes 3 listed 3"
    ∷ codes "controller plans 1 demote 0 promote"
    ∷ codes "controller malformed"
    ∷ codes "controller ignores"
    ∷ codes "controller retries 4"
    ∷ codes "controller takes 4 marked 3"
    ∷ codes "controller orders 5 promote c"
    ∷ codes "controller ignores"
    ∷ codes "controller retries 5"
    ∷ codes "controller out of place"
    ∷ codes "controller takes 5 already 3"
    ∷ codes "controller orders 6 fence c"
    ∷ codes "controller takes 6 fenced 2"
    ∷ []
    )) (7000 ∷ []) (
    sent 0 0 7001 (codes "5047020e")
    ∷ sent 1 0 7128 (codes "5047020d000000000000000100")
    ∷ sent 1 0 7129 (codes "5047020d000000000000000100")
    ∷ sent 1 0 7128 (codes "5047020d000000000000000100")
    ∷ sent 1 0 7129 (codes "5047020d000000000000000100")
    ∷ sent 1 0 7001 (codes "504702070000000000000001060161")
    ∷ sent 3 0 7001 (codes "504702070000000000000001060161")
    ∷ sent 5 0 7001 (codes "50470207000000000000000205")
    ∷ sent 7 0 7001 (codes "50470207000000000000000205")
    ∷ sent 8 0 7001 (codes "504702070000000000000003010163")
    ∷ sent 10 0 7001 (codes "504702070000000000000003010163")
    ∷ sent 11 0 7001 (codes "504702070000000000000004020163")
    ∷ sent 13 0 7001 (codes "504702070000000000000004020163")
    ∷ sent 14 0 7001 (codes "504702070000000000000005010163")
    ∷ sent 16 0 7001 (codes "504702070000000000000005010163")
    ∷ sent 18 0 7001 (codes "504702070000000000000006060163")
    ∷ []
    ))
unfolding
    digits servers_from servers_of spelling in_range packet_of state_bytes state_of server_step
    client_step controller_step switch_step happens order_of said_text played control_two_inputs
control_two_plays = refl
