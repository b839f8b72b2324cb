-- What the judge says of histories and orders, many of them at fault. An independent model gave the
-- verdicts.
use Rattle.std.specs.Prelude.{◌≡◌, ℕ, true, Option, Some, None, List, [], ◌∷◌, refl, codes}
use Rattle.std.specs.Fmt.{digits}
use Rattle.peg_name.specs.declared.value.Content.TheVariants.{Absent, Present}
use Rattle.peg_meaning.specs.Session.{Input, Entry}
use Rattle.peg_meaning.specs.Played.{played, plays}
use Rattle.peg_name.specs.declared.value.Content.{Content}
use Rattle.peg_event.specs.declared.history.Act.{Act}
use Rattle.peg_event.specs.declared.history.Act.TheVariants as act
use Rattle.peg_event.specs.declared.history.Op.{Op}
use Rattle.peg_meaning.specs.CheckWord.{CheckEntry, Skipped, History, Operation, Order, At, Done}
use Rattle.peg_meaning.specs.CheckWord.{check_lines, check_start, judges}
use Rattle.peg_model.proofs.Computed.{lines}
use Rattle.peg_worked.proofs.Sessions.{shows, shown, spell}

abbrev op_of : ℕ → List ℕ → Act → Content → ℕ → Option ℕ → Op
op_of client key act content issued answered =
    record {
      client = client;
      key = key;
      act = act;
      content = content;
      issued = issued;
      answered = answered;
    }

-- a read after a write, behind its trace
unfoldable pub seen_inputs : List (Input CheckEntry)
seen_inputs =
    Entry (Skipped (codes "1 rack"))
    ∷ Entry (Skipped (codes "2 write 0 seq 1 sends 0"))
    ∷ Entry (Skipped (codes "3 switch 0 forwards write k version 1 to server 0 sends 1"))
    ∷ Entry (Skipped (codes "4 server 0 applies k version 1 sends 2"))
    ∷ Entry (Skipped (codes "5 switch 0 answers client 0 seq 1 version 1 unlisted sends 3"))
    ∷ Entry (Skipped (codes "6 client 0 answered 1 version 1"))
    ∷ Entry (Skipped (codes "7 read 0 seq 2 sends 4"))
    ∷ Entry (Skipped (codes "8 switch 0 forwards read k to server 0 sends 5"))
    ∷ Entry (Skipped (codes "9 server 0 reads k version 1 sends 6"))
    ∷ Entry (Skipped (codes "10 switch 0 answers client 0 seq 2 version 1 unlisted sends 7"))
    ∷ Entry (Skipped (codes "11 client 0 answered 2 version 1 =x"))
    ∷ Entry (Skipped (codes "12 end"))
    ∷ Entry (History 2)
    ∷ Entry (Operation 0 (op_of 0 (codes "k") act.Write (Present (codes "x")) 2 (Some 6)))
    ∷ Entry (Operation 1 (op_of 0 (codes "k") act.Read (Present (codes "x")) 7 (Some 11)))
    ∷ Entry (Order (codes "k") 2)
    ∷ Entry (At 0)
    ∷ Entry (At 1)
    ∷ Entry Done
    ∷ []

seen_lines : spell check_lines seen_inputs (
    codes "1 rack"
    ∷ codes "2 write 0 seq 1 sends 0"
    ∷ codes "3 switch 0 forwards write k version 1 to server 0 sends 1"
    ∷ codes "4 server 0 applies k version 1 sends 2"
    ∷ codes "5 switch 0 answers client 0 seq 1 version 1 unlisted sends 3"
    ∷ codes "6 client 0 answered 1 version 1"
    ∷ codes "7 read 0 seq 2 sends 4"
    ∷ codes "8 switch 0 forwards read k to server 0 sends 5"
    ∷ codes "9 server 0 reads k version 1 sends 6"
    ∷ codes "10 switch 0 answers client 0 seq 2 version 1 unlisted sends 7"
    ∷ codes "11 client 0 answered 2 version 1 =x"
    ∷ codes "12 end"
    ∷ codes "history 2"
    ∷ codes "op 0 client 0 write k =x issued 2 answered 6"
    ∷ codes "op 1 client 0 read k issued 7 answered 11 =x"
    ∷ codes "order k 2"
    ∷ codes "at 0"
    ∷ codes "at 1"
    ∷ codes "done"
    ∷ []
    ) ≡ true
unfolding digits seen_inputs
seen_lines = refl

seen_plays :
    shown judges (plays judges check_start seen_inputs)
    ≡ Some (shows true (lines (
    codes "yes 2 operations 1 keys"
    ∷ []
    )) [] [])
unfolding digits played seen_inputs
seen_plays = refl

-- the read found nothing
unfoldable pub not_seen_inputs : List (Input CheckEntry)
not_seen_inputs =
    Entry (Skipped (codes "1 rack"))
    ∷ Entry (Skipped (codes "2 write 0 seq 1 sends 0"))
    ∷ Entry (Skipped (codes "3 switch 0 forwards write k version 1 to server 0 sends 1"))
    ∷ Entry (Skipped (codes "4 server 0 applies k version 1 sends 2"))
    ∷ Entry (Skipped (codes "5 switch 0 answers client 0 seq 1 version 1 unlisted sends 3"))
    ∷ Entry (Skipped (codes "6 client 0 answered 1 version 1"))
    ∷ Entry (Skipped (codes "7 read 0 seq 2 sends 4"))
    ∷ Entry (Skipped (codes "8 switch 0 forwards read k to server 0 sends 5"))
    ∷ Entry (Skipped (codes "9 server 0 reads k version 1 sends 6"))
    ∷ Entry (Skipped (codes "10 switch 0 answers client 0 seq 2 version 1 unlisted sends 7"))
    ∷ Entry (Skipped (codes "11 client 0 answered 2 version 1 =x"))
    ∷ Entry (Skipped (codes "12 end"))
    ∷ Entry (History 2)
    ∷ Entry (Operation 0 (op_of 0 (codes "k") act.Write (Present (codes "x")) 2 (Some 6)))
    ∷ Entry (Operation 1 (op_of 0 (codes "k") act.Read Absent 7 (Some 11)))
    ∷ Entry (Order (codes "k") 2)
    ∷ Entry (At 0)
    ∷ Entry (At 1)
    ∷ Entry Done
    ∷ []

not_seen_lines : spell check_lines not_seen_inputs (
    codes "1 rack"
    ∷ codes "2 write 0 seq 1 sends 0"
    ∷ codes "3 switch 0 forwards write k version 1 to server 0 sends 1"
    ∷ codes "4 server 0 applies k version 1 sends 2"
    ∷ codes "5 switch 0 answers client 0 seq 1 version 1 unlisted sends 3"
    ∷ codes "6 client 0 answered 1 version 1"
    ∷ codes "7 read 0 seq 2 sends 4"
    ∷ codes "8 switch 0 forwards read k to server 0 sends 5"
    ∷ codes "9 server 0 reads k version 1 sends 6"
    ∷ codes "10 switch 0 answers client 0 seq 2 version 1 unlisted sends 7"
    ∷ codes "11 client 0 answered 2 version 1 =x"
    ∷ codes "12 end"
    ∷ codes "history 2"
    ∷ codes "op 0 client 0 write k =x issued 2 answered 6"
    ∷ codes "op 1 client 0 read k issued 7 answered 11 -"
    ∷ codes "order k 2"
    ∷ codes "at 0"
    ∷ codes "at 1"
    ∷ codes "done"
    ∷ []
    ) ≡ true
unfolding digits not_seen_inputs
not_seen_lines = refl

not_seen_plays :
    shown judges (plays judges check_start not_seen_inputs)
    ≡ Some (shows true (lines (
    codes "no illegal 1"
    ∷ []
    )) [] [])
unfolding digits played not_seen_inputs
not_seen_plays = refl

-- the read stands before the write
unfoldable pub turned_inputs : List (Input CheckEntry)
turned_inputs =
    Entry (Skipped (codes "1 rack"))
    ∷ Entry (Skipped (codes "2 write 0 seq 1 sends 0"))
    ∷ Entry (Skipped (codes "3 switch 0 forwards write k version 1 to server 0 sends 1"))
    ∷ Entry (Skipped (codes "4 server 0 applies k version 1 sends 2"))
    ∷ Entry (Skipped (codes "5 switch 0 answers client 0 seq 1 version 1 unlisted sends 3"))
    ∷ Entry (Skipped (codes "6 client 0 answered 1 version 1"))
    ∷ Entry (Skipped (codes "7 read 0 seq 2 sends 4"))
    ∷ Entry (Skipped (codes "8 switch 0 forwards read k to server 0 sends 5"))
    ∷ Entry (Skipped (codes "9 server 0 reads k version 1 sends 6"))
    ∷ Entry (Skipped (codes "10 switch 0 answers client 0 seq 2 version 1 unlisted sends 7"))
    ∷ Entry (Skipped (codes "11 client 0 answered 2 version 1 =x"))
    ∷ Entry (Skipped (codes "12 end"))
    ∷ Entry (History 2)
    ∷ Entry (Operation 0 (op_of 0 (codes "k") act.Write (Present (codes "x")) 2 (Some 6)))
    ∷ Entry (Operation 1 (op_of 0 (codes "k") act.Read Absent 7 (Some 11)))
    ∷ Entry (Order (codes "k") 2)
    ∷ Entry (At 1)
    ∷ Entry (At 0)
    ∷ Entry Done
    ∷ []

turned_lines : spell check_lines turned_inputs (
    codes "1 rack"
    ∷ codes "2 write 0 seq 1 sends 0"
    ∷ codes "3 switch 0 forwards write k version 1 to server 0 sends 1"
    ∷ codes "4 server 0 applies k version 1 sends 2"
    ∷ codes "5 switch 0 answers client 0 seq 1 version 1 unlisted sends 3"
    ∷ codes "6 client 0 answered 1 version 1"
    ∷ codes "7 read 0 seq 2 sends 4"
    ∷ codes "8 switch 0 forwards read k to server 0 sends 5"
    ∷ codes "9 server 0 reads k version 1 sends 6"
    ∷ codes "10 switch 0 answers client 0 seq 2 version 1 unlisted sends 7"
    ∷ codes "11 client 0 answered 2 version 1 =x"
    ∷ codes "12 end"
    ∷ codes "history 2"
    ∷ codes "op 0 client 0 write k =x issued 2 answered 6"
    ∷ codes "op 1 client 0 read k issued 7 answered 11 -"
    ∷ codes "order k 2"
    ∷ codes "at 1"
    ∷ codes "at 0"
    ∷ codes "done"
    ∷ []
    ) ≡ true
unfolding digits turned_inputs
turned_lines = refl

turned_plays :
    shown judges (plays judges check_start turned_inputs)
    ≡ Some (shows true (lines (
    codes "no late 1 0"
    ∷ []
    )) [] [])
unfolding digits played turned_inputs
turned_plays = refl

-- the read is not in the order
unfoldable pub left_out_inputs : List (Input CheckEntry)
left_out_inputs =
    Entry (Skipped (codes "1 rack"))
    ∷ Entry (Skipped (codes "2 write 0 seq 1 sends 0"))
    ∷ Entry (Skipped (codes "3 switch 0 forwards write k version 1 to server 0 sends 1"))
    ∷ Entry (Skipped (codes "4 server 0 applies k version 1 sends 2"))
    ∷ Entry (Skipped (codes "5 switch 0 answers client 0 seq 1 version 1 unlisted sends 3"))
    ∷ Entry (Skipped (codes "6 client 0 answered 1 version 1"))
    ∷ Entry (Skipped (codes "7 read 0 seq 2 sends 4"))
    ∷ Entry (Skipped (codes "8 switch 0 forwards read k to server 0 sends 5"))
    ∷ Entry (Skipped (codes "9 server 0 reads k version 1 sends 6"))
    ∷ Entry (Skipped (codes "10 switch 0 answers client 0 seq 2 version 1 unlisted sends 7"))
    ∷ Entry (Skipped (codes "11 client 0 answered 2 version 1 =x"))
    ∷ Entry (Skipped (codes "12 end"))
    ∷ Entry (History 2)
    ∷ Entry (Operation 0 (op_of 0 (codes "k") act.Write (Present (codes "x")) 2 (Some 6)))
    ∷ Entry (Operation 1 (op_of 0 (codes "k") act.Read Absent 7 (Some 11)))
    ∷ Entry (Order (codes "k") 1)
    ∷ Entry (At 1)
    ∷ Entry Done
    ∷ []

left_out_lines : spell check_lines left_out_inputs (
    codes "1 rack"
    ∷ codes "2 write 0 seq 1 sends 0"
    ∷ codes "3 switch 0 forwards write k version 1 to server 0 sends 1"
    ∷ codes "4 server 0 applies k version 1 sends 2"
    ∷ codes "5 switch 0 answers client 0 seq 1 version 1 unlisted sends 3"
    ∷ codes "6 client 0 answered 1 version 1"
    ∷ codes "7 read 0 seq 2 sends 4"
    ∷ codes "8 switch 0 forwards read k to server 0 sends 5"
    ∷ codes "9 server 0 reads k version 1 sends 6"
    ∷ codes "10 switch 0 answers client 0 seq 2 version 1 unlisted sends 7"
    ∷ codes "11 client 0 answered 2 version 1 =x"
    ∷ codes "12 end"
    ∷ codes "history 2"
    ∷ codes "op 0 client 0 write k =x issued 2 answered 6"
    ∷ codes "op 1 client 0 read k issued 7 answered 11 -"
    ∷ codes "order k 1"
    ∷ codes "at 1"
    ∷ codes "done"
    ∷ []
    ) ≡ true
unfolding digits left_out_inputs
left_out_lines = refl

left_out_plays :
    shown judges (plays judges check_start left_out_inputs)
    ≡ Some (shows true (lines (
    codes "no missing 0"
    ∷ []
    )) [] [])
unfolding digits played left_out_inputs
left_out_plays = refl

-- an operation of another key stands in the order
unfoldable pub strange_inputs : List (Input CheckEntry)
strange_inputs =
    Entry (Skipped (codes "139 switch 0 answers client 0 seq 1 version 2 kept sends 86"))
    ∷ Entry (Skipped (codes "140 end"))
    ∷ Entry (History 7)
    ∷ Entry (Operation 0 (op_of 0 (codes "d") act.Read Absent 7 (Some 18)))
    ∷ Entry (Operation 1 (op_of 1 (codes "d") act.Read Absent 9 None))
    ∷ Entry (Operation 2 (op_of 0 (codes "d") act.Write (Present (codes "zz")) 39 (Some 59)))
    ∷ Entry (Operation 3 (op_of 0 (codes "d") act.Write (Present (codes "v3")) 62 (Some 127)))
    ∷ Entry (Operation 4 (op_of 1 (codes "d") act.Write (Present (codes "v4")) 103 (Some 4000)))
    ∷ Entry (Operation 5 (op_of 1 (codes "k") act.Write (Present (codes "v5")) 124 (Some 133)))
    ∷ Entry (Operation 6 (op_of 0 (codes "k") act.Read Absent 128 None))
    ∷ Entry (Order (codes "d") 3)
    ∷ Entry (At 0)
    ∷ Entry (At 2)
    ∷ Entry (At 5)
    ∷ Entry (Order (codes "k") 1)
    ∷ Entry (At 3)
    ∷ Entry Done
    ∷ []

strange_lines : spell check_lines strange_inputs (
    codes "139 switch 0 answers client 0 seq 1 version 2 kept sends 86"
    ∷ codes "140 end"
    ∷ codes "history 7"
    ∷ codes "op 0 client 0 read d issued 7 answered 18 -"
    ∷ codes "op 1 client 1 read d issued 9 open"
    ∷ codes "op 2 client 0 write d =zz issued 39 answered 59"
    ∷ codes "op 3 client 0 write d =v3 issued 62 answered 127"
    ∷ codes "op 4 client 1 write d =v4 issued 103 answered 4000"
    ∷ codes "op 5 client 1 write k =v5 issued 124 answered 133"
    ∷ codes "op 6 client 0 read k issued 128 open"
    ∷ codes "order d 3"
    ∷ codes "at 0"
    ∷ codes "at 2"
    ∷ codes "at 5"
    ∷ codes "order k 1"
    ∷ codes "at 3"
    ∷ codes "done"
    ∷ []
    ) ≡ true
unfolding digits strange_inputs
strange_lines = refl

strange_plays :
    shown judges (plays judges check_start strange_inputs)
    ≡ Some (shows true (lines (
    codes "no strange 5"
    ∷ []
    )) [] [])
unfolding digits played strange_inputs
strange_plays = refl

-- two keys, with operations that are not answered
unfoldable pub two_keys_inputs : List (Input CheckEntry)
two_keys_inputs =
    Entry (Skipped (codes "127 switch 1 repeats 5 sends 62"))
    ∷ Entry (Skipped (codes "128 end"))
    ∷ Entry (History 5)
    ∷ Entry (Operation 0 (op_of 1 (codes "c") act.Read Absent 2 (Some 7)))
    ∷ Entry (Operation 1 (op_of 1 (codes "c") act.Read Absent 15 (Some 31)))
    ∷ Entry (Operation 2 (op_of 0 (codes "c") act.Read Absent 20 (Some 104)))
    ∷ Entry (Operation 3 (op_of 1 (codes "c") act.Read Absent 45 None))
    ∷ Entry (Operation 4 (op_of 1 (codes "d") act.Write (Present (codes "v4")) 87 None))
    ∷ Entry (Order (codes "c") 3)
    ∷ Entry (At 0)
    ∷ Entry (At 2)
    ∷ Entry (At 1)
    ∷ Entry (Order (codes "d") 0)
    ∷ Entry Done
    ∷ []

two_keys_lines : spell check_lines two_keys_inputs (
    codes "127 switch 1 repeats 5 sends 62"
    ∷ codes "128 end"
    ∷ codes "history 5"
    ∷ codes "op 0 client 1 read c issued 2 answered 7 -"
    ∷ codes "op 1 client 1 read c issued 15 answered 31 -"
    ∷ codes "op 2 client 0 read c issued 20 answered 104 -"
    ∷ codes "op 3 client 1 read c issued 45 open"
    ∷ codes "op 4 client 1 write d =v4 issued 87 open"
    ∷ codes "order c 3"
    ∷ codes "at 0"
    ∷ codes "at 2"
    ∷ codes "at 1"
    ∷ codes "order d 0"
    ∷ codes "done"
    ∷ []
    ) ≡ true
unfolding digits two_keys_inputs
two_keys_lines = refl

two_keys_plays :
    shown judges (plays judges check_start two_keys_inputs)
    ≡ Some (shows true (lines (
    codes "yes 5 operations 2 keys"
    ∷ []
    )) [] [])
unfolding digits played two_keys_inputs
two_keys_plays = refl

-- an operation stands twice
unfoldable pub twice_inputs : List (Input CheckEntry)
twice_inputs =
    Entry (History 6)
    ∷ Entry (Operation 0 (op_of 1 (codes "e") act.Write (Present (codes "v0")) 11 (Some 16)))
    ∷ Entry (Operation 1 (op_of 1 (codes "e") act.Read Absent 27 None))
    ∷ Entry (Operation 2 (op_of 0 (codes "e") act.Read Absent 32 None))
    ∷ Entry (Operation 3 (op_of 1 (codes "e") act.Write (Present (codes "v3")) 50 None))
    ∷ Entry (Operation 4 (op_of 2 (codes "e") act.Read (Present (codes "v0")) 54 (Some 66)))
    ∷ Entry (Operation 5 (op_of 2 (codes "e") act.Write (Present (codes "v5")) 87 None))
    ∷ Entry (Order (codes "e") 3)
    ∷ Entry (At 0)
    ∷ Entry (At 4)
    ∷ Entry (At 4)
    ∷ Entry Done
    ∷ []

twice_lines : spell check_lines twice_inputs (
    codes "history 6"
    ∷ codes "op 0 client 1 write e =v0 issued 11 answered 16"
    ∷ codes "op 1 client 1 read e issued 27 open"
    ∷ codes "op 2 client 0 read e issued 32 open"
    ∷ codes "op 3 client 1 write e =v3 issued 50 open"
    ∷ codes "op 4 client 2 read e issued 54 answered 66 =v0"
    ∷ codes "op 5 client 2 write e =v5 issued 87 open"
    ∷ codes "order e 3"
    ∷ codes "at 0"
    ∷ codes "at 4"
    ∷ codes "at 4"
    ∷ codes "done"
    ∷ []
    ) ≡ true
unfolding digits twice_inputs
twice_lines = refl

twice_plays :
    shown judges (plays judges check_start twice_inputs)
    ≡ Some (shows true (lines (
    codes "no twice 4"
    ∷ []
    )) [] [])
unfolding digits played twice_inputs
twice_plays = refl

-- an operation stands before one that was answered before it was issued
unfoldable pub late_inputs : List (Input CheckEntry)
late_inputs =
    Entry (History 6)
    ∷ Entry (Operation 0 (op_of 1 (codes "e") act.Write (Present (codes "v0")) 8 None))
    ∷ Entry (Operation 1 (op_of 0 (codes "e") act.Write (Present (codes "v1")) 22 (Some 61)))
    ∷ Entry (Operation 2 (op_of 2 (codes "d") act.Read Absent 57 None))
    ∷ Entry (Operation 3 (op_of 0 (codes "e") act.Write (Present (codes "v3")) 62 (Some 73)))
    ∷ Entry (Operation 4 (op_of 0 (codes "d") act.Write (Present (codes "v4")) 103 (Some 108)))
    ∷ Entry (Operation 5 (op_of 0 (codes "d") act.Write (Present (codes "v5")) 117 (Some 136)))
    ∷ Entry (Order (codes "e") 2)
    ∷ Entry (At 1)
    ∷ Entry (At 3)
    ∷ Entry (Order (codes "d") 2)
    ∷ Entry (At 5)
    ∷ Entry (At 4)
    ∷ Entry Done
    ∷ []

late_lines : spell check_lines late_inputs (
    codes "history 6"
    ∷ codes "op 0 client 1 write e =v0 issued 8 open"
    ∷ codes "op 1 client 0 write e =v1 issued 22 answered 61"
    ∷ codes "op 2 client 2 read d issued 57 open"
    ∷ codes "op 3 client 0 write e =v3 issued 62 answered 73"
    ∷ codes "op 4 client 0 write d =v4 issued 103 answered 108"
    ∷ codes "op 5 client 0 write d =v5 issued 117 answered 136"
    ∷ codes "order e 2"
    ∷ codes "at 1"
    ∷ codes "at 3"
    ∷ codes "order d 2"
    ∷ codes "at 5"
    ∷ codes "at 4"
    ∷ codes "done"
    ∷ []
    ) ≡ true
unfolding digits late_inputs
late_lines = refl

late_plays :
    shown judges (plays judges check_start late_inputs)
    ≡ Some (shows true (lines (
    codes "no late 5 4"
    ∷ []
    )) [] [])
unfolding digits played late_inputs
late_plays = refl
