-- A packet in its ranges is what its bytes are read as, whatever follows them; and the whole bytes
-- are read as it in its format.
use Rattle.std.proofs.Common.{◌≡◌, ℕ, ◌&&◌, true, Some, None, List, if◌then◌else◌, refl, ap, ◌∙◌}
use Rattle.std.proofs.Common.{length, nat_lt, nat_le, [], sym, append-nil}
use Rattle.std.specs.List.{list_all}
use Rattle.std.specs.Str.{bytes_eq}
use Rattle.std.proofs.lemmas.Bool.{and_parts}
use Rattle.std.proofs.lemmas.Slice.Eq.{bytes_eq-Decides}
use Rattle.peg_name.specs.Limits.{format_of}
use Rattle.peg_name.specs.declared.Format.{Format}
use Rattle.peg_name.specs.declared.Format.TheVariants.{One, Two}
use Rattle.peg_model.specs.Packet.{Packet, Read, Write, ToServerRead, ToServerWrite, ReadReply}
use Rattle.peg_model.specs.Packet.{WriteReply, Command, CommandAck, CopyOrder, CopyData, Held}
use Rattle.peg_model.specs.Packet.{Part, Announce, Survey, Report, Fence, Void, Spells}
use Rattle.peg_model.specs.Packet.{format_byte, in_range, spelling, family_in_range, is_positive}
use Rattle.peg_model.specs.Packet.{is_number, is_switch, is_server, is_key, is_content, is_written}
use Rattle.peg_model.specs.Packet.{is_read_content, what_in_range, outcome_in_range, row_in_range}
use Rattle.peg_model.specs.Packet.{part_in_range, are_distinct, keys_of_rows}
use Rattle.peg_model.specs.Reading.{packet_of, if_spelled, one_at, candidate}
use Rattle.peg_grammar.proofs.Places.{IsReadBefore}
use Rattle.peg_grammar.proofs.Read.{begins}
use Rattle.peg_grammar.proofs.Ranges.{family_ranges, number_fits, positive_fits, content_small}
use Rattle.peg_grammar.proofs.Ranges.{written_small, read_small, what_fits, outcome_fits, rows_fit}
use Rattle.peg_grammar.proofs.Ranges.{part_small}
use Rattle.peg_grammar.proofs.Family.{read_back, write_back, to_server_read_back}
use Rattle.peg_grammar.proofs.Family.{to_server_write_back, read_reply_back, write_reply_back}
use Rattle.peg_grammar.proofs.Family.{void_back}
use Rattle.peg_grammar.proofs.Others.{command_back, acknowledgement_back, copy_order_back}
use Rattle.peg_grammar.proofs.Others.{copy_data_back, held_back, part_back, announce_back}
use Rattle.peg_grammar.proofs.Others.{survey_back, report_back, fence_back}

format_back : (format : Format) → format_of (format_byte format) ≡ Some format
format_back One = refl
format_back Two = refl

-- a packet in its ranges is read from its bytes, whatever follows them
pub candidate_back :
    (rest : List ℕ) (format : Format) (p : Packet) → in_range format p ≡ true
    → IsReadBefore rest format p
unfolding in_range
candidate_back rest format (Read client seq key) h =
    let r = family_ranges format client seq 0 0 0 key h in
    read_back rest format client seq key r.client_fits r.seq_fits
candidate_back rest format (Write client seq key content) h =
    let both =
    and_parts (family_in_range format client seq 0 0 0 key) (is_written format content) h
    in
    let r = family_ranges format client seq 0 0 0 key both.0 in
    write_back rest format client seq key content r.client_fits r.seq_fits
    (written_small format content both.1)
candidate_back rest format (ToServerRead client seq server switch key) h =
    let r = family_ranges format client seq 0 server switch key h in
    to_server_read_back rest format client seq server switch key r.client_fits r.seq_fits
candidate_back rest format (ToServerWrite client seq version server switch key content) h =
    let outer =
    and_parts (family_in_range format client seq version server switch key && nat_lt 0 version)
    (is_written format content) h
    in
    let both =
    and_parts (family_in_range format client seq version server switch key) (nat_lt 0 version)
    outer.0
    in
    let r = family_ranges format client seq version server switch key both.0 in
    to_server_write_back rest format client seq version server switch key content r.client_fits
    r.seq_fits r.version_fits (written_small format content outer.1)
candidate_back rest format (ReadReply client seq version server switch key content) h =
    let both =
    and_parts (family_in_range format client seq version server switch key)
    (is_read_content format version content) h
    in
    let r = family_ranges format client seq version server switch key both.0 in
    read_reply_back rest format client seq version server switch key content r.client_fits
    r.seq_fits r.version_fits (read_small format version content both.1)
candidate_back rest format (WriteReply client seq version server switch key) h =
    let both =
    and_parts (family_in_range format client seq version server switch key) (nat_lt 0 version) h
    in
    let r = family_ranges format client seq version server switch key both.0 in
    write_reply_back rest format client seq version server switch key r.client_fits r.seq_fits
    r.version_fits
candidate_back rest format (Command number what) h =
    let both = and_parts (is_positive number) (what_in_range format what) h in
    command_back rest format number what (positive_fits number both.0)
    (what_fits format what both.1)
candidate_back rest format (CommandAck number o) h =
    let both = and_parts (is_positive number) (outcome_in_range format o) h in
    acknowledgement_back rest format number o (positive_fits number both.0)
    (outcome_fits format o both.1)
candidate_back rest format (CopyOrder switch server target key) h =
    copy_order_back rest format switch server target key
candidate_back rest format (CopyData switch server version key content) h =
    let outer =
    and_parts (is_switch switch && is_server format server && is_positive version && is_key key)
    (is_content format content) h
    in
    let both =
    and_parts (is_switch switch && is_server format server && is_positive version) (is_key key)
    outer.0
    in
    let inner =
    and_parts (is_switch switch && is_server format server) (is_positive version) both.0
    in
    copy_data_back rest format switch server version key content (positive_fits version inner.1)
    (content_small format content outer.1)
candidate_back rest format (Held server version key) h =
    let outer = and_parts (is_server format server && is_positive version) (is_key key) h in
    let both = and_parts (is_server format server) (is_positive version) outer.0 in
    held_back rest format server version key (positive_fits version both.1)
candidate_back rest format (Part epoch index count bytes) h =
    let outer =
    and_parts (nat_le 2 epoch && is_number epoch) (part_in_range format index count bytes) h
    in
    let both = and_parts (nat_le 2 epoch) (is_number epoch) outer.0 in
    part_back rest format epoch index count bytes (number_fits epoch both.1)
    (part_small format index count bytes outer.1)
candidate_back rest format (Announce epoch switch) h =
    let both = and_parts (is_positive epoch) (is_switch switch) h in
    announce_back rest format epoch switch (positive_fits epoch both.0)
candidate_back rest format Survey h = survey_back rest format
candidate_back rest format (Report epoch total rows) h =
    let distinct =
    and_parts
    (is_number epoch && is_number total && nat_le (length rows) 12 && list_all row_in_range rows)
    (are_distinct (keys_of_rows rows)) h
    in
    let fit =
    and_parts (is_number epoch && is_number total && nat_le (length rows) 12)
    (list_all row_in_range rows) distinct.0
    in
    let few = and_parts (is_number epoch && is_number total) (nat_le (length rows) 12) fit.0 in
    let numbers = and_parts (is_number epoch) (is_number total) few.0 in
    report_back rest format epoch total rows (number_fits epoch numbers.0)
    (number_fits total numbers.1) (rows_fit rows fit.1)
candidate_back rest format (Fence switch server version key) h =
    let outer =
    and_parts (is_switch switch && is_server format server && is_positive version) (is_key key) h
    in
    let both =
    and_parts (is_switch switch && is_server format server) (is_positive version) outer.0
    in
    fence_back rest format switch server version key (positive_fits version both.1)
candidate_back rest format (Void client seq version server switch key) h =
    let both =
    and_parts (family_in_range format client seq version server switch key) (nat_lt 0 version) h
    in
    let r = family_ranges format client seq version server switch key both.0 in
    void_back rest format client seq version server switch key r.client_fits r.seq_fits
    r.version_fits

-- and the whole bytes are read as it and its format
pub packet_of-spelling :
    (format : Format) (p : Packet) → in_range format p ≡ true
    → packet_of (spelling format p) ≡ Some (format, p)
unfolding packet_of
packet_of-spelling format p ranges =
    let bytes : List ℕ = spelling format p in
    let whole : Format × Packet = (format, p) in
    let same : bytes_eq bytes bytes ≡ true = (bytes_eq-Decides bytes bytes).1 refl in
    let read : candidate bytes ≡ Some p =
    ap candidate (sym (append-nil bytes)) ∙ candidate_back [] format p ranges
    in
    let byte : one_at bytes 2 ≡ format_byte format = ap (λ b. one_at b 2) (begins format p) in
    (λ i. if_spelled bytes (format_of (byte i)) (read i))
    ∙ ap (λ o. if_spelled bytes o (Some p)) (format_back format)
    ∙ (λ i. if ranges i && same i then Some whole else None)

pub Spells-packet_of :
    (bytes : List ℕ) (format : Format) (p : Packet) → Spells bytes format p
    → packet_of bytes ≡ Some (format, p)
Spells-packet_of bytes format p spells =
    ap packet_of spells.spelled ∙ packet_of-spelling format p spells.in_range

-- bytes that are read as nothing are no packet
pub packet_of-None :
    (bytes : List ℕ) → packet_of bytes ≡ None → (format : Format) (p : Packet)
    → Spells bytes format p → ⊥
packet_of-None bytes none format p spells =
    let whole : Format × Packet = (format, p) in
    let read : packet_of bytes ≡ Some whole = Spells-packet_of bytes format p spells in
    cc
