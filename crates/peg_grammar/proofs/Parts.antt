-- Where the parts of a kind stand one after another the bytes are its spelling, and the other way.
use Rattle.std.proofs.Common.{◌≡◌, ℕ, ◌+◌, ◌<◌, ◌≤◌, List, [], ◌∷◌, ◌++◌, length, drop, ap, ◌∙◌}
use Rattle.std.proofs.Common.{sym, arith, append-nil}
use Rattle.std.proofs.lemmas.List.{drop_all, append_cancel_left}
use Rattle.std.specs.List.{flat_map}
use Rattle.peg_name.specs.declared.Format.{Format}
use Rattle.peg_name.specs.declared.value.Content.{Content}
use Rattle.peg_name.specs.declared.Row.{Row}
use Rattle.peg_event.specs.declared.Outcome.{Outcome}
use Rattle.peg_model.specs.Packet.{What, Read, Write, ToServerRead, ToServerWrite, ReadReply}
use Rattle.peg_model.specs.Packet.{WriteReply, Command, CommandAck, CopyOrder, CopyData, Held}
use Rattle.peg_model.specs.Packet.{Part, Announce, Survey, Report, Fence, Void, begin, two, eight}
use Rattle.peg_model.specs.Packet.{key_bytes, content_bytes, what_bytes, outcome_bytes, row_bytes}
use Rattle.peg_model.specs.Packet.{spelling}
use Rattle.peg_model.specs.Reading.{one_at, two_at, eight_at, key_at, past_key, content_at}
use Rattle.peg_grammar.proofs.Lay.{one_then, eight_then, begun_then}

-- the bytes of a number at its place
abbrev pub EightOn : List ℕ → ℕ → Type 0
EightOn bytes i = drop i bytes ≡ eight (eight_at bytes i) ++ drop (i + 8) bytes

abbrev pub Begun : Format → ℕ → List ℕ → Type 0
Begun format kind bytes = bytes ≡ begin format kind ++ drop 4 bytes

-- ---- the client family

abbrev pub HeadOn : List ℕ → Type 0
HeadOn bytes =
    drop 4 bytes
    ≡ two (two_at bytes 4)
    ++ (eight (eight_at bytes 6)
    ++ (eight (eight_at bytes 14)
    ++ (one_at bytes 22 ∷ one_at bytes 23 ∷ drop 24 bytes)))

head_then : (bytes rest : List ℕ) → HeadOn bytes → drop 24 bytes ≡ rest
    → drop 4 bytes
    ≡ two (two_at bytes 4)
    ++ (eight (eight_at bytes 6)
    ++ (eight (eight_at bytes 14) ++ (one_at bytes 22 ∷ one_at bytes 23 ∷ rest)))
head_then bytes rest h r =
    h
    ∙ ap
    (λ t. two (two_at bytes 4)
    ++ (eight (eight_at bytes 6)
    ++ (eight (eight_at bytes 14) ++ (one_at bytes 22 ∷ one_at bytes 23 ∷ t))))
    r

pub family_whole :
    (format : Format) (kind : ℕ) (bytes rest : List ℕ) → Begun format kind bytes → HeadOn bytes
    → drop 24 bytes ≡ rest
    → bytes
    ≡ begin format kind
    ++ (two (two_at bytes 4)
    ++ (eight (eight_at bytes 6)
    ++ (eight (eight_at bytes 14) ++ (one_at bytes 22 ∷ one_at bytes 23 ∷ rest))))
family_whole format kind bytes rest begun h r =
    begun_then format kind bytes
    (two (two_at bytes 4)
    ++ (eight (eight_at bytes 6)
    ++ (eight (eight_at bytes 14) ++ (one_at bytes 22 ∷ one_at bytes 23 ∷ rest))))
    begun (head_then bytes rest h r)

-- a request, whose version, server and switch are 0
pub request_whole :
    (format : Format) (kind : ℕ) (bytes rest : List ℕ) → Begun format kind bytes → HeadOn bytes
    → drop 24 bytes ≡ rest
    → eight_at bytes 14 ≡ 0 → one_at bytes 22 ≡ 0 → one_at bytes 23 ≡ 0
    → bytes
    ≡ begin format kind
    ++ (two (two_at bytes 4) ++ (eight (eight_at bytes 6) ++ (eight 0 ++ (0 ∷ 0 ∷ rest))))
request_whole format kind bytes rest begun h r v s w =
    family_whole format kind bytes rest begun h r
    ∙ (λ i. begin format kind
    ++ (two (two_at bytes 4)
    ++ (eight (eight_at bytes 6) ++ (eight (v i) ++ (s i ∷ w i ∷ rest)))))

pub unversioned_whole :
    (format : Format) (kind : ℕ) (bytes rest : List ℕ) → Begun format kind bytes → HeadOn bytes
    → drop 24 bytes ≡ rest
    → eight_at bytes 14 ≡ 0
    → bytes
    ≡ begin format kind
    ++ (two (two_at bytes 4)
    ++ (eight (eight_at bytes 6)
    ++ (eight 0 ++ (one_at bytes 22 ∷ one_at bytes 23 ∷ rest))))
unversioned_whole format kind bytes rest begun h r v =
    family_whole format kind bytes rest begun h r
    ∙ (λ i. begin format kind
    ++ (two (two_at bytes 4)
    ++ (eight (eight_at bytes 6)
    ++ (eight (v i) ++ (one_at bytes 22 ∷ one_at bytes 23 ∷ rest)))))

-- the fields at their places, and a key or a key and a content at the end
abbrev pub KeyEnds : List ℕ → ℕ → Type 0
KeyEnds bytes at = drop at bytes ≡ key_bytes (key_at bytes at)

abbrev pub PairEnds : List ℕ → ℕ → Type 0
PairEnds bytes at =
    drop at bytes
    ≡ key_bytes (key_at bytes at) ++ content_bytes (content_at bytes (past_key bytes at))

pub read_whole :
    (format : Format) (bytes : List ℕ) → Begun format 1 bytes → HeadOn bytes → KeyEnds bytes 24
    → eight_at bytes 14 ≡ 0 → one_at bytes 22 ≡ 0 → one_at bytes 23 ≡ 0
    → bytes ≡ spelling format (Read (two_at bytes 4) (eight_at bytes 6) (key_at bytes 24))
unfolding spelling
read_whole format bytes begun h k v s w =
    request_whole format 1 bytes (key_bytes (key_at bytes 24)) begun h k v s w

pub write_whole :
    (format : Format) (bytes : List ℕ) → Begun format 2 bytes → HeadOn bytes → PairEnds bytes 24
    → eight_at bytes 14 ≡ 0 → one_at bytes 22 ≡ 0 → one_at bytes 23 ≡ 0
    → bytes
    ≡ spelling format
    (Write (two_at bytes 4) (eight_at bytes 6) (key_at bytes 24)
    (content_at bytes (past_key bytes 24)))
unfolding spelling
write_whole format bytes begun h k v s w =
    request_whole format 2 bytes
    (key_bytes (key_at bytes 24) ++ content_bytes (content_at bytes (past_key bytes 24))) begun
    h k v s w

pub to_server_read_whole :
    (format : Format) (bytes : List ℕ) → Begun format 3 bytes → HeadOn bytes → KeyEnds bytes 24
    → eight_at bytes 14 ≡ 0
    → bytes
    ≡ spelling format
    (ToServerRead (two_at bytes 4) (eight_at bytes 6) (one_at bytes 22) (one_at bytes 23)
    (key_at bytes 24))
unfolding spelling
to_server_read_whole format bytes begun h k v =
    unversioned_whole format 3 bytes (key_bytes (key_at bytes 24)) begun h k v

pub to_server_write_whole :
    (format : Format) (bytes : List ℕ) → Begun format 4 bytes → HeadOn bytes → PairEnds bytes 24
    → bytes
    ≡ spelling format
    (ToServerWrite (two_at bytes 4) (eight_at bytes 6) (eight_at bytes 14) (one_at bytes 22)
    (one_at bytes 23) (key_at bytes 24) (content_at bytes (past_key bytes 24)))
unfolding spelling
to_server_write_whole format bytes begun h k =
    family_whole format 4 bytes
    (key_bytes (key_at bytes 24) ++ content_bytes (content_at bytes (past_key bytes 24))) begun
    h k

pub read_reply_whole :
    (format : Format) (bytes : List ℕ) → Begun format 5 bytes → HeadOn bytes → PairEnds bytes 24
    → bytes
    ≡ spelling format
    (ReadReply (two_at bytes 4) (eight_at bytes 6) (eight_at bytes 14) (one_at bytes 22)
    (one_at bytes 23) (key_at bytes 24) (content_at bytes (past_key bytes 24)))
unfolding spelling
read_reply_whole format bytes begun h k =
    family_whole format 5 bytes
    (key_bytes (key_at bytes 24) ++ content_bytes (content_at bytes (past_key bytes 24))) begun
    h k

pub write_reply_whole :
    (format : Format) (bytes : List ℕ) → Begun format 6 bytes → HeadOn bytes → KeyEnds bytes 24
    → bytes
    ≡ spelling format
    (WriteReply (two_at bytes 4) (eight_at bytes 6) (eight_at bytes 14) (one_at bytes 22)
    (one_at bytes 23) (key_at bytes 24))
unfolding spelling
write_reply_whole format bytes begun h k =
    family_whole format 6 bytes (key_bytes (key_at bytes 24)) begun h k

pub void_whole :
    (format : Format) (bytes : List ℕ) → Begun format 17 bytes → HeadOn bytes → KeyEnds bytes 24
    → bytes
    ≡ spelling format
    (Void (two_at bytes 4) (eight_at bytes 6) (eight_at bytes 14) (one_at bytes 22)
    (one_at bytes 23) (key_at bytes 24))
unfolding spelling
void_whole format bytes begun h k =
    family_whole format 17 bytes (key_bytes (key_at bytes 24)) begun h k

-- what follows a key that ends nothing
pub pair_none :
    (bytes : List ℕ) (at next : ℕ) → next ≡ past_key bytes at
    → drop at bytes ≡ key_bytes (key_at bytes at) ++ drop next bytes
    → (drop next bytes ≡ content_bytes (content_at bytes next) → ⊥) → PairEnds bytes at → ⊥
pair_none bytes at next is whole never ends =
    let rest : drop next bytes ≡ content_bytes (content_at bytes (past_key bytes at)) =
    append_cancel_left (key_bytes (key_at bytes at)) (drop next bytes)
    (content_bytes (content_at bytes (past_key bytes at))) (sym whole ∙ ends)
    in
    never (rest ∙ ap (λ n. content_bytes (content_at bytes n)) (sym is))

pub key_none :
    (bytes : List ℕ) (at : ℕ)
    → ((tail : List ℕ) → drop at bytes ≡ key_bytes (key_at bytes at) ++ tail → ⊥)
    → KeyEnds bytes at → ⊥
key_none bytes at never ends = never [] (ends ∙ sym (append-nil (key_bytes (key_at bytes at))))

-- what a spelling says of the bytes
pub read_says :
    (format : Format) (client seq : ℕ) (key bytes : List ℕ)
    → bytes ≡ spelling format (Read client seq key)
    → (drop 24 bytes ≡ key_bytes key) × (eight_at bytes 14 ≡ 0) × (one_at bytes 22 ≡ 0)
    × (one_at bytes 23 ≡ 0)
unfolding spelling
read_says format client seq key bytes e =
    (ap (drop 24) e, ap (λ b. eight_at b 14) e, ap (λ b. one_at b 22) e, ap (λ b. one_at b 23) e)

pub write_says :
    (format : Format) (client seq : ℕ) (key : List ℕ) (content : Content) (bytes : List ℕ)
    → bytes ≡ spelling format (Write client seq key content)
    → (drop 24 bytes ≡ key_bytes key ++ content_bytes content) × (eight_at bytes 14 ≡ 0)
    × (one_at bytes 22 ≡ 0) × (one_at bytes 23 ≡ 0)
unfolding spelling
write_says format client seq key content bytes e =
    (ap (drop 24) e, ap (λ b. eight_at b 14) e, ap (λ b. one_at b 22) e, ap (λ b. one_at b 23) e)

pub to_server_read_says :
    (format : Format) (client seq server switch : ℕ) (key bytes : List ℕ)
    → bytes ≡ spelling format (ToServerRead client seq server switch key)
    → (drop 24 bytes ≡ key_bytes key) × (eight_at bytes 14 ≡ 0)
unfolding spelling
to_server_read_says format client seq server switch key bytes e =
    (ap (drop 24) e, ap (λ b. eight_at b 14) e)

pub to_server_write_says :
    (format : Format) (client seq version server switch : ℕ) (key : List ℕ) (content : Content)
    (bytes : List ℕ)
    → bytes ≡ spelling format (ToServerWrite client seq version server switch key content)
    → drop 24 bytes ≡ key_bytes key ++ content_bytes content
unfolding spelling
to_server_write_says format client seq version server switch key content bytes e = ap (drop 24) e

pub read_reply_says :
    (format : Format) (client seq version server switch : ℕ) (key : List ℕ) (content : Content)
    (bytes : List ℕ)
    → bytes ≡ spelling format (ReadReply client seq version server switch key content)
    → drop 24 bytes ≡ key_bytes key ++ content_bytes content
unfolding spelling
read_reply_says format client seq version server switch key content bytes e = ap (drop 24) e

pub write_reply_says :
    (format : Format) (client seq version server switch : ℕ) (key bytes : List ℕ)
    → bytes ≡ spelling format (WriteReply client seq version server switch key)
    → drop 24 bytes ≡ key_bytes key
unfolding spelling
write_reply_says format client seq version server switch key bytes e = ap (drop 24) e

pub void_says : (format : Format) (client seq version server switch : ℕ) (key bytes : List ℕ)
    → bytes ≡ spelling format (Void client seq version server switch key)
    → drop 24 bytes ≡ key_bytes key
unfolding spelling
void_says format client seq version server switch key bytes e = ap (drop 24) e

-- ---- the others

pub command_says :
    (format : Format) (number : ℕ) (what : What) (bytes : List ℕ)
    → bytes ≡ spelling format (Command number what) → drop 12 bytes ≡ what_bytes what
unfolding spelling
command_says format number what bytes e = ap (drop 12) e

pub command_whole :
    (format : Format) (bytes : List ℕ) (what : What) → Begun format 7 bytes → EightOn bytes 4
    → drop 12 bytes ≡ what_bytes what → bytes ≡ spelling format (Command (eight_at bytes 4) what)
unfolding spelling
command_whole format bytes what begun e w =
    begun_then format 7 bytes (eight (eight_at bytes 4) ++ what_bytes what) begun
    (eight_then bytes (what_bytes what) 4 e w)

pub acknowledgement_says :
    (format : Format) (number : ℕ) (o : Outcome) (bytes : List ℕ)
    → bytes ≡ spelling format (CommandAck number o) → drop 12 bytes ≡ outcome_bytes o
unfolding spelling
acknowledgement_says format number o bytes e = ap (drop 12) e

pub acknowledgement_whole :
    (format : Format) (bytes : List ℕ) (o : Outcome) → Begun format 8 bytes → EightOn bytes 4
    → drop 12 bytes ≡ outcome_bytes o → bytes ≡ spelling format (CommandAck (eight_at bytes 4) o)
unfolding spelling
acknowledgement_whole format bytes o begun e w =
    begun_then format 8 bytes (eight (eight_at bytes 4) ++ outcome_bytes o) begun
    (eight_then bytes (outcome_bytes o) 4 e w)

pub copy_order_says :
    (format : Format) (switch server target : ℕ) (key bytes : List ℕ)
    → bytes ≡ spelling format (CopyOrder switch server target key) → drop 7 bytes ≡ key_bytes key
unfolding spelling
copy_order_says format switch server target key bytes e = ap (drop 7) e

pub copy_order_whole :
    (format : Format) (bytes key : List ℕ) → Begun format 9 bytes → 7 < length bytes
    → drop 7 bytes ≡ key_bytes key
    → bytes ≡ spelling format (CopyOrder (one_at bytes 4) (one_at bytes 5) (one_at bytes 6) key)
unfolding spelling
copy_order_whole format bytes key begun long k =
    let six = one_then bytes (key_bytes key) 6 (omega arith) k in
    let five = one_then bytes (one_at bytes 6 ∷ key_bytes key) 5 (omega arith) six in
    let four =
    one_then bytes (one_at bytes 5 ∷ one_at bytes 6 ∷ key_bytes key) 4 (omega arith) five
    in
    begun_then format 9 bytes (one_at bytes 4 ∷ one_at bytes 5 ∷ one_at bytes 6 ∷ key_bytes key)
    begun four

-- a switch, a server, a version and more
versioned :
    (bytes rest : List ℕ) → 6 < length bytes → EightOn bytes 6 → drop 14 bytes ≡ rest
    → drop 4 bytes ≡ one_at bytes 4 ∷ one_at bytes 5 ∷ (eight (eight_at bytes 6) ++ rest)
versioned bytes rest long e k =
    let six = eight_then bytes rest 6 e k in
    let five = one_then bytes (eight (eight_at bytes 6) ++ rest) 5 (omega arith) six in
    one_then bytes (one_at bytes 5 ∷ (eight (eight_at bytes 6) ++ rest)) 4 (omega arith) five

pub copy_data_says :
    (format : Format) (switch server version : ℕ) (key : List ℕ) (content : Content)
    (bytes : List ℕ)
    → bytes ≡ spelling format (CopyData switch server version key content)
    → drop 14 bytes ≡ key_bytes key ++ content_bytes content
unfolding spelling
copy_data_says format switch server version key content bytes e = ap (drop 14) e

pub copy_data_whole :
    (format : Format) (bytes key : List ℕ) (content : Content) → Begun format 10 bytes
    → 6 < length bytes → EightOn bytes 6 → drop 14 bytes ≡ key_bytes key ++ content_bytes content
    → bytes
    ≡ spelling format (CopyData (one_at bytes 4) (one_at bytes 5) (eight_at bytes 6) key content)
unfolding spelling
copy_data_whole format bytes key content begun long e k =
    begun_then format 10 bytes
    (one_at bytes 4 ∷ one_at bytes 5
    ∷ (eight (eight_at bytes 6) ++ (key_bytes key ++ content_bytes content)))
    begun
    (versioned bytes (key_bytes key ++ content_bytes content) long e k)

pub fence_says :
    (format : Format) (switch server version : ℕ) (key bytes : List ℕ)
    → bytes ≡ spelling format (Fence switch server version key) → drop 14 bytes ≡ key_bytes key
unfolding spelling
fence_says format switch server version key bytes e = ap (drop 14) e

pub fence_whole :
    (format : Format) (bytes key : List ℕ) → Begun format 16 bytes → 6 < length bytes
    → EightOn bytes 6 → drop 14 bytes ≡ key_bytes key
    → bytes ≡ spelling format (Fence (one_at bytes 4) (one_at bytes 5) (eight_at bytes 6) key)
unfolding spelling
fence_whole format bytes key begun long e k =
    begun_then format 16 bytes
    (one_at bytes 4 ∷ one_at bytes 5 ∷ (eight (eight_at bytes 6) ++ key_bytes key)) begun
    (versioned bytes (key_bytes key) long e k)

pub held_says :
    (format : Format) (server version : ℕ) (key bytes : List ℕ)
    → bytes ≡ spelling format (Held server version key) → drop 13 bytes ≡ key_bytes key
unfolding spelling
held_says format server version key bytes e = ap (drop 13) e

pub held_whole :
    (format : Format) (bytes key : List ℕ) → Begun format 11 bytes → 4 < length bytes
    → EightOn bytes 5 → drop 13 bytes ≡ key_bytes key
    → bytes ≡ spelling format (Held (one_at bytes 4) (eight_at bytes 5) key)
unfolding spelling
held_whole format bytes key begun long e k =
    begun_then format 11 bytes (one_at bytes 4 ∷ (eight (eight_at bytes 5) ++ key_bytes key)) begun
    (one_then bytes (eight (eight_at bytes 5) ++ key_bytes key) 4 long
    (eight_then bytes (key_bytes key) 5 e k))

pub part_says :
    (format : Format) (epoch index count : ℕ) (part bytes : List ℕ)
    → bytes ≡ spelling format (Part epoch index count part)
    → drop 14 bytes ≡ two (length part) ++ part
unfolding spelling
part_says format epoch index count part bytes e = ap (drop 14) e

pub part_whole :
    (format : Format) (bytes part : List ℕ) → Begun format 12 bytes → 13 < length bytes
    → EightOn bytes 4 → drop 14 bytes ≡ two (length part) ++ part
    → bytes ≡ spelling format (Part (eight_at bytes 4) (one_at bytes 12) (one_at bytes 13) part)
unfolding spelling
part_whole format bytes part begun long e k =
    let rest : List ℕ = two (length part) ++ part in
    let thirteen = one_then bytes rest 13 long k in
    let twelve = one_then bytes (one_at bytes 13 ∷ rest) 12 (omega arith) thirteen in
    begun_then format 12 bytes
    (eight (eight_at bytes 4) ++ (one_at bytes 12 ∷ one_at bytes 13 ∷ rest)) begun
    (eight_then bytes (one_at bytes 12 ∷ one_at bytes 13 ∷ rest) 4 e twelve)

pub announce_says :
    (format : Format) (epoch switch : ℕ) (bytes : List ℕ)
    → bytes ≡ spelling format (Announce epoch switch) → length bytes ≡ 13
unfolding spelling
announce_says format epoch switch bytes e = ap length e

pub announce_whole :
    (format : Format) (bytes : List ℕ) → Begun format 13 bytes → length bytes ≡ 13
    → EightOn bytes 4 → bytes ≡ spelling format (Announce (eight_at bytes 4) (one_at bytes 12))
unfolding spelling
announce_whole format bytes begun long e =
    begun_then format 13 bytes (eight (eight_at bytes 4) ++ (one_at bytes 12 ∷ [])) begun
    (eight_then bytes (one_at bytes 12 ∷ []) 4 e
    (one_then bytes [] 12 (omega arith) (drop_all 13 bytes (omega arith))))

pub survey_says :
    (format : Format) (bytes : List ℕ) → bytes ≡ spelling format Survey → length bytes ≡ 4
unfolding spelling
survey_says format bytes e = ap length e

pub survey_whole :
    (format : Format) (bytes : List ℕ) → Begun format 14 bytes → length bytes ≡ 4
    → bytes ≡ spelling format Survey
unfolding spelling
survey_whole format bytes begun long =
    begun_then format 14 bytes [] begun (drop_all 4 bytes (omega arith))

pub report_says :
    (format : Format) (epoch total : ℕ) (rows : List Row) (bytes : List ℕ)
    → bytes ≡ spelling format (Report epoch total rows)
    → (21 ≤ length bytes) × (one_at bytes 20 ≡ length rows)
    × (drop 21 bytes ≡ flat_map row_bytes rows)
unfolding spelling
report_says format epoch total rows bytes e =
    let long : length bytes ≡ length (spelling format (Report epoch total rows)) = ap length e in
    (omega (arith, long), ap (λ b. one_at b 20) e, ap (drop 21) e)

pub report_whole :
    (format : Format) (bytes : List ℕ) (rows : List Row) → Begun format 15 bytes
    → 21 ≤ length bytes → EightOn bytes 4 → EightOn bytes 12
    → one_at bytes 20 ≡ length rows → drop 21 bytes ≡ flat_map row_bytes rows
    → bytes ≡ spelling format (Report (eight_at bytes 4) (eight_at bytes 12) rows)
unfolding spelling
report_whole format bytes rows begun long e t n r =
    let rest : List ℕ = flat_map row_bytes rows in
    let twenty : drop 20 bytes ≡ length rows ∷ rest =
    one_then bytes rest 20 (omega arith) r ∙ ap (λ k. k ∷ rest) n
    in
    let twelve = eight_then bytes (length rows ∷ rest) 12 t twenty in
    begun_then format 15 bytes
    (eight (eight_at bytes 4) ++ (eight (eight_at bytes 12) ++ (length rows ∷ rest))) begun
    (eight_then bytes (eight (eight_at bytes 12) ++ (length rows ∷ rest)) 4 e twelve)
