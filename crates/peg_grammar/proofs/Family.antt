-- What each kind of the client family spells is read as it, whatever follows.
use Rattle.std.proofs.Common.{◌≡◌, ℕ, ◌^◌, ◌<◌, Some, List, [], ◌++◌, length, take, ap}
use Rattle.std.proofs.Common.{◌∙◌, arith, append_assoc}
use Rattle.std.proofs.Math.Seq.{take-append_seam}
use Rattle.peg_name.specs.declared.Format.{Format}
use Rattle.peg_name.specs.declared.value.Content.{Content}
use Rattle.peg_model.specs.Packet.{Read, Write, ToServerRead, ToServerWrite, ReadReply, WriteReply}
use Rattle.peg_model.specs.Packet.{Void, family, content_bytes, spelling}
use Rattle.peg_model.specs.Reading.{content_at, past_key}
use Rattle.peg_grammar.proofs.Places.{two_back, eight_back, IsSmall, IsReadBefore, content_behind}

-- a content behind a front
pub content_back :
    (rest front : List ℕ) (content : Content) (i : ℕ) → i ≡ length front → IsSmall content
    → content_at (front ++ content_bytes content ++ rest) i ≡ content
content_back rest front content i at small =
    (λ j. content_at (append_assoc front (content_bytes content) rest j) (at j))
    ∙ content_behind front content rest small

-- a key before a content
pub key_back :
    (rest key : List ℕ) (content : Content)
    → take (length key) (key ++ content_bytes content ++ rest) ≡ key
key_back rest key content =
    ap (take (length key)) (append_assoc key (content_bytes content) rest)
    ∙ take-append_seam key (content_bytes content ++ rest)

-- the content behind the key of a packet of the family
family_content :
    (rest : List ℕ) (format : Format) (kind client seq version server switch : ℕ) (key : List ℕ)
    (content : Content) → IsSmall content
    → let front : List ℕ = family format kind client seq version server switch key in
    let bytes : List ℕ = front ++ content_bytes content ++ rest in
    content_at bytes (past_key bytes 24) ≡ content
family_content rest format kind client seq version server switch key content small =
    let front : List ℕ = family format kind client seq version server switch key in
    let bytes : List ℕ = front ++ content_bytes content ++ rest in
    content_back rest front content (past_key bytes 24) (omega arith) small

pub read_back :
    (rest : List ℕ) (format : Format) (client seq : ℕ) (key : List ℕ) → client < 2 ^ 16
    → seq < 2 ^ 64 → IsReadBefore rest format (Read client seq key)
unfolding spelling
read_back rest format client seq key c s =
    λ i. Some (Read (two_back client [] c i) (eight_back seq [] s i) (take-append_seam key rest i))

pub write_back :
    (rest : List ℕ) (format : Format) (client seq : ℕ) (key : List ℕ) (content : Content)
    → client < 2 ^ 16 → seq < 2 ^ 64 → IsSmall content
    → IsReadBefore rest format (Write client seq key content)
unfolding spelling
write_back rest format client seq key content c s small =
    let whole = family_content rest format 2 client seq 0 0 0 key content small in
    λ i. Some (Write (two_back client [] c i) (eight_back seq [] s i) (key_back rest key content i)
    (whole i))

pub to_server_read_back :
    (rest : List ℕ) (format : Format) (client seq server switch : ℕ) (key : List ℕ)
    → client < 2 ^ 16 → seq < 2 ^ 64
    → IsReadBefore rest format (ToServerRead client seq server switch key)
unfolding spelling
to_server_read_back rest format client seq server switch key c s =
    λ i. Some (ToServerRead (two_back client [] c i) (eight_back seq [] s i) server switch
    (take-append_seam key rest i))

pub to_server_write_back :
    (rest : List ℕ) (format : Format) (client seq version server switch : ℕ) (key : List ℕ)
    (content : Content) → client < 2 ^ 16 → seq < 2 ^ 64 → version < 2 ^ 64 → IsSmall content
    → IsReadBefore rest format (ToServerWrite client seq version server switch key content)
unfolding spelling
to_server_write_back rest format client seq version server switch key content c s v small =
    let whole = family_content rest format 4 client seq version server switch key content small in
    λ i. Some (ToServerWrite (two_back client [] c i) (eight_back seq [] s i)
    (eight_back version [] v i) server switch (key_back rest key content i) (whole i))

pub read_reply_back :
    (rest : List ℕ) (format : Format) (client seq version server switch : ℕ) (key : List ℕ)
    (content : Content) → client < 2 ^ 16 → seq < 2 ^ 64 → version < 2 ^ 64 → IsSmall content
    → IsReadBefore rest format (ReadReply client seq version server switch key content)
unfolding spelling
read_reply_back rest format client seq version server switch key content c s v small =
    let whole = family_content rest format 5 client seq version server switch key content small in
    λ i. Some (ReadReply (two_back client [] c i) (eight_back seq [] s i)
    (eight_back version [] v i) server switch (key_back rest key content i) (whole i))

pub write_reply_back :
    (rest : List ℕ) (format : Format) (client seq version server switch : ℕ) (key : List ℕ)
    → client < 2 ^ 16 → seq < 2 ^ 64 → version < 2 ^ 64
    → IsReadBefore rest format (WriteReply client seq version server switch key)
unfolding spelling
write_reply_back rest format client seq version server switch key c s v =
    λ i. Some (WriteReply (two_back client [] c i) (eight_back seq [] s i)
    (eight_back version [] v i) server switch (take-append_seam key rest i))

pub void_back :
    (rest : List ℕ) (format : Format) (client seq version server switch : ℕ) (key : List ℕ)
    → client < 2 ^ 16 → seq < 2 ^ 64 → version < 2 ^ 64
    → IsReadBefore rest format (Void client seq version server switch key)
unfolding spelling
void_back rest format client seq version server switch key c s v =
    λ i. Some (Void (two_back client [] c i) (eight_back seq [] s i) (eight_back version [] v i)
    server switch (take-append_seam key rest i))
