-- What bytes are read as, from what is known of their parts.
use Rattle.std.proofs.Common.{◌≡◌, ℕ, true, false, ◌&&◌, Option, Some, None, List, ◌++◌}
use Rattle.std.proofs.Common.{drop, refl, ap, sym, ◌∙◌, arith, subst, lit≤, ◌≤◌}
use Rattle.peg_name.specs.declared.Format.{Format}
use Rattle.peg_name.specs.declared.Format.TheVariants.{One, Two}
use Rattle.peg_model.specs.Packet.{Packet, Read, Write, ToServerRead, ToServerWrite, ReadReply}
use Rattle.peg_model.specs.Packet.{WriteReply, Command, CommandAck, CopyOrder, CopyData, Held}
use Rattle.peg_model.specs.Packet.{Part, Announce, Survey, Report, Fence, Void}
use Rattle.peg_model.specs.Packet.{format_byte, begin, in_range, spelling}
use Rattle.peg_model.specs.Reading.{packet_of, if_spelled, one_at, candidate}
use Rattle.peg_name.specs.Limits.{format_of}
use Rattle.std.specs.Str.{bytes_eq}
use Rattle.peg_grammar.proofs.Spelled.{packet_of-Spells, if_some}

-- a spelling begins with its format and its kind
pub begins :
    (format : Format) (p : Packet)
    → spelling format p ≡ begin format (one_at (spelling format p) 3) ++ drop 4 (spelling format p)
unfolding spelling
begins format (Read client seq key) = refl
begins format (Write client seq key content) = refl
begins format (ToServerRead client seq server switch key) = refl
begins format (ToServerWrite client seq version server switch key content) = refl
begins format (ReadReply client seq version server switch key content) = refl
begins format (WriteReply client seq version server switch key) = refl
begins format (Command number what) = refl
begins format (CommandAck number outcome) = refl
begins format (CopyOrder switch server target key) = refl
begins format (CopyData switch server version key content) = refl
begins format (Held server version key) = refl
begins format (Part epoch index count bytes) = refl
begins format (Announce epoch switch) = refl
begins format Survey = refl
begins format (Report epoch total rows) = refl
begins format (Fence switch server version key) = refl
begins format (Void client seq version server switch key) = refl

pub same_format : (f g : Format) → format_byte f ≡ format_byte g → f ≡ g
same_format One One e = refl
same_format Two Two e = refl
same_format One Two e = absurd (omega arith)
same_format Two One e = absurd (omega arith)

if_spelled-candidate :
    (bytes : List ℕ) (o : Option Format) (c : Option Packet) (format : Format) (p : Packet)
    → if_spelled bytes o c ≡ Some (format, p) → c ≡ Some p
if_spelled-candidate bytes (Some f) (Some q) format p e =
    let read : Format × Packet = (f, q) in
    let wanted : Format × Packet = (format, p) in
    let parts = if_some (in_range f q && bytes_eq bytes (spelling f q)) read wanted e in
    ap (λ r. Some (r.1)) parts.1
if_spelled-candidate bytes (Some f) None format p e = absurd cc
if_spelled-candidate bytes None c format p e = absurd cc

pub packet_of-candidate :
    (bytes : List ℕ) (format : Format) (p : Packet) → packet_of bytes ≡ Some (format, p)
    → candidate bytes ≡ Some p
unfolding packet_of
packet_of-candidate bytes format p e =
    if_spelled-candidate bytes (format_of (one_at bytes 2)) (candidate bytes) format p e

absent_at :
    (bytes : List ℕ) (o : Option (Format × Packet)) → packet_of bytes ≡ o
    → ((format : Format) (p : Packet) → packet_of bytes ≡ Some (format, p) → ⊥)
    → packet_of bytes ≡ None
absent_at bytes None e never = e
absent_at bytes (Some r) e never = absurd (never r.0 r.1 e)

pub packet_of-absent :
    (bytes : List ℕ) → ((format : Format) (p : Packet) → packet_of bytes ≡ Some (format, p) → ⊥)
    → packet_of bytes ≡ None
packet_of-absent bytes never = absent_at bytes (packet_of bytes) refl never

-- bytes that begin as no packet
pub unbegun :
    (bytes : List ℕ)
    → ((format : Format) (kind : ℕ) (rest : List ℕ) → bytes ≡ begin format kind ++ rest → ⊥)
    → packet_of bytes ≡ None
unbegun bytes never =
    packet_of-absent bytes
    (λ format p e. never format (one_at (spelling format p) 3) (drop 4 (spelling format p))
    ((packet_of-Spells bytes format p e).spelled ∙ begins format p))

-- bytes of a format whose candidate is not spelled by them in its ranges
pub unspelled :
    (bytes : List ℕ) (format : Format) (kind : ℕ) → bytes ≡ begin format kind ++ drop 4 bytes
    → ((p : Packet) → candidate bytes ≡ Some p → in_range format p ≡ true
    → bytes ≡ spelling format p → ⊥)
    → packet_of bytes ≡ None
unspelled bytes format kind begun never =
    packet_of-absent bytes
    (λ f p e. let spells = packet_of-Spells bytes f p e in
    let same : f ≡ format =
    same_format f format
    (sym (ap (λ b. one_at b 2) (spells.spelled ∙ begins f p)) ∙ ap (λ b. one_at b 2) begun)
    in
    let ranges : in_range format p ≡ true = ap (λ g. in_range g p) (sym same) ∙ spells.in_range in
    never p (packet_of-candidate bytes f p e) ranges
    (spells.spelled ∙ ap (λ g. spelling g p) same))

-- the same where the candidate is out of its ranges
pub out_of_range :
    (bytes : List ℕ) (format : Format) (kind : ℕ) (q : Packet)
    → bytes ≡ begin format kind ++ drop 4 bytes
    → candidate bytes ≡ Some q → in_range format q ≡ false → packet_of bytes ≡ None
out_of_range bytes format kind q begun read out =
    unspelled bytes format kind begun
    (λ p is ranges spelled. let same : p ≡ q = cc in
    let wrong : in_range format q ≡ true = ap (in_range format) (sym same) ∙ ranges in
    cc)

kind_between :
    (format : Format) (p : Packet)
    → (1 ≤ one_at (spelling format p) 3) × (one_at (spelling format p) 3 ≤ 17)
unfolding spelling
kind_between format (Read client seq key) = (lit≤ tt, lit≤ tt)
kind_between format (Write client seq key content) = (lit≤ tt, lit≤ tt)
kind_between format (ToServerRead client seq server switch key) = (lit≤ tt, lit≤ tt)
kind_between format (ToServerWrite client seq version server switch key content) =
    (lit≤ tt, lit≤ tt)
kind_between format (ReadReply client seq version server switch key content) = (lit≤ tt, lit≤ tt)
kind_between format (WriteReply client seq version server switch key) = (lit≤ tt, lit≤ tt)
kind_between format (Command number what) = (lit≤ tt, lit≤ tt)
kind_between format (CommandAck number outcome) = (lit≤ tt, lit≤ tt)
kind_between format (CopyOrder switch server target key) = (lit≤ tt, lit≤ tt)
kind_between format (CopyData switch server version key content) = (lit≤ tt, lit≤ tt)
kind_between format (Held server version key) = (lit≤ tt, lit≤ tt)
kind_between format (Part epoch index count bytes) = (lit≤ tt, lit≤ tt)
kind_between format (Announce epoch switch) = (lit≤ tt, lit≤ tt)
kind_between format Survey = (lit≤ tt, lit≤ tt)
kind_between format (Report epoch total rows) = (lit≤ tt, lit≤ tt)
kind_between format (Fence switch server version key) = (lit≤ tt, lit≤ tt)
kind_between format (Void client seq version server switch key) = (lit≤ tt, lit≤ tt)

-- the kind byte of a packet
pub kind_range :
    (format : Format) (p : Packet) (bytes : List ℕ) → bytes ≡ spelling format p
    → (1 ≤ one_at bytes 3) × (one_at bytes 3 ≤ 17)
kind_range format p bytes e =
    let P : List ℕ → Type 0 = λ b. (1 ≤ one_at b 3) × (one_at b 3 ≤ 17) in
    subst P (sym e) (kind_between format p)
