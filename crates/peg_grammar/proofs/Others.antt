-- What each other kind spells is read as it, whatever follows.
use Rattle.std.proofs.Common.{◌≡◌, ℕ, ◌^◌, ◌<◌, Some, List, [], ◌∷◌, ◌++◌, length, take, refl}
use Rattle.std.proofs.Common.{ap, ◌∙◌, arith}
use Rattle.std.specs.List.{flat_map, AllByRecursion}
use Rattle.std.proofs.Math.Seq.{take-append_seam}
use Rattle.peg_name.specs.declared.Format.{Format}
use Rattle.peg_name.specs.declared.value.Content.{Content}
use Rattle.peg_name.specs.declared.Row.{Row}
use Rattle.peg_event.specs.declared.Outcome.{Outcome}
use Rattle.peg_event.specs.declared.Outcome.TheVariants as outcome
use Rattle.peg_model.specs.Packet.{What, Promote, Demote, Copy, Seal, Clear, FenceKey, Command}
use Rattle.peg_model.specs.Packet.{CommandAck, CopyOrder, CopyData, Held, Part, Announce, Survey}
use Rattle.peg_model.specs.Packet.{Report, Fence, begin, eight, key_bytes, content_bytes}
use Rattle.peg_model.specs.Packet.{row_bytes, spelling}
use Rattle.peg_model.specs.Reading.{content_at, past_key, rows_at}
use Rattle.peg_grammar.proofs.Places.{two_back, eight_back, IsSmall, IsReadBefore}
use Rattle.peg_grammar.proofs.Family.{content_back, key_back}
use Rattle.peg_grammar.proofs.Rows.{FitsRow, rows_behind}

-- the numbers of a command fit eight bytes
abbrev pub FitsWhat : What → Type 0
FitsWhat (Seal target epoch) = epoch < 2 ^ 64
FitsWhat _ = Unit {0}

pub command_back :
    (rest : List ℕ) (format : Format) (number : ℕ) (what : What) → number < 2 ^ 64 → FitsWhat what
    → IsReadBefore rest format (Command number what)
unfolding spelling
command_back rest format number (Promote key) n fits =
    λ i. Some (Command (eight_back number [] n i) (Promote (take-append_seam key rest i)))
command_back rest format number (Demote key) n fits =
    λ i. Some (Command (eight_back number [] n i) (Demote (take-append_seam key rest i)))
command_back rest format number (Copy target key) n fits =
    λ i. Some (Command (eight_back number [] n i) (Copy target (take-append_seam key rest i)))
command_back rest format number (Seal target epoch) n fits =
    λ i. Some (Command (eight_back number [] n i) (Seal target (eight_back epoch [] fits i)))
command_back rest format number Clear n fits =
    λ i. Some (Command (eight_back number [] n i) Clear)
command_back rest format number (FenceKey key) n fits =
    λ i. Some (Command (eight_back number [] n i) (FenceKey (take-append_seam key rest i)))

-- the value of an outcome fits eight bytes
abbrev pub FitsOutcome : Outcome → Type 0
FitsOutcome (outcome.Listed value) = value < 2 ^ 64
FitsOutcome (outcome.Already value) = value < 2 ^ 64
FitsOutcome (outcome.Full value) = value < 2 ^ 64
FitsOutcome (outcome.Marked value) = value < 2 ^ 64
FitsOutcome outcome.NotListed = Unit {0}
FitsOutcome (outcome.AlreadyMarked value) = value < 2 ^ 64
FitsOutcome (outcome.Ordered value) = value < 2 ^ 64
FitsOutcome outcome.Holds = Unit {0}
FitsOutcome (outcome.Activated value) = value < 2 ^ 64
FitsOutcome outcome.Cleared = Unit {0}
FitsOutcome (outcome.Fenced value) = value < 2 ^ 64
FitsOutcome outcome.NoBase = Unit {0}
FitsOutcome (outcome.NoVersion value) = value < 2 ^ 64

pub acknowledgement_back :
    (rest : List ℕ) (format : Format) (number : ℕ) (o : Outcome) → number < 2 ^ 64 → FitsOutcome o
    → IsReadBefore rest format (CommandAck number o)
unfolding spelling
acknowledgement_back rest format number (outcome.Listed value) n fits =
    λ i. Some (CommandAck (eight_back number [] n i) (outcome.Listed (eight_back value [] fits i)))
acknowledgement_back rest format number (outcome.Already value) n fits =
    λ i. Some
    (CommandAck (eight_back number [] n i) (outcome.Already (eight_back value [] fits i)))
acknowledgement_back rest format number (outcome.Full value) n fits =
    λ i. Some (CommandAck (eight_back number [] n i) (outcome.Full (eight_back value [] fits i)))
acknowledgement_back rest format number (outcome.Marked value) n fits =
    λ i. Some (CommandAck (eight_back number [] n i) (outcome.Marked (eight_back value [] fits i)))
acknowledgement_back rest format number outcome.NotListed n fits =
    λ i. Some (CommandAck (eight_back number [] n i) outcome.NotListed)
acknowledgement_back rest format number (outcome.AlreadyMarked value) n fits =
    λ i. Some
    (CommandAck (eight_back number [] n i) (outcome.AlreadyMarked (eight_back value [] fits i)))
acknowledgement_back rest format number (outcome.Ordered value) n fits =
    λ i. Some
    (CommandAck (eight_back number [] n i) (outcome.Ordered (eight_back value [] fits i)))
acknowledgement_back rest format number outcome.Holds n fits =
    λ i. Some (CommandAck (eight_back number [] n i) outcome.Holds)
acknowledgement_back rest format number (outcome.Activated value) n fits =
    λ i. Some
    (CommandAck (eight_back number [] n i) (outcome.Activated (eight_back value [] fits i)))
acknowledgement_back rest format number outcome.Cleared n fits =
    λ i. Some (CommandAck (eight_back number [] n i) outcome.Cleared)
acknowledgement_back rest format number (outcome.Fenced value) n fits =
    λ i. Some (CommandAck (eight_back number [] n i) (outcome.Fenced (eight_back value [] fits i)))
acknowledgement_back rest format number outcome.NoBase n fits =
    λ i. Some (CommandAck (eight_back number [] n i) outcome.NoBase)
acknowledgement_back rest format number (outcome.NoVersion value) n fits =
    λ i. Some
    (CommandAck (eight_back number [] n i) (outcome.NoVersion (eight_back value [] fits i)))

pub copy_order_back :
    (rest : List ℕ) (format : Format) (switch server target : ℕ) (key : List ℕ)
    → IsReadBefore rest format (CopyOrder switch server target key)
unfolding spelling
copy_order_back rest format switch server target key =
    λ i. Some (CopyOrder switch server target (take-append_seam key rest i))

pub copy_data_back :
    (rest : List ℕ) (format : Format) (switch server version : ℕ) (key : List ℕ)
    (content : Content) → version < 2 ^ 64 → IsSmall content
    → IsReadBefore rest format (CopyData switch server version key content)
unfolding spelling
copy_data_back rest format switch server version key content v small =
    let front : List ℕ =
    begin format 10 ++ switch ∷ server ∷ eight version ++ key_bytes key
    in
    let bytes : List ℕ = front ++ content_bytes content ++ rest in
    let whole : content_at bytes (past_key bytes 14) ≡ content =
    content_back rest front content (past_key bytes 14) (omega arith) small
    in
    λ i. Some (CopyData switch server (eight_back version [] v i) (key_back rest key content i)
    (whole i))

pub held_back :
    (rest : List ℕ) (format : Format) (server version : ℕ) (key : List ℕ) → version < 2 ^ 64
    → IsReadBefore rest format (Held server version key)
unfolding spelling
held_back rest format server version key v =
    λ i. Some (Held server (eight_back version [] v i) (take-append_seam key rest i))

pub part_back :
    (rest : List ℕ) (format : Format) (epoch index count : ℕ) (bytes : List ℕ) → epoch < 2 ^ 64
    → length bytes < 2 ^ 16 → IsReadBefore rest format (Part epoch index count bytes)
unfolding spelling
part_back rest format epoch index count bytes e small =
    let size = two_back (length bytes) bytes small in
    (λ i. Some (Part (eight_back epoch [] e i) index count (take (size i) (bytes ++ rest))))
    ∙ ap (λ b. Some (Part epoch index count b)) (take-append_seam bytes rest)

pub announce_back :
    (rest : List ℕ) (format : Format) (epoch switch : ℕ) → epoch < 2 ^ 64
    → IsReadBefore rest format (Announce epoch switch)
unfolding spelling
announce_back rest format epoch switch e = λ i. Some (Announce (eight_back epoch [] e i) switch)

pub survey_back : (rest : List ℕ) (format : Format) → IsReadBefore rest format Survey
unfolding spelling
survey_back rest format = refl

pub report_back :
    (rest : List ℕ) (format : Format) (epoch total : ℕ) (rows : List Row) → epoch < 2 ^ 64
    → total < 2 ^ 64 → AllByRecursion FitsRow rows
    → IsReadBefore rest format (Report epoch total rows)
unfolding spelling
report_back rest format epoch total rows e t fits =
    let front : List ℕ = begin format 15 ++ eight epoch ++ eight total ++ length rows ∷ [] in
    let bytes : List ℕ = front ++ (flat_map row_bytes rows ++ rest) in
    let back : rows_at bytes (length rows) (length front) ≡ rows =
    rows_behind front rows rest fits
    in
    λ i. Some (Report (eight_back epoch [] e i) (eight_back total [] t i) (back i))

pub fence_back :
    (rest : List ℕ) (format : Format) (switch server version : ℕ) (key : List ℕ)
    → version < 2 ^ 64 → IsReadBefore rest format (Fence switch server version key)
unfolding spelling
fence_back rest format switch server version key v =
    λ i. Some (Fence switch server (eight_back version [] v i) (take-append_seam key rest i))
