-- Lists of bytes, element by element.
use Rattle.std.proofs.Common.{ℕ, suc, ◌<◌, List, [], ◌∷◌, get_or}
use Rattle.peg_model.specs.Schedule.{AreBytes}

pub all_bytes : (bytes : List ℕ) → ((i : ℕ) → get_or bytes i 0 < 256) → AreBytes bytes
all_bytes [] each = tt
all_bytes (b ∷ bytes) each = (each 0, all_bytes bytes (λ i. each (suc i)))
