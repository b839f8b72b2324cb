-- What a writer promises.
--     Puts old new at end bytes      these bytes stand behind the first `at`, up to `end`
--     header_bytes header version      a header with a version, as they stand before a key
use Rattle.std.specs.Prelude.{◌≡◌, ◌+◌, ℕ, List, [], ◌∷◌, ◌++◌, length, take}
use Rattle.peg_packet.specs.declared.Header.{Header}
use Rattle.peg_model.specs.Packet.{two, eight}

pub record Puts (old new : List ℕ) (at end : ℕ) (bytes : List ℕ) : Type 0 where
  pub next : end ≡ at + length bytes
  pub written : take end new ≡ take at old ++ bytes

-- the version stands within the header
abbrev pub header_bytes : Header → ℕ → List ℕ
header_bytes header version =
    two header.client ++ eight header.seq ++ eight version ++ header.server ∷ header.switch ∷ []
