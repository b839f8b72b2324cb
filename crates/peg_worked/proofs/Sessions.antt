-- How the computed sessions are written.
--     carries digits      a datagram with the bytes of these digits
--     sent turn slot port digits      a send
--     Shown, shown m played      what a session shows: its text, its ports, its sends, and whether
--         it may be over
--     spell lines_of inputs texts      whether the texts spell the entries that were read
use Rattle.std.specs.Prelude.{ℕ, Bool, true, false, ◌&&◌, Option, option_map, List, [], ◌∷◌}
use Rattle.std.specs.List.{list_any}
use Rattle.std.specs.Str.{bytes_eq}
use Rattle.peg_meaning.specs.declared.Want.{Want}
use Rattle.peg_meaning.specs.declared.Want.TheVariants as want
use Rattle.peg_meaning.specs.Wire.{Sent}
use Rattle.peg_meaning.specs.Session.{Input, Entry, Datagram, Meaning}
use Rattle.peg_meaning.specs.Played.{Played}
use Rattle.peg_model.proofs.Computed.{hex}

abbrev pub carries : {E : Type 0} → List ℕ → Input E
carries digits = Datagram (hex digits)

abbrev pub sent : ℕ → ℕ → ℕ → List ℕ → Sent
sent turn slot port digits = record { turn = turn; slot = slot; port = port; bytes = hex digits }

abbrev pub may_end : Want → Bool
may_end (want.Line limit optional) = optional
may_end want.Over = true
may_end _ = false

pub record Shown : Type 0 where
  pub text : List ℕ
  pub bound : List ℕ
  pub attempted : List Sent
  pub may_end : Bool

abbrev pub shows : Bool → List ℕ → List ℕ → List Sent → Shown
shows ends text bound attempted =
    record { text = text; bound = bound; attempted = attempted; may_end = ends }

abbrev pub shown : {S E : Type 0} → Meaning S E → Option (Played S) → Option Shown
shown m p =
    option_map
    (λ played. shows (may_end (m.want played.state)) played.text played.bound played.attempted)
    p

abbrev pub spell : {E : Type 0} → (E → List (List ℕ)) → List (Input E) → List (List ℕ) → Bool
spell lines_of [] [] = true
spell lines_of [] (text ∷ texts) = false
spell lines_of (Entry e ∷ inputs) [] = false
spell lines_of (Entry e ∷ inputs) (text ∷ texts) =
    list_any (bytes_eq text) (lines_of e) && spell lines_of inputs texts
spell lines_of (other ∷ inputs) texts = spell lines_of inputs texts
