-- How a word that takes turns ended, in the book's words.
--     IsServed m start turns before now      all of its turns were used
--     IsServedPart m start before now      there was no memory, or the sink failed, on the way
--     IsServeEnd end      the ends that there are
use Rattle.std.specs.Prelude.{◌≡◌, ℕ, length}
use Rattle.peg_io.specs.Outside.{Tells, Appends}
use Rattle.peg_meaning.specs.Session.{Meaning, Came, Inputs, IsTaken, turns_of, binds_of, CarriesOn}
use Rattle.peg_meaning.specs.Session.{text_of, carried_of, datagrams_in}
use Rattle.peg_meaning.specs.Roles.{Serving, datagrams_text}
use Rattle.peg_session.specs.Ends.{Told, IsPart}
use Rattle.peg_session.specs.Pages.{AppendsPart}
use Rattle.peg_session.specs.declared.End.{End}
use Rattle.peg_session.specs.declared.End.TheVariants as end

module _ {N : Type 0} (m : Meaning (Serving N) ⊥) (start : Came (Serving N)) where
  -- exactly so many turns; what it wrote is how many of them were datagrams
  pub record IsServed (turns : ℕ) (before now : Told) : Type 0 where
    pub inputs : Inputs ⊥
    pub taken : IsTaken m start inputs
    pub all : length (turns_of m start before.slots inputs) ≡ turns
    pub ports : binds_of m start inputs ≡ start.binds
    pub written : Tells before.held now.held (Appends (datagrams_text (datagrams_in inputs)))
    pub carried : Tells before.carried now.carried (CarriesOn m start before.slots inputs)

  -- a first part of what these come to
  pub record IsServedPart (before now : Told) : Type 0 where
    pub inputs : Inputs ⊥
    pub taken : IsTaken m start inputs
    pub written : Tells before.held now.held (AppendsPart (text_of m start inputs))
    pub carried : Tells before.carried now.carried
        (λ c n. IsPart (carried_of m start before.slots c inputs) n)

-- no line is wanted and nothing is past a limit
abbrev pub IsServeEnd : End → Type 0
IsServeEnd end.Done = Unit {0}
IsServeEnd end.OutOfMemory = Unit {0}
IsServeEnd end.WriteFault = Unit {0}
IsServeEnd end.WireFault = Unit {0}
IsServeEnd _ = ⊥
