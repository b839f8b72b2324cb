-- What holds of the whole machine after every event.
use Rattle.std.specs.Prelude.{ℕ, ◌≡◌, ◌≤◌, Some}
use Rattle.peg_protocol.specs.Machine.{Answer, origin_of}
use Rattle.peg_protocol.specs.System.{System, ground}
use Rattle.peg_protocol.specs.Handover.{HandoverLaw}
use Rattle.peg_protocol.specs.ControllerLaw.{ControllerLaw}
use Rattle.peg_protocol.specs.Law.{Law, ActsOnce}
use Rattle.peg_protocol.specs.Printed.{Book}

-- the law holds with the state of one switch as the current state
pub record RackLaw (s : System) : Type 0 where
  pub holder : ℕ
  pub handover : HandoverLaw s holder
  pub controller : ControllerLaw s holder
  pub law : Law (ground s (s.cores holder))
  pub acts_once : ActsOnce (ground s (s.cores holder))
  -- the origin of an answered version stays what it was at the answer
  pub tags : (c n : ℕ) (a : Answer) → 1 ≤ n → n ≤ s.issued c → s.answers c n ≡ Some a →
      a.tag ≡ origin_of s.fences (s.plans c n).key a.version

abbrev pub book_of : System → Book
book_of s = record { plans = s.plans; answers = s.answers; stamps = s.stamps; log = s.log }
