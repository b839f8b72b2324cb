-- How a word that runs one node ends.
use Rattle.std.proofs.Common.{◌≡◌, ◌∷◌, [], ℕ, refl}
use Rattle.peg_name.specs.Name.{Rack}
use Rattle.peg_name.specs.declared.Node.TheVariants as node
use Rattle.peg_io.specs.Outside.{Rose}
use Rattle.peg_meaning.specs.Session.{Meaning, Came, port_of}
use Rattle.peg_meaning.specs.Roles.{Serving, switch_word, server_word, controls, asks}
use Rattle.peg_meaning.specs.Balance.{balanced_word}
use Rattle.peg_session.specs.Ends as session
use Rattle.peg_session.specs.Ends.{Told, Ended}
use Rattle.peg_session.specs.declared.End as ending
use Rattle.peg_session.specs.declared.End.TheVariants as end
use Rattle.peg_session.proofs.Standings.{not_begun}
use Rattle.peg_node.specs.Served.{IsServed, IsServeEnd}
use Rattle.peg_words.specs.declared.role.Role.{Role}
use Rattle.peg_words.specs.declared.role.Role.TheVariants as role
use Rattle.peg_run.specs.Ends.{HasCause}
use Rattle.peg_run.specs.Status.{status_of}
use Rattle.peg_run.specs.declared.Status.TheVariants as status
use Rattle.peg_run.specs.Roles.{ServesAs, EndsNode, unread}

pub serves_by :
    {N : Type 0} (m : Meaning (Serving N) ⊥) (start : Came (Serving N)) (turns : ℕ)
    (e : ending.End) (before now : Told) → Ended m start before now e → IsServeEnd e
    → (e ≡ end.Done → IsServed m start turns before now) → ServesAs m start turns e before now
serves_by m start turns e before now ended ends done =
    record { ended = ended; ends = ends; done = done }

-- a node that takes turns answers no fault of the source
pub turns_cause :
    (e : ending.End) (reads reads' writes writes' wires wires' : ℕ) → IsServeEnd e
    → session.HasCause e 0 0 writes writes' wires wires'
    → session.HasCause e reads reads' writes writes' wires wires'
turns_cause end.Done reads reads' writes writes' wires wires' ends cause = tt
turns_cause end.OutOfMemory reads reads' writes writes' wires wires' ends cause = tt
turns_cause end.ReadFault reads reads' writes writes' wires wires' ends cause = absurd ends
turns_cause end.WriteFault reads reads' writes writes' wires wires' ends cause = cause
turns_cause end.WireFault reads reads' writes writes' wires wires' ends cause = cause
turns_cause (end.BadInput line) reads reads' writes writes' wires wires' ends cause = absurd ends
turns_cause (end.TooMuch line) reads reads' writes writes' wires wires' ends cause = absurd ends

pub status_cause :
    (e : ending.End) (reads reads' writes writes' wires wires' : ℕ)
    → session.HasCause e reads reads' writes writes' wires wires'
    → HasCause (status_of e) reads reads' writes writes'
status_cause end.Done reads reads' writes writes' wires wires' cause = tt
status_cause end.OutOfMemory reads reads' writes writes' wires wires' cause = tt
status_cause end.ReadFault reads reads' writes writes' wires wires' cause = cause
status_cause end.WriteFault reads reads' writes writes' wires wires' cause = cause
status_cause end.WireFault reads reads' writes writes' wires wires' cause = tt
status_cause (end.BadInput line) reads reads' writes writes' wires wires' cause = tt
status_cause (end.TooMuch line) reads reads' writes writes' wires wires' cause = tt

pub wire_cause :
    (e : ending.End) (reads reads' writes writes' wires wires' : ℕ)
    → session.HasCause e reads reads' writes writes' wires wires'
    → status_of e ≡ status.WireFault → Rose wires wires'
wire_cause end.Done reads reads' writes writes' wires wires' cause is = absurd (cc)
wire_cause end.OutOfMemory reads reads' writes writes' wires wires' cause is = absurd (cc)
wire_cause end.ReadFault reads reads' writes writes' wires wires' cause is = absurd (cc)
wire_cause end.WriteFault reads reads' writes writes' wires wires' cause is = absurd (cc)
wire_cause end.WireFault reads reads' writes writes' wires wires' cause is = cause
wire_cause (end.BadInput line) reads reads' writes writes' wires wires' cause is = absurd (cc)
wire_cause (end.TooMuch line) reads reads' writes writes' wires wires' cause is = absurd (cc)

-- there was no memory to begin
pub not_run : (base : ℕ) (rack : Rack) (r : Role) (before : Told)
    → EndsNode base rack r status.OutOfMemory before before
not_run base rack (role.Switch switch turns) before = (
  end.OutOfMemory,
  refl,
  record {
    ended =
        not_begun switch_word _ (port_of base (node.Switch switch) ∷ []) [] (unread before);
    ends = tt;
    done = λ is. absurd (cc);
  },
)
not_run base rack (role.Balanced switch turns weights) before = (
  end.OutOfMemory,
  refl,
  record {
    ended =
        not_begun balanced_word _ (port_of base (node.Switch switch) ∷ []) [] (unread before);
    ends = tt;
    done = λ is. absurd (cc);
  },
)
not_run base rack (role.Server server turns) before = (
  end.OutOfMemory,
  refl,
  record {
    ended =
        not_begun server_word _ (port_of base (node.Server server) ∷ []) [] (unread before);
    ends = tt;
    done = λ is. absurd (cc);
  },
)
not_run base rack (role.Control tries waits) before = (
  end.OutOfMemory,
  refl,
  not_begun controls _ (port_of base node.Controller ∷ []) [] before,
)
not_run base rack (role.Ask client first tries waits) before = (
  end.OutOfMemory,
  refl,
  not_begun asks _ (port_of base (node.Client client) ∷ []) [] before,
)
