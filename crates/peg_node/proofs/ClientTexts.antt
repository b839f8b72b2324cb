-- What a client did, in the line of a trace.
use Rattle.std.proofs.Common.{◌≡◌, ◌≤◌, ◌+◌, ◌++◌, ℕ, List, length, drop, refl, ap, subst, sym, ◌∙◌, arith}
use Rattle.std.proofs.Common.{length-append}
use Rattle.std.specs.Prelude.{codes}
use Rattle.std.specs.Fmt.{digits}
use Rattle.peg_event.specs.declared.ClientDid.{ClientDid}
use Rattle.peg_event.specs.declared.Said.TheVariants as said
use Rattle.peg_model.specs.Trace.{said_text, client_text}

said_client :
    (did : ClientDid) → said_text (said.Client 0 did) ≡ codes "client 0 " ++ client_text did
unfolding said_text digits
said_client did = refl

pub long_enough :
    (did : ClientDid) (line : List ℕ) → line ≡ said_text (said.Client 0 did) → 9 ≤ length line
long_enough did line is =
    let e : length line ≡ 9 + length (client_text did) =
    ap length (is ∙ said_client did) ∙ length-append (codes "client 0 ") (client_text did) in
    omega (arith, e)

pub behind_client :
    (did : ClientDid) (line : List ℕ) → line ≡ said_text (said.Client 0 did)
    → drop 9 line ≡ client_text did
behind_client did line is = ap (drop 9) (is ∙ said_client did)
