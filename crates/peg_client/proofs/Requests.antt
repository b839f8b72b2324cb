-- The request of an operation is a packet where its client's number and what it asks for fit.
use Rattle.std.proofs.Common.{◌≡◌, ℕ, ◌^◌, ◌<◌, ◌&&◌, true, List, arith, nat_lt}
use Rattle.std.proofs.lemmas.Bool.Decides.{nat_tests}
use Rattle.peg_name.specs.Name.{IsKey}
use Rattle.peg_name.specs.declared.Format.{Format}
use Rattle.peg_name.specs.declared.Format.TheVariants.{One, Two}
use Rattle.peg_name.specs.declared.value.Content.TheVariants.{Absent, Present}
use Rattle.peg_event.specs.declared.answers.Ask.{Ask}
use Rattle.peg_event.specs.declared.answers.Ask.TheVariants.{Read, Write}
use Rattle.peg_model.specs.Packet.{in_range, is_client}
use Rattle.peg_model.specs.Client.{request_of}
use Rattle.peg_client.specs.Fits.{ask_fits}

pub request_in_range :
    (format : Format) (id seq : ℕ) (key : List ℕ) (ask : Ask)
    → is_client format id ≡ true
    → seq < 2 ^ 64 → IsKey key
    → (nat_lt 0 seq && ask_fits format ask) ≡ true
    → in_range format (request_of id seq key ask) ≡ true
unfolding in_range
request_in_range One id seq key Read client small key_fits ask_is = grind (arith, nat_tests)
request_in_range Two id seq key Read client small key_fits ask_is = grind (arith, nat_tests)
request_in_range One id seq key (Write Absent) client small key_fits ask_is =
    grind (arith, nat_tests)
request_in_range Two id seq key (Write Absent) client small key_fits ask_is =
    grind (arith, nat_tests)
request_in_range One id seq key (Write (Present value)) client small key_fits ask_is =
    grind (arith, nat_tests)
request_in_range Two id seq key (Write (Present value)) client small key_fits ask_is =
    grind (arith, nat_tests)
