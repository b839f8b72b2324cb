-- A run of which the text is linearizable, computed: a write of a key that the switch lists, a read
-- of it, and a delete that is never answered.
use Rattle.std.proofs.Common.{◌≡◌, ◌≢◌, ◌<◌, ℕ, zero, suc, List, [], ◌∷◌, Some, None, slice_get}
use Rattle.std.proofs.Common.{inl, refl, arith}
use Rattle.std.specs.Prelude.{slice_index_or, IfSome, IsSome, Contains, codes}
use Rattle.std.specs.Fmt.{digits}
use Rattle.peg_name.specs.Name.{Rack}
use Rattle.peg_name.specs.declared.Format.TheVariants.{One}
use Rattle.peg_name.specs.declared.value.Content.TheVariants.{Absent, Present}
use Rattle.peg_event.specs.declared.history.Act.TheVariants as act
use Rattle.peg_event.specs.declared.history.Op.{Op}
use Rattle.peg_event.specs.declared.Event.{Event}
use Rattle.peg_event.specs.declared.Event.TheVariants.{Read, Write, Delete, Deliver}
use Rattle.peg_model.specs.Register.{IsRegisterHistory}
use Rattle.peg_model.specs.World.{start, happens, run}
use Rattle.peg_model.specs.Order.{orders, order_of}
use Rattle.peg_model.specs.Switch.{switch_step}
use Rattle.peg_model.specs.Server.{server_step}
use Rattle.peg_model.specs.Client.{client_step}
use Rattle.peg_model.specs.Trace.{said_text, replay_text}
use Rattle.peg_model.specs.Headline.{IsLinearizable, OrdersAreHistories}
use Rattle.peg_trace.specs.Lines.{trace_lines}
use Rattle.peg_trace.proofs.Runs.{linearizable}

abbrev rack : Rack
rack = record {
  format = One;
  servers = 2;
  clients = 1;
  switches = 1;
  listed = 1;
  hot = 1;
  first = 1;
}

abbrev keys : List (List ℕ)
keys = (107 ∷ []) ∷ []

abbrev events : List Event
events =
    Write 0 (107 ∷ []) (118 ∷ []) ∷ Deliver 0 1 ∷ Deliver 1 0 ∷ Deliver 2 0 ∷ Deliver 3 0
    ∷ Read 0 (107 ∷ []) ∷ Deliver 4 0 ∷ Deliver 5 0 ∷ Deliver 6 0 ∷ Deliver 7 0
    ∷ Delete 0 (107 ∷ []) ∷ []

-- the lines as they are printed
written :
    trace_lines (run (start rack keys) 2 events).1 ≡ (
    codes "1 rack"
    ∷ codes "2 write 0 seq 1 sends 0"
    ∷ codes "3 switch 0 forwards write k version 1 to server 1 sends 1"
    ∷ codes "4 server 1 applies k version 1 sends 2"
    ∷ codes "5 switch 0 answers client 0 seq 1 version 1 raised sends 3"
    ∷ codes "6 client 0 answered 1 version 1"
    ∷ codes "7 read 0 seq 2 sends 4"
    ∷ codes "8 switch 0 forwards read k to server 1 sends 5"
    ∷ codes "9 server 1 reads k version 1 sends 6"
    ∷ codes "10 switch 0 answers client 0 seq 2 version 1 kept sends 7"
    ∷ codes "11 client 0 answered 2 version 1 =v"
    ∷ codes "12 delete 0 seq 3 sends 8"
    ∷ codes "13 end"
    ∷ []
    )
unfolding digits happens switch_step server_step client_step run said_text
written = refl

printed : orders (run (start rack keys) 2 events).0 ≡ (107 ∷ [], 0 ∷ 1 ∷ []) ∷ []
unfolding happens switch_step server_step client_step run order_of
printed = refl

-- ---- the order is a register history

abbrev ops : List Op
ops =
    record {
      client = 0;
      key = 107 ∷ [];
      act = act.Write;
      content = Present (118 ∷ []);
      issued = 2;
      answered = Some 6;
    } ∷ record {
      client = 0;
      key = 107 ∷ [];
      act = act.Read;
      content = Present (118 ∷ []);
      issued = 7;
      answered = Some 11;
    } ∷ record {
      client = 0;
      key = 107 ∷ [];
      act = act.Write;
      content = Absent;
      issued = 12;
      answered = None;
    } ∷ []

once :
    (i j d : ℕ) → i < j → j < 2
    → slice_index_or (0 ∷ 1 ∷ []) i d ≢ slice_index_or (0 ∷ 1 ∷ []) j d
once zero zero d less inside = absurd (omega (arith, less))
once zero (suc zero) d less inside = λ e. omega (arith, e)
once zero (suc (suc j)) d less inside = absurd (omega (arith, inside))
once (suc i) j d less inside = absurd (omega (arith, less, inside))

complete :
    (place : ℕ)
    → IfSome (slice_get ops place)
    (λ op. op.key ≡ 107 ∷ [] → IsSome op.answered → Contains (0 ∷ 1 ∷ []) place)
complete zero = λ e a. (0, omega arith, refl)
complete (suc zero) = λ e a. (1, omega arith, refl)
complete (suc (suc zero)) = λ e a. absurd (cc)
complete (suc (suc (suc place))) = tt

is_history : IsRegisterHistory ops (107 ∷ []) (0 ∷ 1 ∷ [])
is_history =
    record {
      admitted = ((refl, inl refl), ((refl, inl refl), tt));
      once = once;
      complete = complete;
      legal = (tt, (refl, tt));
      in_time = ((omega arith, tt), (tt, tt));
    }

histories : OrdersAreHistories (run (start rack keys) 2 events).0
unfolding happens switch_step server_step client_step run order_of
histories = (is_history, tt)

read_back : IsLinearizable (replay_text rack keys events)
read_back = linearizable rack keys events histories
