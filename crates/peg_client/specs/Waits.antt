-- The fields of a client, seen as what the book keeps of it.
--     ask_of value kind      what is asked for, where the value that is written begins these bytes
--     pending_of value waiting      the pending operation
--     IsShort kind      the value that is written is no longer than a value
--     client_of, IsClient client      what the fields hold, and what they keep
use Rattle.std.specs.Prelude.{◌≡◌, ◌≤◌, ℕ, true, List, Option, Some, None, option_map, take}
use Rattle.std.specs.Prelude.{length}
use Rattle.peg_name.specs.declared.value.Content.TheVariants.{Absent, Present}
use Rattle.peg_event.specs.declared.answers.Ask.{Ask}
use Rattle.peg_event.specs.declared.answers.Ask.TheVariants as ask
use Rattle.peg_event.specs.declared.answers.Pending.{Pending}
use Rattle.peg_model.specs.Packet.{is_client}
use Rattle.peg_model.specs.Client.{Client}
use Rattle.peg_client.specs.Fits.{pending_fits}
use Rattle.peg_client.specs.declared.Client.TheInside.{Inside}
use Rattle.peg_client.specs.declared.Kind.{Kind}
use Rattle.peg_client.specs.declared.Kind.TheVariants as kind
use Rattle.peg_client.specs.declared.Waiting.{Waiting}

abbrev pub ask_of : List ℕ → Kind → Ask
ask_of value kind.Read = ask.Read
ask_of value kind.Delete = ask.Write Absent
ask_of value (kind.Write len) = ask.Write (Present (take len value))

abbrev pub pending_of : List ℕ → Waiting → Pending
pending_of value w = record { seq = w.seq; key = w.key; ask = ask_of value w.kind }

abbrev pub IsShort : Kind → Type 0
IsShort (kind.Write len) = len ≤ 1024
IsShort _ = Unit {0}

abbrev pub AreShort : Option Waiting → Type 0
AreShort None = Unit {0}
AreShort (Some w) = IsShort w.kind

abbrev pub client_of : Inside → Client
client_of c =
    record {
      format = c.format;
      id = c.id;
      next = c.next;
      pending = option_map (pending_of c.value) c.pending;
      switch = c.switch;
      epoch = c.epoch;
    }

abbrev pub IsClient : Inside → Type 0
IsClient c =
    (is_client c.format c.id ≡ true) × (1 ≤ c.next)
    × (pending_fits c.format (option_map (pending_of c.value) c.pending) ≡ true)
    × AreShort c.pending × (length c.value ≡ 1024)
