-- A server: it keeps for each key the content of the greatest version that it was given, and what
-- its fences left.
--     Stored      of peg_model: a version and a content, the floor that the last fence set, the
--         version held below it (low), and the floor before it (old)
--     held store key      what is kept of a key: version 0, absent and zeros where there is
--         nothing
--     applied, apply_answer      the store once a copy was handed to it, and what it did
--     written, write_answer      the same of a write
--     fenced, fence_answer      the same of a fence
--     server_step s packet      one step on a packet
use Rattle.std.specs.Prelude.{ℕ, Bool, false, not, ◌&&◌, ◌==◌, nat_lt, nat_le, List, [], ◌∷◌}
use Rattle.std.specs.Prelude.{if◌then◌else◌, unwrap_or}
use Rattle.std.specs.Map.{lookup}
use Rattle.std.specs.BTreeMap.{insert_entry, is_at}
use Rattle.peg_name.specs.Name.{Rack, key_cmp, home_of}
use Rattle.peg_name.specs.declared.value.Content.{Content}
use Rattle.peg_name.specs.declared.value.Content.TheVariants.{Absent}
use Rattle.peg_name.specs.declared.Node.{Node}
use Rattle.peg_name.specs.declared.Node.TheVariants as node
use Rattle.peg_event.specs.declared.ServerDid.{ServerDid}
use Rattle.peg_event.specs.declared.ServerDid.TheVariants as did
use Rattle.peg_event.specs.declared.answers.Stored.{Stored}
use Rattle.peg_event.specs.declared.answers.Apply.{Apply}
use Rattle.peg_event.specs.declared.answers.Apply.TheVariants as apply
use Rattle.peg_event.specs.declared.answers.WriteDid.{WriteDid}
use Rattle.peg_event.specs.declared.answers.WriteDid.TheVariants as write_did
use Rattle.peg_event.specs.declared.answers.FenceDid.{FenceDid}
use Rattle.peg_event.specs.declared.answers.FenceDid.TheVariants as fence_did
use Rattle.peg_model.specs.Words.{Step, refuse}
use Rattle.peg_model.specs.Packet.{Packet, ToServerRead, ToServerWrite, ReadReply, WriteReply}
use Rattle.peg_model.specs.Packet.{CopyOrder, CopyData, Held, Fence, Void}

-- in the order of the keys
abbrev pub Store : Type 0
Store = List (List ℕ × Stored)

abbrev pub nothing_held : Stored
nothing_held = record { version = 0; content = Absent; low = 0; floor = 0; old = 0 }

abbrev pub held : Store → List ℕ → Stored
held store key = unwrap_or (lookup (is_at (key_cmp key)) store) nothing_held

abbrev pub with_stored : Store → List ℕ → Stored → Store
with_stored store key now = insert_entry key_cmp store key now

-- ---- a copy

abbrev pub with_pair : Stored → ℕ → Content → Stored
with_pair was version content = record was { version = version; content = content }

abbrev pub applied : Store → List ℕ → ℕ → Content → Store
applied store key version content =
    if nat_lt (held store key).version version
    then with_stored store key (with_pair (held store key) version content)
    else store

abbrev pub apply_over : Stored → ℕ → Apply
apply_over was version =
    if nat_lt was.version version then apply.Applied else apply.Kept was.version

abbrev pub apply_answer : Store → List ℕ → ℕ → Apply
apply_answer store key version = apply_over (held store key) version

-- ---- a write: where it isn't above the version that is held, the fences say whether it may be
-- answered

abbrev pub write_over : Stored → ℕ → WriteDid
write_over was version =
    if nat_lt was.version version then write_did.Applied
    else (if nat_le version was.old then write_did.Barred was.old
    else (if nat_le version was.low then write_did.Kept was.version
    else (if nat_le version was.floor then write_did.Void was.floor
    else write_did.Kept was.version)))

abbrev pub write_answer : Store → List ℕ → ℕ → WriteDid
write_answer store key version = write_over (held store key) version

abbrev pub written : Store → List ℕ → ℕ → Content → Store
written store key version content = applied store key version content

-- ---- a fence: the content stays, at the fence's version

abbrev pub fence_over : Stored → ℕ → FenceDid
fence_over was version =
    if nat_lt was.version version then fence_did.Fenced was.version else fence_did.Kept was.version

abbrev pub fence_answer : Store → List ℕ → ℕ → FenceDid
fence_answer store key version = fence_over (held store key) version

abbrev pub with_fence : Stored → ℕ → Stored
with_fence was version =
    record {
      version = version;
      content = was.content;
      low = was.version;
      floor = version;
      old = was.floor;
    }

abbrev pub fenced : Store → List ℕ → ℕ → Store
fenced store key version =
    if nat_lt (held store key).version version
    then with_stored store key (with_fence (held store key) version)
    else store

-- ---- the step

pub record Server : Type 0 where
  pub rack : Rack
  pub id : ℕ
  pub store : Store

abbrev pub ServerStep : Type 0
ServerStep = Step Server (Node × Packet) ServerDid

abbrev pub new_server : Rack → ℕ → Server
new_server rack id = record { rack = rack; id = id; store = [] }

-- the packets that this server takes: it is the one named, the other numbers are in the rack, and
-- a fence is for a key of this home
abbrev pub server_takes : Rack → ℕ → Packet → Bool
server_takes rack id (ToServerRead client seq server switch key) =
    server == id && nat_lt client rack.clients && nat_lt switch rack.switches
server_takes rack id (ToServerWrite client seq version server switch key content) =
    server == id && nat_lt client rack.clients && nat_lt switch rack.switches
server_takes rack id (CopyOrder switch server target key) =
    server == id && nat_lt switch rack.switches && nat_lt target rack.servers && not (target == id)
server_takes rack id (CopyData switch server version key content) =
    server == id && nat_lt switch rack.switches
server_takes rack id (Fence switch server version key) =
    server == id && nat_lt switch rack.switches && home_of rack.servers key == id
server_takes rack id _ = false

abbrev pub serve_read : Stored → Server → ℕ → ℕ → ℕ → List ℕ → ServerStep
serve_read was s client seq switch key =
    record {
      state = s;
      sent =
          (node.Switch switch, ReadReply client seq was.version s.id switch key was.content) ∷ [];
      did = did.Read key was.version;
    }

abbrev pub write_reply : Server → ℕ → ℕ → ℕ → ℕ → List ℕ → List (Node × Packet)
write_reply s client seq version switch key =
    (node.Switch switch, WriteReply client seq version s.id switch key) ∷ []

abbrev pub serve_write : WriteDid → Server → ℕ → ℕ → ℕ → ℕ → List ℕ → Content → ServerStep
serve_write write_did.Applied s client seq version switch key content =
    record {
      state = record s { store = written s.store key version content };
      sent = write_reply s client seq version switch key;
      did = did.Applied key version;
    }
serve_write (write_did.Kept held) s client seq version switch key content =
    record {
      state = s;
      sent = write_reply s client seq version switch key;
      did = did.Kept key held;
    }
serve_write (write_did.Void floor) s client seq version switch key content =
    record {
      state = s;
      sent = (node.Switch switch, Void client seq version s.id switch key) ∷ [];
      did = did.Void key version floor;
    }
serve_write (write_did.Barred old) s client seq version switch key content =
    refuse s (did.Barred key version old)

abbrev pub held_report : Server → ℕ → ℕ → List ℕ → List (Node × Packet)
held_report s version switch key = (node.Switch switch, Held s.id version key) ∷ []

abbrev pub serve_copy : Apply → Server → ℕ → ℕ → List ℕ → Content → ServerStep
serve_copy apply.Applied s version switch key content =
    record {
      state = record s { store = applied s.store key version content };
      sent = held_report s version switch key;
      did = did.Applied key version;
    }
serve_copy (apply.Kept held) s version switch key content =
    record { state = s; sent = held_report s version switch key; did = did.Kept key held }

abbrev pub serve_fence : FenceDid → Server → ℕ → ℕ → List ℕ → ServerStep
serve_fence (fence_did.Fenced held) s version switch key =
    record {
      state = record s { store = fenced s.store key version };
      sent = held_report s version switch key;
      did = did.Fenced key version held;
    }
serve_fence (fence_did.Kept held) s version switch key =
    record { state = s; sent = held_report s version switch key; did = did.Kept key held }

-- what is held goes to the target, and nothing where nothing is held
abbrev pub serve_order : Stored → Server → ℕ → ℕ → List ℕ → ServerStep
serve_order was s switch target key =
    if was.version == 0 then refuse s (did.HasNone key)
    else record {
      state = s;
      sent = (node.Server target, CopyData switch target was.version key was.content) ∷ [];
      did = did.Copied key was.version target;
    }

abbrev pub serve : Server → Packet → ServerStep
serve s (ToServerRead client seq server switch key) =
    serve_read (held s.store key) s client seq switch key
serve s (ToServerWrite client seq version server switch key content) =
    serve_write (write_answer s.store key version) s client seq version switch key content
serve s (CopyData switch server version key content) =
    serve_copy (apply_answer s.store key version) s version switch key content
serve s (CopyOrder switch server target key) = serve_order (held s.store key) s switch target key
serve s (Fence switch server version key) =
    serve_fence (fence_answer s.store key version) s version switch key
serve s _ = refuse s did.OutOfPlace

unfoldable pub server_step : Server → Packet → ServerStep
server_step s packet =
    if server_takes s.rack s.id packet then serve s packet else refuse s did.OutOfPlace
