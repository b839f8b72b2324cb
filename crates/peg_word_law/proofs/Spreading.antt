-- A balanced switch sends a request with a choice to a lightest server, and charges it.
use Rattle.std.proofs.Common.{◌≡◌, ◌≤◌, ℕ, Bool, true, false, not, ◌&&◌, Option, Some, None, List}
use Rattle.std.proofs.Common.{length, refl, sym, ap, subst, ◌∙◌, if◌then◌else◌}
use Rattle.peg_name.specs.Name.{Rack, home_of}
use Rattle.peg_name.specs.declared.value.Content.{Content}
use Rattle.peg_name.specs.declared.Format.{Format}
use Rattle.peg_name.specs.declared.Node.{Node}
use Rattle.peg_event.specs.declared.answers.Listing.{Listing}
use Rattle.peg_event.specs.declared.answers.Stamp.{Stamp}
use Rattle.peg_event.specs.declared.answers.Stamp.TheVariants as stamp_did
use Rattle.peg_event.specs.declared.SwitchDid.TheVariants as did
use Rattle.peg_model.specs.Words.{refuse, below}
use Rattle.peg_model.specs.Packet.{Packet, Read, Write, ToServerRead, ToServerWrite}
use Rattle.peg_model.specs.Reading.{packet_of, is_format}
use Rattle.peg_model.specs.Rules.{Stamps, stamp, entry_of, server_of_read, server_of_write}
use Rattle.peg_model.specs.Rules.{stamped_request}
use Rattle.peg_model.specs.Switch.{Switch, SwitchStep, Mode, Active, is_active, out_of_place}
use Rattle.peg_model.specs.Switch.{core_of, forwards_write, active_step, in_mode, switch_step}
use Rattle.peg_model.specs.Datagrams.{on_bytes}
use Rattle.peg_meaning.specs.Balance.{Allowed, Holders, Any, Home, Nothing, read_allowed}
use Rattle.peg_meaning.specs.Balance.{write_allowed, stamped_allowed, request_allowed}
use Rattle.peg_meaning.specs.Balance.{packet_allowed, pick_by, charged_by, Balanced, balanced_turn}
use Rattle.peg_word_law.specs.Lightest.{HaveWeights, GoesToLightest, SpreadsRequests}
use Rattle.peg_word_law.proofs.Lightest.{read_lightest, write_lightest, home_any, home_holders}
use Rattle.peg_word_law.proofs.Lightest.{any_holders}

-- ---- what may go somewhere is a packet in its place, at an active switch

nothing_holders : (servers : List ℕ) → Nothing ≡ Holders servers → ⊥
nothing_holders servers is = cc

nothing_any : Nothing ≡ Any → ⊥
nothing_any is = cc

holders_any : (servers : List ℕ) → Holders servers ≡ Any → ⊥
holders_any servers is = cc

and_true : (x y : Bool) → (x && y) ≡ true → (x ≡ true) × (y ≡ true)
and_true true y is = (refl, is)
and_true false y is = let differs : false ≡ true = is in absurd (cc)

not_true : (x : Bool) → not x ≡ true → x ≡ false
not_true false is = refl
not_true true is = let differs : false ≡ true = is in absurd (cc)

mode_active : (m : Mode) → is_active m ≡ true → m ≡ Active
mode_active Active is = refl
mode_active _ is = let differs : false ≡ true = is in absurd (cc)

abbrev is_ready : Switch → Format → Packet → Bool
is_ready s format p = is_format format s.rack.format && is_active s.mode && not (out_of_place s p)

ready_step :
    (s : Switch) (format : Format) (p : Packet) (pick : ℕ) → is_ready s format p ≡ true
    → on_bytes (Some (format, p)) s.rack.format (λ p. switch_step s p pick) s did.Malformed
    did.OutOfPlace
    ≡ active_step s p pick
unfolding switch_step
ready_step s format p pick ready =
    let both =
    and_true (is_format format s.rack.format && is_active s.mode) (not (out_of_place s p)) ready in
    let first = and_true (is_format format s.rack.format) (is_active s.mode) both.0 in
    ap (λ (b : Bool). if b then switch_step s p pick else refuse s did.OutOfPlace) first.0
    ∙ ap (λ (b : Bool). if b then refuse s did.OutOfPlace else in_mode s.mode s p pick)
    (not_true (out_of_place s p) both.1)
    ∙ ap (λ m. in_mode m s p pick) (mode_active s.mode first.1)

-- what is allowed is allowed by the test
record IsAllowed (ready : Bool) (a b : Allowed) : Type 0 where
  is_ready : ready ≡ true
  is : a ≡ b

allowed_holders :
    (ready : Bool) (a : Allowed) (servers : List ℕ)
    → (if ready then a else Nothing) ≡ Holders servers → IsAllowed ready a (Holders servers)
allowed_holders true a servers is = record { is_ready = refl; is = is }
allowed_holders false a servers is = absurd (nothing_holders servers is)

allowed_any :
    (ready : Bool) (a : Allowed) → (if ready then a else Nothing) ≡ Any → IsAllowed ready a Any
allowed_any true a is = record { is_ready = refl; is = is }
allowed_any false a is = absurd (nothing_any is)

-- a write may not go to holders, and a read not anywhere

home_or_any :
    (b : Bool) (server : ℕ) (servers : List ℕ)
    → (if b then Any else Home server) ≡ Holders servers → ⊥
home_or_any true server servers is = any_holders servers is
home_or_any false server servers is = home_holders server servers is

write_no_holders :
    (o : Option Listing) (rack : Rack) (key : List ℕ) (version : ℕ) (servers : List ℕ)
    → write_allowed o rack key version ≡ Holders servers → ⊥
write_no_holders None rack key version servers is =
    home_holders (home_of rack.servers key) servers is
write_no_holders (Some entry) rack key version servers is =
    home_or_any _ (home_of rack.servers key) servers is

stamped_no_holders :
    (d : Stamp) (o : Option Listing) (rack : Rack) (key : List ℕ) (servers : List ℕ)
    → stamped_allowed d o rack key ≡ Holders servers → ⊥
stamped_no_holders (stamp_did.New version) o rack key servers is =
    write_no_holders o rack key version servers is
stamped_no_holders (stamp_did.Same version) o rack key servers is =
    write_no_holders o rack key version servers is
stamped_no_holders _ o rack key servers is = nothing_holders servers is

read_not_any :
    (o : Option Listing) (rack : Rack) (key : List ℕ) → read_allowed o rack key ≡ Any → ⊥
read_not_any None rack key is = home_any (home_of rack.servers key) is
read_not_any (Some entry) rack key is = holders_any entry.holders is

-- ---- the step

-- a turn whose step is this one
abbrev turned : Balanced → SwitchStep → Balanced × List (Node × Packet)
turned b step =
    (record { switch = step.state; loads = charged_by step.did b.loads }, step.sent)

active_read :
    (b : Balanced) (p : Packet) (servers : List ℕ) → request_allowed b.switch p ≡ Holders servers
    → 1 ≤ length servers → HaveWeights b.loads servers
    → GoesToLightest b.loads servers
    (turned b
    (active_step b.switch p (pick_by b.loads b.switch.rack (Holders servers))))
active_read b (Read client seq key) servers is some weights =
    let s = b.switch in
    let o = entry_of s.entries key in
    let server = server_of_read s.rack o key (pick_by b.loads s.rack (Holders servers)) in
    record {
      server = server;
      packet = ToServerRead client seq server s.id key;
      sent = refl;
      lightest = read_lightest b.loads s.rack key o servers is some weights;
      loads = refl;
    }
active_read b (Write client seq key content) servers is some weights =
    absurd
    (stamped_no_holders (stamp b.switch.stamps client seq).0 (entry_of b.switch.entries key)
    b.switch.rack key servers is)
active_read b _ servers is some weights = absurd (nothing_holders servers is)

stamped_write :
    (b : Balanced) (r : Stamp × Stamps) (client seq : ℕ) (key : List ℕ) (content : Content)
    → stamped_allowed r.0 (entry_of b.switch.entries key) b.switch.rack key ≡ Any
    → 1 ≤ b.switch.rack.servers → HaveWeights b.loads (below b.switch.rack.servers)
    → GoesToLightest b.loads (below b.switch.rack.servers)
    (turned b
    (forwards_write
    (stamped_request r (core_of b.switch) key (pick_by b.loads b.switch.rack Any)) b.switch client
    seq key content))
stamped_write b (stamp_did.New version, stamps) client seq key content is some weights =
    let s = b.switch in
    let o = entry_of s.entries key in
    let server = server_of_write s.rack o key version (pick_by b.loads s.rack Any) in
    record {
      server = server;
      packet = ToServerWrite client seq version server s.id key content;
      sent = refl;
      lightest = write_lightest b.loads s.rack key o version is some weights;
      loads = refl;
    }
stamped_write b (stamp_did.Same version, stamps) client seq key content is some weights =
    let s = b.switch in
    let o = entry_of s.entries key in
    let server = server_of_write s.rack o key version (pick_by b.loads s.rack Any) in
    record {
      server = server;
      packet = ToServerWrite client seq version server s.id key content;
      sent = refl;
      lightest = write_lightest b.loads s.rack key o version is some weights;
      loads = refl;
    }
stamped_write b (_, stamps) client seq key content is some weights = absurd (nothing_any is)

active_write :
    (b : Balanced) (p : Packet) → request_allowed b.switch p ≡ Any → 1 ≤ b.switch.rack.servers
    → HaveWeights b.loads (below b.switch.rack.servers)
    → GoesToLightest b.loads (below b.switch.rack.servers)
    (turned b (active_step b.switch p (pick_by b.loads b.switch.rack Any)))
active_write b (Read client seq key) is some weights =
    absurd (read_not_any (entry_of b.switch.entries key) b.switch.rack key is)
active_write b (Write client seq key content) is some weights =
    stamped_write b (stamp b.switch.stamps client seq) client seq key content is some weights
active_write b _ is some weights = absurd (nothing_any is)

-- ---- the turn

abbrev turn_on : Balanced → Option (Format × Packet) → Balanced × List (Node × Packet)
turn_on b o =
    let s = b.switch in
    let pick = pick_by b.loads s.rack (packet_allowed o s) in
    turned b
    (on_bytes o s.rack.format (λ p. switch_step s p pick) s did.Malformed did.OutOfPlace)

reads_go :
    (b : Balanced) (o : Option (Format × Packet)) (servers : List ℕ)
    → packet_allowed o b.switch ≡ Holders servers → 1 ≤ length servers
    → HaveWeights b.loads servers → GoesToLightest b.loads servers (turn_on b o)
reads_go b None servers is some weights = absurd (nothing_holders servers is)
reads_go b (Some (format, p)) servers is some weights =
    let s = b.switch in
    let a = allowed_holders (is_ready s format p) (request_allowed s p) servers is in
    let pick = pick_by b.loads s.rack (packet_allowed (Some (format, p)) s) in
    subst (λ step. GoesToLightest b.loads servers (turned b step))
    (sym
    (ready_step s format p pick a.is_ready
    ∙ ap (λ allowed. active_step s p (pick_by b.loads s.rack allowed)) is))
    (active_read b p servers a.is some weights)

writes_go :
    (b : Balanced) (o : Option (Format × Packet)) → packet_allowed o b.switch ≡ Any
    → 1 ≤ b.switch.rack.servers → HaveWeights b.loads (below b.switch.rack.servers)
    → GoesToLightest b.loads (below b.switch.rack.servers) (turn_on b o)
writes_go b None is some weights = absurd (nothing_any is)
writes_go b (Some (format, p)) is some weights =
    let s = b.switch in
    let a = allowed_any (is_ready s format p) (request_allowed s p) is in
    let pick = pick_by b.loads s.rack (packet_allowed (Some (format, p)) s) in
    subst (λ step. GoesToLightest b.loads (below s.rack.servers) (turned b step))
    (sym
    (ready_step s format p pick a.is_ready
    ∙ ap (λ allowed. active_step s p (pick_by b.loads s.rack allowed)) is))
    (active_write b p a.is some weights)

pub spreads_requests :
    (b : Balanced) (bytes : List ℕ) (before : ℕ)
    → SpreadsRequests b bytes (balanced_turn b bytes before)
spreads_requests b bytes before =
    record {
      read = λ servers is some weights. reads_go b (packet_of bytes) servers is some weights;
      write = λ is some weights. writes_go b (packet_of bytes) is some weights;
    }
