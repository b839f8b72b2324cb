-- A step keeps the number of the switch and its rack.
use Rattle.std.proofs.Common.{◌≡◌, ℕ, ◌+◌, ◌==◌, Bool, true, false, Option, Some, None, List, []}
use Rattle.std.proofs.Common.{refl, ap, if◌then◌else◌}
use Rattle.std.proofs.lemmas.Bool.{cond_both}
use Rattle.peg_name.specs.Name.{Rack}
use Rattle.peg_name.specs.declared.value.Content.{Content}
use Rattle.peg_event.specs.declared.answers.CopyFrom.{CopyFrom}
use Rattle.peg_event.specs.declared.answers.CopyFrom.TheVariants as copy_from
use Rattle.peg_event.specs.declared.answers.FenceOf.{FenceOf}
use Rattle.peg_event.specs.declared.answers.FenceOf.TheVariants as fence_at
use Rattle.peg_event.specs.declared.answers.Forward.{Forward}
use Rattle.peg_event.specs.declared.answers.Forward.TheVariants as forward
use Rattle.peg_event.specs.declared.SwitchDid.TheVariants as did
use Rattle.peg_model.specs.Words.{refuse}
use Rattle.peg_model.specs.Packet.{Packet, What, Command, Promote, Demote, Copy, FenceKey, Seal}
use Rattle.peg_model.specs.Packet.{Clear, Part, Read, Write, ReadReply, WriteReply, Void, Held}
use Rattle.peg_model.specs.Packet.{Survey}
use Rattle.peg_model.specs.Rules.{Core, read_request, write_request, on_void, copy_source}
use Rattle.peg_model.specs.Rules.{fence_of}
use Rattle.peg_model.specs.Handover.{State, Collected, begun, has_part, with_part, is_whole}
use Rattle.peg_model.specs.Handover.{bytes_of, held_count, state_of}
use Rattle.peg_model.specs.Switch.{Switch, SwitchStep, Mode, Active, Idle, Sealed, switch_step}
use Rattle.peg_model.specs.Switch.{active_step, idle_step, sealed_step, in_mode, out_of_place}
use Rattle.peg_model.specs.Switch.{forwards_read, forwards_write, takes_void, copies, fences}
use Rattle.peg_model.specs.Switch.{carry_out, on_command, repeats, activates, collects, on_part}
use Rattle.peg_model.specs.Switch.{is_old, core_of, sends_again}

abbrev named : Switch → Rack × ℕ
named s = (s.rack, s.id)

abbrev Stays : Switch → SwitchStep → Type 0
Stays s step = named step.state ≡ named s

-- ---- requests

reads :
    (to : Forward) (s : Switch) (client seq : ℕ) (key : List ℕ)
    → Stays s (forwards_read to s client seq key)
reads (forward.To server version) s client seq key = refl
reads (forward.Stale last) s client seq key = refl
reads (forward.Exhausted next) s client seq key = refl

writes :
    (to : Forward × Core) (s : Switch) (client seq : ℕ) (key : List ℕ) (content : Content)
    → Stays s (forwards_write to s client seq key content)
writes (forward.To server version, core) s client seq key content = refl
writes (forward.Stale last, core) s client seq key content = refl
writes (forward.Exhausted next, core) s client seq key content = refl

voids :
    (opened : Bool × Core) (s : Switch) (client seq version : ℕ)
    → Stays s (takes_void opened s client seq version)
voids (true, core) s client seq version = refl
voids (false, core) s client seq version = refl

-- ---- commands

orders :
    (source : CopyFrom) (s : Switch) (number target : ℕ) (key : List ℕ)
    → Stays s (copies source s number target key)
orders copy_from.NotListed s number target key = refl
orders copy_from.Holds s number target key = refl
orders (copy_from.From source) s number target key = refl

bars :
    (at : FenceOf) (s : Switch) (number : ℕ) (key : List ℕ) → Stays s (fences at s number key)
bars fence_at.NotListed s number key = refl
bars fence_at.NoBase s number key = refl
bars (fence_at.At home base) s number key = refl

carries : (s : Switch) (number : ℕ) (what : What) → Stays s (carry_out s number what)
carries s number (Promote key) = refl
carries s number (Demote key) = refl
carries s number (Copy target key) = orders (copy_source (core_of s) key target) s number target key
carries s number (FenceKey key) = bars (fence_of (core_of s) key) s number key
carries s number (Seal target epoch) = refl
carries s number Clear = refl

obeys : (s : Switch) (number : ℕ) (what : What) → Stays s (on_command s number what)
obeys s number what =
    let skipped = refuse s (did.Skipped number s.last) in
    cond_both (number == s.last + 1) (carry_out s number what)
    (if number == s.last then repeats s else skipped) (Stays s)
    (λ next. carries s number what)
    (λ other. cond_both (number == s.last) (repeats s) skipped (Stays s) (λ last. refl)
    (λ far. refl))

-- ---- parts

begins :
    (state : Option State) (s : Switch) (epoch : ℕ) → Stays s (activates state s epoch)
begins None s epoch = refl
begins (Some state) s epoch = refl

gathers : (now : Collected) (s : Switch) (epoch count : ℕ) → Stays s (collects now s epoch count)
gathers now s epoch count =
    cond_both (is_whole now) (activates (state_of s.rack (bytes_of now)) s epoch)
    (record {
      state = record s { collected = now };
      sent = [];
      did = did.Collected (held_count now) count;
    }) (Stays s) (λ whole. begins (state_of s.rack (bytes_of now)) s epoch) (λ more. refl)

takes :
    (s : Switch) (epoch index count : ℕ) (bytes : List ℕ)
    → Stays s (on_part s epoch index count bytes)
takes s epoch index count bytes =
    let all = begun s.collected epoch count in
    let held = refuse s (did.HasPart index) in
    let more = collects (with_part all index bytes) s epoch count in
    cond_both (is_old s epoch) (refuse s (did.OldPart epoch))
    (if has_part all index then held else more) (Stays s) (λ old. refl)
    (λ due. cond_both (has_part all index) held more (Stays s) (λ has. refl)
    (λ new. gathers (with_part all index bytes) s epoch count))

-- ---- the step

acts : (s : Switch) (p : Packet) (pick : ℕ) → Stays s (active_step s p pick)
acts s (Read client seq key) pick =
    reads (read_request (core_of s) key pick) s client seq key
acts s (Write client seq key content) pick =
    writes (write_request (core_of s) key client seq pick) s client seq key content
acts s (ReadReply client seq version server switch key content) pick = refl
acts s (WriteReply client seq version server switch key) pick = refl
acts s (Void client seq version server switch key) pick =
    voids (on_void (core_of s) client seq version) s client seq version
acts s (Held server version key) pick = refl
acts s (Command number what) pick = obeys s number what
acts s (Part epoch index count bytes) pick =
    cond_both (epoch == s.epoch) (repeats s) (refuse s (did.OldPart epoch)) (Stays s)
    (λ own. refl) (λ old. refl)
acts s Survey pick = refl
acts s _ pick = refl

waits : (s : Switch) (p : Packet) → Stays s (idle_step s p)
waits s (Part epoch index count bytes) = takes s epoch index count bytes
waits s _ = refl

hands : (s : Switch) (target : ℕ) (p : Packet) → Stays s (sealed_step s target p)
hands s target (Part epoch index count bytes) = takes s epoch index count bytes
hands s target (Command number what) =
    cond_both (number == s.last) (sends_again s target) (refuse s (did.Skipped number s.last))
    (Stays s) (λ last. refl) (λ other. refl)
hands s target _ = refl

does : (mode : Mode) (s : Switch) (p : Packet) (pick : ℕ) → Stays s (in_mode mode s p pick)
does Active s p pick = acts s p pick
does Idle s p pick = waits s p
does (Sealed target) s p pick = hands s target p

stays : (s : Switch) (p : Packet) (pick : ℕ) → Stays s (switch_step s p pick)
unfolding switch_step
stays s p pick =
    cond_both (out_of_place s p) (refuse s did.OutOfPlace) (in_mode s.mode s p pick) (Stays s)
    (λ out. refl) (λ placed. does s.mode s p pick)

pub rack_stays : (s : Switch) (p : Packet) (pick : ℕ) → (switch_step s p pick).state.rack ≡ s.rack
rack_stays s p pick = ap (λ (x : Rack × ℕ). x.0) (stays s p pick)

pub id_stays : (s : Switch) (p : Packet) (pick : ℕ) → (switch_step s p pick).state.id ≡ s.id
id_stays s p pick = ap (λ (x : Rack × ℕ). x.1) (stays s p pick)
