-- A switch sends no request.
use Rattle.std.proofs.Common.{◌+◌, ◌==◌, ℕ, Bool, true, false, if◌then◌else◌}
use Rattle.std.proofs.Common.{List, [], length, Option, Some, None}
use Rattle.std.proofs.lemmas.Bool.{cond_both}
use Rattle.std.specs.Prelude.{slice_index_or}
use Rattle.std.specs.List.{AllByRecursion}
use Rattle.peg_name.specs.declared.value.Content.{Content}
use Rattle.peg_name.specs.declared.Node.TheVariants as node
use Rattle.peg_event.specs.declared.Outcome.{Outcome}
use Rattle.peg_event.specs.declared.SwitchDid.TheVariants as switch_did
use Rattle.peg_event.specs.declared.answers.Forward.{Forward}
use Rattle.peg_event.specs.declared.answers.Forward.TheVariants as forward
use Rattle.peg_event.specs.declared.answers.CopyFrom.{CopyFrom}
use Rattle.peg_event.specs.declared.answers.CopyFrom.TheVariants as copy_from
use Rattle.peg_event.specs.declared.answers.FenceOf.{FenceOf}
use Rattle.peg_event.specs.declared.answers.FenceOf.TheVariants as fence_at
use Rattle.peg_model.specs.Words.{refuse, below}
use Rattle.peg_model.specs.Packet as packet
use Rattle.peg_model.specs.Packet.{Packet, What}
use Rattle.peg_model.specs.Rules.{Core, read_request, write_request, on_void, copy_source, fence_of}
use Rattle.peg_model.specs.Handover.{State, state_of, bytes_of, Collected, is_whole, held_count}
use Rattle.peg_model.specs.Handover.{with_part, has_part, begun, parts, state_bytes}
use Rattle.peg_model.specs.Switch.{Mode, Idle, Active, Sealed, Switch, SwitchStep, out_of_place}
use Rattle.peg_model.specs.Switch.{in_mode, active_step, idle_step, sealed_step, on_part}
use Rattle.peg_model.specs.Switch.{on_command}
use Rattle.peg_model.specs.Switch.{carry_out, repeats, kept_of, part_packets, activates, collects}
use Rattle.peg_model.specs.Switch.{core_of, forwards_read, forwards_write, takes_void, is_old}
use Rattle.peg_model.specs.Switch.{copies, fences, sends_again, state_held, switch_step}
use Rattle.peg_law.proofs.Lists.{all_map}
use Rattle.peg_law.proofs.Known.{IsNoRequest, SendsNone}

none_parts :
    (s : Switch) (target : ℕ) → AllByRecursion IsNoRequest (part_packets s target)
none_parts s target =
    let all = parts (state_bytes s.rack.format (state_held s)) in
    all_map IsNoRequest
    (λ i. (node.Switch target, packet.Part (s.epoch + 1) i (length all) (slice_index_or all i [])))
    (below (length all)) (λ i. tt)

none_kept : (o : Option Outcome) (last : ℕ) → AllByRecursion IsNoRequest (kept_of o last)
none_kept (Some o) last = (tt, tt)
none_kept None last = tt

none_read : (f : Forward) (s : Switch) (client seq : ℕ) (key : List ℕ)
    → SendsNone (forwards_read f s client seq key)
none_read (forward.To server version) s client seq key = (tt, tt)
none_read (forward.Stale last) s client seq key = tt
none_read (forward.Exhausted next) s client seq key = tt

none_stamped :
    (f : Forward × Core) (s : Switch) (client seq : ℕ) (key : List ℕ) (content : Content)
    → SendsNone (forwards_write f s client seq key content)
none_stamped (forward.To server version, core) s client seq key content = (tt, tt)
none_stamped (forward.Stale last, core) s client seq key content = tt
none_stamped (forward.Exhausted next, core) s client seq key content = tt

none_voided : (v : Bool × Core) (s : Switch) (client seq version : ℕ)
    → SendsNone (takes_void v s client seq version)
none_voided (true, core) s client seq version = tt
none_voided (false, core) s client seq version = tt

none_copies : (f : CopyFrom) (s : Switch) (number target : ℕ) (key : List ℕ)
    → SendsNone (copies f s number target key)
none_copies copy_from.NotListed s number target key = (tt, tt)
none_copies copy_from.Holds s number target key = (tt, tt)
none_copies (copy_from.From source) s number target key = (tt, (tt, tt))

none_fences : (f : FenceOf) (s : Switch) (number : ℕ) (key : List ℕ)
    → SendsNone (fences f s number key)
none_fences fence_at.NotListed s number key = (tt, tt)
none_fences fence_at.NoBase s number key = (tt, tt)
none_fences (fence_at.At home base) s number key = (tt, (tt, tt))

none_carried_out : (s : Switch) (number : ℕ) (what : What) → SendsNone (carry_out s number what)
none_carried_out s number (packet.Promote key) = (tt, tt)
none_carried_out s number (packet.Demote key) = (tt, tt)
none_carried_out s number (packet.Copy target key) =
    none_copies (copy_source (core_of s) key target) s number target key
none_carried_out s number (packet.FenceKey key) =
    none_fences (fence_of (core_of s) key) s number key
none_carried_out s number (packet.Seal target epoch) =
    none_parts (record s { mode = Sealed target; last = number; kept = None }) target
none_carried_out s number packet.Clear = (tt, tt)

none_commanded : (s : Switch) (number : ℕ) (what : What) → SendsNone (on_command s number what)
none_commanded s number what = first (number == s.last + 1) (number == s.last)
  where
    first : (b b' : Bool)
        → SendsNone
        (if b then carry_out s number what
        else (if b' then repeats s else refuse s (switch_did.Skipped number s.last)))
    first true b' = none_carried_out s number what
    first false true = none_kept s.kept s.last
    first false false = tt

none_active : (s : Switch) (p : Packet) (pick : ℕ) → SendsNone (active_step s p pick)
none_active s (packet.Read client seq key) pick =
    none_read (read_request (core_of s) key pick) s client seq key
none_active s (packet.Write client seq key content) pick =
    none_stamped (write_request (core_of s) key client seq pick) s client seq key content
none_active s (packet.ReadReply client seq version server switch key content) pick = (tt, tt)
none_active s (packet.WriteReply client seq version server switch key) pick = (tt, tt)
none_active s (packet.Void client seq version server switch key) pick =
    none_voided (on_void (core_of s) client seq version) s client seq version
none_active s (packet.Held server version key) pick = tt
none_active s (packet.Command number what) pick = none_commanded s number what
none_active s (packet.Part epoch index count bytes) pick = first (epoch == s.epoch)
  where
    first : (b : Bool) → SendsNone (if b then repeats s else refuse s (switch_did.OldPart epoch))
    first true = none_kept s.kept s.last
    first false = tt
none_active s packet.Survey pick = (tt, tt)
none_active s _ pick = tt

none_activates : (o : Option State) (s : Switch) (epoch : ℕ) → SendsNone (activates o s epoch)
none_activates None s epoch = tt
none_activates (Some state) s epoch = (tt, tt)

none_collected :
    (now : Collected) (s : Switch) (epoch count : ℕ) → SendsNone (collects now s epoch count)
none_collected now s epoch count = first (is_whole now)
  where
    first : (b : Bool)
        → SendsNone
        (if b then activates (state_of s.rack (bytes_of now)) s epoch
        else record {
          state = record s { collected = now };
          sent = [];
          did = switch_did.Collected (held_count now) count;
        })
    first true = none_activates (state_of s.rack (bytes_of now)) s epoch
    first false = tt

none_part :
    (s : Switch) (epoch index count : ℕ) (bytes : List ℕ)
    → SendsNone (on_part s epoch index count bytes)
none_part s epoch index count bytes =
    first (is_old s epoch) (has_part (begun s.collected epoch count) index)
  where
    first : (b b' : Bool)
        → SendsNone
        (if b then refuse s (switch_did.OldPart epoch)
        else (if b' then refuse s (switch_did.HasPart index)
        else collects (with_part (begun s.collected epoch count) index bytes) s epoch count))
    first true b' = tt
    first false true = tt
    first false false =
        none_collected (with_part (begun s.collected epoch count) index bytes) s epoch count

none_idle : (s : Switch) (p : Packet) → SendsNone (idle_step s p)
none_idle s (packet.Part epoch index count bytes) = none_part s epoch index count bytes
none_idle s _ = tt

none_sealed : (s : Switch) (target : ℕ) (p : Packet) → SendsNone (sealed_step s target p)
none_sealed s target (packet.Part epoch index count bytes) = none_part s epoch index count bytes
none_sealed s target (packet.Command number what) = first (number == s.last)
  where
    first : (b : Bool)
        → SendsNone
        (if b then sends_again s target else refuse s (switch_did.Skipped number s.last))
    first true = none_parts s target
    first false = tt
none_sealed s target _ = tt

none_in_mode : (m : Mode) (s : Switch) (p : Packet) (pick : ℕ) → SendsNone (in_mode m s p pick)
none_in_mode Active s p pick = none_active s p pick
none_in_mode Idle s p pick = none_idle s p
none_in_mode (Sealed target) s p pick = none_sealed s target p

pub switch_sends_none : (s : Switch) (p : Packet) (pick : ℕ) → SendsNone (switch_step s p pick)
unfolding switch_step
switch_sends_none s p pick =
    cond_both (out_of_place s p) (refuse s switch_did.OutOfPlace) (in_mode s.mode s p pick)
    (λ (t : SwitchStep). SendsNone t) (λ refused. tt) (λ taken. none_in_mode s.mode s p pick)
