-- A server sends no request.
use Rattle.std.proofs.Common.{◌==◌, ℕ}
use Rattle.std.proofs.Common.{List, [], ◌∷◌}
use Rattle.std.proofs.lemmas.Bool.{cond_both}
use Rattle.peg_name.specs.declared.value.Content.{Content}
use Rattle.peg_name.specs.declared.Node.TheVariants as node
use Rattle.peg_event.specs.declared.ServerDid.TheVariants as server_did
use Rattle.peg_event.specs.declared.answers.Apply.{Apply}
use Rattle.peg_event.specs.declared.answers.Apply.TheVariants as apply
use Rattle.peg_event.specs.declared.answers.WriteDid.{WriteDid}
use Rattle.peg_event.specs.declared.answers.WriteDid.TheVariants as write_did
use Rattle.peg_event.specs.declared.answers.FenceDid.{FenceDid}
use Rattle.peg_event.specs.declared.answers.FenceDid.TheVariants as fence_did
use Rattle.peg_event.specs.declared.answers.Stored.{Stored}
use Rattle.peg_model.specs.Words.{refuse}
use Rattle.peg_model.specs.Packet as packet
use Rattle.peg_model.specs.Packet.{Packet}
use Rattle.peg_model.specs.Server.{Server, ServerStep, server_takes, serve, serve_order}
use Rattle.peg_model.specs.Server.{serve_write}
use Rattle.peg_model.specs.Server.{serve_copy, serve_fence, write_answer, apply_answer}
use Rattle.peg_model.specs.Server.{fence_answer, held, server_step}
use Rattle.peg_law.proofs.Known.{SendsNone}

none_written :
    (d : WriteDid) (s : Server) (client seq version switch : ℕ) (key : List ℕ) (content : Content)
    → SendsNone (serve_write d s client seq version switch key content)
none_written write_did.Applied s client seq version switch key content = (tt, tt)
none_written (write_did.Kept held) s client seq version switch key content = (tt, tt)
none_written (write_did.Void floor) s client seq version switch key content = (tt, tt)
none_written (write_did.Barred old) s client seq version switch key content = tt

none_copied :
    (d : Apply) (s : Server) (version switch : ℕ) (key : List ℕ) (content : Content)
    → SendsNone (serve_copy d s version switch key content)
none_copied apply.Applied s version switch key content = (tt, tt)
none_copied (apply.Kept held) s version switch key content = (tt, tt)

none_fenced : (d : FenceDid) (s : Server) (version switch : ℕ) (key : List ℕ)
    → SendsNone (serve_fence d s version switch key)
none_fenced (fence_did.Fenced held) s version switch key = (tt, tt)
none_fenced (fence_did.Kept held) s version switch key = (tt, tt)

none_ordered : (was : Stored) (s : Server) (switch target : ℕ) (key : List ℕ)
    → SendsNone (serve_order was s switch target key)
none_ordered was s switch target key =
    cond_both (was.version == 0) (refuse s (server_did.HasNone key))
    (record {
      state = s;
      sent =
          (node.Server target, packet.CopyData switch target was.version key was.content) ∷ [];
      did = server_did.Copied key was.version target;
    })
    (λ (t : ServerStep). SendsNone t) (λ nothing. tt) (λ some. (tt, tt))

none_served : (s : Server) (p : Packet) → SendsNone (serve s p)
none_served s (packet.ToServerRead client seq server switch key) = (tt, tt)
none_served s (packet.ToServerWrite client seq version server switch key content) =
    none_written (write_answer s.store key version) s client seq version switch key content
none_served s (packet.CopyData switch server version key content) =
    none_copied (apply_answer s.store key version) s version switch key content
none_served s (packet.CopyOrder switch server target key) =
    none_ordered (held s.store key) s switch target key
none_served s (packet.Fence switch server version key) =
    none_fenced (fence_answer s.store key version) s version switch key
none_served s _ = tt

pub server_sends_none : (s : Server) (p : Packet) → SendsNone (server_step s p)
unfolding server_step
server_sends_none s p =
    cond_both (server_takes s.rack s.id p) (serve s p) (refuse s server_did.OutOfPlace)
    (λ (t : ServerStep). SendsNone t) (λ taken. none_served s p) (λ refused. tt)
