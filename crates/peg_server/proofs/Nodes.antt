-- What a server sends goes to nodes of its rack, where what it took named nodes of it; and it sends
-- one packet at most.
use Rattle.std.proofs.Common.{◌≡◌, ◌≤◌, ℕ, true, List, length, Option, Some, None}
use Rattle.std.proofs.Common.{refl, nat_lt, arith}
use Rattle.std.proofs.lemmas.Bool.{cond_both}
use Rattle.std.proofs.lemmas.Bool.Decides.{nat_tests}
use Rattle.std.specs.Cmp.Derive.{both_true}
use Rattle.peg_name.specs.declared.value.Content.{Content}
use Rattle.peg_name.specs.declared.Format.{Format}
use Rattle.peg_event.specs.declared.answers.Apply.{Apply}
use Rattle.peg_event.specs.declared.answers.Apply.TheVariants as apply
use Rattle.peg_event.specs.declared.answers.FenceDid.{FenceDid}
use Rattle.peg_event.specs.declared.answers.FenceDid.TheVariants as fence_did
use Rattle.peg_event.specs.declared.ServerDid.TheVariants as server_did
use Rattle.peg_event.specs.declared.answers.Stored.{Stored}
use Rattle.peg_event.specs.declared.answers.WriteDid.{WriteDid}
use Rattle.peg_event.specs.declared.answers.WriteDid.TheVariants as write_did
use Rattle.peg_model.specs.Words.{refuse}
use Rattle.peg_model.specs.Packet.{Packet, ToServerRead, ToServerWrite, CopyOrder, CopyData, Fence}
use Rattle.peg_model.specs.Server.{Server, serve, serve_write, serve_copy, serve_fence, serve_order}
use Rattle.peg_model.specs.Server.{server_takes, held, write_answer, apply_answer, fence_answer}
use Rattle.peg_model.specs.Server.{ServerStep, server_step}
use Rattle.peg_model.specs.Reading.{packet_of, is_format}
use Rattle.peg_model.specs.Datagrams.{server_on_bytes, on_bytes}
use Rattle.peg_packet.specs.Nodes.{are_in_rack}

write_in_rack :
    (did : WriteDid) (s : Server) (client seq version switch : ℕ) (key : List ℕ)
    (content : Content)
    → nat_lt switch s.rack.switches ≡ true
    → are_in_rack s.rack (serve_write did s client seq version switch key content).sent ≡ true
write_in_rack write_did.Applied s client seq version switch key content h = both_true h refl
write_in_rack (write_did.Kept held) s client seq version switch key content h = both_true h refl
write_in_rack (write_did.Void floor) s client seq version switch key content h = both_true h refl
write_in_rack (write_did.Barred old) s client seq version switch key content h = refl

copy_in_rack :
    (did : Apply) (s : Server) (version switch : ℕ) (key : List ℕ) (content : Content)
    → nat_lt switch s.rack.switches ≡ true
    → are_in_rack s.rack (serve_copy did s version switch key content).sent ≡ true
copy_in_rack apply.Applied s version switch key content h = both_true h refl
copy_in_rack (apply.Kept held) s version switch key content h = both_true h refl

fence_in_rack :
    (did : FenceDid) (s : Server) (version switch : ℕ) (key : List ℕ)
    → nat_lt switch s.rack.switches ≡ true
    → are_in_rack s.rack (serve_fence did s version switch key).sent ≡ true
fence_in_rack (fence_did.Fenced held) s version switch key h = both_true h refl
fence_in_rack (fence_did.Kept held) s version switch key h = both_true h refl

order_in_rack :
    (was : Stored) (s : Server) (switch target : ℕ) (key : List ℕ)
    → nat_lt target s.rack.servers ≡ true
    → are_in_rack s.rack (serve_order was s switch target key).sent ≡ true
order_in_rack was s switch target key h = grind (arith, nat_tests)

pub served_in_rack :
    (s : Server) (packet : Packet) → server_takes s.rack s.id packet ≡ true
    → are_in_rack s.rack (serve s packet).sent ≡ true
served_in_rack s (ToServerRead client seq server switch key) taken = grind (arith, nat_tests)
served_in_rack s (ToServerWrite client seq version server switch key content) taken =
    write_in_rack (write_answer s.store key version) s client seq version switch key content
    (grind (arith, nat_tests))
served_in_rack s (CopyData switch server version key content) taken =
    copy_in_rack (apply_answer s.store key version) s version switch key content
    (grind (arith, nat_tests))
served_in_rack s (CopyOrder switch server target key) taken =
    order_in_rack (held s.store key) s switch target key (grind (arith, nat_tests))
served_in_rack s (Fence switch server version key) taken =
    fence_in_rack (fence_answer s.store key version) s version switch key
    (grind (arith, nat_tests))
served_in_rack s _ taken = refl

-- ---- how many packets

few_written :
    (did : WriteDid) (s : Server) (client seq version switch : ℕ) (key : List ℕ)
    (content : Content)
    → length (serve_write did s client seq version switch key content).sent ≤ 1
few_written write_did.Applied s client seq version switch key content = omega arith
few_written (write_did.Kept held) s client seq version switch key content = omega arith
few_written (write_did.Void floor) s client seq version switch key content = omega arith
few_written (write_did.Barred old) s client seq version switch key content = omega arith

few_copied :
    (did : Apply) (s : Server) (version switch : ℕ) (key : List ℕ) (content : Content)
    → length (serve_copy did s version switch key content).sent ≤ 1
few_copied apply.Applied s version switch key content = omega arith
few_copied (apply.Kept held) s version switch key content = omega arith

few_fenced :
    (did : FenceDid) (s : Server) (version switch : ℕ) (key : List ℕ)
    → length (serve_fence did s version switch key).sent ≤ 1
few_fenced (fence_did.Fenced held) s version switch key = omega arith
few_fenced (fence_did.Kept held) s version switch key = omega arith

few_ordered :
    (was : Stored) (s : Server) (switch target : ℕ) (key : List ℕ)
    → length (serve_order was s switch target key).sent ≤ 1
few_ordered was s switch target key = grind (arith, nat_tests)

few_served : (s : Server) (packet : Packet) → length (serve s packet).sent ≤ 1
few_served s (ToServerRead client seq server switch key) = omega arith
few_served s (ToServerWrite client seq version server switch key content) =
    few_written (write_answer s.store key version) s client seq version switch key content
few_served s (CopyData switch server version key content) =
    few_copied (apply_answer s.store key version) s version switch key content
few_served s (CopyOrder switch server target key) =
    few_ordered (held s.store key) s switch target key
few_served s (Fence switch server version key) =
    few_fenced (fence_answer s.store key version) s version switch key
few_served s _ = omega arith

few_stepped : (s : Server) (packet : Packet) → length (server_step s packet).sent ≤ 1
unfolding server_step
few_stepped s packet =
    cond_both (server_takes s.rack s.id packet) (serve s packet) (refuse s server_did.OutOfPlace)
    (λ (step : ServerStep). length step.sent ≤ 1) (λ _. few_served s packet) (λ _. omega arith)

few_found :
    (found : Option (Format × Packet)) (s : Server)
    → length
    (on_bytes found s.rack.format (server_step s) s server_did.Malformed server_did.OutOfPlace).sent
    ≤ 1
few_found None s = omega arith
few_found (Some (other, packet)) s =
    cond_both (is_format other s.rack.format) (server_step s packet)
    (refuse s server_did.OutOfPlace) (λ (step : ServerStep). length step.sent ≤ 1)
    (λ _. few_stepped s packet) (λ _. omega arith)

pub few_on_bytes :
    (s : Server) (bytes : List ℕ) → length (server_on_bytes s bytes).sent ≤ 1
few_on_bytes s bytes = few_found (packet_of bytes) s
