-- A client that takes a packet.
use Rattle.std.proofs.Common.{◌≡◌, ℕ, ◌<◌, true, List, [], ap, refl, arith}
use Rattle.std.proofs.Common.{Option, Some, None, nat_lt}
use Rattle.std.proofs.lemmas.Bool.{cond_both}
use Rattle.std.proofs.lemmas.Bool.Decides.{nat_tests}
use Rattle.peg_name.specs.Name.{Rack}
use Rattle.peg_name.specs.declared.value.Content.{Content}
use Rattle.peg_name.specs.declared.Node.{Node}
use Rattle.peg_event.specs.declared.ClientDid.{ClientDid}
use Rattle.peg_event.specs.declared.ClientDid.TheVariants as client_did
use Rattle.peg_event.specs.declared.answers.Pending.{Pending}
use Rattle.peg_model.specs.Words.{Step, refuse}
use Rattle.peg_model.specs.Packet as packet
use Rattle.peg_model.specs.Packet.{Packet}
use Rattle.peg_model.specs.Client.{Client, client_step, answered, is_read_of, is_write_of}
use Rattle.peg_model.specs.Client.{awaits_read, awaits_write}
use Rattle.peg_model.specs.World.{World}
use Rattle.peg_packet.specs.Nodes.{announces_in}
use Rattle.peg_world.specs.Machine.{is_pending}
use Rattle.peg_world.specs.Midway.{packet_at}
use Rattle.peg_world.specs.Sound.{IsClient}
use Rattle.peg_world.specs.Telling.{content_in, did_told, without}

reads_pending :
    (o : Option Pending) (c : Client) (client seq : ℕ) (key : List ℕ)
    → is_read_of o c client seq key ≡ true → is_pending o seq ≡ true
reads_pending None c client seq key e = absurd cc
reads_pending (Some p) c client seq key e = grind (arith, nat_tests, e)

writes_pending :
    (o : Option Pending) (c : Client) (client seq : ℕ) (key : List ℕ)
    → is_write_of o c client seq key ≡ true → is_pending o seq ≡ true
writes_pending None c client seq key e = absurd cc
writes_pending (Some p) c client seq key e = grind (arith, nat_tests, e)

-- what holds where it ignores the packet, takes an answer or moves to another switch
pub taken_both :
    (P : Step Client (Node × Packet) ClientDid → Type 0) (rack : Rack) (c : Client) (p : Packet)
    → announces_in rack p ≡ true → P (refuse c client_did.Ignored)
    → ((seq version : ℕ) → is_pending c.pending seq ≡ true
    → P (answered c (client_did.Wrote seq version)))
    → ((seq version : ℕ) (content : Content) → is_pending c.pending seq ≡ true
    → P (answered c (client_did.Read seq version content)))
    → ((epoch switch : ℕ) → switch < rack.switches
    → P (record {
      state = record c { switch = switch; epoch = epoch };
      sent = [];
      did = client_did.Moved switch epoch;
    }))
    → P (client_step c p)
unfolding client_step
taken_both P rack c (packet.ReadReply client seq version server switch key content) goes ignored
    wrote given moved =
    cond_both (awaits_read c client seq key) (answered c (client_did.Read seq version content))
    (refuse c client_did.Ignored) P
    (λ e. given seq version content (reads_pending c.pending c client seq key e)) (λ e. ignored)
taken_both P rack c (packet.WriteReply client seq version server switch key) goes ignored wrote
    given moved =
    cond_both (awaits_write c client seq key) (answered c (client_did.Wrote seq version))
    (refuse c client_did.Ignored) P
    (λ e. wrote seq version (writes_pending c.pending c client seq key e)) (λ e. ignored)
taken_both P rack c (packet.Announce epoch switch) goes ignored wrote given moved =
    cond_both (nat_lt c.epoch epoch)
    (record {
      state = record c { switch = switch; epoch = epoch };
      sent = [];
      did = client_did.Moved switch epoch;
    })
    (refuse c client_did.Ignored) P
    (λ e. moved epoch switch (grind (arith, nat_tests, goes))) (λ e. ignored)
taken_both P rack c _ goes ignored wrote given moved = ignored

pub taken_named :
    (rack : Rack) (c : Client) (p : Packet)
    → announces_in rack p ≡ true → (client_step c p).state.id ≡ c.id
taken_named rack c p goes =
    taken_both (λ (s : Step Client (Node × Packet) ClientDid). s.state.id ≡ c.id) rack c p goes refl
    (λ seq version e. refl) (λ seq version content e. refl) (λ epoch switch small. refl)

pub taken_sends :
    (rack : Rack) (c : Client) (p : Packet)
    → announces_in rack p ≡ true → (client_step c p).sent ≡ []
taken_sends rack c p goes =
    taken_both (λ (s : Step Client (Node × Packet) ClientDid). s.sent ≡ []) rack c p goes refl
    (λ seq version e. refl) (λ seq version content e. refl) (λ epoch switch small. refl)

pub taken_is :
    (rack : Rack) (id : ℕ) (c : Client) (p : Packet)
    → announces_in rack p ≡ true → IsClient rack id c → IsClient rack id (client_step c p).state
taken_is rack id c p goes is =
    taken_both (λ (s : Step Client (Node × Packet) ClientDid). IsClient rack id s.state) rack c p
    goes is
    (λ seq version e. record { named = is.named; speaks = is.speaks; asks = is.asks })
    (λ seq version content e. record { named = is.named; speaks = is.speaks; asks = is.asks })
    (λ epoch switch small. record { named = is.named; speaks = is.speaks; asks = small })

-- what a client did with a packet, where the content that it was given is taken from the packet again
pub restored :
    (number : ℕ) (w : World) (c : Client) (p : Packet) → packet_at w number ≡ p
    → did_told (Some number) w (without (client_step c p).did) ≡ (client_step c p).did
unfolding client_step
restored number w c (packet.ReadReply client seq version server switch key content) is =
    cond_both (awaits_read c client seq key) (answered c (client_did.Read seq version content))
    (refuse c client_did.Ignored)
    (λ (s : Step Client (Node × Packet) ClientDid).
    did_told (Some number) w (without s.did) ≡ s.did)
    (λ e. ap (λ x. client_did.Read seq version (content_in x)) is) (λ e. refl)
restored number w c (packet.WriteReply client seq version server switch key) is =
    cond_both (awaits_write c client seq key) (answered c (client_did.Wrote seq version))
    (refuse c client_did.Ignored)
    (λ (s : Step Client (Node × Packet) ClientDid).
    did_told (Some number) w (without s.did) ≡ s.did) (λ e. refl) (λ e. refl)
restored number w c (packet.Announce epoch switch) is =
    cond_both (nat_lt c.epoch epoch)
    (record {
      state = record c { switch = switch; epoch = epoch };
      sent = [];
      did = client_did.Moved switch epoch;
    })
    (refuse c client_did.Ignored)
    (λ (s : Step Client (Node × Packet) ClientDid).
    did_told (Some number) w (without s.did) ≡ s.did) (λ e. refl) (λ e. refl)
restored number w c _ is = refl
