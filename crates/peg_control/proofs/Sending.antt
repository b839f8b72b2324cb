-- What a controller sends is packets of its rack's format, one behind the other.
use Rattle.std.proofs.Common.{◌≡◌, ℕ, zero, suc, ◌+◌, ◌-◌, ◌<◌, ◌≤◌, ◌^◌, Bool, true, List, []}
use Rattle.std.proofs.Common.{◌∷◌, ◌++◌, length, map, refl, ap, sym, ◌∙◌, arith, append_assoc}
use Rattle.std.proofs.Common.{append-nil, length-append, add-one}
use Rattle.std.proofs.lemmas.Bool.Decides.{nat_tests}
use Rattle.std.proofs.lemmas.List.{map-append, length-map}
use Rattle.std.specs.List.{list_all}
use Rattle.std.specs.Cmp.Derive.{both_true}
use Rattle.peg_name.specs.Name.{Rack, InLimits}
use Rattle.peg_name.specs.declared.Format.{Format}
use Rattle.peg_name.specs.declared.Format.TheVariants.{One, Two}
use Rattle.peg_name.specs.declared.Node.{Node}
use Rattle.peg_name.specs.declared.Node.TheVariants as node
use Rattle.peg_event.specs.declared.Command.{Command}
use Rattle.peg_event.specs.declared.Command.TheVariants.{Promote, Demote, Copy, Fence, Handover}
use Rattle.peg_event.specs.declared.Command.TheVariants.{Clear}
use Rattle.peg_model.specs.Words.{below}
use Rattle.peg_model.specs.Packet as packet
use Rattle.peg_model.specs.Packet.{Packet, in_range, Announce}
use Rattle.peg_model.specs.Controller.{announces, what_of}
use Rattle.peg_model.specs.Datagrams.{are_packets, spelled}
use Rattle.peg_packet.specs.Outbox.{Outbox, posted}
use Rattle.peg_control.specs.Fits.{command_fits, is_keyed}

-- ---- an outbox that is put into twice

pub posted_none : (post : Outbox) → posted post [] ≡ post
posted_none post = ap (λ l. record post { items = l }) (append-nil post.items)

pub posted_twice :
    (post : Outbox) (first second : List (Node × Packet))
    → posted (posted post first) second ≡ posted post (first ++ second)
posted_twice post first second =
    ap (λ l. record post { items = l })
    (append_assoc post.items (spelled post.format first) (spelled post.format second)
    ∙ ap (λ l. post.items ++ l)
    (sym
    (map-append (λ (item : Node × Packet). (item.0, packet.spelling post.format item.1)) first
    second)))

pub length_posted :
    (post : Outbox) (sent : List (Node × Packet))
    → length (posted post sent).items ≡ length post.items + length sent
length_posted post sent =
    length-append post.items (spelled post.format sent)
    ∙ ap (λ n. length post.items + n)
    (length-map sent
    (λ (item : Node × Packet). (item.0, packet.spelling post.format item.1)))

-- ---- announcements

pub length_below : (n : ℕ) → length (below n) ≡ n
length_below zero = refl
length_below (suc n) =
    let e = length_below n in
    omega (arith, e, length-append (below n) (n ∷ []))

-- the announcement to these clients
abbrev pub told : ℕ → ℕ → List ℕ → List (Node × Packet)
told epoch switch clients = map (λ client. (node.Client client, Announce epoch switch)) clients

below_more : (n : ℕ) → below (n + 1) ≡ below n ++ n ∷ []
below_more n = ap below (add-one n)

pub told_more :
    (post now : Outbox) (epoch switch client : ℕ)
    → now ≡ posted post (told epoch switch (below client))
    → posted now ((node.Client client, Announce epoch switch) ∷ [])
    ≡ posted post (told epoch switch (below (client + 1)))
told_more post now epoch switch client is =
    let to : ℕ → Node × Packet = λ client. (node.Client client, Announce epoch switch) in
    ap (λ p. posted p (to client ∷ [])) is
    ∙ posted_twice post (told epoch switch (below client)) (to client ∷ [])
    ∙ ap (posted post)
    (sym (map-append to (below client) (client ∷ []))
    ∙ ap (told epoch switch) (sym (below_more client)))

pub told_within :
    (post now : Outbox) (epoch switch client most : ℕ)
    → now ≡ posted post (told epoch switch (below client)) → client < most
    → length post.items + most ≤ post.slots → length now.items < now.slots
told_within post now epoch switch client most is low room =
    let slots : now.slots ≡ post.slots = ap (λ (p : Outbox). p.slots) is in
    let items : length now.items ≡ length post.items + client =
    ap (λ (p : Outbox). length p.items) is
    ∙ length_posted post (told epoch switch (below client))
    ∙ ap (λ n. length post.items + n)
    (length-map (below client) (λ client. (node.Client client, Announce epoch switch))
    ∙ length_below client) in
    omega (arith, slots, items)

pub all_append :
    {X : Type 0} (test : X → Bool) (xs ys : List X) → list_all test xs ≡ true
    → list_all test ys ≡ true → list_all test (xs ++ ys) ≡ true
all_append test [] ys h k = k
all_append test (x ∷ xs) ys h k = grind (arith, all_append test xs ys)

all_told :
    (format : Format) (epoch switch : ℕ) (clients : List ℕ)
    → in_range format (Announce epoch switch) ≡ true
    → are_packets format (told epoch switch clients) ≡ true
all_told format epoch switch [] h = refl
all_told format epoch switch (client ∷ clients) h =
    both_true h (all_told format epoch switch clients h)

pub are_announces :
    (format : Format) (rack : Rack) (epoch switch : ℕ)
    → in_range format (Announce epoch switch) ≡ true
    → are_packets format (announces rack epoch switch) ≡ true
are_announces format rack epoch switch h = all_told format epoch switch (below rack.clients) h

pub announcement_in_range :
    (format : Format) (rack : Rack) (epoch switch : ℕ) → InLimits rack → switch < rack.switches
    → 1 ≤ epoch → epoch < 2 ^ 64 → in_range format (Announce epoch switch) ≡ true
unfolding in_range
announcement_in_range format rack epoch switch limits in_rack some small =
    grind (arith, nat_tests, limits.switches)

-- ---- commands

pub command_in_range :
    (format : Format) (rack : Rack) (number epoch : ℕ) (command : Command)
    → InLimits rack → format ≡ rack.format
    → command_fits rack command ≡ true → is_keyed command ≡ true
    → 1 ≤ number → number < 2 ^ 64 → 1 ≤ epoch → epoch < 2 ^ 64 - 1
    → in_range format (packet.Command number (what_of epoch command)) ≡ true
unfolding in_range
command_in_range format rack number epoch (Promote key) limits same fits keyed n small e room =
    grind (arith, nat_tests)
command_in_range format rack number epoch (Demote key) limits same fits keyed n small e room =
    grind (arith, nat_tests)
command_in_range One rack number epoch (Copy key target) limits same fits keyed n small e room =
    grind (arith, nat_tests, limits.servers)
command_in_range Two rack number epoch (Copy key target) limits same fits keyed n small e room =
    grind (arith, nat_tests, limits.servers)
command_in_range format rack number epoch (Fence key) limits same fits keyed n small e room =
    grind (arith, nat_tests)
command_in_range format rack number epoch (Handover target) limits same fits keyed n small e
    room =
    grind (arith, nat_tests, limits.switches)
command_in_range format rack number epoch Clear limits same fits keyed n small e room =
    grind (arith, nat_tests)
