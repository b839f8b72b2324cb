-- No line of a run says that a packet is out of place, and malformed comes of junk alone.
use Rattle.std.proofs.Common.{◌≡◌, ◌≢◌, ◌<◌, ◌+◌, ◌⊎◌, inl, inr, ℕ, true, false, List}
use Rattle.std.proofs.Common.{[], ◌∷◌, ◌++◌}
use Rattle.std.proofs.Common.{Option, Some, None, refl, sym, ap, ◌∙◌, subst, slice_get, Contains}
use Rattle.std.proofs.Common.{map}
use Rattle.std.proofs.Common.{arith}
use Rattle.std.proofs.lemmas.Option.{get_or_from_slice_get, slice_get_within}
use Rattle.std.proofs.lemmas.Slice.Eq.{bytes_eq-Decides}
use Rattle.std.specs.List.{AllByRecursion, IsDistinct}
use Rattle.std.specs.Str.{bytes_eq}
use Rattle.peg_name.specs.Name.{Rack}
use Rattle.peg_name.specs.declared.value.Content.TheVariants.{Absent, Present}
use Rattle.peg_name.specs.declared.Node.{Node}
use Rattle.peg_name.specs.declared.Node.TheVariants as node
use Rattle.peg_event.specs.declared.answers.Ask.TheVariants as ask
use Rattle.peg_event.specs.declared.Command.TheVariants as command
use Rattle.peg_event.specs.declared.Event.{Event}
use Rattle.peg_event.specs.declared.Event.TheVariants as event
use Rattle.peg_model.specs.Packet as packet
use Rattle.peg_model.specs.Packet.{Packet}
use Rattle.peg_model.specs.Reading.{packet_of}
use Rattle.peg_model.specs.Client.{begin_operation, resend, give_up}
use Rattle.peg_model.specs.Controller.{order_command, retry_command, make_plan, controller_step}
use Rattle.peg_model.specs.World.{World, step, happens, client_of, delivers, delivers_item}
use Rattle.peg_model.specs.Moments.{Moment, moments, IsInPlace, is_bad_junk, says_out_of_place}
use Rattle.peg_model.specs.Moments.{says_malformed}
use Rattle.peg_law.specs.Codes.{number_of, node_code, packet_code}
use Rattle.peg_law.specs.Mirrors.{Mirrors, IsSent, PacketFits, PartFits, ItemFits, rack_code}
use Rattle.peg_law.specs.Lines.{IsLine}
use Rattle.peg_law.proofs.Codes.{number_apart}
use Rattle.peg_law.proofs.Lists.{contains_cases}
use Rattle.peg_law.proofs.Tables.{PairedAt, paired_at}
use Rattle.peg_law.proofs.Gathering.{ReadsStates}
use Rattle.peg_law.proofs.Deliveries.{IsPart, plain_packet}
use Rattle.peg_law.proofs.Origins.{same_origins}
use Rattle.peg_law.proofs.Said.{IsFine, issue_fine, resend_fine, give_up_fine, order_fine}
use Rattle.peg_law.proofs.Said.{retry_fine, plan_fine, junk_fine}
use Rattle.peg_law.proofs.InPlace.{server_fine, switch_fine, acknowledgement_fine}
use Rattle.peg_law.proofs.InParts.{part_fine}
use Rattle.peg_law.proofs.Fixed.{Frame, frame, frame_same}
use Rattle.peg_law.proofs.Running.{Tells, placed, told_later, stepped, run_more}
use Rattle.peg_protocol.specs.Packet as law
use Rattle.peg_protocol.specs.OutOfPlace.{NothingRefused, NoRepeats, Refused}
use Rattle.peg_protocol.specs.System as system
use Rattle.peg_protocol.specs.System.{System}
use Rattle.peg_protocol.specs.Told.{Told}

module _ (keys : List (List ℕ)) (w : World) (s : System) (m : Mirrors keys w s) (told : Told s)
    (reads : ReadsStates) (nothing : NothingRefused s) (n pick : ℕ) where
  abbrev Fine : Node → Packet → Type 0
  Fine to p = IsFine (delivers w to p pick).1.said

  abbrev Is : Node → law.Packet → Type 0
  Is to q = slice_get s.sent n ≡ Some (law.item (node_code to) q)

  was_sent : (to : Node) (q : law.Packet) → Is to q → Contains s.sent (law.item (node_code to) q)
  was_sent to q at = (
    n,
    slice_get_within s.sent n (law.item (node_code to) q) at,
    get_or_from_slice_get s.sent n (law.item (node_code to) q) (law.item (node_code to) q) at,
  )

  refused : (to : Node) (q : law.Packet) → Is to q → Refused s (node_code to) q → ⊥
  refused to q at r = nothing (node_code to) q (was_sent to q at) r

  controller_fine :
      (p : Packet) → IsSent w.rack node.Controller p → Is node.Controller (packet_code p)
      → Fine node.Controller p
  unfolding controller_step
  controller_fine (packet.CommandAck number o) x at =
      acknowledgement_fine keys w s m (same_origins keys w s m told.fences) pick number o
      (refused node.Controller (packet_code (packet.CommandAck number o)) at)
  controller_fine (packet.Report epoch total rows) x at = (refl, refl)
  controller_fine (packet.Read client seq key) x at = absurd x
  controller_fine (packet.Write client seq key content) x at = absurd x
  controller_fine (packet.ToServerRead client seq server named key) x at = absurd x
  controller_fine (packet.ToServerWrite client seq version server named key content) x at = absurd x
  controller_fine (packet.ReadReply client seq version server named key content) x at = absurd x
  controller_fine (packet.WriteReply client seq version server named key) x at = absurd x
  controller_fine (packet.Command number what) x at = absurd x
  controller_fine (packet.CopyOrder named server target key) x at = absurd x
  controller_fine (packet.CopyData named server version key content) x at = absurd x
  controller_fine (packet.Held server version key) x at = absurd x
  controller_fine (packet.Part epoch index count bytes) x at = absurd x
  controller_fine (packet.Announce epoch named) x at = absurd x
  controller_fine packet.Survey x at = absurd x
  controller_fine (packet.Fence named server version key) x at = absurd x
  controller_fine (packet.Void client seq version server named key) x at = absurd x

  switch_in : (a : ℕ) (p : Packet) → IsSent w.rack (node.Switch a) p → (IsPart p → ⊥) →
      a < w.rack.switches
  switch_in a (packet.Read client seq key) x plain = x.0
  switch_in a (packet.Write client seq key content) x plain = x.0
  switch_in a (packet.ReadReply client seq version server named key content) x plain = x.0
  switch_in a (packet.WriteReply client seq version server named key) x plain = x.0
  switch_in a (packet.Command number what) x plain = x.0
  switch_in a (packet.Held server version key) x plain = x.0
  switch_in a packet.Survey x plain = x
  switch_in a (packet.Void client seq version server named key) x plain = x.0
  switch_in a (packet.Part epoch index count bytes) x plain = absurd (plain tt)
  switch_in a (packet.ToServerRead client seq server named key) x plain = absurd x
  switch_in a (packet.ToServerWrite client seq version server named key content) x plain = absurd x
  switch_in a (packet.CommandAck number o) x plain = absurd x
  switch_in a (packet.CopyOrder named server target key) x plain = absurd x
  switch_in a (packet.CopyData named server version key content) x plain = absurd x
  switch_in a (packet.Announce epoch named) x plain = absurd x
  switch_in a (packet.Report epoch total rows) x plain = absurd x
  switch_in a (packet.Fence named server version key) x plain = absurd x

  at_node :
      (to : Node) (p : Packet) → IsSent w.rack to p → (IsPart p → ⊥) → Is to (packet_code p)
      → Fine to p
  at_node (node.Client c) p x plain at = (refl, refl)
  at_node (node.Server t) p x plain at =
      server_fine keys w s m (same_origins keys w s m told.fences) pick t p x
      (refused (node.Server t) (packet_code p) at) t
  at_node (node.Switch a) p x plain at =
      switch_fine keys w s m (same_origins keys w s m told.fences) pick a
      (switch_in a p x plain) p x (refused (node.Switch a) (packet_code p) at) plain a
  at_node node.Controller p x plain at = controller_fine p x at

  part_at :
      (to : Node) (epoch index count : ℕ) (bytes : List ℕ) (q : law.Packet)
      → slice_get w.packets n ≡ Some (to, packet.Part epoch index count bytes) → Is to q
      → IsSent w.rack to (packet.Part epoch index count bytes)
      → PartFits w.rack epoch index count bytes q
      → Fine to (packet.Part epoch index count bytes)
  part_at (node.Switch a) epoch index count bytes q in_book at x f =
      part_fine keys w s m pick a x reads told.one_state epoch index count bytes q f (
        n,
        slice_get_within w.packets n (node.Switch a, packet.Part epoch index count bytes) in_book,
        get_or_from_slice_get w.packets n (node.Switch a, packet.Part epoch index count bytes)
            (node.Switch a, packet.Part epoch index count bytes) in_book,
      )
      (was_sent (node.Switch a) q at)
      (refused (node.Switch a) (law.Part epoch index count f.state)
      (at ∙ ap (λ y. Some (law.item (law.Switch a) y)) f.is))
      a
  part_at (node.Client c) epoch index count bytes q in_book at x f = absurd x
  part_at (node.Server t) epoch index count bytes q in_book at x f = absurd x
  part_at node.Controller epoch index count bytes q in_book at x f = absurd x

  other_fine :
      (to : Node) (p : Packet) (q : law.Packet) → (IsPart p → ⊥) → Is to q → IsSent w.rack to p
      → PacketFits w.rack p q → Fine to p
  other_fine to p q plain at x f =
      at_node to p x plain
      (at ∙ ap (λ y. Some (law.item (node_code to) y)) (plain_packet w.rack to p q plain f))

  packet_fine :
      (to : Node) (p : Packet) (q : law.Packet) → slice_get w.packets n ≡ Some (to, p) → Is to q
      → IsSent w.rack to p → PacketFits w.rack p q → Fine to p
  packet_fine to (packet.Part epoch index count bytes) q in_book at x f =
      part_at to epoch index count bytes q in_book at x f
  packet_fine to (packet.Read client seq key) q in_book at x f =
      other_fine to (packet.Read client seq key) q (λ y. y) at x f
  packet_fine to (packet.Write client seq key content) q in_book at x f =
      other_fine to (packet.Write client seq key content) q (λ y. y) at x f
  packet_fine to (packet.ToServerRead client seq server named key) q in_book at x f =
      other_fine to (packet.ToServerRead client seq server named key) q (λ y. y) at x f
  packet_fine to (packet.ToServerWrite client seq version server named key content) q in_book at x f
      =
      other_fine to (packet.ToServerWrite client seq version server named key content) q (λ y. y) at
      x f
  packet_fine to (packet.ReadReply client seq version server named key content) q in_book at x f =
      other_fine to (packet.ReadReply client seq version server named key content) q (λ y. y) at x f
  packet_fine to (packet.WriteReply client seq version server named key) q in_book at x f =
      other_fine to (packet.WriteReply client seq version server named key) q (λ y. y) at x f
  packet_fine to (packet.Command number what) q in_book at x f =
      other_fine to (packet.Command number what) q (λ y. y) at x f
  packet_fine to (packet.CommandAck number o) q in_book at x f =
      other_fine to (packet.CommandAck number o) q (λ y. y) at x f
  packet_fine to (packet.CopyOrder named server target key) q in_book at x f =
      other_fine to (packet.CopyOrder named server target key) q (λ y. y) at x f
  packet_fine to (packet.CopyData named server version key content) q in_book at x f =
      other_fine to (packet.CopyData named server version key content) q (λ y. y) at x f
  packet_fine to (packet.Held server version key) q in_book at x f =
      other_fine to (packet.Held server version key) q (λ y. y) at x f
  packet_fine to (packet.Announce epoch named) q in_book at x f =
      other_fine to (packet.Announce epoch named) q (λ y. y) at x f
  packet_fine to packet.Survey q in_book at x f =
      other_fine to packet.Survey q (λ y. y) at x f
  packet_fine to (packet.Report epoch total rows) q in_book at x f =
      other_fine to (packet.Report epoch total rows) q (λ y. y) at x f
  packet_fine to (packet.Fence named server version key) q in_book at x f =
      other_fine to (packet.Fence named server version key) q (λ y. y) at x f
  packet_fine to (packet.Void client seq version server named key) q in_book at x f =
      other_fine to (packet.Void client seq version server named key) q (λ y. y) at x f

  item_fine :
      (o : Option (Node × Packet)) (i : Option law.Item) → slice_get w.packets n ≡ o
      → slice_get s.sent n ≡ i → PairedAt (ItemFits w.rack) o i
      → IsFine (delivers_item w n o pick).1.said
  item_fine None i in_book at f = (refl, refl)
  item_fine (Some item) None in_book at f = absurd f
  item_fine (Some item) (Some i) in_book at f =
      packet_fine item.0 item.1 i.packet in_book
      (at ∙ ap (λ t. Some (law.item t i.packet)) f.to) f.sent f.packet

  pub delivered_fine : IsFine (delivers_item w n (slice_get w.packets n) pick).1.said
  delivered_fine =
      item_fine (slice_get w.packets n) (slice_get s.sent n) refl refl
      (paired_at (ItemFits w.rack) w.packets s.sent n m.sent)

-- ---- a line

abbrev InPlaceAt : World → Event → Type 0
InPlaceAt w e =
    (says_out_of_place (happens w e).1.said ≡ false)
    × (says_malformed (happens w e).1.said ≡ is_bad_junk e)

line_in_place :
    (keys : List (List ℕ)) (w : World) (s : System) → Mirrors keys w s → Told s → ReadsStates
    → NothingRefused s → (e : Event) → InPlaceAt w e
unfolding happens
line_in_place keys w s m told reads nothing (event.Read client key) =
    issue_fine client ask.Read (begin_operation (client_of w client) key ask.Read).did
line_in_place keys w s m told reads nothing (event.Write client key value) =
    issue_fine client (ask.Write (Present value))
    (begin_operation (client_of w client) key (ask.Write (Present value))).did
line_in_place keys w s m told reads nothing (event.Delete client key) =
    issue_fine client (ask.Write Absent)
    (begin_operation (client_of w client) key (ask.Write Absent)).did
line_in_place keys w s m told reads nothing (event.Resend client) =
    resend_fine client (resend (client_of w client)).did
line_in_place keys w s m told reads nothing (event.GiveUp client) =
    give_up_fine client (give_up (client_of w client)).did
line_in_place keys w s m told reads nothing (event.Deliver number pick) =
    delivered_fine keys w s m told reads nothing number pick
line_in_place keys w s m told reads nothing (event.Junk to bytes) =
    junk_fine to (packet_of bytes)
line_in_place keys w s m told reads nothing (event.Promote key) =
    order_fine (command.Promote key) (order_command w.controller (command.Promote key)).did
line_in_place keys w s m told reads nothing (event.Demote key) =
    order_fine (command.Demote key) (order_command w.controller (command.Demote key)).did
line_in_place keys w s m told reads nothing (event.Copy key target) =
    order_fine (command.Copy key target) (order_command w.controller (command.Copy key target)).did
line_in_place keys w s m told reads nothing (event.Fence key) =
    order_fine (command.Fence key) (order_command w.controller (command.Fence key)).did
line_in_place keys w s m told reads nothing (event.Handover target) =
    order_fine (command.Handover target) (order_command w.controller (command.Handover target)).did
line_in_place keys w s m told reads nothing event.Clear =
    order_fine command.Clear (order_command w.controller command.Clear).did
line_in_place keys w s m told reads nothing event.Retry =
    retry_fine (retry_command w.controller).did
line_in_place keys w s m told reads nothing event.Survey = (refl, refl)
line_in_place keys w s m told reads nothing (event.Plan promote_at demote_below) =
    plan_fine (make_plan w.controller promote_at demote_below).did

-- ---- the lines of a run

abbrev Refuses_none : Rack → List (List ℕ) → Type 0
Refuses_none rack keys =
    (past : List system.Event)
    → NothingRefused (system.run past (system.start (rack_code rack keys)))

later_refused : (s : System) (place : ℕ) → NothingRefused s →
    NothingRefused (record s { place = place })
later_refused s place nothing = λ to p c r. nothing to p c (same to p r)
  where
    same : (to : law.Node) (p : law.Packet) → Refused (record s { place = place }) to p →
        Refused s to p
    same (law.Client c) p r = r
    same (law.Switch a) p r = r
    same (law.Server t) p r = r
    same law.Controller p r = r

pub lines_in_place :
    (rack : Rack) (keys : List (List ℕ)) → Tells rack keys → ReadsStates → Refuses_none rack keys
    → (w : World) (place : ℕ) (events : List Event) (past : List system.Event)
    → Mirrors keys w (system.run past (system.start (rack_code rack keys))) → w.rack ≡ rack
    → place ≡ w.place + 1 → AllByRecursion (IsLine rack) events
    → (x : Moment) → Contains (moments w place events) x → IsInPlace x
lines_in_place rack keys tells reads none w place [] past m same at lines x (k, less, is) =
    absurd (omega (arith, less))
lines_in_place rack keys tells reads none w place (e ∷ events) past m same at lines x has =
    let s0 = system.start (rack_code rack keys) in
    let s = system.run past s0 in
    let now = step w place e in
    let y =
    stepped keys w s place e m (tells past) reads at
    (subst (λ r. IsLine r e) (sym same) lines.0) in
    let fixed : frame now.0 ≡ frame (record w { place = place }) =
    frame_same (record w { place = place }) e in
    let is : now.0.place ≡ place = ap (λ (f : Frame). f.place) fixed in
    let here =
    line_in_place keys (record w { place = place }) (record s { place = s.place + 1 })
    (placed keys w s place m at) (told_later s (s.place + 1) (tells past)) reads
    (later_refused s (s.place + 1) (none past)) e in
    by_case here
    (contains_cases (record { place = place; event = e; before = w; line = now.1 }) x
    (moments now.0 (place + 1) events) has)
    (λ later.
    lines_in_place rack keys tells reads none now.0 (place + 1) events (past ++ y.0 ∷ [])
    (subst (Mirrors keys now.0) (sym (run_more past y.0 s0)) y.1)
    (ap (λ (f : Frame). f.rack) fixed ∙ same) (omega (arith, is)) lines.1 x later)
  where
    by_case :
        InPlaceAt (record w { place = place }) e
        → (record { place = place; event = e; before = w; line = (step w place e).1 } ≡ x)
        ⊎ Contains (moments (step w place e).0 (place + 1) events) x
        → (Contains (moments (step w place e).0 (place + 1) events) x → IsInPlace x) → IsInPlace x
    by_case here (inl is) rest =
        subst IsInPlace is (record { in_place = here.0; malformed = here.1 })
    by_case here (inr later) rest = rest later

-- ---- the keys of the rack line differ

pub no_repeats : (keys : List (List ℕ)) → IsDistinct bytes_eq keys → NoRepeats (map number_of keys)
unfolding IsDistinct
no_repeats [] d = tt
no_repeats (k ∷ ks) d = (others ks d.0, no_repeats ks d.1)
  where
    others : (xs : List (List ℕ)) → AllByRecursion (λ y. bytes_eq k y ≡ false) xs
        → AllByRecursion (λ y. y ≢ number_of k) (map number_of xs)
    others [] all = tt
    others (x ∷ xs) all = (
      λ e.
          let same : k ≡ x = sym (number_apart x k e) in
          let t : bytes_eq k x ≡ true = (bytes_eq-Decides k x).1 same in
          absurd (let z : false ≡ true = sym all.0 ∙ t in cc),
      others xs all.1,
    )
