-- An event adds no operation but on its own key, and changes no operation's key.
use Rattle.std.proofs.Common.{◌≡◌, ℕ, Bool, true, false, Option, Some, None, List, [], ◌∷◌, refl}
use Rattle.std.proofs.Common.{sym, subst, if◌then◌else◌}
use Rattle.std.specs.Prelude.{slice_get, is_none, IfSome}
use Rattle.std.specs.List.{AllByRecursion}
use Rattle.peg_name.specs.declared.value.Content.TheVariants.{Absent, Present}
use Rattle.peg_name.specs.declared.Node.{Node}
use Rattle.peg_name.specs.declared.Node.TheVariants as node
use Rattle.peg_event.specs.declared.answers.Ask.TheVariants as ask
use Rattle.peg_event.specs.declared.Event.{Event}
use Rattle.peg_event.specs.declared.Event.TheVariants as event
use Rattle.peg_event.specs.declared.history.Op.{Op}
use Rattle.peg_event.specs.declared.answers.Issue.{Issue}
use Rattle.peg_event.specs.declared.answers.Issue.TheVariants as issue
use Rattle.peg_event.specs.declared.Outcome.TheVariants as outcome
use Rattle.peg_event.specs.declared.SwitchDid.{SwitchDid}
use Rattle.peg_event.specs.declared.SwitchDid.TheVariants as switch_did
use Rattle.peg_event.specs.declared.ServerDid.{ServerDid}
use Rattle.peg_event.specs.declared.ServerDid.TheVariants as server_did
use Rattle.peg_event.specs.declared.ClientDid.{ClientDid}
use Rattle.peg_event.specs.declared.ClientDid.TheVariants as client_did
use Rattle.peg_model.specs.Packet as packet
use Rattle.peg_model.specs.Packet.{Packet}
use Rattle.peg_model.specs.Rules.{base_of}
use Rattle.peg_model.specs.Client.{begin_operation, client_step}
use Rattle.peg_model.specs.Server.{server_step}
use Rattle.peg_model.specs.Switch.{Switch, switch_step}
use Rattle.peg_model.specs.World.{World, Operation, happens, step, is_named, changed_at}
use Rattle.peg_model.specs.World.{answered_as, stamped_as, after_issue, after_client, after_server}
use Rattle.peg_model.specs.World.{after_switch, promoted, delivers, delivers_item, new_op}
use Rattle.peg_model.specs.World.{with_client, with_server, with_switch, client_of, server_of}
use Rattle.peg_model.specs.World.{switch_of}
use Rattle.peg_meaning.specs.Racks.{key_of}
use Rattle.peg_word_law.proofs.Lists.{all_push}

module _ (P : List ℕ → Type 0) where
  -- each operation is on such a key
  abbrev pub OnKeys : List Operation → Type 0
  OnKeys operations = AllByRecursion (λ o. P o.op.key) operations

  abbrev pub HasKeys : World → Type 0
  HasKeys w = OnKeys w.operations

  -- ---- a change of one operation

  if_changed :
      (b : Bool) (change : Operation → Operation) (o : Operation)
      → ((a : Operation) → (change a).op.key ≡ a.op.key) → P o.op.key
      → P (if b then change o else o).op.key
  if_changed true change o keeps holds = subst P (sym (keeps o)) holds
  if_changed false change o keeps holds = holds

  all_changed :
      (client seq : ℕ) (change : Operation → Operation) (operations : List Operation)
      → ((a : Operation) → (change a).op.key ≡ a.op.key) → OnKeys operations
      → OnKeys (changed_at client seq change operations)
  all_changed client seq change [] keeps all = tt
  all_changed client seq change (o ∷ operations) keeps all = (
    if_changed (is_named client seq o) change o keeps all.0,
    all_changed client seq change operations keeps all.1,
  )

  stamped_key : (version : ℕ) (o : Operation) → (stamped_as version o).op.key ≡ o.op.key
  stamped_key version o = by_answer (is_none o.op.answered)
    where
      by_answer :
          (b : Bool) → (if b then record o { tag = version } else o).op.key ≡ o.op.key
      by_answer true = refl
      by_answer false = refl

  -- ---- the nodes

  issued_keys :
      (w : World) (op : Op) (did : Issue) → HasKeys w → P op.key → HasKeys (after_issue w op did)
  issued_keys w op (issue.Sent seq) has key =
      all_push (λ (o : Operation). P o.op.key) w.operations (record { op = op; seq = seq; tag = 0 })
      has
      key
  issued_keys w op _ has key = has

  client_keys :
      (w : World) (id : ℕ) (did : ClientDid) → HasKeys w → HasKeys (after_client w id did)
  client_keys w id (client_did.Wrote seq version) has =
      all_changed id seq (answered_as w.fences w.place version Absent) w.operations (λ a. refl) has
  client_keys w id (client_did.Read seq version content) has =
      all_changed id seq (answered_as w.fences w.place version content) w.operations (λ a. refl) has
  client_keys w id _ has = has

  server_keys : (w : World) (did : ServerDid) → HasKeys w → HasKeys (after_server w did)
  server_keys w (server_did.Fenced key version held) has = has
  server_keys w _ has = has

  promoted_keys :
      (w : World) (key : List ℕ) (base : Option ℕ) → HasKeys w → HasKeys (promoted w key base)
  promoted_keys w key None has = has
  promoted_keys w key (Some base) has = has

  switch_keys :
      (w : World) (s : Switch) (p : Packet) (did : SwitchDid) → HasKeys w
      → HasKeys (after_switch w s p did)
  switch_keys w s (packet.Write client seq key content) (switch_did.Wrote server written version)
      has =
      all_changed client seq (stamped_as version) w.operations (stamped_key version) has
  switch_keys w s (packet.Command number (packet.Promote key))
      (switch_did.Applied applied (outcome.Listed listing)) has =
      promoted_keys w key (base_of s.entries key) has
  switch_keys w s _ _ has = has

  delivered_keys :
      (w : World) (to : Node) (p : Packet) (pick : ℕ) → HasKeys w → HasKeys (delivers w to p pick).0
  delivered_keys w (node.Client id) p pick has =
      let now = client_step (client_of w id) p in
      client_keys (with_client w now.state) id now.did has
  delivered_keys w (node.Server id) p pick has =
      let now = server_step (server_of w id) p in
      server_keys (with_server w now.state) now.did has
  delivered_keys w (node.Switch id) p pick has =
      let now = switch_step (switch_of w id) p pick in
      switch_keys (with_switch w now.state) now.state p now.did has
  delivered_keys w node.Controller p pick has = has

  item_keys :
      (w : World) (number : ℕ) (item : Option (Node × Packet)) (pick : ℕ) → HasKeys w
      → HasKeys (delivers_item w number item pick).0
  item_keys w number None pick has = has
  item_keys w number (Some item) pick has = delivered_keys w item.0 item.1 pick has

  -- ---- an event

  happened_keys :
      (w : World) (e : Event) → HasKeys w → IfSome (key_of e) P → HasKeys (happens w e).0
  unfolding happens
  happened_keys w (event.Read client key) has own =
      let now = begin_operation (client_of w client) key ask.Read in
      issued_keys (with_client w now.state) (new_op client key ask.Read w.place) now.did has own
  happened_keys w (event.Write client key value) has own =
      let content = ask.Write (Present value) in
      let now = begin_operation (client_of w client) key content in
      issued_keys (with_client w now.state) (new_op client key content w.place) now.did has own
  happened_keys w (event.Delete client key) has own =
      let now = begin_operation (client_of w client) key (ask.Write Absent) in
      issued_keys (with_client w now.state) (new_op client key (ask.Write Absent) w.place) now.did
      has own
  happened_keys w (event.Deliver number pick) has own =
      item_keys w number (slice_get w.packets number) pick has
  happened_keys w _ has own = has

  pub stepped_keys :
      (w : World) (place : ℕ) (e : Event) → HasKeys w → IfSome (key_of e) P
      → HasKeys (step w place e).0
  stepped_keys w place e has own = happened_keys (record w { place = place }) e has own
