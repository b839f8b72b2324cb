-- Each key is covered in a world, since it is in the state of the protocol machine.
use Rattle.std.proofs.Common.{◌≡◌, ◌<◌, ◌≤◌, ◌⊎◌, inl, inr, ℕ, List, []}
use Rattle.std.proofs.Common.{◌∷◌}
use Rattle.std.proofs.Common.{cond, max, Option, Some, None, option_map, refl, ap, ◌∙◌, subst}
use Rattle.std.proofs.Common.{Contains, arith}
use Rattle.peg_name.specs.Name.{Rack}
use Rattle.peg_name.specs.declared.Node.{Node}
use Rattle.peg_name.specs.declared.Node.TheVariants as node
use Rattle.peg_event.specs.declared.answers.Listing.{Listing}
use Rattle.peg_model.specs.Packet as packet
use Rattle.peg_model.specs.Packet.{Packet}
use Rattle.peg_model.specs.Rules.{entry_of}
use Rattle.peg_model.specs.Switch as switch
use Rattle.peg_model.specs.World.{World, switch_of}
use Rattle.peg_law.specs.Codes.{number_of, content_code, entry_code, node_code}
use Rattle.peg_law.specs.Covered as covered
use Rattle.peg_law.specs.Covered.{version_at, home_at, Report, report_in, ReportsAreHeld, answer_in}
use Rattle.peg_law.specs.Covered.{answered, Elsewhere, IsHeld, IsSent, IsCopied, UnlistedKey}
use Rattle.peg_law.specs.Covered.{AtHome, IsMarked, HasMark, ListedKey, KeyIsCovered, IsCurrent}
use Rattle.peg_law.specs.Covered.{KeysAreCovered}
use Rattle.peg_law.specs.Mirrors.{Mirrors, Paired, ItemFits, mode_code}
use Rattle.peg_law.proofs.Codes.{number_test}
use Rattle.peg_law.proofs.Cores.{entry_is}
use Rattle.peg_law.proofs.Collecting.{paired_contains}
use Rattle.peg_law.proofs.ServerHanded.{home_is}
use Rattle.peg_protocol.specs.Core as core
use Rattle.peg_protocol.specs.Packet as law
use Rattle.peg_protocol.specs.Machine.{Pair}
use Rattle.peg_protocol.specs.Law as law_of
use Rattle.peg_protocol.specs.Law.{Law, passed, reply_version, Reported, By_read, By_write, By_copy}
use Rattle.peg_protocol.specs.Handover as handover
use Rattle.peg_protocol.specs.Handover.{HandoverLaw}
use Rattle.peg_protocol.specs.System.{System, ground}

-- ---- what was answered is the same

pub answer_is :
    (key : List ℕ) (rack : Rack) (item : Node × Packet) (i : law.Item) → ItemFits rack item i
    → reply_version (number_of key) i.to i.packet ≡ answer_in key item
answer_is key rack (node.Client c, packet.ReadReply client seq version server switch other content)
    i f =
    ap (λ t. reply_version (number_of key) t i.packet) f.to
    ∙ ap (reply_version (number_of key) (law.Client c)) f.packet
    ∙ ap (λ b. cond b version 0) (number_test other key)
answer_is key rack (node.Client c, packet.WriteReply client seq version server switch other) i f =
    ap (λ t. reply_version (number_of key) t i.packet) f.to
    ∙ ap (reply_version (number_of key) (law.Client c)) f.packet
    ∙ ap (λ b. cond b version 0) (number_test other key)
answer_is key rack (node.Client c, packet.Part epoch index count bytes) i f =
    ap (λ t. reply_version (number_of key) t i.packet) f.to
    ∙ ap (reply_version (number_of key) (law.Client c)) f.packet.is
answer_is key rack (node.Server t, packet.Part epoch index count bytes) i f =
    ap (λ t. reply_version (number_of key) t i.packet) f.to
    ∙ ap (reply_version (number_of key) (law.Server t)) f.packet.is
answer_is key rack (node.Switch a, packet.Part epoch index count bytes) i f =
    ap (λ t. reply_version (number_of key) t i.packet) f.to
    ∙ ap (reply_version (number_of key) (law.Switch a)) f.packet.is
answer_is key rack (node.Controller, packet.Part epoch index count bytes) i f =
    ap (λ t. reply_version (number_of key) t i.packet) f.to
    ∙ ap (reply_version (number_of key) law.Controller) f.packet.is
answer_is key rack (to, p) i f =
    ap (λ t. reply_version (number_of key) t i.packet) f.to
    ∙ ap (reply_version (number_of key) (node_code to)) f.packet

answered_is :
    (key : List ℕ) (rack : Rack) (ps : List (Node × Packet)) (is : List law.Item)
    → Paired (ItemFits rack) ps is → passed (number_of key) is ≡ answered key ps
answered_is key rack [] [] h = refl
answered_is key rack [] (i ∷ is) h = absurd h
answered_is key rack (p ∷ ps) [] h = absurd h
answered_is key rack (p ∷ ps) (i ∷ is) h =
    ap (λ n. max n (passed (number_of key) is)) (answer_is key rack p i h.0)
    ∙ ap (max (answer_in key p)) (answered_is key rack ps is h.1)

module _ (keys : List (List ℕ)) (w : World) (s : System) (m : Mirrors keys w s) where
  pub version_is : (server : ℕ) (key : List ℕ) →
      (s.held server (number_of key)).version ≡ version_at w server key
  version_is server key = ap (λ (p : Pair). p.version) ((m.servers server).keys key).pair_is

  pub at_home : (key : List ℕ)
      → (s.held (s.rack.home (number_of key)) (number_of key)).version
      ≡ version_at w (home_at w key) key
  at_home key =
      ap (λ t. (s.held t (number_of key)).version) (home_is keys w s m key)
      ∙ version_is (home_at w key) key

  -- a packet of the book is in the protocol machine
  there :
      (to : Node) (p : Packet) → Contains w.packets (to, p)
      → (i : law.Item) × Contains s.sent i × ItemFits w.rack (to, p) i
  there to p c = paired_contains (ItemFits w.rack) w.packets s.sent (to, p) m.sent c

  pub plain_there :
      (to : Node) (p : Packet) (q : law.Packet)
      → ((i : law.Item) → ItemFits w.rack (to, p) i → i.packet ≡ q) → Contains w.packets (to, p)
      → Contains s.sent (law.item (node_code to) q)
  plain_there to p q is c =
      let x = there to p c in
      subst (λ t. Contains s.sent (law.item t q)) x.2.to
      (subst (λ y. Contains s.sent (law.item x.0.to y)) (is x.0 x.2) x.1)

  -- and so is what a server reported
  pub reported_there :
      (c : core.Core) (r : Report) (item : Node × Packet) → Contains w.packets item
      → report_in item ≡ Some r → Reported (ground s c) r.server (number_of r.key) r.version
  reported_there c r (to, packet.ReadReply client seq version server named key content) sent e =
      let same : record { server = server; key = key; version = version } ≡ r = cc in
      subst (λ (x : Report). Reported (ground s c) x.server (number_of x.key) x.version) same
      (By_read (node_code to) client seq named (content_code content)
      (plain_there to (packet.ReadReply client seq version server named key content)
      (law.ReadReply client seq version server named (number_of key) (content_code content))
      (λ i f. f.packet) sent))
  reported_there c r (to, packet.WriteReply client seq version server named key) sent e =
      let same : record { server = server; key = key; version = version } ≡ r = cc in
      subst (λ (x : Report). Reported (ground s c) x.server (number_of x.key) x.version) same
      (By_write (node_code to) client seq named
      (plain_there to (packet.WriteReply client seq version server named key)
      (law.WriteReply client seq version server named (number_of key)) (λ i f. f.packet) sent))
  reported_there c r (to, packet.Held server version key) sent e =
      let same : record { server = server; key = key; version = version } ≡ r = cc in
      subst (λ (x : Report). Reported (ground s c) x.server (number_of x.key) x.version) same
      (By_copy (node_code to)
      (plain_there to (packet.Held server version key) (law.Held server version (number_of key))
      (λ i f. f.packet) sent))
  reported_there c r (to, p) sent e = absurd (cc)

  module _ (c : core.Core) (l : Law (ground s c)) where
    elsewhere_there :
        (key : List ℕ) (u : ℕ) → Elsewhere w key u
        → law_of.Elsewhere (ground s c) (number_of key) u
    elsewhere_there key u (IsHeld server apart is) =
        law_of.Is_held server (λ e. apart (e ∙ home_is keys w s m key)) (version_is server key ∙ is)
    elsewhere_there key u (IsSent server client seq named to_switch content apart sent) =
        law_of.Is_sent server client seq to_switch (content_code content)
        (λ e. apart (e ∙ home_is keys w s m key))
        (plain_there (node.Server server)
        (packet.ToServerWrite client seq u named to_switch key content)
        (law.ToServerWrite client seq u to_switch (number_of key) (content_code content))
        (λ i f. f.packet) sent)
    elsewhere_there key u (IsCopied to to_switch server content sent) =
        law_of.Is_copied (node_code to) to_switch (content_code content)
        (plain_there to (packet.CopyData to_switch server u key content)
        (law.CopyData u to_switch (number_of key) (content_code content)) (λ i f. f.packet) sent)

    pub reports_held : ReportsAreHeld w
    reports_held r item sent e =
        subst (λ v. r.version ≤ v) (version_is r.server r.key)
        (l.reports r.server (number_of r.key) r.version (reported_there c r item sent e))

    answered_here : (key : List ℕ) → passed (number_of key) s.sent ≡ answered key w.packets
    answered_here key = answered_is key w.rack w.packets s.sent m.sent

    unlisted : (key : List ℕ) → law_of.UnlistedLaw (ground s c) (number_of key) → UnlistedKey w key
    unlisted key u =
        let a = answered_here key in
        let h = at_home key in
        let p = u.passed in
        record {
          elsewhere = λ v e.
              let x = u.elsewhere v (elsewhere_there key v e) in omega (arith, x, h);
          answered = omega (arith, p, a, h);
        }

    or_at_home : (key : List ℕ) (P : Type 0) (v : ℕ)
        → P ⊎ (v ≤ (s.held (s.rack.home (number_of key)) (number_of key)).version)
        → P ⊎ (v ≤ version_at w (home_at w key) key)
    or_at_home key P v (inl p) = inl p
    or_at_home key P v (inr x) = let h = at_home key in inr (omega (arith, x, h))

    marked :
        (key : List ℕ) (entry : Listing) (o : Option ℕ)
        → law_of.MarkLaw (ground s c) (number_of key) (entry_code (key, entry)) o
        → HasMark w key entry.base o
    marked key entry None x = tt
    marked key entry (Some mark) x =
        let a = answered_here key in
        record {
          above = x.base;
          elsewhere = λ u e.
              or_at_home key (u < mark) u (x.elsewhere u (elsewhere_there key u e));
          answered =
              subst (λ n. (n < mark) ⊎ (n ≤ version_at w (home_at w key) key)) a
              (or_at_home key (passed (number_of key) s.sent < mark) (passed (number_of key) s.sent)
              x.passed);
          written = λ server client seq version named to_switch content apart sent.
              x.sent server client seq version to_switch (content_code content)
              (λ e. apart (e ∙ home_is keys w s m key))
              (plain_there (node.Server server)
              (packet.ToServerWrite client seq version named to_switch key content)
              (law.ToServerWrite client seq version to_switch (number_of key)
              (content_code content))
              (λ i f. f.packet) sent);
        }

    listed :
        (key : List ℕ) (entry : Listing)
        → law_of.ListedLaw (ground s c) (number_of key) (entry_code (key, entry))
        → ListedKey w key entry
    listed key entry x =
        let a = answered_here key in
        let p = x.passed in
        record {
          base = x.base;
          answered = omega (arith, a, p);
          elsewhere = λ u e.
              or_at_home key (entry.base < u) u (x.elsewhere u (elsewhere_there key u e));
          reported = λ r item sent e k apart.
              or_at_home key (entry.base < r.version) r.version
              (x.reported r.server r.version (λ y. apart (y ∙ home_is keys w s m key))
              (subst (λ j. Reported (ground s c) r.server (number_of j) r.version) k
              (reported_there c r item sent e)));
          holders = by_case x.holders;
          mark = marked key entry entry.mark x.mark;
        }
      where
        by_case :
            ((t : ℕ) → Contains entry.holders t
            → entry.completed ≤ (s.held t (number_of key)).version)
            ⊎ law_of.HomePhase (ground s c) (number_of key) (entry_code (key, entry))
            → ((t : ℕ) → Contains entry.holders t → entry.completed ≤ version_at w t key)
            ⊎ AtHome w key entry
        by_case (inl h) =
            inl (λ t has. let y = h t has in let v = version_is t key in omega (arith, y, v))
        by_case (inr h) =
            let a = answered_here key in
            let b = at_home key in
            let p = h.passed in
            inr
            (record {
              completed = h.completed;
              holders = h.holders ∙ ap (λ t. t ∷ []) (home_is keys w s m key);
              answered = omega (arith, p, a, b);
            })

    by_entry :
        (key : List ℕ) (o : Option Listing)
        → law_of.KeyLaw (ground s c) (number_of key) (option_map (λ x. entry_code (key, x)) o)
        → KeyIsCovered w key o
    by_entry key None x = unlisted key x
    by_entry key (Some entry) x = listed key entry x

  pub current_here : (holder : ℕ) → HandoverLaw s holder → IsCurrent w holder
  current_here holder h =
      record {
        holds = holding (switch_of w holder).mode
            (subst handover.IsHolding (m.switches holder).mode_is h.holds);
        active = λ b e. h.active b ((m.switches b).mode_is ∙ ap mode_code e);
        others = λ b apart.
            let x = h.others b apart in
            let e = (m.switches b).epoch_is in
            let f = (m.switches holder).epoch_is in
            omega (arith, x, e, f);
      }
    where
      holding : (mode : switch.Mode) → handover.IsHolding (mode_code mode) → covered.IsHolding mode
      holding switch.Idle x = absurd x
      holding switch.Active x = tt
      holding (switch.Sealed target) x = tt

  pub covered_here :
      (holder : ℕ) → HandoverLaw s holder → Law (ground s (s.cores holder)) → KeysAreCovered w
  covered_here holder h l =
      record {
        holder = holder;
        current = current_here holder h;
        keys = λ key.
            by_entry (s.cores holder) l key (entry_of (switch_of w holder).entries key)
            (subst (law_of.KeyLaw (ground s (s.cores holder)) (number_of key))
            (ap (core.entry_of (number_of key)) (m.switches holder).core_is.entries_is
            ∙ entry_is key (switch_of w holder).entries)
            (l.keys (number_of key)));
      }
