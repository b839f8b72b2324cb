-- What was answered before an operation was issued is reached, since it is in the protocol machine.
use Rattle.std.proofs.Common.{◌≡◌, ℕ, Bool, true, false, List, [], ◌∷◌}
use Rattle.std.proofs.Common.{cond, max, refl, ap, ◌∙◌, arith}
use Rattle.peg_name.specs.Name.{Rack}
use Rattle.peg_name.specs.declared.Node.{Node}
use Rattle.peg_name.specs.declared.Node.TheVariants as node
use Rattle.peg_model.specs.Packet as packet
use Rattle.peg_model.specs.Packet.{Packet}
use Rattle.peg_model.specs.World.{World}
use Rattle.peg_law.specs.Codes.{number_of, content_code, node_code}
use Rattle.peg_law.specs.Covered.{answered, answer_in}
use Rattle.peg_law.specs.Mirrors.{Mirrors, Paired, ItemFits}
use Rattle.peg_law.specs.Reached.{is_request_of, before_request, answered_before}
use Rattle.peg_law.specs.Reached.{ReachesWhatWasAnswered}
use Rattle.peg_law.proofs.Covered.{answer_is, plain_there, version_is}
use Rattle.peg_protocol.specs.Core as core
use Rattle.peg_protocol.specs.Packet as law
use Rattle.peg_protocol.specs.Law.{Law, asks, before, passed}
use Rattle.peg_protocol.specs.System.{System, ground}
use Rattle.peg_protocol.specs.Told.{Told}

asks_alike :
    (c n : ℕ) (rack : Rack) (to : Node) (p : Packet) (i : law.Item) → ItemFits rack (to, p) i
    → asks c n i.packet ≡ is_request_of c n p
asks_alike c n rack to (packet.Part epoch index count bytes) i f = ap (asks c n) f.packet.is
asks_alike c n rack to p i f = ap (asks c n) f.packet

before_alike :
    (key : List ℕ) (c n : ℕ) (rack : Rack) (ps : List (Node × Packet)) (is : List law.Item)
    → Paired (ItemFits rack) ps is
    → passed (number_of key) (before c n is) ≡ answered key (before_request c n ps)
before_alike key c n rack [] [] h = refl
before_alike key c n rack [] (i ∷ is) h = absurd h
before_alike key c n rack (p ∷ ps) [] h = absurd h
before_alike key c n rack (p ∷ ps) (i ∷ is) h =
    ap (λ b. passed (number_of key) (cond b [] (i ∷ before c n is)))
    (asks_alike c n rack p.0 p.1 i h.0)
    ∙ by_test (is_request_of c n p.1) (before_alike key c n rack ps is h.1)
  where
    by_test :
        (b : Bool)
        → passed (number_of key) (before c n is) ≡ answered key (before_request c n ps)
        → passed (number_of key) (cond b [] (i ∷ before c n is))
        ≡ answered key (cond b [] (p ∷ before_request c n ps))
    by_test true rest = refl
    by_test false rest =
        ap (λ x. max x (passed (number_of key) (before c n is))) (answer_is key rack p i h.0)
        ∙ ap (max (answer_in key p)) rest

module _ (keys : List (List ℕ)) (w : World) (s : System) (m : Mirrors keys w s) (told : Told s)
    (c : core.Core) (l : Law (ground s c)) where
  issue_is :
      (client seq : ℕ) (key : List ℕ) → (s.plans client seq).key ≡ number_of key
      → passed (s.plans client seq).key (before client seq s.sent)
      ≡ answered_before w client seq key
  issue_is client seq key e =
      ap (λ k. passed k (before client seq s.sent)) e
      ∙ before_alike key client seq w.rack w.packets s.sent m.sent

  pub reached_here : ReachesWhatWasAnswered w
  reached_here =
      record {
        read_sent = λ t client seq named to_switch key sent.
            let x =
            plain_there keys w s m (node.Server t)
            (packet.ToServerRead client seq named to_switch key)
            (law.ToServerRead client seq to_switch (number_of key)) (λ i f. f.packet) sent in
            let r = l.reads_sent t client seq to_switch (number_of key) x in
            let e =
            issue_is client seq key
            (told.read_key (law.Server t) client seq to_switch (number_of key) x) in
            let v = version_is keys w s m t key in omega (arith, r, e, v);
        read_answered = λ to client seq version server to_switch key content sent.
            let x =
            plain_there keys w s m to
            (packet.ReadReply client seq version server to_switch key content)
            (law.ReadReply client seq version server to_switch (number_of key)
            (content_code content))
            (λ i f. f.packet) sent in
            let r =
            l.reads_answered (node_code to) client seq version server to_switch (number_of key)
            (content_code content) x in
            let e =
            issue_is client seq key
            (told.reply_key (node_code to) client seq version server to_switch (number_of key)
            (content_code content) x) in
            omega (arith, r, e);
        written = λ to client seq version server to_switch key content sent.
            let x =
            plain_there keys w s m to
            (packet.ToServerWrite client seq version server to_switch key content)
            (law.ToServerWrite client seq version to_switch (number_of key) (content_code content))
            (λ i f. f.packet) sent in
            let r =
            l.stamps (node_code to) client seq version to_switch (number_of key)
            (content_code content) x in
            let e =
            issue_is client seq key
            (told.write_key (node_code to) client seq version to_switch (number_of key)
            (content_code content) x) in
            omega (arith, r, e);
      }
