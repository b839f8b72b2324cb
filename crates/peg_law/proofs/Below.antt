-- The versions of a world are below the next one, since they are in the protocol machine.
use Rattle.std.proofs.Common.{◌≡◌, ℕ, List, Some, option_map, ap, ◌∙◌}
use Rattle.std.proofs.Common.{subst, arith}
use Rattle.peg_name.specs.Name.{Rack}
use Rattle.peg_name.specs.declared.Node.{Node}
use Rattle.peg_event.specs.declared.answers.Listing.{Listing}
use Rattle.peg_model.specs.Packet as packet
use Rattle.peg_model.specs.Packet.{Packet}
use Rattle.peg_model.specs.Rules.{entry_of}
use Rattle.peg_model.specs.World.{World, switch_of}
use Rattle.peg_law.specs.Below.{version_in, VersionsAreBelow}
use Rattle.peg_law.specs.Codes.{number_of, entry_code}
use Rattle.peg_law.specs.Mirrors.{Mirrors, ItemFits}
use Rattle.peg_law.proofs.Cores.{entry_is}
use Rattle.peg_law.proofs.Collecting.{paired_contains}
use Rattle.peg_law.proofs.Covered.{current_here, version_is}
use Rattle.peg_protocol.specs.Core as core
use Rattle.peg_protocol.specs.Packet as law
use Rattle.peg_protocol.specs.Law as law_of
use Rattle.peg_protocol.specs.Law.{Law}
use Rattle.peg_protocol.specs.Handover.{HandoverLaw}
use Rattle.peg_protocol.specs.System.{System, ground}

-- a packet carries the same version in both
carries : (rack : Rack) (to : Node) (p : Packet) (i : law.Item) → ItemFits rack (to, p) i
    → law_of.version_in i.packet ≡ version_in p
carries rack to (packet.Part epoch index count bytes) i f =
    ap law_of.version_in f.packet.is
carries rack to p i f = ap law_of.version_in f.packet

module _ (keys : List (List ℕ)) (w : World) (s : System) (m : Mirrors keys w s) (holder : ℕ)
    (h : HandoverLaw s holder) (l : Law (ground s (s.cores holder))) where
  next_is : (s.cores holder).next ≡ (switch_of w holder).stamps.next
  next_is = (m.switches holder).core_is.next_is

  entry_there :
      (key : List ℕ) (entry : Listing) → entry_of (switch_of w holder).entries key ≡ Some entry
      → core.entry_of (number_of key) (s.cores holder).entries ≡ Some (entry_code (key, entry))
  entry_there key entry e =
      ap (core.entry_of (number_of key)) (m.switches holder).core_is.entries_is
      ∙ entry_is key (switch_of w holder).entries
      ∙ ap (option_map (λ x. entry_code (key, x))) e

  pub below_here : VersionsAreBelow w
  below_here =
      record {
        holder = holder;
        current = current_here keys w s m holder h;
        held = λ server key.
            let x = l.versions.held server (number_of key) in
            let v = version_is keys w s m server key in omega (arith, x, v, next_is);
        sent = λ to p c.
            let y = paired_contains (ItemFits w.rack) w.packets s.sent (to, p) m.sent c in
            let x = l.versions.sent y.0.to y.0.packet y.1 in
            let v = carries w.rack to p y.0 y.2 in omega (arith, x, v, next_is);
        rows = λ client.
            let x = l.versions.rows client in
            let v = ap (λ (r : ℕ × ℕ). r.1) ((m.switches holder).core_is.rows client) in
            omega (arith, x, v, next_is);
        entries = λ key entry e.
            let x =
            subst (law_of.BelowNext (ground s (s.cores holder))) (entry_there key entry e)
            (l.versions.entries (number_of key)) in
            let b = x.base in
            let c = x.completed in
            record {
              base = omega (arith, b, next_is);
              completed = omega (arith, c, next_is);
              mark = λ n has. let k = x.mark n has in omega (arith, k, next_is);
            };
      }
