-- A packet that passes the test is the same.
use Rattle.std.proofs.Common.{◌≡◌, ℕ, List, ap, true, false, refl, Bool, ◌&&◌}
use Rattle.std.proofs.lemmas.Bool.{eqb-true, eq-eqb}
use Rattle.std.proofs.lemmas.Slice.Eq.{bytes_eq-Decides}
use Rattle.std.specs.Str.{bytes_eq}
use Rattle.peg_name.specs.declared.Node.{Node}
use Rattle.peg_name.specs.declared.Node.TheVariants as node
use Rattle.peg_meaning.specs.RackWord.{is_node}
use Rattle.peg_index.specs.Chain.{is_packet}

both : (a b : Bool) → (a && b) ≡ true → (a ≡ true) × (b ≡ true)
both true true is = (refl, refl)
both true false is = absurd (cc is)
both false b is = absurd (cc is)

same-node : (a b : Node) → is_node a b ≡ true → a ≡ b
same-node (node.Client a) (node.Client b) is = ap node.Client (eqb-true a b is)
same-node (node.Server a) (node.Server b) is = ap node.Server (eqb-true a b is)
same-node (node.Switch a) (node.Switch b) is = ap node.Switch (eqb-true a b is)
same-node node.Controller node.Controller is = refl
same-node (node.Client a) (node.Server b) is = absurd (cc is)
same-node (node.Client a) (node.Switch b) is = absurd (cc is)
same-node (node.Client a) node.Controller is = absurd (cc is)
same-node (node.Server a) (node.Client b) is = absurd (cc is)
same-node (node.Server a) (node.Switch b) is = absurd (cc is)
same-node (node.Server a) node.Controller is = absurd (cc is)
same-node (node.Switch a) (node.Client b) is = absurd (cc is)
same-node (node.Switch a) (node.Server b) is = absurd (cc is)
same-node (node.Switch a) node.Controller is = absurd (cc is)
same-node node.Controller (node.Client b) is = absurd (cc is)
same-node node.Controller (node.Server b) is = absurd (cc is)
same-node node.Controller (node.Switch b) is = absurd (cc is)

pub same :
    (p : Node × List ℕ) (to : Node) (bytes : List ℕ)
    → is_packet p to bytes ≡ true → (p.0 ≡ to) × (p.1 ≡ bytes)
unfolding is_packet
same p to bytes is =
    let tests = both (is_node p.0 to) (bytes_eq p.1 bytes) is in
    (same-node p.0 to tests.0, (bytes_eq-Decides p.1 bytes).0 tests.1)

node-self : (a : Node) → is_node a a ≡ true
node-self (node.Client a) = eq-eqb a a refl
node-self (node.Server a) = eq-eqb a a refl
node-self (node.Switch a) = eq-eqb a a refl
node-self node.Controller = refl

both-true : (a b : Bool) → a ≡ true → b ≡ true → (a && b) ≡ true
both-true a b x y = λ k. x k && y k

pub same-self : (to : Node) (bytes : List ℕ) → is_packet (to, bytes) to bytes ≡ true
unfolding is_packet
same-self to bytes =
    both-true (is_node to to) (bytes_eq bytes bytes) (node-self to)
    ((bytes_eq-Decides bytes bytes).1 refl)
