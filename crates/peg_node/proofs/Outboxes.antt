-- Outboxes whose packets go to nodes of the rack.
use Rattle.std.proofs.Common.{◌≡◌, ℕ, zero, suc, Bool, true, false, List, [], ◌∷◌, map, Option, Some, None}
use Rattle.std.proofs.Common.{refl, sym, ap, subst, ◌∙◌}
use Rattle.std.specs.Prelude.{◌&&◌, slice_get, unwrap_or}
use Rattle.peg_name.specs.Name.{Rack}
use Rattle.peg_name.specs.declared.Format.{Format}
use Rattle.peg_name.specs.declared.Node.{Node}
use Rattle.peg_model.specs.Packet.{Packet}
use Rattle.peg_model.specs.Datagrams.{spelled}
use Rattle.peg_meaning.specs.Session.{Letter, letter_to}
use Rattle.peg_packet.specs.Nodes.{is_in_rack, are_in_rack, announces_in}
use Rattle.peg_node.specs.Serving.{AreInRack}

both : (a b : Bool) → (a && b) ≡ true → (a ≡ true) × (b ≡ true)
both true b is = (refl, is)
both false b is = let never : false ≡ true = is in absurd (cc)

pub in_rack_items :
    (rack : Rack) (format : Format) (sent : List (Node × Packet)) → are_in_rack rack sent ≡ true
    → AreInRack rack (spelled format sent)
in_rack_items rack format [] is = tt
in_rack_items rack format (item ∷ sent) is =
    let parts = both (announces_in rack item.1 && is_in_rack rack item.0) (are_in_rack rack sent) is
    in (
      (both (announces_in rack item.1) (is_in_rack rack item.0) parts.0).1,
      in_rack_items rack format sent parts.1,
    )

pub in_rack_at :
    (rack : Rack) (items : List (Node × List ℕ)) (i : ℕ) (item : Node × List ℕ)
    → AreInRack rack items → slice_get items i ≡ Some item → is_in_rack rack item.0 ≡ true
in_rack_at rack [] i item all is = let never : None ≡ Some item = is in absurd (cc)
in_rack_at rack (x ∷ items) zero item all is =
    let same : x ≡ item = ap (λ o. unwrap_or o x) is in
    subst (λ (k : Node × List ℕ). is_in_rack rack k.0 ≡ true) same all.0
in_rack_at rack (x ∷ items) (suc i) item all is = in_rack_at rack items i item all.1 is

pub letter_is :
    (slot base : ℕ) (items : List (Node × List ℕ)) (i : ℕ) (item : Node × List ℕ)
    → slice_get items i ≡ Some item
    → slice_get (map (letter_to slot base) items) i ≡ Some (letter_to slot base item)
letter_is slot base [] i item is = let never : None ≡ Some item = is in absurd (cc)
letter_is slot base (x ∷ items) zero item is =
    let same : x ≡ item = ap (λ o. unwrap_or o x) is in
    ap (λ (k : Node × List ℕ). Some (letter_to slot base k)) same
letter_is slot base (x ∷ items) (suc i) item is = letter_is slot base items i item is
