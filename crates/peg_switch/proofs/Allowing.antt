-- To which servers a packet may go, by whether it is in place and the switch is active.
use Rattle.std.proofs.Common.{◌≡◌, ◌∙◌, ℕ, Bool, true, false, not, ◌&&◌, ◌||◌, List, Some, ap}
use Rattle.std.proofs.Common.{refl}
use Rattle.std.specs.Prelude.{if◌then◌else◌}
use Rattle.peg_name.specs.declared.Format.{Format}
use Rattle.peg_name.specs.declared.Format.TheVariants.{One, Two}
use Rattle.peg_model.specs.Packet.{Packet}
use Rattle.peg_model.specs.Reading.{packet_of, is_format}
use Rattle.peg_model.specs.Switch.{Switch, Active, is_active, is_misplaced, switch_takes}
use Rattle.peg_meaning.specs.Balance as book
use Rattle.peg_meaning.specs.Balance.{Nothing, request_allowed}
use Rattle.peg_switch.specs.Choices.{packet_allowed}

own_format : (f : Format) → is_format f f ≡ true
own_format One = refl
own_format Two = refl

-- by the three tests
tested : Switch → Packet → (active takes misplaced : Bool) → book.Allowed
tested s p active takes misplaced =
    if true && active && not (not takes || misplaced) then request_allowed s p else Nothing

by_tests :
    (s : Switch) (p : Packet)
    → packet_allowed s p ≡ tested s p (is_active s.mode) (switch_takes s.rack p) (is_misplaced s p)
unfolding packet_allowed tested
by_tests s p =
    ap (λ f. if f && is_active s.mode && not (not (switch_takes s.rack p) || is_misplaced s p)
    then request_allowed s p else Nothing) (own_format s.rack.format)

none_taken :
    (s : Switch) (p : Packet) (active misplaced : Bool)
    → tested s p active false misplaced ≡ Nothing
unfolding tested
none_taken s p true misplaced = refl
none_taken s p false misplaced = refl

pub not_taken :
    (s : Switch) (p : Packet) → switch_takes s.rack p ≡ false → packet_allowed s p ≡ Nothing
not_taken s p none =
    by_tests s p
    ∙ ap (λ t. tested s p (is_active s.mode) t (is_misplaced s p)) none
    ∙ none_taken s p (is_active s.mode) (is_misplaced s p)

inactive :
    (s : Switch) (p : Packet) (takes misplaced : Bool)
    → tested s p false takes misplaced ≡ Nothing
unfolding tested
inactive s p takes misplaced = refl

pub not_active :
    (s : Switch) (p : Packet) → is_active s.mode ≡ false → packet_allowed s p ≡ Nothing
not_active s p idle =
    by_tests s p
    ∙ ap (λ a. tested s p a (switch_takes s.rack p) (is_misplaced s p)) idle
    ∙ inactive s p (switch_takes s.rack p) (is_misplaced s p)

in_tests :
    (s : Switch) (p : Packet) → s.mode ≡ Active → switch_takes s.rack p ≡ true
    → packet_allowed s p ≡ tested s p true true (is_misplaced s p)
in_tests s p active taken =
    by_tests s p
    ∙ ap (λ a. tested s p a (switch_takes s.rack p) (is_misplaced s p)) (ap is_active active)
    ∙ ap (λ t. tested s p true t (is_misplaced s p)) taken

as_placed :
    (s : Switch) (p : Packet) → (tested s p true true true ≡ Nothing)
    × (tested s p true true false ≡ request_allowed s p)
unfolding tested
as_placed s p = (refl, refl)

pub misplaced :
    (s : Switch) (p : Packet) → s.mode ≡ Active → switch_takes s.rack p ≡ true
    → is_misplaced s p ≡ true → packet_allowed s p ≡ Nothing
misplaced s p active taken is =
    in_tests s p active taken ∙ ap (tested s p true true) is ∙ (as_placed s p).0

pub placed :
    (s : Switch) (p : Packet) → s.mode ≡ Active → switch_takes s.rack p ≡ true
    → is_misplaced s p ≡ false → packet_allowed s p ≡ request_allowed s p
placed s p active taken is =
    in_tests s p active taken ∙ ap (tested s p true true) is ∙ (as_placed s p).1

-- ---- bytes

pub spelled_allows :
    (s : Switch) (bytes : List ℕ) (f : Format) (p : Packet)
    → packet_of bytes ≡ Some (f, p) → f ≡ s.rack.format
    → book.allowed s bytes ≡ packet_allowed s p
unfolding packet_allowed
spelled_allows s bytes f p spells same =
    ap (λ o. book.packet_allowed o s) spells
    ∙ ap (λ g. book.packet_allowed (Some (g, p)) s) same
