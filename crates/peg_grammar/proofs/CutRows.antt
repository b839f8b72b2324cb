-- Examples of parts: where bytes are cut, and a state whose two parts come in the other order.
use Rattle.std.proofs.Common.{◌≡◌, ℕ, true, false, Some, None, List, [], ◌∷◌, length, map}
use Rattle.std.proofs.Common.{replicate, refl}
use Rattle.peg_name.specs.Name.{Rack}
use Rattle.peg_name.specs.declared.Format.TheVariants.{One}
use Rattle.peg_name.specs.Holders.{servers_of, servers_from}
use Rattle.peg_model.specs.Handover.{State, Collected, state_bytes, state_of, part_of, parts}
use Rattle.peg_model.specs.Handover.{none_collected, is_whole, bytes_of, fits}
use Rattle.peg_grammar.specs.Collecting.{after_parts}

abbrev lengths : List ℕ → List ℕ
lengths bytes = map (λ part. length part) (parts bytes)

none_of_none : lengths [] ≡ []
none_of_none = refl

one_to_512 : lengths (replicate 512 7) ≡ 512 ∷ []
one_to_512 = refl

two_from_513 : lengths (replicate 513 7) ≡ 512 ∷ 1 ∷ []
two_from_513 = refl

rack : Rack
rack = record {
  format = One;
  servers = 3;
  clients = 40;
  switches = 2;
  listed = 2;
  hot = 2;
  first = 1;
}

handed : State
handed = record {
  stamps = record { next = 9; rows = replicate 40 (3, 8) };
  last = 2;
  entries = (
    107 ∷ [],
    record { listing = 1; base = 0; completed = 8; holders = 0 ∷ 2 ∷ []; mark = None },
  )
      ∷ [];
}

bytes : List ℕ
unfolding handed
bytes = state_bytes One handed

-- the second part twice, and then the first
last_first : Collected
unfolding bytes
last_first = after_parts 2 bytes none_collected (1 ∷ 1 ∷ [])

both : Collected
unfolding bytes
both = after_parts 2 bytes none_collected (1 ∷ 1 ∷ 0 ∷ [])

in_two_parts : lengths bytes ≡ 512 ∷ 183 ∷ []
unfolding bytes handed state_bytes
in_two_parts = refl

not_yet : is_whole last_first ≡ false
unfolding last_first bytes handed state_bytes
not_yet = refl

whole_now : is_whole both ≡ true
unfolding both bytes handed state_bytes
whole_now = refl

read_back : state_of rack (bytes_of both) ≡ Some handed
unfolding rack both bytes handed state_bytes state_of servers_of servers_from
read_back = refl

-- a first part of other bytes would complete bytes that are no state
another_first : fits rack last_first 0 2 (replicate 512 0) ≡ false
unfolding rack last_first bytes handed state_bytes state_of
another_first = refl

the_first : fits rack last_first 0 2 (part_of bytes 0) ≡ true
unfolding rack last_first bytes handed state_bytes state_of servers_of servers_from
the_first = refl
