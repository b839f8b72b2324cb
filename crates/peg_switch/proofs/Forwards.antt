-- What a switch sends on is a packet where what it took was one.
use Rattle.std.proofs.Common.{◌≡◌, ℕ, ◌^◌, ◌<◌, ◌≤◌, ◌&&◌, Bool, true, List}
use Rattle.std.proofs.Common.{arith, ap, ◌∙◌, nat_lt, nat_le, length}
use Rattle.std.proofs.lemmas.Bool.Decides.{nat_tests}
use Rattle.peg_name.specs.declared.Format.{Format}
use Rattle.peg_name.specs.declared.Format.TheVariants.{One, Two}
use Rattle.peg_name.specs.declared.value.Content.{Content}
use Rattle.peg_name.specs.declared.value.Content.TheVariants.{Absent, Present}
use Rattle.peg_name.specs.Name.{Rack, InLimits, servers_most}
use Rattle.peg_event.specs.declared.Outcome.{Outcome}
use Rattle.peg_event.specs.declared.Outcome.TheVariants.{Ordered}
use Rattle.peg_name.specs.declared.Row.{Row}
use Rattle.std.specs.List.{list_all}
use Rattle.peg_model.specs.Packet.{in_range, Read, Write, ToServerRead, ToServerWrite}
use Rattle.peg_model.specs.Packet.{CommandAck, CopyOrder, Fence, Report, is_positive, is_key}
use Rattle.peg_model.specs.Packet.{outcome_in_range, row_in_range, are_distinct, keys_of_rows}

read_goes :
    (format : Format) (client seq server switch : ℕ) (key : List ℕ)
    → in_range format (Read client seq key) ≡ true
    → server < servers_most format → switch < 4
    → in_range format (ToServerRead client seq server switch key) ≡ true
unfolding in_range
read_goes One client seq server switch key h few small = grind (arith, nat_tests)
read_goes Two client seq server switch key h few small = grind (arith, nat_tests)

write_goes :
    (format : Format) (client seq version server switch : ℕ) (key : List ℕ) (content : Content)
    → in_range format (Write client seq key content) ≡ true
    → 1 ≤ version → version < 2 ^ 64 → server < servers_most format → switch < 4
    → in_range format (ToServerWrite client seq version server switch key content) ≡ true
unfolding in_range
write_goes One client seq version server switch key Absent h some fits few small =
    grind (arith, nat_tests)
write_goes One client seq version server switch key (Present v) h some fits few small =
    grind (arith, nat_tests)
write_goes Two client seq version server switch key Absent h some fits few small =
    grind (arith, nat_tests)
write_goes Two client seq version server switch key (Present v) h some fits few small =
    grind (arith, nat_tests)

pub read_goes_on :
    (rack : Rack) (client seq server switch : ℕ) (key : List ℕ)
    → InLimits rack → server < rack.servers → switch < rack.switches
    → in_range rack.format (Read client seq key) ≡ true
    → in_range rack.format (ToServerRead client seq server switch key) ≡ true
read_goes_on rack client seq server switch key limits small below h =
    let few = limits.servers.1 in
    let fours = limits.switches.1 in
    read_goes rack.format client seq server switch key h
    (omega (arith, small, few)) (omega (arith, below, fours))

pub write_goes_on :
    (rack : Rack) (client seq version server switch : ℕ) (key : List ℕ) (content : Content)
    → InLimits rack → server < rack.servers → switch < rack.switches
    → 1 ≤ version → version < 2 ^ 64
    → in_range rack.format (Write client seq key content) ≡ true
    → in_range rack.format (ToServerWrite client seq version server switch key content) ≡ true
write_goes_on rack client seq version server switch key content limits small below some fits h =
    let few = limits.servers.1 in
    let fours = limits.switches.1 in
    write_goes rack.format client seq version server switch key content h
    some fits (omega (arith, small, few)) (omega (arith, below, fours))

both : (a b : Bool) → a ≡ true → b ≡ true → (a && b) ≡ true
both a b h k = ap (λ x. x && b) h ∙ k

pub acknowledged :
    (format : Format) (number : ℕ) (outcome : Outcome)
    → is_positive number ≡ true → outcome_in_range format outcome ≡ true
    → in_range format (CommandAck number outcome) ≡ true
unfolding in_range
acknowledged format number outcome h k =
    both (is_positive number) (outcome_in_range format outcome) h k

pub reported :
    (format : Format) (epoch total : ℕ) (rows : List Row)
    → epoch < 2 ^ 64 → total < 2 ^ 64 → length rows ≤ 12
    → list_all row_in_range rows ≡ true → are_distinct (keys_of_rows rows) ≡ true
    → in_range format (Report epoch total rows) ≡ true
unfolding in_range
reported format epoch total rows small low few within distinct =
    both _ _ (both _ _ (both _ _ (both _ _ (below epoch small) (below total low))
    (at_most (length rows) few)) within) distinct
  where
    below : (n : ℕ) → n < 2 ^ 64 → nat_lt n (2 ^ 64) ≡ true
    below n h = grind (arith, nat_tests)

    at_most : (n : ℕ) → n ≤ 12 → nat_le n 12 ≡ true
    at_most n h = grind (arith, nat_tests)

orders_copy :
    (format : Format) (switch server target : ℕ) (key : List ℕ)
    → switch < 4 → server < servers_most format → target < servers_most format
    → is_key key ≡ true → in_range format (CopyOrder switch server target key) ≡ true
unfolding in_range
orders_copy One switch server target key h k l name = grind (arith, nat_tests)
orders_copy Two switch server target key h k l name = grind (arith, nat_tests)

pub copy_goes :
    (rack : Rack) (switch server target : ℕ) (key : List ℕ)
    → InLimits rack → switch < rack.switches → server < rack.servers → target < rack.servers
    → is_key key ≡ true → in_range rack.format (CopyOrder switch server target key) ≡ true
copy_goes rack switch server target key limits h k l name =
    let few = limits.servers.1 in
    let fours = limits.switches.1 in
    orders_copy rack.format switch server target key (omega (arith, h, fours))
    (omega (arith, k, few)) (omega (arith, l, few)) name

fences_key :
    (format : Format) (switch server version : ℕ) (key : List ℕ)
    → switch < 4 → server < servers_most format → 1 ≤ version → version < 2 ^ 64
    → is_key key ≡ true → in_range format (Fence switch server version key) ≡ true
unfolding in_range
fences_key One switch server version key h k l m name = grind (arith, nat_tests)
fences_key Two switch server version key h k l m name = grind (arith, nat_tests)

pub fence_goes :
    (rack : Rack) (switch server version : ℕ) (key : List ℕ)
    → InLimits rack → switch < rack.switches → server < rack.servers
    → 1 ≤ version → version < 2 ^ 64
    → is_key key ≡ true → in_range rack.format (Fence switch server version key) ≡ true
fence_goes rack switch server version key limits h k l m name =
    let few = limits.servers.1 in
    let fours = limits.switches.1 in
    fences_key rack.format switch server version key (omega (arith, h, fours))
    (omega (arith, k, few)) l m name

ordered :
    (format : Format) (server : ℕ) → server < servers_most format
    → outcome_in_range format (Ordered server) ≡ true
ordered One server h = grind (arith, nat_tests)
ordered Two server h = grind (arith, nat_tests)

pub ordered_goes :
    (rack : Rack) (server : ℕ) → InLimits rack → server < rack.servers
    → outcome_in_range rack.format (Ordered server) ≡ true
ordered_goes rack server limits h =
    let few = limits.servers.1 in
    ordered rack.format server (omega (arith, h, few))
