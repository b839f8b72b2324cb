-- The nodes of a rack, by the places at which they are bound.
use Rattle.std.proofs.Common.{◌≡◌, ◌<◌, ◌≤◌, ◌+◌, ◌-◌, ℕ, zero, suc, Bool, true, List, [], ◌∷◌, ◌++◌}
use Rattle.std.proofs.Common.{length, map, Option, Some, option_map, refl, arith, ap, sym, ◌∙◌, nat_lt}
use Rattle.std.proofs.Common.{length-append, ◌⊎◌, inl, inr, eq-or-lt_of_le, subst}
use Rattle.std.proofs.lemmas.List.{length-map}
use Rattle.std.specs.Prelude.{slice_get}
use Rattle.std.specs.List.{AllByRecursion}
use Rattle.std.proofs.lemmas.Option.{slice_get-map}
use Rattle.std.proofs.lemmas.Bool.{lt-ltb}
use Rattle.peg_name.specs.Name.{Rack}
use Rattle.peg_name.specs.declared.Node.{Node}
use Rattle.peg_name.specs.declared.Node.TheVariants as node
use Rattle.peg_event.specs.declared.Event.{Event}
use Rattle.peg_event.specs.declared.Event.TheVariants as event
use Rattle.peg_model.specs.Words.{below}
use Rattle.peg_model.specs.Schedule.{EventInRack, NodeInRack}
use Rattle.peg_packet.specs.Nodes.{is_in_rack}
use Rattle.peg_meaning.specs.RackWord.{nodes_of, slot_of, actor_of}

-- ---- lists

get_left :
    {A : Type 0} (xs ys : List A) (i : ℕ) → i < length xs
    → slice_get (xs ++ ys) i ≡ slice_get xs i
get_left [] ys i less = absurd (omega (arith, less))
get_left (x ∷ xs) ys zero less = refl
get_left (x ∷ xs) ys (suc i) less = get_left xs ys i (omega (arith, less))

get_right :
    {A : Type 0} (xs ys : List A) (i k : ℕ) → k ≡ length xs + i
    → slice_get (xs ++ ys) k ≡ slice_get ys i
get_right [] ys i k is = ap (slice_get ys) (omega (arith, is))
get_right (x ∷ xs) ys i zero is = absurd (omega (arith, is))
get_right (x ∷ xs) ys i (suc k) is = get_right xs ys i k (omega (arith, is))

length_below : (n : ℕ) → length (below n) ≡ n
length_below zero = refl
length_below (suc n) =
    let less = length_below n in omega (arith, less, length-append (below n) (n ∷ []))

at_below_by :
    (n i : ℕ) → (i ≡ n) ⊎ (i < n) → (i < n → slice_get (below n) i ≡ Some i)
    → slice_get (below n ++ n ∷ []) i ≡ Some i
at_below_by n i (inl same) before =
    get_right (below n) (n ∷ []) 0 i (omega (arith, same, length_below n)) ∙ ap Some (sym same)
at_below_by n i (inr less) before =
    get_left (below n) (n ∷ []) i (omega (arith, less, length_below n)) ∙ before less

at_below : (n i : ℕ) → i < n → slice_get (below n) i ≡ Some i
at_below zero i less = absurd (omega (arith, less))
at_below (suc n) i less =
    at_below_by n i (eq-or-lt_of_le (omega (arith, less))) (at_below n i)

length_made : {A : Type 0} (f : ℕ → A) (n : ℕ) → length (map f (below n)) ≡ n
length_made f n = length-map (below n) f ∙ length_below n

made_at :
    {A : Type 0} (f : ℕ → A) (n i : ℕ) → i < n → slice_get (map f (below n)) i ≡ Some (f i)
made_at f n i less = slice_get-map f (below n) i ∙ ap (option_map f) (at_below n i less)

-- ---- the places

module _ (rack : Rack) where
  abbrev switches : List Node
  switches = map node.Switch (below rack.switches)

  abbrev servers : List Node
  servers = map node.Server (below rack.servers)

  abbrev clients : List Node
  clients = map node.Client (below rack.clients)

  pub nodes_count :
      length (nodes_of rack) ≡ 1 + rack.switches + rack.servers + rack.clients
  nodes_count =
      omega (
        arith,
        length-append ((node.Controller ∷ switches) ++ servers) clients,
        length-append (node.Controller ∷ switches) servers,
        length_made node.Switch rack.switches,
        length_made node.Server rack.servers,
        length_made node.Client rack.clients,
      )

  two_lengths : length (switches ++ servers) ≡ rack.switches + rack.servers
  two_lengths =
      omega (
        arith,
        length-append switches servers,
        length_made node.Switch rack.switches,
        length_made node.Server rack.servers,
      )

  pub switch_at :
      (slot : ℕ) → 1 ≤ slot → slot < 1 + rack.switches
      → slice_get (nodes_of rack) slot ≡ Some (node.Switch (slot - 1))
  switch_at zero some less = absurd (omega (arith, some))
  switch_at (suc i) some less =
      get_left (switches ++ servers) clients i (omega (arith, less, two_lengths))
      ∙ get_left switches servers i (omega (arith, less, length_made node.Switch rack.switches))
      ∙ made_at node.Switch rack.switches i (omega (arith, less))
      ∙ ap (λ k. Some (node.Switch k)) (omega arith)

  pub server_at :
      (slot : ℕ) → 1 + rack.switches ≤ slot → slot < 1 + rack.switches + rack.servers
      → slice_get (nodes_of rack) slot ≡ Some (node.Server (slot - (1 + rack.switches)))
  server_at zero some less = absurd (omega (arith, some))
  server_at (suc i) some less =
      let k = suc i - (1 + rack.switches) in
      get_left (switches ++ servers) clients i (omega (arith, less, two_lengths))
      ∙ get_right switches servers k i
      (omega (arith, some, length_made node.Switch rack.switches))
      ∙ made_at node.Server rack.servers k (omega (arith, some, less))

  pub client_at :
      (slot : ℕ) → 1 + rack.switches + rack.servers ≤ slot → slot < length (nodes_of rack)
      → slice_get (nodes_of rack) slot
      ≡ Some (node.Client (slot - (1 + rack.switches + rack.servers)))
  client_at zero some less = absurd (omega (arith, some))
  client_at (suc i) some less =
      let k = suc i - (1 + rack.switches + rack.servers) in
      get_right (switches ++ servers) clients k i (omega (arith, some, two_lengths))
      ∙ made_at node.Client rack.clients k (omega (arith, some, less, nodes_count))

  -- ---- who does what

  pub node_in_rack : (n : Node) → NodeInRack rack n → is_in_rack rack n ≡ true
  node_in_rack (node.Client id) ok = lt-ltb id rack.clients ok
  node_in_rack (node.Server id) ok = lt-ltb id rack.servers ok
  node_in_rack (node.Switch id) ok = lt-ltb id rack.switches ok
  node_in_rack node.Controller ok = refl

  pub actor_in_rack : (e : Event) → EventInRack rack e → is_in_rack rack (actor_of e) ≡ true
  actor_in_rack (event.Read client key) ok = lt-ltb client rack.clients ok
  actor_in_rack (event.Write client key value) ok = lt-ltb client rack.clients ok.0
  actor_in_rack (event.Delete client key) ok = lt-ltb client rack.clients ok.0
  actor_in_rack (event.Resend client) ok = lt-ltb client rack.clients ok
  actor_in_rack (event.GiveUp client) ok = lt-ltb client rack.clients ok
  actor_in_rack (event.Deliver number pick) ok = refl
  actor_in_rack (event.Junk to bytes) ok = refl
  actor_in_rack (event.Promote key) ok = refl
  actor_in_rack (event.Demote key) ok = refl
  actor_in_rack (event.Copy key target) ok = refl
  actor_in_rack (event.Fence key) ok = refl
  actor_in_rack (event.Handover target) ok = refl
  actor_in_rack event.Clear ok = refl
  actor_in_rack event.Retry ok = refl
  actor_in_rack event.Survey ok = refl
  actor_in_rack (event.Plan promote_at demote_below) ok = refl

-- one of the nodes that go to a rack
pub all_at :
    {A : Type 0} (P : A → Type 0) (xs : List A) (i : ℕ) (x : A) → AllByRecursion P xs
    → slice_get xs i ≡ Some x → P x
all_at P [] i x all is = absurd cc
all_at P (y ∷ xs) zero x all is = let same : y ≡ x = cc is in subst P same all.0
all_at P (y ∷ xs) (suc i) x all is = all_at P xs i x all.1 is
