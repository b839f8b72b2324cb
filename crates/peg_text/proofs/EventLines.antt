-- The function that reads an event's line reads just the lines that spell one.
use Rattle.std.proofs.Common.{◌≡◌, ◌<◌, ◌≤◌, ◌^◌, ◌⊎◌, inl, inr, ℕ, zero, suc, Bool, true, false}
use Rattle.std.proofs.Common.{cond, Option, Some, None, List, [], ◌∷◌, ◌++◌, length, refl, arith}
use Rattle.std.proofs.Common.{ap, sym, ◌∙◌, subst}
use Rattle.std.specs.Prelude.{decimal, codes, option_map, Contains, ◌==◌}
use Rattle.std.specs.Str.{bytes_eq}
use Rattle.std.specs.List.{join_with_byte}
use Rattle.std.proofs.lemmas.List.{append-nil}
use Rattle.std.proofs.lemmas.Option.{none-some, same_Some}
use Rattle.std.proofs.lemmas.Bool.Decides.{nat_tests}
use Rattle.peg_name.specs.Name.{Rack, InLimits, clients_most, servers_most, value_most}
use Rattle.peg_name.specs.declared.Format.{Format}
use Rattle.peg_name.specs.declared.Format.TheVariants.{One, Two}
use Rattle.peg_name.specs.declared.Node.{Node}
use Rattle.peg_name.specs.declared.Node.TheVariants as node
use Rattle.peg_event.specs.declared.Event.{Event}
use Rattle.peg_event.specs.declared.Event.TheVariants as event
use Rattle.peg_model.specs.Text.{key_word, value_word, hex_word}
use Rattle.peg_model.specs.Schedule.{node_words, event_lines, NodeInRack, EventInRack}
use Rattle.peg_model.specs.Schedule.{EventInRange}
use Rattle.peg_model.specs.Schedule.{AreBytes, IsKeyOfBytes, IsEventLine}
use Rattle.peg_text.specs.Reading.{words_of, number_of, number_below, key_of, value_of, hex_of}
use Rattle.peg_text.specs.Reading.{then_by, next_by, both_by, whole_of}
use Rattle.peg_text.specs.Events.{read_as, read_client, read_key, read_number, read_target}
use Rattle.peg_text.specs.Events.{read_value, read_pick, read_node, deletes, bare_event}
use Rattle.peg_text.specs.Events.{control_event, packet_event, event_by, event_in}
use Rattle.peg_text.proofs.Readers.{by_test, if_passed, map_some, from_bytes_eq, then_at}
use Rattle.peg_text.proofs.Readers.{then_some, ReadLaw, next_law, both_law, as_sound, as_complete}
use Rattle.peg_text.proofs.Readers.{below_law}
use Rattle.peg_text.proofs.Numbers.{number_law}
use Rattle.peg_text.proofs.Spells.{key_law, value_law, hex_law}
use Rattle.peg_text.proofs.Spaces.{is_spaceless, AreSpaceless, decimal_spaceless, key_spaceless}
use Rattle.peg_text.proofs.Spaces.{value_spaceless, hex_spaceless}
use Rattle.peg_text.proofs.Lines.{two_words, three_words, four_words, cut, joined, only_one}
use Rattle.peg_text.proofs.Lines.{one_holds}

-- ---- the words of each event

abbrev pub node_ws : Node → List (List ℕ)
node_ws (node.Client id) = codes "client" ∷ decimal id ∷ []
node_ws (node.Server id) = codes "server" ∷ decimal id ∷ []
node_ws (node.Switch id) = codes "switch" ∷ decimal id ∷ []
node_ws node.Controller = codes "controller" ∷ []

abbrev pub IsWords : Event → List (List ℕ) → Type 0
IsWords (event.Read client key) ws = ws ≡ codes "read" ∷ decimal client ∷ key_word key ∷ []
IsWords (event.Write client key value) ws =
    ws ≡ codes "write" ∷ decimal client ∷ key_word key ∷ value_word value ∷ []
IsWords (event.Delete client key) ws = ws ≡ codes "delete" ∷ decimal client ∷ key_word key ∷ []
IsWords (event.Resend client) ws = ws ≡ codes "resend" ∷ decimal client ∷ []
IsWords (event.GiveUp client) ws = ws ≡ codes "giveup" ∷ decimal client ∷ []
IsWords (event.Deliver number pick) ws =
    (ws ≡ codes "deliver" ∷ decimal number ∷ decimal pick ∷ [])
    ⊎ ((pick ≡ 0) × (ws ≡ codes "deliver" ∷ decimal number ∷ []))
IsWords (event.Junk to bytes) ws = ws ≡ codes "junk" ∷ (node_ws to ++ hex_word bytes ∷ [])
IsWords (event.Promote key) ws = ws ≡ codes "promote" ∷ key_word key ∷ []
IsWords (event.Demote key) ws = ws ≡ codes "demote" ∷ key_word key ∷ []
IsWords (event.Copy key target) ws = ws ≡ codes "copy" ∷ key_word key ∷ decimal target ∷ []
IsWords (event.Fence key) ws = ws ≡ codes "fence" ∷ key_word key ∷ []
IsWords (event.Handover target) ws = ws ≡ codes "handover" ∷ decimal target ∷ []
IsWords event.Clear ws = ws ≡ codes "clear" ∷ []
IsWords event.Retry ws = ws ≡ codes "retry" ∷ []
IsWords event.Survey ws = ws ≡ codes "survey" ∷ []
IsWords (event.Plan promote_at demote_below) ws =
    ws ≡ codes "plan" ∷ decimal promote_at ∷ decimal demote_below ∷ []

pub record Says (rack : Rack) (ws : List (List ℕ)) (e : Event) : Type 0 where
  pub in_rack : EventInRack rack e
  pub in_range : EventInRange e
  pub spelled : IsWords e ws

-- ---- the laws of the readers

pub clients_few : (format : Format) → clients_most format ≤ 1024
clients_few One = omega arith
clients_few Two = omega arith

pub servers_few : (format : Format) → servers_most format ≤ 64
servers_few One = omega arith
servers_few Two = omega arith

pub key_read : ReadLaw read_key (λ key. key_word key ∷ []) IsKeyOfBytes
key_read = next_law key_of key_word IsKeyOfBytes key_law

pub number_read : ReadLaw read_number (λ n. decimal n ∷ []) (λ n. n < 2 ^ 64)
number_read = next_law number_of decimal (λ n. n < 2 ^ 64) number_law

pub below_read :
    (limit : ℕ) → limit ≤ 2 ^ 64
    → ReadLaw (next_by (number_below limit)) (λ n. decimal n ∷ []) (λ n. n < limit)
below_read limit few =
    next_law (number_below limit) decimal (λ n. n < limit)
    (below_law number_of decimal number_law limit few)

target_read : ReadLaw read_target (λ n. decimal n ∷ []) (λ n. n < 256)
target_read = below_read 256 (omega arith)

pub hex_read :
    (most : ℕ)
    → ReadLaw (next_by (hex_of most)) (λ bytes. hex_word bytes ∷ [])
    (λ bytes. (length bytes ≤ most) × AreBytes bytes)
hex_read most = next_law (hex_of most) hex_word _ (hex_law most)

pub is_zero : (n : ℕ) → (n == 0) ≡ true → n ≡ 0
is_zero n e = grind (arith, nat_tests)

pub not_zero : (n : ℕ) → (n == 0) ≡ false → n ≡ 0 → ⊥
not_zero n e z = grind (arith, nat_tests)

some_word : (n : ℕ) → (suc n == 0) ≡ true → ⊥
some_word n e = grind (arith, nat_tests)

no_words : (ws : List (List ℕ)) → (length ws == 0) ≡ true → ws ≡ []
no_words [] e = refl
no_words (w ∷ ws) e = absurd (some_word (length ws) e)

-- what was read whole left no word
pub whole_some :
    {X : Type 0} (o : Option (X × List (List ℕ))) (x : X) → whole_of o ≡ Some x
    → (left : List (List ℕ)) × (left ≡ []) × (o ≡ Some (x, left))
whole_some None x e = absurd (none-some x e)
whole_some (Some r) x e =
    let passed = if_passed (length r.1 == 0) (Some r.0) x e in
    (r.1, no_words r.1 passed.0, ap (λ y. Some (y, r.1)) (same_Some r.0 x passed.1))

module _ (rack : Rack) (limits : InLimits rack) where
  client_read : ReadLaw (read_client rack) (λ n. decimal n ∷ []) (λ n. n < rack.clients)
  client_read = below_read rack.clients (omega (arith, limits.clients.1, clients_few rack.format))

  value_read :
      ReadLaw (read_value rack) (λ value. value_word value ∷ [])
      (λ value. (length value ≤ value_most rack.format) × AreBytes value)
  value_read =
      next_law (value_of (value_most rack.format)) value_word _
      (value_law (value_most rack.format))

  client_key_read :
      ReadLaw (both_by (read_client rack) read_key) (λ p. decimal p.0 ∷ key_word p.1 ∷ [])
      (λ p. (p.0 < rack.clients) × IsKeyOfBytes p.1)
  client_key_read = both_law (read_client rack) _ _ client_read read_key _ _ key_read

  -- a node that is named by a word and its number
  numbered_sound : (make : ℕ → Node) (word0 word : List ℕ) (limit : ℕ) → limit ≤ 2 ^ 64
      →
      ((id : ℕ) → id < limit
      → (node_ws (make id) ≡ word0 ∷ decimal id ∷ []) × NodeInRack rack (make id))
      → (ws : List (List ℕ)) (n : Node) (left : List (List ℕ)) → bytes_eq word word0 ≡ true
      → read_as make (next_by (number_below limit) ws) ≡ Some (n, left)
      → (word ∷ ws ≡ node_ws n ++ left) × NodeInRack rack n
  numbered_sound make word0 word limit few is ws n left same e =
      let got =
      as_sound (next_by (number_below limit)) _ _ (below_read limit few) make ws n left e in
      subst (λ (k : Node). (word ∷ ws ≡ node_ws k ++ left) × NodeInRack rack k) (sym got.1) (
        ap (λ v. v ∷ ws) (from_bytes_eq word word0 same) ∙ ap (λ t. word0 ∷ t) got.2 ∙ ap
            (λ t. t ++ left) (sym (is got.0 got.3).0),
        (is got.0 got.3).1,
      )

  few_clients : rack.clients ≤ 2 ^ 64
  few_clients = omega (arith, limits.clients.1, clients_few rack.format)

  few_servers : rack.servers ≤ 2 ^ 64
  few_servers = omega (arith, limits.servers.1, servers_few rack.format)

  few_switches : rack.switches ≤ 2 ^ 64
  few_switches = omega (arith, limits.switches.1)

  node_sound :
      (ws : List (List ℕ)) (n : Node) (left : List (List ℕ)) → read_node rack ws ≡ Some (n, left)
      → (ws ≡ node_ws n ++ left) × NodeInRack rack n
  node_sound [] n left e = absurd (none-some _ e)
  node_sound (word ∷ ws) n left e =
      by_test (bytes_eq word (codes "client")) _ _ (n, left) e
      (numbered_sound node.Client (codes "client") word rack.clients few_clients
      (λ id ok. (refl, ok)) ws n left)
      (λ no1 e1.
      by_test (bytes_eq word (codes "server")) _ _ (n, left) e1
      (numbered_sound node.Server (codes "server") word rack.servers few_servers
      (λ id ok. (refl, ok)) ws n left)
      (λ no2 e2.
      by_test (bytes_eq word (codes "switch")) _ _ (n, left) e2
      (numbered_sound node.Switch (codes "switch") word rack.switches few_switches
      (λ id ok. (refl, ok)) ws n left)
      (λ no3 e3.
      let last =
      if_passed (bytes_eq word (codes "controller")) (Some (node.Controller, ws)) (n, left) e3
      in
      let same : (node.Controller, ws) ≡ (n, left) = same_Some _ _ last.1 in
      subst (λ (k : Node). (word ∷ ws ≡ node_ws k ++ left) × NodeInRack rack k)
      (ap (λ p. p.0) same) (
        ap (λ v. v ∷ ws) (from_bytes_eq word (codes "controller") last.0) ∙ ap
            (λ t. codes "controller" ∷ t) (ap (λ p. p.1) same),
        tt,
      ))))

  node_complete :
      (n : Node) (left : List (List ℕ)) → NodeInRack rack n
      → read_node rack (node_ws n ++ left) ≡ Some (n, left)
  node_complete (node.Client id) left ok =
      then_at (next_by (number_below rack.clients) (decimal id ∷ left))
      (λ x end. Some (node.Client x, end)) id left
      ((below_read rack.clients few_clients).complete id left ok)
  node_complete (node.Server id) left ok =
      then_at (next_by (number_below rack.servers) (decimal id ∷ left))
      (λ x end. Some (node.Server x, end)) id left
      ((below_read rack.servers few_servers).complete id left ok)
  node_complete (node.Switch id) left ok =
      then_at (next_by (number_below rack.switches) (decimal id ∷ left))
      (λ x end. Some (node.Switch x, end)) id left
      ((below_read rack.switches few_switches).complete id left ok)
  node_complete node.Controller left ok = refl

  pub node_read : ReadLaw (read_node rack) node_ws (NodeInRack rack)
  node_read = record { sound = node_sound; complete = node_complete }

  -- ---- what is read is spelled

  -- an event that is named by a verb
  module _ {X : Type 0} (r : List (List ℕ) → Option (X × List (List ℕ)))
      (words : X → List (List ℕ)) (R : X → Type 0) (law : ReadLaw r words R) (make : X → Event)
      (verb0 : List ℕ) where
    verb_sound :
        ((x : X) → R x → Says rack (verb0 ∷ words x) (make x))
        → (verb : List ℕ) (ws : List (List ℕ)) (e : Event) (left : List (List ℕ)) → left ≡ []
        → bytes_eq verb verb0 ≡ true → read_as make (r ws) ≡ Some (e, left)
        → Says rack (verb ∷ ws) e
    verb_sound says verb ws e left none same is =
        let got = as_sound r words R law make ws e left is in
        let at :
        verb ∷ ws
        ≡ verb0
        ∷ words got.0 = ap (λ v. v ∷ ws) (from_bytes_eq verb verb0 same) ∙ ap
        (λ t. verb0 ∷ t)
        (got.2 ∙ ap (λ t. words got.0 ++ t) none ∙ append-nil (words got.0)) in
        subst (λ (k : Event). Says rack (verb ∷ ws) k) (sym got.1)
        (subst (λ (t : List (List ℕ)). Says rack t (make got.0)) (sym at) (says got.0 got.3))

  -- an event of one word
  bare_sound :
      (verb : List ℕ) (ws : List (List ℕ)) (e : Event) (left : List (List ℕ)) → left ≡ []
      → option_map {U = Event × List (List ℕ)} (λ k. (k, ws)) (bare_event verb) ≡ Some (e, left)
      → Says rack (verb ∷ ws) e
  bare_sound verb ws e left none is =
      let got = map_some (λ (k : Event). (k, ws)) (bare_event verb) (e, left) is in
      let end : ws ≡ [] = ap (λ p. p.1) got.2 ∙ none in
      let one :
      (verb0 : List ℕ) (k : Event) → Says rack (verb0 ∷ []) k → bytes_eq verb verb0 ≡ true
      → Some k ≡ Some got.0 → Says rack (verb ∷ ws) e = λ verb0 k says same at.
      subst (λ (q : Event). Says rack (verb ∷ ws) q) (same_Some k got.0 at ∙ ap (λ p. p.0) got.2)
      (subst (λ (t : List (List ℕ)). Says rack t k) (sym (ap (λ v. v ∷ ws)
      (from_bytes_eq verb verb0 same) ∙ ap (λ t. verb0 ∷ t) end)) says)
      in
      by_test (bytes_eq verb (codes "clear")) _ _ got.0 got.1
      (one (codes "clear") event.Clear (record { in_rack = tt; in_range = tt; spelled = refl }))
      (λ no1 e1.
      by_test (bytes_eq verb (codes "retry")) _ _ got.0 e1
      (one (codes "retry") event.Retry (record { in_rack = tt; in_range = tt; spelled = refl }))
      (λ no2 e2.
      let last = if_passed (bytes_eq verb (codes "survey")) (Some event.Survey) got.0 e2 in
      one (codes "survey") event.Survey (record { in_rack = tt; in_range = tt; spelled = refl })
      last.0 last.1))

  control_sound :
      (verb : List ℕ) (ws : List (List ℕ)) (e : Event) (left : List (List ℕ)) → left ≡ []
      → control_event verb ws ≡ Some (e, left) → Says rack (verb ∷ ws) e
  control_sound verb ws e left none is =
      by_test (bytes_eq verb (codes "promote")) _ _ (e, left) is
      (verb_sound read_key _ _ key_read event.Promote (codes "promote")
      (λ key ok. record { in_rack = tt; in_range = ok; spelled = refl }) verb ws e left none)
      (λ no1 e1.
      by_test (bytes_eq verb (codes "demote")) _ _ (e, left) e1
      (verb_sound read_key _ _ key_read event.Demote (codes "demote")
      (λ key ok. record { in_rack = tt; in_range = ok; spelled = refl }) verb ws e left none)
      (λ no2 e2.
      by_test (bytes_eq verb (codes "copy")) _ _ (e, left) e2
      (verb_sound (both_by read_key read_target) _ _ (both_law read_key _ _ key_read
      read_target _ _ target_read) (λ p. event.Copy p.0 p.1) (codes "copy")
      (λ p ok. record { in_rack = tt; in_range = ok; spelled = refl }) verb ws e left none)
      (λ no3 e3.
      by_test (bytes_eq verb (codes "fence")) _ _ (e, left) e3
      (verb_sound read_key _ _ key_read event.Fence (codes "fence")
      (λ key ok. record { in_rack = tt; in_range = ok; spelled = refl }) verb ws e left none)
      (λ no4 e4.
      by_test (bytes_eq verb (codes "handover")) _ _ (e, left) e4
      (verb_sound read_target _ _ target_read event.Handover (codes "handover")
      (λ target ok. record { in_rack = tt; in_range = ok; spelled = refl }) verb ws e left
      none)
      (λ no5 e5.
      by_test (bytes_eq verb (codes "plan")) _ _ (e, left) e5
      (verb_sound (both_by read_number read_number) _ _ (both_law read_number _ _ number_read
      read_number _ _ number_read) (λ p. event.Plan p.0 p.1) (codes "plan")
      (λ p ok. record { in_rack = tt; in_range = ok; spelled = refl }) verb ws e left none)
      (λ no6 e6.
      bare_sound verb ws e left none e6))))))

  -- a pick is a number, or 0 where no word is left
  pub pick_sound :
      (ws : List (List ℕ)) (p : ℕ) (left : List (List ℕ)) → read_pick ws ≡ Some (p, left)
      → left ≡ [] → (p < 2 ^ 64) × ((ws ≡ decimal p ∷ []) ⊎ ((p ≡ 0) × (ws ≡ [])))
  pick_sound [] p left e none =
      let same : ◌≡◌ {A = ℕ × List (List ℕ)} (0, []) (p, left) = same_Some _ _ e in
      let zero_pick : 0 ≡ p = ap (λ q. q.0) same in (omega arith, inr (sym zero_pick, refl))
  pick_sound (w ∷ ws) p left e none =
      let said = number_read.sound (w ∷ ws) p left e in
      (said.1, inl (said.0 ∙ ap (λ t. decimal p ∷ t) none))

  deliver_words :
      (n p : ℕ) (ws end : List (List ℕ)) → ws ≡ decimal n ∷ end
      → (end ≡ decimal p ∷ []) ⊎ ((p ≡ 0) × (end ≡ []))
      → IsWords (event.Deliver n p) (codes "deliver" ∷ ws)
  deliver_words n p ws end e (inl long) =
      inl (ap (λ t. codes "deliver" ∷ t) (e ∙ ap (λ t. decimal n ∷ t) long))
  deliver_words n p ws end e (inr short) =
      inr (short.0, ap (λ t. codes "deliver" ∷ t) (e ∙ ap (λ t. decimal n ∷ t) short.1))

  deliver_sound :
      (verb : List ℕ) (ws : List (List ℕ)) (e : Event) (left : List (List ℕ)) → left ≡ []
      → bytes_eq verb (codes "deliver") ≡ true
      → read_as (λ p. event.Deliver p.0 p.1) (both_by read_number read_pick ws) ≡ Some (e, left)
      → Says rack (verb ∷ ws) e
  deliver_sound verb ws e left none same is =
      let whole = then_some (both_by read_number read_pick ws) _ (e, left) is in
      let one = then_some (read_number ws) _ whole.0 whole.1 in
      let two = then_some (read_pick one.0.1) _ whole.0 one.2 in
      let parts : ((one.0.0, two.0.0), two.0.1) ≡ whole.0 = same_Some _ _ two.2 in
      let made :
      (event.Deliver whole.0.0.0 whole.0.0.1, whole.0.1) ≡ (e, left) = same_Some _ _ whole.2 in
      let is_event :
      event.Deliver one.0.0 two.0.0
      ≡ e = ap (λ q. event.Deliver q.0.0 q.0.1) parts ∙ ap (λ q. q.0) made in
      let end : two.0.1 ≡ [] = ap (λ q. q.1) parts ∙ ap (λ q. q.1) made ∙ none in
      let number = number_read.sound ws one.0.0 one.0.1 one.1 in
      let pick = pick_sound one.0.1 two.0.0 two.0.1 two.1 end in
      subst (λ (k : Event). Says rack (verb ∷ ws) k) is_event
      (subst (λ (v : List ℕ). Says rack (v ∷ ws) (event.Deliver one.0.0 two.0.0))
      (sym (from_bytes_eq verb (codes "deliver") same))
      (record {
        in_rack = tt;
        in_range = (number.1, pick.0);
        spelled = deliver_words one.0.0 two.0.0
            ws one.0.1 number.0 pick.1;
      }))

  packet_sound :
      (verb : List ℕ) (ws : List (List ℕ)) (e : Event) (left : List (List ℕ)) → left ≡ []
      → packet_event rack verb ws ≡ Some (e, left) → Says rack (verb ∷ ws) e
  packet_sound verb ws e left none is =
      by_test (bytes_eq verb (codes "deliver")) _ _ (e, left) is
      (deliver_sound verb ws e left none) (λ no1 e1.
      by_test (bytes_eq verb (codes "junk")) _ _ (e, left) e1
      (verb_sound (both_by (read_node rack) (next_by (hex_of 1000))) _ _
      (both_law (read_node rack) _ _ node_read (next_by (hex_of 1000)) _ _ (hex_read 1000))
      (λ p. event.Junk p.0 p.1) (codes "junk") (λ p ok. record
      { in_rack = ok.0; in_range = ok.1; spelled = refl }) verb ws e left none)
      (λ no2 e2.
      control_sound verb ws e left none e2))

  delete_sound :
      (format : Format) → rack.format ≡ format
      → (verb : List ℕ) (ws : List (List ℕ)) (e : Event) (left : List (List ℕ)) → left ≡ []
      → bytes_eq verb (codes "delete") ≡ true → deletes format rack ws ≡ Some (e, left)
      → Says rack (verb ∷ ws) e
  delete_sound One f verb ws e left none same is = absurd (none-some _ is)
  delete_sound Two f verb ws e left none same is =
      verb_sound (both_by (read_client rack) read_key) _ _ client_key_read
      (λ p. event.Delete p.0 p.1) (codes "delete")
      (λ p ok. record { in_rack = (ok.0, f); in_range = ok.1; spelled = refl }) verb ws e left
      none same is

  client_key_value_read :
      ReadLaw (both_by (read_client rack) (both_by read_key (read_value rack)))
      (λ p. decimal p.0 ∷ key_word p.1.0 ∷ value_word p.1.1 ∷ [])
      (λ p. (p.0 < rack.clients)
      × (IsKeyOfBytes p.1.0 × ((length p.1.1 ≤ value_most rack.format) × AreBytes p.1.1)))
  client_key_value_read =
      both_law (read_client rack) _ _ client_read (both_by read_key (read_value rack)) _ _
      (both_law read_key _ _ key_read (read_value rack) _ _ value_read)

  event_by_sound :
      (verb : List ℕ) (ws : List (List ℕ)) (e : Event) (left : List (List ℕ)) → left ≡ []
      → event_by rack verb ws ≡ Some (e, left) → Says rack (verb ∷ ws) e
  event_by_sound verb ws e left none is =
      by_test (bytes_eq verb (codes "read")) _ _ (e, left) is
      (verb_sound (both_by (read_client rack) read_key) _ _ client_key_read
      (λ p. event.Read p.0 p.1) (codes "read") (λ p ok. record
      { in_rack = ok.0; in_range = ok.1; spelled = refl }) verb ws e left none)
      (λ no1 e1.
      by_test (bytes_eq verb (codes "write")) _ _ (e, left) e1
      (verb_sound (both_by (read_client rack) (both_by read_key (read_value rack))) _ _
      client_key_value_read (λ p. event.Write p.0 p.1.0 p.1.1) (codes "write")
      (λ p ok. record {
        in_rack = (ok.0, ok.1.1.0);
        in_range = (ok.1.0, ok.1.1.1);
        spelled =
            refl;
      }) verb ws e left none)
      (λ no2 e2.
      by_test (bytes_eq verb (codes "delete")) _ _ (e, left) e2
      (delete_sound rack.format refl verb ws e left none) (λ no3 e3.
      by_test (bytes_eq verb (codes "resend")) _ _ (e, left) e3
      (verb_sound (read_client rack) _ _ client_read event.Resend (codes "resend")
      (λ c ok. record { in_rack = ok; in_range = tt; spelled = refl }) verb ws e left none)
      (λ no4 e4.
      by_test (bytes_eq verb (codes "giveup")) _ _ (e, left) e4
      (verb_sound (read_client rack) _ _ client_read event.GiveUp (codes "giveup")
      (λ c ok. record { in_rack = ok; in_range = tt; spelled = refl }) verb ws e left none)
      (λ no5 e5.
      packet_sound verb ws e left none e5)))))

  -- ---- what is spelled is read

  says_complete :
      (e : Event) (ws : List (List ℕ)) → EventInRack rack e → EventInRange e → IsWords e ws
      → event_in rack ws ≡ Some e
  says_complete (event.Read client key) ws ok range e =
      ap (event_in rack) e ∙ ap whole_of
      (as_complete (both_by (read_client rack) read_key) _ _ client_key_read
      (λ p. event.Read p.0 p.1) (client, key) (ok, range))
  says_complete (event.Write client key value) ws ok range e =
      ap (event_in rack) e ∙ ap whole_of
      (as_complete (both_by (read_client rack) (both_by read_key (read_value rack))) _ _
      client_key_value_read (λ p. event.Write p.0 p.1.0 p.1.1) (client, (key, value))
      (ok.0, (range.0, (ok.1, range.1))))
  says_complete (event.Delete client key) ws ok range e =
      ap (event_in rack) e ∙ ap
      (λ f. whole_of (deletes f rack (decimal client ∷ key_word key ∷ []))) ok.1 ∙ ap whole_of
      (as_complete (both_by (read_client rack) read_key) _ _ client_key_read
      (λ p. event.Delete p.0 p.1) (client, key) (ok.0, range))
  says_complete (event.Resend client) ws ok range e =
      ap (event_in rack) e ∙ ap whole_of
      (as_complete (read_client rack) _ _ client_read event.Resend client ok)
  says_complete (event.GiveUp client) ws ok range e =
      ap (event_in rack) e ∙ ap whole_of
      (as_complete (read_client rack) _ _ client_read event.GiveUp client ok)
  says_complete (event.Deliver number pick) ws ok range (inl e) =
      ap (event_in rack) e
      ∙ ap (λ r. whole_of (read_as (λ p. event.Deliver p.0 p.1) r))
      (then_at (read_number (decimal number ∷ decimal pick ∷ []))
      (λ x left. then_by (read_pick left) (λ y end. Some ((x, y), end))) number
      (decimal pick
      ∷ []) (number_read.complete number (decimal pick ∷ []) range.0)
      ∙ then_at (read_number (decimal pick ∷ [])) (λ y end. Some ((number, y), end)) pick []
      (number_read.complete pick [] range.1))
  says_complete (event.Deliver number pick) ws ok range (inr e) =
      ap (event_in rack) e.1
      ∙ ap (λ r. whole_of (read_as (λ p. event.Deliver p.0 p.1) r))
      (then_at (read_number (decimal number ∷ [])) (λ x left. then_by (read_pick left)
      (λ y end. Some ((x, y), end))) number [] (number_read.complete number [] range.0))
      ∙ ap (λ p. Some (event.Deliver number p)) (sym e.0)
  says_complete (event.Junk to bytes) ws ok range e =
      ap (event_in rack) e ∙ ap whole_of
      (as_complete (both_by (read_node rack) (next_by (hex_of 1000))) _ _
      (both_law (read_node rack) _ _ node_read (next_by (hex_of 1000)) _ _ (hex_read 1000))
      (λ p. event.Junk p.0 p.1) (to, bytes) (ok, range))
  says_complete (event.Promote key) ws ok range e =
      ap (event_in rack) e ∙ ap whole_of
      (as_complete read_key _ _ key_read event.Promote key range)
  says_complete (event.Demote key) ws ok range e =
      ap (event_in rack) e ∙ ap whole_of (as_complete read_key _ _ key_read event.Demote key range)
  says_complete (event.Copy key target) ws ok range e =
      ap (event_in rack) e ∙ ap whole_of
      (as_complete (both_by read_key read_target) _ _ (both_law read_key _ _ key_read
      read_target _ _ target_read) (λ p. event.Copy p.0 p.1) (key, target) range)
  says_complete (event.Fence key) ws ok range e =
      ap (event_in rack) e ∙ ap whole_of (as_complete read_key _ _ key_read event.Fence key range)
  says_complete (event.Handover target) ws ok range e =
      ap (event_in rack) e ∙ ap whole_of
      (as_complete read_target _ _ target_read event.Handover target range)
  says_complete event.Clear ws ok range e = ap (event_in rack) e
  says_complete event.Retry ws ok range e = ap (event_in rack) e
  says_complete event.Survey ws ok range e = ap (event_in rack) e
  says_complete (event.Plan promote_at demote_below) ws ok range e =
      ap (event_in rack) e ∙ ap whole_of
      (as_complete (both_by read_number read_number) _ _ (both_law read_number _ _ number_read
      read_number _ _ number_read) (λ p. event.Plan p.0 p.1) (promote_at, demote_below) range)

  pub event_in_sound :
      (ws : List (List ℕ)) (e : Event) → event_in rack ws ≡ Some e
      → Says rack ws e
  event_in_sound [] e is = absurd (none-some e is)
  event_in_sound (verb ∷ ws) e is =
      let got = whole_some (event_by rack verb ws) e is in
      event_by_sound verb ws e got.0 got.1 got.2

  -- ---- a line and its words

  small_client : (client : ℕ) → client < rack.clients → client < 2 ^ 64
  small_client client ok = omega (arith, few_clients)

  -- the words of a line that names a node
  pub node_spaceless :
      (v : List ℕ) (n : Node) (w : List ℕ) → is_spaceless v ≡ true → NodeInRack rack n
      → is_spaceless w ≡ true → AreSpaceless (v ∷ (node_ws n ++ w ∷ []))
  node_spaceless v (node.Client id) w first ok e =
      (first, (refl, (decimal_spaceless id (small_client id ok), (e, tt))))
  node_spaceless v (node.Server id) w first ok e =
      (first, (refl, (decimal_spaceless id (omega (arith, few_servers, ok)), (e, tt))))
  node_spaceless v (node.Switch id) w first ok e =
      (first, (refl, (decimal_spaceless id (omega (arith, few_switches, ok)), (e, tt))))
  node_spaceless v node.Controller w first ok e = (first, (refl, (e, tt)))

  pub last_node_spaceless :
      (v : List ℕ) (n : Node) → is_spaceless v ≡ true → NodeInRack rack n
      → AreSpaceless (v ∷ node_ws n)
  last_node_spaceless v (node.Client id) first ok =
      (first, (refl, (decimal_spaceless id (small_client id ok), tt)))
  last_node_spaceless v (node.Server id) first ok =
      (first, (refl, (decimal_spaceless id (omega (arith, few_servers, ok)), tt)))
  last_node_spaceless v (node.Switch id) first ok =
      (first, (refl, (decimal_spaceless id (omega (arith, few_switches, ok)), tt)))
  last_node_spaceless v node.Controller first ok = (first, (refl, tt))

  junk_words :
      (n : Node) (w : List ℕ)
      → codes "junk " ++ node_words n ++ codes " " ++ w
      ≡ join_with_byte 32 (codes "junk" ∷ (node_ws n ++ w ∷ []))
  junk_words (node.Client id) w = four_words (codes "junk") (codes "client") (decimal id) w
  junk_words (node.Server id) w = four_words (codes "junk") (codes "server") (decimal id) w
  junk_words (node.Switch id) w = four_words (codes "junk") (codes "switch") (decimal id) w
  junk_words node.Controller w = three_words (codes "junk") (codes "controller") w

  delivered :
      (number pick : ℕ) (t : Bool) (line : List ℕ) → (pick == 0) ≡ t → number < 2 ^ 64
      → pick < 2 ^ 64
      → Contains
      (cond t ((codes "deliver " ++ decimal number) ∷ (codes "deliver " ++ decimal number ++
      codes " " ++ decimal pick) ∷ []) ((codes "deliver " ++ decimal number ++ codes " " ++
      decimal pick) ∷ []))
      line
      → IsWords (event.Deliver number pick) (words_of line)
  delivered number pick true line t small small' (zero, less, e) =
      inr (
        is_zero pick t,
        cut (codes "deliver") (decimal number
            ∷ []) line (refl, (decimal_spaceless number small, tt)) (sym e ∙ two_words
            (codes "deliver") (decimal number)),
      )
  delivered number pick true line t small small' (suc zero, less, e) =
      inl
      (cut (codes "deliver") (decimal number ∷ decimal pick
      ∷ []) line (
        refl,
        (decimal_spaceless number small, (decimal_spaceless pick small', tt)),
      ) (sym e ∙
      three_words (codes "deliver") (decimal number) (decimal pick)))
  delivered number pick true line t small small' (suc (suc k), less, e) = absurd (omega arith)
  delivered number pick false line t small small' has =
      inl
      (cut (codes "deliver") (decimal number ∷ decimal pick
      ∷ []) line (
        refl,
        (decimal_spaceless number small, (decimal_spaceless pick small', tt)),
      ) (only_one
      _ _ has ∙ three_words (codes "deliver") (decimal number) (decimal pick)))

  undelivered : (number pick : ℕ) (t : Bool) (line : List ℕ) → (pick == 0) ≡ t
      → IsWords (event.Deliver number pick) (words_of line)
      → Contains
      (cond t ((codes "deliver " ++ decimal number) ∷ (codes "deliver " ++ decimal number ++
      codes " " ++ decimal pick) ∷ []) ((codes "deliver " ++ decimal number ++ codes " " ++
      decimal pick) ∷ []))
      line
  undelivered number pick true line t (inl long) = (
    1,
    omega arith,
    sym
        (joined _ line long ∙ sym (three_words (codes "deliver") (decimal number)
        (decimal pick))),
  )
  undelivered number pick true line t (inr short) = (
    0,
    omega arith,
    sym
        (joined _ line short.1 ∙ sym (two_words (codes "deliver") (decimal number))),
  )
  undelivered number pick false line t (inl long) =
      one_holds _ _
      (joined _ line long ∙ sym (three_words (codes "deliver") (decimal number) (decimal pick)))
  undelivered number pick false line t (inr short) = absurd (not_zero pick t short.0)

  line_words :
      (e : Event) (line : List ℕ) → EventInRack rack e → EventInRange e
      → Contains (event_lines e) line → IsWords e (words_of line)
  line_words (event.Resend client) line ok range has =
      cut (codes "resend") (decimal client ∷ []) line
      (refl, (decimal_spaceless client (small_client client ok), tt))
      (only_one _ _ has ∙ two_words (codes "resend") (decimal client))
  line_words (event.GiveUp client) line ok range has =
      cut (codes "giveup") (decimal client ∷ []) line
      (refl, (decimal_spaceless client (small_client client ok), tt))
      (only_one _ _ has ∙ two_words (codes "giveup") (decimal client))
  line_words (event.Promote key) line ok range has =
      cut (codes "promote") (key_word key ∷ []) line (refl, (key_spaceless key, tt))
      (only_one _ _ has ∙ two_words (codes "promote") (key_word key))
  line_words (event.Demote key) line ok range has =
      cut (codes "demote") (key_word key ∷ []) line (refl, (key_spaceless key, tt))
      (only_one _ _ has ∙ two_words (codes "demote") (key_word key))
  line_words (event.Fence key) line ok range has =
      cut (codes "fence") (key_word key ∷ []) line (refl, (key_spaceless key, tt))
      (only_one _ _ has ∙ two_words (codes "fence") (key_word key))
  line_words (event.Handover target) line ok range has =
      cut (codes "handover") (decimal target ∷ []) line
      (refl, (decimal_spaceless target (omega (arith, range)), tt))
      (only_one _ _ has ∙ two_words (codes "handover") (decimal target))
  line_words (event.Read client key) line ok range has =
      cut (codes "read") (decimal client ∷ key_word key ∷ []) line
      (refl, (decimal_spaceless client (small_client client ok), (key_spaceless key, tt)))
      (only_one _ _ has ∙ three_words (codes "read") (decimal client) (key_word key))
  line_words (event.Delete client key) line ok range has =
      cut (codes "delete") (decimal client ∷ key_word key ∷ []) line
      (refl, (decimal_spaceless client (small_client client ok.0), (key_spaceless key, tt)))
      (only_one _ _ has ∙ three_words (codes "delete") (decimal client) (key_word key))
  line_words (event.Copy key target) line ok range has =
      cut (codes "copy") (key_word key ∷ decimal target ∷ []) line
      (refl, (key_spaceless key, (decimal_spaceless target (omega (arith, range.1)), tt)))
      (only_one _ _ has ∙ three_words (codes "copy") (key_word key) (decimal target))
  line_words (event.Plan promote_at demote_below) line ok range has =
      cut (codes "plan") (decimal promote_at ∷ decimal demote_below ∷ []) line (
        refl,
        (
          decimal_spaceless promote_at range.0,
          (
            decimal_spaceless demote_below range.1,
            tt,
          ),
        ),
      )
      (only_one _ _ has ∙ three_words (codes "plan") (decimal promote_at)
      (decimal demote_below))
  line_words event.Clear line ok range has =
      cut (codes "clear") [] line (refl, tt) (only_one _ _ has)
  line_words event.Retry line ok range has =
      cut (codes "retry") [] line (refl, tt) (only_one _ _ has)
  line_words event.Survey line ok range has =
      cut (codes "survey") [] line (refl, tt) (only_one _ _ has)
  line_words (event.Write client key value) line ok range has =
      cut (codes "write") (decimal client ∷ key_word key ∷ value_word value ∷ []) line (
        refl,
        (
          decimal_spaceless client (small_client client ok.0),
          (key_spaceless key, (value_spaceless value, tt)),
        ),
      )
      (only_one _ _ has ∙ four_words (codes "write") (decimal client) (key_word key)
      (value_word value))
  line_words (event.Deliver number pick) line ok range has =
      delivered number pick (pick == 0) line refl range.0 range.1 has
  line_words (event.Junk to bytes) line ok range has =
      cut (codes "junk") (node_ws to ++ hex_word bytes ∷ []) line
      (node_spaceless (codes "junk") to (hex_word bytes) refl ok (hex_spaceless bytes))
      (only_one _ _ has ∙ junk_words to (hex_word bytes))

  words_line :
      (e : Event) (line : List ℕ) → IsWords e (words_of line) → Contains (event_lines e) line
  words_line (event.Resend client) line e =
      one_holds _ _ (joined _ line e ∙ sym (two_words (codes "resend") (decimal client)))
  words_line (event.GiveUp client) line e =
      one_holds _ _ (joined _ line e ∙ sym (two_words (codes "giveup") (decimal client)))
  words_line (event.Promote key) line e =
      one_holds _ _ (joined _ line e ∙ sym (two_words (codes "promote") (key_word key)))
  words_line (event.Demote key) line e =
      one_holds _ _ (joined _ line e ∙ sym (two_words (codes "demote") (key_word key)))
  words_line (event.Fence key) line e =
      one_holds _ _ (joined _ line e ∙ sym (two_words (codes "fence") (key_word key)))
  words_line (event.Handover target) line e =
      one_holds _ _ (joined _ line e ∙ sym (two_words (codes "handover") (decimal target)))
  words_line (event.Read client key) line e =
      one_holds _ _
      (joined _ line e ∙ sym (three_words (codes "read") (decimal client) (key_word key)))
  words_line (event.Delete client key) line e =
      one_holds _ _
      (joined _ line e ∙ sym (three_words (codes "delete") (decimal client) (key_word key)))
  words_line (event.Copy key target) line e =
      one_holds _ _
      (joined _ line e ∙ sym (three_words (codes "copy") (key_word key) (decimal target)))
  words_line (event.Plan promote_at demote_below) line e =
      one_holds _ _
      (joined _ line e ∙ sym (three_words (codes "plan") (decimal promote_at)
      (decimal demote_below)))
  words_line event.Clear line e = one_holds _ _ (joined _ line e)
  words_line event.Retry line e = one_holds _ _ (joined _ line e)
  words_line event.Survey line e = one_holds _ _ (joined _ line e)
  words_line (event.Write client key value) line e =
      one_holds _ _
      (joined _ line e ∙ sym (four_words (codes "write") (decimal client) (key_word key)
      (value_word value)))
  words_line (event.Deliver number pick) line e = undelivered number pick (pick == 0) line refl e
  words_line (event.Junk to bytes) line e =
      one_holds _ _ (joined _ line e ∙ sym (junk_words to (hex_word bytes)))

  -- ---- both ways

  pub event_complete :
      (line : List ℕ) (e : Event) → IsEventLine rack line e
      → event_in rack (words_of line) ≡ Some e
  event_complete line e is =
      says_complete e (words_of line) is.in_rack is.in_range
      (line_words e line is.in_rack is.in_range is.spelled)

  pub event_sound :
      (line : List ℕ) (e : Event) → event_in rack (words_of line) ≡ Some e
      → IsEventLine rack line e
  event_sound line e is =
      let says = event_in_sound (words_of line) e is in
      record {
        in_rack = says.in_rack;
        in_range = says.in_range;
        spelled = words_line e line says.spelled;
      }
