-- What a rack over a wire makes of what it takes, as its meaning has it.
use Rattle.std.proofs.Common.{◌≡◌, ◌<◌, ◌≤◌, ◌+◌, ◌||◌, ℕ, zero, suc, Bool, true, false, Option, Some, None}
use Rattle.std.proofs.Common.{List, [], ◌∷◌, ◌++◌, length, map, drop, codes, decimal, refl, sym, ap}
use Rattle.std.proofs.Common.{◌∙◌, subst, arith}
use Rattle.std.specs.Prelude.{if◌then◌else◌, IfSome, option_map, nat_le, nat_lt, unwrap_or}
use Rattle.std.proofs.lemmas.Bool.Decides.{nat_tests}
use Rattle.std.proofs.Common.{take, slice_get}
use Rattle.std.proofs.Math.Seq.{drop-cons}
use Rattle.std.proofs.lemmas.List.{drop-map, take-map, length-map}
use Rattle.std.proofs.lemmas.Option.{get_or_from_slice_get, slice_get_within, slice_get-map}
use Rattle.peg_name.specs.Name.{Rack}
use Rattle.peg_name.specs.declared.Node.{Node}
use Rattle.peg_name.specs.declared.Node.TheVariants as node
use Rattle.peg_event.specs.declared.Event.{Event}
use Rattle.peg_event.specs.declared.Event.TheVariants as event
use Rattle.peg_event.specs.declared.Line.{Line}
use Rattle.peg_model.specs.Packet.{Packet, spelling}
use Rattle.peg_model.specs.Datagrams.{spelled}
use Rattle.peg_event.specs.declared.history.Op.{Op}
use Rattle.peg_model.specs.World.{history, step}
use Rattle.peg_model.specs.Order.{orders}
use Rattle.peg_model.specs.Schedule.{fed, IsRackLine}
use Rattle.peg_model.specs.Trace.{line_text, tail_text}
use Rattle.peg_index.specs.Chain.{Chains, IsIndexOf}
use Rattle.peg_world.specs.Running as running
use Rattle.peg_meaning.specs.Session as session
use Rattle.peg_meaning.specs.Session.{Letter, letter_to, posted, Answer, Goes, IsOnly, IsLineOf}
use Rattle.peg_meaning.specs.Session.{IsTurn, IsTurnOf, room, port_of}
use Rattle.peg_meaning.specs.declared.Want.TheVariants as want
use Rattle.peg_meaning.specs.RackWord as word
use Rattle.peg_meaning.specs.RackWord.{RackWord, RackEntry, Racked, Taking, slot_of, steps, stepped}
use Rattle.peg_meaning.specs.RackWord.{is_past_limits, sent_since, takes_packet, running_want}
use Rattle.peg_meaning.specs.RackWord.{IsRackEntryLine, serves_rack, nodes_of}
use Rattle.peg_session.specs.Took.{Took, TookLine}
use Rattle.peg_session.specs.declared.Stepped.{Stepped}
use Rattle.peg_session.specs.declared.Stepped.TheVariants as stepped_as
use Rattle.peg_text.specs.declared.taking.RackEntry as said
use Rattle.peg_text.specs.Takes.{entry_in}
use Rattle.peg_rack.specs.declared.takes.Takes.TheVariants as takes
use Rattle.peg_rack.specs.Racking.{word_at, takes_of, Comes}

-- a step that goes on, from its parts
abbrev pub goes : RackWord → List ℕ → List Letter → Answer RackWord
goes s text letters =
    Goes (record { state = s; text = text; binds = []; letters = letters })

-- ---- the limits

past_is :
    (w : running.Running) (place : ℕ) (e : Event) → w.is_over ≡ false
    → is_past_limits (w.events + 1) (step w.world place e).0 ≡ running.is_past w place e
past_is w place e on =
    let p = length (step w.world place e).0.packets in
    ap (λ b. b || nat_lt 200000 p) (one w.events)
    ∙ ap (λ b. b || (nat_le 1000000 w.events || nat_lt 200000 p)) (sym on)
  where
    one : (n : ℕ) → nat_lt 1000000 (n + 1) ≡ nat_le 1000000 n
    one n = grind (arith, nat_tests)

module _ (o : Bool) (base place foreign lines : ℕ) (takes : List Taking) where
  abbrev racked : running.Running → ℕ → ℕ → Racked
  racked w at lost =
      record {
        base = base;
        world = w.world;
        place = at;
        events = w.events;
        foreign = lost;
        lines = lines;
        takes = takes;
      }

  -- ---- an event

  pub step_on :
      (w w' : running.Running) (config : Rack) (actor : Node) (e : Event) (line : Line) (from : ℕ)
      → o ≡ false → w.is_over ≡ false → w.world.rack ≡ config
      → from ≡ length w.world.packets → w' ≡ running.stepped w (place + 1) e
      → running.is_past w (place + 1) e ≡ false → line ≡ w'.line
      → steps (racked w place foreign) actor e
      ≡ goes (word_at o (racked w' (place + 1) foreign)) (fed (line_text (place + 1) line))
      (map (letter_to (slot_of config actor) base)
      (drop from (spelled config.format w'.world.packets)))
  step_on w w' config actor e line from off on is_rack is_from did few says =
      let q = running.stepped w (place + 1) e in
      let P : running.Running → RackWord = λ d. word.Running (racked d (place + 1) foreign) in
      let n = length w.world.packets in
      let h : Node × Packet → Node × List ℕ =
      λ item. (item.0, spelling config.format item.1) in
      ap (λ b. if b then session.Past else Goes (stepped (racked w place foreign) actor
      (step w.world (place + 1) e))) (past_is w (place + 1) e on ∙ few)
      ∙ ap (λ (d : running.Running). goes (P d) (fed (line_text (place + 1) d.line))
      (posted (slot_of w.world.rack actor) base w.world.rack.format (drop n d.world.packets)))
      (sym did)
      ∙ ap (λ (l : Line). goes (P w') (fed (line_text (place + 1) l))
      (posted (slot_of w.world.rack actor) base w.world.rack.format (drop n w'.world.packets)))
      (sym says)
      ∙ ap (λ (rack : Rack). goes (P w') (fed (line_text (place + 1) line))
      (posted (slot_of rack actor) base rack.format (drop n w'.world.packets))) is_rack
      ∙ ap (λ k. goes (P w') (fed (line_text (place + 1) line))
      (posted (slot_of config actor) base config.format (drop k w'.world.packets))) (sym is_from)
      ∙ ap (λ items. goes (P w') (fed (line_text (place + 1) line))
      (map (letter_to (slot_of config actor) base) items))
      (sym (drop-map h from w'.world.packets))
      ∙ ap (λ b. goes (word_at b (racked w' (place + 1) foreign))
      (fed (line_text (place + 1) line))
      (map (letter_to (slot_of config actor) base)
      (drop from (spelled config.format w'.world.packets)))) (sym off)

  pub past_on :
      (w : running.Running) (actor : Node) (e : Event) → w.is_over ≡ false
      → running.is_past w (place + 1) e ≡ true
      → steps (racked w place foreign) actor e ≡ session.Past
  past_on w actor e on past =
      ap (λ b. if b then session.Past else Goes (stepped (racked w place foreign) actor
      (step w.world (place + 1) e))) (past_is w (place + 1) e on ∙ past)

-- ---- what is wanted

pub none_left :
    (takes : List Taking) (rack : Rack) (n : ℕ) → IsLineOf (running_want takes rack) n
    → takes ≡ []
none_left [] rack n is = refl
none_left (t ∷ takes) rack n is = absurd is

pub some_left :
    (takes : List Taking) (rack : Rack) (n : ℕ) → IsTurnOf (running_want takes rack) n
    → 1 ≤ length takes
some_left [] rack n is = absurd is
some_left (t ∷ takes) rack n is = omega arith

pub some_left_quiet :
    (takes : List Taking) (rack : Rack) → IsTurn (running_want takes rack) → 1 ≤ length takes
some_left_quiet [] rack is = absurd is
some_left_quiet (t ∷ takes) rack is = omega arith

-- ---- a step and its answer

module _ (s : RackWord) (x : session.Input RackEntry) (answer : Answer RackWord)
    (s' : RackWord) (letters : List Letter) (page page' : List ℕ)
    (held held' : Option (List ℕ)) where
  pub took_as :
      (st : Stepped) → serves_rack.on s x ≡ answer
      → Comes answer st s' letters page page' held held'
      → Took serves_rack s x st s' [] letters page page' held held'
  took_as stepped_as.Goes is came =
      record { text = came.text; is = is ∙ came.is; over = came.over }
  took_as stepped_as.Refused is came = absurd came
  took_as stepped_as.Past is came = (is ∙ came.0, came.1)
  took_as stepped_as.OutOfMemory is came = came
  took_as stepped_as.Unwritten is came =
      record { came = came.came; is = is ∙ came.is; over = came.over }

pub took_line :
    (s : RackWord) (line : List ℕ) (e : RackEntry) (s' : RackWord) (letters : List Letter)
    (page page' : List ℕ) (held held' : Option (List ℕ)) (st : Stepped)
    → IsOnly serves_rack s line e
    → Comes (serves_rack.on s (session.Entry e)) st s' letters page page' held held'
    → TookLine serves_rack s line st s' [] letters page page' held held'
took_line s line e s' letters page page' held held' stepped_as.Goes only came = (
  e,
  only,
  took_as s (session.Entry e) _ s' letters page page' held held' stepped_as.Goes refl came,
)
took_line s line e s' letters page page' held held' stepped_as.Refused only came = absurd came
took_line s line e s' letters page page' held held' stepped_as.Past only came = (
  e,
  only,
  took_as s (session.Entry e) _ s' letters page page' held held' stepped_as.Past refl came,
)
took_line s line e s' letters page page' held held' stepped_as.OutOfMemory only came = came
took_line s line e s' letters page page' held held' stepped_as.Unwritten only came = (
  e,
  only,
  took_as s (session.Entry e) _ s' letters page page' held held' stepped_as.Unwritten refl came,
)

-- ---- what a line says

pub only_entry :
    (r : Racked) (config : Rack) (line : List ℕ) (res : Option said.RackEntry)
    (e : said.RackEntry) → r.world.rack ≡ config → res ≡ Some e
    → IfSome res (λ k. IsRackEntryLine config line (entry_in k))
    → ((k : RackEntry) → IsRackEntryLine config line k → option_map entry_in res ≡ Some k)
    → IsOnly serves_rack (word.Running r) line (entry_in e)
only_entry r config line res e is_rack is sound complete =
    record {
      is =
          subst (λ (rack : Rack). IsRackEntryLine rack line (entry_in e)) (sym is_rack)
          (subst (λ (o : Option said.RackEntry). IfSome o (λ k. IsRackEntryLine config line
          (entry_in k))) is sound);
      only = λ k reads.
          let there : IsRackEntryLine config line k =
          subst (λ (rack : Rack). IsRackEntryLine rack line k) is_rack reads in
          let both : Some (entry_in e) ≡ Some k =
          sym (ap (option_map entry_in) is) ∙ complete k there in
          sym (cc both);
    }

pub no_entry :
    (r : Racked) (config : Rack) (line : List ℕ) (res : Option said.RackEntry)
    → r.world.rack ≡ config → res ≡ None
    → ((k : RackEntry) → IsRackEntryLine config line k → option_map entry_in res ≡ Some k)
    → (k : RackEntry) → serves_rack.Reads (word.Running r) line k → ⊥
no_entry r config line res is_rack is complete k reads =
    let there : IsRackEntryLine config line k =
    subst (λ (rack : Rack). IsRackEntryLine rack line k) is_rack reads in
    let both : None ≡ Some k = sym (ap (option_map entry_in) is) ∙ complete k there in
    cc both

-- ---- the packets that are known

pub still_index :
    ((packets now : List (Node × List ℕ)) (c : Chains) → take (length packets) now ≡ packets
    → IsIndexOf packets c → IsIndexOf now c)
    → (config rack : Rack) (ps now : List (Node × Packet)) (items : List (Node × List ℕ))
    (c : Chains) → rack ≡ config → take (length ps) now ≡ ps → items ≡ spelled rack.format now
    → IsIndexOf (spelled config.format ps) c → IsIndexOf items c
still_index law config rack ps now items c is_rack grows is known =
    let h : Node × Packet → Node × List ℕ = λ item. (item.0, spelling config.format item.1) in
    let all : spelled config.format now ≡ items =
    sym (is ∙ ap (λ (r : Rack). spelled r.format now) is_rack) in
    subst (λ (xs : List (Node × List ℕ)). IsIndexOf xs c) all
    (law (spelled config.format ps) (spelled config.format now) c
    (ap (λ n. take n (map h now)) (length-map ps h) ∙ take-map h (length ps) now
    ∙ ap (map h) grows)
    known)

-- ---- a round

pub round_next :
    (rack : Rack) (next : ℕ) (n : Node) → slice_get (nodes_of rack) next ≡ Some n
    → takes_of rack (takes.Round next) ≡ (n, None) ∷ takes_of rack (takes.Round (next + 1))
round_next rack next n is =
    ap (map (λ k. (k, None)))
    (drop-cons (nodes_of rack) next n (slice_get_within (nodes_of rack) next n is)
    ∙ ap (λ k. k ∷ drop (suc next) (nodes_of rack))
    (get_or_from_slice_get (nodes_of rack) next n n is)
    ∙ ap (λ j. n ∷ drop j (nodes_of rack)) (one_more next))
  where
    one_more : (k : ℕ) → suc k ≡ k + 1
    one_more k = omega arith

-- ---- the end

pub end_on :
    (r : Racked) (ops : List Op) (key_orders : List (List ℕ × List ℕ)) → ops ≡ history r.world
    → key_orders ≡ orders r.world
    → word.reads_entry word.End r
    ≡ goes (word.Finished r)
    (fed (decimal (r.place + 1) ++ codes " end foreign " ++ decimal r.foreign)
    ++ tail_text ops key_orders) []
end_on r ops key_orders is_ops is_orders =
    let front = fed (decimal (r.place + 1) ++ codes " end foreign " ++ decimal r.foreign) in
    ap (λ (os : List Op). goes (word.Finished r) (front ++ tail_text os (orders r.world)) [])
    (sym is_ops)
    ∙ ap (λ (ks : List (List ℕ × List ℕ)). goes (word.Finished r) (front ++ tail_text ops ks) [])
    (sym is_orders)

-- ---- what is wanted where something is left to take

pub wants_turn :
    (o : Bool) (r : Racked) (config : Rack) (n : Node) (pick : Option ℕ) (rest : List Taking)
    (slot : ℕ) → o ≡ false → r.world.rack ≡ config → r.takes ≡ (n, pick) ∷ rest
    → slot ≡ slot_of config n
    → want.Turn slot (room config.format) ≡ word.rack_want (word_at o r)
wants_turn o r config n pick rest slot off is_rack is is_slot =
    sym
    (ap (λ b. word.rack_want (word_at b r)) off
    ∙ ap (λ (ts : List Taking). running_want ts r.world.rack) is
    ∙ ap (λ (rack : Rack). want.Turn (slot_of rack n) (room rack.format)) is_rack
    ∙ ap (λ k. want.Turn k (room config.format)) (sym is_slot))

-- ---- the rack line

module _ (base : ℕ) where
  abbrev begun_with : running.Running → Racked
  begun_with w =
      record {
        base = base;
        world = w.world;
        place = 1;
        events = w.events;
        foreign = 0;
        lines = 0;
        takes = [];
      }

  abbrev named_with : Rack → running.Running → Answer RackWord
  named_with config w =
      Goes (record {
        state = word.Running (begun_with w);
        text = fed (codes "1 rack");
        binds = map (port_of base) (nodes_of config);
        letters =
            map (letter_to (slot_of config node.Controller) base)
            (drop 0 (spelled config.format w.world.packets));
      })

  pub begin_on :
      (rack config : Rack) (keys ks : List (List ℕ)) (w : running.Running)
      → w ≡ running.started config ks → config ≡ rack → ks ≡ keys
      → word.rack_on (word.Starting base) (session.Entry (word.Named rack keys))
      ≡ named_with config w
  begin_on rack config keys ks w is is_rack is_keys =
      ap (λ (c : Rack). named_with c (running.started c keys)) (sym is_rack)
      ∙ ap (λ (k : List (List ℕ)). named_with config (running.started config k)) (sym is_keys)
      ∙ ap (λ (d : running.Running). named_with config d) (sym is)

  pub only_rack :
      (res : Option (Rack × List (List ℕ))) (line : List ℕ) (rack : Rack) (keys : List (List ℕ))
      → res ≡ Some (rack, keys)
      → ((r : Rack) (k : List (List ℕ)) → IsRackLine line r k → res ≡ Some (r, k))
      → IsRackLine line rack keys
      → IsOnly serves_rack (word.Starting base) line (word.Named rack keys)
  only_rack res line rack keys is complete sound = record { is = sound; only = only }
    where
      only :
          (other : RackEntry) → serves_rack.Reads (word.Starting base) line other
          → other ≡ word.Named rack keys
      only (word.Named r k) here =
          let same : Some (r, k) ≡ Some (rack, keys) = sym (complete r k here) ∙ is in
          let pair : (r, k) ≡ (rack, keys) = cc same in
          ap (λ (d : Rack × List (List ℕ)). word.Named d.0 d.1) pair
      only (word.Happens e) here = absurd here
      only (word.Takes n pick) here = absurd here
      only word.Round here = absurd here
      only word.End here = absurd here

-- ---- what was sent

get_drop :
    {A : Type 0} (xs : List A) (n i k : ℕ) → k ≡ n + i
    → slice_get (drop n xs) i ≡ slice_get xs k
get_drop xs zero i k is = ap (slice_get xs) (omega (arith, is))
get_drop [] (suc n) i k is = refl
get_drop (x ∷ xs) (suc n) i zero is = absurd (omega (arith, is))
get_drop (x ∷ xs) (suc n) i (suc k) is = get_drop xs n i k (omega (arith, is))

pub letter_is :
    (config rack : Rack) (ps : List (Node × Packet)) (items : List (Node × List ℕ))
    (base slot port from i : ℕ) (actor to : Node) (bytes : List ℕ)
    → rack ≡ config → items ≡ spelled rack.format ps
    → Some (to, bytes) ≡ slice_get items (from + i) → slot ≡ slot_of config actor
    → port ≡ port_of base to
    → slice_get (map (letter_to (slot_of config actor) base)
    (drop from (spelled config.format ps))) i
    ≡ Some (record { slot = slot; port = port; bytes = bytes })
letter_is config rack ps items base slot port from i actor to bytes is_rack is at is_slot is_port =
    let f = letter_to (slot_of config actor) base in
    let all : spelled config.format ps ≡ items =
    sym (is ∙ ap (λ (r : Rack). spelled r.format ps) is_rack) in
    ap (λ xs. slice_get (map f (drop from xs)) i) all
    ∙ slice_get-map f (drop from items) i
    ∙ ap (option_map f) (get_drop items from i (from + i) refl ∙ sym at)
    ∙ ap (λ k. Some (record { slot = k; port = port_of base to; bytes = bytes })) (sym is_slot)
    ∙ ap (λ k. Some (record { slot = slot; port = k; bytes = bytes })) (sym is_port)
