-- The function that reads a line of the records of all nodes reads just the lines that spell an
-- entry.
use Rattle.std.proofs.Common.{◌≡◌, ◌≤◌, ◌<◌, ◌^◌, ℕ, Bool, true, false, cond, Option, Some, None}
use Rattle.std.proofs.Common.{List, [], ◌∷◌, ◌++◌, refl, arith, ap, sym, ◌∙◌, subst}
use Rattle.std.specs.Prelude.{decimal, codes, IfSome, option_map, nat_le}
use Rattle.std.specs.Str.{bytes_eq}
use Rattle.std.specs.List.{join_with_byte}
use Rattle.std.proofs.lemmas.Bool.Decides.{nat_tests}
use Rattle.std.proofs.lemmas.List.{append-nil}
use Rattle.std.proofs.lemmas.Option.{none-some}
use Rattle.peg_name.specs.Name.{Rack, InLimits}
use Rattle.peg_name.specs.declared.Node.{Node}
use Rattle.peg_name.specs.declared.Node.TheVariants as node
use Rattle.peg_event.specs.declared.Event.{Event}
use Rattle.peg_model.specs.Text.{hex_word}
use Rattle.peg_model.specs.Schedule.{NodeInRack, AreBytes}
use Rattle.peg_meaning.specs.Records.{AuditEntry, Audited, Named, Happens, Took, Sent, Ends}
use Rattle.peg_meaning.specs.Records.{IsEntryLine, IsDatagram, took_line, sent_line}
use Rattle.peg_text.specs.Reading.{words_of, both_by, whole_of}
use Rattle.peg_text.specs.Events.{read_node, read_number, read_as, event_by, event_in}
use Rattle.peg_text.specs.declared.auditing.AuditEntry as said
use Rattle.peg_text.specs.Takes.{is_of_nodes, node_event}
use Rattle.peg_text.specs.Audits.{entry_in, IsStageOf, read_datagram, took_entry, sent_entry}
use Rattle.peg_text.specs.Audits.{entry_by, entry_from, entry_of}
use Rattle.peg_text.proofs.Readers.{by_test, if_passed, from_bytes_eq, ReadLaw, both_law}
use Rattle.peg_text.proofs.Readers.{as_sound, as_complete}
use Rattle.peg_text.proofs.Spaces.{AreSpaceless, decimal_spaceless, hex_spaceless}
use Rattle.peg_text.proofs.Lines.{three_words, four_words, five_words, cut, joined}
use Rattle.peg_text.proofs.EventLines.{node_ws, number_read, hex_read, node_read, whole_some}
use Rattle.peg_text.proofs.EventLines.{node_spaceless, clients_few, servers_few, event_complete}
use Rattle.peg_text.proofs.TakeLines.{is_of, last_chosen, one_word, happens_sound, happens_read}
use Rattle.peg_text.proofs.TakeLines.{not_verb}

-- ---- the words of a datagram

abbrev took_ws : Node → ℕ → List ℕ → List (List ℕ)
took_ws n pick bytes = node_ws n ++ decimal pick ∷ hex_word bytes ∷ []

abbrev sent_ws : Node → List ℕ → List (List ℕ)
sent_ws n bytes = node_ws n ++ hex_word bytes ∷ []

took_words :
    (n : Node) (pick : ℕ) (bytes : List ℕ)
    → took_line n pick bytes ≡ join_with_byte 32 (codes "took" ∷ took_ws n pick bytes)
took_words (node.Client id) pick bytes =
    five_words (codes "took") (codes "client") (decimal id) (decimal pick) (hex_word bytes)
took_words (node.Server id) pick bytes =
    five_words (codes "took") (codes "server") (decimal id) (decimal pick) (hex_word bytes)
took_words (node.Switch id) pick bytes =
    five_words (codes "took") (codes "switch") (decimal id) (decimal pick) (hex_word bytes)
took_words node.Controller pick bytes =
    four_words (codes "took") (codes "controller") (decimal pick) (hex_word bytes)

sent_words :
    (n : Node) (bytes : List ℕ)
    → sent_line n bytes ≡ join_with_byte 32 (codes "sent" ∷ sent_ws n bytes)
sent_words (node.Client id) bytes =
    four_words (codes "sent") (codes "client") (decimal id) (hex_word bytes)
sent_words (node.Server id) bytes =
    four_words (codes "sent") (codes "server") (decimal id) (hex_word bytes)
sent_words (node.Switch id) bytes =
    four_words (codes "sent") (codes "switch") (decimal id) (hex_word bytes)
sent_words node.Controller bytes =
    three_words (codes "sent") (codes "controller") (hex_word bytes)

-- what is left behind a verb is what was read
verb_words :
    (verb0 verb : List ℕ) (line : List ℕ) (ws all left : List (List ℕ))
    → words_of line ≡ verb ∷ ws → bytes_eq verb verb0 ≡ true → ws ≡ all ++ left → left ≡ []
    → words_of line ≡ verb0 ∷ all
verb_words verb0 verb line ws all left words same is none =
    words ∙ ap (λ v. v ∷ ws) (from_bytes_eq verb verb0 same)
    ∙ ap (λ t. verb0 ∷ t) (is ∙ ap (λ l. all ++ l) none ∙ append-nil all)

module _ (rack : Rack) (limits : InLimits rack) where
  took_read :
      ReadLaw (both_by (read_node rack) (both_by read_number read_datagram))
      (λ p. took_ws p.0 p.1.0 p.1.1)
      (λ p. NodeInRack rack p.0 × ((p.1.0 < 2 ^ 64) × IsDatagram p.1.1))
  took_read =
      both_law (read_node rack) _ _ (node_read rack limits) (both_by read_number read_datagram) _ _
      (both_law read_number _ _ number_read read_datagram _ _ (hex_read 1153))

  sent_read :
      ReadLaw (both_by (read_node rack) read_datagram) (λ p. sent_ws p.0 p.1)
      (λ p. NodeInRack rack p.0 × IsDatagram p.1)
  sent_read =
      both_law (read_node rack) _ _ (node_read rack limits) read_datagram _ _ (hex_read 1153)

  took_spaceless :
      (n : Node) (pick : ℕ) (bytes : List ℕ) → NodeInRack rack n → pick < 2 ^ 64
      → AreSpaceless (codes "took" ∷ took_ws n pick bytes)
  took_spaceless (node.Client id) pick bytes ok small =
      let client : id < 2 ^ 64 = omega (arith, ok, limits.clients.1, clients_few rack.format) in (
        refl,
        (
          refl,
          (
            decimal_spaceless id client,
            (
              decimal_spaceless pick small,
              (hex_spaceless bytes, tt),
            ),
          ),
        ),
      )
  took_spaceless (node.Server id) pick bytes ok small =
      let server : id < 2 ^ 64 = omega (arith, ok, limits.servers.1, servers_few rack.format) in (
        refl,
        (
          refl,
          (
            decimal_spaceless id server,
            (
              decimal_spaceless pick small,
              (hex_spaceless bytes, tt),
            ),
          ),
        ),
      )
  took_spaceless (node.Switch id) pick bytes ok small =
      let switch : id < 2 ^ 64 = omega (arith, ok, limits.switches.1) in (
        refl,
        (
          refl,
          (
            decimal_spaceless id switch,
            (
              decimal_spaceless pick small,
              (hex_spaceless bytes, tt),
            ),
          ),
        ),
      )
  took_spaceless node.Controller pick bytes ok small =
      (refl, (refl, (decimal_spaceless pick small, (hex_spaceless bytes, tt))))

module _ (a : Audited) (limits : InLimits a.world.rack) where
  abbrev rack : Rack
  rack = a.world.rack

  abbrev has_begun : Bool
  has_begun = nat_le 2 a.event_place

  -- ---- what is read is spelled

  took_sound :
      (line verb : List ℕ) (ws : List (List ℕ)) (e : AuditEntry) (left : List (List ℕ))
      → words_of line ≡ verb ∷ ws → left ≡ [] → bytes_eq verb (codes "took") ≡ true
      → took_entry rack ws ≡ Some (e, left) → IsEntryLine a line e
  took_sound line verb ws e left words none same is =
      let got =
      as_sound (both_by (read_node rack) (both_by read_number read_datagram)) _ _
      (took_read rack limits) (λ p. Took p.0 p.1.0 p.1.1) ws e left is in
      let n = got.0.0 in
      let pick = got.0.1.0 in
      let bytes = got.0.1.1 in
      let all =
      verb_words (codes "took") verb line ws (took_ws n pick bytes) left words same got.2 none in
      subst (λ (k : AuditEntry). IsEntryLine a line k) (sym got.1)
      (got.3.0, got.3.1.0, got.3.1.1, joined _ line all ∙ sym (took_words n pick bytes))

  sent_sound :
      (line verb : List ℕ) (ws : List (List ℕ)) (e : AuditEntry) (left : List (List ℕ))
      → words_of line ≡ verb ∷ ws → left ≡ [] → bytes_eq verb (codes "sent") ≡ true
      → cond has_begun (sent_entry rack ws) None ≡ Some (e, left) → IsEntryLine a line e
  sent_sound line verb ws e left words none same is =
      let passed = if_passed has_begun (sent_entry rack ws) (e, left) is in
      let begun : 2 ≤ a.event_place = grind (arith, nat_tests, passed.0) in
      let got =
      as_sound (both_by (read_node rack) read_datagram) _ _ (sent_read rack limits)
      (λ p. Sent p.0 p.1) ws e left passed.1 in
      let n = got.0.0 in
      let bytes = got.0.1 in
      let all =
      verb_words (codes "sent") verb line ws (sent_ws n bytes) left words same got.2 none in
      subst (λ (k : AuditEntry). IsEntryLine a line k) (sym got.1)
      (begun, got.3.0, got.3.1, joined _ line all ∙ sym (sent_words n bytes))

  from_sound :
      (line : List ℕ) (ws : List (List ℕ)) (e : AuditEntry) → words_of line ≡ ws
      → entry_from rack has_begun ws ≡ Some e → IsEntryLine a line e
  from_sound line [] e words is = absurd (none-some e is)
  from_sound line (verb ∷ ws) e words is =
      let got = whole_some (entry_by rack has_begun verb ws) e is in
      by_test (bytes_eq verb (codes "took")) _ _ (e, got.0) got.2
      (λ same at. took_sound line verb ws e got.0 words got.1 same at)
      (λ no1 e1.
      by_test (bytes_eq verb (codes "sent")) _ _ (e, got.0) e1
      (λ same at. sent_sound line verb ws e got.0 words got.1 same at)
      (λ no2 e2.
      by_test (bytes_eq verb (codes "end")) _ _ (e, got.0) e2
      (λ same at.
      let one = one_word (codes "end") Ends line verb ws e got.0 words same got.1 at in
      subst (λ (k : AuditEntry). IsEntryLine a line k) one.1 one.0)
      (λ no3 e3.
      happens_sound rack limits Happens (IsEntryLine a line) line verb ws e got.0 words got.1 e3
      (λ k is. is))))

  -- ---- what is spelled is read

  event_from :
      (ws : List (List ℕ)) (e : Event) → event_in rack ws ≡ Some e → is_of_nodes e ≡ true
      → entry_from rack has_begun ws ≡ Some (Happens e)
  event_from [] e is of = absurd (none-some e is)
  event_from (verb ∷ ws) e is of =
      let got = whole_some (event_by rack verb ws) e is in
      ap whole_of
      (last_chosen (bytes_eq verb (codes "took")) (bytes_eq verb (codes "sent"))
      (bytes_eq verb (codes "end")) _ _ _
      (read_as Happens (node_event (event_by rack verb ws)))
      (not_verb rack limits verb (codes "took") ws (e, got.0) _ refl got.2 refl)
      (not_verb rack limits verb (codes "sent") ws (e, got.0) _ refl got.2 refl)
      (not_verb rack limits verb (codes "end") ws (e, got.0) _ refl got.2 refl)
      ∙ happens_read rack limits Happens verb ws e got.0 of got.2)
      ∙ ap (λ l. whole_of (Some (Happens e, l))) got.1

  entry_complete :
      (line : List ℕ) (e : AuditEntry) → IsEntryLine a line e
      → entry_of rack has_begun line ≡ Some e
  entry_complete line (Named other) is = absurd is
  entry_complete line (Happens e) is =
      event_from (words_of line) e (event_complete rack limits line e is.0) (is_of e is.1)
  entry_complete line (Took n pick bytes) is =
      ap (entry_from rack has_begun)
      (cut (codes "took") (took_ws n pick bytes) line
      (took_spaceless rack limits n pick bytes is.0 is.1) (is.3 ∙ took_words n pick bytes))
      ∙ ap whole_of
      (as_complete (both_by (read_node rack) (both_by read_number read_datagram)) _ _
      (took_read rack limits) (λ p. Took p.0 p.1.0 p.1.1) (n, (pick, bytes))
      (is.0, (is.1, is.2)))
  entry_complete line (Sent n bytes) is =
      let begun : has_begun ≡ true = grind (arith, nat_tests, is.0) in
      ap (entry_from rack has_begun)
      (cut (codes "sent") (sent_ws n bytes) line
      (node_spaceless rack limits (codes "sent") n (hex_word bytes) refl is.1
      (hex_spaceless bytes)) (is.3 ∙ sent_words n bytes))
      ∙ ap (λ b. whole_of (cond b (sent_entry rack (sent_ws n bytes)) None)) begun
      ∙ ap whole_of
      (as_complete (both_by (read_node rack) read_datagram) _ _ (sent_read rack limits)
      (λ p. Sent p.0 p.1) (n, bytes) (is.1, is.2))
  entry_complete line Ends is = ap (entry_of rack has_begun) is

  entry_sound :
      (line : List ℕ) (r : Option said.AuditEntry)
      → option_map entry_in r ≡ entry_of rack has_begun line
      → IfSome r (λ e. IsEntryLine a line (entry_in e))
  entry_sound line None is = tt
  entry_sound line (Some e) is = from_sound line (words_of line) (entry_in e) refl (sym is)

-- ---- what the function answers

module _ (config : Rack) (limits : InLimits config) (has_begun : Bool) (line : List ℕ)
    (r : Option said.AuditEntry) (is : option_map entry_in r ≡ entry_of config has_begun line)
    (a : Audited) (stage : IsStageOf a config has_begun) where
  in_limits : InLimits a.world.rack
  in_limits = subst (λ (c : Rack). InLimits c) (sym stage.is_rack) limits

  is_of_audit : option_map entry_in r ≡ entry_of a.world.rack (nat_le 2 a.event_place) line
  is_of_audit =
      is ∙ ap (λ (c : Rack). entry_of c has_begun line) (sym stage.is_rack)
      ∙ ap (λ b. entry_of a.world.rack b line) (sym stage.begun)

  pub read_sound : IfSome r (λ e. IsEntryLine a line (entry_in e))
  read_sound = entry_sound a in_limits line r is_of_audit

  pub read_complete :
      (e : AuditEntry) → IsEntryLine a line e → option_map entry_in r ≡ Some e
  read_complete e spells = is_of_audit ∙ entry_complete a in_limits line e spells
