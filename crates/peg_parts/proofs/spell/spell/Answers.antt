use Rattle.std.proofs.Common.{◌≡◌, ◌++◌, ◌∷◌, [], length, sym, ◌∙◌, ap, arith}
use Rattle.std.specs.List.{flat_map}
use Rattle.peg_name.specs.Name.{Rack}
use Rattle.peg_model.specs.Packet.{two, eight, is_number}
use Rattle.peg_model.specs.Handover.{stamp_bytes, entry_bytes}
use Rattle.peg_parts.proofs.Sealing.{spelled}
use Rattle.peg_parts.proofs.spell.spell.Goals as goal

bytes :
    (c : goal.After-put_entries) → c.put_entries.new.out.items
    ≡ (eight c.args.stamper.now.next ++ eight c.args.last ++ two (length c.args.stamper.now.rows)
    ++ flat_map stamp_bytes c.args.stamper.now.rows ++ length c.args.directory.now.entries ∷ [])
    ++ flat_map (entry_bytes c.args.directory.now.rack.format) c.args.directory.now.entries
bytes c =
    let clients : c.clients-clients.result ≡ length c.args.stamper.now.rows =
    c.clients-clients.ensures.clients
    ∙ ap (λ (rack : Rack). rack.clients) c.config-config.ensures
    ∙ sym c.requires.clients
    in
    let format : c.format.result ≡ c.args.directory.now.rack.format =
    c.format.ensures ∙ ap (λ (rack : Rack). rack.format) c.config-config.ensures
    in
    let numbers =
    c.put_numbers.ensures.items
    ∙ (λ j. c.clear.ensures.items j
    ++ (eight (c.next.ensures.next j) ++ eight c.args.last ++ two (clients j)))
    in
    let rows =
    c.put_rows.ensures.items ∙ ap (λ t. t ++ flat_map stamp_bytes c.args.stamper.now.rows) numbers
    in
    let count = c.put.ensures.items ∙ (λ j. rows j ++ c.len.ensures.len j ∷ []) in
    c.put_entries.ensures.items
    ∙ (λ j. count j ++ flat_map (entry_bytes (format j)) c.args.directory.now.entries)

pub returns-clause-spelled : goal.returns-clause-spelled
returns-clause-spelled c =
    spelled c.args.directory.now.rack c.args.stamper.now c.args.last c.args.directory.now.entries _
    (record {
      first = omega (arith, c.next.ensures.least, c.next.ensures.next);
      next_number = ap is_number (sym c.next.ensures.next) ∙ c.put_numbers.ensures.next;
      least = c.requires.last;
      last_number = c.put_numbers.ensures.last;
      clients = c.requires.clients;
      rows = c.put_rows.ensures.numbers;
      whole = c.len.ensures.whole;
      rising = c.put_entries.ensures.rising;
      spelled = bytes c;
    })
