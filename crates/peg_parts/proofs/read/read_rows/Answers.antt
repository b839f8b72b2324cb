use Rattle.std.proofs.Common.{◌≡◌, ◌+◌, ◌*◌, length, take, set, ap, ◌∙◌, arith, ℕ, List, length-set}
use Rattle.peg_model.specs.Rules.{Stamps}
use Rattle.peg_model.specs.Reading.{eight_at}
use Rattle.peg_parts.proofs.Reading.{row_read}
use Rattle.peg_parts.proofs.read.read_rows.Goals as goal

pub loop-client-preserved : goal.loop-client-preserved
loop-client-preserved c =
    let rows : List (ℕ × ℕ) = c.loop-client.stamper.rows in
    let client : ℕ = c.loop-client.client in
    let place : ℕ = 18 + 16 * c.from.result in
    let put : c.set_row.new.self.rows
    ≡ set rows client (eight_at c.args.bytes.now place, eight_at c.args.bytes.now (place + 8)) =
    ap (λ (s : Stamps). s.rows) c.set_row.ensures
    ∙ (λ j. set rows client (c.eight_at.ensures j, c.eight_at-in-loop-client.ensures j))
    in
    record {
      next = ap (λ (s : Stamps). s.next) c.set_row.ensures ∙ c.loop-client.invariant.next;
      rows =
          ap (take (client + 1)) put
          ∙ row_read c.args.bytes.now rows client 18 place
          (omega (arith, c.loop-client.invariant.clients))
          (omega (arith, c.from.ensures)) c.loop-client.invariant.rows;
      clients = ap length put ∙ length-set rows client _ ∙ c.loop-client.invariant.clients;
    }
