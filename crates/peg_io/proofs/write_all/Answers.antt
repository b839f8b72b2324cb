use Rattle.std.proofs.Common.{sym, subst, arith}
use Rattle.std.proofs.lemmas.List.{take_rest}
use Rattle.std.proofs.lemmas.Bool.Decides.{nat_tests}
use Rattle.peg_io.proofs.Telling.{IsWritten, more_written, some_written}
use Rattle.peg_io.proofs.write_all.Goals as goal

pub loop-rest-preserved : goal.loop-rest-preserved
loop-rest-preserved g c = record {
  written =
      subst (λ xs. IsWritten c.args.bytes.now xs (g.K.Sink.held c.args.sink.now) (g.K.Sink.held c.write.new.self))
      (sym (take_rest c.loop-rest.rest.now c.in-Bytes.count))
      (more_written c.args.bytes.now c.loop-rest.rest.now (g.K.Sink.held c.args.sink.now) (g.K.Sink.held c.loop-rest.sink) (g.K.Sink.held c.write.new.self)
      c.in-Bytes.count c.loop-rest.invariant.written c.in-Bytes.ensures.content.1);
  later = omega (arith, c.in-Bytes.ensures.later, c.loop-rest.invariant.later);
}

pub returns-in-Failed-clause-content : goal.returns-in-Failed-clause-content
returns-in-Failed-clause-content g c =
    some_written c.args.bytes.now c.loop-rest.rest.now (g.K.Sink.held c.args.sink.now) (g.K.Sink.held c.loop-rest.sink) (g.K.Sink.held c.write.new.self)
    (grind (arith, nat_tests, c.is_empty.ensures, c.loop-rest-test.true)) c.loop-rest.invariant.written c.in-Failed.ensures.content
