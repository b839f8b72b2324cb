use Rattle.std.proofs.Common.{◌≡◌, ◌≤◌, ◌-◌, ◌+◌, arith, length, drop, sym, ap, ◌∙◌, take, ◌++◌}
use Rattle.std.proofs.Common.{slice_range}
use Rattle.peg_io.proofs.LineLemmas.{slice_range-later, take-slice_range, length-slice_range}
use Rattle.std.proofs.lemmas.List.{length-take}
use Rattle.peg_io.proofs.LineLemmas.{length-line_of, line_of-drop}
use Rattle.peg_io.specs.Lines.{ReadAhead, line_of}
use Rattle.peg_io.proofs.lines.Lines.move_to_line.Goals as goal

pub copy_part-requires-clause-part : goal.copy_part-requires-clause-part
copy_part-requires-clause-part c =
    let held : slice_range c.self.inside.buf c.self.inside.start c.self.inside.end ≡ c.args.self.now.held =
    ap (λ (r : ReadAhead). r.held) c.self.view_is in
    omega (
      arith,
      ap length held,
      length-slice_range c.self.inside.buf c.self.inside.start c.self.inside.end c.self.invariant.ordered (omega arith),
      length-line_of c.args.self.now.held,
      c.requires.held,
      c.self.invariant.ordered,
    )

pub invariant_of-self : goal.invariant_of-self
invariant_of-self c =
    let all = slice_range c.self.inside.buf c.self.inside.start c.self.inside.end in
    let held : all ≡ c.args.self.now.held = ap (λ (r : ReadAhead). r.held) c.self.view_is in
    let count : c.args.count ≤ length (line_of all) =
    omega (arith, c.requires.held, ap (λ xs. length (line_of xs)) held) in
    let within : c.self.inside.start + c.args.count ≤ c.self.inside.end = omega (
      arith,
      length-slice_range c.self.inside.buf c.self.inside.start c.self.inside.end c.self.invariant.ordered (omega arith),
      length-line_of all,
      count,
      c.self.invariant.ordered,
    ) in
    record {
      ordered = within;
      in_buffer = c.self.invariant.in_buffer;
      in_line = omega (arith, c.requires.fits, length-take c.self.inside.len c.self.inside.line, ap (λ (r : ReadAhead). length r.line) c.self.view_is, c.self.invariant.in_line, c.self.invariant.place);
      buffer = c.self.invariant.buffer;
      place = c.copy_part.ensures.len ∙ c.self.invariant.place;
      ahead =
          ap (λ n. n - c.args.count) c.self.invariant.ahead
          ∙ line_of-drop all c.args.count count
          ∙ ap (λ xs. length (line_of xs))
          (sym (slice_range-later c.self.inside.buf c.self.inside.start c.self.inside.end c.args.count within));
      none = λ is. omega (arith, c.self.invariant.none is, within);
    }

pub returns : goal.returns
returns c =
    let held : slice_range c.self.inside.buf c.self.inside.start c.self.inside.end ≡ c.args.self.now.held = ap (λ (r : ReadAhead). r.held) c.self.view_is in
    let line : take c.self.inside.len c.self.inside.line ≡ c.args.self.now.line = ap (λ (r : ReadAhead). r.line) c.self.view_is in
    let within : c.self.inside.start + c.args.count ≤ c.self.inside.end = omega (
      arith,
      ap length held,
      length-slice_range c.self.inside.buf c.self.inside.start c.self.inside.end c.self.invariant.ordered (omega arith),
      length-line_of c.args.self.now.held,
      c.requires.held,
      c.self.invariant.ordered,
    ) in
    let rest = slice_range-later c.self.inside.buf c.self.inside.start c.self.inside.end c.args.count within ∙ ap (λ xs. drop c.args.count xs) held in
    let more = c.copy_part.ensures.line ∙ ap (λ xs. xs ++ take c.args.count (drop c.self.inside.start c.self.inside.buf)) line
    ∙ ap (λ xs. c.args.self.now.line ++ xs) (sym (take-slice_range c.self.inside.buf c.self.inside.start c.self.inside.end c.args.count within) ∙ ap (λ xs. take c.args.count xs) held) in
    λ i. record { held = rest i; line = more i; ended = ap (λ (r : ReadAhead). r.ended) c.self.view_is i }
