use Rattle.std.proofs.Common.{◌≡◌, ◌≤◌, ◌+◌, arith, length, drop, ap, ◌∙◌, slice_range}
use Rattle.peg_io.specs.Lines.{ReadAhead}
use Rattle.peg_io.proofs.LineLemmas.{slice_range-later, length-slice_range}
use Rattle.peg_io.proofs.lines.Lines.skip_feed.Goals as goal

pub returns : goal.returns
returns c =
    let held : slice_range c.self.inside.buf c.self.inside.start c.self.inside.end ≡ c.args.self.now.held = ap (λ (r : ReadAhead). r.held) c.self.view_is in
    let within : c.self.inside.start + 1 ≤ c.self.inside.end = omega (
      arith,
      ap length held,
      length-slice_range c.self.inside.buf c.self.inside.start c.self.inside.end c.self.invariant.ordered (omega arith),
      c.requires,
      c.self.invariant.ordered,
    ) in
    let rest = slice_range-later c.self.inside.buf c.self.inside.start c.self.inside.end 1 within ∙ ap (λ xs. drop 1 xs) held in
    λ i. record { held = rest i; line = ap (λ (r : ReadAhead). r.line) c.self.view_is i; ended = ap (λ (r : ReadAhead). r.ended) c.self.view_is i }
