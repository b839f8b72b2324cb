use Rattle.std.proofs.Common.{◌∙◌, map, refl, sym}
use Rattle.std.specs.String.{string_bytes}
use Rattle.std.proofs.lemmas.List.{length-map}
use Rattle.clap.specs.Words.{app_of}
use Rattle.peg_words.proofs.Parsed.{as_texts, parses, refuses}
use Rattle.peg_words.proofs.arguments.exactly.Goals as goal

pub returns-in-Ok-clause-count : goal.returns-in-Ok-clause-count
returns-in-Ok-clause-count c =
    sym (length-map c.args.words.now string_bytes)
    ∙ parses c.args.count c.requires.few (app_of c.in_ok-command.field-0)
    c.in_ok-command.ensures (map string_bytes c.args.words.now)
    (as_texts string_bytes c.args.words.now refl c.requires.free) c.in-Ok.ensures.kinds

pub returns-clause-others : goal.returns-clause-others
returns-clause-others c =
    λ usage count.
    refuses c.args.count c.requires.few
    (app_of c.in_ok-command.field-0) c.in_ok-command.ensures
    (map string_bytes c.args.words.now)
    (as_texts string_bytes c.args.words.now refl c.requires.free) c.in-Err.error c.in-Err.ensures.kinds
    (c.fault_of.ensures (cc)) (length-map c.args.words.now string_bytes ∙ count)
