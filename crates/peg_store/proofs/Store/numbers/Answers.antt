use Rattle.std.proofs.Common.{ap, ◌∙◌, sym}
use Rattle.peg_model.specs.Server.{held}
use Rattle.peg_store.specs.Places.{numbers_of}
use Rattle.peg_store.proofs.Found.{held_found, held_none}
use Rattle.peg_store.proofs.Store.numbers.Goals as goal

pub returns-in-Some : goal.returns-in-Some
returns-in-Some c =
    ap numbers_of
    (sym (ap (λ s. held s c.args.key.now) (sym c.self.view_is)
    ∙ held_found c.self.inside.pool.slots c.self.inside.places.entries c.args.key.now
    c.in-Some.place.now (sym c.in-Some.ensures.value)))

pub returns-in-None : goal.returns-in-None
returns-in-None c =
    ap numbers_of
    (sym (ap (λ s. held s c.args.key.now) (sym c.self.view_is)
    ∙ held_none c.self.inside.pool.slots c.self.inside.places.entries c.args.key.now
    (sym c.in-None.ensures.value)))
