use Rattle.std.proofs.Common.{◌++◌, ◌∷◌, [], ℕ, List, ap, ◌∙◌, sym, take, arith}
use Rattle.std.proofs.lemmas.List.{append_assoc}
use Rattle.peg_name.specs.declared.Node.{Node}
use Rattle.peg_world.proofs.Each.{take_more}
use Rattle.peg_world.proofs.nodes.Nodes.send.Goals as goal

pub loop-i-preserved : goal.loop-i-preserved
loop-i-preserved c =
    let items = c.self.inside.post.items in
    let put : Node × List ℕ = (c.item-to.result.0, c.item-to.result.1.now) in
    record {
      format = c.push.ensures.format ∙ c.loop-i.invariant.format;
      items =
          c.in_ok-push.ensures.ok
          ∙ ap (λ xs. xs ++ put ∷ []) c.loop-i.invariant.items
          ∙ append_assoc c.args.soup.now.items (take c.loop-i.i items) (put ∷ [])
          ∙ ap (λ xs. c.args.soup.now.items ++ xs)
          (sym (take_more items c.loop-i.i put c.item-to.ensures.item));
      room = omega (arith, c.loop-i.invariant.room, c.push.ensures.spare);
    }
