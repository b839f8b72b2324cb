use Rattle.std.proofs.Common.{◌≡◌, true, ap, ◌∙◌, map, reverse, refl, sym, List, [], ◌∷◌, ◌++◌}
use Rattle.std.proofs.lemmas.List.{reverse-reverse, reverse-append, map-append}
use Rattle.peg_io.specs.declared.script.Scripted.{Scripted}
use Rattle.peg_io.specs.Seen.{coming_of, turn_of, sent_of}
use Rattle.peg_io.proofs.script.MemoryWire.make.Goals as goal

map-reverse : (zs : List Scripted) → map coming_of (reverse zs) ≡ reverse (map coming_of zs)
map-reverse [] = refl
map-reverse (z ∷ zs) =
    ap (λ ys. map coming_of ys) (reverse-append (z ∷ []) zs) ∙ map-append coming_of (reverse zs) (z ∷ []) ∙ ap (λ ys. ys ++ coming_of z ∷ []) (map-reverse zs)
    ∙ sym (reverse-append (coming_of z ∷ []) (map coming_of zs))

-- a list that was turned round once is turned back
turned_back : (xs ys : List Scripted) → ys ≡ reverse xs → reverse (map coming_of ys) ≡ map coming_of xs
turned_back xs ys e = ap (λ zs. reverse (map coming_of zs)) e ∙ back xs
  where
    back : (zs : List Scripted) → reverse (map coming_of (reverse zs)) ≡ map coming_of zs
    back zs = ap reverse (map-reverse zs) ∙ reverse-reverse (map coming_of zs)

pub returns : goal.returns
returns c =
    let script = turned_back c.args.script.items c.reverse.new.self.items c.reverse.ensures.items in
    λ i. record {
      carried = record { bound = c.new.ensures.items i; turns = map turn_of (c.new-2.ensures.items i); attempted = map sent_of (c.new-3.ensures.items i) };
      tells = true;
      slots = 0;
      coming = script i;
      fails = c.args.fails.items;
      sends = 0;
      faults = 0;
      lost = 0;
    }
