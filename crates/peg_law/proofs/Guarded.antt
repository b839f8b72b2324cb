-- What the home of a key keeps of its fences in a world, since it does in the protocol machine.
use Rattle.std.proofs.Common.{◌≡◌, ℕ, Bool, true, false, List, [], ◌∷◌, ◌++◌, map, cond, refl}
use Rattle.std.proofs.Common.{sym, ap, ◌∙◌, subst, filter}
use Rattle.std.proofs.lemmas.Grind.{reverse_onto}
use Rattle.std.proofs.lemmas.List.{reverse-reverse}
use Rattle.std.proofs.lemmas.List.Elements.{All-contains}
use Rattle.std.specs.Prelude.{reverse}
use Rattle.std.specs.Str.{bytes_eq}
use Rattle.peg_event.specs.declared.answers.Stored.{Stored}
use Rattle.peg_model.specs.World.{World, AppliedFence}
use Rattle.peg_law.specs.Codes.{number_of, node_code, guard_code}
use Rattle.peg_law.specs.Covered.{home_at}
use Rattle.peg_law.specs.Fenced.{stored_at}
use Rattle.peg_law.specs.Guarded.{fences_of, KeepsLast, KeysAreGuarded}
use Rattle.peg_law.specs.Mirrors.{Mirrors, fence_code}
use Rattle.peg_law.proofs.Codes.{number_test}
use Rattle.peg_law.proofs.Fenced.{fence_there, home_guard, sent_there}
use Rattle.peg_protocol.specs.Core as core
use Rattle.peg_protocol.specs.Law as law_of
use Rattle.peg_protocol.specs.Law.{Law, FenceLaw, GuardIs}
use Rattle.peg_protocol.specs.System.{System, ground}

map_pushed :
    (fs : List AppliedFence) (f : AppliedFence)
    → map fence_code (fs ++ f ∷ []) ≡ map fence_code fs ++ fence_code f ∷ []
map_pushed [] f = refl
map_pushed (g ∷ fs) f = ap (λ l. fence_code g ∷ l) (map_pushed fs f)

map_turned : (fs : List AppliedFence) → reverse (map fence_code fs) ≡ map fence_code (reverse fs)
map_turned [] = refl
map_turned (f ∷ fs) =
    reverse_onto (map fence_code fs) (fence_code f) []
    ∙ ap (λ l. l ++ fence_code f ∷ []) (map_turned fs) ∙ sym (map_pushed (reverse fs) f)
    ∙ ap (map fence_code) (sym (reverse_onto fs f []))

of_key :
    (key : List ℕ) (fs : List AppliedFence)
    → law_of.fences_of (number_of key) (map fence_code fs)
    ≡ map fence_code (filter (λ f. bytes_eq f.key key) fs)
of_key key [] = refl
of_key key (f ∷ fs) = rw (number_test f.key key) (by_test (bytes_eq f.key key) (of_key key fs))
  where
    by_test :
        (b : Bool)
        → law_of.fences_of (number_of key) (map fence_code fs)
        ≡ map fence_code (filter (λ g. bytes_eq g.key key) fs)
        → cond b (fence_code f ∷ law_of.fences_of (number_of key) (map fence_code fs))
        (law_of.fences_of (number_of key) (map fence_code fs))
        ≡ map fence_code
        (cond b (f ∷ filter (λ g. bytes_eq g.key key) fs)
        (filter (λ g. bytes_eq g.key key) fs))
    by_test true rest = ap (λ l. fence_code f ∷ l) rest
    by_test false rest = rest

keeps : (fs : List AppliedFence) (was : Stored) → GuardIs (guard_code was) (map fence_code fs)
    → KeepsLast fs was
keeps [] was g = (g.floor, g.low, g.old)
keeps (f ∷ []) was g = (g.floor, g.low, g.old)
keeps (f ∷ e ∷ fs) was g = (g.floor, g.low, g.old)

module _ (keys : List (List ℕ)) (w : World) (s : System) (m : Mirrors keys w s) where
  fences_are : (key : List ℕ) →
      law_of.fences_of (number_of key) s.fences ≡ map fence_code (fences_of key w.fences)
  fences_are key =
      ap (law_of.fences_of (number_of key))
      (sym (reverse-reverse s.fences) ∙ ap reverse (sym m.fences) ∙ map_turned w.fences)
      ∙ of_key key (reverse w.fences)

  pub guarded_here : (c : core.Core) → Law (ground s c) → KeysAreGuarded w
  guarded_here c l key =
      record {
        kept =
            keeps (fences_of key w.fences) (stored_at w (home_at w key) key)
            (subst (λ g. GuardIs g (map fence_code (fences_of key w.fences)))
            (home_guard keys w s m key)
            (subst (GuardIs (s.guards (s.rack.home (number_of key)) (number_of key)))
            (fences_are key) (l.fences (number_of key)).guard));
        sent = λ to to_switch server version sent f has e b.
            (All-contains
            (λ g. g.key ≡ number_of key → law_of.NothingBetween (ground s c) (number_of key) g)
            s.fences (fence_code f) (l.fences (number_of key)).applied
            (fence_there keys w s m f has) (ap number_of e)).fence
            (node_code to) version to_switch
            (sent_there keys w s m key to to_switch server version sent) b;
      }
