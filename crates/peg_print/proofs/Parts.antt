-- A text of three parts goes over a page.
use Rattle.std.proofs.Common.{ℕ, Bool, true, false, Option, List, ◌++◌, sym, subst, append_assoc}
use Rattle.peg_session.specs.Pages.{Passes}
use Rattle.peg_session.proofs.Passing.{passes_then, passes_none}

module _ (a b c page : List ℕ) (held : Option (List ℕ)) where
  as_grouped :
      (r : Bool) (page' : List ℕ) (held' : Option (List ℕ))
      → Passes r (a ++ (b ++ c)) page page' held held'
      → Passes r ((a ++ b) ++ c) page page' held held'
  as_grouped r page' held' over =
      subst (λ xs. Passes r xs page page' held held') (sym (append_assoc a b c)) over

  pub first_cut :
      (p1 : List ℕ) (h1 : Option (List ℕ)) → Passes false a page p1 held h1
      → Passes false ((a ++ b) ++ c) page p1 held h1
  first_cut p1 h1 one = as_grouped false p1 h1 (passes_none a (b ++ c) page p1 p1 held h1 one)

  pub second_cut :
      (p1 p2 : List ℕ) (h1 h2 : Option (List ℕ)) → Passes true a page p1 held h1
      → Passes false b p1 p2 h1 h2 → Passes false ((a ++ b) ++ c) page p2 held h2
  second_cut p1 p2 h1 h2 one two =
      as_grouped false p2 h2
      (passes_then false a (b ++ c) page p1 p2 held h1 h2 one
      (passes_none b c p1 p2 p2 h1 h2 two))

  pub third :
      (r : Bool) (p1 p2 p3 : List ℕ) (h1 h2 h3 : Option (List ℕ))
      → Passes true a page p1 held h1 → Passes true b p1 p2 h1 h2 → Passes r c p2 p3 h2 h3
      → Passes r ((a ++ b) ++ c) page p3 held h3
  third r p1 p2 p3 h1 h2 h3 one two three =
      as_grouped r p3 h3
      (passes_then r a (b ++ c) page p1 p3 held h1 h3 one
      (passes_then r b c p1 p2 p3 h1 h2 h3 two three))
