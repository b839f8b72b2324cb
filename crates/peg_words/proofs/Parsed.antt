-- What the parser makes of words without a hyphen: a fault, unless they are as many as it is told.
use Rattle.std.proofs.Common.{◌≡◌, ◌≢◌, ◌<◌, ◌∙◌, ◌||◌, ◌==◌, ℕ, Bool, true, false, List, [], ◌∷◌}
use Rattle.std.proofs.Common.{◌++◌, map, length, refl, ap, sym, subst, inl, inr, codes, Some, None}
use Rattle.std.proofs.Common.{arith, if◌then◌else◌, nat_lt, ap₂}
use Rattle.std.specs.Prelude.{fold}
use Rattle.std.specs.List.{list_any}
use Rattle.std.specs.Str.{bytes_eq}
use Rattle.std.proofs.lemmas.Bool.Decides.{nat_tests}
use Rattle.std.proofs.lemmas.List.{append_assoc, append-nil}
use Rattle.clap.specs.Lexer.{long_of, short_of, usize_max}
use Rattle.clap.specs.Kinds.{Kinds, IsAmong, HasKind, values_kinds, or_else}
use Rattle.clap.specs.Values.{kind_of}
use Rattle.clap.specs.Walk.{Rule, Walk, walked, walk_from, nothing_held, positional}
use Rattle.clap.specs.Simple.{App, built, on_top, with_rule}
use Rattle.clap.specs.Faults.{is_simple_and_free, fault_of, turn_fault, walk_fault, defaults_fault}
use Rattle.clap.specs.Faults.{built_fault}
use Rattle.clap.specs.declared.error.Error.{Error}
use Rattle.clap.specs.declared.error.kind.ErrorKind.{ErrorKind}
use Rattle.clap.specs.declared.error.kind.ErrorKind.TheVariants as kind
use Rattle.clap.specs.declared.builder.action.ArgAction.TheVariants.{Set}
use Rattle.clap.specs.declared.builder.value_parser.ValueParser.TheVariants as vp
use Rattle.clap.proofs.OnLiterals.{clap_on_literals}
use Rattle.clap.proofs.WalkLemmas.{list_any-map}
use Rattle.peg_words.specs.Arguments.{is_dashed, parser, values, parser_of}

-- ---- one word

-- a word that is no option to the parser
record IsPlain (word : List ℕ) : Type 0 where
  trailing : bytes_eq word (45 ∷ 45 ∷ []) ≡ false
  long : long_of word ≡ None
  short : short_of word ≡ None

plain : (word : List ℕ) → is_dashed word ≡ false → IsPlain word
plain [] free = record { trailing = refl; long = refl; short = refl }
plain (x ∷ xs) free = record { trailing = rw free refl; long = rw free refl; short = rw free refl }

or_false : (a b : Bool) → (a || b) ≡ false → (a ≡ false) × (b ≡ false)
or_false false b free = (refl, free)
or_false true b free = (free, absurd (cc))

abbrev IsFree : List (List ℕ) → Type 0
IsFree words = list_any is_dashed words ≡ false

-- the parser finds no fault in so many words, and some fault in more or fewer
data Judged (n : ℕ) : Kinds → List (List ℕ) → Type 0 where
  passes : (words : List (List ℕ)) → length words ≡ n → Judged n [] words
  fails : (k : ErrorKind) (ks : Kinds) (words : List (List ℕ)) → length words ≢ n
      → Judged n (k ∷ ks) words

-- ---- no words

of_none : (words : List (List ℕ)) → IsFree words → Judged 0 (fault_of parser words) words
unfolding clap_on_literals walked walk_fault defaults_fault
of_none [] free = passes [] refl
of_none (a ∷ words) free =
    let p : IsPlain a = plain a (or_false _ _ free).0 in
    rw (p.trailing, p.long, p.short) (fails _ _ (a ∷ words) (λ e. omega arith))

-- ---- one word that is taken

of_one : (words : List (List ℕ)) → IsFree words
    → Judged 1 (fault_of (with_rule parser (values 1)) words) words
unfolding clap_on_literals walked walk_fault defaults_fault
of_one [] free = fails _ _ [] (λ e. omega (arith, e))
of_one (a ∷ []) free =
    let p : IsPlain a = plain a (or_false _ _ free).0 in
    rw (p.trailing, p.long, p.short) (passes (a ∷ []) refl)
of_one (a ∷ b ∷ words) free =
    let frees = or_false _ _ free in
    let p : IsPlain a = plain a frees.0 in
    let q : IsPlain b = plain b (or_false _ _ frees.1).0 in
    rw (p.trailing, p.long, p.short, q.trailing, q.long, q.short)
    (fails _ _ (a ∷ b ∷ words) (λ e. omega (arith, e)))

-- ---- several words

texts_pass : (words : List (List ℕ)) → values_kinds false vp.String words ≡ []
texts_pass [] = refl
texts_pass (w ∷ ws) = texts_pass ws

module _ (n : ℕ) (some : 1 < n) (few : n < 100) where
  several : nat_lt 1 n ≡ true
  several = grind (arith, nat_tests, some)

  not_zero : (n == 0) ≡ false
  not_zero = grind (arith, nat_tests, some)

  not_all : (n == usize_max) ≡ false
  not_all = grind (arith, nat_tests, few)

  same : (n == n) ≡ true
  same = grind (arith, nat_tests)

  above_zero : nat_lt 0 n ≡ true
  above_zero = grind (arith, nat_tests, some)

  -- the argument as the parser keeps it
  abbrev rule : Rule
  rule =
      record (values n) {
        index = Some 1;
        action = Some Set;
        parser = Some vp.String;
      }

  abbrev app : App
  app = on_top (λ s. record s { rules = rule ∷ [] }) (built parser)

  built_is : built (with_rule parser (values n)) ≡ app
  built_is = rw (not_zero, not_all) refl

  -- where the walk stands after these words
  abbrev at : List (List ℕ) → Walk
  at words =
      record {
        held = record { rows = []; pending = Some (codes "arguments", words); skip = 0 };
        waiting = positional;
        position = 1;
        is_trailing = false;
        stopped = None;
      }

  abbrev begin : Walk
  begin = walk_from nothing_held

  first : (word : List ℕ) → IsPlain word → walked app.top.rules [] begin word ≡ at (word ∷ [])
  unfolding clap_on_literals walked
  first word p = rw (p.trailing, p.long, p.short, same, several) refl

  next : (words : List (List ℕ)) (word : List ℕ) → IsPlain word
      → walked app.top.rules [] (at words) word ≡ at (words ++ word ∷ [])
  unfolding clap_on_literals walked
  next words word p = rw (p.trailing, p.long, p.short, same, several) refl

  no_first_fault : (word : List ℕ) → IsPlain word → turn_fault app.top [] begin word ≡ []
  unfolding clap_on_literals walked
  no_first_fault word p = rw (p.trailing, p.long, p.short) refl

  no_next_fault : (words : List (List ℕ)) (word : List ℕ) → IsPlain word
      → turn_fault app.top [] (at words) word ≡ []
  unfolding clap_on_literals walked
  no_next_fault words word p = rw (p.trailing, p.long, p.short, same, several) refl

  walks : (before words : List (List ℕ)) → IsFree words
      → fold (walked app.top.rules []) (at before) words ≡ at (before ++ words)
  walks before [] free = ap at (sym (append-nil before))
  walks before (w ∷ ws) free =
      let frees = or_false _ _ free in
      ap (λ x. fold (walked app.top.rules []) x ws) (next before w (plain w frees.0))
      ∙ walks (before ++ w ∷ []) ws frees.1
      ∙ ap at (append_assoc before (w ∷ []) ws)

  no_fault : (before words : List (List ℕ)) → IsFree words
      → walk_fault app.top [] (at before) words ≡ []
  unfolding walk_fault
  no_fault before [] free = refl
  no_fault before (w ∷ ws) free =
      let frees = or_false _ _ free in
      let p = plain w frees.0 in
      rw (no_next_fault before w p, next before w p) (no_fault (before ++ w ∷ []) ws frees.1)

  abbrev faults : List (List ℕ) → Kinds
  faults words = built_fault app nothing_held words

  -- all is taken, and so only the count can be at fault
  count_at_fault : (w : List ℕ) (ws : List (List ℕ)) → walk_fault app.top [] begin (w ∷ ws) ≡ []
      → fold (walked app.top.rules []) begin (w ∷ ws) ≡ at (w ∷ ws)
      → faults (w ∷ ws)
      ≡ (if n == length (w ∷ ws) then [] else kind.WrongNumberOfValues ∷ [])
  unfolding defaults_fault
  count_at_fault w ws taken stands =
      let one : (length (w ∷ ws) == 0) ≡ false = grind (arith, nat_tests) in
      rw (taken, stands, texts_pass ws, above_zero, one, same) (by (n == length (w ∷ ws)))
    where
      by : (b : Bool)
          → or_else (or_else (if b then [] else kind.WrongNumberOfValues ∷ []) []) []
          ≡ (if b then [] else kind.WrongNumberOfValues ∷ [])
      by true = refl
      by false = refl

  taken : (w : List ℕ) (ws : List (List ℕ)) → IsFree (w ∷ ws)
      → walk_fault app.top [] begin (w ∷ ws) ≡ []
  unfolding walk_fault
  taken w ws free =
      let frees = or_false _ _ free in
      let p = plain w frees.0 in
      rw (no_first_fault w p, first w p) (no_fault (w ∷ []) ws frees.1)

  stands : (w : List ℕ) (ws : List (List ℕ)) → IsFree (w ∷ ws)
      → fold (walked app.top.rules []) begin (w ∷ ws) ≡ at (w ∷ ws)
  stands w ws free =
      let frees = or_false _ _ free in
      ap (λ x. fold (walked app.top.rules []) x ws) (first w (plain w frees.0))
      ∙ walks (w ∷ []) ws frees.1

  judged_built : (words : List (List ℕ)) → IsFree words → Judged n (faults words) words
  unfolding defaults_fault walk_fault
  judged_built [] free = fails _ _ [] (λ e. omega (arith, some, e))
  judged_built (w ∷ ws) free =
      subst (λ (k : Kinds). Judged n k (w ∷ ws))
      (sym (count_at_fault w ws (taken w ws free) (stands w ws free)))
      (by (n == length (w ∷ ws)) refl)
    where
      by : (b : Bool) → (n == length (w ∷ ws)) ≡ b
          → Judged n (if b then [] else kind.WrongNumberOfValues ∷ []) (w ∷ ws)
      by true e = passes (w ∷ ws) (grind (arith, nat_tests, e))
      by false e = fails _ _ (w ∷ ws) (grind (arith, nat_tests, e))

  of_words : (words : List (List ℕ)) → IsFree words
      → Judged n (fault_of (with_rule parser (values n)) words) words
  of_words words free =
      subst (λ (k : Kinds). Judged n k words)
      (sym (ap (λ a. built_fault a nothing_held words) built_is)) (judged_built words free)

  is_simple_parser : is_simple_and_free (with_rule parser (values n)) ≡ true
  is_simple_parser = rw (not_zero, not_all, same, several) refl

-- ---- what the calls make of the parser's answer

passed : (n : ℕ) (ks : Kinds) (words : List (List ℕ)) → Judged n ks words → ks ≡ []
    → length words ≡ n
passed n _ _ (passes words count) none = count
passed n _ _ (fails k ks words other) none = absurd (cc)

refused : (n : ℕ) (ks : Kinds) (words : List (List ℕ)) (k : ErrorKind) → Judged n ks words
    → IsAmong k ks → length words ≢ n
refused n _ _ k (passes words count) among = absurd among
refused n _ _ k (fails _ _ words other) among = other

module _ (count : ℕ) (few : count < 100) where
  judged : (words : List (List ℕ)) → IsFree words
      → Judged count (fault_of (parser_of count) words) words
  judged words free = by (count == 0) (count == 1) refl refl
    where
      J : ℕ → Type 0
      J n = Judged n (fault_of (parser_of n) words) words

      by : (b c : Bool) → (count == 0) ≡ b → (count == 1) ≡ c
          → Judged count (fault_of (parser_of count) words) words
      by true c e f =
          let zero : 0 ≡ count = grind (arith, nat_tests, e) in
          subst (λ (n : ℕ). J n) zero (of_none words free)
      by false true e f =
          let one : 1 ≡ count = grind (arith, nat_tests, f) in
          subst (λ (n : ℕ). J n) one (of_one words free)
      by false false e f =
          let some : 1 < count = grind (arith, nat_tests, e, f) in
          rw e (of_words count some few words free)

  is_simple : is_simple_and_free (parser_of count) ≡ true
  is_simple = by (count == 0) (count == 1) refl refl
    where
      by : (b c : Bool) → (count == 0) ≡ b → (count == 1) ≡ c
          → is_simple_and_free (parser_of count) ≡ true
      by true c e f = rw e refl
      by false true e f =
          let one : 1 ≡ count = grind (arith, nat_tests, f) in
          subst (λ (n : ℕ). is_simple_and_free (parser_of n) ≡ true) one refl
      by false false e f =
          let some : 1 < count = grind (arith, nat_tests, e, f) in
          rw e (is_simple_parser count some few)

  module _ (app : App) (is : app ≡ parser_of count) (words : List (List ℕ))
      (free : IsFree words) where
    pub parses : (is_simple_and_free app ≡ true → fault_of app words ≡ []) → length words ≡ count
    parses none =
        passed count _ words (judged words free)
        (subst (λ (a : App). is_simple_and_free a ≡ true → fault_of a words ≡ []) is none is_simple)

    -- where it fails with memory left, they are not so many
    pub refuses : (e : Error) → (is_simple_and_free app ≡ true → HasKind (fault_of app words) e)
        → (kind_of e ≢ kind.OutOfMemory) → length words ≢ count
    refuses e has memory =
        elim
        (subst (λ (a : App). is_simple_and_free a ≡ true → HasKind (fault_of a words) e) is has
        is_simple) [
          | inl out ↦ absurd (memory out)
          | inr among ↦ refused count _ words (kind_of e) (judged words free) among
        ]

-- ---- words as texts

module _ {X : Type 0} (text : X → List ℕ) where
  pub as_texts : (words : List X) {found b : Bool}
      → found ≡ list_any (λ word. is_dashed (text word)) words → found ≡ b
      → list_any is_dashed (map text words) ≡ b
  as_texts words is same = sym (list_any-map is_dashed text words) ∙ sym is ∙ same

-- ---- what it is told

pub told_none : (p : App) (count : ℕ) → p ≡ parser → true ≡ (count == 0) → p ≡ parser_of count
told_none p count is zero = rw (sym zero) is

pub told_some : (p app : App) (r : Rule) (count : ℕ) → app ≡ with_rule p r → p ≡ parser
    → r ≡ values count → false ≡ (count == 0) → app ≡ parser_of count
told_some p app r count adds is given some =
    rw (sym some) (adds ∙ ap₂ with_rule is given)
