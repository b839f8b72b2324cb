-- A word that begins with a hyphen is no argument of a command.
use Rattle.std.proofs.Common.{◌≡◌, ◌≤◌, ◌<◌, ◌^◌, ◌-◌, ◌||◌, ◌&&◌, ◌==◌, ℕ, Bool, true, false}
use Rattle.std.proofs.Common.{List, [], ◌∷◌, refl, ap, subst, inl, inr, ◌⊎◌, decimal, nat_le}
use Rattle.std.proofs.Common.{nat_lt}
use Rattle.std.proofs.Common.{Option, Some, None, Result, Ok, Err, arith, if◌then◌else◌}
use Rattle.std.specs.Prelude.{option_and_then, option_map}
use Rattle.std.specs.List.{list_any, slice_split, onto_first}
use Rattle.std.specs.Str.{bytes_eq}
use Rattle.std.specs.Str.Parse.{IsNumeral, digits_value}
use Rattle.std.proofs.lemmas.Bool.Decides.{nat_tests}
use Rattle.std.proofs.lemmas.Fmt.{decimal_is_IsNumeral}
use Rattle.std.proofs.lemmas.List.Splits.{slice_split-cons_no}
use Rattle.std.proofs.lemmas.Slice.Eq.{bytes_eq-Decides}
use Rattle.std.proofs.lemmas.Str.Parse.{digit_from_value}
use Rattle.peg_name.specs.Name.{Rack, servers_most, clients_most}
use Rattle.peg_name.specs.Limits.{is_between, checked}
use Rattle.peg_name.specs.declared.Format.{Format}
use Rattle.peg_name.specs.declared.Format.TheVariants as format
use Rattle.peg_meaning.specs.Commands as book
use Rattle.peg_meaning.specs.Commands.{soak_job, switch_job, server_job, control_job, ask_job, Job}
use Rattle.peg_meaning.specs.Commands.{rack_job, balanced_job, weights_of}
use Rattle.peg_meaning.specs.Commands.{number_within, numbers_within, reading, at_base, rack_of}
use Rattle.peg_meaning.specs.Commands.{is_colon, between_colons, rack_of_numbers, rack_with}
use Rattle.peg_words.specs.Arguments.{is_dashed}
use Rattle.peg_words.specs.Jobs.{job_of}
use Rattle.peg_words.proofs.Decimals.{and_true}
use Rattle.peg_words.proofs.Counts.{Named, named, not_here, replay, check, soak, switch, server}
use Rattle.peg_words.proofs.Counts.{whole_rack, racks, balanced}
use Rattle.peg_words.proofs.Counts.{control, ask, other}

-- ---- numbers

no_number : (low high : ℕ) (word : List ℕ) → high < 2 ^ 64 → is_dashed word ≡ true
    → number_within low high word ≡ None
no_number low high [] top is = absurd (cc)
no_number low high (x ∷ xs) top is =
    by (is_between low high n && bytes_eq (decimal n) (x ∷ xs)) refl
  where
    n : ℕ
    n = digits_value 10 (x ∷ xs)

    by : (b : Bool) → (is_between low high n && bytes_eq (decimal n) (x ∷ xs)) ≡ b
        → number_within low high (x ∷ xs) ≡ None
    by false e = rw e refl
    by true e =
        let tests = and_true (is_between low high n) (bytes_eq (decimal n) (x ∷ xs)) e in
        let ends = and_true (nat_le low n) (nat_le n high) tests.0 in
        let below : n ≤ high = grind (arith, nat_tests, ends.1) in
        let text : decimal n ≡ x ∷ xs = (bytes_eq-Decides (decimal n) (x ∷ xs)).0 tests.1 in
        let numeral : IsNumeral 10 (x ∷ xs) =
        subst (λ (w : List ℕ). IsNumeral 10 w) text (decimal_is_IsNumeral n (omega arith)).0 in
        let hyphen : x ≡ 45 = grind (arith, nat_tests, is) in
        absurd (omega (arith, digit_from_value x numeral.1.0))

-- what is made of a number is nothing, whatever it is
none_after : {A B : Type 0} (o : Option A) (make : A → Option B)
    → ((a : A) → o ≡ Some a → make a ≡ None) → option_and_then make o ≡ None
none_after None make none = refl
none_after (Some a) make none = none a refl

-- nothing is made of a word with a hyphen
unread : {A : Type 0} (low high : ℕ) (word : List ℕ) (make : ℕ → Option A) → high < 2 ^ 64
    → is_dashed word ≡ true → reading low high word make ≡ None
unread low high word make top is = rw (no_number low high word top is) refl

-- ---- racks

no_numbers : (part : List ℕ) (parts : List (List ℕ)) → is_dashed part ≡ true
    → numbers_within 0 18446744073709551615 (part ∷ parts) ≡ None
no_numbers part parts is = unread 0 18446744073709551615 part _ (omega arith) is

no_first : (x : ℕ) (parts : List (List ℕ)) → (x == 45) ≡ true
    → numbers_within 0 18446744073709551615 (onto_first x parts) ≡ None
no_first x [] is = no_numbers (x ∷ []) [] is
no_first x (part ∷ parts) is = no_numbers (x ∷ part) parts is

no_rack : (word : List ℕ) → is_dashed word ≡ true → rack_of word ≡ None
no_rack [] is = absurd (cc)
no_rack (x ∷ xs) is =
    let no_colon : is_colon x ≡ false = grind (arith, nat_tests, is) in
    rw (slice_split-cons_no is_colon x xs no_colon, no_first x (slice_split is_colon xs) is) refl

if_ok_of : {A E : Type 0} (b : Bool) (x : Result A E) (e : E) (a : A)
    → (if b then x else Err e) ≡ Ok a → (b ≡ true) × (x ≡ Ok a)
if_ok_of true x e a is = (refl, is)
if_ok_of false x e a is = absurd (cc)

record IsSmall (r : Rack) : Type 0 where
  servers : r.servers ≤ 1024
  clients : r.clients ≤ 1024
  switches : r.switches ≤ 1024

most_servers : (f : Format) → servers_most f ≤ 1024
most_servers format.One = omega arith
most_servers format.Two = omega arith

most_clients : (f : Format) → clients_most f ≤ 1024
most_clients format.One = omega arith
most_clients format.Two = omega arith

checked_small : (r s : Rack) → checked r ≡ Ok s → IsSmall s
checked_small r s is =
    let a = if_ok_of (is_between 1 (servers_most r.format) r.servers) _ _ s is in
    let b = if_ok_of (is_between 1 (clients_most r.format) r.clients) _ _ s a.1 in
    let c = if_ok_of (is_between 1 4 r.switches) _ _ s b.1 in
    let d = if_ok_of (is_between 1 64 r.listed) _ _ s c.1 in
    let e = if_ok_of (is_between 1 12 r.hot) _ _ s d.1 in
    let f = if_ok_of (nat_lt 0 r.first) (Ok r) _ s e.1 in
    let ok : Ok r ≡ Ok s = f.1 in
    let same : r ≡ s = cc in
    let servers = (and_true (nat_le 1 r.servers) (nat_le r.servers (servers_most r.format)) a.0).1 in
    let clients = (and_true (nat_le 1 r.clients) (nat_le r.clients (clients_most r.format)) b.0).1 in
    let switches = (and_true (nat_le 1 r.switches) (nat_le r.switches 4) c.0).1 in
    subst (λ (x : Rack). IsSmall x) same
    (record {
      servers = grind (arith, nat_tests, servers, most_servers r.format);
      clients = grind (arith, nat_tests, clients, most_clients r.format);
      switches = grind (arith, nat_tests, switches);
    })

of_ok : (x : Result Rack _) (r : Rack) → book.if_ok x ≡ Some r → x ≡ Ok r
of_ok (Ok s) r is =
    let same : s ≡ r = cc in
    ap Ok same
of_ok (Err e) r is = absurd (cc)

small_two : (a b c d e f : ℕ) (r : Rack) → rack_with 2 a b c d e f ≡ Some r → IsSmall r
small_two a b c d e f r is =
    checked_small
    (record {
      format = format.Two;
      servers = a;
      clients = b;
      switches = c;
      listed = d;
      hot = e;
      first = f;
    })
    r (of_ok _ r is)

small_numbers : (ns : List ℕ) (r : Rack) → rack_of_numbers ns ≡ Some r → IsSmall r
small_numbers [] r is = absurd (cc)
small_numbers (a ∷ []) r is = absurd (cc)
small_numbers (a ∷ b ∷ []) r is = absurd (cc)
small_numbers (a ∷ b ∷ c ∷ []) r is = absurd (cc)
small_numbers (a ∷ b ∷ c ∷ d ∷ []) r is = absurd (cc)
small_numbers (a ∷ b ∷ c ∷ d ∷ e ∷ []) r is = absurd (cc)
small_numbers (a ∷ b ∷ c ∷ d ∷ e ∷ f ∷ []) r is =
    checked_small
    (record {
      format = format.One;
      servers = a;
      clients = b;
      switches = c;
      listed = d;
      hot = e;
      first = f;
    })
    r (of_ok _ r is)
small_numbers (a ∷ b ∷ c ∷ d ∷ e ∷ f ∷ g ∷ []) r is = by (g == 2) refl
  where
    by : (two : Bool) → (g == 2) ≡ two → IsSmall r
    by true second =
        let found : rack_with 2 a b c d e f ≡ Some r = rw second at is in
        small_two a b c d e f r found
    by false unlike =
        let none : None ≡ Some r = rw unlike at is in
        absurd (cc)
small_numbers (a ∷ b ∷ c ∷ d ∷ e ∷ f ∷ g ∷ h ∷ ns) r is = absurd (cc)

small : (word : List ℕ) (r : Rack) → rack_of word ≡ Some r → IsSmall r
small word r is = by _ refl
  where
    by : (o : Option (List ℕ)) → numbers_within 0 18446744073709551615 (between_colons word) ≡ o
        → IsSmall r
    by None e =
        let none : None ≡ Some r = rw e at is in
        absurd (cc)
    by (Some ns) e =
        let found : rack_of_numbers ns ≡ Some r = rw e at is in
        small_numbers ns r found

-- ---- a base and a rack

abbrev Make : Type 0
Make = ℕ → Rack → Option Job

base_dashed : (base rack : List ℕ) (make : Make) → is_dashed base ≡ true
    → at_base base rack make ≡ None
base_dashed base rack make is = unread 1024 60000 base _ (omega arith) is

rack_dashed : (base rack : List ℕ) (make : Make) → is_dashed rack ≡ true
    → at_base base rack make ≡ None
rack_dashed base rack make is =
    none_after (number_within 1024 60000 base) _ (λ b found. rw (no_rack rack is) refl)

made_none : (base rack : List ℕ) (make : Make) → ((b : ℕ) (r : Rack) → IsSmall r → make b r ≡ None)
    → at_base base rack make ≡ None
made_none base rack make none =
    none_after (number_within 1024 60000 base) _
    (λ b found. none_after (rack_of rack) _ (λ r is. none b r (small rack r is)))

or_true : (a b : Bool) → (a || b) ≡ true → (a ≡ true) ⊎ (b ≡ true)
or_true true b is = inl refl
or_true false b is = inr is

last : (a : Bool) → (a || false) ≡ true → a ≡ true
last true is = refl
last false is = absurd (cc)

module _ (low : ℕ) (high : Rack → ℕ) (top : (r : Rack) → IsSmall r → high r < 2 ^ 64) (least most : ℕ)
    (below : most < 2 ^ 64) (make : ℕ → Rack → ℕ → ℕ → Job) where
  abbrev four_words : List ℕ → List ℕ → List ℕ → List ℕ → Option Job
  four_words a b c d =
      at_base a b
      (λ n r. reading low (high r) c (λ x. reading least most d (λ y. Some (make n r x y))))

  four_dashed : (a b c d : List ℕ) → list_any is_dashed (a ∷ b ∷ c ∷ d ∷ []) ≡ true
      → four_words a b c d ≡ None
  four_dashed a b c d is =
      elim (or_true _ _ is) [
        | inl one ↦ base_dashed a b _ one
        | inr rest ↦
            elim (or_true _ _ rest) [
              | inl two ↦ rack_dashed a b _ two
              | inr more ↦
                  elim (or_true _ _ more) [
                    | inl three ↦
                        made_none a b _ (λ n r s. unread low (high r) c _ (top r s) three)
                    | inr end ↦
                        made_none a b _
                        (λ n r s. none_after (number_within low (high r) c) _
                        (λ x found. unread least most d _ below (last _ end)))
                  ]
            ]
      ]

-- ---- the commands

soak_dashed : (words : List (List ℕ)) → list_any is_dashed words ≡ true → soak_job words ≡ None
soak_dashed [] is = refl
soak_dashed (a ∷ []) is = refl
soak_dashed (a ∷ b ∷ []) is =
    elim (or_true _ _ is) [
      | inl one ↦ unread 1 20000 a _ (omega arith) one
      | inr end ↦
          none_after (number_within 1 20000 a) _
          (λ n found. unread 0 18446744073709551615 b _ (omega arith) (last _ end))
    ]
soak_dashed (a ∷ b ∷ c ∷ words) is = refl

switch_dashed : (words : List (List ℕ)) → list_any is_dashed words ≡ true → switch_job words ≡ None
switch_dashed [] is = refl
switch_dashed (a ∷ []) is = refl
switch_dashed (a ∷ b ∷ []) is = refl
switch_dashed (a ∷ b ∷ c ∷ []) is = refl
switch_dashed (a ∷ b ∷ c ∷ d ∷ []) is =
    four_dashed 0 (λ r. r.switches - 1) (λ r s. omega (arith, s.switches)) 0 1000000000 (omega arith)
    (λ n r x y. book.Switch n r x y) a b c d is
switch_dashed (a ∷ b ∷ c ∷ d ∷ e ∷ words) is = refl

server_dashed : (words : List (List ℕ)) → list_any is_dashed words ≡ true → server_job words ≡ None
server_dashed [] is = refl
server_dashed (a ∷ []) is = refl
server_dashed (a ∷ b ∷ []) is = refl
server_dashed (a ∷ b ∷ c ∷ []) is = refl
server_dashed (a ∷ b ∷ c ∷ d ∷ []) is =
    four_dashed 0 (λ r. r.servers - 1) (λ r s. omega (arith, s.servers)) 0 1000000000 (omega arith)
    (λ n r x y. book.Server n r x y) a b c d is
server_dashed (a ∷ b ∷ c ∷ d ∷ e ∷ words) is = refl

control_dashed : (words : List (List ℕ)) → list_any is_dashed words ≡ true
    → control_job words ≡ None
control_dashed [] is = refl
control_dashed (a ∷ []) is = refl
control_dashed (a ∷ b ∷ []) is = refl
control_dashed (a ∷ b ∷ c ∷ []) is = refl
control_dashed (a ∷ b ∷ c ∷ d ∷ []) is =
    four_dashed 1 (λ r. 100) (λ r s. omega arith) 0 1000 (omega arith)
    (λ n r x y. book.Control n r x y) a b c d is
control_dashed (a ∷ b ∷ c ∷ d ∷ e ∷ words) is = refl

ask_dashed : (words : List (List ℕ)) → list_any is_dashed words ≡ true → ask_job words ≡ None
ask_dashed [] is = refl
ask_dashed (a ∷ []) is = refl
ask_dashed (a ∷ b ∷ []) is = refl
ask_dashed (a ∷ b ∷ c ∷ []) is = refl
ask_dashed (a ∷ b ∷ c ∷ d ∷ []) is = refl
ask_dashed (a ∷ b ∷ c ∷ d ∷ e ∷ []) is = refl
ask_dashed (a ∷ b ∷ c ∷ d ∷ e ∷ f ∷ []) is =
    elim (or_true _ _ is) [
      | inl one ↦ base_dashed a b _ one
      | inr rest ↦
          elim (or_true _ _ rest) [
            | inl two ↦ rack_dashed a b _ two
            | inr rest ↦ made_none a b _ (λ n r s. asks n r s rest)
          ]
    ]
  where
    asks : (n : ℕ) (r : Rack) → IsSmall r → list_any is_dashed (c ∷ d ∷ e ∷ f ∷ []) ≡ true
        → reading 0 (r.clients - 1) c
        (λ x. reading 1 18446744073709551615 d
        (λ y. reading 1 100 e (λ z. reading 0 1000 f (λ w. Some (book.Ask n r x y z w)))))
        ≡ None
    asks n r s is =
        elim (or_true _ _ is) [
          | inl three ↦ unread 0 (r.clients - 1) c _ (omega (arith, s.clients)) three
          | inr rest ↦
              none_after (number_within 0 (r.clients - 1) c) _
              (λ x found. elim (or_true _ _ rest) [
                | inl four ↦ unread 1 18446744073709551615 d _ (omega arith) four
                | inr rest ↦
                    none_after (number_within 1 18446744073709551615 d) _
                    (λ y found. elim (or_true _ _ rest) [
                      | inl five ↦ unread 1 100 e _ (omega arith) five
                      | inr end ↦
                          none_after (number_within 1 100 e) _
                          (λ z found. unread 0 1000 f _ (omega arith) (last _ end))
                    ])
              ])
        ]
ask_dashed (a ∷ b ∷ c ∷ d ∷ e ∷ f ∷ g ∷ words) is = refl

rack_word_dashed :
    (words : List (List ℕ)) → list_any is_dashed words ≡ true → rack_job words ≡ None
rack_word_dashed [] is = refl
rack_word_dashed (a ∷ []) is = unread 1024 60000 a _ (omega arith) (last _ is)
rack_word_dashed (a ∷ b ∷ words) is = refl

-- a weight with a hyphen is none
no_weight : (x : ℕ) (parts : List (List ℕ)) → (x == 45) ≡ true
    → numbers_within 1 1000 (onto_first x parts) ≡ None
no_weight x [] is = unread 1 1000 (x ∷ []) _ (omega arith) is
no_weight x (part ∷ parts) is = unread 1 1000 (x ∷ part) _ (omega arith) is

no_weights : (r : Rack) (word : List ℕ) → is_dashed word ≡ true → weights_of r word ≡ None
no_weights r [] is = absurd (cc)
no_weights r (x ∷ xs) is =
    let no_colon : is_colon x ≡ false = grind (arith, nat_tests, is) in
    rw (slice_split-cons_no is_colon x xs no_colon, no_weight x (slice_split is_colon xs) is) refl

balanced_dashed : (words : List (List ℕ)) → list_any is_dashed words ≡ true
    → balanced_job words ≡ None
balanced_dashed [] is = refl
balanced_dashed (a ∷ []) is = refl
balanced_dashed (a ∷ b ∷ []) is = refl
balanced_dashed (a ∷ b ∷ c ∷ []) is = refl
balanced_dashed (a ∷ b ∷ c ∷ d ∷ []) is = refl
balanced_dashed (a ∷ b ∷ c ∷ d ∷ e ∷ []) is =
    elim (or_true _ _ is) [
      | inl one ↦ base_dashed a b _ one
      | inr rest ↦
          elim (or_true _ _ rest) [
            | inl two ↦ rack_dashed a b _ two
            | inr rest ↦ made_none a b _ (λ n r s. spreads n r s rest)
          ]
    ]
  where
    spreads : (n : ℕ) (r : Rack) → IsSmall r → list_any is_dashed (c ∷ d ∷ e ∷ []) ≡ true
        → reading 0 (r.switches - 1) c
        (λ w. reading 0 1000000000 d
        (λ t. option_map (λ ws. book.Balanced n r w t ws) (weights_of r e)))
        ≡ None
    spreads n r s is =
        elim (or_true _ _ is) [
          | inl three ↦ unread 0 (r.switches - 1) c _ (omega (arith, s.switches)) three
          | inr rest ↦
              none_after (number_within 0 (r.switches - 1) c) _
              (λ x found. elim (or_true _ _ rest) [
                | inl four ↦ unread 0 1000000000 d _ (omega arith) four
                | inr end ↦
                    none_after (number_within 0 1000000000 d) _
                    (λ y found. rw (no_weights r e (last _ end)) refl)
              ])
        ]
balanced_dashed (a ∷ b ∷ c ∷ d ∷ e ∷ f ∷ words) is = refl

dashed_by : (name : List ℕ) (words : List (List ℕ)) → Named name
    → list_any is_dashed (name ∷ words) ≡ true → job_of (name ∷ words) ≡ None
dashed_by _ [] replay is = absurd (cc)
dashed_by _ (a ∷ words) replay is = refl
dashed_by _ [] check is = absurd (cc)
dashed_by _ (a ∷ words) check is = refl
dashed_by _ words soak is = rw (soak_dashed words is) refl
dashed_by _ words switch is = rw (switch_dashed words is) refl
dashed_by _ words server is = rw (server_dashed words is) refl
dashed_by _ words control is = rw (control_dashed words is) refl
dashed_by _ words ask is = rw (ask_dashed words is) refl
dashed_by _ words whole_rack is = rw (rack_word_dashed words is) refl
dashed_by _ [] racks is = absurd (cc)
dashed_by _ (a ∷ words) racks is = refl
dashed_by _ words balanced is = rw (balanced_dashed words is) refl
dashed_by _ words (other name unlike) is = not_here name words unlike

pub dashed : (words : List (List ℕ)) → list_any is_dashed words ≡ true → job_of words ≡ None
dashed [] is = absurd (cc)
dashed (name ∷ words) is = dashed_by name words (named name) is
