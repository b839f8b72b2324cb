-- The function that reads the rack line reads just the lines that spell a rack and its keys.
use Rattle.std.proofs.Common.{◌≡◌, ◌<◌, ◌≤◌, ◌^◌, ℕ, Bool, true, false, cond, not, ◌&&◌, Option}
use Rattle.std.proofs.Common.{Some, None, Ok, Err, Result, List, [], ◌∷◌, ◌++◌, length, drop}
use Rattle.std.proofs.Common.{get_or, map, refl, arith, ap, sym, ◌∙◌, subst, append_assoc}
use Rattle.std.proofs.Common.{length-append, nat_lt}
use Rattle.std.specs.Prelude.{decimal, codes, option_map, option_and_then, flat_map, AllPairs}
use Rattle.std.specs.Prelude.{IfSome, ◌≢◌, if◌then◌else◌}
use Rattle.std.specs.Str.{bytes_eq}
use Rattle.std.specs.List.{join_with_byte, AllByRecursion}
use Rattle.std.specs.Result.{result_ok}
use Rattle.std.proofs.lemmas.List.{append-nil, drop_at, get_or_append_left, get_or_at}
use Rattle.std.proofs.lemmas.List.Quantifiers.{all_pairs_push}
use Rattle.std.proofs.lemmas.List.Folds.{flat_map-map, list_any_at, list_any_none}
use Rattle.std.proofs.lemmas.Option.{none-some, same_Some}
use Rattle.std.proofs.lemmas.Bool.Decides.{nat_tests, Decides-ltb}
use Rattle.std.proofs.lemmas.Slice.Eq.{bytes_eq-Decides}
use Rattle.peg_name.specs.Name.{Rack, InLimits, clients_most, servers_most}
use Rattle.peg_name.specs.Limits.{is_between, config_of, checked}
use Rattle.peg_name.specs.declared.Format.{Format}
use Rattle.peg_name.specs.declared.Format.TheVariants.{One, Two}
use Rattle.peg_model.specs.Text.{key_word}
use Rattle.peg_model.specs.Schedule.{format_words, rack_line, IsKeyOfBytes, IsRackLine}
use Rattle.peg_text.specs.Reading.{words_of, number_of, is_begun_by, key_of, behind, next_by}
use Rattle.peg_text.specs.Racks as racks
use Rattle.peg_text.specs.Racks.{literal, field_of, taken, Numbers, field, read_numbers, numbered}
use Rattle.peg_text.specs.Racks.{format_number, rack_with, read_rack, plus_key_of, is_held, added}
use Rattle.peg_text.specs.Racks.{keys_on, with_keys}
use Rattle.peg_text.proofs.Readers.{both_true, if_passed, map_some, and_then_some, then_some}
use Rattle.peg_text.proofs.Readers.{then_at, from_bytes_eq, WordLaw, ReadLaw, next_law, both_law}
use Rattle.peg_text.proofs.Numbers.{number_law}
use Rattle.peg_text.proofs.Spells.{key_law, begun_law, begun_by_front, behind_sound}
use Rattle.peg_text.proofs.Spaces.{is_spaceless, AreSpaceless, spaceless_more, decimal_spaceless}
use Rattle.peg_text.proofs.Spaces.{key_spaceless}
use Rattle.peg_text.proofs.Lines.{cut, joined}
use Rattle.peg_text.proofs.EventLines.{clients_few, servers_few}

-- ---- words

pub literal_law : (lit : List ℕ) → WordLaw (literal lit) (λ _. lit) (λ _. Unit {0})
literal_law lit = record {
  sound = λ w x e. (from_bytes_eq w lit (if_passed (bytes_eq w lit) (Some tt) x e).0, tt);
  complete = λ x ok. ap (λ b. cond b (Some tt) None) ((bytes_eq-Decides lit lit).1 refl);
}

pub field_law :
    (name : List ℕ) → WordLaw (field_of name) (λ n. name ++ decimal n) (λ n. n < 2 ^ 64)
field_law name = record {
  sound = λ w n e.
      let passed = if_passed (is_begun_by w name) (number_of (drop (length name) w)) n e in
      let said = number_law.sound (drop (length name) w) n passed.1 in
      (begun_law w name passed.0 ∙ ap (λ t. name ++ t) said.0, said.1);
  complete = λ n small.
      rw (begun_by_front name (decimal n), drop_at name (decimal n) (length name) refl)
      (number_law.complete n small);
}

abbrev plus_word : List ℕ → List ℕ
plus_word key = 43 ∷ key_word key

plus_law : WordLaw plus_key_of (λ key. 43 ∷ key_word key) IsKeyOfBytes
plus_law = record {
  sound = λ w key e.
      let got = and_then_some key_of (behind 43 w) key e in
      let said = key_law.sound got.0 key got.2 in
      (behind_sound 43 w got.0 got.1 ∙ ap (λ t. 43 ∷ t) said.0, said.1);
  complete = λ key ok. key_law.complete key ok;
}

-- ---- the numbers

abbrev Small : Numbers → Type 0
Small n =
    (n.0 < 2 ^ 64)
    × ((n.1.0 < 2 ^ 64)
    × ((n.1.1.0 < 2 ^ 64)
    × ((n.1.1.1.0 < 2 ^ 64) × ((n.1.1.1.1.0 < 2 ^ 64) × (n.1.1.1.1.1 < 2 ^ 64)))))

abbrev number_words : Numbers → List (List ℕ)
number_words n =
    (codes "servers=" ++ decimal n.0) ∷ (codes "clients=" ++ decimal n.1.0)
    ∷ (codes "switches=" ++ decimal n.1.1.0) ∷ (codes "listed=" ++ decimal n.1.1.1.0)
    ∷ (codes "hot=" ++ decimal n.1.1.1.1.0) ∷ (codes "first=" ++ decimal n.1.1.1.1.1) ∷ []

field_read :
    (name : List ℕ) → ReadLaw (field name) (λ n. (name ++ decimal n) ∷ []) (λ n. n < 2 ^ 64)
field_read name =
    next_law (field_of name) (λ n. name ++ decimal n) (λ n. n < 2 ^ 64) (field_law name)

numbers_read : ReadLaw read_numbers number_words Small
numbers_read =
    both_law _ _ _ (field_read (codes "servers=")) _ _ _ (
    both_law _ _ _ (field_read (codes "clients=")) _ _ _ (
    both_law _ _ _ (field_read (codes "switches=")) _ _ _ (
    both_law _ _ _ (field_read (codes "listed=")) _ _ _ (
    both_law _ _ _ (field_read (codes "hot=")) _ _ _ (field_read (codes "first="))))))

-- ---- the limits

ok_passed :
    {A E : Type 0} (b : Bool) (x : Result A E) (f : E) (z : A) → cond b x (Err f) ≡ Ok z
    → (b ≡ true) × (x ≡ Ok z)
ok_passed true x f z e = (refl, e)
ok_passed false x f z e = absurd (cc)

same_Ok : {A E : Type 0} (x y : A) → ◌≡◌ {A = Result A E} (Ok x) (Ok y) → x ≡ y
same_Ok x y e = cc

ok_some : {A E : Type 0} (r : Result A E) (x : A) → result_ok r ≡ Some x → r ≡ Ok x
ok_some (Ok y) x e = ap Ok (same_Some y x e)
ok_some (Err f) x e = absurd (none-some x e)

within : (low high n : ℕ) → is_between low high n ≡ true → (low ≤ n) × (n ≤ high)
within low high n e = grind (arith, nat_tests)

is_within : (low high n : ℕ) → (low ≤ n) × (n ≤ high) → is_between low high n ≡ true
is_within low high n ok = grind (arith, nat_tests, ok.0, ok.1)

checked_sound : (r rack : Rack) → r.first < 2 ^ 64 → checked r ≡ Ok rack → (r ≡ rack) × InLimits r
checked_sound r rack small e =
    let e1 = ok_passed _ _ _ rack e in
    let e2 = ok_passed _ _ _ rack e1.1 in
    let e3 = ok_passed _ _ _ rack e2.1 in
    let e4 = ok_passed _ _ _ rack e3.1 in
    let e5 = ok_passed _ _ _ rack e4.1 in
    let e6 = ok_passed _ _ _ rack e5.1 in
    let some : 0 < r.first = (Decides-ltb 0 r.first).0 e6.0 in (
      same_Ok r rack e6.1,
      record {
        servers = within 1 (servers_most r.format) r.servers e1.0;
        clients = within 1 (clients_most r.format) r.clients e2.0;
        switches = within 1 4 r.switches e3.0;
        listed = within 1 64 r.listed e4.0;
        hot = within 1 12 r.hot e5.0;
        first = (omega arith, small);
      },
    )

if_so :
    {A E : Type 0} (b : Bool) (x : Result A E) (f : E) (y : Result A E) → b ≡ true → x ≡ y
    → cond b x (Err f) ≡ y
if_so b x f y e same = ap (λ t. cond t x (Err f)) e ∙ same

checked_complete : (r : Rack) → InLimits r → checked r ≡ Ok r
checked_complete r limits =
    if_so _ _ _ _ (is_within 1 (servers_most r.format) r.servers limits.servers) (
    if_so _ _ _ _ (is_within 1 (clients_most r.format) r.clients limits.clients) (
    if_so _ _ _ _ (is_within 1 4 r.switches limits.switches) (
    if_so _ _ _ _ (is_within 1 64 r.listed limits.listed) (
    if_so _ _ _ _ (is_within 1 12 r.hot limits.hot) (
    if_so _ _ _ _ ((Decides-ltb 0 r.first).1 (omega (arith, limits.first.0))) refl)))))

abbrev numbers_of : Rack → Numbers
numbers_of rack =
    (rack.servers, (rack.clients, (rack.switches, (rack.listed, (rack.hot, rack.first)))))

abbrev in_format : Format → Rack → Rack
in_format format rack = record rack { format = format }

abbrev format_ws : Format → List (List ℕ)
format_ws One = []
format_ws Two = codes "format=2" ∷ []

rack_with_sound :
    (n : Numbers) (two : Bool) (left : List (List ℕ)) (rack : Rack) (end : List (List ℕ)) → Small n
    → rack_with n (two, left) ≡ Some (rack, end)
    → InLimits rack × (n ≡ numbers_of rack)
    × ((if two then codes "format=2" ∷ left else left) ≡ format_ws rack.format ++ end)
rack_with_sound n true left rack end small e =
    let got =
    map_some (λ (r : Rack). (r, left)) (result_ok (config_of 2 (numbered n))) (rack, end) e in
    let said =
    checked_sound (in_format Two (numbered n)) got.0 small.1.1.1.1.1 (ok_some _ got.0 got.1) in
    let same : in_format Two (numbered n) ≡ rack = said.0 ∙ ap (λ p. p.0) got.2 in
    let P :
    Rack
    → Type 0 = λ k. InLimits k × (n ≡ numbers_of k)
    × (codes "format=2" ∷ left ≡ format_ws k.format ++ end) in
    subst P same (said.1, refl, ap (λ p. codes "format=2" ∷ p.1) got.2)
rack_with_sound n false left rack end small e =
    let got =
    map_some (λ (r : Rack). (r, left)) (result_ok (config_of 1 (numbered n))) (rack, end) e in
    let said =
    checked_sound (in_format One (numbered n)) got.0 small.1.1.1.1.1 (ok_some _ got.0 got.1) in
    let same : in_format One (numbered n) ≡ rack = said.0 ∙ ap (λ p. p.0) got.2 in
    let P :
    Rack
    → Type 0 = λ k. InLimits k × (n ≡ numbers_of k) × (left ≡ format_ws k.format ++ end) in
    subst P same (said.1, refl, ap (λ p. p.1) got.2)

rack_with_complete :
    (format : Format) (rack : Rack) (left : List (List ℕ)) → rack.format ≡ format → InLimits rack
    → taken (codes "format=2") left ≡ (false, left)
    → rack_with (numbers_of rack) (taken (codes "format=2") (format_ws format ++ left))
    ≡ Some (rack, left)
rack_with_complete One rack left f limits other =
    let same : rack ≡ in_format One rack = ap (λ k. in_format k rack) f in
    ap (rack_with (numbers_of rack)) other
    ∙ ap (λ r. option_map {U = Rack × List (List ℕ)} (λ k. (k, left)) (result_ok r))
    (checked_complete (in_format One rack) (subst InLimits same limits) ∙ ap Ok (sym same))
rack_with_complete Two rack left f limits other =
    let same : rack ≡ in_format Two rack = ap (λ k. in_format k rack) f in
    ap (λ r. option_map {U = Rack × List (List ℕ)} (λ k. (k, left)) (result_ok r))
    (checked_complete (in_format Two rack) (subst InLimits same limits) ∙ ap Ok (sym same))

-- ---- the front of the line

taken_by :
    (t : Bool) (lit w : List ℕ) (ws : List (List ℕ)) → bytes_eq w lit ≡ t
    → let p : Bool × List (List ℕ) = cond t (true, ws) (false, w ∷ ws) in
    w ∷ ws ≡ (if p.0 then lit ∷ p.1 else p.1)
taken_by true lit w ws e = ap (λ v. v ∷ ws) (from_bytes_eq w lit e)
taken_by false lit w ws e = refl

taken_is :
    (lit : List ℕ) (ws : List (List ℕ))
    → ws ≡ (if (taken lit ws).0 then lit ∷ (taken lit ws).1 else (taken lit ws).1)
taken_is lit [] = refl
taken_is lit (w ∷ ws) = taken_by (bytes_eq w lit) lit w ws refl

abbrev front_words : Rack → List (List ℕ)
front_words rack = codes "rack" ∷ (number_words (numbers_of rack) ++ format_ws rack.format)

pub literal_read : (lit : List ℕ) → ReadLaw (next_by (literal lit)) (λ _. lit ∷ []) (λ _. Unit {0})
literal_read lit = next_law (literal lit) (λ _. lit) (λ _. Unit {0}) (literal_law lit)

read_rack_sound :
    (ws : List (List ℕ)) (rack : Rack) (left : List (List ℕ)) → read_rack ws ≡ Some (rack, left)
    → InLimits rack × (ws ≡ front_words rack ++ left)
read_rack_sound ws rack left e =
    let one = then_some (next_by (literal (codes "rack")) ws) _ (rack, left) e in
    let two = then_some (read_numbers one.0.1) _ (rack, left) one.2 in
    let first = (literal_read (codes "rack")).sound ws tt one.0.1 one.1 in
    let second = numbers_read.sound one.0.1 two.0.0 two.0.1 two.1 in
    let ahead = taken (codes "format=2") two.0.1 in
    let made = rack_with_sound two.0.0 ahead.0 ahead.1 rack left second.1 two.2 in (
      made.0,
      first.0 ∙ ap (λ t. codes "rack" ∷ t)
          (second.0 ∙ ap (λ t. number_words two.0.0
          ++ t) (taken_is (codes "format=2") two.0.1 ∙ made.2) ∙ ap (λ n. number_words n
          ++ (format_ws rack.format ++ left)) made.1),
    )

read_rack_complete :
    (rack : Rack) (left : List (List ℕ)) → InLimits rack
    → taken (codes "format=2") left ≡ (false, left)
    → read_rack (front_words rack ++ left) ≡ Some (rack, left)
read_rack_complete rack left limits other =
    let big :
    (rack.servers < 2 ^ 64)
    × (rack.clients < 2 ^ 64) = (
      omega (arith, limits.servers.1, servers_few rack.format),
      omega
          (arith, limits.clients.1, clients_few rack.format),
    )
    in
    then_at (read_numbers (number_words (numbers_of rack) ++ (format_ws rack.format ++ left)))
    (λ n end. rack_with n (taken (codes "format=2") end)) (numbers_of rack)
    (format_ws rack.format ++ left)
    (numbers_read.complete (numbers_of rack) (format_ws rack.format ++ left) (
      big.0,
      (
        big.1,
        (
          omega (arith, limits.switches.1),
          (
            omega (arith, limits.listed.1),
            (omega (arith, limits.hot.1), limits.first.1),
          ),
        ),
      ),
    ))
    ∙ rack_with_complete rack.format rack left refl limits other

-- ---- the keys

all_more :
    {X : Type 0} (P : X → Type 0) (xs : List X) (x : X) → AllByRecursion P xs → P x
    → AllByRecursion P (xs ++ x ∷ [])
all_more P [] x all ok = (ok, tt)
all_more P (y ∷ xs) x all ok = (all.0, all_more P xs x all.1 ok)

abbrev Distinct : List (List ℕ) → Type 0
Distinct keys = AllPairs (λ key other. key ≢ other) keys

held_not : (t : Bool) → t ≡ true → t ≡ false → ⊥
held_not t yes_it no_it = cc

other_key :
    (held : List (List ℕ)) (key : List ℕ) → is_held key held ≡ false → (k : ℕ) (d : List ℕ)
    → k < length held → get_or held k d ≢ key
other_key held key none k d less same =
    absurd
    (held_not (is_held key held) (list_any_at (λ x. bytes_eq x key) held k d less
    ((bytes_eq-Decides (get_or held k d) key).1 same)) none)

apart : (t : Bool) → (t ≡ true → ⊥) → t ≡ false
apart true no_it = absurd (no_it refl)
apart false no_it = refl

not_held :
    (held : List (List ℕ)) (key : List ℕ)
    → ((k : ℕ) (d : List ℕ) → k < length held → get_or held k d ≢ key) → is_held key held ≡ false
not_held held key others =
    list_any_none (λ x. bytes_eq x key) held
    (λ k d less. apart (bytes_eq (get_or held k d) key) (λ same. others k d less
    (from_bytes_eq (get_or held k d) key same)))

negated : (t : Bool) → not t ≡ true → t ≡ false
negated true e = absurd (cc)
negated false e = refl

added_sound :
    (listed : ℕ) (key : List ℕ) (held more : List (List ℕ)) → added listed key held ≡ Some more
    → (held ++ key ∷ [] ≡ more) × (length held < listed) × (is_held key held ≡ false)
added_sound listed key held more e =
    let passed =
    if_passed (nat_lt (length held) listed && not (is_held key held)) (Some (held ++ key ∷ []))
    more e in
    let parts = both_true (nat_lt (length held) listed) (not (is_held key held)) passed.0 in (
      same_Some _ more passed.1,
      (Decides-ltb (length held) listed).0 parts.0,
      negated
          (is_held key held) parts.1,
    )

-- the keys held, and those of the words behind
record Holds (listed : ℕ) (held : List (List ℕ)) : Type 0 where
  bytes : AllByRecursion IsKeyOfBytes held
  distinct : Distinct held
  few : length held ≤ listed

keys_on_sound :
    (listed : ℕ) (ws held keys : List (List ℕ)) → keys_on listed held ws ≡ Some keys
    → Holds listed held
    → Holds listed keys
    × ((more : List (List ℕ)) × (keys ≡ held ++ more) × (ws ≡ map plus_word more))
keys_on_sound listed [] held keys e holds =
    let same : held ≡ keys = same_Some held keys e in (
      subst (λ (k : List (List ℕ)). Holds listed k) same holds,
      ([], sym same ∙ sym (append-nil held), refl),
    )
keys_on_sound listed (w ∷ ws) held keys e holds =
    let one =
    and_then_some
    (λ key. option_and_then (λ more. keys_on listed more ws) (added listed key held))
    (plus_key_of w) keys e in
    let two =
    and_then_some (λ more. keys_on listed more ws) (added listed one.0 held) keys one.2 in
    let said = plus_law.sound w one.0 one.1 in
    let fit = added_sound listed one.0 held two.0 two.1 in
    let now : Holds listed (held ++ one.0 ∷ []) = record {
      bytes = all_more IsKeyOfBytes held one.0 holds.bytes said.1;
      distinct =
          all_pairs_push (λ key other. key ≢ other) held one.0 holds.distinct
          (other_key held one.0 fit.2);
      few = simp length-append (omega (arith, fit.1));
    } in
    let rest =
    keys_on_sound listed ws two.0 keys two.2
    (subst (λ (k : List (List ℕ)). Holds listed k) fit.0 now) in (
      rest.0,
      (
        one.0
            ∷ rest.1.0,
        rest.1.1 ∙ ap (λ k. k ++ rest.1.0) (sym fit.0) ∙ append_assoc held
            (one.0 ∷ []) rest.1.0,
        ap (λ v. v ∷ ws) said.0 ∙ ap (λ t. plus_word one.0 ∷ t)
            rest.1.2,
      ),
    )

keys_on_complete :
    (listed : ℕ) (more held : List (List ℕ)) → AllByRecursion IsKeyOfBytes more
    → Distinct (held ++ more) → length (held ++ more) ≤ listed
    → keys_on listed held (map plus_word more) ≡ Some (held ++ more)
keys_on_complete listed [] held all distinct few = ap Some (sym (append-nil held))
keys_on_complete listed (key ∷ more) held all distinct few =
    let room :
    nat_lt (length held) listed
    ≡ true = (Decides-ltb (length held) listed).1
    (omega (arith, length-append held (key ∷ more))) in
    let free :
    is_held key held
    ≡ false = not_held held key
    (λ k d less same. distinct k (length held) d less
    (omega (arith, length-append held (key ∷ more)))
    (get_or_append_left held (key ∷ more) d k less ∙ same ∙ sym
    (get_or_at held key more d (length held) refl)))
    in
    let one : added listed key held ≡ Some (held ++ key ∷ []) = rw (room, free) refl in
    let joins :
    (held ++ key ∷ []) ++ more ≡ held ++ key ∷ more = append_assoc held (key ∷ []) more in
    ap
    (option_and_then (λ k. option_and_then (λ next. keys_on listed next (map plus_word more))
    (added listed k held)))
    (plus_law.complete key all.0)
    ∙ ap (option_and_then (λ next. keys_on listed next (map plus_word more))) one
    ∙ keys_on_complete listed more (held ++ key ∷ []) all.1
    (subst (λ (k : List (List ℕ)). Distinct k) (sym joins) distinct)
    (subst (λ (k : List (List ℕ)). length k ≤ listed) (sym joins) few)
    ∙ ap Some joins

-- ---- the text of the line

join_cons :
    (x : List ℕ) (xs : List (List ℕ)) → join_with_byte 32 (x ∷ xs) ≡ x ++ flat_map (λ v. 32 ∷ v) xs
join_cons x [] = sym (append-nil x)
join_cons x (y ∷ ys) = ap (λ t. x ++ (32 ∷ t)) (join_cons y ys)

tail_text :
    (format : Format) (keys : List (List ℕ))
    → flat_map (λ v. 32 ∷ v) (format_ws format ++ map plus_word keys)
    ≡ format_words format ++ flat_map (λ key. codes " +" ++ key_word key) keys
tail_text One keys = flat_map-map (λ v. 32 ∷ v) plus_word keys
tail_text Two keys = ap (λ t. codes " format=2" ++ t) (flat_map-map (λ v. 32 ∷ v) plus_word keys)

long_text : (s c w l h f front keys : List ℕ)
    → codes "rack servers=" ++ s ++ codes " clients=" ++ c ++ codes " switches=" ++ w
    ++ codes " listed=" ++ l ++ codes " hot=" ++ h ++ codes " first=" ++ f ++ front ++ keys
    ≡ codes "rack"
    ++ ((codes " servers=" ++ s)
    ++ ((codes " clients=" ++ c)
    ++ ((codes " switches=" ++ w)
    ++ ((codes " listed=" ++ l)
    ++ ((codes " hot=" ++ h)
    ++ ((codes " first=" ++ f) ++ (front ++ keys)))))))
long_text s c w l h f front keys = simp append_assoc

rack_text :
    (rack : Rack) (keys : List (List ℕ))
    → rack_line rack keys ≡ join_with_byte 32 (front_words rack ++ map plus_word keys)
rack_text rack keys =
    long_text (decimal rack.servers) (decimal rack.clients) (decimal rack.switches)
    (decimal rack.listed) (decimal rack.hot) (decimal rack.first) (format_words rack.format)
    (flat_map (λ key. codes " +" ++ key_word key) keys)
    ∙ ap
    (λ t. codes "rack" ++ ((codes " servers=" ++ decimal rack.servers) ++
    ((codes " clients=" ++ decimal rack.clients) ++ ((codes " switches=" ++ decimal
    rack.switches) ++ ((codes " listed=" ++ decimal rack.listed) ++
    ((codes " hot=" ++ decimal rack.hot) ++ ((codes " first=" ++ decimal rack.first) ++
    t)))))))
    (sym (tail_text rack.format keys))
    ∙ sym
    (join_cons (codes "rack") ((number_words (numbers_of rack) ++ format_ws rack.format)
    ++ map plus_word keys))

all_both : (vs ws : List (List ℕ)) → AreSpaceless vs → AreSpaceless ws → AreSpaceless (vs ++ ws)
all_both [] ws all all' = all'
all_both (v ∷ vs) ws all all' = (all.0, all_both vs ws all.1 all')

plus_spaceless : (keys : List (List ℕ)) → AreSpaceless (map plus_word keys)
plus_spaceless [] = tt
plus_spaceless (key ∷ keys) = (key_spaceless key, plus_spaceless keys)

format_spaceless : (format : Format) → AreSpaceless (format_ws format)
format_spaceless One = tt
format_spaceless Two = (refl, tt)

field_spaceless :
    (name : List ℕ) (n : ℕ) → is_spaceless name ≡ true → n < 2 ^ 64
    → is_spaceless (name ++ decimal n) ≡ true
field_spaceless name n e small = spaceless_more name (decimal n) e (decimal_spaceless n small)

front_spaceless : (rack : Rack) → InLimits rack → AreSpaceless (front_words rack)
front_spaceless rack limits = (
  refl,
  all_both (number_words (numbers_of rack)) (format_ws rack.format) (
    field_spaceless (codes "servers=") rack.servers refl
        (omega (arith, limits.servers.1, servers_few rack.format)),
    (
      field_spaceless (codes "clients=") rack.clients refl
          (omega (arith, limits.clients.1, clients_few rack.format)),
      (
        field_spaceless (codes "switches=") rack.switches refl (omega (arith, limits.switches.1)),
        (
          field_spaceless (codes "listed=") rack.listed refl (omega (arith, limits.listed.1)),
          (
            field_spaceless (codes "hot=") rack.hot refl (omega (arith, limits.hot.1)),
            (field_spaceless (codes "first=") rack.first refl limits.first.1, tt),
          ),
        ),
      ),
    ),
  ) (format_spaceless rack.format),
)

no_format :
    (keys : List (List ℕ))
    → taken (codes "format=2") (map plus_word keys) ≡ (false, map plus_word keys)
no_format [] = refl
no_format (key ∷ keys) = refl

-- ---- both ways

pub rack_complete :
    (line : List ℕ) (rack : Rack) (keys : List (List ℕ)) → IsRackLine line rack keys
    → racks.rack_of line ≡ Some (rack, keys)
rack_complete line rack keys is =
    let words : words_of line ≡ front_words rack ++ map plus_word keys =
    cut (codes "rack")
    ((number_words (numbers_of rack) ++ format_ws rack.format) ++ map plus_word keys) line
    (all_both (front_words rack) (map plus_word keys) (front_spaceless rack is.limits)
    (plus_spaceless keys))
    (is.spelled ∙ rack_text rack keys) in
    ap (λ ws. option_and_then with_keys (read_rack ws)) words
    ∙ ap (option_and_then with_keys)
    (read_rack_complete rack (map plus_word keys) is.limits (no_format keys))
    ∙ ap (option_map {U = Rack × List (List ℕ)} (λ k. (rack, k)))
    (keys_on_complete rack.listed keys [] is.named.0 is.named.1 is.named.2)

pub rack_sound :
    (line : List ℕ) (rack : Rack) (keys : List (List ℕ)) → racks.rack_of line ≡ Some (rack, keys)
    → IsRackLine line rack keys
rack_sound line rack keys e =
    let one = and_then_some with_keys (read_rack (words_of line)) (rack, keys) e in
    let two =
    map_some (λ (k : List (List ℕ)). (one.0.0, k)) (keys_on one.0.0.listed [] one.0.1)
    (rack, keys) one.2 in
    let front = read_rack_sound (words_of line) one.0.0 one.0.1 one.1 in
    let none :
    Holds one.0.0.listed [] = record {
      bytes = tt;
      distinct = λ i j d low high. absurd (omega arith);
      few = omega arith;
    } in
    let rest = keys_on_sound one.0.0.listed one.0.1 [] two.0 two.1 none in
    let words :
    words_of line
    ≡ front_words one.0.0
    ++ map plus_word two.0 = front.1 ∙ ap (λ t. front_words one.0.0 ++ t)
    (rest.1.2 ∙ ap (map plus_word) (sym rest.1.1)) in
    let made : IsRackLine line one.0.0 two.0 = record {
      limits = front.0;
      named = (rest.0.bytes, rest.0.distinct, rest.0.few);
      spelled = joined _ line words ∙ sym (rack_text one.0.0 two.0);
    } in
    let P : Rack × List (List ℕ) → Type 0 = λ p. IsRackLine line p.0 p.1 in
    subst P two.2 made

pub rack_only :
    (line : List ℕ) (r : Option (Rack × List (List ℕ))) → r ≡ racks.rack_of line
    → IfSome r (λ p. IsRackLine line p.0 p.1)
rack_only line None e = tt
rack_only line (Some p) e = rack_sound line p.0 p.1 (sym e)
