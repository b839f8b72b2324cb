-- The lines of a client, and those of a schedule.
use Rattle.std.proofs.Common.{◌≡◌, ◌≤◌, ◌<◌, ◌+◌, ◌==◌, ◌^◌, ℕ, zero, suc, Bool, true, false, Option}
use Rattle.std.proofs.Common.{Some, None, List, [], ◌∷◌, ◌++◌, length, take, drop, get_or, option_map}
use Rattle.std.proofs.Common.{refl, sym, ap, subst, ◌∙◌, arith, append_assoc, add-one}
use Rattle.std.specs.Prelude.{codes, decimal, Contains, All, IfSome}
use Rattle.std.specs.List.{position, join_with_byte}
use Rattle.std.specs.Fmt.{digits}
use Rattle.std.proofs.lemmas.List.{take-append-drop}
use Rattle.std.proofs.lemmas.List.Quantifiers.{position-Some}
use Rattle.std.proofs.lemmas.List.Splits.{slice_split_at}
use Rattle.std.proofs.lemmas.Bool.Decides.{nat_tests}
use Rattle.std.proofs.lemmas.Option.{none-some, same_Some}
use Rattle.peg_name.specs.Name.{Rack}
use Rattle.peg_name.specs.declared.Format.TheVariants.{Two}
use Rattle.peg_name.specs.declared.value.Content.TheVariants.{Absent, Present}
use Rattle.peg_event.specs.declared.answers.Ask.TheVariants as ask
use Rattle.peg_event.specs.declared.Event.{Event}
use Rattle.peg_event.specs.declared.Event.TheVariants as event
use Rattle.peg_model.specs.Text.{key_word, value_word}
use Rattle.peg_model.specs.Schedule.{IsEventLine, event_lines, EventInRack, EventInRange}
use Rattle.peg_meaning.specs.Roles.{Asked, IsAskLine, AskInFormat, ask_line}
use Rattle.peg_text.specs.declared.event.Entry.{Entry}
use Rattle.peg_text.specs.declared.event.Entry.TheVariants as entry
use Rattle.peg_text.specs.EntryLine.{IsEntryLine}
use Rattle.peg_text.specs.Reading.{is_space, words_of}
use Rattle.peg_text.proofs.Cuts.{words-cut, words-one}
use Rattle.peg_text.proofs.Lines.{two_words, three_words, four_words, cut, joined, only_one, one_holds}
use Rattle.peg_text.proofs.Spaces.{AreSpaceless, decimal_spaceless, key_spaceless, value_spaceless}
use Rattle.peg_node.specs.Asks.{with_client_at, with_client, asked_event, asked_by, entry_asks}

-- ---- a list at one of its places

split_at :
    (line : List ℕ) (end d : ℕ) → end < length line
    → (take (suc end) line ≡ take end line ++ get_or line end d ∷ [])
    × (drop end line ≡ get_or line end d ∷ drop (suc end) line)
split_at [] end d less = absurd (omega (arith, less))
split_at (b ∷ line) zero d less = (refl, refl)
split_at (b ∷ line) (suc end) d less =
    let h = split_at line end d (omega (arith, less)) in (ap (λ xs. b ∷ xs) h.0, h.1)

front_all :
    (line : List ℕ) (end : ℕ)
    → ((k d : ℕ) → k < end → is_space (get_or line k d) ≡ false)
    → All (λ b. is_space b ≡ false) (take end line)
front_all line zero each k d less = absurd (omega (arith, less))
front_all [] (suc end) each k d less = absurd (omega (arith, less))
front_all (b ∷ line) (suc end) each zero d less = each 0 d (omega arith)
front_all (b ∷ line) (suc end) each (suc k) d less =
    front_all line end (λ j e small. each (suc j) e (omega (arith, small))) k d
    (omega (arith, less))

space_is : (b : ℕ) → is_space b ≡ true → b ≡ 32
space_is b e = grind (arith, nat_tests, e)

zero_all : All (λ b. is_space b ≡ false) (codes "0")
zero_all zero d less = refl
zero_all (suc k) d less = absurd (omega (arith, less))

put_in :
    (front rest : List ℕ)
    → (front ++ 32 ∷ []) ++ codes "0 " ++ rest ≡ front ++ (32 ∷ (codes "0" ++ (32 ∷ rest)))
put_in [] rest = refl
put_in (b ∷ front) rest = ap (λ xs. b ∷ xs) (put_in front rest)

-- the words with the number behind the first
words_with :
    (line : List ℕ) (end : ℕ) → position is_space line ≡ Some end
    → words_of (with_client_at line end)
    ≡ take end line ∷ codes "0" ∷ words_of (drop (end + 1) line)
words_with line end at =
    let found = position-Some is_space line end 0 at in
    let space = space_is (get_or line end 0) found.1 in
    let rest = drop (end + 1) line in
    let front : take (end + 1) line ≡ take end line ++ 32 ∷ [] =
    ap (λ n. take n line) (add-one end) ∙ (split_at line end 0 found.0).0
    ∙ ap (λ b. take end line ++ b ∷ []) space in
    let is : with_client_at line end
    ≡ take end line ++ (32 ∷ (codes "0" ++ (32 ∷ rest))) =
    ap (λ xs. xs ++ codes "0 " ++ rest) front ∙ put_in (take end line) rest in
    ap words_of is
    ∙ slice_split_at is_space (take end line) 32 (codes "0" ++ (32 ∷ rest))
    (front_all line end (λ k d less. (position-Some is_space line end d at).2 k less)) refl
    ∙ ap (λ ws. take end line ∷ ws) (slice_split_at is_space (codes "0") 32 rest zero_all refl)

zero_is : decimal 0 ≡ codes "0"
unfolding digits
zero_is = refl

-- ---- the words of an operation's line

abbrev verb_of : Asked → List ℕ
verb_of (key, ask.Read) = codes "read"
verb_of (key, ask.Write (Present value)) = codes "write"
verb_of (key, ask.Write Absent) = codes "delete"

abbrev more_of : Asked → List (List ℕ)
more_of (key, ask.Read) = []
more_of (key, ask.Write (Present value)) = value_word value ∷ []
more_of (key, ask.Write Absent) = []

abbrev words_in : Asked → List (List ℕ)
words_in asked = key_word asked.0 ∷ more_of asked

line_joins :
    (asked : Asked) → ask_line asked ≡ join_with_byte 32 (verb_of asked ∷ words_in asked)
line_joins (key, ask.Read) = two_words (codes "read") (key_word key)
line_joins (key, ask.Write (Present value)) =
    three_words (codes "write") (key_word key) (value_word value)
line_joins (key, ask.Write Absent) = two_words (codes "delete") (key_word key)

event_joins :
    (client : ℕ) (asked : Asked) (line : List ℕ)
    → Contains (event_lines (asked_event client asked)) line
    → line ≡ join_with_byte 32 (verb_of asked ∷ decimal client ∷ words_in asked)
event_joins client (key, ask.Read) line is =
    only_one _ line is ∙ three_words (codes "read") (decimal client) (key_word key)
event_joins client (key, ask.Write (Present value)) line is =
    only_one _ line is
    ∙ four_words (codes "write") (decimal client) (key_word key) (value_word value)
event_joins client (key, ask.Write Absent) line is =
    only_one _ line is ∙ three_words (codes "delete") (decimal client) (key_word key)

joins_event :
    (client : ℕ) (asked : Asked) (line : List ℕ)
    → line ≡ join_with_byte 32 (verb_of asked ∷ decimal client ∷ words_in asked)
    → Contains (event_lines (asked_event client asked)) line
joins_event client (key, ask.Read) line is =
    one_holds _ line (is ∙ sym (three_words (codes "read") (decimal client) (key_word key)))
joins_event client (key, ask.Write (Present value)) line is =
    one_holds _ line
    (is ∙ sym (four_words (codes "write") (decimal client) (key_word key) (value_word value)))
joins_event client (key, ask.Write Absent) line is =
    one_holds _ line (is ∙ sym (three_words (codes "delete") (decimal client) (key_word key)))

spaceless : (asked : Asked) → AreSpaceless (words_in asked)
spaceless (key, ask.Read) = (key_spaceless key, tt)
spaceless (key, ask.Write (Present value)) = (key_spaceless key, (value_spaceless value, tt))
spaceless (key, ask.Write Absent) = (key_spaceless key, tt)

with_verb :
    (asked : Asked) (ws : List (List ℕ)) → AreSpaceless ws → AreSpaceless (verb_of asked ∷ ws)
with_verb (key, ask.Read) ws all = (refl, all)
with_verb (key, ask.Write (Present value)) ws all = (refl, all)
with_verb (key, ask.Write Absent) ws all = (refl, all)

-- ---- the ranges

in_format :
    (rack : Rack) (client : ℕ) (asked : Asked) → EventInRack rack (asked_event client asked)
    → EventInRange (asked_event client asked) → AskInFormat rack.format asked.1
in_format rack client (key, ask.Read) in_rack range = tt
in_format rack client (key, ask.Write (Present value)) in_rack range = (in_rack.1, range.1)
in_format rack client (key, ask.Write Absent) in_rack range = in_rack.1

key_in :
    (client : ℕ) (asked : Asked) → EventInRange (asked_event client asked)
    → EventInRange (event.Read client asked.0)
key_in client (key, ask.Read) range = range
key_in client (key, ask.Write (Present value)) range = range.0
key_in client (key, ask.Write Absent) range = range

client_in :
    (rack : Rack) (client : ℕ) (asked : Asked) → EventInRack rack (asked_event client asked)
    → client < rack.clients
client_in rack client (key, ask.Read) in_rack = in_rack
client_in rack client (key, ask.Write (Present value)) in_rack = in_rack.0
client_in rack client (key, ask.Write Absent) in_rack = in_rack.0

rack_in :
    (rack : Rack) (asked : Asked) → 1 ≤ rack.clients → AskInFormat rack.format asked.1
    → EventInRack rack (asked_event 0 asked)
rack_in rack (key, ask.Read) some fits = some
rack_in rack (key, ask.Write (Present value)) some fits = (some, fits.0)
rack_in rack (key, ask.Write Absent) some fits = (some, fits)

range_in :
    (rack : Rack) (asked : Asked) → EventInRange (event.Read 0 asked.0)
    → AskInFormat rack.format asked.1 → EventInRange (asked_event 0 asked)
range_in rack (key, ask.Read) key_is fits = key_is
range_in rack (key, ask.Write (Present value)) key_is fits = (key_is, fits.1)
range_in rack (key, ask.Write Absent) key_is fits = key_is

-- ---- a line, and the line with the client

module _ (rack : Rack) (line : List ℕ) where
  asks_so :
      (asked : Asked) (client end : ℕ) → rack.clients ≤ 1024
      → position is_space line ≡ Some end
      → IsEventLine rack (with_client_at line end) (asked_event client asked)
      → IsAskLine rack.format line asked
  asks_so asked client end few at is =
      let below = client_in rack client asked is.in_rack in
      let small : client < 2 ^ 64 = omega (arith, below, few) in
      let words : words_of (with_client_at line end)
      ≡ verb_of asked ∷ decimal client ∷ words_in asked =
      cut (verb_of asked) (decimal client ∷ words_in asked) (with_client_at line end)
      (with_verb asked (decimal client ∷ words_in asked)
      (decimal_spaceless client small, spaceless asked))
      (event_joins client asked (with_client_at line end) is.spelled) in
      let same : take end line ∷ codes "0" ∷ words_of (drop (end + 1) line)
      ≡ verb_of asked ∷ decimal client ∷ words_in asked = sym (words_with line end at) ∙ words in
      let verb : take end line ≡ verb_of asked = cc (same) in
      let rest : words_of (drop (end + 1) line) ≡ words_in asked = cc (same) in
      record {
        key = key_in client asked is.in_range;
        content = in_format rack client asked is.in_rack is.in_range;
        spelled =
            joined (verb_of asked ∷ words_in asked) line
            (words-cut line end at ∙ ap (λ v. v ∷ words_of (drop (end + 1) line)) verb
            ∙ ap (λ ws. verb_of asked ∷ ws) rest)
            ∙ sym (line_joins asked);
      }

  words_asked :
      (asked : Asked) → IsAskLine rack.format line asked
      → words_of line ≡ verb_of asked ∷ words_in asked
  words_asked asked is =
      cut (verb_of asked) (words_in asked) line
      (with_verb asked (words_in asked) (spaceless asked)) (is.spelled ∙ line_joins asked)

  is_event :
      (asked : Asked) (end : ℕ) → 1 ≤ rack.clients → position is_space line ≡ Some end
      → IsAskLine rack.format line asked
      → IsEventLine rack (with_client_at line end) (asked_event 0 asked)
  is_event asked end some at is =
      let same : take end line ∷ words_of (drop (end + 1) line)
      ≡ verb_of asked ∷ words_in asked = sym (words-cut line end at) ∙ words_asked asked is in
      let verb : take end line ≡ verb_of asked = cc (same) in
      let rest : words_of (drop (end + 1) line) ≡ words_in asked = cc (same) in
      record {
        in_rack = rack_in rack asked some is.content;
        in_range = range_in rack asked is.key is.content;
        spelled =
            joins_event 0 asked (with_client_at line end)
            (joined (verb_of asked ∷ decimal 0 ∷ words_in asked) (with_client_at line end)
            (words_with line end at
            ∙ ap (λ v. v ∷ codes "0" ∷ words_of (drop (end + 1) line)) verb
            ∙ ap (λ ws. verb_of asked ∷ codes "0" ∷ ws) rest
            ∙ ap (λ v. verb_of asked ∷ v ∷ words_in asked) (sym zero_is)));
      }

  -- a line of an operation has a space
  some_space :
      (asked : Asked) (o : Option ℕ) → position is_space line ≡ o
      → IsAskLine rack.format line asked → (end : ℕ) × (o ≡ Some end)
  some_space asked (Some end) at is = (end, refl)
  some_space asked None at is =
      let same : line ∷ [] ≡ verb_of asked ∷ words_in asked =
      sym (words-one line at) ∙ words_asked asked is in
      absurd (cc)

-- ---- what is read of a line

by_event : (e : Event) (asked : Asked) → asked_by e ≡ Some asked
    → (client : ℕ) × (e ≡ asked_event client asked)
by_event (event.Read client key) asked is =
    (client, ap (λ (a : Asked). asked_event client a) (same_Some _ _ is))
by_event (event.Write client key value) asked is =
    (client, ap (λ (a : Asked). asked_event client a) (same_Some _ _ is))
by_event (event.Delete client key) asked is =
    (client, ap (λ (a : Asked). asked_event client a) (same_Some _ _ is))
by_event (event.Resend client) asked is = absurd (none-some _ is)
by_event (event.GiveUp client) asked is = absurd (none-some _ is)
by_event (event.Deliver number pick) asked is = absurd (none-some _ is)
by_event (event.Junk to bytes) asked is = absurd (none-some _ is)
by_event (event.Promote key) asked is = absurd (none-some _ is)
by_event (event.Demote key) asked is = absurd (none-some _ is)
by_event (event.Copy key target) asked is = absurd (none-some _ is)
by_event (event.Fence key) asked is = absurd (none-some _ is)
by_event (event.Handover target) asked is = absurd (none-some _ is)
by_event event.Clear asked is = absurd (none-some _ is)
by_event event.Retry asked is = absurd (none-some _ is)
by_event event.Survey asked is = absurd (none-some _ is)
by_event (event.Plan promote_at demote_below) asked is = absurd (none-some _ is)

by_asked : (client : ℕ) (asked : Asked) → asked_by (asked_event client asked) ≡ Some asked
by_asked client (key, ask.Read) = refl
by_asked client (key, ask.Write (Present value)) = refl
by_asked client (key, ask.Write Absent) = refl

module _ (rack : Rack) (line full : List ℕ) (is : with_client line ≡ Some full) where
  found : (o : Option ℕ) → position is_space line ≡ o
      → (end : ℕ) × (position is_space line ≡ Some end) × (with_client_at line end ≡ full)
  found (Some end) at =
      (end, at, same_Some _ _ (sym (ap (option_map (with_client_at line)) at) ∙ is))
  found None at = absurd (none-some _ (sym (ap (option_map (with_client_at line)) at) ∙ is))

  pub sound_read :
      (e : Event) (asked : Asked) → rack.clients ≤ 1024 → IsEventLine rack full e
      → asked_by e ≡ Some asked → IsAskLine rack.format line asked
  sound_read e asked few line_is by =
      let at = found (position is_space line) refl in
      let of = by_event e asked by in
      asks_so rack line asked of.0 at.0 few at.1
      (subst (λ (k : Event). IsEventLine rack (with_client_at line at.0) k) of.1
      (subst (λ (l : List ℕ). IsEventLine rack l e) (sym at.2) line_is))

  pub sound_of :
      (read : Option Entry) (result : Option Asked) → rack.clients ≤ 1024
      → IfSome read (IsEntryLine rack full) → result ≡ entry_asks read
      → IfSome result (IsAskLine rack.format line)
  sound_of read None few lines by = tt
  sound_of None (Some asked) few lines by = absurd (none-some asked (sym by))
  sound_of (Some entry.End) (Some asked) few lines by = absurd (none-some asked (sym by))
  sound_of (Some (entry.Event e)) (Some asked) few lines by =
      sound_read e asked few lines (sym by)

  pub complete_read :
      (read : Option Entry) → 1 ≤ rack.clients
      → ((e : Event) → IsEventLine rack full e → read ≡ Some (entry.Event e))
      → (asked : Asked) → IsAskLine rack.format line asked → entry_asks read ≡ Some asked
  complete_read read some event asked asks =
      let at = found (position is_space line) refl in
      let here = is_event rack line asked at.0 some at.1 asks in
      ap (λ (o : Option Entry). entry_asks o) (event (asked_event 0 asked)
      (subst (λ (l : List ℕ). IsEventLine rack l (asked_event 0 asked)) at.2 here))
      ∙ by_asked 0 asked

pub no_space :
    (rack : Rack) (line : List ℕ) → with_client line ≡ None → (asked : Asked)
    → IsAskLine rack.format line asked → ⊥
no_space rack line none asked asks =
    let at = some_space rack line asked (position is_space line) refl asks in
    none-some _ (sym none ∙ ap (option_map (with_client_at line)) at.1)
