-- No line that is spelled has a line feed in it.
use Rattle.std.proofs.Common.{◌≡◌, ◌≢◌, ◌<◌, ◌≤◌, ◌+◌, ◌-◌, ◌*◌, ◌/◌, ◌%◌, ◌^◌, ℕ, Bool, true}
use Rattle.std.proofs.Common.{false}
use Rattle.std.proofs.Common.{not, ◌&&◌, List, [], ◌∷◌, ◌++◌, refl, sym, arith, ap, ◌∙◌, rules}
use Rattle.std.proofs.Common.{subst}
use Rattle.std.specs.Prelude.{decimal, ◌==◌, if◌then◌else◌, codes, Contains, flat_map}
use Rattle.std.specs.List.{list_all, AllByRecursion}
use Rattle.std.specs.Str.{all_ascii_digits}
use Rattle.std.proofs.lemmas.Str.Parse.{IsNumeralModel, numerals_by_fold, tells_all_ascii_digits}
use Rattle.std.proofs.lemmas.Fmt.{digits_decimal}
use Rattle.std.proofs.lemmas.Bool.Decides.{nat_tests}
use Rattle.std.proofs.lemmas.List.Elements.{All-contains, All-from_recursion}
use Rattle.peg_name.specs.Limits.{is_between}
use Rattle.peg_name.specs.Name.{Rack, InLimits, servers_most, clients_most}
use Rattle.peg_name.specs.declared.Format.{Format}
use Rattle.peg_name.specs.declared.Format.TheVariants.{One, Two}
use Rattle.peg_name.specs.declared.Node.{Node}
use Rattle.peg_name.specs.declared.Node.TheVariants as node
use Rattle.peg_event.specs.declared.Event.{Event}
use Rattle.peg_event.specs.declared.Event.TheVariants as event
use Rattle.peg_model.specs.Text.{hex_digit, key_word, plain_or_escaped, hex_word}
use Rattle.peg_model.specs.Schedule.{IsRackLine, IsEventLine, rack_line, event_lines, format_words}
use Rattle.peg_model.specs.Schedule.{EventInRack, EventInRange, NodeInRack, node_words}
use Rattle.peg_io.specs.Lines.{HasNoFeed, line_of, past_line}

abbrev pub is_plain : List ℕ → Bool
is_plain w = list_all (λ b. not (b == 10)) w

both_true : (a b : Bool) → (a && b) ≡ true → (a ≡ true) × (b ≡ true)
both_true true b e = (refl, e)
both_true false b e = absurd (cc)

both_hold : (a b : Bool) → a ≡ true → b ≡ true → (a && b) ≡ true
both_hold a b e f = ap (λ t. t && b) e ∙ f

pub plain_feeds : (w : List ℕ) → is_plain w ≡ true → HasNoFeed w
plain_feeds [] e = tt
plain_feeds (b ∷ w) e =
    let parts = both_true (not (b == 10)) (is_plain w) e in
    let other = parts.0 in
    ((λ same. grind (arith, nat_tests)), plain_feeds w parts.1)

pub plain_more :
    (v w : List ℕ) → is_plain v ≡ true → is_plain w ≡ true → is_plain (v ++ w) ≡ true
plain_more [] w e f = f
plain_more (b ∷ v) w e f =
    let parts = both_true (not (b == 10)) (is_plain v) e in
    both_hold _ _ parts.0 (plain_more v w parts.1 f)

-- ---- numbers

abbrev read_on : ℕ → List ℕ → ℕ
read_on n [] = n
read_on n (c ∷ cs) = read_on (n * 10 + (c - 48)) cs

own : IsNumeralModel (λ ds. all_ascii_digits ds ≡ true) (read_on 0)
own = numerals_by_fold _ tells_all_ascii_digits read_on (search rules)

digits_plain : (w : List ℕ) → all_ascii_digits w ≡ true → is_plain w ≡ true
digits_plain [] e = refl
digits_plain (b ∷ w) e =
    let parts = both_true (is_between 48 57 b) (all_ascii_digits w) e in
    both_hold _ _ (grind (arith, nat_tests, parts.0)) (digits_plain w parts.1)

pub decimal_plain : (n : ℕ) → n < 2 ^ 64 → is_plain (decimal n) ≡ true
decimal_plain n small = digits_plain (decimal n) (digits_decimal own n small)

-- ---- keys and values

digit_plain : (letter n : ℕ) → 33 ≤ letter → not (hex_digit letter n == 10) ≡ true
digit_plain letter n big = grind (arith, nat_tests)

escaped_plain :
    (t : Bool) (b : ℕ) → t ≡ (is_between 33 126 b && not (b == 37))
    → is_plain (if t then b ∷ [] else 37 ∷ hex_digit 65 (b / 16) ∷ hex_digit 65 (b % 16) ∷ [])
    ≡ true
escaped_plain true b e = grind (arith, nat_tests)
escaped_plain false b e =
    both_hold _ _ (digit_plain 65 (b / 16) (omega arith))
    (both_hold _ _ (digit_plain 65 (b % 16) (omega arith)) refl)

pub key_plain : (bytes : List ℕ) → is_plain (key_word bytes) ≡ true
key_plain [] = refl
key_plain (b ∷ bytes) =
    plain_more (plain_or_escaped b) (key_word bytes)
    (escaped_plain (is_between 33 126 b && not (b == 37)) b refl) (key_plain bytes)

bytes_plain :
    (bytes : List ℕ)
    → is_plain (flat_map (λ b. hex_digit 97 (b / 16) ∷ hex_digit 97 (b % 16) ∷ []) bytes) ≡ true
bytes_plain [] = refl
bytes_plain (b ∷ bytes) =
    both_hold _ _ (digit_plain 97 (b / 16) (omega arith))
    (both_hold _ _ (digit_plain 97 (b % 16) (omega arith)) (bytes_plain bytes))

-- ---- lines

pub record IsPlain (w : List ℕ) : Type 0 where
  pub is : is_plain w ≡ true

more : {v w : List ℕ} → IsPlain v → IsPlain w → IsPlain (v ++ w)
more {v} {w} p q = record { is = plain_more v w p.is q.is }

number : (n : ℕ) → n < 2 ^ 64 → IsPlain (decimal n)
number n small = record { is = decimal_plain n small }

key : (k : List ℕ) → IsPlain (key_word k)
key k = record { is = key_plain k }

word : (w : List ℕ) → is_plain w ≡ true → IsPlain w
word w plain = record { is = plain }

format_plain : (format : Format) → IsPlain (format_words format)
format_plain One = record { is = refl }
format_plain Two = record { is = refl }

few_servers : (f : Format) (n : ℕ) → n ≤ servers_most f → n < 2 ^ 64
few_servers One n le = omega arith
few_servers Two n le = omega arith

few_clients : (f : Format) (n : ℕ) → n ≤ clients_most f → n < 2 ^ 64
few_clients One n le = omega arith
few_clients Two n le = omega arith

named_plain : (keys : List (List ℕ)) → IsPlain (flat_map (λ k. codes " +" ++ key_word k) keys)
named_plain [] = record { is = refl }
named_plain (k ∷ keys) = more (more (word (codes " +") refl) (key k)) (named_plain keys)

rack_plain :
    (rack : Rack) (keys : List (List ℕ)) → InLimits rack → IsPlain (rack_line rack keys)
rack_plain rack keys limits =
    let servers = more (word (codes "rack servers=") refl)
    (number rack.servers (few_servers rack.format rack.servers limits.servers.1)) in
    let clients = more (more servers (word (codes " clients=") refl))
    (number rack.clients (few_clients rack.format rack.clients limits.clients.1)) in
    let switches = more (more clients (word (codes " switches=") refl))
    (number rack.switches (omega (arith, limits.switches.1))) in
    let listed = more (more switches (word (codes " listed=") refl))
    (number rack.listed (omega (arith, limits.listed.1))) in
    let hot = more (more listed (word (codes " hot=") refl))
    (number rack.hot (omega (arith, limits.hot.1))) in
    let first = more (more hot (word (codes " first=") refl)) (number rack.first limits.first.1) in
    more (more first (format_plain rack.format)) (named_plain keys)

pub rack_feeds :
    (line : List ℕ) (rack : Rack) (keys : List (List ℕ)) → IsRackLine line rack keys
    → HasNoFeed line
rack_feeds line rack keys is =
    subst HasNoFeed (sym is.spelled)
    (plain_feeds (rack_line rack keys) (rack_plain rack keys is.limits).is)

-- a client of the rack has a small number
small_client : (rack : Rack) (client : ℕ) → InLimits rack → client < rack.clients → client < 2 ^ 64
small_client rack client limits less =
    let few : rack.clients < 2 ^ 64 = few_clients rack.format rack.clients limits.clients.1 in
    omega arith

abbrev AllPlain : List (List ℕ) → Type 0
AllPlain lines = AllByRecursion IsPlain lines

deliver_plain :
    (t : Bool) (short long : List ℕ) → IsPlain short → IsPlain long
    → AllPlain (if t then short ∷ long ∷ [] else long ∷ [])
deliver_plain true short long p q = (p, (q, tt))
deliver_plain false short long p q = (q, tt)

node_plain :
    (rack : Rack) (to : Node) → InLimits rack → NodeInRack rack to → IsPlain (node_words to)
node_plain rack (node.Client id) limits here =
    more (word (codes "client ") refl) (number id (small_client rack id limits here))
node_plain rack (node.Server id) limits here =
    let few : rack.servers < 2 ^ 64 = few_servers rack.format rack.servers limits.servers.1 in
    more (word (codes "server ") refl) (number id (omega (arith, here)))
node_plain rack (node.Switch id) limits here =
    more (word (codes "switch ") refl) (number id (omega (arith, here, limits.switches.1)))
node_plain rack node.Controller limits here = word (codes "controller") refl

-- a verb and a key
keyed : (verb k : List ℕ) → is_plain verb ≡ true → AllPlain ((verb ++ key_word k) ∷ [])
keyed verb k plain = (more (word verb plain) (key k), tt)

event_plain :
    (rack : Rack) (e : Event) → InLimits rack → EventInRack rack e → EventInRange e
    → AllPlain (event_lines e)
event_plain rack (event.Read client k) limits here range = (
  more (more (more (word (codes "read ") refl)
      (number client (small_client rack client limits here))) (word (codes " ") refl)) (key k),
  tt,
)
event_plain rack (event.Write client k value) limits here range = (
  more (more (more (more (more (word (codes "write ") refl)
      (number client (small_client rack client limits here.0))) (word (codes " ") refl)) (key k))
      (word (codes " ") refl)) (record { is = key_plain value }),
  tt,
)
event_plain rack (event.Delete client k) limits here range = (
  more (more (more (word (codes "delete ") refl)
      (number client (small_client rack client limits here.0))) (word (codes " ") refl)) (key k),
  tt,
)
event_plain rack (event.Resend client) limits here range =
    (more (word (codes "resend ") refl) (number client (small_client rack client limits here)), tt)
event_plain rack (event.GiveUp client) limits here range =
    (more (word (codes "giveup ") refl) (number client (small_client rack client limits here)), tt)
event_plain rack (event.Deliver n pick) limits here range =
    let short = more (word (codes "deliver ") refl) (number n range.0) in
    deliver_plain (pick == 0) (codes "deliver " ++ decimal n)
    (codes "deliver " ++ decimal n ++ codes " " ++ decimal pick) short
    (more (more short (word (codes " ") refl)) (number pick range.1))
event_plain rack (event.Junk to bytes) limits here range = (
  more (more (more (word (codes "junk ") refl) (node_plain rack to limits here))
      (word (codes " ") refl)) (word (hex_word bytes) (bytes_plain bytes)),
  tt,
)
event_plain rack (event.Promote k) limits here range = keyed (codes "promote ") k refl
event_plain rack (event.Demote k) limits here range = keyed (codes "demote ") k refl
event_plain rack (event.Copy k target) limits here range = (
  more (more (more (word (codes "copy ") refl) (key k)) (word (codes " ") refl))
      (number target (omega (arith, range.1))),
  tt,
)
event_plain rack (event.Fence k) limits here range = keyed (codes "fence ") k refl
event_plain rack (event.Handover target) limits here range =
    (more (word (codes "handover ") refl) (number target (omega (arith, range))), tt)
event_plain rack event.Clear limits here range = (word (codes "clear") refl, tt)
event_plain rack event.Retry limits here range = (word (codes "retry") refl, tt)
event_plain rack event.Survey limits here range = (word (codes "survey") refl, tt)
event_plain rack (event.Plan promote_at demote_below) limits here range = (
  more (more (more (word (codes "plan ") refl) (number promote_at range.0))
      (word (codes " ") refl)) (number demote_below range.1),
  tt,
)

contained : (lines : List (List ℕ)) (line : List ℕ) → AllPlain lines → Contains lines line → IsPlain
    line
contained lines line all has =
    All-contains IsPlain lines line (All-from_recursion IsPlain lines all) has

pub event_feeds :
    (rack : Rack) (line : List ℕ) (e : Event) → InLimits rack → IsEventLine rack line e
    → HasNoFeed line
event_feeds rack line e limits is =
    plain_feeds line
    (contained (event_lines e) line (event_plain rack e limits is.in_rack is.in_range)
    is.spelled).is

-- ---- a line before its line feed

is_other : (b : ℕ) → b ≢ 10 → (b == 10) ≡ false
is_other b other = grind (arith, nat_tests)

pub line_of_fed : (line rest : List ℕ) → HasNoFeed line → line_of (line ++ 10 ∷ rest) ≡ line
line_of_fed [] rest part = refl
line_of_fed (b ∷ line) rest part =
    let e = is_other b part.0 in rw e (ap (λ xs. b ∷ xs) (line_of_fed line rest part.1))

pub past_line_fed : (line rest : List ℕ) → HasNoFeed line → past_line (line ++ 10 ∷ rest) ≡ rest
past_line_fed [] rest part = refl
past_line_fed (b ∷ line) rest part =
    let e = is_other b part.0 in rw e (past_line_fed line rest part.1)
