-- What the judge has read is what stands in its lines.
use Rattle.std.proofs.Common.{◌≡◌, ◌≤◌, ◌+◌, ◌-◌, ◌⊎◌, ℕ, zero, suc, List, [], ◌∷◌, ◌++◌, length}
use Rattle.std.proofs.Common.{map, flat_map, Option, Some, None, refl, sym, ap, ◌∙◌, inl, inr}
use Rattle.std.proofs.Common.{arith, append-nil, append_assoc}
use Rattle.std.proofs.lemmas.List.{length_push, map_push}
use Rattle.peg_event.specs.declared.history.Op.{Op}
use Rattle.peg_meaning.specs.CheckWord.{CheckEntry, Skipped, History, Operation, Order, At, Done}
use Rattle.peg_meaning.specs.CheckWord.{Checked, Stage, Skipping, Reading, Finished, next_key}
use Rattle.peg_meaning.specs.CheckWord.{IsStageLine, IsCheckedLine, IsPlaceLine, IsOrderLine}
use Rattle.peg_meaning.specs.CheckWord.{with_place, checked_on, stage_on}
use Rattle.peg_word_law.specs.Judged.{operation_entries, order_entries, judged_entries}

-- the orders so far, of the last of which so many places are still to come
abbrev pub orders_so_far : ℕ → List (List ℕ × List ℕ) → List CheckEntry
orders_so_far unplaced [] = []
orders_so_far unplaced ((key, order) ∷ []) = Order key (length order + unplaced) ∷ map At order
orders_so_far unplaced (o ∷ next ∷ rest) = order_entries o ++ orders_so_far unplaced (next ∷ rest)

pub record IsTold (entries : List CheckEntry) (c : Checked) : Type 0 where
  pub skipped : List (List ℕ)
  pub total : ℕ
  pub lines :
      entries
      ≡ map Skipped skipped
      ++ (History total ∷ (operation_entries 0 c.ops ++ orders_so_far c.unplaced c.key_orders))
  pub all : total ≡ length c.ops + c.unread
  pub placing : (c.unplaced ≡ 0) ⊎ (1 ≤ length c.key_orders)

abbrev pub Tells : List CheckEntry → Stage → Type 0
Tells entries Skipping = (skipped : List (List ℕ)) × (entries ≡ map Skipped skipped)
Tells entries (Reading c) = IsTold entries c
Tells entries (Finished c) =
    (skipped : List (List ℕ)) × (entries ≡ judged_entries skipped c.ops c.key_orders)

-- ---- lists of lines

behind :
    (a b c d : List CheckEntry) (h : CheckEntry)
    → (a ++ (h ∷ (b ++ c))) ++ d ≡ a ++ (h ∷ (b ++ (c ++ d)))
behind a b c d h =
    append_assoc a (h ∷ (b ++ c)) d ∙ ap (λ t. a ++ (h ∷ t)) (append_assoc b c d)

operations_push :
    (number : ℕ) (ops : List Op) (op : Op)
    → operation_entries number (ops ++ op ∷ [])
    ≡ operation_entries number ops ++ Operation (number + length ops) op ∷ []
operations_push number [] op =
    let same : number ≡ number + 0 = omega arith in ap (λ n. Operation n op ∷ []) same
operations_push number (first ∷ ops) op =
    let same : number + 1 + length ops ≡ number + suc (length ops) = omega arith in
    ap (λ es. Operation number first ∷ es)
    (operations_push (number + 1) ops op
    ∙ ap (λ n. operation_entries (number + 1) ops ++ Operation n op ∷ []) same)

orders_whole :
    (key_orders : List (List ℕ × List ℕ))
    → orders_so_far 0 key_orders ≡ flat_map order_entries key_orders
orders_whole [] = refl
orders_whole ((key, order) ∷ []) =
    let same : length order + 0 ≡ length order = omega arith in
    ap (λ n. Order key n ∷ map At order) same ∙ sym (append-nil (order_entries (key, order)))
orders_whole (o ∷ next ∷ rest) =
    ap (λ es. order_entries o ++ es) (orders_whole (next ∷ rest))

orders_begun :
    (count : ℕ) (key : List ℕ) (key_orders : List (List ℕ × List ℕ))
    → orders_so_far count (key_orders ++ (key, []) ∷ [])
    ≡ flat_map order_entries key_orders ++ Order key count ∷ []
orders_begun count key [] =
    let same : 0 + count ≡ count = omega arith in ap (λ n. Order key n ∷ []) same
orders_begun count key (o ∷ []) =
    ap (λ es. order_entries o ++ es) (orders_begun count key [])
    ∙ sym (append_assoc (order_entries o) [] (Order key count ∷ []))
orders_begun count key (o ∷ next ∷ rest) =
    ap (λ es. order_entries o ++ es) (orders_begun count key (next ∷ rest))
    ∙ sym
    (append_assoc (order_entries o) (flat_map order_entries (next ∷ rest)) (Order key count ∷ []))

orders_placed :
    (unplaced place : ℕ) (key_orders : List (List ℕ × List ℕ)) → 1 ≤ length key_orders
    → orders_so_far unplaced (with_place place key_orders)
    ≡ orders_so_far (suc unplaced) key_orders ++ At place ∷ []
orders_placed unplaced place [] some = absurd (omega (arith, some))
orders_placed unplaced place ((key, order) ∷ []) some =
    let size = length_push order place in
    let same : length (order ++ place ∷ []) + unplaced ≡ length order + suc unplaced =
    omega (arith, size) in
    ap (λ n. Order key n ∷ map At (order ++ place ∷ [])) same
    ∙ ap (λ es. Order key (length order + suc unplaced) ∷ es) (map_push At order place)
orders_placed unplaced place (o ∷ next ∷ []) some =
    ap (λ es. order_entries o ++ es) (orders_placed unplaced place (next ∷ []) (omega arith))
    ∙ sym
    (append_assoc (order_entries o) (orders_so_far (suc unplaced) (next ∷ [])) (At place ∷ []))
orders_placed unplaced place (o ∷ next ∷ third ∷ rest) some =
    ap (λ es. order_entries o ++ es)
    (orders_placed unplaced place (next ∷ third ∷ rest) (omega arith))
    ∙ sym
    (append_assoc (order_entries o) (orders_so_far (suc unplaced) (next ∷ third ∷ rest))
    (At place ∷ []))

pub with_place_length :
    (place : ℕ) (key_orders : List (List ℕ × List ℕ))
    → length (with_place place key_orders) ≡ length key_orders
with_place_length place [] = refl
with_place_length place (o ∷ []) = refl
with_place_length place (o ∷ next ∷ rest) = ap suc (with_place_length place (next ∷ rest))

-- ---- a line

-- no order has begun while operations are still to come
abbrev pub NoneYet : Stage → Type 0
NoneYet (Reading c) = (c.unread ≡ 0) ⊎ (c.key_orders ≡ [])
NoneYet stage = Unit {0}

operation_told :
    (unread : ℕ) (entries : List CheckEntry) (c : Checked) (number : ℕ) (op : Op)
    → c.unread ≡ suc unread → number ≡ length c.ops → NoneYet (Reading c) → IsTold entries c
    → IsTold (entries ++ Operation number op ∷ []) (checked_on c (Operation number op))
operation_told unread entries c number op is at none_yet told =
    let none : c.key_orders ≡ [] = elim none_yet [
      | inl zero_left ↦ absurd (omega (arith, zero_left, is))
      | inr none ↦ none
    ] in
    let no_orders : orders_so_far c.unplaced c.key_orders ≡ [] =
    ap (λ os. orders_so_far c.unplaced os) none in
    let here : number ≡ 0 + length c.ops = omega (arith, at) in
    let a = map Skipped told.skipped in
    let b = operation_entries 0 c.ops in
    let size = length_push c.ops op in
    let all = told.all in
    record {
      skipped = told.skipped;
      total = told.total;
      lines =
          ap (λ es. es ++ Operation number op ∷ []) told.lines
          ∙ behind a b (orders_so_far c.unplaced c.key_orders) (Operation number op ∷ [])
          (History told.total)
          ∙ ap (λ os. a ++ (History told.total ∷ (b ++ (os ++ Operation number op ∷ [])))) no_orders
          ∙ ap (λ n. a ++ (History told.total ∷ (b ++ Operation n op ∷ []))) here
          ∙ ap (λ es. a ++ (History told.total ∷ es))
          (sym (operations_push 0 c.ops op)
          ∙ sym (append-nil (operation_entries 0 (c.ops ++ op ∷ [])))
          ∙ ap (λ os. operation_entries 0 (c.ops ++ op ∷ []) ++ os) (sym no_orders));
      all = omega (arith, all, size, is);
      placing = told.placing;
    }

order_told :
    (entries : List CheckEntry) (c : Checked) (key : List ℕ) (count : ℕ) → c.unplaced ≡ 0
    → IsTold entries c
    → IsTold (entries ++ Order key count ∷ []) (checked_on c (Order key count))
order_told entries c key count none told =
    let a = map Skipped told.skipped in
    let b = operation_entries 0 c.ops in
    let size = length_push c.key_orders (key, []) in
    record {
      skipped = told.skipped;
      total = told.total;
      lines =
          ap (λ es. es ++ Order key count ∷ []) told.lines
          ∙ behind a b (orders_so_far c.unplaced c.key_orders) (Order key count ∷ [])
          (History told.total)
          ∙ ap
          (λ n. a
          ++ (History told.total ∷ (b ++ (orders_so_far n c.key_orders ++ Order key count ∷ []))))
          none
          ∙ ap (λ os. a ++ (History told.total ∷ (b ++ (os ++ Order key count ∷ []))))
          (orders_whole c.key_orders)
          ∙ ap (λ os. a ++ (History told.total ∷ (b ++ os)))
          (sym (orders_begun count key c.key_orders));
      all = told.all;
      placing = inr (omega (arith, size));
    }

place_told :
    (unplaced : ℕ) (entries : List CheckEntry) (c : Checked) (place : ℕ)
    → c.unplaced ≡ suc unplaced → IsTold entries c
    → IsTold (entries ++ At place ∷ []) (checked_on c (At place))
place_told unplaced entries c place is told =
    let a = map Skipped told.skipped in
    let b = operation_entries 0 c.ops in
    let size = with_place_length place c.key_orders in
    let less : unplaced ≡ c.unplaced - 1 = omega (arith, is) in
    let some : 1 ≤ length c.key_orders = elim told.placing [
      | inl none ↦ absurd (omega (arith, none, is))
      | inr some ↦ some
    ] in
    record {
      skipped = told.skipped;
      total = told.total;
      lines =
          ap (λ es. es ++ At place ∷ []) told.lines
          ∙ behind a b (orders_so_far c.unplaced c.key_orders) (At place ∷ []) (History told.total)
          ∙ ap
          (λ n. a ++ (History told.total ∷ (b ++ (orders_so_far n c.key_orders ++ At place ∷ []))))
          is
          ∙ ap (λ os. a ++ (History told.total ∷ (b ++ os)))
          (sym (orders_placed unplaced place c.key_orders some))
          ∙ ap
          (λ n. a ++ (History told.total ∷ (b ++ orders_so_far n (with_place place c.key_orders))))
          less;
      all = told.all;
      placing = inr (omega (arith, some, size));
    }

done_told :
    (entries : List CheckEntry) (c : Checked) → c.unread ≡ 0 → c.unplaced ≡ 0 → IsTold entries c
    → Tells (entries ++ Done ∷ []) (Finished c)
done_told entries c read none told =
    let a = map Skipped told.skipped in
    let b = operation_entries 0 c.ops in
    let all = told.all in
    let whole : told.total ≡ length c.ops = omega (arith, all, read) in (
      told.skipped,
      ap (λ es. es ++ Done ∷ []) told.lines
          ∙ behind a b (orders_so_far c.unplaced c.key_orders) (Done ∷ []) (History told.total)
          ∙ ap
          (λ n. a ++ (History told.total ∷ (b ++ (orders_so_far n c.key_orders ++ Done ∷ []))))
          none
          ∙ ap (λ os. a ++ (History told.total ∷ (b ++ (os ++ Done ∷ []))))
          (orders_whole c.key_orders)
          ∙ ap
          (λ n. a ++ (History n ∷ (b ++ (flat_map order_entries c.key_orders ++ Done ∷ []))))
          whole,
    )

order_line_told :
    (o : Option (List ℕ)) (entries : List CheckEntry) (c : Checked) (line : List ℕ)
    (e : CheckEntry) → c.unread ≡ 0 → c.unplaced ≡ 0 → IsTold entries c → IsOrderLine o line e
    → Tells (entries ++ e ∷ []) (stage_on (Reading c) e)
order_line_told (Some next) entries c line (Order key count) read none told line_is =
    order_told entries c key count none told
order_line_told None entries c line Done read none told line_is =
    done_told entries c read none told
order_line_told _ entries c line e read none told line_is = absurd line_is

place_line_told :
    (unplaced : ℕ) (entries : List CheckEntry) (c : Checked) (line : List ℕ) (e : CheckEntry)
    → c.unread ≡ 0 → c.unplaced ≡ unplaced → IsTold entries c → IsPlaceLine unplaced c line e
    → Tells (entries ++ e ∷ []) (stage_on (Reading c) e)
place_line_told (suc unplaced) entries c line (At place) read is told line_is =
    place_told unplaced entries c place is told
place_line_told zero entries c line e read is told line_is =
    order_line_told (next_key c) entries c line e read is told line_is
place_line_told _ entries c line e read is told line_is = absurd line_is

checked_line_told :
    (unread : ℕ) (entries : List CheckEntry) (c : Checked) (line : List ℕ) (e : CheckEntry)
    → c.unread ≡ unread → NoneYet (Reading c) → IsTold entries c
    → IsCheckedLine unread c line e → Tells (entries ++ e ∷ []) (stage_on (Reading c) e)
checked_line_told (suc unread) entries c line (Operation number op) is none_yet told line_is =
    operation_told unread entries c number op is line_is.1 none_yet told
checked_line_told zero entries c line e is none_yet told line_is =
    place_line_told c.unplaced entries c line e is refl told line_is
checked_line_told _ entries c line e is none_yet told line_is = absurd line_is

pub line_told :
    (s : Stage) (entries : List CheckEntry) (line : List ℕ) (e : CheckEntry) → NoneYet s
    → Tells entries s → IsStageLine s line e → Tells (entries ++ e ∷ []) (stage_on s e)
line_told Skipping entries line (Skipped other) none_yet (skipped, same) line_is = (
  skipped ++ other ∷ [],
  ap (λ es. es ++ Skipped other ∷ []) same ∙ sym (map_push Skipped skipped other),
)
line_told Skipping entries line (History count) none_yet (skipped, same) line_is =
    record {
      skipped = skipped;
      total = count;
      lines = ap (λ es. es ++ History count ∷ []) same;
      all = omega arith;
      placing = inl refl;
    }
line_told (Reading c) entries line e none_yet told line_is =
    checked_line_told c.unread entries c line e refl none_yet told line_is
line_told _ entries line e none_yet told line_is = absurd line_is
