-- A switch is sealed, and sends its parts again, in both machines.
use Rattle.std.proofs.Common.{◌≡◌, ◌<◌, ◌≤◌, ◌+◌, ◌==◌, ◌&&◌, ◌||◌, ℕ, zero, suc, Bool, true, false}
use Rattle.std.proofs.Common.{not, List, [], ◌∷◌}
use Rattle.std.proofs.Common.{cond, length, map, Option, Some, None, refl, sym, ap, ◌∙◌, subst}
use Rattle.std.proofs.Common.{nat_lt, nat_le}
use Rattle.std.proofs.Common.{arith, eq-eqb, lt-ltb}
use Rattle.std.proofs.lemmas.Bool.{and_from}
use Rattle.std.proofs.lemmas.Bool.Decides.{nat_tests}
use Rattle.std.proofs.lemmas.List.{map-append}
use Rattle.std.proofs.lemmas.List.Folds.{list_all-append}
use Rattle.std.proofs.lemmas.Slice.Eq.{bytes_eq-Decides}
use Rattle.std.specs.List.{AllByRecursion, IsDistinct, list_all}
use Rattle.std.specs.Map.{keys_of}
use Rattle.std.specs.Str.{bytes_eq}
use Rattle.peg_name.specs.Name.{Rack, IsKey}
use Rattle.peg_event.specs.declared.answers.Listing.{Listing}
use Rattle.peg_model.specs.Words.{last_number, below, is_in}
use Rattle.peg_model.specs.Packet.{is_number, is_positive, is_key, are_distinct}
use Rattle.peg_model.specs.Rules.{Stamps, Directory, entry_of}
use Rattle.peg_model.specs.Handover.{State, state_bytes, is_entry, is_stamp_row, is_mark}
use Rattle.peg_grammar.specs.State.{SpellsState, is_rising}
use Rattle.peg_law.specs.Mirrors.{CoreFits, IsListing, row_told}
use Rattle.peg_law.proofs.Parts.{told_is}
use Rattle.peg_protocol.specs.Core as core
use Rattle.peg_protocol.specs.Core.{at_one}

-- ---- the state of an active switch has a spelling

number : (n : ℕ) → n ≤ last_number → is_number n ≡ true
number n most = lt-ltb n (last_number + 1) (omega (arith, most))

rows_numbers :
    (issued : ℕ → ℕ) (n : ℕ) (c : core.Core) →
    ((client : ℕ) → client < n → issued client ≤ last_number)
    → ((client : ℕ) → (c.rows client).seq ≤ issued client)
    → ((client : ℕ) → (c.rows client).version ≤ c.next) → c.next ≤ last_number
    → list_all is_stamp_row (map (λ client. row_told (c.rows client)) (below n)) ≡ true
rows_numbers issued zero c few seqs versions most = refl
rows_numbers issued (suc n) c few seqs versions most =
    ap (list_all is_stamp_row)
    (map-append (λ client. row_told (c.rows client)) (below n) (n ∷ []))
    ∙ list_all-append is_stamp_row (map (λ client. row_told (c.rows client)) (below n))
    (row_told (c.rows n) ∷ [])
    ∙ and_from (list_all is_stamp_row (map (λ client. row_told (c.rows client)) (below n)))
    (list_all is_stamp_row (row_told (c.rows n) ∷ []))
    (rows_numbers issued n c (λ client less. few client (omega (arith, less))) seqs versions most)
    (let s = seqs n in
    let f = few n (omega arith) in
    let v = versions n in
    and_from (is_stamp_row (row_told (c.rows n))) true
    (and_from (is_number (c.rows n).seq) (is_number (c.rows n).version)
    (number (c.rows n).seq (omega (arith, s, f)))
    (number (c.rows n).version (omega (arith, v, most))))
    refl)

-- an entry's numbers, of those that a look-up finds
pub record EntryInRange (next : ℕ) (l : Listing) : Type 0 where
  pub base : l.base ≤ next
  pub completed : l.completed ≤ next
  pub mark : (m : ℕ) → l.mark ≡ Some m → (1 ≤ m) × (m ≤ next)

servers_all : (n : ℕ) (xs : List ℕ) → AllByRecursion (λ s. s < n) xs
    → list_all (λ server. nat_lt server n) xs ≡ true
servers_all n [] all = refl
servers_all n (x ∷ xs) all =
    and_from (nat_lt x n) (list_all (λ server. nat_lt server n) xs) (lt-ltb x n all.0)
    (servers_all n xs all.1)

mark_number : (next : ℕ) (o : Option ℕ) → next ≤ last_number
    → ((m : ℕ) → o ≡ Some m → (1 ≤ m) × (m ≤ next)) → is_mark o ≡ true
mark_number next None most h = refl
mark_number next (Some m) most h =
    let x = h m refl in
    let a = x.0 in
    let b = x.1 in
    and_from (nat_lt 0 m) (nat_lt m (last_number + 1)) (lt-ltb 0 m (omega (arith, a)))
    (lt-ltb m (last_number + 1) (omega (arith, b, most)))

key_is : (key : List ℕ) → IsKey key → is_key key ≡ true
key_is key k =
    and_from (nat_le 1 (length key)) (nat_le (length key) 32) (le_true 1 (length key) k.0)
    (le_true (length key) 32 k.1)
  where
    le_true : (a b : ℕ) → a ≤ b → nat_le a b ≡ true
    le_true a b l = grind (arith, nat_tests)

entry_number :
    (rack : Rack) (next : ℕ) (e : List ℕ × Listing) → next ≤ last_number → IsListing rack e
    → EntryInRange next e.1 → is_entry rack e ≡ true
entry_number rack next e most l r =
    let b = r.base in
    let c = r.completed in
    let k = is_key e.0 in
    let n1 = is_number e.1.listing in
    let n2 = is_number e.1.base in
    let n3 = is_number e.1.completed in
    let n4 = nat_lt 0 (length e.1.holders) in
    let n5 = list_all (λ server. nat_lt server rack.servers) e.1.holders in
    and_from (k && n1 && n2 && n3 && n4 && n5) (is_mark e.1.mark)
    (and_from (k && n1 && n2 && n3 && n4) n5
    (and_from (k && n1 && n2 && n3) n4
    (and_from (k && n1 && n2) n3
    (and_from (k && n1) n2
    (and_from k n1 (key_is e.0 l.2) (number e.1.listing l.3))
    (number e.1.base (omega (arith, b, most))))
    (number e.1.completed (omega (arith, c, most))))
    (lt-ltb 0 (length e.1.holders) l.0.0))
    (servers_all rack.servers e.1.holders l.0.1))
    (mark_number next e.1.mark most r.mark)

entries_numbers :
    (rack : Rack) (next : ℕ) (es : Directory) → next ≤ last_number
    → AllByRecursion (IsListing rack) es → AllByRecursion (λ e. EntryInRange next e.1) es
    → list_all (is_entry rack) es ≡ true
entries_numbers rack next [] most all each = refl
entries_numbers rack next (e ∷ es) most all each =
    and_from (is_entry rack e) (list_all (is_entry rack) es)
    (entry_number rack next e most all.0 each.0)
    (entries_numbers rack next es most all.1 each.1)

entries_sets :
    (rack : Rack) (es : Directory) → AllByRecursion (IsListing rack) es
    → list_all (λ (item : List ℕ × Listing). is_rising item.1.holders) es ≡ true
entries_sets rack [] all = refl
entries_sets rack (e ∷ es) all =
    and_from (is_rising e.1.holders)
    (list_all (λ (item : List ℕ × Listing). is_rising item.1.holders) es) all.0.1
    (entries_sets rack es all.1)

-- each entry is the one that its key finds
each_found :
    (P : List ℕ → Listing → Type 0) (es : Directory) → IsDistinct bytes_eq (keys_of es)
    → ((key : List ℕ) (l : Listing) → entry_of es key ≡ Some l → P key l)
    → AllByRecursion (λ e. P e.0 e.1) es
unfolding IsDistinct
each_found P [] d f = tt
each_found P (e ∷ es) d f = (
  f e.0 e.1 (ap (λ b. cond b (Some e.1) (entry_of es e.0)) ((bytes_eq-Decides e.0 e.0).1 refl)),
  each_found P es d.1
      (λ key l is. f key l (passed key l is (bytes_eq key e.0) refl)),
)
  where
    here_none : (ks : Directory) (key : List ℕ) →
        AllByRecursion (λ y. bytes_eq key y ≡ false) (keys_of ks)
        → entry_of ks key ≡ None
    here_none [] key all = refl
    here_none (x ∷ xs) key all =
        ap (λ b. cond b (Some x.1) (entry_of xs key)) all.0 ∙ here_none xs key all.1

    passed :
        (key : List ℕ) (l : Listing) → entry_of es key ≡ Some l → (b : Bool) → bytes_eq key e.0 ≡ b
        → cond (bytes_eq key e.0) (Some e.1) (entry_of es key) ≡ Some l
    passed key l is true t =
        let same : key ≡ e.0 = (bytes_eq-Decides key e.0).0 t in
        let none : entry_of es key ≡ None =
        here_none es key
        (subst (λ k. AllByRecursion (λ y. bytes_eq k y ≡ false) (keys_of es)) (sym same) d.0) in
        absurd (let x : None ≡ Some l = sym none ∙ is in cc)
    passed key l is false t =
        ap (λ b. cond b (Some e.1) (entry_of es key)) t ∙ is

distinct_are : (ks : List (List ℕ)) → IsDistinct bytes_eq ks → are_distinct ks ≡ true
unfolding IsDistinct
distinct_are [] d = refl
distinct_are (k ∷ ks) d =
    and_from (not (is_in k ks)) (are_distinct ks)
    (ap not (none_in ks d.0)) (distinct_are ks d.1)
  where
    none_in : (xs : List (List ℕ)) → AllByRecursion (λ y. bytes_eq k y ≡ false) xs
        → is_in k xs ≡ false
    none_in [] all = refl
    none_in (x ∷ xs) all = ap (λ b. b || is_in k xs) all.0 ∙ none_in xs all.1

pub spells_now :
    (rack : Rack) (stamps : Stamps) (entries : Directory) (last : ℕ) (c : core.Core)
    (issued : ℕ → ℕ) → CoreFits rack stamps entries last c
    → ((client : ℕ) → client < rack.clients → issued client ≤ last_number)
    → (next : 1 ≤ c.next) → ((client : ℕ) → (c.rows client).seq ≤ issued client)
    → ((client : ℕ) → (c.rows client).version ≤ c.next)
    → ((key : List ℕ) (l : Listing) → entry_of entries key ≡ Some l → EntryInRange c.next l)
    → length entries ≤ rack.listed → 1 ≤ last → last ≤ last_number
    → let state : State = record { stamps = stamps; last = last; entries = entries } in
    SpellsState rack (state_bytes rack.format state) state
spells_now rack stamps entries last c issued f few some seqs versions ranges room first most =
    let state : State = record { stamps = stamps; last = last; entries = entries } in
    let m = f.most in
    let n = f.next_is in
    let top : c.next ≤ last_number = omega (arith, m, n) in
    let rows : list_all is_stamp_row stamps.rows ≡ true =
    ap (λ (x : State). list_all is_stamp_row x.stamps.rows)
    (sym (told_is rack stamps entries last c f))
    ∙ rows_numbers issued rack.clients c few seqs versions top in
    let p1 = is_positive stamps.next in
    let p2 = is_positive last in
    let p3 = length stamps.rows == rack.clients in
    let p4 = list_all is_stamp_row stamps.rows in
    let p5 = nat_le (length entries) rack.listed in
    let p6 = list_all (is_entry rack) entries in
    record {
      in_range =
          and_from (p1 && p2 && p3 && p4 && p5 && p6) (are_distinct (keys_of entries))
          (and_from (p1 && p2 && p3 && p4 && p5) p6
          (and_from (p1 && p2 && p3 && p4) p5
          (and_from (p1 && p2 && p3) p4
          (and_from (p1 && p2) p3
          (and_from p1 p2 (positive stamps.next (omega (arith, n, some)) m)
          (positive last first most))
          (eq-eqb (length stamps.rows) rack.clients f.count))
          rows)
          (le_true (length entries) rack.listed room))
          (entries_numbers rack c.next entries top f.holders
          (each_found (λ key l. EntryInRange c.next l) entries f.distinct ranges)))
          (distinct_are (keys_of entries) f.distinct);
      sets = entries_sets rack entries f.holders;
      spelled = refl;
    }
  where
    positive : (k : ℕ) → 1 ≤ k → k ≤ last_number → is_positive k ≡ true
    positive k a b =
        and_from (nat_lt 0 k) (nat_lt k (last_number + 1)) (lt-ltb 0 k (omega (arith, a)))
        (lt-ltb k (last_number + 1) (omega (arith, b)))

    le_true : (a b : ℕ) → a ≤ b → nat_le a b ≡ true
    le_true a b l = grind (arith, nat_tests)
