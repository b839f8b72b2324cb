-- The bytes of a state, cut into parts and joined again, and what the parts of a core tell.
use Rattle.std.proofs.Common.{◌≡◌, ◌<◌, ◌≤◌, ◌+◌, ◌*◌, ◌/◌, ℕ, zero, suc, List, [], ◌∷◌, ◌++◌}
use Rattle.std.proofs.Common.{length, map, refl, sym, ap, ◌∙◌, subst}
use Rattle.std.proofs.Common.{arith, append-nil}
use Rattle.std.proofs.lemmas.List.{map-append, length-map}
use Rattle.std.proofs.lemmas.Grind.{flat_map-append}
use Rattle.std.specs.Prelude.{take, drop, flat_map, slice_index_or}
use Rattle.peg_name.specs.Name.{Rack}
use Rattle.peg_name.specs.declared.Node.{Node}
use Rattle.peg_name.specs.declared.Node.TheVariants as node
use Rattle.peg_model.specs.Words.{below}
use Rattle.peg_model.specs.Packet as packet
use Rattle.peg_model.specs.Rules.{Stamps, Directory, row_of}
use Rattle.peg_model.specs.Handover.{parts, part_of}
use Rattle.peg_grammar.specs.State.{SpellsState}
use Rattle.peg_law.specs.Codes.{entries_code}
use Rattle.peg_law.specs.Mirrors.{Paired, ItemFits, CoreFits, row_told, entry_told, state_told}
use Rattle.peg_law.specs.Mirrors.{part_bytes}
use Rattle.peg_law.proofs.Codes.{bytes_of-number}
use Rattle.peg_law.proofs.Lists.{length_below}
use Rattle.peg_law.proofs.Tables.{paired_push}
use Rattle.peg_law.proofs.Start.{made}
use Rattle.peg_protocol.specs.Core as core
use Rattle.peg_protocol.specs.Packet as law
use Rattle.peg_protocol.specs.System as system

-- ---- a core tells the state of its switch

below_front : (n : ℕ) → below (suc n) ≡ 0 ∷ map suc (below n)
below_front zero = refl
below_front (suc n) =
    ap (λ l. l ++ suc n ∷ []) (below_front n)
    ∙ ap (λ l. 0 ∷ l) (sym (map-append suc (below n) (n ∷ [])))

map_twice : {A : Type 0} (f : ℕ → A) (xs : List ℕ) → map f (map suc xs) ≡ map (λ i. f (suc i)) xs
map_twice f [] = refl
map_twice f (x ∷ xs) = ap (λ l. f (suc x) ∷ l) (map_twice f xs)

pub each_row : {A : Type 0} (xs : List A) (d : A) →
    map (λ i. slice_index_or xs i d) (below (length xs)) ≡ xs
each_row [] d = refl
each_row (x ∷ xs) d =
    ap (map (λ i. slice_index_or (x ∷ xs) i d)) (below_front (length xs))
    ∙ ap (λ l. x ∷ l)
    (map_twice (λ i. slice_index_or (x ∷ xs) i d) (below (length xs)) ∙ each_row xs d)

entries_told : (es : Directory) → map entry_told (entries_code es) ≡ es
entries_told [] = refl
entries_told (e ∷ es) =
    ap (λ k. (k, e.1) ∷ map entry_told (entries_code es)) (bytes_of-number e.0)
    ∙ ap (λ l. e ∷ l) (entries_told es)

pub told_is :
    (rack : Rack) (stamps : Stamps) (entries : Directory) (last : ℕ) (c : core.Core)
    → CoreFits rack stamps entries last c
    → state_told rack c ≡ record { stamps = stamps; last = last; entries = entries }
told_is rack stamps entries last c f =
    ap
    (λ n.
    record {
      stamps = record {
        next = n;
        rows = map (λ client. row_told (c.rows client)) (below rack.clients);
      };
      last = c.last;
      entries = map entry_told c.entries;
    })
    f.next_is
    ∙ ap
    (λ rows.
    record {
      stamps = record { next = stamps.next; rows = rows };
      last = c.last;
      entries = map entry_told c.entries;
    })
    rows_are
    ∙ ap
    (λ n.
    record { stamps = stamps; last = n; entries = map entry_told c.entries })
    f.last_is
    ∙ ap (λ es. record { stamps = stamps; last = last; entries = es })
    (ap (map entry_told) f.entries_is ∙ entries_told entries)
  where
    told : ℕ → ℕ × ℕ
    told client = row_told (c.rows client)

    kept : ℕ → ℕ × ℕ
    kept client = row_of stamps client

    same : told ≡ kept
    same = λ i client. f.rows client i

    rows_are : map (λ client. row_told (c.rows client)) (below rack.clients) ≡ stamps.rows
    rows_are =
        ap (λ (g : ℕ → ℕ × ℕ). map g (below rack.clients)) same
        ∙ ap (λ n. map (λ client. row_of stamps client) (below n)) (sym f.count)
        ∙ each_row stamps.rows (0, 0)

-- ---- the parts one by one

pub part_at :
    (bytes : List ℕ) (i : ℕ) → i < length (parts bytes)
    → slice_index_or (parts bytes) i [] ≡ part_of bytes i
part_at bytes i less =
    let n = (length bytes + 511) / 512 in
    let count : length (parts bytes) ≡ n =
    length-map (below n) (part_of bytes) ∙ length_below n in
    made (part_of bytes) (λ j. []) n i (λ x. x ≡ part_of bytes i) (λ l. refl)
    (λ most. absurd (omega (arith, most, less, count)))

-- ---- joined again

abbrev nothing : List ℕ
nothing = []

take_none : (n : ℕ) → take n nothing ≡ nothing
take_none zero = refl
take_none (suc n) = refl

take_more : (a b : ℕ) (xs : List ℕ) → take (a + b) xs ≡ take a xs ++ take b (drop a xs)
take_more zero b xs = let e : 0 + b ≡ b = omega arith in ap (λ n. take n xs) e
take_more (suc a) b [] = take_none (suc a + b) ∙ sym (take_none b)
take_more (suc a) b (x ∷ xs) =
    let e : suc a + b ≡ suc (a + b) = omega arith in
    ap (λ n. take n (x ∷ xs)) e ∙ ap (λ l. x ∷ l) (take_more a b xs)

take_all : (n : ℕ) (xs : List ℕ) → length xs ≤ n → take n xs ≡ xs
take_all zero [] most = refl
take_all zero (x ∷ xs) most = absurd (omega (arith, most))
take_all (suc n) [] most = refl
take_all (suc n) (x ∷ xs) most = ap (λ l. x ∷ l) (take_all n xs (omega (arith, most)))

joined_to : (bytes : List ℕ) (n : ℕ) → flat_map (part_of bytes) (below n) ≡ take (512 * n) bytes
joined_to bytes zero = refl
joined_to bytes (suc n) =
    flat_more (below n) (n ∷ [])
    ∙ ap (λ l. l ++ (part_of bytes n ++ [])) (joined_to bytes n)
    ∙ ap (λ l. take (512 * n) bytes ++ l) (append-nil (part_of bytes n))
    ∙ sym (take_more (512 * n) 512 bytes)
    ∙ (let e : 512 * n + 512 ≡ 512 * suc n = omega arith in ap (λ k. take k bytes) e)
  where
    flat_more : (xs ys : List ℕ)
        → flat_map (part_of bytes) (xs ++ ys)
        ≡ flat_map (part_of bytes) xs ++ flat_map (part_of bytes) ys
    flat_more xs ys = flat_map-append (part_of bytes) xs ys

pub joined : (bytes : List ℕ) → flat_map (part_of bytes) (below (length (parts bytes))) ≡ bytes
joined bytes =
    let n = (length bytes + 511) / 512 in
    let count : length (parts bytes) ≡ n =
    length-map (below n) (part_of bytes) ∙ length_below n in
    ap (λ k. flat_map (part_of bytes) (below k)) count ∙ joined_to bytes n
    ∙ take_all (512 * n) bytes (omega arith)

-- ---- what a sealed switch sends

abbrev pub part_item : List ℕ → ℕ → ℕ → ℕ → Node × packet.Packet
part_item bytes target epoch i = (
  node.Switch target,
  packet.Part epoch i (length (parts bytes)) (slice_index_or (parts bytes) i []),
)

pub parts_paired :
    (rack : Rack) (c : core.Core) (target epoch n k : ℕ)
    → CoreFits rack (state_told rack c).stamps (state_told rack c).entries c.last c
    → SpellsState rack (part_bytes rack c) (state_told rack c) → target < rack.switches
    → n ≡ length (parts (part_bytes rack c)) → k ≤ n
    → Paired (ItemFits rack) (map (part_item (part_bytes rack c) target epoch) (below k))
    (system.parts_of target epoch n c k)
parts_paired rack c target epoch n zero fits spelled within count most = tt
parts_paired rack c target epoch n (suc k) fits spelled within count most =
    let bytes = part_bytes rack c in
    subst (λ ps. Paired (ItemFits rack) ps (system.parts_of target epoch n c (suc k)))
    (sym (map-append (part_item bytes target epoch) (below k) (k ∷ [])))
    (paired_push (ItemFits rack) (map (part_item bytes target epoch) (below k))
    (part_item bytes target epoch k) (system.parts_of target epoch n c k)
    (law.item (law.Switch target) (law.Part epoch k n c))
    (parts_paired rack c target epoch n k fits spelled within count (omega (arith, most)))
    (record {
      sent = within;
      to = refl;
      packet = record {
        state = c;
        is = ap (λ m. law.Part epoch k m c) count;
        parts = refl;
        among = omega (arith, most, count);
        slice = part_at bytes k (omega (arith, most, count));
        fits = fits;
        spelled = spelled;
      };
    }))
