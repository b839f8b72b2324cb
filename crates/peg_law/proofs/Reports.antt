-- What a report of a server changes in the directory, in both machines.
use Rattle.std.proofs.Common.{◌≡◌, ◌<◌, ◌≤◌, ◌==◌, ◌&&◌, ℕ, Bool, true, false, List, [], ◌∷◌}
use Rattle.std.proofs.Common.{cond, length, Option, Some, None, option_map, refl, sym, ap, ◌∙◌}
use Rattle.std.proofs.Common.{subst, nat_lt}
use Rattle.std.proofs.Common.{arith}
use Rattle.std.proofs.lemmas.Bool.{cond_both, and_from, and_parts, lt-ltb}
use Rattle.std.proofs.lemmas.Bool.Decides.{nat_tests}
use Rattle.peg_model.specs.Words.{last_number}
use Rattle.peg_grammar.specs.State.{is_rising}
use Rattle.std.specs.List.{AllByRecursion}
use Rattle.std.specs.Map.{set_value, remove_entry}
use Rattle.std.specs.Str.{bytes_eq}
use Rattle.peg_name.specs.Name.{Rack, IsKey, home_of}
use Rattle.peg_name.specs.Holders.{with_holder}
use Rattle.peg_name.specs.declared.Note.{Note}
use Rattle.peg_name.specs.declared.Note.TheVariants as note
use Rattle.peg_event.specs.declared.answers.Listing.{Listing}
use Rattle.peg_model.specs.Rules.{Stamps, Directory, entry_of, reported, ends, note_of, note_reply}
use Rattle.peg_model.specs.Rules.{held_also_by, is_held_by}
use Rattle.peg_law.specs.Codes.{number_of, entry_code, entries_code}
use Rattle.peg_law.specs.Mirrors.{CoreFits, AreServers, IsListing, rack_code}
use Rattle.peg_law.proofs.Cores.{entry_is, put_changed, put_removed, all_set, all_removed}
use Rattle.peg_law.proofs.Cores.{distinct_set, distinct_removed, found_all, home_same}
use Rattle.peg_protocol.specs.Core as core
use Rattle.peg_protocol.specs.Core.{Entry, raised, noted, reaches, add_holder}

same_holders : (s : ℕ) (xs : List ℕ) → add_holder s xs ≡ with_holder s xs
same_holders s [] = refl
same_holders s (x ∷ xs) =
    ap (λ l. cond (nat_lt s x) (s ∷ x ∷ xs) (cond (s == x) (x ∷ xs) (x ∷ l))) (same_holders s xs)

more_holders :
    (n s : ℕ) (xs : List ℕ) → s < n → AllByRecursion (λ x. x < n) xs
    → (0 < length (with_holder s xs)) × AllByRecursion (λ x. x < n) (with_holder s xs)
more_holders n s [] less all = (omega arith, (less, tt))
more_holders n s (x ∷ xs) less all =
    cond_both (nat_lt s x) (s ∷ x ∷ xs)
    (cond (s == x) (x ∷ xs) (x ∷ with_holder s xs))
    (λ l. (0 < length l) × AllByRecursion (λ y. y < n) l) (λ y. (omega arith, (less, all)))
    (λ z.
    cond_both (s == x) (x ∷ xs) (x ∷ with_holder s xs)
    (λ l. (0 < length l) × AllByRecursion (λ y. y < n) l) (λ y. (omega arith, all))
    (λ y. (omega arith, (all.0, (more_holders n s xs less all.1).1))))

raised_is :
    (key : List ℕ) (s u : ℕ) (l : Listing)
    → raised s u (entry_code (key, l)) ≡ entry_code (key, (reported l s u).1)
raised_is key s u l = by_tests (nat_lt l.completed u) (u == l.completed)
  where
    by_tests :
        (a b : Bool)
        → cond a (record (entry_code (key, l)) { completed = u; holders = s ∷ [] })
        (cond b (record (entry_code (key, l)) { holders = add_holder s l.holders })
        (entry_code (key, l)))
        ≡ entry_code (
          key,
          (cond {A = Note × Listing} a (note.Raised, record l { completed = u; holders = s ∷ [] })
              (cond b (cond (is_held_by l s) note.Kept note.Added, held_also_by l s)
              (note.Kept, l))).1,
        )
    by_tests true b = refl
    by_tests false true =
        ap (λ h. record (entry_code (key, l)) { holders = h }) (same_holders s l.holders)
    by_tests false false = refl

reported_servers :
    (rack : Rack) (l : Listing) (s u : ℕ) → s < rack.servers → AreServers rack l.holders
    → AreServers rack (reported l s u).1.holders
reported_servers rack l s u less all =
    by_tests (nat_lt l.completed u) (u == l.completed)
  where
    by_tests :
        (a b : Bool)
        → AreServers rack
        (cond {A = Note × Listing} a (note.Raised, record l { completed = u; holders = s ∷ [] })
        (cond b (cond (is_held_by l s) note.Kept note.Added, held_also_by l s)
        (note.Kept, l))).1.holders
    by_tests true b = (omega arith, (less, tt))
    by_tests false true = more_holders rack.servers s l.holders less all.1
    by_tests false false = all

rising_more :
    (s x : ℕ) (xs : List ℕ) → x < s → is_rising (x ∷ xs) ≡ true
    → is_rising (x ∷ with_holder s xs) ≡ true
rising_more s x [] less r = and_from (nat_lt x s) true (lt-ltb x s less) refl
rising_more s x (y ∷ ys) less r =
    let p = and_parts (nat_lt x y) (is_rising (y ∷ ys)) r in
    by_tests (nat_lt s y) refl (s == y) refl p.0 p.1
    (λ l. rising_more s y ys l p.1)
  where
    by_tests :
        (a : Bool) → nat_lt s y ≡ a → (b : Bool) → (s == y) ≡ b → nat_lt x y ≡ true
        → is_rising (y ∷ ys) ≡ true
        → (y < s → is_rising (y ∷ with_holder s ys) ≡ true)
        → is_rising (x ∷ cond a (s ∷ y ∷ ys) (cond b (y ∷ ys) (y ∷ with_holder s ys))) ≡ true
    by_tests true e b f p q rest =
        and_from (nat_lt x s) (nat_lt s y && is_rising (y ∷ ys)) (lt-ltb x s less)
        (and_from (nat_lt s y) (is_rising (y ∷ ys)) e q)
    by_tests false e true f p q rest = and_from (nat_lt x y) (is_rising (y ∷ ys)) p q
    by_tests false e false f p q rest =
        and_from (nat_lt x y) (is_rising (y ∷ with_holder s ys)) p
        (rest (past s y e f))
      where
        past : (n k : ℕ) → nat_lt n k ≡ false → (n == k) ≡ false → k < n
        past n k = grind (arith, nat_tests)

rising_also : (s : ℕ) (xs : List ℕ) → is_rising xs ≡ true → is_rising (with_holder s xs) ≡ true
rising_also s [] r = refl
rising_also s (y ∷ ys) r =
    by_tests (nat_lt s y) refl (s == y) refl (λ l. rising_more s y ys l r)
  where
    by_tests :
        (a : Bool) → nat_lt s y ≡ a → (b : Bool) → (s == y) ≡ b
        → (y < s → is_rising (y ∷ with_holder s ys) ≡ true)
        → is_rising (cond a (s ∷ y ∷ ys) (cond b (y ∷ ys) (y ∷ with_holder s ys))) ≡ true
    by_tests true e b f rest = and_from (nat_lt s y) (is_rising (y ∷ ys)) e r
    by_tests false e true f rest = r
    by_tests false e false f rest = rest (past s y e f)
      where
        past : (n k : ℕ) → nat_lt n k ≡ false → (n == k) ≡ false → k < n
        past n k = grind (arith, nat_tests)

-- what a report leaves of an entry besides
reported_listing :
    (rack : Rack) (key k : List ℕ) (l : Listing) (s u : ℕ) → s < rack.servers
    → IsListing rack (key, l) → IsKey k → IsListing rack (k, (reported l s u).1)
reported_listing rack key k l s u less all is_key = (
  reported_servers rack l s u less all.0,
  rising (nat_lt l.completed u) (u == l.completed),
  is_key,
  listing (nat_lt l.completed u) (u == l.completed),
)
  where
    rising :
        (a b : Bool)
        → is_rising
        (cond {A = Note × Listing} a (note.Raised, record l { completed = u; holders = s ∷ [] })
        (cond b (cond (is_held_by l s) note.Kept note.Added, held_also_by l s)
        (note.Kept, l))).1.holders
        ≡ true
    rising true b = refl
    rising false true = rising_also s l.holders all.1
    rising false false = all.1

    listing :
        (a b : Bool)
        → (cond {A = Note × Listing} a (note.Raised, record l { completed = u; holders = s ∷ [] })
        (cond b (cond (is_held_by l s) note.Kept note.Added, held_also_by l s)
        (note.Kept, l))).1.listing
        ≤ last_number
    listing true b = all.3
    listing false true = all.3
    listing false false = all.3

ends_is : (home s u : ℕ) (o : Option ℕ) → (s == home && reaches o u) ≡ ends home o s u
ends_is home s u None = by_test (s == home)
  where
    by_test : (b : Bool) → (b && false) ≡ false
    by_test true = refl
    by_test false = refl
ends_is home s u (Some m) = refl

module _ (rack : Rack) (keys : List (List ℕ)) (stamps : Stamps) (entries : Directory) (last : ℕ)
    (c : core.Core) (f : CoreFits rack stamps entries last c) (s u : ℕ) (key : List ℕ)
    (within : s < rack.servers) where
  abbrev home : ℕ
  home = home_of rack.servers key

  noted_entry :
      (l : Listing) → IsListing rack (key, l)
      → CoreFits rack stamps (note_of (Some l) entries key home s u).1 last
      (record c {
        entries =
            core.put (number_of key)
            (noted (core.Rack.home (rack_code rack keys) (number_of key)) s u (entry_code (key, l)))
            c.entries;
      })
  noted_entry l servers =
      rw (home_same rack keys key, ends_is home s u l.mark, f.entries_is)
      (by_test (ends home l.mark s u))
    where
      by_test :
          (b : Bool)
          → let now = reported l s u in
          CoreFits rack stamps
          (cond {A = Note × Directory} b
          (note.Removed l.listing, remove_entry (bytes_eq key) entries)
          (now.0, set_value (bytes_eq key) entries now.1)).1
          last
          (record c {
            entries =
                core.put (number_of key) (cond b None (Some (raised s u (entry_code (key, l)))))
                (entries_code entries);
          })
      by_test true =
          record {
            next_is = f.next_is;
            count = f.count;
            rows = f.rows;
            entries_is = put_removed key entries f.distinct;
            most = f.most;
            holders = all_removed (IsListing rack) key entries f.holders;
            distinct = distinct_removed key entries f.distinct;
            last_is = f.last_is;
          }
      by_test false =
          let now = (reported l s u).1 in
          record {
            next_is = f.next_is;
            count = f.count;
            rows = f.rows;
            entries_is =
                ap (λ e. core.put (number_of key) (Some e) (entries_code entries))
                (raised_is key s u l)
                ∙ put_changed key now entries f.distinct;
            most = f.most;
            holders =
                all_set (IsListing rack) key now entries f.holders
                (λ k old x. reported_listing rack key k l s u within servers x.2);
            distinct = distinct_set key now entries f.distinct;
            last_is = f.last_is;
          }

  pub noted_is :
      CoreFits rack stamps (note_reply entries key home s u).1 last
      (core.note (rack_code rack keys) s u (number_of key)
      (core.entry_of (number_of key) c.entries) c)
  noted_is =
      subst
      (λ o.
      CoreFits rack stamps (note_reply entries key home s u).1 last
      (core.note (rack_code rack keys) s u (number_of key) o c))
      (sym (ap (core.entry_of (number_of key)) f.entries_is ∙ entry_is key entries))
      (by_case (entry_of entries key) refl)
    where
      by_case :
          (o : Option Listing) → entry_of entries key ≡ o
          → CoreFits rack stamps (note_of o entries key home s u).1 last
          (core.note (rack_code rack keys) s u (number_of key)
          (option_map (λ l. entry_code (key, l)) o) c)
      by_case None e = f
      by_case (Some l) e =
          noted_entry l (found_all (IsListing rack) key l entries f.holders e)
