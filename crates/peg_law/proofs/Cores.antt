-- The directory and the stamps of a switch, in both machines.
use Rattle.std.proofs.Common.{◌≡◌, ◌<◌, ◌≤◌, ◌==◌, ◌&&◌, ◌%◌, ℕ, zero, suc, Bool, true, false, not}
use Rattle.std.proofs.Common.{List, [], ◌∷◌}
use Rattle.std.proofs.Common.{cond, length, Option, Some, None, is_none, is_some, option_map, refl}
use Rattle.std.proofs.Common.{sym, ap, ◌∙◌, subst, nat_lt}
use Rattle.std.proofs.Common.{arith}
use Rattle.std.proofs.lemmas.Bool.{cond_both}
use Rattle.std.proofs.lemmas.Map.{keys-set_value}
use Rattle.std.proofs.lemmas.Slice.Eq.{bytes_eq-Decides}
use Rattle.std.specs.Prelude.{slice_index}
use Rattle.std.specs.List.{AllByRecursion, IsDistinct}
use Rattle.std.specs.Map.{set_value, remove_entry, keys_of}
use Rattle.std.specs.Str.{bytes_eq}
use Rattle.peg_name.specs.Name.{Rack, home_of}
use Rattle.peg_event.specs.declared.answers.Listing.{Listing}
use Rattle.peg_model.specs.Rules.{Directory, entry_of, server_of_read, server_of_write}
use Rattle.peg_law.specs.Codes.{number_of, entry_code, entries_code}
use Rattle.peg_law.specs.Mirrors.{AreServers, rack_code}
use Rattle.peg_law.proofs.Codes.{number_test, bytes_of-number}
use Rattle.peg_law.proofs.Replies.{flip}
use Rattle.peg_protocol.specs.Core as core
use Rattle.peg_protocol.specs.Core.{Entry, put}

-- ---- look-ups

key_test : (e : List ℕ × Listing) (key : List ℕ)
    → ((entry_code e).key == number_of key) ≡ bytes_eq key e.0
key_test e key = flip (number_of e.0) (number_of key) ∙ number_test key e.0

pub entry_is :
    (key : List ℕ) (es : Directory)
    → core.entry_of (number_of key) (entries_code es)
    ≡ option_map (λ l. entry_code (key, l)) (entry_of es key)
entry_is key [] = refl
entry_is key (e ∷ es) = rw (key_test e key) (by_test (bytes_eq key e.0) refl (entry_is key es))
  where
    by_test :
        (b : Bool) → bytes_eq key e.0 ≡ b
        → core.entry_of (number_of key) (entries_code es)
        ≡ option_map (λ l. entry_code (key, l)) (entry_of es key)
        → cond b (Some (entry_code e)) (core.entry_of (number_of key) (entries_code es))
        ≡ option_map (λ l. entry_code (key, l)) (cond b (Some e.1) (entry_of es key))
    by_test true y rest =
        ap (λ k. Some (entry_code (k, e.1))) (sym ((bytes_eq-Decides key e.0).0 y))
    by_test false y rest = rest

-- ---- an entry that changes or goes

put_none :
    (key : List ℕ) (o : Option Entry) (es : Directory)
    → AllByRecursion (λ k. bytes_eq key k ≡ false) (keys_of es)
    → put (number_of key) o (entries_code es) ≡ entries_code es
put_none key o [] all = refl
put_none key o (e ∷ es) all =
    rw (key_test e key, all.0) (ap (λ l. entry_code e ∷ l) (put_none key o es all.1))

same_key : (key k : List ℕ) (ks : List (List ℕ)) → key ≡ k
    → AllByRecursion (λ y. bytes_eq k y ≡ false) ks →
    AllByRecursion (λ y. bytes_eq key y ≡ false) ks
same_key key k ks e all = subst (λ x. AllByRecursion (λ y. bytes_eq x y ≡ false) ks) (sym e) all

pub put_changed :
    (key : List ℕ) (now : Listing) (es : Directory) → IsDistinct bytes_eq (keys_of es)
    → put (number_of key) (Some (entry_code (key, now))) (entries_code es)
    ≡ entries_code (set_value (bytes_eq key) es now)
unfolding IsDistinct
put_changed key now [] d = refl
put_changed key now (e ∷ es) d =
    rw (key_test e key) (by_test (bytes_eq key e.0) refl (put_changed key now es d.1))
  where
    by_test :
        (b : Bool) → bytes_eq key e.0 ≡ b
        → put (number_of key) (Some (entry_code (key, now))) (entries_code es)
        ≡ entries_code (set_value (bytes_eq key) es now)
        → cond b
        (entry_code (key, now)
        ∷ put (number_of key) (Some (entry_code (key, now))) (entries_code es))
        (entry_code e ∷ put (number_of key) (Some (entry_code (key, now))) (entries_code es))
        ≡ entries_code (cond b ((e.0, now) ∷ es) (e ∷ set_value (bytes_eq key) es now))
    by_test true y rest =
        let same : key ≡ e.0 = (bytes_eq-Decides key e.0).0 y in
        ap (λ l. entry_code (key, now) ∷ l)
        (put_none key (Some (entry_code (key, now))) es (same_key key e.0 (keys_of es) same d.0))
        ∙ ap (λ k. entry_code (k, now) ∷ entries_code es) same
    by_test false y rest = ap (λ l. entry_code e ∷ l) rest

pub put_removed :
    (key : List ℕ) (es : Directory) → IsDistinct bytes_eq (keys_of es)
    → put (number_of key) None (entries_code es) ≡ entries_code (remove_entry (bytes_eq key) es)
unfolding IsDistinct
put_removed key [] d = refl
put_removed key (e ∷ es) d =
    rw (key_test e key) (by_test (bytes_eq key e.0) refl (put_removed key es d.1))
  where
    by_test :
        (b : Bool) → bytes_eq key e.0 ≡ b
        → put (number_of key) None (entries_code es)
        ≡ entries_code (remove_entry (bytes_eq key) es)
        → cond b (put (number_of key) None (entries_code es))
        (entry_code e ∷ put (number_of key) None (entries_code es))
        ≡ entries_code (cond b es (e ∷ remove_entry (bytes_eq key) es))
    by_test true y rest =
        let same : key ≡ e.0 = (bytes_eq-Decides key e.0).0 y in
        put_none key None es (same_key key e.0 (keys_of es) same d.0)
    by_test false y rest = ap (λ l. entry_code e ∷ l) rest

-- ---- what stays true of the keys and the holders

pub all_set :
    (P : List ℕ × Listing → Type 0) (key : List ℕ) (now : Listing) (es : Directory)
    → AllByRecursion P es → ((k : List ℕ) (l : Listing) → P (k, l) → P (k, now))
    → AllByRecursion P (set_value (bytes_eq key) es now)
all_set P key now [] all new = tt
all_set P key now (e ∷ es) all new =
    cond_both (bytes_eq key e.0) ((e.0, now) ∷ es) (e ∷ set_value (bytes_eq key) es now)
    (AllByRecursion P) (λ y. (new e.0 e.1 all.0, all.1))
    (λ n. (all.0, all_set P key now es all.1 new))

pub all_removed :
    (P : List ℕ × Listing → Type 0) (key : List ℕ) (es : Directory) → AllByRecursion P es
    → AllByRecursion P (remove_entry (bytes_eq key) es)
all_removed P key [] all = tt
all_removed P key (e ∷ es) all =
    cond_both (bytes_eq key e.0) es (e ∷ remove_entry (bytes_eq key) es) (AllByRecursion P)
    (λ y. all.1) (λ n. (all.0, all_removed P key es all.1))

all_keys_removed :
    (P : List ℕ → Type 0) (key : List ℕ) (es : Directory) → AllByRecursion P (keys_of es)
    → AllByRecursion P (keys_of (remove_entry (bytes_eq key) es))
all_keys_removed P key [] all = tt
all_keys_removed P key (e ∷ es) all =
    cond_both (bytes_eq key e.0) es (e ∷ remove_entry (bytes_eq key) es)
    (λ l. AllByRecursion P (keys_of l)) (λ y. all.1)
    (λ n. (all.0, all_keys_removed P key es all.1))

pub distinct_removed :
    (key : List ℕ) (es : Directory) → IsDistinct bytes_eq (keys_of es)
    → IsDistinct bytes_eq (keys_of (remove_entry (bytes_eq key) es))
unfolding IsDistinct
distinct_removed key [] d = d
distinct_removed key (e ∷ es) d =
    cond_both (bytes_eq key e.0) es (e ∷ remove_entry (bytes_eq key) es)
    (λ l. IsDistinct bytes_eq (keys_of l)) (λ y. d.1)
    (λ n. (
      all_keys_removed (λ y. bytes_eq e.0 y ≡ false) key es d.0,
      distinct_removed key es d.1,
    ))

pub distinct_set :
    (key : List ℕ) (now : Listing) (es : Directory) → IsDistinct bytes_eq (keys_of es)
    → IsDistinct bytes_eq (keys_of (set_value (bytes_eq key) es now))
distinct_set key now es d =
    subst (IsDistinct bytes_eq) (sym (keys-set_value (bytes_eq key) es now)) d

pub found_all :
    (P : List ℕ × Listing → Type 0) (key : List ℕ) (l : Listing) (es : Directory)
    → AllByRecursion P es → entry_of es key ≡ Some l → P (key, l)
found_all P key l [] all e = absurd (cc)
found_all P key l (x ∷ es) all e =
    by_test (bytes_eq key x.0) refl e (found_all P key l es all.1)
  where
    by_test :
        (b : Bool) → bytes_eq key x.0 ≡ b → cond b (Some x.1) (entry_of es key) ≡ Some l
        → (entry_of es key ≡ Some l → P (key, l)) → P (key, l)
    by_test true y f rest =
        let same : x.0 ≡ key = sym ((bytes_eq-Decides key x.0).0 y) in
        let now : x.1 ≡ l = cc in
        subst (λ v. P (key, v)) now (subst (λ k. P (k, x.1)) same all.0)
    by_test false y f rest = rest f

-- ---- where a request goes

pub home_below : (rack : Rack) (key : List ℕ) → 1 ≤ rack.servers
    → home_of rack.servers key < rack.servers
home_below rack key some = omega arith

pub all_index :
    (P : ℕ → Type 0) (xs : List ℕ) (i : ℕ) → AllByRecursion P xs → i < length xs
    → P (slice_index xs i)
all_index P [] i all less = absurd (omega (arith, less))
all_index P (x ∷ xs) zero all less = all.0
all_index P (x ∷ xs) (suc i) all less = all_index P xs i all.1 (omega (arith, less))

pub read_below :
    (rack : Rack) (o : Option Listing) (key : List ℕ) (pick : ℕ) → 1 ≤ rack.servers
    → ((l : Listing) → o ≡ Some l → AreServers rack l.holders)
    → server_of_read rack o key pick < rack.servers
read_below rack None key pick some holders = home_below rack key some
read_below rack (Some l) key pick some holders =
    let h = holders l refl in
    all_index (λ s. s < rack.servers) l.holders (pick % length l.holders) h.1
    (let n = h.0 in omega (arith, n))

pub write_below :
    (rack : Rack) (o : Option Listing) (key : List ℕ) (version pick : ℕ) → 1 ≤ rack.servers
    → server_of_write rack o key version pick < rack.servers
write_below rack None key version pick some = home_below rack key some
write_below rack (Some l) key version pick some =
    cond_both (not (is_some l.mark) && nat_lt l.base version && nat_lt l.completed version)
    (pick % rack.servers) (home_of rack.servers key) (λ x. x < rack.servers)
    (λ y. omega (arith, some)) (λ n. home_below rack key some)

module _ (rack : Rack) (keys : List (List ℕ)) where
  abbrev coded : core.Rack
  coded = rack_code rack keys

  pub home_same : (key : List ℕ) → coded.home (number_of key) ≡ home_of rack.servers key
  home_same key = ap (home_of rack.servers) (bytes_of-number key)

  pub read_same :
      (key : List ℕ) (pick : ℕ) (o : Option Listing)
      → core.read_server coded (number_of key) pick (option_map (λ l. entry_code (key, l)) o)
      ≡ server_of_read rack o key pick
  read_same key pick None = home_same key
  read_same key pick (Some l) = refl

  pub write_same :
      (key : List ℕ) (version pick : ℕ) (o : Option Listing)
      → core.write_server coded (number_of key) version pick
      (option_map (λ l. entry_code (key, l)) o)
      ≡ server_of_write rack o key version pick
  write_same key version pick None = home_same key
  write_same key version pick (Some l) =
      rw (home_same key)
      (ap (λ b. cond b (pick % rack.servers) (home_of rack.servers key))
      (tests l.mark (nat_lt l.base version) (nat_lt l.completed version)))
    where
      tests : (o : Option ℕ) (a b : Bool) → (is_none o && (a && b)) ≡ (not (is_some o) && a && b)
      tests None true b = refl
      tests None false b = refl
      tests (Some m) a b = refl
