-- What is written at an entry's place is what the rules say.
use Rattle.std.proofs.Common.{◌≡◌, ◌<◌, ◌==◌, ℕ, true, false, List, [], ◌∷◌, ◌++◌, length, Some}
use Rattle.std.proofs.Common.{None, Bool, if◌then◌else◌, sym, ap, ◌∙◌, arith}
use Rattle.std.proofs.lemmas.Bool.Decides.{nat_tests}
use Rattle.std.specs.Str.{bytes_eq}
use Rattle.std.specs.Map.{set_value, remove_entry}
use Rattle.indexmap.specs.IndexMap.{set_value_at}
use Rattle.peg_name.specs.declared.Note.{Note}
use Rattle.peg_name.specs.declared.Note.TheVariants.{Removed}
use Rattle.peg_event.specs.declared.answers.Listing.{Listing}
use Rattle.peg_event.specs.declared.answers.Promoted.{Promoted}
use Rattle.peg_event.specs.declared.answers.Promoted.TheVariants.{Full, Listed}
use Rattle.peg_model.specs.Rules.{Directory, mark_of, mark_over, mark_key, note_of}
use Rattle.peg_model.specs.Rules.{note_reply, reported, ends, entry_of, list_key, list_unless}
use Rattle.peg_model.specs.Rules.{new_listing}
use Rattle.peg_directory.specs.Table.{Table, IsAt, with_entries}

abbrev second : Promoted × Directory → Directory
second listed = listed.1

unequal : (a b : ℕ) → a < b → (a == b) ≡ false
unequal a b h = grind (arith, nat_tests)

pub listed_after :
    (t : Table) (key : List ℕ) (listing home base : ℕ) → entry_of t.entries key ≡ None
    → length t.entries < t.rack.listed
    → with_entries t (t.entries ++ (key, new_listing listing home base) ∷ [])
    ≡ with_entries t (list_key t.rack.listed t.entries key listing home base).1
listed_after t key listing home base none room =
    let new = new_listing listing home base in
    let full = unequal (length t.entries) t.rack.listed room in
    ap (with_entries t)
    (sym
    (ap (λ o. (list_unless o t.rack.listed t.entries key new).1) none
    ∙ ap
    (λ (b : Bool). second
    (if b then (Full (length t.entries), t.entries)
    else (Listed, t.entries ++ (key, new) ∷ [])))
    full))

marked_entries :
    (es : Directory) (key : List ℕ) (i : ℕ) (e : Listing) (next : ℕ) → IsAt key es i e
    → e.mark ≡ None
    → set_value_at es i (record e { mark = Some next }) ≡ (mark_key es key next).1
marked_entries es key i e next at none =
    sym (at.put (record e { mark = Some next }))
    ∙ sym (ap (λ m. (mark_over m es key e next).1) none)
    ∙ sym (ap (λ o. (mark_of o es key next).1) at.found)

pub marked_after :
    (t : Table) (key : List ℕ) (i : ℕ) (e : Listing) (now : Listing) (next : ℕ)
    → IsAt key t.entries i e → e.mark ≡ None → now ≡ record e { mark = Some next }
    → with_entries t (set_value_at t.entries i now)
    ≡ with_entries t (mark_key t.entries key next).1
marked_after t key i e now next at none is =
    ap (λ w. with_entries t (set_value_at t.entries i w)) is
    ∙ ap (with_entries t) (marked_entries t.entries key i e next at none)

pub removed_after :
    (t : Table) (key : List ℕ) (home i : ℕ) (e : Listing) (server version : ℕ)
    → IsAt key t.entries i e → ends home e.mark server version ≡ true
    → with_entries t (remove_entry (bytes_eq key) t.entries)
    ≡ with_entries t (note_reply t.entries key home server version).1
removed_after t key home i e server version at over =
    ap (with_entries t)
    (sym
    (ap (λ (b : Bool). (λ (r : Note × Directory). r.1)
    (if b then (Removed e.listing, remove_entry (bytes_eq key) t.entries)
    else (
      (reported e server version).0,
      set_value (bytes_eq key) t.entries (reported e server version).1,
    )))
    over)
    ∙ sym (ap (λ o. (note_of o t.entries key home server version).1) at.found))
