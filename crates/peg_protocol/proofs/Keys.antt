-- Which keys are listed without a mark, after each step of the directory.
use Rattle.std.proofs.Common.{◌≡◌, ℕ, length, ◌+◌, ◌-◌, ◌==◌, ◌&&◌, ◌||◌, not, nat_lt, Bool, true}
use Rattle.std.proofs.Common.{false, cond, List, [], ◌∷◌, filter, Option, Some, None, ◌++◌, ap, sym}
use Rattle.std.proofs.Common.{refl, ◌∙◌, subst, eqb-true, eq-eqb, ne_eqb, inl, inr}
use Rattle.std.proofs.lemmas.Bool.{cond_both, cases_eq, and_parts}
use Rattle.peg_protocol.specs.Packet.{What, Promote, Demote, Outcome, Listed, Full, NoVersion}
use Rattle.peg_protocol.specs.Packet.{Marked}
use Rattle.peg_protocol.specs.Core.{Core, Rack, Entry, entry_of, put, noted, raised, reaches, lists}
use Rattle.peg_protocol.specs.Core.{promote, demote, marked, fresh, add_holder, first_entries}
use Rattle.peg_protocol.specs.System.{known_after, promote_outcome, demote_outcome, mark_outcome}
use Rattle.peg_protocol.specs.System.{belongs}
use Rattle.peg_protocol.specs.ControllerLaw.{speaks_of, plain, plain_mark}
use Rattle.peg_protocol.proofs.Directory.{OfKey, entry_of-put_other, entry_of-put_same}
use Rattle.peg_protocol.proofs.Directory.{entry_of-push_same, entry_of-push_other}
use Rattle.peg_protocol.proofs.Counting.{among}
use Rattle.peg_protocol.proofs.Controlled.{FreshIs, keys_of}

keys_put : (k : ℕ) (o : Option Entry) (es : List Entry) (e : Entry) → OfKey k o →
    entry_of k es ≡ Some e → (P : ℕ → Bool → Type 0)
    → ((j : ℕ) → (j ≡ k → ⊥) → P j (keys_of es j)) → P k (plain o) → (j : ℕ) →
    P j (keys_of (put k o es) j)
keys_put k o es e of is P other same j =
    elim (cases_eq j k) [
      | inl d ↦ subst (λ (i : ℕ). P i (keys_of (put k o es) i)) (sym d)
          (subst (λ (x : Option Entry). P k (plain x)) (sym (entry_of-put_same k o es e of is))
          same)
      | inr n ↦ subst (λ (x : Option Entry). P j (plain x)) (sym (entry_of-put_other j k o es of n))
          (other j n)
    ]

pub keys-put_alike : (k : ℕ) (o : Option Entry) (es : List Entry) (e : Entry) → OfKey k o →
    entry_of k es ≡ Some e → plain o ≡ plain (Some e) → (j : ℕ) →
    keys_of es j ≡ keys_of (put k o es) j
keys-put_alike k o es e of is same =
    keys_put k o es e of is (λ j b. keys_of es j ≡ b) (λ j n. refl) (ap plain is ∙ sym same)

unreached : (m : Option ℕ) (u : ℕ) → reaches m u ≡ true → false ≡ plain_mark m
unreached None u t = absurd (cc)
unreached (Some m) u t = refl

pub plain-noted : (home s u : ℕ) (e : Entry) → plain (noted home s u e) ≡ plain (Some e)
plain-noted home s u e =
    cond_both (s == home && reaches e.mark u) None (Some (raised s u e))
    (λ o. plain o ≡ plain_mark e.mark)
    (λ y. unreached e.mark u (and_parts (s == home) (reaches e.mark u) y).1)
    (λ n. cond_both (nat_lt e.completed u) (record e { completed = u; holders = s ∷ [] })
    (cond (u == e.completed) (record e { holders = add_holder s e.holders }) e)
    (λ f. plain_mark f.mark ≡ plain_mark e.mark)
    (λ y. refl)
    (λ n. cond_both (u == e.completed) (record e { holders = add_holder s e.holders }) e
    (λ f. plain_mark f.mark ≡ plain_mark e.mark) (λ y. refl) (λ n. refl)))

or_false : (b : Bool) → (b || false) ≡ b
or_false true = refl
or_false false = refl

among-push : (known : List ℕ) (k j : ℕ) → among (known ++ k ∷ []) j ≡ (among known j || k == j)
among-push [] k j = or_false (k == j)
among-push (i ∷ is) k j =
    ap (λ b. i == j || b) (among-push is k j) ∙ or_assoc (i == j) (among is j) (k == j)
  where
    or_assoc : (a b c : Bool) → (a || (b || c)) ≡ ((a || b) || c)
    or_assoc true b c = refl
    or_assoc false b c = refl

among-filter_same : (known : List ℕ) (k : ℕ) → among (filter (λ j. not (j == k)) known) k ≡ false
among-filter_same [] k = refl
among-filter_same (i ∷ is) k =
    let go : (b : Bool) → (i == k) ≡ b →
    among (cond (not b) (i ∷ filter (λ j. not (j == k)) is) (filter (λ j. not (j == k)) is)) k
    ≡ false = λ b.
    elim b as
    (λ v. (i == k) ≡ v → among
    (cond (not v) (i ∷ filter (λ j. not (j == k)) is) (filter (λ j. not (j == k)) is)) k
    ≡ false) [
      | true ↦ λ e. among-filter_same is k
      | false ↦ λ e. rw e (among-filter_same is k)
    ] in
    go (i == k) refl

among-filter_other : (known : List ℕ) (k j : ℕ) → (j ≡ k → ⊥) →
    among (filter (λ j. not (j == k)) known) j ≡ among known j
among-filter_other [] k j ne = refl
among-filter_other (i ∷ is) k j ne =
    let go : (b : Bool) → (i == k) ≡ b →
    among (cond (not b) (i ∷ filter (λ j. not (j == k)) is) (filter (λ j. not (j == k)) is)) j
    ≡ among (i ∷ is) j = λ b.
    elim b as
    (λ v. (i == k) ≡ v → among
    (cond (not v) (i ∷ filter (λ j. not (j == k)) is) (filter (λ j. not (j == k)) is)) j
    ≡ among (i ∷ is) j) [
      | true ↦ λ e.
          let d : (i == j) ≡ false = ne_eqb i j (λ x. ne (sym x ∙ eqb-true i k e)) in
          among-filter_other is k j ne ∙ sym (ap (λ b. b || among is j) d)
      | false ↦ λ e. ap (λ b. i == j || b) (among-filter_other is k j ne)
    ] in
    go (i == k) refl

-- what a command leaves, and its outcome
pub record CommandFits (what : What) (number : ℕ) (core core' : Core) (o : Outcome) : Type 0 where
  pub last : core'.last ≡ core.last + 1
  pub fits : belongs number what o ≡ true
  pub keys : (known : List ℕ) → ((k : ℕ) → among known k ≡ keys_of core.entries k) → (k : ℕ) →
      among (known_after what o known) k ≡ keys_of core'.entries k
  pub fresh : (known : List ℕ) → ((k : ℕ) → among known k ≡ keys_of core.entries k) →
      FreshIs what o known

pub promote_fits : (rack : Rack) (k number : ℕ) (core : Core) (o : Option Entry) →
    entry_of k core.entries ≡ o → number ≡ core.last + 1 →
    CommandFits (Promote k) number core (promote rack k o core) (promote_outcome rack o core)
promote_fits rack k number core (Some e) is n =
    record { last = refl; fits = refl; keys = λ known h. h; fresh = λ known h. tt }
promote_fits rack k number core None is n =
    by_lists (lists rack core) (length core.entries == rack.room)
  where
    new : Entry
    new = fresh rack k core

    by_lists : (b full : Bool) → CommandFits (Promote k) number core
        (cond b (record core {
          next = core.next + 1;
          last = core.last + 1;
          entries =
              core.entries ++ fresh rack k core ∷ [];
        }) (record core { last = core.last + 1 }))
        (cond b (Listed (core.last + 1))
        (cond full (Full (length core.entries)) (NoVersion core.next)))
    by_lists false true =
        record { last = refl; fits = refl; keys = λ known h. h; fresh = λ known h. tt }
    by_lists false false =
        record { last = refl; fits = refl; keys = λ known h. h; fresh = λ known h. tt }
    by_lists true full = record {
      last = refl;
      fits = eq-eqb (core.last + 1) number (sym n);
      fresh = λ known h. h k ∙ ap plain is;
      keys = λ known h j.
          let out : among known k ≡ false = h k ∙ ap plain is in
          ap (λ b. among (cond b known (known ++ k ∷ [])) j) out ∙ among-push known k j ∙
          elim (cases_eq j k) [
            | inl d ↦
                let t : (k == j) ≡ true = eq-eqb k j (sym d) in
                let l : among known j ≡ false = ap (among known) d ∙ out in
                let r : keys_of (core.entries ++ fresh rack k core ∷ []) j ≡ true =
                ap (keys_of (core.entries ++ fresh rack k core ∷ [])) d
                ∙ ap plain (entry_of-push_same k core.entries (fresh rack k core) refl is)
                in
                rw (l, t) (sym r)
            | inr ne ↦
                let t : (k == j) ≡ false = ne_eqb k j (λ d. ne (sym d)) in
                let r : keys_of (core.entries ++ fresh rack k core ∷ []) j
                ≡ keys_of core.entries j =
                ap plain (entry_of-push_other j k core.entries (fresh rack k core) refl ne)
                in
                ap (λ b. among known j || b) t ∙ or_false (among known j) ∙ h j ∙ sym r
          ];
    }

pub demote_fits : (k number : ℕ) (core : Core) (o : Option Entry) → entry_of k core.entries ≡ o →
    OfKey k o → CommandFits (Demote k) number core (demote k o core) (demote_outcome core.next o)
demote_fits k number core None is of =
    record { last = refl; fits = refl; keys = λ known h. h; fresh = λ known h. tt }
demote_fits k number core (Some e) is of = by_mark e.mark refl
  where
    by_mark : (m : Option ℕ) → e.mark ≡ m →
        CommandFits (Demote k) number core
        (record core
        { last = core.last + 1; entries = put k (marked core.next e m) core.entries })
        (mark_outcome core.next m)
    by_mark (Some m) em =
        record {
          last = refl;
          fits = refl;
          keys =
              λ known h j. h j ∙ keys-put_alike k (Some e) core.entries e of is refl j;
          fresh =
              λ known h. tt;
        }
    by_mark None em = record {
      last = refl;
      fits = refl;
      fresh = λ known h. tt;
      keys = λ known h. keys_put k (Some (record e { mark = Some core.next })) core.entries e of is
          (λ j b. among (filter (λ j. not (j == k)) known) j ≡ b)
          (λ j n. among-filter_other known k j n ∙ h j) (among-filter_same known k);
    }

-- a command leaves the other keys as known as they were
pub known_other : (what : What) (o : Outcome) (known : List ℕ) (k : ℕ) → speaks_of what k ≡ false →
    among (known_after what o known) k ≡ among known k
known_other (Promote j) (Listed l) known k e =
    cond_both (among known j) known (known ++ j ∷ []) (λ is. among is k ≡ among known k) (λ y. refl)
    (λ n. among-push known j k ∙ ap (λ b. among known k || b) e ∙ or_false (among known k))
known_other (Demote j) (Marked m) known k e =
    among-filter_other known j k (λ d. let t : (j == k) ≡ true = eq-eqb j k (sym d) in cc)
known_other what o known k e = refl

-- the keys that are listed at the start
pub first_keys : (rack : Rack) (ks : List ℕ) (k : ℕ) →
    among ks k ≡ keys_of (first_entries rack ks) k
first_keys rack [] k = refl
first_keys rack (j ∷ ks) k =
    let go : (b : Bool) →
    (b || among ks k) ≡ plain
    (cond b (Some
    (record {
      key = j;
      listing = 0;
      base = rack.first - 1;
      completed = rack.first - 1;
      holders = rack.home j ∷ [];
      mark = None;
    }))
    (entry_of k (first_entries rack ks))) = λ b.
    elim b as
    (λ v. (v || among ks k)
    ≡ plain (cond v
    (Some (record {
      key = j;
      listing = 0;
      base = rack.first - 1;
      completed = rack.first - 1;
      holders = rack.home j ∷ [];
      mark = None;
    }))
    (entry_of k (first_entries rack ks))))
    [ true ↦ refl | false ↦ first_keys rack ks k ] in
    go (j == k)
