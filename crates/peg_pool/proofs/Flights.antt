-- Packets in flight: each keeps its slot.
use Rattle.std.proofs.Common.{◌≡◌, ℕ, zero, suc, ◌<◌, List, [], ◌∷◌, ◌++◌, length, Some}
use Rattle.std.proofs.Common.{refl, sym, ap, subst, ◌∙◌, arith}
use Rattle.std.specs.Prelude.{slice_get, slice_index_or, unwrap_or, is_some, IsSome}
use Rattle.std.specs.List.{AllByRecursion}
use Rattle.peg_pool.specs.Slots.{Slots}
use Rattle.peg_pool.specs.Sent.{content_of, items_of, IsLive}
use Rattle.peg_pool.specs.declared.soup.Place.{Place}
use Rattle.peg_pool.specs.declared.soup.Sent.{Sent}

pub length-items :
    (short long : Slots) (rows : List Sent) → length (items_of short long rows) ≡ length rows
length-items short long [] = refl
length-items short long (sent ∷ rows) = ap suc (length-items short long rows)

module _ (short long short_now long_now : Slots)
    (others : (other : Place) → IsSome (content_of short long other)
    → content_of short_now long_now other ≡ content_of short long other) where
  -- one more packet, whose slot holds these bytes
  pub pushed-items :
      (rows : List Sent) (sent : Sent) (bytes : List ℕ) → AllByRecursion (IsLive short long) rows
      → content_of short_now long_now sent.place ≡ Some bytes
      → items_of short_now long_now (rows ++ sent ∷ [])
      ≡ items_of short long rows ++ (sent.to, bytes) ∷ []
  pushed-items [] sent bytes live is =
      ap (λ content. (sent.to, unwrap_or content []) ∷ []) is
  pushed-items (first ∷ rows) sent bytes live is =
      ap (λ content. (first.to, unwrap_or content [])
      ∷ items_of short_now long_now (rows ++ sent ∷ []))
      (others first.place live.0)
      ∙ ap (λ l. (first.to, unwrap_or (content_of short long first.place) []) ∷ l)
      (pushed-items rows sent bytes live.1 is)

  pub pushed-live :
      (rows : List Sent) (sent : Sent) (bytes : List ℕ) → AllByRecursion (IsLive short long) rows
      → content_of short_now long_now sent.place ≡ Some bytes
      → AllByRecursion (IsLive short_now long_now) (rows ++ sent ∷ [])
  pushed-live [] sent bytes live is = (ap is_some is, tt)
  pushed-live (first ∷ rows) sent bytes live is =
      (ap is_some (others first.place live.0) ∙ live.0, pushed-live rows sent bytes live.1 is)

-- the packet of a row
pub live-at :
    (short long : Slots) (rows : List Sent) (n : ℕ) (sent : Sent)
    → AllByRecursion (IsLive short long) rows → n < length rows
    → sent ≡ slice_index_or rows n sent → IsLive short long sent
live-at short long [] n sent live below is = absurd (omega (arith, below))
live-at short long (first ∷ rows) zero sent live below is =
    subst (IsLive short long) (sym is) live.0
live-at short long (first ∷ rows) (suc n) sent live below is =
    live-at short long rows n sent live.1 (omega (arith, below)) is

pub item-at :
    (short long : Slots) (rows : List Sent) (n : ℕ) (sent : Sent) (bytes : List ℕ)
    → n < length rows → sent ≡ slice_index_or rows n sent
    → Some bytes ≡ content_of short long sent.place
    → Some (sent.to, bytes) ≡ slice_get (items_of short long rows) n
item-at short long [] n sent bytes below is holds = absurd (omega (arith, below))
item-at short long (first ∷ rows) zero sent bytes below is holds =
    ap (λ content. Some (sent.to, unwrap_or content [])) holds
    ∙ ap (λ (s : Sent). Some (s.to, unwrap_or (content_of short long s.place) [])) is
item-at short long (first ∷ rows) (suc n) sent bytes below is holds =
    item-at short long rows n sent bytes (omega (arith, below)) is holds
