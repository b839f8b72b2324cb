-- The greatest version that clients were sent for a key.
use Rattle.std.proofs.Common.{◌≡◌, ℕ, zero, suc, pred, ◌<◌, ◌≤◌, ◌==◌, List, [], ◌∷◌, Some, arith}
use Rattle.std.proofs.Common.{ap, subst, eqb-true, slice_get}
use Rattle.std.proofs.lemmas.Bool.{cond_both}
use Rattle.std.specs.List.{AllByRecursion}
use Rattle.peg_protocol.specs.Packet.{Packet, Node, Item, ReadReply, WriteReply, Client}
use Rattle.peg_protocol.specs.Law.{reply_version, passed}
use Rattle.peg_protocol.proofs.Facts.{View, SettledBy, Report, PacketOk, ItemOk}

reply_most : (home : ℕ → ℕ) (v : View) (k most : ℕ) →
    ((s u : ℕ) → Report home v s k u → SettledBy (v.dir k) u → u ≤ most)
    → (to : Node) (p : Packet) → PacketOk home v to p → reply_version k to p ≤ most
reply_most home v k most each (Client c) (ReadReply d n u s sw j o) h =
    cond_both (j == k) u 0 (λ x. x ≤ most)
    (λ y. let e = eqb-true j k y in
    each s u (subst (λ (i : ℕ). Report home v s i u) e h.report)
    (subst (λ (i : ℕ). SettledBy (v.dir i) u) e h.settled))
    (λ n. omega arith)
reply_most home v k most each (Client c) (WriteReply d n u s sw j) h =
    cond_both (j == k) u 0 (λ x. x ≤ most)
    (λ y. let e = eqb-true j k y in
    each s u (subst (λ (i : ℕ). Report home v s i u) e h.report)
    (subst (λ (i : ℕ). SettledBy (v.dir i) u) e h.settled))
    (λ n. omega arith)
reply_most home v k most each to p h = omega arith

pub passed_most : (home : ℕ → ℕ) (v : View) (k most : ℕ) →
    ((s u : ℕ) → Report home v s k u → SettledBy (v.dir k) u → u ≤ most)
    → (is : List Item) → AllByRecursion (ItemOk home v) is → passed k is ≤ most
passed_most home v k most each [] h = omega arith
passed_most home v k most each (i ∷ is) h =
    omega (
      arith,
      reply_most home v k most each i.to i.packet h.0,
      passed_most home v k most each is h.1,
    )

pub passed_below : (home : ℕ → ℕ) (v : View) (k : ℕ) → 1 ≤ v.next → (is : List Item) →
    AllByRecursion (ItemOk home v) is → passed k is < v.next
passed_below home v k some is h =
    let m : passed k is ≤ pred v.next =
    passed_most home v k (pred v.next) (λ s u r t. omega (arith, r.most)) is h in
    omega (arith, m, some)

-- an item of the list
pub item_at : (P : Item → Type 0) (is : List Item) (n : ℕ) (i : Item) → slice_get is n ≡ Some i →
    AllByRecursion P is → P i
item_at P [] n i e h = absurd (cc)
item_at P (j ∷ is) zero i e h = let d : j ≡ i = cc in subst P d h.0
item_at P (j ∷ is) (suc n) i e h = item_at P is n i e h.1

pub passed_at : (k : ℕ) (is : List Item) (n : ℕ) (i : Item) → slice_get is n ≡ Some i →
    reply_version k i.to i.packet ≤ passed k is
passed_at k [] n i e = absurd (cc)
passed_at k (j ∷ is) zero i e =
    let d : j ≡ i = cc in
    let m : reply_version k j.to j.packet ≡ reply_version k i.to i.packet =
    ap (λ (x : Item). reply_version k x.to x.packet) d in
    omega (arith, m)
passed_at k (j ∷ is) (suc n) i e = omega (arith, passed_at k is n i e)
