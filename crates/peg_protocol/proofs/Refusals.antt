-- No packet that was sent is ever refused as out of place.
use Rattle.std.proofs.Common.{◌≡◌, ℕ, length, ◌+◌, ◌≤◌, inl, inr, Bool, true, false, cond, List, []}
use Rattle.std.proofs.Common.{◌∷◌, ◌++◌, Option, Some, None, Contains, arith, ap, sym, refl, ◌∙◌}
use Rattle.std.proofs.Common.{subst, subst₂, eqb-true, length-append}
use Rattle.std.proofs.lemmas.Option.{same_Some}
use Rattle.std.proofs.lemmas.List.Elements.{All-contains, All-from_recursion}
use Rattle.std.specs.List.{AllByRecursion}
use Rattle.peg_protocol.specs.Packet.{What, Promote, Demote, Copy, Seal, FenceKey, Clear, Outcome}
use Rattle.peg_protocol.specs.Packet.{Listed, item, Read, Write, ToServerRead, ToServerWrite}
use Rattle.peg_protocol.specs.Packet.{ReadReply, WriteReply, CopyOrder, CopyData, Held, Fence, Void}
use Rattle.peg_protocol.specs.Packet.{Command, Ack, Part, Other, Client, Switch, Server, Controller}
use Rattle.peg_protocol.specs.Core.{Core, Entry, Rack, entry_of}
use Rattle.peg_protocol.specs.System.{System, ground, belongs, known_after, overfull}
use Rattle.peg_protocol.specs.Handover.{IsSealed}
use Rattle.peg_protocol.specs.ControllerLaw.{plain}
use Rattle.peg_protocol.specs.OutOfPlace.{NoRepeats, SealRefused, AckRefused, Refused}
use Rattle.peg_protocol.specs.OutOfPlace.{NothingRefused}
use Rattle.peg_protocol.proofs.Facts.{ItemOk, view}
use Rattle.peg_protocol.proofs.Counting.{among, among_itself, IsThere, named_most, NoRepeats-push}
use Rattle.peg_protocol.proofs.Controlled.{Quiet, Waiting, Done, Sealing, Moved, SealFits, FreshIs}
use Rattle.peg_protocol.proofs.Controlled.{OrderOk, keys_of}
use Rattle.peg_protocol.proofs.Placed.{active_holds}
use Rattle.peg_protocol.proofs.Whole.{Whole, live}
use Rattle.peg_protocol.proofs.Theorems.{fits, ordered}

-- a key that is listed without a mark has an entry
has_entry : (o : Option Entry) → plain o ≡ true → IsThere o
has_entry None e = absurd (cc)
has_entry (Some x) e = tt

all_there : (es : List Entry) (xs ys : List ℕ) → ((k : ℕ) → among xs k ≡ keys_of es k) →
    AllByRecursion (λ y. among xs y ≡ true) ys → AllByRecursion (λ y. IsThere (entry_of y es)) ys
all_there es xs [] h a = tt
all_there es xs (y ∷ ys) h a =
    (has_entry (entry_of y es) (sym (h y) ∙ a.0), all_there es xs ys h a.1)

-- keys that are known are fewer than the entries while a further listing isn't acknowledged
listing_fits : (rack : Rack) (es : List Entry) (known : List ℕ) (k l : ℕ) → NoRepeats known →
    length es ≤ rack.room → among known k ≡ false
    → ((j : ℕ) → among (known_after (Promote k) (Listed l) known) j ≡ keys_of es j) →
    overfull rack (Listed l) known ≡ true → ⊥
listing_fits rack es known k l distinct few new after full =
    let after' : (j : ℕ) → among (known ++ k ∷ []) j ≡ keys_of es j =
    λ j. subst (λ (b : Bool). among (cond b known (known ++ k ∷ [])) j ≡ keys_of es j) new
    (after j) in
    let most = named_most es (known ++ k ∷ []) (NoRepeats-push known k new distinct)
    (all_there es (known ++ k ∷ []) (known ++ k ∷ []) after' (among_itself (known ++ k ∷ [])))
    in
    let len = length-append known (k ∷ []) in
    let same : length known ≡ rack.room = eqb-true (length known) rack.room full in
    omega (arith, most, len, same, few)

outcome_fits : (rack : Rack) (es : List Entry) (known : List ℕ) (number : ℕ) (what : What)
    (o : Outcome) → NoRepeats known → length es ≤ rack.room → belongs number what o ≡ true →
    FreshIs what o known
    → ((j : ℕ) → among (known_after what o known) j ≡ keys_of es j) → overfull rack o known ≡ true →
    ⊥
outcome_fits rack es known number (Promote k) (Listed l) distinct few b new after full =
    listing_fits rack es known k l distinct few new after full
outcome_fits rack es known number (Demote k) (Listed l) distinct few b new after full = cc
outcome_fits rack es known number (Copy t k) (Listed l) distinct few b new after full = cc
outcome_fits rack es known number (Seal t e) (Listed l) distinct few b new after full = cc
outcome_fits rack es known number (FenceKey k) (Listed l) distinct few b new after full = cc
outcome_fits rack es known number Clear (Listed l) distinct few b new after full = cc
outcome_fits rack es known number what o distinct few b new after full = cc

seal_outcome : (rack : Rack) (known : List ℕ) (number t e : ℕ) (o : Outcome) →
    belongs number (Seal t e) o ≡ true → overfull rack o known ≡ true → ⊥
seal_outcome rack known number t e (Listed l) b full = cc
seal_outcome rack known number t e o b full = cc

module _ (s : System) (h : Whole s) (distinct : NoRepeats s.rack.keys)
    (few : length s.rack.keys ≤ s.rack.room) where
  seal_fine : (a number : ℕ) (what : What) →
      Contains s.sent (item (Switch a) (Command number what)) → SealRefused s a number what → ⊥
  seal_fine a number (Seal t e) came r =
      let l = live s a h r.0 in
      let c = l.controlled in
      let q = All-contains (OrderOk c.commands c.results s.number c.limit) s.sent
      (item (Switch a) (Command number (Seal t e)))
      (All-from_recursion (OrderOk c.commands c.results s.number c.limit) s.sent c.items)
      came in
      elim c.phase [
        | Quiet p1 p2 p3 p4 p5 p6 p7 ↦ omega (arith, p2, q.1, r.1)
        | Waiting p1 p2 p3 p4 p5 p6 p7 p8 ↦
            let at : number ≡ s.number = omega (arith, p2, r.1) in
            let f : SealFits s.switch s.epoch (Seal t e) =
            subst (SealFits s.switch s.epoch) (ap c.commands (sym at) ∙ sym q.2) p8 in
            elim r.2 [ inl same ↦ f.0 (same ∙ sym p3) | inr ne ↦ ne (f.1 ∙ ap (λ x. x + 1) p4) ]
        | Done p1 p2 p3 p4 p5 p6 p7 p8 p9 ↦ omega (arith, p2, q.1, r.1)
        | Sealing u p1 p2 p3 p4 p5 p6 p7 p8 p9 ↦ omega (arith, p4, q.1, r.1)
        | Moved p1 p2 p3 p4 p5 p6 p7 ↦ omega (arith, p3, q.1, r.1)
      ]
  seal_fine a number what came r = r

  part_fine : (a epoch i count : ℕ) (core : Core) →
      Contains s.sent (item (Switch a) (Part epoch i count core)) →
      Refused s (Switch a) (Part epoch i count core) → ⊥
  part_fine a epoch i count core came r =
      let f = fits s h a epoch i count core came in
      let at : a ≡ h.holder =
      active_holds s.modes s.epochs s.cores s.gathered s.sent h.holder h.states h.targets
      h.placed a r.0 in
      elim r.1 [
        | inl above ↦ elim f.time [
          | inl l ↦ omega (arith, l, above)
          | inr z ↦ subst IsSealed (ap s.modes (sym at) ∙ r.0) z.0
        ]
        | inr own ↦ let t = (live s a h r.0).controlled.taken (omega (arith, own.0, f.least)) in
            omega (arith, t, own.1)
      ]

  ack_fine : (number : ℕ) (o : Outcome) (c : Option What) → s.command ≡ c →
      Contains s.sent (item Controller (Ack number o)) → AckRefused s number o c → ⊥
  ack_fine number o None is came r = r
  ack_fine number o (Some what) is came r =
      let c = h.controlled in
      let d = ordered s h Controller (Ack number o) came in
      let result : c.results s.number ≡ o = sym (d.1 ∙ ap c.results r.0) in
      let belonging : c.commands s.number ≡ what → s.number ≤ (s.cores h.holder).last →
      belongs number what o ≡ true = λ w l.
      subst (λ (n : ℕ). belongs n what o ≡ true) (sym r.0)
      (subst₂ (λ (x : What) (y : Outcome). belongs s.number x y ≡ true) w result
      (c.fits s.number (c.started what is) l)) in
      elim c.phase [
        | Quiet p1 p2 p3 p4 p5 p6 p7 ↦ let x : None ≡ Some what = sym p1 ∙ is in cc
        | Waiting p1 p2 p3 p4 p5 p6 p7 p8 ↦ omega (arith, d.0, r.0, p2, p6)
        | Done p1 p2 p3 p4 p5 p6 p7 p8 p9 ↦
            let w : c.commands s.number ≡ what =
            same_Some (c.commands s.number) what (sym p1 ∙ is) in
            let b = belonging w (omega (arith, p2)) in
            elim r.1 [
              | inl f ↦ let x : false ≡ true = sym f ∙ b in cc
              | inr full ↦
                  outcome_fits s.rack (s.cores h.holder).entries s.known number what o
                  (c.distinct distinct) (h.kept.room few) b
                  (subst₂ (λ (x : What) (y : Outcome). FreshIs x y s.known) w result p9)
                  (λ j. subst₂
                  (λ (x : What) (y : Outcome). among (known_after x y s.known) j
                  ≡ keys_of (s.cores h.holder).entries j) w result (p7 j)) full
            ]
        | Sealing t p1 p2 p3 p4 p5 p6 p7 p8 p9 ↦ omega (arith, d.0, r.0, p4, p8)
        | Moved p1 p2 p3 p4 p5 p6 p7 ↦
            let w : Seal h.holder (s.epochs h.holder) ≡ what =
            same_Some (Seal h.holder (s.epochs h.holder)) what (sym p1 ∙ is) in
            let b = belonging (p2 ∙ w) (omega (arith, p3)) in
            elim r.1 [
              | inl f ↦ let x : false ≡ true = sym f ∙ b in cc
              | inr full ↦ seal_outcome s.rack s.known number h.holder (s.epochs h.holder) o
                  (subst (λ (x : What). belongs number x o ≡ true) (sym w) b) full
            ]
      ]

  pub nothing_refused : NothingRefused s
  nothing_refused (Client c) p came r = r
  nothing_refused (Switch a) (Read c n k) came r = r
  nothing_refused (Switch a) (Write c n k x) came r = r
  nothing_refused (Switch a) (ReadReply c n u t b k o) came r = r
  nothing_refused (Switch a) (WriteReply c n u t b k) came r = r
  nothing_refused (Switch a) (Held t u k) came r = r
  nothing_refused (Switch a) (Void c n u t b k) came r = r
  nothing_refused (Switch a) Other came r = r
  nothing_refused (Switch a) (Command number what) came r = seal_fine a number what came r
  nothing_refused (Switch a) (Part epoch i count core) came r =
      part_fine a epoch i count core came r
  nothing_refused (Switch a) p came r = ordered s h (Switch a) p came
  nothing_refused (Server t) (ToServerRead c n a k) came r = r
  nothing_refused (Server t) (ToServerWrite c n u a k x) came r = r
  nothing_refused (Server t) (CopyData u a k x) came r = r
  nothing_refused (Server t) Other came r = r
  nothing_refused (Server t) (CopyOrder a target k) came r =
      ordered s h (Server t) (CopyOrder a target k) came r
  nothing_refused (Server t) (Fence f a k) came r =
      let v = view (ground s (s.cores h.holder)) h.g in
      r (All-contains (ItemOk s.rack.home v) s.sent (item (Server t) (Fence f a k))
      (All-from_recursion (ItemOk s.rack.home v) s.sent h.kept.items) came).at
  nothing_refused (Server t) p came r = ordered s h (Server t) p came
  nothing_refused Controller (Ack number o) came r = ack_fine number o s.command refl came r
  nothing_refused Controller Other came r = r
  nothing_refused Controller p came r = ordered s h Controller p came
