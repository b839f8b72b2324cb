-- A request acts once, in the packets of a world, since it does in those of the protocol machine.
use Rattle.std.proofs.Common.{◌≡◌, ◌≢◌, ◌<◌, ◌==◌, ◌⊎◌, inl, inr, ℕ, zero}
use Rattle.std.proofs.Common.{suc, Bool, true, false, List, [], ◌∷◌}
use Rattle.std.proofs.Common.{cond, Option, Some, None, refl, sym, ap, ◌∙◌, subst}
use Rattle.std.proofs.Common.{slice_get, Contains}
use Rattle.std.proofs.Common.{arith, eqb-true, eq-eqb}
use Rattle.std.proofs.lemmas.Bool.{or_cases}
use Rattle.std.proofs.lemmas.Option.{slice_get_within, get_or_from_slice_get}
use Rattle.std.specs.Prelude.{IsSomeAnd}
use Rattle.std.specs.List.{cons_option}
use Rattle.peg_name.specs.declared.Node.{Node}
use Rattle.peg_model.specs.Packet as packet
use Rattle.peg_model.specs.Packet.{Packet}
use Rattle.peg_model.specs.Once as once
use Rattle.peg_model.specs.Once.{Stamped, stamped_write, writes_in, IsVoidOf, carried_version}
use Rattle.peg_model.specs.World.{World}
use Rattle.peg_law.specs.Codes.{number_of, content_code}
use Rattle.peg_law.specs.Mirrors.{Mirrors, PacketFits, ItemFits}
use Rattle.peg_law.proofs.Codes.{number_apart, content_apart}
use Rattle.peg_law.proofs.Tables.{PairedAt, paired_at}
use Rattle.peg_law.proofs.Collecting.{paired_contains}
use Rattle.peg_protocol.specs.Core as core
use Rattle.peg_protocol.specs.Packet as law
use Rattle.peg_protocol.specs.Law.{ActsOnce, voids, voided_in, writes_as, before_write, By_read}
use Rattle.peg_protocol.specs.Law.{By_write, By_copy}
use Rattle.peg_protocol.specs.System.{System, ground}
use Rattle.peg_protocol.specs.Told.{Told}

-- ---- a write among the packets

-- a packet that is a stamped write
pub record IsWriteOf (item : Node × Packet) (a : Stamped) : Type 0 where
  pub server : ℕ
  pub switch : ℕ
  pub is :
      item.1
      ≡ packet.ToServerWrite a.client a.seq a.version server switch a.key a.content

write_of : (item : Node × Packet) (a : Stamped) → stamped_write item ≡ Some a → IsWriteOf item a
write_of (to, packet.ToServerWrite client seq version server switch key content) a e =
    let same :
    record { client = client; seq = seq; version = version; key = key; content = content }
    ≡ a =
    cc in
    record {
      server = server;
      switch = switch;
      is =
          ap
          (λ (s : Stamped).
          packet.ToServerWrite s.client s.seq s.version server switch s.key s.content)
          same;
    }
write_of (to, packet.Read client seq key) a e = absurd (cc)
write_of (to, packet.Write client seq key content) a e = absurd (cc)
write_of (to, packet.ToServerRead client seq server switch key) a e = absurd (cc)
write_of (to, packet.ReadReply client seq version server switch key content) a e = absurd (cc)
write_of (to, packet.WriteReply client seq version server switch key) a e = absurd (cc)
write_of (to, packet.Command number what) a e = absurd (cc)
write_of (to, packet.CommandAck number o) a e = absurd (cc)
write_of (to, packet.CopyOrder switch server target key) a e = absurd (cc)
write_of (to, packet.CopyData switch server version key content) a e = absurd (cc)
write_of (to, packet.Held server version key) a e = absurd (cc)
write_of (to, packet.Part epoch index count bytes) a e = absurd (cc)
write_of (to, packet.Announce epoch switch) a e = absurd (cc)
write_of (to, packet.Survey) a e = absurd (cc)
write_of (to, packet.Report epoch total rows) a e = absurd (cc)
write_of (to, packet.Fence switch server version key) a e = absurd (cc)
write_of (to, packet.Void client seq version server switch key) a e = absurd (cc)

pub contains_more : {A : Type 0} (x y : A) (xs : List A) → Contains xs y → Contains (x ∷ xs) y
contains_more x y xs (k, less, e) = (suc k, omega (arith, less), e)

-- a write that was sent, with its packet
among :
    (ps : List (Node × Packet)) (a : Stamped) → Contains (writes_in ps) a
    → (item : Node × Packet) × Contains ps item × (stamped_write item ≡ Some a)
among [] a (k, less, e) = absurd (omega (arith, less))
among (p ∷ ps) a c = by_one (stamped_write p) refl c (λ d. among ps a d)
  where
    by_one :
        (o : Option Stamped) → stamped_write p ≡ o → Contains (cons_option o (writes_in ps)) a
        → (Contains (writes_in ps) a
        → (item : Node × Packet) × Contains ps item × (stamped_write item ≡ Some a))
        → (item : Node × Packet) × Contains (p ∷ ps) item × (stamped_write item ≡ Some a)
    by_one None e d rest =
        let x = rest d in (x.0, contains_more p x.0 ps x.1, x.2)
    by_one (Some b) e (zero, less, is) rest = (p, (0, omega arith, refl), e ∙ ap Some is)
    by_one (Some b) e (suc k, less, is) rest =
        let x = rest (k, omega (arith, less), is) in (x.0, contains_more p x.0 ps x.1, x.2)

-- ---- what stands before the first write with a version

abbrev Before : List law.Item → ℕ → ℕ → Type 0
Before is u j =
    (k : ℕ) × (k < j) × (y : law.Item) × (slice_get is k ≡ Some y) × (voids u y.packet ≡ true)

voided_before :
    (is : List law.Item) (u v j : ℕ) (x : law.Item) → slice_get is j ≡ Some x
    → writes_as v x.packet ≡ true → voided_in u (before_write v is) ≡ true → Before is u j
voided_before [] u v j x e w h = absurd (cc)
voided_before (i ∷ is) u v zero x e w h =
    let same : i ≡ x = cc in
    let stop : before_write v (i ∷ is) ≡ [] =
    ap (λ b. cond b [] (i ∷ before_write v is))
    (ap (λ (y : law.Item). writes_as v y.packet) same ∙ w) in
    absurd (let y : false ≡ true = sym (ap (voided_in u) stop) ∙ h in cc)
voided_before (i ∷ is) u v (suc j) x e w h =
    by_test (writes_as v i.packet) h (λ r. voided_before is u v j x e w r)
  where
    by_test :
        (b : Bool) → voided_in u (cond b [] (i ∷ before_write v is)) ≡ true
        → (voided_in u (before_write v is) ≡ true → Before is u j) → Before (i ∷ is) u (suc j)
    by_test true h' rest = absurd (cc)
    by_test false h' rest =
        by_case (or_cases (voids u i.packet) (voided_in u (before_write v is)) h')
      where
        by_case :
            (voids u i.packet ≡ true) ⊎ (voided_in u (before_write v is) ≡ true)
            → Before (i ∷ is) u (suc j)
        by_case (inl y) = (0, omega arith, i, refl, y)
        by_case (inr y) =
            let r = rest y in
            let l = r.1 in (suc r.0, omega (arith, l), r.2, r.3, r.4)

module _ (keys : List (List ℕ)) (w : World) (s : System) (m : Mirrors keys w s) (told : Told s)
    (c : core.Core) (law_once : ActsOnce (ground s c)) where
  -- the write in the protocol machine
  record WriteThere (a : Stamped) (i : law.Item) : Type 0 where
    pub switch : ℕ
    pub is :
        i.packet
        ≡ law.ToServerWrite a.client a.seq a.version switch (number_of a.key)
        (content_code a.content)

  write_there :
      (item : Node × Packet) (i : law.Item) (a : Stamped) → ItemFits w.rack item i
      → stamped_write item ≡ Some a → WriteThere a i
  write_there item i a f e =
      let x = write_of item a e in
      let fit = subst (λ p. PacketFits w.rack p i.packet) x.is f.packet in
      record { switch = x.switch; is = fit }

  there :
      (item : Node × Packet) (a : Stamped) → Contains w.packets item → stamped_write item ≡ Some a
      → (to : law.Node) × (switch : ℕ)
      × Contains s.sent
      (law.item to
      (law.ToServerWrite a.client a.seq a.version switch (number_of a.key)
      (content_code a.content)))
  there item a c e =
      let x = paired_contains (ItemFits w.rack) w.packets s.sent item m.sent c in
      let y = write_there item x.0 a x.2 e in
      (x.0.to, y.switch, subst (λ p. Contains s.sent (law.item x.0.to p)) y.is x.1)

  one_write :
      (a b : Stamped) → Contains (writes_in w.packets) a → Contains (writes_in w.packets) b
      → a.version ≡ b.version → a ≡ b
  one_write a b x y e =
      let p = among w.packets a x in
      let q = among w.packets b y in
      let r = there p.0 a p.1 p.2 in
      let t = there q.0 b q.1 q.2 in
      let same =
      law_once.write r.0 t.0 a.client a.seq a.version r.1 (number_of a.key) b.client b.seq t.1
      (number_of b.key) (content_code a.content) (content_code b.content) r.2
      (subst
      (λ v.
      Contains s.sent
      (law.item t.0
      (law.ToServerWrite b.client b.seq v t.1 (number_of b.key) (content_code b.content))))
      (sym e) t.2) in
      let k = number_apart a.key b.key same.2 in
      let o = content_apart a.content b.content same.3 in
      λ i.
      record {
        client = same.0 i;
        seq = same.1 i;
        version = e i;
        key = k i;
        content = o i;
      }

  -- the packets at a place
  fits_at :
      (k : ℕ) (y : law.Item) → slice_get s.sent k ≡ Some y
      → (item : Node × Packet) × (slice_get w.packets k ≡ Some item) × ItemFits w.rack item y
  fits_at k y e =
      by_option (slice_get w.packets k) refl
      (subst (PairedAt (ItemFits w.rack) (slice_get w.packets k)) e
      (paired_at (ItemFits w.rack) w.packets s.sent k m.sent))
    where
      by_option :
          (o : Option (Node × Packet)) → slice_get w.packets k ≡ o
          → PairedAt (ItemFits w.rack) o (Some y)
          → (item : Node × Packet) × (slice_get w.packets k ≡ Some item) × ItemFits w.rack item y
      by_option None f h = absurd h
      by_option (Some item) f h = (item, f, h)

  item_at :
      (k : ℕ) (item : Node × Packet) → slice_get w.packets k ≡ Some item
      → (y : law.Item) × (slice_get s.sent k ≡ Some y) × ItemFits w.rack item y
  item_at k item e =
      by_option (slice_get s.sent k) refl
      (subst (λ o. PairedAt (ItemFits w.rack) o (slice_get s.sent k)) e
      (paired_at (ItemFits w.rack) w.packets s.sent k m.sent))
    where
      by_option :
          (o : Option law.Item) → slice_get s.sent k ≡ o
          → PairedAt (ItemFits w.rack) (Some item) o
          → (y : law.Item) × (slice_get s.sent k ≡ Some y) × ItemFits w.rack item y
      by_option None f h = absurd h
      by_option (Some y) f h = (y, f, h)

  some_and :
      (o : Option (Node × Packet)) (a : Stamped)
      → IsSomeAnd o (λ item. stamped_write item ≡ Some a)
      → (item : Node × Packet) × (o ≡ Some item) × (stamped_write item ≡ Some a)
  some_and None a h = absurd h
  some_and (Some item) a h = (item, refl, h)

  -- a void in the protocol machine is one in the book
  record VoidHere (u : ℕ) (item : Node × Packet) (y : law.Item) : Type 0 where
    pub client : ℕ
    pub seq : ℕ
    pub server : ℕ
    pub switch : ℕ
    pub key : ℕ
    pub was : y.packet ≡ law.Void client seq u server switch key
    pub is : IsVoidOf client seq u item

  void_here :
      (u : ℕ) (item : Node × Packet) (y : law.Item) → ItemFits w.rack item y
      → voids u y.packet ≡ true → VoidHere u item y
  void_here u (to, packet.Void client seq version server switch key) y f e =
      let v : (version == u) ≡ true = sym (ap (voids u) f.packet) ∙ e in
      let same : version ≡ u = eqb-true version u v in
      record {
        client = client;
        seq = seq;
        server = server;
        switch = switch;
        key = number_of key;
        was =
            f.packet ∙ ap (λ x. law.Void client seq x server switch (number_of key)) same;
        is = (refl, refl, same);
      }
  void_here u (to, packet.Part epoch index count bytes) y f e =
      absurd (let x : false ≡ true = sym (ap (voids u) f.packet.is) ∙ e in cc)
  void_here u (to, p) y f e =
      absurd (let x : false ≡ true = sym (ap (voids u) f.packet) ∙ e in cc)

  was_at : (k : ℕ) (y : law.Item) → slice_get s.sent k ≡ Some y → Contains s.sent y
  was_at k y e =
      (k, slice_get_within s.sent k y e, get_or_from_slice_get s.sent k y y e)

  here_at : (k : ℕ) (x : Node × Packet) → slice_get w.packets k ≡ Some x → Contains w.packets x
  here_at k x e =
      (k, slice_get_within w.packets k x e, get_or_from_slice_get w.packets k x x e)

  voided_first :
      (i j : ℕ) (a b : Stamped)
      → IsSomeAnd (slice_get w.packets i) (λ item. stamped_write item ≡ Some a)
      → IsSomeAnd (slice_get w.packets j) (λ item. stamped_write item ≡ Some b)
      → a.client ≡ b.client → a.seq ≡ b.seq → a.version < b.version
      → (k : ℕ) × (k < j)
      × IsSomeAnd (slice_get w.packets k) (IsVoidOf a.client a.seq a.version)
  voided_first i j a b hi hj e1 e2 less =
      let x = some_and (slice_get w.packets i) a hi in
      let y = some_and (slice_get w.packets j) b hj in
      let one = there x.0 a (here_at i x.0 x.1) x.2 in
      let two = there y.0 b (here_at j y.0 y.1) y.2 in
      let sent =
      subst
      (λ c'.
      Contains s.sent
      (law.item two.0
      (law.ToServerWrite c' a.seq b.version two.1 (number_of b.key) (content_code b.content))))
      (sym e1)
      (subst
      (λ n.
      Contains s.sent
      (law.item two.0
      (law.ToServerWrite b.client n b.version two.1 (number_of b.key)
      (content_code b.content))))
      (sym e2) two.2) in
      let h =
      law_once.again one.0 two.0 a.client a.seq a.version one.1 (number_of a.key) b.version two.1
      (number_of b.key) (content_code a.content) (content_code b.content) one.2 sent less in
      let z = item_at j y.0 y.1 in
      let write = write_there y.0 z.0 b z.2 y.2 in
      let first : writes_as b.version z.0.packet ≡ true =
      ap (writes_as b.version) write.is ∙ eq-eqb b.version b.version refl in
      let r = voided_before s.sent a.version b.version j z.0 z.1 first h in
      let f = fits_at r.0 r.2 r.3 in
      let v = void_here a.version f.0 r.2 f.2 r.4 in
      let same =
      told.voids r.2.to one.0 v.client v.seq a.version v.server v.switch v.key a.client a.seq
      one.1 (number_of a.key) (content_code a.content)
      (subst (λ p. Contains s.sent (law.item r.2.to p)) v.was (was_at r.0 r.2 r.3)) one.2 in (
        r.0,
        r.1,
        subst (λ o. IsSomeAnd o (IsVoidOf a.client a.seq a.version)) (sym f.1)
            (subst (λ c'. IsVoidOf c' a.seq a.version f.0) same.0
            (subst (λ n. IsVoidOf v.client n a.version f.0) same.1 v.is)),
      )

  -- ---- nothing carries a version that was voided

  carried_dead :
      (version : ℕ) (to : law.Node) (client seq server switch key : ℕ)
      → Contains s.sent (law.item to (law.Void client seq version server switch key))
      → (item : Node × Packet) → Contains w.packets item → carried_version item ≡ Some version → ⊥
  carried_dead u to c' n t a k void
      (at, packet.ReadReply client seq version server switch key content) d e =
      let same : version ≡ u = cc in
      let x = paired_contains (ItemFits w.rack) w.packets s.sent
      (at, packet.ReadReply client seq version server switch key content) m.sent d in
      law_once.reported to c' n u t a k void server (number_of key)
      (By_read x.0.to client seq switch (content_code content)
      (subst
      (λ v.
      Contains s.sent
      (law.item x.0.to
      (law.ReadReply client seq v server switch (number_of key) (content_code content))))
      same (subst (λ p. Contains s.sent (law.item x.0.to p)) x.2.packet x.1)))
  carried_dead u to c' n t a k void (at, packet.WriteReply client seq version server switch key) d e
      =
      let same : version ≡ u = cc in
      let x = paired_contains (ItemFits w.rack) w.packets s.sent
      (at, packet.WriteReply client seq version server switch key) m.sent d in
      law_once.reported to c' n u t a k void server (number_of key)
      (By_write x.0.to client seq switch
      (subst
      (λ v.
      Contains s.sent
      (law.item x.0.to (law.WriteReply client seq v server switch (number_of key))))
      same (subst (λ p. Contains s.sent (law.item x.0.to p)) x.2.packet x.1)))
  carried_dead u to c' n t a k void (at, packet.Held server version key) d e =
      let same : version ≡ u = cc in
      let x = paired_contains (ItemFits w.rack) w.packets s.sent
      (at, packet.Held server version key) m.sent d in
      law_once.reported to c' n u t a k void server (number_of key)
      (By_copy x.0.to
      (subst (λ v. Contains s.sent (law.item x.0.to (law.Held server v (number_of key)))) same
      (subst (λ p. Contains s.sent (law.item x.0.to p)) x.2.packet x.1)))
  carried_dead u to c' n t a k void (at, packet.CopyData switch server version key content) d e =
      let same : version ≡ u = cc in
      let x = paired_contains (ItemFits w.rack) w.packets s.sent
      (at, packet.CopyData switch server version key content) m.sent d in
      law_once.copied to x.0.to c' n u t a k switch (number_of key) (content_code content) void
      (subst
      (λ v.
      Contains s.sent
      (law.item x.0.to (law.CopyData v switch (number_of key) (content_code content))))
      same (subst (λ p. Contains s.sent (law.item x.0.to p)) x.2.packet x.1))
  carried_dead u to c' n t a k void (at, p) d e = cc

  dead :
      (client seq version : ℕ) (void item : Node × Packet) → Contains w.packets void
      → IsVoidOf client seq version void → Contains w.packets item
      → carried_version item ≢ Some version
  dead client seq version (to, packet.Void c' q v server switch key) item x is d e =
      let y = paired_contains (ItemFits w.rack) w.packets s.sent
      (to, packet.Void c' q v server switch key) m.sent x in
      carried_dead version y.0.to c' q server switch (number_of key)
      (subst
      (λ u. Contains s.sent (law.item y.0.to (law.Void c' q u server switch (number_of key))))
      is.2 (subst (λ p. Contains s.sent (law.item y.0.to p)) y.2.packet y.1))
      item d e
  dead client seq version (to, p) item x is d e = absurd is

  pub acts_once_here : once.ActsOnce w.packets
  acts_once_here =
      record { one_write = one_write; voided_first = voided_first; void_is_dead = dead }
