-- What each version of a world was given to, since it was in the protocol machine.
use Rattle.std.proofs.Common.{◌≡◌, ◌≤◌, ◌+◌, ◌==◌, ◌&&◌, ◌⊎◌, inl, inr, ℕ, zero, suc, Bool}
use Rattle.std.proofs.Common.{true, false, List, [], ◌∷◌, ◌++◌, map, cond, refl}
use Rattle.std.proofs.Common.{sym, ap, ◌∙◌, subst, Contains, arith, eqb-true, eq-eqb}
use Rattle.std.proofs.lemmas.Bool.{or_cases, or_right, and_parts}
use Rattle.std.proofs.lemmas.Grind.{reverse_onto}
use Rattle.std.specs.Prelude.{reverse}
use Rattle.std.specs.List.{list_any}
use Rattle.peg_name.specs.declared.value.Content.{Content}
use Rattle.peg_name.specs.declared.value.Content.TheVariants.{Absent}
use Rattle.peg_name.specs.declared.Node.{Node}
use Rattle.peg_event.specs.declared.history.Act.{Act}
use Rattle.peg_event.specs.declared.history.Act.TheVariants as act
use Rattle.peg_model.specs.Once.{IsVoidOf}
use Rattle.peg_model.specs.Packet as packet
use Rattle.peg_model.specs.Packet.{Packet}
use Rattle.peg_model.specs.Rules.{row_of}
use Rattle.peg_model.specs.World.{World, Promotion, origin_of, switch_of}
use Rattle.peg_law.specs.Codes.{number_of, content_code, node_code, act_code}
use Rattle.peg_law.specs.Covered.{version_at}
use Rattle.peg_law.specs.Fenced.{stored_at}
use Rattle.peg_law.specs.Given.{WasStamped, WasVoided, IsWrite, PairIs, times_given}
use Rattle.peg_law.specs.Given.{IsGiven, LastStamp, RowIs, VersionsAreGiven}
use Rattle.peg_law.specs.Mirrors.{Mirrors, ItemFits, IsOperation}
use Rattle.peg_law.proofs.Codes.{number_apart, content_apart}
use Rattle.peg_law.proofs.Covered.{current_here, plain_there}
use Rattle.peg_law.proofs.Logged.{Logged}
use Rattle.peg_law.proofs.Origins.{same_origins}
use Rattle.peg_law.proofs.Tables.{paired_back}
use Rattle.peg_protocol.specs.Core as core
use Rattle.peg_protocol.specs.Packet as law
use Rattle.peg_protocol.specs.Machine as machine
use Rattle.peg_protocol.specs.Machine.{Pair, Id, id}
use Rattle.peg_protocol.specs.Law as law_of
use Rattle.peg_protocol.specs.Law.{Law, stamps_as, stamped_in, voids, voided_in, times_in}
use Rattle.peg_protocol.specs.Handover.{HandoverLaw}
use Rattle.peg_protocol.specs.System.{System, ground}
use Rattle.peg_protocol.specs.Told.{Told}

-- ---- items by their packets

some_item :
    (p : law.Packet → Bool) (is : List law.Item) → list_any (λ i. p i.packet) is ≡ true
    → (i : law.Item) × Contains is i × (p i.packet ≡ true)
some_item p [] e = absurd (cc)
some_item p (i ∷ is) e =
    by_case (or_cases (p i.packet) (list_any (λ j. p j.packet) is) e) (λ y. some_item p is y)
  where
    by_case :
        (p i.packet ≡ true) ⊎ (list_any (λ j. p j.packet) is ≡ true)
        → (list_any (λ j. p j.packet) is ≡ true
        → (j : law.Item) × Contains is j × (p j.packet ≡ true))
        → (j : law.Item) × Contains (i ∷ is) j × (p j.packet ≡ true)
    by_case (inl y) rest = (i, (0, omega arith, refl), y)
    by_case (inr y) rest =
        let r = rest y in
        let c = r.1 in
        let l = c.1 in (r.0, (suc c.0, omega (arith, l), c.2), r.2)

any_item :
    (p : law.Packet → Bool) (is : List law.Item) (i : law.Item) → Contains is i
    → p i.packet ≡ true → list_any (λ j. p j.packet) is ≡ true
any_item p [] i (k, less, e) y = absurd (omega (arith, less))
any_item p (j ∷ is) i (zero, less, e) y =
    let same : p j.packet ≡ true = ap (λ (x : law.Item). p x.packet) e ∙ y in rw same refl
any_item p (j ∷ is) i (suc k, less, e) y =
    or_right (p j.packet) (list_any (λ x. p x.packet) is)
    (any_item p is i (k, omega (arith, less), e) y)

-- ---- how often a version was given to a promotion

times_pushed :
    (u : ℕ) (vs : List ℕ) (v : ℕ) → times_in u (vs ++ v ∷ []) ≡ times_in u (v ∷ []) + times_in u vs
times_pushed u [] v = omega arith
times_pushed u (x ∷ vs) v =
    let e = times_pushed u vs v in
    ap (λ n. cond (x == u) 1 0 + n) e ∙ omega arith

times_turned : (u : ℕ) (vs : List ℕ) → times_in u (reverse vs) ≡ times_in u vs
times_turned u [] = refl
times_turned u (v ∷ vs) =
    let e = times_turned u vs in
    ap (times_in u) (reverse_onto vs v []) ∙ times_pushed u (reverse vs) v
    ∙ ap (λ n. times_in u (v ∷ []) + n) e ∙ omega arith

times_same : (u : ℕ) (ps : List Promotion) →
    times_in u (map (λ p. p.version) ps) ≡ times_given u ps
times_same u [] = refl
times_same u (p ∷ ps) = ap (λ n. cond (p.version == u) 1 0 + n) (times_same u ps)

act_is : (a : Act) (x y : Content) → act_code a x ≡ machine.Writes (content_code y) →
    (a ≡ act.Write) × (x ≡ y)
act_is act.Read x y e = absurd (cc)
act_is act.Write x y e =
    let same : content_code x ≡ content_code y = cc in (refl, content_apart x y same)

module _ (keys : List (List ℕ)) (w : World) (s : System) (m : Mirrors keys w s) (told : Told s)
    (all : Logged s) (holder : ℕ) (h : HandoverLaw s holder)
    (l : Law (ground s (s.cores holder))) where
  -- ---- stamps and voids

  write_there :
      (client seq version : ℕ) (x : WasStamped w client seq version)
      → Contains s.sent
      (law.item (node_code x.to)
      (law.ToServerWrite client seq version x.switch (number_of x.key) (content_code x.content)))
  write_there client seq version x =
      plain_there keys w s m x.to
      (packet.ToServerWrite client seq version x.server x.switch x.key x.content)
      (law.ToServerWrite client seq version x.switch (number_of x.key) (content_code x.content))
      (λ i f. f.packet) x.sent

  stamped_there :
      (client seq version : ℕ) → WasStamped w client seq version
      → stamped_in client seq version s.sent ≡ true
  stamped_there client seq version x =
      any_item (stamps_as client seq version) s.sent _ (write_there client seq version x)
      (rw (eq-eqb client client refl, eq-eqb seq seq refl, eq-eqb version version refl) refl)

  stamped_item :
      (client seq version : ℕ) (item : Node × Packet) (i : law.Item) → Contains w.packets item
      → ItemFits w.rack item i → stamps_as client seq version i.packet ≡ true
      → WasStamped w client seq version
  stamped_item client seq version (to, packet.ToServerWrite c q v server to_switch key content) i
      has f e =
      let y = sym (ap (stamps_as client seq version) f.packet) ∙ e in
      let p = and_parts (c == client) (q == seq && v == version) y in
      let r = and_parts (q == seq) (v == version) p.1 in
      let a : c ≡ client = eqb-true c client p.0 in
      let b : q ≡ seq = eqb-true q seq r.0 in
      let d : v ≡ version = eqb-true v version r.1 in
      record {
        to = to;
        server = server;
        switch = to_switch;
        key = key;
        content = content;
        sent =
            subst
            (λ x.
            Contains w.packets
            (to, packet.ToServerWrite x seq version server to_switch key content))
            a
            (subst
            (λ x.
            Contains w.packets (to, packet.ToServerWrite c x version server to_switch key content))
            b
            (subst
            (λ x.
            Contains w.packets (to, packet.ToServerWrite c q x server to_switch key content))
            d has));
      }
  stamped_item client seq version (to, packet.Part epoch index count bytes) i has f e =
      absurd (let x : false ≡ true = sym (ap (stamps_as client seq version) f.packet.is) ∙ e in cc)
  stamped_item client seq version (to, p) i has f e =
      absurd (let x : false ≡ true = sym (ap (stamps_as client seq version) f.packet) ∙ e in cc)

  stamped_here :
      (client seq version : ℕ) → stamped_in client seq version s.sent ≡ true
      → WasStamped w client seq version
  stamped_here client seq version e =
      let x = some_item (stamps_as client seq version) s.sent e in
      let y = paired_back (ItemFits w.rack) w.packets s.sent x.0 m.sent x.1 in
      stamped_item client seq version y.0 x.0 y.1 y.2 x.2

  voided_item :
      (client seq version : ℕ) (item : Node × Packet) (i : law.Item) → Contains w.packets item
      → Contains s.sent i → ItemFits w.rack item i → voids version i.packet ≡ true
      → WasStamped w client seq version → IsVoidOf client seq version item
  voided_item client seq version (to, packet.Void c q v server to_switch key) i has sent f e x =
      let y : (v == version) ≡ true = sym (ap (voids version) f.packet) ∙ e in
      let d : v ≡ version = eqb-true v version y in
      let void =
      subst
      (λ u. Contains s.sent (law.item i.to (law.Void c q u server to_switch (number_of key)))) d
      (subst (λ p. Contains s.sent (law.item i.to p)) f.packet sent) in
      let same =
      told.voids i.to (node_code x.to) c q version server to_switch (number_of key) client seq
      x.switch (number_of x.key) (content_code x.content) void
      (write_there client seq version x) in
      (same.0, same.1, d)
  voided_item client seq version (to, packet.Part epoch index count bytes) i has sent f e x =
      absurd (let y : false ≡ true = sym (ap (voids version) f.packet.is) ∙ e in cc)
  voided_item client seq version (to, p) i has sent f e x =
      absurd (let y : false ≡ true = sym (ap (voids version) f.packet) ∙ e in cc)

  voided_here :
      (client seq version : ℕ) → voided_in version s.sent ≡ true
      → WasStamped w client seq version → WasVoided w client seq version
  voided_here client seq version e was =
      let x = some_item (voids version) s.sent e in
      let y = paired_back (ItemFits w.rack) w.packets s.sent x.0 m.sent x.1 in
      (y.0, y.1, voided_item client seq version y.0 x.0 y.1 x.1 y.2 x.2 was)

  -- ---- pairs

  write_here :
      (version : ℕ) (key : List ℕ) (content : Content)
      → law_of.IsStamped (ground s (s.cores holder)) version (number_of key) (content_code content)
      → IsWrite w version key content
  write_here version key content x =
      let y =
      paired_back (IsOperation s.issued s.plans s.answers s.stamps) w.operations s.log
      (id x.client x.seq) m.history (all x.client x.seq x.least x.most) in
      let o = y.0 in
      let f = y.2 in
      let k : number_of o.op.key ≡ number_of key =
      sym (ap (λ (p : machine.Plan). p.key) f.plan_is) ∙ x.key in
      let a : act_code o.op.act o.op.content ≡ machine.Writes (content_code content) =
      sym (ap (λ (p : machine.Plan). p.act) f.plan_is) ∙ x.act in
      let b = act_is o.op.act o.op.content content a in
      record {
        operation = o;
        begun = y.1;
        writes = b.0;
        of_key = number_apart o.op.key key k;
        of_content = b.1;
        stamped =
            subst (λ c. WasStamped w c o.seq version) f.client_is
            (subst (λ n. WasStamped w x.client n version) f.seq_is
            (stamped_here x.client x.seq version x.stamp));
      }

  pair_here :
      (key : List ℕ) (version : ℕ) (content : Content)
      → law_of.PairIs (ground s (s.cores holder)) (number_of key) version (content_code content)
      → PairIs w key version content
  pair_here key version content (inl x) =
      inl (
        sym (same_origins keys w s m told.fences key version) ∙ x.0,
        content_apart content Absent x.1,
      )
  pair_here key version content (inr x) =
      let same = same_origins keys w s m told.fences key version in
      inr (
        subst (λ n. 1 ≤ n) same x.0,
        write_here (origin_of w.fences key version) key content
            (subst
            (λ n.
            law_of.IsStamped (ground s (s.cores holder)) n (number_of key) (content_code content))
            same x.1),
      )

  pair_at : (server : ℕ) (key : List ℕ) →
      PairIs w key (version_at w server key) (stored_at w server key).content
  pair_at server key =
      pair_here key (version_at w server key) (stored_at w server key).content
      (subst
      (λ (p : Pair).
      law_of.PairIs (ground s (s.cores holder)) (number_of key) p.version p.content)
      ((m.servers server).keys key).pair_is (l.versions.held_pair server (number_of key)))

  -- ---- versions

  times_here : (version : ℕ) → times_in version s.promoted ≡ times_given version w.promotions
  times_here version =
      sym (times_turned version s.promoted) ∙ ap (times_in version) (sym m.promoted)
      ∙ times_same version w.promotions

  given_here : (version : ℕ) → law_of.IsGiven (ground s (s.cores holder)) version
      → IsGiven w version
  given_here version (inl x) =
      inl (
        record {
          client = x.0.client;
          seq = x.0.seq;
          was = stamped_here x.0.client x.0.seq version x.0.was;
          one = λ c q y. x.0.one c q (stamped_there c q version y);
        },
        sym (times_here version) ∙ x.1,
      )
  given_here version (inr x) =
      inr (
        sym (times_here version) ∙ x.0,
        λ client seq y. x.1 client seq (stamped_there client seq version y),
      )

  -- ---- rows

  last_there :
      (client seq version : ℕ) → WasStamped w client seq version
      → (1 ≤ version) × (version ≤ s.stamps client seq)
  last_there client seq version x =
      let sent = write_there client seq version x in
      let above =
      l.stamps (node_code x.to) client seq version x.switch (number_of x.key)
      (content_code x.content) sent in (
        omega (arith, above),
        l.versions.lasts (node_code x.to) client seq version x.switch (number_of x.key)
            (content_code x.content) sent,
      )

  last_here :
      (client : ℕ) (row : core.Row) → row ≡ (s.cores holder).rows client
      → law_of.RowIs (ground s (s.cores holder)) client
      → LastStamp w client (row.seq, row.version)
  last_here client row is x = subst (λ (r : core.Row). LastStamp w client (r.seq, r.version))
      (sym is) last
    where
      r : core.Row
      r = (s.cores holder).rows client

      was : WasStamped w client r.seq (s.stamps client r.seq)
      was =
          stamped_here client r.seq (s.stamps client r.seq) (l.versions.last client r.seq x.some)

      by_version :
          (r.version ≡ s.stamps client r.seq)
          ⊎ ((r.version ≡ 0) × (voided_in (s.stamps client r.seq) s.sent ≡ true))
          → (r.version ≡ s.stamps client r.seq)
          ⊎ ((r.version ≡ 0) × WasVoided w client r.seq (s.stamps client r.seq))
      by_version (inl e) = inl e
      by_version (inr y) =
          inr (y.0, voided_here client r.seq (s.stamps client r.seq) y.1 was)

      last : LastStamp w client (r.seq, r.version)
      last =
          record {
            last = s.stamps client r.seq;
            was = was;
            newest = λ version y. (last_there client r.seq version y).1;
            greatest = λ seq version y.
                let z = last_there client seq version y in
                let a = z.0 in
                let b = z.1 in x.greatest seq (omega (arith, a, b));
            version = by_version x.version;
          }

  row_here : (client : ℕ) → RowIs w client (row_of (switch_of w holder).stamps client)
  row_here client =
      subst (RowIs w client) ((m.switches holder).core_is.rows client)
      (by_case (l.versions.row client))
    where
      r : core.Row
      r = (s.cores holder).rows client

      by_case :
          ((r.seq ≡ 0) × (r.version ≡ 0) × ((n : ℕ) → s.stamps client n ≡ 0))
          ⊎ law_of.RowIs (ground s (s.cores holder)) client
          → RowIs w client (r.seq, r.version)
      by_case (inl x) =
          inl (
            x.0,
            x.1,
            λ seq version y.
                let z = last_there client seq version y in
                let a = z.0 in
                let b = z.1 in
                let c = x.2 seq in omega (arith, a, b, c),
          )
      by_case (inr x) = inr (last_here client r refl x)

  pub given_versions : VersionsAreGiven w
  given_versions =
      record {
        holder = holder;
        current = current_here keys w s m holder h;
        given = λ version least less.
            let e = (m.switches holder).core_is.next_is in
            let f = ap (λ (r : core.Rack). r.first) m.rack in
            given_here version
            (l.versions.given version (omega (arith, least, f)) (omega (arith, less, e)));
        held = pair_at;
        answered = λ to client seq version server to_switch key content sent.
            pair_here key version content
            (l.versions.read_pair (node_code to) client seq version server to_switch
            (number_of key) (content_code content)
            (plain_there keys w s m to
            (packet.ReadReply client seq version server to_switch key content)
            (law.ReadReply client seq version server to_switch (number_of key)
            (content_code content))
            (λ i f. f.packet) sent));
        written = λ to client seq version server to_switch key content sent.
            pair_here key version content
            (l.versions.write_pair (node_code to) client seq version to_switch (number_of key)
            (content_code content)
            (plain_there keys w s m to
            (packet.ToServerWrite client seq version server to_switch key content)
            (law.ToServerWrite client seq version to_switch (number_of key)
            (content_code content))
            (λ i f. f.packet) sent));
        copied = λ to to_switch server version key content sent.
            pair_here key version content
            (l.versions.copy_pair (node_code to) version to_switch (number_of key)
            (content_code content)
            (plain_there keys w s m to
            (packet.CopyData to_switch server version key content)
            (law.CopyData version to_switch (number_of key) (content_code content))
            (λ i f. f.packet) sent));
        rows = row_here;
      }
