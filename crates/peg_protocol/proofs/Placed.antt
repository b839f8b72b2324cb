-- Where the current state is: what every step of a handover keeps.
use Rattle.std.proofs.Common.{Contains, ◌≡◌, ◌≢◌, ℕ, zero, suc, ◌+◌, ◌<◌, ◌≤◌, ◌⊎◌, ◌==◌, inl, inr}
use Rattle.std.proofs.Common.{true, false, cond, List, [], ◌∷◌, ◌++◌, arith, ap, sym, refl, ◌∙◌}
use Rattle.std.proofs.Common.{subst, subst₂, eqb-true}
use Rattle.std.proofs.lemmas.Bool.{cond_both, cases_eq}
use Rattle.std.proofs.lemmas.List.Elements.{Contains-append_left, All-contains, All-from_recursion}
use Rattle.std.specs.List.{AllByRecursion}
use Rattle.peg_protocol.specs.Packet.{Packet, Node, Item, item, Part, Switch}
use Rattle.peg_protocol.specs.Core.{Core, at_one}
use Rattle.peg_protocol.specs.System.{Mode, Idle, Active, Sealed, Gathered, parts_of, gathers}
use Rattle.peg_protocol.specs.Handover.{IsSealed, IsHolding}
use Rattle.peg_protocol.proofs.Keep.{items_push}
use Rattle.peg_protocol.proofs.Servers.{at_one_both, at_one_same, at_one_at, at_one_off}

-- sealed: whether the current state is; now: the current epoch
pub record PartFits (sealed : Type 0) (now : ℕ) (epochs : ℕ → ℕ) (states : ℕ → Core)
    (targets : ℕ → ℕ) (b epoch : ℕ) (core : Core) : Type 0 where
  pub state : core ≡ states epoch
  pub target : b ≡ targets epoch
  pub time : (epoch ≤ epochs b) ⊎ (sealed × (epoch ≡ now + 1))
  pub least : 2 ≤ epoch

abbrev pub PacketFits : Type 0 → ℕ → (ℕ → ℕ) → (ℕ → Core) → (ℕ → ℕ) → Node → Packet → Type 0
PacketFits sealed now epochs states targets (Switch b) (Part epoch i count core) =
    PartFits sealed now epochs states targets b epoch core
PacketFits sealed now epochs states targets to packet = Unit {0}

abbrev pub ItemFits : Type 0 → ℕ → (ℕ → ℕ) → (ℕ → Core) → (ℕ → ℕ) → Item → Type 0
ItemFits sealed now epochs states targets i =
    PacketFits sealed now epochs states targets i.to i.packet

-- of a sealed switch: its state was sent under the next epoch, and is the current one or has
-- arrived
pub record SealedFits (epochs : ℕ → ℕ) (core : Core) (states : ℕ → Core) (targets : ℕ → ℕ)
    (holder b target : ℕ) : Type 0 where
  pub least : 1 ≤ epochs b
  pub apart : target ≢ b
  pub state : core ≡ states (epochs b + 1)
  pub target_is : target ≡ targets (epochs b + 1)
  pub arrived : (b ≡ holder) ⊎ (epochs b + 1 ≤ epochs target)

abbrev pub ModeFits : (ℕ → ℕ) → Core → (ℕ → Core) → (ℕ → ℕ) → ℕ → ℕ → Mode → Type 0
ModeFits epochs core states targets holder b Idle = Unit {0}
ModeFits epochs core states targets holder b Active = b ≡ holder
ModeFits epochs core states targets holder b (Sealed target) =
    SealedFits epochs core states targets holder b target

pub record Placed (modes : ℕ → Mode) (epochs : ℕ → ℕ) (cores : ℕ → Core) (gathered : ℕ → Gathered)
    (sent : List Item) (holder : ℕ) (states : ℕ → Core) (targets : ℕ → ℕ) : Type 0 where
  pub holds : IsHolding (modes holder)
  pub mode : (b : ℕ) → ModeFits epochs (cores b) states targets holder b (modes b)
  pub first : 1 ≤ epochs holder
  pub others : (b : ℕ) → b ≢ holder → epochs b < epochs holder
  pub parts : AllByRecursion
      (ItemFits (IsSealed (modes holder)) (epochs holder) epochs states targets) sent
  pub gather : (b : ℕ) →
      ((gathered b).epoch ≤ epochs b)
      ⊎ (IsSealed (modes holder) × ((gathered b).epoch ≡ epochs holder + 1)
      × (b ≡ targets (epochs holder + 1)))
  pub has : (b i : ℕ) → (gathered b).has i ≡ true →
      (n : ℕ) × (core : Core) × Contains sent (item (Switch b) (Part (gathered b).epoch i n core))

pub all_append : {X : Type 0} (P : X → Type 0) (xs ys : List X) → AllByRecursion P xs →
    AllByRecursion P ys → AllByRecursion P (xs ++ ys)
all_append P [] ys h k = k
all_append P (x ∷ xs) ys h k = (h.0, all_append P xs ys h.1 k)

pub all_mapped : (P Q : Item → Type 0) → ((i : Item) → P i → Q i) → (xs : List Item) →
    AllByRecursion P xs → AllByRecursion Q xs
all_mapped P Q f [] h = h
all_mapped P Q f (x ∷ xs) h = (f x h.0, all_mapped P Q f xs h.1)

module _ (modes : ℕ → Mode) (epochs : ℕ → ℕ) (cores : ℕ → Core) (gathered : ℕ → Gathered)
    (sent : List Item) (holder : ℕ) (states : ℕ → Core) (targets : ℕ → ℕ)
    (p : Placed modes epochs cores gathered sent holder states targets) where
  -- a packet more
  pub Placed-push : (i : Item) →
      ItemFits (IsSealed (modes holder)) (epochs holder) epochs states targets i →
      Placed modes epochs cores gathered (sent ++ i ∷ []) holder states targets
  Placed-push i f = record {
    holds = p.holds;
    mode = p.mode;
    first = p.first;
    others = p.others;
    parts = items_push (ItemFits (IsSealed (modes holder)) (epochs holder) epochs states targets)
        sent i p.parts f;
    gather = p.gather;
    has = λ b j h. let x = p.has b j h in (
      x.0,
      x.1,
      Contains-append_left sent (i ∷ [])
          (item (Switch b) (Part (gathered b).epoch j x.0 x.1)) x.2,
    );
  }

  -- packets more
  pub Placed-sends : (is : List Item) →
      AllByRecursion (ItemFits (IsSealed (modes holder)) (epochs holder) epochs states targets) is →
      Placed modes epochs cores gathered (sent ++ is) holder states targets
  Placed-sends is f = record {
    holds = p.holds;
    mode = p.mode;
    first = p.first;
    others = p.others;
    parts = all_append (ItemFits (IsSealed (modes holder)) (epochs holder) epochs states targets)
        sent is p.parts f;
    gather = p.gather;
    has = λ b j h. let x = p.has b j h in (
      x.0,
      x.1,
      Contains-append_left sent is
          (item (Switch b) (Part (gathered b).epoch j x.0 x.1)) x.2,
    );
  }

  -- the active switch has another core
  pub Placed-core : (a : ℕ) (core : Core) → modes a ≡ Active →
      Placed modes epochs (at_one cores a core) gathered sent holder states targets
  Placed-core a core active = record {
    holds = p.holds;
    mode = λ b. at_one_both cores a core b
        (λ c. ModeFits epochs c states targets holder b (modes b))
        (λ e. subst (λ (m : Mode). ModeFits epochs core states targets holder b m)
        (sym (ap modes e ∙ active))
        (e ∙ subst (λ (m : Mode). ModeFits epochs (cores a) states targets holder a m) active
        (p.mode a)))
        (λ ne. p.mode b);
    first = p.first;
    others = p.others;
    parts = p.parts;
    gather = p.gather;
    has = p.has;
  }

  -- the active switch holds the current state
  pub active_holds : (a : ℕ) → modes a ≡ Active → a ≡ holder
  active_holds a e = subst (ModeFits epochs (cores a) states targets holder a) e (p.mode a)

  -- no state is sealed while the holder is active
  pub not_sealed : modes holder ≡ Active → IsSealed (modes holder) → ⊥
  not_sealed e s = subst IsSealed e s

-- the parts of a state, all alike
pub parts_fit : (P : Item → Type 0) (target epoch count : ℕ) (core : Core) →
    ((i : ℕ) → P (item (Switch target) (Part epoch i count core))) → (n : ℕ) →
    AllByRecursion P (parts_of target epoch count core n)
parts_fit P target epoch count core each zero = tt
parts_fit P target epoch count core each (suc n) =
    items_push P (parts_of target epoch count core n)
    (item (Switch target) (Part epoch n count core))
    (parts_fit P target epoch count core each n) (each n)

packet_mapped : (S S' : Type 0) (now now' : ℕ) (e e' : ℕ → ℕ) (states states' : ℕ → Core)
    (targets targets' : ℕ → ℕ)
    → ((b epoch : ℕ) (core : Core) → PartFits S now e states targets b epoch core →
    PartFits S' now' e' states' targets' b epoch core)
    → (to : Node) (p : Packet) → PacketFits S now e states targets to p →
    PacketFits S' now' e' states' targets' to p
packet_mapped S S' now now' e e' st st' ta ta' f (Switch b) (Part epoch i count core) h =
    f b epoch core h
packet_mapped S S' now now' e e' st st' ta ta' f to p h = tt

module _ (modes : ℕ → Mode) (epochs : ℕ → ℕ) (cores : ℕ → Core) (gathered : ℕ → Gathered)
    (sent : List Item) (a : ℕ) (states : ℕ → Core) (targets : ℕ → ℕ)
    (p : Placed modes epochs cores gathered sent a states targets) where
  pub epochs_most : (b : ℕ) → epochs b ≤ epochs a
  epochs_most b = elim (cases_eq b a) [
    | inl e ↦ let x : epochs b ≡ epochs a = ap epochs e in
        omega (arith, x)
    | inr ne ↦ omega (arith, p.others b ne)
  ]

  -- the active switch a is sealed for a target
  module _ (active : modes a ≡ Active) (t count n : ℕ) (core : Core) (apart : t ≢ a) where
    abbrev modes' : ℕ → Mode
    modes' = at_one modes a (Sealed t)

    abbrev states' : ℕ → Core
    states' = at_one states (epochs a + 1) core

    abbrev targets' : ℕ → ℕ
    targets' = at_one targets (epochs a + 1) t

    seal_part : (b epoch : ℕ) (c : Core) →
        PartFits (IsSealed (modes a)) (epochs a) epochs states targets b epoch c →
        PartFits (IsSealed (modes' a)) (epochs a) epochs states' targets' b epoch c
    seal_part b epoch c f =
        let l : epoch ≤ epochs b =
        elim f.time [
          | inl l ↦ l
          | inr s ↦ absurd
              (not_sealed modes epochs cores gathered sent a states targets p active s.0)
        ] in
        let ne : epoch ≢ epochs a + 1 = omega (arith, l, epochs_most b) in
        record {
          state = f.state ∙ sym (at_one_off states (epochs a + 1) core epoch ne);
          target = f.target ∙ sym (at_one_off targets (epochs a + 1) t epoch ne);
          time = inl l;
          least = f.least;
        }

    seal_mode : (b : ℕ) → b ≢ a → (m : Mode) → ModeFits epochs (cores b) states targets a b m →
        ModeFits epochs (cores b) states' targets' a b m
    seal_mode b ne Idle f = f
    seal_mode b ne Active f = f
    seal_mode b ne (Sealed u) f =
        let ne' : epochs b + 1 ≢ epochs a + 1 = omega (arith, p.others b ne) in
        record {
          least = f.least;
          apart = f.apart;
          state = f.state ∙ sym (at_one_off states (epochs a + 1) core (epochs b + 1) ne');
          target_is = f.target_is ∙ sym (at_one_off targets (epochs a + 1) t (epochs b + 1) ne');
          arrived = f.arrived;
        }

    pub Placed-seal : Placed modes' epochs (at_one cores a core) gathered
        (sent ++ parts_of t (epochs a + 1) count core n) a states' targets'
    Placed-seal = record {
      holds = subst IsHolding (sym (at_one_same modes a (Sealed t))) tt;
      mode = λ b. elim (cases_eq b a) [
        | inl e ↦ subst
            (λ (i : ℕ). ModeFits epochs (at_one cores a core i) states' targets' a i (modes' i))
            (sym e)
            (subst₂ (λ (c : Core) (m : Mode). ModeFits epochs c states' targets' a a m)
            (sym (at_one_same cores a core)) (sym (at_one_same modes a (Sealed t)))
            (record {
              least = p.first;
              apart = apart;
              state =
                  sym (at_one_same states (epochs a + 1) core);
              target_is =
                  sym (at_one_same targets (epochs a + 1) t);
              arrived = inl refl;
            }))
        | inr ne ↦
            subst₂ (λ (c : Core) (m : Mode). ModeFits epochs c states' targets' a b m)
            (sym (at_one_off cores a core b ne)) (sym (at_one_off modes a (Sealed t) b ne))
            (seal_mode b ne (modes b) (p.mode b))
      ];
      first = p.first;
      others = p.others;
      parts = all_append (ItemFits (IsSealed (modes' a)) (epochs a) epochs states' targets') sent
          (parts_of t (epochs a + 1) count core n)
          (all_mapped (ItemFits (IsSealed (modes a)) (epochs a) epochs states targets)
          (ItemFits (IsSealed (modes' a)) (epochs a) epochs states' targets')
          (λ i f. packet_mapped (IsSealed (modes a)) (IsSealed (modes' a)) (epochs a) (epochs a)
          epochs epochs states states' targets targets' seal_part i.to i.packet f) sent p.parts)
          (parts_fit (ItemFits (IsSealed (modes' a)) (epochs a) epochs states' targets') t
          (epochs a + 1) count core
          (λ i. record {
            state = sym (at_one_same states (epochs a + 1) core);
            target =
                sym (at_one_same targets (epochs a + 1) t);
            time =
                inr (subst IsSealed (sym (at_one_same modes a (Sealed t))) tt, refl);
            least =
                omega (arith, p.first);
          }) n);
      gather = λ b. elim (p.gather b) [
        | inl l ↦ inl l
        | inr s ↦ absurd
            (not_sealed modes epochs cores gathered sent a states targets p active s.0)
      ];
      has = λ b j h. let x = p.has b j h in (
        x.0,
        x.1,
        Contains-append_left sent (parts_of t (epochs a + 1) count core n)
            (item (Switch b) (Part (gathered b).epoch j x.0 x.1)) x.2,
      );
    }

  -- a sealed switch sends its parts again
  pub Placed-again : (b t count n : ℕ) → modes b ≡ Sealed t →
      Placed modes epochs cores gathered (sent ++ parts_of t (epochs b + 1) count (cores b) n) a
      states targets
  Placed-again b t count n sealed =
      let f : SealedFits epochs (cores b) states targets a b t =
      subst (ModeFits epochs (cores b) states targets a b) sealed (p.mode b) in
      record {
        holds = p.holds;
        mode = p.mode;
        first = p.first;
        others = p.others;
        parts = all_append (ItemFits (IsSealed (modes a)) (epochs a) epochs states targets) sent
            (parts_of t (epochs b + 1) count (cores b) n) p.parts
            (parts_fit (ItemFits (IsSealed (modes a)) (epochs a) epochs states targets) t
            (epochs b + 1) count (cores b)
            (λ i. record {
              least = omega (arith, f.least);
              state = f.state;
              target = f.target_is;
              time = elim f.arrived [
                | inl e ↦ inr
                    (subst IsSealed (sym (sym (ap modes e) ∙ sealed)) tt, ap (λ j. epochs j + 1) e)
                | inr l ↦ inl l
              ];
            }) n);
        gather = p.gather;
        has = λ c j h. let x = p.has c j h in (
          x.0,
          x.1,
          Contains-append_left sent (parts_of t (epochs b + 1) count (cores b) n)
              (item (Switch c) (Part (gathered c).epoch j x.0 x.1)) x.2,
        );
      }

  -- a switch that isn't active takes a part of a greater epoch
  module _ (b epoch i count : ℕ) (core : Core) (above : epochs b < epoch)
      (came : Contains sent (item (Switch b) (Part epoch i count core))) where
    part_fits : PartFits (IsSealed (modes a)) (epochs a) epochs states targets b epoch core
    part_fits = All-contains (ItemFits (IsSealed (modes a)) (epochs a) epochs states targets) sent
        (item (Switch b) (Part epoch i count core))
        (All-from_recursion (ItemFits (IsSealed (modes a)) (epochs a) epochs states targets) sent
        p.parts) came

    pub current : IsSealed (modes a) × (epoch ≡ epochs a + 1)
    current = elim part_fits.time [ inl l ↦ absurd (omega (arith, l, above)) | inr s ↦ s ]

    target_is : b ≡ targets (epochs a + 1)
    target_is = part_fits.target ∙ ap targets current.1

    gathered_has : (g : Gathered) →
        ((j : ℕ) → g.has j ≡ true →
        (n : ℕ) × (c : Core) × Contains sent (item (Switch b) (Part g.epoch j n c)))
        → (j : ℕ) → gathers g epoch i j ≡ true →
        (n : ℕ) × (c : Core) × Contains sent (item (Switch b) (Part epoch j n c))
    gathered_has g old j =
        at_one_both (cond (epoch == g.epoch) g.has (λ k. false)) i true j
        (λ x. x ≡ true → (n : ℕ) × (c : Core)
        × Contains sent (item (Switch b) (Part epoch j n c)))
        (λ e t. (
          count,
          core,
          subst (λ (k : ℕ). Contains sent (item (Switch b) (Part epoch k count core))) (sym e)
              came,
        ))
        (λ ne. cond_both (epoch == g.epoch) g.has (λ k. false)
        (λ h. h j ≡ true → (n : ℕ) × (c : Core)
        × Contains sent (item (Switch b) (Part epoch j n c)))
        (λ y h. let e = eqb-true epoch g.epoch y in
        subst (λ (q : ℕ). (n : ℕ) × (c : Core) × Contains sent (item (Switch b) (Part q j n c)))
        (sym e) (old j h))
        (λ n h. absurd (cc)))

    pub Placed-gather : Placed modes epochs cores
        (at_one gathered b (record { epoch = epoch; has = gathers (gathered b) epoch i })) sent a
        states targets
    Placed-gather = record {
      holds = p.holds;
      mode = p.mode;
      first = p.first;
      others = p.others;
      parts = p.parts;
      gather = λ c. at_one_both gathered b
          (record { epoch = epoch; has = gathers (gathered b) epoch i }) c
          (λ g. (g.epoch ≤ epochs c)
          ⊎ (IsSealed (modes a) × (g.epoch ≡ epochs a + 1) × (c ≡ targets (epochs a + 1))))
          (λ e. inr (current.0, current.1, e ∙ target_is)) (λ ne. p.gather c);
      has = λ c. at_one_both gathered b
          (record { epoch = epoch; has = gathers (gathered b) epoch i }) c
          (λ g. (j : ℕ) → g.has j ≡ true →
          (n : ℕ) × (d : Core) × Contains sent (item (Switch c) (Part g.epoch j n d)))
          (λ e j h. subst
          (λ (k : ℕ). (n : ℕ) × (d : Core) × Contains sent (item (Switch k) (Part epoch j n d)))
          (sym e) (gathered_has (gathered b) (p.has b) j h))
          (λ ne. p.has c);
    }

    abbrev on : ℕ → Mode
    on = at_one modes b Active

    abbrev risen : ℕ → ℕ
    risen = at_one epochs b epoch

    rises : (c : ℕ) → epochs c ≤ risen c
    rises c = at_one_both epochs b epoch c (λ x. epochs c ≤ x)
        (λ e. let x : epochs c ≡ epochs b = ap epochs e in omega (arith, x, above))
        (λ ne. omega arith)

    at_b : risen b ≡ epoch
    at_b = at_one_same epochs b epoch

    -- b isn't the holder, and it is the target
    holder_other : modes b ≢ Active → b ≢ a
    holder_other passive e =
        let sealed : IsSealed (modes b) =
        subst (λ (m : Mode). IsSealed m) (sym (ap modes e)) current.0 in
        apart_of (modes b) (p.mode b) sealed
      where
        apart_of : (m : Mode) → ModeFits epochs (cores b) states targets a b m → IsSealed m → ⊥
        apart_of Idle f s = s
        apart_of Active f s = s
        apart_of (Sealed t) f s =
            f.apart (f.target_is ∙ ap (λ j. targets (epochs j + 1)) e ∙ sym target_is)

    on_mode : b ≢ a → (c : ℕ) → c ≢ b → (m : Mode) → m ≡ modes c →
        ModeFits epochs (cores c) states targets a c m →
        ModeFits risen (cores c) states targets b c m
    on_mode ne c ne' Idle e f = f
    on_mode ne c ne' Active e f =
        absurd (not_sealed modes epochs cores gathered sent a states targets p
        (sym (e ∙ ap modes f)) current.0)
    on_mode ne c ne' (Sealed t) e f =
        let same : risen c ≡ epochs c = at_one_off epochs b epoch c ne' in
        record {
          least = omega (arith, same, f.least);
          apart = f.apart;
          state = f.state ∙ ap (λ x. states (x + 1)) (sym same);
          target_is = f.target_is ∙ ap (λ x. targets (x + 1)) (sym same);
          arrived = inr (elim f.arrived [
            | inl h ↦
                let at : t ≡ b = f.target_is ∙ ap (λ j. targets (epochs j + 1)) h ∙ sym target_is in
                let x : risen t ≡ epoch = ap risen at ∙ at_b in
                let y : epochs c ≡ epochs a = ap epochs h in
                omega (arith, x, y, same, current.1)
            | inr l ↦ omega (arith, l, same, rises t)
          ]);
        }

    on_part : (c q : ℕ) (d : Core) →
        PartFits (IsSealed (modes a)) (epochs a) epochs states targets c q d →
        PartFits (IsSealed (on b)) (risen b) risen states targets c q d
    on_part c q d f = record {
      least = f.least;
      state = f.state;
      target = f.target;
      time = inl (elim f.time [
        | inl l ↦ omega (arith, l, rises c)
        | inr s ↦
            let at : c ≡ b = f.target ∙ ap targets s.1 ∙ sym target_is in
            let x : risen c ≡ epoch = ap risen at ∙ at_b in
            omega (arith, x, s.1, current.1)
      ]);
    }

    pub Placed-activate : modes b ≢ Active →
        Placed on risen (at_one cores b core)
        (at_one gathered b (record { epoch = 0; has = λ j. false })) sent b states targets
    Placed-activate passive =
        let ne = holder_other passive in
        record {
          holds = subst IsHolding (sym (at_one_same modes b Active)) tt;
          mode = λ c. elim (cases_eq c b) [
            | inl e ↦ subst
                (λ (m : Mode). ModeFits risen (at_one cores b core c) states targets b c m)
                (sym (at_one_at modes b Active c e)) e
            | inr ne' ↦
                subst₂ (λ (x : Core) (m : Mode). ModeFits risen x states targets b c m)
                (sym (at_one_off cores b core c ne')) (sym (at_one_off modes b Active c ne'))
                (on_mode ne c ne' (modes c) refl (p.mode c))
          ];
          first = omega (arith, at_b, above);
          others = λ c ne'.
              let same : risen c ≡ epochs c = at_one_off epochs b epoch c ne' in
              omega (arith, same, at_b, epochs_most c, current.1);
          parts = all_mapped (ItemFits (IsSealed (modes a)) (epochs a) epochs states targets)
              (ItemFits (IsSealed (on b)) (risen b) risen states targets)
              (λ x f. packet_mapped (IsSealed (modes a)) (IsSealed (on b)) (epochs a) (risen b)
              epochs risen states states targets targets on_part x.to x.packet f) sent p.parts;
          gather = λ c. at_one_both gathered b (record { epoch = 0; has = λ j. false }) c
              (λ g. (g.epoch ≤ risen c)
              ⊎ (IsSealed (on b) × (g.epoch ≡ risen b + 1) × (c ≡ targets (risen b + 1))))
              (λ e. inl (let x : risen c ≡ epoch = ap risen e ∙ at_b in omega (arith, x)))
              (λ ne'. inl
              (elim (p.gather c) [
                | inl l ↦ omega (arith, l, rises c)
                | inr s ↦ absurd
                    (ne' (s.2 ∙ sym target_is))
              ]));
          has = λ c. at_one_both gathered b (record { epoch = 0; has = λ j. false }) c
              (λ g. (j : ℕ) → g.has j ≡ true →
              (n : ℕ) × (d : Core) × Contains sent (item (Switch c) (Part g.epoch j n d)))
              (λ e j h. absurd (cc)) (λ ne'. p.has c);
        }

    -- the current state was sealed for b
    pub sealed_for : modes a ≡ Sealed b
    sealed_for = by_mode (modes a) refl current.0 (p.mode a)
      where
        by_mode : (m : Mode) → modes a ≡ m → IsSealed m →
            ModeFits epochs (cores a) states targets a a m → modes a ≡ Sealed b
        by_mode Idle e s f = absurd s
        by_mode Active e s f = absurd s
        by_mode (Sealed t) e s f = e ∙ ap (λ x. Sealed x) (f.target_is ∙ sym target_is)

    -- what arrives is the current state
    pub arrives : core ≡ cores a
    arrives = state_of (modes a) current.0 (p.mode a)
      where
        state_of : (m : Mode) → IsSealed m → ModeFits epochs (cores a) states targets a a m →
            core ≡ cores a
        state_of Idle s f = absurd s
        state_of Active s f = absurd s
        state_of (Sealed t) s f = part_fits.state ∙ ap states current.1 ∙ sym f.state
