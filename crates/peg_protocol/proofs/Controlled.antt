-- What the controller knows, at every moment: commands by their numbers, and where the pending one
-- stands.
use Rattle.std.proofs.Common.{◌≡◌, ◌≢◌, ℕ, ◌+◌, ◌<◌, ◌≤◌, ◌==◌, not, Bool, true, false, List, []}
use Rattle.std.proofs.Common.{◌∷◌, Option, Some, None, ◌++◌, arith, ap, sym, refl, ◌∙◌, subst}
use Rattle.std.proofs.Common.{subst₂, eq-eqb}
use Rattle.std.proofs.lemmas.Option.{same_Some}
use Rattle.std.specs.List.{AllByRecursion}
use Rattle.peg_protocol.specs.Packet.{Packet, Node, Item, item, What, Promote, Demote, Seal}
use Rattle.peg_protocol.specs.Packet.{Outcome, Listed, Marked, Activated, Read, Write, ToServerRead}
use Rattle.peg_protocol.specs.Packet.{ToServerWrite, ReadReply, WriteReply, CopyOrder, CopyData}
use Rattle.peg_protocol.specs.Packet.{Held, Fence, Void, Command, Ack, Part, Other, Client, Switch}
use Rattle.peg_protocol.specs.Packet.{Server, Controller}
use Rattle.peg_protocol.specs.Core.{Entry, entry_of, at_one}
use Rattle.peg_protocol.specs.System.{Mode, Active, Sealed, belongs, known_after}
use Rattle.peg_protocol.specs.ControllerLaw.{plain}
use Rattle.std.proofs.lemmas.Bool.{cond_both}
use Rattle.peg_protocol.specs.OutOfPlace.{NoRepeats}
use Rattle.peg_protocol.proofs.Counting.{among, NoRepeats-push, NoRepeats-filter}
use Rattle.peg_protocol.proofs.Keep.{items_push}
use Rattle.peg_protocol.proofs.Servers.{at_one_both, at_one_same, at_one_at, at_one_off}
use Rattle.peg_protocol.proofs.Placed.{all_append, all_mapped}

abbrev pub NotSeal : What → Type 0
NotSeal (Seal t e) = ⊥
NotSeal what = Unit {0}

abbrev pub SealFits : ℕ → ℕ → What → Type 0
SealFits switch epoch (Seal t e) = (t ≢ switch) × (e ≡ epoch + 1)
SealFits switch epoch what = Unit {0}

-- a key that was listed wasn't known
abbrev pub FreshIs : What → Outcome → List ℕ → Type 0
FreshIs (Promote k) (Listed l) known = among known k ≡ false
FreshIs what o known = Unit {0}

-- limit: an acknowledgement that was sent has a number below it
pub data Phase (number : ℕ) (command : Option What) (switch epoch : ℕ) (known : List ℕ) (a : ℕ)
    (m : Mode) (e last limit : ℕ) (keys : ℕ → Bool) (commands : ℕ → What) (results : ℕ → Outcome) :
    Type 0 where
  Quiet : command ≡ None → last ≡ number → switch ≡ a → epoch ≡ e → m ≡ Active → limit ≡ last + 1 →
      ((k : ℕ) → among known k ≡ keys k) →
      Phase number command switch epoch known a m e last limit keys commands results
  Waiting : command ≡ Some (commands number) → last + 1 ≡ number → switch ≡ a → epoch ≡ e →
      m ≡ Active → limit ≡ last + 1 → ((k : ℕ) → among known k ≡ keys k)
      → SealFits switch epoch (commands number) →
      Phase number command switch epoch known a m e last limit keys commands results
  Done : command ≡ Some (commands number) → last ≡ number → switch ≡ a → epoch ≡ e → m ≡ Active →
      limit ≡ last + 1
      → ((k : ℕ) → among (known_after (commands number) (results number) known) k ≡ keys k) →
      NotSeal (commands number) → FreshIs (commands number) (results number) known →
      Phase number command switch epoch known a m e last limit keys commands results
  Sealing : (t : ℕ) → command ≡ Some (Seal t (e + 1)) → commands number ≡ Seal t (e + 1) →
      results number ≡ Activated (e + 1) → last ≡ number → switch ≡ a → epoch ≡ e → m ≡ Sealed t →
      limit ≡ last
      → ((k : ℕ) → among known k ≡ keys k) →
      Phase number command switch epoch known a m e last limit keys commands results
  Moved : command ≡ Some (Seal a e) → commands number ≡ Seal a e → last ≡ number → epoch + 1 ≡ e →
      m ≡ Active → limit ≡ last + 1
      → ((k : ℕ) → among known k ≡ keys k) →
      Phase number command switch epoch known a m e last limit keys commands results

-- the kind goes to that node, and a CopyOrder names another server
abbrev pub Addressed : Node → Packet → Type 0
Addressed (Client c) packet = Unit {0}
Addressed (Switch a) (Read c n k) = Unit {0}
Addressed (Switch a) (Write c n k x) = Unit {0}
Addressed (Switch a) (ReadReply c n u s b k o) = Unit {0}
Addressed (Switch a) (WriteReply c n u s b k) = Unit {0}
Addressed (Switch a) (Held s u k) = Unit {0}
Addressed (Switch a) (Void c n u s b k) = Unit {0}
Addressed (Switch a) (Command number what) = Unit {0}
Addressed (Switch a) (Part epoch i count core) = Unit {0}
Addressed (Server t) (ToServerRead c n a k) = Unit {0}
Addressed (Server t) (ToServerWrite c n u a k x) = Unit {0}
Addressed (Server t) (CopyOrder a target k) = target ≢ t
Addressed (Server t) (CopyData u a k x) = Unit {0}
Addressed (Server t) (Fence f a k) = Unit {0}
Addressed Controller (Ack number outcome) = Unit {0}
Addressed to Other = Unit {0}
Addressed to packet = ⊥

abbrev pub OrderFits : (ℕ → What) → (ℕ → Outcome) → ℕ → ℕ → Node → Packet → Type 0
OrderFits commands results number limit (Switch b) (Command n what) =
    (1 ≤ n) × (n ≤ number) × (what ≡ commands n)
OrderFits commands results number limit Controller (Ack n o) = (n < limit) × (o ≡ results n)
OrderFits commands results number limit to packet = Addressed to packet

abbrev pub OrderOk : (ℕ → What) → (ℕ → Outcome) → ℕ → ℕ → Item → Type 0
OrderOk commands results number limit i = OrderFits commands results number limit i.to i.packet

abbrev pub keys_of : List Entry → ℕ → Bool
keys_of es k = plain (entry_of k es)

pub record Controlled (firsts : List ℕ) (number : ℕ) (command : Option What) (switch epoch : ℕ)
    (known : List ℕ) (sent : List Item) (a : ℕ) (m : Mode) (e : ℕ) (outcome : Outcome) (last : ℕ)
    (entries : List Entry) : Type 0 where
  pub commands : ℕ → What
  pub results : ℕ → Outcome
  pub limit : ℕ
  pub items : AllByRecursion (OrderOk commands results number limit) sent
  pub fits : (n : ℕ) → 1 ≤ n → n ≤ last → belongs n (commands n) (results n) ≡ true
  pub started : (what : What) → command ≡ Some what → 1 ≤ number
  pub outcome_is : m ≡ Active → outcome ≡ results last
  pub taken : 2 ≤ e → 1 ≤ last
  pub distinct : NoRepeats firsts → NoRepeats known
  pub phase : Phase number command switch epoch known a m e last limit (keys_of entries) commands
      results

NoRepeats-after : (what : What) (o : Outcome) (known : List ℕ) → NoRepeats known →
    NoRepeats (known_after what o known)
NoRepeats-after (Promote k) (Listed l) known h =
    cond_both (among known k) known (known ++ k ∷ []) NoRepeats (λ y. h)
    (λ n. NoRepeats-push known k n h)
NoRepeats-after (Demote k) (Marked m) known h = NoRepeats-filter (λ j. not (j == k)) known h
NoRepeats-after what o known h = h

module _ (firsts : List ℕ) (number : ℕ) (command : Option What) (switch epoch : ℕ) (known : List ℕ)
    (sent : List Item) (a : ℕ) (m : Mode) (e : ℕ) (outcome : Outcome) (last : ℕ)
    (entries : List Entry)
    (c : Controlled firsts number command switch epoch known sent a m e outcome last entries) where
  pub last_most : last ≤ number
  last_most = elim c.phase [
    | Quiet p1 p2 p3 p4 p5 p6 p7 ↦ omega (arith, p2)
    | Waiting p1 p2 p3 p4 p5 p6 p7 p8 ↦ omega (arith, p2)
    | Done p1 p2 p3 p4 p5 p6 p7 p8 p9 ↦ omega (arith, p2)
    | Sealing t p1 p2 p3 p4 p5 p6 p7 p8 p9 ↦ omega (arith, p4)
    | Moved p1 p2 p3 p4 p5 p6 p7 ↦ omega (arith, p3)
  ]

  pub last_least : number ≤ last + 1
  last_least = elim c.phase [
    | Quiet p1 p2 p3 p4 p5 p6 p7 ↦ omega (arith, p2)
    | Waiting p1 p2 p3 p4 p5 p6 p7 p8 ↦ omega (arith, p2)
    | Done p1 p2 p3 p4 p5 p6 p7 p8 p9 ↦ omega (arith, p2)
    | Sealing t p1 p2 p3 p4 p5 p6 p7 p8 p9 ↦ omega (arith, p4)
    | Moved p1 p2 p3 p4 p5 p6 p7 ↦ omega (arith, p3)
  ]

  pub limit_is : m ≡ Active → c.limit ≡ last + 1
  limit_is on = elim c.phase [
    | Quiet p1 p2 p3 p4 p5 p6 p7 ↦ p6
    | Waiting p1 p2 p3 p4 p5 p6 p7 p8 ↦ p6
    | Done p1 p2 p3 p4 p5 p6 p7 p8 p9 ↦ p6
    | Sealing t p1 p2 p3 p4 p5 p6 p7 p8 p9 ↦ absurd (let x : Active ≡ Sealed t = sym on ∙ p7 in cc)
    | Moved p1 p2 p3 p4 p5 p6 p7 ↦ p6
  ]

  -- packets more
  pub Controlled-sends : (is : List Item) →
      AllByRecursion (OrderOk c.commands c.results number c.limit) is →
      Controlled firsts number command switch epoch known (sent ++ is) a m e outcome last
      entries
  Controlled-sends is ok = record {
    commands = c.commands;
    results = c.results;
    limit = c.limit;
    items = all_append (OrderOk c.commands c.results number c.limit) sent is c.items ok;
    fits = c.fits;
    started = c.started;
    outcome_is = c.outcome_is;
    taken = c.taken;
    distinct = c.distinct;
    phase = c.phase;
  }

  -- the acknowledgement again
  pub Controlled-ack : m ≡ Active →
      Controlled firsts number command switch epoch known
      (sent ++ item Controller (Ack last outcome) ∷ []) a m e outcome last entries
  Controlled-ack on = Controlled-sends (item Controller (Ack last outcome) ∷ [])
      ((omega (arith, limit_is on), c.outcome_is on), tt)

  -- other entries, with the same keys listed and without a mark
  pub Controlled-entries : (es : List Entry) → ((k : ℕ) → keys_of entries k ≡ keys_of es k) →
      Controlled firsts number command switch epoch known sent a m e outcome last es
  Controlled-entries es same = record {
    commands = c.commands;
    results = c.results;
    limit = c.limit;
    items = c.items;
    fits = c.fits;
    started = c.started;
    outcome_is = c.outcome_is;
    taken = c.taken;
    distinct = c.distinct;
    phase = elim c.phase [
      | Quiet p1 p2 p3 p4 p5 p6 p7 ↦ Quiet p1 p2 p3 p4 p5 p6 (λ k. p7 k ∙ same k)
      | Waiting p1 p2 p3 p4 p5 p6 p7 p8 ↦ Waiting p1 p2 p3 p4 p5 p6 (λ k. p7 k ∙ same k) p8
      | Done p1 p2 p3 p4 p5 p6 p7 p8 p9 ↦ Done p1 p2 p3 p4 p5 p6 (λ k. p7 k ∙ same k) p8 p9
      | Sealing t p1 p2 p3 p4 p5 p6 p7 p8 p9 ↦ Sealing t p1 p2 p3 p4 p5 p6 p7 p8
          (λ k. p9 k ∙ same k)
      | Moved p1 p2 p3 p4 p5 p6 p7 ↦ Moved p1 p2 p3 p4 p5 p6 (λ k. p7 k ∙ same k)
    ];
  }

  -- an item's numbers and outcomes stay
  order_later : (commands' : ℕ → What) (results' : ℕ → Outcome) (number' limit' : ℕ) →
      ((n : ℕ) → n ≤ number → c.commands n ≡ commands' n) →
      ((n : ℕ) → n < c.limit → c.results n ≡ results' n)
      → number ≤ number' → c.limit ≤ limit' → (to : Node) (p : Packet) →
      OrderFits c.commands c.results number c.limit to p →
      OrderFits commands' results' number' limit' to p
  order_later cs rs n' l' fc fr ln ll (Switch b) (Command n what) h =
      (h.0, omega (arith, h.1, ln), h.2 ∙ fc n h.1)
  order_later cs rs n' l' fc fr ln ll Controller (Ack n o) h =
      (omega (arith, h.0, ll), h.1 ∙ fr n h.0)
  order_later cs rs n' l' fc fr ln ll to p h = h

  orders_later : (commands' : ℕ → What) (results' : ℕ → Outcome) (number' limit' : ℕ) →
      ((n : ℕ) → n ≤ number → c.commands n ≡ commands' n) →
      ((n : ℕ) → n < c.limit → c.results n ≡ results' n)
      → number ≤ number' → c.limit ≤ limit' →
      AllByRecursion (OrderOk commands' results' number' limit') sent
  orders_later cs rs n' l' fc fr ln ll =
      all_mapped (OrderOk c.commands c.results number c.limit) (OrderOk cs rs n' l')
      (λ i h. order_later cs rs n' l' fc fr ln ll i.to i.packet h) sent c.items

  -- the pending command, which no one took yet
  module _ (on : m ≡ Active) (n : ℕ) (what : What) (next : n ≡ last + 1)
      (came : (1 ≤ n) × (n ≤ number) × (what ≡ c.commands n)) where
    pub is_number : number ≡ last + 1
    is_number = omega (arith, next, came.1, last_least)

    is_command : c.commands number ≡ what
    is_command = ap c.commands (is_number ∙ sym next) ∙ sym came.2

    limit_number : c.limit ≡ number
    limit_number = limit_is on ∙ sym is_number

    other : (o : Outcome) (j : ℕ) → j < c.limit → c.results j ≡ at_one c.results number o j
    other o j l = sym (at_one_off c.results number o j (λ e. omega (arith, e, l, limit_number)))

    fits_more : (o : Outcome) → belongs number what o ≡ true → (j : ℕ) → 1 ≤ j → j ≤ last + 1 →
        belongs j (c.commands j) (at_one c.results number o j) ≡ true
    fits_more o b j l1 l2 =
        at_one_both c.results number o j (λ r. belongs j (c.commands j) r ≡ true)
        (λ e. subst₂ (λ (i : ℕ) (w : What). belongs i w o ≡ true) (sym e)
        (sym (ap c.commands e ∙ is_command)) b)
        (λ ne. c.fits j l1 (omega (arith, l2, ne, is_number)))

    pub Controlled-does : NotSeal what → (o : Outcome) (es : List Entry) →
        belongs number what o ≡ true
        → (((k : ℕ) → among known k ≡ keys_of entries k) → (k : ℕ) →
        among (known_after what o known) k ≡ keys_of es k)
        → (((k : ℕ) → among known k ≡ keys_of entries k) → FreshIs what o known)
        → Controlled firsts number command switch epoch known
        (sent ++ item Controller (Ack (last + 1) o) ∷ []) a m e o (last + 1) es
    Controlled-does plain_one o es b after fresh = record {
      commands = c.commands;
      results = at_one c.results number o;
      limit = last + 1 + 1;
      items = items_push (OrderOk c.commands (at_one c.results number o) number (last + 1 + 1)) sent
          (item Controller (Ack (last + 1) o))
          (orders_later c.commands (at_one c.results number o) number (last + 1 + 1) (λ j l. refl)
          (other o) (omega arith) (omega (arith, limit_number, is_number)))
          (omega arith, sym (at_one_at c.results number o (last + 1) (sym is_number)));
      fits = fits_more o b;
      started = c.started;
      outcome_is = λ x. sym (at_one_at c.results number o (last + 1) (sym is_number));
      taken = λ x. omega arith;
      distinct = c.distinct;
      phase = elim c.phase [
        | Quiet p1 p2 p3 p4 p5 p6 p7 ↦ absurd (omega (arith, p2, is_number))
        | Waiting p1 p2 p3 p4 p5 p6 p7 p8 ↦ Done p1 (sym is_number) p3 p4 p5 refl
            (λ k. subst₂
            (λ (w : What) (r : Outcome). among (known_after w r known) k ≡ keys_of es k)
            (sym is_command) (sym (at_one_same c.results number o)) (after p7 k))
            (subst NotSeal (sym is_command) plain_one)
            (subst₂ (λ (w : What) (r : Outcome). FreshIs w r known) (sym is_command)
            (sym (at_one_same c.results number o)) (fresh p7))
        | Done p1 p2 p3 p4 p5 p6 p7 p8 p9 ↦ absurd (omega (arith, p2, is_number))
        | Sealing t p1 p2 p3 p4 p5 p6 p7 p8 p9 ↦ absurd (omega (arith, p4, is_number))
        | Moved p1 p2 p3 p4 p5 p6 p7 ↦ absurd (omega (arith, p3, is_number))
      ];
    }

    pub Controlled-seal : (t : ℕ) → what ≡ Seal t (e + 1) → (outcome' : Outcome) →
        Controlled firsts number command switch epoch known sent a (Sealed t) e outcome' (last + 1)
        entries
    Controlled-seal t is outcome' = record {
      commands = c.commands;
      results = at_one c.results number (Activated (e + 1));
      limit = last + 1;
      items = orders_later c.commands (at_one c.results number (Activated (e + 1))) number
          (last + 1) (λ j l. refl) (other (Activated (e + 1))) (omega arith)
          (omega (arith, limit_number, is_number));
      fits = fits_more (Activated (e + 1))
          (subst (λ (w : What). belongs number w (Activated (e + 1)) ≡ true) (sym is)
          (eq-eqb (e + 1) (e + 1) refl));
      started = c.started;
      outcome_is = λ x. absurd (cc);
      taken = λ x. omega arith;
      distinct = c.distinct;
      phase = elim c.phase [
        | Quiet p1 p2 p3 p4 p5 p6 p7 ↦ absurd (omega (arith, p2, is_number))
        | Waiting p1 p2 p3 p4 p5 p6 p7 p8 ↦ Sealing t (p1 ∙ ap (λ w. Some w) (is_command ∙ is))
            (is_command ∙ is) (at_one_same c.results number (Activated (e + 1))) (sym is_number) p3
            p4 refl refl p7
        | Done p1 p2 p3 p4 p5 p6 p7 p8 p9 ↦ absurd (omega (arith, p2, is_number))
        | Sealing u p1 p2 p3 p4 p5 p6 p7 p8 p9 ↦ absurd (omega (arith, p4, is_number))
        | Moved p1 p2 p3 p4 p5 p6 p7 ↦ absurd (omega (arith, p3, is_number))
      ];
    }

  -- the target has the whole state
  pub Controlled-activate : (b epoch' : ℕ) → m ≡ Sealed b → epoch' ≡ e + 1 →
      Controlled firsts number command switch epoch known
      (sent ++ item Controller (Ack last (Activated epoch')) ∷ []) b Active epoch'
      (Activated epoch') last entries
  Controlled-activate b epoch' sealed next = elim c.phase [
    | Quiet p1 p2 p3 p4 p5 p6 p7 ↦ absurd (let x : Active ≡ Sealed b = sym p5 ∙ sealed in cc)
    | Waiting p1 p2 p3 p4 p5 p6 p7 p8 ↦ absurd (let x : Active ≡ Sealed b = sym p5 ∙ sealed in cc)
    | Done p1 p2 p3 p4 p5 p6 p7 p8 p9 ↦ absurd (let x : Active ≡ Sealed b = sym p5 ∙ sealed in cc)
    | Sealing t p1 p2 p3 p4 p5 p6 p7 p8 p9 ↦
        let at : t ≡ b = let x : Sealed t ≡ Sealed b = sym p7 ∙ sealed in cc in
        let is : Seal t (e + 1) ≡ Seal b epoch' = cc in
        let o : Activated epoch' ≡ c.results last =
        ap (λ x. Activated x) next ∙ sym p3 ∙ ap c.results (sym p4) in
        record {
          commands = c.commands;
          results = c.results;
          limit = last + 1;
          items = items_push (OrderOk c.commands c.results number (last + 1)) sent
              (item Controller (Ack last (Activated epoch')))
              (orders_later c.commands c.results number (last + 1) (λ j l. refl) (λ j l. refl)
              (omega arith) (omega (arith, p8)))
              (omega arith, o);
          fits = c.fits;
          started = c.started;
          outcome_is = λ x. o;
          taken = λ x. omega (arith, p4, c.started (Seal t (e + 1)) p1);
          distinct = c.distinct;
          phase = Moved (p1 ∙ ap (λ w. Some w) is) (p2 ∙ is) p4 (omega (arith, p6, next)) refl refl
              p9;
        }
    | Moved p1 p2 p3 p4 p5 p6 p7 ↦ absurd (let x : Active ≡ Sealed b = sym p5 ∙ sealed in cc)
  ]

  -- a command is given
  pub Controlled-order : command ≡ None → (what : What) → SealFits switch epoch what → (b : ℕ)
      → Controlled firsts (number + 1) (Some what) switch epoch known
      (sent ++ item (Switch b) (Command (number + 1) what) ∷ []) a m e outcome last entries
  Controlled-order none what seal b =
      let cs = at_one c.commands (number + 1) what in
      let old : (j : ℕ) → j ≤ number → c.commands j ≡ cs j =
      λ j l. sym (at_one_off c.commands (number + 1) what j (omega (arith, l))) in
      let new : cs (number + 1) ≡ what = at_one_same c.commands (number + 1) what in
      record {
        commands = cs;
        results = c.results;
        limit = c.limit;
        items = items_push (OrderOk cs c.results (number + 1) c.limit) sent
            (item (Switch b) (Command (number + 1) what))
            (orders_later cs c.results (number + 1) c.limit old (λ j l. refl) (omega arith)
            (omega arith))
            (omega arith, omega arith, sym new);
        fits = λ j l1 l2. subst (λ (w : What). belongs j w (c.results j) ≡ true)
            (old j (omega (arith, l2, last_most))) (c.fits j l1 l2);
        started = λ w x. omega arith;
        outcome_is = c.outcome_is;
        taken = c.taken;
        distinct = c.distinct;
        phase = elim c.phase [
          | Quiet p1 p2 p3 p4 p5 p6 p7 ↦ Waiting (ap (λ w. Some w) (sym new)) (omega (arith, p2)) p3
              p4 p5 p6 p7 (subst (SealFits switch epoch) (sym new) seal)
          | Waiting p1 p2 p3 p4 p5 p6 p7 p8 ↦ absurd (cc)
          | Done p1 p2 p3 p4 p5 p6 p7 p8 p9 ↦ absurd (cc)
          | Sealing t p1 p2 p3 p4 p5 p6 p7 p8 p9 ↦ absurd (cc)
          | Moved p1 p2 p3 p4 p5 p6 p7 ↦ absurd (cc)
        ];
      }

  -- the pending command again
  pub pending_is : (what : What) → command ≡ Some what → what ≡ c.commands number
  pending_is what is = elim c.phase [
    | Quiet p1 p2 p3 p4 p5 p6 p7 ↦ absurd (cc)
    | Waiting p1 p2 p3 p4 p5 p6 p7 p8 ↦ same_Some what (c.commands number) (sym is ∙ p1)
    | Done p1 p2 p3 p4 p5 p6 p7 p8 p9 ↦ same_Some what (c.commands number) (sym is ∙ p1)
    | Sealing t p1 p2 p3 p4 p5 p6 p7 p8 p9 ↦ same_Some what (Seal t (e + 1)) (sym is ∙ p1) ∙ sym p2
    | Moved p1 p2 p3 p4 p5 p6 p7 ↦ same_Some what (Seal a e) (sym is ∙ p1) ∙ sym p2
  ]

  pub Controlled-repeat : (what : What) → command ≡ Some what → (b : ℕ) →
      Controlled firsts number command switch epoch known
      (sent ++ item (Switch b) (Command number what) ∷ []) a m e outcome last entries
  Controlled-repeat what is b =
      Controlled-sends (item (Switch b) (Command number what) ∷ [])
      ((c.started what is, omega arith, pending_is what is), tt)

  -- the acknowledgement of the pending command
  module _ (what : What) (is : command ≡ Some what) (n : ℕ) (o : Outcome) (at : n ≡ number)
      (came : (n < c.limit) × (o ≡ c.results n)) where
    pub settled : (switch' epoch' : ℕ) (known' : List ℕ) →
        (NotSeal what → (switch' ≡ switch) × (epoch' ≡ epoch) × (known' ≡ known_after what o known))
        → ((t f : ℕ) → what ≡ Seal t f → (switch' ≡ t) × (epoch' ≡ f) × (known' ≡ known)) →
        Controlled firsts number None switch' epoch' known' sent a m e outcome last entries
    settled switch' epoch' known' plain_one seal = record {
      commands = c.commands;
      results = c.results;
      limit = c.limit;
      items = c.items;
      fits = c.fits;
      started = λ w x. absurd (cc);
      outcome_is = c.outcome_is;
      taken = c.taken;
      distinct = λ f. elim c.phase [
        | Quiet p1 p2 p3 p4 p5 p6 p7 ↦ absurd (cc)
        | Waiting p1 p2 p3 p4 p5 p6 p7 p8 ↦ absurd (omega (arith, p2, p6, came.0, at))
        | Done p1 p2 p3 p4 p5 p6 p7 p8 p9 ↦
            let w = same_Some what (c.commands number) (sym is ∙ p1) in
            let x = plain_one (subst NotSeal (sym w) p8) in
            subst NoRepeats (sym x.2) (NoRepeats-after what o known (c.distinct f))
        | Sealing t p1 p2 p3 p4 p5 p6 p7 p8 p9 ↦ absurd (omega (arith, p4, p8, came.0, at))
        | Moved p1 p2 p3 p4 p5 p6 p7 ↦
            let x = seal a e (same_Some what (Seal a e) (sym is ∙ p1)) in
            subst NoRepeats (sym x.2) (c.distinct f)
      ];
      phase = elim c.phase [
        | Quiet p1 p2 p3 p4 p5 p6 p7 ↦ absurd (cc)
        | Waiting p1 p2 p3 p4 p5 p6 p7 p8 ↦ absurd (omega (arith, p2, p6, came.0, at))
        | Done p1 p2 p3 p4 p5 p6 p7 p8 p9 ↦
            let w = same_Some what (c.commands number) (sym is ∙ p1) in
            let r : o ≡ c.results number = came.1 ∙ ap c.results at in
            let x = plain_one (subst NotSeal (sym w) p8) in
            Quiet refl p2 (x.0 ∙ p3) (x.1 ∙ p4) p5 p6
            (λ k. ap (λ l. among l k) x.2
            ∙ subst₂ (λ (v : What) (q : Outcome). among (known_after v q known) k
            ≡ keys_of entries k) (sym w) (sym r) (p7 k))
        | Sealing t p1 p2 p3 p4 p5 p6 p7 p8 p9 ↦ absurd (omega (arith, p4, p8, came.0, at))
        | Moved p1 p2 p3 p4 p5 p6 p7 ↦
            let x = seal a e (same_Some what (Seal a e) (sym is ∙ p1)) in
            Quiet refl p3 x.0 x.1 p5 p6 (λ k. ap (λ l. among l k) x.2 ∙ p7 k)
      ];
    }
