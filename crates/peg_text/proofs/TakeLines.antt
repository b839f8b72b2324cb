-- The function that reads a line of a rack over a wire reads just the lines that spell an entry.
use Rattle.std.proofs.Common.{◌≡◌, ◌<◌, ◌^◌, ◌⊎◌, inl, inr, ℕ, zero, suc, Bool, true, false, cond}
use Rattle.std.proofs.Common.{Option, Some, None, List, [], ◌∷◌, ◌++◌, length, refl, arith, ap, sym}
use Rattle.std.proofs.Common.{◌∙◌, subst}
use Rattle.std.specs.Prelude.{decimal, codes, Contains, ◌==◌, IfSome, option_map}
use Rattle.std.specs.Str.{bytes_eq}
use Rattle.std.specs.List.{join_with_byte}
use Rattle.std.proofs.lemmas.List.{append-nil}
use Rattle.std.proofs.lemmas.Option.{none-some, same_Some}
use Rattle.peg_name.specs.Name.{Rack, InLimits}
use Rattle.peg_name.specs.declared.Node.{Node}
use Rattle.peg_name.specs.declared.Node.TheVariants as node
use Rattle.peg_event.specs.declared.Event.{Event}
use Rattle.peg_event.specs.declared.Event.TheVariants as event
use Rattle.peg_model.specs.Schedule.{node_words, NodeInRack, IsEventLine}
use Rattle.peg_meaning.specs.RackWord.{RackEntry, Named, Happens, Takes, Round, End, take_lines}
use Rattle.peg_meaning.specs.RackWord.{IsOfNodes, IsRackEntryLine}
use Rattle.peg_text.specs.Reading.{words_of, both_by, then_by, whole_of}
use Rattle.peg_text.specs.Events.{Read, read_as, read_node, read_pick, event_by, event_in}
use Rattle.peg_text.specs.declared.taking.RackEntry as said
use Rattle.peg_text.specs.Takes.{entry_in, is_of_nodes, node_event, entry_by, entry_from, entry_of}
use Rattle.peg_text.proofs.Readers.{by_test, if_passed, from_bytes_eq, then_at, then_some}
use Rattle.peg_text.proofs.Spaces.{AreSpaceless, decimal_spaceless}
use Rattle.peg_text.proofs.Lines.{two_words, three_words, four_words, cut, joined, only_one}
use Rattle.peg_text.proofs.Lines.{one_holds}
use Rattle.peg_text.proofs.EventLines.{node_ws, number_read, node_read, pick_sound, whole_some}
use Rattle.peg_text.proofs.EventLines.{node_spaceless, last_node_spaceless, is_zero, not_zero}
use Rattle.peg_text.proofs.EventLines.{event_complete, event_sound}

-- ---- the words of a take

short_words :
    (n : Node) → codes "take " ++ node_words n ≡ join_with_byte 32 (codes "take" ∷ node_ws n)
short_words (node.Client id) = three_words (codes "take") (codes "client") (decimal id)
short_words (node.Server id) = three_words (codes "take") (codes "server") (decimal id)
short_words (node.Switch id) = three_words (codes "take") (codes "switch") (decimal id)
short_words node.Controller = refl

long_words :
    (n : Node) (w : List ℕ)
    → (codes "take " ++ node_words n) ++ codes " " ++ w
    ≡ join_with_byte 32 (codes "take" ∷ (node_ws n ++ w ∷ []))
long_words (node.Client id) w = four_words (codes "take") (codes "client") (decimal id) w
long_words (node.Server id) w = four_words (codes "take") (codes "server") (decimal id) w
long_words (node.Switch id) w = four_words (codes "take") (codes "switch") (decimal id) w
long_words node.Controller w = three_words (codes "take") (codes "controller") w

abbrev AreTakeWords : Node → ℕ → List (List ℕ) → Type 0
AreTakeWords n pick ws =
    (ws ≡ codes "take" ∷ (node_ws n ++ decimal pick ∷ []))
    ⊎ ((pick ≡ 0) × (ws ≡ codes "take" ∷ node_ws n))

abbrev lines_by : Bool → Node → ℕ → List (List ℕ)
lines_by t n pick =
    let short = codes "take " ++ node_words n in
    let long = short ++ codes " " ++ decimal pick in
    cond t (short ∷ long ∷ []) (long ∷ [])

words_taken :
    (n : Node) (pick : ℕ) (t : Bool) (line : List ℕ) → (pick == 0) ≡ t
    → AreTakeWords n pick (words_of line) → Contains (lines_by t n pick) line
words_taken n pick true line t (inl long) =
    (1, omega arith, sym (joined _ line long ∙ sym (long_words n (decimal pick))))
words_taken n pick true line t (inr short) =
    (0, omega arith, sym (joined _ line short.1 ∙ sym (short_words n)))
words_taken n pick false line t (inl long) =
    one_holds _ _ (joined _ line long ∙ sym (long_words n (decimal pick)))
words_taken n pick false line t (inr short) = absurd (not_zero pick t short.0)

-- ---- of which kind an event is

pub of_nodes : (e : Event) → is_of_nodes e ≡ true → IsOfNodes e
of_nodes (event.Deliver number pick) is = absurd cc
of_nodes (event.Junk to bytes) is = absurd cc
of_nodes (event.Read client key) is = tt
of_nodes (event.Write client key value) is = tt
of_nodes (event.Delete client key) is = tt
of_nodes (event.Resend client) is = tt
of_nodes (event.GiveUp client) is = tt
of_nodes (event.Promote key) is = tt
of_nodes (event.Demote key) is = tt
of_nodes (event.Copy key target) is = tt
of_nodes (event.Fence key) is = tt
of_nodes (event.Handover target) is = tt
of_nodes event.Clear is = tt
of_nodes event.Retry is = tt
of_nodes event.Survey is = tt
of_nodes (event.Plan promote_at demote_below) is = tt

pub is_of : (e : Event) → IsOfNodes e → is_of_nodes e ≡ true
is_of (event.Deliver number pick) of = absurd of
is_of (event.Junk to bytes) of = absurd of
is_of (event.Read client key) of = refl
is_of (event.Write client key value) of = refl
is_of (event.Delete client key) of = refl
is_of (event.Resend client) of = refl
is_of (event.GiveUp client) of = refl
is_of (event.Promote key) of = refl
is_of (event.Demote key) of = refl
is_of (event.Copy key target) of = refl
is_of (event.Fence key) of = refl
is_of (event.Handover target) of = refl
is_of event.Clear of = refl
is_of event.Retry of = refl
is_of event.Survey of = refl
is_of (event.Plan promote_at demote_below) of = refl

-- what was chosen where three tests failed
pub last_chosen :
    {A : Type 0} (a b c : Bool) (x y z w : A) → a ≡ false → b ≡ false → c ≡ false
    → cond a x (cond b y (cond c z w)) ≡ w
last_chosen true b c x y z w first second third = absurd cc
last_chosen false true c x y z w first second third = absurd cc
last_chosen false false true x y z w first second third = absurd cc
last_chosen false false false x y z w first second third = refl

-- an entry of one word
pub one_word :
    {E : Type 0} (verb0 : List ℕ) (k : E) (line verb : List ℕ) (ws : List (List ℕ)) (e : E)
    (left : List (List ℕ)) → words_of line ≡ verb ∷ ws → bytes_eq verb verb0 ≡ true → left ≡ []
    → ◌≡◌ {A = Read E} (Some (k, ws)) (Some (e, left)) → (line ≡ verb0) × (k ≡ e)
one_word verb0 k line verb ws e left is same none at =
    let pair : (k, ws) ≡ (e, left) = same_Some _ _ at in
    let words : words_of line ≡ verb0 ∷ [] =
    is ∙ ap (λ v. v ∷ ws) (from_bytes_eq verb verb0 same)
    ∙ ap (λ t. verb0 ∷ t) (ap (λ p. p.1) pair ∙ none) in
    (joined (verb0 ∷ []) line words, ap (λ p. p.0) pair)

module _ (rack : Rack) (limits : InLimits rack) where
  -- ---- what is read is spelled

  take_words :
      (n : Node) (pick : ℕ) (ws end : List (List ℕ)) → ws ≡ node_ws n ++ end
      → (end ≡ decimal pick ∷ []) ⊎ ((pick ≡ 0) × (end ≡ []))
      → AreTakeWords n pick (codes "take" ∷ ws)
  take_words n pick ws end e (inl long) =
      inl (ap (λ t. codes "take" ∷ t) (e ∙ ap (λ t. node_ws n ++ t) long))
  take_words n pick ws end e (inr short) =
      inr (
        short.0,
        ap (λ t. codes "take" ∷ t)
            (e ∙ ap (λ t. node_ws n ++ t) short.1 ∙ append-nil (node_ws n)),
      )

  take_sound :
      (line verb : List ℕ) (ws : List (List ℕ)) (e : RackEntry) (left : List (List ℕ))
      → words_of line ≡ verb ∷ ws → left ≡ [] → bytes_eq verb (codes "take") ≡ true
      → read_as (λ p. Takes p.0 p.1) (both_by (read_node rack) read_pick ws) ≡ Some (e, left)
      → IsRackEntryLine rack line e
  take_sound line verb ws e left words none same is =
      let whole = then_some (both_by (read_node rack) read_pick ws) _ (e, left) is in
      let one = then_some (read_node rack ws) _ whole.0 whole.1 in
      let two = then_some (read_pick one.0.1) _ whole.0 one.2 in
      let parts : ((one.0.0, two.0.0), two.0.1) ≡ whole.0 = same_Some _ _ two.2 in
      let made : (Takes whole.0.0.0 whole.0.0.1, whole.0.1) ≡ (e, left) =
      same_Some _ _ whole.2 in
      let is_entry : Takes one.0.0 two.0.0 ≡ e =
      ap (λ q. Takes q.0.0 q.0.1) parts ∙ ap (λ q. q.0) made in
      let end : two.0.1 ≡ [] = ap (λ q. q.1) parts ∙ ap (λ q. q.1) made ∙ none in
      let name = (node_read rack limits).sound ws one.0.0 one.0.1 one.1 in
      let pick = pick_sound rack limits one.0.1 two.0.0 two.0.1 two.1 end in
      let spelled : AreTakeWords one.0.0 two.0.0 (words_of line) =
      subst (AreTakeWords one.0.0 two.0.0)
      (sym (words ∙ ap (λ v. v ∷ ws) (from_bytes_eq verb (codes "take") same)))
      (take_words one.0.0 two.0.0 ws one.0.1 name.0 pick.1) in
      subst (λ (k : RackEntry). IsRackEntryLine rack line k) is_entry
      (name.1, pick.0, words_taken one.0.0 two.0.0 (two.0.0 == 0) line refl spelled)

  node_event_sound :
      (line verb : List ℕ) (ws : List (List ℕ)) (r : Read Event) (e : Event)
      (left : List (List ℕ)) → words_of line ≡ verb ∷ ws → left ≡ []
      → event_by rack verb ws ≡ r → node_event r ≡ Some (e, left)
      → IsEventLine rack line e × IsOfNodes e
  node_event_sound line verb ws None e left words none is at = absurd (none-some _ at)
  node_event_sound line verb ws (Some r) e left words none is at =
      let passed = if_passed (is_of_nodes r.0) (Some r) (e, left) at in
      let pair : r ≡ (e, left) = same_Some _ _ passed.1 in
      let end : r.1 ≡ [] = ap (λ p. p.1) pair ∙ none in
      let read : event_in rack (words_of line) ≡ Some r.0 =
      ap (event_in rack) words ∙ ap whole_of is
      ∙ ap (λ l. whole_of (Some (r.0, l))) end in
      subst (λ (k : Event). IsEventLine rack line k × IsOfNodes k) (ap (λ p. p.0) pair)
      (event_sound rack limits line r.0 read, of_nodes r.0 passed.0)

  -- an entry that is an event
  pub happens_sound :
      {E : Type 0} (happens : Event → E) (P : E → Type 0) (line verb : List ℕ)
      (ws : List (List ℕ)) (e : E) (left : List (List ℕ)) → words_of line ≡ verb ∷ ws → left ≡ []
      → read_as happens (node_event (event_by rack verb ws)) ≡ Some (e, left)
      → ((k : Event) → IsEventLine rack line k × IsOfNodes k → P (happens k)) → P e
  happens_sound happens P line verb ws e left words none at holds =
      let got = then_some (node_event (event_by rack verb ws)) _ (e, left) at in
      let pair : (happens got.0.0, got.0.1) ≡ (e, left) = same_Some _ _ got.2 in
      subst P (ap (λ p. p.0) pair) (holds got.0.0 (node_event_sound line verb ws
      (event_by rack verb ws) got.0.0 got.0.1 words (ap (λ p. p.1) pair ∙ none) refl got.1))

  from_sound :
      (line : List ℕ) (ws : List (List ℕ)) (e : RackEntry) → words_of line ≡ ws
      → entry_from rack ws ≡ Some e → IsRackEntryLine rack line e
  from_sound line [] e words is = absurd (none-some e is)
  from_sound line (verb ∷ ws) e words is =
      let got = whole_some (entry_by rack verb ws) e is in
      by_test (bytes_eq verb (codes "take")) _ _ (e, got.0) got.2
      (λ same at. take_sound line verb ws e got.0 words got.1 same at)
      (λ no1 e1.
      by_test (bytes_eq verb (codes "round")) _ _ (e, got.0) e1
      (λ same at.
      let one = one_word (codes "round") Round line verb ws e got.0 words same got.1 at in
      subst (λ (k : RackEntry). IsRackEntryLine rack line k) one.1 one.0)
      (λ no2 e2.
      by_test (bytes_eq verb (codes "end")) _ _ (e, got.0) e2
      (λ same at.
      let one = one_word (codes "end") End line verb ws e got.0 words same got.1 at in
      subst (λ (k : RackEntry). IsRackEntryLine rack line k) one.1 one.0)
      (λ no3 e3.
      happens_sound Happens (IsRackEntryLine rack line) line verb ws e got.0 words got.1 e3
      (λ k is. is))))

  pub entry_sound :
      (line : List ℕ) (e : RackEntry) → entry_of rack line ≡ Some e → IsRackEntryLine rack line e
  entry_sound line e is = from_sound line (words_of line) e refl is

  -- ---- what is spelled is read

  taken_words :
      (n : Node) (pick : ℕ) (t : Bool) (line : List ℕ) → (pick == 0) ≡ t → NodeInRack rack n
      → pick < 2 ^ 64 → Contains (lines_by t n pick) line → AreTakeWords n pick (words_of line)
  taken_words n pick true line t ok small (zero, less, e) =
      inr (
        is_zero pick t,
        cut (codes "take") (node_ws n) line
            (last_node_spaceless rack limits (codes "take") n refl ok)
            (sym e ∙ short_words n),
      )
  taken_words n pick true line t ok small (suc zero, less, e) =
      inl (cut (codes "take") (node_ws n ++ decimal pick ∷ []) line
      (node_spaceless rack limits (codes "take") n (decimal pick) refl ok
      (decimal_spaceless pick small))
      (sym e ∙ long_words n (decimal pick)))
  taken_words n pick true line t ok small (suc (suc k), less, e) = absurd (omega arith)
  taken_words n pick false line t ok small has =
      inl (cut (codes "take") (node_ws n ++ decimal pick ∷ []) line
      (node_spaceless rack limits (codes "take") n (decimal pick) refl ok
      (decimal_spaceless pick small))
      (only_one _ _ has ∙ long_words n (decimal pick)))

  take_complete :
      (n : Node) (pick : ℕ) (ws : List (List ℕ)) → NodeInRack rack n → pick < 2 ^ 64
      → AreTakeWords n pick ws → entry_from rack ws ≡ Some (Takes n pick)
  take_complete n pick ws ok small (inl e) =
      ap (entry_from rack) e
      ∙ ap (λ r. whole_of (read_as (λ p. Takes p.0 p.1) r))
      (then_at (read_node rack (node_ws n ++ decimal pick ∷ []))
      (λ x left. then_by (read_pick left) (λ y end. Some ((x, y), end))) n (decimal pick ∷ [])
      ((node_read rack limits).complete n (decimal pick ∷ []) ok)
      ∙ then_at (read_pick (decimal pick ∷ [])) (λ y end. Some ((n, y), end)) pick []
      (number_read.complete pick [] small))
  take_complete n pick ws ok small (inr e) =
      ap (entry_from rack) (e.1 ∙ ap (λ t. codes "take" ∷ t) (sym (append-nil (node_ws n))))
      ∙ ap (λ r. whole_of (read_as (λ p. Takes p.0 p.1) r))
      (then_at (read_node rack (node_ws n ++ []))
      (λ x left. then_by (read_pick left) (λ y end. Some ((x, y), end))) n []
      ((node_read rack limits).complete n [] ok))
      ∙ ap (λ p. Some (Takes n p)) (sym e.0)

  -- an event has another verb
  pub not_verb :
      (verb verb0 : List ℕ) (ws : List (List ℕ)) (r : Event × List (List ℕ)) (b : Bool)
      → bytes_eq verb verb0 ≡ b → event_by rack verb ws ≡ Some r
      → event_by rack verb0 ws ≡ None → bytes_eq verb verb0 ≡ false
  not_verb verb verb0 ws r false same is none = same
  not_verb verb verb0 ws r true same is none =
      absurd (none-some r
      (sym none ∙ ap (λ v. event_by rack v ws) (sym (from_bytes_eq verb verb0 same)) ∙ is))

  pub happens_read :
      {E : Type 0} (happens : Event → E) (verb : List ℕ) (ws : List (List ℕ)) (e : Event)
      (left : List (List ℕ)) → is_of_nodes e ≡ true → event_by rack verb ws ≡ Some (e, left)
      → read_as happens (node_event (event_by rack verb ws)) ≡ Some (happens e, left)
  happens_read happens verb ws e left of is =
      ap (λ r. read_as happens (node_event r)) is
      ∙ ap (λ b. read_as happens (cond b (Some (e, left)) None)) of

  event_from :
      (ws : List (List ℕ)) (e : Event) → event_in rack ws ≡ Some e → is_of_nodes e ≡ true
      → entry_from rack ws ≡ Some (Happens e)
  event_from [] e is of = absurd (none-some e is)
  event_from (verb ∷ ws) e is of =
      let got = whole_some (event_by rack verb ws) e is in
      ap whole_of
      (last_chosen (bytes_eq verb (codes "take")) (bytes_eq verb (codes "round"))
      (bytes_eq verb (codes "end")) _ _ _
      (read_as Happens (node_event (event_by rack verb ws)))
      (not_verb verb (codes "take") ws (e, got.0) _ refl got.2 refl)
      (not_verb verb (codes "round") ws (e, got.0) _ refl got.2 refl)
      (not_verb verb (codes "end") ws (e, got.0) _ refl got.2 refl)
      ∙ happens_read Happens verb ws e got.0 of got.2)
      ∙ ap (λ l. whole_of (Some (Happens e, l))) got.1

  pub entry_complete :
      (line : List ℕ) (e : RackEntry) → IsRackEntryLine rack line e
      → entry_of rack line ≡ Some e
  entry_complete line (Named other keys) is = absurd is
  entry_complete line (Happens e) is =
      event_from (words_of line) e (event_complete rack limits line e is.0) (is_of e is.1)
  entry_complete line (Takes n pick) is =
      take_complete n pick (words_of line) is.0 is.1
      (taken_words n pick (pick == 0) line refl is.0 is.1 is.2)
  entry_complete line Round is = ap (entry_of rack) is
  entry_complete line End is = ap (entry_of rack) is

  -- ---- what the function answers

  pub read_sound :
      (line : List ℕ) (r : Option said.RackEntry) → option_map entry_in r ≡ entry_of rack line
      → IfSome r (λ e. IsRackEntryLine rack line (entry_in e))
  read_sound line None is = tt
  read_sound line (Some e) is = entry_sound line (entry_in e) (sym is)
