-- The function that reads an operation's line reads just the lines that spell one.
use Rattle.std.proofs.Common.{◌≡◌, ◌<◌, ◌≤◌, ◌^◌, ℕ, true, cond, ◌&&◌, Option, Some, None, List}
use Rattle.std.proofs.Common.{[]}
use Rattle.std.proofs.Common.{◌∷◌, ◌++◌, refl, arith, ap, sym, ◌∙◌, subst, append_assoc, nat_le}
use Rattle.std.specs.Prelude.{decimal, codes, option_and_then, IfSome}
use Rattle.std.specs.Str.{bytes_eq}
use Rattle.std.specs.List.{join_with_byte}
use Rattle.std.proofs.lemmas.List.{append-nil}
use Rattle.std.proofs.lemmas.Option.{none-some, same_Some}
use Rattle.std.proofs.lemmas.Bool.Decides.{nat_tests, Decides-ltb}
use Rattle.peg_name.specs.declared.value.Content.{Content}
use Rattle.peg_event.specs.declared.history.Act.{Act}
use Rattle.peg_event.specs.declared.history.Act.TheVariants as act
use Rattle.peg_event.specs.declared.history.Op.{Op}
use Rattle.peg_model.specs.Text.{key_word, content_word}
use Rattle.peg_model.specs.Schedule.{IsKeyOfBytes}
use Rattle.peg_model.specs.Trace.{op_text, act_text, given_text, answered_text}
use Rattle.peg_model.specs.Judge.{ContentOfBytes, IsUngiven, IsOpLine}
use Rattle.peg_text.specs.Reading.{words_of, content_of, both_by, whole_of}
use Rattle.peg_text.specs.Events.{read_as, read_key, read_number}
use Rattle.peg_text.specs.Ops as ops
use Rattle.peg_text.specs.Ops.{read_content, read_issued, given_by, read_given, end_by, read_end}
use Rattle.peg_text.specs.Ops.{read_made, write_made, op_by, read_tail, read_head, read_op}
use Rattle.peg_text.specs.Ops.{is_after, is_timed, timed}
use Rattle.peg_text.proofs.Readers.{by_test, both_true, if_passed, and_then_some, then_some}
use Rattle.peg_text.proofs.Readers.{then_at, from_bytes_eq, ReadLaw, next_law, both_law, as_sound}
use Rattle.peg_text.proofs.Spells.{content_law}
use Rattle.peg_text.proofs.Spaces.{AreSpaceless, decimal_spaceless, key_spaceless}
use Rattle.peg_text.proofs.Spaces.{content_spaceless}
use Rattle.peg_text.proofs.Lines.{cut, joined}
use Rattle.peg_text.proofs.EventLines.{key_read, number_read, below_read, whole_some}
use Rattle.peg_text.proofs.RackLines.{literal_read}

-- ---- the laws of the parts

content_read : ReadLaw read_content (λ content. content_word content ∷ []) ContentOfBytes
content_read = next_law content_of content_word ContentOfBytes content_law

issued_read :
    ReadLaw read_issued (λ p. codes "issued" ∷ decimal p.1 ∷ []) (λ p. Unit {0} × (p.1 < 2 ^ 64))
issued_read = both_law _ _ _ (literal_read (codes "issued")) _ _ _ number_read

-- what was read, as another value, with the words behind it
as_complete_left :
    {X Y : Type 0} (r : List (List ℕ) → Option (X × List (List ℕ))) (words : X → List (List ℕ))
    (R : X → Type 0) (law : ReadLaw r words R) (f : X → Y) (x : X) (left : List (List ℕ))
    → R x → read_as f (r (words x ++ left)) ≡ Some (f x, left)
as_complete_left r words R law f x left ok =
    then_at (r (words x ++ left)) _ x left (law.complete x left ok)

abbrev given_words : Option (ℕ × Content) → List (List ℕ)
given_words None = codes "open" ∷ []
given_words (Some p) = codes "answered" ∷ decimal p.0 ∷ content_word p.1 ∷ []

abbrev GivenOk : Option (ℕ × Content) → Type 0
GivenOk None = Unit {0}
GivenOk (Some p) = (p.0 < 2 ^ 64) × ContentOfBytes p.1

answer_read :
    ReadLaw (both_by read_number read_content) (λ p. decimal p.0 ∷ content_word p.1 ∷ [])
    (λ p. (p.0 < 2 ^ 64) × ContentOfBytes p.1)
answer_read = both_law _ _ _ number_read _ _ _ content_read

given_sound :
    (ws : List (List ℕ)) (g : Option (ℕ × Content)) (left : List (List ℕ))
    → read_given ws ≡ Some (g, left) → (ws ≡ given_words g ++ left) × GivenOk g
given_sound [] g left e = absurd (none-some _ e)
given_sound (word ∷ ws) g left e =
    let P : Option (ℕ × Content) → Type 0 = λ k. (word ∷ ws ≡ given_words k ++ left) × GivenOk k in
    by_test (bytes_eq word (codes "open")) _ _ (g, left) e
    (λ is at. let same : ◌≡◌ {A = Option (ℕ × Content) × List (List ℕ)} (None, ws) (g, left) =
    same_Some _ _ at in
    subst P (ap (λ p. p.0) same) (
      ap (λ v. v ∷ ws) (from_bytes_eq word (codes "open") is) ∙ ap (λ p. codes "open"
          ∷ p.1) same,
      tt,
    ))
    (λ no_it at.
    let passed =
    if_passed (bytes_eq word (codes "answered"))
    (read_as Some (both_by read_number read_content ws)) (g, left) at in
    let got =
    as_sound (both_by read_number read_content) _ _ answer_read Some ws g left passed.1 in
    subst P (sym got.1) (
      ap (λ v. v
          ∷ ws) (from_bytes_eq word (codes "answered") passed.0) ∙ ap (λ t. codes "answered"
          ∷ t) got.2,
      got.3,
    ))

given_complete :
    (g : Option (ℕ × Content)) (left : List (List ℕ)) → GivenOk g
    → read_given (given_words g ++ left) ≡ Some (g, left)
given_complete None left ok = refl
given_complete (Some p) left ok =
    as_complete_left (both_by read_number read_content) _ _ answer_read Some p left ok

given_read : ReadLaw read_given given_words GivenOk
given_read = record { sound = given_sound; complete = given_complete }

abbrev end_words : Option ℕ → List (List ℕ)
end_words None = codes "open" ∷ []
end_words (Some at) = codes "answered" ∷ decimal at ∷ []

abbrev EndOk : Option ℕ → Type 0
EndOk answered = IfSome answered (λ at. at < 2 ^ 64)

end_sound :
    (ws : List (List ℕ)) (g : Option ℕ) (left : List (List ℕ)) → read_end ws ≡ Some (g, left)
    → (ws ≡ end_words g ++ left) × EndOk g
end_sound [] g left e = absurd (none-some _ e)
end_sound (word ∷ ws) g left e =
    let P : Option ℕ → Type 0 = λ k. (word ∷ ws ≡ end_words k ++ left) × EndOk k in
    by_test (bytes_eq word (codes "open")) _ _ (g, left) e
    (λ is at. let same : ◌≡◌ {A = Option ℕ × List (List ℕ)} (None, ws) (g, left) = same_Some _ _ at
    in
    subst P (ap (λ p. p.0) same) (
      ap (λ v. v ∷ ws) (from_bytes_eq word (codes "open") is) ∙ ap (λ p. codes "open"
          ∷ p.1) same,
      tt,
    ))
    (λ no_it at.
    let passed =
    if_passed (bytes_eq word (codes "answered")) (read_as Some (read_number ws)) (g, left) at
    in
    let got = as_sound read_number _ _ number_read Some ws g left passed.1 in
    subst P (sym got.1) (
      ap (λ v. v
          ∷ ws) (from_bytes_eq word (codes "answered") passed.0) ∙ ap (λ t. codes "answered"
          ∷ t) got.2,
      got.3,
    ))

end_complete :
    (g : Option ℕ) (left : List (List ℕ)) → EndOk g
    → read_end (end_words g ++ left) ≡ Some (g, left)
end_complete None left ok = refl
end_complete (Some at) left ok = as_complete_left read_number _ _ number_read Some at left ok

end_read : ReadLaw read_end end_words EndOk
end_read = record { sound = end_sound; complete = end_complete }

-- ---- an operation

abbrev op_ws : Act → Option ℕ → Op → List (List ℕ)
op_ws act.Read None op =
    codes "read" ∷ key_word op.key ∷ codes "issued" ∷ decimal op.issued ∷ codes "open" ∷ []
op_ws act.Read (Some at) op =
    codes "read" ∷ key_word op.key ∷ codes "issued" ∷ decimal op.issued ∷ codes "answered"
    ∷ decimal at ∷ content_word op.content ∷ []
op_ws act.Write None op =
    codes "write" ∷ key_word op.key ∷ content_word op.content ∷ codes "issued" ∷ decimal op.issued
    ∷ codes "open" ∷ []
op_ws act.Write (Some at) op =
    codes "write" ∷ key_word op.key ∷ content_word op.content ∷ codes "issued" ∷ decimal op.issued
    ∷ codes "answered" ∷ decimal at ∷ []

record TailOk (op : Op) : Type 0 where
  key : IsKeyOfBytes op.key
  content : ContentOfBytes op.content
  ungiven : IsUngiven op.act op.answered op.content
  issued : op.issued < 2 ^ 64
  answered : EndOk op.answered

abbrev IsTail : ℕ → List (List ℕ) → List (List ℕ) → Op → Type 0
IsTail client ws left op =
    (op.client ≡ client) × (ws ≡ op_ws op.act op.answered op ++ left) × TailOk op

read_form_read :
    ReadLaw (both_by read_key (both_by read_issued read_given))
    (λ p. key_word p.0 ∷ codes "issued" ∷ decimal p.1.0.1 ∷ given_words p.1.1)
    (λ p. IsKeyOfBytes p.0 × ((Unit {0} × (p.1.0.1 < 2 ^ 64)) × GivenOk p.1.1))
read_form_read = both_law _ _ _ key_read _ _ _ (both_law _ _ _ issued_read _ _ _ given_read)

write_form_read :
    ReadLaw (both_by read_key (both_by read_content (both_by read_issued read_end)))
    (λ p. key_word p.0 ∷ content_word p.1.0 ∷ codes "issued" ∷ decimal p.1.1.0.1 ∷ end_words
    p.1.1.1)
    (λ p. IsKeyOfBytes p.0
    × (ContentOfBytes p.1.0 × ((Unit {0} × (p.1.1.0.1 < 2 ^ 64)) × EndOk p.1.1.1)))
write_form_read =
    both_law _ _ _ key_read _ _ _
    (both_law _ _ _ content_read _ _ _ (both_law _ _ _ issued_read _ _ _ end_read))

read_is_tail :
    (client : ℕ) (key : List ℕ) (issued : ℕ) (g : Option (ℕ × Content)) (left : List (List ℕ))
    → IsKeyOfBytes key → issued < 2 ^ 64 → GivenOk g
    → IsTail client
    (codes "read" ∷ ((key_word key ∷ codes "issued" ∷ decimal issued ∷ given_words g) ++ left))
    left (read_made client key issued g)
read_is_tail client key issued None left k small ok =
    (refl, refl, record { key = k; content = tt; ungiven = refl; issued = small; answered = tt })
read_is_tail client key issued (Some p) left k small ok =
    (refl, refl, record { key = k; content = ok.1; ungiven = tt; issued = small; answered = ok.0 })

write_is_tail :
    (client : ℕ) (key : List ℕ) (content : Content) (issued : ℕ) (g : Option ℕ)
    (left : List (List ℕ))
    → IsKeyOfBytes key → ContentOfBytes content → issued < 2 ^ 64 → EndOk g
    → IsTail client
    (codes "write" ∷ ((key_word key ∷ content_word content ∷ codes "issued" ∷ decimal issued ∷
    end_words g) ++ left))
    left (write_made client key content issued g)
write_is_tail client key content issued None left k c small ok =
    (refl, refl, record { key = k; content = c; ungiven = tt; issued = small; answered = tt })
write_is_tail client key content issued (Some at) left k c small ok =
    (refl, refl, record { key = k; content = c; ungiven = tt; issued = small; answered = ok })

tail_sound :
    (client : ℕ) (ws : List (List ℕ)) (op : Op) (left : List (List ℕ))
    → read_tail client ws ≡ Some (op, left) → IsTail client ws left op
tail_sound client [] op left e = absurd (none-some _ e)
tail_sound client (verb ∷ ws) op left e =
    by_test (bytes_eq verb (codes "read")) _ _ (op, left) e
    (λ is at.
    let got =
    as_sound (both_by read_key (both_by read_issued read_given)) _ _ read_form_read
    (λ p. read_made client p.0 p.1.0.1 p.1.1) ws op left at in
    let words :
    verb ∷ ws
    ≡ codes "read"
    ∷ ((key_word got.0.0 ∷ codes "issued" ∷ decimal got.0.1.0.1 ∷ given_words got.0.1.1)
    ++ left)
    = ap (λ v. v ∷ ws) (from_bytes_eq verb (codes "read") is) ∙ ap
    (λ t. codes "read" ∷ t) got.2 in
    subst (λ (k : Op). IsTail client (verb ∷ ws) left k) (sym got.1)
    (subst (λ (t : List (List ℕ)). IsTail client t left (read_made client got.0.0 got.0.1.0.1
    got.0.1.1)) (sym words) (read_is_tail client got.0.0 got.0.1.0.1 got.0.1.1 left got.3.0
    got.3.1.0.1 got.3.1.1)))
    (λ no_it at.
    let passed =
    if_passed (bytes_eq verb (codes "write"))
    (read_as (λ p. write_made client p.0 p.1.0 p.1.1.0.1 p.1.1.1)
    (both_by read_key (both_by read_content (both_by read_issued read_end)) ws))
    (op, left) at in
    let got =
    as_sound (both_by read_key (both_by read_content (both_by read_issued read_end))) _ _
    write_form_read (λ p. write_made client p.0 p.1.0 p.1.1.0.1 p.1.1.1) ws op left
    passed.1 in
    let words :
    verb ∷ ws
    ≡ codes "write"
    ∷ ((key_word got.0.0 ∷ content_word got.0.1.0 ∷ codes "issued" ∷ decimal got.0.1.1.0.1
    ∷ end_words got.0.1.1.1) ++ left)
    = ap (λ v. v ∷ ws) (from_bytes_eq verb (codes "write") passed.0) ∙ ap
    (λ t. codes "write" ∷ t) got.2 in
    subst (λ (k : Op). IsTail client (verb ∷ ws) left k) (sym got.1)
    (subst (λ (t : List (List ℕ)). IsTail client t left (write_made client got.0.0 got.0.1.0
    got.0.1.1.0.1 got.0.1.1.1)) (sym words) (write_is_tail client got.0.0 got.0.1.0
    got.0.1.1.0.1 got.0.1.1.1 left got.3.0 got.3.1.0 got.3.1.1.0.1 got.3.1.1.1)))

tail_complete :
    (a : Act) (answered : Option ℕ) (op : Op) (left : List (List ℕ)) → op.act ≡ a
    → op.answered ≡ answered → IsUngiven a answered op.content → EndOk answered → TailOk op
    → read_tail op.client (op_ws a answered op ++ left) ≡ Some (op, left)
tail_complete act.Read None op left is end ungiven small ok =
    as_complete_left (both_by read_key (both_by read_issued read_given)) _ _ read_form_read
    (λ p. read_made op.client p.0 p.1.0.1 p.1.1) (op.key, ((tt, op.issued), None)) left
    (ok.key, ((tt, ok.issued), tt))
    ∙
    (λ i. Some (
      record {
        client = op.client;
        key = op.key;
        act = (sym is) i;
        content =
            (sym ungiven) i;
        issued = op.issued;
        answered = (sym end) i;
      },
      left,
    ))
tail_complete act.Read (Some at) op left is end ungiven small ok =
    as_complete_left (both_by read_key (both_by read_issued read_given)) _ _ read_form_read
    (λ p. read_made op.client p.0 p.1.0.1 p.1.1)
    (op.key, ((tt, op.issued), Some (at, op.content))) left
    (ok.key, ((tt, ok.issued), (small, ok.content)))
    ∙
    (λ i. Some (
      record {
        client = op.client;
        key = op.key;
        act = (sym is) i;
        content =
            op.content;
        issued = op.issued;
        answered = (sym end) i;
      },
      left,
    ))
tail_complete act.Write None op left is end ungiven small ok =
    as_complete_left (both_by read_key (both_by read_content (both_by read_issued read_end))) _ _
    write_form_read (λ p. write_made op.client p.0 p.1.0 p.1.1.0.1 p.1.1.1)
    (op.key, (op.content, ((tt, op.issued), None))) left
    (ok.key, (ok.content, ((tt, ok.issued), tt)))
    ∙
    (λ i. Some (
      record {
        client = op.client;
        key = op.key;
        act = (sym is) i;
        content =
            op.content;
        issued = op.issued;
        answered = (sym end) i;
      },
      left,
    ))
tail_complete act.Write (Some at) op left is end ungiven small ok =
    as_complete_left (both_by read_key (both_by read_content (both_by read_issued read_end))) _ _
    write_form_read (λ p. write_made op.client p.0 p.1.0 p.1.1.0.1 p.1.1.1)
    (op.key, (op.content, ((tt, op.issued), Some at))) left
    (ok.key, (ok.content, ((tt, ok.issued), small)))
    ∙
    (λ i. Some (
      record {
        client = op.client;
        key = op.key;
        act = (sym is) i;
        content =
            op.content;
        issued = op.issued;
        answered = (sym end) i;
      },
      left,
    ))

-- ---- the line

head_read :
    ReadLaw read_head (λ h. codes "op" ∷ decimal h.0.1 ∷ codes "client" ∷ decimal h.1.1 ∷ [])
    (λ h. (Unit {0} × (h.0.1 < 4294967296)) × (Unit {0} × (h.1.1 < 1024)))
head_read =
    both_law _ _ _
    (both_law _ _ _ (literal_read (codes "op")) _ _ _ (below_read 4294967296 (omega arith))) _
    _ _ (both_law _ _ _ (literal_read (codes "client")) _ _ _ (below_read 1024 (omega arith)))

abbrev line_ws : ℕ → Op → List (List ℕ)
line_ws number op =
    codes "op" ∷ decimal number ∷ codes "client" ∷ decimal op.client ∷ op_ws op.act op.answered op

record LineOk (number : ℕ) (op : Op) : Type 0 where
  small : number < 2 ^ 32
  client : op.client < 1024
  tail : TailOk op

read_op_sound :
    (ws : List (List ℕ)) (number : ℕ) (op : Op) (left : List (List ℕ))
    → read_op ws ≡ Some ((number, op), left) → (ws ≡ line_ws number op ++ left) × LineOk number op
read_op_sound ws number op left e =
    let one = then_some (read_head ws) _ ((number, op), left) e in
    let two = then_some (read_tail one.0.0.1.1 one.0.1) _ ((number, op), left) one.2 in
    let same :
    ◌≡◌ {A = (ℕ × Op) × List (List ℕ)} ((one.0.0.0.1, two.0.0), two.0.1) ((number, op), left) =
    same_Some _ _ two.2 in
    let front = head_read.sound ws one.0.0 one.0.1 one.1 in
    let rest = tail_sound one.0.0.1.1 one.0.1 two.0.0 two.0.1 two.1 in
    let made : (ws ≡ line_ws one.0.0.0.1 two.0.0 ++ two.0.1) × LineOk one.0.0.0.1 two.0.0 = (
      front.0 ∙ ap
          (λ t. codes "op" ∷ decimal one.0.0.0.1 ∷ codes "client" ∷ decimal one.0.0.1.1 ∷ t) rest.1
          ∙ ap
          (λ c. codes "op" ∷ decimal one.0.0.0.1 ∷ codes "client" ∷ decimal c ∷
          (op_ws two.0.0.act two.0.0.answered two.0.0 ++ two.0.1))
          (sym rest.0),
      record {
        small = front.1.0.1;
        client = subst (λ (c : ℕ). c < 1024) (sym rest.0) front.1.1.1;
        tail = rest.2;
      },
    ) in
    let P :
    (ℕ × Op) × List (List ℕ)
    → Type 0 = λ p. (ws ≡ line_ws p.0.0 p.0.1 ++ p.1) × LineOk p.0.0 p.0.1 in
    subst P same made

read_op_complete :
    (number : ℕ) (op : Op) → LineOk number op
    → read_op (line_ws number op) ≡ Some ((number, op), [])
read_op_complete number op ok =
    then_at (read_head (line_ws number op))
    (λ head left. read_as (λ o. (head.0.1, o)) (read_tail head.1.1 left))
    ((tt, number), (tt, op.client)) (op_ws op.act op.answered op)
    (head_read.complete ((tt, number), (tt, op.client)) (op_ws op.act op.answered op)
    ((tt, ok.small), (tt, ok.client)))
    ∙ ap (λ ws. read_as (λ o. (number, o)) (read_tail op.client ws))
    (sym (append-nil (op_ws op.act op.answered op)))
    ∙ ap (read_as (λ o. (number, o)))
    (tail_complete op.act op.answered op [] refl refl ok.tail.ungiven ok.tail.answered ok.tail)

-- ---- its text

nine_words :
    (a n b c d k e i f : List ℕ)
    → (a ++ 32 ∷ []) ++ n ++ (32 ∷ (b ++ 32 ∷ [])) ++ c ++ 32 ∷ [] ++ ((d ++ 32 ∷ []) ++ k)
    ++ (32 ∷ (e ++ 32 ∷ [])) ++ i ++ (32 ∷ f)
    ≡ join_with_byte 32 (a ∷ n ∷ b ∷ c ∷ d ∷ k ∷ e ∷ i ∷ f ∷ [])
nine_words a n b c d k e i f = simp append_assoc

ten_words :
    (a n b c d k v e i f : List ℕ)
    → (a ++ 32 ∷ []) ++ n ++ (32 ∷ (b ++ 32 ∷ [])) ++ c ++ 32 ∷ []
    ++ ((d ++ 32 ∷ []) ++ k ++ 32 ∷ [] ++ v) ++ (32 ∷ (e ++ 32 ∷ [])) ++ i ++ (32 ∷ f)
    ≡ join_with_byte 32 (a ∷ n ∷ b ∷ c ∷ d ∷ k ∷ v ∷ e ∷ i ∷ f ∷ [])
ten_words a n b c d k v e i f = simp append_assoc

read_open :
    (n c k i : List ℕ)
    → codes "op " ++ n ++ codes " client " ++ c ++ codes " " ++ (codes "read " ++ k)
    ++ codes " issued " ++ i ++ codes " open"
    ≡ join_with_byte 32
    (codes "op" ∷ n ∷ codes "client" ∷ c ∷ codes "read" ∷ k ∷ codes "issued" ∷ i
    ∷ codes "open" ∷ [])
read_open n c k i =
    nine_words (codes "op") n (codes "client") c (codes "read") k (codes "issued") i (codes "open")

read_answered :
    (n c k i a g : List ℕ)
    → codes "op " ++ n ++ codes " client " ++ c ++ codes " " ++ (codes "read " ++ k)
    ++ codes " issued " ++ i ++ (codes " answered " ++ a ++ (codes " " ++ g))
    ≡ join_with_byte 32
    (codes "op" ∷ n ∷ codes "client" ∷ c ∷ codes "read" ∷ k ∷ codes "issued" ∷ i
    ∷ codes "answered" ∷ a ∷ g ∷ [])
read_answered n c k i a g =
    nine_words (codes "op") n (codes "client") c (codes "read") k (codes "issued") i
    (codes "answered " ++ a ++ (codes " " ++ g))

write_open :
    (n c k v i : List ℕ)
    → codes "op " ++ n ++ codes " client " ++ c ++ codes " "
    ++ (codes "write " ++ k ++ codes " " ++ v) ++ codes " issued " ++ i ++ codes " open"
    ≡ join_with_byte 32
    (codes "op" ∷ n ∷ codes "client" ∷ c ∷ codes "write" ∷ k ∷ v ∷ codes "issued" ∷ i
    ∷ codes "open" ∷ [])
write_open n c k v i =
    ten_words (codes "op") n (codes "client") c (codes "write") k v (codes "issued") i
    (codes "open")

write_answered :
    (n c k v i a : List ℕ)
    → codes "op " ++ n ++ codes " client " ++ c ++ codes " "
    ++ (codes "write " ++ k ++ codes " " ++ v) ++ codes " issued " ++ i
    ++ (codes " answered " ++ a ++ [])
    ≡ join_with_byte 32
    (codes "op" ∷ n ∷ codes "client" ∷ c ∷ codes "write" ∷ k ∷ v ∷ codes "issued" ∷ i
    ∷ codes "answered" ∷ a ∷ [])
write_answered n c k v i a =
    ap
    (λ t. codes "op " ++ n ++ codes " client " ++ c ++ codes " " ++
    (codes "write " ++ k ++ codes " " ++ v) ++ codes " issued " ++ i ++
    (codes " answered " ++ t))
    (append-nil a)
    ∙ ten_words (codes "op") n (codes "client") c (codes "write") k v (codes "issued") i
    (codes "answered " ++ a)

-- the end of the line, where the operation is of this kind
abbrev answered_with : Act → Option ℕ → Op → List ℕ
answered_with a None op = codes " open"
answered_with a (Some at) op = codes " answered " ++ decimal at ++ given_text a op.content

answered_is :
    (answered : Option ℕ) (op : Op) → answered_text answered op ≡ answered_with op.act answered op
answered_is None op = refl
answered_is (Some at) op = refl

text_with : (a : Act) (answered : Option ℕ) (number : ℕ) (op : Op)
    → codes "op " ++ decimal number ++ codes " client " ++ decimal op.client ++ codes " "
    ++ act_text a op ++ codes " issued " ++ decimal op.issued ++ answered_with a answered op
    ≡ join_with_byte 32
    (codes "op" ∷ decimal number ∷ codes "client" ∷ decimal op.client ∷ op_ws a answered op)
text_with act.Read None number op =
    read_open (decimal number) (decimal op.client) (key_word op.key) (decimal op.issued)
text_with act.Read (Some at) number op =
    read_answered (decimal number) (decimal op.client) (key_word op.key) (decimal op.issued)
    (decimal at) (content_word op.content)
text_with act.Write None number op =
    write_open (decimal number) (decimal op.client) (key_word op.key) (content_word op.content)
    (decimal op.issued)
text_with act.Write (Some at) number op =
    write_answered (decimal number) (decimal op.client) (key_word op.key) (content_word op.content)
    (decimal op.issued) (decimal at)

line_text : (number : ℕ) (op : Op) → op_text number op ≡ join_with_byte 32 (line_ws number op)
line_text number op =
    ap
    (λ t. codes "op " ++ decimal number ++ codes " client " ++ decimal op.client ++ codes " "
    ++ act_text op.act op ++ codes " issued " ++ decimal op.issued ++ t)
    (answered_is op.answered op)
    ∙ text_with op.act op.answered number op

op_spaceless :
    (a : Act) (answered : Option ℕ) (op : Op) → op.issued < 2 ^ 64 → EndOk answered
    → AreSpaceless (op_ws a answered op)
op_spaceless act.Read None op small end =
    (refl, (key_spaceless op.key, (refl, (decimal_spaceless op.issued small, (refl, tt)))))
op_spaceless act.Read (Some at) op small end = (
  refl,
  (
    key_spaceless op.key,
    (
      refl,
      (
        decimal_spaceless op.issued small,
        (refl, (decimal_spaceless at end, (content_spaceless op.content, tt))),
      ),
    ),
  ),
)
op_spaceless act.Write None op small end = (
  refl,
  (
    key_spaceless op.key,
    (
      content_spaceless op.content,
      (refl, (decimal_spaceless op.issued small, (refl, tt))),
    ),
  ),
)
op_spaceless act.Write (Some at) op small end = (
  refl,
  (
    key_spaceless op.key,
    (
      content_spaceless op.content,
      (refl, (decimal_spaceless op.issued small, (refl, (decimal_spaceless at end, tt)))),
    ),
  ),
)

-- ---- both ways

abbrev IsLater : ℕ → Option ℕ → Type 0
IsLater issued answered = IfSome answered (λ at. (issued < at) × (at < 2 ^ 64))

end_small : (issued : ℕ) (answered : Option ℕ) → IsLater issued answered → EndOk answered
end_small issued None ok = tt
end_small issued (Some at) ok = ok.1

after_true :
    (issued : ℕ) (answered : Option ℕ) → IsLater issued answered → is_after issued answered ≡ true
after_true issued None ok = refl
after_true issued (Some at) ok = (Decides-ltb issued at).1 ok.0

later_is :
    (issued : ℕ) (answered : Option ℕ) → is_after issued answered ≡ true → EndOk answered
    → IsLater issued answered
later_is issued None e small = tt
later_is issued (Some at) e small = ((Decides-ltb issued at).0 e, small)

timed_true :
    (issued : ℕ) (answered : Option ℕ) → 2 ≤ issued → is_after issued answered ≡ true
    → (nat_le 2 issued && is_after issued answered) ≡ true
timed_true issued answered early after =
    let late : nat_le 2 issued ≡ true = grind (arith, nat_tests, early) in rw (late, after) refl

two_or_more : (n : ℕ) → nat_le 2 n ≡ true → 2 ≤ n
two_or_more n e = grind (arith, nat_tests, e)

pub op_complete :
    (line : List ℕ) (number : ℕ) (op : Op) → IsOpLine line number op
    → ops.op_of line ≡ Some (number, op)
op_complete line number op is =
    let range = is.in_range in
    let small : EndOk op.answered = end_small op.issued op.answered range.answered in
    let ok :
    LineOk number op = record {
      small = is.number_in_range;
      client = range.client;
      tail =
          record {
            key = range.key;
            content = range.content;
            ungiven = range.ungiven;
            issued = range.issued.1;
            answered = small;
          };
    } in
    let words : words_of line ≡ line_ws number op =
    cut (codes "op")
    (decimal number ∷ codes "client" ∷ decimal op.client ∷ op_ws op.act op.answered op) line (
      refl,
      (
        decimal_spaceless number (omega (arith, is.number_in_range)),
        (
          refl,
          (
            decimal_spaceless op.client (omega (arith, range.client)),
            op_spaceless op.act
                op.answered op range.issued.1 small,
          ),
        ),
      ),
    )
    (is.spelled ∙ line_text number op) in
    ap (λ ws. option_and_then timed (whole_of (read_op ws))) words
    ∙ ap (λ r. option_and_then timed (whole_of r)) (read_op_complete number op ok)
    ∙ ap (λ t. cond t (Some (number, op)) None)
    (timed_true op.issued op.answered range.issued.0 (after_true op.issued op.answered
    range.answered))

pub op_sound :
    (line : List ℕ) (number : ℕ) (op : Op) → ops.op_of line ≡ Some (number, op)
    → IsOpLine line number op
op_sound line number op e =
    let one = and_then_some timed (whole_of (read_op (words_of line))) (number, op) e in
    let passed = if_passed (is_timed one.0.1) (Some one.0) (number, op) one.2 in
    let test =
    both_true (nat_le 2 one.0.1.issued) (is_after one.0.1.issued one.0.1.answered) passed.0 in
    let whole = whole_some (read_op (words_of line)) one.0 one.1 in
    let read = read_op_sound (words_of line) one.0.0 one.0.1 whole.0 whole.2 in
    let words :
    words_of line
    ≡ line_ws one.0.0 one.0.1 = read.0 ∙ ap (λ t. line_ws one.0.0 one.0.1 ++ t) whole.1 ∙
    append-nil (line_ws one.0.0 one.0.1) in
    let made : IsOpLine line one.0.0 one.0.1 = record {
      number_in_range = read.1.small;
      in_range = record {
        client = read.1.client;
        key = read.1.tail.key;
        content = read.1.tail.content;
        ungiven = read.1.tail.ungiven;
        issued = (two_or_more one.0.1.issued test.0, read.1.tail.issued);
        answered = later_is one.0.1.issued one.0.1.answered test.1 read.1.tail.answered;
      };
      spelled = joined _ line words ∙ sym (line_text one.0.0 one.0.1);
    } in
    let P : ℕ × Op → Type 0 = λ p. IsOpLine line p.0 p.1 in
    subst P (same_Some one.0 (number, op) passed.1) made

pub op_only :
    (line : List ℕ) (r : Option (ℕ × Op)) → r ≡ ops.op_of line
    → IfSome r (λ p. IsOpLine line p.0 p.1)
op_only line None e = tt
op_only line (Some p) e = op_sound line p.0 p.1 (sym e)
