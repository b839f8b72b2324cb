-- The history, the names and the tags as the operations that they are.
use Rattle.std.proofs.Common.{◌≡◌, ℕ, zero, suc, ◌<◌, ◌≤◌, List, [], ◌∷◌, ◌++◌, length, map}
use Rattle.std.proofs.Common.{ap, sym, ◌∙◌, arith, refl, subst, Some, None, Option, Bool, true}
use Rattle.std.proofs.Common.{false}
use Rattle.std.proofs.Common.{◌&&◌, ◌==◌, ◌||◌, slice_get, slice_set, slice_index_or}
use Rattle.std.specs.Prelude.{if◌then◌else◌, IfSome, IsNone}
use Rattle.std.specs.List.{list_any, IsDistinct, AllByRecursion, position}
use Rattle.std.proofs.lemmas.Bool.Decides.{nat_tests}
use Rattle.std.proofs.lemmas.List.Quantifiers.{position-Some}
use Rattle.peg_event.specs.declared.history.Op.{Op}
use Rattle.peg_model.specs.World.{Operation, is_named, changed_at, answered_as, stamped_as}
use Rattle.peg_model.specs.World.{with_answer, AppliedFence, origin_of}
use Rattle.peg_name.specs.declared.value.Content.{Content}
use Rattle.std.specs.Prelude.{is_none, is_some}
use Rattle.std.proofs.lemmas.List.{length-set}
use Rattle.std.proofs.lemmas.Map.Keys.{IsDistinct-head, IsDistinct-tail}
use Rattle.peg_history.specs.Groups.{key_orders}
use Rattle.peg_ledger.specs.declared.operations.Name.{Name}
use Rattle.peg_ledger.specs.Kept.{operations_of, are_named, is_name, same_name, AreOf, IsOpen}

-- ---- one by one

and_left : (a b : Bool) → (a && b) ≡ true → a ≡ true
and_left true b e = refl
and_left false b e = e

and_right : (a b : Bool) → (a && b) ≡ true → b ≡ true
and_right true b e = e
and_right false b e = absurd cc

pub names_length : (ops : List Op) (names : List Name) → are_named ops names ≡ true → length names ≡
    length ops
names_length [] [] e = refl
names_length [] (n ∷ names) e = absurd cc
names_length (op ∷ ops) [] e = absurd cc
names_length (op ∷ ops) (n ∷ names) e =
    ap suc (names_length ops names (and_right (op.client == n.client) (are_named ops names) e))

less : (m n : ℕ) → suc m ≡ suc n → m ≡ n
less m n e = omega (arith, e)

pub ops_of :
    (ops : List Op) (names : List Name) (tags : List ℕ)
    → are_named ops names ≡ true → length tags ≡ length ops
    → map (λ o. o.op) (operations_of ops names tags) ≡ ops
ops_of [] names tags named tagged = refl
ops_of (op ∷ ops) [] tags named tagged = absurd cc
ops_of (op ∷ ops) (n ∷ names) [] named tagged = absurd (omega (arith, tagged))
ops_of (op ∷ ops) (n ∷ names) (t ∷ tags) named tagged =
    ap (λ xs. op ∷ xs) (ops_of ops names tags
    (and_right (op.client == n.client) (are_named ops names) named)
    (less (length tags) (length ops) tagged))

pub tags_of :
    (ops : List Op) (names : List Name) (tags : List ℕ)
    → are_named ops names ≡ true → length tags ≡ length ops
    → map (λ o. o.tag) (operations_of ops names tags) ≡ tags
tags_of [] names [] named tagged = refl
tags_of [] names (t ∷ tags) named tagged = absurd (omega (arith, tagged))
tags_of (op ∷ ops) [] tags named tagged = absurd cc
tags_of (op ∷ ops) (n ∷ names) [] named tagged = absurd (omega (arith, tagged))
tags_of (op ∷ ops) (n ∷ names) (t ∷ tags) named tagged =
    ap (λ xs. t ∷ xs) (tags_of ops names tags
    (and_right (op.client == n.client) (are_named ops names) named)
    (less (length tags) (length ops) tagged))

pub length_of :
    (ops : List Op) (names : List Name) (tags : List ℕ)
    → are_named ops names ≡ true → length tags ≡ length ops
    → length (operations_of ops names tags) ≡ length ops
length_of [] names tags named tagged = refl
length_of (op ∷ ops) [] tags named tagged = absurd cc
length_of (op ∷ ops) (n ∷ names) [] named tagged = absurd (omega (arith, tagged))
length_of (op ∷ ops) (n ∷ names) (t ∷ tags) named tagged =
    ap suc (length_of ops names tags
    (and_right (op.client == n.client) (are_named ops names) named)
    (less (length tags) (length ops) tagged))

-- ---- one operation more

pub named_added :
    (op : Op) (n : Name) (ops : List Op) (names : List Name)
    → are_named ops names ≡ true → op.client ≡ n.client
    → are_named (ops ++ op ∷ []) (names ++ n ∷ []) ≡ true
named_added op n [] [] e same = grind (arith, nat_tests, same)
named_added op n [] (m ∷ names) e same = absurd cc
named_added op n (p ∷ ops) [] e same = absurd cc
named_added op n (p ∷ ops) (m ∷ names) e same =
    ap (λ b. b && are_named (ops ++ op ∷ []) (names ++ n ∷ []))
    (and_left (p.client == m.client) (are_named ops names) e)
    ∙ named_added op n ops names (and_right (p.client == m.client) (are_named ops names) e) same

pub added :
    (op : Op) (n : Name) (t : ℕ) (ops : List Op) (names : List Name) (tags : List ℕ)
    → are_named ops names ≡ true → length tags ≡ length ops
    → operations_of (ops ++ op ∷ []) (names ++ n ∷ []) (tags ++ t ∷ [])
    ≡ operations_of ops names tags ++ record { op = op; seq = n.seq; tag = t } ∷ []
added op n t [] [] [] named tagged = refl
added op n t [] [] (u ∷ tags) named tagged = absurd (omega (arith, tagged))
added op n t [] (m ∷ names) tags named tagged = absurd cc
added op n t (p ∷ ops) [] tags named tagged = absurd cc
added op n t (p ∷ ops) (m ∷ names) [] named tagged = absurd (omega (arith, tagged))
added op n t (p ∷ ops) (m ∷ names) (u ∷ tags) named tagged =
    ap (λ xs. record { op = p; seq = m.seq; tag = u } ∷ xs)
    (added op n t ops names tags (and_right (p.client == m.client) (are_named ops names) named)
    (less (length tags) (length ops) tagged))

or_left : (a b : Bool) → (a || b) ≡ false → a ≡ false
or_left true b e = absurd cc
or_left false b e = refl

or_right : (a b : Bool) → (a || b) ≡ false → b ≡ false
or_right true b e = absurd cc
or_right false b e = e

-- an operation is named as its name says
named_as :
    (client seq : ℕ) (op : Op) (n : Name) (t : ℕ)
    → (op.client == n.client) ≡ true
    → is_named client seq (record { op = op; seq = n.seq; tag = t }) ≡ is_name client seq n
named_as client seq op n t e = grind (arith, nat_tests, e)

pub fresh_name :
    (client seq : ℕ) (ops : List Op) (names : List Name) (tags : List ℕ)
    → are_named ops names ≡ true → length tags ≡ length ops
    → list_any (is_named client seq) (operations_of ops names tags) ≡ false
    → list_any (is_name client seq) names ≡ false
fresh_name client seq [] [] tags named tagged fresh = refl
fresh_name client seq [] (n ∷ names) tags named tagged fresh = absurd cc
fresh_name client seq (op ∷ ops) [] tags named tagged fresh = absurd cc
fresh_name client seq (op ∷ ops) (n ∷ names) [] named tagged fresh =
    absurd (omega (arith, tagged))
fresh_name client seq (op ∷ ops) (n ∷ names) (t ∷ tags) named tagged fresh =
    let o : Operation = record { op = op; seq = n.seq; tag = t } in
    let rest = list_any (is_named client seq) (operations_of ops names tags) in
    ap (λ b. b || list_any (is_name client seq) names)
    (sym (named_as client seq op n t (and_left (op.client == n.client) (are_named ops names) named))
    ∙ or_left (is_named client seq o) rest fresh)
    ∙ fresh_name client seq ops names tags
    (and_right (op.client == n.client) (are_named ops names) named)
    (less (length tags) (length ops) tagged)
    (or_right (is_named client seq o) rest fresh)

-- ---- a change of the operation of a name

changed_head :
    (client seq : ℕ) (change : Operation → Operation) (o : Operation) (os : List Operation)
    → is_named client seq o ≡ true
    → changed_at client seq change (o ∷ os) ≡ change o ∷ changed_at client seq change os
changed_head client seq change o os e =
    ap (λ b. (if b then change o else o) ∷ changed_at client seq change os) e

kept_head :
    (client seq : ℕ) (change : Operation → Operation) (o : Operation) (os : List Operation)
    → is_named client seq o ≡ false
    → changed_at client seq change (o ∷ os) ≡ o ∷ changed_at client seq change os
kept_head client seq change o os e =
    ap (λ b. (if b then change o else o) ∷ changed_at client seq change os) e

pub changed_none :
    (client seq : ℕ) (change : Operation → Operation)
    → (ops : List Op) (names : List Name) (tags : List ℕ)
    → are_named ops names ≡ true → length tags ≡ length ops
    → list_any (is_name client seq) names ≡ false
    → changed_at client seq change (operations_of ops names tags) ≡ operations_of ops names tags
changed_none client seq change [] names tags named tagged none = refl
changed_none client seq change (op ∷ ops) [] tags named tagged none = absurd cc
changed_none client seq change (op ∷ ops) (n ∷ names) [] named tagged none =
    absurd (omega (arith, tagged))
changed_none client seq change (op ∷ ops) (n ∷ names) (t ∷ tags) named tagged none =
    let o : Operation = record { op = op; seq = n.seq; tag = t } in
    let rest = list_any (is_name client seq) names in
    kept_head client seq change o (operations_of ops names tags)
    (named_as client seq op n t (and_left (op.client == n.client) (are_named ops names) named)
    ∙ or_left (is_name client seq n) rest none)
    ∙ ap (λ os. o ∷ os) (changed_none client seq change ops names tags
    (and_right (op.client == n.client) (are_named ops names) named)
    (less (length tags) (length ops) tagged)
    (or_right (is_name client seq n) rest none))

-- a name that is equal to this one is the only one of the list
other_name :
    (client seq : ℕ) (n m : Name)
    → is_name client seq n ≡ true → same_name n m ≡ false → is_name client seq m ≡ false
other_name client seq n m e f = grind (arith, nat_tests, e, f)

others :
    (client seq : ℕ) (n : Name) (names : List Name)
    → is_name client seq n ≡ true → AllByRecursion (λ m. same_name n m ≡ false) names
    → list_any (is_name client seq) names ≡ false
others client seq n [] e all = refl
others client seq n (m ∷ names) e all =
    ap (λ b. b || list_any (is_name client seq) names) (other_name client seq n m e all.0)
    ∙ others client seq n names e all.1

-- the name stands at this place, and nowhere before it
abbrev pub IsAt : ℕ → ℕ → List Name → ℕ → Type 0
IsAt client seq [] i = ⊥
IsAt client seq (n ∷ names) zero = is_name client seq n ≡ true
IsAt client seq (n ∷ names) (suc i) = (is_name client seq n ≡ false) × IsAt client seq names i

place_at :
    (client seq : ℕ) (names : List Name) (i : ℕ) (d : Name)
    → i < length names → is_name client seq (slice_index_or names i d) ≡ true
    → ((k : ℕ) → k < i → is_name client seq (slice_index_or names k d) ≡ false)
    → IsAt client seq names i
place_at client seq [] i d within h before = absurd (omega (arith, within))
place_at client seq (n ∷ names) zero d within h before = h
place_at client seq (n ∷ names) (suc i) d within h before = (
  before zero (omega arith),
  place_at client seq names i d (omega (arith, within)) h
      (λ k below. before (suc k) (omega (arith, below))),
)

pub found_at :
    (client seq : ℕ) (names : List Name) (i : ℕ)
    → position (is_name client seq) names ≡ Some i → IsAt client seq names i
found_at client seq names i e =
    let d : Name = record { client = 0; seq = 0 } in
    let found = position-Some (is_name client seq) names i d e in
    place_at client seq names i d found.0 found.1 found.2

some_op : (a b : Op) → Some a ≡ Some b → a ≡ b
some_op a b e = cc

pub changed_one :
    (client seq i : ℕ) (change : Operation → Operation) (op op' : Op) (tag : ℕ)
    → ((q t : ℕ) → change (record { op = op; seq = q; tag = t })
    ≡ record { op = op'; seq = q; tag = tag })
    → (ops : List Op) (names : List Name) (tags : List ℕ)
    → are_named ops names ≡ true → length tags ≡ length ops → IsDistinct same_name names
    → IsAt client seq names i → slice_get ops i ≡ Some op
    → changed_at client seq change (operations_of ops names tags)
    ≡ operations_of (slice_set ops i op') names (slice_set tags i tag)
changed_one client seq i change op op' tag makes [] names tags named tagged apart at e = absurd cc
changed_one client seq i change op op' tag makes (p ∷ ops) [] tags named tagged apart at e =
    absurd cc
changed_one client seq i change op op' tag makes (p ∷ ops) (n ∷ names) [] named tagged apart at e =
    absurd (omega (arith, tagged))
changed_one
    client seq zero change op op' tag makes (p ∷ ops) (n ∷ names) (t ∷ tags) named tagged apart at
    e =
    let o : Operation = record { op = p; seq = n.seq; tag = t } in
    let same = and_left (p.client == n.client) (are_named ops names) named in
    changed_head client seq change o (operations_of ops names tags)
    (named_as client seq p n t same ∙ at)
    ∙ ap (λ x. change (record { op = x; seq = n.seq; tag = t })
    ∷ changed_at client seq change (operations_of ops names tags)) (some_op p op e)
    ∙ ap (λ x. x ∷ changed_at client seq change (operations_of ops names tags)) (makes n.seq t)
    ∙ ap (λ os. record { op = op'; seq = n.seq; tag = tag } ∷ os)
    (changed_none client seq change ops names tags
    (and_right (p.client == n.client) (are_named ops names) named)
    (less (length tags) (length ops) tagged)
    (others client seq n names at (IsDistinct-head same_name n names apart)))
changed_one
    client seq (suc i) change op op' tag makes (p ∷ ops) (n ∷ names) (t ∷ tags) named tagged
    apart at e =
    let o : Operation = record { op = p; seq = n.seq; tag = t } in
    let same = and_left (p.client == n.client) (are_named ops names) named in
    kept_head client seq change o (operations_of ops names tags)
    (named_as client seq p n t same ∙ at.0)
    ∙ ap (λ os. o ∷ os) (changed_one client seq i change op op' tag makes ops names tags
    (and_right (p.client == n.client) (are_named ops names) named)
    (less (length tags) (length ops) tagged) (IsDistinct-tail same_name n names apart) at.1 e)

pub named_set :
    (op op' : Op) (i : ℕ) (ops : List Op) (names : List Name)
    → are_named ops names ≡ true → slice_get ops i ≡ Some op → op'.client ≡ op.client
    → are_named (slice_set ops i op') names ≡ true
named_set op op' i [] names named e same = named
named_set op op' i (p ∷ ops) [] named e same = absurd cc
named_set op op' zero (p ∷ ops) (n ∷ names) named e same =
    ap (λ c. c == n.client && are_named ops names)
    (same ∙ ap (λ (x : Op). x.client) (some_op op p (sym e)))
    ∙ named
named_set op op' (suc i) (p ∷ ops) (n ∷ names) named e same =
    ap (λ b. b && are_named (slice_set ops i op') names)
    (and_left (p.client == n.client) (are_named ops names) named)
    ∙ named_set op op' i ops names (and_right (p.client == n.client) (are_named ops names) named)
    e same

-- ---- the operation of an open name

pub open_at :
    (client seq place i : ℕ) (op : Op) (ops : List Op) (names : List Name) (tags : List ℕ)
    → are_named ops names ≡ true → length tags ≡ length ops
    → IsOpen client seq place (operations_of ops names tags)
    → IsAt client seq names i → slice_get ops i ≡ Some op
    → (op.answered ≡ None) × (op.issued < place)
open_at client seq place i op [] names tags named tagged opens at e = absurd cc
open_at client seq place i op (p ∷ ops) [] tags named tagged opens at e = absurd cc
open_at client seq place i op (p ∷ ops) (n ∷ names) [] named tagged opens at e =
    absurd (omega (arith, tagged))
open_at client seq place zero op (p ∷ ops) (n ∷ names) (t ∷ tags) named tagged opens at e =
    subst (λ (x : Op). (x.answered ≡ None) × (x.issued < place)) (some_op p op e)
    (opens.0 (named_as client seq p n t
    (and_left (p.client == n.client) (are_named ops names) named) ∙ at))
open_at client seq place (suc i) op (p ∷ ops) (n ∷ names) (t ∷ tags) named tagged opens at e =
    open_at client seq place i op ops names tags
    (and_right (p.client == n.client) (are_named ops names) named)
    (less (length tags) (length ops) tagged) opens.1 at.1 e

pub within_at :
    (client seq i : ℕ) (names : List Name) → IsAt client seq names i → i < length names
within_at client seq i [] at = absurd at
within_at client seq zero (n ∷ names) at = omega arith
within_at client seq (suc i) (n ∷ names) at =
    omega (arith, within_at client seq i names at.1)

-- ---- what the calls need of it

pub in_ops :
    (ops : List Op) (names : List Name) (tags : List ℕ) (i : ℕ)
    → AreOf ops names tags → i < length names → i < length ops
in_ops ops names tags i are within =
    omega (arith, within, names_length ops names are.named)

pub in_tags :
    (ops : List Op) (names : List Name) (tags : List ℕ) (i : ℕ)
    → AreOf ops names tags → i < length names → i < length tags
in_tags ops names tags i are within =
    omega (arith, in_ops ops names tags i are within, are.tagged)

pub in_numbers :
    (ops : List Op) (names : List Name) (tags : List ℕ) (i : ℕ)
    → AreOf ops names tags → i < length names → i < 4000000000
in_numbers ops names tags i are within =
    omega (arith, in_ops ops names tags i are within, are.few)

if_some :
    (r : Option Op) (P : Op → Type 0) → ((op : Op) → r ≡ Some op → P op) → IfSome r P
if_some None P f = tt
if_some (Some op) P f = f op refl

is_none_of : (a : Option ℕ) → a ≡ None → IsNone a
is_none_of None e = refl
is_none_of (Some n) e = absurd cc

pub is_unanswered :
    (ops : List Op) (names : List Name) (tags : List ℕ) (i client seq place : ℕ)
    → AreOf ops names tags → IsOpen client seq place (operations_of ops names tags)
    → position (is_name client seq) names ≡ Some i
    → IfSome (slice_get ops i) (λ op. IsNone op.answered)
is_unanswered ops names tags i client seq place are opens found =
    if_some (slice_get ops i) (λ op. IsNone op.answered)
    (λ op e. is_none_of op.answered
    (open_at client seq place i op ops names tags are.named are.tagged opens
    (found_at client seq names i found) e).0)

pub is_earlier :
    (ops : List Op) (names : List Name) (tags : List ℕ) (i client seq place : ℕ)
    → AreOf ops names tags → IsOpen client seq place (operations_of ops names tags)
    → position (is_name client seq) names ≡ Some i
    → IfSome (slice_get ops i) (λ op. op.issued < place)
is_earlier ops names tags i client seq place are opens found =
    if_some (slice_get ops i) (λ op. op.issued < place)
    (λ op e. (open_at client seq place i op ops names tags are.named are.tagged opens
    (found_at client seq names i found) e).1)

-- the operation at a place below the length
op_at : (ops : List Op) (i : ℕ) → i < length ops → (op : Op) × (slice_get ops i ≡ Some op)
op_at [] i within = absurd (omega (arith, within))
op_at (op ∷ ops) zero within = (op, refl)
op_at (op ∷ ops) (suc i) within = op_at ops i (omega (arith, within))

from_if_some : (r : Option Op) (P : Op → Type 0) (op : Op) → IfSome r P → r ≡ Some op → P op
from_if_some None P op h e = absurd cc
from_if_some (Some x) P op h e = subst P (some_op x op e) h

pub answered_to :
    (fences : List AppliedFence) (ops ops' : List Op) (names : List Name) (tags : List ℕ)
    → (i client seq place version tag : ℕ) (content : Content) (op : Op)
    → AreOf ops names tags → position (is_name client seq) names ≡ Some i
    → Some op ≡ slice_get ops i → tag ≡ origin_of fences op.key version
    → IfSome (slice_get ops i) (λ op. ops' ≡ slice_set ops i (with_answer place content op))
    → operations_of ops' names (slice_set tags i tag)
    ≡ changed_at client seq (answered_as fences place version content)
    (operations_of ops names tags)
answered_to fences ops ops' names tags i client seq place version tag content op are found this
    goes set =
    let at = found_at client seq names i found in
    ap (λ t. operations_of ops' names (slice_set tags i t)) goes
    ∙ ap (λ os. operations_of os names (slice_set tags i (origin_of fences op.key version)))
    (from_if_some (slice_get ops i) (λ op. ops' ≡ slice_set ops i (with_answer place content op))
    op set (sym this))
    ∙ sym (changed_one client seq i (answered_as fences place version content) op
    (with_answer place content op) (origin_of fences op.key version) (λ q t. refl) ops names tags
    are.named are.tagged are.distinct at (sym this))

pub are_answered :
    (ops ops' : List Op) (names : List Name) (tags : List ℕ) (i client seq : ℕ)
    → (place tag : ℕ) (content : Content)
    → AreOf ops names tags → position (is_name client seq) names ≡ Some i
    → IfSome (slice_get ops i) (λ op. ops' ≡ slice_set ops i (with_answer place content op))
    → AreOf ops' names (slice_set tags i tag)
are_answered ops ops' names tags i client seq place tag content are found set =
    let at = found_at client seq names i found in
    let this = op_at ops i (in_ops ops names tags i are (within_at client seq i names at)) in
    let op = this.0 in
    let new = with_answer place content op in
    let are_set : AreOf (slice_set ops i new) names (slice_set tags i tag) =
    record {
      named = named_set op new i ops names are.named this.1 refl;
      tagged = length-set tags i tag ∙ are.tagged ∙ sym (length-set ops i new);
      distinct = are.distinct;
      few = subst (λ n. n ≤ 4000000000) (sym (length-set ops i new)) are.few;
    } in
    subst (λ os. AreOf os names (slice_set tags i tag))
    (sym (from_if_some (slice_get ops i)
    (λ op. ops' ≡ slice_set ops i (with_answer place content op)) op set this.1)) are_set

set_same : (ops : List Op) (i : ℕ) (op : Op) → slice_get ops i ≡ Some op → slice_set ops i op ≡ ops
set_same [] i op e = refl
set_same (p ∷ ops) zero op e = ap (λ x. x ∷ ops) (some_op op p (sym e))
set_same (p ∷ ops) (suc i) op e = ap (λ xs. p ∷ xs) (set_same ops i op e)

stamp_of_open :
    (version q t : ℕ) (op : Op) → is_none op.answered ≡ true
    → stamped_as version (record { op = op; seq = q; tag = t })
    ≡ record { op = op; seq = q; tag = version }
stamp_of_open version q t op e =
    ap (λ b. if b then (record { op = op; seq = q; tag = version })
    else (record { op = op; seq = q; tag = t })) e

pub stamped_to :
    (ops : List Op) (names : List Name) (tags : List ℕ) (i client seq : ℕ) (op : Op)
    → (version : ℕ)
    → AreOf ops names tags → position (is_name client seq) names ≡ Some i
    → Some op ≡ slice_get ops i → is_none op.answered ≡ true
    → operations_of ops names (slice_set tags i version)
    ≡ changed_at client seq (stamped_as version) (operations_of ops names tags)
stamped_to ops names tags i client seq op version are found this free =
    ap (λ os. operations_of os names (slice_set tags i version))
    (sym (set_same ops i op (sym this)))
    ∙ sym (changed_one client seq i (stamped_as version) op op version
    (λ q t. stamp_of_open version q t op free) ops names tags are.named are.tagged are.distinct
    (found_at client seq names i found) (sym this))

stamp_of_answered :
    (version q t : ℕ) (op : Op) → is_none op.answered ≡ false
    → stamped_as version (record { op = op; seq = q; tag = t })
    ≡ record { op = op; seq = q; tag = t }
stamp_of_answered version q t op e =
    ap (λ b. if b then (record { op = op; seq = q; tag = version })
    else (record { op = op; seq = q; tag = t })) e

not_none : (a : Option ℕ) → is_some a ≡ true → is_none a ≡ false
not_none None e = absurd cc
not_none (Some n) e = refl

changed_in_place :
    (client seq i : ℕ) (change : Operation → Operation) (op : Op)
    → ((q t : ℕ) → change (record { op = op; seq = q; tag = t })
    ≡ record { op = op; seq = q; tag = t })
    → (ops : List Op) (names : List Name) (tags : List ℕ)
    → are_named ops names ≡ true → length tags ≡ length ops → IsDistinct same_name names
    → IsAt client seq names i → slice_get ops i ≡ Some op
    → changed_at client seq change (operations_of ops names tags) ≡ operations_of ops names tags
changed_in_place client seq i change op keeps [] names tags named tagged apart at e = refl
changed_in_place client seq i change op keeps (p ∷ ops) [] tags named tagged apart at e =
    absurd cc
changed_in_place client seq i change op keeps (p ∷ ops) (n ∷ names) [] named tagged apart at e =
    absurd (omega (arith, tagged))
changed_in_place
    client seq zero change op keeps (p ∷ ops) (n ∷ names) (t ∷ tags) named tagged apart at e =
    let o : Operation = record { op = p; seq = n.seq; tag = t } in
    let same = and_left (p.client == n.client) (are_named ops names) named in
    let kept : change o ≡ o =
    subst (λ (x : Op). change (record { op = x; seq = n.seq; tag = t })
    ≡ record { op = x; seq = n.seq; tag = t }) (some_op op p (sym e)) (keeps n.seq t) in
    changed_head client seq change o (operations_of ops names tags)
    (named_as client seq p n t same ∙ at)
    ∙ ap (λ x. x ∷ changed_at client seq change (operations_of ops names tags)) kept
    ∙ ap (λ os. o ∷ os) (changed_none client seq change ops names tags
    (and_right (p.client == n.client) (are_named ops names) named)
    (less (length tags) (length ops) tagged)
    (others client seq n names at (IsDistinct-head same_name n names apart)))
changed_in_place
    client seq (suc i) change op keeps (p ∷ ops) (n ∷ names) (t ∷ tags) named tagged apart at e =
    let o : Operation = record { op = p; seq = n.seq; tag = t } in
    let same = and_left (p.client == n.client) (are_named ops names) named in
    kept_head client seq change o (operations_of ops names tags)
    (named_as client seq p n t same ∙ at.0)
    ∙ ap (λ os. o ∷ os) (changed_in_place client seq i change op keeps ops names tags
    (and_right (p.client == n.client) (are_named ops names) named)
    (less (length tags) (length ops) tagged) (IsDistinct-tail same_name n names apart) at.1 e)

pub answered_stays :
    (ops : List Op) (names : List Name) (tags : List ℕ) (i client seq : ℕ) (op : Op)
    → (version : ℕ)
    → AreOf ops names tags → position (is_name client seq) names ≡ Some i
    → Some op ≡ slice_get ops i → is_some op.answered ≡ true
    → operations_of ops names tags
    ≡ changed_at client seq (stamped_as version) (operations_of ops names tags)
answered_stays ops names tags i client seq op version are found this answered =
    sym (changed_in_place client seq i (stamped_as version) op
    (λ q t. stamp_of_answered version q t op (not_none op.answered answered)) ops names tags
    are.named are.tagged
    are.distinct (found_at client seq names i found) (sym this))

pub none_changed :
    (ops : List Op) (names : List Name) (tags : List ℕ) (client seq : ℕ)
    → (change : Operation → Operation)
    → AreOf ops names tags → list_any (is_name client seq) names ≡ false
    → operations_of ops names tags ≡ changed_at client seq change (operations_of ops names tags)
none_changed ops names tags client seq change are none =
    sym (changed_none client seq change ops names tags are.named are.tagged none)

pub are_tagged :
    (ops : List Op) (names : List Name) (tags : List ℕ) (i : ℕ) (version : ℕ)
    → AreOf ops names tags → AreOf ops names (slice_set tags i version)
are_tagged ops names tags i version are =
    record {
      named = are.named;
      tagged = length-set tags i version ∙ are.tagged;
      distinct = are.distinct;
      few = are.few;
    }

pub orders_kept :
    (ops : List Op) (names : List Name) (tags : List ℕ)
    → AreOf ops names tags
    → key_orders ops tags
    ≡ key_orders (map (λ o. o.op) (operations_of ops names tags))
    (map (λ o. o.tag) (operations_of ops names tags))
orders_kept ops names tags are =
    ap (λ xs. key_orders xs tags) (sym (ops_of ops names tags are.named are.tagged))
    ∙ ap (key_orders (map (λ o. o.op) (operations_of ops names tags)))
    (sym (tags_of ops names tags are.named are.tagged))
