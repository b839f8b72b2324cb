-- The history of a world, the tags, and the printed order of a key.
use Rattle.std.specs.Prelude.{ℕ, ◌+◌, ◌==◌, ◌&&◌, ◌||◌, nat_lt, if◌then◌else◌, Bool, List}
use Rattle.std.specs.Prelude.{[], ◌∷◌, map, filter, Option, Some, None, is_some}
use Rattle.std.specs.List.{list_any}
use Rattle.peg_protocol.specs.Core.{top}
use Rattle.peg_protocol.specs.Machine.{Act, Reads, Writes, is_read, is_write, Answer, Plan, Id}
use Rattle.peg_protocol.specs.Register.{Operation}

-- what is kept of the operations
pub record Book : Type 0 where
  pub plans : ℕ → ℕ → Plan
  pub answers : ℕ → ℕ → Option Answer
  pub stamps : ℕ → ℕ → ℕ
  pub log : List Id

pub record Tagged : Type 0 where
  pub op : Operation
  pub tag : ℕ

abbrev pub content_of : Option Answer → Option ℕ
content_of None = None
content_of (Some a) = a.content

-- the tag of an answered operation is the origin of its version
abbrev pub tag_of : Option Answer → Act → ℕ → ℕ
tag_of (Some a) act stamp = a.tag
tag_of None Reads stamp = 0
tag_of None (Writes x) stamp = stamp

abbrev pub answer_place : Option Answer → Option ℕ
answer_place None = None
answer_place (Some a) = Some a.place

abbrev pub op_of : Book → ℕ → Id → Operation
op_of w name i =
    record {
      name = name;
      client = i.client;
      key = (w.plans i.client i.seq).key;
      act = (w.plans i.client i.seq).act;
      issue = (w.plans i.client i.seq).issue;
      answer = answer_place (w.answers i.client i.seq);
      content = content_of (w.answers i.client i.seq);
    }

abbrev pub tagged : Book → ℕ → Id → Tagged
tagged w name i = record {
  op = op_of w name i;
  tag =
      tag_of (w.answers i.client i.seq) (w.plans i.client i.seq).act (w.stamps i.client i.seq);
}

abbrev pub tagged_from : Book → ℕ → List Id → List Tagged
tagged_from w n [] = []
tagged_from w n (i ∷ is) = tagged w n i ∷ tagged_from w (n + 1) is

abbrev pub all_tagged : Book → List Tagged
all_tagged w = tagged_from w 0 w.log

abbrev pub history : Book → List Operation
history w = map (λ t. t.op) (all_tagged w)

-- whether an answered read of the key has this tag
abbrev pub is_seen : ℕ → ℕ → Tagged → Bool
is_seen key tag t = t.op.key == key && (is_read t.op.act && (is_some t.op.answer && t.tag == tag))

abbrev pub is_printed : ℕ → List Tagged → Tagged → Bool
is_printed key all t =
    t.op.key == key &&
    (is_some t.op.answer ||
    (is_write t.op.act && (nat_lt 0 t.tag && list_any (is_seen key t.tag) all)))

-- writes before reads
abbrev pub kind : Act → ℕ
kind Reads = 1
kind (Writes x) = 0

-- the answer place, and one past all where there is none
abbrev pub place : Option ℕ → ℕ
place None = top + 1
place (Some p) = p

-- the first of two numbers that differ decides, and else the rest does
abbrev pub lesser : ℕ → ℕ → Bool → Bool
lesser a b otherwise = nat_lt a b || (a == b && otherwise)

-- by tag, then writes first, then answer place, then operation number
abbrev pub goes_first : Tagged → Tagged → Bool
goes_first a b =
    lesser a.tag b.tag (
    lesser (kind a.op.act) (kind b.op.act) (
    lesser (place a.op.answer) (place b.op.answer) (
    nat_lt a.op.name b.op.name)))

abbrev pub insert : Tagged → List Tagged → List Tagged
insert t [] = t ∷ []
insert t (r ∷ rs) = if goes_first t r then t ∷ r ∷ rs else r ∷ insert t rs

abbrev pub sort : List Tagged → List Tagged
sort [] = []
sort (t ∷ ts) = insert t (sort ts)

abbrev pub printed_tagged : ℕ → Book → List Tagged
printed_tagged key w = sort (filter (is_printed key (all_tagged w)) (all_tagged w))

abbrev pub printed : ℕ → Book → List Operation
printed key w = map (λ t. t.op) (printed_tagged key w)
