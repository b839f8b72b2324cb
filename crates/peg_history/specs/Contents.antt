-- Contents that lie one behind the other.
--     bytes_in content, size_of content      its bytes, and how many they are: none where it is absent
--     content_at bytes span      the content that lies at a span of the bytes
--     IsWithin n span      the span ends within n bytes, and is no longer than a value
--     room_of contents      for how many more bytes there is memory
use Rattle.std.specs.Prelude.{ℕ, ◌+◌, ◌-◌, ◌≤◌, List, [], length, take, drop, if◌then◌else◌}
use Rattle.std.specs.Prelude.{vec_len, vec_capacity}
use Rattle.peg_name.specs.declared.value.Content.{Content}
use Rattle.peg_name.specs.declared.value.Content.TheVariants.{Absent, Present}
use Rattle.peg_history.specs.declared.contents.Contents.{Contents}
use Rattle.peg_history.specs.declared.contents.Span.{Span}

abbrev pub bytes_in : Content → List ℕ
bytes_in Absent = []
bytes_in (Present bytes) = bytes

abbrev pub size_of : Content → ℕ
size_of content = length (bytes_in content)

abbrev pub content_at : List ℕ → Span → Content
content_at bytes span =
    if span.is_present then Present (take span.len (drop span.from bytes)) else Absent

abbrev pub IsWithin : ℕ → Span → Type 0
IsWithin n span = (span.from + span.len ≤ n) × (span.len ≤ 1024)

abbrev pub room_of : Contents → ℕ
room_of contents = vec_capacity contents.bytes - vec_len contents.bytes
