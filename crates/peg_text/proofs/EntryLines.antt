-- The function that reads a line of a schedule reads an event or the end, and nothing else.
use Rattle.std.proofs.Common.{◌≡◌, Option, Some, None, ℕ, List, refl, ap, sym, subst}
use Rattle.std.specs.Prelude.{codes, IfSome}
use Rattle.std.specs.Str.{bytes_eq}
use Rattle.std.proofs.lemmas.Option.{same_Some}
use Rattle.peg_name.specs.Name.{Rack, InLimits}
use Rattle.peg_event.specs.declared.Event.{Event}
use Rattle.peg_model.specs.Schedule.{IsEventLine}
use Rattle.peg_text.specs.declared.event.Entry.{Entry}
use Rattle.peg_text.specs.declared.event.Entry.TheVariants as entry
use Rattle.peg_text.specs.Reading.{words_of}
use Rattle.peg_text.specs.Events.{event_in, entry_from, entry_of}
use Rattle.peg_text.specs.EntryLine.{IsEntryLine}
use Rattle.peg_text.proofs.Readers.{if_passed, from_bytes_eq}
use Rattle.peg_text.proofs.EventLines.{event_sound, event_complete}

module _ (rack : Rack) (limits : InLimits rack) (line : List ℕ) where
  pub reads_event :
      (e : Event) → IsEventLine rack line e → entry_of rack line ≡ Some (entry.Event e)
  reads_event e is = ap (λ o. entry_from o line) (event_complete rack limits line e is)

  pub reads_end : line ≡ codes "end" → entry_of rack line ≡ Some entry.End
  reads_end e = ap (entry_of rack) e

  from_sound :
      (o : Option Event) (r : Option Entry) → event_in rack (words_of line) ≡ o
      → r ≡ entry_from o line → IfSome r (IsEntryLine rack line)
  from_sound o None is e = tt
  from_sound None (Some r) is e =
      let passed = if_passed (bytes_eq line (codes "end")) (Some entry.End) r (sym e) in
      subst (λ (k : Entry). IsEntryLine rack line k) (same_Some entry.End r passed.1)
      (from_bytes_eq line (codes "end") passed.0)
  from_sound (Some event) (Some r) is e =
      subst (λ (k : Entry). IsEntryLine rack line k) (same_Some (entry.Event event) r (sym e))
      (event_sound rack limits line event is)

  pub reads_only : (r : Option Entry) → r ≡ entry_of rack line → IfSome r (IsEntryLine rack line)
  reads_only r e = from_sound (event_in rack (words_of line)) r refl e
