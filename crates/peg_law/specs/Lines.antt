-- The events that the lines of a schedule spell.
use Rattle.peg_name.specs.Name.{Rack}
use Rattle.peg_event.specs.declared.Event.{Event}
use Rattle.peg_model.specs.Schedule.{EventInRack, EventInRange}

abbrev pub IsLine : Rack → Event → Type 0
IsLine rack e = EventInRack rack e × EventInRange e
