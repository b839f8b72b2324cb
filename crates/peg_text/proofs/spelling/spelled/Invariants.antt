use Rattle.std.proofs.Common.{◌≡◌, ◌-◌, ◌≤◌, ◌++◌, length, take, option_map}
use Rattle.peg_text.specs.Reading.{spelled}
use Rattle.peg_text.proofs.spelling.spelled.Given as goal

-- the bytes so far and those that the rest spells are those of the word
abbrev pub invariant-loop-rest : goal.invariant-loop-rest
invariant-loop-rest l = record {
  few : l.count ≤ l.most;
  held : length (take l.count l.room) ≡ l.count;
  whole :
      option_map (λ bytes. take l.count l.room ++ bytes)
      (spelled l.form (l.most - length (take l.count l.room)) l.rest)
      ≡ spelled l.form l.most l.initial.rest;
}

abbrev pub decreases-loop-rest : goal.decreases-loop-rest
decreases-loop-rest l = l.most - l.count
