use Rattle.peg_parts.proofs.Arriving.{old_between, repeated_again, more_missing, whole_with_the_last}
use Rattle.peg_parts.proofs.collects_a_sealed_state_in_any_order.Goals as goal

pub returns : goal.returns
returns c = record {
  old = λ rack own epoch sealed s c. old_between rack epoch sealed s c own;
  repeated = λ rack own epoch sealed s c. repeated_again rack epoch sealed s c own;
  more = λ rack own epoch sealed s c. more_missing rack epoch sealed s c own;
  whole = λ rack own epoch sealed s c. whole_with_the_last rack epoch sealed s c own;
}
