use Rattle.std.proofs.Common.{◌≡◌, ◌≤◌, ◌+◌, ◌++◌, length, take}
use Rattle.peg_world.proofs.nodes.Nodes.send.Given as goal

abbrev pub invariant-loop-i : goal.invariant-loop-i
invariant-loop-i l = record {
  format : l.soup.format ≡ l.initial.soup.format;
  items : l.soup.items ≡ l.initial.soup.items ++ take l.i l.self-inside.post.items;
  room : length l.self-inside.post.items ≤ l.soup.spare + l.i;
}
