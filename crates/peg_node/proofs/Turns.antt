-- What a node that takes turns makes of one, as its meaning has it.
use Rattle.std.proofs.Common.{◌≡◌, ◌+◌, ◌-◌, ◌++◌, ℕ, List, [], map, ap, sym, ◌∙◌}
use Rattle.peg_name.specs.declared.Node.{Node}
use Rattle.peg_model.specs.Packet.{Packet}
use Rattle.peg_model.specs.Datagrams.{spelled}
use Rattle.peg_meaning.specs.Session.{Datagram, Quiet, Goes, Came, letter_to}
use Rattle.peg_meaning.specs.Roles.{Serving, serves}
use Rattle.peg_packet.specs.Outbox.{Outbox, posted}

module _ {N : Type 0} (turn : N → List ℕ → ℕ → N × List (Node × Packet)) (s : Serving N) where
  pub datagram_serves :
      (n : N) (bytes : List ℕ) (items : List (Node × List ℕ))
      → n ≡ (turn s.node bytes s.datagrams).0
      → items ≡ spelled s.format (turn s.node bytes s.datagrams).1
      → (serves turn).on s (Datagram bytes)
      ≡ Goes (record {
        state = record s { node = n; left = s.left - 1; datagrams = s.datagrams + 1 };
        text = [];
        binds = [];
        letters = map (letter_to 0 s.base) items;
      })
  datagram_serves n bytes items after sent =
      let F : N → List (Node × List ℕ) → Came (Serving N) =
      λ k xs. record {
        state = record s { node = k; left = s.left - 1; datagrams = s.datagrams + 1 };
        text = [];
        binds = [];
        letters = map (letter_to 0 s.base) xs;
      } in
      ap (λ k. Goes (F k (spelled s.format (turn s.node bytes s.datagrams).1))) (sym after)
      ∙ ap (λ (xs : List (Node × List ℕ)). Goes (F n xs)) (sym sent)

  pub pause_serves :
      (items : List (Node × List ℕ)) → items ≡ []
      → (serves turn).on s Quiet
      ≡ Goes (record {
        state = record s { left = s.left - 1 };
        text = [];
        binds = [];
        letters = map (letter_to 0 s.base) items;
      })
  pause_serves items none =
      ap
      (λ (xs : List (Node × List ℕ)). Goes (record {
        state = record s { left = s.left - 1 };
        text = [];
        binds = [];
        letters = map (letter_to 0 s.base) xs;
      }))
      (sym none)

-- what an empty outbox then holds
pub items_posted :
    (before cleared after : Outbox) (sent : List (Node × Packet))
    → cleared ≡ record before { items = [] } → after ≡ posted cleared sent
    → after.items ≡ spelled before.format sent
items_posted before cleared after sent empty posts =
    ap (λ (o : Outbox). o.items) posts
    ∙ ap (λ (o : Outbox). o.items ++ spelled o.format sent) empty
