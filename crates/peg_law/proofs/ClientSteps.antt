-- Each step of a client is one of the protocol machine.
use Rattle.std.proofs.Common.{◌≡◌, ◌≢◌, ◌<◌, ◌+◌, ◌==◌, ℕ, Bool, true, false, List, [], ◌∷◌, ◌++◌}
use Rattle.std.proofs.Common.{cond, Option, Some, None, refl, sym, ap, ◌∙◌, subst}
use Rattle.std.proofs.Common.{arith, append-nil, eq-eqb, ne_eqb}
use Rattle.std.proofs.lemmas.Bool.{eqb-false}
use Rattle.peg_name.specs.Name.{Rack, IsKey}
use Rattle.peg_name.specs.declared.Node.TheVariants as node
use Rattle.peg_event.specs.declared.answers.Ask.{Ask}
use Rattle.peg_event.specs.declared.answers.Ask.TheVariants as ask
use Rattle.peg_event.specs.declared.answers.Issue.TheVariants as issue
use Rattle.peg_event.specs.declared.answers.Pending.{Pending}
use Rattle.peg_event.specs.declared.Line.{Line}
use Rattle.peg_model.specs.Words.{last_number, refuse}
use Rattle.peg_model.specs.Client as client
use Rattle.peg_model.specs.Client.{Client, request_of, begin_unless, begin_operation, resend_of}
use Rattle.peg_model.specs.Client.{give_up_of, client_step, awaits_read, awaits_write, is_read_of}
use Rattle.peg_model.specs.Client.{is_write_of, matches}
use Rattle.peg_model.specs.World.{World, Operation, client_of, with_client, reports, new_op}
use Rattle.peg_model.specs.World.{after_issue, issues, issue_said, resends, gives_up}
use Rattle.peg_law.specs.Codes.{number_of, content_code, ask_code}
use Rattle.peg_law.specs.Mirrors.{Mirrors, ClientFits, PendingFits, ItemFits}
use Rattle.peg_law.proofs.Histories.{IsNew, history_begun}
use Rattle.peg_law.proofs.Nodes.{at_one_off, at_two_off, posted, client_changes}
use Rattle.peg_protocol.specs.Core.{at_one, at_two, top}
use Rattle.peg_protocol.specs.Packet as law
use Rattle.peg_protocol.specs.Machine as machine
use Rattle.peg_protocol.specs.Machine.{Plan, Answer, Id, id}
use Rattle.peg_protocol.specs.System as system
use Rattle.peg_protocol.specs.System.{System, Event, happens_at}

-- one event of the protocol machine leads to what the line leads to
abbrev pub Follows : List (List ℕ) → System → World × Line → Type 0
Follows keys s r = (e : Event) × Mirrors keys r.0 (happens_at s e)

pub quiet : (keys : List (List ℕ)) (w : World) (s : System) → Mirrors keys w s
    → Mirrors keys (record w { packets = w.packets ++ [] }) s
quiet keys w s m =
    subst (λ ps. Mirrors keys (record w { packets = ps }) s) (sym (append-nil w.packets)) m

pub top_is : top ≡ last_number
unfolding top
top_is = refl

-- ---- requests

pub request_fits :
    (rack : Rack) (switch a id c seq n : ℕ) (key : List ℕ) (k : Ask) → a ≡ switch
    → switch < rack.switches → id ≡ c → c < rack.clients → seq ≡ n → IsKey key
    → ItemFits rack (node.Switch switch, request_of id seq key k)
    (law.item (law.Switch a) (machine.request c n (number_of key) (ask_code k)))
request_fits rack switch a id c seq n key ask.Read e in_rack f within g is_key =
    record {
      sent = (in_rack, omega (arith, f, within), is_key);
      to = ap law.Switch e;
      packet =
          ap (λ i. law.Read i n (number_of key)) (sym f)
          ∙ ap (λ q. law.Read id q (number_of key)) (sym g);
    }
request_fits rack switch a id c seq n key (ask.Write content) e in_rack f within g is_key =
    record {
      sent = (in_rack, omega (arith, f, within), is_key);
      to = ap law.Switch e;
      packet =
          ap (λ i. law.Write i n (number_of key) (content_code content)) (sym f)
          ∙ ap (λ q. law.Write id q (number_of key) (content_code content)) (sym g);
    }

module _ (keys : List (List ℕ)) (w : World) (s : System) (m : Mirrors keys w s) (c : ℕ)
    (within : c < w.rack.clients) where
  abbrev now : Client
  now = client_of w c

  -- nothing of the client changes
  pub client_idle : Mirrors keys (record (with_client w now) { packets = w.packets ++ [] }) s
  client_idle =
      quiet keys (with_client w now) s
      (client_changes keys w s m c now s.client_switch s.client_epoch s.issued s.pending s.plans
      s.answers s.stamps s.log w.operations within (m.clients c).id_is (m.clients c)
      (λ j other. refl) (λ j other. refl) (λ j other. refl) (λ j other. refl) (λ j other. refl)
      m.history)

  -- ---- an operation begins

  new_is :
      (key : List ℕ) (k : Ask)
      → IsNew (record { op = new_op c key k w.place; seq = now.next; tag = 0 }) c (s.issued c + 1)
      (record { key = number_of key; act = ask_code k; issue = s.place })
  new_is key ask.Read =
      record {
        client = refl;
        seq = (m.clients c).next_is;
        plan = ap (λ i. record { key = number_of key; act = machine.Reads; issue = i }) m.place;
        answered = refl;
        tag = refl;
      }
  new_is key (ask.Write content) =
      record {
        client = refl;
        seq = (m.clients c).next_is;
        plan =
            ap
            (λ i.
            record { key = number_of key; act = machine.Writes (content_code content); issue = i })
            m.place;
        answered = refl;
        tag = refl;
      }

  begun_client :
      (key : List ℕ) (k : Ask) → now.next ≢ last_number → IsKey key
      → ClientFits w.rack c
      (record now {
        next = now.next + 1;
        pending = Some (record { seq = now.next; key = key; ask = k });
      })
      (s.client_switch c) (s.client_epoch c) (at_one s.issued c (s.issued c + 1) c)
      (at_one s.pending c true c)
      (at_two s.plans c (s.issued c + 1)
      (record { key = number_of key; act = ask_code k; issue = s.place }) c
      (at_one s.issued c (s.issued c + 1) c))
  begun_client key k left is_key =
      let f = m.clients c in
      let next = f.next_is in
      let most = f.most in
      rw (eq-eqb c c refl)
      (rw (eq-eqb (s.issued c + 1) (s.issued c + 1) refl)
      (record {
        id_is = f.id_is;
        next_is = omega (arith, next);
        most = omega (arith, most, left);
        switch_is = f.switch_is;
        in_rack = f.in_rack;
        epoch_is = f.epoch_is;
        pending_is = (refl, next, refl, refl, is_key);
      }))

  begun_both :
      (key : List ℕ) (k : Ask) → now.next ≢ last_number → IsKey key
      → Mirrors keys
      (record (with_client w
      (record now {
        next = now.next + 1;
        pending = Some (record { seq = now.next; key = key; ask = k });
      })) {
        packets =
            w.packets
            ++ (node.Switch now.switch, request_of now.id now.next key k) ∷ [];
        operations =
            w.operations
            ++ record { op = new_op c key k w.place; seq = now.next; tag = 0 } ∷ [];
      })
      (system.back s
      (machine.began (system.ground s (s.cores 0)) (s.client_switch c) c (s.issued c + 1)
      (number_of key) (ask_code k)))
  begun_both key k left is_key =
      let f = m.clients c in
      let p : Pending = record { seq = now.next; key = key; ask = k } in
      let d : Client = record now { next = now.next + 1; pending = Some p } in
      let n = s.issued c + 1 in
      let plan : Plan = record { key = number_of key; act = ask_code k; issue = s.place } in
      let o : Operation = record { op = new_op c key k w.place; seq = now.next; tag = 0 } in
      let changed =
      client_changes keys w s m c d s.client_switch s.client_epoch (at_one s.issued c n)
      (at_one s.pending c true) (at_two s.plans c n plan) (at_two s.answers c n None)
      (at_two s.stamps c n 0) (s.log ++ id c n ∷ []) (w.operations ++ o ∷ []) within f.id_is
      (begun_client key k left is_key) (λ j other. refl) (λ j other. refl)
      (at_one_off s.issued c n) (at_one_off s.pending c true) (at_two_off s.plans c n plan)
      (history_begun c n plan o w.operations s.log s.issued s.plans s.answers s.stamps refl
      (new_is key k) m.history) in
      posted keys (record (with_client w d) { operations = w.operations ++ o ∷ [] })
      (record s {
        issued = at_one s.issued c n;
        pending = at_one s.pending c true;
        plans = at_two s.plans c n plan;
        answers = at_two s.answers c n None;
        stamps = at_two s.stamps c n 0;
        log = s.log ++ id c n ∷ [];
      })
      changed ((node.Switch now.switch, request_of now.id now.next key k) ∷ [])
      (law.item (law.Switch (s.client_switch c)) (machine.request c n (number_of key) (ask_code k))
      ∷ []) (
        request_fits w.rack now.switch (s.client_switch c) now.id c now.next n key k f.switch_is
            f.in_rack f.id_is within f.next_is is_key,
        tt,
      )

  begins :
      (key : List ℕ) (k : Ask) (o : Option Pending) → IsKey key
      → PendingFits o (s.pending c) (s.issued c) (s.plans c (s.issued c))
      → let step = begin_unless o now key k in
      Follows keys s
      (reports (after_issue (with_client w step.state) (new_op c key k w.place) step.did) step.sent
      (issue_said c k step.did))
  begins key k (Some p) is_key f = (system.Rest, client_idle)
  begins key k None is_key f =
      by_test (now.next == last_number) refl
    where
      by_test :
          (b : Bool) → (now.next == last_number) ≡ b
          → let p : Pending = record { seq = now.next; key = key; ask = k } in
          let step =
          (cond b (refuse now issue.Spent)
          (record {
            state = record now { next = now.next + 1; pending = Some p };
            sent = client.request now p;
            did = issue.Sent now.next;
          })) in
          Follows keys s
          (reports (after_issue (with_client w step.state) (new_op c key k w.place) step.did)
          step.sent (issue_said c k step.did))
      by_test true e = (system.Rest, client_idle)
      by_test false e =
          let left : now.next ≢ last_number = eqb-false now.next last_number e in
          let spent : (s.issued c == top) ≡ false =
          ne_eqb (s.issued c) top
          (λ z.
          let n = (m.clients c).next_is in let most = (m.clients c).most in
          omega (arith, z, n, most, left, top_is)) in (
            system.Issue c (number_of key) (ask_code k),
            rw (f, spent) (begun_both key k left is_key),
          )

  pub issued : (key : List ℕ) (k : Ask) → IsKey key → Follows keys s (issues w c key k)
  issued key k is_key = begins key k now.pending is_key (m.clients c).pending_is

  -- ---- again, and given up

  again :
      (o : Option Pending)
      → PendingFits o (s.pending c) (s.issued c) (s.plans c (s.issued c)) → now.pending ≡ o
      → let step = resend_of o now in
      (e : Event)
      × Mirrors keys
      (record (with_client w step.state) { packets = w.packets ++ step.sent })
      (happens_at s e)
  again (Some p) f e =
      let g = m.clients c in
      let idle =
      client_changes keys w s m c now s.client_switch s.client_epoch s.issued s.pending s.plans
      s.answers s.stamps s.log w.operations within (m.clients c).id_is (m.clients c)
      (λ j other. refl) (λ j other. refl) (λ j other. refl) (λ j other. refl) (λ j other. refl)
      m.history in
      let sent =
      posted keys (with_client w now) s idle (client.request now p)
      (law.item (law.Switch (s.client_switch c))
      (machine.request c (s.issued c) (number_of p.key) (ask_code p.ask)) ∷ []) (
        request_fits w.rack now.switch (s.client_switch c) now.id c p.seq (s.issued c) p.key p.ask
            g.switch_is g.in_rack g.id_is within f.1 f.4,
        tt,
      ) in (
        system.Resend c,
        rw (f.0, f.2, f.3) sent,
      )
  again None f e = (system.Resend c, rw f client_idle)

  pub resent : Follows keys s (resends w c)
  resent = again now.pending (m.clients c).pending_is refl

  pub none_pending :
      ClientFits w.rack c (record now { pending = None }) (s.client_switch c) (s.client_epoch c)
      (s.issued c) (at_one s.pending c false c) (s.plans c (s.issued c))
  none_pending =
      let f = m.clients c in
      rw (eq-eqb c c refl)
      (record {
        id_is = f.id_is;
        next_is = f.next_is;
        most = f.most;
        switch_is = f.switch_is;
        in_rack = f.in_rack;
        epoch_is = f.epoch_is;
        pending_is = refl;
      })

  given_up :
      (o : Option Pending)
      → PendingFits o (s.pending c) (s.issued c) (s.plans c (s.issued c))
      → let step = give_up_of o now in
      (e : Event)
      × Mirrors keys
      (record (with_client w step.state) { packets = w.packets ++ step.sent })
      (happens_at s e)
  given_up (Some p) f =
      let d : Client = record now { pending = None } in (
        system.GiveUp c,
        quiet keys (with_client w d) (record s { pending = at_one s.pending c false })
            (client_changes keys w s m c d s.client_switch s.client_epoch s.issued
            (at_one s.pending c false) s.plans s.answers s.stamps s.log w.operations within
            (m.clients c).id_is none_pending (λ j other. refl) (λ j other. refl) (λ j other. refl)
            (at_one_off s.pending c false) (λ j other. refl) m.history),
      )
  given_up None f = (system.Rest, client_idle)

  pub gave_up : Follows keys s (gives_up w c)
  gave_up = given_up now.pending (m.clients c).pending_is
