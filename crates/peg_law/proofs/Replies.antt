-- What a client is handed: the reply to its operation, and announcements.
use Rattle.std.proofs.Common.{◌≡◌, ◌<◌, ◌==◌, ◌&&◌, ℕ, Bool, true, false, not, List, [], ◌++◌}
use Rattle.std.proofs.Common.{cond, Option, Some, None, refl, sym, ap, ◌∙◌, nat_lt}
use Rattle.std.proofs.Common.{eq-eqb, ne_eqb, eqb-true}
use Rattle.std.proofs.lemmas.Bool.{eqb-false}
use Rattle.std.specs.Str.{bytes_eq}
use Rattle.peg_name.specs.declared.value.Content.{Content}
use Rattle.peg_name.specs.declared.value.Content.TheVariants.{Absent}
use Rattle.peg_event.specs.declared.answers.Ask.{Ask}
use Rattle.peg_event.specs.declared.answers.Ask.TheVariants as ask
use Rattle.peg_event.specs.declared.answers.Pending.{Pending}
use Rattle.peg_event.specs.declared.ClientDid.TheVariants as did
use Rattle.peg_model.specs.Words.{refuse}
use Rattle.peg_model.specs.Client as rules
use Rattle.peg_model.specs.Client.{Client, client_step, is_read_of, is_write_of, matches}
use Rattle.peg_model.specs.World.{World, client_of, with_client, client_stepped, changed_at}
use Rattle.peg_model.specs.World.{answered_as, origin_of}
use Rattle.peg_law.specs.Codes.{number_of, content_code, ask_code}
use Rattle.peg_law.specs.Mirrors.{Mirrors, ClientFits, PendingFits}
use Rattle.peg_law.proofs.Codes.{number_test}
use Rattle.peg_law.proofs.Histories.{history_answered}
use Rattle.peg_law.proofs.Nodes.{at_one_off, client_changes}
use Rattle.peg_law.proofs.ClientSteps.{quiet, client_idle, none_pending}
use Rattle.peg_protocol.specs.Core.{at_one, at_two}
use Rattle.peg_protocol.specs.Machine as machine
use Rattle.peg_protocol.specs.Machine.{Answer, Act}
use Rattle.peg_protocol.specs.System as system
use Rattle.peg_protocol.specs.System.{System, takes_reply, hears}

-- the origins of versions are the same
abbrev pub SameOrigins : World → System → Type 0
SameOrigins w s =
    (key : List ℕ) (version : ℕ)
    → machine.origin_of s.fences (number_of key) version ≡ origin_of w.fences key version

pub flip : (a b : ℕ) → (a == b) ≡ (b == a)
flip a b = by_test (a == b) refl
  where
    by_test : (t : Bool) → (a == b) ≡ t → t ≡ (b == a)
    by_test true e = sym (eq-eqb b a (sym (eqb-true a b e)))
    by_test false e = sym (ne_eqb b a (λ z. eqb-false a b e (sym z)))

read_kind : (k : Ask) → machine.is_read (ask_code k) ≡ rules.is_read k
read_kind ask.Read = refl
read_kind (ask.Write content) = refl

write_kind : (k : Ask) → machine.is_write (ask_code k) ≡ not (rules.is_read k)
write_kind ask.Read = refl
write_kind (ask.Write content) = refl

turned : (a b c d : Bool) → (b && (c && (d && a))) ≡ (a && (b && c && d))
turned true true true true = refl
turned true true true false = refl
turned true true false d = refl
turned true false c d = refl
turned false true true true = refl
turned false true true false = refl
turned false true false d = refl
turned false false c d = refl

at_place : (n i : ℕ) (f : ℕ → Bool) → (n == i && f n) ≡ (n == i && f i)
at_place n i f = by_test (n == i) refl
  where
    by_test : (t : Bool) → (n == i) ≡ t → (t && f n) ≡ (t && f i)
    by_test true e = ap f (eqb-true n i e)
    by_test false e = refl

-- both machines ask the same of a reply
same_test :
    (p : Pending) (c : Client) (own client seq issued planned : ℕ) (key : List ℕ) (kind a : Bool)
    → c.id ≡ own → p.seq ≡ issued → planned ≡ number_of p.key → kind ≡ a
    → (client == own && (seq == issued && (planned == number_of key && kind)))
    ≡ (a && matches c p client seq key)
same_test p c own client seq issued planned key kind a e1 e2 e3 e4 =
    ap (λ x. client == x && (seq == issued && (planned == number_of key && kind))) (sym e1)
    ∙ ap (λ x. client == c.id && (seq == x && (planned == number_of key && kind))) (sym e2)
    ∙ ap (λ x. client == c.id && (seq == p.seq && (x == number_of key && kind))) e3
    ∙ ap (λ x. client == c.id && (seq == p.seq && (number_of p.key == number_of key && x))) e4
    ∙ ap (λ x. client == c.id && (seq == p.seq && (x && a)))
    (flip (number_of p.key) (number_of key) ∙ number_test key p.key)
    ∙ turned a (client == c.id) (seq == p.seq) (bytes_eq key p.key)

module _ (keys : List (List ℕ)) (w : World) (s : System) (m : Mirrors keys w s)
    (origins : SameOrigins w s) (c : ℕ) (within : c < w.rack.clients) where
  abbrev own : Client
  own = client_of w c

  -- the client takes a reply to the operation of this number
  took :
      (n version : ℕ) (content : Content)
      → Mirrors keys
      (record (with_client w (record own { pending = None })) {
        packets = w.packets ++ [];
        operations = changed_at c n (answered_as w.fences w.place version content) w.operations;
      })
      (system.back s
      (machine.answered (system.ground s (s.cores 0)) c n version (content_code content)))
  took n version content =
      let a : Answer = record {
        place = s.place;
        version = version;
        content = content_code content;
        tag = machine.origin_of s.fences (s.plans c n).key version;
      } in
      let d : Client = record own { pending = None } in
      let changed =
      client_changes keys w s m c d s.client_switch s.client_epoch s.issued
      (at_one s.pending c false) s.plans (at_two s.answers c n (Some a)) s.stamps s.log
      (changed_at c n (answered_as w.fences w.place version content) w.operations) within
      (m.clients c).id_is (none_pending keys w s m c within) (λ j other. refl) (λ j other. refl)
      (λ j other. refl) (at_one_off s.pending c false) (λ j other. refl)
      (history_answered c n w.place version content w.fences a w.operations s.log s.issued
      s.plans s.answers s.stamps m.place
      (λ key e. ap (λ k. machine.origin_of s.fences k version) e ∙ origins key version)
      (λ e. refl) m.history) in
      quiet keys
      (record (with_client w d) {
        operations = changed_at c n (answered_as w.fences w.place version content) w.operations;
      })
      (record s {
        pending = at_one s.pending c false;
        answers = at_two s.answers c n (Some a);
      })
      changed

  pub took_read :
      (client n version : ℕ) (key : List ℕ) (content : Content) (o : Option Pending)
      → PendingFits o (s.pending c) (s.issued c) (s.plans c (s.issued c))
      → let step =
      cond (is_read_of o own client n key) (rules.answered own (did.Read n version content))
      (refuse own did.Ignored) in
      Mirrors keys (client_stepped w c step).0
      (takes_reply s c client n (number_of key) version machine.is_read (content_code content))
  took_read client n version key content None f = rw f (client_idle keys w s m c within)
  took_read client n version key content (Some p) f =
      let test =
      ap (λ x. client == c && x)
      (at_place n (s.issued c)
      (λ i. (s.plans c i).key == number_of key && machine.is_read (s.plans c i).act))
      ∙ same_test p own c client n (s.issued c) (s.plans c (s.issued c)).key key
      (machine.is_read (s.plans c (s.issued c)).act) (rules.is_read p.ask) (m.clients c).id_is
      f.1 f.2 (ap machine.is_read f.3 ∙ read_kind p.ask) in
      rw (f.0, test)
      (by_test (rules.is_read p.ask && matches own p client n key))
    where
      by_test :
          (b : Bool)
          → let step =
          cond b (rules.answered own (did.Read n version content)) (refuse own did.Ignored) in
          Mirrors keys (client_stepped w c step).0
          (cond b
          (system.back s
          (machine.answered (system.ground s (s.cores 0)) c n version (content_code content))) s)
      by_test true = took n version content
      by_test false = client_idle keys w s m c within

  pub took_write :
      (client n version : ℕ) (key : List ℕ) (o : Option Pending)
      → PendingFits o (s.pending c) (s.issued c) (s.plans c (s.issued c))
      → let step =
      cond (is_write_of o own client n key) (rules.answered own (did.Wrote n version))
      (refuse own did.Ignored) in
      Mirrors keys (client_stepped w c step).0
      (takes_reply s c client n (number_of key) version machine.is_write None)
  took_write client n version key None f = rw f (client_idle keys w s m c within)
  took_write client n version key (Some p) f =
      let test =
      ap (λ x. client == c && x)
      (at_place n (s.issued c)
      (λ i. (s.plans c i).key == number_of key && machine.is_write (s.plans c i).act))
      ∙ same_test p own c client n (s.issued c) (s.plans c (s.issued c)).key key
      (machine.is_write (s.plans c (s.issued c)).act) (not (rules.is_read p.ask))
      (m.clients c).id_is f.1 f.2 (ap machine.is_write f.3 ∙ write_kind p.ask) in
      rw (f.0, test)
      (by_test (not (rules.is_read p.ask) && matches own p client n key))
    where
      by_test :
          (b : Bool)
          → let step =
          cond b (rules.answered own (did.Wrote n version)) (refuse own did.Ignored) in
          Mirrors keys (client_stepped w c step).0
          (cond b
          (system.back s (machine.answered (system.ground s (s.cores 0)) c n version None)) s)
      by_test true = took n version Absent
      by_test false = client_idle keys w s m c within

  -- an announcement
  pub moved :
      (epoch switch : ℕ) → switch < w.rack.switches
      → let step =
      cond (nat_lt own.epoch epoch)
      (record {
        state = record own { switch = switch; epoch = epoch };
        sent = [];
        did = did.Moved switch epoch;
      })
      (refuse own did.Ignored) in
      Mirrors keys (client_stepped w c step).0 (hears s c epoch switch)
  moved epoch switch in_rack =
      let f = m.clients c in
      rw f.epoch_is
      (by_test (nat_lt own.epoch epoch))
    where
      moved_client :
          ClientFits w.rack c (record own { switch = switch; epoch = epoch })
          (at_one s.client_switch c switch c) (at_one s.client_epoch c epoch c) (s.issued c)
          (s.pending c) (s.plans c (s.issued c))
      moved_client =
          let f = m.clients c in
          rw (eq-eqb c c refl)
          (record {
            id_is = f.id_is;
            next_is = f.next_is;
            most = f.most;
            switch_is = refl;
            in_rack = in_rack;
            epoch_is = refl;
            pending_is = f.pending_is;
          })

      by_test :
          (b : Bool)
          → let step =
          cond b
          (record {
            state = record own { switch = switch; epoch = epoch };
            sent = [];
            did = did.Moved switch epoch;
          })
          (refuse own did.Ignored) in
          Mirrors keys (client_stepped w c step).0
          (cond b
          (record s {
            client_epoch = at_one s.client_epoch c epoch;
            client_switch = at_one s.client_switch c switch;
          }) s)
      by_test true =
          let d : Client = record own { switch = switch; epoch = epoch } in
          quiet keys (with_client w d)
          (record s {
            client_epoch = at_one s.client_epoch c epoch;
            client_switch = at_one s.client_switch c switch;
          })
          (client_changes keys w s m c d (at_one s.client_switch c switch)
          (at_one s.client_epoch c epoch) s.issued s.pending s.plans s.answers s.stamps s.log
          w.operations within (m.clients c).id_is moved_client (at_one_off s.client_switch c switch)
          (at_one_off s.client_epoch c epoch) (λ j other. refl) (λ j other. refl)
          (λ j other. refl) m.history)
      by_test false = client_idle keys w s m c within
